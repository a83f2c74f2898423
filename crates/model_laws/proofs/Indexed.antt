-- Splits, cuts of triangles, cracks and the removal of straddlers keep every index and root: what refusal 3 checks holds of their results. Assumes nothing.
use mathlib.Core.Path.{◌≡◌, refl, sym, ◌∙◌, ap, subst}
use mathlib.Core.Bool.{Bool, true, false, not}
use mathlib.Core.Logic.{⊎_elim}
use mathlib.Core.List.{List, [], ◌∷◌, ◌++◌, map}
use mathlib.Core.Option.{Option, none as nothing, some}
use Prim.Native.Nat.{ℕ, suc, ◌+◌, ◌-◌, ◌<◌, ◌≤◌, max}
use native.Mathlib.Omega.{arith}
use native.Mathlib.Decide.{ℕ_discrete}
use borrow.Author.Tests.{eq-eqb, ne_eqb}
use lib.Dec.{eqb}
use lib.ListN.{length, get_or}
use lib.Ieee.{Float, neg, lt}
use Rattle.lists.specs.Lists.{pick, stands, all, sift, find, fold, each, pairs, map_at_of, tab, up_to, rising, head_or, rest, empty}
use Rattle.lists.specs.Labels.{replaced}
use Rattle.float.specs.Numbers.{largest}
use Rattle.blade.specs.declared.Point.{Point}
use Rattle.lists.proofs.Stores.{replaced_case}
use Rattle.fan.specs.Groups.{groups_of}
use Rattle.model.specs.Mesh.{Particle, Triangle, Edge, Side, Mesh, blank, blank_triangle}
use Rattle.model.specs.Elements.{Kind, Triangles, Straps, Nothing, Element, ends_of, side_ends, far_end_of, besides, triangles_from, element?, elements_of, fan_of, grid_of}
use Rattle.model.specs.Run.{Entry, Run, step_to, splits_of}
use Rattle.model.specs.Split.{Part, Opening, opening_of, splits?, copy_of, portion, only_at, copied, group_at_of, retargeted, moved, rewired_triangles, rewired_straps, ring, Best, better, score_of, scored, toward, edge_groups, other?, calm, stayed, doubled, other_edges, straddles, part_group, side_group, turned, followed, sides_round, faces_of, one_or_none, on_facet, face_on, opens?, facets_at, crack_facets, at_longest, settled, split_made, split_step, split_by_sides_of}
use Rattle.model.specs.Pieces.{straddlers_gone, without_straddlers, remove_straddlers_of}
use Rattle.model.specs.Cut.{Blade, blade_sides, split_by_blade, split_free, pinched, split_pinched_of, candidates, cut_facets_of, slack, slackened, at_copy, split_snapped_of}
use Rattle.model.specs.Crack.{Way, far_side, two_sided_of, mean_load, way_at, ways_of, hurt, damaged_at, torn, crack_by, crack_pair, crack_edge, current_pair, loads_of, torn_ends, crack}
use Rattle.model.specs.Trace.{All, Different, Sound}
use Rattle.model_laws.proofs.Rows.{Pair, pair_to, three_from, different_wide}
use Rattle.model_laws.proofs.Traced.{Fitting, opening_fits, order_fits, splits_here, copied_length, at_below, apart, inside, row_step, sound_step}
use Rattle.model_laws.proofs.Laws.{false_true, pick_both, all_at, all_over, all_append, all_map_at, pick_one, all_in, all_yes, all_map, all_each_of, all_sift, all_up_to, all_pairs, all_rest, all_head, all_else, length_map_at, Found, find_fits, stands_case}
use Rattle.model_laws.proofs.Traced.{parts_all, Any, all_any}
use Rattle.lists.proofs.Sifts.{and_true}

-- ---- what refusal 3 checks

pub record Indexed (M : Mesh) : Type 0 where
  pub roots : All (λ (p : Particle). p.root < length M.particles) M.particles
  pub triangles : All (Sound (length M.particles)) M.triangles
  pub edges : All (λ (e : Edge). Pair (length M.particles) e.a e.b) M.edges
  pub boundary : All (λ (s : Side). Different 2 (length M.particles) s.corners) M.boundary

-- ---- lists

-- ---- groups lie below the count

module _ (O : Opening) (two : 2 ≤ O.count) (below : All (λ (p : Part). p.group < O.count) O.fan) where
  ring_below : (x : ℕ) → All (λ g. g < O.count) (ring O x)
  unfolding ring rising up_to
  ring_below x = all_sift (λ g. g < O.count) _ (tab O.count (λ k. k)) (all_up_to O.count O.count (λ k. k) (λ i u. u))

  abbrev Good : Best → Type 0
  Good b = b.group < O.count

  scored_good : (M : Mesh) (dir : Point) (p : Part) → p.group < O.count → (l : List ℕ) (b : Best) → Good b → Good (fold (λ (c : Best) w. better c (score_of M O.v dir w) p.group) b l)
  unfolding fold
  scored_good M dir p u [] b g = g
  scored_good M dir p u (w ∷ l) b g =
      scored_good M dir p u l (better b (score_of M O.v dir w) p.group) (pick_both Good (lt b.score (score_of M O.v dir w)) (record { score = score_of M O.v dir w; group = p.group }) b u g)

  fan_good : (M : Mesh) (dir : Point) (ps : List Part) → All (λ (p : Part). p.group < O.count) ps → (b : Best) → Good b → Good (fold (scored M O.v dir) b ps)
  unfolding fold scored
  fan_good M dir [] h b g = g
  fan_good M dir (p ∷ ps) h b g = fan_good M dir ps h.1 (scored M O.v dir b p) (scored_good M dir p h.0 (besides O.v p.corners) b g)

  toward_below : (M : Mesh) (x : ℕ) → toward M O x < O.count
  unfolding toward
  toward_below M x = fan_good M _ O.fan below (record { score = neg largest; group = 0 }) (omega arith)

  edge_below : (M : Mesh) (x : ℕ) → All (λ g. g < O.count) (edge_groups M O x)
  unfolding edge_groups
  edge_below M x = all_else (λ g. g < O.count) (ring O x) (toward M O x ∷ []) (ring_below x) (toward_below M x, tt)

  side_below : (M : Mesh) (s : Side) → side_group M O s < O.count
  unfolding side_group
  side_below M s = by (find (λ (p : Part). all (λ x. stands x p.corners) (side_ends s)) O.fan) (find_fits (λ (p : Part). p.group < O.count) _ O.fan below)
    where
      by : (o : Option Part) → Found (λ (p : Part). p.group < O.count) o → part_group o (toward M O (head_or O.v (besides O.v s.corners))) < O.count
      by nothing h = toward_below M _
      by (some p) h = h

-- ---- pairs

replaced_same : (v x : ℕ) → replaced v v x ≡ x
replaced_same v x = ⊎_elim (λ d. d.1 ∙ sym d.0) (λ d. d.1) (replaced_case v v x)

replaced_not : (v w x : ℕ) → (w ≡ v → ⊥) → replaced v w x ≡ v → ⊥
replaced_not v w x n e = ⊎_elim (λ d. n (sym d.1 ∙ e)) (λ d. d.0 (sym d.1 ∙ e)) (replaced_case v w x)

abbrev pub Ends : ℕ → Edge → Type 0
Ends n e = Pair n e.a e.b

abbrev pub Sides : ℕ → Side → Type 0
Sides n s = Different 2 n s.corners

pub wide : (n k a b : ℕ) → Pair n a b → Pair (n + k) a b
wide n k a b P = record { first = let h = P.first in omega arith; second = let h = P.second in omega arith; differ = P.differ }

pub sound_wide : (n k : ℕ) (t : Triangle) → Sound n t → Sound (n + k) t
sound_wide n k t S = different_wide 3 n k t.corners S

-- ---- one split

module _ (O : Opening) (two : 2 ≤ O.count) (low : O.v < O.before) (below : All (λ (p : Part). p.group < O.count) O.fan) where
  -- the particles behind it
  after : ℕ
  after = O.before + (O.count - 1)

  pair_step : (g a b : ℕ) → g < O.count → Pair O.before a b → Pair after (replaced O.v (copy_of O g) a) (replaced O.v (copy_of O g) b)
  unfolding after
  pair_step g a b u P =
      let l : g < suc (O.count - 1) = omega arith in
      record {
        first = inside O.before O.v (O.count - 1) g low l a P.first;
        second = inside O.before O.v (O.count - 1) g low l b P.second;
        differ = apart O.before O.v (O.count - 1) g low l a b P.first P.second P.differ;
      }

  -- an edge behind the elements' turn: a pair of all particles, and one of the old if v still is an end
  abbrev Turned : Edge → Type 0
  Turned e = Ends after e × (stands O.v (ends_of e) ≡ true → Ends O.before e)

  moved_turned : (g : ℕ) → g < O.count → (e : Edge) → Ends O.before e → Turned (moved O.v (copy_of O g) e)
  moved_turned g u e P = (
    pair_step g e.a e.b u P,
    λ s.
        elim (ℕ_discrete g 0) [
          | yes d ↦ rw (eq-eqb g 0 d, replaced_same O.v e.a, replaced_same O.v e.b) P
          | no m ↦
              let w : copy_of O g ≡ O.v → ⊥ = λ d. let h : O.before + g - 1 ≡ O.v = sym (rw (ne_eqb g 0 m)) ∙ d in omega arith in
              absurd
              (⊎_elim (λ d. replaced_not O.v (copy_of O g) e.a w d)
              (λ d. ⊎_elim (λ f. replaced_not O.v (copy_of O g) e.b w f) (λ f. false_true f) (stands_case O.v (replaced O.v (copy_of O g) e.b) [] d))
              (stands_case O.v (replaced O.v (copy_of O g) e.a) (replaced O.v (copy_of O g) e.b ∷ []) s))
        ],
  )

  group_below : (i : ℕ) → group_at_of O.fan i < O.count
  group_below i = let h = at_below O.count O.fan i (all_over (λ (p : Part). p.group < O.count) (λ (p : Part). p.group < max O.count 1) (λ p u. omega arith) O.fan below) in omega arith

  straps_turned : (k : Kind) (es : List Edge) → All (Ends O.before) es → All Turned (rewired_straps k O es)
  unfolding rewired_straps after
  straps_turned Triangles es h = all_over (Ends O.before) Turned (λ e P. (wide _ _ e.a e.b P, λ s. P)) es h
  straps_turned Straps es h = all_map_at (Ends O.before) Turned (λ i. moved O.v (copy_of O (group_at_of O.fan i))) (λ i e P. moved_turned (group_at_of O.fan i) (group_below i) e P) es h
  straps_turned Nothing es h = all_over (Ends O.before) Turned (λ e P. (wide _ _ e.a e.b P, λ s. P)) es h

  at_v : (k : Kind) (e : Edge) → other? k O e ≡ true → stands O.v (ends_of e) ≡ true
  at_v k e d = (and_true (not (element? k e)) (stands O.v (ends_of e)) d).1

  stayed_ends : (k : Kind) (M : Mesh) (e : Edge) → Turned e → Ends after (stayed k M O e)
  unfolding stayed
  stayed_ends k M e P = by (other? k O e) refl
    where
      by : (b : Bool) → other? k O e ≡ b → Ends after (pick b (moved O.v (copy_of O (head_or 0 (edge_groups M O (far_end_of O.v e)))) e) e)
      by true d = pair_step (head_or 0 (edge_groups M O (far_end_of O.v e))) e.a e.b (all_head (λ g. g < O.count) 0 (edge_groups M O (far_end_of O.v e)) (omega arith) (edge_below O two below M (far_end_of O.v e))) (P.1 (at_v k e d))
      by false d = P.0

  doubled_ends : (k : Kind) (M : Mesh) (e : Edge) → Turned e → All (Ends after) (doubled k M O e)
  unfolding doubled
  doubled_ends k M e P = by (other? k O e) refl
    where
      by : (b : Bool) → other? k O e ≡ b → All (Ends after) (pick b (map (λ g. calm (moved O.v (copy_of O g) e)) (rest (edge_groups M O (far_end_of O.v e)))) [])
      by true d =
          all_map (λ g. g < O.count) (Ends after) (λ g. calm (moved O.v (copy_of O g) e)) (λ g u. pair_step g e.a e.b u (P.1 (at_v k e d))) (rest (edge_groups M O (far_end_of O.v e)))
          (all_rest (λ g. g < O.count) (edge_groups M O (far_end_of O.v e)) (edge_below O two below M (far_end_of O.v e)))
      by false d = tt

  edges_indexed : (k : Kind) (M : Mesh) (es : List Edge) → All (Ends O.before) es → All (Ends after) (other_edges k M O (rewired_straps k O es))
  unfolding other_edges
  edges_indexed k M es h =
      let t = straps_turned k es h in
      let l = rewired_straps k O es in
      all_append (Ends after) (map (stayed k M O) l) (each (doubled k M O) l) (all_map Turned (Ends after) (stayed k M O) (λ e P. stayed_ends k M e P) l t)
      (all_each_of Turned (Ends after) (doubled k M O) (λ e P. doubled_ends k M e P) l t)

  triangles_sound : (k : Kind) (ts : List Triangle) → All (Sound O.before) ts → All (Sound after) (rewired_triangles k O ts)
  unfolding rewired_triangles after
  triangles_sound Triangles ts h =
      all_map_at (Sound O.before) (Sound (O.before + (O.count - 1))) (λ i. retargeted O.v (copy_of O (group_at_of O.fan i)))
      (λ i t U. sound_step O.before O.v (O.count - 1) (group_at_of O.fan i) low (let g = group_below i in omega arith) t U) ts h
  triangles_sound Straps ts h = all_over (Sound O.before) (Sound (O.before + (O.count - 1))) (sound_wide O.before (O.count - 1)) ts h
  triangles_sound Nothing ts h = all_over (Sound O.before) (Sound (O.before + (O.count - 1))) (sound_wide O.before (O.count - 1)) ts h

  -- boundary entries follow, and the crack's facets are faces of triangles
  followed_sides : (M : Mesh) (s : Side) → Sides O.before s → Sides after (followed M O s)
  unfolding followed after
  followed_sides M s P =
      pick_both (Sides after) (stands O.v (side_ends s)) (turned O.v (copy_of O (side_group M O s)) s) s (row_step O.before O.v (O.count - 1) (side_group M O s) low (let u = side_below O two below M s in omega arith) 2 s.corners P) (different_wide 2 O.before (O.count - 1) s.corners P)

  faces_sides : (n : ℕ) (t : Triangle) → Sound n t → All (Sides n) (faces_of t)
  faces_sides n t S = by t.corners S
    where
      side : (a b : ℕ) → a < n → b < n → (a ≡ b → ⊥) → Different 2 n (a ∷ b ∷ [])
      side a b p q d = record { many = refl; apart = pair_to n a b (record { first = p; second = q; differ = d }) }

      by : (l : List ℕ) → Different 3 n l → All (Sides n) (sides_round l)
      by [] D = tt
      by (a ∷ []) D = absurd (omega (arith, D.many))
      by (a ∷ b ∷ []) D = absurd (omega (arith, D.many))
      by (a ∷ b ∷ c ∷ []) D = let T = three_from n a b c D.apart in (side a b T.a T.b T.ab, (side b c T.b T.c T.bc, (side c a T.c T.a T.ca, tt)))
      by (a ∷ b ∷ c ∷ d ∷ l) D = absurd (omega (arith, D.many))

  one_all : {A : Type 0} (P : A → Type 0) (o : Option A) → Found P o → All P (one_or_none o)
  one_all P nothing h = tt
  one_all P (some a) h = (h, tt)

  face_sides : (M : Mesh) → All (Sound after) M.triangles → (p q r : Part) → r.number < length M.triangles → All (Sides after) (face_on M O p q r)
  unfolding face_on
  face_sides M S p q r u =
      let t = get_or M.triangles r.number blank_triangle in
      one_all (Sides after) (find (λ (s : Side). all (on_facet O p q r) (side_ends s)) (faces_of t))
      (find_fits (Sides after) (λ (s : Side). all (on_facet O p q r) (side_ends s)) (faces_of t) (faces_sides after t (all_in (Sound after) M.triangles r.number blank_triangle u S)))

  facets_sides : (M : Mesh) → All (Sound after) M.triangles → All (λ (p : Part). p.number < length M.triangles) O.fan → All (Sides after) (crack_facets Triangles M O)
  unfolding crack_facets facets_at
  facets_sides M S h =
      all_each_of (λ (pq : Part × Part). (pq.0.number < length M.triangles) × (pq.1.number < length M.triangles)) (Sides after) (facets_at M O)
      (λ pq u. pick_both (All (Sides after)) (opens? O.v pq.0 pq.1) (face_on M O pq.0 pq.1 pq.0 ++ face_on M O pq.0 pq.1 pq.1) []
      (all_append (Sides after) (face_on M O pq.0 pq.1 pq.0) (face_on M O pq.0 pq.1 pq.1) (face_sides M S pq.0 pq.1 pq.0 u.0) (face_sides M S pq.0 pq.1 pq.1 u.1)) tt)
      (pairs O.fan) (all_pairs (λ (p : Part). p.number < length M.triangles) O.fan h)

  -- the copies have v's root
  abbrev Rooted : ℕ → Particle → Type 0
  Rooted n p = p.root < n

  portion_rooted : (n g : ℕ) (p : Particle) → Rooted n p → Rooted n (portion O g p)
  unfolding portion
  portion_rooted n g p u = u

  copied_rooted : (ps : List Particle) → All (Rooted O.before) ps → All (Rooted after) (copied O ps)
  unfolding copied after
  copied_rooted ps h =
      let w = all_over (Rooted O.before) (Rooted after) (λ p u. omega arith) ps h in
      all_append (Rooted after) (map_at_of (only_at O.v (portion O 0)) ps) (map (λ g. portion O (suc g) (get_or ps O.v blank)) (up_to (O.count - 1)))
      (all_map_at (Rooted after) (Rooted after) (only_at O.v (portion O 0)) (λ i p u. pick_both (Rooted after) (eqb i O.v) (portion O 0 p) p (portion_rooted after 0 p u) u) ps w)
      (all_map (λ g. Unit {0}) (Rooted after) (λ g. portion O (suc g) (get_or ps O.v blank)) (λ g u. portion_rooted after (suc g) (get_or ps O.v blank) (all_at (Rooted after) ps O.v blank (omega arith) w)) (up_to (O.count - 1))
      (all_yes (λ g. Unit {0}) (λ g. tt) (up_to (O.count - 1))))

-- the numbers of the fan's triangles are those of triangles
abbrev pub Inside : Kind → Opening → Mesh → Type 0
Inside Triangles O M = All (λ (p : Part). p.number < length M.triangles) O.fan
Inside Straps O M = Unit {0}
Inside Nothing O M = Unit {0}

pub numbers_from : (i : ℕ) (ts : List Triangle) → All (λ (e : Element). e.number < i + length ts) (triangles_from i ts)
unfolding triangles_from
numbers_from i [] = tt
numbers_from i (t ∷ ts) = (
  omega arith,
  all_over (λ (e : Element). e.number < suc i + length ts) (λ (e : Element). e.number < i + suc (length ts)) (λ e u. omega arith) (triangles_from (suc i) ts) (numbers_from (suc i) ts),
)

pub opening_inside : (k : Kind) (M : Mesh) (v : ℕ) (sides : List ℕ) → Inside k (opening_of k M v sides) M
unfolding opening_of fan_of elements_of
opening_inside Triangles M v sides =
    let F = grid_of Triangles v (fan_of Triangles M v) sides in
    parts_all (λ (e : Element). e.number < length M.triangles) Any (λ (p : Part). p.number < length M.triangles) (λ e g h u. h) (fan_of Triangles M v) (groups_of F)
    (all_sift (λ (e : Element). e.number < length M.triangles) (λ (e : Element). stands v e.corners) (triangles_from 0 M.triangles)
    (all_over (λ (e : Element). e.number < 0 + length M.triangles) (λ (e : Element). e.number < length M.triangles) (λ e u. omega arith) (triangles_from 0 M.triangles) (numbers_from 0 M.triangles)))
    (all_any (groups_of F))
opening_inside Straps M v sides = tt
opening_inside Nothing M v sides = tt

same_length : (O : Opening) (ts : List Triangle) → length (rewired_triangles Triangles O ts) ≡ length ts
unfolding rewired_triangles
same_length O ts = length_map_at _ ts

inside_longest : (k : Kind) (O : Opening) (M : Mesh) → Inside k O M → Inside k O (at_longest k O M)
unfolding at_longest
inside_longest Triangles O M h = subst (λ (n : ℕ). All (λ (p : Part). p.number < n) O.fan) (sym (same_length O M.triangles)) h
inside_longest Straps O M h = tt
inside_longest Nothing O M h = tt

facets_by : (k : Kind) (O : Opening) (two : 2 ≤ O.count) (low : O.v < O.before) (below : All (λ (p : Part). p.group < O.count) O.fan) (M : Mesh)
    → All (Sound (after O two low below)) M.triangles → Inside k O M → All (Sides (after O two low below)) (crack_facets k M O)
unfolding crack_facets
facets_by Triangles O two low below M S h = facets_sides O two low below M S h
facets_by Straps O two low below M S h = tt
facets_by Nothing O two low below M S h = tt

module _ (k : Kind) (O : Opening) (M : Mesh) (H : Fitting O M) (inner : Inside k O M) (yes? : splits? O M ≡ true) (X : Indexed M) where
  two : 2 ≤ O.count
  two = (splits_here O M yes?).0

  low : O.v < O.before
  low = let h = (splits_here O M yes?).1 in omega (arith, H.before)

  below : All (λ (p : Part). p.group < O.count) O.fan
  below = all_over (λ (p : Part). p.group < max O.count 1) (λ (p : Part). p.group < O.count) (λ p u. let t = two in omega arith) O.fan H.below

  end : ℕ
  end = after O two low below

  longest : Mesh
  longest = at_longest k O M

  count_is : length longest.particles ≡ end
  unfolding longest at_longest end after
  count_is = copied_length O M.particles ∙ ap (λ n. n + (O.count - 1)) (sym H.before)

  sound : All (Sound end) longest.triangles
  unfolding longest at_longest end
  sound = triangles_sound O two low below k M.triangles (subst (λ (n : ℕ). All (Sound n) M.triangles) (sym H.before) X.triangles)

  ends : All (Ends end) longest.edges
  unfolding longest at_longest end
  ends = edges_indexed O two low below k M M.edges (subst (λ (n : ℕ). All (Ends n) M.edges) (sym H.before) X.edges)

  roots : All (λ (p : Particle). p.root < end) longest.particles
  unfolding longest at_longest end
  roots = copied_rooted O two low below M.particles (subst (λ (n : ℕ). All (λ (p : Particle). p.root < n) M.particles) (sym H.before) X.roots)

  followers : All (Sides end) (map (followed longest O) M.boundary)
  unfolding end
  followers =
      all_map (Sides O.before) (Sides end) (followed longest O) (λ s P. followed_sides O two low below longest s P) M.boundary
      (subst (λ (n : ℕ). All (Sides n) M.boundary) (sym H.before) X.boundary)

  facets : All (Sides end) (crack_facets k longest O)
  unfolding end longest
  facets = facets_by k O two low below longest sound (inside_longest k O M inner)

  len : length (settled k O longest).particles ≡ end
  unfolding settled
  len = count_is

  pub split_indexed : Indexed (settled k O (at_longest k O M))
  unfolding settled longest at_longest
  split_indexed =
      record {
        roots = subst (λ (n : ℕ). All (λ (p : Particle). p.root < n) longest.particles) (sym count_is) roots;
        triangles = subst (λ (n : ℕ). All (Sound n) longest.triangles) (sym count_is) sound;
        edges = subst (λ (n : ℕ). All (Ends n) (sift (λ (e : Edge). not (straddles k longest O e)) longest.edges)) (sym count_is) (all_sift (Ends end) (λ (e : Edge). not (straddles k longest O e)) longest.edges ends);
        boundary = subst (λ (n : ℕ). All (Sides n) (map (followed longest O) M.boundary ++ crack_facets k longest O)) (sym count_is) (all_append (Sides end) (map (followed longest O) M.boundary) (crack_facets k longest O) followers facets);
      }

-- ---- runs

-- a change of the mesh that keeps it so
abbrev pub Keeps : (Mesh → Mesh) → Type 0
Keeps f = (M : Mesh) → Indexed M → Indexed (f M)

pub step_indexed : (more : List Entry) (f : Mesh → Mesh) → Keeps f → (k : Kind) (O : Opening) (R : Run) → Fitting O R.mesh → Inside k O R.mesh → Indexed R.mesh → Indexed (split_step more f k O R).mesh
unfolding split_step split_made step_to
step_indexed more f keep k O R H inner X = by (splits? O R.mesh) refl
  where
    by : (b : Bool) → splits? O R.mesh ≡ b → Indexed (pick b (split_made more f k O R) R).mesh
    by true e = keep (settled k O (at_longest k O R.mesh)) (split_indexed k O R.mesh H inner e X)
    by false e = X

-- v split by any sides
pub sides_indexed : (k : Kind) (v : ℕ) (sides : List ℕ) (R : Run) → Indexed R.mesh → Indexed (split_by_sides_of k v sides R).mesh
unfolding split_by_sides_of
sides_indexed k v sides R X =
    step_indexed [] (λ M. M) (λ M Y. Y) k (opening_of k R.mesh v sides) R (opening_fits k R.mesh v sides) (opening_inside k R.mesh v sides) X

pub fold_indexed : {A : Type 0} (g : Run → A → Run) → ((R : Run) (a : A) → Indexed R.mesh → Indexed (g R a).mesh) → (R : Run) (l : List A) → Indexed R.mesh → Indexed (fold g R l).mesh
unfolding fold
fold_indexed g k R [] X = X
fold_indexed g k R (a ∷ l) X = fold_indexed g k (g R a) l (k R a X)

pick_indexed : (b : Bool) (R S : Run) → Indexed R.mesh → Indexed S.mesh → Indexed (pick b R S).mesh
pick_indexed true R S X Y = X
pick_indexed false R S X Y = Y

pub pinched_indexed : (k : Kind) (R : Run) → Indexed R.mesh → Indexed (split_pinched_of k R).mesh
unfolding split_pinched_of split_free
pinched_indexed Triangles R X = fold_indexed (split_free Triangles) (λ S v Y. sides_indexed Triangles v _ S Y) R (pinched Triangles R) X
pinched_indexed Straps R X = X
pinched_indexed Nothing R X = X

sifted_indexed : (R : Run) → Indexed R.mesh → (p : Edge → Bool) (q : Side → Bool)
    → Indexed (record { particles = R.mesh.particles; triangles = R.mesh.triangles; edges = sift p R.mesh.edges; boundary = sift q R.mesh.boundary })
sifted_indexed R X p q =
    let n = length R.mesh.particles in
    record { roots = X.roots; triangles = X.triangles; edges = all_sift (Ends n) p R.mesh.edges X.edges; boundary = all_sift (Sides n) q R.mesh.boundary X.boundary }

pub straddlers_indexed : (k : Kind) (R : Run) → Indexed R.mesh → Indexed (remove_straddlers_of k R).mesh
unfolding remove_straddlers_of straddlers_gone without_straddlers step_to
straddlers_indexed Triangles R X = sifted_indexed R X _ _
straddlers_indexed Straps R X = sifted_indexed R X _ _
straddlers_indexed Nothing R X = X

-- the cut of triangles
pub facets_indexed : (B : Blade) (R : Run) → Indexed R.mesh → Indexed (cut_facets_of B R).mesh
unfolding cut_facets_of split_by_blade
facets_indexed B R X =
    let S = fold (split_by_blade Triangles B) R (candidates B R.mesh) in
    let Y = fold_indexed (split_by_blade Triangles B) (λ Q v Z. sides_indexed Triangles v _ Q Z) R (candidates B R.mesh) X in
    pick_indexed (empty (splits_of S.log)) S (split_pinched_of Triangles S) Y (pinched_indexed Triangles S Y)

-- a split of straps by the blade
pub slack_keeps : (p : Edge → Bool) → Keeps (slackened p)
unfolding slackened
slack_keeps p M X =
    record {
      roots = X.roots;
      triangles = X.triangles;
      edges =
          all_map (Ends (length M.particles)) (Ends (length M.particles)) (λ (e : Edge). pick (p e) (slack e) e)
          (λ e P. pick_both (Ends (length M.particles)) (p e) (slack e) e P P) M.edges X.edges;
      boundary = X.boundary;
    }

pub snapped_indexed : (B : Blade) (R : Run) (v : ℕ) → Indexed R.mesh → Indexed (split_snapped_of B R v).mesh
unfolding split_snapped_of
snapped_indexed B R v X =
    let sides = blade_sides Straps B R.mesh v in
    let O = opening_of Straps R.mesh v sides in
    step_indexed [] (slackened (at_copy O)) (slack_keeps (at_copy O)) Straps O R (opening_fits Straps R.mesh v sides) (opening_inside Straps R.mesh v sides) X

-- ---- the crack

hurt_indexed : (M : Mesh) → Indexed M → (vs : List ℕ) → Indexed (damaged_at vs M)
unfolding damaged_at
hurt_indexed M X vs =
    let e = sym (length_map_at (λ i p. pick (stands i vs) (hurt p) p) M.particles) in
    let n = length M.particles in
    record {
      roots = subst (λ (m : ℕ). All (λ (p : Particle). p.root < m) (map_at_of (λ i p. pick (stands i vs) (hurt p) p) M.particles)) e
          (all_map_at (λ (p : Particle). p.root < n) (λ (p : Particle). p.root < n) (λ i p. pick (stands i vs) (hurt p) p) (λ i p u. pick_both (λ (q : Particle). q.root < n) (stands i vs) (hurt p) p u u) M.particles X.roots);
      triangles = subst (λ (m : ℕ). All (Sound m) M.triangles) e X.triangles;
      edges = subst (λ (m : ℕ). All (Ends m) M.edges) e X.edges;
      boundary = subst (λ (m : ℕ). All (Sides m) M.boundary) e X.boundary;
    }

pub torn_keeps : (O : Opening) (xy : ℕ × ℕ) → Keeps (torn O xy)
unfolding torn
torn_keeps O xy M X = hurt_indexed _ (slack_keeps _ M X) _

abbrev FitWay : Kind → Mesh → Way → Type 0
FitWay k M w = Fitting w.opening M × Inside k w.opening M

way_fits : (k : Kind) (loads : List Float) (M : Mesh) (v u : ℕ) → All (FitWay k M) (way_at k loads M v u)
unfolding way_at
way_fits k loads M v u =
    let sides = map (far_side M v u) (fan_of k M v) in
    pick_one (FitWay k M) (two_sided_of M v sides) (record { load = mean_load k loads M v u; opening = opening_of k M v sides }) (opening_fits k M v sides, opening_inside k M v sides)

by_indexed : (k : Kind) (R : Run) → Indexed R.mesh → (o : Option Way) → Found (FitWay k R.mesh) o → (ab xy : ℕ × ℕ) → Indexed (crack_by k o ab xy R).mesh
unfolding crack_by
by_indexed k R X nothing H ab xy = X
by_indexed k R X (some w) H ab xy = step_indexed _ (torn w.opening xy) (torn_keeps w.opening xy) k w.opening R H.0 H.1 X

pair_indexed : (k : Kind) (loads : List Float) (min : ℕ) (ab : ℕ × ℕ) (o : Option (ℕ × ℕ)) (R : Run) → Indexed R.mesh → Indexed (crack_pair k loads min ab o R).mesh
unfolding crack_pair ways_of
pair_indexed k loads min ab nothing R X = X
pair_indexed k loads min ab (some xy) R X =
    by_indexed k R X _
    (find_fits (FitWay k R.mesh) _ (ways_of k loads R.mesh xy)
    (order_fits (FitWay k R.mesh) (way_at k loads R.mesh xy.0 xy.1) (way_at k loads R.mesh xy.1 xy.0) (way_fits k loads R.mesh xy.0 xy.1) (way_fits k loads R.mesh xy.1 xy.0)))
    ab xy

pub edge_indexed : (k : Kind) (loads : List Float) (min : ℕ) (R : Run) (ab : ℕ × ℕ) → Indexed R.mesh → Indexed (crack_edge k loads min R ab).mesh
unfolding crack_edge
edge_indexed k loads min R ab X = pair_indexed k _ min ab (current_pair k R ab) R X

pub crack_indexed : (k : Kind) (min : ℕ) (is : List ℕ) (R : Run) → Indexed R.mesh → Indexed (crack k min is R).mesh
unfolding crack
crack_indexed k min is R X =
    let S = fold (crack_edge k (loads_of k R.mesh) min) R (torn_ends R.mesh is) in
    let Y = fold_indexed (crack_edge k (loads_of k R.mesh) min) (edge_indexed k (loads_of k R.mesh) min) R (torn_ends R.mesh is) X in
    pick_indexed (empty (splits_of S.log)) S (remove_straddlers_of k (split_pinched_of k S)) Y (straddlers_indexed k (split_pinched_of k S) (pinched_indexed k S Y))
