-- The ends of the edges of a split at their longest, and the corners of its triangles, are particles that are there. Assumes nothing.
use Prim.Native.Nat.{ℕ, suc, ◌+◌, ◌*◌, ◌-◌, ◌/◌, ◌<◌, ◌≤◌, max}
use native.Mathlib.Omega.{arith}
use native.Mathlib.Decide.{ℕ_discrete}
use mathlib.Core.Path.{◌≡◌, refl, sym, ◌∙◌, ap, subst}
use mathlib.Core.Logic.{⊎_elim}
use mathlib.Core.List.{List, [], ◌∷◌, map}
use lib.Dec.{eqb}
use lib.ListN.{length, get_or, take}
use lib.Seq.{get_or-take, length-take-le}
use lib.Ieee.{Float, neg, lt}
use borrow.Author.Tests.{eq-eqb, ne_eqb}
use Rattle.lists.specs.Lists.{pick, fold, each, tab, up_to, rising, head_or, rest}
use Rattle.lists.specs.Labels.{replaced}
use Rattle.lists.proofs.Stores.{replaced_case, tab_at, tab_length}
use Rattle.float.specs.Numbers.{largest}
use Rattle.blade.specs.declared.Point.{Point}
use Rattle.columns.specs.Block.{cell}
use Rattle.model.specs.Mesh.{Triangle, Edge, Mesh, blank_triangle, blank_edge}
use Rattle.model.specs.Elements.{Kind, Triangles, Straps, Nothing, Element, besides, far_end_of, fan_of}
use Rattle.model.specs.Split.{Part, Opening, copy_of, group_at_of, retargeted, moved, rewired_triangles, rewired_straps, ring, Best, better, score_of, scored, toward, edge_groups, other?, calm, stayed, doubled, other_edges, at_longest}
use Rattle.model.specs.Trace.{All, Sound}
use Rattle.model_laws.proofs.Laws.{pick_both, all_each, all_over, all_append, all_map_at, all_in, all_map, all_each_of, all_sift, all_up_to, all_rest, all_head, all_else}
use Rattle.model_laws.proofs.Indexed.{Indexed}
use Rattle.model_laws.proofs.Rows.{Pair, three_from}
use Rattle.model_laws.proofs.Traced.{at_below, sound_step, parts_all, Any, all_any}
use Rattle.mesh.specs.At.{triangle_row, triangles_at, edge_row, edges_at}
use Rattle.columns.proofs.Cells.{col_0, col_1}
use Rattle.boundary.specs.Faces.{ThreeApart}
use Rattle.split_plan.specs.Opened.{opening_by}
use Rattle.work.specs.Places.{EndsIn}

-- the ends of an edge are below n
abbrev In : ℕ → Edge → Type 0
In n e = (e.a < n) × (e.b < n)

replaced_in : (n v w x : ℕ) → w < n → x < n → replaced v w x < n
replaced_in n v w x p q = ⊎_elim (λ d. omega (arith, d.1)) (λ d. omega (arith, d.1)) (replaced_case v w x)

module _ (O : Opening) (two : 2 ≤ O.count) (low : O.v < O.before) (below : All (λ (p : Part). p.group < O.count) O.fan) where
  -- ---- groups lie below the count

  ring_below : (x : ℕ) → All (λ g. g < O.count) (ring O x)
  unfolding ring rising up_to
  ring_below x = all_sift (λ g. g < O.count) _ (tab O.count (λ k. k)) (all_up_to O.count O.count (λ k. k) (λ i u. u))

  abbrev Good : Best → Type 0
  Good b = b.group < O.count

  scored_good : (M : Mesh) (dir : Point) (p : Part) → p.group < O.count → (l : List ℕ) (b : Best) → Good b → Good (fold (λ (c : Best) w. better c (score_of M O.v dir w) p.group) b l)
  unfolding fold
  scored_good M dir p u [] b g = g
  scored_good M dir p u (w ∷ l) b g =
      scored_good M dir p u l (better b (score_of M O.v dir w) p.group) (pick_both Good (lt b.score (score_of M O.v dir w)) (record { score = score_of M O.v dir w; group = p.group }) b u g)

  fan_good : (M : Mesh) (dir : Point) (ps : List Part) → All (λ (p : Part). p.group < O.count) ps → (b : Best) → Good b → Good (fold (scored M O.v dir) b ps)
  unfolding fold scored
  fan_good M dir [] h b g = g
  fan_good M dir (p ∷ ps) h b g = fan_good M dir ps h.1 (scored M O.v dir b p) (scored_good M dir p h.0 (besides O.v p.corners) b g)

  toward_below : (M : Mesh) (x : ℕ) → toward M O x < O.count
  unfolding toward
  toward_below M x = fan_good M _ O.fan below (record { score = neg largest; group = 0 }) (omega arith)

  edge_below : (M : Mesh) (x : ℕ) → All (λ g. g < O.count) (edge_groups M O x)
  unfolding edge_groups
  edge_below M x = all_else (λ g. g < O.count) (ring O x) (toward M O x ∷ []) (ring_below x) (toward_below M x, tt)

  group_below : (i : ℕ) → group_at_of O.fan i < O.count
  group_below i = let h = at_below O.count O.fan i (all_over (λ (p : Part). p.group < O.count) (λ (p : Part). p.group < max O.count 1) (λ p u. omega arith) O.fan below) in omega arith

  -- ---- ends

  copy_in : (g : ℕ) → g < O.count → copy_of O g < O.before + (O.count - 1)
  copy_in g u = elim (ℕ_discrete g 0) [
    | yes d ↦ rw (eq-eqb g 0 d) (omega arith)
    | no m ↦ rw (ne_eqb g 0 m) (omega arith)
  ]

  moved_in : (g : ℕ) → g < O.count → (e : Edge) → In (O.before + (O.count - 1)) e → In (O.before + (O.count - 1)) (moved O.v (copy_of O g) e)
  moved_in g u e P = (replaced_in (O.before + (O.count - 1)) O.v (copy_of O g) e.a (copy_in g u) P.0, replaced_in (O.before + (O.count - 1)) O.v (copy_of O g) e.b (copy_in g u) P.1)

  straps_in : (k : Kind) (es : List Edge) → All (In (O.before + (O.count - 1))) es → All (In (O.before + (O.count - 1))) (rewired_straps k O es)
  unfolding rewired_straps
  straps_in Triangles es h = h
  straps_in Straps es h =
      all_map_at (In (O.before + (O.count - 1))) (In (O.before + (O.count - 1))) (λ i. moved O.v (copy_of O (group_at_of O.fan i))) (λ i e P. moved_in (group_at_of O.fan i) (group_below i) e P) es h
  straps_in Nothing es h = h

  stayed_in : (k : Kind) (M : Mesh) (e : Edge) → In (O.before + (O.count - 1)) e → In (O.before + (O.count - 1)) (stayed k M O e)
  unfolding stayed
  stayed_in k M e P =
      pick_both (In (O.before + (O.count - 1))) (other? k O e) (moved O.v (copy_of O (head_or 0 (edge_groups M O (far_end_of O.v e)))) e) e
      (moved_in (head_or 0 (edge_groups M O (far_end_of O.v e))) (all_head (λ g. g < O.count) 0 (edge_groups M O (far_end_of O.v e)) (omega arith) (edge_below M (far_end_of O.v e))) e P) P

  doubled_in : (k : Kind) (M : Mesh) (e : Edge) → In (O.before + (O.count - 1)) e → All (In (O.before + (O.count - 1))) (doubled k M O e)
  unfolding doubled
  doubled_in k M e P =
      pick_both (All (In (O.before + (O.count - 1)))) (other? k O e) (map (λ g. calm (moved O.v (copy_of O g) e)) (rest (edge_groups M O (far_end_of O.v e)))) []
      (all_map (λ g. g < O.count) (In (O.before + (O.count - 1))) (λ g. calm (moved O.v (copy_of O g) e)) (λ g u. moved_in g u e P) (rest (edge_groups M O (far_end_of O.v e)))
      (all_rest (λ g. g < O.count) (edge_groups M O (far_end_of O.v e)) (edge_below M (far_end_of O.v e)))) tt

  longest_in : (k : Kind) (M : Mesh) → All (In O.before) M.edges → All (In (O.before + (O.count - 1))) (at_longest k O M).edges
  unfolding at_longest other_edges
  longest_in k M h =
      let l = rewired_straps k O M.edges in
      let t = straps_in k M.edges (all_over (In O.before) (In (O.before + (O.count - 1))) (λ e P. (omega (arith, P.0), omega (arith, P.1))) M.edges h) in
      all_append (In (O.before + (O.count - 1))) (map (stayed k M O) l) (each (doubled k M O) l) (all_map (In (O.before + (O.count - 1))) (In (O.before + (O.count - 1))) (stayed k M O) (λ e P. stayed_in k M e P) l t)
      (all_each_of (In (O.before + (O.count - 1))) (In (O.before + (O.count - 1))) (doubled k M O) (λ e P. doubled_in k M e P) l t)

-- what holds of all edges in a block holds of their ends there
in_rows : (p e : ℕ) (ends : List ℕ) (lengths : List Float) → All (In p) (edges_at e ends lengths) → EndsIn p e ends
unfolding edges_at
in_rows p e ends lengths h =
    let f = edge_row (length ends / 4) (length lengths / 4) ends lengths in
    let r : (j : ℕ) → j < e → In p (f j) = λ j l. subst (In p) (tab_at e f j blank_edge l) (all_in (In p) (tab e f) j blank_edge (omega (arith, tab_length e f)) h) in
    record { first = λ j l. (r j l).0; second = λ j l. (r j l).1 }

-- the groups of a fan in tables lie below the count
few_groups : (K : Kind) (M : Mesh) (v count n : ℕ) (groups : List ℕ) → n ≤ length groups → ((i : ℕ) → i < n → get_or groups i 0 < count)
    → All (λ (p : Part). p.group < count) (opening_by v (length M.particles) (fan_of K M v) (take n groups) count).fan
few_groups K M v count n groups long small =
    parts_all Any (λ g. g < count) (λ (p : Part). p.group < count) (λ x g a u. u) (fan_of K M v) (take n groups) (all_any (fan_of K M v))
    (all_each (λ g. g < count) (take n groups) (λ i l. let u : i < n = omega (arith, length-take-le n groups long) in subst (λ (g : ℕ). g < count) (sym (get_or-take n groups i 0 u)) (small i u)))

-- the edges of a mesh in blocks, at their longest in others, have ends that are there
pub longest_ends : (K : Kind) (M : Mesh) (v count n : ℕ) (groups : List ℕ) → 2 ≤ count → v < length M.particles → n ≤ length groups → ((i : ℕ) → i < n → get_or groups i 0 < count)
    → Indexed M → (e : ℕ) (ends' : List ℕ) (lengths' : List Float)
    → edges_at e ends' lengths' ≡ (at_longest K (opening_by v (length M.particles) (fan_of K M v) (take n groups) count) M).edges → EndsIn (length M.particles + (count - 1)) e ends'
longest_ends K M v count n groups two low long small X e ends' lengths' q =
    let O : Opening = opening_by v (length M.particles) (fan_of K M v) (take n groups) count in
    let few : All (λ (p : Part). p.group < count) O.fan = few_groups K M v count n groups long small in
    in_rows (length M.particles + (count - 1)) e ends' lengths' (subst (All (In (length M.particles + (count - 1)))) (sym q) (longest_in O two low few K M (all_over (λ (x : Edge). Pair (length M.particles) x.a x.b) (In (length M.particles)) (λ x P. (P.first, P.second)) M.edges X.edges)))

-- ---- triangles

module _ (O : Opening) (two : 2 ≤ O.count) (low : O.v < O.before) (below : All (λ (p : Part). p.group < O.count) O.fan) where
  triangles_in : (k : Kind) (ts : List Triangle) → All (Sound O.before) ts → k ≡ Triangles → All (Sound (O.before + (O.count - 1))) (rewired_triangles k O ts)
  unfolding rewired_triangles
  triangles_in k ts h q =
      subst (λ (z : Kind). All (Sound (O.before + (O.count - 1))) (rewired_triangles z O ts)) (sym q)
      (all_map_at (Sound O.before) (Sound (O.before + (O.count - 1))) (λ i. retargeted O.v (copy_of O (group_at_of O.fan i)))
      (λ i t U. sound_step O.before O.v (O.count - 1) (group_at_of O.fan i) low (let g = group_below O two low below i in omega arith) t U) ts h)

-- the corners of a sound triangle in a block
sound_row : (p t : ℕ) (corners : List ℕ) (volumes : List Float) → p ≤ 1024 → All (Sound p) (triangles_at t corners volumes) → (j : ℕ) → j < t
    → ThreeApart (get_or corners j 0) (get_or corners (length corners / 3 + j) 0) (get_or corners (2 * (length corners / 3) + j) 0)
unfolding triangles_at cell
sound_row p t corners volumes h S j l =
    let C = length corners / 3 in
    let f = triangle_row C (length volumes / 2) corners volumes in
    let S' : Sound p (f j) = subst (Sound p) (tab_at t f j blank_triangle l) (all_in (Sound p) (tab t f) j blank_triangle (omega (arith, tab_length t f)) S) in
    let r = three_from p _ _ _ S'.apart in
    let a : get_or corners j 0 ≡ cell 0 C corners 0 j = sym (col_0 0 C corners j) in
    let b : get_or corners (C + j) 0 ≡ cell 0 C corners 1 j = sym (col_1 0 C corners j) in
    record {
      x_in = omega (arith, a, r.a);
      y_in = omega (arith, b, r.b);
      z_in = let z = r.c in omega arith;
      first = λ e. r.ab (sym a ∙ e ∙ b);
      second = λ e. r.bc (sym b ∙ e);
      third = λ e. r.ca (e ∙ a);
    }

-- the triangles of a mesh in blocks, where the edges are at their longest in others, have three different corners that are there
pub longest_corners : (K : Kind) (M : Mesh) (v count n : ℕ) (groups : List ℕ) → 2 ≤ count → v < length M.particles → n ≤ length groups → ((i : ℕ) → i < n → get_or groups i 0 < count)
    → Indexed M → (t : ℕ) (corners' : List ℕ) (volumes : List Float)
    → triangles_at t corners' volumes ≡ (at_longest K (opening_by v (length M.particles) (fan_of K M v) (take n groups) count) M).triangles → length M.particles + (count - 1) ≤ 1024 → K ≡ Triangles → (j : ℕ) → j < t
    → ThreeApart (get_or corners' j 0) (get_or corners' (length corners' / 3 + j) 0) (get_or corners' (2 * (length corners' / 3) + j) 0)
unfolding at_longest
longest_corners K M v count n groups two low long small X t corners' volumes q fits z =
    let p = length M.particles + (count - 1) in
    sound_row p t corners' volumes fits
    (subst (All (Sound p)) (sym q) (triangles_in (opening_by v (length M.particles) (fan_of K M v) (take n groups) count) two low (few_groups K M v count n groups long small) K M.triangles X.triangles z))
