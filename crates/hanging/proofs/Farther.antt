-- Corners farther off: a split leaves whoever is not beside it joined as it was. So where no corner was pinched before an accepted cut, every particle is pinned or
-- joined after it. Assumes nothing.
use mathlib.Core.Path.{◌≡◌, refl, sym, ◌∙◌, ap, subst}
use mathlib.Core.Bool.{Bool, true, false, ◌||◌}
use mathlib.Core.Logic.{◌⊎◌, inl, inr, ⊎_elim}
use mathlib.Core.List.{List, [], ◌∷◌, ◌++◌, map}
use Prim.Native.Nat.{ℕ, zero, suc, ◌+◌, ◌-◌, ◌<◌, ◌≤◌}
use native.Mathlib.Omega.{arith}
use native.Mathlib.Decide.{ℕ_discrete}
use borrow.Author.Tests.{eq-eqb, ne_eqb}
use lib.ListN.{length, get_or}
use lib.Ieee.{Float}
use Rattle.lists.specs.Lists.{pick, stands, any, fold, each, empty, tab, up_to}
use Rattle.lists.specs.Chain.{stay, ahead}
use Rattle.lists.proofs.Chains.{chain_map}
use Rattle.lists.proofs.Sifts.{and_true, stands_append, or_true, any_get, stands_made, rising_stands}
use Rattle.model.specs.Mesh.{Triangle, Edge, Mesh}
use Rattle.model.specs.Elements.{Kind, Triangles, kind_of, corners_of, triangle_element, triangles_from, elements_of}
use Rattle.model.specs.Run.{Entry, Rooms, Run, start, step_to, splits_of}
use Rattle.model.specs.Split.{Opening, opening_of, splits?, copy_for_of, group_at_of, rewired_triangles, straddles, at_longest, settled, split_entries, gone_entries, split_made, split_step, split_by_sides_of}
use Rattle.model.specs.Cut.{Line, Blade, split_ends, near_corners, split_by_blade, candidates, pinched, split_pinched_of, cut_facets_of, marked_by, cut_along, cut}
use Rattle.model.specs.Calls.{blade_of, outcome, done, cut_call}
use Rattle.model_laws.proofs.Traced.{copies_from, step_splits, splits_here, at_below, opening_fits}
use Rattle.model_laws.proofs.Indexed.{Indexed, sides_indexed}
use Rattle.model_laws.proofs.Accepted.{accepted_indexed}
use Rattle.model_laws.proofs.Kept.{outcome_done, unless_done, cut_no_refusal}
use Rattle.model_laws.proofs.Laws.{false_true, each_append, stands_head, stands_tail, stands_case}
use Rattle.hanging.specs.Hanging.{HeldBy, Beside, Joined, Firm, Unpinched}
use Rattle.hanging.proofs.Opened.{moved, kept_held, copy_held, back_held}
use Rattle.hanging.proofs.Closing.{Under, pass, begun, or_first, touching_pinched}

-- ---- one split, by triangles and by the ends that are logged

-- x shares a triangle with one of the ends
record Meets (ts : List Triangle) (ends : List ℕ) (x : ℕ) : Type 0 where
  triangle : ℕ
  mine : HeldBy ts x triangle
  split : ℕ
  logged : stands split ends ≡ true
  theirs : HeldBy ts split triangle

-- the split of v logs v, whoever the triangles have for it, and all that was logged before
record Logs (ts : List Triangle) (v : ℕ) (copy_at : ℕ → ℕ) (ends next : List ℕ) : Type 0 where
  here : stands v next ≡ true
  copies : (i : ℕ) → stands (copy_at i) next ≡ true
  before : (y : ℕ) → stands y ends ≡ true → stands y next ≡ true

module _ (ts : List Triangle) (v : ℕ) (copy_at : ℕ → ℕ) (ends next : List ℕ) (L : Logs ts v copy_at ends next) where
  abbrev after : List Triangle
  after = moved ts v copy_at

  -- who shares a triangle with an end goes on doing so
  still_meets : (x : ℕ) → (x ≡ v → ⊥) → Meets ts ends x → Meets after next x
  still_meets x m T =
      elim (ℕ_discrete T.split v) [
        | yes e ↦
            let W : HeldBy ts v T.triangle = subst (λ (y : ℕ). HeldBy ts y T.triangle) e T.theirs in
            record {
              triangle = T.triangle;
              mine = kept_held ts v copy_at x T.triangle m T.mine;
              split = copy_at T.triangle;
              logged = L.copies T.triangle;
              theirs = copy_held ts v copy_at T.triangle W;
            }
        | no e ↦
            record {
              triangle = T.triangle;
              mine = kept_held ts v copy_at x T.triangle m T.mine;
              split = T.split;
              logged = L.before T.split T.logged;
              theirs = kept_held ts v copy_at T.split T.triangle e T.theirs;
            }
      ]

  -- who shares none with an end behind the split was not beside it, and is joined as before
  module _ (x : ℕ) (m : x ≡ v → ⊥) (none : Meets after next x → ⊥) where
    was : (i : ℕ) → HeldBy after x i → HeldBy ts x i
    was i H =
        ⊎_elim (λ a. a.0)
        (λ a. absurd (none (record { triangle = i; mine = H; split = x; logged = subst (λ (y : ℕ). stands y next ≡ true) (sym a.0) (L.copies i); theirs = H })))
        (back_held ts v copy_at x i H)

    beside_still : (a b : ℕ) → Beside ts x a b → Beside after x a b
    beside_still a b s =
        elim (ℕ_discrete s.more v) [
          | yes e ↦
              let W : HeldBy ts v a = subst (λ (y : ℕ). HeldBy ts y a) e s.more_one in
              absurd (none (record { triangle = a; mine = kept_held ts v copy_at x a m s.one; split = copy_at a; logged = L.copies a; theirs = copy_held ts v copy_at a W }))
          | no e ↦
              record {
                one = kept_held ts v copy_at x a m s.one;
                two = kept_held ts v copy_at x b m s.two;
                more = s.more;
                other = s.other;
                more_one = kept_held ts v copy_at s.more a e s.more_one;
                more_two = kept_held ts v copy_at s.more b e s.more_two;
              }
        ]

    still_joined : Joined ts x → Joined after x
    still_joined J i j H K = chain_map (λ a b s. ahead (beside_still a b s) stay) (J i j (was i H) (was j K))

  -- whoever it is: beside the split, or joined
  joined_behind : (x : ℕ) → (Meets after next x → ⊥) → Meets ts ends x ⊎ Joined ts x → Joined after x
  joined_behind x none c =
      elim (ℕ_discrete x v) [
        | yes e ↦
            λ i j H K. absurd (none (record { triangle = i; mine = H; split = x; logged = subst (λ (y : ℕ). stands y next ≡ true) (sym e) L.here; theirs = H }))
        | no m ↦ ⊎_elim (λ T. absurd (none (still_meets x m T))) (λ J. still_joined x m none J) c
      ]

-- ---- the list of the pass, read back

near_back : (ends : List ℕ) (x k : ℕ) (ts : List Triangle) → stands x (each (near_corners ends) (triangles_from k ts)) ≡ true → Meets ts ends x
unfolding each triangles_from near_corners
near_back ends x k [] e = absurd (false_true e)
near_back ends x k (t ∷ ts) e = by (any (λ w. stands w ends) (corners_of t)) refl (λ s. near_back ends x (suc k) ts s) (sym (stands_append x (near_corners ends (triangle_element k t)) (each (near_corners ends) (triangles_from (suc k) ts))) ∙ e)
  where
    later : Meets ts ends x → Meets (t ∷ ts) ends x
    later T =
        let a = T.mine.there in
        let b = T.theirs.there in
        record {
          triangle = suc T.triangle;
          mine = record { there = omega arith; holds = T.mine.holds };
          split = T.split;
          logged = T.logged;
          theirs = record { there = omega arith; holds = T.theirs.holds };
        }

    here : any (λ w. stands w ends) (corners_of t) ≡ true → stands x (corners_of t) ≡ true → Meets (t ∷ ts) ends x
    here a h =
        let w = any_get (λ y. stands y ends) (corners_of t) 0 a in
        record {
          triangle = 0;
          mine = record { there = omega arith; holds = h };
          split = get_or (corners_of t) w.0 0;
          logged = w.1.1;
          theirs = record { there = omega arith; holds = stands_made (get_or (corners_of t) w.0 0) (corners_of t) w.0 w.1.0 refl };
        }

    or : (s r : Bool) → s || r ≡ true → (s ≡ true) ⊎ (r ≡ true)
    or true r h = inl refl
    or false r h = inr h

    by : (b : Bool) → any (λ w. stands w ends) (corners_of t) ≡ b → (stands x (each (near_corners ends) (triangles_from (suc k) ts)) ≡ true → Meets ts ends x)
        → stands x (pick b (corners_of t) []) || stands x (each (near_corners ends) (triangles_from (suc k) ts)) ≡ true → Meets (t ∷ ts) ends x
    by true a f h = ⊎_elim (λ s. here a s) (λ s. later (f s)) (or _ _ h)
    by false a f h = later (f h)

pinched_meets : (S : Run) (x : ℕ) → stands x (pinched Triangles S) ≡ true → Meets S.mesh.triangles (split_ends S) x
unfolding pinched elements_of
pinched_meets S x e =
    near_back (split_ends S) x 0 S.mesh.triangles
    (and_true _ _ (sym (rising_stands (length S.mesh.particles) (each (near_corners (split_ends S)) (triangles_from 0 S.mesh.triangles)) x) ∙ e)).0

-- ---- runs

-- x is in the list of the pass, should it begin now, or is joined
abbrev Fine : Run → ℕ → Type 0
Fine R x = (stands x (pinched Triangles R) ≡ true) ⊎ Joined R.mesh.triangles x

met_or_joined : (R : Run) (x : ℕ) → Fine R x → Meets R.mesh.triangles (split_ends R) x ⊎ Joined R.mesh.triangles x
met_or_joined R x c = ⊎_elim (λ e. inl (pinched_meets R x e)) (λ J. inr J) c

-- the ends of the copies of one split
abbrev pair_ends : ℕ × ℕ → List ℕ
pair_ends cs = cs.0 ∷ cs.1 ∷ []

ends_at : (n v k : ℕ) (f : ℕ → ℕ) (g : ℕ) → g < k → (stands (n + f g) (each pair_ends (map (λ h. (n + h, v)) (tab k f))) ≡ true) × (stands v (each pair_ends (map (λ h. (n + h, v)) (tab k f))) ≡ true)
unfolding each tab
ends_at n v zero f g l = absurd (omega arith)
ends_at n v (suc k) f zero l =
    let rest : List ℕ = each pair_ends (map (λ h. (n + h, v)) (tab k (λ i. f (suc i)))) in
    (stands_head (n + f 0) (n + f 0) (v ∷ rest) refl, stands_tail v (n + f 0) (v ∷ rest) (stands_head v v rest refl))
ends_at n v (suc k) f (suc g) l =
    let rest : List ℕ = each pair_ends (map (λ h. (n + h, v)) (tab k (λ i. f (suc i)))) in
    let r = ends_at n v k (λ i. f (suc i)) g (omega arith) in
    (stands_tail (n + f (suc g)) (n + f 0) (v ∷ rest) (stands_tail (n + f (suc g)) v rest r.0), stands_tail v (n + f 0) (v ∷ rest) (stands_tail v v rest r.1))

copy_logged : (n v k g : ℕ) → 1 ≤ k → g < suc k → stands (copy_for_of v n g) (each pair_ends (copies_from n v k)) ≡ true
unfolding copies_from up_to
copy_logged n v k g o l =
    elim (ℕ_discrete g 0) [
      | yes e ↦ rw (eq-eqb g 0 e) (ends_at n v k (λ i. i) 0 (omega arith)).1
      | no m ↦ let d : n + g - 1 ≡ n + (g - 1) = omega arith in rw (ne_eqb g 0 m, d) (ends_at n v k (λ i. i) (g - 1) (omega arith)).0
    ]

module _ (R : Run) (v : ℕ) (sides : List ℕ) where
  abbrev O : Opening
  O = opening_of Triangles R.mesh v sides

  abbrev copy_in : ℕ → ℕ
  copy_in i = copy_for_of v (length R.mesh.particles) (group_at_of O.fan i)

  module _ (e : splits? O R.mesh ≡ true) (gone : Edge → Bool) (es : List Edge) where
    abbrev entries : List Entry
    entries = split_entries O ++ gone_entries gone es ++ []

    abbrev ends : List ℕ
    ends = each pair_ends (splits_of R.log)

    abbrev next : List ℕ
    next = each pair_ends (splits_of (R.log ++ entries))

    next_is : next ≡ ends ++ each pair_ends (copies_from (length R.mesh.particles) v (O.count - 1))
    unfolding opening_of splits_of each
    next_is = ap (each pair_ends) (step_splits O gone es R.log [] refl) ∙ each_append pair_ends (splits_of R.log) (copies_from O.before O.v (O.count - 1))

    in_front : (y : ℕ) → stands y ends ≡ true → stands y next ≡ true
    in_front y h = ap (stands y) next_is ∙ stands_append y ends _ ∙ or_first (stands y ends) _ h

    behind : (y : ℕ) → stands y (each pair_ends (copies_from (length R.mesh.particles) v (O.count - 1))) ≡ true → stands y next ≡ true
    behind y h = ap (stands y) next_is ∙ stands_append y ends _ ∙ or_true (stands y ends) _ h

    two : 2 ≤ O.count
    two = (splits_here O R.mesh e).0

    logs : Logs R.mesh.triangles v copy_in ends next
    logs =
        record {
          here = behind v (copy_logged (length R.mesh.particles) v (O.count - 1) 0 (let c = two in omega arith) (omega arith));
          copies = λ i.
              behind (copy_in i)
              (copy_logged (length R.mesh.particles) v (O.count - 1) (group_at_of O.fan i) (let c = two in omega arith)
              (let h = at_below O.count O.fan i (opening_fits Triangles R.mesh v sides).below in let c = two in omega arith));
          before = in_front;
        }

either_way : (b : Bool) → (b ≡ true) ⊎ (b ≡ false)
either_way true = inl refl
either_way false = inr refl

-- a split of v by any sides
fine_turn : (R : Run) → Indexed R.mesh → (v : ℕ) (sides : List ℕ) → ((x : ℕ) → Fine R x) → (x : ℕ) → Fine (split_by_sides_of Triangles v sides R) x
unfolding split_by_sides_of split_step split_made step_to settled at_longest rewired_triangles opening_of split_ends
fine_turn R X v sides F x = by (splits? (O R v sides) R.mesh) refl (sides_indexed Triangles v sides R X)
  where
    by : (b : Bool) → splits? (O R v sides) R.mesh ≡ b → Indexed (pick b (split_made [] (λ M. M) Triangles (O R v sides) R) R).mesh → Fine (pick b (split_made [] (λ M. M) Triangles (O R v sides) R) R) x
    by false e Y = F x
    by true e Y =
        let S = split_made [] (λ M. M) Triangles (O R v sides) R in
        let gone = straddles Triangles (at_longest Triangles (O R v sides) R.mesh) (O R v sides) in
        let es = (at_longest Triangles (O R v sides) R.mesh).edges in
        ⊎_elim (λ s. inl s)
        (λ s.
        inr
        (joined_behind R.mesh.triangles v (copy_in R v sides) (ends R v sides e gone es) (next R v sides e gone es) (logs R v sides e gone es) x
        (λ T. false_true (sym s ∙ touching_pinched S Y x (record { triangle = T.triangle; mine = T.mine; split = T.split; logged = T.logged; theirs = T.theirs })))
        (met_or_joined R x (F x))))
        (either_way (stands x (pinched Triangles S)))

-- all candidates of a blade in their turns
fine_cut : (B : Blade) (l : List ℕ) (R : Run) → Indexed R.mesh → ((x : ℕ) → Fine R x) → (x : ℕ) → Fine (fold (split_by_blade Triangles B) R l) x
unfolding fold split_by_blade
fine_cut B [] R X F x = F x
fine_cut B (v ∷ l) R X F x = fine_cut B l (split_by_blade Triangles B R v) (sides_indexed Triangles v _ R X) (fine_turn R X v _ F) x

cut_indexed : (B : Blade) (l : List ℕ) (R : Run) → Indexed R.mesh → Indexed (fold (split_by_blade Triangles B) R l).mesh
unfolding fold split_by_blade
cut_indexed B [] R X = X
cut_indexed B (v ∷ l) R X = cut_indexed B l (split_by_blade Triangles B R v) (sides_indexed Triangles v _ R X)

-- ---- the closing pass

-- x as the only one that is seen before the pass begins
seen_before : (S : Run) → Indexed S.mesh → (x : ℕ) → Firm S.mesh x → Under S (x ∷ []) S
seen_before S X x f =
    let U = begun S X in
    record {
      indexed = U.indexed;
      more = U.more;
      firm = λ y c.
          ⊎_elim (λ e. ⊎_elim (λ d. subst (λ (z : ℕ). Firm S.mesh z) d f) (λ d. absurd (false_true d)) (stands_case y x [] e)) (λ l. U.firm y (inr l)) c;
      behind = U.behind;
      log = U.log;
      copies = U.copies;
    }

-- who is in the list of the pass, or was joined, is pinned or joined behind it
pass_fine : (S : Run) → Indexed S.mesh → (x : ℕ) → Fine S x → Firm (split_pinched_of Triangles S).mesh x
unfolding split_pinched_of
pass_fine S X x c =
    ⊎_elim (λ e. let r = pass S (pinched Triangles S) [] S (begun S X) in r.1.0.firm x (inl (r.1.1 x (inr e))))
    (λ J. let r = pass S (pinched Triangles S) (x ∷ []) S (seen_before S X x (inr J)) in r.1.0.firm x (inl (r.1.1 x (inl (stands_head x x [] refl)))))
    c

-- where nothing split, the list of the pass is empty
nobody_near : (S : Run) (x : ℕ) → empty (splits_of S.log) ≡ true → Fine S x → Joined S.mesh.triangles x
unfolding split_ends each
nobody_near S x e c =
    ⊎_elim (λ s. let T = pinched_meets S x s in absurd (by (splits_of S.log) e T.split T.logged)) (λ J. J) c
  where
    by : (l : List (ℕ × ℕ)) → empty l ≡ true → (y : ℕ) → stands y (each pair_ends l) ≡ true → ⊥
    by [] h y s = false_true s
    by (cs ∷ l) h y s = false_true h

cut_fine : (B : Blade) (M : Mesh) → Indexed M → Unpinched M → (x : ℕ) → Firm (cut_facets_of B (marked_by Triangles B (start M))).mesh x
unfolding cut_facets_of marked_by step_to start
cut_fine B M X U x =
    let R = marked_by Triangles B (start M) in
    let S = fold (split_by_blade Triangles B) R (candidates B M) in
    by S (cut_indexed B (candidates B M) R X) (fine_cut B (candidates B M) R X (λ y. inr (U y)) x) (empty (splits_of S.log)) refl
  where
    by : (S : Run) → Indexed S.mesh → Fine S x → (b : Bool) → empty (splits_of S.log) ≡ b → Firm (pick b S (split_pinched_of Triangles S)).mesh x
    by S Y F true e = inr (nobody_near S x e F)
    by S Y F false e = pass_fine S Y x F

-- ---- the call

-- An accepted cut of triangles, in either edition, in which no corner was pinched: after it every particle, near or far, is pinned or has all its triangles joined.
pub cut_all_firm : (sized : Bool) (M : Mesh) (n : ℕ) (line : Line) (f : Float) (L : Rooms) (M' : Mesh) (log : List Entry) (c : Bool)
    → kind_of M ≡ Triangles → Unpinched M → cut_call sized M n line f L ≡ done M' log c
    → (x : ℕ) → Firm M' x
unfolding cut_call cut cut_along
cut_all_firm sized M n line f L M' log c k U e x =
    let u = unless_done _ _ M' log c e in
    let P = (cut_no_refusal sized M n line f L u.0).0 in
    let B = blade_of n line in
    let d = outcome_done L (cut_facets_of B (marked_by Triangles B (start M))) M' log c (subst (λ (q : Kind). outcome L (cut q B f (start M)) ≡ done M' log c) k u.1) in
    subst (λ (N : Mesh). Firm N x) d.0 (cut_fine B M (accepted_indexed M P.indices) U x)
