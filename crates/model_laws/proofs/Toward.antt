-- `toward` is the source's `group_toward` wherever a split asks for it: the source's first choice, the lowest group of a fan element that shares a particle besides v,
-- finds none there. Assumes nothing.
use mathlib.Core.Path.{◌≡◌, refl, sym}
use mathlib.Core.Bool.{Bool, true, false, not, ◌&&◌}
use mathlib.Core.Logic.{⊎_elim}
use mathlib.Core.List.{List, [], ◌∷◌, map}
use mathlib.Core.Option.{none as nothing}
use Prim.Native.Nat.{ℕ, ◌<◌}
use native.Mathlib.Omega.{arith}
use native.Mathlib.Decide.{ℕ_discrete}
use borrow.Author.Tests.{eq-eqb, ne_eqb}
use lib.Dec.{eqb}
use lib.Ieee.{neg}
use Rattle.lists.specs.Lists.{stands, any, all, sift, find, fold, head_or, rising}
use Rattle.float.specs.Numbers.{largest}
use Rattle.blade.specs.Points.{minus_of, sum_of}
use Rattle.fan.specs.Fan.{Fan}
use Rattle.fan.specs.Groups.{groups_of, count_of}
use Rattle.fan.proofs.Grouped.{grouped}
use Rattle.model.specs.Mesh.{Mesh}
use Rattle.model.specs.Elements.{Kind, Element, rest_of, besides, elements_of, fan_of, grid_of}
use Rattle.model.specs.Split.{Part, Opening, opening_of, ring, scored, toward}
use Rattle.model.specs.Trace.{All}
use Rattle.model_laws.proofs.Splitting.{Sided}
use Rattle.model_laws.proofs.Laws.{false_true, all_at, all_each, all_over, all_sifted, sifted_all, map_none, sift_none, none_sifted, rising_none, none_rising, find_none, stands_case, stands_not}
use Rattle.model_laws.proofs.Traced.{parts_all, Any, all_any}

-- the source's words: the lowest group of the fan elements that hold one of the particles besides v, else the group whose fan points their way
unfoldable pub group_toward : Mesh → Opening → List ℕ → ℕ
group_toward M O ws =
    let dir = sum_of (map (λ w. minus_of (rest_of M w) (rest_of M O.v)) (besides O.v ws)) in
    head_or (fold (scored M O.v dir) (record { score = neg largest; group = 0 }) O.fan).group
    (rising O.count (map (λ (p : Part). p.group) (sift (λ (p : Part). any (λ y. not (eqb y O.v) && stands y ws) p.corners) O.fan)))

-- ---- no fan element holds x

abbrev pub Below : Opening → Type 0
Below O = All (λ (p : Part). p.group < O.count) O.fan

abbrev pub Without : ℕ → Opening → Type 0
Without x O = All (λ (p : Part). stands x p.corners ≡ false) O.fan

pub ring_none : (O : Opening) (x : ℕ) → Below O → ring O x ≡ [] → Without x O
unfolding ring
ring_none O x below e =
    none_sifted (λ (p : Part). stands x p.corners) O.fan
    (map_none (λ (p : Part). p.group) _
    (rising_none O.count _ (all_sifted (λ (p : Part). p.group < O.count) (λ (p : Part). p.group) (λ g. g < O.count) (λ p h. h) (λ (p : Part). stands x p.corners) O.fan below) e))

-- so none holds a particle besides v of a list whose only particle besides v is x
abbrev Only : ℕ → ℕ → List ℕ → Type 0
Only v x ws = (y : ℕ) → stands y ws ≡ true → (y ≡ v → ⊥) → x ≡ y

other_not : (v x y : ℕ) (ws : List ℕ) → Only v x ws → (y ≡ x → ⊥) → (not (eqb y v) && stands y ws) ≡ false
other_not v x y ws only n = by (ℕ_discrete y v) (stands y ws) refl
  where
    by : Dec (y ≡ v) → (b : Bool) → stands y ws ≡ b → (not (eqb y v) && b) ≡ false
    by (yes d) b e = rw (eq-eqb y v d)
    by (no m) true e = absurd (n (sym (only y e m)))
    by (no m) false e = rw (ne_eqb y v m)

others_none : (v x : ℕ) (ws : List ℕ) → Only v x ws → (l : List ℕ) → stands x l ≡ false → any (λ y. not (eqb y v) && stands y ws) l ≡ false
unfolding any
others_none v x ws only [] e = refl
others_none v x ws only (y ∷ l) e = let s = stands_not x y l e in rw (other_not v x y ws only s.0) (others_none v x ws only l s.1)

toward_without : (M : Mesh) (O : Opening) (x : ℕ) (ws : List ℕ) → Without x O → Only O.v x ws → besides O.v ws ≡ x ∷ [] → group_toward M O ws ≡ toward M O x
unfolding group_toward toward
toward_without M O x ws w only e =
    let s =
    sift_none (λ (p : Part). any (λ y. not (eqb y O.v) && stands y ws) p.corners) O.fan
    (all_over (λ (p : Part). stands x p.corners ≡ false) (λ (p : Part). any (λ y. not (eqb y O.v) && stands y ws) p.corners ≡ false) (λ p h. others_none O.v x ws only p.corners h)
    O.fan w) in
    rw (e, s, none_rising O.count)

-- an edge or a boundary entry between v and x, either way round
abbrev pub Both : Mesh → Opening → ℕ → Type 0
Both M O x = (group_toward M O (O.v ∷ x ∷ []) ≡ toward M O x) × (group_toward M O (x ∷ O.v ∷ []) ≡ toward M O x)

both_without : (M : Mesh) (O : Opening) (x : ℕ) → (x ≡ O.v → ⊥) → Without x O → Both M O x
unfolding besides sift
both_without M O x n w =
    let v = O.v in
    let end : (y : ℕ) → stands y (x ∷ []) ≡ true → x ≡ y = λ y e. ⊎_elim (λ d. d) (λ d. absurd (false_true d)) (stands_case y x [] e) in (
      toward_without M O x (v ∷ x ∷ []) w (λ y e m. ⊎_elim (λ d. absurd (m (sym d))) (λ d. end y d) (stands_case y v (x ∷ []) e)) (rw (eq-eqb v v refl, ne_eqb x v n)),
      toward_without M O x (x ∷ v ∷ []) w (λ y e m. ⊎_elim (λ d. d) (λ d. ⊎_elim (λ f. absurd (m (sym f))) (λ f. absurd (false_true f)) (stands_case y v [] d)) (stands_case y x (v ∷ []) e))
          (rw (eq-eqb v v refl, ne_eqb x v n)),
    )

-- for an edge `toward` is asked where the ring of x is empty
pub toward_edge : (M : Mesh) (O : Opening) (x : ℕ) → (x ≡ O.v → ⊥) → Below O → ring O x ≡ [] → Both M O x
toward_edge M O x n below e = both_without M O x n (ring_none O x below e)

-- for a boundary entry where no fan element, all of which hold v, holds both ends
without_both : (v x : ℕ) (l : List Part) → All (λ (p : Part). stands v p.corners ≡ true) l
    → All (λ (p : Part). all (λ y. stands y p.corners) (v ∷ x ∷ []) ≡ false) l → All (λ (p : Part). stands x p.corners ≡ false) l
unfolding all
without_both v x [] h u = tt
without_both v x (p ∷ l) h u = (second (stands v p.corners) (stands x p.corners) h.0 u.0, without_both v x l h.1 u.1)
  where
    second : (a b : Bool) → a ≡ true → (a && (b && true)) ≡ false → b ≡ false
    second true true q e = e
    second true false q e = refl
    second false b q e = absurd (false_true q)

pub toward_side : (M : Mesh) (O : Opening) (x : ℕ) → (x ≡ O.v → ⊥) → All (λ (p : Part). stands O.v p.corners ≡ true) O.fan
    → find (λ (p : Part). all (λ y. stands y p.corners) (O.v ∷ x ∷ [])) O.fan ≡ nothing → Both M O x
toward_side M O x n holds e = both_without M O x n (without_both O.v x O.fan holds (find_none (λ (p : Part). all (λ y. stands y p.corners) (O.v ∷ x ∷ [])) O.fan e))

-- ---- an opening is such a fan

pub opening_below : (k : Kind) (M : Mesh) (v : ℕ) (sides : List ℕ) → Sided k M v sides → Below (opening_of k M v sides)
unfolding opening_of grid_of
opening_below k M v sides S =
    let F : Fan = grid_of k v (fan_of k M v) sides in
    let G = grouped F (λ a h. all_at (λ s. s < 2) sides a 0 (omega arith) S.two) in
    parts_all Any (λ g. g < count_of F) (λ (p : Part). p.group < count_of F) (λ e g h u. u) (fan_of k M v) (groups_of F) (all_any (fan_of k M v)) (all_each (λ g. g < count_of F) (groups_of F) (λ i u. G.below i (omega (arith, G.every))))

pub opening_holds : (k : Kind) (M : Mesh) (v : ℕ) (sides : List ℕ) → All (λ (p : Part). stands v p.corners ≡ true) (opening_of k M v sides).fan
unfolding opening_of fan_of
opening_holds k M v sides =
    let F : Fan = grid_of k v (fan_of k M v) sides in
    parts_all (λ (e : Element). stands v e.corners ≡ true) Any (λ (p : Part). stands v p.corners ≡ true) (λ e g h u. h) (fan_of k M v) (groups_of F) (sifted_all (λ (e : Element). stands v e.corners) (elements_of k M)) (all_any (groups_of F))
