-- Laws of bodies: the chains of elements that touch and the chains of particles that lie together say the same, so labels of elements and roots of particles do too.
-- The count of bodies is the number of classes of elements. Assumes nothing.
use mathlib.Core.Path.{◌≡◌, refl, sym, ◌∙◌, ap}
use mathlib.Core.Bool.{Bool, true, false, not, ◌&&◌, ◌||◌, false≢true}
use mathlib.Core.Option.{none, some}
use mathlib.Core.List.{List, [], ◌∷◌}
use Prim.Native.Nat.{ℕ, zero, suc, ◌<◌, ◌≤◌, zero-le, suc-le-suc}
use native.Mathlib.Omega.{arith}
use native.Mathlib.Nat.{not-suc-le-zero, le_of_suc-le-suc}
use native.Mathlib.Decide.{ℕ_discrete, dec_lt}
use borrow.Author.Tests.{eq-eqb, ne_eqb}
use lib.Dec.{eqb}
use lib.ListN.{length, get_or}
use Rattle.lists.specs.Lists.{pick, stands, any, distinct}
use Rattle.lists.specs.Chain.{Chain, stay, ahead, back}
use Rattle.lists.specs.Labels.{Lowest, Joins}
use Rattle.lists.proofs.Chains.{chain_map, chain_keeps}
use Rattle.lists.proofs.Labelled.{lowest_same, lowest_chain, labelled_joined, labelled_length}
use Rattle.lists.proofs.Sifts.{any_get, any_made, or_true, stands_get, stands_made}
use Rattle.model.specs.Mesh.{Mesh}
use Rattle.model.specs.Elements.{Element, kind_of, elements_of}
use Rattle.model.specs.Pieces.{corners_at, touch, body_labels, bodies, body_of, apart, spans}
use Rattle.piece_classes.specs.Classes.{Holds, held_by, ShareOne, Together, Bodies}
use Rattle.piece_classes.proofs.Counts.{labels_stand, classes_map, classes_agree}

-- ---- elements that touch

-- the test of which elements touch, and the pairs that it joins
abbrev pub touching : List Element → ℕ → ℕ → Bool
touching es i j = touch (corners_at es i) (corners_at es j)

abbrev pub Touch : List Element → ℕ → ℕ → Type 0
Touch es = Joins (touching es) (length es)

module _ (es : List Element) where
  -- the test is passed exactly where the two share a particle
  touch_share : (i j : ℕ) → i < length es → j < length es → touching es i j ≡ true → ShareOne es i j
  touch_share i j l m t =
      let w = any_get (λ x. stands x (corners_at es j)) (corners_at es i) 0 t in
      record {
        particle = get_or (corners_at es i) w.0 0;
        in_first = (l, stands_made (get_or (corners_at es i) w.0 0) (corners_at es i) w.0 w.1.0 refl);
        in_second = (m, w.1.1);
      }

  share_touch : (i j : ℕ) → ShareOne es i j → touching es i j ≡ true
  share_touch i j S =
      let w = stands_get S.particle (corners_at es i) S.in_first.1 in
      any_made (λ x. stands x (corners_at es j)) (corners_at es i) w.0 0 w.1.0 (rw w.1.1 S.in_second.1)

  turned : (i j : ℕ) → ShareOne es i j → ShareOne es j i
  turned i j S = record { particle = S.particle; in_first = S.in_second; in_second = S.in_first }

  touched : (i j : ℕ) → i < j → ShareOne es i j → Touch es i j
  touched i j o S = record { order = o; within = S.in_second.0; joined = share_touch i j S }

  -- the chains of both are the same
  pub touch_shares : (i j : ℕ) → Touch es i j → Chain (ShareOne es) i j
  touch_shares i j T = let o = T.order in let w = T.within in ahead (touch_share i j (omega arith) w T.joined) stay

  pub share_touches : (i j : ℕ) → ShareOne es i j → Chain (Touch es) i j
  share_touches i j S =
      elim (ℕ_discrete i j) [
        | yes e ↦ rw e stay
        | no n ↦
            elim (dec_lt i j) [
              | yes o ↦ ahead (touched i j o S) stay
              | no m ↦ back (touched j i (omega arith) (turned i j S)) stay
            ]
      ]

  -- equal labels exactly where a chain of elements that touch joins
  pub label_chain : (i j : ℕ) → i < length es → j < length es → get_or (body_labels es) i 0 ≡ get_or (body_labels es) j 0 → Chain (Touch es) i j
  unfolding body_labels
  label_chain i j l m = (labelled_joined (touching es) (length es) i j l m).0

  pub chain_label : (i j : ℕ) → i < length es → j < length es → Chain (Touch es) i j → get_or (body_labels es) i 0 ≡ get_or (body_labels es) j 0
  unfolding body_labels
  chain_label i j l m = (labelled_joined (touching es) (length es) i j l m).1

  pub labels_length : length (body_labels es) ≡ length es
  unfolding body_labels
  labels_length = labelled_length (touching es) (length es)

  -- elements that hold one particle have one label
  label_same : (i j x : ℕ) → Holds es i x → Holds es j x → get_or (body_labels es) i 0 ≡ get_or (body_labels es) j 0
  label_same i j x h g = chain_label i j h.0 g.0 (share_touches i j (record { particle = x; in_first = h; in_second = g }))

-- ---- the body of a particle

-- an element that holds x makes it held
pub holds_held : (es : List Element) (i x : ℕ) → Holds es i x → held_by es x ≡ true
unfolding held_by any
holds_held [] i x h = absurd (not-suc-le-zero h.0)
holds_held (e ∷ es) zero x h = rw h.1
holds_held (e ∷ es) (suc i) x h = or_true (stands x e.corners) (held_by es x) (holds_held es i x (le_of_suc-le-suc h.0, h.1))

-- a particle that some element holds has the label of one that holds it, and any other particle none
pub body_held : (es : List Element) (ls : List ℕ) (x : ℕ) → length es ≤ length ls → held_by es x ≡ true
    → (i : ℕ) × (Holds es i x × (body_of es ls x ≡ some (get_or ls i 0)))
unfolding held_by any body_of
body_held [] ls x h t = absurd (false≢true t)
body_held (e ∷ es) [] x h t = absurd (not-suc-le-zero h)
body_held (e ∷ es) (l ∷ ls) x h t = by (stands x e.corners) refl (body_held es ls x (le_of_suc-le-suc h)) t
  where
    by : (b : Bool) → stands x e.corners ≡ b → (held_by es x ≡ true → (i : ℕ) × (Holds es i x × (body_of es ls x ≡ some (get_or ls i 0)))) → b || held_by es x ≡ true
        → (i : ℕ) × (Holds (e ∷ es) i x × (pick b (some l) (body_of es ls x) ≡ some (get_or (l ∷ ls) i 0)))
    by true s f u = (0, ((suc-le-suc zero-le, s), refl))
    by false s f u = let w = f u in (suc w.0, ((suc-le-suc w.1.0.0, w.1.0.1), w.1.1))

pub body_none : (es : List Element) (ls : List ℕ) (x : ℕ) → held_by es x ≡ false → body_of es ls x ≡ none
unfolding held_by any body_of
body_none [] ls x t = refl
body_none (e ∷ es) [] x t = refl
body_none (e ∷ es) (l ∷ ls) x t = by (stands x e.corners) (body_none es ls x) t
  where
    by : (b : Bool) → (held_by es x ≡ false → body_of es ls x ≡ none) → b || held_by es x ≡ false → pick b (some l) (body_of es ls x) ≡ none
    by true f u = absurd (false≢true (sym u))
    by false f u = f u

module _ (es : List Element) where
  -- it is the label of any element that holds it
  pub body_is : (i x : ℕ) → Holds es i x → body_of es (body_labels es) x ≡ some (get_or (body_labels es) i 0)
  body_is i x h =
      let w = body_held es (body_labels es) x (omega (arith, labels_length es)) (holds_held es i x h) in
      w.1.1 ∙ ap some (label_same es w.0 i x w.1.0 h)

  -- ---- chains of elements and chains of particles

  -- where elements i and j hold x and y: a chain of elements that touch joins i to j exactly where a chain of particles that lie together joins x to y
  pub touch_together : {i j : ℕ} → Chain (Touch es) i j → (x y : ℕ) → Holds es i x → Holds es j y → Chain (Together es) x y
  touch_together {i} stay x y h g = ahead (record { element = i; holds_first = h; holds_second = g }) stay
  touch_together {i} (ahead {j = m} T c) x y h g =
      let o = T.order in
      let w = T.within in
      let S = touch_share es i m (omega arith) w T.joined in
      ahead (record { element = i; holds_first = h; holds_second = S.in_first }) (touch_together c S.particle y S.in_second g)
  touch_together {i} (back {j = m} T c) x y h g =
      let o = T.order in
      let w = T.within in
      let S = touch_share es m i (omega arith) w T.joined in
      ahead (record { element = i; holds_first = h; holds_second = S.in_second }) (touch_together c S.particle y S.in_first g)

  together_label : (i j x y : ℕ) → Chain (Together es) x y → Holds es i x → Holds es j y → get_or (body_labels es) i 0 ≡ get_or (body_labels es) j 0
  together_label i j x y c h g =
      let e : body_of es (body_labels es) x ≡ body_of es (body_labels es) y = chain_keeps (body_of es (body_labels es))
      (λ a b T. body_is T.element a T.holds_first ∙ sym (body_is T.element b T.holds_second)) c in
      let s : some (get_or (body_labels es) i 0) ≡ some (get_or (body_labels es) j 0) = sym (body_is i x h) ∙ e ∙ body_is j y g in
      cc

  pub together_touch : (i j x y : ℕ) → Chain (Together es) x y → Holds es i x → Holds es j y → Chain (Touch es) i j
  together_touch i j x y c h g = label_chain es i j h.0 g.0 (together_label i j x y c h g)

  -- ---- labels and roots

  module _ (roots : List ℕ) (T : Lowest (Together es) (length roots) roots) where
    -- labels are equal exactly where roots are
    pub label_root : (i j x y : ℕ) → Holds es i x → Holds es j y → x < length roots → y < length roots
        → get_or (body_labels es) i 0 ≡ get_or (body_labels es) j 0 → get_or roots x 0 ≡ get_or roots y 0
    label_root i j x y h g l m e = lowest_same T x y l m (touch_together (label_chain es i j h.0 g.0 e) x y h g)

    pub root_label : (i j x y : ℕ) → Holds es i x → Holds es j y → x < length roots → y < length roots
        → get_or roots x 0 ≡ get_or roots y 0 → get_or (body_labels es) i 0 ≡ get_or (body_labels es) j 0
    root_label i j x y h g l m e = together_label i j x y (lowest_chain T x y l m e) h g

    -- two particles lie in different bodies where elements hold both and their roots differ
    both_held : (x y : ℕ) → x < length roots → y < length roots → held_by es x ≡ true → held_by es y ≡ true
        → apart (body_of es (body_labels es) x) (body_of es (body_labels es) y) ≡ not (eqb (get_or roots x 0) (get_or roots y 0))
    both_held x y l m s t =
        let u = body_held es (body_labels es) x (omega (arith, labels_length es)) s in
        let w = body_held es (body_labels es) y (omega (arith, labels_length es)) t in
        let d : eqb (get_or (body_labels es) u.0 0) (get_or (body_labels es) w.0 0) ≡ eqb (get_or roots x 0) (get_or roots y 0) =
        elim (ℕ_discrete (get_or roots x 0) (get_or roots y 0)) [
          | yes e ↦ eq-eqb _ _ (root_label u.0 w.0 x y u.1.0 w.1.0 l m e) ∙ sym (eq-eqb _ _ e)
          | no n ↦ ne_eqb _ _ (λ e. n (label_root u.0 w.0 x y u.1.0 w.1.0 l m e)) ∙ sym (ne_eqb _ _ n)
        ] in
        rw (u.1.1, w.1.1, d)

    spans_by : (x y : ℕ) → x < length roots → y < length roots → (s t : Bool) → held_by es x ≡ s → held_by es y ≡ t
        → apart (body_of es (body_labels es) x) (body_of es (body_labels es) y) ≡ s && (t && not (eqb (get_or roots x 0) (get_or roots y 0)))
    spans_by x y l m true true s t = both_held x y l m s t
    spans_by x y l m true false s t =
        let u = body_held es (body_labels es) x (omega (arith, labels_length es)) s in
        rw (u.1.1, body_none es (body_labels es) y t)
    spans_by x y l m false t' s t = rw (body_none es (body_labels es) x s)

    pub spans_by_root : (x y : ℕ) → x < length roots → y < length roots
        → spans es (body_labels es) x y ≡ held_by es x && (held_by es y && not (eqb (get_or roots x 0) (get_or roots y 0)))
    unfolding spans
    spans_by_root x y l m = spans_by x y l m (held_by es x) (held_by es y) refl refl

-- ---- classes

-- the chains of both relations are the same, so the distinct labels stand for the bodies
pub bodies_stand : (es : List Element) → Bodies es (distinct (body_labels es))
unfolding body_labels
bodies_stand es = classes_map (λ i j c. chain_map (touch_shares es) c) (λ i j c. chain_map (share_touches es) c) (labels_stand (touching es) (length es))

-- The count of bodies is the number of classes: there are so many elements that no chain of shared particles joins two of them and one joins each element to one of them.
pub bodies_are_classes : (M : Mesh) → (reps : List ℕ) × ((length reps ≡ bodies M) × Bodies (elements_of (kind_of M) M) reps)
unfolding bodies
bodies_are_classes M = let es = elements_of (kind_of M) M in (distinct (body_labels es), (refl, bodies_stand es))

-- So it is no other number: however elements are chosen that stand for the bodies, there are so many.
pub bodies_only : (M : Mesh) (reps : List ℕ) → Bodies (elements_of (kind_of M) M) reps → length reps ≡ bodies M
bodies_only M reps C = let w = bodies_are_classes M in classes_agree C w.1.1 ∙ w.1.0
