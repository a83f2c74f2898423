-- A list passed element by element: each is changed in its place, and what it gives stands behind the list. Assumes nothing.
use Prim.Native.Nat.{ℕ, suc, ◌+◌, ◌<◌, ◌≤◌}
use native.Mathlib.Omega.{arith}
use native.Mathlib.Numerals.{add-one}
use mathlib.Core.Path.{◌≡◌, sym, ap, ap₂, ◌∙◌}
use mathlib.Core.List.{List, [], ◌∷◌, ◌++◌, map, map-append, append-nil, append_assoc}
use lib.ListN.{length, get_or, take, drop, set, length-append, length-map, length-drop, take-append-drop}
use lib.Seq.{drop-cons, take-suc, set_at, get_or_at, take-length, drop-length, length-take-le}
use Rattle.lists.specs.Lists.{each}
use Rattle.lists.proofs.Sifts.{each_append}

module _ {A : Type 0} (f : A → A) (h : A → List A) where
  -- i elements were passed: f changed each, and what h makes of each stands behind the list
  pub passed : ℕ → List A → List A
  passed i l = map f (take i l) ++ (drop i l ++ each h (take i l))

  pub passed_start : (l : List A) → l ≡ passed 0 l
  unfolding passed each
  passed_start l = sym (append-nil l)

  pub passed_end : (l : List A) → passed (length l) l ≡ map f l ++ each h l
  unfolding passed
  passed_end l =
      ap₂ (λ (s t : List A). map f s ++ (t ++ each h s)) (take-length l) (drop-length l)

  front_long : (i : ℕ) (l : List A) → i ≤ length l → length (map f (take i l)) ≡ i
  front_long i l b = length-map (take i l) f ∙ length-take-le i l b

  module _ (l : List A) (i : ℕ) (d : A) (b : i < length l) where
    -- how it stands at place i
    pub passed_open : passed i l ≡ map f (take i l) ++ (get_or l i d ∷ (drop (suc i) l ++ each h (take i l)))
    unfolding passed
    passed_open = ap (λ (s : List A). map f (take i l) ++ (s ++ each h (take i l))) (drop-cons l i d b)

    pub passed_get : get_or (passed i l) i d ≡ get_or l i d
    passed_get =
        ap (λ (s : List A). get_or s i d) passed_open
        ∙ get_or_at (map f (take i l)) (get_or l i d) (drop (suc i) l ++ each h (take i l)) d i (front_long i l (omega arith))

    pub passed_step : set (passed i l) i (f (get_or l i d)) ++ h (get_or l i d) ≡ passed (i + 1) l
    unfolding passed each
    passed_step =
        let a = get_or l i d in
        let F = map f (take i l) in
        let D = drop (suc i) l in
        let E = each h (take i l) in
        let t : take (i + 1) l ≡ take i l ++ (a ∷ []) = ap (λ (z : ℕ). take z l) (add-one i) ∙ take-suc l i d b in
        let left : set (passed i l) i (f a) ++ h a ≡ F ++ (f a ∷ (D ++ (E ++ h a))) =
        ap (λ (s : List A). s ++ h a) (ap (λ (s : List A). set s i (f a)) passed_open ∙ set_at F a (D ++ E) (f a) i (front_long i l (omega arith)))
        ∙ append_assoc F (f a ∷ (D ++ E)) (h a)
        ∙ ap (λ (s : List A). F ++ (f a ∷ s)) (append_assoc D E (h a)) in
        let right : passed (i + 1) l ≡ F ++ (f a ∷ (D ++ (E ++ h a))) =
        ap₂ (λ (s : List A) (z : ℕ). map f s ++ (drop z l ++ each h s)) t (add-one i)
        ∙ ap₂ (λ (s u : List A). s ++ (D ++ u)) (map-append f (take i l) (a ∷ [])) (each_append h (take i l) (a ∷ []) ∙ ap (λ (s : List A). E ++ s) (append-nil (h a)))
        ∙ append_assoc F (f a ∷ []) (D ++ (E ++ h a)) in
        left ∙ sym right

  -- it only grows
  pub passed_long : (i : ℕ) (l : List A) → i ≤ length l → length (passed i l) ≤ length (map f l ++ each h l)
  unfolding passed
  passed_long i l b =
      let e : length (each h l) ≡ length (each h (take i l)) + length (each h (drop i l)) =
      ap (λ (s : List A). length (each h s)) (sym (take-append-drop i l)) ∙ ap length (each_append h (take i l) (drop i l)) ∙ length-append (each h (take i l)) (each h (drop i l)) in
      omega (
        arith,
        length-append (map f (take i l)) (drop i l ++ each h (take i l)),
        length-append (drop i l) (each h (take i l)),
        length-append (map f l) (each h l),
        front_long i l b,
        length-drop i l,
        length-map l f,
      )
