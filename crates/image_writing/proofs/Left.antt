-- Laws of a list without the places of a rising list: its length, what stands behind the last place, and runs between the places. Assumes nothing.
use Prim.Native.Nat.{ℕ, zero, suc, ◌+◌, ◌-◌, ◌*◌, ◌≤◌, ◌<◌}
use native.Mathlib.Numerals.{add-one}
use native.Mathlib.Omega.{arith}
use native.Mathlib.Nat.{zero-mul}
use mathlib.Core.Path.{◌≡◌, refl, sym, ap, ap₂, subst, ◌∙◌}
use mathlib.Core.List.{List, [], ◌∷◌, ◌++◌, map, append_assoc, append-nil}
use lib.ListN.{length, get_or, take, drop, length-append, length-drop, take-append-drop}
use lib.Seq.{take-take, take-suc, take-add, take-append-le, drop-append-le, drop-length, length-take-le, get_or-take}
use Rattle.lists.specs.LeftOut.{Rising, without, left_out}
use Rattle.lists.proofs.Risen.{rising_room, rising_few, left_out_last}
use Rattle.columns.specs.Block.{stack}
use Rattle.columns.proofs.Cells.{next_col}
use Rattle.image_writing.specs.Stores.{fronts_of, left_fronts}

-- ---- rising lists

-- no number rises
pub none_rising : (list : List ℕ) (e : ℕ) → Rising list 0 e
none_rising list e = record { rises = λ i j h k. absurd (omega arith); below = λ i h. absurd (omega arith) }

-- behind the first number
rising_tail : (i : ℕ) (is : List ℕ) (e : ℕ) → Rising (i ∷ is) (length (i ∷ is)) e → Rising is (length is) e
rising_tail i is e R = record { rises = λ j k h m. R.rises (suc j) (suc k) (omega arith) (omega arith); below = λ j h. R.below (suc j) (omega arith) }

-- the first j of them, where they are below e
pub rising_front : (list : List ℕ) (s n j e : ℕ) → Rising list s n → j ≤ s → s ≤ length list → ((i : ℕ) → i < j → get_or list i 0 < e) → Rising (take j list) (length (take j list)) e
rising_front list s n j e R few long low =
    let z = length-take-le j list (omega arith) in
    record {
      rises = λ a b h k. subst (λ (m : ℕ). m < get_or (take j list) b 0) (sym (get_or-take j list a 0 (omega (arith, z)))) (subst (λ (m : ℕ). get_or list a 0 < m) (sym (get_or-take j list b 0 (omega (arith, z)))) (R.rises a b h (omega (arith, z))));
      below = λ a h. subst (λ (m : ℕ). m < e) (sym (get_or-take j list a 0 (omega (arith, z)))) (low a (omega (arith, z)));
    }

-- all of them
pub rising_all : (list : List ℕ) (s n : ℕ) → Rising list s n → s ≤ length list → Rising (take s list) (length (take s list)) n
rising_all list s n R long = rising_front list s n s n R (omega arith) long R.below

-- ---- a list without one element

module _ {A : Type 0} where
  without_length : (i : ℕ) (l : List A) → i < length l → length (without i l) + 1 ≡ length l
  unfolding without
  without_length i l h = omega (arith, length-append (take i l) (drop (suc i) l), length-take-le i l (omega arith), length-drop (suc i) l)

  without_append : (i : ℕ) (x y : List A) → i < length x → without i (x ++ y) ≡ without i x ++ y
  unfolding without
  without_append i x y h =
      ap₂ (λ (a b : List A). a ++ b) (take-append-le i x y (omega arith)) (drop-append-le (suc i) x y (omega arith)) ∙ sym (append_assoc (take i x) (drop (suc i) x) y)

  -- without the last of the first e + 1
  without_last : (e : ℕ) (l : List A) → e < length l → without e (take (e + 1) l) ≡ take e l
  unfolding without
  without_last e l h =
      let z : length (take (e + 1) l) ≡ suc e = length-take-le (e + 1) l (omega arith) ∙ add-one e in
      ap₂ (λ (a b : List A). a ++ b) (take-take e (e + 1) l (omega arith)) (ap (λ (m : ℕ). drop m (take (e + 1) l)) (sym z) ∙ drop-length (take (e + 1) l)) ∙ append-nil (take e l)

without_map : {A B : Type 0} (g : A → B) (i : ℕ) (l : List A) → without i (map g l) ≡ map g (without i l)
unfolding without
without_map g zero [] = refl
without_map g (suc i) [] = refl
without_map g zero (a ∷ l) = refl
without_map {A} {B} g (suc i) (a ∷ l) = ap (λ (t : List B). g a ∷ t) (without_map g i l)

-- ---- a list without the listed places

-- what is left of the list and the places are as many as the list has
pub left_length : {A : Type 0} (is : List ℕ) (l : List A) → Rising is (length is) (length l) → length (left_out is l) + length is ≡ length l
unfolding left_out
left_length [] l R = omega arith
left_length (i ∷ is) l R =
    let a = left_length is l (rising_tail i is (length l) R) in
    let b = rising_room R 0 (omega arith) in
    omega (arith, a, without_length i (left_out is l) (omega (arith, a, b)))

-- what stands behind every listed place stays
pub left_append : {A : Type 0} (is : List ℕ) (x y : List A) → Rising is (length is) (length x) → left_out is (x ++ y) ≡ left_out is x ++ y
unfolding left_out
left_append [] x y R = refl
left_append (i ∷ is) x y R =
    let t = rising_tail i is (length x) R in
    let b = rising_room R 0 (omega arith) in
    ap (without i) (left_append is x y t) ∙ without_append i (left_out is x) y (omega (arith, left_length is x t, b))

-- what g makes of what is left
pub left_map : {A B : Type 0} (g : A → B) (is : List ℕ) (l : List A) → left_out is (map g l) ≡ map g (left_out is l)
unfolding left_out
left_map g [] l = refl
left_map g (i ∷ is) l = ap (without i) (left_map g is l) ∙ without_map g i (left_out is l)

-- ---- the runs between the listed places

module _ {A : Type 0} (list : List ℕ) (col : List A) (j from : ℕ) (within : from ≤ length col) (R : Rising (take j list) (length (take j list)) from) where
  here : length (take from col) ≡ from
  here = length-take-le from col within

  lists : Rising (take j list) (length (take j list)) (length (take from col))
  lists = subst (λ (m : ℕ). Rising (take j list) (length (take j list)) m) (sym here) R

  -- the run before the next listed place
  pub left_more : (e : ℕ) → j < length list → e ≡ get_or list j 0 → from ≤ e → e < length col
      → left_out (take j list) (take from col) ++ take (e - from) (drop from col) ≡ left_out (take (j + 1) list) (take (e + 1) col)
  left_more e h q a b =
      let z : from + (e - from) ≡ e = omega arith in
      let run : take from col ++ take (e - from) (drop from col) ≡ take e col = sym (take-add from (e - from) col) ∙ ap (λ (m : ℕ). take m col) z in
      let next : take j list ++ (e ∷ []) ≡ take (j + 1) list = ap (λ (m : ℕ). take j list ++ (m ∷ [])) q ∙ sym (take-suc list j 0 h) ∙ ap (λ (m : ℕ). take m list) (sym (add-one j)) in
      sym (left_append (take j list) (take from col) (take (e - from) (drop from col)) lists)
      ∙ ap (left_out (take j list)) (run ∙ sym (without_last e col b))
      ∙ sym (left_out_last (take j list) e (take (e + 1) col))
      ∙ ap (λ (is : List ℕ). left_out is (take (e + 1) col)) next

  -- the run behind the last
  pub left_rest : left_out (take j list) (take from col) ++ drop from col ≡ left_out (take j list) col
  left_rest = sym (left_append (take j list) (take from col) (drop from col) lists) ∙ ap (left_out (take j list)) (take-append-drop from col)

  -- how many stand before the next run
  pub left_before : length (left_out (take j list) (take from col)) + length (take j list) ≡ from
  left_before = left_length (take j list) (take from col) lists ∙ here

-- ---- columns without the listed places

-- nothing is listed
pub left_fronts_none : {A : Type 0} (w n R : ℕ) (s : List A) → left_fronts w n R [] s ≡ fronts_of w n R s
unfolding left_fronts left_out fronts_of
left_fronts_none w n R s = refl

pub left_fronts_length : {A : Type 0} (w n R : ℕ) (is : List ℕ) (s : List A) → n ≤ R → w * R ≤ length s → Rising is (length is) n → length (left_fronts w n R is s) ≡ w * (n - length is)
unfolding left_fronts stack
left_fronts_length zero n R is s few room L = sym (zero-mul (n - length is))
left_fronts_length (suc w) n R is s few room L =
    let a = next_col w R in
    let z : suc w ≡ w + 1 = omega arith in
    let k : w * R + R ≤ length s = omega (arith, ap (λ (x : ℕ). x * R) z) in
    let m : length (take n (drop (w * R) s)) ≡ n = length-take-le n (drop (w * R) s) (rw length-drop (omega arith)) in
    let t = left_length is (take n (drop (w * R) s)) (subst (λ (x : ℕ). Rising is (length is) x) (sym m) L) in
    let u : length (left_out is (take n (drop (w * R) s))) ≡ n - length is = omega (arith, t, m) in
    let i = left_fronts_length w n R is s few (omega arith) L in
    length-append (left_fronts w n R is s) (left_out is (take n (drop (w * R) s))) ∙ ap₂ (λ (x y : ℕ). x + y) i u ∙ sym (next_col w (n - length is)) ∙ sym (ap (λ (x : ℕ). x * (n - length is)) z)

-- the fronts of w columns are w times n places
pub fronts_length : {A : Type 0} (w n R : ℕ) (s : List A) → n ≤ R → w * R ≤ length s → length (fronts_of w n R s) ≡ w * n
fronts_length w n R s few room =
    let z : n - length {A = ℕ} [] ≡ n = omega arith in
    sym (ap length (left_fronts_none w n R s)) ∙ left_fronts_length w n R [] s few room (none_rising [] n) ∙ ap (λ (x : ℕ). w * x) z
