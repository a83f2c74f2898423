-- How many numbers below n stand in a list: at most the list is long, and at least those that must stand in it. Assumes nothing.
use mathlib.Core.Path.{◌≡◌, refl, sym, ◌∙◌, ap, ap₂}
use mathlib.Core.Bool.{Bool, true, false}
use mathlib.Core.List.{List, [], ◌∷◌}
use Prim.Native.Nat.{ℕ, zero, suc, ◌+◌, ◌-◌, ◌<◌, ◌≤◌}
use native.Mathlib.Omega.{arith}
use native.Mathlib.Decide.{ℕ_discrete}
use borrow.Author.Tests.{ne_eqb}
use lib.ListN.{length, length-append}
use Rattle.lists.specs.Lists.{pick, stands, sift, up_to, tab, rising}
use Rattle.lists.proofs.Sifts.{sift_append, up_to_suc}
use Rattle.model_laws.proofs.Laws.{none_rising}

-- one for a test that holds
abbrev one? : Bool → ℕ
one? b = pick b 1 0

one_length : {A : Type 0} (b : Bool) (a : A) → length (pick b (a ∷ []) []) ≡ one? b
one_length true a = refl
one_length false a = refl

-- how many numbers below n stand in l
abbrev pub among : ℕ → List ℕ → ℕ
among n l = length (rising n l)

among_zero : (l : List ℕ) → among 0 l ≡ 0
unfolding rising up_to tab sift
among_zero l = refl

among_suc : (n : ℕ) (l : List ℕ) → among (suc n) l ≡ among n l + one? (stands n l)
unfolding rising sift
among_suc n l =
    ap (λ (u : List ℕ). length (sift (λ k. stands k l) u)) (up_to_suc n) ∙ ap length (sift_append (λ k. stands k l) (up_to n) (n ∷ []))
    ∙ length-append (sift (λ k. stands k l) (up_to n)) (sift (λ k. stands k l) (n ∷ []))
    ∙ ap (λ m. length (sift (λ k. stands k l) (up_to n)) + m) (one_length (stands n l) n)

one_most : (b : Bool) → one? b ≤ 1
one_most true = omega arith
one_most false = omega arith

-- one more element in front: no more below it, and one more at most
front_below : (x : ℕ) (l : List ℕ) (n : ℕ) → n ≤ x → among n (x ∷ l) ≡ among n l
front_below x l zero h = among_zero (x ∷ l) ∙ sym (among_zero l)
front_below x l (suc n) h =
    let e : stands n (x ∷ l) ≡ stands n l = rw (ne_eqb x n (λ d. omega arith)) in
    among_suc n (x ∷ l) ∙ ap₂ (λ a b. a + one? b) (front_below x l n (omega arith)) e ∙ sym (among_suc n l)

front_most : (x : ℕ) (l : List ℕ) (n : ℕ) → among n (x ∷ l) ≤ suc (among n l)
front_most x l zero = let e = among_zero (x ∷ l) in omega arith
front_most x l (suc n) =
    let h = among_suc n (x ∷ l) in
    let k = among_suc n l in
    elim (ℕ_discrete x n) [
      | yes d ↦ let f = front_below x l n (omega arith) in let u = one_most (stands n (x ∷ l)) in omega arith
      | no m ↦
          let f = front_most x l n in
          let e : one? (stands n (x ∷ l)) ≡ one? (stands n l) = rw (ne_eqb x n m) in
          omega arith
    ]

-- no more numbers stand in a list than it is long
pub among_most : (n : ℕ) (l : List ℕ) → among n l ≤ length l
among_most n [] = let e = ap length (none_rising n) in omega arith
among_most n (x ∷ l) = let h = among_most n l in let k = front_most x l n in omega arith

one_mono : (a b : Bool) → (a ≡ true → b ≡ true) → one? a ≤ one? b
one_mono true b h = rw (h refl) (omega arith)
one_mono false b h = omega arith

-- what stands in l₀ and stands in l too
pub among_mono : (n : ℕ) (l₀ l : List ℕ) → ((x : ℕ) → x < n → stands x l₀ ≡ true → stands x l ≡ true) → among n l₀ ≤ among n l
among_mono zero l₀ l h = let e = among_zero l₀ in omega arith
among_mono (suc n) l₀ l h =
    let a = among_suc n l₀ in
    let b = among_suc n l in
    let c = among_mono n l₀ l (λ x u. h x (omega arith)) in
    let d = one_mono (stands n l₀) (stands n l) (h n (omega arith)) in
    omega arith

-- where each number from n on stands in l
pub among_more : (n k : ℕ) (l : List ℕ) → ((x : ℕ) → n ≤ x → x < n + k → stands x l ≡ true) → among n l + k ≤ among (n + k) l
among_more n zero l h = let e : n + 0 ≡ n = omega arith in rw e (omega arith)
among_more n (suc k) l h =
    let c = among_more n k l (λ x u w. h x u (omega arith)) in
    let s = among_suc (n + k) l in
    let e : n + suc k ≡ suc (n + k) = omega arith in
    let o : one? (stands (n + k) l) ≡ 1 = ap one? (h (n + k) (omega arith) (omega arith)) in
    rw e (omega arith)

-- So, where what stood in l₀ below n still stands, and each number from n up to m stands too, l has room for all.
pub among_room : (n m : ℕ) (l₀ l : List ℕ) → n ≤ m → ((x : ℕ) → x < n → stands x l₀ ≡ true → stands x l ≡ true) → ((x : ℕ) → n ≤ x → x < m → stands x l ≡ true) → m + among n l₀ ≤ n + length l
among_room n m l₀ l g kept fresh =
    let e : n + (m - n) ≡ m = omega arith in
    let a = among_mono n l₀ l kept in
    let b : among n l + (m - n) ≤ among (n + (m - n)) l = among_more n (m - n) l (λ x u w. fresh x u (omega arith)) in
    let c = among_most (n + (m - n)) l in
    omega arith
