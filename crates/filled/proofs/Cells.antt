-- The cells of a block that is filled: column c has at place k what stands at place k of the c-th list.
use Prim.Native.Nat.{ℕ, zero, suc, ◌+◌, ◌-◌, ◌*◌, ◌<◌, ◌≤◌}
use mathlib.Core.Path.{◌≡◌, sym, ap, ◌∙◌}
use mathlib.Core.List.{List, ◌++◌}
use native.Mathlib.Omega.{arith}
use native.Mathlib.Nat.{suc-mul, zero-mul}
use native.Mathlib.Decide.{ℕ_discrete}
use lib.ListN.{length, get_or, replicate, length-append, length-replicate, get_or-append}
use lib.Seq.{get_or-append-add}
use Rattle.lists.specs.Lists.{padded}
use Rattle.columns.specs.Block.{cell, stack, block_of}
use Rattle.columns.proofs.Cells.{col_fits}

module _ {A : Type 0} (z : A) where
  -- a list that fits is padded to the places there are
  pub padded_long : (n : ℕ) (l : List A) → length l ≤ n → length (padded n z l) ≡ n
  unfolding padded
  padded_long n l h = omega (arith, length-append l (replicate (n - length l) z), length-replicate (n - length l) z)

  -- and begins with the list
  pub padded_at : (n : ℕ) (l : List A) (d : A) (k : ℕ) → k < length l → get_or (padded n z l) k d ≡ get_or l k d
  unfolding padded
  padded_at n l d k h = get_or-append l (replicate (n - length l) z) d k h

module _ {A : Type 0} (R : ℕ) (g : ℕ → List A) (even : (j : ℕ) → length (g j) ≡ R) where
  -- columns one behind the other
  pub stack_long : (w : ℕ) → length (stack w g) ≡ w * R
  unfolding stack
  stack_long zero = rw zero-mul
  stack_long (suc w) = omega (arith, length-append (stack w g) (g w), stack_long w, even w, suc-mul w R)

  pub stack_at : (w c k : ℕ) (d : A) → c < w → k < R → get_or (stack w g) (c * R + k) d ≡ get_or (g c) k d
  unfolding stack
  stack_at zero c k d h q = absurd (omega arith)
  stack_at (suc w) c k d h q = by (ℕ_discrete c w) (λ l. stack_at w c k d l q)
    where
      by : Dec (c ≡ w) → (c < w → get_or (stack w g) (c * R + k) d ≡ get_or (g c) k d) → get_or (stack w g ++ g w) (c * R + k) d ≡ get_or (g c) k d
      by (yes e) before =
          let n : length (stack w g) ≡ c * R = stack_long w ∙ ap (λ (x : ℕ). x * R) (sym e) in
          ap (λ (x : ℕ). get_or (stack w g ++ g w) (x + k) d) (sym n) ∙ (get_or-append-add (stack w g) (g w) k d ∙ ap (λ (x : ℕ). get_or (g x) k d) (sym e))
      by (no ne) before =
          let l : c < w = omega (arith, ne) in
          get_or-append (stack w g) (g w) d (c * R + k) (omega (arith, stack_long w, col_fits c w R l)) ∙ before l

module _ {A : Type 0} (z : A) (len w R : ℕ) (f : ℕ → List A) (few : (j : ℕ) → length (f j) ≤ R) (room : w * R ≤ len) where
  -- a block has the places that were lent
  pub block_long : length (block_of len w R z f) ≡ len
  block_long = padded_long z len (stack w (λ c. padded R z (f c))) (omega (arith, stack_long R (λ c. padded R z (f c)) (λ j. padded_long z R (f j) (few j)) w))

  -- and in column c the c-th list
  pub block_cell : (d : A) (c k : ℕ) → c < w → k < length (f c) → cell d R (block_of len w R z f) c k ≡ get_or (f c) k d
  unfolding cell
  block_cell d c k h q =
      let g : ℕ → List A = λ c. padded R z (f c) in
      let e : (j : ℕ) → length (g j) ≡ R = λ j. padded_long z R (f j) (few j) in
      let r : k < R = omega (arith, few c) in
      padded_at z len (stack w g) d (c * R + k) (omega (arith, stack_long R g e w, col_fits c w R h))
      ∙ (stack_at R g e w c k d h r ∙ padded_at z R (f c) d k q)

-- ---- how many places columns need

module _ {A : Type 0} (n : ℕ) (g : ℕ → List A) (least : (j : ℕ) → n ≤ length (g j)) where
  stack_least : (w : ℕ) → w * n ≤ length (stack w g)
  unfolding stack
  stack_least zero = rw zero-mul (omega arith)
  stack_least (suc w) = omega (arith, length-append (stack w g) (g w), stack_least w, least w, suc-mul w n)

padded_least : {A : Type 0} (z : A) (n : ℕ) (l : List A) → length l ≤ length (padded n z l)
unfolding padded
padded_least z n l = omega (arith, length-append l (replicate (n - length l) z))

-- a block of w columns of n rows has w * n places or more
pub block_least : {A : Type 0} (z : A) (len w R n : ℕ) (f : ℕ → List A) → ((j : ℕ) → length (f j) ≡ n) → w * n ≤ length (block_of len w R z f)
block_least {A} z len w R n f even =
    let g : ℕ → List A = λ c. padded R z (f c) in
    omega (arith, stack_least n g (λ j. omega (arith, even j, padded_least z R (f j))) w, padded_least z len (stack w g))
