-- A block: columns of R places each, one behind the other. Definitions only; their laws are in proofs/Cells.antt.
use Rattle.std.specs.Prelude.{ℕ, zero, suc, ◌+◌, ◌*◌, ◌<◌, ◌≤◌, ◌≡◌, List, [], ◌∷◌, ◌++◌, get_or}
use Rattle.lists.specs.Lists.{kept_of, nth, padded}
use Rattle.lists.specs.Labels.{replaced}

-- what column c of the block s has at place k, or d past the block's end
unfoldable pub cell : {A : Type 0} → A → ℕ → List A → ℕ → ℕ → A
cell d R s c k = get_or s (c * R + k) d

-- row k: what the w columns from column c on have at place k; and all w columns
abbrev pub row_from : ℕ → ℕ → ℕ → List ℕ → ℕ → List ℕ
row_from zero c R s k = []
row_from (suc w) c R s k = cell 0 R s c k ∷ row_from w (suc c) R s k

abbrev pub row_at : ℕ → ℕ → List ℕ → ℕ → List ℕ
row_at w R s k = row_from w 0 R s k

-- column 0, column 1, .., column w - 1, one behind the other
unfoldable pub stack : {A : Type 0} → ℕ → (ℕ → List A) → List A
stack zero f = []
stack (suc w) f = stack w f ++ f w

-- a block of len places whose column c is f c and z behind it up to R places; what is left over behind the w columns is z
abbrev pub block_of : {A : Type 0} → ℕ → ℕ → ℕ → A → (ℕ → List A) → List A
block_of len w R z f = padded len z (stack w (λ c. padded R z (f c)))

-- ---- contracts of the functions on a block of w columns

-- of the first n places of each column the mask leaves r, in their order
pub record BlockKept {A : Type 0} (d : A) (m : List ℕ) (n w R : ℕ) (s s' : List A) (r : ℕ) : Type 0 where
  pub count : r ≡ kept_of m n
  pub cells : (c k : ℕ) → c < w → k < kept_of m n → cell d R s' c k ≡ cell d R s c (nth m n k)

-- in each column the len places from `from` on stand at `to`, and the other places are as they were
pub record BlockShifted {A : Type 0} (d : A) (to from len w R : ℕ) (s s' : List A) : Type 0 where
  pub moved : (c k : ℕ) → c < w → k < len → cell d R s' c (to + k) ≡ cell d R s c (from + k)
  pub other : (c k : ℕ) → k < R → (to ≤ k → k < to + len → ⊥) → cell d R s' c k ≡ cell d R s c k

-- the columns of src, of n places each, stand at the fronts of those of s', of R places each
pub record BlockCopied {A : Type 0} (d : A) (n w R : ℕ) (src s' : List A) : Type 0 where
  pub cells : (c k : ℕ) → c < w → k < n → cell d R s' c k ≡ cell d n src c k

-- row i is a copy of row v in each column, and the other rows are as they were
pub record RowCopied {A : Type 0} (d : A) (v i w R : ℕ) (s s' : List A) : Type 0 where
  pub new : (c : ℕ) → c < w → cell d R s' c i ≡ cell d R s c v
  pub old : (c k : ℕ) → k < R → (k ≡ i → ⊥) → cell d R s' c k ≡ cell d R s c k

-- row i is within columns of R places, and the first k columns are within the len places of the block
pub record RowIn (k R i len : ℕ) : Type 0 where
  pub here : i < R
  pub columns : k * R ≤ len

-- row i has w for v in the first k columns, and no other cell changed
pub record RowTurned (k R i v w : ℕ) (s s' : List ℕ) : Type 0 where
  pub here : (c : ℕ) → c < k → cell 0 R s' c i ≡ replaced v w (cell 0 R s c i)
  pub beside : (c j : ℕ) → k ≤ c → j < R → cell 0 R s' c j ≡ cell 0 R s c j
  pub others : (c j : ℕ) → j < R → (j ≡ i → ⊥) → cell 0 R s' c j ≡ cell 0 R s c j
