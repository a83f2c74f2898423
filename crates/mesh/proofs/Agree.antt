-- What Filled leaves open is nothing: two fillings by one world of blocks of the same lengths are equal; and a filling by no world is all zeros.
use Prim.Native.Nat.{ℕ, zero, suc, ◌+◌, ◌*◌, ◌/◌, ◌-◌, ◌≤◌, zero-le}
use native.Mathlib.Nat.{suc-mul, zero-mul}
use native.Mathlib.Omega.{arith}
use mathlib.Core.Path.{◌≡◌, sym, ap, ap₂, ◌∙◌, subst}
use mathlib.Core.List.{List, [], ◌++◌}
use lib.ListN.{replicate, length-replicate, replicate-append-replicate}
use lib.Ieee.{Float}
use Rattle.lists.specs.Lists.{padded, each}
use Rattle.float.specs.Numbers.{zero32}
use Rattle.columns.specs.Block.{stack, block_of}
use Rattle.mesh.specs.Log.{World}
use Rattle.mesh.specs.Given.{Lent}
use Rattle.mesh.specs.Filled.{Filled, Fits}
use Rattle.mesh.specs.Widths.{point_columns}

-- any two fillings by the same world and the same lent lengths are equal, in every place
pub agree :
    (W : World) (L : Lent) (p p' : List Float) (r r' c c' : List ℕ) (v v' : List Float) (e e' : List ℕ) (l l' : List Float) (o o' g g' : List ℕ)
    → Filled W L p r c v e l o g → Filled W L p' r' c' v' e' l' o' g' → (p ≡ p') × (r ≡ r') × (c ≡ c') × (v ≡ v') × (e ≡ e') × (l ≡ l') × (o ≡ o') × (g ≡ g')
agree W L p p' r r' c c' v v' e e' l l' o o' g g' f h =
    (f.points ∙ sym h.points, f.roots ∙ sym h.roots, f.corners ∙ sym h.corners, f.volumes ∙ sym h.volumes, f.ends ∙ sym h.ends, f.lengths ∙ sym h.lengths, f.outline ∙ sym h.outline, f.log ∙ sym h.log)

-- lengths that are equal block by block are equal
pub lent_path :
    (K L : Lent) → K.points ≡ L.points → K.roots ≡ L.roots → K.corners ≡ L.corners → K.volumes ≡ L.volumes → K.ends ≡ L.ends → K.lengths ≡ L.lengths → K.outline ≡ L.outline → K.log ≡ L.log
    → K ≡ L
lent_path K L ep er ec ev ee el eo eg = λ i. record { points = ep i; roots = er i; corners = ec i; volumes = ev i; ends = ee i; lengths = el i; outline = eo i; log = eg i }

-- blocks that were filled when they had the lengths still
pub filled_still : (W : World) (p : List Float) (r c : List ℕ) (v : List Float) (e : List ℕ) (l : List Float) (o g : List ℕ) (K L : Lent) → K ≡ L → Filled W K p r c v e l o g → Filled W L p r c v e l o g
filled_still W p r c v e l o g K L same f = subst (λ (x : Lent). Filled W x p r c v e l o g) same f

-- no rows fit everywhere
pub none_fits : (L : Lent) → Fits (record { particles = 0; triangles = 0; edges = 0; boundary = 0; log = 0 }) L
none_fits L = record { points = zero-le; roots = zero-le; corners = zero-le; volumes = zero-le; ends = zero-le; lengths = zero-le; outline = zero-le; log = zero-le }

-- ---- zeros

module _ {A : Type 0} (z : A) where
  -- a column with nothing in it is all z
  empty_column : (R : ℕ) → padded R z [] ≡ replicate R z
  unfolding padded
  empty_column R = let e : R - 0 ≡ R = omega arith in ap (λ (k : ℕ). replicate k z) e

  -- so are w of them
  empty_stack : (w R : ℕ) → stack w (λ c. padded R z []) ≡ replicate (w * R) z
  unfolding stack
  empty_stack zero R = ap (λ (k : ℕ). replicate k z) (sym (zero-mul R))
  empty_stack (suc w) R =
      ap₂ (λ (a b : List A). a ++ b) (empty_stack w R) (empty_column R) ∙ replicate-append-replicate (w * R) R z ∙ ap (λ (k : ℕ). replicate k z) (sym (suc-mul w R))

  -- so is a block of them
  empty_block : (len w R : ℕ) → w * R ≤ len → block_of len w R z (λ c. []) ≡ replicate len z
  unfolding padded
  empty_block len w R h =
      let e : w * R + (len - w * R) ≡ len = omega arith in
      ap (padded len z) (empty_stack w R)
      ∙ ap (λ (k : ℕ). replicate (w * R) z ++ replicate (len - k) z) (length-replicate (w * R) z)
      ∙ replicate-append-replicate (w * R) (len - w * R) z ∙ ap (λ (k : ℕ). replicate k z) e

-- the world in which nothing is
abbrev pub nothing : World
nothing = record { mesh = record { particles = []; triangles = []; edges = []; boundary = [] }; log = [] }

-- every lent place is 0
pub record Zero (L : Lent) (p : List Float) (r c : List ℕ) (v : List Float) (e : List ℕ) (l : List Float) (o g : List ℕ) : Type 0 where
  pub points : p ≡ replicate L.points zero32
  pub roots : r ≡ replicate L.roots 0
  pub corners : c ≡ replicate L.corners 0
  pub volumes : v ≡ replicate L.volumes zero32
  pub ends : e ≡ replicate L.ends 0
  pub lengths : l ≡ replicate L.lengths zero32
  pub outline : o ≡ replicate L.outline 0
  pub log : g ≡ replicate L.log 0

-- blocks filled by nothing hold 0 in every place
pub zeros : (L : Lent) (p : List Float) (r c : List ℕ) (v : List Float) (e : List ℕ) (l : List Float) (o g : List ℕ) → Filled nothing L p r c v e l o g → Zero L p r c v e l o g
unfolding each
zeros L p r c v e l o g f =
    record {
      points = f.points ∙ empty_block zero32 L.points point_columns (L.points / point_columns) (omega arith);
      roots = f.roots ∙ empty_block 0 L.roots 2 (L.roots / 2) (omega arith);
      corners = f.corners ∙ empty_block 0 L.corners 3 (L.corners / 3) (omega arith);
      volumes = f.volumes ∙ empty_block zero32 L.volumes 2 (L.volumes / 2) (omega arith);
      ends = f.ends ∙ empty_block 0 L.ends 4 (L.ends / 4) (omega arith);
      lengths = f.lengths ∙ empty_block zero32 L.lengths 4 (L.lengths / 4) (omega arith);
      outline = f.outline ∙ empty_block 0 L.outline 2 (L.outline / 2) (omega arith);
      log = f.log ∙ empty_column 0 L.log;
    }
