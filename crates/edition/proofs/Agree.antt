-- What a reading leaves open is nothing: any two outcomes that the statement allows are equal, in every place. Assumes nothing.
use Prim.Native.Nat.{ℕ}
use mathlib.Core.Path.{◌≡◌, sym, ap, ◌∙◌, subst}
use mathlib.Core.List.{List}
use lib.ListN.{length}
use lib.Ieee.{Float}
use Rattle.lists.specs.Lists.{padded}
use Rattle.float.specs.Numbers.{zero32}
use Rattle.mesh.specs.Given.{Lent}
use Rattle.mesh.specs.Filled.{Filled}
use Rattle.mesh.proofs.Agree.{agree}
use Rattle.bits.specs.Bits.{bits_of}
use Rattle.sheet.specs.declared.Counts.{Counts}
use Rattle.edition.specs.Reading.{ReadDone, world_of, blade_left}
use Rattle.std.specs.Prelude.{Result}
use Rattle.edition.specs.declared.Seen.{Seen}
use Rattle.mesh.specs.declared.refusals.Refusal.{Refusal}

-- two readings of one sheet into blocks of the same lengths
pub read_agree :
    (limits : Counts) (s : List ℕ) (L : Lent) (b : List Float) (r r' : Result Seen Refusal) (p p' : List Float) (q q' c c' : List ℕ) (v v' : List Float) (e e' : List ℕ) (l l' : List Float) (o o' g g' : List ℕ) (d d' : List Float)
    → ReadDone limits s L r p q c v e l o g b d → ReadDone limits s L r' p' q' c' v' e' l' o' g' b d'
    → (r ≡ r') × ((p ≡ p') × (q ≡ q') × (c ≡ c') × (v ≡ v') × (e ≡ e') × (l ≡ l') × (o ≡ o') × (g ≡ g')) × (d ≡ d')
read_agree limits s L b r r' p p' q q' c c' v v' e e' l l' o o' g g' d d' f h =
    let z : r ≡ r' = f.answer ∙ sym h.answer in (
      z,
      agree (world_of r (bits_of s)) L p p' q q' c c' v v' e e' l l' o o' g g' f.blocks (subst (λ (x : Result Seen Refusal). Filled (world_of x (bits_of s)) L p' q' c' v' e' l' o' g') (sym z) h.blocks),
      f.blade ∙ (ap (λ (x : Result Seen Refusal). padded (length b) zero32 (blade_left x (bits_of s))) z ∙ sym h.blade),
    )
