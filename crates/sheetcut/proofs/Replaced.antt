-- The line `outline replaced` in what the program prints: it stands exactly where the sheet's typed outline was replaced, never beside a refusal, and never for the second edition. Assumes nothing.
use Prim.Native.Nat.{ℕ}
use mathlib.Core.Path.{◌≡◌, sym, ap, ◌∙◌}
use mathlib.Core.Bool.{Bool, true, false}
use mathlib.Core.List.{List, [], map}
use lib.Dec.{eqb}
use lib.ListN.{length, get_or}
use Rattle.model.specs.Mesh.{Mesh}
use Rattle.model.specs.Run.{Entry}
use Rattle.model.specs.Pieces.{pieces}
use Rattle.model.specs.Calls.{Outcome, refused, done}
use Rattle.mesh.specs.Log.{words_of}
use Rattle.bits.specs.Bits.{bits_of}
use Rattle.sheet.specs.declared.Counts.{Counts}
use Rattle.edition.specs.Edition.{second, bounded, replaced_in, typed_of, sheet_of, seen_of, whole_with}
use Rattle.std.specs.Prelude.{Result}
use Rattle.mesh.specs.declared.refusals.Refusal.{Refusal}
use Rattle.edition.specs.declared.Seen.{Seen}
use Rattle.edition.proofs.Editions.{editions_agree}
use Rattle.edition.proofs.Entering.{seen_whole_tells}
use Rattle.listing.specs.Listing.{refused_bytes, printed}
use Rattle.listing.proofs.Replaced.{replaced_told}
use Rattle.sheet.specs.Sheet.{limits}
use Rattle.sheetcut.specs.SheetCut.{cut_of, cut_seen, sheet_cut, listed}

-- a sheet that is cut: the byte behind `tear 1` is an `o` exactly where its typed outline was replaced
pub line_exactly : (s : List ℕ) (M : Mesh) (log : List Entry) (changed : Bool) → sheet_cut s ≡ done M log changed → eqb (get_or (listed s) 7 0) 111 ≡ (sheet_of (bits_of s)).replaced
line_exactly s M log changed e =
    ap (λ (o : Outcome). eqb (get_or (printed (sheet_of (bits_of s)).replaced o) 7 0) 111) e ∙ replaced_told (sheet_of (bits_of s)).replaced (map words_of log) (length M.particles) (pieces M)

-- a refusal, of the sheet or of the cut, is its number alone
pub refusal_alone : (s : List ℕ) (n : ℕ) → sheet_cut s ≡ refused n → listed s ≡ refused_bytes n
refusal_alone s n e = ap (printed (sheet_of (bits_of s)).replaced) e

never : (l : List ℕ) → second l ≡ true → (sheet_of l).replaced ≡ false
unfolding sheet_of replaced_in
never l e = rw e

-- the second edition never has the line
pub second_plain : (s : List ℕ) → second (bits_of s) ≡ true → listed s ≡ printed false (sheet_cut s)
second_plain s two = ap (λ (f : Bool). printed f (sheet_cut s)) (never (bits_of s) two)

-- a first-edition sheet that was replaced is cut as the second-edition one with the same other fields: their listings differ by the line alone
module _ (s t : List ℕ) (c d : Counts) (g : Bool) (one : second (bits_of s) ≡ false) (two : second (bits_of t) ≡ true) (same : bounded [] (typed_of (bits_of s)) ≡ bounded [] (typed_of (bits_of t)))
    (first : seen_of limits s ≡ whole_with c true) (other : seen_of limits t ≡ whole_with d g) where
  pub same_cut : sheet_cut s ≡ sheet_cut t
  unfolding cut_seen
  same_cut =
      let r = sym (seen_whole_tells limits s c true first).told in
      ap (λ (x : Result Seen Refusal). cut_seen x s) first ∙ (ap cut_of ((editions_agree (bits_of s) (bits_of t) one two same).whole r) ∙ sym (ap (λ (x : Result Seen Refusal). cut_seen x t) other))
