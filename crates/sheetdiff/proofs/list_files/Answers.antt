-- `sheetdiff::list_files` meets its contract: 65,536 bytes hold every text of differences, so it was written whole. Assumes nothing.
use Prim.Native.Nat.{ℕ}
use native.Mathlib.Omega.{arith}
use mathlib.Core.Path.{◌≡◌, sym, ap, subst}
use mathlib.Core.List.{List}
use lib.ListN.{length, take, length-take}
use Rattle.io.specs.Counts.{IsPrefixLen}
use Rattle.std.specs.Prelude.{Option, None, Some}
use Rattle.listing.proofs.Outcomes.{told_whole}
use Rattle.sheetdiff.proofs.list_files.Goals as goal

-- bytes at the front that are a text
bytes_front : (text s : List ℕ) (r : Option ℕ) (n : ℕ) → r ≡ Some n → r ≡ Some (length text) → take (length text) s ≡ text → IsPrefixLen n s × (take n s ≡ text)
bytes_front text s r n p q t =
    let e : length text ≡ n = cc in
    subst (λ (k : ℕ). IsPrefixLen k s × (take k s ≡ text)) e
    (let f = sym (ap length t) in
    ((omega (arith, length-take (length text) s), f), t))

never_short : (n : ℕ) (r : Option ℕ) → r ≡ None → r ≡ Some n → ⊥
never_short n r p q = let z : ◌≡◌ {A = ℕ} 0 1 = cc in omega arith

pub returns-in-Some : goal.returns-in-Some
returns-in-Some c = let w = told_whole _ _ _ _ c.list_differences-told.ensures c.requires in bytes_front _ _ _ _ c.in-Some.is w.0 w.1

pub returns-in-None : goal.returns-in-None
returns-in-None c = absurd (never_short _ _ c.in-None.is (told_whole _ _ _ _ c.list_differences-told.ensures c.requires).0)
