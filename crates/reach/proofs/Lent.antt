-- What a call asks, from what callers know of any elements that a table holds: every table of whole rows holds some. Assumes nothing.
use mathlib.Core.Path.{◌≡◌, refl, sym, ◌∙◌, ap, ap₂}
use mathlib.Core.List.{List, [], ◌++◌}
use Prim.Native.Nat.{ℕ, zero, suc, ◌+◌, ◌*◌, ◌<◌, ◌≤◌}
use native.Mathlib.Omega.{arith}
use native.Mathlib.Nat.{zero-mul, suc-mul}
use lib.Ieee.{Float}
use lib.ListN.{length, get_or, take, drop, length-take, length-drop}
use lib.Seq.{take-add, drop-drop}
use Rattle.lists.specs.Lists.{each, tab}
use Rattle.lists.proofs.Stores.{tab_length, tab_at}
use Rattle.lists.proofs.Sifts.{map_tab}
use Rattle.model.specs.Elements.{Element}
use Rattle.elements.specs.Table.{Cornered, holding}
use Rattle.reach.specs.Walk.{row, Rows, Lent}
use Rattle.reach.proofs.Rowing.{row_end}
use Rattle.reach.proofs.Opening.{lent_by}

-- an element for each row, with its number there
abbrev pub row_element : Float → ℕ → List ℕ → ℕ → Element
row_element m k verts j = record { number = j; corners = row k verts j; measure = m }

rows_each : (f : ℕ → Element) (k n : ℕ) (verts : List ℕ) → ((j : ℕ) → (f j).corners ≡ row k verts j) → each (λ (e : Element). e.corners) (tab n f) ≡ take (n * k) verts
unfolding each tab
rows_each f k zero verts h = rw (zero-mul k) refl
rows_each f k (suc n) verts h =
    let m : suc n * k ≡ k + n * k = suc-mul n k ∙ omega arith in
    let first : (f 0).corners ≡ take k verts = h 0 ∙ ap (λ (a : ℕ). take k (drop a verts)) (zero-mul k) in
    rw (m, take-add k (n * k) verts)
    (ap₂ ◌++◌ first
    (rows_each (λ j. f (suc j)) k n (drop k verts) (λ j. h (suc j) ∙ ap (take k) (later j))))
  where
    later : (j : ℕ) → drop (suc j * k) verts ≡ drop (j * k) (drop k verts)
    later j = let e : suc j * k ≡ k + j * k = suc-mul j k ∙ omega arith in rw e (sym (drop-drop (j * k) k verts))

module _ {n k : ℕ} (verts : List ℕ) (R : Rows n k (length verts)) (m : Float) where
  row_long : (j : ℕ) → j < n → length (row k verts j) ≡ k
  row_long j l = let e = row_end R j l in omega (arith, length-take k (drop (j * k) verts), length-drop (j * k) verts)

  pub rows_cornered : Cornered k (tab n (row_element m k verts)) n verts
  rows_cornered =
      record {
        count = sym (tab_length n (row_element m k verts));
        corners_are = sym (rows_each (row_element m k verts) k n verts (λ j. refl));
        whole = λ i l.
            let b : i < n = omega (arith, tab_length n (row_element m k verts)) in
            ap length (ap (λ (t : List (List ℕ)). get_or t i []) (map_tab (λ (e : Element). e.corners) n (row_element m k verts)) ∙ tab_at n (λ j. row k verts j) i [] b) ∙ row_long i b;
      }

  -- there is a group for each element that holds v, whichever elements the table holds
  pub lent_any : {v : ℕ} {groups : List ℕ} {s q : ℕ} → n ≤ s → n ≤ q → ((es : List Element) → Cornered k es n verts → length groups ≡ length (holding v es))
      → Lent n k v verts groups s q
  lent_any s q f = lent_by rows_cornered R s q (f _ rows_cornered)
