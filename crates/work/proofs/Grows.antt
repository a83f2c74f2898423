-- Laws of rows that were appended, and of the rows of the edges. Assumes nothing.
use mathlib.Core.Path.{◌≡◌, sym, ◌∙◌, ap, subst}
use mathlib.Core.List.{List}
use Prim.Native.Nat.{ℕ, ◌≤◌, ◌<◌}
use borrow.Author.Tests.{le-leb}
use lib.ListN.{length, get_or}
use lib.Ieee.{Float}
use Rattle.lists.proofs.Stores.{tab_length, tab_at}
use Rattle.model.specs.Mesh.{blank_edge}
use Rattle.mesh.specs.At.{edges_at}
use Rattle.mesh.specs.Workers.{row_at}
use Rattle.work.specs.Rows.{GrownTo}
use Rattle.std.specs.Prelude.{Some}

-- rows that are all there
pub grown_all : {A : Type 0} (r room : ℕ) (l : List A) (rows : ℕ → List A) → length (rows r) ≡ r → r ≤ room → rows r ≡ l → GrownTo (Some r) room l rows
grown_all r room l rows m h e =
    let many : r ≡ length l = sym m ∙ ap length e in
    (le-leb (length l) room (subst (λ (z : ℕ). z ≤ room) many h), many, e)

-- how many edges, and which at a place
pub edges_many : (n : ℕ) (A : List ℕ) (B : List Float) → length (edges_at n A B) ≡ n
unfolding edges_at
edges_many n A B = tab_length n (row_at A B)

pub edges_get : (n : ℕ) (A : List ℕ) (B : List Float) (j : ℕ) → j < n → get_or (edges_at n A B) j blank_edge ≡ row_at A B j
unfolding edges_at
edges_get n A B j l = tab_at n (row_at A B) j blank_edge l
