-- Any two outcomes that the contract of a C function allows agree. Assumes nothing.
use mathlib.Core.Path.{◌≡◌, sym, ◌∙◌}
use mathlib.Core.List.{List}
use Prim.Native.Nat.{ℕ}
use Rattle.model.specs.Reads.{Read}
use Rattle.reading_replies.specs.Replies.{Replied}
use Rattle.mesh_replies.specs.Both.{BothReplied}

-- the functions that read a mesh or numbers: the number that is returned, and every result byte
pub replied_agree : (o : Read (List ℕ)) (lent r r' : ℕ) (s s' : List ℕ) → Replied o lent r s → Replied o lent r' s' → (r ≡ r') × (s ≡ s')
replied_agree o lent r r' s s' A B = (A.code ∙ sym B.code, A.bytes ∙ sym B.bytes)

-- the functions that give a mesh: the same, and every byte of the log
pub both_agree : (o : Read (List ℕ)) (ws : List ℕ) (lent logged r r' : ℕ) (s s' g g' : List ℕ)
    → BothReplied o ws lent logged r s g → BothReplied o ws lent logged r' s' g' → (r ≡ r') × (s ≡ s') × (g ≡ g')
both_agree o ws lent logged r r' s s' g g' A B = (A.code ∙ sym B.code, A.bytes ∙ sym B.bytes, A.entries ∙ sym B.entries)
