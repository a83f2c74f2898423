-- Laws of replies: what fits the lent bytes, and refusal numbers that are small. Assumes nothing.
use Prim.Native.Nat.{ℕ, ◌+◌, ◌*◌, ◌≤◌, ◌<◌}
use native.Mathlib.Omega.{arith}
use mathlib.Core.Path.{◌≡◌, subst, ◌∙◌, ap}
use mathlib.Core.Bool.{Bool, true, false, not, ◌&&◌}
use mathlib.Core.List.{List, [], ◌∷◌}
use lib.ListN.{length}
use lib.Dec.{leb}
use borrow.Author.Tests.{le-leb, lt-leb}
use Rattle.lists.specs.Lists.{pick}
use Rattle.model.specs.Mesh.{Mesh}
use Rattle.model.specs.Valid.{numbers_fit_of, indices_fit_of}
use Rattle.model.specs.Calls.{refusal}
use Rattle.model.specs.Reads.{Read, refused, value}
use Rattle.image.specs.Words.{written}
use Rattle.replies.specs.Reply.{Replied}

-- ---- the reply to each case

pub says_no : (code lent r : ℕ) (out : List ℕ) → r ≡ code → out ≡ written lent [] → Replied (refused code) lent r out
says_no code lent r out e f = record { code = e; bytes = f }

pub says_short : (ws : List ℕ) (lent r : ℕ) (out : List ℕ) → lent < 4 * length ws → r ≡ 4 → out ≡ written lent [] → Replied (value ws) lent r out
says_short ws lent r out h e f =
    let t : leb (4 * length ws) lent ≡ false = lt-leb (4 * length ws) lent h in
    record { code = rw t e; bytes = rw t f }

pub says : (ws : List ℕ) (lent r : ℕ) (out : List ℕ) → 4 * length ws ≤ lent → r ≡ 0 → out ≡ written lent ws → Replied (value ws) lent r out
says ws lent r out h e f =
    let t : leb (4 * length ws) lent ≡ true = le-leb (4 * length ws) lent h in
    record { code = rw t e; bytes = rw t f }

-- a reply under another name for what is replied to
pub replied_as : (o o' : Read (List ℕ)) (lent r : ℕ) (out : List ℕ) → o ≡ o' → Replied o lent r out → Replied o' lent r out
replied_as o o' lent r out e h = subst (λ (z : Read (List ℕ)). Replied z lent r out) e h

-- ---- a word and a table

pub says_words : (first : ℕ) (table ws : List ℕ) (lent r : ℕ) (out : List ℕ) → ws ≡ table → 4 * length table + 4 ≤ lent → r ≡ 0 → out ≡ written lent (first ∷ ws) → Replied (value (first ∷ table)) lent r out
says_words first table ws lent r out f h e k =
    says (first ∷ table) lent r out (omega arith) e (k ∙ ap (λ (l : List ℕ). written lent (first ∷ l)) f)

pub says_few : (first : ℕ) (table : List ℕ) (lent r : ℕ) (out : List ℕ) → lent < 4 * length table + 4 → r ≡ 4 → out ≡ written lent [] → Replied (value (first ∷ table)) lent r out
says_few first table lent r out h e k = says_short (first ∷ table) lent r out (omega arith) e k

-- ---- refusals are small

pub pick_small : (b : Bool) (m n : ℕ) → m < 256 → n < 256 → pick b m n < 256
pick_small true m n h k = h
pick_small false m n h k = k

pub refusal_small : (sized : Bool) (M : Mesh) (numbers arguments : Bool) → refusal sized M numbers arguments < 256
unfolding refusal
refusal_small sized M numbers arguments =
    pick_small (not sized) 1 _ (omega arith)
    (pick_small (not (numbers_fit_of M && numbers)) 2 _ (omega arith)
    (pick_small (not (indices_fit_of M)) 3 _ (omega arith) (pick_small (not arguments) 4 0 (omega arith) (omega arith))))
