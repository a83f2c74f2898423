-- L5 (docs/RULES.md, R21): the bytes of a reader, and what opening, feeding and closing leave in them. Definitions only.
use Rattle.std.specs.Prelude.{ℕ, ◌+◌, ◌-◌, min, ◌≡◌, cond, List, [], ◌∷◌, ◌++◌, length, take, drop, eqb}
use Rattle.image.specs.Words.{word_at_of, bytes_of, put_word_of}
use Rattle.feeding.specs.Parts.{Reader, fed, closed}

-- how many bytes a reader keeps: one more than the longest sheet has
abbrev pub most : ℕ
most = 17293

-- how many bytes a reader has: a word with the number of bytes kept, a word that is 0 while it is open, and the places
abbrev pub size : ℕ
size = 17301

-- how many bytes are kept; a number above the most counts as the most
unfoldable pub held_in : List ℕ → ℕ
held_in b = min (word_at_of b 0) most

-- the bytes kept
abbrev pub kept_in : List ℕ → List ℕ
kept_in b = take (held_in b) (drop 8 b)

-- what a reader answers before anything is done: 4 where there is none, 10 where it is closed, else 0
unfoldable pub standing : List ℕ → ℕ
standing b = cond (eqb (length b) size) (cond (eqb (word_at_of b 1) 0) 0 10) 4

-- ---- open

-- what an opening answers
unfoldable pub open_answer : List ℕ → ℕ
open_answer b = cond (eqb (length b) size) 0 4

-- the bytes that it leaves: both words 0
unfoldable pub opened : List ℕ → List ℕ
opened b = cond (eqb (length b) size) (put_word_of (put_word_of b 0 0) 1 0) b

-- what an opening answers, and every byte of the reader
pub record OpenDone (b : List ℕ) (r : ℕ) (b' : List ℕ) : Type 0 where
  pub answer : r ≡ open_answer b
  pub reader : b' ≡ opened b

-- ---- feed

-- how much of a part still fits
abbrev pub fitting : List ℕ → List ℕ → List ℕ
fitting b part = take (most - held_in b) part

-- the bytes of an open reader with a run m behind the bytes kept: the new number, the second word, the bytes kept, the run, what stood behind it
unfoldable pub grown_by : List ℕ → List ℕ → List ℕ
grown_by b m = bytes_of (held_in b + length m) ++ (take 4 (drop 4 b) ++ (kept_in b ++ (m ++ drop (8 + held_in b + length m) b)))

-- the bytes that a feed leaves
unfoldable pub fed_with : List ℕ → List ℕ → List ℕ
fed_with b part = cond (eqb (standing b) 0) (grown_by b (fitting b part)) b

-- what a feed answers, and every byte of the reader
pub record FeedDone (b part : List ℕ) (r : ℕ) (b' : List ℕ) : Type 0 where
  pub answer : r ≡ standing b
  pub reader : b' ≡ fed_with b part

-- ---- close

-- the bytes that a close leaves: the second word 1
unfoldable pub shut : List ℕ → List ℕ
shut b = cond (eqb (standing b) 0) (put_word_of b 1 1) b

-- how a reader stood before it was closed, and every byte of it
pub record ShutDone (b : List ℕ) (r : ℕ) (b' : List ℕ) : Type 0 where
  pub answer : r ≡ standing b
  pub reader : b' ≡ shut b

-- ---- readers as bytes

-- bytes of an open reader that was fed s: it keeps as much of s as fits
pub record Keeps (s b : List ℕ) : Type 0 where
  pub sized : length b ≡ size
  pub open_word : word_at_of b 1 ≡ 0
  pub number : held_in b ≡ min (length s) most
  pub places : kept_in b ≡ take most s

-- bytes of a closed reader
pub record Shut (b : List ℕ) : Type 0 where
  pub sized : length b ≡ size
  pub closed : word_at_of b 1 ≡ 0 → ⊥

-- the bytes are this reader
abbrev pub Is : Reader → List ℕ → Type 0
Is (fed s) b = Keeps s b
Is closed b = Shut b

-- feeds in turn, each as its contract has it: the bytes before, the parts, the bytes behind
pub data Feeds : List ℕ → List (List ℕ) → List ℕ → Type 0 where
  none : {b : List ℕ} → Feeds b [] b
  more : {b part b₁ b₂ : List ℕ} {r : ℕ} {parts : List (List ℕ)} → FeedDone b part r b₁ → Feeds b₁ parts b₂ → Feeds b (part ∷ parts) b₂
