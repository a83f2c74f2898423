-- What the program prints, byte for byte: the listing of a cut (docs/RULES.md, R14), and its line of a refusal. Definitions only.
use Rattle.std.specs.Prelude.{ℕ, zero, suc, ◌+◌, ◌-◌, ◌*◌, ◌/◌, ◌%◌, Bool, true, false, ◌&&◌, List, [], ◌∷◌, ◌++◌, map, length, eqb, leb, ltb}
use Rattle.lists.specs.Lists.{pick, sift, each}
use Rattle.model.specs.Run.{Entry, split, edge, insert, opened, met}
use Rattle.model.specs.Pieces.{pieces}
use Rattle.model.specs.Calls.{Outcome, refused, done}
use Rattle.mesh.specs.Log.{Words, words_of}

-- ---- numbers

-- the byte of a digit: `0` is 48
abbrev pub digit : ℕ → ℕ
digit d = 48 + d

-- the decimal digits of n, the highest first: below 10 the one digit, else those of a tenth and then the last digit; k is how often a tenth may be taken
unfoldable pub decimal_by : ℕ → ℕ → List ℕ
decimal_by zero n = digit n ∷ []
decimal_by (suc k) n = pick (ltb n 10) (digit n ∷ []) (decimal_by k (n / 10) ++ (digit (n % 10) ∷ []))

-- the decimal digits of n: n times is always often enough
unfoldable pub decimal : ℕ → List ℕ
decimal n = decimal_by n n

-- ---- lines

-- a space, then a number
abbrev pub spaced : ℕ → List ℕ
spaced n = 32 ∷ decimal n

-- a line: a word, each number behind a space, and the byte that ends a line
unfoldable pub line : List ℕ → List ℕ → List ℕ
line word numbers = word ++ each spaced numbers ++ (10 ∷ [])

-- `tear`
abbrev pub tear_word : List ℕ
tear_word = 116 ∷ 101 ∷ 97 ∷ 114 ∷ []

-- `outline replaced`
abbrev pub replaced_word : List ℕ
replaced_word = 111 ∷ 117 ∷ 116 ∷ 108 ∷ 105 ∷ 110 ∷ 101 ∷ 32 ∷ 114 ∷ 101 ∷ 112 ∷ 108 ∷ 97 ∷ 99 ∷ 101 ∷ 100 ∷ []

-- `split`
abbrev pub split_word : List ℕ
split_word = 115 ∷ 112 ∷ 108 ∷ 105 ∷ 116 ∷ []

-- `edge`
abbrev pub edge_word : List ℕ
edge_word = 101 ∷ 100 ∷ 103 ∷ 101 ∷ []

-- `insert`
abbrev pub insert_word : List ℕ
insert_word = 105 ∷ 110 ∷ 115 ∷ 101 ∷ 114 ∷ 116 ∷ []

-- `particles`
abbrev pub particles_word : List ℕ
particles_word = 112 ∷ 97 ∷ 114 ∷ 116 ∷ 105 ∷ 99 ∷ 108 ∷ 101 ∷ 115 ∷ []

-- `pieces`
abbrev pub pieces_word : List ℕ
pieces_word = 112 ∷ 105 ∷ 101 ∷ 99 ∷ 101 ∷ 115 ∷ []

-- `refused`
abbrev pub refused_word : List ℕ
refused_word = 114 ∷ 101 ∷ 102 ∷ 117 ∷ 115 ∷ 101 ∷ 100 ∷ []

-- ---- the listing

-- the entries of one kind, in the order of the log
unfoldable pub of_kind : ℕ → List Words → List Words
of_kind kind log = sift (λ (e : Words). eqb e.kind kind) log

-- the line of a split, `split c v`; of a removed edge, `edge a b`; of an insertion, `insert a b p q`
abbrev pub split_line : Words → List ℕ
split_line e = line split_word (e.a ∷ e.b ∷ [])

abbrev pub edge_line : Words → List ℕ
edge_line e = line edge_word (e.a ∷ e.b ∷ [])

abbrev pub insert_line : Words → List ℕ
insert_line e = line insert_word (e.a ∷ e.b ∷ e.p ∷ e.q ∷ [])

-- the line `outline replaced` where the sheet's typed outline was replaced, and nothing else
unfoldable pub replaced_line : Bool → List ℕ
replaced_line true = line replaced_word []
replaced_line false = []

-- the whole listing: `tear 1`, `outline replaced` where it was, the splits, the removed edges, the insertions, `particles N`, `pieces N`. Opened torn edges, which no cut has, get no line.
unfoldable pub listing_bytes : Bool → List Words → ℕ → ℕ → List ℕ
listing_bytes replaced log particles pieces =
    line tear_word (1 ∷ []) ++ replaced_line replaced ++ each split_line (of_kind 1 log) ++ each edge_line (of_kind 2 log) ++ each insert_line (of_kind 3 log)
    ++ line particles_word (particles ∷ []) ++ line pieces_word (pieces ∷ [])

-- what is printed on a refusal: the one line `refused N`
unfoldable pub refused_bytes : ℕ → List ℕ
refused_bytes code = line refused_word (code ∷ [])

-- what is printed for the outcome of a cut of a sheet whose outline was or was not replaced: the listing of its log, its particles and its pieces, or the line of its refusal alone
abbrev pub printed : Bool → Outcome → List ℕ
printed replaced (refused code) = refused_bytes code
printed replaced (done M log changed) = listing_bytes replaced (map words_of log) (length M.particles) (pieces M)

-- ---- the same lines of a log's entries; proofs/Entries.antt proves that they are the lines of the entries' words

-- the line of a split, and nothing of another entry; of a removed edge; of an insertion
abbrev pub split_text : Entry → List ℕ
split_text (split c v) = line split_word (c ∷ v ∷ [])
split_text (edge a b) = []
split_text (insert a b p q t) = []
split_text (opened a b) = []
split_text (met a b p t) = []

abbrev pub edge_text : Entry → List ℕ
edge_text (split c v) = []
edge_text (edge a b) = line edge_word (a ∷ b ∷ [])
edge_text (insert a b p q t) = []
edge_text (opened a b) = []
edge_text (met a b p t) = []

abbrev pub insert_text : Entry → List ℕ
insert_text (split c v) = []
insert_text (edge a b) = []
insert_text (insert a b p q t) = line insert_word (a ∷ b ∷ p ∷ q ∷ [])
insert_text (opened a b) = []
insert_text (met a b p t) = []

-- the listing of a log of entries
unfoldable pub listing_of : Bool → List Entry → ℕ → ℕ → List ℕ
listing_of replaced log particles pieces =
    line tear_word (1 ∷ []) ++ replaced_line replaced ++ each split_text log ++ each edge_text log ++ each insert_text log ++ line particles_word (particles ∷ []) ++ line pieces_word (pieces ∷ [])

-- ---- what digits mean

-- the number that a run of digits, the highest first, is read as, behind digits that are read as m
unfoldable pub value_from : ℕ → List ℕ → ℕ
value_from m [] = m
value_from m (b ∷ l) = value_from (10 * m + (b - 48)) l

unfoldable pub value_of : List ℕ → ℕ
value_of l = value_from 0 l

-- the bytes from `0` to `9`
abbrev pub digit? : ℕ → Bool
digit? b = leb 48 b && leb b 57
