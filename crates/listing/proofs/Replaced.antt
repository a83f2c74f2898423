-- The line of a replaced outline: the rest of a listing does not hang on it, and it stands exactly where the outline was replaced. Assumes nothing.
use Prim.Native.Nat.{ℕ}
use mathlib.Core.Path.{◌≡◌, refl, ap, ◌∙◌}
use mathlib.Core.Bool.{Bool, true, false}
use mathlib.Core.List.{List, [], ◌∷◌, ◌++◌, append_assoc}
use lib.Dec.{eqb}
use lib.ListN.{get_or}
use Rattle.lists.specs.Lists.{each}
use Rattle.model.specs.Calls.{refused}
use Rattle.mesh.specs.Log.{Words}
use Rattle.listing.specs.Listing.{decimal_by, decimal, line, tear_word, particles_word, pieces_word, of_kind, split_line, edge_line, insert_line, replaced_line, listing_bytes, refused_bytes, printed}

-- a listing behind its first lines
abbrev pub rest : List Words → ℕ → ℕ → List ℕ
rest log particles pieces =
    each split_line (of_kind 1 log) ++ (each edge_line (of_kind 2 log) ++ (each insert_line (of_kind 3 log) ++ (line particles_word (particles ∷ []) ++ line pieces_word (pieces ∷ []))))

-- the line, and nothing else, stands between `tear 1` and the rest
pub listing_parts : (replaced : Bool) (log : List Words) (particles pieces : ℕ) → listing_bytes replaced log particles pieces ≡ line tear_word (1 ∷ []) ++ (replaced_line replaced ++ rest log particles pieces)
unfolding listing_bytes
listing_parts replaced log particles pieces = simp append_assoc

-- the first byte of the rest is that of `split`, `edge`, `insert` or `particles`, and never that of `outline`
abbrev other? : List ℕ → Type 0
other? l = eqb (get_or l 0 0) 111 ≡ false

inserts_other : (l : List Words) (particles : ℕ) (b : List ℕ) → other? (each insert_line l ++ (line particles_word (particles ∷ []) ++ b))
unfolding each line
inserts_other [] particles b = refl
inserts_other (e ∷ l) particles b = refl

edges_other : (l : List Words) (b : List ℕ) → other? b → other? (each edge_line l ++ b)
unfolding each line
edges_other [] b h = h
edges_other (e ∷ l) b h = refl

splits_other : (l : List Words) (b : List ℕ) → other? b → other? (each split_line l ++ b)
unfolding each line
splits_other [] b h = h
splits_other (e ∷ l) b h = refl

rest_other : (log : List Words) (particles pieces : ℕ) → other? (rest log particles pieces)
rest_other log particles pieces = splits_other (of_kind 1 log) _ (edges_other (of_kind 2 log) _ (inserts_other (of_kind 3 log) particles (line pieces_word (pieces ∷ []))))

-- what stands behind `tear 1` and the end of its line
behind_tear : (l : List ℕ) → get_or (line tear_word (1 ∷ []) ++ l) 7 0 ≡ get_or l 0 0
unfolding each line decimal decimal_by
behind_tear l = refl

first_told : (replaced : Bool) (l : List ℕ) → other? l → eqb (get_or (replaced_line replaced ++ l) 0 0) 111 ≡ replaced
unfolding replaced_line line
first_told true l h = refl
first_told false l h = h

-- so the byte behind `tear 1` tells: an `o` stands there exactly where the outline was replaced
pub replaced_told : (replaced : Bool) (log : List Words) (particles pieces : ℕ) → eqb (get_or (listing_bytes replaced log particles pieces) 7 0) 111 ≡ replaced
replaced_told replaced log particles pieces =
    ap (λ (l : List ℕ). eqb (get_or l 7 0) 111) (listing_parts replaced log particles pieces)
    ∙ ap (λ (n : ℕ). eqb n 111) (behind_tear (replaced_line replaced ++ rest log particles pieces))
    ∙ first_told replaced (rest log particles pieces) (rest_other log particles pieces)

-- a refusal is one line, and does not hang on the outline
pub refused_alone : (replaced : Bool) (code : ℕ) → printed replaced (refused code) ≡ refused_bytes code
refused_alone replaced code = refl
