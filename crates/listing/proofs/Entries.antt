-- The lines of a log's words are those of its entries. Assumes nothing.
use Prim.Native.Nat.{ℕ, suc, ◌+◌, ◌-◌, ◌*◌, ◌≤◌, ◌<◌}
use native.Mathlib.Nat.{add-suc}
use native.Mathlib.Omega.{arith}
use mathlib.Core.Path.{◌≡◌, refl, sym, ap, ap₂, ◌∙◌}
use mathlib.Core.Bool.{Bool, true, false}
use mathlib.Core.List.{List, [], ◌∷◌, ◌++◌, map}
use lib.Dec.{eqb}
use lib.ListN.{length, get_or, take, drop}
use lib.Seq.{drop-cons, take-append-le}
use borrow.Author.Tests.{eq-eqb, ne_eqb}
use Rattle.lists.specs.Lists.{pick, sift, each}
use Rattle.lists.proofs.Steps.{each_step}
use Rattle.model.specs.Run.{Entry, split, edge, insert, opened, met}
use Rattle.mesh.specs.Log.{Words, words_of, entry_row, log_at}
use Rattle.listing.specs.Listing.{of_kind, line, split_word, edge_word, insert_word, split_line, edge_line, insert_line, listing_bytes, split_text, edge_text, insert_text, listing_of}
use Rattle.listing.specs.Work.{entry_line}

module _ {A B : Type 0} where
  -- what f makes of the elements that pass is what it makes of each, and nothing of the others
  pub each_sift : (p : A → Bool) (f : A → List B) (l : List A) → each f (sift p l) ≡ each (λ (a : A). pick (p a) (f a) []) l
  unfolding each sift
  each_sift p f [] = refl
  each_sift p f (a ∷ l) = here (p a) (each_sift p f l)
    where
      here : (t : Bool) → each f (sift p l) ≡ each (λ (a : A). pick (p a) (f a) []) l → each f (pick t (a ∷ sift p l) (sift p l)) ≡ pick t (f a) [] ++ each (λ (a : A). pick (p a) (f a) []) l
      here true e = ap (λ (m : List B). f a ++ m) e
      here false e = e

  -- functions that agree make the same of a list; and of a mapped list
  pub each_ext : (f g : A → List B) → ((a : A) → f a ≡ g a) → (l : List A) → each f l ≡ each g l
  unfolding each
  each_ext f g e [] = refl
  each_ext f g e (a ∷ l) = ap₂ ◌++◌ (e a) (each_ext f g e l)

pub each_map : {A B C : Type 0} (h : A → B) (f : B → List C) (l : List A) → each f (map h l) ≡ each (λ (a : A). f (h a)) l
unfolding each
each_map h f [] = refl
each_map h f (a ∷ l) = ap (λ (m : List _). f (h a) ++ m) (each_map h f l)

-- ---- the lines of one kind, as the writer goes through a log

module _ (log : List Words) where
  pub split_lines : each (entry_line split_word 1 2) log ≡ each split_line (of_kind 1 log)
  unfolding entry_line of_kind
  split_lines = sym (each_sift (λ (e : Words). eqb e.kind 1) split_line log)

  pub edge_lines : each (entry_line edge_word 2 2) log ≡ each edge_line (of_kind 2 log)
  unfolding entry_line of_kind
  edge_lines = sym (each_sift (λ (e : Words). eqb e.kind 2) edge_line log)

  pub insert_lines : each (entry_line insert_word 3 4) log ≡ each insert_line (of_kind 3 log)
  unfolding entry_line of_kind
  insert_lines = sym (each_sift (λ (e : Words). eqb e.kind 3) insert_line log)

-- ---- the words of entries

kind_text : (kind : ℕ) (f : Words → List ℕ) (g : Entry → List ℕ) → ((e : Entry) → pick (eqb (words_of e).kind kind) (f (words_of e)) [] ≡ g e)
    → (l : List Entry) → each f (of_kind kind (map words_of l)) ≡ each g l
unfolding of_kind
kind_text kind f g same l =
    each_sift (λ (e : Words). eqb e.kind kind) f (map words_of l)
    ∙ each_map words_of (λ (e : Words). pick (eqb e.kind kind) (f e) []) l
    ∙ each_ext (λ (e : Entry). pick (eqb (words_of e).kind kind) (f (words_of e)) []) g same l

split_same : (e : Entry) → pick (eqb (words_of e).kind 1) (split_line (words_of e)) [] ≡ split_text e
split_same (split c v) = refl
split_same (edge a b) = refl
split_same (insert a b p q t) = refl
split_same (opened a b) = refl
split_same (met a b p t) = refl

edge_same : (e : Entry) → pick (eqb (words_of e).kind 2) (edge_line (words_of e)) [] ≡ edge_text e
edge_same (split c v) = refl
edge_same (edge a b) = refl
edge_same (insert a b p q t) = refl
edge_same (opened a b) = refl
edge_same (met a b p t) = refl

insert_same : (e : Entry) → pick (eqb (words_of e).kind 3) (insert_line (words_of e)) [] ≡ insert_text e
insert_same (split c v) = refl
insert_same (edge a b) = refl
insert_same (insert a b p q t) = refl
insert_same (opened a b) = refl
insert_same (met a b p t) = refl

-- the listing of the words of a log is the listing of its entries
pub listing_entries : (replaced : Bool) (l : List Entry) (particles pieces : ℕ) → listing_bytes replaced (map words_of l) particles pieces ≡ listing_of replaced l particles pieces
unfolding listing_bytes listing_of
listing_entries replaced l particles pieces =
    rw (kind_text 1 split_line split_text split_same l, kind_text 2 edge_line edge_text edge_same l, kind_text 3 insert_line insert_text insert_same l)

-- ---- an entry in the log

-- the numbers of entry i, as a part of the log
entry_part : (log : List ℕ) (i : ℕ) → 6 * i + 6 ≤ length log
    → drop (6 * i + 1) log ≡ get_or log (6 * i + 1) 0 ∷ get_or log (6 * i + 2) 0 ∷ get_or log (6 * i + 3) 0 ∷ get_or log (6 * i + 4) 0 ∷ drop (6 * i + 5) log
entry_part log i h = next 1 (omega arith) ∙ ap (λ (l : List ℕ). get_or log (6 * i + 1) 0 ∷ l) (next 2 (omega arith) ∙ ap (λ (l : List ℕ). get_or log (6 * i + 2) 0 ∷ l) (next 3 (omega arith) ∙ ap (λ (l : List ℕ). get_or log (6 * i + 3) 0 ∷ l) (next 4 (omega arith))))
  where
    next : (k : ℕ) → 6 * i + k < length log → drop (6 * i + k) log ≡ get_or log (6 * i + k) 0 ∷ drop (6 * i + suc k) log
    next k l = drop-cons log (6 * i + k) 0 l ∙ ap (λ (m : ℕ). get_or log (6 * i + k) 0 ∷ drop m log) (sym (add-suc (6 * i) k))

pub entry_numbers : (log : List ℕ) (i count : ℕ) → 6 * i + 6 ≤ length log → count ≤ 4
    → take count (drop (6 * i + 1) log) ≡ take count ((entry_row log i).a ∷ (entry_row log i).b ∷ (entry_row log i).p ∷ (entry_row log i).q ∷ [])
entry_numbers log i count h g =
    ap (take count) (entry_part log i h)
    ∙ take-append-le count ((entry_row log i).a ∷ (entry_row log i).b ∷ (entry_row log i).p ∷ (entry_row log i).q ∷ []) (drop (6 * i + 5) log) g

-- an entry of the kind has its line
pub entry_listed : (word : List ℕ) (kind count : ℕ) (log : List ℕ) (i : ℕ) → 6 * i + 6 ≤ length log → count ≤ 4 → get_or log (6 * i) 0 ≡ kind
    → line word (take (6 * i + 1 + count - (6 * i + 1)) (drop (6 * i + 1) log)) ≡ entry_line word kind count (entry_row log i)
unfolding entry_line
entry_listed word kind count log i h g k =
    let e : 6 * i + 1 + count - (6 * i + 1) ≡ count = omega arith in
    rw (eq-eqb (get_or log (6 * i) 0) kind k, e) (ap (line word) (entry_numbers log i count h g))

-- another has none
pub entry_other : (word : List ℕ) (kind count : ℕ) (log : List ℕ) (i : ℕ) → (get_or log (6 * i) 0 ≡ kind → ⊥) → [] ≡ entry_line word kind count (entry_row log i)
unfolding entry_line
entry_other word kind count log i k = rw (ne_eqb (get_or log (6 * i) 0) kind k)

-- the lines of one entry more
pub entries_more : (word : List ℕ) (kind count : ℕ) (log : List ℕ) (i : ℕ)
    → each (entry_line word kind count) (log_at (i + 1) log) ≡ each (entry_line word kind count) (log_at i log) ++ entry_line word kind count (entry_row log i)
unfolding log_at
entries_more word kind count log i = each_step (entry_line word kind count) (entry_row log) i
