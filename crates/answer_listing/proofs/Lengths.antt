-- How long a listing is: with at most 640 log entries, and numbers of 64 bits, it has at most 65,536 bytes. Assumes nothing.
use Prim.Native.Nat.{ℕ, zero, suc, ◌+◌, ◌*◌, ◌≤◌}
use native.Mathlib.Omega.{arith}
use native.Mathlib.Decide.{ℕ_discrete}
use borrow.Author.Tests.{ne_eqb}
use mathlib.Core.Path.{◌≡◌, ap}
use mathlib.Core.Bool.{Bool, true, false}
use mathlib.Core.List.{List, [], ◌∷◌, ◌++◌}
use lib.Dec.{eqb}
use lib.ListN.{length, get_or, length-append}
use Rattle.lists.specs.Lists.{pick, sift, each, tab}
use Rattle.model.specs.Trace.{All}
use Rattle.mesh.specs.Log.{Words, entry_row, log_at}
use Rattle.mesh.proofs.Lists.{log_length}
use Rattle.listing.specs.Listing.{line, of_kind, split_line, edge_line, insert_line, listing_bytes, replaced_word, replaced_line, tear_word, split_word, edge_word, insert_word, particles_word, pieces_word}
use Rattle.listing.proofs.Lengths.{Wide, line_long}

-- what holds of each entry of a table
all_tab : {A : Type 0} (P : A → Type 0) (n : ℕ) (f : ℕ → A) → ((k : ℕ) → P (f k)) → All P (tab n f)
unfolding tab
all_tab P zero f h = tt
all_tab P (suc n) f h = (h 0, all_tab P n (λ k. f (suc k)) (λ k. h (suc k)))

-- ---- the listing

-- the numbers of an entry that are listed
abbrev Listable : Words → Type 0
Listable e = Wide e.a × Wide e.b × Wide e.p × Wide e.q

log_listable : (n : ℕ) (g : List ℕ) → ((j : ℕ) → Wide (get_or g j 0)) → All Listable (log_at n g)
unfolding log_at
log_listable n g h = all_tab Listable n (entry_row g) (λ k. (h (6 * k + 1), h (6 * k + 2), h (6 * k + 3), h (6 * k + 4)))

-- an entry has a line of one kind at most
pick_most : (b : Bool) (a : List ℕ) → length (pick b a []) ≤ length a
pick_most true a = omega arith
pick_most false a = omega arith

pick_none : (b : Bool) (a : List ℕ) → b ≡ false → length (pick b a []) ≡ 0
pick_none b a e = ap (λ (t : Bool). length (pick t a [])) e

by_kind : (k : ℕ) (a b c : List ℕ) → length a ≤ 91 → length b ≤ 91 → length c ≤ 91 → length (pick (eqb k 1) a []) + length (pick (eqb k 2) b []) + length (pick (eqb k 3) c []) ≤ 91
by_kind k a b c x y z =
    elim (ℕ_discrete k 1) [
      | yes e ↦ omega (arith, pick_most (eqb k 1) a, pick_none (eqb k 2) b (ne_eqb k 2 (λ d. omega arith)), pick_none (eqb k 3) c (ne_eqb k 3 (λ d. omega arith)))
      | no n ↦ elim (ℕ_discrete k 2) [
        | yes e ↦ omega (arith, pick_none (eqb k 1) a (ne_eqb k 1 n), pick_most (eqb k 2) b, pick_none (eqb k 3) c (ne_eqb k 3 (λ d. omega arith)))
        | no m ↦ omega (arith, pick_none (eqb k 1) a (ne_eqb k 1 n), pick_none (eqb k 2) b (ne_eqb k 2 m), pick_most (eqb k 3) c)
      ]
    ]

-- the lines of one kind, entry by entry
kind_first : (kind : ℕ) (f : Words → List ℕ) (e : Words) (log : List Words) → length (each f (of_kind kind (e ∷ log))) ≡ length (pick (eqb e.kind kind) (f e) []) + length (each f (of_kind kind log))
unfolding of_kind sift each
kind_first kind f e log = by (eqb e.kind kind)
  where
    by : (b : Bool) → length (each f (pick b (e ∷ sift (λ (x : Words). eqb x.kind kind) log) (sift (λ (x : Words). eqb x.kind kind) log)))
        ≡ length (pick b (f e) []) + length (each f (sift (λ (x : Words). eqb x.kind kind) log))
    by true = length-append (f e) (each f (sift (λ (x : Words). eqb x.kind kind) log))
    by false = omega arith

-- so a log has at most 91 bytes of lines to an entry
kinds_long : (log : List Words) → All Listable log → length (each split_line (of_kind 1 log)) + length (each edge_line (of_kind 2 log)) + length (each insert_line (of_kind 3 log)) ≤ length log * 91
unfolding of_kind sift each
kinds_long [] h = omega arith
kinds_long (e ∷ log) h =
    let w = h.0 in
    let s = line_long split_word (e.a ∷ e.b ∷ []) (w.0, (w.1, tt)) in
    let r = line_long edge_word (e.a ∷ e.b ∷ []) (w.0, (w.1, tt)) in
    let i = line_long insert_word (e.a ∷ e.b ∷ e.p ∷ e.q ∷ []) (w.0, (w.1, (w.2, (w.3, tt)))) in
    let one = by_kind e.kind (split_line e) (edge_line e) (insert_line e) (omega (arith, s)) (omega (arith, r)) (omega (arith, i)) in
    omega (arith, kind_first 1 split_line e log, kind_first 2 edge_line e log, kind_first 3 insert_line e log, one, kinds_long log h.1)

-- the line of a replaced outline, or none
replaced_long : (replaced : Bool) → length (replaced_line replaced) ≤ 17
unfolding replaced_line
replaced_long true = line_long replaced_word [] tt
replaced_long false = omega arith

seven : (a b c d e f g : List ℕ) → length (a ++ b ++ c ++ d ++ e ++ f ++ g) ≡ length a + length b + length c + length d + length e + length f + length g
seven a b c d e f g = simp length-append

pub listing_few : (replaced : Bool) (n : ℕ) (g : List ℕ) (particles found : ℕ) → n ≤ 640 → ((j : ℕ) → Wide (get_or g j 0)) → Wide particles → Wide found → length (listing_bytes replaced (log_at n g) particles found) ≤ 65536
unfolding listing_bytes
listing_few replaced n g particles found few words p q =
    let log = log_at n g in
    let h = log_listable n g words in
    let k : length log ≤ 640 = omega (arith, log_length n g) in
    let t = line_long tear_word (1 ∷ []) (omega arith, tt) in
    let o = replaced_long replaced in
    let k₃ = kinds_long log h in
    let m = line_long particles_word (particles ∷ []) (p, tt) in
    let z = line_long pieces_word (found ∷ []) (q, tt) in
    omega (arith, seven (line tear_word (1 ∷ [])) (replaced_line replaced) (each split_line (of_kind 1 log)) (each edge_line (of_kind 2 log)) (each insert_line (of_kind 3 log)) (line particles_word (particles ∷ [])) (line pieces_word (found ∷ [])))
