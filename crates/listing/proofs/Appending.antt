-- Laws of text that is written piece by piece. Assumes nothing.
use Prim.Native.Nat.{ℕ, ◌+◌, ◌/◌, ◌%◌, ◌≤◌, ◌<◌, zero-le}
use native.Mathlib.Numerals.{add-one}
use native.Mathlib.Omega.{arith}
use mathlib.Core.Path.{◌≡◌, refl, sym, ap, subst, ◌∙◌}
use mathlib.Core.Bool.{Bool, true, false}
use mathlib.Core.List.{List, [], ◌∷◌, ◌++◌, append-nil, append_assoc}
use lib.ListN.{length, get_or, take, set, length-set, length-append, length-take}
use lib.Seq.{take-suc, take-length}
use borrow.Author.Tests.{le-leb, lt-leb}
use Rattle.lists.specs.Lists.{each, padded}
use Rattle.lists.proofs.Sifts.{each_append}
use Rattle.mesh.specs.Log.{Words}
use Rattle.columns.proofs.Sweep.{front_grows, Clearing, clear_start, clear_more, clear_done}
use Rattle.std.specs.Prelude.{Option, None, Some}
use Rattle.listing.specs.Listing.{digit, decimal, spaced, line, tear_word, split_word, edge_word, insert_word, particles_word, pieces_word, replaced_word, replaced_line, listing_bytes}
use Rattle.listing.specs.Answers.{answer_for, shown_for, Wrote}
use Rattle.listing.specs.Work.{Holds, Appends, Cleared, Finishes, entry_line}
use Rattle.listing.proofs.Decimal.{decimal_small, decimal_more}
use Rattle.listing.proofs.Entries.{split_lines, edge_lines, insert_lines}

-- ---- pieces one behind the other

-- nothing is nothing more
pub appends_none : (s : List ℕ) (at : Option ℕ) → Appends [] s at s at
appends_none s at = record { appended = λ text h. subst (λ (t : List ℕ). Holds t s at) (sym (append-nil text)) h }

-- two pieces are one
pub appends_then : {x y s s₁ s₂ : List ℕ} {at r₁ r₂ : Option ℕ} → Appends x s at s₁ r₁ → Appends y s₁ r₁ s₂ r₂ → Appends (x ++ y) s at s₂ r₂
appends_then {x} {y} {s} {s₁} {s₂} {at} {r₁} {r₂} a b =
    record { appended = λ text h. subst (λ (t : List ℕ). Holds t s₂ r₂) (append_assoc text x y) (b.appended (text ++ x) (a.appended text h)) }

-- a piece is its equal
pub appends_as : {x y s s₁ : List ℕ} {at r₁ : Option ℕ} → Appends x s at s₁ r₁ → x ≡ y → Appends y s at s₁ r₁
appends_as {x} {y} {s} {s₁} {at} {r₁} a e = subst (λ (t : List ℕ). Appends t s at s₁ r₁) e a

-- ---- one byte

-- a front that is the whole text is no longer than what it is the front of
front_within : (text s : List ℕ) (n : ℕ) → n ≡ length text → take n s ≡ text → n ≤ length s
front_within text s n e f = omega (arith, length-take n s, ap length f)

-- a text that was too long still is
pub byte_short : (s : List ℕ) (at : Option ℕ) (b : ℕ) → at ≡ None → Appends (b ∷ []) s at s None
byte_short s at b e =
    record { appended = λ text h. let g : length s < length text = subst (Holds text s) e h in omega (arith, length-append text (b ∷ [])) }

-- a text that filled s becomes too long
pub byte_full : (s : List ℕ) (at : Option ℕ) (n b : ℕ) → at ≡ Some n → length s ≤ n → Appends (b ∷ []) s at s None
byte_full s at n b e l =
    record {
      appended = λ text h.
          let g : (n ≡ length text) × (take n s ≡ text) = subst (Holds text s) e h in
          omega (arith, length-append text (b ∷ []));
    }

-- a byte goes behind the text
pub byte_fits : (s : List ℕ) (at : Option ℕ) (n b : ℕ) → at ≡ Some n → n < length s → Appends (b ∷ []) s at (set s n b) (Some (n + 1))
byte_fits s at n b e l =
    record {
      appended = λ text h.
          let g : (n ≡ length text) × (take n s ≡ text) = subst (Holds text s) e h in
          (omega (arith, length-append text (b ∷ [])), front_grows s text n b g.1 l);
    }

-- ---- a number

-- one digit
pub number_small : {s s₁ : List ℕ} {at r₁ : Option ℕ} {b : ℕ} (n : ℕ) → Appends (b ∷ []) s at s₁ r₁ → b ≡ digit n → n < 10 → Appends (decimal n) s at s₁ r₁
number_small n a e h = appends_as a (ap (λ (x : ℕ). x ∷ []) e ∙ sym (decimal_small n h))

-- the digits of the tenth, then the last
pub number_more : {s s₁ s₂ : List ℕ} {at r₁ r₂ : Option ℕ} {b : ℕ} (n : ℕ) → Appends (decimal (n / 10)) s at s₁ r₁ → Appends (b ∷ []) s₁ r₁ s₂ r₂ → b ≡ digit (n % 10) → 10 ≤ n
    → Appends (decimal n) s at s₂ r₂
number_more n a d e h = appends_as (appends_then a d) (ap (λ (x : ℕ). decimal (n / 10) ++ (x ∷ [])) e ∙ sym (decimal_more n h))

-- ---- a loop that writes one piece a turn

-- at the head of the loop: text i, of n turns, is written
pub record Growing (text : ℕ → List ℕ) (n : ℕ) (s₀ : List ℕ) (at₀ : Option ℕ) (s : List ℕ) (at : Option ℕ) (i : ℕ) : Type 0 where
  pub so_far : Appends (text i) s₀ at₀ s at
  pub long : length s ≡ length s₀
  pub below : i ≤ n

pub grow_start : (text : ℕ → List ℕ) (n : ℕ) (s : List ℕ) (at : Option ℕ) → text 0 ≡ [] → Growing text n s at s at 0
grow_start text n s at e = record { so_far = appends_as (appends_none s at) (sym e); long = refl; below = zero-le }

pub grow_more : {text : ℕ → List ℕ} {n i : ℕ} {s₀ s s' x : List ℕ} {at₀ at r : Option ℕ} → Growing text n s₀ at₀ s at i → i < n → Appends x s at s' r
    → text (i + 1) ≡ text i ++ x → length s' ≡ length s → Growing text n s₀ at₀ s' r (i + 1)
grow_more g l a e f = record { so_far = appends_as (appends_then g.so_far a) (sym e); long = f ∙ g.long; below = omega arith }

pub grow_done : {text : ℕ → List ℕ} {n i : ℕ} {s₀ s : List ℕ} {at₀ at : Option ℕ} → Growing text n s₀ at₀ s at i → n ≤ i → Appends (text n) s₀ at₀ s at
grow_done {text} {n} {i} {s₀} {s} {at₀} {at} g l =
    let e : i ≡ n = omega (arith, g.below) in
    subst (λ (k : ℕ). Appends (text k) s₀ at₀ s at) e g.so_far

-- one more of a list's front
pub front_more : (l : List ℕ) (i : ℕ) → i < length l → take (i + 1) l ≡ take i l ++ (get_or l i 0 ∷ [])
front_more l i h = rw (add-one i) (take-suc l i 0 h)

-- one more number of a line
pub spaced_more : (l : List ℕ) (i : ℕ) → i < length l → each spaced (take (i + 1) l) ≡ each spaced (take i l) ++ ((32 ∷ []) ++ decimal (get_or l i 0))
unfolding each
spaced_more l i h = rw (front_more l i h, each_append spaced (take i l) (get_or l i 0 ∷ []), append-nil (decimal (get_or l i 0)))

-- a word, its numbers and the end of the line
pub line_written : {word s s₁ s₂ s₃ : List ℕ} {at r₁ r₂ r₃ : Option ℕ} (l : List ℕ) → Appends word s at s₁ r₁ → Appends (each spaced (take (length l) l)) s₁ r₁ s₂ r₂ → Appends (10 ∷ []) s₂ r₂ s₃ r₃
    → Appends (line word l) s at s₃ r₃
unfolding line
line_written {word} l a b c = appends_as (appends_then (appends_then a b) c) (ap (λ (m : List ℕ). word ++ each spaced m ++ (10 ∷ [])) (take-length l))

-- an outline that was not replaced has no line; one that was has it
pub replaced_none : (t : Bool) (s : List ℕ) (at : Option ℕ) → t ≡ false → Appends (replaced_line t) s at s at
unfolding replaced_line
replaced_none t s at e = rw e (appends_none s at)

pub replaced_line_lem : {s s₁ : List ℕ} {at r₁ : Option ℕ} (t : Bool) → t ≡ true → Appends (line replaced_word []) s at s₁ r₁ → Appends (replaced_line t) s at s₁ r₁
unfolding replaced_line
replaced_line_lem t e a = rw e a

-- ---- the end of a text

-- at the head of the loop that clears, where its start lies within s₀
pub record ClearingFrom (from : ℕ) (s₀ s : List ℕ) (i : ℕ) : Type 0 where
  pub clearing : from ≤ length s₀ → Clearing from 0 s₀ s i
  pub long : length s ≡ length s₀

pub clear_start_from : (from : ℕ) (s : List ℕ) → ClearingFrom from s s from
clear_start_from from s = record { clearing = clear_start from 0 s; long = refl }

pub clear_more_from : (from : ℕ) (s₀ s : List ℕ) (i : ℕ) → ClearingFrom from s₀ s i → i < length s → ClearingFrom from s₀ (set s i 0) (i + 1)
clear_more_from from s₀ s i v h = record { clearing = λ g. clear_more from 0 s₀ s i (v.clearing g) h; long = length-set s i 0 ∙ v.long }

pub clear_done_from : (from : ℕ) (s₀ s : List ℕ) (i : ℕ) → ClearingFrom from s₀ s i → length s ≤ i → Cleared from s₀ s
clear_done_from from s₀ s i v h = record { cleared = λ g. clear_done from 0 s₀ s i (v.clearing g) h g }

-- a text that is too long leaves nothing
pub finish_short : (s s' : List ℕ) (at : Option ℕ) → at ≡ None → Cleared 0 s s' → Finishes s at s' None
unfolding answer_for shown_for
finish_short s s' at e v =
    record {
      finished = λ text h.
          let g : length s < length text = subst (Holds text s) e h in
          record { answer = rw (lt-leb (length text) (length s) g); bytes = rw (lt-leb (length text) (length s) g) (v.cleared zero-le) };
    }

-- a text that stands at the front is all that is shown
pub finish_whole : (s s' : List ℕ) (at : Option ℕ) (n : ℕ) → at ≡ Some n → Cleared n s s' → Finishes s at s' (Some n)
unfolding answer_for shown_for
finish_whole s s' at n e v =
    record {
      finished = λ text h.
          let g : (n ≡ length text) × (take n s ≡ text) = subst (Holds text s) e h in
          let w : n ≤ length s = front_within text s n g.0 g.1 in
          let l : length text ≤ length s = omega arith in
          record { answer = rw (le-leb (length text) (length s) l) (ap Some g.0); bytes = rw (le-leb (length text) (length s) l) (v.cleared w ∙ ap (padded (length s) 0) g.1) };
    }

-- before the first piece nothing is written
pub holds_nothing : (s : List ℕ) → Holds [] s (Some 0)
holds_nothing s = (refl, refl)

-- pieces from nothing on, then the end
pub wrote : {text s s₁ s₂ : List ℕ} {r₁ r₂ : Option ℕ} → Appends text s (Some 0) s₁ r₁ → Finishes s₁ r₁ s₂ r₂ → length s₁ ≡ length s → Wrote text (length s) s₂ r₂
wrote {text} {s} {s₁} {s₂} {r₁} {r₂} a f e = subst (λ (n : ℕ). Wrote text n s₂ r₂) e (f.finished text (a.appended [] (holds_nothing s)))

-- seven pieces are the listing
pub listing_written : {s s₁ s₂ s₃ s₄ s₅ s₆ s₇ : List ℕ} {at r₁ r₂ r₃ r₄ r₅ r₆ r₇ : Option ℕ} (replaced : Bool) (log : List Words) (particles pieces : ℕ)
    → Appends (line tear_word (1 ∷ [])) s at s₁ r₁ → Appends (replaced_line replaced) s₁ r₁ s₂ r₂ → Appends (each (entry_line split_word 1 2) log) s₂ r₂ s₃ r₃
    → Appends (each (entry_line edge_word 2 2) log) s₃ r₃ s₄ r₄ → Appends (each (entry_line insert_word 3 4) log) s₄ r₄ s₅ r₅ → Appends (line particles_word (particles ∷ [])) s₅ r₅ s₆ r₆
    → Appends (line pieces_word (pieces ∷ [])) s₆ r₆ s₇ r₇ → Appends (listing_bytes replaced log particles pieces) s at s₇ r₇
unfolding listing_bytes
listing_written replaced log particles pieces tear second splits edges inserts counted last =
    appends_then
    (appends_then
    (appends_then (appends_then (appends_then (appends_then tear second) (appends_as splits (split_lines log))) (appends_as edges (edge_lines log))) (appends_as inserts (insert_lines log)))
    counted)
    last
