-- What each function of a reader does is what its contract says. Assumes nothing.
use Prim.Native.Nat.{ℕ, zero, suc, ◌+◌, ◌-◌, ◌≤◌, min}
use native.Mathlib.Omega.{arith}
use mathlib.Core.Path.{◌≡◌, sym, ap, ◌∙◌}
use mathlib.Core.Bool.{Bool, true, false, cond}
use mathlib.Core.List.{List, [], ◌∷◌, ◌++◌, append_assoc}
use lib.Dec.{eqb}
use lib.ListN.{length, take, drop, length-drop, length-take}
use lib.Seq.{drop_at, drop-drop, take-add, length-take-le}
use borrow.Rule.Slice.PartMut.{put_mid, post_of, Post-is}
use borrow.Author.Tests.{eq-eqb, ne_eqb}
use Rattle.image.specs.Words.{word_at_of, bytes_of, put_word_of}
use Rattle.feeding.specs.Feeding.{most, size, held_in, kept_in, standing, open_answer, opened, OpenDone, fitting, grown_by, FeedDone, shut, ShutDone}
use Rattle.feeding.proofs.Bytes.{fed_open, fed_not, fitting_long, fitting_fits, open_stands, shut_open, shut_not, shut_kept, shut_long}

-- ---- open

pub open_none : (b : List ℕ) → (length b ≡ size → ⊥) → OpenDone b 4 b
unfolding open_answer opened
open_none b h = let e = ne_eqb (length b) size h in record { answer = rw e; reader = rw e }

pub open_done : (b b₁ b₂ : List ℕ) → length b ≡ size → b₁ ≡ put_word_of b 0 0 → b₂ ≡ put_word_of b₁ 1 0 → OpenDone b 0 b₂
unfolding open_answer opened
open_done b b₁ b₂ h e f =
    let z = eq-eqb (length b) size h in
    record { answer = rw z; reader = f ∙ (ap (λ (x : List ℕ). put_word_of x 1 0) e ∙ sym (rw z)) }

-- ---- feed

-- four bytes put in front of a reader into whose places a run was copied
pub grow_done : (b m : List ℕ) → length b ≡ size → held_in b + length m ≤ most
    → put_word_of (take (8 + held_in b) b ++ (m ++ drop (8 + held_in b + length m) b)) 0 (held_in b + length m) ≡ grown_by b m
unfolding grown_by
grow_done b m h f =
    let k = held_in b in
    let R = m ++ drop (8 + k + length m) b in
    let e : 8 + k ≡ 4 + (4 + k) = omega arith in
    let t : take (8 + k) b ≡ take 4 b ++ (take 4 (drop 4 b) ++ kept_in b) =
    ap (λ (n : ℕ). take n b) e ∙ (take-add 4 (4 + k) b ∙ ap (λ (l : List ℕ). take 4 b ++ l) (take-add 4 k (drop 4 b) ∙ ap (λ (l : List ℕ). take 4 (drop 4 b) ++ take k l) (drop-drop 4 4 b))) in
    let l : length (take 4 b) ≡ 4 = length-take-le 4 b (omega arith) in
    let d : drop 4 (take (8 + k) b ++ R) ≡ take 4 (drop 4 b) ++ (kept_in b ++ R) =
    ap (λ (x : List ℕ). drop 4 (x ++ R)) t
    ∙ (ap (drop 4) (append_assoc (take 4 b) (take 4 (drop 4 b) ++ kept_in b) R) ∙ (drop_at (take 4 b) (take 4 (drop 4 b) ++ kept_in b ++ R) 4 l ∙ append_assoc (take 4 (drop 4 b)) (kept_in b) R)) in
    ap (λ (x : List ℕ). bytes_of (k + length m) ++ x) d

-- the part of the run that fits is as long as the places for it
pub run_long : (b part : List ℕ) (k n : ℕ) → k ≤ most → n ≡ min (most - k) (length part) → length b ≡ size → length (take n part) ≡ length (take (8 + k + n - (8 + k)) (drop (8 + k) b))
run_long b part k n f e h = simp (length-take, length-drop) (omega arith)

-- no more than there is
take_min : (n : ℕ) (l : List ℕ) → take (min n (length l)) l ≡ take n l
take_min zero l = let e : min zero (length l) ≡ zero = omega arith in rw e
take_min (suc n) [] = let e : min (suc n) 0 ≡ zero = omega arith in rw e
take_min (suc n) (x ∷ l) = let e : min (suc n) (suc (length l)) ≡ suc (min n (length l)) = omega arith in rw e (ap (λ (t : List ℕ). x ∷ t) (take_min n l))

-- the same of what the calls give
pub grow_from : (b part x b₂ : List ℕ) (k n : ℕ) → length b ≡ size → k ≡ held_in b → n ≡ min (most - k) (length part) → x ≡ take n part
    → b₂ ≡ put_word_of (put_mid (8 + k) (8 + k + n - (8 + k)) b x) 0 (k + n) → b₂ ≡ grown_by b (fitting b part)
grow_from b part x b₂ k n h e f g q =
    let m = fitting b part in
    let w : most - k ≡ most - held_in b = ap (λ (y : ℕ). most - y) e in
    let d : post_of (8 + k) (8 + k + n - (8 + k)) b ≡ drop (8 + k + n) b = Post-is (8 + k) (8 + k + n) b (omega arith) in
    let l : n ≡ length m = omega (arith, fitting_long b part) in
    let t : x ≡ m = g ∙ (ap (λ (y : ℕ). take y part) f ∙ (take_min (most - k) part ∙ ap (λ (y : ℕ). take y part) w)) in
    let z : put_word_of (take (8 + k) b ++ (x ++ drop (8 + k + n) b)) 0 (k + n) ≡ put_word_of (take (8 + held_in b) b ++ (m ++ drop (8 + held_in b + length m) b)) 0 (held_in b + length m) =
    λ i. put_word_of (take (8 + e i) b ++ (t i ++ drop (8 + e i + l i) b)) 0 (e i + l i) in
    q ∙ (ap (λ (y : List ℕ). put_word_of (take (8 + k) b ++ (x ++ y)) 0 (k + n)) d ∙ (z ∙ grow_done b m h (fitting_fits b part)))

pub feed_open : (b part b₁ : List ℕ) (r : ℕ) → r ≡ standing b → standing b ≡ 0 → b₁ ≡ grown_by b (fitting b part) → FeedDone b part r b₁
feed_open b part b₁ r a h e = record { answer = a; reader = e ∙ sym (fed_open b part h) }

pub feed_not : (b part : List ℕ) (r : ℕ) → r ≡ standing b → (standing b ≡ 0 → ⊥) → FeedDone b part r b
feed_not b part r a h = record { answer = a; reader = sym (fed_not b part h) }

-- ---- close

pub shut_done : (b b₁ : List ℕ) (r : ℕ) → r ≡ standing b → standing b ≡ 0 → b₁ ≡ put_word_of b 1 1 → ShutDone b r b₁
shut_done b b₁ r a h e = record { answer = a; reader = e ∙ sym (shut_open b h) }

pub shut_late : (b : List ℕ) (r : ℕ) → r ≡ standing b → (standing b ≡ 0 → ⊥) → ShutDone b r b
shut_late b r a h = record { answer = a; reader = sym (shut_not b h) }

-- the part of a closed reader that is read: the bytes kept
pub part_kept : (b b₁ : List ℕ) (n : ℕ) → standing b ≡ 0 → b₁ ≡ shut b → n ≡ held_in b₁ → take (8 + n - 8) (drop 8 b₁) ≡ kept_in b
part_kept b b₁ n h f k =
    let w : 8 + n - 8 ≡ held_in b₁ = omega arith in
    ap (λ (x : ℕ). take x (drop 8 b₁)) w ∙ (ap kept_in (f ∙ shut_open b h) ∙ shut_kept b (open_stands b h).0)

-- a closed reader is as long
pub shut_size : (b b₁ : List ℕ) → standing b ≡ 0 → b₁ ≡ shut b → length b₁ ≡ size
shut_size b b₁ h f = ap length (f ∙ shut_open b h) ∙ shut_long b (open_stands b h).0

-- a refusal's number is small
pub standing_small : (b : List ℕ) → standing b ≤ 10
unfolding standing
standing_small b = by (eqb (length b) size) (eqb (word_at_of b 1) 0)
  where
    by : (x y : Bool) → cond x (cond y 0 10) 4 ≤ 10
    by true true = omega arith
    by true false = omega arith
    by false y = omega arith
