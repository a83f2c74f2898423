-- Loops that write one column from the front, a place a turn, over any type of element: a copy, and a fill to the end.
use Prim.Native.Nat.{ℕ, ◌+◌, ◌-◌, ◌≤◌, ◌<◌, zero-le}
use native.Mathlib.Numerals.{add-one}
use native.Mathlib.Omega.{arith}
use mathlib.Core.Path.{◌≡◌, refl, sym, ap, ◌∙◌}
use mathlib.Core.List.{List, [], ◌∷◌, ◌++◌, append-nil, append_assoc}
use lib.ListN.{length, get_or, take, set, replicate, length-set, replicate-append-replicate}
use lib.Seq.{take-suc, take-suc-set, take-length, length-take-le}
use Rattle.lists.specs.Lists.{padded}

module _ {A : Type 0} where
  -- the front of s after a store at its end
  pub front_grows : (s t : List A) (i : ℕ) (v : A) → take i s ≡ t → i < length s → take (i + 1) (set s i v) ≡ t ++ (v ∷ [])
  front_grows s t i v e h = rw (add-one i, take-suc-set s i v h, e)

  -- at the head of the loop: the first i places are copied
  pub record Copying (src s₀ s : List A) (i : ℕ) : Type 0 where
    pub front : take i s ≡ take i src
    pub long : length s ≡ length s₀
    pub below : i ≤ length src

  -- before the first turn nothing is copied
  pub copy_start : (src s : List A) → Copying src s s 0
  copy_start src s = record { front = refl; long = refl; below = zero-le }

  -- a turn copies one place more
  pub copy_more : (src s₀ s : List A) (i : ℕ) (d : A) → Copying src s₀ s i → i < length src → length src ≤ length s₀ → Copying src s₀ (set s i (get_or src i d)) (i + 1)
  copy_more src s₀ s i d v h g =
      record {
        front = front_grows s (take i src) i (get_or src i d) v.front (omega (arith, v.long)) ∙ sym (rw (add-one i) (take-suc src i d h));
        long = length-set s i (get_or src i d) ∙ v.long;
        below = omega arith;
      }

  -- after the last turn src stands at the front
  pub copy_done : (src s₀ s : List A) (i : ℕ) → Copying src s₀ s i → length src ≤ i → take (length src) s ≡ src
  copy_done src s₀ s i v h =
      let f : length src ≡ i = omega (arith, v.below) in
      ap (λ (k : ℕ). take k s) f ∙ v.front ∙ ap (λ (k : ℕ). take k src) (sym f) ∙ take-length src

  -- at the head of the loop: the places from n to i hold z
  pub record Clearing (n : ℕ) (z : A) (s₀ s : List A) (i : ℕ) : Type 0 where
    pub front : take i s ≡ take n s₀ ++ replicate (i - n) z
    pub long : length s ≡ length s₀
    pub above : n ≤ i
    pub below : i ≤ length s

  -- before the first turn nothing is cleared
  pub clear_start : (n : ℕ) (z : A) (s : List A) → n ≤ length s → Clearing n z s s n
  clear_start n z s h =
      let e : n - n ≡ 0 = omega arith in
      record { front = rw e (sym (append-nil (take n s))); long = refl; above = omega arith; below = h }

  -- a turn clears one place more
  pub clear_more : (n : ℕ) (z : A) (s₀ s : List A) (i : ℕ) → Clearing n z s₀ s i → i < length s → Clearing n z s₀ (set s i z) (i + 1)
  clear_more n z s₀ s i v h =
      let below : n ≤ i = v.above in
      let e : i + 1 - n ≡ i - n + 1 = omega arith in
      record {
        front =
            front_grows s (take n s₀ ++ replicate (i - n) z) i z v.front h
            ∙ append_assoc (take n s₀) (replicate (i - n) z) (z ∷ [])
            ∙ ap (λ (l : List A). take n s₀ ++ l) (replicate-append-replicate (i - n) 1 z ∙ ap (λ (k : ℕ). replicate k z) (sym e));
        long = length-set s i z ∙ v.long;
        above = omega arith;
        below = rw length-set (omega arith);
      }

  -- after the last turn z stands behind the first n places
  pub clear_done : (n : ℕ) (z : A) (s₀ s : List A) (i : ℕ) → Clearing n z s₀ s i → length s ≤ i → n ≤ length s₀ → s ≡ padded (length s₀) z (take n s₀)
  unfolding padded
  clear_done n z s₀ s i v h g =
      let e : i ≡ length s = omega (arith, v.below) in
      let f : i ≡ length s₀ = e ∙ v.long in
      sym (take-length s) ∙ ap (λ (k : ℕ). take k s) (sym e) ∙ v.front ∙ ap (λ (k : ℕ). take n s₀ ++ replicate k z) (ap (λ (k : ℕ). k - n) f ∙ ap (λ (k : ℕ). length s₀ - k) (sym (length-take-le n s₀ g)))
