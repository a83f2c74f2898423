-- Laws of words put into bytes: nothing put, words behind words, columns one behind the other. Assumes nothing.
use Prim.Native.Nat.{ℕ, zero, suc, ◌+◌, ◌-◌, ◌*◌, ◌/◌, ◌≤◌, ◌<◌, zero-le}
use native.Mathlib.Numerals.{add-one}
use native.Mathlib.Omega.{arith}
use native.Mathlib.Nat.{zero-mul, mul-div-le}
use mathlib.Core.Path.{◌≡◌, refl, sym, ap, ap₂, subst, ◌∙◌}
use mathlib.Core.List.{List, [], ◌∷◌, ◌++◌, append_assoc}
use lib.ListN.{length, get_or, take, drop, length-append, length-drop, take-append-drop, length-map}
use lib.Seq.{take_at, drop_at, drop-drop, take-suc, take-length, length-take-le}
use lib.Ieee.{Float, binary32, to_bits}
use borrow.Rule.Slice.PartMut.{mid_of}
use native.Mathlib.Decide.{dec_lt}
use Rattle.lists.specs.Lists.{each, padded}
use Rattle.lists.specs.LeftOut.{Rising, left_out}
use Rattle.lists.proofs.Risen.{rising_room, rising_few}
use Rattle.lists.proofs.Sifts.{each_append}
use Rattle.columns.specs.Block.{stack}
use Rattle.columns.proofs.Cells.{next_col, col_fits}
use Rattle.image.specs.Words.{bytes_of, written, put_word_of, put_words, bits_in_of}
use Rattle.image_writing.specs.Stores.{left_fronts, ColumnPlaced, Placed}
use Rattle.image_writing.proofs.Left.{rising_front, rising_all, left_more, left_rest, left_before, left_fronts_length}
use Rattle.image.proofs.Words.{bytes_length, bytes_more}

-- ---- bytes in the place of bytes

-- two runs of bytes, one put behind the other, are one
splice_then : (s y z : List ℕ) (a m n : ℕ) → length y ≡ m → a + m ≤ length s
    → take (a + m) (take a s ++ (y ++ drop (a + m) s)) ++ (z ++ drop (a + m + n) (take a s ++ (y ++ drop (a + m) s))) ≡ take a s ++ (y ++ z ++ drop (a + m + n) s)
splice_then s y z a m n e h =
    let r : List ℕ = drop (a + m) s in
    let p : take a s ++ (y ++ r) ≡ take a s ++ y ++ r = sym (append_assoc (take a s) y r) in
    let l : length (take a s ++ y) ≡ a + m = omega (arith, length-append (take a s) y, length-take-le a s (omega arith)) in
    let t : take (a + m) (take a s ++ (y ++ r)) ≡ take a s ++ y = ap (take (a + m)) p ∙ take_at (take a s ++ y) r (a + m) l in
    let d : drop (a + m + n) (take a s ++ (y ++ r)) ≡ drop (a + m + n) s =
    ap (drop (a + m + n)) p ∙ sym (drop-drop n (a + m) (take a s ++ y ++ r)) ∙ ap (drop n) (drop_at (take a s ++ y) r (a + m) l) ∙ drop-drop n (a + m) s in
    ap₂ (λ (x w : List ℕ). x ++ (z ++ w)) t d ∙ append_assoc (take a s) y (z ++ drop (a + m + n) s) ∙ ap (λ (w : List ℕ). take a s ++ w) (sym (append_assoc y z (drop (a + m + n) s)))

-- ---- words in the place of words

-- no words
pub put_none : (s : List ℕ) (at : ℕ) → put_words s at [] ≡ s
unfolding put_words each
put_none s at = let e : 4 * at + 4 * 0 ≡ 4 * at = omega arith in ap (λ (k : ℕ). take (4 * at) s ++ drop k s) e ∙ take-append-drop (4 * at) s

-- one word
pub put_one : (s : List ℕ) (i w : ℕ) → put_word_of s i w ≡ put_words s i (w ∷ [])
unfolding put_words each
put_one s i w = refl

-- words behind words
pub put_then : (s : List ℕ) (at b : ℕ) (ws vs : List ℕ) → b ≡ at + length ws → 4 * b ≤ length s → put_words (put_words s at ws) b vs ≡ put_words s at (ws ++ vs)
unfolding put_words
put_then s at b ws vs e h =
    let f : 4 * b ≡ 4 * at + 4 * length ws = omega arith in
    let g : 4 * at + 4 * length ws + 4 * length vs ≡ 4 * at + 4 * length (ws ++ vs) = omega (arith, length-append ws vs) in
    let x : List ℕ = take (4 * at) s ++ (each bytes_of ws ++ drop (4 * at + 4 * length ws) s) in
    ap (λ (k : ℕ). take k x ++ (each bytes_of vs ++ drop (k + 4 * length vs) x)) f
    ∙ splice_then s (each bytes_of ws) (each bytes_of vs) (4 * at) (4 * length ws) (4 * length vs) (bytes_length ws) (omega arith)
    ∙ ap₂ (λ (y : List ℕ) (k : ℕ). take (4 * at) s ++ (y ++ drop k s)) (sym (each_append bytes_of ws vs)) g

-- the same of what a function put
pub puts_then : (s s₁ s₂ : List ℕ) (at b : ℕ) (ws vs : List ℕ) → s₁ ≡ put_words s at ws → s₂ ≡ put_words s₁ b vs → b ≡ at + length ws → 4 * b ≤ length s → s₂ ≡ put_words s at (ws ++ vs)
puts_then s s₁ s₂ at b ws vs e f g h = f ∙ ap (λ (l : List ℕ). put_words l b vs) e ∙ put_then s at b ws vs g h

-- words behind those that stand in lent bytes
pub put_written : (lent : ℕ) (ws vs : List ℕ) (at : ℕ) → length ws ≡ at → 4 * (at + length vs) ≤ lent → put_words (written lent ws) at vs ≡ written lent (ws ++ vs)
unfolding put_words written
put_written lent ws vs at e h =
    bytes_more lent (4 * at) (4 * length vs) (each bytes_of ws) (each bytes_of vs) (bytes_length ws ∙ ap (λ (m : ℕ). 4 * m) e) (bytes_length vs) (omega arith)
    ∙ ap (λ (b : List ℕ). padded lent 0 b) (sym (each_append bytes_of ws vs))

-- words put to the front, and 0 put behind them
pub put_cleared : (s s' s'' ws : List ℕ) (n : ℕ) → s' ≡ put_words s 0 ws → length s' ≡ length s → s'' ≡ padded (length s') 0 (take n s') → n ≡ 4 * length ws → s'' ≡ written (length s) ws
unfolding put_words written
put_cleared s s' s'' ws n e l f h =
    let t : take n s' ≡ each bytes_of ws = ap (take n) e ∙ take_at (each bytes_of ws) (drop (4 * 0 + 4 * length ws) s) n (bytes_length ws ∙ sym h) in
    f ∙ ap₂ (λ (m : ℕ) (b : List ℕ). padded m 0 b) l t

-- ---- words put one by one, and columns

-- the bits of two lists, one behind the other
pub bits_append : (x y : List Float) → bits_in_of (x ++ y) ≡ bits_in_of x ++ bits_in_of y
bits_append [] y = refl
bits_append (a ∷ x) y = ap (λ (l : List ℕ). to_bits binary32 a ∷ l) (bits_append x y)

pub bits_length : (x : List Float) → length (bits_in_of x) ≡ length x
bits_length x = length-map x (to_bits binary32)

-- one column more
left_fronts_next : {A : Type 0} (c n R o : ℕ) (is : List ℕ) (s : List A) → o ≡ c * R → left_fronts c n R is s ++ left_out is (mid_of o (o + n - o) s) ≡ left_fronts (c + 1) n R is s
unfolding left_fronts stack
left_fronts_next {A} c n R o is s e =
    let k : o + n - o ≡ n = omega arith in
    rw (add-one c) (ap (λ (x : List A). stack c (λ j. left_out is (take n (drop (j * R) s))) ++ left_out is x) (ap₂ (λ (i j : ℕ). take i (drop j s)) k e))

-- four words, one behind the other
pub four_put : (s s₁ s₂ s₃ s₄ : List ℕ) (at a b c d : ℕ) → 4 * (at + 4) ≤ length s → s₁ ≡ put_word_of s at a → s₂ ≡ put_word_of s₁ (at + 1) b → s₃ ≡ put_word_of s₂ (at + 2) c → s₄ ≡ put_word_of s₃ (at + 3) d
    → s₄ ≡ put_words s at (a ∷ b ∷ c ∷ d ∷ [])
four_put s s₁ s₂ s₃ s₄ at a b c d h e₁ e₂ e₃ e₄ =
    let p₁ : s₁ ≡ put_words s at (a ∷ []) = e₁ ∙ put_one s at a in
    let p₂ : s₂ ≡ put_words s at (a ∷ b ∷ []) = puts_then s s₁ s₂ at (at + 1) (a ∷ []) (b ∷ []) p₁ (e₂ ∙ put_one s₁ (at + 1) b) refl (omega arith) in
    let p₃ : s₃ ≡ put_words s at (a ∷ b ∷ c ∷ []) = puts_then s s₂ s₃ at (at + 2) (a ∷ b ∷ []) (c ∷ []) p₂ (e₃ ∙ put_one s₂ (at + 2) c) refl (omega arith) in
    puts_then s s₃ s₄ at (at + 3) (a ∷ b ∷ c ∷ []) (d ∷ []) p₃ (e₄ ∙ put_one s₃ (at + 3) d) refl (omega arith)

-- at the head of the loop: the words of the first i elements are put
pub record Putting {A : Type 0} (f : List A → List ℕ) (at : ℕ) (col : List A) (s₀ s : List ℕ) (i : ℕ) : Type 0 where
  pub words : s ≡ put_words s₀ at (f (take i col))
  pub long : length s ≡ length s₀
  pub below : i ≤ length col

-- at the head of the loop: the words of the places before `from` are put, without the first j listed
pub record PuttingLeft {A : Type 0} (f : List A → List ℕ) (k : ℕ) (gone : List ℕ) (at : ℕ) (col : List A) (s₀ s : List ℕ) (from to j : ℕ) : Type 0 where
  pub below : j ≤ k
  pub within : from ≤ length col
  pub place : to + j ≡ at + from
  pub behind : (i : ℕ) → i < j → get_or gone i 0 < from
  pub ahead : (i : ℕ) → j ≤ i → i < k → from ≤ get_or gone i 0
  pub long : length s ≡ length s₀
  pub words : s ≡ put_words s₀ at (f (left_out (take j gone) (take from col)))

-- at the head of the loop: the words of the columns before c are put
pub record PuttingBlock {A : Type 0} (f : List A → List ℕ) (w n k : ℕ) (gone : List ℕ) (at : ℕ) (block : List A) (s₀ s : List ℕ) (c o to : ℕ) : Type 0 where
  pub from : o ≡ c * (length block / w)
  pub place : to ≡ at + c * (n - k)
  pub below : c ≤ w
  pub long : length s ≡ length s₀
  pub words : s ≡ put_words s₀ at (f (left_fronts c n (length block / w) (take k gone) block))

-- f makes a word of each element
module _ {A : Type 0} (f : List A → List ℕ) (g : A → ℕ) (nil : f [] ≡ []) (one : (a : A) → f (a ∷ []) ≡ g a ∷ []) (cat : (x y : List A) → f (x ++ y) ≡ f x ++ f y) (len : (x : List A) → length (f x) ≡ length x) where
  pub put_start : (at : ℕ) (col : List A) (s : List ℕ) → Putting f at col s s 0
  put_start at col s = record { words = sym (ap (put_words s at) nil ∙ put_none s at); long = refl; below = zero-le }

  pub put_more : (at : ℕ) (col : List A) (s₀ s s' : List ℕ) (i : ℕ) (d : A) (w : ℕ) → Putting f at col s₀ s i → i < length col → 4 * (at + length col) ≤ length s₀ → s' ≡ put_word_of s (at + i) w
      → w ≡ g (get_or col i d) → length s' ≡ length s → Putting f at col s₀ s' (i + 1)
  put_more at col s₀ s s' i d w v h k e q l =
      let t : length (take i col) ≡ i = length-take-le i col (omega arith) in
      let z : at + i ≡ at + length (f (take i col)) = omega (arith, len (take i col)) in
      let next : take (i + 1) col ≡ take i col ++ (get_or col i d ∷ []) = rw (add-one i) (take-suc col i d h) in
      let step : f (take i col) ++ (w ∷ []) ≡ f (take (i + 1) col) =
      ap (λ (x : ℕ). f (take i col) ++ (x ∷ [])) q ∙ ap (λ (x : List ℕ). f (take i col) ++ x) (sym (one (get_or col i d))) ∙ sym (cat (take i col) (get_or col i d ∷ [])) ∙ ap f (sym next) in
      record {
        words =
            puts_then s₀ s s' at (at + i) (f (take i col)) (w ∷ []) v.words (e ∙ put_one s (at + i) w) z (omega arith)
            ∙ ap (put_words s₀ at) step;
        long = l ∙ v.long;
        below = omega arith;
      }

  pub put_done : (at : ℕ) (col : List A) (s₀ s : List ℕ) (i : ℕ) → Putting f at col s₀ s i → length col ≤ i → s ≡ put_words s₀ at (f col)
  put_done at col s₀ s i v h =
      let e : i ≡ length col = omega (arith, v.below) in
      v.words ∙ ap (λ (x : List A). put_words s₀ at (f x)) (ap (λ (k : ℕ). take k col) e ∙ take-length col)

  -- ---- a column without the listed places

  module _ (k : ℕ) (gone : List ℕ) (at : ℕ) (col : List A) where
    pub left_start : (s : List ℕ) → PuttingLeft f k gone at col s s 0 at 0
    unfolding left_out
    left_start s =
        record {
          below = zero-le;
          within = zero-le;
          place = refl;
          behind = λ i h. absurd (omega arith);
          ahead = λ i h m. zero-le;
          long = refl;
          words = sym (ap (put_words s at) nil ∙ put_none s at);
        }

    module _ (s₀ s : List ℕ) (from to j : ℕ) (v : PuttingLeft f k gone at col s₀ s from to j) (p : ColumnPlaced (length col) k gone at (length s₀)) where
      listed : Rising (take j gone) (length (take j gone)) from
      listed = rising_front gone k (length col) j from p.rising v.below p.listed v.behind

      -- the words that are put stand before `to`
      before : to ≡ at + length (f (left_out (take j gone) (take from col)))
      before =
          let a = left_before gone col j from v.within listed in
          let b = length-take-le j gone (omega (arith, v.below, p.listed)) in
          omega (arith, a, b, len (left_out (take j gone) (take from col)), v.place)

      -- one run
      run_put : (x : List A) (s' : List ℕ) → s' ≡ put_words s to (f x) → 4 * to ≤ length s₀ → s' ≡ put_words s₀ at (f (left_out (take j gone) (take from col) ++ x))
      run_put x s' e h =
          let L : List A = left_out (take j gone) (take from col) in
          puts_then s₀ s s' at to (f L) (f x) v.words e before h ∙ ap (put_words s₀ at) (sym (cat L x))

      -- before the next listed place
      module _ (h : j < k) (end : ℕ) (q : end ≡ get_or gone j 0) where
        pub end_in : end < length col
        end_in = omega (arith, q, p.rising.below j h)

        pub end_from : from ≤ end
        end_from = omega (arith, q, v.ahead j (omega arith) h)

        pub run_room : 4 * (to + (end - from)) ≤ length s
        run_room =
            let a = rising_room p.rising j h in
            let b = p.room in
            let g = v.place in
            let d = rising_few p.rising in
            omega (arith, q, v.long, v.below, v.within, end_in, end_from)

        pub left_next : (s' : List ℕ) → s' ≡ put_words s to (f (mid_of from (end - from) col)) → length s' ≡ length s → PuttingLeft f k gone at col s₀ s' (end + 1) (to + (end - from)) (j + 1)
        left_next s' e l =
            let g = v.place in
            record {
              below = omega arith;
              within = omega (arith, end_in);
              place = omega (arith, end_from);
              behind =
                  λ i m.
                  elim (dec_lt i j) [
                    | yes y ↦ omega (arith, v.behind i y, end_from)
                    | no y ↦ let z : i ≡ j = omega (arith, y) in let w : get_or gone i 0 ≡ end = ap (λ (t : ℕ). get_or gone t 0) z ∙ sym q in omega (arith, w)
                  ];
              ahead = λ i m n. let a = p.rising.rises j i (omega arith) n in omega (arith, q, a);
              long = l ∙ v.long;
              words =
                  run_put (mid_of from (end - from) col) s' e (omega (arith, run_room, v.long))
                  ∙ ap (λ (x : List A). put_words s₀ at (f x)) (left_more gone col j from v.within listed end (omega (arith, p.listed)) q end_from end_in);
            }

      -- behind the last
      module _ (h : k ≤ j) where
        pub rest_room : 4 * (to + (length col - from)) ≤ length s
        rest_room = let b = p.room in let g = v.place in let d = rising_few p.rising in omega (arith, v.long, v.below, v.within)

        pub left_done : (s' : List ℕ) → s' ≡ put_words s to (f (mid_of from (length col - from) col)) → s' ≡ put_words s₀ at (f (left_out (take k gone) col))
        left_done s' e =
            let z : j ≡ k = omega (arith, v.below) in
            let r : mid_of from (length col - from) col ≡ drop from col = ap (λ (m : ℕ). take m (drop from col)) (sym (length-drop from col)) ∙ take-length (drop from col) in
            run_put (mid_of from (length col - from) col) s' e (omega (arith, rest_room, v.long))
            ∙ ap (λ (x : List A). put_words s₀ at (f x)) (ap (λ (x : List A). left_out (take j gone) (take from col) ++ x) r ∙ left_rest gone col j from v.within listed ∙ ap (λ (m : ℕ). left_out (take m gone) col) z)

  -- ---- the columns of a block

  module _ (w n k : ℕ) (gone : List ℕ) (at : ℕ) (block : List A) where
    -- the places of a column
    abbrev R : ℕ
    R = length block / w

    pub block_start : (s : List ℕ) → PuttingBlock f w n k gone at block s s 0 0 at
    unfolding left_fronts stack
    block_start s =
        let z : at + 0 * (n - k) ≡ at = ap (λ (x : ℕ). at + x) (zero-mul (n - k)) ∙ omega arith in
        record { from = sym (zero-mul R); place = sym z; below = zero-le; long = refl; words = sym (ap (put_words s at) nil ∙ put_none s at) }

    module _ (s₀ s : List ℕ) (c o to : ℕ) (v : PuttingBlock f w n k gone at block s₀ s c o to) (h : c < w) (p : Placed w n k gone at (length block) (length s₀)) where
      columns : w * R ≤ length block
      columns = mul-div-le (length block) w

      -- the turn's column stands in the block, and its words have room
      pub column_in : o + R ≤ length block
      column_in = omega (arith, v.from, col_fits c w R h, columns)

      pub front_in : o + n ≤ length block
      front_in = omega (arith, column_in, p.few)

      pub listed_few : k ≤ n
      listed_few = rising_few p.rising

      pub front_room : 4 * (to + (n - k)) ≤ length s
      front_room = omega (arith, v.place, v.long, col_fits c w (n - k) h, p.room)

      pub column_placed : (m : ℕ) → o + n - o ≡ m → ColumnPlaced m k gone to (length s)
      column_placed m e =
          let z : n ≡ m = omega (arith, e) in
          record { listed = p.listed; rising = subst (λ (x : ℕ). Rising gone k x) z p.rising; room = omega (arith, front_room, z) }

      pub block_more : (s' : List ℕ) → s' ≡ put_words s to (f (left_out (take k gone) (mid_of o (o + n - o) block))) → length s' ≡ length s → PuttingBlock f w n k gone at block s₀ s' (c + 1) (o + R) (to + (n - k))
      block_more s' e l =
          let is : List ℕ = take k gone in
          let L : List A = left_fronts c n R is block in
          let x : List A = left_out is (mid_of o (o + n - o) block) in
          let fl = left_fronts_length c n R is block p.few (omega (arith, col_fits c w R h, columns)) (rising_all gone k n p.rising p.listed) in
          let fk : c * (n - length is) ≡ c * (n - k) = ap (λ (m : ℕ). c * (n - m)) (length-take-le k gone p.listed) in
          let z : to ≡ at + length (f L) = omega (arith, v.place, len L, fl, fk) in
          record {
            from = ap (λ (x : ℕ). x + R) v.from ∙ sym (next_col c R);
            place = let q = next_col c (n - k) in omega (arith, v.place);
            below = omega arith;
            long = l ∙ v.long;
            words =
                puts_then s₀ s s' at to (f L) (f x) v.words e z (omega (arith, front_room, v.long))
                ∙ ap (put_words s₀ at) (sym (cat L x) ∙ ap f (left_fronts_next c n R o is block v.from));
          }

    pub block_done : (s₀ s : List ℕ) (c o to : ℕ) → PuttingBlock f w n k gone at block s₀ s c o to → w ≤ c → s ≡ put_words s₀ at (f (left_fronts w n R (take k gone) block))
    block_done s₀ s c o to v h =
        let e : c ≡ w = omega (arith, v.below) in
        v.words ∙ ap (λ (m : ℕ). put_words s₀ at (f (left_fronts m n R (take k gone) block))) e
