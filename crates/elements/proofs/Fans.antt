-- The rows of the elements that hold a particle, copied to tables of their own. Assumes nothing.
use mathlib.Core.Path.{◌≡◌, refl, sym, ◌∙◌, ap}
use mathlib.Core.Bool.{Bool, true, false}
use mathlib.Core.List.{List, [], ◌∷◌, ◌++◌, append-nil}
use Prim.Native.Nat.{ℕ, ◌+◌, ◌*◌, ◌-◌, ◌<◌, ◌≤◌}
use native.Mathlib.Numerals.{add-one}
use native.Mathlib.Omega.{arith}
use lib.ListN.{length, get_or, take, drop, set, length-set, length-drop}
use lib.Seq.{take-suc, take_all, length-take-le}
use lib.Ieee.{Float, nan}
use borrow.Rule.Slice.PartMut.{mid_of, put_mid}
use Rattle.lists.specs.Lists.{pick, stands, sift}
use Rattle.lists.proofs.Sifts.{sift_append}
use Rattle.columns.proofs.Cells.{next_col, col_fits, part_long, part_length, part_front}
use Rattle.model.specs.Elements.{Element}
use Rattle.elements.specs.Table.{Cornered, Tabled, FanTabled, holding}
use Rattle.elements.proofs.Tables.{no_element, row_is, part_is, tabled_none, tabled_push}

-- what passes of one element more
pub sift_more : {A : Type 0} (p : A → Bool) (l : List A) (i : ℕ) (d : A) → i < length l → sift p (take (i + 1) l) ≡ sift p (take i l) ++ pick (p (get_or l i d)) (get_or l i d ∷ []) []
unfolding sift
sift_more p l i d h = rw (add-one i, take-suc l i d h) (sift_append p (take i l) (get_or l i d ∷ []))

-- the row that the program lends has the corners of element i
pub row_at : (k : ℕ) (es : List Element) (n : ℕ) (K : List ℕ) (i a : ℕ) → Cornered k es n K → i < n → a ≡ i * k → take (a + k - a) (drop a K) ≡ (get_or es i no_element).corners
row_at k es n K i a C h e = let q : a + k - a ≡ k = omega arith in rw (q, e) (row_is k es n K i C h)

-- at the head of the loop: i rows were read, from a on in the corners, and the r of them that hold v stand in the fan's tables, up to o in the corners
pub record Fanning (v k n : ℕ) (N K : List ℕ) (M : List Float) (i a r o : ℕ) (N₀ K₀ : List ℕ) (M₀ : List Float) (N' K' : List ℕ) (M' : List Float) : Type 0 where
  pub tabled : (es : List Element) → Tabled k es n N K M → Tabled k (holding v (take i es)) r N' K' M'
  pub from : a ≡ i * k
  pub at : o ≡ r * k
  pub below : r ≤ i
  pub inside : i ≤ n
  pub numbers_long : length N' ≡ length N₀
  pub verts_long : length K' ≡ length K₀
  pub measures_long : length M' ≡ length M₀

-- before the first turn
pub fanning_start : (v k n : ℕ) (N K : List ℕ) (M : List Float) (N' K' : List ℕ) (M' : List Float) → Fanning v k n N K M 0 0 0 0 N' K' M' N' K' M'
unfolding sift
fanning_start v k n N K M N' K' M' =
    record {
      tabled = λ es T. tabled_none k N' K' M';
      from = omega arith;
      at = omega arith;
      below = omega arith;
      inside = omega arith;
      numbers_long = refl;
      verts_long = refl;
      measures_long = refl;
    }

module _ (v k n : ℕ) (N K : List ℕ) (M : List Float) (i a r o : ℕ) (N₀ K₀ : List ℕ) (M₀ : List Float) (N' K' : List ℕ) (M' : List Float)
    (F : Fanning v k n N K M i a r o N₀ K₀ M₀ N' K' M') where
  -- after the last turn
  pub fanning_done : n ≤ i → FanTabled v k n N K M r N' K' M'
  fanning_done h =
      record {
        tabled = λ es T.
            let c : n ≡ length es = T.cornered.count in
            let e : take i es ≡ es = take_all i es (omega arith) in
            rw e at (F.tabled es T);
      }

  module _ (h : i < n) where
    -- the row that is read lies in the corners, and there is room for it behind the fan's
    pub fanning_reads : n * k ≤ length K → a + k ≤ length K
    fanning_reads room = let f : a ≡ i * k = F.from in omega (arith, col_fits i n k h)

    pub fanning_writes : n * k ≤ length K₀ → o + k ≤ length K'
    fanning_writes room =
        let f : o ≡ r * k = F.at in
        let b : r ≤ i = F.below in
        let l : length K' ≡ length K₀ = F.verts_long in
        omega (arith, col_fits r n k (omega arith))

    -- where the next rows begin
    from_next : a + k ≡ (i + 1) * k
    from_next = let f : a ≡ i * k = F.from in omega (arith, next_col i k)

    -- the next element passes as its row does
    passes : (t : Bool) → stands v (take (a + k - a) (drop a K)) ≡ t → (es : List Element) → Tabled k es n N K M
        → holding v (take (i + 1) es) ≡ holding v (take i es) ++ pick t (get_or es i no_element ∷ []) []
    passes t s es T =
        sift_more (λ (e : Element). stands v e.corners) es i no_element (let c : n ≡ length es = T.cornered.count in omega arith)
        ∙ ap (λ (b : Bool). holding v (take i es) ++ pick b (get_or es i no_element ∷ []) []) (ap (stands v) (sym (row_at k es n K i a T.cornered h F.from)) ∙ s)

    -- a turn at an element that does not hold v
    pub fanning_skip : stands v (take (a + k - a) (drop a K)) ≡ false → Fanning v k n N K M (i + 1) (a + k) r o N₀ K₀ M₀ N' K' M'
    fanning_skip s =
        let b : r ≤ i = F.below in
        record {
          tabled = λ es T. rw (passes false s es T, append-nil) (F.tabled es T);
          from = from_next;
          at = F.at;
          below = omega arith;
          inside = omega arith;
          numbers_long = F.numbers_long;
          verts_long = F.verts_long;
          measures_long = F.measures_long;
        }

    -- a turn at one that does: its row comes back from the copy as p
    module _ (p : List ℕ) (fits : o + k ≤ length K') (reads : a + k ≤ length K) (long : length p ≡ length (mid_of o (o + k - o) K'))
        (copied : take (length (take (a + k - a) (drop a K))) p ≡ take (a + k - a) (drop a K)) where
      -- the row has k corners, and p is the row
      row_long : length (take (a + k - a) (drop a K)) ≡ k
      row_long =
          let q : a + k - a ≡ k = omega arith in
          let d : length (drop a K) ≡ length K - a = length-drop a K in
          rw q (length-take-le k (drop a K) (omega arith))

      row_copied : p ≡ take (a + k - a) (drop a K)
      row_copied = sym (take_all (length (take (a + k - a) (drop a K))) p (omega (arith, row_long, part_long 0 K' p o k fits long))) ∙ copied

      pub fanning_take : stands v (take (a + k - a) (drop a K)) ≡ true → r < length N' → r < length M'
          → Fanning v k n N K M (i + 1) (a + k) (r + 1) (o + k) N₀ K₀ M₀ (set N' r (get_or N i 0)) (put_mid o (o + k - o) K' p) (set M' r (get_or M i nan))
      fanning_take s hn hm =
          let b : r ≤ i = F.below in
          let f : o ≡ r * k = F.at in
          record {
            tabled = λ es T.
                let e : Element = get_or es i no_element in
                let row : take (a + k - a) (drop a K) ≡ e.corners = row_at k es n K i a T.cornered h F.from in
                rw (passes true s es T, part_is (λ (x : Element). x.number) 0 es n N i T.numbers_are T.cornered.count h, part_is (λ (x : Element). x.measure) nan es n M i T.measures_are T.cornered.count h)
                (tabled_push k (holding v (take i es)) r N' K' (put_mid o (o + k - o) K' p) M' e (F.tabled es T) (ap length (sym row) ∙ row_long) hn hm
                (ap (λ (x : ℕ). take (x + k) (put_mid o (o + k - o) K' p)) (sym f) ∙ part_front 0 K' p o k fits long
                ∙ ap (λ (l : List ℕ). take o K' ++ l) (row_copied ∙ row) ∙ ap (λ (x : ℕ). take x K' ++ e.corners) f));
            from = from_next;
            at = omega (arith, next_col r k);
            below = omega arith;
            inside = omega arith;
            numbers_long = length-set N' r (get_or N i 0) ∙ F.numbers_long;
            verts_long = part_length 0 K' p o k fits long ∙ F.verts_long;
            measures_long = length-set M' r (get_or M i nan) ∙ F.measures_long;
          }
