-- Laws of the rows of a table: where a row ends, what two rows share, and that touching goes both ways. Assumes nothing.
use mathlib.Core.Path.{◌≡◌, refl, sym, ◌∙◌, ap, subst}
use mathlib.Core.Bool.{Bool, true, false}
use mathlib.Core.List.{List, [], ◌∷◌}
use Prim.Native.Nat.{ℕ, suc, ◌+◌, ◌-◌, ◌*◌, ◌<◌, ◌≤◌}
use native.Mathlib.Omega.{arith}
use native.Mathlib.Nat.{le_trans, suc-mul, mul-le-mul_right}
use native.Mathlib.Decide.{ℕ_discrete, dec_le}
use borrow.Author.Tests.{lt-ltb, le-ltb, lt-leb, eq-eqb, ne_eqb}
use native.Mathlib.Numerals.{add-one}
use lib.Dec.{leb, eqb}
use lib.ListN.{length, get_or, take, drop}
use lib.Seq.{drop-cons}
use Rattle.lists.specs.Lists.{pick, stands}
use Rattle.fan.specs.Fan.{shared_others_of}
use Rattle.reach.specs.Walk.{row, facet_shared, touching, holds_row, tally, seeds, Rows, Lent}
use Rattle.reach.proofs.Tallies.{tally_in}

-- a row ends within the table
pub row_end : {n k long : ℕ} → Rows n k long → (i : ℕ) → i < n → i * k + k ≤ long
row_end {n} {k} {long} R i l = le_trans (subst (λ (m : ℕ). m ≤ n * k) (suc-mul i k) (mul-le-mul_right k l)) R.whole

-- what is found in the places of a row, which are m many as the code has them
pub row_held : (k v : ℕ) (verts : List ℕ) (j m : ℕ) (r : Bool) → m ≡ k → r ≡ stands v (take m (drop (j * k) verts)) → r ≡ holds_row k v verts j
unfolding holds_row
row_held k v verts j m r e q = q ∙ rw e refl

pub rows_share : (k v : ℕ) (verts : List ℕ) (i j r m n : ℕ) → m ≡ k → n ≡ k → r ≡ shared_others_of v (take m (drop (i * k) verts)) (take n (drop (j * k) verts))
    → leb (k - 1) r ≡ facet_shared k v verts i j
unfolding facet_shared
rows_share k v verts i j r m n em en q = rw (q, em, en)

module _ (k v : ℕ) (verts : List ℕ) where
  pub touch_low : (i j : ℕ) → i < j → touching k v verts i j ≡ facet_shared k v verts i j
  unfolding touching
  touch_low i j l = rw (lt-ltb i j l)

  pub touch_high : (i j : ℕ) → j ≤ i → touching k v verts i j ≡ facet_shared k v verts j i
  unfolding touching
  touch_high i j l = rw (le-ltb i j l)

  -- touching goes both ways
  pub touch_either : (i j : ℕ) → touching k v verts i j ≡ touching k v verts j i
  touch_either i j =
      elim (ℕ_discrete i j) [
        | yes e ↦ rw e
        | no d ↦ by (dec_le i j) d
      ]
    where
      by : Dec (i ≤ j) → (i ≡ j → ⊥) → touching k v verts i j ≡ touching k v verts j i
      by (yes h) d = touch_low i j (omega arith) ∙ sym (touch_high j i h)
      by (no h) d = touch_high i j (omega arith) ∙ sym (touch_low j i (omega arith))

-- ---- triangles

-- one number of a list, and the rest
pub drop_one : (l : List ℕ) (m : ℕ) → m < length l → drop m l ≡ get_or l m 0 ∷ drop (m + 1) l
drop_one l m h = drop-cons l m 0 h ∙ ap (λ (z : ℕ). get_or l m 0 ∷ drop z l) (sym (add-one m))

-- the three from place m on
abbrev pub three : List ℕ → ℕ → List ℕ
three l m = get_or l m 0 ∷ get_or l (m + 1) 0 ∷ get_or l (m + 2) 0 ∷ []

three_on : (l : List ℕ) (m : ℕ) → m + 3 ≤ length l → take 3 (drop m l) ≡ three l m
three_on l m h =
    let e : m + 1 + 1 ≡ m + 2 = omega arith in
    let s : drop (m + 1 + 1) l ≡ get_or l (m + 2) 0 ∷ drop (m + 2 + 1) l = ap (λ (z : ℕ). drop z l) e ∙ drop_one l (m + 2) (omega arith) in
    ap (λ (t : List ℕ). take 3 t)
    (drop_one l m (omega arith)
    ∙ ap (λ (t : List ℕ). get_or l m 0 ∷ t) (drop_one l (m + 1) (omega arith) ∙ ap (λ (t : List ℕ). get_or l (m + 1) 0 ∷ t) s))

-- the corners of a triangle
pub row_three : (verts : List ℕ) (i : ℕ) → i * 3 + 3 ≤ length verts → row 3 verts i ≡ three verts (i * 3)
row_three verts i h = three_on verts (i * 3) h

-- a triangle's corners looked at one after another
module _ (verts : List ℕ) (j y : ℕ) (h : j * 3 + 3 ≤ length verts) where
  pub held_first : get_or verts (j * 3) 0 ≡ y → true ≡ stands y (row 3 verts j)
  held_first e = rw (row_three verts j h, eq-eqb _ _ e)

  pub held_second : (get_or verts (j * 3) 0 ≡ y → ⊥) → get_or verts (j * 3 + 1) 0 ≡ y → true ≡ stands y (row 3 verts j)
  held_second d e = rw (row_three verts j h, ne_eqb _ _ d, eq-eqb _ _ e)

  pub held_third : (get_or verts (j * 3) 0 ≡ y → ⊥) → (get_or verts (j * 3 + 1) 0 ≡ y → ⊥) → eqb (get_or verts (j * 3 + 2) 0) y ≡ stands y (row 3 verts j)
  held_third d e = rw (row_three verts j h, ne_eqb _ _ d, ne_eqb _ _ e) (by (eqb (get_or verts (j * 3 + 2) 0) y))
    where
      by : (b : Bool) → b ≡ pick b true false
      by true = refl
      by false = refl

-- each corner counts for itself
others_one : (v x : ℕ) (b : List ℕ) → shared_others_of v (x ∷ []) b ≤ 1
others_one v x b = by (eqb x v) (stands x b)
  where
    by : (s t : Bool) → pick s 0 (pick t 1 0) ≤ 1
    by true t = omega arith
    by false true = omega arith
    by false false = omega arith

others_more : (v x : ℕ) (a b : List ℕ) → shared_others_of v (x ∷ a) b ≡ shared_others_of v (x ∷ []) b + shared_others_of v a b
others_more v x a b = by (eqb x v) (stands x b)
  where
    by : (s t : Bool) → pick s (shared_others_of v a b) (pick t (suc (shared_others_of v a b)) (shared_others_of v a b)) ≡ pick s 0 (pick t 1 0) + shared_others_of v a b
    by true t = omega arith
    by false true = omega arith
    by false false = omega arith

pub corner_one : (v x : ℕ) (b : List ℕ) {r : ℕ} → r ≡ shared_others_of v (x ∷ []) b → r ≤ 1
corner_one v x b e = omega (arith, others_one v x b)

pub not_counted : (v x : ℕ) (b : List ℕ) → x ≡ v → 0 ≡ shared_others_of v (x ∷ []) b
not_counted v x b e = rw (eq-eqb x v e)

pub counted : (v x : ℕ) (b : List ℕ) → (x ≡ v → ⊥) → stands x b ≡ true → 1 ≡ shared_others_of v (x ∷ []) b
counted v x b d e = rw (ne_eqb x v d, e)

pub uncounted : (v x : ℕ) (b : List ℕ) → (x ≡ v → ⊥) → stands x b ≡ false → 0 ≡ shared_others_of v (x ∷ []) b
uncounted v x b d e = rw (ne_eqb x v d, e)

module _ (v : ℕ) (verts : List ℕ) (i j : ℕ) (h : i * 3 + 3 ≤ length verts) where
  -- what the corner at place c shares
  abbrev one : ℕ → ℕ
  one c = shared_others_of v (get_or verts c 0 ∷ []) (row 3 verts j)

  -- so a triangle shares what its three corners do
  three_others : shared_others_of v (row 3 verts i) (row 3 verts j) ≡ one (i * 3) + (one (i * 3 + 1) + one (i * 3 + 2))
  three_others =
      let x = get_or verts (i * 3) 0 in
      let y = get_or verts (i * 3 + 1) 0 in
      let z = get_or verts (i * 3 + 2) 0 in
      let b = row 3 verts j in
      let p = others_more v x (y ∷ z ∷ []) b in
      let q = others_more v y (z ∷ []) b in
      ap (λ (a : List ℕ). shared_others_of v a b) (row_three verts i h) ∙ (omega arith)

  pub three_shared : (a b c : ℕ) → a ≡ one (i * 3) → b ≡ one (i * 3 + 1) → c ≡ one (i * 3 + 2) → leb 2 (a + b + c) ≡ facet_shared 3 v verts i j
  unfolding facet_shared
  three_shared a b c p q r = let e = three_others in let s : a + b + c ≡ shared_others_of v (row 3 verts i) (row 3 verts j) = omega arith in ap (λ (m : ℕ). leb 2 m) s

  -- where the first two do not, there is no facet
  pub three_apart : (a b : ℕ) → a ≡ one (i * 3) → b ≡ one (i * 3 + 1) → a + b ≡ 0 → false ≡ facet_shared 3 v verts i j
  three_apart a b p q z =
      let o = others_one v (get_or verts (i * 3 + 2) 0) (row 3 verts j) in
      let l : a + b + one (i * 3 + 2) < 2 = omega arith in
      sym (lt-leb 2 (a + b + one (i * 3 + 2)) l) ∙ three_shared a b (one (i * 3 + 2)) p q refl

pub three_facet : (k v : ℕ) (verts : List ℕ) (i j : ℕ) (r : Bool) → k ≡ 3 → r ≡ facet_shared 3 v verts i j → r ≡ facet_shared k v verts i j
three_facet k v verts i j r e q = rw e q

pub three_holds : (k v : ℕ) (verts : List ℕ) (j : ℕ) (r : Bool) → k ≡ 3 → r ≡ stands v (row 3 verts j) → r ≡ holds_row k v verts j
unfolding holds_row
three_holds k v verts j r e q = rw e q

-- ---- the rows of a group

-- before the first row; one row further
pub tally_zero : (p : ℕ → Bool) → 0 ≡ tally p 0
unfolding tally
tally_zero p = refl

pub tally_yes : (p : ℕ → Bool) (j f : ℕ) → f ≡ tally p j → p j ≡ true → f + 1 ≡ tally p (j + 1)
unfolding tally
tally_yes p j f e y = rw (add-one j, y) (omega arith)

pub tally_no : (p : ℕ → Bool) (j f : ℕ) → f ≡ tally p j → p j ≡ false → f ≡ tally p (j + 1)
unfolding tally
tally_no p j f e y = rw (add-one j, y) e

module _ (k v : ℕ) (verts groups : List ℕ) (g j f : ℕ) where
  pub seed_in : f ≡ tally (holds_row k v verts) j → holds_row k v verts j ≡ true → seeds k v verts groups g j ≡ eqb (get_or groups f 0) g
  unfolding seeds
  seed_in e y = rw (y, e)

  pub seed_out : holds_row k v verts j ≡ false → seeds k v verts groups g j ≡ false
  unfolding seeds
  seed_out y = rw y

  -- the fan's place of a row that holds v has a group
  pub place_in : (n s q : ℕ) → Lent n k v verts groups s q → j < n → f ≡ tally (holds_row k v verts) j → holds_row k v verts j ≡ true → f < length groups
  place_in n s q L l e y = let h = tally_in (holds_row k v verts) n j l y in omega (arith, L.grouped)
