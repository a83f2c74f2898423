-- Laws of an outline's block: a side more, and how what is added in turn comes together. Assumes nothing.
use Prim.Native.Nat.{ℕ, ◌+◌, ◌*◌, ◌/◌, ◌<◌, ◌≤◌}
use native.Mathlib.Omega.{arith}
use mathlib.Core.Path.{◌≡◌, refl, sym, ap, ap₂, subst, ◌∙◌}
use mathlib.Core.Bool.{Bool, true, false}
use mathlib.Core.List.{List, [], ◌∷◌, ◌++◌, map, append_assoc, append-nil, map-append}
use lib.ListN.{length, get_or, set, take, length-set, length-append}
use lib.Dec.{eqb}
use Rattle.lists.specs.Lists.{pick, tab, sift, each}
use Rattle.lists.proofs.Rows.{rows_push}
use Rattle.lists.proofs.Steps.{each_step, sift_step}
use Rattle.columns.specs.Block.{cell}
use Rattle.columns.proofs.Cells.{store_same, store_row, store_col}
use Rattle.outline.specs.Outline.{at, faces_of, single, outline_of_triangles, outline_of_straps}
use Rattle.outline_tables.specs.Rows.{row3, rows3, side_at, sides_at, Added, Listed}

-- a block's columns, as the program writes their places
pub first_place : (R n : ℕ) → 0 * R + n ≡ n
first_place R n = omega arith

pub second_place : (R n : ℕ) → 1 * R + n ≡ R + n
second_place R n = omega arith

-- a side stored in row n of columns of R places
module _ (R n x y : ℕ) (o : List ℕ) (h : n < R) (room : 2 * R ≤ length o) where
  abbrev put : List ℕ
  put = set (set o (0 * R + n) x) (1 * R + n) y

  put_old : (c k : ℕ) → k < n → cell 0 R put c k ≡ cell 0 R o c k
  put_old c k l = store_row 0 R (set o (0 * R + n) x) 1 n y c k (omega arith) h (λ q. omega arith) ∙ store_row 0 R o 0 n x c k (omega arith) h (λ q. omega arith)

  put_first : cell 0 R put 0 n ≡ x
  put_first = store_col 0 R (set o (0 * R + n) x) 1 n y 0 n h h (λ q. omega arith) ∙ store_same 0 R o 0 n x (omega arith)

  put_second : cell 0 R put 1 n ≡ y
  put_second = store_same 0 R (set o (0 * R + n) x) 1 n y (rw (length-set o (0 * R + n) x) (omega arith))

  pub put_pushed : tab (n + 1) (side_at R put) ≡ tab n (side_at R o) ++ ((x ∷ y ∷ []) ∷ [])
  put_pushed =
      rows_push n (side_at R o) (side_at R put) (x ∷ y ∷ [])
      (λ k l. ap₂ (λ (u v : ℕ). u ∷ v ∷ []) (put_old 0 k l) (put_old 1 k l))
      (ap₂ (λ (u v : ℕ). u ∷ v ∷ []) put_first put_second)

-- a side added: with room, without room, and none
pub added_here : (n x y : ℕ) (o : List ℕ) → n < length o / 2 → Added ((x ∷ y ∷ []) ∷ []) o (set (set o n x) (length o / 2 + n) y) n (n + 1)
unfolding sides_at
added_here n x y o h =
    let R = length o / 2 in
    let e = put_pushed R n x y o h (omega arith) in
    let f = rw (first_place R n, second_place R n) at e in
    record { count = refl; sides = λ l. rw (length-set (set o n x) (R + n) y, length-set o n x) f }

pub added_past : (n : ℕ) (s : List ℕ) (o : List ℕ) → length o / 2 ≤ n → Added (s ∷ []) o o n (n + 1)
added_past n s o h = record { count = refl; sides = λ l. absurd (omega arith) }

pub added_none : (n : ℕ) (o : List ℕ) → Added [] o o n n
added_none n o = record { count = omega arith; sides = λ l. sym (append-nil (sides_at n o)) }

-- what is added, and more behind it
pub added_then : (l m : List (List ℕ)) (o p q : List ℕ) (n i r : ℕ) → length p ≡ length o → Added l o p n i → Added m p q i r → Added (l ++ m) o q n r
added_then l m o p q n i r e f g =
    let s = length-append l m in
    record {
      count = omega (arith, f.count, g.count);
      sides = λ h.
          g.sides (rw e h) ∙ ap (λ (t : List (List ℕ)). t ++ m) (f.sides (omega (arith, g.count))) ∙ append_assoc (sides_at n o) l m;
    }

-- what is added to none is listed
pub listed : (l : List (List ℕ)) (o p : List ℕ) (r : ℕ) → length p ≡ length o → Added l o p 0 r → Listed l p r
unfolding sides_at tab
listed l o p r e f = record { count = f.count ∙ omega arith; sides = λ h. f.sides (rw e at h) }

-- ---- the faces of a triangle

-- three sides, each if asked for
pub faces_sifted : (p : List ℕ → Bool) (f g h : List ℕ) → sift p (f ∷ g ∷ h ∷ []) ≡ (pick (p f) (f ∷ []) [] ++ pick (p g) (g ∷ []) []) ++ pick (p h) (h ∷ []) []
unfolding sift
faces_sifted p f g h = by (p f) (p g) (p h)
  where
    by : (r s t : Bool) → pick r (f ∷ pick s (g ∷ pick t (h ∷ []) []) (pick t (h ∷ []) [])) (pick s (g ∷ pick t (h ∷ []) []) (pick t (h ∷ []) []))
        ≡ (pick r (f ∷ []) [] ++ pick s (g ∷ []) []) ++ pick t (h ∷ []) []
    by true true t = refl
    by true false t = refl
    by false true t = refl
    by false false t = refl

-- ---- turns of the loops

-- the last of three corners tells, where the others do not
pub corner_last : (a b c x : ℕ) → eqb a x ≡ false → eqb b x ≡ false → eqb c x ≡ pick (eqb a x) true (pick (eqb b x) true (pick (eqb c x) true false))
corner_last a b c x d e = rw (d, e) (by (eqb c x))
  where
    by : (t : Bool) → t ≡ pick t true false
    by true = refl
    by false = refl

module _ (p : List ℕ → Bool) (f : ℕ → List ℕ) (i : ℕ) where
  -- one more that passes, and one that does not
  pub count_more : (n : ℕ) → n ≡ length (sift p (tab i f)) → p (f i) ≡ true → n + 1 ≡ length (sift p (tab (i + 1) f))
  count_more n e t = rw (sift_step p f i, t, length-append (sift p (tab i f)) (f i ∷ [])) (ap (λ (m : ℕ). m + 1) e)

  pub count_same : (n : ℕ) → n ≡ length (sift p (tab i f)) → p (f i) ≡ false → n ≡ length (sift p (tab (i + 1) f))
  count_same n e t = rw (sift_step p f i, t, append-nil (sift p (tab i f))) e

-- the side that is asked for, with room and without
module _ {asked : Bool} (n x y : ℕ) (o p : List ℕ) (t : asked ≡ true) where
  pub put_here : n < length o / 2 → p ≡ set (set o n x) (length o / 2 + n) y → Added (pick asked ((x ∷ y ∷ []) ∷ []) []) o p n (n + 1)
  put_here h e = rw (t, e) (added_here n x y o h)

  pub put_past : length o / 2 ≤ n → p ≡ o → Added (pick asked ((x ∷ y ∷ []) ∷ []) []) o p n (n + 1)
  put_past h e = rw (t, e) (added_past n (x ∷ y ∷ []) o h)

-- two stores leave a block as long as it was
pub stores_long : (i j x y : ℕ) (o p : List ℕ) → p ≡ set (set o i x) j y → length p ≡ length o
stores_long i j x y o p e = ap length e ∙ length-set (set o i x) j y ∙ length-set o i x

-- ---- the structural edges, one by one

strap_taken : (e : List ℕ) (t : Bool) → map (take 2) (pick t (e ∷ []) []) ≡ pick t (take 2 e ∷ []) []
strap_taken e true = refl
strap_taken e false = refl

pub strap_step : (a b c : List ℕ) (i : ℕ)
    → outline_of_straps (tab (i + 1) (row3 a b c)) ≡ outline_of_straps (tab i (row3 a b c)) ++ pick (eqb (get_or c i 0) 1) ((get_or a i 0 ∷ get_or b i 0 ∷ []) ∷ []) []
unfolding outline_of_straps
strap_step a b c i =
    let p : List ℕ → Bool = λ e. eqb (at e 2) 1 in
    ap (map (take 2)) (sift_step p (row3 a b c) i) ∙ map-append (take 2) (sift p (tab i (row3 a b c))) (pick (eqb (get_or c i 0) 1) (row3 a b c i ∷ []) [])
    ∙ ap (λ (l : List (List ℕ)). map (take 2) (sift p (tab i (row3 a b c))) ++ l) (strap_taken (row3 a b c i) (eqb (get_or c i 0) 1))

pub strap_turn : (a b c : List ℕ) (i : ℕ) (o p q : List ℕ) (n r : ℕ) (t : Bool) → t ≡ eqb (get_or c i 0) 1 → length p ≡ length o → Added (outline_of_straps (tab i (row3 a b c))) o p 0 n
    → Added (pick t ((get_or a i 0 ∷ get_or b i 0 ∷ []) ∷ []) []) p q n r → Added (outline_of_straps (tab (i + 1) (row3 a b c))) o q 0 r
strap_turn a b c i o p q n r t d e f g =
    let m = pick t ((get_or a i 0 ∷ get_or b i 0 ∷ []) ∷ []) [] in
    let s = outline_of_straps (tab i (row3 a b c)) in
    let u : s ++ m ≡ outline_of_straps (tab (i + 1) (row3 a b c)) = rw d (sym (strap_step a b c i)) in
    subst (λ (l : List (List ℕ)). Added l o q 0 r) u (added_then s m o p q 0 n r e f g)

pub strap_none : (a b c o : List ℕ) → Added (outline_of_straps (tab 0 (row3 a b c))) o o 0 0
unfolding outline_of_straps sift tab
strap_none a b c o = added_none 0 o

pub strap_end : (a b c o p : List ℕ) (i n : ℕ) → i ≡ length a → length p ≡ length o → Added (outline_of_straps (tab i (row3 a b c))) o p 0 n → Listed (outline_of_straps (rows3 a b c)) p n
unfolding rows3
strap_end a b c o p i n d e f = listed (outline_of_straps (tab (length a) (row3 a b c))) o p n e (subst (λ (m : ℕ). Added (outline_of_straps (tab m (row3 a b c))) o p 0 n) d f)

-- at most one side comes with each
pub one_most : (t : Bool) (s : List ℕ) → length (pick t (s ∷ []) []) ≤ 1
one_most true s = omega arith
one_most false s = omega arith

-- ---- the faces, triangle by triangle

-- those of the first i triangles that one triangle holds
unfoldable pub faces_to : List ℕ → List ℕ → List ℕ → ℕ → List (List ℕ)
faces_to a b c i = each (λ t. sift (single (rows3 a b c)) (faces_of t)) (tab i (row3 a b c))

pub faces_turn : (a b c : List ℕ) (i : ℕ) (o p q : List ℕ) (n r : ℕ) → length p ≡ length o → Added (faces_to a b c i) o p 0 n
    → Added (sift (single (rows3 a b c)) (faces_of (row3 a b c i))) p q n r → Added (faces_to a b c (i + 1)) o q 0 r
unfolding faces_to
faces_turn a b c i o p q n r e f g =
    let m = sift (single (rows3 a b c)) (faces_of (row3 a b c i)) in
    let s = each (λ t. sift (single (rows3 a b c)) (faces_of t)) (tab i (row3 a b c)) in
    let u = sym (each_step (λ t. sift (single (rows3 a b c)) (faces_of t)) (row3 a b c) i) in
    subst (λ (l : List (List ℕ)). Added l o q 0 r) u (added_then s m o p q 0 n r e f g)

pub faces_none : (a b c o : List ℕ) → Added (faces_to a b c 0) o o 0 0
unfolding faces_to each tab
faces_none a b c o = added_none 0 o

pub faces_end : (a b c o p : List ℕ) (i n : ℕ) → i ≡ length a → length p ≡ length o → Added (faces_to a b c i) o p 0 n → Listed (outline_of_triangles (rows3 a b c)) p n
unfolding faces_to outline_of_triangles rows3
faces_end a b c o p i n d e f = listed (faces_to a b c (length a)) o p n e (subst (λ (m : ℕ). Added (faces_to a b c m) o p 0 n) d f)

-- three sides added in turn are the faces of a triangle
pub faces_added : (p : List ℕ → Bool) (x y z : ℕ) (o o' o'' o''' : List ℕ) (n i j r : ℕ) (s t u : Bool) → s ≡ p (x ∷ y ∷ []) → t ≡ p (y ∷ z ∷ []) → u ≡ p (z ∷ x ∷ [])
    → length o' ≡ length o → length o'' ≡ length o
    → Added (pick s ((x ∷ y ∷ []) ∷ []) []) o o' n i → Added (pick t ((y ∷ z ∷ []) ∷ []) []) o' o'' i j → Added (pick u ((z ∷ x ∷ []) ∷ []) []) o'' o''' j r
    → Added (sift p (faces_of (x ∷ y ∷ z ∷ []))) o o''' n r
faces_added p x y z o o' o'' o''' n i j r s t u ds dt du e e' f g h =
    let F = pick s ((x ∷ y ∷ []) ∷ []) [] in
    let G = pick t ((y ∷ z ∷ []) ∷ []) [] in
    let H = pick u ((z ∷ x ∷ []) ∷ []) [] in
    let v : (F ++ G) ++ H ≡ sift p (faces_of (x ∷ y ∷ z ∷ [])) = rw (ds, dt, du) (sym (faces_sifted p (x ∷ y ∷ []) (y ∷ z ∷ []) (z ∷ x ∷ []))) in
    subst (λ (l : List (List ℕ)). Added l o o''' n r) v (added_then (F ++ G) H o o'' o''' n j r e' (added_then F G o o' o'' n i j e f g) h)
