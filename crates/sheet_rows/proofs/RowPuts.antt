-- A row put into the columns of a block, for any number of columns; and what it does to the lists that the blocks are read as.
use Prim.Native.Nat.{ℕ, zero, suc, ◌+◌, ◌*◌, ◌/◌, ◌≤◌, ◌<◌}
use native.Mathlib.Omega.{arith}
use native.Mathlib.Nat.{not-suc-le-zero}
use mathlib.Core.Path.{◌≡◌, refl, ◌∙◌}
use mathlib.Core.List.{List, [], ◌∷◌, ◌++◌}
use lib.ListN.{length, get_or, set, length-set}
use lib.Ieee.{Float, nan}
use Rattle.columns.specs.Block.{cell}
use Rattle.columns.proofs.Rows.{rows_push}
use Rattle.columns.proofs.Cells.{col_fits, store_same, store_row, store_col}
use Rattle.float.specs.Numbers.{zero32, one}
use Rattle.mesh.specs.At.{particle_by, particles_at, triangles_at, boundary_at}
use Rattle.mesh.specs.Widths.{point_columns}
use Rattle.mesh.proofs.Columns.{by_columns}
use Rattle.blade.specs.declared.Point.{Point}
use Rattle.outline_tables.proofs.Adding.{first_place, second_place}
use Rattle.sheet.specs.Read.{the_float_of, the_inverse_of, area_of, particle_from, triangle_from}

-- values put at place n of columns c, c + 1, ..
unfoldable pub put_cols : {A : Type 0} → ℕ → ℕ → List A → ℕ → List A → List A
put_cols R n s c [] = s
put_cols R n s c (v ∷ vs) = put_cols R n (set s (c * R + n) v) (suc c) vs

module _ {A : Type 0} (d : A) (R n : ℕ) (h : n < R) where
  -- the length stays
  pub put_long : (s : List A) (c : ℕ) (vs : List A) → length (put_cols R n s c vs) ≡ length s
  unfolding put_cols
  put_long s c [] = refl
  put_long s c (v ∷ vs) = put_long (set s (c * R + n) v) (suc c) vs ∙ length-set s (c * R + n) v

  -- the rows before stay
  pub put_old : (s : List A) (c : ℕ) (vs : List A) (j k : ℕ) → k < n → cell d R (put_cols R n s c vs) j k ≡ cell d R s j k
  unfolding put_cols
  put_old s c [] j k g = refl
  put_old s c (v ∷ vs) j k g = put_old (set s (c * R + n) v) (suc c) vs j k g ∙ store_row d R s c n v j k (omega arith) h (λ q. omega arith)

  -- the columns before stay
  pub put_before : (s : List A) (c : ℕ) (vs : List A) (j : ℕ) → j < c → cell d R (put_cols R n s c vs) j n ≡ cell d R s j n
  unfolding put_cols
  put_before s c [] j g = refl
  put_before s c (v ∷ vs) j g = put_before (set s (c * R + n) v) (suc c) vs j (omega arith) ∙ store_col d R s c n v j n h h (λ q. omega arith)

  -- each column has its value
  pub put_new : (s : List A) (c : ℕ) (vs : List A) → (c + length vs) * R ≤ length s → (i : ℕ) → i < length vs → cell d R (put_cols R n s c vs) (c + i) n ≡ get_or vs i d
  unfolding put_cols
  put_new s c [] room i g = absurd (not-suc-le-zero g)
  put_new s c (v ∷ vs) room zero g =
      let e : c + zero ≡ c = omega arith in
      let f = col_fits c (c + suc (length vs)) R (omega arith) in
      rw e (put_before (set s (c * R + n) v) (suc c) vs c (omega arith) ∙ store_same d R s c n v (omega arith))
  put_new s c (v ∷ vs) room (suc i) g =
      let e : c + suc i ≡ suc c + i = omega arith in
      let f : suc c + length vs ≡ c + suc (length vs) = omega arith in
      rw e (put_new (set s (c * R + n) v) (suc c) vs (rw (f, length-set s (c * R + n) v) room) i (omega arith))

  -- each column from the first has its value
  pub put_at : (s : List A) (vs : List A) → length vs * R ≤ length s → (i : ℕ) → i < length vs → cell d R (put_cols R n s 0 vs) i n ≡ get_or vs i d
  put_at s vs room i g =
      let e : 0 + i ≡ i = omega arith in
      let f : 0 + length vs ≡ length vs = omega arith in
      rw e at (put_new s 0 vs (rw f room) i g)

-- the particles with one more behind them, of a value for each column of points
pub particle_pushed :
    (n : ℕ) (vs : List Float) (S : List Float) (T : List ℕ) → length vs ≡ point_columns → n + 1 ≤ length S / point_columns → n + 1 ≤ length T / 2
    → particles_at (n + 1) (put_cols (length S / point_columns) n S 0 vs) (put_cols (length T / 2) n T 0 (n ∷ 0 ∷ [])) ≡ particles_at n S T ++ (particle_by (λ c. get_or vs c nan) n 0 ∷ [])
unfolding particles_at
particle_pushed n vs S T e hs ht =
    let us : List ℕ = n ∷ 0 ∷ [] in
    let P = length S / point_columns in
    let R = length T / 2 in
    let p : n < P = omega arith in
    let r : n < R = omega arith in
    let room : length vs * P ≤ length S = rw e (omega arith) in
    let new' = put_at 0 R n r T us (omega arith) in
    let old' = put_old 0 R n r T 0 us in
    rw (put_long nan P n p S 0 vs, put_long 0 R n r T 0 us)
    (rows_push n _ _ _
    (λ k h. by_columns _ (λ c. cell nan P S c k) _ _ _ _ (λ c _. put_old nan P n p S 0 vs c k h) (old' 0 k h) (old' 1 k h))
    (by_columns _ (λ c. get_or vs c nan) _ _ _ _ (λ c h. put_at nan P n p S vs room c (rw e h)) (new' 0 (omega arith)) (new' 1 (omega arith))))

-- the triangles with one more behind them
pub triangle_pushed :
    (n a b c : ℕ) (v : Float) (S : List ℕ) (T : List Float) → n + 1 ≤ length S / 3 → n + 1 ≤ length T / 2
    → triangles_at (n + 1) (put_cols (length S / 3) n S 0 (a ∷ b ∷ c ∷ [])) (put_cols (length T / 2) n T 0 (v ∷ zero32 ∷ []))
    ≡ triangles_at n S T ++ (record { corners = a ∷ b ∷ c ∷ []; volume = v; stress = zero32 } ∷ [])
unfolding triangles_at
triangle_pushed n a b c v S T hs ht =
    let us : List ℕ = a ∷ b ∷ c ∷ [] in
    let vs = v ∷ zero32 ∷ [] in
    let P = length S / 3 in
    let R = length T / 2 in
    let p : n < P = omega arith in
    let r : n < R = omega arith in
    let new = put_at 0 P n p S us (omega arith) in
    let old = put_old 0 P n p S 0 us in
    let new' = put_at nan R n r T vs (omega arith) in
    let old' = put_old nan R n r T 0 vs in
    rw (put_long 0 P n p S 0 us, put_long nan R n r T 0 vs)
    (rows_push n _ _ _
    (λ k h i. record { corners = old 0 k h i ∷ old 1 k h i ∷ old 2 k h i ∷ []; volume = old' 0 k h i; stress = old' 1 k h i })
    (λ i. record { corners = new 0 (omega arith) i ∷ new 1 (omega arith) i ∷ new 2 (omega arith) i ∷ []; volume = new' 0 (omega arith) i; stress = new' 1 (omega arith) i }))

-- the boundary with one entry more behind it
pub side_pushed :
    (n a b : ℕ) (S : List ℕ) → n + 1 ≤ length S / 2
    → boundary_at (n + 1) (put_cols (length S / 2) n S 0 (a ∷ b ∷ [])) ≡ boundary_at n S ++ (record { corners = a ∷ b ∷ [] } ∷ [])
unfolding boundary_at
side_pushed n a b S hs =
    let us : List ℕ = a ∷ b ∷ [] in
    let P = length S / 2 in
    let p : n < P = omega arith in
    let new = put_at 0 P n p S us (omega arith) in
    let old = put_old 0 P n p S 0 us in
    rw (put_long 0 P n p S 0 us)
    (rows_push n _ _ _ (λ k h i. record { corners = old 0 k h i ∷ old 1 k h i ∷ [] }) (λ i. record { corners = new 0 (omega arith) i ∷ new 1 (omega arith) i ∷ [] }))

-- ---- as the program writes the places of the first two columns

pub particle_put :
    (n x y z : ℕ) (fx fy w : Float) (S : List Float) (T : List ℕ) → fx ≡ the_float_of x → fy ≡ the_float_of y → w ≡ the_inverse_of z → n + 1 ≤ length S / point_columns → n + 1 ≤ length T / 2
    → particles_at (n + 1)
    (set (set
    (set (set (set (set (set (set S n fx) (length S / point_columns + n) fy) (2 * (length S / point_columns) + n) fx) (3 * (length S / point_columns) + n) fy) (4 * (length S / point_columns) + n) one) (5 * (length S / point_columns) + n) w)
    (6 * (length S / point_columns) + n) zero32) (7 * (length S / point_columns) + n) zero32)
    (set (set T n n) (length T / 2 + n) 0)
    ≡ particles_at n S T ++ (particle_from n x y z ∷ [])
unfolding put_cols particle_from
particle_put n x y z fx fy w S T ex ey ew hs ht =
    rw (← ex, ← ey, ← ew)
    (simp (first_place (length S / point_columns) n, second_place (length S / point_columns) n, first_place (length T / 2) n, second_place (length T / 2) n) at (particle_pushed n (fx ∷ fy ∷ fx ∷ fy ∷ one ∷ w ∷ zero32 ∷ zero32 ∷ []) S T refl hs ht))

pub triangle_put :
    (place : ℕ → Point) (n a b c : ℕ) (v : Float) (S : List ℕ) (T : List Float) → v ≡ area_of (place a) (place b) (place c) → n + 1 ≤ length S / 3 → n + 1 ≤ length T / 2
    → triangles_at (n + 1) (set (set (set S n a) (length S / 3 + n) b) (2 * (length S / 3) + n) c) (set (set T n v) (length T / 2 + n) zero32)
    ≡ triangles_at n S T ++ (triangle_from place a b c ∷ [])
unfolding put_cols triangle_from
triangle_put place n a b c v S T e hs ht =
    rw (← e)
    (simp (first_place (length S / 3) n, second_place (length S / 3) n, first_place (length T / 2) n, second_place (length T / 2) n) at (triangle_pushed n a b c v S T hs ht))
