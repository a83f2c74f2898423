-- Laws of stores: a row put into the columns of a block, an edge stored, a particle appended. Assumes nothing.
use Prim.Native.Nat.{ℕ, zero, suc, ◌+◌, ◌*◌, ◌/◌, ◌<◌, ◌≤◌}
use native.Mathlib.Omega.{arith}
use native.Mathlib.Nat.{le_of_suc-le-suc, not-suc-le-zero}
use mathlib.Core.Path.{◌≡◌, refl, sym, ap, ap₂, ◌∙◌, subst}
use mathlib.Core.List.{List, [], ◌∷◌, ◌++◌}
use lib.ListN.{length, get_or, set, length-set}
use lib.Dec.{eqb-zero-suc, eqb-suc-zero, eqb-suc-suc}
use lib.Ieee.{Float, nan}
use Rattle.lists.specs.Lists.{map_at_of, tab}
use Rattle.lists.proofs.Rows.{rows_store, rows_push, map_at_same, map_at_ext}
use Rattle.columns.specs.Block.{cell}
use Rattle.columns.proofs.Cells.{store_same, store_row, store_col}
use Rattle.model.specs.Split.{only_at}
use Rattle.mesh.specs.At.{particle_row, edge_row, particles_at, edges_at}
use Rattle.mesh.specs.Workers.{edge_of}
use Rattle.mesh.specs.declared.EdgeRow.{EdgeRow}
use Rattle.mesh.proofs.Columns.{by_columns}
use Rattle.mesh.specs.Widths.{point_columns}
use Rattle.insert.specs.Inserts.{EdgeStored, particle_of}
use Rattle.insert.specs.declared.particles.ParticleRow.{ParticleRow}

-- ---- a row put into columns

-- row n has these, from column c on, and all else is xs it was
pub record RowPut {A : Type 0} (d : A) (R n c : ℕ) (xs s s' : List A) : Type 0 where
  pub long : length s' ≡ length s
  pub at : (j : ℕ) → j < length xs → cell d R s' (c + j) n ≡ get_or xs j d
  pub before : (b : ℕ) → b < c → cell d R s' b n ≡ cell d R s b n
  pub other : (b k : ℕ) → k < R → (k ≡ n → ⊥) → cell d R s' b k ≡ cell d R s b k

module _ {A : Type 0} (d : A) (R n : ℕ) (h : n < R) where
  put_none : (c : ℕ) (s : List A) → RowPut d R n c [] s s
  put_none c s = record { long = refl; at = λ j l. absurd (not-suc-le-zero l); before = λ b l. refl; other = λ b k l q. refl }

  -- one column first
  put_more : (c : ℕ) (a : A) (xs s s' : List A) → c * R + n < length s → RowPut d R n (suc c) xs (set s (c * R + n) a) s' → RowPut d R n c (a ∷ xs) s s'
  put_more c a xs s s' room P =
      record {
        long = P.long ∙ length-set s (c * R + n) a;
        at = at_all;
        before = λ b l. P.before b (omega arith) ∙ store_col d R s c n a b n h h (λ q. omega arith);
        other = λ b k l q. P.other b k l q ∙ store_row d R s c n a b k l h q;
      }
    where
      at_all : (j : ℕ) → j < suc (length xs) → cell d R s' (c + j) n ≡ get_or (a ∷ xs) j d
      at_all zero l =
          let e : c + 0 ≡ c = omega arith in
          ap (λ (b : ℕ). cell d R s' b n) e ∙ P.before c (omega arith) ∙ store_same d R s c n a room
      at_all (suc j) l =
          let e : c + suc j ≡ suc c + j = omega arith in
          ap (λ (b : ℕ). cell d R s' b n) e ∙ P.at j (le_of_suc-le-suc l)

  -- two, four and eight columns, as the program writes their places
  pub put_two : (s : List A) (a₀ a₁ : A) → 2 * R ≤ length s → RowPut d R n 0 (a₀ ∷ a₁ ∷ []) s (set (set s n a₀) (R + n) a₁)
  put_two s a₀ a₁ room =
      let e₀ : 0 * R + n ≡ n = omega arith in
      let e₁ : 1 * R + n ≡ R + n = omega arith in
      subst (λ (z : List A). RowPut d R n 0 (a₀ ∷ a₁ ∷ []) s z) (ap₂ (λ (x y : ℕ). set (set s x a₀) y a₁) e₀ e₁)
      (put_more 0 a₀ (a₁ ∷ []) s _ (omega arith) (put_more 1 a₁ [] _ _ (simp length-set (omega arith)) (put_none 2 _)))

  pub put_four : (s : List A) (a₀ a₁ a₂ a₃ : A) → 4 * R ≤ length s
      → RowPut d R n 0 (a₀ ∷ a₁ ∷ a₂ ∷ a₃ ∷ []) s (set (set (set (set s n a₀) (R + n) a₁) (2 * R + n) a₂) (3 * R + n) a₃)
  put_four s a₀ a₁ a₂ a₃ room =
      let e₀ : 0 * R + n ≡ n = omega arith in
      let e₁ : 1 * R + n ≡ R + n = omega arith in
      subst (λ (z : List A). RowPut d R n 0 (a₀ ∷ a₁ ∷ a₂ ∷ a₃ ∷ []) s z) (ap₂ (λ (x y : ℕ). set (set (set (set s x a₀) y a₁) (2 * R + n) a₂) (3 * R + n) a₃) e₀ e₁)
      (put_more 0 a₀ (a₁ ∷ a₂ ∷ a₃ ∷ []) s _ (omega arith)
      (put_more 1 a₁ (a₂ ∷ a₃ ∷ []) _ _ (simp length-set (omega arith))
      (put_more 2 a₂ (a₃ ∷ []) _ _ (simp length-set (omega arith)) (put_more 3 a₃ [] _ _ (simp length-set (omega arith)) (put_none 4 _)))))

  pub put_eight : (s : List A) (a₀ a₁ a₂ a₃ a₄ a₅ a₆ a₇ : A) → 8 * R ≤ length s
      → RowPut d R n 0 (a₀ ∷ a₁ ∷ a₂ ∷ a₃ ∷ a₄ ∷ a₅ ∷ a₆ ∷ a₇ ∷ []) s
      (set (set (set (set (set (set (set (set s n a₀) (R + n) a₁) (2 * R + n) a₂) (3 * R + n) a₃) (4 * R + n) a₄) (5 * R + n) a₅) (6 * R + n) a₆) (7 * R + n) a₇)
  put_eight s a₀ a₁ a₂ a₃ a₄ a₅ a₆ a₇ room =
      let e₀ : 0 * R + n ≡ n = omega arith in
      let e₁ : 1 * R + n ≡ R + n = omega arith in
      subst (λ (z : List A). RowPut d R n 0 (a₀ ∷ a₁ ∷ a₂ ∷ a₃ ∷ a₄ ∷ a₅ ∷ a₆ ∷ a₇ ∷ []) s z)
      (ap₂ (λ (x y : ℕ). set (set (set (set (set (set (set (set s x a₀) y a₁) (2 * R + n) a₂) (3 * R + n) a₃) (4 * R + n) a₄) (5 * R + n) a₅) (6 * R + n) a₆) (7 * R + n) a₇) e₀ e₁)
      (put_more 0 a₀ (a₁ ∷ a₂ ∷ a₃ ∷ a₄ ∷ a₅ ∷ a₆ ∷ a₇ ∷ []) s _ (omega arith)
      (put_more 1 a₁ (a₂ ∷ a₃ ∷ a₄ ∷ a₅ ∷ a₆ ∷ a₇ ∷ []) _ _ (simp length-set (omega arith))
      (put_more 2 a₂ (a₃ ∷ a₄ ∷ a₅ ∷ a₆ ∷ a₇ ∷ []) _ _ (simp length-set (omega arith))
      (put_more 3 a₃ (a₄ ∷ a₅ ∷ a₆ ∷ a₇ ∷ []) _ _ (simp length-set (omega arith))
      (put_more 4 a₄ (a₅ ∷ a₆ ∷ a₇ ∷ []) _ _ (simp length-set (omega arith))
      (put_more 5 a₅ (a₆ ∷ a₇ ∷ []) _ _ (simp length-set (omega arith))
      (put_more 6 a₆ (a₇ ∷ []) _ _ (simp length-set (omega arith)) (put_more 7 a₇ [] _ _ (simp length-set (omega arith)) (put_none 8 _)))))))))

-- ---- an edge

-- two puts store an edge
pub stored_edge :
    (i : ℕ) (r : EdgeRow) (A A' : List ℕ) (B B' : List Float) → RowPut 0 (length A / 4) i 0 (r.a ∷ r.b ∷ r.structural ∷ r.torn ∷ []) A A'
    → RowPut nan (length B / 4) i 0 (r.rest ∷ r.initial ∷ r.impulse ∷ r.stress ∷ []) B B' → EdgeStored i (edge_of r) A A' B B'
unfolding edges_at
stored_edge i r A A' B B' p q =
    record {
      edges =
          λ n la lb.
          ap₂ (λ (x y : ℕ). tab n (edge_row (x / 4) (y / 4) A' B')) p.long q.long
          ∙ rows_store n (edge_row (length A / 4) (length B / 4) A B) (edge_row (length A / 4) (length B / 4) A' B') i (edge_of r)
          (λ k l o z.
          record {
            a = p.other 0 k (omega arith) o z;
            b = p.other 1 k (omega arith) o z;
            structural = p.other 2 k (omega arith) o z;
            torn = p.other 3 k (omega arith) o z;
            rest = q.other 0 k (omega arith) o z;
            initial = q.other 1 k (omega arith) o z;
            impulse = q.other 2 k (omega arith) o z;
            stress = q.other 3 k (omega arith) o z;
          })
          (λ z.
          record {
            a = p.at 0 (omega arith) z;
            b = p.at 1 (omega arith) z;
            structural = p.at 2 (omega arith) z;
            torn = p.at 3 (omega arith) z;
            rest = q.at 0 (omega arith) z;
            initial = q.at 1 (omega arith) z;
            impulse = q.at 2 (omega arith) z;
            stress = q.at 3 (omega arith) z;
          });
    }

-- ---- a particle

-- its numbers, by column
abbrev pub numbers_of : ParticleRow → List Float
numbers_of r = r.at.x ∷ r.at.y ∷ r.rest.x ∷ r.rest.y ∷ r.mass ∷ r.inverse ∷ r.velocity.x ∷ r.velocity.y ∷ []

-- two puts append a particle
pub pushed_particle :
    (n : ℕ) (r : ParticleRow) (S S' : List Float) (T T' : List ℕ) → n + 1 ≤ length S / point_columns → n + 1 ≤ length T / 2
    → RowPut nan (length S / point_columns) n 0 (numbers_of r) S S' → RowPut 0 (length T / 2) n 0 (r.root ∷ r.damaged ∷ []) T T'
    → particles_at (n + 1) S' T' ≡ particles_at n S T ++ (particle_of r ∷ [])
unfolding particles_at
pushed_particle n r S S' T T' ls lt p q =
    ap₂ (λ (x y : ℕ). tab (n + 1) (particle_row (x / point_columns) (y / 2) S' T')) p.long q.long
    ∙ rows_push n (particle_row (length S / point_columns) (length T / 2) S T) (particle_row (length S / point_columns) (length T / 2) S' T') (particle_of r)
    (λ k l.
    by_columns _ _ _ _ _ _ (λ c h. p.other c k (omega arith) (λ e. omega arith)) (q.other 0 k (omega arith) (λ e. omega arith)) (q.other 1 k (omega arith) (λ e. omega arith)))
    (by_columns _ (λ c. get_or (numbers_of r) c nan) _ _ _ _ (λ c h. p.at c h) (q.at 0 (omega arith)) (q.at 1 (omega arith)))

-- ---- changes at one place

-- a store is a change at one place
pub set_only : {A : Type 0} (i : ℕ) (x : A) (l : List A) → i < length l → set l i x ≡ map_at_of (only_at i (λ a. x)) l
unfolding map_at_of
set_only i x [] h = absurd (not-suc-le-zero h)
set_only zero x (a ∷ l) h = ap₂ ◌∷◌ refl (sym (map_at_same _ l (λ k y. rw (eqb-suc-zero k))))
set_only {A} (suc i) x (a ∷ l) h =
    let down : map_at_of (λ k. only_at (suc i) (λ (b : A). x) (suc k)) l ≡ map_at_of (only_at i (λ (b : A). x)) l = map_at_ext _ _ l (λ k y. rw (eqb-suc-suc k i)) in
    ap₂ ◌∷◌ (rw (eqb-zero-suc i)) (set_only i x l (le_of_suc-le-suc h) ∙ sym down)
