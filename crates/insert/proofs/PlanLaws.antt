-- Laws of plans: the tests of a crossing, and the insertion that is read off the blocks. Assumes nothing.
use Prim.Native.Nat.{ℕ, ◌+◌, ◌*◌, ◌/◌, ◌<◌}
use native.Mathlib.Omega.{arith}
use mathlib.Core.Path.{◌≡◌, refl, sym, ap, ap₂, ◌∙◌, subst}
use mathlib.Core.Bool.{Bool, true, false, not, ◌&&◌, ◌||◌, false≢true}
use mathlib.Core.List.{List}
use lib.ListN.{length, get_or}
use lib.Ieee.{Float, nan, lt, le, eq}
use Rattle.lists.specs.Lists.{pick}
use Rattle.lists.proofs.Sifts.{pick_by}
use Rattle.lists.proofs.Stores.{tab_at}
use Rattle.float.specs.Numbers.{plus, minus, zero32, one, half}
use Rattle.columns.specs.Block.{cell}
use Rattle.columns.proofs.Cells.{col_0, col_1}
use Rattle.model.specs.Mesh.{Particle, Edge, Mesh, blank, blank_edge}
use Rattle.model.specs.Elements.{particle, edge_at}
use Rattle.model.specs.Cut.{Insertion, insertion_of, insertable, wanted?, near_end, clamp_to_of, segment_mass, strap_share}
use Rattle.mesh.specs.At.{particle_row, particles_at}
use Rattle.mesh.specs.Workers.{edge_of, row_at}
use Rattle.mesh.specs.declared.EdgeRow.{EdgeRow}
use Rattle.mesh.proofs.Lists.{particles_length}
use Rattle.mesh.specs.Widths.{point_columns}
use Rattle.work.proofs.Grows.{edges_get}
use Rattle.insert.specs.Shares.{Stands, ShareIs}
use Rattle.insert.specs.Plans.{planned, PlanRoom, PlanIs, InsertableIs}
use Rattle.insert.specs.Tables.{TotalRoom}
use Rattle.insert.specs.declared.plan.Plan.{Plan}
use Rattle.links.specs.Linked.{EdgesLinked}

-- ---- tests

pub was_false : (t : Bool) → not t ≡ true → t ≡ false
was_false true e = absurd (false≢true e)
was_false false e = refl

pub was_true : (t : Bool) → not t ≡ false → t ≡ true
was_true true e = refl
was_true false e = absurd (false≢true (sym e))

module _ {A : Type 0} (t : Bool) (a b : A) where
  pub yes_pick : t ≡ true → a ≡ pick t a b
  yes_pick e = rw e

  pub no_pick : t ≡ false → b ≡ pick t a b
  no_pick e = rw e

-- a number that was raised to lo, and then brought down to hi
pub clamped : (lo hi t u : Float) → u ≡ pick (lt t lo) lo t → pick (lt hi u) hi u ≡ clamp_to_of lo hi t
clamped lo hi t u e = ap (λ (x : Float). pick (lt hi x) hi x) e

module _ (s a b : Bool) where
  pub either_first : s ≡ true → true ≡ s || (a && b)
  either_first e = rw e

  pub either_both : s ≡ false → a ≡ true → b ≡ s || (a && b)
  either_both e d = rw (e, d)

  pub either_none : s ≡ false → a ≡ false → false ≡ s || (a && b)
  either_none e d = rw (e, d)

module _ (s a b : Bool) where
  all_first : s ≡ false → false ≡ (s && a) && b
  all_first e = rw e

  all_second : s ≡ true → a ≡ false → false ≡ (s && a) && b
  all_second e d = rw (e, d)

  all_third : s ≡ true → a ≡ true → b ≡ (s && a) && b
  all_third e d = rw (e, d)

-- ---- is it to be made

-- the inverse mass of v, as the program reads it
pub inverse_read : (v n : ℕ) (points : List Float) (roots : List ℕ) → v < n → get_or points (5 * (length points / point_columns) + v) nan ≡ (get_or (particles_at n points roots) v blank).inv
unfolding particles_at cell
inverse_read v n points roots h = ap (λ (p : Particle). p.inv) (sym (tab_at n (particle_row (length points / point_columns) (length roots / 2) points roots) v blank h))

module _ (f t : Float) (plan : Plan) (points : List Float) (x : ℕ) (near : x ≡ pick (lt t half) plan.row.a plan.row.b) where
  -- the near end is one of the two
  pub near_below : (n : ℕ) → plan.row.a < n → plan.row.b < n → x < n
  near_below n a b = subst (λ (z : ℕ). z < n) (sym near) (pick_by (λ (z : ℕ). z < n) (lt t half) a b)

  -- is it wanted
  abbrev want : Bool
  want = eq (get_or points (5 * (length points / point_columns) + x) nan) zero32 || (le f t && le t (minus one f))

  insertable_by :
      (M : Mesh) (number n e : ℕ) (roots ends : List ℕ) (lengths : List Float) → Stands M n e points roots ends lengths → plan.row.a < n → plan.row.b < n
      → planned plan ≡ insertion_of f M (record { number = number; t = t })
      → (want && lt zero32 (plus plan.first plan.second)) && lt zero32 plan.row.initial ≡ insertable f M (record { number = number; t = t })
  unfolding insertable wanted? near_end insertion_of
  insertable_by M number n e roots ends lengths S a b P =
      let edge : edge_of plan.row ≡ edge_at M number = ap (λ (I : Insertion). I.edge) P in
      let end : x ≡ pick (lt t half) (edge_at M number).a (edge_at M number).b = near ∙ ap (λ (r : Edge). pick (lt t half) r.a r.b) edge in
      let inv : get_or points (5 * (length points / point_columns) + x) nan ≡ (particle M (pick (lt t half) (edge_at M number).a (edge_at M number).b)).inv =
      inverse_read x n points roots (near_below n a b) ∙ ap₂ (λ (l : List Particle) (v : ℕ). (get_or l v blank).inv) (sym S.particles_are) end in
      ap₂ (λ (w : Float) (I : Insertion). ((eq w zero32 || (le f t && le t (minus one f))) && lt zero32 (segment_mass I)) && lt zero32 I.edge.initial) inv P

  module _ (w : Bool) (W : w ≡ want) where
    pub not_wanted : w ≡ false → InsertableIs f t plan points false
    not_wanted d = record { is = λ M number n e roots ends lengths S a b P. all_first want _ _ (sym W ∙ d) ∙ insertable_by M number n e roots ends lengths S a b P }

    pub no_mass : w ≡ true → lt zero32 (plus plan.first plan.second) ≡ false → InsertableIs f t plan points false
    no_mass d m = record { is = λ M number n e roots ends lengths S a b P. all_second want _ _ (sym W ∙ d) m ∙ insertable_by M number n e roots ends lengths S a b P }

    pub by_length : w ≡ true → lt zero32 (plus plan.first plan.second) ≡ true → InsertableIs f t plan points (lt zero32 plan.row.initial)
    by_length d m = record { is = λ M number n e roots ends lengths S a b P. all_third want _ _ (sym W ∙ d) m ∙ insertable_by M number n e roots ends lengths S a b P }

-- ---- the plan

module _ (f : Float) (number : ℕ) (t : Float) (n e : ℕ) (points : List Float) (ends : List ℕ) (lengths : List Float) (R : PlanRoom number n e (length points) ends (length lengths))
    (row : EdgeRow) (read : edge_of row ≡ row_at ends lengths number) where
  pub row_a : row.a < n
  row_a = subst (λ (z : ℕ). z < n) (sym (ap (λ (x : Edge). x.a) read ∙ col_0 0 (length ends / 4) ends number)) R.a_in

  pub row_b : row.b < n
  row_b = subst (λ (z : ℕ). z < n) (sym (ap (λ (x : Edge). x.b) read ∙ col_1 0 (length ends / 4) ends number)) R.b_in

  -- both ends have heads in the table of the edges, which also has what their totals ask
  pub totals_room : {table : List ℕ} → EdgesLinked e ends table → TotalRoom row.a e ends (length lengths) table × TotalRoom row.b e ends (length lengths) table
  totals_room L =
      let a : row.a < 1024 = subst (λ (z : ℕ). z < 1024) (sym (ap (λ (x : Edge). x.a) read)) (L.apart.below 0 number (omega arith) R.here) in
      let b : row.b < 1024 = subst (λ (z : ℕ). z < 1024) (sym (ap (λ (x : Edge). x.b) read)) (L.apart.below 1 number (omega arith) R.here) in
      (record { linked = L; lengths = R.room.lengths; here = a }, record { linked = L; lengths = R.room.lengths; here = b })

  pub plan_is : (at first second : Float) → at ≡ clamp_to_of f (minus one f) t → ShareIs row.a row.initial e points ends lengths first → ShareIs row.b row.initial e points ends lengths second
      → PlanIs f number t n e points ends lengths (record { number = number; row = row; at = at; first = first; second = second; before = n })
  unfolding insertion_of
  plan_is at first second clamp F S =
      record {
        is =
            λ M roots T.
            let edge : edge_of row ≡ edge_at M number = read ∙ sym (edges_get e ends lengths number R.here) ∙ ap (λ (l : List Edge). get_or l number blank_edge) (sym T.edges_are) in
            let one = F.is M n roots T row_a ∙ ap (λ (x : Edge). strap_share M x.a x.initial) edge in
            let two = S.is M n roots T row_b ∙ ap (λ (x : Edge). strap_share M x.b x.initial) edge in
            let many : n ≡ length M.particles = sym (particles_length n points roots) ∙ ap length (sym T.particles_are) in
            λ i. record { number = number; edge = edge i; t = clamp i; share_a = one i; share_b = two i; before = many i };
        a_in = row_a;
        b_in = row_b;
        before_is = refl;
        number_is = refl;
      }
