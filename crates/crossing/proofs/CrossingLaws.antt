-- Laws of crossings: the hit on one edge, and the tables filled edge by edge. Assumes nothing.
use Prim.Native.Nat.{ℕ, ◌+◌, ◌*◌, ◌/◌, ◌<◌, ◌≤◌}
use native.Mathlib.Omega.{arith}
use mathlib.Core.Path.{◌≡◌, refl, sym, ap, ap₂, ◌∙◌}
use mathlib.Core.Bool.{Bool, true, false}
use mathlib.Core.List.{List, [], ◌∷◌, ◌++◌, append-nil}
use lib.ListN.{length, get_or, set}
use lib.Seq.{get_or-set_same, get_or-set_other}
use lib.Ieee.{Float, nan}
use borrow.Author.Tests.{eq-eqb, ne_eqb}
use Rattle.lists.specs.Lists.{pick, each, tab}
use Rattle.lists.proofs.Sifts.{each_append}
use Rattle.lists.proofs.Stores.{tab_length}
use Rattle.lists.proofs.Steps.{tab_step}
use Rattle.lists.proofs.Rows.{rows_push}
use Rattle.blade.specs.declared.Point.{Point}
use Rattle.blade.specs.declared.Hit.{Hit}
use Rattle.blade.specs.declared.Hit.TheVariants.{Miss, Hit as HitAt}
use Rattle.blade.specs.Blade.{blade_hit_of}
use Rattle.columns.specs.Block.{cell}
use Rattle.columns.proofs.Cells.{col_0, col_1}
use Rattle.model.specs.Mesh.{Edge, Mesh, blank_edge}
use Rattle.model.specs.Elements.{Element, structural?, strap_element, straps_from, elements_of, edge_at, place_of}
use Rattle.model.specs.Cut.{Crossing, crossing_at, meets, crossings}
use Rattle.mesh.specs.At.{edges_at}
use Rattle.elements.proofs.Filling.{straps_push}
use Rattle.mesh.specs.Workers.{row_at}
use Rattle.work.proofs.Grows.{edges_get}
use Rattle.insert.specs.Shares.{Stands}
use Rattle.marks.specs.Marking.{blade_from}
use Rattle.crossing.specs.Bends.{EndsBelow}
use Rattle.split_plan.specs.Opened.{place_in}
use Rattle.crossing.specs.Crossings.{HitTold, crossed_in, HitNoted, CrossingsAre}
use Rattle.insert.proofs.InsertLaws.{place_is}

-- ---- the hit on one edge

module _ (b0 b1 : Point) (i : ℕ) (points : List Float) (ends : List ℕ) where
  pub hit_none : (get_or ends (2 * (length ends / 4) + i) 0 ≡ 1 → ⊥) → HitTold b0 b1 i points ends Miss
  unfolding cell
  hit_none n =
      record {
        is = λ M k e roots B S a b. ap (λ (t : Bool). pick t (crossing_at i (meets (blade_from b0 b1) M (row_at ends B i).a (row_at ends B i).b)) []) (sym (ne_eqb _ 1 n));
      }

  pub hit_strap : (r : Hit) (p q : Point) → get_or ends (2 * (length ends / 4) + i) 0 ≡ 1 → p ≡ place_in points (get_or ends i 0) → q ≡ place_in points (get_or ends (length ends / 4 + i) 0) → r ≡ blade_hit_of b0 b1 p q
      → HitTold b0 b1 i points ends r
  unfolding cell meets
  hit_strap r p q f ep eq er =
      record {
        is =
            λ M k e roots B S a b.
            let x : p ≡ place_of M (row_at ends B i).a = ep ∙ place_is M k points roots S.particles_are (get_or ends i 0) a ∙ ap (place_of M) (sym (col_0 0 (length ends / 4) ends i)) in
            let y : q ≡ place_of M (row_at ends B i).b = eq ∙ place_is M k points roots S.particles_are (get_or ends (length ends / 4 + i) 0) b ∙ ap (place_of M) (sym (col_1 0 (length ends / 4) ends i)) in
            ap (crossing_at i) (er ∙ ap₂ (blade_hit_of b0 b1) x y)
            ∙ ap (λ (t : Bool). pick t (crossing_at i (blade_hit_of b0 b1 (place_of M (row_at ends B i).a) (place_of M (row_at ends B i).b))) []) (sym (eq-eqb _ 1 f));
      }

-- ---- a hit in the tables

pub noted_miss : (hit : Hit) (i m : ℕ) (numbers : List ℕ) (ts : List Float) → hit ≡ Miss → HitNoted hit i m numbers numbers ts ts m
noted_miss hit i m numbers ts e = record { is = sym (append-nil _) ∙ ap (λ (h : Hit). crossed_in m numbers ts ++ crossing_at i h) (sym e); least = omega arith; most = omega arith }

pub noted_hit : (hit : Hit) (t : Float) (p : Point) (i m : ℕ) (numbers : List ℕ) (ts : List Float) → hit ≡ HitAt t p → m < length numbers → m < length ts
    → HitNoted hit i m numbers (set numbers m i) ts (set ts m t) (m + 1)
noted_hit hit t p i m numbers ts e h l =
    record {
      is =
          rows_push m (λ j. record { number = get_or numbers j 0; t = get_or ts j nan }) (λ j. record { number = get_or (set numbers m i) j 0; t = get_or (set ts m t) j nan }) (record { number = i; t = t })
          (λ k b z. record { number = get_or-set_other numbers m k i 0 (λ d. omega arith) z; t = get_or-set_other ts m k t nan (λ d. omega arith) z })
          (λ z. record { number = get_or-set_same numbers m i 0 h z; t = get_or-set_same ts m t nan l z })
          ∙ ap (λ (x : Hit). crossed_in m numbers ts ++ crossing_at i x) (sym e);
      least = omega arith;
      most = omega arith;
    }

-- ---- the tables, edge by edge

-- the crossing of an element
abbrev crossing_of : Point → Point → Mesh → Element → List Crossing
crossing_of b0 b1 M x = crossing_at x.number (meets (blade_from b0 b1) M (edge_at M x.number).a (edge_at M x.number).b)

-- at the head of the loop: the crossings of the first i edges stand in the tables
pub record Finding (b0 b1 : Point) (e : ℕ) (points : List Float) (ends numbers₀ numbers : List ℕ) (ts₀ ts : List Float) (m i : ℕ) : Type 0 where
  pub is :
      (M : Mesh) (n : ℕ) (roots : List ℕ) (lengths : List Float) → Stands M n e points roots ends lengths → EndsBelow n e ends
      → crossed_in m numbers ts ≡ each (crossing_of b0 b1 M) (straps_from 0 (edges_at i ends lengths))
  pub inside : i ≤ e
  pub few : m ≤ i
  pub numbers_long : length numbers ≡ length numbers₀
  pub ts_long : length ts ≡ length ts₀

module _ (b0 b1 : Point) (e : ℕ) (points : List Float) (ends numbers₀ : List ℕ) (ts₀ : List Float) where
  pub finding_start : Finding b0 b1 e points ends numbers₀ numbers₀ ts₀ ts₀ 0 0
  unfolding edges_at tab straps_from each
  finding_start = record { is = λ M n roots B S E. refl; inside = omega arith; few = omega arith; numbers_long = refl; ts_long = refl }

  one_found : (M : Mesh) (x : Edge) (i : ℕ) (t : Bool) → each (crossing_of b0 b1 M) (pick t (strap_element i x ∷ []) []) ≡ pick t (crossing_of b0 b1 M (strap_element i x)) []
  unfolding each
  one_found M x i true = append-nil _
  one_found M x i false = refl

  -- the crossings of one edge more
  found_step : (M : Mesh) (B : List Float) (i : ℕ) → M.edges ≡ edges_at e ends B → i < e
      → each (crossing_of b0 b1 M) (straps_from 0 (edges_at (i + 1) ends B))
      ≡ each (crossing_of b0 b1 M) (straps_from 0 (edges_at i ends B))
      ++ pick (structural? (row_at ends B i)) (crossing_at i (meets (blade_from b0 b1) M (row_at ends B i).a (row_at ends B i).b)) []
  unfolding edges_at
  found_step M B i q h =
      let f = row_at ends B in
      let z : 0 + length (tab i f) ≡ i = omega (arith, tab_length i f) in
      let row : edge_at M i ≡ f i = ap (λ (l : List Edge). get_or l i blank_edge) q ∙ edges_get e ends B i h in
      ap (λ (l : List Edge). each (crossing_of b0 b1 M) (straps_from 0 l)) (tab_step f i)
      ∙ ap (each (crossing_of b0 b1 M)) (straps_push 0 (tab i f) (f i) ∙ ap (λ (j : ℕ). straps_from 0 (tab i f) ++ pick (structural? (f i)) (strap_element j (f i) ∷ []) []) z)
      ∙ each_append (crossing_of b0 b1 M) (straps_from 0 (tab i f)) (pick (structural? (f i)) (strap_element i (f i) ∷ []) [])
      ∙ ap (λ (l : List Crossing). each (crossing_of b0 b1 M) (straps_from 0 (tab i f)) ++ l)
      (one_found M (f i) i (structural? (f i)) ∙ ap (λ (x : Edge). pick (structural? (f i)) (crossing_at i (meets (blade_from b0 b1) M x.a x.b)) []) row)

  module _ (numbers : List ℕ) (ts : List Float) (m i : ℕ) (F : Finding b0 b1 e points ends numbers₀ numbers ts₀ ts m i) where
    pub finding_step : (hit : Hit) (numbers' : List ℕ) (ts' : List Float) (r : ℕ) → i < e → HitTold b0 b1 i points ends hit → HitNoted hit i m numbers numbers' ts ts' r
        → length numbers' ≡ length numbers → length ts' ≡ length ts → Finding b0 b1 e points ends numbers₀ numbers' ts₀ ts' r (i + 1)
    finding_step hit numbers' ts' r h T N ln lt =
        let low = F.few in
        let most = N.most in
        record {
          is =
              λ M n roots B S E.
              N.is ∙ ap₂ (λ (x y : List Crossing). x ++ y) (F.is M n roots B S E) (T.is M n e roots B S (E.first i h) (E.second i h)) ∙ sym (found_step M B i S.edges_are h);
          inside = omega arith;
          few = omega arith;
          numbers_long = ln ∙ F.numbers_long;
          ts_long = lt ∙ F.ts_long;
        }

    pub finding_done : e ≤ i → CrossingsAre b0 b1 e points ends numbers ts m
    unfolding crossings elements_of
    finding_done h =
        let low = F.inside in
        let all : i ≡ e = omega arith in
        record {
          is = λ M n roots B S E. F.is M n roots B S E ∙ ap (λ (j : ℕ). each (crossing_of b0 b1 M) (straps_from 0 (edges_at j ends B))) all ∙ ap (λ (l : List Edge). each (crossing_of b0 b1 M) (straps_from 0 l)) (sym S.edges_are);
          few = omega (arith, F.few);
        }
