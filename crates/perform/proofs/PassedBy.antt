-- A blade that meets nothing cuts nothing: no mark means no candidate and no crossing. Assumes nothing.
use Prim.Native.Nat.{ℕ, suc, ◌+◌, ◌<◌}
use mathlib.Core.Path.{◌≡◌, refl, sym, ◌∙◌, ap, ap₂, subst}
use mathlib.Core.Bool.{Bool, true, false, ◌&&◌, false≢true}
use mathlib.Core.List.{List, [], ◌∷◌, ◌++◌, map}
use native.Mathlib.Omega.{arith}
use borrow.Author.Tests.{eqb-true}
use lib.Dec.{eqb}
use lib.ListN.{length, get_or}
use lib.Ieee.{Float}
use Rattle.lists.specs.Lists.{pick, fold, each, pairs, empty, rising}
use Rattle.lists.proofs.Sifts.{and_true}
use Rattle.blade.specs.declared.Point.{Point}
use Rattle.blade.specs.declared.Hit.{Hit}
use Rattle.blade.specs.declared.Hit.TheVariants.{Miss, Hit as HitAt}
use Rattle.model.specs.Mesh.{Edge, Mesh, blank_edge}
use Rattle.model.specs.Elements.{Triangles, Straps, Nothing, Element, edge_at, ends_of, structural?, strap_element, straps_from, elements_of}
use Rattle.model.specs.Run.{Entry, Run, step_to, splits_of}
use Rattle.model.specs.Cut.{Blade, hit?, meets, if_met, candidates, split_by_blade, split_pinched_of, cut_facets_of, Crossing, crossing_at, crossings, crossed, strapping, unbent, after_crossings, cut_segments_of, mark_at, mark_of, marks_of, marked_by, cut_along, cut}
use Rattle.model_laws.proofs.Laws.{none_rising}
use Rattle.mesh.specs.Log.{World, Words, words_of, world_of}
use Rattle.mesh.specs.declared.Counts.{Counts}
use Rattle.mesh.specs.declared.Rooms.{Rooms}
use Rattle.elements.specs.Table.{kind_is}
use Rattle.elements.specs.declared.Kind.{Kind as KindCase}
use Rattle.elements.specs.declared.Kind.TheVariants.{Triangles as TrianglesCase, Straps as StrapsCase, Nothing as NothingCase}
use Rattle.marks.specs.Marking.{blade_by}
use Rattle.marks.specs.declared.Rule.{Rule}
use Rattle.marks.specs.declared.Rule.TheVariants.{Rounded, Signs}
use Rattle.work.specs.Working.{Went, Works}
use Rattle.perform.specs.Asks.{marks_tell_of, passed_by}
use Rattle.std.specs.Prelude.{Ok}

-- ---- lists of nothing

both_none : {A : Type 0} (a b : List A) → a ++ b ≡ [] → (a ≡ []) × (b ≡ [])
both_none [] b e = (refl, e)
both_none (x ∷ a) b e = absurd (let z : ◌≡◌ {A = ℕ} (suc (length (a ++ b))) 0 = ap length e in omega arith)

words_none : (l : List Entry) → map words_of l ≡ [] → l ≡ []
words_none [] e = refl
words_none (a ∷ l) e = absurd (let z : ◌≡◌ {A = ℕ} (suc (length (map words_of l))) 0 = ap length e in omega arith)

-- f brings nothing wherever g brings nothing
each_none : {A C D : Type 0} (g : A → List C) (f : A → List D) → ((a : A) → g a ≡ [] → f a ≡ []) → (l : List A) → each g l ≡ [] → each f l ≡ []
unfolding each
each_none g f h [] e = refl
each_none g f h (a ∷ l) e = let b = both_none (g a) (each g l) e in ap₂ {C = List _} ◌++◌ (h a b.0) (each_none g f h l b.1)

-- ---- a pair without a mark is a miss

unmarked : (xy : ℕ × ℕ) (h : Hit) → mark_at xy h ≡ [] → h ≡ Miss
unmarked xy Miss e = refl
unmarked xy (HitAt t p) e = absurd (let z : ◌≡◌ {A = ℕ} 1 0 = ap length e in omega arith)

module _ (B : Blade) (M : Mesh) where
  unmet : (xy : ℕ × ℕ) → mark_of B M xy ≡ [] → if_met B M xy ≡ []
  unmet xy e = ap (λ (h : Hit). pick (hit? h) (xy.0 ∷ xy.1 ∷ []) []) (unmarked xy (meets B M xy.0 xy.1) e)

  -- no candidates
  none_chosen : marks_of Triangles B M ≡ [] → candidates B M ≡ []
  unfolding marks_of candidates
  none_chosen e =
      ap (rising (length M.particles))
      (each_none (λ (x : Element). each (mark_of B M) (pairs x.corners)) (λ (x : Element). each (if_met B M) (pairs x.corners))
      (λ x. each_none (mark_of B M) (if_met B M) unmet (pairs x.corners)) (elements_of Triangles M) e)
      ∙ none_rising (length M.particles)

  -- no crossings, edge by edge, where the edges behind number i are es
  abbrev marks_at : Element → List Entry
  marks_at x = each (mark_of B M) (pairs x.corners)

  abbrev crossings_at : Element → List Crossing
  crossings_at x = crossing_at x.number (meets B M (edge_at M x.number).a (edge_at M x.number).b)

  strap_uncrossed : (i : ℕ) (e : Edge) → edge_at M i ≡ e → marks_at (strap_element i e) ≡ [] → crossings_at (strap_element i e) ≡ []
  unfolding each pairs
  strap_uncrossed i e q m =
      ap (λ (x : Edge). crossing_at i (meets B M x.a x.b)) q
      ∙ ap (crossing_at i) (unmarked (e.a, e.b) (meets B M e.a e.b) (both_none (mark_of B M (e.a, e.b)) [] m).0)

  straps_uncrossed : (i : ℕ) (es : List Edge) → ((j : ℕ) → j < length es → edge_at M (i + j) ≡ get_or es j blank_edge) → each marks_at (straps_from i es) ≡ [] → each crossings_at (straps_from i es) ≡ []
  unfolding each straps_from
  straps_uncrossed i [] h m = refl
  straps_uncrossed i (e ∷ es) h m =
      by (structural? e) (straps_uncrossed (suc i) es (λ j l. ap (edge_at M) (let z : suc i + j ≡ i + suc j = omega arith in z) ∙ h (suc j) (omega arith))) m
    where
      by : (b : Bool) → (each marks_at (straps_from (suc i) es) ≡ [] → each crossings_at (straps_from (suc i) es) ≡ [])
          → each marks_at (pick b (strap_element i e ∷ straps_from (suc i) es) (straps_from (suc i) es)) ≡ [] → each crossings_at (pick b (strap_element i e ∷ straps_from (suc i) es) (straps_from (suc i) es)) ≡ []
      by true k m =
          let p = both_none (marks_at (strap_element i e)) (each marks_at (straps_from (suc i) es)) m in
          ap₂ {C = List Crossing} ◌++◌ (strap_uncrossed i e (ap (edge_at M) (let z : i ≡ i + 0 = omega arith in z) ∙ h 0 (omega arith)) p.0) (k p.1)
      by false k m = k m

  none_crossed : marks_of Straps B M ≡ [] → crossings B M ≡ []
  unfolding marks_of crossings elements_of
  none_crossed e = straps_uncrossed 0 M.edges (λ j l. ap (edge_at M) (let z : 0 + j ≡ j = omega arith in z)) e

-- ---- so nothing is cut

facets_stay : (B : Blade) (S : Run) → candidates B S.mesh ≡ [] → S.log ≡ [] → cut_facets_of B S ≡ S
unfolding cut_facets_of fold splits_of each
facets_stay B S none e =
    ap (λ (l : List ℕ). let Q = fold (split_by_blade Triangles B) S l in pick (empty (splits_of Q.log)) Q (split_pinched_of Triangles Q)) none
    ∙ ap (λ (l : List Entry). pick (empty (splits_of l)) S (split_pinched_of Triangles S)) e

segments_stay : (B : Blade) (f : Float) (S : Run) → crossings B S.mesh ≡ [] → cut_segments_of B f S ≡ S
unfolding cut_segments_of after_crossings unbent fold
segments_stay B f S none =
    ap (λ (l : List Crossing). after_crossings B (fold (crossed f) (strapping S [] []) l)) none
    ∙ ap (fold _ S) (none_rising (length S.mesh.particles))

-- with marks that tell, and an empty log behind them, the cut is done
module _ (b0 b1 : Point) (f : Float) (R : Run) where
  passed_stays : (rule : Rule) (kind : KindCase) → marks_tell_of rule kind ≡ true → (marked_by (kind_is kind) (blade_by rule b0 b1) R).log ≡ []
      → cut_along (kind_is kind) (blade_by rule b0 b1) f (marked_by (kind_is kind) (blade_by rule b0 b1) R) ≡ marked_by (kind_is kind) (blade_by rule b0 b1) R
  unfolding cut_along marked_by step_to
  passed_stays rule TrianglesCase t e = facets_stay (blade_by rule b0 b1) _ (none_chosen (blade_by rule b0 b1) R.mesh (both_none R.log _ e).1) e
  passed_stays Rounded StrapsCase t e = segments_stay (blade_by Rounded b0 b1) f _ (none_crossed (blade_by Rounded b0 b1) R.mesh (both_none R.log _ e).1)
  passed_stays Signs StrapsCase t e = absurd (false≢true t)
  passed_stays rule NothingCase t e = refl

pub marks_passed : (rule : Rule) (kind : KindCase) (b0 b1 : Point) (f : Float) {L : Rooms} {W : World} {at : Counts → World} (k : Counts) → passed_by rule kind k.log ≡ true
    → (k.log ≡ 0 → (at k).log ≡ []) → Works (marked_by (kind_is kind) (blade_by rule b0 b1)) L W at (Ok k) → Works (cut (kind_is kind) (blade_by rule b0 b1) f) L W at (Ok k)
unfolding cut
marks_passed rule kind b0 b1 f {L} {W} {at} k p none F =
    let t = and_true (eqb k.log 0) (marks_tell_of rule kind) p in
    record {
      went =
          λ R e z.
          let h = F.went R e z in
          let clear = words_none (marked_by (kind_is kind) (blade_by rule b0 b1) R).log (sym (ap (λ (x : World). x.log) h.2) ∙ none (eqb-true _ _ t.0)) in
          subst (λ (S : Run). Went L S at (Ok k)) (sym (passed_stays b0 b1 f R rule kind t.1 clear)) h;
    }
