-- Laws of the marks of crossings: one mark more, one list behind another, the marks of a block, and the step that they are. Assumes nothing.
use mathlib.Core.Path.{◌≡◌, refl, sym, ◌∙◌, ap, ap₂, subst}
use mathlib.Core.Bool.{Bool, true, false, false≢true}
use mathlib.Core.List.{List, [], ◌∷◌, ◌++◌, map, append_assoc, append-nil, map-append}
use Prim.Native.Nat.{ℕ, suc, ◌+◌, ◌*◌, ◌/◌, ◌<◌, ◌≤◌}
use native.Mathlib.Omega.{arith}
use borrow.Author.Tests.{eq-eqb, ne_eqb}
use lib.Dec.{eqb}
use native.Mathlib.Decide.{ℕ_discrete}
use lib.ListN.{length, get_or, set, length-set, length-append, length-map}
use lib.Seq.{get_or-set_same, get_or-set_other}
use lib.Ieee.{Float, nan, binary32, to_bits}
use Rattle.float.proofs.Picks.{yes as taken, or_yes_1}
use Rattle.lists.specs.Lists.{pick, each, pairs, tab, up_to}
use Rattle.lists.proofs.Steps.{each_step}
use Rattle.blade.specs.declared.Point.{Point}
use Rattle.blade.specs.declared.Hit.{Hit}
use Rattle.blade.specs.declared.Hit.TheVariants.{Miss, Hit as HitAt}
use Rattle.blade.specs.Blade.{offset_of, blade_hit_of}
use Rattle.columns.specs.Block.{cell}
use Rattle.columns.proofs.Cells.{col_0, col_1}
use Rattle.model.specs.Mesh.{Edge, Mesh}
use Rattle.model.specs.Elements.{Kind, Triangles, Straps, Element, ends_of, structural?, strap_element, straps_from, elements_of}
use Rattle.model.specs.Run.{met, Run}
use Rattle.model.specs.Cut.{Blade, hit_by, meets, mark_at, mark_of, marks_of, marked_by}
use Rattle.mesh.specs.At.{triangles_at, edges_at, mesh_at}
use Rattle.mesh.specs.Log.{World, Words, words_of, log_at, world_of, world_at}
use Rattle.mesh.specs.Given.{as_rooms}
use Rattle.mesh.specs.Filled.{lent}
use Rattle.mesh.specs.declared.Counts.{Counts}
use Rattle.mesh.specs.declared.Rooms.{Rooms}
use Rattle.mesh.proofs.Lists.{log_length, world_path}
use Rattle.mesh.specs.Widths.{point_columns}
use Rattle.elements.specs.Table.{kind_is}
use Rattle.elements.specs.declared.Kind.{Kind as KindCase}
use Rattle.elements.specs.declared.Kind.TheVariants.{Triangles as TrianglesCase, Straps as StrapsCase, Nothing as NothingCase}
use Rattle.work.specs.Places.{CornersIn, EndsIn}
use Rattle.work.specs.Working.{Ready, Works}
use Rattle.work.proofs.Placed.{particles_count, edges_count, boundary_count, corners_in, ends_in}
use Rattle.work.proofs.Runs.{room_enough, log_lacks, need_behind, went_step}
use Rattle.split_plan.specs.Opened.{place_in}
use Rattle.marks.specs.Marking.{PlacesIn, rule_is, blade_by}
use Rattle.marks.specs.declared.Rule.{Rule}
use Rattle.marks.specs.declared.Rule.TheVariants.{Rounded, Signs}
use Rattle.marks.proofs.MarkLaws.{each_tab, corners_at, row_below, rows_are, places_at}
use Rattle.crossmarks.specs.Noting.{pair_marks, row_marks, triangle_marks, strap_mark, strap_marks, Noted, beside_by, OffsetAt, OffsetsAre, PairRoom, TriangleRoom, StrapRoom}
use Rattle.lists.proofs.Sifts.{each_ext}
use Rattle.std.specs.Prelude.{Ok, Err}
use Rattle.mesh.specs.declared.refusals.Refusal.TheVariants.{Entries}

-- ---- marks behind a log

pub noted_none : (more : List Words) (n : ℕ) (log : List ℕ) → more ≡ [] → Noted more n log log n
noted_none more n log e =
    record {
      count = let z : length more ≡ 0 = ap length e in omega arith;
      entries = λ h. sym (ap (λ (l : List Words). log_at n log ++ l) e ∙ append-nil (log_at n log));
    }

-- with room the words stand there; without they are counted
pub noted_one : (more : List Words) (w : Words) (n : ℕ) (log log' : List ℕ) → more ≡ w ∷ [] → (n < length log / 6 → log_at (n + 1) log' ≡ log_at n log ++ (w ∷ [])) → Noted more n log log' (n + 1)
noted_one more w n log log' e h =
    record {
      count = let z : length more ≡ 1 = ap length e in omega arith;
      entries = λ u. h (omega arith) ∙ ap (λ (l : List Words). log_at n log ++ l) (sym e);
    }

pub noted_then : (a b : List Words) (n r s : ℕ) (log log' log'' : List ℕ) → length log' ≡ length log → Noted a n log log' r → Noted b r log' log'' s → Noted (a ++ b) n log log'' s
noted_then a b n r s log log' log'' e A B =
    let ab = length-append a b in
    record {
      count = let x = A.count in let y = B.count in omega (arith, ab, x, y);
      entries = λ u.
          let x = A.count in
          let y = B.count in
          let v : s ≤ length log' / 6 = subst (λ (m : ℕ). s ≤ m / 6) (sym e) u in
          let w : r ≤ length log / 6 = omega (arith, x, y, u) in
          B.entries v ∙ ap (λ (l : List Words). l ++ b) (A.entries w) ∙ append_assoc (log_at n log) a b;
    }

pub noted_as : (a b : List Words) (n r : ℕ) (log log' : List ℕ) → a ≡ b → Noted a n log log' r → Noted b n log log' r
noted_as a b n r log log' e A = subst (λ (l : List Words). Noted l n log log' r) e A

-- ---- one pair

module _ (B : Blade) (points : List Float) (x y : ℕ) where
  pair_is : (p q : Point) (h : Hit) → p ≡ place_in points x → q ≡ place_in points y → h ≡ hit_by B.rule B.line.from B.line.to p q → pair_marks B points (x, y) ≡ map words_of (mark_at (x, y) h)
  unfolding pair_marks
  pair_is p q h ep eq e = ap (λ (z : Hit). map words_of (mark_at (x, y) z)) (ap₂ (λ (a b : Point). hit_by B.rule B.line.from B.line.to a b) (sym ep) (sym eq) ∙ sym e)

  pub pair_miss : (p q : Point) (h : Hit) (n : ℕ) (log : List ℕ) → p ≡ place_in points x → q ≡ place_in points y → h ≡ hit_by B.rule B.line.from B.line.to p q → h ≡ Miss
      → Noted (pair_marks B points (x, y)) n log log n
  pair_miss p q h n log ep eq e m = noted_none _ n log (pair_is p q h ep eq e ∙ ap (λ (z : Hit). map words_of (mark_at (x, y) z)) m)

  pair_hit : (p q : Point) (h : Hit) (t : Float) (at : Point) (n : ℕ) (log log' : List ℕ) → p ≡ place_in points x → q ≡ place_in points y → h ≡ hit_by B.rule B.line.from B.line.to p q → h ≡ HitAt t at
      → (n < length log / 6 → log_at (n + 1) log' ≡ log_at n log ++ (words_of (met x y at t) ∷ [])) → Noted (pair_marks B points (x, y)) n log log' (n + 1)
  pair_hit p q h t at n log log' ep eq e m w = noted_one _ (words_of (met x y at t)) n log log' (pair_is p q h ep eq e ∙ ap (λ (z : Hit). map words_of (mark_at (x, y) z)) m) w

  -- with room the six words are written; without the mark is counted
  pub pair_written : (p q : Point) (h : Hit) (t : Float) (at : Point) (n : ℕ) (log log' exit : List ℕ) (a b c : ℕ) → p ≡ place_in points x → q ≡ place_in points y → h ≡ hit_by B.rule B.line.from B.line.to p q → h ≡ HitAt t at
      → a ≡ to_bits binary32 at.x → b ≡ to_bits binary32 at.y → c ≡ to_bits binary32 t
      → log_at (n + 1) exit ≡ log_at n log ++ (record { kind = 5; a = x; b = y; p = a; q = b; t = c } ∷ []) → log' ≡ exit → Noted (pair_marks B points (x, y)) n log log' (n + 1)
  pair_written p q h t at n log log' exit a b c ep eq e m ea eb ec w l =
      pair_hit p q h t at n log log' ep eq e m
      (λ u. ap (log_at (n + 1)) l ∙ w ∙ (λ i. log_at n log ++ (record { kind = 5; a = x; b = y; p = ea i; q = eb i; t = ec i } ∷ [])))

  pub pair_counted : (p q : Point) (h : Hit) (t : Float) (at : Point) (n : ℕ) (log log' : List ℕ) → p ≡ place_in points x → q ≡ place_in points y → h ≡ hit_by B.rule B.line.from B.line.to p q → h ≡ HitAt t at
      → length log / 6 ≤ n → Noted (pair_marks B points (x, y)) n log log' (n + 1)
  pair_counted p q h t at n log log' ep eq e m u = pair_hit p q h t at n log log' ep eq e m (λ v. absurd (omega arith))

  pub pair_few : length (pair_marks B points (x, y)) ≤ 1
  unfolding pair_marks
  pair_few = by (hit_by B.rule B.line.from B.line.to (place_in points x) (place_in points y))
    where
      by : (h : Hit) → length (map words_of (mark_at (x, y) h)) ≤ 1
      by Miss = omega arith
      by (HitAt t at) = omega arith

-- ---- offsets

-- by rounded numbers a product of offsets above 0 is a miss
beside_missed : (rule : Rule) (b0 b1 p q : Point) → beside_by rule (offset_of b0 b1 p) (offset_of b0 b1 q) ≡ true → hit_by (rule_is rule) b0 b1 p q ≡ Miss
unfolding blade_hit_of
beside_missed Rounded b0 b1 p q h = sym (taken _ _ _ (or_yes_1 _ h))
beside_missed Signs b0 b1 p q h = absurd (false≢true h)

module _ (rule : Rule) (b0 b1 : Point) (points offsets : List Float) where
  -- so a pair beside the line has no mark
  pub pair_beside : (x y n : ℕ) (log : List ℕ) (b : Bool) → OffsetAt b0 b1 points offsets x → OffsetAt b0 b1 points offsets y → b ≡ beside_by rule (get_or offsets x nan) (get_or offsets y nan) → b ≡ true
      → Noted (pair_marks (blade_by rule b0 b1) points (x, y)) n log log n
  pair_beside x y n log b X Y e t =
      pair_miss (blade_by rule b0 b1) points x y _ _ _ n log refl refl refl
      (beside_missed rule b0 b1 (place_in points x) (place_in points y) (ap₂ {C = Bool} (beside_by rule) (sym X.is) (sym Y.is) ∙ sym e ∙ t))

module _ (b0 b1 : Point) (points offsets : List Float) where
  -- none, and one more
  pub offsets_none : OffsetsAre b0 b1 points offsets 0
  offsets_none = record { at = λ w h. absurd (omega arith) }

  pub offsets_more : (w : ℕ) (p : Point) (d : Float) → OffsetsAre b0 b1 points offsets w → w < length offsets → p ≡ place_in points w → d ≡ offset_of b0 b1 p → OffsetsAre b0 b1 points (set offsets w d) (w + 1)
  offsets_more w p d F h ep ed =
      record {
        at = λ j l.
            elim (ℕ_discrete j w) [
              | yes e ↦
                  subst (OffsetAt b0 b1 points (set offsets w d)) (sym e)
                  (record { long = omega (arith, length-set offsets w d); is = get_or-set_same offsets w d nan h ∙ ed ∙ ap (offset_of b0 b1) ep })
              | no ne ↦ let o = F.at j (omega arith) in record { long = omega (arith, length-set offsets w d, o.long); is = get_or-set_other offsets w j d nan ne ∙ o.is }
            ];
      }

-- behind the last
pub offsets_done : (b0 b1 : Point) (points offsets : List Float) (w p : ℕ) → w ≡ p → OffsetsAre b0 b1 points offsets w → OffsetsAre b0 b1 points offsets p
offsets_done b0 b1 points offsets w p e F = subst (OffsetsAre b0 b1 points offsets) e F

-- ---- three pairs

module _ (B : Blade) (points : List Float) (x y z : ℕ) where
  pub sides_noted : (n r₁ r₂ r₃ : ℕ) (l l₁ l₂ l₃ : List ℕ) → length l₁ ≡ length l → length l₂ ≡ length l₁
      → Noted (pair_marks B points (x, y)) n l l₁ r₁ → Noted (pair_marks B points (x, z)) r₁ l₁ l₂ r₂ → Noted (pair_marks B points (y, z)) r₂ l₂ l₃ r₃ → Noted (row_marks B points (x ∷ y ∷ z ∷ [])) n l l₃ r₃
  unfolding row_marks each pairs
  sides_noted n r₁ r₂ r₃ l l₁ l₂ l₃ e₁ e₂ X Y Z =
      let a = pair_marks B points (x, y) in
      let b = pair_marks B points (x, z) in
      let c = pair_marks B points (y, z) in
      noted_as ((a ++ b) ++ c) (a ++ (b ++ (c ++ []))) n r₃ l l₃
      (append_assoc a b c ∙ ap (λ (k : List Words). a ++ (b ++ k)) (sym (append-nil c)))
      (noted_then (a ++ b) c n r₂ r₃ l l₂ l₃ (e₂ ∙ e₁) (noted_then a b n r₁ r₂ l l₁ l₂ e₁ X Y) Z)

  pub row_few : length (row_marks B points (x ∷ y ∷ z ∷ [])) ≤ 3
  unfolding row_marks each pairs
  row_few =
      let a = pair_marks B points (x, y) in
      let b = pair_marks B points (x, z) in
      let c = pair_marks B points (y, z) in
      let p = pair_few B points x y in
      let q = pair_few B points x z in
      let r = pair_few B points y z in
      let u = length-append a (b ++ (c ++ [])) in
      let v = length-append b (c ++ []) in
      let w = length-append c [] in
      omega (arith, p, q, r, u, v, w)

-- ---- block by block

pub triangles_none : (B : Blade) (points : List Float) (corners : List ℕ) (n : ℕ) (log : List ℕ) → Noted (triangle_marks B points 0 corners) n log log n
unfolding triangle_marks each tab
triangles_none B points corners n log = noted_none [] n log refl

pub triangles_more : (B : Blade) (points : List Float) (corners : List ℕ) (n i r s : ℕ) (l l' l'' : List ℕ) → length l' ≡ length l → Noted (triangle_marks B points i corners) n l l' r
    → Noted (row_marks B points (corners_at corners i)) r l' l'' s → Noted (triangle_marks B points (i + 1) corners) n l l'' s
unfolding triangle_marks
triangles_more B points corners n i r s l l' l'' e X Y =
    noted_as _ _ n s l l'' (sym (each_step (row_marks B points) (corners_at corners) i)) (noted_then _ (row_marks B points (corners_at corners i)) n r s l l' l'' e X Y)

pub straps_none : (B : Blade) (points : List Float) (ends : List ℕ) (n : ℕ) (log : List ℕ) → Noted (strap_marks B points 0 ends) n log log n
unfolding strap_marks up_to each tab
straps_none B points ends n log = noted_none [] n log refl

pub straps_more : (B : Blade) (points : List Float) (ends : List ℕ) (n i r s : ℕ) (l l' l'' : List ℕ) → length l' ≡ length l → Noted (strap_marks B points i ends) n l l' r
    → Noted (strap_mark B points ends i) r l' l'' s → Noted (strap_marks B points (i + 1) ends) n l l'' s
unfolding strap_marks up_to
straps_more B points ends n i r s l l' l'' e X Y =
    noted_as _ _ n s l l'' (sym (each_step (strap_mark B points ends) (λ k. k) i)) (noted_then _ (strap_mark B points ends i) n r s l l' l'' e X Y)

-- an edge that is a strap, and one that is not
pub strap_noted : (B : Blade) (points : List Float) (ends : List ℕ) (i n r : ℕ) (l l' : List ℕ) → get_or ends (2 * (length ends / 4) + i) 0 ≡ 1
    → Noted (pair_marks B points (get_or ends i 0, get_or ends (length ends / 4 + i) 0)) n l l' r → Noted (strap_mark B points ends i) n l l' r
unfolding strap_mark
strap_noted B points ends i n r l l' e X =
    noted_as _ _ n r l l' (sym (ap (λ (t : Bool). pick t (pair_marks B points (get_or ends i 0, get_or ends (length ends / 4 + i) 0)) []) (eq-eqb _ 1 e))) X

pub strap_passed : (B : Blade) (points : List Float) (ends : List ℕ) (i n : ℕ) (l : List ℕ) → (get_or ends (2 * (length ends / 4) + i) 0 ≡ 1 → ⊥) → Noted (strap_mark B points ends i) n l l n
unfolding strap_mark
strap_passed B points ends i n l e = noted_none _ n l (ap (λ (t : Bool). pick t (pair_marks B points (get_or ends i 0, get_or ends (length ends / 4 + i) 0)) []) (ne_eqb _ 1 e))

-- a pair brings one mark at most, a row of three corners three, an edge one
pub few_of_pair : (B : Blade) (points : List Float) (x y n r : ℕ) (l l' : List ℕ) → Noted (pair_marks B points (x, y)) n l l' r → r ≤ n + 1
few_of_pair B points x y n r l l' X = let a = X.count in let b = pair_few B points x y in omega (arith, a, b)

pub few_of_row : (B : Blade) (points : List Float) (x y z n r : ℕ) (l l' : List ℕ) → Noted (row_marks B points (x ∷ y ∷ z ∷ [])) n l l' r → r ≤ n + 3
few_of_row B points x y z n r l l' X = let a = X.count in let b = row_few B points x y z in omega (arith, a, b)

-- one turn of the loop over the edges
pub straps_turn : (B : Blade) (points : List Float) (ends : List ℕ) (n i r s m : ℕ) (l l' l'' x : List ℕ) → length l' ≡ length l → length l'' ≡ length l' → Noted (strap_marks B points i ends) n l l' r → r ≤ n + i
    → Noted (strap_mark B points ends i) r l' l'' s → s ≤ r + 1 → x ≡ l'' → m ≡ s → (length x ≡ length l) × Noted (strap_marks B points (i + 1) ends) n l x m × (m ≤ n + (i + 1))
straps_turn B points ends n i r s m l l' l'' x e d X u Y v q z = (
  ap length q ∙ d ∙ e,
  subst (λ (k : List ℕ). Noted (strap_marks B points (i + 1) ends) n l k m) (sym q)
      (subst (λ (k : ℕ). Noted (strap_marks B points (i + 1) ends) n l l'' k) (sym z) (straps_more B points ends n i r s l l' l'' e X Y)),
  omega (arith, u, v, z),
)

-- behind the last turn
pub triangles_done : (B : Blade) (points : List Float) (corners : List ℕ) (n i t r : ℕ) (l l' : List ℕ) → i ≡ t → Noted (triangle_marks B points i corners) n l l' r → Noted (triangle_marks B points t corners) n l l' r
triangles_done B points corners n i t r l l' e X = subst (λ (k : ℕ). Noted (triangle_marks B points k corners) n l l' r) e X

pub straps_done : (B : Blade) (points : List Float) (ends : List ℕ) (n i e r : ℕ) (l l' : List ℕ) → i ≡ e → Noted (strap_marks B points i ends) n l l' r → Noted (strap_marks B points e ends) n l l' r
straps_done B points ends n i e r l l' q X = subst (λ (k : ℕ). Noted (strap_marks B points k ends) n l l' r) q X

-- ---- places

pub room_less : (x y n m lp : ℕ) → PairRoom x y n lp → m ≤ n → PairRoom x y m lp
room_less x y n m lp R h = record { first = R.first; second = R.second; small = R.small; few = let f = R.few in omega (arith, f) }

pub room_between : (x y z n m lp : ℕ) → PairRoom x y n lp → PairRoom x z n lp → m ≤ n → PairRoom y z m lp
room_between x y z n m lp R S h = record { first = R.second; second = S.second; small = (R.small.1, S.small.1); few = let f = R.few in omega (arith, f) }

module _ {b0 b1 : Point} (t n : ℕ) (points : List Float) (corners : List ℕ) (offsets : List Float) (i m : ℕ) (T : TriangleRoom b0 b1 t n points corners offsets) (h : i < t) where
  pub offsets_of_row : OffsetAt b0 b1 points offsets (get_or corners i 0) × OffsetAt b0 b1 points offsets (get_or corners (length corners / 3 + i) 0) × OffsetAt b0 b1 points offsets (get_or corners (2 * (length corners / 3) + i) 0)
  offsets_of_row = let b = row_below T.particles t corners i T.corners_in h in (T.offsets_are.at _ b.first, T.offsets_are.at _ b.second, T.offsets_are.at _ b.third)

  pub rooms_of_row : m ≤ n + 3 * i
      → PairRoom (get_or corners i 0) (get_or corners (length corners / 3 + i) 0) (m + 2) (length points) × PairRoom (get_or corners i 0) (get_or corners (2 * (length corners / 3) + i) 0) (m + 2) (length points)
  rooms_of_row u =
      let b = row_below T.particles t corners i T.corners_in h in
      let q = T.places in
      let f = T.few in
      let x = b.first in
      let y = b.second in
      let z = b.third in
      let a₁ : get_or corners i 0 < length points / point_columns = omega (arith, q, x) in
      let a₂ : get_or corners (length corners / 3 + i) 0 < length points / point_columns = omega (arith, q, y) in
      let a₃ : get_or corners (2 * (length corners / 3) + i) 0 < length points / point_columns = omega (arith, q, z) in
      let b₁ : get_or corners i 0 < 65536 = omega (arith, q, x) in
      let b₂ : get_or corners (length corners / 3 + i) 0 < 65536 = omega (arith, q, y) in
      let b₃ : get_or corners (2 * (length corners / 3) + i) 0 < 65536 = omega (arith, q, z) in
      let g : m + 2 < 65536 = omega (arith, f) in
      (record { first = a₁; second = a₂; small = (b₁, b₂); few = g }, record { first = a₁; second = a₃; small = (b₁, b₃); few = g })

module _ {b0 b1 : Point} (e n : ℕ) (points : List Float) (ends : List ℕ) (offsets : List Float) (i m : ℕ) (T : StrapRoom b0 b1 e n points ends offsets) (h : i < e) where
  end_first : get_or ends i 0 < T.particles
  unfolding cell
  end_first = subst (λ (w : ℕ). w < T.particles) (col_0 0 (length ends / 4) ends i) (T.ends_in.first i h)

  end_second : get_or ends (length ends / 4 + i) 0 < T.particles
  unfolding cell
  end_second = subst (λ (w : ℕ). w < T.particles) (col_1 0 (length ends / 4) ends i) (T.ends_in.second i h)

  pub room_of_strap : m ≤ n + i
      → PairRoom (get_or ends i 0) (get_or ends (length ends / 4 + i) 0) m (length points) × OffsetAt b0 b1 points offsets (get_or ends i 0) × OffsetAt b0 b1 points offsets (get_or ends (length ends / 4 + i) 0)
  room_of_strap u =
      let q = T.places in
      let f = T.few in
      let x = end_first in
      let y = end_second in
      let a₁ : get_or ends i 0 < length points / point_columns = omega (arith, q, x) in
      let a₂ : get_or ends (length ends / 4 + i) 0 < length points / point_columns = omega (arith, q, y) in
      let b₁ : get_or ends i 0 < 65536 = omega (arith, q, x) in
      let b₂ : get_or ends (length ends / 4 + i) 0 < 65536 = omega (arith, q, y) in
      let g : m < 65536 = omega (arith, f) in
      (record { first = a₁; second = a₂; small = (b₁, b₂); few = g }, T.offsets_are.at _ x, T.offsets_are.at _ y)

-- ---- the marks of a block are the marks of its mesh

map_each : {A C D : Type 0} (h : C → D) (f : A → List C) (l : List A) → map h (each f l) ≡ each (λ (a : A). map h (f a)) l
unfolding each
map_each h f [] = refl
map_each {A} {C} {D} h f (a ∷ l) = map-append h (f a) (each f l) ∙ ap (λ (r : List D). map h (f a) ++ r) (map_each h f l)

straps_each : (g : List ℕ → List Words) (i : ℕ) (es : List Edge) → each (λ (x : Element). g x.corners) (straps_from i es) ≡ each (λ (x : Edge). pick (structural? x) (g (ends_of x)) []) es
unfolding each straps_from
straps_each g i [] = refl
straps_each g i (e ∷ es) = by (structural? e) (straps_each g (suc i) es)
  where
    by : (b : Bool) → each (λ (x : Element). g x.corners) (straps_from (suc i) es) ≡ each (λ (x : Edge). pick (structural? x) (g (ends_of x)) []) es
        → each (λ (x : Element). g x.corners) (pick b (strap_element i e ∷ straps_from (suc i) es) (straps_from (suc i) es)) ≡ pick b (g (ends_of e)) [] ++ each (λ (x : Edge). pick (structural? x) (g (ends_of x)) []) es
    by true h = ap (λ (l : List Words). g (ends_of e) ++ l) h
    by false h = h

module _ (B : Blade) (points : List Float) (M : Mesh) (p : ℕ) (at : PlacesIn M p points) where
  abbrev words_at : ℕ × ℕ → List Words
  words_at xy = map words_of (mark_of B M xy)

  pair_words : (x y : ℕ) → x < p → y < p → pair_marks B points (x, y) ≡ words_at (x, y)
  unfolding pair_marks meets
  pair_words x y hx hy = ap₂ (λ (a b : Point). map words_of (mark_at (x, y) (hit_by B.rule B.line.from B.line.to a b))) (sym (at x hx)) (sym (at y hy))

  row_words : (x y z : ℕ) → x < p → y < p → z < p → row_marks B points (x ∷ y ∷ z ∷ []) ≡ each words_at (pairs (x ∷ y ∷ z ∷ []))
  unfolding row_marks each pairs
  row_words x y z hx hy hz = λ i. pair_words x y hx hy i ++ (pair_words x z hx hz i ++ (pair_words y z hy hz i ++ []))

  marks_words : (k : Kind) → map words_of (marks_of k B M) ≡ each (λ (e : Element). each words_at (pairs e.corners)) (elements_of k M)
  unfolding marks_of
  marks_words k =
      map_each words_of (λ (e : Element). each (mark_of B M) (pairs e.corners)) (elements_of k M)
      ∙ each_ext (λ (e : Element). map words_of (each (mark_of B M) (pairs e.corners))) (λ (e : Element). each words_at (pairs e.corners)) (λ e. map_each words_of (mark_of B M) (pairs e.corners)) (elements_of k M)

  pub triangle_words : (t : ℕ) (corners : List ℕ) (volumes : List Float) → CornersIn p t corners → M.triangles ≡ triangles_at t corners volumes → triangle_marks B points t corners ≡ map words_of (marks_of Triangles B M)
  unfolding triangle_marks
  triangle_words t corners volumes C e =
      rows_are (row_marks B points) (λ (l : List ℕ). each words_at (pairs l)) M t corners volumes e
      (λ i h. let b = row_below p t corners i C h in row_words _ _ _ b.first b.second b.third)
      ∙ sym (marks_words Triangles)

  strap_word : (e : ℕ) (ends : List ℕ) (lengths : List Float) → EndsIn p e ends → (k : ℕ) → k < e
      → strap_mark B points ends k ≡ pick (eqb (cell 0 (length ends / 4) ends 2 k) 1) (each words_at (pairs (cell 0 (length ends / 4) ends 0 k ∷ cell 0 (length ends / 4) ends 1 k ∷ []))) []
  unfolding strap_mark each pairs cell
  strap_word e ends lengths E k h =
      let R = length ends / 4 in
      ap (λ (l : List Words). pick (eqb (get_or ends (2 * R + k) 0) 1) l [])
      (ap₂ (λ (x y : ℕ). pair_marks B points (x, y)) (sym (col_0 0 R ends k)) (sym (col_1 0 R ends k)) ∙ pair_words _ _ (E.first k h) (E.second k h) ∙ sym (append-nil _))

  pub strap_words : (e : ℕ) (ends : List ℕ) (lengths : List Float) → EndsIn p e ends → M.edges ≡ edges_at e ends lengths → strap_marks B points e ends ≡ map words_of (marks_of Straps B M)
  unfolding strap_marks up_to edges_at elements_of
  strap_words e ends lengths E q =
      each_tab (strap_mark B points ends) (λ (x : Edge). pick (structural? x) (each words_at (pairs (ends_of x))) []) e (λ k. k) _ (strap_word e ends lengths E)
      ∙ ap (each (λ (x : Edge). pick (structural? x) (each words_at (pairs (ends_of x))) [])) (sym q)
      ∙ sym (straps_each (λ (l : List ℕ). each words_at (pairs l)) 0 M.edges)
      ∙ sym (marks_words Straps)

-- ---- the step

module _ (kind : KindCase) (B : Blade) (L : Rooms) (k : Counts) (points : List Float) (roots corners : List ℕ) (volumes : List Float) (ends : List ℕ) (lengths : List Float) (outline log : List ℕ)
    (Y : Ready L k (lent points roots corners volumes ends lengths outline log) (mesh_at k points roots corners volumes ends lengths outline)) where
  abbrev mesh : Mesh
  mesh = mesh_at k points roots corners volumes ends lengths outline

  abbrev Marked : List ℕ → ℕ → Type 0
  Marked log' n = Noted (map words_of (marks_of (kind_is kind) B mesh)) k.log log log' n

  placed : PlacesIn mesh k.particles points
  placed = places_at k points roots corners volumes ends lengths outline

  pub triangle_room : {b0 b1 : Point} (offsets : List Float) → OffsetsAre b0 b1 points offsets k.particles → TriangleRoom b0 b1 k.triangles k.log points corners offsets
  triangle_room offsets O =
      let R = Y.rooms in
      let W = Y.counts in
      let a : k.triangles ≤ length corners / 3 = omega (arith, R.corners, W.triangles) in
      let b : k.particles ≤ 1024 = omega (arith, R.few_particles, W.particles) in
      let c : k.particles ≤ length points / point_columns = omega (arith, R.points, W.particles) in
      let d : k.triangles ≤ 1024 = omega (arith, R.few_triangles, W.triangles) in
      let e : k.log ≤ 4096 = omega (arith, R.few_log, W.log) in
      record { columns = a; particles = k.particles; corners_in = corners_in k points roots corners volumes ends lengths outline Y.indices; places = (b, c); offsets_are = O; few = (d, e) }

  pub strap_room : {b0 b1 : Point} (offsets : List Float) → OffsetsAre b0 b1 points offsets k.particles → StrapRoom b0 b1 k.edges k.log points ends offsets
  strap_room offsets O =
      let R = Y.rooms in
      let W = Y.counts in
      let a : k.edges ≤ length ends / 4 = omega (arith, R.ends, W.edges) in
      let b : k.particles ≤ 1024 = omega (arith, R.few_particles, W.particles) in
      let c : k.particles ≤ length points / point_columns = omega (arith, R.points, W.particles) in
      let d : k.edges ≤ 2048 = omega (arith, R.few_edges, W.edges) in
      let e : k.log ≤ 4096 = omega (arith, R.few_log, W.log) in
      record { columns = a; particles = k.particles; ends_in = ends_in k points roots corners volumes ends lengths outline Y.indices; places = (b, c); offsets_are = O; few = (d, e) }

  pub of_triangles : (log' : List ℕ) (n : ℕ) → kind ≡ TrianglesCase → Noted (triangle_marks B points k.triangles corners) k.log log log' n → Marked log' n
  unfolding mesh_at
  of_triangles log' n e X =
      noted_as _ _ k.log n log log'
      (triangle_words B points mesh k.particles placed k.triangles corners volumes (corners_in k points roots corners volumes ends lengths outline Y.indices) refl
      ∙ ap (λ (q : KindCase). map words_of (marks_of (kind_is q) B mesh)) (sym e)) X

  pub of_straps : (log' : List ℕ) (n : ℕ) → kind ≡ StrapsCase → Noted (strap_marks B points k.edges ends) k.log log log' n → Marked log' n
  unfolding mesh_at
  of_straps log' n e X =
      noted_as _ _ k.log n log log'
      (strap_words B points mesh k.particles placed k.edges ends lengths (ends_in k points roots corners volumes ends lengths outline Y.indices) refl
      ∙ ap (λ (q : KindCase). map words_of (marks_of (kind_is q) B mesh)) (sym e)) X

  pub of_nothing : kind ≡ NothingCase → Marked log k.log
  unfolding marks_of elements_of each
  of_nothing e = noted_none _ k.log log (ap (λ (q : KindCase). map words_of (marks_of (kind_is q) B mesh)) e)

  pub marked_as : (log' log'' : List ℕ) (n m : ℕ) → log' ≡ log'' → n ≡ m → Marked log'' m → Marked log' n
  marked_as log' log'' n m e q X = subst (λ (l : List ℕ). Marked l n) (sym e) (subst (λ (r : ℕ). Marked log'' r) (sym q) X)

  module _ (log' : List ℕ) (n : ℕ) (X : Marked log' n) (S : Run) (e : world_at k points roots corners volumes ends lengths outline log ≡ world_of S.mesh S.log) where
    same_mesh : mesh ≡ S.mesh
    unfolding world_at
    same_mesh = ap (λ (w : World). w.mesh) e

    same_log : log_at k.log log ≡ map words_of S.log
    unfolding world_at
    same_log = ap (λ (w : World). w.log) e

    particles_in : length S.mesh.particles ≤ L.particles
    particles_in =
        let c = ap (λ (m : Mesh). length m.particles) (sym same_mesh) ∙ particles_count k points roots corners volumes ends lengths outline in
        omega (arith, c, Y.counts.particles)

    edges_in : length S.mesh.edges ≤ L.edges
    edges_in =
        let c = ap (λ (m : Mesh). length m.edges) (sym same_mesh) ∙ edges_count k points roots corners volumes ends lengths outline in
        omega (arith, c, Y.counts.edges)

    boundary_in : length S.mesh.boundary ≤ L.boundary
    boundary_in =
        let c = ap (λ (m : Mesh). length m.boundary) (sym same_mesh) ∙ boundary_count k points roots corners volumes ends lengths outline in
        omega (arith, c, Y.counts.boundary)

    log_long : length (S.log ++ marks_of (kind_is kind) B S.mesh) ≡ n
    log_long =
        let a = length-append S.log (marks_of (kind_is kind) B S.mesh) in
        let b : length S.log ≡ k.log = sym (length-map S.log words_of) ∙ ap length (sym same_log) ∙ log_length k.log log in
        let c : length (marks_of (kind_is kind) B S.mesh) ≡ length (map words_of (marks_of (kind_is kind) B mesh))
        = ap (λ (m : Mesh). length (marks_of (kind_is kind) B m)) (sym same_mesh) ∙ sym (length-map (marks_of (kind_is kind) B mesh) words_of) in
        let d = X.count in
        omega (arith, a, b, c, d)

    words_are : n ≤ L.log → log_at n log' ≡ map words_of (S.log ++ marks_of (kind_is kind) B S.mesh)
    words_are u =
        X.entries (omega (arith, Y.rooms.log))
        ∙ ap₂ {C = List Words} ◌++◌ same_log (ap (λ (m : Mesh). map words_of (marks_of (kind_is kind) B m)) same_mesh)
        ∙ sym (map-append words_of S.log (marks_of (kind_is kind) B S.mesh))

  pub marked_refused : (log' : List ℕ) (n : ℕ) (at : Counts → World) → Marked log' n → L.log < n → Works (marked_by (kind_is kind) B) L (world_at k points roots corners volumes ends lengths outline log) at (Err Entries)
  unfolding marked_by
  marked_refused log' n at X u =
      record {
        went = λ S e z.
            went_step L S S.mesh (marks_of (kind_is kind) B S.mesh) (length S.mesh.edges) (length S.mesh.boundary) at (Err Entries) z (
              log_lacks (as_rooms L) (need_behind S S.mesh (marks_of (kind_is kind) B S.mesh) (length S.mesh.edges) (length S.mesh.boundary)) (particles_in log' n X S e) (edges_in log' n X S e) (boundary_in log' n X S e)
                  (let d = log_long log' n X S e in omega (arith, d)),
              omega arith,
            );
      }

  pub marked_done : (log' : List ℕ) (n : ℕ) → Marked log' n → n ≤ L.log
      → Works (marked_by (kind_is kind) B) L (world_at k points roots corners volumes ends lengths outline log) (λ q. world_at q points roots corners volumes ends lengths outline log')
      (Ok (record { particles = k.particles; triangles = k.triangles; edges = k.edges; boundary = k.boundary; log = n }))
  unfolding marked_by world_at mesh_at
  marked_done log' n X u =
      record {
        went = λ S e z.
            went_step L S S.mesh (marks_of (kind_is kind) B S.mesh) (length S.mesh.edges) (length S.mesh.boundary) (λ q. world_at q points roots corners volumes ends lengths outline log')
            (Ok (record { particles = k.particles; triangles = k.triangles; edges = k.edges; boundary = k.boundary; log = n })) z (
              room_enough (as_rooms L) (need_behind S S.mesh (marks_of (kind_is kind) B S.mesh) (length S.mesh.edges) (length S.mesh.boundary)) (particles_in log' n X S e) (edges_in log' n X S e) (boundary_in log' n X S e)
                  (let d = log_long log' n X S e in omega (arith, d)),
              record { particles = Y.counts.particles; triangles = Y.counts.triangles; edges = Y.counts.edges; boundary = Y.counts.boundary; log = u },
              world_path (same_mesh log' n X S e) (words_are log' n X S e u),
            );
      }
