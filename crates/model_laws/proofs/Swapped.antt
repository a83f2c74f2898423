-- Edition 2 cuts alike along a line and along the same line drawn the other way: `swap_same` of the run, `swap_call` of the whole call. Assumes nothing.
use mathlib.Core.Path.{◌≡◌, refl, sym, ◌∙◌, ap, ap₂}
use mathlib.Core.Bool.{Bool, true, false, not, ◌&&◌}
use mathlib.Core.List.{List, [], ◌∷◌, ◌++◌, map}
use Prim.Native.Nat.{ℕ, zero, suc}
use lib.ListN.{length, length-map}
use lib.Ieee.{Float}
use Rattle.lists.specs.Lists.{pick, fold, each, pairs, empty, rising}
use Rattle.blade.specs.declared.Point.{Point}
use Rattle.blade.specs.declared.Hit.TheVariants.{Miss, Hit as HitAt}
use Rattle.exact.specs.declared.Sign.{Sign}
use Rattle.exact.specs.Exact.{whole_point_of, side_by, across, differ, crosses, rounded_at, exact_hit, kept_by_of, opposite}
use Rattle.exact.proofs.Swapped.{and_either, side_other, crosses_same, flip, sign_other, sum_other, kept_flipped, opposed_flipped, fold_ext}
use Rattle.model.specs.Mesh.{Mesh}
use Rattle.model.specs.Elements.{Kind, Triangles, Straps, Nothing, straps?, Element, place_of, kind_of, elements_of, fan_of}
use Rattle.model.specs.Run.{Entry, met, Rooms, Run, start, splits_of, changed}
use Rattle.model.specs.Split.{split_by_sides_of}
use Rattle.model.specs.Cut.{Line, Blade, hit?, meets, sides_of_signs, exact_sign, exact_middle, blade_sides, split_by_blade, split_pinched_of, if_met, candidates, cut_facets_of, mark_at, mark_of, marks_of, cut_along, cut}
use Rattle.model.specs.Calls.{point_ok, fraction_ok, triangles_lent, refusal, whole_mesh, whole_line, swapped, known, first_of, cut_refusal, first_fault, Outcome, refused, done, fitted, outcome, unless, cut_call}
use Rattle.model.specs.Swaps.{exactly, plain_mark, but_marks, SameButMarks}
use Rattle.model_laws.proofs.Laws.{false_true}
use Rattle.model_laws.proofs.Kept.{cut_no_refusal}
use Rattle.model_laws.proofs.Marks.{later, carried, copying, bare, tail, cut_is, carried_changed, marks_no_change}
use Rattle.model_laws.proofs.Turned.{hit_turned}
use Rattle.model_laws.proofs.Whole.{place_whole, exactable}
use Rattle.lists.proofs.Sifts.{and_true, each_ext}

-- ---- crossings

hit_of : (c : Bool) (t : Float) (p : Point) → hit? (pick c (HitAt t p) Miss) ≡ c
hit_of true t p = refl
hit_of false t p = refl

-- the same pairs are met
met_same : (B : Line) (M : Mesh) (xy : ℕ × ℕ) → if_met (exactly (swapped B)) M xy ≡ if_met (exactly B) M xy
unfolding meets exact_hit
met_same B M xy =
    ap (λ (b : Bool). pick b (xy.0 ∷ xy.1 ∷ []) [])
    (hit_of (crosses B.to B.from (place_of M xy.0) (place_of M xy.1)) _ _
    ∙ crosses_same B.from B.to (place_of M xy.0) (place_of M xy.1)
    ∙ sym (hit_of (crosses B.from B.to (place_of M xy.0) (place_of M xy.1)) _ _))

candidates_same : (B : Line) (M : Mesh) → candidates (exactly (swapped B)) M ≡ candidates (exactly B) M
unfolding candidates
candidates_same B M =
    ap (rising (length M.particles))
    (each_ext _ _ (λ (e : Element). each_ext (if_met (exactly (swapped B)) M) (if_met (exactly B) M) (met_same B M) (pairs e.corners)) (elements_of Triangles M))

-- ---- sides

middle_other : (B : Line) (M : Mesh) (e : Element) → exact_middle (exactly (swapped B)) M e ≡ flip (exact_middle (exactly B) M e)
middle_other B M e =
    sum_other (λ (v : ℕ). side_by B.to B.from (place_of M v)) (λ (v : ℕ). side_by B.from B.to (place_of M v)) (λ v. side_other B.from B.to (place_of M v)) e.corners

middles_other : (B : Line) (M : Mesh) (l : List Element) → map (exact_middle (exactly (swapped B)) M) l ≡ map flip (map (exact_middle (exactly B) M) l)
middles_other B M [] = refl
middles_other B M (e ∷ l) = ap₂ {C = List Sign} (λ x y. x ∷ y) (middle_other B M e) (middles_other B M l)

-- signs that are all turned round give the same sides
flipped_same : (own : Sign) (ms : List Sign) → sides_of_signs (flip own) (map flip ms) ≡ sides_of_signs own ms
flipped_same own ms = ap (λ (k : Sign). map {B = ℕ} (λ m. pick (opposite k m) 1 0) (map flip ms)) (kept_flipped own ms) ∙ opposed_flipped (λ (b : Bool). pick b 1 0) (kept_by_of own ms) ms

sides_same : (k : Kind) (B : Line) (M : Mesh) (v : ℕ) → blade_sides k (exactly (swapped B)) M v ≡ blade_sides k (exactly B) M v
unfolding blade_sides
sides_same k B M v =
    ap₂ {C = List ℕ} sides_of_signs (sign_other B.from B.to (place_of M v)) (middles_other B M (fan_of k M v))
    ∙ flipped_same (exact_sign (exactly B) M v) (map (exact_middle (exactly B) M) (fan_of k M v))

-- ---- the run

-- Along the line drawn the other way edition 2 is the same run: the same mesh, the same log, and the same room for each step, on every mesh, whole or not.
pub swap_same : (B : Line) (R : Run) → cut_facets_of (exactly (swapped B)) R ≡ cut_facets_of (exactly B) R
unfolding cut_facets_of split_by_blade
swap_same B R =
    let there = split_by_blade Triangles (exactly B) in
    let back = split_by_blade Triangles (exactly (swapped B)) in
    let e : fold back R (candidates (exactly (swapped B)) R.mesh) ≡ fold there R (candidates (exactly B) R.mesh)
    = ap (fold back R) (candidates_same B R.mesh)
    ∙ fold_ext back there (λ Q v. ap (λ (s : List ℕ). split_by_sides_of Triangles v s Q) (sides_same Triangles B Q.mesh v)) R (candidates (exactly B) R.mesh) in
    ap (λ (S : Run). pick (empty (splits_of S.log)) S (split_pinched_of Triangles S)) e

-- ---- the marks

map_append : {A B : Type 0} (f : A → B) (l m : List A) → map f (l ++ m) ≡ map f l ++ map f m
map_append f [] m = refl
map_append {A} {B} f (a ∷ l) m = ap (λ (r : List B). f a ∷ r) (map_append f l m)

map_each : {A B C : Type 0} (g : B → C) (f : A → List B) (l : List A) → map g (each f l) ≡ each (λ a. map g (f a)) l
unfolding each
map_each g f [] = refl
map_each {A} {B} {C} g f (a ∷ l) = map_append g (f a) (each f l) ∙ ap (λ (r : List C). map g (f a) ++ r) (map_each g f l)

-- the ends of a pair that is crossed are not equally far from the line
crossed_apart : (b0 b1 p q : Point) → crosses b0 b1 p q ≡ true → differ (side_by b0 b1 p) (side_by b0 b1 q) ≡ true
unfolding crosses
crossed_apart b0 b1 p q e =
    let x = across (side_by b0 b1 p) (side_by b0 b1 q) in
    let y = differ (side_by b0 b1 p) (side_by b0 b1 q) in
    (and_true x y (and_true (x && y) (across (side_by p q b0) (side_by p q b1)) e).0).1

-- along a whole line, on a whole mesh, a mark is the same but for the signs of its zeros
module _ (B : Line) (h0 : whole_point_of B.from ≡ true) (h1 : whole_point_of B.to ≡ true) (M : Mesh) (w : whole_mesh M ≡ true) where
  mark_same : (xy : ℕ × ℕ) → map plain_mark (mark_of (exactly (swapped B)) M xy) ≡ map plain_mark (mark_of (exactly B) M xy)
  unfolding meets exact_hit
  mark_same xy = ap (λ (c : Bool). map plain_mark (mark_at xy (pick c (rounded_at B.to B.from p q) Miss))) (crosses_same B.from B.to p q) ∙ by (crosses B.from B.to p q) refl
    where
      p : Point
      p = place_of M xy.0

      q : Point
      q = place_of M xy.1

      by : (c : Bool) → crosses B.from B.to p q ≡ c → map plain_mark (mark_at xy (pick c (rounded_at B.to B.from p q) Miss)) ≡ map plain_mark (mark_at xy (pick c (rounded_at B.from B.to p q) Miss))
      by true e = ap (λ (pt : Point × Float). met xy.0 xy.1 pt.0 pt.1 ∷ []) (hit_turned B.from B.to p q h0 h1 (place_whole M w xy.0) (place_whole M w xy.1) (crossed_apart B.from B.to p q e))
      by false e = refl

  -- the marks are as many, and name the same pairs in the same order, with the same numbers
  pub marks_same : (k : Kind) → map plain_mark (marks_of k (exactly (swapped B)) M) ≡ map plain_mark (marks_of k (exactly B) M)
  unfolding marks_of
  marks_same k =
      let marks : Blade → Element → List Entry = λ C e. each (mark_of C M) (pairs e.corners) in
      map_each plain_mark (marks (exactly (swapped B))) (elements_of k M)
      ∙ each_ext (λ (e : Element). map plain_mark (marks (exactly (swapped B)) e)) (λ (e : Element). map plain_mark (marks (exactly B) e))
      (λ e.
      map_each plain_mark (mark_of (exactly (swapped B)) M) (pairs e.corners)
      ∙ each_ext (λ xy. map plain_mark (mark_of (exactly (swapped B)) M xy)) (λ xy. map plain_mark (mark_of (exactly B) M xy)) mark_same (pairs e.corners)
      ∙ sym (map_each plain_mark (mark_of (exactly B) M) (pairs e.corners)))
      (elements_of k M)
      ∙ sym (map_each plain_mark (marks (exactly B)) (elements_of k M))

-- ---- the call

-- an answer of its parts
shown : ℕ → Mesh → List Entry → Bool → Outcome
shown zero M l c = done M l c
shown (suc n) M l c = refused (suc n)

shown_is : (n : ℕ) (R : Run) → but_marks (fitted n R) ≡ shown n R.mesh (map plain_mark R.log) (changed R)
unfolding shown
shown_is zero R = refl
shown_is (suc n) R = refl

-- a run behind the copy of the input and these marks
abbrev behind : Mesh → List Entry → Run → Run
behind M marks T = carried (copying M ∷ later (length marks) (copying M) ∷ []) marks T

-- its answer by the number of its marks, and by the marks without the signs of zeros
behind_is : (L : Rooms) (k : Kind) (B : Blade) (M : Mesh) (T : Run) → but_marks (outcome L (behind M (marks_of k B M) T))
    ≡ shown (first_fault L (copying M ∷ later (length (map plain_mark (marks_of k B M))) (copying M) ∷ map (later (length (map plain_mark (marks_of k B M)))) T.needs))
    T.mesh (map plain_mark (marks_of k B M) ++ map plain_mark T.log) (changed T)
unfolding outcome carried
behind_is L k B M T =
    let marks = marks_of k B M in
    let R = behind M marks T in
    shown_is (first_fault L R.needs) R
    ∙ ap (λ (c : Bool). shown (first_fault L R.needs) T.mesh (map plain_mark (marks ++ T.log)) c) (carried_changed (copying M ∷ later (length marks) (copying M) ∷ []) marks T (marks_no_change k B M))
    ∙ ap (λ (l : List Entry). shown (first_fault L R.needs) T.mesh l (changed T)) (map_append plain_mark marks T.log)
    ∙ ap (λ (n : ℕ). shown (first_fault L (copying M ∷ later n (copying M) ∷ map (later n) T.needs)) T.mesh (map plain_mark marks ++ map plain_mark T.log) (changed T)) (sym (length-map marks plain_mark))

-- the runs behind the marks are the same, where there are no straps
tail_same : (k : Kind) (B : Line) (f : Float) (M : Mesh) → straps? k ≡ false → tail k (exactly (swapped B)) f M ≡ tail k (exactly B) f M
unfolding tail cut_along
tail_same Triangles B f M s = swap_same B (bare M)
tail_same Straps B f M s = absurd (false_true (sym s))
tail_same Nothing B f M s = refl

runs_same : (L : Rooms) (k : Kind) (B : Line) (f : Float) (M : Mesh) → whole_mesh M ≡ true → whole_line B ≡ true → straps? k ≡ false
    → but_marks (outcome L (cut k (exactly (swapped B)) f (start M))) ≡ but_marks (outcome L (cut k (exactly B) f (start M)))
runs_same L k B f M w l s =
    let ends = and_true (whole_point_of B.from) (whole_point_of B.to) l in
    let T = tail k (exactly B) f M in
    let answer : List Entry → Outcome = λ ms.
    shown (first_fault L (copying M ∷ later (length ms) (copying M) ∷ map (later (length ms)) T.needs)) T.mesh (ms ++ map plain_mark T.log) (changed T) in
    ap (λ (R : Run). but_marks (outcome L R)) (cut_is k (exactly (swapped B)) f M)
    ∙ ap (λ (Q : Run). but_marks (outcome L (behind M (marks_of k (exactly (swapped B)) M) Q))) (tail_same k B f M s)
    ∙ behind_is L k (exactly (swapped B)) M T
    ∙ ap answer (marks_same B ends.0 ends.1 M w k)
    ∙ sym (behind_is L k (exactly B) M T)
    ∙ sym (ap (λ (R : Run). but_marks (outcome L R)) (cut_is k (exactly B) f M))

-- what refuses before the steps asks both ends the same
refusal_same : (sized : Bool) (M : Mesh) (B : Line) (f : Float) (L : Rooms) → cut_refusal sized M 2 (swapped B) f L ≡ cut_refusal sized M 2 B f L
refusal_same sized M B f L =
    ap₂ {C = ℕ} (λ (b w : Bool). first_of (refusal sized M b (known 2 && fraction_ok f && triangles_lent L M)) (pick (not (whole_mesh M && w)) 11 (pick (straps? (kind_of M)) 12 0)))
    (and_either (point_ok B.to) (point_ok B.from)) (and_either (whole_point_of B.to) (whole_point_of B.from))

-- Left to right or right to left: the whole call of edition 2 answers the same, but for the signs of zeros in the marks.
pub swap_call : (sized : Bool) (M : Mesh) (B : Line) (f : Float) (L : Rooms) → SameButMarks (cut_call sized M 2 (swapped B) f L) (cut_call sized M 2 B f L)
unfolding cut_call
swap_call sized M B f L =
    ap (λ (n : ℕ). but_marks (unless n (outcome L (cut (kind_of M) (exactly (swapped B)) f (start M))))) (refusal_same sized M B f L) ∙ by (cut_refusal sized M 2 B f L) refl
  where
    by : (n : ℕ) → cut_refusal sized M 2 B f L ≡ n
        → but_marks (unless n (outcome L (cut (kind_of M) (exactly (swapped B)) f (start M)))) ≡ but_marks (unless n (outcome L (cut (kind_of M) (exactly B) f (start M))))
    by zero e = let X = exactable M B (cut_no_refusal sized M 2 B f L e).1 in runs_same L (kind_of M) B f M X.mesh X.line X.kind
    by (suc n) e = refl
