-- Whole coordinates stay whole through a cut, so that edition 2 takes its own results again; and edition 1 has no refusal of its own. Assumes nothing.
use mathlib.Core.Path.{◌≡◌, refl, sym, subst}
use mathlib.Core.Bool.{Bool, true, false, not, ◌&&◌}
use mathlib.Core.List.{List, [], ◌∷◌, map}
use Prim.Native.Nat.{ℕ, zero, suc, ◌-◌}
use native.Mathlib.Omega.{arith}
use lib.Dec.{eqb}
use lib.ListN.{get_or}
use lib.Ieee.{Float, le, lt, eq, of_int, to_signed}
use Rattle.lists.specs.Lists.{pick, fold, map_at_of, up_to, empty}
use Rattle.float.specs.Numbers.{abs_of}
use Rattle.exact.specs.Exact.{whole_of, whole?, whole_point_of}
use Rattle.model.specs.Mesh.{Particle, Mesh, blank}
use Rattle.model.specs.Elements.{Kind, Triangles, Straps, Nothing, straps?, at, place_of, kind_of}
use Rattle.model.specs.Run.{Entry, Rooms, Run, start, step_to, splits_of}
use Rattle.model.specs.Split.{Opening, opening_of, splits?, portion, only_at, copied, at_longest, settled, split_made, split_step, split_by_sides_of}
use Rattle.model.specs.Cut.{Line, Blade, split_by_blade, split_free, pinched, split_pinched_of, candidates, cut_facets_of, marked_by, cut_along, cut}
use Rattle.model.specs.Calls.{blade_ok, fraction_ok, triangles_lent, refusal, whole_mesh, whole_line, edition_refusal, blade_of, first_of, cut_refusal, done, cut_call}
use Rattle.model.specs.Trace.{All}
use Rattle.model_laws.proofs.Laws.{false_true, pick_both, all_at, all_append, all_map_at, all_map, all_yes, all_from, all_to}
use Rattle.model_laws.proofs.Kept.{cut_no_refusal, unless_done, outcome_done}
use Rattle.lists.proofs.Sifts.{and_true}

-- ---- places

-- a particle at a whole place
abbrev WholeAt : Particle → Type 0
WholeAt p = whole_point_of (at p) ≡ true

all_whole : (M : Mesh) → whole_mesh M ≡ true → All WholeAt M.particles
unfolding whole_mesh
all_whole M e = all_from (λ (p : Particle). whole_point_of (at p)) WholeAt (λ p u. u) M.particles e

whole_all : (M : Mesh) → All WholeAt M.particles → whole_mesh M ≡ true
unfolding whole_mesh
whole_all M h = all_to (λ (p : Particle). whole_point_of (at p)) WholeAt (λ p u. u) M.particles h

blank_whole : WholeAt blank
unfolding whole? whole_of to_signed of_int le lt eq abs_of
blank_whole = refl

-- every place that is read is whole, also past the end of the list
pub place_whole : (M : Mesh) → whole_mesh M ≡ true → (v : ℕ) → whole_point_of (place_of M v) ≡ true
unfolding place_of
place_whole M e v = all_at WholeAt M.particles v blank blank_whole (all_whole M e)

-- ---- the steps of a run

-- a copy stands where its source stands
copied_whole : (O : Opening) (ps : List Particle) → All WholeAt ps → All WholeAt (copied O ps)
unfolding copied portion
copied_whole O ps h =
    all_append WholeAt (map_at_of (only_at O.v (portion O 0)) ps) (map (λ g. portion O (suc g) (get_or ps O.v blank)) (up_to (O.count - 1)))
    (all_map_at WholeAt WholeAt (only_at O.v (portion O 0)) (λ i p u. pick_both WholeAt (eqb i O.v) (portion O 0 p) p u u) ps h)
    (all_map (λ g. Unit {0}) WholeAt (λ g. portion O (suc g) (get_or ps O.v blank)) (λ g u. all_at WholeAt ps O.v blank blank_whole h) (up_to (O.count - 1))
    (all_yes (λ g. Unit {0}) (λ g. tt) (up_to (O.count - 1))))

-- a run whose places are whole
abbrev pub WholeRun : Run → Type 0
WholeRun R = whole_mesh R.mesh ≡ true

-- a split keeps them so
pub sides_whole : (k : Kind) (v : ℕ) (sides : List ℕ) (R : Run) → WholeRun R → WholeRun (split_by_sides_of k v sides R)
unfolding split_by_sides_of split_step split_made step_to settled at_longest
sides_whole k v sides R e =
    let O = opening_of k R.mesh v sides in
    pick_both WholeRun (splits? O R.mesh) (split_made [] (λ M. M) k O R) R (whole_all _ (copied_whole O R.mesh.particles (all_whole R.mesh e))) e

pub fold_whole : {A : Type 0} (g : Run → A → Run) → ((R : Run) (a : A) → WholeRun R → WholeRun (g R a)) → (R : Run) (l : List A) → WholeRun R → WholeRun (fold g R l)
unfolding fold
fold_whole g k R [] e = e
fold_whole g k R (a ∷ l) e = fold_whole g k (g R a) l (k R a e)

facets_whole : (B : Blade) (R : Run) → WholeRun R → WholeRun (cut_facets_of B R)
unfolding cut_facets_of split_by_blade split_pinched_of split_free
facets_whole B R e =
    let S = fold (split_by_blade Triangles B) R (candidates B R.mesh) in
    let w = fold_whole (split_by_blade Triangles B) (λ Q v u. sides_whole Triangles v _ Q u) R (candidates B R.mesh) e in
    pick_both WholeRun (empty (splits_of S.log)) S (split_pinched_of Triangles S) w (fold_whole (split_free Triangles) (λ Q v u. sides_whole Triangles v _ Q u) S (pinched Triangles S) w)

-- a cut of anything but straps, by any rule, keeps the places whole
pub cut_whole : (k : Kind) (B : Blade) (f : Float) (R : Run) → straps? k ≡ false → WholeRun R → WholeRun (cut k B f R)
unfolding cut cut_along marked_by step_to
cut_whole Triangles B f R s e = facets_whole B (marked_by Triangles B R) e
cut_whole Straps B f R s e = absurd (false_true (sym s))
cut_whole Nothing B f R s e = e

-- ---- the calls

-- edition 2 is not refused by 11 nor by 12: positions and line are whole, and there are no straps
pub record Exactable (M : Mesh) (B : Line) : Type 0 where
  pub mesh : whole_mesh M ≡ true
  pub line : whole_line B ≡ true
  pub kind : straps? (kind_of M) ≡ false

pub exactable : (M : Mesh) (B : Line) → edition_refusal 2 M B ≡ 0 → Exactable M B
exactable M B e = by (straps? (kind_of M)) refl (and_true (whole_mesh M) (whole_line B) (whole (whole_mesh M && whole_line B) (straps? (kind_of M)) e))
  where
    whole : (b s : Bool) → ◌≡◌ {A = ℕ} (pick (not b) 11 (pick s 12 0)) 0 → b ≡ true
    whole true s d = refl
    whole false s d = absurd (omega arith)

    none : (b s : Bool) → b ≡ true → s ≡ true → ◌≡◌ {A = ℕ} (pick (not b) 11 (pick s 12 0)) 0 → ⊥
    none true true p q d = omega arith
    none true false p q d = false_true q
    none false s p q d = false_true p

    by : (s : Bool) → straps? (kind_of M) ≡ s → (whole_mesh M ≡ true) × (whole_line B ≡ true) → Exactable M B
    by false d w = record { mesh = w.0; line = w.1; kind = d }
    by true d w = absurd (none (whole_mesh M && whole_line B) (straps? (kind_of M)) (whole (whole_mesh M && whole_line B) (straps? (kind_of M)) e) d e)

-- What edition 2 gives has whole coordinates: it is not refused 11 when it is cut again.
pub whole_kept : (sized : Bool) (M : Mesh) (B : Line) (f : Float) (L : Rooms) (M' : Mesh) (l : List Entry) (c : Bool) → cut_call sized M 2 B f L ≡ done M' l c → whole_mesh M' ≡ true
unfolding cut_call start
whole_kept sized M B f L M' l c e =
    let u = unless_done (cut_refusal sized M 2 B f L) _ M' l c e in
    let X = exactable M B (cut_no_refusal sized M 2 B f L u.0).1 in
    let d = outcome_done L (cut (kind_of M) (blade_of 2 B) f (start M)) M' l c u.1 in
    subst (λ (N : Mesh). whole_mesh N ≡ true) d.0 (cut_whole (kind_of M) (blade_of 2 B) f (start M) X.kind X.mesh)

first_alone : (n : ℕ) → first_of n 0 ≡ n
first_alone zero = refl
first_alone (suc n) = refl

-- Edition 1 is refused by 1 to 4 as it was before there were editions.
pub edition_first : (sized : Bool) (M : Mesh) (B : Line) (f : Float) (L : Rooms) → cut_refusal sized M 1 B f L ≡ refusal sized M (blade_ok B) (fraction_ok f && triangles_lent L M)
edition_first sized M B f L = first_alone (refusal sized M (blade_ok B) (fraction_ok f && triangles_lent L M))
