-- A mesh of nothing, where fans are empty: a call that no refusal number stops leaves it unchanged. Assumes nothing.
use mathlib.Core.Path.{◌≡◌, refl, sym, ◌∙◌, ap, subst}
use mathlib.Core.Bool.{Bool, true, false, ◌&&◌}
use mathlib.Core.List.{List, [], ◌∷◌}
use mathlib.Core.Option.{Option, none as nothing, some}
use Prim.Native.Nat.{ℕ}
use native.Mathlib.Omega.{arith}
use lib.Ieee.{Float, ne}
use Rattle.lists.specs.Lists.{pick, any, sift, find, fold, each, empty}
use Rattle.float.specs.Numbers.{zero32}
use Rattle.model.specs.Mesh.{Mesh}
use Rattle.model.specs.Elements.{Kind, Nothing, particle, kind_of, elements_of, fan_of}
use Rattle.model.specs.Run.{Entry, Rooms, Run, start, step_to, splits_of, changed}
use Rattle.model.specs.Split.{opening_of, split_by_sides_of}
use Rattle.model.specs.Pieces.{remove_straddlers_of}
use Rattle.model.specs.Cut.{Blade, marks_of, marked_by, cut_along, cut, split_pinched_of, Line}
use Rattle.model.specs.Crack.{mean_load, two_sided_of, way_at, ways_of, crack_by, crack_pair, crack_edge, current_pair, loads_of, torn_ends, crack}
use Rattle.model.specs.Calls.{sides_ok, triangles_lent, refusal, done, outcome, cut_call, crack_call, split_call, straddlers_call, blade_of, cut_refusal}
use Rattle.model_laws.proofs.Splitting.{Sided, sides_accepted, one_element_stays}
use Rattle.model_laws.proofs.Kept.{no_refusal, unless_done, outcome_done}
use Rattle.lists.proofs.Sifts.{and_true}

-- ---- no crack and no split

no_sides : (b : Bool) → (b && false && false) ≡ false
no_sides true = refl
no_sides false = refl

pick_no : {A : Type 0} (b : Bool) (x y : A) → b ≡ false → pick b x y ≡ y
pick_no true x y e = absurd (let z : ◌≡◌ {A = ℕ} 0 1 = cc in omega arith)
pick_no false x y e = refl

no_way : (loads : List Float) (M : Mesh) (v w : ℕ) → way_at Nothing loads M v w ≡ []
unfolding way_at two_sided_of fan_of elements_of sift
no_way loads M v w = pick_no (two_sided_of M v []) (record { load = mean_load Nothing loads M v w; opening = opening_of Nothing M v [] } ∷ []) [] (no_sides (ne (particle M v).inv zero32))

pair_stays : (loads : List Float) (min : ℕ) (ab : ℕ × ℕ) (o : Option (ℕ × ℕ)) (R : Run) → crack_pair Nothing loads min ab o R ≡ R
unfolding crack_pair ways_of find crack_by
pair_stays loads min ab nothing R = refl
pair_stays loads min ab (some xy) R = rw (no_way loads R.mesh xy.0 xy.1, no_way loads R.mesh xy.1 xy.0)

fold_stays : {A : Type 0} (g : Run → A → Run) → ((R : Run) (a : A) → g R a ≡ R) → (R : Run) (l : List A) → fold g R l ≡ R
unfolding fold
fold_stays g k R [] = refl
fold_stays g k R (a ∷ l) = fold_stays g k (g R a) l ∙ k R a

pick_empty : (S : Run) (T : Run → Run) (M : Mesh) → S ≡ start M → pick (empty (splits_of S.log)) S (T S) ≡ start M
unfolding start splits_of each
pick_empty S T M e = ap (λ (Q : Run). pick (empty (splits_of Q.log)) Q (T Q)) e

crack_stays : (M : Mesh) (min : ℕ) (is : List ℕ) → crack Nothing min is (start M) ≡ start M
unfolding crack crack_edge
crack_stays M min is =
    let R = start M in
    pick_empty (fold (crack_edge Nothing (loads_of Nothing R.mesh) min) R (torn_ends R.mesh is)) (λ S. remove_straddlers_of Nothing (split_pinched_of Nothing S)) M
    (fold_stays (crack_edge Nothing (loads_of Nothing R.mesh) min) (λ S ab. pair_stays _ min ab (current_pair Nothing S ab) S) R (torn_ends R.mesh is))

split_stays : (M : Mesh) (v : ℕ) (sides : List ℕ) → Sided Nothing M v sides → split_by_sides_of Nothing v sides (start M) ≡ start M
unfolding start fan_of elements_of sift
split_stays M v sides S = one_element_stays Nothing v sides (start M) S (omega arith)

-- ---- the calls

-- the mesh as it was given, an empty log, nothing split or inserted
pub record Unchanged (M M' : Mesh) (l : List Entry) (c : Bool) : Type 0 where
  pub mesh : M' ≡ M
  pub log : l ≡ []
  pub says : c ≡ false

run_stays : (M : Mesh) (L : Rooms) (R : Run) (M' : Mesh) (l : List Entry) (c : Bool) → R ≡ start M → outcome L R ≡ done M' l c → Unchanged M M' l c
unfolding start changed any
run_stays M L R M' l c e d =
    let u = outcome_done L (start M) M' l c (subst (λ (Q : Run). outcome L Q ≡ done M' l c) e d) in
    record { mesh = sym u.0; log = sym u.1; says = sym u.2 }

-- a cut finds no crossing to mark
cut_stays : (M : Mesh) (B : Blade) (f : Float) (L : Rooms) (M' : Mesh) (l : List Entry) (c : Bool) → outcome L (cut Nothing B f (start M)) ≡ done M' l c → Unchanged M M' l c
unfolding cut cut_along marked_by marks_of elements_of each start step_to changed any
cut_stays M B f L M' l c d =
    let u = outcome_done L (cut Nothing B f (start M)) M' l c d in
    record { mesh = sym u.0; log = sym u.1; says = sym u.2 }

pub nothing_cut : (sized : Bool) (M : Mesh) (n : ℕ) (B : Line) (f : Float) (L : Rooms) (M' : Mesh) (l : List Entry) (c : Bool)
    → kind_of M ≡ Nothing → cut_call sized M n B f L ≡ done M' l c → Unchanged M M' l c
unfolding cut_call
nothing_cut sized M n B f L M' l c k e =
    cut_stays M (blade_of n B) f L M' l c
    (subst (λ (q : Kind). outcome L (cut q (blade_of n B) f (start M)) ≡ done M' l c) k
    (unless_done (cut_refusal sized M n B f L) (outcome L (cut (kind_of M) (blade_of n B) f (start M))) M' l c e).1)

pub nothing_crack : (sized : Bool) (M : Mesh) (is : List ℕ) (min : ℕ) (L : Rooms) (M' : Mesh) (l : List Entry) (c : Bool)
    → kind_of M ≡ Nothing → crack_call sized M is min L ≡ done M' l c → Unchanged M M' l c
unfolding crack_call
nothing_crack sized M is min L M' l c k e =
    run_stays M L (crack (kind_of M) min is (start M)) M' l c (ap (λ (q : Kind). crack q min is (start M)) k ∙ crack_stays M min is)
    (unless_done (refusal sized M true (triangles_lent L M)) (outcome L (crack (kind_of M) min is (start M))) M' l c e).1

pub nothing_split : (sized : Bool) (M : Mesh) (v : ℕ) (sides : List ℕ) (L : Rooms) (M' : Mesh) (l : List Entry) (c : Bool)
    → kind_of M ≡ Nothing → split_call sized M v sides L ≡ done M' l c → Unchanged M M' l c
unfolding split_call
nothing_split sized M v sides L M' l c k e =
    let u = unless_done _ _ M' l c e in
    let P = no_refusal sized M true (sides_ok M v sides && triangles_lent L M) u.0 in
    let S = subst (λ (q : Kind). Sided q M v sides) k (sides_accepted M v sides (and_true _ _ P.given).0) in
    run_stays M L (split_by_sides_of (kind_of M) v sides (start M)) M' l c (ap (λ (q : Kind). split_by_sides_of q v sides (start M)) k ∙ split_stays M v sides S) u.1

pub nothing_straddlers : (sized : Bool) (M : Mesh) (L : Rooms) (M' : Mesh) (l : List Entry) (c : Bool)
    → kind_of M ≡ Nothing → straddlers_call sized M L ≡ done M' l c → Unchanged M M' l c
unfolding straddlers_call remove_straddlers_of
nothing_straddlers sized M L M' l c k e =
    run_stays M L (remove_straddlers_of (kind_of M) (start M)) M' l c (ap (λ (q : Kind). remove_straddlers_of q (start M)) k)
    (unless_done (refusal sized M true (triangles_lent L M)) (outcome L (remove_straddlers_of (kind_of M) (start M))) M' l c e).1
