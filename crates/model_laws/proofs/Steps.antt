-- A run only goes on: each operation appends to the needs and to the log. So a step that doesn't fit decides the answer, whatever comes behind it. Assumes nothing.
use mathlib.Core.Path.{◌≡◌, refl, sym, ◌∙◌, ap}
use mathlib.Core.Bool.{Bool, true, false}
use mathlib.Core.List.{List, [], ◌∷◌, ◌++◌, append_assoc, append-nil}
use mathlib.Core.Option.{Option, none as nothing, some}
use Prim.Native.Nat.{ℕ, zero, suc}
use native.Mathlib.Omega.{arith}
use borrow.Author.Tests.{ne_eqb}
use lib.Dec.{eqb}
use lib.Ieee.{Float}
use Rattle.lists.specs.Lists.{pick, fold, empty, rising}
use Rattle.model.specs.Mesh.{Mesh}
use Rattle.model.specs.Elements.{Kind, Triangles, Straps, Nothing}
use Rattle.model.specs.Run.{Entry, Need, Rooms, Run, step_to, splits_of}
use Rattle.model.specs.Split.{Opening, opening_of, splits?, split_made, split_step, split_by_sides_of}
use Rattle.model.specs.Pieces.{straddlers_gone, remove_straddlers_of}
use Rattle.model.specs.Cut.{Blade, roundly, split_by_blade, split_free, pinched, split_pinched_of, candidates, cut_facets_of, Crossing, crossings, insertable, insert_step, Strapping, strapping, inserted_at, snapped_at, crossed, unbent, split_snapped_of, after_crossings, cut_segments_of, marked_by, cut_along, cut}
use Rattle.model.specs.Crack.{Way, crack_by, crack_pair, crack_edge, current_pair, loads_of, torn_ends, crack}
use Rattle.model.specs.Calls.{too_small, first_fault, refused, fitted, outcome}

-- S is R with needs and log entries behind its own
pub record Onward (R S : Run) : Type 0 where
  pub more : List Need
  pub needs : S.needs ≡ R.needs ++ more
  pub entries : List Entry
  pub log : S.log ≡ R.log ++ entries

-- ---- the room

pick_fault : (t a : ℕ) (b : List Need) (L : Rooms) → pick (eqb t 0) (pick (eqb a 0) (first_fault L b) a) t ≡ pick (eqb (pick (eqb t 0) a t) 0) (first_fault L b) (pick (eqb t 0) a t)
pick_fault zero a b L = refl
pick_fault (suc t) a b L = let e = ne_eqb (suc t) 0 (λ d. omega arith) in rw (e, e)

-- of two lists of steps the first that doesn't fit is in the front, if there is one there
pub fault_front : (L : Rooms) (a b : List Need) → first_fault L (a ++ b) ≡ pick (eqb (first_fault L a) 0) (first_fault L b) (first_fault L a)
unfolding first_fault
fault_front L [] b = refl
fault_front L (N ∷ a) b = ap (λ x. pick (eqb (too_small L N) 0) x (too_small L N)) (fault_front L a b) ∙ pick_fault (too_small L N) (first_fault L a) b L

-- a run that lacks room lacks it whatever comes behind
pub fault_stays : (L : Rooms) (R S : Run) (n : ℕ) → Onward R S → first_fault L R.needs ≡ suc n → first_fault L S.needs ≡ suc n
fault_stays L R S n G e =
    ap (first_fault L) G.needs ∙ fault_front L R.needs G.more ∙ ap (λ x. pick (eqb x 0) (first_fault L G.more) x) e
    ∙ ap (λ t. pick t (first_fault L G.more) (suc n)) (ne_eqb (suc n) 0 (λ d. omega arith))

pub refused_early : (L : Rooms) (R S : Run) (n : ℕ) → Onward R S → first_fault L R.needs ≡ suc n → outcome L S ≡ refused (suc n)
unfolding outcome
refused_early L R S n G e = ap (λ x. fitted x S) (fault_stays L R S n G e)

-- ---- the ways of going on

pub onward_stay : (R : Run) → Onward R R
onward_stay R = record { more = []; needs = sym (append-nil R.needs); entries = []; log = sym (append-nil R.log) }

pub onward_then : {R S T : Run} → Onward R S → Onward S T → Onward R T
onward_then {R} {S} {T} A B =
    record {
      more = A.more ++ B.more;
      needs = B.needs ∙ ap (λ (l : List Need). l ++ B.more) A.needs ∙ append_assoc R.needs A.more B.more;
      entries = A.entries ++ B.entries;
      log = B.log ∙ ap (λ (l : List Entry). l ++ B.entries) A.log ∙ append_assoc R.log A.entries B.entries;
    }

pub onward_step : (R : Run) (M : Mesh) (l : List Entry) (e b : ℕ) → Onward R (step_to R M l e b)
unfolding step_to
onward_step R M l e b = record { more = _; needs = refl; entries = l; log = refl }

pub onward_fold : {A : Type 0} (g : Run → A → Run) → ((R : Run) (a : A) → Onward R (g R a)) → (R : Run) (l : List A) → Onward R (fold g R l)
unfolding fold
onward_fold g k R [] = onward_stay R
onward_fold g k R (a ∷ l) = onward_then (k R a) (onward_fold g k (g R a) l)

pub onward_pick : (b : Bool) (R S T : Run) → Onward R S → Onward R T → Onward R (pick b S T)
onward_pick true R S T A B = A
onward_pick false R S T A B = B

-- ---- the operations

pub split_onward : (more : List Entry) (f : Mesh → Mesh) (k : Kind) (O : Opening) (R : Run) → Onward R (split_step more f k O R)
unfolding split_step split_made
split_onward more f k O R = onward_pick (splits? O R.mesh) R (split_made more f k O R) R (onward_step R _ _ _ _) (onward_stay R)

pub sides_onward : (k : Kind) (v : ℕ) (sides : List ℕ) (R : Run) → Onward R (split_by_sides_of k v sides R)
unfolding split_by_sides_of
sides_onward k v sides R = split_onward [] (λ M. M) k (opening_of k R.mesh v sides) R

pub straddlers_onward : (k : Kind) (R : Run) → Onward R (remove_straddlers_of k R)
unfolding remove_straddlers_of straddlers_gone
straddlers_onward Triangles R = onward_step R _ _ _ _
straddlers_onward Straps R = onward_step R _ _ _ _
straddlers_onward Nothing R = onward_stay R

pub pinched_onward : (k : Kind) (R : Run) → Onward R (split_pinched_of k R)
unfolding split_pinched_of split_free
pinched_onward Triangles R = onward_fold (split_free Triangles) (λ S v. sides_onward Triangles v _ S) R (pinched Triangles R)
pinched_onward Straps R = onward_stay R
pinched_onward Nothing R = onward_stay R

facets_onward : (B : Blade) (R : Run) → Onward R (cut_facets_of B R)
unfolding cut_facets_of split_by_blade
facets_onward B R =
    let S = fold (split_by_blade Triangles B) R (candidates B R.mesh) in
    let G = onward_fold (split_by_blade Triangles B) (λ Q v. sides_onward Triangles v _ Q) R (candidates B R.mesh) in
    onward_pick (empty (splits_of S.log)) R S (split_pinched_of Triangles S) G (onward_then G (pinched_onward Triangles S))

-- the run of a strap cut at work
unfoldable pub run_of : Strapping → Run
run_of (strapping R marked snapped) = R

pub crossed_onward : (f : Float) (S : Strapping) (c : Crossing) → Onward (run_of S) (run_of (crossed f S c))
unfolding crossed inserted_at insert_step snapped_at run_of
crossed_onward f (strapping R marked snapped) c = by (insertable f R.mesh c)
  where
    by : (b : Bool) → Onward R (run_of (pick b (inserted_at f R marked snapped c) (snapped_at R marked snapped c)))
    by true = onward_step R _ _ _ _
    by false = onward_stay R

pub crossings_onward : (f : Float) (S : Strapping) (l : List Crossing) → Onward (run_of S) (run_of (fold (crossed f) S l))
unfolding fold
crossings_onward f S [] = onward_stay (run_of S)
crossings_onward f S (c ∷ l) = onward_then (crossed_onward f S c) (crossings_onward f (crossed f S c) l)

pub unbent_onward : (is : List ℕ) (R : Run) → Onward R (unbent is R)
unfolding unbent
unbent_onward [] R = onward_stay R
unbent_onward (i ∷ is) R = onward_step R _ _ _ _

pub snapped_onward : (B : Blade) (R : Run) (v : ℕ) → Onward R (split_snapped_of B R v)
unfolding split_snapped_of
snapped_onward B R v = split_onward _ _ Straps _ R

after_onward : (B : Blade) (S : Strapping) → Onward (run_of S) (after_crossings B S)
unfolding after_crossings run_of
after_onward B (strapping R marked snapped) = onward_then (unbent_onward marked R) (onward_fold (split_snapped_of B) (snapped_onward B) (unbent marked R) (rising _ snapped))

pub along_onward : (k : Kind) (B : Blade) (f : Float) (R : Run) → Onward R (cut_along k B f R)
unfolding cut_along cut_segments_of run_of
along_onward Triangles B f R = facets_onward B R
along_onward Straps B f R = onward_then (crossings_onward f (strapping R [] []) (crossings (roundly B) R.mesh)) (after_onward (roundly B) _)
along_onward Nothing B f R = onward_stay R

pub marked_onward : (k : Kind) (B : Blade) (R : Run) → Onward R (marked_by k B R)
unfolding marked_by
marked_onward k B R = onward_step R _ _ _ _

pub cut_onward : (k : Kind) (B : Blade) (f : Float) (R : Run) → Onward R (cut k B f R)
unfolding cut
cut_onward k B f R = onward_then (marked_onward k B R) (along_onward k B f (marked_by k B R))

by_onward : (k : Kind) (o : Option Way) (ab xy : ℕ × ℕ) (R : Run) → Onward R (crack_by k o ab xy R)
unfolding crack_by
by_onward k nothing ab xy R = onward_stay R
by_onward k (some w) ab xy R = split_onward _ _ k w.opening R

pair_onward : (k : Kind) (loads : List Float) (min : ℕ) (ab : ℕ × ℕ) (o : Option (ℕ × ℕ)) (R : Run) → Onward R (crack_pair k loads min ab o R)
unfolding crack_pair
pair_onward k loads min ab nothing R = onward_stay R
pair_onward k loads min ab (some xy) R = by_onward k _ ab xy R

pub edge_onward : (k : Kind) (loads : List Float) (min : ℕ) (R : Run) (ab : ℕ × ℕ) → Onward R (crack_edge k loads min R ab)
unfolding crack_edge
edge_onward k loads min R ab = pair_onward k _ min ab (current_pair k R ab) R

pub crack_onward : (k : Kind) (min : ℕ) (is : List ℕ) (R : Run) → Onward R (crack k min is R)
unfolding crack
crack_onward k min is R =
    let S = fold (crack_edge k (loads_of k R.mesh) min) R (torn_ends R.mesh is) in
    let G = onward_fold (crack_edge k (loads_of k R.mesh) min) (edge_onward k (loads_of k R.mesh) min) R (torn_ends R.mesh is) in
    onward_pick (empty (splits_of S.log)) R S (remove_straddlers_of k (split_pinched_of k S)) G (onward_then G (onward_then (pinched_onward k S) (straddlers_onward k (split_pinched_of k S))))
