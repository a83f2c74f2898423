-- Laws of the bend edges that a strap cut marks: each is an edge that is there, and stays one when others are appended. Assumes nothing.
use Prim.Native.Nat.{ℕ, suc, ◌<◌}
use native.Mathlib.Omega.{arith}
use mathlib.Core.Path.{◌≡◌, subst}
use mathlib.Core.Bool.{Bool, true, false}
use mathlib.Core.List.{List, [], ◌∷◌, ◌++◌}
use lib.ListN.{length}
use lib.Ieee.{Float}
use Rattle.lists.specs.Lists.{pick, stands, fold, each, map_at_of}
use Rattle.lists.proofs.Sifts.{stands_get}
use Rattle.model.specs.Mesh.{Edge, Mesh}
use Rattle.model.specs.Trace.{All}
use Rattle.model.specs.Run.{Run, step_to}
use Rattle.model.specs.Cut.{Crossing, insertion_of, insertable, side_along, bends, numbers_of, bends_over, inserted_mesh, insert_step, Strapping, inserted_at, snapped_at, crossed, strapping}
use Rattle.model_laws.proofs.Laws.{all_over, all_append, all_in}
use Rattle.crossing.specs.Crossed.{ran_of, bends_of}
use Rattle.insert.proofs.StepLaws.{edges_need}

-- the numbers that a test of the edges leaves, each put through h
numbers_inside : (p : Edge → Bool) (n : ℕ) (h : ℕ → ℕ) (es : List Edge) → ((i : ℕ) → i < length es → h i < n)
    → All (λ (j : ℕ). j < n) (each (λ (l : List ℕ). l) (map_at_of (λ i e. pick (p e) (h i ∷ []) []) es))
unfolding each map_at_of
numbers_inside p n h [] k = tt
numbers_inside p n h (e ∷ es) k =
    all_append (λ (j : ℕ). j < n) (pick (p e) (h 0 ∷ []) []) _ (by (p e)) (numbers_inside p n (λ i. h (suc i)) es (λ i l. k (suc i) (omega arith)))
  where
    by : (b : Bool) → All (λ (j : ℕ). j < n) (pick b (h 0 ∷ []) [])
    by true = (k 0 (omega arith), tt)
    by false = tt

bends_inside : (M : Mesh) (a b : ℕ) → All (λ (j : ℕ). j < length M.edges) (bends_over M a b)
unfolding bends_over numbers_of
bends_inside M a b = numbers_inside (bends (side_along M a b) (side_along M b a)) (length M.edges) (λ i. i) M.edges (λ i l. l)

-- the marked edges of a strap cut are there
abbrev Marked : Strapping → Type 0
Marked S = All (λ (j : ℕ). j < length (ran_of S).mesh.edges) (bends_of S)

inserted_marked : (f : Float) (R : Run) (bends snapped : List ℕ) (c : Crossing) → All (λ (j : ℕ). j < length R.mesh.edges) bends → Marked (inserted_at f R bends snapped c)
unfolding inserted_at insert_step step_to inserted_mesh
inserted_marked f R bends snapped c h =
    let I = insertion_of f R.mesh c in
    let more = edges_need I R.mesh.edges in
    all_over (λ (j : ℕ). j < length R.mesh.edges) _ (λ j l. omega (arith, more, l)) (bends ++ bends_over R.mesh I.edge.a I.edge.b)
    (all_append (λ (j : ℕ). j < length R.mesh.edges) bends _ h (bends_inside R.mesh I.edge.a I.edge.b))

crossed_marked : (f : Float) (S : Strapping) (c : Crossing) → Marked S → Marked (crossed f S c)
unfolding crossed snapped_at
crossed_marked f (strapping R bends snapped) c h = by (insertable f R.mesh c)
  where
    by : (b : Bool) → Marked (pick b (inserted_at f R bends snapped c) (snapped_at R bends snapped c))
    by true = inserted_marked f R bends snapped c h
    by false = h

all_crossed : (f : Float) (S : Strapping) (cs : List Crossing) → Marked S → Marked (fold (crossed f) S cs)
unfolding fold
all_crossed f S [] h = h
all_crossed f S (c ∷ cs) h = all_crossed f (crossed f S c) cs (crossed_marked f S c h)

-- a cut that begins with no marks marks only edges that are there
pub marked_there : (f : Float) (R : Run) (cs : List Crossing) (j : ℕ) → stands j (bends_of (fold (crossed f) (strapping R [] []) cs)) ≡ true → j < length (ran_of (fold (crossed f) (strapping R [] []) cs)).mesh.edges
marked_there f R cs j e =
    let S = fold (crossed f) (strapping R [] []) cs in
    let at = stands_get j (bends_of S) e in
    subst (λ (x : ℕ). x < length (ran_of S).mesh.edges) at.1.1 (all_in (λ (x : ℕ). x < length (ran_of S).mesh.edges) (bends_of S) at.0 0 at.1.0 (all_crossed f (strapping R [] []) cs tt))
