-- The answer for all groups, and that it is `opens_without_confetti_of` of the mesh whose elements the table holds. Assumes nothing.
use mathlib.Core.Path.{◌≡◌, refl, sym, ◌∙◌, ap}
use mathlib.Core.Bool.{Bool, true, false, false≢true}
use mathlib.Core.Logic.{⊎_elim}
use mathlib.Core.List.{List, [], ◌∷◌, map}
use Prim.Native.Nat.{ℕ, suc, ◌<◌, ◌≤◌}
use native.Mathlib.Omega.{arith}
use lib.Dec.{leb}
use lib.ListN.{length}
use Rattle.lists.specs.Lists.{pick, stands, all, up_to}
use Rattle.lists.specs.Labels.{labelled}
use Rattle.lists.proofs.Sifts.{tab_all, all_tab}
use Rattle.fan.specs.Groups.{groups_of, count_of}
use Rattle.model.specs.Mesh.{Triangle, Edge, Mesh}
use Rattle.model.specs.Elements.{Kind, Triangles, Straps, Nothing, Element, corners_per_of, structural?, strap_element, triangles_from, straps_from, elements_of, fan_of, grid_of}
use Rattle.model.specs.Split.{opening_of}
use Rattle.model.specs.Pieces.{reach_labels, reach_of, min_piece_of, opens_without_confetti_of}
use Rattle.elements.specs.Table.{elements_in, Cornered, holding}
use Rattle.reach.specs.Opens.{Numbered, opening_at, Opens}
use Rattle.reach.specs.Walk.{touching, holds_row, tally, seeds, reach_from, table_reach, Rows, Lent, marked, Seeded}
use Rattle.reach.proofs.Walks.{reach_ext}
use Rattle.reach.proofs.Tables.{reach_is, held_count}
use Rattle.model_laws.proofs.Laws.{stands_case}

-- what the walk of one group tells
pub group_tested : (n k v : ℕ) (verts groups : List ℕ) (g least : ℕ) {seen queue : List ℕ} {tail : ℕ} {r : Bool} → Seeded n (seeds k v verts groups g) seen queue tail
    → r ≡ leb least (reach_from (marked seen) n (labelled (touching k v verts) n)) → r ≡ leb least (table_reach n k v verts groups g)
unfolding table_reach
group_tested n k v verts groups g least {seen} S e =
    e ∙ ap (leb least) (reach_ext (marked seen) (seeds k v verts groups g) n (labelled (touching k v verts) n) S.marks)

-- the room stays where the lengths do
pub lent_at : {n k v : ℕ} {verts groups : List ℕ} {s q s' q' : ℕ} → s' ≡ s → q' ≡ q → Lent n k v verts groups s q → Lent n k v verts groups s' q'
lent_at a b L = record { rows = L.rows; seen_room = omega (arith, L.seen_room); queue_room = omega (arith, L.queue_room); grouped = L.grouped }

-- what a call asks, where a table holds these elements and there is a group for each that holds v
pub lent_by : {n k v : ℕ} {es : List Element} {verts groups : List ℕ} {s q : ℕ} → Cornered k es n verts → Rows n k (length verts) → n ≤ s → n ≤ q → length groups ≡ length (holding v es)
    → Lent n k v verts groups s q
lent_by {v = v} {groups = groups} C R s q e = record { rows = R; seen_room = s; queue_room = q; grouped = e ∙ held_count C v groups }

-- ---- all groups

-- a test of each number below n
all_false : (p : ℕ → Bool) (n g : ℕ) → g < n → p g ≡ false → all p (up_to n) ≡ false
unfolding up_to
all_false p n g l e = by (all p (up_to n)) refl
  where
    by : (t : Bool) → all p (up_to n) ≡ t → t ≡ false
    by true q = absurd (false≢true (sym e ∙ all_tab p n (λ k. k) q g l))
    by false q = refl

module _ (n k v : ℕ) (verts groups : List ℕ) (count minimum least : ℕ) (grouped : length groups ≡ tally (holds_row k v verts) n) (floor : least ≡ min_piece_of minimum) where
  at_elements : (es : List Element) (K : Kind) (before : ℕ) → Cornered k es n verts → Numbered es → corners_per_of K ≡ k → (g : ℕ)
      → leb (min_piece_of minimum) (reach_of es (reach_labels K v es) (opening_at v before es groups count) g) ≡ leb least (table_reach n k v verts groups g)
  at_elements es K before C N e g = rw (sym floor, sym (reach_is C v groups K e N grouped before count g))

  pub opens_yes : ((g : ℕ) → g < count → leb least (table_reach n k v verts groups g) ≡ true) → Opens n k v verts groups count minimum true
  unfolding up_to
  opens_yes f =
      record {
        right = λ es K before C N e.
            sym (tab_all (λ g. leb (min_piece_of minimum) (reach_of es (reach_labels K v es) (opening_at v before es groups count) g)) count (λ g. g) (λ g l. at_elements es K before C N e g ∙ f g l));
      }

  pub opens_no : (g : ℕ) → g < count → leb least (table_reach n k v verts groups g) ≡ false → Opens n k v verts groups count minimum false
  opens_no g l f =
      record {
        right = λ es K before C N e.
            sym (all_false (λ g. leb (min_piece_of minimum) (reach_of es (reach_labels K v es) (opening_at v before es groups count) g)) count g l (at_elements es K before C N e g ∙ f));
      }

-- ---- the elements of a mesh

not_there : (x : ℕ) (l : List ℕ) → (stands x l ≡ true → ⊥) → stands x l ≡ false
not_there x l f = by (stands x l) refl
  where
    by : (t : Bool) → stands x l ≡ t → t ≡ false
    by true e = absurd (f e)
    by false e = refl

-- no element has a number below the first, and none has another's
triangles_from_lem : (i : ℕ) (ts : List Triangle) (x : ℕ) → stands x (map (λ (e : Element). e.number) (triangles_from i ts)) ≡ true → i ≤ x
unfolding triangles_from
triangles_from_lem i [] x e = absurd (false≢true e)
triangles_from_lem i (t ∷ ts) x e =
    ⊎_elim (λ q. omega arith) (λ z. let h = triangles_from_lem (suc i) ts x z in omega arith) (stands_case x i (map (λ (e : Element). e.number) (triangles_from (suc i) ts)) e)

triangles_numbered : (i : ℕ) (ts : List Triangle) → Numbered (triangles_from i ts)
unfolding triangles_from
triangles_numbered i [] = tt
triangles_numbered i (t ∷ ts) = (not_there i (map (λ (e : Element). e.number) (triangles_from (suc i) ts)) (λ e. let h = triangles_from_lem (suc i) ts i e in omega arith), triangles_numbered (suc i) ts)

straps_by : (i : ℕ) (a : Edge) (es : List Edge) (x : ℕ) (t : Bool) → ((x : ℕ) → stands x (map (λ (e : Element). e.number) (straps_from (suc i) es)) ≡ true → suc i ≤ x)
    → stands x (map (λ (e : Element). e.number) (pick t (strap_element i a ∷ straps_from (suc i) es) (straps_from (suc i) es))) ≡ true → i ≤ x
straps_by i a es x true f e =
    ⊎_elim (λ q. omega arith) (λ z. let h = f x z in omega arith) (stands_case x i (map (λ (e : Element). e.number) (straps_from (suc i) es)) e)
straps_by i a es x false f e = let h = f x e in omega arith

straps_from_lem : (i : ℕ) (es : List Edge) (x : ℕ) → stands x (map (λ (e : Element). e.number) (straps_from i es)) ≡ true → i ≤ x
unfolding straps_from
straps_from_lem i [] x e = absurd (false≢true e)
straps_from_lem i (a ∷ es) x e = straps_by i a es x (structural? a) (straps_from_lem (suc i) es) e

straps_numbered_by : (i : ℕ) (a : Edge) (es : List Edge) (t : Bool) → Numbered (straps_from (suc i) es) → Numbered (pick t (strap_element i a ∷ straps_from (suc i) es) (straps_from (suc i) es))
straps_numbered_by i a es true d = (not_there i (map (λ (e : Element). e.number) (straps_from (suc i) es)) (λ e. let h = straps_from_lem (suc i) es i e in omega arith), d)
straps_numbered_by i a es false d = d

straps_numbered : (i : ℕ) (es : List Edge) → Numbered (straps_from i es)
unfolding straps_from
straps_numbered i [] = tt
straps_numbered i (a ∷ es) = straps_numbered_by i a es (structural? a) (straps_numbered (suc i) es)

-- no two elements of a mesh have one number
pub numbered_in : (K : Kind) (ts : List Triangle) (es : List Edge) → Numbered (elements_in K ts es)
unfolding elements_in
numbered_in Triangles ts es = triangles_numbered 0 ts
numbered_in Straps ts es = straps_numbered 0 es
numbered_in Nothing ts es = tt

pub numbered_elements : (K : Kind) (M : Mesh) → Numbered (elements_of K M)
unfolding elements_of
numbered_elements Triangles M = triangles_numbered 0 M.triangles
numbered_elements Straps M = straps_numbered 0 M.edges
numbered_elements Nothing M = tt

-- ---- the definition

module _ {n k v : ℕ} {verts groups : List ℕ} {count minimum : ℕ} {r : Bool} (R : Opens n k v verts groups count minimum r) (K : Kind) (M : Mesh) (kind : corners_per_of K ≡ k)
    (C : Cornered k (elements_of K M) n verts) where
  -- the answer is the definition's, at any split of v whose fan has these groups
  pub opens_is : (before : ℕ) → r ≡ opens_without_confetti_of K M minimum (opening_at v before (elements_of K M) groups count)
  unfolding opens_without_confetti_of
  opens_is before = R.right (elements_of K M) K before C (numbered_elements K M) kind

  -- and at the split that v's fan has by its sides
  pub opens_opening : (sides : List ℕ) → groups ≡ groups_of (grid_of K v (fan_of K M v) sides) → count ≡ count_of (grid_of K v (fan_of K M v) sides)
      → r ≡ opens_without_confetti_of K M minimum (opening_of K M v sides)
  unfolding opening_of fan_of
  opens_opening sides eg ec =
      opens_is (length M.particles)
      ∙ ap (λ (gs : List ℕ). opens_without_confetti_of K M minimum (opening_at v (length M.particles) (elements_of K M) gs count)) eg
      ∙ ap (λ (m : ℕ). opens_without_confetti_of K M minimum (opening_at v (length M.particles) (elements_of K M) (groups_of (grid_of K v (holding v (elements_of K M)) sides)) m)) ec
