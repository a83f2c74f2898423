-- The corners after a split are those that the model's split has, and the table is theirs. Assumes nothing.
use Prim.Native.Nat.{ℕ, zero, suc, ◌/◌, ◌<◌}
use native.Mathlib.Omega.{arith}
use mathlib.Core.Path.{◌≡◌, refl, sym, ap, ◌∙◌}
use mathlib.Core.List.{List, [], ◌∷◌, map}
use lib.ListN.{length, get_or}
use lib.Dec.{eqb}
use lib.Ieee.{Float}
use Rattle.lists.specs.Lists.{pick, map_at_of}
use Rattle.lists.specs.Labels.{replaced}
use Rattle.lists.proofs.Stores.{tab_at}
use Rattle.lists.proofs.Rows.{rows_map}
use Rattle.columns.specs.Block.{cell}
use Rattle.model.specs.Mesh.{Triangle}
use Rattle.model.specs.Elements.{Triangles}
use Rattle.model.specs.Split.{Part, Opening, group_at_of, rewired_triangles, retargeted, copy_for_of}
use Rattle.mesh.specs.At.{triangle_row, triangles_at}
use Rattle.mesh.specs.Workers.{group_of}
use Rattle.links.specs.Links.{LinksOf}
use Rattle.link_splits.specs.Splits.{corner_after}
use Rattle.links.proofs.Same.{links_ext}

-- triangles of which each has another number for v, read corner by corner
pub corners_turned : (v t : ℕ) (w : ℕ → ℕ) (s s' : List ℕ) (volumes : List Float) → length s' ≡ length s
    → triangles_at t s' volumes ≡ map_at_of (λ i. retargeted v (w i)) (triangles_at t s volumes)
    → (c i : ℕ) → c < 3 → i < t → cell 0 (length s / 3) s' c i ≡ replaced v (w i) (cell 0 (length s / 3) s c i)
unfolding triangles_at
corners_turned v t w s s' volumes long e c i hc hi = by c hc
  where
    blank : Triangle
    blank = triangle_row 0 0 [] [] 0

    row : triangle_row (length s' / 3) (length volumes / 2) s' volumes i ≡ retargeted v (w i) (triangle_row (length s / 3) (length volumes / 2) s volumes i)
    row =
        sym (tab_at t (triangle_row (length s' / 3) (length volumes / 2) s' volumes) i blank hi)
        ∙ ap (λ (l : List Triangle). get_or l i blank) (e ∙ rows_map (λ i. retargeted v (w i)) t (triangle_row (length s / 3) (length volumes / 2) s volumes))
        ∙ tab_at t (λ k. retargeted v (w k) (triangle_row (length s / 3) (length volumes / 2) s volumes k)) i blank hi

    same : (b : ℕ) → cell 0 (length s / 3) s' b i ≡ cell 0 (length s' / 3) s' b i
    same b = ap (λ (l : ℕ). cell 0 (l / 3) s' b i) (sym long)

    by : (b : ℕ) → b < 3 → cell 0 (length s / 3) s' b i ≡ replaced v (w i) (cell 0 (length s / 3) s b i)
    by zero l = same 0 ∙ ap (λ (x : Triangle). get_or x.corners 0 0) row
    by (suc zero) l = same 1 ∙ ap (λ (x : Triangle). get_or x.corners 1 0) row
    by (suc (suc zero)) l = same 2 ∙ ap (λ (x : Triangle). get_or x.corners 2 0) row
    by (suc (suc (suc b))) l = absurd (omega arith)

-- the group of an element, by the numbers and the groups of the fan's parts
group_at : (ps : List Part) (i : ℕ) → group_at_of ps i ≡ group_of (map (λ (p : Part). p.number) ps) (map (λ (p : Part). p.group) ps) i
unfolding group_of group_at_of
group_at [] i = refl
group_at (p ∷ ps) i = ap (pick (eqb p.number i) p.group) (group_at ps i)

-- after the model's split of its triangles the table is that of the triangles
pub links_split : (P R t : ℕ) (s s' table : List ℕ) (O : Opening) (volumes : List Float) → length s' ≡ length s
    → LinksOf P 3 R t (corner_after O.v O.before (map (λ (p : Part). p.number) O.fan) (map (λ (p : Part). p.group) O.fan) (cell 0 (length s / 3) s)) table
    → triangles_at t s' volumes ≡ rewired_triangles Triangles O (triangles_at t s volumes) → LinksOf P 3 R t (cell 0 (length s' / 3) s') table
unfolding corner_after rewired_triangles
links_split P R t s s' table O volumes long L e =
    links_ext P 3 R t _ _ table
    (λ c i hc hi.
    ap (λ (g : ℕ). replaced O.v (copy_for_of O.v O.before g) (cell 0 (length s / 3) s c i)) (sym (group_at O.fan i))
    ∙ sym (corners_turned O.v t (λ i. copy_for_of O.v O.before (group_at_of O.fan i)) s s' volumes long e c i hc hi)
    ∙ ap (λ (l : ℕ). cell 0 (l / 3) s' c i) (sym long)) L
