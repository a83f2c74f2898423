-- From the fan of a mesh whose indices fit, in tables with a group for each element, to the split that the tables hold. Assumes nothing.
use Prim.Native.Nat.{ℕ, ◌*◌, ◌/◌, ◌<◌, ◌≤◌}
use native.Mathlib.Omega.{arith}
use mathlib.Core.Path.{◌≡◌, refl, sym, ◌∙◌, ap, subst}
use mathlib.Core.Bool.{true}
use mathlib.Core.List.{List, ◌++◌}
use lib.ListN.{length, get_or, take}
use lib.Seq.{get_or-take, length-take-le, take_at}
use lib.Ieee.{Float}
use Rattle.lists.specs.Lists.{stands}
use Rattle.lists.proofs.Stores.{tab_length}
use Rattle.lists.proofs.Sifts.{sift_length}
use Rattle.fan.specs.Fan.{Fan, fan}
use Rattle.fan.specs.Groups.{groups_of, count_of}
use Rattle.fan.specs.Calls.{Fits, Counted}
use Rattle.model.specs.Mesh.{Triangle, Edge, Mesh}
use Rattle.model.specs.Valid.{indices_fit_of}
use Rattle.model.specs.Elements.{Kind, Triangles, Straps, Nothing, Element, fan_of, grid_of, corners_per_of, facet_others_of}
use Rattle.mesh.specs.At.{triangle_row, triangles_at, edges_at}
use Rattle.mesh.proofs.Lists.{edges_length}
use Rattle.elements.specs.Table.{Tabled, holding, elements_in}
use Rattle.link_fans.specs.Fans.{FanPut}
use Rattle.split_plan.specs.Opened.{Ringed}
use Rattle.split_plan.proofs.Tables.{Rises, ringed_by, weighted_by, numbered_by, fan_is, rises_holding}
use Rattle.split.specs.Tables.{FanGrouped, opened_by, Opens, TablesFit, FanTables, SidesLent, GroupsFound}
use Rattle.split.proofs.Below.{rows_of, table_below, fan_corners, fan_number, Few, few_of}

-- an element has three corners at most
corners_three : (K : Kind) → corners_per_of K ≤ 3
corners_three Triangles = omega arith
corners_three Straps = omega arith
corners_three Nothing = omega arith

-- a fan's numbers rise
pub fan_rises : (K : Kind) (M : Mesh) (v : ℕ) → Rises 0 (fan_of K M v)
fan_rises K M v = subst (Rises 0) (sym (fan_is K M v)) (rises_holding v K M.triangles M.edges)

module _ {K : Kind} {M : Mesh} {v n count : ℕ} {numbers verts : List ℕ} {measures : List Float} {groups : List ℕ} (F : FanGrouped K M v n count numbers verts measures groups) where
  -- as many groups are taken as there are elements
  long : length (take n groups) ≡ n
  long = length-take-le n groups F.groups_long

  -- what is taken is what stands there
  group_at : (i : ℕ) → i < n → get_or (take n groups) i 0 ≡ get_or groups i 0
  group_at i l = get_or-take n groups i 0 l

  ringed : Ringed (corners_per_of K) (opened_by K M v n count groups) n verts groups
  ringed =
      let R = ringed_by v (length M.particles) (fan_of K M v) F.tabled (take n groups) count long (λ i l. subst (λ (g : ℕ). g < count) (sym (group_at i l)) (F.below i l)) in
      record { size = R.size; corners_are = R.corners_are; group_is = λ i l. R.group_is i l ∙ group_at i l; below = F.below }

  -- the split that the tables hold
  pub opens_by : Opens K (opened_by K M v n count groups) v (length M.particles) n count numbers verts measures groups
  opens_by =
      record {
        at = refl;
        before_is = refl;
        count_is = refl;
        ringed = ringed;
        weighted = weighted_by v (length M.particles) (fan_of K M v) F.tabled (take n groups) count long;
        numbered = numbered_by v (length M.particles) (fan_of K M v) F.tabled (take n groups) count long (fan_rises K M v);
      }

  -- the tables fit the mesh
  pub tables_fit : indices_fit_of M ≡ true → TablesFit K (length M.particles) (length M.triangles) (length M.edges) v n count numbers verts measures groups
  tables_fit e =
      record {
        here = F.here;
        two = F.two;
        ring = record { few = F.few; corners = corners_three K; verts = F.verts_long; groups = F.groups_long };
        numbers_long = F.numbers_long;
        measures_long = F.measures_long;
        rising = opens_by.numbered.rising_are;
        in_triangles = λ q i l. subst (λ (m : ℕ). get_or numbers i 0 < m) (ap (λ (k : Kind). rows_of k M) q) (fan_number K M v n numbers verts measures F.tabled i l);
        in_edges = λ q i l. subst (λ (m : ℕ). get_or numbers i 0 < m) (ap (λ (k : Kind). rows_of k M) q) (fan_number K M v n numbers verts measures F.tabled i l);
        below = F.below;
        corners_in = table_below (length M.particles) n (corners_per_of K) (fan_of K M v) verts (fan_corners K M v e) F.tabled.cornered F.verts_long;
      }

-- ---- the fan, read and grouped

-- a table of all elements of a mesh of t triangles and e edges is small
pub all_few : (K : Kind) (t e n : ℕ) (corners : List ℕ) (volumes : List Float) (ends : List ℕ) (lengths : List Float) (N Y : List ℕ) (Z : List Float) → t ≤ 1024 → e ≤ 2048
    → Tabled (corners_per_of K) (elements_in K (triangles_at t corners volumes) (edges_at e ends lengths)) n N Y Z → Few n (corners_per_of K)
unfolding triangles_at
all_few K t e n corners volumes ends lengths N Y Z u w T =
    few_of K (triangles_at t corners volumes) (edges_at e ends lengths) n (omega (arith, tab_length t (triangle_row (length corners / 3) (length volumes / 2) corners volumes))) (omega (arith, edges_length e ends lengths)) (omega (arith, T.cornered.count))

-- the elements that hold v are v's fan
pub fan_told : (K : Kind) (v t e r : ℕ) (corners : List ℕ) (volumes : List Float) (ends : List ℕ) (lengths : List Float) (N Y : List ℕ) (Z : List Float) → t ≤ 1024 → e ≤ 2048
    → FanPut (corners_per_of K) (holding v (elements_in K (triangles_at t corners volumes) (edges_at e ends lengths))) r N Y Z → FanTables K v t e corners volumes ends lengths r N Y Z
unfolding triangles_at
fan_told K v t e r corners volumes ends lengths N Y Z u w T =
    let es : List Element = elements_in K (triangles_at t corners volumes) (edges_at e ends lengths) in
    let W = few_of K (triangles_at t corners volumes) (edges_at e ends lengths) r (omega (arith, tab_length t (triangle_row (length corners / 3) (length volumes / 2) corners volumes))) (omega (arith, edges_length e ends lengths))
    (omega (arith, T.count, sift_length (λ (x : Element). stands v x.corners) es)) in
    let fan_of_lem : (M : Mesh) → M.triangles ≡ triangles_at t corners volumes → M.edges ≡ edges_at e ends lengths → holding v es ≡ fan_of K M v = λ M p q.
    sym (fan_is K M v ∙ ap (λ (ts : List Triangle). holding v (elements_in K ts M.edges)) p ∙ ap (λ (l : List Edge). holding v (elements_in K (triangles_at t corners volumes) l)) q) in
    record {
      count = λ M p q. T.count ∙ ap (λ (l : List Element). length l) (fan_of_lem M p q);
      few = W.few;
      narrow = W.narrow;
      read = λ a b c.
          record {
            tabled = λ M p q. subst (λ (l : List Element). Tabled (corners_per_of K) l r N Y Z) (fan_of_lem M p q) (T.tabled a b c);
            few = W.few;
            narrow = W.narrow;
          };
    }

-- the corners of so few elements are few
pub corners_few : (K : Kind) (n : ℕ) → n ≤ 16 → n * corners_per_of K ≤ 48
corners_few Triangles n h = omega arith
corners_few Straps n h = omega arith
corners_few Nothing n h = omega arith

pub few_corners : {K : Kind} {v t e n : ℕ} {corners : List ℕ} {volumes : List Float} {ends : List ℕ} {lengths : List Float} {numbers verts : List ℕ} {measures : List Float} → FanTables K v t e corners volumes ends lengths n numbers verts measures
    → n ≤ 16 → n * corners_per_of K ≤ 48
few_corners {K} {n = n} F h = corners_few K n h

-- the grid of a fan in tables
pub grid_is : (K : Kind) (M : Mesh) (v n : ℕ) (numbers verts : List ℕ) (measures : List Float) (sides : List ℕ) → Tabled (corners_per_of K) (fan_of K M v) n numbers verts measures
    → fan (take (n * corners_per_of K) verts) (corners_per_of K) v (facet_others_of K) sides ≡ grid_of K v (fan_of K M v) sides
unfolding grid_of
grid_is K M v n numbers verts measures sides T = ap (λ (l : List ℕ). fan l (corners_per_of K) v (facet_others_of K) sides) T.cornered.corners_are

-- a front of each table is as long as what groups_of asks
pub sides_room : (K : Kind) (n k : ℕ) (verts sides groups : List ℕ) → k ≡ corners_per_of K → SidesLent n (corners_per_of K) (length verts) (length sides) (length groups) sides
    → Fits (take (n * k) verts) k (take n sides) (take n groups)
sides_room K n k verts sides groups e S =
    let v : n * k ≤ length verts = subst (λ (j : ℕ). n * j ≤ length verts) (sym e) S.verts in
    let a = length-take-le (n * k) verts v in
    let b = length-take-le n sides S.long in
    let g = length-take-le n groups S.groups in
    record {
      few = omega (arith, S.few);
      whole = a ∙ ap (λ (m : ℕ). m * k) (sym b);
      places = g ∙ sym b;
      two = λ i l. let h : i < n = omega arith in subst (λ (x : ℕ). x < 2) (sym (get_or-take n sides i 0 h)) (S.two i h);
    }

-- a product with the width of a row of tables is small
pub rows_small : (K : Kind) (n k : ℕ) → k ≡ corners_per_of K → n ≤ 2048 → n * k ≤ 6144
rows_small Triangles n k e l = omega (arith, ap (λ (m : ℕ). n * m) e)
rows_small Straps n k e l = omega (arith, ap (λ (m : ℕ). n * m) e)
rows_small Nothing n k e l = omega (arith, ap (λ (m : ℕ). n * m) e)

-- what was found of a fan's groups, at the front of a table, is what the definition says
pub groups_found : (K : Kind) (v n k others : ℕ) (verts sides gs more : List ℕ) (count : ℕ) → k ≡ corners_per_of K → others ≡ facet_others_of K → length gs ≡ n → n ≤ length sides
    → Counted (fan (take (n * k) verts) k v others (take n sides)) gs count → GroupsFound K v n verts sides (gs ++ more) count
groups_found K v n k others verts sides gs more count ek eo lg ls C =
    let front : take n (gs ++ more) ≡ gs = take_at gs more n lg in
    record {
      groups_are = front ∙ C.groups_are ∙ same_groups;
      count_is = C.count_is ∙ same_count;
      below = λ i l.
          subst (λ (g : ℕ). g < count) (ap (λ (s : List ℕ). get_or s i 0) (sym front) ∙ get_or-take n (gs ++ more) i 0 l) (C.grouping.below i (omega (arith, length-take-le n sides ls)));
    }
  where
    F : ℕ → ℕ → Fan
    F a b = fan (take (n * a) verts) a v b (take n sides)

    same_groups : groups_of (F k others) ≡ groups_of (F (corners_per_of K) (facet_others_of K))
    same_groups = ap (λ (a : ℕ). groups_of (F a others)) ek ∙ ap (λ (b : ℕ). groups_of (F (corners_per_of K) b)) eo

    same_count : count_of (F k others) ≡ count_of (F (corners_per_of K) (facet_others_of K))
    same_count = ap (λ (a : ℕ). count_of (F a others)) ek ∙ ap (λ (b : ℕ). count_of (F (corners_per_of K) b)) eo

-- the same room by the width that a program worked out
pub rows_long : (n k c l : ℕ) → k ≡ c → n * c ≤ l → n * k ≤ l
rows_long n k c l e h = subst (λ (j : ℕ). n * j ≤ l) (sym e) h
