-- A fan in tables with a side for each element: its groups, its split, and whether it splits at all. Assumes nothing.
use Prim.Native.Nat.{ℕ, ◌*◌, ◌+◌, ◌/◌, ◌<◌, ◌≤◌}
use native.Mathlib.Omega.{arith}
use mathlib.Core.Path.{◌≡◌, refl, sym, ◌∙◌, ap, subst}
use mathlib.Core.Bool.{Bool, true, false, ◌&&◌}
use mathlib.Core.List.{List, [], ◌∷◌}
use borrow.Author.Tests.{le-leb, lt-leb}
use lib.ListN.{length, get_or, set, take, length-set}
use lib.Seq.{take-length}
use lib.Dec.{leb}
use lib.Ieee.{Float, nan, ne}
use Rattle.lists.specs.Lists.{sift, each}
use Rattle.lists.proofs.Stores.{tab_at}
use Rattle.float.specs.Numbers.{zero32}
use Rattle.columns.specs.Block.{cell}
use Rattle.fan.specs.Fan.{fan}
use Rattle.fan.specs.Groups.{groups_of, count_of, numbered, number_side}
use Rattle.model.specs.Mesh.{Particle, Mesh, blank}
use Rattle.model.specs.Elements.{Kind, Nothing, corners_per_of, facet_others_of, elements_of, fan_of, grid_of, particle}
use Rattle.model.specs.Split.{Opening, opening_of, splits?, split_by_sides_of}
use Rattle.mesh.specs.At.{particle_row, particles_at, mesh_at}
use Rattle.mesh.specs.Log.{World, world_at}
use Rattle.mesh.specs.Filled.{lent}
use Rattle.mesh.specs.declared.Counts.{Counts}
use Rattle.mesh.specs.declared.Rooms.{Rooms}
use Rattle.mesh.specs.Widths.{point_columns}
use Rattle.elements.specs.Table.{Tabled}
use Rattle.split_plan.specs.Opened.{opening_by}
use Rattle.split_plan.proofs.Tables.{opening_is}
use Rattle.model.specs.Run.{Run}
use Rattle.work.specs.Working.{Ready, Works}
use Rattle.edge_drops.specs.Parted.{world_parted, Listing}
use Rattle.edge_drops.proofs.PartedLaws.{cleared, none_listed, works_unlisted}
use Rattle.split.specs.Tables.{FanGrouped, FanSided, FanLent, FanTables, SidesLent, SidesGiven, GroupsFound, opened_by}
use Rattle.split.specs.Steps.{Stepped}
use Rattle.split.proofs.Fitted.{grid_is}
use Rattle.work.proofs.Placed.{particles_count}
use Rattle.split.proofs.Stepping.{works_split, works_unsplit}
use Rattle.split.proofs.StepLaws.{world_mesh}
use Rattle.work.specs.Ran.{Ran}
use Rattle.std.specs.Prelude.{Ok}

-- the inverse mass of a particle, by its place
pub inverse_at : (k : Counts) (points : List Float) (roots corners : List ℕ) (volumes : List Float) (ends : List ℕ) (lengths : List Float) (outline : List ℕ) (v : ℕ) → v < k.particles
    → (particle (mesh_at k points roots corners volumes ends lengths outline) v).inv ≡ get_or points (5 * (length points / point_columns) + v) nan
unfolding mesh_at particles_at cell
inverse_at k points roots corners volumes ends lengths outline v l = ap (λ (p : Particle). p.inv) (tab_at k.particles (particle_row (length points / point_columns) (length roots / 2) points roots) v blank l)

module _ {K : Kind} {M : Mesh} {v n : ℕ} {numbers verts : List ℕ} {measures : List Float} {sides : List ℕ} (F : FanSided K M v n numbers verts measures sides) where
  -- what the grouping asks
  pub sides_asked : (lg : ℕ) → n ≤ lg → SidesLent n (corners_per_of K) (length verts) (length sides) lg sides
  sides_asked lg h = record { few = F.few; verts = F.verts_long; long = F.sides_long; groups = h; two = F.two }

  -- the groups that were found are those of the definition
  module _ {groups : List ℕ} {count : ℕ} (G : GroupsFound K v n verts sides groups count) where
    grid : fan (take (n * corners_per_of K) verts) (corners_per_of K) v (facet_others_of K) (take n sides) ≡ grid_of K v (fan_of K M v) (take n sides)
    grid = grid_is K M v n numbers verts measures (take n sides) F.tabled

    pub opening_found : opened_by K M v n count groups ≡ opening_of K M v (take n sides)
    opening_found =
        ap (λ (gs : List ℕ). opening_by v (length M.particles) (fan_of K M v) gs count) (G.groups_are ∙ ap groups_of grid)
        ∙ ap (λ (m : ℕ). opening_by v (length M.particles) (fan_of K M v) (groups_of (grid_of K v (fan_of K M v) (take n sides))) m) (G.count_is ∙ ap count_of grid)
        ∙ sym (opening_is K M v (take n sides))

    pub fan_grouped : 2 ≤ count → n ≤ length groups → FanGrouped K M v n count numbers verts measures groups
    fan_grouped two long =
        record {
          here = F.here;
          two = two;
          tabled = F.tabled;
          few = F.few;
          numbers_long = F.numbers_long;
          verts_long = F.verts_long;
          measures_long = F.measures_long;
          groups_long = long;
          below = G.below;
        }

    -- whether v splits
    splits_told : splits? (opening_of K M v (take n sides)) M ≡ (leb 2 count && ne (particle M v).inv zero32)
    unfolding splits?
    splits_told = ap (λ (O : Opening). leb 2 O.count && ne (particle M O.v).inv zero32) (sym opening_found)

    pub splits_not : count < 2 → splits? (opening_of K M v (take n sides)) M ≡ false
    splits_not h = splits_told ∙ ap (λ (b : Bool). b && ne (particle M v).inv zero32) (lt-leb 2 count h)

    pub splits_so : 2 ≤ count → ne (particle M v).inv zero32 ≡ true → splits? (opened_by K M v n count groups) M ≡ true
    splits_so h e = ap (λ (O : Opening). splits? O M) opening_found ∙ splits_told ∙ ap (λ (b : Bool). leb 2 count && b) e ∙ ap (λ (b : Bool). b && true) (le-leb 2 count h)

-- one that is pinned does not split
and_false : (b : Bool) → (b && false) ≡ false
and_false true = refl
and_false false = refl

splits_pinned : (K : Kind) (M : Mesh) (v : ℕ) (sides : List ℕ) → ne (particle M v).inv zero32 ≡ false → splits? (opening_of K M v sides) M ≡ false
unfolding splits? opening_of
splits_pinned K M v sides e = ap (λ (b : Bool). leb 2 (opening_of K M v sides).count && b) e ∙ and_false (leb 2 (opening_of K M v sides).count)

-- ---- over the blocks

module _ (K : Kind) (L : Rooms) (k : Counts) (points : List Float) (roots corners : List ℕ) (volumes : List Float) (ends : List ℕ) (lengths : List Float) (outline log : List ℕ)
    (P : Ready L k (lent points roots corners volumes ends lengths outline log) (mesh_at k points roots corners volumes ends lengths outline))
    {v n : ℕ} {numbers verts : List ℕ} {measures : List Float} {sides : List ℕ}
    (F : FanSided K (mesh_at k points roots corners volumes ends lengths outline) v n numbers verts measures sides) where
  abbrev M : Mesh
  M = mesh_at k points roots corners volumes ends lengths outline

  abbrev at : Counts → World
  at q = world_at q points roots corners volumes ends lengths outline log

  -- v is there
  pub here_in : v < k.particles
  here_in = subst (λ (p : ℕ). v < p) (particles_count k points roots corners volumes ends lengths outline) F.here

  -- its inverse mass stands in the block
  pub inverse_place : v < length points / point_columns
  inverse_place = let h = here_in in let a = P.counts.particles in let b = P.rooms.points in omega arith

  inverse_is : (particle M v).inv ≡ get_or points (5 * (length points / point_columns) + v) nan
  inverse_is = inverse_at k points roots corners volumes ends lengths outline v here_in

  mesh_is : (q : Counts) → (at q).mesh ≡ mesh_at q points roots corners volumes ends lengths outline
  mesh_is q = world_mesh q points roots corners volumes ends lengths outline log

  stays : splits? (opening_of K M v (take n sides)) M ≡ false → Works (split_by_sides_of K v (take n sides)) L (at k) at (Ok k)
  stays e = works_unsplit K v (take n sides) L at k P.counts (ap (λ (X : Mesh). splits? (opening_of K X v (take n sides)) X) (mesh_is k) ∙ e)

  module _ {groups : List ℕ} {count : ℕ} (G : GroupsFound K v n verts sides groups count) where
    pub few_stays : count < 2 → Works (split_by_sides_of K v (take n sides)) L (at k) at (Ok k)
    few_stays h = stays (splits_not F G h)

    pub pinned_stays : (t : Bool) → t ≡ ne (get_or points (5 * (length points / point_columns) + v) nan) zero32 → t ≡ false → Works (split_by_sides_of K v (take n sides)) L (at k) at (Ok k)
    pinned_stays t u e = stays (splits_pinned K M v (take n sides) (ap (λ (x : Float). ne x zero32) inverse_is ∙ sym u ∙ e))

    pub split_works : 2 ≤ count → (t : Bool) → t ≡ ne (get_or points (5 * (length points / point_columns) + v) nan) zero32 → t ≡ true → (at' : Counts → World) (r : Ran)
        → Stepped K (opened_by K M v n count groups) L 0 (at k) at' r → Works (split_by_sides_of K v (take n sides)) L (at k) at' r
    split_works h t u e at' r S =
        works_split K v (take n sides) (opened_by K M v n count groups) L (at k) at' r
        (opening_found F G ∙ ap (λ (X : Mesh). opening_of K X v (take n sides)) (sym (mesh_is k)))
        (ap (splits? (opened_by K M v n count groups)) (mesh_is k) ∙ splits_so F G h (ap (λ (x : Float). ne x zero32) inverse_is ∙ sym u ∙ e)) S

-- ---- nothing is done, and none is listed

module _ (L : Rooms) (k : Counts) (points : List Float) (roots corners : List ℕ) (volumes : List Float) (ends : List ℕ) (lengths : List Float) (outline log : List ℕ)
    (P : Ready L k (lent points roots corners volumes ends lengths outline log) (mesh_at k points roots corners volumes ends lengths outline)) where
  pub parts_none : (f : Run → Run) (list : List ℕ) → 2049 ≤ length list → Works f L (world_at k points roots corners volumes ends lengths outline log) (λ q. world_at q points roots corners volumes ends lengths outline log) (Ok k)
      → Works f L (world_at k points roots corners volumes ends lengths outline log) (λ q. world_parted q points roots corners volumes ends lengths outline log (set list 2048 0)) (Ok k)
      × Listing k.edges (length ends) (length lengths) (set list 2048 0)
  parts_none f list long w =
      let R = P.rooms in
      let C = P.counts in
      let none = cleared list long in (
        works_unlisted points roots corners volumes ends lengths outline log (set list 2048 0) (Ok k) none w,
        none_listed ends lengths (set list 2048 0) none k.edges (length ends) (length lengths) (omega (arith, length-set list 2048 0)) (omega (arith, C.edges, R.few_edges))
            (record { ends = omega (arith, C.edges, R.ends); lengths = omega (arith, C.edges, R.lengths) }),
      )

-- ---- sides given for the fan of a mesh in blocks

module _ (K : Kind) (L : Rooms) (k : Counts) (points : List Float) (roots corners : List ℕ) (volumes : List Float) (ends : List ℕ) (lengths : List Float) (outline log : List ℕ)
    (P : Ready L k (lent points roots corners volumes ends lengths outline log) (mesh_at k points roots corners volumes ends lengths outline)) where
  -- the fan can be read
  pub fan_lent : FanLent k.triangles k.edges (length corners) (length volumes) (length ends) (length lengths)
  fan_lent =
      let R = P.rooms in
      let C = P.counts in
      record {
        few = (omega (arith, C.triangles, R.few_triangles), omega (arith, C.edges, R.few_edges));
        corners = omega (arith, C.triangles, R.corners);
        volumes = omega (arith, C.triangles, R.volumes);
        ends = omega (arith, C.edges, R.ends);
        lengths = omega (arith, C.edges, R.lengths);
      }

  -- v is there, where sides are given for its fan
  pub given_in : {v : ℕ} {sides : List ℕ} → SidesGiven K (mesh_at k points roots corners volumes ends lengths outline) v sides → v < k.particles
  given_in {v} S = subst (λ (p : ℕ). v < p) (particles_count k points roots corners volumes ends lengths outline) S.here

  -- where it is pinned, the mesh stays as it is
  pub given_pinned : {v : ℕ} {sides : List ℕ} → SidesGiven K (mesh_at k points roots corners volumes ends lengths outline) v sides → (t : Bool) → t ≡ ne (get_or points (5 * (length points / point_columns) + v) nan) zero32 → t ≡ false
      → Works (split_by_sides_of K v sides) L (world_at k points roots corners volumes ends lengths outline log) (λ q. world_at q points roots corners volumes ends lengths outline log) (Ok k)
  given_pinned {v} {sides} S t u e =
      works_unsplit K v sides L (λ q. world_at q points roots corners volumes ends lengths outline log) k P.counts
      (ap (λ (X : Mesh). splits? (opening_of K X v sides) X) (world_mesh k points roots corners volumes ends lengths outline log)
      ∙ splits_pinned K (mesh_at k points roots corners volumes ends lengths outline) v sides
      (ap (λ (x : Float). ne x zero32) (inverse_at k points roots corners volumes ends lengths outline v (given_in S)) ∙ sym u ∙ e))

  module _ {v n : ℕ} {numbers verts : List ℕ} {measures : List Float} (F : FanTables K v k.triangles k.edges corners volumes ends lengths n numbers verts measures) where
    -- the tables that have room hold the fan of the mesh in the blocks
    pub fan_here : n ≤ length numbers → n * corners_per_of K ≤ length verts → n ≤ length measures → Tabled (corners_per_of K) (fan_of K (mesh_at k points roots corners volumes ends lengths outline) v) n numbers verts measures
    unfolding mesh_at
    fan_here a b c = (F.read a b c).tabled (mesh_at k points roots corners volumes ends lengths outline) refl refl

    module _ {sides : List ℕ} (S : SidesGiven K (mesh_at k points roots corners volumes ends lengths outline) v sides) where
      -- there are as many sides as elements
      pub sides_count : n ≡ length sides
      unfolding mesh_at
      sides_count = F.count (mesh_at k points roots corners volumes ends lengths outline) refl refl ∙ sym S.every

      -- so all of them are taken
      pub sides_taken : take n sides ≡ sides
      sides_taken = ap (λ (m : ℕ). take m sides) sides_count ∙ take-length sides

      -- the fan in the tables with the sides given for it
      pub given_sided : n ≤ length numbers → n * corners_per_of K ≤ length verts → n ≤ length measures → FanSided K (mesh_at k points roots corners volumes ends lengths outline) v n numbers verts measures sides
      given_sided a b c =
          record {
            here = S.here;
            tabled = fan_here a b c;
            few = F.few;
            numbers_long = a;
            verts_long = b;
            measures_long = c;
            sides_long = omega (arith, sides_count);
            two = λ i l. S.two i (omega (arith, sides_count));
          }

-- the same sides, written otherwise
pub sides_works : (K : Kind) (v : ℕ) {s t : List ℕ} {L : Rooms} {W : World} {at : Counts → World} {r : Ran} → s ≡ t → Works (split_by_sides_of K v s) L W at r → Works (split_by_sides_of K v t) L W at r
sides_works K v {L = L} {W} {at} {r} e X = subst (λ (l : List ℕ). Works (split_by_sides_of K v l) L W at r) e X

-- ---- a mesh of neither kind

-- it has no fan, so nothing splits
nothing_splits : (M : Mesh) (v : ℕ) (sides : List ℕ) → length sides ≡ length (fan_of Nothing M v) → splits? (opening_of Nothing M v sides) M ≡ false
unfolding splits? opening_of fan_of elements_of grid_of sift each count_of numbered number_side
nothing_splits X v [] e = refl
nothing_splits X v (x ∷ l) e = absurd (omega (arith, e))

pub nothing_works : (L : Rooms) (k : Counts) (points : List Float) (roots corners : List ℕ) (volumes : List Float) (ends : List ℕ) (lengths : List Float) (outline log : List ℕ)
    → Ready L k (lent points roots corners volumes ends lengths outline log) (mesh_at k points roots corners volumes ends lengths outline) → (K : Kind) → K ≡ Nothing → (v : ℕ) (sides : List ℕ)
    → SidesGiven K (mesh_at k points roots corners volumes ends lengths outline) v sides
    → Works (split_by_sides_of K v sides) L (world_at k points roots corners volumes ends lengths outline log) (λ q. world_at q points roots corners volumes ends lengths outline log) (Ok k)
nothing_works L k points roots corners volumes ends lengths outline log P K e v sides S =
    let M = mesh_at k points roots corners volumes ends lengths outline in
    let T : SidesGiven Nothing M v sides = subst (λ (X : Kind). SidesGiven X M v sides) e S in
    subst (λ (X : Kind). Works (split_by_sides_of X v sides) L (world_at k points roots corners volumes ends lengths outline log) (λ q. world_at q points roots corners volumes ends lengths outline log) (Ok k)) (sym e)
    (works_unsplit Nothing v sides L (λ q. world_at q points roots corners volumes ends lengths outline log) k P.counts
    (ap (λ (X : Mesh). splits? (opening_of Nothing X v sides) X) (world_mesh k points roots corners volumes ends lengths outline log) ∙ nothing_splits M v sides T.every))

-- a split by the kind that it is
pub sides_as : (K : Kind) {X : Kind} → K ≡ X → (v : ℕ) (sides : List ℕ) {L : Rooms} {W : World} {at : Counts → World} {r : Ran} → Works (split_by_sides_of X v sides) L W at r → Works (split_by_sides_of K v sides) L W at r
sides_as K e v sides {L} {W} {at} {r} w = subst (λ (Y : Kind). Works (split_by_sides_of Y v sides) L W at r) (sym e) w

pub given_as : (K : Kind) {X : Kind} → K ≡ X → {M : Mesh} {v : ℕ} {sides : List ℕ} → SidesGiven K M v sides → SidesGiven X M v sides
given_as K e {M} {v} {sides} S = subst (λ (Y : Kind). SidesGiven Y M v sides) e S
