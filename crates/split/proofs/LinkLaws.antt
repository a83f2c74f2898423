-- The table of fans beside a mesh in blocks: it can be built, it is what a fan is read from, and a split keeps it. Assumes nothing.
use Prim.Native.Nat.{ℕ, ◌+◌, ◌-◌, ◌/◌, ◌<◌, ◌≤◌}
use native.Mathlib.Decide.{ℕ_discrete}
use native.Mathlib.Omega.{arith}
use mathlib.Core.Path.{◌≡◌, refl, sym, ap, ◌∙◌, subst}
use mathlib.Core.Bool.{◌&&◌}
use mathlib.Core.List.{List, [], map}
use lib.ListN.{length, get_or, take, drop}
use lib.Seq.{length-take-le, get_or-take}
use borrow.Rule.Slice.PartMut.{mid_of, put_mid}
use lib.Ieee.{Float}
use borrow.Author.Tests.{eq-eqb, ne_eqb}
use Rattle.lists.specs.Lists.{all}
use Rattle.columns.specs.Block.{cell}
use Rattle.model.specs.Mesh.{Mesh}
use Rattle.model.specs.Elements.{Kind, Triangles, Straps, Element, fan_of}
use Rattle.model.specs.Valid.{indices_fit_of, root_ok, corners_ok, ends_ok, side_ok}
use Rattle.model.specs.Split.{Part, Opening, copy_for_of}
use Rattle.mesh.specs.At.{mesh_at}
use Rattle.mesh.specs.Filled.{lent}
use Rattle.mesh.specs.declared.Counts.{Counts}
use Rattle.mesh.specs.declared.Rooms.{Rooms}
use Rattle.links.specs.Links.{LinksOf}
use Rattle.link_splits.specs.Splits.{corner_after, SplitRoom}
use Rattle.links.specs.Rooms.{CornersApart}
use Rattle.link_fans.specs.Fans.{FanLinked}
use Rattle.links.specs.Linked.{Linked, EdgesLinked, SidesLinked, FrontLinked, MeshLinked, MeshLinkable}
use Rattle.links.proofs.Accepted.{corners_apart, ends_apart, sides_apart, apart_below}
use Rattle.links.proofs.Parts.{front_of, with_sides, edges_lent, edges_back, sides_lent, sides_back}
use Rattle.boundary.specs.Faces.{GrownLinked}
use Rattle.boundary.proofs.FacetLaws.{linked_rows as sides_grown}
use Rattle.link_fans.proofs.Fanned.{fan_numbers}
use Rattle.link_splits.proofs.Turned.{links_split}
use Rattle.rewire.specs.Stages.{PartsBy, TrianglesRewired}
use Rattle.rewire.specs.Parts.{PartsRoom}
use Rattle.rewire.specs.Edges.{StrapsRoom, TableRoom, LinkedGrown as EdgesGrew}
use Rattle.rewire.proofs.LinkedLaws.{linked_rows}
use Rattle.rewire.proofs.FanLaws.{numbers_are, groups_are}
use Rattle.work.specs.Working.{Ready}
use Rattle.work.proofs.Placed.{particles_count}
use Rattle.work.specs.Ran.{Ran}
use Rattle.split.specs.Tables.{FanGrouped, TablesFit, FanLent, SidesGiven}
use Rattle.split.specs.Steps.{GrowRoom}
use Rattle.work.specs.Places.{EndsIn}
use Rattle.std.specs.Prelude.{Option, Some}
use Rattle.split.specs.Growing.{StrapsNamed, ElementsRoom}
use Rattle.split.specs.Linking.{LinkedAfter, LinkedListed, FrontKept, LinkedGrown, FanSound, FacetsLinked, FanNamed, HeadsRoom}
use Rattle.split.specs.Settling.{RowsAfter}
use Rattle.edge_drops.specs.Parted.{listed}
use Rattle.split.specs.Grew.{Grew}
use Rattle.split.proofs.GrowLaws.{table_opening, table_parts, straps_room}
use Rattle.split.proofs.TabledLaws.{fan_lent}
use Rattle.lists.proofs.Sifts.{and_true}
use Rattle.std.specs.Prelude.{Ok, Err}
use Rattle.mesh.specs.declared.refusals.Refusal.{Refusal}

-- behind parts 1 to 3, where they had room
pub grown_linked : {K : Kind} {t e b : ℕ} {corners ends outline : List ℕ} (links₀ links : List ℕ) {g : Grew} → LinkedGrown K t corners ends links₀ links g → g ≡ Ok e → SidesLinked b outline (drop 9216 links₀)
    → MeshLinked K t e b corners ends outline links
grown_linked {K} {t} {e} {b} {corners} {ends} {outline} links₀ links X q S = let F = subst (LinkedGrown K t corners ends links₀ links) q X in with_sides links₀ F.0 F.1 S

-- ---- a fan read from the table

-- what the walk asks
pub fan_walk : {K : Kind} {v t e : ℕ} {corners links : List ℕ} {lv le ll : ℕ} → FanLent t e (length corners) lv le ll → Linked K t corners links → v < 1024 → K ≡ Triangles → FanLinked v 1024 1024 t corners lv links
fan_walk P L h e =
    let few = P.few.0 in
    record {
      room = record { cells = few; rows = P.corners; columns = omega arith; table = L.long e; small = omega arith };
      here = h;
      linked = L.are e;
      volumes = P.volumes;
    }

-- ---- the table through a split

-- the fan's front in the tables is what the table is changed by
pub split_room : {K : Kind} {v before t n rows : ℕ} {numbers groups corners links : List ℕ} → PartsRoom before n rows numbers groups → Linked K t corners links → FanNamed K v before t n numbers corners
    → HeadsRoom v before t n (length corners) groups → K ≡ Triangles → SplitRoom v before 1024 3 1024 (length corners / 3) t (take n numbers) (take n groups) corners links
split_room {v = v} {before} {t} {n} {numbers = numbers} {groups} P L F H e =
    let ln : length (take n numbers) ≡ n = length-take-le n numbers P.numbers_long in
    let lg : length (take n groups) ≡ n = length-take-le n groups P.groups_long in
    record {
      room = record { cells = H.few; rows = H.rows; columns = omega arith; table = L.long e; small = omega (arith, H.few) };
      linked = L.are e;
      apart = F.apart e;
      here = H.here;
      most = H.most;
      few = omega arith;
      fan = F.fan e;
      paired = ln ∙ sym lg;
      copies = λ i h. let l : i < n = omega arith in subst (λ (g : ℕ). copy_for_of v before g < 1024) (sym (get_or-take n groups i 0 l)) (H.copies i l);
    }

-- the corners after it are those that the table is of
pub links_rewired : {v before t n rows : ℕ} {numbers groups corners corners' links' : List ℕ} → PartsRoom before n rows numbers groups → t ≤ length corners / 3 → length corners' ≡ length corners
    → LinksOf 1024 3 1024 t (corner_after v before (take n numbers) (take n groups) (cell 0 (length corners / 3) corners)) links' → TrianglesRewired v before n numbers groups corners corners'
    → LinksOf 1024 3 1024 t (cell 0 (length corners' / 3) corners') links'
links_rewired {v} {before} {t} {n} {rows} {numbers} {groups} {corners} {corners'} {links'} P h long L T =
    links_split 1024 1024 t corners corners' links' O [] long
    (subst (λ (a : ℕ). Of a O.before ns gs) (sym B.at)
    (subst (λ (b : ℕ). Of v b ns gs) (sym B.before_is)
    (subst (λ (m : List ℕ). Of v before m gs) (numbers_are B P.numbers_long)
    (subst (λ (m : List ℕ). Of v before (take n numbers) m) (groups_are B P.groups_long) L))))
    (T.triangles O t [] B h)
  where
    O : Opening
    O = table_opening v before n numbers groups

    B : PartsBy O v before n numbers groups
    B = table_parts v before n numbers groups P.rising

    ns : List ℕ
    ns = map (λ (p : Part). p.number) O.fan

    gs : List ℕ
    gs = map (λ (p : Part). p.group) O.fan

    Of : ℕ → ℕ → List ℕ → List ℕ → Type 0
    Of a b m g = LinksOf 1024 3 1024 t (corner_after a b m g (cell 0 (length corners / 3) corners)) links'

-- so the table is that of the block again
pub linked_rewired : {K : Kind} {t : ℕ} {corners corners' links links' : List ℕ} → Linked K t corners links → length links' ≡ length links → LinksOf 1024 3 1024 t (cell 0 (length corners' / 3) corners') links'
    → Linked K t corners' links'
linked_rewired L long N = record { long = λ e. omega (arith, long, L.long e); are = λ e. N }

-- v and every copy have heads, where there is room for the copies
pub heads_room : {K : Kind} {L : Rooms} {k : Counts} {v n count lp lr lc le ll : ℕ} {numbers verts : List ℕ} {measures : List Float} {groups : List ℕ}
    → GrowRoom L k lp lr lc le ll → TablesFit K k.particles k.triangles k.edges v n count numbers verts measures groups → count - 1 ≤ L.particles - k.particles
    → HeadsRoom v k.particles k.triangles n lc groups
heads_room {L = L} {k} {v} {count = count} {groups = groups} R F fits =
    let few = R.few_particles in
    let most = R.particles in
    record { few = R.few_triangles; rows = R.corners; here = F.here; most = omega arith; copies = λ i h. copy (get_or groups i 0) (F.below i h) (ℕ_discrete (get_or groups i 0) 0) }
  where
    copy : (g : ℕ) → g < count → Dec (g ≡ 0) → copy_for_of v k.particles g < 1024
    copy g l (yes q) = rw (eq-eqb g 0 q) (omega (arith, F.here, R.particles, R.few_particles))
    copy g l (no q) = rw (ne_eqb g 0 q) (omega (arith, R.particles, R.few_particles, q))

-- the straps of the fan, whose table this is
pub straps_linked :
    {K : Kind} {v before t n lc e : ℕ} {numbers groups ends table : List ℕ} → ElementsRoom K before n lc e numbers groups → EndsIn before e ends → StrapsNamed K v n numbers ends → HeadsRoom v before t n lc groups
    → EdgesLinked e ends table → K ≡ Straps → StrapsRoom v before n e numbers groups ends table
straps_linked R I S H L q = record { parts = straps_room R q; linked = L; ends_in = I; holding = S.holding q; copies = H.copies }

-- the other edges, whose table this is
pub table_room : {K : Kind} {L : Rooms} {k : Counts} {v n count lp lr lc le ll : ℕ} {numbers verts : List ℕ} {measures : List Float} {groups ends table : List ℕ}
    → GrowRoom L k lp lr lc le ll → TablesFit K k.particles k.triangles k.edges v n count numbers verts measures groups → count - 1 ≤ L.particles - k.particles
    → EdgesLinked k.edges ends table → TableRoom k.particles count k.particles k.edges L.edges ends table
table_room R F fits X =
    let few = R.few_particles in
    let most = R.particles in
    let two = F.two in
    record { linked = X; few = R.few_edges; most = omega arith; heads = omega arith; behind = omega arith }

-- the tables behind parts 1 to 3: the edges' has grown, the others are as they were
pub grown_back : {K : Kind} {t e m : ℕ} {C E E' l : List ℕ} {r : Option ℕ} (l₀ x : List ℕ) → FrontKept K t e C E l₀ l → length x ≡ length (mid_of 4096 5120 l) → r ≡ Some m → EdgesGrew r E' x
    → FrontKept K t m C E' l₀ (put_mid 4096 5120 l x)
grown_back l₀ x M n q X = let B = edges_back M.0 n (linked_rows q X) in (B.0, B.1 ∙ M.1)

-- behind a worker that is done the next one finds what it asks
pub linked_done : {K : Kind} {corners ends outline links : List ℕ} (r : Ran) (q : Counts) → r ≡ Ok q → LinkedAfter K corners ends outline links r
    → MeshLinked K q.triangles q.edges q.boundary corners ends outline links
linked_done {K} {corners} {ends} {outline} {links} r q e X = subst (λ (z : Ran). LinkedAfter K corners ends outline links z) e X

-- where one lacks room nothing is asked of the tables
pub linked_refused : (K : Kind) (corners ends outline links : List ℕ) (r : Ran) (c : Refusal) → r ≡ Err c → LinkedAfter K corners ends outline links r
linked_refused K corners ends outline links r c e = subst (LinkedAfter K corners ends outline links) (sym e) tt

-- ---- listed edges that are to go

-- the tables behind a worker that is done
pub parted_done : {K : Kind} {corners ends outline links : List ℕ} (list : List ℕ) (r : Ran) (q : Counts) → r ≡ Ok q → LinkedListed K corners ends outline links list r
    → MeshLinked K q.triangles (q.edges + listed list) q.boundary corners ends outline links
parted_done {K} {corners} {ends} {outline} {links} list r q e X = subst (λ (z : Ran). LinkedListed K corners ends outline links list z) e X

-- the edges' table is lent for them to go
pub close_lent : {K : Kind} {t e b : ℕ} {C E B l : List ℕ} → MeshLinked K t e b C E B l → EdgesLinked e E (mid_of 4096 5120 l)
close_lent M = edges_lent (front_of M)

-- and given back without them
pub close_back : {K : Kind} {t e e' b : ℕ} {C E E' B l : List ℕ} (x : List ℕ) → MeshLinked K t e b C E B l → length x ≡ length (mid_of 4096 5120 l) → EdgesLinked e' E' x → MeshLinked K t e' b C E' B (put_mid 4096 5120 l x)
close_back {l = l} x M n X = let F = edges_back (front_of M) n X in with_sides l F.0 F.1 M.sides

-- ---- the boundary's table in parts 4 to 6

-- it is lent with the faces that may join it
pub facets_lent : {K : Kind} {t e b n room : ℕ} {C E B l numbers : List ℕ} → MeshLinked K t e b C E B l → room ≤ 2048 → FanSound K n numbers C → FacetsLinked K n b room numbers C B (mid_of 9216 (length l - 9216) l)
facets_lent M few S = record { table_is = record { linked = sides_lent M; few = few }; sound = S }

-- behind the entries that followed
pub facets_next : {K : Kind} {n b room : ℕ} {numbers C B B' x x' : List ℕ} → FacetsLinked K n b room numbers C B x → SidesLinked b B' x' → FacetsLinked K n b room numbers C B' x'
facets_next F S = record { table_is = record { linked = S; few = F.table_is.few }; sound = F.sound }

-- it is given back with so many entries
pub facets_back : {K : Kind} {t e b m : ℕ} {C E B B' l : List ℕ} {r : Option ℕ} (x : List ℕ) → MeshLinked K t e b C E B l → length x ≡ length (mid_of 9216 (length l - 9216) l) → r ≡ Some m → GrownLinked r B' x
    → MeshLinked K t e m C E B' (put_mid 9216 (length l - 9216) l x)
facets_back x M n q X = sides_back M n (sides_grown q X)

-- the same tables by other counts
linked_as : {K : Kind} {t t' e e' b b' : ℕ} {C E B l : List ℕ} → t' ≡ t → e' ≡ e → b' ≡ b → MeshLinked K t e b C E B l → MeshLinked K t' e' b' C E B l
linked_as {K} {t} {t'} {e} {e'} {b} {b'} {C} {E} {B} {l} p q r M =
    subst (λ (z : ℕ). MeshLinked K z e' b' C E B l) (sym p) (subst (λ (z : ℕ). MeshLinked K t z b' C E B l) (sym q) (subst (λ (z : ℕ). MeshLinked K t e z C E B l) (sym r) M))

-- the straddlers are listed, and all edges are in the blocks still
pub parted_linked : {K : Kind} {C E B l : List ℕ} (k : Counts) (rows le : ℕ) (list : List ℕ) (r : Ran) → MeshLinked K k.triangles k.edges rows C E B l → RowsAfter k rows le list r → LinkedListed K C E B l list r
parted_linked k rows le list (Err c) M D = tt
parted_linked k rows le list (Ok q) M D = linked_as D.triangles D.whole D.boundary M

-- none is listed
pub none_linked : {K : Kind} {t b : ℕ} {C E B l : List ℕ} (e : ℕ) (list : List ℕ) → listed list ≡ 0 → MeshLinked K t e b C E B l → MeshLinked K t (e + listed list) b C E B l
none_linked e list z M = let s : e + listed list ≡ e = omega (arith, z) in linked_as refl s refl M

-- ---- beside a mesh in blocks

module _ (K : Kind) (L : Rooms) (k : Counts) (points : List Float) (roots corners : List ℕ) (volumes : List Float) (ends : List ℕ) (lengths : List Float) (outline log : List ℕ)
    (P : Ready L k (lent points roots corners volumes ends lengths outline log) (mesh_at k points roots corners volumes ends lengths outline)) where
  abbrev M : Mesh
  M = mesh_at k points roots corners volumes ends lengths outline

  -- no triangle of the block has a corner twice
  apart_ready : CornersApart k.particles 3 k.triangles (cell 0 (length corners / 3) corners)
  unfolding indices_fit_of mesh_at
  apart_ready =
      let n = length M.particles in
      let p = and_true (all (root_ok n) M.particles && all (corners_ok n) M.triangles && all (ends_ok n) M.edges) (all (side_ok n) M.boundary) P.indices in
      let q = and_true (all (root_ok n) M.particles && all (corners_ok n) M.triangles) (all (ends_ok n) M.edges) p.0 in
      let r = and_true (all (root_ok n) M.particles) (all (corners_ok n) M.triangles) q.0 in
      subst (λ (m : ℕ). CornersApart m 3 k.triangles (cell 0 (length corners / 3) corners)) (particles_count k points roots corners volumes ends lengths outline)
      (corners_apart n k.triangles corners volumes r.1)

  -- nor has an edge an end twice
  ends_ready : CornersApart k.particles 2 k.edges (cell 0 (length ends / 4) ends)
  unfolding indices_fit_of mesh_at
  ends_ready =
      let n = length M.particles in
      let p = and_true (all (root_ok n) M.particles && all (corners_ok n) M.triangles && all (ends_ok n) M.edges) (all (side_ok n) M.boundary) P.indices in
      let q = and_true (all (root_ok n) M.particles && all (corners_ok n) M.triangles) (all (ends_ok n) M.edges) p.0 in
      subst (λ (m : ℕ). CornersApart m 2 k.edges (cell 0 (length ends / 4) ends)) (particles_count k points roots corners volumes ends lengths outline)
      (ends_apart n k.edges ends lengths q.1)

  -- nor has a boundary entry
  sides_ready : CornersApart k.particles 2 k.boundary (cell 0 (length outline / 2) outline)
  unfolding indices_fit_of mesh_at
  sides_ready =
      let n = length M.particles in
      let p = and_true (all (root_ok n) M.particles && all (corners_ok n) M.triangles && all (ends_ok n) M.edges) (all (side_ok n) M.boundary) P.indices in
      subst (λ (m : ℕ). CornersApart m 2 k.boundary (cell 0 (length outline / 2) outline)) (particles_count k points roots corners volumes ends lengths outline)
      (sides_apart n k.boundary outline p.1)

  -- the tables can be built in lt places
  pub linkable_ready : (lt : ℕ) → 14336 ≤ lt → MeshLinkable K k.triangles k.edges k.boundary corners ends outline lt
  linkable_ready lt long =
      let R = P.rooms in
      let C = P.counts in
      let most : k.particles ≤ 1024 = omega (arith, C.particles, R.few_particles) in
      record {
        long = long;
        triangles = record {
          few = omega (arith, C.triangles, R.few_triangles);
          rows = omega (arith, C.triangles, R.corners);
          long = λ e. omega arith;
          apart = λ e. apart_below k.particles 1024 3 k.triangles (cell 0 (length corners / 3) corners) most apart_ready;
        };
        edges = record {
          long = omega arith;
          few = omega (arith, C.edges, R.few_edges);
          rows = omega (arith, C.edges, R.ends);
          apart = apart_below k.particles 1024 2 k.edges (cell 0 (length ends / 4) ends) most ends_ready;
        };
        sides = record {
          long = omega arith;
          few = omega (arith, C.boundary, R.few_boundary);
          rows = omega (arith, C.boundary, R.outline);
          apart = apart_below k.particles 1024 2 k.boundary (cell 0 (length outline / 2) outline) most sides_ready;
        };
      }

  -- what reading the fan of v asks
  pub fan_ready : {v : ℕ} {links : List ℕ} → v < k.particles → MeshLinked K k.triangles k.edges k.boundary corners ends outline links
      → FanLent k.triangles k.edges (length corners) (length volumes) (length ends) (length lengths) × FrontLinked K k.triangles k.edges corners ends links × (v < 1024)
  fan_ready h X = (fan_lent K L k points roots corners volumes ends lengths outline log P, front_of X, omega (arith, h, P.counts.particles, P.rooms.few_particles))

  -- the tables of a fan name the triangles that hold v
  pub fan_named : {v n count : ℕ} {numbers verts : List ℕ} {measures : List Float} {groups : List ℕ} → FanGrouped K M v n count numbers verts measures groups → FanNamed K v k.particles k.triangles n numbers corners
  unfolding mesh_at
  fan_named {v} F =
      record {
        apart = λ e. apart_ready;
        fan = λ e. F.tabled.numbers_are ∙ ap (λ (X : Kind). map (λ (x : Element). x.number) (fan_of X M v)) e ∙ fan_numbers M k.triangles corners volumes v refl;
      }
