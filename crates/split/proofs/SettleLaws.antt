-- Laws of parts 4 to 6 as a whole: what each worker asks, the rooms that lack, and the world behind them. Assumes nothing.
use mathlib.Core.Path.{◌≡◌, refl, sym, ◌∙◌, ap, subst}
use mathlib.Core.List.{List}
use Prim.Native.Nat.{ℕ, ◌+◌, ◌-◌, ◌/◌, ◌<◌, ◌≤◌}
use native.Mathlib.Omega.{arith}
use borrow.Author.Tests.{leb-true, leb-false, lt-ltb, le-ltb}
use lib.ListN.{length}
use lib.Ieee.{Float}
use Rattle.lists.proofs.Stores.{tab_at}
use Rattle.model.specs.Mesh.{blank}
use Rattle.model.specs.Elements.{Kind, rest_at, rest_of}
use Rattle.model.specs.Run.{Need}
use Rattle.model.specs.Run as R
use Rattle.model.specs.Split.{Opening, settled}
use Rattle.model.specs.Calls.{too_small}
use Rattle.mesh.specs.At.{particle_row, particles_at, triangles_at, boundary_at, mesh_at}
use Rattle.mesh.specs.Log.{World, world_at}
use Rattle.mesh.specs.Given.{as_rooms}
use Rattle.mesh.proofs.Lists.{log_length, mesh_path, world_path}
use Rattle.mesh.specs.declared.Counts.{Counts}
use Rattle.mesh.specs.declared.Rooms.{Rooms}
use Rattle.mesh.specs.Widths.{point_columns}
use Rattle.split_plan.specs.Opened.{RestsIn}
use Rattle.work.specs.Rows.{GrownTo}
use Rattle.straddling.specs.Tests.{Straddling}
use Rattle.std.specs.Prelude.{Option, None, Some}
use Rattle.work.specs.Working.{Within, SettleRoom}
use Rattle.edge_drops.specs.Parted.{mesh_parted, world_parted, ListingAfter}
use Rattle.split.specs.Tables.{Opens, TablesFit}
use Rattle.work.specs.Places.{EndsIn, SidesIn}
use Rattle.split.specs.Steps.{logged_of, settled_world}
use Rattle.split.specs.Settling.{BoundaryIn, BoundaryAsked, BoundaryTold, PartAsked, EdgesListed, PartedFor, RowsAfter, SettleAsked, SettledFor}
use Rattle.work.specs.Ran.{Ran}
use Rattle.std.specs.Prelude.{Ok, Err}
use Rattle.mesh.specs.declared.refusals.Refusal.TheVariants.{Boundary}

-- ---- rooms that lack

lacks_7 : (L : R.Rooms) (N : Need) → N.particles ≤ L.particles → N.edges ≤ L.edges → L.boundary < N.boundary → too_small L N ≡ 7
unfolding too_small
lacks_7 L N p e b = rw (le-ltb L.particles N.particles p, le-ltb L.edges N.edges e, lt-ltb L.boundary N.boundary b)

lacks_8 : (L : R.Rooms) (N : Need) → N.particles ≤ L.particles → N.edges ≤ L.edges → N.boundary ≤ L.boundary → L.log < N.log → too_small L N ≡ 8
unfolding too_small
lacks_8 L N p e b g = rw (le-ltb L.particles N.particles p, le-ltb L.edges N.edges e, le-ltb L.boundary N.boundary b, lt-ltb L.log N.log g)

-- ---- what is asked

-- tables that fit, with measures, meet what is asked
pub settle_asked : (K : Kind) (L : Rooms) (k : Counts) (v before n count extra : ℕ) (numbers verts : List ℕ) (measures : List Float) (groups : List ℕ) (lp lc lv : ℕ) (ends : List ℕ) (ll : ℕ) (outline : List ℕ) (lg : ℕ)
    → SettleRoom L k lc lv (length ends) ll (length outline) lg → k.particles ≡ before + count - 1 → k.particles ≤ lp / point_columns → TablesFit K before k.triangles k.edges v n count numbers verts measures groups
    → EndsIn 1024 k.edges ends → SidesIn before k.boundary outline → extra ≤ 1 → SettleAsked K L k v before n count extra numbers verts groups lp lc lv ends ll outline lg
settle_asked K L k v before n count extra numbers verts measures groups lp lc lv ends ll outline lg R q p T E S x =
    record {
      room = R;
      copied_all = q;
      points = p;
      here = T.here;
      two = T.two;
      ring = T.ring;
      numbers_long = T.numbers_long;
      in_triangles = T.in_triangles;
      below = T.below;
      corners_in = T.corners_in;
      ends_in = E;
      sides = S;
      one_extra = x;
    }

-- ---- the whole

module _ (K : Kind) (L : Rooms) (k : Counts) (v before n count extra : ℕ) (numbers verts groups : List ℕ) (points : List Float) (corners : List ℕ) (volumes : List Float) (ends : List ℕ) (lengths : List Float) (outline log : List ℕ) (A : SettleAsked K L k v before n count extra numbers verts groups (length points) (length corners) (length volumes) ends (length lengths) outline (length log)) where
  -- what the boundary asks
  pub boundary_asked : BoundaryAsked K v before n count k.boundary L.boundary numbers verts groups (length points) (length corners) outline
  boundary_asked =
      let C = A.room.counts in
      let R = A.room in
      record {
        facets =
            record {
              ring = A.ring;
              small = omega (arith, A.copied_all, A.two, C.particles, R.few_particles);
              numbers_long = A.numbers_long;
              in_corners = λ q i l. omega (arith, A.in_triangles q i l, C.triangles, R.corners);
              rows = C.boundary;
              columns = R.outline;
            };
        here = A.here;
        most = omega (arith, A.copied_all, A.two, C.particles, R.few_particles);
        rests_in = omega (arith, A.copied_all, A.two, A.points);
        below = A.below;
        corners_in = A.corners_in;
        sides = A.sides;
      }

  -- the world at entry
  abbrev W : List ℕ → World
  W roots = world_at k points roots corners volumes ends lengths outline log

  -- particles rest as the points say
  rests : (roots : List ℕ) → RestsIn (W roots).mesh before points
  unfolding world_at mesh_at particles_at rest_of
  rests roots w h = ap rest_at (tab_at k.particles (particle_row (length points / point_columns) (length roots / 2) points roots) w blank (omega (arith, A.copied_all, A.two)))

  module _ (measures : List Float) (O : Opening) (roots : List ℕ) (S : Opens K O v before n count numbers verts measures groups) where
    split_of : Straddling K O (W roots).mesh v before n count k.triangles k.edges verts groups corners volumes ends lengths
    unfolding world_at mesh_at
    split_of = record { at = S.at; before_is = S.before_is; count_is = S.count_is; ringed = S.ringed; triangles_are = refl; edges_are = refl }

    boundary_of : BoundaryIn K O (W roots).mesh k.triangles volumes v before n count numbers verts groups points corners
    unfolding world_at mesh_at
    boundary_of =
        record { at = S.at; before_is = S.before_is; count_is = S.count_is; ringed = S.ringed; numbered = S.numbered; rests = rests roots; triangles_are = refl; numbers_in = A.in_triangles }

    -- the boundary behind it
    sides_grown : (outline' : List ℕ) (r : Option ℕ) → BoundaryTold K v before n count k.boundary L.boundary numbers verts groups points corners outline outline' r
        → GrownTo r L.boundary (settled K O (W roots).mesh).boundary (λ q. boundary_at q outline')
    unfolding world_at mesh_at settled
    sides_grown outline' r B = B.sides O (W roots).mesh k.triangles volumes boundary_of

    -- how long the log was, and how much is logged
    log_was : length (W roots).log ≡ k.log
    unfolding world_at
    log_was = log_length k.log log

  -- the boundary lacks room
  pub refused_boundary : (outline' : List ℕ) (r : Option ℕ) → BoundaryTold K v before n count k.boundary L.boundary numbers verts groups points corners outline outline' r → r ≡ None
      → (at : List ℕ → Counts → World) → SettledFor K L extra v before n count numbers verts groups W at (Err Boundary)
  refused_boundary outline' r B q at =
      record {
        settling =
            λ measures.
            record {
              told =
                  λ O roots S.
                  let g = subst (λ (z : Option ℕ). GrownTo z L.boundary (settled K O (W roots).mesh).boundary (λ j. boundary_at j outline')) q (sides_grown measures O roots S outline' r B) in
                  ((λ p e hp he. lacks_7 (as_rooms L) _ hp he (leb-false _ _ g)), omega arith);
            };
      }

  -- what listing the straddlers asks
  pub part_asked : PartAsked K L k v before n count extra (length verts) (length groups) (length corners) ends (length log)
  part_asked =
      let C = A.room.counts in
      let R = A.room in
      record {
        here = A.here;
        ends_in = A.ends_in;
        straddle = record { ring = A.ring; few = omega (arith, C.triangles, R.few_triangles); corners = omega (arith, C.triangles, R.corners); ends = omega (arith, C.edges, R.ends) };
        few_edges = omega (arith, C.edges, R.few_edges);
        some = omega (arith, A.two);
        small = omega (arith, A.copied_all, A.two, C.particles, R.few_particles);
        one_extra = A.one_extra;
        log_in = C.log;
        log_long = R.log;
      }

  module _ (outline' : List ℕ) (r : Option ℕ) (rows : ℕ) (B : BoundaryTold K v before n count k.boundary L.boundary numbers verts groups points corners outline outline' r) (q : r ≡ Some rows) (list' log' : List ℕ) where
    module _ (measures : List Float) (O : Opening) (roots : List ℕ) (S : Opens K O v before n count numbers verts measures groups) where
      grown : GrownTo (Some rows) L.boundary (settled K O (W roots).mesh).boundary (λ j. boundary_at j outline')
      grown = subst (λ (z : Option ℕ). GrownTo z L.boundary (settled K O (W roots).mesh).boundary (λ j. boundary_at j outline')) q (sides_grown measures O roots S outline' r B)

      -- the boundary has room
      sides_fit : length (settled K O (W roots).mesh).boundary ≤ L.boundary
      sides_fit = leb-true _ _ grown.0

      module _ (z : Counts) (D : EdgesListed K O (W roots).mesh L k z extra rows ends lengths list' log log') where
        -- the world behind it
        world_is : world_parted z points roots corners volumes ends lengths outline' log' list' ≡ settled_world K O (W roots)
        unfolding world_parted mesh_parted world_at mesh_at settled_world settled
        world_is =
            world_path
            (mesh_path (ap (λ (i : ℕ). particles_at i points roots) D.particles) (ap (λ (i : ℕ). triangles_at i corners volumes) D.triangles) D.edges
            (ap (λ (i : ℕ). boundary_at i outline') D.boundary ∙ grown.2))
            D.entries

        within : Within z L
        within =
            let C = A.room.counts in
            record {
              particles = omega (arith, D.particles, C.particles);
              triangles = omega (arith, D.triangles, C.triangles);
              edges = omega (arith, D.few_edges, C.edges);
              boundary = omega (arith, D.boundary, grown.1, sides_fit);
              log = omega (arith, D.count, D.fits);
            }

    -- the boundary has room: what was told of the straddlers is told of the whole
    pub settled_told : (ran : Ran) → PartedFor K L k v before n count extra rows verts groups corners ends list' log log' ran
        → SettledFor K L extra v before n count numbers verts groups W (λ roots z. world_parted z points roots corners volumes ends lengths outline' log' list') ran
    settled_told (Err c) D =
        record {
          settling =
              λ measures.
              record {
                told =
                    λ O roots S.
                    let d = D.told O (W roots).mesh volumes lengths (split_of measures O roots S) in
                    let w = log_was measures O roots S in
                    let lacks : L.log < length (W roots).log + (length (logged_of K O (W roots).mesh) + extra) = omega (arith, d.1) in
                    ((λ p t hp ht. lacks_8 (as_rooms L) _ hp ht (sides_fit measures O roots S) lacks ∙ sym d.0), omega (arith, d.0));
              };
        }
    settled_told (Ok z) D =
        record {
          settling =
              λ measures.
              record {
                told =
                    λ O roots S.
                    let d = D.told O (W roots).mesh volumes lengths (split_of measures O roots S) in
                    let w = log_was measures O roots S in
                    (sides_fit measures O roots S, omega (arith, d.fits), within measures O roots S z d, world_is measures O roots S z d);
              };
        }

  -- the list behind it is one of the edges in the blocks
  pub settled_listed : (rows : ℕ) (list' : List ℕ) (ran : Ran) → RowsAfter k rows (length ends) list' ran → ListingAfter (length ends) (length lengths) list' ran
  settled_listed rows list' (Err c) D = tt
  settled_listed rows list' (Ok z) D = D.listing (length lengths) (omega (arith, A.room.counts.edges, A.room.lengths))
