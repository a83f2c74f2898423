-- What an entry knows once an input is accepted and has room: its counts fit, its blocks fit into the lent ones, and so does every world within the rooms.
use Rattle.std.proofs.Common.{ℕ, ◌≤◌, min, [], length, arith}
use Rattle.mesh.specs.Given.{Given, sizes, Lent, rooms_of}
use Rattle.mesh.specs.Filled.{Fits, Holds, lent}
use Rattle.mesh.specs.declared.Counts.{Counts}
use Rattle.judge.proofs.Joined.{Sized}

-- the lengths of an input's blocks
abbrev pub lent_of : Given → Lent
lent_of G = lent G.points G.roots G.corners G.volumes G.ends G.lengths G.outline []

-- the same of its sizes, by the lengths that they were tested by
abbrev pub SizedInput : Given → Type 0
SizedInput G = Sized (length G.points) (length G.roots) (length G.corners) (length G.volumes) (length G.ends) (length G.lengths) (length G.outline)

-- its counts fit its own blocks
pub input_fits : (G : Given) → SizedInput G → Fits (sizes G) (lent_of G)
input_fits G s =
    record {
      points = omega arith;
      roots = omega (arith, s.particles);
      corners = omega arith;
      volumes = omega (arith, s.triangles);
      ends = omega arith;
      lengths = omega (arith, s.edges);
      outline = omega arith;
      log = omega arith;
    }

-- a number within the smaller of two is within both
within : (n a b c : ℕ) → n ≤ min a (min b c) → (n ≤ a) × (n ≤ b) × (n ≤ c)
within n a b c h = (omega arith, omega arith, omega arith)

-- where its counts are within the rooms, its blocks fit into the lent ones
pub input_held :
    (G : Given) (L : Lent) → SizedInput G → (sizes G).particles ≤ (rooms_of L).particles → (sizes G).triangles ≤ (rooms_of L).triangles → (sizes G).edges ≤ (rooms_of L).edges → (sizes G).boundary ≤ (rooms_of L).boundary
    → Holds (lent_of G) L
input_held G L s p t e b =
    let p' = within _ _ _ _ p in
    let t' = within _ _ _ _ t in
    let e' = within _ _ _ _ e in
    record {
      points = p'.1;
      roots = omega (arith, s.particles, p'.2);
      corners = t'.1;
      volumes = omega (arith, s.triangles, t'.2);
      ends = e'.1;
      lengths = omega (arith, s.edges, e'.2);
      outline = omega (arith, b);
    }

-- counts within the rooms fit the lent blocks
pub rooms_fit :
    (k : Counts) (L : Lent) → k.particles ≤ (rooms_of L).particles → k.triangles ≤ (rooms_of L).triangles → k.edges ≤ (rooms_of L).edges → k.boundary ≤ (rooms_of L).boundary → k.log ≤ (rooms_of L).log → Fits k L
rooms_fit k L p t e b g =
    let p' = within _ _ _ _ p in
    let t' = within _ _ _ _ t in
    let e' = within _ _ _ _ e in
    record {
      points = p'.1;
      roots = p'.2;
      corners = t'.1;
      volumes = t'.2;
      ends = e'.1;
      lengths = e'.2;
      outline = omega (arith, b);
      log = omega (arith, g);
    }
