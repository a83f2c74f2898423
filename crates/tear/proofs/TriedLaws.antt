-- Laws of one way to open an edge: its tables over the blocks, and its mean load. Assumes nothing.
use Prim.Native.Nat.{ℕ, ◌*◌, ◌<◌, ◌≤◌}
use native.Mathlib.Omega.{arith}
use mathlib.Core.Path.{◌≡◌, refl, sym, ◌∙◌, ap, subst}
use mathlib.Core.Bool.{Bool}
use mathlib.Core.List.{List}
use lib.ListN.{length, get_or, take}
use lib.Seq.{length-take-le}
use lib.Ieee.{Float}
use Rattle.model.specs.Mesh.{Mesh}
use Rattle.model.specs.Elements.{Kind, Element, elements_of, corners_per_of, fan_of}
use Rattle.model.specs.Crack.{mean_load}
use Rattle.model.specs.Pieces.{opens_without_confetti_of}
use Rattle.mesh.specs.At.{triangles_at, edges_at, mesh_at}
use Rattle.mesh.specs.declared.Counts.{Counts}
use Rattle.elements.specs.Table.{Cornered, Tabled, TableRoom, elements_in}
use Rattle.elements.proofs.Found.{elements_in_lem, fan_of_lem}
use Rattle.links.specs.Linked.{FrontLinked, MeshLinked}
use Rattle.links.proofs.Parts.{front_of}
use Rattle.reach.specs.Walk.{Lent}
use Rattle.reach.specs.Opens.{Opens}
use Rattle.reach.proofs.Opening.{lent_by, opens_is}
use Rattle.split_plan.specs.Opened.{opening_by, CornersBelow}
use Rattle.split.specs.Tables.{FanLent, FanTables, FanRead, opened_by}
use Rattle.work.proofs.Placed.{particles_count, triangles_count, edges_count}
use Rattle.split.proofs.Fitted.{all_few}
use Rattle.split.proofs.Below.{Few, rows_of, table_below, fan_corners, fan_number}
use Rattle.split.proofs.GrowLaws.{rests_at}
use Rattle.tear.specs.Ways.{SidesRoom, FarSides, NumberIn, MeanRoom, MeanTold, mean_of}
use Rattle.tear.specs.Tried.{WayReady, WayTables, WayRead, LoadsLong, WayLoad, OpensRoom}

module _ (K : Kind) (k : Counts) (points : List Float) (roots corners : List ℕ) (volumes : List Float) (ends : List ℕ) (lengths : List Float) (outline : List ℕ) (v w : ℕ)
    (P : WayReady v w k (length points) (length corners) (length volumes) (length ends) (length lengths) (mesh_at k points roots corners volumes ends lengths outline)) where
  abbrev M : Mesh
  M = mesh_at k points roots corners volumes ends lengths outline

  -- what reading the fan asks
  pub way_lent : {links : List ℕ} → MeshLinked K k.triangles k.edges k.boundary corners ends outline links
      → FanLent k.triangles k.edges (length corners) (length volumes) (length ends) (length lengths) × FrontLinked K k.triangles k.edges corners ends links × (v < 1024)
  way_lent X = (
    record { few = (P.few_triangles, P.few_edges); corners = P.corners; volumes = P.volumes; ends = P.ends; lengths = P.lengths },
    front_of X,
    omega (arith, P.v_in, P.few_particles),
  )

  -- the tables have room for what was found
  pub way_found : {n ls : ℕ} {numbers verts : List ℕ} {measures : List Float} (ln lk lm : ℕ) → FanTables K v k.triangles k.edges corners volumes ends lengths n numbers verts measures → WayTables ln lk lm ls
      → length numbers ≡ ln → length verts ≡ lk → length measures ≡ lm → FanRead K v k.triangles k.edges corners volumes ends lengths n numbers verts measures
  way_found ln lk lm F T a b c =
      let few = F.few in
      let narrow = F.narrow in
      F.read (omega (arith, T.numbers)) (omega (arith, T.verts)) (omega (arith, T.measures))

  module _ (n : ℕ) (numbers verts : List ℕ) (measures : List Float) (F : FanRead K v k.triangles k.edges corners volumes ends lengths n numbers verts measures) where
    -- the fan of the mesh stands in the tables
    here : Tabled (corners_per_of K) (fan_of K M v) n numbers verts measures
    unfolding mesh_at
    here = F.tabled M refl refl

    -- its corners are among the particles
    below : n * corners_per_of K ≤ length verts → CornersBelow k.particles n (corners_per_of K) verts
    below long =
        subst (λ (p : ℕ). CornersBelow p n (corners_per_of K) verts) (particles_count k points roots corners volumes ends lengths outline)
        (table_below (length M.particles) n (corners_per_of K) (fan_of K M v) verts (fan_corners K M v P.indices) here.cornered long)

    -- what the sides ask
    pub sides_room : (per ls : ℕ) → per ≡ corners_per_of K → 4096 ≤ length verts → 2048 ≤ ls → SidesRoom v w n per verts (length points) ls
    sides_room per ls e lk long =
        let few = F.few in
        let narrow = F.narrow in
        let room : n * corners_per_of K ≤ length verts = omega arith in
        subst (λ (m : ℕ). SidesRoom v w n m verts (length points) ls) (sym e)
        (record {
          v_in = let a = P.v_in in let b = P.points in omega arith;
          w_in = let a = P.w_in in let b = P.points in omega arith;
          verts_long = room;
          sides_long = omega arith;
          corners_in = λ i h. let a = below room i h in let b = P.points in omega arith;
        })

    -- the sides that were found
    pub way_read : (per : ℕ) (sides : List ℕ) → per ≡ corners_per_of K → 4096 ≤ length verts → FarSides v w n per verts points sides → WayRead K v w M n numbers verts measures sides
    way_read per sides e lk S =
        let narrow = F.narrow in
        let room : n * corners_per_of K ≤ length verts = omega arith in
        let X : FarSides v w n (corners_per_of K) verts points sides = subst (λ (m : ℕ). FarSides v w n m verts points sides) e S in
        record {
          tabled = here;
          few = F.few;
          narrow = F.narrow;
          sides_are = X.are M (fan_of K M v) k.particles here.cornered (rests_at k points roots corners volumes ends lengths outline) P.v_in P.w_in (below room);
          two = X.two;
        }

  -- ---- loads

  module _ (n : ℕ) (numbers verts : List ℕ) (measures : List Float) (sides : List ℕ) (F : WayRead K v w M n numbers verts measures sides) where
    -- the numbers name triangles or edges
    named : (i : ℕ) → i < n → NumberIn K k.triangles k.edges (get_or numbers i 0)
    named i h =
        let b : get_or numbers i 0 < rows_of K M = fan_number K M v n numbers verts measures F.tabled i h in
        record {
          triangle = λ q. subst (λ (m : ℕ). get_or numbers i 0 < m) (ap (λ (z : Kind). rows_of z M) q ∙ triangles_count k points roots corners volumes ends lengths outline) b;
          strap = λ q. subst (λ (m : ℕ). get_or numbers i 0 < m) (ap (λ (z : Kind). rows_of z M) q ∙ edges_count k points roots corners volumes ends lengths outline) b;
        }

    pub mean_room : (ls lo : ℕ) → n ≤ length numbers → n ≤ ls → LoadsLong K k lo → MeanRoom K n numbers ls lo (length lengths)
    mean_room ls lo a b Q =
        record {
          few = F.few;
          numbers_long = a;
          sides_long = b;
          has = λ i h.
              let N = named i h in
              record { triangle = λ q. let x = N.triangle q in let y = Q.long q in omega arith; strap = λ q. let x = N.strap q in let y = P.lengths in omega arith };
        }

    pub way_load : (loads : List Float) (r : Float) → MeanTold K n numbers sides loads lengths r → WayLoad K v w k loads M r
    unfolding mean_load mean_of mesh_at
    way_load loads r T =
        record {
          is = λ ls q.
              T.is ls M k.triangles k.edges ends v w (fan_of K M v)
              (record {
                loads_in = record { loads_are = q; edges_are = refl };
                count = F.tabled.cornered.count;
                numbers_are = F.tabled.numbers_are;
                sides_are = F.sides_are;
                numbers_in = named;
              });
        }

-- ---- does it open without confetti

-- the table of all elements holds those of the mesh in the blocks
pub elements_here : (K : Kind) (k : Counts) (points : List Float) (roots corners : List ℕ) (volumes : List Float) (ends : List ℕ) (lengths : List Float) (outline : List ℕ) (m per : ℕ) (numbers verts : List ℕ) (measures : List Float)
    → Tabled (corners_per_of K) (elements_in K (triangles_at k.triangles corners volumes) (edges_at k.edges ends lengths)) m numbers verts measures → per ≡ corners_per_of K
    → Cornered per (elements_of K (mesh_at k points roots corners volumes ends lengths outline)) m verts
unfolding mesh_at
elements_here K k points roots corners volumes ends lengths outline m per numbers verts measures T e =
    let M : Mesh = mesh_at k points roots corners volumes ends lengths outline in
    subst (λ (c : ℕ). Cornered c (elements_of K M) m verts) (sym e) (subst (λ (es : List Element). Cornered (corners_per_of K) es m verts) (sym (elements_in_lem K M)) T.cornered)

module _ (K : Kind) (k : Counts) (points : List Float) (roots corners : List ℕ) (volumes : List Float) (ends : List ℕ) (lengths : List Float) (outline : List ℕ) (v n m per : ℕ) (numbers verts : List ℕ) (measures : List Float) (groups : List ℕ)
    (P : TableRoom k.triangles k.edges (length corners) (length volumes) (length ends) (length lengths) 2048 4096 2048)
    (Q : OpensRoom n (length (fan_of K (mesh_at k points roots corners volumes ends lengths outline) v)) (length groups))
    (T : Tabled (corners_per_of K) (elements_in K (triangles_at k.triangles corners volumes) (edges_at k.edges ends lengths)) m numbers verts measures) (e : per ≡ corners_per_of K) where
  abbrev Here : Mesh
  Here = mesh_at k points roots corners volumes ends lengths outline

  cornered : Cornered per (elements_of K Here) m verts
  cornered = elements_here K k points roots corners volumes ends lengths outline m per numbers verts measures T e

  pub opens_lent : 4096 ≤ length verts → (s q : ℕ) → 2048 ≤ s → 2048 ≤ q → Lent m per v verts (take n groups) s q
  opens_lent lk s q hs hq =
      let F : Few m per = subst (Few m) (sym e) (all_few K k.triangles k.edges m corners volumes ends lengths numbers verts measures P.few.0 P.few.1 T) in
      let few = F.few in
      let narrow = F.narrow in
      lent_by {groups = take n groups} cornered (record { some = F.width.0; whole = omega arith }) (omega arith) (omega arith)
      (length-take-le n groups Q.groups ∙ Q.every ∙ ap length (fan_of_lem K Here v))

  pub opens_told : (count minimum : ℕ) (r : Bool) → Opens m per v verts (take n groups) count minimum r → r ≡ opens_without_confetti_of K Here minimum (opened_by K Here v n count groups)
  opens_told count minimum r O =
      opens_is O K Here (sym e) cornered (length Here.particles)
      ∙ ap (λ (es : List Element). opens_without_confetti_of K Here minimum (opening_by v (length Here.particles) es (take n groups) count)) (sym (fan_of_lem K Here v))
