-- Laws of parts 1 to 3 of a split: elements rewired, masses shared out, and the mesh whose edges are at their longest. Assumes nothing.
use Prim.Native.Nat.{ℕ, suc, ◌+◌, ◌-◌, ◌/◌, ◌≤◌, ◌<◌, zero-le, suc-le-suc}
use native.Mathlib.Omega.{arith}
use mathlib.Core.Path.{◌≡◌, refl, sym, ap, ap₂, ◌∙◌, subst}
use mathlib.Core.Bool.{false, false≢true}
use mathlib.Core.List.{List, [], ◌∷◌, map}
use lib.ListN.{length, get_or, length-append, length-map}
use lib.Ieee.{Float, nan}
use borrow.Author.Tests.{eq-eqb, ne_eqb, leb-true, leb-false, lt-ltb, le-ltb}
use Rattle.lists.specs.Lists.{tab, up_to, map_at_of}
use Rattle.lists.proofs.Sifts.{up_to_length}
use Rattle.lists.proofs.Stores.{map_at, tab_at, tab_length}
use Rattle.lists.proofs.Rows.{length_map_at, map_at_at}
use Rattle.columns.specs.Block.{cell}
use Rattle.model.specs.Mesh.{Particle, Triangle, Edge, Side, Mesh, blank, blank_edge}
use Rattle.model.specs.Elements.{Kind, Triangles, Straps, Nothing, element?, rest_of, corners_per_of}
use Rattle.model.specs.Split.{Part, Opening, copy_of, copy_for_of, group_at_of, moved, portion, only_at, copied, rewired_triangles, rewired_straps, other_edges, at_longest}
use Rattle.model.specs.Run as M
use Rattle.model.specs.Calls.{too_small}
use Rattle.mesh.specs.At.{particles_at, edges_at, boundary_at, mesh_at}
use Rattle.mesh.specs.declared.Counts.{Counts}
use Rattle.mesh.specs.declared.Rooms.{Rooms}
use Rattle.split_plan.specs.Opened.{part_at, blank_part, RestsIn, OpeningIn}
use Rattle.split_plan.proofs.Weights.{ringed_grouped}
use Rattle.rewire.specs.Stages.{PartsBy, TrianglesRewired, StrapsRewired, EdgesGrown}
use Rattle.work.specs.Rows.{GrownTo}
use Rattle.rewire.specs.Parts.{PartsRoom}
use Rattle.mesh.specs.Workers.{row_at}
use Rattle.rewire.specs.Edges.{EdgesRoom}
use Rattle.std.specs.Prelude.{Option, None, Some}
use Rattle.work.proofs.Grows.{edges_many, edges_get}
use Rattle.split.specs.Tables.{Opens, TablesFit}
use Rattle.work.specs.Places.{EndsIn}
use Rattle.split.specs.Steps.{GrowRoom, GrowthTold}
use Rattle.split.specs.Growing.{StrapsNamed, ElementsRoom, ElementsRewired, ShareRoom, SharedOut}
use Rattle.rewire.proofs.FanLaws.{moved_self}
use Rattle.mesh.proofs.Lists.{particles_length}
use Rattle.std.specs.Prelude.{Ok, Err}
use Rattle.mesh.specs.declared.refusals.Refusal.TheVariants.{Edges, Particles}

-- ---- elements

module _ {K : Kind} {before n lc e : ℕ} {numbers groups : List ℕ} (R : ElementsRoom K before n lc e numbers groups) where
  -- the tables fit a list whose rows they name
  room_of : (rows : ℕ) → ((i : ℕ) → i < n → get_or numbers i 0 < rows) → PartsRoom before n rows numbers groups
  room_of rows h = record { some = R.some; numbers_long = R.numbers_long; groups_long = R.groups_long; rising = R.rising; within = h; small = R.small }

  -- the triangles, and the edges
  pub triangles_room : K ≡ Triangles → PartsRoom before n (lc / 3) numbers groups
  triangles_room q = room_of (lc / 3) (R.in_triangles q)

  pub straps_room : K ≡ Straps → PartsRoom before n e numbers groups
  straps_room q = room_of e (R.in_edges q)

module _ {K : Kind} {v before n : ℕ} {numbers groups corners ends : List ℕ} where
  -- where the elements are triangles the edges are as they were
  pub rewired_triangles_lem : {corners' : List ℕ} → K ≡ Triangles → TrianglesRewired v before n numbers groups corners corners' → ElementsRewired K v before n numbers groups corners corners' ends ends
  unfolding rewired_straps
  rewired_triangles_lem {corners'} e T =
      subst (λ (k : Kind). ElementsRewired k v before n numbers groups corners corners' ends ends) (sym e) (record { triangles = T.triangles; edges = λ O m lengths P h. refl })

  -- where they are straps the triangles are
  pub rewired_straps_lem : {ends' : List ℕ} → K ≡ Straps → StrapsRewired v before n numbers groups ends ends' → ElementsRewired K v before n numbers groups corners corners ends ends'
  unfolding rewired_triangles
  rewired_straps_lem {ends'} e S =
      subst (λ (k : Kind). ElementsRewired k v before n numbers groups corners corners ends ends') (sym e) (record { triangles = λ O t volumes P h. refl; edges = S.straps })

  -- and where there are none both are
  pub rewired_none : K ≡ Nothing → ElementsRewired K v before n numbers groups corners corners ends ends
  unfolding rewired_triangles rewired_straps
  rewired_none e =
      subst (λ (k : Kind). ElementsRewired k v before n numbers groups corners corners ends ends) (sym e)
      (record { triangles = λ O t volumes P h. refl; edges = λ O m lengths P h. refl })

-- ---- the tables of a split

module _ {K : Kind} {O : Opening} {v before n count : ℕ} {numbers verts : List ℕ} {measures : List Float} {groups : List ℕ} (T : Opens K O v before n count numbers verts measures groups) where
  -- as the parts of an opening have them
  pub parts_by : PartsBy O v before n numbers groups
  parts_by =
      let size = T.ringed.size in
      record {
        at = T.at;
        before_is = T.before_is;
        numbered = T.numbered;
        size = size;
        group_is = λ i h. map_at (λ (p : Part). p.group) O.fan i blank_part 0 (omega arith) ∙ T.ringed.group_is i h;
      }

-- some opening has these numbers and groups
pub table_opening : ℕ → ℕ → ℕ → List ℕ → List ℕ → Opening
table_opening v before n numbers groups =
    record { v = v; before = before; fan = tab n (λ i. record { number = get_or numbers i 0; corners = []; measure = nan; group = get_or groups i 0 }); count = 0 }

module _ (v before n : ℕ) (numbers groups : List ℕ) (rises : (i j : ℕ) → i < j → j < n → get_or numbers i 0 < get_or numbers j 0) where
  -- it has them
  table_number : (i : ℕ) → i < n → (part_at (table_opening v before n numbers groups) i).number ≡ get_or numbers i 0
  unfolding table_opening
  table_number i h = ap (λ (p : Part). p.number) (tab_at n _ i blank_part h)

  pub table_parts : PartsBy (table_opening v before n numbers groups) v before n numbers groups
  unfolding table_opening
  table_parts =
      record {
        at = refl;
        before_is = refl;
        numbered = record { number_is = table_number; rising_are = rises };
        size = tab_length n _;
        group_is =
            λ i h.
            let size : length (table_opening v before n numbers groups).fan ≡ n = tab_length n _ in
            map_at (λ (p : Part). p.group) (table_opening v before n numbers groups).fan i blank_part 0 (omega arith)
            ∙ ap (λ (p : Part). p.group) (tab_at n _ i blank_part h);
      }

-- ---- the edges behind the rewiring

-- what the parts do not name has group 0
group_none : (ps : List Part) (k : ℕ) → ((i : ℕ) → i < length ps → (get_or ps i blank_part).number ≡ k → ⊥) → group_at_of ps k ≡ 0
unfolding group_at_of
group_none [] k h = refl
group_none (p ∷ ps) k h = rw (ne_eqb p.number k (h 0 (suc-le-suc zero-le))) (group_none ps k (λ i l. h (suc i) (suc-le-suc l)))

-- equal lists have equal rows, and a list that was changed by number has changed rows
module _ (e : ℕ) (A A' : List ℕ) (B : List Float) (j : ℕ) (h : j < e) where
  row_same : edges_at e A' B ≡ edges_at e A B → row_at A' B j ≡ row_at A B j
  row_same q = sym (edges_get e A' B j h) ∙ ap (λ (s : List Edge). get_or s j blank_edge) q ∙ edges_get e A B j h

  row_changed : (g : ℕ → Edge → Edge) → edges_at e A' B ≡ map_at_of g (edges_at e A B) → row_at A' B j ≡ g j (row_at A B j)
  row_changed g q =
      sym (edges_get e A' B j h) ∙ ap (λ (s : List Edge). get_or s j blank_edge) q
      ∙ map_at_at g (edges_at e A B) j blank_edge blank_edge (omega (arith, edges_many e A B))
      ∙ ap (g j) (edges_get e A B j h)

-- straps moved by an opening whose numbers these are: an edge that they do not name, so one that is not structural, is as it was
strap_kept :
    (O : Opening) (v before n e : ℕ) (numbers groups ends ends' : List ℕ) (lengths : List Float) → PartsBy O v before n numbers groups → StrapsNamed Straps v n numbers ends
    → edges_at e ends' lengths ≡ rewired_straps Straps O (edges_at e ends lengths)
    → (j : ℕ) → j < e → element? Straps (row_at ends' lengths j) ≡ false → row_at ends' lengths j ≡ row_at ends lengths j
unfolding rewired_straps
strap_kept O v before n e numbers groups ends ends' lengths P S E j l t =
    row ∙ ap (λ (g : ℕ). moved O.v (copy_for_of O.v O.before g) (row_at ends lengths j)) alone ∙ moved_self O.v (row_at ends lengths j)
  where
    row : row_at ends' lengths j ≡ moved O.v (copy_of O (group_at_of O.fan j)) (row_at ends lengths j)
    row = row_changed e ends ends' lengths j l (λ i. moved O.v (copy_of O (group_at_of O.fan i))) E

    flag : (row_at ends' lengths j).structural ≡ (row_at ends lengths j).structural
    flag = ap (λ (x : Edge). x.structural) row

    alone : group_at_of O.fan j ≡ 0
    alone =
        group_none O.fan j
        (λ i b q.
        let size = P.size in
        let m : i < n = omega arith in
        let one : (row_at ends lengths j).structural ≡ 1 = ap (λ (x : ℕ). cell 0 (length ends / 4) ends 2 x) (sym q ∙ P.numbered.number_is i m) ∙ S.structural refl i m in
        false≢true (sym t ∙ eq-eqb _ 1 (flag ∙ one)))

-- a row that is no element is as it was
pub row_kept :
    (K : Kind) (v before n e : ℕ) (numbers groups corners corners' ends ends' : List ℕ) (lengths : List Float)
    → ((i j : ℕ) → i < j → j < n → get_or numbers i 0 < get_or numbers j 0) → e ≤ length ends / 4 → StrapsNamed K v n numbers ends
    → ElementsRewired K v before n numbers groups corners corners' ends ends'
    → (j : ℕ) → j < e → element? K (row_at ends' lengths j) ≡ false → row_at ends' lengths j ≡ row_at ends lengths j
unfolding rewired_straps
row_kept Triangles v before n e numbers groups corners corners' ends ends' lengths rises h S E j l t =
    row_same e ends ends' lengths j l (E.edges (table_opening v before n numbers groups) e lengths (table_parts v before n numbers groups rises) h)
row_kept Nothing v before n e numbers groups corners corners' ends ends' lengths rises h S E j l t =
    row_same e ends ends' lengths j l (E.edges (table_opening v before n numbers groups) e lengths (table_parts v before n numbers groups rises) h)
row_kept Straps v before n e numbers groups corners corners' ends ends' lengths rises h S E j l t =
    let O = table_opening v before n numbers groups in
    let P = table_parts v before n numbers groups rises in
    strap_kept O v before n e numbers groups ends ends' lengths P S (E.edges O e lengths P h) j l t

-- ---- how many

-- a list that has a copy for each group but the first
pub copied_long : (O : Opening) (ps : List Particle) → 1 ≤ O.count → length (copied O ps) ≡ length ps + O.count - 1
unfolding copied
copied_long O ps h =
    let first = length_map_at (only_at O.v (portion O 0)) ps in
    let second : length (map (λ (g : ℕ). portion O (suc g) (get_or ps O.v blank)) (up_to (O.count - 1))) ≡ O.count - 1 =
    length-map (up_to (O.count - 1)) (λ (g : ℕ). portion O (suc g) (get_or ps O.v blank)) ∙ up_to_length (O.count - 1) in
    length-append (map_at_of (only_at O.v (portion O 0)) ps) (map (λ (g : ℕ). portion O (suc g) (get_or ps O.v blank)) (up_to (O.count - 1)))
    ∙ omega (arith, first, second)

-- the particles where the edges are at their longest
pub longest_particles : (K : Kind) (O : Opening) (A : Mesh) → 1 ≤ O.count → length (at_longest K O A).particles ≡ length A.particles + O.count - 1
unfolding at_longest
longest_particles K O A h = copied_long O A.particles h

-- ---- what lacks

pub lacks_5 : (L : M.Rooms) (N : M.Need) → L.particles < N.particles → too_small L N ≡ 5
unfolding too_small
lacks_5 L N h = rw (lt-ltb L.particles N.particles h)

pub lacks_6 : (L : M.Rooms) (N : M.Need) → N.particles ≤ L.particles → L.edges < N.edges → too_small L N ≡ 6
unfolding too_small
lacks_6 L N h l = rw (le-ltb L.particles N.particles h, lt-ltb L.edges N.edges l)

-- ---- the whole of parts 1 to 3

-- the first particles of a mesh in blocks rest as the block of points says
pub rests_at : (k : Counts) (points : List Float) (roots corners : List ℕ) (volumes : List Float) (ends : List ℕ) (lengths : List Float) (outline : List ℕ)
    → RestsIn (mesh_at k points roots corners volumes ends lengths outline) k.particles points
unfolding rest_of mesh_at particles_at
rests_at k points roots corners volumes ends lengths outline w h = ap (λ (p : Particle). record { x = p.rest_x; y = p.rest_y }) (tab_at k.particles _ w blank h)

-- two meshes with equal lists
mesh_path : {a a' : List Particle} {b b' : List Triangle} {c c' : List Edge} (d : List Side) → a ≡ a' → b ≡ b' → c ≡ c'
    → ◌≡◌ {A = Mesh} (record { particles = a; triangles = b; edges = c; boundary = d }) (record { particles = a'; triangles = b'; edges = c'; boundary = d })
mesh_path d ea eb ec = λ i. record { particles = ea i; triangles = eb i; edges = ec i; boundary = d }

module _ {K : Kind} {L : Rooms} {k : Counts} {v n count lp lr lc le ll : ℕ} {numbers verts : List ℕ} {measures : List Float} {groups : List ℕ} (R : GrowRoom L k lp lr lc le ll)
    (F : TablesFit K k.particles k.triangles k.edges v n count numbers verts measures groups) where
  -- what the elements ask
  pub elements_room : count - 1 ≤ L.particles - k.particles → ElementsRoom K k.particles n lc k.edges numbers groups
  elements_room fits =
      let few = R.few_particles in
      let two = F.two in
      let most = R.particles in
      record {
        some = omega (arith, F.here);
        numbers_long = F.numbers_long;
        groups_long = F.ring.groups;
        rising = F.rising;
        in_triangles = λ e i h. omega (arith, F.in_triangles e i h, R.corners);
        in_edges = F.in_edges;
        small = λ i h. omega (arith, F.below i h);
      }

  -- what the copies ask
  pub share_room : count - 1 ≤ L.particles - k.particles → ShareRoom v k.particles n count (length groups) (length measures) lp lr
  share_room fits =
      let few = R.few_particles in
      let two = F.two in
      let most = R.particles in
      record {
        here = F.here;
        two = two;
        few = omega arith;
        groups_long = F.ring.groups;
        measures_long = F.measures_long;
        points = omega (arith, R.points);
        roots = omega (arith, R.roots);
      }

-- what the other edges ask, behind the rewiring
pub edges_room :
    {K : Kind} {L : Rooms} {k : Counts} {v n count lp lr lc : ℕ} {numbers verts : List ℕ} {measures : List Float} {groups corners corners' ends ends' : List ℕ} {lengths : List Float}
    → GrowRoom L k lp lr lc (length ends) (length lengths) → TablesFit K k.particles k.triangles k.edges v n count numbers verts measures groups
    → EndsIn k.particles k.edges ends → StrapsNamed K v n numbers ends → count - 1 ≤ L.particles - k.particles
    → ElementsRewired K v k.particles n numbers groups corners corners' ends ends' → length ends' ≡ length ends → (c : ℕ) → c ≡ corners_per_of K
    → EdgesRoom K v k.particles c n count k.particles k.edges L.edges verts groups lp ends' lengths
edges_room {K} {L} {k} {v} {n} {count} {lp} {lr} {lc} {numbers} {verts} {measures} {groups} {corners} {corners'} {ends} {ends'} {lengths} R F I S fits E long c e =
    subst (λ (c : ℕ). EdgesRoom K v k.particles c n count k.particles k.edges L.edges verts groups lp ends' lengths) (sym e)
    (record {
      copy =
          record {
            ring = F.ring;
            small = omega (arith, R.few_particles, R.particles, F.two);
            rows = R.edges;
            columns = record { ends = omega (arith, R.ends, long); lengths = R.lengths };
          };
      rests = omega (arith, R.particles, R.points);
      v_in = F.here;
      corners_in = F.corners_in;
      ends_in =
          λ j h t.
          let kept : row_at ends lengths j ≡ row_at ends' lengths j =
          sym (row_kept K v k.particles n k.edges numbers groups corners corners' ends ends' lengths F.rising (omega (arith, R.edges, R.ends)) S E j h t) in
          subst (λ (r : Edge). (r.a < k.particles) × (r.b < k.particles)) kept (I.first j h, I.second j h);
    })

-- what a split that the tables hold asks of the mesh before it
module _ {K : Kind} {O : Opening} {v n count : ℕ} {numbers verts : List ℕ} {measures : List Float} {groups : List ℕ} (k : Counts) (points : List Float) (roots corners : List ℕ) (volumes : List Float) (ends : List ℕ) (lengths : List Float)
    (outline : List ℕ) (T : Opens K O v k.particles n count numbers verts measures groups) where
  opening_in : OpeningIn O (mesh_at k points roots corners volumes ends lengths outline) v k.particles (corners_per_of K) n count k.particles verts groups points
  opening_in =
      record { at = T.at; before_is = T.before_is; count_is = T.count_is; ringed = T.ringed; rests = rests_at k points roots corners volumes ends lengths outline }

  -- how many particles it comes to
  grown_particles : 2 ≤ count → length (at_longest K O (mesh_at k points roots corners volumes ends lengths outline)).particles ≡ k.particles + count - 1
  unfolding mesh_at
  grown_particles two =
      let is = T.count_is in
      longest_particles K O (mesh_at k points roots corners volumes ends lengths outline) (omega arith)
      ∙ ap₂ (λ (a b : ℕ). a + b - 1) (particles_length k.particles points roots) is

-- parts 1 to 3 over the blocks: what is told in each case
module _ {K : Kind} {L : Rooms} {k : Counts} {v n count lr lc : ℕ} {numbers verts : List ℕ} {measures : List Float} {groups : List ℕ} (points : List Float) (roots corners ends : List ℕ) (lengths : List Float)
    (R : GrowRoom L k (length points) lr lc (length ends) (length lengths)) (F : TablesFit K k.particles k.triangles k.edges v n count numbers verts measures groups) where
  -- there is no room for the particles
  pub grow_lacks_particles : (after : Counts → List Float → List ℕ → Mesh) → L.particles - k.particles < count - 1
      → GrowthTold K L k v n count numbers verts measures groups (λ q volumes outline. mesh_at q points roots corners volumes ends lengths outline) after (Err Particles)
  grow_lacks_particles after h =
      record {
        told =
            λ O volumes outline T.
            let many = grown_particles k points roots corners volumes ends lengths outline T F.two in
            (λ b l. lacks_5 _ _ (omega (arith, many)), omega arith);
      }

  module _ {corners₁ ends₁ ends₂ : List ℕ} {lengths₂ : List Float} {c : ℕ} {r : Option ℕ} (fits : count - 1 ≤ L.particles - k.particles) (E : ElementsRewired K v k.particles n numbers groups corners corners₁ ends ends₁)
      (is : c ≡ corners_per_of K) (G : EdgesGrown K v k.particles c n count k.particles k.edges L.edges verts groups points ends₁ ends₂ lengths lengths₂ r) where
    -- the edges as they grew, from those before the rewiring
    edges_grew : (O : Opening) (volumes : List Float) (outline : List ℕ) → Opens K O v k.particles n count numbers verts measures groups
        → GrownTo r L.edges (at_longest K O (mesh_at k points roots corners volumes ends lengths outline)).edges (λ m. edges_at m ends₂ lengths₂)
    unfolding at_longest mesh_at
    edges_grew O volumes outline T =
        let M = mesh_at k points roots corners volumes ends lengths outline in
        let G' : EdgesGrown K v k.particles (corners_per_of K) n count k.particles k.edges L.edges verts groups points ends₁ ends₂ lengths lengths₂ r =
        subst (λ (z : ℕ). EdgesGrown K v k.particles z n count k.particles k.edges L.edges verts groups points ends₁ ends₂ lengths lengths₂ r) is G in
        subst (λ (s : List Edge). GrownTo r L.edges (other_edges K M O s) (λ m. edges_at m ends₂ lengths₂)) (E.edges O k.edges lengths (parts_by T) (omega (arith, R.edges, R.ends)))
        (G'.edges O M (opening_in k points roots corners volumes ends lengths outline T))

    -- there is none for the edges
    pub grow_lacks_edges : (after : Counts → List Float → List ℕ → Mesh) → r ≡ None
        → GrowthTold K L k v n count numbers verts measures groups (λ q volumes outline. mesh_at q points roots corners volumes ends lengths outline) after (Err Edges)
    grow_lacks_edges after e =
        record {
          told =
              λ O volumes outline T.
              let M = mesh_at k points roots corners volumes ends lengths outline in
              let many = grown_particles k points roots corners volumes ends lengths outline T F.two in
              let lacks = subst (λ (z : Option ℕ). GrownTo z L.edges (at_longest K O M).edges (λ m. edges_at m ends₂ lengths₂)) e (edges_grew O volumes outline T) in
              let two = F.two in
              let most = R.particles in
              (λ b l. lacks_6 _ _ (omega (arith, many)) (leb-false (length (at_longest K O M).edges) L.edges lacks), omega arith);
        }

    -- the edges are at their longest
    pub grow_done :
        {points₂ : List Float} {roots₂ : List ℕ} (m : ℕ) → r ≡ Some m → lc ≡ length corners → SharedOut v k.particles n count groups measures points points₂ roots roots₂
        → GrowthTold K L k v n count numbers verts measures groups (λ q volumes outline. mesh_at q points roots corners volumes ends lengths outline)
        (λ q volumes outline. mesh_at q points₂ roots₂ corners₁ volumes ends₂ lengths₂ outline) (Ok m)
    unfolding at_longest mesh_at
    grow_done {points₂} {roots₂} m e lc_is S =
        record {
          told =
              λ O volumes outline T.
              let M = mesh_at k points roots corners volumes ends lengths outline in
              let grew = subst (λ (z : Option ℕ). GrownTo z L.edges (at_longest K O M).edges (λ j. edges_at j ends₂ lengths₂)) e (edges_grew O volumes outline T) in
              let low = leb-true (length (at_longest K O M).edges) L.edges grew.0 in
              let count_is = T.count_is in
              let two = F.two in
              let most = R.particles in
              let sum : k.particles + O.count - 1 ≡ k.particles + count - 1 = ap (λ (z : ℕ). k.particles + z - 1) count_is in (
                omega arith,
                omega (arith, grew.1, low),
                mesh_path (boundary_at k.boundary outline)
                    (ap (λ (z : ℕ). particles_at z points₂ roots₂) sum ∙ S.particles O T.at count_is (ringed_grouped O T.ringed) T.weighted)
                    (E.triangles O k.triangles volumes (parts_by T) (omega (arith, R.corners, lc_is)))
                    grew.2,
              );
        }
