-- Laws of one end of a torn edge split: the mesh behind it, its need, and the step of the run. Assumes nothing.
use Prim.Native.Nat.{ℕ, ◌+◌, ◌-◌, ◌/◌, ◌≤◌}
use native.Mathlib.Omega.{arith}
use mathlib.Core.Path.{◌≡◌, refl, sym, ◌∙◌, ap, ap₂, subst}
use mathlib.Core.Bool.{Bool, ◌&&◌}
use mathlib.Core.List.{List, [], ◌∷◌, ◌++◌, map, map-append, append_assoc}
use lib.ListN.{length, length-append, length-map}
use lib.Ieee.{Float}
use lib.Dec.{eqb}
use Rattle.lists.specs.Lists.{pick, stands, any, map_at_of}
use Rattle.lists.proofs.Rows.{length_map_at}
use Rattle.model.specs.Mesh.{Particle, Edge, Mesh}
use Rattle.model.specs.Elements.{Kind, ends_of}
use Rattle.model.specs.Run.{Entry, opened, Run}
use Rattle.model.specs.Split.{Opening, made, copies, at_longest, settled, straddles, split_entries, gone_entries, split_made}
use Rattle.model.specs.Cut.{slack, slackened}
use Rattle.model.specs.Crack.{hurt, damaged_at, bridges, torn}
use Rattle.model.specs.Calls.{too_small}
use Rattle.model_laws.proofs.Traced.{copied_length}
use Rattle.mesh.specs.At.{particles_at, edges_at, mesh_at}
use Rattle.mesh.specs.Log.{World, Words, words_of, world_of, world_at}
use Rattle.mesh.specs.Given.{as_rooms}
use Rattle.mesh.specs.declared.Counts.{Counts}
use Rattle.mesh.specs.declared.Rooms.{Rooms}
use Rattle.mesh.proofs.Lists.{mesh_path, world_path}
use Rattle.mesh.specs.Filled.{lent}
use Rattle.work.specs.Working.{Within, Ready, Works}
use Rattle.split.specs.Tables.{FanGrouped, opened_by}
use Rattle.links.specs.Linked.{MeshLinked}
use Rattle.edge_drops.specs.Parted.{edges_parted, world_parted}
use Rattle.edge_drops.proofs.PartedLaws.{world_closed}
use Rattle.split.specs.Linking.{LinkedAfter}
use Rattle.work.proofs.Placed.{particles_count}
use Rattle.tear.specs.Torn.{TearRoom, TearDone, TearTold, TearAsked}
use Rattle.split.specs.Steps.{logged_of, settled_world, need_of, split_world, Stepped}
use Rattle.work.proofs.Runs.{need_behind, went_step, works_known}
use Rattle.work.specs.Ran.{Ran}
use Rattle.tear.specs.Tears.{bridges_by, slack_by, Slackened, made_by, Damaged}
use Rattle.std.specs.Prelude.{Ok, Err}
use Rattle.mesh.specs.declared.refusals.Refusal.{Refusal}

-- ---- the mesh behind it

module _ (O : Opening) (v before count w x y : ℕ) (ev : O.v ≡ v) (eb : O.before ≡ before) (ec : O.count ≡ count) (ew : w ≡ pick (eqb v x) y x) where
  made_is : made O ≡ made_by before count
  unfolding made
  made_is = ap₂ made_by eb ec

  other_is : pick (eqb O.v x) y x ≡ w
  other_is = ap (λ (u : ℕ). pick (eqb u x) y x) ev ∙ sym ew

  bridge_is : (e : Edge) → bridges_by v before count w e.a e.b ≡ bridges O (pick (eqb O.v x) y x) e
  unfolding bridges_by
  bridge_is e =
      ap₂ (λ (u : ℕ) (l : List ℕ). stands u (ends_of e) && any (λ z. stands z l) (ends_of e)) (sym other_is) (ap₂ (λ (u : ℕ) (l : List ℕ). u ∷ l) (sym ev) (sym made_is))

  slack_map : (l : List Edge) → map (slack_by v before count w) l ≡ map (λ (e : Edge). pick (bridges O (pick (eqb O.v x) y x) e) (slack e) e) l
  slack_map [] = refl
  slack_map (e ∷ l) = ap₂ ◌∷◌ (ap (λ (b : Bool). pick b (slack e) e) (bridge_is e)) (slack_map l)

  pub torn_is : (q : Counts) (points : List Float) (roots roots' corners : List ℕ) (volumes : List Float) (ends : List ℕ) (lengths lengths' : List Float) (outline : List ℕ)
      → Slackened v before count w q.edges ends lengths lengths' → Damaged x y before count roots roots' → q.particles ≤ length roots / 2
      → mesh_at q points roots' corners volumes ends lengths' outline ≡ torn O (x, y) (mesh_at q points roots corners volumes ends lengths outline)
  unfolding mesh_at torn damaged_at slackened
  torn_is q points roots roots' corners volumes ends lengths lengths' outline S D h =
      mesh_path
      (D.particles q.particles points h
      ∙ ap (λ (l : List ℕ). map_at_of (λ i (p : Particle). pick (stands i (x ∷ y ∷ l)) (hurt p) p) (particles_at q.particles points roots)) (sym made_is))
      refl
      (S.edges ∙ slack_map (edges_at q.edges ends lengths))
      refl

-- ---- its need, and its log

-- no particle comes or goes
torn_particles : (O : Opening) (xy : ℕ × ℕ) (M : Mesh) → length (torn O xy M).particles ≡ length M.particles
unfolding torn damaged_at slackened
torn_particles O xy M = length_map_at (λ i (p : Particle). pick (stands i (xy.0 ∷ xy.1 ∷ made O)) (hurt p) p) M.particles

-- what is logged
abbrev logged_more : Kind → Opening → ℕ → ℕ → Mesh → List Entry
logged_more K O a b A = split_entries O ++ gone_entries (straddles K A O) A.edges ++ (opened a b ∷ [])

need_torn : (K : Kind) (O : Opening) (a b : ℕ) (xy : ℕ × ℕ) (R : Run)
    → need_behind R (torn O xy (settled K O (at_longest K O R.mesh))) (logged_more K O a b (at_longest K O R.mesh)) (length (at_longest K O R.mesh).edges) (length (settled K O (at_longest K O R.mesh)).boundary)
    ≡ need_of K O 1 (world_of R.mesh R.log)
unfolding need_of
need_torn K O a b xy R =
    let A = at_longest K O R.mesh in
    let S = settled K O A in
    let n : length (R.log ++ logged_more K O a b A) ≡ length (map words_of R.log) + (length (logged_of K O A) + 1)
    = length-append R.log (logged_more K O a b A) ∙ omega (arith, length-append (logged_of K O A) (opened a b ∷ []), length-map R.log words_of) in
    ap₂ (λ (p m : ℕ). record { particles = p; edges = length A.edges; boundary = length S.boundary; log = m }) (torn_particles O xy S) n

-- the log of the step
log_torn : (K : Kind) (O : Opening) (a b : ℕ) (R : Run)
    → (map words_of R.log ++ map words_of (logged_of K O (at_longest K O R.mesh))) ++ (words_of (opened a b) ∷ []) ≡ map words_of (R.log ++ logged_more K O a b (at_longest K O R.mesh))
log_torn K O a b R =
    let l = logged_of K O (at_longest K O R.mesh) in
    append_assoc (map words_of R.log) (map words_of l) (words_of (opened a b) ∷ [])
    ∙ ap (λ (m : List Words). map words_of R.log ++ m) (sym (map-append words_of l (opened a b ∷ [])))
    ∙ sym (map-append words_of R.log (l ++ (opened a b ∷ [])))

-- ---- the step of the run

module _ (K : Kind) (O : Opening) (a b : ℕ) (xy : ℕ × ℕ) (L : Rooms) (W : World) (at at' : Counts → World) where
  pub torn_refused : (c : Refusal) → Stepped K O L 1 W at (Err c) → Works (split_made (opened a b ∷ []) (torn O xy) K O) L W at' (Err c)
  unfolding split_made
  torn_refused c S =
      record {
        went = λ R e z.
            went_step L R _ _ _ _ at' (Err c) z (ap (too_small (as_rooms L)) (need_torn K O a b xy R ∙ ap (need_of K O 1) (sym e)) ∙ S.0, S.1);
      }

  pub torn_done : (q q' : Counts) → Stepped K O L 1 W at (Ok q) → Within q' L → (at' q').mesh ≡ torn O xy (at q).mesh → (at' q').log ≡ (at q).log ++ (words_of (opened a b) ∷ [])
      → Works (split_made (opened a b ∷ []) (torn O xy) K O) L W at' (Ok q')
  unfolding split_made split_world settled_world
  torn_done q q' S H m l =
      record {
        went = λ R e z.
            let A = at_longest K O R.mesh in
            let here : at q ≡ split_world K O (world_of R.mesh R.log) = S.3 ∙ ap (split_world K O) e in
            let mesh : (at' q').mesh ≡ torn O xy (settled K O A) = m ∙ ap (λ (X : World). torn O xy X.mesh) here in
            let log : (at' q').log ≡ map words_of (R.log ++ logged_more K O a b A) = l ∙ ap (λ (X : World). X.log ++ (words_of (opened a b) ∷ [])) here ∙ log_torn K O a b R in
            went_step L R _ _ _ _ at' (Ok q') z
            (ap (too_small (as_rooms L)) (need_torn K O a b xy R ∙ ap (need_of K O 1) (sym e)) ∙ S.0, H, world_path mesh log);
      }

  -- how many particles there are behind it
  pub split_count : (q : Counts) → Stepped K O L 1 W at (Ok q) → length (at q).mesh.particles ≡ length W.mesh.particles + (O.count - 1)
  unfolding split_world settled_world settled at_longest
  split_count q S = ap (λ (X : World). length X.mesh.particles) S.3 ∙ copied_length O W.mesh.particles

-- what is done behind it keeps the numbers of triangles and of edges, so the tables stay as they were left
pub linked_told : (K : Kind) (corners ends outline links : List ℕ) (s : Ran) (q : Counts) → s ≡ Ok (record { particles = q.particles; triangles = q.triangles; edges = q.edges; boundary = q.boundary; log = q.log + 1 })
    → MeshLinked K q.triangles q.edges q.boundary corners ends outline links → LinkedAfter K corners ends outline links s
linked_told K corners ends outline links s q f X = subst (LinkedAfter K corners ends outline links) (sym f) X

-- ---- over the blocks

module _ (K : Kind) (L : Rooms) (k : Counts) (points : List Float) (roots corners : List ℕ) (volumes : List Float) (ends : List ℕ) (lengths : List Float) (outline log : List ℕ)
    (P : Ready L k (lent points roots corners volumes ends lengths outline log) (mesh_at k points roots corners volumes ends lengths outline))
    {v n count : ℕ} {numbers verts : List ℕ} {measures : List Float} {groups : List ℕ}
    (G : FanGrouped K (mesh_at k points roots corners volumes ends lengths outline) v n count numbers verts measures groups) (w x y a b : ℕ) (T : TearAsked v w x y a b k.particles)
    (points' : List Float) (roots' corners' ends' : List ℕ) (lengths' : List Float) (outline' log' : List ℕ) where
  -- the split that is made
  abbrev the_opening : Opening
  the_opening = opened_by K (mesh_at k points roots corners volumes ends lengths outline) v n count groups

  abbrev entering : World
  entering = world_at k points roots corners volumes ends lengths outline log

  abbrev behind : Counts → World
  behind q = world_at q points' roots' corners' volumes ends' lengths' outline' log'

  -- the step that listed edges, where the blocks were closed up behind it
  pub closed_step : (ends₁ : List ℕ) (lengths₁ : List Float) (list₁ : List ℕ) (r : Ran) (q : Counts) → r ≡ Ok q → edges_at q.edges ends' lengths' ≡ edges_parted q.edges ends₁ lengths₁ list₁
      → Stepped K the_opening L 1 entering (λ p. world_parted p points' roots' corners' volumes ends₁ lengths₁ outline' log' list₁) r → Stepped K the_opening L 1 entering behind (Ok q)
  closed_step ends₁ lengths₁ list₁ r q e c S =
      let T = subst (Stepped K the_opening L 1 entering (λ p. world_parted p points' roots' corners' volumes ends₁ lengths₁ outline' log' list₁)) e S in
      (T.0, T.1, T.2, world_closed q points' roots' corners' volumes ends₁ lengths₁ ends' lengths' outline' log' list₁ c ∙ T.3)

  module _ (q : Counts) (S : Stepped K the_opening L 1 entering behind (Ok q)) where
    -- the copies stand behind the particles
    copies_count : q.particles ≡ k.particles + (count - 1)
    unfolding world_at
    copies_count =
        sym (particles_count q points' roots' corners' volumes ends' lengths' outline') ∙ split_count K the_opening a b (x, y) L entering behind behind q S
        ∙ ap (λ (m : ℕ). m + (count - 1)) (particles_count k points roots corners volumes ends lengths outline)

    pub tear_room : length roots' ≡ length roots → length ends' ≡ length ends → length lengths' ≡ length lengths → length log' ≡ length log
        → TearRoom q.edges q.log x y a b k.particles count (length roots') (length ends') (length lengths') (length log')
    tear_room er ee el eg =
        let C = P.rooms in
        let H = S.1 in
        let i = P.counts.particles in
        let n = copies_count in
        record {
          log = let h = S.2 in let g = C.log in omega arith;
          a_few = T.a_few;
          b_few = T.b_few;
          edges = record { ends = let h = H.edges in let g = C.ends in omega arith; lengths = let h = H.edges in let g = C.lengths in omega arith };
          marks = record {
            x_in = let h = T.x_in in let g = C.roots in omega arith;
            y_in = let h = T.y_in in let g = C.roots in omega arith;
            some = let h = G.two in omega arith;
            copies_in = let h = G.two in let g = C.roots in let j = H.particles in omega arith;
          };
        }

    -- the torn edge is noted, its bridges slack, its particles damaged
    tear_works : (roots'' : List ℕ) (lengths'' : List Float) (log'' : List ℕ) → TearDone v k.particles count w x y a b q.edges q.log roots' roots'' ends' lengths' lengths'' log' log'' → length roots' ≡ length roots
        → Works (split_made (opened a b ∷ []) (torn the_opening (x, y)) K the_opening) L entering (λ p. world_at p points' roots'' corners' volumes ends' lengths'' outline' log'')
        (Ok (record { particles = q.particles; triangles = q.triangles; edges = q.edges; boundary = q.boundary; log = q.log + 1 }))
    unfolding world_at mesh_at
    tear_works roots'' lengths'' log'' D er =
        let H = S.1 in
        let C = P.rooms in
        torn_done K the_opening a b (x, y) L entering behind (λ p. world_at p points' roots'' corners' volumes ends' lengths'' outline' log'') q
        (record { particles = q.particles; triangles = q.triangles; edges = q.edges; boundary = q.boundary; log = q.log + 1 }) S
        (record { particles = H.particles; triangles = H.triangles; edges = H.edges; boundary = H.boundary; log = S.2 })
        (torn_is the_opening v k.particles count w x y refl (particles_count k points roots corners volumes ends lengths outline) refl T.other q points' roots' roots'' corners' volumes ends' lengths' lengths'' outline'
        D.slackened D.damaged (let h = H.particles in let g = C.roots in omega arith))
        D.noted

    pub tear_told : (roots'' : List ℕ) (lengths'' : List Float) (log'' : List ℕ) (s : Ran) → TearTold v k.particles count w x y a b q roots' roots'' ends' lengths' lengths'' log' log'' s → length roots' ≡ length roots
        → Works (split_made (opened a b ∷ []) (torn the_opening (x, y)) K the_opening) L entering (λ p. world_at p points' roots'' corners' volumes ends' lengths'' outline' log'') s
    tear_told roots'' lengths'' log'' s D er = works_known _ s (sym D.counts) (tear_works roots'' lengths'' log'' D.done er)

  pub tear_refused : (at : Counts → World) (r : Ran) (c : Refusal) → Stepped K the_opening L 1 entering at r → r ≡ Err c → Works (split_made (opened a b ∷ []) (torn the_opening (x, y)) K the_opening) L entering behind r
  tear_refused at r c R e = works_known (Err c) r (sym e) (torn_refused K the_opening a b (x, y) L entering at behind c (subst (Stepped K the_opening L 1 entering at) e R))
