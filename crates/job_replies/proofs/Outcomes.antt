-- Laws of an outcome and its reply: what a call came to and left in its blocks, told as words, is the reply of the outcome. Assumes nothing.
use Prim.Native.Nat.{ℕ, zero, suc, ◌+◌, ◌<◌, ◌≤◌}
use native.Mathlib.Omega.{arith}
use mathlib.Core.Path.{◌≡◌, refl, sym, ap, subst, ◌∙◌}
use mathlib.Core.Bool.{Bool, false}
use mathlib.Core.List.{List, [], ◌∷◌}
use lib.Dec.{eqb, ltb}
use lib.ListN.{length, take}
use lib.Seq.{length-take-le}
use lib.Ieee.{Float}
use Rattle.lists.specs.Lists.{pick}
use Rattle.lists.specs.LeftOut.{Rising}
use Rattle.lists.proofs.Stores.{tab_length}
use Rattle.model.specs.Run.{Need, Rooms, Run}
use Rattle.model.specs.Calls.{Outcome, done, too_small, first_fault, fitted, outcome, unless}
use Rattle.model.specs.Calls.{refused as turned_down}
use Rattle.model.specs.Reads.{Read, refused, value}
use Rattle.mesh.specs.At.{triangles_at, edges_at, boundary_at}
use Rattle.mesh.specs.Log.{World, words_in, log_at}
use Rattle.mesh.proofs.Lists.{particles_length, edges_length, log_length}
use Rattle.edge_drops.specs.Parted.{listed, edges_parted, mesh_parted, world_parted, Listing, ListingAfter}
use Rattle.mesh.specs.declared.Counts.{Counts}
use Rattle.mesh.specs.declared.Rooms.{Rooms as Given-Rooms}
use Rattle.work.specs.Working.{Within, Roomed}
use Rattle.work.specs.Ran.{Ran}
use Rattle.call_frame.specs.Framed.{words_change, Came}
use Rattle.call_frame.specs.declared.Answer.{Answer}
use Rattle.image.specs.Image.{image_words_of}
use Rattle.image_writing.specs.Stores.{left_words}
use Rattle.image_writing.proofs.Left.{rising_all, left_length}
use Rattle.reading_replies.specs.Given.{SmallCode}
use Rattle.mesh_replies.specs.Both.{BothReplied}
use Rattle.mesh_replies.specs.Told.{listed_edges, mesh_told, log_told, Telling}
use Rattle.call_words.specs.Rooms.{Limited}
use Rattle.job_replies.specs.Outcomes.{mesh_reply, log_reply, OutcomeReplied}
use Rattle.call_frame.proofs.Calls.{Counted}
use Rattle.mesh_replies.proofs.Shown.{told_image, rows_log}
use Rattle.replies.proofs.Saying.{pick_small}
use Rattle.std.specs.Prelude.{Ok, Err}
use Rattle.mesh.specs.Refused.{number_of}

-- ---- refusals are small

room_small : (L : Rooms) (N : Need) → too_small L N < 256
unfolding too_small
room_small L N =
    pick_small (ltb L.particles N.particles) 5 _ (omega arith)
    (pick_small (ltb L.edges N.edges) 6 _ (omega arith)
    (pick_small (ltb L.boundary N.boundary) 7 _ (omega arith) (pick_small (ltb L.log N.log) 8 0 (omega arith) (omega arith))))

pub fault_small : (L : Rooms) (Ns : List Need) → first_fault L Ns < 256
unfolding first_fault
fault_small L [] = omega arith
fault_small L (N ∷ Ns) = pick_small (eqb (too_small L N) 0) (first_fault L Ns) (too_small L N) (fault_small L Ns) (room_small L N)

fitted_small : (n : ℕ) (R : Run) → n < 256 → SmallCode (mesh_reply (fitted n R))
fitted_small zero R h = omega arith
fitted_small (suc n) R h = h

outcome_small : (L : Rooms) (R : Run) → SmallCode (mesh_reply (outcome L R))
unfolding outcome
outcome_small L R = fitted_small (first_fault L R.needs) R (fault_small L R.needs)

pub unless_small : (n : ℕ) (L : Rooms) (R : Run) → n < 256 → SmallCode (mesh_reply (unless n (outcome L R)))
unless_small zero L R h = outcome_small L R
unless_small (suc n) L R h = h

-- ---- what a call came to

-- the parts of an answer, its refusal as a number
abbrev number_in : Read Answer → ℕ
number_in (refused n) = suc n
number_in (value a) = 0

abbrev log_in : Read Answer → ℕ
log_in (refused n) = 0
log_in (value a) = a.counts.log

abbrev changed_in : Read Answer → Bool
changed_in (refused n) = false
changed_in (value a) = a.changed

-- the counts of what the blocks hold without the listed edges
pub parted_counted : (p : List Float) (r c : List ℕ) (v : List Float) (e : List ℕ) (l : List Float) (o g gone : List ℕ) (k : Counts) → Listing k.edges (length e) (length l) gone
    → Counted k (world_parted k p r c v e l o g gone)
unfolding world_parted mesh_parted edges_parted triangles_at boundary_at
parted_counted p r c v e l o g gone k Z =
    let s : ℕ = listed gone in
    let few : s ≤ length gone = omega (arith, Z.few, Z.long) in
    let many : length (edges_at (k.edges + s) e l) ≡ k.edges + s = edges_length (k.edges + s) e l in
    let n : length (take s gone) ≡ s = length-take-le s gone few in
    let left = left_length (take s gone) (edges_at (k.edges + s) e l) (subst (Rising (take s gone) (length (take s gone))) (sym many) (rising_all gone s (k.edges + s) Z.rising few)) in
    record {
      particles = particles_length k.particles p r;
      triangles = tab_length k.triangles _;
      edges = omega (arith, left, many, n);
      boundary = tab_length k.boundary _;
      log = log_length k.log g;
    }

module _ (R : Given-Rooms) (at : Counts → World) (gone : List ℕ) where
  -- it can be told: its refusal is small, or its rows and the listed edges stand in the lent blocks
  pub came_telling : (o : Outcome) (ran : Ran) (lp lr lc lv le ll lo lg logged : ℕ) → Came o R at ran → ListingAfter le ll gone ran
      → Roomed R (record { points = lp; roots = lr; corners = lc; volumes = lv; ends = le; lengths = ll; outline = lo; log = lg }) → Limited R logged → SmallCode (mesh_reply o)
      → Telling ran gone lp lr lc lv le ll lo lg logged
  came_telling (turned_down m) (Err n) lp lr lc lv le ll lo lg logged C Z A z s = let q : suc (number_of n) ≡ suc m = ap number_in C.said in omega (arith, q, s)
  came_telling (done M es any) (Err n) lp lr lc lv le ll lo lg logged C Z A z s = let q : suc (number_of n) ≡ 0 = ap number_in C.said in absurd (omega arith)
  came_telling o (Ok k) lp lr lc lv le ll lo lg logged C Z A z s =
      let w : Within k R = C.within in
      record {
        points = omega (arith, w.particles, A.points);
        roots = omega (arith, w.particles, A.roots);
        corners = omega (arith, w.triangles, A.corners);
        volumes = omega (arith, w.triangles, A.volumes);
        ends = Z.rows.ends;
        lengths = Z.rows.lengths;
        outline = omega (arith, w.boundary, A.outline);
        list = Z.long;
        rising = Z.rising;
        few_particles = omega (arith, w.particles, z.particles);
        few_triangles = omega (arith, w.triangles, z.triangles);
        few_edges = Z.few;
        few_boundary = omega (arith, w.boundary, z.boundary);
        words = omega (arith, w.log, A.log);
        entries = omega (arith, w.log, z.entries);
      }

module _ (R : Given-Rooms) (p : List Float) (r c : List ℕ) (v : List Float) (e : List ℕ) (l : List Float) (b g gone : List ℕ) (logged : ℕ) where
  -- what is told of it are the words of the outcome
  came_words : (o : Outcome) (ran : Ran) → Came o R (λ k. world_parted k p r c v e l b g gone) ran → Telling ran gone (length p) (length r) (length c) (length v) (length e) (length l) (length b) (length g) logged
      → (mesh_told ran gone p r c v e l b g ≡ mesh_reply o) × (log_told ran g ≡ log_reply o)
  unfolding world_parted mesh_parted edges_parted
  came_words (turned_down m) (Err n) C t = let q : suc (number_of n) ≡ suc m = ap number_in C.said in let f : number_of n ≡ m = omega (arith, q) in (ap refused f, refl)
  came_words (done M es any) (Err n) C t = let q : suc (number_of n) ≡ 0 = ap number_in C.said in absurd (omega arith)
  came_words (turned_down m) (Ok k) C t = let q : 0 ≡ suc m = ap number_in C.said in absurd (omega arith)
  came_words (done M es any) (Ok k) C t =
      let changed : words_change (log_at k.log g) ≡ any = ap changed_in C.said in
      let logged' : k.log ≡ length es = ap log_in C.said in
      let rows : left_words k (listed_edges gone) p r c v e l b ≡ image_words_of M
      = told_image k gone p r c v e l b (length g) logged t (mesh_parted k p r c v e l b gone) refl refl refl refl ∙ ap (λ (W : World). image_words_of W.mesh) C.shows in (
        (λ i. value (pick (changed i) 1 0 ∷ logged' i ∷ rows i)),
        rows_log k.log g t.words ∙ ap (λ (W : World). words_in W.log) C.shows,
      )

  -- so the reply is the outcome's
  pub came_replied : (o : Outcome) (ran : Ran) (lent x : ℕ) (out log : List ℕ) → Came o R (λ k. world_parted k p r c v e l b g gone) ran
      → Telling ran gone (length p) (length r) (length c) (length v) (length e) (length l) (length b) (length g) logged → BothReplied (mesh_told ran gone p r c v e l b g) (log_told ran g) lent logged x out log
      → OutcomeReplied o lent logged x out log
  came_replied o ran lent x out log C t h =
      let q = came_words o ran C t in
      subst (λ (ws : List ℕ). BothReplied (mesh_reply o) ws lent logged x out log) q.1 (subst (λ (m : Read (List ℕ)). BothReplied m (log_told ran g) lent logged x out log) q.0 h)
