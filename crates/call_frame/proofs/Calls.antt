-- A call that gives a mesh: checked, begun, worked on and finished, it answers what the model's call answers.
use Prim.Native.Nat.{ℕ, zero, suc, ◌<◌}
use native.Mathlib.Omega.{arith}
use mathlib.Core.Path.{◌≡◌, refl, sym, ◌∙◌, ap, subst}
use mathlib.Core.Bool.{Bool}
use mathlib.Core.List.{List, [], ◌∷◌, map}
use borrow.Author.Tests.{ne_eqb}
use lib.ListN.{length, length-map}
use lib.Ieee.{Float}
use Rattle.lists.specs.Lists.{any, tab}
use Rattle.lists.proofs.Stores.{tab_length}
use Rattle.model.specs.Mesh.{Mesh}
use Rattle.model.specs.Run.{Entry, split, edge, insert, opened, met, Run, start, changes, changed}
use Rattle.model.specs.Calls.{first_fault, Outcome, refused, done, fitted, outcome, unless}
use Rattle.model_laws.proofs.Steps.{Onward, refused_early}
use Rattle.model.specs.Reads.{Read, value}
use Rattle.model.specs.Reads.{refused as turned_down}
use Rattle.mesh.specs.At.{mesh_at, triangles_at, boundary_at}
use Rattle.mesh.specs.Log.{World, words_of, world_of, log_at, world_at}
use Rattle.mesh.specs.Given.{Given, Lent, mesh_of, rooms_of, as_rooms}
use Rattle.mesh.specs.Filled.{Filled}
use Rattle.mesh.specs.declared.Counts.{Counts}
use Rattle.mesh.specs.declared.Rooms.{Rooms}
use Rattle.mesh.proofs.Refused.{number_above, answer_tells}
use Rattle.judge.proofs.Accepted.{rooms_fit}
use Rattle.mesh.proofs.Agree.{agree, Zero, zeros}
use Rattle.mesh.proofs.Lists.{particles_length, edges_length, log_length}
use Rattle.work.specs.Working.{Within, Went, Works}
use Rattle.work.specs.Ran.{Ran}
use Rattle.call_frame.specs.Answered.{shown, counts_of, Answered}
use Rattle.call_frame.specs.Framed.{words_change, begun_with, Begun, RanFits, RanWithin, Came, Finished}
use Rattle.call_frame.specs.declared.Answer.{Answer}
use Rattle.std.specs.Prelude.{Result, Ok, Err}
use Rattle.mesh.specs.declared.refusals.Refusal.{Refusal}
use Rattle.mesh.specs.Refused.{number_of, answer_in}

-- ---- the log

-- whether anything changed, by the words of the entries
pub words_tell : (l : List Entry) → words_change (map words_of l) ≡ any changes l
unfolding any
words_tell [] = refl
words_tell (split c v ∷ l) = refl
words_tell (edge a b ∷ l) = words_tell l
words_tell (insert a b p q t ∷ l) = refl
words_tell (opened a b ∷ l) = words_tell l
words_tell (met a b p t ∷ l) = words_tell l

-- ---- what a worker came to, and the outcome

-- a refusal
pub came_refused : (o : Outcome) (R : Rooms) (at : Counts → World) (ran : Ran) (c : Refusal) → ran ≡ Err c → o ≡ refused (number_of c) → Came o R at ran
came_refused o R at ran c e q = rw (e, q) (record { said = refl; shows = refl; within = tt })

-- the counts are those of a world
pub record Counted (k : Counts) (W : World) : Type 0 where
  pub particles : length W.mesh.particles ≡ k.particles
  pub triangles : length W.mesh.triangles ≡ k.triangles
  pub edges : length W.mesh.edges ≡ k.edges
  pub boundary : length W.mesh.boundary ≡ k.boundary
  pub log : length W.log ≡ k.log

-- as they are of what the fronts of blocks hold
pub blocks_counted : (p : List Float) (r c : List ℕ) (v : List Float) (e : List ℕ) (l : List Float) (o g : List ℕ) (k : Counts) → Counted k (world_at k p r c v e l o g)
unfolding world_at mesh_at triangles_at boundary_at
blocks_counted p r c v e l o g k =
    record {
      particles = particles_length k.particles p r;
      triangles = tab_length k.triangles _;
      edges = edges_length k.edges e l;
      boundary = tab_length k.boundary _;
      log = log_length k.log g;
    }

module _ (at : Counts → World) where
  -- the counts of what the blocks hold
  counts_are : (k : Counts) (M : Mesh) (log : List Entry) → Counted k (at k) → at k ≡ world_of M log → k ≡ counts_of M log
  counts_are k M log C q =
      λ i.
      record {
        particles = (sym C.particles ∙ ap (λ (W : World). length W.mesh.particles) q) i;
        triangles = (sym C.triangles ∙ ap (λ (W : World). length W.mesh.triangles) q) i;
        edges = (sym C.edges ∙ ap (λ (W : World). length W.mesh.edges) q) i;
        boundary = (sym C.boundary ∙ ap (λ (W : World). length W.mesh.boundary) q) i;
        log = (sym C.log ∙ ap (λ (W : World). length W.log) q ∙ length-map log words_of) i;
      }

  -- what is told of an answer
  abbrev told : Counts → Bool → Read Answer
  told k b = value (record { counts = k; changed = b })

  -- a run that had room
  came_done : (R : Rooms) (S : Run) (k : Counts) → Within k R → Counted k (at k) → at k ≡ world_of S.mesh S.log → Came (done S.mesh S.log (changed S)) R at (Ok k)
  unfolding changed
  came_done R S k w C q =
      record {
        said =
            ap (λ (W : World). told k (words_change W.log)) q ∙ ap (told k) (words_tell S.log) ∙ ap (λ (n : Counts). told n (any changes S.log)) (counts_are k S.mesh S.log C q);
        shows = q;
        within = w;
      }

  -- a room that lacks
  unfitted : (n : ℕ) (S : Run) → 0 < n → fitted n S ≡ refused n
  unfitted zero S h = absurd (omega (arith, h))
  unfitted (suc n) S h = refl

  -- a run
  came_run : (R : Rooms) (S : Run) (ran : Ran) → ((k : Counts) → ran ≡ Ok k → Counted k (at k)) → Went R S at ran → Came (outcome (as_rooms R) S) R at ran
  unfolding outcome
  came_run R S (Err c) C w = came_refused _ R _ _ c refl (ap (λ (m : ℕ). fitted m S) w.0 ∙ unfitted (number_of c) S w.1)
  came_run R S (Ok k) C w = subst (λ (m : ℕ). Came (fitted m S) R at (Ok k)) (sym w.0) (came_done R S k w.1 (C k refl) w.2)

-- ---- a call

-- blocks without a log
pub unlogged : (k : Counts) (p : List Float) (r c : List ℕ) (v : List Float) (e : List ℕ) (l : List Float) (o g : List ℕ) → k.log ≡ 0 → world_at k p r c v e l o g ≡ world_of (mesh_at k p r c v e l o) []
unfolding world_at log_at tab
unlogged k p r c v e l o g z = ap (λ (n : ℕ). record { mesh = mesh_at k p r c v e l o; log = log_at n g }) z

module _ (f : Run → Run) (onward : (S : Run) → Onward S (f S)) (G : Given) {R : Rooms} {code begun : ℕ} {held : Mesh} (B : Begun code R (mesh_of G) held begun) where
  -- a check that refused is what the call begins with
  refused_first : (n : ℕ) → code ≡ suc n → begun ≡ suc n
  refused_first n q = B.number ∙ ap (λ (k : ℕ). begun_with k (as_rooms R) (mesh_of G)) q ∙ rw (ne_eqb (suc n) 0 (λ d. omega arith)) refl

  -- where none did, it is the room that lacks
  room_next : code ≡ 0 → begun ≡ first_fault (as_rooms R) (start (mesh_of G)).needs
  room_next q = B.number ∙ ap (λ (k : ℕ). begun_with k (as_rooms R) (mesh_of G)) q

  -- no check refused where the copy was made
  pub nothing_before : begun ≡ 0 → code ≡ 0
  nothing_before z = by code refl
    where
      by : (n : ℕ) → code ≡ n → code ≡ 0
      by zero q = q
      by (suc n) q = absurd (omega (arith, refused_first n q))

  -- a refusal, by a check or for want of room
  pub begun_refused : (begun ≡ 0 → ⊥) → unless code (outcome (as_rooms R) (f (start (mesh_of G)))) ≡ refused begun
  begun_refused h = by code begun refl refl
    where
      by : (n m : ℕ) → code ≡ n → begun ≡ m → unless n (outcome (as_rooms R) (f (start (mesh_of G)))) ≡ refused begun
      by zero zero q b = absurd (h b)
      by zero (suc m) q b = refused_early (as_rooms R) (start (mesh_of G)) (f (start (mesh_of G))) m (onward (start (mesh_of G))) (sym (room_next q) ∙ b) ∙ ap refused (sym b)
      by (suc n) m q b = ap refused (sym (refused_first n q))

  pub came_begun : (at : Counts → World) (c : Refusal) → begun ≡ number_of c → Came (unless code (outcome (as_rooms R) (f (start (mesh_of G))))) R at (Err c)
  came_begun at c h = came_refused _ R at _ c refl (begun_refused (λ z. omega (arith, number_above c, h, z)) ∙ ap refused h)

  -- the copy, and what the worker made of it
  pub came_worked : (at : Counts → World) (W : World) (ran : Ran) → ((k : Counts) → ran ≡ Ok k → Counted k (at k)) → W ≡ world_of held [] → begun ≡ 0 → Works f R W at ran
      → Came (unless code (outcome (as_rooms R) (f (start (mesh_of G))))) R at ran
  unfolding start
  came_worked at W ran C fresh z works =
      let same : W ≡ world_of (start (mesh_of G)).mesh (start (mesh_of G)).log = fresh ∙ ap (λ (M : Mesh). world_of M []) (B.copied z) in
      subst (λ (n : ℕ). Came (unless n (outcome (as_rooms R) (f (start (mesh_of G))))) R at ran) (sym (nothing_before z))
      (came_run at R (f (start (mesh_of G))) ran C (works.went (start (mesh_of G)) same (sym (room_next (nothing_before z)) ∙ z)))

-- ---- the end

-- counts within the rooms of the lent blocks fit them
ran_fits : (ran : Ran) (L : Lent) → RanWithin ran (rooms_of L) → RanFits ran L
ran_fits (Err n) L w = tt
ran_fits (Ok k) L w = rooms_fit k L w.particles w.triangles w.edges w.boundary w.log

module _ (call : Rooms → Outcome) (L : Lent) {R : Rooms} (room : R ≡ rooms_of L) {at : Counts → World} {ran : Ran} (C : Came (call R) R at ran) where
  -- what a call came to fits the lent blocks
  pub came_fits : (K : Lent) → K ≡ L → RanFits ran K
  came_fits K same = subst (RanFits ran) (sym same) (ran_fits ran L (subst (RanWithin ran) room C.within))

  -- and finished, they hold its outcome
  pub answered : (K : Lent) (a : Result Answer Refusal) (p : List Float) (r c : List ℕ) (v : List Float) (e : List ℕ) (l : List Float) (o g : List ℕ) → K ≡ L → Finished ran at K a p r c v e l o g
      → Answered (call (rooms_of L)) L a p r c v e l o g
  answered K a p r c v e l o g same F =
      let C' : Came (call (rooms_of L)) (rooms_of L) at ran = subst (λ (x : Rooms). Came (call x) x at ran) room C in
      record {
        answer = ap answer_in F.answer ∙ C'.said;
        blocks = subst (λ (x : Lent). Filled (shown (call (rooms_of L))) x p r c v e l o g) same (subst (λ (x : World). Filled x K p r c v e l o g) C'.shows F.blocks);
      }

-- ---- one answer

-- any two results that are allowed for one outcome and one set of lent lengths are equal, in the answer and in every lent place
pub agree_answers :
    (x : Outcome) (L : Lent) (a a' : Result Answer Refusal) (p p' : List Float) (r r' c c' : List ℕ) (v v' : List Float) (e e' : List ℕ) (l l' : List Float) (o o' g g' : List ℕ)
    → Answered x L a p r c v e l o g → Answered x L a' p' r' c' v' e' l' o' g'
    → (a ≡ a') × (p ≡ p') × (r ≡ r') × (c ≡ c') × (v ≡ v') × (e ≡ e') × (l ≡ l') × (o ≡ o') × (g ≡ g')
agree_answers x L a a' p p' r r' c c' v v' e e' l l' o o' g g' A B =
    let h = agree (shown x) L p p' r r' c c' v v' e e' l l' o o' g g' A.blocks B.blocks in
    (answer_tells a a' (A.answer ∙ sym B.answer), h.0, h.1, h.2, h.3, h.4, h.5, h.6, h.7)

-- after a refusal every lent place is 0
pub refused_zeros : (n : ℕ) (L : Lent) (a : Result Answer Refusal) (p : List Float) (r c : List ℕ) (v : List Float) (e : List ℕ) (l : List Float) (o g : List ℕ) → Answered (refused n) L a p r c v e l o g
    → (answer_in a ≡ turned_down n) × Zero L p r c v e l o g
refused_zeros n L a p r c v e l o g A = (A.answer, zeros L p r c v e l o g A.blocks)
