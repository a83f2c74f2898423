-- The text of the answer of a cut: what the definitions print for it.
use Prim.Native.Nat.{ℕ, ◌*◌, ◌≤◌}
use native.Mathlib.Omega.{arith}
use mathlib.Core.Path.{◌≡◌, refl, sym, ap, ap₂, ◌∙◌, subst}
use mathlib.Core.Bool.{Bool, true, ◌&&◌}
use mathlib.Core.List.{List, map}
use lib.ListN.{length, length-map}
use lib.Ieee.{Float}
use Rattle.lists.specs.Lists.{all}
use Rattle.lists.proofs.Sifts.{and_true}
use Rattle.model.specs.Mesh.{Mesh}
use Rattle.model.specs.Valid.{root_ok, corners_ok, ends_ok, side_ok, indices_fit_of}
use Rattle.model.specs.Run.{Entry}
use Rattle.model.specs.Cut.{Line}
use Rattle.model.specs.Calls.{Outcome, refused, done, cut_call}
use Rattle.model_laws.proofs.Accepted.{accepted_rowed, cut_accepted}
use Rattle.model.specs.Pieces.{pieces}
use Rattle.mesh.specs.Widths.{point_columns}
use Rattle.mesh.specs.At.{triangles_at, edges_at}
use Rattle.mesh.specs.Log.{words_of, world_of, log_at}
use Rattle.mesh.specs.Given.{Lent, rooms_of, as_rooms}
use Rattle.mesh.specs.Filled.{Filled, Fits, lent}
use Rattle.filled.specs.Counts.{counts_in}
use Rattle.filled.proofs.Held.{filled_fits, triangles_held, edges_held, log_held}
use Rattle.call_frame.specs.Answered.{Answered, answer_of, counts_of}
use Rattle.call_frame.specs.declared.Answer.{Answer}
use Rattle.listing.specs.Listing.{listing_bytes, refused_bytes, printed}
use Rattle.sheetcut.specs.SheetCut.{rooms, fraction}
use Rattle.answer_listing.specs.Listed.{pieces_in, Countable, Listable, text_of}
use Rattle.answer_listing.proofs.Counting.{pieces_in_lem}
use Rattle.std.specs.Prelude.{Result, Ok, Err}
use Rattle.mesh.specs.declared.refusals.Refusal.{Refusal}
use Rattle.model.specs.Reads.{value}

-- ---- the answer of a cut

-- what indices that fit say of triangles and edges
indices_parts : (M : Mesh) → indices_fit_of M ≡ true → (all (corners_ok (length M.particles)) M.triangles ≡ true) × (all (ends_ok (length M.particles)) M.edges ≡ true)
unfolding indices_fit_of
indices_parts M e =
    let n = length M.particles in
    let a = and_true (all (root_ok n) M.particles && all (corners_ok n) M.triangles && all (ends_ok n) M.edges) (all (side_ok n) M.boundary) e in
    let b = and_true (all (root_ok n) M.particles && all (corners_ok n) M.triangles) (all (ends_ok n) M.edges) a.0 in
    let d = and_true (all (root_ok n) M.particles) (all (corners_ok n) M.triangles) b.0 in
    (d.1, b.1)

-- an answer that is read as that of a mesh and its log is that
answer_is : (M : Mesh) (log : List Entry) (changed : Bool) (a : Answer) → value a ≡ answer_of (done M log changed) → a ≡ record { counts = counts_of M log; changed = changed }
answer_is M log changed a e = cc e

-- the lengths of the lent blocks leave room for no more
pub record Modest (L : Lent) : Type 0 where
  pub points : L.points ≤ 256 * point_columns
  pub corners : L.corners ≤ 384
  pub ends : L.ends ≤ 2048
  pub log : L.log ≤ 3840

module _ (L : Lent) (p : List Float) (r c : List ℕ) (v : List Float) (e : List ℕ) (l : List Float) (b g : List ℕ) (same : lent p r c v e l b g ≡ L) where
  module _ (M : Mesh) (log : List Entry) (F : Filled (world_of M log) L p r c v e l b g) where
    fits : Fits (counts_in (world_of M log)) L
    fits = filled_fits (world_of M log) L p r c v e l b g F same

    -- the blocks have the mesh's triangles, its edges and the words of the log
    triangles_are : indices_fit_of M ≡ true → triangles_at (length M.triangles) c v ≡ M.triangles
    triangles_are ok = triangles_held (world_of M log) L p r c v e l b g F fits (accepted_rowed M ok).triangles

    edges_are : edges_at (length M.edges) e l ≡ M.edges
    edges_are = edges_held (world_of M log) L p r c v e l b g F fits

    log_is : log_at (length log) g ≡ map words_of log
    log_is = ap (λ (n : ℕ). log_at n g) (sym (length-map log words_of)) ∙ log_held L.log (map words_of log) g F.log

    -- so they can be listed
    done_countable : Modest L → indices_fit_of M ≡ true → Countable (counts_of M log) c v e l × (6 * length log ≤ length g) × (length log ≤ 640)
    done_countable few ok =
        let H = fits in
        let w = indices_parts M ok in
        let n = length M.particles in
        let lc : length c ≡ L.corners = ap (λ (x : Lent). x.corners) same in
        let lv : length v ≡ L.volumes = ap (λ (x : Lent). x.volumes) same in
        let le : length e ≡ L.ends = ap (λ (x : Lent). x.ends) same in
        let ll : length l ≡ L.lengths = ap (λ (x : Lent). x.lengths) same in
        let lg : length g ≡ L.log = ap (λ (x : Lent). x.log) same in (
          record {
            few_particles = omega (arith, H.points, few.points);
            few_triangles = omega (arith, H.corners, few.corners);
            few_edges = omega (arith, H.ends, few.ends);
            corners = omega (arith, H.corners, lc);
            volumes = omega (arith, H.volumes, lv);
            ends = omega (arith, H.ends, le);
            lengths = omega (arith, H.lengths, ll);
            triangle_names = ap (all (corners_ok n)) (triangles_are ok) ∙ w.0;
            edge_names = ap (all (ends_ok n)) edges_are ∙ w.1;
          },
          omega (arith, H.log, lg, length-map log words_of),
          omega (arith, H.log, few.log, length-map log words_of),
        )

    done_printed : indices_fit_of M ≡ true → (f : Bool) → listing_bytes f (log_at (length log) g) (length M.particles) (pieces_in (triangles_at (length M.triangles) c v) (edges_at (length M.edges) e l))
        ≡ listing_bytes f (map words_of log) (length M.particles) (pieces M)
    done_printed ok f = λ i. listing_bytes f (log_is i) (length M.particles) ((ap₂ pieces_in (triangles_are ok) edges_are ∙ pieces_in_lem M) i)

  -- an answer whose mesh has indices that fit can be listed
  pub answered_listable : (o : Outcome) (a : Result Answer Refusal) → Answered o L a p r c v e l b g → Modest L → ((M : Mesh) (log : List Entry) (changed : Bool) → o ≡ done M log changed → indices_fit_of M ≡ true) → Listable a c v e l (length g)
  answered_listable (refused n) (Err d) A few ok = tt
  answered_listable (refused n) (Ok a) A few ok = let z : ◌≡◌ {A = ℕ} 0 1 = cc A.answer in absurd (omega arith)
  answered_listable (done M log changed) (Err d) A few ok = let z : ◌≡◌ {A = ℕ} 0 1 = cc A.answer in absurd (omega arith)
  answered_listable (done M log changed) (Ok a) A few ok =
      subst (λ (x : Answer). Listable {E = Refusal} (Ok x) c v e l (length g)) (sym (answer_is M log changed a A.answer)) (done_countable M log A.blocks few (ok M log changed refl))

  -- and its text is what is printed for the outcome
  pub answered_text : (f : Bool) (o : Outcome) (a : Result Answer Refusal) → Answered o L a p r c v e l b g → ((M : Mesh) (log : List Entry) (changed : Bool) → o ≡ done M log changed → indices_fit_of M ≡ true) → text_of f a c v e l g ≡ printed f o
  answered_text f (refused n) (Err d) A ok = ap refused_bytes (cc A.answer)
  answered_text f (refused n) (Ok a) A ok = let z : ◌≡◌ {A = ℕ} 0 1 = cc A.answer in absurd (omega arith)
  answered_text f (done M log changed) (Err d) A ok = let z : ◌≡◌ {A = ℕ} 0 1 = cc A.answer in absurd (omega arith)
  answered_text f (done M log changed) (Ok a) A ok = ap (λ (x : Answer). text_of f (Ok x) c v e l g) (answer_is M log changed a A.answer) ∙ done_printed M log A.blocks (ok M log changed refl) f

-- ---- with the places that the program lends

-- 256 particles, 128 triangles, 512 edges, 512 boundary entries and 640 log entries
abbrev pub places : Lent
places = record { points = 256 * point_columns; roots = 512; corners = 384; volumes = 256; ends = 2048; lengths = 2048; outline = 1024; log = 3840 }

places_modest : Modest places
places_modest = record { points = omega arith; corners = omega arith; ends = omega arith; log = omega arith }

-- they are the rooms
places_rooms : as_rooms (rooms_of places) ≡ rooms
places_rooms = refl

module _ (sized : Bool) (M : Mesh) (B : Line) (f : Float) (a : Result Answer Refusal) (p : List Float) (r c : List ℕ) (v : List Float) (e : List ℕ) (l : List Float) (b g : List ℕ) (same : lent p r c v e l b g ≡ places)
    (A : Answered (cut_call sized M 1 B f (as_rooms (rooms_of places))) places a p r c v e l b g) where
  -- the answer of a cut can be listed
  pub cut_listable : Listable a c v e l (length g)
  cut_listable = answered_listable places p r c v e l b g same (cut_call sized M 1 B f (as_rooms (rooms_of places))) a A places_modest (λ N log changed q. cut_accepted sized M 1 B f (as_rooms (rooms_of places)) N log changed q)

  -- and the text is what is printed for the cut
  pub cut_text : (t : Bool) → f ≡ fraction → text_of t a c v e l g ≡ printed t (cut_call sized M 1 B fraction rooms)
  cut_text t q =
      answered_text places p r c v e l b g same t (cut_call sized M 1 B f (as_rooms (rooms_of places))) a A (λ N log changed q. cut_accepted sized M 1 B f (as_rooms (rooms_of places)) N log changed q) ∙ ap (λ (x : Float). printed t (cut_call sized M 1 B x (as_rooms (rooms_of places)))) q
