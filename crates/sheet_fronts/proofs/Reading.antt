-- A sheet that was read into exact blocks: the blocks are an input whose sizes fit and whose mesh is the sheet's, and the blade is the sheet's.
use Prim.Native.Nat.{ℕ, ◌+◌, ◌-◌, ◌*◌, ◌/◌, ◌%◌, ◌≤◌}
use native.Mathlib.Omega.{arith}
use mathlib.Core.Path.{◌≡◌, refl, sym, ap, ◌∙◌, subst}
use mathlib.Core.Bool.{Bool, true}
use mathlib.Core.List.{List, [], ◌∷◌, ◌++◌}
use lib.Ieee.{Float}
use lib.ListN.{length, take, drop, replicate, length-append, length-drop, length-take}
use lib.Seq.{length-take-le, take_at}
use borrow.Author.Tests.{le-leb, eq-eqb}
use Rattle.lists.specs.Lists.{padded}
use Rattle.lists.proofs.Sifts.{true_and}
use Rattle.float.specs.Numbers.{zero32}
use Rattle.mesh.specs.At.{mesh_at}
use Rattle.mesh.specs.Log.{World}
use Rattle.mesh.specs.Given.{Given, Lent, given, sizes, mesh_of, list_fits_of, lengths_fit, sizes_fit_of}
use Rattle.mesh.specs.Filled.{Filled, Fits, point_of, root_of, corner_of, volume_of, end_of, length_of, side_of, lent}
use Rattle.mesh.specs.declared.Counts as M
use Rattle.mesh.specs.Widths.{point_columns}
use Rattle.filled.specs.Counts.{counts_in}
use Rattle.filled.proofs.Held.{field_long, mesh_filled}
use Rattle.bits.specs.Bits.{bits_of, field_at}
use Rattle.sheet.specs.Sheet.{limits, counts_at, at_blade}
use Rattle.sheet.proofs.Rowed.{sheet_rowed}
use Rattle.sheet.specs.Read.{the_float_of, mesh_of_sheet, blade_of_sheet, counts_for}
use Rattle.sheet.specs.declared.Counts.{Counts}
use Rattle.sheet.proofs.MeshReads.{blade_read}
use Rattle.edition.specs.Edition.{bits_in_of, typed_of, sheet_of, seen_of, whole_with}
use Rattle.edition.specs.Reading.{room_for, lent_of, world_of, blade_left, ReadDone}
use Rattle.std.specs.Prelude.{Result}
use Rattle.mesh.specs.declared.refusals.Refusal.{Refusal}
use Rattle.edition.specs.declared.Seen.{Seen}
use Rattle.edition.proofs.Starts.{typed_within}
use Rattle.edition.proofs.Entering.{seen_whole_tells}
use Rattle.edition.proofs.Counted.{mesh_counts as counted}
use Rattle.edition.proofs.Limited.{Few, not_above}
use Rattle.sheet_fronts.specs.Fronts.{Exact, Ample, fronts, FrontsRead}

-- ---- the counts

-- a whole sheet keeps the limits
pub seen_few : (s : List ℕ) (c : Counts) (f : Bool) → seen_of limits s ≡ whole_with c f → Few c
seen_few s c f e =
    let w = seen_whole_tells limits s c f e in
    let d = counts_at (bits_in_of (bits_of s)) in
    let F = not_above d (typed_within limits s d w.typed) in
    let p = ap (λ (x : Counts). x.particles) w.counts in
    let t = ap (λ (x : Counts). x.triangles) w.counts in
    let g = ap (λ (x : Counts). x.edges) w.counts in
    let b = ap (λ (x : Counts). x.boundary) w.counts in
    record { particles = omega (arith, F.particles); triangles = omega (arith, F.triangles); edges = omega (arith, F.edges); boundary = omega (arith, w.within) }

-- and tells whether its typed outline was replaced
pub seen_told : (s : List ℕ) (c : Counts) (f : Bool) → seen_of limits s ≡ whole_with c f → seen_of limits s ≡ whole_with c (sheet_of (bits_of s)).replaced
seen_told s c f e = e ∙ ap (λ (t : Bool). whole_with c t) (seen_whole_tells limits s c f e).told

-- the mesh of a sheet with an empty log
abbrev pub world_read : List ℕ → World
world_read l = record { mesh = mesh_of_sheet (sheet_of l).sheet; log = [] }

-- it has as many entries as the counts say
pub mesh_counts : (s : List ℕ) (c : Counts) (f : Bool) → seen_of limits s ≡ whole_with c f → counts_in (world_read (bits_of s)) ≡ counts_for c
unfolding world_of
mesh_counts s c f seen = counted limits s c f seen

-- ---- sizes

-- one list
list_fits_lem : (limit over_a a over_b b : ℕ) → over_a ≡ 0 → over_b ≡ 0 → a ≡ b → a ≤ limit → list_fits_of limit over_a a over_b b ≡ true
unfolding list_fits_of
list_fits_lem limit over_a a over_b b p q e h = true_and (true_and (true_and (eq-eqb over_a 0 p) (eq-eqb over_b 0 q)) (eq-eqb a b e)) (le-leb a limit h)

-- exact blocks fit
exact_sizes : (c : Counts) (L : Lent) → Few c → Exact c L → lengths_fit L.points L.roots L.corners L.volumes L.ends L.lengths L.outline ≡ true
unfolding lengths_fit
exact_sizes c L F X =
    let p = list_fits_lem 1024 (L.points % point_columns) (L.points / point_columns) (L.roots % 2) (L.roots / 2) (omega (arith, X.points)) (omega (arith, X.roots)) (omega (arith, X.points, X.roots)) (omega (arith, X.points, F.particles)) in
    let t = list_fits_lem 1024 (L.corners % 3) (L.corners / 3) (L.volumes % 2) (L.volumes / 2) (omega (arith, X.corners)) (omega (arith, X.volumes)) (omega (arith, X.corners, X.volumes)) (omega (arith, X.corners, F.triangles)) in
    let e = list_fits_lem 2048 (L.ends % 4) (L.ends / 4) (L.lengths % 4) (L.lengths / 4) (omega (arith, X.ends)) (omega (arith, X.lengths)) (omega (arith, X.ends, X.lengths)) (omega (arith, X.ends, F.edges)) in
    let o = list_fits_lem 2048 (L.outline % 2) (L.outline / 2) 0 (L.outline / 2) (omega (arith, X.outline)) refl refl (omega (arith, X.outline, F.boundary)) in
    true_and (true_and (true_and p t) e) o

-- and have room for the sheet
exact_room : (c : Counts) (f : Bool) (L : Lent) (nb : ℕ) → Exact c L → nb ≡ 4 → room_for c f L nb ≡ whole_with c f
unfolding room_for
exact_room c f L nb X four =
    rw
    (le-leb c.triangles (L.corners / 3) (omega (arith, X.corners)), le-leb c.triangles (L.volumes / 2) (omega (arith, X.volumes)), le-leb 4 nb (omega arith), le-leb c.particles (L.points / point_columns) (omega (arith, X.points)), le-leb c.particles (L.roots / 2) (omega (arith, X.roots)), le-leb c.edges (L.ends / 4) (omega (arith, X.ends)), le-leb c.edges (L.lengths / 4) (omega (arith, X.lengths)), le-leb c.boundary (L.outline / 2) (omega (arith, X.outline)))
    refl

exact_fits : (c : Counts) (L : Lent) → Exact c L → Fits (counts_for c) L
exact_fits c L X =
    record {
      points = omega (arith, X.points);
      roots = omega (arith, X.roots);
      corners = omega (arith, X.corners);
      volumes = omega (arith, X.volumes);
      ends = omega (arith, X.ends);
      lengths = omega (arith, X.lengths);
      outline = omega (arith, X.outline);
      log = omega arith;
    }

-- four numbers in four places
padded_four : (n : ℕ) (x y z w : Float) → n ≡ 4 → padded n zero32 (x ∷ y ∷ z ∷ w ∷ []) ≡ x ∷ y ∷ z ∷ w ∷ []
unfolding padded
padded_four n x y z w e = ap (λ (k : ℕ). x ∷ y ∷ z ∷ w ∷ replicate (k - 4) zero32) e

-- the four numbers of a sheet's blade
abbrev four_of : List ℕ → ℕ → List Float
four_of m at = the_float_of (field_at m at 11) ∷ the_float_of (field_at m (at + 11) 11) ∷ the_float_of (field_at m (at + 22) 11) ∷ the_float_of (field_at m (at + 33) 11) ∷ []

pub blade_four : (l : List ℕ) → four_of (bits_in_of l) (at_blade (counts_at (bits_in_of l))) ≡ blade_of_sheet (sheet_of l).sheet
unfolding sheet_of typed_of blade_of_sheet
blade_four l = blade_read (counts_at (bits_in_of l)) (bits_in_of l)

-- ---- fronts

-- a front that came back as long as it was lent leaves the length
pub front_long : {A : Type 0} (n : ℕ) (l front : List A) → length front ≡ length (take n l) → length (front ++ drop n l) ≡ length l
front_long n l front e = omega (arith, length-append front (drop n l), length-drop n l, length-take n l)

-- fronts of ample blocks are exact
pub exact_fronts :
    (c : Counts) (P : List Float) (R C : List ℕ) (U : List Float) (E : List ℕ) (N : List Float) (O G : List ℕ) → Few c → Ample (lent P R C U E N O [])
    → Exact c (lent (take (point_columns * c.particles) P) (take (2 * c.particles) R) (take (3 * c.triangles) C) (take (2 * c.triangles) U) (take (4 * c.edges) E) (take (4 * c.edges) N) (take (2 * c.boundary) O) G)
exact_fronts c P R C U E N O G F A =
    record {
      points = length-take-le (point_columns * c.particles) P (omega (arith, F.particles, A.points));
      roots = length-take-le (2 * c.particles) R (omega (arith, F.particles, A.roots));
      corners = length-take-le (3 * c.triangles) C (omega (arith, F.triangles, A.corners));
      volumes = length-take-le (2 * c.triangles) U (omega (arith, F.triangles, A.volumes));
      ends = length-take-le (4 * c.edges) E (omega (arith, F.edges, A.ends));
      lengths = length-take-le (4 * c.edges) N (omega (arith, F.edges, A.lengths));
      outline = length-take-le (2 * c.boundary) O (omega (arith, F.boundary, A.outline));
    }

-- ---- what was read

module _ (s : List ℕ) (c : Counts) (L : Lent) (r : Result Seen Refusal) (P : List Float) (R C : List ℕ) (U : List Float) (E : List ℕ) (N : List Float) (O G : List ℕ) (b b' : List Float)
    (D : ReadDone limits s L r P R C U E N O G b b') (seen : seen_of limits s ≡ whole_with c (sheet_of (bits_of s)).replaced) (X : Exact c L) (four : length b ≡ 4) where
  -- the sheet was read whole
  read_whole : r ≡ whole_with c (sheet_of (bits_of s)).replaced
  unfolding lent_of
  read_whole = D.answer ∙ (ap (λ (x : Result Seen Refusal). lent_of x L (length b)) seen ∙ exact_room c (sheet_of (bits_of s)).replaced L (length b) X four)

  read_filled : Filled (world_read (bits_of s)) L P R C U E N O G
  unfolding world_of
  read_filled = subst (λ (x : Result Seen Refusal). Filled (world_of x (bits_of s)) L P R C U E N O G) read_whole D.blocks

  read_fits : Fits (counts_in (world_read (bits_of s))) L
  read_fits = subst (λ (k : M.Counts). Fits k L) (sym (mesh_counts s c (sheet_of (bits_of s)).replaced seen)) (exact_fits c L X)

  -- the lengths of the blocks are those that were lent
  lengths_are : Lent
  lengths_are = record { points = length P; roots = length R; corners = length C; volumes = length U; ends = length E; lengths = length N; outline = length O; log = L.log }

  still : lengths_are ≡ L
  unfolding lengths_are
  still =
      let F = read_filled in
      let W = world_read (bits_of s) in
      let H = read_fits in
      λ i.
      record {
        points = field_long zero32 L.points point_columns point_of W.mesh.particles P F.points H.points (omega arith) i;
        roots = field_long 0 L.roots 2 root_of W.mesh.particles R F.roots H.roots (omega arith) i;
        corners = field_long 0 L.corners 3 corner_of W.mesh.triangles C F.corners H.corners (omega arith) i;
        volumes = field_long zero32 L.volumes 2 volume_of W.mesh.triangles U F.volumes H.volumes (omega arith) i;
        ends = field_long 0 L.ends 4 end_of W.mesh.edges E F.ends H.ends (omega arith) i;
        lengths = field_long zero32 L.lengths 4 length_of W.mesh.edges N F.lengths H.lengths (omega arith) i;
        outline = field_long 0 L.outline 2 side_of W.mesh.boundary O F.outline H.outline (omega arith) i;
        log = L.log;
      }

  exact_still : Exact c lengths_are
  exact_still = subst (Exact c) (sym still) X

  -- the sizes fit
  pub read_sized : sizes_fit_of (given P R C U E N O) ≡ true
  unfolding lengths_are
  read_sized = exact_sizes c lengths_are (seen_few s c (sheet_of (bits_of s)).replaced seen) exact_still

  read_sizes : sizes (given P R C U E N O) ≡ counts_in (world_read (bits_of s))
  unfolding lengths_are
  read_sizes =
      let Y = exact_still in
      let p : length P / point_columns ≡ c.particles = omega (arith, Y.points) in
      let t : length C / 3 ≡ c.triangles = omega (arith, Y.corners) in
      let e : length E / 4 ≡ c.edges = omega (arith, Y.ends) in
      let o : length O / 2 ≡ c.boundary = omega (arith, Y.outline) in
      let h : sizes (given P R C U E N O) ≡ counts_for c = λ i. record { particles = p i; triangles = t i; edges = e i; boundary = o i; log = 0 } in
      h ∙ sym (mesh_counts s c (sheet_of (bits_of s)).replaced seen)

  -- the mesh is the sheet's
  pub read_mesh : mesh_of (given P R C U E N O) ≡ mesh_of_sheet (sheet_of (bits_of s)).sheet
  unfolding mesh_of
  read_mesh = ap (λ (k : M.Counts). mesh_at k P R C U E N O) read_sizes ∙ mesh_filled (world_read (bits_of s)) L P R C U E N O G read_filled read_fits (sheet_rowed (sheet_of (bits_of s)).sheet)

  -- the blade is the sheet's
  read_blade : b' ≡ blade_of_sheet (sheet_of (bits_of s)).sheet
  unfolding blade_left
  read_blade =
      D.blade
      ∙ (ap (λ (x : Result Seen Refusal). padded (length b) zero32 (blade_left x (bits_of s))) read_whole
      ∙ (ap (padded (length b) zero32) (sym (blade_four (bits_of s))) ∙ (padded_four (length b) _ _ _ _ four ∙ blade_four (bits_of s))))

  -- whatever stands behind the fronts
  module _ (tp : List Float) (tr tc : List ℕ) (tu : List Float) (te : List ℕ) (tn : List Float) (to : List ℕ) where
    fronts_are : fronts c (P ++ tp) (R ++ tr) (C ++ tc) (U ++ tu) (E ++ te) (N ++ tn) (O ++ to) ≡ given P R C U E N O
    unfolding lengths_are
    fronts_are =
        let Y = exact_still in
        λ i.
        given (take_at P tp (point_columns * c.particles) Y.points i) (take_at R tr (2 * c.particles) Y.roots i) (take_at C tc (3 * c.triangles) Y.corners i) (take_at U tu (2 * c.triangles) Y.volumes i) (take_at E te (4 * c.edges) Y.ends i) (take_at N tn (4 * c.edges) Y.lengths i) (take_at O to (2 * c.boundary) Y.outline i)

    -- the fronts are the sheet's mesh, and the blade is the sheet's
    pub fronts_read : FrontsRead s c (P ++ tp) (R ++ tr) (C ++ tc) (U ++ tu) (E ++ te) (N ++ tn) (O ++ to) b'
    fronts_read = record { sized = ap (λ (x : Given). sizes_fit_of x) fronts_are ∙ read_sized; mesh = ap mesh_of fronts_are ∙ read_mesh; blade = read_blade }
