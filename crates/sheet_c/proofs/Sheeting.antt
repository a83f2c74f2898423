-- Laws of a sheet that is read and replied to: local blocks have room for it, and their words are the sheet's. Assumes nothing.
use Prim.Native.Nat.{ℕ, ◌+◌, ◌*◌, ◌/◌, ◌≤◌, ◌<◌}
use native.Mathlib.Omega.{arith}
use mathlib.Core.Path.{◌≡◌, refl, sym, ap, subst, ◌∙◌}
use mathlib.Core.Bool.{Bool, false, ◌||◌}
use mathlib.Core.List.{List, [], ◌∷◌, ◌++◌}
use lib.Dec.{ltb}
use lib.Ieee.{Float}
use lib.ListN.{length, take, length-append}
use lib.Seq.{take_at, take-length}
use borrow.Author.Tests.{ltb-false, le-leb}
use Rattle.lists.specs.Lists.{pick, padded}
use Rattle.model.specs.Reads.{refused, value}
use Rattle.mesh.specs.At.{mesh_at}
use Rattle.mesh.specs.Given.{Lent}
use Rattle.mesh.specs.Filled.{lent}
use Rattle.mesh.specs.Widths.{point_columns, particle_words}
use Rattle.bits.specs.Bits.{bits_of}
use Rattle.bits.specs.Rows.{unpack}
use Rattle.sheet.specs.Sheet.{sheet_with, above, too_many_of, most, counts_at}
use Rattle.sheet.specs.Read.{mesh_of_sheet, blade_of_sheet, counts_for}
use Rattle.sheet.specs.declared.Counts.{Counts}
use Rattle.std.specs.Prelude.{Result, Ok, Err}
use Rattle.mesh.specs.declared.refusals.Refusal.{Refusal}
use Rattle.mesh.specs.Refused.{number_of}
use Rattle.edition.specs.declared.Seen.{Seen}
use Rattle.sheet.proofs.PutLaws.{neither}
use Rattle.edition.specs.Edition.{bits_in_of, typed_of, sheet_of, seen_of, whole_with}
use Rattle.edition.specs.Reading.{room_for, lent_of, blade_left, ReadDone}
use Rattle.edition.proofs.Counted.{mesh_read}
use Rattle.edition.proofs.Starts.{typed_in}
use Rattle.edition.proofs.Entering.{number_small, outlined, seen_whole_tells}
use Rattle.image.specs.Words as W
use Rattle.image.specs.Words.{written, put_words}
use Rattle.image.specs.Image.{image_words_of}
use Rattle.image_writing.specs.Stores.{block_words, Standing, Storable}
use Rattle.image_writing.proofs.Puts.{put_written, bits_length}
use Rattle.image_writing.proofs.Rows.{rows_image, block_words_long}
use Rattle.replies.specs.Reply.{Replied}
use Rattle.replies.proofs.Saying.{says, says_short, replied_as}
use Rattle.sheet_c.specs.Sheets.{sheet_words, sheet_told, sheet_reply}
use Rattle.sheet_c.specs.Work.{Few, Storing, blocks_told}

-- ---- the counts of a whole sheet

few_counts : (c : Counts) (n : ℕ) → too_many_of c ≡ false → n ≤ 2048 → Few (outlined c n)
unfolding above
few_counts c n e h =
    let u = neither (ltb 1024 c.particles) (ltb 1024 c.triangles || (ltb 2048 c.edges || ltb 2048 c.boundary)) e in
    let v = neither (ltb 1024 c.triangles) (ltb 2048 c.edges || ltb 2048 c.boundary) u.1 in
    let w = neither (ltb 2048 c.edges) (ltb 2048 c.boundary) v.1 in
    record { particles = ltb-false 1024 c.particles u.0; triangles = ltb-false 1024 c.triangles v.0; edges = ltb-false 2048 c.edges w.0; boundary = h }

seen_few : (s : List ℕ) (c : Counts) (f : Bool) → seen_of most s ≡ whole_with c f → Few c
seen_few s c f e =
    let a = seen_whole_tells most s c f e in
    let d = counts_at (bits_in_of (bits_of s)) in
    subst Few (sym a.counts) (few_counts d (length (sheet_of (bits_of s)).sheet.boundary) (typed_in most s d a.typed).few a.few)

-- ---- room

-- the sizes of local blocks
pub record Ample (L : Lent) : Type 0 where
  pub points : L.points ≡ 1024 * point_columns
  pub roots : L.roots ≡ 2048
  pub corners : L.corners ≡ 3072
  pub volumes : L.volumes ≡ 2048
  pub ends : L.ends ≡ 8192
  pub lengths : L.lengths ≡ 8192
  pub outline : L.outline ≡ 4096

room_whole : (c : Counts) (f : Bool) (L : Lent) (nb : ℕ) → Few c → Ample L → nb ≡ 4 → room_for c f L nb ≡ whole_with c f
unfolding room_for
room_whole c f L nb F A four =
    rw
    (le-leb c.triangles (L.corners / 3) (omega (arith, A.corners, F.triangles)), le-leb c.triangles (L.volumes / 2) (omega (arith, A.volumes, F.triangles)), le-leb 4 nb (omega arith), le-leb c.particles (L.points / point_columns) (omega (arith, A.points, F.particles)), le-leb c.particles (L.roots / 2) (omega (arith, A.roots, F.particles)), le-leb c.edges (L.ends / 4) (omega (arith, A.ends, F.edges)), le-leb c.edges (L.lengths / 4) (omega (arith, A.lengths, F.edges)), le-leb c.boundary (L.outline / 2) (omega (arith, A.outline, F.boundary)))
    refl

-- so a reader tells what a look does
lent_same : (s : List ℕ) (L : Lent) (nb : ℕ) → Ample L → nb ≡ 4 → lent_of (seen_of most s) L nb ≡ seen_of most s
unfolding lent_of
lent_same s L nb A four = by (seen_of most s) refl
  where
    by : (x : Result Seen Refusal) → seen_of most s ≡ x → lent_of x L nb ≡ x
    by (Err n) e = refl
    by (Ok k) e = room_whole k.counts k.replaced L nb (seen_few s k.counts k.replaced e) A four

-- ---- the mesh and the blade of a sheet as it is read

-- the blade has four numbers
blade_four : (l : List ℕ) → length (blade_of_sheet (sheet_of l).sheet) ≡ 4
unfolding blade_of_sheet sheet_of typed_of sheet_with unpack
blade_four l = refl

-- ---- what a reader left

-- equal lengths
pub lent_path : {a a' b b' c c' d d' e e' f f' g g' h h' : ℕ} → a ≡ a' → b ≡ b' → c ≡ c' → d ≡ d' → e ≡ e' → f ≡ f' → g ≡ g' → h ≡ h'
    → ◌≡◌ {A = Lent} (record { points = a; roots = b; corners = c; volumes = d; ends = e; lengths = f; outline = g; log = h })
    (record { points = a'; roots = b'; corners = c'; volumes = d'; ends = e'; lengths = f'; outline = g'; log = h' })
lent_path ea eb ec ed ee ef eg eh i = record { points = ea i; roots = eb i; corners = ec i; volumes = ed i; ends = ee i; lengths = ef i; outline = eg i; log = eh i }

module _ (s : List ℕ) (L : Lent) (r : Result Seen Refusal) (p : List Float) (q k : List ℕ) (v : List Float) (e : List ℕ) (l : List Float) (o g : List ℕ) (b b' : List Float)
    (R : ReadDone most s L r p q k v e l o g b b') (A : Ample L) (four : length b ≡ 4) where
  read_is : r ≡ seen_of most s
  read_is = R.answer ∙ lent_same s L (length b) A four

  -- a refusal
  pub refused_small : (n : Refusal) → r ≡ Err n → number_of n < 256
  refused_small n h = number_small n

  pub sheet_refused : (n : Refusal) (lent' x : ℕ) (out : List ℕ) → r ≡ Err n → Replied (refused (number_of n)) lent' x out → Replied (sheet_reply s) lent' x out
  unfolding sheet_reply
  sheet_refused n lent' x out h f = replied_as (refused (number_of n)) _ lent' x out (ap (λ (z : Result Seen Refusal). sheet_told z s) (sym h ∙ read_is)) f

  -- a whole sheet
  module _ (c : Counts) (f : Bool) (w : r ≡ whole_with c f) (same : lent p q k v e l o g ≡ L) (four' : length b' ≡ 4) where
    here : seen_of most s ≡ whole_with c f
    here = sym read_is ∙ w

    whole_read : ReadDone most s L (whole_with c f) p q k v e l o g b b'
    whole_read = subst (λ (z : Result Seen Refusal). ReadDone most s L z p q k v e l o g b b') w R

    stands_here : Standing (counts_for c) (length p) (length q) (length k) (length v) (length e) (length l) (length o)
    stands_here =
        let F = seen_few s c f here in
        record {
          points = omega (arith, ap (λ (X : Lent). X.points) same, A.points, F.particles);
          roots = omega (arith, ap (λ (X : Lent). X.roots) same, A.roots, F.particles);
          corners = omega (arith, ap (λ (X : Lent). X.corners) same, A.corners, F.triangles);
          volumes = omega (arith, ap (λ (X : Lent). X.volumes) same, A.volumes, F.triangles);
          ends = omega (arith, ap (λ (X : Lent). X.ends) same, A.ends, F.edges);
          lengths = omega (arith, ap (λ (X : Lent). X.lengths) same, A.lengths, F.edges);
          outline = omega (arith, ap (λ (X : Lent). X.outline) same, A.outline, F.boundary);
        }

    pub sheet_storing : Storing c (length p) (length q) (length k) (length v) (length e) (length l) (length o) (length b')
    sheet_storing = record { few = seen_few s c f here; stands = stands_here; four = four' }

    mesh_is : mesh_at (counts_for c) p q k v e l o ≡ mesh_of_sheet (sheet_of (bits_of s)).sheet
    mesh_is = mesh_read most s L c f p q k v e l o g b b' whole_read same

    blade_is : b' ≡ blade_of_sheet (sheet_of (bits_of s)).sheet
    unfolding blade_left padded
    blade_is =
        sym (ap (λ (n : ℕ). take n b') (sym four') ∙ take-length b')
        ∙ (ap (λ (x : List Float). take 4 x) whole_read.blade ∙ take_at (blade_of_sheet (sheet_of (bits_of s)).sheet) _ 4 (blade_four (bits_of s)))

    words_are : (first : ℕ) → first ≡ pick f 1 0 → blocks_told first c p q k v e l o b' ≡ sheet_words (sheet_of (bits_of s))
    unfolding sheet_words
    words_are first ef =
        let z : first ≡ pick (sheet_of (bits_of s)).replaced 1 0 = ef ∙ ap (λ (x : Bool). pick x 1 0) (seen_whole_tells most s c f here).told in
        (λ i. (z i ∷ W.bits_in_of (blade_is i)) ++ block_words (counts_for c) p q k v e l o)
        ∙ ap (λ (y : List ℕ). (pick (sheet_of (bits_of s)).replaced 1 0 ∷ W.bits_in_of (blade_of_sheet (sheet_of (bits_of s)).sheet)) ++ y)
        (rows_image (counts_for c) p q k v e l o stands_here ∙ ap image_words_of mesh_is)

    pub sheet_whole : (first : ℕ) → first ≡ pick f 1 0 → (lent' x : ℕ) (out : List ℕ) → Replied (value (blocks_told first c p q k v e l o b')) lent' x out → Replied (sheet_reply s) lent' x out
    unfolding sheet_reply
    sheet_whole first ef lent' x out h =
        replied_as (value (blocks_told first c p q k v e l o b')) _ lent' x out (ap (λ (z : List ℕ). value z) (words_are first ef) ∙ ap (λ (z : Result Seen Refusal). sheet_told z s) (sym w ∙ read_is)) h

-- ---- the words of blocks

module _ (first : ℕ) (c : Counts) (p : List Float) (q k : List ℕ) (v : List Float) (e : List ℕ) (l : List Float) (o : List ℕ) (b : List Float)
    (S : Storing c (length p) (length q) (length k) (length v) (length e) (length l) (length o) (length b)) where
  blocks_long : length (blocks_told first c p q k v e l o b) ≡ 9 + particle_words * c.particles + 5 * c.triangles + 8 * c.edges + 2 * c.boundary
  blocks_long =
      let n = block_words_long (counts_for c) p q k v e l o S.stands in
      let m = length-append (first ∷ W.bits_in_of b) (block_words (counts_for c) p q k v e l o) in
      m ∙ omega (arith, n, bits_length b, S.four)

  pub blocks_short : (lent' x : ℕ) (out : List ℕ) → lent' < 4 * (9 + particle_words * c.particles + 5 * c.triangles + 8 * c.edges + 2 * c.boundary) → Replied (refused 4) lent' x out
      → Replied (value (blocks_told first c p q k v e l o b)) lent' x out
  blocks_short lent' x out h f = says_short (blocks_told first c p q k v e l o b) lent' x out (omega (arith, blocks_long, h)) f.code f.bytes

  pub blocks_storable : (bytes lent' : ℕ) → bytes ≡ lent' → 4 * (9 + particle_words * c.particles + 5 * c.triangles + 8 * c.edges + 2 * c.boundary) ≤ lent'
      → Storable (counts_for c) (length p) (length q) (length k) (length v) (length e) (length l) (length o) 5 bytes
  blocks_storable bytes lent' same room =
      let T = S.stands in
      record { points = T.points; roots = T.roots; corners = T.corners; volumes = T.volumes; ends = T.ends; lengths = T.lengths; outline = T.outline; room = omega (arith, same, room) }

  pub blocks_replied : (lent' x : ℕ) (out₁ out₂ out : List ℕ) → 4 * (9 + particle_words * c.particles + 5 * c.triangles + 8 * c.edges + 2 * c.boundary) ≤ lent'
      → out₁ ≡ written lent' (first ∷ []) → out₂ ≡ put_words out₁ 1 (W.bits_in_of b) → out ≡ put_words out₂ 5 (block_words (counts_for c) p q k v e l o) → x ≡ 0
      → Replied (value (blocks_told first c p q k v e l o b)) lent' x out
  blocks_replied lent' x out₁ out₂ out room e₁ e₂ e₃ ex =
      let n = block_words_long (counts_for c) p q k v e l o S.stands in
      let m = bits_length b in
      let w₂ : out₂ ≡ written lent' (first ∷ W.bits_in_of b) = e₂ ∙ ap (λ (t : List ℕ). put_words t 1 (W.bits_in_of b)) e₁ ∙ put_written lent' (first ∷ []) (W.bits_in_of b) 1 refl (omega (arith, m, S.four, room)) in
      let w₃ : out ≡ written lent' (blocks_told first c p q k v e l o b)
      = e₃ ∙ ap (λ (t : List ℕ). put_words t 5 (block_words (counts_for c) p q k v e l o)) w₂
      ∙ put_written lent' (first ∷ W.bits_in_of b) (block_words (counts_for c) p q k v e l o) 5 (omega (arith, m, S.four)) (omega (arith, n, room)) in
      says (blocks_told first c p q k v e l o b) lent' x out (omega (arith, blocks_long, room)) ex w₃
