-- Reading and writing a sheet undo each other.
use Prim.Native.Nat.{ℕ, ◌*◌, ◌≤◌}
use mathlib.Core.Path.{◌≡◌, sym, ◌∙◌}
use mathlib.Core.List.{List, ◌++◌, append_assoc}
use native.Mathlib.Omega.{arith}
use lib.ListN.{length, take, drop, length-append, length-drop}
use lib.Seq.{take-add, drop-drop, drop_at}
use Rattle.bits.specs.Rows.{total, unpack, pack, read_rows, write_rows}
use Rattle.sheet.specs.Sheet.{Sheet, header_w, particle_w, triangle_w, edge_w, boundary_w, blade_w, counts_at, counts_of, header_of, sheet_with, sheet_bits, FitSheet, at_triangles, at_edges, at_boundary, at_blade, end_of}
use Rattle.sheet.specs.declared.Counts.{Counts}
use Rattle.bits.proofs.RowLaws.{AllBits, bits_drop, pack_unpack, unpack_pack, length_pack, length_write_rows, write_read, read_write, length_read}

-- counts are equal where their headers are
pub same_counts : (c d : Counts) → header_of c ≡ header_of d → c ≡ d
same_counts c d e =
    let p : c.particles ≡ d.particles = cc in
    let t : c.triangles ≡ d.triangles = cc in
    let g : c.edges ≡ d.edges = cc in
    let b : c.boundary ≡ d.boundary = cc in
    λ i. record { particles = p i; triangles = t i; edges = g i; boundary = b i }

-- the header holds the counts
pub header_counts : (l : List ℕ) → unpack header_w l ≡ header_of (counts_at l)
unfolding unpack
header_counts l = rw (drop-drop 11 11 l, drop-drop 12 22 l)

module _ (c : Counts) (l : List ℕ) (h : AllBits l) (r : end_of c ≤ length l) where
  -- what is read behind the header is written again
  pub body : take 46 l ++ write_rows particle_w (sheet_with c l).particles ++ write_rows triangle_w (sheet_with c l).triangles
      ++ write_rows edge_w (sheet_with c l).edges ++ write_rows boundary_w (sheet_with c l).boundary ++ pack blade_w (sheet_with c l).blade
      ≡ take (end_of c) l
  unfolding sheet_with total
  body =
      let p : write_rows particle_w (read_rows particle_w c.particles (drop 46 l)) ≡ take (c.particles * 23) (drop 46 l) = write_read particle_w c.particles (drop 46 l) (bits_drop 46 l h) (omega (arith, length-drop 46 l)) in
      let t : write_rows triangle_w (read_rows triangle_w c.triangles (drop (at_triangles c) l)) ≡ take (c.triangles * 30) (drop (at_triangles c) l) = write_read triangle_w c.triangles (drop (at_triangles c) l) (bits_drop (at_triangles c) l h) (omega (arith, length-drop (at_triangles c) l)) in
      let e : write_rows edge_w (read_rows edge_w c.edges (drop (at_edges c) l)) ≡ take (c.edges * 21) (drop (at_edges c) l) = write_read edge_w c.edges (drop (at_edges c) l) (bits_drop (at_edges c) l h) (omega (arith, length-drop (at_edges c) l)) in
      let b : write_rows boundary_w (read_rows boundary_w c.boundary (drop (at_boundary c) l)) ≡ take (c.boundary * 20) (drop (at_boundary c) l) = write_read boundary_w c.boundary (drop (at_boundary c) l) (bits_drop (at_boundary c) l h) (omega (arith, length-drop (at_boundary c) l)) in
      let d : pack blade_w (unpack blade_w (drop (at_blade c) l)) ≡ take 44 (drop (at_blade c) l) = pack_unpack blade_w (drop (at_blade c) l) (bits_drop (at_blade c) l h) (omega (arith, length-drop (at_blade c) l)) in
      rw (p, t, e, b, d, take-add (at_blade c) 44 l, take-add (at_boundary c) (c.boundary * 20) l, take-add (at_edges c) (c.edges * 21) l, take-add (at_triangles c) (c.triangles * 30) l, take-add 46 (c.particles * 23) l)

pub counts_kept : (c : Counts) (l : List ℕ) → header_of (counts_of (sheet_with c l)) ≡ header_of c
unfolding sheet_with
counts_kept c l = rw (length_read particle_w c.particles (drop 46 l), length_read triangle_w c.triangles (drop (at_triangles c) l), length_read edge_w c.edges (drop (at_edges c) l), length_read boundary_w c.boundary (drop (at_boundary c) l))

pub header_bits : (l : List ℕ) → AllBits l → 46 ≤ length l → pack header_w (unpack header_w l) ≡ take 46 l
unfolding total
header_bits l h r = pack_unpack header_w l h r

-- the bits of the sheet that bits hold are those bits, to the sheet's end
pub write_of_read : (l : List ℕ) → AllBits l → end_of (counts_at l) ≤ length l → sheet_bits (sheet_with (counts_at l) l) ≡ take (end_of (counts_at l)) l
unfolding sheet_bits
write_of_read l h r =
    let c = counts_at l in
    let e : header_of (counts_of (sheet_with c l)) ≡ header_of c = counts_kept c l in
    let g : pack header_w (header_of (counts_of (sheet_with c l))) ≡ take 46 l = rw (e, ← header_counts l) (header_bits l h (omega arith)) in
    rw g (body c l h r)

-- what stands behind the first n places of lists joined
module _ (n : ℕ) (A : List ℕ) (e : length A ≡ n) where
  past1 : (D R : List ℕ) → drop n (A ++ D ++ R) ≡ D ++ R
  past1 D R = simp append_assoc (drop_at A (D ++ R) n e)

  past2 : (B D R : List ℕ) → drop n (A ++ B ++ D ++ R) ≡ B ++ (D ++ R)
  past2 B D R = simp append_assoc (drop_at A (B ++ (D ++ R)) n e)

  past3 : (E B D R : List ℕ) → drop n (A ++ E ++ B ++ D ++ R) ≡ E ++ (B ++ (D ++ R))
  past3 E B D R = simp append_assoc (drop_at A (E ++ (B ++ (D ++ R))) n e)

  past4 : (T E B D R : List ℕ) → drop n (A ++ T ++ E ++ B ++ D ++ R) ≡ T ++ (E ++ (B ++ (D ++ R)))
  past4 T E B D R = simp append_assoc (drop_at A (T ++ (E ++ (B ++ (D ++ R)))) n e)

  past5 : (P T E B D R : List ℕ) → drop n (A ++ P ++ T ++ E ++ B ++ D ++ R) ≡ P ++ (T ++ (E ++ (B ++ (D ++ R))))
  past5 P T E B D R = simp append_assoc (drop_at A (P ++ (T ++ (E ++ (B ++ (D ++ R))))) n e)

module _ (s : Sheet) (rest : List ℕ) (f : FitSheet s) where
  -- bits that begin with a sheet's hold its counts
  pub counts_read : header_of (counts_at (sheet_bits s ++ rest)) ≡ header_of (counts_of s)
  unfolding sheet_bits
  counts_read =
      sym (header_counts (sheet_bits s ++ rest))
      ∙ simp append_assoc (unpack_pack header_w (header_of (counts_of s))
      (write_rows particle_w s.particles ++ (write_rows triangle_w s.triangles ++ (write_rows edge_w s.edges ++ (write_rows boundary_w s.boundary ++ (pack blade_w s.blade ++ rest))))) f.header)

  -- and the sheet
  pub read_of_write : sheet_with (counts_of s) (sheet_bits s ++ rest) ≡ s
  unfolding sheet_bits sheet_with total
  read_of_write =
      let c = counts_of s in
      let H = pack header_w (header_of c) in
      let P = write_rows particle_w s.particles in
      let T = write_rows triangle_w s.triangles in
      let E = write_rows edge_w s.edges in
      let B = write_rows boundary_w s.boundary in
      let D = pack blade_w s.blade in
      let h : length H ≡ 46 = length_pack header_w (header_of c) in
      let p : length P ≡ length s.particles * 23 = length_write_rows particle_w s.particles in
      let t : length T ≡ length s.triangles * 30 = length_write_rows triangle_w s.triangles in
      let e : length E ≡ length s.edges * 21 = length_write_rows edge_w s.edges in
      let b : length B ≡ length s.boundary * 20 = length_write_rows boundary_w s.boundary in
      let hp : length (H ++ P) ≡ at_triangles c = omega (arith, length-append H P) in
      let ht : length (H ++ P ++ T) ≡ at_edges c = omega (arith, length-append (H ++ P) T) in
      let he : length (H ++ P ++ T ++ E) ≡ at_boundary c = omega (arith, length-append (H ++ P ++ T) E) in
      let hb : length (H ++ P ++ T ++ E ++ B) ≡ at_blade c = omega (arith, length-append (H ++ P ++ T ++ E) B) in
      rw (
        past5 46 H h P T E B D rest,
        read_write particle_w s.particles (T ++ (E ++ (B ++ (D ++ rest)))) f.particles,
        past4 (at_triangles c) (H ++ P) hp T E B D rest,
        read_write triangle_w s.triangles (E ++ (B ++ (D ++ rest))) f.triangles,
        past3 (at_edges c) (H ++ P ++ T) ht E B D rest,
        read_write edge_w s.edges (B ++ (D ++ rest)) f.edges,
        past2 (at_boundary c) (H ++ P ++ T ++ E) he B D rest,
        read_write boundary_w s.boundary (D ++ rest) f.boundary,
        past1 (at_blade c) (H ++ P ++ T ++ E ++ B) hb D rest,
        unpack_pack blade_w s.blade rest f.blade,
      )

pub length_sheet_bits : (s : Sheet) → length (sheet_bits s) ≡ end_of (counts_of s)
unfolding sheet_bits total
length_sheet_bits s =
    let H = pack header_w (header_of (counts_of s)) in
    let P = write_rows particle_w s.particles in
    let T = write_rows triangle_w s.triangles in
    let E = write_rows edge_w s.edges in
    let B = write_rows boundary_w s.boundary in
    let D = pack blade_w s.blade in
    let h : length H ≡ 46 = length_pack header_w (header_of (counts_of s)) in
    let p : length P ≡ length s.particles * 23 = length_write_rows particle_w s.particles in
    let t : length T ≡ length s.triangles * 30 = length_write_rows triangle_w s.triangles in
    let e : length E ≡ length s.edges * 21 = length_write_rows edge_w s.edges in
    let b : length B ≡ length s.boundary * 20 = length_write_rows boundary_w s.boundary in
    let d : length D ≡ 44 = length_pack blade_w s.blade in
    omega (arith, length-append (H ++ P ++ T ++ E ++ B) D, length-append (H ++ P ++ T ++ E) B, length-append (H ++ P ++ T) E, length-append (H ++ P) T, length-append H P)
