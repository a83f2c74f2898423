-- The parts of the mended sheet, one behind the other, are its bits. Assumes nothing.
use Prim.Native.Nat.{ℕ, ◌+◌, ◌*◌, ◌≤◌}
use mathlib.Core.Path.{◌≡◌, refl, sym, ap, ap₂, ◌∙◌}
use mathlib.Core.Bool.{Bool, true, false}
use mathlib.Core.List.{List, [], ◌∷◌, ◌++◌, append_assoc}
use native.Mathlib.Omega.{arith}
use lib.ListN.{length, drop, replicate, length-replicate}
use lib.Seq.{sets}
use Rattle.lists.specs.Lists.{pick, padded}
use Rattle.bits.specs.Bits.{bits_of}
use Rattle.bits.specs.Rows.{total, unpack, pack, read_rows, write_rows}
use Rattle.bits.proofs.RowLaws.{sets_then, length_pack, length_write_rows}
use Rattle.sheet.specs.Sheet.{Sheet, sheet_bits, counts_at, counts_of, header_w, header_of, particle_w, triangle_w, edge_w, boundary_w, blade_w}
use Rattle.sheet.specs.declared.Counts.{Counts}
use Rattle.sheet.proofs.PutLaws.{sets_zeros}
use Rattle.edition.specs.Edition.{second, bits_in_of, header2_w, sheet2_bits, bytes_in, typed_of}
use Rattle.edition.specs.Work.{start_of}
use Rattle.mending.specs.Sheets.{mended_sheet, bits_as}
use Rattle.mending.specs.Work.{kept_by_of, zeros_of, Mendable}
use Rattle.mending.proofs.Bytes.{Plain, as_length, end_inside}
use Rattle.mender.specs.Work.{Marked, Kept, header_as}
use Rattle.mender.proofs.Puts.{kept_pairs}
use Rattle.mender.proofs.Whole.{zeros_all, kept_all, many, particles_at, triangles_at_lem, edges_at, boundary_at, blade_at, kept_triangles, kept_edges, kept_boundary, long_t, long_e, long_b, same_particles, same_blade, zeros_t, zeros_e, zeros_b, plain, many_out}

chain : (m0 m1 m2 m3 m4 m5 m6 H P T E B D : List ℕ) (a b c d e : ℕ) → m1 ≡ sets m0 0 H → m2 ≡ sets m1 a P → m3 ≡ sets m2 b T → m4 ≡ sets m3 c E → m5 ≡ sets m4 d B → m6 ≡ sets m5 e D
    → 0 + length H ≡ a → a + length P ≡ b → b + length T ≡ c → c + length E ≡ d → d + length B ≡ e → m6 ≡ sets m0 0 (H ++ (P ++ (T ++ (E ++ (B ++ D)))))
chain m0 m1 m2 m3 m4 m5 m6 H P T E B D a b c d e f1 f2 f3 f4 f5 f6 q1 q2 q3 q4 q5 =
    let s5 : m6 ≡ sets m4 d (B ++ D) = f6 ∙ (ap (λ (x : List ℕ). sets x e D) f5 ∙ sets_then m4 d e B D q5) in
    let s4 : m6 ≡ sets m3 c (E ++ (B ++ D)) = s5 ∙ (ap (λ (x : List ℕ). sets x d (B ++ D)) f4 ∙ sets_then m3 c d E (B ++ D) q4) in
    let s3 : m6 ≡ sets m2 b (T ++ (E ++ (B ++ D))) = s4 ∙ (ap (λ (x : List ℕ). sets x c (E ++ (B ++ D))) f3 ∙ sets_then m2 b c T (E ++ (B ++ D)) q3) in
    let s2 : m6 ≡ sets m1 a (P ++ (T ++ (E ++ (B ++ D)))) = s3 ∙ (ap (λ (x : List ℕ). sets x b (T ++ (E ++ (B ++ D)))) f2 ∙ sets_then m1 a b P (T ++ (E ++ (B ++ D))) q2) in
    s2 ∙ (ap (λ (x : List ℕ). sets x a (P ++ (T ++ (E ++ (B ++ D))))) f1 ∙ sets_then m0 0 a H (P ++ (T ++ (E ++ (B ++ D)))) q1)

five : (H P T E D : List ℕ) → H ++ P ++ T ++ E ++ D ≡ H ++ (P ++ (T ++ (E ++ D)))
five H P T E D = simp append_assoc

six : (H P T E B D : List ℕ) → H ++ P ++ T ++ E ++ B ++ D ≡ H ++ (P ++ (T ++ (E ++ (B ++ D))))
six H P T E B D = simp append_assoc

-- a sheet's bits in an edition, in parts
as_parts : (t : Bool) (s : Sheet) → Plain t s
    → bits_as t s ≡ header_as t (counts_of s) ++ (write_rows particle_w s.particles ++ (write_rows triangle_w s.triangles ++ (write_rows edge_w s.edges ++ (write_rows boundary_w s.boundary ++ pack blade_w s.blade))))
unfolding bits_as header_as Plain sheet_bits sheet2_bits write_rows
as_parts true s p =
    let H = pack header2_w (2047 ∷ length s.particles ∷ length s.triangles ∷ length s.edges ∷ []) in
    let P = write_rows particle_w s.particles in
    let T = write_rows triangle_w s.triangles in
    let E = write_rows edge_w s.edges in
    let D = pack blade_w s.blade in
    five H P T E D ∙ ap (λ (b : List (List ℕ)). H ++ (P ++ (T ++ (E ++ (write_rows boundary_w b ++ D))))) (sym p)
as_parts false s p = six (pack header_w (header_of (counts_of s))) (write_rows particle_w s.particles) (write_rows triangle_w s.triangles) (write_rows edge_w s.edges) (write_rows boundary_w s.boundary) (pack blade_w s.blade)

header_long : (t : Bool) (c : Counts) → length (header_as t c) ≡ pick t 45 46
unfolding header_as total
header_long true c = length_pack header2_w (2047 ∷ c.particles ∷ c.triangles ∷ c.edges ∷ [])
header_long false c = length_pack header_w (header_of c)

rows_long : (ws : List ℕ) (w : ℕ) (r : List (List ℕ)) → total ws ≡ w → length (write_rows ws r) ≡ length r * w
rows_long ws w r e = length_write_rows ws r ∙ ap (λ (k : ℕ). length r * k) e

wide_p : total particle_w ≡ 23
unfolding total
wide_p = refl

wide_t : total triangle_w ≡ 30
unfolding total
wide_t = refl

wide_e : total edge_w ≡ 21
unfolding total
wide_e = refl

wide_b : total boundary_w ≡ 20
unfolding total
wide_b = refl

module _ (s t e b : List ℕ) (a : Mendable s) (k : Marked s t e b) where
  abbrev l : List ℕ
  l = bits_of s

  abbrev C : Counts
  C = counts_at (bits_in_of (bits_of s))

  abbrev M : Sheet
  M = mended_sheet (typed_of (bits_of s))

  -- what the four loops and the blade write is what the mended sheet has
  part_p : (z : List ℕ) (at : ℕ) → z ≡ replicate C.particles 0 → at ≡ start_of l → write_rows particle_w (kept_by_of z (read_rows particle_w (length z) (drop at l))) ≡ write_rows particle_w M.particles
  part_p z at ez ea =
      let n : length z ≡ C.particles = ap length ez ∙ length-replicate {A = ℕ} C.particles 0 in
      ap₂ (λ (x : List ℕ) (y : ℕ). write_rows particle_w (kept_by_of x (read_rows particle_w y (drop at l)))) ez n
      ∙ (ap (λ (r : List (List ℕ)). write_rows particle_w (kept_by_of (replicate C.particles 0) r)) (particles_at s a at ea) ∙ ap (write_rows particle_w) (kept_all (typed_of l).particles C.particles (many s a).0 ∙ sym (same_particles s t e b a k)))

  part_t : (at : ℕ) → at ≡ start_of l + C.particles * 23 → write_rows triangle_w (kept_by_of t (read_rows triangle_w (length t) (drop at l))) ≡ write_rows triangle_w M.triangles
  part_t at ea =
      ap (λ (y : ℕ). write_rows triangle_w (kept_by_of t (read_rows triangle_w y (drop at l)))) (long_t s t e b a k ∙ (many s a).1)
      ∙ (ap (λ (r : List (List ℕ)). write_rows triangle_w (kept_by_of t r)) (triangles_at_lem s a at ea) ∙ ap (write_rows triangle_w) (kept_triangles s t e b a k))

  part_e : (at : ℕ) → at ≡ start_of l + C.particles * 23 + C.triangles * 30 → write_rows edge_w (kept_by_of e (read_rows edge_w (length e) (drop at l))) ≡ write_rows edge_w M.edges
  part_e at ea =
      ap (λ (y : ℕ). write_rows edge_w (kept_by_of e (read_rows edge_w y (drop at l)))) (long_e s t e b a k ∙ (many s a).2)
      ∙ (ap (λ (r : List (List ℕ)). write_rows edge_w (kept_by_of e r)) (edges_at s a at ea) ∙ ap (write_rows edge_w) (kept_edges s t e b a k))

  part_b : (at : ℕ) → at ≡ start_of l + C.particles * 23 + C.triangles * 30 + C.edges * 21 → write_rows (10 ∷ 10 ∷ 0 ∷ []) (kept_by_of b (read_rows (10 ∷ 10 ∷ 0 ∷ []) (length b) (drop at l))) ≡ write_rows boundary_w M.boundary
  part_b at ea =
      kept_pairs (drop at l) b (length b)
      ∙ (ap (λ (y : ℕ). write_rows boundary_w (kept_by_of b (read_rows boundary_w y (drop at l)))) (long_b s t e b a k ∙ (many s a).3)
      ∙ (ap (λ (r : List (List ℕ)). write_rows boundary_w (kept_by_of b r)) (boundary_at s a at ea) ∙ ap (write_rows boundary_w) (kept_boundary s t e b a k)))

  part_d : (at : ℕ) → at ≡ start_of l + C.particles * 23 + C.triangles * 30 + C.edges * 21 + C.boundary * 20 → pack blade_w (unpack blade_w (drop at l)) ≡ pack blade_w M.blade
  part_d at ea = ap (pack blade_w) (blade_at s a at ea ∙ sym (same_blade s t e b a k))

  -- the mended sheet, put together
  module _ (o0 o1 o2 o3 o4 o5 o6 z : List ℕ) (c kept : Counts) (two : Bool) (start at_t at_e at_b at_d to_t to_e to_b to_d : ℕ) (ec : c ≡ C) (ek : kept ≡ counts_of M) (ew : two ≡ second l) (es : start ≡ start_of l) (ez' : z ≡ replicate c.particles 0)
      (qt : at_t ≡ start + c.particles * 23) (qe : at_e ≡ at_t + c.triangles * 30) (qb : at_b ≡ at_e + c.edges * 21) (qd : at_d ≡ at_b + c.boundary * 20)
      (h : bits_of o1 ≡ sets (bits_of o0) 0 (header_as two kept)) (k1 : Kept s start 11 11 1 z o1 start o2 to_t) (k2 : Kept s at_t 10 10 10 t o2 to_t o3 to_e) (k3 : Kept s at_e 10 10 1 e o3 to_e o4 to_b) (k4 : Kept s at_b 10 10 0 b o4 to_b o5 to_d)
      (k5 : bits_of o6 ≡ sets (bits_of o5) to_d (pack blade_w (unpack blade_w (drop at_d l)))) (zeros : bits_of o0 ≡ replicate (8 * length o0) 0) (room : bytes_in (second l) (counts_of M) ≤ length o0) where
    all_parts : bits_of o6 ≡ sets (bits_of o0) 0 (bits_as (second l) M)
    all_parts =
        let cp : c.particles ≡ C.particles = ap (λ (x : Counts). x.particles) ec in
        let ct : c.triangles ≡ C.triangles = ap (λ (x : Counts). x.triangles) ec in
        let ce : c.edges ≡ C.edges = ap (λ (x : Counts). x.edges) ec in
        let cb : c.boundary ≡ C.boundary = ap (λ (x : Counts). x.boundary) ec in
        let ez : z ≡ replicate C.particles 0 = ez' ∙ ap (λ (n : ℕ). replicate n 0) cp in
        let H = header_as (second l) (counts_of M) in
        let P = write_rows particle_w M.particles in
        let T = write_rows triangle_w M.triangles in
        let E = write_rows edge_w M.edges in
        let B = write_rows boundary_w M.boundary in
        let D = pack blade_w M.blade in
        let lh : length H ≡ start_of l = header_long (second l) (counts_of M) in
        let lp = rows_long particle_w 23 M.particles wide_p in
        let lt = rows_long triangle_w 30 M.triangles wide_t in
        let le = rows_long edge_w 21 M.edges wide_e in
        let lb = rows_long boundary_w 20 M.boundary wide_b in
        let n1 = k1.next in
        let n2 = k2.next in
        let n3 = k3.next in
        let n4 = k4.next in
        let zp : zeros_of z ≡ length M.particles = ap zeros_of ez ∙ (zeros_all C.particles ∙ sym (many_out s t e b a k)) in
        let zt = zeros_t s t e b a k in
        let ze = zeros_e s t e b a k in
        let zb = zeros_b s t e b a k in
        chain (bits_of o0) (bits_of o1) (bits_of o2) (bits_of o3) (bits_of o4) (bits_of o5) (bits_of o6) H P T E B D start to_t to_e to_b to_d
        (h ∙ ap₂ (λ (x : Bool) (y : Counts). sets (bits_of o0) 0 (header_as x y)) ew ek)
        (k1.bits ∙ ap (sets (bits_of o1) start) (part_p z start ez es))
        (k2.bits ∙ ap (sets (bits_of o2) to_t) (part_t at_t (omega arith)))
        (k3.bits ∙ ap (sets (bits_of o3) to_e) (part_e at_e (omega arith)))
        (k4.bits ∙ ap (sets (bits_of o4) to_b) (part_b at_b (omega arith)))
        (k5 ∙ ap (sets (bits_of o5) to_d) (part_d at_d (omega arith)))
        (omega arith) (omega arith) (omega arith) (omega arith) (omega arith)
        ∙ ap (sets (bits_of o0) 0) (sym (as_parts (second l) M (plain s t e b a k)))

    pub sheet_put : bits_of o6 ≡ padded (8 * length o0) 0 (bits_as (second l) M)
    sheet_put =
        let n = as_length (second l) M (plain s t e b a k) in
        let i = end_inside (second l) (counts_of M) in
        all_parts ∙ (ap (λ (x : List ℕ). sets x 0 (bits_as (second l) M)) zeros ∙ sets_zeros (8 * length o0) (bits_as (second l) M) (omega arith))
