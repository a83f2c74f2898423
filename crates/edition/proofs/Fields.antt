-- The sheet that bytes of the right length hold, as it is typed: its lists are as long as its counts say, and every field holds its number. Assumes nothing.
use Prim.Native.Nat.{ℕ, ◌≤◌}
use mathlib.Core.Path.{◌≡◌, refl, sym, ap, ◌∙◌, subst}
use mathlib.Core.Bool.{Bool, true, false}
use mathlib.Core.List.{List}
use native.Mathlib.Omega.{arith}
use lib.ListN.{length, drop, length-drop}
use Rattle.bits.specs.Bits.{bits_of}
use Rattle.bits.specs.Rows.{total}
use Rattle.bits.proofs.Laws.{length_bits_of}
use Rattle.bits.proofs.RowLaws.{AllBits, bits_bits_of, bits_drop, fit_read, fit_unpack, length_read}
use Rattle.sheet.specs.Sheet.{FitSheet, counts_at, counts_of, sheet_with, too_many_of, particle_w, triangle_w, edge_w, boundary_w, blade_w, at_triangles, at_edges, at_boundary, at_blade, end_of}
use Rattle.sheet.specs.declared.Counts.{Counts}
use Rattle.sheet.proofs.There.{fit_header}
use Rattle.edition.specs.Edition.{second, bits_in_of, bytes_in}
use Rattle.edition.proofs.Editions.{first_bits, first_long}
use Rattle.edition.proofs.Starts.{in_second, in_first, header_bits}

-- the shortest sheet, of either edition
pub least_bytes : (t : Bool) (c : Counts) → 11 ≤ bytes_in t c
least_bytes true c = omega arith
least_bytes false c = omega arith

-- each list is as long as its count says
pub typed_counts_lem : (c : Counts) (l : List ℕ) → counts_of (sheet_with c l) ≡ c
unfolding sheet_with
typed_counts_lem c l =
    rw (length_read particle_w c.particles (drop 46 l), length_read triangle_w c.triangles (drop (at_triangles c) l), length_read edge_w c.edges (drop (at_edges c) l), length_read boundary_w c.boundary (drop (at_boundary c) l))

module _ (s : List ℕ) (long : length s ≡ bytes_in (second (bits_of s)) (counts_at (bits_in_of (bits_of s)))) where
  abbrev l : List ℕ
  l = bits_in_of (bits_of s)

  abbrev c : Counts
  c = counts_at (bits_in_of (bits_of s))

  -- the header is there
  pub typed_six : 6 ≤ length s
  typed_six = let g = long in let z = least_bytes (second (bits_of s)) c in omega arith

  pub all_bits : AllBits (bits_in_of (bits_of s))
  all_bits = by (second (bits_of s)) refl
    where
      by : (t : Bool) → second (bits_of s) ≡ t → AllBits (bits_in_of (bits_of s))
      by true e = subst AllBits (sym (in_second (bits_of s) e)) (first_bits (bits_of s) (bits_bits_of s) e (header_bits s typed_six))
      by false e = subst AllBits (sym (in_first (bits_of s) e)) (bits_bits_of s)

  -- and so are all the fields
  pub inside : end_of (counts_at (bits_in_of (bits_of s))) ≤ length (bits_in_of (bits_of s))
  inside = by (second (bits_of s)) refl
    where
      by : (t : Bool) → second (bits_of s) ≡ t → end_of c ≤ length l
      by true e =
          let g : length s ≡ bytes_in true c = long ∙ ap (λ (u : Bool). bytes_in u c) e in
          let x = ap length (in_second (bits_of s) e) in
          let y = first_long (bits_of s) (bits_bits_of s) e (header_bits s typed_six) in
          omega (arith, length_bits_of s)
      by false e =
          let g : length s ≡ bytes_in false c = long ∙ ap (λ (u : Bool). bytes_in u c) e in
          let x = ap length (in_first (bits_of s) e) in
          omega (arith, length_bits_of s)

  -- each of which holds its number
  pub typed_fit : too_many_of (counts_at (bits_in_of (bits_of s))) ≡ false → FitSheet (sheet_with (counts_at (bits_in_of (bits_of s))) (bits_in_of (bits_of s)))
  unfolding sheet_with total
  typed_fit few =
      record {
        header = fit_header (counts_of (sheet_with c l)) (ap too_many_of (typed_counts_lem c l) ∙ few);
        particles = fit_read particle_w c.particles (drop 46 l) (bits_drop 46 l all_bits) (omega (arith, inside, length-drop 46 l));
        triangles = fit_read triangle_w c.triangles (drop (at_triangles c) l) (bits_drop (at_triangles c) l all_bits) (omega (arith, inside, length-drop (at_triangles c) l));
        edges = fit_read edge_w c.edges (drop (at_edges c) l) (bits_drop (at_edges c) l all_bits) (omega (arith, inside, length-drop (at_edges c) l));
        boundary = fit_read boundary_w c.boundary (drop (at_boundary c) l) (bits_drop (at_boundary c) l all_bits) (omega (arith, inside, length-drop (at_boundary c) l));
        blade = fit_unpack blade_w (drop (at_blade c) l) (bits_drop (at_blade c) l all_bits) (omega (arith, inside, length-drop (at_blade c) l));
      }
