-- A whole sheet, as it is read: its lists and those of its mesh have as many entries as its counts say, and the blocks that it was read into hold that mesh. Assumes nothing.
use Prim.Native.Nat.{ℕ}
use mathlib.Core.Path.{◌≡◌, sym, ap, ◌∙◌, subst}
use mathlib.Core.Bool.{Bool}
use mathlib.Core.List.{List}
use lib.ListN.{length, length-map}
use lib.Ieee.{Float}
use Rattle.lists.proofs.Rows.{length_map_at}
use Rattle.mesh.specs.At.{mesh_at}
use Rattle.mesh.specs.Given.{Lent}
use Rattle.mesh.specs.Filled.{lent}
use Rattle.mesh.specs.declared.Counts as M
use Rattle.filled.specs.Counts.{counts_in}
use Rattle.filled.proofs.Held.{mesh_held}
use Rattle.bits.specs.Bits.{bits_of}
use Rattle.sheet.specs.Sheet.{counts_at, counts_of}
use Rattle.sheet.proofs.Rowed.{sheet_rowed}
use Rattle.sheet.specs.Read.{particles_from, triangles_from, edges_from, boundary_from, mesh_of_sheet, counts_for}
use Rattle.sheet.specs.declared.Counts.{Counts}
use Rattle.edition.specs.Edition.{bits_in_of, typed_of, sheet_of, seen_of, whole_with}
use Rattle.edition.specs.Reading.{world_of, ReadDone}
use Rattle.edition.proofs.Fields.{typed_counts_lem}
use Rattle.edition.proofs.Entering.{outlined, seen_whole_tells, lent_whole}

-- the lists have the counts that were told
pub sheet_counts : (limits : Counts) (s : List ℕ) (c : Counts) (f : Bool) → seen_of limits s ≡ whole_with c f → counts_of (sheet_of (bits_of s)).sheet ≡ c
unfolding sheet_of typed_of
sheet_counts limits s c f e =
    let l = bits_in_of (bits_of s) in
    ap (λ (d : Counts). outlined d (length (sheet_of (bits_of s)).sheet.boundary)) (typed_counts_lem (counts_at l) l) ∙ sym (seen_whole_tells limits s c f e).counts

-- and so have the mesh's
pub mesh_counts : (limits : Counts) (s : List ℕ) (c : Counts) (f : Bool) → seen_of limits s ≡ whole_with c f → counts_in (world_of (whole_with c f) (bits_of s)) ≡ counts_for c
unfolding world_of mesh_of_sheet particles_from triangles_from edges_from boundary_from
mesh_counts limits s c f e =
    let h = (sheet_of (bits_of s)).sheet in
    rw (length_map_at _ h.particles, length-map h.triangles _, length-map h.edges _, length-map h.boundary _) (ap counts_for (sheet_counts limits s c f e))

-- blocks that kept their lengths hold it
pub mesh_read :
    (limits : Counts) (s : List ℕ) (L : Lent) (c : Counts) (f : Bool) (p : List Float) (q k : List ℕ) (v : List Float) (e : List ℕ) (l : List Float) (o g : List ℕ) (b b' : List Float)
    → ReadDone limits s L (whole_with c f) p q k v e l o g b b' → lent p q k v e l o g ≡ L → mesh_at (counts_for c) p q k v e l o ≡ mesh_of_sheet (sheet_of (bits_of s)).sheet
unfolding world_of
mesh_read limits s L c f p q k v e l o g b b' R same =
    subst (λ (x : M.Counts). mesh_at x p q k v e l o ≡ mesh_of_sheet (sheet_of (bits_of s)).sheet) (mesh_counts limits s c f (lent_whole (seen_of limits s) L (length b) c f (sym R.answer)))
    (mesh_held (world_of (whole_with c f) (bits_of s)) L p q k v e l o g R.blocks (sheet_rowed (sheet_of (bits_of s)).sheet) same)
