-- The lists that rows by their places make, and an outline from a block, are the mesh of the sheet as it is read. Assumes nothing.
use Prim.Native.Nat.{ℕ, ◌+◌, ◌*◌, ◌≤◌}
use mathlib.Core.Path.{◌≡◌, refl, sym, ap, ◌∙◌, subst}
use mathlib.Core.Bool.{Bool, true, false}
use mathlib.Core.List.{List, [], ◌∷◌}
use native.Mathlib.Omega.{arith}
use lib.ListN.{length, drop}
use lib.Seq.{drop-drop}
use lib.Ieee.{Float}
use Rattle.lists.specs.Lists.{tab, padded}
use Rattle.float.specs.Numbers.{zero32}
use Rattle.mesh.specs.At.{particles_at, triangles_at, edges_at, mesh_at}
use Rattle.bits.specs.Bits.{bits_of, field_at}
use Rattle.bits.specs.Rows.{unpack, read_rows}
use Rattle.outline_tables.specs.Rows.{sides_at}
use Rattle.sheet.specs.Sheet.{counts_at, sheet_with, particle_w, triangle_w, edge_w, at_triangles, at_edges, at_blade}
use Rattle.sheet.specs.Work.{ok_at_of}
use Rattle.split_plan.specs.Opened.{place_in as point_in}
use Rattle.sheet_rows.specs.Work.{particle_bits, triangle_bits, edge_bits}
use Rattle.sheet.specs.Read.{particles_from, triangles_from, edges_from, boundary_from, place_in, mesh_of_sheet, blade_of_sheet, the_float_of, counts_for}
use Rattle.sheet.specs.declared.Counts.{Counts}
use Rattle.sheet.specs.Work.{CountsRead, RowsIn, Small}
use Rattle.sheet.proofs.There.{limits}
use Rattle.mesh.specs.Given.{Lent}
use Rattle.sheet_rows.proofs.MeshReads.{particles_read, triangles_read, edges_read, place_same, triangles_same, edges_same}
use Rattle.edition.specs.Edition.{second, bits_in_of, bounded, typed_of, sheet_of, outline_in, whole_with}
use Rattle.edition.specs.Work.{start_of, TypedIn, MeshIn, BladeAt, Outlined}
use Rattle.std.specs.Prelude.{Result}
use Rattle.edition.specs.declared.Seen.{Seen}
use Rattle.mesh.specs.declared.refusals.Refusal.{Refusal}
use Rattle.edition.proofs.Starts.{starts_at, rows_at, names_here, header_bits, reach, start_most}
use Rattle.edition.proofs.Sides.{sides_boundary}

module _ (s : List ℕ) (t : TypedIn s (counts_at (bits_in_of (bits_of s)))) where
  abbrev l : List ℕ
  l = bits_of s

  abbrev d : Counts
  d = counts_at (bits_in_of (bits_of s))

  abbrev at : ℕ
  at = start_of (bits_of s)

  -- the sheet as it is read
  read_as : (sheet_of l).sheet ≡ bounded (outline_in (second l) (typed_of l)) (sheet_with d (bits_in_of l))
  unfolding sheet_of typed_of
  read_as = refl

  pub mesh_here :
      (c : Counts) (P : List Float) (R C : List ℕ) (U : List Float) (E : List ℕ) (L : List Float) (O F : List ℕ) (a : ℕ) → a ≡ at
      → c.particles ≡ d.particles → c.triangles ≡ d.triangles → c.edges ≡ d.edges
      → particles_at c.particles P R ≡ tab c.particles (particle_bits l a)
      → triangles_at c.triangles C U ≡ tab c.triangles (triangle_bits (point_in P) l (a + c.particles * 23))
      → edges_at c.edges E L ≡ tab c.edges (edge_bits (point_in P) l (a + c.particles * 23 + c.triangles * 30))
      → sides_at c.boundary O ≡ sides_at c.boundary F → sides_at c.boundary F ≡ (sheet_of l).sheet.boundary
      → mesh_at (counts_for c) P R C U E L O ≡ mesh_of_sheet (sheet_of l).sheet
  unfolding mesh_at mesh_of_sheet sheet_with sheet_of typed_of
  mesh_here c P R C U E L O F a ea xp xt xe ep et ee eo ef =
      let room = header_bits s t.six in
      let n = c.particles in
      let w = names_here s d t in
      let at_t = a + n * 23 in
      let at_e = at_t + c.triangles * 30 in
      let dp : drop a l ≡ drop 46 (bits_in_of l) = starts_at l room 46 a 0 (omega arith) (omega arith) in
      let dt : drop at_t l ≡ drop (at_triangles d) (bits_in_of l) = starts_at l room (at_triangles d) at_t (n * 23) (omega arith) (omega arith) in
      let de : drop at_e l ≡ drop (at_edges d) (bits_in_of l) = starts_at l room (at_edges d) at_e (n * 23 + c.triangles * 30) (omega arith) (omega arith) in
      let ot : ok_at_of true n l at_t 30 c.triangles ≡ true =
      subst (λ (p : ℕ). ok_at_of true p l at_t 30 c.triangles ≡ true) (sym xp) (subst (λ (k : ℕ). ok_at_of true d.particles l at_t 30 k ≡ true) (sym xt) (rows_at l room true d.particles (at_triangles d) at_t (n * 23) 30 d.triangles (omega arith) (omega arith) w.0)) in
      let oe : ok_at_of false n l at_e 21 c.edges ≡ true =
      subst (λ (p : ℕ). ok_at_of false p l at_e 21 c.edges ≡ true) (sym xp) (subst (λ (k : ℕ). ok_at_of false d.particles l at_e 21 k ≡ true) (sym xe) (rows_at l room false d.particles (at_edges d) at_e (n * 23 + c.triangles * 30) 21 d.edges (omega arith) (omega arith) w.1)) in
      let ps = particles_from (read_rows particle_w d.particles (drop 46 (bits_in_of l))) in
      let rp : particles_at n P R ≡ ps = ep ∙ (sym (particles_read n l a) ∙ (ap (λ (x : List ℕ). particles_from (read_rows particle_w n x)) dp ∙ ap (λ (k : ℕ). particles_from (read_rows particle_w k (drop 46 (bits_in_of l)))) xp)) in
      let same = place_same n P R ps rp in
      let rt : triangles_at c.triangles C U ≡ triangles_from (place_in ps) (read_rows triangle_w d.triangles (drop (at_triangles d) (bits_in_of l))) =
      et ∙ (triangles_same n (point_in P) (place_in ps) same l at_t c.triangles ot ∙ (sym (triangles_read (place_in ps) c.triangles l at_t)
      ∙ (ap (λ (x : List ℕ). triangles_from (place_in ps) (read_rows triangle_w c.triangles x)) dt ∙ ap (λ (k : ℕ). triangles_from (place_in ps) (read_rows triangle_w k (drop (at_triangles d) (bits_in_of l)))) xt))) in
      let re : edges_at c.edges E L ≡ edges_from (place_in ps) (read_rows edge_w d.edges (drop (at_edges d) (bits_in_of l))) =
      ee ∙ (edges_same n (point_in P) (place_in ps) same l at_e c.edges oe ∙ (sym (edges_read (place_in ps) c.edges l at_e)
      ∙ (ap (λ (x : List ℕ). edges_from (place_in ps) (read_rows edge_w c.edges x)) de ∙ ap (λ (k : ℕ). edges_from (place_in ps) (read_rows edge_w k (drop (at_edges d) (bits_in_of l)))) xe))) in
      let rb = sides_boundary c.boundary O ∙ ap boundary_from (eo ∙ ef) in
      λ i. record { particles = rp i; triangles = rt i; edges = re i; boundary = rb i }

  -- the blade by the places of its fields
  pub blade_here : (n p : ℕ) (b : List Float) → p ≡ at + d.particles * 23 + d.triangles * 30 + d.edges * 21 + d.boundary * 20
      → b ≡ padded n zero32 (the_float_of (field_at l p 11) ∷ the_float_of (field_at l (p + 11) 11) ∷ the_float_of (field_at l (p + 22) 11) ∷ the_float_of (field_at l (p + 33) 11) ∷ [])
      → b ≡ padded n zero32 (blade_of_sheet (sheet_of l).sheet)
  unfolding blade_of_sheet sheet_with sheet_of typed_of unpack
  blade_here n p b e h =
      let room = header_bits s t.six in
      let k = d.particles * 23 + d.triangles * 30 + d.edges * 21 + d.boundary * 20 in
      let x : drop p l ≡ drop (at_blade d) (bits_in_of l) = starts_at l room (at_blade d) p k (omega arith) (omega arith) in
      let f : p + 11 + 11 ≡ p + 22 = omega arith in
      let g : p + 22 + 11 ≡ p + 33 = omega arith in
      h ∙ rw (← x, drop-drop 11 p l, drop-drop 11 (p + 11) l, f, drop-drop 11 (p + 22) l, g)

-- ---- what the workers ask

-- the counts of a mesh that is to be read are small, and its lists lie inside the bytes
pub mesh_few : {s o : List ℕ} {c : Counts} {L : Lent} → MeshIn s c o L
    → (c.particles ≤ 1024) × (c.triangles ≤ 1024) × (c.edges ≤ 2048) × (start_of (bits_of s) + c.particles * 23 + c.triangles * 30 + c.edges * 21 + 44 ≤ 8 * length s) × (start_of (bits_of s) ≤ 46)
mesh_few {s} {o} {c} {L} m =
    let d = counts_at (bits_in_of (bits_of s)) in
    let f = limits d m.typed.few in
    let r = reach s d m.typed in
    let x = m.particles in
    let y = m.triangles in
    let z = m.edges in
    (omega arith, omega arith, omega arith, omega arith, start_most (bits_of s))

-- its rows name particles
pub mesh_names : {s o : List ℕ} {c : Counts} {L : Lent} → MeshIn s c o L → (a : ℕ) → a ≡ start_of (bits_of s)
    → (ok_at_of true c.particles (bits_of s) (a + c.particles * 23) 30 c.triangles ≡ true) × (ok_at_of false c.particles (bits_of s) (a + c.particles * 23 + c.triangles * 30) 21 c.edges ≡ true)
mesh_names {s} {o} {c} {L} m a e =
    let l = bits_of s in
    let d = counts_at (bits_in_of l) in
    let room = header_bits s m.typed.six in
    let w = names_here s d m.typed in
    let xp = m.particles in
    let xt = m.triangles in
    let xe = m.edges in
    let at_t = a + c.particles * 23 in
    let at_e = at_t + c.triangles * 30 in (
      subst (λ (p : ℕ). ok_at_of true p l at_t 30 c.triangles ≡ true) (sym xp) (subst (λ (k : ℕ). ok_at_of true d.particles l at_t 30 k ≡ true) (sym xt) (rows_at l room true d.particles (at_triangles d) at_t (c.particles * 23) 30 d.triangles (omega arith) (omega arith) w.0)),
      subst (λ (p : ℕ). ok_at_of false p l at_e 21 c.edges ≡ true) (sym xp) (subst (λ (k : ℕ). ok_at_of false d.particles l at_e 21 k ≡ true) (sym xe) (rows_at l room false d.particles (at_edges d) at_e (c.particles * 23 + c.triangles * 30) 21 d.edges (omega arith) (omega arith) w.1)),
    )

-- where the blade stands
pub blade_at : (l : List ℕ) (c : Counts) (a : ℕ) → CountsRead (bits_in_of l) c → a ≡ start_of l → BladeAt l (a + c.particles * 23 + c.triangles * 30 + c.edges * 21 + c.boundary * 20)
blade_at l c a r e = record {
  counts = subst Small r.is r.small;
  is = ap (λ (x : Counts). a + x.particles * 23 + x.triangles * 30 + x.edges * 21 + x.boundary * 20) r.is
      ∙ ap (λ (j : ℕ). j + (counts_at (bits_in_of l)).particles * 23 + (counts_at (bits_in_of l)).triangles * 30 + (counts_at (bits_in_of l)).edges * 21 + (counts_at (bits_in_of l)).boundary * 20) e;
}

-- it lies inside the bytes
pub blade_in : (s : List ℕ) (p : ℕ) → TypedIn s (counts_at (bits_in_of (bits_of s))) → BladeAt (bits_of s) p → RowsIn s p 11 4
blade_in s p t b =
    let d = counts_at (bits_in_of (bits_of s)) in
    let r = reach s d t in
    let f = limits d t.few in
    let m = start_most (bits_of s) in
    record { room = omega (arith, b.is); small = omega (arith, b.is) }

-- the outline beside an answer that is whole
pub outlined_sides : (r : Result Seen Refusal) (s o : List ℕ) (c : Counts) (f : Bool) → r ≡ whole_with c f → Outlined r s o → sides_at c.boundary o ≡ (sheet_of (bits_of s)).sheet.boundary
outlined_sides r s o c f e h = subst (λ (x : Result Seen Refusal). Outlined x s o) e h
