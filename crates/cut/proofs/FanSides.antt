-- From a fan read off the blocks to the sides by which it is split. Assumes nothing.
use mathlib.Core.Path.{◌≡◌, refl, sym, ◌∙◌, ap, subst}
use mathlib.Core.List.{List, [], ◌∷◌, map}
use Prim.Native.Nat.{ℕ, zero, suc, ◌*◌, ◌-◌, ◌/◌, ◌<◌, ◌≤◌}
use native.Mathlib.Omega.{arith}
use native.Mathlib.Nat.{not-suc-le-zero}
use lib.ListN.{length, get_or, take, replicate, get_or-replicate}
use lib.Ieee.{Float}
use Rattle.lists.specs.Lists.{padded}
use Rattle.model.specs.Mesh.{Mesh}
use Rattle.model.specs.Elements.{Kind, Element, corners_per_of, fan_of}
use Rattle.mesh.specs.At.{mesh_at}
use Rattle.mesh.specs.Given.{Lent}
use Rattle.mesh.specs.declared.Counts.{Counts}
use Rattle.mesh.specs.declared.Rooms.{Rooms}
use Rattle.mesh.specs.Widths.{point_columns}
use Rattle.elements.specs.Table.{Tabled}
use Rattle.split_plan.specs.Opened.{CornersBelow}
use Rattle.work.specs.Working.{Ready}
use Rattle.split.specs.Tables.{FanTables, FanSided}
use Rattle.split.proofs.Below.{table_below, fan_corners}
use Rattle.work.proofs.Placed.{particles_count}
use Rattle.cut.specs.declared.facets.Parting.{Parting}
use Rattle.cut.specs.declared.facets.Parting.TheVariants.{Free, Blade as BladeFrom, Snapped}
use Rattle.marks.specs.Marking.{blade_by, blade_from}
use Rattle.marks.specs.Sided.{SidesRoom, SidesBy}
use Rattle.cut.specs.Running.{sides_in, SidesFor}
use Rattle.marks.proofs.MarkLaws.{places_at}

-- ---- the sides of a fan

-- 0 for each element
zeros_of : (es : List Element) → replicate {A = ℕ} (length es) 0 ≡ map (λ (e : Element). 0) es
zeros_of [] = refl
zeros_of (e ∷ es) = ap (λ (l : List ℕ). 0 ∷ l) (zeros_of es)

pub free_sides : (w : Parting) (K : Kind) (v n : ℕ) (verts : List ℕ) (points : List Float) (ls : ℕ) (sides : List ℕ) → w ≡ Free → n ≤ ls → sides ≡ padded ls 0 [] → SidesFor w K v n verts points sides
unfolding padded sides_in
free_sides w K v n verts points ls sides e h s =
    let z : ls - 0 ≡ ls = omega arith in
    let q : sides ≡ replicate {A = ℕ} ls 0 = s ∙ ap (λ (m : ℕ). replicate {A = ℕ} m 0) z in
    subst (λ (x : Parting). SidesFor x K v n verts points sides) (sym e)
    (record {
      are = λ M p C at b c.
          ap (take n) q ∙ take_zeros n ls h ∙ ap (λ (m : ℕ). replicate {A = ℕ} m 0) C.count ∙ zeros_of (fan_of K M v);
      two = λ i l.
          let g : get_or sides i 0 ≡ 0 = ap (λ (t : List ℕ). get_or t i 0) q ∙ get_or-replicate ls i 0 0 (omega arith) in
          omega arith;
    })
  where
    take_zeros : (a b : ℕ) → a ≤ b → take a (replicate {A = ℕ} b 0) ≡ replicate {A = ℕ} a 0
    take_zeros zero b g = refl
    take_zeros (suc a) zero g = absurd (not-suc-le-zero g)
    take_zeros (suc a) (suc b) g = ap (λ (l : List ℕ). 0 ∷ l) (take_zeros a b (omega arith))

-- by the blade
pub blade_parts : (w : Parting) (K : Kind) (v n : ℕ) (verts : List ℕ) (points : List Float) (sides : List ℕ) (rule : _) (b0 b1 : _) → w ≡ BladeFrom rule b0 b1 → SidesBy K (blade_by rule b0 b1) v n verts points sides → SidesFor w K v n verts points sides
unfolding sides_in
blade_parts w K v n verts points sides rule b0 b1 e S = subst (λ (x : Parting). SidesFor x K v n verts points sides) (sym e) (record { are = S.are; two = S.two })

pub snapped_parts : (w : Parting) (K : Kind) (v n : ℕ) (verts : List ℕ) (points : List Float) (sides : List ℕ) (b0 b1 : _) → w ≡ Snapped b0 b1 → SidesBy K (blade_from b0 b1) v n verts points sides → SidesFor w K v n verts points sides
unfolding sides_in
snapped_parts w K v n verts points sides b0 b1 e S = subst (λ (x : Parting). SidesFor x K v n verts points sides) (sym e) (record { are = S.are; two = S.two })

-- ---- a fan of a mesh in blocks

module _ (K : Kind) (k : Counts) (points : List Float) (roots corners : List ℕ) (volumes : List Float) (ends : List ℕ) (lengths : List Float) (outline : List ℕ) (L : Rooms) (I : Lent)
    (Y : Ready L k I (mesh_at k points roots corners volumes ends lengths outline)) (lent : I.points ≡ length points) (v : ℕ) (here : v < k.particles) (n : ℕ) (numbers verts : List ℕ) (measures : List Float)
    (F : FanTables K v k.triangles k.edges corners volumes ends lengths n numbers verts measures) (ns : n ≤ length numbers) (long : n * corners_per_of K ≤ length verts) (ms : n ≤ length measures) where
  abbrev mesh : Mesh
  mesh = mesh_at k points roots corners volumes ends lengths outline

  fan_tabled : Tabled (corners_per_of K) (fan_of K mesh v) n numbers verts measures
  unfolding mesh_at
  fan_tabled = (F.read ns long ms).tabled mesh refl refl

  fan_below : CornersBelow k.particles n (corners_per_of K) verts
  fan_below j h =
      let c : length mesh.particles ≡ k.particles = particles_count k points roots corners volumes ends lengths outline in
      let b : get_or verts j 0 < length mesh.particles = table_below _ n (corners_per_of K) (fan_of K mesh v) verts (fan_corners K mesh v Y.indices) fan_tabled.cornered long j h in
      omega arith

  pub fan_room : (ls : ℕ) → n ≤ ls → SidesRoom v (corners_per_of K) n verts (length points) ls
  fan_room ls h =
      let a : k.particles ≤ L.particles = Y.counts.particles in
      let b : L.particles ≤ length points / point_columns = subst (λ (m : ℕ). L.particles ≤ m / point_columns) lent Y.rooms.points in
      record {
        here = omega arith;
        few = F.few;
        long = long;
        sides_long = h;
        corners_in = λ j l. let g : get_or verts j 0 < k.particles = fan_below j l in omega arith;
      }

  module _ (w : Parting) (sides : List ℕ) (S : SidesFor w K v n verts points sides) where
    pub fan_sided : n ≤ length sides → FanSided K mesh v n numbers verts measures sides
    fan_sided d =
        record {
          here = let c : length mesh.particles ≡ k.particles = particles_count k points roots corners volumes ends lengths outline in omega arith;
          tabled = fan_tabled;
          few = F.few;
          numbers_long = ns;
          verts_long = long;
          measures_long = ms;
          sides_long = d;
          two = S.two;
        }

    pub fan_sides : take n sides ≡ sides_in w K mesh v
    fan_sides = S.are mesh k.particles fan_tabled.cornered (places_at k points roots corners volumes ends lengths outline) here fan_below
