-- `split::step::split_in` meets its contract: the fan of v in tables that have room for it, split by the sides given for it. Assumes nothing.
use Prim.Native.Nat.{ℕ, ◌*◌, ◌≤◌}
use native.Mathlib.Omega.{arith}
use mathlib.Core.Path.{sym, subst}
use lib.ListN.{length-replicate}
use lib.Ieee.{of_bits, binary32}
use Rattle.model.specs.Elements.{corners_per_of}
use Rattle.elements.specs.Table.{kind_is}
use Rattle.split.proofs.TabledLaws.{given_in, given_sided, sides_count, sides_taken, sides_works}
use Rattle.split.proofs.LinkLaws.{fan_ready}
use Rattle.split.proofs.step.split_in.Goals as goal

pub fan_tables-n-requires : goal.fan_tables-n-requires
fan_tables-n-requires g c = let P = c.requires in let A = c.args in fan_ready (kind_is A.kind) A.room A.k A.points.now A.roots.now A.corners.now A.volumes.now A.ends.now A.lengths.now A.outline.now A.log.now P.0 (given_in (kind_is A.kind) A.room A.k A.points.now A.roots.now A.corners.now A.volumes.now A.ends.now A.lengths.now A.outline.now A.log.now P.0 P.1) P.3

pub whole_as_slice-fan_tables : goal.whole_as_slice-fan_tables
whole_as_slice-fan_tables g c = let P = c.requires in omega (arith, P.4)

pub whole_as_slice-fan_tables-2 : goal.whole_as_slice-fan_tables-2
whole_as_slice-fan_tables-2 g c = let P = c.requires in omega (arith, P.5)

pub whole_as_slice-fan_tables-3 : goal.whole_as_slice-fan_tables-3
whole_as_slice-fan_tables-3 g c = let P = c.requires in omega (arith, P.4)

pub split_tabled-requires : goal.split_tabled-requires
split_tabled-requires g c = let P = c.requires in let A = c.args in let F = c.fan_tables-n.ensures in let K = kind_is A.kind in
    let e = sides_count K A.room A.k A.points.now A.roots.now A.corners.now A.volumes.now A.ends.now A.lengths.now A.outline.now A.log.now P.0 F P.1 in
    let few : c.fan_tables-n.result ≤ g.row.N = subst (λ (m : ℕ). m ≤ g.row.N) (sym e) (P.6 (subst (λ (m : ℕ). m ≤ 2048) e F.few)) in
    let narrow : c.fan_tables-n.result * corners_per_of K ≤ g.row.C = subst (λ (m : ℕ). m * corners_per_of K ≤ g.row.C) (sym e) (P.7 (subst (λ (m : ℕ). m * corners_per_of K ≤ 4096) e F.narrow)) in
    let n = length-replicate {A = ℕ} g.row.N 0 in
    (P.0, given_sided K A.room A.k A.points.now A.roots.now A.corners.now A.volumes.now A.ends.now A.lengths.now A.outline.now A.log.now P.0 F P.1 (omega (arith, few, n, c.fan_tables-n.auto.numbers)) (omega (arith, narrow, length-replicate {A = ℕ} g.row.C 0, c.fan_tables-n.auto.verts)) (omega (arith, few, length-replicate g.row.N (of_bits binary32 0), c.fan_tables-n.auto.measures)), omega (arith, few, n), P.2, P.3)

pub shape_of-points : goal.shape_of-points
shape_of-points g c = c.split_tabled.auto.points

pub shape_of-roots : goal.shape_of-roots
shape_of-roots g c = c.split_tabled.auto.roots

pub shape_of-corners : goal.shape_of-corners
shape_of-corners g c = c.split_tabled.auto.corners

pub shape_of-ends : goal.shape_of-ends
shape_of-ends g c = c.split_tabled.auto.ends

pub shape_of-lengths : goal.shape_of-lengths
shape_of-lengths g c = c.split_tabled.auto.lengths

pub shape_of-outline : goal.shape_of-outline
shape_of-outline g c = c.split_tabled.auto.outline

pub shape_of-log : goal.shape_of-log
shape_of-log g c = c.split_tabled.auto.log

pub shape_of-list : goal.shape_of-list
shape_of-list g c = c.split_tabled.auto.list

pub shape_of-links : goal.shape_of-links
shape_of-links g c = c.split_tabled.auto.links

pub returns : goal.returns
returns g c = let P = c.requires in let A = c.args in (sides_works (kind_is A.kind) A.v (sides_taken (kind_is A.kind) A.room A.k A.points.now A.roots.now A.corners.now A.volumes.now A.ends.now A.lengths.now A.outline.now A.log.now P.0 c.fan_tables-n.ensures P.1) c.split_tabled.ensures.0.0, c.split_tabled.ensures.0.1)
