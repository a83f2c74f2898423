-- `insert::step::insert` meets its contract: the rooms are tested in the order of their numbers, and each list is as proofs/StepLaws.antt says. Assumes nothing.
use Rattle.insert.proofs.StepLaws.{told_5, told_6, told_7, told_8, told_done}
use native.Mathlib.Omega.{arith}
use borrow.Author.Rules.{rules}
use Rattle.insert.proofs.step.insert.Goals as goal

pub returns-then-room-n : goal.returns-then-room-n
returns-then-room-n c = (told_5 _ _ _ _ _ _ _ _ _ c.requires.0 _ _ _ _ _ _ c.if-room-n.true, tt)

pub returns-then-room-e : goal.returns-then-room-e
returns-then-room-e c = (told_6 _ _ _ _ _ _ _ _ _ c.requires.0 _ _ _ _ _ _ c.if-room-n.false c.if-room-e.true, tt)

pub insert_sides-grown-requires : goal.insert_sides-grown-requires
insert_sides-grown-requires c = record { rows = c.requires.0.counts.boundary; columns = c.requires.0.outline }

pub shape_of-outline-in_default : goal.shape_of-outline-in_default
shape_of-outline-in_default c = c.insert_sides-grown.auto.outline

pub returns-in_default : goal.returns-in_default
returns-in_default c = (told_7 _ _ _ _ _ _ _ _ _ c.requires.0 _ _ _ _ _ _ c.if-room-n.false c.if-room-e.false c.insert_sides-grown.result c.insert_sides-grown.ensures c.in_default.is, tt)

pub shape_of-outline-then-room-g : goal.shape_of-outline-then-room-g
shape_of-outline-then-room-g c = c.insert_sides-grown.auto.outline

pub returns-then-room-g : goal.returns-then-room-g
returns-then-room-g c = (told_8 _ _ _ _ _ _ _ _ _ c.requires.0 _ _ _ _ _ _ c.if-room-n.false c.if-room-e.false c.insert_sides-grown.result c.insert_sides-grown.ensures _ c.in-Some.is c.if-room-g.true, tt)

pub insert_particles-requires : goal.insert_particles-requires
insert_particles-requires c = let S = c.requires.0 in
    record { a_in = omega (arith, c.requires.0.before_is, c.requires.0.a_in); b_in = omega (arith, c.requires.0.before_is, c.requires.0.b_in); few = omega (arith, c.if-room-n.false, c.requires.0.few_particles); room = record { points = omega (arith, c.if-room-n.false, c.requires.0.points); roots = omega (arith, c.if-room-n.false, c.requires.0.roots) } }

pub insert_edges-requires : goal.insert_edges-requires
insert_edges-requires c = let S = c.requires.0 in
    (record { here = c.requires.0.here; room = record { ends = omega (arith, c.if-room-e.false, c.requires.0.ends); lengths = omega (arith, c.if-room-e.false, c.requires.0.lengths) } }, c.requires.1, record { a_in = omega (arith, c.requires.0.before_is, c.requires.0.a_in); b_in = omega (arith, c.requires.0.before_is, c.requires.0.b_in); heads = omega (arith, c.if-room-n.false, c.requires.0.few_particles); few = omega (arith, c.if-room-e.false, c.requires.0.few_edges) })

pub shape_of-points : goal.shape_of-points
shape_of-points c = c.insert_particles.auto.points

pub shape_of-roots : goal.shape_of-roots
shape_of-roots c = c.insert_particles.auto.roots

pub shape_of-ends : goal.shape_of-ends
shape_of-ends c = c.insert_edges.auto.ends

pub shape_of-lengths : goal.shape_of-lengths
shape_of-lengths c = c.insert_edges.auto.lengths

pub shape_of-outline : goal.shape_of-outline
shape_of-outline c = c.insert_sides-grown.auto.outline

pub shape_of-log : goal.shape_of-log
shape_of-log c = c.note.auto.log

pub shape_of-table : goal.shape_of-table
shape_of-table c = c.insert_edges.auto.table

pub returns : goal.returns
returns c = (told_done _ _ _ _ _ _ _ _ _ c.requires.0 _ _ _ _ _ _ c.if-room-n.false c.if-room-e.false c.insert_sides-grown.result c.insert_sides-grown.ensures _ c.in-Some.is c.if-room-g.false _ c.bits_of.ensures c.insert_particles.ensures c.insert_edges.ensures.0 c.note.ensures, c.insert_edges.ensures.1)
