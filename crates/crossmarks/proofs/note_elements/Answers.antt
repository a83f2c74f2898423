-- `crossmarks::note_elements` meets its contract: by the kind of the mesh, and then by the room of the log. Assumes nothing.
use Rattle.crossmarks.proofs.NotingLaws.{triangle_room, strap_room, of_triangles, of_straps, of_nothing, marked_as, marked_refused, marked_done}
use Rattle.marks.specs.Marking.{blade_by}
use mathlib.Core.Path.{ap, ◌∙◌}
use mathlib.Core.Logic.{⊎_elim}
use native.Mathlib.Omega.{arith}
use lib.ListN.{length}
use borrow.Author.Rules.{rules}
use Rattle.crossmarks.proofs.note_elements.Goals as goal
use Rattle.crossmarks.proofs.note_elements.Goals.{in-Nothing, in-Straps, in-Triangles}

pub note_triangles-n-requires : goal.note_triangles-n-requires
note_triangles-n-requires c =
    let A = c.args in
    let Y = c.requires.0 in
    triangle_room A.kind (blade_by A.rule A.b0 A.b1) A.room A.k A.points.now A.roots.now A.corners.now A.volumes.now A.ends.now A.lengths.now A.outline.now A.log.now Y A.offsets.now c.requires.1

pub note_straps-n-requires : goal.note_straps-n-requires
note_straps-n-requires c =
    let A = c.args in
    let Y = c.requires.0 in
    strap_room A.kind (blade_by A.rule A.b0 A.b1) A.room A.k A.points.now A.roots.now A.corners.now A.volumes.now A.ends.now A.lengths.now A.outline.now A.log.now Y A.offsets.now c.requires.1

pub shape_of-log-then-room-n : goal.shape_of-log-then-room-n
shape_of-log-then-room-n c = elim c.match-kind.branch [
  | in-Triangles w ↦ ap length w.log-is ∙ w.note_triangles-n.auto.log
  | in-Straps w ↦ ap length w.log-is ∙ w.note_straps-n.auto.log
  | in-Nothing w ↦ ap length w.log-is
]

pub returns-then-room-n : goal.returns-then-room-n
returns-then-room-n c =
    let A = c.args in
    let Y = c.requires.0 in
    let log = c.match-kind.log in
    let n = c.match-kind.n in
    marked_refused A.kind (blade_by A.rule A.b0 A.b1) A.room A.k A.points.now A.roots.now A.corners.now A.volumes.now A.ends.now A.lengths.now A.outline.now A.log.now Y log n _ (elim c.match-kind.branch [
      | in-Triangles w ↦ marked_as A.kind (blade_by A.rule A.b0 A.b1) A.room A.k A.points.now A.roots.now A.corners.now A.volumes.now A.ends.now A.lengths.now A.outline.now A.log.now Y log _ n _ w.log-is w.n-is (of_triangles A.kind (blade_by A.rule A.b0 A.b1) A.room A.k A.points.now A.roots.now A.corners.now A.volumes.now A.ends.now A.lengths.now A.outline.now A.log.now Y _ _ w.in-Triangles.is w.note_triangles-n.ensures)
      | in-Straps w ↦ marked_as A.kind (blade_by A.rule A.b0 A.b1) A.room A.k A.points.now A.roots.now A.corners.now A.volumes.now A.ends.now A.lengths.now A.outline.now A.log.now Y log _ n _ w.log-is w.n-is (of_straps A.kind (blade_by A.rule A.b0 A.b1) A.room A.k A.points.now A.roots.now A.corners.now A.volumes.now A.ends.now A.lengths.now A.outline.now A.log.now Y _ _ w.in-Straps.is w.note_straps-n.ensures)
      | in-Nothing w ↦ marked_as A.kind (blade_by A.rule A.b0 A.b1) A.room A.k A.points.now A.roots.now A.corners.now A.volumes.now A.ends.now A.lengths.now A.outline.now A.log.now Y log _ n _ w.log-is w.n-is (of_nothing A.kind (blade_by A.rule A.b0 A.b1) A.room A.k A.points.now A.roots.now A.corners.now A.volumes.now A.ends.now A.lengths.now A.outline.now A.log.now Y w.in-Nothing.is)
    ]) (omega (arith, c.if-room-n.true))

pub shape_of-log : goal.shape_of-log
shape_of-log c = elim c.match-kind.branch [
  | in-Triangles w ↦ ap length w.log-is ∙ w.note_triangles-n.auto.log
  | in-Straps w ↦ ap length w.log-is ∙ w.note_straps-n.auto.log
  | in-Nothing w ↦ ap length w.log-is
]

pub returns : goal.returns
returns c =
    let A = c.args in
    let Y = c.requires.0 in
    let log = c.match-kind.log in
    let n = c.match-kind.n in
    marked_done A.kind (blade_by A.rule A.b0 A.b1) A.room A.k A.points.now A.roots.now A.corners.now A.volumes.now A.ends.now A.lengths.now A.outline.now A.log.now Y log n (elim c.match-kind.branch [
      | in-Triangles w ↦ marked_as A.kind (blade_by A.rule A.b0 A.b1) A.room A.k A.points.now A.roots.now A.corners.now A.volumes.now A.ends.now A.lengths.now A.outline.now A.log.now Y log _ n _ w.log-is w.n-is (of_triangles A.kind (blade_by A.rule A.b0 A.b1) A.room A.k A.points.now A.roots.now A.corners.now A.volumes.now A.ends.now A.lengths.now A.outline.now A.log.now Y _ _ w.in-Triangles.is w.note_triangles-n.ensures)
      | in-Straps w ↦ marked_as A.kind (blade_by A.rule A.b0 A.b1) A.room A.k A.points.now A.roots.now A.corners.now A.volumes.now A.ends.now A.lengths.now A.outline.now A.log.now Y log _ n _ w.log-is w.n-is (of_straps A.kind (blade_by A.rule A.b0 A.b1) A.room A.k A.points.now A.roots.now A.corners.now A.volumes.now A.ends.now A.lengths.now A.outline.now A.log.now Y _ _ w.in-Straps.is w.note_straps-n.ensures)
      | in-Nothing w ↦ marked_as A.kind (blade_by A.rule A.b0 A.b1) A.room A.k A.points.now A.roots.now A.corners.now A.volumes.now A.ends.now A.lengths.now A.outline.now A.log.now Y log _ n _ w.log-is w.n-is (of_nothing A.kind (blade_by A.rule A.b0 A.b1) A.room A.k A.points.now A.roots.now A.corners.now A.volumes.now A.ends.now A.lengths.now A.outline.now A.log.now Y w.in-Nothing.is)
    ]) (omega (arith, c.if-room-n.false))
