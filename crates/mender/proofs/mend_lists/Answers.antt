-- `mender::mend_lists` meets its contract. Assumes nothing.
use Rattle.mender.proofs.mend_lists.Goals as goal

-- `mender::mend_lists` meets its contract. Assumes nothing.
pub mark_all-requires : goal.mark_all-requires
mark_all-requires c = c.requires.0

pub mend_marked-requires : goal.mend_marked-requires
mend_marked-requires c = record { held = c.requires.0.held; marked = c.mark_all.ensures; zeros = c.requires.1 }

pub shape_of-triangles : goal.shape_of-triangles
shape_of-triangles c = c.mark_all.auto.triangles

pub shape_of-edges : goal.shape_of-edges
shape_of-edges c = c.mark_all.auto.edges

pub shape_of-boundary : goal.shape_of-boundary
shape_of-boundary c = c.mark_all.auto.boundary

pub shape_of-mended : goal.shape_of-mended
shape_of-mended c = c.mend_marked.auto.mended

pub shape_of-text : goal.shape_of-text
shape_of-text c = c.mend_marked.auto.text

pub returns : goal.returns
returns c = c.mend_marked.ensures
