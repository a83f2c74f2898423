-- `links::link_mesh` meets its contract: each table in its part of the lent one (proofs/Parts.antt). Assumes nothing.
use Rattle.links.proofs.Parts.{cleared_take, cleared_second, cleared_third, room_second, room_third, all_long, all_built}
use lib.Seq.{length-take-le}
use mathlib.Core.Path.{sym, ◌∙◌}
use native.Mathlib.Omega.{arith}
use Rattle.links.proofs.link_mesh.Goals as goal

pub slice_bounds-link_triangles-end-2 : goal.slice_bounds-link_triangles-end-2
slice_bounds-link_triangles-end-2 c = sym (length-take-le 4096 c.args.links.now (omega (arith, c.requires.0.long)))

pub link_triangles-requires : goal.link_triangles-requires
link_triangles-requires c = let P = c.requires.0 in let n = length-take-le 4096 c.args.links.now (omega (arith, c.requires.0.long)) in
    (record { few = c.requires.0.triangles.few; rows = c.requires.0.triangles.rows; long = λ e. omega (arith, n); apart = c.requires.0.triangles.apart }, cleared_take 4096 c.requires.1)

pub link_pairs-requires : goal.link_pairs-requires
link_pairs-requires c = let P = c.requires.0 in let T = c.link_triangles in
    (omega arith, room_second c.args.links.now T.new.links c.requires.0.long (T.auto.links ∙ length-take-le 4096 c.args.links.now (omega (arith, c.requires.0.long))) c.requires.0.edges, cleared_second c.args.links.now T.new.links c.requires.0.long (T.auto.links ∙ length-take-le 4096 c.args.links.now (omega (arith, c.requires.0.long))) c.requires.1)

pub link_pairs-requires-2 : goal.link_pairs-requires-2
link_pairs-requires-2 c = let P = c.requires.0 in let T = c.link_triangles in let U = c.link_pairs in
    (omega arith, room_third c.args.links.now T.new.links c.requires.0.long (T.auto.links ∙ length-take-le 4096 c.args.links.now (omega (arith, c.requires.0.long))) U.new.table U.auto.table c.requires.0.sides, cleared_third c.args.links.now T.new.links c.requires.0.long (T.auto.links ∙ length-take-le 4096 c.args.links.now (omega (arith, c.requires.0.long))) U.new.table U.auto.table c.requires.1)

pub shape_of-links : goal.shape_of-links
shape_of-links c = let P = c.requires.0 in let T = c.link_triangles in let U = c.link_pairs in let W = c.link_pairs-2 in
    all_long c.args.links.now T.new.links c.requires.0.long (T.auto.links ∙ length-take-le 4096 c.args.links.now (omega (arith, c.requires.0.long))) U.new.table U.auto.table W.new.table W.auto.table

pub returns : goal.returns
returns c = let P = c.requires.0 in let T = c.link_triangles in let U = c.link_pairs in let W = c.link_pairs-2 in
    all_built c.args.links.now T.new.links c.requires.0.long (T.auto.links ∙ length-take-le 4096 c.args.links.now (omega (arith, c.requires.0.long))) U.new.table U.auto.table W.new.table W.auto.table T.ensures U.ensures W.ensures
