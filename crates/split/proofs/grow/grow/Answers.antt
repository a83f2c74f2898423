-- `split::grow::grow` meets its contract: what each part asks and tells is in proofs/GrowLaws.antt, of the tables in proofs/LinkLaws.antt. Assumes nothing.
use borrow.Rule.Slice.PartMut.{same_len_mid}
use Rattle.split.proofs.LinkLaws.{heads_room, table_room, grown_back}
use Rattle.split.proofs.GrowLaws.{elements_room, edges_room, share_room, grow_lacks_particles, grow_lacks_edges, grow_done}
use Rattle.links.proofs.Parts.{edges_lent}
use mathlib.Core.Path.{refl, ◌∙◌}
use native.Mathlib.Omega.{arith}
use borrow.Author.Rules.{rules}
use Rattle.split.proofs.grow.grow.Goals as goal

pub returns-then-room-before : goal.returns-then-room-before
returns-then-room-before c = (grow_lacks_particles _ _ _ _ _ c.requires.0 c.requires.1 _ c.if-room-before.true, tt)

pub rewire_elements-requires : goal.rewire_elements-requires
rewire_elements-requires c = let P = c.requires in let h = c.if-room-before.false in (elements_room P.0 P.1 h, P.4, P.5, heads_room P.0 P.1 h, P.2, P.3)

pub other_edges-grown-requires : goal.other_edges-grown-requires
other_edges-grown-requires c = let P = c.requires in let h = c.if-room-before.false in let R = c.rewire_elements in (edges_room P.0 P.1 P.2 P.3 h R.ensures.0 R.auto.ends _ c.corners_per-per.ensures, table_room P.0 P.1 h (edges_lent R.ensures.1.0), omega (arith, P.6, P.0.few_edges, P.0.edges))

pub shape_of-links-in_default : goal.shape_of-links-in_default
shape_of-links-in_default c = same_len_mid 4096 5120 c.rewire_elements.new.links c.other_edges-grown.new.table c.other_edges-grown.auto.table ∙ c.rewire_elements.auto.links

pub returns-in_default : goal.returns-in_default
returns-in_default c = let P = c.requires in (grow_lacks_edges _ _ _ _ _ P.0 P.1 c.if-room-before.false c.rewire_elements.ensures.0 c.corners_per-per.ensures c.other_edges-grown.ensures.0 _ c.in_default.is, tt)

pub share_out-requires : goal.share_out-requires
share_out-requires c = share_room c.requires.0 c.requires.1 c.if-room-before.false

pub shape_of-links : goal.shape_of-links
shape_of-links c = same_len_mid 4096 5120 c.rewire_elements.new.links c.other_edges-grown.new.table c.other_edges-grown.auto.table ∙ c.rewire_elements.auto.links

pub returns : goal.returns
returns c = let P = c.requires in let R = c.rewire_elements in let G = c.other_edges-grown in (grow_done _ _ _ _ _ P.0 P.1 c.if-room-before.false R.ensures.0 c.corners_per-per.ensures G.ensures.0 _ c.in-Some.is refl c.share_out.ensures, grown_back c.args.links.now G.new.table R.ensures.1 G.auto.table c.in-Some.is G.ensures.1)
