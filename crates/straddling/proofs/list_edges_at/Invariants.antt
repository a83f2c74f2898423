-- `straddling::list_edges_at` meets its contract: the walk is `Visiting` of proofs/ListLaws.antt. Assumes nothing.
use native.Mathlib.Omega.{arith}
use Rattle.elements.specs.Table.{kind_is}
use Rattle.links.proofs.Walked.{still_left}
use Rattle.straddling.proofs.ListLaws.{Visiting, visiting_start, visiting_within, visiting_link, visiting_more, visiting_less, visiting_done, none_at, none_beyond}
use Rattle.straddling.proofs.list_edges_at.Given as goal

-- `straddling::list_edges_at` meets its contract: the walk is `Visiting` of proofs/ListLaws.antt. Assumes nothing.
abbrev pub invariant-loop-at : goal.invariant-loop-at
invariant-loop-at l = Visiting (kind_is l.of.kind) l.of.v l.of.before l.of.n l.of.count l.t l.e l.verts l.groups l.corners l.ends l.x l.initial.list l.initial.listed l.list l.listed l.at

abbrev pub decreases-loop-at : goal.decreases-loop-at
decreases-loop-at l = still_left l.e l.at
