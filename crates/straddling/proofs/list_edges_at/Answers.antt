-- `straddling::list_edges_at` meets its contract: the walk is `Visiting` of proofs/ListLaws.antt. Assumes nothing.
use native.Mathlib.Omega.{arith}
use Rattle.elements.specs.Table.{kind_is}
use Rattle.links.proofs.Walked.{still_left}
use Rattle.straddling.proofs.ListLaws.{Visiting, visiting_start, visiting_within, visiting_link, visiting_more, visiting_less, visiting_done, none_at, none_beyond}
use Rattle.straddling.proofs.list_edges_at.Goals as goal

pub returns-then-x-of : goal.returns-then-x-of
returns-then-x-of c = none_at _ _ _ _ _ _ _ _ _ _ _ _ _ c.requires.0.yet _ c.if-x-of.true

pub returns-then-x-ge-PARTICLES : goal.returns-then-x-ge-PARTICLES
returns-then-x-ge-PARTICLES c = none_beyond _ _ _ _ _ _ _ _ _ _ _ _ _ c.requires.0.yet _ c.requires.0.by_near.ends_in c.if-x-ge-PARTICLES.true

pub loop-at-init : goal.loop-at-init
loop-at-init c = visiting_start _ _ _ _ _ _ _ _ _ _ _ _ _ _ _ c.requires.0.yet (c.first_at-at.ensures.is _ _ _ _ _ c.requires.1.are (omega (arith, c.if-x-ge-PARTICLES.false)))

pub overflow_sub-i : goal.overflow_sub-i
overflow_sub-i c = c.loop-at-test.true

pub list_edge-listed-requires : goal.list_edge-listed-requires
list_edge-listed-requires c = let P = c.requires.0 in let G = c.loop-at.invariant in (record { room = c.requires.0.room; by_near = c.requires.0.by_near; linked = c.requires.0.linked; long = omega (arith, c.requires.0.long, c.loop-at.invariant.long); yet = c.loop-at.invariant.yet }, visiting_within _ _ _ _ _ _ _ _ _ _ _ _ _ _ _ _ _ G c.loop-at-test.true, c.requires.1)

pub next_at-at-requires : goal.next_at-at-requires
next_at-at-requires c = visiting_link _ _ _ _ _ _ _ _ _ _ _ _ _ _ _ _ _ c.loop-at.invariant c.loop-at-test.true c.requires.1

pub loop-at-smaller : goal.loop-at-smaller
loop-at-smaller c = visiting_less _ _ _ _ _ _ _ _ _ _ _ _ _ _ _ _ _ c.loop-at.invariant c.loop-at-test.true _ (c.next_at-at.ensures.is _ c.requires.1.are)

pub loop-at-preserved : goal.loop-at-preserved
loop-at-preserved c = visiting_more _ _ _ _ _ _ _ _ _ _ _ _ _ _ _ _ _ c.loop-at.invariant c.loop-at-test.true _ _ c.list_edge-listed.ensures c.list_edge-listed.auto.list _ (c.next_at-at.ensures.is _ c.requires.1.are)

pub shape_of-list : goal.shape_of-list
shape_of-list c = c.loop-at.invariant.long

pub returns : goal.returns
returns c = visiting_done _ _ _ _ _ _ _ _ _ _ _ _ _ _ _ _ _ c.loop-at.invariant (omega (arith, c.loop-at-test.false))
