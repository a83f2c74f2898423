-- `outline::chains::link_corners` meets its contract. The invariant: the places below t are linked. Assumes nothing.
use mathlib.Core.Path.{◌≡◌}
use Prim.Native.Nat.{◌≤◌}
use lib.ListN.{length}
use Rattle.outline_tables.specs.Links.{chain_at, Chained, Sized}
use Rattle.outline_tables.proofs.chains.link_corners.Given as goal

-- `outline::chains::link_corners` meets its contract. The invariant: the places below t are linked. Assumes nothing.
abbrev pub invariant-loop-t : goal.invariant-loop-t
invariant-loop-t l = (l.t ≤ l.q) × (length l.heads ≡ length l.initial.heads) × (length l.links ≡ length l.initial.links) × (length l.sizes ≡ length l.initial.sizes) × Chained (chain_at l.a l.b l.c) l.heads l.links l.t × Sized l.sizes l.t
