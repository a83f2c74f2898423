-- `bodies::forest::join` meets its contract. Assumes nothing.
use borrow.Author.Rules.{rules}
use native.Mathlib.Omega.{arith}
use mathlib.Core.Path.{refl}
use mathlib.Core.Logic.{inr}
use lib.ListN.{length-set}
use Rattle.lists.specs.Chain.{stay, ahead, back}
use Rattle.lists.proofs.Chains.{chain_sym, chain_map}
use Rattle.bodies.proofs.Parents.{kept_trans, linked, joined_one, joined_root}
use Rattle.bodies.proofs.forest.join.Goals as goal

pub returns-then-up-other : goal.returns-then-up-other
returns-then-up-other c =
    let P = c.requires in
    joined_one _ _ _ P.2 P.0 P.1 c.if-up-other.true

pub returns-then-other-i : goal.returns-then-other-i
returns-then-other-i c =
    let P = c.requires in
    joined_root _ _ _ P.2 P.0 P.1 c.if-up-i.true (search rules)

pub shape_of-parent-then-ri-rj : goal.shape_of-parent-then-ri-rj
shape_of-parent-then-ri-rj c =
    let f = c.find-ri.ensures in
    let g = c.find-rj.ensures in
    let K = kept_trans f.kept g.kept in
    simp length-set K.long

pub returns-then-ri-rj : goal.returns-then-ri-rj
returns-then-ri-rj c =
    let f = c.find-ri.ensures in
    let g = c.find-rj.ensures in
    linked _ _ _ _ _ _ _ _ (kept_trans f.kept g.kept) g.within g.top (search rules)
    g.way (chain_map g.kept.more f.way) (back (inr (refl, refl)) stay) (λ w. chain_sym w)

pub shape_of-parent-else-ri-rj : goal.shape_of-parent-else-ri-rj
shape_of-parent-else-ri-rj c =
    let f = c.find-ri.ensures in
    let g = c.find-rj.ensures in
    let K = kept_trans f.kept g.kept in
    simp length-set K.long

pub returns-else-ri-rj : goal.returns-else-ri-rj
returns-else-ri-rj c =
    let f = c.find-ri.ensures in
    let g = c.find-rj.ensures in
    linked _ _ _ _ _ _ _ _ (kept_trans f.kept g.kept) (let a = f.within in let b = g.kept.long in omega arith)
    (g.kept.tops _ f.top) (search rules)
    (chain_map g.kept.more f.way) g.way (ahead (inr (refl, refl)) stay) (λ w. w)
