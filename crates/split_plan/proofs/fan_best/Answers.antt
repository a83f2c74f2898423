-- `split_plan::fan_best` meets its contract. The invariant: best is that of the parts so far, for every opening and mesh that the tables hold. Assumes nothing.
use mathlib.Core.Path.{◌≡◌, ◌∙◌, ap}
use Prim.Native.Nat.{ℕ, ◌+◌, ◌*◌, ◌-◌, ◌<◌}
use native.Mathlib.Omega.{arith}
use borrow.Author.Rules.{rules}
use Rattle.model.specs.Split.{scored}
use Rattle.lists.specs.Lists.{fold, tab}
use Rattle.split_plan.specs.Answers.{best_is}
use Rattle.split_plan.specs.Opened.{part_at}
use Rattle.split_plan.proofs.Towards.{fan_none, fan_step, fan_all, row_below}
use Rattle.split_plan.proofs.Rings.{row_fits}
use Rattle.split_plan.proofs.fan_best.Goals as goal

pub loop-i-init : goal.loop-i-init
loop-i-init c = (search rules, λ O M p R r l b. fan_none O M c.args.v c.args.dir (best_is c.args.b))

pub overflow_mul-at : goal.overflow_mul-at
overflow_mul-at c = let f = row_fits c.requires.room c.loop-i.i (search rules) in omega arith

pub overflow_add-end : goal.overflow_add-end
overflow_add-end c = let f = row_fits c.requires.room c.loop-i.i (search rules) in omega arith

pub offset_bounds-verts-at : goal.offset_bounds-verts-at
offset_bounds-verts-at c = let f = row_fits c.requires.room c.loop-i.i (search rules) in omega arith

pub slice_bounds-best_in-end : goal.slice_bounds-best_in-end
slice_bounds-best_in-end c = let f = row_fits c.requires.room c.loop-i.i (search rules) in omega arith

pub best_in-best-requires : goal.best_in-best-requires
best_in-best-requires c = let A = c.args in
    let P = c.requires in
    let i = c.loop-i.i in
    record { home_is = P.home_is; corners_in = row_below A.verts.now P.corners_in i (i * A.k + A.k - i * A.k) (search rules) (omega arith) }

pub loop-i-preserved : goal.loop-i-preserved
loop-i-preserved c = let A = c.args in
    let L = c.loop-i in
    let i = L.i in
    let m = i * A.k + A.k - i * A.k in
    let l : i < A.n = search rules in
    let q : m ≡ A.k = omega arith in (
      search rules,
      λ O M p R r lv b.
          fan_step O R M A.v A.dir (best_is A.b) (best_is L.best) (best_is c.best_in-best.result) i m l q (L.invariant.1 O M p R r lv b)
          (c.best_in-best.ensures.is M p r lv (row_below A.verts.now b i m l q)),
    )

pub returns : goal.returns
returns c = let A = c.args in
    let L = c.loop-i in
    let e : L.i ≡ A.n = omega arith in
    record { is = λ O M p R r lv b. L.invariant.1 O M p R r lv b ∙ ap (λ (m : ℕ). fold (scored M A.v A.dir) (best_is A.b) (tab m (part_at O))) e ∙ fan_all O R M A.v A.dir (best_is A.b) }
