-- `edition::outlines::look_into` meets its contract. Assumes nothing.
use Rattle.std.proofs.lemmas.Result.{err_from_is_err_and}
use mathlib.Core.Path.{sym, ◌∙◌}
use Rattle.edition.proofs.Starts.{typed_in}
use Rattle.edition.proofs.Found.{sides_are, seen_long, seen_whole, seen_refused}
use Rattle.edition.proofs.outlines.look_into.Goals as goal

pub find_outline-found-requires : goal.find_outline-found-requires
find_outline-found-requires c =
    let a = c.args in
    record { typed = typed_in a.limits a.s.now c.in_ok-c.c (sym c.look_typed.ensures ∙ c.in_ok-c.was); places = c.requires }

pub shape_of-block-then-too_long : goal.shape_of-block-then-too_long
shape_of-block-then-too_long c = c.find_outline-found.auto.block

pub returns-then-too_long : goal.returns-then-too_long
returns-then-too_long c =
    let a = c.args in
    let k = c.in_ok-c.c in
    let w = sym c.look_typed.ensures ∙ c.in_ok-c.was in
    record { answer = seen_long a.s.now k (typed_in a.limits a.s.now k w) a.limits w _ c.find_outline-found.result c.find_outline-found.ensures (sym c.too_long.ensures ∙ c.if-too_long.true); outlined = tt }

pub shape_of-block : goal.shape_of-block
shape_of-block c = c.find_outline-found.auto.block

pub returns : goal.returns
returns c =
    let a = c.args in
    let k = c.in_ok-c.c in
    let w = sym c.look_typed.ensures ∙ c.in_ok-c.was in
    let t = typed_in a.limits a.s.now k w in
    record { answer = seen_whole a.s.now k t a.limits w _ c.find_outline-found.result c.find_outline-found.ensures (sym c.too_long.ensures ∙ c.if-too_long.false); outlined = sides_are a.s.now k t a.limits w _ c.find_outline-found.result c.find_outline-found.ensures }

pub returns-in_err-c : goal.returns-in_err-c
returns-in_err-c c =
    let a = c.args in
    let p = err_from_is_err_and c.from_residual.result c.from_residual.ensures.1 in
    rw (p.1, p.2) (record { answer = seen_refused a.limits a.s.now _ (sym c.look_typed.ensures ∙ c.in_err-c.was); outlined = tt })
