-- `sheet_fields::refusal` meets its contract. Assumes nothing.
use native.Mathlib.Omega.{arith}
use mathlib.Core.Path.{◌∙◌, sym}
use Rattle.sheet.specs.Sheet.{Columns, Wholes, fields_of}
use Rattle.sheet_fields.proofs.WholeLaws.{fields_long, few_whole}
use Rattle.sheet.proofs.PutLaws.{even_from, not_many, answer_uneven, answer_many, answer_wide, answer_names, answer_long, answer_good}
use Rattle.sheet_fields.proofs.refusal.Goals as goal

pub returns-then-too_many : goal.returns-then-too_many
returns-then-too_many c = let a = c.args in let w : Wholes = record { x = a.x.now; y = a.y.now; pinned = a.pinned.now; t0 = a.t0.now; t1 = a.t1.now; t2 = a.t2.now; e0 = a.e0.now; e1 = a.e1.now; structural = a.structural.now; b0 = a.b0.now; b1 = a.b1.now; blade = a.blade.now } in let k : Columns = fields_of w in sym (answer_many k a.m (sym c.all_same.ensures ∙ c.if-all_same.true) (few_whole w _ (sym c.too_many.ensures ∙ c.if-too_many.true)))

pub names_all-requires : goal.names_all-requires
names_all-requires c = let a = c.args in let w : Wholes = record { x = a.x.now; y = a.y.now; pinned = a.pinned.now; t0 = a.t0.now; t1 = a.t1.now; t2 = a.t2.now; e0 = a.e0.now; e1 = a.e1.now; structural = a.structural.now; b0 = a.b0.now; b1 = a.b1.now; blade = a.blade.now } in let k : Columns = fields_of w in even_from k (sym c.all_same.ensures ∙ c.if-all_same.true)

pub byte_len-requires : goal.byte_len-requires
byte_len-requires c = not_many _ ((sym c.too_many.ensures ∙ c.if-too_many.false))

pub returns-then-byte_len-m : goal.returns-then-byte_len-m
returns-then-byte_len-m c =
    let a = c.args in let w : Wholes = record { x = a.x.now; y = a.y.now; pinned = a.pinned.now; t0 = a.t0.now; t1 = a.t1.now; t2 = a.t2.now; e0 = a.e0.now; e1 = a.e1.now; structural = a.structural.now; b0 = a.b0.now; b1 = a.b1.now; blade = a.blade.now } in let k : Columns = fields_of w in
    let b = c.byte_len.ensures in
    let h = c.if-byte_len-m.true in
    sym (answer_good k a.m (sym c.all_same.ensures ∙ c.if-all_same.true) (few_whole w _ (sym c.too_many.ensures ∙ c.if-too_many.false)) (sym c.all_fit.ensures ∙ c.if-all_fit.true) (sym c.names_all.ensures ∙ c.if-names_all.true) (omega (arith, fields_long a.x.now)))

pub returns-else-byte_len-m : goal.returns-else-byte_len-m
returns-else-byte_len-m c =
    let a = c.args in let w : Wholes = record { x = a.x.now; y = a.y.now; pinned = a.pinned.now; t0 = a.t0.now; t1 = a.t1.now; t2 = a.t2.now; e0 = a.e0.now; e1 = a.e1.now; structural = a.structural.now; b0 = a.b0.now; b1 = a.b1.now; blade = a.blade.now } in let k : Columns = fields_of w in
    let b = c.byte_len.ensures in
    let h = c.if-byte_len-m.false in
    sym (answer_long k a.m (sym c.all_same.ensures ∙ c.if-all_same.true) (few_whole w _ (sym c.too_many.ensures ∙ c.if-too_many.false)) (sym c.all_fit.ensures ∙ c.if-all_fit.true) (sym c.names_all.ensures ∙ c.if-names_all.true) (omega (arith, fields_long a.x.now)))

pub returns-else-names_all : goal.returns-else-names_all
returns-else-names_all c = let a = c.args in let w : Wholes = record { x = a.x.now; y = a.y.now; pinned = a.pinned.now; t0 = a.t0.now; t1 = a.t1.now; t2 = a.t2.now; e0 = a.e0.now; e1 = a.e1.now; structural = a.structural.now; b0 = a.b0.now; b1 = a.b1.now; blade = a.blade.now } in let k : Columns = fields_of w in sym (answer_names k a.m (sym c.all_same.ensures ∙ c.if-all_same.true) (few_whole w _ (sym c.too_many.ensures ∙ c.if-too_many.false)) (sym c.all_fit.ensures ∙ c.if-all_fit.true) (sym c.names_all.ensures ∙ c.if-names_all.false))

pub returns-else-all_fit : goal.returns-else-all_fit
returns-else-all_fit c = let a = c.args in let w : Wholes = record { x = a.x.now; y = a.y.now; pinned = a.pinned.now; t0 = a.t0.now; t1 = a.t1.now; t2 = a.t2.now; e0 = a.e0.now; e1 = a.e1.now; structural = a.structural.now; b0 = a.b0.now; b1 = a.b1.now; blade = a.blade.now } in let k : Columns = fields_of w in sym (answer_wide k a.m (sym c.all_same.ensures ∙ c.if-all_same.true) (few_whole w _ (sym c.too_many.ensures ∙ c.if-too_many.false)) (sym c.all_fit.ensures ∙ c.if-all_fit.false))

pub returns-else-all_same : goal.returns-else-all_same
returns-else-all_same c = let a = c.args in let w : Wholes = record { x = a.x.now; y = a.y.now; pinned = a.pinned.now; t0 = a.t0.now; t1 = a.t1.now; t2 = a.t2.now; e0 = a.e0.now; e1 = a.e1.now; structural = a.structural.now; b0 = a.b0.now; b1 = a.b1.now; blade = a.blade.now } in let k : Columns = fields_of w in sym (answer_uneven k a.m (sym c.all_same.ensures ∙ c.if-all_same.false))
