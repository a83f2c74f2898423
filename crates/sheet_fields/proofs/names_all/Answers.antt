-- `sheet_fields::names_all` meets its contract. Assumes nothing.
use mathlib.Core.Path.{◌∙◌, sym}
use Rattle.sheet.specs.Sheet.{Columns, fields_of}
use Rattle.sheet.proofs.PutLaws.{names_cols}
use Rattle.sheet_fields.proofs.WholeLaws.{fields_long}
use Rattle.sheet_fields.proofs.names_all.Goals as goal

pub returns-then-names_in-2 : goal.returns-then-names_in-2
returns-then-names_in-2 c = let a = c.args in let k : Columns = fields_of (record { x = a.x.now; y = a.y.now; pinned = a.pinned.now; t0 = a.t0.now; t1 = a.t1.now; t2 = a.t2.now; e0 = a.e0.now; e1 = a.e1.now; structural = a.structural.now; b0 = a.b0.now; b1 = a.b1.now; blade = a.blade.now }) in let e1 = (sym c.names_in.ensures ∙ c.if-names_in.true) in let e2 = (sym c.names_in-then-names_in.ensures ∙ c.if-names_in-2.true) in c.names_in-then-names_in-2.ensures ∙ sym (names_cols k ∙ rw (fields_long a.x.now, e1, e2))

pub returns-else-names_in-2 : goal.returns-else-names_in-2
returns-else-names_in-2 c = let a = c.args in let k : Columns = fields_of (record { x = a.x.now; y = a.y.now; pinned = a.pinned.now; t0 = a.t0.now; t1 = a.t1.now; t2 = a.t2.now; e0 = a.e0.now; e1 = a.e1.now; structural = a.structural.now; b0 = a.b0.now; b1 = a.b1.now; blade = a.blade.now }) in let e1 = (sym c.names_in.ensures ∙ c.if-names_in.true) in let e2 = (sym c.names_in-then-names_in.ensures ∙ c.if-names_in-2.false) in sym (names_cols k ∙ rw (fields_long a.x.now, e1, e2))

pub returns-else-names_in : goal.returns-else-names_in
returns-else-names_in c = let a = c.args in let k : Columns = fields_of (record { x = a.x.now; y = a.y.now; pinned = a.pinned.now; t0 = a.t0.now; t1 = a.t1.now; t2 = a.t2.now; e0 = a.e0.now; e1 = a.e1.now; structural = a.structural.now; b0 = a.b0.now; b1 = a.b1.now; blade = a.blade.now }) in let e1 = (sym c.names_in.ensures ∙ c.if-names_in.false) in sym (names_cols k ∙ rw (fields_long a.x.now, e1))
