-- `edition::typed::look_second` meets its contract. Assumes nothing.
use Rattle.sheet.specs.declared.Counts.{Counts}
use Rattle.edition.proofs.Editions.{counts_second, second_with}
use Rattle.bits.proofs.Laws.{length_bits_of}
use Rattle.bits.specs.Bits.{bits_of}
use native.Mathlib.Omega.{arith}
use mathlib.Core.Path.{sym, ◌∙◌, ap}
use borrow.Author.Tests.{eq-eqb, ne_eqb}
use Rattle.edition.proofs.typed.look_second.Goals as goal

pub returns-then-refused_counts : goal.returns-then-refused_counts
returns-then-refused_counts c = let m = sym c.refused_counts.ensures ∙ c.if-refused_counts.true in sym (second_with c.args.limits c.args.s.now c.counted_second-c.result c.counted_second-c.ensures.is c.requires.1 c.requires.0 ∙ rw m)

pub returns-then-s-bytes : goal.returns-then-s-bytes
returns-then-s-bytes c = let m = sym c.refused_counts.ensures ∙ c.if-refused_counts.false in let n = ne_eqb _ _ c.if-s-bytes.true in sym (second_with c.args.limits c.args.s.now c.counted_second-c.result c.counted_second-c.ensures.is c.requires.1 c.requires.0 ∙ rw (m, ← c.end_bit-end.ensures, n))

pub returns-then-field-ne0 : goal.returns-then-field-ne0
returns-then-field-ne0 c = let m = sym c.refused_counts.ensures ∙ c.if-refused_counts.false in let n = eq-eqb _ _ c.if-s-bytes.false in let k = ne_eqb _ _ c.if-field-ne0.true in sym (second_with c.args.limits c.args.s.now c.counted_second-c.result c.counted_second-c.ensures.is c.requires.1 c.requires.0 ∙ rw (m, ← c.end_bit-end.ensures, n, ← c.field.ensures.0, k))

pub names_second-requires : goal.names_second-requires
names_second-requires c = let s = c.args.s.now in let g = c.counted_second-c.ensures in record { counts = g.small; none = ap (λ (d : Counts). d.boundary) (g.is ∙ counts_second (bits_of s) (omega (arith, c.requires.0, length_bits_of s))); room = omega (arith, c.end_bit-end.ensures, c.if-s-bytes.false) }

pub returns-then-names_second : goal.returns-then-names_second
returns-then-names_second c = let m = sym c.refused_counts.ensures ∙ c.if-refused_counts.false in let n = eq-eqb _ _ c.if-s-bytes.false in let k = eq-eqb _ _ c.if-field-ne0.false in let o = sym c.names_second.ensures ∙ c.if-names_second.true in sym (second_with c.args.limits c.args.s.now c.counted_second-c.result c.counted_second-c.ensures.is c.requires.1 c.requires.0 ∙ rw (o, m, ← c.end_bit-end.ensures, n, ← c.field.ensures.0, k))

pub returns-else-names_second : goal.returns-else-names_second
returns-else-names_second c = let m = sym c.refused_counts.ensures ∙ c.if-refused_counts.false in let n = eq-eqb _ _ c.if-s-bytes.false in let k = eq-eqb _ _ c.if-field-ne0.false in let o = sym c.names_second.ensures ∙ c.if-names_second.false in sym (second_with c.args.limits c.args.s.now c.counted_second-c.result c.counted_second-c.ensures.is c.requires.1 c.requires.0 ∙ rw (o, m, ← c.end_bit-end.ensures, n, ← c.field.ensures.0, k))
