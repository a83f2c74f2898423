-- `sheet::look` meets its contract. Assumes nothing.
use mathlib.Core.Path.{◌∙◌, sym}
use borrow.Author.Tests.{lt-ltb, eq-eqb, ne_eqb}
use native.Mathlib.Omega.{arith}
use Rattle.sheet.specs.Sheet.{seen_of, seen_with}
use Rattle.sheet.proofs.SeenLaws.{seen_with_lem, names_at_lem}
use Rattle.bits.specs.Bits.{bits_of}
use Rattle.sheet.proofs.look.Goals as goal

-- `sheet::look` meets its contract. Assumes nothing.
pub returns-then-s-lt6 : goal.returns-then-s-lt6
unfolding seen_of
returns-then-s-lt6 c = rw (lt-ltb _ _ c.if-s-lt6.true)

pub returns-then-refused_counts : goal.returns-then-refused_counts
unfolding seen_with
returns-then-refused_counts c = let m = sym c.refused_counts.ensures ∙ c.if-refused_counts.true in sym (seen_with_lem c.args.limits c.args.s.now c.counted-c.result c.counted-c.ensures.is (omega arith) ∙ rw m)

pub returns-then-s-bytes : goal.returns-then-s-bytes
unfolding seen_with
returns-then-s-bytes c = let m = sym c.refused_counts.ensures ∙ c.if-refused_counts.false in let n = ne_eqb _ _ c.if-s-bytes.true in sym (seen_with_lem c.args.limits c.args.s.now c.counted-c.result c.counted-c.ensures.is (omega arith) ∙ rw (m, ← c.byte_len-bytes.ensures, n))

pub returns-then-field-ne0 : goal.returns-then-field-ne0
unfolding seen_with
returns-then-field-ne0 c =
    let m = sym c.refused_counts.ensures ∙ c.if-refused_counts.false in
    let n = eq-eqb _ _ c.if-s-bytes.false in
    let k = ne_eqb _ _ c.if-field-ne0.true in
    sym (seen_with_lem c.args.limits c.args.s.now c.counted-c.result c.counted-c.ensures.is (omega arith) ∙ rw (m, ← c.byte_len-bytes.ensures, n, ← c.end_bit-end.ensures, ← c.field.ensures.0, k))

pub returns-then-names_ok : goal.returns-then-names_ok
unfolding seen_with
returns-then-names_ok c =
    let m = sym c.refused_counts.ensures ∙ c.if-refused_counts.false in
    let n = eq-eqb _ _ c.if-s-bytes.false in
    let k = eq-eqb _ _ c.if-field-ne0.false in
    let o = names_at_lem c.counted-c.result (bits_of c.args.s.now) ∙ (sym c.names_ok.ensures ∙ c.if-names_ok.true) in
    sym (seen_with_lem c.args.limits c.args.s.now c.counted-c.result c.counted-c.ensures.is (omega arith) ∙ rw (o, m, ← c.byte_len-bytes.ensures, n, ← c.end_bit-end.ensures, ← c.field.ensures.0, k))

pub returns-else-names_ok : goal.returns-else-names_ok
unfolding seen_with
returns-else-names_ok c =
    let m = sym c.refused_counts.ensures ∙ c.if-refused_counts.false in
    let n = eq-eqb _ _ c.if-s-bytes.false in
    let k = eq-eqb _ _ c.if-field-ne0.false in
    let o = names_at_lem c.counted-c.result (bits_of c.args.s.now) ∙ (sym c.names_ok.ensures ∙ c.if-names_ok.false) in
    sym (seen_with_lem c.args.limits c.args.s.now c.counted-c.result c.counted-c.ensures.is (omega arith) ∙ rw (o, m, ← c.byte_len-bytes.ensures, n, ← c.end_bit-end.ensures, ← c.field.ensures.0, k))
