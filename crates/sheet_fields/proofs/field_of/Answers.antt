-- `sheet_fields::field_of` meets its contract. By the tests of the two ends and of the sign. Assumes nothing.
use mathlib.Core.Path.{ap, sym, ◌∙◌}
use lib.IntN.{ℤ, pos, negsuc, ◌+ℤ◌, nat_abs}
use lib.Signed.{lt_z}
use mir.Syntax.{w64}
use mir.ValLaws.{to_z-of_z}
use Rattle.sheet.proofs.CoordLaws.{field_under, field_negative, field_positive, field_over, field_fits, field_casts}
use Rattle.sheet_fields.proofs.field_of.Goals as goal

-- `sheet_fields::field_of` meets its contract. By the tests of the two ends and of the sign. Assumes nothing.
pub returns-then-z-ltminus1024 : goal.returns-then-z-ltminus1024
returns-then-z-ltminus1024 c = field_under c.args.z (ap (λ (y : ℤ). lt_z y (negsuc 1023)) (sym (to_z-of_z w64 c.args.z c.ranges.z)) ∙ c.if-z-ltminus1024.true)

pub overflow_add-result : goal.overflow_add-result
overflow_add-result c = field_fits _ c.args.z (ap (λ (y : ℤ). y +ℤ pos 2048) (to_z-of_z w64 c.args.z c.ranges.z) ∙ field_negative c.args.z (ap (λ (y : ℤ). lt_z y (pos 0)) (sym (to_z-of_z w64 c.args.z c.ranges.z)) ∙ c.if-z-lt0.true) (ap (λ (y : ℤ). lt_z y (negsuc 1023)) (sym (to_z-of_z w64 c.args.z c.ranges.z)) ∙ c.if-z-ltminus1024.false))

pub overflow_cast-result : goal.overflow_cast-result
overflow_cast-result c = field_casts _ c.args.z (to_z-of_z w64 _ (field_fits _ c.args.z (ap (λ (y : ℤ). y +ℤ pos 2048) (to_z-of_z w64 c.args.z c.ranges.z) ∙ field_negative c.args.z (ap (λ (y : ℤ). lt_z y (pos 0)) (sym (to_z-of_z w64 c.args.z c.ranges.z)) ∙ c.if-z-lt0.true) (ap (λ (y : ℤ). lt_z y (negsuc 1023)) (sym (to_z-of_z w64 c.args.z c.ranges.z)) ∙ c.if-z-ltminus1024.false))) ∙ (ap (λ (y : ℤ). y +ℤ pos 2048) (to_z-of_z w64 c.args.z c.ranges.z) ∙ field_negative c.args.z (ap (λ (y : ℤ). lt_z y (pos 0)) (sym (to_z-of_z w64 c.args.z c.ranges.z)) ∙ c.if-z-lt0.true) (ap (λ (y : ℤ). lt_z y (negsuc 1023)) (sym (to_z-of_z w64 c.args.z c.ranges.z)) ∙ c.if-z-ltminus1024.false)))

pub returns-then-z-lt0 : goal.returns-then-z-lt0
returns-then-z-lt0 c = ap nat_abs (to_z-of_z w64 _ (field_fits _ c.args.z (ap (λ (y : ℤ). y +ℤ pos 2048) (to_z-of_z w64 c.args.z c.ranges.z) ∙ field_negative c.args.z (ap (λ (y : ℤ). lt_z y (pos 0)) (sym (to_z-of_z w64 c.args.z c.ranges.z)) ∙ c.if-z-lt0.true) (ap (λ (y : ℤ). lt_z y (negsuc 1023)) (sym (to_z-of_z w64 c.args.z c.ranges.z)) ∙ c.if-z-ltminus1024.false))) ∙ (ap (λ (y : ℤ). y +ℤ pos 2048) (to_z-of_z w64 c.args.z c.ranges.z) ∙ field_negative c.args.z (ap (λ (y : ℤ). lt_z y (pos 0)) (sym (to_z-of_z w64 c.args.z c.ranges.z)) ∙ c.if-z-lt0.true) (ap (λ (y : ℤ). lt_z y (negsuc 1023)) (sym (to_z-of_z w64 c.args.z c.ranges.z)) ∙ c.if-z-ltminus1024.false)))

pub overflow_cast-result-then-z-lt1024 : goal.overflow_cast-result-then-z-lt1024
overflow_cast-result-then-z-lt1024 c = field_casts _ c.args.z ((to_z-of_z w64 c.args.z c.ranges.z) ∙ field_positive c.args.z (ap (λ (y : ℤ). lt_z y (pos 0)) (sym (to_z-of_z w64 c.args.z c.ranges.z)) ∙ c.if-z-lt0.false) (ap (λ (y : ℤ). lt_z y (pos 1024)) (sym (to_z-of_z w64 c.args.z c.ranges.z)) ∙ c.if-z-lt1024.true))

pub returns-then-z-lt1024 : goal.returns-then-z-lt1024
returns-then-z-lt1024 c = ap nat_abs ((to_z-of_z w64 c.args.z c.ranges.z) ∙ field_positive c.args.z (ap (λ (y : ℤ). lt_z y (pos 0)) (sym (to_z-of_z w64 c.args.z c.ranges.z)) ∙ c.if-z-lt0.false) (ap (λ (y : ℤ). lt_z y (pos 1024)) (sym (to_z-of_z w64 c.args.z c.ranges.z)) ∙ c.if-z-lt1024.true))

pub returns : goal.returns
returns c = field_over c.args.z (ap (λ (y : ℤ). lt_z y (pos 0)) (sym (to_z-of_z w64 c.args.z c.ranges.z)) ∙ c.if-z-lt0.false) (ap (λ (y : ℤ). lt_z y (pos 1024)) (sym (to_z-of_z w64 c.args.z c.ranges.z)) ∙ c.if-z-lt1024.false)
