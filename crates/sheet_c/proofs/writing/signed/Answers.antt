-- `sheet_c::writing::signed` meets its contract. Assumes nothing.
use native.Mathlib.Omega.{arith}
use mathlib.Core.Path.{◌∙◌, sym}
use mir.Syntax.{w64}
use mir.ValLaws.{to_z_pos, to_z-of_z}
use Rattle.sheet_c.proofs.Signs.{signed_low, signed_high, less_word, less_fits}
use Rattle.sheet_c.proofs.writing.signed.Goals as goal

pub returns-then-word-lt2147483648 : goal.returns-then-word-lt2147483648
returns-then-word-lt2147483648 c = to_z_pos w64 c.args.word (omega arith) ∙ sym (signed_low c.args.word c.if-word-lt2147483648.true)

pub overflow_sub-result : goal.overflow_sub-result
overflow_sub-result c = less_fits c.args.word c.requires

pub returns : goal.returns
returns c = let n = c.args.word in to_z-of_z w64 _ (less_fits n c.requires) ∙ (less_word n c.requires ∙ sym (signed_high n c.if-word-lt2147483648.false c.requires))
