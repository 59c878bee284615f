-- The code that a word of a list gets by itself.
use Rattle.std.specs.Prelude.{ℕ, List}
use Rattle.wg_code.specs.declared.op.Op.{Op}
use Rattle.wg_lowered.specs.Where.{copy_op, set_op, get_op}
use Rattle.wg_lowered.specs.Exprs.{Form, truth_op, wrap_op, prefixed_op}
use Rattle.wg_words.specs.Truth.{truth}
use Rattle.wg_emit.specs.declared.operators.OperatorForm.{OperatorForm}
use Rattle.wg_emit.specs.declared.each.WordCode.{WordCode}
use Rattle.wg_emit.specs.declared.each.WordCode.TheVariants as code

abbrev pub word_code : WordCode → ℕ → ℕ → List Op
word_code code.Copy = copy_op
word_code code.Set = set_op
word_code (code.Get sp from to index) = get_op sp from to index
word_code code.Truth = truth_op
word_code code.Wrap = wrap_op
word_code (code.Prefix operator) = prefixed_op operator

-- an operator's form, as the definition has it
abbrev pub form_in : OperatorForm → Form
form_in f = record { number = f.number; swapped = truth f.swapped; turned = truth f.turned }
