use Rattle.std.proofs.Common.{◌≡◌, drop}
use Rattle.wg_uniform.specs.Parts.{are_uniform, have_uniform_operands}
use Rattle.wg_uniform.proofs.uniform.+spread.Given as goal

abbrev pub invariant-all_operands-loop-link : goal.invariant-all_operands-loop-link
invariant-all_operands-loop-link l = have_uniform_operands l.setting (drop l.link-index l.link-items) ≡ have_uniform_operands l.setting l.fn.links

abbrev pub invariant-all_values-loop-value : goal.invariant-all_values-loop-value
invariant-all_values-loop-value l = are_uniform l.setting (drop l.value-index l.value-items) ≡ are_uniform l.setting l.fn.values
