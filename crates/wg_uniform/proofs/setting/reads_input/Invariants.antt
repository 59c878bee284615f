use Rattle.std.proofs.Common.{◌≡◌, drop}
use Rattle.wg_typed.specs.Uniform.{any_read}
use Rattle.wg_uniform.proofs.setting.reads_input.Given as goal

abbrev pub invariant-loop-parameter : goal.invariant-loop-parameter
invariant-loop-parameter l = any_read (drop l.parameter-index l.parameter-items) ≡ any_read l.fn.parameters
