use Rattle.std.proofs.Common.{◌≡◌, drop}
use Rattle.wg_uniform.specs.Parts.{spread_in, after_forms}
use Rattle.wg_uniform.proofs.uniform.forms_after.Given as goal

abbrev pub invariant-loop-form : goal.invariant-loop-form
invariant-loop-form l = after_forms l.setting (spread_in l.value) (drop l.form-index l.form-items) ≡ after_forms l.setting (spread_in l.fn.first) l.fn.forms
