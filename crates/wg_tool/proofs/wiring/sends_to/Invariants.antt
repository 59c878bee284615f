use Rattle.std.proofs.Common.{◌≡◌, drop}
use Rattle.std.specs.List.{list_any}
use Rattle.wg_machine.specs.declared.shape.Output.{Output}
use Rattle.wg_machine.specs.Need.{is_target}
use Rattle.wg_tool.proofs.wiring.sends_to.Given as goal

-- the outputs that are left tell
abbrev pub invariant-loop-output : goal.invariant-loop-output
invariant-loop-output l =
    list_any (λ (o : Output). list_any (is_target l.target) o.elements) (drop l.output-index l.output-items) ≡ list_any (λ (o : Output). list_any (is_target l.target) o.elements) l.unit.outputs
