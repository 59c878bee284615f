use Rattle.std.proofs.Common.{sym, ap, ◌∙◌}
use Rattle.std.specs.Prelude.{◌&&◌}
use Rattle.std.specs.Option.{option_copied}
use Rattle.wg_code.specs.Quiet.{is_quiet, parts_quiet}
use Rattle.wg_machine.specs.declared.launch.Made.{Made}
use Rattle.wg_group.specs.Quieter.{functions_quiet}
use Rattle.wg_group.proofs.Ending.{quiet_code}
use Rattle.wg_group.proofs.Growth.{kept_weaker}
use Rattle.wg_group.proofs.group.run_code.Goals as goal

pub returns-clause-kept : goal.returns-clause-kept
returns-clause-kept g c =
    let code = c.args.code.now in
    let node = c.in-Some-get.node.now in
    kept_weaker {T = Made} (is_quiet code) (functions_quiet code.functions && parts_quiet node.parts)
    (quiet_code code c.in-Some.unit.now.node node (sym c.get-2.ensures.value ∙ ap option_copied c.in-Some-get.is))
    (g.M.Memory.trace c.args.mem.now) c.run_node.result (g.M.Memory.trace c.run_node.new.mem) c.run_node.ensures.kept
