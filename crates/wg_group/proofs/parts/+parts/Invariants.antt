use Rattle.std.proofs.Common.{false, drop}
use Rattle.std.specs.Prelude.{◌&&◌}
use Rattle.wg_code.specs.CodeMeaning.{node_does}
use Rattle.wg_code.specs.PartMeaning.{parts_run}
use Rattle.wg_code.specs.Quiet.{parts_quiet}
use Rattle.wg_group.specs.Quieter.{functions_quiet}
use Rattle.wg_group.specs.Running.{rows_from, Went}
use Rattle.wg_group.proofs.Going.{Rest}
use Rattle.wg_group.proofs.parts.+parts.Given as goal

abbrev pub invariant-run_parts-loop-part : goal.invariant-run_parts-loop-part
invariant-run_parts-loop-part g l =
    let bodies = node_does false l.group.code.now l.group.node.now l.group.unit.now l.group.launch.now in
    record {
      left :
          Rest (parts_run false bodies l.parts (rows_from 0 l.group.lanes l.group.node.now.registers l.initial.registers)) l.initial.s (g.M.Memory.trace l.initial.mem)
          (parts_run false bodies (drop l.part-index l.parts) (rows_from 0 l.group.lanes l.group.node.now.registers l.registers)) l.s (g.M.Memory.trace l.mem);
      went : Went (functions_quiet l.group.code.now.functions && parts_quiet l.parts) (g.M.Memory.trace l.initial.mem) (g.M.Memory.trace l.mem);
    }
