-- Which statements each lane goes through by itself: all but a block and a collective `if`.
use Rattle.std.specs.Prelude.{Bool, true, false, not}
use Rattle.wg_typed.specs.declared.typed_stmt.TypedStmt.{TypedStmt}
use Rattle.wg_typed.specs.declared.typed_stmt.TypedStmt.TheFolds.{fold-TypedStmt}
use Rattle.wg_typed.specs.declared.typed_stmt.TypedStmt.TheOpen.{TypedStmt-F}

abbrev pub by_lanes_step : TypedStmt-F Bool → Bool
by_lanes_step (TypedStmt-F.Block body) = false
by_lanes_step TypedStmt-F.Empty = true
by_lanes_step (TypedStmt-F.Declare declared) = true
by_lanes_step (TypedStmt-F.Request handle group output element amount) = true
by_lanes_step (TypedStmt-F.Increment group output element amount) = true
by_lanes_step (TypedStmt-F.Complete handle) = true
by_lanes_step (TypedStmt-F.Barrier syncs) = true
by_lanes_step (TypedStmt-F.Step step) = true
by_lanes_step TypedStmt-F.Break = true
by_lanes_step TypedStmt-F.Continue = true
by_lanes_step (TypedStmt-F.Return value) = true
by_lanes_step (TypedStmt-F.If attributes collective test first other) = not collective
by_lanes_step (TypedStmt-F.While attributes test body) = true
by_lanes_step (TypedStmt-F.For attributes start test steps body) = true

abbrev pub goes_by_lanes : TypedStmt → Bool
goes_by_lanes = fold-TypedStmt Bool by_lanes_step
