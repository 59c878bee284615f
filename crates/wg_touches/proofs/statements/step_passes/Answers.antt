use Rattle.std.proofs.Common.{[], ◌∷◌}
use Rattle.wg_additive.specs.ExprTouches.{place_touches, value_touches}
use Rattle.wg_additive.specs.Touch.{a_read, a_store}
use Rattle.wg_touches.proofs.Passes.{joined_pass, none_read, one_passes}
use Rattle.wg_touches.proofs.statements.step_passes.Goals as goal

pub returns-in-Assign : goal.returns-in-Assign
returns-in-Assign c =
    rw (c.in-Assign.is) (joined_pass c.args.stores (place_touches c.args.functions.now (a_store ∷ []) c.in-Assign.target) (value_touches c.args.functions.now c.in-Assign.value) c.place_passes-target.result c.value_passes-in-Assign.result
    (c.place_passes-target.ensures (a_store ∷ []) (one_passes c.args.stores a_store)) c.value_passes-in-Assign.ensures)

pub returns-in-Update : goal.returns-in-Update
returns-in-Update c =
    rw (c.in-Update.is) (joined_pass c.args.stores (place_touches c.args.functions.now (a_read ∷ a_store ∷ []) c.in-Update.target) (value_touches c.args.functions.now c.in-Update.value) c.place_passes-target-in-Update.result c.value_passes-in-Update.result
    (c.place_passes-target-in-Update.ensures (a_read ∷ a_store ∷ []) (none_read c.args.stores)) c.value_passes-in-Update.ensures)

pub returns-in-Change : goal.returns-in-Change
returns-in-Change c = rw (c.in-Change.is) (c.place_passes.ensures (a_read ∷ a_store ∷ []) (none_read c.args.stores))
