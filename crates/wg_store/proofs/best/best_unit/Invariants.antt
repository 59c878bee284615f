use Rattle.std.proofs.Common.{take}
use Rattle.wg_store.specs.Best.{IsBestOf}
use Rattle.wg_store.proofs.best.best_unit.Given as goal

abbrev pub invariant-loop-place : goal.invariant-loop-place
invariant-loop-place l = IsBestOf l.shape l.room (take l.place l.items) l.best
