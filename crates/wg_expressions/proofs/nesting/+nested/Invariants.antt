use Rattle.wg_expressions.proofs.nesting.+nested.Given as goal

abbrev pub decreases-nested : goal.decreases-nested
decreases-nested l = l.room
