use Rattle.wg_cursor.proofs.TurnSteps.{turn_off, turn_on, turn_halts}
use Rattle.wg_cursor.proofs.turns.read_by_turns.Goals as goal

pub returns-clause-ends : goal.returns-clause-ends
returns-clause-ends g c = turn_off

pub returns-clause-goes_on : goal.returns-clause-goes_on
returns-clause-goes_on g c = turn_on

pub returns-clause-halts : goal.returns-clause-halts
returns-clause-halts g c = turn_halts
