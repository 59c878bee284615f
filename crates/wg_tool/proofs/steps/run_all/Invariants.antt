use Rattle.std.proofs.Common.{◌-◌, [], List, length}
use Rattle.wg_machine.specs.declared.launch.Sent.{Sent}
use Rattle.wg_standing.specs.Standing.{StandsFor}
use Rattle.wg_tool.specs.Running.{KeepsPlan, IsBetweenLaunches, StandsShort}
use Rattle.wg_tool.specs.Sending.{sender}
use Rattle.wg_words.specs.declared.limits.TheConstants.{DEFAULT_LAUNCHES}
use Rattle.wg_tool.proofs.steps.run_all.Given as goal

-- the core is ready, and stands for what it stood for
abbrev pub invariant-loop : goal.invariant-loop
invariant-loop l =
    record {
      stands : (script : List Sent) → StandsFor (sender l.senders.targets l.senders.adds) script [] l.fn.core → StandsFor (sender l.senders.targets l.senders.adds) script [] l.core;
      short : StandsShort (sender l.senders.targets l.senders.adds) l.core;
      plan : KeepsPlan l.fn.core l.core;
      ready : IsBetweenLaunches l.core;
    }

-- the launches that are left
abbrev pub decreases-loop : goal.decreases-loop
decreases-loop l = DEFAULT_LAUNCHES - length l.core.journal
