use Rattle.std.proofs.Common.{◌≡◌, drop}
use Rattle.wg_semantics.specs.LaunchMeaning.{declares_last}
use Rattle.wg_launch.proofs.phases.declares_last.Given as goal

abbrev pub invariant-loop-d : goal.invariant-loop-d
invariant-loop-d l = declares_last (drop l.d-index l.declared) ≡ declares_last l.declared
