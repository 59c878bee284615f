use Rattle.std.proofs.Common.{◌≡◌, ◌++◌, drop}
use Rattle.wg_state.specs.Sending.{sent_from}
use Rattle.wg_worlds.proofs.sent.send_from.Given as goal

abbrev pub invariant-loop-element : goal.invariant-loop-element
invariant-loop-element l = l.sent ++ sent_from l.output l.element (drop l.element l.targets) l.grants ≡ l.initial.sent ++ sent_from l.output 0 l.targets l.grants
