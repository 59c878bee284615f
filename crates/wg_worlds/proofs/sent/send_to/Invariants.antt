use Rattle.std.proofs.Common.{◌≡◌, ◌++◌, drop}
use Rattle.wg_state.specs.Sending.{sent_to}
use Rattle.wg_worlds.proofs.sent.send_to.Given as goal

abbrev pub invariant-loop-g : goal.invariant-loop-g
invariant-loop-g l = l.sent ++ sent_to l.output l.element l.unit (drop l.g-index l.grants) ≡ l.initial.sent ++ sent_to l.output l.element l.unit l.grants
