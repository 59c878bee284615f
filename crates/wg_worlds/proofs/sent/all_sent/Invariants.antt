use Rattle.std.proofs.Common.{◌≡◌, ◌++◌, drop}
use Rattle.wg_state.specs.Sending.{sent_through}
use Rattle.wg_worlds.proofs.sent.all_sent.Given as goal

abbrev pub invariant-loop-output : goal.invariant-loop-output
invariant-loop-output l = l.sent ++ sent_through l.output (drop l.output l.outputs) l.grants ≡ sent_through 0 l.outputs l.grants
