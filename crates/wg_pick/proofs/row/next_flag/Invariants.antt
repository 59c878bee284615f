use Rattle.wg_pick.proofs.Flags.{AreNone}
use Rattle.wg_pick.proofs.row.next_flag.Given as goal

abbrev pub invariant-loop-word : goal.invariant-loop-word
invariant-loop-word l = AreNone l.flags l.from l.word l.low
