use Rattle.std.proofs.Common.{◌≡◌, drop}
use Rattle.wg_typing.specs.TypingBarrier.{any_flag}
use Rattle.wg_series.proofs.flags.any_flag.Given as goal

abbrev pub invariant-loop-piece : goal.invariant-loop-piece
invariant-loop-piece l = any_flag l.c (drop l.piece-index l.pieces) ≡ any_flag l.c l.pieces
