use Rattle.std.proofs.Common.{◌≡◌, ◌++◌, ◌+◌, drop}
use Rattle.wg_emit.specs.Each.{word_code}
use Rattle.wg_lowered.specs.Where.{each_ops}
use Rattle.wg_emit.proofs.each.emit_each.Given as goal

abbrev pub invariant-loop-i : goal.invariant-loop-i
invariant-loop-i l = l.ops ++ each_ops (word_code l.code) (drop l.i l.word-items) (l.d + l.i) ≡ l.initial.ops ++ each_ops (word_code l.code) l.word-items l.d
