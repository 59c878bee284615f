use Rattle.std.proofs.Common.{◌≡◌, List, length, ap, arith}
use Rattle.wg_machine.specs.declared.journal.BufferLine.{BufferLine}
use Rattle.wg_verify.specs.Tails.{buffer_lines}
use Rattle.wg_verify.proofs.Comparing.{agree_all, lines_count}
use Rattle.wg_verify.proofs.tails.buffers_verdict.Goals as goal

pub returns-then-lines-len : goal.returns-then-lines-len
returns-then-lines-len c =
    let all = buffer_lines c.args.names.now c.args.buffers.now in
    let count = lines_count c.args.names.now c.args.buffers.now c.requires.many in
    let many : length c.args.lines.now ≡ length all = omega (arith, count) in
    agree_all c.args.lines.now all c.in_default.ensures.none many

pub returns-in_default : goal.returns-in_default
returns-in_default c =
    let count = lines_count c.args.names.now c.args.buffers.now c.requires.many in
    (c.in_default.ensures.none, λ e. absurd (let n = ap (λ (ls : List BufferLine). length ls) e in omega (arith, count, n)))
