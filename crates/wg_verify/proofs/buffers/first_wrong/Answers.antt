use Rattle.std.proofs.Common.{◌≡◌, ◌+◌, ℕ, suc, take, sym, subst, arith}
use Rattle.wg_verify.specs.Tails.{buffer_lines}
use Rattle.wg_verify.proofs.Comparing.{agree_more, line_inside}
use Rattle.wg_verify.proofs.buffers.first_wrong.Goals as goal

pub loop-place-preserved : goal.loop-place-preserved
loop-place-preserved c =
    let lines = c.args.lines.now in
    let all = buffer_lines c.args.names.now c.args.buffers.now in
    let i = c.loop-place.place in
    let line = c.index-lines-place.result in
    let at = c.is_line_at.ensures.0 c.if-not-is_line_at.false in
    let next : i + 1 ≡ suc i = omega arith in
    let inside = line_inside c.args.names.now c.args.buffers.now i line c.requires.many at in
    record {
      same = subst (λ (n : ℕ). take n lines ≡ take n all) (sym next) (agree_more lines all i line c.loop-place-test.true c.index-lines-place.is c.loop-place.invariant.same at);
      within = omega (arith, inside);
    }
