use Rattle.std.proofs.Common.{arith}
use Rattle.wg_machine.specs.declared.launch.Launch.{Launch}
use Rattle.wg_outcomes.proofs.Fits.{fits_from}
use Rattle.wg_outcomes.proofs.fitting.fitting.Goals as goal

pub returns : goal.returns
returns c =
    let l : Launch = record { unit = c.args.launch.unit; records = c.args.launch.records; group = c.args.launch.group; grid = c.grid_for-grid.result; last = c.args.launch.last } in
    fits_from c.args.shape.now l c.kind-kind.result c.words_in.result c.kind-kind.ensures c.words_in.ensures (grind (arith, c.if-unit-len.false, c.len.ensures)) (grind (arith, c.if-count-most_inputs.false, c.len-count.ensures)) (grind (arith, c.if-count-most_inputs.false, c.len-count.ensures, c.most_inputs.ensures)) (grind (arith, c.if-not-have_words.false, c.have_words.ensures)) (grind (arith, c.if-not-has_group.ensures.few)) (grind (arith, c.if-not-has_group.ensures.inside)) c.grid_for-grid.ensures
