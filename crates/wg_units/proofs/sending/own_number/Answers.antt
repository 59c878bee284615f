use Rattle.std.proofs.Common.{◌∙◌, slice_get, unwrap_or, ap, arith}
use Rattle.wg_units.proofs.Counted.{number_small, first_there}
use Rattle.wg_units.proofs.sending.own_number.Goals as goal

pub overflow_add-result : goal.overflow_add-result
overflow_add-result c =
    let s = number_small c.args.levels.now.tops c.args.levels.now.firsts c.args.n c.requires.lawful.firsts c.requires.lawful.few c.requires.lawful.low in
    let f = c.at.ensures in let t = c.at-2.ensures in let d = c.saturating_sub.ensures in
    omega (arith, s, f, t, d)

pub returns-clause-small : goal.returns-clause-small
returns-clause-small c =
    let s = number_small c.args.levels.now.tops c.args.levels.now.firsts c.args.n c.requires.lawful.firsts c.requires.lawful.few c.requires.lawful.low in
    let f = c.at.ensures in let t = c.at-2.ensures in let d = c.saturating_sub.ensures in
    omega (arith, s, f, t, d)

pub returns-clause-number : goal.returns-clause-number
returns-clause-number c lt =
    let f = c.at.ensures ∙ (ap (λ l. unwrap_or (slice_get l c.args.n) 0) c.requires.lawful.firsts ∙ first_there c.args.levels.now.tops c.args.n lt) in
    let t = c.at-2.ensures in let d = c.saturating_sub.ensures in
    omega (arith, f, t, d)
