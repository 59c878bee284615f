use Rattle.std.proofs.Common.{◌≡◌, ◌≤◌, ◌∙◌, ap, sym, subst, length, arith}
use Rattle.wg_words.specs.Each.{Each}
use Rattle.wg_shapes.specs.Level.{top_levels}
use Rattle.wg_units.specs.Numbers.{first_units}
use Rattle.wg_units.proofs.Counted.{count_tops, low_tops}
use Rattle.wg_units.proofs.levels.levels_of.Goals as goal

pub firsts-requires-clause-few : goal.firsts-requires-clause-few
firsts-requires-clause-few c =
    let e : c.as_slice.result.now ≡ top_levels c.args.nodes.now = c.as_slice.ensures ∙ c.in_ok-tops.ensures in
    let l = ap length e in let n = count_tops c.args.nodes.now in let f = c.requires.few in
    omega (arith, l, n, f)

pub firsts-requires-clause-low : goal.firsts-requires-clause-low
firsts-requires-clause-low c = subst (Each (λ top. top ≤ 31)) (sym (c.as_slice.ensures ∙ c.in_ok-tops.ensures)) (low_tops c.args.nodes.now c.requires.low)

pub returns-clause-lawful : goal.returns-clause-lawful
returns-clause-lawful c = record {
  firsts = c.in_ok-firsts.ensures ∙ ap first_units c.as_slice.ensures;
  few = (let l = ap length c.in_ok-tops.ensures in let n = count_tops c.args.nodes.now in let f = c.requires.few in omega (arith, l, n, f));
  low = subst (Each (λ top. top ≤ 31)) (sym c.in_ok-tops.ensures) (low_tops c.args.nodes.now c.requires.low);
}
