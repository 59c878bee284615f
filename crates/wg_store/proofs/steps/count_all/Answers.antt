use Rattle.std.proofs.Common.{◌∙◌, length, refl, ap, sym, arith}
use Rattle.std.specs.Prelude.{if◌then◌else◌}
use Rattle.std.proofs.lemmas.Option.{slice_get_read}
use Rattle.wg_machine.specs.Step.{has_number}
use Rattle.wg_store.specs.declared.item.Item.{Item}
use Rattle.wg_store.specs.Items.{with_counted}
use Rattle.wg_store.proofs.Stepping.{stepped}
use Rattle.wg_store.proofs.steps.count_all.Goals as goal

pub loop-place-preserved : goal.loop-place-preserved
loop-place-preserved c =
    let ys = c.loop-place.items in
    let x = c.index-items-place.result in
    let there = slice_get_read ys (length ys) c.loop-place.place x refl (omega (arith, c.loop-place.auto.items, c.loop-place-test.true)) c.index-items-place.is in
    let f : Item → Item = λ z. if has_number c.args.numbers.now z.number then with_counted z else z in
    stepped f c.args.items.now ys c.loop-place.place x c.count_one.new.item c.loop-place.invariant there (c.count_one.ensures ∙ ap f (sym c.index-items-place.is))
