use Rattle.std.proofs.Common.{◌∙◌, length, refl, ap, sym}
use Rattle.std.specs.Prelude.{slice_set}
use Rattle.std.proofs.lemmas.Option.{slice_get_read}
use Rattle.wg_store.specs.declared.item.Item.{Item}
use Rattle.wg_entries.proofs.Placed.{words_first}
use Rattle.wg_entries.proofs.changes.set_words.Goals as goal

pub returns : goal.returns
returns c =
    let xs = c.args.items.now in
    let x = c.index-items-number.result in
    let there = slice_get_read xs (length xs) c.args.number x refl c.requires.there c.index-items-number.is in
    ap (λ (z : Item). (let w : Item = record z { words = c.args.words } in slice_set xs c.args.number w)) (sym c.index-items-number.is)
    ∙ words_first c.args.words c.args.number xs x c.requires.places there
