use Rattle.std.proofs.Common.{◌∙◌, length, refl, ap, sym}
use Rattle.std.specs.Prelude.{slice_set}
use Rattle.std.proofs.lemmas.Option.{slice_get_read}
use Rattle.wg_store.specs.declared.item.Item.{Item}
use Rattle.wg_store.proofs.Stepping.{words_none, words_set}
use Rattle.wg_store.proofs.steps.write_words.Goals as goal

pub returns-in_default : goal.returns-in_default
returns-in_default c = words_none c.args.number c.args.words c.args.items.now c.in_default.ensures.none

pub returns : goal.returns
returns c =
    let xs = c.args.items.now in
    let x = c.index-items-place.result in
    let there = slice_get_read xs (length xs) c.in-Some.place x refl c.in-Some.ensures.within c.index-items-place.is in
    ap (λ (z : Item). (let w : Item = record z { words = c.args.words } in slice_set xs c.in-Some.place w)) (sym c.index-items-place.is)
    ∙ words_set c.args.number c.args.words xs c.in-Some.place x c.requires.once c.in-Some.ensures.found there
