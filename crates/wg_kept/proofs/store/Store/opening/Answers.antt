use Rattle.std.proofs.Common.{◌∙◌, ap, arith}
use Rattle.std.specs.Option.{option_map}
use Rattle.wg_store.specs.declared.item.Item.{Item}
use Rattle.wg_kept.proofs.Finding.{in_entries, past_entries}
use Rattle.wg_kept.proofs.store.Store.opening.Goals as goal

pub returns-then-number-len : goal.returns-then-number-len
returns-then-number-len c =
    let s = c.args.self.now in
    let less = c.if-number-len.true in
    let long = c.len.ensures in
    ap (option_map (λ (x : Item). x.opening)) (in_entries 0 c.args.number s.entries s.hold.items c.requires.places (omega arith) (omega (arith, less, long))) ∙ c.opening.ensures

pub opening-requires-2 : goal.opening-requires-2
opening-requires-2 c =
    let s = c.args.self.now in
    let past = c.if-number-len.false in
    let long = c.len.ensures in
    record { there = λ none. c.requires.there (past_entries 0 c.args.number s.entries s.hold.items c.requires.places (omega (arith, past, long)) ∙ none) }

pub returns : goal.returns
returns c =
    let s = c.args.self.now in
    let past = c.if-number-len.false in
    let long = c.len.ensures in
    ap (option_map (λ (x : Item). x.opening)) (past_entries 0 c.args.number s.entries s.hold.items c.requires.places (omega (arith, past, long))) ∙ c.opening-2.ensures
