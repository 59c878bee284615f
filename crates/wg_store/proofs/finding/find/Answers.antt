use Rattle.std.proofs.Common.{◌≡◌, ◌+◌, ◌++◌, ℕ, length, refl, ◌∙◌, sym, arith, ap}
use Rattle.wg_store.specs.Items.{item_in}
use Rattle.std.proofs.lemmas.Option.{slice_get_read}
use Rattle.wg_store.proofs.Found.{entry_at, past_entries}
use Rattle.wg_store.proofs.finding.find.Goals as goal

pub returns-then-number-entries : goal.returns-then-number-entries
returns-then-number-entries c =
    let xs = c.args.entries.now in
    let x = c.index-entries-number.result in
    let there = slice_get_read xs (length xs) c.args.number x refl c.if-number-entries.true c.index-entries-number.is in
    let z : c.args.number ≡ 0 + c.args.number = omega arith in
    ap (λ (n : ℕ). item_in n (xs ++ c.args.slots.now)) z ∙ entry_at 0 c.args.number xs c.args.slots.now x c.requires.places there

pub unreachable-requires : goal.unreachable-requires
unreachable-requires c = c.requires.there (past_entries 0 c.args.number c.args.entries.now c.args.slots.now c.requires.places (omega (arith, c.if-number-entries.false)) ∙ c.in_default.ensures.none)

pub returns : goal.returns
returns c =
    let xs = c.args.slots.now in
    let x = c.index-slots-place.result in
    let there = slice_get_read xs (length xs) c.in-Some.place x refl c.in-Some.ensures.within c.index-slots-place.is in
    past_entries 0 c.args.number c.args.entries.now xs c.requires.places (omega (arith, c.if-number-entries.false)) ∙ sym c.in-Some.ensures.found ∙ there
