use Rattle.std.proofs.Common.{◌≡◌, ◌∙◌, List, length, ap, sym, arith}
use Rattle.wg_machine.specs.Units.{words_at}
use Rattle.wg_store.specs.declared.item.Item.{Item}
use Rattle.wg_hold.specs.Held.{Held}
use Rattle.wg_kept.proofs.Finding.{each_parts, found_holds, no_entry, none_worded, not_behind, past_entries}
use Rattle.wg_kept.proofs.store.Store.rewrite.Goals as goal

pub rewrite-requires-else-number-len-clause-there : goal.rewrite-requires-else-number-len-clause-there
rewrite-requires-else-number-len-clause-there c = λ none.
    let s = c.args.self.now in
    let past = c.if-number-len.false in
    let long = c.len.ensures in
    c.requires.there (past_entries 0 c.args.number s.entries s.hold.items c.requires.places (omega (arith, past, long)) ∙ none)

pub rewrite-requires-else-number-len-clause-words : goal.rewrite-requires-else-number-len-clause-words
rewrite-requires-else-number-len-clause-words c = λ x there.
    let s = c.args.self.now in
    let P : Item → Type 0 = λ y. y.number ≡ c.args.number → length c.args.words ≡ words_at s.hold.shape y.unit in
    let found = found_holds P c.args.number s.hold.items x (each_parts P s.entries s.hold.items c.requires.words).1 there in
    found.0 found.1

pub returns-then-number-len-clause-hold : goal.returns-then-number-len-clause-hold
returns-then-number-len-clause-hold c =
    let s = c.args.self.now in
    let less = c.if-number-len.true in
    let long = c.len.ensures in
    let none = not_behind c.args.number (length s.entries) s.hold.items c.requires.behind (omega (arith, less, long)) in
    ap (λ (xs : List Item). (let h : Held = record s.hold { items = xs } in h)) (sym (none_worded c.args.number c.args.words s.hold.items none))

pub returns-else-number-len-clause-entries : goal.returns-else-number-len-clause-entries
returns-else-number-len-clause-entries c =
    let s = c.args.self.now in
    let past = c.if-number-len.false in
    let long = c.len.ensures in
    sym (none_worded c.args.number c.args.words s.entries (no_entry 0 c.args.number s.entries c.requires.places (omega (arith, past, long))))
