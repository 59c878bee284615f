use Rattle.std.proofs.Common.{◌≡◌, ◌∙◌, List, ℕ, Option, length, ap, sym, subst}
use Rattle.std.specs.Prelude.{slice_index_or}
use Rattle.wg_words.specs.Each.{Each}
use Rattle.wg_machine.specs.Units.{words_at}
use Rattle.wg_store.specs.declared.item.Item.{Item}
use Rattle.wg_store.specs.Items.{all_worded}
use Rattle.wg_hold.specs.Held.{Held}
use Rattle.wg_kept.specs.Stores.{records_in}
use Rattle.wg_kept.proofs.Finding.{no_words}
use Rattle.wg_kept.proofs.store.Store.write.Goals as goal

pub returns-in_default-clause-entries : goal.returns-in_default-clause-entries
returns-in_default-clause-entries c =
    let s = c.args.self.now in
    sym (ap (λ (o : Option (List ℕ)). all_worded c.args.inputs.now o s.entries) c.in_default.is ∙ no_words c.args.inputs.now s.entries)

pub returns-in_default-clause-hold : goal.returns-in_default-clause-hold
returns-in_default-clause-hold c =
    let s = c.args.self.now in
    ap (λ (xs : List Item). (let h : Held = record s.hold { items = xs } in h)) (sym (ap (λ (o : Option (List ℕ)). all_worded c.args.inputs.now o s.hold.items) c.in_default.is ∙ no_words c.args.inputs.now s.hold.items))

pub rewrite-requires-clause-words : goal.rewrite-requires-clause-words
rewrite-requires-clause-words c =
    let s = c.args.self.now in
    let w = c.requires.words c.in-Some.words c.in-Some.is in
    subst (λ (n : ℕ). Each (λ (x : Item). x.number ≡ n → length c.in-Some.words ≡ words_at s.hold.shape x.unit) (records_in s)) (sym (ap (λ (ns : List ℕ). slice_index_or ns 0 0) w.1)) w.2
