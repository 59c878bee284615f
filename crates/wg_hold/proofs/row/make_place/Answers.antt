use Rattle.std.proofs.Common.{◌<◌, List, length, ap, sym, subst, inr, rules, arith}
use Rattle.std.proofs.lemmas.List.Elements.{filter_from_retain}
use Rattle.wg_words.specs.Each.{Each}
use Rattle.wg_store.specs.declared.item.Item.{Item as ItemOf}
use Rattle.wg_store.specs.Items.{has_left}
use Rattle.wg_hold.proofs.row.make_place.Goals as goal

pub returns-clause-items : goal.returns-clause-items
returns-clause-items c = inr (filter_from_retain _ has_left (λ p x b q r. search rules) _ c.args.items.now.items c.retain.new.self.items c.retain.ensures.filtered)

pub returns-clause-above : goal.returns-clause-above
returns-clause-above c = subst (λ (xs : List ItemOf). Each (λ (x : ItemOf). x.number < c.args.number) xs) (sym (filter_from_retain _ has_left (λ p x b q r. search rules) _ c.args.items.now.items c.retain.new.self.items c.retain.ensures.filtered)) c.requires.above

pub returns-clause-place : goal.returns-clause-place
returns-clause-place c =
    let long = ap (λ (xs : List ItemOf). length xs) (filter_from_retain _ has_left (λ p x b q r. search rules) _ c.args.items.now.items c.retain.new.self.items c.retain.ensures.filtered) in
    omega (arith, long, c.requires.few, c.retain.ensures.capacity, c.retain.new.self.ok.0)
