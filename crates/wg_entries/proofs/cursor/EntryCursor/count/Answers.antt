use Rattle.std.proofs.Common.{List, subst, sym}
use Rattle.wg_store.specs.declared.item.Item.{Item}
use Rattle.wg_entries.specs.Stands.{Stands}
use Rattle.wg_entries.proofs.Taking.{counted_apart, stands_counted}
use Rattle.wg_entries.proofs.cursor.EntryCursor.count.Goals as goal

pub count_in-requires-clause-apart : goal.count_in-requires-clause-apart
count_in-requires-clause-apart c = counted_apart c.args.inputs.now c.requires.apart

pub invariant_of-self : goal.invariant_of-self
invariant_of-self c = subst (λ (xs : List Item). Stands xs c.self.inside.place) (sym c.count_in.ensures) (stands_counted c.args.inputs.now c.self.inside.items.items c.self.inside.place c.self.invariant)
