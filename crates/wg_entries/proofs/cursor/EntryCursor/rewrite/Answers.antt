use Rattle.std.proofs.Common.{List, subst, sym}
use Rattle.wg_store.specs.declared.item.Item.{Item}
use Rattle.wg_entries.specs.Stands.{Stands}
use Rattle.wg_entries.proofs.Taking.{stands_worded}
use Rattle.wg_entries.proofs.cursor.EntryCursor.rewrite.Goals as goal

pub invariant_of-self : goal.invariant_of-self
invariant_of-self c = subst (λ (xs : List Item). Stands xs c.self.inside.place) (sym c.rewrite_in.ensures) (stands_worded c.args.number c.args.words c.self.inside.items.items c.self.inside.place c.self.invariant)
