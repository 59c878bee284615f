use Rattle.std.proofs.Common.{subst}
use Rattle.wg_store.specs.Items.{has_left}
use Rattle.wg_hold.specs.RowsOf.{IsSoundRows}
use Rattle.wg_hold.proofs.Changes.{all_left, rise_filter}
use Rattle.wg_hold.proofs.rows.Rows.keeps_laws.Goals as goal

pub returns : goal.returns
returns c = subst IsSoundRows c.self.view_is (record { rises = rise_filter 0 has_left c.self.inside.items.items c.self.invariant.rises; left = all_left c.self.inside.items.items })
