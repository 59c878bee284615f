use Rattle.std.proofs.Common.{◌≡◌, drop}
use Rattle.wg_store.specs.Items.{item_in}
use Rattle.wg_store.proofs.finding.place_in.Given as goal

-- the rest has what all have
abbrev pub invariant-loop-place : goal.invariant-loop-place
invariant-loop-place l = item_in l.number (drop l.place l.items) ≡ item_in l.number l.items
