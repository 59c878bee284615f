use Rattle.std.proofs.Common.{◌≡◌, drop}
use Rattle.wg_script.specs.Naming.{first_from, is_entry_of, entry_at}
use Rattle.wg_script.proofs.names.entry_unit.Given as goal

-- no unit so far is the one
abbrev pub invariant-loop-number : goal.invariant-loop-number
invariant-loop-number l = first_from (is_entry_of l.node) l.number (drop l.number l.shape.units) ≡ entry_at l.shape l.node
