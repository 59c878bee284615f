use Rattle.std.proofs.Common.{length}
use Rattle.wg_slots.proofs.Rows.{all_are_free, length_shown}
use Rattle.wg_slots.proofs.slots.Slots.new.Goals as goal

pub returns-clause-count : goal.returns-clause-count
returns-clause-count c = length_shown _ c.in_ok-units.units.items (length c.args.counts.now) c.in_ok-units.ensures.count

pub returns-clause-free : goal.returns-clause-free
returns-clause-free c = λ u h. all_are_free _ c.in_ok-units.units.items c.args.counts.now c.args.words.now u c.in_ok-units.ensures.empty h
