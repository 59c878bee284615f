use Rattle.std.proofs.Common.{◌≡◌, take}
use Rattle.std.specs.Prelude.{filter}
use Rattle.wg_store.specs.Items.{all_counted, has_left}
use Rattle.wg_hold.proofs.hold.Hold.count.Given as goal

-- those before the place are counted
abbrev pub invariant-loop-number : goal.invariant-loop-number
invariant-loop-number l =
    (l.self.items ≡ filter has_left (all_counted (take l.number-index l.inputs) l.initial.self.items))
    × (l.self.shape ≡ l.initial.self.shape)
    × (l.self.room ≡ record l.initial.self.room { used = l.self.room.used })
