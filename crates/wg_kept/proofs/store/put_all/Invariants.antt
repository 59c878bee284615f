use Rattle.std.proofs.Common.{◌≡◌, ◌++◌}
use Rattle.wg_store.specs.Items.{born_items}
use Rattle.wg_kept.specs.Moves.{CanPut}
use Rattle.wg_kept.proofs.store.put_all.Given as goal

-- those so far with those that are left are all, and these may be put
abbrev pub invariant-loop-record : goal.invariant-loop-record
invariant-loop-record l =
    record {
      can : CanPut l.hold l.number l.record-iterator.rest.items;
      all : l.hold.items ++ born_items l.hold.shape l.number l.record-iterator.rest.items ≡ l.initial.hold.items ++ born_items l.initial.hold.shape l.next l.fn.sent;
      shape : l.hold.shape ≡ l.initial.hold.shape;
      room : l.hold.room ≡ record l.initial.hold.room { used = l.hold.room.used };
    }
