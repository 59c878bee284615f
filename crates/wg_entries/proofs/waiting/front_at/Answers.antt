use Rattle.std.proofs.Common.{length, refl}
use Rattle.std.proofs.lemmas.Option.{slice_get_read}
use Rattle.wg_entries.proofs.Taking.{front_is, front_there}
use Rattle.wg_entries.proofs.waiting.front_at.Goals as goal

pub entries_pending-requires : goal.entries_pending-requires
entries_pending-requires c =
    let xs = c.args.items.now in
    let x = c.index-items-place.result in
    front_there c.args.place xs x c.requires.past c.requires.waits (slice_get_read xs (length xs) c.args.place x refl c.requires.there c.index-items-place.is)

pub returns-clause-front : goal.returns-clause-front
returns-clause-front c =
    let xs = c.args.items.now in
    let x = c.index-items-place.result in
    front_is c.args.shape.now c.args.ticket c.args.place xs x c.in_ok-pending.pending c.requires.past c.requires.waits (slice_get_read xs (length xs) c.args.place x refl c.requires.there c.index-items-place.is) c.in_ok-pending.ensures
