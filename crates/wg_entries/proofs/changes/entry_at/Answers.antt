use Rattle.std.proofs.Common.{length, refl}
use Rattle.std.proofs.lemmas.Option.{slice_get_read}
use Rattle.wg_entries.proofs.Placed.{found_first}
use Rattle.wg_entries.proofs.changes.entry_at.Goals as goal

pub returns : goal.returns
returns c =
    let xs = c.args.items.now in
    let x = c.index-items-number.result in
    found_first c.args.number xs x c.requires.places (slice_get_read xs (length xs) c.args.number x refl c.requires.there c.index-items-number.is)
