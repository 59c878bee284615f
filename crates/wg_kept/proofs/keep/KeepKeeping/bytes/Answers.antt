use Rattle.std.proofs.Common.{◌∙◌, ap}
use Rattle.wg_standing.specs.Moves.{slot_bytes}
use Rattle.wg_store.specs.Keep.{Kept, view_of}
use Rattle.wg_kept.specs.Inside.{kept_of}
use Rattle.wg_kept.proofs.Uses.{used_list}
use Rattle.wg_kept.proofs.keep.KeepKeeping.bytes.Goals as goal

pub returns : goal.returns
returns c =
    let s = c.self.inside in
    let k : Kept = kept_of s.store s.width s.limits s.journal.items s.next s.outs s.tickets in
    c.bytes.ensures ∙ ap (slot_bytes k.shape 0) (used_list k s.store.hold.room.used c.keeps_laws.ensures.counted c.self.invariant.room.used) ∙ ap (λ (n : Kept). slot_bytes n.shape 0 (view_of n).used) c.self.view_is
