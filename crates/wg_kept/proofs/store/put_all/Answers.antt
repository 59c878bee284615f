use Rattle.std.proofs.Common.{◌≡◌, ◌++◌, ◌∙◌, List, subst}
use Rattle.wg_machine.specs.declared.launch.Sent.{Sent}
use Rattle.wg_store.specs.Items.{born_items}
use Rattle.wg_kept.specs.Moves.{CanPut}
use Rattle.wg_kept.proofs.Putting.{put_more, put_next, room_on}
use Rattle.wg_kept.proofs.store.put_all.Goals as goal

pub loop-record-preserved : goal.loop-record-preserved
loop-record-preserved c =
    let all = c.args.hold.now in
    let h = c.loop-record.hold in
    let g = c.put.new.hold in
    let n = c.loop-record.number in
    let x = c.in-Some.record in
    let rest = c.next.new.self.rest.items in
    let here = c.in-Some.ensures.steps.0 in
    let i = c.loop-record.invariant in
    record {
      can = put_next h g n x rest (subst (CanPut h n) here i.can) c.put.ensures;
      all = put_more h g (all.items ++ born_items all.shape c.args.next c.args.sent) n x rest (subst (λ (xs : List Sent). h.items ++ born_items h.shape n xs ≡ all.items ++ born_items all.shape c.args.next c.args.sent) here i.all) c.put.ensures;
      shape = c.put.ensures.shape ∙ i.shape;
      room = room_on all.room h.room g.room i.room c.put.ensures.room;
    }
