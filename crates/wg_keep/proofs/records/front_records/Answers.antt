use Rattle.std.proofs.Common.{◌∙◌, ◌++◌, ◌∷◌, [], List, ℕ, ap, sym}
use Rattle.wg_machine.specs.declared.launch.Record.{Record}
use Rattle.wg_slots.specs.SlotsOf.{slots_at, waiting_of}
use Rattle.wg_keep.proofs.Openings.{take_more}
use Rattle.wg_keep.proofs.records.front_records.Goals as goal

pub loop-place-preserved : goal.loop-place-preserved
loop-place-preserved c =
    let waits = waiting_of (slots_at c.args.slots.now c.args.unit) in
    let seen = c.front.result.1 in
    c.in_ok-push.ensures.ok
    ∙ ap (λ (words : List ℕ). (let r : Record = record { number = seen.number; words = words } in c.loop-place.records ++ r ∷ [])) c.in_ok-from_slice.ensures
    ∙ ap (λ (rs : List Record). (let r : Record = record { number = seen.number; words = seen.words.now } in rs ++ r ∷ [])) c.loop-place.invariant
    ∙ sym (take_more waits c.loop-place.place _ c.front.ensures.waits)
