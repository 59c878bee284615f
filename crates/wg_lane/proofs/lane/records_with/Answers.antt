use Rattle.std.proofs.Common.{◌≡◌, length, refl, ap, sym, ◌∙◌}
use Rattle.std.specs.Prelude.{slice_get, Some, None}
use Rattle.std.proofs.lemmas.Option.{slice_get_read, slice_get_past}
use Rattle.wg_lane.proofs.Frames.{with_none, with_next, with_past}
use Rattle.wg_lane.proofs.lane.records_with.Goals as goal

pub loop-words-init : goal.loop-words-init
loop-words-init c = c.new-list.ensures ∙ sym (with_none c.args.records.now)

pub loop-words-preserved-in-Continue-1 : goal.loop-words-preserved-in-Continue-1
loop-words-preserved-in-Continue-1 c =
    let records = c.args.records.now in
    let r = c.in-Some-get.record.now in
    let there : slice_get records c.len.result ≡ Some r = slice_get_read records (length records) c.len.result r refl c.in-Some-get.ensures.lookup.3.0 c.in-Some-get.ensures.lookup.1 in
    let here : slice_get records (length c.loop-words.list) ≡ Some r = ap (λ n. slice_get records n) (sym c.len.ensures) ∙ there in
    c.in_ok-push-in-Some-get.ensures.ok ∙ with_next records c.loop-words.list c.loop-words.yielded c.in-Some.words r c.loop-words.invariant here

pub loop-words-preserved : goal.loop-words-preserved
loop-words-preserved c =
    let records = c.args.records.now in
    let past : slice_get records c.len.result ≡ None = slice_get_past records c.len.result c.in-None-get.ensures.lookup.3 in
    let here : slice_get records (length c.loop-words.list) ≡ None = ap (λ n. slice_get records n) (sym c.len.ensures) ∙ past in
    with_past records c.loop-words.list c.loop-words.yielded _ c.loop-words.invariant here
