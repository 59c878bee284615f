use Rattle.std.proofs.Common.{◌≡◌, ◌∙◌, ℕ, ap, arith, length}
use Rattle.wg_store.specs.Items.{item_of}
use Rattle.wg_entries.proofs.Arrivals.{made_more, sent_few}
use Rattle.wg_entries.proofs.waiting.items_of.Goals as goal

pub new-requires : goal.new-requires
new-requires c = sent_few c.args.shape.now c.in-Some.sent c.requires

pub loop-sent-preserved : goal.loop-sent-preserved
loop-sent-preserved c =
    let counted = c.len-number.ensures in
    let long = c.loop-sent.items.ok in
    let number : c.len-number.result ≡ length c.loop-sent.items.items = omega (arith, counted, long) in
    made_more c.args.shape.now c.loop-sent.yielded c.in-Some.sent c.loop-sent.items.items c.push.new.self.items c.new.result c.loop-sent.invariant
    (c.new.ensures ∙ ap (λ (m : ℕ). item_of c.args.shape.now m c.in-Some.sent) number) c.in_ok-push.ensures.items
