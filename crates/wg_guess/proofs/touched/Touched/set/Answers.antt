use Rattle.std.proofs.Common.{◌≡◌, ◌∙◌, ap, sym}
use Rattle.std.specs.List.{position}
use Rattle.wg_guess.proofs.Places.{has_place, set_first, set_pushed, set_more, place_replaced, place_missing}
use Rattle.wg_guess.proofs.touched.Touched.set.Goals as goal

pub returns-in-Some-clause-ok : goal.returns-in-Some-clause-ok
returns-in-Some-clause-ok c = λ q.
    (let t = c.args.self.now in
    let p = c.args.place in
    let e : position (has_place p) t.first.items ≡ c.place_in.result = ap (position (has_place p)) (sym c.deref.ensures.value) ∙ sym c.place_in.ensures.at in
    set_first p q c.args.now t.first.items _ t.more.entries (place_replaced p c.args.now q t.first.items c.in-Some.at c.index_mut.result.now (e ∙ c.in-Some.is) c.index_mut.ensures.value))

pub returns-in_ok-push-clause-ok : goal.returns-in_ok-push-clause-ok
returns-in_ok-push-clause-ok c = λ q.
    (let t = c.args.self.now in
    let p = c.args.place in
    let e : position (has_place p) t.first.items ≡ c.place_in.result = ap (position (has_place p)) (sym c.deref.ensures.value) ∙ sym c.place_in.ensures.at in
    set_pushed p q c.args.now t.first.items c.push.new.self.items t.more.entries (place_missing p t.first.items (e ∙ c.in_default.is)) c.in_ok-push.ensures.items)

pub returns-in_ok-insert-clause-ok : goal.returns-in_ok-insert-clause-ok
returns-in_ok-insert-clause-ok c = λ q.
    (let t = c.args.self.now in
    let p = c.args.place in
    let e : position (has_place p) t.first.items ≡ c.place_in.result = ap (position (has_place p)) (sym c.deref.ensures.value) ∙ sym c.place_in.ensures.at in
    set_more p q c.args.now t.first.items t.more.entries c.insert.new.self.entries (place_missing p t.first.items (e ∙ c.in_default.is)) (c.in_ok-insert.ensures.updates.0 q))
