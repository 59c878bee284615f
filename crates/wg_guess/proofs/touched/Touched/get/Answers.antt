use Rattle.std.proofs.Common.{◌≡◌, ◌∙◌, ap, sym}
use Rattle.std.specs.Prelude.{Option, unwrap_or}
use Rattle.std.specs.List.{position}
use Rattle.wg_guess.specs.declared.touched.WordNow.{WordNow}
use Rattle.wg_guess.specs.declared.touched.WordNow.TheVariants.{Added}
use Rattle.wg_guess.proofs.Places.{has_place, now_first, now_more, place_found, place_missing}
use Rattle.wg_guess.proofs.touched.Touched.get.Goals as goal

pub returns-in-Some : goal.returns-in-Some
returns-in-Some c =
    let t = c.args.self.now in
    let p = c.args.place in
    let e : position (has_place p) t.first.items ≡ c.place_in.result = ap (position (has_place p)) (sym c.deref.ensures.value) ∙ sym c.place_in.ensures.at in
    sym (now_first p t.first.items t.more.entries c.index.result.now.1 (place_found p t.first.items c.in-Some.at c.index.result.now (e ∙ c.in-Some.is) c.index.ensures))

pub returns-in-None : goal.returns-in-None
returns-in-None c =
    let t = c.args.self.now in
    let p = c.args.place in
    let e : position (has_place p) t.first.items ≡ c.place_in.result = ap (position (has_place p)) (sym c.deref.ensures.value) ∙ sym c.place_in.ensures.at in
    c.unwrap_or.ensures ∙ ap (λ (o : Option WordNow). unwrap_or o (Added 0)) (c.copied.ensures ∙ c.get.ensures.value)
    ∙ sym (now_more p t.first.items t.more.entries (place_missing p t.first.items (e ∙ c.in-None.is)))
