use Rattle.std.proofs.Common.{◌≡◌, ℕ, ◌+◌, ◌-◌, ◌<◌, ◌++◌, List, suc, refl, ap, sym, ◌∙◌, arith, append_assoc, rules}
use Rattle.std.specs.List.{range_with_len}
use Rattle.wg_journal.specs.Texts.{spaced, all_spaced}
use Rattle.wg_journal.proofs.write.push_outs.Goals as goal

range_more : (n count place : ℕ) → place < count → all_spaced (range_with_len (n + place) (count - place)) ≡ spaced (n + place) ++ all_spaced (range_with_len (n + (place + 1)) (count - (place + 1)))
range_more n count place h =
    let e : count - place ≡ suc (count - (place + 1)) = omega arith in
    let f : n + (place + 1) ≡ (n + place) + 1 = omega arith in
    rw (e, f) refl

pub loop-place-preserved : goal.loop-place-preserved
loop-place-preserved c =
    let line = c.loop-place.line.items in
    let n = c.args.first in
    let place = c.loop-place.place in
    let number : c.from.result ≡ place = search rules in
    let rest = all_spaced (range_with_len (n + (place + 1)) (c.args.count - (place + 1))) in
    ap (λ (t : List ℕ). t ++ rest) (c.in_ok-push_spaced.ensures)
    ∙ (ap (λ (k : ℕ). line ++ spaced (n + k) ++ rest) number
    ∙ append_assoc line (spaced (n + place)) rest
    ∙ ap (λ (t : List ℕ). line ++ t) (sym (range_more n c.args.count place c.loop-place-test.true))
    ∙ c.loop-place.invariant)
