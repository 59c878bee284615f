use Rattle.std.proofs.Common.{◌≡◌, ◌++◌, ℕ, ap, refl, rules, ◌∙◌}
use Rattle.std.specs.Fmt.{decimal}
use Rattle.wg_tool.specs.declared.pair.TheConstants.{ENDS}
use Rattle.wg_tool.specs.FirstForm.{target_text}
use Rattle.wg_tool.proofs.FormLemmas.{regrouped, after_part, sending_joined, sending_after}
use Rattle.wg_tool.proofs.graph.read_sending.Goals as goal

pub returns-in_default-clause-none : goal.returns-in_default-clause-none
returns-in_default-clause-none c = λ target add more is few e.
    c.in_default.ensures.none target (decimal add ++ (ENDS.now ++ more)) is (e ∙ regrouped (target_text target) (decimal add) ENDS.now more)

pub returns-in_default-2-clause-none : goal.returns-in_default-2-clause-none
returns-in_default-2-clause-none c = λ target add more is few e.
    let h = sending_after c.args.bytes.now c.in-Some.rest.now c.in-Some.target.now target more add c.in-Some.ensures.found.0 c.in-Some.ensures.found.1 is e in
    (rw c.in_default-2.is at c.in_ok-add.ensures.none) add (ENDS.now ++ more) few refl h.1

pub returns-in_default-strip-clause-none : goal.returns-in_default-strip-clause-none
returns-in_default-strip-clause-none c = λ target add more is few e.
    let h = sending_after c.args.bytes.now c.in-Some.rest.now c.in-Some.target.now target more add c.in-Some.ensures.found.0 c.in-Some.ensures.found.1 is e in
    let word : add ≡ c.in-Some-2.add = (rw c.in-Some-2.is at c.in_ok-add.ensures.only) add (ENDS.now ++ more) few refl h.1 in
    let found : c.in-Some.rest.now ≡ decimal c.in-Some-2.add ++ c.in-Some-2.rest.now = rw c.in-Some-2.is at c.in_ok-add.ensures.found in
    c.in_default-strip.ensures.none more (after_part c.in-Some.rest.now (decimal c.in-Some-2.add) c.in-Some-2.rest.now (ENDS.now ++ more) found (h.1 ∙ ap (λ (n : ℕ). decimal n ++ (ENDS.now ++ more)) word))

pub returns-clause-found : goal.returns-clause-found
returns-clause-found c =
    let found : c.in-Some.rest.now ≡ decimal c.in-Some-2.add ++ c.in-Some-2.rest.now = rw c.in-Some-2.is at c.in_ok-add.ensures.found in
    (c.in-Some.ensures.found.0, search rules, sending_joined c.args.bytes.now c.in-Some.rest.now c.in-Some-2.rest.now c.in-Some.target.now c.in-Some-strip.rest.now c.in-Some-2.add c.in-Some.ensures.found.1 found c.in-Some-strip.ensures.found)
