use Rattle.std.proofs.Common.{◌≢◌, ◌++◌, [], ℕ, List, ap, sym, ◌∙◌, arith, rules, append_assoc}
use Rattle.std.proofs.lemmas.List.{length_push}
use Rattle.wg_tool.specs.FirstForm.{pair_text, pairs_text, IsGoodPair}
use Rattle.wg_tool.proofs.FormLemmas.{pairs_text_push, each_push, only_more, first_pair}
use Rattle.wg_tool.proofs.graph.read_pairs.Goals as goal

pub returns-in_default-clause-none : goal.returns-in_default-clause-none
returns-in_default-clause-none c = λ pairs good few e.
    let h = c.loop-rest.invariant.only pairs good e in
    let some : c.loop-rest.rest.now ≢ [] = search rules in
    let first = first_pair c.loop-rest.rest.now h.0 some h.2 h.3 in
    (rw c.in_default.is at c.in_ok-pair.ensures.none) first.0 first.1 first.2 first.3

pub loop-rest-preserved : goal.loop-rest-preserved
loop-rest-preserved c =
    let rest = c.loop-rest.rest.now in
    let k = c.loop-rest.invariant in
    let pairs = c.loop-rest.pairs.items in
    let pair = c.in-Some.pair in
    let some : rest ≢ [] = search rules in
    let f = rw c.in-Some.is at c.in_ok-pair.ensures.found in
    record {
      so_far = rw (c.in_ok-push.ensures.items, pairs_text_push) (k.so_far ∙ (ap (λ (t : List ℕ). pairs_text pairs ++ t) f.1 ∙ sym (append_assoc (pairs_text pairs) (pair_text pair) c.in-Some.after.now)));
      good = rw c.in_ok-push.ensures.items (each_push IsGoodPair pairs pair k.good f.0);
      few = rw c.in_ok-push.ensures.items (omega (arith, length_push pairs pair, c.len.ensures, c.loop-rest.pairs.ok.0, c.if-len-eq-MOST_PAIRS.false, k.few));
      only = λ ps good e.
          let h = k.only ps good e in
          rw c.in_ok-push.ensures.items (only_more rest c.in-Some.after.now pairs ps pair f.0 some f.1 h.0 h.1 h.2 h.3);
    }
