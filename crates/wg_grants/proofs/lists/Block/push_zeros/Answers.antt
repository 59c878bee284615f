use Rattle.std.proofs.Common.{◌++◌, ◌∷◌, [], List, ℕ, length, sym, ap, ◌∙◌}
use Rattle.std.proofs.lemmas.List.{length-replicate}
use Rattle.std.proofs.lemmas.Result.{err_from_is_err_and}
use Rattle.wg_state.specs.WordLists.{zeros}
use Rattle.wg_grants.proofs.Parts.{same_lie, same_view, new_lie, new_view}
use Rattle.wg_grants.proofs.lists.Block.push_zeros.Goals as goal

pub invariant_of-self-in_err-push : goal.invariant_of-self-in_err-push
invariant_of-self-in_err-push c =
    same_lie c.self.inside.spans.items c.push.new.self.items c.self.inside.words.items c.extend.new.words.items (zeros c.args.count) c.self.invariant c.in_ok-extend.ensures.ok c.in_err-push.ensures.items

pub returns-in_err-push-clause-err : goal.returns-in_err-push-clause-err
returns-in_err-push-clause-err c =
    let p = err_from_is_err_and c.from_residual-in_err-push.result c.from_residual-in_err-push.ensures.1 in
    rw (p.1) (same_view c.self.inside.spans.items c.push.new.self.items c.self.inside.words.items c.extend.new.words.items (zeros c.args.count) c.self.invariant c.in_ok-extend.ensures.ok c.in_err-push.ensures.items ∙ c.self.view_is)

pub invariant_of-self-2 : goal.invariant_of-self-2
invariant_of-self-2 c =
    new_lie c.self.inside.spans.items c.push.new.self.items c.self.inside.words.items c.extend.new.words.items (zeros c.args.count) c.self.invariant c.in_ok-extend.ensures.ok
    (record { first = length c.as_slice-first.result.now; count = c.args.count }) (ap (λ (l : List ℕ). length l) c.as_slice-first.ensures.value) (sym (length-replicate {A = ℕ} c.args.count 0)) c.in_ok-push.ensures.items

pub returns-clause-ok : goal.returns-clause-ok
returns-clause-ok c =
    new_view c.self.inside.spans.items c.push.new.self.items c.self.inside.words.items c.extend.new.words.items (zeros c.args.count) c.self.invariant c.in_ok-extend.ensures.ok
    (record { first = length c.as_slice-first.result.now; count = c.args.count }) (ap (λ (l : List ℕ). length l) c.as_slice-first.ensures.value) (sym (length-replicate {A = ℕ} c.args.count 0)) c.in_ok-push.ensures.items
    ∙ ap (λ (l : List (List ℕ)). l ++ zeros c.args.count ∷ []) c.self.view_is
