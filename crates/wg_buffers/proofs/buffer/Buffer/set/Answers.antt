use Rattle.std.proofs.Common.{ℕ, List, slice_set, sym, ◌∙◌, ap, arith}
use Rattle.std.proofs.lemmas.List.{set_past}
use Rattle.wg_buffers.specs.Pages.{joined}
use Rattle.wg_buffers.proofs.Joining.{length-joined, stored_word}
use Rattle.wg_buffers.proofs.buffer.Buffer.set.Goals as goal

pub returns-in_ok-set-clause-ok : goal.returns-in_ok-set-clause-ok
returns-in_ok-set-clause-ok c =
    stored_word c.self.inside.pages.items c.self.inside.size c.args.word c.args.value c.index_mut-page.result.now c.set.new.self c.self.invariant
    c.if-word-self.true c.index_mut-page.ensures.value c.in_ok-set.ensures.ok
    ∙ ap (λ (xs : List ℕ). slice_set xs c.args.word c.args.value) c.self.view_is

pub returns-else-word-self-clause-ok : goal.returns-else-word-self-clause-ok
returns-else-word-self-clause-ok c =
    let words = joined c.self.inside.pages.items c.self.inside.size in
    let size = length-joined c.self.inside.pages.items c.self.inside.size c.self.invariant.whole c.self.invariant.enough in
    sym c.self.view_is ∙ sym (set_past words c.args.word c.args.value (omega (arith, size, c.if-word-self.false)))
    ∙ ap (λ (xs : List ℕ). slice_set xs c.args.word c.args.value) c.self.view_is
