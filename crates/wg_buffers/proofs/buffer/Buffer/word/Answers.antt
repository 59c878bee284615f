use Rattle.std.proofs.Common.{ℕ, List, slice_index, sym, ◌∙◌, ap, arith}
use Rattle.std.proofs.lemmas.List.{get_or_past}
use Rattle.wg_buffers.specs.Pages.{joined}
use Rattle.wg_buffers.proofs.Joining.{length-joined, read_word}
use Rattle.wg_buffers.proofs.buffer.Buffer.word.Goals as goal

pub returns-then-word-self : goal.returns-then-word-self
returns-then-word-self c =
    c.word.ensures
    ∙ read_word c.self.inside.pages.items c.self.inside.size c.args.word c.index-page.result.now c.self.invariant c.if-word-self.true c.index-page.ensures
    ∙ ap (λ (xs : List ℕ). slice_index xs c.args.word) c.self.view_is

pub returns-else-word-self : goal.returns-else-word-self
returns-else-word-self c =
    let size = length-joined c.self.inside.pages.items c.self.inside.size c.self.invariant.whole c.self.invariant.enough in
    sym (get_or_past (joined c.self.inside.pages.items c.self.inside.size) c.args.word 0 (omega (arith, size, c.if-word-self.false)))
    ∙ ap (λ (xs : List ℕ). slice_index xs c.args.word) c.self.view_is
