use Rattle.std.proofs.Common.{ap, ◌∙◌, arith, ◌≡◌, ℕ, List, slice_set}
use Rattle.wg_machine.specs.Buffers.{buffer_at}
use Rattle.wg_plain.proofs.Grids.{at_buffer, set_twice}
use Rattle.wg_plain.proofs.traced.put.Goals as goal

pub returns : goal.returns
returns c =
    let m = c.args.buffers.now.items in
    let there : c.index_mut.result.now ≡ buffer_at m c.args.buffer = at_buffer m c.args.buffer c.index_mut.result.now (omega arith) c.index_mut.ensures.value in
    set_twice m c.args.buffer c.replace-words.new.dest c.words_with.result
    ∙ ap (λ (l : List ℕ). slice_set m c.args.buffer l) (c.words_with.ensures ∙ ap (λ (l : List ℕ). slice_set l c.args.word c.args.value) (c.replace-words.ensures.value ∙ there))
