use Rattle.std.proofs.Common.{ap, ◌∙◌, subst}
use Rattle.wg_machine.specs.Agreement.{Agrees}
use Rattle.wg_machine.specs.Buffers.{Buffers, lengths_of, word_at}
use Rattle.wg_plain.proofs.Words.{read_is}
use Rattle.wg_plain.proofs.traced.TracedMemory.load.Goals as goal

pub returns-clause-value : goal.returns-clause-value
returns-clause-value c = λ start fits.
    (let old = c.args.self.now in
    let new = c.see.new.self in
    let seen = c.in_ok-see.ensures in
    read_is old.start.now start new.buffers.items old.log.items new.log.items old.writes.items c.args.buffer c.args.word c.word_in.result
    (seen.buffers ∙ old.written)
    (c.word_in.ensures ∙ ap (λ (m : Buffers). word_at m c.args.buffer c.args.word) c.as_slice.ensures.value)
    seen.log
    (subst (λ (m : Buffers). Agrees (lengths_of m) new.log.items start) seen.start fits))
