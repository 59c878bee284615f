use Rattle.std.proofs.Common.{ap, ◌∙◌, subst, List, ℕ, ◌++◌, ◌∷◌, []}
use Rattle.wg_machine.specs.declared.memory.Seen.{Seen}
use Rattle.wg_machine.specs.declared.memory.Write.{Write}
use Rattle.wg_machine.specs.declared.memory.Write.TheVariants.{Set}
use Rattle.wg_machine.specs.Agreement.{Agrees}
use Rattle.wg_machine.specs.Buffers.{Buffers, lengths_of, word_at, with_word, all_written}
use Rattle.wg_plain.proofs.Words.{read_is, written_append}
use Rattle.wg_plain.proofs.traced.TracedMemory.interlocked.Goals as goal

pub returns-clause-exchanged : goal.returns-clause-exchanged
returns-clause-exchanged c =
    let old = c.args.self.now in
    let mid = c.see.new.self in
    let new = c.write.new.self in
    let seen = c.in_ok-see.ensures in
    let did = c.in_ok-write.ensures in
    let b = c.args.buffer in
    let w = c.args.word in
    record {
      found_is = λ start fits.
          read_is old.start.now start mid.buffers.items old.log.items mid.log.items old.writes.items b w c.word_in-found.result
          (seen.buffers ∙ old.written)
          (c.word_in-found.ensures ∙ ap (λ (m : Buffers). word_at m b w) c.as_slice.ensures.value)
          seen.log
          (subst (λ (m : Buffers). Agrees (lengths_of m) mid.log.items start) (did.start ∙ seen.start) (subst (λ (log : List Seen). Agrees (lengths_of new.start.now) log start) did.log fits));
      leaves = λ start fits.
          ap (all_written start) (did.writes ∙ ap (λ (ws : List Write). ws ++ Set b w c.exchanged.result ∷ []) seen.writes)
          ∙ written_append start old.writes.items (Set b w c.exchanged.result)
          ∙ ap (λ (v : ℕ). with_word (all_written start old.writes.items) b w v) c.exchanged.ensures;
    }
