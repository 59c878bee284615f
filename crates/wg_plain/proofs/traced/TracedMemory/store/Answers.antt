use Rattle.std.proofs.Common.{ap, ◌∙◌}
use Rattle.wg_machine.specs.declared.memory.Write.TheVariants.{Set}
use Rattle.wg_machine.specs.Buffers.{all_written}
use Rattle.wg_plain.proofs.Words.{written_append}
use Rattle.wg_plain.proofs.traced.TracedMemory.store.Goals as goal

pub returns-clause-written : goal.returns-clause-written
returns-clause-written c = λ start fits. ap (all_written start) c.in_ok-write.ensures.writes ∙ written_append start c.args.self.now.writes.items (Set c.args.buffer c.args.word c.args.value)
