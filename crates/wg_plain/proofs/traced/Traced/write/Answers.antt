use Rattle.std.proofs.Common.{ap, sym, ◌∙◌}
use Rattle.wg_machine.specs.Buffers.{Buffers, written, all_written}
use Rattle.wg_plain.proofs.Words.{written_append}
use Rattle.wg_plain.proofs.traced.Traced.write.Goals as goal

pub invariant_of-self-2 : goal.invariant_of-self-2
invariant_of-self-2 c =
    let old = c.args.self.now in
    record {
      short = old.short;
      logged = old.logged;
      written = c.apply.ensures ∙ ap (λ (m : Buffers). written m c.args.write) old.written
          ∙ sym (ap (all_written old.start.now) c.in_ok-push.ensures.items ∙ written_append old.start.now old.writes.items c.args.write);
    }
