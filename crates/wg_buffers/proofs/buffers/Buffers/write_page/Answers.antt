use Rattle.std.proofs.Common.{sym, ◌∙◌, ap, arith}
use Rattle.wg_machine.specs.Buffers.{Buffers as BuffersOf, all_written}
use Rattle.wg_buffers.proofs.Placing.{stored_buffer, all_to_none}
use Rattle.wg_buffers.proofs.buffers.Buffers.write_page.Goals as goal

pub returns-in_ok-write_page-clause-ok : goal.returns-in_ok-write_page-clause-ok
returns-in_ok-write_page-clause-ok c =
    stored_buffer c.args.writes.now c.self.inside.buffers.items c.args.place c.index_mut.result.now c.write_page.new.self c.requires
    (omega (arith, c.if-buffer-len.true, c.len.ensures)) c.index_mut.ensures.value c.in_ok-write_page.ensures.ok
    ∙ ap (λ (bs : BuffersOf). all_written bs c.args.writes.now) c.self.view_is

pub returns-else-buffer-len-clause-ok : goal.returns-else-buffer-len-clause-ok
returns-else-buffer-len-clause-ok c =
    sym c.self.view_is ∙ sym (all_to_none c.args.writes.now c.self.inside.buffers.items c.args.place c.requires (omega (arith, c.if-buffer-len.false, c.len.ensures)))
    ∙ ap (λ (bs : BuffersOf). all_written bs c.args.writes.now) c.self.view_is
