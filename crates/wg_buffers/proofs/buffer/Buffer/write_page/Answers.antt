use Rattle.std.proofs.Common.{ℕ, List, sym, ◌∙◌, ap, arith}
use Rattle.wg_buffers.specs.Pages.{buffer_written}
use Rattle.wg_buffers.proofs.Joining.{stored_page, stored_pages, all_past}
use Rattle.wg_buffers.proofs.buffer.Buffer.write_page.Goals as goal

pub invariant_of-self : goal.invariant_of-self
invariant_of-self c =
    stored_pages c.self.inside.pages.items c.self.inside.size c.args.page c.args.writes.now c.index_mut.result.now c.write_all.new.self c.self.invariant
    (omega (arith, c.if-place-len.true, c.len.ensures)) c.index_mut.ensures.value c.in_ok-write_all.ensures.ok

pub returns-in_ok-write_all-clause-ok : goal.returns-in_ok-write_all-clause-ok
returns-in_ok-write_all-clause-ok c =
    stored_page c.self.inside.pages.items c.self.inside.size c.args.page c.args.writes.now c.index_mut.result.now c.write_all.new.self c.self.invariant
    (omega (arith, c.if-place-len.true, c.len.ensures)) c.requires c.index_mut.ensures.value c.in_ok-write_all.ensures.ok
    ∙ ap (λ (xs : List ℕ). buffer_written xs c.args.writes.now) c.self.view_is

pub returns-else-place-len-clause-ok : goal.returns-else-place-len-clause-ok
returns-else-place-len-clause-ok c =
    let past = all_past c.args.writes.now c.self.inside.pages.items c.self.inside.size c.args.page c.self.invariant (omega (arith, c.if-place-len.false, c.len.ensures)) c.requires in
    sym c.self.view_is ∙ sym past ∙ ap (λ (xs : List ℕ). buffer_written xs c.args.writes.now) c.self.view_is
