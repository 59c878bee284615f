use Rattle.std.proofs.Common.{length, sym, ◌∙◌, ap}
use Rattle.wg_buffers.proofs.Joining.{length-joined}
use Rattle.wg_buffers.proofs.buffer.Buffer.len.Goals as goal

pub returns : goal.returns
returns c =
    sym (length-joined c.self.inside.pages.items c.self.inside.size c.self.invariant.whole c.self.invariant.enough) ∙ ap length c.self.view_is
