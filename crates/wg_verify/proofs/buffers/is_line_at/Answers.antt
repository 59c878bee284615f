use Rattle.std.proofs.Common.{◌≡◌, ◌∙◌, Some, ap, sym, arith}
use Rattle.wg_machine.specs.declared.journal.BufferLine.{BufferLine}
use Rattle.wg_machine.specs.Buffers.{buffer_at}
use Rattle.wg_verify.specs.Tails.{buffer_line}
use Rattle.wg_verify.proofs.Comparing.{get_none, line_at, line_inside}
use Rattle.wg_verify.proofs.buffers.is_line_at.Goals as goal

same_some : (a b : BufferLine) → Some a ≡ Some b → b ≡ a
same_some a b h = cc

pub returns-in-Some : goal.returns-in-Some
returns-in-Some c =
    let name = c.in-Some.name.now in
    let line = c.args.line.now in
    let x : BufferLine = buffer_line name (buffer_at c.args.buffers.now c.args.place) in
    let is = line_at c.args.names.now c.args.buffers.now c.args.place name c.requires.many (sym c.in-Some.ensures.value) in (
      λ t. is ∙ ap (λ (l : BufferLine). Some l) (sym (c.is_buffer_line.ensures.0 t)),
      λ h. c.is_buffer_line.ensures.1 (same_some x line (sym is ∙ h)),
    )

pub returns-in-None : goal.returns-in-None
returns-in-None c = (
  λ t. cc,
  λ h. absurd (let inside = line_inside c.args.names.now c.args.buffers.now c.args.place c.args.line.now c.requires.many h in
      let past = get_none c.args.names.now c.args.place (sym c.in-None.ensures.value) in omega (arith, inside, past)),
)
