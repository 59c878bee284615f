use Rattle.std.proofs.Common.{◌≡◌, drop}
use Rattle.wg_typing.specs.TypingForms.{field_from}
use Rattle.wg_members.proofs.members.field_of.Given as goal

abbrev pub invariant-loop-field : goal.invariant-loop-field
invariant-loop-field l = field_from l.number l.name (drop l.field-index l.fields) ≡ field_from 0 l.name l.fields
