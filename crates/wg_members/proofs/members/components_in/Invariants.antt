use Rattle.std.proofs.Common.{◌≡◌, drop, map}
use Rattle.wg_typing.specs.Maybe.{all_of}
use Rattle.wg_typing.specs.TypingForms.{component_in}
use Rattle.wg_members.proofs.After.{after}
use Rattle.wg_members.proofs.members.components_in.Given as goal

abbrev pub invariant-loop-byte : goal.invariant-loop-byte
invariant-loop-byte l = after l.components (all_of (map (component_in l.size) (drop l.byte-index l.name))) ≡ all_of (map (component_in l.size) l.name)
