use Rattle.std.proofs.Common.{◌≡◌, drop}
use Rattle.wg_typing.specs.PartSites.{all_are_typed}
use Rattle.wg_wanted.proofs.fitting.all_are_typed.Given as goal

abbrev pub invariant-loop-part : goal.invariant-loop-part
invariant-loop-part l = all_are_typed (drop l.part-index l.parts) ≡ all_are_typed l.parts
