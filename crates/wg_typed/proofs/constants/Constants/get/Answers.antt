use Rattle.std.proofs.Common.{sym}
use Rattle.wg_typed.proofs.NamedValues.{known_lookup}
use Rattle.wg_typed.proofs.constants.Constants.get.Goals as goal

-- src/constants.rt:45:5
pub returns : goal.returns
returns c = rw (c.copied.ensures, c.get.ensures.value, ← c.self.view_is) (sym (known_lookup c.self.inside.by_name.entries c.args.name.now))
