use Rattle.std.proofs.Common.{◌≡◌, subst}
use Rattle.wg_typed.specs.Constants.{known_in, with_value, named_values}
use Rattle.wg_typed.proofs.NamedValues.{known_after}
use Rattle.wg_typed.proofs.constants.Constants.add.Goals as goal

-- src/constants.rt:36:5
pub returns-clause-ok : goal.returns-clause-ok
returns-clause-ok c = λ other. rw (← c.self.view_is) (subst (λ n. known_in (named_values c.insert.new.self.entries) other ≡ with_value (known_in (named_values c.self.inside.by_name.entries)) n c.args.value other) c.into_vec.ensures (known_after c.self.inside.by_name c.insert.new.self c.into_vec.result c.args.value c.in_ok-insert.ensures.updates other))
