use Rattle.std.proofs.Common.{◌≡◌, map, drop, Some, None, sym, subst}
use Rattle.wg_typing.specs.Named.{is_among}
use Rattle.wg_typing.specs.Scope.{name_bytes}
use Rattle.wg_scope.proofs.Own.{at_least, declared_as}
use Rattle.wg_scope.proofs.scope.Scope.declares.Goals as goal

pub returns-in-Some : goal.returns-in-Some
returns-in-Some c =
    sym (subst (λ xs. is_among (map name_bytes (drop c.args.start xs)) c.args.name.now ≡ at_least c.args.start (Some c.in-Some.at)) c.self.view_is
    (declared_as c.args.start c.args.name.now c.self.inside.entries c.self.inside.latest (Some c.in-Some.at) c.self.invariant c.in-Some.ensures))

pub returns-in-None : goal.returns-in-None
returns-in-None c =
    sym (subst (λ xs. is_among (map name_bytes (drop c.args.start xs)) c.args.name.now ≡ at_least c.args.start None) c.self.view_is
    (declared_as c.args.start c.args.name.now c.self.inside.entries c.self.inside.latest None c.self.invariant c.in-None.ensures))
