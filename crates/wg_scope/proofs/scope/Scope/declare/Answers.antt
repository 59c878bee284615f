use Rattle.std.proofs.Common.{[], ◌∷◌, ◌++◌, ap, ◌∙◌}
use Rattle.wg_scope.specs.Latest.{declared_in}
use Rattle.wg_scope.proofs.Places.{declare_agrees, declared_in-push}
use Rattle.wg_scope.proofs.scope.Scope.declare.Goals as goal

pub invariant_of-self-in-Ok : goal.invariant_of-self-in-Ok
invariant_of-self-in-Ok c =
    declare_agrees c.self.inside.entries (record { declared = record { name = c.args.name; meant = c.args.meant }; earlier = c.known-earlier.result }) c.push.new.self c.self.inside.latest c.insert.new.self c.into_vec.result.items c.as_slice.result.now c.len-at.result
    c.self.invariant c.in_ok-push.ensures.ok c.as_slice.ensures c.known-earlier.ensures (c.into_vec.ensures ∙ c.in_ok-key.ensures) c.len-at.ensures c.in-Ok.ensures.ok

pub returns-in-Ok : goal.returns-in-Ok
returns-in-Ok c =
    ap declared_in c.in_ok-push.ensures.ok
    ∙ (declared_in-push c.self.inside.entries (record { declared = record { name = c.args.name; meant = c.args.meant }; earlier = c.known-earlier.result })
    ∙ ap (λ xs. xs ++ record { name = c.args.name; meant = c.args.meant } ∷ []) c.self.view_is)
