use Rattle.std.proofs.Common.{◌≡◌, None, sym, ap, subst, ◌∙◌}
use Rattle.std.specs.Prelude.{option_map, slice_get}
use Rattle.std.specs.Option.{option_copied}
use Rattle.wg_typing.specs.Scope.{look}
use Rattle.wg_scope.specs.declared.scope.Entry.{Entry}
use Rattle.wg_scope.proofs.Places.{look_none, look_at}
use Rattle.wg_scope.proofs.scope.Scope.look.Goals as goal

pub returns-in_err-at : goal.returns-in_err-at
returns-in_err-at c =
    ap option_copied c.from_residual.ensures
    ∙ sym (subst (λ xs. look c.args.name.now xs ≡ None) c.self.view_is (look_none c.args.name.now c.self.inside.entries c.self.inside.latest c.self.invariant (sym c.known.ensures ∙ c.in_err-at.was)))

pub returns : goal.returns
returns c =
    c.meant_at.ensures
    ∙ sym (subst (λ xs. look c.args.name.now xs ≡ option_map (λ (e : Entry). e.declared.meant) (slice_get c.self.inside.entries c.in_ok-at.at)) c.self.view_is (look_at c.args.name.now c.self.inside.entries c.self.inside.latest c.in_ok-at.at c.self.invariant (sym c.known.ensures ∙ c.in_ok-at.was)))
