use Rattle.std.proofs.Common.{◌≡◌, drop, not}
use Rattle.std.specs.List.{list_all}
use Rattle.wg_additive.specs.Additive.{shares_its_input}
use Rattle.wg_typed.specs.declared.typed.TypedFunction.{TypedFunction}
use Rattle.wg_touches.proofs.graphs.none_shares.Given as goal

abbrev pub invariant-loop-f : goal.invariant-loop-f
invariant-loop-f l = list_all (λ (f : TypedFunction). not (shares_its_input f)) (drop l.f-index l.functions) ≡ list_all (λ (f : TypedFunction). not (shares_its_input f)) l.functions
