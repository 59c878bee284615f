-- What a statement with statements inside it does, by its parts.
use Rattle.std.proofs.Common.{◌≡◌, ◌≢◌, ℕ, Bool, List, Option, if◌then◌else◌, sym, ap, ◌∙◌}
use Rattle.std.specs.Prelude.{option_map, Some, None}
use Rattle.wg_state.specs.Turns.{Done, Action, and_then, ◌>>=◌, ◌>>◌, pure}
use Rattle.wg_semantics.specs.declared.state.Flow.{Flow}
use Rattle.wg_semantics.specs.declared.state.State.{State}
use Rattle.wg_typed.specs.declared.typed_expr.TypedExpr.{TypedExpr}
use Rattle.wg_typed.specs.declared.typed_stmt.TypedAttribute.{TypedAttribute}
use Rattle.wg_typed.specs.declared.typed_stmt.TypedStart.{TypedStart}
use Rattle.wg_typed.specs.declared.typed_stmt.TypedStep.{TypedStep}
use Rattle.wg_typed.specs.declared.typed_stmt.TypedStmt.{TypedStmt}
use Rattle.wg_typed.specs.declared.typed_stmt.TypedStmt.TheVariants as stmt
use Rattle.wg_typed.specs.declared.typed_stmt.TypedStmt.TheFolds.{fold-roll-TypedStmt}
use Rattle.wg_typed.specs.declared.typed_stmt.TypedStmt.TheOpen.{TypedStmt-F}
use Rattle.wg_semantics.specs.Places.{Setting}
use Rattle.wg_semantics.specs.Calls.{Callee}
use Rattle.wg_semantics.specs.ExprMeaning.{seen, word_of, when}
use Rattle.wg_semantics.specs.StepMeaning.{steps_do, started}
use Rattle.wg_semantics.specs.StmtMeaning.{does, stmt_step, loop, test_of, maybe_else}
use Rattle.wg_machine.specs.declared.bodies.Halt.{Halt}
use Rattle.wg_meaning.specs.Flows.{begun}
use Rattle.wg_evaluation.specs.Says.{Stops}
use Rattle.wg_meaning.proofs.Loops.{is_true_at}
use Rattle.wg_meaning.proofs.Sequences.{stops_next, stops_same}

module _ (setting : Setting) (callees : List Callee) where
  abbrev run : TypedStmt → Action State Flow
  run = does setting callees

  abbrev tested : TypedExpr → Action State ℕ
  tested e = word_of setting (seen setting callees e)

  abbrev other : Option TypedStmt → Action State Flow
  other o = maybe_else (option_map run o)

  does_if : (a : List TypedAttribute) (c : Bool) (e : TypedExpr) (x : TypedStmt) (o : Option TypedStmt) → run (stmt.If a c e x o) ≡ tested e >>= (λ w. when w (run x) (other o))
  does_if a c e x None = ap run (sym (stmt.rolls-If a c e x None)) ∙ fold-roll-TypedStmt (Action State Flow) (stmt_step setting callees) (TypedStmt-F.If a c e x None)
  does_if a c e x (Some z) = ap run (sym (stmt.rolls-If a c e x (Some z))) ∙ fold-roll-TypedStmt (Action State Flow) (stmt_step setting callees) (TypedStmt-F.If a c e x (Some z))

  does_while : (a : List TypedAttribute) (e : TypedExpr) (x : TypedStmt) → run (stmt.While a e x) ≡ loop (tested e) (run x) (pure tt)
  does_while a e x = ap run (sym (stmt.rolls-While a e x)) ∙ fold-roll-TypedStmt (Action State Flow) (stmt_step setting callees) (TypedStmt-F.While a e x)

  does_for : (a : List TypedAttribute) (b : Option TypedStart) (e : Option TypedExpr) (l : List TypedStep) (x : TypedStmt) → run (stmt.For a b e l x) ≡ started setting callees b >> loop (test_of setting callees e) (run x) (steps_do setting callees l)
  does_for a b e l x = ap run (sym (stmt.rolls-For a b e l x)) ∙ fold-roll-TypedStmt (Action State Flow) (stmt_step setting callees) (TypedStmt-F.For a b e l x)

  module _ (s : TypedStmt) (st : State) (t : ℕ) (x y : TypedStmt) (same : y ≡ x) where
    module _ (a : List TypedAttribute) (c : Bool) (e : TypedExpr) (o : Option TypedStmt) (is : s ≡ stmt.If a c e x o) where
      abbrev branches : ℕ → Action State Flow
      branches w = when w (run x) (other o)

      layer : run s st t ≡ and_then (tested e st t) branches
      layer = ap (λ z. run z st t) is ∙ ap (λ (m : Action State Flow). m st t) (does_if a c e x o)

      pub if_stops : (h : Halt) → Stops (tested e st t) h → Stops (run s st t) h
      if_stops h d = stops_same _ _ h (sym layer) (stops_next (tested e st t) branches h d)

      module _ (w : ℕ) (s1 : State) (t1 : ℕ) (d : tested e st t ≡ Done w s1 t1) where
        pub if_then : w ≢ 0 → run s st t ≡ run y s1 t1
        if_then n =
            layer ∙ ap (λ r. and_then r branches) d
            ∙ ap (λ b. (if b then run x else other o) s1 t1) (is_true_at w n)
            ∙ ap (λ z. run z s1 t1) (sym same)

        pub if_else : w ≡ 0 → run s st t ≡ other o s1 t1
        if_else z = layer ∙ ap (λ r. and_then r branches) d ∙ ap (λ n. branches n s1 t1) z

  module _ (s : TypedStmt) (st : State) (t : ℕ) where
    pub while_runs : (a : List TypedAttribute) (e : TypedExpr) (x : TypedStmt) → s ≡ stmt.While a e x → run s st t ≡ loop (tested e) (run x) (pure tt) st t
    while_runs a e x is = ap (λ z. run z st t) is ∙ ap (λ (m : Action State Flow). m st t) (does_while a e x)

    pub for_runs : (a : List TypedAttribute) (b : Option TypedStart) (e : Option TypedExpr) (l : List TypedStep) (x : TypedStmt) → s ≡ stmt.For a b e l x → run s st t ≡ begun (started setting callees b) (loop (test_of setting callees e) (run x) (steps_do setting callees l)) st t
    for_runs a b e l x is = ap (λ z. run z st t) is ∙ ap (λ (m : Action State Flow). m st t) (does_for a b e l x)
