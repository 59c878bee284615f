-- Which statements are lowered, in a loop or outside, in a function whose result has so many words. Own.
use Rattle.std.specs.Prelude.{ℕ, Bool, true, false, ◌&&◌, nat_eq, List, [], ◌∷◌, map, Option, Some, None}
use Rattle.wg_typed.specs.declared.typed_expr.TypedExpr.{TypedExpr}
use Rattle.wg_typed.specs.declared.typed_stmt.TypedStmt.{TypedStmt}
use Rattle.wg_typed.specs.declared.typed_stmt.TypedStmt.TheFolds.{fold-TypedStmt}
use Rattle.wg_typed.specs.declared.typed_stmt.TypedStmt.TheOpen.{TypedStmt-F}
use Rattle.wg_lowered.specs.Where.{Names}
use Rattle.wg_lowered_bodies.specs.StepsFit.{value_fits, declares_fit, step_fits, steps_fit, start_fits}

abbrev pub all_fit : List (Bool → Bool) → Bool → Bool
all_fit [] looped = true
all_fit (m ∷ rest) looped = m looped && all_fit rest looped

abbrev pub maybe_fits : Option (Bool → Bool) → Bool → Bool
maybe_fits None looped = true
maybe_fits (Some m) looped = m looped

abbrev pub test_fits : Names → Option TypedExpr → Bool
test_fits k None = true
test_fits k (Some e) = value_fits k e 1

abbrev pub return_fits : Names → ℕ → Option TypedExpr → Bool
return_fits k result None = nat_eq result 0
return_fits k result (Some e) = value_fits k e result

abbrev pub stmt_step : Names → ℕ → TypedStmt-F (Bool → Bool) → Bool → Bool
stmt_step k result (TypedStmt-F.Block body) looped = all_fit body looped
stmt_step k result TypedStmt-F.Empty looped = true
stmt_step k result (TypedStmt-F.Declare declarators) looped = declares_fit k declarators
stmt_step k result (TypedStmt-F.Request handle group output element amount) looped = false
stmt_step k result (TypedStmt-F.Increment group output element amount) looped = false
stmt_step k result (TypedStmt-F.Complete handle) looped = false
stmt_step k result (TypedStmt-F.Barrier syncs) looped = true
stmt_step k result (TypedStmt-F.Step step) looped = step_fits k step
stmt_step k result TypedStmt-F.Break looped = looped
stmt_step k result TypedStmt-F.Continue looped = looped
stmt_step k result (TypedStmt-F.Return value) looped = return_fits k result value
stmt_step k result (TypedStmt-F.If attributes collective test first other) looped = value_fits k test 1 && (first looped && maybe_fits other looped)
stmt_step k result (TypedStmt-F.While attributes test body) looped = value_fits k test 1 && body true
stmt_step k result (TypedStmt-F.For attributes start test steps body) looped =
    (start_fits k start && test_fits k test) && (steps_fit k steps && body true)

abbrev pub stmt_fits : Names → ℕ → TypedStmt → Bool → Bool
stmt_fits k result = fold-TypedStmt (Bool → Bool) (stmt_step k result)

-- whether the code of a function's body is made
abbrev pub body_fits : Names → ℕ → List TypedStmt → Bool
body_fits k result body = all_fit (map (stmt_fits k result) body) false
