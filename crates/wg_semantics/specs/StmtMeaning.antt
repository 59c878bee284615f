-- What a statement does: a fold over one layer of the typed tree into steps of a lane that end in some way.
use Rattle.std.specs.Prelude.{ℕ, zero, suc, Bool, false, if◌then◌else◌, ◌==◌, List, [], ◌∷◌, map, slice_get, Option, Some, None}
use Rattle.wg_state.specs.Turns.{Action, Spent, ◌>>=◌, ◌>>◌, pure, turn, read, change}
use Rattle.wg_semantics.specs.declared.state.State.{State}
use Rattle.wg_semantics.specs.declared.state.Flow.{Flow}
use Rattle.wg_semantics.specs.declared.state.Flow.TheVariants as flow
use Rattle.wg_typed.specs.declared.typed_expr.TypedExpr.{TypedExpr}
use Rattle.wg_typed.specs.declared.typed_stmt.TypedStmt.{TypedStmt}
use Rattle.wg_typed.specs.declared.typed_stmt.TypedStmt.TheFolds.{fold-TypedStmt}
use Rattle.wg_typed.specs.declared.typed_stmt.TypedStmt.TheOpen.{TypedStmt-F}
use Rattle.wg_typed.specs.declared.typed.TypedHandle.{TypedHandle}
use Rattle.wg_semantics.specs.Places.{Setting, in_world, grant_of}
use Rattle.wg_state.specs.Requests.{requested, closed}
use Rattle.wg_semantics.specs.Calls.{Callee, value_of}
use Rattle.wg_semantics.specs.ExprMeaning.{seen, word_of, when}
use Rattle.wg_semantics.specs.StepMeaning.{step_does, steps_do, all_declared, started, maybe_word}

-- ---- one after another

-- what follows a statement
abbrev pub then_go : Flow → Action State Flow → Action State Flow
then_go flow.Next rest = rest
then_go flow.Broke rest = pure flow.Broke
then_go flow.Continued rest = pure flow.Continued
then_go (flow.Returned words) rest = pure (flow.Returned words)

-- until one leaves the block
abbrev pub block : List (Action State Flow) → Action State Flow
block [] = pure flow.Next
block (m ∷ rest) = m >>= (λ end. then_go end (block rest))

abbrev pub on : Action State (Unit {0}) → Action State Flow
on m = m >> pure flow.Next

-- ---- loops

-- what follows a loop's body
abbrev pub after_body : Flow → Action State Flow → Action State Flow
after_body flow.Next again = again
after_body flow.Continued again = again
after_body flow.Broke again = pure flow.Next
after_body (flow.Returned words) again = pure (flow.Returned words)

-- a loop that enters its body fewer times than the bound
abbrev pub loop_below : ℕ → Action State ℕ → Action State Flow → Action State (Unit {0}) → Action State Flow
loop_below zero test body steps = λ s t. Spent
loop_below (suc bound) test body steps = do
  go ← test
  when go (turn >> body >>= (λ end. after_body end (steps >> loop_below bound test body steps))) (pure flow.Next)

-- Each body entered takes one of the turns left, so the bound is never met.
abbrev pub loop : Action State ℕ → Action State Flow → Action State (Unit {0}) → Action State Flow
loop test body steps = λ s t. loop_below (suc t) test body steps s t

-- a `for` without a condition goes on
abbrev pub test_of : Setting → List Callee → Option TypedExpr → Action State ℕ
test_of setting callees None = pure 1
test_of setting callees (Some e) = word_of setting (seen setting callees e)

-- ---- collective statements

-- a group request, a group increment and the `OutputComplete` of a group handle are lane 0's alone
abbrev pub of_group : Setting → Bool → Action State (Unit {0}) → Action State (Unit {0})
of_group setting group m = if group then (if setting.lane == 0 then m else pure tt) else m

abbrev pub is_group_handle : Setting → ℕ → Bool
is_group_handle setting handle = group_in (slice_get setting.handles handle)
  where
    group_in : Option TypedHandle → Bool
    group_in None = false
    group_in (Some h) = h.group

-- the element first, then the number
abbrev pub asks : Setting → List Callee → Option ℕ → ℕ → Option TypedExpr → TypedExpr → Action State (Unit {0})
asks setting callees handle output element amount = do
  at ← maybe_word setting callees element
  n ← word_of setting (seen setting callees amount)
  change (in_world (requested setting.outputs (record { handle = handle; lane = setting.lane; output = output; element = at; amount = n })))

abbrev pub completes : Setting → ℕ → Action State (Unit {0})
completes setting handle = do
  grant ← read (grant_of setting handle)
  change (in_world (closed grant))

-- ---- one layer of the tree

abbrev pub maybe_else : Option (Action State Flow) → Action State Flow
maybe_else None = pure flow.Next
maybe_else (Some m) = m

abbrev pub returned : Setting → List Callee → Option TypedExpr → Action State Flow
returned setting callees None = pure (flow.Returned [])
returned setting callees (Some e) = do
  words ← value_of setting.structs (seen setting callees e)
  pure (flow.Returned words)

-- A barrier orders nothing that is not in order, since the lanes of a phase run one after another.
abbrev pub stmt_step : Setting → List Callee → TypedStmt-F (Action State Flow) → Action State Flow
stmt_step setting callees (TypedStmt-F.Block body) = block body
stmt_step setting callees TypedStmt-F.Empty = pure flow.Next
stmt_step setting callees (TypedStmt-F.Declare declarators) = on (all_declared setting callees declarators)
stmt_step setting callees (TypedStmt-F.Request handle group output element amount) =
    on (of_group setting group (asks setting callees (Some handle) output element amount))
stmt_step setting callees (TypedStmt-F.Increment group output element amount) =
    on (of_group setting group (asks setting callees None output element amount))
stmt_step setting callees (TypedStmt-F.Complete handle) =
    on (of_group setting (is_group_handle setting handle) (completes setting handle))
stmt_step setting callees (TypedStmt-F.Barrier syncs) = pure flow.Next
stmt_step setting callees (TypedStmt-F.Step step) = on (step_does setting callees step)
stmt_step setting callees TypedStmt-F.Break = pure flow.Broke
stmt_step setting callees TypedStmt-F.Continue = pure flow.Continued
stmt_step setting callees (TypedStmt-F.Return value) = returned setting callees value
stmt_step setting callees (TypedStmt-F.If attributes collective test first other) = do
  c ← word_of setting (seen setting callees test)
  when c first (maybe_else other)
stmt_step setting callees (TypedStmt-F.While attributes test body) =
    loop (word_of setting (seen setting callees test)) body (pure tt)
stmt_step setting callees (TypedStmt-F.For attributes start test steps body) =
    started setting callees start >> loop (test_of setting callees test) body (steps_do setting callees steps)

abbrev pub does : Setting → List Callee → TypedStmt → Action State Flow
does setting callees = fold-TypedStmt (Action State Flow) (stmt_step setting callees)

abbrev pub body_does : Setting → List Callee → List TypedStmt → Action State Flow
body_does setting callees body = block (map (does setting callees) body)
