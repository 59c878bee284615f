-- The code of statements, in a loop and outside: a fold over one layer. The first register that is no variable's is a flag, 1 once the
-- function has returned; then stand its result's words, and then the free registers. In a loop a return leaves the loop; outside, each
-- statement after one that may return stands behind the flag. So blocks nest no deeper than statements. Own.
use Rattle.std.specs.Prelude.{ℕ, ◌+◌, max, Bool, true, false, List, [], ◌∷◌, ◌++◌, map, Option, Some, None}
use Rattle.wg_typed.specs.declared.typed_expr.TypedExpr.{TypedExpr}
use Rattle.wg_typed.specs.declared.typed_stmt.TypedStmt.{TypedStmt}
use Rattle.wg_typed.specs.declared.typed_stmt.TypedStmt.TheFolds.{fold-TypedStmt}
use Rattle.wg_typed.specs.declared.typed_stmt.TypedStmt.TheOpen.{TypedStmt-F}
use Rattle.wg_code.specs.declared.op.Op.{Op}
use Rattle.wg_code.specs.declared.op.Op.TheVariants as o
use Rattle.wg_lowered.specs.Where.{Names, Words, size, variables_end, copies}
use Rattle.wg_lowered.specs.Exprs.{coded, value_code, value_need, first_of}
use Rattle.wg_lowered_bodies.specs.Steps.{settled, declares_ops, declares_need, step_ops, step_need, steps_ops, steps_need, start_ops, start_need}

abbrev pub flag_of : Names → ℕ
flag_of k = variables_end k

abbrev pub results_of : Names → ℕ
results_of k = variables_end k + 1

-- the first free register of a function whose result has so many words
abbrev pub free_of : Names → ℕ → ℕ
free_of k result = variables_end k + 1 + result

-- a statement's code, in a loop or outside; whether it has a `return`; and how many free registers it uses
pub record Placed : Type 0 where
  pub returns : Bool
  pub need : ℕ
  pub code : Bool → List Op

-- passed over once the function has returned
abbrev pub behind : ℕ → Bool → List Op → List Op
behind flag true ops = o.If flag [] ops ∷ []
behind flag false ops = ops

abbrev pub either : Bool → Bool → Bool
either true b = true
either false b = b

abbrev pub looped_code : List Placed → List Op
looped_code [] = []
looped_code (m ∷ rest) = m.code true ++ looped_code rest

-- outside loops, where a statement before may have returned or none
abbrev pub straight_code : ℕ → Bool → List Placed → List Op
straight_code flag seen [] = []
straight_code flag seen (m ∷ rest) = behind flag seen (m.code false) ++ straight_code flag (either seen m.returns) rest

abbrev pub block_code : ℕ → List Placed → Bool → List Op
block_code flag body true = looped_code body
block_code flag body false = straight_code flag false body

abbrev pub any_returns : List Placed → Bool
any_returns [] = false
any_returns (m ∷ rest) = either m.returns (any_returns rest)

abbrev pub all_need : List Placed → ℕ
all_need [] = 0
all_need (m ∷ rest) = max m.need (all_need rest)

-- ---- returns

abbrev pub leave : Bool → List Op
leave true = o.Break ∷ []
leave false = []

-- the result's words, the flag, and then out of the loop
abbrev pub return_ops : Names → ℕ → Option TypedExpr → Bool → List Op
return_ops k d None looped = o.Set (flag_of k) 1 ∷ leave looped
return_ops k d (Some e) looped =
    let w = value_code k (coded k e) d in
    let x = settled d w.at (d + value_need k (coded k e)) in
    w.ops ++ (x.ops ++ (copies x.at (results_of k) ++ o.Set (flag_of k) 1 ∷ leave looped))

abbrev pub return_need : Names → Option TypedExpr → ℕ
return_need k None = 0
return_need k (Some e) = value_need k (coded k e) + size k (coded k e).of

-- ---- loops

-- after a loop whose body returns, in another one
abbrev pub left : ℕ → Bool → Bool → List Op
left flag true true = o.If flag (o.Break ∷ []) [] ∷ []
left flag true false = []
left flag false looped = []

abbrev pub test_code : Names → Option TypedExpr → ℕ → Words
test_code k None d = record { ops = o.Set d 1 ∷ []; at = d ∷ [] }
test_code k (Some e) d = value_code k (coded k e) d

abbrev pub test_need : Names → Option TypedExpr → ℕ
test_need k None = 1
test_need k (Some e) = value_need k (coded k e)

abbrev pub loop_code : Names → ℕ → Option TypedExpr → Placed → List Op → Bool → List Op
loop_code k d test body steps looped =
    let w = test_code k test d in
    o.Loop w.ops (first_of w.at) (body.code true) steps ∷ left (flag_of k) body.returns looped

-- ---- one layer

abbrev pub nothing : Placed
nothing = record { returns = false; need = 0; code = λ looped. [] }

abbrev pub maybe : Option Placed → Placed
maybe None = nothing
maybe (Some p) = p

abbrev pub stmt_step : Names → ℕ → TypedStmt-F Placed → Placed
stmt_step k result (TypedStmt-F.Block body) = record { returns = any_returns body; need = all_need body; code = block_code (flag_of k) body }
stmt_step k result TypedStmt-F.Empty = nothing
stmt_step k result (TypedStmt-F.Declare declarators) =
    record { returns = false; need = declares_need k declarators; code = λ looped. declares_ops k declarators (free_of k result) }
stmt_step k result (TypedStmt-F.Request handle group output element amount) = nothing
stmt_step k result (TypedStmt-F.Increment group output element amount) = nothing
stmt_step k result (TypedStmt-F.Complete handle) = nothing
stmt_step k result (TypedStmt-F.Barrier syncs) = nothing
stmt_step k result (TypedStmt-F.Step step) =
    record { returns = false; need = step_need k step; code = λ looped. step_ops k step (free_of k result) }
stmt_step k result TypedStmt-F.Break = record { returns = false; need = 0; code = λ looped. o.Break ∷ [] }
stmt_step k result TypedStmt-F.Continue = record { returns = false; need = 0; code = λ looped. o.Continue ∷ [] }
stmt_step k result (TypedStmt-F.Return value) =
    record { returns = true; need = return_need k value; code = return_ops k (free_of k result) value }
stmt_step k result (TypedStmt-F.If attributes collective test first other) = record {
  returns = either first.returns (maybe other).returns;
  need = max (test_need k (Some test)) (max first.need (maybe other).need);
  code = λ looped.
      let w = test_code k (Some test) (free_of k result) in
      w.ops ++ o.If (first_of w.at) (first.code looped) ((maybe other).code looped) ∷ [];
}
stmt_step k result (TypedStmt-F.While attributes test body) = record {
  returns = body.returns;
  need = max (test_need k (Some test)) body.need;
  code = loop_code k (free_of k result) (Some test) body [];
}
stmt_step k result (TypedStmt-F.For attributes start test steps body) = record {
  returns = body.returns;
  need = max (max (start_need k start) (test_need k test)) (max (steps_need k steps) body.need);
  code = λ looped. start_ops k start (free_of k result) ++ loop_code k (free_of k result) test body (steps_ops k steps (free_of k result)) looped;
}

abbrev pub placed : Names → ℕ → TypedStmt → Placed
placed k result = fold-TypedStmt Placed (stmt_step k result)

-- ---- the body of a function whose result has so many words

abbrev pub body_code : Names → ℕ → List TypedStmt → List Op
body_code k result body = straight_code (flag_of k) false (map (placed k result) body)

abbrev pub body_need : Names → ℕ → List TypedStmt → ℕ
body_need k result body = all_need (map (placed k result) body)
