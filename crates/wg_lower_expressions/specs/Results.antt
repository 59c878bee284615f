-- Parts of an expression's code as the program makes them.
use Rattle.std.specs.Prelude.{ℕ, ◌+◌, ◌++◌, List}
use Rattle.wg_tree.specs.declared.expr.BinaryOperator.{BinaryOperator}
use Rattle.wg_typed.specs.Operators.{scalar_of}
use Rattle.wg_typed.specs.declared.types.TypeTree.{TypeTree}
use Rattle.wg_lowered.specs.Exprs.{Coded, value_code, value_need, pair_ops, form_of}
use Rattle.wg_lowered.specs.Where.{Names, Words, run, size}

-- the code of an operator that takes both of its sides
abbrev pub reckoned_code : Names → BinaryOperator → TypeTree → Coded → List ℕ → ℕ → Words
reckoned_code k operator t e registers d =
    let w = value_code k e d in
    record { ops = w.ops ++ pair_ops (form_of operator (scalar_of t)) registers w.at (d + value_need k e); at = run (d + value_need k e) (size k e.of) }
