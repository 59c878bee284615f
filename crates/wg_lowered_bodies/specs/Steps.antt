-- The code of stores, steps and declarations. Registers from one on are free; of those below only the variables' are changed. Own.
use Rattle.std.specs.Prelude.{ℕ, suc, ◌+◌, max, nat_le, Bool, true, if◌then◌else◌, List, [], ◌∷◌, ◌++◌, length, replicate, Option, Some, None}
use Rattle.std.specs.List.{list_all}
use Rattle.wg_tree.specs.declared.expr.BinaryOperator.{BinaryOperator}
use Rattle.wg_tree.specs.declared.expr.Scalar.{Scalar}
use Rattle.wg_tree.specs.declared.expr.Scalar.TheVariants as scalar
use Rattle.wg_tree.specs.declared.stmt.StepOperator.{StepOperator}
use Rattle.wg_tree.specs.declared.stmt.StepOperator.TheVariants as change
use Rattle.wg_typed.specs.Operators.{scalar_of}
use Rattle.wg_typed.specs.declared.types.TypeTree.{TypeTree}
use Rattle.wg_typed.specs.declared.typed_expr.TypedExpr.{TypedExpr}
use Rattle.wg_typed.specs.declared.typed_stmt.TypedDeclarator.{TypedDeclarator}
use Rattle.wg_typed.specs.declared.typed_stmt.TypedStart.{TypedStart}
use Rattle.wg_typed.specs.declared.typed_stmt.TypedStart.TheVariants as start
use Rattle.wg_typed.specs.declared.typed_stmt.TypedStep.{TypedStep}
use Rattle.wg_typed.specs.declared.typed_stmt.TypedStep.TheVariants as step
use Rattle.wg_code.specs.declared.op.Op.{Op}
use Rattle.wg_code.specs.declared.op.Op.TheVariants as o
use Rattle.wg_lowered.specs.declared.places.Where.{Where}
use Rattle.wg_lowered.specs.declared.places.Where.TheVariants as place
use Rattle.wg_lowered.specs.declared.places.Space.TheVariants as space
use Rattle.wg_lowered.specs.Where.{Names, Words, size, base_of, variables_end, run, each_ops, copies, fetched_at}
use Rattle.wg_lowered.specs.Exprs.{Coded, coded, value_code, value_need, converted_code, form_of, pair_ops}

-- ---- stores

-- a register's word to the first word of a place; a value is no place
abbrev pub store_op : Where → ℕ → List Op
store_op (place.Fixed at) r = o.Copy at r ∷ []
store_op (place.Held registers) r = []
store_op (place.Ranged space.Own from to index) r = o.LocalPut from to index r ∷ []
store_op (place.Ranged space.Group from to index) r = o.SharedPut from to index r ∷ []

abbrev pub next_place : Where → Where
next_place (place.Fixed at) = place.Fixed (at + 1)
next_place (place.Held registers) = place.Held registers
next_place (place.Ranged sp from to index) = place.Ranged sp (from + 1) to index

-- words to a place, one after another
abbrev pub stores : Where → List ℕ → List Op
stores w [] = []
stores w (r ∷ rest) = store_op w r ++ stores (next_place w) rest

-- whether a store to registers below the least one changes none of these before it is read: a first one is read at once
abbrev pub are_apart : ℕ → List ℕ → Bool
are_apart least [] = true
are_apart least (r ∷ rest) = list_all (nat_le least) rest

-- the same words in registers that such a store does not change before they are read
abbrev pub settled : ℕ → List ℕ → ℕ → Words
settled least registers d = if are_apart least registers then record { ops = []; at = registers } else record { ops = copies registers d; at = run d (length registers) }

abbrev pub settled_stores : Names → Where → List ℕ → ℕ → List Op
settled_stores k w registers d = let x = settled (variables_end k) registers d in x.ops ++ stores w x.at

-- ---- assignments

-- the place first, then the right side, then the store
abbrev pub assign_ops : Names → Coded → Coded → ℕ → List Op
assign_ops k target value d =
    let p = target.spot d in
    let w = value_code k value (d + target.need) in
    p.ops ++ (w.ops ++ settled_stores k p.at w.at (d + target.need + value_need k value))

abbrev pub assign_need : Names → Coded → Coded → ℕ
assign_need k target value = target.need + value_need k value + size k value.of

-- what is made of the place's words and the right side's
abbrev pub combined_code : Names → TypeTree → BinaryOperator → TypeTree → List ℕ → List ℕ → ℕ → Words
combined_code k of operator by left right d =
    let c = converted_code of by left d in
    let e = d + size k by in
    let b = converted_code by of (run e (size k by)) (e + size k by + 1) in
    record { ops = c.ops ++ (pair_ops (form_of operator (scalar_of by)) c.at right e ++ b.ops); at = b.at }

abbrev pub combined_need : Names → TypeTree → TypeTree → ℕ
combined_need k of by = size k by + size k by + 1 + size k of

-- the place first, then the right side, then the place's words
abbrev pub update_ops : Names → Coded → BinaryOperator → TypeTree → Coded → ℕ → List Op
update_ops k target operator by value d =
    let p = target.spot d in
    let e = d + target.need in
    let w = value_code k value e in
    let l = fetched_at p.at (size k target.of) (e + value_need k value) in
    let top = e + value_need k value + size k target.of in
    let c = combined_code k target.of operator by l.at w.at top in
    p.ops ++ (w.ops ++ (l.ops ++ (c.ops ++ settled_stores k p.at c.at (top + combined_need k target.of by))))

abbrev pub update_need : Names → Coded → TypeTree → Coded → ℕ
update_need k target by value = target.need + value_need k value + size k target.of + combined_need k target.of by + size k target.of

-- `++` and `--` of a word; a `bool` is made one again, for which the next register is used
abbrev pub change_number : StepOperator → ℕ
change_number change.Increment = 0
change_number change.Decrement = 1

abbrev pub change_op : StepOperator → Scalar → ℕ → ℕ → List Op
change_op operator scalar.Bool a d = o.Set d 1 ∷ o.Binary (change_number operator) d a d ∷ o.Set (suc d) 0 ∷ o.Binary 14 d (suc d) d ∷ []
change_op operator s a d = o.Set d 1 ∷ o.Binary (change_number operator) d a d ∷ []

abbrev pub change_ops : Names → Coded → StepOperator → ℕ → List Op
change_ops k target operator d =
    let p = target.spot d in
    let l = fetched_at p.at (size k target.of) (d + target.need) in
    let top = d + target.need + size k target.of in
    p.ops ++ (l.ops ++ (each_ops (change_op operator (scalar_of target.of)) l.at top ++ stores p.at (run top (size k target.of))))

abbrev pub change_need : Names → Coded → ℕ
change_need k target = target.need + size k target.of + size k target.of + 1

-- ---- steps

abbrev pub step_ops : Names → TypedStep → ℕ → List Op
step_ops k (step.Evaluate value) d = (value_code k (coded k value) d).ops
step_ops k (step.Assign target value) d = assign_ops k (coded k target) (coded k value) d
step_ops k (step.Update target operator by value) d = update_ops k (coded k target) operator by (coded k value) d
step_ops k (step.Change target operator) d = change_ops k (coded k target) operator d
step_ops k _ d = []

abbrev pub step_need : Names → TypedStep → ℕ
step_need k (step.Evaluate value) = value_need k (coded k value)
step_need k (step.Assign target value) = assign_need k (coded k target) (coded k value)
step_need k (step.Update target operator by value) = update_need k (coded k target) by (coded k value)
step_need k (step.Change target operator) = change_need k (coded k target)
step_need k _ = 0

-- each begins again at the first free register
abbrev pub steps_ops : Names → List TypedStep → ℕ → List Op
steps_ops k [] d = []
steps_ops k (s ∷ rest) d = step_ops k s d ++ steps_ops k rest d

-- ---- declarations

-- a variable without a start value becomes zeros
abbrev pub start_value_ops : Names → TypeTree → ℕ → Option TypedExpr → ℕ → List Op
start_value_ops k of variable None d = o.Set d 0 ∷ stores (place.Fixed (base_of k.variables variable)) (replicate (size k of) d)
start_value_ops k of variable (Some e) d =
    let w = value_code k (coded k e) d in
    w.ops ++ settled_stores k (place.Fixed (base_of k.variables variable)) w.at (d + value_need k (coded k e))

abbrev pub start_value_need : Names → Option TypedExpr → ℕ
start_value_need k None = 1
start_value_need k (Some e) = value_need k (coded k e) + size k (coded k e).of

abbrev pub declare_ops : Names → TypedDeclarator → ℕ → List Op
declare_ops k v d = start_value_ops k v.of v.variable v.value d

abbrev pub declares_ops : Names → List TypedDeclarator → ℕ → List Op
declares_ops k [] d = []
declares_ops k (v ∷ rest) d = declare_ops k v d ++ declares_ops k rest d

abbrev pub start_ops : Names → Option TypedStart → ℕ → List Op
start_ops k None d = []
start_ops k (Some (start.Declare declarators)) d = declares_ops k declarators d
start_ops k (Some (start.Steps steps)) d = steps_ops k steps d

-- ---- how many registers from the first free one on are used

abbrev pub steps_need : Names → List TypedStep → ℕ
steps_need k [] = 0
steps_need k (s ∷ rest) = max (step_need k s) (steps_need k rest)

abbrev pub declares_need : Names → List TypedDeclarator → ℕ
declares_need k [] = 0
declares_need k (v ∷ rest) = max (start_value_need k v.value) (declares_need k rest)

abbrev pub start_need : Names → Option TypedStart → ℕ
start_need k None = 0
start_need k (Some (start.Declare declarators)) = declares_need k declarators
start_need k (Some (start.Steps steps)) = steps_need k steps
