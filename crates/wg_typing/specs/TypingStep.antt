-- The typed form of a step, as a statement and in the header of a `for` (HLSL Shader Model 6.8, statements; collective statements are own).
use Rattle.std.specs.Prelude.{ℕ, ◌==◌, Bool, true, false, not, ◌||◌, List, [], ◌∷◌, ◌++◌, Option, Some, None}
use Rattle.wg_words.specs.Maybe.{◌>>=◌}
use Rattle.wg_typing.specs.Maybe.{where_true}
use Rattle.wg_typing.specs.Conversions.{type_of, fits, is_number}
use Rattle.wg_typing.specs.Scope.{Context, own}
use Rattle.wg_typing.specs.Layers.{typed_part, convert, fit}
use Rattle.wg_typing.specs.TypingInterlocked.{is_fixed}
use Rattle.wg_typing.specs.TypingExpr.{part, sites_of, sites_of_value}
use Rattle.wg_typing.specs.PartSites.{part_site, goal_if}
use Rattle.wg_tree.specs.declared.expr.Expr.{Expr}
use Rattle.wg_typing.specs.TypingOperators.{suited, typed_of}
use Rattle.wg_typing.specs.Sites.{Sites, nowhere, only, ◌&◌}
use Rattle.wg_typing.specs.Site.{Site, AtNumber, AtTarget, AtUpdate, AtAlone}
use Rattle.wg_tree.specs.declared.expr.BinaryOperator.{BinaryOperator}
use Rattle.wg_tree.specs.declared.expr.BinaryOperator.TheVariants as binary
use Rattle.wg_tree.specs.declared.stmt.AssignOperator.{AssignOperator}
use Rattle.wg_tree.specs.declared.stmt.AssignOperator.TheVariants as assign
use Rattle.wg_tree.specs.declared.stmt.Step.{Step}
use Rattle.wg_tree.specs.declared.stmt.Step.TheVariants as step
use Rattle.wg_tree.specs.declared.stmt.StepOperator.{StepOperator}
use Rattle.wg_tree.specs.declared.stmt.Steps.{Steps}
use Rattle.wg_typed.specs.declared.typed_stmt.TypedStep.{TypedStep}
use Rattle.wg_typed.specs.declared.typed_stmt.TypedStep.TheVariants as typed_step
use Rattle.wg_typed.specs.declared.typed_stmt.TypedStmt.{TypedStmt}
use Rattle.wg_typed.specs.declared.typed_stmt.TypedStmt.TheVariants as t
use Rattle.wg_typing.specs.declared.scope.Act.{Act}
use Rattle.wg_typing.specs.declared.scope.Act.TheVariants as act
use Rattle.wg_typing.specs.declared.scope.Declared.{Declared}
use Rattle.wg_typing.specs.declared.scope.Meant.{Meant}
use Rattle.wg_typing.specs.declared.scope.Meant.TheVariants as meant
use Rattle.wg_typing.specs.declared.scope.Object.TheVariants as object
use Rattle.wg_typing.specs.declared.scope.Value.{Value}
use Rattle.wg_typing.specs.declared.scope.Value.TheVariants as value
use Rattle.wg_typing.specs.declared.part.Part.{Part}
use Rattle.wg_typing.specs.declared.part.TypedPart.{TypedPart}
use Rattle.wg_typing.specs.declared.part.Did.{Did}
use Rattle.wg_typing.specs.declared.part.Did.TheVariants as did

abbrev pub acted : Act → Did
acted (act.Step s) = did.Step s
acted a = did.Act a

abbrev pub evaluated : Option Value → Option Did
evaluated (Some (value.Typed of standing tree)) = Some (did.Step (typed_step.Evaluate tree))
evaluated (Some (value.Object object element)) = None
evaluated (Some (value.Act name a)) = Some (acted a)
evaluated (Some (value.Text bytes)) = None
evaluated None = None

-- the operator of `op=`
abbrev pub operator_of : AssignOperator → Option BinaryOperator
operator_of assign.Plain = None
operator_of assign.Multiply = Some binary.Multiply
operator_of assign.Divide = Some binary.Divide
operator_of assign.Remainder = Some binary.Remainder
operator_of assign.Add = Some binary.Add
operator_of assign.Subtract = Some binary.Subtract
operator_of assign.ShiftLeft = Some binary.ShiftLeft
operator_of assign.ShiftRight = Some binary.ShiftRight
operator_of assign.BitAnd = Some binary.BitAnd
operator_of assign.BitXor = Some binary.BitXor
operator_of assign.BitOr = Some binary.BitOr

-- a target that can be assigned
abbrev pub assignable_target : Part → Option TypedPart
assignable_target p = typed_part p >>= (λ t. where_true (not (is_fixed t.standing)) t)

-- the result converts back to the target's type
abbrev pub updated : BinaryOperator → TypedPart → TypedPart → Option Did
updated operator target v = do
  o ← suited operator target.of v.of
  by ← where_true (fits (type_of o.result) target.of) (type_of o.left)
  operand ← convert (type_of o.right) v
  Some (did.Step (typed_step.Update target.tree operator by operand))

abbrev pub assigned : Option BinaryOperator → Part → Part → Option Did
assigned None target v = do
  to ← assignable_target target
  from ← fit to.of v
  Some (did.Step (typed_step.Assign to.tree from))
assigned (Some operator) target v = do
  to ← assignable_target target
  from ← typed_part v
  updated operator to from

abbrev pub changed : StepOperator → Part → Option Did
changed operator target = do
  to ← assignable_target target
  where_true (is_number to.of) (did.Step (typed_step.Change to.tree operator))

abbrev pub step_did : Context → Step → Option Did
step_did c (step.Evaluate e) = evaluated (part c e).value
step_did c (step.Assign target operator place v) = assigned (operator_of operator) (part c target) (part c v)
step_did c (step.Before place operator target) = changed operator (part c target)
step_did c (step.After target operator place) = changed operator (part c target)

-- what is assigned to
abbrev pub target_sites : Context → Expr → Sites Site
target_sites c target = sites_of c target & only (AtTarget (part c target))

abbrev pub update_site : BinaryOperator → Option TypedPart → Option TypedPart → Sites Site
update_site operator None v = nowhere
update_site operator (Some target) None = nowhere
update_site operator (Some target) (Some v) = only (AtUpdate operator target v)

abbrev pub assigned_sites : Option BinaryOperator → Part → Part → Sites Site
assigned_sites None target v = goal_if (typed_of target) v
assigned_sites (Some operator) target v = update_site operator (typed_part target) (typed_part v)

-- a step, in the header of a `for` or as a statement
abbrev pub step_sites : Context → Bool → Step → Sites Site
step_sites c header (step.Evaluate e) = sites_of c e & only (AtAlone c header (part c e))
step_sites c header (step.Assign target operator place v) =
    target_sites c target & sites_of_value c v & assigned_sites (operator_of operator) (part c target) (part c v)
step_sites c header (step.Before place operator target) = target_sites c target & part_site AtNumber (part c target)
step_sites c header (step.After target operator place) = target_sites c target & part_site AtNumber (part c target)

-- whether the handle of the number is declared in the own scope
abbrev pub is_handle : ℕ → Meant → Bool
is_handle handle (meant.Object (object.Buffer buffer of)) = false
is_handle handle (meant.Object (object.Input many record_type standing sharing)) = false
is_handle handle (meant.Object (object.Output output array record_type)) = false
is_handle handle (meant.Object (object.Handle number record_type)) = number == handle
is_handle handle (meant.Struct number) = false
is_handle handle (meant.Constant of words known) = false
is_handle handle (meant.Shared variable of) = false
is_handle handle (meant.Variable variable of constant) = false
is_handle handle (meant.Function number is_entry result parameters chain) = false
is_handle handle meant.Itself = false
is_handle handle meant.Broken = false

abbrev pub declares_handle : ℕ → List Declared → Bool
declares_handle handle [] = false
declares_handle handle (d ∷ rest) = is_handle handle d.meant || declares_handle handle rest

abbrev pub own_handle : Context → ℕ → Bool
own_handle c handle = declares_handle handle (own c)

-- whether it is the handle that is declared
abbrev pub handle_there : ℕ → Option Declared → Bool
handle_there handle None = false
handle_there handle (Some d) = is_handle handle d.meant

-- A step as a statement; where collective statements may stand is looked at on the whole body. `OutputComplete` is of a handle of the own block.
abbrev pub act_stmt : Context → Act → Option TypedStmt
act_stmt c (act.Step s) = Some (t.Step s)
act_stmt c (act.Barrier syncs) = Some (t.Barrier syncs)
act_stmt c (act.Request group output number element amount) = None
act_stmt c (act.Increment group output element amount) = Some (t.Increment group output element amount)
act_stmt c (act.Complete handle) = where_true (own_handle c handle) (t.Complete handle)
act_stmt c (act.Finished tracked) = None

abbrev pub step_stmt : Context → Did → Option TypedStmt
step_stmt c (did.Step s) = Some (t.Step s)
step_stmt c (did.Act a) = act_stmt c a

-- A step of the header of a `for`: a barrier that does not sync has no effect, and no typed form.
abbrev pub act_in_header : Act → Option (List TypedStep)
act_in_header (act.Step s) = Some (s ∷ [])
act_in_header (act.Barrier syncs) = where_true (not syncs) []
act_in_header (act.Request group output number element amount) = None
act_in_header (act.Increment group output element amount) = None
act_in_header (act.Complete handle) = None
act_in_header (act.Finished tracked) = None

abbrev pub did_in_header : Did → Option (List TypedStep)
did_in_header (did.Step s) = Some (s ∷ [])
did_in_header (did.Act a) = act_in_header a

abbrev pub header_trees : Context → List Step → Option (List TypedStep)
header_trees c [] = Some []
header_trees c (s ∷ rest) = do
  first ← step_did c s >>= did_in_header
  others ← header_trees c rest
  Some (first ++ others)

abbrev pub header_sites : Context → List Step → Sites Site
header_sites c [] = nowhere
header_sites c (s ∷ rest) = step_sites c true s & header_sites c rest

abbrev pub all_steps : Steps → List Step
all_steps s = s.first ∷ s.rest

abbrev pub maybe_steps : Option Steps → List Step
maybe_steps None = []
maybe_steps (Some s) = all_steps s
