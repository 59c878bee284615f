-- The variables that an expression or a step changes, in whole or in part: as targets, and as arguments that are given back. Own.
use Rattle.std.specs.Prelude.{ℕ, ◌++◌, if◌then◌else◌, List, [], ◌∷◌, Option, Some, None}
use Rattle.wg_typing.specs.Layers.{typed_part}
use Rattle.wg_typing.specs.TypingInterlocked.{operands}
use Rattle.wg_typing.specs.TypingObjects.{method_of}
use Rattle.wg_typed.specs.declared.typed_expr.TypedExpr.{TypedExpr}
use Rattle.wg_typed.specs.declared.typed_expr.Access.TheFolds.{fold-TypedExpr}
use Rattle.wg_typed.specs.declared.typed_expr.Access.TheOpen.{TypedExpr-F, TypedKind-F, Access-F, TypedLink-F}
use Rattle.wg_typed.specs.declared.typed_stmt.InterlockedForm.{InterlockedForm}
use Rattle.wg_typing.specs.declared.scope.FormalParameter.{FormalParameter}
use Rattle.wg_typing.specs.declared.scope.Object.{Object}
use Rattle.wg_typing.specs.declared.scope.Value.TheVariants as value
use Rattle.wg_typing.specs.TypingFunctionCall.{is_given_back}
use Rattle.wg_typing.specs.declared.part.FormLayer.{FormLayer}
use Rattle.wg_typing.specs.declared.part.Part.{Part}
use Rattle.wg_typing.specs.declared.part.TypedPart.{TypedPart}
use Rattle.wg_typing.specs.declared.called.CalledName.{CalledName}
use Rattle.wg_typing.specs.declared.part.Along.{Along}
use Rattle.wg_typing.specs.declared.part.Operands.{Operands}
use Rattle.wg_typing.specs.declared.called.Method.{Method}
use Rattle.wg_typing.specs.declared.event.Event.{Event}
use Rattle.wg_typing.specs.declared.called.Method.TheVariants as method
use Rattle.wg_typing.specs.declared.part.FormLayer.TheVariants as form_layer
use Rattle.wg_typing.specs.declared.called.CalledName.TheVariants as called_name
use Rattle.wg_typing.specs.declared.called.Builtin.TheVariants as builtin
use Rattle.wg_typing.specs.declared.part.Along.TheVariants as along
use Rattle.wg_typing.specs.declared.event.Event.TheVariants as event

-- the variable of which a place is a part
abbrev pub root_kind : TypedKind-F (Unit {0}) (Option ℕ) (Option ℕ) (Unit {0}) → Option ℕ
root_kind (TypedKind-F.Literal words) = None
root_kind (TypedKind-F.Variable variable) = Some variable
root_kind (TypedKind-F.Shared variable) = None
root_kind (TypedKind-F.Element buffer i) = None
root_kind (TypedKind-F.Load buffer address) = None
root_kind (TypedKind-F.Input i) = None
root_kind TypedKind-F.Count = None
root_kind TypedKind-F.Finished = None
root_kind (TypedKind-F.Handle handle i) = None
root_kind (TypedKind-F.IsValid output element) = None
root_kind TypedKind-F.Levels = None
root_kind TypedKind-F.Zeros = None
root_kind (TypedKind-F.Access base forms) = base
root_kind (TypedKind-F.Prefix operator operand) = None
root_kind (TypedKind-F.Convert operand) = None
root_kind (TypedKind-F.Chain first rest) = None
root_kind (TypedKind-F.Choice test first other) = None
root_kind (TypedKind-F.Construct parts) = None
root_kind (TypedKind-F.Call function arguments) = None
root_kind (TypedKind-F.Intrinsic intrinsic arguments) = None

abbrev pub root_form : Access-F (Unit {0}) (Option ℕ) (Option ℕ) (Unit {0}) → Unit {0}
root_form f = tt

abbrev pub root_link : TypedLink-F (Unit {0}) (Option ℕ) (Option ℕ) (Unit {0}) → Unit {0}
root_link l = tt

abbrev pub root_expr : TypedExpr-F (Unit {0}) (Option ℕ) (Option ℕ) (Unit {0}) → Option ℕ
root_expr e = e.kind

abbrev pub root : TypedExpr → Option ℕ
root = fold-TypedExpr (Unit {0}) (Option ℕ) (Option ℕ) (Unit {0}) root_form root_kind root_expr root_link

abbrev pub changed_if : Option ℕ → List Event
changed_if None = []
changed_if (Some variable) = event.Changes variable ∷ []

abbrev pub changed_typed : Option TypedPart → List Event
changed_typed None = []
changed_typed (Some t) = changed_if (root t.tree)

abbrev pub changed : Part → List Event
changed p = changed_typed (typed_part p)

abbrev pub changed_there : Option Part → List Event
changed_there None = []
changed_there (Some p) = changed p

abbrev pub given_back : List FormalParameter → List Part → List Event
given_back [] parts = []
given_back (a ∷ parameters) [] = []
given_back (a ∷ parameters) (p ∷ parts) = (if is_given_back a.direction then changed p else []) ++ given_back parameters parts

abbrev pub old_changed : Option (Operands Part) → List Event
old_changed None = []
old_changed (Some o) = changed_there o.old

-- the arguments after the destination or the address
abbrev pub interlocked_changes : InterlockedForm → List Part → List Event
interlocked_changes f [] = []
interlocked_changes f (to ∷ parts) = old_changed (operands f parts)

abbrev pub call_changes : CalledName → List Part → List Event
call_changes (called_name.Plain number result parameters chain) parts = given_back parameters parts
call_changes called_name.Entry parts = []
call_changes called_name.Itself parts = []
call_changes (called_name.Builtin (builtin.OnNumbers i)) parts = []
call_changes (called_name.Builtin (builtin.Interlocked f)) parts = interlocked_changes f parts
call_changes (called_name.Builtin builtin.Levels) parts = []
call_changes (called_name.Builtin (builtin.Barrier syncs)) parts = []
call_changes (called_name.Builtin builtin.BarrierOf) parts = []
call_changes called_name.Broken parts = []
call_changes called_name.Unknown parts = []

abbrev pub method_changes : Option Method → List Part → List Event
method_changes (Some (method.Load n)) parts = []
method_changes (Some (method.Store n)) parts = []
method_changes (Some (method.Interlocked f)) parts = interlocked_changes f parts
method_changes (Some method.Get) parts = []
method_changes (Some method.Count) parts = []
method_changes (Some (method.Request group)) parts = []
method_changes (Some (method.Increment group)) parts = []
method_changes (Some method.IsValid) parts = []
method_changes (Some method.Complete) parts = []
method_changes (Some method.Finished) parts = []
method_changes None parts = []

abbrev pub object_changes : Object → FormLayer Part → List Event
object_changes o (form_layer.Member name) = []
object_changes o (form_layer.Method name parts) = method_changes (method_of o name.name) parts
object_changes o (form_layer.Index p) = []

abbrev pub form_changes : Along → FormLayer Part → List Event
form_changes (along.Typed r) f = []
form_changes (along.Other (value.Typed of standing tree)) f = []
form_changes (along.Other (value.Object o element)) f = object_changes o f
form_changes (along.Other (value.Act name a)) f = []
form_changes (along.Other (value.Text bytes)) f = []
