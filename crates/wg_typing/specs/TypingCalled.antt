-- Output calls and barriers that sync, by the called name, whatever their arguments are. Own.
use Rattle.std.specs.Prelude.{is_none, if◌then◌else◌, List, [], ◌∷◌, Option, Some, None}
use Rattle.wg_words.specs.declared.place.Place.{Place}
use Rattle.wg_words.specs.Maybe.{◌>>=◌}
use Rattle.wg_typing.specs.Scope.{Context}
use Rattle.wg_typing.specs.Layers.{Layer}
use Rattle.wg_typing.specs.TypingActs.{named_call}
use Rattle.wg_typing.specs.TypingBarrier.{names_sync}
use Rattle.wg_typing.specs.TypingCallee.{callee}
use Rattle.wg_typing.specs.TypingObjects.{method_of, is_tracked}
use Rattle.wg_typing.specs.TypingForms.{begun, form_on}
use Rattle.wg_tree.specs.declared.expr.Expr.TheOpen.{Expr-F}
use Rattle.wg_typing.specs.declared.scope.Object.{Object}
use Rattle.wg_typing.specs.declared.scope.Object.TheVariants as object
use Rattle.wg_typing.specs.declared.scope.Value.TheVariants as value
use Rattle.wg_typing.specs.declared.part.FormLayer.{FormLayer}
use Rattle.wg_typing.specs.declared.part.Part.{Part}
use Rattle.wg_typing.specs.declared.part.CallKind.{CallKind}
use Rattle.wg_typing.specs.declared.part.NamedCall.{NamedCall}
use Rattle.wg_typing.specs.declared.called.CalledName.{CalledName}
use Rattle.wg_typing.specs.declared.called.Method.{Method}
use Rattle.wg_typing.specs.declared.part.Along.{Along}
use Rattle.wg_typing.specs.declared.called.Method.TheVariants as method
use Rattle.wg_typing.specs.declared.part.FormLayer.TheVariants as form_layer
use Rattle.wg_typing.specs.declared.part.CallKind.TheVariants as call_kind
use Rattle.wg_typing.specs.declared.called.CalledName.TheVariants as called_name
use Rattle.wg_typing.specs.declared.called.Builtin.TheVariants as builtin
use Rattle.wg_typing.specs.declared.part.Along.TheVariants as along

-- ---- barriers

abbrev pub callee_kind : Context → CalledName → List Part → Option CallKind
callee_kind c (called_name.Plain number result parameters chain) parts = None
callee_kind c called_name.Entry parts = None
callee_kind c called_name.Itself parts = None
callee_kind c (called_name.Builtin (builtin.OnNumbers i)) parts = None
callee_kind c (called_name.Builtin (builtin.Interlocked f)) parts = None
callee_kind c (called_name.Builtin builtin.Levels) parts = None
callee_kind c (called_name.Builtin (builtin.Barrier synced)) parts = if synced then Some call_kind.Syncs else None
callee_kind c (called_name.Builtin builtin.BarrierOf) parts = if names_sync c parts then Some call_kind.Syncs else None
callee_kind c called_name.Broken parts = None
callee_kind c called_name.Unknown parts = None

-- ---- methods

abbrev pub handle_kind : Object → Option CallKind
handle_kind (object.Buffer buffer of) = None
handle_kind (object.Input many record_type standing sharing) = None
handle_kind (object.Output output array record_type) = None
handle_kind (object.Handle handle record_type) = Some (call_kind.Completes handle)

abbrev pub input_kind : Object → Option CallKind
input_kind (object.Buffer buffer of) = None
input_kind (object.Input many record_type standing sharing) = Some (call_kind.Finishes (is_tracked sharing))
input_kind (object.Output output array record_type) = None
input_kind (object.Handle handle record_type) = None

abbrev pub method_kind : Object → Method → Option CallKind
method_kind o (method.Load n) = None
method_kind o (method.Store n) = None
method_kind o (method.Interlocked f) = None
method_kind o method.Get = None
method_kind o method.Count = None
method_kind o (method.Request group) = Some call_kind.Requests
method_kind o (method.Increment group) = Some call_kind.Increments
method_kind o method.IsValid = None
method_kind o method.Complete = handle_kind o
method_kind o method.Finished = input_kind o

abbrev pub object_called : Object → FormLayer Part → Option NamedCall
object_called o (form_layer.Member name) = None
object_called o (form_layer.Method name parts) = method_of o name.name >>= (λ m. named_call name.place (method_kind o m))
object_called o (form_layer.Index p) = None

-- what a form after a value calls
abbrev pub form_called : Along → FormLayer Part → Option NamedCall
form_called (along.Typed r) f = None
form_called (along.Other (value.Typed of standing tree)) f = None
form_called (along.Other (value.Object o element)) f = object_called o f
form_called (along.Other (value.Act name a)) f = None
form_called (along.Other (value.Text bytes)) f = None

-- the call of the last form
abbrev pub last_called : Context → Place → Option Along → List (FormLayer Part) → Option NamedCall
last_called c place None forms = None
last_called c place (Some a) [] = None
last_called c place (Some a) (f ∷ []) = form_called a f
last_called c place (Some a) (f ∷ g ∷ rest) = last_called c place (form_on c place a f) (g ∷ rest)

-- the call that an expression is by its name
abbrev pub layer_called : Context → Place → Layer Part → Option NamedCall
layer_called c place (Expr-F.Number at n unsigned long) = None
layer_called c place (Expr-F.Text at bytes) = None
layer_called c place (Expr-F.Truth at b) = None
layer_called c place (Expr-F.Name name) = None
layer_called c place (Expr-F.Call name parts) = named_call name.place (callee_kind c (callee c name) parts)
layer_called c place (Expr-F.Construct at of parts) = None
layer_called c place (Expr-F.Bracket at inner) = inner.by_name
layer_called c place (Expr-F.Prefix at operator operand) = None
layer_called c place (Expr-F.Cast at to operand) = None
layer_called c place (Expr-F.Zeros at of) = None
layer_called c place (Expr-F.Postfix first forms) = last_called c place (begun first) forms
layer_called c place (Expr-F.Chain first rest) = None
layer_called c place (Expr-F.Choice test a b) = None

-- the call that a broken part is by its name
abbrev pub broken_call : Part → Option NamedCall
broken_call p = if is_none p.value then p.by_name else None
