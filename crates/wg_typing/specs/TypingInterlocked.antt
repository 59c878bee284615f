-- The interlocked forms: their arguments after the destination, and their typed form (HLSL Shader Model 6.8, interlocked functions;
-- which forms give the old word is as there).
use Rattle.std.specs.Prelude.{ℕ, Bool, true, false, not, if◌then◌else◌, List, [], ◌∷◌, Option, Some, None, ◌||◌}
use Prim.Native.String.{String}
use Rattle.wg_words.specs.declared.place.Place.{Place}
use Rattle.wg_words.specs.Maybe.{◌>>=◌}
use Rattle.wg_typing.specs.Maybe.{where_true, if_there}
use Rattle.wg_typing.specs.Conversions.{is_word, same_type, uint_type, truth_type}
use Rattle.wg_typing.specs.Layers.{typed_part, fit, act}
use Rattle.wg_tree.specs.declared.expr.Scalar.TheVariants as scalar
use Rattle.wg_typed.specs.declared.types.TypeTree.{TypeTree}
use Rattle.wg_typed.specs.declared.types.TypeTree.TheVariants as type
use Rattle.wg_typed.specs.declared.typed_expr.TypedExpr.{TypedExpr}
use Rattle.wg_typed.specs.declared.typed_stmt.InterlockedForm.{InterlockedForm}
use Rattle.wg_typed.specs.declared.typed_stmt.InterlockedForm.TheVariants as form
use Rattle.wg_typed.specs.declared.typed_stmt.Destination.{Destination}
use Rattle.wg_typed.specs.declared.typed_stmt.Destination.TheVariants as destination
use Rattle.wg_typed.specs.declared.typed_stmt.TypedStep.TheVariants as step
use Rattle.wg_typing.specs.declared.scope.Standing.{Standing}
use Rattle.wg_typing.specs.declared.scope.Standing.TheVariants as standing
use Rattle.wg_typing.specs.declared.scope.Value.{Value}
use Rattle.wg_typing.specs.declared.scope.Act.TheVariants as act_of
use Rattle.wg_typing.specs.declared.part.Part.{Part}
use Rattle.wg_typing.specs.declared.part.TypedPart.{TypedPart}
use Rattle.wg_typing.specs.declared.part.Operands.{Operands}

abbrev pub interlocked_names : List (String × InterlockedForm)
interlocked_names = ("InterlockedAdd", form.Add) ∷ ("InterlockedMin", form.Min) ∷ ("InterlockedMax", form.Max) ∷ ("InterlockedAnd", form.And)
    ∷ ("InterlockedOr", form.Or) ∷ ("InterlockedXor", form.Xor) ∷ ("InterlockedExchange", form.Exchange)
    ∷ ("InterlockedCompareExchange", form.CompareExchange) ∷ ("InterlockedCompareStore", form.CompareStore) ∷ []

abbrev pub a_value_alone : {P : Type 0} → List P → Option (Operands P)
a_value_alone (v ∷ []) = Some (record { compare = None; value = v; old = None })
a_value_alone _ = None

abbrev pub with_old : {P : Type 0} → List P → Option (Operands P)
with_old (v ∷ o ∷ []) = Some (record { compare = None; value = v; old = Some o })
with_old _ = None

abbrev pub maybe_old : {P : Type 0} → List P → Option (Operands P)
maybe_old (v ∷ []) = a_value_alone (v ∷ [])
maybe_old parts = with_old parts

abbrev pub compared : {P : Type 0} → List P → Option (Operands P)
compared (c ∷ v ∷ []) = Some (record { compare = Some c; value = v; old = None })
compared _ = None

abbrev pub compared_with_old : {P : Type 0} → List P → Option (Operands P)
compared_with_old (c ∷ v ∷ o ∷ []) = Some (record { compare = Some c; value = v; old = Some o })
compared_with_old _ = None

-- none where the form takes another number of arguments
abbrev pub operands : {P : Type 0} → InterlockedForm → List P → Option (Operands P)
operands form.Add parts = maybe_old parts
operands form.Min parts = maybe_old parts
operands form.Max parts = maybe_old parts
operands form.And parts = maybe_old parts
operands form.Or parts = maybe_old parts
operands form.Xor parts = maybe_old parts
operands form.Exchange parts = with_old parts
operands form.CompareExchange parts = compared_with_old parts
operands form.CompareStore parts = compared parts

abbrev pub is_fixed : Standing → Bool
is_fixed standing.Fixed = true
is_fixed standing.Own = false
is_fixed standing.Memory = false

abbrev pub is_memory : Standing → Bool
is_memory standing.Fixed = false
is_memory standing.Own = false
is_memory standing.Memory = true

-- an assignable place of type `int` or `uint`
abbrev pub word_place : Part → Option TypedExpr
word_place p = typed_part p >>= (λ t. where_true (is_word t.of) t >>= (λ t. where_true (not (is_fixed t.standing)) t.tree))

-- the same, in groupshared words or in a structured buffer
abbrev pub memory_place : Part → Option TypedPart
memory_place p = typed_part p >>= (λ t. where_true (is_word t.of) t >>= (λ t. where_true (is_memory t.standing) t))

abbrev pub is_int : TypeTree → Bool
is_int t = same_type t (type.Scalar scalar.Int)

-- on a raw buffer the value's own type decides: `bool` becomes `int`, and what is neither is taken as `uint`
abbrev pub raw_type : TypeTree → TypeTree
raw_type t = if is_int t || same_type t truth_type then type.Scalar scalar.Int else uint_type

-- the form at a destination, on words of a type
abbrev pub interlocked : Place → InterlockedForm → Destination → TypeTree → Operands Part → Option Value
interlocked name f to by o = do
  compare ← if_there (fit by) o.compare
  value ← fit by o.value
  old ← if_there word_place o.old
  act name (act_of.Step (step.Interlocked (record { form = f; signed = is_int by; destination = to; compare = compare; value = value; old = old })))

-- with the destination as the first argument
abbrev pub interlocked_at : Place → InterlockedForm → List Part → Option Value
interlocked_at name f [] = None
interlocked_at name f (to ∷ parts) = do
  o ← operands f parts
  place ← memory_place to
  interlocked name f (destination.Scalar place.tree) place.of o

-- with an address in a raw buffer as the first argument
abbrev pub interlocked_raw : Place → InterlockedForm → ℕ → List Part → Option Value
interlocked_raw name f buffer [] = None
interlocked_raw name f buffer (to ∷ parts) = do
  o ← operands f parts
  address ← fit uint_type to
  v ← typed_part o.value
  interlocked name f (destination.Raw buffer address) (raw_type v.of) o
