-- What the steps of a statement or of a `for` header do: stores, interlocked forms and calls.
use Rattle.std.specs.Prelude.{ℕ, ◌/◌, Bool, if◌then◌else◌, List, [], ◌∷◌, map, slice_index, Option, Some, None}
use Rattle.wg_machine.specs.declared.memory.Atomic.{Atomic}
use Rattle.wg_machine.specs.declared.memory.Atomic.TheVariants as atomic
use Rattle.wg_machine.specs.Buffers.{exchanged}
use Rattle.wg_state.specs.Turns.{Action, ◌>>=◌, ◌>>◌, pure, read, change, all}
use Rattle.wg_tree.specs.declared.expr.Scalar.TheVariants as scalar
use Rattle.wg_tree.specs.declared.expr.BinaryOperator.{BinaryOperator}
use Rattle.wg_tree.specs.declared.stmt.StepOperator.{StepOperator}
use Rattle.wg_semantics.specs.declared.state.State.{State}
use Rattle.wg_semantics.specs.declared.state.Store.TheVariants as store
use Rattle.wg_semantics.specs.declared.state.Spot.{Spot}
use Rattle.wg_semantics.specs.declared.state.Spot.TheVariants as spot
use Rattle.wg_typed.specs.declared.types.TypeTree.{TypeTree}
use Rattle.wg_typed.specs.declared.types.TypeTree.TheVariants as type
use Rattle.wg_typed.specs.declared.typed_expr.TypedExpr.{TypedExpr}
use Rattle.wg_typed.specs.declared.typed_stmt.TypedDeclarator.{TypedDeclarator}
use Rattle.wg_typed.specs.declared.typed_stmt.TypedStart.{TypedStart}
use Rattle.wg_typed.specs.declared.typed_stmt.TypedStart.TheVariants as start
use Rattle.wg_typed.specs.declared.typed_stmt.TypedStep.{TypedStep}
use Rattle.wg_typed.specs.declared.typed_stmt.TypedStep.TheVariants as step
use Rattle.wg_typed.specs.declared.typed_stmt.Interlocked.{Interlocked}
use Rattle.wg_typed.specs.declared.typed_stmt.InterlockedForm.{InterlockedForm}
use Rattle.wg_typed.specs.declared.typed_stmt.InterlockedForm.TheVariants as form
use Rattle.wg_typed.specs.declared.typed_stmt.Destination.{Destination}
use Rattle.wg_typed.specs.declared.typed_stmt.Destination.TheVariants as destination
use Rattle.wg_typed.specs.Layout.{words_of}
use Rattle.wg_typed.specs.Operators.{converted, combined_words, stepped_words}
use Rattle.wg_semantics.specs.Places.{Setting, fetched, written}
use Rattle.wg_state.specs.WordLists.{zeros}
use Rattle.wg_semantics.specs.Calls.{Seen, Callee, callee_at, value_of, called}
use Rattle.wg_semantics.specs.ExprMeaning.{seen, word_of}

abbrev pub store_at : Spot → List ℕ → Action State (Unit {0})
store_at p words = change (written p words)

-- ---- assignments

-- the place first, then the right side, then the store
abbrev pub assigned : Setting → Seen → Seen → Action State (Unit {0})
assigned setting target value = do
  p ← target.spot
  words ← value_of setting.structs value
  store_at p words

-- the left side is read after the right side is known; the result is converted back
abbrev pub updated : Setting → Seen → BinaryOperator → TypeTree → Seen → Action State (Unit {0})
updated setting target operator by value = do
  p ← target.spot
  right ← value_of setting.structs value
  left ← read (fetched setting.structs target.of p)
  store_at p (converted by target.of (combined_words operator by (converted target.of by left) right))

abbrev pub changed : Setting → Seen → StepOperator → Action State (Unit {0})
changed setting target operator = do
  p ← target.spot
  words ← read (fetched setting.structs target.of p)
  store_at p (stepped_words operator target.of words)

-- a word of a raw buffer, by an address in bytes
abbrev pub raw_word : ℕ → ℕ → Spot
raw_word buffer address = spot.At (store.Buffer buffer) (address / 4)

abbrev pub raw_stored : Setting → ℕ → Seen → Seen → Action State (Unit {0})
raw_stored setting buffer address value = do
  at ← word_of setting address
  words ← value_of setting.structs value
  store_at (raw_word buffer at) words

-- ---- interlocked forms

-- what a form does to a word of the machine; `signed` where `Min` and `Max` are on `int`
abbrev pub atomic_of : InterlockedForm → Bool → Atomic
atomic_of form.Add signed = atomic.Add
atomic_of form.Min signed = if signed then atomic.MinSigned else atomic.Min
atomic_of form.Max signed = if signed then atomic.MaxSigned else atomic.Max
atomic_of form.And signed = atomic.And
atomic_of form.Or signed = atomic.Or
atomic_of form.Xor signed = atomic.Xor
atomic_of form.Exchange signed = atomic.Exchange
atomic_of form.CompareExchange signed = atomic.CompareExchange
atomic_of form.CompareStore signed = atomic.CompareExchange

abbrev pub destination_of : Setting → List Callee → Destination → Action State Spot
destination_of setting callees (destination.Scalar target) = (seen setting callees target).spot
destination_of setting callees (destination.Raw buffer address) = do
  at ← word_of setting (seen setting callees address)
  pure (raw_word buffer at)

-- one word at a place, which may be outside
abbrev pub word_at : Spot → State → ℕ
word_at p s = slice_index (fetched [] (type.Scalar scalar.Uint) p s) 0

abbrev pub maybe_word : Setting → List Callee → Option TypedExpr → Action State ℕ
maybe_word setting callees None = pure 0
maybe_word setting callees (Some e) = word_of setting (seen setting callees e)

abbrev pub maybe_spot : Setting → List Callee → Option TypedExpr → Action State Spot
maybe_spot setting callees None = pure spot.Nowhere
maybe_spot setting callees (Some e) = (seen setting callees e).spot

-- The destination, the compared value, the value and the place of the old word, in this order; then the word is changed, and then
-- the old one is written.
abbrev pub interlocked : Setting → List Callee → Interlocked → Action State (Unit {0})
interlocked setting callees i = do
  p ← destination_of setting callees i.destination
  compare ← maybe_word setting callees i.compare
  value ← word_of setting (seen setting callees i.value)
  back ← maybe_spot setting callees i.old
  old ← read (word_at p)
  store_at p (exchanged (atomic_of i.form i.signed) old compare value ∷ [])
  store_at back (old ∷ [])

-- ---- steps

abbrev pub step_does : Setting → List Callee → TypedStep → Action State (Unit {0})
step_does setting callees (step.Evaluate value) = value_of setting.structs (seen setting callees value) >> pure tt
step_does setting callees (step.Call function arguments) =
    called setting.structs (callee_at callees function) (map (seen setting callees) arguments) >> pure tt
step_does setting callees (step.Assign target value) = assigned setting (seen setting callees target) (seen setting callees value)
step_does setting callees (step.Update target operator by value) =
    updated setting (seen setting callees target) operator by (seen setting callees value)
step_does setting callees (step.Change target operator) = changed setting (seen setting callees target) operator
step_does setting callees (step.Store buffer address value) =
    raw_stored setting buffer (seen setting callees address) (seen setting callees value)
step_does setting callees (step.Interlocked i) = interlocked setting callees i

abbrev pub steps_do : Setting → List Callee → List TypedStep → Action State (Unit {0})
steps_do setting callees steps = all (map (step_does setting callees) steps)

-- ---- declarations

-- a variable without a start value is zeros each time its declaration is run; own
abbrev pub start_value : Setting → List Callee → TypeTree → Option TypedExpr → Action State (List ℕ)
start_value setting callees t None = pure (zeros (words_of setting.structs t))
start_value setting callees t (Some e) = value_of setting.structs (seen setting callees e)

abbrev pub declared_as : Setting → List Callee → TypedDeclarator → Action State (Unit {0})
declared_as setting callees d = do
  words ← start_value setting callees d.of d.value
  store_at (spot.At (store.Variable d.variable) 0) words

abbrev pub all_declared : Setting → List Callee → List TypedDeclarator → Action State (Unit {0})
all_declared setting callees declarators = all (map (declared_as setting callees) declarators)

-- what a `for` begins with
abbrev pub started : Setting → List Callee → Option TypedStart → Action State (Unit {0})
started setting callees None = pure tt
started setting callees (Some (start.Declare declarators)) = all_declared setting callees declarators
started setting callees (Some (start.Steps steps)) = steps_do setting callees steps
