-- What an expression does: a fold over one layer of the typed tree into steps of a lane. Evaluation goes from left to right.
use Rattle.std.specs.Prelude.{ℕ, ◌+◌, ◌/◌, true, false, if◌then◌else◌, List, [], ◌∷◌, map, length, slice_index, Option, Some, None, is_some}
use Rattle.wg_state.specs.Turns.{Action, ◌>>=◌, pure, read, each}
use Rattle.wg_tree.specs.declared.expr.BinaryOperator.{BinaryOperator}
use Rattle.wg_tree.specs.declared.expr.BinaryOperator.TheVariants as binary
use Rattle.wg_semantics.specs.declared.state.State.{State}
use Rattle.wg_semantics.specs.declared.state.Store.TheVariants as store
use Rattle.wg_semantics.specs.declared.state.Spot.{Spot}
use Rattle.wg_semantics.specs.declared.state.Spot.TheVariants as spot
use Rattle.wg_typed.specs.declared.types.TypeTree.{TypeTree}
use Rattle.wg_typed.specs.declared.typed_expr.Access.{Access}
use Rattle.wg_typed.specs.declared.typed_expr.TypedExpr.{TypedExpr}
use Rattle.wg_typed.specs.declared.typed_expr.TypedKind.{TypedKind}
use Rattle.wg_typed.specs.declared.typed_expr.TypedLink.{TypedLink}
use Rattle.wg_typed.specs.declared.typed_expr.Access.TheFolds.{fold-TypedExpr, fold-TypedKind, fold-Access, fold-TypedLink}
use Rattle.wg_typed.specs.declared.typed_expr.Access.TheOpen.{TypedExpr-F, TypedKind-F, Access-F, TypedLink-F}
use Rattle.wg_typed.specs.Layout.{words_of, field_range, put}
use Rattle.wg_typed.specs.Operators.{converted, combined_words, prefixed_words}
use Rattle.wg_words.specs.Truth.{is_true, truth}
use Rattle.wg_typed.specs.Intrinsics.{called_words}
use Rattle.wg_semantics.specs.Places.{Setting, fetched, words_from, part_at, array_size, element_at, buffer_element, input_record, handle_record}
use Rattle.wg_state.specs.WordLists.{zeros, list_at}
use Rattle.wg_state.specs.Requests.{target_of}
use Rattle.wg_semantics.specs.Calls.{Seen, Callee, callee_at, value_of, called}

-- ---- values

-- the one word of a scalar's value
abbrev pub word_of : Setting → Seen → Action State ℕ
word_of setting e = do
  words ← value_of setting.structs e
  pure (slice_index words 0)

-- an index that is not written is 0
abbrev pub index_of : Setting → Option Seen → Action State ℕ
index_of setting None = pure 0
index_of setting (Some e) = word_of setting e

abbrev pub when : {A : Type 0} → ℕ → Action State A → Action State A → Action State A
when word first second = if is_true word then first else second

-- ---- forms after a value

-- a form: what it makes of a value of a type, and the type of that
pub record Follows : Type 0 where
  pub of : TypeTree
  pub after : TypeTree → Spot → Action State Spot

-- one component is a place; several are a value
abbrev pub components_of : Setting → List ℕ → TypeTree → Spot → Action State Spot
components_of setting (c ∷ []) t p = pure (part_at (record { from = c; to = c + 1 }) p)
components_of setting components t p = do
  words ← read (fetched setting.structs t p)
  pure (spot.Value (map (slice_index words) components))

-- the index first, then the element
abbrev pub indexed : Setting → Seen → TypeTree → TypeTree → Spot → Action State Spot
indexed setting index of t p = do
  at ← word_of setting index
  pure (element_at (array_size t) (words_of setting.structs of) at p)

-- the forms, from left to right
abbrev pub followed : List Follows → TypeTree → Spot → Action State Spot
followed [] t p = pure p
followed (f ∷ rest) t p = f.after t p >>= followed rest f.of

-- ---- chains

-- an operator and its right operand: what they make of a value of a type, and the type of that
pub record Linked : Type 0 where
  pub of : TypeTree
  pub next : TypeTree → List ℕ → Action State (List ℕ)

-- the left words first, then the right operand
abbrev pub with_right : Setting → BinaryOperator → TypeTree → Seen → List ℕ → Action State (List ℕ)
with_right setting operator t e words = do
  right ← value_of setting.structs e
  pure (combined_words operator t words right)

-- `&&` and `||` evaluate only what they need
abbrev pub operated : Setting → BinaryOperator → TypeTree → Seen → List ℕ → Action State (List ℕ)
operated setting binary.And t e words = when (slice_index words 0) (value_of setting.structs e) (pure (truth false ∷ []))
operated setting binary.Or t e words = when (slice_index words 0) (pure (truth true ∷ [])) (value_of setting.structs e)
operated setting binary.Multiply t e words = with_right setting binary.Multiply t e words
operated setting binary.Divide t e words = with_right setting binary.Divide t e words
operated setting binary.Remainder t e words = with_right setting binary.Remainder t e words
operated setting binary.Add t e words = with_right setting binary.Add t e words
operated setting binary.Subtract t e words = with_right setting binary.Subtract t e words
operated setting binary.ShiftLeft t e words = with_right setting binary.ShiftLeft t e words
operated setting binary.ShiftRight t e words = with_right setting binary.ShiftRight t e words
operated setting binary.Less t e words = with_right setting binary.Less t e words
operated setting binary.Greater t e words = with_right setting binary.Greater t e words
operated setting binary.AtMost t e words = with_right setting binary.AtMost t e words
operated setting binary.AtLeast t e words = with_right setting binary.AtLeast t e words
operated setting binary.Equal t e words = with_right setting binary.Equal t e words
operated setting binary.NotEqual t e words = with_right setting binary.NotEqual t e words
operated setting binary.BitAnd t e words = with_right setting binary.BitAnd t e words
operated setting binary.BitXor t e words = with_right setting binary.BitXor t e words
operated setting binary.BitOr t e words = with_right setting binary.BitOr t e words

-- the left side is converted first, if it is of another type
abbrev pub linked : Setting → BinaryOperator → Option TypeTree → Seen → TypeTree → List ℕ → Action State (List ℕ)
linked setting operator None e t words = operated setting operator t e words
linked setting operator (Some by) e t words = operated setting operator by e (converted t by words)

abbrev pub chained : List Linked → TypeTree → List ℕ → Action State (List ℕ)
chained [] t words = pure words
chained (l ∷ rest) t words = l.next t words >>= chained rest l.of

-- ---- one layer of the tree

abbrev pub access_step : Setting → Access-F Follows (TypeTree → Action State Spot) Seen Linked → Follows
access_step setting (Access-F.Field field of) =
    record { of = of; after = λ t p. pure (part_at (field_range setting.structs t field) p) }
access_step setting (Access-F.Components components of) = record { of = of; after = components_of setting components }
access_step setting (Access-F.Index index of) = record { of = of; after = indexed setting index of }

abbrev pub link_step : Setting → TypedLink-F Follows (TypeTree → Action State Spot) Seen Linked → Linked
link_step setting l = record { of = l.of; next = linked setting l.operator l.before l.operand }

abbrev pub expr_step : TypedExpr-F Follows (TypeTree → Action State Spot) Seen Linked → Seen
expr_step e = record { of = e.of; spot = e.kind e.of }

abbrev pub valued : Action State (List ℕ) → Action State Spot
valued m = m >>= (λ words. pure (spot.Value words))

abbrev pub kind_step : Setting → List Callee → TypedKind-F Follows (TypeTree → Action State Spot) Seen Linked → TypeTree → Action State Spot
kind_step setting callees (TypedKind-F.Literal words) t = pure (spot.Value words)
kind_step setting callees (TypedKind-F.Variable variable) t = pure (spot.At (store.Variable variable) 0)
kind_step setting callees (TypedKind-F.Shared variable) t = pure (spot.At (store.Shared variable) 0)
kind_step setting callees (TypedKind-F.Element buffer index) t = do
  at ← word_of setting index
  read (buffer_element buffer (words_of setting.structs t) at)
kind_step setting callees (TypedKind-F.Load buffer address) t = do
  at ← word_of setting address
  valued (read (λ s. words_from (list_at s.world.buffers buffer) (at / 4) (words_of setting.structs t)))
kind_step setting callees (TypedKind-F.Input index) t = do
  at ← index_of setting index
  read (input_record at)
kind_step setting callees TypedKind-F.Count t = valued (read (λ s. length s.world.inputs ∷ []))
kind_step setting callees TypedKind-F.Finished t = pure (spot.Value (truth setting.last ∷ []))
kind_step setting callees (TypedKind-F.Handle handle index) t = do
  at ← index_of setting index
  read (handle_record setting handle at)
kind_step setting callees (TypedKind-F.IsValid output element) t = do
  at ← index_of setting element
  pure (spot.Value (truth (is_some (target_of setting.outputs output at)) ∷ []))
kind_step setting callees TypedKind-F.Levels t = pure (spot.Value (setting.level ∷ []))
kind_step setting callees TypedKind-F.Zeros t = pure (spot.Value (zeros (words_of setting.structs t)))
kind_step setting callees (TypedKind-F.Access base forms) t = base.spot >>= followed forms base.of
kind_step setting callees (TypedKind-F.Prefix operator operand) t = do
  words ← value_of setting.structs operand
  pure (spot.Value (prefixed_words operator t words))
kind_step setting callees (TypedKind-F.Convert operand) t = do
  words ← value_of setting.structs operand
  pure (spot.Value (converted operand.of t words))
kind_step setting callees (TypedKind-F.Chain first rest) t = do
  words ← value_of setting.structs first
  valued (chained rest first.of words)
kind_step setting callees (TypedKind-F.Choice test first other) t = do
  c ← word_of setting test
  valued (when c (value_of setting.structs first) (value_of setting.structs other))
kind_step setting callees (TypedKind-F.Construct parts) t = do
  values ← each (map (value_of setting.structs) parts)
  pure (spot.Value (put values))
kind_step setting callees (TypedKind-F.Call function arguments) t =
    valued (called setting.structs (callee_at callees function) arguments)
kind_step setting callees (TypedKind-F.Intrinsic call arguments) t = do
  values ← each (map (value_of setting.structs) arguments)
  pure (spot.Value (called_words call t values))

-- ---- whole trees, where the functions before have these meanings

-- what an expression is
abbrev pub seen : Setting → List Callee → TypedExpr → Seen
seen setting callees =
    fold-TypedExpr Follows (TypeTree → Action State Spot) Seen Linked (access_step setting) (kind_step setting callees) expr_step (link_step setting)

-- what an expression of a kind does, by its type
abbrev pub kind_does : Setting → List Callee → TypedKind → TypeTree → Action State Spot
kind_does setting callees =
    fold-TypedKind Follows (TypeTree → Action State Spot) Seen Linked (access_step setting) (kind_step setting callees) expr_step (link_step setting)

abbrev pub follows : Setting → List Callee → Access → Follows
follows setting callees =
    fold-Access Follows (TypeTree → Action State Spot) Seen Linked (access_step setting) (kind_step setting callees) expr_step (link_step setting)

abbrev pub links : Setting → List Callee → TypedLink → Linked
links setting callees =
    fold-TypedLink Follows (TypeTree → Action State Spot) Seen Linked (access_step setting) (kind_step setting callees) expr_step (link_step setting)
