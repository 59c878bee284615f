-- The sizes of a thread group and of a grid (DirectX-Specs, Work Graphs, "NodeDispatchGrid", "NodeMaxDispatchGrid"; HLSL, `numthreads`).
use Rattle.std.specs.Prelude.{ℕ, ◌*◌, nat_le, nat_lt, List, [], ◌∷◌, Option, None, unwrap_or}
use Rattle.wg_words.specs.Maybe.{◌>>=◌}
use Rattle.wg_typing.specs.Maybe.{where_true}
use Rattle.wg_typing.specs.AttributeArguments.{count_in, first_called, first_named}
use Rattle.wg_typing.specs.AttributeRange.{groups_in}
use Rattle.wg_typed.specs.declared.typed_stmt.TypedArgument.{TypedArgument}
use Rattle.wg_typed.specs.declared.typed_stmt.TypedAttribute.{TypedAttribute}
use Rattle.wg_node_attributes.specs.declared.attributes.Axes.{Axes}

abbrev pub one_each : Axes
one_each = record { x = 1; y = 1; z = 1 }

-- those of at most 1,024 threads
abbrev pub few_threads : ℕ → ℕ → ℕ → Option Axes
few_threads a b c = where_true (nat_le (a * b * c) 1024) (record { x = a; y = b; z = c })

-- three numbers of which each is at least 1
abbrev pub threads_in : List TypedArgument → Option Axes
threads_in (x ∷ y ∷ z ∷ []) = do
  a ← count_in x.value
  b ← count_in y.value
  c ← count_in z.value
  few_threads a b c
threads_in _ = None

abbrev pub threads_named : List TypedAttribute → Option Axes
threads_named attributes = first_called "NumThreads" attributes >>= (λ a. threads_in a.arguments)

-- the threads of a group: those of thread launch are 1, 1, 1
abbrev pub threads_said : List TypedAttribute → Axes
threads_said attributes = unwrap_or (threads_named attributes) one_each

-- those of less than 2^24 groups
abbrev pub few_groups : ℕ → ℕ → ℕ → Option Axes
few_groups a b c = where_true (nat_lt (a * b * c) 16777216) (record { x = a; y = b; z = c })

-- three numbers from 1 to 65,535
abbrev pub grid_in : List TypedArgument → Option Axes
grid_in (x ∷ y ∷ z ∷ []) = do
  a ← groups_in x.value
  b ← groups_in y.value
  c ← groups_in z.value
  few_groups a b c
grid_in _ = None

abbrev pub grid_named : List ℕ → List TypedAttribute → Option Axes
grid_named name attributes = first_named name attributes >>= (λ a. grid_in a.arguments)

-- the grid that the attribute of a name says
abbrev pub grid_said : List ℕ → List TypedAttribute → Axes
grid_said name attributes = unwrap_or (grid_named name attributes) one_each
