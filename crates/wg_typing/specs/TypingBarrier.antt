-- Barriers and the flags among the arguments of `Barrier` (HLSL Shader Model 6.8, barriers).
use Rattle.std.specs.Prelude.{ℕ, ◌==◌, Bool, true, false, not, ◌&&◌, ◌||◌, if◌then◌else◌, List, [], ◌∷◌, ◌++◌, length, Option, Some, None}
use Prim.Native.String.{String}
use Rattle.wg_words.specs.declared.place.Place.{Place}
use Rattle.wg_words.specs.Maybe.{◌>>=◌}
use Rattle.wg_typing.specs.Maybe.{where_true}
use Rattle.wg_typing.specs.Named.{at_name}
use Rattle.wg_typing.specs.Conversions.{uint_type}
use Rattle.wg_typing.specs.Scope.{Context, look}
use Rattle.wg_typing.specs.Layers.{fixed, act}
use Rattle.wg_tree.specs.declared.expr.Named.{Named}
use Rattle.wg_typed.specs.declared.typed_expr.TypedKind.TheVariants as tree
use Rattle.wg_typing.specs.declared.scope.Meant.{Meant}
use Rattle.wg_typing.specs.declared.scope.Meant.TheVariants as meant
use Rattle.wg_typing.specs.declared.scope.Object.{Object}
use Rattle.wg_typing.specs.declared.scope.Object.TheVariants as object
use Rattle.wg_typing.specs.declared.scope.Value.{Value}
use Rattle.wg_typing.specs.declared.scope.Act.TheVariants as act_of
use Rattle.wg_typing.specs.declared.context.Around.{Around}
use Rattle.wg_typing.specs.declared.part.Part.{Part}
use Rattle.wg_typing.specs.declared.part.Piece.{Piece}
use Rattle.wg_typing.specs.declared.called.Flag.{Flag}
use Rattle.wg_typing.specs.declared.context.Around.TheVariants as surrounding
use Rattle.wg_typing.specs.declared.part.Piece.TheVariants as piece
use Rattle.wg_typing.specs.declared.called.Flag.TheVariants as barrier_flag

abbrev pub memory_flags : List (String × Bool)
memory_flags = ("UAV_MEMORY", false) ∷ ("GROUP_SHARED_MEMORY", false) ∷ ("NODE_INPUT_MEMORY", false) ∷ ("NODE_OUTPUT_MEMORY", false)
    ∷ ("ALL_MEMORY", false) ∷ []

-- each with whether it syncs
abbrev pub scope_flags : List (String × Bool)
scope_flags = ("GROUP_SYNC", true) ∷ ("GROUP_SCOPE", false) ∷ ("DEVICE_SCOPE", false) ∷ []

abbrev pub scope_if : Option Bool → Flag
scope_if (Some syncs) = barrier_flag.Scope syncs
scope_if None = barrier_flag.Unknown

abbrev pub flag_word : Option Bool → Option Bool → Flag
flag_word (Some m) s = barrier_flag.Memory
flag_word None s = scope_if s

abbrev pub ordered_object : Object → Flag
ordered_object (object.Buffer buffer of) = barrier_flag.Unknown
ordered_object (object.Input many record_type standing sharing) = barrier_flag.Object
ordered_object (object.Output output array record_type) = barrier_flag.Unknown
ordered_object (object.Handle handle record_type) = barrier_flag.Object

abbrev pub flag_of : Option Meant → List ℕ → Flag
flag_of (Some (meant.Object o)) name = ordered_object o
flag_of (Some meant.Broken) name = barrier_flag.Broken
flag_of (Some (meant.Struct number)) name = barrier_flag.Unknown
flag_of (Some (meant.Constant of words known)) name = barrier_flag.Unknown
flag_of (Some (meant.Shared variable of)) name = barrier_flag.Unknown
flag_of (Some (meant.Variable variable of constant)) name = barrier_flag.Unknown
flag_of (Some (meant.Function number is_entry result parameters chain)) name = barrier_flag.Unknown
flag_of (Some meant.Itself) name = barrier_flag.Unknown
flag_of None name = flag_word (at_name memory_flags name) (at_name scope_flags name)

abbrev pub flag : Context → Named → Flag
flag c name = flag_of (look name.name c.names) name.name

-- a name that is none of a barrier's: an input or a handle may stand only where it is allowed
abbrev pub is_unknown : Bool → Flag → Bool
is_unknown with_object barrier_flag.Memory = false
is_unknown with_object (barrier_flag.Scope syncs) = false
is_unknown with_object barrier_flag.Object = not with_object
is_unknown with_object barrier_flag.Broken = false
is_unknown with_object barrier_flag.Unknown = true

abbrev pub unknown_words : Context → Bool → List Piece → List Named
unknown_words c with_object [] = []
unknown_words c with_object (piece.Word name ∷ rest) = (if is_unknown with_object (flag c name) then name ∷ [] else []) ++ unknown_words c with_object rest
unknown_words c with_object (piece.Zero ∷ rest) = unknown_words c with_object rest
unknown_words c with_object (piece.Other whole ∷ rest) = unknown_words c with_object rest
unknown_words c with_object (piece.Misused ∷ rest) = unknown_words c with_object rest

-- an input or a handle stands alone
abbrev pub is_alone : List Piece → Bool
is_alone pieces = length pieces == 1

abbrev pub is_object : Flag → Bool
is_object barrier_flag.Memory = false
is_object (barrier_flag.Scope syncs) = false
is_object barrier_flag.Object = true
is_object barrier_flag.Broken = false
is_object barrier_flag.Unknown = false

abbrev pub is_broken_flag : Flag → Bool
is_broken_flag barrier_flag.Memory = false
is_broken_flag (barrier_flag.Scope syncs) = false
is_broken_flag barrier_flag.Object = false
is_broken_flag barrier_flag.Broken = true
is_broken_flag barrier_flag.Unknown = false

-- whether a piece has a broken rule inside, or a declaration
abbrev pub piece_broken : Context → Piece → Bool
piece_broken c (piece.Word name) = is_broken_flag (flag c name)
piece_broken c piece.Zero = false
piece_broken c (piece.Other whole) = not whole
piece_broken c piece.Misused = false

abbrev pub any_broken : Context → List Piece → Bool
any_broken c [] = false
any_broken c (p ∷ rest) = piece_broken c p || any_broken c rest

abbrev pub is_memory_flag : Flag → Bool
is_memory_flag barrier_flag.Memory = true
is_memory_flag (barrier_flag.Scope syncs) = false
is_memory_flag barrier_flag.Object = false
is_memory_flag barrier_flag.Broken = false
is_memory_flag barrier_flag.Unknown = false

abbrev pub all_memory : Context → List Piece → Bool
all_memory c [] = true
all_memory c (piece.Word name ∷ rest) = is_memory_flag (flag c name) && all_memory c rest
all_memory c (piece.Zero ∷ rest) = false
all_memory c (piece.Other whole ∷ rest) = false
all_memory c (piece.Misused ∷ rest) = false

-- the first argument: an input or a handle, or flags of memory
abbrev pub orders : Context → List Piece → Bool
orders c (piece.Word name ∷ []) = is_object (flag c name) || is_memory_flag (flag c name)
orders c pieces = all_memory c pieces

abbrev pub scope_of : Flag → Option Bool
scope_of barrier_flag.Memory = None
scope_of (barrier_flag.Scope syncs) = Some syncs
scope_of barrier_flag.Object = None
scope_of barrier_flag.Broken = None
scope_of barrier_flag.Unknown = None

-- a flag of a barrier
abbrev pub is_flag : Flag → Bool
is_flag barrier_flag.Memory = true
is_flag (barrier_flag.Scope syncs) = true
is_flag barrier_flag.Object = false
is_flag barrier_flag.Broken = false
is_flag barrier_flag.Unknown = false

abbrev pub piece_is_flag : Context → Piece → Bool
piece_is_flag c (piece.Word name) = is_flag (flag c name)
piece_is_flag c piece.Zero = false
piece_is_flag c (piece.Other whole) = false
piece_is_flag c piece.Misused = false

abbrev pub any_flag : Context → List Piece → Bool
any_flag c [] = false
any_flag c (p ∷ rest) = piece_is_flag c p || any_flag c rest

abbrev pub is_sync_flag : Flag → Bool
is_sync_flag barrier_flag.Memory = false
is_sync_flag (barrier_flag.Scope syncs) = syncs
is_sync_flag barrier_flag.Object = false
is_sync_flag barrier_flag.Broken = false
is_sync_flag barrier_flag.Unknown = false

abbrev pub piece_syncs : Context → Piece → Bool
piece_syncs c (piece.Word name) = is_sync_flag (flag c name)
piece_syncs c piece.Zero = false
piece_syncs c (piece.Other whole) = false
piece_syncs c piece.Misused = false

abbrev pub any_syncs : Context → List Piece → Bool
any_syncs c [] = false
any_syncs c (p ∷ rest) = piece_syncs c p || any_syncs c rest

-- A barrier syncs where one of its flags is `GROUP_SYNC`, also beside a broken one.
abbrev pub names_sync : Context → List Part → Bool
names_sync c [] = false
names_sync c (p ∷ parts) = any_syncs c p.pieces || names_sync c parts

-- whether flags of the second argument sync; none where they are not all such flags
abbrev pub scopes : Context → List Piece → Option Bool
scopes c [] = Some false
scopes c (piece.Word name ∷ rest) = do
  first ← scope_of (flag c name)
  others ← scopes c rest
  Some (first || others)
scopes c (piece.Zero ∷ rest) = None
scopes c (piece.Other whole ∷ rest) = None
scopes c (piece.Misused ∷ rest) = None

-- the second argument: 0, or flags of scope
abbrev pub syncs_of : Context → List Piece → Option Bool
syncs_of c (piece.Zero ∷ []) = Some false
syncs_of c pieces = scopes c pieces

abbrev pub barrier_value : Context → Place → List Part → Option Value
barrier_value c name (m ∷ s ∷ []) = where_true (orders c m.pieces) s.pieces >>= syncs_of c >>= (λ syncs. act name (act_of.Barrier syncs))
barrier_value c name _ = None

-- in a plain function no barrier may stand
abbrev pub outside_plain : Around → Option Value → Option Value
outside_plain (surrounding.Entry lanes) v = v
outside_plain surrounding.Plain v = None
outside_plain surrounding.Const v = v
outside_plain (surrounding.Attribute allowed) v = v

abbrev pub plain_barrier : Place → Bool → List Part → Option Value
plain_barrier name syncs [] = act name (act_of.Barrier syncs)
plain_barrier name syncs (p ∷ parts) = None

abbrev pub levels_value : Place → List Part → Option Value
levels_value name [] = fixed name uint_type tree.Levels
levels_value name (p ∷ parts) = None
