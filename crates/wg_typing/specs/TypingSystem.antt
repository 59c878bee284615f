-- The system values that parameters of an entry function take (HLSL Shader Model 6.8, semantics of compute shaders).
use Rattle.std.specs.Prelude.{Bool, true, false, ◌&&◌, nat_le, List, [], ◌∷◌, Option, Some, None}
use Prim.Native.String.{String}
use Rattle.wg_typing.specs.Conversions.{same_scalar, same_type, uint_type}
use Rattle.wg_typing.specs.Maybe.{where_true}
use Rattle.wg_typing.specs.Named.{at_name}
use Rattle.wg_tree.specs.declared.expr.Named.{Named}
use Rattle.wg_tree.specs.declared.expr.Scalar.TheVariants as scalar
use Rattle.wg_tree.specs.declared.item.Directed.{Directed}
use Rattle.wg_tree.specs.declared.item.Direction.{Direction}
use Rattle.wg_tree.specs.declared.item.Direction.TheVariants as direction
use Rattle.wg_typed.specs.declared.types.TypeTree.{TypeTree}
use Rattle.wg_typed.specs.declared.types.TypeTree.TheVariants as type
use Rattle.wg_typed.specs.declared.typed.SystemValue.{SystemValue}
use Rattle.wg_typed.specs.declared.typed.SystemValue.TheVariants as system
use Rattle.wg_typed.specs.declared.typed.TypedParameter.{TypedParameter}
use Rattle.wg_typed.specs.declared.typed.TypedParameterType.{TypedParameterType}
use Rattle.wg_typed.specs.declared.typed.TypedParameterType.TheVariants as parameter_type
use Rattle.wg_typing.specs.declared.context.Around.{Around}
use Rattle.wg_typing.specs.declared.context.Around.TheVariants as surrounding

abbrev pub system_names : List (String × SystemValue)
system_names = ("SV_DispatchThreadID", system.DispatchThreadId) ∷ ("SV_GroupID", system.GroupId)
    ∷ ("SV_GroupThreadID", system.GroupThreadId) ∷ ("SV_GroupIndex", system.GroupIndex) ∷ []

-- `uint`, `uint2` or `uint3`
abbrev pub is_uint_up_to_3 : TypeTree → Bool
is_uint_up_to_3 (type.Scalar of) = same_scalar of scalar.Uint
is_uint_up_to_3 (type.Vector of size) = same_scalar of scalar.Uint && nat_le size 3
is_uint_up_to_3 (type.Struct number) = false
is_uint_up_to_3 (type.Array of size) = false

abbrev pub is_system_type : SystemValue → TypeTree → Bool
is_system_type system.DispatchThreadId t = is_uint_up_to_3 t
is_system_type system.GroupId t = is_uint_up_to_3 t
is_system_type system.GroupThreadId t = is_uint_up_to_3 t
is_system_type system.GroupIndex t = same_type t uint_type

abbrev pub is_in : Direction → Bool
is_in direction.In = true
is_in direction.Out = false
is_in direction.InOut = false

-- a parameter that is read alone; own
abbrev pub is_read : Option Directed → Bool
is_read None = true
is_read (Some d) = is_in d.direction

abbrev pub system_named : Option Named → Option SystemValue
system_named None = None
system_named (Some n) = at_name system_names n.name

abbrev pub system_of_type : TypedParameterType → Option SystemValue → Option SystemValue
system_of_type (parameter_type.Value t) (Some s) = where_true (is_system_type s t) s
system_of_type (parameter_type.Value t) None = None
system_of_type (parameter_type.Object place word record_type) s = None

abbrev pub system_if : Bool → TypedParameterType → Option Named → Option SystemValue
system_if true of semantic = system_of_type of (system_named semantic)
system_if false of semantic = None

-- the system value that a parameter of an entry function takes
abbrev pub system_of : TypedParameter → Option SystemValue
system_of p = system_if (is_read p.direction) p.of p.semantic

-- the same in any function, by its semantic, its type and its direction
abbrev pub system_in : Around → Option Directed → TypedParameterType → Option Named → Option SystemValue
system_in (surrounding.Entry lanes) d of semantic = system_if (is_read d) of semantic
system_in surrounding.Plain d of semantic = None
system_in surrounding.Const d of semantic = None
system_in (surrounding.Attribute allowed) d of semantic = None
