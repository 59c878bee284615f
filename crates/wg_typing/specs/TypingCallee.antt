-- What a called name is: a function of the text, or a call of the language (HLSL Shader Model 6.8, intrinsics).
use Rattle.std.specs.Prelude.{ℕ, Bool, true, false, List, [], ◌∷◌, ◌++◌, Option, Some, None}
use Prim.Native.String.{String}
use Rattle.wg_typing.specs.Named.{at_name}
use Rattle.wg_typing.specs.Scope.{Context, look}
use Rattle.wg_typing.specs.TypingInterlocked.{interlocked_names}
use Rattle.wg_tree.specs.declared.expr.Named.{Named}
use Rattle.wg_typed.specs.declared.types.TypeTree.{TypeTree}
use Rattle.wg_typed.specs.declared.typed_expr.Intrinsic.{Intrinsic}
use Rattle.wg_typed.specs.declared.typed_expr.Intrinsic.TheVariants as intrinsic
use Rattle.wg_typing.specs.declared.scope.Meant.{Meant}
use Rattle.wg_typing.specs.declared.scope.Meant.TheVariants as meant
use Rattle.wg_typing.specs.declared.scope.FormalParameter.{FormalParameter}
use Rattle.wg_typing.specs.declared.context.Around.{Around}
use Rattle.wg_typing.specs.declared.called.Builtin.{Builtin}
use Rattle.wg_typing.specs.declared.called.CalledName.{CalledName}
use Rattle.wg_typing.specs.declared.context.Around.TheVariants as surrounding
use Rattle.wg_typing.specs.declared.called.Builtin.TheVariants as builtin
use Rattle.wg_typing.specs.declared.called.CalledName.TheVariants as called_name

abbrev pub intrinsics : List (String × Intrinsic)
intrinsics = ("min", intrinsic.Min) ∷ ("max", intrinsic.Max) ∷ ("clamp", intrinsic.Clamp) ∷ ("abs", intrinsic.Abs) ∷ ("mad", intrinsic.MultiplyAdd)
    ∷ ("countbits", intrinsic.CountBits) ∷ ("firstbithigh", intrinsic.FirstBitHigh) ∷ ("firstbitlow", intrinsic.FirstBitLow)
    ∷ ("reversebits", intrinsic.ReverseBits) ∷ ("any", intrinsic.Any) ∷ ("all", intrinsic.All) ∷ ("select", intrinsic.Select)
    ∷ ("and", intrinsic.And) ∷ ("or", intrinsic.Or) ∷ []

abbrev pub barriers : List (String × Builtin)
barriers = ("GroupMemoryBarrier", builtin.Barrier false) ∷ ("GroupMemoryBarrierWithGroupSync", builtin.Barrier true) ∷ ("DeviceMemoryBarrier", builtin.Barrier false)
    ∷ ("DeviceMemoryBarrierWithGroupSync", builtin.Barrier true) ∷ ("AllMemoryBarrier", builtin.Barrier false) ∷ ("AllMemoryBarrierWithGroupSync", builtin.Barrier true)
    ∷ ("Barrier", builtin.BarrierOf) ∷ []

abbrev pub as_builtins : {X : Type 0} → (X → Builtin) → List (String × X) → List (String × Builtin)
as_builtins f [] = []
as_builtins f (x ∷ rest) = (x.0, f x.1) ∷ as_builtins f rest

-- in any function
abbrev pub everywhere : List (String × Builtin)
everywhere = as_builtins builtin.OnNumbers intrinsics ++ (as_builtins builtin.Interlocked interlocked_names ++ barriers)

-- the level is known in an entry function alone
abbrev pub builtins : Around → List (String × Builtin)
builtins (surrounding.Entry lanes) = ("GetRemainingRecursionLevels", builtin.Levels) ∷ everywhere
builtins surrounding.Plain = everywhere
builtins surrounding.Const = everywhere
builtins (surrounding.Attribute allowed) = everywhere

abbrev pub builtin_if : Option Builtin → CalledName
builtin_if (Some b) = called_name.Builtin b
builtin_if None = called_name.Unknown

abbrev pub function_if : ℕ → Bool → Option TypeTree → List FormalParameter → ℕ → CalledName
function_if number true result parameters chain = called_name.Entry
function_if number false result parameters chain = called_name.Plain number result parameters chain

abbrev pub callee_of : Option Meant → Option Builtin → CalledName
callee_of (Some (meant.Function number is_entry result parameters chain)) b = function_if number is_entry result parameters chain
callee_of (Some meant.Itself) b = called_name.Itself
callee_of (Some meant.Broken) b = called_name.Broken
callee_of (Some (meant.Struct number)) b = called_name.Unknown
callee_of (Some (meant.Constant of words known)) b = called_name.Unknown
callee_of (Some (meant.Shared variable of)) b = called_name.Unknown
callee_of (Some (meant.Variable variable of constant)) b = called_name.Unknown
callee_of (Some (meant.Object object)) b = called_name.Unknown
callee_of None b = builtin_if b

abbrev pub callee : Context → Named → CalledName
callee c name = callee_of (look name.name c.names) (at_name (builtins c.around) name.name)
