-- Calls by a name: functions of the text, and the calls of the language (HLSL Shader Model 6.8).
use Rattle.std.specs.Prelude.{List, Option, None}
use Rattle.wg_words.specs.declared.place.Place.{Place}
use Rattle.wg_typing.specs.Scope.{Context}
use Rattle.wg_typing.specs.TypingInterlocked.{interlocked_at}
use Rattle.wg_typing.specs.TypingFunctionCall.{plain_value}
use Rattle.wg_typing.specs.TypingIntrinsic.{intrinsic_value}
use Rattle.wg_typing.specs.TypingBarrier.{barrier_value, outside_plain, plain_barrier, levels_value}
use Rattle.wg_typing.specs.declared.scope.Value.{Value}
use Rattle.wg_typing.specs.declared.part.Part.{Part}
use Rattle.wg_typing.specs.declared.called.Builtin.{Builtin}
use Rattle.wg_typing.specs.declared.called.CalledName.{CalledName}
use Rattle.wg_typing.specs.declared.called.Builtin.TheVariants as builtin
use Rattle.wg_typing.specs.declared.called.CalledName.TheVariants as called_name

abbrev pub builtin_value : Context → Place → Builtin → List Part → Option Value
builtin_value c name (builtin.OnNumbers i) parts = intrinsic_value name i parts
builtin_value c name (builtin.Interlocked f) parts = interlocked_at name f parts
builtin_value c name builtin.Levels parts = levels_value name parts
builtin_value c name (builtin.Barrier syncs) parts = outside_plain c.around (plain_barrier name syncs parts)
builtin_value c name builtin.BarrierOf parts = outside_plain c.around (barrier_value c name parts)

abbrev pub call_value : Context → Place → CalledName → List Part → Option Value
call_value c name (called_name.Plain number result parameters chain) parts = plain_value name number result parameters chain parts
call_value c name called_name.Entry parts = None
call_value c name called_name.Itself parts = None
call_value c name (called_name.Builtin b) parts = builtin_value c name b parts
call_value c name called_name.Broken parts = None
call_value c name called_name.Unknown parts = None
