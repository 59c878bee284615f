-- The tables of methods, part by part. Own.
use Rattle.std.specs.Prelude.{◌++◌, if◌then◌else◌, Bool, List, [], ◌∷◌}
use Prim.Native.String.{String}
use Rattle.wg_typing.specs.TypingObjects.{stores, interlocked_methods, is_shared}
use Rattle.wg_typing.specs.TypingInterlocked.{interlocked_names}
use Rattle.wg_typing.specs.declared.called.Method.{Method}
use Rattle.wg_typing.specs.declared.called.Method.TheVariants as method
use Rattle.wg_typing.specs.declared.scope.Sharing.{Sharing}

-- those of a raw buffer that can be written
abbrev pub writing : List (String × Method)
writing = stores ++ interlocked_methods interlocked_names

-- of an input whose words its groups share
abbrev pub finishing : Sharing → List (String × Method)
finishing s = if is_shared s then ("FinishedCrossGroupSharing", method.Finished) ∷ [] else []

-- of an input that has records
abbrev pub of_records : Bool → Sharing → List (String × Method)
of_records many s = ("Get", method.Get) ∷ ((if many then ("Count", method.Count) ∷ [] else []) ++ finishing s)
