-- All that stands in a text on shared buffers: in the bodies of all its functions, also of those that no node calls. Own.
use Rattle.std.specs.Prelude.{List, map}
use Rattle.wg_typed.specs.declared.typed.Typed.{Typed}
use Rattle.wg_typed.specs.declared.typed.TypedFunction.{TypedFunction}
use Rattle.wg_additive.specs.Touch.{Touch, joined}
use Rattle.wg_additive.specs.StmtTouches.{stmt_touches}

abbrev pub function_touches : List TypedFunction → TypedFunction → List Touch
function_touches functions f = joined (map (stmt_touches functions) f.body)

abbrev pub text_touches : Typed → List Touch
text_touches text = joined (map (function_touches text.functions) text.functions)
