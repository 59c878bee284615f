-- Which texts are quiet: no launch of them learns a word of a shared buffer. Own.
use Rattle.std.specs.Prelude.{Bool, true, false}
use Rattle.std.specs.List.{list_all}
use Rattle.wg_typed.specs.declared.typed.Typed.{Typed}
use Rattle.wg_additive.specs.Touch.{Touch, a_read, a_store, an_addition, an_exchange}
use Rattle.wg_additive.specs.TextTouches.{text_touches}

-- An interlocked form but an addition that gives no old word is taken for a read, whatever it gives.
abbrev pub reads_nothing : Touch → Bool
reads_nothing a_read = false
reads_nothing a_store = true
reads_nothing an_addition = true
reads_nothing an_exchange = false

abbrev pub is_quiet : Typed → Bool
is_quiet text = list_all reads_nothing (text_touches text)
