-- Which functions and which parts read no shared buffer. Own.
use Rattle.std.specs.Prelude.{Bool, List}
use Rattle.std.specs.List.{list_all}
use Rattle.wg_code.specs.Quiet.{are_quiet, part_quiet}
use Rattle.wg_code.specs.declared.code.Function.{Function}
use Rattle.wg_code.specs.declared.code.Part.{Part, fold-Part}

abbrev pub functions_quiet : List Function → Bool
functions_quiet functions = list_all (λ (f : Function). are_quiet f.body) functions

abbrev pub is_quiet_part : Part → Bool
is_quiet_part = fold-Part Bool part_quiet
