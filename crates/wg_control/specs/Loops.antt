-- Loops and functions of code that is run. Own.
use Rattle.std.specs.Prelude.{Bool, true, false, ◌&&◌, List}
use Rattle.std.specs.List.{list_all}
use Rattle.wg_code.specs.Quiet.{are_quiet}
use Rattle.wg_code.specs.declared.code.Function.{Function}
use Rattle.wg_code.specs.declared.op.Op.{Op}
use Rattle.wg_operations.specs.declared.end.End.{End}
use Rattle.wg_operations.specs.declared.end.End.TheVariants as end

abbrev pub functions_quiet : List Function → Bool
functions_quiet functions = list_all (λ (f : Function). are_quiet f.body) functions

-- whether a loop's blocks do not
abbrev pub loop_reads_nothing : List Function → List Op → List Op → List Op → Bool
loop_reads_nothing functions test body step = functions_quiet functions && (are_quiet test && (are_quiet body && are_quiet step))

-- whether a loop takes another turn after one that ended so
abbrev pub comes_again : End → Bool
comes_again end.Through = false
comes_again end.Out = false
comes_again end.Again = true
