-- The report as a text: one line a launch, then how the run ended. Its format is this project's own.
use Rattle.std.specs.Prelude.{ℕ, ◌+◌, List, [], ◌∷◌, ◌++◌, Option, Some, None, slice_get, unwrap_or, codes}
use Rattle.std.specs.Option.{option_map}
use Rattle.std.specs.List.{flat_map, range_with_len}
use Rattle.std.specs.Fmt.{decimal}
use Rattle.wg_machine.specs.declared.shape.Shape.{Shape}
use Rattle.wg_machine.specs.declared.shape.Unit.{Unit}
use Rattle.wg_machine.specs.declared.shape.NodeName.{NodeName}
use Rattle.wg_machine.specs.declared.launch.Entry.{Entry}
use Rattle.wg_machine.specs.declared.journal.Done.{Done}
use Rattle.wg_machine.specs.declared.journal.BufferLine.{BufferLine}
use Rattle.wg_machine.specs.declared.journal.Stop.{Stop}
use Rattle.wg_machine.specs.declared.journal.Stop.TheVariants.{Turns, Launches}
use Rattle.wg_machine.specs.declared.journal.Tail.{Tail}
use Rattle.wg_machine.specs.declared.journal.Journal.{Journal}

-- a space and a number in decimal
abbrev pub spaced : ℕ → List ℕ
spaced n = 32 ∷ decimal n

abbrev pub all_spaced : List ℕ → List ℕ
all_spaced [] = []
all_spaced (n ∷ ns) = spaced n ++ all_spaced ns

-- a unit: `NAME[i]@level`
abbrev pub unit_text : List ℕ → ℕ → ℕ → List ℕ
unit_text name index level = name ++ codes "[" ++ decimal index ++ codes "]@" ++ decimal level

-- the unit of a number; nothing where the shape has none
abbrev pub unit_label : Shape → ℕ → List ℕ
unit_label shape u =
    unwrap_or (option_map (λ (n : Unit). unwrap_or (option_map (λ (m : NodeName). unit_text m.name m.index n.level) (slice_get shape.nodes n.node)) []) (slice_get shape.units u)) []

-- the line of the launch at a place: `K NAME[i]@level g X Y Z in A B out C D`
abbrev pub launch_line : Shape → ℕ → Entry → List ℕ
launch_line shape k e =
    decimal k ++ codes " " ++ unit_label shape e.unit ++ codes " g" ++ all_spaced e.at ++ codes " in" ++ all_spaced e.inputs
    ++ codes " out" ++ all_spaced (range_with_len e.first_out e.outs) ++ codes "\n"

-- the lines of launches, numbered on from a place
abbrev pub launch_lines : Shape → ℕ → List Entry → List ℕ
launch_lines shape k [] = []
launch_lines shape k (e ∷ entries) = launch_line shape k e ++ launch_lines shape (k + 1) entries

-- the line after the launches of a complete run: `done launches N records M denied D peak P of Q`
abbrev pub done_line : Done → List ℕ
done_line d =
    codes "done launches" ++ spaced d.launches ++ codes " records" ++ spaced d.records ++ codes " denied" ++ spaced d.denied
    ++ codes " peak" ++ spaced d.peak ++ codes " of" ++ spaced d.bytes ++ codes "\n"

-- a buffer of a complete run: `buffer NAME COUNT` and its words
abbrev pub buffer_line : BufferLine → List ℕ
buffer_line b = codes "buffer " ++ b.name ++ spaced b.count ++ all_spaced b.words ++ codes "\n"

-- a launch that spent its turns: `stopped turns T NAME[i]@level g X Y Z in A B`
abbrev pub turns_line : Shape → ℕ → ℕ → List ℕ → List ℕ → List ℕ
turns_line shape turns unit group inputs =
    codes "stopped turns" ++ spaced turns ++ codes " " ++ unit_label shape unit ++ codes " g" ++ all_spaced group ++ codes " in"
    ++ all_spaced inputs ++ codes "\n"

-- a run that spent its launches: `stopped launches L`
abbrev pub launches_line : ℕ → List ℕ
launches_line launches = codes "stopped launches" ++ spaced launches ++ codes "\n"

-- an early stop
abbrev pub stop_line : Shape → Stop → List ℕ
stop_line shape (Turns turns unit group inputs) = turns_line shape turns unit group inputs
stop_line shape (Launches launches) = launches_line launches

-- a line that may be there
abbrev pub perhaps : {X : Type 0} → (X → List ℕ) → Option X → List ℕ
perhaps line None = []
perhaps line (Some x) = line x

abbrev pub tail_text : Shape → Tail → List ℕ
tail_text shape t = perhaps done_line t.done ++ flat_map buffer_line t.buffers ++ perhaps (stop_line shape) t.stop

-- the whole report
abbrev pub report_text : Shape → Journal → List ℕ
report_text shape j = launch_lines shape 0 j.entries ++ tail_text shape j.tail
