-- Each line of a report by its fields.
use Rattle.std.proofs.Common.{◌≡◌, ℕ, List, [], ◌∷◌, ◌++◌, sym, ap, ◌∙◌, append_assoc}
use Rattle.std.specs.Prelude.{codes}
use Rattle.std.specs.Fmt.{decimal}
use Rattle.std.specs.List.{range_with_len}
use Rattle.wg_machine.specs.declared.shape.Shape.{Shape}
use Rattle.wg_machine.specs.declared.launch.Entry.{Entry}
use Rattle.wg_machine.specs.declared.journal.Done.{Done}
use Rattle.wg_machine.specs.declared.journal.BufferLine.{BufferLine}
use Rattle.wg_machine.specs.declared.journal.Stop.{Stop}
use Rattle.wg_machine.specs.declared.journal.Stop.TheVariants.{Turns, Launches}
use Rattle.wg_journal.specs.declared.lines.Line.{Line}
use Rattle.wg_journal.specs.declared.lines.Line.TheVariants as lines
use Rattle.wg_journal.specs.Report.{IsGoodEntry, IsGoodDone, IsGoodBuffer, IsGoodStop}
use Rattle.wg_journal.specs.Texts.{all_spaced, unit_label, launch_line, done_line, buffer_line, stop_line}
use Rattle.wg_journal.proofs.JoinLemmas.{spread, joined, decimals, spread_append, spread_decimals}

abbrev pub taken_fields : Shape → ℕ → List ℕ → List ℕ → List (List ℕ) → List (List ℕ)
taken_fields shape unit group inputs rest = unit_label shape unit ∷ codes "g" ∷ (decimals group ++ codes "in" ∷ (decimals inputs ++ rest))

abbrev pub launch_fields : Shape → ℕ → Entry → List (List ℕ)
launch_fields shape k e = decimal k ∷ taken_fields shape e.unit e.at e.inputs (codes "out" ∷ decimals (range_with_len e.first_out e.outs))

abbrev pub done_fields : Done → List (List ℕ)
done_fields d =
    codes "done" ∷ codes "launches" ∷ decimal d.launches ∷ codes "records" ∷ decimal d.records ∷ codes "denied" ∷ decimal d.denied
    ∷ codes "peak" ∷ decimal d.peak ∷ codes "of" ∷ decimal d.bytes ∷ []

abbrev pub buffer_fields : BufferLine → List (List ℕ)
buffer_fields b = codes "buffer" ∷ b.name ∷ decimal b.count ∷ decimals b.words

abbrev pub stop_fields : Shape → Stop → List (List ℕ)
stop_fields shape (Turns turns unit group inputs) = codes "stopped" ∷ codes "turns" ∷ decimal turns ∷ taken_fields shape unit group inputs []
stop_fields shape (Launches launches) = codes "stopped" ∷ codes "launches" ∷ decimal launches ∷ []

abbrev pub line_fields : Shape → ℕ → Line → List (List ℕ)
line_fields shape k (lines.Launch e) = launch_fields shape k e
line_fields shape k (lines.Done d) = done_fields d
line_fields shape k (lines.Buffer b) = buffer_fields b
line_fields shape k (lines.Stop s) = stop_fields shape s

abbrev pub line_text : Shape → ℕ → Line → List ℕ
line_text shape k (lines.Launch e) = launch_line shape k e
line_text shape k (lines.Done d) = done_line d
line_text shape k (lines.Buffer b) = buffer_line b
line_text shape k (lines.Stop s) = stop_line shape s

abbrev pub IsGoodLine : Shape → Line → Type 0
IsGoodLine shape (lines.Launch e) = IsGoodEntry shape e
IsGoodLine shape (lines.Done d) = IsGoodDone d
IsGoodLine shape (lines.Buffer b) = IsGoodBuffer b
IsGoodLine shape (lines.Stop s) = IsGoodStop shape s

taken_text : (shape : Shape) (unit : ℕ) (group inputs : List ℕ) (rest : List (List ℕ)) → spread (taken_fields shape unit group inputs rest) ≡ 32 ∷ (unit_label shape unit ++ (codes " g" ++ (all_spaced group ++ (codes " in" ++ (all_spaced inputs ++ spread rest)))))
taken_text shape unit group inputs rest =
    let inner : spread (decimals inputs ++ rest) ≡ all_spaced inputs ++ spread rest = spread_append (decimals inputs) rest ∙ ap (λ (t : List ℕ). t ++ spread rest) (spread_decimals inputs) in
    let outer : spread (decimals group ++ codes "in" ∷ (decimals inputs ++ rest)) ≡ all_spaced group ++ (codes " in" ++ (all_spaced inputs ++ spread rest)) =
    spread_append (decimals group) (codes "in" ∷ (decimals inputs ++ rest)) ∙ (ap (λ (t : List ℕ). t ++ (codes " in" ++ spread (decimals inputs ++ rest))) (spread_decimals group) ∙ ap (λ (t : List ℕ). all_spaced group ++ (codes " in" ++ t)) inner) in
    ap (λ (t : List ℕ). 32 ∷ (unit_label shape unit ++ (codes " g" ++ t))) outer

buffer_text : (name count words : List ℕ) → codes "buffer " ++ name ++ (32 ∷ count) ++ words ++ codes "\n" ≡ (codes "buffer" ++ (32 ∷ (name ++ (32 ∷ (count ++ words))))) ++ 10 ∷ []
buffer_text name count words = simp append_assoc

stop_text : (a b c d : List ℕ) → codes "stopped turns" ++ (32 ∷ a) ++ codes " " ++ b ++ codes " g" ++ c ++ codes " in" ++ d ++ codes "\n" ≡ (codes "stopped" ++ (32 ∷ (codes "turns" ++ (32 ∷ (a ++ (32 ∷ (b ++ (codes " g" ++ (c ++ (codes " in" ++ (d ++ []))))))))))) ++ 10 ∷ []
stop_text a b c d = simp append_assoc

-- a line is its fields and a line feed
pub line_is : (shape : Shape) (k : ℕ) (l : Line) → line_text shape k l ≡ joined (line_fields shape k l) ++ 10 ∷ []
line_is shape k (lines.Launch e) =
    let outs = range_with_len e.first_out e.outs in
    let t = taken_text shape e.unit e.at e.inputs (codes "out" ∷ decimals outs) in
    let o : spread (codes "out" ∷ decimals outs) ≡ codes " out" ++ all_spaced outs = ap (λ (r : List ℕ). codes " out" ++ r) (spread_decimals outs) in
    rw (t, o) (simp append_assoc)
line_is shape k (lines.Done d) = simp append_assoc
line_is shape k (lines.Buffer b) =
    buffer_text b.name (decimal b.count) (all_spaced b.words)
    ∙ ap (λ (w : List ℕ). (codes "buffer" ++ (32 ∷ (b.name ++ (32 ∷ (decimal b.count ++ w))))) ++ 10 ∷ []) (sym (spread_decimals b.words))
line_is shape k (lines.Stop (Turns turns unit group inputs)) =
    stop_text (decimal turns) (unit_label shape unit) (all_spaced group) (all_spaced inputs)
    ∙ ap (λ (w : List ℕ). (codes "stopped" ++ (32 ∷ (codes "turns" ++ (32 ∷ (decimal turns ++ w))))) ++ 10 ∷ []) (sym (taken_text shape unit group inputs []))
line_is shape k (lines.Stop (Launches launches)) = simp append_assoc
