-- What the sink holds while a report is printed.
use Rattle.std.proofs.Common.{◌≡◌, ℕ, ◌+◌, ◌<◌, List, ◌++◌, length, Option, ap, sym, ◌∙◌, subst, append_assoc, drop, get_or}
use Rattle.std.proofs.lemmas.List.{at_drop_more}
use Rattle.wg_machine.specs.declared.launch.Entry.{Entry}
use Rattle.wg_machine.specs.declared.shape.Shape.{Shape}
use Rattle.wg_io.specs.Causes.{Appends, AppendsFront}
use Rattle.wg_journal.specs.Texts.{launch_line, launch_lines}
use Rattle.wg_tool.proofs.WriteLemmas.{front_after, front_of}

-- one more line
pub lines_step : (shape : Shape) (es : List Entry) (k : ℕ) (front : List ℕ) (e : Entry) → k < length es → e ≡ get_or es k e → launch_lines shape 0 es ≡ front ++ launch_lines shape k (drop k es) → launch_lines shape 0 es ≡ (front ++ launch_line shape k e) ++ launch_lines shape (k + 1) (drop (k + 1) es)
lines_step shape es k front e h is p =
    let next : launch_lines shape k (drop k es) ≡ launch_line shape k e ++ launch_lines shape (k + 1) (drop (k + 1) es) = at_drop_more (launch_lines shape k) es k e h ∙ ap (λ (x : Entry). launch_line shape k x ++ launch_lines shape (k + 1) (drop (k + 1) es)) (sym is) in
    p ∙ (ap (λ (t : List ℕ). front ++ t) next ∙ sym (append_assoc front (launch_line shape k e) (launch_lines shape (k + 1) (drop (k + 1) es))))

-- a front of one more line is a front of all lines
pub lines_front : (a b c : Option (List ℕ)) (shape : Shape) (es : List Entry) (k : ℕ) (front line : List ℕ) (e : Entry) → k < length es → e ≡ get_or es k e → launch_lines shape 0 es ≡ front ++ launch_lines shape k (drop k es) → Appends a b front → line ≡ launch_line shape k e → AppendsFront b c line → AppendsFront a c (launch_lines shape 0 es)
lines_front a b c shape es k front line e h is p q l r =
    let one : AppendsFront b c (launch_line shape k e) = subst (λ (t : List ℕ). AppendsFront b c t) l r in
    let all : AppendsFront a c ((front ++ launch_line shape k e) ++ launch_lines shape (k + 1) (drop (k + 1) es)) = front_of a c (front ++ launch_line shape k e) (launch_lines shape (k + 1) (drop (k + 1) es)) (front_after a b c front (launch_line shape k e) q one) in
    subst (λ (t : List ℕ). AppendsFront a c t) (sym (lines_step shape es k front e h is p)) all
