-- Reading line by line: each step takes one good line, and a report's text is read as the report.
use Rattle.std.proofs.Common.{◌≡◌, ◌==◌, ℕ, suc, ◌+◌, ◌^◌, ◌<◌, List, [], ◌∷◌, ◌++◌, length, length-append, Option, Some, None, refl, sym, ap, subst, ◌∙◌, append_assoc, arith, inl, inr, ⊎_elim}
use Rattle.std.specs.List.{flat_map}
use Rattle.std.proofs.lemmas.List.{append-nil}
use Rattle.std.proofs.lemmas.List.Concat.{flat_map-cons}
use Rattle.wg_words.specs.Each.{Each}
use Rattle.wg_machine.specs.declared.shape.Shape.{Shape}
use Rattle.wg_machine.specs.declared.launch.Entry.{Entry}
use Rattle.wg_machine.specs.GoodShape.{IsGoodShape}
use Rattle.wg_machine.specs.declared.journal.Done.{Done}
use Rattle.wg_machine.specs.declared.journal.BufferLine.{BufferLine}
use Rattle.wg_machine.specs.declared.journal.Stop.{Stop}
use Rattle.wg_machine.specs.declared.journal.Stop.TheVariants.{Turns, Launches}
use Rattle.wg_machine.specs.declared.journal.Journal.{Journal}
use Rattle.wg_journal.specs.declared.lines.Line.{Line}
use Rattle.wg_journal.specs.declared.lines.Line.TheVariants as lines
use Rattle.wg_journal.specs.Names.{NamesUnits}
use Rattle.wg_text.specs.Cut.{cut}
use Rattle.wg_words.specs.Maybe.{◌>>=◌}
use Rattle.wg_journal.specs.Reading.{split_fields, line_at, with_line, step}
use Rattle.wg_journal.specs.Report.{IsGoodEntry, IsGoodBuffer, IsReport, lines_in}
use Rattle.wg_journal.specs.Texts.{launch_line, launch_lines, done_line, buffer_line, stop_line, report_text}
use Rattle.wg_journal.proofs.FieldLemmas.{some_is}
use Rattle.wg_journal.proofs.NumberLemmas.{Visible}
use Rattle.wg_journal.proofs.JoinLemmas.{joined, joined_fields, fields_joined, cut_joined, cut_takes}
use Rattle.wg_journal.proofs.LineForms.{line_fields, line_text, IsGoodLine, line_is}
use Rattle.wg_journal.proofs.LineSound.{bind_some, line_sound}
use Rattle.wg_journal.proofs.LineAgain.{line_again, visible_line}

-- ---- one step

-- a line that a step took from the front of a text
pub record Stepped (shape : Shape) (j : Journal) (text : List ℕ) (more : Journal) (rest : List ℕ) : Type 0 where
  pub line : Line
  pub is : text ≡ line_text shape (length j.entries) line ++ rest
  pub good : IsGoodLine shape line
  pub extends : with_line j line ≡ Some more

pub step_sound : (shape : Shape) (names : List ℕ → Option ℕ) → NamesUnits shape names → (j : Journal) (text : List ℕ) (more : Journal) (rest : List ℕ) → step names j text ≡ Some (more, rest) → Stepped shape j text more rest
unfolding step
step_sound shape names is j text more rest e =
    let p = bind_some (cut (λ c. c == 10) text) _ (more, rest) e in
    let l = bind_some (line_at names (length j.entries) (split_fields p.0.0)) _ (more, rest) p.2 in
    let x = bind_some (with_line j l.0) _ (more, rest) l.2 in
    let same = some_is (x.0, p.0.1) (more, rest) x.2 in
    let s = line_sound shape names is (length j.entries) (split_fields p.0.0) l.0 l.1 in
    let line : line_text shape (length j.entries) l.0 ≡ p.0.0 ++ 10 ∷ [] =
    line_is shape (length j.entries) l.0 ∙ ap (λ (t : List ℕ). t ++ 10 ∷ []) (ap joined (sym s.0) ∙ joined_fields p.0.0) in
    let whole : text ≡ line_text shape (length j.entries) l.0 ++ p.0.1 =
    cut_takes text p.0.0 p.0.1 p.1 ∙ (sym (append_assoc p.0.0 (10 ∷ []) p.0.1) ∙ ap (λ (t : List ℕ). t ++ p.0.1) (sym line)) in
    record {
      line = l.0;
      is = whole ∙ ap (λ (r : Journal × List ℕ). line_text shape (length j.entries) l.0 ++ r.1) same;
      good = s.1;
      extends = x.1 ∙ ap (λ (r : Journal × List ℕ). Some r.0) same;
    }

some_fields : (shape : Shape) (k : ℕ) (l : Line) → (f : List ℕ) × (fields : List (List ℕ)) × (line_fields shape k l ≡ f ∷ fields)
some_fields shape k (lines.Launch e) = (_, _, refl)
some_fields shape k (lines.Done d) = (_, _, refl)
some_fields shape k (lines.Buffer b) = (_, _, refl)
some_fields shape k (lines.Stop (Turns turns unit group inputs)) = (_, _, refl)
some_fields shape k (lines.Stop (Launches launches)) = (_, _, refl)

pub step_again : (shape : Shape) (good : IsGoodShape shape) (names : List ℕ → Option ℕ) → NamesUnits shape names → (j : Journal) (l : Line) (more : Journal) (rest : List ℕ) → length j.entries < 2 ^ 64 → IsGoodLine shape l → with_line j l ≡ Some more
    → step names j (line_text shape (length j.entries) l ++ rest) ≡ Some (more, rest)
unfolding step
step_again shape good names is j l more rest few g e =
    let k = length j.entries in
    let f = some_fields shape k l in
    let seen : Each Visible (f.0 ∷ f.1) = subst (λ (fs : List (List ℕ)). Each Visible fs) f.2 (visible_line shape good names is k l few g) in
    let text : line_text shape k l ++ rest ≡ joined (f.0 ∷ f.1) ++ 10 ∷ rest =
    ap (λ (t : List ℕ). t ++ rest) (line_is shape k l ∙ ap (λ (fs : List (List ℕ)). joined fs ++ 10 ∷ []) f.2) ∙ append_assoc (joined (f.0 ∷ f.1)) (10 ∷ []) rest in
    let parts = ap (cut (λ c. c == 10)) text ∙ cut_joined f.0 f.1 rest seen.0 seen.1 in
    let read : line_at names k (split_fields (joined (f.0 ∷ f.1))) ≡ Some l = ap (line_at names k) (fields_joined f.0 f.1 seen.0 seen.1 ∙ sym f.2) ∙ line_again shape names is k l few g in
    let a = ap (λ (o : Option (List ℕ × List ℕ)). o >>= λ p. line_at names k (split_fields p.0) >>= λ line. with_line j line >>= λ m. Some (m, p.1)) parts in
    let b = ap (λ (o : Option Line). o >>= λ line. with_line j line >>= λ m. Some (m, rest)) read in
    let c = ap (λ (o : Option Journal). o >>= λ m. Some (m, rest)) e in
    a ∙ (b ∙ c)

-- ---- a journal with one more line

launch_lines_push : (shape : Shape) (k : ℕ) (es : List Entry) (e : Entry) → launch_lines shape k (es ++ e ∷ []) ≡ launch_lines shape k es ++ launch_line shape (k + length es) e
launch_lines_push shape k [] e = let s : k + 0 ≡ k = omega arith in append-nil (launch_line shape k e) ∙ ap (λ (n : ℕ). launch_line shape n e) (sym s)
launch_lines_push shape k (d ∷ es) e =
    let s : k + 1 + length es ≡ k + suc (length es) = omega arith in
    ap (λ (t : List ℕ). launch_line shape k d ++ t) (launch_lines_push shape (k + 1) es e ∙ ap (λ (n : ℕ). launch_lines shape (k + 1) es ++ launch_line shape n e) s)
    ∙ sym (append_assoc (launch_line shape k d) (launch_lines shape (k + 1) es) (launch_line shape (k + suc (length es)) e))

each_push : {X : Type 0} (P : X → Type 0) (xs : List X) (x : X) → Each P xs → P x → Each P (xs ++ x ∷ [])
each_push P [] x h p = (p, tt)
each_push P (y ∷ xs) x h p = (h.0, each_push P xs x h.1 p)

buffers_push : (bs : List BufferLine) (b : BufferLine) → flat_map buffer_line (bs ++ b ∷ []) ≡ flat_map buffer_line bs ++ buffer_line b
buffers_push [] b = flat_map-cons buffer_line b [] ∙ append-nil (buffer_line b)
buffers_push (d ∷ bs) b = flat_map-cons buffer_line d (bs ++ b ∷ []) ∙ (ap (λ (t : List ℕ). buffer_line d ++ t) (buffers_push bs b) ∙ (sym (append_assoc (buffer_line d) (flat_map buffer_line bs) (buffer_line b)) ∙ ap (λ (t : List ℕ). t ++ buffer_line b) (sym (flat_map-cons buffer_line d bs))))

-- what one more line makes of a report
pub record Grows (shape : Shape) (j : Journal) (l : Line) (more : Journal) : Type 0 where
  pub report : length more.entries < 2 ^ 64 → IsReport shape more
  pub text : report_text shape more ≡ report_text shape j ++ line_text shape (length j.entries) l
  pub lines : lines_in more ≡ lines_in j + 1

abbrev pub with_tail : List Entry → Option Done → List BufferLine → Option Stop → Journal
with_tail es done bs stop = record { entries = es; tail = record { done = done; buffers = bs; stop = stop } }

grows : (shape : Shape) (es : List Entry) (done : Option Done) (bs : List BufferLine) (stop : Option Stop) (l : Line) (more : Journal) → IsReport shape (with_tail es done bs stop) → IsGoodLine shape l → with_line (with_tail es done bs stop) l ≡ Some more → Grows shape (with_tail es done bs stop) l more
grows shape es None bs None (lines.Launch e) more report good h =
    let none : bs ≡ [] = report.tail.3 refl in
    let made = with_tail (es ++ e ∷ []) None bs None in
    subst (λ (m : Journal). Grows shape (with_tail es None bs None) (lines.Launch e) m) (some_is made more h)
    (record {
      report = λ few. record { few = few; entries = each_push (IsGoodEntry shape) es e report.entries good; tail = report.tail };
      text = ap (λ (b : List BufferLine). report_text shape (with_tail (es ++ e ∷ []) None b None)) none
          ∙ (append-nil (launch_lines shape 0 (es ++ e ∷ [])) ∙ (launch_lines_push shape 0 es e ∙ (ap (λ (n : ℕ). launch_lines shape 0 es ++ launch_line shape n e) (zero_plus (length es))
          ∙ (ap (λ (t : List ℕ). t ++ launch_line shape (length es) e) (sym (append-nil (launch_lines shape 0 es))) ∙ ap (λ (b : List BufferLine). report_text shape (with_tail es None b None) ++ launch_line shape (length es) e) (sym none)))));
      lines = let n = length-append es (e ∷ []) in omega arith;
    })
  where
    zero_plus : (n : ℕ) → 0 + n ≡ n
    zero_plus n = omega arith
grows shape es None bs None (lines.Done d) more report good h =
    let none : bs ≡ [] = report.tail.3 refl in
    let made = with_tail es (Some d) bs None in
    subst (λ (m : Journal). Grows shape (with_tail es None bs None) (lines.Done d) m) (some_is made more h)
    (record {
      report = λ few. record { few = few; entries = report.entries; tail = (good, report.tail.1, tt, (λ e. absurd cc), inr refl) };
      text = ap (λ (b : List BufferLine). report_text shape (with_tail es (Some d) b None)) none ∙ (one_line (launch_lines shape 0 es) (done_line d) ∙ ap (λ (b : List BufferLine). report_text shape (with_tail es None b None) ++ done_line d) (sym none));
      lines = omega arith;
    })
  where
    one_line : (a b : List ℕ) → a ++ (b ++ [] ++ []) ≡ (a ++ []) ++ b
    one_line a b = ap (λ (t : List ℕ). a ++ t) (append-nil (b ++ []) ∙ append-nil b) ∙ ap (λ (t : List ℕ). t ++ b) (sym (append-nil a))
grows shape es None bs None (lines.Buffer b) more report good h = absurd cc
grows shape es None bs None (lines.Stop s) more report good h =
    let none : bs ≡ [] = report.tail.3 refl in
    let made = with_tail es None bs (Some s) in
    subst (λ (m : Journal). Grows shape (with_tail es None bs None) (lines.Stop s) m) (some_is made more h)
    (record {
      report = λ few. record { few = few; entries = report.entries; tail = (tt, report.tail.1, good, report.tail.3, inl refl) };
      text = ap (λ (b : List BufferLine). report_text shape (with_tail es None b (Some s))) none ∙ (one_line (launch_lines shape 0 es) (stop_line shape s) ∙ ap (λ (b : List BufferLine). report_text shape (with_tail es None b None) ++ stop_line shape s) (sym none));
      lines = omega arith;
    })
  where
    one_line : (a b : List ℕ) → a ++ b ≡ (a ++ []) ++ b
    one_line a b = ap (λ (t : List ℕ). t ++ b) (sym (append-nil a))
grows shape es (Some d) bs None (lines.Buffer b) more report good h =
    let made = with_tail es (Some d) (bs ++ b ∷ []) None in
    subst (λ (m : Journal). Grows shape (with_tail es (Some d) bs None) (lines.Buffer b) m) (some_is made more h)
    (record {
      report = λ few. record { few = few; entries = report.entries; tail = (report.tail.0, each_push IsGoodBuffer bs b report.tail.1 good, tt, (λ e. absurd cc), inr refl) };
      text = one_line (launch_lines shape 0 es) (done_line d) (flat_map buffer_line bs) (buffer_line b) (flat_map buffer_line (bs ++ b ∷ [])) (buffers_push bs b);
      lines = let n = length-append bs (b ∷ []) in omega arith;
    })
  where
    one_line : (a d b l n : List ℕ) → n ≡ b ++ l → a ++ (d ++ n ++ []) ≡ (a ++ (d ++ b ++ [])) ++ l
    one_line a d b l n e = ap (λ (t : List ℕ). a ++ t) (append-nil (d ++ n) ∙ (ap (λ (t : List ℕ). d ++ t) e ∙ (sym (append_assoc d b l) ∙ ap (λ (t : List ℕ). t ++ l) (sym (append-nil (d ++ b)))))) ∙ sym (append_assoc a (d ++ b ++ []) l)
grows shape es (Some d) bs None (lines.Launch e) more report good h = absurd cc
grows shape es (Some d) bs None (lines.Done c) more report good h = absurd cc
grows shape es (Some d) bs None (lines.Stop s) more report good h = absurd cc
grows shape es (Some d) bs (Some t) l more report good h = absurd (⊎_elim (λ e. cc) (λ e. cc) report.tail.4)
grows shape es None bs (Some t) (lines.Launch e) more report good h = absurd cc
grows shape es None bs (Some t) (lines.Done d) more report good h = absurd cc
grows shape es None bs (Some t) (lines.Buffer b) more report good h = absurd cc
grows shape es None bs (Some t) (lines.Stop s) more report good h = absurd cc

pub extended_grows : (shape : Shape) (j : Journal) (l : Line) (more : Journal) → IsReport shape j → IsGoodLine shape l → with_line j l ≡ Some more → Grows shape j l more
extended_grows shape j l more report good h = grows shape j.entries j.tail.done j.tail.buffers j.tail.stop l more report good h
