-- Many lines: a report's text is read as the report and nothing else, and a line that is refused begins no report.
use Rattle.std.proofs.Common.{◌≡◌, ◌≢◌, ℕ, zero, suc, ◌+◌, ◌-◌, ◌^◌, ◌<◌, ◌≤◌, List, [], ◌∷◌, ◌++◌, length, length-append, Option, Some, None, refl, sym, ap, subst, ◌∙◌, append_assoc, arith, inl, ⊎_elim}
use Rattle.std.specs.List.{flat_map}
use Rattle.std.proofs.lemmas.List.{append-nil}
use Rattle.std.proofs.lemmas.List.Concat.{flat_map-cons}
use Rattle.wg_words.specs.Each.{Each}
use Rattle.wg_machine.specs.declared.shape.Shape.{Shape}
use Rattle.wg_machine.specs.declared.launch.Entry.{Entry}
use Rattle.wg_machine.specs.GoodShape.{IsGoodShape}
use Rattle.wg_machine.specs.declared.journal.Done.{Done}
use Rattle.wg_machine.specs.declared.journal.BufferLine.{BufferLine}
use Rattle.wg_machine.specs.declared.journal.Stop.{Stop}
use Rattle.wg_machine.specs.declared.journal.Journal.{Journal}
use Rattle.wg_journal.specs.declared.lines.Line.{Line}
use Rattle.wg_journal.specs.declared.lines.Line.TheVariants as lines
use Rattle.wg_journal.specs.Names.{NamesUnits}
use Rattle.wg_words.specs.Maybe.{◌>>=◌}
use Rattle.wg_journal.specs.Reading.{step}
use Rattle.wg_journal.specs.Report.{IsGoodEntry, IsGoodBuffer, IsReport, lines_in, IsFirstBadLine}
use Rattle.wg_journal.specs.Texts.{launch_line, launch_lines, done_line, buffer_line, stop_line, tail_text, report_text}
use Rattle.wg_journal.proofs.FieldLemmas.{some_is}
use Rattle.wg_journal.proofs.LineSound.{bind_some}
use Rattle.wg_journal.proofs.LineForms.{line_text, line_is}
use Rattle.wg_journal.proofs.StepLemmas.{with_tail, step_sound, step_again, extended_grows}

abbrev pub empty : Journal
empty = with_tail [] None [] None

-- so many steps
pub steps : (List ℕ → Option ℕ) → ℕ → Journal → List ℕ → Option (Journal × List ℕ)
steps names zero j text = Some (j, text)
steps names (suc n) j text = step names j text >>= λ r. steps names n r.0 r.1

steps_then : (names : List ℕ → Option ℕ) (m n : ℕ) (j : Journal) (text : List ℕ) (k : Journal) (rest : List ℕ) → steps names m j text ≡ Some (k, rest) → steps names (m + n) j text ≡ steps names n k rest
unfolding steps
steps_then names zero n j text k rest e =
    let z : 0 + n ≡ n = omega arith in
    ap (λ (i : ℕ). steps names i j text) z ∙ ap (λ (r : Journal × List ℕ). steps names n r.0 r.1) (some_is (j, text) (k, rest) e)
steps_then names (suc m) n j text k rest e =
    let b = bind_some (step names j text) (λ r. steps names m r.0 r.1) (k, rest) e in
    let s : suc m + n ≡ suc (m + n) = omega arith in
    ap (λ (i : ℕ). steps names i j text) s ∙ (ap (λ (o : Option (Journal × List ℕ)). o >>= λ r. steps names (m + n) r.0 r.1) b.1 ∙ steps_then names m n b.0.0 b.0.1 k rest b.2)

one_step : (names : List ℕ → Option ℕ) (j : Journal) (text : List ℕ) → steps names 1 j text ≡ step names j text
unfolding steps
one_step names j text = choice (step names j text)
  where
    choice : (o : Option (Journal × List ℕ)) → (o >>= λ r. Some (r.0, r.1)) ≡ o
    choice None = refl
    choice (Some r) = refl

none_at_end : (names : List ℕ → Option ℕ) (j : Journal) → step names j [] ≡ None
unfolding step
none_at_end names j = refl

pub steps_more : (names : List ℕ → Option ℕ) (n : ℕ) (j : Journal) (text : List ℕ) (k : Journal) (rest : List ℕ) → steps names n j text ≡ Some (k, rest) → steps names (n + 1) j text ≡ step names k rest
steps_more names n j text k rest e = steps_then names n 1 j text k rest e ∙ one_step names k rest

pub steps_none : (names : List ℕ → Option ℕ) (text : List ℕ) → steps names 0 empty text ≡ Some (empty, text)
unfolding steps
steps_none names text = refl

-- ---- a report's text is read as the report

launches_again : (shape : Shape) (good : IsGoodShape shape) (names : List ℕ → Option ℕ) → NamesUnits shape names → (pre es : List Entry) (more : List ℕ) → length pre + length es < 2 ^ 64 → Each (IsGoodEntry shape) es
    → steps names (length es) (with_tail pre None [] None) (launch_lines shape (length pre) es ++ more) ≡ Some (with_tail (pre ++ es) None [] None, more)
unfolding steps
launches_again shape good names is pre [] more few each = ap (λ (l : List Entry). Some (with_tail l None [] None, more)) (sym (append-nil pre))
launches_again shape good names is pre (e ∷ es) more few each =
    let rest = launch_lines shape (length pre + 1) es ++ more in
    let text : (launch_line shape (length pre) e ++ launch_lines shape (length pre + 1) es) ++ more ≡ launch_line shape (length pre) e ++ rest = append_assoc (launch_line shape (length pre) e) (launch_lines shape (length pre + 1) es) more in
    let one : step names (with_tail pre None [] None) (launch_line shape (length pre) e ++ rest) ≡ Some (with_tail (pre ++ e ∷ []) None [] None, rest) =
    step_again shape good names is (with_tail pre None [] None) (lines.Launch e) (with_tail (pre ++ e ∷ []) None [] None) rest (omega arith) each.0 refl in
    let n : length pre + 1 ≡ length (pre ++ e ∷ []) = omega (arith, length-append pre (e ∷ [])) in
    let ih = launches_again shape good names is (pre ++ e ∷ []) es more (omega arith) each.1 in
    ap (λ (o : Option (Journal × List ℕ)). o >>= λ r. steps names (length es) r.0 r.1) (ap (step names (with_tail pre None [] None)) text ∙ one)
    ∙ (ap (λ (k : ℕ). steps names (length es) (with_tail (pre ++ e ∷ []) None [] None) (launch_lines shape k es ++ more)) n
    ∙ (ih ∙ ap (λ (l : List Entry). Some (with_tail l None [] None, more)) (append_assoc pre (e ∷ []) es)))

buffers_again : (shape : Shape) (good : IsGoodShape shape) (names : List ℕ → Option ℕ) → NamesUnits shape names → (es : List Entry) (d : Done) (pre bs : List BufferLine) (more : List ℕ) → length es < 2 ^ 64 → Each IsGoodBuffer bs
    → steps names (length bs) (with_tail es (Some d) pre None) (flat_map buffer_line bs ++ more) ≡ Some (with_tail es (Some d) (pre ++ bs) None, more)
unfolding steps
buffers_again shape good names is es d pre [] more few each = ap (λ (l : List BufferLine). Some (with_tail es (Some d) l None, more)) (sym (append-nil pre))
buffers_again shape good names is es d pre (b ∷ bs) more few each =
    let rest = flat_map buffer_line bs ++ more in
    let text : flat_map buffer_line (b ∷ bs) ++ more ≡ buffer_line b ++ rest = ap (λ (t : List ℕ). t ++ more) (flat_map-cons buffer_line b bs) ∙ append_assoc (buffer_line b) (flat_map buffer_line bs) more in
    let one : step names (with_tail es (Some d) pre None) (buffer_line b ++ rest) ≡ Some (with_tail es (Some d) (pre ++ b ∷ []) None, rest) =
    step_again shape good names is (with_tail es (Some d) pre None) (lines.Buffer b) (with_tail es (Some d) (pre ++ b ∷ []) None) rest few each.0 refl in
    let ih = buffers_again shape good names is es d (pre ++ b ∷ []) bs more few each.1 in
    ap (λ (o : Option (Journal × List ℕ)). o >>= λ r. steps names (length bs) r.0 r.1) (ap (step names (with_tail es (Some d) pre None)) text ∙ one)
    ∙ (ih ∙ ap (λ (l : List BufferLine). Some (with_tail es (Some d) l None, more)) (append_assoc pre (b ∷ []) bs))

tail_again : (shape : Shape) (good : IsGoodShape shape) (names : List ℕ → Option ℕ) → NamesUnits shape names → (es : List Entry) (done : Option Done) (bs : List BufferLine) (stop : Option Stop) (more : List ℕ) → IsReport shape (with_tail es done bs stop) → (n : ℕ) → length es + n ≡ lines_in (with_tail es done bs stop)
    → steps names n (with_tail es None [] None) (tail_text shape (record { done = done; buffers = bs; stop = stop }) ++ more) ≡ Some (with_tail es done bs stop, more)
unfolding steps
tail_again shape good names is es None bs None more report n e =
    let none : bs ≡ [] = report.tail.3 refl in
    let length_none : length bs ≡ 0 = ap (λ (l : List BufferLine). length l) none in
    let zero_is : n ≡ 0 = omega arith in
    ap (λ (k : ℕ). steps names k (with_tail es None [] None) (tail_text shape (record { done = None; buffers = bs; stop = None }) ++ more)) zero_is
    ∙ (ap (λ (b : List BufferLine). Some (with_tail es None [] None, tail_text shape (record { done = None; buffers = b; stop = None }) ++ more)) none
    ∙ ap (λ (b : List BufferLine). Some (with_tail es None b None, more)) (sym none))
tail_again shape good names is es None bs (Some s) more report n e =
    let none : bs ≡ [] = report.tail.3 refl in
    let length_none : length bs ≡ 0 = ap (λ (l : List BufferLine). length l) none in
    let one_is : n ≡ 1 = omega arith in
    let one : step names (with_tail es None [] None) (stop_line shape s ++ more) ≡ Some (with_tail es None [] (Some s), more) =
    step_again shape good names is (with_tail es None [] None) (lines.Stop s) (with_tail es None [] (Some s)) more report.few report.tail.2 refl in
    ap (λ (k : ℕ). steps names k (with_tail es None [] None) (tail_text shape (record { done = None; buffers = bs; stop = Some s }) ++ more)) one_is
    ∙ (ap (λ (b : List BufferLine). steps names 1 (with_tail es None [] None) (tail_text shape (record { done = None; buffers = b; stop = Some s }) ++ more)) none
    ∙ (one_step names (with_tail es None [] None) (stop_line shape s ++ more) ∙ (one
    ∙ ap (λ (b : List BufferLine). Some (with_tail es None b (Some s), more)) (sym none))))
tail_again shape good names is es (Some d) bs None more report n e =
    let is_suc : n ≡ suc (length bs) = omega arith in
    let rest = flat_map buffer_line bs ++ more in
    let text : (done_line d ++ flat_map buffer_line bs ++ []) ++ more ≡ done_line d ++ rest = ap (λ (t : List ℕ). t ++ more) (append-nil (done_line d ++ flat_map buffer_line bs)) ∙ append_assoc (done_line d) (flat_map buffer_line bs) more in
    let one : step names (with_tail es None [] None) (done_line d ++ rest) ≡ Some (with_tail es (Some d) [] None, rest) =
    step_again shape good names is (with_tail es None [] None) (lines.Done d) (with_tail es (Some d) [] None) rest report.few report.tail.0 refl in
    ap (λ (k : ℕ). steps names k (with_tail es None [] None) ((done_line d ++ flat_map buffer_line bs ++ []) ++ more)) is_suc
    ∙ (ap (λ (o : Option (Journal × List ℕ)). o >>= λ r. steps names (length bs) r.0 r.1) (ap (step names (with_tail es None [] None)) text ∙ one)
    ∙ buffers_again shape good names is es d [] bs more report.few report.tail.1)
tail_again shape good names is es (Some d) bs (Some s) more report n e = absurd (⊎_elim (λ h. cc) (λ h. cc) report.tail.4)

pub report_again : (shape : Shape) (good : IsGoodShape shape) (names : List ℕ → Option ℕ) → NamesUnits shape names → (j : Journal) (more : List ℕ) → IsReport shape j → steps names (lines_in j) empty (report_text shape j ++ more) ≡ Some (j, more)
report_again shape good names is j more report =
    let es = j.entries in
    let after = tail_text shape j.tail ++ more in
    let n = tail_lines (length es) (lines_in j) (omega arith) in
    let first = launches_again shape good names is [] es after (omega (arith, report.few)) report.entries in
    ap (λ (k : ℕ). steps names k empty (report_text shape j ++ more)) (sym n.1)
    ∙ (ap (steps names (length es + n.0) empty) (append_assoc (launch_lines shape 0 es) (tail_text shape j.tail) more)
    ∙ (steps_then names (length es) n.0 empty (launch_lines shape 0 es ++ after) (with_tail es None [] None) after first
    ∙ tail_again shape good names is es j.tail.done j.tail.buffers j.tail.stop more report n.0 n.1))
  where
    tail_lines : (a b : ℕ) → a ≤ b → (n : ℕ) × (a + n ≡ b)
    tail_lines a b h = (b - a, omega arith)

-- ---- and nothing else is

-- two runs that come to the end of a text agree
ends : (names : List ℕ → Option ℕ) (m n : ℕ) (j : Journal) (text : List ℕ) (a b : Journal) → steps names m j text ≡ Some (a, []) → steps names n j text ≡ Some (b, []) → a ≡ b
unfolding steps
ends names zero zero j text a b p q =
    let x = ap (λ (r : Journal × List ℕ). r.0) (some_is (j, text) (a, []) p) in
    let y = ap (λ (r : Journal × List ℕ). r.0) (some_is (j, text) (b, []) q) in
    sym x ∙ y
ends names zero (suc n) j text a b p q =
    let t : text ≡ [] = ap (λ (r : Journal × List ℕ). r.1) (some_is (j, text) (a, []) p) in
    let s = bind_some (step names j text) (λ r. steps names n r.0 r.1) (b, []) q in
    let z : None ≡ Some s.0 = sym (ap (step names j) t ∙ none_at_end names j) ∙ s.1 in
    absurd (cc z)
ends names (suc m) zero j text a b p q =
    let t : text ≡ [] = ap (λ (r : Journal × List ℕ). r.1) (some_is (j, text) (b, []) q) in
    let s = bind_some (step names j text) (λ r. steps names m r.0 r.1) (a, []) p in
    let z : None ≡ Some s.0 = sym (ap (step names j) t ∙ none_at_end names j) ∙ s.1 in
    absurd (cc z)
ends names (suc m) (suc n) j text a b p q =
    let s = bind_some (step names j text) (λ r. steps names m r.0 r.1) (a, []) p in
    let t = bind_some (step names j text) (λ r. steps names n r.0 r.1) (b, []) q in
    let same = some_is s.0 t.0 (sym s.1 ∙ t.1) in
    ends names m n t.0.0 t.0.1 a b (subst (λ (r : Journal × List ℕ). steps names m r.0 r.1 ≡ Some (a, [])) same s.2) t.2

-- a run that is stuck before the end comes to no end
stuck : (names : List ℕ → Option ℕ) (m n : ℕ) (j : Journal) (text : List ℕ) (a b : Journal) (rest : List ℕ) → steps names m j text ≡ Some (a, rest) → rest ≢ [] → step names a rest ≡ None → steps names n j text ≡ Some (b, []) → ⊥
unfolding steps
stuck names zero zero j text a b rest p some e q =
    let x = ap (λ (r : Journal × List ℕ). r.1) (some_is (j, text) (a, rest) p) in
    let y = ap (λ (r : Journal × List ℕ). r.1) (some_is (j, text) (b, []) q) in
    some (sym x ∙ y)
stuck names zero (suc n) j text a b rest p some e q =
    let same = some_is (j, text) (a, rest) p in
    let s = bind_some (step names j text) (λ r. steps names n r.0 r.1) (b, []) q in
    let z : None ≡ Some s.0 = sym e ∙ (ap (λ (r : Journal × List ℕ). step names r.0 r.1) (sym same) ∙ s.1) in
    cc z
stuck names (suc m) zero j text a b rest p some e q =
    let t : text ≡ [] = ap (λ (r : Journal × List ℕ). r.1) (some_is (j, text) (b, []) q) in
    let s = bind_some (step names j text) (λ r. steps names m r.0 r.1) (a, rest) p in
    let z : None ≡ Some s.0 = sym (ap (step names j) t ∙ none_at_end names j) ∙ s.1 in
    cc z
stuck names (suc m) (suc n) j text a b rest p some e q =
    let s = bind_some (step names j text) (λ r. steps names m r.0 r.1) (a, rest) p in
    let t = bind_some (step names j text) (λ r. steps names n r.0 r.1) (b, []) q in
    let same = some_is s.0 t.0 (sym s.1 ∙ t.1) in
    stuck names m n t.0.0 t.0.1 a b rest (subst (λ (r : Journal × List ℕ). steps names m r.0 r.1 ≡ Some (a, rest)) same s.2) some e t.2

whole_text : (shape : Shape) (good : IsGoodShape shape) (names : List ℕ → Option ℕ) → NamesUnits shape names → (text : List ℕ) (j : Journal) → IsReport shape j → text ≡ report_text shape j → steps names (lines_in j) empty text ≡ Some (j, [])
whole_text shape good names is text j report e = ap (steps names (lines_in j) empty) (e ∙ sym (append-nil (report_text shape j))) ∙ report_again shape good names is j [] report

pub only_one : (shape : Shape) (good : IsGoodShape shape) (names : List ℕ → Option ℕ) → NamesUnits shape names → (text : List ℕ) (n : ℕ) (read j : Journal) → steps names n empty text ≡ Some (read, []) → IsReport shape j → text ≡ report_text shape j → read ≡ j
only_one shape good names is text n read j e report t = ends names n (lines_in j) empty text read j e (whole_text shape good names is text j report t)

pub no_report : (shape : Shape) (good : IsGoodShape shape) (names : List ℕ → Option ℕ) → NamesUnits shape names → (text : List ℕ) (n : ℕ) (read : Journal) (rest : List ℕ) → steps names n empty text ≡ Some (read, rest) → rest ≢ [] → step names read rest ≡ None → (j : Journal) → IsReport shape j → text ≡ report_text shape j → ⊥
no_report shape good names is text n read rest e some none j report t = stuck names n (lines_in j) empty text read j rest e some none (whole_text shape good names is text j report t)

pub bad_line : (shape : Shape) (good : IsGoodShape shape) (names : List ℕ → Option ℕ) → NamesUnits shape names → (text : List ℕ) (read : Journal) (rest : List ℕ) (number : ℕ) → steps names (lines_in read) empty text ≡ Some (read, rest) → IsReport shape read → text ≡ report_text shape read ++ rest → rest ≢ [] → step names read rest ≡ None → lines_in read + 1 ≡ number → IsFirstBadLine shape text number
bad_line shape good names is text read rest number e report t some none n =
    record {
      front = read;
      is_report = report;
      before = n;
      rest = rest;
      begins = t;
      more = some;
      bad = λ j after r k u. (
          let other : steps names (lines_in j) empty text ≡ Some (j, after) = ap (steps names (lines_in j) empty) u ∙ report_again shape good names is j after r in
          let here : steps names (lines_in j) empty text ≡ None = ap (λ (i : ℕ). steps names i empty text) (k ∙ sym n) ∙ (steps_more names (lines_in read) empty text read rest e ∙ none) in
          let z : None ≡ Some (j, after) = sym here ∙ other in
          cc z);
    }

-- ---- the loop's step

pub record Goes (shape : Shape) (names : List ℕ → Option ℕ) (text : List ℕ) (j : Journal) (rest : List ℕ) (number : ℕ) : Type 0 where
  pub report : IsReport shape j
  pub begins : text ≡ report_text shape j ++ rest
  pub lines : lines_in j + 1 ≡ number
  pub read : steps names (lines_in j) empty text ≡ Some (j, rest)
  pub fits : lines_in j + length rest ≤ length text

pub goes_first : (shape : Shape) (names : List ℕ → Option ℕ) (text : List ℕ) → Goes shape names text empty text 1
goes_first shape names text = record { report = record { few = omega arith; entries = tt; tail = (tt, tt, tt, (λ e. refl), inl refl) }; begins = refl; lines = omega arith; read = steps_none names text; fits = omega arith }

some_line : (shape : Shape) (k : ℕ) (l : Line) → 1 ≤ length (line_text shape k l)
some_line shape k l = let e = ap (λ (t : List ℕ). length t) (line_is shape k l) in omega (arith, length-append {A = ℕ})

pub goes_on : (shape : Shape) (names : List ℕ → Option ℕ) → NamesUnits shape names → (text : List ℕ) (j : Journal) (rest : List ℕ) (number : ℕ) (more : Journal) (after : List ℕ) → length text < 2 ^ 64 → Goes shape names text j rest number → step names j rest ≡ Some (more, after) → Goes shape names text more after (number + 1) × (length after < length rest)
goes_on shape names is text j rest number more after few g e =
    let s = step_sound shape names is j rest more after e in
    let x = extended_grows shape j s.line more g.report s.good s.extends in
    let k = length j.entries in
    let l = some_line shape k s.line in
    let parts = ap (λ (t : List ℕ). length t) s.is ∙ length-append (line_text shape k s.line) after in
    let n = x.lines in
    let fits = g.fits in
    let lines = g.lines in
    let number_is : lines_in j + 1 ≡ lines_in more = omega arith in (
      record {
        report = x.report (omega arith);
        begins = g.begins ∙ (ap (λ (t : List ℕ). report_text shape j ++ t) s.is ∙ (sym (append_assoc (report_text shape j) (line_text shape k s.line) after) ∙ ap (λ (t : List ℕ). t ++ after) (sym x.text)));
        lines = omega arith;
        read = ap (λ (i : ℕ). steps names i empty text) (sym number_is) ∙ (steps_more names (lines_in j) empty text j rest g.read ∙ e);
        fits = omega arith;
      },
      omega arith,
    )
