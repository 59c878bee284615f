-- Runs of a graph of the first form.
use Rattle.std.proofs.Common.{◌≡◌, ◌≢◌, ℕ, zero, suc, ◌+◌, ◌*◌, ◌<◌, ◌≤◌, List, [], ◌∷◌, ◌++◌, length, Some, None, refl, ap, sym, ◌∙◌, subst, arith}
use Rattle.std.proofs.lemmas.List.{length_push}
use Rattle.wg_machine.specs.declared.launch.Entry.{Entry}
use Rattle.wg_machine.specs.Step.{entry_of}
use Rattle.wg_machine.specs.LaunchMeaning.{Meaning}
use Rattle.wg_standing.specs.declared.pending.Pending.{Pending}
use Rattle.wg_standing.specs.Core.{CoreView, core_begun}
use Rattle.wg_standing.specs.Moves.{TakesStep}
use Rattle.wg_standing.specs.Outs.{launch_now}
use Rattle.std.specs.Prelude.{slice_get, slice_index, unwrap_or}
use Rattle.std.specs.Option.{option_map}
use Rattle.std.proofs.Common.{Option, ◌^◌, ◌%◌}
use Rattle.wg_words.specs.Each.{Each}
use Rattle.wg_machine.specs.declared.launch.Sent.{Sent}
use Rattle.wg_machine.specs.declared.shape.Kind.TheVariants.{Thread}
use Rattle.wg_machine.specs.declared.shape.Shape.{Shape}
use Rattle.wg_machine.specs.declared.shape.Unit.{Unit}
use Rattle.wg_machine.specs.Buffers.{Buffers}
use Rattle.wg_machine.specs.Bytes.{KeepsSlots, live_bytes, plan_bytes, peak}
use Rattle.wg_machine.specs.Choice.{SomeHasRoom}
use Rattle.wg_machine.specs.Fitting.{IsLawful, OnlyThreads, SendsOne}
use Rattle.wg_machine.specs.GoodShape.{IsGoodShape}
use Rattle.wg_machine.specs.LaunchMeaning.{Arrives}
use Rattle.wg_machine.specs.Run.{IsRun, IsComplete, EachOnce, EachState, all_born}
use Rattle.wg_machine.specs.State.{State, start}
use Rattle.wg_machine.specs.Step.{Passed}
use Rattle.wg_machine.specs.Units.{words_at}
use Rattle.wg_engine.specs.Ending.{IsReport}
use Rattle.wg_engine.specs.declared.report.Report.{Report}
use Rattle.wg_standing.specs.Standing.{StandsFor}
use Rattle.wg_standing.specs.Idle.{IsIdle}
use Rattle.wg_machine.specs.declared.journal.Done.{Done}
use Rattle.wg_machine.specs.declared.journal.Journal.{Journal}
use Rattle.wg_tool.specs.declared.pair.Pair.{Pair}
use Rattle.wg_tool.specs.Ending.{done_by}
use Rattle.wg_tool.specs.Report.{IsReportOfRun, complete_report, done_of_run}
use Rattle.wg_machine.specs.declared.launch.Limits.{Limits}
use Rattle.wg_tool.specs.Running.{IsOnlyOut, IsRunnable, RanOne, IsShort, default_limits}
use Rattle.wg_tool.specs.Script.{IsFormScript, IsFormEntry}
use Rattle.wg_tool.specs.SenderLaws.{IsWired, sender_lawful}
use Rattle.wg_tool.specs.Sending.{sender, target_at, one_sent, word_of_launch}
use Rattle.wg_tool.specs.Wiring.{unit_of, later_units, targets_of, shape_of}
use Rattle.wg_tool.proofs.GoodShapes.{unit_there, length_targets}
use Rattle.wg_tool.proofs.ShapeLemmas.{unit_at, length_units}

lone : (before later : List Pending) (p o : Pending) → before ++ p ∷ later ≡ o ∷ [] → before ++ later ≡ []
lone [] later p o e = cc
lone (x ∷ []) later p o e = absurd (cc)
lone (x ∷ y ∷ before) later p o e = absurd (cc)

-- the one launch that was out has made its step
pub ran_one : (made : Meaning) (old new : CoreView) (ticket : ℕ) → IsOnlyOut old ticket → TakesStep made old new ticket → RanOne old new
ran_one made old new ticket out s =
    let e = entry_of (launch_now old.shape old.bag s.pending) s.pending.at old.next s.outcome in
    record {
      ready = record {
        outs = ap (λ (c : CoreView). c.outs) s.after ∙ lone s.before s.later s.pending out.pending (sym s.was_out ∙ out.out);
        free = ap (λ (c : CoreView). c.stopped) s.after ∙ out.free;
      };
      longer = ap (λ (c : CoreView). length c.journal) s.after ∙ length_push old.journal e;
    }

-- the law that runs of such graphs are short
abbrev pub ShortLaw : Type 0
ShortLaw =
    (shape : Shape) (made : Meaning) (turns : ℕ) (script : List Sent) (buffers : Buffers) (entries : List Entry) (trail : List Passed) (final : State)
    → IsGoodShape shape → IsLawful shape made → OnlyThreads shape → SendsOne shape made → Each (Arrives shape) script
    → IsRun shape made turns (start shape script buffers) entries trail final → length entries ≤ 32 * length script

-- the law that complete runs take each group once
abbrev pub OnceLaw : Type 0
OnceLaw =
    (shape : Shape) (made : Meaning) (turns : ℕ) (script : List Sent) (buffers : Buffers) (entries : List Entry) (trail : List Passed) (final : State)
    → IsRun shape made turns (start shape script buffers) entries trail final → IsComplete final → EachOnce (all_born shape script trail) entries

-- the law that slots hold the bytes
abbrev pub BytesLaw : Type 0
BytesLaw = (shape : Shape) (width entries : ℕ) (s : State) → KeepsSlots shape width entries s → live_bytes shape entries s ≤ plan_bytes shape width

-- the law that something has room
abbrev pub RoomLaw : Type 0
RoomLaw = (shape : Shape) (width entries : ℕ) (s : State) → IsGoodShape shape → 1 ≤ width → KeepsSlots shape width entries s → s.bag ≢ [] → SomeHasRoom shape width entries s

-- the law that a core that is idle is done
abbrev pub IdleLaw : Type 0
IdleLaw = (made : Meaning) (script : List Sent) (start_buffers : Buffers) (core : CoreView) (s : StandsFor made script start_buffers core) → IsIdle core → IsComplete s.state

units_threads : (all : List (Option ℕ)) (built : List Unit) (k : ℕ) (ts : List (Option ℕ)) → Each (λ (u : Unit). u.kind ≡ Thread) (later_units all built k ts)
units_threads all built k [] = tt
units_threads all built k (t ∷ ts) = (refl, units_threads all (built ++ unit_of all k _ t ∷ []) (k + 1) ts)

-- each node is a thread node
pub threads : (pairs : List Pair) → Each (λ (u : Unit). u.kind ≡ Thread) (shape_of pairs).units
threads pairs = units_threads (targets_of pairs) [] 0 (targets_of pairs)

kind_in : (us : List Unit) (u : ℕ) → Each (λ (x : Unit). x.kind ≡ Thread) us → unwrap_or (option_map (λ (n : Unit). n.kind) (slice_get us u)) Thread ≡ Thread
kind_in [] u e = refl
kind_in (x ∷ us) zero e = e.0
kind_in (x ∷ us) (suc u) e = kind_in us u e.1

only_threads : (pairs : List Pair) → OnlyThreads (shape_of pairs)
only_threads pairs u = kind_in (shape_of pairs).units u (threads pairs)

sends_one : (shape : Shape) (targets : List (Option ℕ)) (adds : List ℕ) → SendsOne shape (sender targets adds)
sends_one shape targets adds l m t fits = few (target_at targets l.unit)
  where
    few : (o : Option ℕ) → length (one_sent o ((word_of_launch l + slice_index adds l.unit) % 2 ^ 32)) ≤ 1
    few None = omega arith
    few (Some t) = omega arith

entry_arrives : (pairs : List Pair) (s : Sent) → IsFormEntry pairs s → Arrives (shape_of pairs) s
entry_arrives pairs s good =
    let ts = targets_of pairs in
    let n = length_targets 0 pairs in
    let l = length_units ts [] 0 ts in
    let inside = good.unit in
    let here : s.unit < length ts = omega arith in
    let v = unit_there ts s.unit here in
    let i = unit_at ts [] 0 s.unit ts v.0 v.1 in
    let words : words_at (shape_of pairs) s.unit ≡ 1 = ap (λ (o : Option Unit). unwrap_or (option_map (λ (x : Unit). x.words) o) 0) v.1 ∙ ap (λ (x : Unit). x.words) i.is in
    record { unit = omega arith; words = ap (λ (w : List ℕ). length w) good.one ∙ sym words }

-- the entry records arrive
pub entries_arrive : (pairs : List Pair) (script : List Sent) → Each (IsFormEntry pairs) script → Each (Arrives (shape_of pairs)) script
entries_arrive pairs [] all = tt
entries_arrive pairs (s ∷ script) all = (entry_arrives pairs s all.0, entries_arrive pairs script all.1)

-- runs of a graph of the first form from a script are shorter than they may be
pub runs_are_short : (pairs : List Pair) (targets : List (Option ℕ)) (adds : List ℕ) (script : List Sent) → ShortLaw → IsGoodShape (shape_of pairs) → IsWired (shape_of pairs) targets → IsFormScript pairs script → IsShort (shape_of pairs) (sender targets adds) script
runs_are_short pairs targets adds script law good wired entries core same stands =
    let made = sender targets adds in
    let run = subst (λ (s : Shape). IsRun s made core.limits.turns (start s script []) core.journal stands.trail stands.state) same stands.run in
    let few = entries.few in
    let h = law (shape_of pairs) made core.limits.turns script [] core.journal stands.trail stands.state good (λ l m t fits. sender_lawful (shape_of pairs) targets adds l m t wired) (only_threads pairs) (sends_one (shape_of pairs) targets adds) (entries_arrive pairs script entries.each) run in
    omega arith

each_weaker : (P Q : State → Type 0) (s : State) (trail : List Passed) → ((x : State) → P x → Q x) → EachState P s trail → EachState Q s trail
each_weaker P Q s [] h e = h s e
each_weaker P Q s (p ∷ trail) h e = (h s e.0, each_weaker P Q p.after trail h e.1)

done_equal : {l l' n n' d d' p p' b b' : ℕ} → l ≡ l' → n ≡ n' → d ≡ d' → p ≡ p' → b ≡ b'
    → let x : Done = record { launches = l; records = n; denied = d; peak = p; bytes = b } in let y : Done = record { launches = l'; records = n'; denied = d'; peak = p'; bytes = b' } in x ≡ y
done_equal e f g h i = rw (e, f, g, h, i) refl

-- what a core that is done came to is the report of its run
pub report_is : (made : Meaning) (script : List Sent) (core : CoreView) (r : Report) → OnceLaw → BytesLaw → RoomLaw → IdleLaw → IsGoodShape core.shape → StandsFor made script [] core → core.width ≡ 1 → core.limits.turns ≡ 65536 → IsIdle core → IsReport core r
    → IsReportOfRun core.shape made script (complete_report core.shape r.journal.entries (done_by r))
report_is made script core r once_law bytes_law room_law idle_law good s width turns idle is =
    let shape = core.shape in
    let first = start shape script [] in
    let n = length script in
    let slots_1 : EachState (KeepsSlots shape 1 core.handed) first s.trail = subst (λ (w : ℕ). EachState (KeepsSlots shape w core.handed) first s.trail) width s.slots in
    let slots : EachState (KeepsSlots shape 1 n) first s.trail = subst (λ (h : ℕ). EachState (KeepsSlots shape 1 h) first s.trail) s.handed slots_1 in
    let run : IsRun shape made 65536 first core.journal s.trail s.state = subst (λ (t : ℕ). IsRun shape made t first core.journal s.trail s.state) turns s.run in
    let complete = idle_law made script [] core s idle in
    let peak_is : r.peak ≡ peak shape n first s.trail = is.peak ∙ (s.peak ∙ ap (λ (h : ℕ). peak shape h first s.trail) s.handed) in
    let bytes_are : r.bytes ≡ plan_bytes shape 1 = is.bytes ∙ ap (λ (w : ℕ). plan_bytes shape w) width in
    let entries : r.journal.entries ≡ core.journal = ap (λ (j : Journal). j.entries) is.journal in
    let launches : length r.journal.entries ≡ length core.journal = ap (λ (es : List Entry). length es) entries in
    let done : done_by r ≡ done_of_run shape script core.journal s.trail s.state =
    done_equal launches (is.records ∙ s.next) (is.denied ∙ s.denied) peak_is bytes_are in
    record {
      journal = core.journal;
      trail = s.trail;
      final = s.state;
      run = run;
      complete = complete;
      once = once_law shape made 65536 script [] core.journal s.trail s.state run complete;
      within = each_weaker (KeepsSlots shape 1 n) (λ x. live_bytes shape n x ≤ plan_bytes shape 1) first s.trail (λ x k. bytes_law shape 1 n x k) slots;
      never_stands = each_weaker (KeepsSlots shape 1 n) (λ x. x.bag ≢ [] → SomeHasRoom shape 1 n x) first s.trail (λ x k. room_law shape 1 n x good (omega arith) k) slots;
      text_is = ap (λ (es : List Entry). complete_report shape es (done_by r)) entries ∙ ap (λ (d : Done). complete_report shape core.journal d) done;
    }

-- the numbers of sent records fit
pub outs_fit : (n : ℕ) (es : List Entry) → n < 2 ^ 64 → Each (λ (e : Entry). e.first_out + e.outs ≤ n) es → Each (λ (e : Entry). e.first_out + e.outs ≤ 2 ^ 64) es
outs_fit n [] h all = tt
outs_fit n (e ∷ es) h all = (let x = all.0 in omega arith, outs_fit n es h all.1)

-- the law that a core at the start of a script stands for it
abbrev pub BeginLaw : Type 0
BeginLaw = (made : Meaning) (shape : Shape) (width : ℕ) (limits : Limits) (script : List Sent) (buffers : Buffers) → Each (Arrives shape) script → StandsFor made script buffers (core_begun shape width limits script buffers)

-- the core at the start of a script stands for it
pub begun_stands : (made : Meaning) (shape : Shape) (script : List Sent) → IsRunnable shape script → (core : CoreView) → BeginLaw → core ≡ core_begun shape 1 default_limits script [] → StandsFor made script [] core
begun_stands made shape script run core law begun =
    let arrive = subst (λ (s : Shape). Each (Arrives s) script) (sym run.is) (entries_arrive run.pairs script run.entries.each) in
    subst (λ (c : CoreView). StandsFor made script [] c) (sym begun) (law made shape 1 default_limits script [] arrive)
