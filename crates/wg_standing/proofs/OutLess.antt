-- A core that settles a launch stands for what it stood for.
use Rattle.std.proofs.Common.{◌≡◌, ℕ, ◌+◌, ◌≤◌, Bool, true, false, cond, List, [], ◌∷◌, ◌++◌, length, map, refl, ap, sym, ◌∙◌, subst, arith, None, Some, Option}
use Rattle.std.specs.Prelude.{filter, ◌-◌, nat_le, IfSome, slice_index, count_by, ◌==◌, ◌&&◌, max}
use Rattle.std.specs.List.{flat_map}
use Rattle.std.proofs.lemmas.List.Sums.{sum_by_push, sum_by-cons}
use Rattle.std.proofs.lemmas.List.{length_push}
use Rattle.std.proofs.lemmas.Bool.Decides.{nat_tests}
use Rattle.wg_standing.specs.declared.pending.Pending.{Pending}
use Rattle.wg_machine.specs.declared.launch.Entry.{Entry}
use Rattle.wg_machine.specs.declared.launch.Live.{Live}
use Rattle.wg_machine.specs.declared.launch.Sent.{Sent}
use Rattle.wg_machine.specs.declared.shape.Shape.{Shape}
use Rattle.wg_machine.specs.Buffers.{Buffers}
use Rattle.wg_machine.specs.State.{State, kept, born, start as start_of}
use Rattle.wg_machine.specs.LaunchMeaning.{Arrives, HasNewWords, Meaning, Outcome}
use Rattle.wg_machine.specs.Units.{shared_at, words_at}
use Rattle.wg_machine.specs.Step.{Allows, Passed, Step, entry_of, has_number, left_after, numbers_of, taken}
use Rattle.wg_machine.specs.Run.{IsRun}
use Rattle.wg_machine.specs.Bytes.{live_bytes, peak as peak_of}
use Rattle.wg_machine.specs.Need.{need}
use Rattle.wg_standing.specs.Outs.{AllAllowed, AllApart, IsAllowed, after_one, launch_now, unopened}
use Rattle.wg_standing.specs.Standing.{Rises, EachDistinct, IsPlaced, StandsFor, TicketsDiffer, TicketsBelow, IsNotOut, IsTicketed, opened_of, reserved, by_unit, counts, in_slot, is_entry_record, IsSpent, EachHasWords, EachKnown}
use Rattle.wg_standing.specs.Core.{CoreView}
use Rattle.wg_standing.specs.Left.{IsLeftOf}
use Rattle.wg_standing.specs.Moves.{all_more, freed, is_still, settled_of, slot_bytes, used_more, with_words}
use Rattle.wg_words.specs.Each.{Each}
use Rattle.wg_standing.proofs.Names.{named_of}
use Rattle.wg_standing.proofs.Words.{allowed_worded, counts_worded, distinct_worded, full_worded, known_worded, left_worded, rises_worded, still_worded, words_worded, worded_by_unit, worded_those, worded_unopened}
use Rattle.wg_standing.proofs.Slots.{slots_kept, states_more}
use Rattle.wg_machine.specs.Bytes.{KeepsSlots}
use Rattle.wg_standing.proofs.Commute.{unopened_settled, unopened_both, append_nil}
use Rattle.wg_standing.proofs.Rising.{rises_left, rises_append, rises_kept, rises_born, numbers}
use Rattle.wg_standing.proofs.Lists.{by_unit_append, those_append}
use Rattle.wg_standing.proofs.Outs.{allowed_settled, all_without, one_of, apart_settled, unopened_new, distinct_left, distinct_append}
use Rattle.wg_standing.proofs.Counting.{count_left, count_gone, agrees, count_append, opposite, pay}
use Rattle.wg_standing.proofs.Still.{still, known_left, known_append}
use Rattle.wg_standing.proofs.Bytes.{used_are, counts_more, count_born, known_born, bytes_are, peak_more, full_append, full_left, full_born, words_append, words_left, words_born}

pub run_more : (shape : Shape) (made : Meaning) (turns : ℕ) (s : State) (js : List Entry) (ps : List Passed) (t : State) (e : Entry) (p : Passed) → IsRun shape made turns s js ps t → Step shape made turns t e p → IsRun shape made turns s (js ++ e ∷ []) (ps ++ p ∷ []) p.after
run_more shape made turns s [] [] t e p run step = (subst (λ (u : State). Step shape made turns u e p) run step, refl)
run_more shape made turns s (j ∷ js) (q ∷ ps) t e p run step = (run.0, run_more shape made turns q.after js ps t e p run.1 step)
run_more shape made turns s [] (q ∷ ps) t e p run step = absurd run
run_more shape made turns s (j ∷ js) [] t e p run step = absurd run

pub not_out_without : (t : ℕ) (xs : List Pending) (o : Pending) (ys : List Pending) → IsNotOut t (xs ++ o ∷ ys) → IsNotOut t (xs ++ ys)
not_out_without t [] o ys a = a.1
not_out_without t (x ∷ xs) o ys a = (a.0, not_out_without t xs o ys a.1)

differ_without : (xs : List Pending) (o : Pending) (ys : List Pending) → TicketsDiffer (xs ++ o ∷ ys) → TicketsDiffer (xs ++ ys)
differ_without [] o ys d = d.1
differ_without (x ∷ xs) o ys d = (not_out_without x.ticket xs o ys d.0, differ_without xs o ys d.1)

pub below_without : (n : ℕ) (xs : List Pending) (o : Pending) (ys : List Pending) → TicketsBelow n (xs ++ o ∷ ys) → TicketsBelow n (xs ++ ys)
below_without n [] o ys b = b.1
below_without n (x ∷ xs) o ys b = (b.0, below_without n xs o ys b.1)

-- what the rest may send, and what the one that settles may
pub reserved_without : (shape : Shape) (v : ℕ) (xs : List Pending) (o : Pending) (ys : List Pending) → reserved shape (xs ++ o ∷ ys) v ≡ reserved shape (xs ++ ys) v + need shape o.unit v
reserved_without shape v [] o ys =
    let c = sum_by-cons (λ (p : Pending). need shape p.unit v) o ys in omega (arith, c)
reserved_without shape v (x ∷ xs) o ys =
    let c = sum_by-cons (λ (p : Pending). need shape p.unit v) x (xs ++ ys) in
    let d = sum_by-cons (λ (p : Pending). need shape p.unit v) x (xs ++ o ∷ ys) in
    let ih = reserved_without shape v xs o ys in omega (arith, c, d, ih)

-- new records are no entries
no_entries : (handed lo end : ℕ) (xs : List Live) → handed ≤ lo → Rises lo xs end → filter (is_entry_record handed) xs ≡ []
no_entries handed lo end [] h r = refl
no_entries handed lo end (x ∷ xs) h r =
    let low = r.0 in
    let e : nat_le (x.number + 1) handed ≡ false = grind (arith, nat_tests) in
    rw e (no_entries handed (x.number + 1) end xs (omega arith) r.1)

length_without : (xs : List Pending) (o : Pending) (ys : List Pending) → length (xs ++ o ∷ ys) ≡ length (xs ++ ys) + 1
length_without [] o ys = omega arith
length_without (x ∷ xs) o ys = let k = length_without xs o ys in omega (arith, k)

count_same : (p q : ℕ → Bool) (xs : List ℕ) → ((n : ℕ) → p n ≡ q n) → count_by p xs ≡ count_by q xs
count_same p q [] h = refl
count_same p q (x ∷ xs) h =
    let a = sum_by-cons (λ y. cond (p y) 1 0) x xs in
    let b = sum_by-cons (λ y. cond (q y) 1 0) x xs in
    let e = ap (λ (t : Bool). pay t 1) (h x) in
    let ih = count_same p q xs h in omega (arith, a, b, e, ih)

guarded : (handed n : ℕ) (a b : Bool) → (handed ≤ n → a ≡ b) → (nat_le handed n && opposite a) ≡ (nat_le handed n && opposite b)
guarded handed n a b h = choice (nat_le handed n) refl
  where
    choice : (t : Bool) → nat_le handed n ≡ t → (t && opposite a) ≡ (t && opposite b)
    choice true e = ap opposite (h (let k : handed ≤ n = grind (arith, nat_tests) in k))
    choice false e = refl

-- the slots that a settling frees are those of the records that it takes out
pub freed_are : (shape : Shape) (handed next w : ℕ) (bag : List Live) (o : Pending) (rest : List Pending) → Rises 0 bag next → EachKnown (length shape.units) bag → IsAllowed shape bag o → AllAllowed shape (after_one o bag) rest → count_by (in_slot handed w) bag ≡ count_by (in_slot handed w) (after_one o bag) + pay (w == o.unit) (count_by (λ n. nat_le handed n && opposite (is_still (by_unit handed 0 (length shape.units) (unopened rest (after_one o bag))) rest n)) o.inputs)
freed_are shape handed next w bag o rest rises known allowed all =
    let nums = o.inputs in
    let m = named_of shape bag o allowed in
    let f : ℕ → Bool = λ n. opposite (has_number (numbers (after_one o bag)) n) in
    let waits = by_unit handed 0 (length shape.units) (unopened rest (after_one o bag)) in
    let a = count_left (λ u m. (u == w) && nat_le handed m) nums o.at bag in
    let g = count_gone handed w o.unit nums o.at f bag m.ready (agrees nums o.at f 0 next bag rises (λ n h. refl)) in
    let names : nums ≡ numbers (taken nums bag) = sym m.named in
    let same = count_same (λ n. nat_le handed n && f n) (λ n. nat_le handed n && opposite (is_still waits rest n)) nums (λ n. guarded handed n (has_number (numbers (after_one o bag)) n) (is_still waits rest n) (λ h. sym (still shape handed n rest (after_one o bag) h (known_left (length shape.units) nums o.at bag known) all))) in
    let named = ap (λ (ns : List ℕ). count_by (λ n. nat_le handed n && f n) ns) names in
    let paid = ap (pay (w == o.unit)) (sym named ∙ same) in
    omega (arith, a, g, paid)

-- what a launch sends is within its needs, to units of the shape
pub record KeepsNeeds (shape : Shape) (unit : ℕ) (sent : List Sent) : Type 0 where
  pub arrive : Each (Arrives shape) sent
  pub few : (v : ℕ) → count_by (λ (s : Sent). s.unit == v) sent ≤ need shape unit v

-- a core with these lists, journal and launches out
abbrev stepped : CoreView → List Entry → List Live → List (List Live) → List ℕ → List Pending → ℕ → CoreView
stepped core journal bag waits used outs next =
    let opened = opened_of (unopened outs bag) bag in
    record core { journal = journal; next = next; bag = bag; waits = waits; held = by_unit core.handed 0 (length core.shape.units) opened; taken = filter (is_entry_record core.handed) opened; used = used; outs = outs; spare = core.spare - 1 }

-- the records after the group of a launch out has run, with no new words
step_placed : (core : CoreView) (bag : List Live) (before : List Pending) (o : Pending) (later : List Pending) (sent : List Sent) (entry : Entry) → core.outs ≡ before ++ o ∷ later → KeepsNeeds core.shape o.unit sent → EachDistinct (flat_map kept (born core.shape core.next sent)) → IsPlaced core bag → (let fresh = flat_map kept (born core.shape core.next sent) in IsPlaced (stepped core (core.journal ++ entry ∷ []) (after_one o bag ++ fresh) (all_more core.handed 0 fresh core.waits) (used_more core.handed 0 o.unit (freed core o (before ++ later)) fresh core.used) (before ++ later) (core.next + length sent)) (after_one o bag ++ fresh))
step_placed core bag before o later sent entry was_out needs newly s =
    let shape = core.shape in
    let n = length shape.units in
    let rest = before ++ later in
    let nums = o.inputs in
    let fresh = flat_map kept (born shape core.next sent) in
    let end = core.next + length sent in
    let less = after_one o bag in
    let all = subst (AllAllowed shape bag) was_out s.allowed in
    let others = all_without shape bag before o later all in
    let mine = one_of shape bag before o later all in
    let apart = apart_settled before o later (subst AllApart was_out s.apart) in
    let rises = s.rises in
    let rise : Rises core.next fresh end = rises_kept core.next end (born shape core.next sent) (rises_born shape core.next sent) in
    let stay = allowed_settled shape core.next end bag fresh o rest rises rise apart.0 others in
    let nothing = allowed_settled shape core.next core.next bag [] o rest rises (let z : core.next ≤ core.next = omega arith in z) apart.0 others in
    let alone : AllAllowed shape less rest = subst (λ (b : List Live). AllAllowed shape b rest) (append_nil less) nothing in
    let ready : unopened core.outs bag ≡ unopened rest less = ap (λ (os : List Pending). unopened os bag) was_out ∙ unopened_settled before o later bag in
    let more : unopened rest (less ++ fresh) ≡ unopened rest less ++ fresh = unopened_both rest less fresh ∙ ap (λ (b : List Live). unopened rest less ++ b) (unopened_new shape core.next end bag fresh rest rises rise others) in
    let waits : core.waits ≡ by_unit core.handed 0 n (unopened rest less) = s.waits ∙ ap (by_unit core.handed 0 n) ready in
    let gone = freed core o rest in
    let gone_is : gone ≡ count_by (λ k. nat_le core.handed k && opposite (is_still (by_unit core.handed 0 n (unopened rest less)) rest k)) nums = ap (λ (ws : List (List Live)). count_by (λ k. nat_le core.handed k && opposite (is_still ws rest k)) nums) waits in
    let frees : (w : ℕ) → count_by (in_slot core.handed w) bag ≡ count_by (in_slot core.handed w) less + pay (w == o.unit) gone = λ w. freed_are shape core.handed core.next w bag o rest rises s.known mine alone ∙ ap (λ (k : ℕ). count_by (in_slot core.handed w) less + pay (w == o.unit) k) (sym gone_is) in
    let used : used_more core.handed 0 o.unit gone fresh core.used ≡ counts core.handed 0 n (less ++ fresh) = ap (used_more core.handed 0 o.unit gone fresh) s.used ∙ used_are core.handed 0 n o.unit gone bag less fresh frees in
    let grows : (w : ℕ) → count_by (in_slot core.handed w) (less ++ fresh) ≤ count_by (in_slot core.handed w) bag + need shape o.unit w = λ w. (let a = frees w in let b = count_append (in_slot core.handed w) less fresh in let c = count_born shape core.handed w core.next sent in let d = needs.few w in omega (arith, a, b, c, d)) in
    let longer = length_push core.journal entry in
    let fewer = length_without before o later in
    let outs = ap (λ (os : List Pending). length os) was_out in
    record {
      launches = let l = s.launches in omega (arith, longer, fewer, outs, l);
      waits = ap (all_more core.handed 0 fresh) waits ∙ by_unit_append core.handed 0 n (unopened rest less) fresh ∙ ap (by_unit core.handed 0 n) (sym more);
      entries = s.entries ∙ ap (filter (is_entry_record core.handed)) ready ∙ sym (ap (filter (is_entry_record core.handed)) more ∙ those_append (λ u m. nat_le (m + 1) core.handed) (unopened rest less) fresh ∙ ap (λ (b : List Live). filter (is_entry_record core.handed) (unopened rest less) ++ b) (no_entries core.handed core.next end fresh s.handed rise) ∙ append_nil (filter (is_entry_record core.handed) (unopened rest less)));
      held = refl;
      taken = refl;
      spare = let k = s.spare in omega (arith, fewer, outs, k);
      allowed = stay;
      apart = apart.1;
      tickets_differ = differ_without before o later (subst TicketsDiffer was_out s.tickets_differ);
      tickets_below = below_without core.tickets before o later (subst (TicketsBelow core.tickets) was_out s.tickets_below);
      tickets = let t = s.tickets in omega (arith, longer, fewer, outs, t);
      rises = rises_append 0 core.next end less fresh (rises_left 0 core.next nums o.at bag rises) rise;
      handed = let h = s.handed in omega (arith, h);
      distinct = distinct_append less fresh (distinct_left nums o.at bag s.distinct) newly;
      full = full_append shape less fresh (full_left shape nums o.at bag s.full) (full_born shape core.next sent);
      known = known_append n less fresh (known_left n nums o.at bag s.known) (known_born shape core.next sent needs.arrive);
      words = words_append shape less fresh (words_left shape nums o.at bag s.words) (words_born shape core.next sent needs.arrive);
      used = used;
      room = λ v. (
          let a = counts_more core.handed 0 n v (need shape o.unit) bag (less ++ fresh) grows in
          let z : 0 + v ≡ v = omega arith in
          let a' = subst (λ (k : ℕ). slice_index (counts core.handed 0 n (less ++ fresh)) v ≤ slice_index (counts core.handed 0 n bag) v + need shape o.unit k) z a in
          let b = ap (λ (us : List ℕ). slice_index us v) used in
          let c = ap (λ (us : List ℕ). slice_index us v) s.used in
          let d = s.room v in
          let e = reserved_without shape v before o later in
          let f = ap (λ (os : List Pending). reserved shape os v) was_out in
          omega (arith, a', b, c, d, e, f)
          );
    }

-- a core and a bag, where the records of these numbers have new words
abbrev reworded : CoreView → List Live → List ℕ → Option (List ℕ) → CoreView
reworded core bag nums new =
    let worded = with_words nums new bag in
    let opened = opened_of (unopened core.outs worded) worded in
    record core { waits = map (with_words nums new) core.waits; entries = with_words nums new core.entries; held = by_unit core.handed 0 (length core.shape.units) opened; taken = filter (is_entry_record core.handed) opened }

-- the records of a core, where those that a launch out takes have new words
reworded_placed : (core : CoreView) (bag : List Live) (nums : List ℕ) (new : Option (List ℕ)) → EachHasWords core.shape (with_words nums new bag) → IsPlaced core bag → IsPlaced (reworded core bag nums new) (with_words nums new bag)
reworded_placed core bag nums new words s =
    let n = length core.shape.units in
    let ready = worded_unopened nums new core.outs bag in
    record {
      waits = ap (map (with_words nums new)) s.waits ∙ sym (worded_by_unit core.handed 0 n nums new (unopened core.outs bag)) ∙ ap (by_unit core.handed 0 n) (sym ready);
      entries = ap (with_words nums new) s.entries ∙ sym (worded_those (λ u m. nat_le (m + 1) core.handed) nums new (unopened core.outs bag)) ∙ ap (filter (is_entry_record core.handed)) (sym ready);
      held = refl;
      taken = refl;
      spare = s.spare;
      allowed = allowed_worded core.shape nums new bag core.outs s.allowed;
      apart = s.apart;
      tickets_differ = s.tickets_differ;
      tickets_below = s.tickets_below;
      tickets = s.tickets;
      launches = s.launches;
      rises = rises_worded 0 core.next nums new bag s.rises;
      handed = s.handed;
      distinct = distinct_worded nums new bag s.distinct;
      full = full_worded core.shape nums new bag s.full;
      known = known_worded n nums new bag s.known;
      words = words;
      used = s.used ∙ sym (counts_worded core.handed 0 n nums new bag);
      room = s.room;
    }

pub settled_placed : (core : CoreView) (before : List Pending) (o : Pending) (later : List Pending) (outcome : Outcome) → core.outs ≡ before ++ o ∷ later → KeepsNeeds core.shape o.unit outcome.sent → HasNewWords (shared_at core.shape o.unit) (words_at core.shape o.unit) outcome.shared → EachDistinct (flat_map kept (born core.shape core.next outcome.sent)) → IsPlaced core core.bag → IsPlaced (settled_of core before o later outcome) (settled_of core before o later outcome).bag
settled_placed core before o later outcome was_out needs new newly s =
    let bag = core.bag in
    let rest = before ++ later in
    let fresh = flat_map kept (born core.shape core.next outcome.sent) in
    let entry = entry_of (launch_now core.shape bag o) o.at core.next outcome in
    let mine = named_of core.shape bag o (one_of core.shape bag before o later (subst (AllAllowed core.shape bag) was_out s.allowed)) in
    let words = words_worded core.shape (shared_at core.shape o.unit) o.unit o.at o.inputs outcome.shared bag new mine.ready s.words in
    let ready = reworded core bag o.inputs outcome.shared in
    let placed = step_placed ready (with_words o.inputs outcome.shared bag) before o later outcome.sent entry was_out needs newly (reworded_placed core bag o.inputs outcome.shared words s) in
    let gone : freed ready o rest ≡ freed core o rest = count_same (λ n. nat_le core.handed n && opposite (is_still ready.waits rest n)) (λ n. nat_le core.handed n && opposite (is_still core.waits rest n)) o.inputs (λ n. ap (λ (b : Bool). nat_le core.handed n && opposite b) (still_worded o.inputs outcome.shared core.waits rest n)) in
    let less = left_worded o.inputs o.at outcome.shared bag in
    let waits = all_more core.handed 0 fresh ready.waits in
    let end = core.next + length outcome.sent in
    let journal = core.journal ++ entry ∷ [] in
    let p : IsPlaced (stepped ready journal (left_after o.inputs o.at outcome.shared bag ++ fresh) waits (used_more core.handed 0 o.unit (freed core o rest) fresh core.used) rest end) (left_after o.inputs o.at outcome.shared bag ++ fresh) =
    subst (λ (k : ℕ). IsPlaced (stepped ready journal (left_after o.inputs o.at outcome.shared bag ++ fresh) waits (used_more core.handed 0 o.unit k fresh core.used) rest end) (left_after o.inputs o.at outcome.shared bag ++ fresh)) gone
    (subst (λ (b : List Live). IsPlaced (stepped ready journal (b ++ fresh) waits (used_more core.handed 0 o.unit (freed ready o rest) fresh core.used) rest end) (b ++ fresh)) less placed) in
    record {
      waits = p.waits;
      entries = p.entries;
      held = refl;
      taken = refl;
      spare = p.spare;
      allowed = p.allowed;
      apart = p.apart;
      tickets_differ = p.tickets_differ;
      tickets_below = p.tickets_below;
      tickets = p.tickets;
      launches = p.launches;
      rises = p.rises;
      handed = p.handed;
      distinct = p.distinct;
      full = p.full;
      known = p.known;
      words = p.words;
      used = p.used;
      room = p.room;
    }

pub settled_stands : (made : Meaning) (script : List Sent) (start : Buffers) (core : CoreView) (before : List Pending) (o : Pending) (later : List Pending) (outcome : Outcome) → core.stopped ≡ None → core.outs ≡ before ++ o ∷ later → made (launch_now core.shape core.bag o) core.buffers core.limits.turns ≡ Some outcome → KeepsNeeds core.shape o.unit outcome.sent → HasNewWords (shared_at core.shape o.unit) (words_at core.shape o.unit) outcome.shared → EachDistinct (flat_map kept (born core.shape core.next outcome.sent)) → StandsFor made script start core → IsLeftOf (flat_map kept (born core.shape 0 script)) (settled_of core before o later outcome).entries → IsTicketed (settled_of core before o later outcome) → StandsFor made script start (settled_of core before o later outcome)
settled_stands made script start core before o later outcome running was_out runs needs new newly s left ticketed =
    let shape = core.shape in
    let sent = outcome.sent in
    let launch = launch_now shape core.bag o in
    let p = settled_placed core before o later outcome was_out needs new newly s.placed in
    let fresh = flat_map kept (born shape core.next sent) in
    let less = left_after o.inputs o.at outcome.shared core.bag in
    let after : State = record { bag = less ++ fresh; next = core.next + length sent; buffers = outcome.buffers } in
    let passed : Passed = record { launch = launch; outcome = outcome; after = after } in
    let entry = entry_of launch o.at core.next outcome in
    let mine = one_of shape core.bag before o later (subst (AllAllowed shape core.bag) was_out s.placed.allowed) in
    let used = used_more core.handed 0 o.unit (freed core o (before ++ later)) fresh core.used in
    let bytes : live_bytes shape core.handed after ≡ slot_bytes shape 0 used = bytes_are shape core.handed after p.known ∙ ap (slot_bytes shape 0) (sym p.used) in
    record {
      state = after;
      trail = s.trail ++ passed ∷ [];
      run = run_more shape made core.limits.turns (start_of shape script start) core.journal s.trail s.state entry passed s.run (record {
        allowed = subst (λ (b : List Live). Allows shape b launch o.at) s.bag mine.allowed;
        runs = subst (λ (b : Buffers). made launch b core.limits.turns ≡ Some outcome) s.buffers runs;
        names = ap (λ (k : ℕ). entry_of launch o.at k outcome) s.next;
        becomes =
            ap (λ (ns : List ℕ). (let t : State = record { bag = left_after ns o.at outcome.shared core.bag ++ fresh; next = core.next + length sent; buffers = outcome.buffers } in t)) (sym mine.named)
            ∙ ap (λ (b : List Live). (let t : State = record { bag = left_after (numbers_of launch.records) o.at outcome.shared b ++ fresh; next = core.next + length sent; buffers = outcome.buffers } in t)) s.bag
            ∙ ap (λ (k : ℕ). (let t : State = record { bag = left_after (numbers_of launch.records) o.at outcome.shared s.state.bag ++ flat_map kept (born shape k sent); next = k + length sent; buffers = outcome.buffers } in t)) s.next;
      });
      handed = s.handed;
      bag = refl;
      placed = p;
      left = left;
      ticketed = ticketed;
      kept = let k = s.kept in let longer = length_push core.journal entry in omega (arith, k, longer);
      next = refl;
      buffers = refl;
      denied = let d = sum_by_push (λ (q : Passed). q.outcome.denied) s.trail passed in let e = s.denied in omega (arith, d, e);
      peak = (let a = peak_more shape core.handed (start_of shape script start) s.trail passed in let b = s.peak in ap (λ (k : ℕ). max k (slot_bytes shape 0 used)) b ∙ ap (λ (k : ℕ). max (peak_of shape core.handed (start_of shape script start) s.trail) k) (sym bytes) ∙ sym a);
      slots = states_more (KeepsSlots shape core.width core.handed) (start_of shape script start) s.trail passed s.slots (slots_kept (settled_of core before o later outcome) (less ++ fresh) p);
      spent = subst (λ (t : Option ℕ). IfSome t (IsSpent made (settled_of core before o later outcome))) (sym running) tt;
    }
