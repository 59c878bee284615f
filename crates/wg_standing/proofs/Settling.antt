-- What a launch within its laws sends, and what its settling frees and leaves.
use Rattle.std.proofs.Common.{◌≡◌, ℕ, zero, suc, ◌+◌, ◌<◌, ◌≤◌, Bool, true, false, List, [], ◌∷◌, ◌++◌, length, map, refl, ap, sym, ◌∙◌, subst, arith, None, Option, Some}
use Rattle.std.specs.Prelude.{if◌then◌else◌, ◌==◌, ◌&&◌, slice_get, slice_index, nat_le, count_by}
use Rattle.std.specs.List.{flat_map, list_all}
use Rattle.std.proofs.lemmas.Bool.Decides.{nat_tests}
use Rattle.wg_words.specs.Each.{Each}
use Rattle.wg_machine.specs.declared.shape.Shape.{Shape}
use Rattle.wg_machine.specs.declared.shape.Unit.{Unit as Node}
use Rattle.wg_machine.specs.declared.launch.Launch.{Launch}
use Rattle.wg_machine.specs.declared.launch.Live.{Live}
use Rattle.wg_machine.specs.declared.launch.Sent.{Sent}
use Rattle.wg_machine.specs.Buffers.{Buffers}
use Rattle.wg_machine.specs.GoodShape.{IsGoodShape}
use Rattle.wg_machine.specs.LaunchMeaning.{FitsShape, HasNewWords, KeepsBudgets, KeepsLaws, Outcome}
use Rattle.wg_machine.specs.Grids.{place_of}
use Rattle.wg_machine.specs.Units.{shared_at, words_at}
use Rattle.wg_machine.specs.declared.launch.Record.{Record}
use Rattle.wg_machine.specs.Need.{need, need_of}
use Rattle.wg_machine.specs.State.{born, kept}
use Rattle.wg_machine.specs.Step.{first_grid, has_number, left_after, record_of, taken}
use Rattle.wg_standing.specs.declared.pending.Pending.{Pending}
use Rattle.wg_standing.specs.Core.{CoreView}
use Rattle.wg_standing.specs.Moves.{freed, is_still, settled_of, with_words}
use Rattle.wg_standing.specs.Outs.{AllAllowed, AllApart, ApartFromAll, IsAllowed, after_one, launch_now, unopened}
use Rattle.wg_standing.specs.Standing.{EachKnown, IsPlaced, IsWhole, Rises, by_unit}
use Rattle.wg_standing.proofs.Bytes.{words_left}
use Rattle.wg_standing.proofs.Chosen.{full_unopened}
use Rattle.wg_standing.proofs.Commute.{append_nil, unopened_both, unopened_settled}
use Rattle.wg_standing.proofs.Counting.{opposite, pay}
use Rattle.wg_standing.proofs.Fitting.{out_fits}
use Rattle.wg_standing.proofs.OutLess.{KeepsNeeds, freed_are}
use Rattle.wg_standing.proofs.Outs.{all_without, allowed_settled, apart_settled, one_of, out_below, taken_new, unopened_new}
use Rattle.wg_standing.proofs.Allowed.{bare, stays, taken_append}
use Rattle.wg_standing.proofs.Names.{named_of}
use Rattle.wg_standing.proofs.Words.{left_worded, worded_left, worded_unopened}
use Rattle.wg_standing.proofs.Rising.{numbers, rises_born, rises_kept, rises_unopened}
use Rattle.wg_standing.proofs.Slots.{used_at}
use Rattle.wg_standing.proofs.Still.{known_left, known_unopened, still}
use Rattle.wg_standing.specs.Standing.{EachHasWords}

-- the law that budgets keep needs
abbrev pub NeedsAreKept : Type 0
NeedsAreKept = (u : Node) (sent : List Sent) (v : ℕ) → KeepsBudgets u sent → count_by (λ (s : Sent). s.unit == v) sent ≤ need_of u v

record IsThere (units : List Node) (u : ℕ) : Type 0 where
  pub node : Node
  pub there : slice_get units u ≡ Some node

node_there : (units : List Node) (u : ℕ) → u < length units → IsThere units u
node_there [] u h = absurd (omega arith)
node_there (n ∷ units) zero h = record { node = n; there = refl }
node_there (n ∷ units) (suc u) h = let r = node_there units u (omega arith) in record { node = r.node; there = r.there }

-- what a launch within its laws sends is within its needs
pub keeps_needs : NeedsAreKept → (shape : Shape) (l : Launch) (buffers : Buffers) (turns : ℕ) (o : Outcome) → FitsShape shape l → KeepsLaws shape l buffers turns o → KeepsNeeds shape l.unit o.sent
keeps_needs law shape l buffers turns o fits laws =
    let n = node_there shape.units l.unit fits.unit in
    let budgets = laws.budgets n.node n.there in
    record {
      arrive = laws.arrive;
      few = λ v. subst (λ (m : ℕ). count_by (λ (s : Sent). s.unit == v) o.sent ≤ m) (sym (need_there shape l.unit v n.node n.there)) (law n.node o.sent v budgets);
    }
  where
    need_there : (shape : Shape) (u v : ℕ) (n : Node) → slice_get shape.units u ≡ Some n → need shape u v ≡ need_of n v
    need_there shape u v n e = rw e refl

-- the bag that is left, on which the others stay allowed
record Lesser (core : CoreView) (before : List Pending) (o : Pending) (later : List Pending) : Type 0 where
  pub mine : IsAllowed core.shape core.bag o
  pub others : AllAllowed core.shape core.bag (before ++ later)
  pub apart : ApartFromAll o (before ++ later)
  pub alone : AllAllowed core.shape (after_one o core.bag) (before ++ later)
  pub ready : unopened core.outs core.bag ≡ unopened (before ++ later) (after_one o core.bag)
  pub waits : core.waits ≡ by_unit core.handed 0 (length core.shape.units) (unopened (before ++ later) (after_one o core.bag))

lesser : (core : CoreView) (before : List Pending) (o : Pending) (later : List Pending) → core.outs ≡ before ++ o ∷ later → IsPlaced core core.bag → Lesser core before o later
lesser core before o later was_out s =
    let bag = core.bag in
    let rest = before ++ later in
    let all = subst (AllAllowed core.shape bag) was_out s.allowed in
    let others = all_without core.shape bag before o later all in
    let apart = apart_settled before o later (subst AllApart was_out s.apart) in
    let nothing = allowed_settled core.shape core.next core.next bag [] o rest s.rises (let z : core.next ≤ core.next = omega arith in z) apart.0 others in
    let ready : unopened core.outs bag ≡ unopened rest (after_one o bag) = ap (λ (os : List Pending). unopened os bag) was_out ∙ unopened_settled before o later bag in
    record {
      mine = one_of core.shape bag before o later all;
      others = others;
      apart = apart.0;
      alone = subst (λ (b : List Live). AllAllowed core.shape b rest) (append_nil (after_one o bag)) nothing;
      ready = ready;
      waits = s.waits ∙ ap (by_unit core.handed 0 (length core.shape.units)) ready;
    }

known_after : (core : CoreView) (o : Pending) → IsPlaced core core.bag → EachKnown (length core.shape.units) (after_one o core.bag)
known_after core o s = known_left (length core.shape.units) o.inputs o.at core.bag s.known

-- a record in a slot is there after a settling where it waits or a launch of it is out
pub taken_stay : (core : CoreView) (before : List Pending) (o : Pending) (later : List Pending) (n : ℕ) → core.outs ≡ before ++ o ∷ later → IsPlaced core core.bag → core.handed ≤ n → is_still core.waits (before ++ later) n ≡ has_number (numbers (after_one o core.bag)) n
taken_stay core before o later n was_out s h =
    let rest = before ++ later in
    let l = lesser core before o later was_out s in
    ap (λ (ws : List (List Live)). is_still ws rest n) l.waits ∙ still core.shape core.handed n rest (after_one o core.bag) h (known_after core o s) l.alone

-- the slots that are freed are in use
pub freed_within : (core : CoreView) (before : List Pending) (o : Pending) (later : List Pending) → IsGoodShape core.shape → core.outs ≡ before ++ o ∷ later → IsPlaced core core.bag → freed core o (before ++ later) ≤ slice_index core.used o.unit
freed_within core before o later good was_out s =
    let bag = core.bag in
    let rest = before ++ later in
    let l = lesser core before o later was_out s in
    let u = o.unit in
    let within = (out_fits core before o later good was_out s).unit in
    let gone_is = ap (λ (ws : List (List Live)). count_by (λ n. nat_le core.handed n && (if is_still ws rest n then false else true)) o.inputs) l.waits in
    let f = freed_are core.shape core.handed core.next u bag o rest s.rises s.known l.mine l.alone in
    let self : (u == u) ≡ true = grind (arith, nat_tests) in
    let p = ap (λ (b : Bool). pay b (count_by (λ n. nat_le core.handed n && opposite (is_still (by_unit core.handed 0 (length core.shape.units) (unopened rest (after_one o bag))) rest n)) o.inputs)) self in
    let used = used_at core bag s u within in
    omega (arith, gone_is, f, p, used)

-- a settling gives what is unopened the new words, and adds what was sent
pub settling_leaves : (core : CoreView) (before : List Pending) (o : Pending) (later : List Pending) (outcome : Outcome) → core.outs ≡ before ++ o ∷ later → IsPlaced core core.bag → unopened (before ++ later) (settled_of core before o later outcome).bag ≡ with_words o.inputs outcome.shared (unopened core.outs core.bag) ++ flat_map kept (born core.shape core.next outcome.sent)
settling_leaves core before o later outcome was_out s =
    let bag = core.bag in
    let new = outcome.shared in
    let rest = before ++ later in
    let l = lesser core before o later was_out s in
    let fresh = flat_map kept (born core.shape core.next outcome.sent) in
    let end = core.next + length outcome.sent in
    unopened_both rest (left_after o.inputs o.at new bag) fresh
    ∙ ap (λ (b : List Live). unopened rest (left_after o.inputs o.at new bag) ++ b) (unopened_new core.shape core.next end bag fresh rest s.rises (rises_kept core.next end (born core.shape core.next outcome.sent) (rises_born core.shape core.next outcome.sent)) l.others)
    ∙ ap (λ (b : List Live). b ++ fresh) (
    ap (unopened rest) (sym (left_worded o.inputs o.at new bag) ∙ worded_left o.inputs o.at o.inputs new bag)
    ∙ worded_unopened o.inputs new rest (after_one o bag)
    ∙ ap (with_words o.inputs new) (sym l.ready))

words_unopened : (shape : Shape) (outs : List Pending) (bag : List Live) → EachHasWords shape bag → EachHasWords shape (unopened outs bag)
words_unopened shape [] bag w = w
words_unopened shape (o ∷ outs) bag w = words_unopened shape outs (after_one o bag) (words_left shape o.inputs o.at bag w)

-- each record of what is unopened is whole
pub unopened_whole : (core : CoreView) → IsPlaced core core.bag → IsWhole core (unopened core.outs core.bag)
unopened_whole core p =
    record {
      rises = rises_unopened 0 core.next core.outs core.bag p.rises;
      full = full_unopened core.shape core.outs core.bag p.full;
      known = known_unopened (length core.shape.units) core.outs core.bag p.known;
      words = words_unopened core.shape core.outs core.bag p.words;
    }

bare_records : (xs : List Live) → map record_of (map bare xs) ≡ map record_of xs
bare_records [] = refl
bare_records (x ∷ xs) = ap (λ (rs : List Record). record_of x ∷ rs) (bare_records xs)

bare_grid : (xs : List Live) → first_grid (map bare xs) ≡ first_grid xs
bare_grid [] = refl
bare_grid (x ∷ xs) = refl

abbrev made_of : ℕ → List ℕ → List Record → List ℕ → Launch
made_of unit at records grid = record { unit = unit; records = records; group = place_of grid at; grid = grid; last = false }

unshared_launch : (shape : Shape) (bag : List Live) (p : Pending) → shared_at shape p.unit ≡ false → launch_now shape bag p ≡ made_of p.unit p.at (map record_of (map bare (taken p.inputs bag))) (first_grid (map bare (taken p.inputs bag)))
unshared_launch shape bag p none =
    let mine = taken p.inputs bag in
    ap (λ (b : Bool). (let l : Launch = record { unit = p.unit; records = map record_of mine; group = place_of (first_grid mine) p.at; grid = first_grid mine; last = b && list_all (λ (r : Live). length r.groups == 1) mine } in l)) none
    ∙ ap (λ (rs : List Record). made_of p.unit p.at rs (first_grid mine)) (sym (bare_records mine))
    ∙ ap (made_of p.unit p.at (map record_of (map bare mine))) (sym (bare_grid mine))

none_new : (b : Bool) (n : ℕ) (o : Option (List ℕ)) → HasNewWords b n o → b ≡ false → o ≡ None
none_new b n None h e = refl
none_new true n (Some new) h e = absurd (cc)
none_new false n (Some new) h e = absurd h

-- launches of unshared units stay what they are while others settle
pub unshared_stay : (core : CoreView) (before : List Pending) (o : Pending) (later : List Pending) (outcome : Outcome) → ((u : ℕ) → shared_at core.shape u ≡ false) → core.outs ≡ before ++ o ∷ later → KeepsLaws core.shape (launch_now core.shape core.bag o) core.buffers core.limits.turns outcome → IsPlaced core core.bag → Each (λ (p : Pending). launch_now core.shape (settled_of core before o later outcome).bag p ≡ launch_now core.shape core.bag p) (before ++ later)
unshared_stay core before o later outcome none was_out laws s =
    let bag = core.bag in
    let l = lesser core before o later was_out s in
    let fresh = flat_map kept (born core.shape core.next outcome.sent) in
    let end = core.next + length outcome.sent in
    let no_new = none_new (shared_at core.shape o.unit) (words_at core.shape o.unit) outcome.shared laws.shared (none o.unit) in
    let rise : Rises core.next fresh end = rises_kept core.next end (born core.shape core.next outcome.sent) (rises_born core.shape core.next outcome.sent) in
    subst (λ (new : Option (List ℕ)). Each (λ (p : Pending). launch_now core.shape (left_after o.inputs o.at new bag ++ fresh) p ≡ launch_now core.shape bag p) (before ++ later)) (sym no_new) (go end rise (before ++ later) l.others l.apart)
  where
    go : (end : ℕ) → Rises core.next (flat_map kept (born core.shape core.next outcome.sent)) end → (outs : List Pending) → AllAllowed core.shape core.bag outs → ApartFromAll o outs → Each (λ (p : Pending). launch_now core.shape (after_one o core.bag ++ flat_map kept (born core.shape core.next outcome.sent)) p ≡ launch_now core.shape core.bag p) outs
    go end rise [] all apart = tt
    go end rise (p ∷ outs) all apart =
        let bag = core.bag in
        let fresh = flat_map kept (born core.shape core.next outcome.sent) in
        let m = named_of core.shape bag p all.0 in
        let t = stays p.unit p.at p.inputs o.at o.inputs bag apart.0 m.ready in
        let q : taken p.inputs (after_one o bag ++ fresh) ≡ taken p.inputs (after_one o bag) =
        taken_append p.inputs (after_one o bag) fresh ∙ ap (λ (xs : List Live). taken p.inputs (after_one o bag) ++ xs) (taken_new p.inputs core.next end fresh (out_below core.shape core.next bag p s.rises all.0) rise) ∙ append_nil (taken p.inputs (after_one o bag)) in
        let same = ap (map bare) q ∙ t.records in (
          unshared_launch core.shape (after_one o bag ++ fresh) p (none p.unit)
              ∙ ap (λ (xs : List Live). made_of p.unit p.at (map record_of xs) (first_grid xs)) same
              ∙ sym (unshared_launch core.shape bag p (none p.unit)),
          go end rise outs all.1 apart.1,
        )
