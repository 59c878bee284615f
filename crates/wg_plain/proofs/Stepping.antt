-- A step of an entry: what it leaves is sound.
use Rattle.std.proofs.Common.{◌≡◌, ℕ, ◌+◌, ◌≤◌, Bool, true, false, List, [], ◌∷◌, ◌++◌, length, Some, None, Option, unwrap_or, refl, ap, sym, ◌∙◌, subst, arith}
use Rattle.std.specs.Prelude.{if◌then◌else◌, ◌==◌, max, slice_index}
use Rattle.std.specs.List.{flat_map}
use Rattle.std.proofs.lemmas.List.{length-append}
use Rattle.wg_words.specs.Each.{Each}
use Rattle.wg_machine.specs.declared.shape.Shape.{Shape}
use Rattle.wg_machine.specs.declared.launch.Launch.{Launch}
use Rattle.wg_machine.specs.declared.launch.Live.{Live}
use Rattle.wg_machine.specs.declared.launch.Made.{Made}
use Rattle.wg_machine.specs.declared.launch.Sent.{Sent}
use Rattle.wg_machine.specs.declared.launch.Entry.{Entry}
use Rattle.wg_machine.specs.declared.memory.Write.{Write}
use Rattle.wg_machine.specs.Agreement.{Trace, AgreesWith}
use Rattle.wg_machine.specs.Buffers.{Buffers, lengths_of, buffer_at, all_written}
use Rattle.wg_machine.specs.Bytes.{live_bytes}
use Rattle.wg_machine.specs.Fitting.{BagFits, StateFits, IsLawful}
use Rattle.wg_machine.specs.GoodShape.{IsGoodShape}
use Rattle.wg_machine.specs.Grids.{grid_of, groups_of, without_group}
use Rattle.wg_machine.specs.LaunchMeaning.{Meaning, Outcome, Arrives, KeepsLaws, Makes, Spends, outcome_of}
use Rattle.wg_machine.specs.State.{State, born, kept, live_of, start}
use Rattle.wg_machine.specs.Step.{Passed, Step, numbers_of, after_group, left_after, has_number, entry_of, state_after}
use Rattle.wg_machine.specs.Units.{kind_at}
use Rattle.wg_plain.specs.declared.steps.Rest.{Rest}
use Rattle.wg_plain.specs.Sizes.{AreShort, bytes_of_bag}
use Rattle.wg_plain.specs.Named.{IsNamed}
use Rattle.wg_plain.specs.Stepped.{state_of, IsSound, Advances}
use Rattle.wg_plain.proofs.Told.{RunsFit, StepsFit}
use Rattle.wg_plain.proofs.Words.{length_at}

-- how many records are left, and come to be

kept_few : (n u : ℕ) (ws grid : List ℕ) (gs : List (List ℕ)) → length (kept (record { number = n; unit = u; words = ws; grid = grid; groups = gs })) ≤ 1
kept_few n u ws grid [] = omega arith
kept_few n u ws grid (g ∷ gs) = omega arith

left_few : (nums at : List ℕ) (new : Option (List ℕ)) (bag : List Live) → length (left_after nums at new bag) ≤ length bag
left_few nums at new [] = omega arith
left_few nums at new (x ∷ bag) = choice (left_few nums at new bag) (has_number nums x.number)
  where
    choice : length (left_after nums at new bag) ≤ length bag → (b : Bool) → length ((if b then kept (after_group at new x) else x ∷ []) ++ left_after nums at new bag) ≤ length (x ∷ bag)
    choice ih true =
        let k = kept_few x.number x.unit (unwrap_or new x.words) x.grid (without_group at x.groups) in
        let a = length-append (kept (after_group at new x)) (left_after nums at new bag) in
        omega arith
    choice ih false = omega arith

born_few : (shape : Shape) (n : ℕ) (ss : List Sent) → length (flat_map kept (born shape n ss)) ≤ length ss
born_few shape n [] = omega arith
born_few shape n (s ∷ ss) =
    let k = kept_few n s.unit s.words (grid_of (kind_at shape s.unit) s.words) (groups_of (grid_of (kind_at shape s.unit) s.words)) in
    let a = length-append (kept (live_of shape n s)) (flat_map kept (born shape (n + 1) ss)) in
    let ih = born_few shape (n + 1) ss in
    omega arith

pub bag_few : (shape : Shape) (nums at : List ℕ) (new : Option (List ℕ)) (bag : List Live) (n : ℕ) (ss : List Sent) (after : List Live) → after ≡ left_after nums at new bag ++ flat_map kept (born shape n ss) → length after ≤ length bag + length ss
bag_few shape nums at new bag n ss after e =
    let a = length-append (left_after nums at new bag) (flat_map kept (born shape n ss)) in
    let l = left_few nums at new bag in
    let b = born_few shape n ss in
    let c = ap (λ (x : List Live). length x) e in
    omega arith

pub short_after : (old new : Buffers) → lengths_of new ≡ lengths_of old → AreShort old → AreShort new
short_after old new e short = λ b. (let h = short b in let k : length (buffer_at new b) ≡ length (buffer_at old b) = length_at new b ∙ (ap (λ (ns : List ℕ). slice_index ns b) e ∙ sym (length_at old b)) in omega arith)

-- where a run starts

no_made : Meaning
no_made l m turns = None

pub start_sound : RunsFit → (shape : Shape) (script : List Sent) (rest : Rest) → IsGoodShape shape → Each (Arrives shape) script → AreShort rest.buffers → rest.bag ≡ flat_map kept (born shape 0 script) → rest.next ≡ length script → IsSound shape rest
unfolding no_made
start_sound fit shape script rest good arrive short bag next =
    let b = born_few shape 0 script in
    let c = ap (λ (x : List Live). length x) bag in
    let fits : StateFits shape (lengths_of rest.buffers) (start shape script rest.buffers) = fit shape no_made 0 script rest.buffers [] [] (start shape script rest.buffers) good (λ l m t h. tt) arrive refl in
    record {
      fitting = subst (BagFits shape) (sym bag) fits.bag;
      short = short;
      few = omega arith;
    }

-- what a launch did, from its memory

pub ran_made : (made : Meaning) (l : Launch) (turns : ℕ) (buffers after : Buffers) (old new : Trace) (m : Made) → Makes made l turns old new m → AgreesWith new new.over → new.over ≡ buffers → old.writes ≡ [] → after ≡ all_written new.over new.writes
    → made l buffers turns ≡ Some (outcome_of m after)
ran_made made l turns buffers after old new m makes fits over none is =
    ap (λ (b : Buffers). made l b turns) (sym over)
    ∙ ap (λ (ws : List Write). made l (all_written new.over ws) turns) (sym none)
    ∙ makes new.over fits
    ∙ ap (λ (b : Buffers). Some (outcome_of m b)) (sym is)

pub ran_spent : (made : Meaning) (l : Launch) (turns : ℕ) (buffers : Buffers) (old new : Trace) → Spends made l turns old new → AgreesWith new new.over → new.over ≡ buffers → old.writes ≡ [] → made l buffers turns ≡ None
ran_spent made l turns buffers old new spends fits over none =
    ap (λ (b : Buffers). made l b turns) (sym over)
    ∙ ap (λ (ws : List Write). made l (all_written new.over ws) turns) (sym none)
    ∙ spends new.over fits

-- a step that is made

pub step_made : StepsFit → (shape : Shape) (made : Meaning) (turns handed : ℕ) (old new : Rest) (e : Entry) (l : Launch) (o : Outcome)
    → IsGoodShape shape → IsLawful shape made → IsNamed shape old.bag e l → length o.sent ≤ 16384 → made l old.buffers turns ≡ Some o → KeepsLaws shape l old.buffers turns o
    → e.first_out ≡ (if length o.sent == 0 then 0 else old.next) → e.outs ≡ length o.sent
    → new.bag ≡ left_after e.inputs e.at o.shared old.bag ++ flat_map kept (born shape old.next o.sent) → new.next ≡ old.next + length o.sent → new.buffers ≡ o.buffers
    → new.denied ≡ old.denied + o.denied → new.peak ≡ max old.peak (bytes_of_bag shape handed new.bag)
    → IsSound shape old
    → (p : Passed) × Step shape made turns (state_of old) e p × Advances shape handed old new p
step_made steps shape made turns handed old new e l o good lawful named few runs laws first outs bag next buffers denied peak sound =
    let after = state_after shape (state_of old) l e.at o in
    let p : Passed = record { launch = l; outcome = o; after = after } in
    let line = λ (u : ℕ) (ns : List ℕ) (f k : ℕ). (let x : Entry = record { unit = u; at = e.at; inputs = ns; first_out = f; outs = k } in x) in
    let names : e ≡ entry_of l e.at old.next o =
    ap (λ (u : ℕ). line u e.inputs e.first_out e.outs) (sym named.unit)
    ∙ ap (λ (ns : List ℕ). line l.unit ns e.first_out e.outs) (sym named.inputs)
    ∙ ap (λ (f : ℕ). line l.unit (numbers_of l.records) f e.outs) first
    ∙ ap (λ (k : ℕ). line l.unit (numbers_of l.records) (if length o.sent == 0 then 0 else old.next) k) outs in
    let state = λ (b : List Live) (n : ℕ) (m : Buffers). (let x : State = record { bag = b; next = n; buffers = m } in x) in
    let same : after ≡ state_of new =
    ap (λ (ns : List ℕ). state (left_after ns e.at o.shared old.bag ++ flat_map kept (born shape old.next o.sent)) (old.next + length o.sent) o.buffers) named.inputs
    ∙ ap (λ (b : List Live). state b (old.next + length o.sent) o.buffers) (sym bag)
    ∙ ap (λ (n : ℕ). state new.bag n o.buffers) (sym next)
    ∙ ap (λ (m : Buffers). state new.bag new.next m) (sym buffers) in
    let count = bag_few shape e.inputs e.at o.shared old.bag old.next o.sent new.bag bag in
    let step : Step shape made turns (state_of old) e p = record { allowed = named.allowed; runs = runs; names = names; becomes = refl } in
    let fits : StateFits shape (lengths_of old.buffers) after = steps shape made turns (lengths_of old.buffers) (state_of old) e p good lawful (record { bag = sound.fitting; buffers = refl }) step in
    let before = sound.few in
    let refused = laws.denied_few in (
      p,
      step,
      record {
        after = same;
        denied = denied;
        peak = peak ∙ ap (λ (s : State). max old.peak (live_bytes shape handed s)) (sym same);
        sound = record {
          fitting = subst (λ (s : State). BagFits shape s.bag) same fits.bag;
          short = short_after old.buffers new.buffers (ap (λ (m : Buffers). lengths_of m) buffers ∙ laws.lengths) sound.short;
          few = omega arith;
        };
        next_few = omega arith;
        denied_few = omega arith;
      },
    )
