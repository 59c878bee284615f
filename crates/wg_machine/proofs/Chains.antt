-- A chain of thread nodes that send at most one record each is no longer than the depths.
use Rattle.std.proofs.Common.{Bool, true, false, ◌≡◌, ℕ, zero, suc, ◌+◌, ◌-◌, ◌*◌, ◌<◌, ◌≤◌, List, [], ◌∷◌, length, map, refl, ap, sym, subst, arith, Option, None, Some, unwrap_or}
use Rattle.std.specs.Prelude.{IsTrue, IfSome, slice_get, sum_by}
use Rattle.std.specs.List.{flat_map}
use Rattle.std.specs.Option.{option_map}
use Rattle.wg_words.specs.Each.{Each}
use Rattle.wg_machine.specs.declared.shape.Kind.{Kind}
use Rattle.wg_machine.specs.declared.shape.Kind.TheVariants.{Thread}
use Rattle.wg_machine.specs.declared.shape.Shape.{Shape}
use Rattle.wg_machine.specs.declared.shape.Unit.{Unit}
use Rattle.wg_machine.specs.declared.launch.Entry.{Entry}
use Rattle.wg_machine.specs.declared.launch.Live.{Live}
use Rattle.wg_machine.specs.declared.launch.Record.{Record}
use Rattle.wg_machine.specs.declared.launch.Sent.{Sent}
use Rattle.wg_machine.specs.Buffers.{Buffers, lengths_of}
use Rattle.wg_machine.specs.Fitting.{StateFits, IsLawful, SendsOne, OnlyThreads}
use Rattle.wg_machine.specs.GoodShape.{IsGoodShape}
use Rattle.wg_machine.specs.Grids.{grid_of, groups_of}
use Rattle.wg_machine.specs.LaunchMeaning.{Meaning, Outcome, Arrives, KeepsLaws}
use Rattle.wg_machine.specs.Run.{IsRun}
use Rattle.wg_machine.specs.State.{State, kept, born, start}
use Rattle.wg_machine.specs.Step.{Passed, Step, IsReady, numbers_of, record_of, taken, left_after}
use Rattle.wg_machine.specs.Units.{kind_at, words_at, shared_at, depth_at, is_broadcasting}
use Rattle.wg_machine.proofs.Deeper.{sent_deeper}
use Rattle.wg_machine.proofs.Fits.{allowed_fits, step_keeps, born_fits}
use Rattle.wg_machine.proofs.Pending.{Count, pending, running, none_new, pending_append, pending_kept, pending_left}

-- how many launches can come of a group of a record of the unit
abbrev left_of : Shape → Count
left_of shape u words at = 33 - depth_at shape u

depth_most : (shape : Shape) (u : ℕ) → IsGoodShape shape → depth_at shape u ≤ 32
depth_most shape u good = go (slice_get shape.units u) refl
  where
    go : (n : Option Unit) → slice_get shape.units u ≡ n → unwrap_or (option_map (λ (n : Unit). n.depth) n) 0 ≤ 32
    go None e = omega arith
    go (Some n) e = (good.units u n e).chain

depth_least : (shape : Shape) (u : ℕ) → IsGoodShape shape → u < length shape.units → 1 ≤ depth_at shape u
depth_least shape u good less = go (slice_get shape.units u) refl
  where
    past : (units : List Unit) (u : ℕ) → u < length units → slice_get units u ≡ None → ⊥
    past [] u h e = omega arith
    past (n ∷ units) zero h e = cc
    past (n ∷ units) (suc u) h e = past units u (omega arith) e

    go : (n : Option Unit) → slice_get shape.units u ≡ n → 1 ≤ unwrap_or (option_map (λ (n : Unit). n.depth) n) 0
    go None e = absurd (past shape.units u less e)
    go (Some n) e = let d = (good.units u n e).depth in omega (arith, d)

one_group : (k : Kind) (words : List ℕ) (n : ℕ) → k ≡ Thread → sum_by (λ (at : List ℕ). n) (groups_of (grid_of k words)) ≡ n
one_group k words n e = subst (λ (k : Kind). sum_by (λ (at : List ℕ). n) (groups_of (grid_of k words)) ≡ n) (sym e) (omega arith)

born_left : (shape : Shape) (n d : ℕ) (sent : List Sent) → OnlyThreads shape → length sent ≤ 1 → Each (λ (s : Sent). d < depth_at shape s.unit) sent → d ≤ 32 → pending (left_of shape) (born shape n sent) ≤ 32 - d
born_left shape n d [] threads few deeper h = omega arith
born_left shape n d (s ∷ []) threads few deeper h =
    let g = one_group (kind_at shape s.unit) s.words (33 - depth_at shape s.unit) (threads s.unit) in
    let l = deeper.0 in
    omega (arith, g, l)
born_left shape n d (s ∷ t ∷ sent) threads few deeper h = absurd (omega arith)

running_some : (shape : Shape) (unit : ℕ) (at : List ℕ) (xs : List Live) → Each (IsReady unit at) xs → 1 ≤ length xs → 33 - depth_at shape unit ≤ running (left_of shape) at xs
running_some shape unit at [] ready some = absurd (omega arith)
running_some shape unit at (x ∷ xs) ready some =
    let e = ap (λ u. 33 - depth_at shape u) ready.0.unit_is in
    omega (arith, e)

taken_some : (shape : Shape) (s : State) (p : Passed) (xs : List Live) → p.launch.records ≡ map record_of xs → 1 ≤ length p.launch.records → 1 ≤ length xs
taken_some shape s p [] e h = let l = ap (λ (rs : List Record). length rs) e in omega (arith, l)
taken_some shape s p (x ∷ xs) e h = omega arith

-- a thread unit is not shared
unshared : (shape : Shape) (u : ℕ) → IsGoodShape shape → kind_at shape u ≡ Thread → shared_at shape u ≡ false
unshared shape u good thread = go (slice_get shape.units u) refl thread
  where
    no : (k : Kind) (b : Bool) → (IsTrue b → IsTrue (is_broadcasting k)) → k ≡ Thread → b ≡ false
    no k false h e = refl
    no k true h e = absurd (let t = subst (λ (k : Kind). IsTrue (is_broadcasting k)) e (h refl) in cc)

    go : (n : Option Unit) → slice_get shape.units u ≡ n → unwrap_or (option_map (λ (n : Unit). n.kind) n) Thread ≡ Thread → unwrap_or (option_map (λ (n : Unit). n.shared) n) false ≡ false
    go None e k = refl
    go (Some n) e k = no n.kind n.shared (good.units u n e).shared k

step_less : (shape : Shape) (made : Meaning) (turns : ℕ) (lengths : List ℕ) (s : State) (e : Entry) (p : Passed) → IsGoodShape shape → IsLawful shape made → OnlyThreads shape → SendsOne shape made → StateFits shape lengths s → Step shape made turns s e p → suc (pending (left_of shape) p.after.bag) ≤ pending (left_of shape) s.bag
step_less shape made turns lengths s e p good lawful threads one fits step =
    let nums = numbers_of p.launch.records in
    let fit = allowed_fits shape s.bag p.launch e.at good fits.bag step.allowed in
    let laws = subst (λ (o : Option Outcome). IfSome o (KeepsLaws shape p.launch s.buffers turns)) step.runs (lawful p.launch s.buffers turns fit) in
    let few = subst (λ (o : Option Outcome). IfSome o (λ o. length o.sent ≤ 1)) step.runs (one p.launch s.buffers turns fit) in
    let deeper = sent_deeper shape p.launch s.buffers turns p.outcome good fit laws in
    let d = depth_most shape p.launch.unit good in
    let none = none_new (words_at shape p.launch.unit) (shared_at shape p.launch.unit) p.outcome.shared (unshared shape p.launch.unit good (threads p.launch.unit)) laws.shared in
    let before = pending_left (left_of shape) e.at p.launch.unit nums p.outcome.shared s.bag none (λ u ws a b same. refl) step.allowed.ready in
    let runs = running_some shape p.launch.unit e.at (taken nums s.bag) step.allowed.ready (taken_some shape s p (taken nums s.bag) step.allowed.records step.allowed.some) in
    let after = pending_append (left_of shape) (left_after nums e.at p.outcome.shared s.bag) (flat_map kept (born shape s.next p.outcome.sent)) in
    let new = pending_kept (left_of shape) (born shape s.next p.outcome.sent) in
    let least = born_left shape s.next (depth_at shape p.launch.unit) p.outcome.sent threads few deeper d in
    subst (λ (t : State). suc (pending (left_of shape) t.bag) ≤ pending (left_of shape) s.bag) (sym step.becomes) (omega (arith, before, runs, after, new, least, d))

run_less : (shape : Shape) (made : Meaning) (turns : ℕ) (lengths : List ℕ) (s : State) (entries : List Entry) (trail : List Passed) (final : State) → IsGoodShape shape → IsLawful shape made → OnlyThreads shape → SendsOne shape made → StateFits shape lengths s → IsRun shape made turns s entries trail final → length entries ≤ pending (left_of shape) s.bag
run_less shape made turns lengths s [] [] final good lawful threads one fits run = omega arith
run_less shape made turns lengths s [] (p ∷ trail) final good lawful threads one fits run = absurd run
run_less shape made turns lengths s (e ∷ entries) [] final good lawful threads one fits run = absurd run
run_less shape made turns lengths s (e ∷ entries) (p ∷ trail) final good lawful threads one fits run =
    let first = step_less shape made turns lengths s e p good lawful threads one fits run.0 in
    let rest = run_less shape made turns lengths p.after entries trail final good lawful threads one (step_keeps shape made turns lengths s e p good lawful fits run.0) run.1 in
    omega (arith, first, rest)

script_left : (shape : Shape) (n : ℕ) (script : List Sent) → IsGoodShape shape → OnlyThreads shape → Each (Arrives shape) script → pending (left_of shape) (born shape n script) ≤ 32 * length script
script_left shape n [] good threads arrive = omega arith
script_left shape n (s ∷ script) good threads arrive =
    let g = one_group (kind_at shape s.unit) s.words (33 - depth_at shape s.unit) (threads s.unit) in
    let d = depth_least shape s.unit good arrive.0.unit in
    let rest = script_left shape (n + 1) script good threads arrive.1 in
    omega (arith, g, d, rest)

pub short : (shape : Shape) (made : Meaning) (turns : ℕ) (script : List Sent) (buffers : Buffers) (entries : List Entry) (trail : List Passed) (final : State) → IsGoodShape shape → IsLawful shape made → OnlyThreads shape → SendsOne shape made → Each (Arrives shape) script → IsRun shape made turns (start shape script buffers) entries trail final → length entries ≤ 32 * length script
short shape made turns script buffers entries trail final good lawful threads one arrive run =
    let a = run_less shape made turns (lengths_of buffers) (start shape script buffers) entries trail final good lawful threads one (record { bag = born_fits shape 0 script arrive; buffers = refl }) run in
    let b = pending_kept (left_of shape) (born shape 0 script) in
    let c = script_left shape 0 script good threads arrive in
    omega (arith, a, b, c)
