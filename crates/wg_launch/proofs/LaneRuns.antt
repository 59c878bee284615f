-- What is left of a loop over the lanes of a launch, or over its phases.
use Rattle.std.proofs.Common.{◌≡◌, ℕ, zero, suc, ◌+◌, List, [], ◌∷◌, ◌++◌, length, take, drop, get_or, map, if◌then◌else◌, ◌-◌, ◌≤◌, ◌<◌, true, false, Err, append-nil, refl, sym, ap, ◌∙◌, arith}
use Rattle.std.proofs.Math.Seq.{take-suc}
use Rattle.std.proofs.lemmas.List.{get_or-drop, length-drop, append_assoc, drop_more}
use Rattle.wg_state.specs.Turns.{Ending, Spent, Done, Action, and_then, pure}
use Rattle.wg_semantics.specs.declared.state.Lane.{Lane}
use Rattle.wg_machine.specs.declared.shape.Unit.{Unit as Node}
use Rattle.wg_state.specs.Launching.{outcome_after}
use Rattle.wg_state.specs.declared.world.World.{World}
use Rattle.wg_typed.specs.declared.typed_stmt.TypedStmt.{TypedStmt}
use Rattle.wg_machine.specs.declared.bodies.Halt.{Halt}
use Rattle.wg_machine.specs.declared.bodies.Halt.TheVariants as halt
use Rattle.wg_evaluation.specs.Says.{Stops}
use Rattle.std.specs.Prelude.{slice_set}
use Rattle.wg_semantics.specs.declared.state.State.{State}
use Rattle.wg_semantics.specs.LaunchMeaning.{LaneActions, OnLanes, Doing, tested, first_test, Part, part_of, lane_runs, lanes_run, phases_run, phases_after, after_run, first_lanes}
use Rattle.wg_launch.proofs.Parts.{kept}
use Rattle.wg_launch.specs.FirstLane.{IsFirst, with_first}
use Rattle.wg_launch.specs.Launches.{Launches}

-- ---- lanes

-- lanes that were run, before those of an outcome
abbrev pub put_before : List Lane → Ending World (List Lane) → Ending World (List Lane)
put_before done Spent = Spent
put_before done (Done others w t) = Done (done ++ others) w t

put_one : (done : List Lane) (y : Lane) (o : Ending World (List Lane)) → put_before done (and_then o (λ others. pure (y ∷ others))) ≡ put_before (done ++ y ∷ []) o
put_one done y Spent = refl
put_one done y (Done others w t) = ap (λ l. Done l w t) (sym (append_assoc done (y ∷ []) others))

pub lanes_next : (bodies : LaneActions) (n m : ℕ) (x y : Lane) (items rest done : List Lane) (w w2 : World) (t t2 : ℕ) → items ≡ x ∷ rest → m ≡ n + 1 → lane_runs (bodies n) x w t ≡ Done y w2 t2 → put_before done (lanes_run bodies n items w t) ≡ put_before (done ++ y ∷ []) (lanes_run bodies m rest w2 t2)
lanes_next bodies n m x y items rest done w w2 t t2 e k one =
    let next : suc n ≡ m = omega (arith, k) in
    ap (λ l. put_before done (lanes_run bodies n l w t)) e
    ∙ ap (λ (o : Ending World Lane). put_before done (and_then o (λ first. λ w t. and_then (lanes_run bodies (suc n) rest w t) (λ others. pure (first ∷ others))))) one
    ∙ put_one done y (lanes_run bodies (suc n) rest w2 t2)
    ∙ ap (λ i. put_before (done ++ y ∷ []) (lanes_run bodies i rest w2 t2)) next

lanes_spent : (bodies : LaneActions) (n : ℕ) (x : Lane) (items rest done : List Lane) (w : World) (t : ℕ) → items ≡ x ∷ rest → lane_runs (bodies n) x w t ≡ Spent → put_before done (lanes_run bodies n items w t) ≡ Spent
lanes_spent bodies n x items rest done w t e one =
    ap (λ l. put_before done (lanes_run bodies n l w t)) e
    ∙ ap (λ (o : Ending World Lane). put_before done (and_then o (λ first. λ w t. and_then (lanes_run bodies (suc n) rest w t) (λ others. pure (first ∷ others))))) one

pub lanes_stop : (bodies : LaneActions) (n : ℕ) (x : Lane) (items rest done : List Lane) (w : World) (t : ℕ) (h : Halt) → items ≡ x ∷ rest → Stops (lane_runs (bodies n) x w t) h → Stops (put_before done (lanes_run bodies n items w t)) h
lanes_stop bodies n x items rest done w t halt.Turns e one = lanes_spent bodies n x items rest done w t e one
lanes_stop bodies n x items rest done w t halt.Memory e one = tt

pub lanes_end : (bodies : LaneActions) (n : ℕ) (items done : List Lane) (w : World) (t : ℕ) → items ≡ [] → put_before done (lanes_run bodies n items w t) ≡ Done done w t
lanes_end bodies n items done w t e = ap (λ l. put_before done (lanes_run bodies n l w t)) e ∙ ap (λ l. Done l w t) (append-nil done)

-- ---- lane 0

pub set_first : (lanes : List Lane) (lane : Lane) (f : List (List ℕ)) → 0 < length lanes → lane ≡ get_or lanes 0 lane → slice_set lanes 0 (record { variables = f; returned = lane.returned }) ≡ with_first f lanes
set_first [] lane f some is = absurd (let h : ⊥ = omega (arith, some) in h)
set_first (x ∷ rest) lane f some is = ap (λ (y : Lane). record { variables = f; returned = y.returned } ∷ rest) is

pub is_first : (lanes : List Lane) (lane : Lane) → 0 < length lanes → lane ≡ get_or lanes 0 lane → IsFirst lane.variables lanes
is_first [] lane some is = absurd (let h : ⊥ = omega (arith, some) in h)
is_first (x ∷ rest) lane some is = ap (λ (y : Lane). y.variables) is

still_there : (lanes : List Lane) (f : List (List ℕ)) → 0 < length lanes → 0 < length (with_first f lanes)
still_there [] f some = some
still_there (x ∷ rest) f some = omega arith

module _ (m : Action State ℕ) (lanes : List Lane) (f : List (List ℕ)) (w : World) (t : ℕ) (first : IsFirst f lanes) where
  -- the lanes after a test on lane 0, which has new variables
  pub tests_first : (word : ℕ) (s : State) (u : ℕ) (g : List (List ℕ)) (others last : List Lane) → m (record { variables = f; world = w }) t ≡ Done word s u → others ≡ with_first g lanes → last ≡ with_first s.variables others → first_test m lanes w t ≡ Done (word, last) s.world u
  tests_first word s u g others last run lent back = after lanes first ∙ ap (λ l. Done (word, l) s.world u) (sym (back ∙ ap (with_first s.variables) lent))
    where
      after : (l : List Lane) → IsFirst f l → first_test m l w t ≡ Done (word, with_first s.variables (with_first g l)) s.world u
      after [] none = absurd none
      after (x ∷ rest) is = ap (λ y. tested x rest (m (record { variables = y; world = w }) t)) (sym is) ∙ ap (tested x rest) run

  pub tests_stop : (h : Halt) → Stops (m (record { variables = f; world = w }) t) h → Stops (first_test m lanes w t) h
  tests_stop halt.Memory stops = tt
  tests_stop halt.Turns stops = after lanes first
    where
      after : (l : List Lane) → IsFirst f l → first_test m l w t ≡ Spent
      after [] none = absurd none
      after (x ∷ rest) is = ap (λ y. tested x rest (m (record { variables = y; world = w }) t)) (sym is) ∙ ap (tested x rest) stops

-- ---- phases

run_alone : (more : List OnLanes) (o : Ending World (List Lane)) → and_then o (phases_run more) ≡ and_then (and_then o (phases_run [])) (phases_run more)
run_alone more Spent = refl
run_alone more (Done lanes w t) = refl

module _ (doing : Doing) where
  run_first : (run : List TypedStmt) (more : List OnLanes) (lanes : List Lane) (w : World) (t : ℕ) → phases_run (after_run doing run more) lanes w t ≡ and_then (phases_run (after_run doing run []) lanes w t) (phases_run more)
  run_first [] more lanes w t = refl
  run_first (s ∷ run) more lanes w t = run_alone more (lanes_run (doing.body (s ∷ run)) 0 lanes w t)

  abbrev part : TypedStmt → Part
  part = part_of doing

  -- the statements before a phase, and then that one
  abbrev two_run : List TypedStmt → TypedStmt → List Lane → Action World (List Lane)
  two_run run x lanes w t = and_then (phases_run (after_run doing run []) lanes w t) (part x).runs

  -- the phases of these statements after a run of others
  abbrev pub rest_runs : List TypedStmt → List TypedStmt → List Lane → Action World (List Lane)
  rest_runs run rest = phases_run (phases_after doing run (map part rest))

  phases_next : (run : List TypedStmt) (x : TypedStmt) (rest : List TypedStmt) (lanes : List Lane) (w : World) (t : ℕ) → (part x).phase ≡ true → rest_runs run (x ∷ rest) lanes w t ≡ and_then (two_run run x lanes w t) (rest_runs [] rest)
  phases_next run x rest lanes w t c =
      ap (λ b. phases_run (if b then after_run doing run ((part x).runs ∷ phases_after doing [] (map part rest)) else phases_after doing (run ++ (part x).statement ∷ []) (map part rest)) lanes w t) c
      ∙ run_first run ((part x).runs ∷ phases_after doing [] (map part rest)) lanes w t
      ∙ after (phases_run (after_run doing run []) lanes w t)
    where
      after : (o : Ending World (List Lane)) → and_then o (phases_run ((part x).runs ∷ phases_after doing [] (map part rest))) ≡ and_then (and_then o (part x).runs) (rest_runs [] rest)
      after Spent = refl
      after (Done l1 w1 t1) = refl

  phases_longer : (run : List TypedStmt) (x : TypedStmt) (rest : List TypedStmt) → (part x).phase ≡ false → rest_runs run (x ∷ rest) ≡ rest_runs (run ++ x ∷ []) rest
  phases_longer run x rest c =
      ap (λ b. phases_run (if b then after_run doing run ((part x).runs ∷ phases_after doing [] (map part rest)) else phases_after doing (run ++ (part x).statement ∷ []) (map part rest))) c
      ∙ ap (λ y. rest_runs (run ++ y ∷ []) rest) (kept doing x)

-- the statements from one number to another
abbrev pub between : List TypedStmt → ℕ → ℕ → List TypedStmt
between body from at = take (at - from) (drop from body)

run_longer : (body : List TypedStmt) (from at : ℕ) (x : TypedStmt) → from ≤ at → at < length body → x ≡ get_or body at x → between body from (at + 1) ≡ between body from at ++ x ∷ []
run_longer body from at x le lt is =
    let e : at + 1 - from ≡ suc (at - from) = omega (arith, le) in
    let n : from + (at - from) ≡ at = omega (arith, le) in
    let short : at - from < length (drop from body) = rw (length-drop from body) (omega (arith, le, lt)) in
    let last : get_or (drop from body) (at - from) x ≡ x = get_or-drop from body (at - from) x ∙ ap (λ i. get_or body i x) n ∙ sym is in
    ap (λ n. take n (drop from body)) e ∙ take-suc (drop from body) (at - from) x short ∙ ap (λ y. between body from at ++ y ∷ []) last

cut_at : (body : List TypedStmt) (at : ℕ) (x : TypedStmt) → at < length body → x ≡ get_or body at x → drop at body ≡ x ∷ drop (at + 1) body
cut_at body at x lt is = drop_more body at x lt ∙ ap (λ y. y ∷ drop (at + 1) body) (sym is)

get_same : (body : List TypedStmt) (at : ℕ) (x y : TypedStmt) → at < length body → get_or body at x ≡ get_or body at y
get_same [] at x y lt = absurd (let h : ⊥ = omega (arith, lt) in h)
get_same (z ∷ body) zero x y lt = refl
get_same (z ∷ body) (suc at) x y lt = get_same body at x y (omega (arith, lt))

none_at : (body : List TypedStmt) (at : ℕ) → between body at at ≡ []
none_at body at = let e : at - at ≡ 0 = omega arith in ap (λ n. take n (drop at body)) e

module _ (doing : Doing) (body : List TypedStmt) (from at : ℕ) (x : TypedStmt) (lt : at < length body) (is : x ≡ get_or body at x) where
  pub phases_plain : from ≤ at → (part_of doing x).phase ≡ false → rest_runs doing (between body from (at + 1)) (drop (at + 1) body) ≡ rest_runs doing (between body from at) (drop at body)
  phases_plain le c =
      ap (λ run. rest_runs doing run (drop (at + 1) body)) (run_longer body from at x le lt is)
      ∙ sym (phases_longer doing (between body from at) x (drop (at + 1) body) c)
      ∙ sym (ap (rest_runs doing (between body from at)) (cut_at body at x lt is))

  module _ (lanes : List Lane) (w : World) (t : ℕ) (c : (part_of doing x).phase ≡ true) where
    -- the run of statements up to a phase, and then that one
    abbrev both : Ending World (List Lane)
    both = and_then (phases_run (after_run doing (between body from at) []) lanes w t) (part_of doing x).runs

    phases_both : rest_runs doing (between body from at) (drop at body) lanes w t ≡ and_then both (rest_runs doing [] (drop (at + 1) body))
    phases_both =
        ap (λ l. rest_runs doing (between body from at) l lanes w t) (cut_at body at x lt is)
        ∙ phases_next doing (between body from at) x (drop (at + 1) body) lanes w t c

    module _ (l1 : List Lane) (w1 : World) (t1 : ℕ) (before : phases_run (after_run doing (between body from at) []) lanes w t ≡ Done l1 w1 t1) where
      pub phases_on : (l2 : List Lane) (w2 : World) (t2 : ℕ) (y : TypedStmt) → y ≡ get_or body at y → (part_of doing y).runs l1 w1 t1 ≡ Done l2 w2 t2 → rest_runs doing (between body from at) (drop at body) lanes w t ≡ rest_runs doing (between body (at + 1) (at + 1)) (drop (at + 1) body) l2 w2 t2
      phases_on l2 w2 t2 y there h =
          phases_both
          ∙ ap (λ (o : Ending World (List Lane)). and_then (and_then o (part_of doing x).runs) (rest_runs doing [] (drop (at + 1) body))) before
          ∙ ap (λ z. and_then ((part_of doing z).runs l1 w1 t1) (rest_runs doing [] (drop (at + 1) body))) (is ∙ get_same body at x y lt ∙ sym there)
          ∙ ap (λ (o : Ending World (List Lane)). and_then o (rest_runs doing [] (drop (at + 1) body))) h
          ∙ ap (λ run. rest_runs doing run (drop (at + 1) body) l2 w2 t2) (sym (none_at body (at + 1)))

      pub phases_stop_at : (h : Halt) (y : TypedStmt) → y ≡ get_or body at y → Stops ((part_of doing y).runs l1 w1 t1) h → Stops (rest_runs doing (between body from at) (drop at body) lanes w t) h
      phases_stop_at halt.Memory y there stops = tt
      phases_stop_at halt.Turns y there stops =
          phases_both
          ∙ ap (λ (o : Ending World (List Lane)). and_then (and_then o (part_of doing x).runs) (rest_runs doing [] (drop (at + 1) body))) before
          ∙ ap (λ z. and_then ((part_of doing z).runs l1 w1 t1) (rest_runs doing [] (drop (at + 1) body))) (is ∙ get_same body at x y lt ∙ sym there)
          ∙ ap (λ (o : Ending World (List Lane)). and_then o (rest_runs doing [] (drop (at + 1) body))) stops

    pub phases_stop_before : (h : Halt) → Stops (phases_run (after_run doing (between body from at) []) lanes w t) h → Stops (rest_runs doing (between body from at) (drop at body) lanes w t) h
    phases_stop_before halt.Memory stops = tt
    phases_stop_before halt.Turns stops =
        phases_both ∙ ap (λ (o : Ending World (List Lane)). and_then (and_then o (part_of doing x).runs) (rest_runs doing [] (drop (at + 1) body))) stops

-- ---- launches

pub launch_stops : (unit : Node) (turns : ℕ) (o : Ending World (List Lane)) (h : Halt) → Stops o h → Launches (outcome_after unit turns o) (Err h)
launch_stops unit turns o halt.Turns stops = ap (outcome_after unit turns) stops
launch_stops unit turns o halt.Memory stops = tt

pub lanes_more : (values : ℕ → List (List ℕ)) (lane count : ℕ) (list more : List Lane) (f : List (List ℕ)) → lane < count → f ≡ values lane → more ≡ list ++ record { variables = f; returned = false } ∷ [] → more ++ first_lanes values (lane + 1) (count - (lane + 1)) ≡ list ++ first_lanes values lane (count - lane)
lanes_more values lane count list more f lt is pushed =
    let left : count - lane ≡ suc (count - (lane + 1)) = omega (arith, lt) in
    let next : lane + 1 ≡ suc lane = omega arith in
    let rest = first_lanes values (lane + 1) (count - (lane + 1)) in
    ap (λ l. l ++ rest) pushed
    ∙ append_assoc list (record { variables = f; returned = false } ∷ []) rest
    ∙ ap (λ g. list ++ record { variables = g; returned = false } ∷ rest) is
    ∙ ap (λ n. list ++ record { variables = values lane; returned = false } ∷ first_lanes values n (count - (lane + 1))) next
    ∙ ap (λ n. list ++ first_lanes values lane n) (sym left)
