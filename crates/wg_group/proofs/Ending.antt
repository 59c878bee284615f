-- A launch of a node by its parts.
use Rattle.std.proofs.Common.{◌≡◌, ◌*◌, ℕ, zero, suc, true, false, List, [], ◌∷◌, Option, Some, sym, ap, ◌∙◌, subst}
use Rattle.std.specs.Prelude.{◌&&◌, replicate, slice_get, unwrap_or, Result, Ok, Err}
use Rattle.std.specs.List.{list_all}
use Rattle.wg_machine.specs.Agreement.{Trace, now_of}
use Rattle.wg_machine.specs.Buffers.{Buffers}
use Rattle.wg_machine.specs.LaunchMeaning.{outcome_of}
use Rattle.wg_machine.specs.declared.bodies.Halt.{Halt}
use Rattle.wg_machine.specs.declared.bodies.Halt.TheVariants as halt
use Rattle.wg_machine.specs.declared.launch.Launch.{Launch}
use Rattle.wg_machine.specs.declared.launch.Made.{Made}
use Rattle.wg_machine.specs.declared.shape.Unit.{Unit as Node}
use Rattle.wg_state.specs.Launching.{world_before, outcome_with}
use Rattle.wg_state.specs.Lanes.{lanes_in}
use Rattle.wg_state.specs.Turns.{Ending}
use Rattle.wg_state.specs.WordLists.{zeros}
use Rattle.wg_state.specs.declared.world.World.{World}
use Rattle.wg_code.specs.declared.code.NodeCode.{NodeCode}
use Rattle.wg_code.specs.declared.code.Part.{Part}
use Rattle.wg_code.specs.declared.code.RawCode.{RawCode}
use Rattle.wg_code.specs.CodeMeaning.{Verdict, Makes, node_does, first_lanes, verdict_of, node_ends, unit_verdict}
use Rattle.wg_code.specs.Flow.{Outside}
use Rattle.wg_code.specs.PartMeaning.{Lanes, parts_run}
use Rattle.wg_code.specs.Quiet.{is_quiet, parts_quiet}
use Rattle.wg_registers.specs.declared.outside.Outside.{Outside as Shared}
use Rattle.wg_group.specs.Launching.{Answers, Launches}
use Rattle.wg_group.specs.Quieter.{functions_quiet}
use Rattle.wg_group.specs.Running.{outside_of, rows_from, Runs}
use Rattle.wg_group.proofs.Growth.{both, both_left, both_right}
use Rattle.wg_group.proofs.Rows.{rows_of_zeros}

module _ (code : RawCode) (node : NodeCode) (unit : Node) (launch : Launch) (turns lanes : ℕ) (registers shared : List ℕ) (world : World) (parts : List Part)
    (count : lanes ≡ lanes_in node.threads) (first : registers ≡ replicate (lanes * node.registers) 0) (words : shared ≡ zeros code.shared) (before : world ≡ world_before [] unit launch []) (all : parts ≡ node.parts) where
  abbrev given : Shared
  given = record { shared = shared; world = world; turns = turns }

  lanes_are : rows_from 0 lanes node.registers registers ≡ first_lanes node
  lanes_are =
      ap (rows_from 0 lanes node.registers) first
      ∙ (rows_of_zeros lanes node.registers ∙ ap (λ n. replicate n (zeros node.registers)) count)

  -- what is run is what the node's code does
  is_node : (b : Buffers) → parts_run false (node_does false code node unit launch) parts (rows_from 0 lanes node.registers registers) (outside_of given b) turns ≡ node_ends false code (Some node) unit launch b turns
  is_node b =
      ap (λ l. parts_run false (node_does false code node unit launch) parts l (shared, record world { buffers = b }) turns) lanes_are
      ∙ (ap (λ ps. parts_run false (node_does false code node unit launch) ps (first_lanes node) (shared, record world { buffers = b }) turns) all
      ∙ (ap (λ s. parts_run false (node_does false code node unit launch) node.parts (first_lanes node) (s, record world { buffers = b }) turns) words
      ∙ ap (λ (w : World). parts_run false (node_does false code node unit launch) node.parts (first_lanes node) (zeros code.shared, record w { buffers = b }) turns) before))

  abbrev run : Lanes → Outside → ℕ → Ending Outside (Option Lanes)
  run = parts_run false (node_does false code node unit launch) parts

  pub launch_made : (T : Type 0) (ran : T) (old : Trace) (after : Lanes) (s : Shared) (new : Trace) (made : Made)
      → Runs (run (rows_from 0 lanes node.registers registers)) given old (Ok ran) (Some after) s new
      → ((b : Buffers) → outcome_with unit turns (record s.world { buffers = b }) s.turns ≡ outcome_of made b)
      → Launches (λ b. verdict_of unit turns (node_ends false code (Some node) unit launch b turns)) old (Ok made) new
  launch_made T ran old after s new made d is = λ start a.
      ap (verdict_of unit turns) (sym (is_node (now_of old start)) ∙ d start a) ∙ ap Makes (is (now_of new start))

  pub launch_stops : (T : Type 0) (h : Halt) (old : Trace) (a : Option Lanes) (s : Shared) (new : Trace)
      → Runs {T = T} (run (rows_from 0 lanes node.registers registers)) given old (Err h) a s new
      → Launches (λ b. verdict_of unit turns (node_ends false code (Some node) unit launch b turns)) old (Err h) new
  launch_stops T halt.Turns old x s new d = λ start a. ap (verdict_of unit turns) (sym (is_node (now_of old start)) ∙ d start a)
  launch_stops T halt.Memory old x s new d = λ start a. tt

-- the world before a launch, over lists that are empty
pub world_is : (unit : Node) (launch : Launch) (shared : List (List ℕ)) (buffers : Buffers) (world : World) → shared ≡ [] → buffers ≡ [] → world ≡ world_before shared unit launch buffers → world ≡ world_before [] unit launch []
world_is unit launch shared buffers world s b e =
    e ∙ (ap (λ (l : List (List ℕ)). world_before l unit launch buffers) s ∙ ap (λ (l : Buffers). world_before [] unit launch l) b)

-- the same launch in other words
pub launches_same : (v u : Buffers → Verdict) → ((b : Buffers) → v b ≡ u b) → (old : Trace) (r : Result Made Halt) (new : Trace) → Launches v old r new → Launches u old r new
launches_same v u e old r new d = λ start a. subst (λ (x : Verdict). Answers x r (now_of new start)) (e (now_of old start)) (d start a)

-- the unit and the code of its node
pub unit_is : (code : RawCode) (launch : Launch) (turns : ℕ) (u : Option Node) (n : Option NodeCode) (unit : Node) (node : NodeCode) → u ≡ Some unit → slice_get code.nodes unit.node ≡ n → n ≡ Some node → (b : Buffers)
    → verdict_of unit turns (node_ends false code (Some node) unit launch b turns) ≡ unit_verdict false code u launch b turns
unit_is code launch turns u n unit node is there has b =
    sym (ap (λ o. unit_verdict false code o launch b turns) is ∙ ap (λ o. verdict_of unit turns (node_ends false code o unit launch b turns)) (there ∙ has))

some_is : {X : Type 0} (x y : X) → Some x ≡ Some y → x ≡ y
some_is x y e = ap (λ o. unwrap_or o x) e

quiet_node : (nodes : List NodeCode) (i : ℕ) (node : NodeCode) → slice_get nodes i ≡ Some node → list_all (λ (n : NodeCode). parts_quiet n.parts) nodes ≡ true → parts_quiet node.parts ≡ true
quiet_node [] i node e q = absurd (cc)
quiet_node (n ∷ nodes) zero node e q = ap (λ (x : NodeCode). parts_quiet x.parts) (sym (some_is n node e)) ∙ both_left (parts_quiet n.parts) (list_all (λ (n : NodeCode). parts_quiet n.parts) nodes) q
quiet_node (n ∷ nodes) (suc i) node e q = quiet_node nodes i node e (both_right (parts_quiet n.parts) (list_all (λ (n : NodeCode). parts_quiet n.parts) nodes) q)

-- quiet code has quiet nodes
pub quiet_code : (code : RawCode) (i : ℕ) (node : NodeCode) → slice_get code.nodes i ≡ Some node → is_quiet code ≡ true → (functions_quiet code.functions && parts_quiet node.parts) ≡ true
quiet_code code i node e q =
    both (functions_quiet code.functions) (parts_quiet node.parts) (both_left (functions_quiet code.functions) (list_all (λ (n : NodeCode). parts_quiet n.parts) code.nodes) q)
    (quiet_node code.nodes i node e (both_right (functions_quiet code.functions) (list_all (λ (n : NodeCode). parts_quiet n.parts) code.nodes) q))
