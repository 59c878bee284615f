-- Launches of valid code leave a lawful world, with few grants.
use Rattle.std.proofs.Common.{◌≡◌, ℕ, zero, suc, ◌+◌, ◌*◌, ◌^◌, ◌<◌, ◌≤◌, Bool, true, false, List, [], ◌∷◌, length, map, Option, Some, None, refl, ap, subst, arith}
use Rattle.std.specs.Prelude.{◌&&◌, ◌||◌, not, nat_lt, nat_le, ◌==◌, if◌then◌else◌, slice_get, slice_index, unwrap_or, IfSome}
use Rattle.std.specs.List.{list_all}
use Rattle.std.proofs.lemmas.Bool.{leb-true}
use Rattle.std.proofs.lemmas.List.{length-replicate}
use Rattle.std.proofs.lemmas.Nat.{mul-le}
use Rattle.wg_words.specs.Each.{Each}
use Rattle.wg_words.specs.Truth.{is_true}
use Rattle.wg_words.specs.declared.limits.TheConstants.{MOST_LANES, MOST_SHARED_WORDS, MOST_CODE_WEIGHT}
use Rattle.wg_machine.specs.Buffers.{Buffers, lengths_of}
use Rattle.wg_machine.specs.GoodShape.{IsGoodShape}
use Rattle.wg_machine.specs.LaunchMeaning.{FitsShape, KeepsLaws}
use Rattle.wg_machine.specs.declared.launch.Launch.{Launch}
use Rattle.wg_machine.specs.declared.shape.Unit.{Unit as Node}
use Rattle.wg_state.specs.Lanes.{lanes_in}
use Rattle.wg_state.specs.Launching.{record_words_of}
use Rattle.wg_state.specs.Turns.{Ending, Spent, Done, and_then, pure}
use Rattle.wg_state.specs.WordLists.{zeros}
use Rattle.wg_state.specs.declared.world.World.{World}
use Rattle.wg_worlds.specs.Laws.{WorldLaws, LaunchLaws}
use Rattle.wg_code.specs.declared.code.Handle.{Handle}
use Rattle.wg_code.specs.declared.code.NodeCode.{NodeCode}
use Rattle.wg_code.specs.declared.code.Part.{Part, roll-Part, fold-Part, fold-roll-Part, ind-Part, map-Part}
use Rattle.wg_code.specs.declared.code.Part.TheOpen.{Part-F}
use Rattle.wg_code.specs.declared.code.RawCode.{RawCode}
use Rattle.wg_code.specs.declared.op.Op.{Op}
use Rattle.wg_code.specs.CodeMeaning.{around_of, node_does, first_lanes, outside_before, verdict_of, node_ends, unit_verdict, made_of, code_made}
use Rattle.wg_code.specs.Counts.{part_requests, requests_in, requests_in_parts}
use Rattle.wg_code.specs.Flow.{Outside}
use Rattle.wg_code.specs.Functions.{in_function, callees}
use Rattle.wg_code.specs.Lane.{Site, Exit}
use Rattle.wg_code.specs.PartMeaning.{Lanes, LaneActions, Running, then_run, lane_left, lane_runs, put_first, lanes_run, first_runs, first_lane, part_step, part_runs, parts_run}
use Rattle.wg_code.specs.Valid.{Scope, are_valid, parts_valid, outputs_of, node_scope, threads_fit, has_threads, is_valid_node, are_valid_nodes, is_valid_function, valid}
use Rattle.wg_code.specs.Valid.{part_step as judged}
use Rattle.wg_coded.specs.Worlds.{left, right, Within, Ends, Adds, CalleeEnds, ops_count, callees_end}

-- ---- sums of products

row_more : (b n x : ℕ) → (b + n) + x * n ≡ b + suc x * n
row_more b n x = grind arith

row_least : (n x : ℕ) → n ≤ suc x * n
row_least n x = grind arith

column_sum : (x a b : ℕ) → x * (a + b) ≡ x * a + x * b
column_sum x a b = grind arith

module _ (W : WorldLaws) (unit : Node) (inputs buffers : List ℕ) where
  abbrev In : ℕ → World → Type 0
  In n w = Within W unit inputs buffers n w

  more : (n m : ℕ) (w : World) → n ≤ m → In n w → In m w
  more n m w le g = (g.0, let l = g.1 in omega (arith, l, le))

  -- so many lanes go on
  abbrev pub RunEnds : ℕ → ℕ → Ending Outside (Option Lanes) → Type 0
  RunEnds count n Spent = Unit {0}
  RunEnds count n (Done None w t) = In n w.1
  RunEnds count n (Done (Some lanes) w t) = In n w.1 × (length lanes ≡ count)

  run_more : (count n m : ℕ) (o : Ending Outside (Option Lanes)) → n ≤ m → RunEnds count n o → RunEnds count m o
  run_more count n m Spent le g = tt
  run_more count n m (Done None w t) le g = more n m w.1 le g
  run_more count n m (Done (Some lanes) w t) le g = (more n m w.1 le g.0, g.1)

  -- what is done on so many lanes makes at most so many grants
  abbrev pub RunAdds : ℕ → ℕ → (Lanes → Running Lanes) → Type 0
  RunAdds count n m = (lanes : Lanes) (w : Outside) (t b : ℕ) → length lanes ≡ count → In b w.1 → RunEnds count (b + n) (m lanes w t)

  -- ---- a body on lanes

  left_ends : (strict : Bool) (n : ℕ) (o : Ending Site Exit) → Ends W unit inputs buffers n o → CalleeEnds W unit inputs buffers n (lane_left strict o)
  left_ends strict n Spent g = tt
  left_ends strict n (Done exit f t) g = g

  lane_then : (count n m : ℕ) (o : Ending Outside (Option (List ℕ))) (K : List ℕ → Running Lanes) → n ≤ m → CalleeEnds W unit inputs buffers n o
      → ((lane : List ℕ) (w : Outside) (t : ℕ) → In n w.1 → RunEnds count m (K lane w t)) → RunEnds count m (and_then o (λ ran. then_run ran K))
  lane_then count n m Spent K le g h = tt
  lane_then count n m (Done None w t) K le g h = more n m w.1 le g
  lane_then count n m (Done (Some lane) w t) K le g h = h lane w t g

  put_ends : (count n : ℕ) (lane : List ℕ) (o : Ending Outside (Option Lanes)) → RunEnds count n o → RunEnds (suc count) n (and_then o (λ others. pure (put_first lane others)))
  put_ends count n lane Spent g = tt
  put_ends count n lane (Done None w t) g = g
  put_ends count n lane (Done (Some lanes) w t) g = (g.0, ap suc g.1)

  module _ (strict : Bool) (bodies : LaneActions) (n : ℕ) (adds : (at : ℕ) → Adds W unit inputs buffers n (bodies at)) where
    one_ends : (at : ℕ) (lane : List ℕ) (w : Outside) (t b : ℕ) → In b w.1 → CalleeEnds W unit inputs buffers (b + n) (lane_runs strict (bodies at) lane w t)
    one_ends at lane w t b g = left_ends strict (b + n) _ (adds at (record { registers = lane; shared = w.0; world = w.1 }) t b g)

    lanes_end : (at : ℕ) (lanes : Lanes) (w : Outside) (t b : ℕ) → In b w.1 → RunEnds (length lanes) (b + length lanes * n) (lanes_run strict bodies at lanes w t)
    lanes_end at [] w t b g = (more b (b + 0 * n) w.1 (omega arith) g, refl)
    lanes_end at (lane ∷ rest) w t b g =
        let sum = row_more b n (length rest) in
        subst (λ m. RunEnds (suc (length rest)) m (lanes_run strict bodies at (lane ∷ rest) w t)) sum
        (lane_then (suc (length rest)) (b + n) ((b + n) + length rest * n) (lane_runs strict (bodies at) lane w t) _ (omega arith) (one_ends at lane w t b g)
        (λ first w t h. put_ends (length rest) ((b + n) + length rest * n) first _ (lanes_end (suc at) rest w t (b + n) h)))

    first_end : (lanes : Lanes) (w : Outside) (t b : ℕ) → In b w.1 → RunEnds (length lanes) (b + length lanes * n) (first_runs strict bodies lanes w t)
    first_end [] w t b g = (more b (b + 0 * n) w.1 (omega arith) g, refl)
    first_end (lane ∷ rest) w t b g =
        let some = row_least n (length rest) in
        lane_then (suc (length rest)) (b + n) (b + suc (length rest) * n) (lane_runs strict (bodies 0) lane w t) (λ first. pure (Some (first ∷ rest))) (omega (arith, some)) (one_ends 0 lane w t b g)
        (λ first w t h. (more (b + n) (b + suc (length rest) * n) w.1 (omega (arith, some)) h, refl))

    pub lanes_add : (count : ℕ) → RunAdds count (count * n) (lanes_run strict bodies 0)
    lanes_add count lanes w t b e g = subst (λ c. RunEnds c (b + c * n) (lanes_run strict bodies 0 lanes w t)) e (lanes_end 0 lanes w t b g)

    pub first_adds : (count : ℕ) → RunAdds count (count * n) (first_runs strict bodies)
    first_adds count lanes w t b e g = subst (λ c. RunEnds c (b + c * n) (first_runs strict bodies lanes w t)) e (first_end lanes w t b g)

  -- ---- parts

  run_then : (count n m : ℕ) (o : Ending Outside (Option Lanes)) (K : Lanes → Running Lanes) → n ≤ m → RunEnds count n o
      → ((lanes : Lanes) (w : Outside) (t : ℕ) → length lanes ≡ count → In n w.1 → RunEnds count m (K lanes w t)) → RunEnds count m (and_then o (λ ran. then_run ran K))
  run_then count n m Spent K le g h = tt
  run_then count n m (Done None w t) K le g h = more n m w.1 le g
  run_then count n m (Done (Some lanes) w t) K le g h = h lanes w t g.1 g.0

  if_adds : (count n : ℕ) (c d : Bool) (m k : Lanes → Running Lanes) (lanes : Lanes) (w : Outside) (t b : ℕ) → RunAdds count n m → RunAdds count n k → length lanes ≡ count → In b w.1
      → RunEnds count (b + n) ((if c then pure None else if d then m lanes else k lanes) w t)
  if_adds count n true d m k lanes w t b h g e i = more b (b + n) w.1 (omega arith) i
  if_adds count n false true m k lanes w t b h g e i = h lanes w t b e i
  if_adds count n false false m k lanes w t b h g e i = g lanes w t b e i

  adds_more : (count n m : ℕ) (a : Lanes → Running Lanes) → n ≤ m → RunAdds count n a → RunAdds count m a
  adds_more count n m a le h lanes w t b e i = run_more count (b + n) (b + m) _ (omega (arith, le)) (h lanes w t b e i)

  module _ (strict : Bool) (k : Scope) (count : ℕ) (B : List Op → LaneActions) (bodies : (body : List Op) → are_valid k false body ≡ true → (at : ℕ) → Adds W unit inputs buffers (requests_in body) (B body at)) where
    abbrev Runs : Part → Type 0
    Runs part = fold-Part Bool (judged k) part ≡ true → RunAdds count (count * fold-Part ℕ part_requests part) (part_runs strict B part)

    order_adds : (parts : List Part) → Each Runs parts → parts_valid k parts ≡ true → RunAdds count (count * requests_in_parts parts) (parts_run strict B parts)
    order_adds [] runs v lanes w t b e i = (more b (b + count * 0) w.1 (omega arith) i, e)
    order_adds (part ∷ parts) runs v lanes w t b e i =
        let n = fold-Part ℕ part_requests part in
        let m = requests_in_parts parts in
        let s = column_sum count n m in
        let sum : (b + count * n) + count * m ≡ b + count * (n + m) = omega (arith, s) in
        subst (λ j. RunEnds count j (parts_run strict B (part ∷ parts) lanes w t)) sum
        (run_then count (b + count * n) ((b + count * n) + count * m) (part_runs strict B part lanes w t) (parts_run strict B parts) (omega arith)
        (runs.0 (left (fold-Part Bool (judged k) part) (parts_valid k parts) v) lanes w t b e i)
        (λ lanes w t e i. order_adds parts runs.1 (right (fold-Part Bool (judged k) part) (parts_valid k parts) v) lanes w t (b + count * n) e i))

    all_run : {C : Type 0} (p : C → Part) → ((c : C) → Runs (p c)) → (cs : List C) → Each Runs (map p cs)
    all_run p runs [] = tt
    all_run p runs (c ∷ cs) = (runs c, all_run p runs cs)

    abbrev Run : Type 0
    Run = Lanes → Running Lanes

    layer : {C : Type 0} (p : C → Part) → ((c : C) → Runs (p c)) → (y : Part-F C)
        → judged k (map-Part Part Bool (fold-Part Bool (judged k)) (map-Part C Part p y)) ≡ true
        → RunAdds count (count * part_requests (map-Part Part ℕ (fold-Part ℕ part_requests) (map-Part C Part p y))) (part_step strict B (map-Part Part Run (part_runs strict B) (map-Part C Part p y)))
    layer p runs (Part-F.Lanes body) v = lanes_add strict (B body) (requests_in body) (bodies body v) count
    layer p runs (Part-F.First body) v = first_adds strict (B body) (requests_in body) (bodies body v) count
    layer {C} p runs (Part-F.Choose a first second) v = λ lanes w t b e i.
        let both = right (nat_lt a k.tables.registers) (parts_valid k (map p first) && parts_valid k (map p second)) v in
        let n = requests_in_parts (map p first) in
        let m = requests_in_parts (map p second) in
        let s = column_sum count n m in
        if_adds count (count * (n + m)) (strict && not (nat_lt a (length (first_lane lanes)))) (is_true (slice_index (first_lane lanes) a)) (parts_run strict B (map p first)) (parts_run strict B (map p second)) lanes w t b
        (adds_more count (count * n) (count * (n + m)) (parts_run strict B (map p first)) (omega (arith, s)) (order_adds (map p first) (all_run p runs first) (left (parts_valid k (map p first)) _ both)))
        (adds_more count (count * m) (count * (n + m)) (parts_run strict B (map p second)) (omega (arith, s)) (order_adds (map p second) (all_run p runs second) (right (parts_valid k (map p first)) (parts_valid k (map p second)) both)))
        e i

    part_adds : (part : Part) → Runs part
    part_adds part = ind-Part Runs
        (λ x y eq. subst (λ l. Runs (roll-Part l)) eq (rw (fold-roll-Part Bool (judged k) _, fold-roll-Part ℕ part_requests _, fold-roll-Part Run (part_step strict B) _) (layer (λ c. c.0) (λ c. c.1) y)))
        part

    each_runs : (parts : List Part) → Each Runs parts
    each_runs [] = tt
    each_runs (part ∷ parts) = (part_adds part, each_runs parts)

    pub parts_add : (parts : List Part) → parts_valid k parts ≡ true → RunAdds count (count * requests_in_parts parts) (parts_run strict B parts)
    parts_add parts v = order_adds parts (each_runs parts) v

-- ---- launches

some_is : {X : Type 0} (x y : X) → Some x ≡ Some y → x ≡ y
some_is x y e = ap (λ o. unwrap_or o x) e

nodes_at : (code : RawCode) (at : ℕ) (nodes : List NodeCode) (i j : ℕ) (node : NodeCode) → slice_get nodes i ≡ Some node → j ≡ at + i → are_valid_nodes code at nodes ≡ true → is_valid_node code j node ≡ true
nodes_at code at [] i j node e is all = absurd (cc)
nodes_at code at (n ∷ ns) zero j node e is all =
    let same : at ≡ j = omega (arith, is) in
    subst (λ a. is_valid_node code a node ≡ true) same (subst (λ m. is_valid_node code at m ≡ true) (some_is n node e) (left (is_valid_node code at n) (are_valid_nodes code (at + 1) ns) all))
nodes_at code at (n ∷ ns) (suc i) j node e is all = nodes_at code (at + 1) ns i j node e (omega (arith, is)) (right (is_valid_node code at n) (are_valid_nodes code (at + 1) ns) all)

few : (lanes requests n : ℕ) → lanes ≤ MOST_LANES → requests ≤ MOST_CODE_WEIGHT → n ≤ 0 + lanes * requests → n < 2 ^ 32
few lanes requests n a b c = let m : lanes * requests ≤ 1024 * 65536 = mul-le lanes requests 1024 65536 a b in omega (arith, m, c)

module _ (W : WorldLaws) (L : LaunchLaws) (code : RawCode) (checked : valid code ≡ true) (good : IsGoodShape code.shape) (launch : Launch) (buffers : Buffers) (turns : ℕ) (fits : FitsShape code.shape launch) where
  module _ (unit : Node) (here : slice_get code.shape.units launch.unit ≡ Some unit) where
    abbrev inputs : List ℕ
    inputs = lengths_of (record_words_of launch)

    abbrev lengths : List ℕ
    lengths = lengths_of buffers

    ended : (count n : ℕ) → count ≤ MOST_LANES → n ≤ MOST_CODE_WEIGHT → (o : Ending Outside (Option Lanes)) → RunEnds W unit inputs lengths count (0 + count * n) o
        → IfSome (made_of (verdict_of unit turns o)) (KeepsLaws code.shape launch buffers turns)
    ended count n a b Spent g = tt
    ended count n a b (Done None w t) g = tt
    ended count n a b (Done (Some lanes) w t) g = L.keeps code.shape launch buffers turns t unit w.1 good fits here g.0.0 (few count n (length w.1.grants) a b g.0.1)

    node_keeps : list_all (is_valid_function code) code.functions ≡ true → are_valid_nodes code 0 code.nodes ≡ true → (o : Option NodeCode) → slice_get code.nodes unit.node ≡ o
        → IfSome (made_of (verdict_of unit turns (node_ends true code o unit launch buffers turns))) (KeepsLaws code.shape launch buffers turns)
    node_keeps functions nodes None e = tt
    node_keeps functions nodes (Some node) e =
        let v = nodes_at code 0 code.nodes unit.node unit.node node e (omega arith) nodes in
        let table = left (threads_fit code.shape.units unit.node (lanes_in node.threads) && list_all (λ (h : Handle). nat_lt h.output (outputs_of code.shape.units unit.node)) node.handles) (parts_valid (node_scope code unit.node node) node.parts && nat_le (requests_in_parts node.parts) MOST_CODE_WEIGHT) v in
        let body = right (threads_fit code.shape.units unit.node (lanes_in node.threads) && list_all (λ (h : Handle). nat_lt h.output (outputs_of code.shape.units unit.node)) node.handles) (parts_valid (node_scope code unit.node node) node.parts && nat_le (requests_in_parts node.parts) MOST_CODE_WEIGHT) v in
        let threads = left (threads_fit code.shape.units unit.node (lanes_in node.threads)) _ table in
        let lanes = right (nat_le 1 (lanes_in node.threads)) (nat_le (lanes_in node.threads) MOST_LANES) (left (nat_le 1 (lanes_in node.threads) && nat_le (lanes_in node.threads) MOST_LANES) (not (has_threads code.shape.units unit.node) || (lanes_in node.threads == 1)) threads) in
        let parts = left (parts_valid (node_scope code unit.node node) node.parts) (nat_le (requests_in_parts node.parts) MOST_CODE_WEIGHT) body in
        let requests = right (parts_valid (node_scope code unit.node node) node.parts) (nat_le (requests_in_parts node.parts) MOST_CODE_WEIGHT) body in
        ended (lanes_in node.threads) (requests_in_parts node.parts) (leb-true (lanes_in node.threads) MOST_LANES lanes) (leb-true (requests_in_parts node.parts) MOST_CODE_WEIGHT requests) _
        (parts_add W unit inputs lengths true (node_scope code unit.node node) (lanes_in node.threads) (node_does true code node unit launch)
        (λ ops valid at. (ops_count W unit inputs lengths true (node_scope code unit.node node) (around_of code node unit launch at) (callees true (in_function (around_of code node unit launch at)) 33) (λ e. refl)
        (callees_end W unit inputs lengths true code (in_function (around_of code node unit launch at)) functions 33) false ops valid).adds)
        node.parts parts (first_lanes node) (outside_before code unit launch buffers) turns 0 (length-replicate (lanes_in node.threads) (zeros node.registers))
        (L.begins [] unit launch buffers, omega arith))

  unit_keeps : (o : Option Node) → slice_get code.shape.units launch.unit ≡ o → IfSome (made_of (unit_verdict true code o launch buffers turns)) (KeepsLaws code.shape launch buffers turns)
  unit_keeps None e = tt
  unit_keeps (Some unit) e =
      let bodies = right (nat_le code.shared MOST_SHARED_WORDS && (length code.nodes == length code.shape.nodes)) (list_all (is_valid_function code) code.functions && are_valid_nodes code 0 code.nodes) checked in
      node_keeps unit e (left (list_all (is_valid_function code) code.functions) (are_valid_nodes code 0 code.nodes) bodies) (right (list_all (is_valid_function code) code.functions) (are_valid_nodes code 0 code.nodes) bodies) (slice_get code.nodes unit.node) refl

  pub keeps_laws : IfSome (code_made code launch buffers turns) (KeepsLaws code.shape launch buffers turns)
  keeps_laws = unit_keeps (slice_get code.shape.units launch.unit) refl
