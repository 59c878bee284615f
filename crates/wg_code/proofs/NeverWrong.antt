-- A launch of valid code that fits its shape never goes wrong.
use Rattle.std.proofs.Common.{◌≡◌, ◌≢◌, ℕ, zero, suc, ◌+◌, ◌^◌, ◌<◌, ◌≤◌, ◌⊎◌, inl, inr, min, Bool, true, false, List, [], ◌∷◌, ◌++◌, length, map, replicate, Option, Some, None, refl, sym, ap, ◌∙◌, subst, arith}
use Rattle.std.specs.Prelude.{◌&&◌, ◌==◌, nat_lt, nat_le, if◌then◌else◌, slice_get, unwrap_or}
use Rattle.std.specs.List.{list_all}
use Rattle.std.proofs.lemmas.Bool.{leb-true}
use Rattle.std.proofs.lemmas.List.{length-map, length-replicate}
use Rattle.wg_words.specs.declared.limits.TheConstants.{MOST_LANES, MOST_SHARED_WORDS, MOST_CODE_WEIGHT}
use Rattle.wg_machine.specs.Buffers.{Buffers}
use Rattle.wg_machine.specs.GoodShape.{IsGoodShape, IsAlike, form_of}
use Rattle.wg_machine.specs.LaunchMeaning.{FitsShape}
use Rattle.wg_machine.specs.Unrolling.{levels, unrolled, node_and_level}
use Rattle.wg_machine.specs.declared.launch.Launch.{Launch}
use Rattle.wg_machine.specs.declared.shape.Unit.{Unit as Node}
use Rattle.wg_state.specs.Lanes.{lanes_in}
use Rattle.wg_state.specs.Turns.{Ending, Spent, Done}
use Rattle.wg_state.specs.WordLists.{zeros}
use Rattle.wg_code.specs.declared.code.Handle.{Handle}
use Rattle.wg_code.specs.declared.code.NodeCode.{NodeCode}
use Rattle.wg_code.specs.declared.code.RawCode.{RawCode}
use Rattle.wg_code.specs.declared.op.Op.{Op}
use Rattle.wg_code.specs.CodeMeaning.{Verdict, SpendsTurns, GoesWrong, Makes, around_of, node_does, first_lanes, outside_before, verdict_of, node_ends, unit_verdict, verdict}
use Rattle.wg_code.specs.Counts.{requests_in_parts}
use Rattle.wg_code.specs.Flow.{Outside}
use Rattle.wg_code.specs.Functions.{in_function, callees}
use Rattle.wg_code.specs.Named.{Tables}
use Rattle.wg_code.specs.PartMeaning.{Lanes}
use Rattle.wg_code.specs.Valid.{Scope, are_valid, is_valid_function, outputs_of, node_scope, parts_valid, threads_fit, is_valid_node, are_valid_nodes, valid}
use Rattle.wg_code.proofs.Alike.{left, right, Alike, ops_alike}
use Rattle.wg_code.proofs.Calls.{callees_alike}
use Rattle.wg_code.proofs.PartsAlike.{Rows, RunFits, parts_alike}

-- ---- lists

pub some_is : {X : Type 0} (x y : X) → Some x ≡ Some y → x ≡ y
some_is x y e = ap (λ o. unwrap_or o x) e

pub get_some : {X : Type 0} (xs : List X) (i : ℕ) → i < length xs → (x : X) × (slice_get xs i ≡ Some x)
get_some [] i lt = absurd (let z : i < 0 = lt in omega (arith, z))
get_some (x ∷ xs) zero lt = (x, refl)
get_some (x ∷ xs) (suc i) lt = get_some xs i (let z : suc i < suc (length xs) = lt in omega (arith, z))

get_map : {X Y : Type 0} (f : X → Y) (xs : List X) (i : ℕ) (x : X) → slice_get xs i ≡ Some x → slice_get (map f xs) i ≡ Some (f x)
get_map f [] i x e = absurd (cc)
get_map f (y ∷ ys) zero x e = ap (λ z. Some (f z)) (some_is y x e)
get_map f (y ∷ ys) (suc i) x e = get_map f ys i x e

-- ---- each unit's node is one of the shape

in_levels : (n d : ℕ) (rest : List (ℕ × ℕ)) (i : ℕ) (p : ℕ × ℕ) → slice_get (levels n d ++ rest) i ≡ Some p → (p.0 ≡ n) ⊎ ((j : ℕ) × (slice_get rest j ≡ Some p))
in_levels n zero rest zero p e = inl (sym (ap (λ (q : ℕ × ℕ). q.0) (some_is (n, 0) p e)))
in_levels n zero rest (suc i) p e = inr (i, e)
in_levels n (suc d) rest zero p e = inl (sym (ap (λ (q : ℕ × ℕ). q.0) (some_is (n, suc d) p e)))
in_levels n (suc d) rest (suc i) p e = in_levels n d rest i p e

in_unrolled : (n : ℕ) (depths : List ℕ) (i : ℕ) (p : ℕ × ℕ) → slice_get (unrolled n depths) i ≡ Some p → p.0 < n + length depths
in_unrolled n [] i p e = absurd (cc)
in_unrolled n (d ∷ depths) i p e = elim (in_levels n d (unrolled (n + 1) depths) i p e) [
  | inl q ↦ omega (arith, q)
  | inr r ↦ (let lt = in_unrolled (n + 1) depths r.0 p r.1 in omega (arith, lt))
]

-- ---- all units of a node have as many outputs

module _ (node n : ℕ) where
  abbrev Same : List Node → Type 0
  Same units = (i : ℕ) (u : Node) → slice_get units i ≡ Some u → u.node ≡ node → length u.outputs ≡ n

  least_or_none : (units : List Node) → Same units → n ≤ 2 ^ 32 → (outputs_of units node ≡ n) ⊎ (outputs_of units node ≡ 2 ^ 32)
  least_or_none [] same le = inr refl
  least_or_none (u ∷ rest) same le = by (u.node == node) refl (least_or_none rest (λ i v e. same (suc i) v e) le)
    where
      by : (b : Bool) → (u.node == node) ≡ b → (outputs_of rest node ≡ n) ⊎ (outputs_of rest node ≡ 2 ^ 32) → ((if b then min (length u.outputs) (outputs_of rest node) else outputs_of rest node) ≡ n) ⊎ ((if b then min (length u.outputs) (outputs_of rest node) else outputs_of rest node) ≡ 2 ^ 32)
      by true e (inl q) = let s = same 0 u refl (grind (arith, e)) in inl (omega (arith, s, q))
      by true e (inr q) = let s = same 0 u refl (grind (arith, e)) in inl (omega (arith, s, q, le))
      by false e h = h

  least_is_here : (units : List Node) → Same units → n ≤ 2 ^ 32 → (i : ℕ) (u : Node) → slice_get units i ≡ Some u → u.node ≡ node → outputs_of units node ≡ n
  least_is_here [] same le i u e is = absurd (cc)
  least_is_here (v ∷ rest) same le zero u e is = by (v.node == node) refl
    where
      here : v.node ≡ node
      here = ap (λ (w : Node). w.node) (some_is v u e) ∙ is

      low : (outputs_of rest node ≡ n) ⊎ (outputs_of rest node ≡ 2 ^ 32) → n ≤ outputs_of rest node
      low (inl q) = omega (arith, q)
      low (inr q) = omega (arith, q, le)

      by : (b : Bool) → (v.node == node) ≡ b → (if b then min (length v.outputs) (outputs_of rest node) else outputs_of rest node) ≡ n
      by true q = let s = same 0 v refl here in let l = low (least_or_none rest (λ i w e. same (suc i) w e) le) in omega (arith, s, l)
      by false q = absurd (let h = here in grind (arith, h, q))
  least_is_here (v ∷ rest) same le (suc i) u e is = by (v.node == node) refl (least_is_here rest (λ i w e. same (suc i) w e) le i u e is)
    where
      by : (b : Bool) → (v.node == node) ≡ b → outputs_of rest node ≡ n → (if b then min (length v.outputs) (outputs_of rest node) else outputs_of rest node) ≡ n
      by true q r = let s = same 0 v refl (grind (arith, q)) in omega (arith, s, r)
      by false q r = r

same_outputs : (a b : Node) → IsAlike a b → length a.outputs ≡ length b.outputs
same_outputs a b alike = sym (length-map a.outputs form_of) ∙ (ap (λ (l : List (ℕ × ℕ × ℕ)). length l) alike.outputs ∙ length-map b.outputs form_of)

-- ---- the code of a node

nodes_at : (code : RawCode) (at : ℕ) (nodes : List NodeCode) (i j : ℕ) (node : NodeCode) → slice_get nodes i ≡ Some node → j ≡ at + i → are_valid_nodes code at nodes ≡ true → is_valid_node code j node ≡ true
nodes_at code at [] i j node e is all = absurd (cc)
nodes_at code at (n ∷ ns) zero j node e is all =
    let same : at ≡ j = omega (arith, is) in
    subst (λ a. is_valid_node code a node ≡ true) same (subst (λ m. is_valid_node code at m ≡ true) (some_is n node e) (left (is_valid_node code at n) (are_valid_nodes code (at + 1) ns) all))
nodes_at code at (n ∷ ns) (suc i) j node e is all = nodes_at code (at + 1) ns i j node e (omega (arith, is)) (right (is_valid_node code at n) (are_valid_nodes code (at + 1) ns) all)

rows_of : (n r : ℕ) → Rows r (replicate n (zeros r))
rows_of zero r = tt
rows_of (suc n) r = (length-replicate {A = ℕ} r 0, rows_of n r)

-- ---- a launch

abbrev pub IsNotWrong : Verdict → Type 0
IsNotWrong SpendsTurns = Unit {0}
IsNotWrong GoesWrong = ⊥
IsNotWrong (Makes o) = Unit {0}

not_wrong : (unit : Node) (turns r sh n : ℕ) (o : Ending Outside (Option Lanes)) → RunFits r sh n o → IsNotWrong (verdict_of unit turns o)
not_wrong unit turns r sh n Spent g = tt
not_wrong unit turns r sh n (Done None w t) g = absurd g
not_wrong unit turns r sh n (Done (Some lanes) w t) g = tt

positive : (n : ℕ) → 1 ≤ n → (m : ℕ) × (n ≡ suc m)
positive zero le = absurd (omega (arith, le))
positive (suc m) le = (m, refl)

-- what validity says of a unit, of its node's code, and of the functions
pub unit_valid : (code : RawCode) (at : ℕ) (unit : Node) (node : NodeCode) → valid code ≡ true → IsGoodShape code.shape → slice_get code.shape.units at ≡ Some unit → slice_get code.nodes unit.node ≡ Some node
    → (list_all (is_valid_function code) code.functions ≡ true) × (is_valid_node code unit.node node ≡ true) × (outputs_of code.shape.units unit.node ≡ length unit.outputs)
unit_valid code at unit node checked good is_unit is_node =
    let bodies = right (nat_le code.shared MOST_SHARED_WORDS && (length code.nodes == length code.shape.nodes)) (list_all (is_valid_function code) code.functions && are_valid_nodes code 0 code.nodes) checked in
    let functions = left (list_all (is_valid_function code) code.functions) (are_valid_nodes code 0 code.nodes) bodies in
    let nodes = right (list_all (is_valid_function code) code.functions) (are_valid_nodes code 0 code.nodes) bodies in
    let fine = nodes_at code 0 code.nodes unit.node unit.node node is_node (omega arith) nodes in
    let few = (good.units at unit is_unit).few_outputs in
    let outputs = least_is_here unit.node (length unit.outputs) code.shape.units (λ i v e is. same_outputs v unit (good.alike i at v unit e is_unit is)) (omega (arith, few)) at unit is_unit refl in
    (functions, fine, outputs)

pub node_parts : (code : RawCode) (at : ℕ) (node : NodeCode) → is_valid_node code at node ≡ true → parts_valid (node_scope code at node) node.parts ≡ true
node_parts code at node good =
    left (parts_valid (node_scope code at node) node.parts) (nat_le (requests_in_parts node.parts) MOST_CODE_WEIGHT)
    (right (threads_fit code.shape.units at (lanes_in node.threads) && list_all (λ (h : Handle). nat_lt h.output (outputs_of code.shape.units at)) node.handles) (parts_valid (node_scope code at node) node.parts && nat_le (requests_in_parts node.parts) MOST_CODE_WEIGHT) good)

-- valid bodies run alike on each lane of a unit
pub bodies_alike : (code : RawCode) (launch : Launch) (unit : Node) (node : NodeCode) → list_all (is_valid_function code) code.functions ≡ true → outputs_of code.shape.units unit.node ≡ length unit.outputs
    → (body : List Op) → are_valid (node_scope code unit.node node) false body ≡ true → (at : ℕ) → Alike false node.registers code.shared (node_does true code node unit launch body at) (node_does false code node unit launch body at)
bodies_alike code launch unit node functions outputs body v at =
    let T : ℕ → Tables = λ o. record { registers = node.registers; shared = code.shared; buffers = length code.shape.buffers; outputs = o; handles = node.handles; functions = code.functions } in
    let A = around_of code node unit launch at in
    ops_alike (node_scope code unit.node node) A node.registers code.shared (ap T outputs) (callees true (in_function A) 33) (callees false (in_function A) 33) (callees_alike code (in_function A) (λ c. refl) functions 33 33 (omega arith)) false body v

module _ (code : RawCode) (launch : Launch) (buffers : Buffers) (turns : ℕ) where
  node_alike : (unit : Node) (node : NodeCode) → list_all (is_valid_function code) code.functions ≡ true → is_valid_node code unit.node node ≡ true → outputs_of code.shape.units unit.node ≡ length unit.outputs
      → (verdict_of unit turns (node_ends true code (Some node) unit launch buffers turns) ≡ verdict_of unit turns (node_ends false code (Some node) unit launch buffers turns))
      × IsNotWrong (verdict_of unit turns (node_ends false code (Some node) unit launch buffers turns))
  node_alike unit node functions good outputs =
      let k : Scope = node_scope code unit.node node in
      let head = left (threads_fit code.shape.units unit.node (lanes_in node.threads) && list_all (λ (h : Handle). nat_lt h.output (outputs_of code.shape.units unit.node)) node.handles) _ good in
      let fit = left (threads_fit code.shape.units unit.node (lanes_in node.threads)) _ head in
      let some = left (nat_le 1 (lanes_in node.threads)) _ (left (nat_le 1 (lanes_in node.threads) && nat_le (lanes_in node.threads) MOST_LANES) _ fit) in
      let p = positive (lanes_in node.threads) (leb-true 1 (lanes_in node.threads) some) in
      let goes = parts_alike k code.shared p.0 (node_does true code node unit launch) (node_does false code node unit launch) (bodies_alike code launch unit node functions outputs) node.parts (node_parts code unit.node node good) (first_lanes node) (outside_before code unit launch buffers) turns (rows_of (lanes_in node.threads) node.registers) (length-replicate (lanes_in node.threads) (zeros node.registers) ∙ p.1) (length-replicate {A = ℕ} code.shared 0) in
      (ap (verdict_of unit turns) goes.0, not_wrong unit turns node.registers code.shared (suc p.0) _ goes.1)

  pub launch_alike : valid code ≡ true → IsGoodShape code.shape → FitsShape code.shape launch → (verdict true code launch buffers turns ≡ verdict false code launch buffers turns) × IsNotWrong (verdict false code launch buffers turns)
  launch_alike checked good fits =
      let u = get_some code.shape.units launch.unit fits.unit in
      let unit : Node = u.0 in
      let un = good.unrolling in
      let counts = left (nat_le code.shared MOST_SHARED_WORDS && (length code.nodes == length code.shape.nodes)) _ checked in
      let count = right (nat_le code.shared MOST_SHARED_WORDS) (length code.nodes == length code.shape.nodes) counts in
      let placed = in_unrolled 0 un.depths launch.unit (node_and_level unit) (sym (ap (λ (l : List (ℕ × ℕ)). slice_get l launch.unit) un.units) ∙ get_map node_and_level code.shape.units launch.unit unit u.1) in
      let same : length code.nodes ≡ length code.shape.nodes = grind (arith, count) in
      let inside : unit.node < length code.nodes = omega (arith, placed, un.count, same) in
      let n = get_some code.nodes unit.node inside in
      let node : NodeCode = n.0 in
      let here = unit_valid code launch.unit unit node checked good u.1 n.1 in
      let g = node_alike unit node here.0 here.1 here.2 in
      let path : (strict : Bool) → verdict strict code launch buffers turns ≡ verdict_of unit turns (node_ends strict code (Some node) unit launch buffers turns) =
      (λ strict. ap (λ o. unit_verdict strict code o launch buffers turns) u.1 ∙ ap (λ o. verdict_of unit turns (node_ends strict code o unit launch buffers turns)) n.1) in
      (path true ∙ (g.0 ∙ sym (path false)), subst IsNotWrong (sym (path false)) g.1)

  pub never_wrong : valid code ≡ true → IsGoodShape code.shape → FitsShape code.shape launch → verdict true code launch buffers turns ≢ GoesWrong
  never_wrong checked good fits = λ e.
      let g = launch_alike checked good fits in
      subst IsNotWrong e (subst IsNotWrong (sym g.0) g.1)
