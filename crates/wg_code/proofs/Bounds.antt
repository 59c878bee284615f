-- Bounds of a node's outputs and lanes.
use Rattle.std.proofs.Common.{◌≡◌, ℕ, suc, ◌+◌, ◌^◌, ◌<◌, ◌≤◌, min, Bool, true, false, List, [], ◌∷◌, length, drop, get_or, sym, ap, ◌∙◌, subst, arith}
use Rattle.std.specs.Prelude.{◌==◌, ◌&&◌, if◌then◌else◌}
use Rattle.std.proofs.Math.Seq.{drop-cons}
use Rattle.wg_machine.specs.declared.shape.Unit.{Unit as Node}
use Rattle.wg_code.specs.declared.code.NodeCode.{NodeCode}
use Rattle.wg_code.specs.declared.code.RawCode.{RawCode}
use Rattle.wg_code.specs.Valid.{outputs_of, is_valid_node, are_valid_nodes}

least_if : (b : Bool) (n m : ℕ) → m ≤ 2 ^ 32 → (if b then min n m else m) ≤ 2 ^ 32
least_if true n m le = grind arith
least_if false n m le = le

pub outputs_below : (units : List Node) (node : ℕ) → outputs_of units node ≤ 2 ^ 32
outputs_below [] node = omega arith
outputs_below (u ∷ rest) node = least_if (u.node == node) (length u.outputs) (outputs_of rest node) (outputs_below rest node)

pub least_is : (units : List Node) (node : ℕ) → min (2 ^ 32) (outputs_of units node) ≡ outputs_of units node
least_is units node = let le = outputs_below units node in omega (arith, le)

-- a node that is not valid ends the check
pub nodes_stop : (code : RawCode) (at : ℕ) (xs nodes : List NodeCode) (node : NodeCode) (r : Bool) → xs ≡ nodes → node ≡ get_or xs at node → at < length xs
    → r ≡ is_valid_node code at node → r ≡ false → are_valid_nodes code at (drop at nodes) ≡ are_valid_nodes code 0 nodes → false ≡ are_valid_nodes code 0 nodes
nodes_stop code at xs nodes node r same is lt judged fails rest =
    let one : node ≡ get_or nodes at node = subst (λ l. node ≡ get_or l at node) same is in
    let inside : at < length nodes = subst (λ (l : List NodeCode). at < length l) same lt in
    let cut : drop at nodes ≡ node ∷ drop (suc at) nodes = drop-cons nodes at node inside ∙ ap (λ n. n ∷ drop (suc at) nodes) (sym one) in
    let no_more : are_valid_nodes code at (drop at nodes) ≡ false = ap (are_valid_nodes code at) cut ∙ ap (λ b. b && are_valid_nodes code (at + 1) (drop (suc at) nodes)) (sym judged ∙ fails) in
    sym no_more ∙ rest
