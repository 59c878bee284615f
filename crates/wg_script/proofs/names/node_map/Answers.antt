use Rattle.std.proofs.Common.{◌≡◌, ◌∙◌, ◌+◌, ◌-◌, ℕ, Bool, List, drop, get_or, ap, subst, arith}
use Rattle.std.specs.Prelude.{if◌then◌else◌, Option, Some}
use Rattle.std.specs.Option.{option_map}
use Rattle.std.specs.Str.{bytes_eq}
use Rattle.wg_machine.specs.declared.shape.NodeName.{NodeName}
use Rattle.wg_script.specs.Naming.{first_from, has_name, entry_at}
use Rattle.wg_text.specs.Names.{found_in}
use Rattle.wg_script.specs.Names.{node_key}
use Rattle.wg_script.proofs.NameLemmas.{first_more, same_key}
use Rattle.wg_script.proofs.names.node_map.Goals as goal

pub loop-place-preserved : goal.loop-place-preserved
loop-place-preserved c =
    let k = c.loop-place.place in
    let shape = c.args.shape.now in
    let node = c.index-nodes-place.result in
    let map = c.loop-place.map in
    let some = c.loop-place-test.true in
    let within = c.loop-place.invariant.within in
    let up : k ≡ k - 1 + 1 = omega arith in
    let here : node ≡ get_or shape.nodes (k - 1) node = c.index-nodes-place.is ∙ ap (λ (l : List NodeName). get_or l (k - 1) node) c.as_slice-nodes.ensures in
    let key : c.in_ok-key.key.items ≡ node_key node.name node.index = c.in_ok-key.ensures.key ∙ ap (λ (t : List ℕ). node_key t node.index) c.as_slice.ensures in
    record {
      within = omega arith;
      found = λ name index fits. (
          let old : found_in map (node_key name index) ≡ option_map (entry_at shape) (first_from (has_name name index) (k - 1 + 1) (drop (k - 1 + 1) shape.nodes)) =
          subst (λ (i : ℕ). found_in map (node_key name index) ≡ option_map (entry_at shape) (first_from (has_name name index) i (drop i shape.nodes))) up (c.loop-place.invariant.found name index fits) in
          let unit : Some c.entry_unit.result ≡ Some (entry_at shape (k - 1)) = ap (λ (u : Option ℕ). Some u) c.entry_unit.ensures in
          let test : bytes_eq c.in_ok-key.key.items (node_key name index) ≡ has_name name index node = ap (λ (t : List ℕ). bytes_eq t (node_key name index)) key ∙ same_key node.name node.index name index c.in_ok-key.ensures.fits fits in
          c.in_ok-insert.ensures.ok (node_key name index)
          ∙ (ap (λ (t : Bool). if t then Some c.entry_unit.result else found_in map (node_key name index)) test
          ∙ (ap (λ (u : Option (Option ℕ)). if has_name name index node then u else found_in map (node_key name index)) unit
          ∙ first_more (has_name name index) (entry_at shape) shape.nodes (k - 1) node (found_in map (node_key name index)) (omega arith) here old)));
    }
