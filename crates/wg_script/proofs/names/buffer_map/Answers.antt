use Rattle.std.proofs.Common.{◌≡◌, ◌∙◌, ◌+◌, ◌-◌, ℕ, List, drop, ap, subst, arith}
use Rattle.std.specs.Prelude.{if◌then◌else◌, Some}
use Rattle.std.specs.Str.{bytes_eq}
use Rattle.wg_script.specs.Naming.{first_from}
use Rattle.wg_text.specs.Names.{found_in}
use Rattle.wg_script.proofs.NameLemmas.{place_more}
use Rattle.wg_script.proofs.names.buffer_map.Goals as goal

pub loop-place-preserved : goal.loop-place-preserved
loop-place-preserved c =
    let k = c.loop-place.place in
    let names = c.args.names.now in
    let some = c.loop-place-test.true in
    let within = c.loop-place.invariant.within in
    let up : k ≡ k - 1 + 1 = omega arith in
    let key : c.in_ok-name.name.items ≡ c.index-names-place.result = c.in_ok-name.ensures.items ∙ c.as_slice.ensures in
    record {
      within = omega arith;
      found = λ name. (
          let old : found_in c.loop-place.map name ≡ first_from (λ (n : List ℕ). bytes_eq n name) (k - 1 + 1) (drop (k - 1 + 1) names) =
          subst (λ (i : ℕ). found_in c.loop-place.map name ≡ first_from (λ (n : List ℕ). bytes_eq n name) i (drop i names)) up (c.loop-place.invariant.found name) in
          c.in_ok-insert.ensures.ok name
          ∙ (ap (λ (n : List ℕ). if bytes_eq n name then Some (k - 1) else found_in c.loop-place.map name) key
          ∙ place_more (λ (n : List ℕ). bytes_eq n name) names (k - 1) c.index-names-place.result (found_in c.loop-place.map name) (omega arith) c.index-names-place.is old));
    }
