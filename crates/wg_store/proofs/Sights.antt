-- What is seen of a core whose records are in their places.
use Rattle.std.proofs.Common.{◌≡◌, ℕ, List, [], length, ap, ◌∙◌}
use Rattle.std.specs.Prelude.{filter}
use Rattle.wg_machine.specs.declared.launch.Live.{Live}
use Rattle.wg_standing.specs.Core.{CoreView}
use Rattle.wg_standing.specs.Outs.{unopened}
use Rattle.wg_standing.specs.Standing.{IsPlaced, by_unit, counts, is_entry_record, opened_of}
use Rattle.wg_store.specs.declared.item.Item.{Item}
use Rattle.wg_store.specs.Items.{lives}
use Rattle.wg_store.specs.Keep.{kept_part, seen}
use Rattle.wg_store.proofs.Lives.{unopened_waits}

pub seen_is : (core : CoreView) (items : List Item) → IsPlaced core core.bag → core.bag ≡ lives core.outs items
    → kept_part core ≡ seen core.shape core.width core.limits core.handed core.journal core.next items core.outs core.tickets
seen_is core items p e =
    let n = length core.shape.units in
    let bag = lives core.outs items in
    let ready = lives [] items in
    let u : unopened core.outs core.bag ≡ ready = ap (unopened core.outs) e ∙ unopened_waits core.outs items in
    let opened : opened_of (unopened core.outs core.bag) core.bag ≡ opened_of ready bag = ap (λ (r : List Live). opened_of r core.bag) u ∙ ap (opened_of ready) e in
    ap (λ (xs : List Live). make xs core.waits core.entries core.held core.taken core.used core.spare) e
    ∙ ap (λ (xs : List (List Live)). make bag xs core.entries core.held core.taken core.used core.spare) (p.waits ∙ ap (by_unit core.handed 0 n) u)
    ∙ ap (λ (xs : List Live). make bag (by_unit core.handed 0 n ready) xs core.held core.taken core.used core.spare) (p.entries ∙ ap (filter (is_entry_record core.handed)) u)
    ∙ ap (λ (xs : List (List Live)). make bag (by_unit core.handed 0 n ready) (filter (is_entry_record core.handed) ready) xs core.taken core.used core.spare) (p.held ∙ ap (by_unit core.handed 0 n) opened)
    ∙ ap (λ (xs : List Live). make bag (by_unit core.handed 0 n ready) (filter (is_entry_record core.handed) ready) (by_unit core.handed 0 n (opened_of ready bag)) xs core.used core.spare) (p.taken ∙ ap (filter (is_entry_record core.handed)) opened)
    ∙ ap (λ (xs : List ℕ). make bag (by_unit core.handed 0 n ready) (filter (is_entry_record core.handed) ready) (by_unit core.handed 0 n (opened_of ready bag)) (filter (is_entry_record core.handed) (opened_of ready bag)) xs core.spare) (p.used ∙ ap (counts core.handed 0 n) e)
    ∙ ap (make bag (by_unit core.handed 0 n ready) (filter (is_entry_record core.handed) ready) (by_unit core.handed 0 n (opened_of ready bag)) (filter (is_entry_record core.handed) (opened_of ready bag)) (counts core.handed 0 n bag)) p.spare
  where
    make : List Live → List (List Live) → List Live → List (List Live) → List Live → List ℕ → ℕ → CoreView
    make bag waits entries held taken used spare =
        record (kept_part core) { bag = bag; waits = waits; entries = entries; held = held; taken = taken; used = used; spare = spare }
