use Rattle.std.proofs.Common.{◌≡◌, ◌≤◌, ◌∙◌, ℕ, List, ap, sym, refl, false, length, map, arith}
use Rattle.std.specs.Prelude.{◌&&◌, slice_get}
use Rattle.std.specs.List.{list_all}
use Rattle.wg_machine.specs.declared.launch.Launch.{Launch}
use Rattle.wg_machine.specs.Units.{kind_at, most_inputs, shared_at}
use Rattle.wg_records.specs.Bags.{slot_at}
use Rattle.wg_records.specs.Named.{has_one_left, is_ready_at, record_at}
use Rattle.wg_records.proofs.Found.{found, named_test}
use Rattle.wg_records.proofs.live.LiveRecords.find.Goals as goal

pub returns-then-not-are_ready : goal.returns-then-not-are_ready
returns-then-not-are_ready c = λ bag keeps fits l named.
    (let e = c.args.entry.now in
    let k = c.args.self.now in
    let test = named_test c.args.shape.now k bag e l c.has_three.ensures keeps named in
    let are : list_all (λ n. is_ready_at e.unit e.at (slot_at k n)) e.inputs ≡ c.are_ready.result =
    ap (list_all (λ n. is_ready_at e.unit e.at (slot_at k n))) (sym c.as_slice-numbers.ensures) ∙ sym c.are_ready.ensures in
    let no : c.are_ready.result ≡ false = c.if-not-are_ready.true in
    cc)

pub returns : goal.returns
returns c = λ bag keeps fits.
    (let e = c.args.entry.now in
    let k = c.args.self.now in
    let G = c.args.shape.now in
    let same = c.as_slice-numbers.ensures in
    let n = ap (λ (ns : List ℕ). length ns) same in
    let m : c.most_inputs.result ≡ most_inputs (kind_at G e.unit) = c.most_inputs.ensures ∙ ap most_inputs c.kind.ensures in
    let t = c.if-numbers-most_inputs.false in
    let few : length e.inputs ≤ most_inputs (kind_at G e.unit) = omega arith in
    let l : Launch = record { unit = e.unit; records = c.in_ok-records.records; group = c.linear_place-group.result; grid = c.grid_at-grid.result; last = c.is_last_launch-last.result } in
    found c.launch_in_is_allowed.ensures c.live_groups_lie_in_grids.ensures G k bag e l c.requires.good c.has_three.ensures c.requires.rise keeps fits (record {
      first = c.in-Some.first.now;
      first_is = c.in-Some.ensures.value ∙ ap (λ (ns : List ℕ). slice_get ns 0) same;
      few = few;
      ready = ap (list_all (λ n. is_ready_at e.unit e.at (slot_at k n))) (sym same) ∙ sym c.are_ready.ensures ∙ c.if-not-are_ready.false;
      records = c.in_ok-records.ensures ∙ ap (map (record_at k)) same;
      grid = c.grid_at-grid.ensures;
      group = c.linear_place-group.ensures;
      unit = refl;
      last = c.is_last_launch-last.ensures ∙ ap (λ (ns : List ℕ). shared_at G e.unit && list_all (λ n. has_one_left (slot_at k n)) ns) same;
    }))
