use Rattle.std.proofs.Common.{◌≡◌, ◌<◌, ◌≤◌, ◌^◌, ℕ, List, ap, sym, subst, refl, ◌∙◌, arith, true, false, length, map}
use Rattle.wg_machine.specs.declared.launch.Launch.{Launch}
use Rattle.wg_machine.specs.Grids.{place_of}
use Rattle.wg_machine.specs.Step.{first_grid, is_last, numbers_of, record_of, taken}
use Rattle.wg_machine.specs.Units.{kind_at, most_inputs}
use Rattle.wg_plain.specs.Named.{all_taken, is_ready}
use Rattle.wg_plain.proofs.Found.{named_ready, not_none, small_place, found}
use Rattle.wg_plain.proofs.bag.find.Goals as goal

pub returns-then-not-all_ready : goal.returns-then-not-all_ready
returns-then-not-all_ready c = λ l n.
    (let shape = c.args.shape.now in let bag = c.args.bag.now in let e = c.args.entry.now in
    let h = named_ready shape bag e l n in
    let are : all_taken (is_ready e.unit e.at) e.inputs bag ≡ c.all_ready.result = ap (λ (ns : List ℕ). all_taken (is_ready e.unit e.at) ns bag) (sym c.as_slice-numbers.ensures) ∙ sym c.all_ready.ensures in
    let no : c.all_ready.result ≡ false = c.if-not-all_ready.true in
    cc)

pub returns : goal.returns
returns c =
    let shape = c.args.shape.now in let bag = c.args.bag.now in let e = c.args.entry.now in
    let K = kind_at shape e.unit in
    let G = c.grid_of_first-grid.result in
    let R = c.in_ok-records.records in
    let same = c.as_slice-numbers.ensures in
    let is : R ≡ map record_of (taken e.inputs bag) = c.in_ok-records.ensures ∙ ap (λ (ns : List ℕ). map record_of (taken ns bag)) same in
    let grid : G ≡ first_grid (taken e.inputs bag) = c.grid_of_first-grid.ensures ∙ ap (λ (ns : List ℕ). first_grid (taken ns bag)) same in
    let test : all_taken (is_ready e.unit e.at) e.inputs bag ≡ true = ap (λ (ns : List ℕ). all_taken (is_ready e.unit e.at) ns bag) (sym same) ∙ sym c.all_ready.ensures ∙ c.if-not-all_ready.false in
    let numbers : numbers_of R ≡ e.inputs = ap numbers_of (sym c.as_slice.ensures) ∙ (c.are_numbers.ensures.0 c.if-not-are_numbers.false ∙ same) in
    let n = ap (λ (ns : List ℕ). length ns) same in
    let some = not_none (length c.as_slice-numbers.result.now) (length e.inputs) c.if-is_empty.ensures n in
    let m : c.most_inputs.result ≡ most_inputs K = c.most_inputs.ensures ∙ ap most_inputs c.kind.ensures in
    let t = c.if-numbers-most_inputs.false in
    let few : length e.inputs ≤ most_inputs K = omega arith in
    let last : c.is_last_launch-last.result ≡ is_last shape e.unit (taken e.inputs bag) = c.is_last_launch-last.ensures ∙ ap (λ (ns : List ℕ). is_last shape e.unit (taken ns bag)) same in
    let l : Launch = record { unit = e.unit; records = R; group = c.linear_place-group.result; grid = G; last = c.is_last_launch-last.result } in
    let small : place_of G e.at < 2 ^ 32 =
    subst (λ (g : List ℕ). place_of g e.at < 2 ^ 32) (sym grid)
    (small_place c.live_groups_lie_in_grids.ensures shape bag e c.requires.good c.requires.fitting some test (ap numbers_of (sym is) ∙ numbers)) in
    found c.launch_in_is_allowed.ensures shape bag e l c.requires.fitting some few test is numbers grid refl (c.linear_place-group.ensures small) last
