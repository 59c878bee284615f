-- Entry records have no bytes that count.
use Rattle.std.proofs.Common.{◌≡◌, ℕ, ◌+◌, ◌≤◌, ◌<◌, Bool, true, List, [], ◌∷◌, length, refl, ap, arith}
use Rattle.std.specs.Prelude.{if◌then◌else◌, nat_lt}
use Rattle.std.specs.List.{flat_map}
use Rattle.std.proofs.lemmas.Bool.Decides.{nat_tests}
use Rattle.std.proofs.lemmas.List.Sums.{sum_by-append, sum_by-cons}
use Rattle.wg_machine.specs.declared.launch.Live.{Live}
use Rattle.wg_machine.specs.declared.launch.Sent.{Sent}
use Rattle.wg_machine.specs.declared.shape.Shape.{Shape}
use Rattle.wg_machine.specs.Grids.{grid_of, groups_of}
use Rattle.wg_machine.specs.State.{born, kept, live_of}
use Rattle.wg_machine.specs.Units.{kind_at, stride_at}
use Rattle.wg_records.specs.Bags.{bytes_of, bytes_of_bag}
use Rattle.wg_records.proofs.Lists.{live_with}

kept_none : (shape : Shape) (handed n unit : ℕ) (words grid : List ℕ) (gs : List (List ℕ)) → n < handed → bytes_of_bag shape handed (kept (live_with n unit words grid gs)) ≡ 0
kept_none shape handed n unit words grid [] h = refl
kept_none shape handed n unit words grid (g ∷ gs) h =
    let t : nat_lt n handed ≡ true = grind (arith, nat_tests) in
    let v : bytes_of shape handed n unit ≡ 0 = ap (λ (b : Bool). if b then 0 else stride_at shape unit) t in
    let a = sum_by-cons (λ (r : Live). bytes_of shape handed r.number r.unit) (live_with n unit words grid (g ∷ gs)) [] in
    omega (arith, a, v)

pub entry_bytes : (shape : Shape) (handed n : ℕ) (ss : List Sent) → n + length ss ≤ handed → bytes_of_bag shape handed (flat_map kept (born shape n ss)) ≡ 0
entry_bytes shape handed n [] h = refl
entry_bytes shape handed n (s ∷ ss) h =
    let grid = grid_of (kind_at shape s.unit) s.words in
    let a = sum_by-append (λ (r : Live). bytes_of shape handed r.number r.unit) (kept (live_of shape n s)) (flat_map kept (born shape (n + 1) ss)) in
    let b = kept_none shape handed n s.unit s.words grid (groups_of grid) (omega (arith, h)) in
    let c = entry_bytes shape handed (n + 1) ss (omega (arith, h)) in
    omega (arith, a, b, c)
