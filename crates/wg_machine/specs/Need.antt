-- How many records a launch may send to a unit (Work Graphs, "MaxRecords"; for arrays and the greatest this
-- project's own).
use Rattle.std.specs.Prelude.{ℕ, ◌+◌, ◌==◌, ◌&&◌, max, Bool, false, if◌then◌else◌, List, [], ◌∷◌, map, slice_get, unwrap_or, Option, Some, None}
use Rattle.std.specs.Option.{option_map}
use Rattle.std.specs.List.{list_any}
use Rattle.wg_machine.specs.declared.shape.Output.{Output}
use Rattle.wg_machine.specs.declared.shape.Shape.{Shape}
use Rattle.wg_machine.specs.declared.shape.Unit.{Unit}

abbrev pub is_target : ℕ → Option ℕ → Bool
is_target v None = false
is_target v (Some t) = t == v

-- some element of some output on the budget targets v
abbrev pub reaches : List Output → ℕ → ℕ → Bool
reaches outputs budget v = list_any (λ (o : Output). (o.budget == budget) && list_any (is_target v) o.elements) outputs

-- the sum of `MaxRecords` over the budgets, numbered on from one, that reach v
abbrev pub need_from : List Output → ℕ → List ℕ → ℕ → ℕ
need_from outputs budget [] v = 0
need_from outputs budget (most ∷ budgets) v = (if reaches outputs budget v then most else 0) + need_from outputs (budget + 1) budgets v

-- how many records one launch of a unit may send to v
abbrev pub need_of : Unit → ℕ → ℕ
need_of u v = need_from u.outputs 0 u.budgets v

abbrev pub need : Shape → ℕ → ℕ → ℕ
need shape u v = unwrap_or (option_map (λ (n : Unit). need_of n v) (slice_get shape.units u)) 0

abbrev pub greatest : List ℕ → ℕ
greatest [] = 0
greatest (n ∷ ns) = max n (greatest ns)

-- the greatest need of v
abbrev pub most : Shape → ℕ → ℕ
most shape v = greatest (map (λ (u : Unit). need_of u v) shape.units)
