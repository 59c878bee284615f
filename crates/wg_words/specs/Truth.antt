-- Truth values as words (HLSL, `bool`).
use Rattle.std.specs.Prelude.{ℕ, ◌==◌, Bool, true, false, not, if◌then◌else◌}
use Rattle.std.specs.declared.cmp.Ordering.{Ordering}
use Rattle.std.specs.declared.cmp.Ordering.TheVariants as order

-- a word is true where it is not 0
abbrev pub is_true : ℕ → Bool
is_true word = not (word == 0)

abbrev pub truth : Bool → ℕ
truth b = if b then 1 else 0

abbrev pub is_less_order : Ordering → Bool
is_less_order order.Less = true
is_less_order order.Equal = false
is_less_order order.Greater = false
