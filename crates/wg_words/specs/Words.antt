-- Word arithmetic, on unbounded numbers: a word of w bits is a number from 0 to 2 ^ w - 1, as `int` and `uint` of HLSL have 32.
-- HLSL Shader Model 6.8 gives the operators and the bit calls; what a divisor 0 gives is this project's own rule.
use Rattle.std.specs.Prelude.{ℕ, zero, suc, ◌+◌, ◌-◌, ◌*◌, ◌/◌, ◌%◌, ◌^◌, ◌==◌, Bool, nat_lt, if◌then◌else◌, Option, Some, None, unwrap_or, ℤ, pos, ◌+ℤ◌, ◌-ℤ◌, ◌*ℤ◌}
use Rattle.std.specs.Int.{bit_at, int_rem_euclid, int_div_euclid}
use Rattle.std.specs.Int.RustNames.{unsigned_abs, int_div, int_rem}
use Rattle.std.specs.Ordering.{nat_cmp, int_cmp}
use Rattle.std.specs.declared.cmp.Ordering.{Ordering}

-- the word that equals z modulo 2 ^ w
abbrev pub wrapped : ℕ → ℤ → ℕ
wrapped w z = unsigned_abs (int_rem_euclid z (pos (2 ^ w)))

-- the number that a word stands for as an `int`
abbrev pub signed : ℕ → ℕ → ℤ
signed w a = if nat_lt a (2 ^ (w - 1)) then pos a else pos a -ℤ pos (2 ^ w)

-- the word whose bits are all 1
abbrev pub all_ones : ℕ → ℕ
all_ones w = 2 ^ w - 1

-- ---- sums, differences and products wrap

abbrev pub sum_of : ℕ → ℕ → ℕ → ℕ
sum_of w a b = wrapped w (pos a +ℤ pos b)

abbrev pub difference : ℕ → ℕ → ℕ → ℕ
difference w a b = wrapped w (pos a -ℤ pos b)

abbrev pub product_of : ℕ → ℕ → ℕ → ℕ
product_of w a b = wrapped w (pos a *ℤ pos b)

-- ---- quotients round toward 0, and a remainder has its dividend's sign

abbrev pub quotient_u : ℕ → ℕ → ℕ → ℕ
quotient_u w a b = if b == 0 then all_ones w else a / b

abbrev pub quotient_s : ℕ → ℕ → ℕ → ℕ
quotient_s w a b = if b == 0 then all_ones w else wrapped w (int_div (signed w a) (signed w b))

abbrev pub remainder_u : ℕ → ℕ → ℕ → ℕ
remainder_u w a b = if b == 0 then all_ones w else a % b

abbrev pub remainder_s : ℕ → ℕ → ℕ → ℕ
remainder_s w a b = if b == 0 then all_ones w else wrapped w (int_rem (signed w a) (signed w b))

-- ---- shifts, by the low bits of their count: w is a power of 2

abbrev pub shifted_left : ℕ → ℕ → ℕ → ℕ
shifted_left w a b = wrapped w (pos (a * 2 ^ (b % w)))

abbrev pub shifted_right_u : ℕ → ℕ → ℕ → ℕ
shifted_right_u w a b = a / 2 ^ (b % w)

-- the quotient is rounded down, so the sign stays
abbrev pub shifted_right_s : ℕ → ℕ → ℕ → ℕ
shifted_right_s w a b = wrapped w (int_div_euclid (signed w a) (pos (2 ^ (b % w))))

-- ---- order

abbrev pub order_u : ℕ → ℕ → Ordering
order_u a b = nat_cmp a b

abbrev pub order_s : ℕ → ℕ → ℕ → Ordering
order_s w a b = int_cmp (signed w a) (signed w b)

-- ---- bits, of which bit k is worth 2 ^ k

-- f 0 + f 1 + .., of the numbers below n
unfoldable pub sum_below : (ℕ → ℕ) → ℕ → ℕ
sum_below f zero = 0
sum_below f (suc n) = sum_below f n + f n

-- the greatest number below n that passes
unfoldable pub greatest_below : (ℕ → Bool) → ℕ → Option ℕ
greatest_below p zero = None
greatest_below p (suc n) = if p n then Some n else greatest_below p n

-- the least number below n that passes
unfoldable pub least_below : (ℕ → Bool) → ℕ → Option ℕ
least_below p zero = None
least_below p (suc n) = found (least_below p n)
  where
    found : Option ℕ → Option ℕ
    found (Some k) = Some k
    found None = if p n then Some n else None

abbrev pub is_bit_set : ℕ → ℕ → Bool
is_bit_set a k = bit_at a k == 1

-- how many bits are 1
abbrev pub set_bits : ℕ → ℕ → ℕ
set_bits w a = sum_below (λ k. bit_at a k) w

-- the place of the highest bit that is 1, counted from the low end; without one, all ones
abbrev pub first_bit_high : ℕ → ℕ → ℕ
first_bit_high w a = unwrap_or (greatest_below (is_bit_set a) w) (all_ones w)

-- the place of the lowest bit that is 1; without one, all ones
abbrev pub first_bit_low : ℕ → ℕ → ℕ
first_bit_low w a = unwrap_or (least_below (is_bit_set a) w) (all_ones w)

-- bit k becomes bit w - 1 - k
abbrev pub reversed : ℕ → ℕ → ℕ
reversed w a = sum_below (λ k. bit_at a k * 2 ^ (w - 1 - k)) w
