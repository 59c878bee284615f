-- The operators of node code by their numbers, on words of w bits. The numbers are this project's own.
use Rattle.std.specs.Prelude.{ℕ, ◌+◌, ◌-◌, ◌*◌, ◌%◌, ◌^◌, ◌==◌, Bool, nat_le, if◌then◌else◌, bit_and, bit_or, bit_xor}
use Rattle.wg_words.specs.Truth.{truth, is_less_order}
use Rattle.wg_words.specs.Words.{all_ones, set_bits, first_bit_high, first_bit_low, reversed, sum_of, difference, product_of, quotient_u, quotient_s, remainder_u, remainder_s, shifted_left, shifted_right_u, shifted_right_s, order_u, order_s}

abbrev pub unary : ℕ → ℕ → ℕ
unary op a =
    if op == 0 then all_ones 32 - a else
    if op == 1 then set_bits 32 a else
    if op == 2 then first_bit_high 32 a else
    if op == 3 then first_bit_low 32 a else
    reversed 32 a

abbrev pub binary : ℕ → ℕ → ℕ → ℕ → ℕ
binary w op a b =
    if op == 0 then sum_of w a b else
    if op == 1 then difference w a b else
    if op == 2 then product_of w a b else
    if op == 3 then quotient_u w a b else
    if op == 4 then quotient_s w a b else
    if op == 5 then remainder_u w a b else
    if op == 6 then remainder_s w a b else
    if op == 7 then shifted_left w a b else
    if op == 8 then shifted_right_u w a b else
    if op == 9 then shifted_right_s w a b else
    if op == 10 then bit_and a b else
    if op == 11 then bit_or a b else
    if op == 12 then bit_xor a b else
    if op == 13 then truth (a == b) else
    if op == 14 then truth (is_less_order (order_u a b)) else
    truth (is_less_order (order_s w a b))

-- equal and less give the number 1 or 0
abbrev pub is_comparison : ℕ → Bool
is_comparison op = nat_le 13 op

-- on the low 16 bits
abbrev pub half : ℕ → ℕ → ℕ → ℕ
half op a b = binary 16 op (a % 2 ^ 16) (b % 2 ^ 16)

-- the number of 64 bits of two words
abbrev pub paired : ℕ → ℕ → ℕ
paired low high = low + high * 2 ^ 32
