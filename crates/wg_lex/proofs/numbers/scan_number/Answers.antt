use Rattle.wg_lex.proofs.NumberSizes.{decimal_numeral, hexadecimal_numeral}
use Rattle.std.proofs.Common.{sym}
use Rattle.wg_lex.proofs.numbers.scan_number.Goals as goal

pub returns-then-is_hexadecimal : goal.returns-then-is_hexadecimal
returns-then-is_hexadecimal c = hexadecimal_numeral c.args.text.now c.after-digits.result.now c.hex_digits_len.result c.suffixed-numeral.result c.requires (sym c.if-is_hexadecimal.ensures) c.after-digits.ensures c.hex_digits_len.ensures.count c.suffixed-numeral.ensures

pub returns-else-is_hexadecimal : goal.returns-else-is_hexadecimal
returns-else-is_hexadecimal c = decimal_numeral c.args.text.now c.digits_len.result c.suffixed.result c.requires (sym c.if-is_hexadecimal.ensures) c.digits_len.ensures.count c.suffixed.ensures
