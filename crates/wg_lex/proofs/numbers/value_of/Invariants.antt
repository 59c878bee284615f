use Rattle.std.proofs.Common.{◌≡◌, take}
use Rattle.wg_tokens.specs.Spelling as spelling
use Rattle.wg_lex.proofs.numbers.value_of.Given as goal

abbrev pub invariant-loop-b : goal.invariant-loop-b
invariant-loop-b l = l.value ≡ spelling.worth l.base (take l.b-index l.digits)
