use Rattle.std.proofs.Common.{◌≡◌, map, take}
use Rattle.wg_tokens.specs.Classes.{class_of}
use Rattle.wg_cursor.proofs.terminals.classes.Given as goal

abbrev pub invariant-loop-token : goal.invariant-loop-token
invariant-loop-token l = l.classes.items ≡ map (λ token. class_of token.kind) (take l.token-index l.tokens)
