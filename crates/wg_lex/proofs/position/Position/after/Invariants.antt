use Rattle.std.proofs.Common.{◌≡◌, ◌+◌, ◌≤◌, fold, take}
use Rattle.wg_lex.specs.Positions.{next_position}
use Rattle.wg_lex.proofs.position.Position.after.Given as goal

abbrev pub invariant-loop-b : goal.invariant-loop-b
invariant-loop-b l = (l.position ≡ fold next_position l.fn.self (take l.b-index l.bytes)) × (l.position.place.line ≤ l.fn.self.place.line + l.b-index) × (l.position.place.column ≤ l.fn.self.place.column + l.b-index)
