use Rattle.std.proofs.Common.{◌≡◌, ◌-◌}
use Rattle.wg_grammar.specs.Reading.{many, many_from}
use Rattle.wg_grammar.specs.Productions.{of}
use Rattle.wg_tokens.specs.Classes.{class}
use Rattle.wg_cursor.specs.ClassSets.{numbers}
use Rattle.wg_cursor.specs.Turns.{with_front}
use Rattle.wg_cursor.proofs.list.many.Given as goal

abbrev pub invariant-loop-turn : goal.invariant-loop-turn
invariant-loop-turn g l = with_front l.found.items (many_from (of class (numbers l.starts)) (g.R.ElementReader.reads l.rule) (l._turn-end - l._turn) l.cursor) ≡ many (of class (numbers l.starts)) (g.R.ElementReader.reads l.rule) l.fn.cursor
