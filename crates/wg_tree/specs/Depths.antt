-- How deep a token stands. Own.
use Rattle.std.specs.Prelude.{ℕ, suc, ◌≤◌}

pub record Depth : Type 0 where
  -- how many blocks and bodies of `if`, `else`, `while` and `for` stand around it, where a body in braces is one and not two
  pub statement : ℕ
  -- the pairs of brackets inside expressions that hold it, and the prefix operators, casts and `?` whose operand to the right holds it
  pub expression : ℕ

abbrev pub deeper : Depth → Depth
deeper d = record { statement = d.statement; expression = suc d.expression }

abbrev pub in_statement : Depth → Depth
in_statement d = record { statement = suc d.statement; expression = d.expression }

-- neither depth is above the limit
abbrev pub Within : ℕ → Depth → Type 0
Within limit d = (d.statement ≤ limit) × (d.expression ≤ limit)
