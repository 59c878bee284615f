-- A chain of operators so far, from left to right: what its operators give, and what its operands are to a barrier. Own.
use Rattle.std.specs.Prelude.{Bool, true, ◌&&◌, if◌then◌else◌, List, [], ◌∷◌, ◌++◌, Option, None}
use Rattle.wg_tree.specs.declared.expr.BinaryOperator.{BinaryOperator}
use Rattle.wg_typing.specs.Layers.{typed_part}
use Rattle.wg_typing.specs.Scope.{Context}
use Rattle.wg_typing.specs.TypingBarrier.{any_flag}
use Rattle.wg_typing.specs.TypingFlags.{is_or, another}
use Rattle.wg_typing.specs.declared.part.LinkLayer.{LinkLayer}
use Rattle.wg_typing.specs.declared.part.Part.{Part}
use Rattle.wg_typing.specs.declared.part.Piece.{Piece}
use Rattle.wg_typing.specs.declared.part.Piece.TheVariants as piece
use Rattle.wg_typing.specs.declared.scope.Value.{Value}
use Rattle.wg_operators.specs.Operators.{begun, chained_on, ended}
use Rattle.wg_series.specs.declared.chains.Series.{Series}

-- a chain of its first operand alone
abbrev pub series_begun : Part → Series
series_begun first = record { place = first.place; chained = begun (typed_part first); pieces = first.pieces; joined = true }

-- with one more operator and its operand
abbrev pub series_on : Series → BinaryOperator → Part → Series
series_on s operator p = record { place = s.place; chained = chained_on s.chained operator (typed_part p); pieces = s.pieces ++ p.pieces; joined = s.joined && is_or operator }

abbrev pub series : Series → List (LinkLayer Part) → Series
series s [] = s
series s (l ∷ rest) = series (series_on s l.operator l.operand) rest

abbrev pub series_of : Part → List (LinkLayer Part) → Series
series_of first rest = series (series_begun first) rest

-- a chain of this value to a barrier, where its operands are these: it is read as flags where all its operators are `|`, or one of them is a flag
abbrev pub chain_pieces : Context → Option Value → Bool → List Piece → List Piece
chain_pieces c v joined operands = if joined then operands else (if any_flag c operands then piece.Misused ∷ operands else another v)

abbrev pub series_part : Context → Series → Part
series_part c s = record {
  place = s.place;
  value = ended s.place s.chained.run;
  by_name = None;
  pieces = chain_pieces c (ended s.place s.chained.run) s.joined s.pieces;
}
