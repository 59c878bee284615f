-- Expressions as parts: each with what it is to what is around it. Own.
use Rattle.std.specs.Prelude.{ℕ, ◌==◌, if◌then◌else◌, List, [], ◌∷◌, Option, None}
use Rattle.wg_words.specs.declared.place.Place.{Place}
use Rattle.wg_tree.specs.declared.expr.Named.{Named}
use Rattle.wg_typing.specs.TypingFlags.{another}
use Rattle.wg_typing.specs.declared.part.Part.{Part}
use Rattle.wg_typing.specs.declared.part.Piece.{Piece}
use Rattle.wg_typing.specs.declared.part.Piece.TheVariants as piece
use Rattle.wg_typing.specs.declared.scope.Value.{Value}

-- an expression that is no flag of a barrier and no call
abbrev pub plain_part : Place → Option Value → Part
plain_part place v = record { place = place; value = v; by_name = None; pieces = another v }

-- what a number of this value is to a barrier
abbrev pub number_pieces : ℕ → Option Value → List Piece
number_pieces n v = if n == 0 then piece.Zero ∷ [] else another v

-- what a name is to a barrier
abbrev pub word_pieces : Named → List Piece
word_pieces name = piece.Word name ∷ []
