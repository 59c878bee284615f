-- An index after an object: what it gives, and what is noted of it. Own.
use Rattle.std.specs.Prelude.{Bool, true, false, List, Option, Some}
use Rattle.wg_words.specs.declared.place.Place.{Place}
use Rattle.wg_words.specs.Maybe.{◌>>=◌}
use Rattle.wg_typed.specs.declared.typed_expr.TypedExpr.{TypedExpr}
use Rattle.wg_typing.specs.Conversions.{uint_type}
use Rattle.wg_typing.specs.Layers.{fit}
use Rattle.wg_typing.specs.PartSites.{is_typed, goal_site}
use Rattle.wg_typing.specs.Sites.{at_if}
use Rattle.wg_typing.specs.TypingForms.{begin}
use Rattle.wg_typing.specs.TypingObjects.{element_value, has_elements}
use Rattle.wg_typing.specs.declared.part.Along.{Along}
use Rattle.wg_typing.specs.declared.part.Part.{Part}
use Rattle.wg_typing.specs.declared.scope.Object.{Object}
use Rattle.wg_notes.specs.Notes.{noted, with_faults}
use Rattle.wg_notes.specs.declared.notes.Note.{Note}

abbrev pub at_index : Place → Object → Option TypedExpr → Option Along
at_index place o index = do
  v ← index >>= element_value place o
  Some (begin v)

abbrev pub object_element : Place → Object → Part → Option Along
object_element place o at = at_index place o (fit uint_type at)

-- an index of an object that has elements is a `uint`; of another object there is none
abbrev pub indexed_if : Bool → Place → Part → List Note → List Note
indexed_if true place at old = noted (goal_site uint_type at) old
indexed_if false place at old = with_faults 303 (at_if (is_typed at) place) old

abbrev pub indexed : Place → Object → Part → List Note → List Note
indexed place o at old = indexed_if (has_elements o) place at old
