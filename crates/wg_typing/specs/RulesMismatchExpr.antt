-- Mismatch in an expression: of operands that do not fit together the first token of the whole operation, of an operand that no operand fits
-- with that operand, else the expression that does not convert; its first token. Own.
use Rattle.std.specs.Prelude.{Bool, true, false, not, ◌&&◌, is_none, List, [], ◌∷◌, ◌++◌, Option, Some, None, if◌then◌else◌}
use Rattle.wg_words.specs.declared.place.Place.{Place}
use Rattle.wg_words.specs.Maybe.{◌>>=◌}
use Rattle.wg_typing.specs.Named.{is_among}
use Rattle.wg_typing.specs.Conversions.{numbers, is_number, class_of, suits, operation_on, common_numbers}
use Rattle.wg_typing.specs.TypingObjects.{has_elements}
use Rattle.wg_typing.specs.Sites.{at_if}
use Rattle.wg_typing.specs.PartSites.{is_typed}
use Rattle.wg_typing.specs.TypingActs.{is_plain_act}
use Rattle.wg_tree.specs.declared.expr.Named.{Named}
use Rattle.wg_tree.specs.declared.expr.BinaryOperator.{BinaryOperator}
use Rattle.wg_typed.specs.declared.types.TypeTree.{TypeTree}
use Rattle.wg_typed.specs.declared.types.TypeTree.TheVariants as type
use Rattle.wg_typing.specs.declared.scope.Meant.{Meant}
use Rattle.wg_typing.specs.declared.scope.Meant.TheVariants as meant
use Rattle.wg_typing.specs.declared.scope.Value.TheVariants as value
use Rattle.wg_typing.specs.declared.numbers.Numbers.{Numbers}
use Rattle.wg_typing.specs.declared.numbers.Operation.{Operation}
use Rattle.wg_typing.specs.declared.context.Around.{Around}
use Rattle.wg_typing.specs.declared.part.FormLayer.{FormLayer}
use Rattle.wg_typing.specs.declared.part.Part.{Part}
use Rattle.wg_typing.specs.declared.part.TypedPart.{TypedPart}
use Rattle.wg_typing.specs.declared.part.Along.{Along}
use Rattle.wg_typing.specs.declared.context.Around.TheVariants as surrounding
use Rattle.wg_typing.specs.declared.part.FormLayer.TheVariants as form_layer
use Rattle.wg_typing.specs.declared.part.Along.TheVariants as along

-- a vector's name in a `const`
abbrev pub vector_constant : Option Meant → Bool
vector_constant (Some (meant.Constant of words None)) = true
vector_constant (Some (meant.Constant of words (Some known))) = false
vector_constant (Some (meant.Struct number)) = false
vector_constant (Some (meant.Shared variable of)) = false
vector_constant (Some (meant.Variable variable of constant)) = false
vector_constant (Some (meant.Object object)) = false
vector_constant (Some (meant.Function number is_entry result parameters chain)) = false
vector_constant (Some meant.Itself) = false
vector_constant (Some meant.Broken) = false
vector_constant None = false

abbrev pub unfit_name : Around → Named → Option Meant → List Place
unfit_name (surrounding.Entry lanes) name m = []
unfit_name surrounding.Plain name m = []
unfit_name surrounding.Const name m = at_if (vector_constant m) name.place
unfit_name (surrounding.Attribute allowed) name m = at_if (not (is_among allowed name.name) && vector_constant m) name.place

-- two operands of an operator: each that does not suit, else the whole where they do not fit together
abbrev pub clash : Place → Bool → Bool → Place → Place → Option Operation → List Place
clash whole true true left right o = at_if (is_none o) whole
clash whole true false left right o = right ∷ []
clash whole false true left right o = left ∷ []
clash whole false false left right o = left ∷ right ∷ []

abbrev pub clash_on : Place → BinaryOperator → Place → TypeTree → TypedPart → List Place
clash_on whole operator left a t = clash whole (suits (class_of operator) a) (suits (class_of operator) t.of) left t.place (operation_on operator a t.of)

-- the results of `?:`
abbrev pub choice_of : Option Numbers → Option Numbers → Option Numbers
choice_of a b = do
  m ← a
  n ← b
  common_numbers m n

abbrev pub unfit_results : Place → TypedPart → TypedPart → List Place
unfit_results whole a b =
    if is_number a.of && is_number b.of then at_if (is_none (choice_of (numbers a.of) (numbers b.of))) whole
    else at_if (not (is_number a.of)) a.place ++ at_if (not (is_number b.of)) b.place

-- an index after what has no elements
abbrev pub is_array : TypeTree → Bool
is_array (type.Scalar of) = false
is_array (type.Vector of size) = false
is_array (type.Struct number) = false
is_array (type.Array of size) = true

abbrev pub unfit_index : Bool → Place → FormLayer Part → List Place
unfit_index elements place (form_layer.Member name) = []
unfit_index elements place (form_layer.Method name parts) = []
unfit_index elements place (form_layer.Index p) = at_if (is_typed p && not elements) place

abbrev pub unfit_form : Place → Along → FormLayer Part → List Place
unfit_form place (along.Typed r) f = unfit_index (is_array r.of) place f
unfit_form place (along.Other (value.Typed of standing tree)) f = []
unfit_form place (along.Other (value.Object o element)) f = unfit_index (has_elements o) place f
unfit_form place (along.Other (value.Act name a)) f = at_if (is_plain_act a) place
unfit_form place (along.Other (value.Text bytes)) f = place ∷ []
