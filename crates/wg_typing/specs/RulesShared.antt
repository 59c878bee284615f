-- What the rules of types have in common: parts that stand as values, and the flags of a barrier.
use Rattle.std.specs.Prelude.{◌==◌, Bool, true, false, not, ◌&&◌, if◌then◌else◌, List, [], ◌∷◌, ◌++◌, length, Option, Some, None}
use Rattle.wg_words.specs.declared.place.Place.{Place}
use Rattle.wg_typing.specs.Sites.{at_if}
use Rattle.wg_typing.specs.Scope.{Context}
use Rattle.wg_typing.specs.Layers.{call_of}
use Rattle.wg_typing.specs.TypingActs.{is_plain_act, is_output, is_sync, called_at}
use Rattle.wg_typing.specs.TypingBarrier.{any_broken, unknown_words, is_alone}
use Rattle.wg_tree.specs.declared.expr.Named.{Named}
use Rattle.wg_typing.specs.declared.scope.Value.{Value}
use Rattle.wg_typing.specs.declared.scope.Value.TheVariants as value
use Rattle.wg_typing.specs.declared.context.Around.{Around}
use Rattle.wg_typing.specs.declared.part.FormLayer.{FormLayer}
use Rattle.wg_typing.specs.declared.part.Part.{Part}
use Rattle.wg_typing.specs.declared.part.Along.{Along}
use Rattle.wg_typing.specs.declared.context.Around.TheVariants as surrounding
use Rattle.wg_typing.specs.declared.part.Along.TheVariants as along

-- ---- what stands as a value and is none

-- an object, a string, or a call without a value: a mismatch at the place of its first token
abbrev pub no_value_at : Place → Option Value → List Place
no_value_at place (Some (value.Typed of standing tree)) = []
no_value_at place (Some (value.Object object element)) = place ∷ []
no_value_at place (Some (value.Act name a)) = at_if (is_plain_act a) place
no_value_at place (Some (value.Text bytes)) = place ∷ []
no_value_at place None = []

abbrev pub no_value : Part → List Place
no_value p = no_value_at p.place p.value

abbrev pub is_text : Option Value → Bool
is_text (Some (value.Typed of standing tree)) = false
is_text (Some (value.Object object element)) = false
is_text (Some (value.Act name a)) = false
is_text (Some (value.Text bytes)) = true
is_text None = false

-- a string among the operands in an attribute's argument is told by the rules of attributes
abbrev pub no_value_in : Around → Part → List Place
no_value_in (surrounding.Entry lanes) p = no_value p
no_value_in surrounding.Plain p = no_value p
no_value_in surrounding.Const p = no_value p
no_value_in (surrounding.Attribute allowed) p = if is_text p.value then [] else no_value p

abbrev pub output_used : Part → List Place
output_used p = called_at is_output (call_of p)

abbrev pub sync_used : Part → List Place
sync_used p = called_at is_sync (call_of p)

-- what stands before a form and has no form after it
abbrev pub before_form : (Option Value → List Place) → Along → FormLayer Part → List Place
before_form rule (along.Typed r) f = []
before_form rule (along.Other (value.Typed of standing tree)) f = []
before_form rule (along.Other (value.Object object element)) f = []
before_form rule (along.Other (value.Act name a)) f = rule (Some (value.Act name a))
before_form rule (along.Other (value.Text bytes)) f = rule (Some (value.Text bytes))

-- ---- barriers

abbrev pub all_pieces_whole : Context → List Part → Bool
all_pieces_whole c [] = true
all_pieces_whole c (p ∷ rest) = not (any_broken c p.pieces) && all_pieces_whole c rest

-- the words of the two arguments that name nothing of a barrier
abbrev pub unknown_flags : Context → List Part → List Named
unknown_flags c (m ∷ s ∷ []) = unknown_words c (is_alone m.pieces) m.pieces ++ unknown_words c false s.pieces
unknown_flags c parts = []

-- arguments of a barrier in which no rule is broken
abbrev pub flags_whole : Context → List Part → Bool
flags_whole c parts = all_pieces_whole c parts && (length (unknown_flags c parts) == 0)
