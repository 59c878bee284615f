-- What follows a value, form by form from the left: what it gives, what the last form calls, and where the rules look at it. Own.
use Rattle.std.specs.Prelude.{is_none, if◌then◌else◌, List, [], ◌∷◌, Option, Some, None}
use Rattle.wg_words.specs.declared.place.Place.{Place}
use Rattle.wg_words.specs.Maybe.{◌>>=◌}
use Rattle.wg_typing.specs.Layers.{map_form}
use Rattle.wg_typing.specs.Scope.{Context}
use Rattle.wg_typing.specs.Site.{Site, AtUsed}
use Rattle.wg_typing.specs.Sites.{Sites, nowhere, only, ◌&◌, at_if}
use Rattle.wg_typing.specs.TypingActs.{is_plain_act, is_sync, is_output, named_call, act_kind, called_at}
use Rattle.wg_typing.specs.TypingCalled.{form_called}
use Rattle.wg_typing.specs.TypingExpr.{ExprForm, part_of, form_values, form_at, form_after}
use Rattle.wg_typing.specs.TypingFlags.{another}
use Rattle.wg_typing.specs.TypingForms.{begun, finish}
use Rattle.wg_typing.specs.declared.part.Along.{Along}
use Rattle.wg_typing.specs.declared.part.FormLayer.{FormLayer}
use Rattle.wg_typing.specs.declared.part.NamedCall.{NamedCall}
use Rattle.wg_typing.specs.declared.part.Part.{Part}
use Rattle.wg_typing.specs.declared.scope.Act.{Act}
use Rattle.wg_typing.specs.declared.scope.Value.{Value}
use Rattle.wg_notes.specs.Notes.{with_faults}
use Rattle.wg_notes.specs.declared.notes.Note.{Note}
use Rattle.wg_forms.specs.declared.formed.Formed.{Formed}

-- what a form calls, of what stands before it
abbrev pub called_by : Option Along → FormLayer Part → Option NamedCall
called_by None f = None
called_by (Some a) f = form_called a f

-- a value before the forms after it
abbrev pub formed_begun : Part → Formed
formed_begun first = record { place = first.place; along = begun first; called = None }

-- with one more form
abbrev pub formed_on : Context → Formed → FormLayer Part → Formed
formed_on c s f = record { place = s.place; along = form_after c s.place s.along f; called = called_by s.along f }

abbrev pub formed : Context → Formed → List (FormLayer Part) → Formed
formed c s [] = s
formed c s (f ∷ rest) = formed c (formed_on c s f) rest

abbrev pub formed_of : Context → Part → List (FormLayer Part) → Formed
formed_of c first forms = formed c (formed_begun first) forms

-- the call before another form, where a rule is broken in it
abbrev pub broken_before : Formed → Option NamedCall
broken_before s = if is_none s.along then s.called else None

-- where the rules look at the forms after what stands so far
abbrev pub more_sites : Context → Formed → List (FormLayer ExprForm) → Sites Site
more_sites c s [] = nowhere
more_sites c s (f ∷ rest) =
    only (AtUsed (broken_before s)) & form_values c.around f & form_at c s.place s.along (map_form part_of f)
    & more_sites c (formed_on c s (map_form part_of f)) rest

abbrev pub finished : Place → Option Along → Option Value
finished place along = along >>= (λ a. Some (finish place a))

abbrev pub formed_part : Formed → Part
formed_part s = record { place = s.place; value = finished s.place s.along; by_name = s.called; pieces = another (finished s.place s.along) }

-- what is noted of a call without a value that stands before a form
abbrev pub act_before : Place → Place → Act → List Note → List Note
act_before place name act old =
    with_faults 308 (called_at is_output (named_call name (act_kind act))) (with_faults 307 (called_at is_sync (named_call name (act_kind act))) (with_faults 303 (at_if (is_plain_act act) place) old))
