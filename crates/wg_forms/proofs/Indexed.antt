-- An index after an object, whether the object has elements or not.
use Rattle.std.proofs.Common.{◌≡◌, Bool, true, false, not, ◌&&◌, if◌then◌else◌, List, refl, ap}
use Rattle.wg_words.specs.declared.place.Place.{Place}
use Rattle.wg_typing.specs.Conversions.{uint_type}
use Rattle.wg_typing.specs.PartSites.{goal_site, is_typed}
use Rattle.wg_typing.specs.Sites.{nowhere, at_if}
use Rattle.wg_typing.specs.declared.part.Part.{Part}
use Rattle.wg_notes.specs.Notes.{noted, with_faults}
use Rattle.wg_notes.specs.declared.notes.Note.{Note}
use Rattle.wg_forms.specs.Elements.{indexed_if}

unbroken : (t : Bool) (place : Place) (old : List Note) → old ≡ with_faults 303 (at_if (t && false) place) old
unbroken true place old = refl
unbroken false place old = refl

broken : (t : Bool) (place : Place) (old : List Note) → with_faults 303 (at_if t place) old ≡ with_faults 303 (at_if (t && true) place) old
broken true place old = refl
broken false place old = refl

pub indexed_is : (b : Bool) (place : Place) (at : Part) (old : List Note)
    → indexed_if b place at old ≡ noted (if b then goal_site uint_type at else nowhere) (with_faults 303 (at_if (is_typed at && not b) place) old)
indexed_is true place at old = ap (λ n. noted (goal_site uint_type at) n) (unbroken (is_typed at) place old)
indexed_is false place at old = broken (is_typed at) place old
