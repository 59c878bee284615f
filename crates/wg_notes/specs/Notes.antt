-- What a walk over a text writes down: at each site the rules that are broken, and what happens. Own.
use Rattle.std.specs.Prelude.{◌≡◌, ⊤, ℕ, List, [], ◌∷◌, ◌++◌, Result, Ok, Err, Option, Some, None}
use Rattle.wg_words.specs.declared.place.Place.{Place}
use Rattle.wg_typing.specs.declared.fault.TypingRule.{TypingRule}
use Rattle.wg_typing.specs.declared.event.Event.{Event}
use Rattle.wg_typing.specs.Sites.{Sites, nowhere, only, within, ◌&◌}
use Rattle.wg_typing.specs.Site.{Site}
use Rattle.wg_typing.specs.Typing.{typing_number, places}
use Rattle.wg_typing.specs.Faults.{typing_rules}
use Rattle.wg_typing.specs.TypingEvents.{events_at}
use Rattle.wg_notes.specs.declared.notes.Note.{Note}
use Rattle.wg_notes.specs.declared.notes.Note.TheVariants as note

-- a rule is broken at these places
abbrev pub with_faults : ℕ → List Place → List Note → List Note
with_faults rule [] old = old
with_faults rule (p ∷ rest) old = with_faults rule rest (old ++ note.Broken (record { rule = rule; place = p }) ∷ [])

abbrev pub with_events : List Event → List Note → List Note
with_events [] old = old
with_events (e ∷ rest) old = with_events rest (old ++ note.Happens e ∷ [])

abbrev pub with_rules : List TypingRule → Site → List Note → List Note
with_rules [] s old = old
with_rules (r ∷ rest) s old = with_rules rest s (with_faults (typing_number r) (places r s) old)

-- the notes with those of a site
abbrev pub noted_at : Site → List Note → List Note
noted_at s old = with_events (events_at [] s) (with_rules typing_rules s old)

-- the notes with those of these sites
abbrev pub noted : Sites Site → List Note → List Note
noted nowhere old = old
noted (only s) old = noted_at s old
noted (within r a) old = noted a old
noted (a & b) old = noted b (noted a old)

-- the call gives this, and leaves these notes; want of memory says nothing
abbrev pub Leaves : {A E : Type 0} → A → List Note → Result A E → List Note → Type 0
Leaves a notes (Ok r) new = (r ≡ a) × (new ≡ notes)
Leaves a notes (Err e) new = ⊤

-- the call gives this, and writes down what the sites say after what was noted before
abbrev pub Gives : {A E : Type 0} → A → Sites Site → Result A E → List Note → List Note → Type 0
Gives a sites result old new = Leaves a (noted sites old) result new

-- one more, where all before are there
abbrev pub more : {A : Type 0} → Option (List A) → Option A → Option (List A)
more (Some done) (Some a) = Some (done ++ a ∷ [])
more (Some done) None = None
more None a = None
