-- NotCompleted: a handle without exactly one `OutputComplete`; the handle's name. Own.
use Rattle.std.specs.Prelude.{◌==◌, not, List, [], ◌∷◌, ◌++◌}
use Rattle.wg_words.specs.declared.place.Place.{Place}
use Rattle.wg_typing.specs.Sites.{at_if}
use Rattle.wg_typing.specs.Site.{Site, AtFunction}
use Rattle.wg_typing.specs.RulesBadOutputCall.{completions}
use Rattle.wg_typing.specs.declared.event.Event.{Event}
use Rattle.wg_typing.specs.declared.event.Event.TheVariants as event

-- the handles among the first events that are not completed once in all
abbrev pub uncompleted : List Event → List Event → List Place
uncompleted all [] = []
uncompleted all (event.Declares name words ∷ rest) = uncompleted all rest
uncompleted all (event.Requested name handle ∷ rest) = at_if (not (completions handle all == 1)) name.place ++ uncompleted all rest
uncompleted all (event.Completed handle ∷ rest) = uncompleted all rest
uncompleted all (event.Collective call path ∷ rest) = uncompleted all rest
uncompleted all (event.Returns place ∷ rest) = uncompleted all rest
uncompleted all (event.Calls chain ∷ rest) = uncompleted all rest
uncompleted all (event.Changes variable ∷ rest) = uncompleted all rest

abbrev pub not_completed : Site → List Place
not_completed (AtFunction name around u has_result events) = uncompleted events events
not_completed _ = []
