-- WrongArity: a wrong number of arguments or components; the called name. Own.
use Rattle.std.specs.Prelude.{◌==◌, not, if◌then◌else◌, List, [], length}
use Rattle.wg_words.specs.declared.place.Place.{Place}
use Rattle.wg_typing.specs.Scope.{Context}
use Rattle.wg_typing.specs.Sites.{at_if}
use Rattle.wg_typing.specs.RulesShared.{all_pieces_whole}
use Rattle.wg_typing.specs.Site.{Site, AtCount, AtFlags}
use Rattle.wg_typing.specs.declared.part.Part.{Part}

abbrev pub miscounted_flags : Context → Place → List Part → List Place
miscounted_flags c name parts = if all_pieces_whole c parts then at_if (not (length parts == 2)) name else []

abbrev pub wrong_arity : Site → List Place
wrong_arity (AtCount name right) = at_if (not right) name
wrong_arity (AtFlags c name parts) = miscounted_flags c name parts
wrong_arity _ = []
