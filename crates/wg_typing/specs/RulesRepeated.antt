-- Repeated: two of one name in a scope; the second. Own number.
use Rattle.std.specs.Prelude.{List, []}
use Rattle.wg_words.specs.declared.place.Place.{Place}
use Rattle.wg_typing.specs.Named.{is_among}
use Rattle.wg_typing.specs.Sites.{at_if}
use Rattle.wg_typing.specs.Site.{Site, AtName}

abbrev pub repeated : Site → List Place
repeated (AtName scope name) = at_if (is_among scope name.name) name.place
repeated _ = []
