-- Recursion: a function that calls itself; the called name. Own number.
use Rattle.std.specs.Prelude.{List, [], ◌∷◌}
use Rattle.wg_words.specs.declared.place.Place.{Place}
use Rattle.wg_typing.specs.Site.{Site, AtCall}
use Rattle.wg_typing.specs.declared.called.CalledName.{CalledName}
use Rattle.wg_typing.specs.declared.called.CalledName.TheVariants as called_name

abbrev pub itself_called : Place → CalledName → List Place
itself_called name (called_name.Plain number result parameters chain) = []
itself_called name called_name.Entry = []
itself_called name called_name.Itself = name ∷ []
itself_called name (called_name.Builtin b) = []
itself_called name called_name.Broken = []
itself_called name called_name.Unknown = []

abbrev pub recursion : Site → List Place
recursion (AtCall around name k parts) = itself_called name k
recursion _ = []
