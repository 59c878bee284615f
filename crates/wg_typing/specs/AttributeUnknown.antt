-- Rule 401 of attributes: no attribute of that name, or none that stands there. Its number is own.
use Rattle.std.specs.Prelude.{is_none, List, []}
use Rattle.wg_words.specs.declared.place.Place.{Place}
use Rattle.wg_typing.specs.AttributeSites.{AttributeSite, AtAttribute, AtNode, AtInput, AtOutput, AtValue}
use Rattle.wg_typing.specs.AttributeNames.{standing}
use Rattle.wg_typing.specs.Sites.{at_if}

abbrev pub unknown_at : AttributeSite → List Place
unknown_at (AtAttribute position before a) = at_if (is_none (standing position a)) a.name.place
unknown_at (AtNode f fields) = []
unknown_at (AtInput mode word p) = []
unknown_at (AtOutput array p) = []
unknown_at (AtValue mode p) = []
