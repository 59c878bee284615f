-- Sets of classes, as the readers of grammars compare them: by their numbers. Own.
use Rattle.std.specs.Prelude.{ℕ, List, map}
use Rattle.wg_tokens.specs.declared.class.Class.{Class}
use Rattle.wg_tokens.specs.Classes.{number}

abbrev pub numbers : List Class → List ℕ
numbers = map number
