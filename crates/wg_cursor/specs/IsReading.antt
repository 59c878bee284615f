-- What a function that reads ensures: the reader's outcome, unless memory fails.
use Rattle.std.specs.Prelude.{◌≡◌, List, Result, Ok, Err}
use denote.Bor.{Bor}
use Rattle.wg_tokens.specs.declared.token.Token.{Token}
use Rattle.wg_grammar.specs.Reading.{Reading, Got, Wrong, Deep}
use Rattle.wg_cursor.specs.declared.halt.Halt.{Halt}
use Rattle.wg_cursor.specs.declared.halt.Halt.TheVariants as halt

-- the cursor stands at the token that stopped it
abbrev pub Halts : {X : Type 0} → Reading Token X → Halt → List Token → Type 0
Halts o halt.Wrong left = o ≡ Wrong left
Halts o halt.Deep left = o ≡ Deep left
Halts o halt.Memory left = Unit {0}

abbrev pub IsReading : {X : Type 0} → Reading Token X → Result X Halt → List Token → Type 0
IsReading o (Ok x) left = o ≡ Got x left
IsReading o (Err h) left = Halts o h left

-- the same of a reference to what was read
abbrev pub Lends : {X : Type 0} → Reading Token X → Result (Bor X) Halt → List Token → Type 0
Lends o (Ok x) left = o ≡ Got x.now left
Lends o (Err h) left = Halts o h left
