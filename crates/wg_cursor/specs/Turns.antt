-- A loop that reads a list, an item a turn. Own.
use Rattle.std.specs.Prelude.{◌≡◌, ℕ, ◌+◌, ◌-◌, ◌<◌, Bool, true, false, List, [], ◌∷◌, ◌++◌}
use Rattle.wg_tokens.specs.declared.token.Token.{Token}
use Rattle.wg_grammar.specs.Reading.{Reading, Got, Reader, read_on, pure, sees, many_from}
use Rattle.wg_cursor.specs.IsReading.{Halts}
use Rattle.wg_cursor.specs.declared.halt.Halt.{Halt}

-- what it has found, before what is still read
abbrev pub with_front : {T X : Type 0} → List X → Reading T (List X) → Reading T (List X)
with_front found o = read_on o (λ more. pure (found ++ more))

-- in this turn, of those before the end, what it has found and what is still read are the whole
abbrev pub IsWhole : {X : Type 0} → (Token → Bool) → Reader Token X → ℕ → ℕ → List X → List Token → Reading Token (List X) → Type 0
IsWhole starts item end turn found ts whole = with_front found (many_from starts item (end - turn) ts) ≡ whole

-- where no item comes, what it has found is the whole
abbrev pub EndsList : Type 0 → Type 0
EndsList X = (starts : Token → Bool) (item : Reader Token X) (end turn : ℕ) (found : List X) (ts : List Token) (whole : Reading Token (List X)) → turn < end → IsWhole starts item end turn found ts whole
    → sees starts ts ≡ false → whole ≡ Got found ts

-- where an item comes, so it is in the next turn with that item
abbrev pub GoesOn : Type 0 → Type 0
GoesOn X = (starts : Token → Bool) (item : Reader Token X) (end turn : ℕ) (found : List X) (ts : List Token) (whole : Reading Token (List X)) → turn < end → IsWhole starts item end turn found ts whole
    → (left : List Token) (x : X) (now : List X) → now ≡ found ++ x ∷ [] → sees starts ts ≡ true → item ts ≡ Got x left → IsWhole starts item end (turn + 1) now left whole

-- where an item comes that can't be read, the whole can't be read
abbrev pub Halted : Type 0 → Type 0
Halted X = (starts : Token → Bool) (item : Reader Token X) (end turn : ℕ) (found : List X) (ts : List Token) (whole : Reading Token (List X)) → turn < end → IsWhole starts item end turn found ts whole
    → (left : List Token) (h : Halt) → sees starts ts ≡ true → Halts (item ts) h left → Halts whole h left
