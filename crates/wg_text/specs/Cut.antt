-- A text cut at bytes. This project's own.
use Rattle.std.specs.Prelude.{ℕ, ◌==◌, ◌||◌, Bool, if◌then◌else◌, List, [], ◌∷◌, Option, Some, None}
use Rattle.std.specs.Option.{option_map}
use Rattle.wg_text.specs.declared.cutting.Separator.{Separator}
use Rattle.wg_text.specs.declared.cutting.Separator.TheVariants.{Byte, Blank}

-- what stands before the first such byte, and after it
abbrev pub cut : (ℕ → Bool) → List ℕ → Option (List ℕ × List ℕ)
cut at [] = None
cut at (c ∷ text) = if at c then Some ([], text) else option_map (λ (r : List ℕ × List ℕ). (c ∷ r.0, r.1)) (cut at text)

-- whether a separator stands between pieces as this byte; a blank is a space or a tab
abbrev pub separates : Separator → ℕ → Bool
separates (Byte separator) c = c == separator
separates Blank c = (c == 32) || (c == 9)
