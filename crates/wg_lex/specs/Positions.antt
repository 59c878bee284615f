-- Places, byte by byte.
use Rattle.std.specs.Prelude.{ℕ, ◌+◌, true, ◌&&◌, if◌then◌else◌, List}
use Rattle.std.specs.List.{list_all, after_last}
use Rattle.wg_words.specs.Characters.{is_line_feed}
use Rattle.wg_tokens.specs.Characters.{is_blank}
use Rattle.wg_tokens.specs.Cut.{place_after}
use Rattle.wg_lex.specs.declared.position.Position.{Position}

-- the position after these bytes
abbrev pub position_after : List ℕ → Position
position_after before = record { place = place_after before; only_blanks = list_all is_blank (after_last is_line_feed before) }

-- the position after one byte more
abbrev pub next_position : Position → ℕ → Position
next_position position b =
    if is_line_feed b then record { place = record { line = position.place.line + 1; column = 1 }; only_blanks = true }
    else record { place = record { line = position.place.line; column = position.place.column + 1 }; only_blanks = position.only_blanks && is_blank b }
