-- What stands at the front of a text, as the steps of the lexer say it.
use Rattle.std.specs.Prelude.{ℕ, ◌⊎◌, ◌&&◌, ◌==◌, if◌then◌else◌, nat_le, List}
use Rattle.wg_tokens.specs.Spelling.{blank, comment, token}
use Rattle.wg_tokens.specs.Cut.{IsLongest}
use Rattle.wg_tokens.specs.LexicalRules.{IsWideLiteral, IsOpenComment, IsStray}
use Rattle.wg_lex.specs.declared.fault.LexFault.{LexFault}
use Rattle.wg_lex.specs.declared.fault.LexFault.TheVariants.{NotAscii, Preprocessor, StrayByte}
use Rattle.wg_lex.specs.declared.position.Position.{Position}
use Rattle.wg_lex.specs.declared.front.Front.{Front}
use Rattle.wg_lex.specs.declared.front.Front.TheVariants.{Skipped, Token, WideLiteral, OpenComment, Stray}

abbrev pub IsFront : List ℕ → Front → Type 0
IsFront text (Skipped size) = (IsLongest text (record { matter = blank; size = size }) ⊎ IsLongest text (record { matter = comment; size = size })) × (IsOpenComment text → ⊥)
IsFront text (Token kind size) = IsLongest text (record { matter = token kind; size = size }) × (IsWideLiteral text → ⊥) × (IsOpenComment text → ⊥)
IsFront text WideLiteral = IsWideLiteral text
IsFront text OpenComment = IsOpenComment text
IsFront text Stray = IsStray text

-- the fault of a byte that begins no piece, at this position
abbrev pub stray_fault : ℕ → Position → LexFault
stray_fault b position =
    if nat_le 128 b then NotAscii position.place
    else (if b == 35 && position.only_blanks then Preprocessor position.place else StrayByte position.place)
