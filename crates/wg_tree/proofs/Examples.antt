-- A token of each class.
use Rattle.std.proofs.Common.{ℕ, ◌==◌, false, List, [], ◌∷◌, if◌then◌else◌}
use Rattle.std.specs.Prelude.{codes}
use Rattle.wg_tokens.specs.declared.token.Token.{Token}
use Rattle.wg_tokens.specs.declared.token.TokenKind.{TokenKind}
use Rattle.wg_tokens.specs.declared.token.TokenKind.TheVariants as kind
use Rattle.wg_tokens.specs.declared.keyword.Keyword.{Keyword}
use Rattle.wg_tokens.specs.declared.mark.Mark.{Mark}
use Rattle.wg_tokens.specs.Classes.{NAME, ZERO, NUMBER, TEXT, of_word, of_mark}
use Rattle.wg_tokens.specs.Spelled.{words, marks}

abbrev pub mark_or_end : List (List ℕ × Mark) → ℕ → TokenKind
mark_or_end [] c = kind.End
mark_or_end (entry ∷ rest) c = if of_mark entry.1 == c then kind.Mark entry.1 else mark_or_end rest c

abbrev pub word_or_mark : List (List ℕ × Keyword) → ℕ → TokenKind
word_or_mark [] c = mark_or_end marks c
word_or_mark (entry ∷ rest) c = if of_word entry.1 == c then kind.Plain entry.0 else word_or_mark rest c

abbrev pub example_kind : ℕ → TokenKind
example_kind c = if c == NAME then kind.Plain (codes "a") else (if c == ZERO then kind.Number 0 false false else (if c == NUMBER then kind.Number 1 false false else (if c == TEXT then kind.Text [] else word_or_mark words c)))

abbrev pub example : ℕ → Token
example c = record { kind = example_kind c; place = record { line = 1; column = 1 }; from = 0; to = 0 }
