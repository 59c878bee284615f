-- How a text is cut: it is a list of blanks, comments and tokens, each the longest at its place.
use Rattle.std.specs.Prelude.{◌≡◌, ℕ, ◌+◌, ◌<◌, ◌≤◌, List, [], ◌∷◌, length, take, drop, count_by, not, Some, None}
use Rattle.std.specs.List.{suffix_len}
use Rattle.wg_words.specs.declared.place.Place.{Place}
use Rattle.wg_tokens.specs.declared.token.Token.{Token}
use Rattle.wg_words.specs.Characters.{is_line_feed}
use Rattle.wg_tokens.specs.Spelling.{Matter, blank, comment, token, matter_of}

-- the place of the byte that comes after these: its line and its column, from 1
abbrev pub place_after : List ℕ → Place
place_after before = record {
  line = count_by is_line_feed before + 1;
  column = suffix_len (λ b. not (is_line_feed b)) before + 1;
}

-- a piece of a text and how many bytes it has
pub record Piece : Type 0 where
  pub matter : Matter
  pub size : ℕ

-- the text begins with this piece, and no longer front of it is a piece
pub record IsLongest (text : List ℕ) (piece : Piece) : Type 0 where
  pub inside : piece.size ≤ length text
  pub is : matter_of (take piece.size text) ≡ Some piece.matter
  pub longest : (m : ℕ) → piece.size < m → m ≤ length text → matter_of (take m text) ≡ None

-- the text begins with these pieces, each the longest at its place
abbrev pub BeginsWith : List ℕ → List Piece → Type 0
BeginsWith text [] = Unit {0}
BeginsWith text (p ∷ ps) = IsLongest text p × BeginsWith (drop p.size text) ps

abbrev pub size_of : List Piece → ℕ
size_of [] = 0
size_of (p ∷ ps) = p.size + size_of ps

-- the tokens among pieces, of which the first begins at byte `at` of the text
abbrev pub tokens_of : List ℕ → ℕ → List Piece → List Token
tokens_of text at [] = []
tokens_of text at (p ∷ ps) = with p.matter p.size (tokens_of text (at + p.size) ps)
  where
    with : Matter → ℕ → List Token → List Token
    with blank size later = later
    with comment size later = later
    with (token kind) size later = record { kind = kind; place = place_after (take at text); from = at; to = at + size } ∷ later

-- byte `at` is where a piece begins, or the end of the text
abbrev pub IsCutAt : List ℕ → ℕ → Type 0
IsCutAt text at = (pieces : List Piece) × BeginsWith text pieces × (size_of pieces ≡ at)

-- the text is cut into these tokens
abbrev pub Cuts : List ℕ → List Token → Type 0
Cuts text tokens = (pieces : List Piece) × BeginsWith text pieces × (size_of pieces ≡ length text) × (tokens ≡ tokens_of text 0 pieces)
