-- Tokens whose numbers are below 2 ^ 64. Own.
use Rattle.std.specs.Prelude.{◌≡◌, ◌^◌, nat_lt, true, List, [], ◌∷◌}
use Rattle.wg_tokens.specs.declared.token.Token.{Token}
use Rattle.wg_tokens.specs.declared.token.TokenKind.{TokenKind}
use Rattle.wg_tokens.specs.declared.token.TokenKind.TheVariants as kind
use Rattle.wg_tree.specs.Depths.{Depth}

abbrev pub KindFits : TokenKind → Type 0
KindFits (kind.Number value unsigned long) = nat_lt value (2 ^ 64) ≡ true
KindFits _ = Unit {0}

-- each number is, of tokens with their depths
abbrev pub AllFit : List (Token × Depth) → Type 0
AllFit [] = Unit {0}
AllFit (c ∷ rest) = KindFits c.0.kind × AllFit rest
