-- What is answered for a list of tokens: its tree, or the first token at which it fails, and how. Own.
use Rattle.std.specs.Prelude.{◌≡◌, ℕ, List, [], ◌∷◌, ◌++◌}
use Rattle.wg_tokens.specs.declared.token.Token.{Token}
use Rattle.wg_tree.specs.declared.item.Source.{Source}
use Rattle.wg_grammar.specs.Depths.{plain, Shallow}
use Rattle.wg_tree.specs.Depths.{Depth, Within}
use Rattle.wg_tree.specs.GrammarItem.{Spells, IsViable}

-- some depths of these tokens, none above the limit, spell the tree
abbrev pub SpelledWithin : ℕ → List Token → Source → Type 0
SpelledWithin limit tokens tree = (cells : List (Token × Depth)) × (plain cells ≡ tokens) × Shallow (Within limit) cells × Spells cells tree

-- in no text that begins with these tokens is one of them too deep
abbrev pub NoneTooDeep : ℕ → List Token → Type 0
NoneTooDeep limit front = (cells more : List (Token × Depth)) (tree : Source) → plain cells ≡ front → Spells (cells ++ more) tree → Shallow (Within limit) cells

-- in each text that begins with these tokens and then t, it is t that is the first too deep
abbrev pub FirstTooDeep : ℕ → List Token → Token → Type 0
FirstTooDeep limit front t = (cells more : List (Token × Depth)) (d : Depth) (tree : Source) → plain cells ≡ front → Spells (cells ++ ((t, d) ∷ more)) tree → Shallow (Within limit) cells × (Within limit d → ⊥)

-- no text begins with these tokens and then the next one; at the end, they are no text
abbrev pub CannotFollow : List Token → List Token → Type 0
CannotFollow front [] = (cells : List (Token × Depth)) (tree : Source) → plain cells ≡ front → Spells cells tree → ⊥
CannotFollow front (t ∷ later) = IsViable (front ++ (t ∷ [])) → ⊥

-- the rest begins with the first token that cannot follow, or is the end, and no token before it is too deep
abbrev pub IsExpected : ℕ → List Token → List Token → Type 0
IsExpected limit tokens rest = (front : List Token) × (tokens ≡ front ++ rest) × IsViable front × NoneTooDeep limit front × CannotFollow front rest

-- the rest begins with a token that can follow and is the first too deep
abbrev pub IsTooDeep : ℕ → List Token → List Token → Type 0
IsTooDeep limit tokens rest = (front : List Token) × (t : Token) × (later : List Token) × (tokens ≡ front ++ rest) × (rest ≡ t ∷ later) × IsViable (front ++ (t ∷ [])) × FirstTooDeep limit front t

-- a tree, or the rest that begins with the token at which the text fails
pub data Answer : Type 0 where
  spelled : Source → Answer
  expected : List Token → Answer
  too_deep : List Token → Answer

abbrev pub IsAnswer : ℕ → List Token → Answer → Type 0
IsAnswer limit tokens (spelled tree) = SpelledWithin limit tokens tree
IsAnswer limit tokens (expected rest) = IsExpected limit tokens rest
IsAnswer limit tokens (too_deep rest) = IsTooDeep limit tokens rest
