-- What stands one statement deeper, where there is depth left and where there is none.
use Rattle.std.proofs.Common.{◌≡◌, ℕ, zero, suc, ◌-◌, ◌<◌, true, false, List, [], ◌∷◌, refl, ap, arith}
use Rattle.wg_words.specs.declared.place.Place.{Place}
use Rattle.wg_tokens.specs.declared.token.Token.{Token}
use Rattle.wg_tokens.specs.declared.keyword.Keyword.TheVariants as k
use Rattle.wg_tree.specs.declared.stmt.Attribute.{Attribute}
use Rattle.wg_tree.specs.declared.stmt.Stmt.{Stmt}
use Rattle.wg_grammar.specs.Reading.{Got, read_on, sees, too_deep}
use Rattle.wg_grammar.specs.Productions.{of}
use Rattle.wg_tokens.specs.Classes.{of_word, class}
use Rattle.wg_tree.specs.GrammarStmt.{block_of, if_head_part, while_head_part, for_head_part}
use Rattle.wg_tree.specs.GrammarItem.{attributes}
use Rattle.wg_tree.specs.ReadsExpr.{TokenReader}
use Rattle.wg_tree.specs.ReadsStmt.{head_starts, below_at, read_block, read_unbraced, brace, stmt_starts}
use Rattle.wg_declarations.specs.PartReads.{item_part_read, headed}

pub block_below : (room depth : ℕ) (ts : List Token) → 0 < depth → (below_at room depth).block ts ≡ read_block room (below_at room (depth - 1)) ts
block_below room zero ts l = absurd (omega (arith, l))
block_below room (suc d) ts l = let e : d ≡ suc d - 1 = omega arith in ap (λ n. read_block room (below_at room n) ts) e

-- a body in braces is the block there
pub body_block : (room depth : ℕ) (ts : List Token) → 0 < depth → sees (of class brace) ts ≡ true → (below_at room depth).body ts ≡ read_on ((below_at room depth).block ts) (λ p rest. Got (block_of p) rest)
body_block room zero ts l e = absurd (omega (arith, l))
body_block room (suc d) ts l e = rw e refl

pub body_unbraced : (room depth : ℕ) (ts : List Token) → 0 < depth → sees (of class brace) ts ≡ false → (below_at room depth).body ts ≡ read_unbraced room (below_at room (depth - 1)).body ts
body_unbraced room zero ts l e = absurd (omega (arith, l))
body_unbraced room (suc d) ts l e = let same : d ≡ suc d - 1 = omega arith in rw e (ap (λ n. read_unbraced room (below_at room n).body ts) same)

pub no_block : (room depth : ℕ) (ts : List Token) → depth ≡ 0 → (below_at room depth).block ts ≡ too_deep {X = Place × List Stmt} (of class brace) ts
no_block room depth ts e = ap (λ n. (below_at room n).block ts) e

pub no_body : (room depth : ℕ) (ts : List Token) → depth ≡ 0 → (below_at room depth).body ts ≡ too_deep {X = Stmt} (of class stmt_starts) ts
no_body room depth ts e = ap (λ n. (below_at room n).body ts) e

-- a statement with a body, by the word after its attributes
module _ (room : ℕ) (body : TokenReader Stmt) (ts rest : List Token) (found : List Attribute) (e : sees (of class head_starts) ts ≡ true) (g : item_part_read room attributes ts ≡ Got found rest) where
  pub is_if : sees (of class (of_word k.If ∷ [])) rest ≡ true → read_unbraced room body ts ≡ headed room body found if_head_part rest
  is_if h = rw (e, g, h) refl

  pub is_while : sees (of class (of_word k.If ∷ [])) rest ≡ false → sees (of class (of_word k.While ∷ [])) rest ≡ true → read_unbraced room body ts ≡ headed room body found while_head_part rest
  is_while h w = rw (e, g, h, w) refl

  pub is_for : sees (of class (of_word k.If ∷ [])) rest ≡ false → sees (of class (of_word k.While ∷ [])) rest ≡ false → read_unbraced room body ts ≡ headed room body found for_head_part rest
  is_for h w = rw (e, g, h, w) refl
