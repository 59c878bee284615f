-- What is spelled as a text, however deep, is read, or reading stops at the first token that is too deep.
use Rattle.std.proofs.Common.{◌≡◌, ℕ, zero, suc, ◌≤◌, false, List, [], ◌∷◌, ◌++◌, refl, sym, ◌∙◌, ap, inl, inr, ◌⊎◌, arith}
use Rattle.wg_tokens.specs.declared.token.Token.{Token}
use Rattle.wg_tree.specs.declared.item.Source.{Source}
use Rattle.wg_grammar.specs.Reading.{Reading, Got, Deep, sees}
use Rattle.wg_grammar.specs.Depths.{plain, Shallow}
use Rattle.wg_grammar.specs.Productions.{of, spells, stops}
use Rattle.wg_grammar.proofs.Limits.{Limits, Through, Stuck}
use Rattle.wg_grammar.proofs.PartLimits.{part_limits}
use Rattle.wg_tokens.specs.Classes.{class}
use Rattle.wg_tree.specs.Depths.{Depth, Within}
use Rattle.wg_tree.specs.GrammarExpr.{constant, argument}
use Rattle.wg_tree.specs.GrammarItem.{Outer, a_const, an_argument, a_block, text, outermost, outer_rules, SpellsWithin, Spells}
use Rattle.wg_tree.specs.ReadsItem.{outer_edges, outer_readers, read_text}
use Rattle.wg_tree.proofs.Examples.{example}
use Rattle.wg_tree.proofs.ItemDecides.{text_decides}
use Rattle.wg_tree.proofs.TextExact.{exact_outer, complete, raise}
use Rattle.wg_tree.proofs.ExprLimits.{Limited, expr_limits}
use Rattle.wg_tree.proofs.BodyLimits.{limits_below}

abbrev Cells : Type 0
Cells = List (Token × Depth)

outer_limits : (room more : ℕ) → room ≤ more → (n : Outer) → Limited room ((outer_readers room).read n) ((outer_rules more).rule n) (outer_edges.stops n)
outer_limits room more l a_const = expr_limits room constant room more outermost (omega arith) (omega arith) l
outer_limits room more l an_argument = expr_limits room argument room more outermost (omega arith) (omega arith) l
outer_limits room more l a_block = (limits_below room room more l room more outermost (omega arith) (omega arith) l).block

abbrev pub Ends : ℕ → Source → Cells → Type 0
Ends room tree cells = Through (Within room) (read_text room) tree cells [] ⊎ Stuck (Within room) (read_text room) cells

deeper_ends : (room more : ℕ) → room ≤ more → (cells : Cells) (tree : Source) → SpellsWithin more cells tree → Ends room tree cells
deeper_ends room more l cells tree h = whole.ends tree cells [] h refl
  where
    here : Within room outermost
    here = (omega arith, omega arith)

    whole : Limits (Within room) (read_text room) (spells class (outer_rules more) text) (λ _ ts. sees (of class (stops outer_edges text)) ts ≡ false)
    whole = part_limits (Within room) class outer_edges example (outer_rules more) (λ n. (exact_outer more n).begins_with) (outer_readers room) here (λ q. here) (λ q. absurd (cc))
        (record { room = λ e. e; kept = λ n. (exact_outer room n).self; eats = λ n. (exact_outer room n).eats }) (outer_limits room more l) text text_decides

wider : (less room : ℕ) → less ≤ room → (cells : Cells) → Shallow (Within less) cells → Shallow (Within room) cells
wider less room l [] h = tt
wider less room l (x ∷ cells) h = let a = h.0.0 in let b = h.0.1 in ((omega arith, omega arith), wider less room l cells h.1)

-- with less room it is read, so nothing in it is too deep
read_ends : (less room : ℕ) → less ≤ room → (cells : Cells) (tree : Source) → SpellsWithin less cells tree → Ends less tree cells → Ends room tree cells
read_ends less room l cells tree h (inl a) = inl (a.0, a.1, wider less room l a.0 a.2, raise less room (plain cells) tree l (complete less cells tree h))
read_ends less room l cells tree h (inr a) = absurd (let e = sym (complete less cells tree h) ∙ ap (λ z. read_text less (plain z)) a.4 in let d = a.7 (plain a.3) in clash (e ∙ ap (read_text less) (plain_at a.0 a.1 a.2 a.3) ∙ d))
  where
    plain_at : (f : Cells) (t : Token) (d : Depth) (r : Cells) → plain (f ++ (t, d) ∷ r) ≡ plain f ++ t ∷ plain r
    plain_at [] t d r = refl
    plain_at (x ∷ f) t d r = ap (λ z. x.0 ∷ z) (plain_at f t d r)

    clash : {b : List Token} → ◌≡◌ {A = Reading Token Source} (Got tree []) (Deep b) → ⊥
    clash q = cc

pub ends : (room : ℕ) (cells : Cells) (tree : Source) → Spells cells tree → Ends room tree cells
ends room cells tree h = go (compared room h.0)
  where
    compared : (a b : ℕ) → (a ≤ b) ⊎ (b ≤ a)
    compared zero b = inl (omega arith)
    compared (suc a) zero = inr (omega arith)
    compared (suc a) (suc b) = elim (compared a b) [ inl l ↦ inl (omega arith) | inr l ↦ inr (omega arith) ]

    go : (room ≤ h.0) ⊎ (h.0 ≤ room) → Ends room tree cells
    go (inl l) = deeper_ends room h.0 l cells tree h.1
    go (inr l) = read_ends h.0 room l cells tree h.1 (deeper_ends h.0 h.0 (omega arith) cells tree h.1)
