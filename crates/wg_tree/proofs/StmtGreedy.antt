-- No `else` is left after an open statement that was read.
use Rattle.std.proofs.Common.{◌≡◌, ℕ, zero, suc, Bool, true, false, List, [], ◌++◌, sym, ◌∙◌, ap, if◌then◌else◌, inl, inr, arith, Option}
use Rattle.wg_tokens.specs.declared.mark.Mark.TheVariants as sign
use Rattle.wg_words.specs.declared.place.Place.{Place}
use Rattle.wg_tokens.specs.declared.token.Token.{Token}
use Rattle.wg_tokens.specs.declared.keyword.Keyword.TheVariants as k
use Rattle.wg_tree.specs.declared.expr.Expr.{Expr}
use Rattle.wg_tree.specs.declared.expr.Named.{Named}
use Rattle.wg_tree.specs.declared.stmt.ObjectType.{ObjectType}
use Rattle.wg_tree.specs.declared.stmt.Declaration.{Declaration}
use Rattle.wg_tree.specs.declared.stmt.Step.{Step}
use Rattle.wg_tree.specs.declared.stmt.Stmt.{Stmt}
use Rattle.wg_tree.specs.declared.stmt.Stmt.TheVariants as s
use Rattle.wg_tree.specs.declared.stmt.Stmt.TheOpen.{Stmt-F}
use Rattle.wg_tree.specs.declared.stmt.Stmt.TheFolds.{fold-roll-Stmt}
use Rattle.wg_grammar.specs.Reading.{Reading, Got, Wrong, Deep, read_on, ◌>>=◌, pure, sees, by_next}
use Rattle.wg_grammar.specs.Productions.{sub, of, reads, spells, ◌<*>◌, ◌<$>◌, ◌*>◌}
use Rattle.wg_grammar.proofs.Inverse.{inv_give, inv_two, inv_left, inv_apply}
use Rattle.wg_tokens.specs.Classes.{class}
use Rattle.wg_tree.specs.Depths.{Depth}
use Rattle.wg_tree.specs.GrammarExpr.{mark, word, name}
use Rattle.wg_tree.specs.GrammarStmt.{declaration, const_declaration, a_step, object, record_objects, handle_objects, value, const, Head, basic, head, open_step, is_open, values_rules, hole_rules, block_of, value_part, const_part, some_value, unended}
use Rattle.wg_tree.specs.GrammarItem.{outermost}
use Rattle.wg_tree.specs.ReadsExpr.{TokenReader}
use Rattle.wg_tree.specs.ReadsStmt.{hole_edges, hole_readers, head_starts, brace, stmt_starts, read_finish, read_unbraced, read_block, below_at}
use Rattle.wg_grammar.proofs.Fine as f
use Rattle.wg_tree.specs.Depths.{Within}
use Rattle.wg_tree.proofs.StmtDecides.{basic_decides}
use Rattle.wg_tree.proofs.PieceFine.{pieces_fine}
use Rattle.wg_tree.proofs.StmtFine.{Greedy, finish_greedy}

block_closed : (p : Place) (body : List Stmt) → is_open (s.Block p body) ≡ false
block_closed p body = ap is_open (sym (s.rolls-Block p body)) ∙ fold-roll-Stmt Bool open_step (Stmt-F.Block p body)

empty_closed : (p : Place) → is_open (s.Empty p) ≡ false
empty_closed p = ap is_open (sym (s.rolls-Empty p)) ∙ fold-roll-Stmt Bool open_step (Stmt-F.Empty p)

declare_closed : (d : Declaration) → is_open (s.Declare d) ≡ false
declare_closed d = ap is_open (sym (s.rolls-Declare d)) ∙ fold-roll-Stmt Bool open_step (Stmt-F.Declare d)

handle_closed : (o : ObjectType) (n : Named) (v : Expr) → is_open (s.Handle o n v) ≡ false
handle_closed o n v = ap is_open (sym (s.rolls-Handle o n v)) ∙ fold-roll-Stmt Bool open_step (Stmt-F.Handle o n v)

step_closed : (x : Step) → is_open (s.Step x) ≡ false
step_closed x = ap is_open (sym (s.rolls-Step x)) ∙ fold-roll-Stmt Bool open_step (Stmt-F.Step x)

break_closed : (p : Place) → is_open (s.Break p) ≡ false
break_closed p = ap is_open (sym (s.rolls-Break p)) ∙ fold-roll-Stmt Bool open_step (Stmt-F.Break p)

continue_closed : (p : Place) → is_open (s.Continue p) ≡ false
continue_closed p = ap is_open (sym (s.rolls-Continue p)) ∙ fold-roll-Stmt Bool open_step (Stmt-F.Continue p)

return_closed : (p : Place) (v : Option Expr) → is_open (s.Return p v) ≡ false
return_closed p v = ap is_open (sym (s.rolls-Return p v)) ∙ fold-roll-Stmt Bool open_step (Stmt-F.Return p v)

abbrev Cells : Type 0
Cells = List (Token × Depth)

-- no statement without a body is open
module _ (room : ℕ) (d : Depth) where
  abbrev make_handle : ObjectType → Named → Expr → Stmt
  make_handle o n v = s.Handle o n v

  handle_of : (x : Stmt) (f : Expr → Stmt) (o : ObjectType) (n : Named) (v : Expr) → x ≡ f v → f ≡ make_handle o n → is_open x ≡ false
  handle_of x f o n v p q = ap is_open (p ∙ ap (λ g. g v) q) ∙ handle_closed o n v

  unended_closed : (x : Stmt) (i r : Cells) → spells class (hole_rules room d) unended x i r → is_open x ≡ false
  unended_closed x i r (inl h) = let a = inv_give class (hole_rules room d) (λ (d : Declaration). s.Declare d) (const_declaration value_part const_part) x i r h in ap is_open a.2 ∙ declare_closed a.0
  unended_closed x i r (inr (inl (inl h))) = let a = inv_give class (values_rules room d) (λ (d : Declaration). s.Declare d) (declaration (sub value) (sub const)) x i r h in ap is_open a.2 ∙ declare_closed a.0
  unended_closed x i r (inr (inl (inr h))) = let a = inv_give class (values_rules room d) (λ (x : Step). s.Step x) (a_step (sub value)) x i r h in ap is_open a.2 ∙ step_closed a.0
  unended_closed x i r (inr (inr (inl h))) =
      let a = inv_apply class (hole_rules room d) (make_handle <$> object (record_objects ++ handle_objects) <*> name) (mark sign.Assign *> value_part) x i r h in
      let b = inv_two class (hole_rules room d) make_handle (object (record_objects ++ handle_objects)) name a.0 i a.2 a.3 in
      handle_of x a.0 b.0 b.1 a.1 a.5 b.5
  unended_closed x i r (inr (inr (inr (inl h)))) = let a = inv_give class (hole_rules room d) (λ (p : Place). s.Break p) (word k.Break) x i r h in ap is_open a.2 ∙ break_closed a.0
  unended_closed x i r (inr (inr (inr (inr (inl h))))) = let a = inv_give class (hole_rules room d) (λ (p : Place). s.Continue p) (word k.Continue) x i r h in ap is_open a.2 ∙ continue_closed a.0
  unended_closed x i r (inr (inr (inr (inr (inr h))))) = let a = inv_two class (hole_rules room d) (λ (p : Place) (v : Option Expr). s.Return p v) (word k.Return) some_value x i r h in ap is_open a.5 ∙ return_closed a.0 a.1

  basic_closed : (x : Stmt) (i r : Cells) → spells class (hole_rules room d) basic x i r → is_open x ≡ false
  basic_closed x i r (inl h) = let a = inv_give class (hole_rules room d) (λ (p : Place). s.Empty p) (mark sign.Semicolon) x i r h in ap is_open a.2 ∙ empty_closed a.0
  basic_closed x i r (inr h) = let a = inv_left class (hole_rules room d) unended (mark sign.Semicolon) x i r h in unended_closed x i a.1 a.2

basic_greedy : (room : ℕ) (ts : List Token) → Greedy (reads class hole_edges (hole_readers room) basic ts)
basic_greedy room ts = go (reads class hole_edges (hole_readers room) basic ts) ((pieces_fine ⊥ room room room outermost (omega arith) (omega arith) (omega arith) (λ z. absurd z) basic basic_decides).says ts)
  where
    go : (o : Reading Token Stmt) → f.Says ⊥ (Within room) (spells class (hole_rules room outermost) basic) ts o → Greedy o
    go (Got x m) k = λ q. let c : is_open x ≡ false = basic_closed room outermost x (k.0 ++ []) [] (k.3 []) in absurd (let e : true ≡ false = sym q ∙ c in cc)
    go (Wrong b) k = tt
    go (Deep b) k = tt

module _ (room : ℕ) (p : TokenReader Stmt) (greedy : (ts : List Token) → Greedy (p ts)) where
  unbraced_greedy : (ts : List Token) → Greedy (read_unbraced room p ts)
  unbraced_greedy ts = go (sees (of class head_starts) ts)
    where
      headed : (o : Reading Token Head) → Greedy (read_on o (read_finish room p))
      headed (Got h m) = finish_greedy room p greedy h m
      headed (Wrong b) = tt
      headed (Deep b) = tt

      go : (v : Bool) → Greedy (if v then (reads class hole_edges (hole_readers room) head >>= read_finish room p) ts else reads class hole_edges (hole_readers room) basic ts)
      go true = headed (reads class hole_edges (hole_readers room) head ts)
      go false = basic_greedy room ts

  braced_greedy : (block : TokenReader (Place × List Stmt)) (ts : List Token) → Greedy (by_next (of class brace) (block >>= λ p. pure (block_of p)) (read_unbraced room p) ts)
  braced_greedy block ts = go (sees (of class brace) ts)
    where
      closed : (o : Reading Token (Place × List Stmt)) → Greedy (read_on o (λ p. pure (block_of p)))
      closed (Got p m) = λ q. absurd (let e : true ≡ false = sym q ∙ block_closed p.0 p.1 in cc)
      closed (Wrong b) = tt
      closed (Deep b) = tt

      go : (v : Bool) → Greedy (if v then (block >>= λ p. pure (block_of p)) ts else read_unbraced room p ts)
      go true = closed (block ts)
      go false = unbraced_greedy ts

pub below_greedy : (room depth : ℕ) (ts : List Token) → Greedy ((below_at room depth).body ts)
below_greedy room zero ts = go (sees (of class stmt_starts) ts)
  where
    go : (v : Bool) → Greedy (if v then Deep ts else Wrong ts)
    go true = tt
    go false = tt
below_greedy room (suc depth) ts = braced_greedy room (below_at room depth).body (below_greedy room depth) (read_block room (below_at room depth)) ts
