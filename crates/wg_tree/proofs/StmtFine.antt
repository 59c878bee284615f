-- What is read as a statement is spelled so: an `else` that is read follows no open statement.
use Rattle.std.proofs.Common.{◌≡◌, ℕ, Bool, true, false, List, [], ◌∷◌, refl, sym, ◌∙◌, ap, if◌then◌else◌, inl, inr, ◌⊎◌, Some, None}
use Rattle.wg_words.specs.declared.place.Place.{Place}
use Rattle.wg_tokens.specs.declared.token.Token.{Token}
use Rattle.wg_tokens.specs.declared.keyword.Keyword.TheVariants as k
use Rattle.wg_tree.specs.declared.expr.Expr.{Expr}
use Rattle.wg_tree.specs.declared.stmt.Attribute.{Attribute}
use Rattle.wg_tree.specs.declared.stmt.Stmt.{Stmt}
use Rattle.wg_tree.specs.declared.stmt.Stmt.TheVariants as s
use Rattle.wg_grammar.specs.Spans.{Seq, None_of, Leaf}
use Rattle.wg_grammar.specs.Reading.{Reading, Got, Wrong, Deep, read_on, ◌>>=◌, pure, sees, take_if, by_next}
use Rattle.wg_grammar.specs.Productions.{of}
use Rattle.wg_grammar.proofs.Fine as f
use Rattle.wg_tokens.specs.Classes.{of_word, class}
use Rattle.wg_tree.specs.Depths.{Depth, Within}
use Rattle.wg_tree.specs.GrammarExpr.{Phrase}
use Rattle.wg_tree.specs.GrammarStmt.{Head, if_head, while_head, for_head, is_open, finish}
use Rattle.wg_tree.specs.ReadsExpr.{TokenReader}
use Rattle.wg_tree.specs.ReadsStmt.{read_finish}
use Rattle.wg_tree.proofs.Examples.{example}
use Rattle.wg_tree.proofs.StmtExact.{if_else, while_body, for_body}

abbrev elses : List ℕ
elses = of_word k.Else ∷ []

-- no `else` is left after an open statement
abbrev pub Greedy : Reading Token Stmt → Type 0
Greedy (Got x m) = is_open x ≡ true → sees (of class elses) m ≡ false
Greedy (Wrong b) = Unit {0}
Greedy (Deep b) = Unit {0}

module _ (room : ℕ) (p : TokenReader Stmt) (greedy : (ts : List Token) → Greedy (p ts)) where
  second_greedy : (a : List Attribute) (place : Place) (t : Expr) (x : Stmt) (o : Reading Token Stmt) → Greedy o → Greedy (read_on o (λ y. pure (s.If a place t x (Some y))))
  second_greedy a place t x (Got y m) g = λ q. g (sym (if_else a place t x y) ∙ q)
  second_greedy a place t x (Wrong b) g = tt
  second_greedy a place t x (Deep b) g = tt

  taken_greedy : (a : List Attribute) (place : Place) (t : Expr) (x : Stmt) (o : Reading Token Place) → Greedy (read_on o (λ _. p >>= λ y. pure (s.If a place t x (Some y))))
  taken_greedy a place t x (Got c m) = second_greedy a place t x (p m) (greedy m)
  taken_greedy a place t x (Wrong b) = tt
  taken_greedy a place t x (Deep b) = tt

  first_greedy : (a : List Attribute) (place : Place) (t : Expr) (x : Stmt) (m : List Token) (v : Bool) → sees (of class elses) m ≡ v
      → Greedy (if v then (take_if (of class elses) (λ t. t.place) >>= λ _. p >>= λ y. pure (s.If a place t x (Some y))) m else Got (s.If a place t x None) m)
  first_greedy a place t x m true e = taken_greedy a place t x (take_if (of class elses) (λ t. t.place) m)
  first_greedy a place t x m false e = λ q. e

  pub finish_greedy : (h : Head) (ts : List Token) → Greedy (read_finish room p h ts)
  finish_greedy (if_head a place t) ts = go (p ts)
    where
      go : (o : Reading Token Stmt) → Greedy (read_on o (λ x. by_next (of class elses) (take_if (of class elses) (λ t. t.place) >>= λ _. p >>= λ y. pure (s.If a place t x (Some y))) (pure (s.If a place t x None))))
      go (Got x m) = first_greedy a place t x m (sees (of class elses) m) refl
      go (Wrong b) = tt
      go (Deep b) = tt
  finish_greedy (while_head a place t) ts = go (p ts) (greedy ts)
    where
      go : (o : Reading Token Stmt) → Greedy o → Greedy (read_on o (λ x. pure (s.While a place t x)))
      go (Got x m) g = λ q. g (sym (while_body a place t x) ∙ q)
      go (Wrong b) g = tt
      go (Deep b) g = tt
  finish_greedy (for_head a place h) ts = go (p ts) (greedy ts)
    where
      go : (o : Reading Token Stmt) → Greedy o → Greedy (read_on o (λ x. pure (s.For a place h x)))
      go (Got x m) g = λ q. g (sym (for_body a place h x) ∙ q)
      go (Wrong b) g = tt
      go (Deep b) g = tt

  module _ (ok : Type 0) (limit : ℕ) (P : Phrase Stmt) (d : Depth) (within : Within limit d) (fine : f.Fine ok (Within limit) p P) where
    abbrev Rest : List Attribute → Place → Expr → Stmt → Phrase Stmt
    Rest a place t x y i r = (None_of (s.If a place t x None) y i r) ⊎ ((is_open x ≡ false) × Seq (Leaf (of class elses) (λ t. t.place) d) (λ _. Seq P (λ z. None_of (s.If a place t x (Some z)))) y i r)

    -- the same reader, which never takes an `else` after what is open
    abbrev more : List Attribute → Place → Expr → Stmt → TokenReader Stmt
    more a place t x = by_next (of class elses) (take_if (of class elses) (λ t. t.place) >>= λ _. p >>= λ y. pure (s.If a place t x (Some y))) (pure (s.If a place t x None))

    abbrev more_if : List Attribute → Place → Expr → Stmt → TokenReader Stmt
    more_if a place t x = λ ts. if is_open x then Got (s.If a place t x None) ts else more a place t x ts

    more_same : (a : List Attribute) (place : Place) (t : Expr) (x : Stmt) (ts : List Token) → (is_open x ≡ true → sees (of class elses) ts ≡ false) → more a place t x ts ≡ more_if a place t x ts
    more_same a place t x ts h = go (is_open x) refl
      where
        go : (v : Bool) → is_open x ≡ v → more a place t x ts ≡ (if v then Got (s.If a place t x None) ts else more a place t x ts)
        go true e = ap (λ z. if z then (take_if (of class elses) (λ t. t.place) >>= λ _. p >>= λ y. pure (s.If a place t x (Some y))) ts else Got (s.If a place t x None) ts) (h e)
        go false e = refl

    more_fine : (a : List Attribute) (place : Place) (t : Expr) (x : Stmt) → f.Fine ok (Within limit) (more_if a place t x) (Rest a place t x)
    more_fine a place t x = go (is_open x) refl
      where
        alone : f.Fine ok (Within limit) (pure (s.If a place t x None)) (Rest a place t x)
        alone = f.fine_as ok (Within limit) {P = None_of (s.If a place t x None)} (λ y i r. inl) (f.fine_pure ok (Within limit) (s.If a place t x None))

        both : is_open x ≡ false → f.Fine ok (Within limit) (take_if (of class elses) (λ t. t.place) >>= λ _. p >>= λ y. pure (s.If a place t x (Some y))) (Rest a place t x)
        both e = f.fine_as ok (Within limit) {P = Seq (Leaf (of class elses) (λ t. t.place) d) (λ _. Seq P (λ z. None_of (s.If a place t x (Some z))))} (λ y i r h. inr (e, h))
            (f.fine_bind ok (Within limit) (f.fine_take ok (Within limit) (of class elses) (λ t. t.place) d (example (of_word k.Else)) refl within) (λ _. f.fine_bind ok (Within limit) {Q = λ z. None_of (s.If a place t x (Some z))} fine (λ z. f.fine_pure ok (Within limit) (s.If a place t x (Some z)))))

        go : (v : Bool) → is_open x ≡ v → f.Fine ok (Within limit) (λ ts. if v then Got (s.If a place t x None) ts else more a place t x ts) (Rest a place t x)
        go true e = alone
        go false e = f.fine_if ok (Within limit) (sees (of class elses)) (both e) alone

    if_same : (a : List Attribute) (place : Place) (t : Expr) (ts : List Token) → (p >>= more a place t) ts ≡ (p >>= more_if a place t) ts
    if_same a place t ts = go (p ts) (greedy ts)
      where
        go : (o : Reading Token Stmt) → Greedy o → read_on o (more a place t) ≡ read_on o (more_if a place t)
        go (Got x m) g = more_same a place t x m g
        go (Wrong b) g = refl
        go (Deep b) g = refl

    pub finish_fine : (h : Head) → f.Fine ok (Within limit) (read_finish room p h) (finish P d h)
    finish_fine (if_head a place t) = f.fine_same ok (Within limit) (if_same a place t) (f.fine_bind ok (Within limit) {Q = Rest a place t} fine (more_fine a place t))
    finish_fine (while_head a place t) = f.fine_bind ok (Within limit) {Q = λ b. None_of (s.While a place t b)} fine (λ b. f.fine_pure ok (Within limit) (s.While a place t b))
    finish_fine (for_head a place h) = f.fine_bind ok (Within limit) {Q = λ b. None_of (s.For a place h b)} fine (λ b. f.fine_pure ok (Within limit) (s.For a place h b))
