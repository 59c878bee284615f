-- How much an expression takes before it stops at a token that is too deep.
use Rattle.std.proofs.Common.{◌≡◌, ℕ, suc, ◌==◌, ◌||◌, ◌&&◌, Bool, true, false, List, [], ◌∷◌, refl, sym, ◌∙◌, ap, subst, if◌then◌else◌, arith}
use Rattle.wg_tokens.specs.declared.mark.Mark.TheVariants as sign
use Rattle.wg_tokens.specs.declared.token.Token.{Token}
use Rattle.wg_tree.specs.declared.expr.Expr.{Expr}
use Rattle.wg_tree.specs.declared.expr.Expr.TheVariants as e
use Rattle.wg_grammar.specs.Reading.{Reading, Reader, Got, Wrong, Deep, read_on, ◌>>=◌, pure, sees, begins_with, look}
use Rattle.wg_grammar.specs.TakesTokens.{matched}
use Rattle.wg_grammar.specs.Productions.{Production, either, list, Edges, of, first, ◌<$>◌, ◌<*◌, ◌*>◌}
use Rattle.wg_grammar.proofs.Sets.{both_true, apart_sees, covered_true}
use Rattle.wg_grammar.proofs.PartKept.{Grows}
use Rattle.wg_grammar.proofs.Far.{Far, far_none, far_then, far_more, far_next, none_matched, far_part, far_token, far_give, far_apply, left_read, right_read}
use Rattle.wg_grammar.proofs.Inverse.{begins_not}
use Rattle.wg_tokens.specs.Classes.{of_mark, NAME, ZERO, class}
use Rattle.wg_tree.specs.GrammarExpr.{full, Nested, whole, operand, Exprs, value_types, value_type_of, by_code, classes, optional, inner_mark, name, placed_name, call_of, arguments, some_exprs, a_value_type, plain_operand, cast, zero_struct, prime, prefixed, bracket, postfix, numbers, truths, name_or_call, construct, member_or_method, index, with_forms}
use Rattle.wg_tree.specs.GrammarStmt.{type_classes}
use Rattle.wg_tree.specs.ReadsExpr.{NestedReaders, nested_edges, cast_tests, zeros_tests, read_part, read_unary}
use Rattle.wg_tree.proofs.Examples.{example}
use Rattle.wg_tree.proofs.ExprPaths.{is_one, zeros_inside, type_inside, open_plain, open_prime, open_deep, open_room, closed}

abbrev types : List ℕ
types = classes (by_code value_types)

abbrev Edge : Edges Nested
Edge = nested_edges full

-- an operand that is no cast
abbrev pub read_tail : NestedReaders → Reader Token Expr
read_tail I = look zeros_tests (read_part full I zero_struct) (read_part full I (plain_operand full))

module _ (I : NestedReaders) (self : Grows I I) where
  abbrev Read : {X : Type 0} → Production Token Nested Exprs X → List Token → Reading Token X
  Read p = read_part full I p

  -- a name or a type is taken
  prime_far : (n : Token) (ts : List Token) → of class type_classes n ≡ true → Far 1 (n ∷ ts) (Read (prime full) (n ∷ ts))
  prime_far n ts w = subst (λ o. Far 1 (n ∷ ts) o) (sym (right_read class Edge example I self numbers (either truths (either name_or_call (either construct bracket))) (n ∷ ts) (apart_sees class type_classes (first Edge numbers) (n ∷ ts) refl w)
      ∙ right_read class Edge example I self truths (either name_or_call (either construct bracket)) (n ∷ ts) (apart_sees class type_classes (first Edge truths) (n ∷ ts) refl w))) (go (class n == NAME) refl w)
    where
      named_far : of class (NAME ∷ []) n ≡ true → Far 1 (n ∷ ts) (Read name_or_call (n ∷ ts))
      named_far q = far_apply class Edge example I self (call_of <$> name) (optional arguments) 1 (n ∷ ts) refl (far_give class Edge example I self call_of name 1 (n ∷ ts) (far_token class Edge example I self (NAME ∷ []) placed_name n ts q))

      typed_far : of class types n ≡ true → Far 1 (n ∷ ts) (Read construct (n ∷ ts))
      typed_far q = far_apply class Edge example I self ((λ t xs. e.Construct t.place (value_type_of t) xs) <$> a_value_type) (inner_mark sign.LeftParen *> some_exprs <* inner_mark sign.RightParen) 1 (n ∷ ts) refl
          (far_give class Edge example I self (λ t xs. e.Construct t.place (value_type_of t) xs) a_value_type 1 (n ∷ ts) (far_token class Edge example I self types (λ t. t) n ts q))

      go : (v : Bool) → (class n == NAME) ≡ v → (v || of class types n) ≡ true → Far 1 (n ∷ ts) (Read (either name_or_call (either construct bracket)) (n ∷ ts))
      go true q s = let k : of class (NAME ∷ []) n ≡ true = ap (λ z. z || false) q in subst (λ o. Far 1 (n ∷ ts) o) (sym (left_read class Edge example I self name_or_call (either construct bracket) (n ∷ ts) k)) (named_far k)
      go false q s = subst (λ o. Far 1 (n ∷ ts) o) (sym (right_read class Edge example I self name_or_call (either construct bracket) (n ∷ ts) (ap (λ z. z || false) q) ∙ left_read class Edge example I self construct bracket (n ∷ ts) s)) (typed_far s)

  postfix_far : (k : ℕ) (ts : List Token) → Far k ts (Read (prime full) ts) → Far k ts (Read postfix ts)
  postfix_far k ts h = far_apply class Edge example I self (with_forms <$> prime full) (list (either member_or_method index)) k ts refl (far_give class Edge example I self with_forms (prime full) k ts h)

  abbrev Plain : List Token → Reading Token Expr
  Plain = Read (plain_operand full)

  abbrev Tail : List Token → Reading Token Expr
  Tail = read_tail I

  plain_far : (n : Token) (ts : List Token) → of class type_classes n ≡ true → Far 1 (n ∷ ts) (Plain (n ∷ ts))
  plain_far n ts e = subst (λ o. Far 1 (n ∷ ts) o) (sym (right_read class Edge example I self prefixed postfix (n ∷ ts) (apart_sees class type_classes (first Edge prefixed) (n ∷ ts) refl e))) (postfix_far 1 (n ∷ ts) (prime_far n ts e))

  -- where no bracket opens
  tail_plain : (ts : List Token) → sees (of class (of_mark sign.LeftParen ∷ [])) ts ≡ false → Tail ts ≡ Plain ts
  tail_plain ts e = ap (λ z. if z then Read zero_struct ts else Plain ts) (begins_not (of class (of_mark sign.LeftParen ∷ [])) (of class (NAME ∷ []) ∷ of class (of_mark sign.RightParen ∷ []) ∷ of class (ZERO ∷ []) ∷ []) ts e)

  unary_tail : (ts : List Token) → sees (of class (of_mark sign.LeftParen ∷ [])) ts ≡ false → read_unary full I ts ≡ Tail ts
  unary_tail ts e = ap (λ z. if z then Read cast ts else Tail ts) (begins_not (of class (of_mark sign.LeftParen ∷ [])) (of class types ∷ of class (of_mark sign.RightParen ∷ []) ∷ []) ts e)

  pub unary_far : (n : Token) (ts : List Token) → of class type_classes n ≡ true → Far 1 (n ∷ ts) (read_unary full I (n ∷ ts))
  unary_far n ts e = let s = apart_sees class type_classes (of_mark sign.LeftParen ∷ []) (n ∷ ts) refl e in
      subst (λ o. Far 1 (n ∷ ts) o) (sym (unary_tail (n ∷ ts) s ∙ tail_plain (n ∷ ts) s)) (plain_far n ts e)

  -- no room: an opening bracket is too deep at once
  module _ (r : I.room ≡ false) where
    pub plain_shut : (t : Token) (ts : List Token) → of class (of_mark sign.LeftParen ∷ []) t ≡ true → Plain (t ∷ ts) ≡ Deep (t ∷ ts)
    plain_shut t ts q = let c = is_one (of_mark sign.LeftParen) t q in
        open_plain class Edge I t ts c ∙ ap (λ o. read_on (read_on {X = Expr} o (λ x. pure (with_forms x))) (λ g. read_part full I (list (either member_or_method index)) >>= λ y. pure (g y))) (open_prime class Edge I t ts c ∙ open_deep class Edge I t ts c r)

    pub zeros_shut : (t : Token) (ts : List Token) → of class (of_mark sign.LeftParen ∷ []) t ≡ true → Read zero_struct (t ∷ ts) ≡ Deep (t ∷ ts)
    zeros_shut t ts q = let c = is_one (of_mark sign.LeftParen) t q in rw (r, c) refl

    pub cast_shut : (t : Token) (ts : List Token) → of class (of_mark sign.LeftParen ∷ []) t ≡ true → Read cast (t ∷ ts) ≡ Deep (t ∷ ts)
    cast_shut t ts q = let c = is_one (of_mark sign.LeftParen) t q in rw (r, c) refl

    pub tail_shut : (t : Token) (ts : List Token) → of class (of_mark sign.LeftParen ∷ []) t ≡ true → Tail (t ∷ ts) ≡ Deep (t ∷ ts)
    tail_shut t ts q = go (begins_with zeros_tests (t ∷ ts))
      where
        go : (v : Bool) → (if v then Read zero_struct (t ∷ ts) else Plain (t ∷ ts)) ≡ Deep (t ∷ ts)
        go true = zeros_shut t ts q
        go false = plain_shut t ts q

  -- room: what tells casts apart is taken before anything is too deep
  module _ (r : I.room ≡ true) (first_far : (n : Token) (ts : List Token) → of class type_classes n ≡ true → Far 1 (n ∷ ts) (I.read whole (n ∷ ts)))
      (name_read : (n u : Token) (ts : List Token) → class n ≡ NAME → class u ≡ of_mark sign.RightParen → I.read whole (n ∷ u ∷ ts) ≡ Got (e.Name (placed_name n)) (u ∷ ts)) where
    bracket_far : (k : ℕ) (t : Token) (ts : List Token) → class t ≡ of_mark sign.LeftParen → Far k (t ∷ ts) (closed class Edge I t (I.read whole ts)) → Far k (t ∷ ts) (Plain (t ∷ ts))
    bracket_far k t ts c h = subst (λ o. Far k (t ∷ ts) o) (sym (open_plain class Edge I t ts c)) (postfix_far k (t ∷ ts) (subst (λ o. Far k (t ∷ ts) o) (sym (open_prime class Edge I t ts c ∙ open_room class Edge I t ts c r)) h))

    inside_far : (k : ℕ) (t : Token) (ts : List Token) → class t ≡ of_mark sign.LeftParen → Far k ts (I.read whole ts) → Far (suc k) (t ∷ ts) (Plain (t ∷ ts))
    inside_far k t ts c h = bracket_far (suc k) t ts c (far_then (suc k) (t ∷ ts) (I.read whole ts) (λ x m. read_on (Read (inner_mark sign.RightParen) m) (λ y. pure (e.Bracket t.place x))) (far_next k t ts (I.read whole ts) h)
        (λ x m. far_then 0 m (Read (inner_mark sign.RightParen) m) (λ y. pure (e.Bracket t.place x)) (far_part class Edge example I self (inner_mark sign.RightParen) refl m) (λ y m. omega arith)))

    named_far : (t n u : Token) (ts : List Token) → class t ≡ of_mark sign.LeftParen → class n ≡ NAME → class u ≡ of_mark sign.RightParen → Far 3 (t ∷ n ∷ u ∷ ts) (Plain (t ∷ n ∷ u ∷ ts))
    named_far t n u ts c d f = bracket_far 3 t (n ∷ u ∷ ts) c (subst (λ o. Far 3 (t ∷ n ∷ u ∷ ts) (closed class Edge I t o)) (sym (name_read n u ts d f)) (shut (e.Name (placed_name n))))
      where
        shut : (x : Expr) → Far 3 (t ∷ n ∷ u ∷ ts) (closed class Edge I t (Got x (u ∷ ts)))
        shut x = rw (r, f) (omega arith)

    abbrev Close : List (Token → Bool)
    Close = of class (of_mark sign.RightParen ∷ []) ∷ of class (ZERO ∷ []) ∷ []

    type_name : (n : Token) → of class (NAME ∷ []) n ≡ true → of class type_classes n ≡ true
    type_name n q = covered_true class (NAME ∷ []) type_classes (n ∷ []) refl q

    after_name : (t n : Token) (ts : List Token) → class t ≡ of_mark sign.LeftParen → of class (NAME ∷ []) n ≡ true → begins_with Close ts ≡ false → Far (suc (suc (matched Close ts))) (t ∷ n ∷ ts) (Plain (t ∷ n ∷ ts))
    after_name t n [] c q b = inside_far 1 t (n ∷ []) c (first_far n [] (type_name n q))
    after_name t n (u ∷ ts) c q b = go (of class (of_mark sign.RightParen ∷ []) u) refl b
      where
        go : (v : Bool) → of class (of_mark sign.RightParen ∷ []) u ≡ v → (v && begins_with (of class (ZERO ∷ []) ∷ []) ts) ≡ false → Far (suc (suc (if v then suc (matched (of class (ZERO ∷ []) ∷ []) ts) else 0))) (t ∷ n ∷ u ∷ ts) (Plain (t ∷ n ∷ u ∷ ts))
        go true f b = subst (λ k. Far (suc (suc (suc k))) (t ∷ n ∷ u ∷ ts) (Plain (t ∷ n ∷ u ∷ ts))) (sym (none_matched (of class (ZERO ∷ [])) ts b)) (named_far t n u ts c (is_one NAME n q) (is_one (of_mark sign.RightParen) u f))
        go false f b = inside_far 1 t (n ∷ u ∷ ts) c (first_far n (u ∷ ts) (type_name n q))

    pub zeros_other : (ts : List Token) → begins_with zeros_tests ts ≡ false → Far (matched zeros_tests ts) ts (Plain ts)
    zeros_other [] b = far_part class Edge example I self (plain_operand full) refl []
    zeros_other (t ∷ ts) b = go (of class (of_mark sign.LeftParen ∷ []) t) refl b
      where
        opened : (ts : List Token) → class t ≡ of_mark sign.LeftParen → begins_with (of class (NAME ∷ []) ∷ Close) ts ≡ false → Far (suc (matched (of class (NAME ∷ []) ∷ Close) ts)) (t ∷ ts) (Plain (t ∷ ts))
        opened [] c b = inside_far 0 t [] c (far_none (self.kept whole) [])
        opened (n ∷ ts) c b = by (of class (NAME ∷ []) n) refl b
          where
            by : (v : Bool) → of class (NAME ∷ []) n ≡ v → (v && begins_with Close ts) ≡ false → Far (suc (if v then suc (matched Close ts) else 0)) (t ∷ n ∷ ts) (Plain (t ∷ n ∷ ts))
            by true q b = after_name t n ts c q b
            by false q b = inside_far 0 t (n ∷ ts) c (far_none (self.kept whole) (n ∷ ts))

        go : (v : Bool) → of class (of_mark sign.LeftParen ∷ []) t ≡ v → (v && begins_with (of class (NAME ∷ []) ∷ Close) ts) ≡ false → Far (if v then suc (matched (of class (NAME ∷ []) ∷ Close) ts) else 0) (t ∷ ts) (Plain (t ∷ ts))
        go true q b = opened ts (is_one (of_mark sign.LeftParen) t q) b
        go false q b = far_part class Edge example I self (plain_operand full) refl (t ∷ ts)

    pub zeros_taken : (ts : List Token) → begins_with zeros_tests ts ≡ true → (n : ℕ) → 4 ≡ suc n → Far n ts (Read zero_struct ts)
    zeros_taken [] b n l = absurd (cc)
    zeros_taken (t ∷ ts) b n l =
        let k = both_true (of class (of_mark sign.LeftParen ∷ []) t) _ b in
        let z = zeros_inside ts k.1 in
        let three : 3 ≡ n = omega arith in
        subst (λ m. Far m (t ∷ ts) (Read zero_struct (t ∷ ts))) three (subst (λ us. Far 3 (t ∷ us) (Read zero_struct (t ∷ us))) (sym z.4) (whole_zeros t z.0 z.1 z.2 z.3 (is_one (of_mark sign.LeftParen) t k.0) z.5 z.6 z.7))
      where
        whole_zeros : (t n u z : Token) (ts : List Token) → class t ≡ of_mark sign.LeftParen → class n ≡ NAME → class u ≡ of_mark sign.RightParen → class z ≡ ZERO → Far 3 (t ∷ n ∷ u ∷ z ∷ ts) (Read zero_struct (t ∷ n ∷ u ∷ z ∷ ts))
        whole_zeros t n u z ts c d f g = rw (r, c, d, f, g) (omega arith)

    tail_none : (ts : List Token) → Far 0 ts (Tail ts)
    tail_none ts = go (begins_with zeros_tests ts)
      where
        go : (v : Bool) → Far 0 ts (if v then Read zero_struct ts else Plain ts)
        go true = far_part class Edge example I self zero_struct refl ts
        go false = far_part class Edge example I self (plain_operand full) refl ts

    tail_opened : (t : Token) (ts : List Token) → class t ≡ of_mark sign.LeftParen → Far 1 (t ∷ ts) (Tail (t ∷ ts))
    tail_opened t ts c = go (begins_with zeros_tests (t ∷ ts)) refl
      where
        fewer : (o : Reading Token Expr) → Far 3 (t ∷ ts) o → Far 1 (t ∷ ts) o
        fewer (Got x b) h = omega arith
        fewer (Wrong b) h = omega arith
        fewer (Deep b) h = omega arith

        go : (v : Bool) → begins_with zeros_tests (t ∷ ts) ≡ v → Far 1 (t ∷ ts) (if v then Read zero_struct (t ∷ ts) else Plain (t ∷ ts))
        go true b = fewer (Read zero_struct (t ∷ ts)) (zeros_taken (t ∷ ts) b 3 refl)
        go false b = inside_far 0 t ts c (far_none (self.kept whole) ts)

    tail_typed : (t v : Token) (ts : List Token) → class t ≡ of_mark sign.LeftParen → of class types v ≡ true → Far 2 (t ∷ v ∷ ts) (Tail (t ∷ v ∷ ts))
    tail_typed t v ts c w = subst (λ o. Far 2 (t ∷ v ∷ ts) o) (sym (ap (λ z. if z then Read zero_struct (t ∷ v ∷ ts) else Plain (t ∷ v ∷ ts)) (no_name (of class (of_mark sign.LeftParen ∷ []) t)))) (inside_far 1 t (v ∷ ts) c (first_far v ts (covered_true class types type_classes (v ∷ []) refl w)))
      where
        no_name : (b : Bool) → (b && begins_with (of class (NAME ∷ []) ∷ Close) (v ∷ ts)) ≡ false
        no_name true = begins_not (of class (NAME ∷ [])) Close (v ∷ ts) (apart_sees class types (NAME ∷ []) (v ∷ []) refl w)
        no_name false = refl

    abbrev Typed : List (Token → Bool)
    Typed = of class types ∷ of class (of_mark sign.RightParen ∷ []) ∷ []

    pub cast_other : (ts : List Token) → begins_with cast_tests ts ≡ false → Far (matched cast_tests ts) ts (Tail ts)
    cast_other [] b = tail_none []
    cast_other (t ∷ ts) b = go (of class (of_mark sign.LeftParen ∷ []) t) refl b
      where
        opened : (ts : List Token) → class t ≡ of_mark sign.LeftParen → begins_with Typed ts ≡ false → Far (suc (matched Typed ts)) (t ∷ ts) (Tail (t ∷ ts))
        opened [] c b = tail_opened t [] c
        opened (v ∷ ts) c b = by (of class types v) refl b
          where
            by : (w : Bool) → of class types v ≡ w → (w && begins_with (of class (of_mark sign.RightParen ∷ []) ∷ []) ts) ≡ false → Far (suc (if w then suc (matched (of class (of_mark sign.RightParen ∷ []) ∷ []) ts) else 0)) (t ∷ v ∷ ts) (Tail (t ∷ v ∷ ts))
            by true q b = subst (λ k. Far (suc (suc k)) (t ∷ v ∷ ts) (Tail (t ∷ v ∷ ts))) (sym (none_matched (of class (of_mark sign.RightParen ∷ [])) ts b)) (tail_typed t v ts c q)
            by false q b = tail_opened t (v ∷ ts) c

        go : (v : Bool) → of class (of_mark sign.LeftParen ∷ []) t ≡ v → (v && begins_with Typed ts) ≡ false → Far (if v then suc (matched Typed ts) else 0) (t ∷ ts) (Tail (t ∷ ts))
        go true q b = opened ts (is_one (of_mark sign.LeftParen) t q) b
        go false q b = tail_none (t ∷ ts)

    pub cast_taken : (ts : List Token) → begins_with cast_tests ts ≡ true → (n : ℕ) → 3 ≡ suc n → Far n ts (Read cast ts)
    cast_taken [] b n l = absurd (cc)
    cast_taken (t ∷ ts) b n l =
        let k = both_true (of class (of_mark sign.LeftParen ∷ []) t) _ b in
        let z = type_inside ts k.1 in
        let two : 2 ≡ n = omega arith in
        subst (λ m. Far m (t ∷ ts) (Read cast (t ∷ ts))) two (subst (λ us. Far 2 (t ∷ us) (Read cast (t ∷ us))) (sym z.3) (whole_cast t z.0 z.1 z.2 (is_one (of_mark sign.LeftParen) t k.0) z.4 z.5))
      where
        whole_cast : (t v u : Token) (ts : List Token) → class t ≡ of_mark sign.LeftParen → of class types v ≡ true → class u ≡ of_mark sign.RightParen → Far 2 (t ∷ v ∷ u ∷ ts) (Read cast (t ∷ v ∷ u ∷ ts))
        whole_cast t v u ts c w d = rw (r, c, w, d) (far_then 2 (t ∷ v ∷ u ∷ ts) (I.read operand ts) (λ x. pure (e.Cast t.place (value_type_of v) x)) (far_more 2 0 (t ∷ v ∷ u ∷ ts) ts (I.read operand ts) (omega arith) (far_none (self.kept operand) ts)) (λ x m. omega arith))
