-- Where an opening bracket leads.
use Rattle.std.proofs.Common.{◌≡◌, ℕ, ◌==◌, ◌||◌, Bool, true, false, List, [], ◌∷◌, refl}
use Rattle.std.proofs.lemmas.Bool.{eqb-true}
use Rattle.wg_tokens.specs.declared.mark.Mark.TheVariants as sign
use Rattle.wg_tokens.specs.declared.token.Token.{Token}
use Rattle.wg_tree.specs.declared.expr.Expr.{Expr}
use Rattle.wg_tree.specs.declared.expr.Expr.TheVariants as e
use Rattle.wg_grammar.specs.Reading.{Reading, Got, Wrong, Deep, Reader, read_on, ◌>>=◌, pure, take_if, begins_with}
use Rattle.wg_grammar.specs.Productions.{Production, Edges, Readers, member, of, reads}
use Rattle.wg_grammar.proofs.Sets.{both_true, Each, each}
use Rattle.wg_tokens.specs.Classes.{of_mark, NAME, ZERO, class}
use Rattle.wg_tree.specs.GrammarExpr.{Nested, whole, Exprs, value_types, by_code, classes, full, plain_operand, bracket, prime, postfix, inner_mark}

abbrev types : List ℕ
types = classes (by_code value_types)

pub only : (c d : ℕ) → member c (d ∷ []) ≡ true → c ≡ d
only c d h = go (c == d) refl h
  where
    go : (v : Bool) → (c == d) ≡ v → (v || false) ≡ true → c ≡ d
    go true e h = eqb-true c d e
    go false e h = absurd (cc)

pub is_one : (c : ℕ) (t : Token) → of class (c ∷ []) t ≡ true → class t ≡ c
is_one c t e = only (class t) c e

-- in brackets, a name alone and then a 0
pub zeros_inside : (ts : List Token) → begins_with (of class (NAME ∷ []) ∷ of class (of_mark sign.RightParen ∷ []) ∷ of class (ZERO ∷ []) ∷ []) ts ≡ true → (n u z : Token) × (rest : List Token) × (ts ≡ n ∷ u ∷ z ∷ rest) × (class n ≡ NAME) × (class u ≡ of_mark sign.RightParen) × (class z ≡ ZERO)
zeros_inside [] h = absurd (cc)
zeros_inside (a ∷ []) h = absurd (let k = (both_true (of class (NAME ∷ []) a) false h).1 in cc)
zeros_inside (a ∷ u ∷ []) h = absurd (let k = (both_true (of class (of_mark sign.RightParen ∷ []) u) false (both_true (of class (NAME ∷ []) a) _ h).1).1 in cc)
zeros_inside (a ∷ u ∷ z ∷ ts) h =
    let k2 = both_true (of class (NAME ∷ []) a) _ h in
    let k3 = both_true (of class (of_mark sign.RightParen ∷ []) u) _ k2.1 in
    let k4 = both_true (of class (ZERO ∷ []) z) true k3.1 in
    (a, u, z, ts, refl, is_one NAME a k2.0, is_one (of_mark sign.RightParen) u k3.0, is_one ZERO z k4.0)

pub type_inside : (ts : List Token) → begins_with (of class types ∷ of class (of_mark sign.RightParen ∷ []) ∷ []) ts ≡ true → (v u : Token) × (rest : List Token) × (ts ≡ v ∷ u ∷ rest) × (of class types v ≡ true) × (class u ≡ of_mark sign.RightParen)
type_inside [] h = absurd (cc)
type_inside (v ∷ []) h = absurd (let k = (both_true (of class types v) false h).1 in cc)
type_inside (v ∷ u ∷ ts) h =
    let k2 = both_true (of class types v) _ h in
    let k3 = both_true (of class (of_mark sign.RightParen ∷ []) u) true k2.1 in
    (v, u, ts, refl, k2.0, is_one (of_mark sign.RightParen) u k3.0)

closing : {T X A P : Type 0} (o : Reading T X) (p : Reader T P) (f : X → A)
    → read_on {X = P → A} (read_on {X = A} {Y = P → A} (read_on o (λ x. pure (f x))) (λ a. pure (λ y. a))) (λ g. p >>= λ y. pure (g y)) ≡ read_on o (λ x m. read_on (p m) (λ y. pure (f x)))
closing (Got x m) p f = refl
closing (Wrong b) p f = refl
closing (Deep b) p f = refl

module _ (class : Token → ℕ) (edges : Edges Nested) (I : Readers Token Nested Exprs) where
  abbrev Read : {X : Type 0} → Production Token Nested Exprs X → Reader Token X
  Read p = reads class edges I p

  pub open_plain : (t : Token) (ts : List Token) → class t ≡ of_mark sign.LeftParen → Read (plain_operand full) (t ∷ ts) ≡ Read postfix (t ∷ ts)
  open_plain t ts c = rw c refl

  pub open_prime : (t : Token) (ts : List Token) → class t ≡ of_mark sign.LeftParen → Read (prime full) (t ∷ ts) ≡ Read bracket (t ∷ ts)
  open_prime t ts c = rw c refl

  pub open_deep : (t : Token) (ts : List Token) → class t ≡ of_mark sign.LeftParen → I.room ≡ false → Read bracket (t ∷ ts) ≡ Deep (t ∷ ts)
  open_deep t ts c r = rw (r, c) refl

  abbrev pub closed : Token → Reading Token Expr → Reading Token Expr
  closed t o = read_on o (λ x m. read_on (Read (inner_mark sign.RightParen) m) (λ y. pure (e.Bracket t.place x)))

  pub open_room : (t : Token) (ts : List Token) → class t ≡ of_mark sign.LeftParen → I.room ≡ true → Read bracket (t ∷ ts) ≡ closed t (I.read whole ts)
  open_room t ts c r = rw (r, c) (closing (I.read whole ts) (take_if (of class (of_mark sign.RightParen ∷ [])) (λ t. t.place)) (λ x. e.Bracket t.place x))

  -- a type and then no opening bracket
  pub type_wrong : (v u : Token) (ts : List Token) → of class (classes (by_code value_types)) v ≡ true → of class (of_mark sign.LeftParen ∷ []) u ≡ false → Read (plain_operand full) (v ∷ u ∷ ts) ≡ Wrong (u ∷ ts)
  type_wrong v u ts w z = each (λ c. class v ≡ c → Read (plain_operand full) (v ∷ u ∷ ts) ≡ Wrong (u ∷ ts)) (class v) (classes (by_code value_types)) w (all I.room refl) refl
    where
      all : (b : Bool) → I.room ≡ b → Each (classes (by_code value_types)) (λ c. class v ≡ c → Read (plain_operand full) (v ∷ u ∷ ts) ≡ Wrong (u ∷ ts))
      all true r = (λ q. rw (r, q, z) refl, (λ q. rw (r, q, z) refl, (λ q. rw (r, q, z) refl, (λ q. rw (r, q, z) refl, (λ q. rw (r, q, z) refl, (λ q. rw (r, q, z) refl, (λ q. rw (r, q, z) refl, (λ q. rw (r, q, z) refl, (λ q. rw (r, q, z) refl, (λ q. rw (r, q, z) refl, (λ q. rw (r, q, z) refl, (λ q. rw (r, q, z) refl, (λ q. rw (r, q, z) refl, (λ q. rw (r, q, z) refl, (λ q. rw (r, q, z) refl, (λ q. rw (r, q, z) refl, tt))))))))))))))))
      all false r = (λ q. rw (r, q, z) refl, (λ q. rw (r, q, z) refl, (λ q. rw (r, q, z) refl, (λ q. rw (r, q, z) refl, (λ q. rw (r, q, z) refl, (λ q. rw (r, q, z) refl, (λ q. rw (r, q, z) refl, (λ q. rw (r, q, z) refl, (λ q. rw (r, q, z) refl, (λ q. rw (r, q, z) refl, (λ q. rw (r, q, z) refl, (λ q. rw (r, q, z) refl, (λ q. rw (r, q, z) refl, (λ q. rw (r, q, z) refl, (λ q. rw (r, q, z) refl, (λ q. rw (r, q, z) refl, tt))))))))))))))))
