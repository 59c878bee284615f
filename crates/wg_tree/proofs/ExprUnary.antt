-- An operand is read exactly, with its casts.
use Rattle.std.proofs.Common.{◌≡◌, ℕ, suc, Bool, true, false, List, [], ◌∷◌, refl, sym, ◌∙◌, ap, subst, inl, inr, ◌⊎◌}
use Rattle.wg_tokens.specs.declared.mark.Mark.TheVariants as sign
use Rattle.wg_tokens.specs.declared.token.Token.{Token}
use Rattle.wg_tree.specs.declared.expr.Expr.{Expr}
use Rattle.wg_tree.specs.declared.expr.Expr.TheVariants as e
use Rattle.wg_tree.specs.declared.expr.Form.{Form}
use Rattle.wg_grammar.specs.Spans.{Many, ◌or◌}
use Rattle.wg_grammar.specs.Reading.{Reading, Got, Wrong, Deep, Reader, sees, begins_with}
use Rattle.wg_grammar.specs.Depths.{plain}
use Rattle.wg_grammar.specs.TakesTokens.{TakesTokens, matched}
use Rattle.wg_grammar.specs.Productions.{Production, token, list, either, sub, Edges, member, of, spells, first, stops, nullable, decides, ◌<$>◌, ◌<*>◌, ◌<*◌}
use Rattle.wg_words.specs.declared.place.Place.{Place}
use Rattle.wg_grammar.proofs.Kept.{Persists}
use Rattle.wg_grammar.proofs.Look.{takes_none, persists_look}
use Rattle.wg_grammar.proofs.Sets.{apart_sees}
use Rattle.wg_grammar.proofs.PartKept.{Grows, part_persists}
use Rattle.wg_grammar.proofs.PartFull.{part_begins}
use Rattle.wg_grammar.proofs.Exact.{Exact, grows_self, exact_part, exact_for, exact_look}
use Rattle.wg_grammar.proofs.Inverse.{Leads, inv_apply, inv_two, inv_left, inv_token, begins_more, begins_tail, begins_not, begins_rest}
use Rattle.wg_tokens.specs.Classes.{of_mark, NAME, ZERO, class}
use Rattle.wg_tree.specs.Depths.{Depth}
use Rattle.wg_tree.specs.GrammarExpr.{full, Nested, whole, operand, Exprs, Inner, value_types, value_type_of, by_code, classes, plain_operand, cast, zero_struct, prime, prefixed, member_or_method, index, with_forms, inner_mark, placed_name, numbers, truths, name_or_call, construct, unary}
use Rattle.wg_tree.specs.ReadsExpr.{NestedReaders, starts, operand_stops, expr_stops, nested_edges, cast_tests, zeros_tests, read_part, read_unary}
use Rattle.wg_tree.proofs.Examples.{example}
use Rattle.wg_tree.proofs.ExprDecides.{cast_decides, zeros_decides, plain_decides, plain_covered}
use Rattle.wg_grammar.proofs.Far.{Far, far_takes, shut_taken, shut_other, StopsOn, StopsOff, far_on, far_off, shut_on, shut_off}
use Rattle.wg_tree.specs.GrammarStmt.{type_classes}
use Rattle.wg_tree.proofs.ExprPaths.{is_one, zeros_inside, type_inside}
use Rattle.wg_tree.proofs.ExprFar as far
use Rattle.wg_tree.proofs.ExprFar.{read_tail}

abbrev types : List ℕ
types = classes (by_code value_types)

-- what reading a name or a type gives, also with a closing bracket after it
pub record TellsAnswer (I : NestedReaders) : Type 0 where
  pub first : I.room ≡ true → (n : Token) (ts : List Token) → of class type_classes n ≡ true → Far 1 (n ∷ ts) (I.read whole (n ∷ ts))
  pub name : (n u : Token) (ts : List Token) → class n ≡ NAME → class u ≡ of_mark sign.RightParen → (I.read whole (n ∷ u ∷ ts) ≡ Got (e.Name (placed_name n)) (u ∷ ts)) ⊎ ((I.room ≡ false) × (b : List Token) × (I.read whole (n ∷ u ∷ ts) ≡ Deep b))
  pub type : (v u : Token) (ts : List Token) → of class types v ≡ true → class u ≡ of_mark sign.RightParen → (I.read whole (v ∷ u ∷ ts) ≡ Wrong (u ∷ ts)) ⊎ ((b : List Token) × (I.read whole (v ∷ u ∷ ts) ≡ Deep b))

abbrev a_name : Token → Expr
a_name n = e.Name (placed_name n)

module _ (I : NestedReaders) (R : Inner) (room : I.room ≡ R.room) (parts : (n : Nested) → Exact class (starts full) ((nested_edges full).stops n) (I.read n) (R.rule n)) (tells : TellsAnswer I) where
  abbrev Edge : Edges Nested
  Edge = nested_edges full

  exact_of : {X : Type 0} (p : Production Token Nested Exprs X) → decides class Edge example p ≡ true → nullable p ≡ false → Exact class (first Edge p) (stops Edge p) (read_part full I p) (spells class R p)
  exact_of p d n = exact_part class Edge example I R room parts p d n

  exact_plain : Exact class (starts full) (operand_stops full) (read_part full I (plain_operand full)) (spells class R (plain_operand full))
  exact_plain = exact_for class (starts full) (stops Edge (plain_operand full)) (operand_stops full) (plain_covered full) (exact_of (plain_operand full) (plain_decides full) refl)

  exact_zeros : Exact class (of_mark sign.LeftParen ∷ []) (operand_stops full) (read_part full I zero_struct) (spells class R zero_struct)
  exact_zeros = exact_for class (of_mark sign.LeftParen ∷ []) (stops Edge zero_struct) (operand_stops full) refl (exact_of zero_struct zeros_decides refl)

  exact_cast : Exact class (of_mark sign.LeftParen ∷ []) (operand_stops full) (read_part full I cast) (spells class R cast)
  exact_cast = exact_for class (of_mark sign.LeftParen ∷ []) (stops Edge cast) (operand_stops full) refl (exact_of cast cast_decides refl)

  abbrev pub Plain : Reader Token Expr
  Plain = read_part full I (plain_operand full)

  self : Grows I I
  self = grows_self class Edge example I R room parts

  abbrev Tail : Reader Token Expr
  Tail = read_tail I

  name_read : I.room ≡ true → (n u : Token) (ts : List Token) → class n ≡ NAME → class u ≡ of_mark sign.RightParen → I.read whole (n ∷ u ∷ ts) ≡ Got (a_name n) (u ∷ ts)
  name_read r n u ts c d = elim (tells.name n u ts c d) [ inl g ↦ g | inr g ↦ absurd (let e : true ≡ false = sym r ∙ g.0 in cc) ]

  abbrev Open : Token → Bool
  Open = of class (of_mark sign.LeftParen ∷ [])

  abbrev Named : List (Token → Bool)
  Named = of class (NAME ∷ []) ∷ of class (of_mark sign.RightParen ∷ []) ∷ of class (ZERO ∷ []) ∷ []

  abbrev Typed : List (Token → Bool)
  Typed = of class types ∷ of class (of_mark sign.RightParen ∷ []) ∷ []

  -- what tells the alternatives apart is taken, or a bracket is too deep at once
  zeros_taken : (ts : List Token) → begins_with zeros_tests ts ≡ true → (n : ℕ) → 4 ≡ suc n → TakesTokens n ts (read_part full I zero_struct ts)
  zeros_taken ts b n l = go I.room refl
    where
      go : (v : Bool) → I.room ≡ v → TakesTokens n ts (read_part full I zero_struct ts)
      go true r = far_takes n ts (read_part full I zero_struct ts) (far.zeros_taken I self r (tells.first r) (name_read r) ts b n l)
      go false r = shut_taken Open Named (read_part full I zero_struct) (far.zeros_shut I self r) ts b n

  zeros_other : (ts : List Token) → begins_with zeros_tests ts ≡ false → TakesTokens (matched zeros_tests ts) ts (Plain ts)
  zeros_other ts b = go I.room refl
    where
      go : (v : Bool) → I.room ≡ v → TakesTokens (matched zeros_tests ts) ts (Plain ts)
      go true r = far_takes (matched zeros_tests ts) ts (Plain ts) (far.zeros_other I self r (tells.first r) (name_read r) ts b)
      go false r = shut_other Open Named Plain (far.plain_shut I self r) (λ m. takes_none exact_plain.self m) ts

  pub zeros_on : StopsOn zeros_tests (read_part full I zero_struct) Plain
  zeros_on = go I.room refl
    where
      go : (v : Bool) → I.room ≡ v → StopsOn zeros_tests (read_part full I zero_struct) Plain
      go true r = far_on zeros_tests (read_part full I zero_struct) Plain (far.zeros_taken I self r (tells.first r) (name_read r))
      go false r = shut_on Open Named (read_part full I zero_struct) Plain (far.zeros_shut I self r) (far.plain_shut I self r)

  pub zeros_off : StopsOff zeros_tests (read_part full I zero_struct) Plain
  zeros_off = go I.room refl
    where
      go : (v : Bool) → I.room ≡ v → StopsOff zeros_tests (read_part full I zero_struct) Plain
      go true r = far_off zeros_tests (read_part full I zero_struct) Plain (far.zeros_other I self r (tells.first r) (name_read r))
      go false r = shut_off Open Named (read_part full I zero_struct) Plain (far.zeros_shut I self r) (far.plain_shut I self r)

  abbrev Forms : Production Token Nested Exprs Form
  Forms = either member_or_method index

  abbrev Cells : Type 0
  Cells = List (Token × Depth)

  -- an expression in brackets, and forms after it
  abbrev Bracketed : Cells → Cells → Type 0
  Bracketed i r = (x : Expr) × (m s s' : Cells) × Leads (of class (of_mark sign.LeftParen ∷ [])) i m × R.rule whole x m s × Leads (of class (of_mark sign.RightParen ∷ [])) s s' × (fs : List Form) × Many (spells class R Forms) fs s' r

  begun_by : {X : Type 0} (p : Production Token Nested Exprs X) → decides class Edge example p ≡ true → nullable p ≡ false → (x : X) (i r : Cells) → spells class R p x i r → sees (of class (first Edge p)) (plain i) ≡ true
  begun_by p d n x i r h = part_begins class Edge example R (λ n. (parts n).begins_with) p d n x i r h

  prime_bracketed : (x : Expr) (i m r : Cells) (fs : List Form) → spells class R (prime full) x i m → Many (spells class R Forms) fs m r → (sees (of class (of_mark sign.LeftParen ∷ [])) (plain i) ≡ false) ⊎ Bracketed i r
  prime_bracketed x i m r fs (inl h) k = inl (apart_sees class (first Edge numbers) (of_mark sign.LeftParen ∷ []) (plain i) refl (begun_by numbers refl refl x i m h))
  prime_bracketed x i m r fs (inr (inl h)) k = inl (apart_sees class (first Edge truths) (of_mark sign.LeftParen ∷ []) (plain i) refl (begun_by truths refl refl x i m h))
  prime_bracketed x i m r fs (inr (inr (inl h))) k = inl (apart_sees class (first Edge name_or_call) (of_mark sign.LeftParen ∷ []) (plain i) refl (begun_by name_or_call refl refl x i m h))
  prime_bracketed x i m r fs (inr (inr (inr (inl h)))) k = inl (apart_sees class (first Edge construct) (of_mark sign.LeftParen ∷ []) (plain i) refl (begun_by construct refl refl x i m h))
  prime_bracketed x i m r fs (inr (inr (inr (inr h)))) k =
      let a = inv_left class R ((λ place x. e.Bracket place x) <$> inner_mark sign.LeftParen <*> sub whole) (inner_mark sign.RightParen) x i m h in
      let b = inv_two class R (λ place x. e.Bracket place x) (inner_mark sign.LeftParen) (sub whole) x i a.1 a.2 in
      inr (b.1, b.2, a.1, m, inv_token class R true (of_mark sign.LeftParen ∷ []) (λ t. t.place) b.0 i b.2 b.3, b.4, inv_token class R true (of_mark sign.RightParen ∷ []) (λ t. t.place) a.0 a.1 m a.3, fs, k)

  plain_bracketed : (x : Expr) (i r : Cells) → spells class R (plain_operand full) x i r → (sees (of class (of_mark sign.LeftParen ∷ [])) (plain i) ≡ false) ⊎ Bracketed i r
  plain_bracketed x i r (inl h) = inl (apart_sees class (first Edge prefixed) (of_mark sign.LeftParen ∷ []) (plain i) refl (begun_by prefixed refl refl x i r h))
  plain_bracketed x i r (inr h) = let a = inv_two class R with_forms (prime full) (list Forms) x i r h in prime_bracketed a.0 i a.2 r a.1 a.3 a.4

  -- an expression ends before the bracket that closes it
  closes : (s s' : Cells) → Leads (of class (of_mark sign.RightParen ∷ [])) s s' → sees (of class (expr_stops full)) (plain s) ≡ false
  closes s s' l = ap (λ z. sees (of class (expr_stops full)) (plain z)) l.3 ∙ ap (λ z. member z (expr_stops full)) (is_one (of_mark sign.RightParen) l.0 l.2)

  inside : (x : Expr) (m s s' : Cells) → R.rule whole x m s → Leads (of class (of_mark sign.RightParen ∷ [])) s s' → (ts : List Token) → plain m ≡ ts → I.read whole ts ≡ Got x (plain s)
  inside x m s s' w l ts q = subst (λ z. I.read whole z ≡ Got x (plain s)) q ((parts whole).full.reads x m s w (closes s s' l))

  no_zero : (fs : List Form) (m r : Cells) (z : Token) (ts : List Token) → Many (spells class R Forms) fs m r → plain m ≡ z ∷ ts → class z ≡ ZERO → sees (of class (operand_stops full)) (plain r) ≡ false → ⊥
  no_zero [] m r z ts k q c f = let e : true ≡ false = ap (λ z. member z (operand_stops full)) (sym c) ∙ ap (sees (of class (operand_stops full))) (sym q) ∙ ap (λ z. sees (of class (operand_stops full)) (plain z)) k ∙ f in cc
  no_zero (x ∷ fs) m r z ts k q c f = let e : false ≡ true = ap (λ z. member z (first Edge Forms)) (sym c) ∙ ap (sees (of class (first Edge Forms))) (sym q) ∙ begun_by Forms refl refl x m k.0 k.1 in cc

  same_rest : (x y : Expr) (b c : List Token) → ◌≡◌ {A = Reading Token Expr} (Got x b) (Got y c) → b ≡ c
  same_rest x y b c e = cc

  same_tail : (t u : Token) (b c : List Token) → t ∷ b ≡ u ∷ c → b ≡ c
  same_tail t u b c e = cc

  not_zeros : (i r : Cells) → Bracketed i r → sees (of class (operand_stops full)) (plain r) ≡ false → begins_with zeros_tests (plain i) ≡ true → ⊥
  not_zeros i r b f h =
      let k = zeros_inside (plain b.1) (begins_tail (of class (of_mark sign.LeftParen ∷ [])) (of class (NAME ∷ []) ∷ of class (of_mark sign.RightParen ∷ []) ∷ of class (ZERO ∷ []) ∷ []) i b.1 b.4 h) in
      let g = inside b.0 b.1 b.2 b.3 b.5 b.6 (k.0 ∷ k.1 ∷ k.2 ∷ k.3) k.4 in
      elim (tells.name k.0 k.1 (k.2 ∷ k.3) k.5 k.6) [
        | inl n ↦ no_zero b.7 b.3 r k.2 k.3 b.8 (sym (same_tail k.1 b.6.0 (k.2 ∷ k.3) (plain b.3) (same_rest (e.Name (placed_name k.0)) b.0 (k.1 ∷ k.2 ∷ k.3) (plain b.2) (sym n ∙ g) ∙ ap plain b.6.3))) k.7 f
        | inr n ↦ deep_got b.0 n.1 (plain b.2) (sym n.2 ∙ g)
      ]
    where
      deep_got : (x : Expr) (b c : List Token) → ◌≡◌ {A = Reading Token Expr} (Deep b) (Got x c) → ⊥
      deep_got x b c e = cc

  not_cast : (i r : Cells) → Bracketed i r → begins_with cast_tests (plain i) ≡ true → ⊥
  not_cast i r b h =
      let k = type_inside (plain b.1) (begins_tail (of class (of_mark sign.LeftParen ∷ [])) (of class types ∷ of class (of_mark sign.RightParen ∷ []) ∷ []) i b.1 b.4 h) in
      let g = inside b.0 b.1 b.2 b.3 b.5 b.6 (k.0 ∷ k.1 ∷ k.2) k.3 in
      elim (tells.type k.0 k.1 k.2 k.4 k.5) [ inl n ↦ wrong_got b.0 (k.1 ∷ k.2) (plain b.2) (sym n ∙ g) | inr n ↦ deep_got b.0 n.0 (plain b.2) (sym n.1 ∙ g) ]
    where
      deep_got : (x : Expr) (b c : List Token) → ◌≡◌ {A = Reading Token Expr} (Deep b) (Got x c) → ⊥
      deep_got x b c e = cc

      wrong_got : (x : Expr) (b c : List Token) → ◌≡◌ {A = Reading Token Expr} (Wrong b) (Got x c) → ⊥
      wrong_got x b c e = cc

  never : (v : Bool) → (v ≡ true → ⊥) → v ≡ false
  never true h = absurd (h refl)
  never false h = refl

  pub plain_no_zeros : (x : Expr) (i r : Cells) → spells class R (plain_operand full) x i r → sees (of class (operand_stops full)) (plain r) ≡ false → begins_with zeros_tests (plain i) ≡ false
  plain_no_zeros x i r h f = elim (plain_bracketed x i r h) [ inl s ↦ begins_not (of class (of_mark sign.LeftParen ∷ [])) (of class (NAME ∷ []) ∷ of class (of_mark sign.RightParen ∷ []) ∷ of class (ZERO ∷ []) ∷ []) (plain i) s | inr b ↦ never (begins_with zeros_tests (plain i)) (not_zeros i r b f) ]

  plain_no_cast : (x : Expr) (i r : Cells) → spells class R (plain_operand full) x i r → begins_with cast_tests (plain i) ≡ false
  plain_no_cast x i r h = elim (plain_bracketed x i r h) [ inl s ↦ begins_not (of class (of_mark sign.LeftParen ∷ [])) (of class types ∷ of class (of_mark sign.RightParen ∷ []) ∷ []) (plain i) s | inr b ↦ never (begins_with cast_tests (plain i)) (not_cast i r b) ]

  -- the tokens of a struct of zeros
  zeros_leads : (x : Expr) (i r : Cells) → spells class R zero_struct x i r → (a b c : Cells) × Leads (of class (of_mark sign.LeftParen ∷ [])) i a × Leads (of class (NAME ∷ [])) a b × Leads (of class (of_mark sign.RightParen ∷ [])) b c × Leads (of class (ZERO ∷ [])) c r
  zeros_leads x i r h =
      let a = inv_left class R ((λ place name. e.Zeros place name) <$> inner_mark sign.LeftParen <*> token true (NAME ∷ []) placed_name <* inner_mark sign.RightParen) (token true (ZERO ∷ []) (λ t. t.place)) x i r h in
      let b = inv_left class R ((λ place name. e.Zeros place name) <$> inner_mark sign.LeftParen <*> token true (NAME ∷ []) placed_name) (inner_mark sign.RightParen) x i a.1 a.2 in
      let c = inv_two class R (λ place name. e.Zeros place name) (inner_mark sign.LeftParen) (token true (NAME ∷ []) placed_name) x i b.1 b.2 in
      (c.2, b.1, a.1, inv_token class R true (of_mark sign.LeftParen ∷ []) (λ t. t.place) c.0 i c.2 c.3, inv_token class R true (NAME ∷ []) placed_name c.1 c.2 b.1 c.4, inv_token class R true (of_mark sign.RightParen ∷ []) (λ t. t.place) b.0 b.1 a.1 b.3, inv_token class R true (ZERO ∷ []) (λ t. t.place) a.0 a.1 r a.3)

  cast_leads : (x : Expr) (i r : Cells) → spells class R cast x i r → (a b c : Cells) × Leads (of class (of_mark sign.LeftParen ∷ [])) i a × Leads (of class types) a b × Leads (of class (of_mark sign.RightParen ∷ [])) b c
  cast_leads x i r h =
      let f = λ (place : Place) (t : Token) (x : Expr). e.Cast place (value_type_of t) x in
      let a = inv_apply class R (f <$> inner_mark sign.LeftParen <*> token true types (λ t. t) <* inner_mark sign.RightParen) (sub operand) x i r h in
      let b = inv_left class R (f <$> inner_mark sign.LeftParen <*> token true types (λ t. t)) (inner_mark sign.RightParen) a.0 i a.2 a.3 in
      let c = inv_two class R f (inner_mark sign.LeftParen) (token true types (λ t. t)) a.0 i b.1 b.2 in
      (c.2, b.1, a.2, inv_token class R true (of_mark sign.LeftParen ∷ []) (λ t. t.place) c.0 i c.2 c.3, inv_token class R true types (λ t. t) c.1 c.2 b.1 c.4, inv_token class R true (of_mark sign.RightParen ∷ []) (λ t. t.place) b.0 b.1 a.2 b.3)

  pub zeros_tests_pass : (x : Expr) (i r : Cells) → spells class R zero_struct x i r → begins_with zeros_tests (plain i) ≡ true
  zeros_tests_pass x i r h = let k = zeros_leads x i r h in
      begins_more (of class (of_mark sign.LeftParen ∷ [])) (of class (NAME ∷ []) ∷ of class (of_mark sign.RightParen ∷ []) ∷ of class (ZERO ∷ []) ∷ []) i k.0 k.3 (begins_more (of class (NAME ∷ [])) (of class (of_mark sign.RightParen ∷ []) ∷ of class (ZERO ∷ []) ∷ []) k.0 k.1 k.4 (begins_more (of class (of_mark sign.RightParen ∷ [])) (of class (ZERO ∷ []) ∷ []) k.1 k.2 k.5 (begins_more (of class (ZERO ∷ [])) [] k.2 r k.6 refl)))

  pub cast_tests_pass : (x : Expr) (i r : Cells) → spells class R cast x i r → begins_with cast_tests (plain i) ≡ true
  cast_tests_pass x i r h = let k = cast_leads x i r h in
      begins_more (of class (of_mark sign.LeftParen ∷ [])) (of class types ∷ of class (of_mark sign.RightParen ∷ []) ∷ []) i k.0 k.3 (begins_more (of class types) (of class (of_mark sign.RightParen ∷ []) ∷ []) k.0 k.1 k.4 (begins_more (of class (of_mark sign.RightParen ∷ [])) [] k.1 k.2 k.5 refl))

  zeros_no_cast : (x : Expr) (i r : Cells) → spells class R zero_struct x i r → begins_with cast_tests (plain i) ≡ false
  zeros_no_cast x i r h = let k = zeros_leads x i r h in
      begins_rest (of class (of_mark sign.LeftParen ∷ [])) (of class types ∷ of class (of_mark sign.RightParen ∷ []) ∷ []) i k.0 k.3
      (begins_not (of class types) (of class (of_mark sign.RightParen ∷ []) ∷ []) (plain k.0) (apart_sees class (NAME ∷ []) types (plain k.0) refl (ap (λ z. sees (of class (NAME ∷ [])) (plain z)) k.4.3 ∙ k.4.2)))

  exact_tail : Exact class (starts full) (operand_stops full) Tail (spells class R zero_struct or spells class R (plain_operand full))
  exact_tail = exact_look class (of_mark sign.LeftParen ∷ []) (of_mark sign.LeftParen ∷ []) (starts full) (operand_stops full) (of class (NAME ∷ []) ∷ of class (of_mark sign.RightParen ∷ []) ∷ of class (ZERO ∷ []) ∷ []) refl refl exact_zeros exact_plain zeros_taken zeros_other zeros_tests_pass plain_no_zeros

  cast_taken : (ts : List Token) → begins_with cast_tests ts ≡ true → (n : ℕ) → 3 ≡ suc n → TakesTokens n ts (read_part full I cast ts)
  cast_taken ts b n l = go I.room refl
    where
      go : (v : Bool) → I.room ≡ v → TakesTokens n ts (read_part full I cast ts)
      go true r = far_takes n ts (read_part full I cast ts) (far.cast_taken I self r (tells.first r) (name_read r) ts b n l)
      go false r = shut_taken Open Typed (read_part full I cast) (far.cast_shut I self r) ts b n

  cast_other : (ts : List Token) → begins_with cast_tests ts ≡ false → TakesTokens (matched cast_tests ts) ts (Tail ts)
  cast_other ts b = go I.room refl
    where
      go : (v : Bool) → I.room ≡ v → TakesTokens (matched cast_tests ts) ts (Tail ts)
      go true r = far_takes (matched cast_tests ts) ts (Tail ts) (far.cast_other I self r (tells.first r) (name_read r) ts b)
      go false r = shut_other Open Typed Tail (far.tail_shut I self r) (λ m. takes_none exact_tail.self m) ts

  pub cast_on : StopsOn cast_tests (read_part full I cast) (read_tail I)
  cast_on = go I.room refl
    where
      go : (v : Bool) → I.room ≡ v → StopsOn cast_tests (read_part full I cast) Tail
      go true r = far_on cast_tests (read_part full I cast) Tail (far.cast_taken I self r (tells.first r) (name_read r))
      go false r = shut_on Open Typed (read_part full I cast) Tail (far.cast_shut I self r) (far.tail_shut I self r)

  pub cast_off : StopsOff cast_tests (read_part full I cast) (read_tail I)
  cast_off = go I.room refl
    where
      go : (v : Bool) → I.room ≡ v → StopsOff cast_tests (read_part full I cast) Tail
      go true r = far_off cast_tests (read_part full I cast) Tail (far.cast_other I self r (tells.first r) (name_read r))
      go false r = shut_off Open Typed (read_part full I cast) Tail (far.cast_shut I self r) (far.tail_shut I self r)

  pub no_cast : (x : Expr) (i r : Cells) → (spells class R zero_struct or spells class R (plain_operand full)) x i r → sees (of class (operand_stops full)) (plain r) ≡ false → begins_with cast_tests (plain i) ≡ false
  no_cast x i r (inl h) f = zeros_no_cast x i r h
  no_cast x i r (inr h) f = plain_no_cast x i r h

  pub exact_unary_full : Exact class (starts full) (operand_stops full) (read_unary full I) (unary full R)
  exact_unary_full = exact_look class (of_mark sign.LeftParen ∷ []) (of_mark sign.LeftParen ∷ []) (starts full) (operand_stops full) (of class types ∷ of class (of_mark sign.RightParen ∷ []) ∷ []) refl refl exact_cast exact_tail cast_taken cast_other cast_tests_pass no_cast

  -- and with more room it reads the same
  module _ (J : NestedReaders) (more : Grows I J) where
    pub unary_full_grows : Persists (read_unary full I) (read_unary full J)
    unary_full_grows = persists_look cast_tests (part_persists class Edge example I J more cast cast_decides)
        (persists_look zeros_tests (part_persists class Edge example I J more zero_struct zeros_decides) (part_persists class Edge example I J more (plain_operand full) (plain_decides full)) zeros_taken zeros_other) cast_taken cast_other
