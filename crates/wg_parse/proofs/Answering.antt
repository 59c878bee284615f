-- What is told of the tokens, once their answer is known.
use Rattle.std.proofs.Common.{◌≡◌, ℕ, List, [], ◌∷◌, length, refl, subst, arith, Result, Ok, Err, IfOk, IfErr}
use Rattle.wg_tokens.specs.declared.token.Token.{Token}
use Rattle.wg_tree.specs.declared.item.Source.{Source}
use Rattle.wg_tree.specs.ParseFaults.{SpelledWithin, Answer, spelled, expected, too_deep, IsAnswer, IsExpected}
use Rattle.wg_tree.specs.ReadsItem.{read_text}
use Rattle.wg_grammar.specs.Reading.{Got}
use Rattle.wg_parse.specs.declared.parsing.ParseFault.{ParseFault}
use Rattle.wg_parse.specs.declared.parsing.ParseFault.TheVariants as fault
use Rattle.wg_parse.specs.Faults.{SaysExpected, HasCause, TellsAnswer}

module _ (nesting : ℕ) where
  abbrev One : List Token → Type 0
  One tokens = (a b : Answer) → IsAnswer nesting tokens a → IsAnswer nesting tokens b → a ≡ b

  -- the answer that a result tells is the one there is
  exact : (tokens : List Token) (a : Answer) (result : Result Source ParseFault) → One tokens → IsAnswer nesting tokens a → TellsAnswer tokens a result
      → (answer : Answer) → IsAnswer nesting tokens answer → TellsAnswer tokens answer result
  exact tokens a result one is tells answer other = subst (λ x. TellsAnswer tokens x result) (one a answer is other) tells

  -- and has its cause
  tree : (tokens : List Token) (a : Answer) (result : Result Source ParseFault) → IsAnswer nesting tokens a → TellsAnswer tokens a result → IfOk result (λ tree. SpelledWithin nesting tokens tree)
  tree tokens a (Ok found) is tells = subst (IsAnswer nesting tokens) tells is
  tree tokens a (Err f) is tells = tt

  cause : (tokens : List Token) (a : Answer) (result : Result Source ParseFault) → IsAnswer nesting tokens a → TellsAnswer tokens a result → IfErr result (λ f. HasCause nesting tokens f)
  cause tokens a (Ok found) is tells = tt
  cause tokens a (Err (fault.Expected place kind)) is tells = (tells.0, subst (IsAnswer nesting tokens) tells.1 is, tells.2, tells.3)
  cause tokens a (Err (fault.TooDeep place)) is tells = (tells.0, subst (IsAnswer nesting tokens) tells.1 is, tells.2)
  cause tokens a (Err fault.Memory) is tells = tt

  pub told : (tokens : List Token) (a : Answer) (result : Result Source ParseFault) → One tokens → IsAnswer nesting tokens a → TellsAnswer tokens a result
      → IfOk result (λ tree. SpelledWithin nesting tokens tree) × IfErr result (λ f. HasCause nesting tokens f) × ((answer : Answer) → IsAnswer nesting tokens answer → TellsAnswer tokens answer result)
  told tokens a result one is tells = (tree tokens a result is tells, cause tokens a result is tells, exact tokens a result one is tells)

  pub says : (tokens rest : List Token) (f : ParseFault) → SaysExpected tokens rest f → TellsAnswer tokens (expected rest) (Err f)
  says tokens rest (fault.Expected place kind) s = (rest, refl, s.0, s.1)
  says tokens rest (fault.TooDeep place) s = absurd s
  says tokens rest fault.Memory s = tt

  -- ---- what the laws of the readers say of the tokens that are left

  pub all_read : (tokens rest : List Token) (tree : Source) → length rest ≡ 0 → read_text nesting tokens ≡ Got tree rest
      → ((room : ℕ) (tokens : List Token) (tree : Source) → read_text room tokens ≡ Got tree [] → SpelledWithin room tokens tree) → SpelledWithin nesting tokens tree
  all_read tokens [] tree n e law = law nesting tokens tree e
  all_read tokens (t ∷ rest) tree n e law = absurd (omega (arith, n))

  pub some_left : (tokens rest : List Token) (tree : Source) → (length rest ≡ 0 → ⊥) → read_text nesting tokens ≡ Got tree rest
      → ((room : ℕ) (tokens : List Token) (tree : Source) (t : Token) (later : List Token) → read_text room tokens ≡ Got tree (t ∷ later) → IsExpected room tokens (t ∷ later)) → IsExpected nesting tokens rest
  some_left tokens [] tree n e law = absurd (n refl)
  some_left tokens (t ∷ rest) tree n e law = law nesting tokens tree t rest e
