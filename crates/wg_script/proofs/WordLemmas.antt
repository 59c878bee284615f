-- The words of a line, one text after the other.
use Rattle.std.proofs.Common.{◌≡◌, ℕ, List, ◌++◌, Option, Some, None, Result, Ok, Err, refl, sym, ap, subst, ◌∙◌, append_assoc}
use Rattle.std.specs.Prelude.{⊤}
use Rattle.std.specs.Option.{option_map}
use Rattle.std.specs.Result.{IsErr, IsErrAnd}
use Rattle.wg_text.specs.declared.refusal.Refusal.{Refusal}
use Rattle.wg_text.specs.declared.refusal.Refusal.TheVariants.{Form, Memory}
use Rattle.wg_text.specs.Refusals.{Yields, YieldsWith}
use Rattle.wg_script.specs.Lines.{onto}

list_is : (a b : List ℕ) → ◌≡◌ {A = Option (List ℕ)} (Some a) (Some b) → a ≡ b
list_is a b e = cc

-- the words of one more text stand after those so far
pub more_words : (words new : List ℕ) (some rest : Option (List ℕ)) → option_map (λ (ws : List ℕ). words ++ ws) some ≡ Some new → option_map (λ (ws : List ℕ). new ++ ws) rest ≡ option_map (λ (ws : List ℕ). words ++ ws) (onto some rest)
more_words words new None rest e = absurd cc
more_words words new (Some ws) None e = refl
more_words words new (Some ws) (Some more) e = ap (λ (l : List ℕ). Some l) (ap (λ (l : List ℕ). l ++ more) (sym (list_is (words ++ ws) new e)) ∙ append_assoc words ws more)

not_ok : (ws : List ℕ) → IsErr {T = List ℕ} {E = Refusal} (Ok ws) → ⊥
not_ok ws e = cc

-- a text that gives no words leaves none to the line
pub no_words : (own : Refusal) (r : Result (List ℕ) Refusal) (new : List ℕ) (words : List ℕ) (some rest all : Option (List ℕ)) → YieldsWith {X = ⊤} {Y = List ℕ} (λ x. new) (Err own) (option_map (λ (ws : List ℕ). words ++ ws) some) → option_map (λ (ws : List ℕ). words ++ ws) (onto some rest) ≡ all
    → IsErr r × IsErrAnd r (λ e. e ≡ own) → Yields r all
no_words own (Ok ws) new words some rest all none given err = absurd (not_ok ws err.0)
no_words own (Err f) new words some rest all none given err = subst (λ (g : Refusal). Yields {X = List ℕ} (Err g) all) (sym err.1) (refused own some none given)
  where
    refused : (g : Refusal) (o : Option (List ℕ)) → YieldsWith {X = ⊤} {Y = List ℕ} (λ x. new) (Err g) (option_map (λ (ws : List ℕ). words ++ ws) o) → option_map (λ (ws : List ℕ). words ++ ws) (onto o rest) ≡ all → Yields {X = List ℕ} (Err g) all
    refused Memory o n e = tt
    refused Form None n e = sym e
    refused Form (Some ws) n e = absurd cc
