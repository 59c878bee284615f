-- Loops that read, a turn at a time: by their invariant, what is found and what is still read are the whole.
use Rattle.std.proofs.Common.{◌≡◌, ℕ, zero, suc, ◌+◌, ◌-◌, ◌<◌, Bool, true, false, List, [], ◌∷◌, ◌++◌, refl, sym, ◌∙◌, ap, subst, append_assoc, arith}
use Rattle.std.proofs.lemmas.List.{append-nil}
use Rattle.wg_tokens.specs.declared.token.Token.{Token}
use Rattle.wg_grammar.specs.Reading.{Reading, Got, Wrong, Deep, Reader, read_on, pure, sees, many_from}
use Rattle.wg_cursor.specs.IsReading.{Halts}
use Rattle.wg_cursor.specs.Turns.{with_front}
use Rattle.wg_cursor.specs.declared.halt.Halt.{Halt}
use Rattle.wg_cursor.specs.declared.halt.Halt.TheVariants as halt

module _ {X : Type 0} (starts : Token → Bool) (item : Reader Token X) where
  none_comes : (n : ℕ) (found : List X) (ts : List Token) → sees starts ts ≡ false → with_front found (many_from starts item n ts) ≡ Got found ts
  none_comes zero found ts e = ap (λ z. Got z ts) (append-nil found)
  none_comes (suc n) found ts e = rw e (ap (λ z. Got z ts) (append-nil found))

  one_comes : (n : ℕ) (found : List X) (ts m : List Token) (x : X) → sees starts ts ≡ true → item ts ≡ Got x m
      → with_front found (many_from starts item (suc n) ts) ≡ with_front (found ++ x ∷ []) (many_from starts item n m)
  one_comes n found ts m x e g = rw (e, g) (go (many_from starts item n m))
    where
      go : (o : Reading Token (List X)) → read_on (read_on o (λ xs. pure (x ∷ xs))) (λ ys. pure (found ++ ys)) ≡ read_on o (λ ys. pure (found ++ x ∷ [] ++ ys))
      go (Got xs b) = ap (λ z. Got z b) (sym (append_assoc found (x ∷ []) xs))
      go (Wrong b) = refl
      go (Deep b) = refl

  one_halts : (n : ℕ) (found : List X) (ts left : List Token) (h : Halt) → sees starts ts ≡ true → Halts (item ts) h left → Halts (with_front found (many_from starts item (suc n) ts)) h left
  one_halts n found ts left halt.Wrong e g = rw (e, g) refl
  one_halts n found ts left halt.Deep e g = rw (e, g) refl
  one_halts n found ts left halt.Memory e g = tt

  module _ (end turn : ℕ) (found : List X) (ts : List Token) (whole : Reading Token (List X)) (less : turn < end)
      (same : with_front found (many_from starts item (end - turn) ts) ≡ whole) where
    again : with_front found (many_from starts item (suc (end - (turn + 1))) ts) ≡ whole
    again = let more : suc (end - (turn + 1)) ≡ end - turn = omega (arith, less) in ap (λ n. with_front found (many_from starts item n ts)) more ∙ same

    -- no item comes
    pub turn_off : sees starts ts ≡ false → whole ≡ Got found ts
    turn_off e = sym same ∙ none_comes (end - turn) found ts e

    -- an item comes
    pub turn_on : (m : List Token) (x : X) (now : List X) → now ≡ found ++ x ∷ [] → sees starts ts ≡ true → item ts ≡ Got x m
        → with_front now (many_from starts item (end - (turn + 1)) m) ≡ whole
    turn_on m x now p e g =
        ap (λ z. with_front z (many_from starts item (end - (turn + 1)) m)) p
        ∙ sym (one_comes (end - (turn + 1)) found ts m x e g)
        ∙ again

    -- an item comes that can't be read
    pub turn_halts : (left : List Token) (h : Halt) → sees starts ts ≡ true → Halts (item ts) h left → Halts whole h left
    turn_halts left h e g = subst (λ o. Halts o h left) again (one_halts (end - (turn + 1)) found ts left h e g)
