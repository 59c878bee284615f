-- The exchangers keep to the laws of a launch.
use Rattle.std.specs.Prelude.{◌≡◌, if◌then◌else◌, ℕ, ◌≤◌, nat_lt, Bool, true, false, List, [], ◌∷◌, length, slice_set, Some, None, IfSome}
use Rattle.std.proofs.Common.{arith, refl, ap, zero, suc, subst, sym, ◌∙◌}
use Rattle.std.proofs.lemmas.Bool.{ltb-false}
use Rattle.std.proofs.lemmas.List.{length-set}
use Rattle.wg_machine.specs.declared.memory.Write.{Write}
use Rattle.wg_machine.specs.declared.memory.Write.TheVariants.{Set, Add}
use Rattle.wg_machine.specs.declared.launch.Launch.{Launch}
use Rattle.wg_machine.specs.declared.shape.Shape.{Shape}
use Rattle.wg_machine.specs.Buffers.{Buffers, lengths_of, buffer_at, with_word, written}
use Rattle.wg_machine.specs.LaunchMeaning.{HasNewWords, KeepsLaws}
use Rattle.wg_machine.specs.Units.{shared_at, words_at}
use Rattle.wg_exchangers.specs.declared.form.Before.{Before}
use Rattle.wg_exchangers.specs.declared.form.Before.TheVariants as before
use Rattle.wg_exchangers.specs.declared.form.Form.{Form}
use Rattle.wg_exchangers.specs.Exchanging.{after, begun, exchanger_made, exchanger_outcome, form_done, told}

lengths_set : (m : Buffers) (c : ℕ) (y : List ℕ) → length y ≡ length (buffer_at m c) → lengths_of (slice_set m c y) ≡ lengths_of m
lengths_set [] c y h = refl
lengths_set (z ∷ m) zero y h = ap (λ (n : ℕ). n ∷ lengths_of m) h
lengths_set (z ∷ m) (suc c) y h = ap (λ (ns : List ℕ). length z ∷ ns) (lengths_set m c y h)

word_set : (m : Buffers) (b w v : ℕ) → lengths_of (with_word m b w v) ≡ lengths_of m
word_set m b w v = lengths_set m b _ (length-set (buffer_at m b) w v)

lengths_begun : (b : Before) (w : ℕ) (m : Buffers) → lengths_of (begun b w m) ≡ lengths_of m
lengths_begun before.Nothing w m = refl
lengths_begun before.Load w m = refl
lengths_begun (before.Store value) w m = word_set m 0 w value
lengths_begun (before.Add value) w m = word_set m 0 w _

lengths_told : (found left : ℕ) (m : Buffers) → lengths_of (told found left m) ≡ lengths_of m
lengths_told found left m = word_set (with_word m 1 0 found) 1 1 left ∙ word_set m 1 0 found

lengths_after : (f : Form) (m : Buffers) → lengths_of (after f m) ≡ lengths_of m
lengths_after f m =
    lengths_told _ _ (form_done f (begun f.before f.word m)) ∙ (word_set (begun f.before f.word m) 0 f.word _ ∙ lengths_begun f.before f.word m)

no_new_words : (shared : Bool) (words : ℕ) → shared ≡ false → HasNewWords shared words None
no_new_words true words e = absurd cc
no_new_words false words e = tt

outcome_lawful : (shape : Shape) (f : Form) (l : Launch) (m : Buffers) (turns : ℕ) → ((u : ℕ) → shared_at shape u ≡ false) → f.turns ≤ turns → KeepsLaws shape l m turns (exchanger_outcome f m)
outcome_lawful shape f l m turns alone few = record {
  turns_few = few;
  denied_few = omega arith;
  lengths = lengths_after f m;
  arrive = tt;
  budgets = λ u e. record { through = []; each_goes = tt; few = λ b. (omega arith) };
  shared = no_new_words (shared_at shape l.unit) (words_at shape l.unit) (alone l.unit);
}

pub exchanger_lawful : (shape : Shape) (f : Form) (l : Launch) (m : Buffers) (turns : ℕ) → ((u : ℕ) → shared_at shape u ≡ false) → IfSome (exchanger_made f l m turns) (KeepsLaws shape l m turns)
exchanger_lawful shape f l m turns alone = choice (nat_lt turns f.turns) refl
  where
    choice : (b : Bool) → nat_lt turns f.turns ≡ b → IfSome (if b then None else Some (exchanger_outcome f m)) (KeepsLaws shape l m turns)
    choice true e = tt
    choice false e = outcome_lawful shape f l m turns alone (ltb-false turns f.turns e)
