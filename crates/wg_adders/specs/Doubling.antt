-- What the doublers do.
use Rattle.std.specs.Prelude.{ℕ, ◌+◌, ◌%◌, ◌^◌, [], Some}
use Rattle.std.proofs.Common.{arith}
use Rattle.wg_machine.specs.declared.shape.Shape.{Shape}
use Rattle.wg_machine.specs.declared.launch.Launch.{Launch}
use Rattle.wg_machine.specs.Buffers.{Buffers, word_at, with_word}
use Rattle.wg_machine.specs.LaunchMeaning.{Meaning, Outcome, FitsShape, KeepsLaws}
use Rattle.wg_adders.specs.Adding.{lengths_stay, same_words, same_words_new}

abbrev pub doubler_outcome : Shape → Launch → Buffers → Outcome
doubler_outcome shape l m =
    record { sent = []; denied = 0; turns = 0; buffers = with_word m 0 0 ((word_at m 0 0 + word_at m 0 0) % 2 ^ 32); shared = same_words shape l }

abbrev pub doubler_made : Shape → Meaning
doubler_made shape l m turns = Some (doubler_outcome shape l m)

pub doubler_lawful : (shape : Shape) (l : Launch) (m : Buffers) (turns : ℕ) → FitsShape shape l → KeepsLaws shape l m turns (doubler_outcome shape l m)
doubler_lawful shape l m turns fits = record {
  turns_few = omega arith;
  denied_few = omega arith;
  lengths = lengths_stay m _;
  arrive = tt;
  budgets = λ u e. record { through = []; each_goes = tt; few = λ b. (omega arith) };
  shared = same_words_new shape l fits;
}
