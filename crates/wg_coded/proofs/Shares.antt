-- The new words of a record whose groups share them, by the laws of a launch.
use Rattle.std.proofs.Common.{ℕ, true, Option, ap, subst}
use Rattle.std.specs.Prelude.{IfOk, IfSome, Result, Ok, Err}
use Rattle.wg_machine.specs.Buffers.{Buffers}
use Rattle.wg_machine.specs.LaunchMeaning.{Outcome, HasNewWords, KeepsLaws}
use Rattle.wg_machine.specs.Units.{shared_at, words_at}
use Rattle.wg_machine.specs.declared.bodies.Halt.{Halt}
use Rattle.wg_machine.specs.declared.launch.Launch.{Launch}
use Rattle.wg_machine.specs.declared.launch.Made.{Made}
use Rattle.wg_code.specs.CodeMeaning.{code_made, made_of, verdict}
use Rattle.wg_code.specs.declared.code.RawCode.{RawCode}
use Rattle.wg_group.specs.Launching.{Answers}

pub shares : (code : RawCode) (launch : Launch) (turns : ℕ) (before after : Buffers) (r : Result Made Halt) → Answers (verdict true code launch before turns) r after
    → IfSome (code_made code launch before turns) (KeepsLaws code.shape launch before turns)
    → IfOk r (λ m. HasNewWords (shared_at code.shape launch.unit) (words_at code.shape launch.unit) m.shared)
shares code launch turns before after (Ok m) e l =
    let laws = subst (λ (o : Option Outcome). IfSome o (KeepsLaws code.shape launch before turns)) (ap made_of e) l in
    laws.shared
shares code launch turns before after (Err h) e l = tt
