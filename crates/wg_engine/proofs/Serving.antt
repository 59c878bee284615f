-- A guess that serves is kept.
use Rattle.std.proofs.Common.{◌≡◌, ◌≢◌, ℕ, List, [], refl, sym, ◌∙◌, subst, None, Some, Option}
use Rattle.std.specs.Prelude.{IfSome}
use Rattle.std.specs.Option.{ForSome}
use Rattle.wg_machine.specs.declared.launch.Made.{Made}
use Rattle.wg_machine.specs.declared.memory.Write.{Write}
use Rattle.wg_machine.specs.declared.shape.Shape.{Shape}
use Rattle.wg_machine.specs.Buffers.{Buffers}
use Rattle.wg_machine.specs.LaunchMeaning.{Meaning}
use Rattle.wg_standing.specs.declared.pending.Pending.{Pending}
use Rattle.wg_standing.specs.Core.{CoreView}
use Rattle.wg_standing.specs.Idle.{IsOut}
use Rattle.wg_standing.specs.Outs.{launch_now}
use Rattle.wg_standing.specs.Standing.{IsNotOut, IsPlaced}
use Rattle.wg_guess.specs.declared.guesses.Guess.{Guess}
use Rattle.wg_guess.specs.Guesses.{IsTrueOf, guessed}
use Rattle.wg_engine.specs.declared.engine.Settled.{Settled}
use Rattle.wg_engine.specs.declared.engine.Settled.TheVariants as settled
use Rattle.wg_engine.specs.Serving.{OnlyWithWrites, Serves}
use Rattle.wg_engine.specs.Tables.{KeepsOrWants, Settles}
use Rattle.wg_engine.proofs.Settlings.{not_again, one_out, says}

never_both : (answer : Option Made) (writes : List Write) (buffers : Buffers) → answer ≢ None → guessed answer writes buffers ≡ None → ⊥
never_both None writes buffers some e = some refl
never_both (Some m) writes buffers some e = cc

-- a guess that serves is of no launch that is spent
not_spent : (shape : Shape) (made : Meaning) (core : CoreView) (o : Pending) (guess : Option Guess) → ForSome guess (IsTrueOf shape made core.limits.turns) → Serves core o guess → made (launch_now core.shape core.bag o) core.buffers core.limits.turns ≡ None → ⊥
not_spent shape made core o None honest serves spent = absurd serves
not_spent shape made core o (Some g) honest serves spent =
    let said = says shape made core.limits.turns g (launch_now core.shape core.bag o) core.buffers (honest g refl) serves.agrees serves.launch in
    never_both g.answer g.writes core.buffers serves.unspent (sym said ∙ spent)

has_writes : (core : CoreView) (o : Pending) (guess : Option Guess) → OnlyWithWrites core o guess → Serves core o guess → IfSome guess (λ (g : Guess). g.writes ≢ [])
has_writes core o None only serves = absurd serves
has_writes core o (Some g) only serves = only serves

-- by the table, a guess that serves is kept, or memory is wanting
pub kept_or_wants : (shape : Shape) (made : Meaning) (old new : CoreView) (ticket : ℕ) (guess : Option Guess) (r : Settled) (before : List Pending) (o : Pending) (later : List Pending) → IsPlaced old old.bag → ForSome guess (IsTrueOf shape made old.limits.turns) → Settles made old new ticket guess r → IsOut old ticket before o later → old.stopped ≡ None → Serves old o guess → KeepsOrWants guess r
kept_or_wants shape made old new ticket guess settled.Kept before o later placed honest s out free serves = tt
kept_or_wants shape made old new ticket guess settled.Redone before o later placed honest s out free serves =
    let step = s.1.step in
    let there : IsOut old ticket step.before step.pending step.later = record { place = step.was_out; named = step.named } in
    s.1.unserved (subst (λ (p : Pending). Serves old p guess) (one_out old ticket before o later step.before step.pending step.later placed out there) serves)
kept_or_wants shape made old new ticket guess (settled.TurnsSpent launch) before o later placed honest s out free serves =
    let spends = s.1.0 in
    not_spent shape made old spends.pending guess honest (subst (λ (p : Pending). Serves old p guess) (one_out old ticket before o later spends.before spends.pending spends.later placed out spends.out) serves) spends.spent
kept_or_wants shape made old new ticket guess settled.NotOut before o later placed honest s out free serves = not_again ticket before o later out.named (subst (IsNotOut ticket) out.place s.1)
kept_or_wants shape made old new ticket guess settled.Stopped before o later placed honest s out free serves = s.0 free
kept_or_wants shape made old new ticket guess settled.Memory before o later placed honest s out free serves =
    let wants = s.1 in
    has_writes old wants.pending guess wants.writes (subst (λ (p : Pending). Serves old p guess) (one_out old ticket before o later wants.before wants.pending wants.later placed out wants.out) serves)
