-- An entry names at most one launch, so that it is spent or not.
use Rattle.std.proofs.Common.{◌≡◌, ◌∙◌, ℕ, List, Some, None, refl, ap, sym}
use Rattle.wg_machine.specs.declared.launch.Entry.{Entry}
use Rattle.wg_machine.specs.declared.launch.Launch.{Launch}
use Rattle.wg_machine.specs.declared.launch.Live.{Live}
use Rattle.wg_machine.specs.declared.shape.Shape.{Shape}
use Rattle.wg_machine.specs.Buffers.{all_written}
use Rattle.wg_machine.specs.LaunchMeaning.{Meaning, outcome_of}
use Rattle.wg_machine.specs.State.{State}
use Rattle.wg_machine.specs.Step.{Allows, launch_in, numbers_of}
use Rattle.wg_records.specs.Named.{IsNamed}
use Rattle.wg_replay.specs.declared.ran.Ran.{Ran}
use Rattle.wg_replay.specs.declared.ran.Ran.TheVariants as ran
use Rattle.wg_replay.specs.Lines.{EntryRuns, Spends}

abbrev pub AreToldByNames : Type 0
AreToldByNames = (shape : Shape) (bag : List Live) (launch : Launch) (at : List ℕ) → Allows shape bag launch at → launch ≡ launch_in shape bag launch.unit at (numbers_of launch.records)

pub one_named : AreToldByNames → (shape : Shape) (bag : List Live) (e : Entry) (l k : Launch) → IsNamed shape bag e l → IsNamed shape bag e k → l ≡ k
one_named told shape bag e l k n m =
    told shape bag l e.at n.allowed
    ∙ ap (λ (u : ℕ). launch_in shape bag u e.at (numbers_of l.records)) (n.unit ∙ sym m.unit)
    ∙ ap (λ (ns : List ℕ). launch_in shape bag k.unit e.at ns) (n.inputs ∙ sym m.inputs)
    ∙ sym (told shape bag k e.at m.allowed)

pub spends_only : AreToldByNames → (shape : Shape) (made : Meaning) (turns : ℕ) (s : State) (e : Entry) (r : Ran)
    → EntryRuns shape made turns s e r → Spends shape made turns s e → r ≡ ran.Spent
spends_only told shape made turns s e ran.NoLaunch h sp = absurd (h sp.launch sp.named)
spends_only told shape made turns s e ran.Spent h sp = refl
spends_only told shape made turns s e (ran.Did m ws) h sp =
    let same = one_named told shape s.bag e h.launch sp.launch h.named sp.named in
    let clash : Some (outcome_of m (all_written s.buffers ws)) ≡ None = sym h.runs ∙ ap (λ (l : Launch). made l s.buffers turns) same ∙ sp.spent in
    cc
