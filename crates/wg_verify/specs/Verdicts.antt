-- What a journal is worth. This project's own.
use Rattle.std.specs.Prelude.{◌≡◌, ◌≢◌, ◌⊎◌, ⊤, ℕ, ◌+◌, List, length}
use Rattle.wg_machine.specs.declared.journal.BufferLine.{BufferLine}
use Rattle.wg_machine.specs.declared.journal.Journal.{Journal}
use Rattle.wg_machine.specs.declared.journal.Stop.{Stop}
use Rattle.wg_machine.specs.declared.journal.Tail.{Tail}
use Rattle.wg_machine.specs.declared.launch.Entry.{Entry}
use Rattle.wg_machine.specs.State.{State}
use Rattle.wg_machine.specs.Step.{Passed}
use Rattle.wg_replay.specs.declared.replay.LineFault.{LineFault}
use Rattle.wg_replay.specs.declared.replay.LineFault.TheVariants as fault
use Rattle.wg_replay.specs.Lines.{Terms}
use Rattle.wg_verify.specs.declared.verdict.Verdict.{Verdict}
use Rattle.wg_verify.specs.declared.verdict.Verdict.TheVariants as verdict
use Rattle.wg_verify.specs.Launches.{AreRight, HasFault}
use Rattle.wg_verify.specs.Tails.{Outcome, AreFirst, DifferAt, IsRightStop, IsRightTail, IsWholeTail, HasWrongLine}

-- what right launch lines came to
abbrev pub outcome : State → ℕ → List Passed → State → Outcome
outcome first launches trail final = record { launches = launches; trail = trail; first = first; final = final }

-- all launch lines are right, and this holds of the tail
pub record AfterLaunches (t : Terms) (first : State) (j : Journal) (Says : Outcome → Tail → Type 0) : Type 0 where
  pub trail : List Passed
  pub final : State
  pub right : AreRight t first j.entries trail final
  pub says : Says (outcome first (length j.entries) trail final) j.tail

-- each line of the tail is right, but they are not all there
pub record IsCutOff (t : Terms) (o : Outcome) (tail : Tail) : Type 0 where
  pub right : IsRightTail t o tail
  pub cut : IsWholeTail t o tail → ⊥

-- the verdict on a journal from a state on
abbrev pub IsVerdict : Terms → State → Journal → Verdict → Type 0
IsVerdict t first j verdict.Complete = AfterLaunches t first j (IsWholeTail t)
IsVerdict t first j verdict.Prefix = AfterLaunches t first j (IsCutOff t)
IsVerdict t first j (verdict.Wrong line) =
    HasFault t first j.entries line fault.Wrong ⊎ AfterLaunches t first j (λ o tail. HasWrongLine t o tail line)
IsVerdict t first j (verdict.OverBytes line) = HasFault t first j.entries line fault.OverBytes
IsVerdict t first j (verdict.TurnsSpent line) = HasFault t first j.entries line fault.TurnsSpent
IsVerdict t first j verdict.Memory = ⊤

-- the verdict on launch lines of which one is not right
abbrev pub IsLaunchVerdict : Terms → State → List Entry → Verdict → Type 0
IsLaunchVerdict t first entries verdict.Complete = ⊥
IsLaunchVerdict t first entries verdict.Prefix = ⊥
IsLaunchVerdict t first entries (verdict.Wrong line) = HasFault t first entries line fault.Wrong
IsLaunchVerdict t first entries (verdict.OverBytes line) = HasFault t first entries line fault.OverBytes
IsLaunchVerdict t first entries (verdict.TurnsSpent line) = HasFault t first entries line fault.TurnsSpent
IsLaunchVerdict t first entries verdict.Memory = ⊤

-- the verdict of a launch line's fault
abbrev pub verdict_of : LineFault → ℕ → Verdict
verdict_of fault.Wrong line = verdict.Wrong line
verdict_of fault.TurnsSpent line = verdict.TurnsSpent line
verdict_of fault.OverBytes line = verdict.OverBytes line
verdict_of fault.Memory line = verdict.Memory

-- the verdict on the lines of buffers after a right done line
abbrev pub BuffersVerdict : ℕ → List BufferLine → List BufferLine → Verdict → Type 0
BuffersVerdict launches lines all verdict.Complete = lines ≡ all
BuffersVerdict launches lines all verdict.Prefix = AreFirst lines all × (lines ≢ all)
BuffersVerdict launches lines all (verdict.Wrong line) = (k : ℕ) × (line ≡ launches + 2 + k) × DifferAt k lines all
BuffersVerdict launches lines all (verdict.OverBytes line) = ⊥
BuffersVerdict launches lines all (verdict.TurnsSpent line) = ⊥
BuffersVerdict launches lines all verdict.Memory = ⊥

-- the verdict on a stop line after right launch lines
abbrev pub StopVerdict : Terms → ℕ → State → Stop → Verdict → Type 0
StopVerdict t launches s stop verdict.Complete = ⊥
StopVerdict t launches s stop verdict.Prefix = IsRightStop t launches s stop
StopVerdict t launches s stop (verdict.Wrong line) = (line ≡ launches + 1) × (IsRightStop t launches s stop → ⊥)
StopVerdict t launches s stop (verdict.OverBytes line) = ⊥
StopVerdict t launches s stop (verdict.TurnsSpent line) = ⊥
StopVerdict t launches s stop verdict.Memory = ⊤

-- the verdict on a tail after right launch lines
abbrev pub TailVerdict : Terms → Outcome → Tail → Verdict → Type 0
TailVerdict t o tail verdict.Complete = IsWholeTail t o tail
TailVerdict t o tail verdict.Prefix = IsCutOff t o tail
TailVerdict t o tail (verdict.Wrong line) = HasWrongLine t o tail line
TailVerdict t o tail (verdict.OverBytes line) = ⊥
TailVerdict t o tail (verdict.TurnsSpent line) = ⊥
TailVerdict t o tail verdict.Memory = ⊤
