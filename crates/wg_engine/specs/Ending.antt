-- How a core ended, as its report tells it. This project's own.
use Rattle.std.specs.Prelude.{◌≡◌, ℕ, List, [], length, Option, Some, None}
use Rattle.wg_machine.specs.declared.journal.Journal.{Journal}
use Rattle.wg_machine.specs.declared.launch.Entry.{Entry}
use Rattle.wg_machine.specs.declared.launch.Launch.{Launch}
use Rattle.wg_machine.specs.Bytes.{plan_bytes}
use Rattle.wg_standing.specs.declared.pending.Pending.{Pending}
use Rattle.wg_standing.specs.Core.{CoreView}
use Rattle.wg_standing.specs.Idle.{IsIdle, IsOut}
use Rattle.wg_standing.specs.Outs.{launch_now}
use Rattle.wg_engine.specs.declared.report.End.{End}
use Rattle.wg_engine.specs.declared.report.End.TheVariants as end
use Rattle.wg_engine.specs.declared.report.Report.{Report}
use Rattle.wg_engine.specs.declared.stepping.Spent.{Spent}
use Rattle.wg_engine.specs.Tables.{IsLaunchesSpent}

-- a journal without a tail
abbrev pub bare_journal : List Entry → Journal
bare_journal entries = record { entries = entries; tail = record { done = None; buffers = []; stop = None } }

-- the launch that stopped the core is still out, and is this now
pub record IsStoppedBy (core : CoreView) (launch : Launch) : Type 0 where
  pub ticket : ℕ
  pub before : List Pending
  pub pending : Pending
  pub later : List Pending
  pub stopped : core.stopped ≡ Some ticket
  pub out : IsOut core ticket before pending later
  pub is : launch ≡ launch_now core.shape core.bag pending

-- how a core ends: by a launch that was spent, with an empty bag, with the launches spent, or else
abbrev pub EndsAs : CoreView → End → Type 0
EndsAs core (end.Turns launch) = IsStoppedBy core launch
EndsAs core end.Complete = (core.stopped ≡ None) × IsIdle core
EndsAs core end.Launches = IsLaunchesSpent core
EndsAs core end.Open = (core.stopped ≡ None) × (IsIdle core → ⊥) × (IsLaunchesSpent core → ⊥)

-- the report of a core has its numbers
pub record IsReport (core : CoreView) (report : Report) : Type 0 where
  pub journal : report.journal ≡ bare_journal core.journal
  pub records : report.records ≡ core.next
  pub denied : report.denied ≡ core.denied
  pub peak : report.peak ≡ core.peak
  pub bytes : report.bytes ≡ plan_bytes core.shape core.width
  pub end : EndsAs core report.end
  pub limits : report.limits ≡ core.limits
  pub buffers : report.buffers ≡ core.buffers

-- how a core ends, by its keep and the launch that was spent
abbrev pub EndIs : CoreView → Option Spent → End → Type 0
EndIs k (Some s) e = e ≡ end.Turns s.launch
EndIs k None (end.Turns launch) = ⊥
EndIs k None end.Complete = IsIdle k
EndIs k None end.Launches = (IsIdle k → ⊥) × (k.outs ≡ []) × (length k.journal ≡ k.limits.launches)
EndIs k None end.Open = (IsIdle k → ⊥) × ((k.outs ≡ []) × (length k.journal ≡ k.limits.launches) → ⊥)
