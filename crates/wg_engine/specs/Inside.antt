-- Inside a core: its fields, and what every core keeps.
use Rattle.std.specs.Prelude.{◌≡◌, ℕ, ◌+◌, ◌*◌, ◌^◌, ◌≤◌, List, [], length, Option, None, Some}
use Rattle.std.specs.Option.{ForSome}
use Rattle.wg_words.specs.Each.{Each}
use Rattle.wg_words.specs.declared.limits.TheConstants.{MOST_ENTRIES, MOST_LAUNCHES, MOST_SENT}
use Rattle.wg_machine.specs.declared.launch.Entry.{Entry}
use Rattle.wg_machine.specs.declared.launch.Sent.{Sent}
use Rattle.wg_machine.specs.Buffers.{Buffers}
use Rattle.wg_machine.specs.GoodShape.{IsGoodShape}
use Rattle.wg_machine.specs.LaunchMeaning.{Arrives}
use Rattle.wg_standing.specs.declared.pending.Pending.{Pending}
use Rattle.wg_standing.specs.Core.{CoreView, core_begun}
use Rattle.wg_standing.specs.Idle.{IsOut}
use Rattle.wg_standing.specs.Outs.{launch_now}
use Rattle.wg_standing.specs.Standing.{IsPlaced}
use Rattle.wg_engine.specs.declared.stepping.Spent.{Spent}

-- the ticket of the launch that spent its turns
abbrev pub spent_ticket : Option Spent → Option ℕ
spent_ticket None = None
spent_ticket (Some s) = Some s.ticket

-- what contracts see, of a keep and the other fields
abbrev pub core_of : CoreView → Buffers → ℕ → ℕ → ℕ → Option Spent → CoreView
core_of k buffers denied peak kept spent =
    record k { buffers = buffers; denied = denied; peak = peak; kept = kept; stopped = spent_ticket spent }

-- the launch that spent its turns is out, and is kept as it is now
pub record IsStopped (core : CoreView) (s : Spent) : Type 0 where
  pub before : List Pending
  pub pending : Pending
  pub later : List Pending
  pub out : IsOut core s.ticket before pending later
  pub launch : s.launch ≡ launch_now core.shape core.bag pending

-- what every core keeps
pub record IsSoundCore (core : CoreView) (spent : Option Spent) : Type 0 where
  pub placed : IsPlaced core core.bag
  pub good : IsGoodShape core.shape
  pub wide : 1 ≤ core.width
  pub buffers : length core.buffers ≡ length core.shape.buffers
  -- bounds of the numbers
  pub few : core.limits.launches ≤ MOST_LAUNCHES
  pub next : core.next ≤ MOST_ENTRIES + MOST_SENT * length core.journal
  pub denied : core.denied ≤ 2 ^ 32 * length core.journal
  pub kept : core.kept ≤ length core.journal
  pub born : Each (λ (e : Entry). e.first_out + e.outs ≤ core.next) core.journal
  pub stopped : ForSome spent (IsStopped core)

-- a keep at the start of a script of good entries, within the limits
pub record IsBegun (k : CoreView) : Type 0 where
  pub script : List Sent
  pub begun : k ≡ core_begun k.shape k.width k.limits script []
  pub good : IsGoodShape k.shape
  pub wide : 1 ≤ k.width
  pub arrive : Each (Arrives k.shape) script
  pub few : length script ≤ MOST_ENTRIES
  pub launches : k.limits.launches ≤ MOST_LAUNCHES
