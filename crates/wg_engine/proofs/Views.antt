-- What holds of a core holds of its keep, and the other way round.
use Rattle.std.proofs.Common.{ℕ, List, Option}
use Rattle.wg_machine.specs.Buffers.{Buffers}
use Rattle.wg_standing.specs.declared.pending.Pending.{Pending}
use Rattle.wg_standing.specs.Choice.{IsChoice, NoChoice, from_entries, from_slots}
use Rattle.wg_standing.specs.Core.{CoreView}
use Rattle.wg_standing.specs.Idle.{IsIdle, IsOut, SomeIsOut}
use Rattle.wg_engine.specs.Inside.{core_of}
use Rattle.wg_engine.specs.declared.stepping.Spent.{Spent}

-- the fields of a core that its keep has not
pub record Own : Type 0 where
  pub buffers : Buffers
  pub denied : ℕ
  pub peak : ℕ
  pub kept : ℕ
  pub spent : Option Spent

abbrev pub core_with : CoreView → Own → CoreView
core_with k w = core_of k w.buffers w.denied w.peak w.kept w.spent

pub choice_up : (k : CoreView) (w : Own) (o : Pending) → IsChoice k o → IsChoice (core_with k w) o
choice_up k w o (from_slots u q) = from_slots u (record { within = q.within; waits = q.waits; room = q.room; best = q.best })
choice_up k w o (from_entries none can) = from_entries none (record { some = can.some; room = can.room })

pub no_choice_up : (k : CoreView) (w : Own) → NoChoice k → NoChoice (core_with k w)
no_choice_up k w n =
    record {
      unpicked = n.unpicked;
      unentered = λ can. n.unentered (record { some = can.some; room = can.room });
    }

pub idle_up : (k : CoreView) (w : Own) → IsIdle k → IsIdle (core_with k w)
idle_up k w i = record { waits = i.waits; entries = i.entries; outs = i.outs }

pub idle_down : (k : CoreView) (w : Own) → IsIdle (core_with k w) → IsIdle k
idle_down k w i = record { waits = i.waits; entries = i.entries; outs = i.outs }

pub out_up : (k : CoreView) (w : Own) (ticket : ℕ) (before : List Pending) (o : Pending) (later : List Pending) → IsOut k ticket before o later → IsOut (core_with k w) ticket before o later
out_up k w ticket before o later i = record { place = i.place; named = i.named }

pub out_down : (k : CoreView) (w : Own) (ticket : ℕ) (before : List Pending) (o : Pending) (later : List Pending) → IsOut (core_with k w) ticket before o later → IsOut k ticket before o later
out_down k w ticket before o later i = record { place = i.place; named = i.named }

pub some_up : (k : CoreView) (w : Own) (ticket : ℕ) → SomeIsOut k ticket → SomeIsOut (core_with k w) ticket
some_up k w ticket x = (x.0, x.1, x.2, out_up k w ticket x.0 x.1 x.2 x.3)
