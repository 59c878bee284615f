use Rattle.std.proofs.Common.{◌≡◌, ◌+◌, ◌*◌, ◌≤◌, ◌^◌, [], take}
use Rattle.wg_words.specs.declared.limits.TheConstants.{MOST_ENTRIES, MOST_SENT, MOST_STRIDE}
use Rattle.wg_machine.specs.State.{State}
use Rattle.wg_replay.specs.Lines.{terms}
use Rattle.wg_verify.specs.Launches.{Leads}
use Rattle.wg_verify.proofs.launches.replay_lines.Given as goal

abbrev pub invariant-loop-place : goal.invariant-loop-place
invariant-loop-place g l = record {
  leads : (first : State) → Leads (terms (g.B.Bodies.graph l.bodies) (g.B.Bodies.made l.bodies) l.limits l.initial.replay.records.handed l.bytes) first [] l.initial.replay
      → Leads (terms (g.B.Bodies.graph l.bodies) (g.B.Bodies.made l.bodies) l.limits l.initial.replay.records.handed l.bytes) first (take l.place l.entries) l.replay;
  handed : l.replay.records.handed ≡ l.initial.replay.records.handed;
  small : l.replay.records.bytes ≤ MOST_STRIDE * l.replay.records.next;
  next : l.replay.records.next ≤ MOST_ENTRIES + MOST_SENT * l.place;
  denied : l.replay.denied ≤ 2 ^ 32 * l.place;
  few : l.place ≤ l.limits.launches;
}
