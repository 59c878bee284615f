use Rattle.std.proofs.Common.{◌≡◌, ◌+◌, ◌*◌, ◌≤◌, ◌^◌, List, length, take}
use Rattle.wg_machine.specs.Bytes.{peak}
use Rattle.wg_machine.specs.Run.{IsRun, denied_of}
use Rattle.wg_machine.specs.State.{start}
use Rattle.wg_machine.specs.Step.{Passed}
use Rattle.wg_plain.specs.Stepped.{IsSound, state_of}
use Rattle.wg_plain.proofs.replays.replay.Given as goal

abbrev pub invariant-loop-i : goal.invariant-loop-i
invariant-loop-i g l = record {
  trail : List Passed;
  run : IsRun (g.B.Bodies.graph l.bodies) (g.B.Bodies.made l.bodies) l.turns (start (g.B.Bodies.graph l.bodies) l.script l.buffers) (take l.i l.entries) trail (state_of l.rest);
  denied : l.rest.denied ≡ denied_of trail;
  peak_is : l.rest.peak ≡ peak (g.B.Bodies.graph l.bodies) (length l.script) (start (g.B.Bodies.graph l.bodies) l.script l.buffers) trail;
  sound : IsSound (g.B.Bodies.graph l.bodies) l.rest;
  next_few : l.rest.next ≤ 2 ^ 32 + 16384 * l.i;
  denied_few : l.rest.denied ≤ 2 ^ 32 * l.i;
}
