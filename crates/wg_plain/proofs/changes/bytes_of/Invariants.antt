use Rattle.std.proofs.Common.{◌≡◌, ◌*◌, ◌≤◌, take}
use Rattle.wg_plain.specs.Sizes.{bytes_of_bag}
use Rattle.wg_plain.proofs.changes.bytes_of.Given as goal

abbrev pub invariant-loop-live : goal.invariant-loop-live
invariant-loop-live l = record {
  bytes : l.bytes ≡ bytes_of_bag l.shape l.handed (take l.live-index l.bag);
  bound : l.bytes ≤ 8192 * l.live-index;
}
