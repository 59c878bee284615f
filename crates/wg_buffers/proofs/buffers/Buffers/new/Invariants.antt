use Rattle.std.proofs.Common.{◌≡◌, ◌++◌, drop}
use Rattle.wg_buffers.specs.Start.{started}
use Rattle.wg_buffers.proofs.buffers.Buffers.new.Given as goal

-- the buffers so far, with those of the rest
abbrev pub invariant-loop-place : goal.invariant-loop-place
invariant-loop-place l =
    l.buffers.items ++ started (drop l.place l.lengths) (drop l.place l.start) ≡ started l.lengths l.start
