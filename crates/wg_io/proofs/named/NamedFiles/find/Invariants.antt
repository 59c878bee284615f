use Rattle.std.proofs.Common.{◌≡◌, drop}
use Rattle.wg_io.specs.Named.{bytes_under, pairs_of}
use Rattle.wg_io.proofs.named.NamedFiles.find.Given as goal

-- what is left has the answer
abbrev pub invariant-loop-file : goal.invariant-loop-file
invariant-loop-file l = bytes_under (pairs_of (drop l.file-index l.file-items)) l.name ≡ bytes_under (pairs_of l.file-items) l.name
