use Rattle.wg_directories.proofs.Listing.{HasTables}
use Rattle.wg_directories.proofs.by_name.directory.Given as goal

abbrev pub invariant-loop-index : goal.invariant-loop-index
invariant-loop-index l = HasTables l.nodes l.index l.directory
