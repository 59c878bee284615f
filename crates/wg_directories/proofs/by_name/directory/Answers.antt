use Rattle.std.proofs.Common.{arith}
use Rattle.wg_directories.proofs.Listing.{no_tables, more_tables, all_tables}
use Rattle.wg_directories.proofs.by_name.directory.Goals as goal

pub loop-index-init : goal.loop-index-init
loop-index-init c = no_tables c.args.nodes.now _ c.new-directory.ensures

pub loop-index-preserved : goal.loop-index-preserved
loop-index-preserved c = more_tables c.args.nodes.now c.loop-index.index c.loop-index.directory c.push.new.self c.in_ok-names.names c.loop-index.invariant c.in_ok-names.ensures c.in_ok-push.ensures.ok

pub returns : goal.returns
returns c = all_tables c.args.nodes.now c.loop-index.index c.loop-index.directory (omega arith) c.requires.few c.loop-index.invariant
