use Rattle.std.proofs.Common.{subst, List}
use Rattle.wg_machine.specs.declared.launch.Live.{Live}
use Rattle.wg_records.specs.Bags.{Keeps}
use Rattle.wg_records.proofs.Loops.{empty_from, empty_to, length_none}
use Rattle.wg_records.proofs.live.LiveRecords.is_empty.Goals as goal

pub returns : goal.returns
returns c = λ shape bag keeps. (
  λ t. empty_from shape c.args.self.now bag keeps (length_none c.args.self.now.slots.entries (c.is_empty.ensures.0 t)),
  λ e. c.is_empty.ensures.1 (empty_to shape c.args.self.now (subst (λ (b : List Live). Keeps shape c.args.self.now b) e keeps)),
)
