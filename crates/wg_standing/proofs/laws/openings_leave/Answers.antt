use Rattle.std.proofs.Common.{[], ◌∷◌}
use Rattle.wg_standing.proofs.Commute.{unopened_append}
use Rattle.wg_standing.proofs.laws.openings_leave.Goals as goal

pub returns : goal.returns
returns c = λ outs o bag. unopened_append outs (o ∷ []) bag
