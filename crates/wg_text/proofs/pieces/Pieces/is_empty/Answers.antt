use Rattle.wg_text.specs.Cut.{separates}
use Rattle.wg_text.proofs.PieceLemmas.{left_none}
use Rattle.wg_text.proofs.pieces.Pieces.is_empty.Goals as goal

pub returns : goal.returns
returns c = rw (← c.self.view_is) (left_none (separates c.self.inside.at) c.self.inside.ended c.self.inside.rest.now)
