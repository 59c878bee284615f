use Rattle.std.proofs.Common.{◌∙◌, sym}
use Rattle.wg_text.specs.Cut.{separates}
use Rattle.wg_text.proofs.PieceLemmas.{next_piece, last_piece}
use Rattle.wg_text.proofs.pieces.Pieces.next.Goals as goal

pub returns-in_default : goal.returns-in_default
returns-in_default c = sym c.self.view_is ∙ last_piece (separates c.self.inside.at) c.self.inside.ended c.self.inside.rest.now c.if-self.false c.in_default.ensures

pub returns : goal.returns
returns c = sym c.self.view_is ∙ next_piece (separates c.self.inside.at) c.self.inside.ended c.self.inside.rest.now c.in-Some.piece.now c.in-Some.rest.now c.if-self.false c.in-Some.ensures
