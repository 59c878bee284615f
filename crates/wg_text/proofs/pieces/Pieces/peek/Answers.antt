use Rattle.std.specs.Option.{option_map}
use Rattle.std.proofs.Common.{◌≡◌, ◌∙◌, List, ℕ, Option, Some, None, slice_get, sym, ap}
use Rattle.wg_text.specs.Cut.{separates}
use Rattle.wg_text.proofs.PieceLemmas.{peek_piece, peek_last}
use Rattle.wg_text.proofs.pieces.Pieces.peek.Goals as goal

pub returns-in-Some : goal.returns-in-Some
returns-in-Some c =
    peek_piece (separates c.self.inside.at) c.self.inside.ended c.self.inside.rest.now c.in-Some.piece.now c.in-Some.field-0-1.now c.if-self.false c.in-Some.ensures
    ∙ ap (λ (l : List (List ℕ)). slice_get l 0) c.self.view_is

pub returns-in-None : goal.returns-in-None
returns-in-None c =
    peek_last (separates c.self.inside.at) c.self.inside.ended c.self.inside.rest.now c.if-self.false c.in-None.ensures
    ∙ ap (λ (l : List (List ℕ)). slice_get l 0) c.self.view_is
