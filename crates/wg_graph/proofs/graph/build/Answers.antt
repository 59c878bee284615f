use Rattle.wg_graph.proofs.Fits.{buildable}
use Rattle.wg_graph.proofs.graph.build.Goals as goal

pub returns-clause-good : goal.returns-clause-good
returns-clause-good c =
    c.shapes_are_good.ensures.good c.args.typed.now c.args.attrs.now c.in_ok-shape.shape c.requires.good
    (buildable c.args.typed.now c.args.attrs.now (λ number s e. c.structs_take_what_their_fields_take.ensures.takes c.args.typed.now.structs number s c.requires.order e) c.in_ok-known.ensures.known.kept)
    c.in_ok-shape.ensures
