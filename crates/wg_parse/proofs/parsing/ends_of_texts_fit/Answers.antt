use Rattle.wg_parse.proofs.TextEnds.{end_fits}
use Rattle.wg_parse.proofs.parsing.ends_of_texts_fit.Goals as goal

pub returns : goal.returns
returns c = end_fits
