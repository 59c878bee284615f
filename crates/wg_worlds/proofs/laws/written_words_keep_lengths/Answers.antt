use Rattle.wg_worlds.specs.Lists.{lengths_written}
use Rattle.wg_worlds.proofs.laws.written_words_keep_lengths.Goals as goal

pub returns : goal.returns
returns c = lengths_written
