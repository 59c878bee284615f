use Rattle.wg_lex.proofs.CutTexts.{keeps_ascii, keeps_hash, keeps_stray}
use Rattle.wg_lex.proofs.law.what_cut_texts_keep.Goals as goal

pub returns-clause-ascii : goal.returns-clause-ascii
returns-clause-ascii c = keeps_ascii

pub returns-clause-hash : goal.returns-clause-hash
returns-clause-hash c = keeps_hash

pub returns-clause-stray : goal.returns-clause-stray
returns-clause-stray c = keeps_stray
