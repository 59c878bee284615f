use Rattle.wg_engine.proofs.Stands.{stands_opened}
use Rattle.wg_engine.proofs.engine.Core.open.Goals as goal

pub returns-clause-stands : goal.returns-clause-stands
returns-clause-stands g c = λ made script start h. stands_opened c.openings_stand.ensures made script start _ _ c.opened.result c.keeps_laws.ensures.good c.opened.ensures h
