use Rattle.wg_keep.proofs.Stocks.{pick_is}
use Rattle.wg_keep.proofs.stock.Stock.pick.Goals as goal

pub returns-clause-some : goal.returns-clause-some
returns-clause-some c = pick_is c.args.self.now c.first_fit.result c.requires c.first_fit.ensures.waits c.first_fit.ensures.room c.first_fit.ensures.first
