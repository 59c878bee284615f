use Rattle.wg_walk.proofs.Arms.{chain_gives}
use Rattle.wg_walk.proofs.walk.+walk.Goals as goal

pub part-returns-in_ok-series-in-Chain : goal.part-returns-in_ok-series-in-Chain
part-returns-in_ok-series-in-Chain t c =
    chain_gives c.args.c.now c.args.e.now c.in-Chain.first c.get-in-Chain.result.now c.in-Chain.rest c.in_ok-first-in-Chain.first c.begun-series.result c.in_ok-series-in-Chain.series c.ended.result c.args.notes.now.list _ c.links.new.notes.list
    c.in-Chain.is c.get-in-Chain.ensures c.in_ok-first-in-Chain.ensures c.begun-series.ensures c.in_ok-series-in-Chain.ensures c.ended.ensures
