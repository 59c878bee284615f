use Rattle.wg_keep.proofs.Stocks.{changed_stock, others_of, write_changes}
use Rattle.wg_keep.proofs.stock.Stock.rewrite.Goals as goal

pub returns-clause-sound : goal.returns-clause-sound
returns-clause-sound c =
    let s = c.args.self.now in
    let d = write_changes s c.write.new.self c.args.unit c.args.slot c.args.words.now c.requires.sound c.requires.unit c.write.ensures.writes c.write.ensures.others c.write.ensures.same in
    changed_stock s c.write.new.self c.args.unit _ _ c.requires.sound c.requires.unit d

pub returns-clause-others : goal.returns-clause-others
returns-clause-others c =
    let s = c.args.self.now in
    let d = write_changes s c.write.new.self c.args.unit c.args.slot c.args.words.now c.requires.sound c.requires.unit c.write.ensures.writes c.write.ensures.others c.write.ensures.same in
    others_of s c.write.new.self c.args.unit _ _ d (changed_stock s c.write.new.self c.args.unit _ _ c.requires.sound c.requires.unit d)
