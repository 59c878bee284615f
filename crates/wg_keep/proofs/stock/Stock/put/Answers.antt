use Rattle.std.proofs.Common.{◌∙◌, ◌+◌, ap, refl, arith}
use Rattle.wg_keep.specs.declared.stock.Stock.{Stock}
use Rattle.wg_keep.proofs.Stocks.{bytes_small, changed_stock, others_of, put_changes}
use Rattle.wg_keep.proofs.stock.Stock.put.Goals as goal

pub overflow_add-self : goal.overflow_add-self
overflow_add-self c =
    let s = c.args.self.now in
    let b = bytes_small s c.requires.sound (c.few_units.ensures s.shape c.requires.sound.good) (λ u. c.strides_are_small.ensures s.shape u c.requires.sound.good) in
    let small = c.strides_are_small.ensures s.shape c.args.unit c.requires.sound.good in
    let stride = c.stride.ensures in
    let from = c.from.ensures in
    omega (arith, b, small, stride, from)

pub returns-clause-sound : goal.returns-clause-sound
returns-clause-sound c =
    let s = c.args.self.now in
    let t : Stock = record { shape = s.shape; slots = c.put.new.self; room = c.arrive.new.self; picker = c.set.new.self; bytes = s.bytes + c.from.result } in
    let d = put_changes s t c.args.unit c.args.item c.requires.sound c.requires.unit c.requires.free c.put.ensures.puts c.put.ensures.others refl c.arrive.ensures c.set.ensures (ap (λ n. s.bytes + n) (c.from.ensures ∙ c.stride.ensures)) in
    changed_stock s t c.args.unit _ _ c.requires.sound c.requires.unit d

pub returns-clause-others : goal.returns-clause-others
returns-clause-others c =
    let s = c.args.self.now in
    let t : Stock = record { shape = s.shape; slots = c.put.new.self; room = c.arrive.new.self; picker = c.set.new.self; bytes = s.bytes + c.from.result } in
    let d = put_changes s t c.args.unit c.args.item c.requires.sound c.requires.unit c.requires.free c.put.ensures.puts c.put.ensures.others refl c.arrive.ensures c.set.ensures (ap (λ n. s.bytes + n) (c.from.ensures ∙ c.stride.ensures)) in
    others_of s t c.args.unit _ _ d (changed_stock s t c.args.unit _ _ c.requires.sound c.requires.unit d)
