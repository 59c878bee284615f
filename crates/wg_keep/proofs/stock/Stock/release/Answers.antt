use Rattle.std.proofs.Common.{◌∙◌, ◌-◌, ap, refl, sym, arith}
use Rattle.wg_keep.specs.declared.stock.Stock.{Stock}
use Rattle.wg_keep.proofs.Stocks.{changed_stock, others_of, release_changes, stride_within}
use Rattle.wg_keep.proofs.stock.Stock.release.Goals as goal

pub overflow_sub-self : goal.overflow_sub-self
overflow_sub-self c =
    let s = c.args.self.now in
    let used = c.requires.sound.used c.args.unit c.requires.unit in
    let less = c.release.ensures.releases.used in
    let k = stride_within s c.args.unit _ c.requires.sound c.requires.unit (used ∙ sym less) in
    let stride = c.stride.ensures in
    let from = c.from.ensures in
    omega (arith, k, stride, from)

pub returns-clause-sound : goal.returns-clause-sound
returns-clause-sound c =
    let s = c.args.self.now in
    let t : Stock = record { shape = s.shape; slots = c.release.new.self; room = c.leave.new.self; picker = s.picker; bytes = s.bytes - c.from.result } in
    let d = release_changes s t c.args.unit c.args.slot c.requires.sound c.requires.unit c.release.ensures.releases c.release.ensures.others refl c.leave.ensures refl (ap (λ n. s.bytes - n) (c.from.ensures ∙ c.stride.ensures)) in
    changed_stock s t c.args.unit _ _ c.requires.sound c.requires.unit d

pub returns-clause-others : goal.returns-clause-others
returns-clause-others c =
    let s = c.args.self.now in
    let t : Stock = record { shape = s.shape; slots = c.release.new.self; room = c.leave.new.self; picker = s.picker; bytes = s.bytes - c.from.result } in
    let d = release_changes s t c.args.unit c.args.slot c.requires.sound c.requires.unit c.release.ensures.releases c.release.ensures.others refl c.leave.ensures refl (ap (λ n. s.bytes - n) (c.from.ensures ∙ c.stride.ensures)) in
    others_of s t c.args.unit _ _ d (changed_stock s t c.args.unit _ _ c.requires.sound c.requires.unit d)
