use Rattle.std.proofs.Common.{arith, sym, ap}
use Rattle.wg_typed.specs.Layout.{words_of}
use Rattle.wg_layout.proofs.Ranges.{fields_end}
use Rattle.wg_layout.proofs.layouts.fields.Goals as goal

-- src/layouts.rt:49:21
pub ranges-requires-clause-within : goal.ranges-requires-clause-within
ranges-requires-clause-within c =
    let e = fields_end c.args.structs.now c.in-Struct.number c.in-Some.of.now c.requires.order (sym c.in-Some.ensures.value) in
    let same = ap (words_of c.args.structs.now) c.in-Struct.is in
    omega (arith, e, same, c.requires.within)
