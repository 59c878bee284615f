use Rattle.std.proofs.Common.{◌<◌, length, ap, refl, arith}
use Rattle.wg_need.proofs.Blocks.{count_rows, row_is}
use Rattle.wg_need.proofs.table.Needs.row.Goals as goal

pub row_of-requires-clause-row : goal.row_of-requires-clause-row
row_of-requires-clause-row c =
    omega (
      arith,
      c.requires,
      ap length c.self.view_is,
      count_rows 0 c.self.inside.ends.items c.self.inside.needs.items,
      ap length c.as_slice.ensures.value,
    )

pub row_of-requires-clause-ends : goal.row_of-requires-clause-ends
row_of-requires-clause-ends c = rw (c.as_slice.ensures.value, c.as_slice-2.ensures.value) c.self.invariant

pub returns : goal.returns
returns c =
    let within : c.args.unit < length c.self.inside.ends.items =
    omega (
      arith,
      c.requires,
      ap length c.self.view_is,
      count_rows 0 c.self.inside.ends.items c.self.inside.needs.items,
    )
    in
    rw (← c.self.view_is, row_is 0 c.self.inside.ends.items c.self.inside.needs.items c.args.unit within, c.row_of.ensures, c.as_slice.ensures.value, c.as_slice-2.ensures.value) refl
