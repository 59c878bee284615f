use Rattle.std.proofs.Common.{◌≡◌, ◌≤◌, ◌++◌, map, drop}
use Rattle.wg_typed.specs.Layout.{extents_of, types_of, end_after, ranges_after}
use Rattle.wg_layout.specs.Layouts.{range_of}
use Rattle.wg_layout.proofs.layouts.ranges.Given as goal

abbrev pub invariant-loop-field : goal.invariant-loop-field
invariant-loop-field l =
    (l.ranges ++ map range_of (ranges_after (extents_of l.structs) l.at (types_of (drop l.field-index l.field-items))) ≡ map range_of (ranges_after (extents_of l.structs) 0 (types_of l.fields)))
    × (end_after (extents_of l.structs) l.at (types_of (drop l.field-index l.field-items)) ≤ 8192)
