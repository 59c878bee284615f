use Rattle.std.proofs.Common.{◌≡◌, ◌++◌, drop, map}
use Rattle.wg_typing.specs.Layers.{map_link}
use Rattle.wg_typing.specs.TypingExpr.{part_of, values_sites, links_sites}
use Rattle.wg_notes.specs.Notes.{noted}
use Rattle.wg_series.specs.Series.{series}
use Rattle.wg_walk.specs.Walk.{all_seen, links_seen}
use Rattle.wg_walk.proofs.walk.+walk.Given as goal

abbrev pub invariant-operands-loop-e : goal.invariant-operands-loop-e
invariant-operands-loop-e l =
    (l.parts ++ map part_of (all_seen l.c (drop l.e-index l.e-items)) ≡ map part_of (all_seen l.c l.e-items))
    × (noted (values_sites l.c.around (all_seen l.c (drop l.e-index l.e-items))) l.notes.list ≡ noted (values_sites l.c.around (all_seen l.c l.e-items)) l.initial.notes.list)

abbrev pub invariant-links-loop-link : goal.invariant-links-loop-link
invariant-links-loop-link l =
    (series l.series (map (map_link part_of) (links_seen l.c (drop l.link-index l.link-items))) ≡ series l.fn.first (map (map_link part_of) (links_seen l.c l.link-items)))
    × (noted (links_sites l.c.around l.series.place l.series.chained.of (links_seen l.c (drop l.link-index l.link-items))) l.notes.list ≡ noted (links_sites l.c.around l.fn.first.place l.fn.first.chained.of (links_seen l.c l.link-items)) l.initial.notes.list)
