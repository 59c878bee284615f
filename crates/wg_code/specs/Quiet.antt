-- Which code is quiet: it never reads a shared buffer.
use Rattle.std.specs.Prelude.{Bool, true, false, ◌&&◌, List, map}
use Rattle.std.specs.List.{list_all}
use Rattle.wg_code.specs.declared.code.Function.{Function}
use Rattle.wg_code.specs.declared.code.NodeCode.{NodeCode}
use Rattle.wg_code.specs.declared.code.Part.{Part, fold-Part}
use Rattle.wg_code.specs.declared.code.Part.TheOpen.{Part-F}
use Rattle.wg_code.specs.declared.code.RawCode.{RawCode}
use Rattle.wg_code.specs.declared.op.Op.{Op, fold-Op}
use Rattle.wg_code.specs.declared.op.Op.TheOpen.{Op-F}

abbrev pub all_true : List Bool → Bool
all_true tests = list_all (λ b. b) tests

abbrev pub quiet_step : Op-F Bool → Bool
quiet_step (Op-F.BufferGet d buffer word) = false
quiet_step (Op-F.BufferAtomic op d buffer word compare value) = false
quiet_step (Op-F.If a first second) = all_true first && all_true second
quiet_step (Op-F.Loop test a body step) = all_true test && (all_true body && all_true step)
quiet_step _ = true

abbrev pub are_quiet : List Op → Bool
are_quiet ops = all_true (map (fold-Op Bool quiet_step) ops)

abbrev pub part_quiet : Part-F Bool → Bool
part_quiet (Part-F.Lanes body) = are_quiet body
part_quiet (Part-F.First body) = are_quiet body
part_quiet (Part-F.Choose a first second) = all_true first && all_true second

abbrev pub parts_quiet : List Part → Bool
parts_quiet parts = all_true (map (fold-Part Bool part_quiet) parts)

abbrev pub is_quiet : RawCode → Bool
is_quiet code =
    list_all (λ (f : Function). are_quiet f.body) code.functions && list_all (λ (n : NodeCode). parts_quiet n.parts) code.nodes
