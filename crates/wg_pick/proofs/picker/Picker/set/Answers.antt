use Rattle.std.proofs.Common.{◌<◌, List, Bool, length, ap, arith}
use Rattle.std.proofs.lemmas.List.{length-map}
use Rattle.wg_pick.specs.Order.{Waiting}
use Rattle.wg_pick.specs.Row.{is_flagged}
use Rattle.wg_pick.proofs.Rows.{set_row, set_waits, own_flag}
use Rattle.wg_pick.proofs.picker.Picker.set.Goals as goal

pub invariant_of-self : goal.invariant_of-self
invariant_of-self c =
    let s = c.self.inside in
    let known = rw (← c.self.view_is) at c.requires in
    let within : c.args.unit < length s.places.items = omega (arith, known, length-map s.places.items (is_flagged s.flags.items)) in
    let is = own_flag s.places.items s.flags.items c.set_flag.new.flags.items c.args.unit c.index-place.result.now c.args.waits within c.index-place.ensures c.set_flag.ensures in
    set_row s.depths.items s.order.items s.places.items s.flags.items c.set_flag.new.flags.items c.args.unit c.args.waits c.self.invariant within is

pub returns : goal.returns
returns c =
    let s = c.self.inside in
    let known = rw (← c.self.view_is) at c.requires in
    let within : c.args.unit < length s.places.items = omega (arith, known, length-map s.places.items (is_flagged s.flags.items)) in
    let is = own_flag s.places.items s.flags.items c.set_flag.new.flags.items c.args.unit c.index-place.result.now c.args.waits within c.index-place.ensures c.set_flag.ensures in
    let waits = set_waits s.depths.items s.order.items s.places.items s.flags.items c.set_flag.new.flags.items c.args.unit c.args.waits c.self.invariant within is in
    let whole : List Bool → Waiting = λ ws. record { depths = s.depths.items; waits = ws } in
    rw (← c.self.view_is) (ap whole waits)
