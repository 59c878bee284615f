use Rattle.std.proofs.lemmas.Result.{err_from_is_err_and}
use Rattle.std.proofs.Common.{◌≡◌, sym, ap, ◌∙◌}
use Rattle.wg_machine.specs.Agreement.{now_of}
use Rattle.wg_machine.specs.declared.bodies.Halt.TheVariants as halt
use Rattle.wg_code.specs.Lane.{Around}
use Rattle.wg_registers.specs.Given.{around_of}
use Rattle.wg_operations.specs.declared.end.End.{End}
use Rattle.wg_lane.proofs.Frames.{around_there, same_halt, lane_makes, lane_spends, stays_silent, reads_same}
use Rattle.wg_lane.proofs.lane.run_lane.Goals as goal

pub returns-in_err-run_opened-clause-spends : goal.returns-in_err-run_opened-clause-spends
returns-in_err-run_opened-clause-spends g c = λ e.
    let code = c.args.code.now in
    let frame = c.args.frame in
    let fits = c.requires.fits in
    let p = err_from_is_err_and c.from_residual-in_err-run_opened.result c.from_residual-in_err-run_opened.ensures.1 in
    let is : c.in_err-run_opened.field-0.0 ≡ halt.Turns = sym p.2 ∙ same_halt p.0 halt.Turns (sym p.1 ∙ e) in
    let is_around = around_there code c.raw.result.now c.raw.ensures.same c.args.body.now frame fits (around_of c.around_frame-around.result) c.around_frame-around.ensures in
    lane_spends code c.args.body.now frame c.args.turns fits.unit fits.node fits.is_unit fits.is_node (around_of c.around_frame-around.result) is_around c.as_slice.result.now c.as_slice.ensures c.in_ok-opened.opened c.in_ok-opened.ensures
    (λ b. c.bodies_go_through.ensures.same code c.args.body.now frame b c.args.turns c.raw.ensures.valid c.requires.good fits) (g.M.Memory.trace c.args.mem.now) (g.M.Memory.trace c.run_opened.new.mem)
    c.in_err-run_opened.field-0.0 c.run_opened.new.opened.registers.items c.run_opened.new.opened.outside is c.in_err-run_opened.ensures.says

pub returns-in_err-run_opened-clause-silent_when_spent : goal.returns-in_err-run_opened-clause-silent_when_spent
returns-in_err-run_opened-clause-silent_when_spent g c = λ q e.
    let code = c.args.code.now in
    let frame = c.args.frame in
    let fits = c.requires.fits in
    let p = err_from_is_err_and c.from_residual-in_err-run_opened.result c.from_residual-in_err-run_opened.ensures.1 in
    let is : c.in_err-run_opened.field-0.0 ≡ halt.Turns = sym p.2 ∙ same_halt p.0 halt.Turns (sym p.1 ∙ e) in
    let functions = ap (λ (a : Around). a.functions) (around_there code c.raw.result.now c.raw.ensures.same c.args.body.now frame fits (around_of c.around_frame-around.result) c.around_frame-around.ensures) in
    stays_silent End c.in_err-run_opened.field-0.0 (g.M.Memory.trace c.args.mem.now) (g.M.Memory.trace c.run_opened.new.mem) is
    (c.in_err-run_opened.ensures.silent (reads_same code.functions c.around_frame-around.result.functions.now c.as_slice.result.now c.args.body.now functions c.as_slice.ensures q))

pub returns-clause-makes : goal.returns-clause-makes
returns-clause-makes g c =
    let code = c.args.code.now in
    let frame = c.args.frame in
    let fits = c.requires.fits in
    let is_around = around_there code c.raw.result.now c.raw.ensures.same c.args.body.now frame fits (around_of c.around_frame-around.result) c.around_frame-around.ensures in
    lane_makes code c.args.body.now frame c.args.turns fits.unit fits.node fits.is_unit fits.is_node (around_of c.around_frame-around.result) is_around c.as_slice.result.now c.as_slice.ensures c.in_ok-opened.opened c.in_ok-opened.ensures
    (λ b. c.bodies_go_through.ensures.same code c.args.body.now frame b c.args.turns c.raw.ensures.valid c.requires.good fits) (g.M.Memory.trace c.args.mem.now) (g.M.Memory.trace c.run_opened.new.mem)
    c.in_ok-run_opened.field-0 c.run_opened.new.opened.registers.items c.run_opened.new.opened.outside c.run_opened.new.opened.shell c.in_ok-close.field-0 c.in_ok-run_opened.ensures.says c.in_ok-run_opened.ensures.shell c.in_ok-close.ensures

pub returns-clause-fits : goal.returns-clause-fits
returns-clause-fits g c = λ other others.
    let code = c.args.code.now in
    let start = (g.M.Memory.trace c.run_opened.new.mem).over in
    c.bodies_go_through.ensures.fits code c.args.body.now c.args.frame (now_of (g.M.Memory.trace c.args.mem.now) start) c.args.turns c.in_ok-close.field-0 (now_of (g.M.Memory.trace c.run_opened.new.mem) start) other c.raw.ensures.valid c.requires.good c.requires.fits
    (returns-clause-makes g c start (g.met.M.Memory.fits c.run_opened.new.mem)) others

pub returns-clause-silent : goal.returns-clause-silent
returns-clause-silent g c = λ q.
    let code = c.args.code.now in
    let frame = c.args.frame in
    let fits = c.requires.fits in
    let functions = ap (λ (a : Around). a.functions) (around_there code c.raw.result.now c.raw.ensures.same c.args.body.now frame fits (around_of c.around_frame-around.result) c.around_frame-around.ensures) in
    c.in_ok-run_opened.ensures.silent (reads_same code.functions c.around_frame-around.result.functions.now c.as_slice.result.now c.args.body.now functions c.as_slice.ensures q)
