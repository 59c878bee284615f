use Rattle.wg_exchangers.proofs.Changing.{form_changes}
use Rattle.wg_exchangers.proofs.work.exchange.Goals as goal

pub returns : goal.returns
returns g c =
    form_changes c.args.form.now (g.M.Memory.trace c.args.mem.now) (g.M.Memory.trace c.interlocked.new.self) (g.M.Memory.trace c.load.new.self) (g.M.Memory.trace c.store.new.self) (g.M.Memory.trace c.store-2.new.self) c.in_ok-found.found c.in_ok-left.left
    c.in_ok-found.ensures.changes c.in_ok-found.ensures.exchanged
    c.in_ok-left.ensures.logs c.in_ok-left.ensures.value
    c.in_ok-store.ensures.writes c.in_ok-store.ensures.written
    c.in_ok-store-2.ensures.writes c.in_ok-store-2.ensures.written
