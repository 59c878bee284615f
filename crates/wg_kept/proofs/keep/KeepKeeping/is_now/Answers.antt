use Rattle.std.proofs.Common.{◌≡◌, ◌↔◌, List, refl, sym, subst}
use Rattle.std.specs.Prelude.{IsTrue}
use Rattle.wg_standing.specs.declared.pending.Pending.{Pending}
use Rattle.wg_standing.specs.Idle.{IsOut, SomeIsOut}
use Rattle.wg_standing.specs.Outs.{launch_now}
use Rattle.wg_store.specs.Keep.{Kept, view_of}
use Rattle.wg_kept.specs.Inside.{kept_of, pendings}
use Rattle.wg_kept.proofs.Openings.{now_iff}
use Rattle.wg_kept.proofs.Pendings.{held_out, one_out, out_held}
use Rattle.wg_kept.proofs.Settlings.{told_out}
use Rattle.wg_kept.proofs.keep.KeepKeeping.is_now.Goals as goal

pub get-requires : goal.get-requires
get-requires c =
    let s = c.self.inside in
    let i = c.self.invariant in
    let k : Kept = kept_of s.store s.width s.limits s.journal.items s.next s.outs s.tickets in
    out_held (view_of k) s.outs c.args.ticket refl i.named (subst (λ (n : Kept). SomeIsOut (view_of n) c.args.ticket) (sym c.self.view_is) c.requires)

pub is_launch-requires-clause-there : goal.is_launch-requires-clause-there
is_launch-requires-clause-there c =
    let s = c.self.inside in
    let i = c.self.invariant in
    let k : Kept = kept_of s.store s.width s.limits s.journal.items s.next s.outs s.tickets in
    let v = c.get.result.now in
    let held = held_out (view_of k) s.outs c.args.ticket v refl i.named c.get.ensures in
    (told_out c.outs_fit.ensures c.allowed_are_told.ensures k (pendings c.get.ensures.before) v (pendings c.get.ensures.later) i.kept held.place).there

pub is_launch-requires-clause-some : goal.is_launch-requires-clause-some
is_launch-requires-clause-some c =
    let s = c.self.inside in
    let i = c.self.invariant in
    let k : Kept = kept_of s.store s.width s.limits s.journal.items s.next s.outs s.tickets in
    let v = c.get.result.now in
    let held = held_out (view_of k) s.outs c.args.ticket v refl i.named c.get.ensures in
    (told_out c.outs_fit.ensures c.allowed_are_told.ensures k (pendings c.get.ensures.before) v (pendings c.get.ensures.later) i.kept held.place).some

pub is_launch-requires-clause-group : goal.is_launch-requires-clause-group
is_launch-requires-clause-group c =
    let s = c.self.inside in
    let i = c.self.invariant in
    let k : Kept = kept_of s.store s.width s.limits s.journal.items s.next s.outs s.tickets in
    let v = c.get.result.now in
    let held = held_out (view_of k) s.outs c.args.ticket v refl i.named c.get.ensures in
    (told_out c.outs_fit.ensures c.allowed_are_told.ensures k (pendings c.get.ensures.before) v (pendings c.get.ensures.later) i.kept held.place).group

pub returns : goal.returns
returns c =
    let s = c.self.inside in
    let i = c.self.invariant in
    let k : Kept = kept_of s.store s.width s.limits s.journal.items s.next s.outs s.tickets in
    let v = c.get.result.now in
    let held = held_out (view_of k) s.outs c.args.ticket v refl i.named c.get.ensures in
    let told = told_out c.outs_fit.ensures c.allowed_are_told.ensures k (pendings c.get.ensures.before) v (pendings c.get.ensures.later) i.kept held.place in
    subst (λ (n : Kept). (before : List Pending) (o : Pending) (later : List Pending) → IsOut (view_of n) c.args.ticket before o later → IsTrue c.is_launch.result ↔ (c.args.launch.now ≡ launch_now n.shape (view_of n).bag o)) c.self.view_is
    (λ before o later out. now_iff k c.is_launch.result c.args.launch.now v o c.is_launch.ensures told.is (one_out (view_of k) c.args.ticket (pendings c.get.ensures.before) v (pendings c.get.ensures.later) before o later i.kept.placed.tickets_differ held out))
