use Rattle.std.proofs.Common.{◌↔◌, false, subst, arith}
use Rattle.std.specs.Prelude.{IsTrue}
use Rattle.wg_standing.specs.Idle.{IsIdle}
use Rattle.wg_store.specs.Keep.{Kept, view_of}
use Rattle.wg_kept.specs.Inside.{kept_of}
use Rattle.wg_kept.proofs.Idling.{all_gone, entries_idle, no_outs, slots_not_idle}
use Rattle.wg_kept.proofs.keep.KeepKeeping.is_idle.Goals as goal

pub returns-then-not-is_empty : goal.returns-then-not-is_empty
returns-then-not-is_empty c =
    let s = c.self.inside in
    let k : Kept = kept_of s.store s.width s.limits s.journal.items s.next s.outs s.tickets in
    subst (λ (n : Kept). IsTrue false ↔ IsIdle (view_of n)) c.self.view_is (slots_not_idle k c.is_empty.result c.self.invariant.kept c.keeps_laws.ensures.left c.is_empty.ensures c.if-not-is_empty.true)

pub returns : goal.returns
returns c =
    let s = c.self.inside in
    let k : Kept = kept_of s.store s.width s.limits s.journal.items s.next s.outs s.tickets in
    let long = c.len.ensures in
    let none = c.if-len-gt0.false in
    subst (λ (n : Kept). IsTrue c.is_none.result ↔ IsIdle (view_of n)) c.self.view_is
    (entries_idle c.groups_are_counted.ensures k c.first_unit.result c.is_none.result c.self.invariant.kept (no_outs s.outs (omega (arith, long, none))) (all_gone c.is_empty.result k.slots c.is_empty.ensures c.if-not-is_empty.false) c.is_none.ensures c.first_unit.ensures)
