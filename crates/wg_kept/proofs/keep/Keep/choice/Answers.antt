use Rattle.std.proofs.Common.{◌∙◌, sym, subst}
use Rattle.wg_store.specs.Keep.{Kept, view_of}
use Rattle.wg_standing.specs.Choice.{NoChoice}
use Rattle.wg_engine.specs.Calls.{SomeChoice}
use Rattle.wg_kept.specs.Inside.{kept_of}
use Rattle.wg_kept.proofs.Takings.{best_choice, best_fits, entry_choice, first_below, no_entry_left, no_room_left, on_error}
use Rattle.wg_kept.proofs.keep.Keep.choice.Goals as goal

pub front-requires : goal.front-requires
front-requires c = record { some = best_fits c.in-Some.unit c.self.inside.store.hold.items c.in-Some.ensures.waits }

pub returns-in_err-pending-clause-wants : goal.returns-in_err-pending-clause-wants
returns-in_err-pending-clause-wants c =
    let s = c.self.inside in
    let k : Kept = kept_of s.store s.width s.limits s.journal.items s.next s.outs s.tickets in
    on_error c.from_residual.result (SomeChoice (view_of c.args.self.now)) (subst (λ (n : Kept). SomeChoice (view_of n)) c.self.view_is (best_choice c.bests_are_chosen.ensures k s.store.hold.room c.in-Some.unit c.self.invariant.kept c.self.invariant.room c.in-Some.ensures))

pub returns-in_default-first_unit-clause-none : goal.returns-in_default-first_unit-clause-none
returns-in_default-first_unit-clause-none c =
    let s = c.self.inside in
    let k : Kept = kept_of s.store s.width s.limits s.journal.items s.next s.outs s.tickets in
    subst (λ (n : Kept). NoChoice (view_of n)) c.self.view_is (no_entry_left c.else_nothing_is_chosen.ensures k s.store.hold.room c.self.invariant.kept c.self.invariant.room c.in_default.ensures (sym c.in_default-first_unit.is ∙ c.first_unit.ensures))

pub has_room-requires : goal.has_room-requires
has_room-requires c =
    let s = c.self.inside in
    let k : Kept = kept_of s.store s.width s.limits s.journal.items s.next s.outs s.tickets in
    first_below k c.in-Some-first_unit.unit c.self.invariant.kept (sym c.in-Some-first_unit.is ∙ c.first_unit.ensures)

pub returns-then-not-has_room-clause-none : goal.returns-then-not-has_room-clause-none
returns-then-not-has_room-clause-none c =
    let s = c.self.inside in
    let k : Kept = kept_of s.store s.width s.limits s.journal.items s.next s.outs s.tickets in
    subst (λ (n : Kept). NoChoice (view_of n)) c.self.view_is (no_room_left c.else_nothing_is_chosen.ensures k s.store.hold.room c.in-Some-first_unit.unit c.has_room.result c.self.invariant.kept c.self.invariant.room c.in_default.ensures (sym c.in-Some-first_unit.is ∙ c.first_unit.ensures) c.if-not-has_room.true c.has_room.ensures)

pub returns-in_err-pending-2-clause-wants : goal.returns-in_err-pending-2-clause-wants
returns-in_err-pending-2-clause-wants c =
    let s = c.self.inside in
    let k : Kept = kept_of s.store s.width s.limits s.journal.items s.next s.outs s.tickets in
    on_error c.from_residual-in_err-pending-2.result (SomeChoice (view_of c.args.self.now)) (subst (λ (n : Kept). SomeChoice (view_of n)) c.self.view_is (entry_choice c.entries_are_chosen.ensures k s.store.hold.room c.in-Some-first_unit.unit c.self.invariant.kept c.self.invariant.room c.in_default.ensures (sym c.in-Some-first_unit.is ∙ c.first_unit.ensures) (c.has_room.ensures.0 c.if-not-has_room.false)))
