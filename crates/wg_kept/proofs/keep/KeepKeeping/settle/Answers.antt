use Rattle.std.proofs.Common.{◌≡◌, ◌∙◌, ◌+◌, ◌++◌, ◌∷◌, List, ℕ, [], refl, ap, sym, subst, arith, length}
use Rattle.std.specs.Prelude.{vec_capacity}
use Rattle.wg_machine.specs.declared.launch.Entry.{Entry}
use Rattle.wg_machine.specs.LaunchMeaning.{outcome_of}
use Rattle.wg_store.specs.Keep.{Kept, view_of}
use Rattle.wg_engine.specs.Calls.{CanMake, MakesStep}
use Rattle.wg_kept.specs.Inside.{AreNamed, IsSoundKeep, kept_of, pendings}
use Rattle.wg_kept.specs.Moves.{CanSettle, SettlesTo, line_of}
use Rattle.wg_kept.proofs.Pendings.{held_out, named_without, out_held, pendings_join}
use Rattle.wg_kept.proofs.Settlings.{AreBounds, can_settle, next_fits}
use Rattle.wg_kept.proofs.Steps.{kept_with, laws_out, sound_settled, step_made}
use Rattle.wg_kept.proofs.keep.KeepKeeping.settle.Goals as goal

pub remove-pending-requires : goal.remove-pending-requires
remove-pending-requires c =
    let s = c.self.inside in
    let k : Kept = kept_of s.store s.width s.limits s.journal.items s.next s.outs s.tickets in
    let can = subst (λ (n : Kept). CanMake (view_of n) c.args.ticket c.args.made) (sym c.self.view_is) c.requires in
    out_held (view_of k) s.outs c.args.ticket refl c.self.invariant.named (can.before, can.pending, can.later, can.out)

pub overflow_cast-outs : goal.overflow_cast-outs
overflow_cast-outs c =
    let s = c.self.inside in
    let i = c.self.invariant in
    let k : Kept = kept_of s.store s.width s.limits s.journal.items s.next s.outs s.tickets in
    let can = subst (λ (n : Kept). CanMake (view_of n) c.args.ticket c.args.made) (sym c.self.view_is) c.requires in
    let t = c.remove-pending.ensures in
    let o = c.remove-pending.result in
    let out = held_out (view_of k) s.outs c.args.ticket o refl i.named (record { before = t.before; later = t.later; place = t.was }) in
    let laws = laws_out k c.args.ticket c.args.made (pendings t.before) o (pendings t.later) i.kept can out in
    let b : AreBounds k = record { few = i.few; next = i.next } in
    let few = (next_fits c.outs_fit.ensures c.few_are_sent.ensures k (pendings t.before) o (pendings t.later) (outcome_of c.args.made []) i.kept b out.place laws).1 in
    let long = c.len-outs.ensures in
    omega (arith, few, long)

pub settle-requires : goal.settle-requires
settle-requires c =
    let s = c.self.inside in
    let i = c.self.invariant in
    let k : Kept = kept_of s.store s.width s.limits s.journal.items s.next s.outs s.tickets in
    let can = subst (λ (n : Kept). CanMake (view_of n) c.args.ticket c.args.made) (sym c.self.view_is) c.requires in
    let t = c.remove-pending.ensures in
    let o = c.remove-pending.result in
    let out = held_out (view_of k) s.outs c.args.ticket o refl i.named (record { before = t.before; later = t.later; place = t.was }) in
    let laws = laws_out k c.args.ticket c.args.made (pendings t.before) o (pendings t.later) i.kept can out in
    let b : AreBounds k = record { few = i.few; next = i.next } in
    subst (λ (ns : List ℕ). CanSettle s.store o.unit ns c.args.made.shared s.next c.args.made.sent) (sym c.as_slice.ensures)
    (can_settle c.outs_fit.ensures c.allowed_are_told.ensures c.groups_are_counted.ensures c.needs_are_kept.ensures c.few_are_sent.ensures c.only_units_are_needed.ensures c.settlings_keep.ensures k s.store.hold.room (pendings t.before) o (pendings t.later) (outcome_of c.args.made []) i.kept i.room b c.keeps_laws.ensures.left out.place laws)

pub invariant_of-self : goal.invariant_of-self
invariant_of-self c =
    let s = c.self.inside in
    let i = c.self.invariant in
    let k : Kept = kept_of s.store s.width s.limits s.journal.items s.next s.outs s.tickets in
    let can = subst (λ (n : Kept). CanMake (view_of n) c.args.ticket c.args.made) (sym c.self.view_is) c.requires in
    let t = c.remove-pending.ensures in
    let o = c.remove-pending.result in
    let out = held_out (view_of k) s.outs c.args.ticket o refl i.named (record { before = t.before; later = t.later; place = t.was }) in
    let laws = laws_out k c.args.ticket c.args.made (pendings t.before) o (pendings t.later) i.kept can out in
    let b : AreBounds k = record { few = i.few; next = i.next } in
    let new = c.settle.new.self in
    let outs = c.remove-pending.new.self in
    let sent = c.args.made.sent in
    let settles = subst (λ (ns : List ℕ). SettlesTo s.store new o.unit ns c.args.made.shared s.next sent) c.as_slice.ensures c.settle.ensures in
    let rest : pendings outs ≡ pendings t.before ++ pendings t.later = ap pendings t.left ∙ pendings_join t.before t.later in
    let named = subst (λ xs. AreNamed xs) (sym t.left) (named_without t.before c.args.ticket o t.later (subst (λ xs. AreNamed xs) t.was i.named)) in
    let base = sound_settled c.outs_fit.ensures c.few_are_sent.ensures c.only_units_are_needed.ensures c.settlings_keep.ensures k s.store.hold.room (vec_capacity s.journal) s.planned new outs (pendings t.before) o (pendings t.later) (outcome_of c.args.made []) i.kept i.room b i.spare i.bytes out.place named rest laws c.keeps_laws-2.ensures settles in
    let journal : c.push_reserved.new.self.items ≡ s.journal.items ++ line_of o s.next (length sent) ∷ [] = c.push_reserved.ensures.items ∙ ap (λ (e : Entry). s.journal.items ++ e ∷ []) (c.line.ensures ∙ ap (line_of o s.next) c.len-outs.ensures) in
    let next : s.next + c.from.result ≡ s.next + length sent = ap (λ (n : ℕ). s.next + n) (c.from.ensures ∙ c.len-outs.ensures) in
    subst (λ (places : ℕ). IsSoundKeep (kept_with k new (pendings outs) c.push_reserved.new.self.items (s.next + c.from.result)) new outs places s.planned) (sym c.push_reserved.ensures.capacity)
    (subst (λ (js : List Entry). IsSoundKeep (kept_with k new (pendings outs) js (s.next + c.from.result)) new outs (vec_capacity s.journal) s.planned) (sym journal)
    (subst (λ (n : ℕ). IsSoundKeep (kept_with k new (pendings outs) (s.journal.items ++ line_of o s.next (length sent) ∷ []) n) new outs (vec_capacity s.journal) s.planned) (sym next) base))

pub returns : goal.returns
returns c =
    let s = c.self.inside in
    let i = c.self.invariant in
    let k : Kept = kept_of s.store s.width s.limits s.journal.items s.next s.outs s.tickets in
    let can = subst (λ (n : Kept). CanMake (view_of n) c.args.ticket c.args.made) (sym c.self.view_is) c.requires in
    let t = c.remove-pending.ensures in
    let o = c.remove-pending.result in
    let out = held_out (view_of k) s.outs c.args.ticket o refl i.named (record { before = t.before; later = t.later; place = t.was }) in
    let laws = laws_out k c.args.ticket c.args.made (pendings t.before) o (pendings t.later) i.kept can out in
    let new = c.settle.new.self in
    let outs = c.remove-pending.new.self in
    let sent = c.args.made.sent in
    let settles = subst (λ (ns : List ℕ). SettlesTo s.store new o.unit ns c.args.made.shared s.next sent) c.as_slice.ensures c.settle.ensures in
    let rest : pendings outs ≡ pendings t.before ++ pendings t.later = ap pendings t.left ∙ pendings_join t.before t.later in
    let base = step_made c.settlings_are_seen.ensures k s.store.hold.room c.args.ticket c.args.made new outs (pendings t.before) o (pendings t.later) i.kept out rest laws settles in
    let journal : c.push_reserved.new.self.items ≡ s.journal.items ++ line_of o s.next (length sent) ∷ [] = c.push_reserved.ensures.items ∙ ap (λ (e : Entry). s.journal.items ++ e ∷ []) (c.line.ensures ∙ ap (line_of o s.next) c.len-outs.ensures) in
    let next : s.next + c.from.result ≡ s.next + length sent = ap (λ (n : ℕ). s.next + n) (c.from.ensures ∙ c.len-outs.ensures) in
    subst (λ (n : Kept). MakesStep (view_of n) (view_of (kept_with k new (pendings outs) c.push_reserved.new.self.items (s.next + c.from.result))) c.args.ticket c.args.made) c.self.view_is
    (subst (λ (js : List Entry). MakesStep (view_of k) (view_of (kept_with k new (pendings outs) js (s.next + c.from.result))) c.args.ticket c.args.made) (sym journal)
    (subst (λ (n : ℕ). MakesStep (view_of k) (view_of (kept_with k new (pendings outs) (s.journal.items ++ line_of o s.next (length sent) ∷ []) n)) c.args.ticket c.args.made) (sym next) base))
