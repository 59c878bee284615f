use Rattle.std.proofs.Common.{◌≡◌, refl, ◌∙◌, ap, subst, arith, length, ◌≤◌}
use Rattle.wg_machine.specs.Buffers.{buffer_at}
use Rattle.wg_guess.specs.declared.touched.WordPlace.{WordPlace}
use Rattle.wg_guess.specs.declared.touched.WordNow.{WordNow}
use Rattle.wg_guess.specs.Knowing.{touched_words, now_of, now_after, written_place, IsWithin, IsChangedAt}
use Rattle.wg_guess.proofs.Seeing.{either, on_ok, same_sound, written_sound, wrote, wrote_past}
use Rattle.wg_guess.proofs.trial.Trial.write.Goals as goal

pub returns-then-place-length-clause-written : goal.returns-then-place-length-clause-written
returns-then-place-length-clause-written g c =
    let old = c.args.self.now in
    let over = g.V.View.buffers old.view.now in
    wrote_past over old.log.items old.writes.items c.args.write
    (subst (λ (p : WordPlace). length (buffer_at over p.buffer) ≤ p.word) c.place_of-place.ensures (omega arith))

pub invariant_of-self : goal.invariant_of-self
invariant_of-self g c =
    let old = c.args.self.now in
    let over = g.V.View.buffers old.view.now in
    let more = c.append.new.items.items in
    let words = touched_words old.touched in
    let new = touched_words c.append.new.touched in
    let x = c.args.write in
    let p = c.place_of-place.result in
    let there : p ≡ written_place x = c.place_of-place.ensures in
    let within : IsWithin over p = omega arith in
    let now : c.after-now.result ≡ now_after x (now_of words p) = c.after-now.ensures ∙ ap (now_after x) c.get.ensures in
    let did = c.append.ensures in
    record {
      sound = either c.append.result did.items did.touched did.items_stay did.touched_stay
          (λ grown changed. written_sound over old.log.items old.writes.items more words new x (subst (λ (r : WordPlace). IsWithin over r) there within) grown
          (subst (λ (r : WordPlace). IsChangedAt r (now_after x (now_of words r)) words new) there (subst (λ (n : WordNow). IsChangedAt p n words new) now changed)) old.sound)
          (λ stays kept. same_sound over old.log.items old.log.items old.writes.items more words new refl stays kept old.sound);
    }

pub returns-clause-written : goal.returns-clause-written
returns-clause-written g c =
    let old = c.args.self.now in
    on_ok c.append.result c.append.ensures.items (λ grown. wrote (g.V.View.buffers old.view.now) old.log.items old.writes.items c.append.new.items.items c.args.write grown)
