use Rattle.std.proofs.Common.{refl, arith}
use Rattle.wg_guess.specs.Knowing.{touched_words}
use Rattle.wg_guess.proofs.Seeing.{either, same_sound, seen_sound}
use Rattle.wg_guess.proofs.trial.Trial.see.Goals as goal

pub invariant_of-self : goal.invariant_of-self
invariant_of-self g c =
    let old = c.args.self.now in
    let over = g.V.View.buffers old.view.now in
    let more = c.append.new.items.items in
    let words = touched_words old.touched in
    let new = touched_words c.append.new.touched in
    let did = c.append.ensures in
    record {
      sound = either c.append.result did.items did.touched did.items_stay did.touched_stay
          (λ grown changed. seen_sound over old.log.items more old.writes.items words new c.args.place c.word-start.result c.args.sum (omega arith) c.word-start.ensures c.requires.within c.requires.added grown changed old.sound)
          (λ stays kept. same_sound over old.log.items more old.writes.items old.writes.items words new stays refl kept old.sound);
    }
