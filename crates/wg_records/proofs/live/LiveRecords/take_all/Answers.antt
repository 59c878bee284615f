use Rattle.std.proofs.Common.{◌∙◌, refl, sym, subst, arith, get_or}
use Rattle.wg_records.specs.Bags.{Keeps}
use Rattle.wg_records.proofs.Loops.{left_nothing, same_at, take_more}
use Rattle.wg_records.proofs.live.LiveRecords.take_all.Goals as goal

pub loop-i-init : goal.loop-i-init
loop-i-init c = record {
  next = refl;
  handed = refl;
  small = omega arith;
  keeps = λ bag keeps are ready. subst (Keeps c.args.shape.now c.args.self.now) (sym (left_nothing c.args.at.now c.args.new.now bag)) keeps;
}

pub loop-i-preserved : goal.loop-i-preserved
loop-i-preserved c =
    let before = c.loop-i.invariant in
    let takes = c.in_ok-take.ensures.takes in
    let bytes = takes.bytes in
    let old = before.small in
    record {
      next = takes.next ∙ before.next;
      handed = takes.handed ∙ before.handed;
      small = omega (arith, bytes, old);
      keeps = λ bag keeps are ready.
          take_more c.args.shape.now c.args.self.now c.loop-i.self c.take.new.self bag c.args.numbers.now c.args.at.now c.args.new.now ready.0 c.loop-i.i (get_or c.args.numbers.now c.loop-i.i 0)
          c.told-at c.requires.rise c.loop-i-test.true (same_at c.args.numbers.now c.loop-i.i _ c.loop-i-test.true) keeps are ready.1 (before.keeps bag keeps are ready) takes;
    }
