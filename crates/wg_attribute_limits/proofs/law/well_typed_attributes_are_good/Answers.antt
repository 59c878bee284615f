use Rattle.wg_attribute_limits.proofs.law.well_typed_attributes_are_good.Goals as goal

pub returns : goal.returns
returns c = record {
  good = λ tree t written spelled well e right.
      c.right_attributes_are_good.ensures.good t (c.typed_is_sound.ensures.form tree t well e) (c.vectors_and_literals_are_small.ensures.small tree t written e)
      (c.well_typed_keeps_the_rest.ensures.keeps tree t spelled well e) right;
}
