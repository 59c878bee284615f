use Rattle.wg_attribute_limits.proofs.GoodNodes.{attributes_good}
use Rattle.wg_attribute_limits.proofs.law.right_attributes_are_good.Goals as goal

pub returns : goal.returns
returns c = record {
  good = λ typed sound small beside right. attributes_good typed (record {
    order = sound.structs;
    small = small.structs;
    words = λ t u field. c.fields_lie_within.ensures.words typed.structs t u field sound.structs;
    within = λ t u field. c.fields_lie_within.ensures.within typed.structs t u field sound.structs;
  }) sound beside right;
}
