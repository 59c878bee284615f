-- Good shapes are small.
use Rattle.std.proofs.Common.{◌≡◌, ℕ, zero, suc, ◌+◌, ◌*◌, ◌≤◌, List, [], ◌∷◌, length, All, get_or, refl, ap, arith, length-append}
use Rattle.std.proofs.lemmas.List.{length-map}
use Rattle.std.proofs.lemmas.Option.{slice_get-get_or}
use Rattle.wg_words.specs.Each.{Each}
use Rattle.wg_machine.specs.declared.shape.Shape.{Shape}
use Rattle.wg_machine.specs.declared.shape.Unit.{Unit}
use Rattle.wg_machine.specs.GoodShape.{IsBetween, IsGoodUnit, IsGoodShape}
use Rattle.wg_machine.specs.Unrolling.{levels, unrolled, node_and_level}
use Rattle.wg_plan.specs.Limits.{IsSmallUnit, IsSmall}

length-levels : (node depth : ℕ) → length (levels node depth) ≡ depth + 1
length-levels node zero = refl
length-levels node (suc depth) = omega (arith, length-levels node depth)

length-unrolled : (node : ℕ) (depths : List ℕ) → Each (λ d. d ≤ 31) depths → length (unrolled node depths) ≤ 32 * length depths
length-unrolled node [] few = omega arith
length-unrolled node (d ∷ depths) few =
    omega (arith, length-append (levels node d) (unrolled (node + 1) depths), length-levels node d, length-unrolled (node + 1) depths few.1, few.0)

all_few : (ns : List ℕ) → Each (IsBetween 1 256) ns → All (λ n. n ≤ 256) ns
all_few [] each k d h = absurd (omega arith)
all_few (n ∷ ns) each zero d h = each.0.high
all_few (n ∷ ns) each (suc k) d h = all_few ns each.1 k d (omega arith)

small_unit : (shape : Shape) (k : ℕ) (u : Unit) → IsGoodUnit shape k u → IsSmallUnit u
small_unit shape k u good =
    record {
      outputs = good.few_outputs;
      budgets = all_few u.budgets good.budgets;
      stride = omega (arith, good.stride, good.words);
    }

pub small_shape : (shape : Shape) → IsGoodShape shape → IsSmall shape
small_shape shape good =
    record {
      count =
          omega (
            arith,
            length-map shape.units node_and_level,
            ap length good.unrolling.units,
            length-unrolled 0 good.unrolling.depths good.unrolling.few,
            good.unrolling.count,
            good.few_nodes,
          );
      units = λ k d h. small_unit shape k (get_or shape.units k d) (good.units k (get_or shape.units k d) (slice_get-get_or shape.units k d h));
    }
