-- What goes through the budgets of a unit goes deeper.
use Rattle.std.proofs.Common.{◌≡◌, ℕ, zero, suc, ◌<◌, arith, List, [], ◌∷◌, Option, Some, refl, sym, subst, unwrap_or}
use Rattle.std.specs.Prelude.{slice_get, length}
use Rattle.std.specs.Option.{option_map}
use Rattle.wg_words.specs.Each.{Each}
use Rattle.wg_machine.specs.declared.shape.Shape.{Shape}
use Rattle.wg_machine.specs.declared.shape.Unit.{Unit}
use Rattle.wg_machine.specs.declared.launch.Launch.{Launch}
use Rattle.wg_machine.specs.declared.launch.Sent.{Sent}
use Rattle.wg_machine.specs.Buffers.{Buffers}
use Rattle.wg_machine.specs.GoodShape.{IsGoodShape, IsGoodOutput, IsGoodElement}
use Rattle.wg_machine.specs.LaunchMeaning.{Outcome, FitsShape, KeepsLaws, GoesThrough, AllGoThrough}
use Rattle.wg_machine.specs.Units.{depth_at}
use Rattle.wg_machine.proofs.Counts.{each_contained}

goes_deeper : (shape : Shape) (u : Unit) (b : ℕ) (s : Sent) → Each (IsGoodOutput shape u) u.outputs → GoesThrough u b s → u.depth < depth_at shape s.unit
goes_deeper shape u b s outputs g =
    let o = each_contained (IsGoodOutput shape u) u.outputs g.output g.has_output outputs in
    let t = each_contained (IsGoodElement shape u g.output) g.output.elements (Some s.unit) g.targets o.elements in
    subst (λ (n : Option Unit). u.depth < unwrap_or (option_map (λ (n : Unit). n.depth) n) 0) (sym t.there) t.deeper

all_deeper : (shape : Shape) (u : Unit) (through : List ℕ) (sent : List Sent) → Each (IsGoodOutput shape u) u.outputs → AllGoThrough u through sent → Each (λ (s : Sent). u.depth < depth_at shape s.unit) sent
all_deeper shape u [] [] outputs all = tt
all_deeper shape u [] (s ∷ sent) outputs all = absurd all
all_deeper shape u (b ∷ through) [] outputs all = absurd all
all_deeper shape u (b ∷ through) (s ∷ sent) outputs all = (goes_deeper shape u b s outputs all.0, all_deeper shape u through sent outputs all.1)

pub there_is : (units : List Unit) (u : ℕ) → u < length units → (n : Unit) × (slice_get units u ≡ Some n)
there_is [] u h = absurd (omega arith)
there_is (n ∷ units) zero h = (n, refl)
there_is (n ∷ units) (suc u) h = there_is units u (omega arith)

pub sent_deeper : (shape : Shape) (launch : Launch) (buffers : Buffers) (turns : ℕ) (o : Outcome) → IsGoodShape shape → FitsShape shape launch → KeepsLaws shape launch buffers turns o → Each (λ (s : Sent). depth_at shape launch.unit < depth_at shape s.unit) o.sent
sent_deeper shape launch buffers turns o good fits laws =
    let there = there_is shape.units launch.unit fits.unit in
    let u = there.0 in
    let k = laws.budgets u there.1 in
    subst (λ (n : Option Unit). Each (λ (s : Sent). unwrap_or (option_map (λ (n : Unit). n.depth) n) 0 < depth_at shape s.unit) o.sent) (sym there.1)
    (all_deeper shape u k.through o.sent (good.units launch.unit u there.1).outputs k.each_goes)
