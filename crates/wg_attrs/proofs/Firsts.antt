-- The first fault is told as it is.
use Rattle.std.proofs.Common.{◌≡◌, ◌<◌, ℕ, refl, sym, ap, ap₂, ◌∙◌, ⊎_elim, arith, Some}
use Rattle.wg_words.specs.declared.place.Place.{Place}
use Rattle.wg_typing.specs.Attributes.{AreRight, BreaksAttributes, attribute_number}
use Rattle.wg_typing.specs.Faults.{InOrder, Leads, first_attribute_fault}
use Rattle.wg_typed.specs.declared.typed.Typed.{Typed}
use Rattle.wg_typing.specs.declared.fault.AttributeRule.{AttributeRule}
use Rattle.wg_typing.specs.declared.fault.AttributeRule.TheVariants.{Unknown, Missing, Twice, Range, WrongMode}
use Rattle.wg_typing.specs.declared.fault.Fault.{Fault}
use Rattle.wg_attrs.specs.Faults.{IsFault, IsFirstBroken, broken_at, rule_numbered, told}

-- the rule of a rule's number
numbered : (rule : AttributeRule) → rule_numbered (attribute_number rule) ≡ rule
numbered Unknown = refl
numbered Missing = refl
numbered Twice = refl
numbered Range = refl
numbered WrongMode = refl

caused : (typed : Typed) (rule : AttributeRule) (place : Place) → IsFirstBroken typed rule place → IsFault typed (told rule place)
caused typed Unknown place h = h
caused typed Missing place h = h
caused typed Twice place h = h
caused typed Range place h = h
caused typed WrongMode place h = h

-- two numbers that lead each other are one
both : {m n : ℕ} {P Q : Type 0} → InOrder m n P → InOrder n m Q → (m ≡ n) × P × Q
both {m} {n} {P} {Q} h k = ⊎_elim
    (λ (l : m < n). ⊎_elim (λ (r : n < m). absurd (omega (arith, l, r))) (λ r. absurd (omega (arith, l, r.0))) k)
    (λ l. ⊎_elim (λ (r : n < m). absurd (omega (arith, r, l.0))) (λ r. (l.0, l.1, r.1)) k) h

same_fault : (a b : Fault) → Leads a b → Leads b a → a ≡ b
same_fault a b h k =
    let lines = both h k in
    let columns = both lines.1 lines.2 in
    let rules : a.rule ≡ b.rule = omega (arith, columns.1, columns.2) in
    ap₂ (λ (p : Place) (r : ℕ). record { rule = r; place = p }) (ap₂ (λ (l c : ℕ). record { line = l; column = c }) lines.0 columns.0) rules

abbrev pub Broken : Typed → Fault → Type 0
Broken typed f = (rule : AttributeRule) × (attribute_number rule ≡ f.rule) × BreaksAttributes rule f.place typed

abbrev pub Least : Typed → Fault → Type 0
Least typed f = (rule : AttributeRule) (p : Place) → BreaksAttributes rule p typed → Leads f (broken_at rule p)

is_first : (typed : Typed) (f : Fault) (rule : AttributeRule) → attribute_number rule ≡ f.rule → BreaksAttributes rule f.place typed → Least typed f → IsFirstBroken typed rule f.place
is_first typed f rule e broken least =
    record {
      broken = broken;
      least = λ other p b. rw (e) (least other p b);
    }

pub first_is_fault : (typed : Typed) (f : Fault) → Broken typed f → Least typed f → IsFault typed (told (rule_numbered f.rule) f.place)
first_is_fault typed f b least =
    let e : rule_numbered f.rule ≡ b.0 = ap rule_numbered (sym b.1) ∙ numbered b.0 in
    rw (e) (caused typed b.0 f.place (is_first typed f b.0 b.1 b.2 least))

pub first_is_told : (typed : Typed) (f : Fault) → Broken typed f → Least typed f → (rule : AttributeRule) (place : Place) → IsFirstBroken typed rule place → told (rule_numbered f.rule) f.place ≡ told rule place
first_is_told typed f b least rule place h =
    let same : f ≡ broken_at rule place = same_fault f (broken_at rule place) (least rule place h.broken) (rw (sym b.1) (h.least b.0 f.place b.2)) in
    ap₂ told (ap (λ (g : Fault). rule_numbered g.rule) same ∙ numbered rule) (ap (λ (g : Fault). g.place) same)

none_broken : (typed : Typed) (f : Fault) → Broken typed f → AreRight typed → ⊥
none_broken typed f b right = right b.0 f.place b.2

-- ---- the same, of what the laws say and of what the first fault is

abbrev pub SayBroken : Typed → Type 0
SayBroken typed = (f : Fault) → first_attribute_fault typed ≡ Some f → Broken typed f

abbrev pub SayLeast : Typed → Type 0
SayLeast typed = (f : Fault) → first_attribute_fault typed ≡ Some f → Least typed f

pub said_fault : (typed : Typed) (f : Fault) → SayBroken typed → SayLeast typed → first_attribute_fault typed ≡ Some f → IsFault typed (told (rule_numbered f.rule) f.place)
said_fault typed f b l e = first_is_fault typed f (b f e) (l f e)

pub said_only : (typed : Typed) (f : Fault) → SayBroken typed → SayLeast typed → first_attribute_fault typed ≡ Some f
    → (rule : AttributeRule) (place : Place) → IsFirstBroken typed rule place → told (rule_numbered f.rule) f.place ≡ told rule place
said_only typed f b l e = first_is_told typed f (b f e) (l f e)

pub said_none : {X : Type 0} (typed : Typed) (f : Fault) → SayBroken typed → first_attribute_fault typed ≡ Some f → AreRight typed → X
said_none typed f b e right = absurd (none_broken typed f (b f e) right)
