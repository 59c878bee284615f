-- What a reader answers: what reading gives, or a refusal. This project's own.
use Rattle.std.specs.Prelude.{◌≡◌, ⊤, Option, Some, None, Result, Ok, Err}
use Rattle.wg_text.specs.declared.refusal.Refusal.{Refusal}
use Rattle.wg_text.specs.declared.refusal.Refusal.TheVariants.{Form, Memory}

-- Reading gives this of the value where the reader answers Ok, and nothing where it answers Form.
abbrev pub YieldsWith : {X Y : Type 0} → (X → Y) → Result X Refusal → Option Y → Type 0
YieldsWith of (Ok x) read = read ≡ Some (of x)
YieldsWith of (Err Form) read = read ≡ None
YieldsWith of (Err Memory) read = ⊤

abbrev pub Yields : {X : Type 0} → Result X Refusal → Option X → Type 0
Yields answer read = YieldsWith (λ x. x) answer read

-- the value, and what is left
abbrev pub YieldsAnd : {X Y : Type 0} → Result X Refusal → Y → Option (X × Y) → Type 0
YieldsAnd answer left read = YieldsWith (λ x. (x, left)) answer read
