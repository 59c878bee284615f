-- How wide a plan is, and when there is none; `least` is the bytes for one launch out. This project's own rule.
use Rattle.std.specs.Prelude.{◌≡◌, ⊤, ℕ, ◌*◌, ◌/◌, ◌^◌, ◌<◌, ◌≤◌, ◌==◌, min, if◌then◌else◌, Option, Some, None}
use Rattle.wg_plan.specs.declared.answer.PlanFault.{PlanFault}
use Rattle.wg_plan.specs.declared.answer.PlanFault.TheVariants.{TooSmall, TooLarge, Memory}

-- the given width, or with given bytes as many launches as they hold, at most 64
abbrev pub width_for : Option ℕ → ℕ → ℕ → ℕ
width_for None width least = width
width_for (Some bytes) width least = if least == 0 then width else min 64 (bytes / least)

-- given bytes hold one launch; without them the width takes at most 2^30 bytes
abbrev pub IsAffordable : Option ℕ → ℕ → ℕ → Type 0
IsAffordable None width least = width * least ≤ 2 ^ 30
IsAffordable (Some bytes) width least = least ≤ bytes

-- why there is no plan; want of memory needs no cause
abbrev pub IsCause : Option ℕ → ℕ → ℕ → PlanFault → Type 0
IsCause bytes width least (TooSmall need given) = (bytes ≡ Some given) × (need ≡ least) × (given < least)
IsCause bytes width least (TooLarge need) = (bytes ≡ None) × (need ≡ width * least) × (2 ^ 30 < width * least)
IsCause bytes width least Memory = ⊤
