-- When a unit has room for what a launch of it may send. This project's own.
use Rattle.std.specs.Prelude.{ℕ, ◌+◌, ◌*◌, ◌≤◌, Contains}
use Rattle.wg_machine.specs.declared.shape.Shape.{Shape}
use Rattle.wg_machine.specs.declared.launch.Live.{Live}
use Rattle.wg_machine.specs.Bytes.{used}
use Rattle.wg_machine.specs.Need.{need, most}
use Rattle.wg_machine.specs.State.{State}

-- Each unit has slots left for all that a launch of u may send to it, beside those used and reserved.
abbrev pub HasRoom : Shape → ℕ → (ℕ → ℕ) → (ℕ → ℕ) → ℕ → Type 0
HasRoom shape width uses reserves u = (v : ℕ) → uses v + reserves v + need shape u v ≤ width * most shape v

-- some unit with a live record has room with nothing reserved
pub record SomeHasRoom (shape : Shape) (width entries : ℕ) (s : State) : Type 0 where
  pub live : Live
  pub is_live : Contains s.bag live
  pub room : HasRoom shape width (used entries s) (λ v. 0) live.unit
