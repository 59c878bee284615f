-- That launches of valid code keep to the laws, as a term.
use Rattle.std.specs.Prelude.{ℕ, IsTrue, IfSome}
use Rattle.wg_machine.specs.Buffers.{Buffers}
use Rattle.wg_machine.specs.GoodShape.{IsGoodShape}
use Rattle.wg_machine.specs.LaunchMeaning.{FitsShape, KeepsLaws}
use Rattle.wg_machine.specs.declared.launch.Launch.{Launch}
use Rattle.wg_worlds.specs.Laws.{world_laws, launch_laws}
use Rattle.wg_code.specs.CodeMeaning.{code_made}
use Rattle.wg_code.specs.Valid.{valid}
use Rattle.wg_code.specs.declared.code.RawCode.{RawCode}
use Rattle.wg_coded.specs.Parts.{keeps_laws}

pub code_lawful : (code : RawCode) → IsTrue (valid code) → (l : Launch) (m : Buffers) (t : ℕ) → IsGoodShape code.shape → FitsShape code.shape l → IfSome (code_made code l m t) (KeepsLaws code.shape l m t)
code_lawful code checked l m t good fits = keeps_laws world_laws launch_laws code checked good l m t fits
