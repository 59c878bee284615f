-- A script's words are counted by 32 bits.
use Rattle.std.proofs.Common.{arith}
use Rattle.wg_machine.specs.declared.shape.Shape.{Shape}
use Rattle.wg_plain.specs.Sizes.{AreShort}
use Rattle.wg_script.specs.declared.script.Script.{Script}
use Rattle.wg_script.specs.Fit.{IsFit}

pub fit_is_short : (shape : Shape) (s : Script) → IsFit shape s → AreShort s.start
fit_is_short shape s fit b = let f = fit.fits b in let m = fit.small b in omega (arith, f, m)
