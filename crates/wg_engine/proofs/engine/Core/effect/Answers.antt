use Rattle.std.proofs.Common.{Option, Some, sym, subst}
use Rattle.wg_guess.specs.declared.guesses.Guess.{Guess}
use Rattle.wg_engine.specs.Effects.{Finds}
use Rattle.wg_engine.proofs.Effects.{runs_find}
use Rattle.wg_engine.proofs.engine.Core.effect.Goals as goal

pub returns : goal.returns
returns g c = λ before o later out.
    let made = g.B.Bodies.made c.args.bodies.now in
    let now = c.args.self.now in
    subst (λ (x : Option Guess). Finds made now o x c.run-2.result) (sym c.in-Some.is) (
    runs_find made now o (Some c.in-Some.guess) c.run-2.result (c.run-2.ensures before o later out) (λ s. (let t = (c.serves.ensures before o later out).1 s in let f = c.if-serves.false in cc))
    )
