use Rattle.std.proofs.Common.{◌≡◌, List, None, Some, Option, refl, ap, sym, subst, ◌∙◌, false}
use Rattle.wg_machine.specs.declared.launch.Limits.{Limits}
use Rattle.wg_machine.specs.declared.launch.Made.{Made}
use Rattle.wg_machine.specs.declared.memory.Write.{Write}
use Rattle.wg_machine.specs.Buffers.{all_written}
use Rattle.wg_machine.specs.LaunchMeaning.{outcome_of}
use Rattle.wg_standing.specs.Core.{CoreView}
use Rattle.wg_standing.specs.Idle.{IsOut}
use Rattle.wg_standing.specs.Outs.{launch_now}
use Rattle.wg_guess.specs.Guesses.{guessed}
use Rattle.wg_engine.proofs.Settlings.{told_now}
use Rattle.wg_engine.proofs.Views.{Own, core_with, out_down}
use Rattle.wg_engine.proofs.engine.Core.run.Goals as goal

pub returns-in-None : goal.returns-in-None
returns-in-None g c = λ before o later out.
    let s = c.self.inside in
    let k : CoreView = g.K.Keeping.seen s.keep in
    let w : Own = record { buffers = s.buffers; denied = s.denied; peak = s.peak; kept = s.kept; spent = s.spent } in
    let core : CoreView = core_with k w in
    let made = g.B.Bodies.made c.args.bodies.now in
    let seen = out_down k w c.args.ticket before o later (subst (λ (n : CoreView). IsOut n c.args.ticket before o later) (sym c.self.view_is) out) in
    let now : c.in-Ok.launch ≡ launch_now k.shape k.bag o = c.in-Ok.ensures before o later seen in
    let turns = ap (λ (x : Limits). x.turns) c.limits.ensures in
    let said = told_now (g.B.Bodies.graph c.args.bodies.now) made core c.limits.result.now.turns o c.in-Ok-guess.guess c.in-Ok.launch turns c.in-Ok-guess.ensures.truth c.in-Ok-guess.ensures.agrees c.in-Ok-guess.ensures.launch now in
    let p = c.parts-launch.ensures in
    let answer : c.in-Ok-guess.guess.answer ≡ None = sym p.made ∙ c.in-None.is in
    let spent : made (launch_now core.shape core.bag o) core.buffers core.limits.turns ≡ None = said ∙ ap (λ (x : Option Made). guessed x c.in-Ok-guess.guess.writes core.buffers) answer in
    let launch : c.parts-launch.result.0 ≡ launch_now core.shape core.bag o = p.launch ∙ c.in-Ok-guess.ensures.launch ∙ now in
    subst (λ (n : CoreView). (c.parts-launch.result.0 ≡ launch_now n.shape n.bag o) × (made (launch_now n.shape n.bag o) n.buffers n.limits.turns ≡ None)) c.self.view_is (launch, spent)

pub returns-in-Some : goal.returns-in-Some
returns-in-Some g c = λ before o later out.
    let s = c.self.inside in
    let k : CoreView = g.K.Keeping.seen s.keep in
    let w : Own = record { buffers = s.buffers; denied = s.denied; peak = s.peak; kept = s.kept; spent = s.spent } in
    let core : CoreView = core_with k w in
    let made = g.B.Bodies.made c.args.bodies.now in
    let seen = out_down k w c.args.ticket before o later (subst (λ (n : CoreView). IsOut n c.args.ticket before o later) (sym c.self.view_is) out) in
    let now : c.in-Ok.launch ≡ launch_now k.shape k.bag o = c.in-Ok.ensures before o later seen in
    let turns = ap (λ (x : Limits). x.turns) c.limits.ensures in
    let said = told_now (g.B.Bodies.graph c.args.bodies.now) made core c.limits.result.now.turns o c.in-Ok-guess.guess c.in-Ok.launch turns c.in-Ok-guess.ensures.truth c.in-Ok-guess.ensures.agrees c.in-Ok-guess.ensures.launch now in
    let p = c.parts-launch.ensures in
    let answer : c.in-Ok-guess.guess.answer ≡ Some c.in-Some.made = sym p.made ∙ c.in-Some.is in
    let makes = said ∙ ap (λ (x : Option Made). guessed x c.in-Ok-guess.guess.writes core.buffers) answer ∙ ap (λ (ws : List Write). guessed (Some c.in-Some.made) ws core.buffers) (sym p.writes) in
    subst (λ (n : CoreView). (made (launch_now n.shape n.bag o) n.buffers n.limits.turns ≡ Some (outcome_of c.in-Some.made (all_written n.buffers c.parts-launch.result.2))) × (false ≡ false)) c.self.view_is (makes, refl)
