use Rattle.std.proofs.Common.{◌∙◌, ◌++◌, ℕ, List, subst}
use Rattle.std.specs.List.{flat_map}
use Rattle.wg_machine.specs.declared.launch.Sent.{Sent}
use Rattle.wg_machine.specs.State.{born, kept}
use Rattle.wg_machine.specs.Step.{left_after, numbers_of}
use Rattle.wg_records.specs.Bags.{Keeps}
use Rattle.wg_replay.proofs.Going.{named_taken}
use Rattle.wg_replay.proofs.replay.Replay.settle.Goals as goal

pub returns-clause-keeps : goal.returns-clause-keeps
returns-clause-keeps c = λ s l at named.
    (let G = c.args.shape.now in
    let e = c.args.entry.now in
    let shared = c.args.made.now.shared in
    let k = c.put_all.new.self in
    let t = named_taken G s.bag e l c.as_slice-numbers.result.now c.as_slice-numbers.ensures named in
    let put = c.in_ok-put_all.ensures.keeps _ (c.in_ok-take_all.ensures.keeps s.bag at.keeps t.numbers (l.unit, t.ready)) in
    subst (λ (n : ℕ). Keeps G k (left_after (numbers_of l.records) e.at shared s.bag ++ flat_map kept (born G n c.args.made.now.sent))) (c.in_ok-take_all.ensures.next ∙ at.next)
    (subst (λ (ss : List Sent). Keeps G k (left_after (numbers_of l.records) e.at shared s.bag ++ flat_map kept (born G c.take_all.new.self.next ss))) c.as_slice.ensures
    (subst (λ (ns : List ℕ). Keeps G k (left_after ns e.at shared s.bag ++ flat_map kept (born G c.take_all.new.self.next c.as_slice.result.now))) t.same put)))
