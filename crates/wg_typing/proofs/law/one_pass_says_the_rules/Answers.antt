use Rattle.wg_typing.proofs.Passes.{uncompleted_is, returns_of_many_is, returns_of_one_is}
use Rattle.wg_typing.proofs.law.one_pass_says_the_rules.Goals as goal

pub returns : goal.returns
returns c = record { completed = λ events. uncompleted_is events events; of_many = returns_of_many_is; of_one = returns_of_one_is }
