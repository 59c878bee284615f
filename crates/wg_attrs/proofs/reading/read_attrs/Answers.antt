use Rattle.std.proofs.Common.{sym, ◌∙◌, inl}
use Rattle.wg_attrs.proofs.Firsts.{said_fault, said_none, said_only}
use Rattle.wg_attrs.proofs.reading.read_attrs.Goals as goal

pub returns-in-Some-clause-fault : goal.returns-in-Some-clause-fault
returns-in-Some-clause-fault c =
    let typed = c.args.typed.now in
    rw (c.fault_of.ensures) (said_fault typed c.in-Some.broken (c.first_attribute_fault_is_least.ensures.broken typed) (c.first_attribute_fault_is_least.ensures.least typed) (sym c.in_ok-first.ensures.first ∙ c.in-Some.is))

pub returns-in-Some-clause-only : goal.returns-in-Some-clause-only
returns-in-Some-clause-only c rule place h =
    let typed = c.args.typed.now in
    inl (c.fault_of.ensures ∙ said_only typed c.in-Some.broken (c.first_attribute_fault_is_least.ensures.broken typed) (c.first_attribute_fault_is_least.ensures.least typed) (sym c.in_ok-first.ensures.first ∙ c.in-Some.is) rule place h)

pub returns-in-Some-clause-none : goal.returns-in-Some-clause-none
returns-in-Some-clause-none c right =
    said_none c.args.typed.now c.in-Some.broken (c.first_attribute_fault_is_least.ensures.broken c.args.typed.now) (sym c.in_ok-first.ensures.first ∙ c.in-Some.is) right

pub returns-in_ok-read_nodes-in-None-clause-right : goal.returns-in_ok-read_nodes-in-None-clause-right
returns-in_ok-read_nodes-in-None-clause-right c = c.first_attribute_fault_is_least.ensures.none c.args.typed.now (sym c.in_ok-first.ensures.first ∙ c.in-None.is)

pub returns-in_ok-read_nodes-in-None-clause-only : goal.returns-in_ok-read_nodes-in-None-clause-only
returns-in_ok-read_nodes-in-None-clause-only c rule place h =
    c.first_attribute_fault_is_least.ensures.none c.args.typed.now (sym c.in_ok-first.ensures.first ∙ c.in-None.is) rule place h.broken
