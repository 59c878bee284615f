use Rattle.std.proofs.Common.{◌+◌, ◌∙◌, not, ap, sym, arith}
use Rattle.std.specs.Prelude.{is_none}
use Rattle.wg_directories.specs.Listed.{listed_at}
use Rattle.wg_directories.proofs.Listing.{one_does, none_does}
use Rattle.wg_directories.proofs.of_output.has_absent.Goals as goal

pub returns-then-is_none : goal.returns-then-is_none
returns-then-is_none c nodes is =
    one_does is_none c.args.directory.now c.args.o.now c.loop-e.e (omega arith)
    (ap is_none (sym (c.find.ensures ∙ ap (λ name. listed_at c.args.directory.now name (c.args.o.now.index + c.loop-e.e)) c.as_slice.ensures)) ∙ ap not c.if-is_none.ensures) nodes is

pub returns : goal.returns
returns c nodes is = none_does is_none c.args.directory.now c.args.o.now c.loop-e.e (omega arith) c.loop-e.invariant nodes is
