use Rattle.std.proofs.Common.{◌≡◌, ◌+◌, ◌∙◌, ap, arith, map}
use Rattle.std.specs.List.{range_with_len}
use Rattle.wg_directories.specs.Listed.{listed_at}
use Rattle.wg_directories.proofs.Listing.{elements_are, pushed_place}
use Rattle.wg_directories.proofs.of_output.elements.Goals as goal

pub loop-e-preserved : goal.loop-e-preserved
loop-e-preserved c =
    pushed_place c.args.directory.now c.args.o.now c.loop-e.e c.loop-e.places c.push.new.self c.find.result c.loop-e.invariant
    (c.find.ensures ∙ ap (λ name. listed_at c.args.directory.now name (c.args.o.now.index + c.loop-e.e)) c.as_slice.ensures)
    c.in_ok-push.ensures.ok

pub returns : goal.returns
returns c nodes is = c.loop-e.invariant ∙ ((let e : c.loop-e.e ≡ c.args.o.now.elements = omega arith in ap (λ n. map (listed_at c.args.directory.now c.args.o.now.name) (range_with_len c.args.o.now.index n)) e) ∙ elements_are nodes c.args.directory.now c.args.o.now is)
