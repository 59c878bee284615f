use Rattle.std.proofs.Common.{◌+◌, ◌∙◌, ap, sym, arith}
use Rattle.std.specs.List.{list_any}
use Rattle.wg_directories.specs.Listed.{listed_at}
use Rattle.wg_directories.proofs.Listing.{one_does, none_does}
use Rattle.wg_shapes.specs.Naming.{elements_of}
use Rattle.wg_graph_rules.specs.RecordDiffers.{refuses_at}
use Rattle.wg_graph_rules.proofs.records.differs.Goals as goal

pub returns-then-refuses : goal.returns-then-refuses
returns-then-refuses c =
    one_does (refuses_at c.args.typed.now c.args.nodes.now c.output_record-sent.result) c.args.directory.now c.args.o.now c.loop-e.e (omega arith)
    (ap (refuses_at c.args.typed.now c.args.nodes.now c.output_record-sent.result) (sym (c.find-found.ensures ∙ ap (λ name. listed_at c.args.directory.now name (c.args.o.now.index + c.loop-e.e)) c.as_slice.ensures)) ∙ (sym c.refuses.ensures ∙ c.if-refuses.true))
    c.args.nodes.now c.requires.listed
    ∙ ap (λ sent. list_any (refuses_at c.args.typed.now c.args.nodes.now sent) (elements_of c.args.nodes.now c.args.o.now)) c.output_record-sent.ensures

pub returns : goal.returns
returns c =
    none_does (refuses_at c.args.typed.now c.args.nodes.now c.output_record-sent.result) c.args.directory.now c.args.o.now c.loop-e.e (omega arith) c.loop-e.invariant c.args.nodes.now c.requires.listed
    ∙ ap (λ sent. list_any (refuses_at c.args.typed.now c.args.nodes.now sent) (elements_of c.args.nodes.now c.args.o.now)) c.output_record-sent.ensures
