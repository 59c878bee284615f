-- The last line of a complete run, by what its core came to.
use Rattle.std.specs.Prelude.{length}
use Rattle.wg_machine.specs.declared.journal.Done.{Done}
use Rattle.wg_engine.specs.declared.report.Report.{Report}

abbrev pub done_by : Report → Done
done_by report =
    record {
      launches = length report.journal.entries;
      records = report.records;
      denied = report.denied;
      peak = report.peak;
      bytes = report.bytes;
    }
