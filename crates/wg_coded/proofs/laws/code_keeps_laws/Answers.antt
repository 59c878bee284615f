use Rattle.wg_coded.specs.Parts.{keeps_laws}
use Rattle.wg_coded.proofs.laws.code_keeps_laws.Goals as goal

pub returns : goal.returns
returns c = λ code checked good launch buffers turns fits.
    keeps_laws
    (record {
      request = c.requests_stay_lawful.ensures;
      one_grant = c.each_request_has_its_grant.ensures;
      close = c.completions_stay_lawful.ensures;
      write_record = c.written_records_stay_lawful.ensures;
      write_input = c.written_inputs_stay_lawful.ensures;
      write_buffer = c.written_buffers_stay_lawful.ensures;
      lengths = c.written_words_keep_lengths.ensures;
    })
    (record { begins = c.launches_begin_lawful.ensures; keeps = c.lawful_worlds_keep_laws.ensures })
    code checked good launch buffers turns fits
