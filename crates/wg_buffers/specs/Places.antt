-- The page to which a write goes. This project's own.
use Rattle.std.specs.Prelude.{◌/◌}
use Rattle.wg_machine.specs.declared.memory.Write.{Write}
use Rattle.wg_buffers.specs.declared.buffers.PagePlace.{PagePlace}
use Rattle.wg_buffers.specs.Pages.{target_buffer, target_word}

abbrev pub page_place : Write → PagePlace
page_place w = record { buffer = target_buffer w; page = target_word w / 256 }
