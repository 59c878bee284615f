-- A frame that was taken apart to be run. Own.
use Rattle.std.specs.Prelude.{◌≡◌, ℕ, []}
use Rattle.wg_machine.specs.Buffers.{Buffers}
use Rattle.wg_code.specs.FrameMeaning.{outside_of}
use Rattle.wg_code.specs.Lane.{Site}
use Rattle.wg_code.specs.declared.frame.Frame.{Frame}
use Rattle.wg_registers.specs.Given.{site_of}
use Rattle.wg_lane.specs.declared.lane.Opened.{Opened}

-- what a body begins with on a frame, over buffers
abbrev pub frame_site : Frame → Buffers → Site
frame_site frame buffers = record { registers = frame.registers; shared = (outside_of frame buffers).0; world = (outside_of frame buffers).1 }

-- the frame with empty lists, and the rest of it as a body begins with it
pub record IsOpened (frame : Frame) (turns : ℕ) (o : Opened) : Type 0 where
  pub shell : o.shell ≡ record frame { registers = []; shared = []; left = []; grants = []; denied = 0 }
  pub registers : o.registers.items ≡ frame.registers
  pub site : (buffers : Buffers) → site_of o.registers.items o.outside buffers ≡ frame_site frame buffers
  pub turns_are : o.outside.turns ≡ turns
