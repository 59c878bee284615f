-- What contracts see of a core, and a core at the start of a script. This project's own.
use Rattle.std.specs.Prelude.{ℕ, List, [], length, Option, None, replicate}
use Rattle.std.specs.List.{flat_map}
use Rattle.wg_machine.specs.declared.shape.Shape.{Shape}
use Rattle.wg_machine.specs.declared.launch.Entry.{Entry}
use Rattle.wg_machine.specs.declared.launch.Limits.{Limits}
use Rattle.wg_machine.specs.declared.launch.Live.{Live}
use Rattle.wg_machine.specs.declared.launch.Sent.{Sent}
use Rattle.wg_machine.specs.Buffers.{Buffers}
use Rattle.wg_machine.specs.State.{born, kept}
use Rattle.wg_standing.specs.declared.pending.Pending.{Pending}

-- A record waits until it, or for broadcasting one of its groups, has been opened. A launch is out from its opening
-- to its settling.
pub record CoreView : Type 0 where
  pub shape : Shape
  -- how many launches out at a time the plan has room for
  pub width : ℕ
  pub limits : Limits
  -- the number of entry records
  pub handed : ℕ
  pub journal : List Entry
  -- the number of the next record
  pub next : ℕ
  pub buffers : Buffers
  -- the records of the machine in rising order of number, with their words and the groups that have not run
  pub bag : List Live
  -- by unit: the records in slots that wait, with the groups that are not opened
  pub waits : List (List Live)
  -- what is left of the entry list, with the groups that are not opened
  pub entries : List Live
  -- by unit: the records in slots that are held, since all their groups are opened, with the groups that have not run
  pub held : List (List Live)
  -- the entry records that launches out took from the list, with the groups that have not run
  pub taken : List Live
  -- by unit: how many slots are in use
  pub used : List ℕ
  pub outs : List Pending
  -- the spare places of the journal that launches out have
  pub spare : ℕ
  -- how many launches were opened; the next ticket
  pub tickets : ℕ
  -- the requests that were granted none
  pub denied : ℕ
  -- the greatest number of live bytes so far
  pub peak : ℕ
  -- how many settlings kept a guess
  pub kept : ℕ
  -- the ticket of the launch that spent its turns
  pub stopped : Option ℕ

-- a core at the start of a script: nothing has run, and each entry record waits in the entry list
abbrev pub core_begun : Shape → ℕ → Limits → List Sent → Buffers → CoreView
core_begun shape width limits script start_buffers =
    record {
      shape = shape;
      width = width;
      limits = limits;
      handed = length script;
      journal = [];
      next = length script;
      buffers = start_buffers;
      bag = flat_map kept (born shape 0 script);
      waits = replicate (length shape.units) [];
      entries = flat_map kept (born shape 0 script);
      held = replicate (length shape.units) [];
      taken = [];
      used = replicate (length shape.units) 0;
      outs = [];
      spare = 0;
      tickets = 0;
      denied = 0;
      peak = 0;
      kept = 0;
      stopped = None;
    }
