-- What the exchangers do. This project's own.
use Rattle.std.specs.Prelude.{◌≡◌, ℕ, nat_lt, if◌then◌else◌, [], Some, None}
use Rattle.wg_machine.specs.declared.memory.Write.TheVariants.{Set, Add}
use Rattle.wg_machine.specs.Agreement.{Trace, AgreesWith, now_of}
use Rattle.wg_machine.specs.Buffers.{Buffers, word_at, with_word, written, exchanged}
use Rattle.wg_machine.specs.Effects.{Grows}
use Rattle.wg_machine.specs.LaunchMeaning.{Meaning, Outcome}
use Rattle.wg_exchangers.specs.declared.form.Before.{Before}
use Rattle.wg_exchangers.specs.declared.form.Before.TheVariants as before
use Rattle.wg_exchangers.specs.declared.form.Form.{Form}

-- the buffers before the form
abbrev pub begun : Before → ℕ → Buffers → Buffers
begun before.Nothing w m = m
begun before.Load w m = m
begun (before.Store value) w m = written m (Set 0 w value)
begun (before.Add value) w m = written m (Add 0 w value)

-- the buffers after the form
abbrev pub form_done : Form → Buffers → Buffers
form_done f m = with_word m 0 f.word (exchanged f.op (word_at m 0 f.word) f.compare f.value)

-- two words stand at the front of the second buffer
abbrev pub told : ℕ → ℕ → Buffers → Buffers
told found left m = written (written m (Set 1 0 found)) (Set 1 1 left)

-- the form, and what it found and left told
abbrev pub exchanged_by : Form → Buffers → Buffers
exchanged_by f m = told (word_at m 0 f.word) (word_at (form_done f m) 0 f.word) (form_done f m)

abbrev pub after : Form → Buffers → Buffers
after f m = exchanged_by f (begun f.before f.word m)

abbrev pub exchanger_outcome : Form → Buffers → Outcome
exchanger_outcome f m = record { sent = []; denied = 0; turns = f.turns; buffers = after f m; shared = None }

abbrev pub exchanger_made : Form → Meaning
exchanger_made f l m turns = if nat_lt turns f.turns then None else Some (exchanger_outcome f m)

-- from one moment of a memory to a later one nothing is taken back, and the buffers are changed so
pub record Changes (f : Buffers → Buffers) (old new : Trace) : Type 0 where
  pub grows : Grows old new
  pub now : (start : Buffers) → AgreesWith new start → now_of new start ≡ f (now_of old start)
