-- When the lines after the launches of a journal are right. This project's own.
use Rattle.std.specs.Prelude.{◌≡◌, ◌≢◌, ◌⊎◌, ⊤, ℕ, ◌+◌, ◌<◌, List, [], ◌∷◌, length, take, slice_get, Some, None, IfSome}
use Rattle.wg_machine.specs.declared.journal.BufferLine.{BufferLine}
use Rattle.wg_machine.specs.declared.journal.Done.{Done}
use Rattle.wg_machine.specs.declared.journal.Stop.{Stop}
use Rattle.wg_machine.specs.declared.journal.Stop.TheVariants as stop
use Rattle.wg_machine.specs.declared.journal.Tail.{Tail}
use Rattle.wg_machine.specs.declared.launch.Entry.{Entry}
use Rattle.wg_machine.specs.Buffers.{Buffers}
use Rattle.wg_machine.specs.Bytes.{peak}
use Rattle.wg_machine.specs.Run.{denied_of}
use Rattle.wg_machine.specs.State.{State}
use Rattle.wg_machine.specs.Step.{Passed}
use Rattle.wg_records.specs.Named.{NumbersRise}
use Rattle.wg_replay.specs.Lines.{Spends, Terms}

-- What launch lines came to: how many they are, the steps, and the states before and after them.
pub record Outcome : Type 0 where
  pub launches : ℕ
  pub trail : List Passed
  pub first : State
  pub final : State

-- the done line of a run
abbrev pub done_of : Terms → Outcome → Done
done_of t o =
    record {
      launches = o.launches;
      records = o.final.next;
      denied = denied_of o.trail;
      peak = peak t.shape t.handed o.first o.trail;
      bytes = t.bytes;
    }

-- the line of a buffer
abbrev pub buffer_line : List ℕ → List ℕ → BufferLine
buffer_line name words = record { name = name; count = length words; words = words }

-- the lines of buffers, by their names
abbrev pub buffer_lines : List (List ℕ) → Buffers → List BufferLine
buffer_lines [] buffers = []
buffer_lines (name ∷ names) [] = []
buffer_lines (name ∷ names) (words ∷ buffers) = buffer_line name words ∷ buffer_lines names buffers

abbrev pub buffer_lines_of : Terms → Outcome → List BufferLine
buffer_lines_of t o = buffer_lines t.shape.buffers o.final.buffers

-- nothing is live, and the line tells the run and the plan
pub record IsRightDone (t : Terms) (o : Outcome) (d : Done) : Type 0 where
  pub empty : o.final.bag ≡ []
  pub says : d ≡ done_of t o

-- an entry that names a launch and gives nothing
abbrev pub naming : ℕ → List ℕ → List ℕ → Entry
naming unit group inputs = record { unit = unit; at = group; inputs = inputs; first_out = 0; outs = 0 }

-- the run may have more launches, and the launch of the line is one that the bag allows and that spends its turns
pub record IsRightTurns (t : Terms) (launches : ℕ) (s : State) (turns unit : ℕ) (group inputs : List ℕ) : Type 0 where
  pub turns_are : turns ≡ t.turns
  pub more : launches < t.launches
  pub spends : Spends t.shape t.made t.turns s (naming unit group inputs)

-- the run has all its launches, and something is live
pub record IsRightLaunches (t : Terms) (launches : ℕ) (s : State) (given : ℕ) : Type 0 where
  pub given_is : given ≡ t.launches
  pub all : launches ≡ t.launches
  pub live : s.bag ≢ []

abbrev pub IsRightStop : Terms → ℕ → State → Stop → Type 0
IsRightStop t launches s (stop.Turns turns unit group inputs) = IsRightTurns t launches s turns unit group inputs
IsRightStop t launches s (stop.Launches given) = IsRightLaunches t launches s given

-- lines are the first ones of others
abbrev pub AreFirst : List BufferLine → List BufferLine → Type 0
AreFirst lines others = take (length lines) others ≡ lines

-- each line of the tail is right
pub record IsRightTail (t : Terms) (o : Outcome) (tail : Tail) : Type 0 where
  pub done : IfSome tail.done (IsRightDone t o)
  pub buffers : AreFirst tail.buffers (buffer_lines_of t o)
  pub stop : IfSome tail.stop (IsRightStop t o.launches o.final)

-- nothing is live, and the tail is that of the whole report: the done line, and the lines of all buffers
pub record IsWholeTail (t : Terms) (o : Outcome) (tail : Tail) : Type 0 where
  pub empty : o.final.bag ≡ []
  pub done : tail.done ≡ Some (done_of t o)
  pub buffers : tail.buffers ≡ buffer_lines_of t o
  pub stop : tail.stop ≡ None

-- the line after the launches is a done line that is not right
pub record HasWrongDone (t : Terms) (o : Outcome) (tail : Tail) (line : ℕ) : Type 0 where
  pub done : Done
  pub there : tail.done ≡ Some done
  pub number : line ≡ o.launches + 1
  pub wrong : IsRightDone t o done → ⊥

-- lines agree with others up to a place, and not there
pub record DifferAt (k : ℕ) (lines others : List BufferLine) : Type 0 where
  pub inside : k < length lines
  pub before : take k lines ≡ take k others
  pub here : slice_get lines k ≢ slice_get others k

-- the done line is right, and of the lines of buffers this one is the first that is not
pub record HasWrongBuffer (t : Terms) (o : Outcome) (tail : Tail) (line : ℕ) : Type 0 where
  pub done : IfSome tail.done (IsRightDone t o)
  pub place : ℕ
  pub number : line ≡ o.launches + 2 + place
  pub differ : DifferAt place tail.buffers (buffer_lines_of t o)

-- the line after the launches is a stop line that is not right
pub record HasWrongStop (t : Terms) (o : Outcome) (tail : Tail) (line : ℕ) : Type 0 where
  pub stop : Stop
  pub there : tail.stop ≡ Some stop
  pub number : line ≡ o.launches + 1
  pub wrong : IsRightStop t o.launches o.final stop → ⊥

abbrev pub HasWrongLine : Terms → Outcome → Tail → ℕ → Type 0
HasWrongLine t o tail line = HasWrongDone t o tail line ⊎ (HasWrongBuffer t o tail line ⊎ HasWrongStop t o tail line)

-- numbers of records that a stop line names rise
abbrev pub RisesIn : Stop → Type 0
RisesIn (stop.Turns turns unit group inputs) = NumbersRise 0 inputs
RisesIn (stop.Launches given) = ⊤

-- A tail has no buffers without a done line, not both a done line and a stop, and a stop's numbers rise.
pub record HasForm (tail : Tail) : Type 0 where
  pub buffers : tail.done ≡ None → tail.buffers ≡ []
  pub one : (tail.done ≡ None) ⊎ (tail.stop ≡ None)
  pub rises : IfSome tail.stop RisesIn
