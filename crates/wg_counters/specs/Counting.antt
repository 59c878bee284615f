-- What the counters do. This project's own.
use Rattle.std.specs.Prelude.{ℕ, ◌+◌, ◌%◌, ◌^◌, nat_lt, Bool, true, false, if◌then◌else◌, List, [], ◌∷◌, length, map, slice_index, slice_get, Option, Some, None, replicate, unwrap_or}
use Rattle.std.specs.Option.{option_map}
use Rattle.wg_machine.specs.declared.shape.Output.{Output}
use Rattle.wg_machine.specs.declared.shape.Shape.{Shape}
use Rattle.wg_machine.specs.declared.shape.Unit.{Unit}
use Rattle.wg_machine.specs.declared.launch.Launch.{Launch}
use Rattle.wg_machine.specs.declared.launch.Record.{Record}
use Rattle.wg_machine.specs.declared.launch.Sent.{Sent}
use Rattle.wg_machine.specs.Buffers.{Buffers, word_at, with_word}
use Rattle.wg_machine.specs.LaunchMeaning.{Meaning, Outcome}
use Rattle.wg_machine.specs.Units.{words_at, shared_at}
use Rattle.wg_counters.specs.declared.counters.Asked.{Asked}

abbrev pub first_words : List Record → List ℕ
first_words [] = []
first_words (r ∷ rs) = r.words

-- the first word of a launch's first record
abbrev pub first_word : List Record → ℕ
first_word records = slice_index (first_words records) 0

-- records of a unit, each of their words the given one
abbrev pub copies : Shape → ℕ → ℕ → ℕ → List Sent
copies shape unit count word = replicate count (record { unit = unit; words = replicate (words_at shape unit) word })

-- a launch asked for nothing
abbrev pub nothing : Asked
nothing = record { sent = []; denied = 0 }

abbrev pub asked_at : Shape → ℕ → ℕ → Option ℕ → Asked
asked_at shape count word None = record { sent = []; denied = 1 }
asked_at shape count word (Some unit) = record { sent = copies shape unit count word; denied = 0 }

-- what is asked at the first element of an output
abbrev pub asked_through : Shape → Unit → ℕ → Output → Asked
asked_through shape u word o = asked_at shape (slice_index u.budgets o.budget) word (unwrap_or (slice_get o.elements 0) None)

abbrev pub asked_by : Shape → ℕ → Unit → Asked
asked_by shape word u = unwrap_or (option_map (asked_through shape u word) (slice_get u.outputs 0)) nothing

-- the record stays after the launch: other groups of it have not run
abbrev pub stays : Shape → Launch → Bool
stays shape l = if l.last then false else shared_at shape l.unit

abbrev pub asked : Shape → Launch → Asked
asked shape l =
    if stays shape l then nothing else unwrap_or (option_map (asked_by shape (first_word l.records)) (slice_get shape.units l.unit)) nothing

-- each word of a record that its groups share is one more
abbrev pub next_words : Shape → Launch → Option (List ℕ)
next_words shape l =
    if shared_at shape l.unit then Some (map (λ w. (w + 1) % 2 ^ 32) (first_words l.records)) else None

-- how many turns a launch makes
abbrev pub turns_of : Launch → Buffers → ℕ
turns_of l m = first_word l.records + word_at m 0 0

-- the buffers with the launch's records counted
abbrev pub counted : Launch → Buffers → Buffers
counted l m = with_word m 0 0 ((word_at m 0 0 + length l.records % 2 ^ 32) % 2 ^ 32)

abbrev pub counter_outcome : Shape → Launch → Buffers → Outcome
counter_outcome shape l m =
    record {
      sent = (asked shape l).sent;
      denied = (asked shape l).denied;
      turns = turns_of l m;
      buffers = counted l m;
      shared = next_words shape l;
    }

abbrev pub counter_made : Shape → Meaning
counter_made shape l m turns = if nat_lt turns (turns_of l m) then None else Some (counter_outcome shape l m)
