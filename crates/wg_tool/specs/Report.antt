-- What the report of a run is.
use Rattle.std.specs.Prelude.{◌≡◌, ◌≢◌, ℕ, ◌≤◌, List, [], ◌++◌, length}
use Rattle.wg_machine.specs.declared.launch.Entry.{Entry}
use Rattle.wg_machine.specs.declared.launch.Sent.{Sent}
use Rattle.wg_machine.specs.declared.shape.Shape.{Shape}
use Rattle.wg_machine.specs.Bytes.{live_bytes, plan_bytes, peak}
use Rattle.wg_machine.specs.Choice.{SomeHasRoom}
use Rattle.wg_machine.specs.LaunchMeaning.{Meaning}
use Rattle.wg_machine.specs.Run.{IsRun, IsComplete, EachState, EachOnce, all_born, denied_of}
use Rattle.wg_machine.specs.State.{State, start}
use Rattle.wg_machine.specs.Step.{Passed}
use Rattle.wg_machine.specs.declared.journal.Done.{Done}
use Rattle.wg_journal.specs.Texts.{launch_lines, done_line}
use Rattle.wg_words.specs.declared.limits.TheConstants.{DEFAULT_TURNS}

-- the numbers of a complete run's last line, in a graph's plan for one launch out at a time
abbrev pub done_of_run : Shape → List Sent → List Entry → List Passed → State → Done
done_of_run shape script journal trail final =
    record {
      launches = length journal;
      records = final.next;
      denied = denied_of trail;
      peak = peak shape (length script) (start shape script []) trail;
      bytes = plan_bytes shape 1;
    }

-- the launch lines of a journal, and the last line
abbrev pub complete_report : Shape → List Entry → Done → List ℕ
complete_report shape journal done = launch_lines shape 0 journal ++ done_line done

-- The text is the report of a complete run that takes each group of each record once. At every prefix of the run the
-- live records have no more bytes than the last line says, and where records wait some unit of theirs has room.
pub record IsReportOfRun (shape : Shape) (made : Meaning) (script : List Sent) (text : List ℕ) : Type 0 where
  pub journal : List Entry
  pub trail : List Passed
  pub final : State
  pub run : IsRun shape made DEFAULT_TURNS (start shape script []) journal trail final
  pub complete : IsComplete final
  pub once : EachOnce (all_born shape script trail) journal
  pub within : EachState (λ s. live_bytes shape (length script) s ≤ plan_bytes shape 1) (start shape script []) trail
  pub never_stands : EachState (λ s. s.bag ≢ [] → SomeHasRoom shape 1 (length script) s) (start shape script []) trail
  pub text_is : text ≡ complete_report shape journal (done_of_run shape script journal trail final)
