-- What each stage of `run` answers, from the bytes that it is given.
use Rattle.std.specs.Prelude.{◌≡◌, ℕ, ◌<◌, List, length, IfSome}
use Rattle.wg_io.specs.declared.files.FileFault.{FileFault}
use Rattle.wg_io.specs.declared.files.FileFault.TheVariants as fault
use Rattle.wg_io.specs.Causes.{Rose, RoseBeyond}
use Rattle.wg_machine.specs.declared.launch.Sent.{Sent}
use Rattle.wg_machine.specs.declared.shape.Shape.{Shape}
use Rattle.wg_machine.specs.LaunchMeaning.{Meaning}
use Rattle.wg_tool.specs.declared.answer.Answer.{Answer}
use Rattle.wg_tool.specs.declared.answer.Answer.TheVariants.{Done, Refused, Usage, BadScript, ReadFault, WriteFault, OutOfMemory, TooLong}
use Rattle.wg_tool.specs.declared.answer.Input.{Input}
use Rattle.wg_tool.specs.declared.answer.Input.TheVariants as input
use Rattle.wg_tool.specs.declared.answer.TheConstants.{BAD_SCRIPT}
use Rattle.wg_words.specs.declared.limits.TheConstants.{MOST_FILE_BYTES}
use Rattle.wg_tool.specs.declared.pair.Pair.{Pair}
use Rattle.wg_tool.specs.Headline.{FilesView, OfFile, ReportsScript, read_fault_line, too_long_line}
use Rattle.wg_tool.specs.Report.{IsReportOfRun}
use Rattle.wg_tool.specs.Script.{IsNoScript}

-- the line of a fault of reading a file
abbrev pub FaultSays : FileFault → Input → List ℕ → Answer → List ℕ → Type 0
FaultSays fault.Failed i name given text = (given ≡ ReadFault i) × (text ≡ read_fault_line name)
FaultSays (fault.TooLong limit) i name given text = (given ≡ TooLong i) × (text ≡ too_long_line name limit)
FaultSays fault.Memory i name given text = ⊥

-- the report of a run
abbrev pub RanSays : Shape → Meaning → List Sent → Answer → List ℕ → Type 0
RanSays shape made entries given text = (given ≡ Done) × IsReportOfRun shape made entries text

-- what a graph and a script's bytes lead to
abbrev pub ScriptSays : List Pair → List ℕ → Answer → List ℕ → Type 0
ScriptSays pairs script Done text = ReportsScript pairs script text
ScriptSays pairs script BadScript text = IsNoScript pairs script × (text ≡ BAD_SCRIPT.now)
ScriptSays pairs script Refused text = ⊥
ScriptSays pairs script Usage text = ⊥
ScriptSays pairs script (ReadFault i) text = ⊥
ScriptSays pairs script WriteFault text = ⊥
ScriptSays pairs script OutOfMemory text = ⊥
ScriptSays pairs script (TooLong i) text = ⊥

-- what a graph and the name of a script's file lead to
abbrev pub FileSays : FilesView → FilesView → List Pair → List ℕ → Answer → List ℕ → Type 0
FileSays old new pairs name Done text = OfFile old name (λ (s : List ℕ). ReportsScript pairs s text)
FileSays old new pairs name BadScript text = OfFile old name (IsNoScript pairs) × (text ≡ BAD_SCRIPT.now)
FileSays old new pairs name (ReadFault i) text = (i ≡ input.Script) × Rose (old.faults name) (new.faults name) × (text ≡ read_fault_line name)
FileSays old new pairs name (TooLong i) text =
    (i ≡ input.Script) × RoseBeyond MOST_FILE_BYTES (old.taken name) (new.taken name)
    × IfSome (old.told name) (λ (bytes : List ℕ). MOST_FILE_BYTES < length bytes) × (text ≡ too_long_line name MOST_FILE_BYTES)
FileSays old new pairs name Refused text = ⊥
FileSays old new pairs name Usage text = ⊥
FileSays old new pairs name WriteFault text = ⊥
FileSays old new pairs name OutOfMemory text = ⊥
