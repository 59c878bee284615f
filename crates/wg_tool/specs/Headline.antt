-- What `run GRAPH SCRIPT` answers: each answer with its cause and its text.
use Rattle.std.specs.Prelude.{◌≡◌, ◌⊎◌, ⊤, ℕ, ◌<◌, ◌≤◌, Some, List, [], ◌∷◌, ◌++◌, length, Option, IfSome, map, String, string_bytes, codes}
use Rattle.std.specs.declared.alloc.Global.{Global}
use Rattle.std.specs.Fmt.{decimal}
use Rattle.wg_io.specs.Causes.{Rose, RoseBeyond, Appends}
use Rattle.wg_machine.specs.declared.launch.Sent.{Sent}
use Rattle.wg_tool.specs.declared.pair.Pair.{Pair}
use Rattle.wg_tool.specs.declared.answer.Answer.{Answer}
use Rattle.wg_tool.specs.declared.answer.Answer.TheVariants.{Done, Refused, Usage, BadScript, ReadFault, WriteFault, OutOfMemory, TooLong}
use Rattle.wg_tool.specs.declared.answer.Input.{Input}
use Rattle.wg_tool.specs.declared.answer.Input.TheVariants as input
use Rattle.wg_tool.specs.declared.answer.TheConstants.{REFUSED, BAD_SCRIPT, USAGE}
use Rattle.wg_words.specs.declared.limits.TheConstants.{MOST_FILE_BYTES}
use Rattle.wg_tool.specs.Answers.{status_of, Concludes}
use Rattle.wg_tool.specs.FirstForm.{graph_text, IsFirstForm, IsNoGraph}
use Rattle.wg_tool.specs.Report.{IsReportOfRun}
use Rattle.wg_tool.specs.Script.{script_text, IsFormScript, IsNoScript}
use Rattle.wg_tool.specs.Sending.{made_of}
use Rattle.wg_tool.specs.Wiring.{shape_of}

-- the words of the command
abbrev pub texts_of : List (String Global) → List (List ℕ)
texts_of words = map (λ (w : String Global). string_bytes w) words

-- the words are `run` and the names of the graph's and the script's file
abbrev pub AreRun : List (List ℕ) → List ℕ → List ℕ → Type 0
AreRun words graph script = words ≡ codes "run" ∷ graph ∷ script ∷ []

-- What contracts see of the files that the call was handed in: what they tell, and their counts.
pub record FilesView : Type 0 where
  pub told : List ℕ → Option (List ℕ)
  pub faults : List ℕ → ℕ
  pub taken : List ℕ → ℕ

-- What contracts see of the sink: what is written, where that is told, and its count.
pub record SinkView : Type 0 where
  pub written : Option (List ℕ)
  pub faults : ℕ

-- a graph of the first form
pub record IsGraph (graph : List ℕ) (pairs : List Pair) : Type 0 where
  pub form : IsFirstForm pairs
  pub text : graph ≡ graph_text pairs

-- the text is the report of a graph's run from the script
pub record ReportsScript (pairs : List Pair) (script text : List ℕ) : Type 0 where
  pub entries : List Sent
  pub is_script : IsFormScript pairs entries
  pub script_is : script ≡ script_text pairs entries
  pub report : IsReportOfRun (shape_of pairs) (made_of pairs) entries text

-- the text is the report of the graph's run from the script
pub record Reports (graph script text : List ℕ) : Type 0 where
  pub pairs : List Pair
  pub is_graph : IsGraph graph pairs
  pub report : ReportsScript pairs script text

-- the graph is of the first form, and the script is none of it
pub record IsBadScript (graph script : List ℕ) : Type 0 where
  pub pairs : List Pair
  pub is_graph : IsGraph graph pairs
  pub none : IsNoScript pairs script

-- the name of a file
abbrev pub name_of_input : Input → List ℕ → List ℕ → List ℕ
name_of_input input.Graph graph script = graph
name_of_input input.Script graph script = script

-- this holds of bytes that a name has: those that are told of it, or some where none are
abbrev pub OfFile : FilesView → List ℕ → (List ℕ → Type 0) → Type 0
OfFile files name P = (bytes : List ℕ) × IfSome (files.told name) (λ (told : List ℕ). bytes ≡ told) × P bytes

-- The file is read after what comes before it: the script's after a graph of the first form.
abbrev pub ComesToRead : FilesView → Input → List ℕ → Type 0
ComesToRead old input.Graph graph = ⊤
ComesToRead old input.Script graph = OfFile old graph (λ (bytes : List ℕ). (pairs : List Pair) × IsGraph bytes pairs)

abbrev pub read_fault_line : List ℕ → List ℕ
read_fault_line name = codes "read fault " ++ name ++ codes "\n"

abbrev pub too_long_line : List ℕ → ℕ → List ℕ
too_long_line name limit = codes "too long " ++ name ++ codes " limit " ++ decimal limit ++ codes "\n"

-- reading a file failed: its count rose in this call
pub record SaysReadFault (old new : FilesView) (input : Input) (graph script text : List ℕ) : Type 0 where
  pub reached : ComesToRead old input graph
  pub rose : Rose (old.faults (name_of_input input graph script)) (new.faults (name_of_input input graph script))
  pub line : text ≡ read_fault_line (name_of_input input graph script)

-- a file passes its limit: more bytes than it were taken in this call, and where they are told there are more
pub record SaysTooLong (old new : FilesView) (input : Input) (graph script text : List ℕ) : Type 0 where
  pub reached : ComesToRead old input graph
  pub rose : RoseBeyond MOST_FILE_BYTES (old.taken (name_of_input input graph script)) (new.taken (name_of_input input graph script))
  pub longer : IfSome (old.told (name_of_input input graph script)) (λ (bytes : List ℕ). MOST_FILE_BYTES < length bytes)
  pub line : text ≡ too_long_line (name_of_input input graph script) MOST_FILE_BYTES

-- what is said of the bytes of two names
abbrev pub OfBoth : FilesView → List ℕ → List ℕ → (List ℕ → List ℕ → Type 0) → Type 0
OfBoth old graph script P = OfFile old graph (λ (g : List ℕ). OfFile old script (λ (s : List ℕ). P g s))

-- the cause and the text of an answer to `run` with the names of a graph and a script
abbrev pub RunSays : FilesView → FilesView → List ℕ → List ℕ → Answer → List ℕ → Type 0
RunSays old new graph script Done text = OfBoth old graph script (λ g s. Reports g s text)
RunSays old new graph script Refused text = OfFile old graph IsNoGraph × (text ≡ REFUSED.now)
RunSays old new graph script Usage text = ⊥
RunSays old new graph script BadScript text = OfBoth old graph script IsBadScript × (text ≡ BAD_SCRIPT.now)
RunSays old new graph script (ReadFault i) text = SaysReadFault old new i graph script text
RunSays old new graph script WriteFault text = ⊥
RunSays old new graph script OutOfMemory text = ⊥
RunSays old new graph script (TooLong i) text = SaysTooLong old new i graph script text

-- The cause and the text of an answer: the words are no form of the command, or they are `run` with two names.
abbrev pub CommandSays : List (List ℕ) → FilesView → FilesView → Answer → List ℕ → Type 0
CommandSays words old new given text =
    (((graph script : List ℕ) → AreRun words graph script → ⊥) × (given ≡ Usage) × (text ≡ USAGE.now))
    ⊎ ((graph : List ℕ) × (script : List ℕ) × AreRun words graph script × RunSays old new graph script given text)

-- The headline: the status is that of an answer, whose cause holds, and whose text is written.
abbrev pub Headline : List (List ℕ) → FilesView → FilesView → SinkView → SinkView → ℕ → Type 0
Headline words old new before now status =
    (given : Answer) × (status ≡ status_of given) × Concludes (CommandSays words old new) before.written now.written before.faults now.faults given

-- The words, a graph and a script of the first form within their limits, both told, and no counted fault.
pub record IsFineRun (words : List (List ℕ)) (old new : FilesView) (before now : SinkView) (pairs : List Pair) (entries : List Sent) : Type 0 where
  pub graph : List ℕ
  pub script : List ℕ
  pub run : AreRun words graph script
  pub form : IsFirstForm pairs
  pub is_script : IsFormScript pairs entries
  pub graph_told : old.told graph ≡ Some (graph_text pairs)
  pub script_told : old.told script ≡ Some (script_text pairs entries)
  pub graph_fits : length (graph_text pairs) ≤ MOST_FILE_BYTES
  pub script_fits : length (script_text pairs entries) ≤ MOST_FILE_BYTES
  pub graph_read : Rose (old.faults graph) (new.faults graph) → ⊥
  pub script_read : Rose (old.faults script) (new.faults script) → ⊥
  pub all_written : Rose before.faults now.faults → ⊥

-- the whole report of the run is written at status 0, or memory was wanting
abbrev pub Completes : SinkView → SinkView → List Pair → List Sent → ℕ → Type 0
Completes before now pairs entries status =
    ((status ≡ 0) × ((text : List ℕ) × IsReportOfRun (shape_of pairs) (made_of pairs) entries text × Appends before.written now.written text))
    ⊎ (status ≡ 8)
