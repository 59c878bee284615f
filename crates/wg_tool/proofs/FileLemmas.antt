-- From what was read of the files to what the call says.
use Rattle.std.proofs.Common.{◌≡◌, ℕ, ◌<◌, ◌≤◌, List, [], ◌∷◌, length, Option, Some, None, refl, ap, sym, ◌∙◌, subst, arith, get_or}
use Rattle.std.specs.Prelude.{IfSome}
use Rattle.wg_io.specs.declared.files.FileFault.{FileFault}
use Rattle.wg_io.specs.declared.files.FileFault.TheVariants as fault
use Rattle.wg_io.specs.Causes.{Rose, RoseBeyond, NoneFalls}
use Rattle.wg_tool.specs.declared.answer.Answer.{Answer}
use Rattle.wg_tool.specs.declared.answer.Answer.TheVariants.{Done, Refused, Usage, BadScript, ReadFault, WriteFault, OutOfMemory, TooLong}
use Rattle.wg_tool.specs.declared.answer.Input.{Input}
use Rattle.wg_tool.specs.declared.answer.Input.TheVariants as input
use Rattle.wg_words.specs.declared.limits.TheConstants.{MOST_FILE_BYTES}
use Rattle.wg_tool.specs.declared.pair.Pair.{Pair}
use Rattle.wg_tool.specs.Headline.{FilesView, OfFile, IsGraph, Reports, ReportsScript, IsBadScript, RunSays, too_long_line}
use Rattle.wg_tool.specs.Script.{IsNoScript}
use Rattle.wg_tool.specs.Stages.{FaultSays, ScriptSays, FileSays}

pub told_more : (o : Option (List ℕ)) (P Q : List ℕ → Type 0) → ((b : List ℕ) → P b → Q b) → IfSome o P → IfSome o Q
told_more None P Q f h = tt
told_more (Some b) P Q f h = f b h

-- a script that was read is the one that is told
pub file_read : (old new : FilesView) (pairs : List Pair) (name bytes : List ℕ) → IfSome (old.told name) (λ (b : List ℕ). bytes ≡ b) → (a : Answer) (t : List ℕ) → ScriptSays pairs bytes a t → FileSays old new pairs name a t
file_read old new pairs name bytes same Done t h = (bytes, same, h)
file_read old new pairs name bytes same BadScript t h = ((bytes, same, h.0), h.1)
file_read old new pairs name bytes same Refused t h = absurd h
file_read old new pairs name bytes same Usage t h = absurd h
file_read old new pairs name bytes same (ReadFault i) t h = absurd h
file_read old new pairs name bytes same WriteFault t h = absurd h
file_read old new pairs name bytes same OutOfMemory t h = absurd h
file_read old new pairs name bytes same (TooLong i) t h = absurd h

-- what a fault of reading shows
pub record FaultShows (old new : FilesView) (name : List ℕ) (f : FileFault) : Type 0 where
  pub failed : f ≡ fault.Failed → Rose (old.faults name) (new.faults name)
  pub given : (n : ℕ) → f ≡ fault.TooLong n → n ≡ MOST_FILE_BYTES
  pub beyond : f ≡ fault.TooLong MOST_FILE_BYTES → RoseBeyond MOST_FILE_BYTES (old.taken name) (new.taken name)
  pub longer : f ≡ fault.TooLong MOST_FILE_BYTES → IfSome (old.told name) (λ (bytes : List ℕ). MOST_FILE_BYTES < length bytes)

-- the script was not read
pub file_fault : (old new : FilesView) (pairs : List Pair) (name : List ℕ) (f : FileFault) → FaultShows old new name f → (a : Answer) (t : List ℕ) → FaultSays f input.Script name a t → FileSays old new pairs name a t
file_fault old new pairs name fault.Failed s a t h =
    subst (λ (x : Answer). FileSays old new pairs name x t) (sym h.0) (refl, s.failed refl, h.1)
file_fault old new pairs name (fault.TooLong n) s a t h =
    let limit : n ≡ MOST_FILE_BYTES = s.given n refl in
    let f : fault.TooLong n ≡ fault.TooLong MOST_FILE_BYTES = ap (λ (k : ℕ). fault.TooLong k) limit in
    subst (λ (x : Answer). FileSays old new pairs name x t) (sym h.0) (refl, s.beyond f, s.longer f, h.1 ∙ ap (λ (k : ℕ). too_long_line name k) limit)
file_fault old new pairs name fault.Memory s a t h = absurd h

-- the graph was not read
pub graph_fault : (old new : FilesView) (graph script : List ℕ) (f : FileFault) → FaultShows old new graph f → (a : Answer) (t : List ℕ) → FaultSays f input.Graph graph a t → RunSays old new graph script a t
graph_fault old new graph script fault.Failed s a t h =
    let says : RunSays old new graph script (ReadFault input.Graph) t = record { reached = tt; rose = s.failed refl; line = h.1 } in
    subst (λ (x : Answer). RunSays old new graph script x t) (sym h.0) says
graph_fault old new graph script (fault.TooLong n) s a t h =
    let limit : n ≡ MOST_FILE_BYTES = s.given n refl in
    let f : fault.TooLong n ≡ fault.TooLong MOST_FILE_BYTES = ap (λ (k : ℕ). fault.TooLong k) limit in
    let says : RunSays old new graph script (TooLong input.Graph) t = record { reached = tt; rose = s.beyond f; longer = s.longer f; line = h.1 ∙ ap (λ (k : ℕ). too_long_line graph k) limit } in
    subst (λ (x : Answer). RunSays old new graph script x t) (sym h.0) says
graph_fault old new graph script fault.Memory s a t h = absurd h

pub rose_after : (n a b c : ℕ) → a ≤ b → RoseBeyond n b c → RoseBeyond n a c
rose_after n a b c h r = omega arith

-- what the first read of two leaves for the second
pub record ReadOnce (old mid : FilesView) : Type 0 where
  pub same : (n : List ℕ) → mid.told n ≡ old.told n
  pub faults : NoneFalls old.faults mid.faults
  pub taken : NoneFalls old.taken mid.taken

-- what holds of a file after the first read holds of it before
earlier : (old mid : FilesView) (name : List ℕ) (P Q : List ℕ → Type 0) → ReadOnce old mid → ((b : List ℕ) → P b → Q b) → OfFile mid name P → OfFile old name Q
earlier old mid name P Q once f h = (h.0, subst (λ (o : Option (List ℕ)). IfSome o (λ (b : List ℕ). h.0 ≡ b)) (once.same name) h.1, f h.0 h.2)

-- after a graph that was read
pub graph_read : (old mid new : FilesView) (graph script bytes : List ℕ) (pairs : List Pair) → ReadOnce old mid → IfSome (old.told graph) (λ (b : List ℕ). bytes ≡ b) → IsGraph bytes pairs → (a : Answer) (t : List ℕ) → FileSays mid new pairs script a t → RunSays old new graph script a t
graph_read old mid new graph script bytes pairs once same is Done t h =
    (bytes, same, earlier old mid script (λ (s : List ℕ). ReportsScript pairs s t) (λ (s : List ℕ). Reports bytes s t) once (λ s r. record { pairs = pairs; is_graph = is; report = r }) h)
graph_read old mid new graph script bytes pairs once same is BadScript t h =
    ((bytes, same, earlier old mid script (IsNoScript pairs) (λ (s : List ℕ). IsBadScript bytes s) once (λ s n. record { pairs = pairs; is_graph = is; none = n }) h.0), h.1)
graph_read old mid new graph script bytes pairs once same is (ReadFault i) t h =
    let says : RunSays old new graph script (ReadFault input.Script) t =
    record { reached = (bytes, same, (pairs, is)); rose = rose_after 0 (old.faults script) (mid.faults script) (new.faults script) (once.faults script) h.1; line = h.2 } in
    subst (λ (x : Input). RunSays old new graph script (ReadFault x) t) (sym h.0) says
graph_read old mid new graph script bytes pairs once same is (TooLong i) t h =
    let longer : IfSome (old.told script) (λ (b : List ℕ). MOST_FILE_BYTES < length b) = subst (λ (o : Option (List ℕ)). IfSome o (λ (b : List ℕ). MOST_FILE_BYTES < length b)) (once.same script) h.2 in
    let says : RunSays old new graph script (TooLong input.Script) t =
    record { reached = (bytes, same, (pairs, is)); rose = rose_after MOST_FILE_BYTES (old.taken script) (mid.taken script) (new.taken script) (once.taken script) h.1; longer = longer; line = h.3 } in
    subst (λ (x : Input). RunSays old new graph script (TooLong x) t) (sym h.0) says
graph_read old mid new graph script bytes pairs once same is Refused t h = absurd h
graph_read old mid new graph script bytes pairs once same is Usage t h = absurd h
graph_read old mid new graph script bytes pairs once same is WriteFault t h = absurd h
graph_read old mid new graph script bytes pairs once same is OutOfMemory t h = absurd h

-- a list of three
pub three : {X : Type 0} (xs : List X) (a b d : X) → 3 ≤ length xs → length xs < 4 → a ≡ get_or xs 0 a → b ≡ get_or xs 1 b → d ≡ get_or xs 2 d → xs ≡ a ∷ b ∷ d ∷ []
three [] a b d h k p q r = absurd (omega arith)
three (x ∷ []) a b d h k p q r = absurd (omega arith)
three (x ∷ y ∷ []) a b d h k p q r = absurd (omega arith)
three (x ∷ y ∷ z ∷ []) a b d h k p q r = cc
three (x ∷ y ∷ z ∷ w ∷ xs) a b d h k p q r = absurd (omega arith)
