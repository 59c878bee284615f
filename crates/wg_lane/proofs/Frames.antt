-- A frame's input records with new words, and a frame that was taken apart.
use Rattle.std.proofs.Common.{◌≡◌, ℕ, suc, ◌-◌, true, false, List, [], ◌∷◌, ◌++◌, length, Some, None, refl, sym, ap, ◌∙◌, subst}
use Rattle.std.specs.Prelude.{slice_get, unwrap_or, IsTrue, Result, Ok, Err}
use Rattle.wg_machine.specs.Agreement.{Trace, now_of}
use Rattle.wg_machine.specs.Buffers.{Buffers}
use Rattle.wg_machine.specs.declared.bodies.Halt.{Halt}
use Rattle.wg_machine.specs.declared.bodies.Halt.TheVariants as halt
use Rattle.wg_machine.specs.declared.launch.Record.{Record}
use Rattle.wg_machine.specs.declared.shape.Unit.{Unit as Node}
use Rattle.wg_state.specs.Launching.{record_words_of}
use Rattle.wg_state.specs.Turns.{Ending, Done}
use Rattle.wg_state.specs.declared.world.Grant.{Grant}
use Rattle.wg_state.specs.declared.world.World.{World}
use Rattle.wg_code.specs.CodeMeaning.{around_of}
use Rattle.wg_code.specs.FrameMeaning.{launch_of, with_words, frame_after, FrameFits, LaneMakes, lane_verdict_of, node_lane_verdict, unit_lane_verdict, lane_verdict}
use Rattle.wg_code.specs.Functions.{in_function, callees}
use Rattle.wg_code.specs.Lane.{Around, Site, Exit}
use Rattle.wg_code.specs.OpMeaning.{ops_do}
use Rattle.wg_code.specs.PartMeaning.{lane_left}
use Rattle.wg_code.specs.declared.code.Function.{Function}
use Rattle.wg_code.specs.declared.code.NodeCode.{NodeCode}
use Rattle.wg_code.specs.declared.code.RawCode.{RawCode}
use Rattle.wg_code.specs.declared.frame.Frame.{Frame}
use Rattle.wg_code.specs.declared.op.Op.{Op}
use Rattle.wg_registers.specs.Given.{site_of}
use Rattle.wg_registers.specs.declared.outside.Outside.{Outside}
use Rattle.wg_operations.specs.Says.{exit_of, Runs}
use Rattle.wg_operations.specs.declared.end.End.{End}
use Rattle.wg_operations.specs.declared.end.End.TheVariants as end
use Rattle.wg_lane.specs.Frames.{frame_site, IsOpened}
use Rattle.wg_lane.specs.LaneSays.{MakesFrame, SpendsFrame}
use Rattle.wg_control.specs.Silence.{reads_nothing, LogsNothing}
use Rattle.wg_lane.specs.declared.lane.Opened.{Opened}

some_is : {X : Type 0} (x y : X) → Some x ≡ Some y → x ≡ y
some_is x y e = ap (λ o. unwrap_or o x) e

-- ---- records with new words

pub with_none : (records : List Record) → with_words records [] ≡ []
with_none [] = refl
with_none (r ∷ records) = refl

fits_so_far : (records : List Record) (lists : List (List ℕ)) (r : Record) → slice_get records (length (with_words records lists)) ≡ Some r → length (with_words records lists) ≡ length lists
fits_so_far [] lists r e = absurd (cc)
fits_so_far (x ∷ xs) [] r e = refl
fits_so_far (x ∷ xs) (y ∷ ys) r e = ap suc (fits_so_far xs ys r e)

with_one : (records : List Record) (lists : List (List ℕ)) (words : List ℕ) (r : Record) → slice_get records (length lists) ≡ Some r
    → with_words records (lists ++ words ∷ []) ≡ with_words records lists ++ record r { words = words } ∷ []
with_one [] lists words r e = absurd (cc)
with_one (x ∷ xs) [] words r e =
    ap (λ (l : List Record). record x { words = words } ∷ l) (with_none xs) ∙ (ap (λ (z : Record). record z { words = words } ∷ []) (some_is x r e) ∙ ap (λ (l : List Record). l ++ record r { words = words } ∷ []) (sym (with_none (x ∷ xs))))
with_one (x ∷ xs) (y ∷ ys) words r e = ap (λ (l : List Record). record x { words = y } ∷ l) (with_one xs ys words r e)

-- a list of new words, and its record
pub with_next : (records list : List Record) (lists : List (List ℕ)) (words : List ℕ) (r : Record) → list ≡ with_words records lists → slice_get records (length list) ≡ Some r
    → list ++ record r { words = words } ∷ [] ≡ with_words records (lists ++ words ∷ [])
with_next records list lists words r is e =
    let there : slice_get records (length (with_words records lists)) ≡ Some r = ap (λ (l : List Record). slice_get records (length l)) (sym is) ∙ e in
    ap (λ (l : List Record). l ++ record r { words = words } ∷ []) is ∙ sym (with_one records lists words r (ap (λ n. slice_get records n) (sym (fits_so_far records lists r there)) ∙ there))

with_no_more : (records : List Record) (lists more : List (List ℕ)) → slice_get records (length (with_words records lists)) ≡ None → with_words records (lists ++ more) ≡ with_words records lists
with_no_more [] lists more e = refl
with_no_more (x ∷ xs) [] more e = absurd (cc)
with_no_more (x ∷ xs) (y ∷ ys) more e = ap (λ (l : List Record). record x { words = y } ∷ l) (with_no_more xs ys more e)

-- no record is left
pub with_past : (records list : List Record) (lists more : List (List ℕ)) → list ≡ with_words records lists → slice_get records (length list) ≡ None → list ≡ with_words records (lists ++ more)
with_past records list lists more is e = is ∙ sym (with_no_more records lists more (ap (λ (l : List Record). slice_get records (length l)) (sym is) ∙ e))

-- ---- errors

halt_in : {A : Type 0} → Result A Halt → Halt
halt_in (Ok a) = halt.Memory
halt_in (Err h) = h

abbrev pub fails : {A : Type 0} → Halt → Result A Halt
fails h = Err h

pub same_halt : {A : Type 0} (x y : Halt) → fails {A = A} x ≡ fails {A = A} y → x ≡ y
unfolding halt_in
same_halt x y e = ap halt_in e

-- ---- what a body does on a frame, by what it does on the frame that was taken apart

module _ (code : RawCode) (body : List Op) (frame : Frame) (turns : ℕ) (unit : Node) (node : NodeCode) (is_unit : slice_get code.shape.units frame.unit ≡ Some unit) (is_node : slice_get code.nodes unit.node ≡ Some node)
    (A : Around) (is_around : A ≡ around_of code node unit (launch_of frame) frame.lane) (ops : List Op) (is_body : ops ≡ body) (o : Opened) (opened : IsOpened frame turns o)
    (same : (b : Buffers) → lane_verdict true code body frame b turns ≡ lane_verdict false code body frame b turns) (old new : Trace) where
  abbrev acts : Around → List Op → Site → ℕ → Ending Site Exit
  acts B = ops_do false B (callees false (in_function B) 33)

  verdict_is : (b : Buffers) → lane_verdict true code body frame b turns ≡ lane_verdict_of frame turns (lane_left false (acts A ops (site_of o.registers.items o.outside b) o.outside.turns))
  verdict_is b =
      same b
      ∙ (ap (λ u. unit_lane_verdict false code u body frame b turns) is_unit
      ∙ (ap (λ n. node_lane_verdict false code n unit body frame b turns) is_node
      ∙ (ap (λ B. lane_verdict_of frame turns (lane_left false (acts B body (frame_site frame b) turns))) (sym is_around)
      ∙ (ap (λ l. lane_verdict_of frame turns (lane_left false (acts A l (frame_site frame b) turns))) (sym is_body)
      ∙ (ap (λ s. lane_verdict_of frame turns (lane_left false (acts A ops s turns))) (sym (opened.site b))
      ∙ ap (λ t. lane_verdict_of frame turns (lane_left false (acts A ops (site_of o.registers.items o.outside b) t))) (sym opened.turns_are))))))

  ends : (e : End) (registers : List ℕ) (s : Outside) (b : Buffers)
      → lane_verdict_of frame turns (lane_left false (Done (exit_of e) (site_of registers s b) s.turns)) ≡ LaneMakes (frame_after frame registers (s.shared, s.world) (turns - s.turns)) b
  ends end.Through registers s b = refl
  ends end.Out registers s b = refl
  ends end.Again registers s b = refl

  pub lane_makes : (e : End) (registers : List ℕ) (s : Outside) (shell after : Frame) → Runs (acts A ops) o.registers.items o.outside old (Ok e) registers s new
      → shell ≡ o.shell → after ≡ frame_after shell registers (s.shared, s.world) (turns - s.turns) → MakesFrame code body frame turns old new after
  lane_makes e registers s shell after d is_shell is_after = λ start a.
      verdict_is (now_of old start)
      ∙ (ap (λ v. lane_verdict_of frame turns (lane_left false v)) (d start a)
      ∙ (ends e registers s (now_of new start)
      ∙ ap (λ f. LaneMakes f (now_of new start)) (sym (is_after ∙ ap (λ f. frame_after f registers (s.shared, s.world) (turns - s.turns)) (is_shell ∙ opened.shell)))))

  pub lane_spends : (h : Halt) (registers : List ℕ) (s : Outside) → h ≡ halt.Turns → Runs (acts A ops) o.registers.items o.outside old (Err h) registers s new → SpendsFrame code body frame turns old new
  lane_spends h registers s is d = λ start a.
      verdict_is (now_of old start) ∙ ap (λ v. lane_verdict_of frame turns (lane_left false v)) (subst (λ k. Runs (acts A ops) o.registers.items o.outside old (Err k) registers s new) is d start a)

-- ---- a frame is taken apart

pub shell_is : (frame : Frame) (registers shared left : List ℕ) (grants : List Grant) → registers ≡ [] → shared ≡ [] → left ≡ [] → grants ≡ []
    → record frame { registers = registers; shared = shared; left = left; grants = grants; denied = 0 } ≡ record frame { registers = []; shared = []; left = []; grants = []; denied = 0 }
shell_is frame registers shared left grants r s l g =
    ap (λ (x : List ℕ). record frame { registers = x; shared = shared; left = left; grants = grants; denied = 0 }) r
    ∙ (ap (λ (x : List ℕ). record frame { registers = []; shared = x; left = left; grants = grants; denied = 0 }) s
    ∙ (ap (λ (x : List ℕ). record frame { registers = []; shared = []; left = x; grants = grants; denied = 0 }) l
    ∙ ap (λ (x : List Grant). record frame { registers = []; shared = []; left = []; grants = x; denied = 0 }) g))

abbrev site_with : List ℕ → List ℕ → World → Buffers → Site
site_with registers shared world buffers = record { registers = registers; shared = shared; world = record world { buffers = buffers } }

abbrev pub world_with : Frame → List (List ℕ) → World
world_with frame inputs = record { shared = []; inputs = inputs; grants = frame.grants; left = frame.left; denied = frame.denied; buffers = [] }

pub opened_site : (frame : Frame) (registers shared : List ℕ) (inputs : List (List ℕ)) (world : World) (turns : ℕ)
    → registers ≡ frame.registers → shared ≡ frame.shared → inputs ≡ record_words_of (launch_of frame) → world ≡ world_with frame inputs
    → (b : Buffers) → site_of registers (record { shared = shared; world = world; turns = turns }) b ≡ frame_site frame b
opened_site frame registers shared inputs world turns r s i w b =
    ap (λ (x : List ℕ). site_with x shared world b) r
    ∙ (ap (λ (x : List ℕ). site_with frame.registers x world b) s
    ∙ (ap (λ (x : World). site_with frame.registers frame.shared x b) w
    ∙ ap (λ (x : List (List ℕ)). site_with frame.registers frame.shared (world_with frame x) b) i))

-- what is around the lane of a frame that fits a body, by any name of the code
pub around_there : (code raw : RawCode) → raw ≡ code → (body : List Op) (frame : Frame) (fits : FrameFits code body frame) (A : Around)
    → ((u : Node) (n : NodeCode) → slice_get raw.shape.units frame.unit ≡ Some u → slice_get raw.nodes u.node ≡ Some n → A ≡ around_of raw n u (launch_of frame) frame.lane)
    → A ≡ around_of code fits.node fits.unit (launch_of frame) frame.lane
around_there code raw same body frame fits A is =
    is fits.unit fits.node (ap (λ (r : RawCode). slice_get r.shape.units frame.unit) same ∙ fits.is_unit) (ap (λ (r : RawCode). slice_get r.nodes fits.unit.node) same ∙ fits.is_node)
    ∙ ap (λ (r : RawCode). around_of r fits.node fits.unit (launch_of frame) frame.lane) same

pub stays_silent : (A : Type 0) (h : Halt) (old new : Trace) → h ≡ halt.Turns → LogsNothing {A = A} (Err h) old new → new.log ≡ old.log
stays_silent A h old new is d = subst (λ k. LogsNothing {A = A} (Err k) old new) is d

pub reads_same : (fs gs : List Function) (ops body : List Op) → gs ≡ fs → ops ≡ body → IsTrue (reads_nothing fs body) → IsTrue (reads_nothing gs ops)
reads_same fs gs ops body is same q = subst (λ g. IsTrue (reads_nothing g ops)) (sym is) (subst (λ l. IsTrue (reads_nothing fs l)) (sym same) q)
