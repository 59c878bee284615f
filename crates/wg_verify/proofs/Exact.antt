-- No journal has two verdicts.
use Rattle.std.proofs.Common.{◌≡◌, ◌∙◌, ◌⊎◌, inl, inr, ℕ, zero, suc, ◌+◌, ◌≤◌, ◌<◌, List, [], ◌∷◌, ◌++◌, length, take, Option, Some, None, refl, ap, sym, subst, arith}
use Rattle.std.proofs.lemmas.List.{length-append}
use Rattle.std.specs.Prelude.{◌≢◌, IfSome, slice_get}
use Rattle.wg_machine.specs.declared.journal.BufferLine.{BufferLine}
use Rattle.wg_machine.specs.declared.journal.Done.{Done}
use Rattle.wg_machine.specs.declared.journal.Journal.{Journal}
use Rattle.wg_machine.specs.declared.journal.Stop.{Stop}
use Rattle.wg_machine.specs.declared.journal.Tail.{Tail}
use Rattle.wg_machine.specs.declared.launch.Entry.{Entry}
use Rattle.wg_machine.specs.declared.launch.Launch.{Launch}
use Rattle.wg_machine.specs.Bytes.{live_bytes}
use Rattle.wg_machine.specs.LaunchMeaning.{Outcome}
use Rattle.wg_machine.specs.Run.{IsRun, EachState}
use Rattle.wg_machine.specs.State.{State}
use Rattle.wg_machine.specs.Step.{Passed, Step, entry_of, state_after}
use Rattle.wg_records.specs.Named.{IsNamed}
use Rattle.wg_replay.specs.declared.replay.LineFault.{LineFault}
use Rattle.wg_replay.specs.declared.replay.LineFault.TheVariants as fault
use Rattle.wg_replay.specs.Lines.{IsFault, IsRightLine, IsWrongLine, Spends, Terms}
use Rattle.wg_verify.specs.declared.verdict.Verdict.{Verdict}
use Rattle.wg_verify.specs.declared.verdict.Verdict.TheVariants as verdict
use Rattle.wg_verify.specs.Launches.{AreRight, HasFault}
use Rattle.wg_verify.specs.Tails.{Outcome as Came, buffer_lines_of, AreFirst, DifferAt, HasForm, HasWrongLine, HasWrongDone, HasWrongBuffer, HasWrongStop, IsRightDone, IsRightStop, IsRightTail, IsWholeTail}
use Rattle.wg_verify.specs.Verdicts.{outcome, verdict_of, IsVerdict, TailVerdict}
use Rattle.wg_verify.proofs.Spending.{AreToldByNames, one_named}

-- an entry makes one step at most

named_by : (t : Terms) (s : State) (e : Entry) (p : Passed) → Step t.shape t.made t.turns s e p → IsNamed t.shape s.bag e p.launch
named_by t s e p step = record {
  unit = sym (ap (λ (x : Entry). x.unit) step.names);
  inputs = sym (ap (λ (x : Entry). x.inputs) step.names);
  allowed = step.allowed;
}

same_launch : AreToldByNames → (t : Terms) (s : State) (e : Entry) (l : Launch) (p : Passed) → IsNamed t.shape s.bag e l
    → Step t.shape t.made t.turns s e p → t.made l s.buffers t.turns ≡ Some p.outcome
same_launch told t s e l p named step =
    ap (λ (k : Launch). t.made k s.buffers t.turns) (one_named told t.shape s.bag e l p.launch named (named_by t s e p step)) ∙ step.runs

some_equal : (a b : Outcome) → Some a ≡ Some b → a ≡ b
some_equal a b h = cc

some_none : (a : Option Outcome) (o : Outcome) → a ≡ Some o → a ≡ None → ⊥
some_none a o h k = cc

abbrev passed : Launch → Outcome → State → Passed
passed l o u = record { launch = l; outcome = o; after = u }

one_step : AreToldByNames → (t : Terms) (s : State) (e : Entry) (p q : Passed) → Step t.shape t.made t.turns s e p → Step t.shape t.made t.turns s e q → p ≡ q
one_step told t s e p q a b =
    let launch : p.launch ≡ q.launch = one_named told t.shape s.bag e p.launch q.launch (named_by t s e p a) (named_by t s e q b) in
    let out : p.outcome ≡ q.outcome = some_equal p.outcome q.outcome (sym a.runs ∙ same_launch told t s e p.launch q (named_by t s e p a) b) in
    let after : p.after ≡ q.after =
    a.becomes ∙ ap (λ (l : Launch). state_after t.shape s l e.at p.outcome) launch ∙ ap (λ (o : Outcome). state_after t.shape s q.launch e.at o) out ∙ sym b.becomes in
    ap (λ (l : Launch). passed l p.outcome p.after) launch ∙ ap (λ (o : Outcome). passed q.launch o p.after) out ∙ ap (λ (u : State). passed q.launch q.outcome u) after

pub record SameRun (trail others : List Passed) (final other : State) : Type 0 where
  pub trails : trail ≡ others
  pub finals : final ≡ other

one_run : AreToldByNames → (t : Terms) (s : State) (es : List Entry) (ps qs : List Passed) (u v : State)
    → IsRun t.shape t.made t.turns s es ps u → IsRun t.shape t.made t.turns s es qs v → SameRun ps qs u v
one_run told t s [] [] [] u v a b = record { trails = refl; finals = a ∙ sym b }
one_run told t s [] [] (q ∷ qs) u v a b = absurd b
one_run told t s [] (p ∷ ps) qs u v a b = absurd a
one_run told t s (e ∷ es) [] qs u v a b = absurd a
one_run told t s (e ∷ es) (p ∷ ps) [] u v a b = absurd b
one_run told t s (e ∷ es) (p ∷ ps) (q ∷ qs) u v a b =
    let same = one_step told t s e p q a.0 b.0 in
    let rest = one_run told t q.after es ps qs u v (subst (λ (x : Passed). IsRun t.shape t.made t.turns x.after es ps u) same a.1) b.1 in
    record { trails = ap (λ (x : Passed). x ∷ ps) same ∙ ap (λ (xs : List Passed). q ∷ xs) rest.trails; finals = rest.finals }

-- a line that is right has no fault

wrong_step : AreToldByNames → (t : Terms) (n : ℕ) (s : State) (e : Entry) (p : Passed) → IsWrongLine t n s e → n < t.launches → Step t.shape t.made t.turns s e p → ⊥
wrong_step told t n s e p (inl past) place step = omega arith
wrong_step told t n s e p (inr (inl none)) place step = none p.launch (named_by t s e p step)
wrong_step told t n s e p (inr (inr w)) place step =
    let same = one_named told t.shape s.bag e p.launch w.launch (named_by t s e p step) w.named in
    let out = some_equal p.outcome w.outcome (sym (same_launch told t s e w.launch p w.named step) ∙ w.runs) in
    w.differs (step.names ∙ ap (λ (k : Launch). entry_of k e.at s.next p.outcome) same ∙ ap (λ (x : Outcome). entry_of w.launch e.at s.next x) out)

wrong_spent : AreToldByNames → (t : Terms) (n : ℕ) (s : State) (e : Entry) → IsWrongLine t n s e → n < t.launches → Spends t.shape t.made t.turns s e → ⊥
wrong_spent told t n s e (inl past) place sp = omega arith
wrong_spent told t n s e (inr (inl none)) place sp = none sp.launch sp.named
wrong_spent told t n s e (inr (inr w)) place sp =
    some_none (t.made sp.launch s.buffers t.turns) w.outcome
    (ap (λ (x : Launch). t.made x s.buffers t.turns) (one_named told t.shape s.bag e sp.launch w.launch sp.named w.named) ∙ w.runs) sp.spent

spent_step : AreToldByNames → (t : Terms) (s : State) (e : Entry) (p : Passed) → Spends t.shape t.made t.turns s e → Step t.shape t.made t.turns s e p → ⊥
spent_step told t s e p sp step = some_none (t.made sp.launch s.buffers t.turns) p.outcome (same_launch told t s e sp.launch p sp.named step) sp.spent

fault_right : AreToldByNames → (t : Terms) (n : ℕ) (s : State) (e : Entry) (f : LineFault) (p : Passed) → f ≢ fault.Memory → IsFault t n s e f → IsRightLine t n s e p → ⊥
fault_right told t n s e fault.Wrong p m h r = wrong_step told t n s e p h r.place r.step
fault_right told t n s e fault.TurnsSpent p m h r = spent_step told t s e p h.1 r.step
fault_right told t n s e fault.OverBytes p m h r =
    let same = ap (λ (x : Passed). live_bytes t.shape t.handed x.after) (one_step told t s e h.passed p h.step r.step) in
    let over = h.over in
    let under = r.bytes in
    omega (arith, same, over, under)
fault_right told t n s e fault.Memory p m h r = m refl

same_fault : AreToldByNames → (t : Terms) (n : ℕ) (s : State) (e : Entry) (f g : LineFault) → f ≢ fault.Memory → g ≢ fault.Memory → IsFault t n s e f → IsFault t n s e g → f ≡ g
same_fault told t n s e fault.Wrong fault.Wrong m k a b = refl
same_fault told t n s e fault.Wrong fault.TurnsSpent m k a b = absurd (wrong_spent told t n s e a b.0 b.1)
same_fault told t n s e fault.Wrong fault.OverBytes m k a b = absurd (wrong_step told t n s e b.passed a b.place b.step)
same_fault told t n s e fault.Wrong fault.Memory m k a b = absurd (k refl)
same_fault told t n s e fault.TurnsSpent fault.Wrong m k a b = absurd (wrong_spent told t n s e b a.0 a.1)
same_fault told t n s e fault.TurnsSpent fault.TurnsSpent m k a b = refl
same_fault told t n s e fault.TurnsSpent fault.OverBytes m k a b = absurd (spent_step told t s e b.passed a.1 b.step)
same_fault told t n s e fault.TurnsSpent fault.Memory m k a b = absurd (k refl)
same_fault told t n s e fault.OverBytes fault.Wrong m k a b = absurd (wrong_step told t n s e a.passed b a.place a.step)
same_fault told t n s e fault.OverBytes fault.TurnsSpent m k a b = absurd (spent_step told t s e a.passed b.1 a.step)
same_fault told t n s e fault.OverBytes fault.OverBytes m k a b = refl
same_fault told t n s e fault.OverBytes fault.Memory m k a b = absurd (k refl)
same_fault told t n s e fault.Memory g m k a b = absurd (m refl)

-- what stands in front of a right run is right

record Front (t : Terms) (s : State) (before : List Entry) (e : Entry) (P : State → Type 0) : Type 0 where
  trail : List Passed
  state : State
  passed : Passed
  run : IsRun t.shape t.made t.turns s before trail state
  step : Step t.shape t.made t.turns state e passed
  after : P passed.after

first_state : (P : State → Type 0) (s : State) (trail : List Passed) → EachState P s trail → P s
first_state P s [] h = h
first_state P s (p ∷ trail) h = h.0

front_of : (t : Terms) (P : State → Type 0) (s : State) (before : List Entry) (e : Entry) (later : List Entry) (trail : List Passed) (final : State)
    → IsRun t.shape t.made t.turns s (before ++ e ∷ later) trail final → EachState P s trail → Front t s before e P
front_of t P s [] e later [] final run states = absurd run
front_of t P s [] e later (p ∷ trail) final run states =
    record { trail = []; state = s; passed = p; run = refl; step = run.0; after = first_state P p.after trail states.1 }
front_of t P s (b ∷ before) e later [] final run states = absurd run
front_of t P s (b ∷ before) e later (p ∷ trail) final run states =
    let rest = front_of t P p.after before e later trail final run.1 states.1 in
    record { trail = p ∷ rest.trail; state = rest.state; passed = rest.passed; run = (run.0, rest.run); step = rest.step; after = rest.after }

-- lines of which one has a fault are not all right

not_all_right : AreToldByNames → (t : Terms) (first : State) (entries : List Entry) (line : ℕ) (f : LineFault) (later : List Entry) (whole : List Entry) (trail : List Passed) (final : State)
    → f ≢ fault.Memory → (h : HasFault t first entries line f) → whole ≡ h.before ++ h.entry ∷ later → AreRight t first whole trail final → ⊥
not_all_right told t first entries line f later whole trail final m h split right =
    let P = λ (u : State). live_bytes t.shape t.handed u ≤ t.bytes in
    let front = front_of t P first h.before h.entry later trail final (subst (λ (es : List Entry). IsRun t.shape t.made t.turns first es trail final) split right.run) right.bytes in
    let same = one_run told t first h.before h.trail front.trail h.state front.state h.right.run front.run in
    let few = right.few in
    let long = ap (λ (es : List Entry). length es) split in
    let more = length-append h.before (h.entry ∷ later) in
    let place : length h.before < t.launches = omega (arith, few, long, more) in
    fault_right told t (length h.before) front.state h.entry f front.passed m (subst (λ (u : State). IsFault t (length h.before) u h.entry f) same.finals h.fault)
    (record { place = place; step = front.step; bytes = front.after })

-- of two places in a list one is before the other, or they are one

data Places (xs : List Entry) (x : Entry) (ys : List Entry) (y : Entry) : Type 0 where
  together : xs ≡ ys → x ≡ y → Places xs x ys y
  sooner : (more : List Entry) → ys ≡ xs ++ x ∷ more → Places xs x ys y
  later_on : (more : List Entry) → xs ≡ ys ++ y ∷ more → Places xs x ys y

places : (xs : List Entry) (x : Entry) (zs ys : List Entry) (y : Entry) (bs : List Entry) → xs ++ x ∷ zs ≡ ys ++ y ∷ bs → Places xs x ys y
places [] x zs [] y bs h = together refl cc
places [] x zs (b ∷ ys) y bs h = let e : b ≡ x = cc in sooner ys (ap (λ (z : Entry). z ∷ ys) e)
places (a ∷ xs) x zs [] y bs h = let e : a ≡ y = cc in later_on xs (ap (λ (z : Entry). z ∷ xs) e)
places (a ∷ xs) x zs (b ∷ ys) y bs h =
    let e : a ≡ b = cc in
    let rest : xs ++ x ∷ zs ≡ ys ++ y ∷ bs = cc in
    more a b xs x ys y e (places xs x zs ys y bs rest)
  where
    more : (a b : Entry) (xs : List Entry) (x : Entry) (ys : List Entry) (y : Entry) → a ≡ b → Places xs x ys y → Places (a ∷ xs) x (b ∷ ys) y
    more a b xs x ys y e (together p q) = together (ap (λ (z : Entry). z ∷ xs) e ∙ ap (λ (zs : List Entry). b ∷ zs) p) q
    more a b xs x ys y e (sooner zs p) = sooner zs (ap (λ (z : Entry). z ∷ ys) (sym e) ∙ ap (λ (ws : List Entry). a ∷ ws) p)
    more a b xs x ys y e (later_on zs p) = later_on zs (ap (λ (z : Entry). z ∷ xs) e ∙ ap (λ (ws : List Entry). b ∷ ws) p)

record SameFault (f g : LineFault) (n m : ℕ) : Type 0 where
  faults : f ≡ g
  lines : n ≡ m

one_fault : AreToldByNames → (t : Terms) (first : State) (entries : List Entry) (n m : ℕ) (f g : LineFault) → f ≢ fault.Memory → g ≢ fault.Memory
    → (h : HasFault t first entries n f) → (k : HasFault t first entries m g) → Places h.before h.entry k.before k.entry → SameFault f g n m
one_fault told t first entries n m f g a b h k (together same this) =
    let run = one_run told t first k.before h.trail k.trail h.state k.state (subst (λ (es : List Entry). IsRun t.shape t.made t.turns first es h.trail h.state) same h.right.run) k.right.run in
    let there : IsFault t (length k.before) k.state k.entry f =
    subst (λ (u : State). IsFault t (length k.before) u k.entry f) run.finals
    (subst (λ (x : Entry). IsFault t (length k.before) h.state x f) this
    (subst (λ (es : List Entry). IsFault t (length es) h.state h.entry f) same h.fault)) in
    record {
      faults = same_fault told t (length k.before) k.state k.entry f g a b there k.fault;
      lines = h.number ∙ ap (λ (es : List Entry). length es + 1) same ∙ sym k.number;
    }
one_fault told t first entries n m f g a b h k (sooner more split) = absurd (not_all_right told t first entries n f more k.before k.trail k.state a h split k.right)
one_fault told t first entries n m f g a b h k (later_on more split) = absurd (not_all_right told t first entries m g more h.before h.trail h.state b k split h.right)

-- a tail has one verdict

other_stop : (t : Tail) (s : Stop) → t.stop ≡ Some s → t.stop ≡ None → ⊥
other_stop t s there none = cc

at_some : {X : Type 0} (P : X → Type 0) (o : Option X) (x : X) → o ≡ Some x → IfSome o P → P x
at_some P o x is h = subst (λ y. IfSome y P) is h

get_first : (n : ℕ) (xs : List BufferLine) (k : ℕ) → k < n → slice_get (take n xs) k ≡ slice_get xs k
get_first zero xs k less = absurd (omega arith)
get_first (suc n) [] k less = refl
get_first (suc n) (x ∷ xs) zero less = refl
get_first (suc n) (x ∷ xs) (suc k) less = get_first n xs k (omega arith)

no_first : (lines all : List BufferLine) (k : ℕ) → AreFirst lines all → DifferAt k lines all → ⊥
no_first lines all k first differ =
    differ.here (ap (λ (ls : List BufferLine). slice_get ls k) (sym first) ∙ get_first (length lines) all k differ.inside)

get_before : (lines all : List BufferLine) (k m : ℕ) → k < m → DifferAt m lines all → DifferAt k lines all → ⊥
get_before lines all k m less a b =
    b.here (sym (get_first m lines k less) ∙ ap (λ (ls : List BufferLine). slice_get ls k) a.before ∙ get_first m all k less)

right_of_whole : (t : Terms) (o : Came) (tail : Tail) (line : ℕ) → IsWholeTail t o tail → HasWrongLine t o tail line → ⊥
right_of_whole t o tail line w (inl d) = d.wrong (record { empty = w.empty; says = done_equal d.done _ (sym d.there ∙ w.done) })
  where
    done_equal : (a b : Done) → Some a ≡ Some b → a ≡ b
    done_equal a b h = cc
right_of_whole t o tail line w (inr (inl b)) = b.differ.here (ap (λ (ls : List BufferLine). slice_get ls b.place) w.buffers)
right_of_whole t o tail line w (inr (inr s)) = other_stop tail s.stop s.there w.stop

right_of_cut : (t : Terms) (o : Came) (tail : Tail) (line : ℕ) → IsRightTail t o tail → HasWrongLine t o tail line → ⊥
right_of_cut t o tail line r (inl d) = d.wrong (at_some (IsRightDone t o) tail.done d.done d.there r.done)
right_of_cut t o tail line r (inr (inl b)) = no_first tail.buffers (buffer_lines_of t o) b.place r.buffers b.differ
right_of_cut t o tail line r (inr (inr s)) = s.wrong (at_some (IsRightStop t o.launches o.final) tail.stop s.stop s.there r.stop)

done_or_buffer : (t : Terms) (o : Came) (tail : Tail) (n m : ℕ) → HasWrongDone t o tail n → HasWrongBuffer t o tail m → ⊥
done_or_buffer t o tail n m d b = d.wrong (at_some (IsRightDone t o) tail.done d.done d.there b.done)

buffer_or_stop : (t : Terms) (o : Came) (tail : Tail) (n m : ℕ) → HasForm tail → HasWrongBuffer t o tail n → HasWrongStop t o tail m → ⊥
buffer_or_stop t o tail n m form b s = by (form.one)
  where
    empty : tail.done ≡ None → ⊥
    empty none =
        let long = ap (λ (ls : List BufferLine). length ls) (form.buffers none) in
        let inside = b.differ.inside in
        omega (arith, long, inside)

    by : (tail.done ≡ None) ⊎ (tail.stop ≡ None) → ⊥
    by (inl none) = empty none
    by (inr none) = other_stop tail s.stop s.there none

one_buffer : (t : Terms) (o : Came) (tail : Tail) (n m : ℕ) → HasWrongBuffer t o tail n → HasWrongBuffer t o tail m → n ≡ m
one_buffer t o tail n m a b =
    let x = a.number in
    let y = b.number in
    let le : a.place ≤ b.place = not_less b.place a.place (λ less. get_before tail.buffers (buffer_lines_of t o) b.place a.place less a.differ b.differ) in
    let ge : b.place ≤ a.place = not_less a.place b.place (λ less. get_before tail.buffers (buffer_lines_of t o) a.place b.place less b.differ a.differ) in
    omega (arith, x, y, le, ge)
  where
    not_less : (k m : ℕ) → (k < m → ⊥) → m ≤ k
    not_less k m h = omega (arith, h)

one_wrong : (t : Terms) (o : Came) (tail : Tail) (n m : ℕ) → HasForm tail → HasWrongLine t o tail n → HasWrongLine t o tail m → n ≡ m
one_wrong t o tail n m form (inl a) (inl b) = a.number ∙ sym b.number
one_wrong t o tail n m form (inl a) (inr (inl b)) = absurd (done_or_buffer t o tail n m a b)
one_wrong t o tail n m form (inl a) (inr (inr b)) = a.number ∙ sym b.number
one_wrong t o tail n m form (inr (inl a)) (inl b) = absurd (done_or_buffer t o tail m n b a)
one_wrong t o tail n m form (inr (inl a)) (inr (inl b)) = one_buffer t o tail n m a b
one_wrong t o tail n m form (inr (inl a)) (inr (inr b)) = absurd (buffer_or_stop t o tail n m form a b)
one_wrong t o tail n m form (inr (inr a)) (inl b) = a.number ∙ sym b.number
one_wrong t o tail n m form (inr (inr a)) (inr (inl b)) = absurd (buffer_or_stop t o tail m n form b a)
one_wrong t o tail n m form (inr (inr a)) (inr (inr b)) = a.number ∙ sym b.number

one_tail : (t : Terms) (o : Came) (tail : Tail) (v w : Verdict) → HasForm tail → v ≢ verdict.Memory → w ≢ verdict.Memory
    → TailVerdict t o tail v → TailVerdict t o tail w → v ≡ w
one_tail t o tail verdict.Complete verdict.Complete form a b h k = refl
one_tail t o tail verdict.Complete verdict.Prefix form a b h k = absurd (k.cut h)
one_tail t o tail verdict.Complete (verdict.Wrong m) form a b h k = absurd (right_of_whole t o tail m h k)
one_tail t o tail verdict.Complete (verdict.OverBytes m) form a b h k = absurd k
one_tail t o tail verdict.Complete (verdict.TurnsSpent m) form a b h k = absurd k
one_tail t o tail verdict.Complete verdict.Memory form a b h k = absurd (b refl)
one_tail t o tail verdict.Prefix verdict.Complete form a b h k = absurd (h.cut k)
one_tail t o tail verdict.Prefix verdict.Prefix form a b h k = refl
one_tail t o tail verdict.Prefix (verdict.Wrong m) form a b h k = absurd (right_of_cut t o tail m h.right k)
one_tail t o tail verdict.Prefix (verdict.OverBytes m) form a b h k = absurd k
one_tail t o tail verdict.Prefix (verdict.TurnsSpent m) form a b h k = absurd k
one_tail t o tail verdict.Prefix verdict.Memory form a b h k = absurd (b refl)
one_tail t o tail (verdict.Wrong n) verdict.Complete form a b h k = absurd (right_of_whole t o tail n k h)
one_tail t o tail (verdict.Wrong n) verdict.Prefix form a b h k = absurd (right_of_cut t o tail n k.right h)
one_tail t o tail (verdict.Wrong n) (verdict.Wrong m) form a b h k = ap (λ (x : ℕ). verdict.Wrong x) (one_wrong t o tail n m form h k)
one_tail t o tail (verdict.Wrong n) (verdict.OverBytes m) form a b h k = absurd k
one_tail t o tail (verdict.Wrong n) (verdict.TurnsSpent m) form a b h k = absurd k
one_tail t o tail (verdict.Wrong n) verdict.Memory form a b h k = absurd (b refl)
one_tail t o tail (verdict.OverBytes n) w form a b h k = absurd h
one_tail t o tail (verdict.TurnsSpent n) w form a b h k = absurd h
one_tail t o tail verdict.Memory w form a b h k = absurd (a refl)

-- a verdict is that of a launch line or that of the tail

record OfLaunch (t : Terms) (first : State) (entries : List Entry) (v : Verdict) : Type 0 where
  what : LineFault
  line : ℕ
  cause : what ≢ fault.Memory
  is : v ≡ verdict_of what line
  has : HasFault t first entries line what

record OfTail (t : Terms) (first : State) (j : Journal) (v : Verdict) : Type 0 where
  trail : List Passed
  final : State
  right : AreRight t first j.entries trail final
  says : TailVerdict t (outcome first (length j.entries) trail final) j.tail v

sort : (t : Terms) (first : State) (j : Journal) (v : Verdict) → v ≢ verdict.Memory → IsVerdict t first j v → OfLaunch t first j.entries v ⊎ OfTail t first j v
sort t first j verdict.Complete m h = inr (record { trail = h.trail; final = h.final; right = h.right; says = h.says })
sort t first j verdict.Prefix m h = inr (record { trail = h.trail; final = h.final; right = h.right; says = h.says })
sort t first j (verdict.Wrong n) m (inl h) = inl (record { what = fault.Wrong; line = n; cause = λ e. cc; is = refl; has = h })
sort t first j (verdict.Wrong n) m (inr h) = inr (record { trail = h.trail; final = h.final; right = h.right; says = h.says })
sort t first j (verdict.OverBytes n) m h = inl (record { what = fault.OverBytes; line = n; cause = λ e. cc; is = refl; has = h })
sort t first j (verdict.TurnsSpent n) m h = inl (record { what = fault.TurnsSpent; line = n; cause = λ e. cc; is = refl; has = h })
sort t first j verdict.Memory m h = absurd (m refl)

fault_or_tail : AreToldByNames → (t : Terms) (first : State) (j : Journal) (v w : Verdict) → OfLaunch t first j.entries v → OfTail t first j w → ⊥
fault_or_tail told t first j v w a b = not_all_right told t first j.entries a.line a.what a.has.later j.entries b.trail b.final a.cause a.has a.has.split b.right

pub one_verdict : AreToldByNames → (t : Terms) (first : State) (j : Journal) (v w : Verdict) → HasForm j.tail → v ≢ verdict.Memory → w ≢ verdict.Memory
    → IsVerdict t first j v → IsVerdict t first j w → v ≡ w
one_verdict told t first j v w form m k h i = by (sort t first j v m h) (sort t first j w k i)
  where
    by : OfLaunch t first j.entries v ⊎ OfTail t first j v → OfLaunch t first j.entries w ⊎ OfTail t first j w → v ≡ w
    by (inl a) (inl b) =
        let same = one_fault told t first j.entries a.line b.line a.what b.what a.cause b.cause a.has b.has
        (places a.has.before a.has.entry a.has.later b.has.before b.has.entry b.has.later (sym a.has.split ∙ b.has.split)) in
        a.is ∙ ap (λ (f : LineFault). verdict_of f a.line) same.faults ∙ ap (λ (n : ℕ). verdict_of b.what n) same.lines ∙ sym b.is
    by (inl a) (inr b) = absurd (fault_or_tail told t first j v w a b)
    by (inr a) (inl b) = absurd (fault_or_tail told t first j w v b a)
    by (inr a) (inr b) =
        let n = length j.entries in
        let same = one_run told t first j.entries a.trail b.trail a.final b.final a.right.run b.right.run in
        let says = subst (λ (u : State). TailVerdict t (outcome first n b.trail u) j.tail v) same.finals (subst (λ (ps : List Passed). TailVerdict t (outcome first n ps a.final) j.tail v) same.trails a.says) in
        one_tail t (outcome first n b.trail b.final) j.tail v w form m k says b.says
