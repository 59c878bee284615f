-- Valid operations run alike with and without the tests: nothing goes wrong.
use Rattle.std.proofs.Common.{◌≡◌, ℕ, zero, suc, ◌+◌, ◌-◌, Bool, true, false, List, [], ◌∷◌, length, map, Option, Some, None, refl, sym, ap, ◌∙◌, subst}
use Rattle.std.specs.Prelude.{◌&&◌, nat_lt, if◌then◌else◌, slice_index, slice_get, slice_set}
use Rattle.std.proofs.lemmas.List.{length-set, length-map}
use Rattle.wg_words.specs.Each.{Each}
use Rattle.wg_words.specs.Truth.{is_true}
use Rattle.wg_state.specs.Turns.{Action, Ending, Spent, Done, and_then, ◌>>=◌, ◌>>◌, pure, turn}
use Rattle.wg_code.specs.declared.op.Op.{Op, roll-Op, fold-roll-Op, ind-Op, map-Op}
use Rattle.wg_code.specs.declared.op.Op.TheOpen.{Op-F}
use Rattle.wg_code.specs.Lane.{Around, Site, Exit, Through, Out, Again, Wrong, get_all, set_all, puts, with_ranged}
use Rattle.wg_code.specs.Flow.{Outside, Callees, through, goes_on, stepped, body_then_step, tested, one_turn, repeats, turns_below, loop, with_registers, give_back}
use Rattle.wg_code.specs.Named.{Tables, names_there, takes}
use Rattle.wg_code.specs.OpMeaning.{does, tables_of, op_step, op_does, ops_do}
use Rattle.wg_code.specs.Operators.{is_comparison}
use Rattle.wg_code.specs.Valid.{Scope, Judged, valid_step, is_valid, are_valid, all_valid, is_below}

-- ---- truths

pub left : (a b : Bool) → (a && b) ≡ true → a ≡ true
left true b e = refl
left false b e = e

pub right : (a b : Bool) → (a && b) ≡ true → b ≡ true
right true b e = e
right false b e = absurd (cc)

-- ---- endings that fit

-- a `Break` or a `Continue` comes out of a loop's blocks alone
abbrev pub ExitFits : Bool → Exit → Type 0
ExitFits in_loop Through = Unit {0}
ExitFits in_loop Out = in_loop ≡ true
ExitFits in_loop Again = in_loop ≡ true
ExitFits in_loop Wrong = ⊥

-- as many registers and groupshared words as before
abbrev pub Fits : Bool → ℕ → ℕ → Ending Site Exit → Type 0
Fits s r sh Spent = Unit {0}
Fits s r sh (Done exit f t) = ExitFits s exit × (length f.registers ≡ r) × (length f.shared ≡ sh)

abbrev pub Alike : Bool → ℕ → ℕ → Action Site Exit → Action Site Exit → Type 0
Alike s r sh m n = (f : Site) (t : ℕ) → length f.registers ≡ r → length f.shared ≡ sh → (m f t ≡ n f t) × Fits s r sh (n f t)

-- a callee's answer: its results, and as many groupshared words
abbrev pub CalleeFits : ℕ → Ending Outside (Option (List ℕ)) → Type 0
CalleeFits sh Spent = Unit {0}
CalleeFits sh (Done None w t) = ⊥
CalleeFits sh (Done (Some words) w t) = length w.0 ≡ sh

abbrev pub CalleeAlike : ℕ → Action Outside (Option (List ℕ)) → Action Outside (Option (List ℕ)) → Type 0
CalleeAlike sh m n = (w : Outside) (t : ℕ) → length w.0 ≡ sh → (m w t ≡ n w t) × CalleeFits sh (n w t)

-- the functions below a depth, where they are called with as many arguments and results as they have
abbrev pub CalleesAlike : Around → ℕ → ℕ → Callees → Callees → Type 0
CalleesAlike A depth sh C D = (function : ℕ) (values : List ℕ) (results : ℕ)
    → takes (length values) results (slice_get A.functions function) ≡ true → is_below depth (slice_get A.functions function) ≡ true
    → CalleeAlike sh (C function values) (D function values)

module _ (s q : Bool) (r sh : ℕ) where
  after : (o : Ending Site Exit) (K L : Exit → Action Site Exit) → Fits q r sh o → ((exit : Exit) → ExitFits q exit → Alike s r sh (K exit) (L exit)) → (and_then o K ≡ and_then o L) × Fits s r sh (and_then o L)
  after Spent K L g h = (refl, tt)
  after (Done exit f t) K L g h = h exit g.0 f t g.1 g.2

  pub bind_alike : (m n : Action Site Exit) (K L : Exit → Action Site Exit) → Alike q r sh m n → ((exit : Exit) → ExitFits q exit → Alike s r sh (K exit) (L exit)) → Alike s r sh (m >>= K) (n >>= L)
  bind_alike m n K L a h = λ f t e1 e2.
      let p = a f t e1 e2 in
      let g = after (n f t) K L p.1 h in
      (ap (λ o. and_then o K) p.0 ∙ g.0, g.1)

module _ (s : Bool) (r sh : ℕ) where
  through_alike : (m n : Action Site Exit) → Alike s r sh m n → (exit : Exit) → ExitFits s exit → Alike s r sh (through exit m) (through exit n)
  through_alike m n a Through g = a
  through_alike m n a Out g = λ f t e1 e2. (refl, (g, e1, e2))
  through_alike m n a Again g = λ f t e1 e2. (refl, (g, e1, e2))
  through_alike m n a Wrong g = absurd g

  goes_on_alike : (m n : Action Site Exit) → Alike s r sh m n → (exit : Exit) → ExitFits true exit → Alike s r sh (goes_on exit m) (goes_on exit n)
  goes_on_alike m n a Through g = a
  goes_on_alike m n a Out g = λ f t e1 e2. (refl, (tt, e1, e2))
  goes_on_alike m n a Again g = a
  goes_on_alike m n a Wrong g = absurd g

  if_alike : (b : Bool) (m n x y : Action Site Exit) → Alike s r sh m n → Alike s r sh x y → Alike s r sh (if b then m else x) (if b then n else y)
  if_alike true m n x y a c = a
  if_alike false m n x y a c = c

  pure_alike : Alike s r sh (pure Through) (pure Through)
  pure_alike = λ f t e1 e2. (refl, (tt, e1, e2))

  turn_alike : (m n : Action Site Exit) → Alike s r sh m n → Alike s r sh (turn >> m) (turn >> n)
  turn_alike m n a f zero e1 e2 = (refl, tt)
  turn_alike m n a f (suc t) e1 e2 = a f t e1 e2

-- ---- loops

module _ (s : Bool) (r sh a : ℕ) (T U B D S V : Action Site Exit) (tests : Alike true r sh T U) (bodies : Alike true r sh B D) (steps : Alike true r sh S V) where
  again_alike : Alike true r sh (pure Again) (pure Again)
  again_alike = λ f t e1 e2. (refl, (refl, e1, e2))

  stepped_alike : Alike true r sh (stepped S) (stepped V)
  stepped_alike = bind_alike true true r sh S V _ _ steps (goes_on_alike true r sh _ _ again_alike)

  entered_alike : Alike true r sh (turn >> body_then_step B S) (turn >> body_then_step D V)
  entered_alike = turn_alike true r sh (body_then_step B S) (body_then_step D V) (bind_alike true true r sh B D _ _ bodies (goes_on_alike true r sh _ _ stepped_alike))

  tested_alike : Alike true r sh (tested a B S) (tested a D V)
  tested_alike f t e1 e2 = if_alike true r sh (is_true (slice_index f.registers a)) _ _ _ _ entered_alike (pure_alike true r sh) f t e1 e2

  turn_ends_alike : Alike true r sh (one_turn T a B S) (one_turn U a D V)
  turn_ends_alike = bind_alike true true r sh T U _ _ tests (goes_on_alike true r sh _ _ tested_alike)

  repeats_alike : (m n : Action Site Exit) → Alike s r sh m n → (exit : Exit) → ExitFits true exit → Alike s r sh (repeats exit m) (repeats exit n)
  repeats_alike m n h Through g = pure_alike s r sh
  repeats_alike m n h Out g = pure_alike s r sh
  repeats_alike m n h Again g = h
  repeats_alike m n h Wrong g = absurd g

  turns_alike : (bound : ℕ) → Alike s r sh (turns_below bound T a B S) (turns_below bound U a D V)
  turns_alike zero = λ f t e1 e2. (refl, tt)
  turns_alike (suc bound) = bind_alike s true r sh (one_turn T a B S) (one_turn U a D V) _ _ turn_ends_alike (repeats_alike _ _ (turns_alike bound))

  pub loop_alike : Alike s r sh (loop T a B S) (loop U a D V)
  loop_alike f t e1 e2 = turns_alike (suc t) f t e1 e2

-- ---- registers

length-set_all : (words registers values : List ℕ) → length (set_all words registers values) ≡ length words
length-set_all words [] values = refl
length-set_all words (r ∷ rest) [] = refl
length-set_all words (r ∷ rest) (v ∷ values) = length-set_all (slice_set words r v) rest values ∙ length-set words r v

length-if : (b : Bool) (x y : List ℕ) → length x ≡ length y → length (if b then x else y) ≡ length y
length-if true x y e = e
length-if false x y e = refl

length-with_ranged : (words : List ℕ) (from to at v : ℕ) → length (with_ranged words from to at v) ≡ length words
length-with_ranged words from to at v = length-if (nat_lt at (to - from)) (slice_set words (from + at) v) words (length-set words (from + at) v)

module _ (s : Bool) (r sh : ℕ) where
  called_fits : (f : Site) (results : List ℕ) (o : Ending Outside (Option (List ℕ))) → length f.registers ≡ r → CalleeFits sh o → Fits s r sh (and_then (with_registers f.registers o) (give_back results))
  called_fits f results Spent e g = tt
  called_fits f results (Done None w t) e g = absurd g
  called_fits f results (Done (Some words) w t) e g = (tt, length-set_all f.registers results words ∙ e, g)

  wide_fits : (b : Bool) (f : Site) (d v x y t : ℕ) → length f.registers ≡ r → length f.shared ≡ sh
      → Fits s r sh ((if b then puts d v else (puts d x >> puts (d + 1) y)) f t)
  wide_fits true f d v x y t e1 e2 = (tt, length-set f.registers d v ∙ e1, e2)
  wide_fits false f d v x y t e1 e2 = (tt, length-set (slice_set f.registers d x) (d + 1) y ∙ (length-set f.registers d x ∙ e1), e2)

-- ---- operations

abbrev Act : Type 0
Act = Action Site Exit

module _ (k : Scope) (A : Around) (r sh : ℕ) (C D : Callees) where
  abbrev pub Runs : Op → Type 0
  Runs op = (s : Bool) → is_valid k op s ≡ true → Alike s r sh (op_does true A C op) (op_does false A D op)

module _ (k : Scope) (A : Around) (r sh : ℕ) (tables : k.tables ≡ tables_of A r sh) (C D : Callees) (calls : CalleesAlike A k.depth sh C D) where
  -- what is named is there, so the test passes
  test_passes : (op : Op-F Act) → names_there k.tables op ≡ true → (f : Site) (t : ℕ) → length f.registers ≡ r → length f.shared ≡ sh
      → op_step true A C op f t ≡ does A C op f t
  test_passes op there f t e1 e2 =
      let here : tables_of A (length f.registers) (length f.shared) ≡ k.tables = ap (λ n. tables_of A n (length f.shared)) e1 ∙ (ap (λ n. tables_of A r n) e2 ∙ sym tables) in
      let passes : names_there (tables_of A (length f.registers) (length f.shared)) op ≡ true = ap (λ T. names_there T op) here ∙ there in
      rw passes refl

  -- an operation without blocks and calls
  simple : (s : Bool) (op : Op-F Act) (rest : Bool) → (names_there k.tables op && rest) ≡ true
      → ((f : Site) (t : ℕ) → does A C op f t ≡ does A D op f t)
      → ((f : Site) (t : ℕ) → length f.registers ≡ r → length f.shared ≡ sh → Fits s r sh (does A D op f t))
      → Alike s r sh (op_step true A C op) (op_step false A D op)
  simple s op rest valid same fits f t e1 e2 = (test_passes op (left (names_there k.tables op) rest valid) f t e1 e2 ∙ same f t, fits f t e1 e2)

  in_order_alike : (s : Bool) (ops : List Op) → Each (Runs k A r sh C D) ops → all_valid s (map (is_valid k) ops) ≡ true → Alike s r sh (ops_do true A C ops) (ops_do false A D ops)
  in_order_alike s [] runs valid = pure_alike s r sh
  in_order_alike s (op ∷ ops) runs valid =
      bind_alike s s r sh (op_does true A C op) (op_does false A D op) _ _ (runs.0 s (left (is_valid k op s) (all_valid s (map (is_valid k) ops)) valid))
      (through_alike s r sh _ _ (in_order_alike s ops runs.1 (right (is_valid k op s) (all_valid s (map (is_valid k) ops)) valid)))

  -- a write of a register
  put_fits : (s : Bool) (f : Site) (d v t : ℕ) → length f.registers ≡ r → length f.shared ≡ sh → Fits s r sh (puts d v f t)
  put_fits s f d v t e1 e2 = (tt, length-set f.registers d v ∙ e1, e2)

  pub all_run : {B : Type 0} (p : B → Op) → ((b : B) → Runs k A r sh C D (p b)) → (bs : List B) → Each (Runs k A r sh C D) (map p bs)
  all_run p runs [] = tt
  all_run p runs (b ∷ bs) = (runs b, all_run p runs bs)

  abbrev Layer : {B : Type 0} → (B → Op) → Op-F B → Type 0
  Layer {B} p y = (s : Bool) → valid_step k (map-Op Op Judged (is_valid k) (map-Op B Op p y)) s ≡ true
      → Alike s r sh (op_step true A C (map-Op Op Act (op_does true A C) (map-Op B Op p y))) (op_step false A D (map-Op Op Act (op_does false A D) (map-Op B Op p y)))

  layer : {B : Type 0} (p : B → Op) → ((b : B) → Runs k A r sh C D (p b)) → (y : Op-F B) → Layer p y
  layer p runs (Op-F.Set d value) = λ s v. simple s (Op-F.Set d value) _ v (λ f t. refl) (λ f t e1 e2. put_fits s f d _ t e1 e2)
  layer p runs (Op-F.Copy d a) = λ s v. simple s (Op-F.Copy d a) _ v (λ f t. refl) (λ f t e1 e2. put_fits s f d _ t e1 e2)
  layer p runs (Op-F.Unary op d a) = λ s v. simple s (Op-F.Unary op d a) _ v (λ f t. refl) (λ f t e1 e2. put_fits s f d _ t e1 e2)
  layer p runs (Op-F.Binary op d a b) = λ s v. simple s (Op-F.Binary op d a b) _ v (λ f t. refl) (λ f t e1 e2. put_fits s f d _ t e1 e2)
  layer p runs (Op-F.LocalGet d from to index) = λ s v. simple s (Op-F.LocalGet d from to index) _ v (λ f t. refl) (λ f t e1 e2. put_fits s f d _ t e1 e2)
  layer p runs (Op-F.LocalPut from to index a) = λ s v. simple s (Op-F.LocalPut from to index a) _ v (λ f t. refl)
      (λ f t e1 e2. (tt, length-with_ranged f.registers from to (slice_index f.registers index) (slice_index f.registers a) ∙ e1, e2))
  layer p runs (Op-F.SharedGet d from to index) = λ s v. simple s (Op-F.SharedGet d from to index) _ v (λ f t. refl) (λ f t e1 e2. put_fits s f d _ t e1 e2)
  layer p runs (Op-F.SharedPut from to index a) = λ s v. simple s (Op-F.SharedPut from to index a) _ v (λ f t. refl)
      (λ f t e1 e2. (tt, e1, length-with_ranged f.shared from to (slice_index f.registers index) (slice_index f.registers a) ∙ e2))
  layer p runs (Op-F.SharedAtomic op d from to index compare value) = λ s v. simple s (Op-F.SharedAtomic op d from to index compare value) _ v (λ f t. refl)
      (λ f t e1 e2. (tt, length-set f.registers d _ ∙ e1, length-with_ranged f.shared from to (slice_index f.registers index) _ ∙ e2))
  layer p runs (Op-F.InputGet d input word) = λ s v. simple s (Op-F.InputGet d input word) _ v (λ f t. refl) (λ f t e1 e2. put_fits s f d _ t e1 e2)
  layer p runs (Op-F.InputPut input word a) = λ s v. simple s (Op-F.InputPut input word a) _ v (λ f t. refl) (λ f t e1 e2. (tt, e1, e2))
  layer p runs (Op-F.InputCount d) = λ s v. simple s (Op-F.InputCount d) _ v (λ f t. refl) (λ f t e1 e2. put_fits s f d _ t e1 e2)
  layer p runs (Op-F.Level d) = λ s v. simple s (Op-F.Level d) _ v (λ f t. refl) (λ f t e1 e2. put_fits s f d _ t e1 e2)
  layer p runs (Op-F.System d which) = λ s v. simple s (Op-F.System d which) _ v (λ f t. refl) (λ f t e1 e2. put_fits s f d _ t e1 e2)
  layer p runs (Op-F.BufferGet d buffer word) = λ s v. simple s (Op-F.BufferGet d buffer word) _ v (λ f t. refl) (λ f t e1 e2. put_fits s f d _ t e1 e2)
  layer p runs (Op-F.BufferPut buffer word a) = λ s v. simple s (Op-F.BufferPut buffer word a) _ v (λ f t. refl) (λ f t e1 e2. (tt, e1, e2))
  layer p runs (Op-F.BufferAdd buffer word a) = λ s v. simple s (Op-F.BufferAdd buffer word a) _ v (λ f t. refl) (λ f t e1 e2. (tt, e1, e2))
  layer p runs (Op-F.BufferAtomic op d buffer word compare value) = λ s v. simple s (Op-F.BufferAtomic op d buffer word compare value) _ v (λ f t. refl) (λ f t e1 e2. (tt, length-set f.registers d _ ∙ e1, e2))
  layer p runs (Op-F.BufferLength d buffer) = λ s v. simple s (Op-F.BufferLength d buffer) _ v (λ f t. refl) (λ f t e1 e2. put_fits s f d _ t e1 e2)
  layer p runs (Op-F.Valid d output element) = λ s v. simple s (Op-F.Valid d output element) _ v (λ f t. refl) (λ f t e1 e2. put_fits s f d _ t e1 e2)
  layer p runs (Op-F.Request handle element amount) = λ s v. simple s (Op-F.Request handle element amount) _ v (λ f t. refl) (λ f t e1 e2. (tt, e1, e2))
  layer p runs (Op-F.Increment output element amount) = λ s v. simple s (Op-F.Increment output element amount) _ v (λ f t. refl) (λ f t e1 e2. (tt, e1, e2))
  layer p runs (Op-F.RecordGet d handle index from to word) = λ s v. simple s (Op-F.RecordGet d handle index from to word) _ v (λ f t. refl) (λ f t e1 e2. put_fits s f d _ t e1 e2)
  layer p runs (Op-F.RecordPut handle index from to word a) = λ s v. simple s (Op-F.RecordPut handle index from to word a) _ v (λ f t. refl) (λ f t e1 e2. (tt, e1, e2))
  layer p runs (Op-F.Complete handle) = λ s v. simple s (Op-F.Complete handle) _ v (λ f t. refl) (λ f t e1 e2. (tt, e1, e2))
  layer {B} p runs (Op-F.If a first second) = λ s v f t e1 e2.
      let both = right (names_there {A = Act} k.tables (Op-F.If a [] [])) (true && (all_valid s (map (is_valid k) (map p first)) && all_valid s (map (is_valid k) (map p second)))) v in
      let one = left (all_valid s (map (is_valid k) (map p first))) (all_valid s (map (is_valid k) (map p second))) both in
      let two = right (all_valid s (map (is_valid k) (map p first))) (all_valid s (map (is_valid k) (map p second))) both in
      let g = if_alike s r sh (is_true (slice_index f.registers a)) _ _ _ _ (in_order_alike s (map p first) (all_run p runs first) one) (in_order_alike s (map p second) (all_run p runs second) two) f t e1 e2 in
      (test_passes (Op-F.If a (map (op_does true A C) (map p first)) (map (op_does true A C) (map p second))) (left (names_there {A = Act} k.tables (Op-F.If a [] [])) _ v) f t e1 e2 ∙ g.0, g.1)
  layer {B} p runs (Op-F.Loop test a body step) = λ s v f t e1 e2.
      let three = right (names_there {A = Act} k.tables (Op-F.Loop [] a [] [])) (true && (all_valid true (map (is_valid k) (map p test)) && (all_valid true (map (is_valid k) (map p body)) && all_valid true (map (is_valid k) (map p step))))) v in
      let one = left (all_valid true (map (is_valid k) (map p test))) _ three in
      let both = right (all_valid true (map (is_valid k) (map p test))) (all_valid true (map (is_valid k) (map p body)) && all_valid true (map (is_valid k) (map p step))) three in
      let g = loop_alike s r sh a _ _ _ _ _ _ (in_order_alike true (map p test) (all_run p runs test) one) (in_order_alike true (map p body) (all_run p runs body) (left (all_valid true (map (is_valid k) (map p body))) (all_valid true (map (is_valid k) (map p step))) both)) (in_order_alike true (map p step) (all_run p runs step) (right (all_valid true (map (is_valid k) (map p body))) (all_valid true (map (is_valid k) (map p step))) both)) f t e1 e2 in
      (test_passes (Op-F.Loop (map (op_does true A C) (map p test)) a (map (op_does true A C) (map p body)) (map (op_does true A C) (map p step))) (left (names_there {A = Act} k.tables (Op-F.Loop [] a [] [])) _ v) f t e1 e2 ∙ g.0, g.1)
  layer p runs Op-F.Break = λ s v. simple s Op-F.Break _ v (λ f t. refl) (λ f t e1 e2. (left s true v, e1, e2))
  layer p runs Op-F.Continue = λ s v. simple s Op-F.Continue _ v (λ f t. refl) (λ f t e1 e2. (left s true v, e1, e2))
  layer p runs (Op-F.Call function args results) = λ s v f t e1 e2.
      let named = left (names_there {A = Act} k.tables (Op-F.Call function args results)) _ v in
      let deep = left (is_below k.depth (slice_get k.tables.functions function)) true (right (names_there {A = Act} k.tables (Op-F.Call function args results)) _ v) in
      let known : k.tables.functions ≡ A.functions = ap (λ (T : Tables). T.functions) tables in
      let counts : takes (length (get_all args f)) (length results) (slice_get A.functions function) ≡ true =
      rw (length-map args (λ x. slice_index f.registers x)) (subst (λ (l : List _). takes (length args) (length results) (slice_get l function) ≡ true) known (left (takes (length args) (length results) (slice_get k.tables.functions function)) _ named)) in
      let goes = calls function (get_all args f) (length results) counts (subst (λ (l : List _). is_below k.depth (slice_get l function) ≡ true) known deep) (f.shared, f.world) t e2 in
      (test_passes (Op-F.Call function args results) named f t e1 e2 ∙ ap (λ o. and_then (with_registers f.registers o) (give_back results)) goes.0, called_fits s r sh f results _ e1 goes.1)
  layer p runs (Op-F.Wide op d a b) = λ s v. simple s (Op-F.Wide op d a b) _ v (λ f t. refl) (λ f t e1 e2. wide_fits s r sh (is_comparison op) f d _ _ _ t e1 e2)
  layer p runs (Op-F.Half op d a b) = λ s v. simple s (Op-F.Half op d a b) _ v (λ f t. refl) (λ f t e1 e2. put_fits s f d _ t e1 e2)
  layer p runs (Op-F.Last d) = λ s v. simple s (Op-F.Last d) _ v (λ f t. refl) (λ f t e1 e2. put_fits s f d _ t e1 e2)

  op_alike : (op : Op) → Runs k A r sh C D op
  op_alike op = ind-Op (Runs k A r sh C D)
      (λ x y eq. subst (λ l. Runs k A r sh C D (roll-Op l)) eq (rw (fold-roll-Op Judged (valid_step k) _, fold-roll-Op Act (op_step true A C) _, fold-roll-Op Act (op_step false A D) _) (layer (λ b. b.0) (λ b. b.1) y)))
      op

  each_runs : (ops : List Op) → Each (Runs k A r sh C D) ops
  each_runs [] = tt
  each_runs (op ∷ ops) = (op_alike op, each_runs ops)

  pub ops_alike : (s : Bool) (ops : List Op) → are_valid k s ops ≡ true → Alike s r sh (ops_do true A C ops) (ops_do false A D ops)
  ops_alike s ops valid = in_order_alike s ops (each_runs ops) valid
