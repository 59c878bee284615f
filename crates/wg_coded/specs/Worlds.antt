-- Valid operations leave a lawful world, with at most one grant more for each request that they have.
use Rattle.std.proofs.Common.{◌≡◌, ℕ, zero, suc, ◌+◌, ◌-◌, ◌≤◌, Bool, true, false, List, [], ◌∷◌, length, map, Option, Some, None, refl, sym, ap, ◌∙◌, subst, arith}
use Rattle.std.specs.Prelude.{◌&&◌, not, nat_lt, nat_le, if◌then◌else◌, slice_get, slice_index, slice_set, unwrap_or}
use Rattle.std.specs.List.{list_all}
use Rattle.std.proofs.lemmas.List.{length-set}
use Rattle.wg_words.specs.Each.{Each}
use Rattle.wg_words.specs.Truth.{is_true}
use Rattle.wg_machine.specs.declared.shape.Output.{Output}
use Rattle.wg_machine.specs.declared.shape.Unit.{Unit as Node}
use Rattle.wg_machine.specs.Buffers.{lengths_of}
use Rattle.wg_state.specs.Requests.{requested, closed, closed_in}
use Rattle.wg_state.specs.Turns.{Action, Ending, Spent, Done, and_then, ◌>>=◌, ◌>>◌, pure, turn}
use Rattle.wg_state.specs.WordLists.{list_at}
use Rattle.wg_state.specs.declared.world.Grant.{Grant}
use Rattle.wg_state.specs.declared.world.Request.{Request}
use Rattle.wg_state.specs.declared.world.World.{World}
use Rattle.wg_worlds.specs.Lawful.{IsLawfulWorld, IsRewritten}
use Rattle.wg_worlds.specs.Laws.{WorldLaws}
use Rattle.wg_code.specs.declared.code.Function.{Function}
use Rattle.wg_code.specs.declared.code.RawCode.{RawCode}
use Rattle.wg_code.specs.declared.op.Op.{Op, roll-Op, fold-roll-Op, ind-Op, map-Op, fold-Op}
use Rattle.wg_code.specs.declared.op.Op.TheOpen.{Op-F}
use Rattle.wg_code.specs.Counts.{requests_step, requests_in}
use Rattle.wg_code.specs.Flow.{Outside, Callees, through, goes_on, stepped, body_then_step, tested, one_turn, repeats, turns_below, loop, with_registers, give_back}
use Rattle.wg_code.specs.Functions.{results_from, has_room, missing, body_runs, callee_at, callees}
use Rattle.wg_code.specs.Lane.{Around, Site, Exit, Through, Out, Again, Wrong, get_all, with_ranged, puts}
use Rattle.wg_code.specs.Named.{names_there}
use Rattle.wg_code.specs.OpMeaning.{does, tables_of, op_step, op_does, ops_do}
use Rattle.wg_code.specs.Operators.{is_comparison}
use Rattle.wg_code.specs.Records.{grant_of, grant_with, grants_with}
use Rattle.wg_code.specs.Valid.{Scope, Judged, valid_step, is_valid, are_valid, all_valid, is_valid_function, function_scope}

pub left : (a b : Bool) → (a && b) ≡ true → a ≡ true
left true b e = refl
left false b e = e

pub right : (a b : Bool) → (a && b) ≡ true → b ≡ true
right true b e = e
right false b e = absurd (cc)

pub all_at : {X : Type 0} (p : X → Bool) (xs : List X) (i : ℕ) (x : X) → slice_get xs i ≡ Some x → list_all p xs ≡ true → p x ≡ true
all_at p [] i x e all = absurd (cc)
all_at p (y ∷ ys) zero x e all = subst (λ z. p z ≡ true) (ap (λ o. unwrap_or o y) e) (left (p y) (list_all p ys) all)
all_at p (y ∷ ys) (suc i) x e all = all_at p ys i x e (right (p y) (list_all p ys) all)

-- ---- lists of words

same_lengths : (lists : List (List ℕ)) (at : ℕ) → lengths_of (slice_set lists at (list_at lists at)) ≡ lengths_of lists
same_lengths [] at = refl
same_lengths (x ∷ lists) zero = refl
same_lengths (x ∷ lists) (suc at) = ap (λ (ns : List ℕ). length x ∷ ns) (same_lengths lists at)

length-closed : (w : World) (at : Option ℕ) → length (closed at w).grants ≡ length w.grants
length-closed w None = refl
length-closed w (Some at) = choice (slice_get w.grants at)
  where
    choice : (g : Option Grant) → length (closed_in g w.grants at) ≡ length w.grants
    choice None = refl
    choice (Some g) = length-set w.grants at (record g { complete = true })

module _ (W : WorldLaws) (unit : Node) (inputs buffers : List ℕ) where
  -- a lawful world with at most so many grants
  abbrev pub Within : ℕ → World → Type 0
  Within n w = IsLawfulWorld unit inputs buffers w × (length w.grants ≤ n)

  abbrev pub Ends : ℕ → Ending Site Exit → Type 0
  Ends n Spent = Unit {0}
  Ends n (Done exit f t) = Within n f.world

  -- an action makes at most so many grants
  abbrev pub Adds : ℕ → Action Site Exit → Type 0
  Adds n m = (f : Site) (t b : ℕ) → Within b f.world → Ends (b + n) (m f t)

  abbrev pub CalleeEnds : ℕ → Ending Outside (Option (List ℕ)) → Type 0
  CalleeEnds n Spent = Unit {0}
  CalleeEnds n (Done a w t) = Within n w.1

  -- functions make no grant
  abbrev pub CalleesAdd : Callees → Type 0
  CalleesAdd C = (function : ℕ) (values : List ℕ) (w : Outside) (t b : ℕ) → Within b w.1 → CalleeEnds b (C function values w t)

  more : (n m : ℕ) (w : World) → n ≤ m → Within n w → Within m w
  more n m w le g = (g.0, let l = g.1 in omega (arith, l, le))

  pub ends_more : (n m : ℕ) (o : Ending Site Exit) → n ≤ m → Ends n o → Ends m o
  ends_more n m Spent le g = tt
  ends_more n m (Done exit f t) le g = more n m f.world le g

  pub adds_more : (n m : ℕ) (a : Action Site Exit) → n ≤ m → Adds n a → Adds m a
  adds_more n m a le h f t b g = ends_more (b + n) (b + m) (a f t) (omega (arith, le)) (h f t b g)

  after : (n b : ℕ) (o : Ending Site Exit) (K : Exit → Action Site Exit) → Ends b o → ((exit : Exit) → Adds n (K exit)) → Ends (b + n) (and_then o K)
  after n b Spent K g h = tt
  after n b (Done exit f t) K g h = h exit f t b g

  bind_adds : (n m : ℕ) (a : Action Site Exit) (K : Exit → Action Site Exit) → Adds n a → ((exit : Exit) → Adds m (K exit)) → Adds (n + m) (a >>= K)
  bind_adds n m a K h k f t b g =
      let e : (b + n) + m ≡ b + (n + m) = omega arith in
      subst (λ j. Ends j (and_then (a f t) K)) e (after m (b + n) (a f t) K (h f t b g) k)

  still : (w : World) (b : ℕ) → Within b w → Within (b + 0) w
  still w b g = more b (b + 0) w (omega arith) g

  pure_adds : (exit : Exit) → Adds 0 (pure exit)
  pure_adds exit f t b g = still f.world b g

  through_adds : (n : ℕ) (exit : Exit) (m : Action Site Exit) → Adds n m → Adds n (through exit m)
  through_adds n Through m h = h
  through_adds n Out m h = adds_more 0 n (pure Out) (omega arith) (pure_adds Out)
  through_adds n Again m h = adds_more 0 n (pure Again) (omega arith) (pure_adds Again)
  through_adds n Wrong m h = adds_more 0 n (pure Wrong) (omega arith) (pure_adds Wrong)

  goes_on_adds : (exit : Exit) (m : Action Site Exit) → Adds 0 m → Adds 0 (goes_on exit m)
  goes_on_adds Through m h = h
  goes_on_adds Again m h = h
  goes_on_adds Out m h = pure_adds Through
  goes_on_adds Wrong m h = pure_adds Wrong

  if_adds : (n : ℕ) (c : Bool) (m k : Action Site Exit) → Adds n m → Adds n k → Adds n (if c then m else k)
  if_adds n true m k h g = h
  if_adds n false m k h g = g

  turn_adds : (m : Action Site Exit) → Adds 0 m → Adds 0 (turn >> m)
  turn_adds m h f zero b g = tt
  turn_adds m h f (suc t) b g = h f t b g

  bind_none : (a : Action Site Exit) (K : Exit → Action Site Exit) → Adds 0 a → ((exit : Exit) → Adds 0 (K exit)) → Adds 0 (a >>= K)
  bind_none a K h k = bind_adds 0 0 a K h k

  -- ---- loops

  module _ (a : ℕ) (T B S : Action Site Exit) (tests : Adds 0 T) (bodies : Adds 0 B) (steps : Adds 0 S) where
    stepped_adds : Adds 0 (stepped S)
    stepped_adds = bind_none S _ steps (λ exit. goes_on_adds exit _ (pure_adds Again))

    entered_adds : Adds 0 (turn >> body_then_step B S)
    entered_adds = turn_adds (body_then_step B S) (bind_none B _ bodies (λ exit. goes_on_adds exit _ stepped_adds))

    tested_adds : Adds 0 (tested a B S)
    tested_adds f t b g = if_adds 0 (is_true (slice_index f.registers a)) _ _ entered_adds (pure_adds Through) f t b g

    turn_ends_adds : Adds 0 (one_turn T a B S)
    turn_ends_adds = bind_none T _ tests (λ exit. goes_on_adds exit _ tested_adds)

    repeats_adds : (m : Action Site Exit) → Adds 0 m → (exit : Exit) → Adds 0 (repeats exit m)
    repeats_adds m h Through = pure_adds Through
    repeats_adds m h Out = pure_adds Through
    repeats_adds m h Again = h
    repeats_adds m h Wrong = pure_adds Wrong

    turns_adds : (bound : ℕ) → Adds 0 (turns_below bound T a B S)
    turns_adds zero = λ f t b g. tt
    turns_adds (suc bound) = bind_none (one_turn T a B S) _ turn_ends_adds (repeats_adds _ (turns_adds bound))

    pub loop_adds : Adds 0 (loop T a B S)
    loop_adds f t b g = turns_adds (suc t) f t b g

  -- ---- records of a handle

  rewritten : (r : Grant) (index from to at v : ℕ) (c : Bool)
      → IsRewritten r (record r { items = slice_set r.items index (if c then slice_set (list_at r.items index) (from + at) v else list_at r.items index) })
  rewritten r index from to at v true = record { output = refl; lengths = W.lengths r.items index (from + at) v }
  rewritten r index from to at v false = record { output = refl; lengths = same_lengths r.items index }

  written : (w : World) (b : ℕ) (at : Option ℕ) (index from to i v : ℕ) → Within b w
      → Within (b + 0) (record w { grants = grants_with at index (λ words. with_ranged words from to i v) w.grants })
  written w b None index from to i v g = still w b g
  written w b (Some at) index from to i v g = choice (slice_get w.grants at) refl
    where
      choice : (o : Option Grant) → slice_get w.grants at ≡ o → Within (b + 0) (record w { grants = grant_with o index (λ words. with_ranged words from to i v) at w.grants })
      choice None e = still w b g
      choice (Some r) e = open_or_closed r.complete
        where
          open_or_closed : (c : Bool) → Within (b + 0) (record w { grants = if c then w.grants else slice_set w.grants at (record r { items = slice_set r.items index (with_ranged (list_at r.items index) from to i v) }) })
          open_or_closed true = still w b g
          open_or_closed false = (
            W.write_record unit inputs buffers w at r _ g.0 e (rewritten r index from to i v (nat_lt i (to - from))),
            let n = length-set w.grants at (record r { items = slice_set r.items index (with_ranged (list_at r.items index) from to i v) }) in let l = g.1 in omega (arith, n, l),
          )

  -- ---- operations

  abbrev Act : Type 0
  Act = Action Site Exit

  called_ends : (f : Site) (results : List ℕ) (b : ℕ) (o : Ending Outside (Option (List ℕ))) → CalleeEnds b o → Ends b (and_then (with_registers f.registers o) (give_back results))
  called_ends f results b Spent g = tt
  called_ends f results b (Done None w t) g = g
  called_ends f results b (Done (Some words) w t) g = g

  wide_ends : (c : Bool) (f : Site) (d v x y t b : ℕ) → Within b f.world → Ends (b + 0) ((if c then puts d v else (puts d x >> puts (d + 1) y)) f t)
  wide_ends true f d v x y t b g = still f.world b g
  wide_ends false f d v x y t b g = still f.world b g

  asked : (f : Site) (outputs : List Output) (r : Request) (b : ℕ) → outputs ≡ unit.outputs → Within b f.world → Within (b + 1) (requested outputs r f.world)
  asked f outputs r b same g =
      subst (λ o. Within (b + 1) (requested o r f.world)) (sym same)
      (W.request unit inputs buffers f.world r g.0, let n = W.one_grant unit.outputs r f.world in let l = g.1 in omega (arith, n, l))

  module _ (strict : Bool) (k : Scope) (A : Around) (C : Callees) (own : k.node ≡ true → A.outputs ≡ unit.outputs) (calls : CalleesAdd C) where
    step_adds : (n : ℕ) (op : Op-F Act) → Adds n (does A C op) → Adds n (op_step strict A C op)
    step_adds n op h f t b g = choice (strict && not (names_there (tables_of A (length f.registers) (length f.shared)) op))
      where
        choice : (c : Bool) → Ends (b + n) (if c then Done Wrong f t else does A C op f t)
        choice true = more b (b + n) f.world (omega arith) g
        choice false = h f t b g

    -- at most its requests; none where none may stand
    pub record Counts (op : Op) (s : Bool) : Type 0 where
      pub adds : Adds (fold-Op ℕ requests_step op) (op_does strict A C op)
      pub none : (k.node && not s) ≡ false → fold-Op ℕ requests_step op ≡ 0

    abbrev pub Runs : Op → Type 0
    Runs op = (s : Bool) → is_valid k op s ≡ true → Counts op s

    pub record AllCount (ops : List Op) (s : Bool) : Type 0 where
      pub adds : Adds (requests_in ops) (ops_do strict A C ops)
      pub none : (k.node && not s) ≡ false → requests_in ops ≡ 0

    in_order_adds : (s : Bool) (ops : List Op) → Each Runs ops → all_valid s (map (is_valid k) ops) ≡ true → AllCount ops s
    in_order_adds s [] runs valid = record { adds = pure_adds Through; none = λ e. refl }
    in_order_adds s (op ∷ ops) runs valid =
        let first = runs.0 s (left (is_valid k op s) (all_valid s (map (is_valid k) ops)) valid) in
        let rest = in_order_adds s ops runs.1 (right (is_valid k op s) (all_valid s (map (is_valid k) ops)) valid) in
        record {
          adds = bind_adds (fold-Op ℕ requests_step op) (requests_in ops) (op_does strict A C op) _ first.adds (λ exit. through_adds (requests_in ops) exit _ rest.adds);
          none = λ e. (let a = first.none e in let b = rest.none e in omega (arith, a, b));
        }

    pub all_run : {B : Type 0} (p : B → Op) → ((b : B) → Runs (p b)) → (bs : List B) → Each Runs (map p bs)
    all_run p runs [] = tt
    all_run p runs (b ∷ bs) = (runs b, all_run p runs bs)

    -- of an operation by what its parts do
    pub record Layer {B : Type 0} (p : B → Op) (y : Op-F B) (s : Bool) : Type 0 where
      pub adds : Adds (requests_step (map-Op Op ℕ (fold-Op ℕ requests_step) (map-Op B Op p y))) (op_step strict A C (map-Op Op Act (op_does strict A C) (map-Op B Op p y)))
      pub none : (k.node && not s) ≡ false → requests_step (map-Op Op ℕ (fold-Op ℕ requests_step) (map-Op B Op p y)) ≡ 0

    -- an operation that makes no request
    plain : {B : Type 0} (p : B → Op) (y : Op-F B) (s : Bool) → requests_step (map-Op Op ℕ (fold-Op ℕ requests_step) (map-Op B Op p y)) ≡ 0
        → Adds 0 (does A C (map-Op Op Act (op_does strict A C) (map-Op B Op p y))) → Layer p y s
    plain p y s free h = record {
      adds = subst (λ n. Adds n (op_step strict A C (map-Op Op Act (op_does strict A C) (map-Op _ Op p y)))) (sym free) (step_adds 0 (map-Op Op Act (op_does strict A C) (map-Op _ Op p y)) h);
      none = λ e. free;
    }

    never : (s : Bool) → (k.node && not s) ≡ true → (n : ℕ) → (k.node && not s) ≡ false → n ≡ 0
    never s e n f = absurd (cc)

    layer : {B : Type 0} (p : B → Op) → ((b : B) → Runs (p b)) → (y : Op-F B) (s : Bool) → valid_step k (map-Op Op Judged (is_valid k) (map-Op B Op p y)) s ≡ true → Layer p y s
    layer p runs (Op-F.Set d value) s v = plain p (Op-F.Set d value) s refl (λ f t b g. still f.world b g)
    layer p runs (Op-F.Copy d a) s v = plain p (Op-F.Copy d a) s refl (λ f t b g. still f.world b g)
    layer p runs (Op-F.Unary op d a) s v = plain p (Op-F.Unary op d a) s refl (λ f t b g. still f.world b g)
    layer p runs (Op-F.Binary op d a c) s v = plain p (Op-F.Binary op d a c) s refl (λ f t b g. still f.world b g)
    layer p runs (Op-F.LocalGet d from to index) s v = plain p (Op-F.LocalGet d from to index) s refl (λ f t b g. still f.world b g)
    layer p runs (Op-F.LocalPut from to index a) s v = plain p (Op-F.LocalPut from to index a) s refl (λ f t b g. still f.world b g)
    layer p runs (Op-F.SharedGet d from to index) s v = plain p (Op-F.SharedGet d from to index) s refl (λ f t b g. still f.world b g)
    layer p runs (Op-F.SharedPut from to index a) s v = plain p (Op-F.SharedPut from to index a) s refl (λ f t b g. still f.world b g)
    layer p runs (Op-F.SharedAtomic op d from to index compare value) s v = plain p (Op-F.SharedAtomic op d from to index compare value) s refl (λ f t b g. still f.world b g)
    layer p runs (Op-F.InputGet d input word) s v = plain p (Op-F.InputGet d input word) s refl (λ f t b g. still f.world b g)
    layer p runs (Op-F.InputPut input word a) s v = plain p (Op-F.InputPut input word a) s refl
        (λ f t b g. (W.write_input unit inputs buffers f.world _ g.0 (W.lengths f.world.inputs _ _ _), (still f.world b g).1))
    layer p runs (Op-F.InputCount d) s v = plain p (Op-F.InputCount d) s refl (λ f t b g. still f.world b g)
    layer p runs (Op-F.Level d) s v = plain p (Op-F.Level d) s refl (λ f t b g. still f.world b g)
    layer p runs (Op-F.System d which) s v = plain p (Op-F.System d which) s refl (λ f t b g. still f.world b g)
    layer p runs (Op-F.BufferGet d buffer word) s v = plain p (Op-F.BufferGet d buffer word) s refl (λ f t b g. still f.world b g)
    layer p runs (Op-F.BufferPut buffer word a) s v = plain p (Op-F.BufferPut buffer word a) s refl
        (λ f t b g. (W.write_buffer unit inputs buffers f.world _ g.0 (W.lengths f.world.buffers _ _ _), (still f.world b g).1))
    layer p runs (Op-F.BufferAdd buffer word a) s v = plain p (Op-F.BufferAdd buffer word a) s refl
        (λ f t b g. (W.write_buffer unit inputs buffers f.world _ g.0 (W.lengths f.world.buffers _ _ _), (still f.world b g).1))
    layer p runs (Op-F.BufferAtomic op d buffer word compare value) s v = plain p (Op-F.BufferAtomic op d buffer word compare value) s refl
        (λ f t b g. (W.write_buffer unit inputs buffers f.world _ g.0 (W.lengths f.world.buffers _ _ _), (still f.world b g).1))
    layer p runs (Op-F.BufferLength d buffer) s v = plain p (Op-F.BufferLength d buffer) s refl (λ f t b g. still f.world b g)
    layer p runs (Op-F.Valid d output element) s v = plain p (Op-F.Valid d output element) s refl (λ f t b g. still f.world b g)
    layer p runs (Op-F.Request handle element amount) s v =
        let may = left (k.node && not s) true (right (names_there {A = Act} k.tables (Op-F.Request handle element amount)) _ v) in
        record {
          adds = step_adds 1 (Op-F.Request handle element amount) (λ f t b g. asked f A.outputs _ b (own (left k.node (not s) may)) g);
          none = never s may 1;
        }
    layer p runs (Op-F.Increment output element amount) s v =
        let may = left (k.node && not s) true (right (names_there {A = Act} k.tables (Op-F.Increment output element amount)) _ v) in
        record {
          adds = step_adds 1 (Op-F.Increment output element amount) (λ f t b g. asked f A.outputs _ b (own (left k.node (not s) may)) g);
          none = never s may 1;
        }
    layer p runs (Op-F.RecordGet d handle index from to word) s v = plain p (Op-F.RecordGet d handle index from to word) s refl (λ f t b g. still f.world b g)
    layer p runs (Op-F.RecordPut handle index from to word a) s v = plain p (Op-F.RecordPut handle index from to word a) s refl
        (λ f t b g. written f.world b (grant_of A handle f) (slice_index f.registers index) from to (slice_index f.registers word) (slice_index f.registers a) g)
    layer p runs (Op-F.Complete handle) s v = plain p (Op-F.Complete handle) s refl
        (λ f t b g. (W.close unit inputs buffers f.world (grant_of A handle f) g.0, let n = length-closed f.world (grant_of A handle f) in let l = g.1 in omega (arith, n, l)))
    layer {B} p runs (Op-F.If a first second) s v =
        let both = right (names_there {A = Act} k.tables (Op-F.If a [] [])) (true && (all_valid s (map (is_valid k) (map p first)) && all_valid s (map (is_valid k) (map p second)))) v in
        let one = in_order_adds s (map p first) (all_run p runs first) (left (all_valid s (map (is_valid k) (map p first))) (all_valid s (map (is_valid k) (map p second))) both) in
        let two = in_order_adds s (map p second) (all_run p runs second) (right (all_valid s (map (is_valid k) (map p first))) (all_valid s (map (is_valid k) (map p second))) both) in
        record {
          adds = step_adds (requests_in (map p first) + requests_in (map p second)) (Op-F.If a (map (op_does strict A C) (map p first)) (map (op_does strict A C) (map p second)))
              (λ f t b g. if_adds (requests_in (map p first) + requests_in (map p second)) (is_true (slice_index f.registers a)) _ _
              (adds_more (requests_in (map p first)) (requests_in (map p first) + requests_in (map p second)) _ (omega arith) one.adds)
              (adds_more (requests_in (map p second)) (requests_in (map p first) + requests_in (map p second)) _ (omega arith) two.adds) f t b g);
          none = λ e. (let x = one.none e in let y = two.none e in omega (arith, x, y));
        }
    layer {B} p runs (Op-F.Loop test a body step) s v =
        let three = right (names_there {A = Act} k.tables (Op-F.Loop [] a [] [])) (true && (all_valid true (map (is_valid k) (map p test)) && (all_valid true (map (is_valid k) (map p body)) && all_valid true (map (is_valid k) (map p step))))) v in
        let two = right (all_valid true (map (is_valid k) (map p test))) (all_valid true (map (is_valid k) (map p body)) && all_valid true (map (is_valid k) (map p step))) three in
        let x = in_order_adds true (map p test) (all_run p runs test) (left (all_valid true (map (is_valid k) (map p test))) (all_valid true (map (is_valid k) (map p body)) && all_valid true (map (is_valid k) (map p step))) three) in
        let y = in_order_adds true (map p body) (all_run p runs body) (left (all_valid true (map (is_valid k) (map p body))) (all_valid true (map (is_valid k) (map p step))) two) in
        let z = in_order_adds true (map p step) (all_run p runs step) (right (all_valid true (map (is_valid k) (map p body))) (all_valid true (map (is_valid k) (map p step))) two) in
        let shut : (k.node && not true) ≡ false = never_in k.node in
        let count : requests_in (map p test) + (requests_in (map p body) + requests_in (map p step)) ≡ 0 = (let a = x.none shut in let b = y.none shut in let c = z.none shut in omega (arith, a, b, c)) in
        plain p (Op-F.Loop test a body step) s count
        (loop_adds a _ _ _
        (subst (λ n. Adds n (ops_do strict A C (map p test))) (x.none shut) x.adds)
        (subst (λ n. Adds n (ops_do strict A C (map p body))) (y.none shut) y.adds)
        (subst (λ n. Adds n (ops_do strict A C (map p step))) (z.none shut) z.adds))
      where
        never_in : (c : Bool) → (c && false) ≡ false
        never_in true = refl
        never_in false = refl
    layer p runs Op-F.Break s v = plain p Op-F.Break s refl (λ f t b g. still f.world b g)
    layer p runs Op-F.Continue s v = plain p Op-F.Continue s refl (λ f t b g. still f.world b g)
    layer p runs (Op-F.Call function args results) s v = plain p (Op-F.Call function args results) s refl
        (λ f t b g. called_ends f results (b + 0) _ (calls function (get_all args f) (f.shared, f.world) t (b + 0) (still f.world b g)))
    layer p runs (Op-F.Wide op d a c) s v = plain p (Op-F.Wide op d a c) s refl (λ f t b g. wide_ends (is_comparison op) f d _ _ _ t b g)
    layer p runs (Op-F.Half op d a c) s v = plain p (Op-F.Half op d a c) s refl (λ f t b g. still f.world b g)
    layer p runs (Op-F.Last d) s v = plain p (Op-F.Last d) s refl (λ f t b g. still f.world b g)

    rolled : {B : Type 0} (p : B → Op) (y : Op-F B) → ((s : Bool) → valid_step k (map-Op Op Judged (is_valid k) (map-Op B Op p y)) s ≡ true → Layer p y s) → Runs (roll-Op (map-Op B Op p y))
    rolled {B} p y h s v =
        let l = h s (ap (λ (j : Judged). j s) (sym (fold-roll-Op Judged (valid_step k) (map-Op B Op p y))) ∙ v) in
        record {
          adds = rw (fold-roll-Op ℕ requests_step (map-Op B Op p y), fold-roll-Op Act (op_step strict A C) (map-Op B Op p y)) l.adds;
          none = λ e. fold-roll-Op ℕ requests_step (map-Op B Op p y) ∙ l.none e;
        }

    op_counts : (op : Op) → Runs op
    op_counts op = ind-Op Runs (λ x y eq. subst (λ l. Runs (roll-Op l)) eq (rolled (λ b. b.0) y (layer (λ b. b.0) (λ b. b.1) y))) op

    each_runs : (ops : List Op) → Each Runs ops
    each_runs [] = tt
    each_runs (op ∷ ops) = (op_counts op, each_runs ops)

    pub ops_count : (s : Bool) (ops : List Op) → are_valid k s ops ≡ true → AllCount ops s
    ops_count s ops valid = in_order_adds s ops (each_runs ops) valid

  -- ---- functions

  results_end : (strict : Bool) (first b : ℕ) (o : Ending Site Exit) → Ends b o → CalleeEnds b (results_from strict first o)
  results_end strict first b Spent g = tt
  results_end strict first b (Done exit f t) g = g

  module _ (strict : Bool) (code : RawCode) (A : Around) (known : list_all (is_valid_function code) A.functions ≡ true) where
    body_ends : (c : Function) (C : Callees) → CalleesAdd C → is_valid_function code c ≡ true → (values : List ℕ) (w : Outside) (t b : ℕ) → Within b w.1 → CalleeEnds b (body_runs strict A C c values w t)
    body_ends c C calls valid values w t b g =
        let body : are_valid (function_scope code c) false c.body ≡ true = right (nat_le c.depth 32) _ (right (nat_le c.params c.registers && nat_le c.results c.registers) (nat_le c.depth 32 && are_valid (function_scope code c) false c.body) valid) in
        let counts = ops_count strict (function_scope code c) A C (λ e. absurd (cc)) calls false c.body body in
        let none = subst (λ n. Adds n (ops_do strict A C c.body)) (counts.none refl) counts.adds in
        results_end strict (c.registers - c.results) b _ (ends_more (b + 0) b _ (omega arith) (none _ t b g))

    callee_ends : (C : Callees) → CalleesAdd C → (function : ℕ) (c : Option Function) → slice_get A.functions function ≡ c → (values : List ℕ) (w : Outside) (t b : ℕ) → Within b w.1
        → CalleeEnds b (callee_at strict A C c values w t)
    callee_ends C calls function None e values w t b g = g
    callee_ends C calls function (Some c) e values w t b g = choice (strict && not (has_room c))
      where
        choice : (x : Bool) → CalleeEnds b ((if x then missing true else body_runs strict A C c) values w t)
        choice true = g
        choice false = body_ends c C calls (all_at (is_valid_function code) A.functions function c e known) values w t b g

    pub callees_end : (depth : ℕ) → CalleesAdd (callees strict A depth)
    callees_end zero = λ function values w t b g. g
    callees_end (suc depth) = λ function values w t b g. callee_ends (callees strict A depth) (callees_end depth) function (slice_get A.functions function) refl values w t b g
