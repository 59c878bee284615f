-- A lane of the source beside a lane of the code, and where values stand in registers.
use Rattle.std.proofs.Common.{◌≡◌, ℕ, zero, suc, ◌+◌, ◌-◌, ◌<◌, ◌≤◌, ◌^◌, List, ◌++◌, map, length, true, false, refl, sym, ap, ◌∙◌, subst, arith}
use Rattle.std.specs.Prelude.{slice_index, nat_lt}
use Rattle.wg_state.specs.Turns.{Ending, Action, and_then}
use Rattle.wg_semantics.specs.Places.{fetched, words_from, stored}
use Rattle.wg_state.specs.WordLists.{zeros}
use Rattle.wg_semantics.specs.declared.state.State.{State}
use Rattle.wg_semantics.specs.declared.state.Spot.{Spot}
use Rattle.wg_semantics.specs.declared.state.Spot.TheVariants as spot
use Rattle.wg_semantics.specs.declared.state.Store.{Store}
use Rattle.wg_semantics.specs.declared.state.Store.TheVariants as store
use Rattle.wg_typed.specs.declared.types.TypeTree.{TypeTree}
use Rattle.wg_code.specs.Lane.{Around, Site, Exit, Through, ranged}
use Rattle.wg_code.specs.Flow.{Callees, through}
use Rattle.wg_code.specs.OpMeaning.{ops_do}
use Rattle.wg_code.specs.declared.op.Op.{Op}
use Rattle.wg_lowered.specs.declared.places.Where.{Where}
use Rattle.wg_lowered.specs.declared.places.Where.TheVariants as place
use Rattle.wg_lowered.specs.declared.places.Space.{Space}
use Rattle.wg_lowered.specs.declared.places.Space.TheVariants as space
use Rattle.wg_lowered.specs.Where.{Piece, Words, run}
use Rattle.wg_lowered.specs.Where.{Names, size, base_of, variables_end}
use Rattle.wg_lowered.specs.Holding.{Agree, Holds}
use Rattle.wg_lowered.proofs.Ops.{agree_then, ops_append}
use Rattle.wg_lowered.specs.Holding.{Below}
use Rattle.wg_lowered.proofs.Straight.{Every, with, space_words}
use Rattle.wg_lowered.proofs.Registers.{base_below, flat_word}

-- ---- variables

-- what stands in a space
abbrev pub IsIn : Space → Store → Type 0
IsIn space.Own (store.Variable variable) = Unit {0}
IsIn space.Group (store.Shared variable) = Unit {0}
IsIn sp _ = ⊥

abbrev pub stored_size : Names → Store → ℕ
stored_size k (store.Variable variable) = slice_index k.variables variable
stored_size k (store.Shared variable) = slice_index k.shared variable
stored_size k _ = 0

abbrev pub stored_base : Names → Store → ℕ
stored_base k (store.Variable variable) = base_of k.variables variable
stored_base k (store.Shared variable) = base_of k.shared variable
stored_base k _ = 0

pub stored_word : (k : Names) (R : ℕ) (s : State) (f : Site) (sp : Space) (x : Store) (j : ℕ) → Holds k R s f → IsIn sp x → j < stored_size k x → slice_index (space_words sp f) (stored_base k x + j) ≡ slice_index (stored x s) j
stored_word k R s f space.Own (store.Variable variable) j h v lt = h.same (base_of k.variables variable + j) (omega (arith, base_below k.variables variable)) ∙ flat_word s.variables k.variables variable j h.variables lt
stored_word k R s f space.Group (store.Shared variable) j h v lt = ap (λ l. slice_index l (base_of k.shared variable + j)) h.shared ∙ flat_word s.world.shared k.shared variable j h.shared_sizes lt
stored_word k R s f space.Own (store.Shared variable) j h v lt = absurd v
stored_word k R s f space.Own (store.Buffer buffer) j h v lt = absurd v
stored_word k R s f space.Own (store.Input number) j h v lt = absurd v
stored_word k R s f space.Own (store.Granted grant item) j h v lt = absurd v
stored_word k R s f space.Group (store.Variable variable) j h v lt = absurd v
stored_word k R s f space.Group (store.Buffer buffer) j h v lt = absurd v
stored_word k R s f space.Group (store.Input number) j h v lt = absurd v
stored_word k R s f space.Group (store.Granted grant item) j h v lt = absurd v

-- what is read of a variable
pub fetched_variable : (k : Names) (t : TypeTree) (sp : Space) (x : Store) (from : ℕ) (s : State) → IsIn sp x → fetched k.structs t (spot.At x from) s ≡ words_from (stored x s) from (size k t)
fetched_variable k t space.Own (store.Variable variable) from s v = refl
fetched_variable k t space.Group (store.Shared variable) from s v = refl
fetched_variable k t space.Own (store.Shared variable) from s v = absurd v
fetched_variable k t space.Own (store.Buffer buffer) from s v = absurd v
fetched_variable k t space.Own (store.Input number) from s v = absurd v
fetched_variable k t space.Own (store.Granted grant item) from s v = absurd v
fetched_variable k t space.Group (store.Variable variable) from s v = absurd v
fetched_variable k t space.Group (store.Buffer buffer) from s v = absurd v
fetched_variable k t space.Group (store.Input number) from s v = absurd v
fetched_variable k t space.Group (store.Granted grant item) from s v = absurd v

-- code that changes only registers above the variables
pub holds_below : (k : Names) (R d : ℕ) (s : State) (f : Site) (after : List ℕ) → variables_end k ≤ d → Holds k R s f → Below d f.registers after → Holds k R s (with f after)
holds_below k R d s f after le h b = record {
  variables = h.variables;
  count = b.count ∙ h.count;
  same = λ x lt. b.kept x (omega arith) ∙ h.same x lt;
  shared_sizes = h.shared_sizes;
  shared = h.shared;
  world = h.world;
}

-- ---- places

-- a place in a variable
pub record InVariable (k : Names) (n : ℕ) (sp : Space) (x : Store) (from at : ℕ) : Type 0 where
  pub is_variable : IsIn sp x
  pub inside : from + n ≤ stored_size k x
  pub base : at ≡ stored_base k x + from

-- the register of an index is no variable's, and no index is so large that a sum wraps
pub record Small (least r n from to index : ℕ) : Type 0 where
  pub apart : least ≤ r
  pub index_small : index + n ≤ 2 ^ 31
  pub range_small : to - from + n ≤ 2 ^ 31

pub record Within (least r n from to index : ℕ) : Type 0 where
  pub small : Small least r n from to index
  pub inside : index + n ≤ to - from

-- a value's words stand in registers alone
abbrev pub StandsIn : Space → List ℕ → ℕ → ℕ → List ℕ → Type 0
StandsIn space.Own f at n words = words_from f at n ≡ words
StandsIn space.Group f at n words = ⊥

-- the words of a spot stand there
abbrev pub Stands : Names → ℕ → Where → Spot → List ℕ → Type 0
Stands k n (place.Fixed at) (spot.Value words) f = words_from f at n ≡ words
Stands k n (place.Fixed at) (spot.At x from) f = InVariable k n space.Own x from at
Stands k n (place.Fixed at) spot.Nowhere f = ⊥
Stands k n (place.Held registers) (spot.Value words) f = (map (slice_index f) registers ≡ words) × (length registers ≡ n)
Stands k n (place.Held registers) (spot.At x from) f = ⊥
Stands k n (place.Held registers) spot.Nowhere f = ⊥
Stands k n (place.Ranged sp from to index) (spot.Value words) f = Within (variables_end k) index n from to (slice_index f index) × StandsIn sp f (from + slice_index f index) n words
Stands k n (place.Ranged sp from to index) (spot.At x at) f = Within (variables_end k) index n from to (slice_index f index) × InVariable k n sp x at (from + slice_index f index)
Stands k n (place.Ranged sp from to index) spot.Nowhere f = Small (variables_end k) index n from to (slice_index f index) × (to - from ≤ slice_index f index)

abbrev pub RangeBelow : Space → ℕ → ℕ → Type 0
RangeBelow space.Own d to = to ≤ d
RangeBelow space.Group d to = Unit {0}

pub range_more : (sp : Space) (d e to : ℕ) → d ≤ e → RangeBelow sp d to → RangeBelow sp e to
range_more space.Own d e to le h = omega (arith, h)
range_more space.Group d e to le h = tt

-- the registers of a place are below
abbrev pub LiesBelow : ℕ → ℕ → Where → Type 0
LiesBelow d n (place.Fixed at) = at + n ≤ d
LiesBelow d n (place.Held registers) = Every (λ r. r < d) registers
LiesBelow d n (place.Ranged sp from to index) = (index < d) × RangeBelow sp d to

-- what code leaves that finds a place
pub record Found (k : Names) (R d to n : ℕ) (w : Where) (f : Site) (p : Spot) (s' : State) (exit : Exit) (f' : Site) : Type 0 where
  pub is_through : exit ≡ Through
  pub holds : Holds k R s' f'
  pub below : Below d f.registers f'.registers
  pub stands : Stands k n w p f'.registers
  pub lies : LiesBelow to n w

-- what code leaves that finds words
pub record Given (k : Names) (R d to n : ℕ) (at : List ℕ) (f : Site) (words : List ℕ) (s' : State) (exit : Exit) (f' : Site) : Type 0 where
  pub is_through : exit ≡ Through
  pub holds : Holds k R s' f'
  pub below : Below d f.registers f'.registers
  pub value : map (slice_index f'.registers) at ≡ words
  pub lies : Every (λ r. r < to) at
  pub count : length at ≡ n

module _ (a : Around) (cs : Callees) (k : Names) (R : ℕ) where
  abbrev pub SpotClaim : Action State Spot → (ℕ → Piece) → ℕ → ℕ → Type 0
  SpotClaim m c need n = (d : ℕ) (s : State) (f : Site) (t : ℕ) → variables_end k ≤ d → d + need < R → Holds k R s f → Agree (Found k R d (d + need) n (c d).at f) (m s t) (ops_do false a cs (c d).ops f t)

  abbrev pub WordsClaim : Action State (List ℕ) → (ℕ → Words) → ℕ → ℕ → Type 0
  WordsClaim m c need n = (d : ℕ) (s : State) (f : Site) (t : ℕ) → variables_end k ≤ d → d + need < R → Holds k R s f → Agree (Given k R d (d + need) n (c d).at f) (m s t) (ops_do false a cs (c d).ops f t)

  -- code after code that goes through
  pub then_code : {A B : Type 0} (P : A → State → Exit → Site → Type 0) (Q : B → State → Exit → Site → Type 0) (m : Ending State A) (x y : List Op) (f : Site) (t : ℕ) (g : A → Action State B) → ((v : A) (s : State) (e : Exit) (f : Site) → P v s e f → e ≡ Through) → Agree P m (ops_do false a cs x f t) → ((v : A) (s' : State) (f' : Site) (t' : ℕ) → P v s' Through f' → Agree Q (g v s' t') (ops_do false a cs y f' t')) → Agree Q (and_then m g) (ops_do false a cs (x ++ y) f t)
  then_code P Q m x y f t g th r h =
      rw (ops_append a cs x y f t) (agree_then P Q m (ops_do false a cs x f t) g (λ e. through e (ops_do false a cs y)) r (λ v s' e f' t' q.
      subst (λ z. Agree Q (g v s' t') (through z (ops_do false a cs y) f' t')) (sym (th v s' e f' q)) (h v s' f' t' (subst (λ z. P v s' z f') (th v s' e f' q) q))))

  -- a range read word by word: what each word is
  pub ranged_from : (xs : List ℕ) (from to index n : ℕ) → index + n ≤ to - from → map (λ c. ranged xs (from + c) to index) (run 0 n) ≡ words_from xs (from + index) n
  ranged_from xs from to index n le = let z : from + index + 0 ≡ from + index = omega arith in go 0 n (omega arith) ∙ ap (λ m. words_from xs m n) z
    where
      go : (c m : ℕ) → index + (c + m) ≤ to - from → map (λ c. ranged xs (from + c) to index) (run c m) ≡ words_from xs (from + index + c) m
      go c zero le = refl
      go c (suc m) le =
          let e : nat_lt index (to - (from + c)) ≡ true = grind arith in
          let x : from + c + index ≡ from + index + c = omega arith in
          let y : suc (from + index + c) ≡ from + index + suc c = omega arith in
          rw (e, x, go (suc c) m (omega arith), y) refl

  pub ranged_outside : (xs : List ℕ) (from to index n : ℕ) → to - from ≤ index → map (λ c. ranged xs (from + c) to index) (run 0 n) ≡ zeros n
  ranged_outside xs from to index n le = go 0 n
    where
      go : (c m : ℕ) → map (λ c. ranged xs (from + c) to index) (run c m) ≡ zeros m
      go c zero = refl
      go c (suc m) =
          let e : nat_lt index (to - (from + c)) ≡ false = grind arith in
          rw (e, go (suc c) m) refl
