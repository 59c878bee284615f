-- Words written to a place of the source, and to the registers or groupshared words of its code.
use Rattle.std.proofs.Common.{◌≡◌, ◌≢◌, ℕ, zero, suc, ◌+◌, ◌-◌, ◌<◌, ◌≤◌, List, [], ◌∷◌, ◌++◌, map, length, true, false, refl, sym, ap, ◌∙◌, subst, arith, inl, inr, get_or-set_other, get_or-set_same}
use Rattle.std.proofs.lemmas.Bool.{cases_eq, leb-true}
use Rattle.std.proofs.lemmas.List.{length-set, set-append_left, set-append_right}
use Rattle.std.specs.Prelude.{slice_index, slice_set, nat_lt, nat_le, IsTrue}
use Rattle.std.specs.List.{list_all}
use Rattle.wg_state.specs.Turns.{Done, Action, and_then}
use Rattle.wg_state.specs.WordLists.{list_at}
use Rattle.wg_typed.specs.Layout.{put}
use Rattle.wg_semantics.specs.Places.{stored, with_stored, over_written, written}
use Rattle.wg_semantics.specs.declared.state.State.{State}
use Rattle.wg_semantics.specs.declared.state.Spot.{Spot}
use Rattle.wg_semantics.specs.declared.state.Spot.TheVariants as spot
use Rattle.wg_semantics.specs.declared.state.Store.{Store}
use Rattle.wg_semantics.specs.declared.state.Store.TheVariants as store
use Rattle.wg_code.specs.Lane.{Around, Site, Exit, Through}
use Rattle.wg_code.specs.Flow.{Callees, through}
use Rattle.wg_code.specs.OpMeaning.{op_does, ops_do, op_step}
use Rattle.wg_code.specs.declared.op.Op.{Op, fold-roll-Op}
use Rattle.wg_code.specs.declared.op.Op.TheOpen.{Op-F}
use Rattle.wg_code.specs.declared.op.Op.TheVariants as o
use Rattle.wg_lowered.specs.declared.places.Where.{Where}
use Rattle.wg_lowered.specs.declared.places.Where.TheVariants as place
use Rattle.wg_lowered.specs.declared.places.Space.{Space}
use Rattle.wg_lowered.specs.declared.places.Space.TheVariants as space
use Rattle.wg_lowered.specs.Holding.{Holds}
use Rattle.wg_lowered.specs.Where.{Names, base_of, total, variables_end}
use Rattle.wg_lowered.proofs.Ops.{ops_append, ops_one, does_Copy}
use Rattle.wg_lowered.proofs.Straight.{Every, with}
use Rattle.wg_lowered.proofs.Registers.{and_left, and_right, base_below, put_length}
use Rattle.wg_lowered.proofs.Values.{IsIn, InVariable, Stands, stored_base, stored_size}
use Rattle.wg_lowered_bodies.specs.Steps.{are_apart, next_place, store_op, stores}

-- ---- lists among lists

set_both : (x y v : ℕ) (xs ys : List ℕ) → x < length xs → x < length ys → slice_index xs y ≡ slice_index ys y → slice_index (slice_set xs x v) y ≡ slice_index (slice_set ys x v) y
set_both x y v xs ys lx ly e =
    elim (cases_eq y x) [
      | inl p ↦ rw p (get_or-set_same xs x v 0 lx ∙ sym (get_or-set_same ys x v 0 ly))
      | inr n ↦ get_or-set_other xs x y v 0 n ∙ e ∙ sym (get_or-set_other ys x y v 0 n)
    ]

-- a list among lists is there where it has a size
there : (lists : List (List ℕ)) (x : ℕ) → 0 < slice_index (map length lists) x → x < length lists
there [] x lt = absurd (let h : ⊥ = omega arith in h)
there (l ∷ lists) zero lt = omega arith
there (l ∷ lists) (suc x) lt = omega (arith, there lists x lt)

lengths_set : (lists : List (List ℕ)) (x j v : ℕ) → map length (slice_set lists x (slice_set (list_at lists x) j v)) ≡ map length lists
lengths_set [] x j v = refl
lengths_set (l ∷ lists) zero j v = ap (λ n. n ∷ map length lists) (length-set l j v)
lengths_set (l ∷ lists) (suc x) j v = ap (λ n. length l ∷ n) (lengths_set lists x j v)

flat_set : (lists : List (List ℕ)) (x j v : ℕ) → j < slice_index (map length lists) x → put (slice_set lists x (slice_set (list_at lists x) j v)) ≡ slice_set (put lists) (base_of (map length lists) x + j) v
flat_set [] x j v lt = absurd (let h : ⊥ = omega arith in h)
flat_set (l ∷ lists) zero j v lt = let z : 0 + j ≡ j = omega arith in sym (ap (λ m. slice_set (l ++ put lists) m v) z ∙ set-append_left l (put lists) j v lt)
flat_set (l ∷ lists) (suc x) j v lt =
    let at = length l + base_of (map length lists) x + j in
    let e : at - length l ≡ base_of (map length lists) x + j = omega arith in
    sym (set-append_right l (put lists) (length l) at v refl (omega arith) ∙ ap (λ m. l ++ slice_set (put lists) m v) e ∙ ap (λ m. l ++ m) (sym (flat_set lists x j v lt)))

flat_sized : (lists : List (List ℕ)) (sizes : List ℕ) (x j v : ℕ) → map length lists ≡ sizes → j < slice_index sizes x → put (slice_set lists x (slice_set (list_at lists x) j v)) ≡ slice_set (put lists) (base_of sizes x + j) v
flat_sized lists sizes x j v e lt = subst (λ l. j < slice_index l x → put (slice_set lists x (slice_set (list_at lists x) j v)) ≡ slice_set (put lists) (base_of l x + j) v) e (flat_set lists x j v) lt

-- a list that is set to itself, set twice, or read again
set_same : (lists : List (List ℕ)) (x : ℕ) → slice_set lists x (list_at lists x) ≡ lists
set_same [] x = refl
set_same (l ∷ lists) zero = refl
set_same (l ∷ lists) (suc x) = ap (λ r. l ∷ r) (set_same lists x)

set_twice : (lists : List (List ℕ)) (x : ℕ) (a b : List ℕ) → slice_set (slice_set lists x a) x b ≡ slice_set lists x b
set_twice [] x a b = refl
set_twice (l ∷ lists) zero a b = refl
set_twice (l ∷ lists) (suc x) a b = ap (λ r. l ∷ r) (set_twice lists x a b)

set_read : (lists : List (List ℕ)) (x : ℕ) (a : List ℕ) → x < length lists → list_at (slice_set lists x a) x ≡ a
set_read [] x a lt = absurd (let h : ⊥ = omega arith in h)
set_read (l ∷ lists) zero a lt = refl
set_read (l ∷ lists) (suc x) a lt = set_read lists x a (omega arith)

-- ---- a store's words, in the source

stored_same : (sp : Space) (x : Store) (s : State) → IsIn sp x → with_stored x (stored x s) s ≡ s
stored_same space.Own (store.Variable v) s i = rw (set_same s.variables v) refl
stored_same space.Group (store.Shared v) s i = rw (set_same s.world.shared v) refl
stored_same space.Own (store.Shared v) s i = absurd i
stored_same space.Own (store.Buffer v) s i = absurd i
stored_same space.Own (store.Input v) s i = absurd i
stored_same space.Own (store.Granted g v) s i = absurd i
stored_same space.Group (store.Variable v) s i = absurd i
stored_same space.Group (store.Buffer v) s i = absurd i
stored_same space.Group (store.Input v) s i = absurd i
stored_same space.Group (store.Granted g v) s i = absurd i

stored_twice : (sp : Space) (x : Store) (a b : List ℕ) (s : State) → IsIn sp x → with_stored x b (with_stored x a s) ≡ with_stored x b s
stored_twice space.Own (store.Variable v) a b s i = rw (set_twice s.variables v a b) refl
stored_twice space.Group (store.Shared v) a b s i = rw (set_twice s.world.shared v a b) refl
stored_twice space.Own (store.Shared v) a b s i = absurd i
stored_twice space.Own (store.Buffer v) a b s i = absurd i
stored_twice space.Own (store.Input v) a b s i = absurd i
stored_twice space.Own (store.Granted g v) a b s i = absurd i
stored_twice space.Group (store.Variable v) a b s i = absurd i
stored_twice space.Group (store.Buffer v) a b s i = absurd i
stored_twice space.Group (store.Input v) a b s i = absurd i
stored_twice space.Group (store.Granted g v) a b s i = absurd i

-- ---- a word

-- with a word of a space
abbrev pub with_word : Space → ℕ → ℕ → Site → Site
with_word space.Own at v f = with f (slice_set f.registers at v)
with_word space.Group at v f = record f { shared = slice_set f.shared at v }

-- the registers that are no variable's are the same
abbrev pub Kept : ℕ → Site → Site → Type 0
Kept least f g = (r : ℕ) → least ≤ r → slice_index g.registers r ≡ slice_index f.registers r

record Wrote (k : Names) (R : ℕ) (x : Store) (from v : ℕ) (s : State) (f f' : Site) : Type 0 where
  holds : Holds k R (with_stored x (slice_set (stored x s) from v) s) f'
  kept : Kept (variables_end k) f f'
  again : stored x (with_stored x (slice_set (stored x s) from v) s) ≡ slice_set (stored x s) from v

set_word : (k : Names) (R : ℕ) (s : State) (f : Site) (sp : Space) (x : Store) (j v : ℕ) → variables_end k ≤ R → Holds k R s f → IsIn sp x → j < stored_size k x → Wrote k R x j v s f (with_word sp (stored_base k x + j) v f)
set_word k R s f space.Own (store.Variable x) j v le h i lt =
    let at = base_of k.variables x + j in
    let fl = flat_sized s.variables k.variables x j v h.variables lt in
    let long : length (put s.variables) ≡ total k.variables = put_length s.variables ∙ ap total h.variables in
    let base = base_below k.variables x in
    let lt2 : j < slice_index (map length s.variables) x = subst (λ l. j < slice_index l x) (sym h.variables) lt in
    record {
      holds = record {
        variables = lengths_set s.variables x j v ∙ h.variables;
        count = length-set f.registers at v ∙ h.count;
        same = λ y ly. set_both at y v f.registers (put s.variables) (omega (arith, h.count, base)) (omega (arith, long, base)) (h.same y ly) ∙ ap (λ l. slice_index l y) (sym fl);
        shared_sizes = h.shared_sizes;
        shared = h.shared;
        world = h.world;
      };
      kept = λ r le. let ne : r ≢ at = omega (arith, base) in get_or-set_other f.registers at r v 0 ne;
      again = set_read s.variables x (slice_set (list_at s.variables x) j v) (there s.variables x (omega arith));
    }
set_word k R s f space.Group (store.Shared x) j v le h i lt =
    let lt2 : j < slice_index (map length s.world.shared) x = subst (λ l. j < slice_index l x) (sym h.shared_sizes) lt in
    record {
      holds = record {
        variables = h.variables;
        count = h.count;
        same = h.same;
        shared_sizes = lengths_set s.world.shared x j v ∙ h.shared_sizes;
        shared = ap (λ l. slice_set l (base_of k.shared x + j) v) h.shared ∙ sym (flat_sized s.world.shared k.shared x j v h.shared_sizes lt);
        world = h.world;
      };
      kept = λ r le. refl;
      again = set_read s.world.shared x (slice_set (list_at s.world.shared x) j v) (there s.world.shared x (omega arith));
    }
set_word k R s f space.Own (store.Shared x) j v le h i lt = absurd i
set_word k R s f space.Own (store.Buffer x) j v le h i lt = absurd i
set_word k R s f space.Own (store.Input x) j v le h i lt = absurd i
set_word k R s f space.Own (store.Granted g x) j v le h i lt = absurd i
set_word k R s f space.Group (store.Variable x) j v le h i lt = absurd i
set_word k R s f space.Group (store.Buffer x) j v le h i lt = absurd i
set_word k R s f space.Group (store.Input x) j v le h i lt = absurd i
set_word k R s f space.Group (store.Granted g x) j v le h i lt = absurd i

-- ---- words

-- what stands where something can be written
abbrev pub IsPlace : Spot → Type 0
IsPlace (spot.Value words) = ⊥
IsPlace (spot.At x from) = Unit {0}
IsPlace spot.Nowhere = Unit {0}

abbrev pub Apart : ℕ → List ℕ → Type 0
Apart least [] = Unit {0}
Apart least (r ∷ rest) = Every (λ r. least ≤ r) rest

all_apart : (least : ℕ) (rs : List ℕ) → IsTrue (list_all (nat_le least) rs) → Every (λ r. least ≤ r) rs
all_apart least [] h = tt
all_apart least (r ∷ rs) h = (leb-true least r (and_left (nat_le least r) _ h), all_apart least rs (and_right (nat_le least r) _ h))

pub apart_is : (least : ℕ) (rs : List ℕ) → IsTrue (are_apart least rs) → Apart least rs
apart_is least [] h = tt
apart_is least (r ∷ rs) h = all_apart least rs h

pub rest_apart : (least : ℕ) (rs : List ℕ) → Every (λ r. least ≤ r) rs → Apart least rs
rest_apart least [] h = tt
rest_apart least (r ∷ rs) h = h.1

pub reads_kept : (least : ℕ) (f g : Site) (rs : List ℕ) → Kept least f g → Every (λ r. least ≤ r) rs → map (slice_index g.registers) rs ≡ map (slice_index f.registers) rs
reads_kept least f g [] h e = refl
reads_kept least f g (r ∷ rs) h e = rw (h r e.0, reads_kept least f g rs h e.1) refl

-- the place behind the first word
abbrev next_spot : Spot → Spot
next_spot (spot.Value words) = spot.Value words
next_spot (spot.At x from) = spot.At x (suc from)
next_spot spot.Nowhere = spot.Nowhere

next_stands : (k : Names) (n : ℕ) (w : Where) (p : Spot) (f g : Site) → Kept (variables_end k) f g → IsPlace p → Stands k (suc n) w p f.registers → Stands k n (next_place w) (next_spot p) g.registers
next_stands k n w (spot.Value words) f g h i st = absurd i
next_stands k n (place.Fixed at) (spot.At x from) f g h i st = record { is_variable = st.is_variable; inside = omega (arith, st.inside); base = omega (arith, st.base) }
next_stands k n (place.Fixed at) spot.Nowhere f g h i st = st
next_stands k n (place.Held rs) (spot.At x from) f g h i st = st
next_stands k n (place.Held rs) spot.Nowhere f g h i st = st
next_stands k n (place.Ranged sp from to r) (spot.At x at) f g h i st =
    let e = h r st.0.small.apart in
    rw e (
      record { small = record { apart = st.0.small.apart; index_small = omega (arith, st.0.small.index_small); range_small = omega (arith, st.0.small.range_small) }; inside = omega (arith, st.0.inside) },
      record { is_variable = st.1.is_variable; inside = omega (arith, st.1.inside); base = omega (arith, st.1.base) },
    )
next_stands k n (place.Ranged sp from to r) spot.Nowhere f g h i st =
    let e = h r st.0.apart in
    rw e (record { apart = st.0.apart; index_small = omega (arith, st.0.index_small); range_small = omega (arith, st.0.range_small) }, omega (arith, st.1))

next_is_place : (p : Spot) → IsPlace p → IsPlace (next_spot p)
next_is_place (spot.Value words) i = i
next_is_place (spot.At x from) i = tt
next_is_place spot.Nowhere i = tt

-- one word after another, in the source
written_more : (k : Names) (n v : ℕ) (ws : List ℕ) (sp : Space) (x : Store) (from : ℕ) (s : State) → IsIn sp x → stored x (with_stored x (slice_set (stored x s) from v) s) ≡ slice_set (stored x s) from v → written (spot.At x (suc from)) ws (written (spot.At x from) (v ∷ []) s) ≡ written (spot.At x from) (v ∷ ws) s
written_more k n v ws sp x from s i again =
    ap (λ l. with_stored x (over_written l (suc from) ws) (with_stored x (slice_set (stored x s) from v) s)) again
    ∙ stored_twice sp x (slice_set (stored x s) from v) (over_written (slice_set (stored x s) from v) (suc from) ws) s i

module _ (a : Around) (cs : Callees) (k : Names) (R : ℕ) where
  pub does_LocalPut : (from to index r : ℕ) → op_does false a cs (o.LocalPut from to index r) ≡ op_step false a cs (Op-F.LocalPut from to index r)
  does_LocalPut from to index r = ap (op_does false a cs) (sym (o.rolls-LocalPut from to index r)) ∙ fold-roll-Op (Action Site Exit) (op_step false a cs) (Op-F.LocalPut from to index r)

  does_SharedPut : (from to index r : ℕ) → op_does false a cs (o.SharedPut from to index r) ≡ op_step false a cs (Op-F.SharedPut from to index r)
  does_SharedPut from to index r = ap (op_does false a cs) (sym (o.rolls-SharedPut from to index r)) ∙ fold-roll-Op (Action Site Exit) (op_step false a cs) (Op-F.SharedPut from to index r)

  -- what code leaves that writes words: the state in which they are written, and the registers that are no variable's
  pub record Writes (ops : List Op) (s' : State) (f : Site) (t : ℕ) : Type 0 where
    pub after : Site
    pub runs : ops_do false a cs ops f t ≡ Done Through after t
    pub holds : Holds k R s' after
    pub kept : Kept (variables_end k) f after

  -- the first word
  record First (ops : List Op) (p : Spot) (v : ℕ) (s : State) (f : Site) (t : ℕ) : Type 0 where
    writes : Writes ops (written p (v ∷ []) s) f t
    more : (ws : List ℕ) → written (next_spot p) ws (written p (v ∷ []) s) ≡ written p (v ∷ ws) s

  put_first : (sp : Space) (x : Store) (ops : List Op) (from at v n : ℕ) (s : State) (f : Site) (t : ℕ) → variables_end k ≤ R → Holds k R s f → InVariable k (suc n) sp x from at → ops_do false a cs ops f t ≡ Done Through (with_word sp at v f) t → First ops (spot.At x from) v s f t
  put_first sp x ops from at v n s f t le h i runs =
      let z = set_word k R s f sp x from v le h i.is_variable (omega (arith, i.inside)) in
      record {
        writes = record { after = with_word sp (stored_base k x + from) v f; runs = runs ∙ ap (λ y. Done Through (with_word sp y v f) t) i.base; holds = z.holds; kept = z.kept };
        more = λ ws. written_more k n v ws sp x from s i.is_variable z.again;
      }

  stays_first : (ops : List Op) (v : ℕ) (s : State) (f : Site) (t : ℕ) → Holds k R s f → ops_do false a cs ops f t ≡ Done Through f t → First ops spot.Nowhere v s f t
  stays_first ops v s f t h runs = record { writes = record { after = f; runs = runs; holds = h; kept = λ r le. refl }; more = λ ws. refl }

  store_first : (n r v : ℕ) (w : Where) (p : Spot) (s : State) (f : Site) (t : ℕ) → variables_end k ≤ R → Holds k R s f → IsPlace p → Stands k (suc n) w p f.registers → slice_index f.registers r ≡ v → First (store_op w r) p v s f t
  store_first n r v w (spot.Value words) s f t le h i st e = absurd i
  store_first n r v (place.Fixed at) (spot.At x from) s f t le h i st e =
      put_first space.Own x (o.Copy at r ∷ []) from at v n s f t le h st (ops_one a cs _ _ f t (does_Copy a cs at r) ∙ ap (λ y. Done Through (with f (slice_set f.registers at y)) t) e)
  store_first n r v (place.Fixed at) spot.Nowhere s f t le h i st e = absurd st
  store_first n r v (place.Held rs) (spot.At x from) s f t le h i st e = absurd st
  store_first n r v (place.Held rs) spot.Nowhere s f t le h i st e = absurd st
  store_first n r v (place.Ranged space.Own from to index) (spot.At x at) s f t le h i st e =
      let inside : nat_lt (slice_index f.registers index) (to - from) ≡ true = (let z = st.0.inside in grind (arith, z)) in
      put_first space.Own x (o.LocalPut from to index r ∷ []) at (from + slice_index f.registers index) v n s f t le h st.1 (ops_one a cs _ _ f t (does_LocalPut from to index r) ∙ rw (e, inside) refl)
  store_first n r v (place.Ranged space.Group from to index) (spot.At x at) s f t le h i st e =
      let inside : nat_lt (slice_index f.registers index) (to - from) ≡ true = (let z = st.0.inside in grind (arith, z)) in
      put_first space.Group x (o.SharedPut from to index r ∷ []) at (from + slice_index f.registers index) v n s f t le h st.1 (ops_one a cs _ _ f t (does_SharedPut from to index r) ∙ rw (e, inside) refl)
  store_first n r v (place.Ranged space.Own from to index) spot.Nowhere s f t le h i st e =
      let outside : nat_lt (slice_index f.registers index) (to - from) ≡ false = (let z = st.1 in grind (arith, z)) in
      stays_first (o.LocalPut from to index r ∷ []) v s f t h (ops_one a cs _ _ f t (does_LocalPut from to index r) ∙ rw outside refl)
  store_first n r v (place.Ranged space.Group from to index) spot.Nowhere s f t le h i st e =
      let outside : nat_lt (slice_index f.registers index) (to - from) ≡ false = (let z = st.1 in grind (arith, z)) in
      stays_first (o.SharedPut from to index r ∷ []) v s f t h (ops_one a cs _ _ f t (does_SharedPut from to index r) ∙ rw outside refl)

  no_words : (w : Where) (p : Spot) (s : State) (f : Site) → IsPlace p → Stands k 0 w p f.registers → written p [] s ≡ s
  no_words w (spot.Value words) s f i st = absurd i
  no_words (place.Fixed at) (spot.At x from) s f i st = stored_same space.Own x s st.is_variable
  no_words (place.Held rs) (spot.At x from) s f i st = absurd st
  no_words (place.Ranged sp from to index) (spot.At x at) s f i st = stored_same sp x s st.1.is_variable
  no_words w spot.Nowhere s f i st = refl

  -- words to a place
  pub stores_go : (rs : List ℕ) (w : Where) (p : Spot) (s : State) (f : Site) (t : ℕ) → variables_end k ≤ R → Holds k R s f → IsPlace p → Stands k (length rs) w p f.registers → Apart (variables_end k) rs → Writes (stores w rs) (written p (map (slice_index f.registers) rs) s) f t
  stores_go [] w p s f t le h i st ap' = record { after = f; runs = refl; holds = subst (λ z. Holds k R z f) (sym (no_words w p s f i st)) h; kept = λ r le. refl }
  stores_go (r ∷ rs) w p s f t le h i st ap' =
      let x = store_first (length rs) r (slice_index f.registers r) w p s f t le h i st refl in
      let f1 = x.writes.after in
      let y = stores_go rs (next_place w) (next_spot p) (written p (slice_index f.registers r ∷ []) s) f1 t le x.writes.holds (next_is_place p i) (next_stands k (length rs) w p f f1 x.writes.kept i st) (rest_apart (variables_end k) rs ap') in
      let same : map (slice_index f1.registers) rs ≡ map (slice_index f.registers) rs = reads_kept (variables_end k) f f1 rs x.writes.kept ap' in
      record {
        after = y.after;
        runs = ops_append a cs (store_op w r) (stores (next_place w) rs) f t ∙ ap (λ z. and_then z (λ e. through e (ops_do false a cs (stores (next_place w) rs)))) x.writes.runs ∙ y.runs;
        holds = subst (λ z. Holds k R z y.after) (ap (λ l. written (next_spot p) l (written p (slice_index f.registers r ∷ []) s)) same ∙ x.more (map (slice_index f.registers) rs)) y.holds;
        kept = λ q le. y.kept q le ∙ x.writes.kept q le;
      }
