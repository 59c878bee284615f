-- Valid parts run alike with and without the tests, and keep the lanes' numbers.
use Rattle.std.proofs.Common.{◌≡◌, ℕ, zero, suc, Bool, true, false, List, [], ◌∷◌, length, map, Option, Some, None, refl, ap, ◌∙◌, subst, arith}
use Rattle.std.specs.Prelude.{◌&&◌, nat_lt, if◌then◌else◌, slice_index}
use Rattle.wg_words.specs.Each.{Each}
use Rattle.wg_words.specs.Truth.{is_true}
use Rattle.wg_state.specs.Turns.{Action, Ending, Spent, Done, and_then, ◌>>=◌, pure}
use Rattle.wg_code.specs.declared.code.Part.{Part, roll-Part, fold-Part, fold-roll-Part, ind-Part, map-Part}
use Rattle.wg_code.specs.declared.code.Part.TheOpen.{Part-F}
use Rattle.wg_code.specs.declared.op.Op.{Op}
use Rattle.wg_code.specs.Lane.{Site, Exit, Through, Out, Again, Wrong}
use Rattle.wg_code.specs.Flow.{Outside}
use Rattle.wg_code.specs.PartMeaning.{Lanes, LaneActions, Running, then_run, lane_left, lane_runs, put_first, lanes_run, first_runs, first_lane, chosen, part_step, part_runs, parts_run}
use Rattle.wg_code.specs.Valid.{Scope, are_valid, parts_valid}
use Rattle.wg_code.specs.Valid.{part_step as judged}
use Rattle.wg_code.proofs.Alike.{left, right, Fits, Alike}

-- each lane has so many registers
abbrev pub Rows : ℕ → Lanes → Type 0
Rows r lanes = Each (λ (l : List ℕ). length l ≡ r) lanes

abbrev pub LaneFits : ℕ → ℕ → Ending Outside (Option (List ℕ)) → Type 0
LaneFits r sh Spent = Unit {0}
LaneFits r sh (Done None w t) = ⊥
LaneFits r sh (Done (Some lane) w t) = (length lane ≡ r) × (length w.0 ≡ sh)

abbrev pub RunFits : ℕ → ℕ → ℕ → Ending Outside (Option Lanes) → Type 0
RunFits r sh n Spent = Unit {0}
RunFits r sh n (Done None w t) = ⊥
RunFits r sh n (Done (Some lanes) w t) = Rows r lanes × (length lanes ≡ n) × (length w.0 ≡ sh)

abbrev pub RunAlike : ℕ → ℕ → ℕ → (Lanes → Running Lanes) → (Lanes → Running Lanes) → Type 0
RunAlike r sh n m k = (lanes : Lanes) (w : Outside) (t : ℕ) → Rows r lanes → length lanes ≡ n → length w.0 ≡ sh
    → (m lanes w t ≡ k lanes w t) × RunFits r sh n (k lanes w t)

module _ (r sh : ℕ) where
  left_alike : (o : Ending Site Exit) → Fits false r sh o → (lane_left true o ≡ lane_left false o) × LaneFits r sh (lane_left false o)
  left_alike Spent g = (refl, tt)
  left_alike (Done Through f t) g = (refl, (g.1, g.2))
  left_alike (Done Out f t) g = absurd (let e = g.0 in cc)
  left_alike (Done Again f t) g = absurd (let e = g.0 in cc)
  left_alike (Done Wrong f t) g = absurd g.0

  pub lane_alike : (m k : Action Site Exit) → Alike false r sh m k → (lane : List ℕ) (w : Outside) (t : ℕ) → length lane ≡ r → length w.0 ≡ sh
      → (lane_runs true m lane w t ≡ lane_runs false k lane w t) × LaneFits r sh (lane_runs false k lane w t)
  lane_alike m k a lane w t e1 e2 =
      let site : Site = record { registers = lane; shared = w.0; world = w.1 } in
      let goes = a site t e1 e2 in
      let ends = left_alike (k site t) goes.1 in
      (ap (lane_left true) goes.0 ∙ ends.0, ends.1)

  -- a lane's end, and what follows
  lane_then : (n : ℕ) (o : Ending Outside (Option (List ℕ))) (K L : List ℕ → Running Lanes) → LaneFits r sh o
      → ((lane : List ℕ) (w : Outside) (t : ℕ) → length lane ≡ r → length w.0 ≡ sh → (K lane w t ≡ L lane w t) × RunFits r sh n (L lane w t))
      → (and_then o (λ ran. then_run ran K) ≡ and_then o (λ ran. then_run ran L)) × RunFits r sh n (and_then o (λ ran. then_run ran L))
  lane_then n Spent K L g h = (refl, tt)
  lane_then n (Done None w t) K L g h = absurd g
  lane_then n (Done (Some lane) w t) K L g h = h lane w t g.0 g.1

  put_fits : (n : ℕ) (lane : List ℕ) → length lane ≡ r → (o : Ending Outside (Option Lanes)) → RunFits r sh n o
      → RunFits r sh (suc n) (and_then o (λ others. pure (put_first lane others)))
  put_fits n lane e Spent g = tt
  put_fits n lane e (Done None w t) g = absurd g
  put_fits n lane e (Done (Some rest) w t) g = ((e, g.0), ap suc g.1, g.2)

  lanes_alike : (bodies others : LaneActions) → ((at : ℕ) → Alike false r sh (bodies at) (others at)) → (n at : ℕ)
      → RunAlike r sh n (lanes_run true bodies at) (lanes_run false others at)
  lanes_alike bodies others a n at [] w t rows count e = (refl, (tt, count, e))
  lanes_alike bodies others a zero at (lane ∷ rest) w t rows count e = absurd (let z : suc (length rest) ≡ 0 = count in omega (arith, z))
  lanes_alike bodies others a (suc n) at (lane ∷ rest) w t rows count e =
      let one = lane_alike (bodies at) (others at) (a at) lane w t rows.0 e in
      let more = lane_then (suc n) (lane_runs false (others at) lane w t) _ _ one.1 (λ first w t e1 e2.
      let tail = lanes_alike bodies others a n (suc at) rest w t rows.1 (let s : suc (length rest) ≡ suc n = count in omega (arith, s)) e2 in
      (ap (λ o. and_then o (λ others. pure (put_first first others))) tail.0, put_fits n first e1 _ tail.1)) in
      (ap (λ o. and_then o (λ ran. then_run ran (λ first. lanes_run true bodies (suc at) rest >>= (λ others. pure (put_first first others))))) one.0 ∙ more.0, more.1)

  first_alike : (bodies others : LaneActions) → ((at : ℕ) → Alike false r sh (bodies at) (others at)) → (n : ℕ)
      → RunAlike r sh n (first_runs true bodies) (first_runs false others)
  first_alike bodies others a n [] w t rows count e = (refl, (tt, count, e))
  first_alike bodies others a n (lane ∷ rest) w t rows count e =
      let one = lane_alike (bodies 0) (others 0) (a 0) lane w t rows.0 e in
      let more = lane_then n (lane_runs false (others 0) lane w t) (λ first. pure (Some (first ∷ rest))) (λ first. pure (Some (first ∷ rest))) one.1 (λ first w t e1 e2. (refl, ((e1, rows.1), count, e2))) in
      (ap (λ o. and_then o (λ ran. then_run ran (λ first. pure (Some (first ∷ rest))))) one.0 ∙ more.0, more.1)

  -- the end of a part, and what follows
  run_then : (n : ℕ) (o : Ending Outside (Option Lanes)) (K L : Lanes → Running Lanes) → RunFits r sh n o → RunAlike r sh n K L
      → (and_then o (λ ran. then_run ran K) ≡ and_then o (λ ran. then_run ran L)) × RunFits r sh n (and_then o (λ ran. then_run ran L))
  run_then n Spent K L g h = (refl, tt)
  run_then n (Done None w t) K L g h = absurd g
  run_then n (Done (Some lanes) w t) K L g h = h lanes w t g.0 g.1 g.2

  seq_alike : (n : ℕ) (m k K L : Lanes → Running Lanes) → RunAlike r sh n m k → RunAlike r sh n K L
      → RunAlike r sh n (λ lanes w t. and_then (m lanes w t) (λ ran. then_run ran K)) (λ lanes w t. and_then (k lanes w t) (λ ran. then_run ran L))
  seq_alike n m k K L a b lanes w t rows count e =
      let one = a lanes w t rows count e in
      let more = run_then n (k lanes w t) K L one.1 b in
      (ap (λ o. and_then o (λ ran. then_run ran K)) one.0 ∙ more.0, more.1)

  if_alike : (n : ℕ) (b : Bool) (m k x y : Lanes → Running Lanes) → RunAlike r sh n m k → RunAlike r sh n x y → (lanes : Lanes) (w : Outside) (t : ℕ) → Rows r lanes → length lanes ≡ n → length w.0 ≡ sh
      → ((if b then m lanes else x lanes) w t ≡ (if b then k lanes else y lanes) w t) × RunFits r sh n ((if b then k lanes else y lanes) w t)
  if_alike n true m k x y a c = a
  if_alike n false m k x y a c = c

  first_row : (n : ℕ) (lanes : Lanes) → Rows r lanes → length lanes ≡ suc n → length (first_lane lanes) ≡ r
  first_row n [] rows e = absurd (let z : 0 ≡ suc n = e in omega (arith, z))
  first_row n (lane ∷ rest) rows e = rows.0

  chosen_alike : (n a : ℕ) → nat_lt a r ≡ true → (m k x y : Lanes → Running Lanes) → RunAlike r sh (suc n) m k → RunAlike r sh (suc n) x y
      → RunAlike r sh (suc n) (chosen true a m x) (chosen false a k y)
  chosen_alike n a lt m k x y h g lanes w t rows count e =
      let there : nat_lt a (length (first_lane lanes)) ≡ true = ap (λ z. nat_lt a z) (first_row n lanes rows count) ∙ lt in
      let goes = if_alike (suc n) (is_true (slice_index (first_lane lanes) a)) m k x y h g lanes w t rows count e in
      (rw there (goes.0), goes.1)

module _ (k : Scope) (sh n : ℕ) (B D : List Op → LaneActions) (bodies : (body : List Op) → are_valid k false body ≡ true → (at : ℕ) → Alike false k.tables.registers sh (B body at) (D body at)) where
  abbrev Runs : Part → Type 0
  Runs part = fold-Part Bool (judged k) part ≡ true → RunAlike k.tables.registers sh (suc n) (part_runs true B part) (part_runs false D part)

  order_alike : (parts : List Part) → Each Runs parts → parts_valid k parts ≡ true → RunAlike k.tables.registers sh (suc n) (parts_run true B parts) (parts_run false D parts)
  order_alike [] runs valid = λ lanes w t rows count e. (refl, (rows, count, e))
  order_alike (part ∷ parts) runs valid =
      seq_alike k.tables.registers sh (suc n) _ _ _ _ (runs.0 (left (fold-Part Bool (judged k) part) (parts_valid k parts) valid)) (order_alike parts runs.1 (right (fold-Part Bool (judged k) part) (parts_valid k parts) valid))

  all_run : {C : Type 0} (p : C → Part) → ((c : C) → Runs (p c)) → (cs : List C) → Each Runs (map p cs)
  all_run p runs [] = tt
  all_run p runs (c ∷ cs) = (runs c, all_run p runs cs)

  abbrev Run : Type 0
  Run = Lanes → Running Lanes

  layer : {C : Type 0} (p : C → Part) → ((c : C) → Runs (p c)) → (y : Part-F C)
      → judged k (map-Part Part Bool (fold-Part Bool (judged k)) (map-Part C Part p y)) ≡ true
      → RunAlike k.tables.registers sh (suc n) (part_step true B (map-Part Part Run (part_runs true B) (map-Part C Part p y))) (part_step false D (map-Part Part Run (part_runs false D) (map-Part C Part p y)))
  layer p runs (Part-F.Lanes body) valid = lanes_alike k.tables.registers sh (B body) (D body) (bodies body valid) (suc n) 0
  layer p runs (Part-F.First body) valid = first_alike k.tables.registers sh (B body) (D body) (bodies body valid) (suc n)
  layer {C} p runs (Part-F.Choose a first second) valid =
      let both = right (nat_lt a k.tables.registers) (parts_valid k (map p first) && parts_valid k (map p second)) valid in
      chosen_alike k.tables.registers sh n a (left (nat_lt a k.tables.registers) _ valid) _ _ _ _
      (order_alike (map p first) (all_run p runs first) (left (parts_valid k (map p first)) _ both))
      (order_alike (map p second) (all_run p runs second) (right (parts_valid k (map p first)) (parts_valid k (map p second)) both))

  part_alike : (part : Part) → Runs part
  part_alike part = ind-Part Runs
      (λ x y eq. subst (λ l. Runs (roll-Part l)) eq (rw (fold-roll-Part Bool (judged k) _, fold-roll-Part Run (part_step true B) _, fold-roll-Part Run (part_step false D) _) (layer (λ c. c.0) (λ c. c.1) y)))
      part

  each_runs : (parts : List Part) → Each Runs parts
  each_runs [] = tt
  each_runs (part ∷ parts) = (part_alike part, each_runs parts)

  pub parts_alike : (parts : List Part) → parts_valid k parts ≡ true → RunAlike k.tables.registers sh (suc n) (parts_run true B parts) (parts_run false D parts)
  parts_alike parts valid = order_alike parts (each_runs parts) valid
