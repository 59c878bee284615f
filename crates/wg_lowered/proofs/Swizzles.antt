-- Several components of a vector.
use Rattle.std.proofs.Common.{◌≡◌, ℕ, zero, suc, ◌+◌, ◌<◌, ◌≤◌, List, [], ◌∷◌, map, length, refl, sym, ap, ◌∙◌, subst, arith}
use Rattle.std.proofs.lemmas.Bool.{ltb-true}
use Rattle.std.proofs.lemmas.List.{length-map}
use Rattle.std.specs.Prelude.{slice_index, IsTrue, nat_lt}
use Rattle.std.specs.List.{list_all}
use Rattle.wg_semantics.specs.Places.{words_from, fetched}
use Rattle.wg_semantics.specs.declared.state.State.{State}
use Rattle.wg_semantics.specs.declared.state.Spot.{Spot}
use Rattle.wg_semantics.specs.declared.state.Spot.TheVariants as spot
use Rattle.wg_typed.specs.declared.types.TypeTree.{TypeTree}
use Rattle.wg_code.specs.Lane.{Around, Site}
use Rattle.wg_code.specs.Flow.{Callees}
use Rattle.wg_lowered.specs.Where.{Names, size}
use Rattle.wg_lowered.specs.declared.places.Where.{Where}
use Rattle.wg_lowered.specs.declared.places.Where.TheVariants as place
use Rattle.wg_lowered.specs.declared.places.Space.{Space}
use Rattle.wg_lowered.specs.declared.places.Space.TheVariants as space
use Rattle.wg_lowered.specs.Where.{run}
use Rattle.wg_lowered.proofs.Straight.{Every, below_same, Straight, Puts, each_puts}
use Rattle.wg_lowered.proofs.Registers.{and_left, and_right, run_length, run_below}
use Rattle.wg_lowered.specs.Holding.{Holds}
use Rattle.wg_lowered.proofs.Values.{Stands, LiesBelow, RangeBelow}
use Rattle.wg_lowered.specs.Where.{get_op}
use Rattle.wg_lowered.specs.Exprs.{picked}
use Rattle.wg_lowered.proofs.Straight.{get_puts}
use Rattle.wg_lowered.proofs.Values.{fetched_variable}
use Rattle.wg_lowered.proofs.Fetches.{variable_read, ranged_same, got, ranged_words}
use Rattle.std.proofs.lemmas.List.{get_or-map}

pick_from : (xs : List ℕ) (at n c : ℕ) → c < n → slice_index (words_from xs at n) c ≡ slice_index xs (at + c)
pick_from xs at zero c lt = absurd (let h : ⊥ = omega arith in h)
pick_from xs at (suc n) zero lt = let z : at ≡ at + 0 = omega arith in ap (slice_index xs) z
pick_from xs at (suc n) (suc c) lt = let z : suc at + c ≡ at + suc c = omega arith in pick_from xs (suc at) n c (omega arith) ∙ ap (slice_index xs) z

pick_run : (g : ℕ → ℕ) (at n c : ℕ) → c < n → slice_index (map g (run at n)) c ≡ g (at + c)
pick_run g at zero c lt = absurd (let h : ⊥ = omega arith in h)
pick_run g at (suc n) zero lt = let z : at ≡ at + 0 = omega arith in ap g z
pick_run g at (suc n) (suc c) lt = let z : suc at + c ≡ at + suc c = omega arith in pick_run g (suc at) n c (omega arith) ∙ ap g z

-- one by one
picks : (g h : ℕ → ℕ) (n : ℕ) (cs : List ℕ) → ((c : ℕ) → c < n → g c ≡ h c) → Every (λ c. c < n) cs → map g cs ≡ map h cs
picks g h n [] e l = refl
picks g h n (c ∷ cs) e l = rw (e c l.0, picks g h n cs e l.1) refl

map_both : (g h : ℕ → ℕ) (xs : List ℕ) → map g (map h xs) ≡ map (λ x. g (h x)) xs
map_both g h [] = refl
map_both g h (x ∷ xs) = ap (λ l. g (h x) ∷ l) (map_both g h xs)

every_map : (d : ℕ) (h : ℕ → ℕ) (n : ℕ) (cs : List ℕ) → ((c : ℕ) → c < n → h c < d) → Every (λ c. c < n) cs → Every (λ r. r < d) (map h cs)
every_map d h n [] e l = tt
every_map d h n (c ∷ cs) e l = (e c l.0, every_map d h n cs e l.1)

every_at : (d : ℕ) (rs : List ℕ) (c : ℕ) → Every (λ r. r < d) rs → c < length rs → slice_index rs c < d
every_at d [] c h lt = absurd (let z : ⊥ = omega arith in z)
every_at d (r ∷ rs) zero h lt = h.0
every_at d (r ∷ rs) (suc c) h lt = every_at d rs c h.1 (omega arith)

pub all_below : (n : ℕ) (cs : List ℕ) → IsTrue (list_all (λ c. nat_lt c n) cs) → Every (λ c. c < n) cs
all_below n [] h = tt
all_below n (c ∷ cs) h = (ltb-true c n (and_left (nat_lt c n) _ h), all_below n cs (and_right (nat_lt c n) _ h))

module _ (a : Around) (cs : Callees) (k : Names) (R : ℕ) where
  abbrev Picked : List ℕ → ℕ → Where → ℕ → List ℕ → List ℕ → Type 0
  Picked components n w d words after = (map (slice_index after) (picked w components d).at ≡ map (slice_index words) components) × (Every (λ r. r < d + length components) (picked w components d).at × (length (picked w components d).at ≡ length components))

  ranged_picks : (components : List ℕ) (n : ℕ) (sp : Space) (from to index d : ℕ) (words : List ℕ) (f : Site) (t : ℕ) → Every (λ c. c < n) components → index < d → RangeBelow sp d to → d + length components < R → length f.registers ≡ R → map (got a cs k R sp from to index f) (run 0 n) ≡ words → Straight a cs (picked (place.Ranged sp from to index) components d).ops d f t (Picked components n (place.Ranged sp from to index) d words)
  ranged_picks components n sp from to index d words f t l lt le room count e =
      let g : ℕ → ℕ = got a cs k R sp from to index f in
      let x = each_puts a cs (get_op sp from to index) (got a cs k R sp from to index f) d R f.registers f.shared (λ c. c < n) (λ c d' z u ok ge lt' n' b s.
      subst (λ v. Puts a cs (get_op sp from to index c d') d' v z u) (ranged_same sp d (from + c) to index f z b s lt le) (get_puts a cs sp from to index c d' z u (omega (arith, n')))) components l d f t (omega arith) room count (below_same d f.registers) refl in
      let m : length (map (got a cs k R sp from to index f) components) ≡ length components = length-map components (got a cs k R sp from to index f) in
      let same : map (got a cs k R sp from to index f) components ≡ map (slice_index words) components = picks (got a cs k R sp from to index f) (slice_index words) n components (λ c lt. sym (ap (λ l. slice_index l c) (sym e) ∙ pick_run (got a cs k R sp from to index f) 0 n c lt ∙ (let z : 0 + c ≡ c = omega arith in ap (got a cs k R sp from to index f) z))) l in
      record {
        after = x.after;
        runs = x.runs;
        below = x.below;
        holds = (subst (λ m. map (slice_index x.after) (run d m) ≡ map (got a cs k R sp from to index f) components) m x.holds ∙ same, (run_below d (length components) (d + length components) (omega arith), run_length d (length components)));
      }

  fixed_picks : (components : List ℕ) (n at d : ℕ) (words : List ℕ) (f : Site) (t : ℕ) → Every (λ c. c < n) components → at + n ≤ d → words_from f.registers at n ≡ words → Straight a cs [] d f t (Picked components n (place.Fixed at) d words)
  fixed_picks components n at d words f t l le e = record {
    after = f.registers;
    runs = refl;
    below = below_same d f.registers;
    holds = (
      map_both (slice_index f.registers) (λ c. at + c) components ∙ picks (λ c. slice_index f.registers (at + c)) (slice_index words) n components (λ c lt. sym (ap (λ l. slice_index l c) (sym e) ∙ pick_from f.registers at n c lt)) l,
      (every_map (d + length components) (λ c. at + c) n components (λ c lt. omega (arith, lt)) l, length-map components (λ c. at + c)),
    );
  }

  pub picks_leave : (components : List ℕ) (t : TypeTree) (w : Where) (p : Spot) (d : ℕ) (s : State) (f : Site) (tu : ℕ) → Every (λ c. c < size k t) components → d + length components < R → Holds k R s f → LiesBelow d (size k t) w → Stands k (size k t) w p f.registers → Straight a cs (picked w components d).ops d f tu (Picked components (size k t) w d (fetched k.structs t p s))
  picks_leave components t (place.Fixed at) (spot.Value words) d s f tu l room h lie st = fixed_picks components (size k t) at d words f tu l lie st
  picks_leave components t (place.Fixed at) (spot.At x from) d s f tu l room h lie st = fixed_picks components (size k t) at d (fetched k.structs t (spot.At x from) s) f tu l lie (variable_read a cs k R (size k t) space.Own x from at s f h st ∙ sym (fetched_variable k t space.Own x from s st.is_variable))
  picks_leave components t (place.Fixed at) spot.Nowhere d s f tu l room h lie st = absurd st
  picks_leave components t (place.Held rs) (spot.Value words) d s f tu l room h lie st = record {
    after = f.registers;
    runs = refl;
    below = below_same d f.registers;
    holds = (
      map_both (slice_index f.registers) (slice_index rs) components ∙ picks (λ c. slice_index f.registers (slice_index rs c)) (slice_index words) (size k t) components (λ c lt. sym (ap (λ l. slice_index l c) (sym st.0) ∙ get_or-map (slice_index f.registers) rs c 0 0 (omega (arith, lt, st.1)))) l,
      (every_map (d + length components) (slice_index rs) (size k t) components (λ c lt. let z = every_at d rs c lie (omega (arith, lt, st.1)) in omega (arith, z)) l, length-map components (slice_index rs)),
    );
  }
  picks_leave components t (place.Held rs) (spot.At x from) d s f tu l room h lie st = absurd st
  picks_leave components t (place.Held rs) spot.Nowhere d s f tu l room h lie st = absurd st
  picks_leave components t (place.Ranged sp from to index) p d s f tu l room h lie st = ranged_picks components (size k t) sp from to index d (fetched k.structs t p s) f tu l lie.0 lie.1 room h.count (ranged_words a cs k R (size k t) sp from to index t p s f refl h st)
