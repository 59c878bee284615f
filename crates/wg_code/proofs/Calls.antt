-- Calls of valid functions run alike with and without the tests.
use Rattle.std.proofs.Common.{◌≡◌, ℕ, zero, suc, ◌-◌, ◌<◌, ◌≤◌, Bool, true, false, List, [], ◌∷◌, ◌++◌, length, replicate, Option, Some, None, refl, ap, ◌∙◌, subst, arith}
use Rattle.std.specs.Prelude.{◌&&◌, not, nat_le, if◌then◌else◌, slice_get, unwrap_or}
use Rattle.std.specs.List.{list_all}
use Rattle.std.proofs.lemmas.Bool.{ltb-true}
use Rattle.std.proofs.lemmas.List.{length-take, length-append, length-replicate}
use Rattle.wg_state.specs.Turns.{Ending, Spent, Done}
use Rattle.wg_code.specs.declared.code.Function.{Function}
use Rattle.wg_code.specs.declared.code.RawCode.{RawCode}
use Rattle.wg_code.specs.Lane.{Around, Site, Exit, Through, Out, Again, Wrong}
use Rattle.wg_code.specs.Functions.{results_from, first_registers, has_room, missing, body_runs, callee_at, callees}
use Rattle.wg_code.specs.Named.{takes}
use Rattle.wg_code.specs.OpMeaning.{tables_of, ops_do}
use Rattle.wg_code.specs.Valid.{are_valid, is_below, is_valid_function, function_scope}
use Rattle.wg_code.proofs.Alike.{left, right, Fits, CalleeFits, CalleeAlike, CalleesAlike, ops_alike}

pub all_at : {X : Type 0} (p : X → Bool) (xs : List X) (i : ℕ) (x : X) → slice_get xs i ≡ Some x → list_all p xs ≡ true → p x ≡ true
all_at p [] i x e all = absurd (cc)
all_at p (y ∷ ys) zero x e all = subst (λ z. p z ≡ true) (ap (λ o. unwrap_or o y) e) (left (p y) (list_all p ys) all)
all_at p (y ∷ ys) (suc i) x e all = all_at p ys i x e (right (p y) (list_all p ys) all)

length-first : (registers : ℕ) (args : List ℕ) → length (first_registers registers args) ≡ registers
length-first registers args =
    let e = length-take registers (args ++ replicate registers 0) in
    let n = length-append args (replicate registers 0) in
    let z = length-replicate {A = ℕ} registers 0 in
    omega (arith, e, n, z)

results_alike : (r sh first : ℕ) (o : Ending Site Exit) → Fits false r sh o → (results_from true first o ≡ results_from false first o) × CalleeFits sh (results_from false first o)
results_alike r sh first Spent g = (refl, tt)
results_alike r sh first (Done Through f t) g = (refl, g.2)
results_alike r sh first (Done Out f t) g = absurd (let e = g.0 in cc)
results_alike r sh first (Done Again f t) g = absurd (let e = g.0 in cc)
results_alike r sh first (Done Wrong f t) g = absurd g.0

none_below : (D : ℕ) (c : Option Function) → D ≤ 0 → is_below D c ≡ true → ⊥
none_below D None le e = cc
none_below D (Some f) le e = let lt : f.depth < D = ltb-true f.depth D e in omega (arith, lt, le)

module _ (code : RawCode) (A : Around) (same : (c : Function) → (function_scope code c).tables ≡ tables_of A c.registers code.shared) (known : list_all (is_valid_function code) A.functions ≡ true) where
  function_alike : (n D : ℕ) → D ≤ suc n → ((E : ℕ) → E ≤ n → CalleesAlike A E code.shared (callees true A n) (callees false A n))
      → (function : ℕ) (c : Option Function) → slice_get A.functions function ≡ c → (values : List ℕ) (results : ℕ) → takes (length values) results c ≡ true → is_below D c ≡ true
      → CalleeAlike code.shared (callee_at true A (callees true A n) c values) (callee_at false A (callees false A n) c values)
  function_alike n D le calls function None e values results counts deep = absurd (cc)
  function_alike n D le calls function (Some c) e values results counts deep = λ w t e2.
      let valid = all_at (is_valid_function code) A.functions function c e known in
      let room : has_room c ≡ true = left (has_room c) (nat_le c.depth 32 && are_valid (function_scope code c) false c.body) valid in
      let body : are_valid (function_scope code c) false c.body ≡ true = right (nat_le c.depth 32) _ (right (has_room c) (nat_le c.depth 32 && are_valid (function_scope code c) false c.body) valid) in
      let lt : c.depth < D = ltb-true c.depth D deep in
      let site : Site = record { registers = first_registers c.registers values; shared = w.0; world = w.1 } in
      let goes = ops_alike (function_scope code c) A c.registers code.shared (same c) (callees true A n) (callees false A n) (calls c.depth (omega (arith, lt, le))) false c.body body site t (length-first c.registers values) e2 in
      let ends = results_alike c.registers code.shared (c.registers - c.results) (ops_do false A (callees false A n) c.body site t) goes.1 in
      (ap (λ (b : Bool). (if true && not b then missing true else body_runs true A (callees true A n) c) values w t) room ∙ (ap (results_from true (c.registers - c.results)) goes.0 ∙ ends.0), ends.1)

  pub callees_alike : (n D : ℕ) → D ≤ n → CalleesAlike A D code.shared (callees true A n) (callees false A n)
  callees_alike zero D le function values results counts deep = absurd (none_below D (slice_get A.functions function) le deep)
  callees_alike (suc n) D le function values results counts deep =
      function_alike n D le (λ E l. callees_alike n E l) function (slice_get A.functions function) refl values results counts deep
