-- What is sent within the budgets of a unit is within the needs.
use Rattle.std.proofs.Common.{◌≡◌, ℕ, suc, ◌+◌, ◌-◌, ◌≤◌, Bool, true, false, List, [], ◌∷◌, refl, ap, ◌∙◌, subst, arith, Some}
use Rattle.std.specs.Prelude.{◌==◌, ◌&&◌, nat_le, count_by, slice_index}
use Rattle.std.specs.List.{list_any}
use Rattle.std.proofs.lemmas.Bool.Decides.{nat_tests, Decides-eqb}
use Rattle.wg_machine.specs.declared.shape.Output.{Output}
use Rattle.wg_machine.specs.declared.shape.Unit.{Unit}
use Rattle.wg_machine.specs.declared.launch.Sent.{Sent}
use Rattle.wg_machine.specs.LaunchMeaning.{GoesThrough, AllGoThrough, KeepsBudgets}
use Rattle.wg_machine.specs.Need.{is_target, reaches, need_from, need_of}
use Rattle.wg_machine.proofs.Counts.{pay, count_cons, any_contained}

self_eq : (n : ℕ) → (n == n) ≡ true
self_eq n = grind (arith, nat_tests)

both : (a b : Bool) → a ≡ true → b ≡ true → (a && b) ≡ true
both a b p q = rw (p, q) refl

-- a budget through which a record goes reaches the record's unit
goes_reaches : (u : Unit) (b : ℕ) (s : Sent) → GoesThrough u b s → reaches u.outputs b s.unit ≡ true
goes_reaches u b s g =
    any_contained (λ (o : Output). (o.budget == b) && list_any (is_target s.unit) o.elements) u.outputs g.output g.has_output
    (both (g.output.budget == b) (list_any (is_target s.unit) g.output.elements)
    (rw g.on_budget (self_eq b))
    (any_contained (is_target s.unit) g.output.elements (Some s.unit) g.targets (self_eq s.unit)))

one_more : (a b : Bool) (m n : ℕ) → (a ≡ true → b ≡ true) → m ≤ n → pay a 1 + m ≤ pay b 1 + n
one_more true true m n h l = omega arith
one_more true false m n h l = absurd (let e = h refl in cc)
one_more false true m n h l = omega arith
one_more false false m n h l = omega arith

-- what is sent to v goes through budgets that reach it
sent_through : (u : Unit) (v : ℕ) (through : List ℕ) (sent : List Sent) → AllGoThrough u through sent → count_by (λ (s : Sent). s.unit == v) sent ≤ count_by (λ b. reaches u.outputs b v) through
sent_through u v [] [] all = omega arith
sent_through u v [] (s ∷ sent) all = absurd all
sent_through u v (b ∷ through) [] all = absurd all
sent_through u v (b ∷ through) (s ∷ sent) all =
    let a = count_cons (λ (s : Sent). s.unit == v) s sent in
    let c = count_cons (λ b. reaches u.outputs b v) b through in
    let ih = sent_through u v through sent all.1 in
    let here : s.unit == v ≡ true → reaches u.outputs b v ≡ true = λ e. subst (λ n. reaches u.outputs b n ≡ true) ((Decides-eqb s.unit v).0 e) (goes_reaches u b s all.0) in
    let m = one_more (s.unit == v) (reaches u.outputs b v) _ _ here ih in
    omega (arith, a, c, m)

-- those from k on that pass
abbrev from : (ℕ → Bool) → ℕ → List ℕ → ℕ
from p k through = count_by (λ b. nat_le k b && p b) through

abbrev equal_to : ℕ → List ℕ → ℕ
equal_to k through = count_by (λ b. b == k) through

none_from : (p : ℕ → Bool) (k : ℕ) (through : List ℕ) → ((i : ℕ) → equal_to (k + i) through ≤ 0) → from p k through ≡ 0
none_from p k [] h = refl
none_from p k (b ∷ through) h =
    let c = count_cons (λ b. nat_le k b && p b) b through in
    let ih = none_from p k through (λ i. (let d = count_cons (λ b. b == k + i) b through in let g = h i in omega (arith, d, g))) in
    choice (nat_le k b) refl (omega (arith, c, ih))
  where
    choice : (t : Bool) → nat_le k b ≡ t → from p k (b ∷ through) ≡ pay (nat_le k b && p b) 1 → from p k (b ∷ through) ≡ 0
    choice true e c =
        let d = count_cons (λ c. c == k + (b - k)) b through in
        let g = h (b - k) in
        let q : (b == k + (b - k)) ≡ true = grind (arith, nat_tests) in
        let one = ap (λ t. pay t 1) q in
        absurd (omega (arith, d, one, g))
    choice false e c = c ∙ ap (λ t. pay (t && p b) 1) e

-- those from k on are those at k and those past it
split_one : (p : ℕ → Bool) (k b : ℕ) → pay (nat_le k b && p b) 1 ≤ pay (p k) (pay (b == k) 1) + pay (nat_le (k + 1) b && p b) 1
split_one p k b =
    cases (nat_le k b) (b == k) (nat_le (k + 1) b) (p k) (p b) (λ e f. grind (arith, nat_tests)) (λ e. ap p ((Decides-eqb b k).0 e))
  where
    cases : (le eq lt pk pb : Bool) → (le ≡ true → eq ≡ false → lt ≡ true) → (eq ≡ true → pb ≡ pk) → pay (le && pb) 1 ≤ pay pk (pay eq 1) + pay (lt && pb) 1
    cases false eq lt pk pb h g = omega arith
    cases true eq lt pk false h g = omega arith
    cases true true lt true true h g = omega arith
    cases true true lt false true h g = absurd (let e = g refl in cc)
    cases true false true pk true h g = omega arith
    cases true false false pk true h g = absurd (let e = h refl refl in cc)

split_from : (p : ℕ → Bool) (k : ℕ) (through : List ℕ) → from p k through ≤ pay (p k) (equal_to k through) + from p (k + 1) through
split_from p k [] = omega arith
split_from p k (b ∷ through) =
    let a = count_cons (λ b. nat_le k b && p b) b through in
    let c = count_cons (λ b. b == k) b through in
    let d = count_cons (λ b. nat_le (k + 1) b && p b) b through in
    let ih = split_from p k through in
    let s = split_one p k b in
    let m = choice (p k) _ _ _ c in
    omega (arith, a, d, ih, s, m)
  where
    choice : (t : Bool) (x y z : ℕ) → x ≡ y + z → pay t x ≡ pay t y + pay t z
    choice true x y z e = e
    choice false x y z e = omega arith

within : (outputs : List Output) (v k : ℕ) (budgets through : List ℕ) → ((i : ℕ) → equal_to (k + i) through ≤ slice_index budgets i) → from (λ b. reaches outputs b v) k through ≤ need_from outputs k budgets v
within outputs v k [] through h = let e = none_from (λ b. reaches outputs b v) k through h in omega (arith, e)
within outputs v k (most ∷ budgets) through h =
    let s = split_from (λ b. reaches outputs b v) k through in
    let first : equal_to k through ≤ most = let z : k + 0 ≡ k = omega arith in subst (λ n. equal_to n through ≤ most) z (h 0) in
    let ih = within outputs v (k + 1) budgets through (λ i. (let z : k + suc i ≡ k + 1 + i = omega arith in subst (λ n. equal_to n through ≤ slice_index budgets i) z (h (suc i)))) in
    let m = choice (reaches outputs k v) _ _ first in
    omega (arith, s, ih, m)
  where
    choice : (t : Bool) (x y : ℕ) → x ≤ y → pay t x ≤ pay t y
    choice true x y l = l
    choice false x y l = omega arith

all_from : (p : ℕ → Bool) (through : List ℕ) → count_by p through ≡ from p 0 through
all_from p [] = refl
all_from p (b ∷ through) =
    let a = count_cons p b through in
    let c = count_cons (λ b. nat_le 0 b && p b) b through in
    let e : (nat_le 0 b && p b) ≡ p b = grind (arith, nat_tests) in
    let d = ap (λ t. pay t 1) e in
    omega (arith, a, c, d, all_from p through)

pub kept_needs : (u : Unit) (sent : List Sent) (v : ℕ) → KeepsBudgets u sent → count_by (λ (s : Sent). s.unit == v) sent ≤ need_of u v
kept_needs u sent v k =
    let s = sent_through u v k.through sent k.each_goes in
    let a = all_from (λ b. reaches u.outputs b v) k.through in
    let w = within u.outputs v 0 u.budgets k.through (λ i. (let z : 0 + i ≡ i = omega arith in subst (λ n. equal_to n k.through ≤ slice_index u.budgets i) (let y : i ≡ 0 + i = omega arith in y) (k.few i))) in
    omega (arith, s, a, w)
