-- Runs in rounds of one core are the same.
use Rattle.std.proofs.Common.{◌≡◌, ℕ, zero, suc, ◌<◌, ◌≤◌, List, [], ◌∷◌, ◌++◌, length, refl, ap, sym, ◌∙◌, subst, arith, inl, inr, Option, Some, None}
use Rattle.std.specs.Prelude.{◌⊎◌}
use Rattle.wg_machine.specs.LaunchMeaning.{Meaning, Outcome}
use Rattle.wg_machine.specs.Units.{depth_at}
use Rattle.wg_standing.specs.declared.pending.Pending.{Pending}
use Rattle.wg_standing.specs.Choice.{IsChoice, IsPick, from_entries, from_slots, pending_from, waiting_at}
use Rattle.wg_standing.specs.Core.{CoreView}
use Rattle.wg_standing.specs.Moves.{settled_of, with_out}
use Rattle.wg_standing.specs.Outs.{launch_now}
use Rattle.wg_rounds.specs.Rounds.{AllRounds, AllSettle, AreNext, IsRound, NoneIsNext, RunsOut, StopsAt, with_outs}
use Rattle.wg_rounds.proofs.Firsts.{head_or, rest_of, some_not_none}

order : (a b u v : ℕ) → (b < a) ⊎ ((b ≡ a) × (u ≤ v)) → (a < b) ⊎ ((a ≡ b) × (v ≤ u)) → u ≡ v
order a b u v (inl x) (inl y) = absurd (let h : ⊥ = omega (arith, x, y) in h)
order a b u v (inl x) (inr y) = let e = y.0 in absurd (let h : ⊥ = omega (arith, x, e) in h)
order a b u v (inr x) (inl y) = let e = x.0 in absurd (let h : ⊥ = omega (arith, e, y) in h)
order a b u v (inr x) (inr y) = let p = x.1 in let q = y.1 in omega (arith, p, q)

same_pick : (core : CoreView) (u v : ℕ) → IsPick core u → IsPick core v → u ≡ v
same_pick core u v p q = order (depth_at core.shape u) (depth_at core.shape v) u v (p.best v q.waits q.room) (q.best u p.waits p.room)

-- there is one choice
pub same_choice : (core : CoreView) (o p : Pending) → IsChoice core o → IsChoice core p → o ≡ p
same_choice core o p (from_slots u x) (from_slots v y) = ap (λ (w : ℕ). pending_from core.tickets core.shape w (waiting_at core w)) (same_pick core u v x y)
same_choice core o p (from_slots u x) (from_entries none can) = absurd (none u x.waits x.room)
same_choice core o p (from_entries none can) (from_slots v y) = absurd (none v y.waits y.room)
same_choice core o p (from_entries none can) (from_entries also will) = refl

-- there is one round
same_round : (n : ℕ) (core : CoreView) (os ps : List Pending) → AreNext core os → AreNext core ps → length os ≤ n → length ps ≤ n → (length os < n → NoneIsNext (with_outs core os)) → (length ps < n → NoneIsNext (with_outs core ps)) → os ≡ ps
same_round n core [] [] a b le lf w x = refl
same_round n core [] (p ∷ ps) a b le lf w x = absurd (w (omega (arith, lf)) p b.0)
same_round n core (o ∷ os) [] a b le lf w x = absurd (x (omega (arith, le)) o a.0)
same_round zero core (o ∷ os) (p ∷ ps) a b le lf w x = absurd (let h : ⊥ = omega (arith, le) in h)
same_round (suc n) core (o ∷ os) (p ∷ ps) a b le lf w x =
    let e : p ≡ o = same_choice core p o b.0.choice a.0.choice in
    let b' : AreNext (with_out core o) ps = subst (λ (q : Pending). AreNext (with_out core q) ps) e b.1 in
    let x' : length ps < n → NoneIsNext (with_outs (with_out core o) ps) = λ lt. subst (λ (q : Pending). NoneIsNext (with_outs (with_out core q) ps)) e (x (omega (arith, lt))) in
    let rest = same_round n (with_out core o) os ps a.1 b' (omega (arith, le)) (omega (arith, lf)) (λ lt. w (omega (arith, lt))) x' in
    ap (λ (q : Pending). q ∷ os) (sym e) ∙ ap (λ (l : List Pending). p ∷ l) rest

rounds_same : (workers : ℕ) (core : CoreView) (os ps : List Pending) → IsRound workers core os → IsRound workers core ps → os ≡ ps
rounds_same workers core os ps a b = same_round workers core os ps a.next b.next a.few b.few a.whole b.whole

abbrev outcome_or : Outcome → Option Outcome → Outcome
outcome_or d None = d
outcome_or d (Some o) = o

-- what settles comes to one end
same_settled : (made : Meaning) (core : CoreView) (os : List Pending) (a b : CoreView) → AllSettle made core os a → AllSettle made core os b → a ≡ b
same_settled made core [] a b x y = x ∙ sym y
same_settled made core (o ∷ os) a b x y =
    let l : y.0 ≡ x.0 = ap rest_of (sym y.2 ∙ x.2) in
    let e : y.1 ≡ x.1 = ap (outcome_or x.1) (sym y.3 ∙ x.3) in
    let y1 = subst (λ (k : List Pending). AllSettle made (settled_of core [] o k y.1) os b) l y.4 in
    let y2 = subst (λ (k : Outcome). AllSettle made (settled_of core [] o x.0 k) os b) e y1 in
    same_settled made (settled_of core [] o x.0 x.1) os a b x.4 y2

abbrev SpentAt : Meaning → CoreView → Pending → Type 0
SpentAt made core o = made (launch_now core.shape core.bag o) core.buffers core.limits.turns ≡ None

-- a launch that is spent does not settle
not_whole : (made : Meaning) (core : CoreView) (front : List Pending) (o : Pending) (later : List Pending) (a end : CoreView) → AllSettle made core front a → SpentAt made a o → AllSettle made core (front ++ o ∷ later) end → ⊥
not_whole made core [] o later a end x spent y =
    some_not_none _ y.1 y.3 (subst (λ (c : CoreView). SpentAt made c o) x spent)
not_whole made core (q ∷ front) o later a end x spent y =
    let l : y.0 ≡ x.0 = ap rest_of (sym y.2 ∙ x.2) in
    let e : y.1 ≡ x.1 = ap (outcome_or x.1) (sym y.3 ∙ x.3) in
    let y1 = subst (λ (k : List Pending). AllSettle made (settled_of core [] q k y.1) (front ++ o ∷ later) end) l y.4 in
    let y2 = subst (λ (k : Outcome). AllSettle made (settled_of core [] q x.0 k) (front ++ o ∷ later) end) e y1 in
    not_whole made (settled_of core [] q x.0 x.1) front o later a end x.4 spent y2

none_and_round : (workers : ℕ) (core : CoreView) (os : List Pending) → NoneIsNext core → IsRound workers core os → ⊥
none_and_round workers core [] none r = let s = r.some in absurd (let h : ⊥ = omega (arith, s) in h)
none_and_round workers core (o ∷ os) none r = none o r.next.0

-- after equal rounds
same_after : (made : Meaning) (workers : ℕ) (core : CoreView) (os ps : List Pending) (a b : CoreView) → IsRound workers core os → IsRound workers core ps → AllSettle made (with_outs core os) os a → AllSettle made (with_outs core ps) ps b → b ≡ a
same_after made workers core os ps a b r s x y =
    let e = rounds_same workers core ps os s r in
    sym (same_settled made (with_outs core os) os a b x (subst (λ (l : List Pending). AllSettle made (with_outs core l) l b) e y))

run_ends : (made : Meaning) (workers : ℕ) (rs ss : List (List Pending)) (core a b : CoreView) → AllRounds made workers core rs a → AllRounds made workers core ss b → NoneIsNext a → NoneIsNext b → a ≡ b
run_ends made workers [] [] core a b x y na nb = x ∙ sym y
run_ends made workers [] (ps ∷ ss) core a b x y na nb = absurd (none_and_round workers core ps (subst NoneIsNext x na) y.1)
run_ends made workers (os ∷ rs) [] core a b x y na nb = absurd (none_and_round workers core os (subst NoneIsNext y nb) x.1)
run_ends made workers (os ∷ rs) (ps ∷ ss) core a b x y na nb =
    let e = same_after made workers core os ps x.0 y.0 x.1 y.1 x.2 y.2 in
    run_ends made workers rs ss x.0 a b x.3 (subst (λ (c : CoreView). AllRounds made workers c ss b) e y.3) na nb

-- a round that stops was not run whole
stops_not : (made : Meaning) (workers : ℕ) (core : CoreView) (os front : List Pending) (o : Pending) (later : List Pending) (a b : CoreView) → IsRound workers core os → AllSettle made (with_outs core os) os a → IsRound workers core (front ++ o ∷ later) → AllSettle made (with_outs core (front ++ o ∷ later)) front b → SpentAt made b o → ⊥
stops_not made workers core os front o later a b r x s y spent =
    let e = rounds_same workers core os (front ++ o ∷ later) r s in
    not_whole made (with_outs core (front ++ o ∷ later)) front o later b a y spent (subst (λ (l : List Pending). AllSettle made (with_outs core l) l a) e x)

-- the place of the stop in a round
stop_place : (made : Meaning) (core : CoreView) (f g : List Pending) (o p : Pending) (k l : List Pending) (a b : CoreView) → f ++ o ∷ k ≡ g ++ p ∷ l → AllSettle made core f a → AllSettle made core g b → SpentAt made a o → SpentAt made b p → (a ≡ b) × (o ≡ p)
stop_place made core [] [] o p k l a b e x y s t = (x ∙ sym y, sym (ap (head_or o) (sym e)))
stop_place made core [] (q ∷ g) o p k l a b e x y s t =
    let same : o ≡ q = sym (ap (head_or o) (sym e)) in
    let spent = subst (λ (r : Pending). SpentAt made core r) same (subst (λ (c : CoreView). SpentAt made c o) x s) in
    absurd (some_not_none _ y.1 y.3 spent)
stop_place made core (q ∷ f) [] o p k l a b e x y s t =
    let same : p ≡ q = sym (ap (head_or p) e) in
    let spent = subst (λ (r : Pending). SpentAt made core r) same (subst (λ (c : CoreView). SpentAt made c p) y t) in
    absurd (some_not_none _ x.1 x.3 spent)
stop_place made core (q ∷ f) (r ∷ g) o p k l a b e x y s t =
    let same : r ≡ q = sym (ap (head_or r) e) in
    let y0 = subst (λ (z : Pending). AllSettle made core (z ∷ g) b) same y in
    let m : y0.0 ≡ x.0 = ap rest_of (sym y0.2 ∙ x.2) in
    let n : y0.1 ≡ x.1 = ap (outcome_or x.1) (sym y0.3 ∙ x.3) in
    let y1 = subst (λ (z : List Pending). AllSettle made (settled_of core [] q z y0.1) g b) m y0.4 in
    let y2 = subst (λ (z : Outcome). AllSettle made (settled_of core [] q x.0 z) g b) n y1 in
    stop_place made (settled_of core [] q x.0 x.1) f g o p k l a b (ap rest_of e) x.4 y2 s t

-- runs that stop
stop_ends : (made : Meaning) (workers : ℕ) (rs ss : List (List Pending)) (core c d : CoreView) (f g : List Pending) (o p : Pending) (k l : List Pending) (a b : CoreView) → AllRounds made workers core rs c → AllRounds made workers core ss d → IsRound workers c (f ++ o ∷ k) → IsRound workers d (g ++ p ∷ l) → AllSettle made (with_outs c (f ++ o ∷ k)) f a → AllSettle made (with_outs d (g ++ p ∷ l)) g b → SpentAt made a o → SpentAt made b p → (a ≡ b) × (o ≡ p)
stop_ends made workers [] [] core c d f g o p k l a b x y r s u v sa sb =
    let e : d ≡ c = y ∙ sym x in
    let s1 = subst (λ (z : CoreView). IsRound workers z (g ++ p ∷ l)) e s in
    let v1 = subst (λ (z : CoreView). AllSettle made (with_outs z (g ++ p ∷ l)) g b) e v in
    let same = rounds_same workers c (g ++ p ∷ l) (f ++ o ∷ k) s1 r in
    let v2 = subst (λ (z : List Pending). AllSettle made (with_outs c z) g b) same v1 in
    stop_place made (with_outs c (f ++ o ∷ k)) f g o p k l a b (sym same) u v2 sa sb
stop_ends made workers [] (ps ∷ ss) core c d f g o p k l a b x y r s u v sa sb =
    absurd (stops_not made workers core ps f o k y.0 a y.1 y.2 (subst (λ (z : CoreView). IsRound workers z (f ++ o ∷ k)) x r) (subst (λ (z : CoreView). AllSettle made (with_outs z (f ++ o ∷ k)) f a) x u) sa)
stop_ends made workers (os ∷ rs) [] core c d f g o p k l a b x y r s u v sa sb =
    absurd (stops_not made workers core os g p l x.0 b x.1 x.2 (subst (λ (z : CoreView). IsRound workers z (g ++ p ∷ l)) y s) (subst (λ (z : CoreView). AllSettle made (with_outs z (g ++ p ∷ l)) g b) y v) sb)
stop_ends made workers (os ∷ rs) (ps ∷ ss) core c d f g o p k l a b x y r s u v sa sb =
    let e = same_after made workers core os ps x.0 y.0 x.1 y.1 x.2 y.2 in
    stop_ends made workers rs ss x.0 c d f g o p k l a b x.3 (subst (λ (z : CoreView). AllRounds made workers z ss d) e y.3) r s u v sa sb

both_ends : (made : Meaning) (workers : ℕ) (rs ss : List (List Pending)) (core a d : CoreView) (g : List Pending) (p : Pending) (l : List Pending) (b : CoreView) → AllRounds made workers core rs a → AllRounds made workers core ss d → NoneIsNext a → IsRound workers d (g ++ p ∷ l) → AllSettle made (with_outs d (g ++ p ∷ l)) g b → SpentAt made b p → ⊥
both_ends made workers [] [] core a d g p l b x y none s v sb = none_and_round workers core (g ++ p ∷ l) (subst NoneIsNext x none) (subst (λ (z : CoreView). IsRound workers z (g ++ p ∷ l)) y s)
both_ends made workers [] (ps ∷ ss) core a d g p l b x y none s v sb = none_and_round workers core ps (subst NoneIsNext x none) y.1
both_ends made workers (os ∷ rs) [] core a d g p l b x y none s v sb =
    stops_not made workers core os g p l x.0 b x.1 x.2 (subst (λ (z : CoreView). IsRound workers z (g ++ p ∷ l)) y s) (subst (λ (z : CoreView). AllSettle made (with_outs z (g ++ p ∷ l)) g b) y v) sb
both_ends made workers (os ∷ rs) (ps ∷ ss) core a d g p l b x y none s v sb =
    let e = same_after made workers core os ps x.0 y.0 x.1 y.1 x.2 y.2 in
    both_ends made workers rs ss x.0 a d g p l b x.3 (subst (λ (z : CoreView). AllRounds made workers z ss d) e y.3) none s v sb

pub one_end : (made : Meaning) (workers : ℕ) (old new other : CoreView) → RunsOut made workers old new → RunsOut made workers old other → new ≡ other
one_end made workers old new other x y = run_ends made workers x.rounds y.rounds old new other x.runs y.runs x.none y.none

pub one_stop : (made : Meaning) (workers : ℕ) (old new other : CoreView) (o p : Pending) → StopsAt made workers old new o → StopsAt made workers old other p → (new ≡ other) × (o ≡ p)
one_stop made workers old new other o p x y =
    stop_ends made workers x.rounds y.rounds old x.before y.before x.front y.front o p x.later y.later new other x.runs y.runs x.round y.round x.settles y.settles x.spent y.spent

pub not_both : (made : Meaning) (workers : ℕ) (old new other : CoreView) (o : Pending) → RunsOut made workers old new → StopsAt made workers old other o → ⊥
not_both made workers old new other o x y =
    both_ends made workers x.rounds y.rounds old new y.before y.front o y.later other x.runs y.runs x.none y.round y.settles y.spent
