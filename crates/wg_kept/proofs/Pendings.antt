-- Launches out, found by their tickets.
use Rattle.std.proofs.Common.{◌≡◌, ℕ, suc, ◌<◌, ◌≤◌, Bool, true, false, List, [], ◌∷◌, ◌++◌, length, refl, ap, sym, ◌∙◌, subst, arith, Option, Some, None}
use Rattle.std.specs.Prelude.{◌==◌, ◌||◌, All, IfSome}
use Rattle.std.proofs.lemmas.Bool.Decides.{nat_tests}
use Rattle.std.proofs.lemmas.List.Elements.{All-cons, All-head, All-nil, All-tail}
use Rattle.wg_words.specs.Each.{Each}
use Rattle.wg_standing.specs.declared.pending.Pending.{Pending}
use Rattle.wg_standing.specs.Core.{CoreView}
use Rattle.wg_standing.specs.Idle.{IsOut, SomeIsOut}
use Rattle.wg_standing.specs.Standing.{IsNotOut, TicketsBelow, TicketsDiffer}
use Rattle.wg_tickets.specs.Held.{AllBelow, IsHeldAt, IsLeast, has_ticket}
use Rattle.wg_engine.specs.Calls.{IsFirstOut}
use Rattle.wg_kept.specs.Inside.{AreNamed, pendings}

pub pendings_split : (before : List (ℕ × Pending)) (t : ℕ) (o : Pending) (later : List (ℕ × Pending)) → pendings (before ++ (t, o) ∷ later) ≡ pendings before ++ o ∷ pendings later
pendings_split [] t o later = refl
pendings_split (e ∷ before) t o later = ap (λ (os : List Pending). e.1 ∷ os) (pendings_split before t o later)

pub pendings_join : (before later : List (ℕ × Pending)) → pendings (before ++ later) ≡ pendings before ++ pendings later
pendings_join [] later = refl
pendings_join (e ∷ before) later = ap (λ (os : List Pending). e.1 ∷ os) (pendings_join before later)

pub long_pendings : (outs : List (ℕ × Pending)) → length (pendings outs) ≡ length outs
long_pendings [] = refl
long_pendings (e ∷ outs) = ap suc (long_pendings outs)

pub none_pending : (outs : List (ℕ × Pending)) → outs ≡ [] → pendings outs ≡ []
none_pending outs e = ap pendings e

-- the launch of a ticket has it as its own
pub named_at : (before : List (ℕ × Pending)) (t : ℕ) (o : Pending) (later : List (ℕ × Pending)) → AreNamed (before ++ (t, o) ∷ later) → o.ticket ≡ t
named_at [] t o later named = named.0
named_at (e ∷ before) t o later named = named_at before t o later named.1

pub named_without : (before : List (ℕ × Pending)) (t : ℕ) (o : Pending) (later : List (ℕ × Pending)) → AreNamed (before ++ (t, o) ∷ later) → AreNamed (before ++ later)
named_without [] t o later named = named.1
named_without (e ∷ before) t o later named = (named.0, named_without before t o later named.1)

pub named_more : (outs : List (ℕ × Pending)) (t : ℕ) (o : Pending) → AreNamed outs → o.ticket ≡ t → AreNamed (outs ++ (t, o) ∷ [])
named_more [] t o named is = (is, tt)
named_more (e ∷ outs) t o named is = (named.0, named_more outs t o named.1 is)

-- the launch that is held with a ticket is out with it
pub held_out : (core : CoreView) (outs : List (ℕ × Pending)) (t : ℕ) (o : Pending) → core.outs ≡ pendings outs → AreNamed outs → (h : IsHeldAt outs t o) → IsOut core t (pendings h.before) o (pendings h.later)
held_out core outs t o same named h =
    record {
      place = same ∙ ap pendings h.place ∙ pendings_split h.before t o h.later;
      named = named_at h.before t o h.later (subst AreNamed h.place named);
    }

not_again : (ticket : ℕ) (before : List Pending) (o : Pending) (later : List Pending) → o.ticket ≡ ticket → IsNotOut ticket (before ++ o ∷ later) → ⊥
not_again ticket [] o later is none = none.0 is
not_again ticket (p ∷ before) o later is none = not_again ticket before o later is none.1

not_before : (before : List Pending) (o : Pending) (later : List Pending) (p : Pending) → IsNotOut p.ticket (before ++ o ∷ later) → o.ticket ≡ p.ticket → ⊥
not_before before o later p none is = not_again p.ticket before o later is none

-- one launch is out with a ticket
pub one_at : (before : List Pending) (o : Pending) (later : List Pending) (before_2 : List Pending) (p : Pending) (later_2 : List Pending) → TicketsDiffer (before ++ o ∷ later) → before ++ o ∷ later ≡ before_2 ++ p ∷ later_2 → o.ticket ≡ p.ticket → o ≡ p
one_at [] o later [] p later_2 differ e t = head e
  where
    head : o ∷ later ≡ p ∷ later_2 → o ≡ p
    head f = cc
one_at [] o later (b ∷ before_2) p later_2 differ e t =
    absurd (not_before before_2 p later_2 o (subst (IsNotOut o.ticket) (tail e) differ.0) (sym t))
  where
    tail : o ∷ later ≡ b ∷ (before_2 ++ p ∷ later_2) → later ≡ before_2 ++ p ∷ later_2
    tail f = cc
one_at (b ∷ before) o later [] p later_2 differ e t = absurd (not_before before o later p (subst (λ (x : Pending). IsNotOut x.ticket (before ++ o ∷ later)) (head e) differ.0) t)
  where
    head : b ∷ (before ++ o ∷ later) ≡ p ∷ later_2 → b ≡ p
    head f = cc
one_at (b ∷ before) o later (c ∷ before_2) p later_2 differ e t = one_at before o later before_2 p later_2 differ.1 (tail e) t
  where
    tail : b ∷ (before ++ o ∷ later) ≡ c ∷ (before_2 ++ p ∷ later_2) → before ++ o ∷ later ≡ before_2 ++ p ∷ later_2
    tail f = cc

pub one_out : (core : CoreView) (ticket : ℕ) (before : List Pending) (o : Pending) (later : List Pending) (before_2 : List Pending) (p : Pending) (later_2 : List Pending) → TicketsDiffer core.outs → IsOut core ticket before o later → IsOut core ticket before_2 p later_2 → o ≡ p
one_out core ticket before o later before_2 p later_2 differ a b =
    one_at before o later before_2 p later_2 (subst TicketsDiffer a.place differ) (sym a.place ∙ b.place) (a.named ∙ sym b.named)

-- no launch with a ticket is held: none is out
pub none_held : (t : ℕ) (outs : List (ℕ × Pending)) → AreNamed outs → has_ticket t outs ≡ false → IsNotOut t (pendings outs)
none_held t [] named e = tt
none_held t (x ∷ outs) named e = (λ is. differ (x.0 == t) e (let n = named.0 in grind (arith, nat_tests)), none_held t outs named.1 (rest (x.0 == t) e))
  where
    differ : (b : Bool) → (b || has_ticket t outs) ≡ false → b ≡ true → ⊥
    differ true f g = absurd (cc)
    differ false f g = absurd (cc)

    rest : (b : Bool) → (b || has_ticket t outs) ≡ false → has_ticket t outs ≡ false
    rest true f = absurd (cc)
    rest false f = f

-- a launch that is out with a ticket is held with it
pub out_held : (core : CoreView) (outs : List (ℕ × Pending)) (t : ℕ) → core.outs ≡ pendings outs → AreNamed outs → SomeIsOut core t → has_ticket t outs ≡ true
out_held core outs t same named out = go (has_ticket t outs) refl
  where
    go : (b : Bool) → has_ticket t outs ≡ b → has_ticket t outs ≡ true
    go true e = e
    go false e = absurd (not_again t out.0 out.1 out.2 out.3.named (subst (IsNotOut t) (sym same ∙ out.3.place) (none_held t outs named e)))

-- and the other way round
pub held_some : (core : CoreView) (outs : List (ℕ × Pending)) (t : ℕ) → core.outs ≡ pendings outs → AreNamed outs → has_ticket t outs ≡ true → SomeIsOut core t
held_some core outs t same named has = (let s = split outs has in let h : IsHeldAt outs t s.0.1 = s.1 in (pendings h.before, s.0.1, pendings h.later, held_out core outs t s.0.1 same named h))
  where
    split : (es : List (ℕ × Pending)) → has_ticket t es ≡ true → (e : ℕ × Pending) × IsHeldAt es t e.1
    split [] f = absurd (cc)
    split (e ∷ es) f = go (e.0 == t) refl f (split es)
      where
        go : (b : Bool) → (e.0 == t) ≡ b → (b || has_ticket t es) ≡ true → (has_ticket t es ≡ true → (x : ℕ × Pending) × IsHeldAt es t x.1) → (x : ℕ × Pending) × IsHeldAt (e ∷ es) t x.1
        go true q g rest =
            let is : e.0 ≡ t = grind (arith, nat_tests) in
            (e, record { before = []; later = es; place = ap (λ (k : ℕ). (k, e.1) ∷ es) is })
        go false q g rest =
            let r = rest g in
            let h : IsHeldAt es t r.0.1 = r.1 in
            (r.0, record { before = e ∷ h.before; later = h.later; place = ap (λ (l : List (ℕ × Pending)). e ∷ l) h.place })

-- the least ticket is that of the first launch out
pub first_least : (outs : List (ℕ × Pending)) (t : ℕ) → AreNamed outs → IsLeast outs t → IsFirstOut (pendings outs) t
first_least outs t named least =
    record {
      least = each outs named least.least;
      some = λ none. first_is outs named least none;
    }
  where
    each : (es : List (ℕ × Pending)) → AreNamed es → All (λ (e : ℕ × Pending). t ≤ e.0) es → Each (λ (o : Pending). t ≤ o.ticket) (pendings es)
    each [] n all = tt
    each (e ∷ es) n all = (let a = All-head (λ (x : ℕ × Pending). t ≤ x.0) e es all in let is = n.0 in omega (arith, a, is), each es n.1 (All-tail (λ (x : ℕ × Pending). t ≤ x.0) e es all))

    first_is : (es : List (ℕ × Pending)) → AreNamed es → IsLeast es t → IsNotOut t (pendings es) → ⊥
    first_is es n l none =
        let named_first : AreNamed ((t, l.value) ∷ l.rest) = subst AreNamed l.first n in
        let none_first : IsNotOut t (pendings ((t, l.value) ∷ l.rest)) = subst (λ (xs : List (ℕ × Pending)). IsNotOut t (pendings xs)) l.first none in
        none_first.0 named_first.0

pub first_some : (outs : List (ℕ × Pending)) (t : Option ℕ) → AreNamed outs → IfSome t (IsLeast outs) → IfSome t (IsFirstOut (pendings outs))
first_some outs None named least = tt
first_some outs (Some t) named least = first_least outs t named least

-- the next ticket is above those of all launches out
pub below_all : (next : ℕ) (outs : List (ℕ × Pending)) → AreNamed outs → TicketsBelow next (pendings outs) → AllBelow next outs
below_all next [] named below = All-nil (λ (e : ℕ × Pending). e.0 < next)
below_all next (e ∷ outs) named below = All-cons (λ (x : ℕ × Pending). x.0 < next) e outs (let b = below.0 in let n = named.0 in omega (arith, b, n)) (below_all next outs named.1 below.1)
