-- The first broken rule, and lines that break none.
use Rattle.std.proofs.Common.{◌≡◌, ℕ, zero, suc, ◌<◌, Bool, true, false, List, [], ◌∷◌, ◌++◌, length, Option, Some, None, refl, sym, ap, subst, ◌∙◌, ⊎_elim, inl, inr, arith}
use Rattle.std.specs.Prelude.{◌⊎◌, slice_get, if◌then◌else◌}
use Rattle.std.proofs.lemmas.List.{length-append}
use Rattle.wg_machine.specs.declared.shape.Shape.{Shape}
use Rattle.wg_script.specs.declared.script.ScriptFault.{ScriptFault}
use Rattle.wg_script.specs.Rules.{ScriptRule, rules, LineBreaks, AreGood, IsFirstFault}
use Rattle.wg_script.specs.Words.{lines_of}
use Rattle.wg_script.proofs.PieceLemmas.{some_is}

-- the first rule of a list that is broken
abbrev pub first_of : List ScriptRule → Option ScriptFault
first_of [] = None
first_of (r ∷ rs) = if r.1 then Some r.0 else first_of rs

pub record IsFirst (rs : List ScriptRule) (fault : ScriptFault) : Type 0 where
  pub place : ℕ
  pub broken : slice_get rs place ≡ Some (fault, true)
  pub least : (k : ℕ) (other : ScriptFault) → k < place → slice_get rs k ≡ Some (other, true) → ⊥

pub none_first : (rs : List ScriptRule) → first_of rs ≡ None → (k : ℕ) (fault : ScriptFault) → slice_get rs k ≡ Some (fault, true) → ⊥
none_first [] e k fault h = absurd cc
none_first (r ∷ rs) e zero fault h = choice r.1 (ap (λ (p : ScriptRule). p.1) (some_is r (fault, true) h)) e
  where
    choice : (b : Bool) → b ≡ true → (if b then Some r.0 else first_of rs) ≡ None → ⊥
    choice true t n = absurd cc
    choice false t n = absurd cc
none_first (r ∷ rs) e (suc k) fault h = none_first rs (later r.1 e) k fault h
  where
    later : (b : Bool) → (if b then Some r.0 else first_of rs) ≡ None → first_of rs ≡ None
    later true n = absurd cc
    later false n = n

later_least : (r : ScriptRule) (rs : List ScriptRule) (place : ℕ) → r.1 ≡ false → ((k : ℕ) (other : ScriptFault) → k < place → slice_get rs k ≡ Some (other, true) → ⊥) → (k : ℕ) (other : ScriptFault) → k < suc place → slice_get (r ∷ rs) k ≡ Some (other, true) → ⊥
later_least r rs place t h zero other lt s = let y = ap (λ (p : ScriptRule). p.1) (some_is r (other, true) s) in absurd cc
later_least r rs place t h (suc k) other lt s = h k other (omega arith) s

pub some_first : (rs : List ScriptRule) (fault : ScriptFault) → first_of rs ≡ Some fault → IsFirst rs fault
some_first [] fault e = absurd cc
some_first (r ∷ rs) fault e = choice r.1 refl (λ h. some_first rs fault h) e
  where
    choice : (b : Bool) → r.1 ≡ b → (first_of rs ≡ Some fault → IsFirst rs fault) → (if b then Some r.0 else first_of rs) ≡ Some fault → IsFirst (r ∷ rs) fault
    choice true t ih h = record {
      place = 0;
      broken = ap (λ (b : Bool). Some (r.0, b)) t ∙ ap (λ (f : ScriptFault). Some (f, true)) (some_is r.0 fault h);
      least = λ k other lt s. absurd (omega arith);
    }
    choice false t ih h = let f = ih h in record { place = suc f.place; broken = f.broken; least = later_least r rs f.place t f.least }

-- ---- lines

cons_is : {A : Type 0} (p q : A) (ps qs : List A) → p ∷ ps ≡ q ∷ qs → (p ≡ q) × (ps ≡ qs)
cons_is p q ps qs h = (cc, cc)

-- an item of a list with one more at its end is that one, or an item before it
split : {A : Type 0} (xs : List A) (x : A) (b : List A) (l : A) (a : List A) → xs ++ x ∷ [] ≡ b ++ l ∷ a → ((b ≡ xs) × (l ≡ x)) ⊎ ((more : List A) × (xs ≡ b ++ l ∷ more))
split [] x [] l a e = inl (refl, sym (cons_is x l [] a e).0)
split {A = A} [] x (c ∷ b) l a e = let n = ap (λ (t : List A). length t) e in absurd (omega (arith, length-append b (l ∷ a)))
split {A = A} (y ∷ xs) x [] l a e = inr (xs, ap (λ (h : A). h ∷ xs) (cons_is y l (xs ++ x ∷ []) a e).0)
split {A = A} (y ∷ xs) x (c ∷ b) l a e =
    let is = cons_is y c (xs ++ x ∷ []) (b ++ l ∷ a) e in
    ⊎_elim
    (λ (p : (b ≡ xs) × (l ≡ x)). inl (ap (λ (t : List A). c ∷ t) p.0 ∙ ap (λ (h : A). h ∷ xs) (sym is.0), p.1))
    (λ (p : (more : List A) × (xs ≡ b ++ l ∷ more)). inr (p.0, ap (λ (t : List A). y ∷ t) p.1 ∙ ap (λ (h : A). h ∷ (b ++ l ∷ p.0)) is.0))
    (split xs x b l a is.1)

pub good_more : (shape : Shape) (before : List (List ℕ)) (line : List ℕ) → AreGood shape before → first_of (rules shape before line) ≡ None → AreGood shape (before ++ line ∷ [])
good_more shape before line good none = λ b l a k fault e broken. ⊎_elim
    (λ (p : (b ≡ before) × (l ≡ line)). none_first (rules shape before line) none k fault (subst (λ (m : List ℕ). LineBreaks shape before m k fault) p.1 (subst (λ (c : List (List ℕ)). LineBreaks shape c l k fault) p.0 broken)))
    (λ (p : (more : List (List ℕ)) × (before ≡ b ++ l ∷ more)). good b l p.0 k fault p.1 broken)
    (split before line b l a e)

pub good_none : (shape : Shape) → AreGood shape []
good_none shape = λ b l a k fault e broken. (let n = ap (λ (t : List (List ℕ)). length t) e in absurd (omega (arith, length-append b (l ∷ a))))

pub first_fault : (shape : Shape) (text : List ℕ) (before : List (List ℕ)) (line : List ℕ) (after : List (List ℕ)) (fault : ScriptFault) → lines_of text ≡ before ++ line ∷ after → AreGood shape before → first_of (rules shape before line) ≡ Some fault → IsFirstFault shape text fault
first_fault shape text before line after fault e good is =
    let first = some_first (rules shape before line) fault is in
    record { before = before; line = line; after = after; begins = e; good = good; place = first.place; broken = first.broken; least = first.least }
