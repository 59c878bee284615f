-- Last places of names, and the map of them.
use Rattle.std.proofs.Common.{◌≡◌, ℕ, zero, suc, ◌+◌, ◌<◌, length-append, Bool, true, false, cond, List, [], ◌∷◌, ◌++◌, length, take, Option, Some, None, refl, sym, ap, subst, ◌∙◌, ⊎_elim, append_assoc, append-nil, arith}
use Rattle.std.proofs.lemmas.List.{take-append-le}
use Rattle.std.specs.Prelude.{◌⊎◌, option_map, slice_get, if◌then◌else◌}
use Rattle.std.specs.Option.{option_or}
use Rattle.std.specs.Str.{bytes_eq}
use Rattle.std.proofs.lemmas.Bool.{cases_Bool, cond-true, cond-false}
use Rattle.std.proofs.lemmas.Slice.Eq.{bytes_eq-Decides}
use Rattle.wg_typing.specs.declared.scope.Declared.{Declared}
use Rattle.wg_words.specs.Maybe.{◌>>=◌}
use Rattle.wg_typing.specs.Maybe.{where_true}
use Rattle.wg_text.specs.Names.{found_in}
use Rattle.wg_typing.specs.Scope.{look}
use Rattle.wg_scope.specs.Latest.{last_at, declared_in, Chained, known_at, Agrees}
use Rattle.wg_scope.specs.declared.scope.Entry.{Entry}

-- ---- lists

one_there : (b : Bool) → option_or (option_map suc None) (where_true b 0) ≡ cond b (Some 0) None
one_there true = refl
one_there false = refl

past_one : (b : Bool) (n : ℕ) (l w : Option ℕ) → option_or (option_map suc (cond b (Some n) l)) w ≡ cond b (Some (suc n)) (option_or (option_map suc l) w)
past_one true n l w = refl
past_one false n l w = refl

pub last_at-push : (name : List ℕ) (xs : List Declared) (d : Declared) → last_at name (xs ++ d ∷ []) ≡ cond (bytes_eq d.name.name name) (Some (length xs)) (last_at name xs)
last_at-push name [] d = one_there (bytes_eq d.name.name name)
last_at-push name (x ∷ xs) d =
    ap (λ o. option_or (option_map suc o) (where_true (bytes_eq x.name.name name) 0)) (last_at-push name xs d)
    ∙ past_one (bytes_eq d.name.name name) (length xs) (last_at name xs) (where_true (bytes_eq x.name.name name) 0)

pub declared_in-push : (es : List Entry) (e : Entry) → declared_in (es ++ e ∷ []) ≡ declared_in es ++ e.declared ∷ []
declared_in-push [] e = refl
declared_in-push (x ∷ es) e = ap (λ l. x.declared ∷ l) (declared_in-push es e)

pub declared_in-length : (es : List Entry) → length (declared_in es) ≡ length es
declared_in-length [] = refl
declared_in-length (x ∷ es) = ap suc (declared_in-length es)

pub declared_in-get : (es : List Entry) (i : ℕ) → slice_get (declared_in es) i ≡ option_map (λ (e : Entry). e.declared) (slice_get es i)
declared_in-get [] i = refl
declared_in-get (e ∷ es) zero = refl
declared_in-get (e ∷ es) (suc i) = declared_in-get es i

pub chained-push : (before : List Declared) (es : List Entry) (e : Entry) → Chained before es → e.earlier ≡ last_at e.declared.name.name (before ++ declared_in es) → Chained before (es ++ e ∷ [])
chained-push before [] e h q = (q ∙ ap (last_at e.declared.name.name) (append-nil before), tt)
chained-push before (x ∷ es) e h q =
    (h.0, chained-push (before ++ x.declared ∷ []) es e h.1 (q ∙ ap (last_at e.declared.name.name) (sym (append_assoc before (x.declared ∷ []) (declared_in es)))))

pub chained-pop : (before : List Declared) (es : List Entry) (e : Entry) → Chained before (es ++ e ∷ []) → Chained before es × (e.earlier ≡ last_at e.declared.name.name (before ++ declared_in es))
chained-pop before [] e h = (tt, h.0 ∙ ap (last_at e.declared.name.name) (sym (append-nil before)))
chained-pop before (x ∷ es) e h =
    let r = chained-pop (before ++ x.declared ∷ []) es e h.1 in
    ((h.0, r.0), r.1 ∙ ap (last_at e.declared.name.name) (append_assoc before (x.declared ∷ []) (declared_in es)))

-- ---- the map of last places

known_if : (b : Bool) (n : Option ℕ) (f : Option (Option ℕ)) → (cond b (Some n) f >>= (λ at. at)) ≡ cond b n (f >>= (λ at. at))
known_if true n f = refl
known_if false n f = refl

pub agrees-push : (es : List Entry) (e : Entry) (old new : List (List ℕ × Option ℕ)) → Agrees es old → e.earlier ≡ known_at old e.declared.name.name
    → ((other : List ℕ) → found_in new other ≡ (if bytes_eq e.declared.name.name other then Some (Some (length es)) else found_in old other)) → Agrees (es ++ e ∷ []) new
agrees-push es e old new a q h = record { found = found; chained = chained-push [] es e a.chained (q ∙ a.found e.declared.name.name) }
  where
    found : (name : List ℕ) → known_at new name ≡ last_at name (declared_in (es ++ e ∷ []))
    found name =
        ap (λ o. o >>= (λ at. at)) (h name)
        ∙ (known_if (bytes_eq e.declared.name.name name) (Some (length es)) (found_in old name)
        ∙ (ap (λ o. cond (bytes_eq e.declared.name.name name) (Some (length es)) o) (a.found name)
        ∙ (ap (λ n. cond (bytes_eq e.declared.name.name name) (Some n) (last_at name (declared_in es))) (sym (declared_in-length es))
        ∙ (sym (last_at-push name (declared_in es) e.declared) ∙ ap (last_at name) (sym (declared_in-push es e))))))

pub agrees-pop : (es : List Entry) (e : Entry) (old new : List (List ℕ × Option ℕ)) → Agrees (es ++ e ∷ []) old
    → ((other : List ℕ) → found_in new other ≡ (if bytes_eq e.declared.name.name other then Some e.earlier else found_in old other)) → Agrees es new
agrees-pop es e old new a h = record { found = found; chained = (chained-pop [] es e a.chained).0 }
  where
    was : (name : List ℕ) → known_at old name ≡ cond (bytes_eq e.declared.name.name name) (Some (length (declared_in es))) (last_at name (declared_in es))
    was name = a.found name ∙ (ap (last_at name) (declared_in-push es e) ∙ last_at-push name (declared_in es) e.declared)

    now : (name : List ℕ) → known_at new name ≡ cond (bytes_eq e.declared.name.name name) e.earlier (known_at old name)
    now name = ap (λ o. o >>= (λ at. at)) (h name) ∙ known_if (bytes_eq e.declared.name.name name) e.earlier (found_in old name)

    found : (name : List ℕ) → known_at new name ≡ last_at name (declared_in es)
    found name = ⊎_elim here other (cases_Bool (bytes_eq e.declared.name.name name))
      where
        here : bytes_eq e.declared.name.name name ≡ true → known_at new name ≡ last_at name (declared_in es)
        here y =
            now name
            ∙ (cond-true (bytes_eq e.declared.name.name name) e.earlier (known_at old name) y
            ∙ ((chained-pop [] es e a.chained).1 ∙ ap (λ n. last_at n (declared_in es)) ((bytes_eq-Decides e.declared.name.name name).0 y)))

        other : bytes_eq e.declared.name.name name ≡ false → known_at new name ≡ last_at name (declared_in es)
        other n =
            now name
            ∙ (cond-false (bytes_eq e.declared.name.name name) e.earlier (known_at old name) n
            ∙ (was name ∙ cond-false (bytes_eq e.declared.name.name name) (Some (length (declared_in es))) (last_at name (declared_in es)) n))

-- ---- look-ups

-- the last of a name, or none
pub data IsFound (name : List ℕ) (xs : List Declared) : Type 0 where
  absent : last_at name xs ≡ None → look name xs ≡ None → IsFound name xs
  present : (i : ℕ) (d : Declared) → last_at name xs ≡ Some i → slice_get xs i ≡ Some d → look name xs ≡ Some d.meant → IsFound name xs

found_past : (name : List ℕ) (d : Declared) (rest : List Declared) (b : Bool) → bytes_eq d.name.name name ≡ b → IsFound name rest → IsFound name (d ∷ rest)
found_past name d rest b q (present i x e1 e2 e3) = present (suc i) x
    (ap (λ o. option_or (option_map suc o) (where_true (bytes_eq d.name.name name) 0)) e1) e2
    (ap (λ o. option_or o (where_true (bytes_eq d.name.name name) d.meant)) e3)
found_past name d rest true q (absent e1 e2) = present 0 d (rw (e1, q) refl) refl (rw (e2, q) refl)
found_past name d rest false q (absent e1 e2) = absent (rw (e1, q) refl) (rw (e2, q) refl)

pub find : (name : List ℕ) (xs : List Declared) → IsFound name xs
find name [] = absent refl refl
find name (d ∷ rest) = found_past name d rest (bytes_eq d.name.name name) refl (find name rest)

none_looked : (name : List ℕ) (xs : List Declared) → IsFound name xs → last_at name xs ≡ None → look name xs ≡ None
none_looked name xs (absent e1 e2) q = e2
none_looked name xs (present i d e1 e2 e3) q = let h : Some i ≡ None = sym e1 ∙ q in absurd (grind (arith, h))

some_looked : (name : List ℕ) (es : List Entry) (i : ℕ) → IsFound name (declared_in es) → last_at name (declared_in es) ≡ Some i → look name (declared_in es) ≡ option_map (λ (e : Entry). e.declared.meant) (slice_get es i)
some_looked name es i (absent e1 e2) q = let h : None ≡ Some i = sym e1 ∙ q in absurd (grind (arith, h))
some_looked name es i (present j d e1 e2 e3) q =
    let same : Some j ≡ Some i = sym e1 ∙ q in
    let there : option_map (λ (e : Entry). e.declared) (slice_get es j) ≡ Some d = sym (declared_in-get es j) ∙ e2 in
    e3 ∙ sym (ap (λ o. option_map (λ (e : Entry). e.declared.meant) (o >>= (λ k. slice_get es k))) (sym same) ∙ meant_of (slice_get es j) there)
  where
    meant_of : (o : Option Entry) → option_map (λ (e : Entry). e.declared) o ≡ Some d → option_map (λ (e : Entry). e.declared.meant) o ≡ Some d.meant
    meant_of None h = absurd (grind (arith, h))
    meant_of (Some e) h = ap (option_map (λ (d : Declared). d.meant)) h

pub look_none : (name : List ℕ) (es : List Entry) (latest : List (List ℕ × Option ℕ)) → Agrees es latest → known_at latest name ≡ None → look name (declared_in es) ≡ None
look_none name es latest a q = none_looked name (declared_in es) (find name (declared_in es)) (sym (a.found name) ∙ q)

pub look_at : (name : List ℕ) (es : List Entry) (latest : List (List ℕ × Option ℕ)) (i : ℕ) → Agrees es latest → known_at latest name ≡ Some i → look name (declared_in es) ≡ option_map (λ (e : Entry). e.declared.meant) (slice_get es i)
look_at name es latest i a q = some_looked name es i (find name (declared_in es)) (sym (a.found name) ∙ q)

-- ---- as the code's steps give them

pub declare_agrees : (es : List Entry) (e : Entry) (all : List Entry) (old new : List (List ℕ × Option ℕ)) (key text : List ℕ) (at : ℕ) → Agrees es old → all ≡ es ++ e ∷ [] → text ≡ e.declared.name.name
    → e.earlier ≡ known_at old text → key ≡ e.declared.name.name → at ≡ length es → ((other : List ℕ) → found_in new other ≡ (if bytes_eq key other then Some (Some at) else found_in old other)) → Agrees all new
declare_agrees es e all old new key text at a q t k n l h =
    subst (λ xs. Agrees xs new) (sym q) (agrees-push es e old new a (k ∙ ap (known_at old) t) (λ other.
    h other
    ∙ (ap (λ y. if bytes_eq y other then Some (Some at) else found_in old other) n
    ∙ ap (λ i. if bytes_eq e.declared.name.name other then Some (Some i) else found_in old other) l)))

pub forget_agrees : (all es : List Entry) (e : Entry) (old new : List (List ℕ × Option ℕ)) (key : List ℕ) → Agrees all old → all ≡ es ++ e ∷ [] → key ≡ e.declared.name.name
    → ((other : List ℕ) → found_in new other ≡ (if bytes_eq key other then Some e.earlier else found_in old other)) → Agrees es new
forget_agrees all es e old new key a q n h =
    agrees-pop es e old new (subst (λ xs. Agrees xs old) q a) (λ other. h other ∙ ap (λ y. if bytes_eq y other then Some e.earlier else found_in old other) n)

pub agrees-none : (latest : List (List ℕ × Option ℕ)) → latest ≡ [] → Agrees [] latest
agrees-none latest q = record { found = λ name. ap (λ l. known_at l name) q; chained = tt }

-- one name fewer
pub shorter : (count : ℕ) (old new : List Declared) → (old ≡ []) ⊎ ((d : Declared) × (old ≡ new ++ d ∷ [])) → count < length old → (take count new ≡ take count old) × (length new < length old)
shorter count old new h lt = ⊎_elim none some h
  where
    none : old ≡ [] → (take count new ≡ take count old) × (length new < length old)
    none q = absurd (let lt' : count < 0 = subst (λ l. count < length l) q lt in let f : ⊥ = omega (arith, lt') in f)

    some : ((d : Declared) × (old ≡ new ++ d ∷ [])) → (take count new ≡ take count old) × (length new < length old)
    some p =
        let n : length old ≡ length new + 1 = ap length p.1 ∙ length-append new (p.0 ∷ []) in
        (sym (ap (take count) p.1 ∙ take-append-le count new (p.0 ∷ []) (omega (arith, n, lt))), omega (arith, n))
