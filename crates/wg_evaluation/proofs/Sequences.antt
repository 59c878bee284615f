-- What is left of a loop over steps.
use Rattle.std.proofs.Common.{◌≡◌, ℕ, zero, suc, ◌+◌, ◌<◌, ◌≤◌, List, [], ◌∷◌, ◌++◌, length, drop, get_or, map, refl, sym, ap, ◌∙◌, arith, drop-cons, add-one, append-nil, append_assoc}
use Rattle.wg_state.specs.Turns.{Ending, Spent, Done, Action, and_then, ◌>>=◌, pure, each}
use Rattle.wg_semantics.specs.declared.state.State.{State}
use Rattle.wg_semantics.specs.declared.state.Spot.{Spot}
use Rattle.wg_typed.specs.declared.types.TypeTree.{TypeTree}
use Rattle.wg_semantics.specs.ExprMeaning.{Follows, Linked, followed, chained}
use Rattle.wg_machine.specs.declared.bodies.Halt.{Halt}
use Rattle.wg_machine.specs.declared.bodies.Halt.TheVariants as halt
use Rattle.wg_evaluation.specs.Says.{Stops}

pub drop_past : {A : Type 0} (xs : List A) (i : ℕ) → length xs ≤ i → drop i xs ≡ []
drop_past [] zero le = refl
drop_past [] (suc i) le = refl
drop_past (x ∷ xs) zero le = absurd (let h : ⊥ = omega (arith, le) in h)
drop_past (x ∷ xs) (suc i) le = drop_past xs i (omega (arith, le))

-- the element at an index, and those behind it
pub at_index : {A B : Type 0} (f : A → B) (xs : List A) (i : ℕ) (x : A) → x ≡ get_or xs i x → i < length xs → map f (drop i xs) ≡ f x ∷ map f (drop (i + 1) xs)
at_index f xs i x e lt =
    ap (map f) (drop-cons xs i x lt)
    ∙ ap (λ y. f y ∷ map f (drop (suc i) xs)) (sym e)
    ∙ ap (λ n. f x ∷ map f (drop n xs)) (sym (add-one i))

-- what stops a step stops those that go on from it
pub stops_next : {S A B : Type 0} (o : Ending S A) (k : A → Action S B) (h : Halt) → Stops o h → Stops (and_then o k) h
stops_next o k halt.Turns e = ap (λ x. and_then x k) e
stops_next o k halt.Memory e = tt

pub stops_same : {S A : Type 0} (o p : Ending S A) (h : Halt) → o ≡ p → Stops o h → Stops p h
stops_same o p halt.Turns e s = sym e ∙ s
stops_same o p halt.Memory e s = tt

-- ---- lists of steps, where the answers of the first are known

abbrev pub gives : {S A : Type 0} → List A → List A → Action S (List A)
gives done more = pure (done ++ more)

pub gives_none : {S A : Type 0} (o : Ending S (List A)) → and_then o (gives []) ≡ o
gives_none Spent = refl
gives_none (Done more s t) = refl

pub gives_more : {S A : Type 0} (done : List A) (a : A) (o : Ending S (List A)) → and_then o (gives (done ++ a ∷ [])) ≡ and_then (and_then o (λ more. pure (a ∷ more))) (gives done)
gives_more done a Spent = refl
gives_more done a (Done more s t) = ap (λ l. Done l s t) (append_assoc done (a ∷ []) more)

module _ {S A B E : Type 0} (g : B → Action S A) (h : E → B) (es : List E) (i : ℕ) (done : List A) (s : S) (t : ℕ) (whole : Ending S (List A)) where
  abbrev pub left : Ending S (List A)
  left = and_then (each (map g (map h (drop i es))) s t) (gives done)

  first_of : (e : E) → e ≡ get_or es i e → i < length es → left ≡ and_then (and_then (g (h e) s t) (λ a. each (map g (map h (drop (i + 1) es))) >>= (λ more. pure (a ∷ more)))) (gives done)
  first_of e is lt = ap (λ l. and_then (each (map g l) s t) (gives done)) (at_index h es i e is lt)

  pub each_goes_on : (e : E) (a : A) (s' : S) (t' : ℕ) → e ≡ get_or es i e → i < length es → g (h e) s t ≡ Done a s' t' → left ≡ whole → and_then (each (map g (map h (drop (i + 1) es))) s' t') (gives (done ++ a ∷ [])) ≡ whole
  each_goes_on e a s' t' is lt d w =
      gives_more done a (each (map g (map h (drop (i + 1) es))) s' t')
      ∙ sym (ap (λ o. and_then (and_then o (λ a. each (map g (map h (drop (i + 1) es))) >>= (λ more. pure (a ∷ more)))) (gives done)) d)
      ∙ sym (first_of e is lt) ∙ w

  pub each_stops : (e : E) (halt : Halt) → e ≡ get_or es i e → i < length es → Stops (g (h e) s t) halt → left ≡ whole → Stops whole halt
  each_stops e halt is lt d w =
      stops_same _ whole halt (sym (first_of e is lt) ∙ w) (stops_next _ (gives done) halt (stops_next (g (h e) s t) _ halt d))

  pub each_ends : length es ≤ i → left ≡ whole → whole ≡ Done done s t
  each_ends le w =
      sym w ∙ ap (λ l. and_then (each (map g (map h l)) s t) (gives done)) (drop_past es i le) ∙ ap (λ l. Done l s t) (append-nil done)

-- ---- forms and operators one after another

module _ {E : Type 0} (f : E → Follows) (es : List E) (i : ℕ) (of : TypeTree) (p : Spot) (s : State) (t : ℕ) (whole : Ending State Spot) (e : E) (is : e ≡ get_or es i e) (lt : i < length es) (w : followed (map f (drop i es)) of p s t ≡ whole) where
  form_first : and_then ((f e).after of p s t) (followed (map f (drop (i + 1) es)) (f e).of) ≡ whole
  form_first = sym (ap (λ l. followed l of p s t) (at_index f es i e is lt)) ∙ w

  pub follow_goes_on : (q : Spot) (s' : State) (t' : ℕ) → (f e).after of p s t ≡ Done q s' t' → followed (map f (drop (i + 1) es)) (f e).of q s' t' ≡ whole
  follow_goes_on q s' t' d = sym (ap (λ o. and_then o (followed (map f (drop (i + 1) es)) (f e).of)) d) ∙ form_first

  pub follow_stops : (h : Halt) → Stops ((f e).after of p s t) h → Stops whole h
  follow_stops h d = stops_same _ whole h form_first (stops_next _ (followed (map f (drop (i + 1) es)) (f e).of) h d)

module _ {E : Type 0} (f : E → Linked) (es : List E) (i : ℕ) (of : TypeTree) (words : List ℕ) (s : State) (t : ℕ) (whole : Ending State (List ℕ)) (e : E) (is : e ≡ get_or es i e) (lt : i < length es) (w : chained (map f (drop i es)) of words s t ≡ whole) where
  link_first : and_then ((f e).next of words s t) (chained (map f (drop (i + 1) es)) (f e).of) ≡ whole
  link_first = sym (ap (λ l. chained l of words s t) (at_index f es i e is lt)) ∙ w

  pub chain_goes_on : (next : List ℕ) (s' : State) (t' : ℕ) → (f e).next of words s t ≡ Done next s' t' → chained (map f (drop (i + 1) es)) (f e).of next s' t' ≡ whole
  chain_goes_on next s' t' d = sym (ap (λ o. and_then o (chained (map f (drop (i + 1) es)) (f e).of)) d) ∙ link_first

  pub chain_stops : (h : Halt) → Stops ((f e).next of words s t) h → Stops whole h
  chain_stops h d = stops_same _ whole h link_first (stops_next _ (chained (map f (drop (i + 1) es)) (f e).of) h d)
