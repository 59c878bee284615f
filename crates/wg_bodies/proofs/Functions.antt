-- A plain function of a sound text does the same in two settings with the same structs.
use Rattle.std.proofs.Common.{◌≡◌, ℕ, zero, suc, false, List, [], ◌∷◌, ◌++◌, length, Some, refl, sym, ap, ◌∙◌, subst, arith}
use Rattle.std.specs.Prelude.{slice_get}
use Rattle.std.proofs.lemmas.List.{length-append}
use Rattle.wg_state.specs.declared.world.World.{World}
use Rattle.wg_semantics.specs.Places.{Setting}
use Rattle.wg_semantics.specs.Calls.{Callee, callee_at}
use Rattle.wg_semantics.specs.FunctionMeaning.{given_first, result_words, leaves, callee_of, callees_after, callees_of}
use Rattle.wg_sound.specs.Room.{is_node}
use Rattle.wg_sound.specs.Sound.{IsSound}
use Rattle.wg_typed.specs.declared.typed.Typed.{Typed}
use Rattle.wg_typed.specs.declared.typed.TypedFunction.{TypedFunction}
use Rattle.wg_typed.specs.declared.typed.TypedStruct.{TypedStruct}
use Rattle.wg_bodies.proofs.Exprs.{SameCallee, SameCalls, with_structs}
use Rattle.wg_bodies.proofs.Plain.{plain_room}
use Rattle.wg_bodies.proofs.Stmts.{body_alike}
use Rattle.wg_facts.proofs.Basics.{some_value}
use Rattle.wg_facts.proofs.Lists.{joined, nothing_more, front, at_end}

-- ---- lists

-- what stands in a list with one more at its end
pushed : {A : Type 0} (P : Type 0) (xs : List A) (x : A) (n : ℕ) (y : A) → slice_get (xs ++ x ∷ []) n ≡ Some y → (slice_get xs n ≡ Some y → P) → (n ≡ length xs → x ≡ y → P) → P
pushed P [] x zero y e h k = k refl (some_value e)
pushed P [] x (suc n) y e h k = absurd (cc)
pushed P (z ∷ xs) x zero y e h k = h e
pushed P (z ∷ xs) x (suc n) y e h k = pushed P xs x n y e h (λ i j. k (ap suc i) j)

kept : (before : List TypedFunction) (cs : List Callee) (c : Callee) (n : ℕ) (f : TypedFunction) → length cs ≡ length before → slice_get before n ≡ Some f → callee_at (cs ++ c ∷ []) n ≡ callee_at cs n
kept [] cs c n f l e = absurd (cc)
kept (x ∷ before) [] c n f l e = absurd (let h : ⊥ = omega (arith, l) in h)
kept (x ∷ before) (d ∷ cs) c zero f l e = refl
kept (x ∷ before) (d ∷ cs) c (suc n) f l e = kept before cs c n f (omega (arith, l)) e

added : (before : List TypedFunction) (cs : List Callee) (c : Callee) → length cs ≡ length before → callee_at (cs ++ c ∷ []) (length before) ≡ c
added [] [] c l = refl
added [] (d ∷ cs) c l = absurd (let h : ⊥ = omega (arith, l) in h)
added (x ∷ before) [] c l = absurd (let h : ⊥ = omega (arith, l) in h)
added (x ∷ before) (d ∷ cs) c l = added before cs c (omega (arith, l))

longer : (before : List TypedFunction) (f : TypedFunction) (cs : List Callee) (c : Callee) → length cs ≡ length before → length (cs ++ c ∷ []) ≡ length (before ++ f ∷ [])
longer before f cs c l = omega (arith, l, length-append cs (c ∷ []), length-append before (f ∷ []))

-- ---- functions

module _ (a other : Setting) (text : Typed) (sound : IsSound text) where
  abbrev b : Setting
  b = with_structs a.structs other

  -- the meanings of the functions before
  record SoFar (before : List TypedFunction) (cs ds : List Callee) : Type 0 where
    here : length cs ≡ length before
    there : length ds ≡ length before
    same : (n : ℕ) (f : TypedFunction) → slice_get before n ≡ Some f → is_node f ≡ false → SameCallee (callee_at cs n) (callee_at ds n)

  calls_before : (before rest : List TypedFunction) (cs ds : List Callee) (f : TypedFunction) → text.functions ≡ before ++ f ∷ rest → SoFar before cs ds → SameCalls (record { text = text; function = f; number = length before }) cs ds
  calls_before before rest cs ds f e h n g l at plain = h.same n g (sym (front before (f ∷ rest) n l) ∙ ap (λ fs. slice_get fs n) (sym e) ∙ at) plain

  function_alike : (before rest : List TypedFunction) (cs ds : List Callee) (f : TypedFunction) → text.functions ≡ before ++ f ∷ rest → SoFar before cs ds → is_node f ≡ false → SameCallee (callee_of a cs f) (callee_of b ds f)
  function_alike before rest cs ds f e h plain =
      let own = sound.functions (length before) f (ap (λ fs. slice_get fs (length before)) e ∙ at_end before f rest) in
      record {
        parameters = refl;
        does = λ values. record {
          same = λ w t. ap (leaves (result_words a.structs f.result))
              ((body_alike a other cs ds (record { text = text; function = f; number = length before }) (plain_room text (length before) f own plain) (calls_before before rest cs ds f e h) f.body own.body).same (record { variables = given_first a.structs f.variables values; world = w }) t);
        };
      }

  so_far_more : (before rest : List TypedFunction) (cs ds : List Callee) (f : TypedFunction) → text.functions ≡ before ++ f ∷ rest → SoFar before cs ds → SoFar (before ++ f ∷ []) (cs ++ callee_of a cs f ∷ []) (ds ++ callee_of b ds f ∷ [])
  so_far_more before rest cs ds f e h = record {
    here = longer before f cs (callee_of a cs f) h.here;
    there = longer before f ds (callee_of b ds f) h.there;
    same = λ n g at plain. pushed (SameCallee (callee_at (cs ++ callee_of a cs f ∷ []) n) (callee_at (ds ++ callee_of b ds f ∷ []) n)) before f n g at
        (λ old. subst (λ c. SameCallee c (callee_at (ds ++ callee_of b ds f ∷ []) n)) (sym (kept before cs (callee_of a cs f) n g h.here old)) (subst (SameCallee (callee_at cs n)) (sym (kept before ds (callee_of b ds f) n g h.there old)) (h.same n g old plain)))
        (λ last is. subst (λ m. SameCallee (callee_at (cs ++ callee_of a cs f ∷ []) m) (callee_at (ds ++ callee_of b ds f ∷ []) m)) (sym last)
        (subst (λ c. SameCallee c (callee_at (ds ++ callee_of b ds f ∷ []) (length before))) (sym (added before cs (callee_of a cs f) h.here))
        (subst (SameCallee (callee_of a cs f)) (sym (added before ds (callee_of b ds f) h.there)) (function_alike before rest cs ds f e h (subst (λ x. is_node x ≡ false) (sym is) plain)))));
  }

  all_alike : (rest before : List TypedFunction) (cs ds : List Callee) → text.functions ≡ before ++ rest → SoFar before cs ds → (n : ℕ) (f : TypedFunction) → slice_get text.functions n ≡ Some f → is_node f ≡ false
      → SameCallee (callee_at (callees_after a cs rest) n) (callee_at (callees_after b ds rest) n)
  all_alike [] before cs ds e h n f at plain = h.same n f (subst (λ fs. slice_get fs n ≡ Some f) (e ∙ sym (nothing_more before)) at) plain
  all_alike (g ∷ rest) before cs ds e h n f at plain =
      all_alike rest (before ++ g ∷ []) (cs ++ callee_of a cs g ∷ []) (ds ++ callee_of b ds g ∷ []) (e ∙ sym (joined before (g ∷ []) rest)) (so_far_more before rest cs ds g e h) n f at plain

  function_does_same : (n : ℕ) (f : TypedFunction) → slice_get text.functions n ≡ Some f → is_node f ≡ false → SameCallee (callee_at (callees_of a text.functions) n) (callee_at (callees_of b text.functions) n)
  function_does_same n f at plain = all_alike text.functions [] [] [] refl (record { here = refl; there = refl; same = λ n f e p. absurd (cc) }) n f at plain

pub same_doing : (text : Typed) (number : ℕ) (f : TypedFunction) (a b : Setting) (values : List (List ℕ)) (w : World) (t : ℕ) → IsSound text → slice_get text.functions number ≡ Some f → is_node f ≡ false → a.structs ≡ b.structs
    → (callee_at (callees_of a text.functions) number).does values w t ≡ (callee_at (callees_of b text.functions) number).does values w t
same_doing text number f a b values w t sound at plain e =
    subst (λ (s : List TypedStruct). (callee_at (callees_of a text.functions) number).does values w t ≡ (callee_at (callees_of (with_structs s b) text.functions) number).does values w t) e
    (((function_does_same a b text sound number f at plain).does values).same w t)
