-- The best of records, one more at a time.
use Rattle.std.proofs.Common.{◌≡◌, ℕ, ◌<◌, ◌≤◌, Bool, true, false, List, [], ◌∷◌, ◌++◌, refl, ap, sym, subst, arith, None, Option, Some, inl, inr}
use Rattle.std.specs.Prelude.{◌==◌, ◌&&◌, ◌||◌, nat_lt}
use Rattle.std.specs.List.{list_any}
use Rattle.std.proofs.lemmas.Bool.Decides.{nat_tests}
use Rattle.wg_words.specs.Each.{Each}
use Rattle.wg_machine.specs.declared.shape.Shape.{Shape}
use Rattle.wg_machine.specs.Units.{depth_at}
use Rattle.wg_room.specs.Counts.{Counts, HasSlotsLeft}
use Rattle.wg_store.specs.declared.item.Item.{Item}
use Rattle.wg_store.specs.Items.{waits_item}
use Rattle.wg_store.specs.Best.{CanTake, ComesBefore, IsBestOf, IsDeeperOf, IsNoLater}

each_push : (P : Item → Type 0) (xs : List Item) (x : Item) → Each P xs → P x → Each P (xs ++ x ∷ [])
each_push P [] x each here = (here, tt)
each_push P (y ∷ xs) x each here = (each.0, each_push P xs x each.1 here)

each_to : (P Q : Item → Type 0) (xs : List Item) → ((x : Item) → P x → Q x) → Each P xs → Each Q xs
each_to P Q [] f each = tt
each_to P Q (x ∷ xs) f each = (f x each.0, each_to P Q xs f each.1)

any_push : (p : Item → Bool) (xs : List Item) (x : Item) → list_any p xs ≡ true → list_any p (xs ++ x ∷ []) ≡ true
any_push p [] x e = absurd (cc)
any_push p (y ∷ xs) x e = go (p y) e (any_push p xs x)
  where
    go : (b : Bool) → (b || list_any p xs) ≡ true → (list_any p xs ≡ true → list_any p (xs ++ x ∷ []) ≡ true) → (b || list_any p (xs ++ x ∷ [])) ≡ true
    go true f rest = refl
    go false f rest = rest f

any_last : (p : Item → Bool) (xs : List Item) (x : Item) → p x ≡ true → list_any p (xs ++ x ∷ []) ≡ true
any_last p [] x e = rw e refl
any_last p (y ∷ xs) x e = go (p y) (any_last p xs x e)
  where
    go : (b : Bool) → list_any p (xs ++ x ∷ []) ≡ true → (b || list_any p (xs ++ x ∷ [])) ≡ true
    go true rest = refl
    go false rest = rest

-- a record that cannot be taken changes nothing
pub best_skips : (shape : Shape) (c : Counts) (xs : List Item) (x : Item) (best : Option ℕ) → (CanTake c x → ⊥) → IsBestOf shape c xs best → IsBestOf shape c (xs ++ x ∷ []) best
best_skips shape c xs x None never so_far = each_push (λ (y : Item). CanTake c y → ⊥) xs x so_far never
best_skips shape c xs x (Some u) never so_far =
    record {
      waits = any_push (λ (y : Item). (y.unit == u) && waits_item y) xs x so_far.waits;
      room = so_far.room;
      first = each_push (λ (y : Item). CanTake c y → IsNoLater shape u y.unit) xs x so_far.first (λ can. absurd (never can));
    }

no_later : (shape : Shape) (u v w : ℕ) → ComesBefore shape u v → IsNoLater shape v w → IsNoLater shape u w
no_later shape u v w (inl a) (inl b) = inl (omega (arith, a, b))
no_later shape u v w (inl a) (inr b) = let e = b.0 in inl (omega (arith, a, e))
no_later shape u v w (inr a) (inl b) = let e = a.0 in inl (omega (arith, b, e))
no_later shape u v w (inr a) (inr b) = let e = a.0 in let f = b.0 in let g = a.1 in let h = b.1 in inr (omega (arith, e, f), omega (arith, g, h))

not_before : (shape : Shape) (u v : ℕ) → (ComesBefore shape u v → ⊥) → IsNoLater shape v u
not_before shape u v never = go (nat_lt (depth_at shape v) (depth_at shape u)) refl (nat_lt (depth_at shape u) (depth_at shape v)) refl (nat_lt u v) refl
  where
    go : (a : Bool) → nat_lt (depth_at shape v) (depth_at shape u) ≡ a → (b : Bool) → nat_lt (depth_at shape u) (depth_at shape v) ≡ b → (d : Bool) → nat_lt u v ≡ d → IsNoLater shape v u
    go true p b q d r = absurd (never (inl (grind (arith, nat_tests))))
    go false p true q d r = inl (grind (arith, nat_tests))
    go false p false q true r =
        let lo : depth_at shape u ≤ depth_at shape v = grind (arith, nat_tests) in
        let hi : depth_at shape v ≤ depth_at shape u = grind (arith, nat_tests) in
        let less : u < v = grind (arith, nat_tests) in
        absurd (never (inr (omega (arith, lo, hi), less)))
    go false p false q false r =
        let lo : depth_at shape u ≤ depth_at shape v = grind (arith, nat_tests) in
        let hi : depth_at shape v ≤ depth_at shape u = grind (arith, nat_tests) in
        inr (omega (arith, lo, hi), grind (arith, nat_tests))

-- a record that can be taken is compared
pub best_more : (shape : Shape) (c : Counts) (xs : List Item) (x : Item) (best : Option ℕ) (r : ℕ) → CanTake c x → IsBestOf shape c xs best → IsDeeperOf shape x.unit best r → IsBestOf shape c (xs ++ x ∷ []) (Some r)
best_more shape c xs x None r can so_far is =
    let self : (x.unit == r) ≡ true = grind (arith, nat_tests) in
    record {
      waits = any_last (λ (y : Item). (y.unit == r) && waits_item y) xs x (rw self can.waits);
      room = subst (HasSlotsLeft c) (sym is) can.room;
      first = each_push (λ (y : Item). CanTake c y → IsNoLater shape r y.unit) xs x (each_to (λ (y : Item). CanTake c y → ⊥) (λ (y : Item). CanTake c y → IsNoLater shape r y.unit) xs (λ y never g. absurd (never g)) so_far) (λ g. inr (ap (depth_at shape) (sym is), omega (arith, is)));
    }
best_more shape c xs x (Some v) r can so_far (inl is) =
    let e = is.0 in
    let self : (x.unit == r) ≡ true = grind (arith, nat_tests) in
    record {
      waits = any_last (λ (y : Item). (y.unit == r) && waits_item y) xs x (rw self can.waits);
      room = subst (HasSlotsLeft c) (sym e) can.room;
      first = each_push (λ (y : Item). CanTake c y → IsNoLater shape r y.unit) xs x (each_to (λ (y : Item). CanTake c y → IsNoLater shape v y.unit) (λ (y : Item). CanTake c y → IsNoLater shape r y.unit) xs (λ y f g. subst (λ (u : ℕ). IsNoLater shape u y.unit) (sym e) (no_later shape x.unit v y.unit is.1 (f g))) so_far.first) (λ g. inr (ap (depth_at shape) (sym e), omega (arith, e)));
    }
best_more shape c xs x (Some v) r can so_far (inr is) =
    let e = is.0 in
    subst (λ (u : ℕ). IsBestOf shape c (xs ++ x ∷ []) (Some u)) (sym e) (record {
      waits = any_push (λ (y : Item). (y.unit == v) && waits_item y) xs x so_far.waits;
      room = so_far.room;
      first = each_push (λ (y : Item). CanTake c y → IsNoLater shape v y.unit) xs x so_far.first (λ g. not_before shape x.unit v is.1);
    })
