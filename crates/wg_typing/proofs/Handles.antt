-- A handle of the own scope, by the place at which it is declared.
use Rattle.std.proofs.Common.{◌≡◌, ℕ, zero, suc, Bool, true, false, List, [], ◌∷◌, Some, refl, sym, ◌∙◌, arith}
use Rattle.std.specs.Prelude.{◌&&◌, ◌||◌, nat_le, drop, slice_get}
use Rattle.std.proofs.lemmas.Grind.{common_steps}
use Rattle.wg_typing.specs.TypingStep.{is_handle, declares_handle, handle_there}
use Rattle.wg_typing.specs.declared.scope.Declared.{Declared}

-- if the handle is declared among these names, that is at this place
abbrev pub Only : ℕ → List Declared → ℕ → Type 0
Only handle names at = (n : ℕ) (d : Declared) → slice_get names n ≡ Some d → is_handle handle d.meant ≡ true → n ≡ at

no_suc : (n : ℕ) → suc n ≡ 0 → ⊥
no_suc n e = omega (arith, e)

less : (m n : ℕ) → suc m ≡ suc n → m ≡ n
less m n e = omega (arith, e)

later : (handle : ℕ) (d : Declared) (rest : List Declared) (at : ℕ) → Only handle (d ∷ rest) (suc at) → Only handle rest at
later handle d rest at h n x e i = less n at (h (suc n) x e i)

-- nowhere where it is declared in front
none_declared : (handle : ℕ) (names : List Declared) → ((n : ℕ) (d : Declared) → slice_get names n ≡ Some d → is_handle handle d.meant ≡ true → ⊥) → declares_handle handle names ≡ false
none_declared handle [] h = refl
none_declared handle (d ∷ rest) h = neither (is_handle handle d.meant) (declares_handle handle rest) (λ e. h 0 d refl e) (none_declared handle rest (λ n x e i. h (suc n) x e i))
  where
    neither : (a b : Bool) → (a ≡ true → ⊥) → b ≡ false → (a || b) ≡ false
    neither true b k e = absurd (k refl)
    neither false b k e = e

none_dropped : (handle start : ℕ) (names : List Declared) → ((n : ℕ) (d : Declared) → slice_get names n ≡ Some d → is_handle handle d.meant ≡ true → ⊥) → declares_handle handle (drop start names) ≡ false
none_dropped handle zero names h = none_declared handle names h
none_dropped handle (suc start) [] h = refl
none_dropped handle (suc start) (d ∷ rest) h = none_dropped handle start rest (λ n x e i. h (suc n) x e i)

le_suc : (m n : ℕ) → nat_le (suc m) (suc n) ≡ nat_le m n
le_suc m n = grind (arith, common_steps)

and_false : (b : Bool) → (b && false) ≡ false
and_false true = refl
and_false false = refl

pub own_handle_is : (handle start at : ℕ) (names : List Declared) → Only handle names at → declares_handle handle (drop start names) ≡ (nat_le start at && handle_there handle (slice_get names at))
own_handle_is handle zero at [] h = sym (and_false (nat_le 0 at))
own_handle_is handle (suc start) at [] h = sym (and_false (nat_le (suc start) at))
own_handle_is handle zero zero (d ∷ rest) h = alone (is_handle handle d.meant) (declares_handle handle rest) (none_declared handle rest (λ n x e i. no_suc n (h (suc n) x e i)))
  where
    alone : (a b : Bool) → b ≡ false → (a || b) ≡ a
    alone true b e = refl
    alone false b e = e
own_handle_is handle zero (suc at) (d ∷ rest) h = behind (is_handle handle d.meant) (declares_handle handle rest) (λ e. no_suc at (sym (h 0 d refl e))) ∙ own_handle_is handle zero at rest (later handle d rest at h) ∙ first (handle_there handle (slice_get rest at))
  where
    behind : (a b : Bool) → (a ≡ true → ⊥) → (a || b) ≡ b
    behind true b k = absurd (k refl)
    behind false b k = refl

    first : (b : Bool) → (nat_le 0 at && b) ≡ (nat_le 0 (suc at) && b)
    first b = grind (arith, common_steps)
own_handle_is handle (suc start) zero (d ∷ rest) h = none_dropped handle start rest (λ n x e i. no_suc n (h (suc n) x e i)) ∙ never (is_handle handle d.meant)
  where
    never : (b : Bool) → false ≡ (nat_le (suc start) 0 && b)
    never b = grind (arith, common_steps)
own_handle_is handle (suc start) (suc at) (d ∷ rest) h = own_handle_is handle start at rest (later handle d rest at h) ∙ both (handle_there handle (slice_get rest at))
  where
    both : (b : Bool) → (nat_le start at && b) ≡ (nat_le (suc start) (suc at) && b)
    both b = rw (le_suc start at) refl
