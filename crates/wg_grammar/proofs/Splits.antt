-- Lists of tokens that are put together in two ways.
use Rattle.std.proofs.Common.{◌≡◌, List, [], ◌∷◌, ◌++◌, refl, sym, ◌∙◌, ap, subst, inl, inr, ◌⊎◌}
use Rattle.wg_grammar.specs.Depths.{plain, Shallow}

pub heads_same : {A : Type 0} (a b : A) (v w : List A) → a ∷ v ≡ b ∷ w → (a ≡ b) × (v ≡ w)
heads_same a b v w e = (cc, cc)

joined : {A : Type 0} (a b : A) (v w : List A) → a ≡ b → v ≡ w → a ∷ v ≡ b ∷ w
joined a b v w e f = cc

-- the one front is the other, or goes on in it
pub compare : {A : Type 0} (f r g s : List A) → f ++ r ≡ g ++ s → ((f ≡ g) × (r ≡ s)) ⊎ (((a : A) × (v : List A) × (g ≡ f ++ a ∷ v) × (r ≡ a ∷ (v ++ s))) ⊎ ((a : A) × (v : List A) × (f ≡ g ++ a ∷ v) × (s ≡ a ∷ (v ++ r))))
compare [] r [] s e = inl (refl, e)
compare [] r (b ∷ g) s e = inr (inl (b, g, refl, e))
compare (a ∷ f) r [] s e = inr (inr (a, f, refl, sym e))
compare (a ∷ f) r (b ∷ g) s e = let h = heads_same a b (f ++ r) (g ++ s) e in elim (compare f r g s h.1) [
  | inl k ↦ inl (joined a b f g h.0 k.0, k.1)
  | inr k ↦ inr (elim k [ inl c ↦ inl (c.0, c.1, joined b a g (f ++ c.0 ∷ c.1) (sym h.0) c.2, c.3) | inr c ↦ inr (c.0, c.1, joined a b f (g ++ c.0 ∷ c.1) h.0 c.2, c.3) ])
]

-- a list of tokens is cut where its tokens are
pub cut_plain : {T D : Type 0} (cells : List (T × D)) (a b : List T) → plain cells ≡ a ++ b → (c e : List (T × D)) × (cells ≡ c ++ e) × (plain c ≡ a) × (plain e ≡ b)
cut_plain cells [] b e = ([], cells, refl, refl, e)
cut_plain [] (t ∷ a) b e = absurd (cc)
cut_plain (x ∷ cells) (t ∷ a) b e = let h = heads_same x.0 t (plain cells) (a ++ b) e in let k = cut_plain cells a b h.1 in
    (x ∷ k.0, k.1, ap (λ z. x ∷ z) k.2, joined x.0 t (plain k.0) a h.0 k.3, k.4)

-- and before its next token
pub cut_next : {T D : Type 0} (cells : List (T × D)) (a : List T) (t : T) (b : List T) → plain cells ≡ a ++ t ∷ b → (c : List (T × D)) × (d : D) × (e : List (T × D)) × (cells ≡ c ++ (t, d) ∷ e) × (plain c ≡ a) × (plain e ≡ b)
cut_next {T = T} {D = D} cells a t b e = let k = cut_plain cells a (t ∷ b) e in go k.1 k.4 k.0 k.2 k.3
  where
    go : (e : List (T × D)) → plain e ≡ t ∷ b → (c : List (T × D)) → cells ≡ c ++ e → plain c ≡ a → (c : List (T × D)) × (d : D) × (e : List (T × D)) × (cells ≡ c ++ (t, d) ∷ e) × (plain c ≡ a) × (plain e ≡ b)
    go [] q c s p = absurd (cc)
    go (x ∷ e) q c s p = let h = heads_same x.0 t (plain e) b q in (c, x.1, e, s ∙ ap (λ z. c ++ (z, x.1) ∷ e) h.0, p, h.1)

module _ {D : Type 0} (Within : D → Type 0) where
  pub shallow_front : {T : Type 0} (a b : List (T × D)) → Shallow Within (a ++ b) → Shallow Within a
  shallow_front [] b h = tt
  shallow_front (x ∷ a) b h = (h.0, shallow_front a b h.1)

  pub shallow_at : {T : Type 0} (a : List (T × D)) (t : T) (d : D) (b : List (T × D)) → Shallow Within (a ++ (t, d) ∷ b) → Within d
  shallow_at [] t d b h = h.0
  shallow_at (x ∷ a) t d b h = shallow_at a t d b h.1

  -- the first that is not within stands at one place
  pub first_same : {T : Type 0} (f : List (T × D)) (t : T) (d : D) (r g : List (T × D)) (u : T) (c : D) (s : List (T × D)) → f ++ (t, d) ∷ r ≡ g ++ (u, c) ∷ s → Shallow Within f → Shallow Within g → (Within d → ⊥) → (Within c → ⊥) → (f ≡ g) × ((t, d) ∷ r ≡ (u, c) ∷ s)
  first_same {T = T} f t d r g u c s e a b h k = elim (compare f ((t, d) ∷ r) g ((u, c) ∷ s) e) [
    | inl q ↦ q
    | inr q ↦ elim q [
      | inl x ↦ absurd (h (subst (λ z. Within z.1) (sym (heads_same (t, d) x.0 r (x.1 ++ (u, c) ∷ s) x.3).0) (shallow_at f x.0.0 x.0.1 x.1 (subst (λ z. Shallow Within z) x.2 b))))
      | inr x ↦ absurd (k (subst (λ z. Within z.1) (sym (heads_same (u, c) x.0 s (x.1 ++ (t, d) ∷ r) x.3).0) (shallow_at g x.0.0 x.0.1 x.1 (subst (λ z. Shallow Within z) x.2 a))))
    ]
  ]
