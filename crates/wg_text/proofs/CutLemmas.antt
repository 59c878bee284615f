-- Cutting a text at a byte.
use Rattle.std.proofs.Common.{◌≡◌, ℕ, ◌+◌, ◌<◌, Bool, true, false, List, [], ◌∷◌, ◌++◌, length, take, drop, get_or, drop-cons, add-one, Option, Some, None, refl, sym, ap, ◌∙◌, append_assoc}
use Rattle.std.specs.Option.{option_map}
use Rattle.std.proofs.lemmas.List.{append-nil, take_more}
use Rattle.wg_text.specs.Cut.{cut}

-- what was passed before a cut
abbrev pub with_front : List ℕ → Option (List ℕ × List ℕ) → Option (List ℕ × List ℕ)
with_front front None = None
with_front front (Some r) = Some (front ++ r.0, r.1)

front_more : (front : List ℕ) (c : ℕ) (r : Option (List ℕ × List ℕ)) → with_front front (option_map (λ (p : List ℕ × List ℕ). (c ∷ p.0, p.1)) r) ≡ with_front (front ++ c ∷ []) r
front_more front c None = refl
front_more front c (Some r) = ap (λ (t : List ℕ). Some (t, r.1)) (sym (append_assoc front (c ∷ []) r.0))

-- the cut of what is left, at a byte that cuts
pub cut_here : (at : ℕ → Bool) (text : List ℕ) (end : ℕ) → end < length text → at (get_or text end 0) ≡ true → with_front (take end text) (cut at (drop end text)) ≡ cut at text → Some (take end text, drop (end + 1) text) ≡ cut at text
cut_here at text end h test e =
    let here : cut at (drop end text) ≡ Some ([], drop (end + 1) text) = rw (add-one, drop-cons text end 0, test) refl in
    ap (λ (t : List ℕ). Some (t, drop (end + 1) text)) (sym (append-nil (take end text))) ∙ (ap (with_front (take end text)) (sym here) ∙ e)

-- and at one that does not
pub cut_later : (at : ℕ → Bool) (text : List ℕ) (end : ℕ) → end < length text → at (get_or text end 0) ≡ false → with_front (take end text) (cut at (drop end text)) ≡ cut at text → with_front (take (end + 1) text) (cut at (drop (end + 1) text)) ≡ cut at text
cut_later at text end h test e =
    let later : cut at (drop end text) ≡ option_map (λ (p : List ℕ × List ℕ). (get_or text end 0 ∷ p.0, p.1)) (cut at (drop (end + 1) text)) = rw (add-one, drop-cons text end 0, test) refl in
    ap (λ (t : List ℕ). with_front t (cut at (drop (end + 1) text))) (take_more text end 0 h)
    ∙ (sym (front_more (take end text) (get_or text end 0) (cut at (drop (end + 1) text))) ∙ (ap (with_front (take end text)) (sym later) ∙ e))
