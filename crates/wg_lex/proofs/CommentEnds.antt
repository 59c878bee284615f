-- Where a comment ends.
use Rattle.std.proofs.Common.{◌≡◌, ℕ, zero, suc, ◌+◌, ◌<◌, ◌≤◌, ◌==◌, Bool, true, false, ◌&&◌, if◌then◌else◌, List, [], ◌∷◌, length, take, Option, Some, None, refl, ◌∙◌, ap, arith, add-one}
use Rattle.std.specs.Option.{option_map}
use Rattle.wg_tokens.specs.Spelling.{closes, is_empty}
use Rattle.wg_lex.specs.Scanning.{comment_end}

-- the first `*/` is the end, where a `*` may stand before these bytes
abbrev pub closes_after : Bool → List ℕ → Bool
closes_after true bs = closes (42 ∷ bs)
closes_after false bs = closes bs

plain : (c : ℕ) (cs : List ℕ) (v : Bool) → (c == 42) ≡ v → closes (c ∷ cs) ≡ closes_after v cs
plain c [] true e = refl
plain c [] false e = refl
plain c (d ∷ ds) true e = rw e refl
plain c (d ∷ ds) false e = rw e refl

pub closes_step : (s : Bool) (c : ℕ) (cs : List ℕ) → closes_after s (c ∷ cs) ≡ (if s && c == 47 then is_empty cs else closes_after (c == 42) cs)
closes_step true c cs = ap (λ z. if c == 47 then is_empty cs else z) (plain c cs (c == 42) refl)
closes_step false c cs = plain c cs (c == 42) refl

-- what `comment_end` says of every front
abbrev pub Ends : Bool → List ℕ → Option ℕ → Type 0
Ends s bs None = (m : ℕ) → m ≤ length bs → closes_after s (take m bs) ≡ false
Ends s bs (Some n) = (0 < n) × (n ≤ length bs) × (closes_after s (take n bs) ≡ true) × ((m : ℕ) → n < m → m ≤ length bs → closes_after s (take m bs) ≡ false)

empty : (s : Bool) → closes_after s [] ≡ false
empty true = refl
empty false = refl

here : (s : Bool) (c : ℕ) (cs : List ℕ) → (s && c == 47) ≡ true → Ends s (c ∷ cs) (Some 1)
here s c cs e = (omega arith, omega arith, closes_step s c [] ∙ rw e refl, past cs)
  where
    past : (cs : List ℕ) (m : ℕ) → 1 < m → m ≤ length (c ∷ cs) → closes_after s (take m (c ∷ cs)) ≡ false
    past cs zero h k = absurd (omega arith)
    past cs (suc zero) h k = absurd (omega arith)
    past [] (suc (suc m)) h k = absurd (omega arith)
    past (d ∷ ds) (suc (suc m)) h k = closes_step s c (d ∷ take m ds) ∙ rw e refl

later : (s : Bool) (c : ℕ) (cs : List ℕ) (o : Option ℕ) → (s && c == 47) ≡ false → Ends (c == 42) cs o → Ends s (c ∷ cs) (option_map (λ n. n + 1) o)
later s c cs None e h = all
  where
    all : (m : ℕ) → m ≤ length (c ∷ cs) → closes_after s (take m (c ∷ cs)) ≡ false
    all zero k = empty s
    all (suc m) k = closes_step s c (take m cs) ∙ rw e (h m (omega arith))
later s c cs (Some n) e h = rw (add-one n) (omega arith, (let within = h.1 in omega arith), closes_step s c (take n cs) ∙ rw e h.2, past)
  where
    past : (m : ℕ) → suc n < m → m ≤ length (c ∷ cs) → closes_after s (take m (c ∷ cs)) ≡ false
    past zero l k = absurd (omega arith)
    past (suc m) l k = closes_step s c (take m cs) ∙ rw e (h.3 m (omega arith) (omega arith))

none : (s : Bool) (m : ℕ) → m ≤ length {A = ℕ} [] → closes_after s (take m []) ≡ false
none s zero k = empty s
none s (suc m) k = absurd (omega arith)

either : (s : Bool) (c : ℕ) (cs : List ℕ) (v : Bool) → (s && c == 47) ≡ v → Ends (c == 42) cs (comment_end (c == 42) cs) → Ends s (c ∷ cs) (if v then Some 1 else option_map (λ n. n + 1) (comment_end (c == 42) cs))
either s c cs true e h = here s c cs e
either s c cs false e h = later s c cs (comment_end (c == 42) cs) e h

pub comment_ends : (s : Bool) (bs : List ℕ) → Ends s bs (comment_end s bs)
comment_ends s [] = none s
comment_ends s (c ∷ cs) = either s c cs (s && c == 47) refl (comment_ends (c == 42) cs)

-- ---- the loop

pub end_begin : (text : List ℕ) → option_map (λ k. k + 0) (comment_end false text) ≡ comment_end false text
end_begin text = same (comment_end false text)
  where
    same : (o : Option ℕ) → option_map (λ k. k + 0) o ≡ o
    same None = refl
    same (Some k) = ap Some (omega arith)
