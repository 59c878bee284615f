-- The slot of a word of the language leads to it, and to no other word.
use Rattle.std.proofs.Common.{◌≡◌, ℕ, zero, suc, Bool, true, false, map, List, [], ◌∷◌, slice_index_or, slice_get, Option, Some, None, refl, sym, ◌∙◌, ap, bytes_eq, if◌then◌else◌}
use Rattle.std.proofs.lemmas.Slice.Eq.{bytes_eq-Decides}
use Rattle.wg_tokens.specs.declared.keyword.Keyword.{Keyword}
use Rattle.wg_tokens.specs.declared.keyword.TheConstants.{SLOTS}
use Rattle.wg_tokens.specs.Spelled.{lookup, words, keyword_of, slot, if_spelled}

abbrev Entry : Type 0
Entry = List ℕ × Keyword

-- what the slot of a name leads to
abbrev by : List ℕ → Option Keyword
by name = if_spelled (slice_get words (slice_index_or SLOTS (slot name) 0)) name

-- each of these words is what its slot leads to
abbrev FoundBySlot : List Entry → Type 0
FoundBySlot es = map (λ e. by e.0) es ≡ map (λ e. Some e.1) es

each_by : FoundBySlot words
each_by = refl

step : (e : Entry) (name : List ℕ) (k : Keyword) (other : Option Keyword) (v : Bool) → bytes_eq e.0 name ≡ v → by e.0 ≡ Some e.1 → (other ≡ Some k → by name ≡ Some k)
    → (if v then Some e.1 else other) ≡ Some k → by name ≡ Some k
step e name k other true q own later h = ap by (sym ((bytes_eq-Decides e.0 name).0 q)) ∙ own ∙ h
step e name k other false q own later h = later h

found : (es : List Entry) (name : List ℕ) (k : Keyword) → FoundBySlot es → lookup es name ≡ Some k → by name ≡ Some k
found [] name k each h = absurd (cc)
found (e ∷ es) name k each h =
    let own : by e.0 ≡ Some e.1 = cc in
    let rest : FoundBySlot es = cc in
    step e name k (lookup es name) (bytes_eq e.0 name) refl own (found es name k rest) h

-- a word that an entry spells is in the table
spelled : (e : Entry) (name : List ℕ) (k : Keyword) (other : Option Keyword) (v : Bool) → (if v then Some e.1 else None) ≡ Some k → (w : Keyword) × ((if v then Some e.1 else other) ≡ Some w)
spelled e name k other true h = (e.1, refl)
spelled e name k other false h = absurd (cc)

later : (e : Entry) (other : Option Keyword) (v : Bool) → ((w : Keyword) × (other ≡ Some w)) → (w : Keyword) × ((if v then Some e.1 else other) ≡ Some w)
later e other true h = (e.1, refl)
later e other false h = h

spells : (es : List Entry) (at : ℕ) (name : List ℕ) (k : Keyword) → if_spelled (slice_get es at) name ≡ Some k → (w : Keyword) × (lookup es name ≡ Some w)
spells [] at name k h = absurd (cc)
spells (e ∷ es) zero name k h = spelled e name k (lookup es name) (bytes_eq e.0 name) h
spells (e ∷ es) (suc at) name k h = later e (lookup es name) (bytes_eq e.0 name) (spells es at name k h)

pub by_slot : (name : List ℕ) → by name ≡ keyword_of name
by_slot name = go (by name) (keyword_of name) refl refl
  where
    go : (a b : Option Keyword) → by name ≡ a → keyword_of name ≡ b → a ≡ b
    go a (Some k) p q = sym p ∙ found words name k each_by q
    go (Some k) None p q = absurd (let e = spells words (slice_index_or SLOTS (slot name) 0) name k p in let f = e.1 in cc)
    go None None p q = refl
