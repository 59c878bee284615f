-- Sites at which no rule is broken.
use Rattle.std.proofs.Common.{◌≡◌, Bool, true, false, List, [], ◌∷◌, ◌++◌, inl, inr, refl}
use Rattle.wg_words.specs.declared.place.Place.{Place}
use Rattle.wg_typing.specs.Sites.{Sites, only, ◌&◌, within, In, at_if}
use Rattle.wg_typing.specs.Site.{Site}
use Rattle.wg_typing.specs.Typing.{places, BrokenAt}
use Rattle.wg_typing.specs.declared.event.Region.{Region}
use Rattle.wg_typing.specs.declared.fault.TypingRule.{TypingRule}

-- no place
abbrev pub Empty : List Place → Type 0
Empty [] = Unit {0}
Empty (p ∷ rest) = ⊥

none_in : (xs : List Place) → ((p : Place) → In xs p → ⊥) → Empty xs
none_in [] h = tt
none_in (p ∷ rest) h = h p (inl refl)

pub empty_left : (xs ys : List Place) → Empty (xs ++ ys) → Empty xs
empty_left [] ys h = tt
empty_left (p ∷ xs) ys h = h

pub empty_right : (xs ys : List Place) → Empty (xs ++ ys) → Empty ys
empty_right [] ys h = h
empty_right (p ∷ xs) ys h = absurd h

pub is_false : (b : Bool) (p : Place) → Empty (at_if b p) → b ≡ false
is_false true p h = absurd h
is_false false p h = refl

-- no rule is broken at the sites
pub record Well (all : Sites Site) : Type 0 where
  pub well : (rule : TypingRule) (p : Place) → BrokenAt rule p all → ⊥

pub well_left : {a b : Sites Site} → Well (a & b) → Well a
well_left h = record { well = λ rule p q. h.well rule p (record { site = q.site; stands = inl q.stands; breaks = q.breaks }) }

pub well_right : {a b : Sites Site} → Well (a & b) → Well b
well_right h = record { well = λ rule p q. h.well rule p (record { site = q.site; stands = inr q.stands; breaks = q.breaks }) }

pub well_within : {r : Region} {a : Sites Site} → Well (within r a) → Well a
well_within h = record { well = λ rule p q. h.well rule p (record { site = q.site; stands = q.stands; breaks = q.breaks }) }

pub well_only : {s : Site} → Well (only s) → (rule : TypingRule) → Empty (places rule s)
well_only {s} h rule = none_in (places rule s) (λ p i. h.well rule p (record { site = s; stands = refl; breaks = i }))
