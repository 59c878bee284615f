-- Sites at which no rule is broken.
use Rattle.std.proofs.Common.{inl, inr, refl}
use Rattle.wg_words.specs.declared.place.Place.{Place}
use Rattle.wg_typing.specs.Sites.{Sites, only, ◌&◌, within}
use Rattle.wg_typing.specs.Site.{Site}
use Rattle.wg_typing.specs.Typing.{places, BrokenAt}
use Rattle.wg_typing.proofs.Facts.{Empty, none_in}
use Rattle.wg_typing.specs.declared.fault.TypingRule.{TypingRule}
use Rattle.wg_typing.specs.declared.event.Region.{Region}

-- a site breaks no rule
pub record Clear (s : Site) : Type 0 where
  pub clear : (rule : TypingRule) → Empty (places rule s)

-- no site of these breaks a rule
pub record Well (all : Sites Site) : Type 0 where
  pub well : (rule : TypingRule) (p : Place) → BrokenAt rule p all → ⊥

pub well_left : {a b : Sites Site} → Well (a & b) → Well a
well_left h = record { well = λ rule p q. h.well rule p (record { site = q.site; stands = inl q.stands; breaks = q.breaks }) }

pub well_right : {a b : Sites Site} → Well (a & b) → Well b
well_right h = record { well = λ rule p q. h.well rule p (record { site = q.site; stands = inr q.stands; breaks = q.breaks }) }

pub well_only : {s : Site} → Well (only s) → Clear s
well_only {s} h = record { clear = λ rule. none_in (places rule s) (λ p i. h.well rule p (record { site = s; stands = refl; breaks = i })) }

pub well_within : {r : Region} {a : Sites Site} → Well (within r a) → Well a
well_within h = record { well = λ rule p q. h.well rule p (record { site = q.site; stands = q.stands; breaks = q.breaks }) }
