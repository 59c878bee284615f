-- When a text is well typed, and its typed form. The rules are those of this project's profile of HLSL, with its own numbers.
use Rattle.std.specs.Prelude.{ℕ, List, Option}
use Rattle.wg_words.specs.declared.place.Place.{Place}
use Rattle.wg_typing.specs.Sites.{Sites, Among, In}
use Rattle.wg_typing.specs.Site.{Site}
use Rattle.wg_typing.specs.TypingText.{no_text, items_sites, items_after, text_tree}
use Rattle.wg_typing.specs.RulesUnknownName.{unknown_name}
use Rattle.wg_typing.specs.RulesRepeated.{repeated}
use Rattle.wg_typing.specs.RulesRecursion.{recursion}
use Rattle.wg_typing.specs.RulesOutOfProfile.{out_of_profile}
use Rattle.wg_typing.specs.RulesMismatch.{mismatch}
use Rattle.wg_typing.specs.RulesNotAssignable.{not_assignable}
use Rattle.wg_typing.specs.RulesWrongArity.{wrong_arity}
use Rattle.wg_typing.specs.RulesLimitPassed.{limit_passed}
use Rattle.wg_typing.specs.RulesBadBarrier.{bad_barrier}
use Rattle.wg_typing.specs.RulesBadOutputCall.{bad_output_call}
use Rattle.wg_typing.specs.RulesNotCompleted.{not_completed}
use Rattle.wg_tree.specs.declared.item.Source.{Source}
use Rattle.wg_typed.specs.declared.typed.Typed.{Typed}
use Rattle.wg_typing.specs.declared.fault.TypingRule.{TypingRule}
use Rattle.wg_typing.specs.declared.fault.TypingRule.TheVariants.{UnknownName, Repeated, Mismatch, NotAssignable, Recursion, LimitPassed, BadBarrier, BadOutputCall, NotCompleted, WrongArity, OutOfProfile}

abbrev pub typing_number : TypingRule → ℕ
typing_number UnknownName = 301
typing_number Repeated = 302
typing_number Mismatch = 303
typing_number NotAssignable = 304
typing_number Recursion = 305
typing_number LimitPassed = 306
typing_number BadBarrier = 307
typing_number BadOutputCall = 308
typing_number NotCompleted = 309
typing_number WrongArity = 310
typing_number OutOfProfile = 311

-- the places at which a site breaks a rule
abbrev pub places : TypingRule → Site → List Place
places UnknownName = unknown_name
places Repeated = repeated
places Mismatch = mismatch
places NotAssignable = not_assignable
places Recursion = recursion
places LimitPassed = limit_passed
places BadBarrier = bad_barrier
places BadOutputCall = bad_output_call
places NotCompleted = not_completed
places WrongArity = wrong_arity
places OutOfProfile = out_of_profile

-- the sites of a text
abbrev pub sites : Source → Sites Site
sites tree = items_sites no_text tree.items

-- the rule is broken at the place, at one of these sites
pub record BrokenAt (rule : TypingRule) (p : Place) (all : Sites Site) : Type 0 where
  pub site : Site
  pub stands : Among all site
  pub breaks : In (places rule site) p

-- The tree breaks the rule at the place.
abbrev pub Breaks : TypingRule → Place → Source → Type 0
Breaks rule p tree = BrokenAt rule p (sites tree)

-- no rule is broken anywhere
pub record IsWellTyped (tree : Source) : Type 0 where
  pub unbroken : (rule : TypingRule) (p : Place) → Breaks rule p tree → ⊥

-- the tree with names resolved and conversions written
abbrev pub typed : Source → Option Typed
typed tree = text_tree (items_after no_text tree.items)
