-- Parts that have to be values, and contexts whose names stand.
use Rattle.wg_typing.specs.RulesShared.{no_value, no_value_in}
use Rattle.wg_typing.specs.Scope.{Context}
use Rattle.wg_typing.specs.Site.{AtValue}
use Rattle.wg_typing.specs.declared.context.Around.{Around}
use Rattle.wg_typing.specs.declared.context.Around.TheVariants as surrounding
use Rattle.wg_typing.specs.declared.fault.TypingRule.TheVariants.{Mismatch, BadBarrier, BadOutputCall}
use Rattle.wg_typing.specs.declared.part.Part.{Part}
use Rattle.wg_typing.proofs.Facts.{Empty}
use Rattle.wg_typing.proofs.Names.{AllStand, NoneAllowed}
use Rattle.wg_typing.proofs.Parts.{IsTyped, Whole, part_typed}
use Rattle.wg_typing.proofs.Sites.{Clear}

-- a context whose names stand and in which each name has a value
pub record Sound (c : Context) : Type 0 where
  pub names : AllStand c.names
  pub values : NoneAllowed c.around

-- outside attributes a string is no value
stays : (around : Around) (p : Part) → NoneAllowed around → Empty (no_value_in around p) → Empty (no_value p)
stays (surrounding.Entry lanes) p n e = e
stays surrounding.Plain p n e = e
stays surrounding.Const p n e = e
stays (surrounding.Attribute allowed) p n e = absurd n

pub value_is_typed : (around : Around) (p : Part) → NoneAllowed around → Whole p → Clear (AtValue around p) → IsTyped p
value_is_typed around p n w k = part_typed p w (stays around p n (k.clear Mismatch)) (k.clear BadOutputCall) (k.clear BadBarrier)
