-- A name in a table of two parts.
use Rattle.std.proofs.Common.{◌≡◌, ℕ, Bool, true, false, cond, List, [], ◌∷◌, ◌++◌, take, drop, Option, Some, refl, sym, ap, ap₂, ◌∙◌}
use Prim.Native.String.{String}
use Rattle.std.specs.Option.{option_or}
use Rattle.wg_typing.specs.AttributeNames.{attribute_names, named_in}
use Rattle.wg_typing.specs.Named.{is_called}
use Rattle.wg_typing.specs.declared.attribute.AttributeName.{AttributeName}

or_past : (b : Bool) (n : AttributeName) (r other : Option AttributeName) → cond b (Some n) (option_or r other) ≡ option_or (cond b (Some n) r) other
or_past true n r other = refl
or_past false n r other = refl

named_apart : (xs ys : List (String × AttributeName)) (name : List ℕ) → named_in (xs ++ ys) name ≡ option_or (named_in xs name) (named_in ys name)
named_apart [] ys name = refl
named_apart (x ∷ xs) ys name =
    ap (λ r. cond (is_called x.0 name) (Some x.1) r) (named_apart xs ys name) ∙ or_past (is_called x.0 name) x.1 (named_in xs name) (named_in ys name)

pub named_either : (name : List ℕ) (a b r : Option AttributeName) → a ≡ named_in (take 8 attribute_names) name → b ≡ named_in (drop 8 attribute_names) name → r ≡ option_or a b → r ≡ named_in attribute_names name
named_either name a b r p q h = h ∙ (ap₂ option_or p q ∙ sym (named_apart (take 8 attribute_names) (drop 8 attribute_names) name))
