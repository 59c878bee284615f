-- What is kept of the attributes before one.
use Rattle.std.proofs.Common.{◌≡◌, ℕ, Bool, true, false, cond, List, [], ◌∷◌, ◌++◌, map, Option, Some, refl, sym, ap, ap₂, ◌∙◌}
use Rattle.std.proofs.lemmas.List.{map-append}
use Rattle.std.specs.Prelude.{◌||◌, is_some, if◌then◌else◌}
use Rattle.std.specs.List.{list_any}
use Rattle.std.specs.Str.{bytes_eq}
use Rattle.wg_text.specs.Names.{found_in}
use Rattle.wg_typing.specs.AttributeNames.{standing}
use Rattle.wg_typing.specs.AttributeSites.{Position}
use Rattle.wg_typing.specs.AttributeTwice.{clashes, clashes_among, any_rival, rival_names, small_name}
use Rattle.wg_typing.specs.Named.{is_among}
use Rattle.wg_typed.specs.declared.typed_stmt.TypedAttribute.{TypedAttribute}
use Rattle.wg_typing.specs.declared.attribute.AttributeName.{AttributeName}
use Rattle.wg_attribute_rules.specs.declared.before.Before.{Before}
use Rattle.wg_attribute_rules.specs.Before.{Keeps, rival_stood}

among_push : (names : List (List ℕ)) (x name : List ℕ) → is_among (names ++ x ∷ []) name ≡ (bytes_eq x name || is_among names name)
among_push [] x name = refl
among_push (y ∷ names) x name = ap (λ r. bytes_eq y name || r) (among_push names x name) ∙ swapped (bytes_eq y name) (bytes_eq x name) (is_among names name)
  where
    swapped : (a b r : Bool) → (a || (b || r)) ≡ (b || (a || r))
    swapped true true r = refl
    swapped true false r = refl
    swapped false true r = refl
    swapped false false r = refl

found_or : {X : Type 0} (b : Bool) (x : X) (r : Option X) → is_some (cond b (Some x) r) ≡ (b || is_some r)
found_or true x r = refl
found_or false x r = refl

rival_push : (stood : List (Option AttributeName)) (x name : Option AttributeName) → any_rival name (stood ++ x ∷ []) ≡ (any_rival name stood || rival_names x name)
rival_push [] x name = last (rival_names x name)
  where
    last : (b : Bool) → (b || false) ≡ b
    last true = refl
    last false = refl
rival_push (y ∷ stood) x name = ap (λ r. rival_names y name || r) (rival_push stood x name) ∙ joined (rival_names y name) (any_rival name stood) (rival_names x name)
  where
    joined : (a b r : Bool) → (a || (b || r)) ≡ ((a || b) || r)
    joined true b r = refl
    joined false b r = refl

pub clashed : (a : TypedAttribute) (name : Option AttributeName) (b : Before) (found rival : Bool) (small : List ℕ) → small ≡ small_name a → found ≡ is_some (found_in b.names small) → rival ≡ rival_stood b.stood name
    → ((position : Position) (before : List TypedAttribute) → list_any (clashes position a) before ≡ clashes_among position (map small_name before) (map (standing position) before) a)
    → (position : Position) (before : List TypedAttribute) → Keeps position before b → name ≡ standing position a → (found || rival) ≡ list_any (clashes position a) before
clashed a name b found rival small e f r law position before k s =
    ap₂ (λ x y. x || y)
    (f ∙ (ap (λ n. is_some (found_in b.names n)) e ∙ k.names (small_name a)))
    (r ∙ (k.rivals name ∙ ap (λ n. any_rival n (map (standing position) before)) s))
    ∙ sym (law position before)

pub kept : (a : TypedAttribute) (name : Option AttributeName) (old new : Before) (small : List ℕ) → small ≡ small_name a
    → ((other : List ℕ) → found_in new.names other ≡ (if bytes_eq small other then Some tt else found_in old.names other))
    → ((other : Option AttributeName) → rival_stood new.stood other ≡ (rival_stood old.stood other || rival_names name other))
    → (position : Position) (before : List TypedAttribute) → Keeps position before old → name ≡ standing position a → Keeps position (before ++ a ∷ []) new
kept a name old new small e f r position before k s = record {
  names = λ other.
      ap is_some (f other)
      ∙ (found_or (bytes_eq small other) tt (found_in old.names other)
      ∙ (ap₂ (λ x y. x || y) (ap (λ n. bytes_eq n other) e) (k.names other)
      ∙ (sym (among_push (map small_name before) (small_name a) other)
      ∙ sym (ap (λ l. is_among l other) (map-append small_name before (a ∷ []))))));
  rivals = λ other.
      r other
      ∙ (ap₂ (λ x y. x || y) (k.rivals other) (ap (λ n. rival_names n other) s)
      ∙ (sym (rival_push (map (standing position) before) (standing position a) other)
      ∙ sym (ap (any_rival other) (map-append (standing position) before (a ∷ [])))));
}
