-- Forms one by one from the left are those of the definitions.
use Rattle.std.proofs.Common.{◌≡◌, Bool, true, false, is_none, if◌then◌else◌, List, [], ◌∷◌, Option, Some, None, refl, ap, ◌∙◌}
use Rattle.wg_words.specs.declared.place.Place.{Place}
use Rattle.wg_words.specs.Maybe.{◌>>=◌}
use Rattle.wg_tree.specs.declared.expr.Expr.TheOpen.{Expr-F}
use Rattle.wg_typing.specs.Layers.{map_form}
use Rattle.wg_typing.specs.Scope.{Context}
use Rattle.wg_typing.specs.Site.{AtUsed}
use Rattle.wg_typing.specs.Sites.{nowhere, only}
use Rattle.wg_typing.specs.TypingCalled.{form_called, last_called}
use Rattle.wg_typing.specs.TypingExpr.{ExprForm, part_of, form_after, used_before, forms_sites, layer_part}
use Rattle.wg_typing.specs.TypingFlags.{another}
use Rattle.wg_typing.specs.TypingForms.{begun, form_on, forms_on, postfix_value}
use Rattle.wg_typing.specs.declared.part.Along.{Along}
use Rattle.wg_typing.specs.declared.part.FormLayer.{FormLayer}
use Rattle.wg_typing.specs.declared.part.NamedCall.{NamedCall}
use Rattle.wg_typing.specs.declared.part.Part.{Part}
use Rattle.wg_notes.specs.Notes.{noted, noted_at}
use Rattle.wg_notes.specs.declared.notes.Note.{Note}
use Rattle.wg_forms.specs.Forms.{called_by, formed, formed_on, formed_begun, formed_of, formed_part, broken_before, more_sites, finished}
use Rattle.wg_forms.specs.declared.formed.Formed.{Formed}

-- ---- what they give

nothing_after : (c : Context) (place : Place) (rest : List (FormLayer Part)) (called : Option NamedCall) → (formed c (record { place = place; along = None; called = called }) rest).along ≡ None
nothing_after c place [] called = refl
nothing_after c place (f ∷ rest) called = nothing_after c place rest None

along_is : (c : Context) (place : Place) (forms : List (FormLayer Part)) (a : Option Along) (called : Option NamedCall)
    → (formed c (record { place = place; along = a; called = called }) forms).along ≡ (a >>= (λ a. forms_on c place a forms))
along_is c place forms None called = nothing_after c place forms called
along_is c place [] (Some a) called = refl
along_is c place (f ∷ rest) (Some a) called = along_is c place rest (form_on c place a f) _

-- ---- the call of the last

none_called : (c : Context) (place : Place) (rest : List (FormLayer Part)) → (formed c (record { place = place; along = None; called = None }) rest).called ≡ None
none_called c place [] = refl
none_called c place (f ∷ rest) = none_called c place rest

one_called : (c : Context) (place : Place) (f : FormLayer Part) (rest : List (FormLayer Part)) (a : Option Along) (called : Option NamedCall)
    → (formed c (record { place = place; along = a; called = called }) (f ∷ rest)).called ≡ last_called c place a (f ∷ rest)
one_called c place f rest None called = none_called c place rest
one_called c place f [] (Some a) called = refl
one_called c place f (g ∷ rest) (Some a) called = one_called c place g rest (form_on c place a f) (form_called a f)

called_is : (c : Context) (place : Place) (forms : List (FormLayer Part)) (a : Option Along)
    → (formed c (record { place = place; along = a; called = None }) forms).called ≡ last_called c place a forms
called_is c place [] None = refl
called_is c place [] (Some a) = refl
called_is c place (f ∷ rest) a = one_called c place f rest a None

-- ---- the whole

place_is : (c : Context) (forms : List (FormLayer Part)) (s : Formed) → (formed c s forms).place ≡ s.place
place_is c [] s = refl
place_is c (f ∷ rest) s = place_is c rest (formed_on c s f)

whole_is : (c : Context) (first : Part) (forms : List (FormLayer Part)) (s : Formed)
    → s.place ≡ first.place → s.along ≡ (begun first >>= (λ a. forms_on c first.place a forms)) → s.called ≡ last_called c first.place (begun first) forms
    → formed_part s ≡ layer_part c (Expr-F.Postfix first forms)
whole_is c first forms s p a q =
    ap (λ place. record { place = place; value = finished place s.along; by_name = s.called; pieces = another (finished place s.along) }) p
    ∙ ap (λ along. record { place = first.place; value = finished first.place along; by_name = s.called; pieces = another (finished first.place along) }) a
    ∙ ap (λ call. record { place = first.place; value = postfix_value c first.place first forms; by_name = call; pieces = another (postfix_value c first.place first forms) }) q

pub part_is : (c : Context) (s : Formed) (first : Part) (forms : List (FormLayer Part)) → s ≡ formed_of c first forms → formed_part s ≡ layer_part c (Expr-F.Postfix first forms)
part_is c s first forms q =
    ap formed_part q
    ∙ whole_is c first forms (formed_of c first forms) (place_is c forms (formed_begun first)) (along_is c first.place forms (begun first) None) (called_is c first.place forms (begun first))

-- ---- what is noted of them

then_used : (c : Context) (place : Place) (a : Option Along) (called : Option NamedCall) (f : FormLayer Part) (g : FormLayer ExprForm) (rest : List (FormLayer ExprForm)) (old : List Note)
    → noted_at (AtUsed (broken_before (formed_on c (record { place = place; along = a; called = called }) f))) old ≡ noted (used_before c place a f (g ∷ rest)) old
then_used c place None called f g rest old = refl
then_used c place (Some a) called f g rest old = each (is_none (form_on c place a f)) _
  where
    each : (b : Bool) (call : Option NamedCall) → noted_at (AtUsed (if b then call else None)) old ≡ noted (if b then only (AtUsed call) else nowhere) old
    each true call = refl
    each false call = refl

none_used : (c : Context) (place : Place) (a : Option Along) (f : FormLayer Part) (old : List Note) → old ≡ noted (used_before c place a f []) old
none_used c place None f old = refl
none_used c place (Some a) f old = refl

-- each form begins with what stands before it, where the definitions end with it
one_noted : (c : Context) (place : Place) (rest : List (FormLayer ExprForm)) (f : FormLayer ExprForm) (a : Option Along) (called : Option NamedCall) (old : List Note)
    → noted (more_sites c (record { place = place; along = a; called = called }) (f ∷ rest)) old ≡ noted (forms_sites c place a (f ∷ rest)) (noted_at (AtUsed (broken_before (record { place = place; along = a; called = called }))) old)
one_noted c place [] f a called old = none_used c place a (map_form part_of f) _
one_noted c place (g ∷ rest) f a called old =
    one_noted c place rest g (form_after c place a (map_form part_of f)) (called_by a (map_form part_of f)) _
    ∙ ap (λ n. noted (forms_sites c place (form_after c place a (map_form part_of f)) (g ∷ rest)) n) (then_used c place a called (map_form part_of f) g rest _)

uncalled : (a : Option Along) (old : List Note) → noted_at (AtUsed (if is_none a then None else None)) old ≡ old
uncalled None old = refl
uncalled (Some a) old = refl

all_noted : (c : Context) (place : Place) (forms : List (FormLayer ExprForm)) (a : Option Along) (old : List Note)
    → noted (more_sites c (record { place = place; along = a; called = None }) forms) old ≡ noted (forms_sites c place a forms) old
all_noted c place [] a old = refl
all_noted c place (f ∷ rest) a old = one_noted c place rest f a None old ∙ ap (λ n. noted (forms_sites c place a (f ∷ rest)) n) (uncalled a old)

pub sites_are : (c : Context) (first : Part) (forms : List (FormLayer ExprForm)) (old : List Note)
    → noted (more_sites c (formed_begun first) forms) old ≡ noted (forms_sites c first.place (begun first) forms) old
sites_are c first forms old = all_noted c first.place forms (begun first) old
