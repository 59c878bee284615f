-- What only adds reads nothing.
use Rattle.std.proofs.Common.{◌≡◌, ◌&&◌, Bool, true, not, List, [], ◌∷◌, refl}
use Rattle.std.specs.List.{list_all}
use Rattle.std.proofs.lemmas.Bool.{and_parts, and_from}
use Rattle.wg_typed.specs.declared.typed.Typed.{Typed}
use Rattle.wg_typed.specs.declared.typed.TypedFunction.{TypedFunction}
use Rattle.wg_additive.specs.Touch.{Touch, a_read, a_store, an_addition, an_exchange}
use Rattle.wg_additive.specs.TextTouches.{text_touches}
use Rattle.wg_additive.specs.Quiet.{reads_nothing, is_quiet}
use Rattle.wg_additive.specs.Additive.{only_adds, shares_its_input, is_additive}

an_addition_reads_nothing : (t : Touch) → only_adds t ≡ true → reads_nothing t ≡ true
an_addition_reads_nothing a_read e = e
an_addition_reads_nothing a_store e = refl
an_addition_reads_nothing an_addition e = refl
an_addition_reads_nothing an_exchange e = e

additions_read_nothing : (touches : List Touch) → list_all only_adds touches ≡ true → list_all reads_nothing touches ≡ true
additions_read_nothing [] e = refl
additions_read_nothing (t ∷ rest) e =
    let parts = and_parts (only_adds t) (list_all only_adds rest) e in
    and_from (reads_nothing t) (list_all reads_nothing rest) (an_addition_reads_nothing t parts.0) (additions_read_nothing rest parts.1)

pub quiet_if_additive : (coalesces : TypedFunction → Bool) (text : Typed) → is_additive coalesces text ≡ true → is_quiet text ≡ true
quiet_if_additive coalesces text e =
    let alone = list_all (λ (f : TypedFunction). not (coalesces f)) text.functions in
    let unshared = list_all (λ (f : TypedFunction). not (shares_its_input f)) text.functions in
    additions_read_nothing (text_touches text) (and_parts (alone && unshared) (list_all only_adds (text_touches text)) e).1
