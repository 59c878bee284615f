-- What a text can do to words of a shared buffer. Own.
use Rattle.std.specs.Prelude.{Bool, true, false, if◌then◌else◌, List, [], ◌∷◌, ◌++◌, Option, Some, None}
use Rattle.wg_typed.specs.declared.typed_stmt.InterlockedForm.{InterlockedForm}
use Rattle.wg_typed.specs.declared.typed_stmt.InterlockedForm.TheVariants as form

pub data Touch : Type 0 where
  a_read : Touch
  a_store : Touch
  -- `InterlockedAdd` that does not give the old word
  an_addition : Touch
  -- any other interlocked form
  an_exchange : Touch

-- whether a form asks for the old word
abbrev pub form_touch : InterlockedForm → Bool → Touch
form_touch form.Add false = an_addition
form_touch form.Add true = an_exchange
form_touch form.Min old = an_exchange
form_touch form.Max old = an_exchange
form_touch form.And old = an_exchange
form_touch form.Or old = an_exchange
form_touch form.Xor old = an_exchange
form_touch form.Exchange old = an_exchange
form_touch form.CompareExchange old = an_exchange
form_touch form.CompareStore old = an_exchange

-- what each part does, one after another
abbrev pub joined : List (List Touch) → List Touch
joined [] = []
joined (touches ∷ rest) = touches ++ joined rest

-- nothing where there is no such part
abbrev pub if_any : Option (List Touch) → List Touch
if_any None = []
if_any (Some touches) = touches

-- at a place in a buffer alone
abbrev pub where_in_buffer : Bool → List Touch → List Touch
where_in_buffer in_buffer touches = if in_buffer then touches else []
