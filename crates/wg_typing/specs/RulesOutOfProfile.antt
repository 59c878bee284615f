-- OutOfProfile: a called entry function (the name), an entry function with a result (its name), an object out of its place or of
-- a record type that is no struct (its word), a `break` or `continue` outside the body of a loop (that word). Own.
use Rattle.std.specs.Prelude.{Bool, false, not, ◌||◌, is_none, List, [], ◌∷◌, Option, Some, None}
use Rattle.wg_words.specs.declared.place.Place.{Place}
use Rattle.wg_typing.specs.TypingHandle.{struct_number}
use Rattle.wg_typing.specs.Sites.{at_if}
use Rattle.wg_typing.specs.Site.{Site, AtCall, AtJump, AtObject, AtFunction}
use Rattle.wg_typed.specs.declared.types.TypeTree.{TypeTree}
use Rattle.wg_typing.specs.declared.context.Around.{Around}
use Rattle.wg_typing.specs.declared.called.CalledName.{CalledName}
use Rattle.wg_typing.specs.declared.context.Around.TheVariants as surrounding
use Rattle.wg_typing.specs.declared.called.CalledName.TheVariants as called_name

abbrev pub entry_called : Place → CalledName → List Place
entry_called name (called_name.Plain number result parameters chain) = []
entry_called name called_name.Entry = name ∷ []
entry_called name called_name.Itself = []
entry_called name (called_name.Builtin b) = []
entry_called name called_name.Broken = []
entry_called name called_name.Unknown = []

abbrev pub is_no_record : Option TypeTree → Bool
is_no_record (Some of) = is_none (struct_number of)
is_no_record None = false

abbrev pub gives_from_entry : Around → Bool → Bool
gives_from_entry (surrounding.Entry lanes) has_result = has_result
gives_from_entry surrounding.Plain has_result = false
gives_from_entry surrounding.Const has_result = false
gives_from_entry (surrounding.Attribute allowed) has_result = false

abbrev pub out_of_profile : Site → List Place
out_of_profile (AtCall around name k parts) = entry_called name k
out_of_profile (AtJump looped place) = at_if (not looped) place
out_of_profile (AtObject allowed of record_type) = at_if (not allowed || is_no_record record_type) of.place
out_of_profile (AtFunction name around u has_result events) = at_if (gives_from_entry around has_result) name.place
out_of_profile _ = []
