-- Mismatch: a type that does not convert, by the places at which a site breaks the rule; the first token of what does not, or the called name
-- of arguments that do not fit together. Own.
use Rattle.std.specs.Prelude.{ℕ, Bool, not, ◌&&◌, is_some, is_none, List, [], ◌∷◌, ◌++◌, Option, Some, None, if◌then◌else◌}
use Rattle.wg_words.specs.declared.place.Place.{Place}
use Rattle.wg_typing.specs.Conversions.{is_word, type_of, fits, is_number, class_of, suits, operation_on}
use Rattle.wg_typing.specs.TypingHandle.{handle_word, request_in}
use Rattle.wg_typing.specs.Sites.{at_if}
use Rattle.wg_typing.specs.RulesShared.{no_value, no_value_in}
use Rattle.wg_typing.specs.TypingActs.{is_plain_act}
use Rattle.wg_typing.specs.Site.{Site, AtNamed, AtValue, AtArgument, AtNumber, AtGoal, AtSuited, AtTogether, AtComponent, AtResults, AtDestination, AtWord, AtFlags, AtForm, AtLink, AtConst, AtStart, AtUpdate, AtAlone, AtHandle, AtReturn, AtSize}
use Rattle.wg_typing.specs.RulesMismatchExpr.{unfit_name, unfit_form, unfit_results, clash_on}
use Rattle.wg_typing.specs.RulesMismatchCall.{passes, unfit_together, unfit_flags}
use Rattle.wg_typing.specs.PartSites.{is_typed}
use Rattle.wg_typing.specs.TypingIntrinsic.{argument_suits}
use Rattle.wg_typing.specs.TypingConstructor.{makes}
use Rattle.wg_tree.specs.declared.expr.BinaryOperator.{BinaryOperator}
use Rattle.wg_typed.specs.declared.types.ConstValue.{ConstValue}
use Rattle.wg_typing.specs.declared.scope.Act.TheVariants as act
use Rattle.wg_typing.specs.declared.scope.Value.{Value}
use Rattle.wg_typing.specs.declared.scope.Value.TheVariants as value
use Rattle.wg_typing.specs.AttributeArguments.{is_narrow}
use Rattle.wg_typing.specs.declared.numbers.Operation.{Operation}
use Rattle.wg_typing.specs.declared.context.GivesBack.{GivesBack}
use Rattle.wg_typing.specs.declared.part.Part.{Part}
use Rattle.wg_typing.specs.declared.part.TypedPart.{TypedPart}
use Rattle.wg_typing.specs.declared.context.GivesBack.TheVariants as gives_back

-- an expression that has a type and is no `const`, which the grammar spells nowhere that one is wanted
abbrev pub unfit_const : Option ConstValue → Part → List Place
unfit_const (Some v) p = []
unfit_const None p = at_if (is_typed p) p.place

-- the size of an array, which is an `int` or a `uint`
abbrev pub wide_size : Place → Option ConstValue → List Place
wide_size place (Some v) = at_if (not (is_narrow v)) place
wide_size place None = []

-- `target op= value`
abbrev pub unfit_back : TypedPart → TypedPart → Option Operation → List Place
unfit_back target v (Some o) = at_if (not (fits (type_of o.result) target.of)) v.place
unfit_back target v None = []

abbrev pub both_suit : BinaryOperator → TypedPart → TypedPart → Bool
both_suit operator a b = suits (class_of operator) a.of && suits (class_of operator) b.of

abbrev pub unfit_update : BinaryOperator → TypedPart → TypedPart → List Place
unfit_update operator target v =
    clash_on target.place operator target.place target.of v
    ++ (if both_suit operator target v then unfit_back target v (operation_on operator target.of v.of) else [])

-- a statement by itself may be a call without a value
abbrev pub unfit_alone : Place → Option Value → List Place
unfit_alone place (Some (value.Typed of standing tree)) = []
unfit_alone place (Some (value.Object object element)) = place ∷ []
unfit_alone place (Some (value.Act name a)) = []
unfit_alone place (Some (value.Text bytes)) = place ∷ []
unfit_alone place None = []

-- the start value of a handle: a request of its object and record type
abbrev pub unfit_handle : Option Bool → Option ℕ → Place → Option Value → List Place
unfit_handle group number place (Some (value.Typed of standing tree)) = at_if (is_some number) place
unfit_handle group number place (Some (value.Object object element)) = place ∷ []
unfit_handle group number place (Some (value.Act name (act.Request of_group output record_type element amount))) =
    at_if (is_some number && is_none (request_in group number (Some (value.Act name (act.Request of_group output record_type element amount))))) place
unfit_handle group number place (Some (value.Act name a)) = at_if (is_plain_act a) place
unfit_handle group number place (Some (value.Text bytes)) = place ∷ []
unfit_handle group number place None = []

-- a value where nothing is given back, or none where one is
abbrev pub unfit_return : GivesBack → Place → Option Part → List Place
unfit_return gives_back.Nothing place None = []
unfit_return gives_back.Nothing place (Some p) = at_if (is_typed p) p.place
unfit_return (gives_back.Value of) place None = place ∷ []
unfit_return (gives_back.Value of) place (Some p) = []
unfit_return gives_back.Unsure place p = []

abbrev pub mismatch : Site → List Place
mismatch (AtNamed around name m) = unfit_name around name m
mismatch (AtValue around p) = no_value_in around p
mismatch (AtArgument a t) = at_if (not (passes a t)) t.place
mismatch (AtNumber t) = at_if (not (is_number t.of)) t.place
mismatch (AtGoal goal t) = at_if (not (fits t.of goal)) t.place
mismatch (AtSuited r t) = at_if (not (argument_suits r t.of)) t.place
mismatch (AtTogether name i ts) = unfit_together name i ts
mismatch (AtComponent size t) = at_if (not (makes size t.of)) t.place
mismatch (AtResults whole a b) = unfit_results whole a b
mismatch (AtDestination t) = at_if (not (is_word t.of)) t.place
mismatch (AtWord t) = at_if (not (is_word t.of)) t.place
mismatch (AtFlags c name parts) = unfit_flags c parts
mismatch (AtForm c place a f) = unfit_form place a f
mismatch (AtLink whole before operator t) = clash_on whole operator whole before t
mismatch (AtConst v p) = unfit_const v p
mismatch (AtStart goal p) = no_value p
mismatch (AtUpdate operator target v) = unfit_update operator target v
mismatch (AtAlone c header p) = unfit_alone p.place p.value
mismatch (AtHandle c of name number p) = unfit_handle (handle_word of) number p.place p.value
mismatch (AtReturn g place p) = unfit_return g place p
mismatch (AtSize name place v) = wide_size place v
mismatch _ = []
