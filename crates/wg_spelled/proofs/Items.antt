-- Texts that are spelled are written with vectors of 2 to 4 components and numbers below 2 ^ 64.
use Rattle.std.proofs.Common.{◌≡◌, ℕ, true, List, [], ◌∷◌, refl}
use Rattle.std.specs.Prelude.{◌==◌}
use Rattle.wg_facts.specs.Tests.{every}
use Rattle.wg_facts.proofs.Basics.{both}
use Rattle.wg_grammar.specs.Productions.{Production, give, list, sub, ◌<*>◌, ◌<$>◌, ◌<*◌, ◌*>◌, ◌<|>◌, Rules}
use Rattle.wg_limits.specs.Vectors.{type_written, buffer_written, result_written, parameter_written, parameters_written, item_written, source_written}
use Rattle.wg_spelled.specs.Numbers.{AllFit}
use Rattle.wg_spelled.proofs.Yields.{Any, Y, y_give, y_either, y_list, RulesYield, y_any, y_map, y_skip, y_keep, y_two, y_four, y_five}
use Rattle.wg_spelled.proofs.Exprs.{W, expr_is}
use Rattle.wg_spelled.proofs.Stmts.{WT, WB, y_type, y_type_argument, deeper_yields}
use Rattle.wg_tokens.specs.Classes.{of_word, class}
use Rattle.wg_tokens.specs.declared.keyword.Keyword.TheVariants as k
use Rattle.wg_tokens.specs.declared.mark.Mark.TheVariants as sign
use Rattle.wg_tokens.specs.declared.token.Token.{Token}
use Rattle.wg_tree.specs.Depths.{Depth}
use Rattle.wg_tree.specs.GrammarExpr.{constant, argument, mark, word, name, one_of}
use Rattle.wg_tree.specs.GrammarItem.{Outer, a_const, an_argument, a_block, Outers, attributes, semantic, field, struct_item, a_buffer_type, registers, coherent, buffer_item, shared_item, constant_item, a_result, some_direction, a_parameter_type, a_parameter, next_parameter, some_parameters, parameters, function_item, an_item, text, outermost, outer_rules, Spells}
use Rattle.wg_tree.specs.GrammarStmt.{a_type, type_argument, object, record_objects, size_of}
use Rattle.wg_tree.specs.declared.item.BufferType.{BufferType}
use Rattle.wg_tree.specs.declared.item.BufferType.TheVariants as buffer_type
use Rattle.wg_tree.specs.declared.item.Field.{Field}
use Rattle.wg_tree.specs.declared.item.Item.{Item}
use Rattle.wg_tree.specs.declared.item.Item.TheVariants as item
use Rattle.wg_tree.specs.declared.item.Parameter.{Parameter}
use Rattle.wg_tree.specs.declared.item.ParameterType.{ParameterType}
use Rattle.wg_tree.specs.declared.item.ParameterType.TheVariants as parameter_type
use Rattle.wg_tree.specs.declared.item.ResultType.{ResultType}
use Rattle.wg_tree.specs.declared.item.ResultType.TheVariants as result_type
use Rattle.wg_tree.specs.declared.item.Source.{Source}

abbrev WF : Field → Type 0
WF f = type_written f.of ≡ true

abbrev AllF : List Field → Type 0
AllF fs = every (λ (f : Field). type_written f.of) fs ≡ true

abbrev WBuffer : BufferType → Type 0
WBuffer of = buffer_written of ≡ true

abbrev WResult : ResultType → Type 0
WResult of = result_written of ≡ true

abbrev WKind : ParameterType → Type 0
WKind of = parameter_written of ≡ true

abbrev WP : Parameter → Type 0
WP p = parameter_written p.of ≡ true

abbrev AllP : List Parameter → Type 0
AllP ps = parameters_written ps ≡ true

abbrev WI : Item → Type 0
WI i = item_written i ≡ true

abbrev AllI : List Item → Type 0
AllI xs = every item_written xs ≡ true

module _ (room : ℕ) where
  abbrev R : Rules Token Depth Outer Outers
  R = outer_rules room

  abbrev OuterIs : (n : Outer) → Outers n → Type 0
  OuterIs a_const x = W x
  OuterIs an_argument x = W x
  OuterIs a_block x = WB x

  rules : RulesYield R OuterIs
  rules a_const = expr_is constant room outermost
  rules an_argument = expr_is argument room outermost
  rules a_block = (deeper_yields room room outermost).block

  any : {X : Type 0} (p : Production Token Outer Outers X) → Y R p Any
  any p = y_any R OuterIs rules p

  a_type_is : Y R a_type WT
  a_type_is = y_type R OuterIs rules

  y_field : Y R field WF
  y_field = y_keep R WF ((λ of name size semantic. record { of = of; name = name; size = size; semantic = semantic }) <$> a_type <*> name <*> size_of (sub a_const) <*> semantic) (mark sign.Semicolon)
      (y_four R WT Any Any Any WF (λ of name size semantic. record { of = of; name = name; size = size; semantic = semantic }) a_type name (size_of (sub a_const)) semantic (λ of h n u z v s w. h) a_type_is (any name) (any (size_of (sub a_const))) (any semantic)) (any (mark sign.Semicolon))

  y_struct : Y R struct_item WI
  y_struct = y_keep R WI ((λ place attributes name fields. item.Struct place attributes name fields) <$> word k.Struct <*> attributes <*> name <*> (mark sign.LeftBrace *> list field <* mark sign.RightBrace)) (mark sign.Semicolon)
      (y_four R Any Any Any AllF WI (λ place attributes name fields. item.Struct place attributes name fields) (word k.Struct) attributes name (mark sign.LeftBrace *> list field <* mark sign.RightBrace) (λ p u a v n w fs h. h) (any (word k.Struct)) (any attributes) (any name)
      (y_keep R AllF (mark sign.LeftBrace *> list field) (mark sign.RightBrace) (y_skip R AllF (mark sign.LeftBrace) (list field) (any (mark sign.LeftBrace)) (y_list R WF AllF field y_field refl (λ x xs h i. both h i))) (any (mark sign.RightBrace)))) (any (mark sign.Semicolon))

  y_buffer_type : Y R a_buffer_type WBuffer
  y_buffer_type = y_either R WBuffer ((λ t. buffer_type.Raw t.place (class t == of_word k.RwByteAddressBuffer)) <$> one_of (of_word k.RwByteAddressBuffer ∷ of_word k.ByteAddressBuffer ∷ []))
      ((λ t of. buffer_type.Structured t.place (class t == of_word k.RwStructuredBuffer) of) <$> one_of (of_word k.RwStructuredBuffer ∷ of_word k.StructuredBuffer ∷ []) <*> type_argument)
      (y_map R Any WBuffer (λ t. buffer_type.Raw t.place (class t == of_word k.RwByteAddressBuffer)) (one_of (of_word k.RwByteAddressBuffer ∷ of_word k.ByteAddressBuffer ∷ [])) (λ t u. refl) (any (one_of (of_word k.RwByteAddressBuffer ∷ of_word k.ByteAddressBuffer ∷ []))))
      (y_two R Any WT WBuffer (λ t of. buffer_type.Structured t.place (class t == of_word k.RwStructuredBuffer) of) (one_of (of_word k.RwStructuredBuffer ∷ of_word k.StructuredBuffer ∷ [])) type_argument (λ t u of h. h) (any (one_of (of_word k.RwStructuredBuffer ∷ of_word k.StructuredBuffer ∷ []))) (y_type_argument R OuterIs rules))

  y_buffer : Y R buffer_item WI
  y_buffer = y_keep R WI ((λ coherent of name registers. item.Buffer coherent of name registers) <$> coherent <*> a_buffer_type <*> name <*> registers) (mark sign.Semicolon)
      (y_four R Any WBuffer Any Any WI (λ coherent of name registers. item.Buffer coherent of name registers) coherent a_buffer_type name registers (λ c u of h n v r w. h) (any coherent) y_buffer_type (any name) (any registers)) (any (mark sign.Semicolon))

  y_shared : Y R shared_item WI
  y_shared = y_keep R WI ((λ place of name size. item.Shared place of name size) <$> word k.GroupShared <*> a_type <*> name <*> size_of (sub a_const)) (mark sign.Semicolon)
      (y_four R Any WT Any Any WI (λ place of name size. item.Shared place of name size) (word k.GroupShared) a_type name (size_of (sub a_const)) (λ p u of h n v z w. h) (any (word k.GroupShared)) a_type_is (any name) (any (size_of (sub a_const)))) (any (mark sign.Semicolon))

  y_constant : Y R constant_item WI
  y_constant = y_keep R WI ((λ place of name value. item.Constant place of name value) <$> (word k.Static <* word k.Const) <*> a_type <*> name <*> (mark sign.Assign *> sub a_const)) (mark sign.Semicolon)
      (y_four R Any WT Any Any WI (λ place of name value. item.Constant place of name value) (word k.Static <* word k.Const) a_type name (mark sign.Assign *> sub a_const) (λ p u of h n v x w. h) (any (word k.Static <* word k.Const)) a_type_is (any name) (any (mark sign.Assign *> sub a_const))) (any (mark sign.Semicolon))

  y_result : Y R a_result WResult
  y_result = y_either R WResult ((λ place. result_type.Void place) <$> word k.Void) ((λ of. result_type.Value of) <$> a_type) (y_map R Any WResult (λ place. result_type.Void place) (word k.Void) (λ p u. refl) (any (word k.Void))) (y_map R WT WResult (λ of. result_type.Value of) a_type (λ of h. h) a_type_is)

  y_kind : Y R a_parameter_type WKind
  y_kind = y_either R WKind ((λ of. parameter_type.Value of) <$> a_type) ((λ of. parameter_type.Object of) <$> object record_objects) (y_map R WT WKind (λ of. parameter_type.Value of) a_type (λ of h. h) a_type_is) (y_map R Any WKind (λ of. parameter_type.Object of) (object record_objects) (λ of u. refl) (any (object record_objects)))

  y_parameter : Y R a_parameter WP
  y_parameter = y_five R Any Any WKind Any Any WP (λ attributes direction of name semantic. record { attributes = attributes; direction = direction; of = of; name = name; semantic = semantic })
      attributes some_direction a_parameter_type name semantic (λ a u d v of h n w s x. h) (any attributes) (any some_direction) y_kind (any name) (any semantic)

  y_parameters : Y R parameters AllP
  y_parameters = y_keep R AllP (mark sign.LeftParen *> (some_parameters <|> give [])) (mark sign.RightParen) (y_skip R AllP (mark sign.LeftParen) (some_parameters <|> give []) (any (mark sign.LeftParen))
      (y_either R AllP some_parameters (give []) (y_two R WP AllP AllP (λ x xs. x ∷ xs) a_parameter (list next_parameter) (λ x h xs i. both h i) y_parameter
      (y_list R WP AllP next_parameter (y_skip R WP (mark sign.Comma) a_parameter (any (mark sign.Comma)) y_parameter) refl (λ x xs h i. both h i))) (y_give R [] AllP refl))) (any (mark sign.RightParen))

  y_function : Y R function_item WI
  y_function = y_five R Any WResult Any AllP WB WI (λ attributes result name parameters body. item.Function attributes result name parameters body.0 body.1) attributes a_result name parameters (sub a_block)
      (λ a u r h n v ps i b j. both h (both i j)) (any attributes) y_result (any name) y_parameters (rules a_block)

  y_item : Y R an_item WI
  y_item = y_either R WI struct_item (buffer_item <|> shared_item <|> constant_item <|> function_item) y_struct (y_either R WI buffer_item (shared_item <|> constant_item <|> function_item) y_buffer
      (y_either R WI shared_item (constant_item <|> function_item) y_shared (y_either R WI constant_item function_item y_constant y_function)))

  y_text : Y R text (λ (t : Source). source_written t ≡ true)
  y_text = y_map R AllI (λ (t : Source). source_written t ≡ true) (λ items. record { items = items }) (list an_item) (λ items h. h) (y_list R WI AllI an_item y_item refl (λ x xs h i. both h i))

pub tree_written : (cells : List (Token × Depth)) (tree : Source) → AllFit cells → Spells cells tree → source_written tree ≡ true
tree_written cells tree f s = (y_text s.0 tree cells [] f s.1).0
