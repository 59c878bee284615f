-- What names, objects, calls and values are in a function of a typed text.
use Rattle.std.proofs.Common.{◌≡◌, ℕ, Bool, true, false, List, [], ◌∷◌, ◌++◌, length, Option, Some, None, refl, sym, ◌∙◌, subst}
use Rattle.std.specs.Prelude.{◌||◌, nat_lt, slice_get, is_some}
use Rattle.std.specs.Option.{option_or}
use Rattle.std.specs.Str.{bytes_eq}
use Rattle.wg_words.specs.declared.place.Place.{Place}
use Rattle.wg_typing.specs.Conversions.{fits, same_type, uint_type}
use Rattle.wg_typing.specs.Layers.{typed_at, typed_part, all_typed_parts, written, convert, fit, fit_all}
use Rattle.wg_typing.specs.Maybe.{where_true}
use Rattle.wg_typing.specs.Scope.{look}
use Rattle.wg_typing.specs.TypingFunction.{passed_of}
use Rattle.wg_typing.specs.TypingObjects.{is_tracked}
use Rattle.wg_typing.specs.declared.scope.Sharing.{Sharing}
use Rattle.wg_typing.specs.declared.scope.Standing.{Standing}
use Rattle.wg_facts.specs.Tests.{test}
use Rattle.wg_sound.specs.Room.{is_node, tells_last, Room, has_variable, has_shared, buffer_type, input_in, output_at, handle_record}
use Rattle.wg_sound.specs.SoundExpr.{shown_if}
use Rattle.wg_sound.specs.SoundForms.{is_index}
use Rattle.wg_sound.specs.SoundStep.{step_sound}
use Rattle.wg_sound.specs.SoundStmt.{sends}
use Rattle.wg_sound.specs.StandingTypes.{are_words}
use Rattle.wg_typed.specs.declared.types.TypeTree.{TypeTree}
use Rattle.wg_typed.specs.declared.typed.TypedFunction.{TypedFunction}
use Rattle.wg_typed.specs.declared.typed_expr.TypedExpr.{TypedExpr}
use Rattle.wg_typed.specs.declared.typed_expr.TypedKind.TheVariants as tree
use Rattle.wg_typing.specs.declared.scope.Act.{Act}
use Rattle.wg_typing.specs.declared.scope.Act.TheVariants as act
use Rattle.wg_typing.specs.declared.scope.Declared.{Declared}
use Rattle.wg_typing.specs.declared.scope.FormalParameter.{FormalParameter}
use Rattle.wg_typing.specs.declared.scope.Meant.{Meant}
use Rattle.wg_typing.specs.declared.scope.Meant.TheVariants as meant
use Rattle.wg_typing.specs.declared.scope.Object.{Object}
use Rattle.wg_typing.specs.declared.scope.Object.TheVariants as object
use Rattle.wg_typing.specs.declared.scope.Value.{Value}
use Rattle.wg_typing.specs.declared.scope.Value.TheVariants as value
use Rattle.wg_facts.proofs.Basics.{If, both, if_then, if_where, type_is}
use Rattle.wg_sound.proofs.Layered.{Is, Placed, is_typed, made_fixed, held_Convert}
use Rattle.wg_typing.specs.declared.part.Part.{Part}
use Rattle.wg_typing.specs.declared.part.TypedPart.{TypedPart}

module _ (room : Room) where
  -- ---- objects, acts and values

  abbrev pub IndexIs : Option TypedExpr → Type 0
  IndexIs index = If (Is room uint_type) index

  pub index_shown : (index : Option TypedExpr) → IndexIs index → is_index (shown_if room index) ≡ true
  index_shown None h = refl
  index_shown (Some i) h = is_typed room uint_type i h

  -- an output, or an element of an array, which is told by its index
  pub record OutputIs (output : ℕ) (array : Bool) (record_type : Option ℕ) (element : Option TypedExpr) : Type 0 where
    pub at : output_at room output ≡ Some (record { array = array || is_some element; record_type = record_type })
    pub index : IndexIs element

  -- an input that is tracked tells its last group
  pub record InputIs (many : Bool) (record_type : Option ℕ) (s : Standing) (sharing : Sharing) : Type 0 where
    pub shared : Bool
    pub at : input_in room ≡ Some (record { many = many; record_type = record_type; standing = s; shared = shared })
    pub tells : is_tracked sharing ≡ true → test (tells_last room) (input_in room) ≡ true

  abbrev pub ObjectIs : Object → Option TypedExpr → Type 0
  ObjectIs (object.Buffer number of) element = buffer_type room number ≡ Some of
  ObjectIs (object.Input many record_type s sharing) element = InputIs many record_type s sharing
  ObjectIs (object.Output output array record_type) element = OutputIs output array record_type element
  ObjectIs (object.Handle handle record_type) element = handle_record room handle ≡ Some record_type

  pub record RequestIs (output number : ℕ) (element : Option TypedExpr) (amount : TypedExpr) : Type 0 where
    pub array : Bool
    pub at : output_at room output ≡ Some (record { array = array; record_type = Some number })
    pub sends : sends room true output element amount ≡ true

  abbrev pub ActIs : Act → Type 0
  ActIs (act.Step s) = step_sound room s ≡ true
  ActIs (act.Barrier syncs) = is_node room.function ≡ true
  ActIs (act.Request group output number element amount) = RequestIs output number element amount
  ActIs (act.Increment group output element amount) = sends room false output element amount ≡ true
  ActIs (act.Complete handle) = nat_lt handle (length room.function.handles) ≡ true
  ActIs (act.Finished tracked) = tracked ≡ true → test (tells_last room) (input_in room) ≡ true

  abbrev pub ValueIs : Value → Type 0
  ValueIs (value.Typed of s e) = Placed room of s e
  ValueIs (value.Object o element) = ObjectIs o element
  ValueIs (value.Act name a) = ActIs a
  ValueIs (value.Text bytes) = Unit {0}

  abbrev pub PartIs : Part → Type 0
  PartIs p = If ValueIs p.value

  abbrev pub AllParts : List Part → Type 0
  AllParts [] = Unit {0}
  AllParts (p ∷ rest) = PartIs p × AllParts rest

  abbrev pub TypedIs : TypedPart → Type 0
  TypedIs t = Placed room t.of t.standing t.tree

  abbrev pub AllTyped : List TypedPart → Type 0
  AllTyped [] = Unit {0}
  AllTyped (t ∷ rest) = TypedIs t × AllTyped rest

  abbrev pub AllAre : List TypeTree → List TypedExpr → Type 0
  AllAre [] [] = Unit {0}
  AllAre [] (e ∷ rest) = ⊥
  AllAre (t ∷ types) [] = ⊥
  AllAre (t ∷ types) (e ∷ rest) = Is room t e × AllAre types rest

  -- ---- names

  -- a plain function before the own one
  pub record FunctionIs (number : ℕ) (gives : Option TypeTree) (parameters : List FormalParameter) : Type 0 where
    pub function : TypedFunction
    pub before : nat_lt number room.number ≡ true
    pub at : slice_get room.text.functions number ≡ Some function
    pub plain : is_node function ≡ false
    pub result : function.result ≡ gives
    pub passed : passed_of function.parameters ≡ Some parameters

  abbrev pub Agrees : Meant → Type 0
  Agrees (meant.Struct number) = nat_lt number (length room.text.structs) ≡ true
  Agrees (meant.Constant of words known) = are_words words of ≡ true
  Agrees (meant.Shared variable of) = has_shared room variable of ≡ true
  Agrees (meant.Variable variable of constant) = has_variable room variable of ≡ true
  Agrees (meant.Object o) = ObjectIs o None
  Agrees (meant.Function number true result parameters chain) = Unit {0}
  Agrees (meant.Function number false result parameters chain) = FunctionIs number result parameters
  Agrees meant.Itself = Unit {0}
  Agrees meant.Broken = Unit {0}

  abbrev pub AllAgree : List Declared → Type 0
  AllAgree [] = Unit {0}
  AllAgree (d ∷ rest) = Agrees d.meant × AllAgree rest

  or_agrees : (o p : Option Meant) → If Agrees o → If Agrees p → If Agrees (option_or o p)
  or_agrees None p a b = b
  or_agrees (Some m) p a b = a

  pub look_agrees : (name : List ℕ) (names : List Declared) → AllAgree names → If Agrees (look name names)
  look_agrees name [] h = tt
  look_agrees name (d ∷ rest) h =
      or_agrees (look name rest) (where_true (bytes_eq d.name.name name) d.meant) (look_agrees name rest h.1) (if_where Agrees (bytes_eq d.name.name name) d.meant (λ e. h.0))

  pub agree_push : (names : List Declared) (d : Declared) → AllAgree names → Agrees d.meant → AllAgree (names ++ d ∷ [])
  agree_push [] d h k = (k, tt)
  agree_push (x ∷ names) d h k = (h.0, agree_push names d h.1 k)

  -- ---- parts and conversions

  typed_at_is : (p : Place) (v : Option Value) → If ValueIs v → If TypedIs (typed_at p v)
  typed_at_is p None h = tt
  typed_at_is p (Some (value.Typed of s e)) h = h
  typed_at_is p (Some (value.Object o element)) h = tt
  typed_at_is p (Some (value.Act name a)) h = tt
  typed_at_is p (Some (value.Text bytes)) h = tt

  pub typed_is : (p : Part) → PartIs p → If TypedIs (typed_part p)
  typed_is p h = typed_at_is p.place p.value h

  pub all_typed : (parts : List Part) → AllParts parts → If AllTyped (all_typed_parts parts)
  all_typed [] h = tt
  all_typed (p ∷ rest) h = if_then TypedIs AllTyped (typed_part p) _ (typed_is p h.0) (λ t k. if_then AllTyped AllTyped (all_typed_parts rest) _ (all_typed rest h.1) (λ ts l. (k, l)))

  written_is : (goal : TypeTree) (t : TypedPart) (b : Bool) → TypedIs t → same_type t.of goal ≡ b → fits t.of goal ≡ true → Is room goal (written b goal t)
  written_is goal t true h e f = record { of = h.is.of ∙ type_is t.of goal e; sound = h.is.sound }
  written_is goal t false h e f =
      (made_fixed room t.place goal (tree.Convert t.tree) _ (held_Convert room t.tree) (both h.is.sound (subst (λ x. fits x goal ≡ true) (sym h.is.of) f))).is

  pub convert_is : (goal : TypeTree) (t : TypedPart) → TypedIs t → If (Is room goal) (convert goal t)
  convert_is goal t h = if_where (Is room goal) (fits t.of goal) _ (λ f. written_is goal t (same_type t.of goal) h refl f)

  pub fit_is : (goal : TypeTree) (p : Part) → PartIs p → If (Is room goal) (fit goal p)
  fit_is goal p h = if_then TypedIs (Is room goal) (typed_part p) _ (typed_is p h) (convert_is goal)

  pub fit_all_is : (types : List TypeTree) (parts : List Part) → AllParts parts → If (AllAre types) (fit_all types parts)
  fit_all_is [] [] h = tt
  fit_all_is [] (p ∷ parts) h = tt
  fit_all_is (t ∷ types) [] h = tt
  fit_all_is (t ∷ types) (p ∷ parts) h =
      if_then (Is room t) (AllAre (t ∷ types)) (fit t p) _ (fit_is t p h.0) (λ e k. if_then (AllAre types) (AllAre (t ∷ types)) (fit_all types parts) _ (fit_all_is types parts h.1) (λ es l. (k, l)))
