-- A type is a name or a type of values, as the next token says.
use Rattle.std.proofs.Common.{◌≡◌, ◌||◌, ◌==◌, Bool, true, false, List, [], ◌∷◌, refl, if◌then◌else◌}
use Rattle.wg_tokens.specs.declared.token.Token.{Token}
use Rattle.wg_tree.specs.declared.expr.TypeName.TheVariants as type_name
use Rattle.wg_grammar.specs.Reading.{Got, Wrong, read_on, sees, take_if}
use Rattle.wg_grammar.specs.Productions.{of}
use Rattle.wg_tokens.specs.Classes.{NAME, class}
use Rattle.wg_tree.specs.GrammarExpr.{value_types, value_type_of, by_code, classes}
use Rattle.wg_tree.specs.GrammarStmt.{type_classes, type_of}
use Rattle.wg_declarations.specs.PartReads.{item_part_read}
use Rattle.wg_tree.specs.GrammarStmt as grammar

pub name_type : (ts : List Token) → sees (of class (NAME ∷ [])) ts ≡ true → take_if (of class type_classes) type_of ts ≡ item_part_read 0 grammar.struct_type ts
name_type [] e = refl
name_type (t ∷ ts) e = go (class t == NAME) refl e
  where
    go : (v : Bool) → class t == NAME ≡ v → (v || false) ≡ true → take_if (of class type_classes) type_of (t ∷ ts) ≡ item_part_read 0 grammar.struct_type (t ∷ ts)
    go true q e = rw q refl
    go false q e = absurd (cc)

pub value_type : (ts : List Token) → sees (of class (NAME ∷ [])) ts ≡ false → take_if (of class type_classes) type_of ts ≡ item_part_read 0 grammar.type_of_values ts
value_type [] e = refl
value_type (t ∷ ts) e = go (class t == NAME) refl e
  where
    same : (v : Bool) → (if v then Got (type_name.Value t.place (value_type_of t)) ts else Wrong (t ∷ ts)) ≡ read_on (if v then Got t ts else Wrong (t ∷ ts)) (λ t rest. Got (type_name.Value t.place (value_type_of t)) rest)
    same true = refl
    same false = refl

    go : (v : Bool) → class t == NAME ≡ v → (v || false) ≡ false → take_if (of class type_classes) type_of (t ∷ ts) ≡ item_part_read 0 grammar.type_of_values (t ∷ ts)
    go true q e = absurd (cc)
    go false q e = rw q (same (of class (classes (by_code value_types)) t))
