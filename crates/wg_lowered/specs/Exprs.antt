-- The code of an expression: a fold over one layer of the typed tree. Registers from one on are free; those below are kept. Own.
use Rattle.std.specs.Prelude.{ℕ, zero, suc, ◌+◌, ◌-◌, ◌*◌, if◌then◌else◌, List, [], ◌∷◌, ◌++◌, map, length, slice_index, replicate, Option, Some, None}
use Rattle.wg_tree.specs.declared.expr.Scalar.{Scalar}
use Rattle.wg_tree.specs.declared.expr.Scalar.TheVariants as scalar
use Rattle.wg_tree.specs.declared.expr.BinaryOperator.{BinaryOperator}
use Rattle.wg_tree.specs.declared.expr.BinaryOperator.TheVariants as binary
use Rattle.wg_tree.specs.declared.expr.PrefixOperator.{PrefixOperator}
use Rattle.wg_tree.specs.declared.expr.PrefixOperator.TheVariants as prefix
use Rattle.wg_typed.specs.declared.types.TypeTree.{TypeTree}
use Rattle.wg_typed.specs.declared.types.TypeTree.TheVariants as type
use Rattle.wg_typed.specs.declared.typed_expr.Access.TheFolds.{fold-TypedExpr, fold-TypedKind, fold-Access, fold-TypedLink}
use Rattle.wg_typed.specs.declared.typed_expr.Access.TheOpen.{TypedExpr-F, TypedKind-F, Access-F, TypedLink-F}
use Rattle.wg_typed.specs.declared.typed_expr.Access.{Access}
use Rattle.wg_typed.specs.declared.typed_expr.TypedExpr.{TypedExpr}
use Rattle.wg_typed.specs.declared.typed_expr.TypedKind.{TypedKind}
use Rattle.wg_typed.specs.declared.typed_expr.TypedLink.{TypedLink}
use Rattle.wg_typed.specs.Layout.{field_range}
use Rattle.wg_typed.specs.Operators.{scalar_of, is_signed}
use Rattle.wg_semantics.specs.Places.{array_size}
use Rattle.wg_state.specs.WordLists.{zeros}
use Rattle.wg_code.specs.declared.op.Op.{Op}
use Rattle.wg_code.specs.declared.op.Op.TheVariants as o
use Rattle.wg_lowered.specs.declared.places.Where.{Where}
use Rattle.wg_lowered.specs.declared.places.Where.TheVariants as place
use Rattle.wg_lowered.specs.declared.places.Space.TheVariants as space
use Rattle.wg_lowered.specs.Where.{Names, Piece, Words, size, base_of, run, each_ops, get_op, copies, sets, words_piece, part_of, index_ops}

-- an expression's code, by the first free register, and how many registers it may use from there on
pub record Coded : Type 0 where
  pub of : TypeTree
  pub need : ℕ
  pub spot : ℕ → Piece

-- a form's code, from the type and the place before it
pub record Formed : Type 0 where
  pub of : TypeTree
  pub need : TypeTree → ℕ
  pub after : TypeTree → Where → ℕ → Piece

-- an operator's code, from the type and the registers before it
pub record Joined : Type 0 where
  pub of : TypeTree
  pub need : TypeTree → ℕ
  pub after : TypeTree → List ℕ → ℕ → Words

-- what a kind's code is, by its type
pub record Kinded : Type 0 where
  pub need : ℕ
  pub spot : ℕ → Piece

abbrev pub value_need : Names → Coded → ℕ
value_need k e = e.need + size k e.of

abbrev pub value_code : Names → Coded → ℕ → Words
value_code k e d = words_piece (e.spot d) (size k e.of) (d + e.need)

-- words as a value
abbrev pub held : Words → Piece
held w = record { ops = w.ops; at = place.Held w.at }

-- ---- forms

abbrev pub picked : Where → List ℕ → ℕ → Words
picked (place.Fixed at) components d = record { ops = []; at = map (λ c. at + c) components }
picked (place.Held registers) components d = record { ops = []; at = map (slice_index registers) components }
picked (place.Ranged sp from to index) components d = record { ops = each_ops (get_op sp from to index) components d; at = run d (length components) }

abbrev pub components_code : List ℕ → Where → ℕ → Piece
components_code (c ∷ []) w d = record { ops = []; at = part_of (record { from = c; to = c + 1 }) w }
components_code components w d = held (picked w components d)

-- the element of so many words, of an array of so many; q holds the index
abbrev pub element_code : ℕ → ℕ → Where → ℕ → ℕ → Piece
element_code count words (place.Fixed at) q d = record { ops = index_ops [] count words (count * words) q d; at = place.Ranged space.Own at (at + count * words) d }
element_code count words (place.Held registers) q d = record {
  ops = copies registers d ++ index_ops [] count words (count * words) q (d + count * words);
  at = place.Ranged space.Own d (d + count * words) (d + count * words);
}
element_code count words (place.Ranged sp from to index) q d = record {
  ops = index_ops (o.Binary 0 d index d ∷ []) count words (to - from) q d;
  at = place.Ranged sp from to d;
}

abbrev pub first_of : List ℕ → ℕ
first_of registers = slice_index registers 0

abbrev pub indexed_code : Names → Coded → TypeTree → TypeTree → Where → ℕ → Piece
indexed_code k index of t w d =
    let i = value_code k index d in
    let p = element_code (array_size t) (size k of) w (first_of i.at) (d + value_need k index) in
    record { ops = i.ops ++ p.ops; at = p.at }

abbrev pub access_step : Names → Access-F Formed (TypeTree → Kinded) Coded Joined → Formed
access_step k (Access-F.Field field of) = record {
  of = of;
  need = λ t. 0;
  after = λ t w d. record { ops = []; at = part_of (field_range k.structs t field) w };
}
access_step k (Access-F.Components components of) =
    record { of = of; need = λ t. length components; after = λ t w d. components_code components w d }
access_step k (Access-F.Index index of) =
    record { of = of; need = λ t. value_need k index + (1 + size k t); after = indexed_code k index of }

abbrev pub forms_need : List Formed → TypeTree → ℕ
forms_need [] t = 0
forms_need (f ∷ rest) t = f.need t + forms_need rest f.of

abbrev pub forms_code : List Formed → TypeTree → Where → ℕ → Piece
forms_code [] t w d = record { ops = []; at = w }
forms_code (f ∷ rest) t w d =
    let p = f.after t w d in
    let q = forms_code rest f.of p.at (d + f.need t) in
    record { ops = p.ops ++ q.ops; at = q.at }

-- ---- operators

-- an operator as an operation, maybe of swapped operands, maybe with its answer turned
pub record Form : Type 0 where
  pub number : ℕ
  pub swapped : ℕ
  pub turned : ℕ

abbrev pub by_sign : Scalar → ℕ → ℕ → ℕ
by_sign s u i = if is_signed s then i else u

abbrev pub plain : ℕ → Form
plain number = record { number = number; swapped = 0; turned = 0 }

abbrev pub form_of : BinaryOperator → Scalar → Form
form_of binary.Multiply s = plain 2
form_of binary.Divide s = plain (by_sign s 3 4)
form_of binary.Remainder s = plain (by_sign s 5 6)
form_of binary.Add s = plain 0
form_of binary.Subtract s = plain 1
form_of binary.ShiftLeft s = plain 7
form_of binary.ShiftRight s = plain (by_sign s 8 9)
form_of binary.Less s = plain (by_sign s 14 15)
form_of binary.Greater s = record { number = by_sign s 14 15; swapped = 1; turned = 0 }
form_of binary.AtMost s = record { number = by_sign s 14 15; swapped = 1; turned = 1 }
form_of binary.AtLeast s = record { number = by_sign s 14 15; swapped = 0; turned = 1 }
form_of binary.Equal s = plain 13
form_of binary.NotEqual s = record { number = 13; swapped = 0; turned = 1 }
form_of binary.BitAnd s = plain 10
form_of binary.BitXor s = plain 12
form_of binary.BitOr s = plain 11
form_of binary.And s = plain 0
form_of binary.Or s = plain 0

abbrev pub swapped_op : ℕ → ℕ → ℕ → ℕ → ℕ → Op
swapped_op zero number d a b = o.Binary number d a b
swapped_op (suc n) number d a b = o.Binary number d b a

-- 0 becomes 1, and 1 becomes 0; the next register is used
abbrev pub turned_ops : ℕ → ℕ → List Op
turned_ops zero d = []
turned_ops (suc n) d = o.Set (suc d) 0 ∷ o.Binary 13 d d (suc d) ∷ []

abbrev pub word_ops : Form → ℕ → ℕ → ℕ → List Op
word_ops f d a b = swapped_op f.swapped f.number d a b ∷ turned_ops f.turned d

abbrev pub zipped : List ℕ → List ℕ → List (ℕ × ℕ)
zipped [] bs = []
zipped (a ∷ rest) [] = []
zipped (a ∷ rest) (b ∷ bs) = (a, b) ∷ zipped rest bs

abbrev pub pair_op : Form → ℕ × ℕ → ℕ → List Op
pair_op f p d = word_ops f d p.0 p.1

abbrev pub pair_ops : Form → List ℕ → List ℕ → ℕ → List Op
pair_ops f lefts rights d = each_ops (pair_op f) (zipped lefts rights) d

-- ---- conversions

-- a word becomes 1 where it is not 0
abbrev pub truth_op : ℕ → ℕ → List Op
truth_op a d = o.Set d 0 ∷ o.Binary 14 d d a ∷ []

-- a word becomes the one that equals it modulo 2 ^ 32
abbrev pub wrap_op : ℕ → ℕ → List Op
wrap_op a d = o.Set d 0 ∷ o.Binary 0 d d a ∷ []

abbrev pub scalar_op : Scalar → ℕ → ℕ → List Op
scalar_op scalar.Bool a d = truth_op a d
scalar_op _ a d = wrap_op a d

abbrev pub scalar_code : Scalar → List ℕ → ℕ → Words
scalar_code s registers d = record { ops = each_ops (scalar_op s) registers d; at = run d (length registers) }

-- one word fills a vector: no code for it
abbrev pub filled_code : TypeTree → Scalar → ℕ → List ℕ → ℕ → Words
filled_code (type.Scalar of) to n registers d =
    let w = scalar_code to (slice_index registers 0 ∷ []) d in
    record { ops = w.ops; at = replicate n (slice_index w.at 0) }
filled_code from to n registers d = scalar_code to registers d

abbrev pub converted_code : TypeTree → TypeTree → List ℕ → ℕ → Words
converted_code from (type.Scalar to) registers d = scalar_code to registers d
converted_code from (type.Vector to n) registers d = filled_code from to n registers d
converted_code from (type.Struct number) registers d = record { ops = []; at = registers }
converted_code from (type.Array of n) registers d = record { ops = []; at = registers }

-- ---- chains

-- the right operand's value, where the left one stands in register d
abbrev pub later_ops : Names → Coded → ℕ → List Op
later_ops k e d = let w = value_code k e (suc d) in w.ops ++ o.Copy d (first_of w.at) ∷ []

abbrev pub operated_code : Names → BinaryOperator → TypeTree → Coded → List ℕ → ℕ → Words
operated_code k binary.And t e registers d =
    record { ops = o.Copy d (first_of registers) ∷ o.If d (later_ops k e d) [] ∷ []; at = d ∷ [] }
operated_code k binary.Or t e registers d =
    record { ops = o.Copy d (first_of registers) ∷ o.If d (o.Set d 1 ∷ []) (later_ops k e d) ∷ []; at = d ∷ [] }
operated_code k operator t e registers d =
    let w = value_code k e d in
    record { ops = w.ops ++ pair_ops (form_of operator (scalar_of t)) registers w.at (d + value_need k e); at = run (d + value_need k e) (size k e.of) }

abbrev pub operated_need : Names → Coded → ℕ
operated_need k e = value_need k e + (size k e.of + 1)

abbrev pub linked_code : Names → BinaryOperator → Option TypeTree → Coded → TypeTree → List ℕ → ℕ → Words
linked_code k operator None e t registers d = operated_code k operator t e registers d
linked_code k operator (Some by) e t registers d =
    let c = converted_code t by registers d in
    let w = operated_code k operator by e c.at (d + size k by) in
    record { ops = c.ops ++ w.ops; at = w.at }

abbrev pub linked_need : Names → Option TypeTree → Coded → ℕ
linked_need k None e = operated_need k e
linked_need k (Some by) e = size k by + operated_need k e

abbrev pub link_step : Names → TypedLink-F Formed (TypeTree → Kinded) Coded Joined → Joined
link_step k l = record {
  of = l.of;
  need = λ t. linked_need k l.before l.operand;
  after = linked_code k l.operator l.before l.operand;
}

abbrev pub links_need : List Joined → TypeTree → ℕ
links_need [] t = 0
links_need (l ∷ rest) t = l.need t + links_need rest l.of

abbrev pub links_code : List Joined → TypeTree → List ℕ → ℕ → Words
links_code [] t registers d = record { ops = []; at = registers }
links_code (l ∷ rest) t registers d =
    let w = l.after t registers d in
    let x = links_code rest l.of w.at (d + l.need t) in
    record { ops = w.ops ++ x.ops; at = x.at }

-- ---- other kinds

abbrev pub prefixed_op : PrefixOperator → ℕ → ℕ → List Op
prefixed_op prefix.Minus a d = o.Set d 0 ∷ o.Binary 1 d d a ∷ []
prefixed_op prefix.Plus a d = o.Copy d a ∷ []
prefixed_op prefix.Not a d = o.Set d 0 ∷ o.Binary 13 d a d ∷ []
prefixed_op prefix.Complement a d = o.Unary 0 d a ∷ []

abbrev pub prefixed_ops : PrefixOperator → List ℕ → ℕ → List Op
prefixed_ops operator registers d = each_ops (prefixed_op operator) registers d

-- a value's words copied to registers from one on
abbrev pub into : Names → Coded → ℕ → ℕ → List Op
into k e d to = let w = value_code k e d in w.ops ++ copies w.at to

abbrev pub parts_need : Names → List Coded → ℕ
parts_need k [] = 0
parts_need k (e ∷ rest) = value_need k e + parts_need k rest

abbrev pub parts_code : Names → List Coded → ℕ → Words
parts_code k [] d = record { ops = []; at = [] }
parts_code k (e ∷ rest) d =
    let w = value_code k e d in
    let x = parts_code k rest (d + value_need k e) in
    record { ops = w.ops ++ x.ops; at = w.at ++ x.at }

-- an index that is not written is 0
abbrev pub index_need : Names → Option Coded → ℕ
index_need k None = 1
index_need k (Some e) = value_need k e

abbrev pub index_code : Names → Option Coded → ℕ → Words
index_code k None d = record { ops = o.Set d 0 ∷ []; at = d ∷ [] }
index_code k (Some e) d = value_code k e d

-- one operation that leaves one word
abbrev pub one_word : (ℕ → Op) → Kinded
one_word op = record { need = 1; spot = λ d. record { ops = op d ∷ []; at = place.Fixed d } }

abbrev pub kind_step : Names → TypedKind-F Formed (TypeTree → Kinded) Coded Joined → TypeTree → Kinded
kind_step k (TypedKind-F.Literal words) t = record { need = length words; spot = λ d. record { ops = sets words d; at = place.Fixed d } }
kind_step k (TypedKind-F.Variable variable) t = record { need = 0; spot = λ d. record { ops = []; at = place.Fixed (base_of k.variables variable) } }
kind_step k (TypedKind-F.Shared variable) t = record {
  need = 1;
  spot = λ d. record { ops = o.Set d 0 ∷ []; at = place.Ranged space.Group (base_of k.shared variable) (base_of k.shared variable + size k t) d };
}
kind_step k TypedKind-F.Count t = one_word (λ d. o.InputCount d)
kind_step k TypedKind-F.Finished t = one_word (λ d. o.Last d)
kind_step k TypedKind-F.Levels t = one_word (λ d. o.Level d)
kind_step k (TypedKind-F.IsValid output element) t = record {
  need = index_need k element + 1;
  spot = λ d.
      let i = index_code k element d in
      record { ops = i.ops ++ o.Valid (d + index_need k element) output (first_of i.at) ∷ []; at = place.Fixed (d + index_need k element) };
}
kind_step k TypedKind-F.Zeros t = record { need = size k t; spot = λ d. record { ops = sets (zeros (size k t)) d; at = place.Fixed d } }
kind_step k (TypedKind-F.Access base forms) t = record {
  need = base.need + forms_need forms base.of;
  spot = λ d. let p = base.spot d in let q = forms_code forms base.of p.at (d + base.need) in record { ops = p.ops ++ q.ops; at = q.at };
}
kind_step k (TypedKind-F.Prefix operator operand) t = record {
  need = value_need k operand + size k t;
  spot = λ d.
      let w = value_code k operand d in
      record { ops = w.ops ++ prefixed_ops operator w.at (d + value_need k operand); at = place.Fixed (d + value_need k operand) };
}
kind_step k (TypedKind-F.Convert operand) t = record {
  need = value_need k operand + size k t;
  spot = λ d.
      let w = value_code k operand d in
      let c = converted_code operand.of t w.at (d + value_need k operand) in
      record { ops = w.ops ++ c.ops; at = place.Held c.at };
}
kind_step k (TypedKind-F.Chain first rest) t = record {
  need = value_need k first + links_need rest first.of;
  spot = λ d.
      let w = value_code k first d in
      let c = links_code rest first.of w.at (d + value_need k first) in
      record { ops = w.ops ++ c.ops; at = place.Held c.at };
}
kind_step k (TypedKind-F.Choice test a b) t = record {
  need = value_need k test + (value_need k a + value_need k b) + size k t;
  spot = λ d.
      let w = value_code k test d in
      let top = d + (value_need k test + (value_need k a + value_need k b)) in
      record { ops = w.ops ++ o.If (first_of w.at) (into k a (d + value_need k test) top) (into k b (d + value_need k test) top) ∷ []; at = place.Fixed top };
}
kind_step k (TypedKind-F.Construct parts) t = record { need = parts_need k parts; spot = λ d. held (parts_code k parts d) }
kind_step k _ t = record { need = 0; spot = λ d. record { ops = []; at = place.Fixed d } }

abbrev pub expr_step : TypedExpr-F Formed (TypeTree → Kinded) Coded Joined → Coded
expr_step e = record { of = e.of; need = (e.kind e.of).need; spot = (e.kind e.of).spot }

abbrev pub coded : Names → TypedExpr → Coded
coded k = fold-TypedExpr Formed (TypeTree → Kinded) Coded Joined (access_step k) (kind_step k) expr_step (link_step k)

abbrev pub kind_code : Names → TypedKind → TypeTree → Kinded
kind_code k = fold-TypedKind Formed (TypeTree → Kinded) Coded Joined (access_step k) (kind_step k) expr_step (link_step k)

abbrev pub formed : Names → Access → Formed
formed k = fold-Access Formed (TypeTree → Kinded) Coded Joined (access_step k) (kind_step k) expr_step (link_step k)

abbrev pub joined : Names → TypedLink → Joined
joined k = fold-TypedLink Formed (TypeTree → Kinded) Coded Joined (access_step k) (kind_step k) expr_step (link_step k)
