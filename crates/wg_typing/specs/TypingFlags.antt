-- What an expression is as an argument of a barrier: operands of `|`. Own.
use Rattle.std.specs.Prelude.{◌==◌, Bool, true, false, ◌&&◌, if◌then◌else◌, List, [], ◌∷◌, ◌++◌, Option, Some, None, ◌||◌}
use Rattle.wg_typing.specs.Layers.{Layer}
use Rattle.wg_typing.specs.TypingActs.{is_plain_act}
use Rattle.wg_tree.specs.declared.expr.BinaryOperator.{BinaryOperator}
use Rattle.wg_tree.specs.declared.expr.BinaryOperator.TheVariants as binary
use Rattle.wg_tree.specs.declared.expr.Expr.TheOpen.{Expr-F}
use Rattle.wg_typing.specs.declared.scope.Value.{Value}
use Rattle.wg_typing.specs.declared.scope.Value.TheVariants as value
use Rattle.wg_typing.specs.Scope.{Context}
use Rattle.wg_typing.specs.TypingBarrier.{any_flag}
use Rattle.wg_typing.specs.declared.part.LinkLayer.{LinkLayer}
use Rattle.wg_typing.specs.declared.part.Piece.{Piece}
use Rattle.wg_typing.specs.declared.part.Part.{Part}
use Rattle.wg_typing.specs.declared.part.Piece.TheVariants as piece

abbrev pub is_or : BinaryOperator → Bool
is_or binary.BitOr = true
is_or _ = false

abbrev pub all_or : {P : Type 0} → List (LinkLayer P) → Bool
all_or [] = true
all_or (l ∷ rest) = is_or l.operator && all_or rest

-- Whether no rule is broken in the expression: an output call and a syncing barrier break the rule on them, and so no further one.
abbrev pub is_whole : Option Value → Bool
is_whole (Some (value.Typed of standing tree)) = true
is_whole (Some (value.Object object element)) = true
is_whole (Some (value.Act name a)) = is_plain_act a
is_whole (Some (value.Text bytes)) = true
is_whole None = false

abbrev pub another : Option Value → List Piece
another v = piece.Other (is_whole v) ∷ []

abbrev pub linked_pieces : List (LinkLayer Part) → List Piece
linked_pieces [] = []
linked_pieces (l ∷ rest) = l.operand.pieces ++ linked_pieces rest

-- Flags under another operator are read as flags too, and then do not stand there.
abbrev pub chain_pieces : Bool → Part → List (LinkLayer Part) → List Piece
chain_pieces true first rest = first.pieces ++ linked_pieces rest
chain_pieces false first rest = piece.Misused ∷ first.pieces ++ linked_pieces rest

-- whether a chain is read as flags: operands of `|`, or one of them a flag
abbrev pub are_flags : Context → Part → List (LinkLayer Part) → Bool
are_flags c first rest = all_or rest || any_flag c (first.pieces ++ linked_pieces rest)

-- where the expression itself is this
abbrev pub layer_pieces : Context → Option Value → Layer Part → List Piece
layer_pieces c v (Expr-F.Number at n unsigned long) = if n == 0 then piece.Zero ∷ [] else another v
layer_pieces c v (Expr-F.Text at bytes) = another v
layer_pieces c v (Expr-F.Truth at b) = another v
layer_pieces c v (Expr-F.Name name) = piece.Word name ∷ []
layer_pieces c v (Expr-F.Call name parts) = another v
layer_pieces c v (Expr-F.Construct at of parts) = another v
layer_pieces c v (Expr-F.Bracket at inner) = inner.pieces
layer_pieces c v (Expr-F.Prefix at operator operand) = another v
layer_pieces c v (Expr-F.Cast at to operand) = another v
layer_pieces c v (Expr-F.Zeros at of) = another v
layer_pieces c v (Expr-F.Postfix first forms) = another v
layer_pieces c v (Expr-F.Chain first rest) = if are_flags c first rest then chain_pieces (all_or rest) first rest else another v
layer_pieces c v (Expr-F.Choice test first second) = another v
