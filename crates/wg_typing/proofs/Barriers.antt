-- Barriers, whose arguments are flags and no values.
use Rattle.std.proofs.Common.{◌≡◌, ℕ, Bool, true, false, not, cond, List, [], ◌∷◌, ◌++◌, length, Option, Some, None, refl}
use Rattle.std.specs.Prelude.{◌||◌, ◌==◌, is_none}
use Rattle.wg_words.specs.declared.place.Place.{Place}
use Rattle.wg_words.specs.Maybe.{◌>>=◌}
use Rattle.wg_typing.specs.Maybe.{where_true}
use Rattle.wg_typing.specs.Named.{at_name}
use Rattle.wg_typing.specs.RulesBadBarrier.{barrier_in_plain}
use Rattle.wg_typing.specs.RulesMismatchCall.{unfit_flags}
use Rattle.wg_typing.specs.RulesShared.{flags_whole, all_pieces_whole, unknown_flags}
use Rattle.wg_typing.specs.RulesUnknownName.{places_of}
use Rattle.wg_typing.specs.Scope.{Context, look}
use Rattle.wg_typing.specs.Sites.{at_if}
use Rattle.wg_typing.specs.TypingBarrier.{flag_of, flag_word, flag, memory_flags, scope_flags, piece_broken, any_broken, orders, syncs_of, barrier_value, outside_plain}
use Rattle.wg_tree.specs.declared.expr.Named.{Named}
use Rattle.wg_typing.specs.declared.scope.Meant.{Meant}
use Rattle.wg_typing.specs.declared.scope.Meant.TheVariants as meant
use Rattle.wg_typing.specs.declared.scope.Object.TheVariants as object
use Rattle.wg_typing.specs.declared.scope.Value.{Value}
use Rattle.wg_typing.proofs.Facts.{Empty, Has, both, empty_if, empty_left, empty_right, has_is_none, has_then, has_through, is_false, not_false}
use Rattle.wg_typing.proofs.Methods.{three_for_two}
use Rattle.wg_typing.proofs.Names.{AllStand, StandsIf, look_stands}
use Rattle.wg_typing.specs.declared.part.Part.{Part}
use Rattle.wg_typing.specs.declared.part.Piece.{Piece}
use Rattle.wg_typing.specs.declared.context.Around.{Around}
use Rattle.wg_typing.specs.declared.called.Flag.{Flag}
use Rattle.wg_typing.specs.declared.part.Piece.TheVariants as piece
use Rattle.wg_typing.specs.declared.context.Around.TheVariants as surrounding
use Rattle.wg_typing.specs.declared.called.Flag.TheVariants as barrier_flag

-- ---- pieces in which no rule is broken

abbrev pub WholePieces : List Piece → Type 0
WholePieces [] = Unit {0}
WholePieces (piece.Word name ∷ rest) = WholePieces rest
WholePieces (piece.Zero ∷ rest) = WholePieces rest
WholePieces (piece.Other true ∷ rest) = WholePieces rest
WholePieces (piece.Other false ∷ rest) = ⊥
WholePieces (piece.Misused ∷ rest) = WholePieces rest

abbrev pub AllFlags : List Part → Type 0
AllFlags [] = Unit {0}
AllFlags (p ∷ rest) = WholePieces p.pieces × AllFlags rest

pub whole_pieces : (xs ys : List Piece) → WholePieces xs → WholePieces ys → WholePieces (xs ++ ys)
whole_pieces [] ys h k = k
whole_pieces (piece.Word name ∷ xs) ys h k = whole_pieces xs ys h k
whole_pieces (piece.Zero ∷ xs) ys h k = whole_pieces xs ys h k
whole_pieces (piece.Other true ∷ xs) ys h k = whole_pieces xs ys h k
whole_pieces (piece.Other false ∷ xs) ys h k = absurd h
whole_pieces (piece.Misused ∷ xs) ys h k = whole_pieces xs ys h k

word_whole : (c : Context) (name : Named) (f : Flag) → flag c name ≡ f → (f ≡ barrier_flag.Broken → ⊥) → piece_broken c (piece.Word name) ≡ false
word_whole c name barrier_flag.Memory e n = rw e refl
word_whole c name (barrier_flag.Scope s) e n = rw e refl
word_whole c name barrier_flag.Object e n = rw e refl
word_whole c name barrier_flag.Broken e n = absurd (n refl)
word_whole c name barrier_flag.Unknown e n = rw e refl

not_broken : (m : Option Meant) (name : List ℕ) → StandsIf m → flag_of m name ≡ barrier_flag.Broken → ⊥
not_broken None name s e = no_word (at_name memory_flags name) (at_name scope_flags name) e
  where
    no_word : (m s : Option Bool) → flag_word m s ≡ barrier_flag.Broken → ⊥
    no_word (Some b) s e = cc
    no_word None None e = cc
    no_word None (Some b) e = cc
not_broken (Some (meant.Struct number)) name s e = cc
not_broken (Some (meant.Constant of words known)) name s e = cc
not_broken (Some (meant.Shared variable of)) name s e = cc
not_broken (Some (meant.Variable variable of constant)) name s e = cc
not_broken (Some (meant.Object (object.Buffer buffer of))) name s e = cc
not_broken (Some (meant.Object (object.Input many record_type standing sharing))) name s e = cc
not_broken (Some (meant.Object (object.Output output array record_type))) name s e = cc
not_broken (Some (meant.Object (object.Handle handle record_type))) name s e = cc
not_broken (Some (meant.Function number is_entry result parameters chain)) name s e = cc
not_broken (Some meant.Itself) name s e = cc
not_broken (Some meant.Broken) name s e = s

neither : (a b : Bool) → a ≡ false → b ≡ false → (a || b) ≡ false
neither true b e f = e
neither false b e f = f

none_broken : (c : Context) (ps : List Piece) → AllStand c.names → WholePieces ps → any_broken c ps ≡ false
none_broken c [] s h = refl
none_broken c (piece.Word name ∷ rest) s h = neither (piece_broken c (piece.Word name)) _ (word_whole c name (flag c name) refl (not_broken (look name.name c.names) name.name (look_stands name.name c.names s))) (none_broken c rest s h)
none_broken c (piece.Zero ∷ rest) s h = none_broken c rest s h
none_broken c (piece.Other true ∷ rest) s h = none_broken c rest s h
none_broken c (piece.Other false ∷ rest) s h = absurd h
none_broken c (piece.Misused ∷ rest) s h = none_broken c rest s h

not_of : (b : Bool) → b ≡ false → not b ≡ true
not_of true e = absurd (cc)
not_of false e = refl

all_whole : (c : Context) (parts : List Part) → AllStand c.names → AllFlags parts → all_pieces_whole c parts ≡ true
all_whole c [] s h = refl
all_whole c (p ∷ rest) s h = both (not (any_broken c p.pieces)) _ (not_of (any_broken c p.pieces) (none_broken c p.pieces s h.0)) (all_whole c rest s h.1)

-- ---- barriers

-- outside plain functions, in which a rule would be broken
pub barrier_stands : (around : Around) (xs : List Place) (v : Option Value) → Has v → (Empty xs → ⊥) → Empty (barrier_in_plain around xs) → Has (outside_plain around v)
barrier_stands (surrounding.Entry lanes) xs v h n e = h
barrier_stands surrounding.Plain xs v h n e = absurd (n e)
barrier_stands surrounding.Const xs v h n e = h
barrier_stands (surrounding.Attribute allowed) xs v h n e = h

none_named : (names : List Named) → Empty (places_of names) → (length names == 0) ≡ true
none_named [] h = refl
none_named (n ∷ rest) h = absurd h

record Ordered (c : Context) (m s : Part) : Type 0 where
  pub orders : orders c m.pieces ≡ true
  pub syncs : Has (syncs_of c s.pieces)

whole_flags : (c : Context) (parts : List Part) → AllStand c.names → AllFlags parts → Empty (places_of (unknown_flags c parts)) → flags_whole c parts ≡ true
whole_flags c parts n h u = both (all_pieces_whole c parts) _ (all_whole c parts n h) (none_named (unknown_flags c parts) u)

ordered : (c : Context) (m s : Part) → AllStand c.names → AllFlags (m ∷ s ∷ []) → Empty (places_of (unknown_flags c (m ∷ s ∷ []))) → Empty (unfit_flags c (m ∷ s ∷ [])) → Ordered c m s
ordered c m s n h u f = record {
  orders = not_false _ (is_false _ m.place (empty_left _ (at_if (is_none (syncs_of c s.pieces)) s.place) faults));
  syncs = has_is_none _ (is_false _ s.place (empty_right (at_if (not (orders c m.pieces)) m.place) _ faults));
}
  where
    faults : Empty (at_if (not (orders c m.pieces)) m.place ++ at_if (is_none (syncs_of c s.pieces)) s.place)
    faults = empty_if _ _ (whole_flags c (m ∷ s ∷ []) n h u) f

-- flags of two arguments
has_flags : (c : Context) (name : Place) (parts : List Part) → AllStand c.names → AllFlags parts → (length parts == 2) ≡ true → Empty (places_of (unknown_flags c parts)) → Empty (unfit_flags c parts) → Has (barrier_value c name parts)
has_flags c name [] n h l u f = absurd (cc)
has_flags c name (m ∷ []) n h l u f = absurd (cc)
has_flags c name (m ∷ s ∷ []) n h l u f =
    let o = ordered c m s n h u f in
    has_then (◌>>=◌ (where_true (orders c m.pieces) s.pieces) (syncs_of c)) _ (has_through (orders c m.pieces) s.pieces (syncs_of c) o.orders o.syncs) (λ b q. tt)
has_flags c name (m ∷ s ∷ r ∷ rest) n h l u f = absurd (three_for_two (length rest) l)

pub has_barrier_of : (c : Context) (name : Place) (parts : List Part) → AllStand c.names → AllFlags parts → Empty (places_of (unknown_flags c parts)) → Empty (unfit_flags c parts)
    → Empty (cond (all_pieces_whole c parts) (at_if (not (length parts == 2)) name) []) → Empty (barrier_in_plain c.around (name ∷ [])) → Has (outside_plain c.around (barrier_value c name parts))
has_barrier_of c name parts n h u f l p = barrier_stands c.around (name ∷ []) (barrier_value c name parts)
    (has_flags c name parts n h (not_false _ (is_false _ name (empty_if _ _ (all_whole c parts n h) l))) u f) (λ e. e) p
