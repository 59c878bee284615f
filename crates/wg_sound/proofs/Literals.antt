-- A sound literal has words of its type.
use Rattle.std.proofs.Common.{◌≡◌, ℕ, true, List, [], length, sym, ap, ◌∙◌}
use Rattle.std.specs.Prelude.{◌==◌}
use Rattle.wg_words.specs.declared.place.Place.{Place}
use Rattle.wg_typing.specs.Conversions.{is_number}
use Rattle.wg_typing.specs.Layers.{tree_of}
use Rattle.wg_sound.specs.Room.{Room}
use Rattle.wg_sound.specs.SoundExpr.{shown}
use Rattle.wg_sound.specs.SoundForms.{Shown, Held}
use Rattle.wg_sound.specs.StandingTypes.{fits_word, are_words}
use Rattle.wg_facts.specs.Tests.{every}
use Rattle.wg_typed.specs.Layout.{words_of}
use Rattle.wg_typed.specs.Operators.{scalar_of}
use Rattle.wg_typed.specs.declared.types.TypeTree.{TypeTree}
use Rattle.wg_typed.specs.declared.typed_expr.TypedKind.TheVariants as tree
use Rattle.wg_facts.proofs.Basics.{and_left, and_right, same_count}
use Rattle.wg_sound.proofs.Layered.{rolled, held_Literal}

module _ (room : Room) (place : Place) (t : TypeTree) (words : List ℕ) (h : (shown room (tree_of place t (tree.Literal words))).sound ≡ true) where
  literal_words : are_words words t ≡ true
  literal_words = sym (ap (λ (x : TypeTree → Held). (x t).sound) (held_Literal room words)) ∙ sym (ap (λ (x : Shown). x.sound) (rolled room place t (tree.Literal words))) ∙ h

  pub literal_count : length words ≡ words_of [] t
  literal_count = same_count (length words) (words_of [] t) (and_left (length words == words_of [] t) _ (and_right (is_number t) _ literal_words))

  pub literal_fits : every (fits_word (scalar_of t)) words ≡ true
  literal_fits = and_right (length words == words_of [] t) _ (and_right (is_number t) _ literal_words)
