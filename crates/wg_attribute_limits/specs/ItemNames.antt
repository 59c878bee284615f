-- That a tree gives its declarations names that are spelled as names, as each tree of a text does. Own.
use Rattle.std.specs.Prelude.{Bool}
use Rattle.wg_words.specs.Characters.{is_identifier}
use Rattle.wg_facts.specs.Tests.{every}
use Rattle.wg_typing.specs.TypingText.{item_name}
use Rattle.wg_tree.specs.declared.item.Item.{Item}
use Rattle.wg_tree.specs.declared.item.Source.{Source}

abbrev pub names_are_spelled : Source → Bool
names_are_spelled tree = every (λ (i : Item). is_identifier (item_name i).name) tree.items
