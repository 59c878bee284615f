-- Positions of attributes, as the walk has them.
use Rattle.wg_typing.specs.AttributeSites as site
use Rattle.wg_attribute_rules.specs.declared.positions.Own.{Own}
use Rattle.wg_attribute_rules.specs.declared.positions.Position.{Position}
use Rattle.wg_attribute_rules.specs.declared.positions.Position.TheVariants as position

abbrev pub own_of : Own → site.Own
own_of own = record { parameters = own.parameters.now; number = own.number }

abbrev pub position_of : Position → site.Position
position_of position.Struct = site.on_struct
position_of (position.Node mode) = site.on_node mode
position_of position.Plain = site.on_plain
position_of (position.Input mode) = site.on_input mode
position_of (position.Output own) = site.on_output (own_of own)
position_of (position.OutputArray own) = site.on_output_array (own_of own)
position_of position.Value = site.on_value
position_of position.Branch = site.on_branch
