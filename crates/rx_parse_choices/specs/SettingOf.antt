-- What the code's settings stand for.
use Rattle.rx_parse_grammar.specs.parser.Operators as operators
use Rattle.rx_parse_choices.specs.declared.operators.Setting.{Setting}
use Rattle.rx_parse_choices.specs.declared.operators.Setting.TheVariants.{Assigns, Updates}

abbrev pub setting_of : Setting → operators.Setting
setting_of Assigns = operators.assigns
setting_of (Updates o) = operators.updates o
