-- What the code's results stand for.
use Rattle.std.specs.Prelude.{ℕ, List, Option, map}
use Rattle.rx_core.specs.declared.types.Kind.{Kind}
use Rattle.rx_lex.specs.declared.numeral.Numeral.{Numeral}
use Rattle.rx_parse_grammar.specs.parser.Steps as steps
use Rattle.rx_parse_grammar.specs.parser.Numbers as numbers
use Rattle.rx_parse_cursor.specs.declared.numbers.Numbered.{Numbered}
use Rattle.rx_parse_grammar.specs.parser.Lists as lists
use Rattle.rx_parse_cursor.specs.declared.got.Got.{Got}
use Rattle.rx_parse_cursor.specs.declared.got.Found.{Found}
use Rattle.rx_parse_cursor.specs.declared.got.Items.{Items}

abbrev pub pair_of : Numeral → ℕ × Option Kind
pair_of n = (n.value, n.suffix)

abbrev pub numbered_of : Numbered → numbers.Numbered
numbered_of n = record { span = n.span; value = n.value; suffix = n.suffix }

abbrev pub got_of : {A B : Type 0} → (A → B) → Got A → steps.Got B
got_of f x = record { tree = f x.tree; height = x.height; span = x.span }

abbrev pub found_of : {A B : Type 0} → (A → B) → Found A → List B × ℕ
found_of f x = (map f x.list, x.height)

abbrev pub items_of : {A B : Type 0} → (A → B) → Items A → lists.Items B
items_of f x = record { list = map f x.list; height = x.height; close = x.close }

-- items that stand for themselves
abbrev pub plain_items : {A : Type 0} → Items A → lists.Items A
plain_items x = record { list = x.list; height = x.height; close = x.close }
