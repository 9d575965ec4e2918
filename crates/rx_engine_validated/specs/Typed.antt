-- What the rules are told of the functions of a typed program (Rust Reference, "Items").
use Rattle.std.specs.Prelude.{List}
use Rattle.rx_tree.specs.Plain.{ProgramTree}
use Rattle.rx_resolve_names.specs.declared.resolved.ItemNames.{ItemNames}
use Rattle.rx_typeck_typed.specs.declared.typed.Typed.{Typed}
use Rattle.rx_typeck_typed.specs.Typing.{Given, IsTyped}

abbrev pub given_by : (p : ProgramTree) (ns : List ItemNames) (t : Typed) → IsTyped p ns t → Given
given_by p ns t a = record { program = p; declared = a.declared; sizes = a.sizes }
