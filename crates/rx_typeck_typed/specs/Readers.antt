-- What the code's reader stands for, and the program whose items its types name.
use Rattle.std.specs.Prelude.{map}
use Rattle.rx_tree.specs.PlainOf.{plain-Item}
use Rattle.rx_tree.specs.Plain.{ProgramTree}
use Rattle.rx_typeck_typed.specs.declared.declare_types.Types.{Types}
use Rattle.rx_typeck_typed.specs.declared.reader.Reader.{Reader}
use Rattle.rx_typeck_typed.specs.Steps.{Reading}

abbrev pub reading : Reader → Reading
reading r = record { names = r.names.now; lifetimes = r.lifetimes; next = r.next }

abbrev pub program : Types → ProgramTree
program t = map plain-Item t.items.now
