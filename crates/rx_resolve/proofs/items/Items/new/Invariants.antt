use Rattle.std.proofs.Common.{◌≡◌, [], map, drop}
use Rattle.rx_tree.specs.PlainOf.{plain-Item}
use Rattle.rx_resolve_names.specs.Meant.{type_name, function_name}
use Rattle.rx_resolve_names.specs.Items.{apart}
use Rattle.rx_resolve.specs.Tables.{names_from}
use Rattle.rx_resolve.proofs.items.Items.new.Given as goal

abbrev pub invariant-loop-i : goal.invariant-loop-i
invariant-loop-i l =
    (apart (record { types = l.types; functions = l.functions }) l.i (map plain-Item (drop l.i l.items)) ≡ apart (record { types = []; functions = [] }) 0 (map plain-Item l.fn.items))
    × (names_from type_name l.types l.i (map plain-Item (drop l.i l.items)) ≡ names_from type_name [] 0 (map plain-Item l.fn.items))
    × (names_from function_name l.functions l.i (map plain-Item (drop l.i l.items)) ≡ names_from function_name [] 0 (map plain-Item l.fn.items))
