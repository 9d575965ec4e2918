-- The function of a name (Rust Reference, "Functions").
use Rattle.std.specs.Prelude.{ℕ, suc, List, [], ◌∷◌, Option, Some, None, if◌then◌else◌}
use Rattle.rx_core.specs.Bytes.{same_bytes}
use Rattle.rx_tree.specs.Plain as plain
use Rattle.rx_tree.specs.Plain.{Function, ItemTree, ProgramTree}

abbrev pub if_named : List ℕ → Function → Option Function
if_named x f = if same_bytes f.name.name x then Some f else None

abbrev pub named : List ℕ → ItemTree → Option Function
named x (plain.function_item s f) = if_named x f
named x _ = None

abbrev pub or_later : ℕ → Option Function → Option (ℕ × Function) → Option (ℕ × Function)
or_later n None later = later
or_later n (Some f) later = Some (n, f)

-- the first, with the number of its item; the first item has number n
abbrev pub function_named : List ℕ → ℕ → ProgramTree → Option (ℕ × Function)
function_named x n [] = None
function_named x n (i ∷ is) = or_later n (named x i) (function_named x (suc n) is)
