-- A function whose history does not tell where it has come to: behind a test, whether it held (Rust Reference, "if expressions").
use Rattle.std.specs.Prelude.{ℕ, true, [], ◌∷◌, None}
use Rattle.rx_typed.specs.Tree as tree
use Rattle.rx_typed.specs.Tree.{Mark, Exp, Body, Function, own}

abbrev pub at : ℕ → Mark
at n = record { node = n; typ = None }

-- if true { a; }
abbrev pub moves_perhaps : Exp
moves_perhaps =
    tree.choose (at 3) (tree.of_value (tree.build (at 4) (tree.constant (tree.truth true)) tree.no_operand))
    (tree.arm_and (tree.exactly 5 (tree.truth true)) (tree.read (at 6) true (own 0)) (tree.arm_and tree.any (tree.unit (at 3)) tree.no_arm))

-- what follows it uses no variable
abbrev pub behind_it : Body
behind_it = tree.ends (tree.give (at 1) (tree.unit (at 1)))

-- fn f(a: S) { if true { a; } }
abbrev pub branching : Function
branching = record { params = record { node = 2; variable = 0 } ∷ []; body = tree.block (at 1) (tree.runs moves_perhaps behind_it) }
