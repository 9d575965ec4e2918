-- The program that a typed program is, in the terms of the meaning: by what is declared, and the typed trees of its functions.
use Rattle.std.specs.Prelude.{ℕ, true, false, Bool, List, [], ◌∷◌, Option, Some, None}
use Rattle.rx_typed.specs.Types.{Declared, Declarations, function_declared}
use Rattle.rx_typed.specs.PlainTypes.{declarations}
use Rattle.rx_typed.specs.Tree.{Function}
use Rattle.rx_typed.specs.PlainTree.{plain-TypedTree}
use Rattle.rx_meaning.specs.Expressions.{Functions}
use Rattle.rx_meaning.specs.Programs.{Program}
use Rattle.rx_typeck_typed.specs.declared.typed.TypedFn.{TypedFn}
use Rattle.rx_typeck_typed.specs.declared.typed.Typed.{Typed}

abbrev pub is_function : Declared → Bool
is_function (function_declared ps t) = true
is_function _ = false

-- the next typed tree, where a function is declared; and those behind it
abbrev pub first_of : Bool → List TypedFn → Option Function
first_of true (t ∷ ts) = Some (plain-TypedTree t.tree)
first_of _ ts = None

abbrev pub behind : Bool → List TypedFn → List TypedFn
behind true (t ∷ ts) = ts
behind _ ts = ts

-- each function that is declared has the next typed tree
abbrev pub typed_functions : Declarations → List TypedFn → Functions
typed_functions [] ts = []
typed_functions (d ∷ ds) ts = first_of (is_function d) ts ∷ typed_functions ds (behind (is_function d) ts)

-- with the number of the item `main`
abbrev pub program_of : Typed → ℕ → Program
program_of t m = record { functions = typed_functions (declarations t.decls.items) t.functions; main = m }
