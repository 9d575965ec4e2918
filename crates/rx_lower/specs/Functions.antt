-- The functions of a typed program, as they are lowered.
use Rattle.std.specs.Prelude.{ℕ, ◌+◌, ◌==◌, if◌then◌else◌, List, [], ◌∷◌, map, Option, Some, None}
use Rattle.rx_typed.specs.declared.declarations.Decl.{Decl}
use Rattle.rx_typed.specs.Regions.{region-Ty}
use Rattle.rx_typed.specs.Tree as Tree
use Rattle.rx_typed.specs.PlainTree.{plain-TypedTree}
use Rattle.rx_typeck_typed.specs.declared.variables.AnnotatedVariable.{AnnotatedVariable}
use Rattle.rx_typeck_typed.specs.declared.typed.TypedFn.{TypedFn}
use Rattle.rx_lower_lifetimes.specs.Variables.{Written}
use Rattle.rx_lower_lifetimes.specs.Lowered.{Function, function_of}

-- the function of an item
abbrev pub function_at : List TypedFn → ℕ → Option TypedFn
function_at [] n = None
function_at (f ∷ fs) n = if f.item == n then Some f else function_at fs n

-- types up to the last that is there: a table may go on with variables that have none
abbrev pub trimmed_and : {A : Type 0} → Option A → List (Option A) → List (Option A)
trimmed_and None [] = []
trimmed_and t ts = t ∷ ts

abbrev pub trimmed : {A : Type 0} → List (Option A) → List (Option A)
trimmed [] = []
trimmed (t ∷ ts) = trimmed_and t (trimmed ts)

-- how many there are up to the last, where one behind so many is looked at
abbrev pub last_there : {A : Type 0} → Option A → ℕ → ℕ → ℕ
last_there None i n = n
last_there (Some t) i n = i + 1

abbrev pub written : AnnotatedVariable → Written
written a = record { variable = a.variable; typ = region-Ty a.ty }

-- with this tree; with its own
abbrev pub with_tree : List Decl → TypedFn → Tree.Function → Function
with_tree D f t = function_of D f.item t (trimmed f.variables) (map written f.annotations)

abbrev pub function : List Decl → TypedFn → Function
function D f = with_tree D f (plain-TypedTree f.tree)
