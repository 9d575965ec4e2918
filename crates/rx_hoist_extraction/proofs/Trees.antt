-- Short words for the trees, runs and plans of the computed examples. Nodes stand nowhere but where a place is told.
use Rattle.std.specs.Prelude.{ℕ, Bool, true, false, List, [], ◌∷◌, ◌++◌, map, Option, Some, None}
use Rattle.rx_core.specs.declared.types.Span.{Span}
use Rattle.rx_core.specs.declared.types.Kind.TheVariants.{I32, I64}
use Rattle.rx_tree.specs.declared.tree.Ident.{Ident}
use Rattle.rx_tree.specs.declared.tree.BinaryOp.{BinaryOp}
use Rattle.rx_tree.specs.declared.tree.Derive.{Derive}
use Rattle.rx_tree.specs.Plain as plain
use Rattle.rx_tree.specs.Plain.{TypeTree, TypeTrees, PatternTree, FieldPatterns, Expression, OptionalExpression, FieldExpressions, Arms, Body, Statement, Parameter, FieldOf, VariantOf, ItemTree}
use Rattle.rx_tree.specs.Erase.{nowhere}
use Rattle.rx_typed.specs.Types.{Typ, integer, unit_shape}
use Rattle.rx_hoist_extraction.specs.Run.{Run, block_of}
use Rattle.rx_hoist_extraction.specs.Plan.{Exit, Mode, Variable, Param, Leaving, Plan}
use Rattle.rx_hoist_extraction.specs.Made.{ident, binding, as_expressions, done, let_value}

-- the place of the run's block, and the run's own
abbrev pub here : Span
here = record { start = 1; end = 2 }

abbrev pub made : Span
made = record { start = 3; end = 4 }

abbrev pub at : ℕ → ℕ → Span
at a b = record { start = a; end = b }

abbrev pub name : List ℕ → Ident
name x = ident nowhere x

-- lines, each with its line feed
abbrev pub lines : List (List ℕ) → List ℕ
lines [] = []
lines (l ∷ ls) = l ++ (10 ∷ lines ls)

-- ---- types and patterns

abbrev all_types : List TypeTree → TypeTrees
all_types [] = plain.no_type
all_types (t ∷ ts) = plain.type_and t (all_types ts)

abbrev pub tuple_type : List TypeTree → TypeTree
tuple_type ts = plain.tuple_type nowhere (all_types ts)

abbrev pub bind : List ℕ → PatternTree
bind x = binding nowhere x false

abbrev pub bind_mut : List ℕ → PatternTree
bind_mut x = binding nowhere x true

abbrev field_patterns : List (Ident × PatternTree) → FieldPatterns
field_patterns [] = plain.no_field_pattern
field_patterns (f ∷ fs) = plain.field_pattern_and f.0 f.1 (field_patterns fs)

abbrev pub make_pattern : List ℕ → List (Ident × PatternTree) → PatternTree
make_pattern x fs = plain.make_pattern nowhere (name x) (field_patterns fs)

-- ---- expressions

abbrev pub number : ℕ → Expression
number n = plain.int nowhere n None

abbrev pub long : ℕ → Expression
long n = plain.int nowhere n (Some I64)

abbrev pub var : List ℕ → Expression
var x = plain.var nowhere x

abbrev pub tuple : List Expression → Expression
tuple es = plain.tuple nowhere (as_expressions es)

abbrev pub field : Expression → List ℕ → Expression
field e x = plain.field nowhere e (name x)

abbrev pub two : BinaryOp → Expression → Expression → Expression
two o a b = plain.binary nowhere o a b

abbrev pub call : List ℕ → List Expression → Expression
call f es = plain.call nowhere (name f) (as_expressions es)

abbrev fields : List (Ident × Expression) → FieldExpressions
fields [] = plain.no_field
fields (f ∷ fs) = plain.field_and f.0 f.1 (fields fs)

abbrev pub make : List ℕ → List (Ident × Expression) → Expression
make x fs = plain.make nowhere (name x) (fields fs)

abbrev arms : List (PatternTree × Expression) → Arms
arms [] = plain.no_arm
arms (a ∷ rest) = plain.arm_and a.0 a.1 (arms rest)

abbrev pub match_of : Expression → List (PatternTree × Expression) → Expression
match_of e rows = plain.match nowhere e (arms rows)

-- ---- statements

abbrev pub set : List ℕ → Expression → Statement
set x e = let_value nowhere (bind x) e

abbrev pub set_mut : List ℕ → Expression → Statement
set_mut x e = let_value nowhere (bind_mut x) e

abbrev pub does : Expression → Statement
does e = done nowhere e

abbrev pub block_at : Span → List Statement → OptionalExpression → Body
block_at s ss o = block_of s (record { statements = ss; tail = o })

-- ---- items

abbrev pub structure : List ℕ → List Derive → List Ident → List (Ident × TypeTree) → ItemTree
structure x ds ls fs = plain.struct_item nowhere
    (record { name = name x; derives = ds; lifetimes = ls; fields = map (λ (f : Ident × TypeTree). record { name = f.0; typ = f.1 }) fs })

abbrev pub enumeration : List ℕ → List Derive → List Ident → List (Ident × List TypeTree) → ItemTree
enumeration x ds ls vs = plain.enum_item nowhere
    (record { name = name x; derives = ds; lifetimes = ls; variants = map (λ (v : Ident × List TypeTree). record { name = v.0; types = all_types v.1 }) vs })

abbrev pub function : List ℕ → List (Ident × List Ident) → List (Ident × Bool × TypeTree) → Option TypeTree → Body → ItemTree
function x ls ps t b = plain.function_item nowhere (record {
  name = name x;
  lifetimes = map (λ (l : Ident × List Ident). record { name = l.0; bounds = l.1 }) ls;
  params = map (λ (p : Ident × Bool × TypeTree). record { name = p.0; mutable = p.1; typ = p.2 }) ps;
  result = t;
  body = b;
})

-- ---- runs and plans

abbrev pub run_at : ℕ → List ℕ → ℕ → ℕ → Run
run_at i way m n = record { item = i; way = way; first = m; last = n; span = made }

abbrev pub i64_type : Typ
i64_type = integer I64

abbrev pub i32_type : Typ
i32_type = integer I32

abbrev pub variable : List ℕ → Typ → Variable
variable x t = record { name = x; mutable = false; typ = t }

abbrev pub mutable : List ℕ → Typ → Variable
mutable x t = record { name = x; mutable = true; typ = t }

-- whether the run moves it
abbrev pub passed_by : Mode → Bool → Variable → Param
passed_by m moved v = record { variable = v; mode = m; moved = moved }

abbrev pub leaving : Exit → List Variable → Leaving
leaving e vs = record { exit = e; outs = vs }

-- where nothing is handed in or out
abbrev pub no_plan : Plan
no_plan = record {
  name = [];
  exits = [];
  value = None;
  never = false;
  result = unit_shape;
  params = [];
  locals = [];
  redeclared = [];
  pins = None;
  identifiers = [];
  lifetimes = [];
}
