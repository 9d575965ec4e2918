-- The new function with numbers (Rust Reference, "Functions", "Function parameters"): its params with their types and lifetimes, its
-- result, its body; and which of its variables correspond to those of the text where the run begins.
use Rattle.std.specs.Prelude.{◌≡◌, ℕ, zero, suc, Bool, true, false, if◌then◌else◌, List, [], ◌∷◌, ◌++◌, length, map, Option, Some, None, Ok}
use Rattle.rx_core.specs.declared.types.Kind.{Kind}
use Rattle.rx_core.specs.declared.types.Span.{Span}
use Rattle.rx_tree.specs.Plain as plain
use Rattle.rx_tree.specs.Plain.{Function, ProgramTree, OptionalExpression, Statements}
use Rattle.rx_resolve_names.specs.Scopes.{Variables, variable_named}
use Rattle.rx_resolve_names.specs.Meant.{number, Around}
use Rattle.rx_resolve_names.specs.Items.{in_item}
use Rattle.rx_resolve_names.specs.declared.resolved.ItemNames.{ItemNames}
use Rattle.rx_resolve_names.specs.declared.resolved.NodeNames.{NodeNames}
use Rattle.rx_typed.specs.declared.nodes.Node.{Node}
use Rattle.rx_typed.specs.declared.nodes.Site.{Site}
use Rattle.rx_typed.specs.Types as types
use Rattle.rx_typed.specs.Types.{Typ, Shape, Shapes, integer, boolean, tuple_of, reference, no_shape, shape_and}
use Rattle.rx_typed.specs.Named as named
use Rattle.rx_typed.specs.Named.{Written, WrittenTypes, Else}
use Rattle.rx_typed.specs.Naming.{Cursor, function_named, of_optional, of_statements}
use Rattle.rx_hoist_extraction.specs.Names.{Names}
use Rattle.rx_hoist_extraction.specs.Plan.{Exit, same_exit, Variable, Param, Leaving, Plan, has_enum, names_of}
use Rattle.rx_hoist_extraction.specs.Values.{next_values, types_of}
use Rattle.rx_hoist_extraction.specs.Moved.{is_referred}
use Rattle.rx_hoist_extraction.specs.WrittenTypes.{lifetimes_of}
use Rattle.rx_hoist_extraction.specs.NewEnum.{enum_positions}
use Rattle.rx_hoist_extraction.specs.NewFunction.{passed, joined_type}
use Rattle.rx_engine_names.specs.Renaming.{Renaming, Pairs, Has, Made, Serves}
use Rattle.rx_engine_names.specs.Moves.{Moves, StandsAt}
use Rattle.rx_engine_names.specs.NewBody.{IsNewBody}

-- ---- variables that correspond where the run begins

-- a variable of the text, with the number that it has in the new function, as it is declared and as it is named
abbrev pub paired : Option ℕ → ℕ → Pairs
paired None m = []
paired (Some n) m = (n, m) ∷ (n, number m) ∷ []

-- the params that are behind references, and the others; the next has number n
abbrev pub referred_paired : Variables → ℕ → List Param → Pairs
referred_paired sc n [] = []
referred_paired sc n (x ∷ xs) = (if is_referred x.mode then paired (variable_named sc x.variable.name) n else []) ++ referred_paired sc (suc n) xs

abbrev pub others_paired : Variables → ℕ → List Param → Pairs
others_paired sc n [] = []
others_paired sc n (x ∷ xs) = (if is_referred x.mode then [] else paired (variable_named sc x.variable.name) n) ++ others_paired sc (suc n) xs

abbrev pub locals_paired : Variables → ℕ → List Variable → Pairs
locals_paired sc n [] = []
locals_paired sc n (x ∷ xs) = paired (variable_named sc x.name) n ++ locals_paired sc (suc n) xs

abbrev pub param_names : List Param → Names
param_names xs = map (λ (x : Param). x.variable.name) xs

-- the place of an exit among those of a plan
abbrev pub place_of : Exit → List Leaving → ℕ
place_of x [] = zero
place_of x (y ∷ ys) = if same_exit x y.exit then zero else suc (place_of x ys)

-- a run that is moved by a plan, where the enum of exits is item e
abbrev pub moves_by : Plan → Span → List Around → Variables → ℕ → Moves
moves_by pl s ls sc e = record {
  plan = pl;
  place = s;
  loops = ls;
  scope = sc;
  behind = referred_paired sc 0 pl.params;
  known = param_names pl.params ++ names_of pl.locals;
  enum = e;
  variant = λ x. number (place_of x pl.exits);
}

abbrev pub begun : Plan → Variables → Made
begun pl sc = record { variables = others_paired sc 0 pl.params ++ locals_paired sc (length pl.params) pl.locals; loops = []; passages = [] }

-- ---- types with lifetimes

-- a list of lifetimes, unless there is none
abbrev pub count_if_any : ℕ → Option ℕ
count_if_any zero = None
count_if_any (suc n) = Some (suc n)

-- a type that is written, with a lifetime at each position, is this type
mutual
  pub data SaysFull (P : ProgramTree) (s : Span) (R : Renaming) : Shape Kind → Written → Type 0 where
    full_kind : {n : Node} {k : Kind} → n.span ≡ s → SaysFull P s R (integer k) (named.a_kind n k)
    full_bool : {n : Node} → n.span ≡ s → SaysFull P s R boolean (named.a_bool n)
    full_tuple : {n : Node} {ts : Shapes Kind} {ws : WrittenTypes} → n.span ≡ s → SayAllFull P s R ts ws → SaysFull P s R (tuple_of ts) (named.a_tuple n ws)
    full_reference : {n : Node} {m : Bool} {t : Shape Kind} {w : Written} → n.span ≡ s → SaysFull P s R t w → SaysFull P s R (reference m t) (named.a_reference n m w)
    full_item : {n : Node} {i j : ℕ} → n.span ≡ s → R.item i ≡ j → SaysFull P s R (types.named i) (named.an_item n j (count_if_any (lifetimes_of P i)))

  pub data SayAllFull (P : ProgramTree) (s : Span) (R : Renaming) : Shapes Kind → WrittenTypes → Type 0 where
    full_no_type : SayAllFull P s R no_shape named.no_written
    full_more_types : {t : Shape Kind} {ts : Shapes Kind} {w : Written} {ws : WrittenTypes} → SaysFull P s R t w → SayAllFull P s R ts ws → SayAllFull P s R (shape_and t ts) (named.written_and w ws)

-- ---- the signature

-- a variable behind a reference, or one that corresponds
abbrev pub IsHeld : Moves → Renaming → Bool → ℕ → ℕ → Type 0
IsHeld V R true j n = Has V.behind j n
IsHeld V R false j n = R.variable j n ≡ true

-- the params, from number n on
pub data AreParameters (P : ProgramTree) (V : Moves) (R : Renaming) : ℕ → List Param → List named.Parameter → Type 0 where
  no_parameter : {n : ℕ} → AreParameters P V R n [] []
  a_parameter : {n j : ℕ} {x : Param} {xs : List Param} {w : Written} {ys : List named.Parameter} → variable_named V.scope x.variable.name ≡ Some j → IsHeld V R (is_referred x.mode) j n → SaysFull P V.place R (passed x.mode x.variable.typ) w
      → AreParameters P V R (suc n) xs ys → AreParameters P V R n (x ∷ xs) (record { variable = n; typ = w } ∷ ys)

-- the enum of exits; else nothing, the one type of what Next hands out, or the tuple
pub data IsResult (P : ProgramTree) (V : Moves) (R : Renaming) : Option Written → Type 0 where
  result_enum : {n : Node} → has_enum V.plan.exits ≡ true → n.span ≡ V.place → IsResult P V R (Some (named.an_item n V.enum (count_if_any (enum_positions P V.plan))))
  result_none : has_enum V.plan.exits ≡ false → joined_type (types_of (next_values V.plan)) ≡ None → IsResult P V R None
  result_type : {t : Typ} {w : Written} → has_enum V.plan.exits ≡ false → joined_type (types_of (next_values V.plan)) ≡ Some t → SaysFull P V.place R t w → IsResult P V R (Some w)

-- ---- the whole, beside the statements and the tail of the run; W has the scope behind it

pub record IsNewFunction (P : ProgramTree) (V W : Moves) (R : Renaming) (m : ℕ) (xs : named.Statements) (o : Else) (d : named.Function) : Type 0 where
  pub item : d.item ≡ m
  pub params : AreParameters P V R 0 V.plan.params d.params
  pub result : IsResult P V R d.result
  pub body : IsNewBody V W R xs o d.body

-- the item resolves in the other program as number m, and its tree is this for each renaming in which all correspond that were made
pub record NewFunctionAlike (items : ℕ → ℕ) (P Q : ProgramTree) (V : Moves) (m : ℕ) (f : Function) (ss : Statements) (o : OptionalExpression) (t t' : ItemNames) (behind : Variables) : Type 0 where
  pub tables : ItemNames
  pub resolves : in_item Q m (plain.function_item V.place f) ≡ Ok tables
  pub made : Made
  pub begins : (a b : ℕ) → Has (begun V.plan V.scope).variables a b → Has made.variables a b
  -- the entries of the run in the text
  pub added : List NodeNames
  pub grown : t'.names ≡ t.names ++ added
  pub alike : (R : Renaming) → Serves items made R → (k : Site) (c : Cursor) (rest : List NodeNames) → StandsAt t c → c.names ≡ added ++ rest
      → IsNewFunction P V (record V { scope = behind }) R m (of_statements ss c).0 (of_optional k o (of_statements ss c).1).0 (function_named m V.place f tables.names)
