-- A block in which other statements stand for some of its statements (Rust Reference, "Block expressions"): what stands in front and
-- behind is copied.
use Rattle.std.specs.Prelude.{◌≡◌, ℕ, zero, suc, true, false, List, [], ◌++◌, length, Option, Some, None, Ok}
use Rattle.rx_tree.specs.declared.tree.Ident.{Ident}
use Rattle.rx_tree.specs.Plain.{OptionalExpression, Body, Statement}
use Rattle.rx_resolve_names.specs.Scopes.{Variables, variable_named}
use Rattle.rx_resolve_names.specs.declared.resolved.ItemNames.{ItemNames}
use Rattle.rx_resolve_names.specs.declared.resolved.NodeNames.{NodeNames}
use Rattle.rx_resolve_names.specs.Meant.{Around, to_loop, target}
use Rattle.rx_resolve_names.specs.Steps.{Inside}
use Rattle.rx_resolve_names.specs.Names.{in_statements, in_optional, in_block, Scoped}
use Rattle.rx_typed.specs.declared.nodes.Node.{Node}
use Rattle.rx_typed.specs.declared.nodes.Site.{Site}
use Rattle.rx_typed.specs.Named as named
use Rattle.rx_typed.specs.Named.{Else}
use Rattle.rx_typed.specs.Naming.{Cursor, of_optional, of_statements, of_body}
use Rattle.rx_hoist_extraction.specs.Names.{Names, is_among, behind_all}
use Rattle.rx_hoist_extraction.specs.Run.{as_statements}
use Rattle.rx_engine_names.specs.Renaming.{Renaming, Has, HasPassage, Made, Passage, Serves}
use Rattle.rx_engine_names.specs.LikeNamed.{no_holes, SameSpan, LikeElse, LikeStatements}
use Rattle.rx_engine_names.specs.Within.{Claims, OptionalWithin, StatementsWithin}
use Rattle.rx_engine_names.specs.Moves.{StandsAt}

-- statements in a row
abbrev pub joined : named.Statements → named.Statements → named.Statements
joined named.no_statement ys = ys
joined (named.statement_and x xs) ys = named.statement_and x (joined xs ys)

abbrev pub many : named.Statements → ℕ
many named.no_statement = zero
many (named.statement_and x xs) = suc (many xs)

-- behind so many statements
pub data Replaced (R : Renaming) (front : ℕ) (P : named.Statements → named.Statements → Type 0) : named.Body → named.Body → Type 0 where
  replaced : {n n' : Node} {o o' : Else} (a a' x y b b' : named.Statements) → many a ≡ front → SameSpan n n' → LikeStatements no_holes R a a' → P x y → LikeStatements no_holes R b b' → LikeElse no_holes R o o'
      → Replaced R front P (named.body n (joined a (joined x b)) o) (named.body n' (joined a' (joined y b')) o')

-- these names mean variables that correspond, and jumps lead to loops that do
abbrev pub NamesAlike : Made → Names → Variables → Variables → Type 0
NamesAlike M xs sc sc' = (x : List ℕ) → is_among x xs ≡ true → (n : ℕ) × (m : ℕ) × (variable_named sc x ≡ Some n) × (variable_named sc' x ≡ Some m) × Has M.variables n m

abbrev pub LoopsAlike : Made → List Around → List Around → Type 0
LoopsAlike M ls ls' = (l : Option Ident) (n : ℕ) → target l ls ≡ to_loop n → (m : ℕ) × (target l ls' ≡ to_loop m) × Has M.loops n m

-- a part names variables with names that are bound round it alone, from these on; other names of callees mean no variable
abbrev pub only : Names → Variables → Variables → Claims
only xs sc sc' = record {
  name = λ x. is_among x xs ≡ false → (variable_named sc x ≡ None) × (variable_named sc' x ≡ None);
  variable = λ own x. is_among x own ≡ true;
  broken = λ own ls l. Unit {0};
  continued = λ own ls l. Unit {0};
  returned = Unit {0};
  annotation = λ y. Unit {0};
  block = λ own ls b. Unit {0};
}

pub record Keeps (M M' : Made) : Type 0 where
  pub variables : (n m : ℕ) → Has M.variables n m → Has M'.variables n m
  pub loops : (n m : ℕ) → Has M.loops n m → Has M'.loops n m
  pub passages : (x : Passage) → HasPassage M.passages x → HasPassage M'.passages x

-- Statements that stand for others, where the scope of the text behind those is given: they resolve, names behind them mean variables
-- that correspond, and what follows names no others.
pub record Stands (I' : Inside) (ls' : List Around) (M : Made) (sc' : Variables) (at' : List ℕ) (i' : ℕ) (call : List Statement) (sc : Variables) (behind : List Statement) (o : OptionalExpression) (u : ItemNames) : Type 0 where
  pub names : Names
  pub made : Made
  pub stays : Keeps M made
  pub scope : Variables
  pub tables : ItemNames
  pub resolves : in_statements I' sc' ls' at' i' (as_statements call) u ≡ Ok (record { scope = scope; tables = tables })
  pub alike : NamesAlike made names sc scope
  pub follows : StatementsWithin (only names sc scope) names [] (as_statements behind)
  pub ends : OptionalWithin (only names sc scope) (behind_all names (as_statements behind)) [] o

-- the tree of statements behind those in front: their numbering where these have been come to
pub record NumberedBehind (I : Inside) (sc : Variables) (ls : List Around) (at : List ℕ) (front run : List Statement) (t : ItemNames) (x : named.Statements) : Type 0 where
  pub middle : Scoped
  pub comes : in_statements I sc ls at 0 (as_statements front) t ≡ Ok middle
  pub place : ℕ
  pub end : Scoped
  pub goes : in_statements I middle.scope ls at place (as_statements run) middle.tables ≡ Ok end
  pub added : List NodeNames
  pub grown : end.tables.names ≡ middle.tables.names ++ added
  pub cursor : Cursor
  pub rest : List NodeNames
  pub stands : StandsAt middle.tables cursor
  pub names : cursor.names ≡ added ++ rest
  pub is : x ≡ (of_statements (as_statements run) cursor).0

-- statements of the text in a block, and those that stand for them
abbrev pub BothBehind : Inside → Inside → Variables → Variables → List Around → List Around → List ℕ → List ℕ → List Statement → List Statement → List Statement → ItemNames → ItemNames → named.Statements → named.Statements → Type 0
BothBehind I I' sc sc' ls ls' at at' front run call t u x y = NumberedBehind I sc ls at front run t x × NumberedBehind I' sc' ls' at' front call u y

-- a block that resolves, and one with other statements in it, which does too; their trees are alike but for these
pub record BlocksAlike (items : ℕ → ℕ) (I I' : Inside) (M : Made) (sc sc' : Variables) (ls ls' : List Around) (at at' : List ℕ) (b b' : Body) (front run call : List Statement) (t t' u : ItemNames) : Type 0 where
  pub tables : ItemNames
  pub resolves : in_block I' sc' ls' at' b' u ≡ Ok tables
  pub made : Made
  pub stays : Keeps M made
  pub added : List NodeNames
  pub added' : List NodeNames
  pub grown : t'.names ≡ t.names ++ added
  pub grown' : tables.names ≡ u.names ++ added'
  pub alike : (R : Renaming) → Serves items made R → (k k' : Site) (c c' : Cursor) (rest rest' : List NodeNames) → StandsAt t c → StandsAt u c' → c.names ≡ added ++ rest → c'.names ≡ added' ++ rest'
      → Replaced R (length front) (BothBehind I I' sc sc' ls ls' at at' front run call t u) (of_body k b c).0 (of_body k' b' c').0

-- ---- where the tail is replaced too

pub data EndReplaced (R : Renaming) (front : ℕ) (P : named.Statements → Else → named.Statements → Else → Type 0) : named.Body → named.Body → Type 0 where
  end_replaced : {n n' : Node} {o o' : Else} (a a' x y : named.Statements) → many a ≡ front → SameSpan n n' → LikeStatements no_holes R a a' → P x o y o' → EndReplaced R front P (named.body n (joined a x) o) (named.body n' (joined a' y) o')

-- statements and a tail that resolve
pub record StandsLast (I' : Inside) (ls' : List Around) (sc' : Variables) (at' : List ℕ) (i' : ℕ) (last : List ℕ) (call : List Statement) (o' : OptionalExpression) (u : ItemNames) : Type 0 where
  pub end : Scoped
  pub goes : in_statements I' sc' ls' at' i' (as_statements call) u ≡ Ok end
  pub tables : ItemNames
  pub ends : in_optional I' end.scope ls' last o' end.tables ≡ Ok tables

-- the trees of both: their numbering where the front has been come to
pub record NumberedLast (I : Inside) (sc : Variables) (ls : List Around) (at : List ℕ) (front run : List Statement) (tail : OptionalExpression) (t : ItemNames) (x : named.Statements) (z : Else) : Type 0 where
  pub middle : Scoped
  pub comes : in_statements I sc ls at 0 (as_statements front) t ≡ Ok middle
  pub place : ℕ
  pub way : List ℕ
  pub resolves : StandsLast I ls middle.scope at place way run tail middle.tables
  pub added : List NodeNames
  pub grown : resolves.tables.names ≡ middle.tables.names ++ added
  pub cursor : Cursor
  pub rest : List NodeNames
  pub stands : StandsAt middle.tables cursor
  pub names : cursor.names ≡ added ++ rest
  pub site : Site
  pub is : x ≡ (of_statements (as_statements run) cursor).0
  pub is_last : z ≡ (of_optional site tail (of_statements (as_statements run) cursor).1).0

abbrev pub BothLast : Inside → Inside → Variables → Variables → List Around → List Around → List ℕ → List ℕ → List Statement → List Statement → List Statement → OptionalExpression → OptionalExpression → ItemNames → ItemNames → named.Statements → Else → named.Statements → Else → Type 0
BothLast I I' sc sc' ls ls' at at' front run call tail last t u x o y o' = NumberedLast I sc ls at front run tail t x o × NumberedLast I' sc' ls' at' front call last u y o'

pub record EndsAlike (items : ℕ → ℕ) (I I' : Inside) (M : Made) (sc sc' : Variables) (ls ls' : List Around) (at at' : List ℕ) (b b' : Body) (front run call : List Statement) (tail last : OptionalExpression) (t t' u : ItemNames) : Type 0 where
  pub tables : ItemNames
  pub resolves : in_block I' sc' ls' at' b' u ≡ Ok tables
  pub made : Made
  pub stays : Keeps M made
  pub added : List NodeNames
  pub added' : List NodeNames
  pub grown : t'.names ≡ t.names ++ added
  pub grown' : tables.names ≡ u.names ++ added'
  pub alike : (R : Renaming) → Serves items made R → (k k' : Site) (c c' : Cursor) (rest rest' : List NodeNames) → StandsAt t c → StandsAt u c' → c.names ≡ added ++ rest → c'.names ≡ added' ++ rest'
      → EndReplaced R (length front) (BothLast I I' sc sc' ls ls' at at' front run call tail last t u) (of_body k b c).0 (of_body k' b' c').0
