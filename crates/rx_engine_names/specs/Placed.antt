-- Where a block stands in a function (Rust Reference, "Block expressions", "Scopes", "Loop labels"), and the block with other statements
-- in it that stands there in the second: the hole for it.
use Rattle.std.specs.Prelude.{◌≡◌, ◌≤◌, ◌<◌, ◌⊎◌, ℕ, true, false, List, [], ◌++◌, Option, Some, None, Ok, length}
use Rattle.rx_tree.specs.declared.tree.Ident.{Ident}
use Rattle.rx_core.specs.declared.types.Span.{Span}
use Rattle.rx_tree.specs.Plain as plain
use Rattle.rx_tree.specs.Plain.{PatternTree, OptionalExpression, Body, Statement, Function, ProgramTree}
use Rattle.rx_tree.specs.Positions.{a_block, a_pattern, descend}
use Rattle.rx_tree.specs.Spans.{body_span}
use Rattle.rx_resolve_names.specs.Scopes.{Variables, variable_named}
use Rattle.rx_resolve_names.specs.declared.resolved.ItemNames.{ItemNames}
use Rattle.rx_resolve_names.specs.declared.resolved.NodeNames.{NodeNames}
use Rattle.rx_resolve_names.specs.Meant.{number, firsts, lifetimes_declared, Around, to_loop, target}
use Rattle.rx_resolve_names.specs.Steps.{Inside}
use Rattle.rx_resolve_names.specs.Names.{in_block, Scoped}
use Rattle.rx_typed.specs.declared.nodes.Site.{Site}
use Rattle.rx_typed.specs.Named as named
use Rattle.rx_typed.specs.Named.{Else}
use Rattle.rx_typed.specs.Naming.{Cursor, of_body, function_named}
use Rattle.rx_hoist_extraction.specs.Changed.{changed_body}
use Rattle.rx_hoist_extraction.specs.Extraction.{replacing}
use Rattle.rx_resolve_names.specs.Items.{in_item}
use Rattle.rx_hoist_extraction.specs.Names.{is_among, bound, behind_all}
use Rattle.rx_hoist_extraction.specs.Run.{as_statements, same_place, labels_on}
use Rattle.rx_engine_names.specs.Renaming.{Renaming, Made, Serves}
use Rattle.rx_engine_names.specs.LikeNamed.{Holes, no_holes, LikeFunction}
use Rattle.rx_engine_names.specs.Alike.{with_body}
use Rattle.rx_engine_names.specs.Apart.{NoneAcross, OneToOne}
use Rattle.rx_engine_names.specs.Insertion.{Inserted, number_there}
use Rattle.rx_engine_names.specs.Within.{Claims}
use Rattle.rx_engine_names.specs.Moves.{StandsAt, labels_of}
use Rattle.rx_engine_names.specs.Replaced.{Replaced, NumberedBehind, EndReplaced, NumberedLast}

-- a way leads to the block, and no other way to one with its place
pub record StandsAlone (b : Body) (way : List ℕ) (whole : Body) : Type 0 where
  pub there : descend (Some (a_block whole)) way ≡ Some (a_block b)
  pub alone : (other : List ℕ) (c : Body) → descend (Some (a_block whole)) other ≡ Some (a_block c) → same_place (body_span b) (body_span c) ≡ true → other ≡ way

-- no pattern in a function's body binds the name
abbrev pub BindsNot : List ℕ → Body → Type 0
BindsNot name whole = (way : List ℕ) (p : PatternTree) → descend (Some (a_block whole)) way ≡ Some (a_pattern p) → is_among name (bound p) ≡ false

-- the labels of the loops on a way to it
abbrev pub labels_at : List ℕ → Body → List (Option Ident)
labels_at way whole = labels_on (Some (a_block whole)) way []

-- where the names of a function stand
abbrev pub inside_of : ProgramTree → ℕ → Span → Function → Inside
inside_of P n s f = record { program = P; item = number n; lifetimes = firsts [] 0 (lifetimes_declared (plain.function_item s f)) }

-- ---- what names mean in two scopes

-- nothing in both, or variables that correspond
abbrev pub Meet : (ℕ → ℕ → Type 0) → Option ℕ → Option ℕ → Type 0
Meet V None None = Unit {0}
Meet V (Some n) (Some m) = V n m
Meet V None (Some m) = ⊥
Meet V (Some n) None = ⊥

abbrev pub AllMeet : (ℕ → ℕ → Type 0) → Variables → Variables → Type 0
AllMeet V sc sc' = (x : List ℕ) → Meet V (variable_named sc x) (variable_named sc' x)

-- statements and those that stand for them bind a name, or neither do
abbrev pub Agree : List Statement → List Statement → List ℕ → Type 0
Agree run call x = is_among x (behind_all [] (as_statements run)) ≡ is_among x (behind_all [] (as_statements call))

-- behind them, a name of which this isn't so means what was bound since, and is no callee's
abbrev pub agreed : List Statement → List Statement → Claims
agreed run call = record {
  name = Agree run call;
  variable = λ own x. is_among x own ≡ false → Agree run call x;
  broken = λ own ls l. Unit {0};
  continued = λ own ls l. Unit {0};
  returned = Unit {0};
  annotation = λ y. Unit {0};
  block = λ own ls b. Unit {0};
}

-- ---- the hole

-- where a block is come to in both: scopes, what stands round it, ways, tables
pub record Place : Type 0 where
  pub scope : Variables
  pub start : Variables
  pub around : List Around
  pub round : List Around
  pub way : List ℕ
  pub way' : List ℕ
  pub tables : ItemNames
  pub tables' : ItemNames

-- a block that resolves, and its tree
pub record Treed (I : Inside) (sc : Variables) (ls : List Around) (at : List ℕ) (b : Body) (t : ItemNames) (x : named.Body) : Type 0 where
  pub end : ItemNames
  pub resolves : in_block I sc ls at b t ≡ Ok end
  pub added : List NodeNames
  pub grown : end.names ≡ t.names ++ added
  pub site : Site
  pub cursor : Cursor
  pub rest : List NodeNames
  pub stands : StandsAt t cursor
  pub names : cursor.names ≡ added ++ rest
  pub is : x ≡ (of_body site b cursor).0

pub record InPlace (I I' : Inside) (b b' : Body) (labels : List (Option Ident)) (P : Place → Renaming → named.Body → named.Body → Type 0) (R : Renaming) (x y : named.Body) : Type 0 where
  pub place : Place
  pub first : Treed I place.scope place.around place.way b place.tables x
  pub second : Treed I' place.start place.round place.way' b' place.tables' y
  pub labels_are : labels_of place.around ≡ labels
  pub names : AllMeet (λ n m. R.variable n m ≡ true) place.scope place.start
  pub loops : (l : Option Ident) (n : ℕ) → target l place.around ≡ to_loop n → (m : ℕ) × (target l place.round ≡ to_loop m) × (R.loop n m ≡ true)
  pub like : P place R x y

-- ---- statements that stand for a run

-- What is told of their tree: in the text the scope where the run begins, and what stands round it; in the second the scope and the tables
-- there, and the scope and the tables behind.
abbrev pub Told : Type 1
Told = Variables → List Around → Variables → ItemNames → Scoped → Renaming → named.Statements → Type 0

-- a name that both bind means these behind them
abbrev pub NamedByBoth : List Statement → List Statement → Variables → Variables → ℕ → ℕ → Type 0
NamedByBoth run call sc sc' n m = (z : List ℕ) × (is_among z (behind_all [] (as_statements run)) ≡ true) × (is_among z (behind_all [] (as_statements call)) ≡ true) × (variable_named sc z ≡ Some n) × (variable_named sc' z ≡ Some m)

-- in front of both, names mean what corresponds, and behind them, where both bind a name or neither does
pub record StandFor (T : Told) (I I' : Inside) (front run call : List Statement) (p : Place) (R : Renaming) (x y : named.Statements) : Type 0 where
  pub text : NumberedBehind I p.scope p.around p.way front run p.tables x
  pub made : NumberedBehind I' p.start p.round p.way' front call p.tables' y
  pub names : AllMeet (λ n m. R.variable n m ≡ true) text.middle.scope made.middle.scope
  -- and they were declared there
  pub earlier : AllMeet (λ n m. (n < length text.middle.tables.vars) × (m < length made.middle.tables.vars)) text.middle.scope made.middle.scope
  pub behind : (z : List ℕ) → Agree run call z → Meet (λ n m. R.variable n m ≡ true) (variable_named text.end.scope z) (variable_named made.end.scope z)
  -- variables that correspond stand both in front, or a name that both bind means them behind, or both come behind
  pub variables : (n m : ℕ) → R.variable n m ≡ true → ((n < length text.middle.tables.vars) × (m < length made.middle.tables.vars)) ⊎ (NamedByBoth run call text.end.scope made.end.scope n m ⊎ ((length text.end.tables.vars ≤ n) × (length made.end.tables.vars ≤ m)))
  pub loops : (n m : ℕ) → R.loop n m ≡ true → ((n < length text.middle.tables.loops) × (m < length made.middle.tables.loops)) ⊎ ((length text.end.tables.loops ≤ n) × (length made.end.tables.loops ≤ m))
  pub told : T text.middle.scope p.around made.middle.scope made.middle.tables made.end R y

abbrev pub by_others : Told → Inside → Inside → List Statement → List Statement → List Statement → Place → Renaming → named.Body → named.Body → Type 0
by_others T I I' front run call p R = Replaced R (length front) (StandFor T I I' front run call p R)

-- the same with a tail
abbrev pub ToldLast : Type 1
ToldLast = Variables → List Around → Variables → ItemNames → Scoped → Renaming → named.Statements → Else → Type 0

pub record EndFor (T : ToldLast) (I I' : Inside) (front run call : List Statement) (tail last : OptionalExpression) (p : Place) (R : Renaming) (x : named.Statements) (o : Else) (y : named.Statements) (o' : Else) : Type 0 where
  pub text : NumberedLast I p.scope p.around p.way front run tail p.tables x o
  pub made : NumberedLast I' p.start p.round p.way' front call last p.tables' y o'
  pub names : AllMeet (λ n m. R.variable n m ≡ true) text.middle.scope made.middle.scope
  pub earlier : AllMeet (λ n m. (n < length text.middle.tables.vars) × (m < length made.middle.tables.vars)) text.middle.scope made.middle.scope
  -- what corresponds stands both in front, or both behind
  pub variables : (n m : ℕ) → R.variable n m ≡ true → ((n < length text.middle.tables.vars) × (m < length made.middle.tables.vars)) ⊎ ((length text.resolves.tables.vars ≤ n) × (length made.resolves.tables.vars ≤ m))
  pub loops : (n m : ℕ) → R.loop n m ≡ true → ((n < length text.middle.tables.loops) × (m < length made.middle.tables.loops)) ⊎ ((length text.resolves.tables.loops ≤ n) × (length made.resolves.tables.loops ≤ m))
  pub told : T text.middle.scope p.around made.middle.scope made.middle.tables made.resolves.end R y o'

abbrev pub by_an_end : ToldLast → Inside → Inside → List Statement → List Statement → List Statement → OptionalExpression → OptionalExpression → Place → Renaming → named.Body → named.Body → Type 0
by_an_end T I I' front run call tail last p R = EndReplaced R (length front) (EndFor T I I' front run call tail last p R)

abbrev pub put_in : Inside → Inside → Body → Body → List (Option Ident) → (Place → Renaming → named.Body → named.Body → Type 0) → Holes
put_in I I' b b' labels P = record no_holes { block = InPlace I I' b b' labels P; copied = λ s. same_place (body_span b) s ≡ false }

-- a function of which the run's block becomes another: it resolves, variables and loops correspond one to one, none across that
-- block, and the trees are alike but there
abbrev pub LikeButFor : (p q : ProgramTree) (c : Inserted p q) (n m : ℕ) (s : Span) (f : Function) (old new : Body) (labels : List (Option Ident)) (P : Place → Renaming → named.Body → named.Body → Type 0) (t : ItemNames) → Type 0
LikeButFor p q c n m s f old new labels P t = (u : ItemNames) × (in_item q m (plain.function_item s (with_body (changed_body (replacing (body_span old) new) [] [] f.body) f)) ≡ Ok u) × (made : Made) × OneToOne made.variables (length t.vars) (length u.vars) × OneToOne made.loops (length t.loops) (length u.loops)
    × NoneAcross made (length t.vars) (length u.vars) (length t.loops) (length u.loops)
    × ((R : Renaming) → Serves (number_there c) made R → LikeFunction (put_in (inside_of p n s f) (inside_of q m s f) old new labels P) R (function_named n s f t.names) (function_named m s (with_body (changed_body (replacing (body_span old) new) [] [] f.body) f) u.names))
