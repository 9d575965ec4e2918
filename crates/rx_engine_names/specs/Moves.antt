-- What stands in the new function for the special places of a run (Rust Reference, "Dereference expressions", "Break expressions",
-- "Return expressions"): a variable behind a reference, a jump that leaves the run, a return.
use Rattle.std.specs.Prelude.{◌≡◌, ℕ, Bool, true, false, not, ◌&&◌, ◌||◌, List, [], ◌∷◌, ◌++◌, length, Option, Some, None, Ok}
use Rattle.rx_core.specs.declared.types.Span.{Span}
use Rattle.rx_tree.specs.declared.tree.Ident.{Ident}
use Rattle.rx_tree.specs.Lists.{Every, nth}
use Rattle.rx_tree.specs.Plain.{OptionalExpression, Statements}
use Rattle.rx_resolve_names.specs.Scopes.{Variables, variable_named}
use Rattle.rx_resolve_names.specs.Meant.{Around, a_loop, a_test}
use Rattle.rx_resolve_names.specs.Steps.{Inside}
use Rattle.rx_resolve_names.specs.declared.resolved.ItemNames.{ItemNames}
use Rattle.rx_resolve_names.specs.declared.resolved.NodeNames.{NodeNames}
use Rattle.rx_resolve_names.specs.Names.{variant_in, in_optional, in_statements, Scoped}
use Rattle.rx_typed.specs.declared.nodes.Node.{Node}
use Rattle.rx_typed.specs.declared.nodes.Site.{Site}
use Rattle.rx_typed.specs.declared.nodes.Use.{Use}
use Rattle.rx_typed.specs.Named as named
use Rattle.rx_typed.specs.Named.{Exp, Exps, Else}
use Rattle.rx_typed.specs.Naming.{Cursor, of_optional, of_statements}
use Rattle.rx_hoist_extraction.specs.Names.{Names, is_among, behind_all}
use Rattle.rx_hoist_extraction.specs.Run.{numbered}
use Rattle.rx_hoist_extraction.specs.Plan.{Exit, to_next, same_exit, to_break, to_continue, to_return, Plan, has_exit, outs_of, names_of, is_unit, enum_name, exit_name}
use Rattle.rx_hoist_extraction.specs.Made.{ident}
use Rattle.rx_hoist_extraction.specs.Changed.{changed_optional, changed_statements}
use Rattle.rx_hoist_extraction.specs.Moved.{referred, leaves, moving}
use Rattle.rx_engine_names.specs.Renaming.{Renaming, Pairs, Has, Made, Serves}
use Rattle.rx_engine_names.specs.LikeNamed.{Holes, SameSpan, LikeElse, LikeStatements}
use Rattle.rx_engine_names.specs.NamedLifetimes.{AnnotationFits}
use Rattle.rx_engine_names.specs.Within.{Claims, OptionalWithin}

-- ---- the loops round a run; tests are none

abbrev pub labels_of : List Around → List (Option Ident)
labels_of [] = []
labels_of (a_loop l n ∷ ls) = l ∷ labels_of ls
labels_of (a_test ∷ ls) = labels_of ls

abbrev pub numbers_of : List Around → List ℕ
numbers_of [] = []
numbers_of (a_loop l n ∷ ls) = n ∷ numbers_of ls
numbers_of (a_test ∷ ls) = numbers_of ls

-- ---- a run that is moved

pub record Moves : Type 0 where
  pub plan : Plan
  -- the span of the run
  pub place : Span
  -- what stands round the run, and the scope where it begins
  pub loops : List Around
  pub scope : Variables
  -- variables of the text that the new function has behind references, with those that refer to them
  pub behind : Pairs
  -- names of the params and locals
  pub known : Names
  -- the item of the enum of exits, and the number of the variant for each exit
  pub enum : ℕ
  pub variant : Exit → ℕ

-- loop n is number k from the run outwards
abbrev pub IsRound : Moves → ℕ → ℕ → Type 0
IsRound V n k = nth (numbers_of V.loops) k ≡ Some n

-- ---- what may stand there

-- a variable that is handed out, by the name it has where the run begins
pub data IsOut (V : Moves) (R : Renaming) (x : List ℕ) : Exp → Type 0 where
  is_out : {n : Node} {u : Use} {j : ℕ} → n.span ≡ V.place → variable_named V.scope x ≡ Some j → R.variable j u.number ≡ true → IsOut V R x (named.var n u)

pub data AreOuts (V : Moves) (R : Renaming) : Names → Exps → Type 0 where
  no_outs : AreOuts V R [] named.no_exp
  more_outs : {x : List ℕ} {xs : Names} {e : Exp} {es : Exps} → IsOut V R x e → AreOuts V R xs es → AreOuts V R (x ∷ xs) (named.exp_and e es)

-- the variant of an exit with these operands
pub data IsVariant (V : Moves) (x : Exit) (O : Exps → Type 0) : Exp → Type 0 where
  is_variant : {n : Node} {es : Exps} → n.span ≡ V.place → O es → IsVariant V x O (named.variant n V.enum (V.variant x) es)

-- `return` of it, with the exit's outs
pub data Leaves (V : Moves) (R : Renaming) (x : Exit) : Exp → Type 0 where
  leaves_by : {n : Node} {e : Exp} → n.span ≡ V.place → IsVariant V x (AreOuts V R (names_of (outs_of x V.plan.exits))) e → Leaves V R x (named.return n (named.present e))

pub data MovedExp (V : Moves) (R : Renaming) : Exp → Exp → Type 0 where
  through : {n n' m : Node} {u u' : Use} → SameSpan n n' → m.span ≡ V.place → Has V.behind u.number u'.number → MovedExp V R (named.var n u) (named.deref m (named.var n' u'))
  leaves_break : {n : Node} {l k : ℕ} {e : Exp} → IsRound V l k → Leaves V R (to_break k) e → MovedExp V R (named.break n l) e
  leaves_continue : {n : Node} {l k : ℕ} {e : Exp} → IsRound V l k → Leaves V R (to_continue k) e → MovedExp V R (named.continue n l) e

pub data OneExp : Exp → Exps → Type 0 where
  one_exp : {e : Exp} → OneExp e (named.exp_and e named.no_exp)

pub data NoExp : Exps → Type 0 where
  no_operand : NoExp named.no_exp

-- the operand of a return, as it is changed, and what is returned in its place: a unit is bound in front
pub data Returned (V : Moves) : Else → Exp → Type 0 where
  returned_none : {e : Exp} → IsVariant V to_return NoExp e → Returned V named.absent e
  returned_value : {e f : Exp} → is_unit V.plan.result ≡ false → IsVariant V to_return (OneExp e) f → Returned V (named.present e) f
  returned_unit : {n m l p y : Node} {x : ℕ} {e f : Exp} → is_unit V.plan.result ≡ true → IsVariant V to_return NoExp f
      → Returned V (named.present e) (named.block n (named.body m (named.statement_and (named.lets l (named.bind p x false) (Some (named.a_tuple y named.no_written)) e) named.no_statement) (named.present f)))

pub data MovedReturn (V : Moves) : Node → Else → Exp → Type 0 where
  moved_return : {n n' : Node} {o : Else} {e : Exp} → SameSpan n n' → Returned V o e → MovedReturn V n o (named.return n' (named.present e))

abbrev pub moved : Moves → Holes
moved V = record { expression = MovedExp V; returned = λ R. MovedReturn V; annotation = λ R s t t'. ⊥; block = λ R b b'. ⊥; copied = λ s. Unit {0} }

-- ---- what is asked of the names in the run; a is the new function, and what a name means where its copy begins

-- an exit of the plan, whose outs are params or locals by value and hidden by nothing
abbrev pub HandsOut : Moves → Names → Exit → Type 0
HandsOut V own x = (has_exit x V.plan.exits ≡ true) × Every (λ (y : List ℕ). (is_among y own ≡ false) × (is_among y V.known ≡ true) × (is_among y (referred V.plan.params) ≡ false)) (names_of (outs_of x V.plan.exits))

abbrev pub asked : Moves → Inside → Inside → Variables → Claims
asked V I I' sc' = record {
  name = λ x. is_among x V.known ≡ false → (variable_named V.scope x ≡ None) × (variable_named sc' x ≡ None);
  variable = λ own x. (is_among x own || is_among x V.known) ≡ true;
  broken = λ own ls l. (k : ℕ) → leaves l ls ≡ Some k → HandsOut V own (to_break k);
  continued = λ own ls l. (k : ℕ) → leaves l ls ≡ Some k → HandsOut V own (to_continue k);
  returned = has_exit to_return V.plan.exits ≡ true;
  annotation = AnnotationFits I I';
  block = λ own ls b. Unit {0};
}

-- the enum of exits has a variant for each exit of the plan, where one is not Next
abbrev pub ExitsNamed : Moves → Inside → Type 0
ExitsNamed V I' = (x : Exit) → has_exit x V.plan.exits ≡ true → same_exit to_next x ≡ false → variant_in I' (ident V.place (enum_name V.plan)) (ident V.place (exit_name x)) ≡ Ok (V.enum ∷ V.variant x ∷ [])

-- ---- a run in both

-- what stands round the copy: the loops have numbers from one on
abbrev pub rounds : Moves → List Around
rounds V = numbered 1 (labels_of V.loops)

-- whether a variable stands behind a reference tells how it corresponds
abbrev pub Paired : Pairs → Made → Bool → ℕ → ℕ → Type 0
Paired B M true n m = Has B n m
Paired B M false n m = Has M.variables n m

-- where the run and its copy begin, the names of params and locals mean variables that correspond
abbrev pub StartsAlike : Moves → Made → Variables → Type 0
StartsAlike V M start = (x : List ℕ) → is_among x V.known ≡ true
    → (n : ℕ) × (m : ℕ) × (variable_named V.scope x ≡ Some n) × (variable_named start x ≡ Some m) × Paired V.behind M (is_among x (referred V.plan.params)) n m

-- a numbering stands where the tables do
abbrev pub StandsAt : ItemNames → Cursor → Type 0
StandsAt t c = (c.declared ≡ length t.vars) × (length c.loops ≡ length t.loops)

-- Statements that resolve to r from the tables t, and what becomes of them from the tables u: these resolve too, names mean variables that
-- correspond behind both, and the trees are alike for each renaming in which all correspond that were made.
pub record StatementsAlike (items : ℕ → ℕ) (V : Moves) (I' : Inside) (start : Variables) (M : Made) (at' : List ℕ) (i' : ℕ) (ss ss' : Statements) (t u : ItemNames) (r : Scoped) : Type 0 where
  pub scope : Variables
  pub tables : ItemNames
  pub resolves : in_statements I' start [] at' i' ss' u ≡ Ok (record { scope = scope; tables = tables })
  pub made : Made
  pub stays : (n m : ℕ) → Has M.variables n m → Has made.variables n m
  pub names : (x : List ℕ) → (is_among x (behind_all [] ss) || is_among x V.known) ≡ true
      → (n : ℕ) × (m : ℕ) × (variable_named r.scope x ≡ Some n) × (variable_named scope x ≡ Some m) × Paired V.behind made (not (is_among x (behind_all [] ss)) && is_among x (referred V.plan.params)) n m
  pub added : List NodeNames
  pub added' : List NodeNames
  pub grown : r.tables.names ≡ t.names ++ added
  pub grown' : tables.names ≡ u.names ++ added'
  pub alike : (R : Renaming) → Serves items made R → (c c' : Cursor) (rest rest' : List NodeNames) → StandsAt t c → StandsAt u c' → c.names ≡ added ++ rest → c'.names ≡ added' ++ rest'
      → LikeStatements (moved V) R (of_statements ss c).0 (of_statements ss' c').0

-- A tail that resolves from the tables t, and what becomes of it from the tables u, likewise.
pub record TailAlike (items : ℕ → ℕ) (V : Moves) (I' : Inside) (scope : Variables) (M : Made) (at' : List ℕ) (o o' : OptionalExpression) (t t' u : ItemNames) : Type 0 where
  pub tables : ItemNames
  pub resolves : in_optional I' scope [] at' o' u ≡ Ok tables
  pub made : Made
  pub stays : (n m : ℕ) → Has M.variables n m → Has made.variables n m
  pub added : List NodeNames
  pub added' : List NodeNames
  pub grown : t'.names ≡ t.names ++ added
  pub grown' : tables.names ≡ u.names ++ added'
  pub alike : (R : Renaming) → Serves items made R → (k k' : Site) (c c' : Cursor) (rest rest' : List NodeNames) → StandsAt t c → StandsAt u c' → c.names ≡ added ++ rest → c'.names ≡ added' ++ rest'
      → LikeElse (moved V) R (of_optional k o c).0 (of_optional k' o' c').0

-- statements of a run, and a tail behind them wherever it stands in the new function
pub record RunAlike (items : ℕ → ℕ) (V : Moves) (I I' : Inside) (start : Variables) (M : Made) (at' : List ℕ) (i' : ℕ) (ss : Statements) (t u : ItemNames) (r : Scoped) : Type 0 where
  pub statements : StatementsAlike items V I' start M at' i' ss (changed_statements (moving V.plan V.place) [] (rounds V) ss) t u r
  pub tail : (o : OptionalExpression) → OptionalWithin (asked V I I' start) (behind_all [] ss) (rounds V) o → (at at' : List ℕ) (t' v : ItemNames) → in_optional I r.scope V.loops at o r.tables ≡ Ok t'
      → TailAlike items V I' statements.scope statements.made at' o (changed_optional (moving V.plan V.place) (behind_all [] ss) (rounds V) o) r.tables t' v
