-- The parts of a text, and from where each is numbered where a whole is (Rust Reference, "Expressions", "Statements"): the parts of a part, each where the numbering
-- comes to it, and those to which the numbering of a whole comes at all, as that of a function's body comes to its run.
use Rattle.std.specs.Prelude.{◌≡◌, ℕ, Bool, true, false, List, [], ◌∷◌, Option, Some, None}
use Rattle.rx_core.specs.declared.types.Span.{Span}
use Rattle.rx_tree.specs.Lists.{nth}
use Rattle.rx_tree.specs.Plain as plain
use Rattle.rx_tree.specs.Plain.{Arms, Body, Expression, Expressions, FieldExpressions, Function, OptionalExpression, OptionalExpressions, PatternTree, Statement, Statements, TypeTree}
use Rattle.rx_tree.specs.Spans.{body_span}
use Rattle.rx_resolve_names.specs.declared.resolved.NodeNames.{NodeNames}
use Rattle.rx_typed.specs.declared.nodes.Node.{Node}
use Rattle.rx_typed.specs.declared.nodes.Site.{Site}
use Rattle.rx_typed.specs.Named.{root, some_diverges}
use Rattle.rx_typed.specs.Naming.{a_loop, a_node, an_entry, annotates, begins, branch_site, entry_if, has_entry, initialiser_site, known_between, of_body, of_expression, of_optional_type, of_parameters, of_pattern, of_statement, of_statements, passed_on, waits_in, Cursor}
use Rattle.rx_hoist_extraction.specs.Run.{as_statements}

-- with what its place makes of its value
pub data Part : Type 0 where
  an_expression : Bool → Site → Expression → Part
  some_expressions : Site → Expressions → Part
  an_optional : Site → OptionalExpression → Part
  some_arguments : OptionalExpressions → Part
  some_fields : FieldExpressions → Part
  some_arms : Site → Arms → Part
  a_body : Site → Body → Part
  a_statement : Statement → Part
  some_statements : Statements → Part

-- a part, and from where it is numbered
abbrev pub Placed : Type 0
Placed = Part × Cursor

-- ---- where the text has come to

-- behind a node, behind one with an entry of names, and in a loop
abbrev pub behind : Span → Site → Cursor → Cursor
behind s t c = (a_node s t c).1

abbrev pub behind_named : Span → Site → Cursor → Cursor
behind_named s t c = (an_entry (behind s t c)).1

abbrev pub in_loop : Span → Site → Cursor → Cursor
in_loop s t c = (a_loop (behind s t c)).1

-- behind an expression
abbrev pub over : Bool → Site → Expression → Cursor → Cursor
over m t e c = (of_expression m t e c).1

-- behind a pattern and what is matched with it, where its variables are known; and in an arm
abbrev pub matched : PatternTree → Expression → Cursor → Cursor
matched p e c = (known_between c.declared (of_pattern p c).1.declared (over false Site.Scrutinee e (of_pattern p c).1)).1

abbrev pub in_arm : PatternTree → Cursor → Cursor
in_arm p c = (known_between c.declared (of_pattern p c).1.declared (of_pattern p c).1).1

-- behind the pattern of a `let`
abbrev pub in_let : Span → PatternTree → Option TypeTree → Cursor → Cursor
in_let s p y c = (of_pattern p (annotates p y (behind s Site.Value c)).1).1

-- where arguments stand, of a callee that is hidden or not; and what is assigned to a variable that waits for its type or to anything else
abbrev pub arguments_at : Bool → Site
arguments_at true = Site.Value
arguments_at false = Site.Expects

abbrev pub assigned_at : Option (ℕ × ℕ) → Site
assigned_at None = Site.Expects
assigned_at (Some w) = Site.Reborrows

-- whether the left side of an assignment waits for its type
abbrev pub waits_left : Expression → Cursor → Option (ℕ × ℕ)
waits_left p c = waits_in p (root (of_expression false Site.Place p c).0).number (over false Site.Place p c)

-- ---- the parts of a part, in order

abbrev pub in_expression : Site → Expression → Cursor → List Placed
in_expression t (plain.tuple s es) c = (some_expressions Site.Value es, behind s t c) ∷ []
in_expression t (plain.field s e x) c = (an_expression false Site.Place e, behind s t c) ∷ []
in_expression t (plain.part s e i) c = (an_expression false Site.Place e, behind s t c) ∷ []
in_expression t (plain.deref s e) c = (an_expression false Site.Place e, behind s t c) ∷ []
in_expression t (plain.negate s e) c = (an_expression true Site.Value e, behind s t c) ∷ []
in_expression t (plain.invert s e) c = (an_expression false Site.Value e, behind s t c) ∷ []
in_expression t (plain.borrow s w e) c = (an_expression false Site.Place e, behind s t c) ∷ []
in_expression t (plain.binary s o a b) c = (an_expression false Site.Value a, behind s t c) ∷ (an_expression false Site.Value b, over false Site.Value a (behind s t c)) ∷ []
in_expression t (plain.assign s p e) c = (an_expression false Site.Place p, behind s t c) ∷ (an_expression false (assigned_at (waits_left p (behind s t c))) e, over false Site.Place p (behind s t c)) ∷ []
in_expression t (plain.update s o p e) c = (an_expression false Site.Place p, behind s t c) ∷ (an_expression false Site.Value e, over false Site.Place p (behind s t c)) ∷ []
in_expression t (plain.call s f es) c = (some_expressions (arguments_at (an_entry (behind s t c)).0.1) es, behind_named s t c) ∷ []
in_expression t (plain.variant s a v es) c = (some_arguments es, behind_named s t c) ∷ []
in_expression t (plain.make s x fs) c = (some_fields fs, behind_named s t c) ∷ []
in_expression t (plain.print s e) c = (an_expression false Site.Value e, behind s t c) ∷ []
in_expression t (plain.block s b) c = (a_body (passed_on t) b, behind s t c) ∷ []
in_expression t (plain.if s e b o) c = (an_expression false Site.Value e, behind s t c) ∷ (a_body (branch_site t o) b, over false Site.Value e (behind s t c))
    ∷ (an_optional (passed_on t) o, (of_body (branch_site t o) b (over false Site.Value e (behind s t c))).1) ∷ []
in_expression t (plain.if_let s p e b o) c = (an_expression false Site.Scrutinee e, (of_pattern p (behind s t c)).1) ∷ (a_body (branch_site t o) b, matched p e (behind s t c))
    ∷ (an_optional (passed_on t) o, (of_body (branch_site t o) b (matched p e (behind s t c))).1) ∷ []
in_expression t (plain.match s e l) c = (an_expression false Site.Scrutinee e, behind s t c) ∷ (some_arms (passed_on t) l, over false Site.Scrutinee e (behind s t c)) ∷ []
in_expression t (plain.loop s l b) c = (a_body Site.Value b, in_loop s t c) ∷ []
in_expression t (plain.while s l e b) c = (an_expression false Site.Value e, in_loop s t c) ∷ (a_body Site.Value b, over false Site.Value e (in_loop s t c)) ∷ []
in_expression t (plain.while_let s l p e b) c = (an_expression false Site.Scrutinee e, (of_pattern p (in_loop s t c)).1) ∷ (a_body Site.Value b, matched p e (in_loop s t c)) ∷ []
in_expression t (plain.return s o) c = (an_optional Site.Expects o, behind s t c) ∷ []
in_expression t _ c = []

abbrev pub in_part : Part → Cursor → List Placed
in_part (an_expression m t e) c = in_expression t e c
in_part (some_expressions t plain.no_expression) c = []
in_part (some_expressions t (plain.expression_and e es)) c = (an_expression false t e, c) ∷ (some_expressions t es, over false t e c) ∷ []
in_part (an_optional t plain.absent) c = []
in_part (an_optional t (plain.present e)) c = (an_expression false t e, c) ∷ []
in_part (some_arguments plain.no_list) c = []
in_part (some_arguments (plain.a_list es)) c = (some_expressions Site.Expects es, c) ∷ []
in_part (some_fields plain.no_field) c = []
in_part (some_fields (plain.field_and x e fs)) c = (an_expression false Site.Expects e, c) ∷ (some_fields fs, over false Site.Expects e c) ∷ []
in_part (some_arms t plain.no_arm) c = []
in_part (some_arms t (plain.arm_and p e l)) c = (an_expression false t e, in_arm p c) ∷ (some_arms t l, over false t e (in_arm p c)) ∷ []
in_part (a_body t (plain.body s ss o)) c = (some_statements ss, behind s t c) ∷ (an_optional t o, (of_statements ss (behind s t c)).1) ∷ []
in_part (a_statement (plain.let_statement s p y plain.absent)) c = []
in_part (a_statement (plain.let_statement s p y (plain.present e))) c = (an_expression false (initialiser_site (of_optional_type y (in_let s p y c)).0) e, (of_optional_type y (in_let s p y c)).1) ∷ []
in_part (a_statement (plain.expression_statement s e b)) c = (an_expression false Site.Value e, behind s Site.Value c) ∷ []
in_part (some_statements plain.no_statement) c = []
in_part (some_statements (plain.statement_and a ss)) c = (a_statement a, c) ∷ (some_statements ss, (of_statement a c).1) ∷ []

-- ---- to what the numbering of a whole comes

pub data Comes (whole : Placed) : Part → Cursor → Type 0 where
  the_whole : Comes whole whole.0 whole.1
  goes_in : {x y : Part} {c d : Cursor} → Comes whole x c → (n : ℕ) → nth (in_part x c) n ≡ Some (y, d) → Comes whole y d

-- the body of a function
abbrev pub body_of : Span → Function → List NodeNames → Placed
body_of s f ns = (a_body Site.Expects f.body, (of_optional_type f.result (of_parameters f.params (entry_if (has_entry f) (behind s Site.Value (begins ns))).1).1).1)

-- where a run is come to, behind these statements of its block
pub record RunComes (whole : Placed) (block : Body) (front : List plain.Statement) (c : Cursor) : Type 0 where
  pub site : Site
  pub start : Cursor
  pub comes : Comes whole (a_body site block) start
  pub is : c ≡ (of_statements (as_statements front) (behind (body_span block) site start)).1

-- its block stands there at this site
abbrev pub RunComesAt : Placed → Body → List plain.Statement → Site → Cursor → Type 0
RunComesAt whole block front t c = (x : RunComes whole block front c) × (x.site ≡ t)

-- its block has this node there, and what stands in front of the run in it diverges or not
abbrev pub RunEnds : Placed → Body → List plain.Statement → Node → Bool → Cursor → Type 0
RunEnds whole block front n d c = (x : RunComes whole block front c) × ((a_node (body_span block) x.site x.start).0 ≡ n) × (some_diverges (of_statements (as_statements front) (behind (body_span block) x.site x.start)).0 ≡ d)
