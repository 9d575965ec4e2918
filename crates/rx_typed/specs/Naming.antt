-- The tree with numbers of a function: nodes are numbered in the order of the text, names by the tables of `resolve`.
use Rattle.std.specs.Prelude.{ℕ, zero, suc, Bool, true, false, not, ◌&&◌, ◌||◌, if◌then◌else◌, List, [], ◌∷◌, ◌++◌, length, get_or, map, take, drop, ◌-◌, Option, Some, None, option_map, slice_get, slice_set}
use Rattle.rx_core.specs.declared.types.Span.{Span}
use Rattle.rx_tree.specs.declared.tree.Ident.{Ident}
use Rattle.rx_tree.specs.declared.tree.BoundLifetime.{BoundLifetime}
use Rattle.rx_tree.specs.Plain as plain
use Rattle.rx_tree.specs.Plain.{TypeTree, TypeTrees, PatternTree, PatternTrees, FieldPatterns, Expression, Expressions, OptionalExpression, OptionalExpressions, FieldExpressions, Arms, Body, Statement, Statements, Parameter, Function}
use Rattle.rx_resolve_names.specs.declared.resolved.NodeNames.{NodeNames}
use Rattle.rx_typed.specs.declared.nodes.Node.{Node}
use Rattle.rx_typed.specs.declared.nodes.Site.{Site}
use Rattle.rx_typed.specs.declared.nodes.Use.{Use}
use Rattle.rx_typed.specs.declared.nodes.Stage.{Stage}
use Rattle.rx_typed.specs.declared.nodes.Declaration.{Declaration}
use Rattle.rx_typed.specs.Named as named
use Rattle.rx_typed.specs.Named.{Written, WrittenTypes, Pattern, Patterns, Exp, Exps, Else, Fields, node_of, pattern_node, whole_binding, root, never}

-- a `let` with a type: its pattern, the type, the number of the pattern's first variable, and the entries of names from the
-- pattern's on
pub record Annotation : Type 0 where
  pub pattern : PatternTree
  pub typ : TypeTree
  pub variable : ℕ
  pub names : List NodeNames

-- where the text has come to
pub record Cursor : Type 0 where
  -- the next node's number, and the spans of the nodes so far
  pub number : ℕ
  pub spans : List Span
  -- by number of a loop that has begun, whether some `break` led to it so far
  pub loops : List Bool
  -- the next variable's number, and by number the variables that were declared so far
  pub declared : ℕ
  pub variables : List Declaration
  -- the entries of names that are left
  pub names : List NodeNames
  -- those `let`s that had a type so far
  pub annotations : List Annotation

abbrev pub Numbering : Type 0 → Type 0
Numbering A = Cursor → A × Cursor

abbrev pub give : {A : Type 0} → A → Numbering A
give a c = (a, c)

abbrev pub and_then : {A B : Type 0} → Numbering A → (A → Numbering B) → Numbering B
and_then m f c = f (m c).0 (m c).1

-- the next node
abbrev pub a_node : Span → Site → Numbering Node
a_node s t c = (record { number = c.number; span = s; site = t }, record c { number = suc c.number; spans = c.spans ++ s ∷ [] })

-- the next entry of names; where none is left, one without numbers
abbrev pub no_names : List ℕ × Bool
no_names = ([], false)

abbrev pub taken : List NodeNames → Cursor → (List ℕ × Bool) × Cursor
taken [] c = (no_names, c)
taken (x ∷ xs) c = ((x.numbers, x.hidden), record c { names = xs })

abbrev pub an_entry : Numbering (List ℕ × Bool)
an_entry c = taken c.names c

abbrev pub first : List ℕ → ℕ
first ns = get_or ns 0 0

abbrev pub second : List ℕ → ℕ
second ns = get_or ns 1 0

-- ---- variables

abbrev pub is_known : Stage → Bool
is_known Stage.Known = true
is_known _ = false

-- a variable that was not declared is none whose type is known
abbrev pub not_declared : Declaration
not_declared = record { mutable = false; stage = Stage.Given }

abbrev pub declaration : Cursor → ℕ → Declaration
declaration c x = get_or c.variables x not_declared

abbrev pub use_of : ℕ → Declaration → Use
use_of x d = record { number = x; mutable = d.mutable; known = is_known d.stage }

abbrev pub declare : Declaration → Numbering ℕ
declare d c = (c.declared, record c { declared = suc c.declared; variables = c.variables ++ d ∷ [] })

abbrev pub with_stage : ℕ → Stage → Cursor → Cursor
with_stage x s c = record c { variables = slice_set c.variables x (record (declaration c x) { stage = s }) }

-- the variables of a pattern are known behind the facts that give them their types, not before
abbrev pub as_known : Declaration → Declaration
as_known d = record d { stage = Stage.Known }

-- those from a number on, so many
abbrev pub known_among : ℕ → ℕ → List Declaration → List Declaration
known_among i k ds = take i ds ++ (map as_known (take k (drop i ds)) ++ drop k (drop i ds))

abbrev pub counted : Numbering ℕ
counted c = (c.declared, c)

-- those from a number to another, which is left out
abbrev pub known_between : ℕ → ℕ → Numbering (Unit {0})
known_between i j c = (tt, record c { variables = known_among i (j - i) c.variables })

abbrev pub set_stage : ℕ → Stage → Numbering (Unit {0})
set_stage x s c = (tt, with_stage x s c)

-- ---- types

abbrev pub lifetimes_written : Option (List (Option Ident)) → Option ℕ
lifetimes_written None = None
lifetimes_written (Some ls) = Some (length ls)

-- a reference has an entry where its lifetime is written
abbrev pub lifetime_entry : Option Ident → Numbering (List ℕ × Bool)
lifetime_entry None = give no_names
lifetime_entry (Some l) = an_entry

abbrev mutual
  pub of_type : TypeTree → Numbering Written
  of_type (plain.kind_type s k) = and_then (a_node s Site.Value) (λ n. give (named.a_kind n k))
  of_type (plain.bool_type s) = and_then (a_node s Site.Value) (λ n. give (named.a_bool n))
  of_type (plain.tuple_type s ts) = and_then (a_node s Site.Value) (λ n. and_then (of_types ts) (λ ts. give (named.a_tuple n ts)))
  of_type (plain.ref_type s l m t) = and_then (a_node s Site.Value) (λ n. and_then (lifetime_entry l) (λ _. and_then (of_type t) (λ t. give (named.a_reference n m t))))
  of_type (plain.named_type s x ls) = and_then (a_node s Site.Value) (λ n. and_then an_entry (λ ns. give (named.an_item n (first ns.0) (lifetimes_written ls))))

  pub of_types : TypeTrees → Numbering WrittenTypes
  of_types plain.no_type = give named.no_written
  of_types (plain.type_and t ts) = and_then (of_type t) (λ t. and_then (of_types ts) (λ ts. give (named.written_and t ts)))

abbrev pub of_optional_type : Option TypeTree → Numbering (Option Written)
of_optional_type None = give None
of_optional_type (Some t) = and_then (of_type t) (λ t. give (Some t))

-- the pattern and the type of a `let`, in front of the pattern
abbrev pub annotates : PatternTree → Option TypeTree → Numbering (Unit {0})
annotates p None c = (tt, c)
annotates p (Some t) c = (tt, record c { annotations = c.annotations ++ record { pattern = p; typ = t; variable = c.declared; names = c.names } ∷ [] })

-- ---- patterns

abbrev mutual
  pub of_pattern : PatternTree → Numbering Pattern
  of_pattern (plain.wild s) = and_then (a_node s Site.Value) (λ n. give (named.wild n))
  of_pattern (plain.bind s x m) = and_then (a_node s Site.Value) (λ n. and_then an_entry (λ _.
      and_then (declare (record { mutable = m; stage = Stage.Given })) (λ x. give (named.bind n x m))))
  of_pattern (plain.int_pattern s g v k) = and_then (a_node s Site.Value) (λ n. give (named.whole_number n g v k))
  of_pattern (plain.bool_pattern s b) = and_then (a_node s Site.Value) (λ n. give (named.truth n b))
  of_pattern (plain.tuple_pattern s ps) = and_then (a_node s Site.Value) (λ n. and_then (of_patterns ps) (λ ps. give (named.tuple_pattern n ps)))
  of_pattern (plain.variant_pattern s a v ps) = and_then (a_node s Site.Value) (λ n. and_then an_entry (λ ns.
      and_then (of_patterns ps) (λ ps. give (named.variant_pattern n (first ns.0) (second ns.0) ps))))
  of_pattern (plain.make_pattern s x fs) = and_then (a_node s Site.Value) (λ n. and_then an_entry (λ ns.
      and_then (of_field_patterns fs) (λ fs. give (named.struct_pattern n (first ns.0) fs))))

  pub of_patterns : PatternTrees → Numbering Patterns
  of_patterns plain.no_pattern = give named.no_pattern
  of_patterns (plain.pattern_and p ps) = and_then (of_pattern p) (λ p. and_then (of_patterns ps) (λ ps. give (named.pattern_and p ps)))

  pub of_field_patterns : FieldPatterns → Numbering named.FieldPatterns
  of_field_patterns plain.no_field_pattern = give named.no_field_pattern
  of_field_patterns (plain.field_pattern_and x p fs) = and_then (of_pattern p) (λ p. and_then (of_field_patterns fs) (λ fs. give (named.field_pattern_and x.name p fs)))

-- ---- expressions

-- what a block, branch or arm makes of the value that it ends with
abbrev pub passed_on : Site → Site
passed_on Site.Expects = Site.Expects
passed_on Site.Initialises = Site.Expects
passed_on Site.Reborrows = Site.Reborrows
passed_on _ = Site.Value

abbrev pub led_to : ℕ → Cursor → Cursor
led_to l c = record c { loops = slice_set c.loops l true }

abbrev pub leads : ℕ → Numbering (Unit {0})
leads l c = (tt, led_to l c)

-- a new loop, which no `break` led to so far
abbrev pub a_loop : Numbering ℕ
a_loop c = (length c.loops, record c { loops = c.loops ++ false ∷ [] })

abbrev pub is_left : ℕ → Numbering Bool
is_left l c = (get_or c.loops l false, c)

-- the variable that is the whole left side of an assignment and waits for its type: its number, its pattern
abbrev pub waiting : ℕ → Stage → Option (ℕ × ℕ)
waiting x (Stage.Waits p s) = Some (x, p)
waiting x _ = None

-- of the left side of the syntax tree, and its variable
abbrev pub waits_in : Expression → ℕ → Cursor → Option (ℕ × ℕ)
waits_in (plain.var s y) x c = waiting x (declaration c x).stage
waits_in _ x c = None

-- the left side of the syntax tree, and the one with numbers
abbrev pub waits_for : Expression → Exp → Numbering (Option (ℕ × ℕ))
waits_for p q c = (waits_in p (root q).number c, c)

-- a variable where the text has come to
abbrev pub a_use : ℕ → Numbering Use
a_use x c = (use_of x (declaration c x), c)

-- a variable behind the right side of an assignment before which it waited: where it waits still, the assignment gives it
-- its type, which is known from here on; the pattern that declares it
abbrev pub given_here : ℕ → Option (ℕ × ℕ) → Numbering (Option ℕ)
given_here x None = give None
given_here x (Some w) = and_then (set_stage x Stage.Known) (λ _. give (Some w.1))

abbrev pub gives_here : ℕ → Numbering (Option ℕ)
gives_here x c = given_here x (waiting x (declaration c x).stage) c

-- before `x = e` the type of `x` may not be known yet. Then `x` waits for it in `e` too, where an assignment of `x` may
-- give it; behind `e` the stage of `x` says whether one did, or `x = e` itself gives it
abbrev pub assigned : Node → Exp → Option (ℕ × ℕ) → (Site → Numbering Exp) → Numbering Exp
assigned n p None f = and_then (f Site.Expects) (λ e. give (named.assign n p e))
assigned n p (Some w) f = and_then (f Site.Reborrows) (λ e. and_then (a_use w.0) (λ x. and_then (gives_here w.0) (λ d.
    give (named.gives n (node_of p) x d e))))

abbrev pub called : Node → List ℕ × Bool → (Site → Numbering Exps) → Numbering Exp
called n (ns, true) f = and_then (f Site.Value) (λ es. give (named.hidden_call n es))
called n (ns, false) f = and_then (f Site.Expects) (λ es. give (named.call n (first ns) es))

-- the body of an `if` without `else` is no branch
abbrev pub branch_site : Site → OptionalExpression → Site
branch_site t plain.absent = Site.Value
branch_site t (plain.present e) = passed_on t

-- a variable that is declared without a type and without a value waits for one
abbrev pub waits_at : Node → Option ℕ → Numbering (Unit {0})
waits_at n None = give tt
waits_at n (Some x) = set_stage x (Stage.Waits n.number n.span)

abbrev pub waits : Pattern → Numbering (Unit {0})
waits p = waits_at (pattern_node p) (whole_binding p)

abbrev pub waits_if : Bool → Pattern → Numbering (Unit {0})
waits_if true p = waits p
waits_if false p = give tt

abbrev pub has_no_type : Option Written → Bool
has_no_type None = true
has_no_type (Some t) = false

abbrev pub initialiser_site : Option Written → Site
initialiser_site None = Site.Scrutinee
initialiser_site (Some t) = Site.Initialises

abbrev mutual
  -- whether it stands directly under a minus, what its place makes of its value
  pub of_expression : Bool → Site → Expression → Numbering Exp
  of_expression m t (plain.int s v k) = and_then (a_node s t) (λ n. give (named.int n m v k))
  of_expression m t (plain.bool s b) = and_then (a_node s t) (λ n. give (named.bool n b))
  of_expression m t (plain.tuple s es) = and_then (a_node s t) (λ n. and_then (of_expressions Site.Value es) (λ es. give (named.tuple n es)))
  of_expression m t (plain.var s x) = and_then (a_node s t) (λ n. and_then an_entry (λ ns c. (named.var n (use_of (first ns.0) (declaration c (first ns.0))), c)))
  of_expression m t (plain.field s e x) = and_then (a_node s t) (λ n. and_then (of_expression false Site.Place e) (λ e. give (named.field n e x.name)))
  of_expression m t (plain.part s e i) = and_then (a_node s t) (λ n. and_then (of_expression false Site.Place e) (λ e. give (named.part n e i)))
  of_expression m t (plain.deref s e) = and_then (a_node s t) (λ n. and_then (of_expression false Site.Place e) (λ e. give (named.deref n e)))
  of_expression m t (plain.negate s e) = and_then (a_node s t) (λ n. and_then (of_expression true Site.Value e) (λ e. give (named.negate n e)))
  of_expression m t (plain.invert s e) = and_then (a_node s t) (λ n. and_then (of_expression false Site.Value e) (λ e. give (named.invert n e)))
  of_expression m t (plain.borrow s w e) = and_then (a_node s t) (λ n. and_then (of_expression false Site.Place e) (λ e. give (named.borrow n w e)))
  of_expression m t (plain.binary s o a b) = and_then (a_node s t) (λ n.
      and_then (of_expression false Site.Value a) (λ a. and_then (of_expression false Site.Value b) (λ b. give (named.binary n o a b))))
  of_expression m t (plain.assign s p e) = and_then (a_node s t) (λ n. and_then (of_expression false Site.Place p) (λ q.
      and_then (waits_for p q) (λ w. assigned n q w (λ t. of_expression false t e))))
  of_expression m t (plain.update s o p e) = and_then (a_node s t) (λ n.
      and_then (of_expression false Site.Place p) (λ p. and_then (of_expression false Site.Value e) (λ e. give (named.update n o p e))))
  of_expression m t (plain.call s f es) = and_then (a_node s t) (λ n. and_then an_entry (λ ns. called n ns (λ t. of_expressions t es)))
  of_expression m t (plain.next_input s) = and_then (a_node s t) (λ n. and_then an_entry (λ _. give (named.next_input n)))
  of_expression m t (plain.variant s a v es) = and_then (a_node s t) (λ n. and_then an_entry (λ ns.
      and_then (of_arguments es) (λ es. give (named.variant n (first ns.0) (second ns.0) es))))
  of_expression m t (plain.make s x fs) = and_then (a_node s t) (λ n. and_then an_entry (λ ns.
      and_then (of_fields fs) (λ fs. give (named.make n (first ns.0) fs))))
  of_expression m t (plain.print s e) = and_then (a_node s t) (λ n. and_then (of_expression false Site.Value e) (λ e. give (named.print n e)))
  of_expression m t (plain.block s b) = and_then (a_node s t) (λ n. and_then (of_body (passed_on t) b) (λ b. give (named.block n b)))
  of_expression m t (plain.if s c b o) = and_then (a_node s t) (λ n. and_then (of_expression false Site.Value c) (λ c.
      and_then (of_body (branch_site t o) b) (λ b. and_then (of_optional (passed_on t) o) (λ o. give (named.if n c b o)))))
  of_expression m t (plain.if_let s p e b o) = and_then (a_node s t) (λ n. and_then counted (λ i. and_then (of_pattern p) (λ p. and_then counted (λ j.
      and_then (of_expression false Site.Scrutinee e) (λ e. and_then (known_between i j) (λ _. and_then (of_body (branch_site t o) b) (λ b.
      and_then (of_optional (passed_on t) o) (λ o. give (named.if_let n p e b o)))))))))
  of_expression m t (plain.match s e l) = and_then (a_node s t) (λ n. and_then (of_expression false Site.Scrutinee e) (λ e.
      and_then (of_arms (passed_on t) l) (λ l. give (named.match n e l))))
  of_expression m t (plain.loop s l b) = and_then (a_node s t) (λ n. and_then a_loop (λ l. and_then (of_body Site.Value b) (λ b.
      and_then (is_left l) (λ k. give (named.loop n l k b)))))
  of_expression m t (plain.while s l c b) = and_then (a_node s t) (λ n. and_then a_loop (λ l. and_then (of_expression false Site.Value c) (λ c.
      and_then (of_body Site.Value b) (λ b. give (named.while n l c b)))))
  of_expression m t (plain.while_let s l p e b) = and_then (a_node s t) (λ n. and_then a_loop (λ l. and_then counted (λ i. and_then (of_pattern p) (λ p.
      and_then counted (λ j. and_then (of_expression false Site.Scrutinee e) (λ e. and_then (known_between i j) (λ _.
      and_then (of_body Site.Value b) (λ b. give (named.while_let n l p e b)))))))))
  of_expression m t (plain.break s l) = and_then (a_node s t) (λ n. and_then an_entry (λ ns.
      and_then (leads (first ns.0)) (λ _. give (named.break n (first ns.0)))))
  of_expression m t (plain.continue s l) = and_then (a_node s t) (λ n. and_then an_entry (λ ns. give (named.continue n (first ns.0))))
  of_expression m t (plain.return s o) = and_then (a_node s t) (λ n. and_then (of_optional Site.Expects o) (λ o. give (named.return n o)))

  pub of_expressions : Site → Expressions → Numbering Exps
  of_expressions t plain.no_expression = give named.no_exp
  of_expressions t (plain.expression_and e es) = and_then (of_expression false t e) (λ e. and_then (of_expressions t es) (λ es. give (named.exp_and e es)))

  pub of_optional : Site → OptionalExpression → Numbering Else
  of_optional t plain.absent = give named.absent
  of_optional t (plain.present e) = and_then (of_expression false t e) (λ e. give (named.present e))

  pub of_arguments : OptionalExpressions → Numbering Exps
  of_arguments plain.no_list = give named.no_exp
  of_arguments (plain.a_list es) = of_expressions Site.Expects es

  pub of_fields : FieldExpressions → Numbering Fields
  of_fields plain.no_field = give named.no_field
  of_fields (plain.field_and x e fs) = and_then (of_expression false Site.Expects e) (λ e. and_then (of_fields fs) (λ fs. give (named.field_and x.name e fs)))

  pub of_arms : Site → Arms → Numbering named.Arms
  of_arms t plain.no_arm = give named.no_arm
  of_arms t (plain.arm_and p e l) = and_then counted (λ i. and_then (of_pattern p) (λ p. and_then counted (λ j. and_then (known_between i j) (λ _.
      and_then (of_expression false t e) (λ e. and_then (of_arms t l) (λ l. give (named.arm_and p e l)))))))

  pub of_body : Site → Body → Numbering named.Body
  of_body t (plain.body s ss o) = and_then (a_node s t) (λ n. and_then (of_statements ss) (λ ss. and_then (of_optional t o) (λ o. give (named.body n ss o))))

  pub of_statements : Statements → Numbering named.Statements
  of_statements plain.no_statement = give named.no_statement
  of_statements (plain.statement_and a ss) = and_then (of_statement a) (λ a. and_then (of_statements ss) (λ ss. give (named.statement_and a ss)))

  pub of_statement : Statement → Numbering named.Statement
  of_statement (plain.let_statement s p y plain.absent) = and_then (a_node s Site.Value) (λ n. and_then (annotates p y) (λ _. and_then counted (λ i.
      and_then (of_pattern p) (λ p. and_then counted (λ j. and_then (of_optional_type y) (λ y. and_then (known_between i j) (λ _.
      and_then (waits_if (has_no_type y) p) (λ _. give (named.declares n p y)))))))))
  of_statement (plain.let_statement s p y (plain.present e)) = and_then (a_node s Site.Value) (λ n. and_then (annotates p y) (λ _. and_then counted (λ i.
      and_then (of_pattern p) (λ p. and_then counted (λ j. and_then (of_optional_type y) (λ y. and_then (of_expression false (initialiser_site y) e) (λ e.
      and_then (known_between i j) (λ _. and_then (waits_if (has_no_type y && never e) p) (λ _. give (named.lets n p y e))))))))))
  of_statement (plain.expression_statement s e b) = and_then (a_node s Site.Value) (λ n. and_then (of_expression false Site.Value e) (λ e. give (named.evaluates n e b)))

-- ---- a function. Its item is node 0; parameters are variables, and no nodes: their types are

abbrev pub of_parameter : Parameter → Numbering named.Parameter
of_parameter x = and_then (declare (record { mutable = x.mutable; stage = Stage.Known })) (λ v.
    and_then (of_type x.typ) (λ t. give (record { variable = v; typ = t })))

abbrev pub of_parameters : List Parameter → Numbering (List named.Parameter)
of_parameters [] = give []
of_parameters (x ∷ xs) = and_then (of_parameter x) (λ x. and_then (of_parameters xs) (λ xs. give (x ∷ xs)))

abbrev pub a_waiting : Stage → List Node
a_waiting (Stage.Waits p s) = record { number = p; span = s; site = Site.Value } ∷ []
a_waiting _ = []

abbrev pub all_waiting : List Declaration → List Node
all_waiting [] = []
all_waiting (d ∷ ds) = a_waiting d.stage ++ all_waiting ds

abbrev pub is_nothing : {A : Type 0} → List A → Bool
is_nothing [] = true
is_nothing (x ∷ xs) = false

-- the item has an entry where it declares bounds of lifetimes, or parameters
abbrev pub has_bounds : List BoundLifetime → Bool
has_bounds [] = false
has_bounds (l ∷ ls) = not (is_nothing l.bounds) || has_bounds ls

abbrev pub has_entry : Function → Bool
has_entry f = has_bounds f.lifetimes || not (is_nothing f.params)

abbrev pub entry_if : Bool → Numbering (List ℕ × Bool)
entry_if true = an_entry
entry_if false = give no_names

-- where a function begins, with the entries of names of its item
abbrev pub begins : List NodeNames → Cursor
begins ns = record { number = zero; spans = []; loops = []; declared = zero; variables = []; names = ns; annotations = [] }

abbrev pub left_waiting : Numbering (List Node)
left_waiting c = (all_waiting c.variables, c)

-- the item's number and span
abbrev pub of_function : ℕ → Span → Function → Numbering named.Function
of_function i s f = and_then (a_node s Site.Value) (λ _. and_then (entry_if (has_entry f)) (λ _. and_then (of_parameters f.params) (λ ps.
    and_then (of_optional_type f.result) (λ t. and_then (of_body Site.Expects f.body) (λ b. and_then left_waiting (λ ws.
    give (record { item = i; params = ps; result = t; body = b; never_given = ws })))))))

-- the function with numbers, of an item with its entries of names
abbrev pub function_named : ℕ → Span → Function → List NodeNames → named.Function
function_named i s f ns = (of_function i s f (begins ns)).0

-- and the spans of its nodes, by their numbers
abbrev pub function_spans : Span → Function → List NodeNames → List Span
function_spans s f ns = (of_function zero s f (begins ns)).1.spans

-- and what its variables are, by their numbers
abbrev pub function_variables : Span → Function → List NodeNames → List Declaration
function_variables s f ns = (of_function zero s f (begins ns)).1.variables

-- and its `let`s that have a type, in the order of the text
abbrev pub function_annotations : Span → Function → List NodeNames → List Annotation
function_annotations s f ns = (of_function zero s f (begins ns)).1.annotations
