-- The entries of names of a function, and of the same with lifetimes written otherwise, in the order of the text (Rust Reference,
-- "Names"; "Lifetime elision"). An entry of a lifetime says nothing of other names, and is missing where the lifetime is left out; that
-- of a struct or enum has its number first and those of lifetimes behind it; all others are alike. The type of a `let` begins with what its
-- names add where they are resolved, in either.
use Rattle.std.specs.Prelude.{◌≡◌, ℕ, Bool, true, false, List, [], ◌∷◌, ◌++◌, map, Option, Some, None, Ok}
use Rattle.rx_tree.specs.declared.tree.Ident.{Ident}
use Rattle.rx_tree.specs.Plain as plain
use Rattle.rx_tree.specs.Plain.{TypeTree, TypeTrees, PatternTree, PatternTrees, FieldPatterns, Expression, Expressions, OptionalExpression, OptionalExpressions, FieldExpressions, Arms, Body, Statement, Statements, Parameter, Function}
use Rattle.rx_resolve_names.specs.declared.resolved.ItemNames.{ItemNames}
use Rattle.rx_resolve_names.specs.declared.resolved.NodeNames.{NodeNames}
use Rattle.rx_resolve_names.specs.Steps.{Inside}
use Rattle.rx_resolve_names.specs.Names as resolving
use Rattle.rx_typed.specs.Naming.{Annotation, Cursor, first, of_pattern, has_entry}
use Rattle.rx_compact_lifetimes.specs.declared.rewriting.Rewriting.{Rewriting}
use Rattle.rx_compact_lifetimes.specs.Rewritten.{rewritten_lifetime, rewritten_type, rewritten_optional, rewritten_parameter, rewritten_body}

-- what is said of the entries of both that are left
abbrev pub Left : Type 1
Left = List NodeNames → List NodeNames → Type 0

-- the next entries of both, and what is left
abbrev pub Both : (NodeNames → NodeNames → Type 0) → Left → Left
Both R C (n ∷ ns) (m ∷ ms) = R n m × C ns ms
Both R C _ _ = ⊥

-- the next entry of the first alone
abbrev pub Old : Left → Left
Old C (n ∷ ns) ms = C ns ms
Old C [] ms = ⊥

abbrev pub Alike : NodeNames → NodeNames → Type 0
Alike n m = (n.numbers ≡ m.numbers) × (n.hidden ≡ m.hidden)

abbrev pub SameItem : NodeNames → NodeNames → Type 0
SameItem n m = first n.numbers ≡ first m.numbers

abbrev pub Any : NodeNames → NodeNames → Type 0
Any n m = Unit {0}

-- ---- types, in which a lifetime becomes another or none

abbrev pub in_lifetime : Option Ident → Option Ident → Left → Left
in_lifetime None l C = C
in_lifetime (Some x) None C = Old C
in_lifetime (Some x) (Some y) C = Both Any C

abbrev mutual
  pub in_type : List Rewriting → TypeTree → Left → Left
  in_type rs (plain.kind_type s k) C = C
  in_type rs (plain.bool_type s) C = C
  in_type rs (plain.tuple_type s ts) C = in_types rs ts C
  in_type rs (plain.ref_type s l m t) C = in_lifetime l (rewritten_lifetime rs l) (in_type rs t C)
  in_type rs (plain.named_type s x ls) C = Both SameItem C

  pub in_types : List Rewriting → TypeTrees → Left → Left
  in_types rs plain.no_type C = C
  in_types rs (plain.type_and t ts) C = in_type rs t (in_types rs ts C)

abbrev pub in_optional_type : List Rewriting → Option TypeTree → Left → Left
in_optional_type rs None C = C
in_optional_type rs (Some t) C = in_type rs t C

-- ---- patterns

abbrev mutual
  pub in_pattern : PatternTree → Left → Left
  in_pattern (plain.wild s) C = C
  in_pattern (plain.bind s x m) C = Both Alike C
  in_pattern (plain.int_pattern s g v k) C = C
  in_pattern (plain.bool_pattern s b) C = C
  in_pattern (plain.tuple_pattern s ps) C = in_patterns ps C
  in_pattern (plain.variant_pattern s a v ps) C = Both Alike (in_patterns ps C)
  in_pattern (plain.make_pattern s x fs) C = Both Alike (in_field_patterns fs C)

  pub in_patterns : PatternTrees → Left → Left
  in_patterns plain.no_pattern C = C
  in_patterns (plain.pattern_and p ps) C = in_pattern p (in_patterns ps C)

  pub in_field_patterns : FieldPatterns → Left → Left
  in_field_patterns plain.no_field_pattern C = C
  in_field_patterns (plain.field_pattern_and x p fs) C = in_pattern p (in_field_patterns fs C)

-- ---- expressions, in which the types of `let`s are written otherwise

-- how, and what names mean there, before and after
pub record InBoth : Type 0 where
  pub by : List Rewriting
  pub old : Inside
  pub new : Inside

-- these begin with the entries that its names get where they are resolved
pub record StandsFirst (I : Inside) (t : TypeTree) (ns : List NodeNames) : Type 0 where
  pub at : List ℕ
  pub before : ItemNames
  pub after : ItemNames
  pub resolves : resolving.in_type I at t before ≡ Ok after
  pub adds : List NodeNames
  pub are : after.names ≡ before.names ++ adds
  pub rest : List NodeNames
  pub stand : ns ≡ adds ++ rest

abbrev pub in_let : InBoth → Option TypeTree → Left → Left
in_let K None C = C
in_let K (Some t) C = λ ns ms. in_type K.by t C ns ms × (StandsFirst K.old t ns × StandsFirst K.new (rewritten_type K.by t) ms)

abbrev mutual
  pub in_expression : InBoth → Expression → Left → Left
  in_expression K (plain.int s v k) C = C
  in_expression K (plain.bool s b) C = C
  in_expression K (plain.tuple s es) C = in_expressions K es C
  in_expression K (plain.var s x) C = Both Alike C
  in_expression K (plain.field s e x) C = in_expression K e C
  in_expression K (plain.part s e i) C = in_expression K e C
  in_expression K (plain.deref s e) C = in_expression K e C
  in_expression K (plain.negate s e) C = in_expression K e C
  in_expression K (plain.invert s e) C = in_expression K e C
  in_expression K (plain.borrow s m e) C = in_expression K e C
  in_expression K (plain.binary s o a b) C = in_expression K a (in_expression K b C)
  in_expression K (plain.assign s a b) C = in_expression K a (in_expression K b C)
  in_expression K (plain.update s o a b) C = in_expression K a (in_expression K b C)
  in_expression K (plain.call s f es) C = Both Alike (in_expressions K es C)
  in_expression K (plain.next_input s) C = Both Alike C
  in_expression K (plain.variant s a v es) C = Both Alike (in_arguments K es C)
  in_expression K (plain.make s x fs) C = Both Alike (in_fields K fs C)
  in_expression K (plain.print s e) C = in_expression K e C
  in_expression K (plain.block s b) C = in_body K b C
  in_expression K (plain.if s c b o) C = in_expression K c (in_body K b (in_optional K o C))
  in_expression K (plain.if_let s p e b o) C = in_pattern p (in_expression K e (in_body K b (in_optional K o C)))
  in_expression K (plain.match s e l) C = in_expression K e (in_arms K l C)
  in_expression K (plain.loop s l b) C = in_body K b C
  in_expression K (plain.while s l c b) C = in_expression K c (in_body K b C)
  in_expression K (plain.while_let s l p e b) C = in_pattern p (in_expression K e (in_body K b C))
  in_expression K (plain.break s l) C = Both Alike C
  in_expression K (plain.continue s l) C = Both Alike C
  in_expression K (plain.return s o) C = in_optional K o C

  pub in_expressions : InBoth → Expressions → Left → Left
  in_expressions K plain.no_expression C = C
  in_expressions K (plain.expression_and e es) C = in_expression K e (in_expressions K es C)

  pub in_optional : InBoth → OptionalExpression → Left → Left
  in_optional K plain.absent C = C
  in_optional K (plain.present e) C = in_expression K e C

  pub in_arguments : InBoth → OptionalExpressions → Left → Left
  in_arguments K plain.no_list C = C
  in_arguments K (plain.a_list es) C = in_expressions K es C

  pub in_fields : InBoth → FieldExpressions → Left → Left
  in_fields K plain.no_field C = C
  in_fields K (plain.field_and x e fs) C = in_expression K e (in_fields K fs C)

  pub in_arms : InBoth → Arms → Left → Left
  in_arms K plain.no_arm C = C
  in_arms K (plain.arm_and p e l) C = in_pattern p (in_expression K e (in_arms K l C))

  pub in_body : InBoth → Body → Left → Left
  in_body K (plain.body s ss o) C = in_statements K ss (in_optional K o C)

  pub in_statement : InBoth → Statement → Left → Left
  in_statement K (plain.let_statement s p y o) C = in_pattern p (in_let K y (in_optional K o C))
  in_statement K (plain.expression_statement s e b) C = in_expression K e C

  pub in_statements : InBoth → Statements → Left → Left
  in_statements K plain.no_statement C = C
  in_statements K (plain.statement_and a ss) C = in_statement K a (in_statements K ss C)

-- ---- a function, whose signature may be written otherwise than its body; it has an entry itself where it has bounds or parameters

abbrev pub in_parameters : List Rewriting → List Parameter → Left → Left
in_parameters rs [] C = C
in_parameters rs (x ∷ xs) C = in_type rs x.typ (in_parameters rs xs C)

abbrev pub Never : Left
Never ns ms = ⊥

abbrev pub Nothing : Left
Nothing ns ms = Unit {0}

abbrev pub own_entry : Bool → Bool → Left → Left
own_entry true true C = Both Any C
own_entry true false C = Old C
own_entry false true C = Never
own_entry false false C = C

-- the second is the first with its signature and its body written otherwise, and any list of lifetimes
pub record IsRewritten (rs bs : List Rewriting) (f g : Function) : Type 0 where
  pub params : g.params ≡ map (rewritten_parameter rs) f.params
  pub answer : g.result ≡ rewritten_optional rs f.result
  pub body : g.body ≡ rewritten_body bs f.body

-- their entries
abbrev pub Beside : List Rewriting → InBoth → Function → Function → Left
Beside rs K f g = own_entry (has_entry f) (has_entry g) (in_parameters rs f.params (in_optional_type rs f.result (in_body K f.body Nothing)))

-- ---- `let`s that are noted

-- where the text of one begins
abbrev pub at_let : Annotation → Cursor
at_let a = record { number = 0; spans = []; loops = []; declared = a.variable; variables = []; names = a.names; annotations = [] }

-- a `let` of the first and that of the second: the same pattern with numbers, the type written otherwise, and behind the pattern the entries
-- that its names have in either
pub record LetBeside (K : InBoth) (a b : Annotation) : Type 0 where
  pub pattern : (of_pattern b.pattern (at_let b)).0 ≡ (of_pattern a.pattern (at_let a)).0
  pub typ : b.typ ≡ rewritten_type K.by a.typ
  pub old : StandsFirst K.old a.typ (of_pattern a.pattern (at_let a)).1.names
  pub new : StandsFirst K.new b.typ (of_pattern b.pattern (at_let b)).1.names

abbrev pub LetsBeside : InBoth → List Annotation → List Annotation → Type 0
LetsBeside K [] [] = Unit {0}
LetsBeside K (a ∷ as') (b ∷ bs) = LetBeside K a b × LetsBeside K as' bs
LetsBeside K _ _ = ⊥

-- ---- steps of the numbering

-- where the text has come to, with other entries and other `let`s so far
abbrev pub moved : Cursor → List NodeNames → List Annotation → Cursor
moved c ms ls = record c { names = ms; annotations = ls }

-- of the entries that are left this holds, and the `let`s so far stand beside each other
pub record Stands (K : InBoth) (Q : Left) (ns : List NodeNames) (as' : List Annotation) (ms : List NodeNames) (ls : List Annotation) : Type 0 where
  pub left : Q ns ms
  pub lets : LetsBeside K as' ls

-- two steps give the same and come to the same place, but for entries and `let`s
pub record Goes {A : Type 0} (K : InBoth) (Q : Left) (a b : A × Cursor) : Type 0 where
  pub names : List NodeNames
  pub lets : List Annotation
  pub is : b ≡ (a.0, moved a.1 names lets)
  pub rest : Stands K Q a.1.names a.1.annotations names lets
