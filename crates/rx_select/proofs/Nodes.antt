-- A node whose span is that of some tokens stands where they stand; types and patterns stand where their tokens do, and nothing is asked
-- of what is below them.
use Rattle.std.proofs.Common.{◌≡◌, ℕ, ◌≤◌, ◌<◌, List, [], ◌∷◌, ◌++◌, Option, refl, subst}
use Rattle.std.specs.Prelude.{◌≢◌}
use Rattle.rx_core.specs.declared.types.Span.{Span}
use Rattle.rx_tree.specs.declared.tree.Ident.{Ident}
use Rattle.rx_tree.specs.Plain as plain
use Rattle.rx_tree.specs.Plain.{TypeTree, TypeTrees, PatternTree, PatternTrees, FieldPatterns, Expression, OptionalExpression, Body, Statement, ItemTree}
use Rattle.rx_tree.specs.Lists.{Every, statement_span}
use Rattle.rx_tree.specs.Spans.{type_span, pattern_span, expression_span}
use Rattle.rx_tree.specs.Positions.{NodeTree, a_type, a_block, a_statement, an_expression, a_pattern, children, optional_nodes}
use Rattle.rx_tree.specs.Nodes.{below_type, within_types, below_pattern, within_patterns, within_field_patterns}
use Rattle.rx_tree.proofs.NodesLaws.{every_both}
use Rattle.rx_lex.specs.Tok.{Tok}
use Rattle.rx_parse_grammar.specs.grammar.Words.{span_of}
use Rattle.rx_parse_grammar.specs.grammar.Types as types
use Rattle.rx_parse_grammar.specs.grammar.Types.{IsType}
use Rattle.rx_parse_grammar.specs.grammar.Patterns as patterns
use Rattle.rx_parse_grammar.specs.grammar.Patterns.{IsPattern}
use Rattle.rx_parse_grammar.specs.grammar.Expressions.{Test, condition, fitting, if_of, while_of}
use Rattle.rx_select.proofs.Tokens.{Inside, inside_front, inside_after, Spanned, spanned}
use Rattle.rx_select.proofs.Rows.{Laid, Stands, Row, stands}

-- ---- tokens of which there is one

pub some_first : (t : Tok) (us ts : List Tok) → ts ≡ t ∷ us → ts ≢ []
some_first t us ts e n = cc

pub some_middle : (us vs ts : List Tok) (t : Tok) → ts ≡ us ++ (t ∷ vs) → ts ≢ []
some_middle [] vs ts t e n = cc
some_middle (u ∷ us) vs ts t e n = cc

-- ---- the tokens of a node, in its span

pub record Tight (all : List Tok) (from to : ℕ) (ts : List Tok) : Type 0 where
  pub starts : from ≤ (span_of ts).start
  pub long : (span_of ts).start < (span_of ts).end
  pub ends : (span_of ts).end ≤ to
  pub inside : Inside all (span_of ts).start (span_of ts).end ts

pub tight : {all : List Tok} {from to : ℕ} {ts : List Tok} → ts ≢ [] → Inside all from to ts → Tight all from to ts
tight {all} {from} {to} {ts} n i =
    let s = spanned from to ts n i.ordered in
    record { starts = s.starts; long = s.long; ends = s.ends; inside = record { ordered = s.within; is = i.is } }

pub expression_node : {all : List Tok} {from to : ℕ} {ts : List Tok} (x : Expression) → span_of ts ≡ expression_span x → Tight all from to ts
    → Row all (span_of ts).start (span_of ts).end (children (an_expression x)) → Stands all from to (an_expression x)
expression_node {all} {from} {to} {ts} x e k r =
    let P : Span → Type 0 = λ s. (from ≤ s.start) × (s.start < s.end) × (s.end ≤ to) × Row all s.start s.end (children (an_expression x)) in
    let q = subst P e (k.starts, k.long, k.ends, r) in
    stands all from to (an_expression x) q.0 q.1 q.2 q.3.ordered q.3

-- a node whose span is other than its tokens': where they are told by their order alone
pub expression_over : {all : List Tok} {from to : ℕ} {ts : List Tok} (x : Expression) → span_of ts ≡ expression_span x → Spanned from to (span_of ts) ts
    → Row all (span_of ts).start (span_of ts).end (children (an_expression x)) → Stands all from to (an_expression x)
expression_over {all} {from} {to} {ts} x e k r =
    let P : Span → Type 0 = λ s. (from ≤ s.start) × (s.start < s.end) × (s.end ≤ to) × Row all s.start s.end (children (an_expression x)) in
    let q = subst P e (k.starts, k.long, k.ends, r) in
    stands all from to (an_expression x) q.0 q.1 q.2 q.3.ordered q.3

pub statement_node : {all : List Tok} {from to : ℕ} {ts : List Tok} (a : Statement) → span_of ts ≡ statement_span a → Tight all from to ts
    → Row all (span_of ts).start (span_of ts).end (children (a_statement a)) → Stands all from to (a_statement a)
statement_node {all} {from} {to} {ts} a e k r =
    let P : Span → Type 0 = λ s. (from ≤ s.start) × (s.start < s.end) × (s.end ≤ to) × Row all s.start s.end (children (a_statement a)) in
    let q = subst P e (k.starts, k.long, k.ends, r) in
    stands all from to (a_statement a) q.0 q.1 q.2 q.3.ordered q.3

-- what is tested, in front of other nodes
abbrev pub tested : Test → List NodeTree → List NodeTree
tested (condition x) cs = an_expression x ∷ cs
tested (fitting p x) cs = a_pattern p ∷ an_expression x ∷ cs

pub if_node : {all : List Tok} {from to : ℕ} {ts : List Tok} (t : Test) (b : Body) (y : OptionalExpression) → Tight all from to ts
    → Row all (span_of ts).start (span_of ts).end (tested t (a_block b ∷ optional_nodes y)) → Stands all from to (an_expression (if_of (span_of ts) t b y))
if_node {ts = ts} (condition x) b y k r = expression_node (plain.if (span_of ts) x b y) refl k r
if_node {ts = ts} (fitting p x) b y k r = expression_node (plain.if_let (span_of ts) p x b y) refl k r

pub while_node : {all : List Tok} {from to : ℕ} {ts : List Tok} (l : Option Ident) (t : Test) (b : Body) → Tight all from to ts
    → Row all (span_of ts).start (span_of ts).end (tested t (a_block b ∷ [])) → Stands all from to (an_expression (while_of (span_of ts) l t b))
while_node {ts = ts} l (condition x) b k r = expression_node (plain.while (span_of ts) l x b) refl k r
while_node {ts = ts} l (fitting p x) b k r = expression_node (plain.while_let (span_of ts) l p x b) refl k r

-- ---- types

mutual
  pub type_laid : (all : List Tok) (t : TypeTree) → Every (Laid all) (below_type t)
  type_laid all (plain.kind_type s k) = tt
  type_laid all (plain.bool_type s) = tt
  type_laid all (plain.tuple_type s ts) = types_laid all ts
  type_laid all (plain.ref_type s l m t) = (tt, type_laid all t)
  type_laid all (plain.named_type s n ls) = tt

  pub types_laid : (all : List Tok) (ts : TypeTrees) → Every (Laid all) (within_types ts)
  types_laid all plain.no_type = tt
  types_laid all (plain.type_and t ts) = (tt, every_both (Laid all) (below_type t) (within_types ts) (type_laid all t) (types_laid all ts))

type_at : {all : List Tok} {from to : ℕ} {ts : List Tok} (y : TypeTree) → ts ≢ [] → span_of ts ≡ type_span y → Inside all from to ts → Stands all from to (a_type y)
type_at {all} {from} {to} {ts} y n e i =
    let k = tight n i in
    let P : Span → Type 0 = λ s. (from ≤ s.start) × (s.start < s.end) × (s.end ≤ to) in
    let q = subst P e (k.starts, k.long, k.ends) in
    record { starts = q.0; long = q.1; ends = q.2; laid = (tt, type_laid all y) }

-- where it stands in parentheses, with them left out
pub type_placed : {all : List Tok} {from to : ℕ} {ts : List Tok} {y : TypeTree} {h : ℕ} → IsType ts y h → Inside all from to ts → Stands all from to (a_type y)
type_placed {y = y} (types.kind t k s is) i = type_at y (some_first t [] _ is) refl i
type_placed {y = y} (types.bool t s is) i = type_at y (some_first t [] _ is) refl i
type_placed {y = y} (types.named t s is) i = type_at y (some_first t [] _ is) refl i
type_placed {y = y} (types.named_with t o c us l ls s so sc a is) i = type_at y (some_first t _ _ is) refl i
type_placed {y = y} (types.reference t ls ms us l m z h s a b r is) i = type_at y (some_first t _ _ is) refl i
type_placed {y = y} (types.two_references t us z h s r is) i = type_at y (some_first t _ _ is) refl i
type_placed {y = y} (types.unit o c so sc is) i = type_at y (some_first o _ _ is) refl i
type_placed {all} {from} {to} {ts} (types.parentheses o c us z h so sc r is) i =
    let w : Inside all from to (o ∷ (us ++ c ∷ [])) = subst (λ l. Inside all from to l) is i in
    type_placed r (inside_front all from to us (c ∷ []) (inside_after all from to o (us ++ c ∷ []) w))
type_placed {y = y} (types.tuple o m c us vs z zs h j so sm sc r more is) i = type_at y (some_first o _ _ is) refl i

-- ---- patterns

mutual
  pattern_laid : (all : List Tok) (p : PatternTree) → Every (Laid all) (below_pattern p)
  pattern_laid all (plain.wild s) = tt
  pattern_laid all (plain.bind s n m) = tt
  pattern_laid all (plain.int_pattern s g v k) = tt
  pattern_laid all (plain.bool_pattern s b) = tt
  pattern_laid all (plain.tuple_pattern s ps) = patterns_laid all ps
  pattern_laid all (plain.variant_pattern s a v ps) = patterns_laid all ps
  pattern_laid all (plain.make_pattern s n fs) = field_patterns_laid all fs

  patterns_laid : (all : List Tok) (ps : PatternTrees) → Every (Laid all) (within_patterns ps)
  patterns_laid all plain.no_pattern = tt
  patterns_laid all (plain.pattern_and p ps) = (tt, every_both (Laid all) (below_pattern p) (within_patterns ps) (pattern_laid all p) (patterns_laid all ps))

  field_patterns_laid : (all : List Tok) (fs : FieldPatterns) → Every (Laid all) (within_field_patterns fs)
  field_patterns_laid all plain.no_field_pattern = tt
  field_patterns_laid all (plain.field_pattern_and n p fs) = (tt, every_both (Laid all) (below_pattern p) (within_field_patterns fs) (pattern_laid all p) (field_patterns_laid all fs))

pub pattern_at : {all : List Tok} {from to : ℕ} {ts : List Tok} (y : PatternTree) → ts ≢ [] → span_of ts ≡ pattern_span y → Inside all from to ts → Stands all from to (a_pattern y)
pattern_at {all} {from} {to} {ts} y n e i =
    let k = tight n i in
    let P : Span → Type 0 = λ s. (from ≤ s.start) × (s.start < s.end) × (s.end ≤ to) in
    let q = subst P e (k.starts, k.long, k.ends) in
    record { starts = q.0; long = q.1; ends = q.2; laid = (tt, pattern_laid all y) }

pub pattern_placed : {all : List Tok} {from to : ℕ} {ts : List Tok} {y : PatternTree} {h : ℕ} → IsPattern ts y h → Inside all from to ts → Stands all from to (a_pattern y)
pattern_placed {y = y} (patterns.wild t s is) i = pattern_at y (some_first t _ _ is) refl i
pattern_placed {y = y} (patterns.binding n s is) i = pattern_at y (some_first n _ _ is) refl i
pattern_placed {y = y} (patterns.mutable_binding m n sm sn is) i = pattern_at y (some_first m _ _ is) refl i
pattern_placed {y = y} (patterns.number t v k s is) i = pattern_at y (some_first t _ _ is) refl i
pattern_placed {y = y} (patterns.negative m t v k sm st is) i = pattern_at y (some_first m _ _ is) refl i
pattern_placed {y = y} (patterns.true_is t s is) i = pattern_at y (some_first t _ _ is) refl i
pattern_placed {y = y} (patterns.false_is t s is) i = pattern_at y (some_first t _ _ is) refl i
pattern_placed {y = y} (patterns.unit o c so sc is) i = pattern_at y (some_first o _ _ is) refl i
pattern_placed {all} {from} {to} {ts} (patterns.parentheses o c us z h so sc r is) i =
    let w : Inside all from to (o ∷ (us ++ c ∷ [])) = subst (λ l. Inside all from to l) is i in
    pattern_placed r (inside_front all from to us (c ∷ []) (inside_after all from to o (us ++ c ∷ []) w))
pattern_placed {y = y} (patterns.tuple o m c us vs z zs h j so sm sc r more is) i = pattern_at y (some_first o _ _ is) refl i
pattern_placed {y = y} (patterns.variant e p v se sp sv is) i = pattern_at y (some_first e _ _ is) refl i
pattern_placed {y = y} (patterns.variant_with e p v o c us z zs h se sp sv so sc r is) i = pattern_at y (some_first e _ _ is) refl i
pattern_placed {y = y} (patterns.structure n o c us fs h sn so sc r is) i = pattern_at y (some_first n _ _ is) refl i
