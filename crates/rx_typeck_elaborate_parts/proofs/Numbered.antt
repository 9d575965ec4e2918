-- The number of a part's node before the part is walked.
use Rattle.std.proofs.Common.{◌≡◌, ℕ, Bool, true, false, List, Option, Some, None, refl}
use Rattle.rx_core.specs.declared.types.Span.{Span}
use Rattle.rx_tree.specs.Plain as plain
use Rattle.rx_tree.specs.Plain.{TypeTree, PatternTree, Expression, Body}
use Rattle.rx_tree.specs.Spans.{type_span, pattern_span, expression_span, body_span}
use Rattle.rx_typed.specs.declared.nodes.Node.{Node}
use Rattle.rx_typed.specs.declared.nodes.Site.{Site}
use Rattle.rx_typed.specs.Named.{Exp, Exps, written_node, pattern_node, node_of, body_node}
use Rattle.rx_typed.specs.Naming.{Cursor, Numbering, of_type, of_pattern, of_expression, of_body, of_expressions, a_node, an_entry, waits_for, called, assigned}

-- the next node of a cursor
abbrev pub upcoming : Cursor → Span → Site → Node
upcoming c s t = record { number = c.number; span = s; site = t }

-- ---- the node of a part

called_node : (n : Node) (ns : List ℕ × Bool) (f : Site → Numbering Exps) (c : Cursor) → node_of (called n ns f c).0 ≡ n
called_node n (ns, true) f c = refl
called_node n (ns, false) f c = refl

assigned_node : (n : Node) (p : Exp) (w : Option (ℕ × ℕ)) (f : Site → Numbering Exp) (c : Cursor) → node_of (assigned n p w f c).0 ≡ n
assigned_node n p None f c = refl
assigned_node n p (Some w) f c = refl

pub expression_numbered : (m : Bool) (t : Site) (e : Expression) (c : Cursor) → node_of (of_expression m t e c).0 ≡ upcoming c (expression_span e) t
expression_numbered m t (plain.int s v k) c = refl
expression_numbered m t (plain.bool s b) c = refl
expression_numbered m t (plain.tuple s es) c = refl
expression_numbered m t (plain.var s x) c = refl
expression_numbered m t (plain.field s e x) c = refl
expression_numbered m t (plain.part s e i) c = refl
expression_numbered m t (plain.deref s e) c = refl
expression_numbered m t (plain.negate s e) c = refl
expression_numbered m t (plain.invert s e) c = refl
expression_numbered m t (plain.borrow s w e) c = refl
expression_numbered m t (plain.binary s o a b) c = refl
expression_numbered m t (plain.assign s p e) c =
    let n = a_node s t c in
    let q = of_expression false Site.Place p n.1 in
    let w = waits_for p q.0 q.1 in
    assigned_node n.0 q.0 w.0 (λ t. of_expression false t e) w.1
expression_numbered m t (plain.update s o p e) c = refl
expression_numbered m t (plain.call s f es) c =
    let n = a_node s t c in
    let ns = an_entry n.1 in
    called_node n.0 ns.0 (λ t. of_expressions t es) ns.1
expression_numbered m t (plain.next_input s) c = refl
expression_numbered m t (plain.variant s a v es) c = refl
expression_numbered m t (plain.make s x fs) c = refl
expression_numbered m t (plain.print s e) c = refl
expression_numbered m t (plain.block s b) c = refl
expression_numbered m t (plain.if s d b o) c = refl
expression_numbered m t (plain.if_let s p e b o) c = refl
expression_numbered m t (plain.match s e l) c = refl
expression_numbered m t (plain.loop s l b) c = refl
expression_numbered m t (plain.while s l d b) c = refl
expression_numbered m t (plain.while_let s l p e b) c = refl
expression_numbered m t (plain.break s l) c = refl
expression_numbered m t (plain.continue s l) c = refl
expression_numbered m t (plain.return s o) c = refl

pub pattern_numbered : (p : PatternTree) (c : Cursor) → pattern_node (of_pattern p c).0 ≡ upcoming c (pattern_span p) Site.Value
pattern_numbered (plain.wild s) c = refl
pattern_numbered (plain.bind s x m) c = refl
pattern_numbered (plain.int_pattern s g v k) c = refl
pattern_numbered (plain.bool_pattern s b) c = refl
pattern_numbered (plain.tuple_pattern s ps) c = refl
pattern_numbered (plain.variant_pattern s a v ps) c = refl
pattern_numbered (plain.make_pattern s x fs) c = refl

pub type_numbered : (y : TypeTree) (c : Cursor) → written_node (of_type y c).0 ≡ upcoming c (type_span y) Site.Value
type_numbered (plain.kind_type s k) c = refl
type_numbered (plain.bool_type s) c = refl
type_numbered (plain.tuple_type s ts) c = refl
type_numbered (plain.ref_type s l m t) c = refl
type_numbered (plain.named_type s x ls) c = refl

pub body_numbered : (t : Site) (b : Body) (c : Cursor) → body_node (of_body t b c).0 ≡ upcoming c (body_span b) t
body_numbered t (plain.body s ss o) c = refl
