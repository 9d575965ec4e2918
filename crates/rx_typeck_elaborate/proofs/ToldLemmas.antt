-- What is told of the parts of expressions.
use Rattle.std.proofs.Common.{◌≡◌, ℕ, Bool, true, false, List, [], ◌∷◌, Option, Some, None, option_map, map, Result, Ok, Err, refl, ap, sym, ◌∙◌}
use Rattle.rx_core.specs.declared.types.Span.{Span}
use Rattle.rx_tree.specs.declared.tree.Ident.{Ident}
use Rattle.rx_tree.specs.declared.tree.Expr.{Expr}
use Rattle.rx_tree.specs.declared.tree.ExprNode.{ExprNode, out-ExprNode}
use Rattle.rx_tree.specs.declared.tree.ExprNode.TheOpen as form
use Rattle.rx_tree.specs.declared.tree.ExprNode.TheVariants as node
use Rattle.rx_tree.specs.Plain.{Expression}
use Rattle.rx_tree.specs.PlainOf.{plain-Expr, optional_of, expressions_of}
use Rattle.rx_tree.proofs.Layers.{Layer, seen, back, by_layer}
use Rattle.rx_typed.specs.declared.nodes.Node.{Node}
use Rattle.rx_typed.specs.declared.nodes.Site.{Site}
use Rattle.rx_typed.specs.Named as named
use Rattle.rx_typed.specs.Named.{Exp, Exps, Else, node_of, is_place, body_node, body_never, else_never, some_diverges}
use Rattle.rx_typed.specs.Naming.{Cursor, Numbering, of_expression, of_expressions, a_node, an_entry, first, waits_for, called, assigned, branch_site}
use Rattle.rx_typed.specs.Elaborated as elaborated
use Rattle.rx_typed.specs.Elaborated.{Assigned, Coercion, coercion_at, matched, matched_as, place, value, read_as}
use Rattle.rx_typed.specs.Tree as tree
use Rattle.rx_typeck_elaborate_parts.specs.Coercing.{types_of, place_matched, place_matched_as}
use Rattle.rx_typed.specs.PlainTree.{nested_of}
use Rattle.rx_typeck_elaborate_parts.specs.Telling.{branch_site_of, never_by, is_present, statements_listed, body_parts}
use Rattle.rx_typeck_elaborate_parts.specs.declared.walk.Walk.{Walk}
use Rattle.rx_typeck_elaborate_parts.specs.Walks.{Tells}

-- what is told by another name
pub told_as : {A B C D E : Type 0} (plain : B → C) (number : Numbering A) (made other : Assigned → A → C) (told : A → D) (old : Walk) (r : Result (B × D) E) (new : Walk)
    → made (types_of old.given) (number old.cursor).0 ≡ other (types_of old.given) (number old.cursor).0
    → Tells plain number made told old r new → Tells plain number other told old r new
told_as plain number made other told old (Ok b) new e h = (h.0 ∙ e, h.1, h.2)
told_as plain number made other told old (Err f) new e h = tt

-- ---- what is no place

called_no_place : (n : Node) (ns : List ℕ × Bool) (f : Site → Numbering Exps) (c : Cursor) → is_place (called n ns f c).0 ≡ false
called_no_place n (ns, true) f c = refl
called_no_place n (ns, false) f c = refl

assigned_no_place : (n : Node) (p : Exp) (w : Option (ℕ × ℕ)) (f : Site → Numbering Exp) (c : Cursor) → is_place (assigned n p w f c).0 ≡ false
assigned_no_place n p None f c = refl
assigned_no_place n p (Some w) f c = refl

abbrev NoVar : ExprNode → Type 0
NoVar n = (x : List ℕ) → n ≡ node.Var x → ⊥

abbrev NoField : ExprNode → Type 0
NoField n = (e : Expr) (x : Ident) → n ≡ node.Field e x → ⊥

abbrev NoPart : ExprNode → Type 0
NoPart n = (e : Expr) (i : ℕ) → n ≡ node.Part e i → ⊥

abbrev NoDeref : ExprNode → Type 0
NoDeref n = (e : Expr) → n ≡ node.Deref e → ⊥

abbrev LayerNoVar : Layer → Type 0
LayerNoVar l = (x : List ℕ) → l ≡ form.Var x → ⊥

abbrev LayerNoField : Layer → Type 0
LayerNoField l = (e : Expr) (x : Ident) → l ≡ form.Field e x → ⊥

abbrev LayerNoPart : Layer → Type 0
LayerNoPart l = (e : Expr) (i : ℕ) → l ≡ form.Part e i → ⊥

abbrev LayerNoDeref : Layer → Type 0
LayerNoDeref l = (e : Expr) → l ≡ form.Deref e → ⊥

layer_no_place : (l : Layer) (s : Span) (t : Site) (c : Cursor) → LayerNoVar l → LayerNoField l → LayerNoPart l → LayerNoDeref l → is_place (of_expression false t (seen l s) c).0 ≡ false
layer_no_place (form.Var x) s t c v f p d = absurd (v x refl)
layer_no_place (form.Field e x) s t c v f p d = absurd (f e x refl)
layer_no_place (form.Part e i) s t c v f p d = absurd (p e i refl)
layer_no_place (form.Deref e) s t c v f p d = absurd (d e refl)
layer_no_place (form.Call g es) s t c v f p d =
    let n = a_node s t c in
    let ns = an_entry n.1 in
    called_no_place n.0 ns.0 (λ t. of_expressions t (expressions_of (map plain-Expr es))) ns.1
layer_no_place (form.Assign a b) s t c v f p d =
    let n = a_node s t c in
    let q = of_expression false Site.Place (plain-Expr a) n.1 in
    let w = waits_for (plain-Expr a) q.0 q.1 in
    assigned_no_place n.0 q.0 w.0 (λ t. of_expression false t (plain-Expr b)) w.1
layer_no_place _ s t c v f p d = refl

pub no_place : (e : Expr) (t : Site) (c : Cursor) → NoVar e.node → NoField e.node → NoPart e.node → NoDeref e.node → is_place (of_expression false t (plain-Expr e) c).0 ≡ false
no_place e t c v f p d =
    ap (λ (a : Expression). is_place (of_expression false t a c).0) (by_layer e)
    ∙ layer_no_place (out-ExprNode e.node) e.span t c (λ x q. v x (back e.node _ q ∙ node.rolls-Var x)) (λ a x q. f a x (back e.node _ q ∙ node.rolls-Field a x))
    (λ a i q. p a i (back e.node _ q ∙ node.rolls-Part a i)) (λ a q. d a (back e.node _ q ∙ node.rolls-Deref a))

pub own_nothing : (T : Assigned) (e : Exp) → is_place e ≡ false → tree.own 0 ≡ place T e
own_nothing T (named.var n x) h = absurd cc
own_nothing T (named.field n e x) h = absurd cc
own_nothing T (named.part n e i) h = absurd cc
own_nothing T (named.deref n e) h = absurd cc
own_nothing T _ h = refl

pub value_matched : (T : Assigned) (e : Exp) → is_place e ≡ false → tree.of_value (value T e) ≡ matched T e (value T e)
value_matched T e h = sym (ap (λ b. matched_as T b (coercion_at T (node_of e)) e (value T e)) h)

read_matched : (T : Assigned) (e : Exp) (k : Coercion) → place_matched_as T (node_of e) k (place T e) ≡ matched_as T true k e (read_as T (node_of e) k (place T e))
read_matched T e elaborated.plain = refl
read_matched T e elaborated.reborrow = refl
read_matched T e elaborated.share = refl

pub place_is_matched : (T : Assigned) (e : Exp) → is_place e ≡ true → place_matched T (node_of e) (place T e) ≡ matched T e (value T e)
place_is_matched T (named.var n x) h = read_matched T (named.var n x) (coercion_at T n)
place_is_matched T (named.field n e x) h = read_matched T (named.field n e x) (coercion_at T n)
place_is_matched T (named.part n e i) h = read_matched T (named.part n e i) (coercion_at T n)
place_is_matched T (named.deref n e) h = read_matched T (named.deref n e) (coercion_at T n)
place_is_matched T _ h = absurd cc

-- ---- parts that may be missing

pub returned_is : (T : Assigned) (n : Node) (o : Else) → elaborated.tail T n o ≡ elaborated.returned T n o
returned_is T n named.absent = refl
returned_is T n (named.present e) = refl

pub branch_site_is : (t : Site) (o : Option Expr) → branch_site t (optional_of (option_map plain-Expr o)) ≡ branch_site_of t o
branch_site_is t None = refl
branch_site_is t (Some e) = refl

pub body_never_is : (n : Node) (ss : named.Statements) (o : Else) → body_never (named.body n ss o) ≡ never_by (is_present o) (else_never o) (some_diverges ss)
body_never_is n ss named.absent = refl
body_never_is n ss (named.present e) = refl

nested_list : (T : Assigned) (ss : named.Statements) (last : tree.Exp) → nested_of (statements_listed T ss) last ≡ elaborated.nested T ss last
nested_list T named.no_statement last = refl
nested_list T (named.statement_and a ss) last = ap (λ rest. elaborated.statement T a rest) (nested_list T ss last)

pub body_is : (T : Assigned) (b : named.Body) → elaborated.body T b ≡ tree.block (elaborated.mark_if T (body_node b) (body_never b)) (nested_of (body_parts T b).0 (body_parts T b).1)
body_is T (named.body n ss o) = ap (λ rest. tree.block (elaborated.mark_if T n (body_never (named.body n ss o))) rest) (sym (nested_list T ss (elaborated.tail T n o)))

pub function_body_is : (T : Assigned) (b : named.Body) → elaborated.function_body T b
    ≡ tree.block (elaborated.mark_if T (body_node b) (body_never b)) (nested_of (body_parts T b).0 (tree.give (elaborated.no_mark (body_node b)) (body_parts T b).1))
function_body_is T (named.body n ss o) =
    ap (λ rest. tree.block (elaborated.mark_if T n (body_never (named.body n ss o))) rest) (sym (nested_list T ss (tree.give (elaborated.no_mark n) (elaborated.tail T n o))))

-- ---- calls

pub call_hidden : (n : Node) (ns : List ℕ × Bool) (f : Site → Numbering Exps) (c : Cursor) → ns.1 ≡ true → called n ns f c ≡ called n ([], true) f c
call_hidden n (ns, true) f c h = refl
call_hidden n (ns, false) f c h = absurd cc

pub call_open : (n : Node) (ns : List ℕ × Bool) (f : Site → Numbering Exps) (c : Cursor) → ns.1 ≡ false → called n ns f c ≡ called n (first ns.0 ∷ [], false) f c
call_open n (ns, true) f c h = absurd cc
call_open n (ns, false) f c h = refl

pub ruleset call_rules = (call_hidden, call_open)
