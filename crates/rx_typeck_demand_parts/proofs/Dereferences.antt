-- The dereferences that a place goes through, by its node's number, and those of the code's tree before it is walked.
use Rattle.std.proofs.Common.{◌≡◌, ℕ, suc, Bool, true, false, List, [], ◌∷◌, ◌++◌, Option, Some, None, refl, ap, sym, ◌∙◌}
use Rattle.rx_core.specs.declared.types.Span.{Span}
use Rattle.rx_tree.specs.declared.tree.Ident.{Ident}
use Rattle.rx_tree.specs.declared.tree.Expr.{Expr}
use Rattle.rx_tree.specs.declared.tree.ExprNode.{ExprNode, out-ExprNode}
use Rattle.rx_tree.specs.declared.tree.ExprNode.TheOpen as form
use Rattle.rx_tree.specs.declared.tree.ExprNode.TheVariants as node
use Rattle.rx_tree.specs.Plain as plain
use Rattle.rx_tree.specs.Plain.{Expression}
use Rattle.rx_tree.specs.PlainOf.{plain-Expr}
use Rattle.rx_tree.proofs.Layers.{Layer, seen, back, by_layer}
use Rattle.rx_typed.specs.declared.nodes.Node.{Node}
use Rattle.rx_typed.specs.declared.nodes.Site.{Site}
use Rattle.rx_typed.specs.Named.{Exp, Exps, node_of}
use Rattle.rx_typed.specs.Naming.{Cursor, Numbering, of_expression, of_expressions, a_node, an_entry, waits_for, called, assigned}
use Rattle.rx_typeck_solver.specs.declared.facts.Passing.{Passing}
use Rattle.rx_typeck_typed.specs.Demands.{through}
use Rattle.rx_typeck_elaborate_parts.proofs.Numbered.{expression_numbered}
use Rattle.rx_typeck_demand_parts.specs.Places.{through_at}

-- ---- the dereferences of a place

called_through : (n : Node) (ns : List ℕ × Bool) (f : Site → Numbering Exps) (c : Cursor) → through (called n ns f c).0 ≡ []
called_through n (ns, true) f c = refl
called_through n (ns, false) f c = refl

assigned_through : (n : Node) (p : Exp) (w : Option (ℕ × ℕ)) (f : Site → Numbering Exp) (c : Cursor) → through (assigned n p w f c).0 ≡ []
assigned_through n p None f c = refl
assigned_through n p (Some w) f c = refl

-- one step deeper, at the next number
deeper : (s : Span) (t : Site) (e : Expression) (c : Cursor) (all : Bool) → let r = (of_expression false Site.Place e (a_node s t c).1).0 in
    through r ≡ through_at e (suc c.number)
    → record { node = (node_of r).number; all = all } ∷ through r ≡ record { node = suc c.number; all = all } ∷ through_at e (suc c.number)
deeper s t e c all more =
    let node = expression_numbered false Site.Place e (a_node s t c).1 in
    (λ i. record { node = ap (λ (n : Node). n.number) node i; all = all } ∷ more i)

pub through_numbered : (m : Bool) (t : Site) (e : Expression) (c : Cursor) → through (of_expression m t e c).0 ≡ through_at e c.number
through_numbered m t (plain.int s v k) c = refl
through_numbered m t (plain.bool s b) c = refl
through_numbered m t (plain.tuple s es) c = refl
through_numbered m t (plain.var s x) c = refl
through_numbered m t (plain.field s e x) c = deeper s t e c true (through_numbered false Site.Place e (a_node s t c).1)
through_numbered m t (plain.part s e i) c = deeper s t e c true (through_numbered false Site.Place e (a_node s t c).1)
through_numbered m t (plain.deref s e) c = deeper s t e c false (through_numbered false Site.Place e (a_node s t c).1)
through_numbered m t (plain.negate s e) c = refl
through_numbered m t (plain.invert s e) c = refl
through_numbered m t (plain.borrow s w e) c = refl
through_numbered m t (plain.binary s o a b) c = refl
through_numbered m t (plain.assign s p e) c =
    let n = a_node s t c in
    let q = of_expression false Site.Place p n.1 in
    let w = waits_for p q.0 q.1 in
    assigned_through n.0 q.0 w.0 (λ t. of_expression false t e) w.1
through_numbered m t (plain.update s o p e) c = refl
through_numbered m t (plain.call s f es) c =
    let n = a_node s t c in
    let ns = an_entry n.1 in
    called_through n.0 ns.0 (λ t. of_expressions t es) ns.1
through_numbered m t (plain.next_input s) c = refl
through_numbered m t (plain.variant s a v es) c = refl
through_numbered m t (plain.make s x fs) c = refl
through_numbered m t (plain.print s e) c = refl
through_numbered m t (plain.block s b) c = refl
through_numbered m t (plain.if s d b o) c = refl
through_numbered m t (plain.if_let s p e b o) c = refl
through_numbered m t (plain.match s e l) c = refl
through_numbered m t (plain.loop s l b) c = refl
through_numbered m t (plain.while s l d b) c = refl
through_numbered m t (plain.while_let s l p e b) c = refl
through_numbered m t (plain.break s l) c = refl
through_numbered m t (plain.continue s l) c = refl
through_numbered m t (plain.return s o) c = refl

-- ---- what is no step from a place goes through nothing

abbrev NoField : ExprNode → Type 0
NoField n = (e : Expr) (x : Ident) → n ≡ node.Field e x → ⊥

abbrev NoPart : ExprNode → Type 0
NoPart n = (e : Expr) (i : ℕ) → n ≡ node.Part e i → ⊥

abbrev NoDeref : ExprNode → Type 0
NoDeref n = (e : Expr) → n ≡ node.Deref e → ⊥

abbrev LayerNoField : Layer → Type 0
LayerNoField l = (e : Expr) (x : Ident) → l ≡ form.Field e x → ⊥

abbrev LayerNoPart : Layer → Type 0
LayerNoPart l = (e : Expr) (i : ℕ) → l ≡ form.Part e i → ⊥

abbrev LayerNoDeref : Layer → Type 0
LayerNoDeref l = (e : Expr) → l ≡ form.Deref e → ⊥

layer_through : (l : Layer) (s : Span) (n : ℕ) → LayerNoField l → LayerNoPart l → LayerNoDeref l → through_at (seen l s) n ≡ []
layer_through (form.Field e x) s n f p d = absurd (f e x refl)
layer_through (form.Part e i) s n f p d = absurd (p e i refl)
layer_through (form.Deref e) s n f p d = absurd (d e refl)
layer_through _ s n f p d = refl

pub through_nothing : (e : Expr) (n : ℕ) → NoField e.node → NoPart e.node → NoDeref e.node → through_at (plain-Expr e) n ≡ []
through_nothing e n f p d =
    ap (λ (a : Expression). through_at a n) (by_layer e)
    ∙ layer_through (out-ExprNode e.node) e.span n (λ a x q. f a x (back e.node _ q ∙ node.rolls-Field a x)) (λ a i q. p a i (back e.node _ q ∙ node.rolls-Part a i))
    (λ a q. d a (back e.node _ q ∙ node.rolls-Deref a))
