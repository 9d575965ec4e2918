-- What an expression asks is what its form asks, and then what it asks as a place.
use Rattle.std.proofs.Common.{◌≡◌, ℕ, Bool, List, refl, ap, sym, ◌∙◌}
use Rattle.rx_tree.specs.declared.tree.Expr.{Expr}
use Rattle.rx_tree.specs.PlainOf.{plain-Expr}
use Rattle.rx_typed.specs.declared.nodes.Node.{Node}
use Rattle.rx_typed.specs.declared.nodes.Site.{Site}
use Rattle.rx_typed.specs.Named as named
use Rattle.rx_typed.specs.Named.{Exp, node_of}
use Rattle.rx_typed.specs.Naming.{Cursor, of_expression}
use Rattle.rx_typeck_solver.specs.declared.facts.Demand.{Demand}
use Rattle.rx_typeck_typed.specs.Demands.{through, of_exp, of_form}
use Rattle.rx_typeck_demand_parts.specs.Places.{through_at}
use Rattle.rx_typeck_elaborate_parts.specs.Seeing.{seen_of}
use Rattle.rx_typeck_demand_parts.specs.Placing.{placed}
use Rattle.rx_typeck_elaborate_parts.proofs.Numbered.{expression_numbered}
use Rattle.rx_typeck_demand_parts.proofs.Dereferences.{through_numbered}

form_placed : (f : ℕ) (e : Exp) (ds : List Demand) → of_exp f e ds ≡ placed (seen_of e) (through e) (of_form f e ds)
form_placed f (named.int n m v k) ds = refl
form_placed f (named.bool n b) ds = refl
form_placed f (named.tuple n es) ds = refl
form_placed f (named.var n x) ds = refl
form_placed f (named.field n e x) ds = refl
form_placed f (named.part n e i) ds = refl
form_placed f (named.deref n e) ds = refl
form_placed f (named.negate n e) ds = refl
form_placed f (named.invert n e) ds = refl
form_placed f (named.borrow n m e) ds = refl
form_placed f (named.binary n o a b) ds = refl
form_placed f (named.assign n p e) ds = refl
form_placed f (named.gives n p x d e) ds = refl
form_placed f (named.update n o p e) ds = refl
form_placed f (named.call n g es) ds = refl
form_placed f (named.hidden_call n es) ds = refl
form_placed f (named.next_input n) ds = refl
form_placed f (named.variant n i v es) ds = refl
form_placed f (named.make n i fs) ds = refl
form_placed f (named.print n e) ds = refl
form_placed f (named.block n b) ds = refl
form_placed f (named.if n c b o) ds = refl
form_placed f (named.if_let n p e b o) ds = refl
form_placed f (named.match n e l) ds = refl
form_placed f (named.loop n l k b) ds = refl
form_placed f (named.while n l c b) ds = refl
form_placed f (named.while_let n l p e b) ds = refl
form_placed f (named.break n l) ds = refl
form_placed f (named.continue n l) ds = refl
form_placed f (named.return n o) ds = refl

-- the dereferences of a place as it is written
pub through_here : (m : Bool) (t : Site) (e : Expr) (c : Cursor)
    → through (of_expression m t (plain-Expr e) c).0 ≡ through_at (plain-Expr e) (node_of (of_expression m t (plain-Expr e) c).0).number
through_here m t e c =
    through_numbered m t (plain-Expr e) c ∙ sym (ap (λ (n : Node). through_at (plain-Expr e) n.number) (expression_numbered m t (plain-Expr e) c))

pub expression_placed : (f : ℕ) (m : Bool) (t : Site) (e : Expr) (c : Cursor) (ds : List Demand) → let r = (of_expression m t (plain-Expr e) c).0 in
    of_exp f r ds ≡ placed (seen_of r) (through_at (plain-Expr e) (node_of r).number) (of_form f r ds)
expression_placed f m t e c ds =
    let r = (of_expression m t (plain-Expr e) c).0 in
    form_placed f r ds ∙ ap (λ ps. placed (seen_of r) ps (of_form f r ds)) (through_here m t e c)
