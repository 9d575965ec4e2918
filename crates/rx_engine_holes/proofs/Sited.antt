-- What is expected of an initialiser with a type is what is expected at any coercion site: what an expression asks there that is no place.
use Rattle.std.proofs.Common.{◌≡◌, ℕ, Bool, true, false, ◌&&◌, List, refl, sym, ap, ◌∙◌}
use Rattle.rx_tree.specs.declared.tree.BinaryOp.{BinaryOp}
use Rattle.rx_typed.specs.declared.nodes.Node.{Node}
use Rattle.rx_typed.specs.declared.nodes.Site.{Site}
use Rattle.rx_typed.specs.Named as named
use Rattle.rx_typed.specs.Named.{Arms, Body, Else, Exp, is_place, never, node_of}
use Rattle.rx_typeck_solver.specs.declared.facts.Demand.{Demand}
use Rattle.rx_typeck_typed.specs.Demands as rules
use Rattle.rx_typeck_typed.specs.Demands.{Matched}
use Rattle.rx_engine_holes.specs.Sited.{sited, at_site}

abbrev E : Node → Node
E n = sited Site.Expects n

abbrev I : Node → Node
I n = sited Site.Initialises n

sited_same : (n : Node) → n.site ≡ Site.Expects → E n ≡ n
sited_same n e = ap (λ (t : Site). record { number = n.number; span = n.span; site = t }) (sym e)

join_same : (n : Node) (v : Bool) (ds : List Demand) → rules.join (I n) v ds ≡ rules.join (E n) v ds
join_same n true ds = refl
join_same n false ds = refl

operation_same : (n : Node) (o : BinaryOp) (a : Node) (x : Bool) (b : Node) (y : Bool) (ds : List Demand) → rules.operation o (I n) a x b y ds ≡ rules.operation o (E n) a x b y ds
operation_same n BinaryOp.Or a x b y ds = refl
operation_same n BinaryOp.And a x b y ds = refl
operation_same n BinaryOp.Eq a x b y ds = refl
operation_same n BinaryOp.Ne a x b y ds = refl
operation_same n BinaryOp.Lt a x b y ds = refl
operation_same n BinaryOp.Le a x b y ds = refl
operation_same n BinaryOp.Gt a x b y ds = refl
operation_same n BinaryOp.Ge a x b y ds = refl
operation_same n _ a x b y ds = refl

loop_same : (n : Node) (k : Bool) (ds : List Demand) → rules.loop_given (I n) k ds ≡ rules.loop_given (E n) k ds
loop_same n true ds = refl
loop_same n false ds = refl

arms_same : (g : ℕ) (n : Node) (s : Matched) (m : Node) (l : Arms) (ds : List Demand) → rules.of_arms g (I n) s m l ds ≡ rules.of_arms g (E n) s m l ds
arms_same g n s m named.no_arm ds = refl
arms_same g n s m (named.arm_and p e l) ds = arms_same g n s m l _

branches_same : (g : ℕ) (n : Node) (b : Body) (o : Else) (ds : List Demand) → rules.of_branches g (I n) (b, o) ds ≡ rules.of_branches g (E n) (b, o) ds
branches_same g n b named.absent ds = refl
branches_same g n b (named.present e) ds = join_same n (named.body_never b && never e) _

pub value_asks : (g : ℕ) (e : Exp) → is_place e ≡ false → (node_of e).site ≡ Site.Expects → (ds : List Demand) → rules.of_exp g (at_site Site.Initialises e) ds ≡ rules.of_exp g e ds
value_asks g (named.int n m v k) w z ds = ap (λ (here : Node). rules.of_exp g (named.int here m v k) ds) (sited_same n z)
value_asks g (named.bool n b) w z ds = ap (λ (here : Node). rules.of_exp g (named.bool here b) ds) (sited_same n z)
value_asks g (named.tuple n es) w z ds = ap (λ (here : Node). rules.of_exp g (named.tuple here es) ds) (sited_same n z)
value_asks g (named.negate n x) w z ds = ap (λ (here : Node). rules.of_exp g (named.negate here x) ds) (sited_same n z)
value_asks g (named.invert n x) w z ds = ap (λ (here : Node). rules.of_exp g (named.invert here x) ds) (sited_same n z)
value_asks g (named.borrow n m x) w z ds = ap (λ (here : Node). rules.of_exp g (named.borrow here m x) ds) (sited_same n z)
value_asks g (named.assign n p x) w z ds = ap (λ (here : Node). rules.of_exp g (named.assign here p x) ds) (sited_same n z)
value_asks g (named.gives n p x d y) w z ds = ap (λ (here : Node). rules.of_exp g (named.gives here p x d y) ds) (sited_same n z)
value_asks g (named.update n o p x) w z ds = ap (λ (here : Node). rules.of_exp g (named.update here o p x) ds) (sited_same n z)
value_asks g (named.call n h es) w z ds = ap (λ (here : Node). rules.of_exp g (named.call here h es) ds) (sited_same n z)
value_asks g (named.hidden_call n es) w z ds = ap (λ (here : Node). rules.of_exp g (named.hidden_call here es) ds) (sited_same n z)
value_asks g (named.next_input n) w z ds = ap (λ (here : Node). rules.of_exp g (named.next_input here) ds) (sited_same n z)
value_asks g (named.variant n i v es) w z ds = ap (λ (here : Node). rules.of_exp g (named.variant here i v es) ds) (sited_same n z)
value_asks g (named.make n i fs) w z ds = ap (λ (here : Node). rules.of_exp g (named.make here i fs) ds) (sited_same n z)
value_asks g (named.print n x) w z ds = ap (λ (here : Node). rules.of_exp g (named.print here x) ds) (sited_same n z)
value_asks g (named.while n l x b) w z ds = ap (λ (here : Node). rules.of_exp g (named.while here l x b) ds) (sited_same n z)
value_asks g (named.while_let n l p x b) w z ds = ap (λ (here : Node). rules.of_exp g (named.while_let here l p x b) ds) (sited_same n z)
value_asks g (named.break n l) w z ds = ap (λ (here : Node). rules.of_exp g (named.break here l) ds) (sited_same n z)
value_asks g (named.continue n l) w z ds = ap (λ (here : Node). rules.of_exp g (named.continue here l) ds) (sited_same n z)
value_asks g (named.return n o) w z ds = ap (λ (here : Node). rules.of_exp g (named.return here o) ds) (sited_same n z)
value_asks g (named.binary n o a b) w z ds = operation_same n o (node_of a) (never a) (node_of b) (never b) _ ∙ ap (λ (here : Node). rules.of_exp g (named.binary here o a b) ds) (sited_same n z)
value_asks g (named.block n b) w z ds = join_same n (named.body_never b) _ ∙ ap (λ (here : Node). rules.of_exp g (named.block here b) ds) (sited_same n z)
value_asks g (named.if n c b o) w z ds = branches_same g n b o _ ∙ ap (λ (here : Node). rules.of_exp g (named.if here c b o) ds) (sited_same n z)
value_asks g (named.if_let n p x b o) w z ds = branches_same g n b o _ ∙ ap (λ (here : Node). rules.of_exp g (named.if_let here p x b o) ds) (sited_same n z)
value_asks g (named.match n x l) w z ds = ap (rules.join (I n) (named.all_never l)) (arms_same g n (rules.matched x) (node_of x) l _) ∙ join_same n (named.all_never l) _ ∙ ap (λ (here : Node). rules.of_exp g (named.match here x l) ds) (sited_same n z)
value_asks g (named.loop n l k b) w z ds = loop_same n k _ ∙ ap (λ (here : Node). rules.of_exp g (named.loop here l k b) ds) (sited_same n z)
value_asks g (named.var n x) w z ds = absurd (cc)
value_asks g (named.field n x y) w z ds = absurd (cc)
value_asks g (named.part n x i) w z ds = absurd (cc)
value_asks g (named.deref n x) w z ds = absurd (cc)

-- it has that node
pub node_sited : (t : Site) (e : Exp) → node_of (at_site t e) ≡ sited t (node_of e)
node_sited t (named.int n m v k) = refl
node_sited t (named.bool n b) = refl
node_sited t (named.tuple n es) = refl
node_sited t (named.var n x) = refl
node_sited t (named.field n e x) = refl
node_sited t (named.part n e i) = refl
node_sited t (named.deref n e) = refl
node_sited t (named.negate n e) = refl
node_sited t (named.invert n e) = refl
node_sited t (named.borrow n m e) = refl
node_sited t (named.binary n o a b) = refl
node_sited t (named.assign n p e) = refl
node_sited t (named.gives n p x d e) = refl
node_sited t (named.update n o p e) = refl
node_sited t (named.call n g es) = refl
node_sited t (named.hidden_call n es) = refl
node_sited t (named.next_input n) = refl
node_sited t (named.variant n i v es) = refl
node_sited t (named.make n i fs) = refl
node_sited t (named.print n e) = refl
node_sited t (named.block n b) = refl
node_sited t (named.if n c b o) = refl
node_sited t (named.if_let n p e b o) = refl
node_sited t (named.match n e l) = refl
node_sited t (named.loop n l k b) = refl
node_sited t (named.while n l c b) = refl
node_sited t (named.while_let n l p e b) = refl
node_sited t (named.break n l) = refl
node_sited t (named.continue n l) = refl
node_sited t (named.return n o) = refl
