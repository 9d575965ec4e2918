-- What is seen of an expression that the matches of this crate pass over, and the equations that they take.
use Rattle.std.proofs.Common.{◌≡◌, ℕ, Bool, false, List, Option, refl, ap, sym, ◌∙◌}
use Rattle.rx_core.specs.declared.types.Span.{Span}
use Rattle.rx_tree.specs.declared.tree.Ident.{Ident}
use Rattle.rx_tree.specs.declared.tree.BinaryOp.{BinaryOp}
use Rattle.rx_tree.specs.declared.tree.UpdateOp.{UpdateOp}
use Rattle.rx_tree.specs.declared.tree.Pattern.{Pattern}
use Rattle.rx_tree.specs.declared.tree.Expr.{Expr}
use Rattle.rx_tree.specs.declared.tree.Arm.{Arm}
use Rattle.rx_tree.specs.declared.tree.FieldExpr.{FieldExpr}
use Rattle.rx_tree.specs.declared.tree.Block.{Block}
use Rattle.rx_tree.specs.declared.tree.ExprNode.{ExprNode, out-ExprNode}
use Rattle.rx_tree.specs.declared.tree.ExprNode.TheOpen as form
use Rattle.rx_tree.specs.declared.tree.ExprNode.TheVariants as node
use Rattle.rx_tree.specs.PlainOf.{plain-Expr, plain-ExprNode, expression_is, expression_deref, expression_neg, expression_not, expression_borrow, expression_binary, expression_assign, expression_update, expression_break, expression_continue, expression_return, expression_make, expression_field, expression_part, expression_block, expression_if, expression_if_let, expression_match, expression_loop, expression_while, expression_while_let}
use Rattle.rx_tree.proofs.Layers.{Layer, seen, back, by_layer}
use Rattle.rx_tree.proofs.Rules.{expression_by_node}
use Rattle.rx_print_spelling.specs.Places.{weakness, shown, too_weak, is_open, is_like, is_block, begins}
use Rattle.rx_print_spelling.specs.Strengths as at
use Rattle.rx_print_spelling.specs.Expressions.{is_borrow}

pub ruleset weakness_rules = (expression_by_node, expression_deref, expression_neg, expression_not, expression_borrow, expression_binary, expression_assign, expression_update, expression_break, expression_continue, expression_return)

pub ruleset open_rules = (expression_by_node, expression_make, expression_binary)

pub ruleset like_rules = (expression_by_node, expression_block, expression_if, expression_if_let, expression_match, expression_loop, expression_while, expression_while_let)

pub ruleset block_rules = (expression_by_node, expression_block)

pub ruleset borrow_rules = (expression_by_node, expression_borrow)

pub ruleset begin_rules = (expression_by_node, expression_block, expression_if, expression_if_let, expression_match, expression_loop, expression_while, expression_while_let, expression_binary)

-- ---- the forms that a node has not

abbrev NoDeref : ExprNode → Type 0
NoDeref n = (e : Expr) → n ≡ node.Deref e → ⊥

abbrev NoNeg : ExprNode → Type 0
NoNeg n = (e : Expr) → n ≡ node.Neg e → ⊥

abbrev NoNot : ExprNode → Type 0
NoNot n = (e : Expr) → n ≡ node.Not e → ⊥

abbrev NoBorrow : ExprNode → Type 0
NoBorrow n = (m : Bool) (e : Expr) → n ≡ node.Borrow m e → ⊥

abbrev NoBinary : ExprNode → Type 0
NoBinary n = (o : BinaryOp) (a b : Expr) → n ≡ node.Binary o a b → ⊥

abbrev NoAssign : ExprNode → Type 0
NoAssign n = (a b : Expr) → n ≡ node.Assign a b → ⊥

abbrev NoUpdate : ExprNode → Type 0
NoUpdate n = (o : UpdateOp) (a b : Expr) → n ≡ node.Update o a b → ⊥

abbrev NoBreak : ExprNode → Type 0
NoBreak n = (l : Option Ident) → n ≡ node.Break l → ⊥

abbrev NoContinue : ExprNode → Type 0
NoContinue n = (l : Option Ident) → n ≡ node.Continue l → ⊥

abbrev NoReturn : ExprNode → Type 0
NoReturn n = (y : Option Expr) → n ≡ node.Return y → ⊥

abbrev NoMake : ExprNode → Type 0
NoMake n = (f : Ident) (l : List FieldExpr) → n ≡ node.Make f l → ⊥

abbrev NoField : ExprNode → Type 0
NoField n = (e : Expr) (f : Ident) → n ≡ node.Field e f → ⊥

abbrev NoPart : ExprNode → Type 0
NoPart n = (e : Expr) (i : ℕ) → n ≡ node.Part e i → ⊥

abbrev NoBlock : ExprNode → Type 0
NoBlock n = (b : Block) → n ≡ node.Block b → ⊥

abbrev NoIf : ExprNode → Type 0
NoIf n = (c : Expr) (b : Block) (y : Option Expr) → n ≡ node.If c b y → ⊥

abbrev NoIfLet : ExprNode → Type 0
NoIfLet n = (p : Pattern) (e : Expr) (b : Block) (y : Option Expr) → n ≡ node.IfLet p e b y → ⊥

abbrev NoMatch : ExprNode → Type 0
NoMatch n = (e : Expr) (l : List Arm) → n ≡ node.Match e l → ⊥

abbrev NoLoop : ExprNode → Type 0
NoLoop n = (l : Option Ident) (b : Block) → n ≡ node.Loop l b → ⊥

abbrev NoWhile : ExprNode → Type 0
NoWhile n = (l : Option Ident) (c : Expr) (b : Block) → n ≡ node.While l c b → ⊥

abbrev NoWhileLet : ExprNode → Type 0
NoWhileLet n = (l : Option Ident) (p : Pattern) (e : Expr) (b : Block) → n ≡ node.WhileLet l p e b → ⊥

from_deref : (n : ExprNode) (e : Expr) → out-ExprNode n ≡ form.Deref e → n ≡ node.Deref e
from_deref n e q = back n (form.Deref e) q ∙ node.rolls-Deref e

from_neg : (n : ExprNode) (e : Expr) → out-ExprNode n ≡ form.Neg e → n ≡ node.Neg e
from_neg n e q = back n (form.Neg e) q ∙ node.rolls-Neg e

from_not : (n : ExprNode) (e : Expr) → out-ExprNode n ≡ form.Not e → n ≡ node.Not e
from_not n e q = back n (form.Not e) q ∙ node.rolls-Not e

from_borrow : (n : ExprNode) (m : Bool) (e : Expr) → out-ExprNode n ≡ form.Borrow m e → n ≡ node.Borrow m e
from_borrow n m e q = back n (form.Borrow m e) q ∙ node.rolls-Borrow m e

from_binary : (n : ExprNode) (o : BinaryOp) (a b : Expr) → out-ExprNode n ≡ form.Binary o a b → n ≡ node.Binary o a b
from_binary n o a b q = back n (form.Binary o a b) q ∙ node.rolls-Binary o a b

from_assign : (n : ExprNode) (a b : Expr) → out-ExprNode n ≡ form.Assign a b → n ≡ node.Assign a b
from_assign n a b q = back n (form.Assign a b) q ∙ node.rolls-Assign a b

from_update : (n : ExprNode) (o : UpdateOp) (a b : Expr) → out-ExprNode n ≡ form.Update o a b → n ≡ node.Update o a b
from_update n o a b q = back n (form.Update o a b) q ∙ node.rolls-Update o a b

from_break : (n : ExprNode) (l : Option Ident) → out-ExprNode n ≡ form.Break l → n ≡ node.Break l
from_break n l q = back n (form.Break l) q ∙ node.rolls-Break l

from_continue : (n : ExprNode) (l : Option Ident) → out-ExprNode n ≡ form.Continue l → n ≡ node.Continue l
from_continue n l q = back n (form.Continue l) q ∙ node.rolls-Continue l

from_return : (n : ExprNode) (y : Option Expr) → out-ExprNode n ≡ form.Return y → n ≡ node.Return y
from_return n y q = back n (form.Return y) q ∙ node.rolls-Return y

from_make : (n : ExprNode) (f : Ident) (l : List FieldExpr) → out-ExprNode n ≡ form.Make f l → n ≡ node.Make f l
from_make n f l q = back n (form.Make f l) q ∙ node.rolls-Make f l

from_field : (n : ExprNode) (e : Expr) (f : Ident) → out-ExprNode n ≡ form.Field e f → n ≡ node.Field e f
from_field n e f q = back n (form.Field e f) q ∙ node.rolls-Field e f

from_part : (n : ExprNode) (e : Expr) (i : ℕ) → out-ExprNode n ≡ form.Part e i → n ≡ node.Part e i
from_part n e i q = back n (form.Part e i) q ∙ node.rolls-Part e i

from_block : (n : ExprNode) (b : Block) → out-ExprNode n ≡ form.Block b → n ≡ node.Block b
from_block n b q = back n (form.Block b) q ∙ node.rolls-Block b

from_if : (n : ExprNode) (c : Expr) (b : Block) (y : Option Expr) → out-ExprNode n ≡ form.If c b y → n ≡ node.If c b y
from_if n c b y q = back n (form.If c b y) q ∙ node.rolls-If c b y

from_if_let : (n : ExprNode) (p : Pattern) (e : Expr) (b : Block) (y : Option Expr) → out-ExprNode n ≡ form.IfLet p e b y → n ≡ node.IfLet p e b y
from_if_let n p e b y q = back n (form.IfLet p e b y) q ∙ node.rolls-IfLet p e b y

from_match : (n : ExprNode) (e : Expr) (l : List Arm) → out-ExprNode n ≡ form.Match e l → n ≡ node.Match e l
from_match n e l q = back n (form.Match e l) q ∙ node.rolls-Match e l

from_loop : (n : ExprNode) (l : Option Ident) (b : Block) → out-ExprNode n ≡ form.Loop l b → n ≡ node.Loop l b
from_loop n l b q = back n (form.Loop l b) q ∙ node.rolls-Loop l b

from_while : (n : ExprNode) (l : Option Ident) (c : Expr) (b : Block) → out-ExprNode n ≡ form.While l c b → n ≡ node.While l c b
from_while n l c b q = back n (form.While l c b) q ∙ node.rolls-While l c b

from_while_let : (n : ExprNode) (l : Option Ident) (p : Pattern) (e : Expr) (b : Block) → out-ExprNode n ≡ form.WhileLet l p e b → n ≡ node.WhileLet l p e b
from_while_let n l p e b q = back n (form.WhileLet l p e b) q ∙ node.rolls-WhileLet l p e b

-- ---- what is said of the others

weakness_passed : (n : ExprNode) (x : Layer) (s : Span) → out-ExprNode n ≡ x → NoDeref n → NoNeg n → NoNot n
    → NoBorrow n → NoBinary n → NoAssign n → NoUpdate n → NoBreak n → NoContinue n → NoReturn n
    → weakness (seen x s) ≡ 0
weakness_passed n (form.Deref e) s q h _ _ _ _ _ _ _ _ _ = absurd (h e (from_deref n e q))
weakness_passed n (form.Neg e) s q _ h _ _ _ _ _ _ _ _ = absurd (h e (from_neg n e q))
weakness_passed n (form.Not e) s q _ _ h _ _ _ _ _ _ _ = absurd (h e (from_not n e q))
weakness_passed n (form.Borrow m e) s q _ _ _ h _ _ _ _ _ _ = absurd (h m e (from_borrow n m e q))
weakness_passed n (form.Binary o a b) s q _ _ _ _ h _ _ _ _ _ = absurd (h o a b (from_binary n o a b q))
weakness_passed n (form.Assign a b) s q _ _ _ _ _ h _ _ _ _ = absurd (h a b (from_assign n a b q))
weakness_passed n (form.Update o a b) s q _ _ _ _ _ _ h _ _ _ = absurd (h o a b (from_update n o a b q))
weakness_passed n (form.Break l) s q _ _ _ _ _ _ _ h _ _ = absurd (h l (from_break n l q))
weakness_passed n (form.Continue l) s q _ _ _ _ _ _ _ _ h _ = absurd (h l (from_continue n l q))
weakness_passed n (form.Return y) s q _ _ _ _ _ _ _ _ _ h = absurd (h y (from_return n y q))
weakness_passed n _ s q _ _ _ _ _ _ _ _ _ _ = refl

pub weakness_else : (e : Expr) → NoDeref e.node → NoNeg e.node → NoNot e.node → NoBorrow e.node
    → NoBinary e.node → NoAssign e.node → NoUpdate e.node → NoBreak e.node → NoContinue e.node → NoReturn e.node
    → 0 ≡ weakness (plain-Expr e)
weakness_else e h0 h1 h2 h3 h4 h5 h6 h7 h8 h9 =
    sym (ap weakness (by_layer e) ∙ weakness_passed e.node (out-ExprNode e.node) e.span refl h0 h1 h2 h3 h4 h5 h6 h7 h8 h9)

open_passed : (n : ExprNode) (x : Layer) (s : Span) → out-ExprNode n ≡ x → NoMake n → NoField n → NoPart n
    → NoDeref n → NoNeg n → NoNot n → NoBorrow n → NoBinary n → is_open (seen x s) ≡ false
open_passed n (form.Make f l) s q h _ _ _ _ _ _ _ = absurd (h f l (from_make n f l q))
open_passed n (form.Field e f) s q _ h _ _ _ _ _ _ = absurd (h e f (from_field n e f q))
open_passed n (form.Part e i) s q _ _ h _ _ _ _ _ = absurd (h e i (from_part n e i q))
open_passed n (form.Deref e) s q _ _ _ h _ _ _ _ = absurd (h e (from_deref n e q))
open_passed n (form.Neg e) s q _ _ _ _ h _ _ _ = absurd (h e (from_neg n e q))
open_passed n (form.Not e) s q _ _ _ _ _ h _ _ = absurd (h e (from_not n e q))
open_passed n (form.Borrow m e) s q _ _ _ _ _ _ h _ = absurd (h m e (from_borrow n m e q))
open_passed n (form.Binary o a b) s q _ _ _ _ _ _ _ h = absurd (h o a b (from_binary n o a b q))
open_passed n _ s q _ _ _ _ _ _ _ _ = refl

pub open_else : (e : Expr) → NoMake e.node → NoField e.node → NoPart e.node → NoDeref e.node → NoNeg e.node
    → NoNot e.node → NoBorrow e.node → NoBinary e.node → false ≡ is_open (plain-Expr e)
open_else e h0 h1 h2 h3 h4 h5 h6 h7 =
    sym (ap is_open (by_layer e) ∙ open_passed e.node (out-ExprNode e.node) e.span refl h0 h1 h2 h3 h4 h5 h6 h7)

like_passed : (n : ExprNode) (x : Layer) (s : Span) → out-ExprNode n ≡ x → NoBlock n → NoIf n → NoIfLet n
    → NoMatch n → NoLoop n → NoWhile n → NoWhileLet n → is_like (seen x s) ≡ false
like_passed n (form.Block b) s q h _ _ _ _ _ _ = absurd (h b (from_block n b q))
like_passed n (form.If c b y) s q _ h _ _ _ _ _ = absurd (h c b y (from_if n c b y q))
like_passed n (form.IfLet p e b y) s q _ _ h _ _ _ _ = absurd (h p e b y (from_if_let n p e b y q))
like_passed n (form.Match e l) s q _ _ _ h _ _ _ = absurd (h e l (from_match n e l q))
like_passed n (form.Loop l b) s q _ _ _ _ h _ _ = absurd (h l b (from_loop n l b q))
like_passed n (form.While l c b) s q _ _ _ _ _ h _ = absurd (h l c b (from_while n l c b q))
like_passed n (form.WhileLet l p e b) s q _ _ _ _ _ _ h = absurd (h l p e b (from_while_let n l p e b q))
like_passed n _ s q _ _ _ _ _ _ _ = refl

pub like_else : (e : Expr) → NoBlock e.node → NoIf e.node → NoIfLet e.node → NoMatch e.node → NoLoop e.node
    → NoWhile e.node → NoWhileLet e.node → false ≡ is_like (plain-Expr e)
like_else e h0 h1 h2 h3 h4 h5 h6 =
    sym (ap is_like (by_layer e) ∙ like_passed e.node (out-ExprNode e.node) e.span refl h0 h1 h2 h3 h4 h5 h6)

block_passed : (n : ExprNode) (x : Layer) (s : Span) → out-ExprNode n ≡ x → NoBlock n
    → is_block (seen x s) ≡ false
block_passed n (form.Block b) s q h = absurd (h b (from_block n b q))
block_passed n _ s q _ = refl

pub block_else : (e : Expr) → NoBlock e.node → false ≡ is_block (plain-Expr e)
block_else e h0 =
    sym (ap is_block (by_layer e) ∙ block_passed e.node (out-ExprNode e.node) e.span refl h0)

borrow_passed : (n : ExprNode) (x : Layer) (s : Span) → out-ExprNode n ≡ x → NoBorrow n
    → is_borrow (seen x s) ≡ false
borrow_passed n (form.Borrow m e) s q h = absurd (h m e (from_borrow n m e q))
borrow_passed n _ s q _ = refl

pub borrow_else : (e : Expr) → NoBorrow e.node → false ≡ is_borrow (plain-Expr e)
borrow_else e h0 =
    sym (ap is_borrow (by_layer e) ∙ borrow_passed e.node (out-ExprNode e.node) e.span refl h0)

first_passed : (n : ExprNode) (x : Layer) (s : Span) → out-ExprNode n ≡ x → NoBlock n → NoIf n → NoIfLet n
    → NoMatch n → NoLoop n → NoWhile n → NoWhileLet n → NoField n → NoPart n → NoBinary n → NoAssign n
    → NoUpdate n → begins (seen x s) ≡ false
first_passed n (form.Block b) s q h _ _ _ _ _ _ _ _ _ _ _ = absurd (h b (from_block n b q))
first_passed n (form.If c b y) s q _ h _ _ _ _ _ _ _ _ _ _ = absurd (h c b y (from_if n c b y q))
first_passed n (form.IfLet p e b y) s q _ _ h _ _ _ _ _ _ _ _ _ = absurd (h p e b y (from_if_let n p e b y q))
first_passed n (form.Match e l) s q _ _ _ h _ _ _ _ _ _ _ _ = absurd (h e l (from_match n e l q))
first_passed n (form.Loop l b) s q _ _ _ _ h _ _ _ _ _ _ _ = absurd (h l b (from_loop n l b q))
first_passed n (form.While l c b) s q _ _ _ _ _ h _ _ _ _ _ _ = absurd (h l c b (from_while n l c b q))
first_passed n (form.WhileLet l p e b) s q _ _ _ _ _ _ h _ _ _ _ _ = absurd (h l p e b (from_while_let n l p e b q))
first_passed n (form.Field e f) s q _ _ _ _ _ _ _ h _ _ _ _ = absurd (h e f (from_field n e f q))
first_passed n (form.Part e i) s q _ _ _ _ _ _ _ _ h _ _ _ = absurd (h e i (from_part n e i q))
first_passed n (form.Binary o a b) s q _ _ _ _ _ _ _ _ _ h _ _ = absurd (h o a b (from_binary n o a b q))
first_passed n (form.Assign a b) s q _ _ _ _ _ _ _ _ _ _ h _ = absurd (h a b (from_assign n a b q))
first_passed n (form.Update o a b) s q _ _ _ _ _ _ _ _ _ _ _ h = absurd (h o a b (from_update n o a b q))
first_passed n _ s q _ _ _ _ _ _ _ _ _ _ _ _ = refl

pub first_else : (e : Expr) → NoBlock e.node → NoIf e.node → NoIfLet e.node → NoMatch e.node → NoLoop e.node
    → NoWhile e.node → NoWhileLet e.node → NoField e.node → NoPart e.node → NoBinary e.node → NoAssign e.node
    → NoUpdate e.node → false ≡ begins (plain-Expr e)
first_else e h0 h1 h2 h3 h4 h5 h6 h7 h8 h9 h10 h11 =
    sym (ap begins (by_layer e) ∙ first_passed e.node (out-ExprNode e.node) e.span refl h0 h1 h2 h3 h4 h5 h6 h7 h8 h9 h10 h11)

-- ---- what is said of a form by its parts: the base is got from a box

node_is : (e : Expr) (n : ExprNode) → e.node ≡ n → plain-Expr e ≡ plain-ExprNode n e.span
node_is e n h = expression_is e.span e.node ∙ ap (λ n. plain-ExprNode n e.span) h

pub field_begins : (e y : Expr) (x : Expr) (f : Ident) → e.node ≡ node.Field x f → y ≡ x
    → shown (too_weak at.postfix (plain-Expr y)) (begins (plain-Expr y)) ≡ begins (plain-Expr e)
field_begins e y x f h k =
    ap (λ y. shown (too_weak at.postfix (plain-Expr y)) (begins (plain-Expr y))) k
    ∙ sym (ap begins (node_is e _ h ∙ expression_field e.span x f))

pub part_begins : (e y : Expr) (x : Expr) (i : ℕ) → e.node ≡ node.Part x i → y ≡ x
    → shown (too_weak at.postfix (plain-Expr y)) (begins (plain-Expr y)) ≡ begins (plain-Expr e)
part_begins e y x i h k =
    ap (λ y. shown (too_weak at.postfix (plain-Expr y)) (begins (plain-Expr y))) k
    ∙ sym (ap begins (node_is e _ h ∙ expression_part e.span x i))

pub assign_begins : (e y : Expr) (x b : Expr) → e.node ≡ node.Assign x b → y ≡ x
    → shown (too_weak at.disjunction (plain-Expr y)) (begins (plain-Expr y)) ≡ begins (plain-Expr e)
assign_begins e y x b h k =
    ap (λ y. shown (too_weak at.disjunction (plain-Expr y)) (begins (plain-Expr y))) k
    ∙ sym (ap begins (node_is e _ h ∙ expression_assign e.span x b))

pub update_begins : (e y : Expr) (o : UpdateOp) (x b : Expr) → e.node ≡ node.Update o x b → y ≡ x
    → shown (too_weak at.disjunction (plain-Expr y)) (begins (plain-Expr y)) ≡ begins (plain-Expr e)
update_begins e y o x b h k =
    ap (λ y. shown (too_weak at.disjunction (plain-Expr y)) (begins (plain-Expr y))) k
    ∙ sym (ap begins (node_is e _ h ∙ expression_update e.span o x b))

pub field_open : (e y : Expr) (x : Expr) (f : Ident) → e.node ≡ node.Field x f → y ≡ x
    → shown (too_weak at.postfix (plain-Expr y)) (is_open (plain-Expr y)) ≡ is_open (plain-Expr e)
field_open e y x f h k =
    ap (λ y. shown (too_weak at.postfix (plain-Expr y)) (is_open (plain-Expr y))) k
    ∙ sym (ap is_open (node_is e _ h ∙ expression_field e.span x f))

pub part_open : (e y : Expr) (x : Expr) (i : ℕ) → e.node ≡ node.Part x i → y ≡ x
    → shown (too_weak at.postfix (plain-Expr y)) (is_open (plain-Expr y)) ≡ is_open (plain-Expr e)
part_open e y x i h k =
    ap (λ y. shown (too_weak at.postfix (plain-Expr y)) (is_open (plain-Expr y))) k
    ∙ sym (ap is_open (node_is e _ h ∙ expression_part e.span x i))

pub deref_open : (e y : Expr) (x : Expr) → e.node ≡ node.Deref x → y ≡ x
    → shown (too_weak at.unary (plain-Expr y)) (is_open (plain-Expr y)) ≡ is_open (plain-Expr e)
deref_open e y x h k =
    ap (λ y. shown (too_weak at.unary (plain-Expr y)) (is_open (plain-Expr y))) k
    ∙ sym (ap is_open (node_is e _ h ∙ expression_deref e.span x))

pub neg_open : (e y : Expr) (x : Expr) → e.node ≡ node.Neg x → y ≡ x
    → shown (too_weak at.unary (plain-Expr y)) (is_open (plain-Expr y)) ≡ is_open (plain-Expr e)
neg_open e y x h k =
    ap (λ y. shown (too_weak at.unary (plain-Expr y)) (is_open (plain-Expr y))) k
    ∙ sym (ap is_open (node_is e _ h ∙ expression_neg e.span x))

pub not_open : (e y : Expr) (x : Expr) → e.node ≡ node.Not x → y ≡ x
    → shown (too_weak at.unary (plain-Expr y)) (is_open (plain-Expr y)) ≡ is_open (plain-Expr e)
not_open e y x h k =
    ap (λ y. shown (too_weak at.unary (plain-Expr y)) (is_open (plain-Expr y))) k
    ∙ sym (ap is_open (node_is e _ h ∙ expression_not e.span x))

pub borrow_open : (e y : Expr) (m : Bool) (x : Expr) → e.node ≡ node.Borrow m x → y ≡ x
    → shown (too_weak at.unary (plain-Expr y)) (is_open (plain-Expr y)) ≡ is_open (plain-Expr e)
borrow_open e y m x h k =
    ap (λ y. shown (too_weak at.unary (plain-Expr y)) (is_open (plain-Expr y))) k
    ∙ sym (ap is_open (node_is e _ h ∙ expression_borrow e.span m x))
