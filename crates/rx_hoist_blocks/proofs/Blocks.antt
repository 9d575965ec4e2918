-- That a part of the typed tree has a block: the block's number and how many statements it has, wherever the part stands.
use Rattle.std.proofs.Common.{◌≡◌, ℕ, suc, Bool, true, false, List, [], ◌∷◌, ◌++◌, length, refl, ap, subst, Option, None}
use Rattle.rx_typed.specs.declared.nodes.Node.{Node}
use Rattle.rx_tree.specs.declared.tree.BinaryOp.{BinaryOp}
use Rattle.rx_typed.specs.Named as named
use Rattle.rx_typed.specs.Elaborated as elaborated
use Rattle.rx_typed.specs.Elaborated.{Assigned, Coercion, matched_as}
use Rattle.rx_typed.specs.Tree as tree
use Rattle.rx_typed.specs.Tree.{Exp, Operands, Scrutinee, Body, Mark}
use Rattle.rx_lower_walks.specs.Walks.{Among, here, there}
use Rattle.rx_exits_plan.specs.Blocks.{statements, bound}
use Rattle.rx_exits_plan.specs.Spots.{Around, Spot, a_block, with_variables, with_loop, spots, spots_in, spots_matched, spots_armed, spots_of}

-- ---- in lists

among_left : {A : Type 0} {x : A} (xs ys : List A) → Among x xs → Among x (xs ++ ys)
among_left _ ys here = here
among_left _ ys (there h) = there (among_left _ ys h)

among_right : {A : Type 0} {x : A} (xs ys : List A) → Among x ys → Among x (xs ++ ys)
among_right [] ys h = h
among_right (z ∷ xs) ys h = there (among_right xs ys h)

none_among : {A : Type 0} {x : A} → Among x [] → ⊥
none_among h = elim h [ ]

-- ---- a block somewhere in a part

pub record HasBlock (n k : ℕ) (l : List Spot) : Type 0 where
  pub around : Around
  pub body : Body
  pub among : Among (a_block around n body) l
  pub long : length (statements body) ≡ k

-- wherever the part stands
abbrev pub Has : ℕ → ℕ → (Around → List Spot) → Type 0
Has n k S = (a : Around) → HasBlock n k (S a)

abbrev pub Goes : (Around → List Spot) → (Around → List Spot) → Type 0
Goes S R = (n k : ℕ) → Has n k S → Has n k R

anywhere : Around
anywhere = record { scope = []; loops = [] }

pub nowhere : (n k : ℕ) → Has n k (λ a. []) → ⊥
nowhere n k h = none_among ((h anywhere).among)

pub in_left : (S R : Around → List Spot) → Goes S (λ a. S a ++ R a)
in_left S R n k h a = let x = h a in record { around = x.around; body = x.body; among = among_left (S a) (R a) x.among; long = x.long }

pub in_right : (S R : Around → List Spot) → Goes R (λ a. S a ++ R a)
in_right S R n k h a = let x = h a in record { around = x.around; body = x.body; among = among_right (S a) (R a) x.among; long = x.long }

pub behind : (s : Around → Spot) (S : Around → List Spot) → Goes S (λ a. s a ∷ S a)
behind s S n k h a = let x = h a in record { around = x.around; body = x.body; among = there x.among; long = x.long }

pub further : (g : Around → Around) (S : Around → List Spot) → Goes S (λ a. S (g a))
further g S n k h a = h (g a)

pub as_it_is : (S : Around → List Spot) → Goes S S
as_it_is S n k h = h

-- a block itself
pub this_block : (n : ℕ) (b : Body) (S : Around → List Spot) → Has n (length (statements b)) (λ a. a_block a n b ∷ S a)
this_block n b S a = record { around = a; body = b; among = here; long = refl }

-- ---- what a place makes of a value

pub in_passed : (T : Assigned) (n : Node) (c : Coercion) (e : Exp) → Goes (λ a. spots a e) (λ a. spots a (elaborated.passed_as T n c e))
in_passed T n elaborated.plain e = as_it_is (λ a. spots a e)
in_passed T n elaborated.reborrow e = as_it_is (λ a. spots a e)
in_passed T n elaborated.share e = as_it_is (λ a. spots a e)

-- a place that is read has no block
not_read : (T : Assigned) (n : Node) (c : Coercion) (p : tree.Place) (i k : ℕ) → Has i k (λ a. spots a (elaborated.read_as T n c p)) → ⊥
not_read T n elaborated.plain p i k h = nowhere i k h
not_read T n elaborated.reborrow p i k h = nowhere i k h
not_read T n elaborated.share p i k h = nowhere i k h

matched_value : (T : Assigned) (c : Coercion) (e : named.Exp) (v : Exp) → Goes (λ a. spots a v) (λ a. spots_matched a (matched_as T false c e v))
matched_value T elaborated.plain e v = as_it_is (λ a. spots a v)
matched_value T elaborated.reborrow e v = as_it_is (λ a. spots a v)
matched_value T elaborated.share e v = as_it_is (λ a. spots a v)

pub in_matched : (T : Assigned) (e : named.Exp) → Goes (λ a. spots a (elaborated.value T e)) (λ a. spots_matched a (elaborated.matched T e (elaborated.value T e)))
in_matched T (named.var n x) i k h = absurd (not_read T n (elaborated.coercion_at T n) (elaborated.place T (named.var n x)) i k h)
in_matched T (named.field n e x) i k h = absurd (not_read T n (elaborated.coercion_at T n) (elaborated.place T (named.field n e x)) i k h)
in_matched T (named.part n e j) i k h = absurd (not_read T n (elaborated.coercion_at T n) (elaborated.place T (named.part n e j)) i k h)
in_matched T (named.deref n e) i k h = absurd (not_read T n (elaborated.coercion_at T n) (elaborated.place T (named.deref n e)) i k h)
in_matched T e i k h = matched_value T (elaborated.coercion_at T (named.node_of e)) e (elaborated.value T e) i k h

-- ---- operands

pub in_first : (i : ℕ) (e : Exp) (es : Operands) → Goes (λ a. spots a e) (λ a. spots_in a (tree.operand_and i e es))
in_first i e es = in_left (λ a. spots a e) (λ a. spots_in a es)

pub in_rest : (i : ℕ) (e : Exp) (es : Operands) → Goes (λ a. spots_in a es) (λ a. spots_in a (tree.operand_and i e es))
in_rest i e es = in_right (λ a. spots a e) (λ a. spots_in a es)

pub in_tuple : (T : Assigned) (n : Node) (es : Operands) → Goes (λ a. spots_in a es) (λ a. spots a (elaborated.tuple_of T n es))
in_tuple T n tree.no_operand i k h = absurd (nowhere i k h)
in_tuple T n (tree.operand_and j e es) i k h = h

in_both : (m : Mark) (w : tree.Making) (x y : Exp) → Goes (λ a. spots a x ++ (spots a y ++ [])) (λ a. spots a (tree.build m w (tree.operand_and 0 x (tree.operand_and 1 y tree.no_operand))))
in_both m w x y n k h = h

in_second_of : (x y : Exp) → Goes (λ a. spots a y) (λ a. spots a x ++ (spots a y ++ []))
in_second_of x y n k h = in_right (λ a. spots a x) (λ a. spots a y ++ []) n k (in_left (λ a. spots a y) (λ a. []) n k h)

pub in_left_operand : (T : Assigned) (n : Node) (o : BinaryOp) (x y : Exp) → Goes (λ a. spots a x) (λ a. spots a (elaborated.operated T n o x y))
in_left_operand T n BinaryOp.And x y = in_left (λ a. spots a x) (λ a. spots a y)
in_left_operand T n BinaryOp.Or x y = in_left (λ a. spots a x) (λ a. spots a y)
in_left_operand T n _ x y = in_left (λ a. spots a x) (λ a. spots a y ++ [])

pub in_right_operand : (T : Assigned) (n : Node) (o : BinaryOp) (x y : Exp) → Goes (λ a. spots a y) (λ a. spots a (elaborated.operated T n o x y))
in_right_operand T n BinaryOp.And x y = in_right (λ a. spots a x) (λ a. spots a y)
in_right_operand T n BinaryOp.Or x y = in_right (λ a. spots a x) (λ a. spots a y)
in_right_operand T n _ x y = in_second_of x y

-- ---- blocks

-- the rest of a block behind a statement
pub in_behind : (T : Assigned) (x : named.Statement) (b : Body) → Goes (λ a. spots_of a b) (λ a. spots_of a (elaborated.statement T x b))
in_behind T (named.declares m p t) b n k h = further (with_variables (elaborated.variables p)) (λ a. spots_of a b) n k h
in_behind T (named.lets m p t e) b n k h =
    let q = elaborated.pattern T None p in
    in_right (λ a. spots_matched a (elaborated.matched T e (elaborated.value T e))) (λ a. spots_of (with_variables (bound q) a) b) n k (further (with_variables (bound q)) (λ a. spots_of a b) n k h)
in_behind T (named.evaluates m e s) b n k h = in_right (λ a. spots a (elaborated.value T e)) (λ a. spots_of a b) n k h

pub in_last : (T : Assigned) (ss : named.Statements) (e : Exp) → Goes (λ a. spots a e) (λ a. spots_of a (elaborated.nested T ss e))
in_last T named.no_statement e n k h = h
in_last T (named.statement_and x ss) e n k h = in_behind T x (elaborated.nested T ss e) n k (in_last T ss e n k h)

-- how many statements a body has
abbrev pub count : named.Statements → ℕ
count named.no_statement = 0
count (named.statement_and x ss) = suc (count ss)

pub nested_long : (T : Assigned) (ss : named.Statements) (e : Exp) → length (statements (elaborated.nested T ss e)) ≡ count ss
nested_long T named.no_statement e = refl
nested_long T (named.statement_and x ss) e = of x (nested_long T ss e)
  where
    of : (x : named.Statement) → length (statements (elaborated.nested T ss e)) ≡ count ss → length (statements (elaborated.statement T x (elaborated.nested T ss e))) ≡ suc (count ss)
    of (named.declares m p t) h = ap suc h
    of (named.lets m p t v) h = ap suc h
    of (named.evaluates m v s) h = ap suc h
