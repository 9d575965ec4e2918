-- Small laws of what is told of lists of values, of branches and of assignments.
use Rattle.std.proofs.Common.{◌≡◌, ℕ, Bool, true, false, ◌||◌, ◌&&◌, List, [], ◌∷◌, Option, Some, None, refl}
use Rattle.rx_tree.specs.Plain as plain
use Rattle.rx_tree.specs.Plain.{Expression, OptionalExpression}
use Rattle.rx_typed.specs.declared.nodes.Node.{Node}
use Rattle.rx_typed.specs.declared.nodes.Site.{Site}
use Rattle.rx_typed.specs.Named.{Exp, Body, body_node, body_never}
use Rattle.rx_typed.specs.Naming.{Cursor, of_expression, of_optional, branch_site, assigned}
use Rattle.rx_typeck_solver.specs.declared.facts.Demand.{Demand}
use Rattle.rx_typeck_elaborate_parts.specs.Seeing.{seen_of}
use Rattle.rx_typeck_typed.specs.Demands.{each_after, branch_before, branch_after, of_form, through}
use Rattle.rx_typeck_demands.specs.declared.listed.Each as code
use Rattle.rx_typeck_demands.specs.declared.listed.Each.TheVariants as each
use Rattle.rx_typeck_demands.specs.Pieces.{each_as, is_there, branch_place, before_branch, after_branch, numbered_value, of_left, of_value, value_told}

-- nothing is asked behind an element that is no member of a tuple
pub each_nothing : (w : code.Each) (e : Exp) (ds : List Demand) → each_after (each_as w) e ds ≡ ds
each_nothing each.Values e ds = refl
each_nothing (each.Parameters g) e ds = refl
each_nothing (each.Parts i v) e ds = refl

pub or_assoc : (a b c : Bool) → (a || b) || c ≡ a || (b || c)
or_assoc true b c = refl
or_assoc false b c = refl

pub or_false : (a : Bool) → a || false ≡ a
or_false true = refl
or_false false = refl

pub and_assoc : (a b c : Bool) → (a && b) && c ≡ a && (b && c)
and_assoc true b c = refl
and_assoc false b c = refl

pub and_true : (a : Bool) → a && true ≡ a
and_true true = refl
and_true false = refl

pub and_false : (a : Bool) → a && false ≡ false
and_false true = refl
and_false false = refl

-- ---- the branches of an `if`

pub branch_placed : (t : Site) (o : OptionalExpression) → branch_site t o ≡ branch_place t (is_there o)
branch_placed t plain.absent = refl
branch_placed t (plain.present e) = refl

pub before_is : (n : Node) (t : Site) (o : OptionalExpression) (c : Cursor) (b : Body) (ds : List Demand)
    → branch_before n (of_optional t o c).0 b ds ≡ before_branch n (is_there o) (body_node b) ds
before_is n t plain.absent c b ds = refl
before_is n t (plain.present e) c b ds = refl

pub after_is : (n : Node) (t : Site) (o : OptionalExpression) (c : Cursor) (b : Body) (ds : List Demand)
    → branch_after n (of_optional t o c).0 b ds ≡ after_branch n (is_there o) (body_never b) (body_node b) ds
after_is n t plain.absent c b ds = refl
after_is n t (plain.present e) c b ds = refl

-- ---- assignments

pub assigned_asks : (f : ℕ) (n : Node) (q : Exp) (w : Option (ℕ × ℕ)) (e : Expression) (c : Cursor) (ds : List Demand)
    → of_form f (assigned n q w (λ t. of_expression false t e) c).0 ds ≡ of_value f n w (seen_of q) (through q) (numbered_value w e c).0 (of_left f w q ds)
assigned_asks f n q None e c ds = refl
assigned_asks f n q (Some w) e c ds = refl

pub assigned_behind : (n : Node) (q : Exp) (w : Option (ℕ × ℕ)) (e : Expression) (c : Cursor)
    → (assigned n q w (λ t. of_expression false t e) c).1 ≡ (numbered_value w e c).1
assigned_behind n q None e c = refl
assigned_behind n q (Some w) e c = refl

pub assigned_told : (n : Node) (q : Exp) (w : Option (ℕ × ℕ)) (e : Expression) (c : Cursor)
    → seen_of (assigned n q w (λ t. of_expression false t e) c).0 ≡ value_told n w (seen_of q) (numbered_value w e c).0
assigned_told n q None e c = refl
assigned_told n q (Some w) e c = refl
