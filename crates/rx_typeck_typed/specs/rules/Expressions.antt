-- What the rules of types ask at an expression, beside what they ask of its parts (Rust Reference, "Expressions").
use Rattle.std.specs.Prelude.{ℕ, suc, Bool, true, false, not, List, [], ◌∷◌, Option, Some, None}
use Rattle.rx_core.specs.declared.types.Kind.{Kind}
use Rattle.rx_typed.specs.declared.nodes.Node.{Node}
use Rattle.rx_typed.specs.declared.nodes.Site.{Site}
use Rattle.rx_typed.specs.declared.nodes.Use.{Use}
use Rattle.rx_typed.specs.Named as named
use Rattle.rx_typed.specs.Named.{Exp, Exps, Else, Fields, Body, node_of, body_node, never, body_never}
use Rattle.rx_typeck_solver.specs.declared.facts.Rule.{Rule}
use Rattle.rx_typeck_solver.specs.declared.facts.Broken.TheVariants as broken
use Rattle.rx_typeck_solver.specs.declared.facts.Subject.{Subject}
use Rattle.rx_typeck_solver.specs.declared.facts.Subject.TheVariants as subject
use Rattle.rx_typeck_solver.specs.declared.facts.Op.{Op}
use Rattle.rx_typeck_solver.specs.declared.facts.Op.TheVariants as op
use Rattle.rx_typeck_solver.specs.declared.facts.Test.TheVariants as test
use Rattle.rx_typeck_solver.specs.declared.facts.Fact.TheVariants as fact
use Rattle.rx_typeck_typed.specs.Asking.{Asking, ◌>>◌, nothing, asks, ask, when, type_of, expected, is, alike, passes, fitting, with_suffix, is_open}
use Rattle.rx_typeck_typed.specs.rules.Places.{expects_own, value_at, never_at}

-- what the place of a node expects
abbrev pub expects : Node → Op → List Subject → Asking
expects n o xs = ask n Rule.Equal (is (expected n) o xs ∷ [])

-- what has the type of a part, where it has one
abbrev pub as_part : Node → Bool → Node → Asking
as_part n v m = when (not v) (ask n Rule.Equal (alike (type_of n) (type_of m) ∷ []))

-- what joins values, behind its parts: at a coercion site it has the expected type, else that of each part
abbrev pub joins : Node → Site → Asking
joins n Site.Value = nothing
joins n Site.Place = ask n Rule.NotPlace (fact.Never ∷ [])
joins n Site.Scrutinee = nothing
joins n Site.Reborrows = expects_own n
joins n _ = ask n Rule.Equal (alike (type_of n) (expected n) ∷ [])

-- what is Never fits every place that wants a value
abbrev pub join : Node → Bool → Asking
join n true = never_at n
join n false = joins n n.site

-- a part of it: it expects the same, or gives its type
abbrev pub hands_on : Node → Node → Asking
hands_on n m = expects m op.Same (expected n ∷ [])

abbrev pub part_before : Node → Site → Node → Asking
part_before n Site.Expects m = hands_on n m
part_before n Site.Initialises m = hands_on n m
part_before n _ m = nothing

abbrev pub part_after : Node → Site → Bool → Node → Asking
part_after n Site.Expects v m = nothing
part_after n Site.Initialises v m = nothing
part_after n _ v m = as_part n v m

-- a truth value, where it has a type
abbrev pub tested : Node → Bool → Asking
tested n v = when (not v) (ask n Rule.KindOf (is (type_of n) op.Truth [] ∷ []))

-- an integer or a truth value, where it has a type
abbrev pub printed : Node → Bool → Asking
printed n v = when (not v) (ask n Rule.KindOf (passes test.Plain (type_of n ∷ []) ∷ []))

-- a value of the unit, where it has a type
abbrev pub nothing_given : Node → Bool → Asking
nothing_given n v = when (not v) (ask n Rule.Equal (is (type_of n) op.Unit [] ∷ []))

-- the members of a tuple and what is matched aren't Never
abbrev pub not_never : Node → Bool → Asking
not_never n v = when v (ask n Rule.Unclear (fact.Never ∷ []))

-- a node has a type of its own, and fits its place
abbrev pub own : Node → Op → List Subject → Asking
own n o xs = ask n Rule.Equal (is (type_of n) o xs ∷ []) >> value_at n

abbrev pub exp_nodes : Exps → List Subject
exp_nodes named.no_exp = []
exp_nodes (named.exp_and e es) = type_of (node_of e) ∷ exp_nodes es

abbrev pub argument_count : Exps → ℕ
argument_count named.no_exp = 0
argument_count (named.exp_and e es) = suc (argument_count es)

abbrev pub names_given : Fields → List (List ℕ)
names_given named.no_field = []
names_given (named.field_and x e fs) = x ∷ names_given fs

-- a variable's type, where it is known by here
abbrev pub named_at : Node → Use → Bool → Asking
named_at n x true = ask n Rule.Equal (alike (type_of n) (subject.Variable x.number) ∷ [])
named_at n x false = ask n Rule.Unclear (fact.Never ∷ [])

-- what is assigned to a variable whose type an assignment in it gave: it has this type, where it has one
abbrev pub fits_given : ℕ → Node → Bool → Asking
fits_given x e v = when (not v) (ask e Rule.Equal (alike (subject.Variable x) (type_of e) ∷ []))

-- `x = e`, before which `x` waits for its type: it gives the type, and `e` isn't Never; or an assignment in `e` gave it, and
-- this is one like any other, but that it makes no `&mut T` shared: what stands in `e` before may not know the type
abbrev pub given : Node → Node → Use → Option ℕ → Node → Bool → Asking
given n p x (Some d) e v = not_never e v >> ask n Rule.Equal (alike (subject.Variable x.number) (type_of e) ∷ [])
    >> ask p Rule.Equal (alike (type_of p) (subject.Variable x.number) ∷ alike (subject.Node d) (subject.Variable x.number) ∷ [])
given n p x None e v = named_at p x x.known >> fits_given x.number e v

-- `return` without a value
abbrev pub returns_unit : ℕ → Node → Else → Asking
returns_unit f n named.absent = ask n Rule.Equal (passes (test.GivesUnit f) [] ∷ [])
returns_unit f n (named.present e) = expects (node_of e) (op.Result f) []

-- without `else` both the body and the whole have the unit
abbrev pub branch_before : Node → Else → Body → Asking
branch_before n named.absent b = nothing
branch_before n (named.present e) b = part_before n n.site (body_node b)

abbrev pub branch_after : Node → Else → Body → Asking
branch_after n named.absent b = nothing_given (body_node b) (body_never b) >> own n op.Unit []
branch_after n (named.present e) b = part_after n n.site (body_never b) (body_node b)

-- an `if` joins its branches where it has two
abbrev pub if_joins : Node → Else → Bool → Asking
if_joins n named.absent v = nothing
if_joins n (named.present e) v = join n v

-- a loop that no `break` leads to is Never
abbrev pub loop_given : Node → Bool → Asking
loop_given n true = own n op.Unit []
loop_given n false = never_at n

-- what a list of values is: the members of a tuple, values that nothing is expected of, the arguments of a function, the
-- parts of a variant
pub data Listed : Type 0 where
  members : Listed
  values : Listed
  parameters : ℕ → Listed
  parts_of : ℕ → ℕ → Listed

abbrev pub each_before : Listed → ℕ → Node → Asking
each_before members k n = nothing
each_before values k n = nothing
each_before (parameters g) k n = expects n (op.Parameter g k) []
each_before (parts_of i v) k n = expects n (op.PartOf i v k) []

abbrev pub each_after : Listed → Exp → Asking
each_after members e = not_never (node_of e) (never e)
each_after _ e = nothing

-- an integer: whether it stands directly under a minus, the magnitude, the suffix. What its place asks comes before
-- its range, so that one out of the range of the kind that is expected is Literal (Rust Reference, "Integer literal
-- expressions").
abbrev pub integer_at : Node → Bool → ℕ → Option Kind → Asking
integer_at n m v k = ask n Rule.Equal (fact.Integer n.number (with_suffix k) ∷ []) >> value_at n
    >> asks n broken.Literal (is_open k) (fact.Integer n.number (fitting m v) ∷ [])
