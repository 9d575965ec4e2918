-- How many marks of one point an order has: as many sites of a graph have them at most.
use Rattle.std.proofs.Common.{◌≡◌, ℕ, zero, suc, ◌+◌, ◌≤◌, ◌==◌, Bool, true, false, ◌&&◌, List, [], ◌∷◌, ◌++◌, Some, refl, ap, ◌∙◌, arith}
use Rattle.std.proofs.lemmas.Bool.Decides.{Decides-eqb}
use Rattle.rx_typed.specs.Tree.{Function}
use Rattle.rx_lower_walks.specs.Actions.{Dead, Action, does}
use Rattle.rx_lower_walks.specs.Orders.{exit_node, Order, order_function}
use Rattle.rx_lower_walks.specs.Orders as order
use Rattle.rx_lower_walks.specs.Graph.{Site, site_at}
use Rattle.rx_lower_walks.specs.Pieces.{Scope, Variable, Looped, left, graph}
use Rattle.rx_lower_walks.specs.Text.{ending_all, in_text, actions_of, Sublist, none, kept, dropped}
use Rattle.rx_lower_walks.proofs.InText.{graph_in_text}
use Rattle.rx_exits_plan.specs.Points.{Point, number}
use Rattle.rx_exits_plan.specs.Marked.{shown}
use Rattle.rx_exits_plan.specs.Unmarked.{is_mark}
use Rattle.rx_engine_related.specs.OneSite.{StandsOnce}

abbrev pub one_if : Bool → ℕ
one_if true = 1
one_if false = 0

-- a mark at this node
abbrev pub is_it : ℕ → Action → Bool
is_it n a = is_mark a.act && (a.node == n)

abbrev pub tally : ℕ → List Action → ℕ
tally n [] = 0
tally n (a ∷ l) = one_if (is_it n a) + tally n l

abbrev pub count : ℕ → Order → ℕ
count n order.nothing = 0
count n order.nowhere = 0
count n (order.act a) = one_if (is_it n a)
count n (order.then s t) = count n s + count n t
count n (order.or s t) = count n s + count n t
count n (order.leave x) = 0
count n order.fail = 0
count n (order.otherwise s t) = count n s + count n t
count n (order.ending m x s) = count n s
count n (order.passes l s) = count n s

-- ---- in the text

tally_both : (n : ℕ) (l m : List Action) → tally n (l ++ m) ≡ tally n l + tally n m
tally_both n [] m = omega arith
tally_both n (a ∷ l) m = let h = tally_both n l m in omega (arith, h)

no_ends : (n k : ℕ) (xs : List ℕ) → tally n (ending_all k xs) ≡ 0
no_ends n k [] = refl
no_ends n k (x ∷ xs) = let h = no_ends n k xs in omega (arith, h)

in_the_text : (n : ℕ) (scope : Scope) (s : Order) → tally n (in_text scope s) ≡ count n s
in_the_text n scope order.nothing = refl
in_the_text n scope order.nowhere = refl
in_the_text n scope (order.act a) = omega arith
in_the_text n scope (order.then s t) = let h = in_the_text n scope s in let k = in_the_text n scope t in let b = tally_both n (in_text scope s) (in_text scope t) in omega (arith, h, k, b)
in_the_text n scope (order.or s t) = let h = in_the_text n scope s in let k = in_the_text n scope t in let b = tally_both n (in_text scope s) (in_text scope t) in omega (arith, h, k, b)
in_the_text n scope (order.leave x) = no_ends n (exit_node x) (left x scope)
in_the_text n scope order.fail = refl
in_the_text n scope (order.otherwise s t) = let h = in_the_text n scope s in let k = in_the_text n scope t in let b = tally_both n (in_text scope s) (in_text scope t) in omega (arith, h, k, b)
in_the_text n scope (order.ending m x s) = let h = in_the_text n (Variable x ∷ scope) s in let b = tally_both n (in_text (Variable x ∷ scope) s) (does m (Dead x) ∷ []) in omega (arith, h, b)
in_the_text n scope (order.passes l s) = in_the_text n (Looped l ∷ scope) s

fewer : (n : ℕ) {l m : List Action} → Sublist l m → tally n l ≤ tally n m
fewer n none = omega arith
fewer n (kept h) = let k = fewer n h in omega (arith, k)
fewer n (dropped {l = l} {m = m} h) = let k = fewer n h in omega (arith, k)

-- ---- in the graph

found : (n : ℕ) (g : List Site) (i : ℕ) (s : Site) → site_at g i ≡ Some s → is_it n s.action ≡ true → 1 ≤ tally n (actions_of g)
found n [] i s e h = absurd (cc)
found n (x ∷ g) zero s e h =
    let z : x ≡ s = cc in
    let q = ap (λ (y : Site). one_if (is_it n y.action)) z ∙ ap one_if h in
    omega (arith, q)
found n (x ∷ g) (suc i) s e h = let k = found n g i s e h in omega (arith, k)

at_one : (n : ℕ) (g : List Site) → tally n (actions_of g) ≤ 1 → (i j : ℕ) (s t : Site) → site_at g i ≡ Some s → site_at g j ≡ Some t → is_it n s.action ≡ true → is_it n t.action ≡ true → i ≡ j
at_one n [] o i j s t e f h k = absurd (cc)
at_one n (x ∷ g) o zero zero s t e f h k = refl
at_one n (x ∷ g) o zero (suc j) s t e f h k =
    let z : x ≡ s = cc in
    let q = ap (λ (y : Site). one_if (is_it n y.action)) z ∙ ap one_if h in
    let m = found n g j t f k in
    absurd (omega (arith, q, m, o))
at_one n (x ∷ g) o (suc i) zero s t e f h k =
    let z : x ≡ t = cc in
    let q = ap (λ (y : Site). one_if (is_it n y.action)) z ∙ ap one_if k in
    let m = found n g i s e h in
    absurd (omega (arith, q, m, o))
at_one n (x ∷ g) o (suc i) (suc j) s t e f h k = let m = at_one n g (omega (arith, o)) i j s t e f h k in omega (arith, m)

itself : (n : ℕ) → (n == n) ≡ true
itself n = (Decides-eqb n n).1 refl

pub stands_once : (f : Function) (p : Point) → count (number p) (order_function f) ≤ 1 → StandsOnce f (shown p)
stands_once f p o i j s t e g h k =
    let a : is_it (number p) s.action ≡ true = ap (λ b. is_it (number p) b) h ∙ itself (number p) in
    let b : is_it (number p) t.action ≡ true = ap (λ b. is_it (number p) b) k ∙ itself (number p) in
    let l = fewer (number p) (graph_in_text (order_function f)) in
    let m = in_the_text (number p) [] (order_function f) in
    at_one (number p) (graph f) (omega (arith, l, m, o)) i j s t e g a b
