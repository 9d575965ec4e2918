-- How many sites of a part have an action with this key: a node, a kind of act, and the variable that the act begins or ends.
-- `most` counts them by the order alone, where an end counts only if the part may go on to it; `few_sites` says that no part
-- has more.
use Rattle.std.proofs.Common.{◌≡◌, ℕ, ◌+◌, ◌≤◌, ◌==◌, Bool, true, false, ◌&&◌, ◌||◌, if◌then◌else◌, List, [], ◌∷◌, ◌++◌, refl, sym, ap, ◌∙◌, arith}
use Rattle.rx_typed.specs.Tree.{Root, variable, temporary}
use Rattle.rx_lower_walks.specs.Actions.{Act, Declare, Dead, Read, Write, Borrow, Test, Call, Build, Input, Print, Give, Action, does}
use Rattle.rx_lower_walks.specs.Orders.{exit_node, Order}
use Rattle.rx_lower_walks.specs.Orders as order
use Rattle.rx_lower_walks.specs.Walks.{Among, here, there}
use Rattle.rx_lower_walks.specs.Graph.{Site, EachOnce}
use Rattle.rx_lower_walks.specs.Pieces.{Way, ahead, failing, exit_way, Scope, Variable, Looped, left, Exits, entry, Piece, nowhere_part, leads_part, act_part, onto, then_part, or_part, round, inside, loop_part, leaving_part, part}
use Rattle.rx_lower_walks.specs.Text.{actions_of}
use Rattle.rx_lower_walks.proofs.Fits.{eqb_self}
use Rattle.rx_lower_walks.proofs.InText.{actions_of_both}

pub record Key : Type 0 where
  pub node : ℕ
  pub kind : ℕ
  pub variable : ℕ

-- a `&mut p` that becomes shared borrows twice at its node: the place, and its temporary
abbrev pub borrowed : Root → ℕ
borrowed (variable x) = 4
borrowed (temporary t) = 5

abbrev pub kind_of : Act → ℕ
kind_of (Declare x) = 0
kind_of (Dead x) = 1
kind_of (Read m p d) = 2
kind_of (Write p t ss) = 3
kind_of (Borrow k p d) = borrowed p.root
kind_of (Test p c) = 6
kind_of (Call f ts d) = 7
kind_of (Build w is ts d) = 8
kind_of (Input d) = 9
kind_of (Print t) = 10
kind_of (Give t) = 11

abbrev pub variable_of : Act → ℕ
variable_of (Declare x) = x
variable_of (Dead x) = x
variable_of _ = 0

abbrev pub key_of : Action → Key
key_of a = record { node = a.node; kind = kind_of a.act; variable = variable_of a.act }

-- ---- counting

abbrev pub one_if : Bool → ℕ
one_if true = 1
one_if false = 0

-- how often a number stands in a list
abbrev pub times : ℕ → List ℕ → ℕ
times v [] = 0
times v (n ∷ ns) = one_if (n == v) + times v ns

pub times_both : (v : ℕ) (ns ms : List ℕ) → times v (ns ++ ms) ≡ times v ns + times v ms
times_both v [] ms = omega arith
times_both v (n ∷ ns) ms = let h = times_both v ns ms in omega (arith, h)

abbrev pub is_told : Key → Act → Bool
is_told k a = (kind_of a == k.kind) && (variable_of a == k.variable)

abbrev pub weight : Key → ℕ → Act → ℕ
weight k n a = one_if ((n == k.node) && is_told k a)

-- how many of these have the key
abbrev pub having : Key → List Action → ℕ
having k [] = 0
having k (a ∷ l) = weight k a.node a.act + having k l

having_both : (k : Key) (l m : List Action) → having k (l ++ m) ≡ having k l + having k m
having_both k [] m = omega arith
having_both k (a ∷ l) m = let h = having_both k l m in omega (arith, h)

-- the ends of these variables at one node
abbrev pub ends_of : Key → ℕ → List ℕ → ℕ
ends_of k n [] = 0
ends_of k n (x ∷ xs) = weight k n (Dead x) + ends_of k n xs

-- ---- parts

-- it may go on, or is a loop
abbrev pub onward : Order → Bool
onward order.nothing = true
onward order.nowhere = false
onward (order.act a) = true
onward (order.then s t) = onward s && onward t
onward (order.or s t) = onward s || onward t
onward (order.leave x) = false
onward order.fail = false
onward (order.otherwise s t) = onward s || onward t
onward (order.ending n x s) = onward s
onward (order.passes l s) = true

abbrev pub only_if : Bool → ℕ → ℕ
only_if true n = n
only_if false n = 0

abbrev pub most : Key → Scope → Order → ℕ
most k scope order.nothing = 0
most k scope order.nowhere = 0
most k scope (order.act a) = weight k a.node a.act
most k scope (order.then s t) = most k scope s + most k scope t
most k scope (order.or s t) = most k scope s + most k scope t
most k scope (order.leave x) = ends_of k (exit_node x) (left x scope)
most k scope order.fail = 0
most k scope (order.otherwise s t) = most k scope s + most k scope t
most k scope (order.ending n x s) = most k (Variable x ∷ scope) s + only_if (onward s) (weight k n (Dead x))
most k scope (order.passes l s) = most k (Looped l ∷ scope) s

-- ---- what goes on

IsWithin : Bool → Bool → Type 0
IsWithin b c = b ≡ true → c ≡ true

then_within : (f h g i : Bool) → IsWithin f g → IsWithin h i → IsWithin (f && h) (g && i)
unfolding IsWithin
then_within false h g i p q e = absurd (cc)
then_within true h g i p q e = rw (p refl, q e) refl

or_within : (f h g i : Bool) → IsWithin f g → IsWithin h i → IsWithin (f || h) (g || i)
unfolding IsWithin
or_within true h g i p q e = rw (p refl) refl
or_within false h true i p q e = refl
or_within false h false i p q e = q e

-- behind a failed test
next_within : (f x h g i : Bool) → IsWithin f g → IsWithin h i → IsWithin ((true && f) || (x && h)) (g || i)
unfolding IsWithin
next_within true x h g i p q e = rw (p refl) refl
next_within false true h true i p q e = refl
next_within false true h false i p q e = q e
next_within false false h g i p q e = absurd (cc)

no_ending : (f x : Bool) → ((true && f) || (x && false)) ≡ f
no_ending true x = refl
no_ending false true = refl
no_ending false false = refl

leaving_stops : (n : ℕ) (xs : List ℕ) (q : Way) → (leads_part q).ends ahead ≡ false → (leaving_part n xs q).ends ahead ≡ false
leaving_stops n [] q e = e
leaving_stops n (x ∷ xs) q e = leaving_stops n xs q e

exit_leads : (x : order.Exit) → (leads_part (exit_way x)).ends ahead ≡ false
exit_leads (order.breaks n l) = refl
exit_leads (order.continues n l) = refl
exit_leads (order.returns n) = refl

goes_on : (scope : Scope) (s : Order) → IsWithin ((part scope s).ends ahead) (onward s)
unfolding IsWithin
goes_on scope order.nothing e = refl
goes_on scope order.nowhere e = absurd (cc)
goes_on scope (order.act a) e = refl
goes_on scope (order.then s t) e = then_within ((part scope s).ends ahead) ((part scope t).ends ahead) (onward s) (onward t) (goes_on scope s) (goes_on scope t) e
goes_on scope (order.or s t) e = or_within ((part scope s).ends ahead) ((part scope t).ends ahead) (onward s) (onward t) (goes_on scope s) (goes_on scope t) e
goes_on scope (order.leave x) e = absurd (let h = leaving_stops (exit_node x) (left x scope) (exit_way x) (exit_leads x) in cc)
goes_on scope order.fail e = absurd (cc)
goes_on scope (order.otherwise s t) e = next_within ((part scope s).ends ahead) ((part scope s).ends failing) ((part scope t).ends ahead) (onward s) (onward t) (goes_on scope s) (goes_on scope t) e
goes_on scope (order.ending n x s) e = ending ((then_part failing (part (Variable x ∷ scope) s) nowhere_part).ends ahead) (no_ending ((part (Variable x ∷ scope) s).ends ahead) ((part (Variable x ∷ scope) s).ends failing)) (goes_on (Variable x ∷ scope) s) e
  where
    ending : (b : Bool) → b ≡ (part (Variable x ∷ scope) s).ends ahead → ((part (Variable x ∷ scope) s).ends ahead ≡ true → onward s ≡ true)
        → ((false && b) || (b && true)) ≡ true → onward s ≡ true
    ending true h w e = w (sym h)
    ending false h w e = absurd (cc)
goes_on scope (order.passes l s) e = refl

-- ---- sites

-- whatever its first number and its exits are
Few : Key → Piece → ℕ → Type 0
Few K f n = (b : ℕ) (k : Exits) → having K (actions_of (f.sites b k)) ≤ n

sites_both : (K : Key) (g h : List Site) (i j : ℕ) → having K (actions_of g) ≤ i → having K (actions_of h) ≤ j → having K (actions_of (g ++ h)) ≤ i + j
sites_both K g h i j a b =
    let e : having K (actions_of (g ++ h)) ≡ having K (actions_of g) + having K (actions_of h) = ap (having K) (actions_of_both g h) ∙ having_both K (actions_of g) (actions_of h) in
    omega (arith, e, a, b)

act_few : (K : Key) (a : Action) → Few K (act_part a) (weight K a.node a.act)
unfolding Few
act_few K a b k = omega arith

nowhere_few : (K : Key) → Few K nowhere_part 0
unfolding Few
nowhere_few K b k = omega arith

then_few : (K : Key) (c : Way) (f h : Piece) (i j : ℕ) → Few K f i → Few K h j → Few K (then_part c f h) (i + j)
unfolding Few
then_few K c f h i j p q b k = sites_both K (f.sites b (onto c (entry h.begins (b + f.size) k) k)) _ i j (p b _) (by (f.ends c))
  where
    by : (s : Bool) → having K (actions_of (if s then h.sites (b + f.size) k else [])) ≤ j
    by true = q (b + f.size) k
    by false = omega arith

-- where it never goes on, what is behind has no sites
then_only : (K : Key) (c : Way) (f h : Piece) (i j : ℕ) (s : Bool) → IsWithin (f.ends c) s → Few K f i → Few K h j → Few K (then_part c f h) (i + only_if s j)
unfolding Few IsWithin
then_only K c f h i j s w p q b k = sites_both K (f.sites b (onto c (entry h.begins (b + f.size) k) k)) _ i _ (p b _) (by (f.ends c) s w)
  where
    by : (t s : Bool) → (t ≡ true → s ≡ true) → having K (actions_of (if t then h.sites (b + f.size) k else [])) ≤ only_if s j
    by true true w = q (b + f.size) k
    by true false w = absurd (let e = w refl in cc)
    by false s w = omega arith

or_few : (K : Key) (f h : Piece) (i j : ℕ) → Few K f i → Few K h j → Few K (or_part f h) (i + j)
unfolding Few
or_few K f h i j p q b k = sites_both K (f.sites b k) _ i j (p b k) (q (b + f.size) k)

loop_few : (K : Key) (l : ℕ) (f : Piece) (i : ℕ) → Few K f i → Few K (loop_part l f) i
unfolding Few
loop_few K l f i p b k = p b (inside l (entry (round l f.begins) b k) k)

leaving_few : (K : Key) (n : ℕ) (xs : List ℕ) (q : Way) → Few K (leaving_part n xs q) (ends_of K n xs)
unfolding Few
leaving_few K n [] q b k = omega arith
leaving_few K n (x ∷ xs) q b k = then_few K ahead (act_part (does n (Dead x))) (leaving_part n xs q) _ _ (act_few K (does n (Dead x))) (leaving_few K n xs q) b k

ending_few : (K : Key) (n x : ℕ) (f : Piece) (i : ℕ) (s : Bool) → IsWithin (f.ends ahead) s → Few K f i
    → Few K (then_part ahead (then_part failing f nowhere_part) (act_part (does n (Dead x)))) (i + only_if s (weight K n (Dead x)))
unfolding Few IsWithin
ending_few K n x f i s w p b k =
    then_only K ahead (then_part failing f nowhere_part) (act_part (does n (Dead x))) i (weight K n (Dead x)) s (λ e. w (sym (no_ending (f.ends ahead) (f.ends failing)) ∙ e))
    (λ b k. let h = then_few K failing f nowhere_part i 0 p (nowhere_few K) b k in omega (arith, h)) (act_few K (does n (Dead x))) b k

few_in : (K : Key) (scope : Scope) (s : Order) → Few K (part scope s) (most K scope s)
unfolding Few
few_in K scope order.nothing b k = omega arith
few_in K scope order.nowhere b k = omega arith
few_in K scope (order.act a) b k = act_few K a b k
few_in K scope (order.then s t) b k = then_few K ahead (part scope s) (part scope t) _ _ (few_in K scope s) (few_in K scope t) b k
few_in K scope (order.or s t) b k = or_few K (part scope s) (part scope t) _ _ (few_in K scope s) (few_in K scope t) b k
few_in K scope (order.leave x) b k = leaving_few K (exit_node x) (left x scope) (exit_way x) b k
few_in K scope order.fail b k = omega arith
few_in K scope (order.otherwise s t) b k = then_few K failing (part scope s) (part scope t) _ _ (few_in K scope s) (few_in K scope t) b k
few_in K scope (order.ending n x s) b k = ending_few K n x (part (Variable x ∷ scope) s) _ (onward s) (goes_on (Variable x ∷ scope) s) (few_in K (Variable x ∷ scope) s) b k
few_in K scope (order.passes l s) b k = loop_few K l (part (Looped l ∷ scope) s) _ (few_in K (Looped l ∷ scope) s) b k

pub few_sites : (K : Key) (scope : Scope) (s : Order) (b : ℕ) (k : Exits) → having K (actions_of ((part scope s).sites b k)) ≤ most K scope s
unfolding Few
few_sites K scope s b k = few_in K scope s b k

-- ---- each action once

weighs_itself : (n : ℕ) (a : Act) → weight (key_of (does n a)) n a ≡ 1
weighs_itself n a = by (n == n) (kind_of a == kind_of a) (variable_of a == variable_of a) (eqb_self n) (eqb_self (kind_of a)) (eqb_self (variable_of a))
  where
    by : (x y z : Bool) → x ≡ true → y ≡ true → z ≡ true → one_if (x && (y && z)) ≡ 1
    by true true true p q r = refl
    by false y z p q r = absurd (cc)
    by true false z p q r = absurd (cc)
    by true true false p q r = absurd (cc)

counted : (a : Action) (l : List Action) → Among a l → 1 ≤ having (key_of a) l
counted a _ (here {l = l}) = let h = weighs_itself a.node a.act in omega (arith, h)
counted a _ (there {b = b} {l = l} m) = let h = counted a l m in omega (arith, h)

-- where no key is had twice
pub each_once : (l : List Action) → ((K : Key) → having K l ≤ 1) → EachOnce l
each_once [] h = tt
each_once (a ∷ l) h = (
  λ m. let c = counted a l m in let w = weighs_itself a.node a.act in let i = h (key_of a) in omega (arith, c, w, i),
  each_once l (λ K. let i = h K in omega (arith, i)),
)
