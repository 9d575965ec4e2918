-- The graph of an order of actions, part by part: sites in the order of the text. A part of it is told by its size, the ways
-- that it may lead, how it begins, and its sites, where the number of its first site and what follows each way are known. No
-- site stands for a part without an action, and a part that nothing comes to has no sites.
use Rattle.std.specs.Prelude.{ℕ, ◌+◌, ◌==◌, List, [], ◌∷◌, ◌++◌, if◌then◌else◌, Bool, true, false, not, ◌&&◌, ◌||◌}
use Rattle.rx_typed.specs.Tree.{Function}
use Rattle.rx_lower_walks.specs.Actions.{Dead, Action, does}
use Rattle.rx_lower_walks.specs.Orders.{Exit, breaks, continues, returns, exit_node, Order, order_function}
use Rattle.rx_lower_walks.specs.Orders as order
use Rattle.rx_lower_walks.specs.Graph.{Site}

-- ---- ways

-- where a part may lead: on, out of a loop or to its next pass, out of the function, to the next arm
pub data Way : Type 0 where
  ahead : Way
  breaking : ℕ → Way
  continuing : ℕ → Way
  returning : Way
  failing : Way

abbrev pub exit_way : Exit → Way
exit_way (breaks n l) = breaking l
exit_way (continues n l) = continuing l
exit_way (returns n) = returning

abbrev pub same : Way → Way → Bool
same ahead ahead = true
same (breaking l) (breaking m) = l == m
same (continuing l) (continuing m) = l == m
same returning returning = true
same failing failing = true
same _ _ = false

-- what comes after a pass of a loop: another, this way, or nothing
pub data Turn : Type 0 where
  once_more : Turn
  out : Way → Turn
  cut_off : Turn

abbrev pub turn : ℕ → Way → Turn
turn l ahead = once_more
turn l (breaking m) = if m == l then out ahead else out (breaking m)
turn l (continuing m) = if m == l then once_more else out (continuing m)
turn l returning = out returning
turn l failing = cut_off

-- ---- scopes

-- a variable that ends where the part does, or a loop
pub data Mark : Type 0 where
  Variable : ℕ → Mark
  Looped : ℕ → Mark

-- those around a part, innermost first
abbrev pub Scope : Type 0
Scope = List Mark

abbrev pub all_of : Scope → List ℕ
all_of [] = []
all_of (Variable x ∷ scope) = x ∷ all_of scope
all_of (Looped m ∷ scope) = all_of scope

-- those of a loop
abbrev pub within : ℕ → Scope → List ℕ
within l [] = []
within l (Variable x ∷ scope) = x ∷ within l scope
within l (Looped m ∷ scope) = if l == m then [] else within l scope

-- the variables that a jump ends, last declared first
abbrev pub left : Exit → Scope → List ℕ
left (breaks n l) scope = within l scope
left (continues n l) scope = within l scope
left (returns n) scope = all_of scope

-- ---- pieces

-- the sites that follow a part, for each way
abbrev pub Exits : Type 0
Exits = Way → List ℕ

-- a first site, this far from the part's first number; or a way without an action
pub data Begin : Type 0 where
  starts : ℕ → Begin
  through : Way → Begin

abbrev pub entry : List Begin → ℕ → Exits → List ℕ
entry [] b k = []
entry (starts i ∷ bs) b k = (b + i) ∷ entry bs b k
entry (through q ∷ bs) b k = k q ++ entry bs b k

-- how many sites, which ways some walk leads, the begins, and the sites, from the first one's number
pub record Piece : Type 0 where
  pub size : ℕ
  pub ends : Way → Bool
  pub begins : List Begin
  pub sites : ℕ → Exits → List Site

abbrev pub nowhere_part : Piece
nowhere_part = record { size = 0; ends = λ q. false; begins = []; sites = λ b k. [] }

abbrev pub leads_part : Way → Piece
leads_part p = record { size = 0; ends = λ q. same q p; begins = through p ∷ []; sites = λ b k. [] }

-- each number once, where it comes first
abbrev pub without : ℕ → List ℕ → List ℕ
without p [] = []
without p (q ∷ qs) = if q == p then without p qs else q ∷ without p qs

abbrev pub distinct : List ℕ → List ℕ
distinct [] = []
distinct (p ∷ ps) = p ∷ without p (distinct ps)

abbrev pub act_part : Action → Piece
act_part a = record { size = 1; ends = λ q. same q ahead; begins = starts 0 ∷ []; sites = λ b k. record { action = a; next = distinct (k ahead) } ∷ [] }

-- behind a part of this size
abbrev pub moved : ℕ → List Begin → List Begin
moved n [] = []
moved n (starts i ∷ bs) = starts (n + i) ∷ moved n bs
moved n (through q ∷ bs) = through q ∷ moved n bs

abbrev pub then_begins : Way → List Begin → List Begin → List Begin
then_begins c [] hs = []
then_begins c (starts i ∷ bs) hs = starts i ∷ then_begins c bs hs
then_begins c (through q ∷ bs) hs = (if same q c then hs else through q ∷ []) ++ then_begins c bs hs

abbrev pub then_ends : Way → (Way → Bool) → (Way → Bool) → Way → Bool
then_ends c f h q = (not (same q c) && f q) || (f c && h q)

-- the exits, but for this way
abbrev pub onto : Way → List ℕ → Exits → Exits
onto c e k q = if same q c then e else k q

-- a part and, where it leads this way, another: it has no sites where the first part never does
abbrev pub then_part : Way → Piece → Piece → Piece
then_part c f h = record {
  size = f.size + (if f.ends c then h.size else 0);
  ends = then_ends c f.ends h.ends;
  begins = then_begins c f.begins (moved f.size h.begins);
  sites = λ b k. f.sites b (onto c (entry h.begins (b + f.size) k) k) ++ (if f.ends c then h.sites (b + f.size) k else []);
}

abbrev pub or_part : Piece → Piece → Piece
or_part f h = record {
  size = f.size + h.size;
  ends = λ q. f.ends q || h.ends q;
  begins = f.begins ++ moved f.size h.begins;
  sites = λ b k. f.sites b k ++ h.sites (b + f.size) k;
}

abbrev pub turned : Turn → List Begin
turned once_more = []
turned (out p) = through p ∷ []
turned cut_off = []

abbrev pub round : ℕ → List Begin → List Begin
round l [] = []
round l (starts i ∷ bs) = starts i ∷ round l bs
round l (through q ∷ bs) = turned (turn l q) ++ round l bs

abbrev pub inside_of : Turn → List ℕ → Exits → List ℕ
inside_of once_more e k = e
inside_of (out p) e k = k p
inside_of cut_off e k = []

abbrev pub inside : ℕ → List ℕ → Exits → Exits
inside l e k q = inside_of (turn l q) e k

-- a pass that ends in a jump out of the loop that isn't its own break
abbrev pub passes_out : Turn → Bool
passes_out (out ahead) = false
passes_out (out p) = true
passes_out _ = false

abbrev pub loop_ends : ℕ → (Way → Bool) → Way → Bool
loop_ends l f ahead = f (breaking l)
loop_ends l f q = passes_out (turn l q) && f q

abbrev pub loop_part : ℕ → Piece → Piece
loop_part l f = record {
  size = f.size;
  ends = loop_ends l f.ends;
  begins = round l f.begins;
  sites = λ b k. f.sites b (inside l (entry (round l f.begins) b k) k);
}

-- these variables end at this node, and then this way
abbrev pub leaving_part : ℕ → List ℕ → Way → Piece
leaving_part n [] q = leads_part q
leaving_part n (x ∷ xs) q = then_part ahead (act_part (does n (Dead x))) (leaving_part n xs q)

-- ---- orders and functions

abbrev pub part : Scope → Order → Piece
part scope order.nothing = leads_part ahead
part scope order.nowhere = nowhere_part
part scope (order.act a) = act_part a
part scope (order.then s t) = then_part ahead (part scope s) (part scope t)
part scope (order.or s t) = or_part (part scope s) (part scope t)
part scope (order.leave x) = leaving_part (exit_node x) (left x scope) (exit_way x)
part scope order.fail = leads_part failing
part scope (order.otherwise s t) = then_part failing (part scope s) (part scope t)
part scope (order.ending n x s) = then_part ahead (then_part failing (part (Variable x ∷ scope) s) nowhere_part) (act_part (does n (Dead x)))
part scope (order.passes l s) = loop_part l (part (Looped l ∷ scope) s)

-- nothing follows a function
abbrev pub no_exits : Exits
no_exits = λ q. []

abbrev pub graph_of : Order → List Site
graph_of s = (part [] s).sites 0 no_exits

-- the sites that a path of it begins at
abbrev pub entries : Order → List ℕ
entries s = entry (part [] s).begins 0 no_exits

abbrev pub graph : Function → List Site
graph f = graph_of (order_function f)
