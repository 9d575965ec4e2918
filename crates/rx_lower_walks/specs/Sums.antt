-- What flows are to what is around them: how many sites they have, where they may lead, and how they begin.
use Rattle.std.specs.Prelude.{ℕ, ◌+◌, ◌-◌, ◌==◌, min, List, [], ◌∷◌, ◌++◌, length, if◌then◌else◌, Bool, true, false, ◌&&◌, ◌||◌}
use Rattle.rx_lower_walks.specs.Orders as orders
use Rattle.rx_lower_walks.specs.Flows.{Flow, nothing, nowhere, act, items, or, leave, passes, Items, last, do_and, ends_and, may_and, else_and}
use Rattle.rx_lower_walks.specs.declared.sums.Way.{Way}
use Rattle.rx_lower_walks.specs.declared.sums.Way.TheVariants.{Ahead, Breaking, Continuing, Returning, Failing}
use Rattle.rx_lower_walks.specs.declared.sums.Begin.{Begin}
use Rattle.rx_lower_walks.specs.declared.sums.Begin.TheVariants.{Starts, Through}
use Rattle.rx_lower_walks.specs.declared.sums.Sum.{Sum}
use Rattle.rx_lower_walks.specs.declared.around.Around.{Around}
use Rattle.rx_lower_walks.specs.Around.{with_variable, with_loop, depth}

-- ---- numbers and ways

abbrev pub cap : ℕ → ℕ
cap n = min n 18446744073709551615

abbrev pub add : ℕ → ℕ → ℕ
add a b = min (a + b) 18446744073709551615

abbrev pub same : Way → Way → Bool
same Ahead Ahead = true
same (Breaking l) (Breaking m) = l == m
same (Continuing l) (Continuing m) = l == m
same Returning Returning = true
same Failing Failing = true
same _ _ = false

abbrev pub exit_way : orders.Exit → Way
exit_way (orders.breaks n l) = Breaking l
exit_way (orders.continues n l) = Continuing l
exit_way (orders.returns n) = Returning

-- ---- begins

-- behind a part of this size
abbrev pub moved : ℕ → List Begin → List Begin
moved n [] = []
moved n (Starts i ∷ bs) = Starts (add n i) ∷ moved n bs
moved n (Through q ∷ bs) = Through q ∷ moved n bs

-- the second part comes where the first leads this way
abbrev pub then_begins : Way → List Begin → List Begin → List Begin
then_begins c [] hs = []
then_begins c (Starts i ∷ bs) hs = Starts i ∷ then_begins c bs hs
then_begins c (Through q ∷ bs) hs = (if same q c then hs else Through q ∷ []) ++ then_begins c bs hs

-- round a loop: what leads to its next pass leads nowhere, and so does a failed test
abbrev pub turned : ℕ → Way → List Begin
turned l Ahead = []
turned l (Breaking m) = Through (if m == l then Ahead else Breaking m) ∷ []
turned l (Continuing m) = if m == l then [] else Through (Continuing m) ∷ []
turned l Returning = Through Returning ∷ []
turned l Failing = []

abbrev pub round : ℕ → List Begin → List Begin
round l [] = []
round l (Starts i ∷ bs) = Starts i ∷ round l bs
round l (Through q ∷ bs) = turned l q ++ round l bs

-- ---- loops that are broken, each once

abbrev pub has : ℕ → List ℕ → Bool
has l [] = false
has l (m ∷ ms) = (l == m) || has l ms

abbrev pub joined : List ℕ → List ℕ → List ℕ
joined ls [] = ls
joined ls (m ∷ ms) = joined (if has m ls then ls else ls ++ m ∷ []) ms

abbrev pub without : ℕ → List ℕ → List ℕ
without l [] = []
without l (m ∷ ms) = if m == l then without l ms else m ∷ without l ms

abbrev pub breaks_of : Way → List ℕ
breaks_of (Breaking l) = l ∷ []
breaks_of _ = []

-- ---- sums

abbrev pub nowhere_sum : Sum
nowhere_sum = record { size = 0; ahead = false; failing = false; begins = []; breaks = [] }

abbrev pub leads_sum : Way → Sum
leads_sum q = record { size = 0; ahead = same Ahead q; failing = same Failing q; begins = Through q ∷ []; breaks = breaks_of q }

abbrev pub act_sum : Sum
act_sum = record { size = 1; ahead = true; failing = false; begins = Starts 0 ∷ []; breaks = [] }

-- so many variables end, and then this way
abbrev pub leaving_sum : ℕ → Way → Sum
leaving_sum n q = record {
  size = cap n;
  ahead = same Ahead q;
  failing = same Failing q;
  begins = (if n == 0 then Through q else Starts 0) ∷ [];
  breaks = breaks_of q;
}

abbrev pub then_sum : Sum → Sum → Sum
then_sum f h = record {
  size = add f.size (if f.ahead then h.size else 0);
  ahead = f.ahead && h.ahead;
  failing = f.failing || (f.ahead && h.failing);
  begins = then_begins Ahead f.begins (moved f.size h.begins);
  breaks = joined f.breaks (if f.ahead then h.breaks else []);
}

abbrev pub else_sum : Sum → Sum → Sum
else_sum f h = record {
  size = add f.size (if f.failing then h.size else 0);
  ahead = f.ahead || (f.failing && h.ahead);
  failing = f.failing && h.failing;
  begins = then_begins Failing f.begins (moved f.size h.begins);
  breaks = joined f.breaks (if f.failing then h.breaks else []);
}

abbrev pub or_sum : Sum → Sum → Sum
or_sum f h = record {
  size = add f.size h.size;
  ahead = f.ahead || h.ahead;
  failing = f.failing || h.failing;
  begins = f.begins ++ moved f.size h.begins;
  breaks = joined f.breaks h.breaks;
}

-- what follows, or a failed test
abbrev pub may_sum : Sum → Sum
may_sum h = record { size = h.size; ahead = h.ahead; failing = true; begins = h.begins ++ Through Failing ∷ []; breaks = h.breaks }

-- what follows, and the end of a variable: no failed test leads out of it
abbrev pub ends_sum : Sum → Sum
ends_sum h = record {
  size = add h.size (if h.ahead then 1 else 0);
  ahead = h.ahead;
  failing = false;
  begins = then_begins Ahead (then_begins Failing h.begins []) (Starts h.size ∷ []);
  breaks = h.breaks;
}

abbrev pub loop_sum : ℕ → Sum → Sum
loop_sum l f = record { size = f.size; ahead = has l f.breaks; failing = false; begins = round l f.begins; breaks = without l f.breaks }

-- ---- flows, and sequences

abbrev mutual
  pub sum : Around → Flow → Sum
  sum A nothing = leads_sum Ahead
  sum A nowhere = nowhere_sum
  sum A (act a) = act_sum
  sum A (items l) = sum_items A l
  sum A (or f g) = or_sum (sum A f) (sum A g)
  sum A (leave x) = leaving_sum (length A.variables - depth x A.loops) (exit_way x)
  sum A (passes l f) = loop_sum l (sum (with_loop l [] [] A) f)

  pub sum_items : Around → Items → Sum
  sum_items A (last f) = sum A f
  sum_items A (do_and f l) = then_sum (sum A f) (sum_items A l)
  sum_items A (ends_and n x l) = ends_sum (sum_items (with_variable x A) l)
  sum_items A (may_and l) = may_sum (sum_items A l)
  sum_items A (else_and f l) = else_sum (sum A f) (sum_items A l)

-- the variables of a sequence's items, declared
abbrev pub opened : Items → Around → Around
opened (last f) A = A
opened (do_and f l) A = opened l A
opened (ends_and n x l) A = opened l (with_variable x A)
opened (may_and l) A = opened l A
opened (else_and f l) A = opened l A

abbrev pub no_items : Items
no_items = last nothing
