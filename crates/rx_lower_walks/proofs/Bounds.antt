-- What may follow a site is a site: the numbers in a piece are below any bound that its own sites and its exits keep to.
use Rattle.std.proofs.Common.{◌≡◌, ℕ, zero, suc, ◌+◌, ◌<◌, ◌≤◌, List, [], ◌∷◌, ◌++◌, length, Bool, true, false, if◌then◌else◌, Option, Some, refl, ap, subst, arith, ◌⊎◌, inl, inr}
use Rattle.rx_lower_walks.specs.Actions.{Dead, Action, does}
use Rattle.rx_lower_walks.specs.Orders.{exit_node, Order}
use Rattle.rx_lower_walks.specs.Orders as order
use Rattle.rx_lower_walks.specs.Walks.{Among, here, there}
use Rattle.rx_lower_walks.specs.Graph.{Site, site_at}
use Rattle.rx_lower_walks.specs.Pieces.{Way, ahead, failing, exit_way, same, Turn, once_more, out, cut_off, turn, Scope, Variable, Looped, left, Exits, starts, through, entry, Piece, nowhere_part, leads_part, act_part, moved, onto, then_part, or_part, round, inside_of, inside, loop_ends, loop_part, leaving_part, part, no_exits, graph_of}
use Rattle.rx_lower_walks.proofs.Fits.{none_among, from_distinct, among_either, Entered, by_start, by_way, entered, Fits, same_is, nowhere_fits, leads_fits, act_fits}
use Rattle.rx_lower_walks.proofs.Sequences.{Moved, moves, was_moved, Joined, own_start, of_next, joined, or_true, ends_both, ends_first, then_fits}
use Rattle.rx_lower_walks.proofs.Choices.{or_fits}
use Rattle.rx_lower_walks.proofs.Passes.{Rounds, rounds, last_ends, loop_fits}
use Rattle.rx_lower_walks.proofs.Passes as passes
use Rattle.rx_lower_walks.proofs.Scoped.{leaving_fits, part_fits}
use Rattle.rx_lower_walks.proofs.WholeLemmas.{size_is}

abbrev Below : ℕ → List ℕ → Type 0
Below N ps = (p : ℕ) → Among p ps → p < N

abbrev AllBelow : ℕ → List Site → Type 0
AllBelow N [] = Unit {0}
AllBelow N (s ∷ ss) = Below N s.next × AllBelow N ss

both_below : (N : ℕ) (xs ys : List Site) → AllBelow N xs → AllBelow N ys → AllBelow N (xs ++ ys)
both_below N [] ys h k = k
both_below N (s ∷ xs) ys h k = (h.0, both_below N xs ys h.1 k)

-- the exits of the ways that a part may lead
abbrev ExitsBelow : ℕ → Piece → Exits → Type 0
ExitsBelow N f k = (q : Way) → f.ends q ≡ true → Below N (k q)

record Bounded (f : Piece) : Type 0 where
  starts_in : (i : ℕ) → Among (starts i) f.begins → i < f.size
  ways_in : (q : Way) → Among (through q) f.begins → f.ends q ≡ true
  next_in : (b N : ℕ) (k : Exits) → b + f.size ≤ N → ExitsBelow N f k → AllBelow N (f.sites b k)

entry_in : (f : Piece) → Bounded f → (b N : ℕ) (k : Exits) → b + f.size ≤ N → ExitsBelow N f k → Below N (entry f.begins b k)
entry_in f bf b N k le h p m = by (entered f.begins b k p m)
  where
    by : {p : ℕ} → Entered f.begins b k p → p < N
    by (by_start i n) = let lt : i < f.size = bf.starts_in i n in omega arith
    by {p = p} (by_way q n a) = h q (bf.ways_in q n) p a

nowhere_bounded : Bounded nowhere_part
nowhere_bounded = record { starts_in = λ i m. none_among m; ways_in = λ q m. none_among m; next_in = λ b N k le h. tt }

leads_bounded : (p : Way) → Bounded (leads_part p)
leads_bounded p = record { starts_in = λ i m. none_starts i m; ways_in = λ q m. (leads_fits p).ended [] q ((leads_fits p).idle q m); next_in = λ b N k le h. tt }
  where
    none_starts : {B : Type 0} (i : ℕ) → Among (starts i) (through p ∷ []) → B
    none_starts i (there m) = none_among m

act_bounded : (a : Action) → Bounded (act_part a)
act_bounded a = record {
  starts_in = λ i m. starts_in i m;
  ways_in = λ q m. (act_fits a).ended [] q ((act_fits a).idle q m);
  next_in = λ b N k le h. (λ p m. h ahead refl p (from_distinct (k ahead) p m), tt);
}
  where
    starts_in : (i : ℕ) → Among (starts i) (starts 0 ∷ []) → i < 1
    starts_in _ here = omega arith
    starts_in i (there m) = none_among m

module _ (c : Way) (V W : List Action → Option Way → Type 0) (f h : Piece) (fv : Fits V f) (hw : Fits W h) (bf : Bounded f) (bh : Bounded h) where
  size_with : f.ends c ≡ true → (then_part c f h).size ≡ f.size + h.size
  size_with e = ap (λ (b : Bool). f.size + (if b then h.size else 0)) e

  next_start : Among (through c) f.begins → (i : ℕ) → Moved f.size h.begins (starts i) → i < (then_part c f h).size
  next_start m _ (moves j n) = let lt : j < h.size = bh.starts_in j n in omega (arith, size_with (bf.ways_in c m))

  start_in : (i : ℕ) → Joined c f.begins (moved f.size h.begins) (starts i) → i < (then_part c f h).size
  start_in _ (own_start i m) = let lt : i < f.size = bf.starts_in i m in omega arith
  start_in i (of_next m n) = next_start m i (was_moved f.size h.begins (starts i) n)

  rear_exits : (N : ℕ) (k : Exits) → f.ends c ≡ true → ExitsBelow N (then_part c f h) k → ExitsBelow N h k
  rear_exits N k e x q d = x q (ends_both c f.ends h.ends q e d)

  front_exits : (b N : ℕ) (k : Exits) → b + (then_part c f h).size ≤ N → ExitsBelow N (then_part c f h) k
      → ExitsBelow N f (onto c (entry h.begins (b + f.size) k) k)
  front_exits b N k le x q d p m = by (same q c) refl m
    where
      by : (s : Bool) → same q c ≡ s → Among p (if s then entry h.begins (b + f.size) k else k q) → p < N
      by true s m =
          let e : f.ends c ≡ true = subst (λ (q : Way). f.ends q ≡ true) (same_is q c s) d in
          entry_in h bh (b + f.size) N k (omega (arith, size_with e)) (rear_exits N k e x) p m
      by false s m = x q (ends_first c f.ends h.ends q s d) p m

  then_next : (b N : ℕ) (k : Exits) → b + (then_part c f h).size ≤ N → ExitsBelow N (then_part c f h) k → AllBelow N ((then_part c f h).sites b k)
  then_next b N k le x = both_below N (f.sites b (onto c (entry h.begins (b + f.size) k) k)) _
      (bf.next_in b N _ (omega arith) (front_exits b N k le x)) (by (f.ends c) refl)
    where
      by : (s : Bool) → f.ends c ≡ s → AllBelow N (if s then h.sites (b + f.size) k else [])
      by true e = bh.next_in (b + f.size) N k (omega (arith, size_with e)) (rear_exits N k e x)
      by false e = tt

  then_bounded : Bounded (then_part c f h)
  then_bounded = record {
    starts_in = λ i m. start_in i (joined c f.begins (moved f.size h.begins) (starts i) m);
    ways_in = λ q m. (then_fits c V W f h fv hw).ended [] q ((then_fits c V W f h fv hw).idle q m);
    next_in = then_next;
  }

or_bounded : (V W : List Action → Option Way → Type 0) (f h : Piece) → Fits V f → Fits W h → Bounded f → Bounded h → Bounded (or_part f h)
or_bounded V W f h fv hw bf bh = record {
  starts_in = λ i m. either i (among_either f.begins _ m);
  ways_in = λ q m. (or_fits V W f h fv hw).ended [] q ((or_fits V W f h fv hw).idle q m);
  next_in = λ b N k le x. both_below N (f.sites b k) _ (bf.next_in b N k (omega arith) (λ q e. x q (rw e refl)))
      (bh.next_in (b + f.size) N k (omega arith) (λ q e. x q (rw e (or_true _))));
}
  where
    other : (i : ℕ) → Moved f.size h.begins (starts i) → i < f.size + h.size
    other _ (moves j n) = let lt : j < h.size = bh.starts_in j n in omega arith

    either : (i : ℕ) → Among (starts i) f.begins ⊎ Among (starts i) (moved f.size h.begins) → i < f.size + h.size
    either i (inl m) = let lt : i < f.size = bf.starts_in i m in omega arith
    either i (inr m) = other i (was_moved f.size h.begins (starts i) m)

loop_bounded : (l : ℕ) (W : List Action → Option Way → Type 0) (f : Piece) → Fits W f → Bounded f → Bounded (loop_part l f)
loop_bounded l W f fw bf = record {
  starts_in = λ i m. start_in i (rounds l f.begins (starts i) m);
  ways_in = λ q m. (loop_fits l W f fw).ended [] q ((loop_fits l W f fw).idle q m);
  next_in = λ b N k le x. bf.next_in b N (inside l (entry (round l f.begins) b k) k) le (λ q e p m. next b N k le x q e p (turn l q) refl m);
}
  where
    start_in : (i : ℕ) → Rounds l f.begins (starts i) → i < f.size
    start_in _ (passes.own_start i m) = bf.starts_in i m

    way_in : (q : Way) → Rounds l f.begins (through q) → loop_ends l f.ends q ≡ true
    way_in _ (passes.own_way q p e m) = last_ends l f.ends q p e (bf.ways_in q m)

    first : (b N : ℕ) (k : Exits) → b + f.size ≤ N → ExitsBelow N (loop_part l f) k → {p : ℕ} → Entered (round l f.begins) b k p → p < N
    first b N k le x (by_start i m) = let lt : i < f.size = start_in i (rounds l f.begins (starts i) m) in omega arith
    first b N k le x {p = p} (by_way q m a) = x q (way_in q (rounds l f.begins (through q) m)) p a

    next : (b N : ℕ) (k : Exits) → b + f.size ≤ N → ExitsBelow N (loop_part l f) k → (q : Way) → f.ends q ≡ true → (p : ℕ) → (t : Turn)
        → turn l q ≡ t → Among p (inside_of t (entry (round l f.begins) b k) k) → p < N
    next b N k le x q e p once_more t m = first b N k le x (entered (round l f.begins) b k p m)
    next b N k le x q e p (out r) t m = x r (last_ends l f.ends q r t e) p m
    next b N k le x q e p cut_off t m = none_among m

leaving_bounded : (n : ℕ) (xs : List ℕ) (q : Way) → Bounded (leaving_part n xs q)
leaving_bounded n [] q = leads_bounded q
leaving_bounded n (x ∷ xs) q = then_bounded ahead _ _ _ _ (act_fits (does n (Dead x))) (leaving_fits n xs q) (act_bounded (does n (Dead x))) (leaving_bounded n xs q)

part_bounded : (scope : Scope) (s : Order) → Bounded (part scope s)
part_bounded scope order.nothing = leads_bounded ahead
part_bounded scope order.nowhere = nowhere_bounded
part_bounded scope (order.act a) = act_bounded a
part_bounded scope (order.then s t) = then_bounded ahead _ _ _ _ (part_fits scope s) (part_fits scope t) (part_bounded scope s) (part_bounded scope t)
part_bounded scope (order.or s t) = or_bounded _ _ _ _ (part_fits scope s) (part_fits scope t) (part_bounded scope s) (part_bounded scope t)
part_bounded scope (order.leave x) = leaving_bounded (exit_node x) (left x scope) (exit_way x)
part_bounded scope order.fail = leads_bounded failing
part_bounded scope (order.otherwise s t) = then_bounded failing _ _ _ _ (part_fits scope s) (part_fits scope t) (part_bounded scope s) (part_bounded scope t)
part_bounded scope (order.ending n x s) =
    then_bounded ahead _ _ _ _ (then_fits failing _ _ _ _ (part_fits (Variable x ∷ scope) s) nowhere_fits) (act_fits (does n (Dead x)))
    (then_bounded failing _ _ _ _ (part_fits (Variable x ∷ scope) s) nowhere_fits (part_bounded (Variable x ∷ scope) s) nowhere_bounded) (act_bounded (does n (Dead x)))
part_bounded scope (order.passes l s) = loop_bounded l _ _ (part_fits (Looped l ∷ scope) s) (part_bounded (Looped l ∷ scope) s)

-- a part begins with sites of its own
pub starts_within : (scope : Scope) (s : Order) (i : ℕ) → Among (starts i) (part scope s).begins → i < (part scope s).size
starts_within scope s i m = (part_bounded scope s).starts_in i m

of_all : (N : ℕ) (g : List Site) (i : ℕ) (s : Site) → AllBelow N g → site_at g i ≡ Some s → Below N s.next
of_all N [] i s h e = absurd (cc)
of_all N (t ∷ g) zero s h e = let d : t ≡ s = cc in subst (λ (s : Site). Below N s.next) d h.0
of_all N (t ∷ g) (suc i) s h e = of_all N g i s h.1 e

pub next_are_sites : (s : Order) (i : ℕ) (t : Site) → site_at (graph_of s) i ≡ Some t → (j : ℕ) → Among j t.next → j < length (graph_of s)
next_are_sites s i t e =
    of_all (length (graph_of s)) (graph_of s) i t ((part_bounded [] s).next_in 0 (length (graph_of s)) no_exits (omega (arith, size_is s)) (λ q d p m. none_among m)) e
