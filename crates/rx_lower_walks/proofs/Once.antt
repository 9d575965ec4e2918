-- What may follow a site stands there once.
use Rattle.std.proofs.Common.{◌≡◌, ℕ, zero, suc, ◌+◌, ◌==◌, List, [], ◌∷◌, ◌++◌, Bool, true, false, if◌then◌else◌, Some, refl, subst}
use Rattle.rx_lower_walks.specs.Actions.{Dead, does}
use Rattle.rx_lower_walks.specs.Orders.{exit_node, Order}
use Rattle.rx_lower_walks.specs.Orders as order
use Rattle.rx_lower_walks.specs.Walks.{Among, here, there}
use Rattle.rx_lower_walks.specs.Graph.{Site, site_at, EachOnce}
use Rattle.rx_lower_walks.specs.Pieces.{Way, ahead, failing, exit_way, Scope, Variable, Looped, left, Exits, entry, Piece, nowhere_part, without, distinct, act_part, onto, then_part, or_part, round, inside, loop_part, leaving_part, part, no_exits, graph_of}
use Rattle.rx_lower_walks.proofs.Fits.{none_among, eqb_self, kept}

-- what was taken out is not there
taken_out : (p : ℕ) (qs : List ℕ) → Among p (without p qs) → ⊥
taken_out p [] m = none_among m
taken_out p (q ∷ qs) m = by (q == p) refl m (taken_out p qs)
  where
    in_rest : (l : List ℕ) → (q == p) ≡ false → (Among p l → ⊥) → (r : ℕ) → r ≡ p → Among r (q ∷ l) → ⊥
    in_rest l e f _ d here = let z : (q == p) ≡ true = subst (λ (x : ℕ). (q == x) ≡ true) d (eqb_self q) in cc
    in_rest l e f r d (there m) = f (subst (λ r. Among r l) d m)

    by : (b : Bool) → (q == p) ≡ b → Among p (if b then without p qs else q ∷ without p qs) → (Among p (without p qs) → ⊥) → ⊥
    by true e m f = f m
    by false e m f = in_rest (without p qs) e f p refl m

without_once : (p : ℕ) (qs : List ℕ) → EachOnce qs → EachOnce (without p qs)
without_once p [] h = tt
without_once p (q ∷ qs) h = by (q == p) (without_once p qs h.1)
  where
    by : (b : Bool) → EachOnce (without p qs) → EachOnce (if b then without p qs else q ∷ without p qs)
    by true k = k
    by false k = (λ m. h.0 (kept p qs q m), k)

distinct_once : (ps : List ℕ) → EachOnce (distinct ps)
distinct_once [] = tt
distinct_once (p ∷ ps) = (taken_out p (distinct ps), without_once p (distinct ps) (distinct_once ps))

abbrev AllOnce : List Site → Type 0
AllOnce [] = Unit {0}
AllOnce (s ∷ ss) = EachOnce s.next × AllOnce ss

both_once : (xs ys : List Site) → AllOnce xs → AllOnce ys → AllOnce (xs ++ ys)
both_once [] ys h k = k
both_once (s ∷ xs) ys h k = (h.0, both_once xs ys h.1 k)

NextOnce : Piece → Type 0
NextOnce f = (b : ℕ) (k : Exits) → AllOnce (f.sites b k)

act_once : (a : _) → NextOnce (act_part a)
unfolding NextOnce
act_once a b k = (distinct_once (k ahead), tt)

nowhere_once : NextOnce nowhere_part
unfolding NextOnce
nowhere_once b k = tt

then_once : (c : Way) (f h : Piece) → NextOnce f → NextOnce h → NextOnce (then_part c f h)
unfolding NextOnce
then_once c f h nf nh b k = both_once (f.sites b (onto c (entry h.begins (b + f.size) k) k)) _ (nf b _) (by (f.ends c))
  where
    by : (s : Bool) → AllOnce (if s then h.sites (b + f.size) k else [])
    by true = nh (b + f.size) k
    by false = tt

or_once : (f h : Piece) → NextOnce f → NextOnce h → NextOnce (or_part f h)
unfolding NextOnce
or_once f h nf nh b k = both_once (f.sites b k) _ (nf b k) (nh (b + f.size) k)

loop_once : (l : ℕ) (f : Piece) → NextOnce f → NextOnce (loop_part l f)
unfolding NextOnce
loop_once l f nf b k = nf b (inside l (entry (round l f.begins) b k) k)

leaving_once : (n : ℕ) (xs : List ℕ) (q : Way) → NextOnce (leaving_part n xs q)
unfolding NextOnce
leaving_once n [] q b k = tt
leaving_once n (x ∷ xs) q b k = then_once ahead (act_part (does n (Dead x))) (leaving_part n xs q) (act_once (does n (Dead x))) (leaving_once n xs q) b k

part_once : (scope : Scope) (s : Order) → NextOnce (part scope s)
unfolding NextOnce
part_once scope order.nothing b k = tt
part_once scope order.nowhere b k = tt
part_once scope (order.act a) b k = act_once a b k
part_once scope (order.then s t) b k = then_once ahead (part scope s) (part scope t) (part_once scope s) (part_once scope t) b k
part_once scope (order.or s t) b k = or_once (part scope s) (part scope t) (part_once scope s) (part_once scope t) b k
part_once scope (order.leave x) b k = leaving_once (exit_node x) (left x scope) (exit_way x) b k
part_once scope order.fail b k = tt
part_once scope (order.otherwise s t) b k = then_once failing (part scope s) (part scope t) (part_once scope s) (part_once scope t) b k
part_once scope (order.ending n x s) b k =
    then_once ahead (then_part failing (part (Variable x ∷ scope) s) nowhere_part) (act_part (does n (Dead x)))
    (then_once failing (part (Variable x ∷ scope) s) nowhere_part (part_once (Variable x ∷ scope) s) nowhere_once) (act_once (does n (Dead x))) b k
part_once scope (order.passes l s) b k = loop_once l (part (Looped l ∷ scope) s) (part_once (Looped l ∷ scope) s) b k

of_all : (g : List Site) (i : ℕ) (s : Site) → AllOnce g → site_at g i ≡ Some s → EachOnce s.next
of_all [] i s h e = absurd (cc)
of_all (t ∷ g) zero s h e = let d : t ≡ s = cc in subst (λ (s : Site). EachOnce s.next) d h.0
of_all (t ∷ g) (suc i) s h e = of_all g i s h.1 e

pub next_once : (s : Order) (i : ℕ) (t : Site) → site_at (graph_of s) i ≡ Some t → EachOnce t.next
unfolding NextOnce
next_once s i t e = of_all (graph_of s) i t (part_once [] s 0 no_exits) e
