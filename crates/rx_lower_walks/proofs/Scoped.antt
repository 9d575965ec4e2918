-- The walks of a part in its scope, with the ends of variables at their jumps: each piece fits them, and their fronts are walks.
use Rattle.std.proofs.Common.{◌≡◌, ℕ, List, [], ◌∷◌, ◌++◌, Option, Some, None, refl, sym, subst}
use Rattle.rx_lower_walks.specs.Actions.{Dead, Action, does}
use Rattle.rx_lower_walks.specs.Orders.{exit_node, Order}
use Rattle.rx_lower_walks.specs.Orders as order
use Rattle.rx_lower_walks.specs.Pieces.{Way, ahead, failing, exit_way, Scope, Variable, Looped, left, leaving_part, part}
use Rattle.rx_lower_walks.proofs.Fits.{no_items, Walks, Fits, Rests, rests, nowhere_fits, Leads, not_yet, leads, leads_fits, Does, undone, halted, done, act_fits}
use Rattle.rx_lower_walks.proofs.Sequences.{Sequence, both, first, then_fits}
use Rattle.rx_lower_walks.proofs.Choices.{Either, one, other, or_fits}
use Rattle.rx_lower_walks.proofs.Passes.{Passes, no_pass, halts, last, more, loop_fits}

abbrev pub leaving : ℕ → List ℕ → Way → List Action → Option Way → Type 0
leaving n [] q = Leads q
leaving n (x ∷ xs) q = Sequence ahead (Does (does n (Dead x))) (leaving n xs q)

abbrev pub walks : Scope → Order → List Action → Option Way → Type 0
walks scope order.nothing = Leads ahead
walks scope order.nowhere = Rests
walks scope (order.act a) = Does a
walks scope (order.then s t) = Sequence ahead (walks scope s) (walks scope t)
walks scope (order.or s t) = Either (walks scope s) (walks scope t)
walks scope (order.leave x) = leaving (exit_node x) (left x scope) (exit_way x)
walks scope order.fail = Leads failing
walks scope (order.otherwise s t) = Sequence failing (walks scope s) (walks scope t)
walks scope (order.ending n x s) = Sequence ahead (Sequence failing (walks (Variable x ∷ scope) s) Rests) (Does (does n (Dead x)))
walks scope (order.passes l s) = Passes l (walks (Looped l ∷ scope) s)

pub leaving_fits : (n : ℕ) (xs : List ℕ) (q : Way) → Fits (leaving n xs q) (leaving_part n xs q)
leaving_fits n [] q = leads_fits q
leaving_fits n (x ∷ xs) q = then_fits ahead _ _ _ _ (act_fits (does n (Dead x))) (leaving_fits n xs q)

pub part_fits : (scope : Scope) (s : Order) → Fits (walks scope s) (part scope s)
part_fits scope order.nothing = leads_fits ahead
part_fits scope order.nowhere = nowhere_fits
part_fits scope (order.act a) = act_fits a
part_fits scope (order.then s t) = then_fits ahead _ _ _ _ (part_fits scope s) (part_fits scope t)
part_fits scope (order.or s t) = or_fits _ _ _ _ (part_fits scope s) (part_fits scope t)
part_fits scope (order.leave x) = leaving_fits (exit_node x) (left x scope) (exit_way x)
part_fits scope order.fail = leads_fits failing
part_fits scope (order.otherwise s t) = then_fits failing _ _ _ _ (part_fits scope s) (part_fits scope t)
part_fits scope (order.ending n x s) = then_fits ahead _ _ _ _ (then_fits failing _ _ _ _ (part_fits (Variable x ∷ scope) s) nowhere_fits) (act_fits (does n (Dead x)))
part_fits scope (order.passes l s) = loop_fits l _ _ (part_fits (Looped l ∷ scope) s)

-- ---- fronts

-- two lists in two pieces each: one of the first pieces begins the other
data Cut {A : Type 0} (a b c d : List A) : Type 0 where
  longer : (r : List A) → a ≡ c ++ r → Cut a b c d
  shorter : (r : List A) → c ≡ a ++ r → b ≡ r ++ d → Cut a b c d

cut : {A : Type 0} (a b c d : List A) → a ++ b ≡ c ++ d → Cut a b c d
cut [] b c d e = shorter c refl e
cut (x ∷ a) b [] d e = longer (x ∷ a) refl
cut (x ∷ a) b (y ∷ c) d e = by (cut a b c d (cc))
  where
    by : Cut a b c d → Cut (x ∷ a) b (y ∷ c) d
    by (longer r f) = longer r (cc)
    by (shorter r f h) = shorter r (cc) h

IsClosed : Walks → Type 0
IsClosed W = (us vs ws : List Action) (e : Option Way) → ws ≡ us ++ vs → W ws e → W us None

rests_closed : IsClosed Rests
unfolding IsClosed
rests_closed us vs ws e f rests = subst (λ us. Rests us None) (sym (no_items us vs (sym f)).0) rests

leads_closed : (p : Way) → IsClosed (Leads p)
unfolding IsClosed
leads_closed p us vs ws e f not_yet = subst (λ us. Leads p us None) (sym (no_items us vs (sym f)).0) not_yet
leads_closed p us vs ws e f leads = subst (λ us. Leads p us None) (sym (no_items us vs (sym f)).0) not_yet

one_done : (a : Action) (us vs : List Action) → a ∷ [] ≡ us ++ vs → Does a us None
one_done a [] vs f = undone
one_done a (u ∷ []) vs f = let h : a ≡ u = cc in subst (λ u. Does a (u ∷ []) None) h halted
one_done a (u ∷ v ∷ us) vs f = absurd (cc)

does_closed : (a : Action) → IsClosed (Does a)
unfolding IsClosed
does_closed a us vs ws e f undone = subst (λ us. Does a us None) (sym (no_items us vs (sym f)).0) undone
does_closed a us vs ws e f halted = one_done a us vs f
does_closed a us vs ws e f done = one_done a us vs f

sequence_closed : (c : Way) (V W : List Action → Option Way → Type 0) → IsClosed V → IsClosed W → IsClosed (Sequence c V W)
unfolding IsClosed
sequence_closed c V W cv cw us vs ws e f (both {us = xs} {vs = ys} v w) = by (cut xs ys us vs f)
  where
    by : Cut xs ys us vs → Sequence c V W us None
    by (longer r h) = first (cv us r xs (Some c) h v) tt
    by (shorter r h i) = subst (λ us. Sequence c V W us None) (sym h) (both v (cw r vs ys e i w))
sequence_closed c V W cv cw us vs ws e f (first v i) = first (cv us vs ws e f v) tt

either_closed : (V W : List Action → Option Way → Type 0) → IsClosed V → IsClosed W → IsClosed (Either V W)
unfolding IsClosed
either_closed V W cv cw us vs ws e f (one v) = one (cv us vs ws e f v)
either_closed V W cv cw us vs ws e f (other w) = other (cw us vs ws e f w)

passes_closed : (l : ℕ) (W : List Action → Option Way → Type 0) → IsClosed W → IsClosed (Passes l W)
unfolding IsClosed
passes_closed l W cw us vs ws e f no_pass = subst (λ us. Passes l W us None) (sym (no_items us vs (sym f)).0) no_pass
passes_closed l W cw us vs ws e f (halts {e = o} w) = halts (cw us vs ws o f w)
passes_closed l W cw us vs ws e f (last {q = q} w t) = halts (cw us vs ws (Some q) f w)
passes_closed l W cw us vs ws e f (more {us = xs} {vs = ys} {q = q} w t rest) = by (cut xs ys us vs f) (λ r i. passes_closed l W cw r vs ys e i rest)
  where
    by : Cut xs ys us vs → ((r : List Action) → ys ≡ r ++ vs → Passes l W r None) → Passes l W us None
    by (longer r h) next = halts (cw us r xs (Some q) h w)
    by (shorter r h i) next = subst (λ us. Passes l W us None) (sym h) (more w t (next r i))

leaving_closed : (n : ℕ) (xs : List ℕ) (q : Way) → IsClosed (leaving n xs q)
leaving_closed n [] q = leads_closed q
leaving_closed n (x ∷ xs) q = sequence_closed ahead _ _ (does_closed (does n (Dead x))) (leaving_closed n xs q)

closed : (scope : Scope) (s : Order) → IsClosed (walks scope s)
closed scope order.nothing = leads_closed ahead
closed scope order.nowhere = rests_closed
closed scope (order.act a) = does_closed a
closed scope (order.then s t) = sequence_closed ahead _ _ (closed scope s) (closed scope t)
closed scope (order.or s t) = either_closed _ _ (closed scope s) (closed scope t)
closed scope (order.leave x) = leaving_closed (exit_node x) (left x scope) (exit_way x)
closed scope order.fail = leads_closed failing
closed scope (order.otherwise s t) = sequence_closed failing _ _ (closed scope s) (closed scope t)
closed scope (order.ending n x s) = sequence_closed ahead _ _ (sequence_closed failing _ _ (closed (Variable x ∷ scope) s) rests_closed) (does_closed (does n (Dead x)))
closed scope (order.passes l s) = passes_closed l _ (closed (Looped l ∷ scope) s)

pub fronts : (scope : Scope) (s : Order) (us vs ws : List Action) (e : Option Way) → ws ≡ us ++ vs → walks scope s ws e → walks scope s us None
unfolding IsClosed
fronts scope s us vs ws e f w = closed scope s us vs ws e f w
