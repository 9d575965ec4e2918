-- The sites of a part depend on its exits only for the ways that it may lead.
use Rattle.std.proofs.Common.{◌≡◌, ℕ, ◌+◌, List, [], ◌∷◌, ◌++◌, Bool, true, false, if◌then◌else◌, refl, ap, ◌∙◌, subst}
use Rattle.rx_lower_walks.specs.Actions.{Dead, Action, does}
use Rattle.rx_lower_walks.specs.Orders.{exit_node, Order}
use Rattle.rx_lower_walks.specs.Orders as order
use Rattle.rx_lower_walks.specs.Walks.{Among, here, there}
use Rattle.rx_lower_walks.specs.Pieces.{Way, ahead, failing, exit_way, same, Turn, once_more, out, cut_off, turn, Scope, Variable, Looped, left, Exits, Begin, starts, through, entry, Piece, nowhere_part, distinct, act_part, onto, then_part, or_part, round, inside_of, loop_part, leaving_part, part}
use Rattle.rx_lower_walks.proofs.Fits.{Fits, same_is, nowhere_fits, act_fits}
use Rattle.rx_lower_walks.proofs.Sequences.{or_true, ends_both, ends_first, then_fits}
use Rattle.rx_lower_walks.proofs.Passes.{last_ends, loop_fits}
use Rattle.rx_lower_walks.proofs.Scoped.{leaving_fits, part_fits}

-- alike for the ways that a part may lead
abbrev pub Agree : Piece → Exits → Exits → Type 0
Agree f k j = (q : Way) → f.ends q ≡ true → k q ≡ j q

entry_like : (bs : List Begin) (b : ℕ) (k j : Exits) → ((q : Way) → Among (through q) bs → k q ≡ j q) → entry bs b k ≡ entry bs b j
entry_like [] b k j h = refl
entry_like (starts i ∷ bs) b k j h = ap (λ ps. (b + i) ∷ ps) (entry_like bs b k j (λ q m. h q (there m)))
entry_like (through q ∷ bs) b k j h = ap (λ ps. ps ++ entry bs b k) (h q here) ∙ ap (λ ps. j q ++ ps) (entry_like bs b k j (λ q m. h q (there m)))

pub same_entry : (W : List Action → _ → Type 0) (f : Piece) → Fits W f → (b : ℕ) (k j : Exits) → Agree f k j → entry f.begins b k ≡ entry f.begins b j
same_entry W f fw b k j h = entry_like f.begins b k j (λ q m. h q (fw.ended [] q (fw.idle q m)))

IsLocal : Piece → Type 0
IsLocal f = (b : ℕ) (k j : Exits) → Agree f k j → f.sites b k ≡ f.sites b j

nowhere_local : IsLocal nowhere_part
unfolding IsLocal
nowhere_local b k j h = refl

act_local : (a : Action) → IsLocal (act_part a)
unfolding IsLocal
act_local a b k j h = ap (λ (ps : List ℕ). record { action = a; next = distinct ps } ∷ []) (h ahead refl)

module _ (c : Way) (V W : List Action → _ → Type 0) (f h : Piece) (fv : Fits V f) (hw : Fits W h) (lf : IsLocal f) (lh : IsLocal h) where
  rear : (k j : Exits) → f.ends c ≡ true → Agree (then_part c f h) k j → Agree h k j
  rear k j e x q d = x q (ends_both c f.ends h.ends q e d)

  front : (b : ℕ) (k j : Exits) → Agree (then_part c f h) k j → Agree f (onto c (entry h.begins (b + f.size) k) k) (onto c (entry h.begins (b + f.size) j) j)
  front b k j x q d = by (same q c) refl
    where
      by : (s : Bool) → same q c ≡ s → (if s then entry h.begins (b + f.size) k else k q) ≡ (if s then entry h.begins (b + f.size) j else j q)
      by true s = same_entry W h hw (b + f.size) k j (rear k j (subst (λ (q : Way). f.ends q ≡ true) (same_is q c s) d) x)
      by false s = x q (ends_first c f.ends h.ends q s d)

  then_local : IsLocal (then_part c f h)
  unfolding IsLocal
  then_local b k j x =
      ap (λ ss. ss ++ (if f.ends c then h.sites (b + f.size) k else [])) (lf b _ _ (front b k j x))
      ∙ ap (λ ss. f.sites b (onto c (entry h.begins (b + f.size) j) j) ++ ss) (by (f.ends c) refl)
    where
      by : (s : Bool) → f.ends c ≡ s → (if s then h.sites (b + f.size) k else []) ≡ (if s then h.sites (b + f.size) j else [])
      by true e = lh (b + f.size) k j (rear k j e x)
      by false e = refl

or_local : (f h : Piece) → IsLocal f → IsLocal h → IsLocal (or_part f h)
unfolding IsLocal
or_local f h lf lh b k j x =
    ap (λ ss. ss ++ h.sites (b + f.size) k) (lf b k j (λ q e. x q (rw e refl)))
    ∙ ap (λ ss. f.sites b j ++ ss) (lh (b + f.size) k j (λ q e. x q (rw e (or_true _))))

loop_local : (l : ℕ) (W : List Action → _ → Type 0) (f : Piece) → Fits W f → IsLocal f → IsLocal (loop_part l f)
unfolding IsLocal
loop_local l W f fw lf b k j x = lf b _ _ (λ q e. by q e (turn l q) refl)
  where
    by : (q : Way) → f.ends q ≡ true → (t : Turn) → turn l q ≡ t → inside_of t (entry (round l f.begins) b k) k ≡ inside_of t (entry (round l f.begins) b j) j
    by q e once_more t = same_entry _ (loop_part l f) (loop_fits l W f fw) b k j x
    by q e (out p) t = x p (last_ends l f.ends q p t e)
    by q e cut_off t = refl

leaving_local : (n : ℕ) (xs : List ℕ) (q : Way) → IsLocal (leaving_part n xs q)
unfolding IsLocal
leaving_local n [] q b k j x = refl
leaving_local n (y ∷ xs) q b k j x = then_local ahead _ _ (act_part (does n (Dead y))) (leaving_part n xs q) (act_fits (does n (Dead y))) (leaving_fits n xs q) (act_local (does n (Dead y))) (leaving_local n xs q) b k j x

part_local : (scope : Scope) (s : Order) → IsLocal (part scope s)
unfolding IsLocal
part_local scope order.nothing b k j x = refl
part_local scope order.nowhere b k j x = refl
part_local scope (order.act a) b k j x = act_local a b k j x
part_local scope (order.then s t) b k j x = then_local ahead _ _ _ _ (part_fits scope s) (part_fits scope t) (part_local scope s) (part_local scope t) b k j x
part_local scope (order.or s t) b k j x = or_local (part scope s) (part scope t) (part_local scope s) (part_local scope t) b k j x
part_local scope (order.leave y) b k j x = leaving_local (exit_node y) (left y scope) (exit_way y) b k j x
part_local scope order.fail b k j x = refl
part_local scope (order.otherwise s t) b k j x = then_local failing _ _ _ _ (part_fits scope s) (part_fits scope t) (part_local scope s) (part_local scope t) b k j x
part_local scope (order.ending n y s) b k j x =
    then_local ahead _ _ _ _ (then_fits failing _ _ _ _ (part_fits (Variable y ∷ scope) s) nowhere_fits) (act_fits (does n (Dead y)))
    (then_local failing _ _ _ _ (part_fits (Variable y ∷ scope) s) nowhere_fits (part_local (Variable y ∷ scope) s) nowhere_local) (act_local (does n (Dead y))) b k j x
part_local scope (order.passes l s) b k j x = loop_local l _ _ (part_fits (Looped l ∷ scope) s) (part_local (Looped l ∷ scope) s) b k j x

pub same_sites : (scope : Scope) (s : Order) (b : ℕ) (k j : Exits) → Agree (part scope s) k j → (part scope s).sites b k ≡ (part scope s).sites b j
unfolding IsLocal
same_sites scope s b k j x = part_local scope s b k j x
