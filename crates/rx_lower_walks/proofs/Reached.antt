-- Some path comes to each site.
use Rattle.std.proofs.Common.{◌≡◌, ℕ, ◌+◌, ◌==◌, ◌<◌, ◌≤◌, List, [], ◌∷◌, Bool, true, false, not, ◌&&◌, ◌||◌, if◌then◌else◌, Option, Some, refl, sym, subst, arith, ◌⊎◌, inl, inr}
use Rattle.std.proofs.lemmas.Bool.Decides.{leb_tells}
use Rattle.rx_lower_walks.specs.Actions.{Dead, Action, does}
use Rattle.rx_lower_walks.specs.Orders.{exit_node, Order}
use Rattle.rx_lower_walks.specs.Orders as order
use Rattle.rx_lower_walks.specs.Walks.{Among, here}
use Rattle.rx_lower_walks.specs.Graph.{Site, site_at, Comes, at_hand, along}
use Rattle.rx_lower_walks.specs.Pieces.{Way, ahead, breaking, continuing, returning, failing, exit_way, same, once_more, out, turn, Scope, Variable, Looped, left, Exits, entry, Piece, nowhere_part, leads_part, distinct, act_part, moved, then_begins, then_ends, onto, then_part, or_part, round, inside, passes_out, loop_ends, loop_part, leaving_part, part}
use Rattle.rx_lower_walks.proofs.Fits.{among_front, to_distinct, HasAt, has_front, has_back, eqb_self, same_is, Fits, nowhere_fits, act_fits}
use Rattle.rx_lower_walks.proofs.Sequences.{first_entry, onto_same, onto_other, taken, then_fits}
use Rattle.rx_lower_walks.proofs.Choices.{one_entry, other_entry}
use Rattle.rx_lower_walks.proofs.Passes.{pass_entry, turned_inside}
use Rattle.rx_lower_walks.proofs.Scoped.{leaving_fits, part_fits}

pub record Reach (f : Piece) : Type 0 where
  pub leads_on : (g : List Site) (b : ℕ) (k : Exits) → HasAt g b (f.sites b k) → (q : Way) → f.ends q ≡ true → (i : ℕ) → Comes g (k q) i
      → Comes g (entry f.begins b k) i
  pub holds : (g : List Site) (b : ℕ) (k : Exits) → HasAt g b (f.sites b k) → (i : ℕ) → b ≤ i → i < b + f.size → Comes g (entry f.begins b k) i

pub comes_among : (g : List Site) (ps qs : List ℕ) (i : ℕ) → ((p : ℕ) → Among p ps → Among p qs) → Comes g ps i → Comes g qs i
comes_among g ps qs i m (at_hand a) = at_hand (m i a)
comes_among g ps qs i m (along p s a e c) = along p s (m p a) e c

nowhere_reach : Reach nowhere_part
nowhere_reach = record {
  leads_on = λ g b k has q e i c. absurd (cc);
  holds = λ g b k has i le lt. absurd (omega arith);
}

leads_reach : (p : Way) → Reach (leads_part p)
leads_reach p = record {
  leads_on = λ g b k has q e i c. comes_among g (k p) _ i (λ r m. among_front (k p) [] m) (subst (λ (q : Way). Comes g (k q) i) (same_is q p e) c);
  holds = λ g b k has i le lt. absurd (omega arith);
}

act_reach : (a : Action) → Reach (act_part a)
act_reach a = record {
  leads_on = λ g b k has q e i c. leads_on g b k has.0 i (subst (λ (q : Way). Comes g (k q) i) (same_is q ahead e) c);
  holds = λ g b k has i le lt. holds g b i (omega arith);
}
  where
    leads_on : (g : List Site) (b : ℕ) (k : Exits) → site_at g b ≡ Some (record { action = a; next = distinct (k ahead) }) → (i : ℕ)
        → Comes g (k ahead) i → Comes g ((b + 0) ∷ []) i
    leads_on g b k at i c =
        let z : b ≡ b + 0 = omega arith in
        along (b + 0) (record { action = a; next = distinct (k ahead) }) here (subst (λ n. site_at g n ≡ Some (record { action = a; next = distinct (k ahead) })) z at)
        (comes_among g (k ahead) _ i (λ r m. to_distinct (k ahead) r m) c)

    holds : (g : List Site) (b i : ℕ) → b + 0 ≡ i → Comes g ((b + 0) ∷ []) i
    holds g b i e = subst (λ i. Comes g ((b + 0) ∷ []) i) e (at_hand here)

both_true : (a b : Bool) → (a && b) ≡ true → (a ≡ true) × (b ≡ true)
both_true true b e = (refl, e)
both_true false b e = absurd (cc)

either_true : (a b : Bool) → (a || b) ≡ true → (a ≡ true) ⊎ (b ≡ true)
either_true true b e = inl refl
either_true false b e = inr e

not_true : (b : Bool) → not b ≡ true → b ≡ false
not_true true e = absurd (cc)
not_true false e = refl

then_either : (c : Way) (f h : Way → Bool) (q : Way) → then_ends c f h q ≡ true → ((f q ≡ true) × (same q c ≡ false)) ⊎ ((f c ≡ true) × (h q ≡ true))
then_either c f h q e = elim (either_true _ _ e) [ inl x ↦ inl (let p = both_true _ _ x in (p.1, not_true _ p.0)) | inr x ↦ inr (both_true _ _ x) ]

below_or : (i n : ℕ) → (i < n) ⊎ (n ≤ i)
below_or i n = elim (leb_tells n i) [ inl x ↦ inr x.1 | inr x ↦ inl x.1 ]

module _ (c : Way) (V W : List Action → Option Way → Type 0) (f h : Piece) (fv : Fits V f) (hw : Fits W h) (rf : Reach f) (rh : Reach h) where
  abbrev mid : ℕ → Exits → Exits
  mid b k = onto c (entry h.begins (b + f.size) k) k

  front : (g : List Site) (b : ℕ) (k : Exits) → HasAt g b ((then_part c f h).sites b k) → HasAt g b (f.sites b (mid b k))
  front g b k has = has_front g b (f.sites b (mid b k)) _ has

  rear : (g : List Site) (b : ℕ) (k : Exits) → f.ends c ≡ true → HasAt g b ((then_part c f h).sites b k) → HasAt g (b + f.size) (h.sites (b + f.size) k)
  rear g b k e has = taken (f.ends c) _ g _ e (has_back g b (b + f.size) (f.sites b (mid b k)) _ (omega (arith, fv.long b (mid b k))) has)

  to_whole : (g : List Site) (b : ℕ) (k : Exits) (i : ℕ) → Comes g (entry f.begins b (mid b k)) i
      → Comes g (entry (then_begins c f.begins (moved f.size h.begins)) b k) i
  to_whole g b k i m = comes_among g _ _ i (first_entry c f.begins h.begins f.size b k) m

  joins : (g : List Site) (b : ℕ) (k : Exits) → HasAt g b ((then_part c f h).sites b k) → (i : ℕ) → f.ends c ≡ true
      → Comes g (entry h.begins (b + f.size) k) i → Comes g (entry f.begins b (mid b k)) i
  joins g b k has i e m = rf.leads_on g b _ (front g b k has) c e i (subst (λ (ps : List ℕ). Comes g ps i) (sym (onto_same c (entry h.begins (b + f.size) k) k)) m)

  leads_either : (g : List Site) (b : ℕ) (k : Exits) → HasAt g b ((then_part c f h).sites b k) → (q : Way) (i : ℕ) → Comes g (k q) i
      → ((f.ends q ≡ true) × (same q c ≡ false)) ⊎ ((f.ends c ≡ true) × (h.ends q ≡ true)) → Comes g (entry f.begins b (mid b k)) i
  leads_either g b k has q i m (inl x) = rf.leads_on g b _ (front g b k has) q x.0 i (subst (λ (ps : List ℕ). Comes g ps i) (sym (onto_other c q (entry h.begins (b + f.size) k) k x.1)) m)
  leads_either g b k has q i m (inr x) = joins g b k has i x.0 (rh.leads_on g (b + f.size) k (rear g b k x.0 has) q x.1 i m)

  behind : (g : List Site) (b : ℕ) (k : Exits) → HasAt g b ((then_part c f h).sites b k) → (i : ℕ) → f.ends c ≡ true → b + f.size ≤ i
      → i < b + f.size + h.size → Comes g (entry f.begins b (mid b k)) i
  behind g b k has i e le lt = joins g b k has i e (rh.holds g (b + f.size) k (rear g b k e has) i le lt)

  holds_either : (g : List Site) (b : ℕ) (k : Exits) → HasAt g b ((then_part c f h).sites b k) → (i : ℕ) → b ≤ i → (s : Bool) → f.ends c ≡ s
      → i < b + (f.size + (if s then h.size else 0)) → Comes g (entry f.begins b (mid b k)) i
  holds_either g b k has i le false e lt = rf.holds g b _ (front g b k has) i le (omega arith)
  holds_either g b k has i le true e lt = elim (below_or i (b + f.size)) [ inl x ↦ rf.holds g b _ (front g b k has) i le x | inr x ↦ behind g b k has i e x (omega arith) ]

  then_reach : Reach (then_part c f h)
  then_reach = record {
    leads_on = λ g b k has q e i m. to_whole g b k i (leads_either g b k has q i m (then_either c f.ends h.ends q e));
    holds = λ g b k has i le lt. to_whole g b k i (holds_either g b k has i le (f.ends c) refl lt);
  }

module _ (V W : List Action → Option Way → Type 0) (f h : Piece) (fv : Fits V f) (hw : Fits W h) (rf : Reach f) (rh : Reach h) where
  to_one : (g : List Site) (b : ℕ) (k : Exits) (i : ℕ) → Comes g (entry f.begins b k) i → Comes g (entry (or_part f h).begins b k) i
  to_one g b k i m = comes_among g _ _ i (one_entry f.begins (moved f.size h.begins) b k) m

  to_other : (g : List Site) (b : ℕ) (k : Exits) (i : ℕ) → Comes g (entry h.begins (b + f.size) k) i → Comes g (entry (or_part f h).begins b k) i
  to_other g b k i m = comes_among g _ _ i (other_entry f.begins h.begins f.size b k) m

  or_front : (g : List Site) (b : ℕ) (k : Exits) → HasAt g b ((or_part f h).sites b k) → HasAt g b (f.sites b k)
  or_front g b k has = has_front g b (f.sites b k) _ has

  or_rear : (g : List Site) (b : ℕ) (k : Exits) → HasAt g b ((or_part f h).sites b k) → HasAt g (b + f.size) (h.sites (b + f.size) k)
  or_rear g b k has = has_back g b (b + f.size) (f.sites b k) _ (omega (arith, fv.long b k)) has

  or_reach : Reach (or_part f h)
  or_reach = record {
    leads_on = λ g b k has q e i c. elim (either_true _ _ e) [ inl x ↦ to_one g b k i (rf.leads_on g b k (or_front g b k has) q x i c) | inr x ↦ to_other g b k i (rh.leads_on g (b + f.size) k (or_rear g b k has) q x i c) ];
    holds = λ g b k has i le lt. elim (below_or i (b + f.size)) [ inl x ↦ to_one g b k i (rf.holds g b k (or_front g b k has) i le x) | inr x ↦ to_other g b k i (rh.holds g (b + f.size) k (or_rear g b k has) i x (omega arith)) ];
  }

-- a way of a loop is that of some pass
data Left (l : ℕ) (f : Way → Bool) (q : Way) : Type 0 where
  by_pass : (x : Way) → f x ≡ true → turn l x ≡ out q → Left l f q

loop_left : (l : ℕ) (f : Way → Bool) (q : Way) → loop_ends l f q ≡ true → Left l f q
loop_left l f ahead e = by_pass (breaking l) e (rw (eqb_self l) refl)
loop_left l f (breaking m) e = let p = both_true _ _ e in by_pass (breaking m) p.1 (by (m == l) p.0)
  where
    by : (c : Bool) → passes_out (if c then out ahead else out (breaking m)) ≡ true → (if c then out ahead else out (breaking m)) ≡ out (breaking m)
    by true d = absurd (cc)
    by false d = refl
loop_left l f (continuing m) e = let p = both_true _ _ e in by_pass (continuing m) p.1 (by (m == l) p.0)
  where
    by : (c : Bool) → passes_out (if c then once_more else out (continuing m)) ≡ true → (if c then once_more else out (continuing m)) ≡ out (continuing m)
    by true d = absurd (cc)
    by false d = refl
loop_left l f returning e = by_pass returning e refl
loop_left l f failing e = absurd (cc)

loop_reach : (l : ℕ) (f : Piece) → Reach f → Reach (loop_part l f)
loop_reach l f rf = record {
  leads_on = λ g b k has q e i c. of_pass g b k has q i c (loop_left l f.ends q e);
  holds = λ g b k has i le lt. comes_among g _ _ i (pass_entry l f.begins b k) (rf.holds g b (inside l (entry (round l f.begins) b k) k) has i le lt);
}
  where
    of_pass : (g : List Site) (b : ℕ) (k : Exits) → HasAt g b ((loop_part l f).sites b k) → (q : Way) (i : ℕ) → Comes g (k q) i → Left l f.ends q
        → Comes g (entry (round l f.begins) b k) i
    of_pass g b k has q i c (by_pass x e t) =
        let at : inside l (entry (round l f.begins) b k) k x ≡ k q = turned_inside l (entry (round l f.begins) b k) k x (out q) t in
        comes_among g _ _ i (pass_entry l f.begins b k) (rf.leads_on g b (inside l (entry (round l f.begins) b k) k) has x e i (subst (λ (ps : List ℕ). Comes g ps i) (sym at) c))

pub leaving_reach : (n : ℕ) (xs : List ℕ) (q : Way) → Reach (leaving_part n xs q)
leaving_reach n [] q = leads_reach q
leaving_reach n (x ∷ xs) q = then_reach ahead _ _ _ _ (act_fits (does n (Dead x))) (leaving_fits n xs q) (act_reach (does n (Dead x))) (leaving_reach n xs q)

pub part_reach : (scope : Scope) (s : Order) → Reach (part scope s)
part_reach scope order.nothing = leads_reach ahead
part_reach scope order.nowhere = nowhere_reach
part_reach scope (order.act a) = act_reach a
part_reach scope (order.then s t) = then_reach ahead _ _ _ _ (part_fits scope s) (part_fits scope t) (part_reach scope s) (part_reach scope t)
part_reach scope (order.or s t) = or_reach _ _ _ _ (part_fits scope s) (part_fits scope t) (part_reach scope s) (part_reach scope t)
part_reach scope (order.leave x) = leaving_reach (exit_node x) (left x scope) (exit_way x)
part_reach scope order.fail = leads_reach failing
part_reach scope (order.otherwise s t) = then_reach failing _ _ _ _ (part_fits scope s) (part_fits scope t) (part_reach scope s) (part_reach scope t)
part_reach scope (order.ending n x s) =
    then_reach ahead _ _ _ _ (then_fits failing _ _ _ _ (part_fits (Variable x ∷ scope) s) nowhere_fits) (act_fits (does n (Dead x)))
    (then_reach failing _ _ _ _ (part_fits (Variable x ∷ scope) s) nowhere_fits (part_reach (Variable x ∷ scope) s) nowhere_reach) (act_reach (does n (Dead x)))
part_reach scope (order.passes l s) = loop_reach l _ (part_reach (Looped l ∷ scope) s)
