-- A walk of a part, and the ends of variables at the jump that it leaves by, are a walk of the part in its scope; and back.
use Rattle.std.proofs.Common.{◌≡◌, ℕ, ◌==◌, List, [], ◌∷◌, ◌++◌, Bool, true, false, if◌then◌else◌, Option, Some, None, refl, sym, ap, ◌∙◌, subst, append_assoc}
use Rattle.std.proofs.lemmas.Bool.Decides.{Decides-eqb}
use Rattle.rx_lower_walks.specs.Actions.{Dead, Action, does}
use Rattle.rx_lower_walks.specs.Orders.{Exit, breaks, continues, returns, exit_node, Order}
use Rattle.rx_lower_walks.specs.Orders as order
use Rattle.rx_lower_walks.specs.Walks.{Out, on, leaves, fails, stopped, IsAway, DoesNotFail, Passed, by_end, by_continue, Left, by_break, by_outer_break, by_outer_continue, by_return, by_stop, Walk}
use Rattle.rx_lower_walks.specs.Walks as walk
use Rattle.rx_lower_walks.specs.Pieces.{Way, ahead, breaking, continuing, returning, failing, same, once_more, out, turn, exit_way, Scope, Variable, Looped, within, left}
use Rattle.rx_lower_walks.proofs.Fits.{append_nil, eqb_self, Rests, rests, Leads, not_yet, leads, Does, undone, halted, done}
use Rattle.rx_lower_walks.proofs.Sequences.{IsOther, Sequence, both, first}
use Rattle.rx_lower_walks.proofs.Choices.{one, other}
use Rattle.rx_lower_walks.proofs.Passes.{Passes, no_pass, halts, last, more}
use Rattle.rx_lower_walks.proofs.Scoped.{leaving, walks, part_fits, fronts}

abbrev pub way_of : Out → Option Way
way_of on = Some ahead
way_of (leaves j) = Some (exit_way j)
way_of fails = Some failing
way_of stopped = None

abbrev pub deaths : ℕ → List ℕ → List Action
deaths n [] = []
deaths n (x ∷ xs) = does n (Dead x) ∷ deaths n xs

-- what ends at the jump that a walk leaves by
abbrev pub deads : Scope → Out → List Action
deads scope (leaves j) = deaths (exit_node j) (left j scope)
deads scope _ = []

-- ---- numbers of loops

not_equal : (k l : ℕ) → (k ≡ l → ⊥) → (k == l) ≡ false
not_equal k l f = by (k == l) refl
  where
    by : (b : Bool) → (k == l) ≡ b → b ≡ false
    by true e = absurd (f ((Decides-eqb k l).0 e))
    by false e = refl

unequal : (k l : ℕ) → (k == l) ≡ false → k ≡ l → ⊥
unequal k l z e = cc (subst (λ (x : ℕ). (k == x) ≡ true) e (eqb_self k))

equal : (k l : ℕ) → k ≡ l → (k == l) ≡ true
equal k l e = subst (λ (x : ℕ). (k == x) ≡ true) e (eqb_self k)

own_loop : (n k l : ℕ) (scope : Scope) → (k == l) ≡ true → deaths n (within k (Looped l ∷ scope)) ≡ []
own_loop n k l scope e = rw e refl

outer_loop : (n k l : ℕ) (scope : Scope) → (k == l) ≡ false → deaths n (within k (Looped l ∷ scope)) ≡ deaths n (within k scope)
outer_loop n k l scope e = rw e refl

-- ---- forth

leaving_all : (n : ℕ) (xs : List ℕ) (q : Way) → leaving n xs q (deaths n xs) (Some q)
leaving_all n [] q = leads
leaving_all n (x ∷ xs) q = both done (leaving_all n xs q)

not_ahead : (o : Out) → IsAway o → IsOther ahead (way_of o)
not_ahead on a = absurd a
not_ahead (leaves (breaks n l)) a = refl
not_ahead (leaves (continues n l)) a = refl
not_ahead (leaves (returns n)) a = refl
not_ahead fails a = refl
not_ahead stopped a = tt

not_failing : (o : Out) → DoesNotFail o → IsOther failing (way_of o)
not_failing on a = refl
not_failing (leaves (breaks n l)) a = refl
not_failing (leaves (continues n l)) a = refl
not_failing (leaves (returns n)) a = refl
not_failing fails a = absurd a
not_failing stopped a = tt

-- a jump out of a variable's part ends it first
one_more : (j : Exit) (x : ℕ) (scope : Scope) → deads (Variable x ∷ scope) (leaves j) ≡ does (exit_node j) (Dead x) ∷ deads scope (leaves j)
one_more (breaks n l) x scope = refl
one_more (continues n l) x scope = refl
one_more (returns n) x scope = refl

last_forth : (scope : Scope) (l : ℕ) (s : Order) (us : List Action) (o p : Out) → Left l o p
    → ((zs : List Action) → zs ≡ us ++ deads (Looped l ∷ scope) o → walks (Looped l ∷ scope) s zs (way_of o))
    → (zs : List Action) → zs ≡ us ++ deads scope p → Passes l (walks (Looped l ∷ scope) s) zs (way_of p)
last_forth scope l s us o p (by_break {n = n} {k = k} e) f zs d =
    last {q = breaking k} (f zs (d ∙ ap (λ ds. us ++ ds) (sym (own_loop n k l scope (equal k l e))))) (rw (equal k l e) refl)
last_forth scope l s us o p (by_outer_break {n = n} {k = k} e) f zs d =
    last {q = breaking k} (f zs (d ∙ ap (λ ds. us ++ ds) (sym (outer_loop n k l scope (not_equal k l e))))) (rw (not_equal k l e) refl)
last_forth scope l s us o p (by_outer_continue {n = n} {k = k} e) f zs d =
    last {q = continuing k} (f zs (d ∙ ap (λ ds. us ++ ds) (sym (outer_loop n k l scope (not_equal k l e))))) (rw (not_equal k l e) refl)
last_forth scope l s us o p (by_return {n = n}) f zs d = last {q = returning} (f zs d) refl
last_forth scope l s us o p by_stop f zs d = halts (f zs d)

more_forth : (scope : Scope) (l : ℕ) (s : Order) (us vs : List Action) (o : Out) (e : Option Way) → Passed l o
    → ((zs : List Action) → zs ≡ us ++ deads (Looped l ∷ scope) o → walks (Looped l ∷ scope) s zs (way_of o))
    → Passes l (walks (Looped l ∷ scope) s) vs e → Passes l (walks (Looped l ∷ scope) s) (us ++ vs) e
more_forth scope l s us vs o e by_end f r = more {q = ahead} (f us (sym (append_nil us))) refl r
more_forth scope l s us vs o e (by_continue {n = n} {k = k} d) f r =
    more {q = continuing k} (f us (sym (append_nil us) ∙ ap (λ ds. us ++ ds) (sym (own_loop n k l scope (equal k l d))))) (rw (equal k l d) refl) r

pub forth : {s : Order} {us : List Action} {o : Out} → Walk s us o → (scope : Scope) (zs : List Action) → zs ≡ us ++ deads scope o → walks scope s zs (way_of o)
forth {s = s} walk.rests scope zs e = subst (λ zs. walks scope s zs None) (sym e) (part_fits scope s).rested
forth {s = s} (walk.stops {us = us} {o = o} h) scope zs e =
    fronts scope s zs (deads scope o) (us ++ deads scope o) (way_of o) (ap (λ us. us ++ deads scope o) (sym (e ∙ append_nil us))) (forth h scope (us ++ deads scope o) refl)
forth walk.nothing scope zs e = subst (λ zs. Leads ahead zs (Some ahead)) (sym e) leads
forth (walk.acts {a = a}) scope zs e = subst (λ zs. Does a zs (Some ahead)) (sym e) done
forth (walk.both {s = s} {t = t} {us = us} {vs = vs} {o = o} h k) scope zs e =
    subst (λ zs. walks scope (order.then s t) zs (way_of o)) (sym (e ∙ append_assoc us vs (deads scope o)))
    (both (forth h scope us (sym (append_nil us))) (forth k scope (vs ++ deads scope o) refl))
forth (walk.first {o = o} a h) scope zs e = first (forth h scope zs e) (not_ahead o a)
forth (walk.one h) scope zs e = one (forth h scope zs e)
forth (walk.other h) scope zs e = other (forth h scope zs e)
forth (walk.leave {x = x}) scope zs e =
    subst (λ zs. leaving (exit_node x) (left x scope) (exit_way x) zs (Some (exit_way x))) (sym e) (leaving_all (exit_node x) (left x scope) (exit_way x))
forth walk.fail scope zs e = subst (λ zs. Leads failing zs (Some failing)) (sym e) leads
forth (walk.holds {o = o} a h) scope zs e = first (forth h scope zs e) (not_failing o a)
forth (walk.next {s = s} {t = t} {us = us} {vs = vs} {o = o} h k) scope zs e =
    subst (λ zs. walks scope (order.otherwise s t) zs (way_of o)) (sym (e ∙ append_assoc us vs (deads scope o)))
    (both (forth h scope us (sym (append_nil us))) (forth k scope (vs ++ deads scope o) refl))
forth (walk.ends {s = s} {n = n} {x = x} {us = us} h) scope zs e =
    subst (λ zs. walks scope (order.ending n x s) zs (Some ahead)) (sym (e ∙ append_nil (us ++ does n (Dead x) ∷ [])))
    (both (first (forth h (Variable x ∷ scope) us (sym (append_nil us))) refl) done)
forth (walk.jumps {s = s} {n = n} {x = x} {us = us} {j = j} h) scope zs e =
    let d : zs ≡ us ++ deads (Variable x ∷ scope) (leaves j) =
    e ∙ append_assoc us (does (exit_node j) (Dead x) ∷ []) (deads scope (leaves j)) ∙ ap (λ ds. us ++ ds) (sym (one_more j x scope)) in
    first (first (forth h (Variable x ∷ scope) zs d) (not_failing (leaves j) tt)) (not_ahead (leaves j) tt)
forth (walk.halts {x = x} h) scope zs e = first (first (forth h (Variable x ∷ scope) zs e) tt) tt
forth (walk.last {s = s} {l = l} {us = us} {o = o} {p = p} h k) scope zs e = last_forth scope l s us o p k (λ zs d. forth h (Looped l ∷ scope) zs d) zs e
forth (walk.more {s = s} {l = l} {us = us} {vs = vs} {o = o} {p = p} h k r) scope zs e =
    subst (λ zs. walks scope (order.passes l s) zs (way_of p)) (sym (e ∙ append_assoc us vs (deads scope p)))
    (more_forth scope l s us (vs ++ deads scope p) o (way_of p) k (λ zs d. forth h (Looped l ∷ scope) zs d) (forth r scope (vs ++ deads scope p) refl))

-- ---- back

-- the walk behind one in its scope: of one that stops, what it may still do
pub data Back (scope : Scope) (s : Order) (us : List Action) : Option Way → Type 0 where
  full : {q : Way} (vs : List Action) (o : Out) → Walk s vs o → us ≡ vs ++ deads scope o → way_of o ≡ Some q → Back scope s us (Some q)
  partly : (vs zs : List Action) (o : Out) → Walk s vs o → us ++ zs ≡ vs ++ deads scope o → Back scope s us None

abbrev GoesBack : Scope → Order → Type 0
GoesBack scope s = (us : List Action) (e : Option Way) → walks scope s us e → Back scope s us e

went_on : {scope : Scope} {s : Order} {us : List Action} → Back scope s us (Some ahead) → Walk s us on
went_on {s = s} (full vs on h e d) = subst (λ us. Walk s us on) (sym (e ∙ append_nil vs)) h
went_on (full vs (leaves (breaks n l)) h e d) = absurd (cc)
went_on (full vs (leaves (continues n l)) h e d) = absurd (cc)
went_on (full vs (leaves (returns n)) h e d) = absurd (cc)
went_on (full vs fails h e d) = absurd (cc)
went_on (full vs stopped h e d) = absurd (cc)

has_failed : {scope : Scope} {s : Order} {us : List Action} → Back scope s us (Some failing) → Walk s us fails
has_failed (full vs on h e d) = absurd (cc)
has_failed (full vs (leaves (breaks n l)) h e d) = absurd (cc)
has_failed (full vs (leaves (continues n l)) h e d) = absurd (cc)
has_failed (full vs (leaves (returns n)) h e d) = absurd (cc)
has_failed {s = s} (full vs fails h e d) = subst (λ us. Walk s us fails) (sym (e ∙ append_nil vs)) h
has_failed (full vs stopped h e d) = absurd (cc)

-- a walk of one part, and what follows it
behind : {scope : Scope} {s t : Order} (us vs : List Action) {e : Option Way}
    → ((ws : List Action) (o : Out) → Walk t ws o → Walk s (us ++ ws) o) → Back scope t vs e → Back scope s (us ++ vs) e
behind {scope = scope} us vs f (full ws o h e d) = full (us ++ ws) o (f ws o h) (ap (λ vs. us ++ vs) e ∙ sym (append_assoc us ws (deads scope o))) d
behind {scope = scope} us vs f (partly ws zs o h e) = partly (us ++ ws) zs o (f ws o h) (append_assoc us vs zs ∙ ap (λ vs. us ++ vs) e ∙ sym (append_assoc us ws (deads scope o)))

first_back : {scope : Scope} {s t : Order} {us : List Action} {e : Option Way} → IsOther ahead e → Back scope s us e → Back scope (order.then s t) us e
first_back i (full vs on h e d) = absurd (let f : same ahead ahead ≡ false = subst (λ (e : Option Way). IsOther ahead e) (sym d) i in cc)
first_back i (full vs (leaves j) h e d) = full vs (leaves j) (walk.first tt h) e d
first_back i (full vs fails h e d) = full vs fails (walk.first tt h) e d
first_back i (full vs stopped h e d) = full vs stopped (walk.first tt h) e d
first_back i (partly vs zs on h e) = partly vs zs stopped (walk.first tt (walk.stops h)) e
first_back i (partly vs zs (leaves j) h e) = partly vs zs (leaves j) (walk.first tt h) e
first_back i (partly vs zs fails h e) = partly vs zs fails (walk.first tt h) e
first_back i (partly vs zs stopped h e) = partly vs zs stopped (walk.first tt h) e

then_back : (scope : Scope) (s t : Order) → GoesBack scope s → GoesBack scope t → GoesBack scope (order.then s t)
then_back scope s t f g us e (both {us = xs} {vs = ys} v w) = behind xs ys (λ ws o h. walk.both (went_on (f xs (Some ahead) v)) h) (g ys e w)
then_back scope s t f g us e (first v i) = first_back i (f us e v)

holds_back : {scope : Scope} {s t : Order} {us : List Action} {e : Option Way} → IsOther failing e → Back scope s us e → Back scope (order.otherwise s t) us e
holds_back i (full vs on h e d) = full vs on (walk.holds tt h) e d
holds_back i (full vs (leaves j) h e d) = full vs (leaves j) (walk.holds tt h) e d
holds_back i (full vs fails h e d) = absurd (let f : same failing failing ≡ false = subst (λ (e : Option Way). IsOther failing e) (sym d) i in cc)
holds_back i (full vs stopped h e d) = full vs stopped (walk.holds tt h) e d
holds_back i (partly vs zs on h e) = partly vs zs on (walk.holds tt h) e
holds_back i (partly vs zs (leaves j) h e) = partly vs zs (leaves j) (walk.holds tt h) e
holds_back i (partly vs zs fails h e) = partly vs zs stopped (walk.holds tt (walk.stops h)) e
holds_back i (partly vs zs stopped h e) = partly vs zs stopped (walk.holds tt h) e

otherwise_back : (scope : Scope) (s t : Order) → GoesBack scope s → GoesBack scope t → GoesBack scope (order.otherwise s t)
otherwise_back scope s t f g us e (both {us = xs} {vs = ys} v w) = behind xs ys (λ ws o h. walk.next (has_failed (f xs (Some failing) v)) h) (g ys e w)
otherwise_back scope s t f g us e (first v i) = holds_back i (f us e v)

alike : {scope : Scope} {s t : Order} {us : List Action} {e : Option Way} → ((ws : List Action) (o : Out) → Walk t ws o → Walk s ws o)
    → Back scope t us e → Back scope s us e
alike f (full ws o h e d) = full ws o (f ws o h) e d
alike f (partly ws zs o h e) = partly ws zs o (f ws o h) e

or_back : (scope : Scope) (s t : Order) → GoesBack scope s → GoesBack scope t → GoesBack scope (order.or s t)
or_back scope s t f g us e (one v) = alike (λ ws o h. walk.one h) (f us e v)
or_back scope s t f g us e (other w) = alike (λ ws o h. walk.other h) (g us e w)

data Dying (n : ℕ) (xs : List ℕ) (q : Way) (us : List Action) : Option Way → Type 0 where
  all : us ≡ deaths n xs → Dying n xs q us (Some q)
  some : (zs : List Action) → us ++ zs ≡ deaths n xs → Dying n xs q us None

none_dead : (n x : ℕ) (xs : List ℕ) (q : Way) (us : List Action) (e : Option Way) → Does (does n (Dead x)) us e → IsOther ahead e → Dying n (x ∷ xs) q us e
none_dead n x xs q us e undone i = some (deaths n (x ∷ xs)) refl
none_dead n x xs q us e halted i = some (deaths n xs) refl
none_dead n x xs q us e done i = absurd (cc)

one_dead : (n x : ℕ) (xs : List ℕ) (q : Way) (us vs : List Action) (e : Option Way) → Does (does n (Dead x)) us (Some ahead) → Dying n xs q vs e
    → Dying n (x ∷ xs) q (us ++ vs) e
one_dead n x xs q us vs e done (all d) = all (ap (λ vs. does n (Dead x) ∷ vs) d)
one_dead n x xs q us vs e done (some zs d) = some zs (ap (λ vs. does n (Dead x) ∷ vs) d)

dying : (n : ℕ) (xs : List ℕ) (q : Way) (us : List Action) (e : Option Way) → leaving n xs q us e → Dying n xs q us e
dying n [] q us e not_yet = some [] refl
dying n [] q us e leads = all refl
dying n (x ∷ xs) q us e (both {us = us'} {vs = vs} v w) = one_dead n x xs q us' vs e v (dying n xs q vs e w)
dying n (x ∷ xs) q us e (first v i) = none_dead n x xs q us e v i

leave_back : (scope : Scope) (x : Exit) (us : List Action) (e : Option Way) → Dying (exit_node x) (left x scope) (exit_way x) us e
    → Back scope (order.leave x) us e
leave_back scope x us e (all d) = full [] (leaves x) walk.leave d refl
leave_back scope x us e (some zs d) = partly [] zs (leaves x) walk.leave d

-- a walk of a variable's part that doesn't go on
jump_back : {scope : Scope} {n x : ℕ} {s : Order} {us : List Action} {e : Option Way} → IsOther ahead e → IsOther failing e
    → Back (Variable x ∷ scope) s us e → Back scope (order.ending n x s) us e
jump_back i k (full vs on h e d) = absurd (let f : same ahead ahead ≡ false = subst (λ (e : Option Way). IsOther ahead e) (sym d) i in cc)
jump_back {scope = scope} {x = x} i k (full vs (leaves j) h e d) =
    full (vs ++ does (exit_node j) (Dead x) ∷ []) (leaves j) (walk.jumps h)
    (e ∙ ap (λ ds. vs ++ ds) (one_more j x scope) ∙ sym (append_assoc vs (does (exit_node j) (Dead x) ∷ []) (deads scope (leaves j)))) d
jump_back i k (full vs fails h e d) = absurd (let f : same failing failing ≡ false = subst (λ (e : Option Way). IsOther failing e) (sym d) k in cc)
jump_back i k (full vs stopped h e d) = absurd (cc)
jump_back i k (partly vs zs on h e) = partly vs zs stopped (walk.halts (walk.stops h)) e
jump_back {scope = scope} {x = x} i k (partly vs zs (leaves j) h e) =
    partly (vs ++ does (exit_node j) (Dead x) ∷ []) zs (leaves j) (walk.jumps h)
    (e ∙ ap (λ ds. vs ++ ds) (one_more j x scope) ∙ sym (append_assoc vs (does (exit_node j) (Dead x) ∷ []) (deads scope (leaves j))))
jump_back i k (partly vs zs fails h e) = partly vs zs stopped (walk.halts (walk.stops h)) e
jump_back i k (partly vs zs stopped h e) = partly vs zs stopped (walk.halts h) e

end_back : {scope : Scope} {n x : ℕ} {s : Order} (us vs : List Action) (e : Option Way) → Walk s us on → Does (does n (Dead x)) vs e
    → Back scope (order.ending n x s) (us ++ vs) e
end_back us vs e h undone = partly us [] stopped (walk.halts (walk.stops h)) (append_nil (us ++ []))
end_back {n = n} {x = x} us vs e h halted = partly (us ++ does n (Dead x) ∷ []) [] on (walk.ends h) refl
end_back {n = n} {x = x} us vs e h done = full (us ++ does n (Dead x) ∷ []) on (walk.ends h) (sym (append_nil (us ++ does n (Dead x) ∷ []))) refl

-- where a test in a variable's part fails, it goes no further
fail_back : {scope : Scope} {n x : ℕ} {s : Order} (us vs : List Action) (e : Option Way) → Walk s us fails → Rests vs e
    → Back scope (order.ending n x s) (us ++ vs) e
fail_back us vs e h rests = partly us [] stopped (walk.halts (walk.stops h)) (append_nil (us ++ []))

ending_on : (W : List Action → Option Way → Type 0) (us : List Action) → Sequence failing W Rests us (Some ahead) → W us (Some ahead)
ending_on W us (both v r) = elim r [ ]
ending_on W us (first v i) = v

ending_away : (scope : Scope) (n x : ℕ) (s : Order) → GoesBack (Variable x ∷ scope) s → (us : List Action) (e : Option Way)
    → Sequence failing (walks (Variable x ∷ scope) s) Rests us e → IsOther ahead e → Back scope (order.ending n x s) us e
ending_away scope n x s f us e (both {us = xs} {vs = ys} v r) i = fail_back xs ys e (has_failed (f xs (Some failing) v)) r
ending_away scope n x s f us e (first v k) i = jump_back i k (f us e v)

ending_back : (scope : Scope) (n x : ℕ) (s : Order) → GoesBack (Variable x ∷ scope) s → GoesBack scope (order.ending n x s)
ending_back scope n x s f us e (both {us = xs} {vs = ys} v w) = end_back xs ys e (went_on (f xs (Some ahead) (ending_on _ xs v))) w
ending_back scope n x s f us e (first v i) = ending_away scope n x s f us e v i

-- a walk of a pass, as one of its loop that stops
stop_back : {scope : Scope} {l : ℕ} {s : Order} {us : List Action} (vs zs : List Action) (o : Out) → Walk s vs o
    → us ++ zs ≡ vs ++ deads (Looped l ∷ scope) o → Back scope (order.passes l s) us None
stop_back vs zs on h e = partly vs zs stopped (walk.last (walk.stops h) by_stop) e
stop_back {scope = scope} {l = l} {s = s} {us = us} vs zs (leaves (breaks n k)) h e = by (k == l) refl
  where
    by : (b : Bool) → (k == l) ≡ b → Back scope (order.passes l s) us None
    by true d = partly vs zs stopped (walk.last (walk.stops h) by_stop) (e ∙ ap (λ ds. vs ++ ds) (own_loop n k l scope d))
    by false d = partly vs zs (leaves (breaks n k)) (walk.last h (by_outer_break (unequal k l d))) (e ∙ ap (λ ds. vs ++ ds) (outer_loop n k l scope d))
stop_back {scope = scope} {l = l} {s = s} {us = us} vs zs (leaves (continues n k)) h e = by (k == l) refl
  where
    by : (b : Bool) → (k == l) ≡ b → Back scope (order.passes l s) us None
    by true d = partly vs zs stopped (walk.last (walk.stops h) by_stop) (e ∙ ap (λ ds. vs ++ ds) (own_loop n k l scope d))
    by false d = partly vs zs (leaves (continues n k)) (walk.last h (by_outer_continue (unequal k l d))) (e ∙ ap (λ ds. vs ++ ds) (outer_loop n k l scope d))
stop_back vs zs (leaves (returns n)) h e = partly vs zs (leaves (returns n)) (walk.last h by_return) e
stop_back vs zs fails h e = partly vs zs stopped (walk.last (walk.stops h) by_stop) e
stop_back vs zs stopped h e = partly vs zs stopped (walk.last h by_stop) e

halts_back : {scope : Scope} {l : ℕ} {s : Order} {us : List Action} {e : Option Way} → Back (Looped l ∷ scope) s us e → Back scope (order.passes l s) us None
halts_back {us = us} (full vs o h e d) = stop_back vs [] o h (append_nil us ∙ e)
halts_back (partly vs zs o h e) = stop_back vs zs o h e

some_is : {q p : Way} → Some q ≡ Some p → q ≡ p
some_is e = cc

-- the last pass
last_back : {scope : Scope} {l : ℕ} {s : Order} {us : List Action} (q p : Way) → turn l q ≡ out p → Back (Looped l ∷ scope) s us (Some q)
    → Back scope (order.passes l s) us (Some p)
last_back q p t (full vs on h e d) = absurd (let f : q ≡ ahead = sym (some_is d) in cc)
last_back {scope = scope} {l = l} {s = s} {us = us} q p t (full vs (leaves (breaks n k)) h e d) = by (k == l) refl (subst (λ (q : Way). turn l q ≡ out p) (sym (some_is d)) t)
  where
    by : (b : Bool) → (k == l) ≡ b → (if b then out ahead else out (breaking k)) ≡ out p → Back scope (order.passes l s) us (Some p)
    by true c r = full vs on (walk.last h (by_break ((Decides-eqb k l).0 c))) (e ∙ ap (λ ds. vs ++ ds) (own_loop n k l scope c)) (let f : ahead ≡ p = cc in ap (λ p. Some p) f)
    by false c r = full vs (leaves (breaks n k)) (walk.last h (by_outer_break (unequal k l c))) (e ∙ ap (λ ds. vs ++ ds) (outer_loop n k l scope c)) (let f : breaking k ≡ p = cc in ap (λ p. Some p) f)
last_back {scope = scope} {l = l} {s = s} {us = us} q p t (full vs (leaves (continues n k)) h e d) = by (k == l) refl (subst (λ (q : Way). turn l q ≡ out p) (sym (some_is d)) t)
  where
    by : (b : Bool) → (k == l) ≡ b → (if b then once_more else out (continuing k)) ≡ out p → Back scope (order.passes l s) us (Some p)
    by true c r = absurd (cc)
    by false c r = full vs (leaves (continues n k)) (walk.last h (by_outer_continue (unequal k l c))) (e ∙ ap (λ ds. vs ++ ds) (outer_loop n k l scope c)) (let f : continuing k ≡ p = cc in ap (λ p. Some p) f)
last_back {l = l} q p t (full vs (leaves (returns n)) h e d) =
    let r : turn l returning ≡ out p = subst (λ (q : Way). turn l q ≡ out p) (sym (some_is d)) t in
    full vs (leaves (returns n)) (walk.last h by_return) e (let f : returning ≡ p = cc in ap (λ p. Some p) f)
last_back {l = l} q p t (full vs fails h e d) = absurd (let r : turn l failing ≡ out p = subst (λ (q : Way). turn l q ≡ out p) (sym (some_is d)) t in cc)
last_back q p t (full vs stopped h e d) = absurd (cc)

-- a pass before others
data Pass (l : ℕ) (s : Order) (us : List Action) : Type 0 where
  pass : (o : Out) → Walk s us o → Passed l o → Pass l s us

passed_back : {scope : Scope} {l : ℕ} {s : Order} {us : List Action} (q : Way) → turn l q ≡ once_more → Back (Looped l ∷ scope) s us (Some q) → Pass l s us
passed_back {s = s} q t (full vs on h e d) = pass on (subst (λ us. Walk s us on) (sym (e ∙ append_nil vs)) h) by_end
passed_back {scope = scope} {l = l} {s = s} {us = us} q t (full vs (leaves (breaks n k)) h e d) = by (k == l) (subst (λ (q : Way). turn l q ≡ once_more) (sym (some_is d)) t)
  where
    by : (b : Bool) → (if b then out ahead else out (breaking k)) ≡ once_more → Pass l s us
    by true r = absurd (cc)
    by false r = absurd (cc)
passed_back {scope = scope} {l = l} {s = s} {us = us} q t (full vs (leaves (continues n k)) h e d) = by (k == l) refl (subst (λ (q : Way). turn l q ≡ once_more) (sym (some_is d)) t)
  where
    by : (b : Bool) → (k == l) ≡ b → (if b then once_more else out (continuing k)) ≡ once_more → Pass l s us
    by true c r = pass (leaves (continues n k)) (subst (λ us. Walk s us (leaves (continues n k))) (sym (e ∙ ap (λ ds. vs ++ ds) (own_loop n k l scope c) ∙ append_nil vs)) h) (by_continue ((Decides-eqb k l).0 c))
    by false c r = absurd (cc)
passed_back {l = l} q t (full vs (leaves (returns n)) h e d) = absurd (let r : turn l returning ≡ once_more = subst (λ (q : Way). turn l q ≡ once_more) (sym (some_is d)) t in cc)
passed_back {l = l} q t (full vs fails h e d) = absurd (let r : turn l failing ≡ once_more = subst (λ (q : Way). turn l q ≡ once_more) (sym (some_is d)) t in cc)
passed_back q t (full vs stopped h e d) = absurd (cc)

pass_then : {scope : Scope} {l : ℕ} {s : Order} (us vs : List Action) (e : Option Way) → Pass l s us → Back scope (order.passes l s) vs e
    → Back scope (order.passes l s) (us ++ vs) e
pass_then us vs e (pass o h k) b = behind us vs (λ ws p r. walk.more h k r) b

passes_back : (scope : Scope) (l : ℕ) (s : Order) → GoesBack (Looped l ∷ scope) s → GoesBack scope (order.passes l s)
passes_back scope l s f us e no_pass = partly [] [] stopped walk.rests refl
passes_back scope l s f us e (halts {e = o} w) = halts_back (f us o w)
passes_back scope l s f us e (last {q = q} {p = p} w t) = last_back q p t (f us (Some q) w)
passes_back scope l s f us e (more {us = xs} {vs = ys} {q = q} w t r) = pass_then xs ys e (passed_back q t (f xs (Some q) w)) (passes_back scope l s f ys e r)

leads_back : (scope : Scope) (s : Order) (p : Way) (o : Out) (us : List Action) (e : Option Way) → Walk s [] o → deads scope o ≡ []
    → way_of o ≡ Some p → Leads p us e → Back scope s us e
leads_back scope s p o us e h d w not_yet = partly [] [] o h (sym d)
leads_back scope s p o us e h d w leads = full [] o h (sym d) w

act_back : (scope : Scope) (a : Action) → GoesBack scope (order.act a)
act_back scope a us e undone = partly [] [] stopped walk.rests refl
act_back scope a us e halted = partly (a ∷ []) [] on walk.acts refl
act_back scope a us e done = full (a ∷ []) on walk.acts refl refl

nowhere_back : (scope : Scope) → GoesBack scope order.nowhere
nowhere_back scope us e rests = partly [] [] stopped walk.rests refl

pub back : (scope : Scope) (s : Order) → GoesBack scope s
back scope order.nothing us e w = leads_back scope order.nothing ahead on us e walk.nothing refl refl w
back scope order.nowhere us e w = nowhere_back scope us e w
back scope (order.act a) us e w = act_back scope a us e w
back scope (order.then s t) us e w = then_back scope s t (back scope s) (back scope t) us e w
back scope (order.or s t) us e w = or_back scope s t (back scope s) (back scope t) us e w
back scope (order.leave x) us e w = leave_back scope x us e (dying (exit_node x) (left x scope) (exit_way x) us e w)
back scope order.fail us e w = leads_back scope order.fail failing fails us e walk.fail refl refl w
back scope (order.otherwise s t) us e w = otherwise_back scope s t (back scope s) (back scope t) us e w
back scope (order.ending n x s) us e w = ending_back scope n x s (back (Variable x ∷ scope) s) us e w
back scope (order.passes l s) us e w = passes_back scope l s (back (Looped l ∷ scope) s) us e w
