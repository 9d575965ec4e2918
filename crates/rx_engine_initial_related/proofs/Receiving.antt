-- What the call gives is received in variables of its own, each declared and written.
use Rattle.std.proofs.Common.{◌≡◌, ℕ, Bool, List, [], ◌∷◌, ◌++◌, map, Some, None, refl, sym, ◌∙◌, subst}
use Rattle.rx_core.specs.declared.types.Step.{Step}
use Rattle.rx_core.specs.declared.types.Step.TheVariants as step
use Rattle.rx_typed.specs.Tree.{Temporary, Subpatterns, no_part, part_and, bind, by_value, own}
use Rattle.rx_lower_walks.specs.Matching.{Binding, bindings_in}
use Rattle.rx_lower_walks.specs.Actions.{Declare, Write, Action, does, in_temporary}
use Rattle.rx_lower_walks.specs.Walks.{Among, here, there}
use Rattle.rx_exits_plan.specs.Points.{Exit}
use Rattle.rx_exits_plan.specs.Plan.{Plan}
use Rattle.rx_engine_simulation.specs.Sights.{special, Sight, sight, Renaming, sight_of, IsNew}
use Rattle.rx_engine_simulation.specs.Packing as packing
use Rattle.rx_engine_simulation.specs.Packing.{receives_none, receives_and}
use Rattle.rx_engine_simulation.specs.Handing.{Receiving, received_none, received_and}
use Rattle.rx_engine_initial.specs.Variables.{Sides, KnownVariables}
use Rattle.rx_engine_initial.proofs.Uses.{none_is}
use Rattle.rx_engine_initial_calls.specs.Received.{Receives, receives_one}
use Rattle.rx_engine_initial_forms.specs.Agreeing.{Agrees}
use Rattle.rx_engine_initial_related.proofs.Scope.{AllSlots, Injective, first, further, earlier, injective_more, new_here}
use Rattle.rx_engine_initial_related.proofs.Acts.{Bound, bound_none, bound_and}
use Rattle.rx_engine_initial_related.proofs.Arguments.{one_more_leaves}
use Rattle.rx_engine_initial_related.proofs.Coming.{Comes, comes_none, comes_both, comes_written, none_left}

abbrev pub Sub : List ℕ → List ℕ → Type 0
Sub os hs = (z : ℕ) → Among z os → Among z hs

-- variables of the text with those of the answer that hold them, each once
abbrev pub Held : Renaming → List ℕ → List ℕ → Type 0
Held N [] [] = Unit {0}
Held N (x ∷ xs) (o ∷ os) = (sight_of N x ≡ Some (sight o special)) × ((Among x xs → ⊥) × ((Among o os → ⊥) × Held N xs os))
Held N _ _ = ⊥

pub held_further : (N : Renaming) (x : ℕ) (s : Sight) (xs os : List ℕ) → (Among x xs → ⊥) → Held N xs os → Held ((x, s) ∷ N) xs os
held_further N x s [] [] n h = tt
held_further N x s [] (o ∷ os) n h = h
held_further N x s (z ∷ xs) [] n h = h
held_further N x s (z ∷ xs) (o ∷ os) n h =
    (further N x s z (λ (q : z ≡ x). n (subst (λ v. Among x (v ∷ xs)) (sym q) here)) ∙ h.0, (h.1.0, (h.1.1.0, held_further N x s xs os (λ i. n (there i)) h.1.1.1)))

record Kept (N : Renaming) (xs os : List ℕ) (z : ℕ) (s : Sight) : Type 0 where
  is : sight_of N z ≡ Some s
  no_more : Among z xs → ⊥
  apart : Among s.to os → ⊥

pub not_first : (z x : ℕ) (xs : List ℕ) → (z ≡ x → ⊥) → (Among z xs → ⊥) → Among z (x ∷ xs) → ⊥
not_first z _ xs n m here = n refl
not_first z x xs n m (there i) = m i

other_than : (N : Renaming) (x z : ℕ) (s : Sight) → sight_of N x ≡ None → sight_of N z ≡ Some s → z ≡ x → ⊥
other_than N x z s none h e = none_is (sym none ∙ subst (λ v. sight_of N v ≡ Some s) e h)

-- what was had before is had still, and is none of these
kept : {R N M : Renaming} {xs os : List ℕ} → Receiving R N xs os M → (z : ℕ) (s : Sight) → sight_of N z ≡ Some s → Kept M xs os z s
kept received_none z s h = record { is = h; no_more = λ i. elim i [ ]; apart = λ i. elim i [ ] }
kept {N = N} (received_and {x = x} {o = o} {xs = xs} {os = os} none n j r) z s h = by (kept r z s (further N x (sight o special) z (other_than N x z s none h) ∙ h))
  where
    by : {L : Renaming} → Kept L xs os z s → Kept L (x ∷ xs) (o ∷ os) z s
    by q = record { is = q.is; no_more = not_first z x xs (other_than N x z s none h) q.no_more; apart = not_first s.to o os (j z s h) q.apart }

module _ (S : Sides) (k : Plan) (e : Exit) (agains : List ℕ) (R : Renaming) (K : KnownVariables S) (g : Agrees S R K) (all : AllSlots R) where
  -- ---- parts of what is given

  pub record Got (t : Temporary) (at : List Step) (ps : Subpatterns) (N M : Renaming) (xs os : List ℕ) : Type 0 where
    pub actions : List Action
    pub bound : Bound (in_temporary t) (bindings_in at ps) actions
    pub comes : Comes k e agains N actions M
    pub injective : Injective M
    pub held : Held M xs os
    pub new : (o : ℕ) → Among o (map (λ (b : Binding). b.variable) (bindings_in at ps)) → IsNew R o
    pub receives : (rest : List Action) (ys hs : List ℕ) → ((gs : List ℕ) → Sub os gs → Sub hs gs → Receives S k e K gs ys rest) → Receives S k e K hs ys (actions ++ rest)

  nothing_got : (t : Temporary) (at : List Step) (N : Renaming) → Injective N → Got t at no_part N N [] []
  nothing_got t at N inj = record {
    actions = [];
    bound = bound_none;
    comes = comes_none k e agains N;
    injective = inj;
    held = tt;
    new = λ o i. elim i [ ];
    receives = λ rest ys hs f. f hs (λ z i. elim i [ ]) (λ z i. i);
  }

  -- one more in front
  got_one : {N M : Renaming} (i b : ℕ) (mutable : Bool) (x o : ℕ) {xs os : List ℕ} {ps : Subpatterns} → sight_of N x ≡ None → IsNew R o → IsNew N o → Receiving R ((x, sight o special) ∷ N) xs os M → (t : Temporary) (at : List Step) → Among x (k.outs e)
      → Got t at ps ((x, sight o special) ∷ N) M xs os → Got t at (part_and i (bind b o (by_value mutable)) ps) N M (x ∷ xs) (o ∷ os)
  got_one {N} {M} i b mutable x o {xs} {os} {ps} none n j r t at out rest = record {
    actions = does b (Declare o) ∷ does b (Write (own o) t (at ++ step.Field i ∷ [])) ∷ rest.actions;
    bound = bound_and refl rest.bound;
    comes = comes_both k e agains N ((x, sight o special) ∷ N) M (does b (Declare o) ∷ does b (Write (own o) t (at ++ step.Field i ∷ [])) ∷ []) rest.actions
        (comes_written k e agains N x o b t (at ++ step.Field i ∷ []) (does b (Declare o) ∷ []) out j (λ z s q h. one_more_leaves (does b (Declare o)) [] s.to (λ (w : o ≡ s.to). j z s h (sym w)) (none_left s.to))) rest.comes;
    injective = rest.injective;
    held = let q = kept r x (sight o special) (first N x (sight o special)) in (q.is, (q.no_more, (q.apart, rest.held)));
    new = λ v h. newly v h;
    receives = λ more ys hs f. receives_one (new_here S R K g all o n) (rest.receives more ys (o ∷ hs) (λ gs a c. f gs (λ z h. subset gs (c o here) a z h) (λ z h. c z (there h))));
  }
    where
      newly : (v : ℕ) → Among v (o ∷ map (λ (c : Binding). c.variable) (bindings_in at ps)) → IsNew R v
      newly _ here = n
      newly v (there h) = rest.new v h

      subset : (gs : List ℕ) → Among o gs → Sub os gs → (z : ℕ) → Among z (o ∷ os) → Among z gs
      subset gs c a _ here = c
      subset gs c a z (there h) = a z h

  pub got : {i : ℕ} {N M : Renaming} {xs os : List ℕ} {ps : Subpatterns} → Receiving R N xs os M → packing.Receives i os ps → (t : Temporary) (at : List Step) → Injective N → ((x : ℕ) → Among x xs → Among x (k.outs e))
      → Got t at ps N M xs os
  got {N = N} received_none receives_none t at inj outs = nothing_got t at N inj
  got {i = i} {N = N} (received_and {x = x} {o = o} none n j r) (receives_and {k = b} {mutable = v} p) t at inj outs =
      got_one i b v x o none n j r t at (outs x here) (got r p t at (injective_more N x (sight o special) inj j) (λ z h. outs z (there h)))

-- what is received is in none of those before
pub none_before : {R N M : Renaming} {xs os : List ℕ} → Receiving R N xs os M → (x : ℕ) → Among x xs → sight_of N x ≡ None
none_before received_none x i = elim i [ ]
none_before (received_and none n j r) _ here = none
none_before {N = N} (received_and {x = y} {o = o} none n j r) x (there i) = earlier N y (sight o special) none x (none_before r x i)
