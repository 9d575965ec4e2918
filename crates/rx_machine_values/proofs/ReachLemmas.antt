-- What stands where steps lead is what stands at the spot that they lead to.
use Rattle.std.proofs.Common.{◌≡◌, ℕ, Bool, ◌&&◌, List, [], ◌∷◌, ◌++◌, Option, None, Some, refl, sym, ap, ◌∙◌}
use Rattle.rx_core.specs.declared.types.Step.{Step}
use Rattle.rx_meaning.specs.Values as plain
use Rattle.rx_meaning.specs.Values.{Value, and_then, part, get, element}
use Rattle.rx_meaning.specs.Places.{Spot, in_slot, in_value, content, deeper, may_write, pointed, follow}
use Rattle.rx_machine_values.specs.Reaching.{behind, reached}

-- one step more
further : (p : List Step) (s : Step) (v : Value) → get (p ++ s ∷ []) v ≡ and_then (get p v) (λ u. part u s)
further [] s v = by (part v s)
  where
    by : (o : Option Value) → and_then o (λ u. Some u) ≡ o
    by None = refl
    by (Some u) = refl
further (t ∷ p) s v = by (part v t) (further p s)
  where
    by : (o : Option Value) → ((u : Value) → get (p ++ s ∷ []) u ≡ and_then (get p u) (λ x. part x s)) → and_then o (λ u. get (p ++ s ∷ []) u) ≡ and_then (and_then o (λ u. get p u)) (λ x. part x s)
    by None k = refl
    by (Some u) k = k u

slot_further : (M : List Value) (i : ℕ) (p : List Step) (w : Bool) (s : Step) → content M (in_slot i (p ++ s ∷ []) w) ≡ and_then (content M (in_slot i p w)) (λ u. part u s)
slot_further M i p w s = by (element M i)
  where
    by : (o : Option Value) → and_then o (λ v. get (p ++ s ∷ []) v) ≡ and_then (and_then o (λ v. get p v)) (λ u. part u s)
    by None = refl
    by (Some v) = further p s v

abbrev pub led : List Value → List Step → Spot → Option Value
led M ss at = and_then (follow M ss at) (λ to. content M to)

-- nothing stands behind nothing
none_deeper : (M : List Value) (s : Step) (ss : List Step) (at : Spot) → ((to : Spot) → content M to ≡ None → led M ss to ≡ None) → content M at ≡ None
    → and_then (and_then (deeper s at) (λ to. follow M ss to)) (λ to. content M to) ≡ None
none_deeper M s ss (in_slot i p w) k e = k (in_slot i (p ++ s ∷ []) w) (slot_further M i p w s ∙ ap (λ o. and_then o (λ u. part u s)) e)
none_deeper M s ss (in_value v) k e = cc

pub none_there : (M : List Value) (ss : List Step) (at : Spot) → content M at ≡ None → led M ss at ≡ None
none_there M [] at e = e
none_there M (Step.Deref m ∷ ss) at e = ap (λ o. and_then (and_then o (λ v. and_then (pointed (may_write at) v) (λ to. follow M ss to))) (λ to. content M to)) e
none_there M (Step.Field i ∷ ss) at e = none_deeper M (Step.Field i) ss at (none_there M ss) e
none_there M (Step.Variant i ∷ ss) at e = none_deeper M (Step.Variant i) ss at (none_there M ss) e

-- the steps behind lead alike
abbrev Alike : List Value → List Step → Type 0
Alike M ss = (at : Spot) (v : Value) → content M at ≡ Some v → reached M ss v ≡ led M ss at

spot_is : (M : List Value) (ss : List Step) (at : Spot) (o : Option Value) → Alike M ss → content M at ≡ o → and_then o (λ u. reached M ss u) ≡ led M ss at
spot_is M ss at None k e = sym (none_there M ss at e)
spot_is M ss at (Some u) k e = k at u e

behind_is : (M : List Value) (ss : List Step) (w : Bool) (v : Value) → Alike M ss → and_then (behind M v) (λ u. reached M ss u) ≡ and_then (and_then (pointed w v) (λ to. follow M ss to)) (λ to. content M to)
behind_is M ss w (plain.pointer i p m) k = spot_is M ss (in_slot i p (w && m)) (content M (in_slot i p (w && m))) k refl
behind_is M ss w (plain.number j z) k = refl
behind_is M ss w (plain.truth b) k = refl
behind_is M ss w (plain.whole vs) k = refl
behind_is M ss w (plain.tagged i vs) k = refl
behind_is M ss w (plain.lacking l) k = refl

inside_is : (M : List Value) (ss : List Step) (o : Option Value) → Alike M ss → and_then o (λ u. reached M ss u) ≡ and_then (and_then (and_then o (λ u. Some (in_value u))) (λ to. follow M ss to)) (λ to. content M to)
inside_is M ss None k = refl
inside_is M ss (Some u) k = k (in_value u) u refl

deeper_is : (M : List Value) (s : Step) (ss : List Step) (at : Spot) (v : Value) → Alike M ss → content M at ≡ Some v
    → and_then (part v s) (λ u. reached M ss u) ≡ and_then (and_then (deeper s at) (λ to. follow M ss to)) (λ to. content M to)
deeper_is M s ss (in_slot i p w) v k e = spot_is M ss (in_slot i (p ++ s ∷ []) w) (part v s) k (slot_further M i p w s ∙ ap (λ o. and_then o (λ u. part u s)) e)
deeper_is M s ss (in_value x) v k e = inside_is M ss (part v s) k ∙ ap (λ (y : Value). and_then (and_then (and_then (part y s) (λ u. Some (in_value u))) (λ to. follow M ss to)) (λ to. content M to)) (sym (cc))

pub reached_is : (M : List Value) (ss : List Step) → Alike M ss
reached_is M [] = λ at v e. sym e
reached_is M (Step.Deref m ∷ ss) = λ at v e. behind_is M ss (may_write at) v (reached_is M ss) ∙ sym (ap (λ o. and_then (and_then o (λ v. and_then (pointed (may_write at) v) (λ to. follow M ss to))) (λ to. content M to)) e)
reached_is M (Step.Field i ∷ ss) = λ at v e. deeper_is M (Step.Field i) ss at v (reached_is M ss) e
reached_is M (Step.Variant i ∷ ss) = λ at v e. deeper_is M (Step.Variant i) ss at v (reached_is M ss) e
