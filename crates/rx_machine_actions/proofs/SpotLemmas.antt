-- Where steps lead, one by one, and what a write there does.
use Rattle.std.proofs.Common.{◌≡◌, ℕ, Bool, true, false, List, [], ◌∷◌, Option, None, Some, refl, sym, ap, ◌∙◌, subst}
use Rattle.rx_core.specs.declared.types.Step.{Step}
use Rattle.rx_meaning.specs.Values.{Value, and_then, element}
use Rattle.rx_meaning.specs.Places.{Spot, in_slot, in_value, content, may_write, pointed, follow, whole_value, after_write}
use Rattle.rx_machine_values.specs.Writes as writes
use Rattle.rx_machine_values.proofs.ReachLemmas.{none_there}
use Rattle.rx_machine_actions.specs.PlainActs.{if_set, found_from, one_step, writable_spot, Wrote}

pub follow_step : (M : List Value) (s : Step) (ss : List Step) (at : Spot) → follow M (s ∷ ss) at ≡ and_then (one_step M s at) (λ to. follow M ss to)
follow_step M (Step.Deref m) ss at = by (content M at)
  where
    by : (o : Option Value) → and_then o (λ v. and_then (pointed (may_write at) v) (λ to. follow M ss to)) ≡ and_then (and_then o (λ v. pointed (may_write at) v)) (λ to. follow M ss to)
    by None = refl
    by (Some v) = refl
follow_step M (Step.Field i) ss at = refl
follow_step M (Step.Variant i) ss at = refl

pub nothing_there : (M : List Value) (i : ℕ) (ss : List Step) → element M i ≡ None → None ≡ and_then (follow M ss (in_slot i [] true)) (λ to. content M to)
nothing_there M i ss e = sym (none_there M ss (in_slot i [] true) (ap (λ o. and_then o (λ v. Some v)) e))

-- what is read is what stands there, where it is set
pub found_whole : (M : List Value) (at : Spot) (ss : List Step) → and_then (found_from M at ss) (λ f. whole_value f) ≡ and_then (and_then (follow M ss at) (λ to. content M to)) (λ v. if_set v)
found_whole M at ss = by (follow M ss at)
  where
    by_content : (to : Spot) (o : Option Value) → and_then (and_then o (λ v. Some (to, v))) (λ f. whole_value f) ≡ and_then o (λ v. if_set v)
    by_content to None = refl
    by_content to (Some v) = refl

    by : (o : Option Spot) → and_then (and_then o (λ to. and_then (content M to) (λ v. Some (to, v)))) (λ f. whole_value f) ≡ and_then (and_then o (λ to. content M to)) (λ v. if_set v)
    by None = refl
    by (Some to) = by_content to (content M to)

-- ---- writes

pub wrote_here : (M : List Value) (i : ℕ) (ss : List Step) (v : Value) (N : List Value) (b : Bool) → ss ≡ [] → writes.Wrote M i ss v N b → Wrote M i ss v N b
wrote_here M i ss v N b e h = subst (λ p. Wrote M i p v N b) (sym e) (by b (subst (λ p. writes.Wrote M i p v N b) e h))
  where
    by : (b : Bool) → writes.Wrote M i [] v N b → Wrote M i [] v N b
    by true h = h
    by false h = h

-- a write where steps lead
abbrev Writes : Option Spot → List Value → Value → List Value → Bool → Type 0
Writes o M v N true = and_then o (λ at. after_write v M at) ≡ Some N
Writes o M v N false = (and_then o (λ at. after_write v M at) ≡ None) × (N ≡ M)

writes_there : (o : Option Spot) (M : List Value) (a : ℕ) (p : List Step) (v : Value) (N : List Value) (b : Bool) → Some (in_slot a p true) ≡ and_then o (λ at. writable_spot at) → writes.Wrote M a p v N b → Writes o M v N b
writes_there None M a p v N b e h = cc
writes_there (Some (in_value w)) M a p v N b e h = cc
writes_there (Some (in_slot x q false)) M a p v N b e h = cc
writes_there (Some (in_slot x q true)) M a p v N true e h = let k : in_slot x q true ≡ in_slot a p true = cc in ap (after_write v M) k ∙ h
writes_there (Some (in_slot x q true)) M a p v N false e h = let k : in_slot x q true ≡ in_slot a p true = cc in (ap (after_write v M) k ∙ h.0, h.1)

writes_nowhere : (o : Option Spot) (M : List Value) (v : Value) → None ≡ and_then o (λ at. writable_spot at) → and_then o (λ at. after_write v M at) ≡ None
writes_nowhere None M v e = refl
writes_nowhere (Some (in_value w)) M v e = refl
writes_nowhere (Some (in_slot x q false)) M v e = refl
writes_nowhere (Some (in_slot x q true)) M v e = cc

pub wrote_there : (M : List Value) (i : ℕ) (ss : List Step) (a : ℕ) (p : List Step) (v : Value) (N : List Value) (b : Bool)
    → Some (in_slot a p true) ≡ and_then (follow M ss (in_slot i [] true)) (λ at. writable_spot at) → writes.Wrote M a p v N b → Wrote M i ss v N b
wrote_there M i ss a p v N b e h = by b (writes_there (follow M ss (in_slot i [] true)) M a p v N b e h)
  where
    by : (b : Bool) → Writes (follow M ss (in_slot i [] true)) M v N b → Wrote M i ss v N b
    by true k = k
    by false k = k

pub wrote_nowhere : (M : List Value) (i : ℕ) (ss : List Step) (v : Value) → None ≡ and_then (follow M ss (in_slot i [] true)) (λ at. writable_spot at) → Wrote M i ss v M false
wrote_nowhere M i ss v e = (writes_nowhere (follow M ss (in_slot i [] true)) M v e, refl)
