-- Each variable from outside that a run names is a param or a local of its plan, where the run is neither MixedInit nor PartlyMoved for
-- it: were it neither, it would not be unset on some walk that enters, so be there and wholly set, and unset in part on another.
use Rattle.std.proofs.Common.{◌≡◌, ◌⊎◌, inl, inr, ℕ, Bool, true, false, List, [], ◌∷◌, refl}
use Rattle.rx_typed.specs.Tree.{own}
use Rattle.rx_lower_walks.specs.Actions.{Action}
use Rattle.rx_lower_walks.specs.Walks.{Among, here, there}
use Rattle.rx_facts_tables.specs.Places.{is_part}
use Rattle.rx_facts_tables.specs.Setting.{is_set}
use Rattle.rx_facts_tables.specs.Wholes.{stands}
use Rattle.rx_exits_plan.specs.Points.{enters}
use Rattle.rx_exits_plan.specs.Asked.{Asked, ComesTo, IsParam, IsLocal}
use Rattle.rx_exits_plan.specs.Plan.{Plan, Chosen, none, taken, left, IsPlan, foreign_of}
use Rattle.rx_exits_plan.specs.Unreachable.{At, Unreachable, not_begun, not_ended, not_left, SameCase}
use Rattle.rx_exits_plan.specs.MixedInit.{MixedInit}
use Rattle.rx_exits_plan.specs.PartlyMoved.{PartlyMoved, at_entry}

-- a variable of a list is chosen, or what was asked does not hold of it
chosen_or : {Q : ℕ → Type 0} {l m : List ℕ} {x : ℕ} → Chosen Q l m → Among x l → Among x m ⊎ ¬ (Q x)
chosen_or none i = elim i [ ]
chosen_or (taken q c) here = inl here
chosen_or {Q = Q} {x = x} (taken {x = y} {m = m} q c) (there i) = by (chosen_or c i)
  where
    by : Among x m ⊎ ¬ (Q x) → Among x (y ∷ m) ⊎ ¬ (Q x)
    by (inl j) = inl (there j)
    by (inr n) = inr n
chosen_or (left r c) here = inr r
chosen_or (left r c) (there i) = chosen_or c i

module _ (A : Asked) (k : Plan) (x : ℕ) (named : Among x (foreign_of A)) (sure : ¬ (MixedInit A x)) (whole : ¬ (PartlyMoved A k x)) where
  -- on a walk that enters with it there all of its parts are set
  set_here : (w : List Action) → ComesTo A enters w → stands w x [] ≡ true → (n : ℕ) → is_part A.frame (own x) n ≡ true → (t : Bool) → is_set A.frame w n ≡ t → t ≡ true
  set_here w c s n i true e = refl
  set_here w c s n i false e = absurd (whole (at_entry w named c (n, i, e) s))

  -- so they are set on every walk that enters
  set_there : (w : List Action) → ComesTo A enters w → stands w x [] ≡ true → (v : List Action) → ComesTo A enters v → (n : ℕ) → is_part A.frame (own x) n ≡ true
      → (t : Bool) → is_set A.frame v n ≡ t → is_set A.frame v n ≡ true
  set_there w c s v d n i true e = e
  set_there w c s v d n i false e =
      absurd (sure (record { named = named; part = n; is_one = i; set = (w, c, set_here w c s n i (is_set A.frame w n) refl); unset = (v, d, e) }))

  is_param : (w : List Action) → ComesTo A enters w → stands w x [] ≡ true → IsParam A x
  is_param w c s v d n i = set_there w c s v d n i (is_set A.frame v n) refl

  gone : ¬ (IsParam A x) → (w : List Action) → ComesTo A enters w → (t : Bool) → stands w x [] ≡ t → stands w x [] ≡ false
  gone n w c true e = absurd (n (is_param w c e))
  gone n w c false e = e

  is_local : ¬ (IsParam A x) → IsLocal A x
  is_local n w c = gone n w c (stands w x []) refl

pub param_or_local : (A : Asked) (k : Plan) (x : ℕ) → IsPlan A k → Among x (foreign_of A) → ¬ (MixedInit A x) → ¬ (PartlyMoved A k x) → Among x k.params ⊎ Among x k.locals
param_or_local A k x p i sure whole = by (chosen_or p.params i) (chosen_or p.locals i)
  where
    by : Among x k.params ⊎ ¬ (IsParam A x) → Among x k.locals ⊎ ¬ (IsLocal A x) → Among x k.params ⊎ Among x k.locals
    by (inl j) l = inl j
    by (inr n) (inl j) = inr j
    by (inr n) (inr m) = absurd (m (is_local A k x i sure whole n))

-- ---- where a run is not reached

pub one_case : (A : Asked) (a b : At) → Unreachable A a → Unreachable A b → SameCase a b
one_case A _ _ (not_begun n) (not_begun m) = tt
one_case A _ _ (not_begun n) (not_ended w e m) = absurd (n w)
one_case A _ _ (not_begun n) (not_left w e x k i d m f) = absurd (n w)
one_case A _ _ (not_ended w e n) (not_begun m) = absurd (m w)
one_case A _ _ (not_ended w e n) (not_ended v f m) = tt
one_case A _ _ (not_ended w e n) (not_left v (inl s) x k i d m f) = absurd (n s)
one_case A _ _ (not_ended w e n) (not_left v (inr s) x k i d m f) = absurd (s e)
one_case A _ _ (not_left w e x k i d m f) (not_begun n) = absurd (n w)
one_case A _ _ (not_left w (inl s) x k i d m f) (not_ended v e n) = absurd (n s)
one_case A _ _ (not_left w (inr s) x k i d m f) (not_ended v e n) = absurd (s e)
one_case A _ _ (not_left w e x k i d m f) (not_left v g y l j c n h) = tt
