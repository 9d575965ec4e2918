-- Two ways to act, side by side: the states that they come to by the same actions, from two that a run starts with, and the values
-- that these give; and where they part. It is the least relation that the start has and each action keeps.
use Rattle.std.specs.Prelude.{◌≡◌, ℕ, suc, List, [], ◌∷◌, ◌++◌, map}
use Rattle.rx_lower_walks.specs.Actions.{Action}
use Rattle.rx_lower_walks.specs.Walks.{Among}
use Rattle.rx_meaning.specs.Endings.{Ending, wrong}
use Rattle.rx_meaning.specs.Straying.{why_not_checked}
use Rattle.rx_meaning.specs.Values.{Value, truth, unit_value, new_frame, State, with_turns}
use Rattle.rx_meaning.specs.Results as results
use Rattle.rx_meaning.specs.Results.{gives}
use Rattle.rx_meaning.specs.Acting.{Acting}
use Rattle.rx_meaning_keeping.specs.Relating.{Relation, IsNoTruth}

-- the arguments of the first run, and those of the second
abbrev pub firsts : List (Value × Value) → List Value
firsts l = map (λ p. p.0) l

abbrev pub seconds : List (Value × Value) → List Value
seconds l = map (λ p. p.1) l

mutual
  pub data StatesBeside {E F : Type 0} (A : Acting E) (B : Acting F) (given : List (Value × Value)) (s0 s0' : State) : State → State → Type 0 where
    starts : StatesBeside A B given s0 s0' s0 s0'
    performed : {w : List E} {u : List F} {v v' : Value} {s s' : State} → Steps A B given s0 s0' w v s u v' s' → StatesBeside A B given s0 s0' s s'
    turned : {s s' : State} (n : ℕ) → s.turns ≡ suc n → StatesBeside A B given s0 s0' s s' → StatesBeside A B given s0 s0' (with_turns s n) (with_turns s' n)
    -- a call begins, and comes back
    entered : {s s' : State} (i : ℕ) → StatesBeside A B given s0 s0' s s' → StatesBeside A B given s0 s0' (record s { frame = new_frame i }) (record s' { frame = new_frame i })
    returned : {s s' s1 s1' : State} → StatesBeside A B given s0 s0' s s' → StatesBeside A B given s0 s0' s1 s1'
        → StatesBeside A B given s0 s0' (record s1 { frame = s.frame }) (record s1' { frame = s'.frame })

  pub data ValuesBeside {E F : Type 0} (A : Acting E) (B : Acting F) (given : List (Value × Value)) (s0 s0' : State) : Value → Value → Type 0 where
    argument : {v v' : Value} → Among (v, v') given → ValuesBeside A B given s0 s0' v v'
    unit : ValuesBeside A B given s0 s0' unit_value unit_value
    given_by : {w : List E} {u : List F} {v v' : Value} {s s' : State} → Steps A B given s0 s0' w v s u v' s' → ValuesBeside A B given s0 s0' v v'

  pub data AllBeside {E F : Type 0} (A : Acting E) (B : Acting F) (given : List (Value × Value)) (s0 s0' : State) : List Value → List Value → Type 0 where
    none : AllBeside A B given s0 s0' [] []
    and : {v v' : Value} {vs vs' : List Value} → ValuesBeside A B given s0 s0' v v' → AllBeside A B given s0 s0' vs vs' → AllBeside A B given s0 s0' (v ∷ vs) (v' ∷ vs')

  -- what they tell, the values and the states that they give, where both perform an action and as many turns are left
  pub data Steps {E F : Type 0} (A : Acting E) (B : Acting F) (given : List (Value × Value)) (s0 s0' : State) : List E → Value → State → List F → Value → State → Type 0 where
    both_perform : {w : List E} {u : List F} {v v' : Value} {s1 s1' : State} (a : Action) (vs vs' : List Value) (s s' : State) → AllBeside A B given s0 s0' vs vs' → StatesBeside A B given s0 s0' s s'
        → A.perform a vs s ≡ gives w v s1 → B.perform a vs' s' ≡ gives u v' s1' → s1.turns ≡ s1'.turns → Steps A B given s0 s0' w v s1 u v' s1'

-- what both have told
pub data SaidBeside {E F : Type 0} (A : Acting E) (B : Acting F) (given : List (Value × Value)) (s0 s0' : State) : List E → List F → Type 0 where
  nothing : SaidBeside A B given s0 s0' [] []
  then : {w v : List E} {u z : List F} → SaidBeside A B given s0 s0' w u → SaidBeside A B given s0 s0' v z → SaidBeside A B given s0 s0' (w ++ v) (u ++ z)
  by_step : {w : List E} {u : List F} {v v' : Value} {s s' : State} → Steps A B given s0 s0' w v s u v' s' → SaidBeside A B given s0 s0' w u
  -- both end the run by an action, in one way
  by_end : {w : List E} {u : List F} (a : Action) (vs vs' : List Value) (s s' : State) (e : Ending) → AllBeside A B given s0 s0' vs vs' → StatesBeside A B given s0 s0' s s'
      → A.perform a vs s ≡ results.ends w e → B.perform a vs' s' ≡ results.ends u e → SaidBeside A B given s0 s0' w u
  within : {w : List E} {u : List F} → SaidBeside A B given s0 s0' w u → SaidBeside A B given s0 s0' (A.inner w) (B.inner u)

-- the first ends so where the second does not
pub data EndsAlone {E F : Type 0} (A : Acting E) (B : Acting F) (given : List (Value × Value)) (s0 s0' : State) : Ending → Type 0 where
  other_goes_on : (a : Action) (vs vs' : List Value) (s s' : State) (w : List E) (u : List F) (v' : Value) (s1' : State) (e : Ending) → AllBeside A B given s0 s0' vs vs' → StatesBeside A B given s0 s0' s s'
      → A.perform a vs s ≡ results.ends w e → B.perform a vs' s' ≡ gives u v' s1' → EndsAlone A B given s0 s0' e
  other_ends : (a : Action) (vs vs' : List Value) (s s' : State) (w : List E) (u : List F) (e e' : Ending) → AllBeside A B given s0 s0' vs vs' → StatesBeside A B given s0 s0' s s'
      → A.perform a vs s ≡ results.ends w e → B.perform a vs' s' ≡ results.ends u e' → (e ≡ e' → ⊥) → EndsAlone A B given s0 s0' e
  cannot_decide : {v v' : Value} → ValuesBeside A B given s0 s0' v v' → IsNoTruth v → (v ≡ v' → ⊥) → EndsAlone A B given s0 s0' (wrong (why_not_checked v))

-- the second ends where the first does not, or it goes another way, or has another number of turns left
pub data HaveParted {E F : Type 0} (A : Acting E) (B : Acting F) (given : List (Value × Value)) (s0 s0' : State) : Type 0 where
  first_goes_on : (a : Action) (vs vs' : List Value) (s s' : State) (w : List E) (u : List F) (v : Value) (s1 : State) (e : Ending) → AllBeside A B given s0 s0' vs vs' → StatesBeside A B given s0 s0' s s'
      → A.perform a vs s ≡ gives w v s1 → B.perform a vs' s' ≡ results.ends u e → HaveParted A B given s0 s0'
  other_turns : (a : Action) (vs vs' : List Value) (s s' : State) (w : List E) (u : List F) (v v' : Value) (s1 s1' : State) → AllBeside A B given s0 s0' vs vs' → StatesBeside A B given s0 s0' s s'
      → A.perform a vs s ≡ gives w v s1 → B.perform a vs' s' ≡ gives u v' s1' → (s1.turns ≡ s1'.turns → ⊥) → HaveParted A B given s0 s0'
  other_truth : {b : _} {v' : Value} → ValuesBeside A B given s0 s0' (truth b) v' → (truth b ≡ v' → ⊥) → HaveParted A B given s0 s0'

abbrev pub beside : {E F : Type 0} → Acting E → Acting F → List (Value × Value) → State → State → Relation
beside A B given s0 s0' = record {
  W = Unit {0};
  R = λ k s s'. StatesBeside A B given s0 s0' s s';
  V = λ k v v'. ValuesBeside A B given s0 s0' v v';
  Grows = λ k l. Unit {0};
  Excused = λ e. EndsAlone A B given s0 s0' e;
  Parted = HaveParted A B given s0 s0';
}
