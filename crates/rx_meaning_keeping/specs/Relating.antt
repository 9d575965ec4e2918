-- Two ways to act whose states and values are related: what each action relates, the runs relate, until the first is excused.
use Rattle.std.specs.Prelude.{◌≡◌, ℕ, suc, Bool, List, [], ◌∷◌, ◌++◌}
use Rattle.rx_lower_walks.specs.Actions.{Action}
use Rattle.rx_lower_walks.specs.Orders.{Exit}
use Rattle.rx_meaning.specs.Endings.{Ending, wrong}
use Rattle.rx_meaning.specs.Straying.{why_not_checked}
use Rattle.rx_meaning.specs.Values.{Value, truth, unit_value, new_frame, State, with_turns}
use Rattle.rx_meaning.specs.Results as results
use Rattle.rx_meaning.specs.Results.{Done, gives, Result, on, jumps, stops}
use Rattle.rx_meaning.specs.Acting.{Acting}

abbrev pub IsNoTruth : Value → Type 0
IsNoTruth (truth b) = ⊥
IsNoTruth _ = Unit {0}

-- A relation of states and of values has a world, as pairs of slots, which only grows.
pub record Relation : Type 1 where
  pub W : Type 0
  pub R : W → State → State → Type 0
  pub V : W → Value → Value → Type 0
  pub Grows : W → W → Type 0
  -- ends of the first run behind which nothing is said
  pub Excused : Ending → Type 0
  -- why the two may have parted, behind which nothing is said either
  pub Parted : Type 0

-- what both decide by: the same truth, or none, for the same cause
pub data DecideAlike (L : Relation) : Value → Value → Type 0 where
  by_truth : (b : Bool) → DecideAlike L (truth b) (truth b)
  by_none : {v v' : Value} → IsNoTruth v → IsNoTruth v' → why_not_checked v ≡ why_not_checked v' → DecideAlike L v v'
  by_excuse : {v v' : Value} → IsNoTruth v → L.Excused (wrong (why_not_checked v)) → DecideAlike L v v'
  by_parting : {v v' : Value} → L.Parted → DecideAlike L v v'

-- behind an action
pub data DoneRelated {E F : Type 0} (L : Relation) (T : List E → List F → Type 0) (k : L.W) : Done E → Done F → Type 0 where
  gave : {w : List E} {u : List F} {v v' : Value} {s s' : State} (k' : L.W) → T w u → L.Grows k k' → L.V k' v v' → L.R k' s s' → DoneRelated L T k (gives w v s) (gives u v' s')
  ended : {w : List E} {u : List F} {e : Ending} → T w u → DoneRelated L T k (results.ends w e) (results.ends u e)
  excused : {w : List E} {e : Ending} {r : Done F} → L.Excused e → DoneRelated L T k (results.ends w e) r
  parted : {r : Done E} {q : Done F} → L.Parted → DoneRelated L T k r q

-- behind a part
pub data Related {E F A B : Type 0} (L : Relation) (T : List E → List F → Type 0) (k : L.W) (Q : L.W → A → B → Type 0) : Result E A → Result F B → Type 0 where
  both_on : {w : List E} {u : List F} {a : A} {b : B} {s s' : State} (k' : L.W) → T w u → L.Grows k k' → Q k' a b → L.R k' s s' → Related L T k Q (on w a s) (on u b s')
  both_jump : {w : List E} {u : List F} {x : Exit} {v v' : Value} {s s' : State} (k' : L.W) → T w u → L.Grows k k' → L.V k' v v' → L.R k' s s' → Related L T k Q (jumps w x v s) (jumps u x v' s')
  both_stop : {w : List E} {u : List F} {e : Ending} → T w u → Related L T k Q (stops w e) (stops u e)
  excused_stop : {w : List E} {e : Ending} {q : Result F B} → L.Excused e → Related L T k Q (stops w e) q
  have_parted : {r : Result E A} {q : Result F B} → L.Parted → Related L T k Q r q

pub data AllRelated (L : Relation) (k : L.W) : List Value → List Value → Type 0 where
  no_more : AllRelated L k [] []
  and_one : {v v' : Value} {vs vs' : List Value} → L.V k v v' → AllRelated L k vs vs' → AllRelated L k (v ∷ vs) (v' ∷ vs')

-- What is asked of two ways to act: what they tell is so related, worlds grow, and each action relates.
pub record IsRelated {E F : Type 0} (L : Relation) (T : List E → List F → Type 0) (A : Acting E) (B : Acting F) : Type 0 where
  pub told_none : T [] []
  pub told_more : (w v : List E) (u z : List F) → T w u → T v z → T (w ++ v) (u ++ z)
  pub told_inner : (w : List E) (u : List F) → T w u → T (A.inner w) (B.inner u)
  pub same : (k : L.W) → L.Grows k k
  pub chain : (k l m : L.W) → L.Grows k l → L.Grows l m → L.Grows k m
  pub values_grow : (k l : L.W) (v v' : Value) → L.Grows k l → L.V k v v' → L.V l v v'
  pub unit : (k : L.W) → L.V k unit_value unit_value
  pub truths : (k : L.W) (v v' : Value) → L.V k v v' → DecideAlike L v v'
  pub turns : (k : L.W) (s s' : State) → L.R k s s' → (s.turns ≡ s'.turns) × ((n : ℕ) → s.turns ≡ suc n → L.R k (with_turns s n) (with_turns s' n))
  pub enters : (k : L.W) (s s' : State) (i : ℕ) → L.R k s s' → L.R k (record s { frame = new_frame i }) (record s' { frame = new_frame i })
  pub returns : (k l : L.W) (s s' s1 s1' : State) → L.Grows k l → L.R k s s' → L.R l s1 s1' → L.R l (record s1 { frame = s.frame }) (record s1' { frame = s'.frame })
  pub performs : (k : L.W) (a : Action) (vs vs' : List Value) (s s' : State) → AllRelated L k vs vs' → L.R k s s' → DoneRelated L T k (A.perform a vs s) (B.perform a vs' s')
