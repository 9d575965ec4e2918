-- When two parts do alike: both go on, both jump, or both end the run, having told the same bytes, from states that are alike to
-- states that are alike; or one of them, which may, was cut off on the way there, or went astray. Why both ends are Wrong is
-- not compared.
use Rattle.std.specs.Prelude.{◌≡◌, ℕ, true, false, List, [], ◌∷◌, Some}
use Rattle.rx_lower_walks.specs.Actions.{Action}
use Rattle.rx_lower_walks.specs.Orders.{Exit, breaks, continues, returns}
use Rattle.rx_meaning.specs.Endings.{Ending, end_of}
use Rattle.rx_meaning.specs.Values.{Value, tagged, unit_value, Values, no_value, value_and, are_set, element, slot_of, State}
use Rattle.rx_meaning.specs.Results.{Result, on, jumps, stops}
use Rattle.rx_meaning.specs.Programs.{IsFront}
use Rattle.rx_meaning.specs.Telling.{Told, said, told_by}
use Rattle.rx_engine_simulation.specs.Turns.{Direction, Turns, TextMayEnd, AnswerMayEnd}
use Rattle.rx_engine_simulation.specs.Followed.{onto}
use Rattle.rx_engine_simulation.specs.Histories.{Facts, Living}
use Rattle.rx_engine_simulation.specs.Sights.{In, Renaming}
use Rattle.rx_engine_simulation.specs.Values.{Pair, LikeValue, Given}
use Rattle.rx_engine_simulation.specs.Jumps.{Pack, as_return, with_value, with_unit, Jumping, loop_of}
use Rattle.rx_engine_simulation.specs.States.{Frozen, StatesAlike, Grown}

-- ---- jumps

-- the values of variables of the text
pub data Outs (j : List Pair) (t : State) : List ℕ → Values → Type 0 where
  no_outs : Outs j t [] no_value
  out_and : {x i : ℕ} {v w : Value} {xs : List ℕ} {ws : Values} → slot_of t.frame.slots x ≡ Some i → element t.memory i ≡ Some v → LikeValue j v w → Outs j t xs ws → Outs j t (x ∷ xs) (value_and w ws)

-- a jump that leaves: these variables are needed no more, but for those that it hands out
abbrev pub AllDead : Facts → Jumping → List ℕ → List Action → Type 0
AllDead V J outs h = (x : ℕ) → In x J.dead → (In x outs → ⊥) → Living V x h → ⊥

pub data LikeExit (V : Facts) (J : Jumping) (h : List Action) (j : List Pair) (t : State) : Exit → Value → Exit → Value → Type 0 where
  stays_break : {n m l k : ℕ} → loop_of J.loops l ≡ Some k → LikeExit V J h j t (breaks n l) unit_value (breaks m k) unit_value
  stays_continue : {n m l k : ℕ} → loop_of J.loops l ≡ Some k → LikeExit V J h j t (continues n l) unit_value (continues m k) unit_value
  gives_back : {n m : ℕ} {v w : Value} → J.returning ≡ as_return → Given j v w → LikeExit V J h j t (returns n) v (returns m) w
  packs_break : {n m l : ℕ} {ws : Values} (P : Pack) → J.leaving l false ≡ Some P → Outs j t P.outs ws → are_set ws ≡ true → AllDead V J P.outs h → LikeExit V J h j t (breaks n l) unit_value (returns m) (tagged P.variant ws)
  packs_continue : {n m l : ℕ} {ws : Values} (P : Pack) → J.leaving l true ≡ Some P → Outs j t P.outs ws → are_set ws ≡ true → AllDead V J P.outs h → LikeExit V J h j t (continues n l) unit_value (returns m) (tagged P.variant ws)
  packs_value : {n m i : ℕ} {v w : Value} → J.returning ≡ with_value i → Given j v w → AllDead V J [] h → LikeExit V J h j t (returns n) v (returns m) (tagged i (value_and w no_value))
  packs_unit : {n m i : ℕ} {v : Value} → J.returning ≡ with_unit i → v ≡ unit_value → AllDead V J [] h → LikeExit V J h j t (returns n) v (returns m) (tagged i no_value)

-- ---- where both stand after a part

pub record Reached (V : Facts) (d : Direction) (R : Renaming) (Z Z' : Frozen) (c : ℕ) (h1 : List Action) (j : List Pair) (s s' : State) (j1 : List Pair) (t t' : State) : Type 0 where
  pub inv : StatesAlike V R Z Z' h1 j1 t t'
  pub grown : Grown j s s' j1 t t'
  pub turns : Turns d c t.turns t'.turns

-- two parts do alike, from these states
pub data ResultsAlike {A B : Type 0} (V : Facts) (d : Direction) (R : Renaming) (Z Z' : Frozen) (J : Jumping) (W : List Pair → A → B → Type 0) (c : ℕ) (h : List Action) (j : List Pair) (s s' : State) : Result (Told ℕ) A → Result ℕ B → Type 0 where
  both_on : {o : List (Told ℕ)} {o' : List ℕ} {a : A} {b : B} {t t' : State} (j1 : List Pair) → said o ≡ o' → W j1 a b → Reached V d R Z Z' c (onto o h) j s s' j1 t t' → ResultsAlike V d R Z Z' J W c h j s s' (on o a t) (on o' b t')
  both_jump : {o : List (Told ℕ)} {o' : List ℕ} {x y : Exit} {v w : Value} {t t' : State} (j1 : List Pair) → said o ≡ o' → LikeExit V J (onto o h) j1 t x v y w → Reached V d R Z Z' c (onto o h) j s s' j1 t t' → ResultsAlike V d R Z Z' J W c h j s s' (jumps o x v t) (jumps o' y w t')
  both_stop : {o : List (Told ℕ)} {o' : List ℕ} {e e' : Ending} → said o ≡ o' → end_of e ≡ end_of e' → ResultsAlike V d R Z Z' J W c h j s s' (stops o e) (stops o' e')
  text_cut : {o : List (Told ℕ)} {e : Ending} {r' : Result ℕ B} → TextMayEnd d e → IsFront (said o) (told_by r') → ResultsAlike V d R Z Z' J W c h j s s' (stops o e) r'
  answer_cut : {o' : List ℕ} {e : Ending} {r : Result (Told ℕ) A} → AnswerMayEnd d e → IsFront o' (said (told_by r)) → ResultsAlike V d R Z Z' J W c h j s s' r (stops o' e)

-- where the text's actions are those of a walk
abbrev pub DoAlike : {A B : Type 0} → Facts → Direction → Renaming → Frozen → Frozen → Jumping → (List Pair → A → B → Type 0) → ℕ → List Action → List Pair → State → State → Result (Told ℕ) A → Result ℕ B → Type 0
DoAlike V d R Z Z' J W c h j s s' r r' = V.Good (onto (told_by r) h) → ResultsAlike V d R Z Z' J W c h j s s' r r'
