-- Statements without a choice that stand for a run: the call of the new function, and what is done with what it gives.
use Rattle.std.specs.Prelude.{◌≡◌, ℕ, List, [], ◌∷◌, ◌++◌}
use Rattle.rx_lower_walks.specs.Actions.{Action}
use Rattle.rx_lower_walks.specs.Orders.{Order}
use Rattle.rx_lower_walks.specs.Walks.{fails, Walk, Among}
use Rattle.rx_engine_initial.specs.Matching.{Hist, Reach, Good, Piece, doing, ending, fill, Runs}
use Rattle.rx_engine_initial.specs.Variables.{Kept, Sides, KnownVariables}
use Rattle.rx_engine_initial.specs.Copies.{world}
use Rattle.rx_engine_initial.specs.Entered.{IsNewHere}
use Rattle.rx_engine_initial.specs.Handing.{Straight}
use Rattle.rx_engine_initial.specs.Fates.{Fates}

-- what such statements do
pub data Does : List Piece → List Action → Type 0 where
  no_piece : Does [] []
  one_piece : {s : Order} {H : List Piece} {us vs : List Action} → Straight s us → Does H vs → Does (doing s ∷ H) (us ++ vs)
  one_variable : {n x : ℕ} {H : List Piece} {us : List Action} → Does H us → Does (ending n x ∷ H) us

-- the variables that they begin are none of those in front
abbrev pub AllNew : List Kept → List Piece → Type 0
AllNew vs [] = Unit {0}
AllNew vs (doing s ∷ H) = AllNew vs H
AllNew vs (ending n x ∷ H) = IsNewHere vs x × AllNew vs H

pub record StandsFor (S : Sides) (R T : KnownVariables S) (H K : List Piece) (q r : Order) : Type 0 where
  pub actions : List Action
  pub does : Does H actions
  pub orderly : (us w : List Action) → Hist (world S) R us w → Reach (world S) (fill K r) w → Good (world S) us actions
  -- where the text comes to the run, some walk goes through it, and each variable in scope behind has its fate
  pub through : (w : List Action) → Reach (world S) (fill K r) w → (u : List Action) × Runs K u × Fates S R T w actions u
  pub new : AllNew R.variables H
  pub wider : (k : Kept) → Among k R.variables → Among k T.variables
  pub loops : (l k : ℕ) → Among (l, k) T.loops → Among (l, k) R.loops
  pub never_fails : (us : List Action) → Walk q us fails → ⊥
