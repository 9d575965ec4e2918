-- Typed trees that are related by their form alone: nothing is known of the text's histories. So all that rx_engine_simulation says of
-- histories is left out, and which variables may be elsewhere in the answer is told by a list.
use Rattle.std.specs.Prelude.{ℕ, List, [], Option, Some}
use Rattle.rx_typed.specs.Tree.{Function}
use Rattle.rx_meaning.specs.Values.{element}
use Rattle.rx_meaning.specs.Programs.{Program}
use Rattle.rx_engine_simulation.specs.Turns.{Allowance}
use Rattle.rx_engine_simulation.specs.Histories.{Facts}
use Rattle.rx_engine_simulation.specs.Sights.{In, Renaming}
use Rattle.rx_engine_simulation.specs.Binders.{LikeParams}
use Rattle.rx_engine_simulation.specs.Openings.{Openings, no_openings}
use Rattle.rx_engine_simulation.specs.Like.{LikeExp}
use Rattle.rx_engine_simulation.specs.Programs.{whole_jumps, IsNone}
use Rattle.rx_engine_simulation.specs.Marking.{without_turns}

-- a text that has no history
abbrev pub by_form : List ℕ → Facts
by_form special = record {
  Good = λ h. ⊥;
  older = λ a h k. k;
  Comes = λ q h. ⊥;
  within = λ i k. k;
  Special = λ x. In x special;
  Asked = λ x h. ⊥;
  untouched = λ a h x i k. absurd k;
}

-- a function, and one that is made from it
pub record RelatedFunction (items : ℕ → ℕ) (O : Openings) (gain : Allowance) (special : List ℕ) (g g' : Function) : Type 0 where
  pub inside : Renaming
  pub params : LikeParams (by_form special) [] g.params g'.params inside
  pub body : LikeExp items O gain (by_form special) gain.turns whole_jumps inside g.body g'.body

-- an item: a function that is another but for the numbers of nodes, items, loops and variables, or none
pub data SameEntry (items : ℕ → ℕ) : Option (Option Function) → Option (Option Function) → Type 0 where
  same_function : {g g' : Function} → RelatedFunction items no_openings without_turns [] g g' → SameEntry items (Some (Some g)) (Some (Some g'))
  no_function : {o o' : Option (Option Function)} → IsNone o → IsNone o' → SameEntry items o o'

-- a function that is like itself, since its variables and loops are told apart; or none
pub data IsItself : Option (Option Function) → Type 0 where
  is_itself : {g : Function} → RelatedFunction (λ f. f) no_openings without_turns [] g g → IsItself (Some (Some g))
  is_none : {o : Option (Option Function)} → IsNone o → IsItself o

abbrev pub EachIsItself : Program → Type 0
EachIsItself P = (f : ℕ) → IsItself (element P.functions f)
