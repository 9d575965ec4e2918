-- Programs whose functions are alike (Rust Reference, "Items", "Functions").
use Rattle.std.specs.Prelude.{◌≡◌, ℕ, false, List, [], ◌∷◌, Option, Some, None}
use Rattle.rx_typed.specs.Tree.{Function}
use Rattle.rx_lower_walks.specs.Actions.{Action}
use Rattle.rx_lower_walks.specs.Orders.{Order, order_function}
use Rattle.rx_lower_walks.specs.Walks.{Out, Walk}
use Rattle.rx_exits_plan.specs.Coming.{Into}
use Rattle.rx_meaning.specs.Values.{element}
use Rattle.rx_meaning.specs.Expressions.{Functions}
use Rattle.rx_meaning.specs.Programs.{Program}
use Rattle.rx_engine_simulation.specs.Turns.{Allowance}
use Rattle.rx_engine_simulation.specs.Histories.{put, Facts, WritesOwn, Borrowed}
use Rattle.rx_engine_simulation.specs.Sights.{In, Renaming}
use Rattle.rx_engine_simulation.specs.Binders.{LikeParams}
use Rattle.rx_engine_simulation.specs.Jumps.{as_return, Jumping}
use Rattle.rx_engine_simulation.specs.Openings.{Openings, no_openings}
use Rattle.rx_engine_simulation.specs.Like.{LikeExp}

-- the jumps of a whole function
abbrev pub whole_jumps : Jumping
whole_jumps = record { loops = []; leaving = λ l again. None; returning = as_return; dead = [] }

-- a history, the newest action first, and what comes then
abbrev pub back : List Action → List Action → List Action
back [] w = w
back (a ∷ h) w = back h (a ∷ w)

-- some walk begins so
abbrev pub IsHistory : Function → List Action → Type 0
IsHistory g h = (rest : List Action) × (o : Out) × Walk (order_function g) (back h rest) o

pub record About : Type 0 where
  -- the variables that may be elsewhere in the answer for a while
  pub special : List ℕ
  -- variables that are used, besides, where a walk comes to such a part
  pub asked : List (ℕ × Order)

-- with this history a walk of the function comes to a part, directly or by way of others
pub data ComesTo (g : Function) : Order → List Action → Type 0 where
  begins : ComesTo g (order_function g) []
  goes : {q s : Order} {w h : List Action} → Into q s w → ComesTo g s h → ComesTo g q (put w h)

abbrev pub IsAsked : Function → List (ℕ × Order) → ℕ → List Action → Type 0
IsAsked g l x h = (q : Order) × In (x, q) l × ComesTo g q h

-- a special variable's own storage is not written once it was borrowed
abbrev pub Untouched : Function → About → Type 0
Untouched g K = (a : Action) (h : List Action) (x : ℕ) → In x K.special → IsHistory g (a ∷ h) → WritesOwn a.act x → Borrowed h x → ⊥

abbrev pub facts_of : (g : Function) (K : About) → Untouched g K → Facts
facts_of g K u = record {
  Good = λ h. IsHistory g h;
  older = λ a h k. (a ∷ k.0, k.1, k.2);
  Comes = λ q h. ComesTo g q h;
  within = λ i k. goes i k;
  Special = λ x. In x K.special;
  Asked = λ x h. IsAsked g K.asked x h;
  untouched = u;
}

-- a function of the text, and the answer's for it; each activation has the credit of the turn of its call
pub record LikeFunction (items : ℕ → ℕ) (O : Openings) (gain : Allowance) (g g' : Function) : Type 0 where
  pub about : About
  pub untouched : Untouched g about
  pub inside : Renaming
  pub params : LikeParams (facts_of g about untouched) [] g.params g'.params inside
  pub body : LikeExp items O gain (facts_of g about untouched) gain.turns whole_jumps inside g.body g'.body

abbrev pub IsNone : Option (Option Function) → Type 0
IsNone (Some (Some g)) = ⊥
IsNone _ = Unit {0}

pub data LikeEntry (items : ℕ → ℕ) (O : Openings) (gain : Allowance) : Option (Option Function) → Option (Option Function) → Type 0 where
  functions : {g g' : Function} → LikeFunction items O gain g g' → LikeEntry items O gain (Some (Some g)) (Some (Some g'))
  neither : {o o' : Option (Option Function)} → IsNone o → IsNone o' → LikeEntry items O gain o o'

-- of each item of the text; the answer may have further functions
abbrev pub LikeFunctions : (items : ℕ → ℕ) → Openings → Allowance → Functions → Functions → Type 0
LikeFunctions items O gain P Q = (f : ℕ) → LikeEntry items O gain (element P f) (element Q (items f))

pub record LikePrograms (items : ℕ → ℕ) (O : Openings) (gain : Allowance) (P Q : Program) : Type 0 where
  pub all : LikeFunctions items O gain P.functions Q.functions
  pub mains : Q.main ≡ items P.main

-- without an opening: the answer is the text, but for the numbers of nodes, items, loops and variables, and for its types
pub record Renamed (P Q : Program) : Type 0 where
  pub items : ℕ → ℕ
  pub alike : LikePrograms items no_openings (record { turns = 0; strays = false }) P Q
