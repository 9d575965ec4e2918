-- What is answered of a function: its graph with lifetimes, or how many sites and lifetime positions it has.
use Rattle.std.specs.Prelude.{◌≡◌, ℕ, ◌≤◌, ◌<◌, ◌⊎◌, Bool, List, [], ◌∷◌, length, map, Result, Ok, Err, ◌↔◌}
use Rattle.rx_typed.specs.Regions.{region-Ty}
use Rattle.rx_lower_walks.specs.Actions.{Action}
use Rattle.rx_lower_walks.specs.Walks.{IsWalk}
use Rattle.rx_lower_walks.specs.Graph.{Path}
use Rattle.rx_lower_walks.specs.Pieces.{graph}
use Rattle.rx_lower_walks.specs.PlainFlow.{plain-Temporary}
use Rattle.rx_lower_walks.specs.PlainSite.{plain-Site}
use Rattle.rx_typed.specs.Numbers.{capped}
use Rattle.rx_lower_lifetimes.specs.declared.whole.Graph.{Graph}
use Rattle.rx_lower_lifetimes.specs.declared.whole.Lifetimes.{Lifetimes}
use Rattle.rx_lower_lifetimes.specs.declared.whole.LowerFault.{LowerFault}
use Rattle.rx_lower_lifetimes.specs.declared.whole.LowerFault.TheVariants.{TooLarge, OutOfMemory}
use Rattle.rx_lower_lifetimes.specs.Positions.{positions}
use Rattle.rx_lower_lifetimes.specs.PlainOwn.{plain-Own}
use Rattle.rx_lower_lifetimes.specs.Lowered as lowered
use Rattle.rx_lower_lifetimes.specs.Lowered.{Function, known, actions, lifetimes}

abbrev pub plain-Lifetimes : Lifetimes → lowered.Lifetimes
plain-Lifetimes l = record {
  types = map region-Ty l.types;
  temporaries = map plain-Temporary l.temporaries;
  owned = map plain-Own l.owned;
  params = l.params;
  answer = region-Ty l.answer;
  bounds = l.bounds;
  own = l.own;
  regions = l.regions;
}

-- the sites of its graph, so many at most, each variable's `mut`, and the lifetimes; at most 65,536 positions
pub record IsLoweredWithin (limit : ℕ) (F : Function) (mutable : List Bool) (g : Graph) : Type 0 where
  pub sites : map plain-Site g.sites ≡ graph F.body
  pub mutable_is : g.mutable ≡ mutable
  pub lifetimes_are : plain-Lifetimes g.lifetimes ≡ lifetimes F
  pub few_sites : length (graph F.body) ≤ limit
  pub few_positions : positions (known F) (actions F) ≤ 65536

abbrev pub RefusesOver : ℕ → Function → LowerFault → Type 0
RefusesOver limit F (TooLarge f s n) =
    (f ≡ F.item) × (s ≡ capped (length (graph F.body))) × (n ≡ capped (positions (known F) (actions F)))
    × ((limit < length (graph F.body)) ⊎ (65536 < positions (known F) (actions F)))
RefusesOver limit F OutOfMemory = Unit {0}

abbrev pub AnswersWithin : ℕ → Function → List Bool → Result Graph LowerFault → Type 0
AnswersWithin limit F m (Ok g) = IsLoweredWithin limit F m g
AnswersWithin limit F m (Err fault) = RefusesOver limit F fault

-- of a function of a text
abbrev pub IsLowered : Function → List Bool → Graph → Type 0
IsLowered F m g = IsLoweredWithin 16384 F m g

abbrev pub Refuses : Function → LowerFault → Type 0
Refuses F fault = RefusesOver 16384 F fault

abbrev pub Answers : Function → List Bool → Result Graph LowerFault → Type 0
Answers F m answer = AnswersWithin 16384 F m answer

-- the paths of its sites from site 0 are the function's walks
abbrev pub Walked : Function → Graph → Type 0
Walked F g = (w : List Action) → Path (map plain-Site g.sites) (0 ∷ []) w ↔ IsWalk F.body w
