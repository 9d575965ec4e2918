-- The actions of a flow that some walk holds, in the order of the text, without the ends of variables; what they fill, and how
-- many lifetimes they have of their own.
use Rattle.std.specs.Prelude.{ℕ, ◌+◌, List, [], ◌∷◌, ◌++◌, if◌then◌else◌, Bool, true}
use Rattle.rx_lower_walks.specs.Actions.{Action, filled}
use Rattle.rx_lower_walks.specs.Flows.{Flow, nothing, nowhere, act, items, or, leave, passes, Items, last, do_and, ends_and, may_and, else_and, Item, doing, ending, may, trying}
use Rattle.rx_lower_walks.specs.Around.{nothing_around}
use Rattle.rx_lower_walks.specs.Sums.{sum}
use Rattle.rx_typed.specs.Numbers.{capped}
use Rattle.rx_lower_lifetimes.specs.Values.{KnownTypes, Held, value_type, hold}
use Rattle.rx_lower_lifetimes.specs.Positions.{own_lifetimes}

abbrev mutual
  pub held_acts : Flow → List Action
  held_acts nothing = []
  held_acts nowhere = []
  held_acts (act a) = a ∷ []
  held_acts (items l) = held_items l
  held_acts (or f g) = held_acts f ++ held_acts g
  held_acts (leave x) = []
  held_acts (passes l f) = held_acts f

  pub held_items : Items → List Action
  held_items (last f) = held_acts f
  held_items (do_and f l) = held_acts f ++ (if (sum nothing_around f).ahead then held_items l else [])
  held_items (else_and f l) = held_acts f ++ (if (sum nothing_around f).failing then held_items l else [])
  held_items (ends_and n x l) = held_items l
  held_items (may_and l) = held_items l

-- those of an item, and whether what follows it is reached
abbrev pub item_acts : Item → List Action
item_acts (doing f) = held_acts f
item_acts (ending n x) = []
item_acts may = []
item_acts (trying f) = held_acts f

abbrev pub goes_on : Item → Bool
goes_on (doing f) = (sum nothing_around f).ahead
goes_on (ending n x) = true
goes_on may = true
goes_on (trying f) = (sum nothing_around f).failing

-- what is noted of actions: the temporaries that they fill, and their own lifetimes
pub record Notes : Type 0 where
  pub held : List Held
  pub own : ℕ

abbrev pub noted : KnownTypes → Notes → Action → Notes
noted K N a = record { held = hold N.held (filled a.act) (value_type K N.held a.act); own = capped (N.own + own_lifetimes K.items a.act) }

abbrev pub all_noted : KnownTypes → Notes → List Action → Notes
all_noted K N [] = N
all_noted K N (a ∷ us) = all_noted K (noted K N a) us
