-- Where flows lead, by their own form: to what follows, to where a test has failed, and out of which loops. Nothing of what is
-- around them is asked.
use Rattle.std.specs.Prelude.{ℕ, List, [], ◌++◌, if◌then◌else◌, Bool, true, false, ◌&&◌, ◌||◌}
use Rattle.rx_lower_walks.specs.Flows.{Flow, nothing, nowhere, act, items, or, leave, passes, Items, last, do_and, ends_and, may_and, else_and, Item, doing, ending, may, trying}
use Rattle.rx_lower_walks.specs.Sums.{has, without, breaks_of, exit_way}
use Rattle.rx_lower_lifetimes.specs.declared.onward.Onward.{Onward}
use Rattle.rx_lower_lifetimes.specs.declared.onward.Front.{Front}

-- ---- two parts

abbrev pub through : Onward
through = record { ahead = true; failing = false }

abbrev pub stops : Onward
stops = record { ahead = false; failing = false }

abbrev pub then_onward : Onward → Onward → Onward
then_onward f h = record { ahead = f.ahead && h.ahead; failing = f.failing || (f.ahead && h.failing) }

abbrev pub else_onward : Onward → Onward → Onward
else_onward f h = record { ahead = f.ahead || (f.failing && h.ahead); failing = f.failing && h.failing }

abbrev pub or_onward : Onward → Onward → Onward
or_onward f h = record { ahead = f.ahead || h.ahead; failing = f.failing || h.failing }

-- ---- flows, and sequences: the loops that they leave stand as often as breaks of them are reached

abbrev mutual
  pub leads : Flow → Onward
  leads nothing = through
  leads nowhere = stops
  leads (act a) = through
  leads (items l) = leads_items l
  leads (or f g) = or_onward (leads f) (leads g)
  leads (leave x) = stops
  leads (passes l f) = record { ahead = has l (broken f); failing = false }

  pub leads_items : Items → Onward
  leads_items (last f) = leads f
  leads_items (do_and f l) = then_onward (leads f) (leads_items l)
  leads_items (ends_and n x l) = record { ahead = (leads_items l).ahead; failing = false }
  leads_items (may_and l) = record { ahead = (leads_items l).ahead; failing = true }
  leads_items (else_and f l) = else_onward (leads f) (leads_items l)

  pub broken : Flow → List ℕ
  broken nothing = []
  broken nowhere = []
  broken (act a) = []
  broken (items l) = broken_items l
  broken (or f g) = broken f ++ broken g
  broken (leave x) = breaks_of (exit_way x)
  broken (passes l f) = without l (broken f)

  pub broken_items : Items → List ℕ
  broken_items (last f) = broken f
  broken_items (do_and f l) = broken f ++ (if (leads f).ahead then broken_items l else [])
  broken_items (ends_and n x l) = broken_items l
  broken_items (may_and l) = broken_items l
  broken_items (else_and f l) = broken f ++ (if (leads f).failing then broken_items l else [])

-- ---- an item, in front of what follows it

abbrev pub item_leads : Item → Onward → Onward
item_leads (doing f) h = then_onward (leads f) h
item_leads (ending n x) h = record { ahead = h.ahead; failing = false }
item_leads may h = record { ahead = h.ahead; failing = true }
item_leads (trying f) h = else_onward (leads f) h

abbrev pub item_broken : Item → List ℕ
item_broken (doing f) = broken f
item_broken (ending n x) = []
item_broken may = []
item_broken (trying f) = broken f

-- whether what follows it is reached
abbrev pub item_goes_on : Item → Bool
item_goes_on (doing f) = (leads f).ahead
item_goes_on (ending n x) = true
item_goes_on may = true
item_goes_on (trying f) = (leads f).failing

-- where a sequence leads, by its first items and where the rest leads
abbrev pub finished : Front → Onward → Onward
finished F h = record { ahead = F.ahead || h.ahead; failing = F.failing || (F.tested && h.failing) }
