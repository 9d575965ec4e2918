-- What a call that stands for the run asks of the histories of the text that runs (rx_engine_simulation), where the run is entered and
-- where it is left by an exit.
use Rattle.std.specs.Prelude.{◌≡◌, ℕ, Bool, List, ◌∷◌, Some}
use Rattle.rx_typed.specs.Tree.{Body, Temporary}
use Rattle.rx_lower_walks.specs.Actions.{Action}
use Rattle.rx_lower_walks.specs.Orders.{order_body}
use Rattle.rx_lower_walks.specs.Walks.{Among}
use Rattle.rx_exits_plan.specs.Points.{Exit, enters, leaves}
use Rattle.rx_exits_plan.specs.Marked.{shown}
use Rattle.rx_exits_plan.specs.Asked.{Asked}
use Rattle.rx_exits_plan.specs.Plan.{Plan}
use Rattle.rx_engine_simulation.specs.Histories.{Facts}
use Rattle.rx_engine_simulation.specs.Sights.{In, special, sight, Renaming, sight_of}
use Rattle.rx_engine_simulation.specs.Programs.{IsHistory, Untouched, facts_of}
use Rattle.rx_engine_simulation.specs.Arrivals.{Aim, Arrives}
use Rattle.rx_engine_simulation.specs.Blocks.{Stretch, before}
use Rattle.rx_engine_simulation.specs.Marks.{with_mark}
use Rattle.rx_engine_related.specs.AboutRun.{special_of, about_run}
use Rattle.rx_engine_related.specs.Running.{running_of}

-- what is known of the text that runs
abbrev pub known_of : (A : Asked) (muts : List Bool) (k : Plan) → Untouched (running_of A k.params) (about_run A muts k) → Facts
known_of A muts k u = facts_of (running_of A k.params) (about_run A muts k) u

-- in front of these statements of the run, with the mark and the reads
abbrev pub InFront : (A : Asked) (muts : List Bool) (k : Plan) → Untouched (running_of A k.params) (about_run A muts k) → Stretch → Body → List Action → Type 0
InFront A muts k u r rest h = (i : ℕ) × (t : Temporary) × (known_of A muts k u).Comes (order_body (before (with_mark enters k.params r) rest) i t) h

-- each history that arrives there has the exit's mark as its newest action
abbrev pub ByMark : (A : Asked) (muts : List Bool) (k : Plan) → Untouched (running_of A k.params) (about_run A muts k) → Exit → Aim → Type 0
ByMark A muts k u e a = (h : List Action) → Arrives (known_of A muts k u) a h → (h0 : List Action) × (h ≡ shown (leaves e) ∷ h0) × IsHistory (running_of A k.params) h

-- what is elsewhere in the answer may be, and the exit does not hand it out
abbrev pub NotHanded : Asked → List Bool → Plan → Exit → Renaming → Type 0
NotHanded A muts k e R = (x y : ℕ) → sight_of R x ≡ Some (sight y special) → In x (special_of A muts k) × (Among x (k.outs e) → ⊥)
