-- Functions whose orders match a part of the text.
use Rattle.std.proofs.Common.{◌≡◌, ℕ, List, [], ◌∷◌, ◌++◌, subst}
use Rattle.rx_typed.specs.Tree.{Function}
use Rattle.rx_lower_walks.specs.Actions.{Action}
use Rattle.rx_lower_walks.specs.Orders.{Order, order_function}
use Rattle.rx_lower_walks.specs.Walks.{Out, Walk, IsWalk}
use Rattle.rx_facts_tables.specs.Initialised.{InOrder, Initialised}
use Rattle.rx_meaning_keeping.proofs.Parts.{Parted}
use Rattle.rx_engine_initial.specs.Tracing.{View, Traced}
use Rattle.rx_engine_initial.specs.Matching.{Hist, Reach, Matches}
use Rattle.rx_engine_initial.specs.Variables.{Kept, as_itself, by_reference, Sides, KnownVariables, IsSeen, part_set, there_as_a_whole, not_assigned, reference_set, reference_there}
use Rattle.rx_engine_initial.specs.Copies.{world}
use Rattle.rx_lower_walks.specs.Walks.{Among}
use Rattle.rx_engine_initial.proofs.Tracing.{joined}
use Rattle.rx_engine_initial.proofs.Matched.{in_order_behind}
use Rattle.rx_engine_initial.proofs.Known.{keeps}

none_among : {A : Type 0} {B : Type 0} (a : A) → Among a [] → B
none_among a q = elim q [ ]

none_seen : (S : Sides) {V : View} {B : Type 0} → IsSeen S [] V → B
none_seen S (part_set x y n m q h l) = none_among (as_itself x y) q
none_seen S (there_as_a_whole x y qs q o) = none_among (as_itself x y) q
none_seen S (not_assigned x y q) = none_among (as_itself x y) q
none_seen S (reference_set x n q h) = none_among (by_reference x) q
none_seen S (reference_there x q) = none_among (by_reference x) q

pub initialised_so : (S : Sides) → Parted S.frame → Parted S.frame_there → Initialised S.frame_there S.muts_there S.text → (R : KnownVariables S) → R.variables ≡ [] → (f : Function) (q : Order) (w : List Action)
    → Reach (world S) q w → Matches (world S) R (order_function f) q → Initialised S.frame S.muts f
initialised_so S new old init R e f q w r m us a (rest, o, x) =
    in_order_behind (world S) (keeps S new old init) R (order_function f) q m [] w (λ V s. none_seen S (subst (λ vs. IsSeen S vs V) e s)) r us a rest o (subst (λ l. Walk (order_function f) l o) (joined us (a ∷ []) rest) x)
