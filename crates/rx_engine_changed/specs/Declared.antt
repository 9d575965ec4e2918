-- What the call declares for the text (Rust Reference, "let statements", "Identifier patterns"): a variable that is known at a spot, and is `mut` or not; and whether
-- those are `mut` that are bound to what is handed out, in order.
use Rattle.std.specs.Prelude.{if◌then◌else◌, ◌≡◌, ◌<◌, ℕ, Bool, true, List, [], ◌∷◌, ◌++◌, Some, slice_get}
use Rattle.rx_tree.specs.Plain.{Statement}
use Rattle.rx_resolve_names.specs.Scopes.{variable_named, Variables}
use Rattle.rx_typed.specs.declared.nodes.Stage.{Stage}
use Rattle.rx_typed.specs.Naming.{Cursor}
use Rattle.rx_hoist_extraction.specs.Names.{behind_all, is_among, Names}
use Rattle.rx_hoist_extraction.specs.Plan.{Variable}
use Rattle.rx_hoist_extraction.specs.Run.{as_statements}
use Rattle.rx_hoist_extraction.specs.Values.{held_by, next_values, result_of, Value}
use Rattle.rx_hoist_extraction.specs.Call.{is_own}
use Rattle.rx_engine_names.specs.HandedOut.{received_mutable, Handing}
use Rattle.rx_engine_changed.specs.Spots.{declared_at, Spot}
use Rattle.rx_engine_changed.specs.Stages.{as_declared}

pub record IsKnownVariable (p : Spot) (k : ℕ) (b : Bool) : Type 0 where
  pub earlier : k < p.declared
  pub mutable : (declared_at p k).mutable ≡ b
  pub known : (declared_at p k).stage ≡ Stage.Known

abbrev pub bound_mutable : Handing → List Value → List Bool
bound_mutable G [] = []
bound_mutable G (result_of t ∷ []) = []
bound_mutable G (held_by v ∷ []) = if is_own G.own v then v.mutable ∷ [] else []
bound_mutable G (h ∷ i ∷ hs) = received_mutable G.own (h ∷ i ∷ hs)

-- those that the call declares: of what is handed out what direct statements of the run declare, and what is redeclared
abbrev pub own_among : Names → List Value → List Variable
own_among own [] = []
own_among own (result_of t ∷ hs) = own_among own hs
own_among own (held_by v ∷ hs) = if is_own own v then v ∷ own_among own hs else own_among own hs

abbrev pub handed_on : Handing → List Variable
handed_on G = own_among G.own (next_values G.call.plan) ++ G.call.plan.redeclared

-- The run declares them so: from these scopes and cursors to those. What it binds are words of the text, and what was in scope in front was declared in front.
pub record RunHandsOn (G : Handing) (run : List Statement) (front behind : Variables) (c d : Cursor) : Type 0 where
  pub words : (z : List ℕ) → is_among z (behind_all [] (as_statements run)) ≡ true → is_among z G.call.plan.identifiers ≡ true
  pub scoped : (z : List ℕ) (n : ℕ) → variable_named front z ≡ Some n → n < c.declared
  pub known : (i : ℕ) (v : Variable) (n : ℕ) → slice_get (handed_on G) i ≡ Some v → variable_named behind v.name ≡ Some n → slice_get d.variables n ≡ as_declared v.mutable Stage.Known
