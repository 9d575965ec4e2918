-- What is known where the call begins of the text's variables, and what the new items declare, so that what stands in place of the run has types (REM, "Extract
-- function", outputs and control flow; Rust Reference, "Call expressions", "Match expressions", "Assignment expressions", "let statements").
use Rattle.std.specs.Prelude.{if◌then◌else◌, ◌≡◌, ◌<◌, ℕ, Bool, true, false, ◌||◌, IsTrue, List, [], ◌∷◌, map, length, Some, slice_get}
use Rattle.rx_tree.specs.Lists.{Every}
use Rattle.rx_resolve_names.specs.Scopes.{variable_named}
use Rattle.rx_resolve_names.specs.Meant.{number}
use Rattle.rx_typed.specs.declared.nodes.Node.{Node}
use Rattle.rx_typed.specs.declared.nodes.Stage.{Stage}
use Rattle.rx_typed.specs.Named.{some_diverges, Statements}
use Rattle.rx_typed.specs.Types.{keeps_limits, named as item, outline, parameters_declared, result_declared, shapes_of, tuple_of, unit_shape, variant_parts, Typ}
use Rattle.rx_hoist_extraction.specs.Plan.{by_mut, has_enum, to_break, to_continue, to_next, Exit, Leaving, Param, Variable}
use Rattle.rx_hoist_extraction.specs.Values.{held_by, next_values, result_of, types_of, value_type, values_of, Value}
use Rattle.rx_hoist_extraction.specs.NewFunction.{passed, passed_types}
use Rattle.rx_hoist_extraction.specs.Call.{is_own}
use Rattle.rx_typeck_solver.specs.declared.facts.Subject.TheVariants as subject
use Rattle.rx_typeck_solver.specs.Facts.{KnownItems}
use Rattle.rx_typeck_typed.specs.Asking.{type_of}
use Rattle.rx_engine_names.specs.Renaming.{Renaming}
use Rattle.rx_engine_names.specs.Calls.{Calls}
use Rattle.rx_engine_names.specs.HandedOut.{Handing}
use Rattle.rx_engine_blocks.specs.Renumbering.{shape_at, Renumbering}
use Rattle.rx_engine_holes.specs.CallFits.{Ends}
use Rattle.rx_engine_holes.specs.Entries.{Context}
use Rattle.rx_engine_changed.specs.Spots.{declared_at, Spot}

-- ---- variables

-- its type is known, or it waits for it at a node in front that has it
abbrev pub IsStaged : Context → Spot → Typ → Stage → Type 0
IsStaged B p t Stage.Known = Unit {0}
IsStaged B p t (Stage.Waits n s) = (n < p.number) × (B (subject.Node n) ≡ Some t)
IsStaged B p t Stage.Given = ⊥

-- a variable that was declared in front, of this type
pub record VariableStands (B : Context) (p : Spot) (k : ℕ) (t : Typ) : Type 0 where
  pub earlier : k < p.declared
  pub typed : B (subject.Variable k) ≡ Some t
  pub staged : IsStaged B p t (declared_at p k).stage

-- the one that has a name in the text is such
abbrev pub NameStands : Calls → Renaming → Renumbering → Context → Spot → Variable → Type 0
NameStands C R q B p v = (j k : ℕ) → variable_named C.scope v.name ≡ Some j → R.variable j k ≡ true → VariableStands B p k (shape_at q v.typ)

-- a param's type is known; it is `mut` where it is borrowed mutably; as it is passed, the type keeps the limits
abbrev pub ParamStands : KnownItems → Calls → Renaming → Renumbering → Context → Spot → Param → Type 0
ParamStands E C R q B p x = ((j k : ℕ) → variable_named C.scope x.variable.name ≡ Some j → R.variable j k ≡ true
    → VariableStands B p k (shape_at q x.variable.typ) × ((declared_at p k).stage ≡ Stage.Known) × (x.mode ≡ by_mut → (declared_at p k).mutable ≡ true))
    × IsTrue (keeps_limits E.sizes (outline (shape_at q (passed x.mode x.variable.typ))))

-- ---- what the new items declare

-- the type of what is handed out at the end of the run
abbrev pub handed_type : List Value → Typ
handed_type [] = unit_shape
handed_type (h ∷ []) = value_type h
handed_type (h ∷ i ∷ hs) = tuple_of (shapes_of (types_of (h ∷ i ∷ hs)))

abbrev pub KeepsLimits : KnownItems → Renumbering → Typ → Type 0
KeepsLimits E q t = IsTrue (keeps_limits E.sizes (outline (shape_at q t)))

-- the call stands in the function with the number `f`
pub record ItemsDeclare (E : KnownItems) (q : Renumbering) (G : Handing) (f : ℕ) : Type 0 where
  pub parameters : parameters_declared (slice_get E.items G.call.number) ≡ map (shape_at q) (passed_types G.call.plan.params)
  pub result : result_declared (slice_get E.items G.call.number) ≡ Some (if has_enum G.call.plan.exits then item G.enum else shape_at q (handed_type (next_values G.call.plan)))
  pub variants : has_enum G.call.plan.exits ≡ true → Every (λ (x : Leaving). variant_parts E.items G.enum (G.variant x.exit) ≡ map (shape_at q) (types_of (values_of G.call.plan x))) G.call.plan.exits
  pub own : result_declared (slice_get E.items f) ≡ Some (shape_at q G.call.plan.result)
  -- types keep the limits
  pub values : Every (λ (v : Value). KeepsLimits E q (value_type v)) (next_values G.call.plan)
  pub handed : KeepsLimits E q (handed_type (next_values G.call.plan))
  pub exits : Every (λ (x : Leaving). Every (λ (v : Value). KeepsLimits E q (value_type v)) (values_of G.call.plan x)) G.call.plan.exits
  pub redeclared : Every (λ (v : Variable). KeepsLimits E q v.typ) G.call.plan.redeclared

-- what is handed out at the end is that of the exit
abbrev pub NextAgrees : Handing → Type 0
NextAgrees G = Every (λ (x : Leaving). x.exit ≡ to_next → values_of G.call.plan x ≡ next_values G.call.plan) G.call.plan.exits

-- ---- where the call begins

-- a value that is put back into a variable which the run doesn't declare
abbrev pub ValueStands : Handing → Renaming → Renumbering → Context → Spot → Value → Type 0
ValueStands G R q B p (result_of t) = Unit {0}
ValueStands G R q B p (held_by v) = is_own G.own v ≡ false → NameStands G.call R q B p v

-- what a jump out of the run hands out
abbrev pub OutsStand : Handing → Renaming → Renumbering → Context → Spot → Exit → List Variable → Type 0
OutsStand G R q B p (to_break k) vs = Every (NameStands G.call R q B p) vs
OutsStand G R q B p (to_continue k) vs = Every (NameStands G.call R q B p) vs
OutsStand G R q B p _ vs = Unit {0}

-- the numbers of variables before the other spot are those by which they are named
pub record CallStands (E : KnownItems) (q : Renumbering) (G : Handing) (R : Renaming) (B : Context) (p : Spot) (end : Spot) : Type 0 where
  pub counted : length p.variables ≡ p.declared
  pub few : (k : ℕ) → k < end.declared → number k ≡ k
  pub params : Every (ParamStands E G.call R q B p) G.call.plan.params
  pub values : Every (ValueStands G R q B p) (next_values G.call.plan)
  pub exits : Every (λ (x : Leaving). OutsStand G R q B p x.exit x.outs) G.call.plan.exits

-- the end of the block: what it makes of the run's value; or the block has the unit, where none comes of it and it doesn't diverge
abbrev pub EndStands : KnownItems → Renumbering → Context → Node → Bool → Statements → List Value → Type 0
EndStands E q B n d ss (result_of t ∷ hs) = (u : Typ) × Ends E B n n.site (shape_at q t) u
EndStands E q B n d ss _ = (d || some_diverges ss) ≡ false → B (type_of n) ≡ Some unit_shape
