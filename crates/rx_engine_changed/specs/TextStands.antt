-- The text's variables where its run begins, with their types and stages, so that they stand where the call does (REM, "Extract function", inputs and outputs;
-- Rust Reference, "Type inference", "let statements").
use Rattle.std.specs.Prelude.{◌≡◌, ◌<◌, ℕ, Bool, true, false, IsTrue, Some, List}
use Rattle.rx_tree.specs.Lists.{Every}
use Rattle.rx_tree.specs.Plain.{OptionalExpression, Statement}
use Rattle.rx_resolve_names.specs.Scopes.{variable_named}
use Rattle.rx_resolve_names.specs.Steps.{Inside}
use Rattle.rx_typed.specs.declared.nodes.Node.{Node}
use Rattle.rx_typed.specs.declared.nodes.Stage.{Stage}
use Rattle.rx_typed.specs.Naming.{declaration, Cursor}
use Rattle.rx_typed.specs.Types.{keeps_limits, outline, Typ}
use Rattle.rx_hoist_extraction.specs.Plan.{by_mut, to_break, to_continue, Exit, Leaving, Param, Variable}
use Rattle.rx_hoist_extraction.specs.Values.{held_by, next_values, result_of, Value}
use Rattle.rx_hoist_extraction.specs.NewFunction.{passed}
use Rattle.rx_hoist_extraction.specs.Call.{is_own}
use Rattle.rx_typeck_solver.specs.declared.facts.Subject.TheVariants as subject
use Rattle.rx_typeck_solver.specs.Facts.{Assignment, KnownItems}
use Rattle.rx_engine_names.specs.Calls.{Calls}
use Rattle.rx_engine_names.specs.HandedOut.{Handing}
use Rattle.rx_engine_names.specs.HandsOver.{at_place, told_handed, told_last}
use Rattle.rx_engine_names.specs.Renaming.{Renaming}
use Rattle.rx_engine_blocks.specs.Renumbering.{shape_at, Renumbering}
use Rattle.rx_engine_changed.specs.Beside.{Instead, Piece}
use Rattle.rx_engine_changed.specs.Once.{IsToldCall, IsToldLast}
use Rattle.rx_engine_changed.specs.Stages.{Mutability}

-- its type is known, or it waits for it at a node that has it
abbrev pub IsStagedHere : Assignment → Typ → Stage → Type 0
IsStagedHere A t Stage.Known = Unit {0}
IsStagedHere A t (Stage.Waits n s) = A (subject.Node n) ≡ t
IsStagedHere A t Stage.Given = ⊥

-- declared in front, of this type
pub record StandsHere (A : Assignment) (c : Cursor) (n : ℕ) (t : Typ) : Type 0 where
  pub earlier : n < c.declared
  pub typed : A (subject.Variable n) ≡ t
  pub staged : IsStagedHere A t (declaration c n).stage

-- so is the one that has a name
abbrev pub NameStandsHere : Assignment → Calls → Cursor → Variable → Type 0
NameStandsHere A C c v = (n : ℕ) → variable_named C.scope v.name ≡ Some n → StandsHere A c n v.typ

-- a param is known, and `mut` where it is borrowed mutably; as it is passed, its type keeps the limits in the other program
abbrev pub ParamStandsHere : Assignment → KnownItems → Renumbering → Calls → Cursor → Param → Type 0
ParamStandsHere A E q C c x = ((n : ℕ) → variable_named C.scope x.variable.name ≡ Some n
    → StandsHere A c n x.variable.typ × ((declaration c n).stage ≡ Stage.Known) × (x.mode ≡ by_mut → (declaration c n).mutable ≡ true))
    × IsTrue (keeps_limits E.sizes (outline (shape_at q (passed x.mode x.variable.typ))))

-- a value that is put back into a variable which the run doesn't declare
abbrev pub ValueStandsHere : Assignment → Handing → Cursor → Value → Type 0
ValueStandsHere A G c (result_of t) = Unit {0}
ValueStandsHere A G c (held_by v) = is_own G.own v ≡ false → NameStandsHere A G.call c v

abbrev pub OutsStandHere : Assignment → Handing → Cursor → Exit → List Variable → Type 0
OutsStandHere A G c (to_break k) vs = Every (NameStandsHere A G.call c) vs
OutsStandHere A G c (to_continue k) vs = Every (NameStandsHere A G.call c) vs
OutsStandHere A G c _ vs = Unit {0}

-- all of the plan's
pub record TextStands (A : Assignment) (E : KnownItems) (q : Renumbering) (G : Handing) (c : Cursor) : Type 0 where
  pub params : Every (ParamStandsHere A E q G.call c) G.call.plan.params
  pub values : Every (ValueStandsHere A G c) (next_values G.call.plan)
  pub exits : Every (λ (x : Leaving). OutsStandHere A G c x.exit x.outs) G.call.plan.exits

-- the plan as it is handed out where the text comes to the run, and to the run at its block's end
abbrev pub handing_here : (G : Handing) {R : Renaming} {W : Mutability} {I I' : Inside} {C : Cursor → Cursor → Type 0} {front run call : List Statement} {made : List Piece} {i : Instead} → IsToldCall R W (told_handed G) I I' C front run call made i → Handing
handing_here G x = at_place G x.stands.text.middle.scope x.place.around

abbrev pub handing_last : (G : Handing) {R : Renaming} {W : Mutability} {I I' : Inside} {C : Node → Bool → Cursor → Cursor → Type 0} {front run call : List Statement} {tail last : OptionalExpression} {made : List Piece} {i : Instead} → IsToldLast R W (told_last G) I I' C front run call tail last made i → Handing
handing_last G x = at_place G x.stands.text.middle.scope x.place.around
