-- An extraction as a whole (REM, "Extract function"): what is asked of the names of a run, its plan and the text, and what is told of each
-- function of the extraction: those that stay, the one with the call, and the new one.
use Rattle.std.specs.Prelude.{◌≡◌, ◌≤◌, ◌+◌, ◌^◌, ℕ, suc, Bool, true, false, List, [], ◌∷◌, length, Option, None, Ok}
use Rattle.rx_tree.specs.declared.tree.Ident.{Ident}
use Rattle.rx_core.specs.declared.types.Span.{Span}
use Rattle.rx_tree.specs.Lists.{Every, statements, tail}
use Rattle.rx_tree.specs.Plain as plain
use Rattle.rx_tree.specs.Plain.{Function, OptionalExpression, ProgramTree, Statement}
use Rattle.rx_resolve_names.specs.Scopes.{DeclaredNames, Variables, variable_named}
use Rattle.rx_resolve_names.specs.declared.resolved.ItemNames.{ItemNames}
use Rattle.rx_resolve_names.specs.Meant.{number, Around}
use Rattle.rx_resolve_names.specs.Steps.{Inside}
use Rattle.rx_resolve_names.specs.Names.{in_optional, in_statements, Scoped}
use Rattle.rx_resolve_names.specs.Items.{in_item}
use Rattle.rx_resolve_names.specs.Causes.{Meant}
use Rattle.rx_typed.specs.Types.{Typ}
use Rattle.rx_typed.specs.Naming.{function_named}
use Rattle.rx_hoist_extraction.specs.Names.{behind_all, is_among, Distinct}
use Rattle.rx_hoist_extraction.specs.Run.{Parts, Run, as_statements, chosen, goes_past, in_front, labels_round, run_block, run_parts}
use Rattle.rx_hoist_extraction.specs.Plan.{Bounds, Leaving, Param, Plan, Variable}
use Rattle.rx_hoist_extraction.specs.Values.{next_values, result_of, values_of}
use Rattle.rx_hoist_extraction.specs.Pinned.{pinned_function}
use Rattle.rx_hoist_extraction.specs.NewFunction.{new_function}
use Rattle.rx_hoist_extraction.specs.Extraction.{added, extraction, new_number}
use Rattle.rx_hoist_naming.specs.Words.{NamesTypes}
use Rattle.rx_engine_names.specs.Alike.{same_numbers}
use Rattle.rx_engine_names.specs.Insertion.{past, Inserted, number_there}
use Rattle.rx_engine_names.specs.LikeNamed.{LikeFunction, no_holes}
use Rattle.rx_engine_names.specs.WrittenOut.{PinsName, written_out}
use Rattle.rx_engine_names.specs.Within.{OptionalWithin, StatementsWithin}
use Rattle.rx_engine_names.specs.Moves.{labels_of, rounds, Moves}
use Rattle.rx_engine_names.specs.NewFunction.{moves_by, place_of, NewFunctionAlike}
use Rattle.rx_engine_names.specs.NewPlan.{run_claims, PlanNames}
use Rattle.rx_engine_names.specs.Placed.{inside_of}
use Rattle.rx_engine_names.specs.HandedOut.{Handing}
use Rattle.rx_engine_names.specs.HandsOver.{at_place, received_names, ExitStands, MeansOne, ValueStands}
use Rattle.rx_engine_names.specs.CalledRuns.{handing_of, BehindAgrees, LikeCalled, LikeCalledLast, RunStands}

-- ---- what the text says where the run begins, apart from the names of the new items

pub record NamesHandedOut (G : Handing) : Type 0 where
  pub unnamed : variable_named G.call.scope G.call.plan.name ≡ None
  pub params : Every (λ (x : Param). MeansOne G.call.scope x.variable.name) G.call.plan.params
  pub exits : Every (λ (x : Leaving). ExitStands G x.exit x.outs) G.call.plan.exits
  pub values : Every (ValueStands G) (next_values G.call.plan)
  pub received : Distinct (received_names G.call.plan G.own 0 (next_values G.call.plan))
  pub redeclared : Every (λ (v : Variable). is_among v.name G.call.plan.identifiers ≡ true) G.call.plan.redeclared
  pub fresh_exits : Every (λ (x : Leaving). length G.call.plan.identifiers + length (values_of G.call.plan x) ≤ 2 ^ 64) G.call.plan.exits
  pub fresh_values : length G.call.plan.identifiers + length (next_values G.call.plan) ≤ 2 ^ 64

-- wherever the run's block may stand; where something follows the run there, and where it goes to the block's end
abbrev pub NamesThere : Inside → List (Option Ident) → List Statement → List Statement → Handing → Type 0
NamesThere I labels front run G = (scope : Variables) (around : List Around) (at : List ℕ) (t : ItemNames) (r s : Scoped) (i : ℕ) → variable_named scope G.call.plan.name ≡ None → in_statements I scope around at 0 (as_statements front) t ≡ Ok r
    → in_statements I r.scope around at i (as_statements run) r.tables ≡ Ok s → labels_of around ≡ labels → NamesHandedOut (at_place G r.scope around)

abbrev pub NamesLast : Inside → List (Option Ident) → List Statement → List Statement → OptionalExpression → Handing → Type 0
NamesLast I labels front run tail G = (scope : Variables) (around : List Around) (at : List ℕ) (t : ItemNames) (r s : Scoped) (i : ℕ) → variable_named scope G.call.plan.name ≡ None → in_statements I scope around at 0 (as_statements front) t ≡ Ok r
    → in_statements I r.scope around at i (as_statements run) r.tables ≡ Ok s → (path : List ℕ) (t' : ItemNames) → in_optional I s.scope around path tail s.tables ≡ Ok t' → labels_of around ≡ labels → NamesHandedOut (at_place G r.scope around)

-- ---- the call, with the numbers of the new items

abbrev pub handing_there : Run → Plan → Function → Handing
handing_there r pl g = handing_of r pl g (new_number r pl) (suc r.item) (λ x. number (place_of x pl.exits))

abbrev pub moves_there : Run → Plan → List Around → Variables → Moves
moves_there r pl loops scope = moves_by pl r.span loops scope (suc r.item)

-- whether the run goes to its block's end
abbrev pub goes_to_end : Run → Function → Bool
goes_to_end r g = goes_past r (statements (run_block r g))

abbrev pub RunSays : Bool → ProgramTree → Span → Function → Run → Plan → Type 0
RunSays false P s g r pl = BehindAgrees P r pl g × NamesThere (inside_of P r.item s g) (labels_round r g) (in_front r (statements (run_block r g))) (chosen r (statements (run_block r g))) (handing_there r pl g)
RunSays true P s g r pl = NamesLast (inside_of P r.item s g) (labels_round r g) (in_front r (statements (run_block r g))) (chosen r (statements (run_block r g))) (tail (run_block r g)) (handing_there r pl g)

-- ---- what is asked: g is the function with its kinds and types written out

pub record CallNames (P : ProgramTree) (r : Run) (pl : Plan) (s : Span) (g : Function) : Type 0 where
  pub redeclared : Every (λ (v : Variable). NamesTypes P v.typ) pl.redeclared
  pub alone : (t : Typ) → next_values pl ≡ result_of t ∷ [] → pl.redeclared ≡ []
  pub stands : RunStands r pl g
  pub says : RunSays (goes_to_end r g) P s g r pl

-- the run resolves, in a scope and with loops round it as the text has them, and its names are its own or of params and locals
pub record RunNames (P : ProgramTree) (r : Run) (pl : Plan) (g : Function) (loops : List Around) (scope : Variables) : Type 0 where
  pub round : labels_of loops ≡ labels_round r g
  pub plan : PlanNames P (moves_there r pl loops scope) (run_parts r g)
  pub item : ℕ
  pub lifetimes : DeclaredNames
  pub at : List ℕ
  pub from : ℕ
  pub before : ItemNames
  pub end : Scoped
  pub resolves : in_statements (record { program = P; item = item; lifetimes = lifetimes }) scope loops at from (as_statements (run_parts r g).statements) before ≡ Ok end
  pub tail_at : List ℕ
  pub after : ItemNames
  pub ends : in_optional (record { program = P; item = item; lifetimes = lifetimes }) end.scope loops tail_at (run_parts r g).tail end.tables ≡ Ok after
  pub names : StatementsWithin (run_claims (moves_there r pl loops scope)) [] (rounds (moves_there r pl loops scope)) (as_statements (run_parts r g).statements)
  pub tail_names : OptionalWithin (run_claims (moves_there r pl loops scope)) (behind_all [] (as_statements (run_parts r g).statements)) (rounds (moves_there r pl loops scope)) (run_parts r g).tail

-- ---- what is told

abbrev pub Called : Bool → (p q : ProgramTree) (c : Inserted p q) (s : Span) (g : Function) (r : Run) (pl : Plan) (t : ItemNames) → Type 0
Called false p q c s g r pl t = LikeCalled p q c r.item r.item s g r pl (handing_there r pl g) t
Called true p q c s g r pl t = LikeCalledLast p q c r.item r.item s g r pl (handing_there r pl g) t

pub record ExtractionAlike (p : ProgramTree) (r : Run) (pl : Plan) (bs : Bounds) (c : Inserted p (extraction p r pl bs)) (s : Span) (f : Function) (t : ItemNames) (loops : List Around) (scope : Variables)
    (run : RunNames p r pl (pinned_function p r.span pl.pins f) loops scope) : Type 0 where
  pub names : List ItemNames
  pub meant : Meant (extraction p r pl bs) names
  -- an item behind the function of the run has a number greater by the number of new items
  pub numbers : (n : ℕ) → number_there c n ≡ past r.item (added pl) n
  -- a function that stays, whatever its numbers
  pub stays : (n m : ℕ) (place : Span) (h : Function) (v : ItemNames) → in_item p n (plain.function_item place h) ≡ Ok v
      → (u : ItemNames) × (in_item (extraction p r pl bs) m (plain.function_item place h) ≡ Ok u) × LikeFunction no_holes (same_numbers (number_there c)) (function_named n place h v.names) (function_named m place h u.names)
  -- the function of the run with its kinds and types written out, in the program itself
  pub pinned : ItemNames
  pub pinned_resolves : in_item p r.item (plain.function_item s (pinned_function p r.span pl.pins f)) ≡ Ok pinned
  pub pinned_alike : LikeFunction (written_out pl.pins) (same_numbers (λ k. k)) (function_named r.item s f t.names) (function_named r.item s (pinned_function p r.span pl.pins f) pinned.names)
  -- with the call
  pub called : Called (goes_to_end r (pinned_function p r.span pl.pins f)) p (extraction p r pl bs) c s (pinned_function p r.span pl.pins f) r pl pinned
  -- the new function
  pub made : NewFunctionAlike (number_there c) p (extraction p r pl bs) (moves_there r pl loops scope) (new_number r pl) (new_function p pl bs r.span (rounds (moves_there r pl loops scope)) (run_parts r (pinned_function p r.span pl.pins f)))
      (as_statements (run_parts r (pinned_function p r.span pl.pins f)).statements) (run_parts r (pinned_function p r.span pl.pins f)).tail run.before run.after run.end.scope
