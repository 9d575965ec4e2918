-- What is asked where the call stands (Rust Reference, "Scopes", "Paths", "Loop labels", "Identifiers"), and what is told of it there: its
-- statements and its tail resolve, their trees are those of what is handed out, and these names are bound behind them, in order.
use Rattle.std.specs.Prelude.{◌≡◌, ◌≤◌, ◌+◌, ◌^◌, ℕ, suc, true, false, if◌then◌else◌, List, [], ◌∷◌, ◌++◌, length, Option, Some, None, Ok}
use Rattle.rx_tree.specs.declared.tree.Ident.{Ident}
use Rattle.rx_core.specs.declared.types.Span.{Span}
use Rattle.rx_tree.specs.Lists.{Every}
use Rattle.rx_tree.specs.Plain.{OptionalExpression, Statement, ProgramTree}
use Rattle.rx_resolve_names.specs.Scopes.{DeclaredNames, Variables, variable_named, entered}
use Rattle.rx_resolve_names.specs.declared.resolved.ItemNames.{ItemNames}
use Rattle.rx_resolve_names.specs.declared.resolved.NodeNames.{NodeNames}
use Rattle.rx_resolve_names.specs.Meant.{number, function_name, item_named, as_function, Around, to_loop, target}
use Rattle.rx_resolve_names.specs.Steps.{Inside}
use Rattle.rx_resolve_names.specs.Names.{variant_in, in_statements, in_optional, Scoped}
use Rattle.rx_typed.specs.declared.nodes.Site.{Site}
use Rattle.rx_typed.specs.Naming.{Cursor, of_optional, of_statements}
use Rattle.rx_hoist_extraction.specs.Names.{Names, is_among, Distinct}
use Rattle.rx_hoist_extraction.specs.Run.{Parts, as_statements}
use Rattle.rx_hoist_extraction.specs.Plan.{Exit, to_next, to_break, to_continue, to_return, Variable, Param, Leaving, Plan, has_enum, names_of, enum_name, exit_name}
use Rattle.rx_hoist_extraction.specs.Values.{Value, result_of, held_by, values_of, next_values}
use Rattle.rx_hoist_extraction.specs.Fresh.{fresh_variable}
use Rattle.rx_hoist_extraction.specs.Made.{ident}
use Rattle.rx_hoist_extraction.specs.NewBody.{declared}
use Rattle.rx_hoist_extraction.specs.Call.{jump_label, is_own, whole_call, handed, in_front_of_tail}
use Rattle.rx_engine_names.specs.Renaming.{Renaming, Has, Made, Serves}
use Rattle.rx_engine_names.specs.Moves.{StandsAt, labels_of}
use Rattle.rx_engine_names.specs.Placed.{Told, ToldLast}
use Rattle.rx_engine_names.specs.Calls.{Calls, ParamsMeant, FunctionMeant}
use Rattle.rx_engine_names.specs.HandedOut.{Handing, RoundIs, IsWhole, AreHanded, AreRedeclared, IsTail}

-- a name means variables that correspond
abbrev pub NameMeant : Handing → Made → Variables → List ℕ → Type 0
NameMeant G M sc' x = (n : ℕ) × (m : ℕ) × (variable_named G.call.scope x ≡ Some n) × (variable_named sc' x ≡ Some m) × Has M.variables n m

-- an out that is assigned: so does its name, which is a word of the text
abbrev pub OutMeant : Handing → Made → Variables → Variable → Type 0
OutMeant G M sc' v = NameMeant G M sc' v.name × (is_among v.name G.call.plan.identifiers ≡ true)

-- the label that is made for a jump leads to the loop that corresponds to the run's
abbrev pub LoopMeant : Handing → Made → List Around → ℕ → Type 0
LoopMeant G M ls' k = (l : ℕ) × (m : ℕ) × RoundIs G l k × (target (jump_label G.call.place (labels_of G.loops) k) ls' ≡ to_loop m) × Has M.loops l m

abbrev pub ExitMeant : Handing → Made → Variables → List Around → Exit → List Variable → Type 0
ExitMeant G M sc' ls' to_next vs = Unit {0}
ExitMeant G M sc' ls' (to_break k) vs = LoopMeant G M ls' k × Every (OutMeant G M sc') vs
ExitMeant G M sc' ls' (to_continue k) vs = LoopMeant G M ls' k × Every (OutMeant G M sc') vs
ExitMeant G M sc' ls' to_return vs = Unit {0}

abbrev pub ValueMeant : Handing → Made → Variables → Value → Type 0
ValueMeant G M sc' (result_of t) = Unit {0}
ValueMeant G M sc' (held_by v) = is_own G.own v ≡ false → OutMeant G M sc' v

-- the names that several values are bound to, from value i on
abbrev pub received_names : Plan → Names → ℕ → List Value → Names
received_names pl own i [] = []
received_names pl own i (result_of t ∷ hs) = fresh_variable pl.identifiers i ∷ received_names pl own (suc i) hs
received_names pl own i (held_by v ∷ hs) = (if is_own own v then v.name else fresh_variable pl.identifiers i) ∷ received_names pl own (suc i) hs

-- the names that are bound where the values are handed out
abbrev pub handed_names : Plan → Names → List Value → Names
handed_names pl own [] = []
handed_names pl own (result_of t ∷ []) = []
handed_names pl own (held_by v ∷ []) = if is_own own v then v.name ∷ [] else []
handed_names pl own (h ∷ i ∷ hs) = received_names pl own 0 (h ∷ i ∷ hs)

-- names that are bound, with numbers from d on
abbrev pub declared_from : Span → ℕ → Names → DeclaredNames
declared_from s d [] = []
declared_from s d (x ∷ xs) = (x, record { number = number d; span = s }) ∷ declared_from s (suc d) xs

pub record HandsOver (G : Handing) (I' : Inside) (sc' : Variables) (ls' : List Around) (M : Made) : Type 0 where
  pub function : FunctionMeant G.call I' sc'
  pub params : ParamsMeant G.call M sc' G.call.plan.params
  -- the enum has a variant for each exit, where there is an enum
  pub variants : has_enum G.call.plan.exits ≡ true
      → Every (λ (x : Leaving). variant_in I' (ident G.call.place (enum_name G.call.plan)) (ident G.call.place (exit_name x.exit)) ≡ Ok (G.enum ∷ G.variant x.exit ∷ [])) G.call.plan.exits
  pub exits : Every (λ (x : Leaving). ExitMeant G M sc' ls' x.exit x.outs) G.call.plan.exits
  pub values : Every (ValueMeant G M sc') (next_values G.call.plan)
  pub received : Distinct (received_names G.call.plan G.own 0 (next_values G.call.plan))
  pub redeclared : Every (λ (v : Variable). is_among v.name G.call.plan.identifiers ≡ true) G.call.plan.redeclared
  -- fresh names are found
  pub fresh_exits : Every (λ (x : Leaving). length G.call.plan.identifiers + length (values_of G.call.plan x) ≤ 2 ^ 64) G.call.plan.exits
  pub fresh_values : length G.call.plan.identifiers + length (next_values G.call.plan) ≤ 2 ^ 64

-- what stands in place of the run, round which loops with these labels stand, whose direct statements declare these names
abbrev pub parts_for : ProgramTree → Plan → Span → Names → List (Option Ident) → Parts
parts_for P pl s own labels = in_front_of_tail (handed pl s own (whole_call pl s labels) (next_values pl)) (declared P s pl.redeclared)

abbrev pub handing_parts : ProgramTree → Handing → Parts
handing_parts P G = parts_for P G.call.plan G.call.place G.own (labels_of G.loops)

-- ---- what the text says: where the run begins there, names mean variables, and the jumps of the exits lead to loops round it

abbrev pub MeansOne : Variables → List ℕ → Type 0
MeansOne sc x = (n : ℕ) × (variable_named sc x ≡ Some n)

abbrev pub WordMeansOne : Handing → Variable → Type 0
WordMeansOne G v = MeansOne G.call.scope v.name × (is_among v.name G.call.plan.identifiers ≡ true)

abbrev pub LeadsOut : Handing → ℕ → Type 0
LeadsOut G k = (l : ℕ) × RoundIs G l k × (target (jump_label G.call.place (labels_of G.loops) k) G.loops ≡ to_loop l)

abbrev pub ExitStands : Handing → Exit → List Variable → Type 0
ExitStands G to_next vs = Unit {0}
ExitStands G (to_break k) vs = LeadsOut G k × Every (WordMeansOne G) vs
ExitStands G (to_continue k) vs = LeadsOut G k × Every (WordMeansOne G) vs
ExitStands G to_return vs = Unit {0}

abbrev pub ValueStands : Handing → Value → Type 0
ValueStands G (result_of t) = Unit {0}
ValueStands G (held_by v) = is_own G.own v ≡ false → WordMeansOne G v

pub record HandsOut (G : Handing) (I' : Inside) : Type 0 where
  -- the new function is found by its name, which names no variable
  pub function : as_function (item_named function_name 0 I'.program G.call.plan.name) ≡ Some G.call.number
  pub unnamed : variable_named G.call.scope G.call.plan.name ≡ None
  pub params : Every (λ (x : Param). MeansOne G.call.scope x.variable.name) G.call.plan.params
  pub variants : has_enum G.call.plan.exits ≡ true
      → Every (λ (x : Leaving). variant_in I' (ident G.call.place (enum_name G.call.plan)) (ident G.call.place (exit_name x.exit)) ≡ Ok (G.enum ∷ G.variant x.exit ∷ [])) G.call.plan.exits
  pub exits : Every (λ (x : Leaving). ExitStands G x.exit x.outs) G.call.plan.exits
  pub values : Every (ValueStands G) (next_values G.call.plan)
  pub received : Distinct (received_names G.call.plan G.own 0 (next_values G.call.plan))
  pub redeclared : Every (λ (v : Variable). is_among v.name G.call.plan.identifiers ≡ true) G.call.plan.redeclared
  pub fresh_exits : Every (λ (x : Leaving). length G.call.plan.identifiers + length (values_of G.call.plan x) ≤ 2 ^ 64) G.call.plan.exits
  pub fresh_values : length G.call.plan.identifiers + length (next_values G.call.plan) ≤ 2 ^ 64

-- the scope behind it, where the first name that is bound has number d, the first that is redeclared number e
abbrev pub scope_behind : Handing → ℕ → ℕ → Variables → Variables
scope_behind G d e sc' = entered (entered sc' (declared_from G.call.place d (handed_names G.call.plan G.own (next_values G.call.plan)))) (declared_from G.call.place e (names_of G.call.plan.redeclared))

-- a tail that resolves, and its tree
pub record Ended (items : ℕ → ℕ) (G : Handing) (I' : Inside) (sc : Variables) (ls' : List Around) (M : Made) (way : List ℕ) (o : OptionalExpression) (d : ℕ) (u : ItemNames) : Type 0 where
  pub tables : ItemNames
  pub resolves : in_optional I' sc ls' way o u ≡ Ok tables
  pub added : List NodeNames
  pub grown : tables.names ≡ u.names ++ added
  pub like : (R : Renaming) → Serves items M R → (k : Site) (c : Cursor) (rest : List NodeNames) → StandsAt u c → c.names ≡ added ++ rest → IsTail G.call.place (IsWhole G R (has_enum G.call.plan.exits)) d (next_values G.call.plan) (of_optional k o c).0

-- the same where the run begins in this scope, with these round it
abbrev pub with_scope : Calls → Variables → Calls
with_scope C sc = record C { scope = sc }

abbrev pub at_place : Handing → Variables → List Around → Handing
at_place G sc ls = record G { call = with_scope G.call sc; loops = ls }

-- the text says so wherever the run's block may stand, and the new function's name means no variable; and where the run is the block's end
abbrev pub HandsOutThere : Inside → Inside → List (Option Ident) → List Statement → List Statement → Handing → Type 0
HandsOutThere I I' labels front run G = (scope : Variables) (around : List Around) (at : List ℕ) (t : ItemNames) (r s : Scoped) (i : ℕ) → variable_named scope G.call.plan.name ≡ None → in_statements I scope around at 0 (as_statements front) t ≡ Ok r
    → in_statements I r.scope around at i (as_statements run) r.tables ≡ Ok s → labels_of around ≡ labels → HandsOut (at_place G r.scope around) I'

abbrev pub HandsOutLast : Inside → Inside → List (Option Ident) → List Statement → List Statement → OptionalExpression → Handing → Type 0
HandsOutLast I I' labels front run tail G = (scope : Variables) (around : List Around) (at : List ℕ) (t : ItemNames) (r s : Scoped) (i : ℕ) → variable_named scope G.call.plan.name ≡ None → in_statements I scope around at 0 (as_statements front) t ≡ Ok r
    → in_statements I r.scope around at i (as_statements run) r.tables ≡ Ok s → (path : List ℕ) (t' : ItemNames) → in_optional I s.scope around path tail s.tables ≡ Ok t' → labels_of around ≡ labels → HandsOut (at_place G r.scope around) I'

pub record HandedOver (items : ℕ → ℕ) (P : ProgramTree) (G : Handing) (I' : Inside) (sc' : Variables) (ls' : List Around) (M : Made) (at' : List ℕ) (i' : ℕ) (u : ItemNames) : Type 0 where
  -- the number of the first variable that is redeclared
  pub later : ℕ
  pub tables : ItemNames
  pub resolves : in_statements I' sc' ls' at' i' (as_statements (handing_parts P G).statements) u ≡ Ok (record { scope = scope_behind G (length u.vars) later sc'; tables = tables })
  pub added : List NodeNames
  pub grown : tables.names ≡ u.names ++ added
  pub like : (R : Renaming) → Serves items M R → (c : Cursor) (rest : List NodeNames) → StandsAt u c → c.names ≡ added ++ rest
      → AreHanded G R (IsWhole G R (has_enum G.call.plan.exits)) (AreRedeclared G.call.place R later G.call.plan.redeclared) (length u.vars) (next_values G.call.plan) (of_statements (as_statements (handing_parts P G).statements) c).0
  pub ends : (way : List ℕ) → Ended items G I' (scope_behind G (length u.vars) later sc') ls' M way (handing_parts P G).tail (length u.vars) tables

-- what is told of it where it stands for a run: its tree and the names that are bound behind it; with a tail, that of the tail too
abbrev pub told_handed : Handing → Told
told_handed G sc ls sc' u end R y = (later : ℕ) × (end.scope ≡ scope_behind G (length u.vars) later sc')
    × AreHanded (at_place G sc ls) R (IsWhole (at_place G sc ls) R (has_enum G.call.plan.exits)) (AreRedeclared G.call.place R later G.call.plan.redeclared) (length u.vars) (next_values G.call.plan) y

abbrev pub told_last : Handing → ToldLast
told_last G sc ls sc' u end R y o = told_handed G sc ls sc' u end R y × IsTail G.call.place (IsWhole (at_place G sc ls) R (has_enum G.call.plan.exits)) (length u.vars) (next_values G.call.plan) o
