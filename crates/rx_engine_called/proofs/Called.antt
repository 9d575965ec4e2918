-- Wherever the run's block may stand, names of its plan mean variables where the run begins, since the run names them, and its exits' jumps
-- lead to loops there.
use Rattle.std.proofs.Common.{◌≡◌, ℕ, ◌+◌, ◌≤◌, ◌^◌, Bool, true, false, List, [], ◌∷◌, length, Option, None, Ok, refl, sym, ◌∙◌, subst}
use Rattle.rx_core.specs.declared.types.Span.{Span}
use Rattle.rx_tree.specs.declared.tree.Ident.{Ident}
use Rattle.rx_tree.specs.Lists.{Every, statements, tail}
use Rattle.rx_tree.specs.Plain as plain
use Rattle.rx_tree.specs.Plain.{Body, Function, OptionalExpression, ProgramTree, Statement, Statements}
use Rattle.rx_tree.proofs.NodesLaws.{every_both}
use Rattle.rx_resolve_names.specs.Scopes.{variable_named, Variables}
use Rattle.rx_resolve_names.specs.declared.resolved.ItemNames.{ItemNames}
use Rattle.rx_resolve_names.specs.Meant.{Around}
use Rattle.rx_resolve_names.specs.Steps.{Inside}
use Rattle.rx_resolve_names.specs.Names.{in_statements, Scoped}
use Rattle.rx_lower_walks.specs.Walks.{Among}
use Rattle.rx_hoist_extraction.specs.Names.{behind_all, declared_by, Distinct, is_among, Names}
use Rattle.rx_hoist_extraction.specs.Run.{as_statements, chosen, in_front, labels_round, numbered, Run, run_block, run_parts, tail_if}
use Rattle.rx_hoist_extraction.specs.Plan.{Exit, Leaving, Param, Plan, to_break, to_continue, to_next, to_return, Variable}
use Rattle.rx_hoist_extraction.specs.Values.{held_by, next_values, result_of, Value, values_of}
use Rattle.rx_engine_names.specs.Moves.{labels_of}
use Rattle.rx_engine_names.specs.Placed.{inside_of}
use Rattle.rx_engine_names.specs.HandedOut.{Handing}
use Rattle.rx_engine_names.specs.HandsOver.{at_place, ExitStands, LeadsOut, MeansOne, received_names, ValueStands, WordMeansOne}
use Rattle.rx_engine_names.specs.CalledRuns.{BehindAgrees, RunStands}
use Rattle.rx_engine_names.specs.Extractions.{goes_to_end, handing_there, NamesHandedOut, NamesLast, NamesThere, RunSays}
use Rattle.rx_engine_names.proofs.BehindStatements.{covers_itself, statements_cover}
use Rattle.rx_engine_names.proofs.MadeJumps.{made_jump_leads}
use Rattle.rx_engine_called.specs.Found.{LeadsThere}
use Rattle.rx_engine_called.specs.Outside.{a_break, a_continue, a_name, Outer, outside_of, outside_optional, outside_statements}
use Rattle.rx_engine_called.specs.Tells.{ExitTells, NamesIt, RunTells, ValueTells}
use Rattle.rx_engine_called.proofs.Found.{all_found_there, tail_found_there}
use Rattle.rx_engine_called.proofs.Received.{every_among, held_in, next_holds}
use Rattle.rx_engine_called.proofs.Telling.{All, optional_tells, statements_tell, Tells}
use Rattle.rx_engine_called.proofs.Unnamed.{front_free}

every_map : {A : Type 0} (P Q : A → Type 0) (l : List A) → ((x : A) → P x → Q x) → Every P l → Every Q l
every_map P Q [] f h = tt
every_map P Q (x ∷ l) f h = (f x h.0, every_map P Q l f h.1)

every_two : {A : Type 0} (P Q R : A → Type 0) (l : List A) → ((x : A) → P x → Q x → R x) → Every P l → Every Q l → Every R l
every_two P Q R [] f g h = tt
every_two P Q R (x ∷ l) f g h = (f x g.0 h.0, every_two P Q R l f g.1 h.1)

-- ---- where the run begins

-- its name is a word of the text
abbrev WordOf : Plan → Variable → Type 0
WordOf pl v = is_among v.name pl.identifiers ≡ true

abbrev ValueWord : Plan → Value → Type 0
ValueWord pl (result_of t) = Unit {0}
ValueWord pl (held_by v) = WordOf pl v

abbrev There : Variables → List Around → List Outer → Type 0
There sc around os = All (λ x. MeansOne sc x) (λ l k. LeadsThere around l k) os

module _ (G : Handing) (sc : Variables) (around : List Around) (os : List Outer) (there : There sc around os) where
  abbrev K : Handing
  K = at_place G sc around

  abbrev Word : Variable → Type 0
  Word v = WordOf G.call.plan v

  means : (x : List ℕ) → Among (a_name x) os → MeansOne sc x
  means x i = every_among (Tells (λ x. MeansOne sc x) (λ l k. LeadsThere around l k)) os there (a_name x) i

  words_mean : (vs : List Variable) → Every (NamesIt os) vs → Every Word vs → Every (WordMeansOne K) vs
  words_mean vs h w = every_two (NamesIt os) Word (WordMeansOne K) vs (λ v i e. (means v.name i, e)) h w

  leads : (l : Option Ident) (k : ℕ) → LeadsThere around l k → LeadsOut K k
  leads l k h = let r = made_jump_leads G.call.place around l k h.0 h.2 h.1 in (h.0, r.0, r.1)

  exit_stands : (e : Exit) (vs : List Variable) → ExitTells os e vs → Every Word vs → ExitStands K e vs
  exit_stands to_next vs h w = tt
  exit_stands (to_break k) vs h w = (leads h.0.0 k (every_among (Tells (λ x. MeansOne sc x) (λ l k. LeadsThere around l k)) os there (a_break h.0.0 k) h.0.1), words_mean vs h.1 w)
  exit_stands (to_continue k) vs h w = (leads h.0.0 k (every_among (Tells (λ x. MeansOne sc x) (λ l k. LeadsThere around l k)) os there (a_continue h.0.0 k) h.0.1), words_mean vs h.1 w)
  exit_stands to_return vs h w = tt

  value_stands : (h : Value) → ValueTells G.own os h → ValueWord G.call.plan h → ValueStands K h
  value_stands (result_of t) h w = tt
  value_stands (held_by v) h w = λ e. (means v.name (h e), w)

-- the words of the values
value_words : (pl : Plan) (hs : List Value) → Every (WordOf pl) (held_in hs) → Every (ValueWord pl) hs
value_words pl [] w = tt
value_words pl (result_of t ∷ hs) w = (tt, value_words pl hs w)
value_words pl (held_by v ∷ hs) w = (w.0, value_words pl hs w.1)

-- ---- what is told of the plan's names

pub record PlanTold (pl : Plan) (own : Names) (os : List Outer) : Type 0 where
  pub tells : RunTells pl own os
  pub outs : Every (λ (x : Leaving). Every (WordOf pl) x.outs) pl.exits
  pub redeclared : Every (WordOf pl) pl.redeclared
  pub received : Distinct (received_names pl own 0 (next_values pl))
  pub fresh_exits : Every (λ (x : Leaving). length pl.identifiers + length (values_of pl x) ≤ 2 ^ 64) pl.exits
  pub fresh_values : length pl.identifiers + length (next_values pl) ≤ 2 ^ 64

handed_out : (G : Handing) (sc : Variables) (around : List Around) (os : List Outer) → There sc around os → PlanTold G.call.plan G.own os → variable_named sc G.call.plan.name ≡ None → NamesHandedOut (at_place G sc around)
handed_out G sc around os there told unnamed =
    let pl = G.call.plan in
    record {
      unnamed = unnamed;
      params = every_map (λ (x : Param). NamesIt os x.variable) (λ (x : Param). MeansOne sc x.variable.name) pl.params (λ x i. means G sc around os there x.variable.name i) told.tells.params;
      exits = every_two (λ (x : Leaving). ExitTells os x.exit x.outs) (λ (x : Leaving). Every (WordOf pl) x.outs) (λ (x : Leaving). ExitStands (at_place G sc around) x.exit x.outs) pl.exits
          (λ x h w. exit_stands G sc around os there x.exit x.outs h w) told.tells.exits told.outs;
      values = every_two (ValueTells G.own os) (ValueWord pl) (ValueStands (at_place G sc around)) (next_values pl) (λ h a w. value_stands G sc around os there h a w) told.tells.values
          (value_words pl (next_values pl) (next_holds (λ (vs : List Variable). Every (WordOf pl) vs) pl tt (every_among (λ (x : Leaving). Every (WordOf pl) x.outs) pl.exits told.outs)));
      received = told.received;
      redeclared = told.redeclared;
      fresh_exits = told.fresh_exits;
      fresh_values = told.fresh_values;
    }

-- behind statements that don't bind it a name means what it meant in front
unnamed_behind : (I : Inside) (around : List Around) (at : List ℕ) (sc : Variables) (ss : Statements) (t : ItemNames) (r : Scoped) (name : List ℕ) → in_statements I sc around at 0 ss t ≡ Ok r → is_among name (behind_all [] ss) ≡ false → variable_named sc name ≡ None → variable_named r.scope name ≡ None
unnamed_behind I around at sc ss t r name e f n =
    let c = statements_cover I around at 0 ss [] sc sc t r (covers_itself sc) e in
    (c name).1 f ∙ n

-- ---- wherever the block may stand

abbrev Outside : List (Option Ident) → List Statement → OptionalExpression → List Outer
Outside labels run o = outside_of labels (record { statements = run; tail = o })

module _ (I : Inside) (labels : List (Option Ident)) (front run : List Statement) (G : Handing) (free : is_among G.call.plan.name (behind_all [] (as_statements front)) ≡ false) where
  pub names_there : PlanTold G.call.plan G.own (Outside labels run plain.absent) → NamesThere I labels front run G
  names_there told scope around at t r s i un e d l =
      let w = all_found_there I r.scope around at i (as_statements run) r.tables s d in
      let os = outside_statements [] (numbered 1 (labels_of around)) (as_statements run) in
      let first : There r.scope around os = statements_tell (λ x. MeansOne r.scope x) (λ l k. LeadsThere around l k) [] (numbered 1 (labels_of around)) (as_statements run) w.0 in
      let all : There r.scope around (Outside (labels_of around) run plain.absent) = every_both (Tells (λ x. MeansOne r.scope x) (λ l k. LeadsThere around l k)) os [] first tt in
      handed_out G r.scope around (Outside (labels_of around) run plain.absent) all (subst (λ (z : List (Option Ident)). PlanTold G.call.plan G.own (Outside z run plain.absent)) (sym l) told)
      (unnamed_behind I around at scope (as_statements front) t r G.call.plan.name e free un)

  pub names_last : (o : OptionalExpression) → PlanTold G.call.plan G.own (Outside labels run o) → NamesLast I labels front run o G
  names_last o told scope around at t r s i un e d path t' g l =
      let w = all_found_there I r.scope around at i (as_statements run) r.tables s d in
      let os = outside_statements [] (numbered 1 (labels_of around)) (as_statements run) in
      let ps = outside_optional (behind_all [] (as_statements run)) (numbered 1 (labels_of around)) o in
      let first : There r.scope around os = statements_tell (λ x. MeansOne r.scope x) (λ l k. LeadsThere around l k) [] (numbered 1 (labels_of around)) (as_statements run) w.0 in
      let v = tail_found_there I r.scope s.scope around path (behind_all [] (as_statements run)) o s.tables t' w.1 g in
      let second : There r.scope around ps = optional_tells (λ x. MeansOne r.scope x) (λ l k. LeadsThere around l k) (behind_all [] (as_statements run)) (numbered 1 (labels_of around)) o v in
      let all : There r.scope around (Outside (labels_of around) run o) = every_both (Tells (λ x. MeansOne r.scope x) (λ l k. LeadsThere around l k)) os ps first second in
      handed_out G r.scope around (Outside (labels_of around) run o) all (subst (λ (z : List (Option Ident)). PlanTold G.call.plan G.own (Outside z run o)) (sym l) told)
      (unnamed_behind I around at scope (as_statements front) t r G.call.plan.name e free un)

-- ---- the whole

-- whether the run goes to its block's end
abbrev Given : Run → Plan → Function → Bool → Type 0
Given r pl g z = PlanTold pl (declared_by (chosen r (statements (run_block r g)))) (Outside (labels_round r g) (chosen r (statements (run_block r g))) (tail_if z (tail (run_block r g))))

pub run_says : (P : ProgramTree) (r : Run) (pl : Plan) (s : Span) (g : Function) → RunStands r pl g → PlanTold pl (declared_by (run_parts r g).statements) (outside_of (labels_round r g) (run_parts r g))
    → (goes_to_end r g ≡ false → BehindAgrees P r pl g) → RunSays (goes_to_end r g) P s g r pl
run_says P r pl s g stands told agrees =
    let b = run_block r g in
    let free = front_free pl.name g.body b r.way r.first stands.bound stands.alone.there in
    by (goes_to_end r g) refl told free
  where
    by : (z : Bool) → goes_to_end r g ≡ z → Given r pl g z → is_among pl.name (behind_all [] (as_statements (in_front r (statements (run_block r g))))) ≡ false → RunSays z P s g r pl
    by false e told free = (agrees e, names_there (inside_of P r.item s g) (labels_round r g) (in_front r (statements (run_block r g))) (chosen r (statements (run_block r g))) (handing_there r pl g) free told)
    by true e told free = names_last (inside_of P r.item s g) (labels_round r g) (in_front r (statements (run_block r g))) (chosen r (statements (run_block r g))) (handing_there r pl g) free (tail (run_block r g)) told
