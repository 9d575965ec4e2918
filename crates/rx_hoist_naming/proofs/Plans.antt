-- The plan by names of a run is formed: what it names are words of the text.
use Rattle.std.proofs.Common.{◌≡◌, ◌≢◌, ℕ, zero, suc, ◌+◌, ◌≤◌, ◌<◌, ◌^◌, Bool, true, false, if◌then◌else◌, List, [], ◌∷◌, length, map, get_or, Option, Some, None, slice_get, refl, sym, ap, ◌∙◌, subst, arith, length-append}
use Rattle.std.proofs.lemmas.List.{length-map}
use Rattle.rx_core.specs.declared.types.Span.{Span}
use Rattle.rx_tree.specs.Lists.{Every}
use Rattle.rx_tree.specs.Positions.{NodeTree}
use Rattle.rx_tree.specs.Size.{IsNumbered}
use Rattle.rx_tree.specs.Plain.{ProgramTree}
use Rattle.rx_lex.specs.Tokens.{Lexes}
use Rattle.rx_print_spelling.specs.Formed.{Spells, FormedProgram}
use Rattle.rx_typed.specs.Types.{Typ, integer, boolean, tuple_of, reference, named, result_declared}
use Rattle.rx_typed.specs.Elaborated.{Coercion, plain, reborrow, share, as_shared}
use Rattle.rx_typeck_solver.specs.declared.facts.Subject.{Subject}
use Rattle.rx_typeck_solver.specs.declared.facts.Subject.TheVariants as subject
use Rattle.rx_typeck_elaborate_parts.specs.Assigning.{shape_of}
use Rattle.rx_typeck_typed.specs.declared.typed.TypedFn.{TypedFn}
use Rattle.rx_typeck_typed.specs.Typing.{type_at, coercion_at}
use Rattle.rx_lower_walks.specs.Walks.{Among, here, there}
use Rattle.rx_exits_plan.specs.Points.{Exit, returns}
use Rattle.rx_exits_plan.specs.Asked.{Asked}
use Rattle.rx_exits_plan.specs.Occurrences.{variables_among, in_run, those}
use Rattle.rx_exits_plan.specs.Plan.{Chosen, variables_of, foreign_of, offered, is_offered}
use Rattle.rx_exits_plan.specs.PlainPlan.{plain-Exit, outs_in, IsExitPlan}
use Rattle.rx_exits_plan.specs.declared.plan.Exit.TheVariants as exit
use Rattle.rx_exits_plan.specs.declared.plan.ExitOuts.{ExitOuts}
use Rattle.rx_exits_plan.specs.declared.plan.ExitPlan.{ExitPlan}
use Rattle.rx_modes_policy.specs.declared.uses.Mode.{Mode}
use Rattle.rx_hoist_extraction.specs.Names as names
use Rattle.rx_hoist_extraction.specs.Plan as plan
use Rattle.rx_hoist_extraction.specs.Plan.{Variable, Param, Leaving, Pins, Plan, same_exit, has_exit, outs_of}
use Rattle.rx_hoist_extraction.specs.Values.{result_of as handed_out, held_by, result_if_any, unless_unit, variables_held, values_at, values_of, next_values}
use Rattle.rx_hoist_extraction.specs.NewFunction.{signature_positions}
use Rattle.rx_hoist_extraction.specs.FormedPlan.{TypeSpells, MaybeSpells, VariableSpells, PinsSpell, FormedPlan}
use Rattle.rx_hoist_nodes.specs.Nodes.{nodes_of}
use Rattle.rx_hoist_naming.specs.NamesWords.{identifiers, is_identifier_class, is_lifetime_class}
use Rattle.rx_hoist_naming.specs.Pinning.{node_type, type_pin, type_pins, open_pattern, pins_if}
use Rattle.rx_hoist_naming.specs.NamedPlan.{Told, named_plan, named_variable, named_variables, named_params, named_leaving, passed, value_if, result_of, item_of, names_in, last_number}
use Rattle.rx_hoist_naming.specs.Words.{NamesTypes, OutsAgree}
use Rattle.rx_hoist_naming.proofs.Good.{every_append, if_holds}
use Rattle.rx_hoist_naming.proofs.Wording.{program_words, type_spelled}
use Rattle.rx_hoist_naming.proofs.Counting.{once_firsts, once_few, those_every, those_few, chosen_every, chosen_few, tokens_few, words_few, names_few}

-- ---- of a list of numbers, all of variables that have names, and not too many

pub record Few (N : ℕ) (xs : List ℕ) : Type 0 where
  pub below : Every (λ (x : ℕ). x < N) xs
  pub few : length xs ≤ N

few_none : (N : ℕ) → Few N []
few_none N = record { below = tt; few = omega arith }

few_chosen : (N : ℕ) {Q : ℕ → Type 0} {l m : List ℕ} → Chosen Q l m → Few N l → Few N m
few_chosen N c h = let a = h.few in let b = chosen_few c in record { below = chosen_every (λ (x : ℕ). x < N) c h.below; few = omega (arith, a, b) }

few_those : (N : ℕ) (f : ℕ → Bool) (l : List ℕ) → Few N l → Few N (those f l)
few_those N f l h = let a = h.few in let b = those_few f l in record { below = those_every (λ (x : ℕ). x < N) f l h.below; few = omega (arith, a, b) }

-- ---- what an exit plan hands out

among_map : {A B : Type 0} (f : A → B) {x : A} {l : List A} → Among x l → Among (f x) (map f l)
among_map f here = here
among_map f (there h) = there (among_map f h)

every_from : {A : Type 0} (P : A → Type 0) (l : List A) → ((x : A) → Among x l → P x) → Every P l
every_from P [] f = tt
every_from P (x ∷ l) f = (f x here, every_from P l (λ y h. f y (there h)))

module _ (N : ℕ) (A : Asked) (k : ExitPlan) (is : IsExitPlan A k) (agree : OutsAgree k.exits) (all : Few N (variables_of A)) where
  foreign_few : Few N (foreign_of A)
  foreign_few = few_those N _ (variables_of A) all

  offered_few : Few N (offered A k.locals)
  offered_few = few_those N (is_offered A k.locals) (variables_of A) all

  pub params_few : Few N k.params
  params_few = few_chosen N is.plan.params foreign_few

  pub locals_few : Few N k.locals
  locals_few = few_chosen N is.plan.locals foreign_few

  pub redeclared_few : Few N k.redeclared
  redeclared_few = subst (Few N) (sym is.plan.redeclared) (few_those N _ (variables_of A) all)

  out_few : (x : Exit) → Among x (map (λ (e : ExitOuts). plain-Exit e.exit) k.exits) → (x ≢ returns) → Few N (outs_in k.exits x)
  out_few x a n = few_chosen N (is.plan.outs x a n) offered_few

  exit_few : (e : ExitOuts) → Among e k.exits → Few N e.outs
  exit_few e a = subst (Few N) (agree e a) (by e.exit refl)
    where
      there_is : Among (plain-Exit e.exit) (map (λ (e : ExitOuts). plain-Exit e.exit) k.exits)
      there_is = among_map (λ (e : ExitOuts). plain-Exit e.exit) a

      by : (x : _) → e.exit ≡ x → Few N (outs_in k.exits (plain-Exit e.exit))
      by exit.Return q = subst (λ (y : Exit). Few N (outs_in k.exits y)) (sym (ap plain-Exit q)) (subst (Few N) (sym is.plan.none_returned) (few_none N))
      by exit.Next q = out_few (plain-Exit e.exit) there_is (λ r. let s = sym (ap plain-Exit q) ∙ r in cc)
      by (exit.Break l) q = out_few (plain-Exit e.exit) there_is (λ r. let s = sym (ap plain-Exit q) ∙ r in cc)
      by (exit.Continue l) q = out_few (plain-Exit e.exit) there_is (λ r. let s = sym (ap plain-Exit q) ∙ r in cc)

  pub exits_few : Every (λ (e : ExitOuts). Few N e.outs) k.exits
  exits_few = every_from (λ (e : ExitOuts). Few N e.outs) k.exits exit_few

-- the variables of a run are few where each has a name
pub run_few : (N : ℕ) (A : Asked) → Every (λ (x : ℕ). x < N) (variables_of A) → Few N (variables_of A)
run_few N A h = record { below = h; few = once_few N (variables_of A) (once_firsts (variables_among (in_run A.run A.home.body))) h }

-- ---- words

word_at : (ns : names.Names) (x : ℕ) → Every Spells ns → x < length ns → Spells (get_or ns x [])
word_at [] x h l = absurd (omega (arith, l))
word_at (n ∷ ns) zero h l = h.0
word_at (n ∷ ns) (suc x) h l = word_at ns x h.1 (omega (arith, l))

shared_spells : (P : ProgramTree) (t : Typ) → TypeSpells P t → TypeSpells P (as_shared t)
shared_spells P (integer k) h = h
shared_spells P boolean h = h
shared_spells P (tuple_of ts) h = h
shared_spells P (reference m t) h = h
shared_spells P (named i) h = h

passed_spells : (P : ProgramTree) (c : Coercion) (t : Typ) → TypeSpells P t → TypeSpells P (passed c t)
passed_spells P plain t h = h
passed_spells P reborrow t h = h
passed_spells P share t h = shared_spells P t h

module _ (P : ProgramTree) (t : TypedFn) (ns : names.Names) (words : Every Spells ns) (types : (x : Subject) → TypeSpells P (shape_of (type_at t x))) where
  variable_spells : (x : ℕ) → x < length ns → VariableSpells P (named_variable ns t x)
  variable_spells x l = (word_at ns x words l, types (subject.Variable x))

  variables_spell : (xs : List ℕ) → Every (λ (x : ℕ). x < length ns) xs → Every (VariableSpells P) (named_variables ns t xs)
  variables_spell [] h = tt
  variables_spell (x ∷ xs) h = (variable_spells x h.0, variables_spell xs h.1)

  params_spell : (xs : List ℕ) (ms : List Mode) (vs : List Bool) → Every (λ (x : ℕ). x < length ns) xs → Every (λ (x : Param). VariableSpells P x.variable) (named_params ns t xs ms vs)
  params_spell [] ms vs h = tt
  params_spell (x ∷ xs) [] vs h = tt
  params_spell (x ∷ xs) (m ∷ ms) [] h = tt
  params_spell (x ∷ xs) (m ∷ ms) (v ∷ vs) h = (variable_spells x h.0, params_spell xs ms vs h.1)

  exits_spell : (ls : List ℕ) (es : List ExitOuts) → Every (λ (e : ExitOuts). Few (length ns) e.outs) es → Every (λ (x : Leaving). Every (VariableSpells P) x.outs) (map (named_leaving ns t ls) es)
  exits_spell ls [] h = tt
  exits_spell ls (e ∷ es) h = (let f = h.0 in variables_spell e.outs f.below, exits_spell ls es h.1)

  value_spells : (b : Bool) (n : ℕ) → MaybeSpells P (value_if b t n)
  value_spells true n = passed_spells P (coercion_at t n) (node_type t n) (types (subject.Node n))
  value_spells false n = tt

  pin_spells : (n : ℕ) (o : Option Span) → Every (λ (p : Span × Typ). TypeSpells P p.1) (type_pin t n o)
  pin_spells n None = tt
  pin_spells n (Some s) = (types (subject.Node (suc n)), tt)

  pins_spell : (r : Span) (ds : List ℕ) (n : ℕ) (xs : List NodeTree) → Every (λ (p : Span × Typ). TypeSpells P p.1) (type_pins t r ds n xs)
  pins_spell r ds n [] = tt
  pins_spell r ds n (x ∷ xs) = every_append (λ (p : Span × Typ). TypeSpells P p.1) (type_pin t n (open_pattern r ds n x)) (type_pins t r ds (suc n) xs) (pin_spells n (open_pattern r ds n x)) (pins_spell r ds (suc n) xs)

  pins_if_spell : (ls : List ℕ) (r : Span) (ds : List ℕ) (xs : List NodeTree) → PinsSpell P (pins_if ls t r ds xs)
  pins_if_spell [] r ds xs = tt
  pins_if_spell (l ∷ ls) r ds xs = pins_spell r ds 0 xs

result_spells : (P : ProgramTree) (o : Option Typ) → ((u : Typ) → o ≡ Some u → TypeSpells P u) → TypeSpells P (result_of o)
result_spells P None f = tt
result_spells P (Some u) f = f u refl

-- ---- counts

one_result : (o : Option Typ) → length (result_if_any o) ≤ 1
one_result None = omega arith
one_result (Some t) = omega arith

one_unless : (t : Typ) → length (unless_unit t) ≤ 1
one_unless t = by (plan.is_unit t)
  where
    by : (b : Bool) → length (if b then [] else handed_out t ∷ []) ≤ 1
    by true = omega arith
    by false = omega arith

values_few : (pl : Plan) (x : plan.Exit) (vs : List Variable) → length (values_at pl x vs) ≤ 1 + length vs
values_few pl plan.to_next vs = let a = one_result pl.value in let b = length-append (result_if_any pl.value) (variables_held vs) in let c = length-map vs (λ v. held_by v) in omega (arith, a, b, c)
values_few pl (plan.to_break k) vs = let c = length-map vs (λ v. held_by v) in omega (arith, c)
values_few pl (plan.to_continue k) vs = let c = length-map vs (λ v. held_by v) in omega (arith, c)
values_few pl plan.to_return vs = let a = one_unless pl.result in omega (arith, a)

module _ (N : ℕ) where
  leavings_few : (ns : names.Names) (t : TypedFn) (ls : List ℕ) (es : List ExitOuts) → Every (λ (e : ExitOuts). Few N e.outs) es → Every (λ (x : Leaving). length x.outs ≤ N) (map (named_leaving ns t ls) es)
  leavings_few ns t ls [] h = tt
  leavings_few ns t ls (e ∷ es) h = (let f = h.0 in let a = f.few in let b = length-map e.outs (named_variable ns t) in omega (arith, a, b), leavings_few ns t ls es h.1)

  each_few : (pl : Plan) (m : ℕ) (xs : List Leaving) → Every (λ (x : Leaving). length x.outs ≤ N) xs → m + (1 + N) ≤ 2 ^ 64 → Every (λ (x : Leaving). m + length (values_of pl x) ≤ 2 ^ 64) xs
  each_few pl m [] h l = tt
  each_few pl m (x ∷ xs) h l = (let a = h.0 in let b = values_few pl x.exit x.outs in omega (arith, a, b, l), each_few pl m xs h.1 l)

  found_few : (e : plan.Exit) (xs : List Leaving) → Every (λ (x : Leaving). length x.outs ≤ N) xs → length (outs_of e xs) ≤ N
  found_few e [] h = omega arith
  found_few e (x ∷ xs) h = let rest = found_few e xs h.1 in if_holds (λ (vs : List Variable). length vs ≤ N) (same_exit e x.exit) x.outs (outs_of e xs) (λ _. h.0) (λ _. rest)

  next_few : (pl : Plan) → Every (λ (x : Leaving). length x.outs ≤ N) pl.exits → length (next_values pl) ≤ 1 + N
  next_few pl h = by (has_exit plan.to_next pl.exits)
    where
      by : (b : Bool) → length (if b then values_at pl plan.to_next (outs_of plan.to_next pl.exits) else []) ≤ 1 + N
      by true = let a = values_few pl plan.to_next (outs_of plan.to_next pl.exits) in let b = found_few plan.to_next pl.exits h in omega (arith, a, b)
      by false = omega arith

-- ---- the plan

module _ (A : Told) (bytes : List ℕ) (lexed : Lexes bytes A.tokens) (short : length bytes < 2 ^ 32) (formed : FormedProgram A.program) (numbered : IsNumbered A.program) where
  abbrev own : names.Names
  own = names_in A

  pub plan_formed : (q : Asked) → IsExitPlan q A.plan → OutsAgree A.plan.exits → Every (λ (x : ℕ). x < length own) (variables_of q) → ((x : Subject) → NamesTypes A.program (shape_of (type_at A.function x)))
      → ((u : Typ) → result_declared (slice_get A.declared A.function.item) ≡ Some u → NamesTypes A.program u) → Spells A.name → signature_positions A.program (named_plan A) ≤ 2 ^ 32 → FormedPlan A.program (named_plan A)
  plan_formed q is agree below types results name positions =
      let P = A.program in
      let t = A.function in
      let pl = named_plan A in
      let words : Every Spells own = program_words P formed t.item in
      let spelled : (x : Subject) → TypeSpells P (shape_of (type_at t x)) = λ x. type_spelled P formed (shape_of (type_at t x)) (types x) in
      let all = run_few (length own) q below in
      let out = exits_few (length own) q A.plan is agree all in
      let params = params_few (length own) q A.plan is agree all in
      let locals = locals_few (length own) q A.plan is agree all in
      let redeclared = redeclared_few (length own) q A.plan is agree all in
      let n = names_few P t.item in
      let b = numbered.bindings in
      let i = words_few is_identifier_class A.tokens in
      let l = words_few is_lifetime_class A.tokens in
      let k = tokens_few bytes A.tokens lexed in
      let leaving = leavings_few (length own) own t A.loops A.plan.exits out in
      let next = next_few (length own) pl leaving in
      record {
        name = name;
        exits = exits_spell P t own words spelled A.loops A.plan.exits out;
        value = value_spells P t own words spelled A.plan.value (last_number A);
        result = result_spells P (result_declared (slice_get A.declared t.item)) (λ u e. type_spelled P formed u (results u e));
        params = params_spell P t own words spelled A.plan.params A.modes A.moved params.below;
        locals = variables_spell P t own words spelled A.plan.locals locals.below;
        redeclared = variables_spell P t own words spelled A.plan.redeclared redeclared.below;
        pins = pins_if_spell P t own words spelled A.plan.loose A.run.span A.diverging (nodes_of (item_of A));
        fresh_lifetimes = omega (arith, l, k, short, positions);
        fresh_variable = omega (arith, i, k, short);
        fresh_variables = each_few (length own) pl (length (identifiers A.tokens)) pl.exits leaving (omega (arith, i, k, short, n, b));
        fresh_handed = omega (arith, i, k, short, n, b, next);
      }
