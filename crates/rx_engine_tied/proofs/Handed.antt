-- What the end of a run hands out is declared by the run, or a param or local by value; and the names of params and locals mean variables
-- where the run begins.
use Rattle.std.proofs.Common.{◌≡◌, ◌≢◌, ℕ, Bool, true, false, not, ◌||◌, ◌&&◌, List, [], ◌∷◌, ◌++◌, get_or, Option, Some, slice_get, refl, sym, ap, ◌∙◌, subst, ◌⊎◌, inl, inr}
use Rattle.std.proofs.lemmas.Option.{slice_get-get_or}
use Rattle.rx_tree.specs.declared.tree.Ident.{Ident}
use Rattle.rx_tree.specs.Lists.{Every, statements}
use Rattle.rx_tree.specs.Plain.{Body}
use Rattle.rx_resolve_names.specs.Scopes.{variable_named, Variables}
use Rattle.rx_resolve_names.specs.Meant.{a_loop, a_test, Around}
use Rattle.rx_resolve_names.specs.Steps.{Inside}
use Rattle.rx_typed.specs.Types.{Typ}
use Rattle.rx_typeck_typed.specs.declared.typed.TypedFn.{TypedFn}
use Rattle.rx_lower_walks.specs.Walks.{Among, here, there}
use Rattle.rx_exits_plan.specs.Blocks as marks
use Rattle.rx_exits_plan.specs.Points.{Exit, next}
use Rattle.rx_exits_plan.specs.declared.plan.Exit.{Exit as ListedExit}
use Rattle.rx_exits_plan.specs.declared.plan.Exit.TheVariants as exit
use Rattle.rx_exits_plan.specs.Asked.{Asked}
use Rattle.rx_exits_plan.specs.Exits.{at_end, at_start, past}
use Rattle.rx_exits_plan.specs.Occurrences.{in_run, is_declared_in_run, variables_among}
use Rattle.rx_exits_plan.specs.Plan.{is_offered, variables_of}
use Rattle.rx_exits_plan.specs.PlainPlan.{outs_in, plain-Exit, plan_of}
use Rattle.rx_exits.specs.Refusing.{same_name}
use Rattle.rx_modes_policy.specs.declared.uses.Mode.{Mode}
use Rattle.rx_hoist_extraction.specs.Names.{behind_all, is_among, Names}
use Rattle.rx_hoist_extraction.specs.Run as extraction
use Rattle.rx_hoist_extraction.specs.Run.{as_statements, chosen, chosen_parts, numbered}
use Rattle.rx_hoist_extraction.specs.Plan as plan
use Rattle.rx_hoist_extraction.specs.Plan.{has_exit, names_of, outs_of, to_next}
use Rattle.rx_hoist_extraction.specs.Moved.{referred}
use Rattle.rx_hoist_naming.specs.NamedPlan.{named_exit, named_params, named_plan, names_in, Told}
use Rattle.rx_hoist_meant.specs.NamesMeant.{MeansIt}
use Rattle.rx_hoist_meant.specs.Stands.{loop_labels}
use Rattle.rx_hoist_meant.proofs.Patterns.{none_among}
use Rattle.rx_engine_names.specs.Moves.{labels_of, Moves}
use Rattle.rx_engine_names.specs.NewFunction.{param_names}
use Rattle.rx_engine_names.specs.NewPlan.{run_claims}
use Rattle.rx_engine_names.specs.Within.{OptionalWithin, StatementsWithin}
use Rattle.rx_engine_planned.specs.RunMeans.{IsThere, RunMeans}
use Rattle.rx_engine_tied.proofs.Since as since
use Rattle.rx_engine_tied.proofs.Since.{none_since, Since}
use Rattle.rx_engine_tied.proofs.Covers as covers
use Rattle.rx_engine_tied.proofs.Entered.{NamesJust}
use Rattle.rx_engine_tied.proofs.Foreign.{chosen_those}
use Rattle.rx_engine_tied.proofs.Given as giving
use Rattle.rx_engine_tied.proofs.Given.{among_firsts, chosen_among, every_from, names_from, or_first, or_second, outs_from, PlanGiven, those_among, to_mapped}
use Rattle.rx_engine_tied.proofs.Rows as rows
use Rattle.rx_engine_tied.proofs.Runs as standing
use Rattle.rx_engine_tied.proofs.Runs.{Seated}
use Rattle.rx_engine_tied.proofs.Tying.{firsts_among}
use Rattle.rx_engine_tied.proofs.Visible.{out_at_end}

clash : {A : Type 0} → true ≡ false → A
clash e = absurd (cc)

pub same_labels : (ls : List Around) → labels_of ls ≡ loop_labels ls
same_labels [] = refl
same_labels (a_loop l n ∷ ls) = ap (λ (ys : List (Option Ident)). l ∷ ys) (same_labels ls)
same_labels (a_test ∷ ls) = same_labels ls

next_of : (ls : List ℕ) (X : ListedExit) → plan.same_exit to_next (named_exit ls X) ≡ true → plain-Exit X ≡ next
next_of ls exit.Next e = refl
next_of ls (exit.Break l) e = clash (sym e)
next_of ls (exit.Continue l) e = clash (sym e)
next_of ls exit.Return e = clash (sym e)

and_false : (a b : Bool) → b ≡ false → (a && b) ≡ false
and_false true b e = e
and_false false b e = refl

either : {A : Type 0} (x : A) (xs ys : List A) → Among x (xs ++ ys) → Among x xs ⊎ Among x ys
either x [] ys i = inr i
either {A} x (z ∷ xs) ys i = at i (either x xs ys)
  where
    at : {w : A} → Among x (w ∷ (xs ++ ys)) → (Among x (xs ++ ys) → Among x xs ⊎ Among x ys) → Among x (w ∷ xs) ⊎ Among x ys
    at here on = inl here
    at {w} (there j) on = by (on j)
      where
        by : Among x xs ⊎ Among x ys → Among x (w ∷ xs) ⊎ Among x ys
        by (inl k) = inl (there k)
        by (inr k) = inr k

params_from : (ns : Names) (t : TypedFn) (xs : List ℕ) (ms : List Mode) (vs : List Bool) (y : List ℕ) → Among y (param_names (named_params ns t xs ms vs)) → (z : ℕ) × Among z xs × (get_or ns z [] ≡ y)
params_from ns t [] ms vs y i = absurd (none_among i)
params_from ns t (x ∷ xs) [] vs y i = absurd (none_among i)
params_from ns t (x ∷ xs) (m ∷ ms) [] y i = absurd (none_among i)
params_from ns t (x ∷ xs) (m ∷ ms) (v ∷ vs) y i = at i refl (params_from ns t xs ms vs y)
  where
    at : {w : List ℕ} → Among y (w ∷ param_names (named_params ns t xs ms vs)) → get_or ns x [] ≡ w → (Among y (param_names (named_params ns t xs ms vs)) → (z : ℕ) × Among z xs × (get_or ns z [] ≡ y)) → (z : ℕ) × Among z (x ∷ xs) × (get_or ns z [] ≡ y)
    at here q on = (x, here, q)
    at (there j) q on = let r = on j in (r.0, there r.1, r.2)

module _ (A : Told) (q : Asked) (I : Inside) (r : extraction.Run) (b : Body) {labels : List (Option Ident)} (S : Seated I (names_in A) q.run q.home r b labels) (P : PlanGiven A q) where
  abbrev ns : Names
  ns = names_in A

  abbrev own : Names
  own = behind_all [] (as_statements (chosen r (statements b)))

  abbrev known : Names
  known = param_names (named_plan A).params ++ names_of (named_plan A).locals

  -- ---- the end

  end_scope : (at_end q.run q.home).scope ≡ S.end
  end_scope = ap (λ (l : List marks.Statement). (past l (at_start q.run q.home)).scope) (sym S.middle_is) ∙ rows.past_scope I ns S.types S.middle (at_start q.run q.home) (standing.start_scope I ns q.run q.home r b S)

  since_end : Since ns S.base S.end own
  since_end = covers.since_row I ns S.types S.base S.around S.once S.middle (none_since ns S.base)

  abbrev There : List ℕ → Type 0
  There y = ((is_among y own || is_among y known) ≡ true) × ((not (is_among y own) && is_among y (referred (named_plan A).params)) ≡ false)

  next_so : (y : List ℕ) → Among y (names_of (outs_of to_next (named_plan A).exits)) → There y
  next_so y i =
      let f = outs_from ns A.function A.loops to_next A.plan.exits y i in
      let to : plain-Exit f.0.exit ≡ next = next_of A.loops f.0.exit f.2 in
      let listed : Among next (plan_of q A.plan).exits = subst (λ (z : Exit). Among z (plan_of q A.plan).exits) to (to_mapped A.plan.exits f.0 f.1) in
      let z = f.3 in
      let out : Among z ((plan_of q A.plan).outs next) = subst (λ (w : Exit). Among z (outs_in A.plan.exits w)) to (subst (Among z) (sym (P.agree f.0 f.1)) f.4) in
      let occurs = firsts_among z (variables_among (in_run q.run q.home.body)) (those_among (is_offered q A.plan.locals) z (variables_of q) (chosen_among (P.plan.plan.outs next listed (λ e. cc)) z out)) in
      let there_named : slice_get ns z ≡ Some (get_or ns z []) = slice_get-get_or ns z [] (P.below z (among_firsts z (variables_among (in_run q.run q.home.body)) occurs)) in
      let seen = subst (λ (w : List ℕ). MeansIt (same_name ns) w z) end_scope (out_at_end q (plan_of q A.plan) ns P.visible listed z out) in
      subst There f.5 (by z out occurs there_named seen (is_among (get_or ns z []) own) refl)
    where
      by : (z : ℕ) → Among z ((plan_of q A.plan).outs next) → Among z (variables_among (in_run q.run q.home.body)) → slice_get ns z ≡ Some (get_or ns z []) → MeansIt (same_name ns) S.end z → (c : Bool) → is_among (get_or ns z []) own ≡ c → There (get_or ns z [])
      by z out occurs named seen true h =
          (or_first (is_among (get_or ns z []) own) (is_among (get_or ns z []) known) h, ap (λ (c : Bool). not c && is_among (get_or ns z []) (referred (named_plan A).params)) h)
      by z out occurs named seen false h =
          let at = giving.given A q I r b S P z occurs (since.from_outside ns since_end z (get_or ns z []) named seen h) in (
            or_second (is_among (get_or ns z []) own) (is_among (get_or ns z []) known) (giving.its_name A q I r b S P z at),
            and_false (not (is_among (get_or ns z []) own)) (is_among (get_or ns z []) (referred (named_plan A).params)) (giving.not_referred A q I r b S P z next out at),
          )

  -- ---- where the run begins

  module _ (sc : Variables) (just : NamesJust ns S.base sc) where
    stands : (z : ℕ) → Among z A.plan.params ⊎ Among z A.plan.locals → (n : ℕ) × (variable_named sc (get_or ns z []) ≡ Some n)
    stands z i =
        let named = slice_get-get_or ns z [] (P.below z (of_run i)) in
        just.there_is z (get_or ns z []) (subst (Among z) (standing.start_scope I ns q.run q.home r b S) (P.begins z i)) named
      where
        of_run : Among z A.plan.params ⊎ Among z A.plan.locals → Among z (variables_of q)
        of_run (inl i) = (chosen_those (λ (x : ℕ). not (is_declared_in_run q.run q.home.body x)) z (variables_of q) (chosen_among P.plan.plan.params z i)).1
        of_run (inr i) = (chosen_those (λ (x : ℕ). not (is_declared_in_run q.run q.home.body x)) z (variables_of q) (chosen_among P.plan.plan.locals z i)).1

    abbrev Means : List ℕ → Type 0
    Means x = (n : ℕ) × (variable_named sc x ≡ Some n)

    known_so : (x : List ℕ) → Among x known → Means x
    known_so x i = by (either x (param_names (named_plan A).params) (names_of (named_plan A).locals) i)
      where
        by : Among x (param_names (named_plan A).params) ⊎ Among x (names_of (named_plan A).locals) → Means x
        by (inl j) = let f = params_from ns A.function A.plan.params A.modes A.moved x j in subst Means f.2 (stands f.0 (inl f.1))
        by (inr j) = let f = names_from ns A.function A.loops A.plan.locals x j in subst Means f.2 (stands f.0 (inr f.1))

    module _ (V : Moves) (is_plan : V.plan ≡ named_plan A) (is_known : V.known ≡ known) (is_scope : V.scope ≡ sc) (is_round : labels_of V.loops ≡ loop_labels S.around) (goes_on : (t : Typ) → (named_plan A).value ≡ Some t → has_exit to_next (named_plan A).exits ≡ true) where
      there_just : NamesJust ns S.base V.scope
      there_just = subst (λ (z : Variables). NamesJust ns S.base z) (sym is_scope) just

      pub run_means : RunMeans V (chosen_parts r b)
      run_means = record {
        meant = subst (λ (p : plan.Plan). Every (λ (x : List ℕ). (n : ℕ) × (variable_named V.scope x ≡ Some n)) (param_names p.params ++ names_of p.locals)) (sym is_plan)
            (subst (λ (z : Variables). Every (λ (x : List ℕ). (n : ℕ) × (variable_named z x ≡ Some n)) known) (sym is_scope) (every_from Means known known_so));
        reached = λ t. subst (λ (p : plan.Plan). p.value ≡ Some t → has_exit to_next p.exits ≡ true) (sym is_plan) (goes_on t);
        handed = every_there;
        names = subst (λ (ls : List (Option Ident)). StatementsWithin (run_claims V) [] (numbered 1 ls) (as_statements (chosen r (statements b)))) (sym is_round) (giving.names_so A q I r b S P V is_plan is_known there_just);
        tail_names = subst (λ (ls : List (Option Ident)). OptionalWithin (run_claims V) own (numbered 1 ls) (chosen_parts r b).tail) (sym is_round) (giving.tail_so A q I r b S P V is_plan is_known there_just);
      }
        where
          every_there : Every (IsThere V own) (names_of (outs_of to_next V.plan.exits))
          every_there =
              subst (λ (z : plan.Plan × Names). Every (λ (y : List ℕ). ((is_among y own || is_among y z.1) ≡ true) × ((not (is_among y own) && is_among y (referred z.0.params)) ≡ false)) (names_of (outs_of to_next z.0.exits)))
              (λ j. (sym is_plan j, sym is_known j)) (every_from There (names_of (outs_of to_next (named_plan A).exits)) next_so)
