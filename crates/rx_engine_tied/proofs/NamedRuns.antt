-- What is asked of the names in a run that is refused for no variable, put together: in the scope where its block resolves in the text.
use Rattle.std.proofs.Common.{◌≡◌, ◌≢◌, ℕ, ◌<◌, Bool, true, List, [], ◌∷◌, length, get_or, Some, Ok, refl, sym, ap, ◌∙◌, subst, ◌⊎◌, inl}
use Rattle.std.proofs.lemmas.List.{length-map}
use Rattle.rx_core.specs.declared.types.Span.{Span}
use Rattle.rx_tree.specs.Lists.{Every, nth, statements}
use Rattle.rx_tree.specs.Plain as plain
use Rattle.rx_tree.specs.Plain.{Body, Function}
use Rattle.rx_tree.specs.Positions.{a_block, descend}
use Rattle.rx_resolve_names.specs.declared.resolved.ItemNames.{ItemNames}
use Rattle.rx_resolve_names.specs.Meant.{firsts, lifetimes_declared, number}
use Rattle.rx_resolve_names.specs.Steps.{Inside}
use Rattle.rx_resolve_names.specs.Names.{in_block}
use Rattle.rx_typed.specs.Types.{Typ}
use Rattle.rx_typeck_typed.specs.declared.typed.Typed.{Typed}
use Rattle.rx_lower_walks.specs.Walks.{Among, here, there}
use Rattle.rx_exits_plan.specs.Points.{Exit, next}
use Rattle.rx_exits_plan.specs.Asked.{Asked}
use Rattle.rx_exits_plan.specs.Exits.{at_start}
use Rattle.rx_exits_plan.specs.Plan.{is_moved, variables_of}
use Rattle.rx_exits_plan.specs.PlainPlan.{plan_of}
use Rattle.rx_exits.specs.Refusing.{same_name}
use Rattle.rx_modes_policy.specs.declared.uses.Mode.{Mode}
use Rattle.rx_modes_policy.specs.declared.uses.Mode.TheVariants as mode
use Rattle.rx_modes_policy.specs.declared.uses.Uses.{Uses}
use Rattle.rx_modes_uses.specs.Modes.{PassedIn}
use Rattle.rx_hoist_extraction.specs.Names.{behind_all, Names}
use Rattle.rx_hoist_extraction.specs.Plan.{has_exit, to_next}
use Rattle.rx_hoist_extraction.specs.Run.{as_block, as_statements, in_front, labels_round, Run, run_block, run_parts}
use Rattle.rx_hoist_naming.specs.DeclaredNames.{declared_names}
use Rattle.rx_hoist_naming.specs.NamedPlan.{named_plan, names_in, Told}
use Rattle.rx_hoist_meant.specs.NamesMeant.{MeansIt}
use Rattle.rx_engine_names.specs.Extractions.{moves_there}
use Rattle.rx_engine_names.specs.KeptWays.{KeepsMaybe}
use Rattle.rx_engine_names.specs.Moves.{labels_of}
use Rattle.rx_engine_names.specs.SelectedRuns.{RunSelected}
use Rattle.rx_engine_names.specs.WrittenOut.{PinsName}
use Rattle.rx_engine_planned.specs.Decided.{Decided, run_at}
use Rattle.rx_engine_planned.specs.RunMeans.{RunMeans}
use Rattle.rx_engine_called.specs.Planned.{Planned}
use Rattle.rx_engine_tied.specs.Settled.{Settled}
use Rattle.rx_engine_tied.proofs.ByValue.{by_value, each_long}
use Rattle.rx_engine_tied.proofs.Covers as covers
use Rattle.rx_engine_tied.proofs.Entered.{names_just}
use Rattle.rx_engine_tied.proofs.Foreign.{param_or_local}
use Rattle.rx_engine_tied.proofs.Given.{PlanGiven}
use Rattle.rx_engine_tied.proofs.Handed.{run_means, same_labels}
use Rattle.rx_engine_tied.proofs.Runs.{Seated}
use Rattle.rx_engine_tied.proofs.Seats.{item_there}
use Rattle.rx_engine_tied.proofs.Since.{meant_there, none_since, Since}
use Rattle.rx_engine_tied.proofs.WrittenRuns.{written_run}

every_among : (P : ℕ → Type 0) (x : ℕ) (l : List ℕ) → Every P l → Among x l → P x
every_among P x l h here = h.0
every_among P x (y ∷ l) h (there i) = every_among P x l h.1 i

module _ (A : Told) (q : Asked) (bytes : List ℕ) (names : List ItemNames) (t : Typed) (muts : List Bool) (choice : Uses → Mode) (d : Decided A q bytes names t muts) (z : Settled A q muts choice) where
  pub planned : Planned A q bytes names t
  planned = record {
    lexed = d.lexed;
    parsed = d.parsed;
    short = d.short;
    meant = d.meant;
    typed = d.typed;
    declared = d.declared;
    word = d.word;
    among = d.among;
    function = d.function;
    run = z.run;
    loops = d.loops;
    sits = d.sits;
    plan = d.plan;
    agree = d.agree;
    visible = z.visible;
    few = d.few;
  }

  -- by the laws on names, modes and plans
  pub plan_given : ((x : ℕ) (m : Mode) → PassedIn q muts (plan_of q A.plan) choice x m → is_moved q x ≡ true → m ≡ mode.Value) → ((x : ℕ) → Among x A.plan.params → Among x A.plan.locals → ⊥)
      → Every (λ (x : ℕ). x < length (names_in A)) (variables_of q) → ((x : ℕ) → Among x A.plan.params ⊎ Among x A.plan.locals → MeansIt (same_name (names_in A)) (at_start q.run q.home).scope x)
      → ((x y : ℕ) → Among x A.plan.params ⊎ Among x A.plan.locals → Among y A.plan.params ⊎ Among y A.plan.locals → get_or (names_in A) x [] ≡ get_or (names_in A) y [] → x ≡ y)
      → ((e : Exit) (x : ℕ) → e ≢ next → Among x ((plan_of q A.plan).outs e) → Among x (at_start q.run q.home).scope) → PlanGiven A q
  plan_given by_moves not_both named means apart left = record {
    plan = d.plan;
    agree = d.agree;
    loops = d.loops;
    visible = z.visible;
    below = λ x i. every_among (λ (x : ℕ). x < length (names_in A)) x (variables_of q) named i;
    placed = param_or_local q (plan_of q A.plan) d.plan.plan z.mixed z.partly;
    apart = apart;
    begins = λ x i. meant_there [] (same_name (names_in A)) x x (at_start q.run q.home).scope (means x i);
    modes = each_long z.modes;
    moved = ap length z.moved ∙ length-map A.plan.params (is_moved q);
    left = left;
    by_value = by_value A q muts choice d.plan z.modes by_moves not_both (λ x y i j e. apart x y (inl i) (inl j) e);
  }

  module _ (s : Span) (f : Function) (e : nth A.program A.function.item ≡ Some (plain.function_item s f)) (P : PlanGiven A q) where
    abbrev I : Inside
    I = record { program = A.program; item = number A.function.item; lifetimes = firsts [] 0 (lifetimes_declared (plain.function_item s f)) }

    abbrev r : Run
    r = run_at A.run

    -- the run is selected too with the scope in which its block resolves in the text
    pub means_there : Seated I (declared_names (Some (plain.function_item s f))) q.run q.home r (run_block r f) (labels_round r f) → RunSelected A.program r (named_plan A) s f → (b : Body) → descend (Some (a_block f.body)) r.way ≡ Some (a_block b)
        → KeepsMaybe (named_plan A).pins (Some (a_block f.body)) r.way → PinsName A.program (named_plan A).pins → ((u : Typ) → (named_plan A).value ≡ Some u → has_exit to_next (named_plan A).exits ≡ true)
        → (x : RunSelected A.program r (named_plan A) s f) × RunMeans (moves_there r (named_plan A) x.reached.around x.reached.middle.scope) (run_parts r f)
    means_there seat h b way kept pins goes =
        let ns_is : names_in A ≡ declared_names (Some (plain.function_item s f)) = ap declared_names (item_there A.program A.function.item (plain.function_item s f) e) in
        let S : Seated I (names_in A) q.run q.home r (run_block r f) (labels_round r f) = subst (λ (ns : Names). Seated I ns q.run q.home r (run_block r f) (labels_round r f)) (sym ns_is) seat in
        let y = S.comes in
        let there_is = way ∙ ap (λ (c : Body). Some (a_block c)) (sym (ap as_block way)) in
        let resolves = subst (λ (n : ℕ). in_block (record { program = A.program; item = number n; lifetimes = firsts [] 0 (lifetimes_declared (plain.function_item s f)) }) y.scope S.around y.at (run_block r f) y.before ≡ Ok y.end) (sym d.item) y.resolves in
        let w = written_run A.program names d.meant.names_are r.item A.run.span (named_plan A).pins pins s f r (run_block r f) there_is kept h.stands.forward y.scope S.around y.at y.before y.end resolves (same_labels S.around ∙ S.labels_are) in
        let front : Since (names_in A) S.variables S.base (behind_all [] (as_statements (in_front r (statements (run_block r f))))) = covers.since_row I (names_in A) S.types S.variables S.around S.once S.first (none_since (names_in A) S.variables) in
        let just = names_just (names_in A) y.means front w.covers in (
          record { free = h.free; text = h.text; text_resolves = h.text_resolves; stands = h.stands; pinned = h.pinned; resolves = h.resolves; reached = w.reached },
          run_means A q I r (run_block r f) S P w.reached.middle.scope just (moves_there r (named_plan A) w.reached.around w.reached.middle.scope) (refl {a = named_plan A}) refl refl (ap labels_of w.around ∙ same_labels S.around) goes,
        )
