-- What stands in place of a run does what the plan says, as its tree tells.
use Rattle.std.specs.Prelude.{◌==◌}
use Rattle.std.proofs.Common.{if◌then◌else◌, ◌≡◌, ℕ, Bool, true, false, not, ◌&&◌, ◌||◌, List, [], ◌∷◌, ◌++◌, Option, Some, None, refl, sym, ap, ◌∙◌, subst, eq-eqb, eqb-true}
use Rattle.rx_core.specs.declared.types.Span.{Span}
use Rattle.rx_resolve_names.specs.Scopes.{variable_named}
use Rattle.rx_typed.specs.declared.nodes.Node.{Node}
use Rattle.rx_typed.specs.Types.{Typ}
use Rattle.rx_typed.specs.Named as named
use Rattle.rx_typed.specs.Named.{Exp, Exps, Else, Pattern, Patterns, Statement, Statements, never, all_never, diverges, any_diverges, all_diverge, else_diverges, statement_diverges, some_diverges, tail_never}
use Rattle.rx_hoist_extraction.specs.Names.{Names}
use Rattle.rx_hoist_extraction.specs.Plan.{Mode, has_enum, has_exit, names_of, outs_of, same_exit, to_break, to_continue, to_next, to_return, Exit, Leaving, Param, Variable}
use Rattle.rx_hoist_extraction.specs.Values.{held_by, next_values, result_if_any, result_of, variables_held, Value}
use Rattle.rx_engine_names.specs.Renaming.{Renaming}
use Rattle.rx_engine_names.specs.Calls.{Calls, passed_on, IsArgument, argument_by_value, argument_by_reborrow, argument_by_view, argument_by_shared, argument_by_mut, AreArguments, no_argument, more_arguments, IsCall, is_call}
use Rattle.rx_engine_names.specs.HandedOut.{Handing, AreBound, none_bound, more_bound, IsMade, is_made, AreMade, none_made, more_made, AreJoined, nothing_joined, one_joined, more_joined, is_done, IsAssigned, is_assigned, is_given, AreAssigned, all_assigned, more_assigned, OneDone, one_done, IsJump, jumps_out, jumps_on, IsArm, next_alone, next_with, jump_alone, jump_with, returns, AreArms, no_arms, more_arms, IsWhole, call_alone, call_matched, ArePutBack, none_put_back, result_stays, own_stays, is_put_back, AreHanded, done_alone, is_tail, one_bound, one_assigned, several_bound, AreRedeclared, none_redeclared, more_redeclared, IsTail, no_value, no_result, call_is_tail, first_is_tail}
use Rattle.rx_engine_changed.specs.Beside.{IsOneToOne}
use Rattle.rx_engine_changed.specs.Deeds.{also, assigned, awaited_if, declares, gives_type, leads_to, no_number, nothing, Deeds}
use Rattle.rx_engine_changed.specs.Deeds as deeds
use Rattle.rx_engine_changed.specs.PlannedDeeds.{ends_without, planned_ending, assigned_for, assigned_in_arms, is_that, leaves_by, left_in_arms, names_one, planned_assigned, planned_diverging, planned_left, put_back}
use Rattle.rx_engine_changed.proofs.Steps.{same_or_not, Decided, so, not_so}

-- ---- truth values

pub or_false : (z : Bool) → (z || false) ≡ z
or_false true = refl
or_false false = refl

or_turned : (z y : Bool) → (z || y) ≡ (y || z)
or_turned true true = refl
or_turned true false = refl
or_turned false true = refl
or_turned false false = refl

or_alike : {a b x y : Bool} → a ≡ x → b ≡ y → (a || b) ≡ (x || y)
or_alike {a} {b} {x} {y} e f = ap (λ (z : Bool). z || b) e ∙ ap (λ (z : Bool). x || z) f

neither : {a b : Bool} → a ≡ false → b ≡ false → (a || b) ≡ false
neither {a} {b} e f = or_alike e f

first_not : (a b : Bool) → (a || b) ≡ false → a ≡ false
first_not true b e = e
first_not false b e = refl

last_not : (a b : Bool) → (a || b) ≡ false → b ≡ false
last_not true b e = absurd (cc)
last_not false b e = e

unlike : (k l : ℕ) → (k ≡ l → ⊥) → (k == l) ≡ false
unlike k l w = by (k == l) refl
  where
    by : (z : Bool) → (k == l) ≡ z → (k == l) ≡ false
    by false e = e
    by true e = absurd (w (eqb-true k l e))

or_moved : (a b c : Bool) → ((a || false) || (b || c)) ≡ ((a || b) || c)
or_moved true b c = refl
or_moved false b c = refl

not_or : (a b : Bool) → not (a || b) ≡ (not a && not b)
not_or true b = refl
not_or false b = refl

and_alike : {a b x y : Bool} → a ≡ x → b ≡ y → (a && b) ≡ (x && y)
and_alike {a} {b} {x} {y} e f = ap (λ (z : Bool). z && b) e ∙ ap (λ (z : Bool). x && z) f

not_and : (a : Bool) {b : Bool} → b ≡ false → (a && b) ≡ false
not_and true e = e
not_and false e = refl

or_all : (b : Bool) → (true || b) ≡ true
or_all b = refl

or_last : (z y : Bool) → y ≡ true → (z || y) ≡ true
or_last true y e = refl
or_last false y e = e

-- whether two numbers are the same as two others
same_numbers : (m u j n : ℕ) → (m ≡ u → j ≡ n) → (j ≡ n → m ≡ u) → (m == u) ≡ (j == n)
same_numbers m u j n f g = by (same_or_not m u)
  where
    by : Decided (m ≡ u) → (m == u) ≡ (j == n)
    by (so e) = eq-eqb m u e ∙ sym (eq-eqb j n (f e))
    by (not_so w) = unlike m u w ∙ sym (unlike j n (λ e. w (g e)))

-- ---- deeds, by what the plan says of what corresponds

module _ (R : Renaming) (apart : IsOneToOne R) where
  pub record Doing (f : Deeds) (puts leaves : ℕ → Bool) : Type 0 where
    pub assigns : (n m : ℕ) → R.variable n m ≡ true → f.assigns m ≡ puts n
    pub leads : (l k : ℕ) → R.loop l k ≡ true → f.leaves k ≡ leaves l
    pub awaits : (m : ℕ) → f.awaits m ≡ false

  abbrev Idle : Deeds → Type 0
  Idle f = Doing f no_number no_number

  idle : Idle nothing
  idle = record { assigns = λ n m r. refl; leads = λ l k r. refl; awaits = λ m. refl }

  declares_idle : (x : ℕ) → Idle (declares x)
  declares_idle x = record { assigns = λ n m r. refl; leads = λ l k r. refl; awaits = λ m. refl }

  both_do : {f g : Deeds} {p q u v : ℕ → Bool} → Doing f p u → Doing g q v → Doing (also f g) (λ n. p n || q n) (λ l. u l || v l)
  both_do x y = record { assigns = λ n m r. or_alike (x.assigns n m r) (y.assigns n m r); leads = λ l k r. or_alike (x.leads l k r) (y.leads l k r); awaits = λ m. neither (x.awaits m) (y.awaits m) }

  -- said otherwise
  so_said : {f : Deeds} {p q u v : ℕ → Bool} → Doing f p u → ((n : ℕ) → p n ≡ q n) → ((l : ℕ) → u l ≡ v l) → Doing f q v
  so_said x e d = record { assigns = λ n m r. x.assigns n m r ∙ e n; leads = λ l k r. x.leads l k r ∙ d l; awaits = x.awaits }

  -- nothing behind
  and_idle : {f g : Deeds} {p u : ℕ → Bool} → Doing f p u → Idle g → Doing (also f g) p u
  and_idle {p = p} {u = u} x y = so_said (both_do x y) (λ n. or_false (p n)) (λ l. or_false (u l))

  -- nothing in front
  idle_and : {f g : Deeds} {p u : ℕ → Bool} → Idle f → Doing g p u → Doing (also f g) p u
  idle_and x y = record { assigns = λ n m r. or_alike (x.assigns n m r) (y.assigns n m r); leads = λ l k r. or_alike (x.leads l k r) (y.leads l k r); awaits = λ m. neither (x.awaits m) (y.awaits m) }

  same_variables : (n m j u : ℕ) → R.variable n m ≡ true → R.variable j u ≡ true → (m == u) ≡ (j == n)
  same_variables n m j u r s = same_numbers m u j n
      (λ e. apart.variables_back j n m (subst (λ (k : ℕ). R.variable j k ≡ true) (sym e) s) r)
      (λ e. apart.variables_on n m u r (subst (λ (k : ℕ). R.variable k u ≡ true) e s))

  same_loops : (n m j u : ℕ) → R.loop n m ≡ true → R.loop j u ≡ true → (m == u) ≡ (j == n)
  same_loops n m j u r s = same_numbers m u j n
      (λ e. apart.loops_back j n m (subst (λ (k : ℕ). R.loop j k ≡ true) (sym e) s) r)
      (λ e. apart.loops_on n m u r (subst (λ (k : ℕ). R.loop k u ≡ true) e s))

  -- ---- patterns

  bound_idle : {s : Span} {d : ℕ} {ms : List Bool} {ps : Patterns} → AreBound s d ms ps → Idle (deeds.of_patterns ps)
  bound_idle none_bound = idle
  bound_idle (more_bound {d = d} i h) = idle_and (declares_idle d) (bound_idle h)

  tuple_awaits : (z : Bool) (n : Node) (ps : Patterns) → Idle (awaited_if z (named.tuple_pattern n ps))
  tuple_awaits true n ps = idle
  tuple_awaits false n ps = idle

  -- ---- values that are made

  made_idle : {s : Span} {d : ℕ} {e : Exp} → IsMade s d e → Idle (deeds.of_exp e)
  made_idle (is_made i h) = idle

  all_made_idle : {s : Span} {d k : ℕ} {es : Exps} → AreMade s d k es → Idle (deeds.of_exps es)
  all_made_idle none_made = idle
  all_made_idle (more_made h hs) = idle_and (made_idle h) (all_made_idle hs)

  joined_idle : {s : Span} {d k : ℕ} {o : Else} → AreJoined s d k o → Idle (deeds.of_else o)
  joined_idle nothing_joined = idle
  joined_idle (one_joined h) = made_idle h
  joined_idle (more_joined i h) = all_made_idle h

  made_stays : {s : Span} {d : ℕ} {e : Exp} → IsMade s d e → (diverges e ≡ false) × (never e ≡ false)
  made_stays (is_made i h) = (refl, refl)

  all_made_stay : {s : Span} {d k : ℕ} {es : Exps} → AreMade s d k es → any_diverges es ≡ false
  all_made_stay none_made = refl
  all_made_stay (more_made h hs) = neither (made_stays h).0 (all_made_stay hs)

  joined_stays : {s : Span} {d k : ℕ} {e : Exp} → AreJoined s d k (named.present e) → (diverges e ≡ false) × (never e ≡ false)
  joined_stays (one_joined h) = made_stays h
  joined_stays (more_joined i h) = (all_made_stay h, refl)

  module _ (C : Calls) where
    -- ---- the call

    argument_idle : {x : List ℕ} {m : Mode} {e : Exp} → IsArgument C R x m e → Idle (deeds.of_exp e)
    argument_idle (argument_by_value (passed_on i k r)) = idle
    argument_idle (argument_by_reborrow (passed_on i k r)) = idle
    argument_idle (argument_by_view (passed_on i k r)) = idle
    argument_idle (argument_by_shared z (passed_on i k r)) = idle
    argument_idle (argument_by_mut z (passed_on i k r)) = idle

    argument_stays : {x : List ℕ} {m : Mode} {e : Exp} → IsArgument C R x m e → diverges e ≡ false
    argument_stays (argument_by_value (passed_on i k r)) = refl
    argument_stays (argument_by_reborrow (passed_on i k r)) = refl
    argument_stays (argument_by_view (passed_on i k r)) = refl
    argument_stays (argument_by_shared z (passed_on i k r)) = refl
    argument_stays (argument_by_mut z (passed_on i k r)) = refl

    arguments_idle : {xs : List Param} {es : Exps} → AreArguments C R xs es → Idle (deeds.of_exps es)
    arguments_idle no_argument = idle
    arguments_idle (more_arguments h hs) = idle_and (argument_idle h) (arguments_idle hs)

    arguments_stay : {xs : List Param} {es : Exps} → AreArguments C R xs es → any_diverges es ≡ false
    arguments_stay no_argument = refl
    arguments_stay (more_arguments h hs) = neither (argument_stays h) (arguments_stay hs)

    call_idle : {e : Exp} → IsCall C R e → Idle (deeds.of_exp e)
    call_idle (is_call i h) = arguments_idle h

    call_stays : {e : Exp} → IsCall C R e → (diverges e ≡ false) × (never e ≡ false)
    call_stays (is_call i h) = (arguments_stay h, refl)

    -- ---- assignments

    abbrev Means : List ℕ → ℕ → Bool
    Means x n = is_that (variable_named C.scope x) n

    means : (x : List ℕ) (j u n m : ℕ) → variable_named C.scope x ≡ Some j → R.variable j u ≡ true → R.variable n m ≡ true → (m == u) ≡ Means x n
    means x j u n m e s r = same_variables n m j u r s ∙ sym (ap (λ (o : Option ℕ). is_that o n) e)

    assigned_does : {x : List ℕ} {P : Exp → Type 0} {e : Exp} {q v : ℕ → Bool} → IsAssigned C R x P e → ((i : Exp) → P i → Doing (deeds.of_exp i) q v) → Doing (deeds.of_exp e) (λ n. Means x n || q n) v
    assigned_does {x = x} (is_assigned i (passed_on {u = u} {j = j} z k r) h) f = let y = f _ h in record {
      assigns = λ n m s. or_alike (means x j u.number n m k r s) (y.assigns n m s);
      leads = λ l m s. y.leads l m s;
      awaits = λ m. y.awaits m;
    }
    assigned_does {x = x} {q = q} {v = v} (is_given {u = u} {d = d} {j = j} i z k r h) f = let y = f _ h in record {
      assigns = λ n m s. or_alike (y.assigns n m s) (by d m ∙ means x j u.number n m k r s) ∙ or_turned (q n) (Means x n);
      leads = λ l m s. or_alike (y.leads l m s) (none d m) ∙ or_false (v l);
      awaits = λ m. neither (y.awaits m) (waits_not d m);
    }
      where
        by : (d : Option ℕ) (m : ℕ) → (gives_type u.number d).assigns m ≡ (m == u.number)
        by None m = refl
        by (Some p) m = refl

        none : (d : Option ℕ) (m : ℕ) → (gives_type u.number d).leaves m ≡ false
        none None m = refl
        none (Some p) m = refl

        waits_not : (d : Option ℕ) (m : ℕ) → (gives_type u.number d).awaits m ≡ false
        waits_not None m = refl
        waits_not (Some p) m = refl

    -- it diverges where its value does
    assigned_diverges : {x : List ℕ} {P : Exp → Type 0} {e : Exp} {b : Bool} → IsAssigned C R x P e → ((i : Exp) → P i → diverges i ≡ b) → diverges e ≡ b
    assigned_diverges (is_assigned i (passed_on z k r) h) f = f _ h
    assigned_diverges (is_given i z k r h) f = f _ h

  module _ (G : Handing) where
    -- ---- jumps

    jump_does : {x : Exit} {e : Exp} → IsJump G R x e → Doing (deeds.of_exp e) no_number (leaves_by G x)
    jump_does (jumps_out {l = l} {l' = l'} i h r) = record {
      assigns = λ n m s. refl;
      leads = λ a b s. same_loops a b l l' s r ∙ sym (ap (λ (o : Option ℕ). is_that o a) h);
      awaits = λ m. refl;
    }
    jump_does (jumps_on i h r) = record { assigns = λ n m s. refl; leads = λ a b s. refl; awaits = λ m. refl }

    jump_diverges : {x : Exit} {e : Exp} → IsJump G R x e → (diverges e ≡ true) × (same_exit to_next x ≡ false)
    jump_diverges (jumps_out i h r) = (refl, refl)
    jump_diverges (jumps_on i h r) = (refl, refl)

    jump_assigns : {x : Exit} {e : Exp} → IsJump G R x e → (xs : Names) (n : ℕ) → names_one G.call xs n ≡ assigned_for G x xs n
    jump_assigns (jumps_out i h r) xs n = refl
    jump_assigns (jumps_on i h r) xs n = refl

    -- ---- assignments in front of a jump

    all_assigned_do : {Q : Statements → Type 0} {d : ℕ} {xs : Names} {ss : Statements} {q v : ℕ → Bool} → AreAssigned G.call R Q d xs ss → ((ts : Statements) → Q ts → Doing (deeds.of_statements ts) q v)
        → Doing (deeds.of_statements ss) (λ n. names_one G.call xs n || q n) v
    all_assigned_do (all_assigned h) f = so_said (f _ h) (λ n. refl) (λ l. refl)
    all_assigned_do {q = q} (more_assigned {x = x} {xs = xs} (is_done i a) h) f =
        so_said (both_do (assigned_does G.call {q = no_number} {v = no_number} a (λ i m. made_idle m)) (all_assigned_do h f)) (λ n. or_moved (Means G.call x n) (names_one G.call xs n) (q n)) (λ l. refl)

    one_does : {s : Span} {P : Exp → Type 0} {ss : Statements} {p u : ℕ → Bool} → OneDone s P ss → ((e : Exp) → P e → Doing (deeds.of_exp e) p u) → Doing (deeds.of_statements ss) p u
    one_does (one_done (is_done i h)) f = and_idle (f _ h) idle

    ends_in_jump : {x : Exit} {s : Span} {d : ℕ} {xs : Names} {ss : Statements} → AreAssigned G.call R (OneDone s (IsJump G R x)) d xs ss → (some_diverges ss ≡ true) × ((e : Exp) × IsJump G R x e)
    ends_in_jump (all_assigned (one_done (is_done {e = e} i j))) = (ap (λ (z : Bool). z || false) (jump_diverges j).0, (e, j))
    ends_in_jump (more_assigned {a = a} {ss = ss} x h) = let y = ends_in_jump h in (or_last (statement_diverges a) (some_diverges ss) y.0, y.1)

    -- ---- arms

    arm_does : {d k : ℕ} {x : Exit} {xs : Names} {e : Exp} → IsArm G R d k x xs e → Doing (deeds.of_exp e) (assigned_for G x xs) (leaves_by G x)
    arm_does (next_alone i j) = record { assigns = λ n m s. refl; leads = λ a b s. refl; awaits = λ m. refl }
    arm_does (next_with h) = so_said (joined_idle h) (λ n. refl) (λ l. refl)
    arm_does (jump_alone j) = so_said (jump_does j) (jump_assigns j []) (λ l. refl)
    arm_does {x = x} (jump_with {y = y} {ys = ys} i z a) =
        so_said (and_idle (all_assigned_do {q = no_number} {v = leaves_by G x} a (λ ts o. one_does {p = no_number} {u = leaves_by G x} o (λ e j. jump_does j))) idle) (λ n. or_false (names_one G.call (y ∷ ys) n) ∙ jump_assigns (ends_in_jump a).1.1 (y ∷ ys) n) (λ l. refl)
    arm_does (returns i h) = so_said (joined_idle h) (λ n. refl) (λ l. refl)

    arm_diverges : {d k : ℕ} {x : Exit} {xs : Names} {e : Exp} → IsArm G R d k x xs e → diverges e ≡ not (same_exit to_next x)
    arm_diverges (next_alone i j) = refl
    arm_diverges (next_with h) = (joined_stays h).0
    arm_diverges (jump_alone j) = let y = jump_diverges j in y.0 ∙ sym (ap not y.1)
    arm_diverges (jump_with i z a) = let y = ends_in_jump a in ap (λ (b : Bool). b || false) y.0 ∙ sym (ap not (jump_diverges y.1.1).1)
    arm_diverges (returns i h) = refl

    arm_gives : {d k : ℕ} {x : Exit} {xs : Names} {e : Exp} → IsArm G R d k x xs e → same_exit to_next x ≡ true → never e ≡ false
    arm_gives (next_alone i j) n = refl
    arm_gives (next_with h) n = (joined_stays h).1
    arm_gives (jump_alone j) n = absurd (let h = sym (jump_diverges j).1 ∙ n in cc)
    arm_gives (jump_with i z a) n = absurd (let h = sym (jump_diverges (ends_in_jump a).1.1).1 ∙ n in cc)
    arm_gives (returns i h) n = absurd (let h : false ≡ true = n in cc)

    arms_do : {xs : List Leaving} {l : named.Arms} → AreArms G R xs l → Doing (deeds.of_arms l) (assigned_in_arms G xs) (left_in_arms G xs)
    arms_do no_arms = record { assigns = λ n m s. refl; leads = λ a b s. refl; awaits = λ m. refl }
    arms_do (more_arms i b a h) = so_said (both_do (idle_and (bound_idle b) (arm_does a)) (arms_do h)) (λ n. refl) (λ l. refl)

    arms_diverge : {xs : List Leaving} {l : named.Arms} → AreArms G R xs l → all_diverge l ≡ not (has_exit to_next xs)
    arms_diverge no_arms = refl
    arms_diverge (more_arms {x = x} {xs = xs} i b a h) = and_alike (arm_diverges a) (arms_diverge h) ∙ sym (not_or (same_exit to_next x.exit) (has_exit to_next xs))

    arms_give : {xs : List Leaving} {l : named.Arms} → AreArms G R xs l → has_exit to_next xs ≡ true → all_never l ≡ false
    arms_give no_arms n = absurd (let h : false ≡ true = n in cc)
    arms_give (more_arms {x = x} {xs = xs} {e = e} {l = l} i b a h) n = by (same_exit to_next x.exit) refl n (λ k. arms_give h k)
      where
        by : (z : Bool) → same_exit to_next x.exit ≡ z → (z || has_exit to_next xs) ≡ true → (has_exit to_next xs ≡ true → all_never l ≡ false) → (never e && all_never l) ≡ false
        by true f k g = ap (λ (y : Bool). y && all_never l) (arm_gives a f)
        by false f k g = not_and (never e) (g k)

    -- without another exit than the end nothing is assigned in arms, and no loop left
    only_next : (x : Exit) → not (same_exit to_next x) ≡ false → ((xs : Names) (n : ℕ) → assigned_for G x xs n ≡ false) × ((l : ℕ) → leaves_by G x l ≡ false)
    only_next to_next e = (λ xs n. refl, λ l. refl)
    only_next (to_break k) e = absurd (let h : true ≡ false = e in cc)
    only_next (to_continue k) e = absurd (let h : true ≡ false = e in cc)
    only_next to_return e = absurd (let h : true ≡ false = e in cc)

    no_enum : (xs : List Leaving) → has_enum xs ≡ false → ((n : ℕ) → assigned_in_arms G xs n ≡ false) × ((l : ℕ) → left_in_arms G xs l ≡ false)
    no_enum [] e = (λ n. refl, λ l. refl)
    no_enum (x ∷ xs) e =
        let a = only_next x.exit (first_not (not (same_exit to_next x.exit)) (has_enum xs) e) in let b = no_enum xs (last_not (not (same_exit to_next x.exit)) (has_enum xs) e) in
        (λ n. neither (a.0 (names_of x.outs) n) (b.0 n), λ l. neither (a.1 l) (b.1 l))

    -- ---- the call, or the match on it

    abbrev exits : List Leaving
    exits = G.call.plan.exits

    whole_does : (b : Bool) → b ≡ has_enum exits → {e : Exp} → IsWhole G R b e → Doing (deeds.of_exp e) (assigned_in_arms G exits) (left_in_arms G exits)
    whole_does false f (call_alone h) = let y = no_enum exits (sym f) in so_said (call_idle G.call h) (λ n. sym (y.0 n)) (λ l. sym (y.1 l))
    whole_does true f (call_matched i h a) = idle_and (call_idle G.call h) (arms_do a)

    whole_diverges : (b : Bool) → b ≡ has_enum exits → {e : Exp} → IsWhole G R b e → diverges e ≡ planned_diverging G
    whole_diverges false f (call_alone h) = (call_stays G.call h).0 ∙ ap (λ (z : Bool). z && not (has_exit to_next exits)) f
    whole_diverges true f (call_matched i h a) = or_alike (call_stays G.call h).0 (arms_diverge a) ∙ ap (λ (z : Bool). z && not (has_exit to_next exits)) f

    whole_gives : (b : Bool) → has_exit to_next exits ≡ true → {e : Exp} → IsWhole G R b e → never e ≡ false
    whole_gives false f (call_alone h) = (call_stays G.call h).1
    whole_gives true f (call_matched i h a) = arms_give a f

    -- ---- what is done with what it hands out

    redeclared_idle : {s : Span} {d : ℕ} {vs : List Variable} {ss : Statements} → AreRedeclared s R d vs ss → Idle (deeds.of_statements ss)
    redeclared_idle none_redeclared = idle
    redeclared_idle (more_redeclared {d = d} i j w h) = idle_and (idle_and (declares_idle d) idle) (redeclared_idle h)

    redeclared_stays : {s : Span} {d : ℕ} {vs : List Variable} {ss : Statements} → AreRedeclared s R d vs ss → some_diverges ss ≡ false
    redeclared_stays none_redeclared = refl
    redeclared_stays (more_redeclared i j w h) = redeclared_stays h

    put_back_does : {Q : Statements → Type 0} {d : ℕ} {hs : List Value} {ss : Statements} {q v : ℕ → Bool} → ArePutBack G R Q d hs ss → ((ts : Statements) → Q ts → Doing (deeds.of_statements ts) q v)
        → Doing (deeds.of_statements ss) (λ n. put_back G hs n || q n) v
    put_back_does (none_put_back h) f = so_said (f _ h) (λ n. refl) (λ l. refl)
    put_back_does (result_stays h) f = put_back_does h f
    put_back_does {q = q} (own_stays {v = v} {hs = hs} e h) f =
        so_said (put_back_does h f) (λ n. ap (λ (b : Bool). ((if b then false else Means G.call v.name n) || put_back G hs n) || q n) (sym e)) (λ l. refl)
    put_back_does {q = q} (is_put_back {v = v} {hs = hs} e (is_done i a) h) f =
        so_said (both_do (assigned_does G.call {q = no_number} {v = no_number} a (λ i m. made_idle m)) (put_back_does h f))
        (λ n. or_moved (Means G.call v.name n) (put_back G hs n) (q n) ∙ ap (λ (b : Bool). ((if b then false else Means G.call v.name n) || put_back G hs n) || q n) (sym e)) (λ l. refl)

    put_back_stays : {Q : Statements → Type 0} {d : ℕ} {hs : List Value} {ss : Statements} → ArePutBack G R Q d hs ss → ((ts : Statements) → Q ts → some_diverges ts ≡ false) → some_diverges ss ≡ false
    put_back_stays (none_put_back h) f = f _ h
    put_back_stays (result_stays h) f = put_back_stays h f
    put_back_stays (own_stays e h) f = put_back_stays h f
    put_back_stays (is_put_back e (is_done i a) h) f = neither (assigned_diverges G.call a (λ i m. (made_stays m).0)) (put_back_stays h f)

    awaits_not : (z : Bool) → z ≡ false → (p : Pattern) → Idle (awaited_if z p)
    awaits_not false e p = idle
    awaits_not true e p = absurd (let h : true ≡ false = e in cc)

    tail_idle : {s : Span} {d : ℕ} {W : Exp → Type 0} {h i : Value} {hs : List Value} {o : Else} → IsTail s W d (h ∷ i ∷ hs) o → Idle (deeds.of_else o)
    tail_idle no_result = idle
    tail_idle (first_is_tail m) = made_idle m

    tail_stays : {s : Span} {d : ℕ} {W : Exp → Type 0} {h i : Value} {hs : List Value} {o : Else} → IsTail s W d (h ∷ i ∷ hs) o → else_diverges o ≡ false
    tail_stays no_result = refl
    tail_stays (first_is_tail m) = (made_stays m).0

    -- the whole, with a tail or without
    module _ {W : Exp → Type 0} {Q : Statements → Type 0} {P U : ℕ → Bool} {D : Bool} (does : (e : Exp) → W e → Doing (deeds.of_exp e) P U) (leaves : (e : Exp) → W e → diverges e ≡ D) (plain : (ts : Statements) → Q ts → Idle (deeds.of_statements ts) × (some_diverges ts ≡ false)) where
      handed_does : {s : Span} {d : ℕ} {hs : List Value} {ss : Statements} {o : Else} → ((h : Value) (t : List Value) → hs ≡ h ∷ t → (e : Exp) → W e → never e ≡ false) → AreHanded G R W Q d hs ss → IsTail s W d hs o
          → Doing (also (deeds.of_statements ss) (deeds.of_else o)) (λ n. P n || put_back G hs n) U
      handed_does given (done_alone (is_done i w) q) no_value = so_said (and_idle (and_idle (does _ w) (plain _ q).0) idle) (λ n. sym (or_false (P n))) (λ l. refl)
      handed_does given (is_tail q) (call_is_tail w) = so_said (idle_and (plain _ q).0 (does _ w)) (λ n. sym (or_false (P n))) (λ l. refl)
      handed_does {d = d} given (one_bound {v = v} {p = p} {e = e} own i j w q) no_result =
          so_said (and_idle (and_idle (and_idle (idle_and (declares_idle d) (does _ w)) (awaits_not (never e) (given (held_by v) [] refl _ w) (named.bind p d v.mutable))) (plain _ q).0) idle)
          (λ n. sym (or_false (P n)) ∙ ap (λ (b : Bool). P n || ((if b then false else Means G.call v.name n) || false)) (sym own)) (λ l. refl)
      handed_does given (one_assigned {v = v} own (is_done i a) q) no_result =
          so_said (and_idle (and_idle (assigned_does G.call {q = P} {v = U} a (λ i w. does i w)) (plain _ q).0) idle)
          (λ n. or_turned (Means G.call v.name n) (P n) ∙ ap (λ (z : Bool). P n || z) (sym (or_false (Means G.call v.name n))) ∙ ap (λ (b : Bool). P n || ((if b then false else Means G.call v.name n) || false)) (sym own)) (λ l. refl)
      handed_does given (several_bound {h = first} {i = second} {hs = others} {p = p} {ps = ps} {e = e} i j b w h) t =
          so_said (and_idle (both_do (and_idle (idle_and (bound_idle b) (does _ w)) (tuple_awaits (never e) p ps)) (put_back_does {q = no_number} {v = no_number} h (λ ts q. (plain ts q).0))) (tail_idle t))
          (λ n. ap (λ (z : Bool). P n || z) (or_false (put_back G (first ∷ second ∷ others) n))) (λ l. or_false (U l))

      handed_diverges : {s : Span} {d : ℕ} {hs : List Value} {ss : Statements} {o : Else} → AreHanded G R W Q d hs ss → IsTail s W d hs o → (some_diverges ss || else_diverges o) ≡ D
      handed_diverges (done_alone {a = a} (is_done {e = e} i w) q) no_value = or_false _ ∙ or_alike {a = diverges e} (leaves _ w) (plain _ q).1 ∙ or_false D
      handed_diverges (is_tail {ss = ss} q) (call_is_tail {e = e} w) = or_alike {a = some_diverges ss} (plain _ q).1 (leaves _ w)
      handed_diverges (one_bound {e = e} own i j w q) no_result = or_false _ ∙ or_alike {a = diverges e} (leaves _ w) (plain _ q).1 ∙ or_false D
      handed_diverges (one_assigned own (is_done {e = e} i a) q) no_result = or_false _ ∙ or_alike {a = diverges e} (assigned_diverges G.call a (λ i w. leaves i w)) (plain _ q).1 ∙ or_false D
      handed_diverges (several_bound {e = e} i j b w h) t = or_alike (or_alike {a = diverges e} (leaves _ w) (put_back_stays h (λ ts q. (plain ts q).1))) (tail_stays t) ∙ or_false (D || false) ∙ or_false D

      -- behind statements that diverge or not: it has a value, or none comes of it
      handed_ends : {s : Span} {d : ℕ} {hs : List Value} {ss : Statements} {o : Else} → ((h : Value) (t : List Value) → hs ≡ h ∷ t → (e : Exp) → W e → never e ≡ false) → AreHanded G R W Q d hs ss → IsTail s W d hs o
          → (b : Bool) → tail_never (b || some_diverges ss) o ≡ ends_without hs (b || D)
      handed_ends {s = s} {ss = ss} given x no_value b = ap (λ (z : Bool). b || z) (sym (or_false (some_diverges ss)) ∙ handed_diverges {s = s} x no_value)
      handed_ends {s = s} {ss = ss} given x no_result b = ap (λ (z : Bool). b || z) (sym (or_false (some_diverges ss)) ∙ handed_diverges {s = s} x no_result)
      handed_ends given x (call_is_tail {t = t} w) b = given (result_of t) [] refl _ w
      handed_ends given x (first_is_tail m) b = (made_stays m).1

  -- ---- by the plan

  module _ (G : Handing) where
    abbrev whole : Exp → Type 0
    whole = IsWhole G R (has_enum G.call.plan.exits)

    abbrev again : ℕ → Statements → Type 0
    again later = AreRedeclared G.call.place R later G.call.plan.redeclared

    -- something is handed out at the end, where this is an exit
    some_handed : (b : Bool) (vs : List Value) (h : Value) (t : List Value) → (if b then vs else []) ≡ h ∷ t → b ≡ true
    some_handed true vs h t e = refl
    some_handed false vs h t e = absurd (let k : [] ≡ (h ∷ t) = e in cc)

    pub given : (h : Value) (t : List Value) → next_values G.call.plan ≡ h ∷ t → (i : Exp) → whole i → never i ≡ false
    given h t e i w = whole_gives G (has_enum G.call.plan.exits) (some_handed (has_exit to_next G.call.plan.exits) _ h t e) w

    pub planned_does : {d later : ℕ} {ss : Statements} {o : Else} → AreHanded G R whole (again later) d (next_values G.call.plan) ss → IsTail G.call.place whole d (next_values G.call.plan) o
        → Doing (also (deeds.of_statements ss) (deeds.of_else o)) (planned_assigned G) (planned_left G)
    planned_does {later = later} h t =
        so_said (handed_does G {W = whole} {Q = again later} {D = planned_diverging G} (λ e w. whole_does G (has_enum G.call.plan.exits) refl w) (λ e w. whole_diverges G (has_enum G.call.plan.exits) refl w) (λ ts q. (redeclared_idle G q, redeclared_stays G q)) given h t)
        (λ n. refl) (λ l. refl)

    pub planned_diverges : {d later : ℕ} {ss : Statements} {o : Else} → AreHanded G R whole (again later) d (next_values G.call.plan) ss → IsTail G.call.place whole d (next_values G.call.plan) o
        → ((some_diverges ss || else_diverges o) ≡ planned_diverging G) × ((b : Bool) → tail_never (b || some_diverges ss) o ≡ planned_ending G b)
    planned_diverges {later = later} h t = (
      handed_diverges G {W = whole} {Q = again later} {D = planned_diverging G} (λ e w. whole_does G (has_enum G.call.plan.exits) refl w) (λ e w. whole_diverges G (has_enum G.call.plan.exits) refl w) (λ ts q. (redeclared_idle G q, redeclared_stays G q)) h t,
      handed_ends G {W = whole} {Q = again later} {D = planned_diverging G} (λ e w. whole_does G (has_enum G.call.plan.exits) refl w) (λ e w. whole_diverges G (has_enum G.call.plan.exits) refl w) (λ ts q. (redeclared_idle G q, redeclared_stays G q)) given h t,
    )

    -- without a value there is no tail
    no_tail : (b : Bool) (o : Option Typ) (vs : List Variable) (d : ℕ) → o ≡ None → IsTail G.call.place whole d (if b then result_if_any o ++ variables_held vs else []) named.absent
    no_tail false o vs d e = no_value
    no_tail true None [] d e = no_value
    no_tail true None (v ∷ vs) d e = no_result
    no_tail true (Some t) vs d e = absurd (cc)

    pub tailless : G.call.plan.value ≡ None → (d : ℕ) → IsTail G.call.place whole d (next_values G.call.plan) named.absent
    tailless e d = no_tail (has_exit to_next G.call.plan.exits) G.call.plan.value (outs_of to_next G.call.plan.exits) d e
