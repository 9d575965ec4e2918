-- What a run's text names is its own or given by the plan, and its jumps have exits that hand out what nothing in the run hides.
use Rattle.std.proofs.Common.{◌≡◌, ◌≢◌, ℕ, suc, ◌<◌, ◌==◌, Bool, true, false, not, ◌||◌, ◌&&◌, if◌then◌else◌, List, [], ◌∷◌, ◌++◌, length, map, get_or, Option, Some, None, slice_get, refl, sym, ap, ◌∙◌, subst, ◌⊎◌, inl, inr, bytes_eq, arith}
use Rattle.std.proofs.lemmas.Bool.Decides.{Decides-eqb}
use Rattle.std.proofs.lemmas.List.{map-append}
use Rattle.std.proofs.lemmas.Option.{get_or_from_slice_get, slice_get-get_or}
use Rattle.std.proofs.lemmas.Slice.Eq.{bytes_eq-Decides}
use Rattle.rx_tree.specs.declared.tree.Ident.{Ident}
use Rattle.rx_tree.specs.Lists.{Every, statements, tail}
use Rattle.rx_tree.specs.Plain as plain
use Rattle.rx_tree.specs.Plain.{Body}
use Rattle.rx_resolve_names.specs.Scopes.{variable_named}
use Rattle.rx_resolve_names.specs.Meant.{Around, target, to_loop}
use Rattle.rx_resolve_names.specs.Steps.{Inside}
use Rattle.rx_typed.specs.Named as named
use Rattle.rx_typed.specs.Elaborated as elaborated
use Rattle.rx_typed.specs.Tree as tree
use Rattle.rx_typeck_typed.specs.declared.typed.TypedFn.{TypedFn}
use Rattle.rx_lower_walks.specs.Walks.{Among, here, there}
use Rattle.rx_exits_plan.specs.Blocks as marks
use Rattle.rx_exits_plan.specs.Blocks.{written_tail}
use Rattle.rx_exits_plan.specs.Points.{breaks, continues, Exit, jump_exit, next, returns}
use Rattle.rx_exits_plan.specs.Runs as runs
use Rattle.rx_exits_plan.specs.Runs.{inside, last_value}
use Rattle.rx_exits_plan.specs.Spots as spots
use Rattle.rx_exits_plan.specs.Spots.{with_variables}
use Rattle.rx_exits_plan.specs.declared.plan.Exit.{Exit as ListedExit}
use Rattle.rx_exits_plan.specs.declared.plan.Exit.TheVariants as exit
use Rattle.rx_exits_plan.specs.declared.plan.ExitOuts.{ExitOuts}
use Rattle.rx_exits_plan.specs.Asked.{Asked}
use Rattle.rx_exits_plan.specs.Exits.{at_end, at_start, exits, is_taken, jumps, past, spots_in_statements, spots_in_value}
use Rattle.rx_exits_plan.specs.Occurrences.{declared_among, drops, firsts, has_number, in_run, in_statements, in_value, is_declared_in_run, the_variable, those, variables_among}
use Rattle.rx_exits_plan.specs.Plan.{Chosen, foreign_of, is_offered, left, none, taken, variables_of}
use Rattle.rx_exits_plan.specs.PlainPlan.{IsExitPlan, outs_in, plain-Exit, plan_of}
use Rattle.rx_exits.specs.Refusing.{NoneShadowed, same_name}
use Rattle.rx_modes_policy.specs.declared.uses.Mode.{Mode}
use Rattle.rx_hoist_extraction.specs.Names.{behind_all, is_among, Names}
use Rattle.rx_hoist_extraction.specs.Run as extraction
use Rattle.rx_hoist_extraction.specs.Run.{as_statements, chosen, chosen_parts, goes_past, numbered, tail_if}
use Rattle.rx_hoist_extraction.specs.Plan as plan
use Rattle.rx_hoist_extraction.specs.Plan.{has_exit, names_of, outs_of, to_break, to_continue, to_return}
use Rattle.rx_hoist_extraction.specs.Moved.{is_referred, leaves, referred}
use Rattle.rx_hoist_plan.specs.PlainPlan.{plain-Mode}
use Rattle.rx_hoist_naming.specs.NamedPlan.{named_exit, named_leaving, named_params, named_plan, named_variables, names_in, place_of, Told}
use Rattle.rx_hoist_naming.specs.Words.{OutsAgree}
use Rattle.rx_hoist_meant.specs.NamesMeant.{MeansIt}
use Rattle.rx_hoist_meant.specs.Stands as stands
use Rattle.rx_hoist_meant.specs.Stands.{IsFunction, loop_labels, StandsRow}
use Rattle.rx_hoist_meant.specs.Scoped.{IsLast}
use Rattle.rx_hoist_meant.proofs.Patterns.{among_left, among_right, none_among}
use Rattle.rx_engine_names.specs.Moves.{HandsOut, Moves}
use Rattle.rx_engine_names.specs.NewFunction.{param_names}
use Rattle.rx_engine_names.specs.NewPlan.{run_claims}
use Rattle.rx_engine_names.specs.Within.{OptionalWithin, StatementsWithin}
use Rattle.rx_engine_names.proofs.Scoped.{among_append}
use Rattle.rx_engine_tied.proofs.Since as since
use Rattle.rx_engine_tied.proofs.Since.{at_run, leads_back, none_since, Rounds, Since}
use Rattle.rx_engine_tied.proofs.Entered.{NamesJust}
use Rattle.rx_engine_tied.proofs.Exits as exiting
use Rattle.rx_engine_tied.proofs.Exits.{run_spots}
use Rattle.rx_engine_tied.proofs.NotGives.{NotGiven, row_on, tail_not}
use Rattle.rx_engine_tied.proofs.Rows as rows
use Rattle.rx_engine_tied.proofs.Runs as standing
use Rattle.rx_engine_tied.proofs.Runs.{Seated}
use Rattle.rx_engine_tied.proofs.Tells as telling
use Rattle.rx_engine_tied.proofs.Tells.{round_run, SameAround}
use Rattle.rx_engine_tied.proofs.Tying.{firsts_among}
use Rattle.rx_engine_tied.proofs.Visible.{out_at_jump}

clash : {A : Type 0} → true ≡ false → A
clash e = absurd (cc)

pub or_first : (a b : Bool) → a ≡ true → (a || b) ≡ true
or_first true b e = refl
or_first false b e = clash (sym e)

pub or_second : (a b : Bool) → b ≡ true → (a || b) ≡ true
or_second true b e = refl
or_second false b e = e

pub every_from : {A : Type 0} (P : A → Type 0) (xs : List A) → ((x : A) → Among x xs → P x) → Every P xs
every_from P [] f = tt
every_from P (x ∷ xs) f = (f x here, every_from P xs (λ y i. f y (there i)))

-- ---- lists of numbers

among_dropped : (k x : ℕ) (l : List ℕ) → (k ≡ x → ⊥) → Among k l → Among k (drops x l)
among_dropped k x [] d i = i
among_dropped k x (y ∷ l) d i = by (y == x) refl i (among_dropped k x l d)
  where
    rest_only : y ≡ x → Among k (y ∷ l) → Among k l
    rest_only q i = at i (λ z. d (z ∙ q))
      where
        at : {w : ℕ} → Among k (w ∷ l) → (k ≡ w → ⊥) → Among k l
        at here n = absurd (n refl)
        at (there j) n = j

    on : {w : ℕ} → Among k (w ∷ l) → (Among k l → Among k (drops x l)) → Among k (w ∷ drops x l)
    on here f = here
    on (there j) f = there (f j)

    by : (b : Bool) → (y == x) ≡ b → Among k (y ∷ l) → (Among k l → Among k (drops x l)) → Among k (if b then drops x l else y ∷ drops x l)
    by true e i f = f (rest_only ((Decides-eqb y x).0 e) i)
    by false e i f = on i f

pub among_firsts : (k : ℕ) (l : List ℕ) → Among k l → Among k (firsts l)
among_firsts k [] i = i
among_firsts k (x ∷ l) i = at i (among_firsts k l)
  where
    by : (b : Bool) {w : ℕ} → (k == w) ≡ b → Among k (firsts l) → Among k (w ∷ drops w (firsts l))
    by true {w} e j = subst (λ (z : ℕ). Among z (w ∷ drops w (firsts l))) (sym ((Decides-eqb k w).0 e)) here
    by false {w} e j = there (among_dropped k w (firsts l) (λ q. clash (sym ((Decides-eqb k w).1 q) ∙ e)) j)

    at : {w : ℕ} → Among k (w ∷ l) → (Among k l → Among k (firsts l)) → Among k (w ∷ drops w (firsts l))
    at here f = here
    at {w} (there j) f = by (k == w) refl (f j)

among_those : (f : ℕ → Bool) (k : ℕ) (l : List ℕ) → f k ≡ true → Among k l → Among k (those f l)
among_those f k [] e i = i
among_those f k (x ∷ l) e i = at i e (among_those f k l e)
  where
    more : (b : Bool) (w : ℕ) → Among k (those f l) → Among k (if b then w ∷ those f l else those f l)
    more true w j = there j
    more false w j = j

    at : {w : ℕ} → Among k (w ∷ l) → f k ≡ true → (Among k l → Among k (those f l)) → Among k (if f w then w ∷ those f l else those f l)
    at here e on = subst (λ (b : Bool). Among k (if b then k ∷ those f l else those f l)) (sym e) here
    at {w} (there j) e on = more (f w) w (on j)

pub those_among : (f : ℕ → Bool) (k : ℕ) (l : List ℕ) → Among k (those f l) → Among k l
those_among f k [] i = i
those_among f k (x ∷ l) i = by (f x) i (those_among f k l)
  where
    at : {w : ℕ} → Among k (w ∷ those f l) → (Among k (those f l) → Among k l) → Among k (w ∷ l)
    at here on = here
    at (there j) on = there (on j)

    by : (b : Bool) → Among k (if b then x ∷ those f l else those f l) → (Among k (those f l) → Among k l) → Among k (x ∷ l)
    by true i on = at i on
    by false i on = there (on i)

pub chosen_among : {Q : ℕ → Type 0} {l m : List ℕ} → Chosen Q l m → (x : ℕ) → Among x m → Among x l
chosen_among none x i = i
chosen_among (taken {l = l} {m = m} q c) x i = at i (chosen_among c x)
  where
    at : {y : ℕ} → Among x (y ∷ m) → (Among x m → Among x l) → Among x (y ∷ l)
    at here on = here
    at (there j) on = there (on j)
chosen_among (left q c) x i = there (chosen_among c x i)

none_number : (x : ℕ) (l : List ℕ) → (Among x l → ⊥) → has_number x l ≡ false
none_number x [] n = refl
none_number x (y ∷ l) n = by (x == y) refl (none_number x l (λ i. n (there i)))
  where
    by : (b : Bool) → (x == y) ≡ b → has_number x l ≡ false → (b || has_number x l) ≡ false
    by true e r = absurd (n (subst (λ (z : ℕ). Among x (z ∷ l)) ((Decides-eqb x y).0 e) here))
    by false e r = r

-- ---- places of loops

place_at : (n : ℕ) (ls : List ℕ) (k : ℕ) → (k == n) ≡ true → place_of n (k ∷ ls) ≡ 0
place_at n ls k e = ap (λ (b : Bool). if b then 0 else suc (place_of n ls)) e

one_loop : (n j : ℕ) (ls : List ℕ) → Among n ls → Among j ls → place_of n ls ≡ place_of j ls → n ≡ j
one_loop n j [] a b e = absurd (none_among a)
one_loop n j (k ∷ ls) a b e = by (k == n) refl (k == j) refl e (one_loop n j ls)
  where
    further : (m : ℕ) {w : ℕ} → Among m (w ∷ ls) → (w == m) ≡ false → Among m ls
    further m here f = clash (sym ((Decides-eqb m m).1 refl) ∙ f)
    further m (there i) f = i

    by : (c : Bool) → (k == n) ≡ c → (d : Bool) → (k == j) ≡ d → (if c then 0 else suc (place_of n ls)) ≡ (if d then 0 else suc (place_of j ls)) → (Among n ls → Among j ls → place_of n ls ≡ place_of j ls → n ≡ j) → n ≡ j
    by true f true g q on = sym ((Decides-eqb k n).0 f) ∙ (Decides-eqb k j).0 g
    by true f false g q on = absurd (omega (arith, q))
    by false f true g q on = absurd (omega (arith, q))
    by false f false g q on = on (further n a f) (further j b g) (omega (arith, q))

past_loops : (ss : List marks.Statement) (a : spots.Around) → (past ss a).loops ≡ a.loops
past_loops [] a = refl
past_loops (s ∷ ss) a = past_loops ss (with_variables (marks.declared_by s) a)

-- ---- the exits of a plan, by name

pub of_mapped : (es : List ExitOuts) (X : Exit) → Among X (map (λ (e : ExitOuts). plain-Exit e.exit) es) → (e : ExitOuts) × Among e es × (plain-Exit e.exit ≡ X)
of_mapped [] X i = absurd (none_among i)
of_mapped (y ∷ es) X i = at i refl (of_mapped es X)
  where
    at : {Y : Exit} → Among X (Y ∷ map (λ (e : ExitOuts). plain-Exit e.exit) es) → plain-Exit y.exit ≡ Y → (Among X (map (λ (e : ExitOuts). plain-Exit e.exit) es) → (e : ExitOuts) × Among e es × (plain-Exit e.exit ≡ X)) → (e : ExitOuts) × Among e (y ∷ es) × (plain-Exit e.exit ≡ X)
    at here q on = (y, here, q)
    at (there j) q on = let r = on j in (r.0, there r.1, r.2)

pub to_mapped : (es : List ExitOuts) (e : ExitOuts) → Among e es → Among (plain-Exit e.exit) (map (λ (e : ExitOuts). plain-Exit e.exit) es)
to_mapped [] e i = absurd (none_among i)
to_mapped (y ∷ es) e i = at i (to_mapped es e)
  where
    at : {z : ExitOuts} → Among e (z ∷ es) → (Among e es → Among (plain-Exit e.exit) (map (λ (e : ExitOuts). plain-Exit e.exit) es)) → Among (plain-Exit e.exit) (plain-Exit z.exit ∷ map (λ (e : ExitOuts). plain-Exit e.exit) es)
    at here on = here
    at (there j) on = there (on j)

abbrev to_jump : Bool → ℕ → plan.Exit
to_jump false k = to_break k
to_jump true k = to_continue k

same_self : (x : plan.Exit) → plan.same_exit x x ≡ true
same_self plan.to_next = refl
same_self (plan.to_break k) = (Decides-eqb k k).1 refl
same_self (plan.to_continue k) = (Decides-eqb k k).1 refl
same_self plan.to_return = refl

one_break : (l n : ℕ) → breaks l ≡ breaks n → l ≡ n
one_break l n e = cc

one_continue : (l n : ℕ) → continues l ≡ continues n → l ≡ n
one_continue l n e = cc

named_jump : (ls : List ℕ) (X : ListedExit) (n : ℕ) (g : Bool) → plain-Exit X ≡ jump_exit n g → named_exit ls X ≡ to_jump g (place_of n ls)
named_jump ls exit.Next n true e = absurd (cc)
named_jump ls exit.Next n false e = absurd (cc)
named_jump ls (exit.Break l) n true e = absurd (cc)
named_jump ls (exit.Break l) n false e = ap (λ (z : ℕ). to_break (place_of z ls)) (one_break l n e)
named_jump ls (exit.Continue l) n true e = ap (λ (z : ℕ). to_continue (place_of z ls)) (one_continue l n e)
named_jump ls (exit.Continue l) n false e = absurd (cc)
named_jump ls exit.Return n true e = absurd (cc)
named_jump ls exit.Return n false e = absurd (cc)

jump_of : (ls : List ℕ) (X : ListedExit) (k : ℕ) (g : Bool) → plan.same_exit (to_jump g k) (named_exit ls X) ≡ true → (l : ℕ) × (plain-Exit X ≡ jump_exit l g) × (k ≡ place_of l ls)
jump_of ls exit.Next k true e = clash (sym e)
jump_of ls exit.Next k false e = clash (sym e)
jump_of ls (exit.Break l) k true e = clash (sym e)
jump_of ls (exit.Break l) k false e = (l, refl, (Decides-eqb k (place_of l ls)).0 e)
jump_of ls (exit.Continue l) k true e = (l, refl, (Decides-eqb k (place_of l ls)).0 e)
jump_of ls (exit.Continue l) k false e = clash (sym e)
jump_of ls exit.Return k true e = clash (sym e)
jump_of ls exit.Return k false e = clash (sym e)

return_named : (ls : List ℕ) (X : ListedExit) → plain-Exit X ≡ returns → named_exit ls X ≡ to_return
return_named ls exit.Next e = absurd (cc)
return_named ls (exit.Break l) e = absurd (cc)
return_named ls (exit.Continue l) e = absurd (cc)
return_named ls exit.Return e = refl

module _ (ns : Names) (t : TypedFn) (ls : List ℕ) where
  pub has_listed : (es : List ExitOuts) (e : ExitOuts) → Among e es → has_exit (named_exit ls e.exit) (map (named_leaving ns t ls) es) ≡ true
  has_listed [] e i = absurd (none_among i)
  has_listed (y ∷ es) e i = at i (has_listed es e)
    where
      at : {z : ExitOuts} → Among e (z ∷ es) → (Among e es → has_exit (named_exit ls e.exit) (map (named_leaving ns t ls) es) ≡ true) → (plan.same_exit (named_exit ls e.exit) (named_exit ls z.exit) || has_exit (named_exit ls e.exit) (map (named_leaving ns t ls) es)) ≡ true
      at here on = or_first (plan.same_exit (named_exit ls e.exit) (named_exit ls e.exit)) (has_exit (named_exit ls e.exit) (map (named_leaving ns t ls) es)) (same_self (named_exit ls e.exit))
      at {z} (there j) on = or_second (plan.same_exit (named_exit ls e.exit) (named_exit ls z.exit)) (has_exit (named_exit ls e.exit) (map (named_leaving ns t ls) es)) (on j)

  pub names_from : (xs : List ℕ) (y : List ℕ) → Among y (names_of (named_variables ns t xs)) → (z : ℕ) × Among z xs × (get_or ns z [] ≡ y)
  names_from [] y i = absurd (none_among i)
  names_from (x ∷ xs) y i = at i refl (names_from xs y)
    where
      at : {w : List ℕ} → Among y (w ∷ names_of (named_variables ns t xs)) → get_or ns x [] ≡ w → (Among y (names_of (named_variables ns t xs)) → (z : ℕ) × Among z xs × (get_or ns z [] ≡ y)) → (z : ℕ) × Among z (x ∷ xs) × (get_or ns z [] ≡ y)
      at here q on = (x, here, q)
      at (there j) q on = let r = on j in (r.0, there r.1, r.2)

  pub outs_from : (x : plan.Exit) (es : List ExitOuts) (y : List ℕ) → Among y (names_of (outs_of x (map (named_leaving ns t ls) es))) → (e : ExitOuts) × Among e es × (plan.same_exit x (named_exit ls e.exit) ≡ true) × (z : ℕ) × Among z e.outs × (get_or ns z [] ≡ y)
  outs_from x [] y i = absurd (none_among i)
  outs_from x (e ∷ es) y i = by (plan.same_exit x (named_exit ls e.exit)) refl i (outs_from x es y)
    where
      by : (b : Bool) → plan.same_exit x (named_exit ls e.exit) ≡ b → Among y (names_of (if b then named_variables ns t e.outs else outs_of x (map (named_leaving ns t ls) es)))
          → (Among y (names_of (outs_of x (map (named_leaving ns t ls) es))) → (f : ExitOuts) × Among f es × (plan.same_exit x (named_exit ls f.exit) ≡ true) × (z : ℕ) × Among z f.outs × (get_or ns z [] ≡ y))
          → (f : ExitOuts) × Among f (e ∷ es) × (plan.same_exit x (named_exit ls f.exit) ≡ true) × (z : ℕ) × Among z f.outs × (get_or ns z [] ≡ y)
      by true q i on = let r = names_from e.outs y i in (e, here, q, r.0, r.1, r.2)
      by false q i on = let r = on i in (r.0, there r.1, r.2, r.3, r.4, r.5)

  pub self_named : (x : List ℕ) (xs : Names) → is_among x (x ∷ xs) ≡ true
  self_named x xs = or_first (bytes_eq x x) (is_among x xs) ((bytes_eq-Decides x x).1 refl)

  local_known : (xs : List ℕ) (z : ℕ) → Among z xs → is_among (get_or ns z []) (names_of (named_variables ns t xs)) ≡ true
  local_known [] z i = absurd (none_among i)
  local_known (x ∷ xs) z i = at i (local_known xs z)
    where
      at : {w : ℕ} → Among z (w ∷ xs) → (Among z xs → is_among (get_or ns z []) (names_of (named_variables ns t xs)) ≡ true) → is_among (get_or ns z []) (get_or ns w [] ∷ names_of (named_variables ns t xs)) ≡ true
      at here on = self_named (get_or ns z []) (names_of (named_variables ns t xs))
      at {w} (there j) on = or_second (bytes_eq (get_or ns z []) (get_or ns w [])) (is_among (get_or ns z []) (names_of (named_variables ns t xs))) (on j)

  -- as many as have a mode and a word on whether they are moved
  param_known : (xs : List ℕ) (ms : List Mode) (vs : List Bool) → length ms ≡ length xs → length vs ≡ length xs → (z : ℕ) → Among z xs → is_among (get_or ns z []) (param_names (named_params ns t xs ms vs)) ≡ true
  param_known [] ms vs d e z i = absurd (none_among i)
  param_known (x ∷ xs) [] vs d e z i = absurd (omega (arith, d))
  param_known (x ∷ xs) (m ∷ ms) [] d e z i = absurd (omega (arith, e))
  param_known (x ∷ xs) (m ∷ ms) (v ∷ vs) d e z i = at i (param_known xs ms vs (omega (arith, d)) (omega (arith, e)) z)
    where
      at : {w : ℕ} → Among z (w ∷ xs) → (Among z xs → is_among (get_or ns z []) (param_names (named_params ns t xs ms vs)) ≡ true) → is_among (get_or ns z []) (get_or ns w [] ∷ param_names (named_params ns t xs ms vs)) ≡ true
      at here on = self_named (get_or ns z []) (param_names (named_params ns t xs ms vs))
      at {w} (there j) on = or_second (bytes_eq (get_or ns z []) (get_or ns w [])) (is_among (get_or ns z []) (param_names (named_params ns t xs ms vs))) (on j)

  referred_from : (xs : List ℕ) (ms : List Mode) (vs : List Bool) (y : List ℕ) → is_among y (referred (named_params ns t xs ms vs)) ≡ true → (p : ℕ) × Among p xs × (get_or ns p [] ≡ y)
  referred_from [] ms vs y e = clash (sym e)
  referred_from (x ∷ xs) [] vs y e = clash (sym e)
  referred_from (x ∷ xs) (m ∷ ms) [] y e = clash (sym e)
  referred_from (x ∷ xs) (m ∷ ms) (v ∷ vs) y e = by (is_referred (plain-Mode m)) e (referred_from xs ms vs y)
    where
      word : (b : Bool) → bytes_eq y (get_or ns x []) ≡ b → (b || is_among y (referred (named_params ns t xs ms vs))) ≡ true → (is_among y (referred (named_params ns t xs ms vs)) ≡ true → (p : ℕ) × Among p xs × (get_or ns p [] ≡ y))
          → (p : ℕ) × Among p (x ∷ xs) × (get_or ns p [] ≡ y)
      word true q f on = (x, here, sym ((bytes_eq-Decides y (get_or ns x [])).0 q))
      word false q f on = let r = on f in (r.0, there r.1, r.2)

      by : (b : Bool) → is_among y (if b then get_or ns x [] ∷ referred (named_params ns t xs ms vs) else referred (named_params ns t xs ms vs)) ≡ true → (is_among y (referred (named_params ns t xs ms vs)) ≡ true → (p : ℕ) × Among p xs × (get_or ns p [] ≡ y))
          → (p : ℕ) × Among p (x ∷ xs) × (get_or ns p [] ≡ y)
      by true f on = word (bytes_eq y (get_or ns x [])) refl f on
      by false f on = let r = on f in (r.0, there r.1, r.2)

-- ---- a run

-- what is had of the plan of an accepted text
pub record PlanGiven (A : Told) (q : Asked) : Type 0 where
  pub plan : IsExitPlan q A.plan
  pub agree : OutsAgree A.plan.exits
  pub loops : A.loops ≡ q.home.around.loops
  pub visible : NoneShadowed q (plan_of q A.plan) (same_name (names_in A))
  pub below : (x : ℕ) → Among x (variables_of q) → x < length (names_in A)
  -- a variable from outside is a param or a local; no two of these have one name
  pub placed : (x : ℕ) → Among x (foreign_of q) → Among x A.plan.params ⊎ Among x A.plan.locals
  pub apart : (x y : ℕ) → Among x A.plan.params ⊎ Among x A.plan.locals → Among y A.plan.params ⊎ Among y A.plan.locals → get_or (names_in A) x [] ≡ get_or (names_in A) y [] → x ≡ y
  pub begins : (x : ℕ) → Among x A.plan.params ⊎ Among x A.plan.locals → Among x (at_start q.run q.home).scope
  -- each param has a mode; what a jump hands out is in scope where the run begins, and a param that it hands out is by value
  pub modes : length A.modes ≡ length A.plan.params
  pub moved : length A.moved ≡ length A.plan.params
  pub left : (e : Exit) (x : ℕ) → e ≢ next → Among x ((plan_of q A.plan).outs e) → Among x (at_start q.run q.home).scope
  pub by_value : (e : Exit) (x : ℕ) → Among x ((plan_of q A.plan).outs e) → Among x A.plan.params → is_among (get_or (names_in A) x []) (referred (named_plan A).params) ≡ false

module _ (A : Told) (q : Asked) (I : Inside) (r : extraction.Run) (b : Body) {labels : List (Option Ident)} (S : Seated I (names_in A) q.run q.home r b labels) (P : PlanGiven A q) where
  abbrev ns : Names
  ns = names_in A

  abbrev known : Names
  known = param_names (named_plan A).params ++ names_of (named_plan A).locals

  -- named in the run, and in scope where it begins: a param or a local
  pub given : (z : ℕ) → Among z (variables_among (in_run q.run q.home.body)) → Among z S.base → Among z A.plan.params ⊎ Among z A.plan.locals
  given z i m =
      let body = q.home.body in
      let all = among_firsts z (variables_among (in_run q.run body)) i in
      let new = none_number z (declared_among (in_run q.run body)) (λ j. (standing.run_covers I ns q.run q.home r b S).fresh z j m) in
      P.placed z (among_those (λ (x : ℕ). not (is_declared_in_run q.run body x)) z (variables_of q) (ap not new) all)

  pub its_name : (z : ℕ) → Among z A.plan.params ⊎ Among z A.plan.locals → is_among (get_or ns z []) known ≡ true
  its_name z (inl i) =
      among_append (get_or ns z []) (param_names (named_plan A).params) (names_of (named_plan A).locals)
      ∙ or_first (is_among (get_or ns z []) (param_names (named_plan A).params)) (is_among (get_or ns z []) (names_of (named_plan A).locals)) (param_known ns A.function A.loops A.plan.params A.modes A.moved P.modes P.moved z i)
  its_name z (inr i) =
      among_append (get_or ns z []) (param_names (named_plan A).params) (names_of (named_plan A).locals)
      ∙ or_second (is_among (get_or ns z []) (param_names (named_plan A).params)) (is_among (get_or ns z []) (names_of (named_plan A).locals)) (local_known ns A.function A.loops A.plan.locals z i)

  word_of : (z : ℕ) (x : List ℕ) → slice_get ns z ≡ Some x → get_or ns z [] ≡ x
  word_of z x e = get_or_from_slice_get ns z x [] e

  -- one that is handed out is not behind a reference
  pub not_referred : (z : ℕ) (X : Exit) → Among z ((plan_of q A.plan).outs X) → Among z A.plan.params ⊎ Among z A.plan.locals → is_among (get_or ns z []) (referred (named_plan A).params) ≡ false
  not_referred z X o at = by (is_among (get_or ns z []) (referred (named_plan A).params)) refl
    where
      by : (c : Bool) → is_among (get_or ns z []) (referred (named_plan A).params) ≡ c → is_among (get_or ns z []) (referred (named_plan A).params) ≡ false
      by true e =
          let p = referred_from ns A.function A.loops A.plan.params A.modes A.moved (get_or ns z []) e in
          let one = P.apart p.0 z (inl p.1) at p.2 in
          P.by_value X z o (subst (λ (w : ℕ). Among w A.plan.params) one p.1)
      by false e = e

  -- ---- jumps

  abbrev Jumped : spots.Around → ℕ → Bool → Type 0
  Jumped a l g = (n : ℕ) × Among (spots.a_jump a n l g) (run_spots q.run q.home)

  abbrev Left : Type 0
  Left = (a : spots.Around) × (n : ℕ) × Among (spots.a_return a n) (run_spots q.run q.home)

  pub in_exits : (X : Exit) → Among X (exits q.run q.home) → (e : ExitOuts) × Among e A.plan.exits × (plain-Exit e.exit ≡ X)
  in_exits X i = of_mapped A.plan.exits X (subst (Among X) (sym P.plan.plan.exits) i)

  abbrev Leaves : Names → plan.Exit → Type 0
  Leaves own x = (has_exit x (named_plan A).exits ≡ true) × Every (λ (y : List ℕ). (is_among y own ≡ false) × (is_among y known ≡ true) × (is_among y (referred (named_plan A).params) ≡ false)) (names_of (outs_of x (named_plan A).exits))

  jump_exits : (a : spots.Around) (l : ℕ) (g : Bool) → Among l q.home.around.loops → Jumped a l g → Among (jump_exit l g) (exits q.run q.home)
  jump_exits a l g m j = by g (exiting.it_is_taken _ (jumps q.run q.home) (exiting.jump_leaves q.home.around.loops (run_spots q.run q.home) a j.0 l g j.1 m))
    where
      by : (h : Bool) → is_taken (jump_exit l h) (jumps q.run q.home) ≡ true → Among (jump_exit l h) (exits q.run q.home)
      by true t = among_right _ _ (among_left _ _ (exiting.continues_there l q.home.around.loops (jumps q.run q.home) m t))
      by false t = among_right _ _ (among_left _ _ (exiting.breaks_there l q.home.around.loops (jumps q.run q.home) m t))

  outs_so : (vs : List ℕ) (own : Names) (ls : List Around) → Since ns S.base vs own → (ar : spots.Around) → SameAround ar vs ls → (l k : ℕ) (g : Bool) → Among l q.home.around.loops → place_of l q.home.around.loops ≡ k → Jumped ar l g
      → (y : List ℕ) → Among y (names_of (outs_of (to_jump g k) (named_plan A).exits)) → (is_among y own ≡ false) × (is_among y known ≡ true) × (is_among y (referred (named_plan A).params) ≡ false)
  outs_so vs own ls s ar same l k g m place j y i =
      let f = outs_from ns A.function A.loops (to_jump g k) A.plan.exits y i in
      let h = jump_of A.loops f.0.exit k g f.2 in
      let X : Exit = jump_exit h.0 g in
      let listed : Among X (plan_of q A.plan).exits = subst (λ (z : Exit). Among z (plan_of q A.plan).exits) h.1 (to_mapped A.plan.exits f.0 f.1) in
      let there_it_is : Among X (exits q.run q.home) = subst (Among X) P.plan.plan.exits listed in
      let round : Among h.0 q.home.around.loops = exiting.exit_loop q.run q.home X h.0 (of_it h.0 g) there_it_is in
      let same_place : place_of h.0 q.home.around.loops ≡ place_of l q.home.around.loops = sym (h.2 ∙ ap (λ (z : List ℕ). place_of h.0 z) P.loops) ∙ sym place in
      let loop : h.0 ≡ l = one_loop h.0 l q.home.around.loops round m same_place in
      let z = f.3 in
      let out : Among z ((plan_of q A.plan).outs X) = subst (λ (w : Exit). Among z (outs_in A.plan.exits w)) h.1 (subst (Among z) (sym (P.agree f.0 f.1)) f.4) in
      let mine : Among z ((plan_of q A.plan).outs (jump_exit l g)) = subst (λ (w : ℕ). Among z ((plan_of q A.plan).outs (jump_exit w g))) loop out in
      let base : Among z S.base = subst (Among z) (standing.start_scope I ns q.run q.home r b S) (P.left X z (not_next h.0 g) out) in
      let occurs = firsts_among z (variables_among (in_run q.run q.home.body)) (those_among (is_offered q A.plan.locals) z (variables_of q) (chosen_among (P.plan.plan.outs X listed (not_returned h.0 g)) z out)) in
      let there_named : slice_get ns z ≡ Some (get_or ns z []) = slice_get-get_or ns z [] (P.below z (among_firsts z (variables_among (in_run q.run q.home.body)) occurs)) in
      let seen = out_at_jump q (plan_of q A.plan) ns P.visible _ (exiting.jump_leaves q.home.around.loops (run_spots q.run q.home) ar j.0 l g j.1 m) z mine in
      let free = since.not_own ns s z (get_or ns z []) there_named (subst (λ (w : List ℕ). MeansIt (same_name ns) w z) same.scope seen) base in
      let at = given z occurs base in
      let no = not_referred z X out at in
      subst (λ (w : List ℕ). (is_among w own ≡ false) × (is_among w known ≡ true) × (is_among w (referred (named_plan A).params) ≡ false)) f.5 (free, its_name z at, no)
    where
      of_it : (n : ℕ) (c : Bool) → exiting.OfLoop (jump_exit n c) n
      of_it n true = inr refl
      of_it n false = inl refl

      not_next : (n : ℕ) (c : Bool) → jump_exit n c ≢ next
      not_next n true e = cc
      not_next n false e = cc

      not_returned : (n : ℕ) (c : Bool) → jump_exit n c ≢ returns
      not_returned n true e = cc
      not_returned n false e = cc

  leaves_so : (vs : List ℕ) (own : Names) (ls ms : List Around) → Since ns S.base vs own → Rounds S.around ls ms → (l : Option Ident) (n : ℕ) → target l ls ≡ to_loop n → (ar : spots.Around) → SameAround ar vs ls → (g : Bool) → Jumped ar n g
      → (k : ℕ) → leaves l ms ≡ Some k → Leaves own (to_jump g k)
  leaves_so vs own ls ms s h l n e ar same g j k f =
      let back = leads_back S.once h l n k e f in
      let m : Among n q.home.around.loops = subst (Among n) (sym S.loops) back.0 in
      let place : place_of n q.home.around.loops ≡ k = ap (place_of n) S.loops ∙ back.1 in
      let x = in_exits (jump_exit n g) (jump_exits ar n g m j) in
      let name : named_exit A.loops x.0.exit ≡ to_jump g k = named_jump A.loops x.0.exit n g x.2 ∙ ap (λ (z : ℕ). to_jump g z) (ap (place_of n) P.loops ∙ place) in (
        subst (λ (z : plan.Exit). has_exit z (named_plan A).exits ≡ true) name (has_listed ns A.function A.loops A.plan.exits x.0 x.1),
        every_from (λ (y : List ℕ). (is_among y own ≡ false) × (is_among y known ≡ true) × (is_among y (referred (named_plan A).params) ≡ false)) (names_of (outs_of (to_jump g k) (named_plan A).exits)) (outs_so vs own ls s ar same n k g m place j),
      )

  returned_so : Left → has_exit to_return (named_plan A).exits ≡ true
  returned_so h =
      let t = exiting.it_is_taken _ (jumps q.run q.home) (exiting.return_leaves q.home.around.loops (run_spots q.run q.home) h.0 h.1 h.2) in
      let x = in_exits returns (among_right _ _ (among_right _ _ (exiting.it_is_where returns (jumps q.run q.home) t))) in
      subst (λ (z : plan.Exit). has_exit z (named_plan A).exits ≡ true) (return_named A.loops x.0.exit x.2) (has_listed ns A.function A.loops A.plan.exits x.0 x.1)

  -- ---- all together

  module _ (V : Moves) (is_plan : V.plan ≡ named_plan A) (is_known : V.known ≡ known) (just : NamesJust ns S.base V.scope) where
    abbrev Named : ℕ → Type 0
    Named k = Among k (variables_among (in_run q.run q.home.body))

    tells : telling.Tells I ns S.types S.base (round_run S.around) (run_claims V) Named Jumped Left
    tells = record {
      variable = λ vs own s x k e m n. variable_so vs own s x k e m n (is_among x own) refl;
      name = λ vs own s x n f. λ h. callee_so vs own s x n f (variable_named V.scope x) refl;
      broken = λ vs own ls ms s h l k e ar same j n f. moved (to_break n) own (leaves_so vs own ls ms s h l k e ar same false j n f);
      continued = λ vs own ls ms s h l k e ar same j n f. moved (to_continue n) own (leaves_so vs own ls ms s h l k e ar same true j n f);
      returned = λ h. subst (λ (z : plan.Plan). has_exit to_return z.exits ≡ true) (sym is_plan) (returned_so h);
      annotation = λ y. tt;
      block = λ own ms c. tt;
    }
      where
        moved : (x : plan.Exit) (own : Names) → Leaves own x → HandsOut V own x
        moved x own h =
            subst (λ (z : plan.Plan × Names). (has_exit x z.0.exits ≡ true) × Every (λ (y : List ℕ). (is_among y own ≡ false) × (is_among y z.1 ≡ true) × (is_among y (referred z.0.params) ≡ false)) (names_of (outs_of x z.0.exits)))
            (λ j. (sym is_plan j, sym is_known j)) h

        variable_so : (vs : List ℕ) (own : Names) → Since ns S.base vs own → (x : List ℕ) (k : ℕ) → slice_get ns k ≡ Some x → MeansIt (same_name ns) vs k → Named k → (c : Bool) → is_among x own ≡ c → (is_among x own || is_among x V.known) ≡ true
        variable_so vs own s x k e m n true c = or_first (is_among x own) (is_among x V.known) c
        variable_so vs own s x k e m n false c =
            or_second (is_among x own) (is_among x V.known)
            (ap (is_among x) is_known ∙ subst (λ (w : List ℕ). is_among w known ≡ true) (word_of k x e) (its_name k (given k n (since.from_outside ns s k x e m c))))

        callee_so : (vs : List ℕ) (own : Names) → Since ns S.base vs own → (x : List ℕ) (n : ℕ) → IsFunction I ns vs x n → (o : Option ℕ) → variable_named V.scope x ≡ o → variable_named V.scope x ≡ None
        callee_so vs own s x n f None e = e
        callee_so vs own s x n f (Some j) e = let k = just.only x j e in absurd (f.unnamed k.0 (since.in_scope ns s k.0 k.1) k.2)

    pub names_so : StatementsWithin (run_claims V) [] (numbered 1 (loop_labels S.around)) (as_statements (chosen r (statements b)))
    names_so =
        let own = inside q.run q.home.body in
        let value = in_value (last_value q.run q.home.body) in
        telling.statements_told I ns S.types S.base (round_run S.around) (run_claims V) Named Jumped Left tells S.middle S.middle_placed (none_since ns S.base) at_run (at_start q.run q.home)
        (record { scope = standing.start_scope I ns q.run q.home r b S; loops = past_loops (runs.in_front q.run q.home.body) q.home.around ∙ S.loops })
        (record {
          named = λ x i. subst (Among x) (sym (map-append the_variable (in_statements own) value)) (among_left (variables_among (in_statements own)) (variables_among value) (subst (λ (l : List marks.Statement). Among x (variables_among (in_statements l))) S.middle_is i));
          jumped = λ a n j g i. (n, among_left (spots_in_statements (at_start q.run q.home) own) (spots_in_value (at_end q.run q.home) (last_value q.run q.home.body)) (subst (λ (l : List marks.Statement). Among (spots.a_jump a n j g) (spots_in_statements (at_start q.run q.home) l)) S.middle_is i));
          left = λ a n i. (a, n, among_left (spots_in_statements (at_start q.run q.home) own) (spots_in_value (at_end q.run q.home) (last_value q.run q.home.body)) (subst (λ (l : List marks.Statement). Among (spots.a_return a n) (spots_in_statements (at_start q.run q.home) l)) S.middle_is i));
        })

    -- the run's value, where it has the block's tail: that of its text, which a function's body gives to the caller
    later : q.run.block < S.behind
    later =
        let i = row_on I ns S.types S.first S.first_placed S.once in
        let j = row_on I ns S.types S.middle S.middle_placed S.once in
        let k = row_on I ns S.types S.rest S.rest_placed S.once in
        let n = S.number_is in
        omega (arith, i, j, k, n)

    written : (x : tree.Exp) → NotGiven q.run.block x → written_tail q.run.block x ≡ x
    written (tree.give k y) h = ap (λ (z : Bool). if z then y else tree.give k y) h
    written _ h = refl

    tail_written : IsLast S.types S.node S.value (marks.tail q.home.body) → written_tail q.run.block (marks.tail q.home.body) ≡ elaborated.tail S.types S.node S.value
    tail_written (inl f) = ap (written_tail q.run.block) f ∙ written (elaborated.tail S.types S.node S.value) (tail_not I ns S.types S.node S.last q.run.block later)
    tail_written (inr f) =
        ap (written_tail q.run.block) f
        ∙ ap (λ (z : Bool). if z then elaborated.tail S.types S.node S.value else tree.give (elaborated.no_mark S.node) (elaborated.tail S.types S.node S.value)) ((Decides-eqb S.node.number q.run.block).1 S.node_is)

    value_is : q.run.tail ≡ true → last_value q.run q.home.body ≡ Some (elaborated.tail S.types S.node S.value)
    value_is e = ap (λ (c : Bool). if c then Some (written_tail q.run.block (marks.tail q.home.body)) else None) e ∙ ap (λ (z : tree.Exp). Some z) (tail_written S.is_last)

    none_row : {vs after : List ℕ} {ls : List Around} {i j : ℕ} {xs : named.Statements} → StandsRow I ns vs ls i j plain.no_statement xs after → vs ≡ after
    none_row stands.s_no_statement = refl

    at_tail : q.run.tail ≡ true → OptionalWithin (run_claims V) (behind_all [] (as_statements (chosen r (statements b)))) (numbered 1 (loop_labels S.around)) (tail b)
    at_tail e =
        let front = in_statements (inside q.run q.home.body) in
        let value = in_value (last_value q.run q.home.body) in
        let first = spots_in_statements (at_start q.run q.home) (inside q.run q.home.body) in
        let rest = spots_in_value (at_end q.run q.home) (last_value q.run q.home.body) in
        let same_after : S.end ≡ S.after = none_row (subst (λ (l : List plain.Statement). StandsRow I ns S.end S.around S.ends S.behind (as_statements l) S.back S.after) (S.none_behind e) S.rest) in
        let scope : (at_end q.run q.home).scope ≡ S.after =
        ap (λ (l : List marks.Statement). (past l (at_start q.run q.home)).scope) (sym S.middle_is) ∙ rows.past_scope I ns S.types S.middle (at_start q.run q.home) (standing.start_scope I ns q.run q.home r b S) ∙ same_after in
        telling.tail_told I ns S.types S.base (round_run S.around) (run_claims V) Named Jumped Left tells S.node S.last S.last_placed (standing.last_since I ns q.run q.home r b S e) at_run (at_end q.run q.home)
        (record { scope = scope; loops = past_loops (inside q.run q.home.body) (at_start q.run q.home) ∙ past_loops (runs.in_front q.run q.home.body) q.home.around ∙ S.loops })
        (record {
          named = λ x i. subst (Among x) (sym (map-append the_variable front value)) (among_right (variables_among front) (variables_among value) (subst (λ (o : Option tree.Exp). Among x (variables_among (in_value o))) (sym (value_is e)) i));
          jumped = λ a n j g i. (n, among_right first rest (subst (λ (o : Option tree.Exp). Among (spots.a_jump a n j g) (spots_in_value (at_end q.run q.home) o)) (sym (value_is e)) i));
          left = λ a n i. (a, n, among_right first rest (subst (λ (o : Option tree.Exp). Among (spots.a_return a n) (spots_in_value (at_end q.run q.home) o)) (sym (value_is e)) i));
        })

    pub tail_so : OptionalWithin (run_claims V) (behind_all [] (as_statements (chosen r (statements b)))) (numbered 1 (loop_labels S.around)) (chosen_parts r b).tail
    tail_so = by (goes_past r (statements b)) S.to_end
      where
        by : (p : Bool) → p ≡ q.run.tail → OptionalWithin (run_claims V) (behind_all [] (as_statements (chosen r (statements b)))) (numbered 1 (loop_labels S.around)) (tail_if p (tail b))
        by false e = tt
        by true e = at_tail (sym e)
