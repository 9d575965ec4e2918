-- A param that an exit hands out is passed by value: the run moves it, since it neither declares it nor has it as a local.
use Rattle.std.proofs.Common.{◌≡◌, ◌≢◌, ℕ, suc, Bool, true, false, not, ◌||◌, ◌==◌, if◌then◌else◌, List, [], ◌∷◌, ◌++◌, length, map, get_or, refl, sym, ap, ◌∙◌, subst, ◌⊎◌, inl, inr, bytes_eq}
use Rattle.std.proofs.lemmas.Bool.Decides.{Decides-eqb}
use Rattle.std.proofs.lemmas.Slice.Eq.{bytes_eq-Decides}
use Rattle.rx_lower_walks.specs.Walks.{Among, here, there}
use Rattle.rx_exits_plan.specs.Blocks.{begins, binds, bound, declared_by, declared_by_all, does as runs_it, Statement}
use Rattle.rx_exits_plan.specs.Points.{breaks, continues, Exit, next, returns}
use Rattle.rx_exits_plan.specs.Runs.{inside, last_value}
use Rattle.rx_exits_plan.specs.Asked.{Asked}
use Rattle.rx_exits_plan.specs.Occurrences.{all_declared, declared, declared_among, has_number, in_run, in_statement, in_statements, in_value, is_declared_in_run, is_direct, names, Occurrence, occurrences_matched, those}
use Rattle.rx_exits_plan.specs.Plan.{foreign_of, is_moved, is_offered, Plan, variables_of}
use Rattle.rx_exits_plan.specs.PlainPlan.{IsExitPlan, outs_in, plain-Exit, plan_of}
use Rattle.rx_exits_plan.specs.declared.plan.ExitOuts.{ExitOuts}
use Rattle.rx_exits_plan.specs.declared.plan.ExitPlan.{ExitPlan}
use Rattle.rx_modes_policy.specs.declared.uses.Mode.{Mode}
use Rattle.rx_modes_policy.specs.declared.uses.Mode.TheVariants as mode
use Rattle.rx_modes_policy.specs.declared.uses.Uses.{Uses}
use Rattle.rx_modes_uses.specs.Modes.{Each, no_more, PassedIn, with}
use Rattle.rx_typeck_typed.specs.declared.typed.TypedFn.{TypedFn}
use Rattle.rx_hoist_extraction.specs.Names.{is_among, Names}
use Rattle.rx_hoist_extraction.specs.Moved.{is_referred, referred}
use Rattle.rx_hoist_plan.specs.PlainPlan.{plain-Mode}
use Rattle.rx_hoist_naming.specs.NamedPlan.{named_params, named_plan, names_in, Told}
use Rattle.rx_hoist_meant.proofs.Patterns.{none_among}
use Rattle.rx_engine_tied.proofs.Foreign.{chosen_among, chosen_those}
use Rattle.rx_engine_tied.proofs.Left.{outs_listed}
use Rattle.rx_engine_tied.proofs.Tying.{has_it}

clash : {A : Type 0} → true ≡ false → A
clash e = absurd (cc)

-- ---- what a direct statement declares, the run declares

all_there : (x : ℕ) (xs : List ℕ) (os : List Occurrence) → Among x xs → Among x (declared_among (all_declared xs ++ os))
all_there x [] os i = absurd (none_among i)
all_there x (y ∷ xs) os i = at i (all_there x xs os)
  where
    at : {z : ℕ} → Among x (z ∷ xs) → (Among x xs → Among x (declared_among (all_declared xs ++ os))) → Among x (z ∷ declared_among (all_declared xs ++ os))
    at here on = here
    at (there j) on = there (on j)

later_there : (x : ℕ) (fs os : List Occurrence) → Among x (declared_among os) → Among x (declared_among (fs ++ os))
later_there x [] os i = i
later_there x (names y ∷ fs) os i = later_there x fs os i
later_there x (declared y ∷ fs) os i = there (later_there x fs os i)

either : (x : ℕ) (xs ys : List ℕ) → Among x (xs ++ ys) → Among x xs ⊎ Among x ys
either x [] ys i = inr i
either x (z ∷ xs) ys i = at i (either x xs ys)
  where
    at : {w : ℕ} → Among x (w ∷ (xs ++ ys)) → (Among x (xs ++ ys) → Among x xs ⊎ Among x ys) → Among x (w ∷ xs) ⊎ Among x ys
    at here on = inl here
    at {w} (there j) on = by (on j)
      where
        by : Among x xs ⊎ Among x ys → Among x (w ∷ xs) ⊎ Among x ys
        by (inl k) = inl (there k)
        by (inr k) = inr k

two_parts : (fs bs cs : List Occurrence) → (fs ++ bs) ++ cs ≡ fs ++ (bs ++ cs)
two_parts [] bs cs = refl
two_parts (a ∷ fs) bs cs = ap (λ (l : List Occurrence). a ∷ l) (two_parts fs bs cs)

statement_there : (x : ℕ) (s : Statement) (os : List Occurrence) → Among x (declared_by s) → Among x (declared_among (in_statement s ++ os))
statement_there x (runs_it e) os i = absurd (none_among i)
statement_there x (begins n xs) os i = all_there x xs os i
statement_there x (binds n p c) os i = subst (λ (l : List Occurrence). Among x (declared_among l)) (sym (two_parts (all_declared (bound p)) (occurrences_matched c) os)) (all_there x (bound p) (occurrences_matched c ++ os) i)

direct_there : (x : ℕ) (ss : List Statement) (os : List Occurrence) → Among x (declared_by_all ss) → Among x (declared_among (in_statements ss ++ os))
direct_there x [] os i = absurd (none_among i)
direct_there x (s ∷ ss) os i =
    subst (λ (l : List Occurrence). Among x (declared_among l)) (sym (two_parts (in_statement s) (in_statements ss) os)) (by (either x (declared_by s) (declared_by_all ss) i) (direct_there x ss os))
  where
    by : Among x (declared_by s) ⊎ Among x (declared_by_all ss) → (Among x (declared_by_all ss) → Among x (declared_among (in_statements ss ++ os))) → Among x (declared_among (in_statement s ++ (in_statements ss ++ os)))
    by (inl j) on = statement_there x s (in_statements ss ++ os) j
    by (inr j) on = later_there x (in_statement s) (in_statements ss ++ os) (on j)

is_in : (x : ℕ) (l : List ℕ) → has_number x l ≡ true → Among x l
is_in x [] e = clash (sym e)
is_in x (y ∷ l) e = by (x == y) refl e (is_in x l)
  where
    by : (b : Bool) → (x == y) ≡ b → (b || has_number x l) ≡ true → (has_number x l ≡ true → Among x l) → Among x (y ∷ l)
    by true s e rest = subst (λ (z : ℕ). Among z (y ∷ l)) (sym ((Decides-eqb x y).0 s)) here
    by false s e rest = there (rest e)

-- ---- the modes of params

pub each_long : {Q : ℕ → Mode → Type 0} {xs : List ℕ} {ms : List Mode} → Each Q xs ms → length ms ≡ length xs
each_long no_more = refl
each_long (with q h) = ap suc (each_long h)

module _ (ns : Names) (t : TypedFn) (Q : ℕ → Mode → Type 0) where
  abbrev Referred : List ℕ → List ℕ → Type 0
  Referred y xs = (p : ℕ) × (m : Mode) × Among p xs × (get_or ns p [] ≡ y) × Q p m × (is_referred (plain-Mode m) ≡ true)

  -- one that is behind a reference has such a mode
  referred_with : {xs : List ℕ} {ms : List Mode} → Each Q xs ms → (vs : List Bool) (y : List ℕ) → is_among y (referred (named_params ns t xs ms vs)) ≡ true → Referred y xs
  referred_with no_more vs y e = clash (sym e)
  referred_with (with q h) [] y e = clash (sym e)
  referred_with (with {x = x} {m = m} {xs = xs} {ms = ms} q h) (v ∷ vs) y e = by (is_referred (plain-Mode m)) refl e (referred_with h vs y)
    where
      on : Referred y xs → Referred y (x ∷ xs)
      on r = (r.0, r.1, there r.2, r.3, r.4, r.5)

      word : (b : Bool) → bytes_eq y (get_or ns x []) ≡ b → is_referred (plain-Mode m) ≡ true → (b || is_among y (referred (named_params ns t xs ms vs))) ≡ true → (is_among y (referred (named_params ns t xs ms vs)) ≡ true → Referred y xs) → Referred y (x ∷ xs)
      word true g is f rest = (x, m, here, sym ((bytes_eq-Decides y (get_or ns x [])).0 g), q, is)
      word false g is f rest = on (rest f)

      by : (b : Bool) → is_referred (plain-Mode m) ≡ b → is_among y (if b then get_or ns x [] ∷ referred (named_params ns t xs ms vs) else referred (named_params ns t xs ms vs)) ≡ true
          → (is_among y (referred (named_params ns t xs ms vs)) ≡ true → Referred y xs) → Referred y (x ∷ xs)
      by true is f rest = word (bytes_eq y (get_or ns x [])) refl is f rest
      by false is f rest = on (rest f)

-- ---- a run

-- what an exit hands out is offered
exit_offers : (q : Asked) (l : ExitPlan) → IsExitPlan q l → (e : Exit) (x : ℕ) → Among x (outs_in l.exits e) → is_offered q l.locals x ≡ true
exit_offers q l plan e x o = (chosen_those (is_offered q l.locals) x (variables_of q) (of_exit e o)).0
  where
    listed : (e : Exit) → Among x (outs_in l.exits e) → Among e (map (λ (y : ExitOuts). plain-Exit y.exit) l.exits)
    listed e o = outs_listed l.exits e x o

    of_exit : (e : Exit) → Among x (outs_in l.exits e) → Among x (those (is_offered q l.locals) (variables_of q))
    of_exit next o = chosen_among (plan.plan.outs next (listed next o) (λ d. cc)) x o
    of_exit (breaks n) o = chosen_among (plan.plan.outs (breaks n) (listed (breaks n) o) (λ d. cc)) x o
    of_exit (continues n) o = chosen_among (plan.plan.outs (continues n) (listed (continues n) o) (λ d. cc)) x o
    of_exit returns o = absurd (none_among (subst (Among x) plan.plan.none_returned o))

value_no : (m : Mode) → m ≡ mode.Value → is_referred (plain-Mode m) ≡ true → ⊥
value_no m e r = clash (sym r ∙ ap (λ (z : Mode). is_referred (plain-Mode z)) e)

module _ (A : Told) (q : Asked) (muts : List Bool) (choice : Uses → Mode) (plan : IsExitPlan q A.plan) (modes : Each (PassedIn q muts (plan_of q A.plan) choice) A.plan.params A.modes)
    -- a param that the run moves is passed by value, and none is a local
    (moved_by_value : (x : ℕ) (m : Mode) → PassedIn q muts (plan_of q A.plan) choice x m → is_moved q x ≡ true → m ≡ mode.Value) (not_both : (x : ℕ) → Among x A.plan.params → Among x A.plan.locals → ⊥)
    (apart : (x y : ℕ) → Among x A.plan.params → Among y A.plan.params → get_or (names_in A) x [] ≡ get_or (names_in A) y [] → x ≡ y) where
  abbrev k : Plan
  k = plan_of q A.plan

  foreign_not_direct : (x : ℕ) → Among x (foreign_of q) → is_direct q.run q.home.body x ≡ true → ⊥
  foreign_not_direct x i d =
      let out = (chosen_those (λ (y : ℕ). not (is_declared_in_run q.run q.home.body y)) x (variables_of q) i).0 in
      let there_it_is = has_it x (declared_among (in_run q.run q.home.body)) (direct_there x (inside q.run q.home.body) (in_value (last_value q.run q.home.body)) (is_in x (declared_by_all (inside q.run q.home.body)) d)) in
      clash (sym out ∙ ap not there_it_is)

  offered_moved : (x : ℕ) → Among x A.plan.params → is_offered q A.plan.locals x ≡ true → is_moved q x ≡ true
  offered_moved x i o = by (is_moved q x) (has_number x A.plan.locals) refl (is_direct q.run q.home.body x) refl o
    where
      by : (a b : Bool) → has_number x A.plan.locals ≡ b → (c : Bool) → is_direct q.run q.home.body x ≡ c → (a || (b || c)) ≡ true → a ≡ true
      by true b e c f o = refl
      by false true e c f o = absurd (not_both x i (is_in x A.plan.locals e))
      by false false e true f o = absurd (foreign_not_direct x (chosen_among plan.plan.params x i) f)
      by false false e false f o = clash (sym o)

  pub by_value : (e : Exit) (x : ℕ) → Among x (k.outs e) → Among x A.plan.params → is_among (get_or (names_in A) x []) (referred (named_plan A).params) ≡ false
  by_value e x o i = by (is_among (get_or (names_in A) x []) (referred (named_plan A).params)) refl
    where
      by : (b : Bool) → is_among (get_or (names_in A) x []) (referred (named_plan A).params) ≡ b → is_among (get_or (names_in A) x []) (referred (named_plan A).params) ≡ false
      by true f =
          let r = referred_with (names_in A) A.function (PassedIn q muts (plan_of q A.plan) choice) modes A.moved (get_or (names_in A) x []) f in
          let m = offered_moved x i (exit_offers q A.plan plan e x o) in
          absurd (value_no r.1 (moved_by_value r.0 r.1 r.4 (ap (is_moved q) (apart r.0 x r.2 i r.3) ∙ m)) r.5)
      by false f = f
