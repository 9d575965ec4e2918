-- What a plan chooses: where it says no of a variable that it was asked of, nothing holds of it; and a variable that may be elsewhere
-- is not live at an exit that doesn't hand it out.
use Rattle.std.proofs.Common.{◌≡◌, ◌≢◌, ◌⊎◌, inl, inr, ℕ, Bool, true, false, not, ◌&&◌, ◌||◌, ◌==◌, if◌then◌else◌, List, [], ◌∷◌, ◌++◌, refl, sym, ap, subst, true≢false}
use Rattle.std.proofs.lemmas.Bool.Decides.{Decides-eqb}
use Rattle.rx_lower_walks.specs.Walks.{Among, here, there}
use Rattle.rx_facts_tables.proofs.Fronts.{both_true}
use Rattle.rx_exits_plan.specs.Points.{Exit, next, breaks, continues, returns}
use Rattle.rx_exits_plan.specs.Occurrences.{those, has_number, is_declared_in_run, is_direct, is_named_behind}
use Rattle.rx_exits_plan.specs.Asked.{Asked, IsParam, IsLocal, IsLiveAt}
use Rattle.rx_exits_plan.specs.Plan.{Plan, Chosen, none, taken, left, IsPlan, variables_of, is_moved, is_offered, offered, is_redeclared}
use Rattle.rx_modes_uses.specs.NotMut.{NotMut}
use Rattle.rx_modes_given.specs.GivenAway.{is_given_away}
use Rattle.rx_modes_given.proofs.Needed.{unrefused_not_needed}
use Rattle.rx_engine_simulation.specs.Sights.{In}
use Rattle.rx_engine_related.specs.AboutRun.{handed, special_of}

-- ---- lists

pub in_list : {x : ℕ} {l : List ℕ} → In x l → Among x l
in_list {x = x} {l = []} i = absurd i
in_list {x = x} {l = y ∷ l} (inl e) = subst (λ z. Among x (z ∷ l)) e here
in_list {x = x} {l = y ∷ l} (inr i) = there (in_list i)

either_part : (x : ℕ) (l m : List ℕ) → In x (l ++ m) → In x l ⊎ In x m
either_part x [] m i = inr i
either_part x (y ∷ l) m (inl e) = inl (inl e)
either_part x (y ∷ l) m (inr i) = by (either_part x l m i)
  where
    by : In x l ⊎ In x m → In x (y ∷ l) ⊎ In x m
    by (inl j) = inl (inr j)
    by (inr j) = inr j

first_or : (f : ℕ → Bool) (x y : ℕ) (l m : List ℕ) → f y ≡ true → (Among x m → Among x l × (f x ≡ true)) → Among x (y ∷ m) → Among x (y ∷ l) × (f x ≡ true)
first_or f _ y l m e g here = (here, e)
first_or f x y l m e g (there i) = let z = g i in (there z.0, z.1)

pub of_those : (f : ℕ → Bool) (l : List ℕ) {x : ℕ} → Among x (those f l) → Among x l × (f x ≡ true)
of_those f [] i = elim i [ ]
of_those f (y ∷ l) {x = x} i = by (λ j. of_those f l j) (f y) refl i
  where
    by : (Among x (those f l) → Among x l × (f x ≡ true)) → (b : Bool) → f y ≡ b → Among x (if b then y ∷ those f l else those f l) → Among x (y ∷ l) × (f x ≡ true)
    by ih true e j = first_or f x y l (those f l) e ih j
    by ih false e j = let z = ih j in (there z.0, z.1)

pub to_those : (f : ℕ → Bool) (l : List ℕ) {x : ℕ} → Among x l → f x ≡ true → Among x (those f l)
to_those f [] i e = elim i [ ]
to_those f (y ∷ l) here e = by (f y) e
  where
    by : (b : Bool) → b ≡ true → Among y (if b then y ∷ those f l else those f l)
    by true q = here
    by false q = absurd (true≢false (sym q))
to_those f (y ∷ l) {x = x} (there i) e = by (f y) (to_those f l i e)
  where
    by : (b : Bool) → Among x (those f l) → Among x (if b then y ∷ those f l else those f l)
    by true j = there j
    by false j = j

pub number_there : (x : ℕ) (l : List ℕ) → Among x l → has_number x l ≡ true
number_there x [] i = elim i [ ]
number_there x (_ ∷ l) here = ap (λ b. b || has_number x l) ((Decides-eqb x x).1 refl)
number_there x (y ∷ l) (there i) = or_right (x == y) (has_number x l) (number_there x l i)
  where
    or_right : (a b : Bool) → b ≡ true → a || b ≡ true
    or_right true b e = refl
    or_right false b e = e

-- ---- what is chosen

pub chosen_is : {Q : ℕ → Type 0} {l m : List ℕ} {x : ℕ} → Chosen Q l m → Among x m → Among x l × Q x
chosen_is none i = elim i [ ]
chosen_is (taken q c) here = (here, q)
chosen_is (taken q c) (there i) = let z = chosen_is c i in (there z.0, z.1)
chosen_is (left r c) i = let z = chosen_is c i in (there z.0, z.1)

pub not_chosen : {Q : ℕ → Type 0} {l m : List ℕ} {x : ℕ} → Chosen Q l m → Among x l → (Among x m → ⊥) → ¬ (Q x)
not_chosen none i n = elim i [ ]
not_chosen (taken q c) here n = absurd (n here)
not_chosen (taken q c) (there i) n = not_chosen c i (λ j. n (there j))
not_chosen (left r c) here n = r
not_chosen (left r c) (there i) n = not_chosen c i n

-- ---- what it names

module _ (A : Asked) (k : Plan) (p : IsPlan A k) where
  pub param_named : (x : ℕ) → Among x k.params → Among x (variables_of A) × IsParam A x
  param_named x i = let z = chosen_is p.params i in ((of_those (λ y. not (is_declared_in_run A.run A.home.body y)) (variables_of A) z.0).0, z.1)

  pub local_named : (x : ℕ) → Among x k.locals → Among x (variables_of A) × IsLocal A x
  local_named x i = let z = chosen_is p.locals i in ((of_those (λ y. not (is_declared_in_run A.run A.home.body y)) (variables_of A) z.0).0, z.1)

  none_in : {x : ℕ} → Among x [] → ⊥
  none_in i = elim i [ ]

  pub out_is : (e : Exit) → Among e k.exits → (x : ℕ) → Among x (k.outs e) → Among x (offered A k.locals) × IsLiveAt A k.params e x
  out_is next i x o = chosen_is (p.outs next i (λ q. cc)) o
  out_is (breaks l) i x o = chosen_is (p.outs (breaks l) i (λ q. cc)) o
  out_is (continues l) i x o = chosen_is (p.outs (continues l) i (λ q. cc)) o
  out_is returns i x o = absurd (none_in (subst (λ l. Among x l) p.none_returned o))

  some_out : (es : List Exit) → ((e : Exit) → Among e es → Among e k.exits) → (x : ℕ) → In x (handed es k.outs) → (e : Exit) × Among e k.exits × Among x (k.outs e)
  some_out [] f x i = absurd i
  some_out (e ∷ es) f x i = by (λ j. some_out es (λ c q. f c (there q)) x j) (either_part x (k.outs e) (handed es k.outs) i)
    where
      by : (In x (handed es k.outs) → (c : Exit) × Among c k.exits × Among x (k.outs c)) → In x (k.outs e) ⊎ In x (handed es k.outs) → (c : Exit) × Among c k.exits × Among x (k.outs c)
      by ih (inl j) = (e, f e here, in_list j)
      by ih (inr j) = ih j

  offers : (x : ℕ) → Among x (variables_of A) → is_offered A k.locals x ≡ true → Among x (offered A k.locals)
  offers x i e = to_those (is_offered A k.locals) (variables_of A) i e

  first_of : (a b c : Bool) → a ≡ true → a || (b || c) ≡ true
  first_of true b c e = refl
  first_of false b c e = absurd (true≢false (sym e))

  second_of : (a b c : Bool) → b ≡ true → a || (b || c) ≡ true
  second_of true b c e = refl
  second_of false true c e = refl
  second_of false false c e = absurd (true≢false (sym e))

  third_of : (a b c : Bool) → c ≡ true → a || (b || c) ≡ true
  third_of true b c e = refl
  third_of false true c e = refl
  third_of false false c e = e

  moved_offered : (x : ℕ) → Among x k.params → is_moved A x ≡ true → Among x (offered A k.locals)
  moved_offered x i e = offers x (param_named x i).0 (first_of (is_moved A x) (has_number x k.locals) _ e)

  local_offered : (x : ℕ) → Among x k.locals → Among x (offered A k.locals)
  local_offered x i = offers x (local_named x i).0 (second_of (is_moved A x) (has_number x k.locals) _ (number_there x k.locals i))

  again_offered : (x : ℕ) → Among x k.redeclared → Among x (offered A k.locals)
  again_offered x i =
      let z = of_those (is_redeclared A (k.outs next)) (variables_of A) (subst (λ l. Among x l) p.redeclared i) in
      let q = both_true (is_direct A.run A.home.body x && is_named_behind A.run A.home.body x) (not (has_number x (k.outs next))) z.1 in
      offers x z.0 (third_of (is_moved A x) (has_number x k.locals) (is_direct A.run A.home.body x) (both_true (is_direct A.run A.home.body x) (is_named_behind A.run A.home.body x) q.0).0)

  pub offered_named : (x : ℕ) → Among x (offered A k.locals) → Among x (variables_of A)
  offered_named x i = (of_those (is_offered A k.locals) (variables_of A) i).0

-- ---- what may be elsewhere

module _ (A : Asked) (muts : List Bool) (k : Plan) (p : IsPlan A k) where
  pub data Elsewhere (x : ℕ) : Type 0 where
    given_param : Among x k.params → is_given_away A muts x ≡ true → Elsewhere x
    a_local : Among x k.locals → Elsewhere x
    an_out : (e : Exit) → Among e k.exits → Among x (k.outs e) → Elsewhere x
    again : Among x k.redeclared → Elsewhere x

  pub special_is : (x : ℕ) → In x (special_of A muts k) → Elsewhere x
  special_is x i = by (either_part x (those (is_given_away A muts) k.params) (k.locals ++ (handed k.exits k.outs ++ k.redeclared)) i)
    where
      of_rest : In x (handed k.exits k.outs) ⊎ In x k.redeclared → Elsewhere x
      of_rest (inl j) = let z = some_out A k p k.exits (λ e q. q) x j in an_out z.0 z.1 z.2
      of_rest (inr j) = again (in_list j)

      of_more : In x k.locals ⊎ In x (handed k.exits k.outs ++ k.redeclared) → Elsewhere x
      of_more (inl j) = a_local (in_list j)
      of_more (inr j) = of_rest (either_part x (handed k.exits k.outs) k.redeclared j)

      by : In x (those (is_given_away A muts) k.params) ⊎ In x (k.locals ++ (handed k.exits k.outs ++ k.redeclared)) → Elsewhere x
      by (inl j) = let z = of_those (is_given_away A muts) k.params (in_list j) in given_param z.0 z.1
      by (inr j) = of_more (either_part x k.locals (handed k.exits k.outs ++ k.redeclared) j)

  pub elsewhere_named : (x : ℕ) → Elsewhere x → Among x (variables_of A)
  elsewhere_named x (given_param i e) = (param_named A k p x i).0
  elsewhere_named x (a_local i) = (local_named A k p x i).0
  elsewhere_named x (an_out e i o) = offered_named A k p x (out_is A k p e i x o).0
  elsewhere_named x (again i) = offered_named A k p x (again_offered A k p x i)

  -- What an exit doesn't hand out is not live there, where no param is refused: it was asked of what may be handed out, and what is given away and
  -- not moved would have no mode.
  pub not_live : ((y : ℕ) → ¬ (NotMut A muts k y)) → (e : Exit) → Among e k.exits → e ≢ returns → (x : ℕ) → Elsewhere x → (Among x (k.outs e) → ⊥) → ¬ (IsLiveAt A k.params e x)
  not_live passed e i n x (given_param j g) absent = by (is_moved A x) refl
    where
      by : (b : Bool) → is_moved A x ≡ b → ¬ (IsLiveAt A k.params e x)
      by true m = not_chosen (p.outs e i n) (moved_offered A k p x j m) absent
      by false m = λ l. unrefused_not_needed A muts k x passed j g m (e, i, l)
  not_live passed e i n x (a_local j) absent = not_chosen (p.outs e i n) (local_offered A k p x j) absent
  not_live passed e i n x (an_out c j o) absent = not_chosen (p.outs e i n) (out_is A k p c j x o).0 absent
  not_live passed e i n x (again j) absent = not_chosen (p.outs e i n) (again_offered A k p x j) absent
