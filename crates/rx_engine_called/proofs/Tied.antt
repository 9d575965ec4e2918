-- Where the text stands to the typed tree as it should, it tells of the plan by names what the plan by numbers is.
use Rattle.std.proofs.Common.{◌≡◌, ℕ, Bool, true, false, not, ◌&&◌, ◌||◌, ◌==◌, if◌then◌else◌, List, [], ◌∷◌, ◌++◌, map, reverse, get_or, Option, Some, None, refl, sym, ap, ◌∙◌, subst, ◌⊎◌, inl, inr, append_assoc, bytes_eq}
use Rattle.std.proofs.lemmas.Bool.Decides.{Decides-eqb}
use Rattle.std.proofs.lemmas.Grind.{reverse_onto}
use Rattle.std.proofs.lemmas.List.{map-append}
use Rattle.std.proofs.lemmas.Slice.Eq.{bytes_eq-Decides}
use Rattle.rx_tree.specs.declared.tree.Ident.{Ident}
use Rattle.rx_tree.specs.Lists.{Every, statements, tail}
use Rattle.rx_tree.specs.Plain.{Function}
use Rattle.rx_typed.specs.Types.{Typ}
use Rattle.rx_typeck_typed.specs.declared.typed.TypedFn.{TypedFn}
use Rattle.rx_lower_walks.specs.Walks.{Among, here, there}
use Rattle.rx_exits_plan.specs.Blocks.{begins, binds, bound, declared_by_all, does, Statement}
use Rattle.rx_exits_plan.specs.Blocks as marks
use Rattle.rx_exits_plan.specs.Points.{breaks, continues, Exit, next, returns, same_exit}
use Rattle.rx_exits_plan.specs.Runs.{inside, last_value}
use Rattle.rx_exits_plan.specs.Spots.{Around, with_variables}
use Rattle.rx_exits_plan.specs.declared.plan.Exit.{Exit as ListedExit}
use Rattle.rx_exits_plan.specs.declared.plan.Exit.TheVariants as exit
use Rattle.rx_exits_plan.specs.declared.plan.ExitOuts.{ExitOuts}
use Rattle.rx_exits_plan.specs.Asked.{Asked}
use Rattle.rx_exits_plan.specs.Exits.{at_end, at_start, exits, past}
use Rattle.rx_exits_plan.specs.Occurrences.{all_declared, drops, firsts, has_number, in_run, in_statement, in_statements, in_value, is_declared_in_run, is_direct, is_named_behind, occurrences_matched, the_variable, those, variables_among}
use Rattle.rx_exits_plan.specs.Plan.{Chosen, is_offered, is_redeclared, left, none, taken, variables_of}
use Rattle.rx_exits_plan.specs.PlainPlan.{IsExitPlan, outs_in, plain-Exit, plan_of}
use Rattle.rx_exits_plan.specs.Shadowed.{meant}
use Rattle.rx_exits.specs.Refusing.{same_name}
use Rattle.rx_modes_policy.specs.declared.uses.Mode.{Mode}
use Rattle.rx_hoist_extraction.specs.Names.{behind_all, declared_by, is_among, Names}
use Rattle.rx_hoist_extraction.specs.Run.{as_statements, behind, labels_round, Run, run_block, run_parts}
use Rattle.rx_hoist_extraction.specs.Plan as plan
use Rattle.rx_hoist_extraction.specs.Plan.{has_exit, Leaving, names_of, outs_of, Param, to_next, Variable}
use Rattle.rx_hoist_extraction.specs.Values.{variables_held, held_by, next_values, result_if_any, result_of, Value}
use Rattle.rx_hoist_extraction.specs.Call.{is_own}
use Rattle.rx_hoist_naming.specs.NamedPlan.{named_exit, named_leaving, named_params, named_plan, named_variable, named_variables, names_in, place_of, Told}
use Rattle.rx_hoist_naming.specs.Words.{OutsAgree}
use Rattle.rx_engine_names.proofs.Scoped.{among_append}
use Rattle.rx_engine_called.specs.Outside.{a_break, a_continue, a_name, Outer, outside_of}
use Rattle.rx_engine_called.specs.Tells.{BehindTells, ExitTells, held_names, NamesIt, RunTells, told_behind, ValueTells}
use Rattle.rx_engine_called.specs.Tied.{BehindTied, RunTied, tied_behind}
use Rattle.rx_engine_called.proofs.Received.{every_among, held_in, next_holds}
use Rattle.rx_engine_called.proofs.Weaker.{optional_weaker, statements_weaker, Weaker}

-- ---- lists

every_mapped : {A B : Type 0} (h : A → B) (P : B → Type 0) (l : List A) → ((x : A) → Among x l → P (h x)) → Every P (map h l)
every_mapped h P [] f = tt
every_mapped h P (x ∷ l) f = (f x here, every_mapped h P l (λ y i. f y (there i)))

among_mapped : {A B : Type 0} (h : A → B) (l : List A) (x : A) → Among x l → Among (h x) (map h l)
among_mapped h [] x i = absurd (elim i [ ])
among_mapped h (y ∷ l) _ here = here
among_mapped h (y ∷ l) x (there i) = there (among_mapped h l x i)

chosen_among : {Q : ℕ → Type 0} {l m : List ℕ} → Chosen Q l m → (x : ℕ) → Among x m → Among x l
chosen_among none x i = i
chosen_among (taken q c) _ here = here
chosen_among (taken q c) x (there i) = there (chosen_among c x i)
chosen_among (left q c) x i = there (chosen_among c x i)

at_head : {x y : ℕ} {l : List ℕ} → Among x (y ∷ l) → (x ≡ y) ⊎ Among x l
at_head here = inl refl
at_head (there h) = inr h

among_front : (x : ℕ) (xs ys : List ℕ) → Among x xs → Among x (xs ++ ys)
among_front x [] ys i = absurd (elim i [ ])
among_front _ (z ∷ xs) ys here = here
among_front x (z ∷ xs) ys (there i) = there (among_front x xs ys i)

among_behind : (x : ℕ) (xs ys : List ℕ) → Among x ys → Among x (xs ++ ys)
among_behind x [] ys i = i
among_behind x (z ∷ xs) ys i = there (among_behind x xs ys i)

clash : true ≡ false → ⊥
clash e = cc

or_true : (a b : Bool) → b ≡ true → (a || b) ≡ true
or_true true b e = refl
or_true false b e = e

or_first : (a b : Bool) → a ≡ true → (a || b) ≡ true
or_first true b e = refl
or_first false b e = absurd (cc)

either_on : (a b c : Bool) → (b ≡ true → c ≡ true) → (a || b) ≡ true → (a || c) ≡ true
either_on true b c f h = refl
either_on false b c f h = f h

-- ---- numbers that a list has

is_same : (x y : ℕ) → (x == y) ≡ true → x ≡ y
is_same x y e = (Decides-eqb x y).0 e

has_itself : (x : ℕ) (l : List ℕ) → Among x l → has_number x l ≡ true
has_itself x [] i = absurd (elim i [ ])
has_itself _ (y ∷ l) here = or_first (y == y) (has_number y l) ((Decides-eqb y y).1 refl)
has_itself x (y ∷ l) (there i) = or_true (x == y) (has_number x l) (has_itself x l i)

is_in : (x : ℕ) (l : List ℕ) → has_number x l ≡ true → Among x l
is_in x [] e = absurd (cc)
is_in x (y ∷ l) e = by (x == y) refl e (is_in x l)
  where
    by : (b : Bool) → (x == y) ≡ b → (b || has_number x l) ≡ true → (has_number x l ≡ true → Among x l) → Among x (y ∷ l)
    by true s e rest = subst (λ (z : ℕ). Among x (z ∷ l)) (is_same x y s) here
    by false s e rest = there (rest e)

has_front : (x : ℕ) (xs ys : List ℕ) → has_number x xs ≡ true → has_number x (xs ++ ys) ≡ true
has_front x [] ys h = absurd (cc)
has_front x (z ∷ xs) ys h = either_on (x == z) (has_number x xs) (has_number x (xs ++ ys)) (has_front x xs ys) h

has_behind : (x : ℕ) (xs ys : List ℕ) → has_number x ys ≡ true → has_number x (xs ++ ys) ≡ true
has_behind x [] ys h = h
has_behind x (z ∷ xs) ys h = or_true (x == z) (has_number x (xs ++ ys)) (has_behind x xs ys h)

has_dropped : (k x : ℕ) (l : List ℕ) → (k ≡ x → ⊥) → has_number k l ≡ true → has_number k (drops x l) ≡ true
has_dropped k x [] d h = absurd (cc)
has_dropped k x (y ∷ l) d h = by (y == x) refl (has_dropped k x l d)
  where
    rest_has : y ≡ x → (b : Bool) → (k == y) ≡ b → (b || has_number k l) ≡ true → has_number k l ≡ true
    rest_has e true f g = absurd (d (is_same k y f ∙ e))
    rest_has e false f g = g

    by : (b : Bool) → (y == x) ≡ b → (has_number k l ≡ true → has_number k (drops x l) ≡ true) → has_number k (if b then drops x l else y ∷ drops x l) ≡ true
    by true e rest = rest (rest_has (is_same y x e) (k == y) refl h)
    by false e rest = either_on (k == y) (has_number k l) (has_number k (drops x l)) rest h

has_first : (k : ℕ) (l : List ℕ) → has_number k l ≡ true → has_number k (firsts l) ≡ true
has_first k [] h = h
has_first k (x ∷ l) h = by (k == x) refl h (has_first k l)
  where
    by : (b : Bool) → (k == x) ≡ b → (b || has_number k l) ≡ true → (has_number k l ≡ true → has_number k (firsts l) ≡ true) → (b || has_number k (drops x (firsts l))) ≡ true
    by true e h rest = refl
    by false e h rest = has_dropped k x (firsts l) (λ s. clash (sym ((Decides-eqb k x).1 s) ∙ e)) (rest h)

has_those : (f : ℕ → Bool) (k : ℕ) (l : List ℕ) → f k ≡ true → has_number k l ≡ true → has_number k (those f l) ≡ true
has_those f k [] e h = h
has_those f k (x ∷ l) e h = by (f x) refl (k == x) refl h (has_those f k l e)
  where
    by : (b : Bool) → f x ≡ b → (c : Bool) → (k == x) ≡ c → (c || has_number k l) ≡ true → (has_number k l ≡ true → has_number k (those f l) ≡ true) → has_number k (if b then x ∷ those f l else those f l) ≡ true
    by true d c g h rest = either_on (k == x) (has_number k l) (has_number k (those f l)) rest (ap (λ (z : Bool). z || has_number k l) g ∙ h)
    by false d true g h rest = absurd (clash (sym e ∙ ap f (is_same k x g) ∙ d))
    by false d false g h rest = rest h

those_are : (f : ℕ → Bool) (l : List ℕ) (x : ℕ) → Among x (those f l) → (f x ≡ true) × Among x l
those_are f [] x i = absurd (elim i [ ])
those_are f (y ∷ l) x i = by (f y) refl i (those_are f l x)
  where
    by : (b : Bool) → f y ≡ b → Among x (if b then y ∷ those f l else those f l) → (Among x (those f l) → (f x ≡ true) × Among x l) → (f x ≡ true) × Among x (y ∷ l)
    by true e i later = elim (at_head i) [
      | inl s ↦ (ap f s ∙ e, subst (λ (z : ℕ). Among z (y ∷ l)) (sym s) here)
      | inr k ↦ let r = later k in (r.0, there r.1)
    ]
    by false e i later = let r = later i in (r.0, there r.1)

-- ---- what is named

is_named : (ns : Names) (x : ℕ) (l : List ℕ) → has_number x l ≡ true → is_among (get_or ns x []) (map (λ (y : ℕ). get_or ns y []) l) ≡ true
is_named ns x [] h = absurd (cc)
is_named ns x (y ∷ l) h = by (x == y) refl h (is_named ns x l)
  where
    by : (b : Bool) → (x == y) ≡ b → (b || has_number x l) ≡ true → (has_number x l ≡ true → is_among (get_or ns x []) (map (λ (z : ℕ). get_or ns z []) l) ≡ true)
        → (bytes_eq (get_or ns x []) (get_or ns y []) || is_among (get_or ns x []) (map (λ (z : ℕ). get_or ns z []) l)) ≡ true
    by true e h rest =
        or_first (bytes_eq (get_or ns x []) (get_or ns y [])) (is_among (get_or ns x []) (map (λ (z : ℕ). get_or ns z []) l))
        ((bytes_eq-Decides (get_or ns x []) (get_or ns y [])).1 (ap (λ (z : ℕ). get_or ns z []) (is_same x y e)))
    by false e h rest = or_true (bytes_eq (get_or ns x []) (get_or ns y [])) (is_among (get_or ns x []) (map (λ (z : ℕ). get_or ns z []) l)) (rest h)

names_are : (ns : Names) (t : TypedFn) (xs : List ℕ) → names_of (named_variables ns t xs) ≡ map (λ (y : ℕ). get_or ns y []) xs
names_are ns t [] = refl
names_are ns t (x ∷ xs) = ap (λ (l : Names). get_or ns x [] ∷ l) (names_are ns t xs)

-- ---- scopes

meant_in : (same : ℕ → ℕ → Bool) (x y : ℕ) (l : List ℕ) → meant same x l ≡ Some y → Among y l
meant_in same x y [] e = absurd (cc)
meant_in same x y (z ∷ l) e = by (same z x) e (meant_in same x y l)
  where
    by : (b : Bool) → (if b then Some z else meant same x l) ≡ Some y → (meant same x l ≡ Some y → Among y l) → Among y (z ∷ l)
    by true e rest = let s : z ≡ y = cc in subst (λ (w : ℕ). Among w (z ∷ l)) s here
    by false e rest = there (rest e)

turned : (x : ℕ) (xs l : List ℕ) → Among x (reverse xs ++ l) → Among x xs ⊎ Among x l
turned x [] l i = inr i
turned x (z ∷ xs) l i =
    let on : reverse (z ∷ xs) ++ l ≡ reverse xs ++ (z ∷ l) = ap (λ (m : List ℕ). m ++ l) (reverse_onto xs z []) ∙ append_assoc (reverse xs) (z ∷ []) l in
    by (turned x xs (z ∷ l) (subst (Among x) on i))
  where
    of_head : (x ≡ z) ⊎ Among x l → Among x (z ∷ xs) ⊎ Among x l
    of_head (inl e) = inl (subst (λ (w : ℕ). Among w (z ∷ xs)) (sym e) here)
    of_head (inr j) = inr j

    by : Among x xs ⊎ Among x (z ∷ l) → Among x (z ∷ xs) ⊎ Among x l
    by (inl j) = inl (there j)
    by (inr j) = of_head (at_head j)

in_past : (x : ℕ) (ss : List Statement) (a : Around) → Among x (past ss a).scope → Among x (declared_by_all ss) ⊎ Among x a.scope
in_past x [] a i = inr i
in_past x (s ∷ ss) a i = by (in_past x ss (with_variables (marks.declared_by s) a) i)
  where
    of_one : Among x (marks.declared_by s) ⊎ Among x a.scope → Among x (declared_by_all (s ∷ ss)) ⊎ Among x a.scope
    of_one (inl j) = inl (among_front x (marks.declared_by s) (declared_by_all ss) j)
    of_one (inr j) = inr j

    by : Among x (declared_by_all ss) ⊎ Among x (reverse (marks.declared_by s) ++ a.scope) → Among x (declared_by_all (s ∷ ss)) ⊎ Among x a.scope
    by (inl j) = inl (among_behind x (marks.declared_by s) (declared_by_all ss) j)
    by (inr j) = of_one (turned x (marks.declared_by s) a.scope j)

-- ---- what direct statements declare occurs

all_are : (xs : List ℕ) → variables_among (all_declared xs) ≡ xs
all_are [] = refl
all_are (x ∷ xs) = ap (λ (l : List ℕ). x ∷ l) (all_are xs)

one_occurs : (k : ℕ) (s : Statement) → has_number k (marks.declared_by s) ≡ true → has_number k (variables_among (in_statement s)) ≡ true
one_occurs k (does e) h = absurd (cc)
one_occurs k (begins n xs) h = ap (has_number k) (all_are xs) ∙ h
one_occurs k (binds n p c) h =
    let rest = occurrences_matched c in
    ap (has_number k) (map-append the_variable (all_declared (bound p)) rest) ∙ has_front k (variables_among (all_declared (bound p))) (variables_among rest) (ap (has_number k) (all_are (bound p)) ∙ h)

has_either : (k : ℕ) (xs ys : List ℕ) → has_number k (xs ++ ys) ≡ true → (has_number k xs ≡ true) ⊎ (has_number k ys ≡ true)
has_either k [] ys h = inr h
has_either k (x ∷ xs) ys h = by (k == x) h (has_either k xs ys)
  where
    of_rest : (b : Bool) → (has_number k xs ≡ true) ⊎ (has_number k ys ≡ true) → ((b || has_number k xs) ≡ true) ⊎ (has_number k ys ≡ true)
    of_rest b (inl e) = inl (or_true b (has_number k xs) e)
    of_rest b (inr e) = inr e

    by : (b : Bool) → (b || has_number k (xs ++ ys)) ≡ true → (has_number k (xs ++ ys) ≡ true → (has_number k xs ≡ true) ⊎ (has_number k ys ≡ true)) → ((b || has_number k xs) ≡ true) ⊎ (has_number k ys ≡ true)
    by true e rest = inl refl
    by false e rest = of_rest false (rest e)

all_occur : (k : ℕ) (ss : List Statement) → has_number k (declared_by_all ss) ≡ true → has_number k (variables_among (in_statements ss)) ≡ true
all_occur k [] h = h
all_occur k (s ∷ ss) h = ap (has_number k) (map-append the_variable (in_statement s) (in_statements ss)) ∙ by (has_either k (marks.declared_by s) (declared_by_all ss) h) (all_occur k ss)
  where
    by : (has_number k (marks.declared_by s) ≡ true) ⊎ (has_number k (declared_by_all ss) ≡ true) → (has_number k (declared_by_all ss) ≡ true → has_number k (variables_among (in_statements ss)) ≡ true)
        → has_number k (variables_among (in_statement s) ++ variables_among (in_statements ss)) ≡ true
    by (inl e) rest = has_front k (variables_among (in_statement s)) (variables_among (in_statements ss)) (one_occurs k s e)
    by (inr e) rest = has_behind k (variables_among (in_statement s)) (variables_among (in_statements ss)) (rest e)

-- so it is a variable of the run
direct_occurs : (q : Asked) (k : ℕ) → is_direct q.run q.home.body k ≡ true → has_number k (variables_of q) ≡ true
direct_occurs q k h =
    let ss = inside q.run q.home.body in
    let v = in_value (last_value q.run q.home.body) in
    has_first k (variables_among (in_run q.run q.home.body))
    (ap (has_number k) (map-append the_variable (in_statements ss) v) ∙ has_front k (variables_among (in_statements ss)) (variables_among v) (all_occur k ss h))

-- ---- the outs of Next

and_first : (a b c : Bool) → (a && b && c) ≡ true → a ≡ true
and_first true b c e = refl
and_first false b c e = absurd (cc)

and_all : (a b c : Bool) → a ≡ true → b ≡ true → c ≡ true → (a && b && c) ≡ true
and_all true true true d e f = refl
and_all true true false d e f = absurd (cc)
and_all true false c d e f = absurd (cc)
and_all false b c d e f = absurd (cc)

is_not : (b : Bool) → b ≡ false → not b ≡ true
is_not true e = absurd (cc)
is_not false e = refl

module _ (ns : Names) (t : TypedFn) (ls : List ℕ) (k : ℕ) where
  abbrev leavings : List ExitOuts → List Leaving
  leavings es = map (named_leaving ns t ls) es

  -- an out of Next is handed out at the run's end
  record AtNext (es : List ExitOuts) : Type 0 where
    stands : has_exit to_next (leavings es) ≡ true
    given : is_among (get_or ns k []) (names_of (outs_of to_next (leavings es))) ≡ true

  outs_at_next : (es : List ExitOuts) → has_number k (outs_in es next) ≡ true → AtNext es
  outs_at_next [] h = absurd (cc)
  outs_at_next (e ∷ es) h = at e.exit refl h (outs_at_next es)
    where
      other : (X : ListedExit) → plan.same_exit to_next (named_exit ls X) ≡ false → AtNext es
          → ((plan.same_exit to_next (named_exit ls X) || has_exit to_next (leavings es)) ≡ true) × (is_among (get_or ns k []) (names_of (if plan.same_exit to_next (named_exit ls X) then named_variables ns t e.outs else outs_of to_next (leavings es))) ≡ true)
      other X d r = (
        or_true (plan.same_exit to_next (named_exit ls X)) (has_exit to_next (leavings es)) r.stands,
        subst (λ (b : Bool). is_among (get_or ns k []) (names_of (if b then named_variables ns t e.outs else outs_of to_next (leavings es))) ≡ true) (sym d) r.given,
      )

      of_pair : (X : ListedExit) → e.exit ≡ X
          → ((plan.same_exit to_next (named_exit ls X) || has_exit to_next (leavings es)) ≡ true) × (is_among (get_or ns k []) (names_of (if plan.same_exit to_next (named_exit ls X) then named_variables ns t e.outs else outs_of to_next (leavings es))) ≡ true) → AtNext (e ∷ es)
      of_pair X p r = record {
        stands = subst (λ (Y : ListedExit). (plan.same_exit to_next (named_exit ls Y) || has_exit to_next (leavings es)) ≡ true) (sym p) r.0;
        given = subst (λ (Y : ListedExit). is_among (get_or ns k []) (names_of (if plan.same_exit to_next (named_exit ls Y) then named_variables ns t e.outs else outs_of to_next (leavings es))) ≡ true) (sym p) r.1;
      }

      at : (X : ListedExit) → e.exit ≡ X → has_number k (if same_exit next (plain-Exit X) then e.outs else outs_in es next) ≡ true → (has_number k (outs_in es next) ≡ true → AtNext es) → AtNext (e ∷ es)
      at exit.Next p h rest = of_pair exit.Next p (refl, ap (is_among (get_or ns k [])) (names_are ns t e.outs) ∙ is_named ns k e.outs h)
      at (exit.Break l) p h rest = of_pair (exit.Break l) p (other (exit.Break l) refl (rest h))
      at (exit.Continue l) p h rest = of_pair (exit.Continue l) p (other (exit.Continue l) refl (rest h))
      at exit.Return p h rest = of_pair exit.Return p (other exit.Return refl (rest h))

held_names_are : (vs : List Variable) → held_names (variables_held vs) ≡ names_of vs
held_names_are [] = refl
held_names_are (v ∷ vs) = ap (λ (l : Names). v.name ∷ l) (held_names_are vs)

next_names : (b : Bool) (v : Option Typ) (vs : List Variable) → b ≡ true → held_names (if b then result_if_any v ++ variables_held vs else []) ≡ names_of vs
next_names true None vs e = held_names_are vs
next_names true (Some t) vs e = held_names_are vs
next_names false v vs e = absurd (cc)

-- ---- by the plan by numbers

module _ (A : Told) (q : Asked) (is : IsExitPlan q A.plan) (agree : OutsAgree A.plan.exits) (loops : A.loops ≡ q.home.around.loops)
    (visible : (x : ℕ) → Among next (plan_of q A.plan).exits → Among x ((plan_of q A.plan).outs next) → meant (same_name (names_in A)) x (at_end q.run q.home).scope ≡ Some x)
    (given : (x : ℕ) → Among x A.plan.params → meant (same_name (names_in A)) x (at_start q.run q.home).scope ≡ Some x) (r : Run) (g : Function) (tied : RunTied (names_in A) q (plan_of q A.plan) r g) where
  abbrev ns : Names
  ns = names_in A

  abbrev os : List Outer
  os = outside_of (labels_round r g) (run_parts r g)

  abbrev own : Names
  own = declared_by (run_parts r g).statements

  direct_named : (x : ℕ) → is_direct q.run q.home.body x ≡ true → is_among (get_or ns x []) own ≡ true
  direct_named x h = ap (is_among (get_or ns x [])) tied.declared ∙ is_named ns x (declared_by_all (inside q.run q.home.body)) h

  params_named : (xs : List ℕ) (ms : List Mode) (vs : List Bool) → ((x : ℕ) → Among x xs → Among (a_name (get_or ns x [])) os) → Every (λ (p : Param). NamesIt os p.variable) (named_params ns A.function xs ms vs)
  params_named [] ms vs h = tt
  params_named (x ∷ xs) [] vs h = tt
  params_named (x ∷ xs) (m ∷ ms) [] h = tt
  params_named (x ∷ xs) (m ∷ ms) (v ∷ vs) h = (h x here, params_named xs ms vs (λ y i. h y (there i)))

  -- what is handed out is declared by a direct statement, or named
  abbrev Handed : Variable → Type 0
  Handed v = is_own own v ≡ false → NamesIt os v

  -- one that an exit hands out occurs in the run
  occurs : (e : Exit) → Among e (plan_of q A.plan).exits → (e ≡ returns → ⊥) → (x : ℕ) → Among x ((plan_of q A.plan).outs e) → Among x (variables_of q)
  occurs e i n x o = let c = is.plan.outs e i n in (those_are (is_offered q A.plan.locals) (variables_of q) x (chosen_among c x o)).1

  -- one that is in scope behind the run and no direct statement declares is in scope in front of it
  at_the_end_named : (x : ℕ) → Among next (plan_of q A.plan).exits → Among x ((plan_of q A.plan).outs next) → is_among (get_or ns x []) own ≡ false → Among (a_name (get_or ns x [])) os
  at_the_end_named x i o free =
      let scope = meant_in (same_name ns) x x (at_end q.run q.home).scope (visible x i o) in
      by (occurs next i (λ e. cc) x o) (in_past x (inside q.run q.home.body) (at_start q.run q.home) scope)
    where
      by : Among x (variables_of q) → Among x (declared_by_all (inside q.run q.home.body)) ⊎ Among x (at_start q.run q.home).scope → Among (a_name (get_or ns x [])) os
      by j (inl d) = absurd (clash (sym (direct_named x (has_itself x (declared_by_all (inside q.run q.home.body)) d)) ∙ free))
      by j (inr s) = tied.named x j s

  -- the outs of an exit that is listed
  module _ (e : ExitOuts) (i : Among e A.plan.exits) where
    there_is : (X : ListedExit) → e.exit ≡ X → Among (plain-Exit X) (plan_of q A.plan).exits
    there_is X p = subst (λ (Y : ListedExit). Among (plain-Exit Y) (plan_of q A.plan).exits) p (among_mapped (λ (e : ExitOuts). plain-Exit e.exit) A.plan.exits e i)

    out_of : (X : ListedExit) → e.exit ≡ X → (x : ℕ) → Among x e.outs → Among x ((plan_of q A.plan).outs (plain-Exit X))
    out_of X p x j = subst (λ (Y : ListedExit). Among x ((plan_of q A.plan).outs (plain-Exit Y))) p (subst (Among x) (sym (agree e i)) j)

    leaves_by : (X : Exit) → Among X (plan_of q A.plan).exits → Among X (exits q.run q.home)
    leaves_by X j = subst (Among X) is.plan.exits j

    none_returned : (x : ℕ) → Among x ((plan_of q A.plan).outs returns) → ⊥
    none_returned x j = no_number (subst (Among x) is.plan.none_returned j)
      where
        no_number : Among x [] → ⊥
        no_number k = elim k [ ]

    jump_names : (X : ListedExit) → e.exit ≡ X → (plain-Exit X ≡ next → ⊥) → (plain-Exit X ≡ returns → ⊥) → (x : ℕ) → Among x e.outs → Among (a_name (get_or ns x [])) os
    jump_names X p d n x j = let o = out_of X p x j in tied.named x (occurs (plain-Exit X) (there_is X p) n x o) (tied.left (plain-Exit X) x d o)

    outs_handed : Every Handed (named_variables ns A.function e.outs)
    outs_handed = every_mapped (named_variable ns A.function) Handed e.outs (λ x j. of e.exit refl x j)
      where
        of : (X : ListedExit) → e.exit ≡ X → (x : ℕ) → Among x e.outs → Handed (named_variable ns A.function x)
        of exit.Next p x j free = at_the_end_named x (there_is exit.Next p) (out_of exit.Next p x j) free
        of (exit.Break l) p x j free = jump_names (exit.Break l) p (λ d. cc) (λ d. cc) x j
        of (exit.Continue l) p x j free = jump_names (exit.Continue l) p (λ d. cc) (λ d. cc) x j
        of exit.Return p x j free = absurd (none_returned x (out_of exit.Return p x j))

    jumped : (X : ListedExit) → e.exit ≡ X → (plain-Exit X ≡ next → ⊥) → (plain-Exit X ≡ returns → ⊥) → Every (NamesIt os) (named_variables ns A.function e.outs)
    jumped X p d n = every_mapped (named_variable ns A.function) (NamesIt os) e.outs (jump_names X p d n)

    exit_tells : ExitTells os (named_exit A.loops e.exit) (named_variables ns A.function e.outs)
    exit_tells = at e.exit refl
      where
        at : (X : ListedExit) → e.exit ≡ X → ExitTells os (named_exit A.loops X) (named_variables ns A.function e.outs)
        at exit.Next p = tt
        at (exit.Break l) p = (
          subst (λ (ls : List ℕ). (x : Option Ident) × Among (a_break x (place_of l ls)) os) (sym loops) (tied.broken l (leaves_by (breaks l) (there_is (exit.Break l) p))),
          jumped (exit.Break l) p (λ d. cc) (λ d. cc),
        )
        at (exit.Continue l) p = (
          subst (λ (ls : List ℕ). (x : Option Ident) × Among (a_continue x (place_of l ls)) os) (sym loops) (tied.continued l (leaves_by (continues l) (there_is (exit.Continue l) p))),
          jumped (exit.Continue l) p (λ d. cc) (λ d. cc),
        )
        at exit.Return p = tt

  to_values : (hs : List Value) → Every Handed (held_in hs) → Every (ValueTells own os) hs
  to_values [] h = tt
  to_values (result_of t ∷ hs) h = (tt, to_values hs h)
  to_values (held_by v ∷ hs) h = (h.0, to_values hs h.1)

  pub run_tells : RunTells (named_plan A) own os
  run_tells =
      let leaving = named_leaving ns A.function A.loops in
      let handed : Every (λ (x : Leaving). Every Handed x.outs) (named_plan A).exits = every_mapped leaving (λ (x : Leaving). Every Handed x.outs) A.plan.exits outs_handed in
      record {
        params = params_named A.plan.params A.modes A.moved (λ x i.
            let f = λ (y : ℕ). not (is_declared_in_run q.run q.home.body y) in
            tied.named x (those_are f (variables_of q) x (chosen_among is.plan.params x i)).1 (meant_in (same_name ns) x x (at_start q.run q.home).scope (given x i)));
        exits = every_mapped leaving (λ (x : Leaving). ExitTells os x.exit x.outs) A.plan.exits exit_tells;
        values = to_values (next_values (named_plan A)) (next_holds (λ (vs : List Variable). Every Handed vs) (named_plan A) tt (every_among (λ (x : Leaving). Every Handed x.outs) (named_plan A).exits handed));
        redeclared = every_mapped (named_variable ns A.function) (λ (v : Variable). is_own own v ≡ true) A.plan.redeclared (λ x i.
            let f = is_redeclared q ((plan_of q A.plan).outs next) in
            let d = (those_are f (variables_of q) x (subst (Among x) is.plan.redeclared i)).0 in
            direct_named x (and_first (is_direct q.run q.home.body x) (is_named_behind q.run q.home.body x) (not (has_number x ((plan_of q A.plan).outs next))) d));
      }

  -- ---- behind the run

  handed_back : (k : ℕ) → is_direct q.run q.home.body k ≡ true → is_named_behind q.run q.home.body k ≡ true → is_among (get_or ns k []) (names_of (named_plan A).redeclared ++ held_names (next_values (named_plan A))) ≡ true
  handed_back k d b =
      among_append (get_or ns k []) (names_of (named_plan A).redeclared) (held_names (next_values (named_plan A))) ∙ by (has_number k (outs_in A.plan.exits next)) refl
    where
      by : (z : Bool) → has_number k (outs_in A.plan.exits next) ≡ z → (is_among (get_or ns k []) (names_of (named_plan A).redeclared) || is_among (get_or ns k []) (held_names (next_values (named_plan A)))) ≡ true
      by true e =
          let n = outs_at_next ns A.function A.loops k A.plan.exits e in
          or_true (is_among (get_or ns k []) (names_of (named_plan A).redeclared)) (is_among (get_or ns k []) (held_names (next_values (named_plan A))))
          (ap (is_among (get_or ns k [])) (next_names (has_exit to_next (named_plan A).exits) (named_plan A).value (outs_of to_next (named_plan A).exits) n.stands) ∙ n.given)
      by false e =
          let f = is_redeclared q ((plan_of q A.plan).outs next) in
          let chosen = and_all (is_direct q.run q.home.body k) (is_named_behind q.run q.home.body k) (not (has_number k (outs_in A.plan.exits next))) d b (is_not (has_number k (outs_in A.plan.exits next)) e) in
          let there_it_is = ap (has_number k) is.plan.redeclared ∙ has_those f k (variables_of q) chosen (direct_occurs q k d) in
          or_first (is_among (get_or ns k []) (names_of (named_plan A).redeclared)) (is_among (get_or ns k []) (held_names (next_values (named_plan A))))
          (ap (is_among (get_or ns k [])) (names_are ns A.function A.plan.redeclared) ∙ is_named ns k A.plan.redeclared there_it_is)

  weaker : Weaker (tied_behind (named_plan A).identifiers ns q own) (told_behind (named_plan A) own)
  weaker = record {
    name = λ x h. h;
    variable = λ since x h e.
        let w = h e in
        (w.0, λ o. let v = w.1 o in subst (λ (z : List ℕ). is_among z (names_of (named_plan A).redeclared ++ held_names (next_values (named_plan A))) ≡ true) v.3 (handed_back v.0 v.1 v.2));
    broken = λ since ls l h. tt;
    continued = λ since ls l h. tt;
    returned = λ h. tt;
    annotation = λ y h. tt;
    block = λ since ls b h. tt;
  }

  pub behind_tells : BehindTied (named_plan A).identifiers ns q r g → BehindTells r (named_plan A) g
  behind_tells h =
      let rest = behind r (statements (run_block r g)) in
      let N = tied_behind (named_plan A).identifiers ns q own in
      let M = told_behind (named_plan A) own in
      (statements_weaker N M weaker [] [] (as_statements rest) h.0, optional_weaker N M weaker (behind_all [] (as_statements rest)) [] (tail (run_block r g)) h.1)
