-- A variable from outside that a run names is what its name means where the run is entered: in the run only what the run declares comes
-- in front of the scope there, and it is none of these.
use Rattle.std.proofs.Common.{◌≡◌, ℕ, Bool, true, false, not, ◌==◌, ◌||◌, if◌then◌else◌, List, [], ◌∷◌, ◌++◌, reverse, get_or, Option, Some, None, refl, sym, ap, subst, ◌∙◌, ◌⊎◌, inl, inr, eq-eqb, append_assoc}
use Rattle.std.proofs.lemmas.Grind.{reverse_onto}
use Rattle.rx_typed.specs.Tree.{Root, variable, temporary, Exp, read, borrow, share, build, unit, lazily, assign, update, call, input, print, block, choose, loop, jump, give, Operands, no_operand, operand_and, Scrutinee, at_place, of_value, Arms, no_arm, arm_and, Body, ends, runs, declares, lets, Function}
use Rattle.rx_tree.specs.Lists.{Every}
use Rattle.rx_lower_walks.specs.Walks.{Among, here, there}
use Rattle.rx_exits_plan.specs.Blocks.{Statement, does, begins, binds, bound, declared_by}
use Rattle.rx_exits_plan.specs.Spots.{Around, with_variables, with_loop}
use Rattle.rx_exits_plan.specs.Runs.{Run, Home, Sits, inside, last_value}
use Rattle.rx_exits_plan.specs.Asked.{Asked}
use Rattle.rx_exits_plan.specs.Exits.{past, at_start, at_end}
use Rattle.rx_exits_plan.specs.Occurrences.{Occurrence, names, declared, the_variable, named_root, named_place, all_declared, occurrences, occurrences_in, occurrences_matched, occurrences_armed, occurrences_of, in_statement, in_statements, in_value, in_run as occurrences_in_run, variables_among, declared_among, has_number, drops, firsts, variables_of_run, is_declared_in_run, those, foreign}
use Rattle.rx_exits_plan.specs.Plan.{Plan, IsPlan, Chosen, none, taken, left, foreign_of}
use Rattle.rx_exits_plan.specs.Shadowed.{meant}
use Rattle.rx_exits.specs.Refusing.{same_name}
use Rattle.rx_hoist_meant.specs.NamesMeant.{AtRoot, InExp, InOperands, InScrutinee, InArms, InBody, NamesMeant}
use Rattle.rx_hoist_meant.proofs.Meaning.{own_names}
use Rattle.rx_hoist_meant.proofs.MeantBlocks.{InStatement, InStatements, InValue, in_run}

-- ---- numbers in lists

either_true : (b c d : Bool) → (c ≡ true → d ≡ true) → (b || c) ≡ true → (b || d) ≡ true
either_true true c d f h = refl
either_true false c d f h = f h

behind_true : (b c : Bool) → c ≡ true → (b || c) ≡ true
behind_true true c h = refl
behind_true false c h = h

has_front : (x : ℕ) (xs ys : List ℕ) → has_number x xs ≡ true → has_number x (xs ++ ys) ≡ true
has_front x [] ys h = absurd (cc)
has_front x (z ∷ xs) ys h = either_true (x == z) (has_number x xs) (has_number x (xs ++ ys)) (has_front x xs ys) h

has_behind : (x : ℕ) (xs ys : List ℕ) → has_number x ys ≡ true → has_number x (xs ++ ys) ≡ true
has_behind x [] ys h = h
has_behind x (z ∷ xs) ys h = behind_true (x == z) (has_number x (xs ++ ys)) (has_behind x xs ys h)

declared_append : (os ps : List Occurrence) → declared_among (os ++ ps) ≡ declared_among os ++ declared_among ps
declared_append [] ps = refl
declared_append (names x ∷ os) ps = declared_append os ps
declared_append (declared x ∷ os) ps = ap (λ (l : List ℕ). x ∷ l) (declared_append os ps)

all_are_declared : (xs : List ℕ) → declared_among (all_declared xs) ≡ xs
all_are_declared [] = refl
all_are_declared (x ∷ xs) = ap (λ (l : List ℕ). x ∷ l) (all_are_declared xs)

every_append : {A : Type 0} (P : A → Type 0) (xs ys : List A) → Every P xs → Every P ys → Every P (xs ++ ys)
every_append P [] ys g h = h
every_append P (x ∷ xs) ys g h = (g.0, every_append P xs ys g.1 h)

-- ---- in the run, by what it declares and the scope where it is entered

module _ (same : ℕ → ℕ → Bool) (D : List ℕ) (base : List ℕ) where
  -- of one from outside
  abbrev pub Itself : ℕ → Type 0
  Itself x = has_number x D ≡ false → meant same x base ≡ Some x

  abbrev All : List Occurrence → Type 0
  All os = Every (λ (o : Occurrence). Itself (the_variable o)) os

  -- what these declare the run does
  abbrev Sub : List Occurrence → Type 0
  Sub os = (z : ℕ) → has_number z (declared_among os) ≡ true → has_number z D ≡ true

  abbrev Subs : List ℕ → Type 0
  Subs xs = (z : ℕ) → has_number z xs ≡ true → has_number z D ≡ true

  sub_front : (os ps : List Occurrence) → Sub (os ++ ps) → Sub os
  sub_front os ps h z i = h z (subst (λ (l : List ℕ). has_number z l ≡ true) (sym (declared_append os ps)) (has_front z (declared_among os) (declared_among ps) i))

  sub_behind : (os ps : List Occurrence) → Sub (os ++ ps) → Sub ps
  sub_behind os ps h z i = h z (subst (λ (l : List ℕ). has_number z l ≡ true) (sym (declared_append os ps)) (has_behind z (declared_among os) (declared_among ps) i))

  sub_declared : (xs : List ℕ) → Sub (all_declared xs) → Subs xs
  sub_declared xs h z i = h z (subst (λ (l : List ℕ). has_number z l ≡ true) (sym (all_are_declared xs)) i)

  -- in this scope what comes in front of that of the run is declared by the run
  abbrev Inside : List ℕ → Type 0
  Inside scope = (x : ℕ) → has_number x D ≡ false → meant same x scope ≡ Some x → meant same x base ≡ Some x

  is_that : (z x : ℕ) → ◌≡◌ {A = Option ℕ} (Some z) (Some x) → z ≡ x
  is_that z x e = cc

  one_more : (z : ℕ) (scope : List ℕ) → has_number z D ≡ true → Inside scope → Inside (z ∷ scope)
  one_more z scope i h x out e = by (same z x) e
    where
      by : (b : Bool) → (if b then Some z else meant same x scope) ≡ Some x → meant same x base ≡ Some x
      by true e = let one = is_that z x e in let clash : has_number x D ≡ true = subst (λ (y : ℕ). has_number y D ≡ true) one i in absurd (cc)
      by false e = h x out e

  first_has : (z : ℕ) (xs : List ℕ) → has_number z (z ∷ xs) ≡ true
  first_has z xs = ap (λ (b : Bool). b || has_number z xs) (eq-eqb z z refl)

  -- what is declared later comes in front
  more : (xs scope : List ℕ) → Subs xs → Inside scope → Inside (reverse xs ++ scope)
  more [] scope s h = h
  more (z ∷ xs) scope s h =
      let on : reverse (z ∷ xs) ++ scope ≡ reverse xs ++ (z ∷ scope) = ap (λ (l : List ℕ). l ++ scope) (reverse_onto xs z []) ∙ append_assoc (reverse xs) (z ∷ []) scope in
      subst Inside (sym on) (more xs (z ∷ scope) (λ y i. s y (behind_true (y == z) (has_number y xs) i)) (one_more z scope (s z (first_has z xs)) h))

  more_around : (xs : List ℕ) (a : Around) → Sub (all_declared xs) → Inside a.scope → Inside (with_variables xs a).scope
  more_around xs a s h = more xs a.scope (sub_declared xs s) h

  -- ---- occurrences

  all_of : (xs : List ℕ) → Subs xs → All (all_declared xs)
  all_of [] s = tt
  all_of (x ∷ xs) s =
      ((λ out. let i = s x (first_has x xs) in absurd (cc)), all_of xs (λ y i. s y (behind_true (y == x) (has_number y xs) i)))

  at_root : (a : Around) (r : Root) → Inside a.scope → AtRoot same a r → All (named_root r)
  at_root a (variable x) h m = ((λ out. h x out m), tt)
  at_root a (temporary t) h m = tt

  both : (os ps : List Occurrence) → Sub (os ++ ps) → (Sub os → All os) → (Sub ps → All ps) → All (os ++ ps)
  both os ps s f g = every_append (λ (o : Occurrence). Itself (the_variable o)) os ps (f (sub_front os ps s)) (g (sub_behind os ps s))

  mutual
    in_exp : (a : Around) (e : Exp) → Inside a.scope → InExp same a e → Sub (occurrences e) → All (occurrences e)
    in_exp a (read m v p) h x s = at_root a p.root h x
    in_exp a (borrow m k p) h x s = at_root a p.root h x
    in_exp a (share m e) h x s = in_exp a e h x s
    in_exp a (build m w es) h x s = in_operands a es h x s
    in_exp a (unit m) h x s = tt
    in_exp a (lazily m b e f) h x s = both (occurrences e) (occurrences f) s (in_exp a e h x.0) (in_exp a f h x.1)
    in_exp a (assign m p e) h x s = both (named_place p) (occurrences e) s (λ _. at_root a p.root h x.0) (in_exp a e h x.1)
    in_exp a (update m o p e) h x s = both (named_place p) (occurrences e) s (λ _. at_root a p.root h x.0) (in_exp a e h x.1)
    in_exp a (call m f es) h x s = in_operands a es h x s
    in_exp a (input m) h x s = tt
    in_exp a (print m e) h x s = in_exp a e h x s
    in_exp a (block m b) h x s = in_body a b h x s
    in_exp a (choose m c l) h x s = both (occurrences_matched c) (occurrences_armed l) s (in_matched a c h x.0) (in_arms a l h x.1)
    in_exp a (loop m l e) h x s = in_exp (with_loop l a) e h x s
    in_exp a (jump m l k) h x s = tt
    in_exp a (give m e) h x s = in_exp a e h x s

    in_operands : (a : Around) (es : Operands) → Inside a.scope → InOperands same a es → Sub (occurrences_in es) → All (occurrences_in es)
    in_operands a no_operand h x s = tt
    in_operands a (operand_and i e es) h x s = both (occurrences e) (occurrences_in es) s (in_exp a e h x.0) (in_operands a es h x.1)

    in_matched : (a : Around) (c : Scrutinee) → Inside a.scope → InScrutinee same a c → Sub (occurrences_matched c) → All (occurrences_matched c)
    in_matched a (at_place m p) h x s = at_root a p.root h x
    in_matched a (of_value e) h x s = in_exp a e h x s

    in_arms : (a : Around) (l : Arms) → Inside a.scope → InArms same a l → Sub (occurrences_armed l) → All (occurrences_armed l)
    in_arms a no_arm h x s = tt
    in_arms a (arm_and p e l) h x s =
        let d = sub_front (all_declared (bound p)) (occurrences e ++ occurrences_armed l) s in
        both (all_declared (bound p)) (occurrences e ++ occurrences_armed l) s (λ t. all_of (bound p) (sub_declared (bound p) t))
        (λ t. both (occurrences e) (occurrences_armed l) t (in_exp (with_variables (bound p) a) e (more_around (bound p) a d h) x.0) (in_arms a l h x.1))

    in_body : (a : Around) (b : Body) → Inside a.scope → InBody same a b → Sub (occurrences_of b) → All (occurrences_of b)
    in_body a (ends e) h x s = in_exp a e h x s
    in_body a (runs e b) h x s = both (occurrences e) (occurrences_of b) s (in_exp a e h x.0) (in_body a b h x.1)
    in_body a (declares n xs b) h x s =
        let d = sub_front (all_declared xs) (occurrences_of b) s in
        both (all_declared xs) (occurrences_of b) s (λ t. all_of xs (sub_declared xs t)) (in_body (with_variables xs a) b (more_around xs a d h) x)
    in_body a (lets n p c b) h x s =
        let d = sub_front (all_declared (bound p)) (occurrences_matched c ++ occurrences_of b) s in
        both (all_declared (bound p)) (occurrences_matched c ++ occurrences_of b) s (λ t. all_of (bound p) (sub_declared (bound p) t))
        (λ t. both (occurrences_matched c) (occurrences_of b) t (in_matched a c h x.0) (in_body (with_variables (bound p) a) b (more_around (bound p) a d h) x.1))

  in_one : (a : Around) (c : Statement) → Inside a.scope → InStatement same a c → Sub (in_statement c) → All (in_statement c)
  in_one a (does e) h x s = in_exp a e h x s
  in_one a (begins n xs) h x s = all_of xs (sub_declared xs s)
  in_one a (binds n p c) h x s = both (all_declared (bound p)) (occurrences_matched c) s (λ t. all_of (bound p) (sub_declared (bound p) t)) (in_matched a c h x)

  -- behind a statement what it declares is in scope
  behind_one : (a : Around) (c : Statement) → Inside a.scope → Sub (in_statement c) → Inside (with_variables (declared_by c) a).scope
  behind_one a (does e) h s = h
  behind_one a (begins n xs) h s = more_around xs a s h
  behind_one a (binds n p c) h s = more_around (bound p) a (sub_front (all_declared (bound p)) (occurrences_matched c) s) h

  record Walked (a : Around) (cs : List Statement) : Type 0 where
    all : All (in_statements cs)
    scope : Inside (past cs a).scope

  in_rows : (a : Around) (cs : List Statement) → Inside a.scope → InStatements same a cs → Sub (in_statements cs) → Walked a cs
  in_rows a [] h x s = record { all = tt; scope = h }
  in_rows a (c ∷ cs) h x s =
      let f = sub_front (in_statement c) (in_statements cs) s in
      let g = sub_behind (in_statement c) (in_statements cs) s in
      let r = in_rows (with_variables (declared_by c) a) cs (behind_one a c h f) x.1 g in
      record { all = every_append (λ (o : Occurrence). Itself (the_variable o)) (in_statement c) (in_statements cs) (in_one a c h x.0 f) r.all; scope = r.scope }

  in_last : (a : Around) (o : Option Exp) → Inside a.scope → InValue same a o → Sub (in_value o) → All (in_value o)
  in_last a None h x s = tt
  in_last a (Some e) h x s = in_exp a e h x s

-- ---- the variables of a run

module _ (Q : ℕ → Type 0) where
  each_variable : (l : List Occurrence) → Every (λ (o : Occurrence). Q (the_variable o)) l → Every Q (variables_among l)
  each_variable [] h = tt
  each_variable (o ∷ l) h = (h.0, each_variable l h.1)

  dropped : (x : ℕ) (l : List ℕ) → Every Q l → Every Q (drops x l)
  dropped x [] h = tt
  dropped x (y ∷ l) h = by (y == x) (dropped x l h.1)
    where
      by : (b : Bool) → Every Q (drops x l) → Every Q (if b then drops x l else y ∷ drops x l)
      by true rest = rest
      by false rest = (h.0, rest)

  firsts_of : (l : List ℕ) → Every Q l → Every Q (firsts l)
  firsts_of [] h = tt
  firsts_of (x ∷ l) h = (h.0, dropped x (firsts l) (firsts_of l h.1))

  at_each : (l : List ℕ) → Every Q l → (x : ℕ) → Among x l → Q x
  at_each [] h x i = absurd (elim i [ ])
  at_each (y ∷ l) h _ here = h.0
  at_each (y ∷ l) h x (there i) = at_each l h.1 x i

at_head : {x y : ℕ} {l : List ℕ} → Among x (y ∷ l) → (x ≡ y) ⊎ Among x l
at_head here = inl refl
at_head (there h) = inr h

those_are : (f : ℕ → Bool) (l : List ℕ) (x : ℕ) → Among x (those f l) → (f x ≡ true) × Among x l
those_are f [] x i = absurd (elim i [ ])
those_are f (y ∷ l) x i = by (f y) refl i (those_are f l x)
  where
    by : (b : Bool) → f y ≡ b → Among x (if b then y ∷ those f l else those f l) → (Among x (those f l) → (f x ≡ true) × Among x l) → (f x ≡ true) × Among x (y ∷ l)
    by true e i later = elim (at_head i) [
      | inl s ↦ (ap f s ∙ e, subst (λ (z : ℕ). Among z (y ∷ l)) (sym s) here)
      | inr k ↦ let r = later k in (r.0, there r.1)
    ]
    by false e i later = let r = later i in (r.0, there r.1)

chosen_among : {Q : ℕ → Type 0} {l m : List ℕ} → Chosen Q l m → (x : ℕ) → Among x m → Among x l
chosen_among none x i = i
chosen_among (taken q c) _ here = here
chosen_among (taken q c) x (there i) = there (chosen_among c x i)
chosen_among (left q c) x i = there (chosen_among c x i)

not_true : (b : Bool) → not b ≡ true → b ≡ false
not_true true h = absurd (cc)
not_true false h = refl

-- one from outside, at the run's start
pub foreign_means : (same : ℕ → ℕ → Bool) (f : Function) (r : Run) (h : Home) → Sits f r h → NamesMeant same f
    → (x : ℕ) → Among x (foreign r h.body) → meant same x (at_start r h).scope ≡ Some x
foreign_means same f r h s m x i =
    let D = declared_among (occurrences_in_run r h.body) in
    let base = (at_start r h).scope in
    let w = in_run same f r h s m in
    let sub : Sub same D base (occurrences_in_run r h.body) = λ z d. d in
    let rows = in_rows same D base (at_start r h) (inside r h.body) (λ y out e. e) w.rows (sub_front same D base (in_statements (inside r h.body)) (in_value (last_value r h.body)) sub) in
    let last = in_last same D base (at_end r h) (last_value r h.body) rows.scope w.last (sub_behind same D base (in_statements (inside r h.body)) (in_value (last_value r h.body)) sub) in
    let all = every_append (λ (o : Occurrence). Itself same D base (the_variable o)) (in_statements (inside r h.body)) (in_value (last_value r h.body)) rows.all last in
    let each = firsts_of (Itself same D base) (variables_among (occurrences_in_run r h.body)) (each_variable (Itself same D base) (occurrences_in_run r h.body) all) in
    let t = those_are (λ y. not (is_declared_in_run r h.body y)) (variables_of_run r h.body) x i in
    at_each (Itself same D base) (variables_of_run r h.body) each x t.1 (not_true (is_declared_in_run r h.body x) t.0)

pub given_among : (A : Asked) (k : Plan) → IsPlan A k → (x : ℕ) → Among x k.params ⊎ Among x k.locals → Among x (foreign_of A)
given_among A k p x (inl i) = chosen_among p.params x i
given_among A k p x (inr i) = chosen_among p.locals x i

pub given_mean : (A : Asked) (k : Plan) (ns : List (List ℕ)) → Sits A.function A.run A.home → NamesMeant (same_name ns) A.function → IsPlan A k
    → (x : ℕ) → Among x k.params ⊎ Among x k.locals → meant (same_name ns) x (at_start A.run A.home).scope ≡ Some x
given_mean A k ns s m p x i = foreign_means (same_name ns) A.function A.run A.home s m x (given_among A k p x i)

pub given_apart : (A : Asked) (k : Plan) (ns : List (List ℕ)) → Sits A.function A.run A.home → NamesMeant (same_name ns) A.function → IsPlan A k
    → (x y : ℕ) → Among x k.params ⊎ Among x k.locals → Among y k.params ⊎ Among y k.locals → get_or ns x [] ≡ get_or ns y [] → x ≡ y
given_apart A k ns s m p x y a b e =
    own_names ns x y (at_start A.run A.home).scope (given_mean A k ns s m p x a) (given_mean A k ns s m p y b) e
