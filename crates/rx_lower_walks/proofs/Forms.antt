-- What each form of the typed tree does itself, beside its parts: patterns, statements, operators, calls, jumps and blocks.
use Rattle.std.proofs.Common.{◌≡◌, ℕ, suc, ◌+◌, ◌≤◌, ◌==◌, Bool, true, false, ◌&&◌, not, List, [], ◌∷◌, ◌++◌, Option, Some, None, refl, ap, subst, ◌∙◌, arith}
use Rattle.rx_core.specs.declared.types.Step.{Step}
use Rattle.rx_core.specs.declared.types.Step.TheVariants as step
use Rattle.rx_tree.specs.declared.tree.BinaryOp.{BinaryOp}
use Rattle.rx_typed.specs.declared.nodes.Node.{Node}
use Rattle.rx_typed.specs.Types.{Typ, integer, boolean, tuple_of, reference, named, copies, peeled}
use Rattle.rx_typed.specs.Named as numbered
use Rattle.rx_typed.specs.Named.{is_place, node_of, body_node, written_node, body_never, else_never, all_never}
use Rattle.rx_typed.specs.Tree as tree
use Rattle.rx_typed.specs.Tree.{Root, variable, temporary, Place, Temporary, Constant, truth, Mode, by_value, by_reference, Pattern, Mark, Exp, Operands, Scrutinee, Making, mark_of, temporary_of, temporary_at}
use Rattle.rx_typed.specs.Elaborated as elaborated
use Rattle.rx_typed.specs.Elaborated.{Assigned, Coercion, Met, place, mark, mark_if, no_mark, pattern, subpatterns, field_patterns, behind_all, has_several, value, body, tail, nested, statement, arms, operands, fields, parameters, variables, variables_in, variables_in_fields}
use Rattle.rx_typed.specs.TypedNumbers.{pattern_nodes, patterns_nodes, field_patterns_nodes, statement_nodes, statements_nodes, exp_variables, statement_variables, statements_variables}
use Rattle.rx_lower_walks.specs.Matching.{PartTest, Binding, tag_test, tests, tests_in, bindings, bindings_in}
use Rattle.rx_lower_walks.specs.Actions.{Act, Declare, Dead, Read, Borrow, Test, Call, Build, Give, Subject, in_place, in_temporary, subject, part, taking, taken, written}
use Rattle.rx_lower_walks.specs.Orders.{Order, perhaps, testing, binding, declaring, order_all, order_scrutinee, order_arms, order_body, argument, written_parameter, beginning, order_function}
use Rattle.rx_lower_walks.specs.Orders as order
use Rattle.rx_lower_walks.specs.Pieces.{Scope, Variable, all_of}
use Rattle.rx_lower_walks.proofs.Keys.{Key, borrowed, one_if, times, times_both, weight, ends_of, onward, only_if, most}
use Rattle.rx_lower_walks.proofs.Weights.{one_act, two_acts, three_acts, no_end, node_here, borrow_no_end, ends_times, ends_one, Ends, none_ends, some_end, ends_cases, declares_of, declares_one, with_all, with_times, Fine, Held, fine_under, fine_left, fine_behind, fine_outside, plain_held, act_held, still_held, ended}

-- ---- patterns

abbrev pub test_weights : Key → Subject → List PartTest → ℕ
test_weights K S [] = 0
test_weights K S (t ∷ ts) = weight K t.node (Test (part S t.steps) t.check) + test_weights K S ts

abbrev pub taken_weight : Key → ℕ → Option Act → ℕ
taken_weight K n None = 0
taken_weight K n (Some a) = weight K n a

abbrev pub binding_weight : Key → Subject → Binding → ℕ
binding_weight K S b = taken_weight K b.node (taken S b) + (weight K b.node (Declare b.variable) + weight K b.node (written S b).act)

abbrev pub binding_weights : Key → Subject → List Binding → ℕ
binding_weights K S [] = 0
binding_weights K S (b ∷ bs) = binding_weight K S b + binding_weights K S bs

abbrev pub bound : List Binding → List ℕ
bound [] = []
bound (b ∷ bs) = b.variable ∷ bound bs

pub tests_both : (K : Key) (S : Subject) (ts us : List PartTest) → test_weights K S (ts ++ us) ≡ test_weights K S ts + test_weights K S us
tests_both K S [] us = omega arith
tests_both K S (t ∷ ts) us = let h = tests_both K S ts us in omega (arith, h)

pub bindings_both : (K : Key) (S : Subject) (bs cs : List Binding) → binding_weights K S (bs ++ cs) ≡ binding_weights K S bs + binding_weights K S cs
bindings_both K S [] cs = omega arith
bindings_both K S (b ∷ bs) cs = let h = bindings_both K S bs cs in omega (arith, h)

pub bound_both : (bs cs : List Binding) → bound (bs ++ cs) ≡ bound bs ++ bound cs
bound_both [] cs = refl
bound_both (b ∷ bs) cs = ap (λ xs. b.variable ∷ xs) (bound_both bs cs)

pub one_binding : (K : Key) (S : Subject) (b : Binding) → binding_weight K S b ≤ one_if (b.node == K.node)
one_binding K S b = by S b.mode
  where
    by : (S : Subject) (m : Mode) → taken_weight K b.node (taking m S b.steps (temporary_at b.node 0)) + (weight K b.node (Declare b.variable) + weight K b.node (written S b).act) ≤ one_if (b.node == K.node)
    by S (by_reference k) = three_acts K b.node (Borrow k (part S b.steps) (temporary_at b.node 0)) (Declare b.variable) (written S b).act (zero_apart (part S b.steps).root) (three_apart (part S b.steps).root) (λ e. omega (arith, e))
      where
        zero_apart : (r : Root) → borrowed r ≡ 0 → ⊥
        zero_apart (variable x) e = omega (arith, e)
        zero_apart (temporary t) e = omega (arith, e)

        three_apart : (r : Root) → borrowed r ≡ 3 → ⊥
        three_apart (variable x) e = omega (arith, e)
        three_apart (temporary t) e = omega (arith, e)
    by (in_place p) (by_value v) = three_acts K b.node (Read v (tree.under p b.steps) (temporary_at b.node 0)) (Declare b.variable) (written (in_place p) b).act (λ e. omega (arith, e)) (λ e. omega (arith, e)) (λ e. omega (arith, e))
    by (in_temporary t) (by_value v) = let h = two_acts K b.node (Declare b.variable) (written (in_temporary t) b).act (λ e. omega (arith, e)) in omega (arith, h)

-- what a pattern of the typed tree tests and binds, from any part on
abbrev pub Matches : Key → Subject → Pattern → List ℕ → List ℕ → Type 0
Matches K S p ns xs = (at : List Step) → (test_weights K S (tests at p) + binding_weights K S (bindings at p) ≤ times K.node ns) × (bound (bindings at p) ≡ xs)

pub behind_matches : (K : Key) (S : Subject) (t : Typ) (p : Pattern) (ns xs : List ℕ) → Matches K S p ns xs → Matches K S (behind_all t p) ns xs
behind_matches K S (reference m t) p ns xs h at = behind_matches K S t p ns xs h (at ++ step.Deref m ∷ [])
behind_matches K S (integer k) p ns xs h at = h at
behind_matches K S boolean p ns xs h at = h at
behind_matches K S (tuple_of ts) p ns xs h at = h at
behind_matches K S (named i) p ns xs h at = h at

-- the parts of a tuple, struct or variant
abbrev pub PartsMatch : Key → Subject → tree.Subpatterns → List ℕ → List ℕ → Type 0
PartsMatch K S ps ns xs = (at : List Step) → (test_weights K S (tests_in at ps) + binding_weights K S (bindings_in at ps) ≤ times K.node ns) × (bound (bindings_in at ps) ≡ xs)

pub parts_match : (K : Key) (S : Subject) (n : ℕ) (ps : tree.Subpatterns) (ns xs : List ℕ) → PartsMatch K S ps ns xs → Matches K S (tree.parts ps) (n ∷ ns) xs
parts_match K S n ps ns xs h at = let a = (h at).0 in (omega (arith, a), (h at).1)

pub variant_matches : (K : Key) (S : Subject) (n i : ℕ) (several : Bool) (v : ℕ) (ps : tree.Subpatterns) (ns xs : List ℕ) → PartsMatch K S ps ns xs → Matches K S (tree.variant n i several v ps) (n ∷ ns) xs
variant_matches K S n i false v ps ns xs h at = let a = (h (at ++ step.Variant v ∷ [])).0 in (omega (arith, a), (h (at ++ step.Variant v ∷ [])).1)
variant_matches K S n i true v ps ns xs h at =
    let a = (h (at ++ step.Variant v ∷ [])).0 in
    let w = one_act K n (Test (part S at) (Rattle.rx_lower_walks.specs.Matching.has_tag v)) in
    (omega (arith, a, w), (h (at ++ step.Variant v ∷ [])).1)

pub and_match : (K : Key) (S : Subject) (i : ℕ) (p : Pattern) (ps : tree.Subpatterns) (ns ms xs ys : List ℕ) → Matches K S p ns xs → PartsMatch K S ps ms ys → PartsMatch K S (tree.part_and i p ps) (ns ++ ms) (xs ++ ys)
and_match K S i p ps ns ms xs ys f g at =
    let q = at ++ step.Field i ∷ [] in
    let a = (f q).0 in
    let b = (g at).0 in
    let s = tests_both K S (tests q p) (tests_in at ps) in
    let t = bindings_both K S (bindings q p) (bindings_in at ps) in
    let u = times_both K.node ns ms in
    (omega (arith, a, b, s, t, u), bound_both (bindings q p) (bindings_in at ps) ∙ (ap (λ l. l ++ bound (bindings_in at ps)) (f q).1 ∙ ap (λ l. xs ++ l) (g at).1))

pub exactly_matches : (K : Key) (S : Subject) (n : ℕ) (c : Constant) → Matches K S (tree.exactly n c) (n ∷ []) []
exactly_matches K S n c at = let w = one_act K n (Test (part S at) (Rattle.rx_lower_walks.specs.Matching.equals c)) in (omega (arith, w), refl)

mutual
  pub pattern_matches : (K : Key) (S : Subject) (T : Assigned) (r : Met) (p : numbered.Pattern) → Matches K S (pattern T r p) (pattern_nodes p) (variables p)
  pattern_matches K S T r (numbered.wild n) at = (omega arith, refl)
  pattern_matches K S T r (numbered.bind n x m) at =
      let b : Binding = record { node = n.number; variable = x; steps = at; mode = elaborated.mode_of (copies T.items (T.typ n.number)) r } in
      let w = one_binding K S b in
      (omega (arith, w), refl)
  pattern_matches K S T r (numbered.whole_number n g v k) at =
      let c = tree.whole_number (elaborated.kind_in (peeled (T.typ n.number))) (elaborated.with_sign g v) in
      behind_matches K S (T.typ n.number) (tree.exactly n.number c) (n.number ∷ []) [] (exactly_matches K S n.number c) at
  pattern_matches K S T r (numbered.truth n b) at = behind_matches K S (T.typ n.number) (tree.exactly n.number (truth b)) (n.number ∷ []) [] (exactly_matches K S n.number (truth b)) at
  pattern_matches K S T r (numbered.tuple_pattern n ps) at =
      let qs = subpatterns T (elaborated.met (T.typ n.number) r) 0 ps in
      behind_matches K S (T.typ n.number) (tree.parts qs) (n.number ∷ patterns_nodes ps) (variables_in ps)
      (parts_match K S n.number qs (patterns_nodes ps) (variables_in ps) (subpatterns_match K S T (elaborated.met (T.typ n.number) r) 0 ps)) at
  pattern_matches K S T r (numbered.variant_pattern n i v ps) at =
      let qs = subpatterns T (elaborated.met (T.typ n.number) r) 0 ps in
      behind_matches K S (T.typ n.number) (tree.variant n.number i (has_several T.items i) v qs) (n.number ∷ patterns_nodes ps) (variables_in ps)
      (variant_matches K S n.number i (has_several T.items i) v qs (patterns_nodes ps) (variables_in ps) (subpatterns_match K S T (elaborated.met (T.typ n.number) r) 0 ps)) at
  pattern_matches K S T r (numbered.struct_pattern n i fs) at =
      let qs = field_patterns T (elaborated.met (T.typ n.number) r) i fs in
      behind_matches K S (T.typ n.number) (tree.parts qs) (n.number ∷ field_patterns_nodes fs) (variables_in_fields fs)
      (parts_match K S n.number qs (field_patterns_nodes fs) (variables_in_fields fs) (fields_match K S T (elaborated.met (T.typ n.number) r) i fs)) at

  pub subpatterns_match : (K : Key) (S : Subject) (T : Assigned) (r : Met) (k : ℕ) (ps : numbered.Patterns) → PartsMatch K S (subpatterns T r k ps) (patterns_nodes ps) (variables_in ps)
  subpatterns_match K S T r k numbered.no_pattern at = (omega arith, refl)
  subpatterns_match K S T r k (numbered.pattern_and p ps) at =
      and_match K S k (pattern T r p) (subpatterns T r (suc k) ps) (pattern_nodes p) (patterns_nodes ps) (variables p) (variables_in ps) (pattern_matches K S T r p) (subpatterns_match K S T r (suc k) ps) at

  pub fields_match : (K : Key) (S : Subject) (T : Assigned) (r : Met) (i : ℕ) (fs : numbered.FieldPatterns) → PartsMatch K S (field_patterns T r i fs) (field_patterns_nodes fs) (variables_in_fields fs)
  fields_match K S T r i numbered.no_field_pattern at = (omega arith, refl)
  fields_match K S T r i (numbered.field_pattern_and x p fs) at =
      and_match K S (elaborated.field_in T.items (named i) x) (pattern T r p) (field_patterns T r i fs) (pattern_nodes p) (field_patterns_nodes fs) (variables p) (variables_in_fields fs) (pattern_matches K S T r p) (fields_match K S T r i fs) at

pub testing_most : (K : Key) (scope : Scope) (S : Subject) (ts : List PartTest) (rest : Order) → most K scope (testing S ts rest) ≡ test_weights K S ts + most K scope rest
testing_most K scope S [] rest = omega arith
testing_most K scope S (t ∷ ts) rest = let h = testing_most K scope S ts rest in omega (arith, h)

-- what ends behind a part: one more
pub only_more : (f g : Bool) (i j : ℕ) → (f ≡ true → g ≡ true) → only_if f i + only_if g j ≤ only_if g (i + j)
only_more true true i j h = omega arith
only_more true false i j h = absurd (let e = h refl in cc)
only_more false true i j h = omega arith
only_more false false i j h = omega arith

pub and_right : (b c : Bool) → (b && c) ≡ true → c ≡ true
and_right true c e = e
and_right false c e = absurd (cc)

pub binding_onward : (S : Subject) (bs : List Binding) (n : ℕ) (rest : Order) → onward (binding S bs n rest) ≡ true → onward rest ≡ true
binding_onward S [] n rest e = e
binding_onward S (b ∷ bs) n rest e = binding_onward S bs n rest (and_right (onward (perhaps b.node (taken S b))) (onward (binding S bs n rest)) e)

pub perhaps_most : (K : Key) (scope : Scope) (n : ℕ) (a : Option Act) → most K scope (perhaps n a) ≡ taken_weight K n a
perhaps_most K scope n None = refl
perhaps_most K scope n (Some a) = refl

pub binding_most : (K : Key) (scope : Scope) (S : Subject) (bs : List Binding) (n : ℕ) (rest : Order)
    → most K scope (binding S bs n rest) ≤ binding_weights K S bs + (most K (with_all (bound bs) scope) rest + only_if (onward rest) (ends_of K n (bound bs)))
binding_most K scope S [] n rest = omega arith
binding_most K scope S (b ∷ bs) n rest =
    let h = binding_most K (Variable b.variable ∷ scope) S bs n rest in
    let p = perhaps_most K scope b.node (taken S b) in
    let o = only_more (onward (binding S bs n rest)) (onward rest) (weight K n (Dead b.variable)) (ends_of K n (bound bs)) (binding_onward S bs n rest) in
    omega (arith, h, p, o)

-- a pattern, and what is in its scope
pub matching_most : (K : Key) (T : Assigned) (scope : Scope) (S : Subject) (p : numbered.Pattern) (n : ℕ) (rest : Order)
    → test_weights K S (tests [] (pattern T None p)) + most K scope (binding S (bindings [] (pattern T None p)) n rest)
    ≤ times K.node (pattern_nodes p) + (most K (with_all (variables p) scope) rest + only_if (onward rest) (ends_of K n (variables p)))
matching_most K T scope S p n rest =
    let h = binding_most K scope S (bindings [] (pattern T None p)) n rest in
    let m = pattern_matches K S T None p [] in
    let a = m.0 in
    subst (λ xs. test_weights K S (tests [] (pattern T None p)) + most K scope (binding S (bindings [] (pattern T None p)) n rest)
    ≤ times K.node (pattern_nodes p) + (most K (with_all xs scope) rest + only_if (onward rest) (ends_of K n xs))) m.1 (omega (arith, h, a))

-- variables without a value
pub declaring_onward : (s : ℕ) (xs : List ℕ) (n : ℕ) (rest : Order) → onward (declaring s xs n rest) ≡ true → onward rest ≡ true
declaring_onward s [] n rest e = e
declaring_onward s (x ∷ xs) n rest e = declaring_onward s xs n rest e

pub declaring_most : (K : Key) (scope : Scope) (s : ℕ) (xs : List ℕ) (n : ℕ) (rest : Order)
    → most K scope (declaring s xs n rest) ≤ declares_of K s xs + (most K (with_all xs scope) rest + only_if (onward rest) (ends_of K n xs))
declaring_most K scope s [] n rest = omega arith
declaring_most K scope s (x ∷ xs) n rest =
    let h = declaring_most K (Variable x ∷ scope) s xs n rest in
    let o = only_more (onward (declaring s xs n rest)) (onward rest) (weight K n (Dead x)) (ends_of K n xs) (declaring_onward s xs n rest) in
    omega (arith, h, o)

-- ---- statements

-- the variables that the statements of a block declare, not those of blocks inside; and the scope behind them
abbrev pub statement_declares : numbered.Statement → List ℕ
statement_declares (numbered.declares n p t) = variables p
statement_declares (numbered.lets n p t e) = variables p
statement_declares (numbered.evaluates n e s) = []

abbrev pub directs : numbered.Statements → List ℕ
directs numbered.no_statement = []
directs (numbered.statement_and a ss) = statement_declares a ++ directs ss

abbrev pub behind : Scope → numbered.Statements → Scope
behind scope numbered.no_statement = scope
behind scope (numbered.statement_and a ss) = behind (with_all (statement_declares a) scope) ss

pub behind_times : (v : ℕ) (scope : Scope) (ss : numbered.Statements) → times v (all_of (behind scope ss)) ≡ times v (directs ss) + times v (all_of scope)
behind_times v scope numbered.no_statement = omega arith
behind_times v scope (numbered.statement_and a ss) =
    let h = behind_times v (with_all (statement_declares a) scope) ss in
    let i = with_times v (statement_declares a) scope in
    let j = times_both v (statement_declares a) (directs ss) in
    omega (arith, h, i, j)

pub statement_times : (v : ℕ) (a : numbered.Statement) → times v (statement_declares a) ≤ times v (statement_variables a)
statement_times v (numbered.declares n p t) = omega arith
statement_times v (numbered.lets n p t e) = let h = times_both v (variables p) (exp_variables e) in omega (arith, h)
statement_times v (numbered.evaluates n e s) = omega arith

pub directs_times : (v : ℕ) (ss : numbered.Statements) → times v (directs ss) ≤ times v (statements_variables ss)
directs_times v numbered.no_statement = omega arith
directs_times v (numbered.statement_and a ss) =
    let h = directs_times v ss in
    let i = statement_times v a in
    let j = times_both v (statement_declares a) (directs ss) in
    let k = times_both v (statement_variables a) (statements_variables ss) in
    omega (arith, h, i, j, k)

-- the rest of a block, behind a statement
pub fine_rest : (K : Key) (scope : Scope) (a : numbered.Statement) (ss : numbered.Statements)
    → Fine K scope (statement_nodes a ++ statements_nodes ss) (statement_variables a ++ statements_variables ss)
    → Fine K (with_all (statement_declares a) scope) (statements_nodes ss) (statements_variables ss)
fine_rest K scope a ss f =
    let h = f.node in
    let i = f.variable in
    let e = times_both K.node (statement_nodes a) (statements_nodes ss) in
    let u = times_both K.variable (statement_variables a) (statements_variables ss) in
    let w = with_times K.variable (statement_declares a) scope in
    let s = statement_times K.variable a in
    record { node = omega (arith, h, e); variable = omega (arith, i, u, w, s) }

-- the tail of a block
pub fine_tail : (K : Key) (scope : Scope) (ss : numbered.Statements) (ns vs : List ℕ) → Fine K scope (statements_nodes ss ++ ns) (statements_variables ss ++ vs) → Fine K (behind scope ss) ns vs
fine_tail K scope ss ns vs f =
    let h = f.node in
    let i = f.variable in
    let e = times_both K.node (statements_nodes ss) ns in
    let u = times_both K.variable (statements_variables ss) vs in
    let w = behind_times K.variable scope ss in
    let s = directs_times K.variable ss in
    record { node = omega (arith, h, e); variable = omega (arith, i, u, w, s) }

pub nested_onward : (T : Assigned) (ss : numbered.Statements) (last : Exp) (n : ℕ) (d : Temporary) → onward (order_body (nested T ss last) n d) ≡ true → onward (order.order last d) ≡ true
nested_onward T numbered.no_statement last n d e = e
nested_onward T (numbered.statement_and (numbered.declares s p t) ss) last n d e =
    nested_onward T ss last n d (declaring_onward s.number (variables p) n (order_body (nested T ss last) n d) e)
nested_onward T (numbered.statement_and (numbered.lets s p t v) ss) last n d e =
    let c = elaborated.matched T v (value T v) in
    nested_onward T ss last n d (binding_onward (subject c) (bindings [] (pattern T None p)) n (order_body (nested T ss last) n d)
    (and_right (onward (order_scrutinee c)) (onward (binding (subject c) (bindings [] (pattern T None p)) n (order_body (nested T ss last) n d))) e))
nested_onward T (numbered.statement_and (numbered.evaluates s v b) ss) last n d e =
    nested_onward T ss last n d (and_right (onward (order.order (value T v) (temporary_of (value T v)))) (onward (order_body (nested T ss last) n d)) e)

-- ---- forms

pub place_root : (T : Assigned) (e : numbered.Exp) → (x : ℕ) × ((place T e).root ≡ variable x)
place_root T (numbered.var n x) = (x.number, refl)
place_root T (numbered.field n e x) = place_root T e
place_root T (numbered.part n e i) = place_root T e
place_root T (numbered.deref n e) = place_root T e
place_root T _ = (0, refl)

-- a place as a value
pub read_held : (K : Key) (T : Assigned) (scope : Scope) (n : Node) (c : Coercion) (p : Place) (rest vs : List ℕ) (d : Temporary) → times K.node (n.number ∷ rest) ≤ 1
    → Held K scope (order.order (elaborated.read_as T n c p) d) (mark_of (elaborated.read_as T n c p)).node (n.number ∷ rest) vs
read_held K T scope n elaborated.plain p rest vs d f =
    act_held K scope _ n.number rest vs 0 (Read (not (copies T.items (T.typ n.number))) p d) (omega arith) (omega arith) (λ e. omega (arith, e)) f
read_held K T scope n elaborated.reborrow p rest vs d f =
    act_held K scope _ n.number rest vs 0 (Borrow true (tree.under p (step.Deref true ∷ [])) d) (omega arith) (omega arith) (borrow_no_end p.root) f
read_held K T scope n elaborated.share p rest vs d f =
    act_held K scope _ n.number rest vs 0 (Borrow false (tree.under p (step.Deref true ∷ [])) d) (omega arith) (omega arith) (borrow_no_end p.root) f

-- where a value becomes shared, its own act and the borrow of its temporary
pub passed_borrow : (K : Key) (T : Assigned) (scope : Scope) (n : Node) (c : Coercion) (m : Bool) (e : numbered.Exp) (rest vs : List ℕ) (d : Temporary) → times K.node (n.number ∷ rest) ≤ 1
    → Held K scope (order.order (elaborated.passed_as T n c (tree.borrow (mark T n) m (place T e))) d) (mark_of (elaborated.passed_as T n c (tree.borrow (mark T n) m (place T e)))).node (n.number ∷ rest) vs
passed_borrow K T scope n elaborated.plain m e rest vs d f = act_held K scope _ n.number rest vs 0 (Borrow m (place T e) d) (omega arith) (omega arith) (borrow_no_end (place T e).root) f
passed_borrow K T scope n elaborated.reborrow m e rest vs d f = act_held K scope _ n.number rest vs 0 (Borrow m (place T e) d) (omega arith) (omega arith) (borrow_no_end (place T e).root) f
passed_borrow K T scope n elaborated.share m e rest vs d f =
    let a = Borrow m (place T e) (temporary_at n.number 1) in
    let b = Borrow false (tree.under (tree.temporary_place (temporary_at n.number 1)) (step.Deref true ∷ [])) d in
    let r : borrowed (place T e).root ≡ 4 = ap borrowed (place_root T e).1 in
    plain_held K scope _ n.number rest vs 0 (weight K n.number a + weight K n.number b) (omega arith) (omega arith) (two_acts K n.number a b (λ h. omega (arith, r, h)))
    (λ k. let x = no_end K n.number a (borrow_no_end (place T e).root) k in let y = no_end K n.number b (λ e. omega (arith, e)) k in omega (arith, x, y)) f

pub passed_call : (K : Key) (T : Assigned) (scope : Scope) (n : Node) (c : Coercion) (g : ℕ) (es : Operands) (rest vs : List ℕ) (d : Temporary) → most K scope (order_all es) ≤ times K.node rest → times K.node (n.number ∷ rest) ≤ 1
    → Held K scope (order.order (elaborated.passed_as T n c (tree.call (mark T n) g es)) d) (mark_of (elaborated.passed_as T n c (tree.call (mark T n) g es))).node (n.number ∷ rest) vs
passed_call K T scope n elaborated.plain g es rest vs d h f = act_held K scope _ n.number rest vs (most K scope (order_all es)) (Call g (tree.temporaries_of es) d) (omega arith) h (λ e. omega (arith, e)) f
passed_call K T scope n elaborated.reborrow g es rest vs d h f = act_held K scope _ n.number rest vs (most K scope (order_all es)) (Call g (tree.temporaries_of es) d) (omega arith) h (λ e. omega (arith, e)) f
passed_call K T scope n elaborated.share g es rest vs d h f =
    let a = Call g (tree.temporaries_of es) (temporary_at n.number 1) in
    let b = Borrow false (tree.under (tree.temporary_place (temporary_at n.number 1)) (step.Deref true ∷ [])) d in
    plain_held K scope _ n.number rest vs (most K scope (order_all es)) (weight K n.number a + weight K n.number b) (omega arith) h (two_acts K n.number a b (λ e. omega (arith, e)))
    (λ k. let x = no_end K n.number a (λ e. omega (arith, e)) k in let y = no_end K n.number b (λ e. omega (arith, e)) k in omega (arith, x, y)) f

pub tuple_held : (K : Key) (T : Assigned) (scope : Scope) (n : Node) (es : Operands) (rest vs : List ℕ) (d : Temporary) → most K scope (order_all es) ≤ times K.node rest → times K.node (n.number ∷ rest) ≤ 1
    → Held K scope (order.order (elaborated.tuple_of T n es) d) (mark_of (elaborated.tuple_of T n es)).node (n.number ∷ rest) vs
tuple_held K T scope n tree.no_operand rest vs d h f = still_held K scope _ n.number rest vs h f
tuple_held K T scope n (tree.operand_and i e es) rest vs d h f =
    act_held K scope _ n.number rest vs (most K scope (order_all (tree.operand_and i e es))) (Build tree.tuple (tree.fields_of (tree.operand_and i e es)) (tree.temporaries_of (tree.operand_and i e es)) d) (omega arith) h (λ e. omega (arith, e)) f

pub build_held : (K : Key) (scope : Scope) (m : Mark) (w : Making) (es : Operands) (rest vs : List ℕ) (d : Temporary) → most K scope (order_all es) ≤ times K.node rest → times K.node (m.node ∷ rest) ≤ 1
    → Held K scope (order.order (tree.build m w es) d) m.node (m.node ∷ rest) vs
build_held K scope m w es rest vs d h f = act_held K scope _ m.node rest vs (most K scope (order_all es)) (Build w (tree.fields_of es) (tree.temporaries_of es) d) (omega arith) h (λ e. omega (arith, e)) f

pub lazily_held : (K : Key) (scope : Scope) (m : Mark) (c : Bool) (a b : Exp) (rest vs : List ℕ) (d : Temporary)
    → most K scope (order.order a (temporary_of a)) + most K scope (order.order b (temporary_of b)) ≤ times K.node rest → times K.node (m.node ∷ rest) ≤ 1
    → Held K scope (order.order (tree.lazily m c a b) d) m.node (m.node ∷ rest) vs
lazily_held K scope m c a b rest vs d h f =
    let t = Test (tree.temporary_place (temporary_of a)) (Rattle.rx_lower_walks.specs.Matching.equals (truth c)) in
    let w = Build tree.lazy [] (temporary_of a ∷ temporary_of b ∷ []) d in
    plain_held K scope _ m.node rest vs (most K scope (order.order a (temporary_of a)) + most K scope (order.order b (temporary_of b))) (weight K m.node t + weight K m.node w) (omega arith) h
    (two_acts K m.node t w (λ e. omega (arith, e)))
    (λ k. let x = no_end K m.node t (λ e. omega (arith, e)) k in let y = no_end K m.node w (λ e. omega (arith, e)) k in omega (arith, x, y)) f

pub operated_held : (K : Key) (T : Assigned) (scope : Scope) (n : Node) (o : BinaryOp) (a b : Exp) (rest vs : List ℕ) (d : Temporary)
    → most K scope (order.order a (temporary_of a)) + most K scope (order.order b (temporary_of b)) ≤ times K.node rest → times K.node (n.number ∷ rest) ≤ 1
    → Held K scope (order.order (elaborated.operated T n o a b) d) (mark_of (elaborated.operated T n o a b)).node (n.number ∷ rest) vs
operated_held K T scope n BinaryOp.And a b rest vs d h f = lazily_held K scope (mark T n) true a b rest vs d h f
operated_held K T scope n BinaryOp.Or a b rest vs d h f = lazily_held K scope (mark T n) false a b rest vs d h f
operated_held K T scope n o a b rest vs d h f = build_held K scope (mark T n) (tree.operation o) (tree.operand_and 0 a (tree.operand_and 1 b tree.no_operand)) rest vs d (omega (arith, h)) f

pub scrutinee_few : (K : Key) (T : Assigned) (scope : Scope) (e : numbered.Exp) (v : Exp) → most K scope (order_scrutinee (elaborated.matched T e v)) ≤ most K scope (order.order v (temporary_of v))
scrutinee_few K T scope e v = by (is_place e) (elaborated.coercion_at T (node_of e))
  where
    by : (b : Bool) (c : Coercion) → most K scope (order_scrutinee (elaborated.matched_as T b c e v)) ≤ most K scope (order.order v (temporary_of v))
    by true elaborated.plain = omega arith
    by true elaborated.reborrow = omega arith
    by true elaborated.share = omega arith
    by false c = omega arith

-- a test that holds or not, and a pattern that fits or not
pub tests_held : (K : Key) (scope : Scope) (n : Node) (c : Exp) (m : Mark) (a b : Exp) (rest vs : List ℕ) (d : Temporary) (k : ℕ)
    → k ≡ n.number → most K scope (order.order c (temporary_of c)) + (most K scope (order.order a d) + most K scope (order.order b d)) ≤ times K.node rest → times K.node (k ∷ rest) ≤ 1
    → Held K scope (order.order (elaborated.tests n c m a b) d) k (k ∷ rest) vs
tests_held K scope n c m a b rest vs d k e h f =
    let t = Test (part (in_temporary (temporary_of c)) []) (Rattle.rx_lower_walks.specs.Matching.equals (truth true)) in
    act_held K scope _ k rest vs (most K scope (order.order c (temporary_of c)) + (most K scope (order.order a d) + most K scope (order.order b d))) t
    (let w = ap (λ k. weight K k t) e in omega (arith, w)) h (λ e. omega (arith, e)) f

-- ---- expressions

-- an arm: its pattern, and its value in the pattern's scope
pub arm_few : (K : Key) (T : Assigned) (scope : Scope) (S : Subject) (p : numbered.Pattern) (v : Exp) (d : Temporary) (ns vs : List ℕ) → Fine K scope ns (variables p ++ vs)
    → Held K (with_all (variables p) scope) (order.order v d) (mark_of v).node ns vs
    → most K scope (testing S (tests [] (pattern T None p)) (binding S (bindings [] (pattern T None p)) (mark_of v).node (order.order v d))) ≤ times K.node (pattern_nodes p) + times K.node ns
arm_few K T scope S p v d ns vs f h =
    let a = testing_most K scope S (tests [] (pattern T None p)) (binding S (bindings [] (pattern T None p)) (mark_of v).node (order.order v d)) in
    let b = matching_most K T scope S p (mark_of v).node (order.order v d) in
    let i = f.variable in
    let e = times_both K.variable (variables p) vs in
    let c = ended K (with_all (variables p) scope) (order.order v d) (mark_of v).node ns vs (variables p) h (omega (arith, i, e)) in
    omega (arith, a, b, c)

-- a pattern that fits, or another value
pub looks_few : (K : Key) (T : Assigned) (scope : Scope) (m : Mark) (s : Scrutinee) (p : numbered.Pattern) (a b : Exp) (d : Temporary) (ns vs : List ℕ) → Fine K scope ns (variables p ++ vs)
    → Held K (with_all (variables p) scope) (order.order a d) (mark_of a).node ns vs
    → most K scope (order.order (elaborated.looks m s (pattern T None p) a b) d)
    ≤ most K scope (order_scrutinee s) + ((times K.node (pattern_nodes p) + times K.node ns) + most K scope (order.order b d))
looks_few K T scope m s p a b d ns vs f h = let i = arm_few K T scope (subject s) p a d ns vs f h in omega (arith, i)

-- the statements of a block in front of its tail
abbrev pub NestedFew : Key → Assigned → numbered.Statements → Type 0
NestedFew K T ss = (last : Exp) (scope : Scope) (n : ℕ) (d : Temporary) → Fine K scope (statements_nodes ss) (statements_variables ss)
    → most K scope (order_body (nested T ss last) n d)
    ≤ times K.node (statements_nodes ss) + (most K (behind scope ss) (order.order last d) + only_if (onward (order.order last d)) (ends_of K n (directs ss)))

pub ends_both : (K : Key) (n : ℕ) (xs ys : List ℕ) → ends_of K n (xs ++ ys) ≡ ends_of K n xs + ends_of K n ys
ends_both K n [] ys = omega arith
ends_both K n (x ∷ xs) ys = let h = ends_both K n xs ys in omega (arith, h)

-- a statement that declares these, with what it does itself, and the rest
pub statement_then : (K : Key) (n : ℕ) (xs ys : List ℕ) (f g : Bool) (own rest all A B R : ℕ) → (f ≡ true → g ≡ true) → all ≤ own + (rest + only_if f (ends_of K n xs)) → own ≤ A
    → rest ≤ B + (R + only_if g (ends_of K n ys)) → all ≤ (A + B) + (R + only_if g (ends_of K n (xs ++ ys)))
statement_then K n xs ys f g own rest all A B R w h i j =
    let o = only_more f g (ends_of K n xs) (ends_of K n ys) w in
    let e = ap (λ z. only_if g z) (ends_both K n xs ys) in
    omega (arith, h, i, j, o, e)

-- ---- what is fine in a form

-- the value of an arm or of an `if let`, with others in front and behind
pub first_fine : (K : Key) (scope : Scope) (p : numbered.Pattern) (ns ms vs ws : List ℕ) → Fine K scope (ns ++ ms) (variables p ++ (vs ++ ws)) → Fine K scope ns (variables p ++ vs)
first_fine K scope p ns ms vs ws f =
    let h = f.node in
    let i = f.variable in
    let e = times_both K.node ns ms in
    let u = times_both K.variable (variables p) (vs ++ ws) in
    let w = times_both K.variable vs ws in
    let x = times_both K.variable (variables p) vs in
    record { node = omega (arith, h, e); variable = omega (arith, i, u, w, x) }

pub last_fine : (K : Key) (scope : Scope) (p : numbered.Pattern) (ns ms vs ws : List ℕ) → Fine K scope (ns ++ ms) (variables p ++ (vs ++ ws)) → Fine K scope ms (variables p ++ ws)
last_fine K scope p ns ms vs ws f =
    let h = f.node in
    let i = f.variable in
    let e = times_both K.node ns ms in
    let u = times_both K.variable (variables p) (vs ++ ws) in
    let w = times_both K.variable vs ws in
    let x = times_both K.variable (variables p) ws in
    record { node = omega (arith, h, e); variable = omega (arith, i, u, w, x) }

pub arm_fine : (K : Key) (scope : Scope) (p : numbered.Pattern) (ks ns ms us vs ws : List ℕ) → Fine K scope (ks ++ (ns ++ ms)) (variables p ++ (us ++ (vs ++ ws))) → Fine K scope ns (variables p ++ vs)
arm_fine K scope p ks ns ms us vs ws f = first_fine K scope p ns ms vs ws (last_fine K scope p ks (ns ++ ms) us (vs ++ ws) f)

-- the variables of a `let` without a value
pub declares_own : (K : Key) (scope : Scope) (s : ℕ) (p : numbered.Pattern) (ts ns vs : List ℕ) → Fine K scope ((s ∷ (pattern_nodes p ++ ts)) ++ ns) (variables p ++ vs)
    → declares_of K s (variables p) ≤ times K.node (s ∷ (pattern_nodes p ++ ts))
declares_own K scope s p ts ns vs f =
    let i = f.variable in
    let u = times_both K.variable (variables p) vs in
    let h = declares_one K s (variables p) (omega (arith, i, u)) in
    omega (arith, h)

-- the initialiser of a `let`
pub initialiser_fine : (K : Key) (scope : Scope) (s : ℕ) (p : numbered.Pattern) (ts ns ms vs ws : List ℕ) → Fine K scope ((s ∷ (pattern_nodes p ++ (ts ++ ns))) ++ ms) ((variables p ++ vs) ++ ws) → Fine K scope ns vs
initialiser_fine K scope s p ts ns ms vs ws f =
    let g = fine_left K scope (s ∷ (pattern_nodes p ++ (ts ++ ns))) ms (variables p ++ vs) ws f in
    let h = fine_under K scope s (pattern_nodes p ++ (ts ++ ns)) (variables p ++ vs) g in
    let i = fine_outside K scope (pattern_nodes p ++ (ts ++ ns)) (variables p) vs h in
    fine_behind K scope ts ns vs (fine_behind K scope (pattern_nodes p) (ts ++ ns) vs i)

-- a pattern without its tests
pub binding_in : (K : Key) (T : Assigned) (scope : Scope) (S : Subject) (p : numbered.Pattern) (n : ℕ) (rest : Order)
    → most K scope (binding S (bindings [] (pattern T None p)) n rest)
    ≤ times K.node (pattern_nodes p) + (most K (with_all (variables p) scope) rest + only_if (onward rest) (ends_of K n (variables p)))
binding_in K T scope S p n rest = let h = matching_most K T scope S p n rest in omega (arith, h)

-- ---- jumps and blocks

pub only_none : (b : Bool) → only_if b 0 ≡ 0
only_none true = refl
only_none false = refl

pub only_less : (b : Bool) (n : ℕ) → only_if b n ≤ n
only_less true n = omega arith
only_less false n = omega arith

pub only_never : (b : Bool) (n : ℕ) → (b ≡ true → ⊥) → only_if b n ≡ 0
only_never true n h = absurd (h refl)
only_never false n h = refl

-- `break` and `continue`
pub leaves_held : (K : Key) (scope : Scope) (s : Order) (n : ℕ) (xs : List ℕ) → most K scope s ≤ ends_of K n xs → onward s ≡ false → times K.variable xs ≤ times K.variable (all_of scope)
    → Fine K scope (n ∷ []) [] → Held K scope s n (n ∷ []) []
leaves_held K scope s n xs size stays few f =
    let i = f.variable in
    let h = ends_one K n xs (omega (arith, i, few)) in
    record {
      all = omega (arith, size, h);
      root = λ k e g. absurd (cc);
      own = λ e. let here = node_here n K.node e in omega (arith, here);
    }

-- what a `return` does itself, and the end of the function's body
pub gives_one : (K : Key) (n : ℕ) (t : Temporary) (xs : List ℕ) → times K.variable xs ≤ 1 → weight K n (Give t) + ends_of K n xs ≤ one_if (n == K.node)
gives_one K n t xs u = by (ends_cases K n xs)
  where
    by : Ends K n xs → weight K n (Give t) + ends_of K n xs ≤ one_if (n == K.node)
    by (none_ends e) = let h = one_act K n (Give t) in omega (arith, e, h)
    by (some_end k e) = let h = no_end K n (Give t) (λ e. omega (arith, e)) k in let i = ends_one K n xs u in omega (arith, h, i)

pub give_held : (K : Key) (scope : Scope) (m : Mark) (e : Exp) (ns vs : List ℕ) (d : Temporary) → most K scope (order.order e (temporary_of e)) ≤ times K.node ns
    → Fine K scope (m.node ∷ ns) vs → Held K scope (order.order (tree.give m e) d) m.node (m.node ∷ ns) vs
give_held K scope m e ns vs d h f =
    let i = f.variable in
    let g = gives_one K m.node (temporary_of e) (all_of scope) (omega (arith, i)) in
    record {
      all = omega (arith, h, g);
      root = λ k e' o. absurd (let z = and_right (onward (order.order e (temporary_of e))) false o in cc);
      own = λ e'. let here = node_here m.node K.node e' in omega (arith, here);
    }

pub block_held : (K : Key) (T : Assigned) (scope : Scope) (n : ℕ) (ss : numbered.Statements) (last : Exp) (ns vs : List ℕ) (d : Temporary)
    → most K scope (order_body (nested T ss last) n d)
    ≤ times K.node (statements_nodes ss) + (most K (behind scope ss) (order.order last d) + only_if (onward (order.order last d)) (ends_of K n (directs ss)))
    → most K (behind scope ss) (order.order last d) ≤ times K.node ns → Fine K scope (n ∷ (statements_nodes ss ++ ns)) (statements_variables ss ++ vs)
    → Held K scope (order_body (nested T ss last) n d) n (n ∷ (statements_nodes ss ++ ns)) (statements_variables ss ++ vs)
block_held K T scope n ss last ns vs d h i f =
    let a = f.node in
    let b = f.variable in
    let u = times_both K.node (statements_nodes ss) ns in
    let w = times_both K.variable (statements_variables ss) vs in
    let s = directs_times K.variable ss in
    let o = only_less (onward (order.order last d)) (ends_of K n (directs ss)) in
    let x = ends_one K n (directs ss) (omega (arith, b, w, s)) in
    let y = ends_times K n (directs ss) in
    record {
      all = omega (arith, h, i, u, o, x);
      root = λ k e g. let here = node_here n K.node e in omega (arith, h, i, u, w, s, o, y, a, here);
      own = λ e. let here = node_here n K.node e in omega (arith, here);
    }
