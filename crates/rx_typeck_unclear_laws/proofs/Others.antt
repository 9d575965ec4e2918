-- The demands of a function give a type to no nodes but those that have one: its written types, patterns, expressions and
-- blocks, without what is Never. By the numbering, since an assignment that gives a variable its type tells the type of
-- the pattern that declares it too, which the cursor keeps.
use Rattle.std.proofs.Common.{◌≡◌, inl, inr, ⊎_elim, ℕ, zero, suc, ◌-◌, Bool, true, false, not, ◌&&◌, List, [], ◌∷◌, ◌++◌, map, take, drop, get_or, slice_set, Option, Some, None, refl, sym, subst}
use Rattle.rx_core.specs.declared.types.Kind.{Kind}
use Rattle.rx_core.specs.declared.types.Span.{Span}
use Rattle.rx_core.specs.declared.types.Ty.{Ty}
use Rattle.rx_tree.specs.declared.tree.Ident.{Ident}
use Rattle.rx_tree.specs.Plain as plain
use Rattle.rx_tree.specs.Plain.{TypeTree, TypeTrees, PatternTree, PatternTrees, FieldPatterns, Expression, Expressions, OptionalExpression, OptionalExpressions, FieldExpressions, Arms, Body, Statement, Statements, Function}
use Rattle.rx_resolve_names.specs.declared.resolved.NodeNames.{NodeNames}
use Rattle.rx_typed.specs.declared.nodes.Node.{Node}
use Rattle.rx_typed.specs.declared.nodes.Site.{Site}
use Rattle.rx_typed.specs.declared.nodes.Stage.{Stage}
use Rattle.rx_typed.specs.declared.nodes.Declaration.{Declaration}
use Rattle.rx_typed.specs.Named as named
use Rattle.rx_typed.specs.Named.{Written, WrittenTypes, Pattern, Patterns, Exp, written_node, pattern_node, whole_binding, node_of, body_node, root, never, body_never, else_never, all_never, some_diverges}
use Rattle.rx_typed.specs.Naming as numbering
use Rattle.rx_typed.specs.Naming.{Cursor, Numbering, a_node, taken, an_entry, first, second, declaration, not_declared, as_known, known_among, use_of, waiting, given_here, gives_here, waits_for, of_type, of_types, of_optional_type, of_pattern, of_patterns, of_field_patterns, of_expression, of_parameters, function_named}
use Rattle.rx_typeck_solver.specs.declared.facts.Broken.{Broken}
use Rattle.rx_typeck_solver.specs.declared.facts.Broken.TheVariants as broken
use Rattle.rx_typeck_solver.specs.declared.facts.Kinds.{Kinds}
use Rattle.rx_typeck_solver.specs.declared.facts.Rule.{Rule}
use Rattle.rx_typeck_solver.specs.declared.facts.Subject.{Subject}
use Rattle.rx_typeck_solver.specs.declared.facts.Subject.TheVariants as subject
use Rattle.rx_typeck_solver.specs.declared.facts.Op.TheVariants as op
use Rattle.rx_typeck_solver.specs.declared.facts.Test.{Test}
use Rattle.rx_typeck_solver.specs.declared.facts.Test.TheVariants as test
use Rattle.rx_typeck_solver.specs.declared.facts.Fact.TheVariants as fact
use Rattle.rx_typeck_solver.specs.Facts.{Assignment, KnownItems}
use Rattle.rx_typeck_solver.specs.declared.facts.Passing.{Passing}
use Rattle.rx_typeck_solver.specs.Valid.{Told, IsIn}
use Rattle.rx_typeck_typed.specs.Asking as asking
use Rattle.rx_typeck_typed.specs.Asking.{Asking, ◌>>◌, type_of}
use Rattle.rx_typeck_typed.specs.Demands as rules
use Rattle.rx_typeck_typed.specs.Demands.{demands}
use Rattle.rx_typeck_typed.specs.Nodes.{unless, type_nodes, types_nodes, optional_nodes, pattern_nodes, patterns_nodes, field_patterns_nodes, exp_nodes, exps_nodes, else_nodes, fields_nodes, arms_nodes, body_nodes, statement_nodes, statements_nodes, parameters_nodes, nodes}
use Rattle.rx_typeck_typed.specs.declared.typed.TypedFn.{TypedFn}
use Rattle.rx_typeck_typed.specs.Typing.{Given, known_in, type_at, TypeIs, FunctionTyped}
use Rattle.rx_typeck_unclear_laws.proofs.Asks as asks

and_left : (a b : Bool) → a ≡ false → (a && b) ≡ false
and_left true b e = absurd (cc)
and_left false b e = refl

and_right : (a b : Bool) → b ≡ false → (a && b) ≡ false
and_right true b e = e
and_right false b e = refl

front : (xs ys : List ℕ) (m : ℕ) → IsIn m xs → IsIn m (xs ++ ys)
front [] ys m i = absurd i
front (x ∷ xs) ys m (inl e) = inl e
front (x ∷ xs) ys m (inr i) = inr (front xs ys m i)

behind : (xs ys : List ℕ) (m : ℕ) → IsIn m ys → IsIn m (xs ++ ys)
behind [] ys m i = i
behind (x ∷ xs) ys m i = inr (behind xs ys m i)

module _ (P : ℕ → Type 0) where
  abbrev Only : Asking → Type 0
  Only g = asks.Only P g

  -- these are of the kind
  abbrev All : List ℕ → Type 0
  All ns = (m : ℕ) → IsIn m ns → P m

  all_front : (xs ys : List ℕ) → All (xs ++ ys) → All xs
  all_front xs ys h m i = h m (front xs ys m i)

  all_behind : (xs ys : List ℕ) → All (xs ++ ys) → All ys
  all_behind xs ys h m i = h m (behind xs ys m i)

  here : (v : Bool) (n : Node) → All (unless v n) → v ≡ false → P n.number
  here true n h e = absurd (cc)
  here false n h e = h n.number (inl refl)

  -- ---- the variables that were declared so far: what waits for a type has its pattern of the kind

  abbrev Stays : Declaration → Type 0
  Stays d = (p : ℕ) (s : Span) → d.stage ≡ Stage.Waits p s → P p

  abbrev Keep : List Declaration → Type 0
  Keep [] = Unit {0}
  Keep (d ∷ ds) = Stays d × Keep ds

  keep_append : (ds es : List Declaration) → Keep ds → Keep es → Keep (ds ++ es)
  keep_append [] es a b = b
  keep_append (d ∷ ds) es a b = (a.0, keep_append ds es a.1 b)

  keep_take : (n : ℕ) (ds : List Declaration) → Keep ds → Keep (take n ds)
  keep_take zero ds a = tt
  keep_take (suc n) [] a = tt
  keep_take (suc n) (d ∷ ds) a = (a.0, keep_take n ds a.1)

  keep_drop : (n : ℕ) (ds : List Declaration) → Keep ds → Keep (drop n ds)
  keep_drop zero ds a = a
  keep_drop (suc n) [] a = tt
  keep_drop (suc n) (d ∷ ds) a = keep_drop n ds a.1

  keep_known : (ds : List Declaration) → Keep (map as_known ds)
  keep_known [] = tt
  keep_known (d ∷ ds) = ((λ p s e. absurd (cc)), keep_known ds)

  keep_set : (ds : List Declaration) (x : ℕ) (d : Declaration) → Stays d → Keep ds → Keep (slice_set ds x d)
  keep_set [] x d h a = tt
  keep_set (e ∷ ds) zero d h a = (h, a.1)
  keep_set (e ∷ ds) (suc x) d h a = (a.0, keep_set ds x d h a.1)

  keep_get : (ds : List Declaration) (x : ℕ) → Keep ds → Stays (get_or ds x not_declared)
  keep_get [] zero a p s e = absurd (cc)
  keep_get [] (suc x) a p s e = absurd (cc)
  keep_get (d ∷ ds) zero a p s e = a.0 p s e
  keep_get (d ∷ ds) (suc x) a p s e = keep_get ds x a.1 p s e

  abbrev Kept : Cursor → Type 0
  Kept c = Keep c.variables

  taken_keeps : (l : List NodeNames) (c : Cursor) → Kept c → Kept (taken l c).1
  taken_keeps [] c k = k
  taken_keeps (x ∷ l) c k = k

  entry_keeps : (c : Cursor) → Kept c → Kept (an_entry c).1
  entry_keeps c k = taken_keeps c.names c k

  between_keeps : (i j : ℕ) (c : Cursor) → Kept c → Kept (numbering.known_between i j c).1
  between_keeps i j c k =
      let r = drop i c.variables in
      let a = keep_drop i c.variables k in
      keep_append (take i c.variables) (map as_known (take (j - i) r) ++ drop (j - i) r) (keep_take i c.variables k)
      (keep_append (map as_known (take (j - i) r)) (drop (j - i) r) (keep_known (take (j - i) r)) (keep_drop (j - i) r a))

  annotates_keeps : (p : PatternTree) (y : Option TypeTree) (c : Cursor) → Kept c → Kept (numbering.annotates p y c).1
  annotates_keeps p None c k = k
  annotates_keeps p (Some t) c k = k

  waits_at_keeps : (n : Node) (o : Option ℕ) (c : Cursor) → P n.number → Kept c → Kept (numbering.waits_at n o c).1
  waits_at_keeps n None c p k = k
  waits_at_keeps n (Some x) c p k = keep_set c.variables x _ (λ q s e. let same : n.number ≡ q = cc in subst P same p) k

  waits_keeps : (b : Bool) (p : Pattern) (c : Cursor) → P (pattern_node p).number → Kept c → Kept (numbering.waits_if b p c).1
  waits_keeps true p c h k = waits_at_keeps (pattern_node p) (whole_binding p) c h k
  waits_keeps false p c h k = k

  -- an assignment gives a variable its type
  waits_for_it : (x : ℕ) (s : Stage) (w : ℕ × ℕ) → ((p : ℕ) (z : Span) → s ≡ Stage.Waits p z → P p) → waiting x s ≡ Some w → P w.1
  waits_for_it x Stage.Known w h e = absurd (cc)
  waits_for_it x Stage.Given w h e = absurd (cc)
  waits_for_it x (Stage.Waits p z) w h e = let same : p ≡ w.1 = cc in subst P same (h p z refl)

  given_keeps : (x : ℕ) (o : Option (ℕ × ℕ)) (c : Cursor) → Kept c → Kept (given_here x o c).1
  given_keeps x None c k = k
  given_keeps x (Some w) c k = keep_set c.variables x _ (λ p s e. absurd (cc)) k

  given_of : (x : ℕ) (o : Option (ℕ × ℕ)) (c : Cursor) → ((w : ℕ × ℕ) → o ≡ Some w → P w.1) → (d : ℕ) → (given_here x o c).0 ≡ Some d → P d
  given_of x None c h d e = absurd (cc)
  given_of x (Some w) c h d e = let same : w.1 ≡ d = cc in subst P same (h w refl)

  gives_keeps : (x : ℕ) (c : Cursor) → Kept c → Kept (gives_here x c).1
  gives_keeps x c k = given_keeps x (waiting x (declaration c x).stage) c k

  gives_of : (x : ℕ) (c : Cursor) → Kept c → (d : ℕ) → (gives_here x c).0 ≡ Some d → P d
  gives_of x c k = given_of x (waiting x (declaration c x).stage) c (λ w e. waits_for_it x (declaration c x).stage w (keep_get c.variables x k) e)

  -- ---- types and patterns

  lifetime_keeps : (o : Option Ident) (c : Cursor) → Kept c → Kept (numbering.lifetime_entry o c).1
  lifetime_keeps None c k = k
  lifetime_keeps (Some l) c k = entry_keeps c k

  mutual
    type_keeps : (y : TypeTree) (c : Cursor) → Kept c → Kept (of_type y c).1
    type_keeps (plain.kind_type s z) c k = k
    type_keeps (plain.bool_type s) c k = k
    type_keeps (plain.tuple_type s ts) c k = types_keeps ts (a_node s Site.Value c).1 k
    type_keeps (plain.ref_type s l m y) c k = let d = (a_node s Site.Value c).1 in type_keeps y (numbering.lifetime_entry l d).1 (lifetime_keeps l d k)
    type_keeps (plain.named_type s n ls) c k = entry_keeps (a_node s Site.Value c).1 k

    types_keeps : (ys : TypeTrees) (c : Cursor) → Kept c → Kept (of_types ys c).1
    types_keeps plain.no_type c k = k
    types_keeps (plain.type_and y ys) c k = types_keeps ys (of_type y c).1 (type_keeps y c k)

  optional_type_keeps : (y : Option TypeTree) (c : Cursor) → Kept c → Kept (of_optional_type y c).1
  optional_type_keeps None c k = k
  optional_type_keeps (Some y) c k = type_keeps y c k

  mutual
    pattern_keeps : (p : PatternTree) (c : Cursor) → Kept c → Kept (of_pattern p c).1
    pattern_keeps (plain.wild s) c k = k
    pattern_keeps (plain.bind s y m) c k =
        let d = (an_entry (a_node s Site.Value c).1).1 in
        keep_append d.variables (record { mutable = m; stage = Stage.Given } ∷ []) (entry_keeps (a_node s Site.Value c).1 k) ((λ p z e. absurd (cc)), tt)
    pattern_keeps (plain.int_pattern s g v z) c k = k
    pattern_keeps (plain.bool_pattern s b) c k = k
    pattern_keeps (plain.tuple_pattern s ps) c k = patterns_keeps ps (a_node s Site.Value c).1 k
    pattern_keeps (plain.variant_pattern s a v ps) c k = let d = (a_node s Site.Value c).1 in patterns_keeps ps (an_entry d).1 (entry_keeps d k)
    pattern_keeps (plain.make_pattern s y fs) c k = let d = (a_node s Site.Value c).1 in field_patterns_keeps fs (an_entry d).1 (entry_keeps d k)

    patterns_keeps : (ps : PatternTrees) (c : Cursor) → Kept c → Kept (of_patterns ps c).1
    patterns_keeps plain.no_pattern c k = k
    patterns_keeps (plain.pattern_and p ps) c k = patterns_keeps ps (of_pattern p c).1 (pattern_keeps p c k)

    field_patterns_keeps : (fs : FieldPatterns) (c : Cursor) → Kept c → Kept (of_field_patterns fs c).1
    field_patterns_keeps plain.no_field_pattern c k = k
    field_patterns_keeps (plain.field_pattern_and y p fs) c k = field_patterns_keeps fs (of_pattern p c).1 (pattern_keeps p c k)

  written_self : (t : Written) → All (type_nodes t) → P (written_node t).number
  written_self (named.a_kind n k) h = h _ (inl refl)
  written_self (named.a_bool n) h = h _ (inl refl)
  written_self (named.a_tuple n ts) h = h _ (inl refl)
  written_self (named.a_reference n m t) h = h _ (inl refl)
  written_self (named.an_item n i ls) h = h _ (inl refl)

  lifetimes_only : (n : Node) (i : ℕ) (o : Option ℕ) → Only (rules.lifetimes_asked n i o)
  lifetimes_only n i None = asks.none P
  lifetimes_only n i (Some k) = asks.tests P n Rule.Lifetimes (test.HasLifetimes i k) [] [] []

  mutual
    type_only : (t : Written) → All (type_nodes t) → Only (rules.of_type t)
    type_only (named.a_kind n k) h = asks.gives_type P n Rule.Equal n (op.Integer k) [] (h _ (inl refl))
    type_only (named.a_bool n) h = asks.gives_type P n Rule.Equal n op.Truth [] (h _ (inl refl))
    type_only (named.a_tuple n ts) h = asks.both P (types_only ts (λ m i. h m (inr i))) (asks.gives_type P n Rule.Equal n op.Tuple (rules.written_nodes ts) (h _ (inl refl)))
    type_only (named.a_reference n m t) h = asks.both P (type_only t (λ m i. h m (inr i))) (asks.gives_type P n Rule.Equal n (op.Referring m) (type_of (written_node t) ∷ []) (h _ (inl refl)))
    type_only (named.an_item n i ls) h = asks.both P (lifetimes_only n i ls) (asks.gives_type P n Rule.Equal n (op.Item i) [] (h _ (inl refl)))

    types_only : (ts : WrittenTypes) → All (types_nodes ts) → Only (rules.of_types ts)
    types_only named.no_written h = asks.none P
    types_only (named.written_and t ts) h = asks.both P (type_only t (all_front (type_nodes t) (types_nodes ts) h)) (types_only ts (all_behind (type_nodes t) (types_nodes ts) h))

  whole_type_only : (t : Written) → All (type_nodes t) → Only (rules.whole_type t)
  whole_type_only t h = asks.both P (type_only t h) (asks.limits_only P (written_node t))

  pattern_self : (p : Pattern) → All (pattern_nodes p) → P (pattern_node p).number
  pattern_self (named.wild n) h = h _ (inl refl)
  pattern_self (named.bind n x m) h = h _ (inl refl)
  pattern_self (named.whole_number n g v k) h = h _ (inl refl)
  pattern_self (named.truth n b) h = h _ (inl refl)
  pattern_self (named.tuple_pattern n ps) h = h _ (inl refl)
  pattern_self (named.variant_pattern n i v ps) h = h _ (inl refl)
  pattern_self (named.struct_pattern n i fs) h = h _ (inl refl)

  binding_only : (n : Node) (anc : List Passing) (s : rules.Matched) → Only (rules.binding_of n anc s)
  binding_only n anc rules.a_value = asks.none P
  binding_only n anc (rules.a_place x qs) = asks.both P (asks.tests P n Rule.MoveOut test.BindingKept (type_of n ∷ []) anc qs) (asks.mutable_tests P n x test.BindingWritable [] anc qs)
  binding_only n anc (rules.an_initialiser e x qs) = asks.both P (asks.tests P n Rule.MoveOut test.BindingKeptOrLent (type_of n ∷ type_of e ∷ []) anc qs)
      (asks.mutable_tests P n x test.BindingWritableOrLent (type_of e ∷ []) anc qs)

  bound_only : (s : rules.Matched) (anc : List Passing) (n : Node) (x : ℕ) (m : Bool) → Only (rules.bound_at s anc n x m)
  bound_only s anc n x m = asks.both P (asks.variable_only P n x op.Bound (type_of n ∷ []) anc) (asks.both P (asks.tests P n Rule.Parts test.Limits (subject.Variable x ∷ []) [] [])
      (asks.both P (asks.where_so P m _ (asks.tests P n Rule.PatternOf test.Direct [] anc [])) (binding_only n anc s)))

  behind_only : (n : Node) (b : Broken) (o : Bool) (z : Kinds) → Only (asking.asks n b o (fact.IntegerBehind n.number z ∷ []))
  behind_only n b o z = asks.silent P n b o (fact.IntegerBehind n.number z) (λ m i. i)

  literal_only : (n : Node) (g : Bool) (v : ℕ) (k : Option Kind) → Only (rules.literal_at n g v k)
  literal_only n g v k = asks.both P (asks.tests P n Rule.PatternOf test.IntegerBehind (type_of n ∷ []) [] []) (asks.both P (asks.where_so P g _ (behind_only n (broken.Mismatch Rule.PatternOf) false asking.signed))
      (asks.both P (behind_only n (broken.Mismatch Rule.PatternOf) false (asking.with_suffix k)) (behind_only n broken.Literal (asking.is_open k) (asking.fitting g v))))

  pattern_is_only : (n : Node) (t : Test) → Only (rules.pattern_is n t)
  pattern_is_only n t = asks.tests P n Rule.PatternOf t (type_of n ∷ []) [] []

  mutual
    pattern_only : (s : rules.Matched) (anc : List Passing) (p : Pattern) → All (pattern_nodes p) → Only (rules.of_pattern s anc p)
    pattern_only s anc (named.wild n) h = asks.none P
    pattern_only s anc (named.bind n x m) h = bound_only s anc n x m
    pattern_only s anc (named.whole_number n g v k) h = literal_only n g v k
    pattern_only s anc (named.truth n b) h = pattern_is_only n test.TruthBehind
    pattern_only s anc (named.tuple_pattern n ps) h = asks.both P (pattern_is_only n (test.TupleBehind (rules.count ps))) (parts_only s (rules.under n anc) n 0 ps (λ m i. h m (inr i)))
    pattern_only s anc (named.variant_pattern n i v ps) h = asks.both P (pattern_is_only n (test.ItemBehind i))
        (asks.both P (asks.tests P n Rule.Count (test.Holds i v (rules.count ps)) [] [] []) (variant_parts_only s (rules.under n anc) i v 0 ps (λ m j. h m (inr j))))
    pattern_only s anc (named.struct_pattern n i fs) h = asks.both P (pattern_is_only n (test.ItemBehind i))
        (asks.both P (asks.tests P n Rule.Fields (test.HasFields i (rules.field_names fs)) [] [] []) (field_patterns_only s (rules.under n anc) i fs (λ m j. h m (inr j))))

    parts_only : (s : rules.Matched) (anc : List Passing) (n : Node) (k : ℕ) (ps : Patterns) → All (patterns_nodes ps) → Only (rules.of_parts s anc n k ps)
    parts_only s anc n k named.no_pattern h = asks.none P
    parts_only s anc n k (named.pattern_and p ps) h = let hp = all_front (pattern_nodes p) (patterns_nodes ps) h in
        asks.both P (asks.gives_type P (pattern_node p) Rule.Equal (pattern_node p) (op.Part k) (type_of n ∷ []) (pattern_self p hp))
        (asks.both P (pattern_only s anc p hp) (parts_only s anc n (suc k) ps (all_behind (pattern_nodes p) (patterns_nodes ps) h)))

    variant_parts_only : (s : rules.Matched) (anc : List Passing) (i v k : ℕ) (ps : Patterns) → All (patterns_nodes ps) → Only (rules.of_variant_parts s anc i v k ps)
    variant_parts_only s anc i v k named.no_pattern h = asks.none P
    variant_parts_only s anc i v k (named.pattern_and p ps) h = let hp = all_front (pattern_nodes p) (patterns_nodes ps) h in
        asks.both P (asks.gives_type P (pattern_node p) Rule.Equal (pattern_node p) (op.PartOf i v k) [] (pattern_self p hp))
        (asks.both P (pattern_only s anc p hp) (variant_parts_only s anc i v (suc k) ps (all_behind (pattern_nodes p) (patterns_nodes ps) h)))

    field_patterns_only : (s : rules.Matched) (anc : List Passing) (i : ℕ) (fs : named.FieldPatterns) → All (field_patterns_nodes fs) → Only (rules.of_field_patterns s anc i fs)
    field_patterns_only s anc i named.no_field_pattern h = asks.none P
    field_patterns_only s anc i (named.field_pattern_and x p fs) h = let hp = all_front (pattern_nodes p) (field_patterns_nodes fs) h in
        asks.both P (asks.gives_type P (pattern_node p) Rule.Equal (pattern_node p) (op.FieldOf i x) [] (pattern_self p hp))
        (asks.both P (pattern_only s anc p hp) (field_patterns_only s anc i fs (all_behind (pattern_nodes p) (field_patterns_nodes fs) h)))

  whole_pattern_only : (s : rules.Matched) (x : Subject) (p : Pattern) → All (pattern_nodes p) → Only (rules.whole_pattern s x p)
  whole_pattern_only s x p h = asks.both P (asks.gives_type P (pattern_node p) Rule.Equal (pattern_node p) op.Same (x ∷ []) (pattern_self p h)) (pattern_only s [] p h)

  -- ---- expressions

  exp_self : (e : Exp) → All (exp_nodes true e) → never e ≡ false → P (node_of e).number
  exp_self (named.int n m v k) h q = h _ (inl refl)
  exp_self (named.bool n b) h q = h _ (inl refl)
  exp_self (named.tuple n es) h q = h _ (inl refl)
  exp_self (named.var n x) h q = h _ (inl refl)
  exp_self (named.field n e x) h q = h _ (inl refl)
  exp_self (named.part n e i) h q = h _ (inl refl)
  exp_self (named.deref n e) h q = h _ (inl refl)
  exp_self (named.negate n e) h q = h _ (inl refl)
  exp_self (named.invert n e) h q = h _ (inl refl)
  exp_self (named.borrow n m e) h q = h _ (inl refl)
  exp_self (named.binary n o a b) h q = h _ (inl refl)
  exp_self (named.assign n p e) h q = h _ (inl refl)
  exp_self (named.gives n p x d e) h q = h _ (inl refl)
  exp_self (named.update n o p e) h q = h _ (inl refl)
  exp_self (named.call n f es) h q = h _ (inl refl)
  exp_self (named.hidden_call n es) h q = h _ (inl refl)
  exp_self (named.next_input n) h q = h _ (inl refl)
  exp_self (named.variant n i v es) h q = h _ (inl refl)
  exp_self (named.make n i fs) h q = h _ (inl refl)
  exp_self (named.print n e) h q = h _ (inl refl)
  exp_self (named.block n b) h q = here (body_never b) n (all_front (unless (body_never b) n) (body_nodes true b) h) q
  exp_self (named.if n c b o) h q = let v = body_never b && else_never o in here v n (all_front (unless v n) (exp_nodes true c ++ (body_nodes true b ++ else_nodes true o)) h) q
  exp_self (named.if_let n p e b o) h q = let v = body_never b && else_never o in
      here v n (all_front (unless v n) (pattern_nodes p ++ (exp_nodes true e ++ (body_nodes true b ++ else_nodes true o))) h) q
  exp_self (named.match n e l) h q = here (all_never l) n (all_front (unless (all_never l) n) (exp_nodes true e ++ arms_nodes true l) h) q
  exp_self (named.loop n l k b) h q = here (not k) n (all_front (unless (not k) n) (body_nodes true b) h) q
  exp_self (named.while n l c b) h q = h _ (inl refl)
  exp_self (named.while_let n l p e b) h q = h _ (inl refl)
  exp_self (named.break n l) h q = absurd (cc)
  exp_self (named.continue n l) h q = absurd (cc)
  exp_self (named.return n o) h q = absurd (cc)

  body_self : (b : named.Body) → All (body_nodes true b) → body_never b ≡ false → P (body_node b).number
  body_self (named.body n ss o) h q = let v = named.tail_never (some_diverges ss) o in here v n (all_front (unless v n) (statements_nodes true ss ++ else_nodes true o) h) q

  branch_after_only : (n : Node) (o : named.Else) (b : named.Body) → (body_never b ≡ false → P (body_node b).number) → ((body_never b && else_never o) ≡ false → P n.number) → Only (rules.branch_after n o b)
  branch_after_only n named.absent b hb p = asks.both P (asks.nothing_given_only P (body_node b) (body_never b) hb) (asks.own_only P n op.Unit [] (p (and_right (body_never b) false refl)))
  branch_after_only n (named.present e) b hb p = asks.part_after_only P n n.site (body_never b) (body_node b) (λ q. p (and_left (body_never b) (never e) q))

  if_joins_only : (n : Node) (o : named.Else) (v : Bool) → (v ≡ false → P n.number) → Only (rules.if_joins n o v)
  if_joins_only n named.absent v p = asks.none P
  if_joins_only n (named.present e) v p = asks.join_only P n v p

  else_only : (f : ℕ) (n : Node) (o : named.Else) → Only (rules.of_returned f o) → (else_never o ≡ false → P n.number) → Only (rules.of_else f n o)
  else_only f n named.absent r p = asks.none P
  else_only f n (named.present e) r p = asks.both P (asks.part_before_only P n n.site (node_of e)) (asks.both P r (asks.part_after_only P n n.site (never e) (node_of e) p))

  declared_only : (p : Pattern) (y : Option Written) → All (pattern_nodes p) → All (optional_nodes y) → Only (rules.declared p y)
  declared_only p None h k = asks.one_variable_only P p
  declared_only p (Some t) h k = asks.both P (whole_type_only t k) (whole_pattern_only rules.a_value (type_of (written_node t)) p h)

  typed_before_only : (y : Option Written) (e : Exp) → All (optional_nodes y) → Only (rules.typed_before y e)
  typed_before_only None e k = asks.none P
  typed_before_only (Some t) e k = asks.both P (whole_type_only t k) (asks.expects_only P (node_of e) op.Same (type_of (written_node t) ∷ []))

  initialised_by_only : (v : Bool) (p : Pattern) (s : rules.Matched) (n : Node) → All (pattern_nodes p) → Only (rules.initialised_by v p s n)
  initialised_by_only true p s n h = asks.one_variable_only P p
  initialised_by_only false p s n h = whole_pattern_only s (type_of n) p h

  initialised_only : (p : Pattern) (y : Option Written) (e : Exp) → All (pattern_nodes p) → Only (rules.initialised p y e)
  initialised_only p None e h = initialised_by_only (never e) p (rules.matched e) (node_of e) h
  initialised_only p (Some t) e h = whole_pattern_only (rules.matched e) (type_of (written_node t)) p h

  -- a variable that waits for its type is the whole left side
  one_node : (n : Node) → P n.number → All (n.number ∷ [])
  one_node n p m (inl e) = subst P (sym e) p
  one_node n p m (inr i) = absurd i

  left_nodes : (p : Expression) (c c1 : Cursor) (x : ℕ) (w : ℕ × ℕ) → numbering.waits_in p x c1 ≡ Some w → let q = (of_expression false Site.Place p c).0 in P (node_of q).number → All (exp_nodes true q)
  left_nodes (plain.var s y) c c1 x w e p = one_node (a_node s Site.Place c).0 p
  left_nodes (plain.int s v k) cursor next number wait same kind = absurd (cc)
  left_nodes (plain.bool s b) cursor next number wait same kind = absurd (cc)
  left_nodes (plain.tuple s es) cursor next number wait same kind = absurd (cc)
  left_nodes (plain.field s e x) cursor next number wait same kind = absurd (cc)
  left_nodes (plain.part s e i) cursor next number wait same kind = absurd (cc)
  left_nodes (plain.deref s e) cursor next number wait same kind = absurd (cc)
  left_nodes (plain.negate s e) cursor next number wait same kind = absurd (cc)
  left_nodes (plain.invert s e) cursor next number wait same kind = absurd (cc)
  left_nodes (plain.borrow s w e) cursor next number wait same kind = absurd (cc)
  left_nodes (plain.binary s o a b) cursor next number wait same kind = absurd (cc)
  left_nodes (plain.assign s p e) cursor next number wait same kind = absurd (cc)
  left_nodes (plain.update s o p e) cursor next number wait same kind = absurd (cc)
  left_nodes (plain.call s g es) cursor next number wait same kind = absurd (cc)
  left_nodes (plain.next_input s) cursor next number wait same kind = absurd (cc)
  left_nodes (plain.variant s a v es) c c1 x w z p = absurd (cc)
  left_nodes (plain.make s x fs) cursor next number wait same kind = absurd (cc)
  left_nodes (plain.print s e) cursor next number wait same kind = absurd (cc)
  left_nodes (plain.block s b) cursor next number wait same kind = absurd (cc)
  left_nodes (plain.if s a b o) cursor next number wait same kind = absurd (cc)
  left_nodes (plain.if_let s p e b o) cursor next number wait same kind = absurd (cc)
  left_nodes (plain.match s e l) cursor next number wait same kind = absurd (cc)
  left_nodes (plain.loop s l b) cursor next number wait same kind = absurd (cc)
  left_nodes (plain.while s l a b) cursor next number wait same kind = absurd (cc)
  left_nodes (plain.while_let s l p e b) cursor next number wait same kind = absurd (cc)
  left_nodes (plain.break s l) cursor next number wait same kind = absurd (cc)
  left_nodes (plain.continue s l) cursor next number wait same kind = absurd (cc)
  left_nodes (plain.return s o) cursor next number wait same kind = absurd (cc)

  branches_only : (f : ℕ) (n : Node) (b : named.Body) (o : named.Else) → Only (rules.of_body f b) → Only (rules.of_returned f o) → (body_never b ≡ false → P (body_node b).number)
      → ((body_never b && else_never o) ≡ false → P n.number) → Only (rules.branch_before n o b >> rules.of_body f b >> rules.branch_after n o b >> rules.of_else f n o >> rules.if_joins n o (body_never b && else_never o))
  branches_only f n b o y z hb p = asks.both P (asks.branch_before_only P n o b) (asks.both P y (asks.both P (branch_after_only n o b hb p)
      (asks.both P (else_only f n o z (λ q. p (and_right (body_never b) (else_never o) q))) (if_joins_only n o (body_never b && else_never o) p))))

  -- the right side is gone through where it stands
  assigned_tells : (f : ℕ) (n : Node) (q : Exp) (c : Cursor) (o : Option (ℕ × ℕ)) → (All (exp_nodes true q) → Kept c × Only (rules.of_exp f q))
      → ((w : ℕ × ℕ) → o ≡ Some w → P (node_of q).number → All (exp_nodes true q)) → (e : Expression)
      → ((t : Site) → Kept c → All (exp_nodes true (of_expression false t e c).0) → Kept (of_expression false t e c).1 × Only (rules.of_exp f (of_expression false t e c).0))
      → All (exp_nodes true (numbering.assigned n q o (λ t. of_expression false t e) c).0)
      → Kept (numbering.assigned n q o (λ t. of_expression false t e) c).1 × Only (rules.of_exp f (numbering.assigned n q o (λ t. of_expression false t e) c).0)
  assigned_tells f n q c None left whole e right h =
      let E = of_expression false Site.Expects e c in let g : All (exp_nodes true q ++ exp_nodes true E.0) = λ m i. h m (inr i) in
      let a = left (all_front (exp_nodes true q) (exp_nodes true E.0) g) in let r = right Site.Expects a.0 (all_behind (exp_nodes true q) (exp_nodes true E.0) g) in
      (r.0, asks.both P a.1 (asks.both P (asks.expects_only P (node_of E.0) op.Same (type_of (node_of q) ∷ [])) (asks.both P r.1 (asks.both P (asks.assignable_only P n q) (asks.own_only P n op.Unit [] (h _ (inl refl)))))))
  assigned_tells f n q c (Some w) left whole e right h =
      let E = of_expression false Site.Reborrows e c in let u = use_of w.0 (declaration E.1 w.0) in
      let pq : P (node_of q).number = h _ (inr (inl refl)) in
      let a = left (whole w refl pq) in let r = right Site.Reborrows a.0 (λ m i. h m (inr (inr i))) in
      (gives_keeps w.0 E.1 r.0, asks.both P r.1 (asks.both P (asks.given_only P n (node_of q) u (gives_here w.0 E.1).0 (node_of E.0) (never E.0) pq (gives_of w.0 E.1 r.0)) (asks.own_only P n op.Unit [] (h _ (inl refl)))))

  called_tells : (f : ℕ) (n : Node) (a : List ℕ × Bool) (es : Expressions) (c : Cursor)
      → ((w : rules.Listed) (t : Site) → All (exps_nodes true (numbering.of_expressions t es c).0) → Kept (numbering.of_expressions t es c).1 × Only (rules.of_each f w 0 (numbering.of_expressions t es c).0))
      → All (exp_nodes true (numbering.called n a (λ t. numbering.of_expressions t es) c).0)
      → Kept (numbering.called n a (λ t. numbering.of_expressions t es) c).1 × Only (rules.of_exp f (numbering.called n a (λ t. numbering.of_expressions t es) c).0)
  called_tells f n (ns, true) es c each h = let r = each rules.values Site.Value (λ m i. h m (inr i)) in (r.0, asks.both P (asks.never_met P n Rule.NotFunction) r.1)
  called_tells f n (ns, false) es c each h =
      let g = first ns in let r = each (rules.parameters g) Site.Expects (λ m i. h m (inr i)) in
      (r.0, asks.both P (asks.tests P n Rule.Count (test.Takes g (rules.argument_count (numbering.of_expressions Site.Expects es c).0)) [] [] []) (asks.both P r.1 (asks.own_only P n (op.Result g) [] (h _ (inl refl)))))

  mutual
    exp_tells : (f : ℕ) (m : Bool) (t : Site) (e : Expression) (c : Cursor) → Kept c → All (exp_nodes true (of_expression m t e c).0)
        → Kept (of_expression m t e c).1 × Only (rules.of_exp f (of_expression m t e c).0)
    exp_tells f m t (plain.int s v z) c k h = (k, asks.integer_only P (a_node s t c).0 m v z (h _ (inl refl)))
    exp_tells f m t (plain.bool s b) c k h = (k, asks.own_only P (a_node s t c).0 op.Truth [] (h _ (inl refl)))
    exp_tells f m t (plain.tuple s es) c k h =
        let n = (a_node s t c).0 in let d = (a_node s t c).1 in
        let r = exps_tell f rules.members 0 Site.Value es d k (λ m i. h m (inr i)) in
        (r.0, asks.both P r.1 (asks.both P (asks.own_only P n op.Tuple (rules.exp_nodes (numbering.of_expressions Site.Value es d).0) (h _ (inl refl))) (asks.limits_only P n)))
    exp_tells f m t (plain.var s x) c k h =
        let n = (a_node s t c).0 in let a = an_entry (a_node s t c).1 in let u = use_of (first a.0.0) (declaration a.1 (first a.0.0)) in
        (entry_keeps (a_node s t c).1 k, asks.both P (asks.named_only P n u u.known (h _ (inl refl))) (asks.place_only P (named.var n u) (h _ (inl refl))))
    exp_tells f m t (plain.field s e x) c k h =
        let n = (a_node s t c).0 in let d = (a_node s t c).1 in let E = (of_expression false Site.Place e d).0 in
        let r = exp_tells f false Site.Place e d k (λ m i. h m (inr i)) in
        (r.0, asks.both P r.1 (asks.both P (asks.step_only P n (op.Field x.name) (node_of E) (h _ (inl refl))) (asks.place_only P (named.field n E x.name) (h _ (inl refl)))))
    exp_tells f m t (plain.part s e j) c k h =
        let n = (a_node s t c).0 in let d = (a_node s t c).1 in let E = (of_expression false Site.Place e d).0 in
        let r = exp_tells f false Site.Place e d k (λ m i. h m (inr i)) in
        (r.0, asks.both P r.1 (asks.both P (asks.step_only P n (op.Part j) (node_of E) (h _ (inl refl))) (asks.place_only P (named.part n E j) (h _ (inl refl)))))
    exp_tells f m t (plain.deref s e) c k h =
        let n = (a_node s t c).0 in let d = (a_node s t c).1 in let E = (of_expression false Site.Place e d).0 in
        let r = exp_tells f false Site.Place e d k (λ m i. h m (inr i)) in
        (r.0, asks.both P r.1 (asks.both P (asks.step_only P n op.Pointee (node_of E) (h _ (inl refl))) (asks.place_only P (named.deref n E) (h _ (inl refl)))))
    exp_tells f m t (plain.negate s e) c k h =
        let n = (a_node s t c).0 in let d = (a_node s t c).1 in let E = (of_expression true Site.Value e d).0 in
        let r = exp_tells f true Site.Value e d k (λ m i. h m (inr i)) in (r.0, asks.both P r.1 (asks.negated_only P n (node_of E) (never E) (h _ (inl refl))))
    exp_tells f m t (plain.invert s e) c k h =
        let n = (a_node s t c).0 in let d = (a_node s t c).1 in let E = (of_expression false Site.Value e d).0 in
        let r = exp_tells f false Site.Value e d k (λ m i. h m (inr i)) in
        (r.0, asks.both P r.1 (asks.inverted_only P n (node_of E) (never E) (h _ (inl refl)) (exp_self E (λ m i. h m (inr i)))))
    exp_tells f m t (plain.borrow s w e) c k h =
        let n = (a_node s t c).0 in let d = (a_node s t c).1 in let E = (of_expression false Site.Place e d).0 in
        let r = exp_tells f false Site.Place e d k (λ m i. h m (inr i)) in
        (r.0, asks.both P r.1 (asks.borrowed_only P n w (node_of E) (root E) (rules.through E) (h _ (inl refl))))
    exp_tells f m t (plain.binary s o a b) c k h =
        let n = (a_node s t c).0 in let d = (a_node s t c).1 in let A = of_expression false Site.Value a d in let B = of_expression false Site.Value b A.1 in
        let g : All (exp_nodes true A.0 ++ exp_nodes true B.0) = λ m i. h m (inr i) in
        let ha = all_front (exp_nodes true A.0) (exp_nodes true B.0) g in let hb = all_behind (exp_nodes true A.0) (exp_nodes true B.0) g in
        let r = exp_tells f false Site.Value a d k ha in let q = exp_tells f false Site.Value b A.1 r.0 hb in
        (q.0, asks.both P r.1 (asks.both P q.1 (asks.operation_only P n (node_of A.0) (never A.0) (node_of B.0) (never B.0) (h _ (inl refl)) (exp_self A.0 ha) (exp_self B.0 hb) o)))
    exp_tells f m t (plain.assign s p e) c k h =
        let n = (a_node s t c).0 in let d = (a_node s t c).1 in let Q = of_expression false Site.Place p d in
        assigned_tells f n Q.0 Q.1 (numbering.waits_in p (root Q.0).number Q.1) (exp_tells f false Site.Place p d k) (λ w z. left_nodes p d Q.1 (root Q.0).number w z) e (λ u j g. exp_tells f false u e Q.1 j g) h
    exp_tells f m t (plain.update s o p e) c k h =
        let n = (a_node s t c).0 in let d = (a_node s t c).1 in let A = of_expression false Site.Place p d in let B = of_expression false Site.Value e A.1 in
        let g : All (exp_nodes true A.0 ++ exp_nodes true B.0) = λ m i. h m (inr i) in
        let ha = all_front (exp_nodes true A.0) (exp_nodes true B.0) g in let hb = all_behind (exp_nodes true A.0) (exp_nodes true B.0) g in
        let r = exp_tells f false Site.Place p d k ha in let q = exp_tells f false Site.Value e A.1 r.0 hb in (
          q.0,
          asks.both P r.1 (asks.both P q.1 (asks.both P (asks.updated_only P n (node_of A.0) (never A.0) (node_of B.0) (never B.0) (h _ (inl refl)) (exp_self A.0 ha) (exp_self B.0 hb))
              (asks.both P (asks.assignable_only P n A.0) (asks.own_only P n op.Unit [] (h _ (inl refl)))))),
        )
    exp_tells f m t (plain.call s g es) c k h = let a = an_entry (a_node s t c).1 in called_tells f (a_node s t c).0 a.0 es a.1 (λ w u g. exps_tell f w 0 u es a.1 (entry_keeps (a_node s t c).1 k) g) h
    exp_tells f m t (plain.next_input s) c k h = (entry_keeps (a_node s t c).1 k, asks.own_only P (a_node s t c).0 (op.Integer Kind.I64) [] (h _ (inl refl)))
    exp_tells f m t (plain.variant s a v es) c k h =
        let n = (a_node s t c).0 in let d = an_entry (a_node s t c).1 in let i = first d.0.0 in let j = second d.0.0 in
        let r = arguments_tell f (rules.parts_of i j) es d.1 (entry_keeps (a_node s t c).1 k) (λ m i. h m (inr i)) in
        (r.0, asks.both P (asks.tests P n Rule.Count (test.Holds i j (rules.argument_count (numbering.of_arguments es d.1).0)) [] [] []) (asks.both P r.1 (asks.own_only P n (op.Item i) [] (h _ (inl refl)))))
    exp_tells f m t (plain.make s x fs) c k h =
        let n = (a_node s t c).0 in let d = an_entry (a_node s t c).1 in let i = first d.0.0 in
        let r = fields_tell f i fs d.1 (entry_keeps (a_node s t c).1 k) (λ m i. h m (inr i)) in
        (r.0, asks.both P (asks.tests P n Rule.Fields (test.HasFields i (rules.names_given (numbering.of_fields fs d.1).0)) [] [] []) (asks.both P r.1 (asks.own_only P n (op.Item i) [] (h _ (inl refl)))))
    exp_tells f m t (plain.print s e) c k h =
        let n = (a_node s t c).0 in let d = (a_node s t c).1 in let E = (of_expression false Site.Value e d).0 in
        let r = exp_tells f false Site.Value e d k (λ m i. h m (inr i)) in
        (r.0, asks.both P r.1 (asks.both P (asks.printed_only P (node_of E) (never E)) (asks.own_only P n op.Unit [] (h _ (inl refl)))))
    exp_tells f m t (plain.block s b) c k h =
        let n = (a_node s t c).0 in let d = (a_node s t c).1 in let B = (numbering.of_body (numbering.passed_on t) b d).0 in let v = body_never B in
        let p = here v n (all_front (unless v n) (body_nodes true B) h) in let r = body_tells f (numbering.passed_on t) b d k (all_behind (unless v n) (body_nodes true B) h) in
        (r.0, asks.both P (asks.part_before_only P n n.site (body_node B)) (asks.both P r.1 (asks.both P (asks.part_after_only P n n.site v (body_node B) p) (asks.join_only P n v p))))
    exp_tells f m t (plain.if s a b o) c k h =
        let n = (a_node s t c).0 in let d = (a_node s t c).1 in let C = of_expression false Site.Value a d in
        let B = numbering.of_body (numbering.branch_site t o) b C.1 in let O = numbering.of_optional (numbering.passed_on t) o B.1 in
        let v = body_never B.0 && else_never O.0 in let rest = exp_nodes true C.0 ++ (body_nodes true B.0 ++ else_nodes true O.0) in
        let p = here v n (all_front (unless v n) rest h) in let g = all_behind (unless v n) rest h in
        let hc = all_front (exp_nodes true C.0) (body_nodes true B.0 ++ else_nodes true O.0) g in let g2 = all_behind (exp_nodes true C.0) (body_nodes true B.0 ++ else_nodes true O.0) g in
        let hb = all_front (body_nodes true B.0) (else_nodes true O.0) g2 in
        let x = exp_tells f false Site.Value a d k hc in let y = body_tells f (numbering.branch_site t o) b C.1 x.0 hb in
        let z = optional_tells f (numbering.passed_on t) o B.1 y.0 (all_behind (body_nodes true B.0) (else_nodes true O.0) g2) in
        (z.0, asks.both P x.1 (asks.both P (asks.tested_only P (node_of C.0) (never C.0) (exp_self C.0 hc)) (branches_only f n B.0 O.0 y.1 z.1 (body_self B.0 hb) p)))
    exp_tells f m t (plain.if_let s pt e b o) c k h =
        let n = (a_node s t c).0 in let d = (a_node s t c).1 in let Q = of_pattern pt d in let E = of_expression false Site.Scrutinee e Q.1 in
        let c2 = (numbering.known_between d.declared Q.1.declared E.1).1 in
        let B = numbering.of_body (numbering.branch_site t o) b c2 in let O = numbering.of_optional (numbering.passed_on t) o B.1 in
        let v = body_never B.0 && else_never O.0 in let r3 = body_nodes true B.0 ++ else_nodes true O.0 in let r2 = exp_nodes true E.0 ++ r3 in let r1 = pattern_nodes Q.0 ++ r2 in
        let p = here v n (all_front (unless v n) r1 h) in let g = all_behind (unless v n) r1 h in
        let hq = all_front (pattern_nodes Q.0) r2 g in let g2 = all_behind (pattern_nodes Q.0) r2 g in
        let he = all_front (exp_nodes true E.0) r3 g2 in let g3 = all_behind (exp_nodes true E.0) r3 g2 in
        let hb = all_front (body_nodes true B.0) (else_nodes true O.0) g3 in
        let x = exp_tells f false Site.Scrutinee e Q.1 (pattern_keeps pt d k) he in
        let y = body_tells f (numbering.branch_site t o) b c2 (between_keeps d.declared Q.1.declared E.1 x.0) hb in
        let z = optional_tells f (numbering.passed_on t) o B.1 y.0 (all_behind (body_nodes true B.0) (else_nodes true O.0) g3) in (
          z.0,
          asks.both P x.1 (asks.both P (asks.not_never_only P (node_of E.0) (never E.0)) (asks.both P (whole_pattern_only (rules.matched E.0) (type_of (node_of E.0)) Q.0 hq)
              (branches_only f n B.0 O.0 y.1 z.1 (body_self B.0 hb) p))),
        )
    exp_tells f m t (plain.match s e l) c k h =
        let n = (a_node s t c).0 in let d = (a_node s t c).1 in let E = of_expression false Site.Scrutinee e d in let L = (numbering.of_arms (numbering.passed_on t) l E.1).0 in
        let v = all_never L in let rest = exp_nodes true E.0 ++ arms_nodes true L in
        let p = here v n (all_front (unless v n) rest h) in let g = all_behind (unless v n) rest h in
        let x = exp_tells f false Site.Scrutinee e d k (all_front (exp_nodes true E.0) (arms_nodes true L) g) in
        let y = arms_tell f n (rules.matched E.0) (node_of E.0) (numbering.passed_on t) l E.1 x.0 (all_behind (exp_nodes true E.0) (arms_nodes true L) g) p in
        (y.0, asks.both P x.1 (asks.both P (asks.not_never_only P (node_of E.0) (never E.0)) (asks.both P y.1 (asks.join_only P n v p))))
    exp_tells f m t (plain.loop s l b) c k h =
        let n = (a_node s t c).0 in let a = numbering.a_loop (a_node s t c).1 in let B = numbering.of_body Site.Value b a.1 in let q = (numbering.is_left a.0 B.1).0 in
        let hb = all_behind (unless (not q) n) (body_nodes true B.0) h in let r = body_tells f Site.Value b a.1 k hb in (
          r.0,
          asks.both P r.1 (asks.both P (asks.nothing_given_only P (body_node B.0) (body_never B.0) (body_self B.0 hb))
              (asks.loop_given_only P n q (here (not q) n (all_front (unless (not q) n) (body_nodes true B.0) h)))),
        )
    exp_tells f m t (plain.while s l a b) c k h =
        let n = (a_node s t c).0 in let d = (numbering.a_loop (a_node s t c).1).1 in let C = of_expression false Site.Value a d in let B = (numbering.of_body Site.Value b C.1).0 in
        let g : All (exp_nodes true C.0 ++ body_nodes true B) = λ m i. h m (inr i) in
        let hc = all_front (exp_nodes true C.0) (body_nodes true B) g in let hb = all_behind (exp_nodes true C.0) (body_nodes true B) g in
        let x = exp_tells f false Site.Value a d k hc in let y = body_tells f Site.Value b C.1 x.0 hb in (
          y.0,
          asks.both P x.1 (asks.both P (asks.tested_only P (node_of C.0) (never C.0) (exp_self C.0 hc)) (asks.both P y.1
              (asks.both P (asks.nothing_given_only P (body_node B) (body_never B) (body_self B hb)) (asks.own_only P n op.Unit [] (h _ (inl refl)))))),
        )
    exp_tells f m t (plain.while_let s l pt e b) c k h =
        let n = (a_node s t c).0 in let d = (numbering.a_loop (a_node s t c).1).1 in let Q = of_pattern pt d in let E = of_expression false Site.Scrutinee e Q.1 in
        let c2 = (numbering.known_between d.declared Q.1.declared E.1).1 in let B = (numbering.of_body Site.Value b c2).0 in
        let r2 = exp_nodes true E.0 ++ body_nodes true B in let g : All (pattern_nodes Q.0 ++ r2) = λ m i. h m (inr i) in
        let g2 = all_behind (pattern_nodes Q.0) r2 g in let hb = all_behind (exp_nodes true E.0) (body_nodes true B) g2 in
        let x = exp_tells f false Site.Scrutinee e Q.1 (pattern_keeps pt d k) (all_front (exp_nodes true E.0) (body_nodes true B) g2) in
        let y = body_tells f Site.Value b c2 (between_keeps d.declared Q.1.declared E.1 x.0) hb in (
          y.0,
          asks.both P x.1 (asks.both P (asks.not_never_only P (node_of E.0) (never E.0)) (asks.both P (whole_pattern_only (rules.matched E.0) (type_of (node_of E.0)) Q.0 (all_front (pattern_nodes Q.0) r2 g))
              (asks.both P y.1 (asks.both P (asks.nothing_given_only P (body_node B) (body_never B) (body_self B hb)) (asks.own_only P n op.Unit [] (h _ (inl refl))))))),
        )
    exp_tells f m t (plain.break s l) c k h = (entry_keeps (a_node s t c).1 k, asks.never_only P (a_node s t c).0)
    exp_tells f m t (plain.continue s l) c k h = (entry_keeps (a_node s t c).1 k, asks.never_only P (a_node s t c).0)
    exp_tells f m t (plain.return s o) c k h =
        let n = (a_node s t c).0 in let d = (a_node s t c).1 in let r = optional_tells f Site.Expects o d k h in
        (r.0, asks.both P (asks.returns_only P f n (numbering.of_optional Site.Expects o d).0) (asks.both P r.1 (asks.never_only P n)))

    exps_tell : (f : ℕ) (w : rules.Listed) (j : ℕ) (t : Site) (es : Expressions) (c : Cursor) → Kept c → All (exps_nodes true (numbering.of_expressions t es c).0)
        → Kept (numbering.of_expressions t es c).1 × Only (rules.of_each f w j (numbering.of_expressions t es c).0)
    exps_tell f w j t plain.no_expression c k h = (k, asks.none P)
    exps_tell f w j t (plain.expression_and e es) c k h =
        let E = of_expression false t e c in let R = (numbering.of_expressions t es E.1).0 in
        let x = exp_tells f false t e c k (all_front (exp_nodes true E.0) (exps_nodes true R) h) in let y = exps_tell f w (suc j) t es E.1 x.0 (all_behind (exp_nodes true E.0) (exps_nodes true R) h) in
        (y.0, asks.both P (asks.each_before_only P w j (node_of E.0)) (asks.both P x.1 (asks.both P (asks.each_after_only P w E.0) y.1)))

    arguments_tell : (f : ℕ) (w : rules.Listed) (o : OptionalExpressions) (c : Cursor) → Kept c → All (exps_nodes true (numbering.of_arguments o c).0)
        → Kept (numbering.of_arguments o c).1 × Only (rules.of_each f w 0 (numbering.of_arguments o c).0)
    arguments_tell f w plain.no_list c k h = (k, asks.none P)
    arguments_tell f w (plain.a_list es) c k h = exps_tell f w 0 Site.Expects es c k h

    fields_tell : (f i : ℕ) (fs : FieldExpressions) (c : Cursor) → Kept c → All (fields_nodes true (numbering.of_fields fs c).0) → Kept (numbering.of_fields fs c).1 × Only (rules.of_fields f i (numbering.of_fields fs c).0)
    fields_tell f i plain.no_field c k h = (k, asks.none P)
    fields_tell f i (plain.field_and x e fs) c k h =
        let E = of_expression false Site.Expects e c in let R = (numbering.of_fields fs E.1).0 in
        let a = exp_tells f false Site.Expects e c k (all_front (exp_nodes true E.0) (fields_nodes true R) h) in let b = fields_tell f i fs E.1 a.0 (all_behind (exp_nodes true E.0) (fields_nodes true R) h) in
        (b.0, asks.both P (asks.expects_only P (node_of E.0) (op.FieldOf i x.name) []) (asks.both P a.1 b.1))

    optional_tells : (f : ℕ) (t : Site) (o : OptionalExpression) (c : Cursor) → Kept c → All (else_nodes true (numbering.of_optional t o c).0) → Kept (numbering.of_optional t o c).1 × Only (rules.of_returned f (numbering.of_optional t o c).0)
    optional_tells f t plain.absent c k h = (k, asks.none P)
    optional_tells f t (plain.present e) c k h = exp_tells f false t e c k h

    arms_tell : (f : ℕ) (n : Node) (s : rules.Matched) (m : Node) (t : Site) (l : Arms) (c : Cursor) → Kept c → All (arms_nodes true (numbering.of_arms t l c).0) → (all_never (numbering.of_arms t l c).0 ≡ false → P n.number)
        → Kept (numbering.of_arms t l c).1 × Only (rules.of_arms f n s m (numbering.of_arms t l c).0)
    arms_tell f n s m t plain.no_arm c k h p = (k, asks.none P)
    arms_tell f n s m t (plain.arm_and pt e l) c k h p =
        let Q = of_pattern pt c in let c2 = (numbering.known_between c.declared Q.1.declared Q.1).1 in let E = of_expression false t e c2 in let L = (numbering.of_arms t l E.1).0 in
        let r2 = exp_nodes true E.0 ++ arms_nodes true L in let g = all_behind (pattern_nodes Q.0) r2 h in
        let x = exp_tells f false t e c2 (between_keeps c.declared Q.1.declared Q.1 (pattern_keeps pt c k)) (all_front (exp_nodes true E.0) (arms_nodes true L) g) in
        let y = arms_tell f n s m t l E.1 x.0 (all_behind (exp_nodes true E.0) (arms_nodes true L) g) (λ q. p (and_right (never E.0) (all_never L) q)) in (
          y.0,
          asks.both P (whole_pattern_only s (type_of m) Q.0 (all_front (pattern_nodes Q.0) r2 h)) (asks.both P (asks.part_before_only P n n.site (node_of E.0)) (asks.both P x.1
              (asks.both P (asks.part_after_only P n n.site (never E.0) (node_of E.0) (λ q. p (and_left (never E.0) (all_never L) q))) y.1))),
        )

    body_tells : (f : ℕ) (t : Site) (b : Body) (c : Cursor) → Kept c → All (body_nodes true (numbering.of_body t b c).0) → Kept (numbering.of_body t b c).1 × Only (rules.of_body f (numbering.of_body t b c).0)
    body_tells f t (plain.body s ss o) c k h =
        let n = (a_node s t c).0 in let d = (a_node s t c).1 in let S = numbering.of_statements ss d in let O = (numbering.of_optional t o S.1).0 in
        let v = named.tail_never (some_diverges S.0) O in let rest = statements_nodes true S.0 ++ else_nodes true O in
        let p = here v n (all_front (unless v n) rest h) in let g = all_behind (unless v n) rest h in
        let x = statements_tell f ss d k (all_front (statements_nodes true S.0) (else_nodes true O) g) in let y = optional_tells f t o S.1 x.0 (all_behind (statements_nodes true S.0) (else_nodes true O) g) in
        (y.0, asks.both P x.1 (asks.both P (asks.tail_before_only P n O) (asks.both P y.1 (asks.both P (asks.tail_after_only P n (some_diverges S.0) O p) (asks.join_only P n v p)))))

    statements_tell : (f : ℕ) (ss : Statements) (c : Cursor) → Kept c → All (statements_nodes true (numbering.of_statements ss c).0) → Kept (numbering.of_statements ss c).1 × Only (rules.of_statements f (numbering.of_statements ss c).0)
    statements_tell f plain.no_statement c k h = (k, asks.none P)
    statements_tell f (plain.statement_and a ss) c k h =
        let A = numbering.of_statement a c in let S = (numbering.of_statements ss A.1).0 in
        let x = statement_tells f a c k (all_front (statement_nodes true A.0) (statements_nodes true S) h) in let y = statements_tell f ss A.1 x.0 (all_behind (statement_nodes true A.0) (statements_nodes true S) h) in
        (y.0, asks.both P x.1 y.1)

    statement_tells : (f : ℕ) (a : Statement) (c : Cursor) → Kept c → All (statement_nodes true (numbering.of_statement a c).0) → Kept (numbering.of_statement a c).1 × Only (rules.of_statement f (numbering.of_statement a c).0)
    statement_tells f (plain.let_statement s pt y plain.absent) c k h =
        let d = (numbering.annotates pt y (a_node s Site.Value c).1).1 in let Q = of_pattern pt d in let Y = of_optional_type y Q.1 in
        let c2 = (numbering.known_between d.declared Q.1.declared Y.1).1 in
        let hq = all_front (pattern_nodes Q.0) (optional_nodes Y.0) h in
        let k2 = between_keeps d.declared Q.1.declared Y.1 (optional_type_keeps y Q.1 (pattern_keeps pt d (annotates_keeps pt y (a_node s Site.Value c).1 k))) in
        (waits_keeps (numbering.has_no_type Y.0) Q.0 c2 (pattern_self Q.0 hq) k2, declared_only Q.0 Y.0 hq (all_behind (pattern_nodes Q.0) (optional_nodes Y.0) h))
    statement_tells f (plain.let_statement s pt y (plain.present e)) c k h =
        let d = (numbering.annotates pt y (a_node s Site.Value c).1).1 in let Q = of_pattern pt d in let Y = of_optional_type y Q.1 in
        let E = of_expression false (numbering.initialiser_site Y.0) e Y.1 in let c2 = (numbering.known_between d.declared Q.1.declared E.1).1 in
        let r2 = optional_nodes Y.0 ++ exp_nodes true E.0 in let hq = all_front (pattern_nodes Q.0) r2 h in let g = all_behind (pattern_nodes Q.0) r2 h in
        let x = exp_tells f false (numbering.initialiser_site Y.0) e Y.1 (optional_type_keeps y Q.1 (pattern_keeps pt d (annotates_keeps pt y (a_node s Site.Value c).1 k))) (all_behind (optional_nodes Y.0) (exp_nodes true E.0) g) in (
          waits_keeps (numbering.has_no_type Y.0 && never E.0) Q.0 c2 (pattern_self Q.0 hq) (between_keeps d.declared Q.1.declared E.1 x.0),
          asks.both P (typed_before_only Y.0 E.0 (all_front (optional_nodes Y.0) (exp_nodes true E.0) g)) (asks.both P x.1 (initialised_only Q.0 Y.0 E.0 hq)),
        )
    statement_tells f (plain.expression_statement s e b) c k h =
        let d = (a_node s Site.Value c).1 in let E = (of_expression false Site.Value e d).0 in let r = exp_tells f false Site.Value e d k h in
        (r.0, asks.both P r.1 (asks.evaluated_only P b (node_of E) (never E) (exp_self E h)))

  -- ---- functions

  parameters_tell : (xs : List plain.Parameter) (c : Cursor) → Kept c → All (parameters_nodes (of_parameters xs c).0) → Kept (of_parameters xs c).1 × Only (rules.of_parameters (of_parameters xs c).0)
  parameters_tell [] c k h = (k, asks.none P)
  parameters_tell (x ∷ xs) c k h =
      let d = (numbering.declare (record { mutable = x.mutable; stage = Stage.Known }) c).1 in let T = of_type x.typ d in let R = (of_parameters xs T.1).0 in
      let kd = keep_append c.variables (record { mutable = x.mutable; stage = Stage.Known } ∷ []) k ((λ p s e. absurd (cc)), tt) in
      let r = parameters_tell xs T.1 (type_keeps x.typ d kd) (all_behind (type_nodes T.0) (parameters_nodes R) h) in
      (r.0, asks.both P (asks.both P (whole_type_only T.0 (all_front (type_nodes T.0) (parameters_nodes R) h)) (asks.variable_only P (written_node T.0) c.declared op.Same (type_of (written_node T.0) ∷ []) [])) r.1)

  result_only : (y : Option Written) → All (optional_nodes y) → Only (rules.of_result y)
  result_only None h = asks.none P
  result_only (Some t) h = whole_type_only t h

  waiting_only : (ns : List Node) → Only (rules.of_never_given ns)
  waiting_only [] = asks.none P
  waiting_only (n ∷ ns) = asks.both P (asks.never_met P n Rule.Unclear) (waiting_only ns)

  entry_if_keeps : (b : Bool) (c : Cursor) → Kept c → Kept (numbering.entry_if b c).1
  entry_if_keeps true c k = entry_keeps c k
  entry_if_keeps false c k = k

  function_only : (i : ℕ) (s : Span) (f : Function) (ns : List NodeNames) → All (nodes true (function_named i s f ns)) → Only (rules.of_function (function_named i s f ns))
  function_only i s f ns h =
      let c0 = (a_node s Site.Value (numbering.begins ns)).1 in let c1 = (numbering.entry_if (numbering.has_entry f) c0).1 in
      let R = of_parameters f.params c1 in let Y = of_optional_type f.result R.1 in let B = (numbering.of_body Site.Expects f.body Y.1).0 in
      let r2 = optional_nodes Y.0 ++ body_nodes true B in let g = all_behind (parameters_nodes R.0) r2 h in
      let x = parameters_tell f.params c1 (entry_if_keeps (numbering.has_entry f) c0 tt) (all_front (parameters_nodes R.0) r2 h) in
      let y = body_tells i Site.Expects f.body Y.1 (optional_type_keeps f.result R.1 x.0) (all_behind (optional_nodes Y.0) (body_nodes true B) g) in
      asks.both P x.1 (asks.both P (result_only Y.0 (all_front (optional_nodes Y.0) (body_nodes true B) g)) (asks.both P (asks.expects_only P (body_node B) (op.Result i) []) (asks.both P y.1 (waiting_only (function_named i s f ns).never_given))))

-- what the demands tell of nodes
pub told_has_type : (i : ℕ) (s : Span) (f : Function) (ns : List NodeNames) (n : ℕ) → Told (demands (function_named i s f ns)) (subject.Node n) → IsIn n (nodes true (function_named i s f ns))
told_has_type i s f ns n t = ⊎_elim (λ a. absurd a) (λ p. p) ((function_only (λ m. IsIn m (nodes true (function_named i s f ns))) i s f ns (λ m i. i)).told [] n t)

-- and so of the tables
type_told : (K : KnownItems) (F : named.Function) (A : Assignment) (x : Subject) (o : Option Ty) (y : Ty) → TypeIs K F A x o → o ≡ Some y → Told (demands F) x
type_told K F A x None y h e = absurd (cc)
type_told K F A x (Some z) y h e = h.0

pub tables_have_types : (G : Given) (i : ℕ) (s : Span) (f : Function) (ns : List NodeNames) (vars : List Span) (t : TypedFn) → FunctionTyped G i s f ns vars t
    → (n : ℕ) (y : Ty) → type_at t (subject.Node n) ≡ Some y → IsIn n (nodes true (function_named i s f ns))
tables_have_types G i s f ns vars t h n y e =
    told_has_type i s f ns n (type_told (known_in G) (function_named i s f ns) h.types (subject.Node n) (type_at t (subject.Node n)) y (h.found (subject.Node n)) e)
