-- A run in its function whose kinds and types are written out. The way to its block leads there to a block with no more statements, or
-- to none, since a type that is written out is one more child of its `let`. So where the run doesn't go past them, it has no tail.
use Rattle.std.proofs.Common.{◌≡◌, ℕ, zero, suc, ◌≤◌, ◌<◌, nat_le, Bool, true, false, List, [], ◌∷◌, ◌++◌, length, map, drop, Option, Some, None, option_map, slice_get, refl, sym, ap, ◌∙◌, subst, arith, eqb-true}
use Rattle.std.specs.Prelude.{◌==◌}
use Rattle.std.proofs.lemmas.Bool.{leb-false}
use Rattle.std.proofs.lemmas.Option.{slice_get-map}
use Rattle.rx_core.specs.declared.types.Span.{Span}
use Rattle.rx_tree.specs.Plain as plain
use Rattle.rx_tree.specs.Plain.{TypeTree, TypeTrees, PatternTree, PatternTrees, FieldPatterns, Expression, Expressions, OptionalExpression, OptionalExpressions, FieldExpressions, Arms, Body, Statement, Statements, Parameter, Function, ItemTree, ProgramTree}
use Rattle.rx_tree.specs.Lists.{listed, statements, nth}
use Rattle.rx_tree.specs.Positions.{NodeTree, an_item, a_type, a_block, a_statement, an_expression, a_pattern, type_nodes, optional_type_nodes, pattern_nodes, field_pattern_nodes, expression_nodes, optional_nodes, argument_nodes, field_nodes, arm_nodes, statement_nodes, parameter_nodes, children, descend}
use Rattle.rx_lex.specs.Tok.{Tok}
use Rattle.rx_resolve_names.specs.Meant.{Around, a_loop, a_test}
use Rattle.rx_typed_runs.specs.declared.runs.RunPos.{RunPos}
use Rattle.rx_select.specs.RunOf.{RunOf}
use Rattle.rx_hoist_extraction.specs.Names.{Names, bound, bound_by, behind_all}
use Rattle.rx_hoist_extraction.specs.Run.{Run, as_block, run_block, goes_past}
use Rattle.rx_hoist_extraction.specs.Plan.{Pins}
use Rattle.rx_hoist_extraction.specs.Changed.{Changes, changed, changed_all, changed_optional, changed_arguments, changed_fields, changed_arms, changed_body, changed_statement, changed_statements}
use Rattle.rx_hoist_extraction.specs.Pinned.{pinning, pinned, pinned_function, pinned_type}

-- ---- ways

-- where a way leads to a block from the first, and from the second too, that has no more statements
abbrev Leads : Option NodeTree → Option NodeTree → List ℕ → Type 0
Leads n m ks = (b d : Body) → descend n ks ≡ Some (a_block b) → descend m ks ≡ Some (a_block d) → length (statements d) ≤ length (statements b)

record Fits (n m : NodeTree) : Type 0 where
  leads : (ks : List ℕ) → Leads (Some n) (Some m) ks

record FitsAll (ns ms : List NodeTree) : Type 0 where
  leads : (k : ℕ) (ks : List ℕ) → Leads (slice_get ns k) (slice_get ms k) ks

none_fits : (ms : List NodeTree) → FitsAll [] ms
none_fits ms = record { leads = λ k ks b d e f. absurd (cc) }

and_leads : (n m : NodeTree) (ns ms : List NodeTree) → Fits n m → FitsAll ns ms → (k : ℕ) (ks : List ℕ) → Leads (slice_get (n ∷ ns) k) (slice_get (m ∷ ms) k) ks
and_leads n m ns ms g h zero ks = g.leads ks
and_leads n m ns ms g h (suc k) ks = h.leads k ks

and_fits : (n m : NodeTree) (ns ms : List NodeTree) → Fits n m → FitsAll ns ms → FitsAll (n ∷ ns) (m ∷ ms)
and_fits n m ns ms g h = record { leads = and_leads n m ns ms g h }

one_fits : (n m : NodeTree) → Fits n m → FitsAll (n ∷ []) (m ∷ [])
one_fits n m g = and_fits n m [] [] g (none_fits [])

expression_fits : (x y : Expression) → FitsAll (children (an_expression x)) (children (an_expression y)) → Fits (an_expression x) (an_expression y)
expression_fits x y h = record { leads = by }
  where
    by : (ks : List ℕ) → Leads (Some (an_expression x)) (Some (an_expression y)) ks
    by [] b d e f = absurd (cc)
    by (k ∷ ks) b d e f = h.leads k ks b d e f

statement_fits : (x y : Statement) → FitsAll (children (a_statement x)) (children (a_statement y)) → Fits (a_statement x) (a_statement y)
statement_fits x y h = record { leads = by }
  where
    by : (ks : List ℕ) → Leads (Some (a_statement x)) (Some (a_statement y)) ks
    by [] b d e f = absurd (cc)
    by (k ∷ ks) b d e f = h.leads k ks b d e f

same_block : (b d : Body) → Some (a_block b) ≡ Some (a_block d) → b ≡ d
same_block b d e = cc

block_fits : (x y : Body) → length (statements y) ≤ length (statements x) → FitsAll (children (a_block x)) (children (a_block y)) → Fits (a_block x) (a_block y)
block_fits x y l h = record { leads = by }
  where
    by : (ks : List ℕ) → Leads (Some (a_block x)) (Some (a_block y)) ks
    by [] b d e f = subst (λ (z : Body). length (statements d) ≤ length (statements z)) (same_block x b e) (subst (λ (z : Body). length (statements z) ≤ length (statements x)) (same_block y d f) l)
    by (k ∷ ks) b d e f = h.leads k ks b d e f

-- no block stands in a type or a pattern
abbrev Bare : NodeTree → Type 0
Bare n = (ks : List ℕ) (b : Body) → descend (Some n) ks ≡ Some (a_block b) → ⊥

abbrev AllBare : List NodeTree → Type 0
AllBare ns = (k : ℕ) (ks : List ℕ) (b : Body) → descend (slice_get ns k) ks ≡ Some (a_block b) → ⊥

none_bare : AllBare []
none_bare k ks b e = cc

and_bare : (n : NodeTree) (ns : List NodeTree) → Bare n → AllBare ns → AllBare (n ∷ ns)
and_bare n ns g h zero ks b e = g ks b e
and_bare n ns g h (suc k) ks b e = h k ks b e

type_bare_by : (y : TypeTree) → AllBare (children (a_type y)) → Bare (a_type y)
type_bare_by y h [] b e = cc
type_bare_by y h (k ∷ ks) b e = h k ks b e

mutual
  type_bare : (y : TypeTree) → Bare (a_type y)
  type_bare (plain.kind_type s k) = type_bare_by (plain.kind_type s k) none_bare
  type_bare (plain.bool_type s) = type_bare_by (plain.bool_type s) none_bare
  type_bare (plain.tuple_type s ts) = type_bare_by (plain.tuple_type s ts) (types_bare ts)
  type_bare (plain.ref_type s l m y) = type_bare_by (plain.ref_type s l m y) (and_bare (a_type y) [] (type_bare y) none_bare)
  type_bare (plain.named_type s x ls) = type_bare_by (plain.named_type s x ls) none_bare

  types_bare : (ys : TypeTrees) → AllBare (type_nodes ys)
  types_bare plain.no_type = none_bare
  types_bare (plain.type_and y ys) = and_bare (a_type y) (type_nodes ys) (type_bare y) (types_bare ys)

pattern_bare_by : (p : PatternTree) → AllBare (children (a_pattern p)) → Bare (a_pattern p)
pattern_bare_by p h [] b e = cc
pattern_bare_by p h (k ∷ ks) b e = h k ks b e

mutual
  pattern_bare : (p : PatternTree) → Bare (a_pattern p)
  pattern_bare (plain.wild s) = pattern_bare_by (plain.wild s) none_bare
  pattern_bare (plain.bind s n m) = pattern_bare_by (plain.bind s n m) none_bare
  pattern_bare (plain.int_pattern s g v k) = pattern_bare_by (plain.int_pattern s g v k) none_bare
  pattern_bare (plain.bool_pattern s b) = pattern_bare_by (plain.bool_pattern s b) none_bare
  pattern_bare (plain.tuple_pattern s ps) = pattern_bare_by (plain.tuple_pattern s ps) (patterns_bare ps)
  pattern_bare (plain.variant_pattern s a v ps) = pattern_bare_by (plain.variant_pattern s a v ps) (patterns_bare ps)
  pattern_bare (plain.make_pattern s n fs) = pattern_bare_by (plain.make_pattern s n fs) (field_patterns_bare fs)

  patterns_bare : (ps : PatternTrees) → AllBare (pattern_nodes ps)
  patterns_bare plain.no_pattern = none_bare
  patterns_bare (plain.pattern_and p ps) = and_bare (a_pattern p) (pattern_nodes ps) (pattern_bare p) (patterns_bare ps)

  field_patterns_bare : (fs : FieldPatterns) → AllBare (field_pattern_nodes fs)
  field_patterns_bare plain.no_field_pattern = none_bare
  field_patterns_bare (plain.field_pattern_and n p fs) = and_bare (a_pattern p) (field_pattern_nodes fs) (pattern_bare p) (field_patterns_bare fs)

first_bare : (n m : NodeTree) → Bare n → Fits n m
first_bare n m g = record { leads = λ ks b d e f. absurd (g ks b e) }

second_bare : (n m : NodeTree) → Bare m → Fits n m
second_bare n m g = record { leads = λ ks b d e f. absurd (g ks d f) }

-- ---- what is written out

module _ (P : ProgramTree) (sp : Span) (pins : Pins) where
  abbrev C : Changes
  C = pinning P sp pins

  statements_same : (own : Names) (ls : List Around) (ss : Statements) → length (listed (changed_statements C own ls ss)) ≡ length (listed ss)
  statements_same own ls plain.no_statement = refl
  statements_same own ls (plain.statement_and a ss) = ap suc (statements_same (bound_by a ++ own) ls ss)

  -- an initialiser behind a type that is new
  shifted : (o : OptionalExpression) (ms : List NodeTree) (y : TypeTree) → FitsAll (optional_nodes o) (a_type y ∷ ms)
  shifted plain.absent ms y = none_fits _
  shifted (plain.present e) ms y = record { leads = by }
    where
      by : (k : ℕ) (ks : List ℕ) → Leads (slice_get (optional_nodes (plain.present e)) k) (slice_get (a_type y ∷ ms) k) ks
      by zero ks b d q f = absurd (type_bare y ks d f)
      by (suc k) ks b d q f = absurd (cc)

  may_shift : (o : OptionalExpression) (ms : List NodeTree) (u : Option TypeTree) → FitsAll (optional_nodes o) ms → FitsAll (optional_nodes o) (optional_type_nodes u ++ ms)
  may_shift o ms None h = h
  may_shift o ms (Some y) h = shifted o ms y

  let_fits : (p : PatternTree) (t : Option TypeTree) (o : OptionalExpression) (ms : List NodeTree) → FitsAll (optional_nodes o) ms → FitsAll (optional_type_nodes t ++ optional_nodes o) (optional_type_nodes (pinned_type P sp pins p t) ++ ms)
  let_fits p None o ms h = may_shift o ms (pinned_type P sp pins p None) h
  let_fits p (Some y) o ms h = and_fits (a_type y) (a_type y) (optional_nodes o) ms (first_bare (a_type y) (a_type y) (type_bare y)) h

  mutual
    fits : (own : Names) (ls : List Around) (e : Expression) → Fits (an_expression e) (an_expression (changed C own ls e))
    fits own ls (plain.int s v k) = expression_fits _ _ (none_fits _)
    fits own ls (plain.bool s b) = expression_fits _ _ (none_fits _)
    fits own ls (plain.tuple s es) = expression_fits _ _ (all_fit own ls es)
    fits own ls (plain.var s x) = expression_fits _ _ (none_fits _)
    fits own ls (plain.field s e x) = expression_fits _ _ (one_fits _ _ (fits own ls e))
    fits own ls (plain.part s e i) = expression_fits _ _ (one_fits _ _ (fits own ls e))
    fits own ls (plain.deref s e) = expression_fits _ _ (one_fits _ _ (fits own ls e))
    fits own ls (plain.negate s e) = expression_fits _ _ (one_fits _ _ (fits own ls e))
    fits own ls (plain.invert s e) = expression_fits _ _ (one_fits _ _ (fits own ls e))
    fits own ls (plain.borrow s m e) = expression_fits _ _ (one_fits _ _ (fits own ls e))
    fits own ls (plain.binary s o a b) = expression_fits _ _ (and_fits _ _ _ _ (fits own ls a) (one_fits _ _ (fits own ls b)))
    fits own ls (plain.assign s a b) = expression_fits _ _ (and_fits _ _ _ _ (fits own ls a) (one_fits _ _ (fits own ls b)))
    fits own ls (plain.update s o a b) = expression_fits _ _ (and_fits _ _ _ _ (fits own ls a) (one_fits _ _ (fits own ls b)))
    fits own ls (plain.call s f es) = expression_fits _ _ (all_fit own ls es)
    fits own ls (plain.next_input s) = expression_fits _ _ (none_fits _)
    fits own ls (plain.variant s a v es) = expression_fits _ _ (arguments_fit own ls es)
    fits own ls (plain.make s x fs) = expression_fits _ _ (fields_fit own ls fs)
    fits own ls (plain.print s e) = expression_fits _ _ (one_fits _ _ (fits own ls e))
    fits own ls (plain.block s b) = expression_fits _ _ (one_fits _ _ (body_fits own ls b))
    fits own ls (plain.if s c b o) = expression_fits _ _ (and_fits _ _ _ _ (fits own ls c) (and_fits _ _ _ _ (body_fits own ls b) (optional_fits own ls o)))
    fits own ls (plain.if_let s p e b o) =
        expression_fits _ _ (and_fits _ _ _ _ (first_bare _ _ (pattern_bare p)) (and_fits _ _ _ _ (fits own ls e) (and_fits _ _ _ _ (body_fits (bound p ++ own) ls b) (optional_fits own ls o))))
    fits own ls (plain.match s e l) = expression_fits _ _ (and_fits _ _ _ _ (fits own ls e) (arms_fit own ls l))
    fits own ls (plain.loop s l b) = expression_fits _ _ (one_fits _ _ (body_fits own (a_loop l 0 ∷ ls) b))
    fits own ls (plain.while s l c b) = expression_fits _ _ (and_fits _ _ _ _ (fits own (a_test ∷ a_loop l 0 ∷ ls) c) (one_fits _ _ (body_fits own (a_loop l 0 ∷ ls) b)))
    fits own ls (plain.while_let s l p e b) =
        expression_fits _ _ (and_fits _ _ _ _ (first_bare _ _ (pattern_bare p)) (and_fits _ _ _ _ (fits own (a_test ∷ a_loop l 0 ∷ ls) e) (one_fits _ _ (body_fits (bound p ++ own) (a_loop l 0 ∷ ls) b))))
    fits own ls (plain.break s l) = expression_fits _ _ (none_fits _)
    fits own ls (plain.continue s l) = expression_fits _ _ (none_fits _)
    fits own ls (plain.return s o) = expression_fits _ _ (optional_fits own ls o)

    all_fit : (own : Names) (ls : List Around) (es : Expressions) → FitsAll (expression_nodes es) (expression_nodes (changed_all C own ls es))
    all_fit own ls plain.no_expression = none_fits _
    all_fit own ls (plain.expression_and e es) = and_fits _ _ _ _ (fits own ls e) (all_fit own ls es)

    optional_fits : (own : Names) (ls : List Around) (o : OptionalExpression) → FitsAll (optional_nodes o) (optional_nodes (changed_optional C own ls o))
    optional_fits own ls plain.absent = none_fits _
    optional_fits own ls (plain.present e) = one_fits _ _ (fits own ls e)

    arguments_fit : (own : Names) (ls : List Around) (o : OptionalExpressions) → FitsAll (argument_nodes o) (argument_nodes (changed_arguments C own ls o))
    arguments_fit own ls plain.no_list = none_fits _
    arguments_fit own ls (plain.a_list es) = all_fit own ls es

    fields_fit : (own : Names) (ls : List Around) (fs : FieldExpressions) → FitsAll (field_nodes fs) (field_nodes (changed_fields C own ls fs))
    fields_fit own ls plain.no_field = none_fits _
    fields_fit own ls (plain.field_and x e fs) = and_fits _ _ _ _ (fits own ls e) (fields_fit own ls fs)

    arms_fit : (own : Names) (ls : List Around) (l : Arms) → FitsAll (arm_nodes l) (arm_nodes (changed_arms C own ls l))
    arms_fit own ls plain.no_arm = none_fits _
    arms_fit own ls (plain.arm_and p e rest) = and_fits _ _ _ _ (first_bare _ _ (pattern_bare p)) (and_fits _ _ _ _ (fits (bound p ++ own) ls e) (arms_fit own ls rest))

    body_fits : (own : Names) (ls : List Around) (b : Body) → Fits (a_block b) (a_block (changed_body C own ls b))
    body_fits own ls (plain.body s ss o) =
        let e = statements_same own ls ss in
        block_fits (plain.body s ss o) _ (omega (arith, e)) (statements_fit own ls ss (optional_nodes o) (optional_nodes (changed_optional C (behind_all own ss) ls o)) (optional_fits (behind_all own ss) ls o))

    statements_fit : (own : Names) (ls : List Around) (ss : Statements) (ns ms : List NodeTree) → FitsAll ns ms → FitsAll (statement_nodes ss ++ ns) (statement_nodes (changed_statements C own ls ss) ++ ms)
    statements_fit own ls plain.no_statement ns ms h = h
    statements_fit own ls (plain.statement_and a ss) ns ms h = and_fits _ _ _ _ (one_statement own ls a) (statements_fit (bound_by a ++ own) ls ss ns ms h)

    one_statement : (own : Names) (ls : List Around) (a : Statement) → Fits (a_statement a) (a_statement (changed_statement C own ls a))
    one_statement own ls (plain.let_statement s p t o) =
        statement_fits _ _ (and_fits _ _ _ _ (first_bare _ _ (pattern_bare p)) (let_fits p t o (optional_nodes (changed_optional C own ls o)) (optional_fits own ls o)))
    one_statement own ls (plain.expression_statement s e b) = statement_fits _ _ (one_fits _ _ (fits own ls e))

-- ---- functions

itself_fits : (b : Body) → Fits (a_block b) (a_block b)
itself_fits b = record { leads = λ ks x y e f. let s = block_same x y (sym e ∙ f) in subst (λ (z : Body). length (statements z) ≤ length (statements x)) s (omega arith) }
  where
    block_same : (x y : Body) → Some (a_block x) ≡ Some (a_block y) → x ≡ y
    block_same x y e = cc

pinned_fits : (P : ProgramTree) (sp : Span) (pins : Option Pins) (b : Body) → Fits (a_block b) (a_block (pinned P sp pins b))
pinned_fits P sp None b = itself_fits b
pinned_fits P sp (Some pins) b = body_fits P sp pins [] [] b

-- where the way leads to no block, there are no statements
block_few : (n : Option NodeTree) (k : ℕ) → ((d : Body) → n ≡ Some (a_block d) → length (statements d) ≤ k) → length (statements (as_block n)) ≤ k
block_few None k f = omega arith
block_few (Some (an_item i)) k f = omega arith
block_few (Some (a_type y)) k f = omega arith
block_few (Some (a_block d)) k f = f d refl
block_few (Some (a_statement a)) k f = omega arith
block_few (Some (an_expression e)) k f = omega arith
block_few (Some (a_pattern p)) k f = omega arith

-- the way from the item leads through the function's body
bare_then : (ns : List NodeTree) (m : NodeTree) → AllBare ns → (k : ℕ) (ks : List ℕ) (b : Body) → descend (slice_get (ns ++ (m ∷ [])) k) ks ≡ Some (a_block b) → descend (Some m) ks ≡ Some (a_block b)
bare_then [] m h zero ks b e = e
bare_then [] m h (suc k) ks b e = absurd (cc)
bare_then (n ∷ ns) m h zero ks b e = absurd (h 0 ks b e)
bare_then (n ∷ ns) m h (suc k) ks b e = bare_then ns m (λ j. h (suc j)) k ks b e

both_bare : (ns ms : List NodeTree) → AllBare ns → AllBare ms → AllBare (ns ++ ms)
both_bare [] ms g h = h
both_bare (n ∷ ns) ms g h = and_bare n (ns ++ ms) (g 0) (both_bare ns ms (λ j. g (suc j)) h)

parameters_bare : (xs : List Parameter) → AllBare (parameter_nodes xs)
parameters_bare [] = none_bare
parameters_bare (x ∷ xs) = and_bare (a_type x.typ) (parameter_nodes xs) (type_bare x.typ) (parameters_bare xs)

result_bare : (t : Option TypeTree) → AllBare (optional_type_nodes t)
result_bare None = none_bare
result_bare (Some y) = and_bare (a_type y) [] (type_bare y) none_bare

row : (xs ys zs : List NodeTree) → (xs ++ ys) ++ zs ≡ xs ++ (ys ++ zs)
row [] ys zs = refl
row (x ∷ xs) ys zs = ap (λ (l : List NodeTree). x ∷ l) (row xs ys zs)

in_body : (s : Span) (f : Function) (path : List ℕ) (b : Body) → descend (Some (an_item (plain.function_item s f))) path ≡ Some (a_block b) → descend (Some (a_block f.body)) (drop 1 path) ≡ Some (a_block b)
in_body s f [] b e = absurd (cc)
in_body s f (k ∷ ks) b e =
    bare_then (parameter_nodes f.params ++ optional_type_nodes f.result) (a_block f.body) (both_bare (parameter_nodes f.params) (optional_type_nodes f.result) (parameters_bare f.params) (result_bare f.result)) k ks b
    (ap (λ (l : List NodeTree). descend (slice_get l k) ks) (row (parameter_nodes f.params) (optional_type_nodes f.result) (a_block f.body ∷ [])) ∙ e)

found : (p : ProgramTree) (n : ℕ) → slice_get p n ≡ nth p n
found [] n = refl
found (i ∷ is) zero = refl
found (i ∷ is) (suc n) = found is n

-- a run that goes past no statement of its block, as it is pinned, has no tail
no_tail : (r l : ℕ) (t : Bool) → nat_le l r ≡ false → (m : ℕ) → l ≤ m → t ≡ (r == m) → t ≡ false
no_tail r l false g m h e = refl
no_tail r l true g m h e = let a : r ≡ m = eqb-true r m (sym e) in let b : r < l = leb-false l r g in absurd (omega (arith, a, b, h))

pub tail_goes_past : (P : ProgramTree) (bytes : ℕ) (ts : List Tok) (start end : ℕ) (r : RunPos) → RunOf bytes ts P start end r → (s : Span) (f : Function) → nth P r.function ≡ Some (plain.function_item s f)
    → (sp : Span) (pins : Option Pins) (R : Run) → R.way ≡ drop 1 r.block.path → R.last ≡ r.last → goes_past R (statements (run_block R (pinned_function P sp pins f))) ≡ false → r.tail ≡ false
tail_goes_past P bytes ts start end r run s f at sp pins R way last g =
    let item : slice_get (map an_item P) r.function ≡ Some (an_item (plain.function_item s f)) = slice_get-map an_item P r.function ∙ ap (option_map an_item) (found P r.function ∙ at) in
    let here : descend (Some (a_block f.body)) (drop 1 r.block.path) ≡ Some (a_block run.block) = in_body s f r.block.path run.block (ap (λ (o : Option NodeTree). descend o r.block.path) (sym item) ∙ run.at) in
    let q = pinned P sp pins f.body in
    let few : length (statements (as_block (descend (Some (a_block q)) (drop 1 r.block.path)))) ≤ length (statements run.block) =
    block_few (descend (Some (a_block q)) (drop 1 r.block.path)) (length (statements run.block)) (λ d e. (pinned_fits P sp pins f.body).leads (drop 1 r.block.path) run.block d here e) in
    let here2 : nat_le (length (statements (as_block (descend (Some (a_block q)) (drop 1 r.block.path))))) r.last ≡ false =
    ap (λ (k : ℕ). nat_le (length (statements (as_block (descend (Some (a_block q)) (drop 1 r.block.path))))) k) (sym last) ∙ (ap (λ (w : List ℕ). nat_le (length (statements (as_block (descend (Some (a_block q)) w)))) R.last) (sym way) ∙ g) in
    no_tail r.last (length (statements (as_block (descend (Some (a_block q)) (drop 1 r.block.path))))) r.tail here2 (length (statements run.block)) few run.tail
