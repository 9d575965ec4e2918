-- Statements, and the variables that they declare.
use Rattle.std.proofs.Common.{◌≡◌, ℕ, zero, suc, ◌+◌, ◌-◌, ◌<◌, Bool, true, false, List, [], ◌∷◌, ◌++◌, length, length-append, append_assoc, Option, Some, None, option_map, arith, refl, ap, sym, ◌∙◌}
use Rattle.rx_tree.specs.declared.tree.TypeText.{TypeText}
use Rattle.rx_tree.specs.Plain as plain
use Rattle.rx_tree.specs.Plain.{PatternTree, PatternTrees, FieldPatterns}
use Rattle.rx_tree.specs.PlainOf.{plain-TypeText}
use Rattle.rx_resolve_names.specs.declared.resolved.NodeNames.{NodeNames}
use Rattle.rx_typed.specs.declared.nodes.Site.{Site}
use Rattle.rx_typed.specs.Named as named
use Rattle.rx_typed.specs.Named.{Pattern}
use Rattle.rx_typed.specs.Naming.{Cursor, taken, an_entry, a_node, of_pattern, of_patterns, of_field_patterns, of_optional_type, initialiser_site, has_no_type, waits_if}
use Rattle.rx_typed.specs.Elaborated.{variables, variables_in, variables_in_fields}
use Rattle.rx_typed.specs.Tree as tree
use Rattle.rx_typed.specs.declared.tree.Expr.{Expr}
use Rattle.rx_typed.specs.declared.tree.Pattern.{Pattern as PatternOf}
use Rattle.rx_typed.specs.declared.tree.Matched.{Matched}
use Rattle.rx_typed.specs.declared.tree.Stmt.TheVariants as stmt
use Rattle.rx_typed.specs.PlainTree.{plain-Stmt, plain-Expr, plain-Pattern, plain-Matched, stmt_runs, stmt_declares, stmt_lets}
use Rattle.rx_typeck_elaborate_parts.specs.Declaring.{declares_of}
use Rattle.rx_typeck_elaborate_parts.specs.Telling.{initialiser_site_of, has_no_type_of, waiting_if, numbers_from}

-- ---- statements as what they stand round

pub runs_is : (e : Expr) → plain-Stmt (stmt.Runs e) ≡ (λ rest. tree.runs (plain-Expr e) rest)
runs_is e = λ i rest. stmt_runs e rest i

pub declares_is : (n : ℕ) (xs : List ℕ) → plain-Stmt (stmt.Declares n xs) ≡ (λ rest. tree.declares n xs rest)
declares_is n xs = λ i rest. stmt_declares n xs rest i

pub lets_is : (n : ℕ) (p : PatternOf) (s : Matched) → plain-Stmt (stmt.Lets n p s) ≡ (λ rest. tree.lets n (plain-Pattern p) (plain-Matched s) rest)
lets_is n p s = λ i rest. stmt_lets n p s rest i

-- ---- written types

pub initialiser_site_is : (y : Option TypeText) (c : Cursor) → initialiser_site (of_optional_type (option_map plain-TypeText y) c).0 ≡ initialiser_site_of y
initialiser_site_is None c = refl
initialiser_site_is (Some t) c = refl

pub has_no_type_is : (y : Option TypeText) (c : Cursor) → has_no_type (of_optional_type (option_map plain-TypeText y) c).0 ≡ has_no_type_of y
has_no_type_is None c = refl
has_no_type_is (Some t) c = refl

pub waiting_is : (b : Bool) (p : Pattern) (c : Cursor) → (waits_if b p c).1 ≡ waiting_if b (declares_of p) c
waiting_is false p c = refl
waiting_is true (named.bind n x m) c = refl
waiting_is true _ c = refl

-- ---- the variables of a pattern have numbers one after the other

pub numbers_end : (i k : ℕ) → k ≡ 0 → numbers_from i k ≡ []
numbers_end i zero h = refl
numbers_end i (suc k) h = absurd cc

pub numbers_next : (i to : ℕ) → i < to → numbers_from i (to - i) ≡ i ∷ numbers_from (i + 1) (to - (i + 1))
numbers_next i to h =
    let left : to - i ≡ suc (to - (i + 1)) = omega arith in
    let next : suc i ≡ i + 1 = omega arith in
    ap (λ k. numbers_from i k) left ∙ ap (λ j. i ∷ numbers_from j (to - (i + 1))) next

pub numbers_step : (all new rest : List ℕ) (i to : ℕ) → i < to → new ≡ all ++ i ∷ [] → all ++ numbers_from i (to - i) ≡ rest
    → new ++ numbers_from (i + 1) (to - (i + 1)) ≡ rest
numbers_step all new rest i to h e is =
    ap (λ l. l ++ numbers_from (i + 1) (to - (i + 1))) e ∙ append_assoc all (i ∷ []) (numbers_from (i + 1) (to - (i + 1)))
    ∙ ap (λ l. all ++ l) (sym (numbers_next i to h)) ∙ is

entry_declared_in : (ns : List NodeNames) (c : Cursor) → (taken ns c).1.declared ≡ c.declared
entry_declared_in [] c = refl
entry_declared_in (x ∷ xs) c = refl

entry_declared : (c : Cursor) → (an_entry c).1.declared ≡ c.declared
entry_declared c = entry_declared_in c.names c

numbers_both : (i j k : ℕ) → numbers_from i (j + k) ≡ numbers_from i j ++ numbers_from (i + j) k
numbers_both i zero k =
    let e : zero + k ≡ k = omega arith in
    let f : i ≡ i + zero = omega arith in
    ap (λ n. numbers_from i n) e ∙ ap (λ j. numbers_from j k) f
numbers_both i (suc j) k =
    let e : suc j + k ≡ suc (j + k) = omega arith in
    let f : suc i + j ≡ i + suc j = omega arith in
    ap (λ n. numbers_from i n) e ∙ ap (λ l. i ∷ l) (numbers_both (suc i) j k ∙ ap (λ x. numbers_from (suc i) j ++ numbers_from x k) f)

-- variables that stand between two cursors
abbrev Between : List ℕ → Cursor → Cursor → Type 0
Between xs c d = (numbers_from c.declared (length xs) ≡ xs) × (d.declared ≡ c.declared + length xs)

between_both : (xs ys : List ℕ) (c d e : Cursor) → Between xs c d → Between ys d e → Between (xs ++ ys) c e
between_both xs ys c d e h k = (
  ap (λ n. numbers_from c.declared n) (length-append xs ys) ∙ numbers_both c.declared (length xs) (length ys)
      ∙ (λ i. h.0 i ++ numbers_from (sym h.1 i) (length ys)) ∙ ap (λ l. xs ++ l) k.0,
  omega (arith, h.1, k.1, length-append xs ys),
)

between_from : (xs : List ℕ) (b c d : Cursor) → c.declared ≡ b.declared → Between xs c d → Between xs b d
between_from xs b c d e h = (ap (λ i. numbers_from i (length xs)) (sym e) ∙ h.0, h.1 ∙ ap (λ i. i + length xs) e)

nothing_between : (c d : Cursor) → d.declared ≡ c.declared → Between [] c d
nothing_between c d e = (refl, omega (arith, e))

mutual
  pattern_between : (p : PatternTree) (c : Cursor) → Between (variables (of_pattern p c).0) c (of_pattern p c).1
  pattern_between (plain.wild s) c = nothing_between c (a_node s Site.Value c).1 refl
  pattern_between (plain.bind s x m) c =
      let n = a_node s Site.Value c in
      let e = entry_declared n.1 in
      (ap (λ i. i ∷ []) (sym e), omega (arith, e))
  pattern_between (plain.int_pattern s g v k) c = nothing_between c (a_node s Site.Value c).1 refl
  pattern_between (plain.bool_pattern s b) c = nothing_between c (a_node s Site.Value c).1 refl
  pattern_between (plain.tuple_pattern s ps) c = patterns_between ps (a_node s Site.Value c).1
  pattern_between (plain.variant_pattern s a v ps) c =
      let n = a_node s Site.Value c in
      between_from (variables_in (of_patterns ps (an_entry n.1).1).0) c (an_entry n.1).1 (of_patterns ps (an_entry n.1).1).1 (entry_declared n.1) (patterns_between ps (an_entry n.1).1)
  pattern_between (plain.make_pattern s x fs) c =
      let n = a_node s Site.Value c in
      between_from (variables_in_fields (of_field_patterns fs (an_entry n.1).1).0) c (an_entry n.1).1 (of_field_patterns fs (an_entry n.1).1).1 (entry_declared n.1) (fields_between fs (an_entry n.1).1)

  patterns_between : (ps : PatternTrees) (c : Cursor) → Between (variables_in (of_patterns ps c).0) c (of_patterns ps c).1
  patterns_between plain.no_pattern c = nothing_between c c refl
  patterns_between (plain.pattern_and p ps) c =
      let q = of_pattern p c in
      let r = of_patterns ps q.1 in
      between_both (variables q.0) (variables_in r.0) c q.1 r.1 (pattern_between p c) (patterns_between ps q.1)

  fields_between : (fs : FieldPatterns) (c : Cursor) → Between (variables_in_fields (of_field_patterns fs c).0) c (of_field_patterns fs c).1
  fields_between plain.no_field_pattern c = nothing_between c c refl
  fields_between (plain.field_pattern_and x p fs) c =
      let q = of_pattern p c in
      let r = of_field_patterns fs q.1 in
      between_both (variables q.0) (variables_in_fields r.0) c q.1 r.1 (pattern_between p c) (fields_between fs q.1)

pub declared_variables : (p : PatternTree) (c : Cursor) → numbers_from c.declared ((of_pattern p c).1.declared - c.declared) ≡ variables (of_pattern p c).0
declared_variables p c =
    let h = pattern_between p c in
    let e : (of_pattern p c).1.declared - c.declared ≡ length (variables (of_pattern p c).0) = omega (arith, h.1) in
    ap (λ k. numbers_from c.declared k) e ∙ h.0

pub ruleset number_rules = (numbers_end, numbers_next)

pub ruleset statement_rules = (runs_is, declares_is, lets_is, initialiser_site_is, has_no_type_is, waiting_is, declared_variables)
