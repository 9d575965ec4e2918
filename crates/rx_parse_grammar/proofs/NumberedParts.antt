-- The numbers of nodes in parts of trees put together, and those of types and patterns that tokens are derived as: no more than the tokens.
use Rattle.std.proofs.Common.{◌≡◌, ℕ, suc, ◌+◌, ◌≤◌, List, [], ◌∷◌, ◌++◌, length, Option, refl, ap, arith, length-append}
use Rattle.rx_tree.specs.declared.tree.Ident.{Ident}
use Rattle.rx_tree.specs.Plain.{TypeTree, PatternTree, Expression}
use Rattle.rx_tree.specs.PlainOf.{types_of, patterns_of, field_patterns_of}
use Rattle.rx_tree.specs.Positions.{NodeTree, a_type, an_expression, a_pattern}
use Rattle.rx_tree.specs.Nodes.{below_type, within_types, below_pattern, within_patterns, within_field_patterns, total, greatest}
use Rattle.rx_tree.specs.Size.{bindings_at, lifetimes_at, loops_at, longest_at, pattern_bindings, expression_loops, longest_of_type, longest_of_pattern, longest_of_expression}
use Rattle.rx_tree.proofs.Inverses.{listed_types_of, listed_patterns_of, listed_field_patterns_of}
use Rattle.rx_tree.proofs.NodesLaws.{total_both, greatest_both}
use Rattle.rx_lex.specs.Tok.{Tok}
use Rattle.rx_parse_grammar.specs.grammar.Words.{IsListOf, no_element, last_element, element}
use Rattle.rx_parse_grammar.specs.grammar.Types as types
use Rattle.rx_parse_grammar.specs.grammar.Types.{IsType, AreTypes, IsLifetimeArgument, anonymous_argument, lifetime_argument}
use Rattle.rx_parse_grammar.specs.grammar.Patterns as patterns
use Rattle.rx_parse_grammar.specs.grammar.Patterns.{IsPattern, ArePatterns, IsFieldPattern, AreFieldPatterns}
use Rattle.rx_parse_grammar.proofs.Reading.{some_length}
use Rattle.rx_parse_grammar.proofs.TypesRead.{type_some}
use Rattle.rx_parse_grammar.proofs.PatternsRead.{pattern_some}

-- ---- no more than a number

pub record Few (n : ℕ) (ns : List NodeTree) : Type 0 where
  pub bindings : total bindings_at ns ≤ n
  pub lifetimes : total lifetimes_at ns ≤ n
  pub loops : total loops_at ns ≤ n
  pub lists : greatest longest_at ns ≤ n

pub none : (n : ℕ) → Few n []
none n = record { bindings = omega arith; lifetimes = omega arith; loops = omega arith; lists = omega arith }

pub weaker : {ns : List NodeTree} (m n : ℕ) → m ≤ n → Few m ns → Few n ns
weaker m n l f =
    let b = f.bindings in
    let t = f.lifetimes in
    let o = f.loops in
    let g = f.lists in
    record { bindings = omega arith; lifetimes = omega arith; loops = omega arith; lists = omega arith }

pub both : {xs ys : List NodeTree} (m k n : ℕ) → m + k ≤ n → Few m xs → Few k ys → Few n (xs ++ ys)
both {xs} {ys} m k n l f h =
    let b = f.bindings in
    let t = f.lifetimes in
    let o = f.loops in
    let g = f.lists in
    let b' = h.bindings in
    let t' = h.lifetimes in
    let o' = h.loops in
    let g' = h.lists in
    record {
      bindings = omega (arith, total_both bindings_at xs ys);
      lifetimes = omega (arith, total_both lifetimes_at xs ys);
      loops = omega (arith, total_both loops_at xs ys);
      lists = omega (arith, greatest_both longest_at xs ys);
    }

pub above : {x : NodeTree} {ns : List NodeTree} (m n : ℕ) → bindings_at x + m ≤ n → lifetimes_at x + m ≤ n
    → loops_at x + m ≤ n → longest_at x ≤ n → Few m ns → Few n (x ∷ ns)
above m n p q r s f =
    let b = f.bindings in
    let t = f.lifetimes in
    let o = f.loops in
    let g = f.lists in
    record { bindings = omega arith; lifetimes = omega arith; loops = omega arith; lists = omega arith }

-- a node of which nothing is counted
pub quiet : {x : NodeTree} {ns : List NodeTree} (m n : ℕ) → m ≤ n → bindings_at x ≡ 0 → lifetimes_at x ≡ 0
    → loops_at x ≡ 0 → longest_at x ≡ 0 → Few m ns → Few n (x ∷ ns)
quiet m n l p q r s f = above m n (omega arith) (omega arith) (omega arith) (omega arith) f

-- an expression that is no loop
pub holding : {x : Expression} {ns : List NodeTree} (m n : ℕ) → m ≤ n → expression_loops x ≡ 0
    → longest_of_expression x ≤ n → Few m ns → Few n (an_expression x ∷ ns)
holding {x} m n l r s f =
    let b : bindings_at (an_expression x) ≡ 0 = refl in
    let t : lifetimes_at (an_expression x) ≡ 0 = refl in
    let o : loops_at (an_expression x) ≡ expression_loops x = refl in
    let g : longest_at (an_expression x) ≡ longest_of_expression x = refl in
    above m n (omega arith) (omega arith) (omega arith) (omega arith) f

pub looping : {x : Expression} {ns : List NodeTree} (m n : ℕ) → suc m ≤ n → expression_loops x ≡ 1
    → longest_of_expression x ≡ 0 → Few m ns → Few n (an_expression x ∷ ns)
looping {x} m n l r s f =
    let b : bindings_at (an_expression x) ≡ 0 = refl in
    let t : lifetimes_at (an_expression x) ≡ 0 = refl in
    let o : loops_at (an_expression x) ≡ expression_loops x = refl in
    let g : longest_at (an_expression x) ≡ longest_of_expression x = refl in
    above m n (omega arith) (omega arith) (omega arith) (omega arith) f

-- ---- lists are no longer than their tokens

pub list_short : {A : Type 0} {E : List Tok → A → ℕ → Type 0}
    → ((ts : List Tok) (x : A) (h : ℕ) → E ts x h → 1 ≤ length ts) → {ts : List Tok} {xs : List A} {h : ℕ}
    → IsListOf E ts xs h → length xs ≤ length ts
list_short some no_element = omega arith
list_short some {ts = ts} (last_element {x = x} {h = h} e) = let z = some ts x h e in omega arith
list_short some (element us vs c x xs m n e s more is) = let z = list_short some more in let w = ap length is in omega
    (arith, length-append us (c ∷ vs))

lifetime_argument_some : (ts : List Tok) (l : Option Ident) (h : ℕ) → IsLifetimeArgument ts l h → 1 ≤ length ts
lifetime_argument_some ts l h (anonymous_argument t s) = omega arith
lifetime_argument_some ts l h (lifetime_argument t s) = omega arith

pub types_short : {ts : List Tok} {ys : List TypeTree} {h : ℕ} → AreTypes ts ys h → length ys ≤ length ts
types_short types.no_type = omega arith
types_short {ts = ts} (types.last_type r) = some_length ts (type_some r)
types_short (types.type_and us vs c y ys m n r s more is) = let z = types_short more in let w = ap length is in omega
    (arith, length-append us (c ∷ vs))

patterns_short : {ts : List Tok} {ys : List PatternTree} {h : ℕ} → ArePatterns ts ys h → length ys ≤ length ts
patterns_short patterns.no_pattern = omega arith
patterns_short {ts = ts} (patterns.last_pattern r) = some_length ts (pattern_some r)
patterns_short (patterns.pattern_and us vs c y ys m n r s more is) = let z = patterns_short more in let w = ap length
    is in omega (arith, length-append us (c ∷ vs))

field_pattern_some : {ts : List Tok} {f : Ident × PatternTree} {h : ℕ} → IsFieldPattern ts f h → 1 ≤ length ts
field_pattern_some (patterns.field n d us y h sn sd r is) = let w = ap length is in omega arith
field_pattern_some (patterns.short_field n sn is) = let w = ap length is in omega arith
field_pattern_some (patterns.short_mutable m n sm sn is) = let w = ap length is in omega arith

field_patterns_short : {ts : List Tok} {fs : List (Ident × PatternTree)} {h : ℕ} → AreFieldPatterns ts fs h
    → length fs ≤ length ts
field_patterns_short patterns.no_field = omega arith
field_patterns_short (patterns.last_field r) = field_pattern_some r
field_patterns_short (patterns.field_and us vs c f fs m n r s more is) = let z = field_patterns_short more in let w =
    ap length is in omega (arith, length-append us (c ∷ vs))

-- ---- types: nothing is counted in them but the longest list

pub record Idle (n : ℕ) (ns : List NodeTree) : Type 0 where
  pub bindings : total bindings_at ns ≡ 0
  pub lifetimes : total lifetimes_at ns ≡ 0
  pub loops : total loops_at ns ≡ 0
  pub lists : greatest longest_at ns ≤ n

pub idle_few : {ns : List NodeTree} (n : ℕ) → Idle n ns → Few n ns
idle_few n f =
    let b = f.bindings in
    let t = f.lifetimes in
    let o = f.loops in
    let g = f.lists in
    record { bindings = omega arith; lifetimes = omega arith; loops = omega arith; lists = omega arith }

pub no_idle : (n : ℕ) → Idle n []
no_idle n = record { bindings = refl; lifetimes = refl; loops = refl; lists = omega arith }

pub idle_weaker : {ns : List NodeTree} (m n : ℕ) → m ≤ n → Idle m ns → Idle n ns
idle_weaker m n l f = let g = f.lists in record
    { bindings = f.bindings; lifetimes = f.lifetimes; loops = f.loops; lists = omega arith }

pub idle_both : {xs ys : List NodeTree} (m k n : ℕ) → m + k ≤ n → Idle m xs → Idle k ys → Idle n (xs ++ ys)
idle_both {xs} {ys} m k n l f h =
    let b = f.bindings in
    let t = f.lifetimes in
    let o = f.loops in
    let g = f.lists in
    let b' = h.bindings in
    let t' = h.lifetimes in
    let o' = h.loops in
    let g' = h.lists in
    record {
      bindings = omega (arith, total_both bindings_at xs ys);
      lifetimes = omega (arith, total_both lifetimes_at xs ys);
      loops = omega (arith, total_both loops_at xs ys);
      lists = omega (arith, greatest_both longest_at xs ys);
    }

a_type_idle : {t : TypeTree} {ns : List NodeTree} (m n : ℕ) → m ≤ n → longest_of_type t ≤ n → Idle m ns
    → Idle n (a_type t ∷ ns)
a_type_idle {t} m n l s f =
    let b = f.bindings in
    let k = f.lifetimes in
    let o = f.loops in
    let g = f.lists in
    let e : longest_at (a_type t) ≡ longest_of_type t = refl in
    record { bindings = omega arith; lifetimes = omega arith; loops = omega arith; lists = omega arith }

mutual
  pub type_idle : {ts : List Tok} {y : TypeTree} {h : ℕ} → IsType ts y h → Idle (length ts) (a_type y ∷ below_type y)
  type_idle {ts = ts} (types.kind t k s is) = a_type_idle 0 (length ts) (omega arith) (omega arith) (no_idle 0)
  type_idle {ts = ts} (types.bool t s is) = a_type_idle 0 (length ts) (omega arith) (omega arith) (no_idle 0)
  type_idle {ts = ts} (types.named t s is) = a_type_idle 0 (length ts) (omega arith) (omega arith) (no_idle 0)
  type_idle {ts = ts} (types.named_with t o c us l ls st so sc r is) =
      let z = list_short lifetime_argument_some r in let w = ap length is in
      a_type_idle 0 (length ts) (omega arith) (omega (arith, length-append us (c ∷ []))) (no_idle 0)
  type_idle {ts = ts} (types.reference t ls ms us l m y h st sl sm r is) =
      let w = ap length is in a_type_idle (length us) (length ts)
      (omega (arith, length-append ls (ms ++ us), length-append ms us)) (omega arith) (type_idle r)
  type_idle {ts = ts} (types.two_references t us y h st r is) = let w = ap length is in a_type_idle (suc (length us))
      (length ts) (omega arith) (omega arith) (type_idle r)
  type_idle {ts = ts} (types.unit o c so sc is) = a_type_idle 0 (length ts) (omega arith) (omega arith) (no_idle 0)
  type_idle {ts = ts} (types.parentheses o c us y h so sc r is) = let w = ap length is in idle_weaker (length us)
      (length ts) (omega (arith, length-append us (c ∷ []))) (type_idle r)
  type_idle {ts = ts} (types.tuple o m c us vs y ys h i so sm sc r more is) =
      let w = ap length is in
      let z = types_short more in
      let e = ap length (listed_types_of ys) in
      a_type_idle (length us + length vs) (length ts)
      (omega (arith, length-append us (m ∷ (vs ++ (c ∷ []))), length-append vs (c ∷ [])))
      (omega (arith, length-append us (m ∷ (vs ++ (c ∷ []))), length-append vs (c ∷ [])))
      (idle_both (length us) (length vs) (length us + length vs) (omega arith) (type_idle r) (types_idle more))

  pub types_idle : {ts : List Tok} {ys : List TypeTree} {h : ℕ} → AreTypes ts ys h
      → Idle (length ts) (within_types (types_of ys))
  types_idle types.no_type = no_idle 0
  types_idle {ts = ts} (types.last_type r) = idle_both (length ts) 0 (length ts) (omega arith) (type_idle r) (no_idle 0)
  types_idle {ts = ts} (types.type_and us vs c y ys m n r s more is) =
      let w = ap length is in idle_both (length us) (length vs) (length ts) (omega (arith, length-append us (c ∷ vs)))
      (type_idle r) (types_idle more)

-- ---- patterns

a_pattern_few : {p : PatternTree} {ns : List NodeTree} (m n : ℕ) → pattern_bindings p + m ≤ n
    → longest_of_pattern p ≤ n → Few m ns → Few n (a_pattern p ∷ ns)
a_pattern_few {p} m n l s f =
    let b : bindings_at (a_pattern p) ≡ pattern_bindings p = refl in
    let t : lifetimes_at (a_pattern p) ≡ 0 = refl in
    let o : loops_at (a_pattern p) ≡ 0 = refl in
    let g : longest_at (a_pattern p) ≡ longest_of_pattern p = refl in
    above m n (omega arith) (omega arith) (omega arith) (omega arith) f

mutual
  pub pattern_few : {ts : List Tok} {y : PatternTree} {h : ℕ} → IsPattern ts y h
      → Few (length ts) (a_pattern y ∷ below_pattern y)
  pattern_few {ts = ts} (patterns.wild t s is) = a_pattern_few 0 (length ts) (omega arith) (omega arith) (none 0)
  pattern_few {ts = ts} (patterns.binding n s is) = let w = ap length is in a_pattern_few 0 (length ts) (omega arith)
      (omega arith) (none 0)
  pattern_few {ts = ts} (patterns.mutable_binding m n sm sn is) = let w = ap length is in a_pattern_few 0 (length ts)
      (omega arith) (omega arith) (none 0)
  pattern_few {ts = ts} (patterns.number t v k s is) = a_pattern_few 0 (length ts) (omega arith) (omega arith) (none 0)
  pattern_few {ts = ts} (patterns.negative m t v k sm s is) = a_pattern_few 0 (length ts) (omega arith) (omega arith)
      (none 0)
  pattern_few {ts = ts} (patterns.true_is t s is) = a_pattern_few 0 (length ts) (omega arith) (omega arith) (none 0)
  pattern_few {ts = ts} (patterns.false_is t s is) = a_pattern_few 0 (length ts) (omega arith) (omega arith) (none 0)
  pattern_few {ts = ts} (patterns.unit o c so sc is) = a_pattern_few 0 (length ts) (omega arith) (omega arith) (none 0)
  pattern_few {ts = ts} (patterns.parentheses o c us y h so sc r is) = let w = ap length is in weaker (length us)
      (length ts) (omega (arith, length-append us (c ∷ []))) (pattern_few r)
  pattern_few {ts = ts} (patterns.tuple o m c us vs y ys h i so sm sc r more is) =
      let w = ap length is in
      let z = patterns_short more in
      let e = ap length (listed_patterns_of ys) in
      a_pattern_few (length us + length vs) (length ts)
      (omega (arith, length-append us (m ∷ (vs ++ (c ∷ []))), length-append vs (c ∷ [])))
      (omega (arith, length-append us (m ∷ (vs ++ (c ∷ []))), length-append vs (c ∷ [])))
      (both (length us) (length vs) (length us + length vs) (omega arith) (pattern_few r) (patterns_few more))
  pattern_few {ts = ts} (patterns.variant e p v se sp sv is) = a_pattern_few 0 (length ts) (omega arith) (omega arith)
      (none 0)
  pattern_few {ts = ts} (patterns.variant_with e p v o c us y ys h se sp sv so sc more is) =
      let w = ap length is in
      let z = patterns_short more in
      let l = ap length (listed_patterns_of ys) in
      a_pattern_few (length us) (length ts) (omega (arith, length-append us (c ∷ [])))
      (omega (arith, length-append us (c ∷ []))) (patterns_few more)
  pattern_few {ts = ts} (patterns.structure n o c us fs h sn so sc more is) =
      let w = ap length is in
      let z = field_patterns_short more in
      let l = ap length (listed_field_patterns_of fs) in
      a_pattern_few (length us) (length ts) (omega (arith, length-append us (c ∷ [])))
      (omega (arith, length-append us (c ∷ []))) (field_patterns_few more)

  pub patterns_few : {ts : List Tok} {ys : List PatternTree} {h : ℕ} → ArePatterns ts ys h
      → Few (length ts) (within_patterns (patterns_of ys))
  patterns_few patterns.no_pattern = none 0
  patterns_few {ts = ts} (patterns.last_pattern r) = both (length ts) 0 (length ts) (omega arith) (pattern_few r)
      (none 0)
  patterns_few {ts = ts} (patterns.pattern_and us vs c y ys m n r s more is) =
      let w = ap length is in both (length us) (length vs) (length ts) (omega (arith, length-append us (c ∷ vs)))
      (pattern_few r) (patterns_few more)

  field_pattern_few : {ts : List Tok} {f : Ident × PatternTree} {h : ℕ} → IsFieldPattern ts f h
      → Few (length ts) (a_pattern f.1 ∷ below_pattern f.1)
  field_pattern_few {ts = ts} (patterns.field n d us y h sn sd r is) = let w = ap length is in weaker (length us)
      (length ts) (omega arith) (pattern_few r)
  field_pattern_few {ts = ts} (patterns.short_field n sn is) = let w = ap length is in a_pattern_few 0 (length ts)
      (omega arith) (omega arith) (none 0)
  field_pattern_few {ts = ts} (patterns.short_mutable m n sm sn is) = let w = ap length is in a_pattern_few 0
      (length ts) (omega arith) (omega arith) (none 0)

  field_patterns_few : {ts : List Tok} {fs : List (Ident × PatternTree)} {h : ℕ} → AreFieldPatterns ts fs h
      → Few (length ts) (within_field_patterns (field_patterns_of fs))
  field_patterns_few patterns.no_field = none 0
  field_patterns_few {ts = ts} (patterns.last_field r) = both (length ts) 0 (length ts) (omega arith)
      (field_pattern_few r) (none 0)
  field_patterns_few {ts = ts} (patterns.field_and us vs c f fs m n r s more is) =
      let w = ap length is in both (length us) (length vs) (length ts) (omega (arith, length-append us (c ∷ vs)))
      (field_pattern_few r) (field_patterns_few more)
