-- How the nodes of a program stand in its text: the children of a node in order within its span, the statements of a block between
-- its braces. Rows of nodes are put together from the last to the first.
use Rattle.std.proofs.Common.{◌≡◌, ℕ, ◌+◌, ◌-◌, ◌≤◌, ◌<◌, List, [], ◌∷◌, map, sym, subst, arith}
use Rattle.rx_core.specs.declared.types.Span.{Span}
use Rattle.rx_tree.specs.Plain as plain
use Rattle.rx_tree.specs.Plain.{Body, ItemTree}
use Rattle.rx_tree.specs.Lists.{Every}
use Rattle.rx_tree.specs.Spans.{body_span, node_span}
use Rattle.rx_tree.specs.Positions.{NodeTree, an_item, a_type, a_block, a_statement, an_expression, a_pattern, children, block_children}
use Rattle.rx_tree.specs.Nodes.{below}
use Rattle.rx_tree.proofs.NodesLaws.{joined, below_is, every_both}
use Rattle.rx_lex.specs.Tok.{Tok}
use Rattle.rx_select.specs.Selected.{Within, IsToken}
use Rattle.rx_select.specs.Parts.{parts_of}
use Rattle.rx_select.proofs.Tokens.{Clean}

-- the spans stand between two places, one behind the other
abbrev pub InOrder : ℕ → ℕ → List Span → Type 0
InOrder from to [] = from ≤ to
InOrder from to (s ∷ ss) = (from ≤ s.start) × (s.start < s.end) × InOrder s.end to ss

-- the place of a statement: it cuts no token and has one
pub record Part (ts : List Tok) (s : Span) : Type 0 where
  pub front : Clean ts s.start
  pub back : Clean ts s.end
  pub token : Tok
  pub is : IsToken token ts
  pub within : Within s.start s.end token

-- spans stand in others, one in each
abbrev pub Each : List Span → List Span → Type 0
Each [] [] = Unit {0}
Each [] (s ∷ ss) = ⊥
Each (c ∷ cs) [] = ⊥
Each (c ∷ cs) (s ∷ ss) = (s.start ≤ c.start) × (c.end ≤ s.end) × Each cs ss

-- the statements of a block stand between its braces
pub record Parted (ts : List Tok) (b : Body) : Type 0 where
  pub ordered : InOrder ((body_span b).start + 1) ((body_span b).end - 1) (parts_of b)
  pub parts : Every (Part ts) (parts_of b)
  pub each : Each (map node_span (block_children b)) (parts_of b)
  pub brace : Tok
  pub is : IsToken brace ts
  pub begins : brace.span.start ≡ (body_span b).start
  pub ends : brace.span.end ≡ (body_span b).start + 1

abbrev pub Nested : NodeTree → Type 0
Nested n = InOrder (node_span n).start (node_span n).end (map node_span (children n))

abbrev LaidItem : ItemTree → Type 0
LaidItem (plain.function_item s f) = Nested (an_item (plain.function_item s f))
LaidItem _ = Unit {0}

-- what is asked of a node; types and patterns hold no block
abbrev pub Laid : List Tok → NodeTree → Type 0
Laid ts (an_item i) = LaidItem i
Laid ts (a_type t) = Unit {0}
Laid ts (a_block b) = Nested (a_block b) × Parted ts b
Laid ts (a_statement a) = Nested (a_statement a)
Laid ts (an_expression e) = Nested (an_expression e)
Laid ts (a_pattern p) = Unit {0}

-- ---- spans in order

pub order_above : (from to : ℕ) (ss : List Span) → InOrder from to ss → from ≤ to
order_above from to [] o = o
order_above from to (c ∷ ss) o = let h = order_above c.end to ss o.2 in let a = o.0 in let b = o.1 in omega (arith, h, a, b)

pub order_near : (from near to : ℕ) (ss : List Span) → near ≤ from → InOrder from to ss → InOrder near to ss
order_near from near to [] h o = omega (arith, h, o)
order_near from near to (c ∷ ss) h o = (omega (arith, h, o.0), o.1, o.2)

pub order_far : (from to far : ℕ) (ss : List Span) → to ≤ far → InOrder from to ss → InOrder from far ss
order_far from to far [] h o = omega (arith, h, o)
order_far from to far (c ∷ ss) h o = (o.0, o.1, order_far c.end to far ss h o.2)

-- ---- a node between two places

pub record Stands (ts : List Tok) (from to : ℕ) (n : NodeTree) : Type 0 where
  pub starts : from ≤ (node_span n).start
  pub long : (node_span n).start < (node_span n).end
  pub ends : (node_span n).end ≤ to
  pub laid : Every (Laid ts) (n ∷ below n)

pub record Row (ts : List Tok) (from to : ℕ) (cs : List NodeTree) : Type 0 where
  pub ordered : InOrder from to (map node_span cs)
  pub laid : Every (Laid ts) (joined cs)

pub row_none : (ts : List Tok) (from to : ℕ) → from ≤ to → Row ts from to []
row_none ts from to h = record { ordered = h; laid = tt }

pub row_and : (ts : List Tok) (from at to : ℕ) (c : NodeTree) (cs : List NodeTree) → Stands ts from at c → Row ts at to cs → Row ts from to (c ∷ cs)
row_and ts from at to c cs s r = record {
  ordered = (s.starts, s.long, order_near at (node_span c).end to (map node_span cs) s.ends r.ordered);
  laid = (s.laid.0, every_both (Laid ts) (below c) (joined cs) s.laid.1 r.laid);
}

pub row_near : (ts : List Tok) (from near to : ℕ) (cs : List NodeTree) → near ≤ from → Row ts from to cs → Row ts near to cs
row_near ts from near to cs h r = record { ordered = order_near from near to (map node_span cs) h r.ordered; laid = r.laid }

pub row_one : (ts : List Tok) (from to : ℕ) (c : NodeTree) → Stands ts from to c → Row ts from to (c ∷ [])
row_one ts from to c s = row_and ts from to to c [] s (row_none ts to to (omega arith))

pub row_two : (ts : List Tok) (from at to : ℕ) (c d : NodeTree) → Stands ts from at c → Stands ts at to d → Row ts from to (c ∷ d ∷ [])
row_two ts from at to c d s r = row_and ts from at to c (d ∷ []) s (row_one ts at to d r)

pub stands_near : (ts : List Tok) (from to near far : ℕ) (n : NodeTree) → near ≤ from → to ≤ far → Stands ts from to n → Stands ts near far n
stands_near ts from to near far n h k x =
    let a = x.starts in
    let b = x.ends in
    record { starts = omega (arith, h, a); long = x.long; ends = omega (arith, k, b); laid = x.laid }

-- a node stands where what is asked of it holds and its children stand in its span
pub stands : (ts : List Tok) (from to : ℕ) (n : NodeTree) → from ≤ (node_span n).start → (node_span n).start < (node_span n).end → (node_span n).end ≤ to → Laid ts n
    → Row ts (node_span n).start (node_span n).end (children n) → Stands ts from to n
stands ts from to n a b c l r = record { starts = a; long = b; ends = c; laid = (l, subst (Every (Laid ts)) (sym (below_is n)) r.laid) }

pub row_far : (ts : List Tok) (from to far : ℕ) (cs : List NodeTree) → to ≤ far → Row ts from to cs → Row ts from far cs
row_far ts from to far cs h r = record { ordered = order_far from to far (map node_span cs) h r.ordered; laid = r.laid }
