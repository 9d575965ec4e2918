-- Walks that number types and patterns: no block stands in them. What numbers no node leaves the number.
use Rattle.std.proofs.Common.{◌≡◌, ℕ, suc, Bool, true, false, List, [], ◌∷◌, ◌++◌, Option, Some, None, refl, sym, ◌∙◌}
use Rattle.rx_tree.specs.declared.tree.Ident.{Ident}
use Rattle.rx_tree.specs.Plain as plain
use Rattle.rx_tree.specs.Plain.{TypeTree, TypeTrees, PatternTree, PatternTrees, FieldPatterns, Expression, Statement, Body}
use Rattle.rx_tree.specs.Positions.{NodeTree, a_type, a_block, a_statement, an_expression, a_pattern, type_nodes, optional_type_nodes, pattern_nodes, field_pattern_nodes}
use Rattle.rx_resolve_names.specs.declared.resolved.NodeNames.{NodeNames}
use Rattle.rx_typed.specs.declared.nodes.Site.{Site}
use Rattle.rx_typed.specs.declared.nodes.Stage.{Stage}
use Rattle.rx_typed.specs.Named.{Pattern, whole_binding, pattern_node}
use Rattle.rx_typed.specs.Naming as naming
use Rattle.rx_typed.specs.Naming.{Cursor, a_node, an_entry, taken, of_type, of_types, of_pattern, of_patterns, of_field_patterns}
use Rattle.rx_exits_plan.specs.Spots.{Around, Spot}
use Rattle.rx_hoist_blocks.proofs.Children.{Walked, WalkedAll, from, upto, no_child, child_and, one_child, node_with}

-- ---- kinds of nodes

pub no_type_block : (t : TypeTree) (b : Body) → a_type t ≡ a_block b → ⊥
no_type_block t b e = cc

pub no_pattern_block : (p : PatternTree) (b : Body) → a_pattern p ≡ a_block b → ⊥
no_pattern_block p b e = cc

pub no_expression_block : (e : Expression) (b : Body) → an_expression e ≡ a_block b → ⊥
no_expression_block e b h = cc

pub no_statement_block : (x : Statement) (b : Body) → a_statement x ≡ a_block b → ⊥
no_statement_block x b e = cc

-- ---- what numbers no node

taken_number : (ns : List NodeNames) (c : Cursor) → (taken ns c).1.number ≡ c.number
taken_number [] c = refl
taken_number (n ∷ ns) c = refl

pub entry_number : (c : Cursor) → (an_entry c).1.number ≡ c.number
entry_number c = taken_number c.names c

pub lifetime_number : (l : Option Ident) (c : Cursor) → (naming.lifetime_entry l c).1.number ≡ c.number
lifetime_number None c = refl
lifetime_number (Some l) c = entry_number c

pub annotates_number : (p : PatternTree) (y : Option TypeTree) (c : Cursor) → (naming.annotates p y c).1.number ≡ c.number
annotates_number p None c = refl
annotates_number p (Some y) c = refl

waits_at_number : (p : Pattern) (o : Option ℕ) (c : Cursor) → (naming.waits_at (pattern_node p) o c).1.number ≡ c.number
waits_at_number p None c = refl
waits_at_number p (Some x) c = refl

pub waits_number : (b : Bool) (p : Pattern) (c : Cursor) → (naming.waits_if b p c).1.number ≡ c.number
waits_number true p c = waits_at_number p (whole_binding p) c
waits_number false p c = refl

pub given_number : (x : ℕ) (o : Option (ℕ × ℕ)) (c : Cursor) → (naming.given_here x o c).1.number ≡ c.number
given_number x None c = refl
given_number x (Some w) c = refl

pub entry_if_number : (b : Bool) (c : Cursor) → (naming.entry_if b c).1.number ≡ c.number
entry_if_number true c = entry_number c
entry_if_number false c = refl

-- ---- types

mutual
  pub type_walked : (y : TypeTree) (c : Cursor) (S : Around → List Spot) → Walked (a_type y) c.number (of_type y c).1.number S
  type_walked (plain.kind_type s k) c S = node_with (no_type_block (plain.kind_type s k)) (no_child (suc c.number) S)
  type_walked (plain.bool_type s) c S = node_with (no_type_block (plain.bool_type s)) (no_child (suc c.number) S)
  type_walked (plain.tuple_type s ts) c S = node_with (no_type_block (plain.tuple_type s ts)) (types_walked ts (a_node s Site.Value c).1 S)
  type_walked (plain.ref_type s l m y) c S =
      let c1 = (a_node s Site.Value c).1 in
      node_with (no_type_block (plain.ref_type s l m y)) (from (lifetime_number l c1) (one_child (type_walked y (naming.lifetime_entry l c1).1 S)))
  type_walked (plain.named_type s x ls) c S = node_with (no_type_block (plain.named_type s x ls)) (upto (sym (entry_number (a_node s Site.Value c).1)) (no_child (suc c.number) S))

  pub types_walked : (ys : TypeTrees) (c : Cursor) (S : Around → List Spot) → WalkedAll (type_nodes ys) c.number (of_types ys c).1.number S
  types_walked plain.no_type c S = no_child c.number S
  types_walked (plain.type_and y ys) c S = child_and (type_walked y c S) (types_walked ys (of_type y c).1 S)

-- in front of other nodes
pub type_row : (y : Option TypeTree) (c : Cursor) (S : Around → List Spot) (ns : List NodeTree) (j : ℕ) → WalkedAll ns (naming.of_optional_type y c).1.number j S
    → WalkedAll (optional_type_nodes y ++ ns) c.number j S
type_row None c S ns j w = w
type_row (Some y) c S ns j w = child_and (type_walked y c S) w

-- ---- patterns

mutual
  pub pattern_walked : (p : PatternTree) (c : Cursor) (S : Around → List Spot) → Walked (a_pattern p) c.number (of_pattern p c).1.number S
  pattern_walked (plain.wild s) c S = node_with (no_pattern_block (plain.wild s)) (no_child (suc c.number) S)
  pattern_walked (plain.bind s x m) c S = node_with (no_pattern_block (plain.bind s x m)) (upto (sym (entry_number (a_node s Site.Value c).1)) (no_child (suc c.number) S))
  pattern_walked (plain.int_pattern s g v k) c S = node_with (no_pattern_block (plain.int_pattern s g v k)) (no_child (suc c.number) S)
  pattern_walked (plain.bool_pattern s b) c S = node_with (no_pattern_block (plain.bool_pattern s b)) (no_child (suc c.number) S)
  pattern_walked (plain.tuple_pattern s ps) c S = node_with (no_pattern_block (plain.tuple_pattern s ps)) (patterns_walked ps (a_node s Site.Value c).1 S)
  pattern_walked (plain.variant_pattern s a v ps) c S =
      let c1 = (a_node s Site.Value c).1 in
      node_with (no_pattern_block (plain.variant_pattern s a v ps)) (from (entry_number c1) (patterns_walked ps (an_entry c1).1 S))
  pattern_walked (plain.make_pattern s x fs) c S =
      let c1 = (a_node s Site.Value c).1 in
      node_with (no_pattern_block (plain.make_pattern s x fs)) (from (entry_number c1) (field_patterns_walked fs (an_entry c1).1 S))

  pub patterns_walked : (ps : PatternTrees) (c : Cursor) (S : Around → List Spot) → WalkedAll (pattern_nodes ps) c.number (of_patterns ps c).1.number S
  patterns_walked plain.no_pattern c S = no_child c.number S
  patterns_walked (plain.pattern_and p ps) c S = child_and (pattern_walked p c S) (patterns_walked ps (of_pattern p c).1 S)

  pub field_patterns_walked : (fs : FieldPatterns) (c : Cursor) (S : Around → List Spot) → WalkedAll (field_pattern_nodes fs) c.number (of_field_patterns fs c).1.number S
  field_patterns_walked plain.no_field_pattern c S = no_child c.number S
  field_patterns_walked (plain.field_pattern_and x p fs) c S = child_and (pattern_walked p c S) (field_patterns_walked fs (of_pattern p c).1 S)
