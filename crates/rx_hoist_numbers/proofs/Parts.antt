-- Walks that number types and patterns, and steps of a walk that number no node.
use Rattle.std.proofs.Common.{ℕ, Bool, true, false, List, [], ◌∷◌, ◌++◌, Option, Some, None, refl}
use Rattle.rx_tree.specs.declared.tree.Ident.{Ident}
use Rattle.rx_tree.specs.Plain as plain
use Rattle.rx_tree.specs.Plain.{TypeTree, TypeTrees, PatternTree, PatternTrees, FieldPatterns}
use Rattle.rx_tree.specs.Positions.{NodeTree, a_type, a_pattern, type_nodes, optional_type_nodes, pattern_nodes, field_pattern_nodes}
use Rattle.rx_resolve_names.specs.declared.resolved.NodeNames.{NodeNames}
use Rattle.rx_typed.specs.declared.nodes.Declaration.{Declaration}
use Rattle.rx_typed.specs.declared.nodes.Site.{Site}
use Rattle.rx_typed.specs.Named.{Pattern, whole_binding}
use Rattle.rx_typed.specs.Named as named
use Rattle.rx_typed.specs.Naming as naming
use Rattle.rx_typed.specs.Naming.{Cursor, a_node, an_entry, taken, of_type, of_types, of_pattern, of_patterns, of_field_patterns}
use Rattle.rx_hoist_numbers.specs.NumberedNodes as numbered
use Rattle.rx_hoist_numbers.specs.NumberedNodes.{NumberedNode, the_type, the_pattern}
use Rattle.rx_hoist_numbers.proofs.Rows.{Stays, Counted, CountedAll, stays, stays_then, from, no_child, child_and, one_child, node_with}

-- ---- what numbers no node

taken_stays : (ns : List NodeNames) (c : Cursor) → Stays c (taken ns c).1
taken_stays [] c = stays c
taken_stays (n ∷ ns) c = record { number = refl; spans = refl }

pub entry_stays : (c : Cursor) → Stays c (an_entry c).1
entry_stays c = taken_stays c.names c

lifetime_stays : (l : Option Ident) (c : Cursor) → Stays c (naming.lifetime_entry l c).1
lifetime_stays None c = stays c
lifetime_stays (Some l) c = entry_stays c

pub annotates_stays : (p : PatternTree) (y : Option TypeTree) (c : Cursor) → Stays c (naming.annotates p y c).1
annotates_stays p None c = stays c
annotates_stays p (Some y) c = record { number = refl; spans = refl }

pub known_stays : (i j : ℕ) (c : Cursor) → Stays c (naming.known_between i j c).1
known_stays i j c = record { number = refl; spans = refl }

waits_at_stays : (p : Pattern) (o : Option ℕ) (c : Cursor) → Stays c (naming.waits_at (named.pattern_node p) o c).1
waits_at_stays p None c = stays c
waits_at_stays p (Some x) c = record { number = refl; spans = refl }

pub waits_stays : (b : Bool) (p : Pattern) (c : Cursor) → Stays c (naming.waits_if b p c).1
waits_stays true p c = waits_at_stays p (whole_binding p) c
waits_stays false p c = stays c

pub given_stays : (x : ℕ) (o : Option (ℕ × ℕ)) (c : Cursor) → Stays c (naming.given_here x o c).1
given_stays x None c = stays c
given_stays x (Some w) c = record { number = refl; spans = refl }

pub entry_if_stays : (b : Bool) (c : Cursor) → Stays c (naming.entry_if b c).1
entry_if_stays true c = entry_stays c
entry_if_stays false c = stays c

pub declares_stays : (d : Declaration) (c : Cursor) → Stays c (naming.declare d c).1
declares_stays d c = record { number = refl; spans = refl }

pub loop_stays : (c : Cursor) → Stays c (naming.a_loop c).1
loop_stays c = record { number = refl; spans = refl }

pub leads_stays : (l : ℕ) (c : Cursor) → Stays c (naming.leads l c).1
leads_stays l c = record { number = refl; spans = refl }

-- ---- types

mutual
  pub type_counted : (y : TypeTree) (c : Cursor) → Counted (a_type y) (the_type (of_type y c).0) c (of_type y c).1
  type_counted (plain.kind_type s k) c = node_with (refl, refl) refl refl (no_child (stays (a_node s Site.Value c).1))
  type_counted (plain.bool_type s) c = node_with (refl, refl) refl refl (no_child (stays (a_node s Site.Value c).1))
  type_counted (plain.tuple_type s ts) c = node_with {c1 = (a_node s Site.Value c).1} (refl, refl) refl refl (types_counted ts (a_node s Site.Value c).1)
  type_counted (plain.ref_type s l m y) c =
      let c1 = (a_node s Site.Value c).1 in
      node_with {c1 = c1} (refl, refl) refl refl (from (lifetime_stays l c1) (one_child (type_counted y (naming.lifetime_entry l c1).1)))
  type_counted (plain.named_type s x ls) c =
      let c1 = (a_node s Site.Value c).1 in
      node_with {c1 = c1} (refl, refl) refl refl (no_child (entry_stays c1))

  types_counted : (ys : TypeTrees) (c : Cursor) → CountedAll (type_nodes ys) (numbered.type_nodes (of_types ys c).0) c (of_types ys c).1
  types_counted plain.no_type c = no_child (stays c)
  types_counted (plain.type_and y ys) c = child_and (type_counted y c) (types_counted ys (of_type y c).1)

-- in front of other nodes
pub type_row : (y : Option TypeTree) (c c' : Cursor) (ns : List NodeTree) (ms : List NumberedNode) → CountedAll ns ms (naming.of_optional_type y c).1 c'
    → CountedAll (optional_type_nodes y ++ ns) (numbered.optional_type_nodes (naming.of_optional_type y c).0 ++ ms) c c'
type_row None c c' ns ms w = w
type_row (Some y) c c' ns ms w = child_and (type_counted y c) w

pub type_last : (y : Option TypeTree) (c c' : Cursor) → Stays (naming.of_optional_type y c).1 c'
    → CountedAll (optional_type_nodes y ++ []) (numbered.optional_type_nodes (naming.of_optional_type y c).0) c c'
type_last None c c' s = no_child s
type_last (Some y) c c' s = child_and (type_counted y c) (no_child s)

-- ---- patterns

mutual
  pub pattern_counted : (p : PatternTree) (c : Cursor) → Counted (a_pattern p) (the_pattern (of_pattern p c).0) c (of_pattern p c).1
  pattern_counted (plain.wild s) c = node_with {c1 = (a_node s Site.Value c).1} (refl, refl) refl refl (no_child (stays (a_node s Site.Value c).1))
  pattern_counted (plain.bind s x m) c =
      let c1 = (a_node s Site.Value c).1 in
      node_with {c1 = c1} (refl, refl) refl refl (no_child (stays_then (entry_stays c1) (declares_stays _ _)))
  pattern_counted (plain.int_pattern s g v k) c = node_with {c1 = (a_node s Site.Value c).1} (refl, refl) refl refl (no_child (stays (a_node s Site.Value c).1))
  pattern_counted (plain.bool_pattern s b) c = node_with {c1 = (a_node s Site.Value c).1} (refl, refl) refl refl (no_child (stays (a_node s Site.Value c).1))
  pattern_counted (plain.tuple_pattern s ps) c = node_with {c1 = (a_node s Site.Value c).1} (refl, refl) refl refl (patterns_counted ps (a_node s Site.Value c).1)
  pattern_counted (plain.variant_pattern s a v ps) c =
      let c1 = (a_node s Site.Value c).1 in
      node_with {c1 = c1} (refl, refl) refl refl (from (entry_stays c1) (patterns_counted ps (an_entry c1).1))
  pattern_counted (plain.make_pattern s x fs) c =
      let c1 = (a_node s Site.Value c).1 in
      node_with {c1 = c1} (refl, refl) refl refl (from (entry_stays c1) (field_patterns_counted fs (an_entry c1).1))

  patterns_counted : (ps : PatternTrees) (c : Cursor) → CountedAll (pattern_nodes ps) (numbered.pattern_nodes (of_patterns ps c).0) c (of_patterns ps c).1
  patterns_counted plain.no_pattern c = no_child (stays c)
  patterns_counted (plain.pattern_and p ps) c = child_and (pattern_counted p c) (patterns_counted ps (of_pattern p c).1)

  field_patterns_counted : (fs : FieldPatterns) (c : Cursor) → CountedAll (field_pattern_nodes fs) (numbered.field_pattern_nodes (of_field_patterns fs c).0) c (of_field_patterns fs c).1
  field_patterns_counted plain.no_field_pattern c = no_child (stays c)
  field_patterns_counted (plain.field_pattern_and x p fs) c = child_and (pattern_counted p c) (field_patterns_counted fs (of_pattern p c).1)
