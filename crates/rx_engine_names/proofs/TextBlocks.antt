-- The blocks of a text rise: the nodes of a text stand in one another, or one behind the other, and what stands in a block stands behind
-- its brace. By induction on how many nodes there are.
use Rattle.std.proofs.Common.{◌≡◌, ℕ, zero, suc, ◌+◌, ◌-◌, ◌≤◌, ◌<◌, arith, List, [], ◌∷◌, ◌++◌, length, map, Option, Some, None, slice_get, refl, sym, ap, ◌∙◌, subst, length-append}
use Rattle.rx_core.specs.declared.types.Span.{Span}
use Rattle.rx_tree.specs.Plain as plain
use Rattle.rx_tree.specs.Plain.{TypeTree, TypeTrees, PatternTree, PatternTrees, FieldPatterns, FieldOf, VariantOf, Body, ItemTree}
use Rattle.rx_tree.specs.Lists.{Every}
use Rattle.rx_tree.specs.Spans.{body_span, node_span}
use Rattle.rx_tree.specs.Positions.{NodeTree, an_item, a_type, a_block, a_statement, an_expression, a_pattern, children, block_children}
use Rattle.rx_tree.specs.Nodes.{below, below_type, within_types, below_pattern, within_patterns, within_field_patterns, within_declared, within_variants}
use Rattle.rx_tree.proofs.NodesLaws.{joined, below_is, every_front, every_behind}
use Rattle.rx_lex.specs.Tok.{Tok}
use Rattle.rx_select.specs.Parts.{parts_of}
use Rattle.rx_select.proofs.Rows.{InOrder, Each, Parted, Nested, Laid, order_above}
use Rattle.rx_select.proofs.Ways.{AllLaid}
use Rattle.rx_engine_names.proofs.RisingBlocks.{start_of, starts, starts_both, append_apart, Rising, Rises, rising_near, rising_far, rising_both}

-- ---- types and patterns have no blocks

abbrev both_none : (xs ys : List NodeTree) → starts xs ≡ [] → starts ys ≡ [] → starts (xs ++ ys) ≡ []
both_none xs ys e f = starts_both xs ys ∙ (ap (λ l. l ++ starts ys) e ∙ f)

mutual
  pub type_none : (t : TypeTree) → starts (below_type t) ≡ []
  type_none (plain.kind_type s k) = refl
  type_none (plain.bool_type s) = refl
  type_none (plain.tuple_type s ts) = types_none ts
  type_none (plain.ref_type s l m t) = type_none t
  type_none (plain.named_type s n ls) = refl

  pub types_none : (ts : TypeTrees) → starts (within_types ts) ≡ []
  types_none plain.no_type = refl
  types_none (plain.type_and t ts) = both_none (below_type t) (within_types ts) (type_none t) (types_none ts)

mutual
  pattern_none : (p : PatternTree) → starts (below_pattern p) ≡ []
  pattern_none (plain.wild s) = refl
  pattern_none (plain.bind s n m) = refl
  pattern_none (plain.int_pattern s g v k) = refl
  pattern_none (plain.bool_pattern s b) = refl
  pattern_none (plain.tuple_pattern s ps) = patterns_none ps
  pattern_none (plain.variant_pattern s a v ps) = patterns_none ps
  pattern_none (plain.make_pattern s n fs) = fields_none fs

  patterns_none : (ps : PatternTrees) → starts (within_patterns ps) ≡ []
  patterns_none plain.no_pattern = refl
  patterns_none (plain.pattern_and p ps) = both_none (below_pattern p) (within_patterns ps) (pattern_none p) (patterns_none ps)

  fields_none : (fs : FieldPatterns) → starts (within_field_patterns fs) ≡ []
  fields_none plain.no_field_pattern = refl
  fields_none (plain.field_pattern_and n p fs) = both_none (below_pattern p) (within_field_patterns fs) (pattern_none p) (fields_none fs)

declared_none : (fs : List FieldOf) → starts (within_declared fs) ≡ []
declared_none [] = refl
declared_none (f ∷ fs) = both_none (below_type f.typ) (within_declared fs) (type_none f.typ) (declared_none fs)

variants_none : (vs : List VariantOf) → starts (within_variants vs) ≡ []
variants_none [] = refl
variants_none (v ∷ vs) = both_none (within_types v.types) (within_variants vs) (types_none v.types) (variants_none vs)

none_rises : (low high : ℕ) (xs : List ℕ) → xs ≡ [] → low ≤ high → Rising low high xs
none_rises low high xs e h = subst (Rising low high) (sym e) h

-- ---- what stands in a block stands behind its brace

behind_brace : (from to near far : ℕ) (cs ps : List Span) → InOrder from to cs → Each cs ps → InOrder near far ps → near ≤ to → InOrder near to cs
behind_brace from to near far [] ps o e i h = h
behind_brace from to near far (c ∷ cs) [] o e i h = absurd e
behind_brace from to near far (c ∷ cs) (p ∷ ps) o e i h = let a = e.0 in let b = i.0 in (omega (arith, a, b), o.1, o.2)

-- ---- rows

module _ (ts : List Tok) where
  pub row_rises : (fuel from to : ℕ) (cs : List NodeTree) → InOrder from to (map node_span cs) → Every (Laid ts) (joined cs) → length (joined cs) ≤ fuel → Rising from to (starts (joined cs))
  row_rises fuel from to [] o l h = o
  row_rises zero from to (c ∷ cs) o l h = absurd (omega (arith, h))
  row_rises (suc fuel) from to (c ∷ cs) o l h =
      let long = length-append (below c) (joined cs) in
      let inner : length (below c) ≤ fuel = omega (arith, h, long) in
      let outer : length (joined cs) ≤ fuel = omega (arith, h, long) in
      let there = order_above (node_span c).end to (map node_span cs) o.2 in
      let front = l.0 in
      let kept = every_front (Laid ts) (below c) (joined cs) l.1 in
      let rest = every_behind (Laid ts) (below c) (joined cs) l.1 in
      let mine = by c front (subst (Every (Laid ts)) (below_is c) kept) (subst (λ (k : List NodeTree). length k ≤ fuel) (below_is c) inner) o.1
      (λ near g. subst (λ (k : List NodeTree). Rising near (node_span c).end (starts k)) (sym (below_is c)) (row_rises fuel near (node_span c).end (children c) g (subst (Every (Laid ts)) (below_is c) kept)
      (subst (λ (k : List NodeTree). length k ≤ fuel) (below_is c) inner))) in
      subst (Rising from to) (append_apart (start_of c) (starts (below c)) (starts (joined cs)) ∙ ap (λ k. start_of c ++ k) (sym (starts_both (below c) (joined cs))))
      (rising_both from (node_span c).end to (start_of c ++ starts (below c)) (starts (joined cs)) (rising_near (node_span c).start from (node_span c).end (start_of c ++ starts (below c)) o.0 mine)
      (row_rises fuel (node_span c).end to cs o.2 rest outer))
    where
      by : (c : NodeTree) → Laid ts c → Every (Laid ts) (joined (children c)) → length (joined (children c)) ≤ fuel → (node_span c).start < (node_span c).end
          → ((near : ℕ) → InOrder near (node_span c).end (map node_span (children c)) → Rising near (node_span c).end (starts (below c))) → Rising (node_span c).start (node_span c).end (start_of c ++ starts (below c))
      by (an_item (plain.rt_item s r)) l e h g on = omega (arith, g)
      by (an_item (plain.struct_item s x)) l e h g on = none_rises s.start s.end (starts (within_declared x.fields)) (declared_none x.fields) (omega (arith, g))
      by (an_item (plain.enum_item s x)) l e h g on = none_rises s.start s.end (starts (within_variants x.variants)) (variants_none x.variants) (omega (arith, g))
      by (an_item (plain.function_item s f)) l e h g on = on s.start l
      by (a_type t) l e h g on = none_rises (node_span (a_type t)).start (node_span (a_type t)).end (starts (below_type t)) (type_none t) (omega (arith, g))
      by (a_block b) l e h g on =
          let p = l.1 in
          (omega arith, on ((body_span b).start + 1) (behind_brace (body_span b).start (body_span b).end ((body_span b).start + 1) ((body_span b).end - 1) (map node_span (block_children b)) (parts_of b) l.0 p.each p.ordered (omega (arith, g))))
      by (a_statement a) l e h g on = on (node_span (a_statement a)).start l
      by (an_expression x) l e h g on = on (node_span (an_expression x)).start l
      by (a_pattern p) l e h g on = none_rises (node_span (a_pattern p)).start (node_span (a_pattern p)).end (starts (below_pattern p)) (pattern_none p) (omega (arith, g))
