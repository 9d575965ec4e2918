-- Each block of the text stands in the typed tree, in the scope there: along the relation of the text and its tree with numbers, by induction.
-- Where a place stands there is no block.
use Rattle.std.proofs.Common.{◌≡◌, ℕ, zero, suc, ◌+◌, Bool, true, false, ◌&&◌, List, [], ◌∷◌, ◌++◌, length, reverse, take, Option, Some, None, slice_get, refl, sym, ap, subst, arith, length-append, inl}
use Rattle.rx_tree.specs.declared.tree.Ident.{Ident}
use Rattle.rx_tree.specs.declared.tree.BinaryOp.{BinaryOp}
use Rattle.rx_tree.specs.Plain as plain
use Rattle.rx_tree.specs.Plain.{TypeTree, PatternTree, Expression, Function, Parameter}
use Rattle.rx_tree.specs.Positions.{NodeTree, a_type, a_block, a_statement, an_expression, a_pattern, children, descend, optional_type_nodes, expression_nodes, optional_nodes, argument_nodes, field_nodes, arm_nodes, statement_nodes}
use Rattle.rx_resolve_names.specs.Meant.{Around, a_loop, a_test}
use Rattle.rx_resolve_names.specs.Steps.{Inside}
use Rattle.rx_typed.specs.declared.nodes.Node.{Node}
use Rattle.rx_typed.specs.Naming.{begins}
use Rattle.rx_typed.specs.Named as named
use Rattle.rx_typed.specs.Named.{Exp, is_place, node_of}
use Rattle.rx_typed.specs.Elaborated as elaborated
use Rattle.rx_typed.specs.Elaborated.{Assigned, Coercion, variables}
use Rattle.rx_typed.specs.Tree as tree
use Rattle.rx_lower_walks.specs.Walks.{Among, here, there}
use Rattle.rx_exits_plan.specs.Blocks.{bound}
use Rattle.rx_exits_plan.specs.Spots as spots
use Rattle.rx_exits_plan.specs.Spots.{Spot, with_loop, with_variables, spots_in, spots_matched, spots_armed, spots_of}
use Rattle.rx_hoist_extraction.specs.Run.{label_of, labels_on}
use Rattle.rx_hoist_nodes.specs.Nodes.{within, within_all, in_front}
use Rattle.rx_hoist_nodes.proofs.Within.{below_is}
use Rattle.rx_hoist_blocks.proofs.Blocks.{nowhere}
use Rattle.rx_hoist_blocks.proofs.Parts as parts
use Rattle.rx_hoist_blocks.proofs.Parts.{no_expression_block, no_statement_block}
use Rattle.rx_hoist_meant.proofs.TypedNames.{bound_is}
use Rattle.rx_hoist_meant.specs.Stands as stands
use Rattle.rx_hoist_meant.specs.Stands.{StandsPattern, StandsExp, StandsExps, StandsElse, StandsArguments, StandsFields, StandsArms, StandsBody, StandsStatement, StandsRow, brought, loop_labels, loop_numbers}
use Rattle.rx_hoist_meant.specs.Placed.{Placed, PlacedAll, PlacedElse, PlacedFields, PlacedArms, PlacedBody, PlacedStatement, PlacedRow}
use Rattle.rx_hoist_meant.specs.Scoped.{Alike, IsLast, ScopedBlock}
use Rattle.rx_hoist_meant.proofs.Patterns.{among_left, among_right}

-- ---- in lists

abbrev pub Goes : List Spot → List Spot → Type 0
Goes l r = (s : Spot) → Among s l → Among s r

-- ---- what stands round a part

pub in_loop : (a : spots.Around) (vs : List ℕ) (ls : List Around) (l : Option Ident) (k : ℕ) → (Among k (loop_numbers ls) → ⊥) → Alike a vs ls → Alike (with_loop k a) vs (a_loop l k ∷ ls)
in_loop a vs ls l k new h = record { scope = h.scope; loops = ap (λ (x : List ℕ). k ∷ x) h.loops; apart = (new, h.apart) }

pub in_test : (a : spots.Around) (vs : List ℕ) (ls : List Around) (l : Option Ident) (k : ℕ) → (Among k (loop_numbers ls) → ⊥) → Alike a vs ls → Alike (with_loop k a) vs (a_test ∷ a_loop l k ∷ ls)
in_test a vs ls l k new h = record { scope = h.scope; loops = ap (λ (x : List ℕ). k ∷ x) h.loops; apart = (new, h.apart) }

pub with_these : (a : spots.Around) (vs xs : List ℕ) (ls : List Around) → Alike a vs ls → Alike (with_variables xs a) (reverse xs ++ vs) ls
with_these a vs xs ls h = record { scope = ap (λ (x : List ℕ). reverse xs ++ x) h.scope; loops = h.loops; apart = h.apart }

-- no variable more
pub same_around : (a : spots.Around) (vs : List ℕ) (ls : List Around) → Alike a vs ls → Alike (with_variables [] a) vs ls
same_around a vs ls h = record { scope = h.scope; loops = h.loops; apart = h.apart }

pub in_pattern : (T : Assigned) (r : elaborated.Met) (a : spots.Around) (vs : List ℕ) (ls : List Around) (p : named.Pattern) → Alike a vs ls → Alike (with_variables (bound (elaborated.pattern T r p)) a) (reverse (variables p) ++ vs) ls
in_pattern T r a vs ls p h = subst (λ (xs : List ℕ). Alike (with_variables xs a) (reverse (variables p) ++ vs) ls) (bound_is T r p) (with_these a vs (variables p) ls h)

-- ---- what a place makes of a value

not_matched : (T : Assigned) (c : Coercion) (e : Exp) (v : tree.Exp) (a : spots.Around) → Goes (spots.spots a v) (spots_matched a (elaborated.matched_as T false c e v))
not_matched T elaborated.plain e v a s i = i
not_matched T elaborated.reborrow e v a s i = i
not_matched T elaborated.share e v a s i = i

passed : (T : Assigned) (n : Node) (c : Coercion) (e : tree.Exp) (a : spots.Around) → Goes (spots.spots a e) (spots.spots a (elaborated.passed_as T n c e))
passed T n elaborated.plain e a s i = i
passed T n elaborated.reborrow e a s i = i
passed T n elaborated.share e a s i = i

left_operand : (T : Assigned) (n : Node) (o : BinaryOp) (x y : tree.Exp) (a : spots.Around) → Goes (spots.spots a x) (spots.spots a (elaborated.operated T n o x y))
left_operand T n BinaryOp.And x y a s i = among_left (spots.spots a x) (spots.spots a y) i
left_operand T n BinaryOp.Or x y a s i = among_left (spots.spots a x) (spots.spots a y) i
left_operand T n _ x y a s i = among_left (spots.spots a x) (spots.spots a y ++ []) i

right_operand : (T : Assigned) (n : Node) (o : BinaryOp) (x y : tree.Exp) (a : spots.Around) → Goes (spots.spots a y) (spots.spots a (elaborated.operated T n o x y))
right_operand T n BinaryOp.And x y a s i = among_right (spots.spots a x) (spots.spots a y) i
right_operand T n BinaryOp.Or x y a s i = among_right (spots.spots a x) (spots.spots a y) i
right_operand T n _ x y a s i = among_right (spots.spots a x) (spots.spots a y ++ []) (among_left (spots.spots a y) [] i)

in_tuple : (T : Assigned) (n : Node) (es : tree.Operands) (a : spots.Around) → Goes (spots_in a es) (spots.spots a (elaborated.tuple_of T n es))
in_tuple T n tree.no_operand a s i = i
in_tuple T n (tree.operand_and k e es) a s i = i

-- the parts of a choice
to_first : (a : spots.Around) (m : tree.Mark) (x : tree.Scrutinee) (q : tree.Pattern) (b o : tree.Exp) → Goes (spots_matched a x) (spots.spots a (tree.choose m x (tree.arm_and q b (tree.arm_and tree.any o tree.no_arm))))
to_first a m x q b o s i = among_left (spots_matched a x) (spots_armed a (tree.arm_and q b (tree.arm_and tree.any o tree.no_arm))) i

to_then : (a : spots.Around) (m : tree.Mark) (x : tree.Scrutinee) (q : tree.Pattern) (b o : tree.Exp) → Goes (spots.spots (with_variables (bound q) a) b) (spots.spots a (tree.choose m x (tree.arm_and q b (tree.arm_and tree.any o tree.no_arm))))
to_then a m x q b o s i = among_right (spots_matched a x) (spots_armed a (tree.arm_and q b (tree.arm_and tree.any o tree.no_arm))) (among_left (spots.spots (with_variables (bound q) a) b) (spots_armed a (tree.arm_and tree.any o tree.no_arm)) i)

to_other : (a : spots.Around) (m : tree.Mark) (x : tree.Scrutinee) (q : tree.Pattern) (b o : tree.Exp) → Goes (spots.spots (with_variables [] a) o) (spots.spots a (tree.choose m x (tree.arm_and q b (tree.arm_and tree.any o tree.no_arm))))
to_other a m x q b o s i =
    among_right (spots_matched a x) (spots_armed a (tree.arm_and q b (tree.arm_and tree.any o tree.no_arm)))
    (among_right (spots.spots (with_variables (bound q) a) b) (spots_armed a (tree.arm_and tree.any o tree.no_arm)) (among_left (spots.spots (with_variables [] a) o) [] i))

-- ---- what has no block

no_pattern_has : (p : PatternTree) (ks : List ℕ) (b : plain.Body) → descend (Some (a_pattern p)) ks ≡ Some (a_block b) → ⊥
no_pattern_has p ks b e = nowhere _ _ ((parts.pattern_walked p (begins []) (λ a. [])).has ks b e)

pub no_type_has : (y : TypeTree) (ks : List ℕ) (b : plain.Body) → descend (Some (a_type y)) ks ≡ Some (a_block b) → ⊥
no_type_has y ks b e = nowhere _ _ ((parts.type_walked y (begins []) (λ a. [])).has ks b e)

module _ (I : Inside) (names : List (List ℕ)) (T : Assigned) where
  -- ---- nodes from one number to another, whose blocks are these

  abbrev Has : ℕ → plain.Body → List Spot → List (Option Ident) → Type 0
  Has n b l L = ScopedBlock I names T n b l L

  -- with loops of these labels round the first
  pub record Walked (n : NodeTree) (i j : ℕ) (l : List Spot) (L : List (Option Ident)) : Type 0 where
    pub size : j ≡ i + length (within n)
    pub has : (ks : List ℕ) (b : plain.Body) → descend (Some n) ks ≡ Some (a_block b) → Has (i + length (in_front (Some n) ks)) b l (labels_on (Some n) ks L)

  pub record WalkedAll (ns : List NodeTree) (i j : ℕ) (l : List Spot) (L : List (Option Ident)) : Type 0 where
    pub size : j ≡ i + length (within_all ns)
    pub has : (k : ℕ) (ks : List ℕ) (b : plain.Body) → descend (slice_get ns k) ks ≡ Some (a_block b) → Has (i + length (within_all (take k ns) ++ in_front (slice_get ns k) ks)) b l (labels_on (slice_get ns k) ks L)

  has_at : {m n : ℕ} {b : plain.Body} {l : List Spot} {L : List (Option Ident)} → m ≡ n → Has m b l L → Has n b l L
  has_at {m} {n} {b} {l} {L} e h = subst (λ (x : ℕ). Has x b l L) e h

  has_in : {n : ℕ} {b : plain.Body} {l r : List Spot} {L : List (Option Ident)} → Goes l r → Has n b l L → Has n b r L
  has_in g h = record {
    variables = h.variables;
    around = h.around;
    behind = h.behind;
    node = h.node;
    row = h.row;
    end = h.end;
    stands = h.stands;
    placed = h.placed;
    last = h.last;
    is_last = h.is_last;
    there = h.there;
    alike = h.alike;
    labels_are = h.labels_are;
    among = g _ h.among;
  }

  pub goes : {ns : List NodeTree} {i j : ℕ} {l r : List Spot} {L : List (Option Ident)} → Goes l r → WalkedAll ns i j l L → WalkedAll ns i j r L
  goes g w = record { size = w.size; has = λ k ks b e. has_in g (w.has k ks b e) }

  pub goes_one : {n : NodeTree} {i j : ℕ} {l r : List Spot} {L : List (Option Ident)} → Goes l r → Walked n i j l L → Walked n i j r L
  goes_one g w = record { size = w.size; has = λ ks b e. has_in g (w.has ks b e) }

  pub no_child : {L : List (Option Ident)} (i : ℕ) (l : List Spot) → WalkedAll [] i i l L
  no_child i l = record { size = omega arith; has = λ k ks b e. absurd (cc) }

  pub child_and : {n : NodeTree} {ns : List NodeTree} {i j k : ℕ} {l : List Spot} {L : List (Option Ident)} → Walked n i j l L → WalkedAll ns j k l L → WalkedAll (n ∷ ns) i k l L
  child_and {n} {ns} {i} {j} {k} {l} {L} w r = record {
    size = let a = w.size in let b = r.size in let q = length-append (within n) (within_all ns) in omega (arith, a, b, q);
    has = λ m ks b e. at m ks b e;
  }
    where
      at : (m : ℕ) (ks : List ℕ) (b : plain.Body) → descend (slice_get (n ∷ ns) m) ks ≡ Some (a_block b) → Has (i + length (within_all (take m (n ∷ ns)) ++ in_front (slice_get (n ∷ ns) m) ks)) b l (labels_on (slice_get (n ∷ ns) m) ks L)
      at zero ks b e = w.has ks b e
      at (suc m) ks b e =
          let a = w.size in
          let front = within_all (take m ns) in
          let rest = in_front (slice_get ns m) ks in
          let p = length-append (within n ++ front) rest in
          let q = length-append (within n) front in
          let r2 = length-append front rest in
          let same : j + length (front ++ rest) ≡ i + length ((within n ++ front) ++ rest) = omega (arith, a, p, q, r2) in
          has_at same (r.has m ks b e)

  pub one_child : {n : NodeTree} {i j : ℕ} {l : List Spot} {L : List (Option Ident)} → Walked n i j l L → WalkedAll (n ∷ []) i j l L
  one_child {n} {i} {j} {l} w = child_and w (no_child j l)

  is_node : (m n : NodeTree) → ◌≡◌ {A = Option NodeTree} (Some m) (Some n) → m ≡ n
  is_node m n e = cc

  -- a node that is no block
  pub node_with : {n : NodeTree} {i j : ℕ} {l : List Spot} {L : List (Option Ident)} → ((b : plain.Body) → n ≡ a_block b → ⊥) → WalkedAll (children n) (suc i) j l (label_of n ++ L) → Walked n i j l L
  node_with {n} {i} {j} {l} {L} other w = record {
    size = let a = w.size in let q = ap (λ (x : List NodeTree). length x) (below_is n) in omega (arith, a, q);
    has = λ ks b e. at ks b e;
  }
    where
      at : (ks : List ℕ) (b : plain.Body) → descend (Some n) ks ≡ Some (a_block b) → Has (i + length (in_front (Some n) ks)) b l (labels_on (Some n) ks L)
      at [] b e = absurd (other b (is_node _ _ e))
      at (k ∷ ks) b e = has_at (omega arith) (w.has k ks b e)

  -- a block
  pub block_with : (b : plain.Body) (i j : ℕ) (s : Spot) (l : List Spot) (L : List (Option Ident)) → Has i b (s ∷ l) L → WalkedAll (children (a_block b)) (suc i) j l L → Walked (a_block b) i j (s ∷ l) L
  block_with b i j s l L this w = record {
    size = let a = w.size in let q = ap (λ (x : List NodeTree). length x) (below_is (a_block b)) in omega (arith, a, q);
    has = λ ks d e. at ks d e;
  }
    where
      same_block : (d : plain.Body) → a_block b ≡ a_block d → b ≡ d
      same_block d e = cc

      at : (ks : List ℕ) (d : plain.Body) → descend (Some (a_block b)) ks ≡ Some (a_block d) → Has (i + length (in_front (Some (a_block b)) ks)) d (s ∷ l) (labels_on (Some (a_block b)) ks L)
      at [] d e = has_at (omega arith) (subst (λ (x : plain.Body). Has i x (s ∷ l) L) (same_block d (is_node _ _ e)) this)
      at (k ∷ ks) d e = has_at (omega arith) (has_in (λ z m. there m) (w.has k ks d e))

  pub pattern_walked : {vs : List ℕ} {i j : ℕ} {p : PatternTree} {c : named.Pattern} {L : List (Option Ident)} (l : List Spot) → StandsPattern names vs i j p c → Walked (a_pattern p) i j l L
  pattern_walked {p = p} l h = record { size = h.size; has = λ ks b e. absurd (no_pattern_has p ks b e) }

  pub type_walked : {L : List (Option Ident)} (y : TypeTree) (i : ℕ) (l : List Spot) → Walked (a_type y) i (i + length (within (a_type y))) l L
  type_walked y i l = record { size = refl; has = λ ks b e. absurd (no_type_has y ks b e) }

  pub type_row : {L : List (Option Ident)} (y : Option TypeTree) (i k j : ℕ) (l : List Spot) (ns : List NodeTree) → k ≡ i + length (within_all (optional_type_nodes y)) → WalkedAll ns k j l L → WalkedAll (optional_type_nodes y ++ ns) i j l L
  type_row {L} None i k j l ns e w = let same : k ≡ i = omega (arith, e) in subst (λ (x : ℕ). WalkedAll ns x j l L) same w
  type_row {L} (Some y) i k j l ns e w =
      let q = length-append (within (a_type y)) [] in
      let same : k ≡ i + length (within (a_type y)) = omega (arith, e, q) in
      child_and (type_walked y i l) (subst (λ (x : ℕ). WalkedAll ns x j l L) same w)

  -- a place
  pub place_walked : {vs : List ℕ} {ls : List Around} {i j : ℕ} {e : Expression} {a : Exp} {L : List (Option Ident)} → StandsExp I names vs ls i j e a → Placed a → is_place a ≡ true → (l : List Spot) → Walked (an_expression e) i j l L
  place_walked (stands.s_var {i = i} q w h) p t l = node_with (no_expression_block _) (no_child (suc i) l)
  place_walked (stands.s_field q h) p t l = node_with (no_expression_block _) (one_child (place_walked h p.0 p.1 l))
  place_walked (stands.s_part q h) p t l = node_with (no_expression_block _) (one_child (place_walked h p.0 p.1 l))
  place_walked (stands.s_deref q h) p t l = node_with (no_expression_block _) (one_child (place_walked h p.0 p.1 l))
  place_walked (stands.s_int q) p t l = absurd (cc)
  place_walked (stands.s_bool q) p t l = absurd (cc)
  place_walked (stands.s_tuple q h) p t l = absurd (cc)
  place_walked (stands.s_negate q h) p t l = absurd (cc)
  place_walked (stands.s_invert q h) p t l = absurd (cc)
  place_walked (stands.s_borrow q h) p t l = absurd (cc)
  place_walked (stands.s_binary q g h) p t l = absurd (cc)
  place_walked (stands.s_assign q g h) p t l = absurd (cc)
  place_walked (stands.s_gives q w m h) p t l = absurd (cc)
  place_walked (stands.s_update q g h) p t l = absurd (cc)
  place_walked (stands.s_call q d h) p t l = absurd (cc)
  place_walked (stands.s_hidden q h) p t l = absurd (cc)
  place_walked (stands.s_input q) p t l = absurd (cc)
  place_walked (stands.s_variant q h) p t l = absurd (cc)
  place_walked (stands.s_make q h) p t l = absurd (cc)
  place_walked (stands.s_print q h) p t l = absurd (cc)
  place_walked (stands.s_block q h) p t l = absurd (cc)
  place_walked (stands.s_if q f g h) p t l = absurd (cc)
  place_walked (stands.s_if_let q d f g h) p t l = absurd (cc)
  place_walked (stands.s_match q g h) p t l = absurd (cc)
  place_walked (stands.s_loop q n h) p t l = absurd (cc)
  place_walked (stands.s_while q n g h) p t l = absurd (cc)
  place_walked (stands.s_while_let q n d g h) p t l = absurd (cc)
  place_walked (stands.s_break q h) p t l = absurd (cc)
  place_walked (stands.s_continue q h) p t l = absurd (cc)
  place_walked (stands.s_return q h) p t l = absurd (cc)

  -- ---- all forms

  abbrev V : Exp → tree.Exp
  V a = elaborated.value T a

  -- what is matched: a place, or a value
  matched_walked : {e : Expression} {i j : ℕ} {L : List (Option Ident)} (ar : spots.Around) (a : Exp) (b : Bool) → ((l : List Spot) → b ≡ true → Walked (an_expression e) i j l L) → Walked (an_expression e) i j (spots.spots ar (V a)) L
      → Walked (an_expression e) i j (spots_matched ar (elaborated.matched_as T b (elaborated.coercion_at T (node_of a)) a (V a))) L
  matched_walked ar a true p w = p _ refl
  matched_walked ar a false p w = goes_one (not_matched T (elaborated.coercion_at T (node_of a)) a (V a) ar) w

  -- a block with its last value
  pub block_at : {vs : List ℕ} {ls : List Around} {i j : ℕ} {b : plain.Body} {n : Node} {xs : named.Statements} {O : named.Else} → StandsBody I names vs ls i j b (named.body n xs O) → n.number ≡ i → PlacedBody (named.body n xs O)
      → (last : tree.Exp) → IsLast T n O last → (ar : spots.Around) → Alike ar vs ls → WalkedAll (children (a_block b)) (suc i) j (spots_of ar (elaborated.nested T xs last)) (loop_labels ls)
      → Walked (a_block b) i j (spots.a_block ar n.number (elaborated.nested T xs last) ∷ spots_of ar (elaborated.nested T xs last)) (loop_labels ls)
  block_at {vs} {ls} {i} {j} {b} {n} {xs} {O} h q p last is ar k w =
      let this : Has i b (spots.a_block ar i (elaborated.nested T xs last) ∷ spots_of ar (elaborated.nested T xs last)) (loop_labels ls) = record {
        variables = vs;
        around = ls;
        behind = j;
        node = n;
        row = xs;
        end = O;
        stands = h;
        placed = p;
        last = last;
        is_last = is;
        there = ar;
        alike = k;
        labels_are = refl;
        among = here;
      } in
      subst (λ (m : ℕ). Walked (a_block b) i j (spots.a_block ar m (elaborated.nested T xs last) ∷ spots_of ar (elaborated.nested T xs last)) (loop_labels ls)) (sym q)
      (block_with b i j (spots.a_block ar i (elaborated.nested T xs last)) (spots_of ar (elaborated.nested T xs last)) (loop_labels ls) this w)

  -- what stands behind a statement
  behind : (x : named.Statement) (rest : tree.Body) (vs : List ℕ) (ls : List Around) (ar : spots.Around) → Alike ar vs ls
      → (a' : spots.Around) × Alike a' (reverse (brought x) ++ vs) ls × Goes (spots_of a' rest) (spots_of ar (elaborated.statement T x rest))
  behind (named.declares n p t) rest vs ls ar m = (with_variables (variables p) ar, with_these ar vs (variables p) ls m, λ s i. i)
  behind (named.lets n p t e) rest vs ls ar m =
      let q = elaborated.pattern T None p in
      (with_variables (bound q) ar, in_pattern T None ar vs ls p m, λ s i. among_right (spots_matched ar (elaborated.matched T e (V e))) (spots_of (with_variables (bound q) ar) rest) i)
  behind (named.evaluates n e b) rest vs ls ar m = (ar, m, λ s i. among_right (spots.spots ar (V e)) (spots_of ar rest) i)

  absent_row : {L : List (Option Ident)} (y : Option TypeTree) (k j : ℕ) (l : List Spot) → j ≡ k + length (within_all (optional_type_nodes y)) → WalkedAll (optional_type_nodes y ++ []) k j l L
  absent_row y k j l e = type_row y k j j l [] e (no_child j l)

  mutual
    pub exp_walked : {vs : List ℕ} {ls : List Around} {i j : ℕ} {e : Expression} {a : Exp} → StandsExp I names vs ls i j e a → Placed a → (ar : spots.Around) → Alike ar vs ls → Walked (an_expression e) i j (spots.spots ar (V a)) (loop_labels ls)
    exp_walked (stands.s_int {i = i} q) p ar k = node_with (no_expression_block _) (no_child (suc i) _)
    exp_walked (stands.s_bool {i = i} q) p ar k = node_with (no_expression_block _) (no_child (suc i) _)
    exp_walked (stands.s_tuple {n = n} {xs = xs} q h) p ar k = node_with (no_expression_block _) (goes (in_tuple T n (elaborated.operands T 0 xs) ar) (exps_walked 0 h p ar k))
    exp_walked (stands.s_var {i = i} q w h) p ar k = node_with (no_expression_block _) (no_child (suc i) _)
    exp_walked (stands.s_field q h) p ar k = node_with (no_expression_block _) (one_child (place_walked h p.0 p.1 _))
    exp_walked (stands.s_part q h) p ar k = node_with (no_expression_block _) (one_child (place_walked h p.0 p.1 _))
    exp_walked (stands.s_deref q h) p ar k = node_with (no_expression_block _) (one_child (place_walked h p.0 p.1 _))
    exp_walked (stands.s_negate {a = a} q h) p ar k = node_with (no_expression_block _) (one_child (goes_one (λ s i. among_left (spots.spots ar (V a)) [] i) (exp_walked h p ar k)))
    exp_walked (stands.s_invert {a = a} q h) p ar k = node_with (no_expression_block _) (one_child (goes_one (λ s i. among_left (spots.spots ar (V a)) [] i) (exp_walked h p ar k)))
    exp_walked (stands.s_borrow q h) p ar k = node_with (no_expression_block _) (one_child (place_walked h p.0 p.1 _))
    exp_walked (stands.s_binary {n = n} {o = o} {a = a} {b = b} q g h) p ar k =
        node_with (no_expression_block _) (child_and (goes_one (left_operand T n o (V a) (V b) ar) (exp_walked g p.0 ar k)) (one_child (goes_one (right_operand T n o (V a) (V b) ar) (exp_walked h p.1 ar k))))
    exp_walked (stands.s_assign q g h) p ar k = node_with (no_expression_block _) (child_and (place_walked g p.0.0 p.0.1 _) (one_child (exp_walked h p.1 ar k)))
    exp_walked (stands.s_gives {i = i} {t = t} {x = x} q w m h) p ar k =
        node_with (no_expression_block _) (child_and (node_with (no_expression_block (plain.var t x)) (no_child (suc (suc i)) _)) (one_child (exp_walked h p ar k)))
    exp_walked (stands.s_update q g h) p ar k = node_with (no_expression_block _) (child_and (place_walked g p.0.0 p.0.1 _) (one_child (exp_walked h p.1 ar k)))
    exp_walked (stands.s_call {n = n} {k = f} {xs = xs} q d h) p ar k =
        node_with (no_expression_block _) (goes (passed T n (elaborated.coercion_at T n) (tree.call (elaborated.mark T n) f (elaborated.operands T 0 xs)) ar) (exps_walked 0 h p ar k))
    exp_walked (stands.s_hidden q h) p ar k = absurd p
    exp_walked (stands.s_input {i = i} q) p ar k = node_with (no_expression_block _) (no_child (suc i) _)
    exp_walked (stands.s_variant q h) p ar k = node_with (no_expression_block _) (arguments_walked h p ar k)
    exp_walked (stands.s_make {k = i} q h) p ar k = node_with (no_expression_block _) (fields_walked i h p ar k)
    exp_walked (stands.s_print q h) p ar k = node_with (no_expression_block _) (one_child (exp_walked h p ar k))
    exp_walked (stands.s_block q h) p ar k = node_with (no_expression_block _) (one_child (body_walked h p ar k))
    exp_walked (stands.s_if {vs = vs} {ls = ls} {n = n} {C = C} {B = B} {O = O} q f g h) p ar k =
        let m = elaborated.mark_if T n (named.body_never B && named.else_never O) in
        let x = tree.of_value (V C) in
        let t = tree.exactly n.number (tree.truth true) in
        let b = elaborated.body T B in
        let o = elaborated.otherwise T n O in
        node_with (no_expression_block _) (child_and (goes_one (to_first ar m x t b o) (exp_walked f p.0 ar k))
        (child_and (goes_one (to_then ar m x t b o) (body_walked g p.1 (with_variables [] ar) (same_around ar vs ls k))) (goes (to_other ar m x t b o) (otherwise_walked n h p.2 (with_variables [] ar) (same_around ar vs ls k)))))
    exp_walked (stands.s_if_let {vs = vs} {ls = ls} {n = n} {P = P} {a = a} {B = B} {O = O} q d f g h) p ar k =
        let m = elaborated.mark_if T n (named.body_never B && named.else_never O) in
        let x = elaborated.matched T a (V a) in
        let t = elaborated.pattern T None P in
        let b = elaborated.body T B in
        let o = elaborated.otherwise T n O in
        node_with (no_expression_block _) (child_and (pattern_walked _ d) (child_and (goes_one (to_first ar m x t b o) (matched_walked ar a (is_place a) (λ l e. place_walked f p.0 e l) (exp_walked f p.0 ar k)))
        (child_and (goes_one (to_then ar m x t b o) (body_walked g p.1 (with_variables (bound t) ar) (in_pattern T None ar vs ls P k))) (goes (to_other ar m x t b o) (otherwise_walked n h p.2 (with_variables [] ar) (same_around ar vs ls k))))))
    exp_walked (stands.s_match {n = n} {a = a} {L = L} q g h) p ar k =
        let x = elaborated.matched T a (V a) in
        node_with (no_expression_block _) (child_and (goes_one (λ s i. among_left (spots_matched ar x) (spots_armed ar (elaborated.arms T L)) i) (matched_walked ar a (is_place a) (λ l e. place_walked g p.0 e l) (exp_walked g p.0 ar k)))
        (goes (λ s i. among_right (spots_matched ar x) (spots_armed ar (elaborated.arms T L)) i) (arms_walked h p.1 ar k)))
    exp_walked (stands.s_loop {vs = vs} {ls = ls} {l = l} {k = r} q new h) p ar k = node_with (no_expression_block _) (one_child (body_walked h p (with_loop r ar) (in_loop ar vs ls l r new k)))
    exp_walked (stands.s_while {vs = vs} {ls = ls} {n = n} {l = l} {k = r} {C = C} {B = B} q new g h) p ar k =
        let m = elaborated.mark_if T (named.body_node B) (named.body_never B) in
        let x = tree.of_value (V C) in
        let t = tree.exactly n.number (tree.truth true) in
        let b = elaborated.body T B in
        let o = elaborated.leaves n r in
        let a2 = with_loop r ar in
        node_with (no_expression_block _) (child_and (goes_one (to_first a2 m x t b o) (exp_walked g p.0 a2 (in_test ar vs ls l r new k))) (one_child (goes_one (to_then a2 m x t b o) (body_walked h p.1 (with_variables [] a2) (same_around a2 vs (a_loop l r ∷ ls) (in_loop ar vs ls l r new k))))))
    exp_walked (stands.s_while_let {vs = vs} {ls = ls} {n = n} {l = l} {k = r} {P = P} {a = a} {B = B} q new d g h) p ar k =
        let m = elaborated.mark_if T (named.body_node B) (named.body_never B) in
        let x = elaborated.matched T a (V a) in
        let t = elaborated.pattern T None P in
        let b = elaborated.body T B in
        let o = elaborated.leaves n r in
        let a2 = with_loop r ar in
        node_with (no_expression_block _) (child_and (pattern_walked _ d) (child_and (goes_one (to_first a2 m x t b o) (matched_walked a2 a (is_place a) (λ l e. place_walked g p.0 e l) (exp_walked g p.0 a2 (in_test ar vs ls l r new k))))
        (one_child (goes_one (to_then a2 m x t b o) (body_walked h p.1 (with_variables (bound t) a2) (in_pattern T None a2 vs (a_loop l r ∷ ls) P (in_loop ar vs ls l r new k)))))))
    exp_walked (stands.s_break {i = i} q h) p ar k = node_with (no_expression_block _) (no_child (suc i) _)
    exp_walked (stands.s_continue {i = i} q h) p ar k = node_with (no_expression_block _) (no_child (suc i) _)
    exp_walked (stands.s_return {n = n} {O = O} q h) p ar k =
        node_with (no_expression_block _) (goes (λ s i. among_left (spots.spots ar (elaborated.returned T n O)) (spots.a_return ar n.number ∷ []) i) (returned_walked n h p ar k))

    exps_walked : {vs : List ℕ} {ls : List Around} {i j : ℕ} {es : plain.Expressions} {xs : named.Exps} (n : ℕ) → StandsExps I names vs ls i j es xs → PlacedAll xs → (ar : spots.Around) → Alike ar vs ls
        → WalkedAll (expression_nodes es) i j (spots_in ar (elaborated.operands T n xs)) (loop_labels ls)
    exps_walked n (stands.s_no_exp {i = i}) p ar k = no_child i []
    exps_walked n (stands.s_exp_and {a = a} {xs = xs} g h) p ar k =
        child_and (goes_one (λ s i. among_left (spots.spots ar (V a)) (spots_in ar (elaborated.operands T (suc n) xs)) i) (exp_walked g p.0 ar k))
        (goes (λ s i. among_right (spots.spots ar (V a)) (spots_in ar (elaborated.operands T (suc n) xs)) i) (exps_walked (suc n) h p.1 ar k))

    otherwise_walked : {vs : List ℕ} {ls : List Around} {i j : ℕ} {o : plain.OptionalExpression} {O : named.Else} (n : Node) → StandsElse I names vs ls i j o O → PlacedElse O → (ar : spots.Around) → Alike ar vs ls
        → WalkedAll (optional_nodes o) i j (spots.spots ar (elaborated.otherwise T n O)) (loop_labels ls)
    otherwise_walked n (stands.s_absent {i = i}) p ar k = no_child i []
    otherwise_walked n (stands.s_present h) p ar k = one_child (exp_walked h p ar k)

    returned_walked : {vs : List ℕ} {ls : List Around} {i j : ℕ} {o : plain.OptionalExpression} {O : named.Else} (n : Node) → StandsElse I names vs ls i j o O → PlacedElse O → (ar : spots.Around) → Alike ar vs ls
        → WalkedAll (optional_nodes o) i j (spots.spots ar (elaborated.returned T n O)) (loop_labels ls)
    returned_walked n (stands.s_absent {i = i}) p ar k = no_child i []
    returned_walked n (stands.s_present h) p ar k = one_child (exp_walked h p ar k)

    pub tail_walked : {vs : List ℕ} {ls : List Around} {i j : ℕ} {o : plain.OptionalExpression} {O : named.Else} (n : Node) → StandsElse I names vs ls i j o O → PlacedElse O → (ar : spots.Around) → Alike ar vs ls
        → WalkedAll (optional_nodes o) i j (spots.spots ar (elaborated.tail T n O)) (loop_labels ls)
    tail_walked n (stands.s_absent {i = i}) p ar k = no_child i []
    tail_walked n (stands.s_present h) p ar k = one_child (exp_walked h p ar k)

    arguments_walked : {vs : List ℕ} {ls : List Around} {i j : ℕ} {es : plain.OptionalExpressions} {xs : named.Exps} → StandsArguments I names vs ls i j es xs → PlacedAll xs → (ar : spots.Around) → Alike ar vs ls
        → WalkedAll (argument_nodes es) i j (spots_in ar (elaborated.operands T 0 xs)) (loop_labels ls)
    arguments_walked (stands.s_no_list {i = i}) p ar k = no_child i []
    arguments_walked (stands.s_list h) p ar k = exps_walked 0 h p ar k

    fields_walked : {vs : List ℕ} {ls : List Around} {i j : ℕ} {fs : plain.FieldExpressions} {xs : named.Fields} (n : ℕ) → StandsFields I names vs ls i j fs xs → PlacedFields xs → (ar : spots.Around) → Alike ar vs ls
        → WalkedAll (field_nodes fs) i j (spots_in ar (elaborated.fields T n xs)) (loop_labels ls)
    fields_walked n (stands.s_no_field {i = i}) p ar k = no_child i []
    fields_walked n (stands.s_field_and {a = a} {xs = xs} g h) p ar k =
        child_and (goes_one (λ s i. among_left (spots.spots ar (V a)) (spots_in ar (elaborated.fields T n xs)) i) (exp_walked g p.0 ar k))
        (goes (λ s i. among_right (spots.spots ar (V a)) (spots_in ar (elaborated.fields T n xs)) i) (fields_walked n h p.1 ar k))

    arms_walked : {vs : List ℕ} {ls : List Around} {i j : ℕ} {l : plain.Arms} {L : named.Arms} → StandsArms I names vs ls i j l L → PlacedArms L → (ar : spots.Around) → Alike ar vs ls → WalkedAll (arm_nodes l) i j (spots_armed ar (elaborated.arms T L)) (loop_labels ls)
    arms_walked (stands.s_no_arm {i = i}) p ar k = no_child i []
    arms_walked (stands.s_arm_and {vs = vs} {ls = ls} {P = P} {a = a} {L = L} d g h) p ar k =
        let t = elaborated.pattern T None P in
        let first = spots.spots (with_variables (bound t) ar) (V a) in
        let rest = spots_armed ar (elaborated.arms T L) in
        child_and (pattern_walked _ d) (child_and (goes_one (λ s i. among_left first rest i) (exp_walked g p.0 (with_variables (bound t) ar) (in_pattern T None ar vs ls P k))) (goes (λ s i. among_right first rest i) (arms_walked h p.1 ar k)))

    body_walked : {vs : List ℕ} {ls : List Around} {i j : ℕ} {b : plain.Body} {B : named.Body} → StandsBody I names vs ls i j b B → PlacedBody B → (ar : spots.Around) → Alike ar vs ls → Walked (a_block b) i j (spots.spots ar (elaborated.body T B)) (loop_labels ls)
    body_walked (stands.s_body {vs = vs} {ls = ls} {i = i} {j = j} {s = s} {n = n} {ss = ss} {xs = xs} {o = o} {O = O} q c g h) p ar k =
        let last = elaborated.tail T n O in
        block_at (stands.s_body q c g h) q p last (inl refl) ar k (row_walked g p.0 last ar k (optional_nodes o) j (λ a' m. tail_walked n h p.1 a' m))

    -- what follows the statements stands in the scope behind them
    pub row_walked : {vs after : List ℕ} {ls : List Around} {i k : ℕ} {ss : plain.Statements} {xs : named.Statements} → StandsRow I names vs ls i k ss xs after → PlacedRow xs → (last : tree.Exp) → (ar : spots.Around) → Alike ar vs ls
        → (ns : List NodeTree) (j : ℕ) → ((a' : spots.Around) → Alike a' after ls → WalkedAll ns k j (spots.spots a' last) (loop_labels ls)) → WalkedAll (statement_nodes ss ++ ns) i j (spots_of ar (elaborated.nested T xs last)) (loop_labels ls)
    row_walked stands.s_no_statement p last ar m ns j f = f ar m
    row_walked (stands.s_statement_and {vs = vs} {ls = ls} {x = x} {xs = xs} g h) p last ar m ns j f =
        let rest = elaborated.nested T xs last in
        let b = behind x rest vs ls ar m in
        child_and (statement_walked g p.0 ar m rest) (goes b.2 (row_walked h p.1 last b.0 b.1 ns j f))

    statement_walked : {vs : List ℕ} {ls : List Around} {i j : ℕ} {a : plain.Statement} {x : named.Statement} → StandsStatement I names vs ls i j a x → PlacedStatement x → (ar : spots.Around) → Alike ar vs ls → (rest : tree.Body)
        → Walked (a_statement a) i j (spots_of ar (elaborated.statement T x rest)) (loop_labels ls)
    statement_walked (stands.s_declares {k = k} {j = j} {y = y} q d e) p ar m rest = node_with (no_statement_block _) (child_and (pattern_walked _ d) (absent_row y k j _ e))
    statement_walked (stands.s_lets {k = k} {l = l} {j = j} {P = P} {y = y} {a = a} q d e h) p ar m rest =
        let t = elaborated.pattern T None P in
        node_with (no_statement_block _) (child_and (pattern_walked _ d) (type_row y k l j _ (an_expression _ ∷ []) e
        (one_child (goes_one (λ s i. among_left (spots_matched ar (elaborated.matched T a (V a))) (spots_of (with_variables (bound t) ar) rest) i) (matched_walked ar a (is_place a) (λ r z. place_walked h p z r) (exp_walked h p ar m))))))
    statement_walked (stands.s_evaluates {a = a} q h) p ar m rest = node_with (no_statement_block _) (one_child (goes_one (λ s i. among_left (spots.spots ar (V a)) (spots_of ar rest) i) (exp_walked h p ar m)))
