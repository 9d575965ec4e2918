-- Where no pattern of a function binds a name, the statements in front of a run in it don't.
use Rattle.std.proofs.Common.{◌≡◌, ℕ, zero, suc, Bool, true, false, ◌||◌, List, [], ◌∷◌, ◌++◌, take, Option, Some, None, slice_get, refl, ap, ◌∙◌}
use Rattle.rx_tree.specs.Lists.{listed, statements}
use Rattle.rx_tree.specs.Plain as plain
use Rattle.rx_tree.specs.Plain.{Body, OptionalExpression, PatternTree, Statement, Statements}
use Rattle.rx_tree.specs.Positions.{a_block, a_pattern, a_statement, children, descend, NodeTree, optional_nodes, statement_nodes}
use Rattle.rx_hoist_extraction.specs.Names.{behind_all, bound, bound_by, is_among, Names}
use Rattle.rx_hoist_extraction.specs.Run.{as_statements}
use Rattle.rx_engine_names.specs.Placed.{BindsNot}
use Rattle.rx_engine_names.proofs.Scoped.{among_append}

descend_on : (q : Option NodeTree) (ks js : List ℕ) → descend q (ks ++ js) ≡ descend (descend q ks) js
descend_on None [] [] = refl
descend_on None [] (j ∷ js) = refl
descend_on None (k ∷ ks) [] = refl
descend_on None (k ∷ ks) (j ∷ js) = refl
descend_on (Some n) [] js = refl
descend_on (Some n) (k ∷ ks) js = descend_on (slice_get (children n) k) ks js

module _ (name : List ℕ) where
  -- no pattern on a way from there binds it
  abbrev Free : Option NodeTree → Type 0
  Free n = (way : List ℕ) (p : PatternTree) → descend n way ≡ Some (a_pattern p) → is_among name (bound p) ≡ false

  statement_free : (a : Statement) → Free (Some (a_statement a)) → is_among name (bound_by a) ≡ false
  statement_free (plain.let_statement s p y o) h = h (0 ∷ []) p refl
  statement_free (plain.expression_statement s e b) h = refl

  neither : (a b : Bool) → a ≡ false → b ≡ false → (a || b) ≡ false
  neither true b d e = absurd (cc)
  neither false b d e = e

  row_free : (ss : Statements) (ns : List NodeTree) (k : ℕ) (own : Names) → ((i : ℕ) → Free (slice_get (statement_nodes ss ++ ns) i)) → is_among name own ≡ false → is_among name (behind_all own (as_statements (take k (listed ss)))) ≡ false
  row_free plain.no_statement ns zero own h e = e
  row_free plain.no_statement ns (suc k) own h e = e
  row_free (plain.statement_and a ss) ns zero own h e = e
  row_free (plain.statement_and a ss) ns (suc k) own h e =
      row_free ss ns k (bound_by a ++ own) (λ i. h (suc i)) (among_append name (bound_by a) own ∙ neither (is_among name (bound_by a)) (is_among name own) (statement_free a (h zero)) e)

  block_free : (b : Body) (k : ℕ) → Free (Some (a_block b)) → is_among name (behind_all [] (as_statements (take k (statements b)))) ≡ false
  block_free (plain.body s ss o) k h = row_free ss (optional_nodes o) k [] (λ i way p e. h (i ∷ way) p e) refl

pub front_free : (name : List ℕ) (whole b : Body) (way : List ℕ) (k : ℕ) → BindsNot name whole → descend (Some (a_block whole)) way ≡ Some (a_block b) → is_among name (behind_all [] (as_statements (take k (statements b)))) ≡ false
front_free name whole b way k h e =
    block_free name b k (λ ks p d. h (way ++ ks) p (descend_on (Some (a_block whole)) way ks ∙ ap (λ (n : Option NodeTree). descend n ks) e ∙ d))
