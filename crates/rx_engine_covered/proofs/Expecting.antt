-- An expression that is put at a coercion site has the same matches.
use Rattle.std.proofs.Common.{◌≡◌, ℕ, List, [], ◌∷◌, ◌++◌, None, refl, sym, ap, subst}
use Rattle.rx_typed.specs.declared.nodes.Node.{Node}
use Rattle.rx_typed.specs.Types.{Declarations}
use Rattle.rx_typed.specs.Named as named
use Rattle.rx_typed.specs.Named.{node_of, Arms, Body, Else, Exp, Statements}
use Rattle.rx_typed.specs.Tree as tree
use Rattle.rx_typed.specs.Tree.{mark_of, Pattern}
use Rattle.rx_typed.specs.Elaborated.{arms, body, matched, nested, otherwise, pattern, tail, value, Assigned}
use Rattle.rx_cover.specs.Causes.{AllCovered, Covered}
use Rattle.rx_cover.specs.Choices.{choice_of, choices, choices_before, choices_behind, choices_within, patterns_of, Choice}
use Rattle.rx_engine_typing.specs.Expecting.{expecting, expecting_arms, expecting_body, expecting_else, expecting_node, expecting_site}
use Rattle.rx_engine_covered.specs.Within.{choices_in_body}
use Rattle.rx_engine_covered.proofs.Marks.{covered_both, covered_parts}
use Rattle.rx_engine_covered.proofs.Sited.{renamed, sited_covered}

module _ (T : Assigned) (D : Declarations) where
  abbrev In : tree.Exp → List Choice
  In e = choices (mark_of e).node e

  -- a block with another end
  other_end : (ss : Statements) (x y : tree.Exp) → (AllCovered D (In x) → AllCovered D (In y)) → AllCovered D (choices_within (nested T ss x)) → AllCovered D (choices_within (nested T ss y))
  other_end named.no_statement x y g h = g h
  other_end (named.statement_and (named.declares n p t) ss) x y g h = other_end ss x y g h
  other_end (named.statement_and (named.lets n p t e) ss) x y g h =
      let q = covered_parts D (choices_before (matched T e (value T e))) (choices_within (nested T ss x)) h.1 in
      (h.0, covered_both D (choices_before (matched T e (value T e))) (choices_within (nested T ss y)) q.0 (other_end ss x y g q.1))
  other_end (named.statement_and (named.evaluates n e s) ss) x y g h =
      let q = covered_parts D (In (value T e)) (choices_within (nested T ss x)) h in
      covered_both D (In (value T e)) (choices_within (nested T ss y)) q.0 (other_end ss x y g q.1)

  same_patterns : (l : Arms) → patterns_of (arms T (expecting_arms l)) ≡ patterns_of (arms T l)
  same_patterns named.no_arm = refl
  same_patterns (named.arm_and p e l) = ap (λ (ps : List Pattern). pattern T None p ∷ ps) (same_patterns l)

  abbrev Later : named.Exp → Type 0
  Later e = (k m : ℕ) → AllCovered D (choices k (value T e)) → AllCovered D (choices m (value T (expecting e)))

  of_body : (k : ℕ) (b : Body) → AllCovered D (choices k (body T b)) → AllCovered D (choices_in_body T b)
  of_body k (named.body n ss o) h = h

  to_body : (k : ℕ) (b : Body) → AllCovered D (choices_in_body T b) → AllCovered D (choices k (body T b))
  to_body k (named.body n ss o) h = h

  mutual
    pub expecting_covered : (e : Exp) (k m : ℕ) → AllCovered D (choices k (value T e)) → AllCovered D (choices m (value T (expecting e)))
    expecting_covered (named.block n b) k m h = to_body m (expecting_body b) (body_covered b (of_body k b h))
    expecting_covered (named.if n c b o) k m h =
        let C = In (value T c) in let B = In (body T b) in let O = In (otherwise T n o) in
        let p = covered_parts D C (B ++ (O ++ [])) h.1 in let q = covered_parts D B (O ++ []) p.1 in let r = covered_parts D O [] q.1 in
        let B' = In (body T (expecting_body b)) in let O' = In (otherwise T (expecting_node n) (expecting_else o)) in (
          renamed T D k m (tree.of_value (value T c)) _ h.0,
          covered_both D C (B' ++ (O' ++ [])) p.0 (covered_both D B' (O' ++ []) (to_body _ (expecting_body b) (body_covered b (of_body _ b q.0))) (covered_both D O' [] (otherwise_covered n (expecting_node n) o r.0) tt)),
        )
    expecting_covered (named.if_let n x e b o) k m h =
        let C = choices_before (matched T e (value T e)) in let B = In (body T b) in let O = In (otherwise T n o) in
        let p = covered_parts D C (B ++ (O ++ [])) h.1 in let q = covered_parts D B (O ++ []) p.1 in let r = covered_parts D O [] q.1 in
        let B' = In (body T (expecting_body b)) in let O' = In (otherwise T (expecting_node n) (expecting_else o)) in (
          renamed T D k m (matched T e (value T e)) _ h.0,
          covered_both D C (B' ++ (O' ++ [])) p.0 (covered_both D B' (O' ++ []) (to_body _ (expecting_body b) (body_covered b (of_body _ b q.0))) (covered_both D O' [] (otherwise_covered n (expecting_node n) o r.0) tt)),
        )
    expecting_covered (named.match n e l) k m h =
        let C = choices_before (matched T e (value T e)) in
        let p = covered_parts D C (choices_behind (arms T l)) h.1 in (
          subst (λ (ps : List Pattern). Covered D (choice_of m (matched T e (value T e)) ps)) (sym (same_patterns l)) (renamed T D k m (matched T e (value T e)) (patterns_of (arms T l)) h.0),
          covered_both D C (choices_behind (arms T (expecting_arms l))) p.0 (arms_covered l p.1),
        )
    expecting_covered e k m h = sited_covered T D (expecting_site (node_of e).site) e k m h

    body_covered : (b : Body) → AllCovered D (choices_in_body T b) → AllCovered D (choices_in_body T (expecting_body b))
    body_covered (named.body n ss o) h = other_end ss (tail T n o) (tail T (expecting_node n) (expecting_else o)) (tail_covered n (expecting_node n) o) h

    tail_covered : (n n' : Node) (o : Else) → AllCovered D (In (tail T n o)) → AllCovered D (In (tail T n' (expecting_else o)))
    tail_covered n n' named.absent h = tt
    tail_covered n n' (named.present e) h = expecting_covered e _ _ h

    otherwise_covered : (n n' : Node) (o : Else) → AllCovered D (In (otherwise T n o)) → AllCovered D (In (otherwise T n' (expecting_else o)))
    otherwise_covered n n' named.absent h = tt
    otherwise_covered n n' (named.present e) h = expecting_covered e _ _ h

    arms_covered : (l : Arms) → AllCovered D (choices_behind (arms T l)) → AllCovered D (choices_behind (arms T (expecting_arms l)))
    arms_covered named.no_arm h = tt
    arms_covered (named.arm_and p e l) h =
        let q = covered_parts D (In (value T e)) (choices_behind (arms T l)) h in
        covered_both D (In (value T (expecting e))) (choices_behind (arms T (expecting_arms l))) (expecting_covered e _ _ q.0) (arms_covered l q.1)
