-- Other types for the `let`s of a body, and then others again: what is bound and what stands round a part doesn't matter, and the second
-- change after the first is one change. By induction on the part.
use Rattle.std.proofs.Common.{◌≡◌, List, ◌∷◌, ◌++◌, Option, Some, None, refl, ap}
use Rattle.std.specs.Prelude.{option_map}
use Rattle.rx_tree.specs.Plain as plain
use Rattle.rx_tree.specs.Plain.{TypeTree, Expression, Expressions, OptionalExpression, OptionalExpressions, FieldExpressions, Arms, Body, Statement, Statements}
use Rattle.rx_resolve_names.specs.Meant.{Around, a_loop, a_test}
use Rattle.rx_hoist_extraction.specs.Names.{Names, bound, bound_by, behind_all}
use Rattle.rx_hoist_extraction.specs.Changed.{changed, changed_all, changed_optional, changed_arguments, changed_fields, changed_arms, changed_body, changed_statement, changed_statements}
use Rattle.rx_compact_lifetimes.specs.Rewritten.{retyping}

module _ (f g h : TypeTree → TypeTree) (twice : (t : TypeTree) → f (g t) ≡ h t) where
  optional_twice : (t : Option TypeTree) → option_map f (option_map g t) ≡ option_map h t
  optional_twice None = refl
  optional_twice (Some t) = ap (λ x. Some x) (twice t)

  mutual
    pub retyped : (n m o : Names) (k l r : List Around) (e : Expression) → changed (retyping f) n k (changed (retyping g) m l e) ≡ changed (retyping h) o r e
    retyped n m o k l r (plain.int s v i) = refl
    retyped n m o k l r (plain.bool s b) = refl
    retyped n m o k l r (plain.tuple s es) = rw (retyped_all n m o k l r es) refl
    retyped n m o k l r (plain.var s x) = refl
    retyped n m o k l r (plain.field s e x) = rw (retyped n m o k l r e) refl
    retyped n m o k l r (plain.part s e i) = rw (retyped n m o k l r e) refl
    retyped n m o k l r (plain.deref s e) = rw (retyped n m o k l r e) refl
    retyped n m o k l r (plain.negate s e) = rw (retyped n m o k l r e) refl
    retyped n m o k l r (plain.invert s e) = rw (retyped n m o k l r e) refl
    retyped n m o k l r (plain.borrow s w e) = rw (retyped n m o k l r e) refl
    retyped n m o k l r (plain.binary s w a b) = rw (retyped n m o k l r a, retyped n m o k l r b) refl
    retyped n m o k l r (plain.assign s a b) = rw (retyped n m o k l r a, retyped n m o k l r b) refl
    retyped n m o k l r (plain.update s w a b) = rw (retyped n m o k l r a, retyped n m o k l r b) refl
    retyped n m o k l r (plain.call s x es) = rw (retyped_all n m o k l r es) refl
    retyped n m o k l r (plain.next_input s) = refl
    retyped n m o k l r (plain.variant s a v es) = rw (retyped_arguments n m o k l r es) refl
    retyped n m o k l r (plain.make s x fs) = rw (retyped_fields n m o k l r fs) refl
    retyped n m o k l r (plain.print s e) = rw (retyped n m o k l r e) refl
    retyped n m o k l r (plain.block s b) = rw (retyped_body n m o k l r b) refl
    retyped n m o k l r (plain.if s c b x) = rw (retyped n m o k l r c, retyped_body n m o k l r b, retyped_optional n m o k l r x) refl
    retyped n m o k l r (plain.if_let s p e b x) =
        rw (retyped n m o k l r e, retyped_body (bound p ++ n) (bound p ++ m) (bound p ++ o) k l r b, retyped_optional n m o k l r x) refl
    retyped n m o k l r (plain.match s e arms) = rw (retyped n m o k l r e, retyped_arms n m o k l r arms) refl
    retyped n m o k l r (plain.loop s x b) = rw (retyped_body n m o (a_loop x 0 ∷ k) (a_loop x 0 ∷ l) (a_loop x 0 ∷ r) b) refl
    retyped n m o k l r (plain.while s x c b) =
        rw (
          retyped n m o (a_test ∷ a_loop x 0 ∷ k) (a_test ∷ a_loop x 0 ∷ l) (a_test ∷ a_loop x 0 ∷ r) c,
          retyped_body n m o (a_loop x 0 ∷ k) (a_loop x 0 ∷ l) (a_loop x 0 ∷ r) b,
        ) refl
    retyped n m o k l r (plain.while_let s x p e b) =
        rw (
          retyped n m o (a_test ∷ a_loop x 0 ∷ k) (a_test ∷ a_loop x 0 ∷ l) (a_test ∷ a_loop x 0 ∷ r) e,
          retyped_body (bound p ++ n) (bound p ++ m) (bound p ++ o) (a_loop x 0 ∷ k) (a_loop x 0 ∷ l) (a_loop x 0 ∷ r) b,
        ) refl
    retyped n m o k l r (plain.break s x) = refl
    retyped n m o k l r (plain.continue s x) = refl
    retyped n m o k l r (plain.return s x) = rw (retyped_optional n m o k l r x) refl

    retyped_all : (n m o : Names) (k l r : List Around) (es : Expressions) → changed_all (retyping f) n k (changed_all (retyping g) m l es) ≡ changed_all (retyping h) o r es
    retyped_all n m o k l r plain.no_expression = refl
    retyped_all n m o k l r (plain.expression_and e es) = rw (retyped n m o k l r e, retyped_all n m o k l r es) refl

    retyped_optional : (n m o : Names) (k l r : List Around) (x : OptionalExpression)
        → changed_optional (retyping f) n k (changed_optional (retyping g) m l x) ≡ changed_optional (retyping h) o r x
    retyped_optional n m o k l r plain.absent = refl
    retyped_optional n m o k l r (plain.present e) = rw (retyped n m o k l r e) refl

    retyped_arguments : (n m o : Names) (k l r : List Around) (es : OptionalExpressions)
        → changed_arguments (retyping f) n k (changed_arguments (retyping g) m l es) ≡ changed_arguments (retyping h) o r es
    retyped_arguments n m o k l r plain.no_list = refl
    retyped_arguments n m o k l r (plain.a_list es) = rw (retyped_all n m o k l r es) refl

    retyped_fields : (n m o : Names) (k l r : List Around) (fs : FieldExpressions) → changed_fields (retyping f) n k (changed_fields (retyping g) m l fs) ≡ changed_fields (retyping h) o r fs
    retyped_fields n m o k l r plain.no_field = refl
    retyped_fields n m o k l r (plain.field_and x e fs) = rw (retyped n m o k l r e, retyped_fields n m o k l r fs) refl

    retyped_arms : (n m o : Names) (k l r : List Around) (arms : Arms) → changed_arms (retyping f) n k (changed_arms (retyping g) m l arms) ≡ changed_arms (retyping h) o r arms
    retyped_arms n m o k l r plain.no_arm = refl
    retyped_arms n m o k l r (plain.arm_and p e rest) =
        rw (retyped (bound p ++ n) (bound p ++ m) (bound p ++ o) k l r e, retyped_arms n m o k l r rest) refl

    pub retyped_body : (n m o : Names) (k l r : List Around) (b : Body) → changed_body (retyping f) n k (changed_body (retyping g) m l b) ≡ changed_body (retyping h) o r b
    retyped_body n m o k l r (plain.body s ss x) =
        rw (
          retyped_statements n m o k l r ss,
          retyped_optional (behind_all n (changed_statements (retyping g) m l ss)) (behind_all m ss) (behind_all o ss) k l r x,
        ) refl

    retyped_statement : (n m o : Names) (k l r : List Around) (a : Statement) → changed_statement (retyping f) n k (changed_statement (retyping g) m l a) ≡ changed_statement (retyping h) o r a
    retyped_statement n m o k l r (plain.let_statement s p t x) = rw (optional_twice t, retyped_optional n m o k l r x) refl
    retyped_statement n m o k l r (plain.expression_statement s e b) = rw (retyped n m o k l r e) refl

    retyped_statements : (n m o : Names) (k l r : List Around) (ss : Statements)
        → changed_statements (retyping f) n k (changed_statements (retyping g) m l ss) ≡ changed_statements (retyping h) o r ss
    retyped_statements n m o k l r plain.no_statement = refl
    retyped_statements n m o k l r (plain.statement_and a ss) =
        rw (retyped_statement n m o k l r a, retyped_statements (bound_by (changed_statement (retyping g) m l a) ++ n) (bound_by a ++ m) (bound_by a ++ o) k l r ss) refl
