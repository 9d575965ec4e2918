-- A part whose kinds and types are pinned, and that is moved then, is the part in which both are done in one walk: by induction on it.
use Rattle.std.proofs.Common.{◌≡◌, List, ◌∷◌, ◌++◌, Option, refl, sym, ap, ◌∙◌}
use Rattle.std.specs.Prelude.{ℕ}
use Rattle.rx_core.specs.declared.types.Span.{Span}
use Rattle.rx_core.specs.declared.types.Kind.{Kind}
use Rattle.rx_tree.specs.declared.tree.Ident.{Ident}
use Rattle.rx_tree.specs.Plain as plain
use Rattle.rx_tree.specs.Plain.{TypeTree, PatternTree, Expression, Expressions, OptionalExpression, OptionalExpressions, FieldExpressions, Arms, Body, Statement, Statements}
use Rattle.rx_resolve_names.specs.Meant.{Around, a_loop, a_test}
use Rattle.rx_hoist_extraction.specs.Names.{Names, bound, bound_by, behind_all}
use Rattle.rx_hoist_extraction.specs.Changed.{Changes, kept, changed, changed_all, changed_optional, changed_arguments, changed_fields, changed_arms, changed_body, changed_statement, changed_statements}

-- E does what C does to what is pinned
pub record Both (C E : Changes) (kinds : Span → Option Kind → Option Kind) (types : PatternTree → Option TypeTree → Option TypeTree) : Type 0 where
  pub variable : (own : Names) (s : Span) (x : List ℕ) → E.at_variable own s x ≡ C.at_variable own s x
  pub breaking : (ls : List Around) (s : Span) (l : Option Ident) → E.at_break ls s l ≡ C.at_break ls s l
  pub continuing : (ls : List Around) (s : Span) (l : Option Ident) → E.at_continue ls s l ≡ C.at_continue ls s l
  pub returning : (s : Span) (o : OptionalExpression) → E.at_return s o ≡ C.at_return s o
  pub kind : (s : Span) (k : Option Kind) → E.at_int s k ≡ C.at_int s (kinds s k)
  pub typing : (p : PatternTree) (t : Option TypeTree) → E.at_let p t ≡ C.at_let p (types p t)
  pub blocks : (b c : Body) → E.at_block b c ≡ c
  pub moved_blocks : (b c : Body) → C.at_block b c ≡ c

abbrev pub pinning_by : (Span → Option Kind → Option Kind) → (PatternTree → Option TypeTree → Option TypeTree) → Changes
pinning_by kinds types = record kept { at_int = kinds; at_let = types }

module _ (C E : Changes) (kinds : Span → Option Kind → Option Kind) (types : PatternTree → Option TypeTree → Option TypeTree) (B : Both C E kinds types) where
  abbrev D : Changes
  D = pinning_by kinds types

  same_bound : (own : Names) (ls : List Around) (a : Statement) → bound_by (changed_statement D own ls a) ≡ bound_by a
  same_bound own ls (plain.let_statement s p t o) = refl
  same_bound own ls (plain.expression_statement s e b) = refl

  same_behind : (own new : Names) (ls : List Around) (ss : Statements) → behind_all new (changed_statements D own ls ss) ≡ behind_all new ss
  same_behind own new ls plain.no_statement = refl
  same_behind own new ls (plain.statement_and a ss) =
      ap (λ (xs : Names). behind_all (xs ++ new) (changed_statements D (bound_by a ++ own) ls ss)) (same_bound own ls a)
      ∙ same_behind (bound_by a ++ own) (bound_by a ++ new) ls ss

  mutual
    pub both : (own : Names) (ls : List Around) (e : Expression) → changed E own ls e ≡ changed C own ls (changed D own ls e)
    both own ls (plain.int s v k) = ap (plain.int s v) (B.kind s k)
    both own ls (plain.bool s b) = refl
    both own ls (plain.tuple s es) = ap (plain.tuple s) (both_all own ls es)
    both own ls (plain.var s x) = B.variable own s x
    both own ls (plain.field s e x) = ap (λ (z : Expression). plain.field s z x) (both own ls e)
    both own ls (plain.part s e i) = ap (λ (z : Expression). plain.part s z i) (both own ls e)
    both own ls (plain.deref s e) = ap (plain.deref s) (both own ls e)
    both own ls (plain.negate s e) = ap (plain.negate s) (both own ls e)
    both own ls (plain.invert s e) = ap (plain.invert s) (both own ls e)
    both own ls (plain.borrow s m e) = ap (plain.borrow s m) (both own ls e)
    both own ls (plain.binary s o a b) = rw (both own ls a, both own ls b) refl
    both own ls (plain.assign s a b) = rw (both own ls a, both own ls b) refl
    both own ls (plain.update s o a b) = rw (both own ls a, both own ls b) refl
    both own ls (plain.call s f es) = ap (plain.call s f) (both_all own ls es)
    both own ls (plain.next_input s) = refl
    both own ls (plain.variant s a v es) = ap (plain.variant s a v) (both_arguments own ls es)
    both own ls (plain.make s x fs) = ap (plain.make s x) (both_fields own ls fs)
    both own ls (plain.print s e) = ap (plain.print s) (both own ls e)
    both own ls (plain.block s b) = ap (plain.block s) (both_body own ls b)
    both own ls (plain.if s c b o) = rw (both own ls c, both_body own ls b, both_optional own ls o) refl
    both own ls (plain.if_let s p e b o) = rw (both own ls e, both_body (bound p ++ own) ls b, both_optional own ls o) refl
    both own ls (plain.match s e arms) = rw (both own ls e, both_arms own ls arms) refl
    both own ls (plain.loop s l b) = ap (plain.loop s l) (both_body own (a_loop l 0 ∷ ls) b)
    both own ls (plain.while s l c b) = rw (both own (a_test ∷ a_loop l 0 ∷ ls) c, both_body own (a_loop l 0 ∷ ls) b) refl
    both own ls (plain.while_let s l p e b) = rw (both own (a_test ∷ a_loop l 0 ∷ ls) e, both_body (bound p ++ own) (a_loop l 0 ∷ ls) b) refl
    both own ls (plain.break s l) = B.breaking ls s l
    both own ls (plain.continue s l) = B.continuing ls s l
    both own ls (plain.return s o) = ap (E.at_return s) (both_optional own ls o) ∙ B.returning s (changed_optional C own ls (changed_optional D own ls o))

    both_all : (own : Names) (ls : List Around) (es : Expressions) → changed_all E own ls es ≡ changed_all C own ls (changed_all D own ls es)
    both_all own ls plain.no_expression = refl
    both_all own ls (plain.expression_and e es) = rw (both own ls e, both_all own ls es) refl

    pub both_optional : (own : Names) (ls : List Around) (o : OptionalExpression) → changed_optional E own ls o ≡ changed_optional C own ls (changed_optional D own ls o)
    both_optional own ls plain.absent = refl
    both_optional own ls (plain.present e) = ap plain.present (both own ls e)

    both_arguments : (own : Names) (ls : List Around) (es : OptionalExpressions) → changed_arguments E own ls es ≡ changed_arguments C own ls (changed_arguments D own ls es)
    both_arguments own ls plain.no_list = refl
    both_arguments own ls (plain.a_list es) = ap plain.a_list (both_all own ls es)

    both_fields : (own : Names) (ls : List Around) (fs : FieldExpressions) → changed_fields E own ls fs ≡ changed_fields C own ls (changed_fields D own ls fs)
    both_fields own ls plain.no_field = refl
    both_fields own ls (plain.field_and x e fs) = rw (both own ls e, both_fields own ls fs) refl

    both_arms : (own : Names) (ls : List Around) (arms : Arms) → changed_arms E own ls arms ≡ changed_arms C own ls (changed_arms D own ls arms)
    both_arms own ls plain.no_arm = refl
    both_arms own ls (plain.arm_and p e rest) = rw (both (bound p ++ own) ls e, both_arms own ls rest) refl

    pub both_body : (own : Names) (ls : List Around) (b : Body) → changed_body E own ls b ≡ changed_body C own ls (changed_body D own ls b)
    both_body own ls (plain.body s ss o) =
        let ss' = changed_statements D own ls ss in
        let o' = changed_optional D (behind_all own ss) ls o in
        B.blocks (plain.body s ss o) (plain.body s (changed_statements E own ls ss) (changed_optional E (behind_all own ss) ls o))
        ∙ ap (λ (z : Statements). plain.body s z (changed_optional E (behind_all own ss) ls o)) (both_statements own ls ss)
        ∙ ap (λ (z : OptionalExpression). plain.body s (changed_statements C own ls ss') z) (both_optional (behind_all own ss) ls o)
        ∙ ap (λ (xs : Names). plain.body s (changed_statements C own ls ss') (changed_optional C xs ls o')) (sym (same_behind own own ls ss))
        ∙ sym (B.moved_blocks (plain.body s ss' o') (plain.body s (changed_statements C own ls ss') (changed_optional C (behind_all own ss') ls o')))

    both_statement : (own : Names) (ls : List Around) (a : Statement) → changed_statement E own ls a ≡ changed_statement C own ls (changed_statement D own ls a)
    both_statement own ls (plain.let_statement s p t o) = rw (B.typing p t, both_optional own ls o) refl
    both_statement own ls (plain.expression_statement s e b) = ap (λ (z : Expression). plain.expression_statement s z b) (both own ls e)

    pub both_statements : (own : Names) (ls : List Around) (ss : Statements) → changed_statements E own ls ss ≡ changed_statements C own ls (changed_statements D own ls ss)
    both_statements own ls plain.no_statement = refl
    both_statements own ls (plain.statement_and a ss) =
        ap (λ (z : Statement). plain.statement_and z (changed_statements E (bound_by a ++ own) ls ss)) (both_statement own ls a)
        ∙ ap (plain.statement_and (changed_statement C own ls (changed_statement D own ls a)))
        (both_statements (bound_by a ++ own) ls ss
        ∙ ap (λ (xs : Names). changed_statements C (xs ++ own) ls (changed_statements D (bound_by a ++ own) ls ss)) (sym (same_bound own ls a)))
