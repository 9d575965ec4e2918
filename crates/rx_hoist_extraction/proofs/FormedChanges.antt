-- A part of a formed tree in which special places become something else is formed, where these are: by induction on the part. What
-- ends in a block still does, and a branch stays one.
use Rattle.std.proofs.Common.{◌≡◌, ℕ, Bool, true, false, List, ◌∷◌, ◌++◌, Option, refl}
use Rattle.rx_core.specs.declared.types.Span.{Span}
use Rattle.rx_tree.specs.declared.tree.Ident.{Ident}
use Rattle.rx_tree.specs.Plain as plain
use Rattle.rx_tree.specs.Plain.{TypeTree, PatternTree, Expression, Expressions, OptionalExpression, OptionalExpressions, FieldExpressions, Arms, Body, Statement, Statements}
use Rattle.rx_resolve_names.specs.Meant.{Around, a_loop, a_test}
use Rattle.rx_print_spelling.specs.Places.{is_like, is_branch}
use Rattle.rx_print_spelling.specs.Formed.{Spells, MaybeLasting, WrittenType, MayLack, SomeExpression, SomeArm, EndsWell, MoreFollows, has_semicolon, Formed, FormedList, FormedOptionalList, FormedFields, FormedOptional, FormedElse, FormedArms, FormedBody, FormedStatement, FormedStatements}
use Rattle.rx_hoist_extraction.specs.Names.{Names, bound, bound_by, behind_all}
use Rattle.rx_hoist_extraction.specs.Changed.{Changes, changed, changed_all, changed_optional, changed_arguments, changed_fields, changed_arms, changed_body, changed_statement, changed_statements}

-- what is asked of the special places
pub record FormedPlaces (C : Changes) : Type 0 where
  pub variable : (own : Names) (s : Span) (x : List ℕ) → Spells x → Formed (C.at_variable own s x)
  pub breaking : (ls : List Around) (s : Span) (l : Option Ident) → MaybeLasting l → Formed (C.at_break ls s l)
  pub continuing : (ls : List Around) (s : Span) (l : Option Ident) → MaybeLasting l → Formed (C.at_continue ls s l)
  pub returning : (s : Span) (o : OptionalExpression) → FormedOptional o → Formed (C.at_return s o)
  pub typing : (p : PatternTree) (t : Option TypeTree) → WrittenType t → WrittenType (C.at_let p t)
  pub blocking : (b c : Body) → FormedBody b → FormedBody c → FormedBody (C.at_block b c)

-- ---- what a part is seen as

same_like : (C : Changes) (own : Names) (ls : List Around) (e : Expression) → is_like e ≡ true → is_like (changed C own ls e) ≡ true
same_like C own ls (plain.block s b) l = refl
same_like C own ls (plain.if s c b o) l = refl
same_like C own ls (plain.if_let s p e b o) l = refl
same_like C own ls (plain.match s e arms) l = refl
same_like C own ls (plain.loop s l' b) l = refl
same_like C own ls (plain.while s l' c b) l = refl
same_like C own ls (plain.while_let s l' p e b) l = refl
same_like C own ls _ l = absurd cc

same_branch : (C : Changes) (own : Names) (ls : List Around) (e : Expression) → is_branch e ≡ true → is_branch (changed C own ls e) ≡ true
same_branch C own ls (plain.block s b) l = refl
same_branch C own ls (plain.if s c b o) l = refl
same_branch C own ls (plain.if_let s p e b o) l = refl
same_branch C own ls _ l = absurd cc

same_end : (C : Changes) (own : Names) (ls : List Around) (e : Expression) (b : Bool) → EndsWell b e → EndsWell b (changed C own ls e)
same_end C own ls e true w = w
same_end C own ls e false w = same_like C own ls e w

same_lack : (C : Changes) (own : Names) (ls : List Around) (p : PatternTree) (o : OptionalExpression) → MayLack p o → MayLack p (changed_optional C own ls o)
same_lack C own ls p plain.absent w = w
same_lack C own ls (plain.bind s n m) (plain.present e) w = tt
same_lack C own ls _ (plain.present e) w = tt

same_semicolon : (C : Changes) (own : Names) (ls : List Around) (a : Statement) → has_semicolon (changed_statement C own ls a) ≡ has_semicolon a
same_semicolon C own ls (plain.let_statement s p t o) = refl
same_semicolon C own ls (plain.expression_statement s e b) = refl

same_follows : (C : Changes) (own new : Names) (ls : List Around) (b : Bool) (ss : Statements) (o : OptionalExpression) → MoreFollows b ss o
    → MoreFollows b (changed_statements C own ls ss) (changed_optional C new ls o)
same_follows C own new ls true ss o w = w
same_follows C own new ls false plain.no_statement plain.absent w = w
same_follows C own new ls false plain.no_statement (plain.present e) w = w
same_follows C own new ls false (plain.statement_and a ss) o w = w

follows_at : (C : Changes) (own new : Names) (ls : List Around) (a : Statement) (ss : Statements) (o : OptionalExpression) → MoreFollows (has_semicolon a) ss o
    → MoreFollows (has_semicolon (changed_statement C own ls a)) (changed_statements C (bound_by a ++ own) ls ss) (changed_optional C new ls o)
follows_at C own new ls (plain.let_statement s p t i) ss o w = w
follows_at C own new ls (plain.expression_statement s e b) ss o w = same_follows C own new ls b ss o w

same_some : (C : Changes) (own : Names) (ls : List Around) (es : Expressions) → SomeExpression es → SomeExpression (changed_all C own ls es)
same_some C own ls plain.no_expression w = w
same_some C own ls (plain.expression_and e es) w = w

same_arms : (C : Changes) (own : Names) (ls : List Around) (arms : Arms) → SomeArm arms → SomeArm (changed_arms C own ls arms)
same_arms C own ls plain.no_arm w = w
same_arms C own ls (plain.arm_and p e rest) w = w

-- ---- the walk

mutual
  pub formed : (C : Changes) → FormedPlaces C → (own : Names) (ls : List Around) (e : Expression) → Formed e → Formed (changed C own ls e)
  formed C F own ls (plain.int s v k) f = f
  formed C F own ls (plain.bool s b) f = f
  formed C F own ls (plain.tuple s es) f = formed_list C F own ls es f
  formed C F own ls (plain.var s x) f = F.variable own s x f
  formed C F own ls (plain.field s e x) f = (formed C F own ls e f.0, f.1)
  formed C F own ls (plain.part s e i) f = (formed C F own ls e f.0, f.1)
  formed C F own ls (plain.deref s e) f = formed C F own ls e f
  formed C F own ls (plain.negate s e) f = formed C F own ls e f
  formed C F own ls (plain.invert s e) f = formed C F own ls e f
  formed C F own ls (plain.borrow s m e) f = formed C F own ls e f
  formed C F own ls (plain.binary s o a b) f = (formed C F own ls a f.0, formed C F own ls b f.1)
  formed C F own ls (plain.assign s a b) f = (formed C F own ls a f.0, formed C F own ls b f.1)
  formed C F own ls (plain.update s o a b) f = (formed C F own ls a f.0, formed C F own ls b f.1)
  formed C F own ls (plain.call s n es) f = (f.0, formed_list C F own ls es f.1)
  formed C F own ls (plain.next_input s) f = f
  formed C F own ls (plain.variant s a v es) f = (f.0, f.1, formed_arguments C F own ls es f.2)
  formed C F own ls (plain.make s x fs) f = (f.0, formed_fields C F own ls fs f.1)
  formed C F own ls (plain.print s e) f = formed C F own ls e f
  formed C F own ls (plain.block s b) f = formed_body C F own ls b f
  formed C F own ls (plain.if s c b o) f = (formed C F own ls c f.0, formed_body C F own ls b f.1, formed_else C F own ls o f.2)
  formed C F own ls (plain.if_let s p e b o) f = (f.0, formed C F own ls e f.1, formed_body C F (bound p ++ own) ls b f.2, formed_else C F own ls o f.3)
  formed C F own ls (plain.match s e arms) f = (formed C F own ls e f.0, same_arms C own ls arms f.1, formed_arms C F own ls arms f.2)
  formed C F own ls (plain.loop s l b) f = (f.0, formed_body C F own (a_loop l 0 ∷ ls) b f.1)
  formed C F own ls (plain.while s l c b) f =
      (f.0, formed C F own (a_test ∷ a_loop l 0 ∷ ls) c f.1, formed_body C F own (a_loop l 0 ∷ ls) b f.2)
  formed C F own ls (plain.while_let s l p e b) f =
      (f.0, f.1, formed C F own (a_test ∷ a_loop l 0 ∷ ls) e f.2, formed_body C F (bound p ++ own) (a_loop l 0 ∷ ls) b f.3)
  formed C F own ls (plain.break s l) f = F.breaking ls s l f
  formed C F own ls (plain.continue s l) f = F.continuing ls s l f
  formed C F own ls (plain.return s o) f = F.returning s (changed_optional C own ls o) (formed_optional C F own ls o f)

  formed_list : (C : Changes) → FormedPlaces C → (own : Names) (ls : List Around) (es : Expressions) → FormedList es → FormedList (changed_all C own ls es)
  formed_list C F own ls plain.no_expression f = f
  formed_list C F own ls (plain.expression_and e es) f = (formed C F own ls e f.0, formed_list C F own ls es f.1)

  pub formed_optional : (C : Changes) → FormedPlaces C → (own : Names) (ls : List Around) (o : OptionalExpression) → FormedOptional o → FormedOptional (changed_optional C own ls o)
  formed_optional C F own ls plain.absent f = f
  formed_optional C F own ls (plain.present e) f = formed C F own ls e f

  formed_else : (C : Changes) → FormedPlaces C → (own : Names) (ls : List Around) (o : OptionalExpression) → FormedElse o → FormedElse (changed_optional C own ls o)
  formed_else C F own ls plain.absent f = f
  formed_else C F own ls (plain.present e) f = (same_branch C own ls e f.0, formed C F own ls e f.1)

  formed_arguments : (C : Changes) → FormedPlaces C → (own : Names) (ls : List Around) (es : OptionalExpressions) → FormedOptionalList es → FormedOptionalList (changed_arguments C own ls es)
  formed_arguments C F own ls plain.no_list f = f
  formed_arguments C F own ls (plain.a_list es) f = (same_some C own ls es f.0, formed_list C F own ls es f.1)

  formed_fields : (C : Changes) → FormedPlaces C → (own : Names) (ls : List Around) (fs : FieldExpressions) → FormedFields fs → FormedFields (changed_fields C own ls fs)
  formed_fields C F own ls plain.no_field f = f
  formed_fields C F own ls (plain.field_and x e fs) f = (f.0, formed C F own ls e f.1, formed_fields C F own ls fs f.2)

  formed_arms : (C : Changes) → FormedPlaces C → (own : Names) (ls : List Around) (arms : Arms) → FormedArms arms → FormedArms (changed_arms C own ls arms)
  formed_arms C F own ls plain.no_arm f = f
  formed_arms C F own ls (plain.arm_and p e rest) f = (f.0, formed C F (bound p ++ own) ls e f.1, formed_arms C F own ls rest f.2)

  pub formed_body : (C : Changes) → FormedPlaces C → (own : Names) (ls : List Around) (b : Body) → FormedBody b → FormedBody (changed_body C own ls b)
  formed_body C F own ls (plain.body s ss o) f = F.blocking (plain.body s ss o)
      (plain.body s (changed_statements C own ls ss) (changed_optional C (behind_all own ss) ls o)) f
      (formed_statements C F own (behind_all own ss) ls ss o f.0, formed_optional C F (behind_all own ss) ls o f.1)

  pub formed_statement : (C : Changes) → FormedPlaces C → (own : Names) (ls : List Around) (a : Statement) → FormedStatement a → FormedStatement (changed_statement C own ls a)
  formed_statement C F own ls (plain.let_statement s p t o) f =
      (same_lack C own ls p o f.0, f.1, F.typing p t f.2, formed_optional C F own ls o f.3)
  formed_statement C F own ls (plain.expression_statement s e b) f = (same_end C own ls e b f.0, formed C F own ls e f.1)

  -- the names in scope at the tail are told apart, since they come from the whole list
  pub formed_statements : (C : Changes) → FormedPlaces C → (own new : Names) (ls : List Around) (ss : Statements) (o : OptionalExpression) → FormedStatements ss o
      → FormedStatements (changed_statements C own ls ss) (changed_optional C new ls o)
  formed_statements C F own new ls plain.no_statement o f = f
  formed_statements C F own new ls (plain.statement_and a ss) o f =
      (formed_statement C F own ls a f.0, follows_at C own new ls a ss o f.1, formed_statements C F (bound_by a ++ own) new ls ss o f.2)
