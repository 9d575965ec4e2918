-- Whether a tree is formed is the same for trees that are equal apart from spans: by recursion on the tree.
use Rattle.std.proofs.Common.{◌≡◌, Bool, true, false, List, [], ◌∷◌, Option, Some, None, map, refl, sym, ap, subst, ◌∙◌}
use Rattle.std.specs.Prelude.{option_map}
use Rattle.rx_tree.specs.declared.tree.Ident.{Ident}
use Rattle.rx_tree.specs.declared.tree.BoundLifetime.{BoundLifetime}
use Rattle.rx_tree.specs.Plain as plain
use Rattle.rx_tree.specs.Plain.{TypeTree, TypeTrees, PatternTree, PatternTrees, FieldPatterns, Expression, Expressions, OptionalExpression, OptionalExpressions, FieldExpressions, Arms, Body, Statement, Statements, Parameter, FieldOf, VariantOf, ItemTree, ProgramTree}
use Rattle.rx_tree.specs.Lists.{Every}
use Rattle.rx_tree.specs.Erase.{erase, erase_all, erase_optional, erase_optional_list, erase_fields, erase_arms, erase_body, erase_statement, erase_statements, erase_type, erase_types, erase_pattern, erase_patterns, erase_field_patterns, erase_label, erase_ident, erase_lifetime, erase_parameter, erase_field, erase_variant, erase_item, erase_program, SameProgram}
use Rattle.rx_print_spelling.specs.Places.{is_branch}
use Rattle.rx_print_spelling.specs.Formed.{Lasting, MaybeLasting, IsSome, GivenLifetimes, FormedType, FormedTypes, WrittenType, FormedPattern, FormedPatterns, FormedFieldPatterns, SomeExpression, SomeArm, MayLack, EndsWell, MoreFollows, has_semicolon, Formed, FormedList, FormedOptionalList, FormedFields, FormedOptional, FormedElse, FormedArms, FormedBody, FormedStatement, FormedStatements, FormedBound, FormedField, FormedVariant, FormedParameter, FormedItem, FormedProgram}
use Rattle.rx_print_spelling.proofs.SameText.{alike}

same_lasting : (l : Option Ident) → MaybeLasting (erase_label l) ≡ MaybeLasting l
same_lasting None = refl
same_lasting (Some l) = refl

same_every : {A : Type 0} (P : A → Type 0) (g : A → A) → ((x : A) → P (g x) ≡ P x) → (xs : List A) → Every P (map g xs) ≡ Every P xs
same_every P g h [] = refl
same_every P g h (x ∷ xs) = rw (h x, same_every P g h xs) refl

same_some : {A : Type 0} (g : A → A) (xs : List A) → IsSome (map g xs) ≡ IsSome xs
same_some g [] = refl
same_some g (x ∷ xs) = refl

same_given : (ls : Option (List (Option Ident))) → GivenLifetimes (option_map (map erase_label) ls) ≡ GivenLifetimes ls
same_given None = refl
same_given (Some ls) = rw (same_some erase_label ls, same_every MaybeLasting erase_label same_lasting ls) refl

mutual
  same_type : (t : TypeTree) → FormedType (erase_type t) ≡ FormedType t
  same_type (plain.kind_type s k) = refl
  same_type (plain.bool_type s) = refl
  same_type (plain.tuple_type s ts) = same_types ts
  same_type (plain.ref_type s l m t) = rw (same_lasting l, same_type t) refl
  same_type (plain.named_type s n ls) = rw (same_given ls) refl

  same_types : (ts : TypeTrees) → FormedTypes (erase_types ts) ≡ FormedTypes ts
  same_types plain.no_type = refl
  same_types (plain.type_and t ts) = rw (same_type t, same_types ts) refl

same_written : (t : Option TypeTree) → WrittenType (option_map erase_type t) ≡ WrittenType t
same_written None = refl
same_written (Some t) = same_type t

mutual
  same_pattern : (p : PatternTree) → FormedPattern (erase_pattern p) ≡ FormedPattern p
  same_pattern (plain.wild s) = refl
  same_pattern (plain.bind s n m) = refl
  same_pattern (plain.int_pattern s g v k) = refl
  same_pattern (plain.bool_pattern s b) = refl
  same_pattern (plain.tuple_pattern s ps) = same_patterns ps
  same_pattern (plain.variant_pattern s a v ps) = rw (same_patterns ps) refl
  same_pattern (plain.make_pattern s n fs) = rw (same_field_patterns fs) refl

  same_patterns : (ps : PatternTrees) → FormedPatterns (erase_patterns ps) ≡ FormedPatterns ps
  same_patterns plain.no_pattern = refl
  same_patterns (plain.pattern_and p ps) = rw (same_pattern p, same_patterns ps) refl

  same_field_patterns : (fs : FieldPatterns) → FormedFieldPatterns (erase_field_patterns fs) ≡ FormedFieldPatterns fs
  same_field_patterns plain.no_field_pattern = refl
  same_field_patterns (plain.field_pattern_and n p fs) = rw (same_pattern p, same_field_patterns fs) refl

same_lack : (p : PatternTree) (y : OptionalExpression) → MayLack (erase_pattern p) (erase_optional y) ≡ MayLack p y
same_lack (plain.wild s) plain.absent = refl
same_lack (plain.bind s n m) plain.absent = refl
same_lack (plain.int_pattern s g v k) plain.absent = refl
same_lack (plain.bool_pattern s b) plain.absent = refl
same_lack (plain.tuple_pattern s ps) plain.absent = refl
same_lack (plain.variant_pattern s a v ps) plain.absent = refl
same_lack (plain.make_pattern s n fs) plain.absent = refl
same_lack (plain.wild s) (plain.present e) = refl
same_lack (plain.bind s n m) (plain.present e) = refl
same_lack (plain.int_pattern s g v k) (plain.present e) = refl
same_lack (plain.bool_pattern s b) (plain.present e) = refl
same_lack (plain.tuple_pattern s ps) (plain.present e) = refl
same_lack (plain.variant_pattern s a v ps) (plain.present e) = refl
same_lack (plain.make_pattern s n fs) (plain.present e) = refl

same_ending : (b : Bool) (e : Expression) → EndsWell b (erase e) ≡ EndsWell b e
same_ending true e = refl
same_ending false e = ap (λ k. k ≡ true) (alike e).like_is

same_semicolon : (a : Statement) → has_semicolon (erase_statement a) ≡ has_semicolon a
same_semicolon (plain.let_statement s p t i) = refl
same_semicolon (plain.expression_statement s e b) = refl

same_follows : (b : Bool) (ss : Statements) (y : OptionalExpression) → MoreFollows b (erase_statements ss) (erase_optional y) ≡ MoreFollows b ss y
same_follows true ss y = refl
same_follows false plain.no_statement plain.absent = refl
same_follows false plain.no_statement (plain.present e) = refl
same_follows false (plain.statement_and a ss) y = refl

same_branch : (e : Expression) → is_branch (erase e) ≡ is_branch e
same_branch (plain.block s b) = refl
same_branch (plain.if s c b y) = refl
same_branch (plain.if_let s p e b y) = refl
same_branch _ = refl

same_arm : (as' : Arms) → SomeArm (erase_arms as') ≡ SomeArm as'
same_arm plain.no_arm = refl
same_arm (plain.arm_and p e more) = refl

same_one : (es : Expressions) → SomeExpression (erase_all es) ≡ SomeExpression es
same_one plain.no_expression = refl
same_one (plain.expression_and e es) = refl

mutual
  same_formed : (e : Expression) → Formed (erase e) ≡ Formed e
  same_formed (plain.int s v k) = refl
  same_formed (plain.bool s t) = refl
  same_formed (plain.tuple s es) = same_list es
  same_formed (plain.var s x) = refl
  same_formed (plain.field s e n) = rw (same_formed e) refl
  same_formed (plain.part s e i) = rw (same_formed e) refl
  same_formed (plain.deref s e) = same_formed e
  same_formed (plain.negate s e) = same_formed e
  same_formed (plain.invert s e) = same_formed e
  same_formed (plain.borrow s m e) = same_formed e
  same_formed (plain.binary s o x y) = rw (same_formed x, same_formed y) refl
  same_formed (plain.assign s x y) = rw (same_formed x, same_formed y) refl
  same_formed (plain.update s o x y) = rw (same_formed x, same_formed y) refl
  same_formed (plain.call s n es) = rw (same_list es) refl
  same_formed (plain.next_input s) = refl
  same_formed (plain.variant s a v es) = rw (same_optional_list es) refl
  same_formed (plain.make s n fs) = rw (same_fields fs) refl
  same_formed (plain.print s e) = same_formed e
  same_formed (plain.block s b) = same_body b
  same_formed (plain.if s c b y) = rw (same_formed c, same_body b, same_else y) refl
  same_formed (plain.if_let s p e b y) = rw (same_pattern p, same_formed e, same_body b, same_else y) refl
  same_formed (plain.match s e as') = rw (same_formed e, same_arm as', same_arms as') refl
  same_formed (plain.loop s l b) = rw (same_lasting l, same_body b) refl
  same_formed (plain.while s l c b) = rw (same_lasting l, same_formed c, same_body b) refl
  same_formed (plain.while_let s l p e b) = rw (same_lasting l, same_pattern p, same_formed e, same_body b) refl
  same_formed (plain.break s l) = same_lasting l
  same_formed (plain.continue s l) = same_lasting l
  same_formed (plain.return s y) = same_optional y

  same_list : (es : Expressions) → FormedList (erase_all es) ≡ FormedList es
  same_list plain.no_expression = refl
  same_list (plain.expression_and e es) = rw (same_formed e, same_list es) refl

  same_optional_list : (es : OptionalExpressions) → FormedOptionalList (erase_optional_list es) ≡ FormedOptionalList es
  same_optional_list plain.no_list = refl
  same_optional_list (plain.a_list es) = rw (same_one es, same_list es) refl

  same_fields : (fs : FieldExpressions) → FormedFields (erase_fields fs) ≡ FormedFields fs
  same_fields plain.no_field = refl
  same_fields (plain.field_and n e fs) = rw (same_formed e, same_fields fs) refl

  same_optional : (y : OptionalExpression) → FormedOptional (erase_optional y) ≡ FormedOptional y
  same_optional plain.absent = refl
  same_optional (plain.present e) = same_formed e

  same_else : (y : OptionalExpression) → FormedElse (erase_optional y) ≡ FormedElse y
  same_else plain.absent = refl
  same_else (plain.present e) = rw (same_branch e, same_formed e) refl

  same_arms : (as' : Arms) → FormedArms (erase_arms as') ≡ FormedArms as'
  same_arms plain.no_arm = refl
  same_arms (plain.arm_and p e more) = rw (same_pattern p, same_formed e, same_arms more) refl

  same_body : (b : Body) → FormedBody (erase_body b) ≡ FormedBody b
  same_body (plain.body s ss y) = rw (same_statements ss y, same_optional y) refl

  same_statement : (a : Statement) → FormedStatement (erase_statement a) ≡ FormedStatement a
  same_statement (plain.let_statement s p t i) = rw (same_lack p i, same_pattern p, same_written t, same_optional i) refl
  same_statement (plain.expression_statement s e b) = rw (same_ending b e, same_formed e) refl

  same_statements : (ss : Statements) (y : OptionalExpression) → FormedStatements (erase_statements ss) (erase_optional y) ≡ FormedStatements ss y
  same_statements plain.no_statement y = refl
  same_statements (plain.statement_and a ss) y = rw (same_statement a, same_semicolon a, same_follows (has_semicolon a) ss y, same_statements ss y) refl

same_bound : (l : BoundLifetime) → FormedBound (erase_lifetime l) ≡ FormedBound l
same_bound l = rw (same_every Lasting erase_ident (λ k. refl) l.bounds) refl

same_item : (i : ItemTree) → FormedItem (erase_item i) ≡ FormedItem i
same_item (plain.rt_item s r) = refl
same_item (plain.struct_item s x) =
    rw (same_every Lasting erase_ident (λ k. refl) x.lifetimes, same_every FormedField erase_field (λ f. rw (same_type f.typ) refl) x.fields) refl
same_item (plain.enum_item s x) =
    rw (same_every Lasting erase_ident (λ k. refl) x.lifetimes, same_some erase_variant x.variants, same_every FormedVariant erase_variant (λ v. rw (same_types v.types) refl) x.variants) refl
same_item (plain.function_item s f) =
    rw (same_every FormedBound erase_lifetime same_bound f.lifetimes, same_every FormedParameter erase_parameter (λ x. rw (same_type x.typ) refl) f.params, same_written f.result, same_body f.body) refl

same_program : (p : ProgramTree) → FormedProgram (erase_program p) ≡ FormedProgram p
same_program p = same_every FormedItem erase_item same_item p

pub formed_same : (p q : ProgramTree) → SameProgram p q → FormedProgram p → FormedProgram q
formed_same p q e f = subst (λ P. P) (sym (same_program p) ∙ ap FormedProgram e ∙ same_program q) f
