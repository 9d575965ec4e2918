-- The trees that some text has: their names and numbers are words, and what the grammar asks to be there is there.
use Rattle.std.specs.Prelude.{◌≡◌, ◌≢◌, ℕ, ◌≤◌, Bool, true, false, List, [], ◌∷◌, Option, Some, None, ⊤, codes}
use Rattle.rx_tree.specs.declared.tree.Ident.{Ident}
use Rattle.rx_tree.specs.declared.tree.BoundLifetime.{BoundLifetime}
use Rattle.rx_tree.specs.Plain as plain
use Rattle.rx_tree.specs.Plain.{TypeTree, TypeTrees, PatternTree, PatternTrees, FieldPatterns, Expression, Expressions, OptionalExpression, OptionalExpressions, FieldExpressions, Arms, Body, Statement, Statements, Parameter, Function, FieldOf, Structure, VariantOf, Enumeration, ItemTree, ProgramTree}
use Rattle.rx_tree.specs.Lists.{Every}
use Rattle.rx_lex.specs.declared.token.Class.TheVariants.{Lifetime}
use Rattle.rx_lex.specs.Words.{IsWord, is_identifier}
use Rattle.rx_lex.specs.Numerals.{greatest}
use Rattle.rx_print_spelling.specs.Places.{is_like, is_branch}

abbrev pub Spells : List ℕ → Type 0
Spells w = is_identifier w ≡ true

abbrev pub Named : Ident → Type 0
Named n = Spells n.name

-- a lifetime other than `'_`
abbrev pub Lasting : Ident → Type 0
Lasting l = IsWord Lifetime l.name × (l.name ≢ codes "'_")

abbrev pub MaybeLasting : Option Ident → Type 0
MaybeLasting None = ⊤
MaybeLasting (Some l) = Lasting l

abbrev pub IsSome : {A : Type 0} → List A → Type 0
IsSome [] = ⊥
IsSome (x ∷ xs) = ⊤

-- ---- types and patterns

abbrev pub GivenLifetimes : Option (List (Option Ident)) → Type 0
GivenLifetimes None = ⊤
GivenLifetimes (Some ls) = IsSome ls × Every MaybeLasting ls

abbrev mutual
  pub FormedType : TypeTree → Type 0
  FormedType (plain.kind_type s k) = ⊤
  FormedType (plain.bool_type s) = ⊤
  FormedType (plain.tuple_type s ts) = FormedTypes ts
  FormedType (plain.ref_type s l m t) = MaybeLasting l × FormedType t
  FormedType (plain.named_type s n ls) = Named n × GivenLifetimes ls

  pub FormedTypes : TypeTrees → Type 0
  FormedTypes plain.no_type = ⊤
  FormedTypes (plain.type_and t ts) = FormedType t × FormedTypes ts

abbrev pub WrittenType : Option TypeTree → Type 0
WrittenType None = ⊤
WrittenType (Some t) = FormedType t

abbrev mutual
  pub FormedPattern : PatternTree → Type 0
  FormedPattern (plain.wild s) = ⊤
  FormedPattern (plain.bind s n m) = Named n
  FormedPattern (plain.int_pattern s g v k) = v ≤ greatest
  FormedPattern (plain.bool_pattern s b) = ⊤
  FormedPattern (plain.tuple_pattern s ps) = FormedPatterns ps
  FormedPattern (plain.variant_pattern s a v ps) = Named a × Named v × FormedPatterns ps
  FormedPattern (plain.make_pattern s n fs) = Named n × FormedFieldPatterns fs

  pub FormedPatterns : PatternTrees → Type 0
  FormedPatterns plain.no_pattern = ⊤
  FormedPatterns (plain.pattern_and p ps) = FormedPattern p × FormedPatterns ps

  pub FormedFieldPatterns : FieldPatterns → Type 0
  FormedFieldPatterns plain.no_field_pattern = ⊤
  FormedFieldPatterns (plain.field_pattern_and n p fs) = Named n × FormedPattern p × FormedFieldPatterns fs

-- ---- expressions, statements and blocks

abbrev pub SomeExpression : Expressions → Type 0
SomeExpression plain.no_expression = ⊥
SomeExpression (plain.expression_and e es) = ⊤

abbrev pub SomeArm : Arms → Type 0
SomeArm plain.no_arm = ⊥
SomeArm (plain.arm_and p e rest) = ⊤

-- a `let` without a value declares a variable
abbrev pub MayLack : PatternTree → OptionalExpression → Type 0
MayLack (plain.bind s n m) plain.absent = ⊤
MayLack _ plain.absent = ⊥
MayLack p (plain.present e) = ⊤

-- a statement without `;` ends in a block
abbrev pub EndsWell : Bool → Expression → Type 0
EndsWell true e = ⊤
EndsWell false e = is_like e ≡ true

-- more follows a statement that has no `;`
abbrev pub MoreFollows : Bool → Statements → OptionalExpression → Type 0
MoreFollows true ss y = ⊤
MoreFollows false plain.no_statement plain.absent = ⊥
MoreFollows false plain.no_statement (plain.present e) = ⊤
MoreFollows false (plain.statement_and a ss) y = ⊤

abbrev pub has_semicolon : Statement → Bool
has_semicolon (plain.let_statement s p t i) = true
has_semicolon (plain.expression_statement s e b) = b

abbrev mutual
  pub Formed : Expression → Type 0
  Formed (plain.int s v k) = v ≤ greatest
  Formed (plain.bool s b) = ⊤
  Formed (plain.tuple s es) = FormedList es
  Formed (plain.var s x) = Spells x
  Formed (plain.field s e n) = Formed e × Named n
  Formed (plain.part s e i) = Formed e × (i ≤ greatest)
  Formed (plain.deref s e) = Formed e
  Formed (plain.negate s e) = Formed e
  Formed (plain.invert s e) = Formed e
  Formed (plain.borrow s m e) = Formed e
  Formed (plain.binary s o a b) = Formed a × Formed b
  Formed (plain.assign s a b) = Formed a × Formed b
  Formed (plain.update s o a b) = Formed a × Formed b
  Formed (plain.call s f es) = Named f × FormedList es
  Formed (plain.next_input s) = ⊤
  Formed (plain.variant s a v es) = Named a × Named v × FormedOptionalList es
  Formed (plain.make s n fs) = Named n × FormedFields fs
  Formed (plain.print s e) = Formed e
  Formed (plain.block s b) = FormedBody b
  Formed (plain.if s c b y) = Formed c × FormedBody b × FormedElse y
  Formed (plain.if_let s p e b y) = FormedPattern p × Formed e × FormedBody b × FormedElse y
  Formed (plain.match s e as') = Formed e × SomeArm as' × FormedArms as'
  Formed (plain.loop s l b) = MaybeLasting l × FormedBody b
  Formed (plain.while s l c b) = MaybeLasting l × Formed c × FormedBody b
  Formed (plain.while_let s l p e b) = MaybeLasting l × FormedPattern p × Formed e × FormedBody b
  Formed (plain.break s l) = MaybeLasting l
  Formed (plain.continue s l) = MaybeLasting l
  Formed (plain.return s y) = FormedOptional y

  pub FormedList : Expressions → Type 0
  FormedList plain.no_expression = ⊤
  FormedList (plain.expression_and e es) = Formed e × FormedList es

  pub FormedOptionalList : OptionalExpressions → Type 0
  FormedOptionalList plain.no_list = ⊤
  FormedOptionalList (plain.a_list es) = SomeExpression es × FormedList es

  pub FormedFields : FieldExpressions → Type 0
  FormedFields plain.no_field = ⊤
  FormedFields (plain.field_and n e fs) = Named n × Formed e × FormedFields fs

  pub FormedOptional : OptionalExpression → Type 0
  FormedOptional plain.absent = ⊤
  FormedOptional (plain.present e) = Formed e

  pub FormedElse : OptionalExpression → Type 0
  FormedElse plain.absent = ⊤
  FormedElse (plain.present e) = (is_branch e ≡ true) × Formed e

  pub FormedArms : Arms → Type 0
  FormedArms plain.no_arm = ⊤
  FormedArms (plain.arm_and p e rest) = FormedPattern p × Formed e × FormedArms rest

  pub FormedBody : Body → Type 0
  FormedBody (plain.body s ss y) = FormedStatements ss y × FormedOptional y

  pub FormedStatement : Statement → Type 0
  FormedStatement (plain.let_statement s p t i) = MayLack p i × FormedPattern p × WrittenType t × FormedOptional i
  FormedStatement (plain.expression_statement s e b) = EndsWell b e × Formed e

  -- the statements of a body with this tail
  pub FormedStatements : Statements → OptionalExpression → Type 0
  FormedStatements plain.no_statement y = ⊤
  FormedStatements (plain.statement_and a ss) y = FormedStatement a × MoreFollows (has_semicolon a) ss y × FormedStatements ss y

-- ---- items

abbrev pub FormedBound : BoundLifetime → Type 0
FormedBound l = Lasting l.name × Every Lasting l.bounds

abbrev pub FormedField : FieldOf → Type 0
FormedField f = Named f.name × FormedType f.typ

abbrev pub FormedVariant : VariantOf → Type 0
FormedVariant v = Named v.name × FormedTypes v.types

abbrev pub FormedParameter : Parameter → Type 0
FormedParameter x = Named x.name × FormedType x.typ

abbrev pub FormedItem : ItemTree → Type 0
FormedItem (plain.rt_item s r) = ⊤
FormedItem (plain.struct_item s x) = Named x.name × Every Lasting x.lifetimes × Every FormedField x.fields
FormedItem (plain.enum_item s x) = Named x.name × Every Lasting x.lifetimes × IsSome x.variants × Every FormedVariant x.variants
FormedItem (plain.function_item s f) =
    Named f.name × Every FormedBound f.lifetimes × Every FormedParameter f.params × WrittenType f.result × FormedBody f.body

abbrev pub FormedProgram : ProgramTree → Type 0
FormedProgram p = Every FormedItem p
