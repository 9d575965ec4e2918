-- The expressions and blocks that tokens are derived as are formed, where each token is a word of its class: by induction on derivations.
use Rattle.std.proofs.Common.{◌≡◌, ℕ, Bool, true, false, List, [], ◌∷◌, ◌++◌, Option, refl, subst}
use Rattle.std.specs.Prelude.{◌≢◌}
use Rattle.rx_core.specs.declared.types.Span.{Span}
use Rattle.rx_tree.specs.declared.tree.Ident.{Ident}
use Rattle.rx_tree.specs.Plain as plain
use Rattle.rx_tree.specs.Plain.{TypeTree, PatternTree, Expression, OptionalExpression, Body, Statement}
use Rattle.rx_tree.specs.PlainOf.{expressions_of, field_expressions_of, arms_of, statements_of}
use Rattle.rx_lex.specs.Tok.{Tok}
use Rattle.rx_lex.specs.Words as words
use Rattle.rx_lex.proofs.OfItsClass.{identifier_is}
use Rattle.rx_lex.specs.Tokens.{AreWords}
use Rattle.rx_parse_grammar.specs.grammar.Expressions as g
use Rattle.rx_parse_grammar.specs.grammar.Expressions.{IsLabel, IsAnnotation, IsExpression, IsOperand, IsUnary, IsPostfix, IsPrimary, AreArguments, IsField, AreFields, IsLike, IsIf, IsElse, AreArms, IsBlock, IsStatement, AreStatements, Test, IsTest, if_of, while_of}
use Rattle.rx_print_spelling.specs.Places.{is_like, is_branch}
use Rattle.rx_print_spelling.specs.Formed.{Named, MaybeLasting, WrittenType, MoreFollows, has_semicolon, Formed, FormedList, FormedFields, FormedOptional, FormedElse, FormedArms, FormedBody, FormedStatement, FormedStatements, FormedPattern}
use Rattle.rx_print_spelling.proofs.TextsFormed.{words_left, words_right, lasting, type_formed, pattern_formed}

label_formed : {ts : List Tok} {l : Option Ident} → IsLabel ts l → AreWords ts → MaybeLasting l
label_formed g.no_label k = tt
label_formed (g.label t c i a) k = lasting t i k.0

annotation_formed : {ts : List Tok} {y : Option TypeTree} {h : ℕ} → IsAnnotation ts y h → AreWords ts → WrittenType y
annotation_formed g.no_type k = tt
annotation_formed (g.with_type c us y h i d is) k = type_formed d (subst AreWords is k).1

if_is_like : {ts : List Tok} {x : Expression} {h : ℕ} → IsIf ts x h → is_like x ≡ true
if_is_like (g.if_alone t us vs (g.condition x) b m n i d e is) = refl
if_is_like (g.if_alone t us vs (g.fitting p x) b m n i d e is) = refl
if_is_like (g.if_else t s us vs ws (g.condition x) y b m n k i a d e f is) = refl
if_is_like (g.if_else t s us vs ws (g.fitting p x) y b m n k i a d e f is) = refl

like_is_like : {ts : List Tok} {x : Expression} {h : ℕ} → IsLike ts x h → is_like x ≡ true
like_is_like (g.block b h d) = refl
like_is_like (g.conditional d) = if_is_like d
like_is_like (g.match t o c us vs x a more m n i j k d e is) = refl
like_is_like (g.loop ls us t l b h i j d is) = refl
like_is_like (g.while ls us vs t l (g.condition x) b m n i j d e is) = refl
like_is_like (g.while ls us vs t l (g.fitting p x) b m n i j d e is) = refl

if_is_branch : {ts : List Tok} {x : Expression} {h : ℕ} → IsIf ts x h → is_branch x ≡ true
if_is_branch (g.if_alone t us vs (g.condition x) b m n i d e is) = refl
if_is_branch (g.if_alone t us vs (g.fitting p x) b m n i d e is) = refl
if_is_branch (g.if_else t s us vs ws (g.condition x) y b m n k i a d e f is) = refl
if_is_branch (g.if_else t s us vs ws (g.fitting p x) y b m n k i a d e f is) = refl

else_is_branch : {ts : List Tok} {x : Expression} {h : ℕ} → IsElse ts x h → is_branch x ≡ true
else_is_branch (g.else_block b h d) = refl
else_is_branch (g.else_if d) = if_is_branch d

more_follows : {ts : List Tok} {ss : List Statement} {y : OptionalExpression} {h : ℕ} → AreStatements ts ss y h → ts ≢ [] → MoreFollows false (statements_of ss) y
more_follows g.end n = absurd (n refl)
more_follows (g.tail d b) n = tt
more_follows (g.tail_like d) n = tt
more_follows (g.statement_and us vs a ss y m k d e is) n = tt
more_follows (g.like_and us vs x ss y m k d e f is) n = tt

-- a statement that ends with `;` needs nothing behind it
ended_follows : {ts : List Tok} {a : Statement} {h : ℕ} → IsStatement ts a h → (ss : List Statement) (y : OptionalExpression) → MoreFollows (has_semicolon a) (statements_of ss) y
ended_follows (g.let_with t q z ps ys us p y x m n k i j l d e f is) ss o = tt
ended_follows (g.let_without t n z ms ys m y h i j k d e is) ss o = tt
ended_follows (g.done z us x h i d n is) ss o = tt
ended_follows (g.done_like z us x h i d is) ss o = tt

-- what is tested

abbrev FormedTest : Test → Type 0
FormedTest (g.condition x) = Formed x
FormedTest (g.fitting p x) = FormedPattern p × Formed x

if_of_formed : (s : Span) (x : Test) (b : Body) (y : OptionalExpression) → FormedTest x → FormedBody b → FormedElse y → Formed (if_of s x b y)
if_of_formed s (g.condition x) b y f k o = (f, k, o)
if_of_formed s (g.fitting p x) b y f k o = (f.0, f.1, k, o)

while_formed : (s : Span) (l : Option Ident) (x : Test) (b : Body) → MaybeLasting l → FormedTest x → FormedBody b → Formed (while_of s l x b)
while_formed s l (g.condition x) b i f k = (i, f, k)
while_formed s l (g.fitting p x) b i f k = (i, f.0, f.1, k)

mutual
  pub expression_formed : {ts : List Tok} {x : Expression} {h : ℕ} → IsExpression ts x h → AreWords ts → Formed x
  expression_formed (g.operand d) k = operand_formed d k
  expression_formed (g.assign us vs t l r m n i d e is) k =
      let j = subst AreWords is k in (operand_formed d (words_left us (t ∷ vs) j), expression_formed e (words_right us (t ∷ vs) j).1)
  expression_formed (g.update us vs t o l r m n i d e is) k =
      let j = subst AreWords is k in (operand_formed d (words_left us (t ∷ vs) j), expression_formed e (words_right us (t ∷ vs) j).1)
  expression_formed (g.return t i is) k = tt
  expression_formed (g.return_with t us x h i d is) k = expression_formed d (subst AreWords is k).1
  expression_formed (g.break t i is) k = tt
  expression_formed (g.break_from t l i a is) k = lasting l a (subst AreWords is k).1.0
  expression_formed (g.continue t i is) k = tt
  expression_formed (g.continue_with t l i a is) k = lasting l a (subst AreWords is k).1.0

  operand_formed : {f : Bool} {j : ℕ} {ts : List Tok} {x : Expression} {h : ℕ} → IsOperand f j ts x h → AreWords ts → Formed x
  operand_formed (g.unary d) k = unary_formed d k
  operand_formed (g.stronger d) k = operand_formed d k
  operand_formed (g.chain us vs t o l r m n i a d e is) k =
      let j = subst AreWords is k in (operand_formed d (words_left us (t ∷ vs) j), operand_formed e (words_right us (t ∷ vs) j).1)
  operand_formed (g.compare us vs t o l r m n i a d e is) k =
      let j = subst AreWords is k in (operand_formed d (words_left us (t ∷ vs) j), operand_formed e (words_right us (t ∷ vs) j).1)

  unary_formed : {f : Bool} {ts : List Tok} {x : Expression} {h : ℕ} → IsUnary f ts x h → AreWords ts → Formed x
  unary_formed (g.postfix d) k = postfix_formed d k
  unary_formed (g.negate t us x h i d is) k = unary_formed d (subst AreWords is k).1
  unary_formed (g.invert t us x h i d is) k = unary_formed d (subst AreWords is k).1
  unary_formed (g.deref t us x h i d is) k = unary_formed d (subst AreWords is k).1
  unary_formed (g.borrow t ms us m x h i a d is) k = unary_formed d (words_right ms us (subst AreWords is k).1)
  unary_formed (g.borrow_twice t us x h i d is) k = unary_formed d (words.mark refl, (subst AreWords is k).1)

  postfix_formed : {f : Bool} {ts : List Tok} {x : Expression} {h : ℕ} → IsPostfix f ts x h → AreWords ts → Formed x
  postfix_formed (g.primary d) k = primary_formed d k
  postfix_formed (g.field us d n x h i a e is) k =
      let j = subst AreWords is k in (postfix_formed e (words_left us (d ∷ n ∷ []) j), identifier_is (words_right us (d ∷ n ∷ []) j).1.0 a)
  postfix_formed (g.part us d t v x h i a e is) k = (postfix_formed e (words_left us (d ∷ t ∷ []) (subst AreWords is k)), a.fits)

  primary_formed : {f : Bool} {ts : List Tok} {x : Expression} {h : ℕ} → IsPrimary f ts x h → AreWords ts → Formed x
  primary_formed (g.number t v s i is) k = i.fits
  primary_formed (g.true_is t i is) k = tt
  primary_formed (g.false_is t i is) k = tt
  primary_formed (g.variable t i is) k = identifier_is (subst AreWords is k).0 i
  primary_formed (g.call t o c us xs h i a b d is) k = let j = subst AreWords is k in (identifier_is j.0 i, arguments_formed d (words_left us (c ∷ []) j.1.1))
  primary_formed (g.next_input r p n o c i a b e f is) k = tt
  primary_formed (g.variant e p v i a b is) k = let j = subst AreWords is k in (identifier_is j.0 i, identifier_is j.1.1.0 b, tt)
  primary_formed (g.variant_with e p v o c us x xs h i a b f l d is) k =
      let j = subst AreWords is k in (identifier_is j.0 i, identifier_is j.1.1.0 b, (tt, arguments_formed d (words_left us (c ∷ []) j.1.1.1.1)))
  primary_formed (g.structure n o c us fs h i a b d is) k = let j = subst AreWords is k in (identifier_is j.0 i, fields_formed d (words_left us (c ∷ []) j.1.1))
  primary_formed (g.print p b o q m c us x h i a e f l n d is) k = expression_formed d (words_left us (c ∷ []) (subst AreWords is k).1.1.1.1.1)
  primary_formed (g.unit o c i a is) k = tt
  primary_formed (g.parentheses o c us x h i a d is) k = expression_formed d (words_left us (c ∷ []) (subst AreWords is k).1)
  primary_formed (g.tuple o m c us vs x xs h n i a b d e is) k =
      let j = (subst AreWords is k).1 in
      (expression_formed d (words_left us (m ∷ (vs ++ c ∷ [])) j), arguments_formed e (words_left vs (c ∷ []) (words_right us (m ∷ (vs ++ c ∷ [])) j).1))
  primary_formed (g.like d) k = like_formed d k

  arguments_formed : {ts : List Tok} {xs : List Expression} {h : ℕ} → AreArguments ts xs h → AreWords ts → FormedList (expressions_of xs)
  arguments_formed g.no_argument k = tt
  arguments_formed (g.last_argument d) k = (expression_formed d k, tt)
  arguments_formed (g.argument_and us vs c x xs m n d i e is) k =
      let j = subst AreWords is k in (expression_formed d (words_left us (c ∷ vs) j), arguments_formed e (words_right us (c ∷ vs) j).1)

  field_formed : {ts : List Tok} {f : Ident × Expression} {h : ℕ} → IsField ts f h → AreWords ts → Named f.0 × Formed f.1
  field_formed (g.long_field n c us x h i a d is) k = let j = subst AreWords is k in (identifier_is j.0 i, expression_formed d j.1.1)
  field_formed (g.short_field n i is) k = let j = subst AreWords is k in (identifier_is j.0 i, identifier_is j.0 i)

  fields_formed : {ts : List Tok} {fs : List (Ident × Expression)} {h : ℕ} → AreFields ts fs h → AreWords ts → FormedFields (field_expressions_of fs)
  fields_formed g.no_field k = tt
  fields_formed (g.last_field d) k = let f = field_formed d k in (f.0, f.1, tt)
  fields_formed (g.field_and us vs c x xs m n d i e is) k =
      let j = subst AreWords is k in
      let f = field_formed d (words_left us (c ∷ vs) j) in
      (f.0, f.1, fields_formed e (words_right us (c ∷ vs) j).1)

  like_formed : {ts : List Tok} {x : Expression} {h : ℕ} → IsLike ts x h → AreWords ts → Formed x
  like_formed (g.block b h d) k = block_formed d k
  like_formed (g.conditional d) k = if_formed d k
  like_formed (g.match t o c us vs x a more m n i b e d f is) k =
      let j = (subst AreWords is k).1 in
      (operand_formed d (words_left us (o ∷ (vs ++ c ∷ [])) j), tt, arms_formed f (words_left vs (c ∷ []) (words_right us (o ∷ (vs ++ c ∷ [])) j).1))
  like_formed (g.loop ls us t l b h i a d is) k =
      let j = subst AreWords is k in (label_formed i (words_left ls (t ∷ us) j), block_formed d (words_right ls (t ∷ us) j).1)
  like_formed (g.while ls us vs t l x b m n i a d e is) k =
      let j = subst AreWords is k in
      let r = (words_right ls (t ∷ (us ++ vs)) j).1 in
      while_formed _ l x b (label_formed i (words_left ls (t ∷ (us ++ vs)) j)) (test_formed d (words_left us vs r)) (block_formed e (words_right us vs r))

  test_formed : {ts : List Tok} {x : Test} {h : ℕ} → IsTest ts x h → AreWords ts → FormedTest x
  test_formed (g.test d) k = operand_formed d k
  test_formed (g.test_pattern t q ps us p x m n i a d e is) k =
      let j = (subst AreWords is k).1 in (pattern_formed d (words_left ps (q ∷ us) j), operand_formed e (words_right ps (q ∷ us) j).1)

  if_formed : {ts : List Tok} {x : Expression} {h : ℕ} → IsIf ts x h → AreWords ts → Formed x
  if_formed (g.if_alone t us vs x b m n i d e is) k =
      let j = (subst AreWords is k).1 in if_of_formed _ x b plain.absent (test_formed d (words_left us vs j)) (block_formed e (words_right us vs j)) tt
  if_formed (g.if_else t s us vs ws x y b m n l i a d e f is) k =
      let j = (subst AreWords is k).1 in
      let r = words_right us (vs ++ (s ∷ ws)) j in
      if_of_formed _ x b (plain.present y) (test_formed d (words_left us (vs ++ (s ∷ ws)) j)) (block_formed e (words_left vs (s ∷ ws) r)) (else_is_branch f, else_formed f (words_right vs (s ∷ ws) r).1)

  else_formed : {ts : List Tok} {x : Expression} {h : ℕ} → IsElse ts x h → AreWords ts → Formed x
  else_formed (g.else_block b h d) k = block_formed d k
  else_formed (g.else_if d) k = if_formed d k

  arms_formed : {ts : List Tok} {as' : List (PatternTree × Expression)} {h : ℕ} → AreArms ts as' h → AreWords ts → FormedArms (arms_of as')
  arms_formed g.no_arm k = tt
  arms_formed (g.like_arm a ps us vs p x more m n l d i e f is) k =
      let j = subst AreWords is k in
      let r = (words_right ps (a ∷ (us ++ vs)) j).1 in
      (pattern_formed d (words_left ps (a ∷ (us ++ vs)) j), like_formed e (words_left us vs r), arms_formed f (words_right us vs r))
  arms_formed (g.like_arm_and a c ps us vs p x more m n l d i e b f is) k =
      let j = subst AreWords is k in
      let r = (words_right ps (a ∷ (us ++ (c ∷ vs))) j).1 in
      (pattern_formed d (words_left ps (a ∷ (us ++ (c ∷ vs))) j), like_formed e (words_left us (c ∷ vs) r), arms_formed f (words_right us (c ∷ vs) r).1)
  arms_formed (g.arm_and a c ps us vs p x more m n l d i e o b f is) k =
      let j = subst AreWords is k in
      let r = (words_right ps (a ∷ (us ++ (c ∷ vs))) j).1 in
      (pattern_formed d (words_left ps (a ∷ (us ++ (c ∷ vs))) j), expression_formed e (words_left us (c ∷ vs) r), arms_formed f (words_right us (c ∷ vs) r).1)
  arms_formed (g.last_arm a ps us p x m n d i e o is) k =
      let j = subst AreWords is k in (pattern_formed d (words_left ps (a ∷ us) j), expression_formed e (words_right ps (a ∷ us) j).1, tt)

  pub block_formed : {ts : List Tok} {b : Body} {h : ℕ} → IsBlock ts b h → AreWords ts → FormedBody b
  block_formed (g.braces o c us ss y h i a d is) k =
      let j = words_left us (c ∷ []) (subst AreWords is k).1 in (statements_formed d j, tail_formed d j)

  statement_formed : {ts : List Tok} {a : Statement} {h : ℕ} → IsStatement ts a h → AreWords ts → FormedStatement a
  statement_formed (g.let_with t q z ps ys us p y x m n l i a b d e f is) k =
      let j = (subst AreWords is k).1 in
      let r = words_right ps (ys ++ (q ∷ (us ++ z ∷ []))) j in (
        tt,
        pattern_formed d (words_left ps (ys ++ (q ∷ (us ++ z ∷ []))) j),
        annotation_formed e (words_left ys (q ∷ (us ++ z ∷ [])) r),
        expression_formed f (words_left us (z ∷ []) (words_right ys (q ∷ (us ++ z ∷ [])) r).1),
      )
  statement_formed (g.let_without t n z ms ys m y h i a b d e is) k =
      let j = (subst AreWords is k).1 in
      (tt, identifier_is (words_right ms (n ∷ []) (words_left (ms ++ n ∷ []) (ys ++ z ∷ []) j)).0 a, annotation_formed e (words_left ys (z ∷ []) (words_right (ms ++ n ∷ []) (ys ++ z ∷ []) j)), tt)
  statement_formed (g.done z us x h i d n is) k = (tt, expression_formed d (words_left us (z ∷ []) (subst AreWords is k)))
  statement_formed (g.done_like z us x h i d is) k = (tt, like_formed d (words_left us (z ∷ []) (subst AreWords is k)))

  statements_formed : {ts : List Tok} {ss : List Statement} {y : OptionalExpression} {h : ℕ} → AreStatements ts ss y h → AreWords ts → FormedStatements (statements_of ss) y
  statements_formed g.end k = tt
  statements_formed (g.tail d n) k = tt
  statements_formed (g.tail_like d) k = tt
  statements_formed (g.statement_and us vs a ss y m n d e is) k =
      let j = subst AreWords is k in (statement_formed d (words_left us vs j), ended_follows d ss y, statements_formed e (words_right us vs j))
  statements_formed (g.like_and us vs x ss y m n d e o is) k =
      let j = subst AreWords is k in ((like_is_like d, like_formed d (words_left us vs j)), more_follows e o, statements_formed e (words_right us vs j))

  tail_formed : {ts : List Tok} {ss : List Statement} {y : OptionalExpression} {h : ℕ} → AreStatements ts ss y h → AreWords ts → FormedOptional y
  tail_formed g.end k = tt
  tail_formed (g.tail d n) k = expression_formed d k
  tail_formed (g.tail_like d) k = like_formed d k
  tail_formed (g.statement_and us vs a ss y m n d e is) k = tail_formed e (words_right us vs (subst AreWords is k))
  tail_formed (g.like_and us vs x ss y m n d e o is) k = tail_formed e (words_right us vs (subst AreWords is k))
