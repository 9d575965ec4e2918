-- What the tokens begin that the parser of operands passed before it stopped, where this is known of what is deeper.
use Rattle.rx_parse_grammar.proofs.OperandsDerived.{arguments_are, fields_are, Joins}
use Rattle.std.proofs.Common.{◌≡◌, ℕ, zero, suc, max, Bool, true, false, cond, List, [], ◌∷◌, ◌++◌, length, Option, Some, None, codes, refl, sym, ap, subst, ◌∙◌, arith}
use Rattle.std.specs.Prelude.{◌≢◌, ◌==◌}
use Rattle.std.specs.Str.{bytes_eq}
use Rattle.std.proofs.lemmas.Slice.Eq.{bytes_eq-Decides}
use Rattle.std.proofs.lemmas.Bool.{and_parts, eqb-true}
use Rattle.rx_core.specs.declared.types.Span.{Span}
use Rattle.rx_tree.specs.declared.tree.BinaryOp.{BinaryOp}
use Rattle.rx_tree.specs.Plain as plain
use Rattle.rx_tree.specs.Plain.{Expression, Body}
use Rattle.rx_tree.specs.PlainOf.{expressions_of, field_expressions_of}
use Rattle.rx_lex.specs.Tok.{Tok}
use Rattle.rx_parse_grammar.specs.declared.symbol.Symbol.{Symbol}
use Rattle.rx_parse_grammar.specs.declared.symbol.Symbol.TheVariants as symbol
use Rattle.rx_parse_grammar.specs.grammar.Words.{join, span_of, ident, second_ampersand}
use Rattle.rx_parse_grammar.specs.grammar.Expressions.{IsExpression, IsOperand, IsUnary, IsPostfix, IsPrimary, AreArguments, IsField, AreFields, IsLike, IsBlock, IsOperator}
use Rattle.rx_parse_grammar.specs.grammar.Expressions as g
use Rattle.rx_parse_grammar.specs.parser.Steps.{Parser, Got, ◌>>=◌, pure, leaf}
use Rattle.rx_parse_grammar.specs.parser.Lists.{group}
use Rattle.rx_parse_grammar.specs.parser.Operators.{operator_at}
use Rattle.rx_parse_grammar.specs.parser.Expressions.{call, variant_arguments, input, variant_with, path, is_input, field_value, field_by, field, struct_literal, print, named_by, named, like_by, primary_by, primary, member_by, member, member_step, postfix, prefix, borrow, borrow_twice, unary_by, unary, longer, longer_by, binary_step, at_strength, chain}
use Rattle.rx_parse_grammar.specs.parser.Blocks.{operand, whole, like, block}
use Rattle.rx_parse_grammar.specs.grammar.Words.{immutable}
use Rattle.rx_parse_grammar.specs.parser.Steps.{node}
use Rattle.rx_parse_grammar.proofs.SymbolLemmas.{Stands, is_word}
use Rattle.rx_parse_grammar.proofs.Reading.{span_between, span_from, span_past, span_over}
use Rattle.rx_parse_grammar.proofs.Begun.{took, passed, passed_last, gave, chose, either, refused, as_also, Known, any, at, Begun, roomed, roomy, stand_in, stand_in_stands, words_of}
use Rattle.rx_parse_grammar.proofs.BegunLists.{Fits, fits_leaf, fits_node, listed_found, some_listed_found, group_found, halved_last, whole_part}
use Rattle.rx_parse_grammar.proofs.BegunWords.{number_took, index_took}
use Rattle.rx_parse_grammar.proofs.TypesBegun.{mutability_begun}
use Rattle.rx_parse_grammar.proofs.TypesDerived.{second_span}
use Rattle.rx_parse_grammar.proofs.OperatorLaws.{operator_by, operator_word}
use Rattle.rx_parse_grammar.proofs.ChainsBegun.{StepsBegun, once_begun, chained_begun}
use Rattle.rx_parse_grammar.proofs.ExpressionsFront.{expression_some, unary_some, postfix_some, operand_some}

-- ---- lists

-- one of two parsers
tested : {K : Known} {A : Type 0} {p q : Parser A} {E : List Tok → A → Type 0} (b : Bool) → (b ≡ true → Begun K p E) → (b ≡ false → Begun K q E) → Begun K (cond {A = Parser A} b p q) E
tested true f h = f refl
tested false f h = h refl

-- ---- primaries

module _ (d : ℕ) (ok : Begun any (whole d) (Fits IsExpression)) (f : Bool) where
  call_begun : {K : Known} (t : Tok) → Stands symbol.Name t → Begun K (call (whole d) d t) (λ us x. Fits (IsPrimary f) (t ∷ us) x)
  unfolding call
  call_begun t s = took symbol.OpenParen refl (λ o so. listed_found symbol.CloseParen _ [] 0 refl ok (λ us c xs h sc l.
      let z : max 0 h ≡ h = omega arith in
      gave (fits_node (λ s. plain.call s (ident t) (expressions_of xs)) (span_between (o ∷ us) t c) _
      (subst (λ i. IsPrimary f (t ∷ o ∷ (us ++ (c ∷ []))) (plain.call (span_of (t ∷ o ∷ (us ++ (c ∷ [])))) (ident t) (expressions_of xs)) (suc i)) (sym z)
      (g.call t o c us xs h s so sc (arguments_are l) refl)))))

  variant_arguments_begun : {K : Known} (e p v o : Tok) → Stands symbol.Name e → Stands symbol.ColonColon p → Stands symbol.Name v → Stands symbol.OpenParen o
      → Begun K (variant_arguments (whole d) d e v) (λ us x. Fits (IsPrimary f) (e ∷ p ∷ v ∷ o ∷ us) x)
  unfolding variant_arguments
  variant_arguments_begun e p v o se sp sv so = some_listed_found symbol.CloseParen _ refl ok (λ us c x xs h sc l.
      gave (fits_node (λ s. plain.variant s (ident e) (ident v) (plain.a_list (expressions_of (x ∷ xs)))) (span_between (p ∷ v ∷ o ∷ us) e c) _
      (g.variant_with e p v o c us x xs h se sp sv so sc (arguments_are l) refl)))

  input_begun : {K : Known} (e p v : Tok) → Stands symbol.Name e → Stands symbol.ColonColon p → Stands symbol.Name v → is_input e v ≡ true
      → Begun K (input (whole d) d e v) (λ us x. Fits (IsPrimary f) (e ∷ p ∷ v ∷ us) x)
  unfolding input
  input_begun e p v se sp sv is =
      let w = and_parts (bytes_eq e.text (codes "rt")) (bytes_eq v.text (codes "next")) is in
      took symbol.OpenParen refl (λ o so. either symbol.CloseParen
      (took symbol.CloseParen refl (λ c sc. gave (fits_leaf plain.next_input refl
      (g.next_input e p v o c (se, (bytes_eq-Decides e.text (codes "rt")).0 w.0) sp (sv, (bytes_eq-Decides v.text (codes "next")).0 w.1) so sc refl))))
      (variant_arguments_begun e p v o se sp sv so))

  variant_with_begun : (e p v : Tok) → Stands symbol.Name e → Stands symbol.ColonColon p → Stands symbol.Name v
      → Begun (at symbol.OpenParen) (variant_with (whole d) d e v) (λ us x. Fits (IsPrimary f) (e ∷ p ∷ v ∷ us) x)
  unfolding variant_with
  variant_with_begun e p v se sp sv = roomed 1 d symbol.OpenParen refl (λ o so. variant_arguments_begun e p v o se sp sv so)

  path_begun : {K : Known} (e : Tok) → Stands symbol.Name e → Begun K (path (whole d) d e) (λ us x. Fits (IsPrimary f) (e ∷ us) x)
  unfolding path
  path_begun e se = took symbol.ColonColon refl (λ p sp. took symbol.Name refl (λ v sv. either symbol.OpenParen
      (tested (is_input e v) (input_begun e p v se sp sv) (λ n. variant_with_begun e p v se sp sv))
      (gave (fits_leaf (λ s. plain.variant s (ident e) (ident v) plain.no_list) refl (g.variant e p v se sp sv refl)))))

  field_value_begun : {K : Known} → Begun K (field_value (whole d) d) (Fits IsField)
  unfolding field_value
  field_value_begun = took symbol.Name refl (λ n sn. either symbol.Colon
      (took symbol.Colon refl (λ c sc. passed_last _ ok (λ us x e. record {
        span = ap (λ z. join n.span z) e.span ∙ span_past n (c ∷ []) us (expression_some e.holds);
        holds = g.long_field n c us x.tree x.height sn sc e.holds refl;
      })))
      (gave (record { span = refl; holds = g.short_field n sn refl })))

  field_by_begun : (q : Symbol) → Begun (at q) (field_by (whole d) d q) (Fits IsField)
  field_by_begun symbol.Name = roomy 1 d symbol.Name refl (λ t s. whole_part (t ∷ []) [] _ _ tt (g.short_field t s refl)) field_value_begun
  field_by_begun _ = refused (whole_part [] (stand_in symbol.Name ∷ []) _ _ (words_of (symbol.Name ∷ []) refl) (g.short_field (stand_in symbol.Name) (stand_in_stands symbol.Name refl) refl))

  field_begun : {K : Known} → Begun K (field (whole d) d) (Fits IsField)
  unfolding field
  field_begun = chose (field_by (whole d) d) field_by_begun

  print_begun : (p : Tok) → Stands symbol.Name p → p.text ≡ codes "println" → Begun (at symbol.Bang) (print (whole d) d p) (λ us x. Fits (IsPrimary f) (p ∷ us) x)
  unfolding print
  print_begun p sp word = roomed 1 d symbol.Bang refl (λ b sb. took symbol.OpenParen refl (λ o so. took symbol.Format refl (λ q sq. took symbol.Comma refl (λ m sm.
      passed ok (λ us x e. took symbol.CloseParen refl (λ c sc. gave (fits_node (λ s. plain.print s x.tree) (span_between (b ∷ o ∷ q ∷ m ∷ us) p c) _
      (g.print p b o q m c us x.tree x.height (sp, word) sb so sq sm sc e.holds refl))))))))

  variable_begun : {K : Known} (t : Tok) → Stands symbol.Name t → Begun K (pure (leaf (λ s. plain.var s t.text) t.span)) (λ us x. Fits (IsPrimary f) (t ∷ us) x)
  variable_begun t s = gave (fits_leaf (λ s. plain.var s t.text) refl (g.variable t s refl))

struct_begun : {K : Known} (d : ℕ) → Begun any (whole d) (Fits IsExpression) → (n : Tok) → Stands symbol.Name n → Begun K (struct_literal (whole d) d n) (λ us x. Fits (IsPrimary true) (n ∷ us) x)
unfolding struct_literal
struct_begun d ok n sn = took symbol.OpenBrace refl (λ o so. listed_found symbol.CloseBrace _ [] 0 refl (field_begun d ok true) (λ us c fs h sc l.
    let z : max 0 h ≡ h = omega arith in
    gave (fits_node (λ s. plain.make s (ident n) (field_expressions_of fs)) (span_between (o ∷ us) n c) _
    (subst (λ i. IsPrimary true (n ∷ o ∷ (us ++ (c ∷ []))) (plain.make (span_of (n ∷ o ∷ (us ++ (c ∷ [])))) (ident n) (field_expressions_of fs)) (suc i)) (sym z)
    (g.structure n o c us fs h sn so sc (fields_are l) refl)))))

named_by_begun : (d : ℕ) → Begun any (whole d) (Fits IsExpression) → (f : Bool) (t : Tok) → Stands symbol.Name t → (q : Symbol) → Begun (at q) (named_by (whole d) d f t q) (λ us x. Fits (IsPrimary f) (t ∷ us) x)
named_by_begun d ok f t s symbol.OpenParen = call_begun d ok f t s
named_by_begun d ok f t s symbol.ColonColon = path_begun d ok f t s
named_by_begun d ok true t s symbol.OpenBrace = struct_begun d ok t s
named_by_begun d ok false t s symbol.OpenBrace = variable_begun d ok false t s
named_by_begun d ok f t s symbol.Bang = tested (bytes_eq t.text (codes "println")) (λ e. print_begun d ok f t s ((bytes_eq-Decides t.text (codes "println")).0 e)) (λ e. variable_begun d ok f t s)
named_by_begun d ok f t s _ = variable_begun d ok f t s

-- ---- what is one level deeper, and an expression that ends in a block

pub record Deeper (d : ℕ) : Type 0 where
  pub operands : (f : Bool) (j : ℕ) → Begun any (operand d f j) (Fits (IsOperand f j))
  pub wholes : Begun any (whole d) (Fits IsExpression)
  pub likes : Begun any (like d) (Fits IsLike)
  pub blocks : Begun any (block d) (Fits IsBlock)

abbrev pub LikesBegun : ℕ → Type 0
LikesBegun d = (q : Symbol) → Begun (at q) (like_by (operand d) (whole d) (like d) (block d) d q) (Fits IsLike)

from_like : {f : Bool} (ts : List Tok) (x : Got Expression) → Fits IsLike ts x → Fits (IsPrimary f) ts x
from_like ts x e = record { span = e.span; holds = g.like e.holds }

grouped_begun : {K : Known} (d : ℕ) → Deeper d → (f : Bool) → Begun K (group (whole d) (λ s l. plain.tuple s (expressions_of l))) (Fits (IsPrimary f))
grouped_begun d n f = group_found _ IsExpression (IsPrimary f) n.wholes
    (λ o c so sc. g.unit o c so sc refl)
    (λ o c us x h so sc r. g.parentheses o c us x h so sc r refl)
    (λ o m c us vs x xs h i so sm sc r more. g.tuple o m c us vs x xs h i so sm sc r (arguments_are more) refl)

primary_by_begun : (d : ℕ) → Deeper d → LikesBegun d → (f : Bool) (q : Symbol) → Begun (at q) (primary_by (operand d) (whole d) (like d) (block d) d f q) (Fits (IsPrimary f))
unfolding named
primary_by_begun d n l f symbol.Number = number_took _ (λ t v k s. gave (fits_leaf (λ s. plain.int s v k) refl (g.number t v k s refl)))
primary_by_begun d n l f symbol.True = took symbol.True refl (λ t s. gave (fits_leaf (λ s. plain.bool s true) refl (g.true_is t s refl)))
primary_by_begun d n l f symbol.False = took symbol.False refl (λ t s. gave (fits_leaf (λ s. plain.bool s false) refl (g.false_is t s refl)))
primary_by_begun d n l f symbol.Name = took symbol.Name refl (λ t s. chose (named_by (whole d) d f t) (named_by_begun d n.wholes f t s))
primary_by_begun d n l f symbol.OpenParen = grouped_begun d n f
primary_by_begun d n l f q = as_also from_like (l q)

primary_begun : {K : Known} (d : ℕ) → Deeper d → LikesBegun d → (f : Bool) → Begun K (primary (operand d) (whole d) (like d) (block d) d f) (Fits (IsPrimary f))
unfolding primary
primary_begun d n l f = chose (primary_by (operand d) (whole d) (like d) (block d) d f) (primary_by_begun d n l f)

-- ---- fields and parts

field_fits : (f : Bool) (us : List Tok) (p : Tok) (l : Got Expression) → Fits (IsPostfix f) us l → Stands symbol.Dot p → (n : Tok) → Stands symbol.Name n
    → Fits (IsPostfix f) (us ++ (p ∷ n ∷ [])) (node (λ s. plain.field s l.tree (ident n)) (join l.span n.span) l.height)
field_fits f us p l e sp n sn = fits_node (λ s. plain.field s l.tree (ident n))
    (ap (λ z. join z n.span) e.span ∙ span_over us p (n ∷ []) (postfix_some e.holds) (λ a. cc)) _ (g.field us p n l.tree l.height sp sn e.holds refl)

member_by_begun : (d : ℕ) (f : Bool) (us : List Tok) (p : Tok) (l : Got Expression) → Fits (IsPostfix f) us l → Stands symbol.Dot p → (q : Symbol)
    → Begun (at q) (member_by (operand d) (whole d) (like d) (block d) d l q) (λ vs x. Fits (IsPostfix f) (us ++ (p ∷ vs)) x)
member_by_begun d f us p l e sp symbol.Name = took symbol.Name refl (λ n sn. gave (field_fits f us p l e sp n sn))
member_by_begun d f us p l e sp symbol.Number = index_took _ (λ t v st. gave (fits_node (λ s. plain.part s l.tree v)
    (ap (λ z. join z t.span) e.span ∙ span_over us p (t ∷ []) (postfix_some e.holds) (λ a. cc)) _ (g.part us p t v l.tree l.height sp st e.holds refl)))
member_by_begun d f us p l e sp _ = refused (record { further = stand_in symbol.Name ∷ []; words = words_of (symbol.Name ∷ []) refl; made = _; part = field_fits f us p l e sp (stand_in symbol.Name) (stand_in_stands symbol.Name refl) })

member_begun : (d : ℕ) (f : Bool) (us : List Tok) (l : Got Expression) → Fits (IsPostfix f) us l
    → Begun (at symbol.Dot) (member (operand d) (whole d) (like d) (block d) d l) (λ vs x. Fits (IsPostfix f) (us ++ vs) x)
unfolding member
member_begun d f us l e = roomed l.height d symbol.Dot refl (λ p sp. chose (member_by (operand d) (whole d) (like d) (block d) d l) (member_by_begun d f us p l e sp))

same_some : {K : Known} {p q : Parser (Got Expression)} {E : List Tok → Got Expression → Type 0} → Some p ≡ Some q → Begun K p E → Begun K q E
same_some {K} {p} {q} {E} e m = let z : p ≡ q = cc in subst (λ r. Begun K r E) z m

member_steps : (d : ℕ) (f : Bool) → StepsBegun (Fits (IsPostfix f)) (member_step (operand d) (whole d) (like d) (block d) d)
member_steps d f us l symbol.Dot p e s = same_some s (member_begun d f us l e)
member_steps d f us l _ p e s = absurd (cc)

from_primary : {f : Bool} (ts : List Tok) (x : Got Expression) → Fits (IsPrimary f) ts x → Fits (IsPostfix f) ts x
from_primary ts x e = record { span = e.span; holds = g.primary e.holds }

postfix_begun : {K : Known} (d : ℕ) → Deeper d → LikesBegun d → (f : Bool) → Begun K (postfix (operand d) (whole d) (like d) (block d) d f) (Fits (IsPostfix f))
unfolding postfix
postfix_begun d n l f = chained_begun (Fits (IsPrimary f)) (Fits (IsPostfix f)) (member_step (operand d) (whole d) (like d) (block d) d) (primary (operand d) (whole d) (like d) (block d) d f) (λ n. n)
    (primary_begun d n l f) from_primary (member_steps d f)

-- ---- unaries

unary_in : {f : Bool} (ts : List Tok) (x : Got Expression) → Fits (IsOperand f 0) ts x → Fits (IsUnary f) ts x
unary_in ts x e = record { span = e.span; holds = unary_of e.holds }
  where
    unary_of : {f : Bool} {ts : List Tok} {x : Expression} {h : ℕ} → IsOperand f 0 ts x h → IsUnary f ts x h
    unary_of (g.unary r) = r

module _ (d : ℕ) (n : Deeper d) (f : Bool) where
  unaries : Begun any (operand d f 0) (Fits (IsUnary f))
  unaries = as_also unary_in (n.operands f 0)

  prefix_begun : (q : Symbol) (make : Span → Expression → Expression) → is_word q ≡ true
      → ((t : Tok) (us : List Tok) (x : Expression) (h : ℕ) → Stands q t → IsUnary f us x h → IsUnary f (t ∷ us) (make (span_of (t ∷ us)) x) (suc h))
      → Begun (at q) (prefix (operand d) (whole d) (like d) (block d) d f q make) (Fits (IsUnary f))
  prefix_begun q make w h = roomed 1 d q w (λ t s. passed_last _ unaries (λ us x e.
      fits_node (λ s. make s x.tree) (ap (λ z. join t.span z) e.span ∙ span_from t us (unary_some e.holds)) _ (h t us x.tree x.height s e.holds)))

  borrow_begun : Begun (at symbol.Ampersand) (borrow (operand d) (whole d) (like d) (block d) d f) (Fits (IsUnary f))
  unfolding borrow
  borrow_begun = roomed 1 d symbol.Ampersand refl (λ t s. passed mutability_begun (λ ms m sm. passed_last _ unaries (λ us x e.
      fits_node (λ s. plain.borrow s m x.tree) (ap (λ z. join t.span z) e.span ∙ span_past t ms us (unary_some e.holds)) _ (g.borrow t ms us m x.tree x.height s sm e.holds refl))))

  borrow_twice_begun : Begun (at symbol.AndAnd) (borrow_twice (operand d) (whole d) (like d) (block d) d f) (Fits (IsUnary f))
  unfolding borrow_twice
  borrow_twice_begun = halved_last 1 d (operand d f 0) (λ t x. node (λ s. plain.borrow s false x.tree) (join t.span x.span) x.height) unaries (λ ts x h r. unary_some r)
      (λ t s. whole_part (second_ampersand t ∷ []) (stand_in symbol.Name ∷ []) _ _ (words_of (symbol.Name ∷ []) refl) (g.borrow (second_ampersand t) [] (stand_in symbol.Name ∷ []) false _ _ (refl, refl) immutable
      (g.postfix (g.primary (g.variable (stand_in symbol.Name) (stand_in_stands symbol.Name refl) refl))) refl))
      (λ t s us x e. fits_node (λ s. plain.borrow s false x.tree) (ap (λ z. join t.span z) e.span ∙ second_span t us) _ (g.borrow_twice t us x.tree x.height s e.holds refl))

from_postfix : {f : Bool} (ts : List Tok) (x : Got Expression) → Fits (IsPostfix f) ts x → Fits (IsUnary f) ts x
from_postfix ts x e = record { span = e.span; holds = g.postfix e.holds }

unary_by_begun : (d : ℕ) → Deeper d → LikesBegun d → (f : Bool) (q : Symbol) → Begun (at q) (unary_by (operand d) (whole d) (like d) (block d) d f q) (Fits (IsUnary f))
unary_by_begun d n l f symbol.Minus = prefix_begun d n f symbol.Minus plain.negate refl (λ t us x h s r. g.negate t us x h s r refl)
unary_by_begun d n l f symbol.Bang = prefix_begun d n f symbol.Bang plain.invert refl (λ t us x h s r. g.invert t us x h s r refl)
unary_by_begun d n l f symbol.Star = prefix_begun d n f symbol.Star plain.deref refl (λ t us x h s r. g.deref t us x h s r refl)
unary_by_begun d n l f symbol.Ampersand = borrow_begun d n f
unary_by_begun d n l f symbol.AndAnd = borrow_twice_begun d n f
unary_by_begun d n l f _ = as_also from_postfix (postfix_begun d n l f)

from_unary : {f : Bool} (ts : List Tok) (x : Got Expression) → Fits (IsUnary f) ts x → Fits (IsOperand f 0) ts x
from_unary ts x e = record { span = e.span; holds = g.unary e.holds }

unary_begun : {K : Known} (d : ℕ) → Deeper d → LikesBegun d → (f : Bool) → Begun K (unary (operand d) (whole d) (like d) (block d) d f) (Fits (IsOperand f 0))
unfolding unary
unary_begun d n l f = as_also from_unary (chose (unary_by (operand d) (whole d) (like d) (block d) d f) (unary_by_begun d n l f))

-- ---- operators

longer_begun : (d : ℕ) → Deeper d → (f : Bool) (i j : ℕ) → Joins f i j → (us : List Tok) (l : Got Expression) (q : Symbol) (o : BinaryOp) → Fits (IsOperand f i) us l → operator_at (suc j) q ≡ Some o
    → Begun (at q) (longer (operand d) (whole d) (like d) (block d) d f j l q o) (λ vs x. Fits (IsOperand f (suc j)) (us ++ vs) x)
unfolding longer
longer_begun d n f i j joins us l q o e s = roomed l.height d q (operator_word (suc j) o q s) (λ t st. passed_last _ (n.operands f j) (λ vs r k.
    fits_node (λ s. plain.binary s o l.tree r.tree) (ap (λ z. join z r.span) e.span ∙ ap (λ z. join (span_of us) z) k.span ∙ span_over us t vs (operand_some e.holds) (operand_some k.holds)) _
    (joins us vs t o l.tree r.tree l.height r.height (operator_by (suc j) t o q st s) e.holds k.holds)))

step_by : (d : ℕ) → Deeper d → (f : Bool) (i j : ℕ) → Joins f i j → (us : List Tok) (l : Got Expression) (q : Symbol) (p : Parser (Got Expression)) (v : Option BinaryOp) → Fits (IsOperand f i) us l
    → operator_at (suc j) q ≡ v → longer_by (operand d) (whole d) (like d) (block d) d f j l q v ≡ Some p → Begun (at q) p (λ vs x. Fits (IsOperand f (suc j)) (us ++ vs) x)
step_by d n f i j joins us l q p None e s w = absurd (cc)
step_by d n f i j joins us l q p (Some o) e s w = same_some w (longer_begun d n f i j joins us l q o e s)

stronger_fits : {f : Bool} {j : ℕ} (ts : List Tok) (x : Got Expression) → Fits (IsOperand f j) ts x → Fits (IsOperand f (suc j)) ts x
stronger_fits ts x e = record { span = e.span; holds = g.stronger e.holds }

at_strength_by : {K : Known} (d : ℕ) → Deeper d → (f : Bool) (j : ℕ) (b : Bool) → (j == 2) ≡ b → Begun any (at_strength (operand d) (whole d) (like d) (block d) d f j) (Fits (IsOperand f j))
    → Begun K (at_strength (operand d) (whole d) (like d) (block d) d f j >>= (λ l i. chain (binary_step (operand d) (whole d) (like d) (block d) d f j) (cond b 1 (length i)) l i)) (Fits (IsOperand f (suc j)))
at_strength_by d n f j true e ok = passed ok (λ us l m.
    let two : j ≡ 2 = eqb-true j 2 e in
    once_begun (Fits (IsOperand f (suc j))) (binary_step (operand d) (whole d) (like d) (block d) d f j) us l (stronger_fits us l m)
    (λ q p s. step_by d n f j j (λ us vs t o l r m n op a b. g.compare us vs t o l r m n two op a b refl) us l q p (operator_at (suc j) q) m refl s))
at_strength_by d n f j false e ok =
    let other : j ≢ 2 = λ a. let z : (2 == 2) ≡ false = subst (λ k. (k == 2) ≡ false) a e in absurd (cc) in
    chained_begun (Fits (IsOperand f j)) (Fits (IsOperand f (suc j))) (binary_step (operand d) (whole d) (like d) (block d) d f j) (at_strength (operand d) (whole d) (like d) (block d) d f j) (λ n. n)
    ok stronger_fits
    (λ us l q p m s. step_by d n f (suc j) j (λ us vs t o l r m n op a b. g.chain us vs t o l r m n other op a b refl) us l q p (operator_at (suc j) q) m refl s)

pub at_strength_begun : {K : Known} (d : ℕ) → Deeper d → LikesBegun d → (f : Bool) (j : ℕ) → Begun K (at_strength (operand d) (whole d) (like d) (block d) d f j) (Fits (IsOperand f j))
unfolding at_strength
at_strength_begun d n l f zero = unary_begun d n l f
at_strength_begun d n l f (suc j) = at_strength_by d n f j (j == 2) refl (at_strength_begun d n l f j)
