-- An operand that is read is one that the grammar derives, where what is one level deeper is.
use Rattle.std.proofs.Common.{◌≡◌, ℕ, zero, suc, ◌≤◌, max, Bool, true, false, cond, List, [], ◌∷◌, ◌++◌, length, Option, Some, None, codes, refl, sym, ap, subst, ◌∙◌, arith}
use Rattle.std.specs.Prelude.{◌≢◌, ◌==◌}
use Rattle.std.specs.Str.{bytes_eq}
use Rattle.std.proofs.lemmas.Slice.Eq.{bytes_eq-Decides}
use Rattle.std.proofs.lemmas.Bool.{and_parts, eqb-true}
use Rattle.rx_core.specs.declared.types.Span.{Span}
use Rattle.rx_tree.specs.declared.tree.Ident.{Ident}
use Rattle.rx_tree.specs.declared.tree.BinaryOp.{BinaryOp}
use Rattle.rx_tree.specs.Plain as plain
use Rattle.rx_tree.specs.Plain.{Expression, Body}
use Rattle.rx_tree.specs.PlainOf.{expressions_of, field_expressions_of}
use Rattle.rx_lex.specs.Tok.{Tok}
use Rattle.rx_parse_grammar.specs.declared.symbol.Symbol.{Symbol}
use Rattle.rx_parse_grammar.specs.declared.symbol.Symbol.TheVariants as symbol
use Rattle.rx_parse_grammar.specs.grammar.Words.{IsListOf, no_element, last_element, element, join, span_of, ident, second_ampersand}
use Rattle.rx_parse_grammar.specs.grammar.Expressions.{IsExpression, IsOperand, IsUnary, IsPostfix, IsPrimary, AreArguments, IsField, AreFields, IsLike, IsBlock, IsOperator}
use Rattle.rx_parse_grammar.specs.grammar.Expressions as g
use Rattle.rx_parse_grammar.specs.parser.Steps.{Parser, Got, ◌>>=◌, pure, leaf}
use Rattle.rx_parse_grammar.specs.parser.Lists.{group}
use Rattle.rx_parse_grammar.specs.parser.Operators.{operator_at}
use Rattle.rx_parse_grammar.specs.parser.Expressions.{call, variant_arguments, input, variant_with, path, is_input, field_value, field_by, field, struct_literal, print, named_by, named, like_by, primary_by, primary, member_by, member, member_step, postfix, prefix, borrow, borrow_twice, unary_by, unary, longer, longer_by, binary_step, at_strength, chain}
use Rattle.rx_parse_grammar.specs.parser.Blocks.{operand, whole, like, block}
use Rattle.rx_parse_grammar.proofs.SymbolLemmas.{Stands, is_word}
use Rattle.rx_parse_grammar.proofs.Reading.{span_between, span_from, span_past, span_over}
use Rattle.rx_parse_grammar.proofs.Deriving.{Derives, Fits, fits_leaf, fits_node, took, passed, passed_last, gave, chose, either, roomy, refused, as_also, listed_found, some_listed_found, group_found, after_first}
use Rattle.rx_parse_grammar.proofs.NumberLaws.{number_took, index_took}
use Rattle.rx_parse_grammar.proofs.TypesDerived.{mutability_derived, second_span}
use Rattle.rx_parse_grammar.proofs.OperatorLaws.{operator_by, operator_word}
use Rattle.rx_parse_grammar.proofs.ChainsDerived.{StepsDerive, once_derived, chained_derived}
use Rattle.rx_parse_grammar.proofs.ExpressionsFront.{expression_some, unary_some, postfix_some, operand_some}

-- ---- lists

pub arguments_are : {us : List Tok} {xs : List Expression} {h : ℕ} → IsListOf IsExpression us xs h → AreArguments us xs h
arguments_are no_element = g.no_argument
arguments_are (last_element r) = g.last_argument r
arguments_are (element us vs c x xs m n r s more is) = g.argument_and us vs c x xs m n r s (arguments_are more) is

pub fields_are : {us : List Tok} {xs : List (Ident × Expression)} {h : ℕ} → IsListOf IsField us xs h → AreFields us xs h
fields_are no_element = g.no_field
fields_are (last_element r) = g.last_field r
fields_are (element us vs c x xs m n r s more is) = g.field_and us vs c x xs m n r s (fields_are more) is

-- one of two parsers
tested : {A : Type 0} {p q : Parser A} {E : List Tok → A → Type 0} (b : Bool) → (b ≡ true → Derives p E) → (b ≡ false → Derives q E) → Derives (cond {A = Parser A} b p q) E
tested true f h = f refl
tested false f h = h refl

-- ---- primaries

module _ (d : ℕ) (ok : Derives (whole d) (Fits IsExpression d)) (f : Bool) where
  call_derived : (t : Tok) → Stands symbol.Name t → Derives (call (whole d) d t) (λ us x. Fits (IsPrimary f) (suc d) (t ∷ us) x)
  unfolding call
  call_derived t s = took symbol.OpenParen refl (λ o so. listed_found symbol.CloseParen _ [] 0 refl ok (λ us c xs h sc l b.
      let z : max 0 h ≡ h = omega arith in
      gave (fits_node (λ s. plain.call s (ident t) (expressions_of xs)) (span_between (o ∷ us) t c) (omega arith)
      (subst (λ i. IsPrimary f (t ∷ o ∷ (us ++ (c ∷ []))) (plain.call (span_of (t ∷ o ∷ (us ++ (c ∷ [])))) (ident t) (expressions_of xs)) (suc i)) (sym z)
      (g.call t o c us xs h s so sc (arguments_are l) refl)))))

  variant_arguments_derived : (e p v o : Tok) → Stands symbol.Name e → Stands symbol.ColonColon p → Stands symbol.Name v → Stands symbol.OpenParen o
      → Derives (variant_arguments (whole d) d e v) (λ us x. Fits (IsPrimary f) (suc d) (e ∷ p ∷ v ∷ o ∷ us) x)
  unfolding variant_arguments
  variant_arguments_derived e p v o se sp sv so = some_listed_found symbol.CloseParen _ refl ok (λ us c x xs h sc l b.
      gave (fits_node (λ s. plain.variant s (ident e) (ident v) (plain.a_list (expressions_of (x ∷ xs)))) (span_between (p ∷ v ∷ o ∷ us) e c) b
      (g.variant_with e p v o c us x xs h se sp sv so sc (arguments_are l) refl)))

  input_derived : (e p v : Tok) → Stands symbol.Name e → Stands symbol.ColonColon p → Stands symbol.Name v → is_input e v ≡ true
      → Derives (input (whole d) d e v) (λ us x. Fits (IsPrimary f) (suc d) (e ∷ p ∷ v ∷ us) x)
  unfolding input
  input_derived e p v se sp sv is =
      let w = and_parts (bytes_eq e.text (codes "rt")) (bytes_eq v.text (codes "next")) is in
      took symbol.OpenParen refl (λ o so. either symbol.CloseParen
      (took symbol.CloseParen refl (λ c sc. gave (fits_leaf plain.next_input refl
      (g.next_input e p v o c (se, (bytes_eq-Decides e.text (codes "rt")).0 w.0) sp (sv, (bytes_eq-Decides v.text (codes "next")).0 w.1) so sc refl))))
      (variant_arguments_derived e p v o se sp sv so))

  variant_with_derived : (e p v : Tok) → Stands symbol.Name e → Stands symbol.ColonColon p → Stands symbol.Name v
      → Derives (variant_with (whole d) d e v) (λ us x. Fits (IsPrimary f) (suc d) (e ∷ p ∷ v ∷ us) x)
  unfolding variant_with
  variant_with_derived e p v se sp sv = roomy 1 d (λ low. took symbol.OpenParen refl (λ o so. variant_arguments_derived e p v o se sp sv so))

  path_derived : (e : Tok) → Stands symbol.Name e → Derives (path (whole d) d e) (λ us x. Fits (IsPrimary f) (suc d) (e ∷ us) x)
  unfolding path
  path_derived e se = took symbol.ColonColon refl (λ p sp. took symbol.Name refl (λ v sv. either symbol.OpenParen
      (tested (is_input e v) (input_derived e p v se sp sv) (λ n. variant_with_derived e p v se sp sv))
      (gave (fits_leaf (λ s. plain.variant s (ident e) (ident v) plain.no_list) refl (g.variant e p v se sp sv refl)))))

  field_value_derived : 1 ≤ d → Derives (field_value (whole d) d) (Fits IsField d)
  unfolding field_value
  field_value_derived low = took symbol.Name refl (λ n sn. either symbol.Colon
      (took symbol.Colon refl (λ c sc. passed_last _ ok (λ us x e. record {
        low = e.low;
        span = ap (λ z. join n.span z) e.span ∙ span_past n (c ∷ []) us (expression_some e.holds);
        holds = g.long_field n c us x.tree x.height sn sc e.holds refl;
      })))
      (gave (record { low = low; span = refl; holds = g.short_field n sn refl })))

  field_by_derived : (q : Symbol) → Derives (field_by (whole d) d q) (Fits IsField d)
  field_by_derived symbol.Name = roomy 1 d field_value_derived
  field_by_derived _ = refused

  field_derived : Derives (field (whole d) d) (Fits IsField d)
  unfolding field
  field_derived = chose (field_by (whole d) d) field_by_derived

  print_derived : (p : Tok) → Stands symbol.Name p → p.text ≡ codes "println" → Derives (print (whole d) d p) (λ us x. Fits (IsPrimary f) (suc d) (p ∷ us) x)
  unfolding print
  print_derived p sp word = roomy 1 d (λ low. took symbol.Bang refl (λ b sb. took symbol.OpenParen refl (λ o so. took symbol.Format refl (λ q sq. took symbol.Comma refl (λ m sm.
      passed ok (λ us x e. took symbol.CloseParen refl (λ c sc. gave (fits_node (λ s. plain.print s x.tree) (span_between (b ∷ o ∷ q ∷ m ∷ us) p c) e.low
      (g.print p b o q m c us x.tree x.height (sp, word) sb so sq sm sc e.holds refl)))))))))

  variable_derived : (t : Tok) → Stands symbol.Name t → Derives (pure (leaf (λ s. plain.var s t.text) t.span)) (λ us x. Fits (IsPrimary f) (suc d) (t ∷ us) x)
  variable_derived t s = gave (fits_leaf (λ s. plain.var s t.text) refl (g.variable t s refl))

struct_derived : (d : ℕ) → Derives (whole d) (Fits IsExpression d) → (n : Tok) → Stands symbol.Name n → Derives (struct_literal (whole d) d n) (λ us x. Fits (IsPrimary true) (suc d) (n ∷ us) x)
unfolding struct_literal
struct_derived d ok n sn = took symbol.OpenBrace refl (λ o so. listed_found symbol.CloseBrace _ [] 0 refl (field_derived d ok true) (λ us c fs h sc l b.
    let z : max 0 h ≡ h = omega arith in
    gave (fits_node (λ s. plain.make s (ident n) (field_expressions_of fs)) (span_between (o ∷ us) n c) (omega arith)
    (subst (λ i. IsPrimary true (n ∷ o ∷ (us ++ (c ∷ []))) (plain.make (span_of (n ∷ o ∷ (us ++ (c ∷ [])))) (ident n) (field_expressions_of fs)) (suc i)) (sym z)
    (g.structure n o c us fs h sn so sc (fields_are l) refl)))))

named_by_derived : (d : ℕ) → Derives (whole d) (Fits IsExpression d) → (f : Bool) (t : Tok) → Stands symbol.Name t → (q : Symbol) → Derives (named_by (whole d) d f t q) (λ us x. Fits (IsPrimary f) (suc d) (t ∷ us) x)
named_by_derived d ok f t s symbol.OpenParen = call_derived d ok f t s
named_by_derived d ok f t s symbol.ColonColon = path_derived d ok f t s
named_by_derived d ok true t s symbol.OpenBrace = struct_derived d ok t s
named_by_derived d ok false t s symbol.OpenBrace = variable_derived d ok false t s
named_by_derived d ok f t s symbol.Bang = tested (bytes_eq t.text (codes "println")) (λ e. print_derived d ok f t s ((bytes_eq-Decides t.text (codes "println")).0 e)) (λ e. variable_derived d ok f t s)
named_by_derived d ok f t s _ = variable_derived d ok f t s

-- ---- what is one level deeper, and an expression that ends in a block

pub record Deeper (d : ℕ) : Type 0 where
  pub operands : (f : Bool) (j : ℕ) → Derives (operand d f j) (Fits (IsOperand f j) d)
  pub wholes : Derives (whole d) (Fits IsExpression d)
  pub likes : Derives (like d) (Fits IsLike d)
  pub blocks : Derives (block d) (Fits IsBlock d)

abbrev pub LikesDerive : ℕ → Type 0
LikesDerive d = (q : Symbol) → Derives (like_by (operand d) (whole d) (like d) (block d) d q) (Fits IsLike (suc d))

from_like : {d : ℕ} {f : Bool} (ts : List Tok) (x : Got Expression) → Fits IsLike d ts x → Fits (IsPrimary f) d ts x
from_like ts x e = record { low = e.low; span = e.span; holds = g.like e.holds }

grouped_derived : (d : ℕ) → Deeper d → (f : Bool) → Derives (group (whole d) (λ s l. plain.tuple s (expressions_of l))) (Fits (IsPrimary f) (suc d))
grouped_derived d n f = group_found _ IsExpression (IsPrimary f) n.wholes
    (λ o c so sc. g.unit o c so sc refl)
    (λ o c us x h so sc r. g.parentheses o c us x h so sc r refl)
    (λ o m c us vs x xs h i so sm sc r more. g.tuple o m c us vs x xs h i so sm sc r (arguments_are more) refl)

primary_by_derived : (d : ℕ) → Deeper d → LikesDerive d → (f : Bool) (q : Symbol) → Derives (primary_by (operand d) (whole d) (like d) (block d) d f q) (Fits (IsPrimary f) (suc d))
unfolding named
primary_by_derived d n l f symbol.Number = number_took _ (λ t v k s. gave (fits_leaf (λ s. plain.int s v k) refl (g.number t v k s refl)))
primary_by_derived d n l f symbol.True = took symbol.True refl (λ t s. gave (fits_leaf (λ s. plain.bool s true) refl (g.true_is t s refl)))
primary_by_derived d n l f symbol.False = took symbol.False refl (λ t s. gave (fits_leaf (λ s. plain.bool s false) refl (g.false_is t s refl)))
primary_by_derived d n l f symbol.Name = took symbol.Name refl (λ t s. chose (named_by (whole d) d f t) (named_by_derived d n.wholes f t s))
primary_by_derived d n l f symbol.OpenParen = grouped_derived d n f
primary_by_derived d n l f q = as_also from_like (l q)

primary_derived : (d : ℕ) → Deeper d → LikesDerive d → (f : Bool) → Derives (primary (operand d) (whole d) (like d) (block d) d f) (Fits (IsPrimary f) (suc d))
unfolding primary
primary_derived d n l f = chose (primary_by (operand d) (whole d) (like d) (block d) d f) (primary_by_derived d n l f)

-- ---- fields and parts

member_by_derived : (d : ℕ) (f : Bool) (us : List Tok) (p : Tok) (l : Got Expression) → l.height ≤ d → Fits (IsPostfix f) (suc d) us l → Stands symbol.Dot p → (q : Symbol)
    → Derives (member_by (operand d) (whole d) (like d) (block d) d l q) (λ vs x. Fits (IsPostfix f) (suc d) (us ++ (p ∷ vs)) x)
member_by_derived d f us p l low e sp symbol.Name = took symbol.Name refl (λ n sn. gave (fits_node (λ s. plain.field s l.tree (ident n))
    (ap (λ z. join z n.span) e.span ∙ span_over us p (n ∷ []) (postfix_some e.holds) (λ a. cc)) low (g.field us p n l.tree l.height sp sn e.holds refl)))
member_by_derived d f us p l low e sp symbol.Number = index_took _ (λ t v st. gave (fits_node (λ s. plain.part s l.tree v)
    (ap (λ z. join z t.span) e.span ∙ span_over us p (t ∷ []) (postfix_some e.holds) (λ a. cc)) low (g.part us p t v l.tree l.height sp st e.holds refl)))
member_by_derived d f us p l low e sp _ = refused

member_derived : (d : ℕ) (f : Bool) (us : List Tok) (l : Got Expression) → Fits (IsPostfix f) (suc d) us l
    → Derives (member (operand d) (whole d) (like d) (block d) d l) (λ vs x. Fits (IsPostfix f) (suc d) (us ++ vs) x)
unfolding member
member_derived d f us l e = roomy l.height d (λ low. took symbol.Dot refl (λ p sp. chose (member_by (operand d) (whole d) (like d) (block d) d l) (member_by_derived d f us p l low e sp)))

same_some : {p q : Parser (Got Expression)} {E : List Tok → Got Expression → Type 0} → Some p ≡ Some q → Derives p E → Derives q E
same_some {p} {q} {E} e m = let z : p ≡ q = cc in subst (λ r. Derives r E) z m

member_steps : (d : ℕ) (f : Bool) → StepsDerive (Fits (IsPostfix f) (suc d)) (member_step (operand d) (whole d) (like d) (block d) d)
member_steps d f us l symbol.Dot p e s = same_some s (member_derived d f us l e)
member_steps d f us l _ p e s = absurd (cc)

from_primary : {d : ℕ} {f : Bool} (ts : List Tok) (x : Got Expression) → Fits (IsPrimary f) d ts x → Fits (IsPostfix f) d ts x
from_primary ts x e = record { low = e.low; span = e.span; holds = g.primary e.holds }

postfix_derived : (d : ℕ) → Deeper d → LikesDerive d → (f : Bool) → Derives (postfix (operand d) (whole d) (like d) (block d) d f) (Fits (IsPostfix f) (suc d))
unfolding postfix
postfix_derived d n l f = chained_derived (Fits (IsPrimary f) (suc d)) (Fits (IsPostfix f) (suc d)) (member_step (operand d) (whole d) (like d) (block d) d) (primary (operand d) (whole d) (like d) (block d) d f) (λ n. n)
    (primary_derived d n l f) from_primary (member_steps d f)

-- ---- unaries

unary_in : {d : ℕ} {f : Bool} (ts : List Tok) (x : Got Expression) → Fits (IsOperand f 0) d ts x → Fits (IsUnary f) d ts x
unary_in ts x e = record { low = e.low; span = e.span; holds = unary_of e.holds }
  where
    unary_of : {f : Bool} {ts : List Tok} {x : Expression} {h : ℕ} → IsOperand f 0 ts x h → IsUnary f ts x h
    unary_of (g.unary r) = r

module _ (d : ℕ) (n : Deeper d) (f : Bool) where
  unaries : Derives (operand d f 0) (Fits (IsUnary f) d)
  unaries = as_also unary_in (n.operands f 0)

  prefix_derived : (q : Symbol) (make : Span → Expression → Expression) → is_word q ≡ true
      → ((t : Tok) (us : List Tok) (x : Expression) (h : ℕ) → Stands q t → IsUnary f us x h → IsUnary f (t ∷ us) (make (span_of (t ∷ us)) x) (suc h))
      → Derives (prefix (operand d) (whole d) (like d) (block d) d f q make) (Fits (IsUnary f) (suc d))
  prefix_derived q make w h = roomy 1 d (λ low. took q w (λ t s. passed_last _ unaries (λ us x e.
      fits_node (λ s. make s x.tree) (ap (λ z. join t.span z) e.span ∙ span_from t us (unary_some e.holds)) e.low (h t us x.tree x.height s e.holds))))

  borrow_derived : Derives (borrow (operand d) (whole d) (like d) (block d) d f) (Fits (IsUnary f) (suc d))
  unfolding borrow
  borrow_derived = roomy 1 d (λ low. took symbol.Ampersand refl (λ t s. passed mutability_derived (λ ms m sm. passed_last _ unaries (λ us x e.
      fits_node (λ s. plain.borrow s m x.tree) (ap (λ z. join t.span z) e.span ∙ span_past t ms us (unary_some e.holds)) e.low (g.borrow t ms us m x.tree x.height s sm e.holds refl)))))

  borrow_twice_derived : Derives (borrow_twice (operand d) (whole d) (like d) (block d) d f) (Fits (IsUnary f) (suc d))
  unfolding borrow_twice
  borrow_twice_derived = roomy 1 d (λ low. took symbol.AndAnd refl (λ t s. passed_last _ (after_first (operand d f 0) (second_ampersand t) (λ ts x h r. unary_some r) unaries) (λ us x e.
      fits_node (λ s. plain.borrow s false x.tree) (ap (λ z. join t.span z) e.span ∙ second_span t us) e.low (g.borrow_twice t us x.tree x.height s e.holds refl))))

from_postfix : {d : ℕ} {f : Bool} (ts : List Tok) (x : Got Expression) → Fits (IsPostfix f) d ts x → Fits (IsUnary f) d ts x
from_postfix ts x e = record { low = e.low; span = e.span; holds = g.postfix e.holds }

unary_by_derived : (d : ℕ) → Deeper d → LikesDerive d → (f : Bool) (q : Symbol) → Derives (unary_by (operand d) (whole d) (like d) (block d) d f q) (Fits (IsUnary f) (suc d))
unary_by_derived d n l f symbol.Minus = prefix_derived d n f symbol.Minus plain.negate refl (λ t us x h s r. g.negate t us x h s r refl)
unary_by_derived d n l f symbol.Bang = prefix_derived d n f symbol.Bang plain.invert refl (λ t us x h s r. g.invert t us x h s r refl)
unary_by_derived d n l f symbol.Star = prefix_derived d n f symbol.Star plain.deref refl (λ t us x h s r. g.deref t us x h s r refl)
unary_by_derived d n l f symbol.Ampersand = borrow_derived d n f
unary_by_derived d n l f symbol.AndAnd = borrow_twice_derived d n f
unary_by_derived d n l f _ = as_also from_postfix (postfix_derived d n l f)

from_unary : {d : ℕ} {f : Bool} (ts : List Tok) (x : Got Expression) → Fits (IsUnary f) d ts x → Fits (IsOperand f 0) d ts x
from_unary ts x e = record { low = e.low; span = e.span; holds = g.unary e.holds }

unary_derived : (d : ℕ) → Deeper d → LikesDerive d → (f : Bool) → Derives (unary (operand d) (whole d) (like d) (block d) d f) (Fits (IsOperand f 0) (suc d))
unfolding unary
unary_derived d n l f = as_also from_unary (chose (unary_by (operand d) (whole d) (like d) (block d) d f) (unary_by_derived d n l f))

-- ---- operators

-- how the grammar puts two operands together
abbrev pub Joins : Bool → ℕ → ℕ → Type 0
Joins f i j = (us vs : List Tok) (t : Tok) (o : BinaryOp) (l r : Expression) (m n : ℕ) → IsOperator (suc j) t o → IsOperand f i us l m → IsOperand f j vs r n
    → IsOperand f (suc j) (us ++ (t ∷ vs)) (plain.binary (span_of (us ++ (t ∷ vs))) o l r) (suc (max m n))

longer_derived : (d : ℕ) → Deeper d → (f : Bool) (i j : ℕ) → Joins f i j → (us : List Tok) (l : Got Expression) (q : Symbol) (o : BinaryOp) → Fits (IsOperand f i) (suc d) us l → operator_at (suc j) q ≡ Some o
    → Derives (longer (operand d) (whole d) (like d) (block d) d f j l q o) (λ vs x. Fits (IsOperand f (suc j)) (suc d) (us ++ vs) x)
unfolding longer
longer_derived d n f i j joins us l q o e s = roomy l.height d (λ low. took q (operator_word (suc j) o q s) (λ t st. passed_last _ (n.operands f j) (λ vs r k.
    let b = k.low in
    fits_node (λ s. plain.binary s o l.tree r.tree) (ap (λ z. join z r.span) e.span ∙ ap (λ z. join (span_of us) z) k.span ∙ span_over us t vs (operand_some e.holds) (operand_some k.holds)) (omega arith)
    (joins us vs t o l.tree r.tree l.height r.height (operator_by (suc j) t o q st s) e.holds k.holds))))

step_by : (d : ℕ) → Deeper d → (f : Bool) (i j : ℕ) → Joins f i j → (us : List Tok) (l : Got Expression) (q : Symbol) (p : Parser (Got Expression)) (v : Option BinaryOp) → Fits (IsOperand f i) (suc d) us l
    → operator_at (suc j) q ≡ v → longer_by (operand d) (whole d) (like d) (block d) d f j l q v ≡ Some p → Derives p (λ vs x. Fits (IsOperand f (suc j)) (suc d) (us ++ vs) x)
step_by d n f i j joins us l q p None e s w = absurd (cc)
step_by d n f i j joins us l q p (Some o) e s w = same_some w (longer_derived d n f i j joins us l q o e s)

stronger_fits : {d : ℕ} {f : Bool} {j : ℕ} (ts : List Tok) (x : Got Expression) → Fits (IsOperand f j) d ts x → Fits (IsOperand f (suc j)) d ts x
stronger_fits ts x e = record { low = e.low; span = e.span; holds = g.stronger e.holds }

at_strength_by : (d : ℕ) → Deeper d → (f : Bool) (j : ℕ) (b : Bool) → (j == 2) ≡ b → Derives (at_strength (operand d) (whole d) (like d) (block d) d f j) (Fits (IsOperand f j) (suc d))
    → Derives (at_strength (operand d) (whole d) (like d) (block d) d f j >>= (λ l i. chain (binary_step (operand d) (whole d) (like d) (block d) d f j) (cond b 1 (length i)) l i)) (Fits (IsOperand f (suc j)) (suc d))
at_strength_by d n f j true e ok = passed ok (λ us l m.
    let two : j ≡ 2 = eqb-true j 2 e in
    once_derived (Fits (IsOperand f (suc j)) (suc d)) (binary_step (operand d) (whole d) (like d) (block d) d f j) us l (stronger_fits us l m)
    (λ q p s. step_by d n f j j (λ us vs t o l r m n op a b. g.compare us vs t o l r m n two op a b refl) us l q p (operator_at (suc j) q) m refl s))
at_strength_by d n f j false e ok =
    let other : j ≢ 2 = λ a. let z : (2 == 2) ≡ false = subst (λ k. (k == 2) ≡ false) a e in absurd (cc) in
    chained_derived (Fits (IsOperand f j) (suc d)) (Fits (IsOperand f (suc j)) (suc d)) (binary_step (operand d) (whole d) (like d) (block d) d f j) (at_strength (operand d) (whole d) (like d) (block d) d f j) (λ n. n)
    ok stronger_fits
    (λ us l q p m s. step_by d n f (suc j) j (λ us vs t o l r m n op a b. g.chain us vs t o l r m n other op a b refl) us l q p (operator_at (suc j) q) m refl s)

pub at_strength_derived : (d : ℕ) → Deeper d → LikesDerive d → (f : Bool) (j : ℕ) → Derives (at_strength (operand d) (whole d) (like d) (block d) d f j) (Fits (IsOperand f j) (suc d))
unfolding at_strength
at_strength_derived d n l f zero = unary_derived d n l f
at_strength_derived d n l f (suc j) = at_strength_by d n f j (j == 2) refl (at_strength_derived d n l f j)
