-- How each operand is read, where its parts are: production by production.
use Rattle.std.proofs.Common.{◌≡◌, ℕ, suc, ◌+◌, ◌≤◌, ◌<◌, max, Bool, true, false, cond, List, [], ◌∷◌, ◌++◌, length, Option, Some, None, codes, refl, sym, ap, subst, ◌∙◌, arith, append_assoc}
use Rattle.std.specs.Prelude.{◌≢◌, ◌==◌}
use Rattle.std.specs.Str.{bytes_eq}
use Rattle.std.proofs.lemmas.Slice.Eq.{bytes_eq-Decides}
use Rattle.std.proofs.lemmas.Bool.{and_from}
use Rattle.rx_core.specs.declared.types.Span.{Span}
use Rattle.rx_core.specs.declared.types.Kind.{Kind}
use Rattle.rx_tree.specs.declared.tree.Ident.{Ident}
use Rattle.rx_tree.specs.declared.tree.BinaryOp.{BinaryOp}
use Rattle.rx_tree.specs.Plain as plain
use Rattle.rx_tree.specs.Plain.{Expression, Body}
use Rattle.rx_tree.specs.PlainOf.{expressions_of, field_expressions_of}
use Rattle.rx_lex.specs.Tok.{Tok}
use Rattle.rx_parse_grammar.specs.declared.symbol.Symbol.{Symbol}
use Rattle.rx_parse_grammar.specs.declared.symbol.Symbol.TheVariants as symbol
use Rattle.rx_parse_grammar.specs.grammar.Words.{IsNumber, IsIndex, IsListOf, IsMutability, join, span_of, ident, second_ampersand}
use Rattle.rx_parse_grammar.specs.parser.Symbols.{symbol_of, peek}
use Rattle.rx_parse_grammar.specs.parser.Steps.{Parser, Got, and_then, pure, node}
use Rattle.rx_parse_grammar.specs.parser.Operators.{operator_at, begins_like, begins_operand}
use Rattle.rx_parse_grammar.specs.parser.Expressions.{call, variant_arguments, input, variant_with, path, is_input, field_value, field_by, field, struct_literal, print, variable, named_by, named, like_by, primary_by, primary, member_by, member, member_step, postfix, prefix, borrow, borrow_twice, unary_by, unary, longer, longer_by, binary_step, turns, at_strength, chain}
use Rattle.rx_parse_grammar.specs.parser.Blocks.{operand, whole, like, block}
use Rattle.rx_parse_grammar.proofs.SymbolLemmas.{Stands, is_word, stands}
use Rattle.rx_parse_grammar.proofs.Reading.{Reads, take, part, last, done, by, turned, here, there, room, first_is, got, node_is, span_between, span_from, span_past, span_over, differs, Element, closes_paren, listed, some_listed}
use Rattle.rx_parse_grammar.proofs.NumberLaws.{number_take, index_take}
use Rattle.rx_parse_grammar.proofs.TypesRead.{mutability_reads}
use Rattle.rx_parse_grammar.proofs.TypesDerived.{second_span}
use Rattle.rx_parse_grammar.proofs.OperatorLaws.{operator_word}
use Rattle.rx_parse_grammar.proofs.ExpressionsFront.{begins_primary}
use Rattle.rx_parse_grammar.proofs.ChainsRead.{reach, EndsExpression, not_next, no_operator_next, Goes, goes_first, goes_further, goes_until, chain_stops, chain_goes}

-- the parsers of one level more
abbrev pub Primary : ℕ → Bool → Parser (Got Expression)
Primary d f = primary (operand d) (whole d) (like d) (block d) d f

abbrev pub Postfix : ℕ → Bool → Parser (Got Expression)
Postfix d f = postfix (operand d) (whole d) (like d) (block d) d f

abbrev pub Unary : ℕ → Bool → Parser (Got Expression)
Unary d f = unary (operand d) (whole d) (like d) (block d) d f

abbrev pub Strength : ℕ → Bool → ℕ → Parser (Got Expression)
Strength d f j = at_strength (operand d) (whole d) (like d) (block d) d f j

abbrev pub Members : ℕ → Got Expression → Symbol → Option (Parser (Got Expression))
Members d = member_step (operand d) (whole d) (like d) (block d) d

abbrev pub Binaries : ℕ → Bool → ℕ → Got Expression → Symbol → Option (Parser (Got Expression))
Binaries d f j = binary_step (operand d) (whole d) (like d) (block d) d f j

-- ---- primaries

named_other : (W : Parser (Got Expression)) (d : ℕ) (f : Bool) (t : Tok) (q : Symbol) → 0 < reach f q → named_by W d f t q ≡ pure (variable t)
named_other W d f t symbol.OpenParen b = absurd (omega arith)
named_other W d f t symbol.ColonColon b = absurd (omega arith)
named_other W d f t symbol.Bang b = absurd (omega arith)
named_other W d true t symbol.OpenBrace b = absurd (omega arith)
named_other W d false t symbol.OpenBrace b = refl
named_other W d f t _ b = refl

-- a test that holds, and one that doesn't
when_true : {A : Type 0} {p : Parser A} (q : Parser A) {ts rest : List Tok} {x : A} {b : Bool} → b ≡ true → Reads p ts x rest → Reads (cond {A = Parser A} b p q) ts x rest
when_true {p = p} q {ts = ts} {rest = rest} {x = x} e r = subst (λ b. Reads (cond {A = Parser _} b p q) ts x rest) (sym e) r

when_either : {A : Type 0} {p q : Parser A} {ts rest : List Tok} {x : A} (b : Bool) → Reads p ts x rest → Reads q ts x rest → Reads (cond {A = Parser A} b p q) ts x rest
when_either true r s = r
when_either false r s = s

module _ (d : ℕ) (f : Bool) (rest : List Tok) where
  pub number_case : (t : Tok) (v : ℕ) (k : Option Kind) → IsNumber t v k → Reads (Primary d f) (t ∷ []) (got (t ∷ []) (plain.int (span_of (t ∷ [])) v k) 1) rest
  unfolding primary
  number_case t v k s = by (primary_by (operand d) (whole d) (like d) (block d) d f) symbol.Number (first_is symbol.Number t refl s.class) (number_take _ t v k s (done refl))

  pub true_case : (t : Tok) → Stands symbol.True t → Reads (Primary d f) (t ∷ []) (got (t ∷ []) (plain.bool (span_of (t ∷ [])) true) 1) rest
  unfolding primary
  true_case t s = by (primary_by (operand d) (whole d) (like d) (block d) d f) symbol.True (first_is symbol.True t refl s) (take _ symbol.True t refl s (done refl))

  pub false_case : (t : Tok) → Stands symbol.False t → Reads (Primary d f) (t ∷ []) (got (t ∷ []) (plain.bool (span_of (t ∷ [])) false) 1) rest
  unfolding primary
  false_case t s = by (primary_by (operand d) (whole d) (like d) (block d) d f) symbol.False (first_is symbol.False t refl s) (take _ symbol.False t refl s (done refl))

  pub named_case : (t : Tok) (us : List Tok) (x : Expression) (h : ℕ) (p : Parser (Got Expression)) → Stands symbol.Name t → named_by (whole d) d f t (peek (us ++ rest)) ≡ p → Reads p us (got (t ∷ us) x h) rest
      → Reads (Primary d f) (t ∷ us) (got (t ∷ us) x h) rest
  unfolding primary named
  named_case t us x h p s e r =
      by (primary_by (operand d) (whole d) (like d) (block d) d f) symbol.Name (first_is symbol.Name t refl s) (take _ symbol.Name t refl s (turned (named_by (whole d) d f t) p e r))

  pub variable_case : (t : Tok) → Stands symbol.Name t → 0 < reach f (peek rest) → Reads (Primary d f) (t ∷ []) (got (t ∷ []) (plain.var (span_of (t ∷ [])) t.text) 1) rest
  variable_case t s b = named_case t [] _ 1 (pure (variable t)) s (named_other (whole d) d f t (peek rest) b) (done refl)

  pub call_case : (t o c : Tok) (us : List Tok) (xs : List Expression) (h : ℕ) → Stands symbol.Name t → Stands symbol.OpenParen o → Stands symbol.CloseParen c
      → IsListOf (Element (whole d) EndsExpression symbol.CloseParen) us xs h
      → Reads (Primary d f) (t ∷ o ∷ (us ++ (c ∷ []))) (got (t ∷ o ∷ (us ++ (c ∷ []))) (plain.call (span_of (t ∷ o ∷ (us ++ (c ∷ [])))) (ident t) (expressions_of xs)) (suc h)) rest
  unfolding call
  call_case t o c us xs h s so sc l = named_case t _ _ (suc h) (call (whole d) d t) s (ap (named_by (whole d) d f t) (first_is symbol.OpenParen o refl so))
      (take _ symbol.OpenParen o refl so (listed _ EndsExpression [] 0 c refl refl (closes_paren c sc) l
      (let z : max 0 h ≡ h = omega arith in
      done (ap (λ i. record { tree = plain.call (join t.span c.span) (ident t) (expressions_of xs); height = i + 1; span = join t.span c.span }) z
      ∙ node_is (λ s. plain.call s (ident t) (expressions_of xs)) (join t.span c.span) h (t ∷ o ∷ (us ++ (c ∷ []))) (span_between (o ∷ us) t c)))))

  -- behind `::`
  pub path_case : (e p v : Tok) (us : List Tok) (x : Expression) (h : ℕ) → Stands symbol.Name e → Stands symbol.ColonColon p → Stands symbol.Name v
      → Reads (cond {A = Parser (Got Expression)} (is_input e v) (input (whole d) d e v) (variant_with (whole d) d e v)) us (got (e ∷ p ∷ v ∷ us) x h) rest → peek (us ++ rest) ≡ symbol.OpenParen
      → Reads (Primary d f) (e ∷ p ∷ v ∷ us) (got (e ∷ p ∷ v ∷ us) x h) rest
  unfolding path
  path_case e p v us x h se sp sv r q = named_case e _ _ h (path (whole d) d e) se (ap (named_by (whole d) d f e) (first_is symbol.ColonColon p refl sp))
      (take _ symbol.ColonColon p refl sp (take _ symbol.Name v refl sv (here _ q r)))

  pub variant_case : (e p v : Tok) → Stands symbol.Name e → Stands symbol.ColonColon p → Stands symbol.Name v → peek rest ≢ symbol.OpenParen
      → Reads (Primary d f) (e ∷ p ∷ v ∷ []) (got (e ∷ p ∷ v ∷ []) (plain.variant (span_of (e ∷ p ∷ v ∷ [])) (ident e) (ident v) plain.no_list) 1) rest
  unfolding path
  variant_case e p v se sp sv n = named_case e _ _ 1 (path (whole d) d e) se (ap (named_by (whole d) d f e) (first_is symbol.ColonColon p refl sp))
      (take _ symbol.ColonColon p refl sp (take _ symbol.Name v refl sv (there _ n (done refl))))

  pub next_input_case : (r p n o c : Tok) → Stands symbol.Name r → r.text ≡ codes "rt" → Stands symbol.ColonColon p → Stands symbol.Name n → n.text ≡ codes "next" → Stands symbol.OpenParen o → Stands symbol.CloseParen c
      → Reads (Primary d f) (r ∷ p ∷ n ∷ o ∷ c ∷ []) (got (r ∷ p ∷ n ∷ o ∷ c ∷ []) (plain.next_input (span_of (r ∷ p ∷ n ∷ o ∷ c ∷ []))) 1) rest
  unfolding input
  next_input_case r p n o c sr wr sp sn wn so sc = path_case r p n (o ∷ c ∷ []) _ 1 sr sp sn
      (when_true _ (and_from (bytes_eq r.text (codes "rt")) (bytes_eq n.text (codes "next")) ((bytes_eq-Decides r.text (codes "rt")).1 wr) ((bytes_eq-Decides n.text (codes "next")).1 wn))
      (take _ symbol.OpenParen o refl so (here _ (first_is symbol.CloseParen c refl sc) (take _ symbol.CloseParen c refl sc (done refl)))))
      (first_is symbol.OpenParen o refl so)

  pub arguments_case : (e p v o c : Tok) (us : List Tok) (x : Expression) (xs : List Expression) (h : ℕ) → Stands symbol.CloseParen c → IsListOf (Element (whole d) EndsExpression symbol.CloseParen) us (x ∷ xs) h
      → Reads (variant_arguments (whole d) d e v) (us ++ (c ∷ []))
      (got (e ∷ p ∷ v ∷ o ∷ (us ++ (c ∷ []))) (plain.variant (span_of (e ∷ p ∷ v ∷ o ∷ (us ++ (c ∷ [])))) (ident e) (ident v) (plain.a_list (expressions_of (x ∷ xs)))) (suc h)) rest
  unfolding variant_arguments
  arguments_case e p v o c us x xs h sc l = some_listed _ EndsExpression c refl refl (closes_paren c sc) l
      (done (node_is (λ s. plain.variant s (ident e) (ident v) (plain.a_list (expressions_of (x ∷ xs)))) (join e.span c.span) h (e ∷ p ∷ v ∷ o ∷ (us ++ (c ∷ []))) (span_between (p ∷ v ∷ o ∷ us) e c)))

  pub variant_with_case : (e p v o c : Tok) (us : List Tok) (x : Expression) (xs : List Expression) (h : ℕ) → 1 ≤ d → Stands symbol.Name e → Stands symbol.ColonColon p → Stands symbol.Name v
      → Stands symbol.OpenParen o → Stands symbol.CloseParen c → IsListOf (Element (whole d) EndsExpression symbol.CloseParen) us (x ∷ xs) h → peek (us ++ (c ∷ rest)) ≢ symbol.CloseParen
      → Reads (Primary d f) (e ∷ p ∷ v ∷ o ∷ (us ++ (c ∷ [])))
      (got (e ∷ p ∷ v ∷ o ∷ (us ++ (c ∷ []))) (plain.variant (span_of (e ∷ p ∷ v ∷ o ∷ (us ++ (c ∷ [])))) (ident e) (ident v) (plain.a_list (expressions_of (x ∷ xs)))) (suc h)) rest
  unfolding input variant_with
  variant_with_case e p v o c us x xs h low se sp sv so sc l n = path_case e p v (o ∷ (us ++ (c ∷ []))) _ (suc h) se sp sv
      (when_either (is_input e v)
      (take _ symbol.OpenParen o refl so (there _ (λ a. n (sym (ap peek (append_assoc us (c ∷ []) rest)) ∙ a)) (arguments_case e p v o c us x xs h sc l)))
      (room low (take _ symbol.OpenParen o refl so (arguments_case e p v o c us x xs h sc l))))
      (first_is symbol.OpenParen o refl so)

  pub print_case : (p b o q m c : Tok) (us : List Tok) (x : Expression) (h : ℕ) → 1 ≤ d → Stands symbol.Name p → p.text ≡ codes "println" → Stands symbol.Bang b → Stands symbol.OpenParen o → Stands symbol.Format q
      → Stands symbol.Comma m → Stands symbol.CloseParen c → Reads (whole d) us (got us x h) (c ∷ rest)
      → Reads (Primary d f) (p ∷ b ∷ o ∷ q ∷ m ∷ (us ++ (c ∷ []))) (got (p ∷ b ∷ o ∷ q ∷ m ∷ (us ++ (c ∷ []))) (plain.print (span_of (p ∷ b ∷ o ∷ q ∷ m ∷ (us ++ (c ∷ [])))) x) (suc h)) rest
  unfolding print
  print_case p b o q m c us x h low sp word sb so sq sm sc r = named_case p _ _ (suc h) (cond {A = Parser (Got Expression)} (bytes_eq p.text (codes "println")) (print (whole d) d p) (pure (variable p))) sp
      (ap (named_by (whole d) d f p) (first_is symbol.Bang b refl sb))
      (when_true _ ((bytes_eq-Decides p.text (codes "println")).1 word) (room low (take _ symbol.Bang b refl sb (take _ symbol.OpenParen o refl so (take _ symbol.Format q refl sq (take _ symbol.Comma m refl sm
      (part _ r (take _ symbol.CloseParen c refl sc (done (node_is (λ s. plain.print s x) (join p.span c.span) h (p ∷ b ∷ o ∷ q ∷ m ∷ (us ++ (c ∷ []))) (span_between (b ∷ o ∷ q ∷ m ∷ us) p c)))))))))))

  pub group_case : (o : Tok) (us : List Tok) (x : Expression) (h : ℕ) → Stands symbol.OpenParen o → Reads (primary_by (operand d) (whole d) (like d) (block d) d f symbol.OpenParen) (o ∷ us) (got (o ∷ us) x h) rest
      → Reads (Primary d f) (o ∷ us) (got (o ∷ us) x h) rest
  unfolding primary
  group_case o us x h s r = by (primary_by (operand d) (whole d) (like d) (block d) d f) symbol.OpenParen (first_is symbol.OpenParen o refl s) r

pub struct_case : (d : ℕ) (rest : List Tok) (n o c : Tok) (us : List Tok) (fs : List (Ident × Expression)) (h : ℕ) → Stands symbol.Name n → Stands symbol.OpenBrace o → Stands symbol.CloseBrace c
    → IsListOf (Element (field (whole d) d) EndsExpression symbol.CloseBrace) us fs h
    → Reads (Primary d true) (n ∷ o ∷ (us ++ (c ∷ []))) (got (n ∷ o ∷ (us ++ (c ∷ []))) (plain.make (span_of (n ∷ o ∷ (us ++ (c ∷ [])))) (ident n) (field_expressions_of fs)) (suc h)) rest
unfolding struct_literal
struct_case d rest n o c us fs h sn so sc l = named_case d true rest n _ _ (suc h) (struct_literal (whole d) d n) sn (ap (named_by (whole d) d true n) (first_is symbol.OpenBrace o refl so))
    (take _ symbol.OpenBrace o refl so (listed _ EndsExpression [] 0 c refl refl (record { word = refl; stands = sc; no_comma = λ a. cc }) l
    (let z : max 0 h ≡ h = omega arith in
    done (ap (λ i. record { tree = plain.make (join n.span c.span) (ident n) (field_expressions_of fs); height = i + 1; span = join n.span c.span }) z
    ∙ node_is (λ s. plain.make s (ident n) (field_expressions_of fs)) (join n.span c.span) h (n ∷ o ∷ (us ++ (c ∷ []))) (span_between (o ∷ us) n c)))))

pub long_field_case : (d : ℕ) (rest : List Tok) (n c : Tok) (us : List Tok) (x : Expression) (h : ℕ) → 1 ≤ d → Stands symbol.Name n → Stands symbol.Colon c → us ≢ [] → Reads (whole d) us (got us x h) rest
    → Reads (field (whole d) d) (n ∷ c ∷ us) (got (n ∷ c ∷ us) (ident n, x) h) rest
unfolding field field_value
long_field_case d rest n c us x h low sn sc some r = by (field_by (whole d) d) symbol.Name (first_is symbol.Name n refl sn) (room low (take _ symbol.Name n refl sn
    (here _ (first_is symbol.Colon c refl sc) (take _ symbol.Colon c refl sc (last _ r (done (ap (λ s. record { tree = (ident n, x); height = h; span = s }) (span_past n (c ∷ []) us some))))))))

pub short_field_case : (d : ℕ) (rest : List Tok) (n : Tok) → 1 ≤ d → Stands symbol.Name n → peek rest ≢ symbol.Colon
    → Reads (field (whole d) d) (n ∷ []) (got (n ∷ []) (ident n, plain.var (span_of (n ∷ [])) n.text) 1) rest
unfolding field field_value
short_field_case d rest n low sn e = by (field_by (whole d) d) symbol.Name (first_is symbol.Name n refl sn) (room low (take _ symbol.Name n refl sn (there _ e (done refl))))

pub primary_other : (d : ℕ) (f : Bool) (q : Symbol) → begins_like q ≡ true → primary_by (operand d) (whole d) (like d) (block d) d f q ≡ like_by (operand d) (whole d) (like d) (block d) d q
primary_other d f symbol.Number e = absurd (cc)
primary_other d f symbol.True e = absurd (cc)
primary_other d f symbol.False e = absurd (cc)
primary_other d f symbol.Name e = absurd (cc)
primary_other d f symbol.OpenParen e = absurd (cc)
primary_other d f _ e = refl

pub like_case : (d : ℕ) (f : Bool) (rest ts : List Tok) (x : Expression) (h : ℕ) → begins_like (peek (ts ++ rest)) ≡ true → Reads (like (suc d)) ts (got ts x h) rest → Reads (Primary d f) ts (got ts x h) rest
unfolding primary like
like_case d f rest ts x h e r = turned (primary_by (operand d) (whole d) (like d) (block d) d f) (like_by (operand d) (whole d) (like d) (block d) d (peek (ts ++ rest))) (primary_other d f (peek (ts ++ rest)) e)
    (record { read = r.read })

-- ---- fields and parts

pub field_member : (d : ℕ) (rest us : List Tok) (p n : Tok) (x : Expression) (h : ℕ) → h ≤ d → us ≢ [] → Stands symbol.Dot p → Stands symbol.Name n
    → Reads (member (operand d) (whole d) (like d) (block d) d (got us x h)) (p ∷ n ∷ []) (got (us ++ (p ∷ n ∷ [])) (plain.field (span_of (us ++ (p ∷ n ∷ []))) x (ident n)) (suc h)) rest
unfolding member
field_member d rest us p n x h low some sp sn = room low (take _ symbol.Dot p refl sp (by (member_by (operand d) (whole d) (like d) (block d) d (got us x h)) symbol.Name (first_is symbol.Name n refl sn)
    (take _ symbol.Name n refl sn (done (node_is (λ s. plain.field s x (ident n)) (join (span_of us) n.span) h (us ++ (p ∷ n ∷ [])) (span_over us p (n ∷ []) some (λ a. cc)))))))

pub part_member : (d : ℕ) (rest us : List Tok) (p t : Tok) (v : ℕ) (x : Expression) (h : ℕ) → h ≤ d → us ≢ [] → Stands symbol.Dot p → IsIndex t v
    → Reads (member (operand d) (whole d) (like d) (block d) d (got us x h)) (p ∷ t ∷ []) (got (us ++ (p ∷ t ∷ [])) (plain.part (span_of (us ++ (p ∷ t ∷ []))) x v) (suc h)) rest
unfolding member
part_member d rest us p t v x h low some sp st = room low (take _ symbol.Dot p refl sp (by (member_by (operand d) (whole d) (like d) (block d) d (got us x h)) symbol.Number (first_is symbol.Number t refl st.class)
    (index_take _ t v st (done (node_is (λ s. plain.part s x v) (join (span_of us) t.span) h (us ++ (p ∷ t ∷ [])) (span_over us p (t ∷ []) some (λ a. cc)))))))

-- one step behind an operand
pub member_further : (d : ℕ) (f : Bool) (us ws : List Tok) (p : Tok) (x y : Expression) (m n : ℕ) (rest : List Tok) → Stands symbol.Dot p → Goes (Postfix d f) (Members d) us x m (p ∷ (ws ++ rest))
    → Reads (member (operand d) (whole d) (like d) (block d) d (got us x m)) (p ∷ ws) (got (us ++ (p ∷ ws)) y n) rest → Goes (Postfix d f) (Members d) (us ++ (p ∷ ws)) y n rest
member_further d f us ws p x y m n rest sp q r = goes_further (Postfix d f) (Members d) us (p ∷ ws) x y m n rest (member (operand d) (whole d) (like d) (block d) d (got us x m)) (λ a. cc) q
    (ap (Members d (got us x m)) (first_is symbol.Dot p refl sp)) r

pub primary_goes : (d : ℕ) (f : Bool) (ts : List Tok) (x : Expression) (h : ℕ) (rest : List Tok) → Reads (Primary d f) ts (got ts x h) rest → Goes (Postfix d f) (Members d) ts x h rest
unfolding postfix
primary_goes d f ts x h rest r =
    let q = goes_first (Primary d f) (Members d) ts x h rest r in record { enough = q.enough; big = q.big; goes = q.goes }

pub no_member : (d : ℕ) (l : Got Expression) (q : Symbol) → q ≢ symbol.Dot → Members d l q ≡ None
no_member d l symbol.Dot n = absurd (n refl)
no_member d l _ n = refl

pub postfix_until : (d : ℕ) (f : Bool) (ts : List Tok) (x : Expression) (h : ℕ) (rest : List Tok) → Goes (Postfix d f) (Members d) ts x h rest → 1 < reach f (peek rest) → Reads (Postfix d f) ts (got ts x h) rest
postfix_until d f ts x h rest q b = goes_until (Postfix d f) (Members d) ts x h rest q (no_member d (got ts x h) (peek rest) (not_next f 1 (peek rest) symbol.Dot b (omega arith)))

-- ---- unaries

pub unary_other : (d : ℕ) (f : Bool) (q : Symbol) → begins_primary q ≡ true → unary_by (operand d) (whole d) (like d) (block d) d f q ≡ Postfix d f
unary_other d f symbol.Minus e = absurd (cc)
unary_other d f symbol.Bang e = absurd (cc)
unary_other d f symbol.Star e = absurd (cc)
unary_other d f symbol.Ampersand e = absurd (cc)
unary_other d f symbol.AndAnd e = absurd (cc)
unary_other d f _ e = refl

pub postfix_case : (d : ℕ) (f : Bool) (rest ts : List Tok) (x : Expression) (h : ℕ) → begins_primary (peek (ts ++ rest)) ≡ true → Reads (Postfix d f) ts (got ts x h) rest → Reads (Unary d f) ts (got ts x h) rest
unfolding unary
postfix_case d f rest ts x h e r = turned (unary_by (operand d) (whole d) (like d) (block d) d f) (Postfix d f) (unary_other d f (peek (ts ++ rest)) e) r

pub prefix_case : (d : ℕ) (f : Bool) (rest us : List Tok) (t : Tok) (x : Expression) (h : ℕ) (q : Symbol) (make : Span → Expression → Expression) → is_word q ≡ true → Stands q t → 1 ≤ d → us ≢ []
    → unary_by (operand d) (whole d) (like d) (block d) d f q ≡ prefix (operand d) (whole d) (like d) (block d) d f q make → Reads (operand d f 0) us (got us x h) rest
    → Reads (Unary d f) (t ∷ us) (got (t ∷ us) (make (span_of (t ∷ us)) x) (suc h)) rest
unfolding unary
prefix_case d f rest us t x h q make w s low some e r = turned (unary_by (operand d) (whole d) (like d) (block d) d f) (prefix (operand d) (whole d) (like d) (block d) d f q make)
    (ap (unary_by (operand d) (whole d) (like d) (block d) d f) (first_is q t w s) ∙ e)
    (room low (take _ q t w s (last _ r (done (node_is (λ s. make s x) (join t.span (span_of us)) h (t ∷ us) (span_from t us some))))))

pub borrow_case : (d : ℕ) (f : Bool) (rest ms us : List Tok) (t : Tok) (m : Bool) (x : Expression) (h : ℕ) → Stands symbol.Ampersand t → IsMutability ms m → 1 ≤ d → us ≢ [] → begins_operand (peek (us ++ rest)) ≡ true
    → Reads (operand d f 0) us (got us x h) rest → Reads (Unary d f) (t ∷ (ms ++ us)) (got (t ∷ (ms ++ us)) (plain.borrow (span_of (t ∷ (ms ++ us))) m x) (suc h)) rest
unfolding unary borrow
borrow_case d f rest ms us t m x h s sm low some front r = by (unary_by (operand d) (whole d) (like d) (block d) d f) symbol.Ampersand (first_is symbol.Ampersand t refl s)
    (room low (take _ symbol.Ampersand t refl s (part _ (mutability_reads sm (us ++ rest) (differs begins_operand _ symbol.Mut front refl))
    (last _ r (done (node_is (λ s. plain.borrow s m x) (join t.span (span_of us)) h (t ∷ (ms ++ us)) (span_past t ms us some)))))))

pub borrow_twice_case : (d : ℕ) (f : Bool) (rest us : List Tok) (t : Tok) (x : Expression) (h : ℕ) → Stands symbol.AndAnd t → 1 ≤ d → Reads (operand d f 0) (second_ampersand t ∷ us) (got (second_ampersand t ∷ us) x h) rest
    → Reads (Unary d f) (t ∷ us) (got (t ∷ us) (plain.borrow (span_of (t ∷ us)) false x) (suc h)) rest
unfolding unary borrow_twice
borrow_twice_case d f rest us t x h s low r = by (unary_by (operand d) (whole d) (like d) (block d) d f) symbol.AndAnd (first_is symbol.AndAnd t refl s)
    (room low (take _ symbol.AndAnd t refl s
    (last {p = λ i. operand d f 0 (second_ampersand t ∷ i)} (λ x. pure (node (λ s. plain.borrow s false x.tree) (join t.span x.span) x.height)) (record { read = r.read })
    (done (node_is (λ s. plain.borrow s false x) (join t.span (span_of (second_ampersand t ∷ us))) h (t ∷ us) (second_span t us))))))

-- ---- operators

pub unary_operand : (d : ℕ) (f : Bool) (ts : List Tok) (x : Got Expression) (rest : List Tok) → Reads (Unary d f) ts x rest → Reads (operand (suc d) f 0) ts x rest
unfolding operand at_strength
unary_operand d f ts x rest r = record { read = r.read }

pub strength_operand : (d : ℕ) (f : Bool) (j : ℕ) (ts : List Tok) (x : Got Expression) (rest : List Tok) → Reads (Strength d f j) ts x rest → Reads (operand (suc d) f j) ts x rest
unfolding operand
strength_operand d f j ts x rest r = record { read = r.read }

pub operand_strength : (d : ℕ) (f : Bool) (j : ℕ) (ts : List Tok) (x : Got Expression) (rest : List Tok) → Reads (operand (suc d) f j) ts x rest → Reads (Strength d f j) ts x rest
unfolding operand
operand_strength d f j ts x rest r = record { read = r.read }

pub longer_reads : (d : ℕ) (f : Bool) (rest us vs : List Tok) (j : ℕ) (t : Tok) (o : BinaryOp) (l r : Expression) (m n : ℕ) → m ≤ d → us ≢ [] → vs ≢ [] → operator_at (suc j) (symbol_of t) ≡ Some o
    → Reads (operand d f j) vs (got vs r n) rest
    → Reads (longer (operand d) (whole d) (like d) (block d) d f j (got us l m) (symbol_of t) o) (t ∷ vs) (got (us ++ (t ∷ vs)) (plain.binary (span_of (us ++ (t ∷ vs))) o l r) (suc (max m n))) rest
unfolding longer
longer_reads d f rest us vs j t o l r m n low some more e k = room low (take _ (symbol_of t) t (operator_word (suc j) o (symbol_of t) e) (stands t)
    (last _ k (done (node_is (λ s. plain.binary s o l r) (join (span_of us) (span_of vs)) (max m n) (us ++ (t ∷ vs)) (span_over us t vs some more)))))

pub step_is : (d : ℕ) (f : Bool) (j : ℕ) (l : Got Expression) (t : Tok) (o : BinaryOp) → operator_at (suc j) (symbol_of t) ≡ Some o
    → Binaries d f j l (symbol_of t) ≡ Some (longer (operand d) (whole d) (like d) (block d) d f j l (symbol_of t) o)
step_is d f j l t o e = ap (longer_by (operand d) (whole d) (like d) (block d) d f j l (symbol_of t)) e

pub no_step : (d : ℕ) (f : Bool) (j : ℕ) (l : Got Expression) (q : Symbol) → suc (suc j) < reach f q → Binaries d f j l q ≡ None
no_step d f j l q b = ap (longer_by (operand d) (whole d) (like d) (block d) d f j l q) (no_operator_next f q j b)

not_two : (j : ℕ) → j ≢ 2 → (j == 2) ≡ false
not_two j n = grind arith

-- the operand of less strength is read, and the chain begins
pub strength_goes : (d : ℕ) (f : Bool) (j : ℕ) (ts : List Tok) (x : Expression) (h : ℕ) (rest : List Tok) → j ≢ 2 → Reads (Strength d f j) ts (got ts x h) rest → Goes (Strength d f (suc j)) (Binaries d f j) ts x h rest
unfolding at_strength
strength_goes d f j ts x h rest n r = record {
  enough = length rest;
  big = omega arith;
  goes = ap (λ o. and_then o (λ l i. chain (Binaries d f j) (turns (operand d) (whole d) (like d) (block d) d j (length i)) l i)) r.read ∙ ap (λ b. chain (Binaries d f j) (cond b 1 (length rest)) (got ts x h) rest) (not_two j n);
}

-- ... and ends at once
pub strength_until : (d : ℕ) (f : Bool) (j : ℕ) (ts : List Tok) (x : Expression) (h : ℕ) (rest : List Tok) → suc (suc j) < reach f (peek rest) → Reads (Strength d f j) ts (got ts x h) rest
    → Reads (Strength d f (suc j)) ts (got ts x h) rest
unfolding at_strength
strength_until d f j ts x h rest b r = record {
  read = ap (λ o. and_then o (λ l i. chain (Binaries d f j) (turns (operand d) (whole d) (like d) (block d) d j (length i)) l i)) r.read
      ∙ chain_stops (Binaries d f j) (turns (operand d) (whole d) (like d) (block d) d j (length rest)) (got ts x h) rest (no_step d f j (got ts x h) (peek rest) b);
}

pub binary_further : (d : ℕ) (f : Bool) (j : ℕ) (us vs : List Tok) (t : Tok) (o : BinaryOp) (l r : Expression) (m n : ℕ) (rest : List Tok) → m ≤ d → us ≢ [] → vs ≢ [] → operator_at (suc j) (symbol_of t) ≡ Some o
    → Goes (Strength d f (suc j)) (Binaries d f j) us l m (t ∷ (vs ++ rest)) → Reads (operand d f j) vs (got vs r n) rest
    → Goes (Strength d f (suc j)) (Binaries d f j) (us ++ (t ∷ vs)) (plain.binary (span_of (us ++ (t ∷ vs))) o l r) (suc (max m n)) rest
binary_further d f j us vs t o l r m n rest low some more e q k =
    goes_further (Strength d f (suc j)) (Binaries d f j) us (t ∷ vs) l (plain.binary (span_of (us ++ (t ∷ vs))) o l r) m (suc (max m n)) rest
    (longer (operand d) (whole d) (like d) (block d) d f j (got us l m) (symbol_of t) o) (λ a. cc) q (step_is d f j (got us l m) t o e) (longer_reads d f rest us vs j t o l r m n low some more e k)

-- one comparison
pub compare_case : (d : ℕ) (f : Bool) (j : ℕ) (us vs : List Tok) (t : Tok) (o : BinaryOp) (l r : Expression) (m n : ℕ) (rest : List Tok) → j ≡ 2 → m ≤ d → us ≢ [] → vs ≢ [] → operator_at (suc j) (symbol_of t) ≡ Some o
    → Reads (Strength d f j) us (got us l m) (t ∷ (vs ++ rest)) → Reads (operand d f j) vs (got vs r n) rest
    → Reads (Strength d f (suc j)) (us ++ (t ∷ vs)) (got (us ++ (t ∷ vs)) (plain.binary (span_of (us ++ (t ∷ vs))) o l r) (suc (max m n))) rest
unfolding at_strength chain
compare_case d f j us vs t o l r m n rest two low some more e a k =
    let once : (j == 2) ≡ true = ap (λ i. i == 2) two in
    record {
      read = ap (λ i. and_then (Strength d f j i) (λ l i. chain (Binaries d f j) (turns (operand d) (whole d) (like d) (block d) d j (length i)) l i)) (append_assoc us (t ∷ vs) rest)
          ∙ ap (λ o. and_then o (λ l i. chain (Binaries d f j) (turns (operand d) (whole d) (like d) (block d) d j (length i)) l i)) a.read
          ∙ ap (λ b. chain (Binaries d f j) (cond b 1 (length (t ∷ (vs ++ rest)))) (got us l m) (t ∷ (vs ++ rest))) once
          ∙ chain_goes (Binaries d f j) 0 (got us l m) (got (us ++ (t ∷ vs)) (plain.binary (span_of (us ++ (t ∷ vs))) o l r) (suc (max m n))) (t ∷ (vs ++ rest)) rest
          (longer (operand d) (whole d) (like d) (block d) d f j (got us l m) (symbol_of t) o) (step_is d f j (got us l m) t o e) (longer_reads d f rest us vs j t o l r m n low some more e k).read;
    }
