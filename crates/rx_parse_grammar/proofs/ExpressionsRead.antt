-- An expression, a statement and a block that the grammar derives are read, where nothing that follows goes on them: by
-- induction on derivations.
use Rattle.std.proofs.Common.{◌≡◌, ℕ, suc, ◌+◌, ◌≤◌, ◌<◌, max, Bool, true, false, List, [], ◌∷◌, ◌++◌, length, Some, None, refl, sym, ap, subst, ◌∙◌, arith, append_assoc, length-append}
use Rattle.std.specs.Prelude.{◌≢◌}
use Rattle.rx_core.specs.declared.types.Span.{Span}
use Rattle.rx_tree.specs.declared.tree.Ident.{Ident}
use Rattle.rx_tree.specs.Plain as plain
use Rattle.rx_tree.specs.Plain.{Expression, OptionalExpression, Body, PatternTree, Statement}
use Rattle.rx_tree.specs.PlainOf.{expressions_of, field_expressions_of, arms_of, statements_of}
use Rattle.rx_lex.specs.Tok.{Tok}
use Rattle.rx_parse_grammar.specs.declared.symbol.Symbol.{Symbol}
use Rattle.rx_parse_grammar.specs.declared.symbol.Symbol.TheVariants as symbol
use Rattle.rx_parse_grammar.specs.grammar.Words.{IsListOf, no_element, last_element, element, join, span_of, ident, second_ampersand}
use Rattle.rx_parse_grammar.specs.grammar.Expressions.{IsExpression, IsOperand, IsUnary, IsPostfix, IsPrimary, AreArguments, IsField, AreFields, IsLike, IsIf, IsElse, AreArms, IsBlock, IsStatement, AreStatements, Test, IsTest, fitting, if_of, while_of}
use Rattle.rx_parse_grammar.specs.grammar.Expressions as g
use Rattle.rx_parse_grammar.specs.parser.Symbols.{symbol_of, peek}
use Rattle.rx_parse_grammar.specs.parser.Steps.{Got}
use Rattle.rx_parse_grammar.specs.parser.Operators.{assigns, updates, begins_expression}
use Rattle.rx_parse_grammar.specs.parser.Expressions.{field, test, else_value, arms_from}
use Rattle.rx_parse_grammar.specs.parser.Blocks.{operand, whole, like, block}
use Rattle.rx_parse_grammar.proofs.SymbolLemmas.{Stands}
use Rattle.rx_parse_grammar.proofs.Reading.{Reads, along, first_is, got, items, placed, differs, deeper, some_length, Element, unit_reads, parentheses_read, tuple_reads}
use Rattle.rx_parse_grammar.proofs.PatternsRead.{pattern_positive, pattern_complete, ends_pattern}
use Rattle.rx_parse_grammar.proofs.OperatorLaws.{operator_of}
use Rattle.rx_parse_grammar.proofs.ExpressionsFront.{like_front, if_front, postfix_front, unary_front, operand_front, expression_front, block_some, like_some, postfix_some, unary_some, operand_some, expression_some, block_positive, if_positive, else_deep, like_positive, unary_positive, operand_positive, expression_positive}
use Rattle.rx_parse_grammar.proofs.ChainsRead.{reach, ends_expression, EndsExpression, ends_reach, not_next, operator_follows, Goes}
use Rattle.rx_parse_grammar.proofs.OperandCases as case
use Rattle.rx_parse_grammar.proofs.OperandCases.{Primary, Postfix, Unary, Strength, Members, Binaries}
use Rattle.rx_parse_grammar.proofs.LikeCases as like_case
use Rattle.rx_parse_grammar.proofs.LikeCases.{Arms}
use Rattle.rx_parse_grammar.proofs.ReadParts as parts
use Rattle.rx_parse_grammar.proofs.ReadParts.{OperandRead, From, AfterArm, body_at, tuple_of}

mutual
  expression_reads : {ts : List Tok} {x : Expression} {h : ℕ} → IsExpression ts x h → (d : ℕ) → h ≤ suc d → (rest : List Tok) → ends_expression (peek rest) ≡ true → Reads (whole (suc d)) ts (got ts x h) rest
  expression_reads {ts} {x} {h} (g.operand r) d b rest e =
      like_case.operand_case d rest ts x h (operand_front r rest) e (case.operand_strength d true 5 ts (got ts x h) rest ((operand_reads r d b).read rest (ends_reach (peek rest) e)))
  expression_reads (g.assign us vs t l r m n s left right is) d b rest e =
      placed (λ s. plain.assign s l r) (us ++ (t ∷ vs)) is
      (like_case.set_case d rest us vs t symbol.Equal assigns l r m n refl s refl (omega arith) (operand_some left) (expression_some right) (operand_front left ((t ∷ vs) ++ rest))
      (case.operand_strength d true 5 us (got us l m) (t ∷ (vs ++ rest)) ((operand_reads left d (omega arith)).read (t ∷ (vs ++ rest)) (parts.reaches true 6 t symbol.Equal (first_is symbol.Equal t refl s) (omega arith))))
      (deeper (λ d. Reads (whole d) vs (got vs r n) rest) n d (expression_positive right) (omega arith) (λ c l. expression_reads right c l rest e)))
  expression_reads (g.update us vs t o l r m n s left right is) d b rest e =
      let u = parts.update_set t o s in
      let low : m ≤ d = omega arith in
      let deep : n ≤ d = omega arith in
      let lift : m ≤ suc d = omega arith in
      placed (λ s. plain.update s o l r) (us ++ (t ∷ vs)) is
      (like_case.set_case d rest us vs t u.q (updates o) l r m n u.word u.stands u.set low (operand_some left) (expression_some right) (operand_front left ((t ∷ vs) ++ rest))
      (case.operand_strength d true 5 us (got us l m) (t ∷ (vs ++ rest)) ((operand_reads left d lift).read (t ∷ (vs ++ rest)) (parts.reaches true 6 t u.q (first_is u.q t u.word u.stands) u.reach)))
      (deeper (λ d. Reads (whole d) vs (got vs r n) rest) n d (expression_positive right) deep (λ c l. expression_reads right c l rest e)))
  expression_reads (g.return t s is) d b rest e = placed (λ s. plain.return s plain.absent) (t ∷ []) is (like_case.return_case d rest t s e)
  expression_reads (g.return_with t us x h s r is) d b rest e =
      placed (λ s. plain.return s (plain.present x)) (t ∷ us) is (like_case.return_with_case d rest t us x h s (expression_some r) (expression_front r rest)
      (deeper (λ d. Reads (whole d) us (got us x h) rest) h d (expression_positive r) (omega arith) (λ c l. expression_reads r c l rest e)))
  expression_reads (g.break t s is) d b rest e = placed (λ s. plain.break s None) (t ∷ []) is (like_case.jump_case d rest t symbol.Break plain.break refl s refl e)
  expression_reads (g.break_from t l s sl is) d b rest e = placed (λ s. plain.break s (Some (ident l))) (t ∷ l ∷ []) is (like_case.jump_to_case d rest t l symbol.Break plain.break refl s sl refl)
  expression_reads (g.continue t s is) d b rest e = placed (λ s. plain.continue s None) (t ∷ []) is (like_case.jump_case d rest t symbol.Continue plain.continue refl s refl e)
  expression_reads (g.continue_with t l s sl is) d b rest e = placed (λ s. plain.continue s (Some (ident l))) (t ∷ l ∷ []) is (like_case.jump_to_case d rest t l symbol.Continue plain.continue refl s sl refl)

  operand_reads : {f : Bool} {j : ℕ} {ts : List Tok} {x : Expression} {h : ℕ} → IsOperand f j ts x h → (d : ℕ) → h ≤ suc d → OperandRead d f j ts x h
  operand_reads {f} {j} {ts} {x} {h} (g.unary r) d b = record { read = λ rest c. case.unary_operand d f ts (got ts x h) rest (unary_reads r d b rest c); goes = parts.no_chain d f }
  operand_reads {ts = ts} {x = x} {h = h} (g.stronger {f = f} {j = j} r) d b =
      let q = operand_reads r d b in
      record {
        read = λ rest c. case.strength_operand d f (suc j) ts (got ts x h) rest (case.strength_until d f j ts x h rest c (case.operand_strength d f j ts (got ts x h) rest (q.read rest (omega arith))));
        goes = λ i e n rest c. parts.same_chain d f e n c (λ n c. case.strength_goes d f j ts x h rest n (case.operand_strength d f j ts (got ts x h) rest (q.read rest c)));
      }
  operand_reads {ts = ts} (g.chain {f = f} {j = j} us vs t o l r m n c op left right is) d b =
      let sign = operator_of (suc j) t o op in
      let low : m ≤ d = omega arith in
      let lift : m ≤ suc d = omega arith in
      let deep : n ≤ d = omega arith in
      let q = operand_reads left d lift in
      let all : (rest : List Tok) → suc j < reach f (peek rest) → Goes (Strength d f (suc j)) (Binaries d f j) ts (plain.binary (span_of ts) o l r) (suc (max m n)) rest = λ rest k.
      parts.placed_goes d f j (λ s. plain.binary s o l r) (us ++ (t ∷ vs)) is
      (case.binary_further d f j us vs t o l r m n rest low (operand_some left) (operand_some right) sign (q.goes j refl c (t ∷ (vs ++ rest)) (operator_follows f (symbol_of t) j o sign))
      (deeper (λ d. Reads (operand d f j) vs (got vs r n) rest) n d (operand_positive right) deep (λ c l. (operand_reads right c l).read rest k))) in
      record {
        read = λ rest k. parts.until d f j ts (plain.binary (span_of ts) o l r) (suc (max m n)) rest (all rest (omega arith)) k;
        goes = λ i e u rest k. parts.same_chain d f e u k (λ n k. all rest k);
      }
  operand_reads {ts = ts} (g.compare {f = f} {j = j} us vs t o l r m n two op left right is) d b =
      let sign = operator_of (suc j) t o op in
      let low : m ≤ d = omega arith in
      let lift : m ≤ suc d = omega arith in
      let deep : n ≤ d = omega arith in
      let q = operand_reads left d lift in
      record {
        read = λ rest k. case.strength_operand d f (suc j) ts (got ts (plain.binary (span_of ts) o l r) (suc (max m n))) rest
            (placed (λ s. plain.binary s o l r) (us ++ (t ∷ vs)) is
            (case.compare_case d f j us vs t o l r m n rest two low (operand_some left) (operand_some right) sign
            (case.operand_strength d f j us (got us l m) (t ∷ (vs ++ rest)) (q.read (t ∷ (vs ++ rest)) (operator_follows f (symbol_of t) j o sign)))
            (deeper (λ d. Reads (operand d f j) vs (got vs r n) rest) n d (operand_positive right) deep (λ c l. (operand_reads right c l).read rest (omega arith)))));
        goes = λ i e u rest k. absurd (u (omega arith));
      }

  unary_reads : {f : Bool} {ts : List Tok} {x : Expression} {h : ℕ} → IsUnary f ts x h → (d : ℕ) → h ≤ suc d → (rest : List Tok) → 1 < reach f (peek rest) → Reads (Unary d f) ts (got ts x h) rest
  unary_reads {f} {ts} {x} {h} (g.postfix r) d b rest k = case.postfix_case d f rest ts x h (postfix_front r rest) (case.postfix_until d f ts x h rest (postfix_reads r d b rest (omega arith)) k)
  unary_reads {f = f} (g.negate t us x h s r is) d b rest k =
      let p = unary_positive r in
      placed (λ s. plain.negate s x) (t ∷ us) is (case.prefix_case d f rest us t x h symbol.Minus plain.negate refl s (omega arith) (unary_some r) refl
      (deeper (λ d. Reads (operand d f 0) us (got us x h) rest) h d p (omega arith) (λ c l. case.unary_operand c f us (got us x h) rest (unary_reads r c l rest k))))
  unary_reads {f = f} (g.invert t us x h s r is) d b rest k =
      let p = unary_positive r in
      placed (λ s. plain.invert s x) (t ∷ us) is (case.prefix_case d f rest us t x h symbol.Bang plain.invert refl s (omega arith) (unary_some r) refl
      (deeper (λ d. Reads (operand d f 0) us (got us x h) rest) h d p (omega arith) (λ c l. case.unary_operand c f us (got us x h) rest (unary_reads r c l rest k))))
  unary_reads {f = f} (g.deref t us x h s r is) d b rest k =
      let p = unary_positive r in
      placed (λ s. plain.deref s x) (t ∷ us) is (case.prefix_case d f rest us t x h symbol.Star plain.deref refl s (omega arith) (unary_some r) refl
      (deeper (λ d. Reads (operand d f 0) us (got us x h) rest) h d p (omega arith) (λ c l. case.unary_operand c f us (got us x h) rest (unary_reads r c l rest k))))
  unary_reads {f = f} (g.borrow t ms us m x h s sm r is) d b rest k =
      let p = unary_positive r in
      placed (λ s. plain.borrow s m x) (t ∷ (ms ++ us)) is (case.borrow_case d f rest ms us t m x h s sm (omega arith) (unary_some r) (unary_front r rest)
      (deeper (λ d. Reads (operand d f 0) us (got us x h) rest) h d p (omega arith) (λ c l. case.unary_operand c f us (got us x h) rest (unary_reads r c l rest k))))
  unary_reads {f = f} (g.borrow_twice t us x h s r is) d b rest k =
      let p = unary_positive r in
      placed (λ s. plain.borrow s false x) (t ∷ us) is (case.borrow_twice_case d f rest us t x h s (omega arith)
      (deeper (λ d. Reads (operand d f 0) (second_ampersand t ∷ us) (got (second_ampersand t ∷ us) x h) rest) h d p (omega arith)
      (λ c l. case.unary_operand c f (second_ampersand t ∷ us) (got (second_ampersand t ∷ us) x h) rest (unary_reads r c l rest k))))

  postfix_reads : {f : Bool} {ts : List Tok} {x : Expression} {h : ℕ} → IsPostfix f ts x h → (d : ℕ) → h ≤ suc d → (rest : List Tok) → 0 < reach f (peek rest) → Goes (Postfix d f) (Members d) ts x h rest
  postfix_reads {f} {ts} {x} {h} (g.primary r) d b rest k = case.primary_goes d f ts x h rest (primary_reads r d b rest k)
  postfix_reads {f = f} (g.field us p n x h sp sn r is) d b rest k =
      parts.member_goes d f (λ s. plain.field s x (ident n)) (us ++ (p ∷ n ∷ [])) is
      (case.member_further d f us (n ∷ []) p x (plain.field (span_of (us ++ (p ∷ n ∷ []))) x (ident n)) h (suc h) rest sp
      (postfix_reads r d (omega arith) (p ∷ n ∷ rest) (parts.reaches f 0 p symbol.Dot (first_is symbol.Dot p refl sp) (omega arith)))
      (case.field_member d rest us p n x h (omega arith) (postfix_some r) sp sn))
  postfix_reads {f = f} (g.part us p t v x h sp st r is) d b rest k =
      parts.member_goes d f (λ s. plain.part s x v) (us ++ (p ∷ t ∷ [])) is
      (case.member_further d f us (t ∷ []) p x (plain.part (span_of (us ++ (p ∷ t ∷ []))) x v) h (suc h) rest sp
      (postfix_reads r d (omega arith) (p ∷ t ∷ rest) (parts.reaches f 0 p symbol.Dot (first_is symbol.Dot p refl sp) (omega arith)))
      (case.part_member d rest us p t v x h (omega arith) (postfix_some r) sp st))

  primary_reads : {f : Bool} {ts : List Tok} {x : Expression} {h : ℕ} → IsPrimary f ts x h → (d : ℕ) → h ≤ suc d → (rest : List Tok) → 0 < reach f (peek rest) → Reads (Primary d f) ts (got ts x h) rest
  primary_reads {f = f} (g.number t v i s is) d b rest k = placed (λ s. plain.int s v i) (t ∷ []) is (case.number_case d f rest t v i s)
  primary_reads {f = f} (g.true_is t s is) d b rest k = placed (λ s. plain.bool s true) (t ∷ []) is (case.true_case d f rest t s)
  primary_reads {f = f} (g.false_is t s is) d b rest k = placed (λ s. plain.bool s false) (t ∷ []) is (case.false_case d f rest t s)
  primary_reads {f = f} (g.variable t s is) d b rest k = placed (λ s. plain.var s t.text) (t ∷ []) is (case.variable_case d f rest t s k)
  primary_reads {f = f} (g.call t o c us xs h s so sc inner is) d b rest k =
      placed (λ s. plain.call s (ident t) (expressions_of xs)) (t ∷ o ∷ (us ++ (c ∷ []))) is (case.call_case d f rest t o c us xs h s so sc (arguments_listed inner d (omega arith) symbol.CloseParen refl))
  primary_reads {f = f} (g.next_input r p n o c sr sp sn so sc is) d b rest k =
      placed plain.next_input (r ∷ p ∷ n ∷ o ∷ c ∷ []) is (case.next_input_case d f rest r p n o c sr.0 sr.1 sp sn.0 sn.1 so sc)
  primary_reads {f = f} (g.variant e p v se sp sv is) d b rest k =
      placed (λ s. plain.variant s (ident e) (ident v) plain.no_list) (e ∷ p ∷ v ∷ []) is (case.variant_case d f rest e p v se sp sv (not_next f 0 (peek rest) symbol.OpenParen k (omega arith)))
  primary_reads {f = f} (g.variant_with e p v o c us x xs h se sp sv so sc inner is) d b rest k =
      let z = parts.some_levels inner in
      placed (λ s. plain.variant s (ident e) (ident v) (plain.a_list (expressions_of (x ∷ xs)))) (e ∷ p ∷ v ∷ o ∷ (us ++ (c ∷ []))) is
      (case.variant_with_case d f rest e p v o c us x xs h (omega arith) se sp sv so sc (arguments_listed inner d (omega arith) symbol.CloseParen refl)
      (differs begins_expression (peek (us ++ (c ∷ rest))) symbol.CloseParen (parts.some_front inner (c ∷ rest)) refl))
  primary_reads (g.structure n o c us fs h sn so sc inner is) d b rest k =
      placed (λ s. plain.make s (ident n) (field_expressions_of fs)) (n ∷ o ∷ (us ++ (c ∷ []))) is (case.struct_case d rest n o c us fs h sn so sc (fields_listed inner d (omega arith)))
  primary_reads {f = f} (g.print p q o u m c us x h sp sq so su sm sc inner is) d b rest k =
      let z = expression_positive inner in
      let e = first_is symbol.CloseParen c refl sc in
      placed (λ s. plain.print s x) (p ∷ q ∷ o ∷ u ∷ m ∷ (us ++ (c ∷ []))) is
      (case.print_case d f rest p q o u m c us x h (omega arith) sp.0 sp.1 sq so su sm sc
      (deeper (λ d. Reads (whole d) us (got us x h) (c ∷ rest)) h d z (omega arith) (λ i l. expression_reads inner i l (c ∷ rest) (ap ends_expression e))))
  primary_reads {f = f} (g.unit o c so sc is) d b rest k =
      placed (λ s. plain.tuple s plain.no_expression) (o ∷ c ∷ []) is (case.group_case d f rest o _ _ _ so (unit_reads (whole d) tuple_of EndsExpression o c rest so sc))
  primary_reads {f = f} (g.parentheses o c us x h so sc inner is) d b rest k =
      placed (λ s. x) (o ∷ (us ++ (c ∷ []))) is (case.group_case d f rest o _ _ _ so (parentheses_read (whole d) tuple_of EndsExpression o c us x h rest refl so sc
      (parts.expression_listed inner d (omega arith) symbol.CloseParen refl (expression_reads inner))))
  primary_reads {f = f} (g.tuple o m c us vs x xs h i so sm sc inner more is) d b rest k =
      placed (λ s. plain.tuple s (expressions_of (x ∷ xs))) (o ∷ (us ++ (m ∷ (vs ++ (c ∷ []))))) is (case.group_case d f rest o _ _ _ so
      (tuple_reads (whole d) tuple_of EndsExpression o m c us vs x xs h i rest refl refl so sm sc
      (parts.expression_listed inner d (omega arith) symbol.CloseParen refl (expression_reads inner)) (arguments_listed more d (omega arith) symbol.CloseParen refl)))
  primary_reads {f} {ts} {x} {h} (g.like r) d b rest k = case.like_case d f rest ts x h (like_front r rest) (like_reads r d b rest (not_next f 0 (peek rest) symbol.Else k (omega arith)))

  arguments_listed : {us : List Tok} {xs : List Expression} {h : ℕ} → AreArguments us xs h → (d : ℕ) → h ≤ d → (close : Symbol) → begins_expression close ≡ false
      → IsListOf (Element (whole d) EndsExpression close) us xs h
  arguments_listed g.no_argument d b close n = no_element
  arguments_listed (g.last_argument r) d b close n = last_element (parts.expression_listed r d b close n (expression_reads r))
  arguments_listed (g.argument_and us vs c x xs m k r s more is) d b close n =
      element us vs c x xs m k (parts.expression_listed r d (omega arith) close n (expression_reads r)) s (arguments_listed more d (omega arith) close n) is

  field_reads : {us : List Tok} {x : Ident × Expression} {h : ℕ} → IsField us x h → (d : ℕ) → h ≤ d → (rest : List Tok) → ends_expression (peek rest) ≡ true → Reads (field (whole d) d) us (got us x h) rest
  field_reads (g.long_field n c us x h sn sc r is) d b rest e =
      let p = expression_positive r in
      placed (λ s. (ident n, x)) (n ∷ c ∷ us) is (case.long_field_case d rest n c us x h (omega arith) sn sc (expression_some r)
      (deeper (λ d. Reads (whole d) us (got us x h) rest) h d p b (λ i l. expression_reads r i l rest e)))
  field_reads (g.short_field n sn is) d b rest e =
      placed (λ s. (ident n, plain.var s n.text)) (n ∷ []) is (case.short_field_case d rest n b sn (differs ends_expression (peek rest) symbol.Colon e refl))

  fields_listed : {us : List Tok} {xs : List (Ident × Expression)} {h : ℕ} → AreFields us xs h → (d : ℕ) → h ≤ d → IsListOf (Element (field (whole d) d) EndsExpression symbol.CloseBrace) us xs h
  fields_listed g.no_field d b = no_element
  fields_listed (g.last_field r) d b = last_element (parts.field_listed r d (field_reads r d b))
  fields_listed (g.field_and us vs c x xs m k r s more is) d b = element us vs c x xs m k (parts.field_listed r d (field_reads r d (omega arith))) s (fields_listed more d (omega arith)) is

  like_reads : {ts : List Tok} {x : Expression} {h : ℕ} → IsLike ts x h → (d : ℕ) → h ≤ suc d → (rest : List Tok) → peek rest ≢ symbol.Else → Reads (like (suc d)) ts (got ts x h) rest
  like_reads {ts = ts} (g.block b h r) d l rest e =
      let p = block_positive r in
      like_case.block_case d rest ts b h (omega arith) (parts.block_next r rest) (deeper (λ d. Reads (block d) ts (got ts b h) rest) h d p (omega arith) (λ c k. block_reads r c k rest))
  like_reads (g.conditional r) d l rest e = if_reads r d l rest e
  like_reads (g.match t o c us vs x a more m n st so sc inner arms is) d l rest e =
      let p = operand_positive inner in
      let z : max 0 n ≡ n = omega arith in
      placed (λ s. plain.match s x (arms_of (a ∷ more))) (t ∷ (us ++ (o ∷ (vs ++ (c ∷ []))))) is
      (like_case.match_case d rest us vs t o c x (a ∷ more) m n (omega arith) st so
      (deeper (λ d. Reads (operand d false 5) us (got us x m) (o ∷ ((vs ++ (c ∷ [])) ++ rest))) m d p (omega arith)
      (λ i k. (operand_reads inner i k).read (o ∷ ((vs ++ (c ∷ [])) ++ rest)) (parts.brace_ends (symbol_of o) (first_is symbol.OpenBrace o refl so))))
      (like_case.arms_case d rest (vs ++ (c ∷ [])) (items (a ∷ more) n c.span)
      (parts.not_in_arms_first arms c rest)
      (subst (λ k. Reads (AfterArm d (length ((vs ++ (c ∷ [])) ++ rest)) [] 0) (vs ++ (c ∷ [])) (items (a ∷ more) k c.span) rest) z
      (arms_read arms d (omega arith) c rest sc (length ((vs ++ (c ∷ [])) ++ rest)) [] 0 (omega (arith, length-append (vs ++ (c ∷ [])) rest, length-append vs (c ∷ [])))))))
  like_reads (g.loop ls us t lb b h sl st r is) d l rest e =
      let p = block_positive r in
      placed (λ s. plain.loop s lb b) (ls ++ (t ∷ us)) is
      (parts.loop_any d rest us t b h (omega arith) (block_some r) st (deeper (λ d. Reads (block d) us (got us b h) rest) h d p (omega arith) (λ c k. block_reads r c k rest)) sl)
  like_reads (g.while ls us vs t lb x b m n sl st c r is) d l rest e =
      let p = block_positive r in
      placed (λ s. while_of s lb x b) (ls ++ (t ∷ (us ++ vs))) is
      (parts.while_any d rest us vs t x b m n (omega arith) (block_some r) st
      (test_reads c d (omega arith) (vs ++ rest) (parts.block_next r rest))
      (deeper (λ d. Reads (block d) vs (got vs b n) rest) n d p (omega arith) (λ c k. block_reads r c k rest)) sl)

  test_reads : {ts : List Tok} {x : Test} {h : ℕ} → IsTest ts x h → (d : ℕ) → h ≤ d → (rest : List Tok) → peek rest ≡ symbol.OpenBrace → Reads (test (operand d) (whole d) (like d) (block d) d) ts (got ts x h) rest
  test_reads {ts = us} {h = m} (g.test {x = x} c) d l rest e =
      like_case.condition_case d rest us x m (operand_front c rest)
      (deeper (λ d. Reads (operand d false 5) us (got us x m) rest) m d (operand_positive c) l (λ i k. (operand_reads c i k).read rest (parts.brace_ends (peek rest) e)))
  test_reads (g.test_pattern t q ps us p x m n st sq sp c is) d l rest e =
      placed (λ s. fitting p x) (t ∷ (ps ++ (q ∷ us))) is
      (like_case.fitting_case d rest ps us t q p x m n st sq (operand_some c)
      (pattern_complete sp d (omega arith) (q ∷ (us ++ rest)) (ap ends_pattern (first_is symbol.Equal q refl sq)))
      (deeper (λ d. Reads (operand d false 3) us (got us x n) rest) n d (operand_positive c) (omega arith) (λ i k. (operand_reads c i k).read rest (let z = parts.brace_ends (peek rest) e in omega arith))))

  if_reads : {ts : List Tok} {x : Expression} {h : ℕ} → IsIf ts x h → (d : ℕ) → h ≤ suc d → (rest : List Tok) → peek rest ≢ symbol.Else → Reads (like (suc d)) ts (got ts x h) rest
  if_reads (g.if_alone t us vs x b m n st c r is) d l rest e =
      let p = block_positive r in
      placed (λ s. if_of s x b plain.absent) (t ∷ (us ++ vs)) is
      (like_case.if_alone_case d rest us vs t x b m n (omega arith) st (block_some r) e
      (test_reads c d (omega arith) (vs ++ rest) (parts.block_next r rest))
      (deeper (λ d. Reads (block d) vs (got vs b n) rest) n d p (omega arith) (λ c k. block_reads r c k rest)))
  if_reads (g.if_else t q us vs ws x y b m n k st se c r w is) d l rest e =
      let p = else_deep w in
      let front : peek ((vs ++ (q ∷ ws)) ++ rest) ≡ symbol.OpenBrace = ap peek (append_assoc vs (q ∷ ws) rest) ∙ parts.block_next r (q ∷ (ws ++ rest)) in
      placed (λ s. if_of s x b (plain.present y)) (t ∷ (us ++ (vs ++ (q ∷ ws)))) is
      (like_case.if_else_case d rest us vs ws t q x y b m n k (omega arith) st se (parts.else_some w)
      (test_reads c d (omega arith) ((vs ++ (q ∷ ws)) ++ rest) front)
      (deeper (λ d. Reads (block d) vs (got vs b n) (q ∷ (ws ++ rest))) n d (block_positive r) (omega arith) (λ c j. block_reads r c j (q ∷ (ws ++ rest))))
      (else_reads w d (omega arith) rest e))

  else_reads : {ws : List Tok} {y : Expression} {k : ℕ} → IsElse ws y k → (d : ℕ) → k ≤ d → (rest : List Tok) → peek rest ≢ symbol.Else → Reads (else_value (operand d) (whole d) (like d) (block d) d) ws (got ws y k) rest
  else_reads {ws = ws} (g.else_block b h r) d l rest e =
      let p = block_positive r in
      let y : Expression = plain.block (span_of ws) b in
      like_case.else_case d rest ws (got ws y (suc h)) symbol.OpenBrace (parts.block_next r rest) refl
      (deeper (λ d. Reads (like d) ws (got ws y (suc h)) rest) (suc h) d (omega arith) l
      (λ c k. like_case.block_case c rest ws b h (omega arith) (parts.block_next r rest) (deeper (λ d. Reads (block d) ws (got ws b h) rest) h c p (omega arith) (λ i j. block_reads r i j rest))))
  else_reads {ws} {y} {k} (g.else_if r) d l rest e =
      like_case.else_case d rest ws (got ws y k) symbol.If (if_front r rest) refl (deeper (λ d. Reads (like d) ws (got ws y k) rest) k d (if_positive r) l (λ c j. if_reads r c j rest e))

  arms_read : {us : List Tok} {xs : Arms} {k : ℕ} → AreArms us xs k → (d : ℕ) → k ≤ d → (c : Tok) (rest : List Tok) → Stands symbol.CloseBrace c → (n : ℕ) (found : Arms) (i : ℕ) → length us ≤ n
      → Reads (AfterArm d n found i) (us ++ (c ∷ [])) (items (found ++ xs) (max i k) c.span) rest
  arms_read g.no_arm d l c rest sc n found i f = like_case.no_arm_case d rest (arms_from (operand d) (whole d) (like d) (block d) d n) found i c sc
  arms_read {us = ts} (g.like_arm a ps us vs p x more m j k rp sa r w is) d l c rest sc n found i f =
      let next = parts.arms_next w c rest sc in
      let size : length ps + suc (length us + length vs) ≤ length ts = let z = ap length is in omega (arith, length-append ps (a ∷ (us ++ vs)), length-append us vs) in
      deeper (λ n. Reads (AfterArm d n found i) (ts ++ (c ∷ [])) (items (found ++ ((p, x) ∷ more)) (max i (max (max m j) k)) c.span) rest) (length ts) n (omega arith) f (λ n f.
      along (ap (λ z. z ++ (c ∷ [])) is ∙ append_assoc ps (a ∷ (us ++ vs)) (c ∷ []) ∙ ap (λ z. ps ++ (a ∷ z)) (append_assoc us vs (c ∷ [])))
      (parts.like_arm_case d rest found i n ps a p m rp (omega arith) sa us (vs ++ (c ∷ [])) x j _ (like_front r ((vs ++ (c ∷ [])) ++ rest))
      (deeper (λ d. Reads (like d) us (got us x j) ((vs ++ (c ∷ [])) ++ rest)) j d (like_positive r) (omega arith)
      (λ i k. like_reads r i k ((vs ++ (c ∷ [])) ++ rest) (parts.not_in_arms _ symbol.Else next parts.no_else)))
      (parts.not_in_arms _ symbol.Comma next parts.no_comma)
      (subst (λ y. Reads (AfterArm d n (found ++ ((p, x) ∷ [])) (max i (max m j))) (vs ++ (c ∷ [])) y rest) (parts.items_same found (p, x) more i (max m j) k c.span)
      (arms_read w d (omega arith) c rest sc n (found ++ ((p, x) ∷ [])) (max i (max m j)) (omega arith)))))
  arms_read {us = ts} (g.like_arm_and a q ps us vs p x more m j k rp sa r sq w is) d l c rest sc n found i f =
      let size : length ps + suc (length us + suc (length vs)) ≤ length ts = let z = ap length is in omega (arith, length-append ps (a ∷ (us ++ (q ∷ vs))), length-append us (q ∷ vs)) in
      let after : peek (q ∷ ((vs ++ (c ∷ [])) ++ rest)) ≢ symbol.Else = λ z. let y = sym (first_is symbol.Comma q refl sq) ∙ z in cc in
      deeper (λ n. Reads (AfterArm d n found i) (ts ++ (c ∷ [])) (items (found ++ ((p, x) ∷ more)) (max i (max (max m j) k)) c.span) rest) (length ts) n (omega arith) f (λ n f.
      along (ap (λ z. z ++ (c ∷ [])) is ∙ append_assoc ps (a ∷ (us ++ (q ∷ vs))) (c ∷ []) ∙ ap (λ z. ps ++ (a ∷ z)) (append_assoc us (q ∷ vs) (c ∷ [])))
      (parts.like_arm_and_case d rest found i n ps a p m rp (omega arith) sa us (vs ++ (c ∷ [])) x j _ q (like_front r (q ∷ ((vs ++ (c ∷ [])) ++ rest))) sq
      (deeper (λ d. Reads (like d) us (got us x j) (q ∷ ((vs ++ (c ∷ [])) ++ rest))) j d (like_positive r) (omega arith) (λ i k. like_reads r i k (q ∷ ((vs ++ (c ∷ [])) ++ rest)) after))
      (subst (λ y. Reads (AfterArm d n (found ++ ((p, x) ∷ [])) (max i (max m j))) (vs ++ (c ∷ [])) y rest) (parts.items_same found (p, x) more i (max m j) k c.span)
      (arms_read w d (omega arith) c rest sc n (found ++ ((p, x) ∷ [])) (max i (max m j)) (omega arith)))))
  arms_read {us = ts} (g.arm_and a q ps us vs p x more m j k rp sa r o sq w is) d l c rest sc n found i f =
      let size : length ps + suc (length us + suc (length vs)) ≤ length ts = let z = ap length is in omega (arith, length-append ps (a ∷ (us ++ (q ∷ vs))), length-append us (q ∷ vs)) in
      deeper (λ n. Reads (AfterArm d n found i) (ts ++ (c ∷ [])) (items (found ++ ((p, x) ∷ more)) (max i (max (max m j) k)) c.span) rest) (length ts) n (omega arith) f (λ n f.
      along (ap (λ z. z ++ (c ∷ [])) is ∙ append_assoc ps (a ∷ (us ++ (q ∷ vs))) (c ∷ []) ∙ ap (λ z. ps ++ (a ∷ z)) (append_assoc us (q ∷ vs) (c ∷ [])))
      (parts.arm_and_case d rest found i n ps a p m rp (omega arith) sa us (vs ++ (c ∷ [])) x j _ q (parts.other_front us (q ∷ ((vs ++ (c ∷ [])) ++ rest)) (expression_some r) o) sq
      (deeper (λ d. Reads (whole d) us (got us x j) (q ∷ ((vs ++ (c ∷ [])) ++ rest))) j d (expression_positive r) (omega arith)
      (λ i k. expression_reads r i k (q ∷ ((vs ++ (c ∷ [])) ++ rest)) (ap ends_expression (first_is symbol.Comma q refl sq))))
      (subst (λ y. Reads (AfterArm d n (found ++ ((p, x) ∷ [])) (max i (max m j))) (vs ++ (c ∷ [])) y rest) (parts.items_same found (p, x) more i (max m j) k c.span)
      (arms_read w d (omega arith) c rest sc n (found ++ ((p, x) ∷ [])) (max i (max m j)) (omega arith)))))
  arms_read {us = ts} (g.last_arm a ps us p x m j rp sa r o is) d l c rest sc n found i f =
      let size : length ps + suc (length us) ≤ length ts = let z = ap length is in omega (arith, length-append ps (a ∷ us)) in
      deeper (λ n. Reads (AfterArm d n found i) (ts ++ (c ∷ [])) (items (found ++ ((p, x) ∷ [])) (max i (max m j)) c.span) rest) (length ts) n (omega arith) f (λ n f.
      along (ap (λ z. z ++ (c ∷ [])) is ∙ append_assoc ps (a ∷ us) (c ∷ []))
      (parts.last_arm_case d rest found i n ps a p m rp (omega arith) sa us c x j (parts.other_front us (c ∷ rest) (expression_some r) o) sc
      (deeper (λ d. Reads (whole d) us (got us x j) (c ∷ rest)) j d (expression_positive r) (omega arith) (λ i k. expression_reads r i k (c ∷ rest) (ap ends_expression (first_is symbol.CloseBrace c refl sc))))))

  block_reads : {ts : List Tok} {b : Body} {h : ℕ} → IsBlock ts b h → (d : ℕ) → h ≤ suc d → (rest : List Tok) → Reads (block (suc d)) ts (got ts b h) rest
  block_reads (g.braces o c us ss y h so sc inner is) d l rest =
      let size : 1 + length us ≤ length ((us ++ (c ∷ [])) ++ rest) = omega (arith, length-append (us ++ (c ∷ [])) rest, length-append us (c ∷ [])) in
      placed (λ s. plain.body s (statements_of ss) y) (o ∷ (us ++ (c ∷ []))) is
      (parts.braces_case d rest us o c ss y h so
      (deeper (λ n. Reads (From d o.span n [] 0) (us ++ (c ∷ [])) (body_at (join o.span c.span) ss y (max 0 h)) rest) (1 + length us) (length ((us ++ (c ∷ [])) ++ rest)) (omega arith) size
      (λ n f. statements_read inner d (omega arith) o.span c rest sc n [] 0 (omega arith))))

  statement_reads : {us : List Tok} {a : Statement} {m : ℕ} → IsStatement us a m → (d : ℕ) → m ≤ d → (o : Span) (n : ℕ) (found : List Statement) (i : ℕ) (vs : List Tok) (b : Got Body) (rest : List Tok)
      → Reads (From d o n (found ++ (a ∷ [])) (max i m)) vs b rest → Reads (From d o (suc n) found i) (us ++ vs) b rest
  statement_reads {us = ts} (g.let_with t q z ps ys us p y x m j k st sq sz rp ry r is) d l o n found i vs b rest again =
      let e = pattern_positive rp in
      parts.let_case d rest o n found i ts vs _ (max (max m j) k) b (ap (λ w. peek (w ++ (vs ++ rest))) is ∙ first_is symbol.Let t refl st)
      (placed (λ s. plain.let_statement s p y (plain.present x)) (t ∷ (ps ++ (ys ++ (q ∷ (us ++ (z ∷ [])))))) is
      (like_case.let_with_case d (vs ++ rest) t q z ps ys us p y x m j k (omega arith) (omega arith) (omega arith) st sq sz rp ry
      (deeper (λ d. Reads (whole d) us (got us x k) (z ∷ (vs ++ rest))) k d (expression_positive r) (omega arith) (λ c f. expression_reads r c f (z ∷ (vs ++ rest)) (ap ends_expression (first_is symbol.Semicolon z refl sz)))))) again
  statement_reads {us = ts} (g.let_without t v z ms ys m y h st sv sz sm ry is) d l o n found i vs b rest again =
      parts.let_case d rest o n found i ts vs _ (max 1 h) b (ap (λ w. peek (w ++ (vs ++ rest))) is ∙ first_is symbol.Let t refl st)
      (placed (λ s. plain.let_statement s (plain.bind (span_of (ms ++ (v ∷ []))) (ident v) m) y plain.absent) (t ∷ ((ms ++ (v ∷ [])) ++ (ys ++ (z ∷ [])))) is
      (like_case.let_without_case d (vs ++ rest) t v z ms ys m y h (omega arith) (omega arith) st sv sz sm ry)) again
  statement_reads {us = ts} (g.done z us x h sz r f is) d l o n found i vs b rest again =
      subst (λ w. Reads (From d o (suc n) found i) (w ++ vs) b rest) (sym is)
      (parts.done_case d rest o n found i us vs z x h b sz (expression_some r) (expression_front r (z ∷ (vs ++ rest))) (parts.other_front us (z ∷ (vs ++ rest)) (expression_some r) f)
      (deeper (λ d. Reads (whole d) us (got us x h) (z ∷ (vs ++ rest))) h d (expression_positive r) l (λ c k. expression_reads r c k (z ∷ (vs ++ rest)) (ap ends_expression (first_is symbol.Semicolon z refl sz))))
      (subst (λ w. Reads (From d o n (found ++ (plain.expression_statement (span_of w) x true ∷ [])) (max i h)) vs b rest) is again))
  statement_reads {us = ts} (g.done_like z us x h sz r is) d l o n found i vs b rest again =
      subst (λ w. Reads (From d o (suc n) found i) (w ++ vs) b rest) (sym is)
      (parts.done_like_case d rest o n found i us vs z x h b sz (like_some r) (like_front r (z ∷ (vs ++ rest)))
      (deeper (λ d. Reads (like d) us (got us x h) (z ∷ (vs ++ rest))) h d (like_positive r) l (λ c k. like_reads r c k (z ∷ (vs ++ rest)) (λ e. let w = sym (first_is symbol.Semicolon z refl sz) ∙ e in cc)))
      (subst (λ w. Reads (From d o n (found ++ (plain.expression_statement (span_of w) x true ∷ [])) (max i h)) vs b rest) is again))

  statements_read : {us : List Tok} {ss : List Statement} {y : OptionalExpression} {k : ℕ} → AreStatements us ss y k → (d : ℕ) → k ≤ d → (o : Span) (c : Tok) (rest : List Tok) → Stands symbol.CloseBrace c
      → (n : ℕ) (found : List Statement) (i : ℕ) → length us ≤ n → Reads (From d o (suc n) found i) (us ++ (c ∷ [])) (body_at (join o c.span) (found ++ ss) y (max i k)) rest
  statements_read g.end d l o c rest sc n found i f = parts.end_case d rest o n found i c sc
  statements_read {us = us} {k = k} (g.tail {x = x} r e) d l o c rest sc n found i f =
      parts.tail_case d rest o n found i us c x k sc (expression_front r (c ∷ rest)) (parts.other_front us (c ∷ rest) (expression_some r) e)
      (deeper (λ d. Reads (whole d) us (got us x k) (c ∷ rest)) k d (expression_positive r) l (λ j q. expression_reads r j q (c ∷ rest) (ap ends_expression (first_is symbol.CloseBrace c refl sc))))
  statements_read {us = us} {k = k} (g.tail_like {x = x} r) d l o c rest sc n found i f =
      parts.tail_like_case d rest o n found i us c x k sc (like_front r (c ∷ rest))
      (deeper (λ d. Reads (like d) us (got us x k) (c ∷ rest)) k d (like_positive r) l (λ j q. like_reads r j q (c ∷ rest) (λ e. let w = sym (first_is symbol.CloseBrace c refl sc) ∙ e in cc)))
  statements_read {us = ts} (g.statement_and us vs a ss y m k r more is) d l o c rest sc n found i f =
      let size : length us + length vs ≤ length ts = let z = ap length is in omega (arith, length-append us vs) in
      let some = parts.statement_some r in
      along (ap (λ z. z ++ (c ∷ [])) is ∙ append_assoc us vs (c ∷ []))
      (statement_reads r d (omega arith) o n found i (vs ++ (c ∷ [])) _ rest
      (subst (λ b. Reads (From d o n (found ++ (a ∷ [])) (max i m)) (vs ++ (c ∷ [])) b rest) (parts.body_same (join o c.span) found a ss y i m k)
      (deeper (λ n. Reads (From d o n (found ++ (a ∷ [])) (max i m)) (vs ++ (c ∷ [])) (body_at (join o c.span) ((found ++ (a ∷ [])) ++ ss) y (max (max i m) k)) rest) (1 + length vs) n (omega arith) (omega arith)
      (λ n f. statements_read more d (omega arith) o c rest sc n (found ++ (a ∷ [])) (max i m) (omega arith)))))
  statements_read {us = ts} (g.like_and us vs x ss y m k r more some is) d l o c rest sc n found i f =
      let size : length us + length vs ≤ length ts = let z = ap length is in omega (arith, length-append us vs) in
      let here = some_length us (like_some r) in
      let a : Statement = plain.expression_statement (span_of us) x false in
      let next = ap (λ z. parts.begins_statement (peek z)) (append_assoc vs (c ∷ []) rest) ∙ parts.statements_front more some ((c ∷ []) ++ rest) in
      along (ap (λ z. z ++ (c ∷ [])) is ∙ append_assoc us vs (c ∷ []))
      (parts.like_and_case d rest o n found i us (vs ++ (c ∷ [])) x m _ (like_front r ((vs ++ (c ∷ [])) ++ rest)) next
      (deeper (λ d. Reads (like d) us (got us x m) ((vs ++ (c ∷ [])) ++ rest)) m d (like_positive r) (omega arith)
      (λ j q. like_reads r j q ((vs ++ (c ∷ [])) ++ rest) (parts.not_else (peek ((vs ++ (c ∷ [])) ++ rest)) next)))
      (subst (λ b. Reads (From d o n (found ++ (a ∷ [])) (max i m)) (vs ++ (c ∷ [])) b rest) (parts.body_same (join o c.span) found a ss y i m k)
      (deeper (λ n. Reads (From d o n (found ++ (a ∷ [])) (max i m)) (vs ++ (c ∷ [])) (body_at (join o c.span) ((found ++ (a ∷ [])) ++ ss) y (max (max i m) k)) rest) (1 + length vs) n (omega arith) (omega arith)
      (λ n f. statements_read more d (omega arith) o c rest sc n (found ++ (a ∷ [])) (max i m) (omega arith)))))

-- ---- of at most so many levels

pub expression_complete : {ts : List Tok} {x : Expression} {h : ℕ} → IsExpression ts x h → (d : ℕ) → h ≤ d → (rest : List Tok) → ends_expression (peek rest) ≡ true → Reads (whole d) ts (got ts x h) rest
expression_complete {ts} {x} {h} r d b rest e = deeper (λ d. Reads (whole d) ts (got ts x h) rest) h d (expression_positive r) b (λ c l. expression_reads r c l rest e)

pub block_complete : {ts : List Tok} {b : Body} {h : ℕ} → IsBlock ts b h → (d : ℕ) → h ≤ d → (rest : List Tok) → Reads (block d) ts (got ts b h) rest
block_complete {ts} {b} {h} r d l rest = deeper (λ d. Reads (block d) ts (got ts b h) rest) h d (block_positive r) l (λ c l. block_reads r c l rest)
