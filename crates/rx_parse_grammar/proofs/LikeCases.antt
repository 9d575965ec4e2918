-- How whole expressions, those that end in a block, and statements are read, where their parts are: production by production.
use Rattle.std.proofs.Common.{◌≡◌, ℕ, suc, ◌≤◌, max, Bool, true, false, List, [], ◌∷◌, ◌++◌, length, Option, Some, None, refl, sym, ap, ◌∙◌, arith, append_assoc, append-nil}
use Rattle.std.specs.Prelude.{◌≢◌}
use Rattle.rx_core.specs.declared.types.Span.{Span}
use Rattle.rx_tree.specs.declared.tree.Ident.{Ident}
use Rattle.rx_tree.specs.Plain as plain
use Rattle.rx_tree.specs.Plain.{Expression, OptionalExpression, Body, PatternTree, TypeTree, Statement}
use Rattle.rx_tree.specs.PlainOf.{arms_of}
use Rattle.rx_lex.specs.Tok.{Tok}
use Rattle.rx_parse_grammar.specs.declared.symbol.Symbol.{Symbol}
use Rattle.rx_parse_grammar.specs.declared.symbol.Symbol.TheVariants as symbol
use Rattle.rx_parse_grammar.specs.grammar.Words.{IsMutability, immutable, mutable, join, span_of, ident}
use Rattle.rx_parse_grammar.specs.grammar.Patterns.{IsPattern}
use Rattle.rx_parse_grammar.specs.grammar.Patterns as pat
use Rattle.rx_parse_grammar.specs.grammar.Expressions.{IsAnnotation, no_type, with_type, Test, condition, fitting, if_of, while_of}
use Rattle.rx_parse_grammar.specs.parser.Symbols.{symbol_of, peek}
use Rattle.rx_parse_grammar.specs.parser.Steps.{Parser, Got, ◌>>=◌, pure}
use Rattle.rx_parse_grammar.specs.parser.Lists.{Items}
use Rattle.rx_parse_grammar.specs.parser.Patterns.{pattern, begins_pattern}
use Rattle.rx_parse_grammar.specs.parser.Operators.{Setting, setting, begins_like, begins_operand, begins_expression}
use Rattle.rx_parse_grammar.specs.parser.Expressions.{label_of, start_of, block_value, let_test, test_by, test, else_by, else_value, conditional, after_arm, arm_by, arms_from, arms, match_value, loop_value, while_value, labelled_by, labelled, like_by, set_as, set_by, returned_by, return_value, jump, set_or_operand, whole_by}
use Rattle.rx_parse_grammar.specs.parser.Blocks.{annotation, let_statement, opens, operand, whole, like, block}
use Rattle.rx_parse_grammar.proofs.SymbolLemmas.{Stands, is_word}
use Rattle.rx_parse_grammar.proofs.Reading.{Reads, take, part, last, done, by, turned, here, there, was_there, room, along, first_is, got, items, node_is, span_between, span_from, span_past, span_over, differs}
use Rattle.rx_parse_grammar.proofs.TypesRead.{type_complete}
use Rattle.rx_parse_grammar.proofs.PatternsRead.{pattern_complete, ends_pattern}
use Rattle.rx_parse_grammar.proofs.ChainsRead.{ends_expression, ends_setting, ends_begins}
use Rattle.rx_parse_grammar.proofs.OperandCases.{Strength}

-- ---- whole expressions

whole_other : (d : ℕ) (q : Symbol) → begins_operand q ≡ true → whole_by (operand d) (whole d) (like d) (block d) d q ≡ set_or_operand (operand d) (whole d) (like d) (block d) d
whole_other d symbol.Return e = absurd (cc)
whole_other d symbol.Break e = absurd (cc)
whole_other d symbol.Continue e = absurd (cc)
whole_other d _ e = refl

pub operand_case : (d : ℕ) (rest ts : List Tok) (x : Expression) (h : ℕ) → begins_operand (peek (ts ++ rest)) ≡ true → ends_expression (peek rest) ≡ true → Reads (Strength d true 5) ts (got ts x h) rest
    → Reads (whole (suc d)) ts (got ts x h) rest
unfolding whole set_or_operand
operand_case d rest ts x h e n r = turned (whole_by (operand d) (whole d) (like d) (block d) d) (set_or_operand (operand d) (whole d) (like d) (block d) d) (whole_other d (peek (ts ++ rest)) e)
    (last _ r (turned (λ q. set_by (operand d) (whole d) (like d) (block d) d (got ts x h) q (setting q)) (pure (got ts x h))
    (ap (λ u. set_by (operand d) (whole d) (like d) (block d) d (got ts x h) (peek rest) u) (ends_setting (peek rest) n)) (done refl)))

pub set_case : (d : ℕ) (rest us vs : List Tok) (t : Tok) (q : Symbol) (u : Setting) (l r : Expression) (m n : ℕ) → is_word q ≡ true → Stands q t → setting q ≡ Some u → m ≤ d → us ≢ [] → vs ≢ []
    → begins_operand (peek (us ++ ((t ∷ vs) ++ rest))) ≡ true → Reads (Strength d true 5) us (got us l m) (t ∷ (vs ++ rest)) → Reads (whole d) vs (got vs r n) rest
    → Reads (whole (suc d)) (us ++ (t ∷ vs)) (got (us ++ (t ∷ vs)) (set_as (operand d) (whole d) (like d) (block d) d u (span_of (us ++ (t ∷ vs))) l r) (suc (max m n))) rest
unfolding whole set_or_operand
set_case d rest us vs t q u l r m n w s su low some more front a b =
    let e = first_is q t w s in
    turned (whole_by (operand d) (whole d) (like d) (block d) d) (set_or_operand (operand d) (whole d) (like d) (block d) d)
    (whole_other d (peek ((us ++ (t ∷ vs)) ++ rest)) (ap (λ z. begins_operand (peek z)) (append_assoc us (t ∷ vs) rest) ∙ front))
    (part _ a (turned (λ q. set_by (operand d) (whole d) (like d) (block d) d (got us l m) q (setting q)) (set_by (operand d) (whole d) (like d) (block d) d (got us l m) q (Some u))
    (ap (λ z. set_by (operand d) (whole d) (like d) (block d) d (got us l m) z (setting z)) e ∙ ap (λ z. set_by (operand d) (whole d) (like d) (block d) d (got us l m) q z) su)
    (room low (take _ q t w s (last _ b (done (node_is (λ s. set_as (operand d) (whole d) (like d) (block d) d u s l r) (join (span_of us) (span_of vs)) (max m n) (us ++ (t ∷ vs)) (span_over us t vs some more))))))))

pub return_case : (d : ℕ) (rest : List Tok) (t : Tok) → Stands symbol.Return t → ends_expression (peek rest) ≡ true → Reads (whole (suc d)) (t ∷ []) (got (t ∷ []) (plain.return (span_of (t ∷ [])) plain.absent) 1) rest
unfolding whole return_value
return_case d rest t s e = by (whole_by (operand d) (whole d) (like d) (block d) d) symbol.Return (first_is symbol.Return t refl s) (take _ symbol.Return t refl s
    (turned (λ q. returned_by (operand d) (whole d) (like d) (block d) d t (begins_expression q)) (returned_by (operand d) (whole d) (like d) (block d) d t false)
    (ap (returned_by (operand d) (whole d) (like d) (block d) d t) (ends_begins (peek rest) e)) (done refl)))

pub return_with_case : (d : ℕ) (rest : List Tok) (t : Tok) (us : List Tok) (x : Expression) (h : ℕ) → Stands symbol.Return t → us ≢ [] → begins_expression (peek (us ++ rest)) ≡ true → Reads (whole d) us (got us x h) rest
    → Reads (whole (suc d)) (t ∷ us) (got (t ∷ us) (plain.return (span_of (t ∷ us)) (plain.present x)) (suc h)) rest
unfolding whole return_value
return_with_case d rest t us x h s some e r = by (whole_by (operand d) (whole d) (like d) (block d) d) symbol.Return (first_is symbol.Return t refl s) (take _ symbol.Return t refl s
    (turned (λ q. returned_by (operand d) (whole d) (like d) (block d) d t (begins_expression q)) (returned_by (operand d) (whole d) (like d) (block d) d t true)
    (ap (returned_by (operand d) (whole d) (like d) (block d) d t) e)
    (last _ r (done (node_is (λ s. plain.return s (plain.present x)) (join t.span (span_of us)) h (t ∷ us) (span_from t us some))))))

pub jump_case : (d : ℕ) (rest : List Tok) (t : Tok) (q : Symbol) (make : Span → Option Ident → Expression) → is_word q ≡ true → Stands q t
    → whole_by (operand d) (whole d) (like d) (block d) d q ≡ jump (operand d) (whole d) (like d) (block d) d q make → ends_expression (peek rest) ≡ true
    → Reads (whole (suc d)) (t ∷ []) (got (t ∷ []) (make (span_of (t ∷ [])) None) 1) rest
unfolding whole jump
jump_case d rest t q make w s e n = turned (whole_by (operand d) (whole d) (like d) (block d) d) (jump (operand d) (whole d) (like d) (block d) d q make)
    (ap (whole_by (operand d) (whole d) (like d) (block d) d) (first_is q t w s) ∙ e) (take _ q t w s (there _ (differs ends_expression (peek rest) symbol.Lifetime n refl) (done refl)))

pub jump_to_case : (d : ℕ) (rest : List Tok) (t l : Tok) (q : Symbol) (make : Span → Option Ident → Expression) → is_word q ≡ true → Stands q t → Stands symbol.Lifetime l
    → whole_by (operand d) (whole d) (like d) (block d) d q ≡ jump (operand d) (whole d) (like d) (block d) d q make
    → Reads (whole (suc d)) (t ∷ l ∷ []) (got (t ∷ l ∷ []) (make (span_of (t ∷ l ∷ [])) (Some (ident l))) 1) rest
unfolding whole jump
jump_to_case d rest t l q make w s sl e = turned (whole_by (operand d) (whole d) (like d) (block d) d) (jump (operand d) (whole d) (like d) (block d) d q make)
    (ap (whole_by (operand d) (whole d) (like d) (block d) d) (first_is q t w s) ∙ e) (take _ q t w s (here _ (first_is symbol.Lifetime l refl sl) (take _ symbol.Lifetime l refl sl (done refl))))

-- ---- expressions that end in a block

pub opens_is : (q : Symbol) → opens q ≡ true → q ≡ symbol.OpenBrace
opens_is symbol.OpenBrace e = refl
opens_is _ e = absurd (cc)

pub block_case : (d : ℕ) (rest ts : List Tok) (b : Body) (h : ℕ) → 1 ≤ d → peek (ts ++ rest) ≡ symbol.OpenBrace → Reads (block d) ts (got ts b h) rest
    → Reads (like (suc d)) ts (got ts (plain.block (span_of ts) b) (suc h)) rest
unfolding like block_value
block_case d rest ts b h low e r = by (like_by (operand d) (whole d) (like d) (block d) d) symbol.OpenBrace e (room low (last _ r (done (node_is (λ s. plain.block s b) (span_of ts) h ts refl))))

-- ---- what is tested

test_other : (d : ℕ) (q : Symbol) → begins_operand q ≡ true
    → test_by (operand d) (whole d) (like d) (block d) d q ≡ operand d false 5 >>= (λ x. pure (record { tree = condition x.tree; height = x.height; span = x.span }))
test_other d symbol.Let e = absurd (cc)
test_other d _ e = refl

pub condition_case : (d : ℕ) (rest us : List Tok) (x : Expression) (m : ℕ) → begins_operand (peek (us ++ rest)) ≡ true → Reads (operand d false 5) us (got us x m) rest
    → Reads (test (operand d) (whole d) (like d) (block d) d) us (got us (condition x) m) rest
unfolding test
condition_case d rest us x m e r = turned (test_by (operand d) (whole d) (like d) (block d) d) (operand d false 5 >>= (λ x. pure (record { tree = condition x.tree; height = x.height; span = x.span })))
    (test_other d (peek (us ++ rest)) e) (last _ r (done refl))

pub fitting_case : (d : ℕ) (rest ps us : List Tok) (t q : Tok) (p : PatternTree) (x : Expression) (m n : ℕ) → Stands symbol.Let t → Stands symbol.Equal q → us ≢ []
    → Reads (pattern d) ps (got ps p m) (q ∷ (us ++ rest)) → Reads (operand d false 3) us (got us x n) rest
    → Reads (test (operand d) (whole d) (like d) (block d) d) (t ∷ (ps ++ (q ∷ us))) (got (t ∷ (ps ++ (q ∷ us))) (fitting p x) (max m n)) rest
unfolding test let_test
fitting_case d rest ps us t q p x m n st sq some r k = by (test_by (operand d) (whole d) (like d) (block d) d) symbol.Let (first_is symbol.Let t refl st) (take _ symbol.Let t refl st
    (part _ r (take _ symbol.Equal q refl sq (last _ k (done (ap (λ (s : Span). at_span s)
    (span_past t (ps ++ (q ∷ [])) us some ∙ ap (λ z. span_of (t ∷ z)) (append_assoc ps (q ∷ []) us))))))))
  where
    at_span : Span → Got Test
    at_span s = record { tree = fitting p x; height = max m n; span = s }

pub if_alone_case : (d : ℕ) (rest us vs : List Tok) (t : Tok) (x : Test) (b : Body) (m n : ℕ) → 1 ≤ d → Stands symbol.If t → vs ≢ [] → peek rest ≢ symbol.Else
    → Reads (test (operand d) (whole d) (like d) (block d) d) us (got us x m) (vs ++ rest) → Reads (block d) vs (got vs b n) rest
    → Reads (like (suc d)) (t ∷ (us ++ vs)) (got (t ∷ (us ++ vs)) (if_of (span_of (t ∷ (us ++ vs))) x b plain.absent) (suc (max m n))) rest
unfolding like conditional
if_alone_case d rest us vs t x b m n low s some e r k = by (like_by (operand d) (whole d) (like d) (block d) d) symbol.If (first_is symbol.If t refl s) (room low (take _ symbol.If t refl s
    (part _ r (last _ k (there _ e (done (node_is (λ s. if_of s x b plain.absent) (join t.span (span_of vs)) (max m n) (t ∷ (us ++ vs)) (span_past t us vs some))))))))

pub if_else_case : (d : ℕ) (rest us vs ws : List Tok) (t e : Tok) (x : Test) (y : Expression) (b : Body) (m n k : ℕ) → 2 ≤ d → Stands symbol.If t → Stands symbol.Else e → ws ≢ []
    → Reads (test (operand d) (whole d) (like d) (block d) d) us (got us x m) ((vs ++ (e ∷ ws)) ++ rest) → Reads (block d) vs (got vs b n) (e ∷ (ws ++ rest)) → Reads (else_value (operand d) (whole d) (like d) (block d) d) ws (got ws y k) rest
    → Reads (like (suc d)) (t ∷ (us ++ (vs ++ (e ∷ ws)))) (got (t ∷ (us ++ (vs ++ (e ∷ ws)))) (if_of (span_of (t ∷ (us ++ (vs ++ (e ∷ ws))))) x b (plain.present y)) (suc (max m (max n k)))) rest
unfolding like conditional
if_else_case d rest us vs ws t e x y b m n k low s se some p q r = by (like_by (operand d) (whole d) (like d) (block d) d) symbol.If (first_is symbol.If t refl s) (room (omega arith) (take _ symbol.If t refl s
    (part _ p (part _ q (here _ (first_is symbol.Else e refl se) (room low (take _ symbol.Else e refl se (last _ r
    (done (node_is (λ s. if_of s x b (plain.present y)) (join t.span (span_of ws)) (max m (max n k)) (t ∷ (us ++ (vs ++ (e ∷ ws))))
    (span_past t (us ++ (vs ++ (e ∷ []))) ws some ∙ ap (λ z. span_of (t ∷ z)) (append_assoc us (vs ++ (e ∷ [])) ws ∙ ap (λ z. us ++ z) (append_assoc vs (e ∷ []) ws)))))))))))))

pub else_case : (d : ℕ) (rest ws : List Tok) (y : Got Expression) (q : Symbol) → peek (ws ++ rest) ≡ q → else_by (operand d) (whole d) (like d) (block d) d q ≡ like d → Reads (like d) ws y rest
    → Reads (else_value (operand d) (whole d) (like d) (block d) d) ws y rest
unfolding else_value
else_case d rest ws y q e s r = turned (else_by (operand d) (whole d) (like d) (block d) d) (like d) (ap (else_by (operand d) (whole d) (like d) (block d) d) e ∙ s) r

pub match_case : (d : ℕ) (rest us vs : List Tok) (t o c : Tok) (x : Expression) (l : List (PatternTree × Expression)) (m n : ℕ) → 1 ≤ d → Stands symbol.Match t → Stands symbol.OpenBrace o
    → Reads (operand d false 5) us (got us x m) (o ∷ ((vs ++ (c ∷ [])) ++ rest)) → Reads (arms (operand d) (whole d) (like d) (block d) d) (vs ++ (c ∷ [])) (items l n c.span) rest
    → Reads (like (suc d)) (t ∷ (us ++ (o ∷ (vs ++ (c ∷ []))))) (got (t ∷ (us ++ (o ∷ (vs ++ (c ∷ []))))) (plain.match (span_of (t ∷ (us ++ (o ∷ (vs ++ (c ∷ [])))))) x (arms_of l)) (suc (max m n))) rest
unfolding like match_value
match_case d rest us vs t o c x l m n low s so p r = by (like_by (operand d) (whole d) (like d) (block d) d) symbol.Match (first_is symbol.Match t refl s) (room low (take _ symbol.Match t refl s
    (part _ p (take _ symbol.OpenBrace o refl so (last _ r (done (node_is (λ s. plain.match s x (arms_of l)) (join t.span c.span) (max m n) (t ∷ (us ++ (o ∷ (vs ++ (c ∷ [])))))
    (span_between (us ++ (o ∷ vs)) t c ∙ ap (λ z. span_of (t ∷ z)) (append_assoc us (o ∷ vs) (c ∷ []))))))))))

loop_reads : (d : ℕ) (rest us ls : List Tok) (l : Option Tok) (t : Tok) (b : Body) (h : ℕ) → Stands symbol.Loop t → join (start_of l t) (span_of us) ≡ span_of (ls ++ (t ∷ us)) → Reads (block d) us (got us b h) rest
    → Reads (loop_value (operand d) (whole d) (like d) (block d) d l) (t ∷ us) (got (ls ++ (t ∷ us)) (plain.loop (span_of (ls ++ (t ∷ us))) (label_of l) b) (suc h)) rest
unfolding loop_value
loop_reads d rest us ls l t b h s e r = take _ symbol.Loop t refl s (last _ r (done (node_is (λ s. plain.loop s (label_of l) b) (join (start_of l t) (span_of us)) h (ls ++ (t ∷ us)) e)))

while_reads : (d : ℕ) (rest us vs ls : List Tok) (l : Option Tok) (t : Tok) (x : Test) (b : Body) (m n : ℕ) → Stands symbol.While t → join (start_of l t) (span_of vs) ≡ span_of (ls ++ (t ∷ (us ++ vs)))
    → Reads (test (operand d) (whole d) (like d) (block d) d) us (got us x m) (vs ++ rest) → Reads (block d) vs (got vs b n) rest
    → Reads (while_value (operand d) (whole d) (like d) (block d) d l) (t ∷ (us ++ vs)) (got (ls ++ (t ∷ (us ++ vs))) (while_of (span_of (ls ++ (t ∷ (us ++ vs)))) (label_of l) x b) (suc (max m n))) rest
unfolding while_value
while_reads d rest us vs ls l t x b m n s e p r = take _ symbol.While t refl s (part _ p (last _ r (done (node_is (λ s. while_of s (label_of l) x b) (join (start_of l t) (span_of vs)) (max m n) (ls ++ (t ∷ (us ++ vs))) e))))

labelled_case : (d : ℕ) (rest ts : List Tok) (l c : Tok) (x : Got Expression) (q : Symbol) → 1 ≤ d → Stands symbol.Lifetime l → Stands symbol.Colon c → peek (ts ++ rest) ≡ q
    → Reads (labelled_by (operand d) (whole d) (like d) (block d) d l q) ts x rest → Reads (like (suc d)) (l ∷ c ∷ ts) x rest
unfolding like labelled
labelled_case d rest ts l c x q low sl sc e r = by (like_by (operand d) (whole d) (like d) (block d) d) symbol.Lifetime (first_is symbol.Lifetime l refl sl) (room low (take _ symbol.Lifetime l refl sl
    (take _ symbol.Colon c refl sc (by (labelled_by (operand d) (whole d) (like d) (block d) d l) q e r))))

pub loop_case : (d : ℕ) (rest us : List Tok) (t : Tok) (b : Body) (h : ℕ) → 1 ≤ d → us ≢ [] → Stands symbol.Loop t → Reads (block d) us (got us b h) rest
    → Reads (like (suc d)) (t ∷ us) (got (t ∷ us) (plain.loop (span_of (t ∷ us)) None b) (suc h)) rest
unfolding like
loop_case d rest us t b h low some s r = by (like_by (operand d) (whole d) (like d) (block d) d) symbol.Loop (first_is symbol.Loop t refl s) (room low (loop_reads d rest us [] None t b h s (span_from t us some) r))

pub labelled_loop_case : (d : ℕ) (rest us : List Tok) (l c t : Tok) (b : Body) (h : ℕ) → 1 ≤ d → us ≢ [] → Stands symbol.Lifetime l → Stands symbol.Colon c → Stands symbol.Loop t → Reads (block d) us (got us b h) rest
    → Reads (like (suc d)) (l ∷ c ∷ t ∷ us) (got (l ∷ c ∷ t ∷ us) (plain.loop (span_of (l ∷ c ∷ t ∷ us)) (Some (ident l)) b) (suc h)) rest
labelled_loop_case d rest us l c t b h low some sl sc s r = labelled_case d rest (t ∷ us) l c _ symbol.Loop low sl sc (first_is symbol.Loop t refl s)
    (loop_reads d rest us (l ∷ c ∷ []) (Some l) t b h s (span_past l (c ∷ t ∷ []) us some) r)

pub while_case : (d : ℕ) (rest us vs : List Tok) (t : Tok) (x : Test) (b : Body) (m n : ℕ) → 1 ≤ d → vs ≢ [] → Stands symbol.While t → Reads (test (operand d) (whole d) (like d) (block d) d) us (got us x m) (vs ++ rest) → Reads (block d) vs (got vs b n) rest
    → Reads (like (suc d)) (t ∷ (us ++ vs)) (got (t ∷ (us ++ vs)) (while_of (span_of (t ∷ (us ++ vs))) None x b) (suc (max m n))) rest
unfolding like
while_case d rest us vs t x b m n low some s p r = by (like_by (operand d) (whole d) (like d) (block d) d) symbol.While (first_is symbol.While t refl s)
    (room low (while_reads d rest us vs [] None t x b m n s (span_past t us vs some) p r))

pub labelled_while_case : (d : ℕ) (rest us vs : List Tok) (l c t : Tok) (x : Test) (b : Body) (m n : ℕ) → 1 ≤ d → vs ≢ [] → Stands symbol.Lifetime l → Stands symbol.Colon c → Stands symbol.While t
    → Reads (test (operand d) (whole d) (like d) (block d) d) us (got us x m) (vs ++ rest) → Reads (block d) vs (got vs b n) rest
    → Reads (like (suc d)) (l ∷ c ∷ t ∷ (us ++ vs)) (got (l ∷ c ∷ t ∷ (us ++ vs)) (while_of (span_of (l ∷ c ∷ t ∷ (us ++ vs))) (Some (ident l)) x b) (suc (max m n))) rest
labelled_while_case d rest us vs l c t x b m n low some sl sc s p r = labelled_case d rest (t ∷ (us ++ vs)) l c _ symbol.While low sl sc (first_is symbol.While t refl s)
    (while_reads d rest us vs (l ∷ c ∷ []) (Some l) t x b m n s (span_past l (c ∷ t ∷ us) vs some) p r)

-- ---- arms

abbrev pub Arms : Type 0
Arms = List (PatternTree × Expression)

abbrev pub Again : Type 0
Again = Arms → ℕ → Parser (Items (PatternTree × Expression))

pub no_arm_case : (d : ℕ) (rest : List Tok) (again : Again) (found : Arms) (i : ℕ) (c : Tok) → Stands symbol.CloseBrace c
    → Reads (after_arm (operand d) (whole d) (like d) (block d) d again found i) (c ∷ []) (items (found ++ []) (max i 0) c.span) rest
no_arm_case d rest again found i c s =
    let z : i ≡ max i 0 = omega arith in
    here _ (first_is symbol.CloseBrace c refl s) (take _ symbol.CloseBrace c refl s (done (ap (λ l. items l i c.span) (sym (append-nil found)) ∙ ap (λ n. items (found ++ []) n c.span) z)))

-- an arm up to `=>`
pub arm_case : (d : ℕ) (rest ps us : List Tok) (a : Tok) (p : PatternTree) (m : ℕ) (k : ℕ) (found : Arms) (i : ℕ) (b : Bool) (y : Items (PatternTree × Expression)) → Reads (pattern d) ps (got ps p m) (a ∷ (us ++ rest))
    → begins_pattern (peek (ps ++ (a ∷ (us ++ rest)))) ≡ true → Stands symbol.FatArrow a → begins_like (peek (us ++ rest)) ≡ b
    → Reads (arm_by (operand d) (whole d) (like d) (block d) d (arms_from (operand d) (whole d) (like d) (block d) d k) found i (got ps p m) b) us y rest
    → Reads (after_arm (operand d) (whole d) (like d) (block d) d (arms_from (operand d) (whole d) (like d) (block d) d (suc k)) found i) (ps ++ (a ∷ us)) y rest
unfolding arms_from
arm_case d rest ps us a p m k found i b y r front sa e q = there _ (differs begins_pattern _ symbol.CloseBrace (ap (λ z. begins_pattern (peek z)) (append_assoc ps (a ∷ us) rest) ∙ front) refl)
    (part _ r (take _ symbol.FatArrow a refl sa
    (turned (λ q. arm_by (operand d) (whole d) (like d) (block d) d (arms_from (operand d) (whole d) (like d) (block d) d k) found i (got ps p m) (begins_like q))
    (arm_by (operand d) (whole d) (like d) (block d) d (arms_from (operand d) (whole d) (like d) (block d) d k) found i (got ps p m) b)
    (ap (arm_by (operand d) (whole d) (like d) (block d) d (arms_from (operand d) (whole d) (like d) (block d) d k) found i (got ps p m)) e) q)))

pub arms_case : (d : ℕ) (rest ts : List Tok) (y : Items (PatternTree × Expression)) → peek (ts ++ rest) ≢ symbol.CloseBrace
    → Reads (after_arm (operand d) (whole d) (like d) (block d) d (arms_from (operand d) (whole d) (like d) (block d) d (length (ts ++ rest))) [] 0) ts y rest
    → Reads (arms (operand d) (whole d) (like d) (block d) d) ts y rest
unfolding arms
arms_case d rest ts y n r = record { read = (was_there _ symbol.CloseBrace n r).read }

-- ---- statements

abbrev pub AgainStatements : Type 0
AgainStatements = List Statement → ℕ → Parser (Got Body)

pub annotation_reads : {ys : List Tok} {y : Option TypeTree} {h : ℕ} → IsAnnotation ys y h → (d : ℕ) → h ≤ d → (rest : List Tok) → peek rest ≢ symbol.Less → peek rest ≢ symbol.Colon → Reads (annotation d) ys (y, h) rest
unfolding annotation
annotation_reads no_type d b rest n m = there _ m (done refl)
annotation_reads {h = h} (with_type {ts = ts} c us y j sc r is) d b rest n m =
    along is (here _ (first_is symbol.Colon c refl sc) (take _ symbol.Colon c refl sc (last _ (type_complete r d b rest n) (done refl))))

ends_annotated : Symbol → Bool
ends_annotated symbol.Colon = true
ends_annotated symbol.Equal = true
ends_annotated symbol.Semicolon = true
ends_annotated _ = false

-- what may follow the pattern of a `let`
annotated_ends : (q : Symbol) → ends_annotated q ≡ true → ends_pattern q ≡ true
unfolding ends_annotated
annotated_ends symbol.Colon e = refl
annotated_ends symbol.Equal e = refl
annotated_ends symbol.Semicolon e = refl
annotated_ends _ e = absurd (cc)

annotated_front : {ys : List Tok} {y : Option TypeTree} {h : ℕ} → IsAnnotation ys y h → (rest : List Tok) → ends_annotated (peek rest) ≡ true → ends_annotated (peek (ys ++ rest)) ≡ true
unfolding ends_annotated
annotated_front no_type rest e = e
annotated_front (with_type c us y h sc r is) rest e = ap (λ z. ends_annotated (peek (z ++ rest))) is ∙ ap ends_annotated (first_is symbol.Colon c refl sc)

at_annotated : (t : Tok) (q : Symbol) → symbol_of t ≡ q → ends_annotated q ≡ true → ends_annotated (symbol_of t) ≡ true
at_annotated t q e b = ap ends_annotated e ∙ b

statement_got : (ts : List Tok) (f : Span → Statement) (s : Span) (h k : ℕ) → s ≡ span_of ts → h ≡ k → record { tree = f s; height = h; span = s } ≡ got ts (f (span_of ts)) k
statement_got ts f s h k e b = ap (λ (z : Span). record { tree = f z; height = h; span = z }) e ∙ ap (λ n. got ts (f (span_of ts)) n) b

pub let_with_case : (d : ℕ) (rest : List Tok) (t q z : Tok) (ps ys us : List Tok) (p : PatternTree) (y : Option TypeTree) (x : Expression) (m n k : ℕ) → 1 ≤ d → m ≤ d → n ≤ d → Stands symbol.Let t → Stands symbol.Equal q
    → Stands symbol.Semicolon z → IsPattern ps p m → IsAnnotation ys y n → Reads (whole d) us (got us x k) (z ∷ rest)
    → Reads (let_statement (whole d) (like d) d) (t ∷ (ps ++ (ys ++ (q ∷ (us ++ (z ∷ []))))))
    (got (t ∷ (ps ++ (ys ++ (q ∷ (us ++ (z ∷ [])))))) (plain.let_statement (span_of (t ∷ (ps ++ (ys ++ (q ∷ (us ++ (z ∷ []))))))) p y (plain.present x)) (max (max m n) k)) rest
unfolding let_statement ends_annotated
let_with_case d rest t q z ps ys us p y x m n k low lm ln st sq sz rp ry r =
    let sig = first_is symbol.Equal q refl sq in
    let shape : (ps ++ (ys ++ (q ∷ us))) ++ (z ∷ []) ≡ ps ++ (ys ++ (q ∷ (us ++ (z ∷ [])))) = append_assoc ps (ys ++ (q ∷ us)) (z ∷ []) ∙ ap (λ w. ps ++ w) (append_assoc ys (q ∷ us) (z ∷ [])) in
    let behind : List Tok = (us ++ (z ∷ [])) ++ rest in
    let ends : ends_pattern (peek ((ys ++ (q ∷ (us ++ (z ∷ [])))) ++ rest)) ≡ true =
    ap (λ w. ends_pattern (peek w)) (append_assoc ys (q ∷ (us ++ (z ∷ []))) rest) ∙ annotated_ends _ (annotated_front ry (q ∷ behind) (at_annotated q symbol.Equal sig refl)) in
    room low (take _ symbol.Let t refl st (part _ (pattern_complete rp d lm ((ys ++ (q ∷ (us ++ (z ∷ [])))) ++ rest) ends)
    (part _ (annotation_reads ry d ln (q ∷ behind) (λ a. let z = sym sig ∙ a in cc) (λ a. let z = sym sig ∙ a in cc))
    (here _ sig (take _ symbol.Equal q refl sq (part _ r (take _ symbol.Semicolon z refl sz
    (done (statement_got (t ∷ (ps ++ (ys ++ (q ∷ (us ++ (z ∷ [])))))) (λ s. plain.let_statement s p y (plain.present x)) (join t.span z.span) (max (max m n) k) (max (max m n) k)
    (span_between (ps ++ (ys ++ (q ∷ us))) t z ∙ ap (λ w. span_of (t ∷ w)) shape) refl)))))))))

name_pattern : {ms : List Tok} {m : Bool} → IsMutability ms m → (n : Tok) → Stands symbol.Name n → IsPattern (ms ++ (n ∷ [])) (plain.bind (span_of (ms ++ (n ∷ []))) (ident n) m) 1
name_pattern immutable n s = pat.binding n s refl
name_pattern (mutable t sm) n s = pat.mutable_binding t n sm s refl

pub let_without_case : (d : ℕ) (rest : List Tok) (t n z : Tok) (ms ys : List Tok) (m : Bool) (y : Option TypeTree) (h : ℕ) → 1 ≤ d → h ≤ d → Stands symbol.Let t → Stands symbol.Name n → Stands symbol.Semicolon z
    → IsMutability ms m → IsAnnotation ys y h
    → Reads (let_statement (whole d) (like d) d) (t ∷ ((ms ++ (n ∷ [])) ++ (ys ++ (z ∷ []))))
    (got (t ∷ ((ms ++ (n ∷ [])) ++ (ys ++ (z ∷ [])))) (plain.let_statement (span_of (t ∷ ((ms ++ (n ∷ [])) ++ (ys ++ (z ∷ []))))) (plain.bind (span_of (ms ++ (n ∷ []))) (ident n) m) y plain.absent) (max 1 h)) rest
unfolding let_statement ends_annotated
let_without_case d rest t n z ms ys m y h low lh st sn sz sm ry =
    let sig = first_is symbol.Semicolon z refl sz in
    let ends : ends_pattern (peek ((ys ++ (z ∷ [])) ++ rest)) ≡ true =
    ap (λ w. ends_pattern (peek w)) (append_assoc ys (z ∷ []) rest) ∙ annotated_ends _ (annotated_front ry (z ∷ rest) (at_annotated z symbol.Semicolon sig refl)) in
    room low (take _ symbol.Let t refl st (part _ (pattern_complete (name_pattern sm n sn) d low ((ys ++ (z ∷ [])) ++ rest) ends)
    (part _ (annotation_reads ry d lh (z ∷ rest) (λ a. let w = sym sig ∙ a in cc) (λ a. let w = sym sig ∙ a in cc))
    (there _ (λ a. let w = sym sig ∙ a in cc) (take _ symbol.Semicolon z refl sz
    (done (statement_got (t ∷ ((ms ++ (n ∷ [])) ++ (ys ++ (z ∷ [])))) (λ s. plain.let_statement s (plain.bind (span_of (ms ++ (n ∷ []))) (ident n) m) y plain.absent) (join t.span z.span) (max 1 h) (max 1 h)
    (span_between ((ms ++ (n ∷ [])) ++ ys) t z ∙ ap (λ w. span_of (t ∷ w)) (append_assoc (ms ++ (n ∷ [])) ys (z ∷ []))) refl)))))))
