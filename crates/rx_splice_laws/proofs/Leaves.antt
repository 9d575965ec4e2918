-- The special forms of a run: the words of each rule are derived as what becomes of the tree.
use Rattle.std.proofs.Common.{◌≡◌, ℕ, suc, ◌+◌, ◌≤◌, ◌<◌, max, Bool, true, false, List, map, [], ◌∷◌, ◌++◌, Option, Some, None, codes, length, refl, sym, ap, subst, ◌∙◌, arith, append_assoc, append-nil}
use Rattle.std.specs.Prelude.{◌≢◌, ⊤, ◌==◌, if◌then◌else◌}
use Rattle.std.proofs.lemmas.Bool.{false_from_ne_true, eqb-true, false≢true, or_left}
use Rattle.std.proofs.lemmas.Bool.Decides.{nat_tests}
use Rattle.rx_core.specs.declared.types.Span.{Span}
use Rattle.rx_core.specs.declared.types.Kind.{Kind}
use Rattle.rx_core.specs.Bytes.{same_bytes}
use Rattle.rx_tree.specs.Plain as plain
use Rattle.rx_tree.specs.Plain.{TypeTree, PatternTree, Expression, Expressions}
use Rattle.rx_tree.specs.Erase.{nowhere, erase, erase_ident}
use Rattle.rx_lex.specs.declared.token.Class.TheVariants.{Identifier, Number, Mark}
use Rattle.rx_lex.specs.Words.{is_identifier}
use Rattle.rx_lex.specs.Tok.{Tok}
use Rattle.rx_lex.specs.Tokens.{token_at}
use Rattle.rx_lex.specs.Numerals.{IsNumeral, decimal, based, kind_name, prefix}
use Rattle.rx_parse_grammar.specs.grammar.Words.{IsMark, IsKeyword, IsName, IsNumber, span_of, ident}
use Rattle.rx_parse_grammar.specs.grammar.Types as type
use Rattle.rx_parse_grammar.specs.grammar.Patterns as pattern
use Rattle.rx_parse_grammar.specs.grammar.Expressions as g
use Rattle.rx_parse_grammar.specs.grammar.Expressions.{IsExpression, IsOperand, IsUnary, IsPostfix, IsPrimary, IsField}
use Rattle.rx_print_spelling.specs.Pieces.{Piece, word, mark}
use Rattle.rx_print_spelling.specs.Formed.{Formed}
use Rattle.rx_print_spelling.specs.Levels.{expression_levels, list_levels, optional_list_levels}
use Rattle.rx_print_spelling.proofs.ExpressionsRead.{expression_reads}
use Rattle.rx_print_spelling.proofs.Pieces.{places}
use Rattle.rx_print_spelling.proofs.FirstWords.{tokens_begin}
use Rattle.rx_hoist_extraction.specs.Names.{Names}
use Rattle.rx_splice_laws.specs.Edits.{Edit, replaced, put}
use Rattle.rx_splice_laws.specs.EditsOf.{EditsAt}
use Rattle.rx_splice_laws.specs.Places.{next_start, first_start, behind, before_dot, begins_mark, text_at, after_slash}
use Rattle.rx_hoist_extraction.specs.Made as made_of
use Rattle.rx_splice_laws.specs.Moving.{Moving, Jump, run_edits, run_changes, is_starred, star, enclosed_star, long_field, star_at, enclosed_at, jump_of, returned, jump_edits, jump_or, suffix_edits, variant_of, first_done, first_opening, first_closing, opening, closing, spaced, handed_over}
use Rattle.rx_splice_laws.proofs.Beside.{begins_run, ends_run}
use Rattle.rx_splice_laws.proofs.InPlaces.{star_in_place, enclosed_in_place, long_in_place, number_in_place, jump_in_place, opening_fits, closing_closes}
use Rattle.rx_splice_laws.proofs.Edited as calculus
use Rattle.rx_splice_laws.proofs.Edited.{Edited, made, begins_plain}
use Rattle.rx_splice_laws.specs.SplicedRun.{Part}
use Rattle.rx_splice_laws.proofs.Kept.{Kept, keep, recast, Low, field_view}

-- ---- tokens that begin one behind the other

abbrev pub Later : ℕ → List Tok → Type 0
Later n [] = ⊤
Later n (t ∷ ts) = (n < t.span.start) × Later n ts

abbrev pub Rising : List Tok → Type 0
Rising [] = ⊤
Rising (t ∷ ts) = Later t.span.start ts × Rising ts

later_in : (n : ℕ) (pre : List Tok) (t : Tok) (rest : List Tok) → Later n (pre ++ (t ∷ rest)) → n < t.span.start
later_in n [] t rest l = l.0
later_in n (p ∷ pre) t rest l = later_in n pre t rest l.1

self : (n : ℕ) → (n == n) ≡ true
self n = grind (arith, nat_tests)

apart : (n m : ℕ) → n < m → (n == m) ≡ false
apart n m l = false_from_ne_true (n == m) (λ e. let h : n ≡ m = eqb-true n m e in absurd (omega (arith, l, h)))

pub behind_is : (pre : List Tok) (t : Tok) (rest : List Tok) → Rising (pre ++ (t ∷ rest)) → behind t.span.start (pre ++ (t ∷ rest)) ≡ rest
behind_is [] t rest r = rw (self t.span.start) refl
behind_is (p ∷ pre) t rest r = rw (apart p.span.start t.span.start (later_in p.span.start pre t rest r.0)) (behind_is pre t rest r.1)

pub text_is : (pre : List Tok) (t : Tok) (rest : List Tok) → Rising (pre ++ (t ∷ rest)) → text_at (pre ++ (t ∷ rest)) t.span.start ≡ t.text
text_is [] t rest r = rw (self t.span.start) refl
text_is (p ∷ pre) t rest r = rw (apart p.span.start t.span.start (later_in p.span.start pre t rest r.0)) (text_is pre t rest r.1)

part_behind : {all ts : List Tok} (t : Tok) → Rising all → (p : Part all (t ∷ ts)) → behind t.span.start all ≡ ts ++ p.post
part_behind {all} {ts} t r p = ap (behind t.span.start) p.is ∙ behind_is p.pre t (ts ++ p.post) (subst Rising p.is r)

part_text : {all ts : List Tok} (t : Tok) → Rising all → Part all (t ∷ ts) → text_at all t.span.start ≡ t.text
part_text {all} {ts} t r p = ap (λ x. text_at x t.span.start) p.is ∙ text_is p.pre t (ts ++ p.post) (subst Rising p.is r)

dot_seen : {all : List Tok} (t d : Tok) → Rising all → IsMark (codes ".") d → Part all (t ∷ d ∷ []) → before_dot all t.span.start ≡ true
dot_seen t d r m p = ap (begins_mark (codes ".")) (part_behind t r p) ∙ ap (λ w. same_bytes w (codes ".")) m.1

-- ---- `*x` and `(*x)`

some_token : (t : Tok) (ts : List Tok) → t ∷ ts ≢ []
some_token t ts e = absurd (cc)

one_name : (x : List ℕ) → made (star x) ≡ token_at 0 Mark (codes "*") ∷ token_at 1 Identifier x ∷ []
one_name x = refl

all_strengths : {ts : List Tok} {x : Expression} {h : ℕ} → IsOperand true 0 ts x h → IsOperand true 5 ts x h
all_strengths d = g.stronger (g.stronger (g.stronger (g.stronger (g.stronger d))))

starred_unary : (f : Bool) (M : Moving) (t : Tok) (s : Span) → IsName t → Kept (IsUnary f) erase (t ∷ []) 1 (replaced t.span (star t.text) ∷ []) (erase (plain.deref s (plain.var s t.text)))
starred_unary f M t s n =
    keep _ _ _ (calculus.instead (t ∷ []) (star t.text) (some_token t []) refl (star_in_place t n))
    (g.deref (token_at 0 Mark (codes "*")) (token_at 1 Identifier t.text ∷ []) _ _ (refl, refl) (g.postfix (g.primary (g.variable (token_at 1 Identifier t.text) refl refl))) refl) refl (let l : 2 ≤ 130 + (1 + 1 + 1) = omega arith in l)

enclosed_postfix : (f : Bool) (M : Moving) (t : Tok) (s : Span) → IsName t → Kept (IsPostfix f) erase (t ∷ []) 1 (replaced t.span (enclosed_star t.text) ∷ []) (erase (plain.deref s (plain.var s t.text)))
enclosed_postfix f M t s n =
    keep _ _ _ (calculus.instead (t ∷ []) (enclosed_star t.text) (some_token t []) refl (enclosed_in_place t n))
    (g.primary (g.parentheses _ _ _ _ _ (refl, refl) (refl, refl) (g.operand (all_strengths (g.unary
    (g.deref (token_at 1 Mark (codes "*")) (token_at 2 Identifier t.text ∷ []) _ _ (refl, refl) (g.postfix (g.primary (g.variable (token_at 2 Identifier t.text) refl refl))) refl)))) refl)) refl (let l : 3 ≤ 130 + (1 + 1 + 1) = omega arith in l)

variables_low : (s : Span) (xs : Names) → list_levels (made_of.as_expressions (map (plain.var s) xs)) ≤ 1
variables_low s [] = omega arith
variables_low s (x ∷ xs) = let h = variables_low s xs in omega (arith, h)

low_given : (s : Span) (xs : Names) → optional_list_levels (made_of.given (map (plain.var s) xs)) ≤ 1
low_given s [] = omega arith
low_given s (x ∷ xs) = variables_low s (x ∷ xs)

low_jump : (M : Moving) (e : Jump) → Low 1 (expression_levels (jump_of M e))
low_jump M e = let h = low_given M.span e.outs in omega (arith, h)

-- a number without a suffix and a suffix behind it
with_suffix : (k : Kind) {w : List ℕ} {v : ℕ} → IsNumeral w v None → IsNumeral (w ++ kind_name k) v (Some k)
with_suffix k {w} (decimal c cs o d a e) = decimal c cs (Some k) d a (ap (λ x. x ++ kind_name k) e ∙ ap (λ x. c ∷ (x ++ kind_name k)) (append-nil cs))
with_suffix k {w} (based b cs o a d e) = based b cs (Some k) a d (ap (λ x. x ++ kind_name k) e ∙ append_assoc (prefix b) (cs ++ []) (kind_name k) ∙ ap (λ x. prefix b ++ (x ++ kind_name k)) (append-nil cs))

long_starred : (M : Moving) (t : Tok) (s : Span) → IsName t → Kept IsField field_view (t ∷ []) 1 (replaced t.span (long_field t.text) ∷ []) (erase_ident (ident t), erase (plain.deref s (plain.var s t.text)))
long_starred M t s n =
    keep _ _ _ (calculus.instead (t ∷ []) (long_field t.text) (some_token t []) refl (long_in_place t n))
    (g.long_field (token_at 0 Identifier t.text) _ _ _ _ refl (refl, refl) (g.operand (all_strengths (g.unary
    (g.deref _ _ _ _ (refl, refl) (g.postfix (g.primary (g.variable _ refl refl))) refl)))) refl) refl (let l : 2 ≤ 130 + (1 + 1 + 1) = omega arith in l)

kept_unary : (f : Bool) (t : Tok) → IsName t → Kept (IsUnary f) erase (t ∷ []) 1 [] (erase (plain.var t.span t.text))
kept_unary f t n = keep _ _ _ (calculus.kept (t ∷ [])) (g.postfix (g.primary (g.variable t n refl))) refl (let l : 1 ≤ 130 + (1 + 1 + 1) = omega arith in l)

kept_postfix : (f : Bool) (t : Tok) → IsName t → Kept (IsPostfix f) erase (t ∷ []) 1 [] (erase (plain.var t.span t.text))
kept_postfix f t n = keep _ _ _ (calculus.kept (t ∷ [])) (g.primary (g.variable t n refl)) refl (let l : 1 ≤ 130 + (1 + 1 + 1) = omega arith in l)

pub kept_short : (t : Tok) → IsName t → Kept IsField field_view (t ∷ []) 1 [] (erase_ident (ident t), erase (plain.var t.span t.text))
kept_short t n = keep _ _ _ (calculus.kept (t ∷ [])) (g.short_field t n refl) refl (let l : 1 ≤ 130 + (1 + 1 + 1) = omega arith in l)

open_group : (xs vs : List Tok) (z c : Tok) → xs ++ (z ∷ (vs ++ c ∷ [])) ≡ ((xs ++ z ∷ []) ++ vs) ++ c ∷ []
open_group xs vs z c = sym (append_assoc (xs ++ z ∷ []) vs (c ∷ []) ∙ append_assoc xs (z ∷ []) (vs ++ c ∷ []))

-- tokens that are derived as this tree
record Derived (ts : List Tok) (x : Expression) (h : ℕ) : Type 0 where
  tree : Expression
  derived_so : IsExpression ts tree h
  same : erase tree ≡ x

derived : {ts : List Tok} {x : Expression} {h : ℕ} (y : Expression) → IsExpression ts y h → erase y ≡ x → Derived ts x h
derived y d e = record { tree = y; derived_so = d; same = e }

-- `return { let n: () = xs; e::v }`
block_derived : (t o l n k a b q z e p v c : Tok) (xs : List Tok) (y : Expression) (h : ℕ) → IsKeyword (codes "return") t → IsMark (codes "{") o → IsKeyword (codes "let") l → IsName n → IsMark (codes ":") k
    → IsMark (codes "(") a → IsMark (codes ")") b → IsMark (codes "=") q → IsMark (codes ";") z → IsName e → IsMark (codes "::") p → IsName v → IsMark (codes "}") c → IsExpression xs y h → (g.BeginsLike (e ∷ p ∷ v ∷ []) → ⊥)
    → Derived (t ∷ o ∷ l ∷ n ∷ k ∷ a ∷ b ∷ q ∷ (xs ++ (z ∷ e ∷ p ∷ v ∷ c ∷ [])))
    (plain.return nowhere (plain.present (plain.block nowhere (plain.body nowhere
    (plain.statement_and (plain.let_statement nowhere (plain.bind nowhere (erase_ident (ident n)) false) (Some (plain.tuple_type nowhere plain.no_type)) (plain.present (erase y))) plain.no_statement)
    (plain.present (plain.variant nowhere (erase_ident (ident e)) (erase_ident (ident v)) plain.no_list)))))) (suc (suc (suc (max (max (max 1 1) h) 1))))
block_derived t o l n k a b q z e p v c xs y h st so sl sn sk sa sb sq sz se sp sv sc d nb =
    derived _ (g.return_with t _ _ _ st (g.operand (all_strengths (g.unary (g.postfix (g.primary (g.like (g.block _ _
    (g.braces o c _ _ _ _ so sc
    (g.statement_and (l ∷ n ∷ k ∷ a ∷ b ∷ q ∷ (xs ++ z ∷ [])) (e ∷ p ∷ v ∷ []) _ [] _ _ _
    (g.let_with l q z (n ∷ []) (k ∷ a ∷ b ∷ []) xs _ _ y 1 1 h sl sq sz (pattern.binding n sn refl) (g.with_type k (a ∷ b ∷ []) _ 1 sk (type.unit a b sa sb refl) refl) d refl)
    (g.tail (g.operand (all_strengths (g.unary (g.postfix (g.primary (g.variant e p v se sp sv refl)))))) nb) refl)
    (ap (λ w. o ∷ l ∷ n ∷ k ∷ a ∷ b ∷ q ∷ w) (open_group xs (e ∷ p ∷ v ∷ []) z c)))))))))) refl) refl

six_behind : (at start : ℕ) → at ≡ start + 6 → (at == suc (suc (suc (suc (suc (suc start)))))) ≡ true
six_behind at start e = let h : at ≡ suc (suc (suc (suc (suc (suc start))))) = omega (arith, e) in ap (λ n. n == suc (suc (suc (suc (suc (suc start)))))) h ∙ self (suc (suc (suc (suc (suc (suc start))))))

module _ (M : Moving) (all : List Tok) (rising : Rising all) where
  edits_at : EditsAt
  edits_at = run_edits M all

  either_star : (f : Bool) (t : Tok) (b : Bool) → IsName t → Kept (IsUnary f) erase (t ∷ []) 1 (replaced t.span (if b then enclosed_star t.text else star t.text) ∷ []) (erase (plain.deref M.span (plain.var t.span t.text)))
  either_star f t true n = recast (λ us y k. g.postfix) (enclosed_postfix f M t M.span n)
  either_star f t false n = starred_unary f M t M.span n

  pub variable_fits : (f : Bool) (own : Names) (t : Tok) → IsName t
      → Kept (IsUnary f) erase (t ∷ []) 1 ((run_edits M all).at_variable own false t.span t.text) (erase ((run_changes M).at_variable own t.span t.text))
  variable_fits f own t n = by (is_starred M own t.text)
    where
      by : (b : Bool) → Kept (IsUnary f) erase (t ∷ []) 1 (if b then replaced t.span (star_at all false t.span t.text) ∷ [] else []) (erase (if b then plain.deref M.span (plain.var t.span t.text) else plain.var t.span t.text))
      by true = either_star f t (enclosed_at all t.span) n
      by false = kept_unary f t n

  pub before_dot_fits : (f : Bool) (own : Names) (t d : Tok) → IsName t → IsMark (codes ".") d → Part all (t ∷ d ∷ [])
      → Kept (IsPostfix f) erase (t ∷ []) 1 ((run_edits M all).at_variable own false t.span t.text) (erase ((run_changes M).at_variable own t.span t.text))
  before_dot_fits f own t d n m p = by (is_starred M own t.text)
    where
      seen : enclosed_at all t.span ≡ true
      seen = or_left (before_dot all t.span.start) (after_slash all t.span.start) (dot_seen t d rising m p)

      by : (b : Bool) → Kept (IsPostfix f) erase (t ∷ []) 1 (if b then replaced t.span (star_at all false t.span t.text) ∷ [] else []) (erase (if b then plain.deref M.span (plain.var t.span t.text) else plain.var t.span t.text))
      by true = subst (λ c. Kept (IsPostfix f) erase (t ∷ []) 1 (replaced t.span (if c then enclosed_star t.text else star t.text) ∷ []) (erase (plain.deref M.span (plain.var t.span t.text)))) (sym seen) (enclosed_postfix f M t M.span n)
      by false = kept_postfix f t n

  pub short_fits : (own : Names) (t : Tok) → IsName t
      → Kept IsField field_view (t ∷ []) 1 ((run_edits M all).at_variable own true t.span t.text) (erase_ident (ident t), erase ((run_changes M).at_variable own t.span t.text))
  short_fits own t n = by (is_starred M own t.text)
    where
      by : (b : Bool) → Kept IsField field_view (t ∷ []) 1 (if b then replaced t.span (long_field t.text) ∷ [] else []) (erase_ident (ident t), erase (if b then plain.deref M.span (plain.var t.span t.text) else plain.var t.span t.text))
      by true = long_starred M t M.span n
      by false = kept_short t n

  -- ---- jumps

  pub jump_fits : (ts : List Tok) (e : Jump) → ts ≢ [] → begins_run ts ≡ true → ends_run ts ≡ true → Formed (jump_of M e) → Kept IsExpression erase ts 1 (replaced (span_of ts) (returned M e) ∷ []) (erase (jump_of M e))
  jump_fits ts e n b l f =
      let r = (expression_reads (jump_of M e) 0 f).whole 0 in
      keep _ _ _ (calculus.instead ts (returned M e) n refl (jump_in_place M e ts f b l)) r.derived r.same (low_jump M e)

  pub leaving_fits : (ts : List Tok) (x : Expression) (o : Option Jump) → ts ≢ [] → begins_run ts ≡ true → ends_run ts ≡ true → ((e : Jump) → o ≡ Some e → Formed (jump_of M e)) → IsExpression ts x 1
      → Kept IsExpression erase ts 1 (jump_edits M (span_of ts) o) (erase (jump_or M x o))
  leaving_fits ts x None n b l f d = keep _ _ _ (calculus.kept ts) d refl (let m : 1 ≤ 130 + (1 + 1 + 1) = omega arith in m)
  leaving_fits ts x (Some e) n b l f d = jump_fits ts e n b l (f e refl)

  -- ---- round the operand of a return

  -- a variant round it
  handed_derived : (k : ℕ) (t : Tok) (xs : List Tok) (y : Expression) (h : ℕ) → IsKeyword (codes "return") t → IsExpression xs y h
      → Derived (t ∷ (places k (variant_of M (codes "Return") ++ mark (codes "(") ∷ []) ++ (xs ++ places 0 (mark (codes ")") ∷ [])))) (plain.return nowhere (plain.present (plain.variant nowhere (erase_ident (made_of.ident M.span M.enum)) (erase_ident (made_of.ident M.span (codes "Return"))) (plain.a_list (plain.expression_and (erase y) plain.no_expression))))) (suc (suc h))
  handed_derived k t xs y h s d =
      derived _ (g.return_with t _ _ _ s (g.operand (all_strengths (g.unary (g.postfix (g.primary (g.variant_with _ _ _ _ _ xs y [] h refl (refl, refl) refl (refl, refl) (refl, refl) (g.last_argument d) refl)))))) refl) refl

  -- a block that evaluates it first
  first_derived : (k : ℕ) (t : Tok) (xs : List Tok) (y : Expression) (h : ℕ) → IsKeyword (codes "return") t → IsExpression xs y h
      → Derived (t ∷ (places k (first_opening M) ++ (xs ++ places 0 (first_closing M)))) (plain.return nowhere (plain.present (erase (first_done M y)))) (suc (suc (suc (max (max (max 1 1) h) 1))))
  first_derived k t xs y h s d =
      block_derived t _ _ _ _ _ _ _ _ _ _ _ _ xs y h s (refl, refl) (refl, refl) refl (refl, refl) (refl, refl) (refl, refl) (refl, refl) (refl, refl) refl (refl, refl) refl (refl, refl) d
      (λ b. false≢true (tokens_begin (variant_of M (codes "Return")) 2 b))

  abbrev spaced_at : Bool → ℕ
  spaced_at true = 1
  spaced_at false = 0

  spaced_made : (b : Bool) (ps : List Piece) → made (spaced b ps) ≡ places (spaced_at b) ps
  spaced_made true ps = refl
  spaced_made false ps = refl

  round_derived : (b : Bool) (k : ℕ) (t : Tok) (s : Span) (xs : List Tok) (x y : Expression) (h j : ℕ) → IsKeyword (codes "return") t → IsExpression xs y j → erase y ≡ erase x → Low h j
      → (n : ℕ) × Derived (t ∷ (places k (if b then first_opening M else variant_of M (codes "Return") ++ mark (codes "(") ∷ []) ++ (xs ++ places 0 (if b then first_closing M else mark (codes ")") ∷ []))))
      (plain.return nowhere (plain.present (erase (if b then first_done M x else handed_over M x)))) n × Low (suc h) n
  round_derived true k t s xs x y h j m d e l =
      let r = first_derived k t xs y j m d in (
        suc (suc (suc (max (max (max 1 1) j) 1))),
        derived r.tree r.derived_so (r.same ∙ ap (λ (z : Expression). plain.return nowhere (plain.present (plain.block nowhere (plain.body nowhere
            (plain.statement_and (plain.let_statement nowhere (plain.bind nowhere (erase_ident (made_of.ident M.span M.out_0)) false) (Some (plain.tuple_type nowhere plain.no_type)) (plain.present z)) plain.no_statement)
            (plain.present (plain.variant nowhere (erase_ident (made_of.ident M.span M.enum)) (erase_ident (made_of.ident M.span (codes "Return"))) plain.no_list)))))) e),
        omega (arith, l),
      )
  round_derived false k t s xs x y h j m d e l =
      let r = handed_derived k t xs y j m d in (
        suc (suc j),
        derived r.tree r.derived_so (r.same ∙ ap (λ (z : Expression). plain.return nowhere (plain.present (plain.variant nowhere (erase_ident (made_of.ident M.span M.enum)) (erase_ident (made_of.ident M.span (codes "Return")))
            (plain.a_list (plain.expression_and z plain.no_expression))))) e),
        omega (arith, l),
      )

  pub return_fits : is_identifier M.enum ≡ true → is_identifier M.out_0 ≡ true → (t : Tok) (us : List Tok) (h : ℕ) (es : List Edit) (x : Expression) → IsKeyword (codes "return") t → us ≢ [] → Part all (t ∷ us) → Kept IsExpression erase us h es (erase x)
      → Kept IsExpression erase (t ∷ us) (suc h) ((run_edits M all).at_return_with (span_of (t ∷ us)) es) (erase ((run_changes M).at_return (span_of (t ∷ us)) (plain.present x)))
  return_fits i j t [] h es x s n p r = absurd (n refl)
  return_fits i j t (u ∷ us) h es x s n p r =
      let at = next_start all t.span.start in
      let b = at == suc (suc (suc (suc (suc (suc t.span.start))))) in
      let here : at ≡ u.span.start = ap (first_start t.span.start) (part_behind t rising p) in
      let q : u.span.start ≡ t.span.start + length t.text → b ≡ true = λ e. six_behind at t.span.start (here ∙ e ∙ (let l : length t.text ≡ 6 = ap length s.1 in ap (λ m. t.span.start + m) l)) in
      let d = round_derived M.unit (spaced_at b) t t.span r.tokens x r.tree h r.height s r.derived r.same r.low in
      keep _ _ _
      (subst (λ a. Edited (put a (spaced b (opening M)) ∷ (es ++ put (span_of (u ∷ us)).end (closing M) ∷ [])) (t ∷ u ∷ us) (t ∷ (places (spaced_at b) (opening M) ++ (r.tokens ++ made (closing M))))) (sym here)
      (subst (λ l. Edited (put u.span.start (spaced b (opening M)) ∷ (es ++ put (span_of (u ∷ us)).end (closing M) ∷ [])) (t ∷ u ∷ us) (t ∷ (l ++ (r.tokens ++ made (closing M))))) (spaced_made b (opening M))
      (calculus.between t u (spaced b (opening M)) (opening_fits M t u b i j s q) (calculus.behind (closing M) n (closing_closes M i) r.edited))))
      d.1.derived_so d.1.same d.2

  -- ---- suffixes

  pub number_fits : (f : Bool) (t : Tok) (v : ℕ) (k : Option Kind) → IsNumber t v k → Part all (t ∷ [])
      → Kept (IsPrimary f) erase (t ∷ []) 1 ((run_edits M all).at_int t.span k) (erase (plain.int t.span v ((run_changes M).at_int t.span k)))
  number_fits f t v (Some k) n p = keep _ _ _ (calculus.kept (t ∷ [])) (g.number t v (Some k) n refl) refl (let l : 1 ≤ 130 + (1 + 1 + 1) = omega arith in l)
  number_fits f t v None n p = by (M.kind t.span)
    where
      by : (o : Option Kind) → Kept (IsPrimary f) erase (t ∷ []) 1 (suffix_edits all t.span o) (plain.int nowhere v o)
      by None = keep _ _ _ (calculus.kept (t ∷ [])) (g.number t v None n refl) refl (let l : 1 ≤ 130 + (1 + 1 + 1) = omega arith in l)
      by (Some k) =
          let numeral : IsNumeral (text_at all t.span.start ++ kind_name k) v (Some k) = subst (λ w. IsNumeral (w ++ kind_name k) v (Some k)) (sym (part_text t rising p)) (with_suffix k n.numeral) in
          keep _ _ _ (calculus.instead (t ∷ []) (word Number (text_at all t.span.start ++ kind_name k) ∷ []) (some_token t []) refl (number_in_place t (text_at all t.span.start ++ kind_name k) n.class numeral n.fits))
          (g.number (token_at 0 Number (text_at all t.span.start ++ kind_name k)) v (Some k) (record { class = refl; numeral = numeral; fits = n.fits }) refl) refl (let l : 1 ≤ 130 + (1 + 1 + 1) = omega arith in l)
