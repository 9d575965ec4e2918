-- The end of a run with a value: `E::Next(e, outs)`, or `let out_0: T = e;`, from the tokens of e.
use Rattle.std.proofs.Common.{◌≡◌, ℕ, suc, ◌+◌, ◌≤◌, max, true, false, List, map, [], ◌∷◌, ◌++◌, Some, codes, length, refl, sym, ap, subst, ◌∙◌, arith, append_assoc, append-nil}
use Rattle.rx_core.specs.declared.types.Span.{Span}
use Rattle.rx_tree.specs.Plain as plain
use Rattle.rx_tree.specs.Plain.{TypeTree, Expression, Expressions, Statement}
use Rattle.rx_tree.specs.PlainOf.{expressions_of}
use Rattle.rx_tree.specs.Erase.{nowhere, erase, erase_ident, erase_all, erase_statement}
use Rattle.rx_lex.specs.declared.token.Class.TheVariants.{Identifier, Keyword, Lifetime, Mark}
use Rattle.rx_lex.specs.Tok.{Tok}
use Rattle.rx_lex.specs.Tokens.{token_at}
use Rattle.rx_parse_grammar.specs.grammar.Words.{span_of, ident}
use Rattle.rx_parse_grammar.specs.grammar.Patterns as pattern
use Rattle.rx_parse_grammar.specs.grammar.Expressions as g
use Rattle.rx_parse_grammar.specs.grammar.Expressions.{IsExpression, IsOperand, AreArguments, IsStatement, BeginsLike}
use Rattle.rx_print_spelling.specs.Pieces.{Piece, mark, keyword, identifier, space}
use Rattle.rx_print_spelling.specs.Types.{written_type}
use Rattle.rx_print_spelling.specs.Formed.{FormedType}
use Rattle.rx_print_spelling.specs.Levels.{type_levels}
use Rattle.rx_print_spelling.proofs.Pieces.{places, past, places-append}
use Rattle.rx_print_spelling.proofs.TypesRead.{type_reads}
use Rattle.rx_hoist_extraction.specs.Names.{Names}
use Rattle.rx_hoist_extraction.specs.Made as made_of
use Rattle.rx_hoist_extraction.specs.Made.{variant, let_typed, as_expressions}
use Rattle.rx_splice_laws.specs.RunEnd.{more_outs}
use Rattle.rx_splice_laws.proofs.Edited.{made}

all_strengths : {ts : List Tok} {x : Expression} {h : ℕ} → IsOperand true 0 ts x h → IsOperand true 5 ts x h
all_strengths d = g.stronger (g.stronger (g.stronger (g.stronger (g.stronger d))))

-- ---- the arguments

record Given (ts : List Tok) (want : Expressions) (h : ℕ) : Type 0 where
  first : Expression
  rest : List Expression
  levels : ℕ
  derived : AreArguments ts (first ∷ rest) levels
  same : erase_all (expressions_of (first ∷ rest)) ≡ want
  low : levels ≤ h

name_expression : (t : Tok) → t.class ≡ Identifier → IsExpression (t ∷ []) (plain.var (span_of (t ∷ [])) t.text) 1
name_expression t n = g.operand (all_strengths (g.unary (g.postfix (g.primary (g.variable t n refl)))))

names_given : (r : Span) (vs : List Tok) (e : Expression) (n : ℕ) → IsExpression vs e n → (xs : Names) (k : ℕ) → Given (vs ++ places k (more_outs xs)) (erase_all (as_expressions (e ∷ map (plain.var r) xs))) (max n 1)
names_given r vs e n d [] k = record {
  first = e;
  rest = [];
  levels = n;
  derived = subst (λ x. AreArguments x (e ∷ []) n) (sym (append-nil vs)) (g.last_argument d);
  same = refl;
  low = omega arith;
}
names_given r vs e n d (x ∷ xs) k =
    let at = (k + length (codes ",")) + length {A = ℕ} (32 ∷ []) in
    let t = token_at at Identifier x in
    behind_comma (names_given r (t ∷ []) (plain.var (span_of (t ∷ [])) x) 1 (name_expression t refl) xs (at + length x))
  where
    behind_comma : Given (token_at ((k + length (codes ",")) + length {A = ℕ} (32 ∷ [])) Identifier x ∷ places (((k + length (codes ",")) + length {A = ℕ} (32 ∷ [])) + length x) (more_outs xs)) (erase_all (as_expressions (plain.var r x ∷ map (plain.var r) xs))) (max 1 1)
        → Given (vs ++ places k (more_outs (x ∷ xs))) (erase_all (as_expressions (e ∷ map (plain.var r) (x ∷ xs)))) (max n 1)
    behind_comma a = record {
      first = e;
      rest = a.first ∷ a.rest;
      levels = max n a.levels;
      derived = g.argument_and vs _ (token_at k Mark (codes ",")) e (a.first ∷ a.rest) n a.levels d (refl, refl) a.derived refl;
      same = ap (λ (z : Expressions). plain.expression_and (erase e) z) a.same;
      low = let l = a.low in omega (arith, l);
    }

-- ---- a variant round it

pub record Derived (ts : List Tok) (want : Expression) (h : ℕ) : Type 0 where
  pub tree : Expression
  pub levels : ℕ
  pub derived : IsExpression ts tree levels
  pub no_like : BeginsLike ts → ⊥
  pub same : erase tree ≡ want
  pub low : levels ≤ h

no_begin : (t : Tok) (us : List Tok) → t.class ≡ Identifier → BeginsLike (t ∷ us) → ⊥
no_begin t us n (g.with_brace m) = let h : Identifier ≡ Mark = sym n ∙ m.0 in absurd (cc)
no_begin t us n (g.with_if m) = let h : Identifier ≡ Keyword = sym n ∙ m.0 in absurd (cc)
no_begin t us n (g.with_match m) = let h : Identifier ≡ Keyword = sym n ∙ m.0 in absurd (cc)
no_begin t us n (g.with_loop m) = let h : Identifier ≡ Keyword = sym n ∙ m.0 in absurd (cc)
no_begin t us n (g.with_while m) = let h : Identifier ≡ Keyword = sym n ∙ m.0 in absurd (cc)
no_begin t us n (g.with_label m) = let h : Identifier ≡ Lifetime = sym n ∙ m.0 in absurd (cc)

abbrev pub variant_opening : List ℕ → List ℕ → List Piece
variant_opening enum v = identifier enum ∷ mark (codes "::") ∷ identifier v ∷ mark (codes "(") ∷ []

abbrev pub variant_closing : Names → List Piece
variant_closing xs = more_outs xs ++ mark (codes ")") ∷ []

pub variant_read : (r : Span) (enum v : List ℕ) (vs : List Tok) (e : Expression) (n : ℕ) (xs : Names) → IsExpression vs e n
    → Derived (made (variant_opening enum v) ++ (vs ++ made (variant_closing xs))) (erase (variant r enum v (e ∷ map (plain.var r) xs))) (suc (max n 1))
variant_read r enum v vs e n xs d = round (names_given r vs e n d xs 0)
  where
    round : Given (vs ++ places 0 (more_outs xs)) (erase_all (as_expressions (e ∷ map (plain.var r) xs))) (max n 1)
        → Derived (made (variant_opening enum v) ++ (vs ++ made (variant_closing xs))) (erase (variant r enum v (e ∷ map (plain.var r) xs))) (suc (max n 1))
    round a =
        let c = token_at (past 0 (more_outs xs)) Mark (codes ")") in
        let us = vs ++ places 0 (more_outs xs) in
        let i : made (variant_opening enum v) ++ (vs ++ made (variant_closing xs)) ≡ made (variant_opening enum v) ++ (us ++ c ∷ []) =
        ap (λ x. made (variant_opening enum v) ++ (vs ++ x)) (places-append 0 (more_outs xs) (mark (codes ")") ∷ [])) ∙ ap (λ x. made (variant_opening enum v) ++ x) (sym (append_assoc vs (places 0 (more_outs xs)) (c ∷ []))) in
        record {
          tree = _;
          levels = suc a.levels;
          derived = g.operand (all_strengths (g.unary (g.postfix (g.primary (g.variant_with _ _ _ _ c us a.first a.rest a.levels refl (refl, refl) refl (refl, refl) (refl, refl) a.derived i)))));
          no_like = λ b. no_begin _ _ refl b;
          same = ap (λ (z : Expressions). plain.variant nowhere (erase_ident (made_of.ident r enum)) (erase_ident (made_of.ident r v)) (plain.a_list z)) a.same;
          low = let l = a.low in omega (arith, l);
        }

-- ---- a `let` for it

abbrev pub let_opening : List ℕ → TypeTree → List Piece
let_opening x t = keyword (codes "let") ∷ space ∷ identifier x ∷ (written_type t ++ (space ∷ mark (codes "=") ∷ space ∷ []))

pub record LetOf (ts : List Tok) (want : Statement) (h : ℕ) : Type 0 where
  pub statement : Statement
  pub levels : ℕ
  pub derived : IsStatement ts statement levels
  pub same : erase_statement statement ≡ want
  pub low : levels ≤ h

pub let_read : (r : Span) (x : List ℕ) (t : TypeTree) (vs : List Tok) (e : Expression) (n : ℕ) → FormedType t → IsExpression vs e n
    → LetOf (made (let_opening x t) ++ (vs ++ made (mark (codes ";") ∷ []))) (erase_statement (let_typed r x t e)) (max (max 1 (type_levels t)) n)
let_read r x t vs e n f d =
    let k = (0 + length (codes "let") + length {A = ℕ} (32 ∷ [])) + length x in
    let a = (type_reads t f).alone ((k + length (codes ":")) + length {A = ℕ} (32 ∷ [])) in
    let q = token_at (past k (written_type t) + length {A = ℕ} (32 ∷ [])) Mark (codes "=") in
    let z = token_at 0 Mark (codes ";") in
    let ys = places k (written_type t) in
    let i : places k (written_type t ++ (space ∷ mark (codes "=") ∷ space ∷ [])) ++ (vs ++ z ∷ []) ≡ ys ++ (q ∷ (vs ++ z ∷ [])) =
    ap (λ w. w ++ (vs ++ z ∷ [])) (places-append k (written_type t) (space ∷ mark (codes "=") ∷ space ∷ [])) ∙ append_assoc ys (q ∷ []) (vs ++ z ∷ []) in
    let l = token_at 0 Keyword (codes "let") in
    let m = token_at (0 + length (codes "let") + length {A = ℕ} (32 ∷ [])) Identifier x in
    record {
      statement = _;
      levels = max (max 1 (type_levels t)) n;
      derived = g.let_with l q z (m ∷ []) ys vs (plain.bind (span_of (m ∷ [])) (ident m) false) (Some a.tree) e 1 (type_levels t) n (refl, refl) (refl, refl) (refl, refl)
          (pattern.binding m refl refl) (g.with_type (token_at k Mark (codes ":")) _ a.tree (type_levels t) (refl, refl) a.derived refl) d (ap (λ w. l ∷ m ∷ w) i);
      same = ap (λ (y : TypeTree). plain.let_statement nowhere (plain.bind nowhere (erase_ident (made_of.ident r x)) false) (Some y) (plain.present (erase e))) a.same;
      low = omega arith;
    }
