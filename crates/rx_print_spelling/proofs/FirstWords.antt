-- The first word of what an expression is spelled with begins one that ends in a block exactly where the expression does: by recursion on the tree.
use Rattle.std.proofs.Common.{◌≡◌, ℕ, Bool, true, false, List, [], ◌∷◌, ◌++◌, Option, Some, None, codes, refl, ap, ◌∙◌, append_assoc}
use Rattle.std.specs.Prelude.{not, ◌&&◌}
use Rattle.rx_core.specs.Bytes.{same_bytes, is_one_of}
use Rattle.rx_tree.specs.declared.tree.Ident.{Ident}
use Rattle.rx_tree.specs.Plain as plain
use Rattle.rx_tree.specs.Plain.{Expression}
use Rattle.rx_lex.specs.declared.token.Class.{Class}
use Rattle.rx_lex.specs.declared.token.Class.TheVariants.{Keyword, Lifetime, Mark}
use Rattle.rx_lex.specs.Tok.{Tok}
use Rattle.rx_parse_grammar.specs.grammar.Expressions as g
use Rattle.rx_parse_grammar.specs.grammar.Expressions.{BeginsLike}
use Rattle.rx_print_spelling.specs.Pieces.{Piece, word, blanks, enclosed, with_ampersand}
use Rattle.rx_print_spelling.specs.Places.{shown, too_weak, left_strength, begins, placed}
use Rattle.rx_print_spelling.specs.Expressions.{pieces, label_pieces, is_borrow}
use Rattle.rx_print_spelling.proofs.Pieces.{places}

abbrev pub word_begins : Class → List ℕ → Bool
word_begins Keyword w = is_one_of w (codes "if" ∷ codes "match" ∷ codes "loop" ∷ codes "while" ∷ [])
word_begins Mark w = same_bytes w (codes "{")
word_begins Lifetime w = true
word_begins _ w = false

abbrev pub first_begins : List Piece → Bool
first_begins [] = false
first_begins (word c w ∷ ps) = word_begins c w
first_begins (blanks b ∷ ps) = first_begins ps

token_begins : (t : Tok) (us : List Tok) → BeginsLike (t ∷ us) → word_begins t.class t.text ≡ true
token_begins t us (g.with_brace m) = ap (λ c. word_begins c t.text) m.0 ∙ ap (word_begins Mark) m.1
token_begins t us (g.with_if m) = ap (λ c. word_begins c t.text) m.0 ∙ ap (word_begins Keyword) m.1
token_begins t us (g.with_match m) = ap (λ c. word_begins c t.text) m.0 ∙ ap (word_begins Keyword) m.1
token_begins t us (g.with_loop m) = ap (λ c. word_begins c t.text) m.0 ∙ ap (word_begins Keyword) m.1
token_begins t us (g.with_while m) = ap (λ c. word_begins c t.text) m.0 ∙ ap (word_begins Keyword) m.1
token_begins t us (g.with_label m) = ap (λ c. word_begins c t.text) m.0

pub tokens_begin : (ps : List Piece) (at : ℕ) → BeginsLike (places at ps) → first_begins ps ≡ true
tokens_begin [] at d = elim d [ ]
tokens_begin (word c w ∷ ps) at d = token_begins _ _ d
tokens_begin (blanks b ∷ ps) at d = tokens_begin ps _ d

-- ---- the first word of an expression

enclosed_begin : (b : Bool) (ps rest : List Piece) (c : Bool) → first_begins (ps ++ rest) ≡ c → first_begins (enclosed b ps ++ rest) ≡ shown b c
enclosed_begin true ps rest c e = refl
enclosed_begin false ps rest c e = e

-- the operand on the left
left_begins : (place : ℕ) (e : Expression) (ps qs rest : List Piece) → first_begins (ps ++ (qs ++ rest)) ≡ begins e
    → first_begins ((placed place e ps ++ qs) ++ rest) ≡ shown (too_weak place e) (begins e)
left_begins place e ps qs rest h =
    ap first_begins (append_assoc (placed place e ps) qs rest) ∙ enclosed_begin (too_weak place e) ps (qs ++ rest) (begins e) h

truth_begins : (b : Bool) (rest : List Piece) → first_begins (pieces false 0 (plain.bool (record { start = 0; end = 0 }) b) ++ rest) ≡ false
truth_begins true rest = refl
truth_begins false rest = refl

label_begins : (l : Option Ident) (ps rest : List Piece) → first_begins (ps ++ rest) ≡ true → first_begins ((label_pieces l ++ ps) ++ rest) ≡ true
label_begins None ps rest e = e
label_begins (Some l) ps rest e = refl

ampersand_begins : (b : Bool) (ps qs rest : List Piece) → first_begins (with_ampersand b ps qs ++ rest) ≡ false
ampersand_begins true ps qs rest = refl
ampersand_begins false ps qs rest = refl

pub expression_begins : (e : Expression) (depth : ℕ) (rest : List Piece) → first_begins (pieces false depth e ++ rest) ≡ begins e
expression_begins (plain.int s v k) depth rest = refl
expression_begins (plain.bool s b) depth rest = truth_begins b rest
expression_begins (plain.tuple s es) depth rest = refl
expression_begins (plain.var s x) depth rest = refl
expression_begins (plain.field s e n) depth rest = left_begins 0 e (pieces false depth e) _ rest (expression_begins e depth _)
expression_begins (plain.part s e i) depth rest = left_begins 0 e (pieces false depth e) _ rest (expression_begins e depth _)
expression_begins (plain.deref s e) depth rest = refl
expression_begins (plain.negate s e) depth rest = refl
expression_begins (plain.invert s e) depth rest = refl
expression_begins (plain.borrow s m e) depth rest = ampersand_begins (not m && is_borrow e) _ _ rest
expression_begins (plain.binary s o a b) depth rest = left_begins (left_strength o) a (pieces false depth a) _ rest (expression_begins a depth _)
expression_begins (plain.assign s a b) depth rest = left_begins 6 a (pieces false depth a) _ rest (expression_begins a depth _)
expression_begins (plain.update s o a b) depth rest = left_begins 6 a (pieces false depth a) _ rest (expression_begins a depth _)
expression_begins (plain.call s f es) depth rest = refl
expression_begins (plain.next_input s) depth rest = refl
expression_begins (plain.variant s a v es) depth rest = refl
expression_begins (plain.make s n fs) depth rest = refl
expression_begins (plain.print s e) depth rest = refl
expression_begins (plain.block s (plain.body r ss y)) depth rest = refl
expression_begins (plain.if s c b y) depth rest = refl
expression_begins (plain.if_let s p e b y) depth rest = refl
expression_begins (plain.match s e as') depth rest = refl
expression_begins (plain.loop s l b) depth rest = label_begins l _ rest refl
expression_begins (plain.while s l c b) depth rest = label_begins l _ rest refl
expression_begins (plain.while_let s l p e b) depth rest = label_begins l _ rest refl
expression_begins (plain.break s l) depth rest = refl
expression_begins (plain.continue s l) depth rest = refl
expression_begins (plain.return s y) depth rest = refl
