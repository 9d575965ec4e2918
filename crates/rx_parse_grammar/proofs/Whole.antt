-- What a parser says of all tokens.
use Rattle.std.proofs.Common.{◌≡◌, ℕ, zero, suc, ◌≤◌, max, List, [], ◌∷◌, ◌++◌, length, Ok, refl, sym, ap, subst, ◌∙◌, arith, append-nil}
use Rattle.rx_tree.specs.Plain.{TypeTree, PatternTree, Expression, ItemTree, ProgramTree}
use Rattle.rx_lex.specs.Tok.{Tok}
use Rattle.rx_parse_grammar.specs.grammar.Words.{span_of}
use Rattle.rx_parse_grammar.specs.grammar.Types.{IsType}
use Rattle.rx_parse_grammar.specs.grammar.Patterns.{IsPattern}
use Rattle.rx_parse_grammar.specs.grammar.Expressions.{IsExpression}
use Rattle.rx_parse_grammar.specs.grammar.Items.{IsFile, Parses}
use Rattle.rx_parse_grammar.specs.declared.symbol.Symbol.TheVariants as symbol
use Rattle.rx_parse_grammar.specs.parser.Symbols.{peek}
use Rattle.rx_parse_grammar.specs.parser.Steps.{Parser, Got, sees}
use Rattle.rx_parse_grammar.specs.parser.Types.{typ}
use Rattle.rx_parse_grammar.specs.parser.Patterns.{pattern}
use Rattle.rx_parse_grammar.specs.parser.Blocks.{whole}
use Rattle.rx_parse_grammar.specs.parser.Items.{file, items_from, item}
use Rattle.rx_parse_grammar.proofs.Reading.{Reads, got}
use Rattle.rx_parse_grammar.proofs.SymbolLemmas.{sees_is, not_end}
use Rattle.rx_parse_grammar.proofs.Deriving.{Derives, Fits, okay, same_pair, two, chosen}
use Rattle.rx_parse_grammar.proofs.TypesRead.{type_complete}
use Rattle.rx_parse_grammar.proofs.TypesDerived.{type_sound}
use Rattle.rx_parse_grammar.proofs.PatternsRead.{pattern_complete}
use Rattle.rx_parse_grammar.proofs.PatternsDerived.{pattern_sound}
use Rattle.rx_parse_grammar.proofs.ExpressionsRead.{expression_complete}
use Rattle.rx_parse_grammar.proofs.BlocksDerived.{deeper_derived}
use Rattle.rx_parse_grammar.proofs.ItemsRead.{file_complete}
use Rattle.rx_parse_grammar.proofs.ItemsDerived.{file_sound}
use Rattle.rx_lex.proofs.TokenLaws.{lexes_one}

pub all_read : {A : Type 0} (p : Parser A) (ts : List Tok) (x : A) → Reads p ts x [] → p ts ≡ Ok (x, [])
all_read p ts x r = ap p (sym (append-nil ts)) ∙ r.read

pub all_derived : {A : Type 0} (p : Parser A) (E : List Tok → A → Type 0) (ts : List Tok) (x : A) → Derives p E → p ts ≡ Ok (x, []) → E ts x
all_derived p E ts x d e = let f = d.derive ts [] x e in subst (λ z. E z x) (sym (append-nil f.ts) ∙ sym f.is) f.part

-- what is read in one way is one
one_read : {A : Type 0} (p : ℕ → Parser (Got A)) (ts : List Tok) (x y : A) (g h : ℕ) → ((d : ℕ) → g ≤ d → Reads (p d) ts (got ts x g) []) → ((d : ℕ) → h ≤ d → Reads (p d) ts (got ts y h) []) → got ts x g ≡ got ts y h
one_read p ts x y g h a b =
    let u = all_read (p (max g h)) ts (got ts x g) (a (max g h) (omega arith)) in
    let v = all_read (p (max g h)) ts (got ts y h) (b (max g h) (omega arith)) in
    ap (λ (z : Got _ × List Tok). z.0) (same_pair (got ts x g, []) (got ts y h, []) (sym u ∙ v))

type_got : (ts : List Tok) (x y : TypeTree) (g h : ℕ) → IsType ts x g → IsType ts y h → got ts x g ≡ got ts y h
type_got ts x y g h a b = one_read typ ts x y g h (λ d l. type_complete a d l [] (λ z. cc)) (λ d l. type_complete b d l [] (λ z. cc))

pub one_type_tree : (ts : List Tok) (x y : TypeTree) (g h : ℕ) → IsType ts x g → IsType ts y h → x ≡ y
one_type_tree ts x y g h a b = ap (λ (z : Got TypeTree). z.tree) (type_got ts x y g h a b)

pub one_type_height : (ts : List Tok) (x y : TypeTree) (g h : ℕ) → IsType ts x g → IsType ts y h → g ≡ h
one_type_height ts x y g h a b = ap (λ (z : Got TypeTree). z.height) (type_got ts x y g h a b)

pub type_read : (d : ℕ) (ts : List Tok) (x : TypeTree) (h : ℕ) → h ≤ d → IsType ts x h → typ d ts ≡ Ok (got ts x h, [])
type_read d ts x h b r = all_read (typ d) ts (got ts x h) (type_complete r d b [] (λ z. cc))

pub type_derived : (d : ℕ) (ts : List Tok) (x : Got TypeTree) → typ d ts ≡ Ok (x, []) → (x.height ≤ d) × (x.span ≡ span_of ts) × IsType ts x.tree x.height
type_derived d ts x e = let f = all_derived (typ d) (Fits IsType d) ts x (type_sound d) e in (f.low, f.span, f.holds)

pattern_got : (ts : List Tok) (x y : PatternTree) (g h : ℕ) → IsPattern ts x g → IsPattern ts y h → got ts x g ≡ got ts y h
pattern_got ts x y g h a b = one_read pattern ts x y g h (λ d l. pattern_complete a d l [] refl) (λ d l. pattern_complete b d l [] refl)

pub one_pattern_tree : (ts : List Tok) (x y : PatternTree) (g h : ℕ) → IsPattern ts x g → IsPattern ts y h → x ≡ y
one_pattern_tree ts x y g h a b = ap (λ (z : Got PatternTree). z.tree) (pattern_got ts x y g h a b)

pub one_pattern_height : (ts : List Tok) (x y : PatternTree) (g h : ℕ) → IsPattern ts x g → IsPattern ts y h → g ≡ h
one_pattern_height ts x y g h a b = ap (λ (z : Got PatternTree). z.height) (pattern_got ts x y g h a b)

pub pattern_read : (d : ℕ) (ts : List Tok) (x : PatternTree) (h : ℕ) → h ≤ d → IsPattern ts x h → pattern d ts ≡ Ok (got ts x h, [])
pattern_read d ts x h b r = all_read (pattern d) ts (got ts x h) (pattern_complete r d b [] refl)

pub pattern_derived : (d : ℕ) (ts : List Tok) (x : Got PatternTree) → pattern d ts ≡ Ok (x, []) → (x.height ≤ d) × (x.span ≡ span_of ts) × IsPattern ts x.tree x.height
pattern_derived d ts x e = let f = all_derived (pattern d) (Fits IsPattern d) ts x (pattern_sound d) e in (f.low, f.span, f.holds)

expression_got : (ts : List Tok) (x y : Expression) (g h : ℕ) → IsExpression ts x g → IsExpression ts y h → got ts x g ≡ got ts y h
expression_got ts x y g h a b = one_read whole ts x y g h (λ d l. expression_complete a d l [] refl) (λ d l. expression_complete b d l [] refl)

pub one_expression_tree : (ts : List Tok) (x y : Expression) (g h : ℕ) → IsExpression ts x g → IsExpression ts y h → x ≡ y
one_expression_tree ts x y g h a b = ap (λ (z : Got Expression). z.tree) (expression_got ts x y g h a b)

pub one_expression_height : (ts : List Tok) (x y : Expression) (g h : ℕ) → IsExpression ts x g → IsExpression ts y h → g ≡ h
one_expression_height ts x y g h a b = ap (λ (z : Got Expression). z.height) (expression_got ts x y g h a b)

pub expression_read : (d : ℕ) (ts : List Tok) (x : Expression) (h : ℕ) → h ≤ d → IsExpression ts x h → whole d ts ≡ Ok (got ts x h, [])
expression_read d ts x h b r = all_read (whole d) ts (got ts x h) (expression_complete r d b [] refl)

pub expression_derived : (d : ℕ) (ts : List Tok) (x : Got Expression) → whole d ts ≡ Ok (x, []) → (x.height ≤ d) × (x.span ≡ span_of ts) × IsExpression ts x.tree x.height
expression_derived d ts x e = let f = all_derived (whole d) (Fits IsExpression d) ts x (deeper_derived d).wholes e in (f.low, f.span, f.holds)

-- ---- files

abbrev Filed : Type 0
Filed = List ItemTree × ℕ

program_got : (ts : List Tok) (p q : ProgramTree) (g h : ℕ) → IsFile ts p g → IsFile ts q h → (let x : Filed = (p, g) in x) ≡ (q, h)
program_got ts p q g h a b =
    let u : file (max g h) ts ≡ Ok ((p, g), []) = file_complete a (max g h) (omega arith) in
    let v : file (max g h) ts ≡ Ok ((q, h), []) = file_complete b (max g h) (omega arith) in
    ap (λ (z : Filed × List Tok). z.0) (same_pair ((p, g), []) ((q, h), []) (sym u ∙ v))

pub one_program_tree : (ts : List Tok) (p q : ProgramTree) (g h : ℕ) → IsFile ts p g → IsFile ts q h → p ≡ q
one_program_tree ts p q g h a b = ap (λ (z : Filed). z.0) (program_got ts p q g h a b)

pub one_program_height : (ts : List Tok) (p q : ProgramTree) (g h : ℕ) → IsFile ts p g → IsFile ts q h → g ≡ h
one_program_height ts p q g h a b = ap (λ (z : Filed). z.1) (program_got ts p q g h a b)

pub program_read : (d : ℕ) (ts : List Tok) (p : ProgramTree) (h : ℕ) → h ≤ d → IsFile ts p h → file d ts ≡ Ok ((p, h), [])
program_read d ts p h b r = file_complete r d b

no_token : (i : List Tok) → peek i ≡ symbol.End → i ≡ []
no_token [] e = refl
no_token (t ∷ i) e = absurd (not_end t e)

at_end : (i rest : List Tok) (x y : Filed) → peek i ≡ symbol.End → okay (x, i) ≡ Ok (y, rest) → rest ≡ []
at_end i rest x y s e = ap (λ (z : Filed × List Tok). z.1) (sym (same_pair (x, i) (y, rest) e)) ∙ no_token i s

-- nothing is left
ends : (d n : ℕ) (found : List ItemTree) (k : ℕ) (i rest : List Tok) (p : Filed) → items_from d n found k i ≡ Ok (p, rest) → rest ≡ []
unfolding items_from
ends d zero found k i rest p e = chosen (rest ≡ []) (sees symbol.End i) (okay ((found, k), i)) _ p rest (λ s e. at_end i rest (found, k) p (sees_is symbol.End i s) e) (λ s e. absurd (cc)) e
ends d (suc n) found k i rest p e = chosen (rest ≡ []) (sees symbol.End i) (okay ((found, k), i)) _ p rest (λ s e. at_end i rest (found, k) p (sees_is symbol.End i s) e)
    (λ s e.
    let w = two (item d i) (λ x. items_from d n (found ++ (x.tree ∷ [])) (max k x.height)) p rest e in
    ends d n (found ++ (w.mid.tree ∷ [])) (max k w.mid.height) w.i rest p w.second) e

pub program_derived : (d : ℕ) (ts rest : List Tok) (p : ProgramTree) (h : ℕ) → file d ts ≡ Ok ((p, h), rest) → (rest ≡ []) × (h ≤ d) × IsFile ts p h
unfolding file
program_derived d ts rest p h e =
    let z : rest ≡ [] = ends d (length ts) [] 0 ts rest (p, h) e in
    let f = all_derived (file d) _ ts (p, h) (file_sound d) (e ∙ ap (λ r. okay ((p, h), r)) z) in
    (z, f.low, f.holds)

pub one_text : (bytes : List ℕ) (p q : ProgramTree) → Parses bytes p → Parses bytes q → p ≡ q
one_text bytes p q a b =
    one_program_tree a.tokens p q a.height b.height a.derived (subst (λ ts. IsFile ts q b.height) (lexes_one bytes b.tokens a.tokens b.lexed a.lexed) b.derived)
