-- What the whole parser answers, from what the rules read: a tree that is read is derived, a derived tree is read, and where the rules stop the
-- tokens stop being a program, by the laws of the grammar.
use Rattle.std.proofs.Common.{◌≡◌, ℕ, ◌≤◌, max, List, [], ◌∷◌, ◌++◌, length, Ok, Err, inl, inr, refl, sym, ap, subst, ◌∙◌, arith}
use Rattle.std.specs.Prelude.{◌≢◌}
use Rattle.rx_tree.specs.declared.tree.Item.{Item}
use Rattle.rx_tree.specs.Plain.{ItemTree, ProgramTree}
use Rattle.rx_lex.specs.Tok.{Tok}
use Rattle.rx_lex.specs.Words.{IsWord}
use Rattle.rx_lex.specs.Tokens.{Lexes}
use Rattle.rx_lex.proofs.TokenLaws.{lexes_one}
use Rattle.rx_parse_grammar.specs.declared.stop.Stop.{Stop}
use Rattle.rx_parse_grammar.specs.declared.stop.Stop.TheVariants as stop
use Rattle.rx_parse_grammar.specs.grammar.Items.{IsFile, Parses, levels}
use Rattle.rx_parse_grammar.specs.parser.Steps.{Outcome, ReadsAs}
use Rattle.rx_parse_grammar.specs.parser.Items.{file}
use Rattle.rx_parse_grammar.specs.parser.Places.{Says, program, syntax_at, syntax_at_end, too_deep_at}
use Rattle.rx_parse_grammar.proofs.Deriving.{same_pair}
use Rattle.rx_parse_grammar.proofs.Whole.{program_read, program_derived}
use Rattle.rx_parse_grammar.proofs.Places.{says, text_word}
use Rattle.rx_parse_cursor.specs.declared.got.Found.{Found}
use Rattle.rx_parse.specs.declared.fault.SyntaxFault.TheVariants as fault
use Rattle.rx_parse_items.specs.ItemsOf.{file_of}
use Rattle.rx_parse.specs.Place.{place_of, fault_of}
use Rattle.rx_parse.specs.Answer.{HasTree, HasLevels, IsCauseWithin}
use Rattle.rx_parse.proofs.Places.{place_at, place_at_end}

-- ---- trees

pub found : (most : ℕ) (bytes : List ℕ) (ts rest : List Tok) (p : ProgramTree) (h : ℕ) → Lexes bytes ts → file most ts ≡ Ok ((p, h), rest)
    → HasTree bytes p h × (h ≤ most)
found most bytes ts rest p h l e = let w = program_derived most ts rest p h e in (record { tokens = ts; lexed = l; derived = w.2 }, w.1)

-- a text's tree is read from its tokens
read : (most : ℕ) (bytes : List ℕ) (ts : List Tok) (p : ProgramTree) (h : ℕ) → Lexes bytes ts → HasTree bytes p h → h ≤ most → file most ts ≡ Ok ((p, h), [])
read most bytes ts p h l d low = program_read most ts p h low (subst (λ (us : List Tok). IsFile us p h) (lexes_one bytes d.tokens ts d.lexed l) d.derived)

pub same_tree : (most : ℕ) (bytes : List ℕ) (ts rest : List Tok) (q p : ProgramTree) (h k : ℕ) → Lexes bytes ts → file most ts ≡ Ok ((q, h), rest)
    → HasTree bytes p k → k ≤ most → (q ≡ p) × (h ≡ k)
same_tree most bytes ts rest q p h k l e d low =
    let same = same_pair ((q, h), rest) ((p, k), []) (sym e ∙ read most bytes ts p k l d low) in
    (ap (λ (z : (List ItemTree × ℕ) × List Tok). z.0.0) same, ap (λ (z : (List ItemTree × ℕ) × List Tok). z.0.1) same)

-- an error is want of memory
only_memory : (e : Stop) (o : Outcome (List ItemTree × ℕ)) (x : (List ItemTree × ℕ) × List Tok) → o ≡ Ok x → (e ≢ stop.OutOfMemory → o ≡ Err e) → e ≡ stop.OutOfMemory
only_memory stop.OutOfMemory o x r f = refl
only_memory (stop.Syntax n) o x r f = let w : o ≡ Err (stop.Syntax n) = f (λ a. cc) in cc
only_memory (stop.TooDeep n) o x r f = let w : o ≡ Err (stop.TooDeep n) = f (λ a. cc) in cc

pub memory : (most : ℕ) (bytes : List ℕ) (ts new : List Tok) (e : Stop) (p : ProgramTree) (h end : ℕ) → Lexes bytes ts
    → ReadsAs {A = Found Item} file_of (file most ts) (Err e) new → HasTree bytes p h → h ≤ most → fault_of e ts end ≡ fault.OutOfMemory
memory most bytes ts new e p h end l r d low =
    ap (λ (s : Stop). fault_of s ts end) (only_memory e (file most ts) ((p, h), []) (read most bytes ts p h l d low) r)

-- what is read within the levels of a text, and what a text's tree is by that
pub parsed : (bytes : List ℕ) (p : ProgramTree) (h : ℕ) → HasTree bytes p h × (h ≤ levels) → Parses bytes p
parsed bytes p h x = record { tokens = x.0.tokens; lexed = x.0.lexed; height = h; derived = x.0.derived; low = x.1 }

pub tree_of : (bytes : List ℕ) (p : ProgramTree) → (d : Parses bytes p) → HasTree bytes p d.height
tree_of bytes p d = record { tokens = d.tokens; lexed = d.lexed; derived = d.derived }

-- a text has one number of levels: both are those that are read within the greater
pub one_level : (bytes : List ℕ) (n k : ℕ) → HasLevels bytes n → HasLevels bytes k → n ≡ k
one_level bytes n k x y =
    let most = max n k in
    let ts = x.1.tokens in
    (same_tree most bytes ts [] x.0 y.0 n k x.1.lexed (read most bytes ts x.0 n x.1.lexed x.1 (omega arith)) y.1 (omega arith)).1

-- ---- places

syntax_cause : (most : ℕ) (bytes : List ℕ) (ts : List Tok) (n : ℕ) (o : Outcome (List ItemTree × ℕ)) → Lexes bytes ts → Says most ts o → o ≡ Err (stop.Syntax n)
    → IsCauseWithin most (fault.Syntax (place_of n ts (length bytes))) bytes
syntax_cause most bytes ts n o l (program p h low d) e = absurd (cc)
syntax_cause most bytes ts n o l (too_deep_at us rest t is b s) e = absurd (cc)
syntax_cause most bytes ts n o l (syntax_at us rest t is b s) e =
    let k : n ≡ length (t ∷ rest) = cc in
    (ts, l, inl (record { here = record { before = us; token = t; behind = rest; tokens = is; place = place_at ts us rest t n (length bytes) is k }; begins = b; stops = s }))
syntax_cause most bytes ts n o l (syntax_at_end b s) e =
    let k : n ≡ 0 = cc in
    (ts, l, inr (record { place = place_at_end ts n (length bytes) k; begins = b; none = s }))

word_of : (bytes : List ℕ) (ts us rest : List Tok) (t : Tok) → Lexes bytes ts → ts ≡ us ++ (t ∷ rest) → IsWord t.class t.text
word_of bytes ts us rest t l is = text_word bytes us rest t (subst (λ (z : List Tok). Lexes bytes z) is l)

too_deep_cause : (most : ℕ) (bytes : List ℕ) (ts : List Tok) (n : ℕ) (o : Outcome (List ItemTree × ℕ)) → Lexes bytes ts → Says most ts o → o ≡ Err (stop.TooDeep n)
    → IsCauseWithin most (fault.TooDeep (place_of n ts (length bytes))) bytes
too_deep_cause most bytes ts n o l (program p h low d) e = absurd (cc)
too_deep_cause most bytes ts n o l (syntax_at us rest t is b s) e = absurd (cc)
too_deep_cause most bytes ts n o l (syntax_at_end b s) e = absurd (cc)
too_deep_cause most bytes ts n o l (too_deep_at us rest t is b s) e =
    let k : n ≡ length (t ∷ rest) = cc in (
      ts,
      l,
      record {
        here = record { before = us; token = t; behind = rest; tokens = is; place = place_at ts us rest t n (length bytes) is k };
        begins = b (word_of bytes ts us rest t l is);
        stops = s;
      },
    )

-- the cause of a stop
pub cause : (most : ℕ) (bytes : List ℕ) (ts new : List Tok) (e : Stop) → Lexes bytes ts → ReadsAs {A = Found Item} file_of (file most ts) (Err e) new
    → IsCauseWithin most (fault_of e ts (length bytes)) bytes
cause most bytes ts new stop.OutOfMemory l r = tt
cause most bytes ts new (stop.Syntax n) l r = syntax_cause most bytes ts n (file most ts) l (says most ts) (r (λ a. cc))
cause most bytes ts new (stop.TooDeep n) l r = too_deep_cause most bytes ts n (file most ts) l (says most ts) (r (λ a. cc))
