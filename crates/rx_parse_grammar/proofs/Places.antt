-- What the place at which the parser of files stops says of the tokens.
use Rattle.std.proofs.Common.{◌≡◌, ℕ, ◌≤◌, max, Bool, true, false, List, [], ◌∷◌, ◌++◌, length, Ok, Err, refl, sym, ap, subst, ◌∙◌, arith, append_assoc, append-nil}
use Rattle.rx_tree.specs.Plain.{ItemTree, ProgramTree}
use Rattle.rx_lex.specs.Tok.{Tok}
use Rattle.rx_parse_grammar.specs.declared.stop.Stop.{Stop}
use Rattle.rx_parse_grammar.specs.declared.stop.Stop.TheVariants.{Syntax, TooDeep}
use Rattle.rx_parse_grammar.specs.grammar.Items.{IsFile}
use Rattle.rx_lex.specs.Words.{IsWord}
use Rattle.rx_lex.specs.Tokens.{Tokens, Lexes, token_at}
use Rattle.rx_lex.specs.Tokens as lexed
use Rattle.rx_parse_grammar.specs.grammar.Begins.{Begins, BeginsNone, BeginsNoneWithin}
use Rattle.rx_parse_grammar.specs.parser.Symbols.{head, tail}
use Rattle.rx_parse_grammar.specs.parser.Places.{Says, program, syntax_at, syntax_at_end, too_deep_at}
use Rattle.rx_parse_grammar.specs.parser.Steps.{Outcome}
use Rattle.rx_parse_grammar.specs.parser.Items.{file}
use Rattle.rx_parse_grammar.proofs.Deriving.{okay}
use Rattle.rx_parse_grammar.proofs.Steady.{ended, token, Depths}
use Rattle.rx_parse_grammar.proofs.SteadyLists.{again_stops, again_deep, split_same}
use Rattle.rx_parse_grammar.proofs.ItemsSteady.{file_alike}
use Rattle.rx_parse_grammar.proofs.Whole.{program_read, program_derived}
use Rattle.rx_parse_grammar.proofs.Begun.{Completes, Goes, reads, stops, deep}
use Rattle.rx_parse_grammar.proofs.ItemsBegun.{IsRead, file_begun}

as_many : (k : Bool) (d : ℕ) → Depths k d d
as_many k d = record { low = omega arith; same = λ y. refl }

more_levels : (d e : ℕ) → d ≤ e → Depths false d e
more_levels d e l = record { low = l; same = λ y. absurd (cc) }

no_outcome : {A : Type 0} (x : A × List Tok) (e : Stop) (o : Outcome A) → o ≡ Ok x → o ≡ Err e → ⊥
no_outcome x e o a b = cc

-- a stop at a token, whatever follows it and whatever levels there are
pub syntax_again : (d e : ℕ) (us r s : List Tok) (t : Tok) → d ≤ e → file d (us ++ (t ∷ r)) ≡ Err (Syntax (length (t ∷ r))) → file e (us ++ (t ∷ s)) ≡ Err (Syntax (length (t ∷ s)))
syntax_again d e us r s t l f = again_stops us (t ∷ r) refl f
    ((file_alike d e (more_levels d e l) (length (us ++ (t ∷ r))) (length (us ++ (t ∷ s)))).at (us ++ (t ∷ r)) (omega arith)) (t ∷ s) (token t r s) (omega arith)

pub too_deep_again : (d : ℕ) (us r s : List Tok) (t : Tok) → file d (us ++ (t ∷ r)) ≡ Err (TooDeep (length (t ∷ r))) → file d (us ++ (t ∷ s)) ≡ Err (TooDeep (length (t ∷ s)))
too_deep_again d us r s t f = again_deep us (t ∷ r) refl f
    ((file_alike d d (as_many true d) (length (us ++ (t ∷ r))) (length (us ++ (t ∷ s)))).at (us ++ (t ∷ r)) (omega arith)) refl (t ∷ s) (token t r s) (omega arith)

-- with the token at which it is no program goes on, they begin none
pub syntax_begins_none : (d : ℕ) (us r : List Tok) (t : Tok) → file d (us ++ (t ∷ r)) ≡ Err (Syntax (length (t ∷ r))) → BeginsNone (us ++ (t ∷ []))
syntax_begins_none d us r t f further p h b =
    let e : ℕ = max d h in
    let s = syntax_again d e us r further t (omega arith) f in
    let c = program_read e ((us ++ (t ∷ [])) ++ further) p h (omega arith) b in
    no_outcome _ _ _ c (ap (file e) (append_assoc us (t ∷ []) further) ∙ s)

-- with the token at which it is too deep, they begin none of so many levels
pub too_deep_begins_none : (d : ℕ) (us r : List Tok) (t : Tok) → file d (us ++ (t ∷ r)) ≡ Err (TooDeep (length (t ∷ r))) → BeginsNoneWithin d (us ++ (t ∷ []))
too_deep_begins_none d us r t f further p h low b =
    let s = too_deep_again d us r further t f in
    let c = program_read d ((us ++ (t ∷ [])) ++ further) p h low b in
    no_outcome _ _ _ c (ap (file d) (append_assoc us (t ∷ []) further) ∙ s)

-- where the end is the place, the tokens are no program
pub syntax_at_end_none : (d : ℕ) (ts : List Tok) → file d ts ≡ Err (Syntax 0) → (p : ProgramTree) (h : ℕ) → IsFile ts p h → ⊥
syntax_at_end_none d ts f p h r =
    let e : ℕ = max d h in
    let s = again_stops ts [] (sym (append-nil ts)) f ((file_alike d e (more_levels d e (omega arith)) (length ts) (length (ts ++ []))).at ts (omega arith)) [] ended (omega arith) in
    let c = program_read e ts p h (omega arith) r in
    no_outcome _ _ _ c (ap (file e) (sym (append-nil ts)) ∙ s)

-- ---- what the tokens before begin

begins_by : (us : List Tok) → Completes IsRead us → Begins us
begins_by us c = record { further = c.further; words = c.words; program = c.made.0; height = c.made.1; derived = c.part.holds }

before_syntax : (us r : List Tok) (o : Outcome (List ItemTree × ℕ)) → o ≡ Err (Syntax (length r)) → Goes IsRead (us ++ r) o → Begins us
before_syntax us r o e (reads vs x a is oe h) = absurd (cc)
before_syntax us r o e (deep vs x t is oe c) = absurd (cc)
before_syntax us r o e (stops vs x is oe c) =
    let n : length r ≡ length x = cc in
    let y = split_same us r vs x is n in
    subst (λ z. Begins z) (sym y.0) (begins_by vs c)

with_too_deep : (us r : List Tok) (t : Tok) (o : Outcome (List ItemTree × ℕ)) → o ≡ Err (TooDeep (length (t ∷ r))) → Goes IsRead (us ++ (t ∷ r)) o → IsWord t.class t.text → Begins (us ++ (t ∷ []))
with_too_deep us r t o e (reads vs x a is oe h) w = absurd (cc)
with_too_deep us r t o e (stops vs x is oe c) w = absurd (cc)
with_too_deep us r t o e (deep vs x v is oe c) w =
    let n : length (t ∷ r) ≡ length (v ∷ x) = cc in
    let y = split_same us (t ∷ r) vs (v ∷ x) is n in
    let h : t ≡ v = ap head y.1 in
    subst (λ z. Begins (z ++ (t ∷ []))) (sym y.0) (subst (λ z. Begins (vs ++ (z ∷ []))) (sym h) (begins_by (vs ++ (v ∷ [])) (c (subst (λ z. IsWord z.class z.text) h w))))

-- at a token
pub syntax_place : (d : ℕ) (us r : List Tok) (t : Tok) → file d (us ++ (t ∷ r)) ≡ Err (Syntax (length (t ∷ r))) → Begins us × BeginsNone (us ++ (t ∷ []))
syntax_place d us r t f = (before_syntax us (t ∷ r) (file d (us ++ (t ∷ r))) f ((file_begun d).goes (us ++ (t ∷ r)) refl), syntax_begins_none d us r t f)

-- at the end
pub end_place : (d : ℕ) (ts : List Tok) → file d ts ≡ Err (Syntax 0) → Begins ts × ((p : ProgramTree) (h : ℕ) → IsFile ts p h → ⊥)
end_place d ts f = (before_syntax ts [] (file d ts) f (subst (λ z. Goes IsRead z (file d ts)) (sym (append-nil ts)) ((file_begun d).goes ts refl)), syntax_at_end_none d ts f)

pub too_deep_place : (d : ℕ) (us r : List Tok) (t : Tok) → file d (us ++ (t ∷ r)) ≡ Err (TooDeep (length (t ∷ r))) → (IsWord t.class t.text → Begins (us ++ (t ∷ []))) × BeginsNoneWithin d (us ++ (t ∷ []))
too_deep_place d us r t f = (with_too_deep us r t (file d (us ++ (t ∷ r))) f ((file_begun d).goes (us ++ (t ∷ r)) refl), too_deep_begins_none d us r t f)

-- whatever is answered
said : (d : ℕ) (ts : List Tok) (o : Outcome (List ItemTree × ℕ)) → file d ts ≡ o → Goes IsRead ts o → Says d ts o
said d ts o f (reads us r p is oe h) =
    let w = program_derived d ts r p.0 p.1 (f ∙ oe) in
    subst (λ z. Says d ts z) (sym (oe ∙ ap (λ z. okay (p, z)) w.0)) (program p.0 p.1 w.1 w.2)
said d ts o f (stops us [] is oe c) = subst (λ z. Says d ts z) (sym oe) (let w = end_place d ts (f ∙ oe) in syntax_at_end w.0 w.1)
said d ts o f (stops us (t ∷ r) is oe c) =
    subst (λ z. Says d ts z) (sym oe) (let w = syntax_place d us r t (ap (file d) (sym is) ∙ f ∙ oe) in syntax_at us r t is w.0 w.1)
said d ts o f (deep us r t is oe c) =
    subst (λ z. Says d ts z) (sym oe) (let w = too_deep_place d us r t (ap (file d) (sym is) ∙ f ∙ oe) in too_deep_at us r t is w.0 w.1)

pub says : (d : ℕ) (ts : List Tok) → Says d ts (file d ts)
says d ts = said d ts (file d ts) refl ((file_begun d).goes ts refl)

-- ---- the tokens of a text are words

word_in : {at : ℕ} {bytes : List ℕ} {ts : List Tok} → Tokens at bytes ts → (us rest : List Tok) (t : Tok) → ts ≡ us ++ (t ∷ rest) → IsWord t.class t.text
word_in lexed.none [] rest t e = absurd (cc)
word_in lexed.none (u ∷ us) rest t e = absurd (cc)
word_in (lexed.gap n g l more) us rest t e = word_in more us rest t e
word_in (lexed.token {at = at} c w r other long more) [] rest t e = let h : token_at at c w ≡ t = ap head e in subst (λ z. IsWord z.class z.text) h long.front.word
word_in (lexed.token c w r other long more) (u ∷ us) rest t e = word_in more us rest t (ap tail e)

pub text_word : (bytes : List ℕ) (us rest : List Tok) (t : Tok) → Lexes bytes (us ++ (t ∷ rest)) → IsWord t.class t.text
text_word bytes us rest t l = word_in l.tokens us rest t refl
