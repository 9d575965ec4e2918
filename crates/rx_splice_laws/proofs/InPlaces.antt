-- In the edits of a run each word ends before the next, and the words round them before them: by the cases of what is written.
use Rattle.std.proofs.Common.{◌≡◌, ℕ, ◌+◌, ◌≤◌, Bool, true, false, List, map, [], ◌∷◌, ◌++◌, Option, codes, length, refl, sym, ap, subst, ◌∙◌, append_assoc}
use Rattle.std.specs.Prelude.{not, ◌&&◌, if◌then◌else◌}
use Rattle.std.proofs.lemmas.Bool.{not_from_false, false≢true}
use Rattle.rx_core.specs.declared.types.Span.{Span}
use Rattle.rx_core.specs.declared.types.Kind.{Kind}
use Rattle.rx_tree.specs.declared.tree.Ident.{Ident}
use Rattle.rx_tree.specs.Plain as plain
use Rattle.rx_tree.specs.Plain.{TypeTree, TypeTrees, PatternTree, Expression, Expressions, OptionalExpressions, ProgramTree}
use Rattle.rx_lex.specs.declared.token.Class.{Class}
use Rattle.rx_lex.specs.declared.token.Class.TheVariants.{Identifier, Keyword, Lifetime, Number, Format, Mark}
use Rattle.rx_lex.specs.Words as words
use Rattle.rx_lex.specs.Words.{IsWord, is_identifier, goes_on}
use Rattle.rx_lex.specs.Numerals.{IsNumeral, greatest}
use Rattle.rx_lex.specs.Tok.{Tok}
use Rattle.rx_lex.specs.Tokens.{AreWords}
use Rattle.rx_lex.specs.Stands.{stands}
use Rattle.rx_lex.proofs.FirstBytes.{first, numeral_digit}
use Rattle.rx_lex.proofs.OfItsClass.{identifier_is}
use Rattle.rx_lex.proofs.Names.{opens}
use Rattle.rx_parse_grammar.specs.grammar.Words.{IsMark, IsKeyword, IsName, IsNumber, IsMutability, immutable, mutable, ident}
use Rattle.rx_parse_grammar.specs.grammar.Patterns as pattern
use Rattle.rx_parse_grammar.specs.grammar.Patterns.{IsPattern}
use Rattle.rx_print_spelling.specs.Pieces.{Piece, word, mark, keyword, identifier, name, space, flat}
use Rattle.rx_print_spelling.specs.Types.{type_pieces, written_type, each_type}
use Rattle.rx_print_spelling.specs.Expressions.{pieces, each, optional_list}
use Rattle.rx_print_spelling.specs.Formed.{Formed, FormedList, FormedOptionalList, FormedType, FormedTypes}
use Rattle.rx_print_spelling.proofs.Standing.{Apart, EachEnds, nothing, word_then, whole, identifier_then, keyword_then, number_then, space_then, star_then, close, arguments_stand}
use Rattle.rx_print_spelling.proofs.TypesStand.{identifier_front}
use Rattle.rx_print_spelling.proofs.ExpressionsStand.{expression_stands}
use Rattle.rx_hoist_extraction.specs.Made as made_of
use Rattle.rx_splice_laws.specs.Moving.{Moving, Jump, packed, star, enclosed_star, long_field, jump_of, returned, variant_of, first_opening, first_closing, opening, closing, spaced}
use Rattle.rx_splice_laws.proofs.AsRead.{onto, Reads, stand_reads}
use Rattle.rx_splice_laws.proofs.Seams.{word_left}
use Rattle.rx_splice_laws.proofs.Beside.{left_at, left_at_last, Before, runs_class, ends_class, begins_run, ends_run, stands_before, Front, front_word, front_star, front_parenthesis, InPlace, Closing, Opening, Next}
use Rattle.rx_splice_laws.proofs.Put.{run_word}

standing : (ps : List Piece) (r : List ℕ) → Apart ps r → Reads ps r
standing ps r a = stand_reads ps r a.stand

-- ---- in place of one name

name_begins : (t : Tok) → IsName t → runs_class t.class ≡ true
name_begins t n = ap runs_class n

name_ends : (t : Tok) → IsName t → ends_class t.class ≡ true
name_ends t n = ap ends_class n

named : (t : Tok) → IsName t → AreWords (t ∷ []) → is_identifier t.text ≡ true
named t n a = identifier_is a.0 n

opened : (t : Tok) → IsName t → AreWords (t ∷ []) → opens (first t.text) ≡ true
opened t n a = (run_word a.0 (name_begins t n)).opened

star_apart : (t : Tok) (r : List ℕ) → is_identifier t.text ≡ true → goes_on r ≡ false → Apart (star t.text) r
star_apart t r i g = star_then true (identifier_front true (ident t) [] r i) (identifier_then i g (nothing r))

pub star_in_place : (t : Tok) → IsName t → InPlace (t ∷ []) (star t.text)
star_in_place t n = record {
  reads = λ a r g. standing (star t.text) r (star_apart t r (named t n a) g);
  front = λ a. front_star (identifier t.text ∷ []);
  begins = name_begins t n;
  ends = name_ends t n;
}

pub enclosed_in_place : (t : Tok) → IsName t → InPlace (t ∷ []) (enclosed_star t.text)
enclosed_in_place t n = record {
  reads = λ a r g. standing (enclosed_star t.text) r (whole refl refl (star_then true (identifier_front true (ident t) (mark (codes ")") ∷ []) r (named t n a)) (identifier_then (named t n a) refl (close refl refl))));
  front = λ a. front_parenthesis (mark (codes "*") ∷ identifier t.text ∷ mark (codes ")") ∷ []);
  begins = name_begins t n;
  ends = name_ends t n;
}

pub long_in_place : (t : Tok) → IsName t → InPlace (t ∷ []) (long_field t.text)
long_in_place t n = record {
  reads = λ a r g. standing (long_field t.text) r (identifier_then (named t n a) refl (word_then (words.mark refl) refl (space_then (star_apart t r (named t n a) g))));
  front = λ a. front_word Identifier t.text (mark (codes ":") ∷ space ∷ star t.text) (opened t n a);
  begins = name_begins t n;
  ends = name_ends t n;
}

-- ---- in place of a number

pub number_in_place : (t : Tok) (w : List ℕ) {v : ℕ} {k : Option Kind} → t.class ≡ Number → IsNumeral w v k → v ≤ greatest → InPlace (t ∷ []) (word Number w ∷ [])
number_in_place t w c n l = record {
  reads = λ a r g. standing (word Number w ∷ []) r (number_then (words.number n l) g (nothing r));
  front = λ a. front_word Number w [] (run_word {w = w} (words.number n l) refl).opened;
  begins = ap runs_class c;
  ends = ap ends_class c;
}

-- ---- in place of a jump

pub each_ends : (es : Expressions) → FormedList es → EachEnds (each 0 es)
each_ends plain.no_expression f = tt
each_ends (plain.expression_and e es) f = ((expression_stands e 0 f.0).alone, each_ends es f.1)

variant_apart : (a v : Ident) (es : OptionalExpressions) (r : List ℕ) → is_identifier a.name ≡ true → is_identifier v.name ≡ true → FormedOptionalList es → goes_on r ≡ false
    → Apart (name a ∷ mark (codes "::") ∷ name v ∷ optional_list 0 es) r
variant_apart a v plain.no_list r i j f g = identifier_then i refl (whole refl refl (identifier_then j g (nothing r)))
variant_apart a v (plain.a_list es) r i j f g = identifier_then i refl (whole refl refl (identifier_then j refl (arguments_stand (each 0 es) (each_ends es f.1) r)))

pub jump_in_place : (M : Moving) (e : Jump) (ts : List Tok) → Formed (jump_of M e) → begins_run ts ≡ true → ends_run ts ≡ true → InPlace ts (returned M e)
jump_in_place M e ts f b l = record {
  reads = λ a r g. standing (returned M e) r (keyword_then refl refl (space_then (variant_apart (made_of.ident M.span M.enum) (made_of.ident M.span e.variant) (made_of.given (map (plain.var M.span) e.outs)) r f.0 f.1 f.2 g)));
  front = λ a. front_word Keyword (codes "return") (space ∷ pieces false 0 (packed M e)) refl;
  begins = b;
  ends = l;
}

-- ---- round the operand of a return

pub enum_spells : (M : Moving) (e : Jump) → Formed (jump_of M e) → is_identifier M.enum ≡ true
enum_spells M e f = f.0

first_opening_apart : (M : Moving) (r : List ℕ) → is_identifier M.out_0 ≡ true → Apart (first_opening M) r
first_opening_apart M r i =
    whole refl refl (space_then (keyword_then refl refl (space_then (identifier_then i refl (word_then (words.mark refl) refl
    (space_then (whole refl refl (whole refl refl (space_then (word_then (words.mark refl) refl (space_then (nothing r))))))))))))

call_opening_apart : (M : Moving) (r : List ℕ) → is_identifier M.enum ≡ true → Apart (variant_of M (codes "Return") ++ mark (codes "(") ∷ []) r
call_opening_apart M r i = identifier_then i refl (whole refl refl (identifier_then refl refl (close refl refl)))

opening_apart : (M : Moving) (r : List ℕ) → is_identifier M.enum ≡ true → is_identifier M.out_0 ≡ true → Apart (opening M) r
opening_apart M r i j = by M.unit
  where
    by : (b : Bool) → Apart (if b then first_opening M else variant_of M (codes "Return") ++ mark (codes "(") ∷ []) r
    by true = first_opening_apart M r j
    by false = call_opening_apart M r i

spaced_apart : (b : Bool) {ps : List Piece} {r : List ℕ} → Apart ps r → Apart (spaced b ps) r
spaced_apart true a = space_then a
spaced_apart false a = a

pub opening_fits : (M : Moving) (t u : Tok) (b : Bool) → is_identifier M.enum ≡ true → is_identifier M.out_0 ≡ true → IsKeyword (codes "return") t
    → (u.span.start ≡ t.span.start + length t.text → b ≡ true) → Opening t u (spaced b (opening M))
opening_fits M t u b i j k f = record {
  reads = λ r. standing (spaced b (opening M)) r (spaced_apart b (opening_apart M r i j));
  apart = λ e r. subst (λ x. stands t.class t.text (onto (spaced x (opening M)) r) ≡ true) (sym (f e)) (ap (λ c. stands c t.text (32 ∷ onto (opening M) r)) k.0);
}

first_closing_apart : (M : Moving) (r : List ℕ) → is_identifier M.enum ≡ true → Apart (first_closing M) r
first_closing_apart M r i = whole refl refl (space_then (identifier_then i refl (whole refl refl (identifier_then refl refl (space_then (close refl refl))))))

pub closing_closes : (M : Moving) → is_identifier M.enum ≡ true → Closing (closing M)
closing_closes M i = by M.unit
  where
    by : (b : Bool) → Closing (if b then first_closing M else mark (codes ")") ∷ [])
    by true = record {
      reads = λ r. standing (first_closing M) r (first_closing_apart M r i);
      closes = λ r w. stands_before 59 (32 ∷ onto (variant_of M (codes "Return") ++ (space ∷ mark (codes "}") ∷ [])) r) refl refl w;
    }
    by false = record { reads = λ r. standing (mark (codes ")") ∷ []) r (close refl refl); closes = λ r w. stands_before 41 r refl refl w }

-- ---- behind a pattern

by_name : (t : Tok) (d : ℕ) (r : List ℕ) → goes_on (d ∷ r) ≡ false → ends_class t.class ≡ true → stands t.class t.text (d ∷ r) ≡ true
by_name t d r g e = by t.class e
  where
    by : (c : Class) → ends_class c ≡ true → stands c t.text (d ∷ r) ≡ true
    by Identifier e = not_from_false (goes_on (d ∷ r)) g
    by Keyword e = not_from_false (goes_on (d ∷ r)) g
    by Lifetime e = not_from_false (goes_on (d ∷ r)) g
    by Number e = not_from_false (goes_on (d ∷ r)) g
    by Format e = absurd (false≢true e)
    by Mark e = absurd (false≢true e)

by_mark : (w : List ℕ) (t : Tok) (r : List ℕ) → stands Mark w r ≡ true → IsMark w t → stands t.class t.text r ≡ true
by_mark w t r e m = ap (λ c. stands c t.text r) m.0 ∙ ap (λ v. stands Mark v r) m.1 ∙ e

at_last : (us : List Tok) (t : Tok) (r : List ℕ) → stands t.class t.text r ≡ true → Before (left_at (us ++ t ∷ [])) r
at_last us t r e = subst (λ l. Before l r) (sym (left_at_last us t)) e

pub pattern_colon : {ts : List Tok} {p : PatternTree} {h : ℕ} → IsPattern ts p h → (r : List ℕ) → Before (left_at ts) (58 ∷ r)
pattern_colon (pattern.wild t s is) r = subst (λ x. Before (left_at x) (58 ∷ r)) (sym is) (by_mark (codes "_") t (58 ∷ r) refl s)
pattern_colon (pattern.binding t s is) r = subst (λ x. Before (left_at x) (58 ∷ r)) (sym is) (by_name t 58 r refl (name_ends t s))
pattern_colon (pattern.mutable_binding m t k s is) r = subst (λ x. Before (left_at x) (58 ∷ r)) (sym is) (by_name t 58 r refl (name_ends t s))
pattern_colon (pattern.number t v k s is) r = subst (λ x. Before (left_at x) (58 ∷ r)) (sym is) (by_name t 58 r refl (ap ends_class s.class))
pattern_colon (pattern.negative m t v k sm s is) r = subst (λ x. Before (left_at x) (58 ∷ r)) (sym is) (by_name t 58 r refl (ap ends_class s.class))
pattern_colon (pattern.true_is t s is) r = subst (λ x. Before (left_at x) (58 ∷ r)) (sym is) (by_name t 58 r refl (ap ends_class s.0))
pattern_colon (pattern.false_is t s is) r = subst (λ x. Before (left_at x) (58 ∷ r)) (sym is) (by_name t 58 r refl (ap ends_class s.0))
pattern_colon (pattern.unit o c so sc is) r = subst (λ x. Before (left_at x) (58 ∷ r)) (sym is) (by_mark (codes ")") c (58 ∷ r) refl sc)
pattern_colon (pattern.parentheses o c us y h so sc d is) r = subst (λ x. Before (left_at x) (58 ∷ r)) (sym is) (at_last (o ∷ us) c (58 ∷ r) (by_mark (codes ")") c (58 ∷ r) refl sc))
pattern_colon (pattern.tuple o m c us vs y ys h i so sm sc d e is) r =
    subst (λ x. Before (left_at x) (58 ∷ r)) (sym (is ∙ ap (λ x. o ∷ x) (sym (append_assoc us (m ∷ vs) (c ∷ []))))) (at_last (o ∷ (us ++ (m ∷ vs))) c (58 ∷ r) (by_mark (codes ")") c (58 ∷ r) refl sc))
pattern_colon (pattern.variant e q v se sq sv is) r = subst (λ x. Before (left_at x) (58 ∷ r)) (sym is) (by_name v 58 r refl (name_ends v sv))
pattern_colon (pattern.variant_with e q v o c us y ys h se sq sv so sc d is) r = subst (λ x. Before (left_at x) (58 ∷ r)) (sym is) (at_last (e ∷ q ∷ v ∷ o ∷ us) c (58 ∷ r) (by_mark (codes ")") c (58 ∷ r) refl sc))
pattern_colon (pattern.structure n o c us fs h sn so sc d is) r = subst (λ x. Before (left_at x) (58 ∷ r)) (sym is) (at_last (n ∷ o ∷ us) c (58 ∷ r) (by_mark (codes "}") c (58 ∷ r) refl sc))

-- a type that ends before what goes on no name: it ends with no list of lifetimes
abbrev pub EndsBare : TypeTree → Type 0
EndsBare y = (r : List ℕ) → goes_on r ≡ false → Apart (type_pieces false y) r

pub type_next : (ts : List Tok) (p : PatternTree) (m : ℕ) (z : Tok) (y : TypeTree) → IsPattern ts p m → ((r : List ℕ) → goes_on (z.text ++ r) ≡ false) → EndsBare y → Next ts z (written_type y)
type_next ts p m z y d q b = record {
  reads = λ r g. standing (written_type y) r (word_then (words.mark refl) refl (space_then (b r g)));
  before = q;
  behind = λ r. pattern_colon d (32 ∷ onto (type_pieces false y) r);
}
