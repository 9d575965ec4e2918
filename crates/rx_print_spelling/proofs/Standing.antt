-- Words that end before what follows them, and groups of pieces that do: by the first byte of what follows.
use Rattle.std.proofs.Common.{◌≡◌, ℕ, zero, suc, Bool, true, false, List, [], ◌∷◌, ◌++◌, Option, codes, refl, ap, ◌∙◌}
use Rattle.std.specs.Prelude.{⊤, not, ◌==◌, ◌&&◌, ◌||◌}
use Rattle.std.specs.List.{list_all}
use Rattle.std.proofs.lemmas.Bool.{and_from, and_parts, not_from_false, not-true, false_from_ne_true, eqb-true, both_ways, or_right, or_left}
use Rattle.rx_core.specs.Bytes.{is_one_of}
use Rattle.rx_lex.specs.declared.token.Class.{Class}
use Rattle.rx_lex.specs.declared.token.Class.TheVariants.{Identifier, Keyword, Lifetime, Number}
use Rattle.rx_lex.specs.Words as words
use Rattle.rx_lex.specs.Words.{IsWord, is_identifier, goes_on, marks, keywords}
use Rattle.rx_lex.specs.Stands.{stands, stands_alone}
use Rattle.rx_lex.specs.Tokens.{is_blank}
use Rattle.rx_lex.specs.Numerals.{IsNumeral, is_digit}
use Rattle.rx_lex.proofs.FirstBytes.{first, numeral_digit}
use Rattle.rx_lex.proofs.Names.{opens, name_run}
use Rattle.rx_lex.proofs.LongestWord.{identifier_name}
use Rattle.rx_lex.proofs.Standing.{whole_marks, whole_mark_stands}
use Rattle.rx_print_spelling.specs.Pieces.{Piece, word, blanks, flat, mark, indent, enclosed, separated, tuple_of, arguments_of, fields_of, mutable_pieces}
use Rattle.rx_print_spelling.proofs.Pieces.{Stand, stand-append}

-- what follows goes on no name, and makes no mark longer that may stand at the end of a type
abbrev pub Quiet : List ℕ → Type 0
Quiet rest = (goes_on rest ≡ false) × ((first rest == 61) ≡ false)

-- the pieces stand before this
pub record Apart (ps : List Piece) (rest : List ℕ) : Type 0 where
  pub stand : Stand ps rest

-- the pieces stand before what is quiet
pub record Ends (ps : List Piece) : Type 0 where
  pub before : (rest : List ℕ) → Quiet rest → Apart ps rest

pub ends : {ps : List Piece} → ((rest : List ℕ) → Quiet rest → Apart ps rest) → Ends ps
ends f = record { before = f }

pub ended : {ps : List Piece} → Ends ps → (rest : List ℕ) → Quiet rest → Apart ps rest
ended f = f.before

-- ---- one word more in front

pub nothing : (rest : List ℕ) → Apart [] rest
nothing rest = record { stand = tt }

pub word_then : {c : Class} {w : List ℕ} {ps : List Piece} {rest : List ℕ} → IsWord c w → stands c w (flat ps ++ rest) ≡ true → Apart ps rest → Apart (word c w ∷ ps) rest
word_then i e s = record { stand = (i, e, s.stand) }

pub whole : {w : List ℕ} {ps : List Piece} {rest : List ℕ} → is_one_of w marks ≡ true → is_one_of w whole_marks ≡ true → Apart ps rest → Apart (mark w ∷ ps) rest
whole {w} {ps} {rest} m k s = word_then (words.mark m) (whole_mark_stands w (flat ps ++ rest) k) s

pub identifier_then : {w : List ℕ} {ps : List Piece} {rest : List ℕ} → is_identifier w ≡ true → goes_on (flat ps ++ rest) ≡ false → Apart ps rest → Apart (word Identifier w ∷ ps) rest
identifier_then i g s = word_then (words.identifier i) (ap not g) s

pub keyword_then : {w : List ℕ} {ps : List Piece} {rest : List ℕ} → is_one_of w keywords ≡ true → goes_on (flat ps ++ rest) ≡ false → Apart ps rest → Apart (word Keyword w ∷ ps) rest
keyword_then i g s = word_then (words.keyword i) (ap not g) s

pub lifetime_then : {w : List ℕ} {ps : List Piece} {rest : List ℕ} → IsWord Lifetime w → goes_on (flat ps ++ rest) ≡ false → Apart ps rest → Apart (word Lifetime w ∷ ps) rest
lifetime_then i g s = word_then i (ap not g) s

pub number_then : {w : List ℕ} {ps : List Piece} {rest : List ℕ} → IsWord Number w → goes_on (flat ps ++ rest) ≡ false → Apart ps rest → Apart (word Number w ∷ ps) rest
number_then i g s = word_then i (ap not g) s

pub blank_indent : (depth : ℕ) → list_all is_blank (indent depth) ≡ true
blank_indent zero = refl
blank_indent (suc depth) = blank_indent depth

pub blanks_then : {b : List ℕ} {ps : List Piece} {rest : List ℕ} → list_all is_blank b ≡ true → Apart ps rest → Apart (blanks b ∷ ps) rest
blanks_then e s = record { stand = (e, s.stand) }

pub line_then : (depth : ℕ) {ps : List Piece} {rest : List ℕ} → Apart ps rest → Apart (blanks (10 ∷ indent depth) ∷ ps) rest
line_then depth s = blanks_then (blank_indent depth) s

pub space_then : {ps : List Piece} {rest : List ℕ} → Apart ps rest → Apart (blanks (32 ∷ []) ∷ ps) rest
space_then s = blanks_then refl s

pub appended : (ps : List Piece) {qs : List Piece} {rest : List ℕ} → Apart ps (flat qs ++ rest) → Apart qs rest → Apart (ps ++ qs) rest
appended ps {qs} {rest} f s = record { stand = stand-append ps qs rest f.stand s.stand }

pub joined : (ps : List Piece) {qs : List Piece} {rest : List ℕ} → Ends ps → Quiet (flat qs ++ rest) → Apart qs rest → Apart (ps ++ qs) rest
joined ps f q s = appended ps (ended f _ q) s

pub close : {w : List ℕ} {rest : List ℕ} → is_one_of w marks ≡ true → is_one_of w whole_marks ≡ true → Apart (mark w ∷ []) rest
close m k = whole m k (nothing _)

-- at the end
pub quiet_word : {c : Class} {w rest : List ℕ} → IsWord c w → stands c w rest ≡ true → Apart (word c w ∷ []) rest
quiet_word i e = word_then i e (nothing _)

-- ---- what may stand behind `-`, `!`, `*` and, where there is no `&`, behind `&`

abbrev pub follows : Bool → List ℕ → Bool
follows both [] = false
follows both (d ∷ r) = (not (d == 61) && not (d == 62)) && (both || not (d == 38))

pub follows_more : (b : Bool) (t : List ℕ) → follows b t ≡ true → follows true t ≡ true
follows_more b [] e = e
follows_more b (d ∷ r) e = and_from (not (d == 61) && not (d == 62)) true (and_parts (not (d == 61) && not (d == 62)) (b || not (d == 38)) e).0 refl

record NotOf (d : ℕ) : Type 0 where
  equal : (d == 61) ≡ false
  greater : (d == 62) ≡ false

not_of : (b : Bool) (d : ℕ) (r : List ℕ) → follows b (d ∷ r) ≡ true → NotOf d
not_of b d r e =
    let p = and_parts (not (d == 61)) (not (d == 62)) (and_parts (not (d == 61) && not (d == 62)) (b || not (d == 38)) e).0 in
    record { equal = not-true (d == 61) p.0; greater = not-true (d == 62) p.1 }

minus_before : (d : ℕ) (r : List ℕ) → (d == 61) ≡ false → (d == 62) ≡ false → stands_alone (codes "-") (d ∷ r) ≡ true
minus_before d r e f = rw (e, f) refl

star_before : (d : ℕ) (r : List ℕ) → (d == 61) ≡ false → stands_alone (codes "*") (d ∷ r) ≡ true
star_before d r e = rw e refl

not_before : (d : ℕ) (r : List ℕ) → (d == 61) ≡ false → stands_alone (codes "!") (d ∷ r) ≡ true
not_before d r e = rw e refl

ampersand_before : (d : ℕ) (r : List ℕ) → (d == 38) ≡ false → stands_alone (codes "&") (d ∷ r) ≡ true
ampersand_before d r e = rw e refl

greater_before : (d : ℕ) (r : List ℕ) → (d == 61) ≡ false → stands_alone (codes ">") (d ∷ r) ≡ true
greater_before d r e = rw e refl

pub minus_stands : (b : Bool) (t : List ℕ) → follows b t ≡ true → stands_alone (codes "-") t ≡ true
minus_stands b [] e = absurd (cc)
minus_stands b (d ∷ r) e = let n = not_of b d r e in minus_before d r n.equal n.greater

pub star_stands : (b : Bool) (t : List ℕ) → follows b t ≡ true → stands_alone (codes "*") t ≡ true
star_stands b [] e = absurd (cc)
star_stands b (d ∷ r) e = let n = not_of b d r e in star_before d r n.equal

pub not_stands : (b : Bool) (t : List ℕ) → follows b t ≡ true → stands_alone (codes "!") t ≡ true
not_stands b [] e = absurd (cc)
not_stands b (d ∷ r) e = let n = not_of b d r e in not_before d r n.equal

pub ampersand_stands : (t : List ℕ) → follows false t ≡ true → stands_alone (codes "&") t ≡ true
ampersand_stands [] e = absurd (cc)
ampersand_stands (d ∷ r) e = ampersand_before d r (not-true (d == 38) (and_parts (not (d == 61) && not (d == 62)) (not (d == 38)) e).1)

pub greater_stands : (t : List ℕ) → Quiet t → stands_alone (codes ">") t ≡ true
greater_stands [] q = refl
greater_stands (d ∷ r) q = greater_before d r q.1

opens_follows : (b : Bool) (d : ℕ) (r : List ℕ) → opens d ≡ true → follows b (d ∷ r) ≡ true
opens_follows b d r o =
    let no : (n : ℕ) → opens n ≡ false → (d == n) ≡ false = λ n f. false_from_ne_true (d == n) (λ h. both_ways (opens d) (ap opens (eqb-true d n h) ∙ f) o) in
    and_from (not (d == 61) && not (d == 62)) (b || not (d == 38))
    (and_from (not (d == 61)) (not (d == 62)) (not_from_false (d == 61) (no 61 refl)) (not_from_false (d == 62) (no 62 refl)))
    (or_right b (not (d == 38)) (not_from_false (d == 38) (no 38 refl)))

word_follows : (b : Bool) (w rest : List ℕ) → opens (first w) ≡ true → follows b (w ++ rest) ≡ true
word_follows b [] rest o = absurd (cc)
word_follows b (d ∷ w) rest o = opens_follows b d (w ++ rest) o

pub identifier_follows : (b : Bool) (w rest : List ℕ) → is_identifier w ≡ true → follows b (w ++ rest) ≡ true
identifier_follows b w rest i = word_follows b w rest (name_run w (identifier_name w i)).opened

digit_opens : (d : ℕ) → is_digit d ≡ true → opens d ≡ true
digit_opens d e = or_left (words.is_ascii_continue d) (Rattle.std.specs.Prelude.nat_le 128 d) (or_right (words.is_ascii_start d) (is_digit d) e)

pub number_follows : (b : Bool) (w rest : List ℕ) {v : ℕ} {k : Option _} → IsNumeral w v k → follows b (w ++ rest) ≡ true
number_follows b w rest n = word_follows b w rest (digit_opens (first w) (numeral_digit n))

pub minus_then : {ps : List Piece} {rest : List ℕ} (b : Bool) → follows b (flat ps ++ rest) ≡ true → Apart ps rest → Apart (mark (codes "-") ∷ ps) rest
minus_then {ps} {rest} b e s = word_then (words.mark refl) (minus_stands b (flat ps ++ rest) e) s

pub star_then : {ps : List Piece} {rest : List ℕ} (b : Bool) → follows b (flat ps ++ rest) ≡ true → Apart ps rest → Apart (mark (codes "*") ∷ ps) rest
star_then {ps} {rest} b e s = word_then (words.mark refl) (star_stands b (flat ps ++ rest) e) s

pub not_then : {ps : List Piece} {rest : List ℕ} (b : Bool) → follows b (flat ps ++ rest) ≡ true → Apart ps rest → Apart (mark (codes "!") ∷ ps) rest
not_then {ps} {rest} b e s = word_then (words.mark refl) (not_stands b (flat ps ++ rest) e) s

pub ampersand_then : {ps : List Piece} {rest : List ℕ} → follows false (flat ps ++ rest) ≡ true → Apart ps rest → Apart (mark (codes "&") ∷ ps) rest
ampersand_then {ps} {rest} e s = word_then (words.mark refl) (ampersand_stands (flat ps ++ rest) e) s

-- ---- groups

pub ends_enclosed : (b : Bool) (ps : List Piece) → Ends ps → Ends (enclosed b ps)
ends_enclosed false ps f = f
ends_enclosed true ps f = ends (λ rest q. whole refl refl (joined ps f (refl, refl) (close refl refl)))

abbrev pub EachEnds : List (List Piece) → Type 0
EachEnds [] = ⊤
EachEnds (ps ∷ pss) = Ends ps × EachEnds pss

pub separated_end : (pss : List (List Piece)) → EachEnds pss → Ends (separated pss)
separated_end [] f = ends (λ rest q. nothing rest)
separated_end (ps ∷ []) f = f.0
separated_end (ps ∷ qs ∷ pss) f = ends (λ rest q. joined ps f.0 (refl, refl) (whole refl refl (space_then (ended (separated_end (qs ∷ pss) f.1) rest q))))

pub tuple_ends : (pss : List (List Piece)) → EachEnds pss → Ends (tuple_of pss)
tuple_ends [] f = ends (λ rest q. whole refl refl (close refl refl))
tuple_ends (ps ∷ []) f = ends (λ rest q. whole refl refl (joined ps f.0 (refl, refl) (whole refl refl (close refl refl))))
tuple_ends (ps ∷ qs ∷ pss) f = ends (λ rest q. whole refl refl (joined (separated (ps ∷ qs ∷ pss)) (separated_end (ps ∷ qs ∷ pss) f) (refl, refl) (close refl refl)))

pub arguments_stand : (pss : List (List Piece)) → EachEnds pss → (rest : List ℕ) → Apart (arguments_of pss) rest
arguments_stand pss f rest = whole refl refl (joined (separated pss) (separated_end pss f) (refl, refl) (close refl refl))

pub fields_stand : (pss : List (List Piece)) → EachEnds pss → (rest : List ℕ) → Apart (fields_of pss) rest
fields_stand [] f rest = whole refl refl (close refl refl)
fields_stand (ps ∷ pss) f rest =
    whole refl refl (space_then (joined (separated (ps ∷ pss)) (separated_end (ps ∷ pss) f) (refl, refl) (space_then (close refl refl))))

pub mutable_stand : (m : Bool) (rest : List ℕ) → Apart (mutable_pieces m) rest
mutable_stand false rest = nothing rest
mutable_stand true rest = keyword_then refl refl (space_then (nothing rest))
