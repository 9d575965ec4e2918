-- In the spelling of types and patterns each word ends before the next: by recursion on the tree.
use Rattle.std.proofs.Common.{◌≡◌, ℕ, ◌≤◌, Bool, true, false, List, [], ◌∷◌, ◌++◌, Option, Some, None, codes, map, refl, sym, ap, ◌∙◌, append_assoc}
use Rattle.std.specs.Prelude.{not, ◌&&◌}
use Rattle.std.specs.Fmt.{decimal}
use Rattle.std.proofs.lemmas.Bool.{and_parts}
use Rattle.rx_core.specs.declared.types.Kind.{Kind}
use Rattle.rx_core.specs.declared.types.Kind.TheVariants.{U8, U32, U64, I32, I64}
use Rattle.rx_tree.specs.declared.tree.Ident.{Ident}
use Rattle.rx_tree.specs.Plain as plain
use Rattle.rx_tree.specs.Plain.{TypeTree, TypeTrees, PatternTree, PatternTrees, FieldPatterns}
use Rattle.rx_tree.specs.Lists.{Every}
use Rattle.rx_lex.specs.declared.token.Class.TheVariants.{Lifetime, Keyword, Mark}
use Rattle.rx_lex.specs.Words as words
use Rattle.rx_lex.specs.Words.{IsWord, goes_on}
use Rattle.rx_lex.specs.Stands.{stands, stands_alone}
use Rattle.rx_lex.specs.Numerals.{kind_name, suffix_text, greatest}
use Rattle.rx_lex.proofs.OfItsClass.{lifetime_is}
use Rattle.rx_print_spelling.specs.Pieces.{Piece, mark, flat, name, lifetime, number, truth, separated, mutable_pieces, with_ampersand}
use Rattle.rx_print_spelling.specs.Types.{type_pieces, each_type, lifetime_pieces, argument_pieces, arguments_pieces, is_reference, is_bare, written_type, annotation_pieces}
use Rattle.rx_print_spelling.specs.Patterns.{pattern_pieces, each_pattern, each_field_pattern, minus_pieces, parts_of}
use Rattle.rx_print_spelling.specs.Formed.{Lasting, MaybeLasting, GivenLifetimes, FormedType, FormedTypes, WrittenType, FormedPattern, FormedPatterns, FormedFieldPatterns}
use Rattle.rx_print_spelling.proofs.DecimalDigits.{decimal_numeral}
use Rattle.rx_print_spelling.proofs.Pieces.{flat_then}
use Rattle.rx_print_spelling.proofs.Standing.{Quiet, Apart, Ends, EachEnds, ends, ended, nothing, word_then, whole, identifier_then, keyword_then, lifetime_then, number_then, space_then, appended, joined, follows, minus_then, ampersand_then, greater_stands, identifier_follows, number_follows, separated_end, tuple_ends, arguments_stand, fields_stand, mutable_stand}

-- ---- words

pub kind_word : (k : Kind) → IsWord Keyword (kind_name k)
kind_word U8 = words.keyword refl
kind_word U32 = words.keyword refl
kind_word U64 = words.keyword refl
kind_word I32 = words.keyword refl
kind_word I64 = words.keyword refl

kind_follows : (k : Kind) (rest : List ℕ) → follows false (kind_name k ++ rest) ≡ true
kind_follows U8 rest = refl
kind_follows U32 rest = refl
kind_follows U64 rest = refl
kind_follows I32 rest = refl
kind_follows I64 rest = refl

pub lifetime_follows : (w rest : List ℕ) → IsWord Lifetime w → follows false (w ++ rest) ≡ true
lifetime_follows w rest i = let r = lifetime_is i refl in ap (λ v. follows false (v ++ rest)) r.is

pub less_stands : (w rest : List ℕ) → IsWord Lifetime w → stands_alone (codes "<") (w ++ rest) ≡ true
less_stands w rest i = let r = lifetime_is i refl in ap (λ v. stands_alone (codes "<") (v ++ rest)) r.is

pub lifetime_ends : (l : Ident) → Lasting l → Ends (lifetime l ∷ [])
lifetime_ends l f = ends (λ rest q. lifetime_then f.0 q.0 (nothing rest))

-- ---- types

-- as a whole, behind an `&` that is the second half of a mark, and behind a mark
pub record StandsType (t : TypeTree) : Type 0 where
  pub alone : Ends (type_pieces false t)
  pub second : is_reference t ≡ true → Ends (type_pieces true t)
  pub front : (rest : List ℕ) → follows (is_reference t) (flat (type_pieces false t) ++ rest) ≡ true

lifetime_stands : (l : Option Ident) → MaybeLasting l → (rest : List ℕ) → Apart (lifetime_pieces l) rest
lifetime_stands None f rest = nothing rest
lifetime_stands (Some l) f rest = lifetime_then f.0 refl (space_then (nothing rest))

-- behind the `&`
apart_ends : (l : Option Ident) (m : Bool) (t : TypeTree) → MaybeLasting l → StandsType t → Ends (lifetime_pieces l ++ (mutable_pieces m ++ type_pieces false t))
apart_ends l m t f r = ends (λ rest q. appended (lifetime_pieces l) (lifetime_stands l f _) (appended (mutable_pieces m) (mutable_stand m _) (ended r.alone rest q)))

apart_follows : (l : Option Ident) (m : Bool) (t : TypeTree) → MaybeLasting l → StandsType t → (is_bare l m && is_reference t) ≡ false → (rest : List ℕ)
    → follows false (flat (lifetime_pieces l ++ (mutable_pieces m ++ type_pieces false t)) ++ rest) ≡ true
apart_follows None false t f r e rest = ap (λ b. follows b (flat (type_pieces false t) ++ rest)) (sym e) ∙ r.front rest
apart_follows None true t f r e rest = refl
apart_follows (Some l) m t f r e rest = ap (follows false) (append_assoc l.name _ rest) ∙ lifetime_follows l.name _ f.0

ampersand_ends : (l : Option Ident) (m : Bool) (t : TypeTree) → MaybeLasting l → StandsType t → (b : Bool) → (is_bare l m && is_reference t) ≡ b
    → Ends (with_ampersand b (lifetime_pieces l ++ (mutable_pieces m ++ type_pieces false t)) (type_pieces true t))
ampersand_ends l m t f r false e = ends (λ rest q. ampersand_then (apart_follows l m t f r e rest) (ended (apart_ends l m t f r) rest q))
ampersand_ends l m t f r true e = ends (λ rest q. whole refl refl (ended (r.second (and_parts (is_bare l m) (is_reference t) e).1) rest q))

pub ampersand_front : (b : Bool) (ps qs : List Piece) (rest : List ℕ) → follows true (flat (with_ampersand b ps qs) ++ rest) ≡ true
ampersand_front false ps qs rest = refl
ampersand_front true ps qs rest = refl

of_alone : (t : TypeTree) → is_reference t ≡ false → Ends (type_pieces false t) → ((rest : List ℕ) → follows false (flat (type_pieces false t) ++ rest) ≡ true) → StandsType t
of_alone t n f g = record { alone = f; second = λ e. absurd (cc); front = λ rest. ap (λ b. follows b (flat (type_pieces false t) ++ rest)) n ∙ g rest }

argument_ends : (l : Option Ident) → MaybeLasting l → Ends (argument_pieces l)
argument_ends None f = ends (λ rest q. lifetime_then (words.lifetime {name = codes "_"} refl refl) q.0 (nothing rest))
argument_ends (Some l) f = lifetime_ends l f

each_argument : (ls : List (Option Ident)) → Every MaybeLasting ls → EachEnds (map argument_pieces ls)
each_argument [] f = tt
each_argument (l ∷ ls) f = (argument_ends l f.0, each_argument ls f.1)

less_argument : (l : Option Ident) (rest : List ℕ) → MaybeLasting l → stands_alone (codes "<") (flat (argument_pieces l) ++ rest) ≡ true
less_argument None rest f = refl
less_argument (Some l) rest f = ap (stands_alone (codes "<")) (append_assoc l.name [] rest) ∙ less_stands l.name rest f.0

-- behind `<`
less_separated : (l : Option Ident) (ls : List (Option Ident)) (qs : List Piece) (rest : List ℕ) → MaybeLasting l
    → stands_alone (codes "<") (flat (separated (map argument_pieces (l ∷ ls)) ++ qs) ++ rest) ≡ true
less_separated l [] qs rest f = ap (stands_alone (codes "<")) (flat_then (argument_pieces l) qs rest) ∙ less_argument l (flat qs ++ rest) f
less_separated l (k ∷ ls) qs rest f =
    ap (stands_alone (codes "<")) (flat_then (separated (map argument_pieces (l ∷ k ∷ ls))) qs rest ∙ flat_then (argument_pieces l) _ (flat qs ++ rest)) ∙ less_argument l _ f

named_ends : (n : Ident) (ls : Option (List (Option Ident))) → words.is_identifier n.name ≡ true → GivenLifetimes ls → Ends (name n ∷ arguments_pieces ls)
named_ends n None i f = ends (λ rest q. identifier_then i q.0 (nothing rest))
named_ends n (Some []) i f = absurd f.0
named_ends n (Some (l ∷ ls)) i f = ends (λ rest q.
    identifier_then i refl (word_then (words.mark refl) (less_separated l ls (mark (codes ">") ∷ []) rest f.1.0)
    (joined (separated (map argument_pieces (l ∷ ls))) (separated_end (map argument_pieces (l ∷ ls)) (each_argument (l ∷ ls) f.1)) (refl, refl)
    (word_then (words.mark refl) (greater_stands rest q) (nothing rest)))))

pub identifier_front : (b : Bool) (n : Ident) (ps : List Piece) (rest : List ℕ) → words.is_identifier n.name ≡ true → follows b (flat (name n ∷ ps) ++ rest) ≡ true
identifier_front b n ps rest i = ap (follows b) (append_assoc n.name (flat ps) rest) ∙ identifier_follows b n.name _ i

mutual
  pub type_stands : (t : TypeTree) → FormedType t → StandsType t
  type_stands (plain.kind_type s k) f =
      of_alone (plain.kind_type s k) refl (ends (λ rest q. word_then (kind_word k) (ap not q.0) (nothing rest)))
      (λ rest. ap (follows false) (append_assoc (kind_name k) [] rest) ∙ kind_follows k rest)
  type_stands (plain.bool_type s) f = of_alone (plain.bool_type s) refl (ends (λ rest q. keyword_then refl q.0 (nothing rest))) (λ rest. refl)
  type_stands (plain.tuple_type s ts) f = of_alone (plain.tuple_type s ts) refl (tuple_ends (each_type ts) (types_stand ts f)) (λ rest. refl)
  type_stands (plain.ref_type s l m t) f =
      let r = type_stands t f.1 in
      record {
        alone = ampersand_ends l m t f.0 r (is_bare l m && is_reference t) refl;
        second = λ e. apart_ends l m t f.0 r;
        front = λ rest. ampersand_front (is_bare l m && is_reference t) _ _ rest;
      }
  type_stands (plain.named_type s n ls) f =
      of_alone (plain.named_type s n ls) refl (named_ends n ls f.0 f.1) (λ rest. identifier_front false n (arguments_pieces ls) rest f.0)

  pub types_stand : (ts : TypeTrees) → FormedTypes ts → EachEnds (each_type ts)
  types_stand plain.no_type f = tt
  types_stand (plain.type_and t ts) f = ((type_stands t f.0).alone, types_stand ts f.1)

pub written_ends : (t : TypeTree) → FormedType t → Ends (written_type t)
written_ends t f = ends (λ rest q. word_then (words.mark refl) refl (space_then (ended (type_stands t f).alone rest q)))

pub annotation_ends : (t : Option TypeTree) → WrittenType t → Ends (annotation_pieces t)
annotation_ends None f = ends (λ rest q. nothing rest)
annotation_ends (Some t) f = written_ends t f

-- ---- patterns

pub number_ends : (v : ℕ) (k : Option Kind) → v ≤ greatest → Ends (number v k ∷ [])
number_ends v k f = ends (λ rest q. number_then (words.number (decimal_numeral v k f) f) q.0 (nothing rest))

pub truth_ends : (b : Bool) → Ends (truth b ∷ [])
truth_ends true = ends (λ rest q. keyword_then refl q.0 (nothing rest))
truth_ends false = ends (λ rest q. keyword_then refl q.0 (nothing rest))

line_word : (rest : List ℕ) → Quiet rest → stands Mark (codes "_") rest ≡ true
line_word [] q = refl
line_word (d ∷ r) q = ap (λ b. not b && true) q.0

bind_ends : (n : Ident) (m : Bool) → words.is_identifier n.name ≡ true → Ends (mutable_pieces m ++ (name n ∷ []))
bind_ends n m i = ends (λ rest q. appended (mutable_pieces m) (mutable_stand m _) (identifier_then i q.0 (nothing rest)))

int_ends : (g : Bool) (v : ℕ) (k : Option Kind) → v ≤ greatest → Ends (minus_pieces g ++ (number v k ∷ []))
int_ends false v k f = number_ends v k f
int_ends true v k f = ends (λ rest q.
    minus_then true
    (ap (follows true) (append_assoc (decimal v ++ suffix_text k) [] rest) ∙ number_follows true (decimal v ++ suffix_text k) rest (decimal_numeral v k f))
    (ended (number_ends v k f) rest q))

parts_ends : (pss : List (List Piece)) → EachEnds pss → Ends (parts_of pss)
parts_ends [] f = ends (λ rest q. nothing rest)
parts_ends (ps ∷ pss) f = ends (λ rest q. arguments_stand (ps ∷ pss) f rest)

parts_quiet : (pss : List (List Piece)) (rest : List ℕ) → Quiet rest → goes_on (flat (parts_of pss) ++ rest) ≡ false
parts_quiet [] rest q = q.0
parts_quiet (ps ∷ pss) rest q = refl

-- behind the name of a variant
pub variant_ends : (v : Ident) (pss : List (List Piece)) → words.is_identifier v.name ≡ true → EachEnds pss → Ends (name v ∷ parts_of pss)
variant_ends v pss i f = ends (λ rest q. identifier_then i (parts_quiet pss rest q) (ended (parts_ends pss f) rest q))

mutual
  pub pattern_ends : (p : PatternTree) → FormedPattern p → Ends (pattern_pieces p)
  pattern_ends (plain.wild s) f = ends (λ rest q. word_then (words.mark refl) (line_word rest q) (nothing rest))
  pattern_ends (plain.bind s n m) f = bind_ends n m f
  pattern_ends (plain.int_pattern s g v k) f = int_ends g v k f
  pattern_ends (plain.bool_pattern s b) f = truth_ends b
  pattern_ends (plain.tuple_pattern s ps) f = tuple_ends (each_pattern ps) (patterns_end ps f)
  pattern_ends (plain.variant_pattern s a v ps) f = ends (λ rest q.
      identifier_then f.0 refl (whole refl refl (ended (variant_ends v (each_pattern ps) f.1 (patterns_end ps f.2)) rest q)))
  pattern_ends (plain.make_pattern s n fs) f = ends (λ rest q. identifier_then f.0 refl (space_then (fields_stand (each_field_pattern fs) (field_patterns_end fs f.1) rest)))

  patterns_end : (ps : PatternTrees) → FormedPatterns ps → EachEnds (each_pattern ps)
  patterns_end plain.no_pattern f = tt
  patterns_end (plain.pattern_and p ps) f = (pattern_ends p f.0, patterns_end ps f.1)

  field_patterns_end : (fs : FieldPatterns) → FormedFieldPatterns fs → EachEnds (each_field_pattern fs)
  field_patterns_end plain.no_field_pattern f = tt
  field_patterns_end (plain.field_pattern_and n p fs) f =
      (ends (λ rest q. identifier_then f.0 refl (word_then (words.mark refl) refl (space_then (ended (pattern_ends p f.1) rest q)))), field_patterns_end fs f.2)
