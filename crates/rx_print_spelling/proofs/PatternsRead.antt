-- The tokens that a pattern is spelled with are derived as this pattern, within its levels: by recursion on the tree.
use Rattle.std.proofs.Common.{◌≡◌, ℕ, ◌+◌, ◌≤◌, Bool, true, false, List, [], ◌∷◌, ◌++◌, Option, codes, length, refl, ap, subst, ◌∙◌, arith}
use Rattle.std.specs.Fmt.{decimal}
use Rattle.rx_core.specs.declared.types.Span.{Span}
use Rattle.rx_core.specs.declared.types.Kind.{Kind}
use Rattle.rx_tree.specs.declared.tree.Ident.{Ident}
use Rattle.rx_tree.specs.Plain as plain
use Rattle.rx_tree.specs.Plain.{PatternTree, PatternTrees, FieldPatterns}
use Rattle.rx_tree.specs.PlainOf.{patterns_of, field_patterns_of}
use Rattle.rx_tree.specs.Erase.{erase_pattern, erase_patterns, erase_field_patterns, erase_ident}
use Rattle.rx_lex.specs.declared.token.Class.TheVariants.{Identifier, Keyword, Number}
use Rattle.rx_lex.specs.Tok.{Tok}
use Rattle.rx_lex.specs.Tokens.{token_at}
use Rattle.rx_lex.specs.Numerals.{suffix_text, greatest}
use Rattle.rx_parse_grammar.specs.grammar.Words.{IsNumber}
use Rattle.rx_parse_grammar.specs.grammar.Patterns as g
use Rattle.rx_parse_grammar.specs.grammar.Patterns.{IsPattern, ArePatterns, IsFieldPattern, AreFieldPatterns}
use Rattle.rx_print_spelling.specs.Pieces.{name, mark, space, separated}
use Rattle.rx_print_spelling.specs.Patterns.{pattern_pieces, each_pattern, each_field_pattern}
use Rattle.rx_print_spelling.specs.Levels.{pattern_levels, patterns_levels, field_patterns_levels}
use Rattle.rx_print_spelling.specs.Formed.{FormedPattern, FormedPatterns, FormedFieldPatterns}
use Rattle.rx_print_spelling.proofs.DecimalDigits.{decimal_numeral}
use Rattle.rx_print_spelling.proofs.Pieces.{places, past, places-append}
use Rattle.rx_print_spelling.proofs.Derives.{Derives, mark_at, single_places, tuple_places, arguments_places, fields_places}

abbrev pub AsPattern : List Tok → PatternTree → ℕ → Type 0
AsPattern ts t h = Derives (λ us y. IsPattern us y h) erase_pattern ts (erase_pattern t)

abbrev pub AsPatterns : List Tok → PatternTrees → ℕ → Type 0
AsPatterns ts t h = Derives (λ us ys. ArePatterns us ys h) (λ ys. erase_patterns (patterns_of ys)) ts (erase_patterns t)

abbrev pub AsFieldPatterns : List Tok → FieldPatterns → ℕ → Type 0
AsFieldPatterns ts t h = Derives (λ us ys. AreFieldPatterns us ys h) (λ ys. erase_field_patterns (field_patterns_of ys)) ts (erase_field_patterns t)

abbrev pub ReadsPattern : PatternTree → Type 0
ReadsPattern t = (at : ℕ) → AsPattern (places at (pattern_pieces t)) t (pattern_levels t)

abbrev pub ReadsPatterns : PatternTrees → Type 0
ReadsPatterns ts = (at : ℕ) → AsPatterns (places at (separated (each_pattern ts))) ts (patterns_levels ts)

abbrev pub ReadsFieldPatterns : FieldPatterns → Type 0
ReadsFieldPatterns fs = (at : ℕ) → AsFieldPatterns (places at (separated (each_field_pattern fs))) fs (field_patterns_levels fs)

-- ---- patterns without parts

abbrev pub number_at : ℕ → ℕ → Option Kind → Tok
number_at at v k = token_at at Number (decimal v ++ suffix_text k)

pub is_number : (at v : ℕ) (k : Option Kind) → v ≤ greatest → IsNumber (number_at at v k) v k
is_number at v k f = record { class = refl; numeral = decimal_numeral v k f; fits = f }

wild_reads : (s : Span) → ReadsPattern (plain.wild s)
wild_reads s at = record { tree = _; derived = g.wild (mark_at at (codes "_")) (refl, refl) refl; same = refl }

bind_reads : (s : Span) (n : Ident) (m : Bool) → ReadsPattern (plain.bind s n m)
bind_reads s n false at = record { tree = _; derived = g.binding (token_at at Identifier n.name) refl refl; same = refl }
bind_reads s n true at =
    record { tree = _; derived = g.mutable_binding (token_at at Keyword (codes "mut")) (token_at (at + 3 + 1) Identifier n.name) (refl, refl) refl refl; same = refl }

int_reads : (s : Span) (m : Bool) (v : ℕ) (k : Option Kind) → v ≤ greatest → ReadsPattern (plain.int_pattern s m v k)
int_reads s false v k f at = record { tree = _; derived = g.number (number_at at v k) v k (is_number at v k f) refl; same = refl }
int_reads s true v k f at =
    record { tree = _; derived = g.negative (mark_at at (codes "-")) (number_at (at + 1) v k) v k (refl, refl) (is_number (at + 1) v k f) refl; same = refl }

bool_reads : (s : Span) (b : Bool) → ReadsPattern (plain.bool_pattern s b)
bool_reads s true at = record { tree = _; derived = g.true_is (token_at at Keyword (codes "true")) (refl, refl) refl; same = refl }
bool_reads s false at = record { tree = _; derived = g.false_is (token_at at Keyword (codes "false")) (refl, refl) refl; same = refl }

unit_reads : (s : Span) → ReadsPattern (plain.tuple_pattern s plain.no_pattern)
unit_reads s at = record { tree = _; derived = g.unit (mark_at at (codes "(")) (mark_at (at + 1) (codes ")")) (refl, refl) (refl, refl) refl; same = refl }

variant_reads : (s : Span) (a v : Ident) → ReadsPattern (plain.variant_pattern s a v plain.no_pattern)
variant_reads s a v at =
    record {
      tree = _;
      derived = g.variant (token_at at Identifier a.name) (mark_at (at + length a.name) (codes "::")) (token_at (at + length a.name + 2) Identifier v.name) refl (refl, refl) refl refl;
      same = refl;
    }

-- ---- lists

last_reads : (t : PatternTree) → ReadsPattern t → ReadsPatterns (plain.pattern_and t plain.no_pattern)
last_reads t r at =
    let a = r at in
    record {
      tree = a.tree ∷ [];
      derived = subst (λ h. ArePatterns (places at (pattern_pieces t)) (a.tree ∷ []) h) (omega arith) (g.last_pattern a.derived);
      same = rw a.same refl;
    }

further_reads : (t u : PatternTree) (us : PatternTrees) → ReadsPattern t → ReadsPatterns (plain.pattern_and u us) → ReadsPatterns (plain.pattern_and t (plain.pattern_and u us))
further_reads t u us r k at =
    let ps = pattern_pieces t in
    let a = r at in
    let b = k (past at ps + 1 + 1) in
    record {
      tree = a.tree ∷ b.tree;
      derived = g.pattern_and (places at ps) (places (past at ps + 1 + 1) (separated (each_pattern (plain.pattern_and u us)))) (mark_at (past at ps) (codes ",")) a.tree b.tree _ _ a.derived (refl, refl) b.derived
          (places-append at ps _);
      same = rw (a.same, b.same) refl;
    }

single_reads : (s : Span) (t : PatternTree) → ReadsPattern t → ReadsPattern (plain.tuple_pattern s (plain.pattern_and t plain.no_pattern))
single_reads s t r at =
    let a = r (at + 1) in
    let ps = pattern_pieces t in
    record {
      tree = _;
      derived = g.tuple (mark_at at (codes "(")) (mark_at (past (at + 1) ps) (codes ",")) (mark_at (past (at + 1) ps + 1) (codes ")"))
          (places (at + 1) ps) [] a.tree [] (pattern_levels t) 0 (refl, refl) (refl, refl) (refl, refl) a.derived g.no_pattern (single_places at ps);
      same = rw a.same refl;
    }

several_reads : (s : Span) (t u : PatternTree) (us : PatternTrees) → ReadsPattern t → ReadsPatterns (plain.pattern_and u us)
    → ReadsPattern (plain.tuple_pattern s (plain.pattern_and t (plain.pattern_and u us)))
several_reads s t u us r k at =
    let ps = pattern_pieces t in
    let from : ℕ = past (at + 1) ps in
    let qs = separated (each_pattern (plain.pattern_and u us)) in
    let a = r (at + 1) in
    let b = k (from + 1 + 1) in
    record {
      tree = _;
      derived = g.tuple (mark_at at (codes "(")) (mark_at from (codes ",")) (mark_at (past (from + 1 + 1) qs) (codes ")"))
          (places (at + 1) ps) (places (from + 1 + 1) qs) a.tree b.tree (pattern_levels t) (patterns_levels (plain.pattern_and u us)) (refl, refl) (refl, refl) (refl, refl) a.derived b.derived
          (tuple_places at ps (pattern_pieces u) (each_pattern us));
      same = rw (a.same, b.same) refl;
    }

-- at least one part
record SomePatterns (ts : List Tok) (t : PatternTrees) (h : ℕ) : Type 0 where
  first : PatternTree
  more : List PatternTree
  derived : ArePatterns ts (first ∷ more) h
  same : erase_patterns (patterns_of (first ∷ more)) ≡ erase_patterns t

some_patterns : {ts : List Tok} {h : ℕ} (t : PatternTree) (us : PatternTrees) → AsPatterns ts (plain.pattern_and t us) h → SomePatterns ts (plain.pattern_and t us) h
some_patterns {ts} {h} t us r = by r.tree r.derived r.same
  where
    by : (ys : List PatternTree) → ArePatterns ts ys h → erase_patterns (patterns_of ys) ≡ erase_patterns (plain.pattern_and t us) → SomePatterns ts (plain.pattern_and t us) h
    by [] d e = absurd (cc)
    by (y ∷ ys) d e = record { first = y; more = ys; derived = d; same = e }

parts_read : (s : Span) (a v : Ident) (t : PatternTree) (us : PatternTrees) → ReadsPatterns (plain.pattern_and t us) → ReadsPattern (plain.variant_pattern s a v (plain.pattern_and t us))
parts_read s a v t us k at =
    let begin : ℕ = at + length a.name + 2 + length v.name in
    let qs = separated (each_pattern (plain.pattern_and t us)) in
    let r = some_patterns t us (k (begin + 1)) in
    record {
      tree = _;
      derived = g.variant_with (token_at at Identifier a.name) (mark_at (at + length a.name) (codes "::")) (token_at (at + length a.name + 2) Identifier v.name)
          (mark_at begin (codes "(")) (mark_at (past (begin + 1) qs) (codes ")")) (places (begin + 1) qs) r.first r.more (patterns_levels (plain.pattern_and t us))
          refl (refl, refl) refl (refl, refl) (refl, refl) r.derived
          (ap (λ z. token_at at Identifier a.name ∷ mark_at (at + length a.name) (codes "::") ∷ token_at (at + length a.name + 2) Identifier v.name ∷ z) (arguments_places begin (each_pattern (plain.pattern_and t us))));
      same = rw r.same refl;
    }

-- ---- fields

abbrev erase_pair : Ident × PatternTree → Ident × PatternTree
erase_pair y = (erase_ident y.0, erase_pattern y.1)

one_field : (n : Ident) (t : PatternTree) → ReadsPattern t → (at : ℕ)
    → Derives (λ us y. IsFieldPattern us y (pattern_levels t)) erase_pair (places at (name n ∷ mark (codes ":") ∷ space ∷ pattern_pieces t)) (erase_pair (n, t))
one_field n t r at =
    let from : ℕ = at + length n.name + 1 + 1 in
    let a = r from in
    record {
      tree = _;
      derived = g.field (token_at at Identifier n.name) (mark_at (at + length n.name) (codes ":")) (places from (pattern_pieces t)) a.tree (pattern_levels t) refl (refl, refl) a.derived refl;
      same = rw a.same refl;
    }

last_field : (n : Ident) (t : PatternTree) → ReadsPattern t → ReadsFieldPatterns (plain.field_pattern_and n t plain.no_field_pattern)
last_field n t r at =
    let a = one_field n t r at in
    record {
      tree = a.tree ∷ [];
      derived = subst (λ h. AreFieldPatterns (places at (name n ∷ mark (codes ":") ∷ space ∷ pattern_pieces t)) (a.tree ∷ []) h) (omega arith) (g.last_field a.derived);
      same = ap (λ y. plain.field_pattern_and y.0 y.1 plain.no_field_pattern) a.same;
    }

further_fields : (n m : Ident) (t u : PatternTree) (us : FieldPatterns) → ReadsPattern t → ReadsFieldPatterns (plain.field_pattern_and m u us)
    → ReadsFieldPatterns (plain.field_pattern_and n t (plain.field_pattern_and m u us))
further_fields n m t u us r k at =
    let ps = name n ∷ mark (codes ":") ∷ space ∷ pattern_pieces t in
    let a = one_field n t r at in
    let b = k (past at ps + 1 + 1) in
    record {
      tree = a.tree ∷ b.tree;
      derived = g.field_and (places at ps) (places (past at ps + 1 + 1) (separated (each_field_pattern (plain.field_pattern_and m u us)))) (mark_at (past at ps) (codes ",")) a.tree b.tree _ _ a.derived (refl, refl) b.derived
          (places-append at ps _);
      same = ap (λ y. plain.field_pattern_and y.0 y.1 (erase_field_patterns (field_patterns_of b.tree))) a.same ∙ ap (plain.field_pattern_and (erase_ident n) (erase_pattern t)) b.same;
    }

structure_reads : (s : Span) (n : Ident) (fs : FieldPatterns) → ReadsFieldPatterns fs → ReadsPattern (plain.make_pattern s n fs)
structure_reads s n plain.no_field_pattern k at =
    let begin : ℕ = at + length n.name + 1 in
    record {
      tree = _;
      derived = g.structure (token_at at Identifier n.name) (mark_at begin (codes "{")) (mark_at (begin + 1) (codes "}")) [] [] 0 refl (refl, refl) (refl, refl) g.no_field refl;
      same = refl;
    }
structure_reads s n (plain.field_pattern_and m t us) k at =
    let begin : ℕ = at + length n.name + 1 in
    let qs = separated (each_field_pattern (plain.field_pattern_and m t us)) in
    let r = k (begin + 1 + 1) in
    record {
      tree = _;
      derived = g.structure (token_at at Identifier n.name) (mark_at begin (codes "{")) (mark_at (past (begin + 1 + 1) qs + 1) (codes "}")) (places (begin + 1 + 1) qs) r.tree
          (field_patterns_levels (plain.field_pattern_and m t us)) refl (refl, refl) (refl, refl) r.derived
          (ap (λ z. token_at at Identifier n.name ∷ z) (fields_places begin (name m ∷ mark (codes ":") ∷ space ∷ pattern_pieces t) (each_field_pattern us)));
      same = rw r.same refl;
    }

-- ---- all

mutual
  pub pattern_reads : (t : PatternTree) → FormedPattern t → ReadsPattern t
  pattern_reads (plain.wild s) f = wild_reads s
  pattern_reads (plain.bind s n m) f = bind_reads s n m
  pattern_reads (plain.int_pattern s m v k) f = int_reads s m v k f
  pattern_reads (plain.bool_pattern s b) f = bool_reads s b
  pattern_reads (plain.tuple_pattern s plain.no_pattern) f = unit_reads s
  pattern_reads (plain.tuple_pattern s (plain.pattern_and t plain.no_pattern)) f = single_reads s t (pattern_reads t f.0)
  pattern_reads (plain.tuple_pattern s (plain.pattern_and t (plain.pattern_and u us))) f =
      several_reads s t u us (pattern_reads t f.0) (patterns_read (plain.pattern_and u us) f.1)
  pattern_reads (plain.variant_pattern s a v plain.no_pattern) f = variant_reads s a v
  pattern_reads (plain.variant_pattern s a v (plain.pattern_and t us)) f = parts_read s a v t us (patterns_read (plain.pattern_and t us) f.2)
  pattern_reads (plain.make_pattern s n fs) f = structure_reads s n fs (field_patterns_read fs f.1)

  pub patterns_read : (ts : PatternTrees) → FormedPatterns ts → ReadsPatterns ts
  patterns_read plain.no_pattern f = λ at. record { tree = []; derived = g.no_pattern; same = refl }
  patterns_read (plain.pattern_and t plain.no_pattern) f = last_reads t (pattern_reads t f.0)
  patterns_read (plain.pattern_and t (plain.pattern_and u us)) f = further_reads t u us (pattern_reads t f.0) (patterns_read (plain.pattern_and u us) f.1)

  pub field_patterns_read : (fs : FieldPatterns) → FormedFieldPatterns fs → ReadsFieldPatterns fs
  field_patterns_read plain.no_field_pattern f = λ at. record { tree = []; derived = g.no_field; same = refl }
  field_patterns_read (plain.field_pattern_and n t plain.no_field_pattern) f = last_field n t (pattern_reads t f.1)
  field_patterns_read (plain.field_pattern_and n t (plain.field_pattern_and m u us)) f =
      further_fields n m t u us (pattern_reads t f.1) (field_patterns_read (plain.field_pattern_and m u us) f.2)
