-- Patterns (Rust Reference, "Patterns"). A pattern within a pattern is one level deeper, and a pair of parentheses is a level.
use Rattle.std.specs.Prelude.{◌≡◌, ℕ, suc, max, true, false, List, [], ◌∷◌, ◌++◌, Option, codes}
use Rattle.rx_core.specs.declared.types.Kind.{Kind}
use Rattle.rx_tree.specs.declared.tree.Ident.{Ident}
use Rattle.rx_tree.specs.Plain as plain
use Rattle.rx_tree.specs.Plain.{PatternTree}
use Rattle.rx_tree.specs.PlainOf.{patterns_of, field_patterns_of}
use Rattle.rx_lex.specs.Tok.{Tok}
use Rattle.rx_parse_grammar.specs.grammar.Words.{IsMark, IsKeyword, IsName, IsNumber, span_of, ident}

mutual
  pub data IsPattern : List Tok → PatternTree → ℕ → Type 0 where
    wild : {ts : List Tok} (t : Tok) → IsMark (codes "_") t → ts ≡ t ∷ [] → IsPattern ts (plain.wild (span_of ts)) 1
    binding : {ts : List Tok} (n : Tok) → IsName n → ts ≡ n ∷ [] → IsPattern ts (plain.bind (span_of ts) (ident n) false) 1
    mutable_binding : {ts : List Tok} (m n : Tok) → IsKeyword (codes "mut") m → IsName n → ts ≡ m ∷ n ∷ []
        → IsPattern ts (plain.bind (span_of ts) (ident n) true) 1
    number : {ts : List Tok} (t : Tok) (v : ℕ) (k : Option Kind) → IsNumber t v k → ts ≡ t ∷ [] → IsPattern ts (plain.int_pattern (span_of ts) false v k) 1
    negative : {ts : List Tok} (m t : Tok) (v : ℕ) (k : Option Kind) → IsMark (codes "-") m → IsNumber t v k → ts ≡ m ∷ t ∷ []
        → IsPattern ts (plain.int_pattern (span_of ts) true v k) 1
    true_is : {ts : List Tok} (t : Tok) → IsKeyword (codes "true") t → ts ≡ t ∷ [] → IsPattern ts (plain.bool_pattern (span_of ts) true) 1
    false_is : {ts : List Tok} (t : Tok) → IsKeyword (codes "false") t → ts ≡ t ∷ [] → IsPattern ts (plain.bool_pattern (span_of ts) false) 1
    unit : {ts : List Tok} (o c : Tok) → IsMark (codes "(") o → IsMark (codes ")") c → ts ≡ o ∷ c ∷ []
        → IsPattern ts (plain.tuple_pattern (span_of ts) plain.no_pattern) 1
    parentheses : {ts : List Tok} (o c : Tok) (us : List Tok) (y : PatternTree) (h : ℕ) → IsMark (codes "(") o → IsMark (codes ")") c
        → IsPattern us y h → ts ≡ o ∷ (us ++ c ∷ []) → IsPattern ts y (suc h)
    tuple : {ts : List Tok} (o m c : Tok) (us vs : List Tok) (y : PatternTree) (ys : List PatternTree) (h i : ℕ) → IsMark (codes "(") o
        → IsMark (codes ",") m → IsMark (codes ")") c → IsPattern us y h → ArePatterns vs ys i → ts ≡ o ∷ (us ++ (m ∷ (vs ++ c ∷ [])))
        → IsPattern ts (plain.tuple_pattern (span_of ts) (patterns_of (y ∷ ys))) (suc (max h i))
    variant : {ts : List Tok} (e p v : Tok) → IsName e → IsMark (codes "::") p → IsName v → ts ≡ e ∷ p ∷ v ∷ []
        → IsPattern ts (plain.variant_pattern (span_of ts) (ident e) (ident v) plain.no_pattern) 1
    variant_with : {ts : List Tok} (e p v o c : Tok) (us : List Tok) (y : PatternTree) (ys : List PatternTree) (h : ℕ) → IsName e
        → IsMark (codes "::") p → IsName v → IsMark (codes "(") o → IsMark (codes ")") c → ArePatterns us (y ∷ ys) h
        → ts ≡ e ∷ p ∷ v ∷ o ∷ (us ++ c ∷ [])
        → IsPattern ts (plain.variant_pattern (span_of ts) (ident e) (ident v) (patterns_of (y ∷ ys))) (suc h)
    structure : {ts : List Tok} (n o c : Tok) (us : List Tok) (fs : List (Ident × PatternTree)) (h : ℕ) → IsName n → IsMark (codes "{") o
        → IsMark (codes "}") c → AreFieldPatterns us fs h → ts ≡ n ∷ o ∷ (us ++ c ∷ [])
        → IsPattern ts (plain.make_pattern (span_of ts) (ident n) (field_patterns_of fs)) (suc h)

  pub data ArePatterns : List Tok → List PatternTree → ℕ → Type 0 where
    no_pattern : ArePatterns [] [] 0
    last_pattern : {ts : List Tok} {y : PatternTree} {h : ℕ} → IsPattern ts y h → ArePatterns ts (y ∷ []) h
    pattern_and : {ts : List Tok} (us vs : List Tok) (c : Tok) (y : PatternTree) (ys : List PatternTree) (m n : ℕ) → IsPattern us y m
        → IsMark (codes ",") c → ArePatterns vs ys n → ts ≡ us ++ (c ∷ vs) → ArePatterns ts (y ∷ ys) (max m n)

  -- a field and its pattern; a field alone binds the variable of its name
  pub data IsFieldPattern : List Tok → Ident × PatternTree → ℕ → Type 0 where
    field : {ts : List Tok} (n d : Tok) (us : List Tok) (y : PatternTree) (h : ℕ) → IsName n → IsMark (codes ":") d → IsPattern us y h
        → ts ≡ n ∷ d ∷ us → IsFieldPattern ts (ident n, y) h
    short_field : {ts : List Tok} (n : Tok) → IsName n → ts ≡ n ∷ [] → IsFieldPattern ts (ident n, plain.bind (span_of ts) (ident n) false) 1
    short_mutable : {ts : List Tok} (m n : Tok) → IsKeyword (codes "mut") m → IsName n → ts ≡ m ∷ n ∷ []
        → IsFieldPattern ts (ident n, plain.bind (span_of ts) (ident n) true) 1

  pub data AreFieldPatterns : List Tok → List (Ident × PatternTree) → ℕ → Type 0 where
    no_field : AreFieldPatterns [] [] 0
    last_field : {ts : List Tok} {f : Ident × PatternTree} {h : ℕ} → IsFieldPattern ts f h → AreFieldPatterns ts (f ∷ []) h
    field_and : {ts : List Tok} (us vs : List Tok) (c : Tok) (f : Ident × PatternTree) (fs : List (Ident × PatternTree)) (m n : ℕ)
        → IsFieldPattern us f m → IsMark (codes ",") c → AreFieldPatterns vs fs n → ts ≡ us ++ (c ∷ vs) → AreFieldPatterns ts (f ∷ fs) (max m n)
