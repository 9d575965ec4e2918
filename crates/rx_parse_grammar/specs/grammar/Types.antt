-- Types (Rust Reference, "Type expressions", "Pointer types", "Tuple types", "Paths"). The last number of each judgement
-- counts the levels: a node is one deeper than the node around it, and a pair of parentheses is a level.
-- A node's span goes from the first to the last token of its production, without the parentheses round it.
use Rattle.std.specs.Prelude.{◌≡◌, ℕ, suc, max, Bool, false, List, [], ◌∷◌, ◌++◌, Option, Some, None, codes}
use Rattle.rx_core.specs.declared.types.Kind.{Kind}
use Rattle.rx_tree.specs.declared.tree.Ident.{Ident}
use Rattle.rx_tree.specs.Plain as plain
use Rattle.rx_tree.specs.Plain.{TypeTree}
use Rattle.rx_tree.specs.PlainOf.{types_of}
use Rattle.rx_lex.specs.Tok.{Tok}
use Rattle.rx_lex.specs.Numerals.{kind_name}
use Rattle.rx_parse_grammar.specs.grammar.Words.{IsMark, IsKeyword, IsName, IsLifetime, IsAnonymous, IsMutability, IsListOf, span_of, ident, second_ampersand}

-- the lifetime of a reference: `'_` is as if none were written
pub data IsReferenceLifetime : List Tok → Option Ident → Type 0 where
  no_lifetime : IsReferenceLifetime [] None
  anonymous : (t : Tok) → IsAnonymous t → IsReferenceLifetime (t ∷ []) None
  lifetime : (t : Tok) → IsLifetime t → IsReferenceLifetime (t ∷ []) (Some (ident t))

-- a lifetime behind the name of a type
pub data IsLifetimeArgument : List Tok → Option Ident → ℕ → Type 0 where
  anonymous_argument : (t : Tok) → IsAnonymous t → IsLifetimeArgument (t ∷ []) None 0
  lifetime_argument : (t : Tok) → IsLifetime t → IsLifetimeArgument (t ∷ []) (Some (ident t)) 0

mutual
  pub data IsType : List Tok → TypeTree → ℕ → Type 0 where
    kind : {ts : List Tok} (t : Tok) (k : Kind) → IsKeyword (kind_name k) t → ts ≡ t ∷ [] → IsType ts (plain.kind_type (span_of ts) k) 1
    bool : {ts : List Tok} (t : Tok) → IsKeyword (codes "bool") t → ts ≡ t ∷ [] → IsType ts (plain.bool_type (span_of ts)) 1
    named : {ts : List Tok} (t : Tok) → IsName t → ts ≡ t ∷ [] → IsType ts (plain.named_type (span_of ts) (ident t) None) 1
    named_with : {ts : List Tok} (t o c : Tok) (us : List Tok) (l : Option Ident) (ls : List (Option Ident)) → IsName t → IsMark (codes "<") o
        → IsMark (codes ">") c → IsListOf IsLifetimeArgument us (l ∷ ls) 0 → ts ≡ t ∷ o ∷ (us ++ c ∷ [])
        → IsType ts (plain.named_type (span_of ts) (ident t) (Some (l ∷ ls))) 1
    reference : {ts : List Tok} (t : Tok) (ls ms us : List Tok) (l : Option Ident) (m : Bool) (y : TypeTree) (h : ℕ) → IsMark (codes "&") t
        → IsReferenceLifetime ls l → IsMutability ms m → IsType us y h → ts ≡ t ∷ (ls ++ (ms ++ us))
        → IsType ts (plain.ref_type (span_of ts) l m y) (suc h)
    two_references : {ts : List Tok} (t : Tok) (us : List Tok) (y : TypeTree) (h : ℕ) → IsMark (codes "&&") t
        → IsType (second_ampersand t ∷ us) y h → ts ≡ t ∷ us → IsType ts (plain.ref_type (span_of ts) None false y) (suc h)
    unit : {ts : List Tok} (o c : Tok) → IsMark (codes "(") o → IsMark (codes ")") c → ts ≡ o ∷ c ∷ []
        → IsType ts (plain.tuple_type (span_of ts) plain.no_type) 1
    parentheses : {ts : List Tok} (o c : Tok) (us : List Tok) (y : TypeTree) (h : ℕ) → IsMark (codes "(") o → IsMark (codes ")") c → IsType us y h
        → ts ≡ o ∷ (us ++ c ∷ []) → IsType ts y (suc h)
    tuple : {ts : List Tok} (o m c : Tok) (us vs : List Tok) (y : TypeTree) (ys : List TypeTree) (h i : ℕ) → IsMark (codes "(") o
        → IsMark (codes ",") m → IsMark (codes ")") c → IsType us y h → AreTypes vs ys i → ts ≡ o ∷ (us ++ (m ∷ (vs ++ c ∷ [])))
        → IsType ts (plain.tuple_type (span_of ts) (types_of (y ∷ ys))) (suc (max h i))

  -- types with commas between them and perhaps behind the last
  pub data AreTypes : List Tok → List TypeTree → ℕ → Type 0 where
    no_type : AreTypes [] [] 0
    last_type : {ts : List Tok} {y : TypeTree} {h : ℕ} → IsType ts y h → AreTypes ts (y ∷ []) h
    type_and : {ts : List Tok} (us vs : List Tok) (c : Tok) (y : TypeTree) (ys : List TypeTree) (m n : ℕ) → IsType us y m → IsMark (codes ",") c
        → AreTypes vs ys n → ts ≡ us ++ (c ∷ vs) → AreTypes ts (y ∷ ys) (max m n)
