-- A type that the grammar derives is read, where no `<` follows: by induction on derivations.
use Rattle.std.proofs.Common.{◌≡◌, ℕ, zero, suc, ◌≤◌, Bool, true, false, List, [], ◌∷◌, ◌++◌, Option, Some, None, refl, sym, ap, ◌∙◌, arith, append_assoc}
use Rattle.std.specs.Prelude.{◌≢◌}
use Rattle.rx_core.specs.declared.types.Span.{Span}
use Rattle.rx_core.specs.declared.types.Kind.{Kind}
use Rattle.rx_core.specs.declared.types.Kind.TheVariants.{U8, U32, U64, I32, I64}
use Rattle.rx_tree.specs.declared.tree.Ident.{Ident}
use Rattle.rx_tree.specs.Plain as plain
use Rattle.rx_tree.specs.Plain.{TypeTree}
use Rattle.rx_tree.specs.PlainOf.{types_of}
use Rattle.rx_lex.specs.Tok.{Tok}
use Rattle.rx_lex.specs.Numerals.{kind_name}
use Rattle.rx_parse_grammar.specs.declared.symbol.Symbol.{Symbol}
use Rattle.rx_parse_grammar.specs.declared.symbol.Symbol.TheVariants as symbol
use Rattle.rx_parse_grammar.specs.grammar.Words.{IsKeyword, IsMutability, immutable, mutable, IsListOf, no_element, last_element, element, join, span_of, ident, second_ampersand}
use Rattle.rx_parse_grammar.specs.grammar.Types.{IsType, AreTypes, IsReferenceLifetime, IsLifetimeArgument, no_lifetime, anonymous, lifetime, anonymous_argument, lifetime_argument}
use Rattle.rx_parse_grammar.specs.grammar.Types as g
use Rattle.rx_parse_grammar.specs.parser.Symbols.{symbol_of, peek}
use Rattle.rx_parse_grammar.specs.parser.Steps.{pure, node}
use Rattle.rx_parse_grammar.specs.parser.Types.{begins_type, mutability, reference_lifetime, lifetime_argument_by, named_type, reference, two_references, type_by, typ}
use Rattle.rx_parse_grammar.specs.parser.Types as parser
use Rattle.rx_parse_grammar.proofs.SymbolLemmas.{Stands}
use Rattle.rx_parse_grammar.proofs.Reading.{Reads, take, part, last, done, by, here, there, room, first_is, got, leaf_is, node_is, placed, span_between, span_past, differs, some_first, deeper, mapped, Element, some_listed, unit_reads, parentheses_read, tuple_reads}

-- what may follow a type
abbrev pub EndsType : Symbol → Type 0
EndsType q = q ≢ symbol.Less

-- ---- what a type begins with

kind_front : (k : Kind) (t : Tok) → IsKeyword (kind_name k) t → begins_type (symbol_of t) ≡ true
kind_front U8 t s = ap begins_type (first_is symbol.U8 t refl s)
kind_front U32 t s = ap begins_type (first_is symbol.U32 t refl s)
kind_front U64 t s = ap begins_type (first_is symbol.U64 t refl s)
kind_front I32 t s = ap begins_type (first_is symbol.I32 t refl s)
kind_front I64 t s = ap begins_type (first_is symbol.I64 t refl s)

pub at_front : (b : Symbol → Bool) {ts : List Tok} (t : Tok) (us rest : List Tok) → ts ≡ t ∷ us → b (symbol_of t) ≡ true → b (peek (ts ++ rest)) ≡ true
at_front b t us rest is e = ap (λ z. b (peek (z ++ rest))) is ∙ e

pub type_front : {ts : List Tok} {y : TypeTree} {h : ℕ} → IsType ts y h → (rest : List Tok) → begins_type (peek (ts ++ rest)) ≡ true
type_front (g.kind t k s is) rest = at_front begins_type t _ rest is (kind_front k t s)
type_front (g.bool t s is) rest = at_front begins_type t _ rest is (ap begins_type (first_is symbol.Bool t refl s))
type_front (g.named t s is) rest = at_front begins_type t _ rest is (ap begins_type (first_is symbol.Name t refl s))
type_front (g.named_with t o c us l ls s so sc inner is) rest = at_front begins_type t _ rest is (ap begins_type (first_is symbol.Name t refl s))
type_front (g.reference t ls ms us l m y h s a b inner is) rest = at_front begins_type t _ rest is (ap begins_type (first_is symbol.Ampersand t refl s))
type_front (g.two_references t us y h s inner is) rest = at_front begins_type t _ rest is (ap begins_type (first_is symbol.AndAnd t refl s))
type_front (g.unit o c so sc is) rest = at_front begins_type o _ rest is (ap begins_type (first_is symbol.OpenParen o refl so))
type_front (g.parentheses o c us y h so sc inner is) rest = at_front begins_type o _ rest is (ap begins_type (first_is symbol.OpenParen o refl so))
type_front (g.tuple o m c us vs y ys h i so sm sc inner more is) rest = at_front begins_type o _ rest is (ap begins_type (first_is symbol.OpenParen o refl so))

pub type_some : {ts : List Tok} {y : TypeTree} {h : ℕ} → IsType ts y h → ts ≢ []
type_some {ts = ts} r = some_first begins_type ts refl (type_front r [])

pub type_positive : {ts : List Tok} {y : TypeTree} {h : ℕ} → IsType ts y h → 1 ≤ h
type_positive (g.kind t k s is) = omega arith
type_positive (g.bool t s is) = omega arith
type_positive (g.named t s is) = omega arith
type_positive (g.named_with t o c us l ls s so sc inner is) = omega arith
type_positive (g.reference t ls ms us l m y h s a b inner is) = omega arith
type_positive (g.two_references t us y h s inner is) = omega arith
type_positive (g.unit o c so sc is) = omega arith
type_positive (g.parentheses o c us y h so sc inner is) = omega arith
type_positive (g.tuple o m c us vs y ys h i so sm sc inner more is) = omega arith

-- ---- `mut` and lifetimes

pub mutability_reads : {ms : List Tok} {m : Bool} → IsMutability ms m → (rest : List Tok) → peek rest ≢ symbol.Mut → Reads mutability ms m rest
unfolding mutability
mutability_reads immutable rest n = there _ n (done refl)
mutability_reads (mutable t s) rest n = here _ (first_is symbol.Mut t refl s) (take _ symbol.Mut t refl s (done refl))

lifetime_reads : {ls : List Tok} {l : Option Ident} → IsReferenceLifetime ls l → (rest : List Tok) → peek rest ≢ symbol.Lifetime → peek rest ≢ symbol.Anonymous → Reads reference_lifetime ls l rest
unfolding reference_lifetime
lifetime_reads no_lifetime rest n m = there _ n (there _ m (done refl))
lifetime_reads (anonymous t s) rest n m =
    let e = first_is symbol.Anonymous t refl s in
    there _ (λ a. let z = sym e ∙ a in cc) (here _ e (take _ symbol.Anonymous t refl s (done refl)))
lifetime_reads (lifetime t s) rest n m = here _ (first_is symbol.Lifetime t refl s) (take _ symbol.Lifetime t refl s (done refl))

-- what may stand behind the lifetime of a reference
begins_referred : Symbol → Bool
begins_referred symbol.Mut = true
begins_referred q = begins_type q

referred : (q : Symbol) → begins_type q ≡ true → begins_referred q ≡ true
unfolding begins_referred
referred symbol.Mut e = refl
referred _ e = e

referred_front : {ms : List Tok} {m : Bool} → IsMutability ms m → (us rest : List Tok) → begins_type (peek (us ++ rest)) ≡ true → begins_referred (peek ((ms ++ us) ++ rest)) ≡ true
unfolding begins_referred
referred_front immutable us rest b = referred (peek (us ++ rest)) b
referred_front (mutable t s) us rest b = ap begins_referred (first_is symbol.Mut t refl s)

not_referred : (p q : Symbol) → begins_referred p ≡ true → begins_referred q ≡ false → p ≢ q
not_referred p q = differs begins_referred p q

abbrev Anything : Symbol → Type 0
Anything q = zero ≡ zero

argument_element : (us : List Tok) (l : Option Ident) (h : ℕ) → IsLifetimeArgument us l h → Element parser.lifetime_argument Anything symbol.Greater us l h
unfolding parser.lifetime_argument
argument_element us l h (anonymous_argument t s) =
    let e = first_is symbol.Anonymous t refl s in
    record { front = λ rest a. let z = sym e ∙ a in cc; reads = λ rest n. by lifetime_argument_by symbol.Anonymous e (take _ symbol.Anonymous t refl s (done refl)) }
argument_element us l h (lifetime_argument t s) =
    let e = first_is symbol.Lifetime t refl s in
    record { front = λ rest a. let z = sym e ∙ a in cc; reads = λ rest n. by lifetime_argument_by symbol.Lifetime e (take _ symbol.Lifetime t refl s (done refl)) }

-- ---- the cases

module _ (d : ℕ) (rest : List Tok) where
  kind_case : (k : Kind) (t : Tok) → IsKeyword (kind_name k) t → Reads (typ (suc d)) (t ∷ []) (got (t ∷ []) (plain.kind_type (span_of (t ∷ [])) k) 1) rest
  unfolding typ
  kind_case U8 t s = by (type_by (typ d) d) symbol.U8 (first_is symbol.U8 t refl s) (take _ symbol.U8 t refl s (done refl))
  kind_case U32 t s = by (type_by (typ d) d) symbol.U32 (first_is symbol.U32 t refl s) (take _ symbol.U32 t refl s (done refl))
  kind_case U64 t s = by (type_by (typ d) d) symbol.U64 (first_is symbol.U64 t refl s) (take _ symbol.U64 t refl s (done refl))
  kind_case I32 t s = by (type_by (typ d) d) symbol.I32 (first_is symbol.I32 t refl s) (take _ symbol.I32 t refl s (done refl))
  kind_case I64 t s = by (type_by (typ d) d) symbol.I64 (first_is symbol.I64 t refl s) (take _ symbol.I64 t refl s (done refl))

  bool_case : (t : Tok) → Stands symbol.Bool t → Reads (typ (suc d)) (t ∷ []) (got (t ∷ []) (plain.bool_type (span_of (t ∷ []))) 1) rest
  unfolding typ
  bool_case t s = by (type_by (typ d) d) symbol.Bool (first_is symbol.Bool t refl s) (take _ symbol.Bool t refl s (done refl))

  named_case : (t : Tok) → Stands symbol.Name t → peek rest ≢ symbol.Less → Reads (typ (suc d)) (t ∷ []) (got (t ∷ []) (plain.named_type (span_of (t ∷ [])) (ident t) None) 1) rest
  unfolding typ named_type
  named_case t s n = by (type_by (typ d) d) symbol.Name (first_is symbol.Name t refl s) (take _ symbol.Name t refl s (there _ n (done refl)))

  named_with_case : (t o c : Tok) (us : List Tok) (l : Option Ident) (ls : List (Option Ident)) → Stands symbol.Name t → Stands symbol.Less o → Stands symbol.Greater c
      → IsListOf IsLifetimeArgument us (l ∷ ls) 0 → Reads (typ (suc d)) (t ∷ o ∷ (us ++ (c ∷ []))) (got (t ∷ o ∷ (us ++ (c ∷ []))) (plain.named_type (span_of (t ∷ o ∷ (us ++ (c ∷ [])))) (ident t) (Some (l ∷ ls))) 1) rest
  unfolding typ named_type
  named_with_case t o c us l ls s so sc inner =
      by (type_by (typ d) d) symbol.Name (first_is symbol.Name t refl s) (take _ symbol.Name t refl s (here _ (first_is symbol.Less o refl so) (take _ symbol.Less o refl so
      (some_listed _ Anything c refl refl (record { word = refl; stands = sc; no_comma = λ a. cc }) (mapped argument_element inner)
      (done (leaf_is (λ s. plain.named_type s (ident t) (Some (l ∷ ls))) (join t.span c.span) (t ∷ o ∷ (us ++ (c ∷ []))) (span_between (o ∷ us) t c)))))))

  reference_case : (t : Tok) (ls ms us : List Tok) (l : Option Ident) (m : Bool) (y : TypeTree) (h : ℕ) → 1 ≤ d → Stands symbol.Ampersand t → IsReferenceLifetime ls l → IsMutability ms m
      → begins_type (peek (us ++ rest)) ≡ true → us ≢ [] → Reads (typ d) us (got us y h) rest
      → Reads (typ (suc d)) (t ∷ (ls ++ (ms ++ us))) (got (t ∷ (ls ++ (ms ++ us))) (plain.ref_type (span_of (t ∷ (ls ++ (ms ++ us)))) l m y) (suc h)) rest
  unfolding typ reference begins_referred
  reference_case t ls ms us l m y h low s a b front some r =
      let f = referred_front b us rest front in
      by (type_by (typ d) d) symbol.Ampersand (first_is symbol.Ampersand t refl s) (room low (take _ symbol.Ampersand t refl s
      (part _ (lifetime_reads a ((ms ++ us) ++ rest) (not_referred _ symbol.Lifetime f refl) (not_referred _ symbol.Anonymous f refl))
      (part _ (mutability_reads b (us ++ rest) (differs begins_type _ symbol.Mut front refl))
      (last _ r (done (node_is (λ s. plain.ref_type s l m y) (join t.span (span_of us)) h (t ∷ (ls ++ (ms ++ us)))
      (span_past t (ls ++ ms) us some ∙ ap (λ z. span_of (t ∷ z)) (append_assoc ls ms us)))))))))

  second_span : (t : Tok) (us : List Tok) → join t.span (span_of (second_ampersand t ∷ us)) ≡ span_of (t ∷ us)
  second_span t [] = refl
  second_span t (u ∷ us) = refl

  two_case : (t : Tok) (us : List Tok) (y : TypeTree) (h : ℕ) → 1 ≤ d → Stands symbol.AndAnd t → Reads (typ d) (second_ampersand t ∷ us) (got (second_ampersand t ∷ us) y h) rest
      → Reads (typ (suc d)) (t ∷ us) (got (t ∷ us) (plain.ref_type (span_of (t ∷ us)) None false y) (suc h)) rest
  unfolding typ two_references
  two_case t us y h low s r =
      by (type_by (typ d) d) symbol.AndAnd (first_is symbol.AndAnd t refl s) (room low (take _ symbol.AndAnd t refl s
      (last {p = λ i. typ d (second_ampersand t ∷ i)} (λ y. pure (node (λ s. plain.ref_type s None false y.tree) (join t.span y.span) y.height)) (record { read = r.read }) (done (node_is (λ s. plain.ref_type s None false y) (join t.span (span_of (second_ampersand t ∷ us))) h (t ∷ us) (second_span t us))))))

  group_case : (o : Tok) (us : List Tok) (y : TypeTree) (h : ℕ) → Stands symbol.OpenParen o → Reads (parser.type_by (typ d) d symbol.OpenParen) (o ∷ us) (got (o ∷ us) y h) rest
      → Reads (typ (suc d)) (o ∷ us) (got (o ∷ us) y h) rest
  unfolding typ
  group_case o us y h s r = by (type_by (typ d) d) symbol.OpenParen (first_is symbol.OpenParen o refl s) r

-- a type as an element of a list
type_listed : {us : List Tok} {y : TypeTree} {h : ℕ} → IsType us y h → (d : ℕ) → h ≤ d → (close : Symbol) → begins_type close ≡ false
    → ((c : ℕ) → h ≤ suc c → (rest : List Tok) → peek rest ≢ symbol.Less → Reads (typ (suc c)) us (got us y h) rest) → Element (typ d) EndsType close us y h
type_listed {us = us} {y = y} {h = h} r d b close n f = record {
  front = λ rest. differs begins_type (peek (us ++ rest)) close (type_front r rest) n;
  reads = λ rest e. deeper (λ d. Reads (typ d) us (got us y h) rest) h d (type_positive r) b (λ c l. f c l rest e);
}

abbrev tuple_of : Span → List TypeTree → TypeTree
tuple_of s l = plain.tuple_type s (types_of l)

mutual
  -- a type of at most so many levels
  type_reads : {ts : List Tok} {y : TypeTree} {h : ℕ} → IsType ts y h → (d : ℕ) → h ≤ suc d → (rest : List Tok) → peek rest ≢ symbol.Less → Reads (typ (suc d)) ts (got ts y h) rest
  type_reads (g.kind t k s is) d b rest n = placed (λ s. plain.kind_type s k) (t ∷ []) is (kind_case d rest k t s)
  type_reads (g.bool t s is) d b rest n = placed plain.bool_type (t ∷ []) is (bool_case d rest t s)
  type_reads (g.named t s is) d b rest n = placed (λ s. plain.named_type s (ident t) None) (t ∷ []) is (named_case d rest t s n)
  type_reads (g.named_with t o c us l ls s so sc inner is) d b rest n =
      placed (λ s. plain.named_type s (ident t) (Some (l ∷ ls))) (t ∷ o ∷ (us ++ (c ∷ []))) is (named_with_case d rest t o c us l ls s so sc inner)
  type_reads (g.reference t ls ms us l m y h s x z inner is) d b rest n =
      let p = type_positive inner in
      placed (λ s. plain.ref_type s l m y) (t ∷ (ls ++ (ms ++ us))) is
      (reference_case d rest t ls ms us l m y h (omega arith) s x z (type_front inner rest) (type_some inner)
      (deeper (λ d. Reads (typ d) us (got us y h) rest) h d p (omega arith) (λ c e. type_reads inner c e rest n)))
  type_reads (g.two_references t us y h s inner is) d b rest n =
      let p = type_positive inner in
      placed (λ s. plain.ref_type s None false y) (t ∷ us) is
      (two_case d rest t us y h (omega arith) s
      (deeper (λ d. Reads (typ d) (second_ampersand t ∷ us) (got (second_ampersand t ∷ us) y h) rest) h d p (omega arith) (λ c e. type_reads inner c e rest n)))
  type_reads (g.unit o c so sc is) d b rest n =
      placed (λ s. plain.tuple_type s plain.no_type) (o ∷ c ∷ []) is (group_case d rest o _ _ _ so (unit_reads (typ d) tuple_of EndsType o c rest so sc))
  type_reads (g.parentheses o c us y h so sc inner is) d b rest n =
      placed (λ s. y) (o ∷ (us ++ (c ∷ []))) is (group_case d rest o _ _ _ so (parentheses_read (typ d) tuple_of EndsType o c us y h rest (λ a. cc) so sc
      (type_listed inner d (omega arith) symbol.CloseParen refl (type_reads inner))))
  type_reads (g.tuple o m c us vs y ys h i so sm sc inner more is) d b rest n =
      placed (λ s. plain.tuple_type s (types_of (y ∷ ys))) (o ∷ (us ++ (m ∷ (vs ++ (c ∷ []))))) is (group_case d rest o _ _ _ so (tuple_reads (typ d) tuple_of EndsType o m c us vs y ys h i rest (λ a. cc) (λ a. cc) so sm sc
      (type_listed inner d (omega arith) symbol.CloseParen refl (type_reads inner)) (types_listed more d (omega arith) symbol.CloseParen refl)))

  types_listed : {us : List Tok} {ys : List TypeTree} {h : ℕ} → AreTypes us ys h → (d : ℕ) → h ≤ d → (close : Symbol) → begins_type close ≡ false → IsListOf (Element (typ d) EndsType close) us ys h
  types_listed g.no_type d b close n = no_element
  types_listed (g.last_type r) d b close n = last_element (type_listed r d b close n (type_reads r))
  types_listed (g.type_and us vs c y ys m k r s more is) d b close n =
      element us vs c y ys m k (type_listed r d (omega arith) close n (type_reads r)) s (types_listed more d (omega arith) close n) is

-- a type of at most so many levels is read where no `<` follows
pub type_complete : {ts : List Tok} {y : TypeTree} {h : ℕ} → IsType ts y h → (d : ℕ) → h ≤ d → (rest : List Tok) → peek rest ≢ symbol.Less → Reads (typ d) ts (got ts y h) rest
type_complete {ts = ts} {y = y} {h = h} r d b rest n = deeper (λ d. Reads (typ d) ts (got ts y h) rest) h d (type_positive r) b (λ c e. type_reads r c e rest n)

pub types_complete : {us : List Tok} {ys : List TypeTree} {h : ℕ} → AreTypes us ys h → (d : ℕ) → h ≤ d → (close : Symbol) → begins_type close ≡ false → IsListOf (Element (typ d) EndsType close) us ys h
types_complete r d b close n = types_listed r d b close n
