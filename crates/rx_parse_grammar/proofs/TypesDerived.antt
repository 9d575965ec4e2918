-- A type that is read is one that the grammar derives.
use Rattle.std.proofs.Common.{◌≡◌, ℕ, zero, suc, false, List, [], ◌∷◌, ◌++◌, Option, Some, None, refl, ap, subst, ◌∙◌, arith, append_assoc}
use Rattle.rx_core.specs.declared.types.Kind.TheVariants.{U8, U32, U64, I32, I64}
use Rattle.rx_tree.specs.declared.tree.Ident.{Ident}
use Rattle.rx_tree.specs.Plain as plain
use Rattle.rx_tree.specs.Plain.{TypeTree}
use Rattle.rx_lex.specs.Tok.{Tok}
use Rattle.rx_parse_grammar.specs.declared.symbol.Symbol.{Symbol}
use Rattle.rx_parse_grammar.specs.declared.symbol.Symbol.TheVariants as symbol
use Rattle.rx_parse_grammar.specs.grammar.Words.{IsMutability, immutable, mutable, IsListOf, no_element, last_element, element, join, span_of, ident, second_ampersand}
use Rattle.rx_parse_grammar.specs.grammar.Types.{IsType, AreTypes, IsReferenceLifetime, IsLifetimeArgument, no_lifetime, anonymous, lifetime, anonymous_argument, lifetime_argument}
use Rattle.rx_parse_grammar.specs.grammar.Types as g
use Rattle.rx_parse_grammar.specs.parser.Types.{begins_type, mutability, reference_lifetime, lifetime_argument_by, kind_by, named_type, reference, two_references, type_by, typ}
use Rattle.rx_parse_grammar.specs.parser.Types as parser
use Rattle.rx_parse_grammar.proofs.Reading.{span_between, span_past}
use Rattle.rx_parse_grammar.proofs.Deriving.{Derives, Fits, fits_leaf, fits_node, took, passed, passed_last, gave, chose, either, roomy, refused, stopped, some_listed_found, group_found, after_first}
use Rattle.rx_parse_grammar.proofs.TypesRead.{type_some}

-- what a list of types is
pub types_are : {us : List Tok} {ys : List TypeTree} {h : ℕ} → IsListOf IsType us ys h → AreTypes us ys h
types_are no_element = g.no_type
types_are (last_element r) = g.last_type r
types_are (element us vs c y ys m n r s more is) = g.type_and us vs c y ys m n r s (types_are more) is

-- a list of things without levels has none
pub no_levels : {us : List Tok} {l : List (Option Ident)} {h : ℕ} → IsListOf IsLifetimeArgument us l h → h ≡ 0
no_levels no_element = refl
no_levels (last_element (anonymous_argument t s)) = refl
no_levels (last_element (lifetime_argument t s)) = refl
no_levels (element us vs c x xs m n (anonymous_argument t s) e more is) = let z = no_levels more in omega arith
no_levels (element us vs c x xs m n (lifetime_argument t s) e more is) = let z = no_levels more in omega arith

pub mutability_derived : Derives mutability IsMutability
unfolding mutability
mutability_derived = either symbol.Mut (took symbol.Mut refl (λ t s. gave (mutable t s))) (gave immutable)

lifetime_derived : Derives reference_lifetime IsReferenceLifetime
unfolding reference_lifetime
lifetime_derived = either symbol.Lifetime (took symbol.Lifetime refl (λ t s. gave (lifetime t s)))
    (either symbol.Anonymous (took symbol.Anonymous refl (λ t s. gave (anonymous t s))) (gave no_lifetime))

argument_by_derived : (q : Symbol) → Derives (lifetime_argument_by q) (Fits IsLifetimeArgument 0)
argument_by_derived symbol.Lifetime = took symbol.Lifetime refl (λ t s. gave (record { low = omega arith; span = refl; holds = lifetime_argument t s }))
argument_by_derived symbol.Anonymous = took symbol.Anonymous refl (λ t s. gave (record { low = omega arith; span = refl; holds = anonymous_argument t s }))
argument_by_derived _ = refused

argument_derived : Derives parser.lifetime_argument (Fits IsLifetimeArgument 0)
unfolding parser.lifetime_argument
argument_derived = chose lifetime_argument_by argument_by_derived

named_derived : (d : ℕ) → Derives named_type (Fits IsType (suc d))
unfolding named_type
named_derived d = took symbol.Name refl (λ t s. either symbol.Less
    (took symbol.Less refl (λ o so. some_listed_found symbol.Greater _ refl argument_derived (λ us c l ls h sc inner b.
    gave (fits_leaf (λ s. plain.named_type s (ident t) (Some (l ∷ ls))) (span_between (o ∷ us) t c)
    (g.named_with t o c us l ls s so sc (subst (λ n. IsListOf IsLifetimeArgument us (l ∷ ls) n) (no_levels inner) inner) refl)))))
    (gave (fits_leaf (λ s. plain.named_type s (ident t) None) refl (g.named t s refl))))

pub second_span : (t : Tok) (us : List Tok) → join t.span (span_of (second_ampersand t ∷ us)) ≡ span_of (t ∷ us)
second_span t [] = refl
second_span t (u ∷ us) = refl

module _ (d : ℕ) (ok : Derives (typ d) (Fits IsType d)) where
  reference_derived : Derives (reference (typ d) d) (Fits IsType (suc d))
  unfolding reference
  reference_derived = roomy 1 d (λ low. took symbol.Ampersand refl (λ t s. passed lifetime_derived (λ ls l a. passed mutability_derived (λ ms m b. passed_last _ ok (λ us y f.
      fits_node (λ s. plain.ref_type s l m y.tree) (ap (λ z. join t.span z) f.span ∙ span_past t (ls ++ ms) us (type_some f.holds) ∙ ap (λ z. span_of (t ∷ z)) (append_assoc ls ms us)) f.low
      (g.reference t ls ms us l m y.tree y.height s a b f.holds refl))))))

  two_derived : Derives (two_references (typ d) d) (Fits IsType (suc d))
  unfolding two_references
  two_derived = roomy 1 d (λ low. took symbol.AndAnd refl (λ t s. passed_last _ (after_first (typ d) (second_ampersand t) (λ ts y h r. type_some r) ok) (λ us y f.
      fits_node (λ s. plain.ref_type s None false y.tree) (ap (λ z. join t.span z) f.span ∙ second_span t us) f.low (g.two_references t us y.tree y.height s f.holds refl))))

  type_by_derived : (q : Symbol) → Derives (type_by (typ d) d q) (Fits IsType (suc d))
  type_by_derived symbol.Name = named_derived d
  type_by_derived symbol.Bool = took symbol.Bool refl (λ t s. gave (fits_leaf plain.bool_type refl (g.bool t s refl)))
  type_by_derived symbol.U8 = took symbol.U8 refl (λ t s. gave (fits_leaf (λ s. plain.kind_type s U8) refl (g.kind t U8 s refl)))
  type_by_derived symbol.U32 = took symbol.U32 refl (λ t s. gave (fits_leaf (λ s. plain.kind_type s U32) refl (g.kind t U32 s refl)))
  type_by_derived symbol.U64 = took symbol.U64 refl (λ t s. gave (fits_leaf (λ s. plain.kind_type s U64) refl (g.kind t U64 s refl)))
  type_by_derived symbol.I32 = took symbol.I32 refl (λ t s. gave (fits_leaf (λ s. plain.kind_type s I32) refl (g.kind t I32 s refl)))
  type_by_derived symbol.I64 = took symbol.I64 refl (λ t s. gave (fits_leaf (λ s. plain.kind_type s I64) refl (g.kind t I64 s refl)))
  type_by_derived symbol.Ampersand = reference_derived
  type_by_derived symbol.AndAnd = two_derived
  type_by_derived symbol.OpenParen = group_found _ IsType IsType ok
      (λ o c so sc. g.unit o c so sc refl)
      (λ o c us y h so sc r. g.parentheses o c us y h so sc r refl)
      (λ o m c us vs y ys h i so sm sc r more. g.tuple o m c us vs y ys h i so sm sc r (types_are more) refl)
  type_by_derived _ = refused

-- what is read is a type of at most so many levels
pub type_sound : (d : ℕ) → Derives (typ d) (Fits IsType d)
unfolding typ
type_sound zero = stopped begins_type
type_sound (suc d) = chose (type_by (typ d) d) (type_by_derived d (type_sound d))
