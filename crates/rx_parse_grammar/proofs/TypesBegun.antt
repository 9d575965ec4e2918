-- What the tokens begin that the parser of types passed before it stopped.
use Rattle.rx_parse_grammar.proofs.TypesDerived.{types_are, no_levels, second_span}
use Rattle.std.proofs.Common.{◌≡◌, ℕ, zero, suc, true, false, [], ◌∷◌, ◌++◌, Some, None, refl, ap, subst, ◌∙◌, append_assoc}
use Rattle.rx_core.specs.declared.types.Kind.TheVariants.{U8, U32, U64, I32, I64}
use Rattle.rx_tree.specs.Plain as plain
use Rattle.rx_tree.specs.Plain.{TypeTree}
use Rattle.rx_lex.specs.Tok.{Tok}
use Rattle.rx_parse_grammar.specs.declared.symbol.Symbol.{Symbol}
use Rattle.rx_parse_grammar.specs.declared.symbol.Symbol.TheVariants as symbol
use Rattle.rx_parse_grammar.specs.grammar.Words.{IsMutability, immutable, mutable, IsListOf, join, span_of, ident, second_ampersand}
use Rattle.rx_parse_grammar.specs.grammar.Types.{IsType, AreTypes, IsReferenceLifetime, IsLifetimeArgument, no_lifetime, anonymous, lifetime, anonymous_argument, lifetime_argument}
use Rattle.rx_parse_grammar.specs.grammar.Types as g
use Rattle.rx_parse_grammar.specs.parser.Types.{begins_type, mutability, reference_lifetime, lifetime_argument_by, kind_by, named_type, reference, two_references, type_by, typ}
use Rattle.rx_parse_grammar.specs.parser.Types as parser
use Rattle.rx_parse_grammar.proofs.Reading.{span_between, span_past}
use Rattle.rx_parse_grammar.proofs.Begun.{took, passed, passed_last, gave, chose, either, refused, Known, any, at, Begun, Completes, roomed, stopped, stand_in, stand_in_stands, words_of}
use Rattle.rx_parse_grammar.proofs.BegunLists.{Fits, fits_leaf, fits_node, some_listed_found, group_found, halved_last, whole_part}
use Rattle.rx_parse_grammar.specs.parser.Symbols.{symbol_of}
use Rattle.rx_parse_grammar.specs.parser.Steps.{node}
use Rattle.rx_parse_grammar.proofs.SymbolLemmas.{Stands, stands}
use Rattle.rx_parse_grammar.proofs.TypesRead.{type_some}

pub mutability_begun : {K : Known} → Begun K mutability IsMutability
unfolding mutability
mutability_begun = either symbol.Mut (took symbol.Mut refl (λ t s. gave (mutable t s))) (gave immutable)

lifetime_begun : {K : Known} → Begun K reference_lifetime IsReferenceLifetime
unfolding reference_lifetime
lifetime_begun = either symbol.Lifetime (took symbol.Lifetime refl (λ t s. gave (lifetime t s)))
    (either symbol.Anonymous (took symbol.Anonymous refl (λ t s. gave (anonymous t s))) (gave no_lifetime))

argument_by_begun : (q : Symbol) → Begun (at q) (lifetime_argument_by q) (Fits IsLifetimeArgument)
argument_by_begun symbol.Lifetime = took symbol.Lifetime refl (λ t s. gave (record { span = refl; holds = lifetime_argument t s }))
argument_by_begun symbol.Anonymous = took symbol.Anonymous refl (λ t s. gave (record { span = refl; holds = anonymous_argument t s }))
argument_by_begun _ = refused (whole_part [] (stand_in symbol.Lifetime ∷ []) _ _ (words_of (symbol.Lifetime ∷ []) refl) (lifetime_argument (stand_in symbol.Lifetime) (stand_in_stands symbol.Lifetime refl)))

argument_begun : {K : Known} → Begun K parser.lifetime_argument (Fits IsLifetimeArgument)
unfolding parser.lifetime_argument
argument_begun = chose lifetime_argument_by argument_by_begun

named_begun : {K : Known} → Begun K named_type (Fits IsType)
unfolding named_type
named_begun = took symbol.Name refl (λ t s. either symbol.Less
    (took symbol.Less refl (λ o so. some_listed_found symbol.Greater _ refl argument_begun (λ us c l ls h sc inner.
    gave (fits_leaf (λ s. plain.named_type s (ident t) (Some (l ∷ ls))) (span_between (o ∷ us) t c)
    (g.named_with t o c us l ls s so sc (subst (λ n. IsListOf IsLifetimeArgument us (l ∷ ls) n) (no_levels inner) inner) refl)))))
    (gave (fits_leaf (λ s. plain.named_type s (ident t) None) refl (g.named t s refl))))

-- ---- what a type begins with

some_type : IsType (stand_in symbol.Bool ∷ []) (plain.bool_type (span_of (stand_in symbol.Bool ∷ []))) 1
some_type = g.bool (stand_in symbol.Bool) (stand_in_stands symbol.Bool refl) refl

referred : (t : Tok) → Stands symbol.Ampersand t → IsType (t ∷ stand_in symbol.Bool ∷ []) (plain.ref_type (span_of (t ∷ stand_in symbol.Bool ∷ [])) None false (plain.bool_type (span_of (stand_in symbol.Bool ∷ [])))) 2
referred t s = g.reference t [] [] (stand_in symbol.Bool ∷ []) None false _ _ s no_lifetime immutable some_type refl

pub type_completes : Completes (Fits IsType) []
type_completes = whole_part [] (stand_in symbol.Bool ∷ []) _ _ (words_of (symbol.Bool ∷ []) refl) some_type

first_type : (q : Symbol) → begins_type q ≡ true → (t : Tok) → Stands q t → Completes (Fits IsType) (t ∷ [])
first_type symbol.Name e t s = whole_part (t ∷ []) [] _ _ tt (g.named t s refl)
first_type symbol.Bool e t s = whole_part (t ∷ []) [] _ _ tt (g.bool t s refl)
first_type symbol.U8 e t s = whole_part (t ∷ []) [] _ _ tt (g.kind t U8 s refl)
first_type symbol.U32 e t s = whole_part (t ∷ []) [] _ _ tt (g.kind t U32 s refl)
first_type symbol.U64 e t s = whole_part (t ∷ []) [] _ _ tt (g.kind t U64 s refl)
first_type symbol.I32 e t s = whole_part (t ∷ []) [] _ _ tt (g.kind t I32 s refl)
first_type symbol.I64 e t s = whole_part (t ∷ []) [] _ _ tt (g.kind t I64 s refl)
first_type symbol.Ampersand e t s = whole_part (t ∷ []) (stand_in symbol.Bool ∷ []) _ _ (words_of (symbol.Bool ∷ []) refl) (referred t s)
first_type symbol.AndAnd e t s = whole_part (t ∷ []) (stand_in symbol.Bool ∷ []) _ _ (words_of (symbol.Bool ∷ []) refl) (g.two_references t (stand_in symbol.Bool ∷ []) _ _ s (referred (second_ampersand t) (refl, refl)) refl)
first_type symbol.OpenParen e t s = whole_part (t ∷ []) (stand_in symbol.CloseParen ∷ []) _ _ (words_of (symbol.CloseParen ∷ []) refl) (g.unit t (stand_in symbol.CloseParen) s (stand_in_stands symbol.CloseParen refl) refl)
first_type _ e t s = absurd (cc)

module _ (d : ℕ) (ok : Begun any (typ d) (Fits IsType)) where
  reference_begun : Begun (at symbol.Ampersand) (reference (typ d) d) (Fits IsType)
  unfolding reference
  reference_begun = roomed 1 d symbol.Ampersand refl (λ t s. passed lifetime_begun (λ ls l a. passed mutability_begun (λ ms m b. passed_last _ ok (λ us y f.
      fits_node (λ s. plain.ref_type s l m y.tree) (ap (λ z. join t.span z) f.span ∙ span_past t (ls ++ ms) us (type_some f.holds) ∙ ap (λ z. span_of (t ∷ z)) (append_assoc ls ms us)) _
      (g.reference t ls ms us l m y.tree y.height s a b f.holds refl)))))

  two_begun : Begun (at symbol.AndAnd) (two_references (typ d) d) (Fits IsType)
  unfolding two_references
  two_begun = halved_last 1 d (typ d) (λ t y. node (λ s. plain.ref_type s None false y.tree) (join t.span y.span) y.height) ok (λ ts x h r. type_some r)
      (λ t s. first_type symbol.Ampersand refl (second_ampersand t) (refl, refl))
      (λ t s us y f. fits_node (λ s. plain.ref_type s None false y.tree) (ap (λ z. join t.span z) f.span ∙ second_span t us) _ (g.two_references t us y.tree y.height s f.holds refl))

  type_by_begun : (q : Symbol) → Begun (at q) (type_by (typ d) d q) (Fits IsType)
  type_by_begun symbol.Name = named_begun
  type_by_begun symbol.Bool = took symbol.Bool refl (λ t s. gave (fits_leaf plain.bool_type refl (g.bool t s refl)))
  type_by_begun symbol.U8 = took symbol.U8 refl (λ t s. gave (fits_leaf (λ s. plain.kind_type s U8) refl (g.kind t U8 s refl)))
  type_by_begun symbol.U32 = took symbol.U32 refl (λ t s. gave (fits_leaf (λ s. plain.kind_type s U32) refl (g.kind t U32 s refl)))
  type_by_begun symbol.U64 = took symbol.U64 refl (λ t s. gave (fits_leaf (λ s. plain.kind_type s U64) refl (g.kind t U64 s refl)))
  type_by_begun symbol.I32 = took symbol.I32 refl (λ t s. gave (fits_leaf (λ s. plain.kind_type s I32) refl (g.kind t I32 s refl)))
  type_by_begun symbol.I64 = took symbol.I64 refl (λ t s. gave (fits_leaf (λ s. plain.kind_type s I64) refl (g.kind t I64 s refl)))
  type_by_begun symbol.Ampersand = reference_begun
  type_by_begun symbol.AndAnd = two_begun
  type_by_begun symbol.OpenParen = group_found _ IsType IsType ok
      (λ o c so sc. g.unit o c so sc refl)
      (λ o c us y h so sc r. g.parentheses o c us y h so sc r refl)
      (λ o m c us vs y ys h i so sm sc r more. g.tuple o m c us vs y ys h i so sm sc r (types_are more) refl)
  type_by_begun _ = refused type_completes

-- what the parser of types passed
pub type_begun : (d : ℕ) → Begun any (typ d) (Fits IsType)
unfolding typ
type_begun zero = stopped begins_type refl type_completes (λ t e w. first_type (symbol_of t) e t (stands t))
type_begun (suc d) = chose (type_by (typ d) d) (type_by_begun d (type_begun d))
