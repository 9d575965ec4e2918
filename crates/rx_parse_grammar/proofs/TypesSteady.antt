-- How a type is read depends on no token behind the one at which the parser stops.
use Rattle.std.proofs.Common.{◌≡◌, ℕ, zero, suc, Bool, false, List, [], length, Err, refl, arith}
use Rattle.rx_core.specs.declared.types.Kind.{Kind}
use Rattle.rx_tree.specs.Plain as plain
use Rattle.rx_tree.specs.PlainOf.{types_of}
use Rattle.rx_lex.specs.Tok.{Tok}
use Rattle.rx_parse_grammar.specs.declared.stop.Stop.TheVariants.{Syntax}
use Rattle.rx_parse_grammar.specs.declared.symbol.Symbol.{Symbol}
use Rattle.rx_parse_grammar.specs.declared.symbol.Symbol.TheVariants as symbol
use Rattle.rx_parse_grammar.specs.parser.Symbols.{peek}
use Rattle.rx_parse_grammar.specs.parser.Types.{begins_type, mutability, reference_lifetime, lifetime_argument_by, lifetime_argument, kind_by, named_type, reference, two_references, type_by, typ}
use Rattle.rx_parse_grammar.proofs.Steady.{Alike, Depths, Eats, eats, then, pures, refuses, takes, by, either, room}
use Rattle.rx_parse_grammar.proofs.SteadyLists.{some_alike, group_alike, halves, level_none, level_more, lower}
use Rattle.rx_parse_grammar.proofs.TypesRead.{type_some}
use Rattle.rx_parse_grammar.proofs.TypesDerived.{type_sound}

pub mutability_alike : {k : Bool} {n m : ℕ} → Alike k n m mutability mutability
unfolding mutability
mutability_alike = either symbol.Mut (then (takes symbol.Mut) (λ t. pures)) pures

lifetime_alike : {k : Bool} {n m : ℕ} → Alike k n m reference_lifetime reference_lifetime
unfolding reference_lifetime
lifetime_alike = either symbol.Lifetime (then (takes symbol.Lifetime) (λ t. pures)) (either symbol.Anonymous (then (takes symbol.Anonymous) (λ t. pures)) pures)

argument_by_alike : {k : Bool} {n m : ℕ} (q : Symbol) → Alike k n m (lifetime_argument_by q) (lifetime_argument_by q)
argument_by_alike symbol.Lifetime = then (takes symbol.Lifetime) (λ t. pures)
argument_by_alike symbol.Anonymous = then (takes symbol.Anonymous) (λ t. pures)
argument_by_alike _ = refuses

argument_alike : {k : Bool} (n m : ℕ) → Alike k n m lifetime_argument lifetime_argument
unfolding lifetime_argument
argument_alike n m = by argument_by_alike

argument_ends : lifetime_argument [] ≡ Err (Syntax 0)
unfolding lifetime_argument
argument_ends = refl

named_alike : {k : Bool} {n m : ℕ} → Alike k n m named_type named_type
unfolding named_type
named_alike = then (takes symbol.Name) (λ t. either symbol.Less
    (then (takes symbol.Less) (λ o. then (some_alike symbol.Greater refl argument_alike argument_ends argument_ends) (λ l. pures))) pures)

pub type_ends : (d : ℕ) → typ d [] ≡ Err (Syntax 0)
unfolding typ
type_ends zero = refl
type_ends (suc d) = refl

pub type_eats : (d : ℕ) → Eats (typ d)
type_eats d = eats (type_sound d) (λ ts x f. type_some f.holds)

kind_alike : {k : Bool} {n m : ℕ} (q : Symbol) (v : Kind) → Alike k n m (kind_by q v) (kind_by q v)
kind_alike q v = then (takes q) (λ t. pures)

module _ {k : Bool} {d e : ℕ} (depths : Depths k d e) (same : (n m : ℕ) → Alike k n m (typ d) (typ e)) where
  reference_alike : {n m : ℕ} → Alike k n m (reference (typ d) d) (reference (typ e) e)
  unfolding reference
  reference_alike = room 1 depths (then (takes symbol.Ampersand) (λ t. then lifetime_alike (λ l. then mutability_alike (λ m. then (same _ _) (λ y. pures)))))

  two_alike : {n m : ℕ} → Alike k n m (two_references (typ d) d) (two_references (typ e) e)
  unfolding two_references
  two_alike = room 1 depths (halves _ _ (type_eats d) same (λ t y. pures))

  type_by_alike : {n m : ℕ} (q : Symbol) → Alike k n m (type_by (typ d) d q) (type_by (typ e) e q)
  type_by_alike symbol.Name = named_alike
  type_by_alike symbol.Bool = then (takes symbol.Bool) (λ t. pures)
  type_by_alike symbol.U8 = kind_alike _ _
  type_by_alike symbol.U32 = kind_alike _ _
  type_by_alike symbol.U64 = kind_alike _ _
  type_by_alike symbol.I32 = kind_alike _ _
  type_by_alike symbol.I64 = kind_alike _ _
  type_by_alike symbol.Ampersand = reference_alike
  type_by_alike symbol.AndAnd = two_alike
  type_by_alike symbol.OpenParen = group_alike (λ s l. plain.tuple_type s (types_of l)) same (type_ends d) (type_ends e)
  type_by_alike _ = refuses

refused_by : (d : ℕ) (q : Symbol) (i : List Tok) → begins_type q ≡ false → type_by (typ d) d q i ≡ Err (Syntax (length i))
refused_by d symbol.Name i e = absurd (cc)
refused_by d symbol.Bool i e = absurd (cc)
refused_by d symbol.U8 i e = absurd (cc)
refused_by d symbol.U32 i e = absurd (cc)
refused_by d symbol.U64 i e = absurd (cc)
refused_by d symbol.I32 i e = absurd (cc)
refused_by d symbol.I64 i e = absurd (cc)
refused_by d symbol.Ampersand i e = absurd (cc)
refused_by d symbol.AndAnd i e = absurd (cc)
refused_by d symbol.OpenParen i e = absurd (cc)
refused_by d _ i e = refl

pub type_alike : {k : Bool} (d e : ℕ) → Depths k d e → (n m : ℕ) → Alike k n m (typ d) (typ e)
unfolding typ
type_alike zero zero z n m = level_none begins_type
type_alike zero (suc e) z n m = level_more begins_type (typ (suc e)) (λ y. let a = z.same y in absurd (omega arith)) (λ i r. refused_by e (peek i) i r)
type_alike (suc d) zero z n m = absurd (let a = z.low in omega arith)
type_alike (suc d) (suc e) z n m = by (type_by_alike (lower z) (type_alike d e (lower z)))
