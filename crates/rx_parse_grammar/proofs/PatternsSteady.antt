-- How a number and a pattern are read depends on no token behind the one at which the parser stops.
use Rattle.std.proofs.Common.{◌≡◌, ℕ, zero, suc, Bool, false, List, [], length, Option, Some, None, Err, refl, ap, arith}
use Rattle.rx_core.specs.declared.types.Kind.{Kind}
use Rattle.rx_tree.specs.Plain as plain
use Rattle.rx_tree.specs.PlainOf.{patterns_of}
use Rattle.rx_lex.specs.Tok.{Tok}
use Rattle.rx_parse_grammar.specs.declared.stop.Stop.TheVariants.{Syntax}
use Rattle.rx_parse_grammar.specs.declared.symbol.Symbol.{Symbol}
use Rattle.rx_parse_grammar.specs.declared.symbol.Symbol.TheVariants as symbol
use Rattle.rx_parse_grammar.specs.parser.Symbols.{head, peek}
use Rattle.rx_parse_grammar.specs.parser.Numbers.{numeral, index_value, number_by, number, index_by, index}
use Rattle.rx_parse_grammar.specs.parser.Patterns.{begins_pattern, mutable_binding, number_pattern, negative_pattern, variant_pattern, long_field, short_field, field_pattern_by, field_pattern, struct_pattern, named_pattern_by, named_pattern, pattern_by, pattern}
use Rattle.rx_parse_grammar.proofs.Steady.{Alike, Depths, Eats, eats, choice, like_head, then, pures, refuses, takes, by, either, room}
use Rattle.rx_parse_grammar.proofs.SteadyLists.{elements_alike, some_alike, group_alike, level_none, level_more, lower}
use Rattle.rx_parse_grammar.proofs.PatternsRead.{pattern_some}
use Rattle.rx_parse_grammar.proofs.PatternsDerived.{pattern_sound}

number_by_alike : {k : Bool} {n m : ℕ} (v : Option (ℕ × Option Kind)) → Alike k n m (number_by v) (number_by v)
number_by_alike None = refuses
number_by_alike (Some v) = then (takes symbol.Number) (λ t. pures)

pub number_alike : {k : Bool} {n m : ℕ} → Alike k n m number number
unfolding number
number_alike = choice number_by number_by (λ i. numeral (head i).text) (λ i s l. ap (λ t. numeral t.text) (like_head i s l)) number_by_alike

index_by_alike : {k : Bool} {n m : ℕ} (v : Option ℕ) → Alike k n m (index_by v) (index_by v)
index_by_alike None = refuses
index_by_alike (Some v) = then (takes symbol.Number) (λ t. pures)

pub index_alike : {k : Bool} {n m : ℕ} → Alike k n m index index
unfolding index
index_alike = choice index_by index_by (λ i. index_value (head i).text) (λ i s l. ap (λ t. index_value t.text) (like_head i s l)) index_by_alike

mutable_alike : {k : Bool} {n m : ℕ} → Alike k n m mutable_binding mutable_binding
unfolding mutable_binding
mutable_alike = then (takes symbol.Mut) (λ m. then (takes symbol.Name) (λ n. pures))

number_pattern_alike : {k : Bool} {n m : ℕ} → Alike k n m number_pattern number_pattern
unfolding number_pattern
number_pattern_alike = then number_alike (λ v. pures)

negative_alike : {k : Bool} {n m : ℕ} → Alike k n m negative_pattern negative_pattern
unfolding negative_pattern
negative_alike = then (takes symbol.Minus) (λ m. then number_alike (λ v. pures))

pub pattern_ends : (d : ℕ) → pattern d [] ≡ Err (Syntax 0)
unfolding pattern
pattern_ends zero = refl
pattern_ends (suc d) = refl

pub pattern_eats : (d : ℕ) → Eats (pattern d)
pattern_eats d = eats (pattern_sound d) (λ ts x f. pattern_some f.holds)

field_ends : (d : ℕ) → field_pattern (pattern d) d [] ≡ Err (Syntax 0)
unfolding field_pattern
field_ends d = refl

module _ {k : Bool} {d e : ℕ} (depths : Depths k d e) (same : (n m : ℕ) → Alike k n m (pattern d) (pattern e)) where
  variant_alike : {n m : ℕ} (t : Tok) → Alike k n m (variant_pattern (pattern d) d t) (variant_pattern (pattern e) e t)
  unfolding variant_pattern
  variant_alike t = then (takes symbol.ColonColon) (λ c. then (takes symbol.Name) (λ v. either symbol.OpenParen
      (room 1 depths (then (takes symbol.OpenParen) (λ o. then (some_alike symbol.CloseParen refl same (pattern_ends d) (pattern_ends e)) (λ l. pures)))) pures))

  long_alike : {n m : ℕ} → Alike k n m (long_field (pattern d) d) (long_field (pattern e) e)
  unfolding long_field
  long_alike = then (takes symbol.Name) (λ n. either symbol.Colon (then (takes symbol.Colon) (λ c. then (same _ _) (λ y. pures))) pures)

  short_alike : {n m : ℕ} → Alike k n m (short_field (pattern d) d) (short_field (pattern e) e)
  unfolding short_field
  short_alike = then (takes symbol.Mut) (λ m. then (takes symbol.Name) (λ n. pures))

  field_by_alike : {n m : ℕ} (q : Symbol) → Alike k n m (field_pattern_by (pattern d) d q) (field_pattern_by (pattern e) e q)
  field_by_alike symbol.Name = room 1 depths long_alike
  field_by_alike symbol.Mut = room 1 depths short_alike
  field_by_alike _ = refuses

  field_alike : (n m : ℕ) → Alike k n m (field_pattern (pattern d) d) (field_pattern (pattern e) e)
  unfolding field_pattern
  field_alike n m = by field_by_alike

  struct_alike : {n m : ℕ} (t : Tok) → Alike k n m (struct_pattern (pattern d) d t) (struct_pattern (pattern e) e t)
  unfolding struct_pattern
  struct_alike t = then (takes symbol.OpenBrace) (λ o. then (elements_alike symbol.CloseBrace refl field_alike (field_ends d) (field_ends e) _ _) (λ l. pures))

  named_by_alike : {n m : ℕ} (t : Tok) (q : Symbol) → Alike k n m (named_pattern_by (pattern d) d t q) (named_pattern_by (pattern e) e t q)
  named_by_alike t symbol.ColonColon = variant_alike t
  named_by_alike t symbol.OpenBrace = struct_alike t
  named_by_alike t _ = pures

  named_alike : {n m : ℕ} → Alike k n m (named_pattern (pattern d) d) (named_pattern (pattern e) e)
  unfolding named_pattern
  named_alike = then (takes symbol.Name) (λ t. by (named_by_alike t))

  pattern_by_alike : {n m : ℕ} (q : Symbol) → Alike k n m (pattern_by (pattern d) d q) (pattern_by (pattern e) e q)
  pattern_by_alike symbol.Name = named_alike
  pattern_by_alike symbol.Number = number_pattern_alike
  pattern_by_alike symbol.Mut = mutable_alike
  pattern_by_alike symbol.True = then (takes symbol.True) (λ t. pures)
  pattern_by_alike symbol.False = then (takes symbol.False) (λ t. pures)
  pattern_by_alike symbol.Underscore = then (takes symbol.Underscore) (λ t. pures)
  pattern_by_alike symbol.Minus = negative_alike
  pattern_by_alike symbol.OpenParen = group_alike (λ s l. plain.tuple_pattern s (patterns_of l)) same (pattern_ends d) (pattern_ends e)
  pattern_by_alike _ = refuses

refused_by : (d : ℕ) (q : Symbol) (i : List Tok) → begins_pattern q ≡ false → pattern_by (pattern d) d q i ≡ Err (Syntax (length i))
refused_by d symbol.Name i e = absurd (cc)
refused_by d symbol.Number i e = absurd (cc)
refused_by d symbol.Mut i e = absurd (cc)
refused_by d symbol.True i e = absurd (cc)
refused_by d symbol.False i e = absurd (cc)
refused_by d symbol.Underscore i e = absurd (cc)
refused_by d symbol.Minus i e = absurd (cc)
refused_by d symbol.OpenParen i e = absurd (cc)
refused_by d _ i e = refl

pub pattern_alike : {k : Bool} (d e : ℕ) → Depths k d e → (n m : ℕ) → Alike k n m (pattern d) (pattern e)
unfolding pattern
pattern_alike zero zero z n m = level_none begins_pattern
pattern_alike zero (suc e) z n m = level_more begins_pattern (pattern (suc e)) (λ y. let a = z.same y in absurd (omega arith)) (λ i r. refused_by e (peek i) i r)
pattern_alike (suc d) zero z n m = absurd (let a = z.low in omega arith)
pattern_alike (suc d) (suc e) z n m = by (pattern_by_alike (lower z) (pattern_alike d e (lower z)))
