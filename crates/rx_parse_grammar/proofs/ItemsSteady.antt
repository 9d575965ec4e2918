-- How items and files are read depends on no token behind the one at which the parser stops.
use Rattle.std.proofs.Common.{◌≡◌, ℕ, zero, suc, Bool, List, [], ◌∷◌, ◌++◌, Option, Some, None, Ok, Err, codes, refl, sym, ◌∙◌}
use Rattle.std.specs.Prelude.{◌≢◌}
use Rattle.rx_tree.specs.declared.tree.Ident.{Ident}
use Rattle.rx_tree.specs.declared.tree.Derive.{Derive}
use Rattle.rx_tree.specs.Plain.{ItemTree}
use Rattle.rx_lex.specs.Tok.{Tok}
use Rattle.rx_parse_grammar.specs.declared.stop.Stop.TheVariants.{Syntax}
use Rattle.rx_parse_grammar.specs.declared.symbol.Symbol.{Symbol}
use Rattle.rx_parse_grammar.specs.declared.symbol.Symbol.TheVariants as symbol
use Rattle.rx_parse_grammar.specs.grammar.Words.{ident}
use Rattle.rx_parse_grammar.specs.parser.Steps.{expect, expect_word, sees_word}
use Rattle.rx_parse_grammar.specs.parser.Symbols.{same_symbol}
use Rattle.rx_parse_grammar.specs.parser.Items as parser
use Rattle.rx_parse_grammar.specs.parser.Items.{bounds_from, parameter_by, derived_by, item_by, items_from}
use Rattle.rx_parse_grammar.specs.grammar.Items.{IsItem}
use Rattle.rx_parse_grammar.specs.grammar.Items as g
use Rattle.rx_parse_grammar.proofs.Reading.{some_append}
use Rattle.rx_parse_grammar.proofs.ItemsDerived.{item_derived}
use Rattle.rx_parse_grammar.proofs.Steady.{eats, Alike, Depths, Eats, then, eaten, pures, refuses, takes, takes_word, by, either, either_word}
use Rattle.rx_parse_grammar.proofs.SteadyLists.{looped, end_refused, end_read, fueled, takes_eats, elements_alike, some_alike}
use Rattle.rx_parse_grammar.proofs.TypesSteady.{type_alike, type_ends}
use Rattle.rx_parse_grammar.proofs.BlocksSteady.{below}

derived_name_alike : {k : Bool} (n m : ℕ) → Alike k n m parser.derived_name parser.derived_name
unfolding parser.derived_name
derived_name_alike n m = either_word (codes "Clone") (then (takes_word (codes "Clone")) (λ t. pures)) (then (takes_word (codes "Copy")) (λ t. pures))

derived_name_ends : parser.derived_name [] ≡ Err (Syntax 0)
unfolding parser.derived_name expect_word sees_word same_symbol
derived_name_ends = refl

derives_alike : {k : Bool} {n m : ℕ} → Alike k n m parser.derives parser.derives
unfolding parser.derives
derives_alike = then (takes symbol.OpenBracket) (λ b. then (takes_word (codes "derive")) (λ n. then (takes symbol.OpenParen) (λ o.
    then (some_alike symbol.CloseParen refl derived_name_alike derived_name_ends derived_name_ends) (λ l. then (takes symbol.CloseBracket) (λ c. pures)))))

lifetime_alike : {k : Bool} (n m : ℕ) → Alike k n m parser.lifetime_parameter parser.lifetime_parameter
unfolding parser.lifetime_parameter
lifetime_alike n m = then (takes symbol.Lifetime) (λ t. pures)

lifetime_ends : parser.lifetime_parameter [] ≡ Err (Syntax 0)
unfolding parser.lifetime_parameter expect same_symbol
lifetime_ends = refl

lifetimes_alike : {k : Bool} {n m : ℕ} → Alike k n m parser.lifetimes parser.lifetimes
unfolding parser.lifetimes
lifetimes_alike = either symbol.Less (then (takes symbol.Less) (λ o. then (some_alike symbol.Greater refl lifetime_alike lifetime_ends lifetime_ends) (λ l. pures))) pures

bounds_end : (n : ℕ) (found : List Ident) → bounds_from n found [] ≡ Err (Syntax 0)
unfolding bounds_from expect same_symbol
bounds_end zero found = refl
bounds_end (suc n) found = refl

bounds_step : {k : Bool} (n m : ℕ) → ((x : List Ident) → Alike k n m (bounds_from n x) (bounds_from m x)) → (x : List Ident) → Alike k (suc n) (suc m) (bounds_from (suc n) x) (bounds_from (suc m) x)
unfolding bounds_from
bounds_step n m more x = then (takes symbol.Lifetime) (λ t. either symbol.Plus (eaten (takes_eats symbol.Plus refl) (takes symbol.Plus) (λ p. more (x ++ (ident t ∷ [])))) pures)

bounds_alike : {k : Bool} {n m : ℕ} → Alike k n m parser.bounds parser.bounds
unfolding parser.bounds
bounds_alike = fueled (λ n. bounds_from n []) (λ n. bounds_from n []) (λ x y. looped bounds_from bounds_from (λ n m x. end_refused (bounds_end n x) (bounds_end m x)) bounds_step x y [])

bound_lifetime_alike : {k : Bool} (n m : ℕ) → Alike k n m parser.bound_lifetime parser.bound_lifetime
unfolding parser.bound_lifetime
bound_lifetime_alike n m = then (takes symbol.Lifetime) (λ t. either symbol.Colon (then (takes symbol.Colon) (λ c. then bounds_alike (λ l. pures))) pures)

bound_lifetime_ends : parser.bound_lifetime [] ≡ Err (Syntax 0)
unfolding parser.bound_lifetime expect same_symbol
bound_lifetime_ends = refl

bound_lifetimes_alike : {k : Bool} {n m : ℕ} → Alike k n m parser.bound_lifetimes parser.bound_lifetimes
unfolding parser.bound_lifetimes
bound_lifetimes_alike = either symbol.Less (then (takes symbol.Less) (λ o. then (some_alike symbol.Greater refl bound_lifetime_alike bound_lifetime_ends bound_lifetime_ends) (λ l. pures))) pures

-- ---- fields, variants and parameters

field_ends : (d : ℕ) → parser.struct_field d [] ≡ Err (Syntax 0)
unfolding parser.struct_field expect same_symbol
field_ends d = refl

variant_ends : (d : ℕ) → parser.variant d [] ≡ Err (Syntax 0)
unfolding parser.variant expect same_symbol
variant_ends d = refl

parameter_ends : (d : ℕ) → parser.parameter d [] ≡ Err (Syntax 0)
unfolding parser.parameter
parameter_ends d = rw (field_ends d)

module _ {k : Bool} {d e : ℕ} (z : Depths k d e) where
  field_alike : (n m : ℕ) → Alike k n m (parser.struct_field d) (parser.struct_field e)
  unfolding parser.struct_field
  field_alike n m = then (takes symbol.Name) (λ t. then (takes symbol.Colon) (λ c. then (type_alike d e z _ _) (λ y. pures)))

  variant_alike : (n m : ℕ) → Alike k n m (parser.variant d) (parser.variant e)
  unfolding parser.variant
  variant_alike n m = then (takes symbol.Name) (λ t. either symbol.OpenParen
      (then (takes symbol.OpenParen) (λ o. then (some_alike symbol.CloseParen refl (type_alike d e z) (type_ends d) (type_ends e)) (λ l. pures))) pures)

  parameter_by_alike : {n m : ℕ} (q : Symbol) → Alike k n m (parameter_by d q) (parameter_by e q)
  parameter_by_alike symbol.Mut = then (takes symbol.Mut) (λ t. then (field_alike _ _) (λ f. pures))
  parameter_by_alike _ = then (field_alike _ _) (λ f. pures)

  parameter_alike : (n m : ℕ) → Alike k n m (parser.parameter d) (parser.parameter e)
  unfolding parser.parameter
  parameter_alike n m = by parameter_by_alike

  result_alike : {n m : ℕ} → Alike k n m (parser.result d) (parser.result e)
  unfolding parser.result
  result_alike = either symbol.Arrow (then (takes symbol.Arrow) (λ a. then (type_alike d e z _ _) (λ y. pures))) pures

  -- ---- items

  behind_struct : {n m : ℕ} (p : Option Tok) (xs : List Derive) → Alike k n m (parser.structure d p xs) (parser.structure e p xs)
  unfolding parser.structure
  behind_struct p xs = then (takes symbol.Struct) (λ t. then (takes symbol.Name) (λ n. then lifetimes_alike (λ l. then (takes symbol.OpenBrace) (λ o.
      then (elements_alike symbol.CloseBrace refl field_alike (field_ends d) (field_ends e) _ _) (λ f. pures)))))

  enumeration_alike : {n m : ℕ} (p : Option Tok) (xs : List Derive) → Alike k n m (parser.enumeration d p xs) (parser.enumeration e p xs)
  unfolding parser.enumeration
  enumeration_alike p xs = then (takes symbol.Enum) (λ t. then (takes symbol.Name) (λ n. then lifetimes_alike (λ l. then (takes symbol.OpenBrace) (λ o.
      then (some_alike symbol.CloseBrace refl variant_alike (variant_ends d) (variant_ends e)) (λ f. pures)))))

  derived_by_alike : {n m : ℕ} (p : Tok) (xs : List Derive) (q : Symbol) → Alike k n m (derived_by d p xs q) (derived_by e p xs q)
  derived_by_alike p xs symbol.Struct = behind_struct (Some p) xs
  derived_by_alike p xs symbol.Enum = enumeration_alike (Some p) xs
  derived_by_alike p xs _ = refuses

  derived_alike : {n m : ℕ} → Alike k n m (parser.derived d) (parser.derived e)
  unfolding parser.derived
  derived_alike = then (takes symbol.Hash) (λ p. then derives_alike (λ xs. by (derived_by_alike p xs)))

  function_alike : {n m : ℕ} → Alike k n m (parser.function d) (parser.function e)
  unfolding parser.function
  function_alike = then (takes symbol.Fn) (λ f. then (takes symbol.Name) (λ n. then bound_lifetimes_alike (λ l. then (takes symbol.OpenParen) (λ o.
      then (elements_alike symbol.CloseParen refl parameter_alike (parameter_ends d) (parameter_ends e) _ _) (λ p. then result_alike (λ r. then ((below d e z).blocks _ _) (λ b. pures)))))))

  rt_alike : {n m : ℕ} → Alike k n m (parser.rt d) (parser.rt e)
  unfolding parser.rt
  rt_alike = then (takes symbol.Mod) (λ p. then (takes_word (codes "rt")) (λ r. then (takes symbol.Semicolon) (λ z. pures)))

  item_by_alike : {n m : ℕ} (q : Symbol) → Alike k n m (item_by d q) (item_by e q)
  item_by_alike symbol.Mod = rt_alike
  item_by_alike symbol.Hash = derived_alike
  item_by_alike symbol.Struct = behind_struct None []
  item_by_alike symbol.Enum = enumeration_alike None []
  item_by_alike symbol.Fn = function_alike
  item_by_alike _ = refuses

  item_alike : (n m : ℕ) → Alike k n m (parser.item d) (parser.item e)
  unfolding parser.item
  item_alike n m = by item_by_alike

-- ---- files

item_some : {ts : List Tok} {a : ItemTree} {h : ℕ} → IsItem ts a h → ts ≢ []
item_some (g.rt m r z sm sr sz is) = λ e. cc
item_some (g.structure t n o c ds ls us xs l fs h st sn so sc sd sl inner is) = λ e. some_append ds (t ∷ n ∷ (ls ++ (o ∷ (us ++ (c ∷ []))))) (λ a. cc) (sym is ∙ e)
item_some (g.enumeration t n o c ds ls us xs l v vs h st sn so sc sd sl inner is) = λ e. some_append ds (t ∷ n ∷ (ls ++ (o ∷ (us ++ (c ∷ []))))) (λ a. cc) (sym is ∙ e)
item_some (g.function f n o c ls us rs bs l ps r b h i k sf sn so sc sl inner sr sb is) = λ e. cc

item_eats : (d : ℕ) → Eats (parser.item d)
item_eats d = eats (item_derived d) (λ ts x f. item_some f.holds)

items_end : (d n : ℕ) (x : List ItemTree × ℕ) → items_from d n x.0 x.1 [] ≡ Ok (x, [])
unfolding items_from same_symbol
items_end d zero x = refl
items_end d (suc n) x = refl

items_step : {k : Bool} (d e : ℕ) → Depths k d e → (n m : ℕ) → ((x : List ItemTree × ℕ) → Alike k n m (items_from d n x.0 x.1) (items_from e m x.0 x.1)) → (x : List ItemTree × ℕ)
    → Alike k (suc n) (suc m) (items_from d (suc n) x.0 x.1) (items_from e (suc m) x.0 x.1)
unfolding items_from
items_step d e z n m more x = either symbol.End pures (eaten (item_eats d) (item_alike z _ _) (λ a. more (_, _)))

pub file_alike : {k : Bool} (d e : ℕ) → Depths k d e → (n m : ℕ) → Alike k n m (parser.file d) (parser.file e)
unfolding parser.file
file_alike d e z n m = fueled (λ n. items_from d n [] 0) (λ n. items_from e n [] 0)
    (λ x y. looped (λ n (x : List ItemTree × ℕ). items_from d n x.0 x.1) (λ n (x : List ItemTree × ℕ). items_from e n x.0 x.1) (λ n m x. end_read x (items_end d n x) (items_end e m x))
    (items_step d e z) x y ([], 0))
