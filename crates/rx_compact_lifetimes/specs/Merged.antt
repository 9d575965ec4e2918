-- Lifetimes of a function that are known to outlive each other, as one: the first of them stands for all, everywhere in the function.
-- The list keeps the others in order, with their bounds in the order in which they are first written; a bound on itself says nothing
-- (Rust Reference, "Lifetime bounds").
use Rattle.std.specs.Prelude.{◌≡◌, ℕ, zero, suc, Bool, true, false, ◌&&◌, ◌||◌, if◌then◌else◌, List, [], ◌∷◌, ◌++◌, map, Some}
use Rattle.std.specs.Str.{bytes_eq}
use Rattle.rx_tree.specs.declared.tree.Ident.{Ident}
use Rattle.rx_tree.specs.declared.tree.BoundLifetime.{BoundLifetime}
use Rattle.rx_tree.specs.Plain.{Function}
use Rattle.rx_hoist_extraction.specs.Names.{Names, is_among}
use Rattle.rx_hoist_extraction.specs.NewFunction.{firsts_of}
use Rattle.rx_compact_lifetimes.specs.declared.rewriting.Rewriting.{Rewriting}
use Rattle.rx_compact_lifetimes.specs.Rewritten.{renamed_bound, rewritten_optional, rewritten_parameter, rewritten_body}

-- `outlives l k`: it is known that the declared lifetime of number l outlives that of number k
abbrev pub are_equal : (ℕ → ℕ → Bool) → ℕ → ℕ → Bool
are_equal outlives l k = outlives l k && outlives k l

-- the name of the first lifetime that is equal to that of number l, among those of a list from number k on; else this one
abbrev pub first_equal : (ℕ → ℕ → Bool) → ℕ → ℕ → List BoundLifetime → List ℕ → List ℕ
first_equal outlives l k [] x = x
first_equal outlives l k (y ∷ ys) x = if are_equal outlives l k then y.name.name else first_equal outlives l (suc k) ys x

-- the names that stand for those of a list from number l on
abbrev pub mergings : (ℕ → ℕ → Bool) → List BoundLifetime → ℕ → List BoundLifetime → List Rewriting
mergings outlives all l [] = []
mergings outlives all l (x ∷ xs) =
    record { name = x.name.name; becomes = Some (first_equal outlives l 0 all x.name.name) } ∷ mergings outlives all (suc l) xs

abbrev pub mergings_of : (ℕ → ℕ → Bool) → Function → List Rewriting
mergings_of outlives f = mergings outlives f.lifetimes 0 f.lifetimes

-- ---- the list of lifetimes, in which names may stand several times

-- all bounds that a list has for a name
abbrev pub bounds_for : List ℕ → List BoundLifetime → List Ident
bounds_for x [] = []
bounds_for x (l ∷ ls) = if bytes_eq x l.name.name then l.bounds ++ bounds_for x ls else bounds_for x ls

-- a lifetime with those of them that are others, each once
abbrev pub joined_lifetime : List BoundLifetime → Ident → BoundLifetime
joined_lifetime all x = record { name = x; bounds = firsts_of (x.name ∷ []) (bounds_for x.name all) }

-- each name where it stands first; `found` are those before
abbrev pub joined : List BoundLifetime → Names → List BoundLifetime → List BoundLifetime
joined all found [] = []
joined all found (l ∷ ls) = if is_among l.name.name found then joined all found ls
    else joined_lifetime all l.name ∷ joined all (found ++ l.name.name ∷ []) ls

abbrev pub joined_list : List BoundLifetime → List BoundLifetime
joined_list ls = joined ls [] ls

-- ---- a function

abbrev pub merged_by : List Rewriting → Function → Function
merged_by rs f = record {
  name = f.name;
  lifetimes = joined_list (map (renamed_bound rs) f.lifetimes);
  params = map (rewritten_parameter rs) f.params;
  result = rewritten_optional rs f.result;
  body = rewritten_body rs f.body;
}

abbrev pub merged : (ℕ → ℕ → Bool) → Function → Function
merged outlives f = merged_by (mergings_of outlives f) f

-- ---- which lifetimes stay

-- one of the numbers below m is that of a lifetime which is equal to that of number l
abbrev pub equals_before : (ℕ → ℕ → Bool) → ℕ → ℕ → Bool
equals_before outlives l zero = false
equals_before outlives l (suc m) = are_equal outlives l m || equals_before outlives l m

-- the numbers of those, of a list from number l on, to which no lifetime before them is equal
abbrev pub first_numbers : (ℕ → ℕ → Bool) → ℕ → List BoundLifetime → List ℕ
first_numbers outlives l [] = []
first_numbers outlives l (x ∷ xs) = if equals_before outlives l l then first_numbers outlives (suc l) xs else l ∷ first_numbers outlives (suc l) xs

-- a relation of numbers that each has with itself, and that goes on
pub record IsPreorder (outlives : ℕ → ℕ → Bool) : Type 0 where
  pub itself : (l : ℕ) → outlives l l ≡ true
  pub on : (l k m : ℕ) → outlives l k ≡ true → outlives k m ≡ true → outlives l m ≡ true
