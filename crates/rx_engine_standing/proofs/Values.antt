-- The types of what exits hand out keep the limits of types, where those that the extraction makes do.
use Rattle.std.proofs.lemmas.Bool.{ltb-false}
use Rattle.std.proofs.Common.{◌≡◌, ℕ, zero, suc, ◌+◌, ◌≤◌, nat_lt, Bool, true, false, not, ◌||◌, if◌then◌else◌, List, [], ◌∷◌, ◌++◌, map, Option, Some, None, refl, sym, ap, ◌∙◌, subst, arith}
use Rattle.rx_tree.specs.Lists.{Every}
use Rattle.rx_typed.specs.Types.{at_least_one, Typ, shapes_of, levels, parts, sum_of_parts}
use Rattle.rx_hoist_extraction.specs.Plan.{Exit, to_next, has_enum, has_exit, outs_of, same_exit, Leaving, Param, Plan, Variable}
use Rattle.rx_hoist_extraction.specs.Values.{next_values, types_of, value_type, values_at, values_of, Value}
use Rattle.rx_hoist_extraction.specs.NewEnum.{all_fields, fields_at}
use Rattle.rx_hoist_extraction.specs.NewFunction.{joined_type, passed, passed_types}
use Rattle.rx_hoist_extraction.specs.Limits.{end_types, enum_parts, first_past, made_levels, made_parts, type_if_any}
use Rattle.rx_engine_names.proofs.ExtractionItems.{every_front}
use Rattle.rx_engine_names.specs.NewPlan.{exit_names}
use Rattle.rx_hoist_extraction.specs.Names.{Distinct}
use Rattle.rx_engine_declared.specs.NewItems.{or_unit}
use Rattle.rx_engine_changed.specs.HandedTypes.{handed_type}
use Rattle.rx_engine_standing.proofs.Lists.{both, each}
use Rattle.rx_engine_standing.proofs.Limits.{in_tuple, within_parts, Low}
use Rattle.rx_engine_standing.proofs.Exits.{all_listed, is_that, Listed}

-- ---- no number is past a limit

first_within : (limit n : ℕ) (ns : List ℕ) → first_past limit (n ∷ ns) ≡ None → (n ≤ limit) × (first_past limit ns ≡ None)
first_within limit n ns e = by (nat_lt limit n) refl e
  where
    by : (b : Bool) → nat_lt limit n ≡ b → (if b then Some n else first_past limit ns) ≡ None → (n ≤ limit) × (first_past limit ns ≡ None)
    by true l e = absurd (cc)
    by false l e = (ltb-false limit n l, e)

each_within : (limit : ℕ) (f : Typ → ℕ) (ts : List Typ) → first_past limit (map f ts) ≡ None → Every (λ (t : Typ). f t ≤ limit) ts
each_within limit f [] e = tt
each_within limit f (t ∷ ts) e = let a = first_within limit (f t) (map f ts) e in (a.0, each_within limit f ts a.1)

-- ---- the types of values

-- what holds of the types of values, in a row
of_values : (P : Typ → Type 0) (hs : List Value) → Every P (types_of hs) → Every (λ (h : Value). P (value_type h)) hs
of_values P [] a = tt
of_values P (h ∷ hs) a = (a.0, of_values P hs a.1)

pub joins : (hs : List Value) → handed_type hs ≡ or_unit (joined_type (types_of hs))
joins [] = refl
joins (h ∷ []) = refl
joins (h ∷ i ∷ hs) = refl

one_low : (Z : ℕ → ℕ) (hs : List Value) → Low Z (handed_type hs) → Every (Low Z) (types_of hs)
one_low Z [] l = tt
one_low Z (h ∷ []) l = (l, tt)
one_low Z (h ∷ i ∷ hs) l = in_tuple Z (types_of (h ∷ i ∷ hs)) l

-- what the end hands out is what its exit hands out, if there is one
next_of : (pl : Plan) (P : List Value → Type 0) (xs : List Leaving) → Every (λ (x : Leaving). P (values_of pl x)) xs → has_exit to_next xs ≡ true → P (values_at pl to_next (outs_of to_next xs))
next_of pl P [] a h = absurd (cc)
next_of pl P (x ∷ xs) a h = by (same_exit to_next x.exit) refl h (next_of pl P xs a.1)
  where
    by : (b : Bool) → same_exit to_next x.exit ≡ b → (b || has_exit to_next xs) ≡ true → (has_exit to_next xs ≡ true → P (values_at pl to_next (outs_of to_next xs))) → P (values_at pl to_next (if b then x.outs else outs_of to_next xs))
    by true e h f = subst (λ (z : Exit). P (values_at pl z x.outs)) (sym (is_that to_next x.exit e)) a.0
    by false e h f = f h

at_next : (pl : Plan) (P : List Value → Type 0) → P [] → Every (λ (x : Leaving). P (values_of pl x)) pl.exits → P (next_values pl)
at_next pl P none a = by (has_exit to_next pl.exits) refl
  where
    by : (b : Bool) → has_exit to_next pl.exits ≡ b → P (if b then values_at pl to_next (outs_of to_next pl.exits) else [])
    by true e = next_of pl P pl.exits a e
    by false e = none

-- each Next exit hands out what the end does
pub next_agrees : (pl : Plan) → Distinct (exit_names pl.exits) → Every (λ (x : Leaving). x.exit ≡ to_next → values_of pl x ≡ next_values pl) pl.exits
next_agrees pl d = each (Listed pl.exits) (λ (x : Leaving). x.exit ≡ to_next → values_of pl x ≡ next_values pl) one pl.exits (all_listed pl.exits d)
  where
    one : (x : Leaving) → Listed pl.exits x → x.exit ≡ to_next → values_of pl x ≡ next_values pl
    one x l e =
        ap (λ (z : Exit). values_at pl z x.outs) e ∙ ap (λ (vs : List Variable). values_at pl to_next vs) (sym l.outs ∙ ap (λ (z : Exit). outs_of z pl.exits) e)
        ∙ ap (λ (b : Bool). if b then values_at pl to_next (outs_of to_next pl.exits) else []) (sym l.there ∙ ap (λ (z : Exit). has_exit z pl.exits) e)

-- ---- with an enum of exits, and without one

all_next : (xs : List Leaving) → has_enum xs ≡ false → Every (λ (x : Leaving). x.exit ≡ to_next) xs
all_next [] e = tt
all_next (x ∷ xs) e = by (same_exit to_next x.exit) refl e (λ h. all_next xs h)
  where
    by : (b : Bool) → same_exit to_next x.exit ≡ b → (not b || has_enum xs) ≡ false → (has_enum xs ≡ false → Every (λ (x : Leaving). x.exit ≡ to_next) xs) → (x.exit ≡ to_next) × Every (λ (x : Leaving). x.exit ≡ to_next) xs
    by true g h f = (sym (is_that to_next x.exit g), f h)
    by false g h f = absurd (cc)

module _ (Z : ℕ → ℕ) (pl : Plan) where
  sum_front : (ts us : List Typ) → sum_of_parts Z (shapes_of (ts ++ us)) ≡ sum_of_parts Z (shapes_of ts) + sum_of_parts Z (shapes_of us)
  sum_front [] us = omega arith
  sum_front (t ∷ ts) us = let e = sum_front ts us in omega (arith, e)

  -- the fields of each exit among those of all
  fields_less : (xs : List Leaving) (n : ℕ) → sum_of_parts Z (shapes_of (all_fields pl xs)) ≤ n → Every (λ (x : Leaving). sum_of_parts Z (shapes_of (fields_at pl x)) ≤ n) xs
  fields_less [] n l = tt
  fields_less (x ∷ xs) n l =
      let e = sum_front (fields_at pl x) (all_fields pl xs) in
      (omega (arith, e, l), fields_less xs n (omega (arith, e, l)))

  fields_each : (P : Typ → Type 0) (xs : List Leaving) → Every P (all_fields pl xs) → Every (λ (x : Leaving). Every P (fields_at pl x)) xs
  fields_each P [] a = tt
  fields_each P (x ∷ xs) a = let b = every_front P (fields_at pl x) (all_fields pl xs) a in (b.0, fields_each P xs b.1)

  abbrev ValuesLow : List Value → Type 0
  ValuesLow hs = Every (λ (h : Value). Low Z (value_type h)) hs

  -- of the end and of each exit
  pub record AreLow : Type 0 where
    pub values : ValuesLow (next_values pl)
    pub handed : Low Z (handed_type (next_values pl))
    pub exits : Every (λ (x : Leaving). ValuesLow (values_of pl x)) pl.exits

  abbrev Level : Typ → Type 0
  Level t = levels t ≤ 128

  abbrev Part : Typ → Type 0
  Part t = parts Z t ≤ 4096

  end_levels : (o : Option Typ) → Every Level (type_if_any o) → levels (or_unit o) ≤ 128
  end_levels None a = omega arith
  end_levels (Some t) a = a.0

  end_parts : (o : Option Typ) → Every Part (type_if_any o) → parts Z (or_unit o) ≤ 4096
  end_parts None a = omega arith
  end_parts (Some t) a = a.0

  levels_told : first_past 128 (made_levels pl) ≡ None → (has_enum pl.exits ≡ true → Every Level (all_fields pl pl.exits)) × (Every Level (passed_types pl.params) × Every Level (end_types pl))
  levels_told e =
      let fields : List Typ = if has_enum pl.exits then all_fields pl pl.exits else [] in
      let given = passed_types pl.params in
      let ends = end_types pl in
      let a = every_front Level fields (given ++ ends) (each_within 128 levels (fields ++ (given ++ ends)) e) in
      (λ h. subst (λ (c : Bool). Every Level (if c then all_fields pl pl.exits else [])) h a.0, every_front Level given ends a.1)

  parts_told : (b : Bool) (n : ℕ) (ts us : List Typ) → first_past 4096 (if b then n ∷ map (parts Z) ts else map (parts Z) (ts ++ us)) ≡ None → (b ≡ true → n ≤ 4096) × (Every Part ts × (b ≡ false → Every Part us))
  parts_told true n ts us e = let a = first_within 4096 n (map (parts Z) ts) e in (λ h. a.0, (each_within 4096 (parts Z) ts a.1, λ h. absurd (cc)))
  parts_told false n ts us e = let a = every_front Part ts us (each_within 4096 (parts Z) (ts ++ us) e) in (λ h. absurd (cc), (a.0, λ h. a.1))

  least_more : (n : ℕ) → at_least_one n ≤ suc n
  least_more zero = omega arith
  least_more (suc n) = omega arith

  few_handed : (hs : List Value) → sum_of_parts Z (shapes_of (types_of hs)) ≤ 4095 → parts Z (handed_type hs) ≤ 4096
  few_handed [] l = omega arith
  few_handed (h ∷ []) l = omega (arith, l)
  few_handed (h ∷ i ∷ hs) l = let n = sum_of_parts Z (shapes_of (types_of (h ∷ i ∷ hs))) in let m = least_more n in omega (arith, l, m)

  low_levels : first_past 128 (made_levels pl) ≡ None → levels (handed_type (next_values pl)) ≤ 128
  low_levels low = subst (λ (t : Typ). levels t ≤ 128) (sym (joins (next_values pl))) (end_levels (joined_type (types_of (next_values pl))) (levels_told low).1.1)

  module _ (low : first_past 128 (made_levels pl) ≡ None) (few : first_past 4096 (made_parts Z pl) ≡ None) where
    of_params : (xs : List Param) → Every (Low Z) (passed_types xs) → Every (λ (x : Param). Low Z (passed x.mode x.variable.typ)) xs
    of_params [] a = tt
    of_params (x ∷ xs) a = (a.0, of_params xs a.1)

    -- of what is passed
    pub passed_low : Every (λ (x : Param). Low Z (passed x.mode x.variable.typ)) pl.params
    passed_low =
        let p = (parts_told (has_enum pl.exits) (enum_parts Z pl) (passed_types pl.params) (end_types pl) few).1.0 in
        of_params pl.params (both Level Part (Low Z) (λ t a b. (a, b)) (passed_types pl.params) (levels_told low).1.0 p)

    with_enum : has_enum pl.exits ≡ true → AreLow
    with_enum h =
        let p = (parts_told (has_enum pl.exits) (enum_parts Z pl) (passed_types pl.params) (end_types pl) few).0 h in
        let n = sum_of_parts Z (shapes_of (all_fields pl pl.exits)) in
        let all = both Level Part (Low Z) (λ t a b. (a, b)) (all_fields pl pl.exits) ((levels_told low).0 h) (within_parts Z (all_fields pl pl.exits) 4096 (omega (arith, p))) in
        let exits = each (λ (x : Leaving). Every (Low Z) (fields_at pl x)) (λ (x : Leaving). ValuesLow (values_of pl x)) (λ x a. of_values (Low Z) (values_of pl x) a) pl.exits (fields_each (Low Z) pl.exits all) in
        let sum = at_next pl (λ (hs : List Value). sum_of_parts Z (shapes_of (types_of hs)) ≤ 4095) (omega arith) (fields_less pl.exits 4095 (omega (arith, p))) in
        record { values = at_next pl ValuesLow tt exits; handed = (low_levels low, few_handed (next_values pl) sum); exits = exits }

    without : Distinct (exit_names pl.exits) → has_enum pl.exits ≡ false → AreLow
    without d h =
        let p = (parts_told (has_enum pl.exits) (enum_parts Z pl) (passed_types pl.params) (end_types pl) few).1.1 h in
        let handed : Low Z (handed_type (next_values pl)) = (low_levels low, subst (λ (t : Typ). parts Z t ≤ 4096) (sym (joins (next_values pl))) (end_parts (joined_type (types_of (next_values pl))) p)) in
        let values = of_values (Low Z) (next_values pl) (one_low Z (next_values pl) handed) in
        let exits = both (λ (x : Leaving). x.exit ≡ to_next) (λ (x : Leaving). x.exit ≡ to_next → values_of pl x ≡ next_values pl) (λ (x : Leaving). ValuesLow (values_of pl x))
        (λ x e f. subst ValuesLow (sym (f e)) values) pl.exits (all_next pl.exits h) (next_agrees pl d) in
        record { values = values; handed = handed; exits = exits }

    pub are_low : Distinct (exit_names pl.exits) → AreLow
    are_low d = by (has_enum pl.exits) refl
      where
        by : (b : Bool) → has_enum pl.exits ≡ b → AreLow
        by true h = with_enum h
        by false h = without d h
