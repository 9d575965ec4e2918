-- Parts past the limit.
use Rattle.std.proofs.Common.{◌≡◌, ℕ, zero, suc, ◌+◌, ◌<◌, ◌≤◌, nat_lt, true, false, List, [], ◌∷◌, ◌++◌, length, get_or, drop, map, refl, sym, ap, ◌∙◌, arith}
use Rattle.std.specs.Prelude.{option_map}
use Rattle.std.proofs.lemmas.Bool.{lt-ltb, le-ltb}
use Rattle.std.proofs.lemmas.List.{length-map, map-append}
use Rattle.rx_typed.specs.Types.{Typ, integer, boolean, tuple_of, reference, named, at_least_one, parts, sum_of_parts, shapes_of}
use Rattle.rx_hoist_plan.specs.declared.plan.Leaving.{Leaving}
use Rattle.rx_hoist_plan.specs.PlainPlan.{plain-Leaving}
use Rattle.rx_hoist_extraction.specs.Plan.{Plan, has_enum}
use Rattle.rx_hoist_extraction.specs.Values.{Value, types_of, value_type, values_of}
use Rattle.rx_hoist_extraction.specs.NewEnum.{all_fields, fields_at}
use Rattle.rx_hoist_extraction.specs.NewFunction.{joined_type, passed_types, viewed}
use Rattle.rx_hoist_extraction.specs.Limits.{enum_parts, first_past, made_parts, type_if_any}
use Rattle.rx_hoist_made.specs.Counts.{capped}
use Rattle.rx_hoist_made.proofs.Dropped.{drop_is}
use Rattle.rx_hoist.specs.Parts.{past, first, together_parts, enum_past, signature_types}
use Rattle.rx_hoist.proofs.LevelLemmas.{or_else, past_both, told_past}

pub viewed_parts : (Z : ℕ → ℕ) (t : Typ) → parts Z (viewed t) ≡ parts Z t
viewed_parts Z (integer k) = refl
viewed_parts Z boolean = refl
viewed_parts Z (tuple_of ts) = refl
viewed_parts Z (reference m t) = refl
viewed_parts Z (named i) = refl

sum_both : (Z : ℕ → ℕ) (ts us : List Typ) → sum_of_parts Z (shapes_of (ts ++ us)) ≡ sum_of_parts Z (shapes_of ts) + sum_of_parts Z (shapes_of us)
sum_both Z [] us = omega arith
sum_both Z (t ∷ ts) us = omega (arith, sum_both Z ts us)

pub first_both : (Z : ℕ → ℕ) (ts us : List Typ) → first Z (ts ++ us) ≡ or_else (first Z ts) (first Z us)
first_both Z ts us = ap (first_past 4096) (map-append (λ t. capped (parts Z t)) ts us) ∙ past_both 4096 (map (λ t. capped (parts Z t)) ts) (map (λ t. capped (parts Z t)) us)

one_is : (Z : ℕ → ℕ) (t : Typ) → sum_of_parts Z (shapes_of (t ∷ [])) ≡ parts Z t
one_is Z t = omega arith

pub together_is : (Z : ℕ → ℕ) (ts : List Typ) → past (together_parts Z ts) ≡ first Z (type_if_any (joined_type ts))
together_is Z [] = refl
together_is Z (t ∷ []) = ap (λ n. past (capped n)) (one_is Z t)
together_is Z (t ∷ u ∷ ts) = let e : nat_lt (length (t ∷ u ∷ ts)) 2 ≡ false = le-ltb (length (t ∷ u ∷ ts)) 2 (omega arith) in rw e refl

capped_one : (n : ℕ) → capped (at_least_one n) ≡ at_least_one (capped n)
capped_one zero = refl
capped_one (suc n) = positive (capped (suc n)) (omega arith)
  where
    positive : (m : ℕ) → 0 < m → m ≡ at_least_one m
    positive zero l = absurd (omega (arith, l))
    positive (suc m) l = refl

-- ---- what an exit and those behind it hand out

pub exit_here : (Z : ℕ → ℕ) (pl : Plan) (xs : List Leaving) (i : ℕ) (x : Leaving) (vs : List Value) → i < length xs → x ≡ get_or xs i x → vs ≡ values_of pl (plain-Leaving x)
    → sum_of_parts Z (shapes_of (all_fields pl (map plain-Leaving (drop i xs))))
    ≡ sum_of_parts Z (shapes_of (types_of vs)) + sum_of_parts Z (shapes_of (all_fields pl (map plain-Leaving (drop (i + 1) xs))))
exit_here Z pl xs i x vs l e values =
    let rest = all_fields pl (map plain-Leaving (drop (i + 1) xs)) in
    ap (λ (ys : List Leaving). sum_of_parts Z (shapes_of (all_fields pl (map plain-Leaving ys)))) (drop_is xs i x l e)
    ∙ sum_both Z (fields_at pl (plain-Leaving x)) rest
    ∙ ap (λ (ws : List Value). sum_of_parts Z (shapes_of (types_of ws)) + sum_of_parts Z (shapes_of rest)) (sym values)

-- ---- together

pub few_together : (Z : ℕ → ℕ) (vs : List Value) (n total : ℕ) → n ≡ length vs → n < 2 → total ≡ capped (sum_of_parts Z (shapes_of (types_of vs))) → total ≡ together_parts Z (types_of vs)
few_together Z vs n total many few is = let e : nat_lt (length (types_of vs)) 2 ≡ true = lt-ltb (length (types_of vs)) 2 (omega (arith, length-map vs value_type)) in rw e is

pub many_together : (Z : ℕ → ℕ) (vs : List Value) (n total : ℕ) → n ≡ length vs → 2 ≤ n → total ≡ capped (sum_of_parts Z (shapes_of (types_of vs))) → at_least_one total ≡ together_parts Z (types_of vs)
many_together Z vs n total many few is =
    let e : nat_lt (length (types_of vs)) 2 ≡ false = le-ltb (length (types_of vs)) 2 (omega (arith, length-map vs value_type)) in
    rw e (ap at_least_one is ∙ sym (capped_one (sum_of_parts Z (shapes_of (types_of vs)))))

-- ---- all

all_told : (Z : ℕ → ℕ) (ts : List Typ) → map capped (map (parts Z) ts) ≡ map (λ t. capped (parts Z t)) ts
all_told Z [] = refl
all_told Z (t ∷ ts) = ap (λ ns. capped (parts Z t) ∷ ns) (all_told Z ts)

pub made_with_enum : (Z : ℕ → ℕ) (pl : Plan) → has_enum pl.exits ≡ true → option_map capped (first_past 4096 (made_parts Z pl)) ≡ enum_past Z pl
made_with_enum Z pl e = rw e (told_past 4096 (omega arith) (enum_parts Z pl ∷ map (parts Z) (passed_types pl.params))
    ∙ ap (λ ns. first_past 4096 (capped (enum_parts Z pl) ∷ ns)) (all_told Z (passed_types pl.params)))

pub made_without : (Z : ℕ → ℕ) (pl : Plan) → has_enum pl.exits ≡ false → option_map capped (first_past 4096 (made_parts Z pl)) ≡ first Z (signature_types pl)
made_without Z pl e = rw e (told_past 4096 (omega arith) (map (parts Z) (signature_types pl)) ∙ ap (first_past 4096) (all_told Z (signature_types pl)))
