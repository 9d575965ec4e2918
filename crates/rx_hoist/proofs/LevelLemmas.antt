-- Levels past the limit.
use Rattle.std.proofs.Common.{◌≡◌, ℕ, suc, ◌+◌, ◌<◌, ◌≤◌, nat_lt, Bool, true, false, List, [], ◌∷◌, ◌++◌, length, get_or, drop, map, Option, Some, None, refl, sym, ap, ◌∙◌, arith}
use Rattle.std.specs.Prelude.{if◌then◌else◌, option_map}
use Rattle.std.proofs.lemmas.Bool.{ltb-true, ltb-false, lt-ltb, le-ltb}
use Rattle.std.proofs.lemmas.List.{length-map, map-append}
use Rattle.rx_typed.specs.Types.{Typ, integer, boolean, tuple_of, reference, named, levels, most_levels, shapes_of}
use Rattle.rx_hoist_plan.specs.declared.plan.Leaving.{Leaving}
use Rattle.rx_hoist_plan.specs.PlainPlan.{plain-Leaving}
use Rattle.rx_hoist_extraction.specs.Plan.{Plan, has_enum}
use Rattle.rx_hoist_extraction.specs.Values.{Value, types_of, value_type, values_of}
use Rattle.rx_hoist_extraction.specs.NewEnum.{all_fields, fields_at}
use Rattle.rx_hoist_extraction.specs.NewFunction.{joined_type, viewed}
use Rattle.rx_hoist_extraction.specs.Limits.{first_past, made_levels, type_if_any}
use Rattle.rx_hoist_made.specs.Counts.{capped}
use Rattle.rx_hoist_made.proofs.Dropped.{drop_is}
use Rattle.rx_hoist.specs.Levels.{past, first, together_levels, enum_types, signature_types}

pub viewed_levels : (t : Typ) → levels (viewed t) ≡ levels t
viewed_levels (integer k) = refl
viewed_levels boolean = refl
viewed_levels (tuple_of ts) = refl
viewed_levels (reference m t) = refl
viewed_levels (named i) = refl

-- ---- the first number past a limit

abbrev pub or_else : Option ℕ → Option ℕ → Option ℕ
or_else None o = o
or_else (Some n) o = Some n

past_here : (l n : ℕ) (ns : List ℕ) → l < n → first_past l (n ∷ ns) ≡ Some n
past_here l n ns h = let e : nat_lt l n ≡ true = lt-ltb l n h in rw e refl

past_next : (l n : ℕ) (ns : List ℕ) → n ≤ l → first_past l (n ∷ ns) ≡ first_past l ns
past_next l n ns h = let e : nat_lt l n ≡ false = le-ltb l n h in rw e refl

pub past_one : (l n : ℕ) (ns : List ℕ) → first_past l (n ∷ ns) ≡ or_else (if nat_lt l n then Some n else None) (first_past l ns)
past_one l n ns = at (nat_lt l n) refl
  where
    at : (b : Bool) → nat_lt l n ≡ b → first_past l (n ∷ ns) ≡ or_else (if nat_lt l n then Some n else None) (first_past l ns)
    at true e = rw e refl
    at false e = rw e refl

pub past_both : (l : ℕ) (ns ms : List ℕ) → first_past l (ns ++ ms) ≡ or_else (first_past l ns) (first_past l ms)
past_both l [] ms = refl
past_both l (n ∷ ns) ms = at (nat_lt l n) refl (past_both l ns ms)
  where
    at : (b : Bool) → nat_lt l n ≡ b → first_past l (ns ++ ms) ≡ or_else (first_past l ns) (first_past l ms) → first_past l ((n ∷ ns) ++ ms) ≡ or_else (first_past l (n ∷ ns)) (first_past l ms)
    at true e more = rw e refl
    at false e more = rw e more

-- the number that is told in 64 bits
pub told_past : (l : ℕ) → l < 18446744073709551615 → (ns : List ℕ) → option_map capped (first_past l ns) ≡ first_past l (map capped ns)
told_past l h [] = refl
told_past l h (n ∷ ns) = at (nat_lt l n) refl (told_past l h ns)
  where
    at : (b : Bool) → nat_lt l n ≡ b → option_map capped (first_past l ns) ≡ first_past l (map capped ns) → option_map capped (first_past l (n ∷ ns)) ≡ first_past l (map capped (n ∷ ns))
    at true e more = let f : nat_lt l (capped n) ≡ true = lt-ltb l (capped n) (omega (arith, ltb-true l n e)) in rw (e, f) refl
    at false e more = let f : nat_lt l (capped n) ≡ false = le-ltb l (capped n) (omega (arith, ltb-false l n e)) in rw (e, f) more

-- ---- turns of a loop that looks for it

-- the numbers of what is left begin with that of the next element
past_left : {A : Type 0} (l : ℕ) (F : List A → List ℕ) (xs : List A) (i : ℕ) (x : A) (m : ℕ) (whole : Option ℕ) → i < length xs → x ≡ get_or xs i x
    → F (x ∷ drop (i + 1) xs) ≡ m ∷ F (drop (i + 1) xs) → first_past l (F (drop i xs)) ≡ whole → first_past l (m ∷ F (drop (i + 1) xs)) ≡ whole
past_left l F xs i x m whole less is split kept = sym (ap (first_past l) split) ∙ sym (ap (λ ys. first_past l (F ys)) (drop_is xs i x less is)) ∙ kept

pub past_on : {A : Type 0} (l : ℕ) (F : List A → List ℕ) (xs : List A) (i : ℕ) (x : A) (n m : ℕ) (whole : Option ℕ) → i < length xs → x ≡ get_or xs i x
    → F (x ∷ drop (i + 1) xs) ≡ m ∷ F (drop (i + 1) xs) → n ≡ m → n ≤ l → first_past l (F (drop i xs)) ≡ whole → first_past l (F (drop (i + 1) xs)) ≡ whole
past_on l F xs i x n m whole less is split same few kept =
    sym (past_next l n (F (drop (i + 1) xs)) few) ∙ ap (λ k. first_past l (k ∷ F (drop (i + 1) xs))) same ∙ past_left l F xs i x m whole less is split kept

pub past_found : {A : Type 0} (l : ℕ) (F : List A → List ℕ) (xs : List A) (i : ℕ) (x : A) (n m : ℕ) (whole : Option ℕ) → i < length xs → x ≡ get_or xs i x
    → F (x ∷ drop (i + 1) xs) ≡ m ∷ F (drop (i + 1) xs) → n ≡ m → l < n → first_past l (F (drop i xs)) ≡ whole → Some n ≡ whole
past_found l F xs i x n m whole less is split same many kept =
    sym (past_here l n (F (drop (i + 1) xs)) many) ∙ ap (λ k. first_past l (k ∷ F (drop (i + 1) xs))) same ∙ past_left l F xs i x m whole less is split kept

-- ---- levels

pub first_both : (ts us : List Typ) → first (ts ++ us) ≡ or_else (first ts) (first us)
first_both ts us = ap (first_past 128) (map-append (λ t. capped (levels t)) ts us) ∙ past_both 128 (map (λ t. capped (levels t)) ts) (map (λ t. capped (levels t)) us)

-- a turn over exits: what the next one hands out comes first
pub exits_left : (pl : Plan) (xs : List Leaving) (i : ℕ) (x : Leaving) (vs : List Value) (o whole : Option ℕ) → i < length xs → x ≡ get_or xs i x
    → vs ≡ values_of pl (plain-Leaving x) → o ≡ first (types_of vs) → first (all_fields pl (map plain-Leaving (drop i xs))) ≡ whole
    → or_else o (first (all_fields pl (map plain-Leaving (drop (i + 1) xs)))) ≡ whole
exits_left pl xs i x vs o whole less is values here kept =
    let rest = all_fields pl (map plain-Leaving (drop (i + 1) xs)) in
    ap (λ p. or_else p (first rest)) (here ∙ ap (λ ws. first (types_of ws)) values) ∙ sym (first_both (fields_at pl (plain-Leaving x)) rest)
    ∙ sym (ap (λ (ys : List Leaving). first (all_fields pl (map plain-Leaving ys))) (drop_is xs i x less is)) ∙ kept

pub few_together : (vs : List Value) (n most : ℕ) → n ≡ length vs → n < 2 → most ≡ capped (most_levels (shapes_of (types_of vs))) → most ≡ together_levels (types_of vs)
few_together vs n most many few is = let e : nat_lt (length (types_of vs)) 2 ≡ true = lt-ltb (length (types_of vs)) 2 (omega (arith, length-map vs value_type)) in rw e is

pub many_together : (vs : List Value) (n most : ℕ) → n ≡ length vs → 2 ≤ n → most ≡ capped (suc (most_levels (shapes_of (types_of vs)))) → most ≡ together_levels (types_of vs)
many_together vs n most many few is = let e : nat_lt (length (types_of vs)) 2 ≡ false = le-ltb (length (types_of vs)) 2 (omega (arith, length-map vs value_type)) in rw e is

one_is : (t : Typ) → most_levels (shapes_of (t ∷ [])) ≡ levels t
one_is t = omega arith

pub together_is : (ts : List Typ) → past (together_levels ts) ≡ first (type_if_any (joined_type ts))
together_is [] = refl
together_is (t ∷ []) = ap (λ n. past (capped n)) (one_is t)
together_is (t ∷ u ∷ ts) = let e : nat_lt (length (t ∷ u ∷ ts)) 2 ≡ false = le-ltb (length (t ∷ u ∷ ts)) 2 (omega arith) in rw e refl

pub with_enum : (pl : Plan) → has_enum pl.exits ≡ true → first (enum_types pl) ≡ first (all_fields pl pl.exits)
with_enum pl e = rw e refl

pub without_enum : (pl : Plan) → has_enum pl.exits ≡ false → first (enum_types pl) ≡ None
without_enum pl e = rw e refl

first_of_all : (ts : List Typ) → map capped (map levels ts) ≡ map (λ t. capped (levels t)) ts
first_of_all [] = refl
first_of_all (t ∷ ts) = ap (λ ns. capped (levels t) ∷ ns) (first_of_all ts)

-- those of the enum, or else those of the signature
pub made_is : (pl : Plan) → option_map capped (first_past 128 (made_levels pl)) ≡ or_else (first (enum_types pl)) (first (signature_types pl))
made_is pl = told_past 128 (omega arith) (made_levels pl) ∙ ap (first_past 128) (first_of_all (enum_types pl ++ signature_types pl)) ∙ first_both (enum_types pl) (signature_types pl)
