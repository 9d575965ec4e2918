-- Values in the order of their fields.
use Rattle.std.proofs.Common.{◌≡◌, ◌≢◌, ◌⊎◌, inl, inr, ℕ, zero, suc, ◌+◌, ◌<◌, ◌≤◌, nat_eq, true, false, List, [], ◌∷◌, ◌++◌, map, length, drop, get_or, slice_set, if◌then◌else◌, refl, sym, ap, subst, ◌∙◌, arith, length-append}
use Rattle.std.proofs.lemmas.List.{append_assoc}
use Rattle.std.proofs.lemmas.Bool.{eq-eqb}
use Rattle.std.proofs.lemmas.Bool.Decides.{eqb_tells}
use Rattle.rx_typed.specs.declared.tree.Operand.{Operand}
use Rattle.rx_typed.specs.PlainTree.{plain-Operand, operands_of}
use Rattle.rx_typed.proofs.Rules.{operand_by_parts}
use Rattle.rx_typed.specs.Tree.{Exp, fields_of, operand_and}
use Rattle.rx_meaning.specs.Values as plain
use Rattle.rx_meaning.specs.Values.{Values, no_value, value_and, lacking, unset, with_field}
use Rattle.rx_meaning.specs.Operators.{for_field, arranged, fields}
use Rattle.rx_machine_values.specs.declared.value.Lack.{Lack}
use Rattle.rx_machine_values.specs.declared.value.Value as code
use Rattle.rx_machine_values.specs.declared.value.Value.TheVariants as value
use Rattle.rx_machine_values.proofs.MemoryLemmas.{one_more}
use Rattle.rx_machine_values.specs.PlainValues.{plain-Value, values_of}
use Rattle.rx_machine_actions.specs.PlainActs.{written_fields, unsets, PlacedAt}

-- ---- a list of values with another at a number

pub set_is : (xs : List code.Value) (i : ℕ) (v : code.Value) → values_of (map plain-Value (slice_set xs i v)) ≡ with_field (values_of (map plain-Value xs)) i (plain-Value v)
set_is [] i v = refl
set_is (x ∷ xs) zero v = refl
set_is (x ∷ xs) (suc i) v = ap (λ l. value_and (plain-Value x) l) (set_is xs i v)

pub set_past : (xs : List code.Value) (i : ℕ) (w : plain.Value) → length xs ≤ i → values_of (map plain-Value xs) ≡ with_field (values_of (map plain-Value xs)) i w
set_past [] i w l = refl
set_past (x ∷ xs) zero w l = absurd (omega (arith, l))
set_past (x ∷ xs) (suc i) w l = ap (λ r. value_and (plain-Value x) r) (set_past xs i w (omega (arith, l)))

-- ---- operands by their numbers

pub placed_at : (es : List Operand) (k : ℕ) (e : Operand) (v : plain.Value) (old new : Values) → k < length es → new ≡ with_field old (get_or es k e).field v → PlacedAt es k v old new
placed_at [] k e v old new l p = absurd (omega (arith, l))
placed_at (d ∷ es) zero e v old new l p = p
placed_at (d ∷ es) (suc k) e v old new l p = placed_at es k e v old new (omega (arith, l)) p

pub placed_past : (es : List Operand) (k : ℕ) (v : plain.Value) (old : Values) → length es ≤ k → PlacedAt es k v old old
placed_past [] k v old l = refl
placed_past (d ∷ es) zero v old l = absurd (omega (arith, l))
placed_past (d ∷ es) (suc k) v old l = placed_past es k v old (omega (arith, l))

abbrev pub numbers : List Operand → List ℕ
numbers [] = []
numbers (e ∷ es) = e.field ∷ numbers es

pub written_is : (es : List Operand) → written_fields es ≡ numbers es
written_is [] = refl
written_is (e ∷ es) = ap (λ (o : ℕ × Exp). fields_of (operand_and o.0 o.1 (operands_of (map plain-Operand es)))) (operand_by_parts e) ∙ ap (λ l. e.field ∷ l) (written_is es)

-- ---- values in the order of their fields

not_same : (i j : ℕ) → (i ≡ j → ⊥) → nat_eq i j ≡ false
not_same i j h = by (eqb_tells i j)
  where
    by : ((nat_eq i j ≡ true) × (i ≡ j)) ⊎ ((nat_eq i j ≡ false) × (i ≢ j)) → nat_eq i j ≡ false
    by (inl t) = absurd (h t.1)
    by (inr f) = f.0

-- one that is written before does not come again
before : (n i j : ℕ) (js : List ℕ) (v : plain.Value) (vs : List plain.Value) → j < i → arranged n i (j ∷ js) (v ∷ vs) ≡ arranged n i js vs
before zero i j js v vs l = refl
before (suc n) i j js v vs l = ap (λ b. value_and (if b then v else for_field js vs i) (arranged n (suc i) (j ∷ js) (v ∷ vs))) (not_same i j (λ e. omega (arith, l, e))) ∙ ap (λ r. value_and (for_field js vs i) r) (before n (suc i) j js v vs (omega (arith, l)))

with_first : (n i k j : ℕ) (js : List ℕ) (v : plain.Value) (vs : List plain.Value) → j ≡ i + k → arranged n i (j ∷ js) (v ∷ vs) ≡ with_field (arranged n i js vs) k v
with_first zero i k j js v vs e = refl
with_first (suc n) i zero j js v vs e = ap (λ b. value_and (if b then v else for_field js vs i) (arranged n (suc i) (j ∷ js) (v ∷ vs))) (eq-eqb i j (omega (arith, e))) ∙ ap (λ r. value_and v r) (before n (suc i) j js v vs (omega (arith, e)))
with_first (suc n) i (suc k) j js v vs e = ap (λ b. value_and (if b then v else for_field js vs i) (arranged n (suc i) (j ∷ js) (v ∷ vs))) (not_same i j (λ h. omega (arith, e, h))) ∙ ap (λ r. value_and (for_field js vs i) r) (with_first n (suc i) k j js v vs (omega (arith, e)))

none_written : (n i : ℕ) (vs ws : List plain.Value) → arranged n i [] vs ≡ arranged n i [] ws
none_written zero i vs ws = refl
none_written (suc n) i vs ws = ap (λ r. value_and (lacking unset) r) (none_written n (suc i) vs ws)

-- the value of one more operand, from the last to the first
pub placed_is : (es : List Operand) (k n : ℕ) (v : plain.Value) (ws : List plain.Value) (old new : Values) → PlacedAt es k v old new
    → old ≡ arranged n 0 (drop (suc k) (numbers es)) ws → new ≡ arranged n 0 (drop k (numbers es)) (v ∷ ws)
placed_is [] zero n v ws old new p e = p ∙ e ∙ none_written n 0 ws (v ∷ ws)
placed_is [] (suc k) n v ws old new p e = p ∙ e ∙ none_written n 0 ws (v ∷ ws)
placed_is (e ∷ es) zero n v ws old new p h = p ∙ ap (λ r. with_field r e.field v) h ∙ sym (with_first n 0 e.field e.field (numbers es) v ws (omega arith))
placed_is (e ∷ es) (suc k) n v ws old new p h = placed_is es k n v ws old new p h

one_more_of : (n : ℕ) → unsets n ++ lacking unset ∷ [] ≡ unsets (n + 1)
one_more_of n = let e : suc n ≡ n + 1 = omega arith in more n ∙ ap unsets e
  where
    more : (n : ℕ) → unsets n ++ lacking unset ∷ [] ≡ unsets (suc n)
    more zero = refl
    more (suc n) = ap (λ l. lacking unset ∷ l) (more n)

pub one_more_unset : (xs : List code.Value) (n : ℕ) → map plain-Value xs ≡ unsets n → map plain-Value (xs ++ value.Lacking Lack.Unset ∷ []) ≡ unsets (n + 1)
one_more_unset xs n e = one_more xs ∙ ap (λ l. l ++ lacking unset ∷ []) e ∙ one_more_of n

unsets_are : (n i : ℕ) (js : List ℕ) → values_of (unsets n) ≡ arranged n i js []
unsets_are zero i js = refl
unsets_are (suc n) i [] = ap (λ r. value_and (lacking unset) r) (unsets_are n (suc i) [])
unsets_are (suc n) i (j ∷ js) = ap (λ r. value_and (lacking unset) r) (unsets_are n (suc i) (j ∷ js))

-- ---- all operands, from the last on

drop_front : {A : Type 0} (a b : List A) → drop (length a) (a ++ b) ≡ b
drop_front [] b = refl
drop_front (x ∷ a) b = drop_front a b

drop_all : {A : Type 0} (a : List A) → drop (length a) a ≡ []
drop_all [] = refl
drop_all (x ∷ a) = drop_all a

append_none : {A : Type 0} (a : List A) → a ++ [] ≡ a
append_none [] = refl
append_none (x ∷ a) = ap (λ l. x ∷ l) (append_none a)

-- what is left, in front of what is placed, is all
abbrev pub Placing : List Operand → List code.Value → List code.Value → List code.Value → List code.Value → Type 0
Placing es all left before parts =
    (left ++ drop (length left) all ≡ all)
    × ((n : ℕ) → map plain-Value before ≡ unsets n → values_of (map plain-Value parts) ≡ arranged n 0 (drop (length left) (numbers es)) (map plain-Value (drop (length left) all)))

pub placing_begins : (es : List Operand) (all before : List code.Value) → Placing es all all before before
placing_begins es all before = (
  ap (λ l. all ++ l) (drop_all all) ∙ append_none all,
  λ n e. ap values_of e ∙ unsets_are n 0 (drop (length all) (numbers es)) ∙ ap (λ l. arranged n 0 (drop (length all) (numbers es)) (map plain-Value l)) (sym (drop_all all)),
)

pub placing_goes_on : (es : List Operand) (all left rest before parts new : List code.Value) (v : code.Value) (k : ℕ) → left ≡ rest ++ v ∷ [] → k ≡ length rest
    → PlacedAt es k (plain-Value v) (values_of (map plain-Value parts)) (values_of (map plain-Value new)) → Placing es all left before parts → Placing es all rest before new
placing_goes_on es all left rest before parts new v k e h p q = (ap (λ l. rest ++ l) dropped ∙ whole, λ n i. made n (q.1 n i))
  where
    behind : List code.Value
    behind = drop (length left) all

    whole : rest ++ v ∷ behind ≡ all
    whole = sym (append_assoc rest (v ∷ []) behind) ∙ ap (λ l. l ++ behind) (sym e) ∙ q.0

    dropped : drop (length rest) all ≡ v ∷ behind
    dropped = ap (λ l. drop (length rest) l) (sym whole) ∙ drop_front rest (v ∷ behind)

    longer : length left ≡ suc (length rest)
    longer = ap length e ∙ length-append rest (v ∷ []) ∙ omega arith

    made : (n : ℕ) → values_of (map plain-Value parts) ≡ arranged n 0 (drop (length left) (numbers es)) (map plain-Value behind)
        → values_of (map plain-Value new) ≡ arranged n 0 (drop (length rest) (numbers es)) (map plain-Value (drop (length rest) all))
    made n i =
        placed_is es (length rest) n (plain-Value v) (map plain-Value behind) _ _ (subst (λ j. PlacedAt es j (plain-Value v) (values_of (map plain-Value parts)) (values_of (map plain-Value new))) h p)
        (i ∙ ap (λ j. arranged n 0 (drop j (numbers es)) (map plain-Value behind)) longer)
        ∙ ap (λ l. arranged n 0 (drop (length rest) (numbers es)) (map plain-Value l)) (sym dropped)

pub placing_ends : (es : List Operand) (all left before parts : List code.Value) → left ≡ [] → Placing es all left before parts → (n : ℕ) → map plain-Value before ≡ unsets n
    → values_of (map plain-Value parts) ≡ arranged n 0 (written_fields es) (map plain-Value all)
placing_ends es all left before parts e q n i = (subst (λ l. Placing es all l before parts) e q).1 n i ∙ ap (λ js. arranged n 0 js (map plain-Value all)) (sym (written_is es))

pub arranged_fields : (es : List Operand) (values kept : List code.Value) (n : ℕ) (before parts : List code.Value) → kept ≡ values → n ≡ length values → map plain-Value before ≡ unsets n
    → ((n : ℕ) → map plain-Value before ≡ unsets n → values_of (map plain-Value parts) ≡ arranged n 0 (written_fields es) (map plain-Value kept))
    → values_of (map plain-Value parts) ≡ fields (written_fields es) (map plain-Value values)
arranged_fields es values kept n before parts e h i k =
    k n i ∙ ap (λ l. arranged n 0 (written_fields es) (map plain-Value l)) e ∙ ap (λ m. arranged m 0 (written_fields es) (map plain-Value values)) (h ∙ sym (counted values))
  where
    counted : (l : List code.Value) → length (map plain-Value l) ≡ length l
    counted [] = refl
    counted (x ∷ l) = ap suc (counted l)
