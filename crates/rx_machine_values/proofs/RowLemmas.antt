-- Rows of nodes, and the values that they are.
use Rattle.std.proofs.Common.{◌≡◌, ℕ, zero, suc, ◌+◌, ◌-◌, ◌<◌, ◌≤◌, ◌&&◌, Bool, true, false, List, [], ◌∷◌, ◌++◌, map, length, take, drop, get_or, Option, None, Some, refl, sym, ap, ◌∙◌, subst, arith, append_assoc, length-drop}
use Rattle.std.proofs.lemmas.List.{length-take, length-map, length-take-le, take-append-drop, take-take, take_at, drop_at, drop-take, drop-drop, drop_all, drop_more, drop-map}
use Rattle.rx_meaning.specs.Values as plain
use Rattle.rx_meaning.specs.Values.{Value, Values, no_value, value_and, is_set, are_set, field, with_field, and_then}
use Rattle.rx_machine_values.specs.declared.value.Node as code_node
use Rattle.rx_machine_values.specs.declared.value.Value as code
use Rattle.rx_machine_values.specs.declared.value.Value.TheVariants as value
use Rattle.rx_machine_values.specs.Rows.{Node, leaf, whole, tagged, extent, with_parts, values_within, values_in, begins, shifted, first_value, behind_first, replaced, has_value, all_have}
use Rattle.rx_machine_values.specs.PlainNumber.{plain-Number}
use Rattle.rx_machine_values.specs.PlainValues.{plain-Value, plain-Parts, plain-Pointer, plain-Lack, plain-Node, plain-Nodes, row_of, rows_of, values_of}

-- ---- a row by its first node

within_is : (j k : ℕ) (ns : List Node) → length ns ≤ j → length ns ≤ k → values_within j ns ≡ values_within k ns
unfolding values_within
within_is zero zero ns a b = refl
within_is zero (suc k) [] a b = refl
within_is zero (suc k) (n ∷ ns) a b = absurd (omega (arith, a))
within_is (suc j) zero [] a b = refl
within_is (suc j) zero (n ∷ ns) a b = absurd (omega (arith, b))
within_is (suc j) (suc k) [] a b = refl
within_is (suc j) (suc k) (n ∷ ns) a b =
    let t = length-take (extent n) ns in
    let d = length-drop (extent n) ns in
    ap (λ vs. value_and (with_parts n vs) (values_within j (drop (extent n) ns))) (within_is j k (take (extent n) ns) (omega (arith, a, t)) (omega (arith, b, t)))
    ∙ ap (λ vs. value_and (with_parts n (values_within k (take (extent n) ns))) vs) (within_is j k (drop (extent n) ns) (omega (arith, a, d)) (omega (arith, b, d)))

pub no_values : values_in [] ≡ no_value
unfolding values_in values_within
no_values = refl

pub values_front : (n : Node) (ns : List Node) → values_in (n ∷ ns) ≡ value_and (with_parts n (values_in (take (extent n) ns))) (values_in (drop (extent n) ns))
unfolding values_in values_within
values_front n ns =
    let t = length-take (extent n) ns in
    let d = length-drop (extent n) ns in
    ap (λ vs. value_and (with_parts n vs) (values_within (length ns) (drop (extent n) ns))) (within_is (length ns) (length (take (extent n) ns)) (take (extent n) ns) (omega (arith, t)) (omega arith))
    ∙ ap (λ vs. value_and (with_parts n (values_in (take (extent n) ns))) vs) (within_is (length ns) (length (drop (extent n) ns)) (drop (extent n) ns) (omega (arith, d)) (omega arith))

-- with its own parts behind it
pub values_row : (n : Node) (ps ns : List Node) → extent n ≡ length ps → values_in (n ∷ (ps ++ ns)) ≡ value_and (with_parts n (values_in ps)) (values_in ns)
values_row n ps ns e =
    values_front n (ps ++ ns)
    ∙ ap (λ l. value_and (with_parts n (values_in l)) (values_in (drop (extent n) (ps ++ ns)))) (take_at ps ns (extent n) (sym e))
    ∙ ap (λ l. value_and (with_parts n (values_in ps)) (values_in l)) (drop_at ps ns (extent n) (sym e))

-- ---- the value at a number

some_is : {A : Type 0} {a b : A} → Some a ≡ Some b → a ≡ b
some_is e = cc

pub field_is : (i : ℕ) (ns : List Node) → field (values_in ns) i ≡ and_then (begins i ns) (λ j. first_value (drop j ns))
field_is i [] = ap (λ vs. field vs i) no_values
field_is zero (n ∷ ns) = ap (λ vs. field vs zero) (values_front n ns)
field_is (suc i) (n ∷ ns) = ap (λ vs. field vs (suc i)) (values_front n ns) ∙ field_is i (drop (extent n) ns) ∙ by (begins i (drop (extent n) ns))
  where
    by : (o : Option ℕ) → and_then o (λ j. first_value (drop j (drop (extent n) ns))) ≡ and_then (and_then o (λ j. Some (suc (extent n + j)))) (λ j. first_value (drop j (n ∷ ns)))
    by None = refl
    by (Some j) = ap first_value (drop-drop j (extent n) ns)

-- ---- another in its place

-- the nodes are those of one value
abbrev pub IsRow : List Node → Value → Type 0
IsRow row w = (ns : List Node) → values_in (row ++ ns) ≡ value_and w (values_in ns)

take_further : (m k : ℕ) (ns : List Node) → take (m + k) ns ≡ take m ns ++ take k (drop m ns)
take_further m k ns =
    sym (take-append-drop m (take (m + k) ns)) ∙ ap (λ l. l ++ drop m (take (m + k) ns)) (take-take m (m + k) ns (omega arith)) ∙ ap (λ l. take m ns ++ l) (drop-take m k ns)

further : (n : Node) (ns row : List Node) (k : ℕ) → extent n ≤ length ns → values_in (replaced (n ∷ ns) (suc (extent n + k)) row) ≡ value_and (with_parts n (values_in (take (extent n) ns))) (values_in (replaced (drop (extent n) ns) k row))
further n ns row k l =
    ap (λ t. values_in (n ∷ (t ++ (row ++ behind_first (drop (extent n + k) ns))))) (take_further (extent n) k ns)
    ∙ ap (λ d. values_in (n ∷ ((take (extent n) ns ++ take k (drop (extent n) ns)) ++ (row ++ behind_first d)))) (sym (drop-drop k (extent n) ns))
    ∙ ap (λ t. values_in (n ∷ t)) (append_assoc (take (extent n) ns) (take k (drop (extent n) ns)) (row ++ behind_first (drop k (drop (extent n) ns))))
    ∙ values_row n (take (extent n) ns) (replaced (drop (extent n) ns) k row) (sym (length-take-le (extent n) ns l))

begins_some : (i j : ℕ) (ns : List Node) → begins i ns ≡ Some j → 0 < length ns
begins_some i j [] e = absurd (cc)
begins_some i j (n ∷ ns) e = omega arith

pub replaced_is : (i j : ℕ) (ns row : List Node) (w : Value) → begins i ns ≡ Some j → IsRow row w → values_in (replaced ns j row) ≡ with_field (values_in ns) i w
replaced_is i j [] row w e h = absurd (cc)
replaced_is zero j (n ∷ ns) row w e h =
    subst (λ k. values_in (replaced (n ∷ ns) k row) ≡ with_field (values_in (n ∷ ns)) zero w) (some_is e)
    (h (drop (extent n) ns) ∙ sym (ap (λ vs. with_field vs zero w) (values_front n ns)))
replaced_is (suc i) j (n ∷ ns) row w e h = by (begins i (drop (extent n) ns)) refl e (λ k f. replaced_is i k (drop (extent n) ns) row w f h)
  where
    by : (o : Option ℕ) → begins i (drop (extent n) ns) ≡ o → and_then o (λ k. Some (suc (extent n + k))) ≡ Some j
        → ((k : ℕ) → begins i (drop (extent n) ns) ≡ Some k → values_in (replaced (drop (extent n) ns) k row) ≡ with_field (values_in (drop (extent n) ns)) i w)
        → values_in (replaced (n ∷ ns) j row) ≡ with_field (values_in (n ∷ ns)) (suc i) w
    by None f g r = absurd (cc)
    by (Some k) f g r =
        let l = begins_some i k (drop (extent n) ns) f in
        let d = length-drop (extent n) ns in
        subst (λ m. values_in (replaced (n ∷ ns) m row) ≡ with_field (values_in (n ∷ ns)) (suc i) w) (some_is g)
        (further n ns row k (omega (arith, l, d))
        ∙ ap (λ vs. value_and (with_parts n (values_in (take (extent n) ns))) vs) (r k f)
        ∙ sym (ap (λ vs. with_field vs (suc i) w) (values_front n ns)))

-- ---- each has a value

and_assoc : (x y z : Bool) → (x && (y && z)) ≡ ((x && y) && z)
and_assoc true y z = refl
and_assoc false y z = refl

all_append : (a b : List Node) → all_have (a ++ b) ≡ (all_have a && all_have b)
all_append [] b = refl
all_append (n ∷ a) b = ap (λ x. has_value n && x) (all_append a b) ∙ and_assoc (has_value n) (all_have a) (all_have b)

abbrev AllWithin : ℕ → Type 0
AllWithin k = (ns : List Node) → length ns ≤ k → all_have ns ≡ are_set (values_within k ns)

cut : (k e : ℕ) (ns : List Node) → AllWithin k → length ns ≤ k → all_have ns ≡ (are_set (values_within k (take e ns)) && are_set (values_within k (drop e ns)))
cut k e ns h l =
    let t = length-take e ns in
    let d = length-drop e ns in
    ap all_have (sym (take-append-drop e ns)) ∙ all_append (take e ns) (drop e ns)
    ∙ ap (λ b. b && all_have (drop e ns)) (h (take e ns) (omega (arith, l, t)))
    ∙ ap (λ b. are_set (values_within k (take e ns)) && b) (h (drop e ns) (omega (arith, l, d)))

within_none : AllWithin 0
unfolding values_within
within_none [] l = refl
within_none (n ∷ ns) l = absurd (omega (arith, l))

within_more : (k : ℕ) → AllWithin k → AllWithin (suc k)
unfolding values_within
within_more k h [] l = refl
within_more k h (leaf v ∷ ns) l = ap (λ b. is_set v && b) (h ns (omega (arith, l)))
within_more k h (whole e ∷ ns) l = cut k e ns h (omega (arith, l))
within_more k h (tagged i e ∷ ns) l = cut k e ns h (omega (arith, l))

all_within : (k : ℕ) → AllWithin k
all_within zero = within_none
all_within (suc k) = within_more k (all_within k)

pub all_set : (ns : List Node) → all_have ns ≡ are_set (values_in ns)
unfolding values_in
all_set ns = all_within (length ns) ns (omega arith)

-- ---- rows of values

pub row_value : (v : code.Value) → IsRow (row_of v) (plain-Value v)
unfolding plain-Value plain-Parts
row_value (value.Number n) = λ ns. values_front (leaf (plain-Number n)) ns
row_value (value.Truth b) = λ ns. values_front (leaf (plain.truth b)) ns
row_value value.Unit = λ ns. values_front (whole 0) ns ∙ ap (λ vs. value_and (plain.whole vs) (values_in ns)) no_values
row_value (value.Whole b) = λ ns. values_row (whole (length b.value.nodes)) (plain-Nodes b.value.nodes) ns (sym (length-map b.value.nodes plain-Node))
row_value (value.Tagged i b) = λ ns. values_row (tagged i (length b.value.nodes)) (plain-Nodes b.value.nodes) ns (sym (length-map b.value.nodes plain-Node))
row_value (value.Pointer b) = λ ns. values_front (leaf (plain-Pointer b.value)) ns
row_value (value.Lacking l) = λ ns. values_front (leaf (plain.lacking (plain-Lack l))) ns

pub rows_value : (vs : List code.Value) → values_in (rows_of vs) ≡ values_of (map plain-Value vs)
rows_value [] = no_values
rows_value (v ∷ vs) = row_value v (rows_of vs) ∙ ap (λ l. value_and (plain-Value v) l) (rows_value vs)

-- ---- nodes of the code at their places

module _ (ns : List code_node.Node) (at : ℕ) (x : code_node.Node) (l : at < length ns) (is : x ≡ get_or ns at x) where
  pub node_there : drop at (plain-Nodes ns) ≡ plain-Node x ∷ drop (at + 1) (plain-Nodes ns)
  node_there =
      drop-map plain-Node at ns ∙ ap (λ k. map plain-Node k) (drop_more ns at x l ∙ ap (λ y. y ∷ drop (at + 1) ns) (sym is))
      ∙ ap (λ k. plain-Node x ∷ k) (sym (drop-map plain-Node (at + 1) ns))

  pub part_there : (p : Value) (rest : List code_node.Node) → p ≡ with_parts (plain-Node x) (values_in (take (extent (plain-Node x)) (plain-Nodes rest))) → plain-Nodes rest ≡ drop (at + 1) (plain-Nodes ns) → Some p ≡ first_value (drop at (plain-Nodes ns))
  part_there p rest e f = ap Some (e ∙ ap (λ k. with_parts (plain-Node x) (values_in (take (extent (plain-Node x)) k))) f) ∙ sym (ap first_value node_there)

  pub behind_there : (e : ℕ) (rest all : List code_node.Node) → e ≡ extent (plain-Node x) → plain-Nodes rest ≡ drop (at + 1) (plain-Nodes ns) → plain-Nodes all ≡ drop e (plain-Nodes rest) → plain-Nodes all ≡ behind_first (drop at (plain-Nodes ns))
  behind_there e rest all f g h = h ∙ ap (λ k. drop e k) g ∙ ap (λ k. drop k (drop (at + 1) (plain-Nodes ns))) f ∙ sym (ap behind_first node_there)

  pub none_next : (e : ℕ) → e ≡ extent (plain-Node x) → length ns - at - 1 ≤ e → (i : ℕ) → begins (suc i) (drop at (plain-Nodes ns)) ≡ None
  none_next e f m i =
      let d = length-drop (at + 1) (plain-Nodes ns) in
      let c = length-map ns plain-Node in
      ap (λ k. begins (suc i) k) node_there
      ∙ ap (λ k. and_then (begins i k) (λ j. Some (suc (extent (plain-Node x) + j)))) (drop_all (extent (plain-Node x)) (drop (at + 1) (plain-Nodes ns)) (omega (arith, d, c, f, m)))

  pub some_next : (e to : ℕ) → e ≡ extent (plain-Node x) → to ≡ at + 1 + e → (i : ℕ) → shifted at (begins (suc i) (drop at (plain-Nodes ns))) ≡ shifted to (begins i (drop to (plain-Nodes ns)))
  some_next e to f g i =
      ap (λ k. shifted at (begins (suc i) k)) node_there
      ∙ ap (λ k. shifted at (and_then (begins i k) (λ j. Some (suc (extent (plain-Node x) + j))))) (drop-drop (extent (plain-Node x)) (at + 1) (plain-Nodes ns))
      ∙ ap (λ k. shifted at (and_then (begins i (drop k (plain-Nodes ns))) (λ j. Some (suc (extent (plain-Node x) + j))))) here
      ∙ by (begins i (drop to (plain-Nodes ns)))
    where
      here : at + 1 + extent (plain-Node x) ≡ to
      here = omega (arith, f, g)

      by : (o : Option ℕ) → shifted at (and_then o (λ j. Some (suc (extent (plain-Node x) + j)))) ≡ shifted to o
      by None = refl
      by (Some j) = let k : at + suc (extent (plain-Node x) + j) ≡ to + j = omega (arith, f, g) in ap Some k

-- what a search for a place keeps
abbrev pub Searching : List Node → ℕ → ℕ → ℕ → Type 0
Searching ns number turn at = (i : ℕ) → i + turn ≡ number → shifted at (begins i (drop at ns)) ≡ begins number ns

pub searching_begins : (ns : List Node) (number : ℕ) → Searching ns number 0 0
searching_begins ns number i e = by (begins i ns) ∙ ap (λ k. begins k ns) same
  where
    same : i ≡ number
    same = omega (arith, e)

    by : (o : Option ℕ) → shifted 0 o ≡ o
    by None = refl
    by (Some j) = let k : 0 + j ≡ j = omega arith in ap Some k

pub searching_goes_on : (ns : List Node) (number turn at to : ℕ) → Searching ns number turn at → ((i : ℕ) → shifted at (begins (suc i) (drop at ns)) ≡ shifted to (begins i (drop to ns))) → Searching ns number (turn + 1) to
searching_goes_on ns number turn at to s h i e = sym (h i) ∙ s (suc i) (omega (arith, e))

pub searching_ends : (ns : List Node) (number turn at : ℕ) → number ≤ turn → turn ≤ number → at < length ns → Searching ns number turn at → Some at ≡ begins number ns
searching_ends ns number turn at a b l s = (let k : at ≡ at + 0 = omega arith in ap Some k) ∙ sym (ap (λ o. shifted at o) (by (drop at ns) (let d = length-drop at ns in omega (arith, l, d)))) ∙ s 0 (omega (arith, a, b))
  where
    by : (ms : List Node) → 0 < length ms → begins 0 ms ≡ Some 0
    by [] l = absurd (omega (arith, l))
    by (m ∷ ms) l = refl

pub searching_fails : (ns : List Node) (number turn at : ℕ) → turn < number → Searching ns number turn at → ((i : ℕ) → begins (suc i) (drop at ns) ≡ None) → None ≡ begins number ns
searching_fails ns number turn at l s h = sym (ap (λ o. shifted at o) (h (number - turn - 1))) ∙ s (suc (number - turn - 1)) (omega (arith, l))
