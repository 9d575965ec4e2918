-- What stands in place of the run, by the names of a row.
use Rattle.std.proofs.Common.{◌≡◌, ℕ, zero, suc, ◌+◌, ◌<◌, ◌≤◌, List, [], ◌∷◌, ◌++◌, length, map, drop, Option, slice_get, refl, sym, ap, ap₂, ◌∙◌, arith, codes}
use Rattle.rx_core.specs.declared.types.Span.{Span}
use Rattle.rx_tree.specs.declared.tree.Ident.{Ident}
use Rattle.rx_tree.specs.Plain as plain
use Rattle.rx_tree.specs.Plain.{PatternTree, Expression, Statement, OptionalExpression}
use Rattle.rx_tree.specs.PlainOf.{arms_of}
use Rattle.rx_tree.specs.Lists.{nth}
use Rattle.rx_hoist_extraction.specs.Names.{Names}
use Rattle.rx_hoist_extraction.specs.Plan.{Leaving, Plan, Variable}
use Rattle.rx_hoist_extraction.specs.Values.{Value, result_of, variables_held, held_by}
use Rattle.rx_hoist_extraction.specs.Fresh.{fresh_variable}
use Rattle.rx_hoist_extraction.specs.Made.{as_patterns, let_value}
use Rattle.rx_hoist_extraction.specs.Call as calls
use Rattle.rx_hoist_extraction.specs.Call.{fresh_from, arms, handed}
use Rattle.rx_hoist_made.specs.Rows.{fresh_row, nth_name}
use Rattle.rx_hoist_items.specs.Calling.{arm, received, all_received, put_back, all_put_back, first_as_tail, more_handed, few_handed}
use Rattle.rx_hoist_made.proofs.RowLemmas.{nth_behind}
use Rattle.rx_hoist_items.proofs.SignatureLemmas.{nth_fresh}

pub nth_is : {A : Type 0} (xs : List A) (k : ℕ) → nth xs k ≡ slice_get xs k
nth_is [] k = refl
nth_is (x ∷ xs) zero = refl
nth_is (x ∷ xs) (suc k) = nth_is xs k

pub fresh_from_is : (pl : Plan) (i many : ℕ) → fresh_from pl i many ≡ fresh_row (codes "out_") pl.identifiers i many
fresh_from_is pl i zero = refl
fresh_from_is pl i (suc many) = ap (λ xs. fresh_variable pl.identifiers i ∷ xs) (fresh_from_is pl (suc i) many)

pub arms_are : (pl : Plan) (s : Span) (labels : List (Option Ident)) (xs : List Leaving) → arms pl s labels xs ≡ arms_of (map (arm pl s labels) xs)
arms_are pl s labels [] = refl
arms_are pl s labels (x ∷ xs) = let a = arm pl s labels x in ap (plain.arm_and a.0 a.1) (arms_are pl s labels xs)

-- ---- a row that begins further on

received_moved : (s : Span) (own : Names) (r q : ℕ → List ℕ) (m n : ℕ) → ((k : ℕ) → q k ≡ r (m + k)) → (hs : List Value) → all_received s own q n hs ≡ all_received s own r (m + n) hs
received_moved s own r q m n h [] = refl
received_moved s own r q m n h (v ∷ hs) = let e : m + suc n ≡ suc (m + n) = omega arith in
    ap₂ (λ p ps. p ∷ ps) (one v) (received_moved s own r q m (suc n) h hs ∙ ap (λ k. all_received s own r k hs) e)
  where
    one : (v : Value) → received s own q n v ≡ received s own r (m + n) v
    one (result_of t) = rw (h n) refl
    one (held_by v) = rw (h n) refl

put_moved : (s : Span) (own : Names) (r q : ℕ → List ℕ) (m n : ℕ) → ((k : ℕ) → q k ≡ r (m + k)) → (hs : List Value) → all_put_back s own q n hs ≡ all_put_back s own r (m + n) hs
put_moved s own r q m n h [] = refl
put_moved s own r q m n h (v ∷ hs) = let e : m + suc n ≡ suc (m + n) = omega arith in
    ap₂ (λ p ps. p ++ ps) (one v) (put_moved s own r q m (suc n) h hs ∙ ap (λ k. all_put_back s own r k hs) e)
  where
    one : (v : Value) → put_back s own q n v ≡ put_back s own r (m + n) v
    one (result_of t) = refl
    one (held_by v) = rw (h n) refl

pub received_behind : (s : Span) (own : Names) (m : ℕ) (names : Names) (hs : List Value) → all_received s own (nth_name (drop m names)) 0 hs ≡ all_received s own (nth_name names) m hs
received_behind s own m names hs = let e : m + 0 ≡ m = omega arith in
    received_moved s own (nth_name names) (nth_name (drop m names)) m 0 (λ k. nth_behind m k names) hs ∙ ap (λ k. all_received s own (nth_name names) k hs) e

pub put_behind : (s : Span) (own : Names) (m : ℕ) (names : Names) (hs : List Value) → all_put_back s own (nth_name (drop m names)) 0 hs ≡ all_put_back s own (nth_name names) m hs
put_behind s own m names hs = let e : m + 0 ≡ m = omega arith in
    put_moved s own (nth_name names) (nth_name (drop m names)) m 0 (λ k. nth_behind m k names) hs ∙ ap (λ k. all_put_back s own (nth_name names) k hs) e

-- ---- fresh names

abbrev Agree : (ℕ → List ℕ) → Plan → ℕ → ℕ → Type 0
Agree r pl n many = (k : ℕ) → n ≤ k → k < n + many → r k ≡ fresh_variable pl.identifiers k

received_same : (pl : Plan) (s : Span) (own : Names) (r : ℕ → List ℕ) (n : ℕ) (hs : List Value) → Agree r pl n (length hs) → all_received s own r n hs ≡ calls.all_received pl s own n hs
received_same pl s own r n [] h = refl
received_same pl s own r n (v ∷ hs) h = ap₂ (λ p ps. p ∷ ps) (one v (h n (omega arith) (omega arith)))
    (received_same pl s own r (suc n) hs (λ k a b. h k (omega arith) (omega arith)))
  where
    one : (v : Value) → r n ≡ fresh_variable pl.identifiers n → received s own r n v ≡ calls.received pl s own n v
    one (result_of t) e = rw e refl
    one (held_by v) e = rw e refl

put_same : (pl : Plan) (s : Span) (own : Names) (r : ℕ → List ℕ) (n : ℕ) (hs : List Value) → Agree r pl n (length hs) → all_put_back s own r n hs ≡ calls.all_put_back pl s own n hs
put_same pl s own r n [] h = refl
put_same pl s own r n (v ∷ hs) h = ap₂ (λ p ps. p ++ ps) (one v (h n (omega arith) (omega arith)))
    (put_same pl s own r (suc n) hs (λ k a b. h k (omega arith) (omega arith)))
  where
    one : (v : Value) → r n ≡ fresh_variable pl.identifiers n → put_back s own r n v ≡ calls.put_back pl s own n v
    one (result_of t) e = refl
    one (held_by v) e = rw e refl

tail_same : (pl : Plan) (s : Span) (r : ℕ → List ℕ) (hs : List Value) → Agree r pl 0 (length hs) → first_as_tail s r hs ≡ calls.first_as_tail pl s hs
tail_same pl s r [] h = refl
tail_same pl s r (result_of t ∷ hs) h = ap (λ x. plain.present (plain.var s x)) (h 0 (omega arith) (omega arith))
tail_same pl s r (held_by v ∷ hs) h = refl

more_same : (pl : Plan) (s : Span) (own names : Names) (c : Expression) (hs : List Value) → Agree (nth_name names) pl 0 (length hs)
    → more_handed s own names c hs ≡ calls.more_handed pl s own c hs
more_same pl s own names c hs h =
    ap₂ (λ (ps : List PatternTree) (q : List Statement × OptionalExpression). record { statements = let_value s (plain.tuple_pattern s (as_patterns ps)) c ∷ q.0; tail = q.1 })
    (received_same pl s own (nth_name names) 0 hs h)
    (ap₂ (λ a b. (a, b)) (put_same pl s own (nth_name names) 0 hs h) (tail_same pl s (nth_name names) hs h))

fresh_agree : (pl : Plan) (many : ℕ) → Agree (nth_name (fresh_row (codes "out_") pl.identifiers 0 many)) pl 0 many
fresh_agree pl many k a b = let e : 0 + k ≡ k = omega arith in nth_fresh (codes "out_") pl.identifiers 0 many k (omega arith) ∙ ap (fresh_variable pl.identifiers) e

pub handed_few : (pl : Plan) (s : Span) (own : Names) (c : Expression) (hs : List Value) → length hs < 2 → handed pl s own c hs ≡ few_handed s own c hs
handed_few pl s own c [] l = refl
handed_few pl s own c (result_of t ∷ []) l = refl
handed_few pl s own c (held_by v ∷ []) l = refl
handed_few pl s own c (h ∷ i ∷ hs) l = absurd (omega arith)

handed_is_more : (pl : Plan) (s : Span) (own : Names) (c : Expression) (hs : List Value) → 2 ≤ length hs → handed pl s own c hs ≡ calls.more_handed pl s own c hs
handed_is_more pl s own c [] l = absurd (omega arith)
handed_is_more pl s own c (h ∷ []) l = absurd (omega arith)
handed_is_more pl s own c (h ∷ i ∷ hs) l = refl

pub handed_more : (pl : Plan) (s : Span) (own names : Names) (c : Expression) (hs : List Value) (many : ℕ) → many ≡ length hs → 2 ≤ many
    → names ≡ fresh_row (codes "out_") pl.identifiers 0 many → more_handed s own names c hs ≡ handed pl s own c hs
handed_more pl s own names c hs many e l f =
    ap (λ ns. more_handed s own ns c hs) (f ∙ ap (fresh_row (codes "out_") pl.identifiers 0) e)
    ∙ more_same pl s own (fresh_row (codes "out_") pl.identifiers 0 (length hs)) c hs (fresh_agree pl (length hs))
    ∙ sym (handed_is_more pl s own c hs (omega (arith, e)))

pub ruleset handed_rules = (handed_few, handed_more)

-- ---- one step on

pub next_received : (s : Span) (own row more : Names) (h : Value) (hs : List Value) → more ≡ drop 1 row
    → all_received s own (nth_name row) 0 (h ∷ hs) ≡ received s own (nth_name row) 0 h ∷ all_received s own (nth_name more) 0 hs
next_received s own row more h hs e = ap (λ l. received s own (nth_name row) 0 h ∷ l)
    (sym (received_behind s own 1 row hs) ∙ ap (λ r. all_received s own (nth_name r) 0 hs) (sym e))

pub next_put : (s : Span) (own row more : Names) (h : Value) (hs : List Value) → more ≡ drop 1 row
    → all_put_back s own (nth_name row) 0 (h ∷ hs) ≡ put_back s own (nth_name row) 0 h ++ all_put_back s own (nth_name more) 0 hs
next_put s own row more h hs e = ap (λ l. put_back s own (nth_name row) 0 h ++ l)
    (sym (put_behind s own 1 row hs) ∙ ap (λ r. all_put_back s own (nth_name r) 0 hs) (sym e))

pub no_first : (s : Span) (r : ℕ → List ℕ) (vs : List Variable) → first_as_tail s r (variables_held vs) ≡ plain.absent
no_first s r [] = refl
no_first s r (v ∷ vs) = refl
