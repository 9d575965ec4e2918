-- Signatures by the names of a row are those of the fresh lifetimes, where the row has a name for each position.
use Rattle.std.proofs.Common.{◌≡◌, ℕ, zero, suc, ◌+◌, ◌<◌, ◌≤◌, Bool, true, false, List, [], ◌∷◌, ◌++◌, length, map, drop, Option, Some, refl, sym, ap, ap₂, ◌∙◌, arith, codes, Bor}
use Rattle.std.specs.Prelude.{◌&&◌, option_map}
use Rattle.std.proofs.lemmas.List.{length-drop}
use Rattle.rx_core.specs.declared.types.Span.{Span}
use Rattle.rx_core.specs.declared.types.Kind.{Kind}
use Rattle.rx_tree.specs.declared.tree.Ident.{Ident}
use Rattle.rx_tree.specs.declared.tree.BoundLifetime.{BoundLifetime}
use Rattle.rx_tree.specs.Plain as plain
use Rattle.rx_tree.specs.Plain.{TypeTree, Parameter, ProgramTree}
use Rattle.rx_core.specs.declared.types.Ty.{Ty}
use Rattle.rx_tree.specs.declared.tree.Block.{Block}
use Rattle.rx_tree.specs.declared.tree.Func.{Func}
use Rattle.rx_tree.specs.declared.tree.TypeText.{TypeText}
use Rattle.rx_tree.specs.PlainOf.{plain-Block, plain-Func, plain-Param, plain-TypeText, types_of as trees_of}
use Rattle.rx_typed.specs.PlainTypes.{plain-Ty}
use Rattle.rx_hoist_plan.specs.PlainPlan.{plain-Variable}
use Rattle.rx_hoist_made.specs.declared.handed.Handed.{Handed}
use Rattle.rx_hoist_made.specs.PlainHanded.{plain-Handed}
use Rattle.rx_hoist_made.specs.Lasts.{last_one}
use Rattle.rx_typed.specs.Types.{Typ, Shape, Shapes, integer, boolean, tuple_of, reference, named, no_shape, shape_and, shapes_of}
use Rattle.rx_hoist_extraction.specs.Names.{Names}
use Rattle.rx_hoist_extraction.specs.Plan.{Leaving, Param, Plan, enum_name, exit_name, has_enum}
use Rattle.rx_hoist_extraction.specs.Values.{variables_held, next_values, result_if_any, types_of}
use Rattle.rx_hoist_extraction.specs.Fresh.{fresh, fresh_lifetime}
use Rattle.rx_hoist_extraction.specs.Made.{ident}
use Rattle.rx_hoist_extraction.specs.WrittenTypes.{name_of, lifetimes_of, positions, all_positions, positions_of, lifetimes_from, list_if_any, full, all_full, each_full}
use Rattle.rx_hoist_extraction.specs.NewEnum as enums
use Rattle.rx_hoist_extraction.specs.NewEnum.{fields_at, all_fields, enum_positions, new_enum}
use Rattle.rx_hoist_extraction.specs.NewFunction.{passed, passed_types, is_by_value, new_parameters, new_result, joined_type, full_if_any, parameter_positions, result_positions, signature_positions, with_bounds, shorts_of}
use Rattle.rx_hoist_extraction.proofs.Signatures.{positions_both}
use Rattle.rx_hoist_made.specs.Rows.{fresh_row, nth_name, fulls}
use Rattle.rx_hoist_items.specs.Signatures.{variant, variants, enum_of, parameter, parameters, joined_trees, enum_type, result, signature, function_of, unbound}
use Rattle.rx_hoist_made.proofs.RowLemmas.{all_full_is, all_positions_is, lifetimes_behind, full_behind, full_moved, next_typ, nth_behind}

-- ---- the names of a row of fresh names

pub nth_fresh : (word : List ℕ) (taken : Names) (i many k : ℕ) → k < many → nth_name (fresh_row word taken i many) k ≡ fresh word taken (i + k)
nth_fresh word taken i zero k l = absurd (omega arith)
nth_fresh word taken i (suc many) zero l = let e : i ≡ i + 0 = omega arith in ap (fresh word taken) e
nth_fresh word taken i (suc many) (suc k) l = let e : suc i + k ≡ i + suc k = omega arith in
    nth_fresh word taken (suc i) many k (omega arith) ∙ ap (fresh word taken) e

pub fresh_row_length : (word : List ℕ) (taken : Names) (i many : ℕ) → length (fresh_row word taken i many) ≡ many
fresh_row_length word taken i zero = refl
fresh_row_length word taken i (suc many) = ap suc (fresh_row_length word taken (suc i) many)

pub lifetimes_are : (s : Span) (taken : Names) (i many : ℕ) → map (ident s) (fresh_row (codes "'r") taken i many) ≡ lifetimes_from s (fresh_lifetime taken) i many
lifetimes_are s taken i zero = refl
lifetimes_are s taken i (suc many) = ap (λ l. ident s (fresh_lifetime taken i) ∷ l) (lifetimes_are s taken (suc i) many)

-- ---- two rows with the same names from n on

abbrev Agree : (ℕ → List ℕ) → (ℕ → List ℕ) → ℕ → ℕ → Type 0
Agree r q n many = (k : ℕ) → n ≤ k → k < n + many → r k ≡ q k

lifetimes_same : (s : Span) (r q : ℕ → List ℕ) (n many : ℕ) → Agree r q n many → lifetimes_from s r n many ≡ lifetimes_from s q n many
lifetimes_same s r q n zero h = refl
lifetimes_same s r q n (suc many) h = ap₂ (λ x l. ident s x ∷ l) (h n (omega arith) (omega arith))
    (lifetimes_same s r q (suc n) many (λ k a b. h k (omega arith) (omega arith)))

mutual
  full_same : (P : ProgramTree) (s : Span) (r q : ℕ → List ℕ) (n : ℕ) (t : Shape Kind) → Agree r q n (positions P t) → full P s r n t ≡ full P s q n t
  full_same P s r q n (integer k) h = refl
  full_same P s r q n boolean h = refl
  full_same P s r q n (tuple_of ts) h = ap (plain.tuple_type s) (all_full_same P s r q n ts h)
  full_same P s r q n (reference m t) h = ap₂ (λ x u. plain.ref_type s (Some (ident s x)) m u) (h n (omega arith) (omega arith))
      (full_same P s r q (suc n) t (λ k a b. h k (omega arith) (omega arith)))
  full_same P s r q n (named i) h = ap (λ ls. plain.named_type s (ident s (name_of P i)) (list_if_any ls)) (lifetimes_same s r q n (lifetimes_of P i) h)

  all_full_same : (P : ProgramTree) (s : Span) (r q : ℕ → List ℕ) (n : ℕ) (ts : Shapes Kind) → Agree r q n (all_positions P ts) → all_full P s r n ts ≡ all_full P s q n ts
  all_full_same P s r q n no_shape h = refl
  all_full_same P s r q n (shape_and t ts) h = ap₂ plain.type_and (full_same P s r q n t (λ k a b. h k a (omega arith)))
      (all_full_same P s r q (n + positions P t) ts (λ k a b. h k (omega arith) (omega arith)))

each_full_same : (P : ProgramTree) (s : Span) (r q : ℕ → List ℕ) (n : ℕ) (ts : List Typ) → Agree r q n (positions_of P ts) → each_full P s r n ts ≡ each_full P s q n ts
each_full_same P s r q n [] h = refl
each_full_same P s r q n (t ∷ ts) h = ap₂ plain.type_and (full_same P s r q n t (λ k a b. h k a (omega arith)))
    (each_full_same P s r q (n + positions P t) ts (λ k a b. h k (omega arith) (omega arith)))

-- ---- the enum

variants_same : (P : ProgramTree) (pl : Plan) (s : Span) (r : ℕ → List ℕ) (n : ℕ) (xs : List Leaving)
    → Agree r (fresh_lifetime pl.lifetimes) n (positions_of P (all_fields pl xs)) → variants P pl s r n xs ≡ enums.variants P pl s n xs
variants_same P pl s r n [] h = refl
variants_same P pl s r n (x ∷ xs) h = let both = positions_both P (fields_at pl x) (all_fields pl xs) in
    ap₂ (λ ts vs. record { name = ident s (exit_name x.exit); types = ts } ∷ vs)
    (each_full_same P s r (fresh_lifetime pl.lifetimes) n (fields_at pl x) (λ k a b. h k a (omega (arith, both))))
    (variants_same P pl s r (n + positions_of P (fields_at pl x)) xs (λ k a b. h k (omega arith) (omega (arith, both))))

fresh_agree : (taken : Names) (many : ℕ) → Agree (nth_name (fresh_row (codes "'r") taken 0 many)) (fresh_lifetime taken) 0 many
fresh_agree taken many k a b = let e : 0 + k ≡ k = omega arith in nth_fresh (codes "'r") taken 0 many k (omega arith) ∙ ap (fresh_lifetime taken) e

enum_of_fresh : (P : ProgramTree) (pl : Plan) (s : Span) → enum_of P pl s (fresh_row (codes "'r") pl.lifetimes 0 (enum_positions P pl)) ≡ new_enum P pl s
enum_of_fresh P pl s = let many = enum_positions P pl in
    ap₂ (λ ls vs. record { name = ident s (enum_name pl); derives = []; lifetimes = ls; variants = vs })
    (lifetimes_are s pl.lifetimes 0 many)
    (variants_same P pl s (nth_name (fresh_row (codes "'r") pl.lifetimes 0 many)) 0 pl.exits (fresh_agree pl.lifetimes many))

pub enum_is : (P : ProgramTree) (pl : Plan) (s : Span) (many : ℕ) (names : Names) → many ≡ enum_positions P pl → names ≡ fresh_row (codes "'r") pl.lifetimes 0 many
    → enum_of P pl s names ≡ new_enum P pl s
enum_is P pl s many names e f = ap (enum_of P pl s) (f ∙ ap (fresh_row (codes "'r") pl.lifetimes 0) e) ∙ enum_of_fresh P pl s

-- ---- the signature of the function

pub joined_is : (P : ProgramTree) (s : Span) (r : ℕ → List ℕ) (n : ℕ) (ts : List Typ) → joined_trees s (fulls P s r n ts) ≡ option_map (full P s r n) (joined_type ts)
joined_is P s r n [] = refl
joined_is P s r n (t ∷ []) = refl
joined_is P s r n (t ∷ u ∷ ts) = ap (λ us. Some (plain.tuple_type s us)) (sym (all_full_is P s r n (t ∷ u ∷ ts)))

parameters_same : (P : ProgramTree) (pl : Plan) (s : Span) (r : ℕ → List ℕ) (n : ℕ) (xs : List Param)
    → Agree r (fresh_lifetime pl.lifetimes) n (positions_of P (passed_types xs)) → parameters P s r n xs ≡ new_parameters P pl s n xs
parameters_same P pl s r n [] h = refl
parameters_same P pl s r n (x ∷ xs) h = let t = passed x.mode x.variable.typ in
    ap₂ (λ u ps. record { name = ident s x.variable.name; mutable = is_by_value x.mode && (x.moved && x.variable.mutable); typ = u } ∷ ps)
    (full_same P s r (fresh_lifetime pl.lifetimes) n t (λ k a b. h k a (omega arith)))
    (parameters_same P pl s r (n + positions P t) xs (λ k a b. h k (omega arith) (omega arith)))

shifted : (P : ProgramTree) (s : Span) (m : ℕ) (names : Names) (r : ℕ → List ℕ) (t : Typ) → Agree (nth_name names) r m (positions P t)
    → full P s (nth_name (drop m names)) 0 t ≡ full P s r m t
shifted P s m names r t h = full_behind P s m names t ∙ full_same P s (nth_name names) r m t h

joined_same : (P : ProgramTree) (pl : Plan) (s : Span) (m : ℕ) (names : Names) (ts : List Typ) → Agree (nth_name names) (fresh_lifetime pl.lifetimes) m (positions_of P ts)
    → option_map (full P s (nth_name (drop m names)) 0) (joined_type ts) ≡ full_if_any P pl s m (joined_type ts)
joined_same P pl s m names [] h = refl
joined_same P pl s m names (t ∷ []) h = ap (λ x. Some x) (shifted P s m names (fresh_lifetime pl.lifetimes) t (λ k a b. h k a (omega arith)))
joined_same P pl s m names (t ∷ u ∷ ts) h = let e : positions P (tuple_of (shapes_of (t ∷ u ∷ ts))) ≡ positions_of P (t ∷ u ∷ ts) = all_positions_is P (t ∷ u ∷ ts) in
    ap (λ x. Some x) (shifted P s m names (fresh_lifetime pl.lifetimes) (tuple_of (shapes_of (t ∷ u ∷ ts))) (λ k a b. h k a (omega (arith, e))))

enum_type_same : (P : ProgramTree) (pl : Plan) (s : Span) (m many : ℕ) (names : Names) → length names ≡ m + many → Agree (nth_name names) (fresh_lifetime pl.lifetimes) m many
    → enum_type pl s (drop m names) ≡ plain.named_type s (ident s (enum_name pl)) (list_if_any (lifetimes_from s (fresh_lifetime pl.lifetimes) m many))
enum_type_same P pl s m many names e h = let left : length (drop m names) ≡ many = omega (arith, length-drop m names, e) in
    ap (λ ls. plain.named_type s (ident s (enum_name pl)) (list_if_any ls))
    (ap (lifetimes_from s (nth_name (drop m names)) 0) left ∙ lifetimes_behind s m many names ∙ lifetimes_same s (nth_name names) (fresh_lifetime pl.lifetimes) m many h)

result_at : (P : ProgramTree) (pl : Plan) (s : Span) (m : ℕ) (names : Names) (b : Bool) → has_enum pl.exits ≡ b → length names ≡ m + result_positions P pl
    → Agree (nth_name names) (fresh_lifetime pl.lifetimes) m (result_positions P pl) → result P pl s (drop m names) ≡ new_result P pl s m
result_at P pl s m names true f e h = let many : result_positions P pl ≡ enum_positions P pl = rw f refl in
    rw f (ap (λ x. Some x) (enum_type_same P pl s m (enum_positions P pl) names (e ∙ ap (λ n. m + n) many) (λ k a b. h k a (omega (arith, many)))))
result_at P pl s m names false f e h = let many : result_positions P pl ≡ positions_of P (types_of (next_values pl)) = rw f refl in
    rw f (joined_same P pl s m names (types_of (next_values pl)) (λ k a b. h k a (omega (arith, many))))

signature_of_fresh : (P : ProgramTree) (pl : Plan) (s : Span) (names : Names) → length names ≡ signature_positions P pl
    → Agree (nth_name names) (fresh_lifetime pl.lifetimes) 0 (signature_positions P pl)
    → signature P pl s names ≡ (new_parameters P pl s 0 pl.params, new_result P pl s (parameter_positions P pl))
signature_of_fresh P pl s names e h = ap₂ (λ a b. (a, b))
    (parameters_same P pl s (nth_name names) 0 pl.params (λ k a b. h k a (omega arith)))
    (result_at P pl s (parameter_positions P pl) names (has_enum pl.exits) refl e (λ k a b. h k (omega arith) (omega arith)))

pub signature_is : (P : ProgramTree) (pl : Plan) (s : Span) (many : ℕ) (names : Names) → many ≡ signature_positions P pl → names ≡ fresh_row (codes "'r") pl.lifetimes 0 many
    → signature P pl s names ≡ (new_parameters P pl s 0 pl.params, new_result P pl s (parameter_positions P pl))
signature_is P pl s many names e f = let n = signature_positions P pl in
    ap (signature P pl s) (f ∙ ap (fresh_row (codes "'r") pl.lifetimes 0) e)
    ∙ signature_of_fresh P pl s (fresh_row (codes "'r") pl.lifetimes 0 n) (fresh_row_length (codes "'r") pl.lifetimes 0 n) (fresh_agree pl.lifetimes n)

-- ---- lifetimes without bounds

none_bound : (s : Span) (ls : List Ident) (long : List ℕ) → shorts_of s [] ls long ≡ []
none_bound s [] long = refl
none_bound s (l ∷ ls) long = none_bound s ls long

pub unbound_are : (s : Span) (ls : List Ident) → with_bounds s [] ls ≡ map unbound ls
unbound_are s ls = each ls
  where
    each : (ms : List Ident) → map (λ (l : Ident). record { name = l; bounds = shorts_of s [] ls l.name }) ms ≡ map unbound ms
    each [] = refl
    each (m ∷ ms) = ap₂ (λ b rest. record { name = m; bounds = b } ∷ rest) (none_bound s ls m.name) (each ms)

-- ---- a row that begins further on

each_full_moved : (P : ProgramTree) (s : Span) (r q : ℕ → List ℕ) (m n : ℕ) → ((k : ℕ) → q k ≡ r (m + k)) → (ts : List Typ) → each_full P s q n ts ≡ each_full P s r (m + n) ts
each_full_moved P s r q m n h [] = refl
each_full_moved P s r q m n h (t ∷ ts) = let e : m + (n + positions P t) ≡ m + n + positions P t = omega arith in
    ap₂ plain.type_and (full_moved P s r q m n h t) (each_full_moved P s r q m (n + positions P t) h ts ∙ ap (λ k. each_full P s r k ts) e)

variants_moved : (P : ProgramTree) (pl : Plan) (s : Span) (r q : ℕ → List ℕ) (m n : ℕ) → ((k : ℕ) → q k ≡ r (m + k)) → (xs : List Leaving)
    → variants P pl s q n xs ≡ variants P pl s r (m + n) xs
variants_moved P pl s r q m n h [] = refl
variants_moved P pl s r q m n h (x ∷ xs) = let w = positions_of P (fields_at pl x) in
    let e : m + (n + w) ≡ m + n + w = omega arith in
    ap₂ (λ ts vs. record { name = ident s (exit_name x.exit); types = ts } ∷ vs) (each_full_moved P s r q m n h (fields_at pl x))
    (variants_moved P pl s r q m (n + w) h xs ∙ ap (λ k. variants P pl s r k xs) e)

parameters_moved : (P : ProgramTree) (s : Span) (r q : ℕ → List ℕ) (m n : ℕ) → ((k : ℕ) → q k ≡ r (m + k)) → (xs : List Param)
    → parameters P s q n xs ≡ parameters P s r (m + n) xs
parameters_moved P s r q m n h [] = refl
parameters_moved P s r q m n h (x ∷ xs) = let t = passed x.mode x.variable.typ in
    let e : m + (n + positions P t) ≡ m + n + positions P t = omega arith in
    ap₂ (λ u ps. record { name = ident s x.variable.name; mutable = is_by_value x.mode && (x.moved && x.variable.mutable); typ = u } ∷ ps)
    (full_moved P s r q m n h t) (parameters_moved P s r q m (n + positions P t) h xs ∙ ap (λ k. parameters P s r k xs) e)

-- ---- one step on

pub next_variant : (P : ProgramTree) (pl : Plan) (s : Span) (row more : Names) (x : Leaving) (xs : List Leaving) → more ≡ drop (positions_of P (fields_at pl x)) row
    → variants P pl s (nth_name row) 0 (x ∷ xs) ≡ variant P pl s (nth_name row) 0 x ∷ variants P pl s (nth_name more) 0 xs
next_variant P pl s row more x xs e = let w = positions_of P (fields_at pl x) in
    let none : 0 + w ≡ w + 0 = omega arith in
    ap (λ l. variant P pl s (nth_name row) 0 x ∷ l)
    (ap (λ n. variants P pl s (nth_name row) n xs) none ∙ sym (variants_moved P pl s (nth_name row) (nth_name (drop w row)) w 0 (λ k. nth_behind w k row) xs)
    ∙ ap (λ r. variants P pl s (nth_name r) 0 xs) (sym e))

pub next_parameter : (P : ProgramTree) (s : Span) (row more : Names) (x : Param) (xs : List Param) → more ≡ drop (positions P (passed x.mode x.variable.typ)) row
    → parameters P s (nth_name row) 0 (x ∷ xs) ≡ parameter P s (nth_name row) 0 x ∷ parameters P s (nth_name more) 0 xs
next_parameter P s row more x xs e = let w = positions P (passed x.mode x.variable.typ) in
    let none : 0 + w ≡ w + 0 = omega arith in
    ap (λ l. parameter P s (nth_name row) 0 x ∷ l)
    (ap (λ n. parameters P s (nth_name row) n xs) none ∙ sym (parameters_moved P s (nth_name row) (nth_name (drop w row)) w 0 (λ k. nth_behind w k row) xs)
    ∙ ap (λ r. parameters P s (nth_name r) 0 xs) (sym e))

-- ---- nothing or the one, where there are no more

pub trees_few : (s : Span) (ts : List TypeText) → length ts ≤ 1 → option_map plain-TypeText (last_one ts) ≡ joined_trees s (map plain-TypeText ts)
trees_few s [] l = refl
trees_few s (t ∷ []) l = refl
trees_few s (t ∷ u ∷ ts) l = absurd (omega arith)

pub trees_many : (s : Span) (ts : List TypeText) → 1 < length ts → joined_trees s (map plain-TypeText ts) ≡ Some (plain.tuple_type s (trees_of (map plain-TypeText ts)))
trees_many s [] l = absurd (omega arith)
trees_many s (t ∷ []) l = absurd (omega arith)
trees_many s (t ∷ u ∷ ts) l = refl

pub ruleset trees_rules = (trees_few, trees_many)

-- ---- what is handed out, where a result comes first

pub result_first : (P : ProgramTree) (s : Span) (row more : Names) (h : Handed) (t : Bor Ty) (u : TypeTree) → h.result ≡ Some t
    → u ≡ full P s (nth_name row) 0 (plain-Ty t.now) → more ≡ drop (positions P (plain-Ty t.now)) row
    → u ∷ fulls P s (nth_name more) 0 (types_of (variables_held (map plain-Variable h.outs.now))) ≡ fulls P s (nth_name row) 0 (types_of (plain-Handed h))
result_first P s row more h t u e f g = let outs = variables_held (map plain-Variable h.outs.now) in
    ap (λ (v : TypeTree). v ∷ fulls P s (nth_name more) 0 (types_of outs)) f ∙ sym (next_typ P s row more (plain-Ty t.now) (types_of outs) g)
    ∙ sym (ap (λ (o : Option (Bor Ty)). fulls P s (nth_name row) 0 (types_of (result_if_any (option_map (λ t. plain-Ty t.now) o) ++ outs))) e)

-- ---- the whole function

lifetimes_all : (P : ProgramTree) (pl : Plan) (s : Span) (many : ℕ) (names : Names) (copied : List Ident)
    → many ≡ signature_positions P pl → names ≡ fresh_row (codes "'r") pl.lifetimes 0 many
    → map unbound (copied ++ map (ident s) names) ≡ with_bounds s [] (copied ++ lifetimes_from s (fresh_lifetime pl.lifetimes) 0 (signature_positions P pl))
lifetimes_all P pl s many names copied e f =
    ap (λ (l : List Ident). map unbound (copied ++ l)) (ap (map (ident s)) f ∙ lifetimes_are s pl.lifetimes 0 many
    ∙ ap (lifetimes_from s (fresh_lifetime pl.lifetimes) 0) e)
    ∙ sym (unbound_are s (copied ++ lifetimes_from s (fresh_lifetime pl.lifetimes) 0 (signature_positions P pl)))

pub function_is : (P : ProgramTree) (pl : Plan) (s : Span) (many : ℕ) (names : Names) (copied : List Ident) (b : Block) (f : Func)
    → many ≡ signature_positions P pl → names ≡ fresh_row (codes "'r") pl.lifetimes 0 many
    → f.name ≡ ident s pl.name → f.lifetimes ≡ map unbound (copied ++ map (ident s) names)
    → (map plain-Param f.params, option_map plain-TypeText f.result) ≡ signature P pl s names → f.body ≡ b
    → plain-Func f ≡ function_of P pl s copied (plain-Block b)
function_is P pl s many names copied b f e g name lifetimes signed body =
    let made : (map plain-Param f.params, option_map plain-TypeText f.result) ≡ (new_parameters P pl s 0 pl.params, new_result P pl s (parameter_positions P pl)) =
    signed ∙ signature_is P pl s many names e g in
    ap (λ (x : Ident). record { name = x; lifetimes = f.lifetimes; params = map plain-Param f.params; result = option_map plain-TypeText f.result; body = plain-Block f.body }) name
    ∙ ap (λ (x : List BoundLifetime). record { name = ident s pl.name; lifetimes = x; params = map plain-Param f.params; result = option_map plain-TypeText f.result; body = plain-Block f.body })
    (lifetimes ∙ lifetimes_all P pl s many names copied e g)
    ∙ ap (λ (x : List Parameter × Option TypeTree). record {
      name = ident s pl.name;
      lifetimes = with_bounds s [] (copied ++ lifetimes_from s (fresh_lifetime pl.lifetimes) 0 (signature_positions P pl));
      params = x.0;
      result = x.1;
      body = plain-Block f.body;
    }) made
    ∙ ap (λ (x : Block). function_of P pl s copied (plain-Block x)) body

pub first_is : {A B : Type 0} (p : A × B) (a : A) (b : B) → p ≡ (a, b) → p.0 ≡ a
first_is p a b e = rw e refl

pub second_is : {A B : Type 0} (p : A × B) (a : A) (b : B) → p ≡ (a, b) → p.1 ≡ b
second_is p a b e = rw e refl
