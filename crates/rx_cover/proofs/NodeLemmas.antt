-- A value is read back from its nodes.
use Rattle.std.proofs.Common.{◌≡◌, ℕ, zero, suc, ◌+◌, ◌<◌, ◌&&◌, pos, negsuc, Bool, true, false, List, [], ◌∷◌, ◌++◌, length, drop, get_or, refl, sym, ap, ◌∙◌, arith, lt-ltb}
use Rattle.std.proofs.lemmas.List.{append_assoc, append-nil}
use Rattle.std.specs.Prelude.{nat_lt}
use Rattle.rx_typed.specs.Elaborated.{with_sign}
use Rattle.rx_cover.specs.declared.node.Node.{Node}
use Rattle.rx_cover.specs.Values as plain
use Rattle.rx_cover.specs.Values.{Values, no_value, value_and}
use Rattle.rx_cover.specs.PlainValue.{count, nodes, nodes_of, first, behind, in_front, read, first_value, plain-Value, IsWhole, plain_values}
use Rattle.rx_cover.proofs.CellLemmas.{at_next}

-- values behind others
abbrev pub joined : Values → Values → Values
joined no_value ws = ws
joined (value_and v vs) ws = value_and v (joined vs ws)

pub first_joined : (vs ws : Values) → first (count vs) (joined vs ws) ≡ vs
first_joined no_value ws = refl
first_joined (value_and v vs) ws = ap (λ x. value_and v x) (first_joined vs ws)

pub behind_joined : (vs ws : Values) → behind (count vs) (joined vs ws) ≡ ws
behind_joined no_value ws = refl
behind_joined (value_and v vs) ws = behind_joined vs ws

taken_by : (f : Values → plain.Value) (vs ws : Values) → value_and (f (first (count vs) (joined vs ws))) (behind (count vs) (joined vs ws)) ≡ value_and (f vs) ws
taken_by f vs ws = ap (λ x. value_and (f x) (behind (count vs) (joined vs ws))) (first_joined vs ws) ∙ ap (λ x. value_and (f vs) x) (behind_joined vs ws)

mutual
  read_nodes : (v : plain.Value) (ms : List Node) → read (nodes v ++ ms) ≡ value_and v (read ms)
  read_nodes (plain.number (pos n)) ms = refl
  read_nodes (plain.number (negsuc n)) ms = refl
  read_nodes (plain.truth b) ms = refl
  read_nodes (plain.tuple vs) ms = ap (λ l. in_front (Node.Tuple (count vs)) l) (read_all vs ms) ∙ taken_by plain.tuple vs (read ms)
  read_nodes (plain.made i vs) ms = ap (λ l. in_front (Node.Made i (count vs)) l) (read_all vs ms) ∙ taken_by (plain.made i) vs (read ms)
  read_nodes (plain.variant i k vs) ms = ap (λ l. in_front (Node.Variant i k (count vs)) l) (read_all vs ms) ∙ taken_by (plain.variant i k) vs (read ms)
  read_nodes (plain.pointing v) ms = ap (λ l. in_front Node.Reference l) (read_nodes v ms)

  read_all : (vs : Values) (ms : List Node) → read (nodes_of vs ++ ms) ≡ joined vs (read ms)
  read_all no_value ms = refl
  read_all (value_and v vs) ms = ap read (append_assoc (nodes v) (nodes_of vs) ms) ∙ read_nodes v (nodes_of vs ++ ms) ∙ ap (λ x. value_and v x) (read_all vs ms)

plain_nodes : (v : plain.Value) → plain-Value (nodes v) ≡ v
unfolding plain-Value
plain_nodes v = ap (λ l. first_value (read l)) (sym (append-nil (nodes v))) ∙ ap first_value (read_nodes v [])

pub plain_is : (ns : List Node) (v : plain.Value) → ns ≡ nodes v → plain-Value ns ≡ v
plain_is ns v e = ap plain-Value e ∙ plain_nodes v

pub whole_is : (ns : List Node) (v : plain.Value) → ns ≡ nodes v → IsWhole ns
whole_is ns v e = record { is = e ∙ ap nodes (sym (plain_is ns v e)) }

-- ---- parts

pub count_parts : (vs : List (List Node)) → count (plain_values vs) ≡ length vs
count_parts [] = refl
count_parts (v ∷ vs) = ap suc (count_parts vs)

pub part_written : (row mid : List Node) (xs : List (List Node)) (i : ℕ) (x all : List Node) → i < length xs → x ≡ get_or xs i x → IsWhole x → mid ≡ row ++ x
    → row ++ nodes_of (plain_values (drop i xs)) ≡ all → mid ++ nodes_of (plain_values (drop (i + 1) xs)) ≡ all
part_written row mid xs i x all less is w e h =
    let rest = nodes_of (plain_values (drop (i + 1) xs)) in
    ap (λ l. l ++ rest) e ∙ append_assoc row x rest
    ∙ ap (λ l. row ++ l) (ap (λ l. l ++ rest) w.is ∙ sym (at_next (λ ys. nodes_of (plain_values ys)) xs i x less is)) ∙ h

-- ---- nodes of the code

sign : (g : Bool) (m : ℕ) → Node.Int (g && nat_lt 0 m) m ∷ [] ≡ nodes (plain.number (with_sign g m))
sign true zero = refl
sign true (suc m) = ap (λ b. Node.Int (true && b) (suc m) ∷ []) (lt-ltb 0 (suc m) (omega arith))
sign false zero = refl
sign false (suc m) = refl

pub integer_nodes : (row : List Node) (b g : Bool) (m : ℕ) → b ≡ (g && nat_lt 0 m) → row ≡ Node.Int b m ∷ [] → row ≡ nodes (plain.number (with_sign g m))
integer_nodes row b g m e f = f ∙ ap (λ c. Node.Int c m ∷ []) e ∙ sign g m

pub tuple_nodes : (row : List Node) (n : ℕ) (vs : List (List Node)) → n ≡ length vs → row ≡ Node.Tuple n ∷ nodes_of (plain_values vs) → row ≡ nodes (plain.tuple (plain_values vs))
tuple_nodes row n vs e f = f ∙ ap (λ k. Node.Tuple k ∷ nodes_of (plain_values vs)) (e ∙ sym (count_parts vs))

pub made_nodes : (row : List Node) (i n : ℕ) (vs : List (List Node)) → n ≡ length vs → row ≡ Node.Made i n ∷ nodes_of (plain_values vs) → row ≡ nodes (plain.made i (plain_values vs))
made_nodes row i n vs e f = f ∙ ap (λ k. Node.Made i k ∷ nodes_of (plain_values vs)) (e ∙ sym (count_parts vs))

pub variant_nodes : (row : List Node) (i j n : ℕ) (vs : List (List Node)) → n ≡ length vs → row ≡ Node.Variant i j n ∷ nodes_of (plain_values vs) → row ≡ nodes (plain.variant i j (plain_values vs))
variant_nodes row i j n vs e f = f ∙ ap (λ k. Node.Variant i j k ∷ nodes_of (plain_values vs)) (e ∙ sym (count_parts vs))

pub reference_nodes : (row v w : List Node) → IsWhole v → w ≡ v → row ≡ Node.Reference ∷ w → row ≡ nodes (plain.pointing (plain-Value v))
reference_nodes row v w whole e f = f ∙ ap (λ l. Node.Reference ∷ l) (e ∙ whole.is)
