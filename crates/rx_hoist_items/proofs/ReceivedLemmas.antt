-- What is done with the values that a call hands out, where the first is the run's.
use Rattle.std.proofs.Common.{◌≡◌, ℕ, false, List, [], ◌∷◌, ◌++◌, map, drop, Option, Some, sym, ap, ap₂, ◌∙◌}
use Rattle.std.specs.Prelude.{option_map}
use Rattle.std.specs.Borrow.{Bor}
use Rattle.rx_core.specs.declared.types.Span.{Span}
use Rattle.rx_core.specs.declared.types.Ty.{Ty}
use Rattle.rx_tree.specs.declared.tree.Pattern.{Pattern}
use Rattle.rx_tree.specs.PlainOf.{plain-Pattern}
use Rattle.rx_typed.specs.PlainTypes.{plain-Ty}
use Rattle.rx_typed.specs.Types.{Typ}
use Rattle.rx_hoist_plan.specs.PlainPlan.{plain-Variable}
use Rattle.rx_hoist_extraction.specs.Names.{Names}
use Rattle.rx_hoist_extraction.specs.Values.{Value, result_of, result_if_any, variables_held}
use Rattle.rx_hoist_extraction.specs.Made.{binding}
use Rattle.rx_hoist_made.specs.Rows.{nth_name}
use Rattle.rx_hoist_made.specs.PlainHanded.{plain-Handed}
use Rattle.rx_hoist_made.specs.declared.handed.Handed.{Handed}
use Rattle.rx_hoist_items.specs.Calling.{all_received, all_put_back}
use Rattle.rx_hoist_items.proofs.CallLemmas.{received_behind, put_behind}

handed_first : (h : Handed) (t : Bor Ty) → h.result ≡ Some t → plain-Handed h ≡ result_of (plain-Ty t.now) ∷ variables_held (map plain-Variable h.outs.now)
handed_first h t e = ap (λ (r : Option (Bor Ty)). result_if_any (option_map (λ (u : Bor Ty). plain-Ty u.now) r) ++ variables_held (map plain-Variable h.outs.now)) e

first_received : (s : Span) (own names row more : Names) (name : List ℕ) (t : Typ) (hs : List Value) (start patterns : List Pattern) (first : Pattern)
    → row ≡ names → more ≡ drop 1 row → name ≡ nth_name row 0 → plain-Pattern first ≡ binding s name false → start ≡ [] → patterns ≡ start ++ first ∷ []
    → map plain-Pattern patterns ++ all_received s own (nth_name more) 0 hs ≡ all_received s own (nth_name names) 0 (result_of t ∷ hs)
first_received s own names row more name t hs start patterns first e m n p k l =
    let rest = all_received s own (nth_name more) 0 hs in
    ap (λ (ps : List Pattern). map plain-Pattern ps ++ rest) (l ∙ ap (λ (ps : List Pattern). ps ++ first ∷ []) k)
    ∙ ap₂ (λ q qs. q ∷ qs) (p ∙ ap (λ x. binding s x false) (n ∙ ap (λ r. nth_name r 0) e))
    (ap (λ r. all_received s own (nth_name r) 0 hs) (m ∙ ap (drop 1) e) ∙ received_behind s own 1 names hs)

pub handed_received : (s : Span) (own names row more : Names) (name : List ℕ) (h : Handed) (t : Bor Ty) (start patterns : List Pattern) (first : Pattern)
    → h.result ≡ Some t → row ≡ names → more ≡ drop 1 row → name ≡ nth_name row 0 → plain-Pattern first ≡ binding s name false → start ≡ [] → patterns ≡ start ++ first ∷ []
    → map plain-Pattern patterns ++ all_received s own (nth_name more) 0 (variables_held (map plain-Variable h.outs.now)) ≡ all_received s own (nth_name names) 0 (plain-Handed h)
handed_received s own names row more name h t start patterns first d e m n p k l =
    first_received s own names row more name (plain-Ty t.now) (variables_held (map plain-Variable h.outs.now)) start patterns first e m n p k l
    ∙ sym (ap (all_received s own (nth_name names) 0) (handed_first h t d))

pub handed_put : (s : Span) (own names row more : Names) (h : Handed) (t : Bor Ty) → h.result ≡ Some t → row ≡ names → more ≡ drop 1 row
    → all_put_back s own (nth_name more) 0 (variables_held (map plain-Variable h.outs.now)) ≡ all_put_back s own (nth_name names) 0 (plain-Handed h)
handed_put s own names row more h t d e m =
    let hs = variables_held (map plain-Variable h.outs.now) in
    ap (λ r. all_put_back s own (nth_name r) 0 hs) (m ∙ ap (drop 1) e) ∙ put_behind s own 1 names hs
    ∙ sym (ap (all_put_back s own (nth_name names) 0) (handed_first h t d))
