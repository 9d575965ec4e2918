-- The names that are bound where the call stands: those of the values that are handed out, and behind them those that are redeclared.
use Rattle.std.proofs.Common.{◌≡◌, ℕ, suc, Bool, true, false, ◌||◌, if◌then◌else◌, List, [], ◌∷◌, ◌++◌, Option, refl, ap, ◌∙◌, append-nil, bytes_eq}
use Rattle.rx_core.specs.declared.types.Span.{Span}
use Rattle.rx_tree.specs.declared.tree.Ident.{Ident}
use Rattle.rx_tree.specs.Plain as plain
use Rattle.rx_tree.specs.Plain.{Expression, Statement, ProgramTree}
use Rattle.rx_hoist_extraction.specs.Names.{Names, is_among, bound, all_bound, bound_by, behind_all}
use Rattle.rx_hoist_extraction.specs.Run.{as_statements}
use Rattle.rx_hoist_extraction.specs.Plan.{Variable, Plan, names_of}
use Rattle.rx_hoist_extraction.specs.Values.{Value, result_of, held_by, next_values}
use Rattle.rx_hoist_extraction.specs.Fresh.{fresh_variable}
use Rattle.rx_hoist_extraction.specs.Made.{binding, as_patterns, assignment, let_value}
use Rattle.rx_hoist_extraction.specs.NewBody.{declared}
use Rattle.rx_hoist_extraction.specs.Call.{is_own, all_received, all_put_back, whole_call, handed}
use Rattle.rx_engine_names.specs.HandsOver.{received_names, handed_names, parts_for}

behind_append : (own : Names) (xs ys : List Statement) → behind_all own (as_statements (xs ++ ys)) ≡ behind_all (behind_all own (as_statements xs)) (as_statements ys)
behind_append own [] ys = refl
behind_append own (x ∷ xs) ys = behind_append (bound_by x ++ own) xs ys

or_turn : (a b c : Bool) → (a || (b || c)) ≡ ((b || a) || c)
or_turn true true c = refl
or_turn true false c = refl
or_turn false true c = refl
or_turn false false c = refl

among_declared : (P : ProgramTree) (s : Span) (x : List ℕ) (own : Names) (vs : List Variable) → is_among x (behind_all own (as_statements (declared P s vs))) ≡ (is_among x (names_of vs) || is_among x own)
among_declared P s x own [] = refl
among_declared P s x own (v ∷ vs) = among_declared P s x (v.name ∷ own) vs ∙ or_turn (is_among x (names_of vs)) (bytes_eq x v.name) (is_among x own)

back_binds_none : (pl : Plan) (s : Span) (own : Names) (i : ℕ) (hs : List Value) (names : Names) → behind_all names (as_statements (all_put_back pl s own i hs)) ≡ names
back_binds_none pl s own i [] names = refl
back_binds_none pl s own i (result_of t ∷ hs) names = back_binds_none pl s own (suc i) hs names
back_binds_none pl s own i (held_by v ∷ hs) names = by (is_own own v) (back_binds_none pl s own (suc i) hs names)
  where
    by : (b : Bool) → behind_all names (as_statements (all_put_back pl s own (suc i) hs)) ≡ names
        → behind_all names (as_statements ((if b then [] else assignment s v.name (plain.var s (fresh_variable pl.identifiers i)) ∷ []) ++ all_put_back pl s own (suc i) hs)) ≡ names
    by true e = e
    by false e = e

received_bound : (pl : Plan) (s : Span) (own : Names) (i : ℕ) (hs : List Value) → all_bound (as_patterns (all_received pl s own i hs)) ≡ received_names pl own i hs
received_bound pl s own i [] = refl
received_bound pl s own i (result_of t ∷ hs) = ap (λ (l : Names). fresh_variable pl.identifiers i ∷ l) (received_bound pl s own (suc i) hs)
received_bound pl s own i (held_by v ∷ hs) = by (is_own own v) (received_bound pl s own (suc i) hs)
  where
    by : (b : Bool) → all_bound (as_patterns (all_received pl s own (suc i) hs)) ≡ received_names pl own (suc i) hs
        → bound (if b then binding s v.name v.mutable else binding s (fresh_variable pl.identifiers i) false) ++ all_bound (as_patterns (all_received pl s own (suc i) hs)) ≡ (if b then v.name else fresh_variable pl.identifiers i) ∷ received_names pl own (suc i) hs
    by true e = ap (λ (l : Names). v.name ∷ l) e
    by false e = ap (λ (l : Names). fresh_variable pl.identifiers i ∷ l) e

handed_bound : (pl : Plan) (s : Span) (own : Names) (c : Expression) (hs : List Value) → behind_all [] (as_statements (handed pl s own c hs).statements) ≡ handed_names pl own hs
handed_bound pl s own c [] = refl
handed_bound pl s own c (result_of t ∷ []) = refl
handed_bound pl s own c (held_by v ∷ []) = by (is_own own v)
  where
    by : (b : Bool) → behind_all [] (as_statements ((if b then let_value s (binding s v.name v.mutable) c else assignment s v.name c) ∷ [])) ≡ (if b then v.name ∷ [] else [])
    by true = refl
    by false = refl
handed_bound pl s own c (h ∷ i ∷ hs) =
    back_binds_none pl s own 0 (h ∷ i ∷ hs) (all_bound (as_patterns (all_received pl s own 0 (h ∷ i ∷ hs))) ++ []) ∙ append-nil (all_bound (as_patterns (all_received pl s own 0 (h ∷ i ∷ hs)))) ∙ received_bound pl s own 0 (h ∷ i ∷ hs)

pub bound_by_call : (P : ProgramTree) (pl : Plan) (s : Span) (own : Names) (labels : List (Option Ident)) (x : List ℕ)
    → is_among x (behind_all [] (as_statements (parts_for P pl s own labels).statements)) ≡ (is_among x (names_of pl.redeclared) || is_among x (handed_names pl own (next_values pl)))
bound_by_call P pl s own labels x =
    let c = whole_call pl s labels in let xs = (handed pl s own c (next_values pl)).statements in
    ap (is_among x) (behind_append [] xs (declared P s pl.redeclared)) ∙ among_declared P s x (behind_all [] (as_statements xs)) pl.redeclared
    ∙ ap (λ (l : Names). is_among x (names_of pl.redeclared) || is_among x l) (handed_bound pl s own c (next_values pl))
