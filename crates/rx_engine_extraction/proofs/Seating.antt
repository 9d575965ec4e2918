-- The function of a run, and its block there, by the laws of runs in typed trees.
use Rattle.std.proofs.Common.{◌≡◌, ℕ, Bool, true, false, ◌==◌, List, [], ◌∷◌, Option, Some, None, refl, sym, subst, ◌∙◌, true≢false}
use Rattle.std.specs.Prelude.{if◌then◌else◌}
use Rattle.std.specs.Option.{IsSome}
use Rattle.std.proofs.lemmas.Bool.Decides.{Decides-eqb}
use Rattle.rx_lex.specs.Tok.{Tok}
use Rattle.rx_tree.specs.Plain.{ProgramTree}
use Rattle.rx_resolve_names.specs.declared.resolved.ItemNames.{ItemNames}
use Rattle.rx_typed_runs.specs.declared.runs.RunPos.{RunPos}
use Rattle.rx_typed.specs.PlainTree.{plain-TypedTree}
use Rattle.rx_typeck_typed.specs.declared.typed.Typed.{Typed}
use Rattle.rx_typeck_typed.specs.declared.typed.TypedFn.{TypedFn}
use Rattle.rx_typeck_typed.specs.Typing.{IsTyped}
use Rattle.rx_lower.specs.Functions.{function_at}
use Rattle.rx_facts.specs.Functions.{body}
use Rattle.rx_lower_walks.specs.Walks.{Among}
use Rattle.rx_lower_walks.specs.Walks as walks
use Rattle.rx_select.specs.RunOf.{RunOf}
use Rattle.rx_typed.specs.Tree.{Function}
use Rattle.rx_exits_plan.specs.Runs.{Run, Home, Sits}
use Rattle.rx_exits_jumps.specs.Seen.{first_home}
use Rattle.rx_exits_jumps.proofs.HomeLemmas.{sits_first, sits_nowhere}
use Rattle.rx_hoist_nodes.specs.TypedRun.{typed_run}
use Rattle.rx_engine_extraction.specs.Source.{Text}
use Rattle.rx_engine_extraction.specs.Deciding.{HasSeat}

no_function : (f : TypedFn) → Among f [] → ⊥
no_function f w = elim w [ ]

-- one of an item is behind one that is not
behind : (f t : TypedFn) (fs : List TypedFn) (n : ℕ) → f.item ≡ n → Among f (t ∷ fs) → (t.item == n) ≡ false → Among f fs
behind f _ fs n e walks.here h = absurd (true≢false (sym ((Decides-eqb f.item n).1 e) ∙ h))
behind f t fs n e (walks.there v) h = v

-- the first of an item, where there is one
found : (fs : List TypedFn) (n : ℕ) (f : TypedFn) → Among f fs → f.item ≡ n → (g : TypedFn) × (function_at fs n ≡ Some g) × Among g fs × (g.item ≡ n)
found [] n f w e = absurd (no_function f w)
found (t ∷ fs) n f w e = by (t.item == n) refl (λ v. found fs n f v e)
  where
    by : (b : Bool) → (t.item == n) ≡ b → (Among f fs → (g : TypedFn) × (function_at fs n ≡ Some g) × Among g fs × (g.item ≡ n))
        → (g : TypedFn) × ((if b then Some t else function_at fs n) ≡ Some g) × Among g (t ∷ fs) × (g.item ≡ n)
    by true h r = (t, refl, walks.here, (Decides-eqb t.item n).0 h)
    by false h r = let x = r (behind f t fs n e w h) in (x.0, x.1, walks.there x.2, x.3)

-- the first block that has a run, where there is one
first_seat : (q : Run) (f : Function) (h : Home) → Sits f q h → (k : Home) × Sits f q k × (first_home q f ≡ Some k)
first_seat q f h sits = by (first_home q f) refl
  where
    by : (o : Option Home) → first_home q f ≡ o → (k : Home) × Sits f q k × (first_home q f ≡ Some k)
    by None e = absurd (sits_nowhere q f e h sits)
    by (Some k) e = (k, sits_first q f k e, e)

pub seat_of : (function : (p : ProgramTree) (names : List ItemNames) (t : Typed) (bytes : ℕ) (ts : List Tok) (start end : ℕ) (r : RunPos) → IsTyped p names t → RunOf bytes ts p start end r
    → (f : TypedFn) × Among f t.functions × (f.item ≡ r.function))
    → (sits : (p : ProgramTree) (names : List ItemNames) (t : Typed) (bytes : ℕ) (ts : List Tok) (start end : ℕ) (r : RunPos) → IsTyped p names t → RunOf bytes ts p start end r
    → (f : TypedFn) → Among f t.functions → f.item ≡ r.function → (h : Home) × Sits (plain-TypedTree f.tree) (typed_run p r) h)
    → (T : Text) (names : List ItemNames) → IsTyped T.program names T.types → (start end : ℕ) (r : RunPos) → RunOf T.length T.tokens T.program start end r → HasSeat T r
seat_of function sits T names typed start end r is =
    let f = function T.program names T.types T.length T.tokens start end r typed is in
    let g = found T.types.functions r.function f.0 f.1 f.2 in
    let h = sits T.program names T.types T.length T.tokens start end r typed is g.0 g.2 g.3 in
    let k = first_seat (typed_run T.program r) (plain-TypedTree g.0.tree) h.0 h.1 in
    (g.0, k.0, record { function = g.1; sits = k.1; first = k.2 })

same_function : (f g : TypedFn) → ◌≡◌ {A = Option TypedFn} (Some f) (Some g) → f ≡ g
same_function f g e = cc

pub seat_at : (T : Text) (r : RunPos) → HasSeat T r → (f : TypedFn) → function_at T.types.functions r.function ≡ Some f → (h : Home) × Sits (body f) (typed_run T.program r) h
seat_at T r s f e = (s.1, subst (λ (g : TypedFn). Sits (body g) (typed_run T.program r) s.1) (same_function s.0 f (sym s.2.function ∙ e)) s.2.sits)

pub function_known : (T : Text) (r : RunPos) → HasSeat T r → IsSome (function_at T.types.functions r.function)
function_known T r s = subst (λ (o : Option TypedFn). IsSome o) (sym s.2.function) refl
