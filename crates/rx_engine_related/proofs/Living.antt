-- What a history says is living, is live in the sense of RFC 2094 on a walk from there on: so what is not live at an exit is not living
-- behind the exit's mark.
use Rattle.std.proofs.Common.{◌≡◌, ℕ, Bool, true, false, not, ◌&&◌, ◌||◌, List, [], ◌∷◌, refl, sym, ap, subst, true≢false}
use Rattle.std.proofs.lemmas.Bool.Decides.{Decides-eqb}
use Rattle.rx_core.specs.declared.types.Step.{Step}
use Rattle.rx_typed.specs.Tree.{Root, variable, temporary, Function}
use Rattle.rx_typed.specs.TypedPlaces.{same_root}
use Rattle.rx_lower_walks.specs.Actions.{Act, Declare, Dead, Read, Write, Borrow, Test, Call, Build, Input, Print, Give, Action}
use Rattle.rx_lower_walks.specs.Walks.{IsWalk}
use Rattle.rx_facts_tables.specs.Along.{ahead}
use Rattle.rx_facts_tables.specs.Live.{living, has_root, used, written, roots_of, whole, entered}
use Rattle.rx_exits_plan.specs.Points.{Exit, leaves}
use Rattle.rx_exits_plan.specs.Marked.{shown}
use Rattle.rx_exits_plan.specs.Asked.{Asked, IsLiveAt}
use Rattle.rx_exits_plan.specs.Plan.{Plan}
use Rattle.rx_engine_simulation.specs.Histories.{IsRoot, IsWhole, WritesWhole, Uses, Living, asked, now, later}
use Rattle.std.proofs.Common.{inr}
use Rattle.rx_engine_simulation.specs.Programs.{back, Untouched, facts_of}
use Rattle.rx_engine_related.specs.AboutRun.{about_run, text_of}
use Rattle.rx_engine_related.proofs.Since.{back_both, history_walk}

-- ---- uses and writes

same_here : (r : Root) (x : ℕ) → IsRoot r x → same_root (variable x) r ≡ true
same_here (variable y) x e = (Decides-eqb x y).1 e
same_here (temporary t) x e = absurd e

first_root : (r : Root) (rs : List Root) (x : ℕ) → IsRoot r x → has_root (r ∷ rs) (variable x) ≡ true
first_root r rs x i = ap (λ b. b || has_root rs (variable x)) (same_here r x i)

entered_root : (r : Root) (ss : List Step) (x : ℕ) → IsRoot r x → (IsWhole ss → ⊥) → has_root (entered r ss) (variable x) ≡ true
entered_root r [] x i n = absurd (n tt)
entered_root r (s ∷ ss) x i n = first_root r [] x i

pub uses_root : (a : Act) (x : ℕ) → Uses a x → has_root (used a) (variable x) ≡ true
uses_root (Read m p d) x u = first_root p.root [] x u
uses_root (Borrow k p d) x u = first_root p.root [] x u
uses_root (Test p c) x u = first_root p.root [] x u
uses_root (Write p t ss) x u = entered_root p.root p.steps x u.0 u.1
uses_root (Declare y) x u = absurd u
uses_root (Dead y) x u = absurd u
uses_root (Call f ts d) x u = absurd u
uses_root (Build w js ts d) x u = absurd u
uses_root (Input d) x u = absurd u
uses_root (Print t) x u = absurd u
uses_root (Give t) x u = absurd u

is_here : (r : Root) (x : ℕ) → same_root (variable x) r ≡ true → IsRoot r x
is_here (variable y) x e = (Decides-eqb x y).0 e
is_here (temporary t) x e = true≢false (sym e)

or_false : (b : Bool) → b || false ≡ true → b ≡ true
or_false true e = refl
or_false false e = e

whole_write : (r : Root) (ss : List Step) (x : ℕ) → has_root (roots_of (whole r ss)) (variable x) ≡ true → IsRoot r x × IsWhole ss
whole_write r [] x e = (is_here r x (or_false (same_root (variable x) r) e), tt)
whole_write r (s ∷ ss) x e = absurd (true≢false (sym e))

-- what kills liveness kills it by a write of the whole
pub kills_whole : (a : Act) (x : ℕ) → has_root (roots_of (written a)) (variable x) ≡ true → WritesWhole a x
kills_whole (Write p t ss) x e = whole_write p.root p.steps x e
kills_whole (Read m p d) x e = true≢false (sym e)
kills_whole (Borrow k p d) x e = true≢false (sym e)
kills_whole (Test p c) x e = true≢false (sym e)
kills_whole (Declare y) x e = true≢false (sym e)
kills_whole (Dead y) x e = true≢false (sym e)
kills_whole (Call f ts d) x e = true≢false (sym e)
kills_whole (Build w js ts d) x e = true≢false (sym e)
kills_whole (Input d) x e = true≢false (sym e)
kills_whole (Print t) x e = true≢false (sym e)
kills_whole (Give t) x e = true≢false (sym e)

-- ---- ahead

goes_by : (g k b : Bool) → (k ≡ true → ⊥) → b ≡ true → g || (not k && b) ≡ true
goes_by true k b n e = refl
goes_by false true b n e = absurd (n refl)
goes_by false false b n e = e

here_now : (g k : Bool) → g ≡ true → g || (not k && false) ≡ true
here_now true k e = refl
here_now false k e = absurd (true≢false (sym e))

-- some walk goes on so that the variable is live
pub record Ahead (f : Function) (x : ℕ) (h : List Action) : Type 0 where
  pub list : List Action
  pub walk : IsWalk f (back h list)
  pub live : ahead (living (variable x)) list ≡ true

pub living_ahead : (f : Function) (l : List ℕ) (u : Untouched f (record { special = l; asked = [] })) (x : ℕ) (h : List Action) → Living (facts_of f (record { special = l; asked = [] }) u) x h → Ahead f x h
living_ahead f l u x h (asked c) = absurd c.1
living_ahead f l u x h (now a good uses) = record { list = a ∷ []; walk = history_walk f (a ∷ h) good; live = here_now (has_root (used a.act) (variable x)) (has_root (roots_of (written a.act)) (variable x)) (uses_root a.act x uses) }
living_ahead f l u x h (later a n k) =
    let z = living_ahead f l u x (a ∷ h) k in
    record { list = a ∷ z.list; walk = z.walk; live = goes_by (has_root (used a.act) (variable x)) (has_root (roots_of (written a.act)) (variable x)) (ahead (living (variable x)) z.list) (λ e. n (inr (kills_whole a.act x e))) z.live }

pub dead_behind : (A : Asked) (muts : List Bool) (k : Plan) (u : Untouched (text_of A k) (about_run A muts k)) (e : Exit) (x : ℕ) → ¬ (IsLiveAt A k.params e x) → (h : List Action) → Living (facts_of (text_of A k) (about_run A muts k) u) x (shown (leaves e) ∷ h) → ⊥
dead_behind A muts k u e x none h l =
    let z = living_ahead (text_of A k) (about_run A muts k).special u x (shown (leaves e) ∷ h) l in
    none (back h [], z.list, subst (λ l. IsWalk (text_of A k) l) (back_both h (shown (leaves e) ∷ z.list)) z.walk, z.live)
