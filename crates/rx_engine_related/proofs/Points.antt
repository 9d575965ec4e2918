-- A history that comes to a mark; and what is wholly set on all walks that come to a point was written on each history that does.
use Rattle.std.proofs.Common.{◌≡◌, ℕ, Bool, true, false, List, [], ◌∷◌, ◌++◌, refl, sym, ap, ◌∙◌, subst, append-nil}
use Rattle.rx_typed.specs.Tree.{Temporary, Body, runs, Function, own}
use Rattle.rx_lower_walks.specs.Actions.{Act, Build, Action}
use Rattle.rx_lower_walks.specs.Orders.{order_body, order_function}
use Rattle.rx_lower_walks.specs.Walks.{stopped, rests, nothing, acts, both, Walk, IsWalk}
use Rattle.rx_lower_walks.proofs.WalksFronts.{fronts}
use Rattle.rx_facts_tables.specs.Along.{after}
use Rattle.rx_facts_tables.specs.Places.{Frame, is_part}
use Rattle.rx_facts_tables.specs.Setting.{setting, AllSet}
use Rattle.rx_facts_tables.specs.Wholes.{standing}
use Rattle.rx_facts_tables.specs.Initialised.{Initialised}
use Rattle.rx_exits_plan.specs.Points.{Point}
use Rattle.rx_exits_plan.specs.Marked.{mark, shown, marked}
use Rattle.rx_exits_plan.proofs.Coming as coming
use Rattle.rx_exits_plan.proofs.Marks.{none_new}
use Rattle.rx_exits_plan.specs.Asked.{Asked, ComesTo}
use Rattle.rx_meaning_keeping.specs.Ready.{HasPart}
use Rattle.rx_meaning_keeping.proofs.Parts.{Parted, parted}
use Rattle.rx_engine_simulation.specs.Histories.{put, Written}
use Rattle.rx_engine_simulation.specs.Programs as programs
use Rattle.rx_engine_simulation.specs.Programs.{back, IsHistory}
use Rattle.rx_engine_simulation.proofs.Histories.{came}
use Rattle.rx_engine_related.specs.Reads.{entry_read, Wider}
use Rattle.rx_engine_related.specs.AboutRun.{marked_with}
use Rattle.rx_engine_related.specs.Accepted.{Accepted}
use Rattle.rx_engine_related.proofs.Since.{since, after_back, back_put, next_walk, walk_history}
use Rattle.rx_engine_related.proofs.Setting.{set_stands, stands_written}
use Rattle.rx_engine_related.proofs.Blind.{after_alike, setting_blind, standing_blind}
use Rattle.rx_engine_related.proofs.Plainly.{without_reads, LastOf, held, read, last_wider, Unturned, after_wider}

-- ---- histories

-- one that comes to a body that begins with a mark is a walk that comes to the mark
pub comes_to_mark : (g : Function) (p : Point) (b : Body) (i : ℕ) (t : Temporary) (h : List Action) → programs.ComesTo g (order_body (runs (mark p) b) i t) h → IsHistory g (shown p ∷ h)
comes_to_mark g p b i t h c =
    let k = came c in
    let w : Walk (order_function g) (k.0 ++ shown p ∷ []) stopped = coming.goes_on k.2 (shown p ∷ []) (both (both nothing acts) rests) in
    let e : back (shown p ∷ h) [] ≡ k.0 ++ shown p ∷ [] = ap (λ l. back l (shown p ∷ [])) k.1 ∙ back_put k.0 [] (shown p ∷ []) in
    ([], stopped, subst (λ l. Walk (order_function g) l stopped) (sym e) w)

pub walk_back : (w : List Action) → back (put w []) [] ≡ w
walk_back w = back_put w [] [] ∙ append-nil w

pub shorter : (f : Function) (v w : List Action) → IsWalk f (v ++ w) → IsWalk f v
shorter f v w (rest, o, h) = ([], stopped, subst (λ l. Walk (order_function f) l stopped) (sym (append-nil v)) (fronts (fronts h (v ++ w) rest refl) v w refl))

-- ---- what is set stands

pub setting_unturned : (F : Frame) (n : ℕ) (xs : List ℕ) → Unturned (setting F n) xs
setting_unturned F n xs y i = (refl, refl)

pub standing_unturned : (x : ℕ) (xs : List ℕ) → Unturned (standing x []) xs
standing_unturned x xs y i = (refl, refl)

pub stands_when_set : (F : Frame) → Parted F → (muts : List Bool) (f : Function) → Initialised F muts f → (x n : ℕ) → is_part F (own x) n ≡ true → (w : List Action) → IsWalk f w
    → after (setting F n) w false ≡ true → after (standing x []) w false ≡ true
stands_when_set F parts muts f init x n is w k e =
    let h = put w [] in
    let s = set_stands F parts x n is muts f init h (walk_history f h (subst (λ l. IsWalk f l) (sym (walk_back w)) k)) (sym (after_back (setting F n) h []) ∙ ap (λ l. after (setting F n) l false) (walk_back w) ∙ e) in
    ap (λ l. after (standing x []) l false) (sym (walk_back w)) ∙ after_back (standing x []) h [] ∙ s

-- ---- at a point

not_read : (p : Point) (y : ℕ) → shown p ≡ entry_read y → ⊥
not_read p y e = clash (ap (λ (a : Action). is_build a.act) e)
  where
    is_build : Act → Bool
    is_build (Build w js ts d) = true
    is_build _ = false

    clash : true ≡ false → ⊥
    clash q = cc

module _ (A : Asked) (muts : List Bool) (acc : Accepted A muts) (xs : List ℕ) where
  parts : Parted A.frame
  parts = parted A.frame acc.sized

  -- the same history without the reads
  pub at_point : (p : Point) (h : List Action) → IsHistory (marked_with A xs) (shown p ∷ h) → (v : List Action) × ComesTo A p v × Wider xs false v (back h [])
  at_point p h k = by (last_wider (back h []) (shown p) z.0 z.2)
    where
      z : (w : List Action) × IsWalk (marked A.run A.home.around.loops [] A.function) w × Wider xs false w (back h [] ++ shown p ∷ [])
      z = without_reads A.function A.run A.home.around.loops xs (back h [] ++ shown p ∷ []) (next_walk (marked_with A xs) (shown p) h k)

      by : LastOf xs false (shown p) (back h []) z.0 → (v : List Action) × ComesTo A p v × Wider xs false v (back h [])
      by (held v e w) = (v, subst (λ l. IsWalk (marked A.run A.home.around.loops [] A.function) l) e z.1, w)
      by (read y i e q w) = absurd (not_read p y e)

  -- where the variable is wholly set on walks to the point, it stands
  pub stands_at : (p : Point) (x : ℕ) → HasPart A.frame x [] → ((w : List Action) → ComesTo A p w → AllSet A.frame w (own x)) → (h : List Action) → IsHistory (marked_with A xs) (shown p ∷ h) → since (standing x []) h ≡ true
  stands_at p x (n, is) set h k =
      let z = at_point p h k in
      let b = none_new A.function A.run A.home.around.loops z.0 (shorter (marked A.run A.home.around.loops [] A.function) z.0 (shown p ∷ []) z.1) in
      let s = stands_when_set A.frame parts muts A.function acc.initialised x n is b.0 b.1 (sym (after_alike (setting A.frame n) (setting_blind A.frame n) z.0 b.0 b.2) ∙ set z.0 z.1 n is) in
      sym (after_back (standing x []) h []) ∙ after_wider (standing x []) (standing_unturned x xs) z.2 false ∙ after_alike (standing x []) (standing_blind x []) z.0 b.0 b.2 ∙ s

  pub written_at : (p : Point) (x : ℕ) → HasPart A.frame x [] → ((w : List Action) → ComesTo A p w → AllSet A.frame w (own x)) → (h : List Action) → IsHistory (marked_with A xs) (shown p ∷ h) → Written h x
  written_at p x has set h k = stands_written x h (stands_at p x has set h k)

  -- where it is lost on walks to the point, it does not stand
  pub lost_at : (p : Point) (x : ℕ) (h : List Action) → IsHistory (marked_with A xs) (shown p ∷ h) → ((w : List Action) → ComesTo A p w → after (standing x []) w false ≡ false) → since (standing x []) h ≡ false
  lost_at p x h k lost =
      let z = at_point p h k in
      sym (after_back (standing x []) h []) ∙ after_wider (standing x []) (standing_unturned x xs) z.2 false ∙ lost z.0 z.1
