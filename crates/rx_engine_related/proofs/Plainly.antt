-- A walk of the function with marks, and reads where its run is entered, beside a walk of the function: what is set and what stands is
-- told alike of both, and a use in the one that is none of these reads is one in the other.
use Rattle.std.proofs.Common.{◌≡◌, ℕ, Bool, true, false, not, ◌&&◌, ◌||◌, List, [], ◌∷◌, ◌++◌, refl, sym, ap, ◌∙◌, subst, true≢false, append-nil, append_assoc, if◌then◌else◌}
use Rattle.rx_typed.specs.Tree.{Function}
use Rattle.rx_lower_walks.specs.Actions.{Action, does}
use Rattle.rx_lower_walks.specs.Orders.{order_function}
use Rattle.rx_lower_walks.specs.Walks.{stopped, Walk, IsWalk, Among}
use Rattle.rx_lower_walks.proofs.WalksFronts.{fronts}
use Rattle.rx_facts_tables.specs.Along.{Switch, behind, after}
use Rattle.rx_exits_plan.specs.Runs.{Run}
use Rattle.rx_exits_plan.specs.Points.{enters}
use Rattle.rx_exits_plan.specs.Marked.{shown, marked}
use Rattle.rx_exits_plan.specs.Unmarked.{is_mark, unfilled, unmarked}
use Rattle.rx_exits_plan.proofs.Alike.{unmarked_both}
use Rattle.rx_exits_plan.proofs.Marks.{none_new}
use Rattle.rx_engine_related.specs.Reads.{entry_read, Wider, no_more, entered, kept, put_in}
use Rattle.rx_engine_related.proofs.Widened.{narrow}
use Rattle.rx_engine_related.proofs.HistoriesEntering.{marked_wide}
use Rattle.rx_engine_related.proofs.Blind.{Blind, after_alike, last_of}

pub without_reads : (f : Function) (r : Run) (ls xs : List ℕ) (u : List Action) → IsWalk (marked r ls xs f) u → (w : List Action) × IsWalk (marked r ls [] f) w × Wider xs false w u
without_reads f r ls xs u (rest, o, h) =
    let z = narrow (marked_wide r ls xs f) (fronts h u rest refl) in
    (z.list, ([], stopped, subst (λ l. Walk (order_function (marked r ls [] f)) l stopped) (sym (append-nil z.list)) z.walk), z.wider)

-- ---- a last action of the wider list

-- it is behind a mark of the point where the run is entered
pub data Behind : Bool → List Action → Type 0 where
  at_start : Behind true []
  behind_mark : {b : Bool} (v : List Action) → Behind b (v ++ shown enters ∷ [])

further : {b : Bool} {w : List Action} (a : Action) → Behind false w → Behind b (a ∷ w)
further a (behind_mark v) = behind_mark (a ∷ v)

further_in : {b : Bool} {w : List Action} → Behind true w → Behind b (shown enters ∷ w)
further_in at_start = behind_mark []
further_in (behind_mark v) = behind_mark (shown enters ∷ v)

pub data LastOf (xs : List ℕ) (b : Bool) (a : Action) (u w : List Action) : Type 0 where
  held : (v : List Action) → w ≡ v ++ a ∷ [] → Wider xs b v u → LastOf xs b a u w
  read : (y : ℕ) → Among y xs → a ≡ entry_read y → Behind b w → Wider xs b w u → LastOf xs b a u w

none_wider : {xs : List ℕ} {b : Bool} {w : List Action} → Wider xs b w [] → w ≡ []
none_wider no_more = refl

last_alone : {xs : List ℕ} {b : Bool} {w : List Action} (a : Action) → Wider xs b w (a ∷ []) → LastOf xs b a [] w
last_alone _ (entered {us = us} k) = held [] (ap (λ l. shown enters ∷ l) (none_wider k)) no_more
last_alone a (kept {us = us} k) = held [] (ap (λ l. a ∷ l) (none_wider k)) no_more
last_alone _ (put_in {us = us} y i k) = read y i refl (subst (λ l. Behind true l) (sym (none_wider k)) at_start) k

after_mark : {xs : List ℕ} {b : Bool} {a : Action} {u w : List Action} → LastOf xs true a u w → LastOf xs b a (shown enters ∷ u) (shown enters ∷ w)
after_mark (held v e k) = held (shown enters ∷ v) (ap (λ l. shown enters ∷ l) e) (entered k)
after_mark (read y i e m k) = read y i e (further_in m) (entered k)

longer : {xs : List ℕ} {b : Bool} {a : Action} {u w : List Action} (c : Action) → LastOf xs false a u w → LastOf xs b a (c ∷ u) (c ∷ w)
longer c (held v e k) = held (c ∷ v) (ap (λ l. c ∷ l) e) (kept k)
longer c (read y i e m k) = read y i e (further c m) (kept k)

wide_so : {xs : List ℕ} {a : Action} {u w : List Action} (y : ℕ) → Among y xs → LastOf xs true a u w → LastOf xs true a (entry_read y ∷ u) w
wide_so y i (held v e k) = held v e (put_in y i k)
wide_so y i (read z j e m k) = read z j e m (put_in y i k)

last_step : {xs : List ℕ} {b : Bool} {w m : List Action} (c a : Action) (u : List Action) → ((d : Bool) (v : List Action) → Wider xs d v m → LastOf xs d a u v) → Wider xs b w (c ∷ m) → LastOf xs b a (c ∷ u) w
last_step _ a u ih (entered {us = us} k) = after_mark (ih true us k)
last_step c a u ih (kept {us = us} k) = longer c (ih false us k)
last_step {w = w} _ a u ih (put_in y i k) = wide_so y i (ih true w k)

pub last_wider : {xs : List ℕ} {b : Bool} (u : List Action) (a : Action) (w : List Action) → Wider xs b w (u ++ a ∷ []) → LastOf xs b a u w
last_wider [] a w h = last_alone a h
last_wider (c ∷ u) a w h = last_step c a u (λ d v k. last_wider u a v k) h

-- ---- switches that no such read turns

abbrev pub Unturned : Switch → List ℕ → Type 0
Unturned S xs = (y : ℕ) → Among y xs → (S.gives (entry_read y) ≡ false) × (S.kills (entry_read y) ≡ false)

idle : (g k b : Bool) → g ≡ false → k ≡ false → g || (not k && b) ≡ b
idle false false b e f = refl
idle true k b e f = absurd (true≢false e)
idle false true b e f = absurd (true≢false f)

pub after_wider : {xs : List ℕ} {d : Bool} {w u : List Action} (S : Switch) → Unturned S xs → Wider xs d w u → (b : Bool) → after S u b ≡ after S w b
after_wider S t no_more b = refl
after_wider S t (entered k) b = after_wider S t k (behind S (shown enters) b)
after_wider S t (kept {a = a} k) b = after_wider S t k (behind S a b)
after_wider S t (put_in {vs = vs} y i k) b = ap (λ c. after S vs c) (idle (S.gives (entry_read y)) (S.kills (entry_read y)) b (t y i).0 (t y i).1) ∙ after_wider S t k b

-- ---- beside a walk of the function

-- what both say alike
pub record Beside (f : Function) (u : List Action) (S : Switch) : Type 0 where
  pub list : List Action
  pub walk : IsWalk f list
  pub same : after S u false ≡ after S list false

pub beside : (f : Function) (r : Run) (ls xs : List ℕ) (u : List Action) (S : Switch) → Blind S → Unturned S xs → IsWalk (marked r ls xs f) u → Beside f u S
beside f r ls xs u S k t h =
    let a = without_reads f r ls xs u h in
    let b = none_new f r ls a.0 a.1 in
    record { list = b.0; walk = b.1; same = after_wider S t a.2 false ∙ after_alike S k a.0 b.0 b.2 }

-- an action of it that is no mark and no such read
pub record Acts (f : Function) (u : List Action) (a : Action) (S : Switch) : Type 0 where
  pub list : List Action
  pub action : Action
  pub walk : IsWalk f (list ++ action ∷ [])
  pub same : after S u false ≡ after S list false
  pub bare : does action.node (unfilled action.act) ≡ does a.node (unfilled a.act)

no_mark_last : (v : List Action) (a : Action) → is_mark a.act ≡ false → unmarked (v ++ a ∷ []) ≡ unmarked v ++ does a.node (unfilled a.act) ∷ []
no_mark_last v a e = unmarked_both v (a ∷ []) ∙ ap (λ t. unmarked v ++ (if t then [] else does a.node (unfilled a.act) ∷ [])) e

pub of_held : (f : Function) (r : Run) (ls xs : List ℕ) (u : List Action) (a : Action) (S : Switch) → Blind S → Unturned S xs → is_mark a.act ≡ false → (v : List Action) → IsWalk (marked r ls [] f) (v ++ a ∷ []) → Wider xs false v u → Acts f u a S
of_held f r ls xs u a S k t m v h w =
    let b = none_new f r ls (v ++ a ∷ []) h in
    let l = last_of (unmarked v) (does a.node (unfilled a.act)) b.0 (sym b.2 ∙ no_mark_last v a m) in
    record {
      list = l.front;
      action = l.action;
      walk = (l.rest ++ b.1.0, b.1.1, subst (λ q. Walk (order_function f) q b.1.1) (ap (λ q. q ++ b.1.0) l.is ∙ append_assoc l.front (l.action ∷ l.rest) b.1.0 ∙ sym (append_assoc l.front (l.action ∷ []) (l.rest ++ b.1.0))) b.1.2);
      same = after_wider S t w false ∙ after_alike S k v l.front (sym l.alike);
      bare = l.same;
    }

pub acts : (f : Function) (r : Run) (ls xs : List ℕ) (u : List Action) (a : Action) (S : Switch) → Blind S → Unturned S xs → is_mark a.act ≡ false → ((y : ℕ) → Among y xs → a ≡ entry_read y → ⊥)
    → IsWalk (marked r ls xs f) (u ++ a ∷ []) → Acts f u a S
acts f r ls xs u a S k t m n h = by (last_wider u a z.0 z.2)
  where
    z : (w : List Action) × IsWalk (marked r ls [] f) w × Wider xs false w (u ++ a ∷ [])
    z = without_reads f r ls xs (u ++ a ∷ []) h

    by : LastOf xs false a u z.0 → Acts f u a S
    by (held v e w) = of_held f r ls xs u a S k t m v (subst (λ l. IsWalk (marked r ls [] f) l) e z.1) w
    by (read y i e q w) = absurd (n y i e)
