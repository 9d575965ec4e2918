-- What a plan says where the run is entered, and where it is left, told of walks of the text with its marks.
use Rattle.std.proofs.Common.{◌≡◌, ◌≢◌, ◌⊎◌, ℕ, Bool, true, false, not, ◌&&◌, ◌||◌, ◌==◌, List, [], ◌∷◌, ◌++◌, refl, sym, ◌∙◌, subst, ap}
use Rattle.rx_core.specs.declared.types.Step.{Step}
use Rattle.rx_typed.specs.Tree.{variable, Temporary, Function, own}
use Rattle.rx_typed.specs.TypedPlaces.{is_front}
use Rattle.rx_lower_walks.specs.Actions.{Act, Declare, Dead, Read, Write, Borrow, Test, Call, Build, Input, Print, Give, Action, does}
use Rattle.rx_lower_walks.specs.Orders.{Order}
use Rattle.rx_lower_walks.specs.Walks.{Out, Walk, IsWalk, Among}
use Rattle.rx_facts_tables.specs.Along.{Switch, behind, after, ahead}
use Rattle.rx_facts_tables.specs.Places.{Frame, is_part}
use Rattle.rx_facts_tables.specs.Setting.{setting, is_set, AllSet}
use Rattle.rx_facts_tables.specs.Wholes.{placed, is_variable, is_all, assigns, begins, regains, loses, standing, stands, assigning, was_assigned}
use Rattle.rx_facts_tables.specs.Initialised.{Initialised}
use Rattle.rx_facts_tables.specs.Live.{living}
use Rattle.rx_exits_plan.specs.Points as points
use Rattle.rx_exits_plan.specs.Points.{Exit, returns, leaves}
use Rattle.rx_exits_plan.specs.Marked.{shown, marked}
use Rattle.rx_exits_plan.specs.Asked.{Asked, ComesTo, IsParam, IsLocal, IsLiveAt}
use Rattle.rx_exits_plan.specs.Plan.{Plan, IsPlan}
use Rattle.rx_exits_plan.specs.PartlyMoved.{PartlyMoved, at_exit}
use Rattle.rx_meaning_keeping.specs.Ready.{HasPart}
use Rattle.rx_meaning_keeping.proofs.Parts.{Parted, parted}
use Rattle.rx_engine_simulation.specs.Sights.{In}
use Rattle.rx_engine_related.specs.Reads.{entry_read, Wider}
use Rattle.rx_engine_related.specs.AboutRun.{special_of, marked_with, text_of}
use Rattle.rx_engine_related.specs.OneSite.{StandsOnce}
use Rattle.rx_engine_related.specs.Accepted.{Accepted}
use Rattle.rx_engine_related.proofs.Plainly.{without_reads, LastOf, held, read, last_wider, after_wider}
use Rattle.rx_engine_related.proofs.Recombining.{recombined}
use Rattle.rx_engine_related.proofs.Choosing as choosing
use Rattle.rx_engine_related.proofs.Choosing.{param_named, local_named, out_is, special_is}
use Rattle.rx_engine_initial.specs.Matching.{Hist, Reach, Good, IsGone, Maps}
use Rattle.rx_engine_initial.specs.Variables.{as_itself, Sides, both_end, LikePart, KnownVariables, set_view, part_set}
use Rattle.rx_engine_initial.specs.Copies.{world}
use Rattle.rx_engine_initial.specs.Handing.{Handing, Straight, giving}
use Rattle.rx_engine_initial.specs.Planned.{IsTextOf, MeetsMark, AllFor}
use Rattle.rx_engine_initial.proofs.Tracing.{holds_here}
use Rattle.rx_engine_initial.proofs.Ways.{no, and_left, and_right, and_both, is_false, clash}
use Rattle.rx_engine_initial.proofs.Keeping.{whole_gives}
use Rattle.rx_engine_initial.proofs.Unset.{set_stands}
use Rattle.rx_engine_initial.proofs.Straight.{giving_given, given_ended, given_front}
use Rattle.rx_engine_initial.proofs.Handing.{handing_in_order, good_front, good_more}
use Rattle.rx_engine_initial.proofs.Known.{walk_front}
use Rattle.rx_engine_initial.proofs.MarkedTexts.{marked_is_initialised}
use Rattle.rx_modes_uses.specs.NotMut.{NotMut}

-- ---- what stands was assigned

-- what loses or begins a variable, and what writes it
step_assigned : (x : ℕ) (a : Act) (s t : Bool) → (s ≡ true → t ≡ true) → (regains x [] a || (not (loses x [] a) && s)) ≡ true → (assigns x a || (not (begins x a) && t)) ≡ true
step_assigned x (Declare y) s t f e = by (y == x) e
  where
    by : (k : Bool) → (not (k && true) && s) ≡ true → (not k && t) ≡ true
    by true h = no h
    by false h = f h
step_assigned x (Dead y) s t f e = f (and_right (not ((y == x) && true)) s e)
step_assigned x (Read true p d) s t f e = f (last ((standing x []).kills (does 0 (Read true p d))) e)
  where
    last : (k : Bool) → (not k && s) ≡ true → s ≡ true
    last true h = no h
    last false h = h
step_assigned x (Read false p d) s t f e = f e
step_assigned x (Write p u ss) s t f e = by (is_variable p.root x) p.steps e
  where
    by : (k : Bool) (qs : List Step) → ((k && is_front qs []) || s) ≡ true → ((k && is_all qs) || t) ≡ true
    by true [] h = refl
    by true (q ∷ qs) h = f h
    by false qs h = f h
step_assigned x (Borrow k p d) s t f e = f e
step_assigned x (Test p c) s t f e = f e
step_assigned x (Call m ts d) s t f e = f e
step_assigned x (Build w is ts d) s t f e = f e
step_assigned x (Input d) s t f e = f e
step_assigned x (Print d) s t f e = f e
step_assigned x (Give d) s t f e = f e

pub all_assigned : (x : ℕ) (w : List Action) (s t : Bool) → (s ≡ true → t ≡ true) → after (standing x []) w s ≡ true → after (assigning x) w t ≡ true
all_assigned x [] s t f e = f e
all_assigned x (a ∷ w) s t f e = all_assigned x w (behind (standing x []) a s) (behind (assigning x) a t) (λ q. step_assigned x a.act s t f q) e

pub set_assigned : (F : Frame) → Parted F → (muts : List Bool) (f : Function) → Initialised F muts f → (x : ℕ) → HasPart F x [] → (w : List Action) → IsWalk f w → AllSet F w (own x) → was_assigned w x ≡ true
set_assigned F parts muts f init x (n, h) w c e = all_assigned x w false false (λ q. q) (set_stands F parts muts f init x n h w c (e n h))

-- ---- a walk to a mark, without the reads

mark_no_read : (p : points.Point) (y : ℕ) → shown p ≡ entry_read y → ⊥
mark_no_read p y e = differ (ap (λ (a : Action). is_build a.act) e)
  where
    is_build : Act → Bool
    is_build (Build w js ts d) = true
    is_build _ = false

    differ : true ≡ false → ⊥
    differ q = cc

module _ (A : Asked) (xs : List ℕ) (p : points.Point) (w : List Action) (c : IsWalk (marked_with A xs) (w ++ shown p ∷ [])) where
  unread : (v : List Action) × ComesTo A p v × Wider xs false v w
  unread = by (last_wider w (shown p) z.0 z.2)
    where
      z : (v : List Action) × IsWalk (marked A.run A.home.around.loops [] A.function) v × Wider xs false v (w ++ shown p ∷ [])
      z = without_reads A.function A.run A.home.around.loops xs (w ++ shown p ∷ []) c

      by : LastOf xs false (shown p) w z.0 → (v : List Action) × ComesTo A p v × Wider xs false v w
      by (held v e k) = (v, subst (λ l. IsWalk (marked A.run A.home.around.loops [] A.function) l) e z.1, k)
      by (read y i e b k) = absurd (mark_no_read p y e)

  pub all_set_at : (x : ℕ) → ((v : List Action) → ComesTo A p v → AllSet A.frame v (own x)) → AllSet A.frame w (own x)
  all_set_at x f n h = after_wider (setting A.frame n) (λ y i. (refl, refl)) unread.2 false ∙ f unread.0 unread.1 n h

  pub stands_not_at : (x : ℕ) → ((v : List Action) → ComesTo A p v → stands v x [] ≡ false) → stands w x [] ≡ false
  stands_not_at x f = after_wider (standing x []) (λ y i. (refl, refl)) unread.2 false ∙ f unread.0 unread.1

not_partly : (A : Asked) (k : Plan) (e : Exit) (x : ℕ) → ¬ (PartlyMoved A k x) → Among e k.exits → Among x (k.outs e) → (w : List Action) → ComesTo A (leaves e) w → AllSet A.frame w (own x)
not_partly A k e x whole i o w c n is = by (is_set A.frame w n) refl
  where
    by : (t : Bool) → is_set A.frame w n ≡ t → is_set A.frame w n ≡ true
    by true q = q
    by false q = absurd (whole (at_exit w e i o c (n, is, q)))

-- ---- what the plan says

module _ (A : Asked) (muts : List Bool) (acc : Accepted A muts) (k : Plan) (plan : IsPlan A k) where
  pub text_initialised : Initialised A.frame muts (text_of A k)
  text_initialised = marked_is_initialised A muts acc k.params (λ y i. (param_named A k plan y i).1)

  shorter : (f : Function) (w : List Action) (a : Action) → IsWalk f (w ++ a ∷ []) → IsWalk f w
  shorter f w a c = walk_front f w (a ∷ []) c

  pub param_assigned : (x : ℕ) → Among x k.params → (w : List Action) → IsWalk (text_of A k) (w ++ shown points.enters ∷ []) → was_assigned w x ≡ true
  param_assigned x i w c = let z = param_named A k plan x i in
      set_assigned A.frame (parted A.frame acc.sized) muts (text_of A k) text_initialised x (acc.named x z.0) w (shorter (text_of A k) w (shown points.enters) c) (all_set_at A k.params points.enters w c x z.1)

  pub local_unset : (x : ℕ) → Among x k.locals → (w : List Action) → IsWalk (text_of A k) (w ++ shown points.enters ∷ []) → stands w x [] ≡ false
  local_unset x i w c = stands_not_at A k.params points.enters w c x (local_named A k plan x i).1

  pub out_set : (e : Exit) (x : ℕ) → ¬ (PartlyMoved A k x) → Among e k.exits → Among x (k.outs e) → (w : List Action) → IsWalk (text_of A k) (w ++ shown (leaves e) ∷ []) → AllSet A.frame w (own x)
  out_set e x whole i o w c = all_set_at A k.params (leaves e) w c x (λ v q. not_partly A k e x whole i o v q)

  -- the walk goes on to a use of what the exit hands out
  pub out_live : (e : Exit) (x : ℕ) → StandsOnce (text_of A k) (shown (leaves e)) → Among e k.exits → Among x (k.outs e) → (w : List Action) → IsWalk (text_of A k) (w ++ shown (leaves e) ∷ [])
      → (us : List Action) × IsWalk (text_of A k) (w ++ shown (leaves e) ∷ us) × (ahead (living (variable x)) us ≡ true)
  out_live e x once i o w c = let l = (out_is A k plan e i x o).1 in (l.1, recombined (text_of A k) (shown (leaves e)) once l.0 w l.1 l.2 c, l.3)

  -- and on to no use of what it does not
  pub not_live : ((y : ℕ) → ¬ (NotMut A muts k y)) → (e : Exit) (x : ℕ) → Among e k.exits → e ≢ returns → In x (special_of A muts k) → (Among x (k.outs e) → ⊥) → (w ws : List Action) → IsWalk (text_of A k) (w ++ shown (leaves e) ∷ ws)
      → ahead (living (variable x)) ws ≡ false
  not_live passed e x i n s f w ws c = is_false (ahead (living (variable x)) ws) (λ l. choosing.not_live A muts k plan passed e i n x (special_is A muts k plan x s) f (w, ws, c, l))

-- ---- where the new function is left

module _ (S : Sides) (new : Parted S.frame) (old : Parted S.frame_there) (R : KnownVariables S) where
  -- what is set there, and live behind the mark, is set here
  handed_set : (us w : List Action) → Hist (world S) R us w → (a : Action) (x y : ℕ) → Among (as_itself x y) R.variables → AllSet S.frame_there w (own y)
      → ((vs : List Action) × IsWalk S.text (w ++ a ∷ vs) × (ahead (living (variable y)) (a ∷ vs) ≡ true)) → AllSet S.frame us (own x)
  handed_set us w H a x y q f (vs, c, l) n h = by ((R.alike x y q).parts n h)
    where
      by : ((m : ℕ) × LikePart S x y n m) → is_set S.frame us n ≡ true
      by (m, g) = holds_here (IsWalk S.text) (set_view S n y m) (whole_gives S new old R (part_set x y n m q h g)) (H (set_view S n y m) (part_set x y n m q h g)) (a ∷ vs) c l
          (f m (sym (g [] [] both_end) ∙ h))

  pub giving_gone : (a : Action) (q : Order) (xs : List ℕ)
      → ((w : List Action) → Reach (world S) q w → (x : ℕ) → Among x xs → (y : ℕ) × Among (as_itself x y) R.variables × AllSet S.frame_there w (own y)
      × ((vs : List Action) × IsWalk S.text (w ++ a ∷ vs) × (ahead (living (variable y)) (a ∷ vs) ≡ true)))
      → {l : List Action} → Handing xs l → (s : Order) → Straight s l → (n : ℕ) (t : Temporary) → IsGone (world S) R (giving s n t) q
  giving_gone a q xs outs {l = l} d s e n t = record {
    ended = λ vs o k. given_ended (giving_given e n t vs o k);
    good = λ us w vs o H r k. by us w H r vs (given_front (giving_given e n t vs o k));
  }
    where
      by : (us w : List Action) → Hist (world S) R us w → Reach (world S) q w → (vs : List Action) → ((ws : List Action) × (vs ++ ws ≡ l ++ does n (Give t) ∷ [])) → Good (world S) us vs
      by us w H r vs (ws, e) = good_front S new us vs ws (subst (λ k. Good (world S) us k) (sym e) (good_more S new us l n t
          (handing_in_order S new d us (λ x i. let z = outs w r x i in handed_set us w H a x z.0 z.1 z.2 z.3))))

-- a mark is nothing to what is live
pub ahead_mark : (p : points.Point) (x : ℕ) (us : List Action) → ahead (living (variable x)) us ≡ true → ahead (living (variable x)) (shown p ∷ us) ≡ true
ahead_mark p x us h = h
