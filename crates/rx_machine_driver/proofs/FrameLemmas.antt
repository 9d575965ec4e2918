-- Frames that are pushed, and what the innermost makes of a value or a jump.
use Rattle.std.proofs.Common.{◌≡◌, ℕ, suc, List, [], ◌∷◌, ◌++◌, reverse, Option, None, Some, true, false, refl, sym, ap, subst, ◌∙◌}
use Rattle.std.proofs.lemmas.List.{reverse-append}
use Rattle.std.proofs.Common.{Bor}
use Rattle.rx_typed.specs.Tree as tree
use Rattle.rx_typed.specs.Tree.{Function}
use Rattle.rx_typed.specs.declared.tree.Mark.{Mark}
use Rattle.rx_typed.specs.declared.tree.Expr.{Expr}
use Rattle.rx_typed.specs.PlainTree.{plain-Mark, plain-Expr}
use Rattle.rx_lower_walks.specs.Orders.{Exit, breaks, continues, returns}
use Rattle.rx_meaning.specs.declared.outcome.End.{End}
use Rattle.rx_meaning.specs.Values as values
use Rattle.rx_meaning.specs.Values.{element, new_frame, State, with_turns}
use Rattle.rx_meaning.specs.Expressions.{Functions}
use Rattle.rx_machine_frames.specs.Frames as frames
use Rattle.rx_machine_frames.specs.Frames.{Around, hole, pass, call_from}
use Rattle.rx_machine_frames.specs.Choosing.{fill_all}
use Rattle.rx_machine_frames.specs.Stepping.{Led, goes, step, config, behind_pass, entered, called, with_turn, or_wrong}
use Rattle.rx_machine_driver.specs.declared.next.Next.{Next}
use Rattle.rx_machine_driver.specs.declared.next.Hole.{Hole}
use Rattle.rx_machine_driver.specs.PlainSteps.{plain-Hole, plain-Next}
use Rattle.rx_machine_driver.specs.declared.slots.Slots.{Slots}
use Rattle.rx_machine_driver.specs.declared.data.Frame.{Frame}
use Rattle.rx_machine_driver.specs.declared.data.Frame.TheVariants as frame
use Rattle.rx_machine_driver.specs.declared.data.Machine.{Machine}
use Rattle.rx_machine_driver.specs.declared.data.Step.{Step}
use Rattle.rx_machine_driver.specs.declared.data.Step.TheVariants as step_to
use Rattle.rx_machine_driver.specs.Fitting.{IsAround, AreAround, Fits}
use Rattle.rx_machine_driver.specs.Running.{GivesTo, LeavesCall, LeavesFrame, Follows, Leads, Takes, Came, Changes, IsFunction, Enters}
use Rattle.rx_machine_driver.proofs.SlotLemmas.{tells_none}
use Rattle.rx_machine_driver.proofs.ActLemmas.{nothing_more}

-- ---- one frame more

pub pushed : (m : Machine) (t : ℕ) (K : List Around) (s : State) (f : Frame) (a : Around) (fs : List Frame) → fs ≡ m.frames ++ f ∷ [] → IsAround f a → Fits m t K s → Fits (record m { frames = fs }) t (a ∷ K) s
pushed m t K s f a fs e i k = record {
  memory = k.memory;
  slots = k.slots;
  input = k.input;
  turns = k.turns;
  frames = subst (λ l. AreAround l (a ∷ K)) (sym (ap reverse e ∙ reverse-append m.frames (f ∷ []))) (i, k.frames);
}

pub part_leads : (m : Machine) (h : Hole) (e : tree.Exp) (fs : List Frame) (y : Next) → fs ≡ m.frames ++ frame.Hole h ∷ [] → plain-Next y ≡ frames.opened e
    → Leads m (frames.part (plain-Hole h) e) (record m { frames = fs }) (step_to.Next y)
part_leads m h e fs y i k = λ t K s f. (pushed m t K s (frame.Hole h) (hole (plain-Hole h)) fs i refl f, k, nothing_more m)

-- ---- the innermost frame goes

-- what is around, without the innermost
popped : (m : Machine) (t : ℕ) (K : List Around) (s : State) (fs : List Frame) → AreAround (reverse fs) K → Fits m t K s → Fits (record m { frames = fs }) t K s
popped m t K s fs i k = record { memory = k.memory; slots = k.slots; input = k.input; turns = k.turns; frames = i }

-- a case of what is around
innermost : (C : List Around → Type 0) (m : Machine) (t : ℕ) (K : List Around) (s : State) (fs : List Frame) (f : Frame) → m.frames ≡ fs ++ f ∷ [] → Fits m t K s
    → ((a : Around) (J : List Around) → IsAround f a → AreAround (reverse fs) J → C (a ∷ J)) → C K
innermost C m t K s fs f e k h = by K (subst (λ l. AreAround l K) (ap reverse e ∙ reverse-append fs (f ∷ [])) k.frames)
  where
    by : (K : List Around) → AreAround (f ∷ reverse fs) K → C K
    by [] i = absurd i
    by (a ∷ J) i = h a J i.0 i.1

without : (m : Machine) (t : ℕ) (J : List Around) (s : State) (fs : List Frame) (K : List Around) → Fits m t K s → AreAround (reverse fs) J → Fits (record m { frames = fs }) t J s
without m t J s fs K k i = record { memory = k.memory; slots = k.slots; input = k.input; turns = k.turns; frames = i }

give_frame : (m : Machine) (t : ℕ) (s : State) (fs : List Frame) (f : Frame) (v : values.Value) (to : Step) (a : Around) (J K : List Around) → Fits m t K s → GivesTo f v to → IsAround f a → AreAround (reverse fs) J
    → Follows t m (frames.gives v) (a ∷ J) s (step (a ∷ J) (frames.gives v) s) (record m { frames = fs }) to
give_frame m t s fs (frame.Hole h) v (step_to.Next y) a J K k g i r =
    subst (λ b. Follows t m (frames.gives v) (b ∷ J) s (step (b ∷ J) (frames.gives v) s) (record m { frames = fs }) (step_to.Next y)) (sym i) (without m t J s fs K k r, g, nothing_more m)
give_frame m t s fs (frame.Hole h) v (step_to.Turn u) a J K k g i r = absurd g
give_frame m t s fs (frame.Hole h) v (step_to.End e) a J K k g i r = absurd g
give_frame m t s fs (frame.Pass n l b) v (step_to.Next y) a J K k g i r =
    subst (λ b. Follows t m (frames.gives v) (b ∷ J) s (step (b ∷ J) (frames.gives v) s) (record m { frames = fs }) (step_to.Next y)) (sym i) (without m t J s fs K k r, g, nothing_more m)
give_frame m t s fs (frame.Pass n l b) v (step_to.Turn u) a J K k g i r = absurd g
give_frame m t s fs (frame.Pass n l b) v (step_to.End e) a J K k g i r = absurd g
give_frame m t s fs (frame.Call S) v (step_to.Next y) a J K k g i r = absurd g
give_frame m t s fs (frame.Call S) v (step_to.Turn u) a J K k g i r = absurd g
give_frame m t s fs (frame.Call S) v (step_to.End e) (call_from F) J K k g i r = (g, nothing_more m)
give_frame m t s fs (frame.Call S) v (step_to.End e) (hole h) J K k g i r = absurd i
give_frame m t s fs (frame.Call S) v (step_to.End e) (pass n l b) J K k g i r = absurd i

pub gives_lead : (m : Machine) (fs : List Frame) (f : Frame) (v : values.Value) (to : Step) → m.frames ≡ fs ++ f ∷ [] → GivesTo f v to → Leads m (frames.gives v) (record m { frames = fs }) to
gives_lead m fs f v to e g = λ t K s k.
    innermost (λ K. Follows t m (frames.gives v) K s (step K (frames.gives v) s) (record m { frames = fs }) to) m t K s fs f e k (λ a J i r. give_frame m t s fs f v to a J K k g i r)

-- no frame is around
outermost : (C : List Around → Type 0) (m : Machine) (t : ℕ) (K : List Around) (s : State) → m.frames ≡ [] → Fits m t K s → C [] → C K
outermost C m t K s e k c = by K (subst (λ l. AreAround (reverse l) K) e k.frames)
  where
    by : (K : List Around) → AreAround [] K → C K
    by [] i = c
    by (a ∷ J) i = absurd i

pub gives_end : (m : Machine) (fs : List Frame) (v : values.Value) → m.frames ≡ [] → Leads m (frames.gives v) (record m { frames = fs }) (step_to.End End.Ended)
gives_end m fs v e = λ t K s k. outermost (λ K. Follows t m (frames.gives v) K s (step K (frames.gives v) s) (record m { frames = fs }) (step_to.End End.Ended)) m t K s e k (refl, nothing_more m)

pub leaves_end : (m : Machine) (fs : List Frame) (x : Exit) (v : values.Value) → m.frames ≡ [] → Leads m (frames.leaves x v) (record m { frames = fs }) (step_to.End End.Wrong)
leaves_end m fs x v e = λ t K s k. outermost (λ K. Follows t m (frames.leaves x v) K s (step K (frames.leaves x v) s) (record m { frames = fs }) (step_to.End End.Wrong)) m t K s e k (refl, nothing_more m)

pub leaves_hole : (m : Machine) (fs : List Frame) (h : Hole) (x : Exit) (v : values.Value) (y : Next) → m.frames ≡ fs ++ frame.Hole h ∷ [] → plain-Next y ≡ frames.leaves x v → Leads m (frames.leaves x v) (record m { frames = fs }) (step_to.Next y)
leaves_hole m fs h x v y e g = λ t K s k.
    innermost (λ K. Follows t m (frames.leaves x v) K s (step K (frames.leaves x v) s) (record m { frames = fs }) (step_to.Next y)) m t K s fs (frame.Hole h) e k (λ a J i r.
    subst (λ b. Follows t m (frames.leaves x v) (b ∷ J) s (step (b ∷ J) (frames.leaves x v) s) (record m { frames = fs }) (step_to.Next y)) (sym i) (without m t J s fs K k r, g, nothing_more m))

pub leaves_pass : (m : Machine) (fs : List Frame) (n : Bor Mark) (l : ℕ) (b : Bor Expr) (x : Exit) (v : values.Value) (y : Next) → m.frames ≡ fs ++ frame.Pass n l b ∷ [] → plain-Next y ≡ behind_pass (plain-Mark n.now) l (plain-Expr b.now) x v
    → Leads m (frames.leaves x v) (record m { frames = fs }) (step_to.Next y)
leaves_pass m fs n l b x v y e g = λ t K s k.
    innermost (λ K. Follows t m (frames.leaves x v) K s (step K (frames.leaves x v) s) (record m { frames = fs }) (step_to.Next y)) m t K s fs (frame.Pass n l b) e k (λ a J i r.
    subst (λ c. Follows t m (frames.leaves x v) (c ∷ J) s (step (c ∷ J) (frames.leaves x v) s) (record m { frames = fs }) (step_to.Next y)) (sym i) (without m t J s fs K k r, g, nothing_more m))

leave_frame : (m new : Machine) (t : ℕ) (s : State) (fs : List Frame) (S : Slots) (x : Exit) (v : values.Value) (to : Step) (a : Around) (J K : List Around) → Fits m t K s → LeavesCall (record m { frames = fs }) S x v new to → IsAround (frame.Call S) a
    → AreAround (reverse fs) J → Follows t m (frames.leaves x v) (a ∷ J) s (step (a ∷ J) (frames.leaves x v) s) new to
leave_frame m new t s fs S (returns n) v (step_to.Next y) (call_from F) J K k g i r =
    (subst (λ z. Fits z t J (record s { frame = F })) (sym g.0) (record { memory = k.memory; slots = i; input = k.input; turns = k.turns; frames = r }), g.1, ap (λ z. z.printed) g.0 ∙ nothing_more m)
leave_frame m new t s fs S (returns n) v (step_to.Turn u) (call_from F) J K k g i r = absurd g
leave_frame m new t s fs S (returns n) v (step_to.End e) (call_from F) J K k g i r = absurd g
leave_frame m new t s fs S (breaks n l) v (step_to.Next y) (call_from F) J K k g i r = absurd g
leave_frame m new t s fs S (breaks n l) v (step_to.Turn u) (call_from F) J K k g i r = absurd g
leave_frame m new t s fs S (breaks n l) v (step_to.End e) (call_from F) J K k g i r = (g.1, ap (λ z. z.printed) g.0 ∙ nothing_more m)
leave_frame m new t s fs S (continues n l) v (step_to.Next y) (call_from F) J K k g i r = absurd g
leave_frame m new t s fs S (continues n l) v (step_to.Turn u) (call_from F) J K k g i r = absurd g
leave_frame m new t s fs S (continues n l) v (step_to.End e) (call_from F) J K k g i r = (g.1, ap (λ z. z.printed) g.0 ∙ nothing_more m)
leave_frame m new t s fs S x v to (hole h) J K k g i r = absurd i
leave_frame m new t s fs S x v to (pass n l b) J K k g i r = absurd i

pub leaves_call : (m new : Machine) (fs : List Frame) (S : Slots) (x : Exit) (v : values.Value) (to : Step) → m.frames ≡ fs ++ frame.Call S ∷ [] → LeavesCall (record m { frames = fs }) S x v new to → Leads m (frames.leaves x v) new to
leaves_call m new fs S x v to e g = λ t K s k.
    innermost (λ K. Follows t m (frames.leaves x v) K s (step K (frames.leaves x v) s) new to) m t K s fs (frame.Call S) e k (λ a J i r. leave_frame m new t s fs S x v to a J K k g i r)

pub leaves_lead : (m new : Machine) (fs : List Frame) (f : Frame) (x : Exit) (v : values.Value) (to : Step) → m.frames ≡ fs ++ f ∷ [] → LeavesFrame (record m { frames = fs }) f x v new to → Leads m (frames.leaves x v) new to
leaves_lead m new fs (frame.Hole h) x v (step_to.Next y) e g = subst (λ z. Leads m (frames.leaves x v) z (step_to.Next y)) (sym g.0) (leaves_hole m fs h x v y e g.1)
leaves_lead m new fs (frame.Hole h) x v (step_to.Turn u) e g = absurd g
leaves_lead m new fs (frame.Hole h) x v (step_to.End r) e g = absurd g
leaves_lead m new fs (frame.Pass n l b) x v (step_to.Next y) e g = subst (λ z. Leads m (frames.leaves x v) z (step_to.Next y)) (sym g.0) (leaves_pass m fs n l b x v y e g.1)
leaves_lead m new fs (frame.Pass n l b) x v (step_to.Turn u) e g = absurd g
leaves_lead m new fs (frame.Pass n l b) x v (step_to.End r) e g = absurd g
leaves_lead m new fs (frame.Call S) x v to e g = leaves_call m new fs S x v to e g

-- ---- turns

-- one turn less
fewer : (m : Machine) (t : ℕ) (K : List Around) (s : State) → Fits m (suc t) K s → Fits m t K (with_turns s t)
fewer m t K s k = record { memory = k.memory; slots = k.slots; input = k.input; turns = refl; frames = k.frames }

turn_follows : (P : Functions) (m new : Machine) (t : ℕ) (K : List Around) (s : State) (x : frames.Next) (go : State → Led) (to : Step) → Fits m (suc t) K s → Follows t m x K s (go (with_turns s t)) new to → Follows t m x K s (with_turn s.turns s go) new to
turn_follows P m new t K s x go to k h = subst (λ n. Follows t m x K s (with_turn n s go) new to) (sym k.turns) h

pub pass_takes : (m : Machine) (n : Bor Mark) (l : ℕ) (b : Bor Expr) (fs : List Frame) (y : Next) → fs ≡ m.frames ++ frame.Pass n l b ∷ [] → plain-Next y ≡ frames.goes_into (plain-Expr b.now)
    → (P : Functions) → Takes P m (frames.loops (plain-Mark n.now) l (plain-Expr b.now)) (record m { frames = fs }) (step_to.Next y)
pass_takes m n l b fs y e g P = λ t K s k.
    turn_follows P m (record m { frames = fs }) t K s _ _ (step_to.Next y) k
    (pushed m t K (with_turns s t) (frame.Pass n l b) (pass (plain-Mark n.now) l (plain-Expr b.now)) fs e refl (fewer m t K s k), g, nothing_more m)

-- a call: the caller's slots wait in a frame
in_call : (m : Machine) (t : ℕ) (K : List Around) (s : State) (S : Slots) (fs : List Frame) (i : ℕ) → S.table.items ≡ [] → fs ≡ m.frames ++ frame.Call m.slots ∷ [] → Fits m t K s
    → Fits (record m { slots = S; frames = fs }) t (call_from s.frame ∷ K) (record s { frame = new_frame i })
in_call m t K s S fs i e h k = record {
  memory = k.memory;
  slots = tells_none S e;
  input = k.input;
  turns = k.turns;
  frames = subst (λ l. AreAround l (call_from s.frame ∷ K)) (sym (ap reverse h ∙ reverse-append m.frames (frame.Call m.slots ∷ []))) (k.slots, k.frames);
}

pub enters_done : (m new : Machine) (g : Function) (vs : List values.Value) (S : Slots) (fs : List Frame) (y : Next) → S.table.items ≡ [] → fs ≡ m.frames ++ frame.Call m.slots ∷ []
    → Changes (λ s. fill_all g.params vs s) (record m { slots = S; frames = fs }) new true → plain-Next y ≡ frames.goes_into g.body → Enters m g vs new (step_to.Next y)
enters_done m new g vs S fs y e h c d = λ t K s i k.
    let x : Came t (call_from s.frame ∷ K) new (λ u. Some u) (fill_all g.params vs (record s { frame = new_frame i })) = c.1 t (call_from s.frame ∷ K) (record s { frame = new_frame i }) (in_call m t K s S fs i e h k) in
    subst (λ o. Follows t m (frames.finishes (frames.calls i) vs) K s (or_wrong o (λ s1. goes [] (config (call_from s.frame ∷ K) (frames.goes_into g.body) s1))) new (step_to.Next y)) x.same (x.fits, d, c.0 ∙ nothing_more m)

pub enters_wrong : (m new : Machine) (g : Function) (vs : List values.Value) (S : Slots) (fs : List Frame) → S.table.items ≡ [] → fs ≡ m.frames ++ frame.Call m.slots ∷ []
    → Changes (λ s. fill_all g.params vs s) (record m { slots = S; frames = fs }) new false → Enters m g vs new (step_to.End End.Wrong)
enters_wrong m new g vs S fs e h c = λ t K s i k.
    subst (λ o. Follows t m (frames.finishes (frames.calls i) vs) K s (or_wrong o (λ s1. goes [] (config (call_from s.frame ∷ K) (frames.goes_into g.body) s1))) new (step_to.End End.Wrong))
    (sym (c.1 t (call_from s.frame ∷ K) (record s { frame = new_frame i }) (in_call m t K s S fs i e h k))) (refl, c.0 ∙ nothing_more m)

-- the state that waits is not looked at where the run goes on or ends
follows_turn : (m new : Machine) (t : ℕ) (K : List Around) (s : State) (x : frames.Next) (g : Function) (to : Step) (vs : List values.Value) (i : ℕ) → Follows t m x K (with_turns s t) (entered K i g vs (with_turns s t)) new to
    → Follows t m x K s (entered K i g vs (with_turns s t)) new to
follows_turn m new t K s x g to vs i h = by (fill_all g.params vs (record (with_turns s t) { frame = new_frame i })) to h
  where
    led : Option State → Led
    led o = or_wrong o (λ s1. goes [] (config (call_from s.frame ∷ K) (frames.goes_into g.body) s1))

    by : (o : Option State) (to : Step) → Follows t m x K (with_turns s t) (led o) new to → Follows t m x K s (led o) new to
    by None (step_to.Next y) h = h
    by None (step_to.Turn u) h = h
    by None (step_to.End e) h = h
    by (Some s1) (step_to.Next y) h = h
    by (Some s1) (step_to.Turn u) h = h
    by (Some s1) (step_to.End e) h = h

-- of the function of an item, where there is one
pub call_takes : (P : Functions) (m new : Machine) (i : ℕ) (g : Function) (vs : List values.Value) (to : Step) → IsFunction (element P i) (Some g) → Enters m g vs new to → Takes P m (frames.finishes (frames.calls i) vs) new to
call_takes P m new i g vs to e h = by (element P i) e
  where
    Took : Option (Option Function) → Type 0
    Took o = (t : ℕ) (K : List Around) (s : State) → Fits m (suc t) K s → Follows t m (frames.finishes (frames.calls i) vs) K s (called K i o vs s) new to

    by : (o : Option (Option Function)) → IsFunction o (Some g) → Took o
    by None e = cc
    by (Some None) e = cc
    by (Some (Some f)) e =
        let same : g ≡ f = cc in
        λ t K s k. turn_follows P m new t K s _ _ to k (subst (λ d. Follows t m (frames.finishes (frames.calls i) vs) K s (entered K i d vs (with_turns s t)) new to) same
        (follows_turn m new t K s _ g to vs i (h t K (with_turns s t) i (fewer m t K s k))))

pub call_wrong : (P : Functions) (m : Machine) (i : ℕ) (vs : List values.Value) → IsFunction (element P i) None → Takes P m (frames.finishes (frames.calls i) vs) m (step_to.End End.Wrong)
call_wrong P m i vs e = by (element P i) e
  where
    Took : Option (Option Function) → Type 0
    Took o = (t : ℕ) (K : List Around) (s : State) → Fits m (suc t) K s → Follows t m (frames.finishes (frames.calls i) vs) K s (called K i o vs s) m (step_to.End End.Wrong)

    by : (o : Option (Option Function)) → IsFunction o None → Took o
    by None e = λ t K s k. (refl, nothing_more m)
    by (Some None) e = λ t K s k. (refl, nothing_more m)
    by (Some (Some f)) e = cc
