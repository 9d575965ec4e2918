-- Steps at once: how far an expression comes, and what comes next then.
use Rattle.std.proofs.Common.{◌≡◌, ◌≤◌, ℕ, suc, ◌+◌, List, [], ◌∷◌, ◌++◌, refl, sym, ap, subst, ◌∙◌, arith}
use Rattle.std.proofs.Common.{Bor}
use Rattle.rx_typed.specs.Tree as tree
use Rattle.rx_typed.specs.declared.tree.Mark.{Mark}
use Rattle.rx_typed.specs.declared.tree.Expr.{Expr}
use Rattle.rx_typed.specs.PlainTree.{plain-Mark, plain-Expr}
use Rattle.rx_meaning.specs.Values as values
use Rattle.rx_meaning.specs.Values.{new_frame, State, with_memory, with_turns}
use Rattle.rx_meaning.specs.Results.{bind}
use Rattle.rx_meaning.specs.Expressions.{Functions}
use Rattle.rx_machine_running.specs.Running.{value, level}
use Rattle.rx_machine_values.specs.PlainMemory.{plain-Memory}
use Rattle.rx_machine_frames.specs.Frames as frames
use Rattle.rx_machine_frames.specs.Frames.{Around, hole, pass, does_next, resume, unwind}
use Rattle.rx_machine_frames.specs.Stepping.{goes, step, turn, config, means, with_turn}
use Rattle.rx_machine_frames.specs.Sizes.{size, size_body, hole_size, next_size}
use Rattle.rx_machine_frames.specs.Laws.{Keeps, Lessens}
use Rattle.rx_meaning.proofs.Sequences.{after_nothing, bind_on}
use Rattle.rx_machine_frames.proofs.Steps.{opened_is, opened_body_is, filled_is}
use Rattle.rx_machine_frames.proofs.StepLemmas.{step_keeps, step_less, turn_keeps}
use Rattle.rx_machine_direct.specs.Reaching.{Reach, into, statements, gave, Shows, reached, reach_size}
use Rattle.rx_machine_direct.specs.declared.reaching.Reached.{Reached}
use Rattle.rx_machine_direct.specs.PlainReached.{plain-Reached}
use Rattle.rx_machine_driver.specs.declared.next.Next.{Next}
use Rattle.rx_machine_driver.specs.declared.next.Hole.{Hole}
use Rattle.rx_machine_driver.specs.PlainSteps.{plain-Hole, plain-Next}
use Rattle.rx_machine_driver.specs.declared.data.Frame.{Frame}
use Rattle.rx_machine_driver.specs.declared.data.Frame.TheVariants as frame
use Rattle.rx_machine_driver.specs.declared.data.Machine.{Machine}
use Rattle.rx_machine_driver.specs.declared.data.Step.{Step}
use Rattle.rx_machine_driver.specs.declared.data.Step.TheVariants as step_to
use Rattle.rx_machine_driver.specs.declared.data.Turn.{Turn}
use Rattle.rx_machine_driver.specs.Fitting.{Fits, plain-Turn}
use Rattle.rx_machine_driver.specs.Running.{Leads, Takes, Reaches, Turns, Arrives, Begins}
use Rattle.rx_machine_driver.proofs.ActLemmas.{nothing_more}
use Rattle.rx_machine_driver.proofs.FrameLemmas.{pushed}

-- ---- one step, one turn

pub one_step : (old : Machine) (x : frames.Next) (new : Machine) (to : Step) → Leads old x new to → Reaches old x new to
one_step old x new to h = λ t K s f. (step K x s, (λ P n l. step_keeps P n K x s l, step_less K x s), h t K s f)

pub one_turn : (P : Functions) (old : Machine) (x : frames.Next) (new : Machine) (to : Step) → Takes P old x new to → Turns P old x new to
one_turn P old x new to h = λ t K s f. (turn P K x s, λ n l. turn_keeps P n K x s l, h t K s f)

pub reaches_next : (old : Machine) (x y : Next) (new : Machine) (to : Step) → x ≡ y → Reaches old (plain-Next y) new to → Reaches old (plain-Next x) new to
reaches_next old x y new to e h = subst (λ z. Reaches old (plain-Next z) new to) (sym e) h

-- ---- what comes next

no_state : State
no_state = record { memory = []; frame = new_frame 0; input = []; turns = 0 }

opened_size : (e : tree.Exp) → next_size (frames.opened e) ≤ size e
unfolding next_size
opened_size e = let k : Lessens (config [] (frames.goes_into e) no_state) (step [] (frames.goes_into e) no_state) = step_less [] (frames.goes_into e) no_state in omega (arith, k)

opened_body_size : (b : tree.Body) → next_size (frames.opened_body b) ≤ 1 + size_body b
unfolding next_size
opened_body_size b = let k : Lessens (config [] (frames.runs_body b) no_state) (step [] (frames.runs_body b) no_state) = step_less [] (frames.runs_body b) no_state in omega (arith, k)

filled_size : (h : frames.Hole) (v : values.Value) → next_size (frames.filled h v) ≤ hole_size h
unfolding next_size
filled_size h v = let k : Lessens (config (hole h ∷ []) (frames.gives v) no_state) (step (hole h ∷ []) (frames.gives v) no_state) = step_less (hole h ∷ []) (frames.gives v) no_state in omega (arith, k)

gives_size : (v : values.Value) → next_size (frames.gives v) ≤ 1
unfolding next_size
gives_size v = omega arith

pub begins_into : (e : tree.Exp) (y : frames.Next) → y ≡ frames.opened e → Begins (into e) y
begins_into e y h = subst (λ z. Begins (into e) z) (sym h) (λ P below s. opened_is P below e s, opened_size e)

pub begins_statements : (b : tree.Body) (y : frames.Next) → y ≡ frames.opened_body b → Begins (statements b) y
begins_statements b y h = subst (λ z. Begins (statements b) z) (sym h) (λ P below s. opened_body_is P below b s, opened_body_size b)

pub begins_gave : (v : values.Value) (y : frames.Next) → y ≡ frames.gives v → Begins (gave v) y
begins_gave v y h = subst (λ z. Begins (gave v) z) (sym h) (λ P below s. refl, gives_size v)

pub begins_where : (a b : Reached) (y : frames.Next) → a ≡ b → Begins (plain-Reached b) y → Begins (plain-Reached a) y
begins_where a b y e h = subst (λ r. Begins (plain-Reached r) y) (sym e) h

-- ---- where the machine is then

shows : (m : Machine) (t : ℕ) (K : List Around) (s : State) → Fits m t K s → Shows m.slots.table.items (plain-Memory m.memory) s
shows m t K s f = (sym f.memory, f.slots)

arrived : (old : Machine) (e : tree.Exp) (new : Machine) (r : Reach) (t u : ℕ) (K : List Around) (s : State) → Arrives old e new r → Fits old u K s → s.turns ≡ t → Fits new t K (with_memory s (plain-Memory new.memory))
arrived old e new r t u K s a f h = subst (λ z. Fits z t K (with_memory s (plain-Memory new.memory))) (sym a.0) (record { memory = refl; slots = f.slots; input = f.input; turns = h; frames = f.frames })

printed : (old : Machine) (e : tree.Exp) (new : Machine) (r : Reach) → Arrives old e new r → new.printed ≡ old.printed ++ []
printed old e new r a = ap (λ (z : Machine). z.printed) a.0 ∙ nothing_more old

-- an expression
pub arrives_next : (old : Machine) (e : tree.Exp) (new : Machine) (r : Reach) (y : Next) → Arrives old e new r → Begins r (plain-Next y) → Reaches old (frames.goes_into e) new (step_to.Next y)
unfolding means next_size
arrives_next old e new r y a b = λ t K s f.
    let s1 : State = with_memory s (plain-Memory new.memory) in
    let x : next_size (plain-Next y) ≤ reach_size r = b.1 in
    let z : reach_size r ≤ size e = a.1.1 in (
      goes [] (config K (plain-Next y) s1),
      (λ P n l. ap (unwind P (level P n) K) (a.1.0 P (level P n) s (shows old t K s f) ∙ b.0 P (level P n) s1) ∙ sym (after_nothing _), omega (arith, x, z)),
      (arrived old e new r t t K s a f f.turns, refl, printed old e new r a),
    )

-- a part that was given
pub part_given : (old : Machine) (h : Hole) (e : tree.Exp) (new : Machine) (r : Reach) (v : values.Value) (y : Next) → Arrives old e new r → r ≡ gave v → plain-Next y ≡ frames.filled (plain-Hole h) v
    → Reaches old (frames.part (plain-Hole h) e) new (step_to.Next y)
unfolding means next_size
part_given old h e new r v y a i k = λ t K s f.
    let s1 : State = with_memory s (plain-Memory new.memory) in
    let H : frames.Hole = plain-Hole h in
    let x : next_size (frames.filled H v) ≤ hole_size H = filled_size H v in (
      goes [] (config K (frames.filled H v) s1),
      (
        λ P n l.
            ap (λ q. unwind P (level P n) K (bind q (λ v s1. resume P (level P n) H v s1))) (a.1.0 P (level P n) s (shows old t K s f) ∙ ap (λ q. reached P (level P n) q s1) i)
            ∙ ap (unwind P (level P n) K) (bind_on v s1 (λ v s1. resume P (level P n) H v s1) ∙ filled_is P (level P n) H v s1) ∙ sym (after_nothing _),
        omega (arith, x),
      ),
      (arrived old e new r t t K s a f f.turns, k, printed old e new r a),
    )

-- a part that comes, while its form waits
pub part_pushed : (old : Machine) (h : Hole) (e : tree.Exp) (new : Machine) (r : Reach) (fs : List Frame) (y : Next) → Arrives old e new r → Begins r (plain-Next y) → fs ≡ new.frames ++ frame.Hole h ∷ []
    → Reaches old (frames.part (plain-Hole h) e) (record new { frames = fs }) (step_to.Next y)
unfolding means next_size unwind
part_pushed old h e new r fs y a b k = λ t K s f.
    let s1 : State = with_memory s (plain-Memory new.memory) in
    let H : frames.Hole = plain-Hole h in
    let x : next_size (plain-Next y) ≤ reach_size r = b.1 in
    let z : reach_size r ≤ size e = a.1.1 in (
      goes [] (config (hole H ∷ K) (plain-Next y) s1),
      (
        λ P n l. ap (λ q. unwind P (level P n) K (bind q (λ v s1. resume P (level P n) H v s1))) (a.1.0 P (level P n) s (shows old t K s f) ∙ b.0 P (level P n) s1) ∙ sym (after_nothing _),
        omega (arith, x, z),
      ),
      (pushed new t K s1 (frame.Hole h) (hole H) fs k refl (arrived old e new r t t K s a f f.turns), refl, printed old e new r a),
    )

-- ---- passes

-- what a pass is where its body came so far
pass_keeps : (P : Functions) (n t : ℕ) (K : List Around) (m : tree.Mark) (l : ℕ) (e : tree.Exp) (s : State) → s.turns ≡ suc t → s.turns ≤ n
    → means P n (config K (frames.loops m l e) s) ≡ means P n (config (pass m l e ∷ K) (frames.goes_into e) (with_turns s t))
pass_keeps P n t K m l e s h k =
    subst (λ j. Keeps P n (config K (frames.loops m l e) s) (with_turn j s (λ s1. goes [] (config (pass m l e ∷ K) (frames.goes_into e) s1)))) h (turn_keeps P n K (frames.loops m l e) s k)
    ∙ after_nothing _

body_comes : (P : Functions) (n : ℕ) (K : List Around) (e : tree.Exp) (s s1 : State) (r : Reach) (y : frames.Next) → value P (level P n) e s ≡ reached P (level P n) r s1 → Begins r y
    → means P n (config K (frames.goes_into e) s) ≡ means P n (config K y s1)
unfolding means
body_comes P n K e s s1 r y h b = ap (unwind P (level P n) K) (h ∙ b.0 P (level P n) s1)

pub pass_given : (old : Machine) (m : Bor Mark) (l : ℕ) (e : Bor Expr) (new : Machine) (r : Reach) (v : values.Value) (u : Turn) → Arrives old (plain-Expr e.now) new r → r ≡ gave v
    → plain-Turn u ≡ frames.loops (plain-Mark m.now) l (plain-Expr e.now) → (P : Functions) → Turns P old (frames.loops (plain-Mark m.now) l (plain-Expr e.now)) new (step_to.Turn u)
pass_given old m l e new r v u a i k P = λ t K s f.
    let M : tree.Mark = plain-Mark m.now in
    let E : tree.Exp = plain-Expr e.now in
    let s1 : State = with_turns s t in
    let s2 : State = with_memory s1 (plain-Memory new.memory) in
    let b : Begins r (frames.gives v) = subst (λ q. Begins q (frames.gives v)) (sym i) (begins_gave v (frames.gives v) refl) in
    let g : s.turns ≡ suc t = f.turns in (
      goes [] (config K (frames.loops M l E) s2),
      λ n le.
          pass_keeps P n t K M l E s g le
          ∙ body_comes P n (pass M l E ∷ K) E s1 s2 r (frames.gives v) (a.1.0 P (level P n) s1 (sym f.memory, f.slots)) b
          ∙ step_keeps P n (pass M l E ∷ K) (frames.gives v) s2 (omega (arith, g, le)),
      (arrived old E new r t t K s1 a (record { memory = f.memory; slots = f.slots; input = f.input; turns = refl; frames = f.frames }) refl, k, printed old E new r a),
    )

pub pass_pushed : (old : Machine) (m : Bor Mark) (l : ℕ) (e : Bor Expr) (new : Machine) (r : Reach) (fs : List Frame) (y : Next) → Arrives old (plain-Expr e.now) new r → Begins r (plain-Next y) → fs ≡ new.frames ++ frame.Pass m l e ∷ []
    → (P : Functions) → Turns P old (frames.loops (plain-Mark m.now) l (plain-Expr e.now)) (record new { frames = fs }) (step_to.Next y)
pass_pushed old m l e new r fs y a b k P = λ t K s f.
    let M : tree.Mark = plain-Mark m.now in
    let E : tree.Exp = plain-Expr e.now in
    let s1 : State = with_turns s t in
    let s2 : State = with_memory s1 (plain-Memory new.memory) in
    let g : s.turns ≡ suc t = f.turns in (
      goes [] (config (pass M l E ∷ K) (plain-Next y) s2),
      λ n le.
          pass_keeps P n t K M l E s g le
          ∙ body_comes P n (pass M l E ∷ K) E s1 s2 r (plain-Next y) (a.1.0 P (level P n) s1 (sym f.memory, f.slots)) b
          ∙ sym (after_nothing _),
      (pushed new t K s2 (frame.Pass m l e) (pass M l E) fs k refl (arrived old E new r t t K s1 a (record { memory = f.memory; slots = f.slots; input = f.input; turns = refl; frames = f.frames }) refl), refl, printed old E new r a),
    )
