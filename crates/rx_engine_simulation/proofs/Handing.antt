-- The caller goes on with values of the text's variables that it is handed, while the text stands still: each is in a variable of the
-- answer then, and both states keep what they keep.
use Rattle.std.proofs.Common.{◌≡◌, ℕ, suc, ◌+◌, ◌≤◌, Bool, true, false, ◌&&◌, nat_eq, List, [], ◌∷◌, length, Some, None, refl, sym, ap, ◌∙◌, subst, arith, le_refl, ◌⊎◌, inl, inr, if◌then◌else◌, eqb-true}
use Rattle.rx_typed.specs.Tree as tree
use Rattle.rx_typed.specs.Tree.{Mark, Exp, Subpatterns, Body, Temporary, own, temporary_of}
use Rattle.rx_lower_walks.specs.Actions.{Write, Action, does, in_temporary}
use Rattle.rx_lower_walks.specs.Matching.{bindings, bindings_in}
use Rattle.rx_meaning.specs.Straying.{why_not_found, why_not_written}
use Rattle.rx_meaning.specs.Values.{Value, Values, value_and, are_set, unit_value, is_set, and_then, put, element, with_element, slot_of, State, with_memory, Frame, lacking, unset}
use Rattle.rx_meaning.specs.Results as results
use Rattle.rx_meaning.specs.Results.{or_ends, Result, on, bind, result_of}
use Rattle.rx_meaning.specs.Places.{in_slot, after_write}
use Rattle.rx_meaning.specs.Acting.{performed, plainly}
use Rattle.rx_meaning.specs.Patterns.{bound}
use Rattle.rx_meaning.specs.Expressions.{Functions, Meaning, value, body}
use Rattle.rx_meaning.proofs.Sequences.{bind_on, bind_bind, bind_same}
use Rattle.rx_engine_simulation.specs.Arrivals.{Aim, Arrives, IsUnlent, Within, AreReady, none_ready, ready_and}
use Rattle.rx_engine_simulation.specs.Packing.{bare, Takes, AreNew}
use Rattle.rx_engine_simulation.specs.Handing.{Receiving, received_none, received_and, PuttingBack, puts_none, stays_there, puts_and, Using, drops, assigns, declares, spreads, Redeclaring, redeclares_none, redeclares_and}
use Rattle.rx_engine_simulation.proofs.Memory.{put_same, put_other, length_put, at_end, at_below, length_more}
use Rattle.rx_engine_simulation.proofs.Values.{fixed, Pair, In, LikeValue, set_same}
use Rattle.rx_engine_simulation.proofs.States.{Facts, Living, Borrowed, How, plain, special, through, copied, viewed, absent, Sight, sight, Renaming, sight_of, Frozen, Thawed, SameAt, IsSpecial, Binding, StatesAlike, Grown, grown_refl, grown_trans}
use Rattle.rx_engine_simulation.proofs.Keeping.{same_to}
use Rattle.rx_engine_simulation.proofs.Results.{Outs, no_outs, out_and}
use Rattle.rx_engine_simulation.proofs.Declaring.{IsNew, ne_false, new_slot}
use Rattle.rx_engine_simulation.proofs.Writes.{spot_own, exists_at}
use Rattle.rx_engine_simulation.proofs.Patterns.{seen_new}
use Rattle.rx_engine_simulation.proofs.Entry.{with_value, states_given}
use Rattle.rx_engine_simulation.proofs.Contexts.{older}
use Rattle.rx_engine_simulation.proofs.Locals.{one_local}
use Rattle.rx_engine_simulation.proofs.Packing.{packed, listed, Holding, holds_none, holds_and, takes_is, Beside, beside_none, beside_and, with_all, Apart, all_slot, held_put, let_is, spread_is, all_held}

some_same : {A : Type 0} {a b : A} → Some a ≡ Some b → a ≡ b
some_same e = cc

none_some : {A : Type 0} {a : A} → None ≡ Some a → ⊥
none_some e = cc

-- ---- further slots of the answer

-- fewer variables
pub states_within : (V : Facts) (R R0 : Renaming) (Z Z' : Frozen) (h : List Action) (j : List Pair) (s s' : State) → Within R0 R → StatesAlike V R Z Z' h j s s' → StatesAlike V R0 Z Z' h j s s'
states_within V R R0 Z Z' h j s s' within inv = record {
  input = inv.input;
  paired = inv.paired;
  framed = inv.framed;
  framed' = inv.framed';
  names = λ x y e f a b g. inv.names x y e f (within x e a) (within y f b) g;
  binds = λ x e f. inv.binds x e (within x e f);
  written = inv.written;
  slotted = inv.slotted;
  anchors = inv.anchors;
}

pub given_grown : (j : List Pair) (t s : State) (z : ℕ) (v : Value) → Grown j t s j t (with_value z v s)
given_grown j t s z v = record {
  more = λ p k. k;
  fresh = λ q k. inl k;
  fresh' = λ q k. inl k;
  long = le_refl _;
  long' = omega (arith, length_more s.memory v);
  scope = λ x i e. inl e;
  scope' = λ u i e. new_scope u i (nat_eq u z) e;
  sets = λ i e. e;
  fewer = le_refl _;
  fewer' = le_refl _;
}
  where
    new_scope : (u i : ℕ) (b : Bool) → (if b then Some (length s.memory) else slot_of s.frame.slots u) ≡ Some i → (slot_of s.frame.slots u ≡ Some i) ⊎ (length s.memory ≤ i)
    new_scope u i true e = let f : length s.memory ≡ i = some_same e in inr (omega arith)
    new_scope u i false e = inl e

-- a number that no variable has
abbrev unnamed : Renaming → ℕ
unnamed [] = 0
unnamed (b ∷ bs) = suc (b.0 + unnamed bs)

unnamed_is : (R : Renaming) (x : ℕ) → unnamed R ≤ x → sight_of R x ≡ None
unnamed_is [] x le = refl
unnamed_is (b ∷ bs) x le =
    let more : suc (b.0 + unnamed bs) ≤ x = le in
    ap (λ c. if c then Some b.1 else sight_of bs x) (ne_false b.0 x (λ e. absurd (omega (arith, more, e)))) ∙ unnamed_is bs x (omega (arith, more))

pub states_beside : (V : Facts) (R : Renaming) (Z Z' : Frozen) (h : List Action) (j : List Pair) (t s' : State) (z : ℕ) (v : Value) → IsNew R z → StatesAlike V R Z Z' h j t s' → StatesAlike V R Z Z' h j t (with_value z v s')
states_beside V R Z Z' h j t s' z v unused inv =
    let x = unnamed R in
    let none : sight_of R x ≡ None = unnamed_is R x (le_refl x) in
    states_within V ((x, sight z absent) ∷ R) R Z Z' h j t (with_value z v s') (λ u e f. older R x u (sight z absent) e none f)
    (states_given V R Z Z' x z v h j t s' inv unused none Z' (λ k w q. q) (λ k w q. inl q) absent tt)

pub states_beside_all : (V : Facts) (R : Renaming) (Z Z' : Frozen) (h : List Action) (j : List Pair) (t : State) {qs : List ℕ} {ws : List Value} → Beside qs ws → AreNew R qs → (s' : State) → StatesAlike V R Z Z' h j t s' → StatesAlike V R Z Z' h j t (with_all qs ws s')
states_beside_all V R Z Z' h j t beside_none new s' inv = inv
states_beside_all V R Z Z' h j t (beside_and {q = q} {w = w} set b) new s' inv = states_beside_all V R Z Z' h j t b new.2 (with_value q w s') (states_beside V R Z Z' h j t s' q w new.0 inv)

pub grown_all : {qs : List ℕ} {ws : List Value} → Beside qs ws → (j : List Pair) (t s : State) → Grown j t s j t (with_all qs ws s)
grown_all beside_none j t s = grown_refl j t s
grown_all (beside_and {q = q} {w = w} set b) j t s = grown_trans j j j t s t (with_value q w s) t _ (given_grown j t s q w) (grown_all b j t (with_value q w s))

pub turns_all : {qs : List ℕ} {ws : List Value} → Beside qs ws → (s : State) → (with_all qs ws s).turns ≡ s.turns
turns_all beside_none s = refl
turns_all (beside_and {q = q} {w = w} set b) s = turns_all b (with_value q w s)

pub all_new : (R : Renaming) (qs : List ℕ) → AreNew R qs → (q : ℕ) → In q qs → IsNew R q
all_new R (p ∷ qs) n q (inl e) = subst (λ q. IsNew R q) (sym e) n.0
all_new R (p ∷ qs) n q (inr i) = all_new R qs n.2 q i
all_new R [] n q i = absurd i

pub received_new : {R Rc Ra : Renaming} {xs os : List ℕ} → Receiving R Rc xs os Ra → (o : ℕ) → In o os → IsNew R o
received_new received_none o i = absurd i
received_new {R} (received_and none new new_c r) o (inl e) = subst (λ o. IsNew R o) (sym e) new
received_new (received_and none new new_c r) o (inr i) = received_new r o i

received_other : {R Rc Ra : Renaming} {xs os : List ℕ} → Receiving R Rc xs os Ra → (x o : ℕ) → sight_of Rc x ≡ Some (sight o special) → In o os → ⊥
received_other received_none x o seen i = i
received_other (received_and none new new_c r) x o seen (inl e) = new_c x (sight o special) seen e
received_other {Rc = Rc} (received_and {x = u} {o = p} none new new_c r) x o seen (inr i) = received_other r x o (older Rc u x (sight p special) (sight o special) none seen) i

pub received_apart : {R Rc Ra : Renaming} {xs os : List ℕ} → Receiving R Rc xs os Ra → Apart os
received_apart received_none = tt
received_apart {Rc = Rc} (received_and {x = x} {o = o} none new new_c r) = (λ i. received_other r x o (seen_new x (sight o special) Rc) i, received_apart r)

-- ---- what is known of variables that are handed

module _ (V : Facts) (Z : Frozen) (h : List Action) (j : List Pair) (t : State) where
  -- of one that is elsewhere
  pub record Standing (x : ℕ) : Type 0 where
    pub left : ℕ
    pub at_text : slot_of t.frame.slots x ≡ Some left
    pub is_one : V.Special x
    pub thawed : Thawed Z left
    pub touched : (q : Pair) → In q j → q.left ≡ left → (q.hold ≡ fixed) × Borrowed h x

  -- and its value in the answer
  pub record Fit (x : ℕ) (w : Value) : Type 0 where
    pub standing : Standing x
    pub text : Value
    pub has_text : element t.memory standing.left ≡ Some text
    pub like : LikeValue j text w
    pub set : is_set w ≡ true

  pub data AllFit : List ℕ → List Value → Type 0 where
    none_fit : AllFit [] []
    fit_and : {x : ℕ} {w : Value} {xs : List ℕ} {ws : List Value} → Fit x w → AllFit xs ws → AllFit (x ∷ xs) (w ∷ ws)

  pub fit_beside : {xs os : List ℕ} {ws : List Value} {R Rc Ra : Renaming} → AllFit xs ws → Receiving R Rc xs os Ra → Beside os ws
  fit_beside none_fit received_none = beside_none
  fit_beside (fit_and f fs) (received_and none new new_c r) = beside_and f.set (fit_beside fs r)

pub fit_thaw_all : (V : Facts) (Z Zs : Frozen) (h : List Action) (j : List Pair) (t : State) → ((i : ℕ) (v : Value) → Z.kept i v → Zs.kept i v) → {xs : List ℕ} {ws : List Value} → AllFit V Zs h j t xs ws → AllFit V Z h j t xs ws
fit_thaw_all V Z Zs h j t wider none_fit = none_fit
fit_thaw_all V Z Zs h j t wider (fit_and f fs) =
    fit_and (record { standing = record { left = f.standing.left; at_text = f.standing.at_text; is_one = f.standing.is_one; thawed = λ v q. f.standing.thawed v (wider f.standing.left v q); touched = f.standing.touched }; text = f.text; has_text = f.has_text; like = f.like; set = f.set })
    (fit_thaw_all V Z Zs h j t wider fs)

-- variables that are ready where the text has arrived have their values
module _ (V : Facts) (R : Renaming) (Z Z' : Frozen) (h : List Action) (j : List Pair) (s s' : State) (inv : StatesAlike V R Z Z' h j s s') where
  pub record ReadyValues (xs zs : List ℕ) : Type 0 where
    pub ws : List Value
    pub holding : Holding s' zs ws
    pub fits : AllFit V Z h j s xs ws
    pub many : length zs ≡ length xs

  pub ready_values : {a : Aim} {xs zs : List ℕ} → AreReady V R a xs zs → Arrives V a h → ReadyValues xs zs
  ready_values none_ready arrived = record { ws = []; holding = holds_none; fits = none_fit; many = refl }
  ready_values (ready_and {x = x} {z = z} seen ready r) arrived =
      let b : IsSpecial V Z Z' h j s.frame s'.frame s.memory s'.memory x z = inv.binds x (sight z special) seen in
      let l = ready h arrived in
      let out = b.same l.0 in
      let w = inv.written x b.left b.at_text l.1 in
      let set : is_set out.answer ≡ true = sym (set_same out.like) ∙ ap is_set (some_same (sym out.at_text ∙ w.1)) ∙ w.2 in
      let next = ready_values r arrived in
      record {
        ws = out.answer ∷ next.ws;
        holding = holds_and b.at_answer out.at_answer set next.holding;
        fits = fit_and (record { standing = record { left = b.left; at_text = b.at_text; is_one = b.is_one; thawed = b.thawed; touched = b.touched }; text = out.text; has_text = out.at_text; like = out.like; set = set }) next.fits;
        many = ap suc next.many;
      }

-- ---- what a jump hands out

pub outs_of : (V : Facts) (Z : Frozen) (h : List Action) (j : List Pair) (t : State) {xs : List ℕ} {ws : List Value} → AllFit V Z h j t xs ws → Outs j t xs (listed ws)
outs_of V Z h j t none_fit = no_outs
outs_of V Z h j t (fit_and f fs) = out_and f.standing.at_text f.has_text f.like (outs_of V Z h j t fs)

pub outs_set : (V : Facts) (Z : Frozen) (h : List Action) (j : List Pair) (t : State) {xs : List ℕ} {ws : List Value} → AllFit V Z h j t xs ws → are_set (listed ws) ≡ true
outs_set V Z h j t none_fit = refl
outs_set V Z h j t (fit_and {ws = ws} f fs) = ap (λ b. b && are_set (listed ws)) f.set ∙ outs_set V Z h j t fs

both_left : (a b : Bool) → (a && b) ≡ true → a ≡ true
both_left true b e = refl
both_left false b e = e

both_right : (a b : Bool) → (a && b) ≡ true → b ≡ true
both_right true b e = e
both_right false b e = absurd (cc)

pub record FitOuts (V : Facts) (Z : Frozen) (h : List Action) (j : List Pair) (t : State) (xs : List ℕ) (us : Values) : Type 0 where
  pub ws : List Value
  pub same : us ≡ listed ws
  pub fits : AllFit V Z h j t xs ws

pub fit_outs : (V : Facts) (Z : Frozen) (h : List Action) (j : List Pair) (t : State) {xs : List ℕ} {us : Values} → Outs j t xs us → are_set us ≡ true → ((x : ℕ) → In x xs → Standing V Z h j t x) → FitOuts V Z h j t xs us
fit_outs V Z h j t no_outs set stand = record { ws = []; same = refl; fits = none_fit }
fit_outs V Z h j t (out_and {x = x} {i = i} {v = v} {w = w} {ws = us} at_slot at_v like o) set stand =
    let k = stand x (inl refl) in
    let next = fit_outs V Z h j t o (both_right (is_set w) (are_set us) set) (λ x i. stand x (inr i)) in
    let here : k.left ≡ i = some_same (sym k.at_text ∙ at_slot) in
    record {
      ws = w ∷ next.ws;
      same = ap (λ us. value_and w us) next.same;
      fits = fit_and (record { standing = k; text = v; has_text = ap (λ i. element t.memory i) here ∙ at_v; like = like; set = both_left (is_set w) (are_set us) set }) next.fits;
    }

-- a variable goes to one of the answer, whose slot is written
module _ (V : Facts) (R : Renaming) (Z Z' : Frozen) (x z k : ℕ) (h : List Action) (j : List Pair) (s s' : State) (inv : StatesAlike V R Z Z' h j s s') (w : Value) (fit : Fit V Z h j s x w) (at : slot_of s'.frame.slots z ≡ Some k) (unused : IsNew R z) (thawed' : Thawed Z' k)
    (unpaired : (q : Pair) → In q j → q.right ≡ k → ⊥) (old : Value) (at_k : element s'.memory k ≡ Some old) where
  abbrev N' : List Value
  N' = with_element s'.memory k w

  kept : (i n : ℕ) → (n ≡ k → ⊥) → SameAt j s.memory s'.memory i n → SameAt j s.memory N' i n
  kept i n f a = same_to (λ p m. m) refl (put_other s'.memory k n w f) a

  other_slot : (u v n : ℕ) (how : How) → sight_of R u ≡ Some (sight v how) → slot_of s'.frame.slots v ≡ Some n → n ≡ k → ⊥
  other_slot u v n how seen f e = unused u (sight v how) seen (inv.framed'.apart v z n f (at ∙ ap Some (sym e)))

  kept_bound : (u v : ℕ) (how : How) → sight_of R u ≡ Some (sight v how) → Binding V Z Z' h j s.frame s'.frame s.memory s'.memory u v how → Binding V Z Z' h j s.frame s'.frame s.memory N' u v how
  kept_bound u v special seen a = record {
    left = a.left;
    right = a.right;
    at_text = a.at_text;
    at_answer = a.at_answer;
    is_one = a.is_one;
    thawed = a.thawed;
    thawed' = a.thawed';
    same = λ l. kept a.left a.right (other_slot u v a.right special seen a.at_answer) (a.same l);
    touched = a.touched;
    touched' = a.touched';
  }
  kept_bound u v (plain g) seen a = a
  kept_bound u v (through g m) seen a = a
  kept_bound u v copied seen a = a
  kept_bound u v viewed seen a = a
  kept_bound u v absent seen a = a

  now_here : IsSpecial V Z Z' h j s.frame s'.frame s.memory N' x z
  now_here = record {
    left = fit.standing.left;
    right = k;
    at_text = fit.standing.at_text;
    at_answer = at;
    is_one = fit.standing.is_one;
    thawed = fit.standing.thawed;
    thawed' = thawed';
    same = λ l. record { text = fit.text; answer = w; at_text = fit.has_text; at_answer = put_same s'.memory k old w at_k; like = fit.like };
    touched = fit.standing.touched;
    touched' = λ q m e. absurd (unpaired q m e);
  }

  binds_on : (u : ℕ) (e : Sight) (c : Bool) → nat_eq u x ≡ c → (if c then Some (sight z special) else sight_of R u) ≡ Some e → Binding V Z Z' h j s.frame s'.frame s.memory N' u e.to e.how
  binds_on u e true f g =
      subst (λ (e : Sight). Binding V Z Z' h j s.frame s'.frame s.memory N' u e.to e.how) (some_same g) (subst (λ u. IsSpecial V Z Z' h j s.frame s'.frame s.memory N' u z) (sym (eqb-true u x f)) now_here)
  binds_on u e false f g = kept_bound u e.to e.how g (inv.binds u e g)

  names_on : (u v : ℕ) (e f : Sight) (c d : Bool) → nat_eq u x ≡ c → nat_eq v x ≡ d → (if c then Some (sight z special) else sight_of R u) ≡ Some e → (if d then Some (sight z special) else sight_of R v) ≡ Some f → e.to ≡ f.to → u ≡ v
  names_on u v e f true true p q a c g = eqb-true u x p ∙ sym (eqb-true v x q)
  names_on u v e f true false p q a c g = absurd (unused v f c (sym g ∙ sym (ap (λ (e : Sight). e.to) (some_same a))))
  names_on u v e f false true p q a c g = absurd (unused u e a (g ∙ sym (ap (λ (e : Sight). e.to) (some_same c))))
  names_on u v e f false false p q a c g = inv.names u v e f a c g

  pub states_put : StatesAlike V ((x, sight z special) ∷ R) Z Z' h j s (with_memory s' (with_element s'.memory k w))
  states_put = record {
    input = inv.input;
    paired = record {
      same = λ q m. kept q.left q.right (unpaired q m) (inv.paired.same q m);
      once = inv.paired.once;
      once' = inv.paired.once';
      frozen = inv.paired.frozen;
      frozen' = λ i v f. put_other s'.memory k i w (λ e. thawed' v (subst (λ n. Z'.kept n v) e f)) ∙ inv.paired.frozen' i v f;
      thawed = inv.paired.thawed;
      thawed' = inv.paired.thawed';
    };
    framed = inv.framed;
    framed' = record { below = λ u n e. let l = inv.framed'.below u n e in omega (arith, l, length_put s'.memory k w); apart = inv.framed'.apart };
    names = λ u v e f p q. names_on u v e f (nat_eq u x) (nat_eq v x) refl refl p q;
    binds = λ u e f. binds_on u e (nat_eq u x) refl f;
    written = inv.written;
    slotted = inv.slotted;
    anchors = inv.anchors;
  }

  pub grown_put : Grown j s s' j s (with_memory s' (with_element s'.memory k w))
  grown_put = record {
    more = λ p m. m;
    fresh = λ q m. inl m;
    fresh' = λ q m. inl m;
    long = le_refl _;
    long' = omega (arith, length_put s'.memory k w);
    scope = λ u n e. inl e;
    scope' = λ u n e. inl e;
    sets = λ n e. e;
    fewer = le_refl _;
    fewer' = le_refl _;
  }

pub assign_is : (n y k : ℕ) (t : Temporary) (s : State) (v old : Value) → slot_of s.frame.slots y ≡ Some k → element s.memory k ≡ Some old → performed plainly (does n (Write (own y) t [])) (v ∷ []) s ≡ on [] unit_value (with_memory s (with_element s.memory k v))
unfolding result_of
assign_is n y k t s v old e f =
    ap (λ o. result_of (or_ends (why_not_found (own y) [] s) o (λ at. or_ends (why_not_written s.memory at) (after_write v s.memory at) (λ M. results.gives [] unit_value (with_memory s M))))) (spot_own y k s e)
    ∙ ap (λ o. result_of (or_ends (why_not_written s.memory (in_slot k [] true)) (and_then o (λ u. and_then (put [] v u) (λ x. Some (with_element s.memory k x)))) (λ M. results.gives [] unit_value (with_memory s M)))) f

module _ (Q : Functions) (low : Meaning ℕ) where
  -- what is done with what the call gives
  abbrev pub used : {V : Facts} {R : Renaming} {block : Body} {e : Exp} {Rs Rr : Renaming} {xs : List ℕ} {g : Body → Body} → Using V R block e Rs xs Rr g → Temporary → Body → ℕ → Temporary → Value → State → Result ℕ Value
  used drops tc b i t u s = body plainly Q low b i t s
  used (assigns {y = y} {m = m} none new seen unlent) tc b i t u s = bind (performed plainly (does m.node (Write (own y) tc [])) (u ∷ []) s) (λ v s2. body plainly Q low b i t s2)
  used (declares {y = y} {k = k} {mutable = mutable} r) tc b i t u s = bound plainly (in_temporary tc) (u ∷ []) (bindings [] (tree.bind k y (tree.by_value mutable))) i (λ s2. body plainly Q low b i t s2) s
  used (spreads {ps = ps} {g = g} r a p) tc b i t u s = bound plainly (in_temporary tc) (u ∷ []) (bindings_in [] ps) i (λ s2. body plainly Q low (g b) i t s2) s

  pub used_is : {V : Facts} {R : Renaming} {block : Body} {e : Exp} {Rs Rr : Renaming} {xs : List ℕ} {g : Body → Body} → (U : Using V R block e Rs xs Rr g) → (b : Body) (i : ℕ) (t : Temporary) (s : State) → body plainly Q low (g b) i t s ≡ bind (value plainly Q low e (temporary_of e) s) (λ u s1. used U (temporary_of e) b i t u s1)
  unfolding value
  used_is drops b i t s = refl
  used_is {e = e} (assigns none new seen unlent) b i t s = bind_bind (value plainly Q low e (temporary_of e) s) _ _
  used_is {e = e} (declares r) b i t s = bind_bind (value plainly Q low e (temporary_of e) s) _ _ ∙ bind_same (value plainly Q low e (temporary_of e) s) _ _ _ refl (λ v s1. bind_on (v ∷ []) s1 _)
  used_is {e = e} (spreads r a p) b i t s = bind_bind (value plainly Q low e (temporary_of e) s) _ _ ∙ bind_same (value plainly Q low e (temporary_of e) s) _ _ _ refl (λ v s1. bind_on (v ∷ []) s1 _)

-- ---- receiving, putting back, declaring anew

module _ (Q : Functions) (low : Meaning ℕ) (V : Facts) (Z Z' : Frozen) (R : Renaming) (block : Body) (h : List Action) (j : List Pair) (t : State) where
  receive_one : (Rc : Renaming) (left : State) (x o : ℕ) (w : Value) → StatesAlike V Rc Z Z' h j t left → sight_of Rc x ≡ None → IsNew Rc o → (k : Standing V Z h j t x) → (Living V x h → (u : Value) × (element t.memory k.left ≡ Some u) × LikeValue j u w)
      → StatesAlike V ((x, sight o special) ∷ Rc) Z Z' h j t (with_value o w left)
  receive_one Rc left x o w st none unused k like = states_given V Rc Z Z' x o w h j t left st unused none Z' (λ k w q. q) (λ k w q. inl q) special (record {
    left = k.left;
    right = length left.memory;
    at_text = k.at_text;
    at_answer = new_slot o (length left.memory) left.frame.slots;
    is_one = k.is_one;
    thawed = k.thawed;
    thawed' = λ v q. let b = at_below left.memory (length left.memory) v (st.paired.frozen' (length left.memory) v q) in absurd (omega arith);
    same = λ l. let a = like l in record { text = a.0; answer = w; at_text = a.1; at_answer = at_end left.memory w; like = a.2 };
    touched = k.touched;
    touched' = λ q k e. let b = st.paired.same q k in let f = at_below left.memory q.right b.answer b.at_answer in absurd (omega arith);
  })

  pub receive : {Rc Ra : Renaming} {xs os : List ℕ} {ws : List Value} → Receiving R Rc xs os Ra → AllFit V Z h j t xs ws → (left : State) → StatesAlike V Rc Z Z' h j t left → StatesAlike V Ra Z Z' h j t (with_all os ws left)
  receive received_none none_fit left st = st
  receive {Rc} (received_and {x = x} {o = o} none new new_c r) (fit_and {w = w} f fs) left st =
      receive r fs (with_value o w left) (receive_one Rc left x o w st none new_c f.standing (λ l. (f.text, f.has_text, f.like)))

  -- a slot in the caller that may be written
  pub record Home (F : Frame) (y : ℕ) : Type 0 where
    pub slot : ℕ
    pub at : slot_of F.slots y ≡ Some slot
    pub thawed : Thawed Z' slot
    pub apart : (q : Pair) → In q j → q.right ≡ slot → ⊥

  abbrev pub Homes : Frame → Type 0
  Homes F = (x y : ℕ) → sight_of R x ≡ Some (sight y special) → IsUnlent V block x → Home F y

  pub homes_on : {qs : List ℕ} {ws : List Value} → Beside qs ws → ((q : ℕ) → In q qs → IsNew R q) → (s : State) → Homes s.frame → Homes (with_all qs ws s).frame
  homes_on b new s homes x y seen u =
      let k = homes x y seen u in
      record { slot = k.slot; at = all_slot b s y (λ i. new y i x (sight y special) seen refl) ∙ k.at; thawed = k.thawed; apart = k.apart }

  -- the answer comes to a state, and goes on with what follows
  pub record Settled (Rd : Renaming) (left : State) (does_with : Body → ℕ → Temporary → Result ℕ Value) : Type 0 where
    pub at_end : State
    pub is : (b : Body) (i : ℕ) (t : Temporary) → does_with b i t ≡ body plainly Q low b i t at_end
    pub states : StatesAlike V Rd Z Z' h j t at_end
    pub grown : Grown j t left j t at_end
    pub turns : at_end.turns ≡ left.turns

  back_one : (m : Mark) (y o k i0 : ℕ) {e : Exp} (v old : Value) (b : Body) (i : ℕ) (t : Temporary) (s : State) → Takes o e → slot_of s.frame.slots o ≡ Some i0 → element s.memory i0 ≡ Some v → is_set v ≡ true → slot_of s.frame.slots y ≡ Some k → element s.memory k ≡ Some old
      → body plainly Q low (tree.runs (tree.assign m (own y) e) b) i t s ≡ body plainly Q low b i t (with_memory s (with_element s.memory k v))
  unfolding value
  back_one m y o k i0 {e} v old b i t s takes at_o at_v set at_y at_old =
      ap (λ r. bind (bind r (λ v s1. performed plainly (does m.node (Write (own y) (temporary_of e) [])) (v ∷ []) s1)) (λ v s1. body plainly Q low b i t s1)) (takes_is Q low takes (temporary_of e) v s at_o at_v set)
      ∙ ap (λ r. bind r (λ v s1. body plainly Q low b i t s1)) (bind_on v s _ ∙ assign_is m.node y k (temporary_of e) s v old at_y at_old)
      ∙ bind_on unit_value (with_memory s (with_element s.memory k v)) _

  pub record Put (Rd : Renaming) (left : State) (f : Body → Body) : Type 0 where
    pub settled : Settled Rd left (λ b i t. body plainly Q low (f b) i t left)
    pub held : {os : List ℕ} {us : List Value} → Holding left os us → ((o : ℕ) → In o os → IsNew R o) → Holding settled.at_end os us

  pub put_back : {Rc Rd : Renaming} {xs os : List ℕ} {ws : List Value} {f : Body → Body} → PuttingBack V R block Rc xs os f Rd → AllFit V Z h j t xs ws → (left : State) → Holding left os ws → ((o : ℕ) → In o os → IsNew R o) → StatesAlike V Rc Z Z' h j t left → Homes left.frame → Put Rd left f
  put_back puts_none none_fit left held new st homes = record { settled = record { at_end = left; is = λ b i t. refl; states = st; grown = grown_refl j t left; turns = refl }; held = λ k n. k }
  put_back (stays_there p) (fit_and f fs) left (holds_and a b set held) new st homes = put_back p fs left held (λ o i. new o (inr i)) st homes
  put_back {Rc} (puts_and {x = x} {y = y} {o = o} {m = m} {f = f} seen new_c unlent takes p) (fit_and {w = w} fit fs) left (holds_and {k = i0} at_o at_v set held) new st homes =
      let k = homes x y seen unlent in
      let old = exists_at left.memory k.slot (st.framed'.below y k.slot k.at) in
      let left1 = with_memory left (with_element left.memory k.slot w) in
      let not_home : (o : ℕ) → IsNew R o → slot_of left.frame.slots o ≡ Some k.slot → ⊥ = λ o n g. n x (sight y special) seen (st.framed'.apart y o k.slot k.at g) in
      let next = put_back p fs left1 (held_put left k.slot w held (λ o i. not_home o (new o (inr i)))) (λ o i. new o (inr i)) (states_put V Rc Z Z' x y k.slot h j t left st w fit k.at new_c k.thawed k.apart old.0 old.1) homes in
      record {
        settled = record {
          at_end = next.settled.at_end;
          is = λ b i t2. back_one m y o k.slot i0 w old.0 (f b) i t2 left takes at_o at_v set k.at old.1 ∙ next.settled.is b i t2;
          states = next.settled.states;
          grown = grown_trans j j j t left t left1 t next.settled.at_end (grown_put V Rc Z Z' x y k.slot h j t left st w fit k.at new_c k.thawed k.apart old.0 old.1) next.settled.grown;
          turns = next.settled.turns;
        };
        held = λ q n. next.held (held_put left k.slot w q (λ o i. not_home o (n o i))) n;
      }

  pub settle : {e : Exp} {Rs Rr : Renaming} {xs : List ℕ} {ws : List Value} {g : Body → Body} → (U : Using V R block e Rs xs Rr g) → AllFit V Z h j t xs ws → (tc : Temporary) (left : State) → StatesAlike V Rs Z Z' h j t left → Homes left.frame
      → Settled Rr left (λ b i t. used Q low U tc b i t (packed bare ws) left)
  settle drops none_fit tc left st homes = record { at_end = left; is = λ b i t. refl; states = st; grown = grown_refl j t left; turns = refl }
  settle {Rs = Rs} (assigns {x = x} {y = y} {m = m} none new seen unlent) (fit_and {w = w} fit none_fit) tc left st homes =
      let k = homes x y seen unlent in
      let old = exists_at left.memory k.slot (st.framed'.below y k.slot k.at) in
      record {
        at_end = with_memory left (with_element left.memory k.slot w);
        is = λ b i t. ap (λ r. bind r (λ v s2. body plainly Q low b i t s2)) (assign_is m.node y k.slot tc left w old.0 k.at old.1) ∙ bind_on unit_value (with_memory left (with_element left.memory k.slot w)) (λ v s2. body plainly Q low b i t s2);
        states = states_put V Rs Z Z' x y k.slot h j t left st w fit k.at new k.thawed k.apart old.0 old.1;
        grown = grown_put V Rs Z Z' x y k.slot h j t left st w fit k.at new k.thawed k.apart old.0 old.1;
        turns = refl;
      }
  settle (declares {y = y} {k = k} {mutable = mutable} r) (fit_and {w = w} fit none_fit) tc left st homes = record {
    at_end = with_value y w left;
    is = λ b i t. let_is tc k y mutable w i (λ s2. body plainly Q low b i t s2) left;
    states = receive r (fit_and fit none_fit) left st;
    grown = given_grown j t left y w;
    turns = refl;
  }
  settle (spreads {os = os} {g = g} r a p) (fit_and {w = v} f1 (fit_and {w = w} {ws = ws} f2 fs)) tc left st homes =
      let fits = fit_and f1 (fit_and f2 fs) in
      let b = fit_beside V Z h j t fits r in
      let mid = with_all os (v ∷ w ∷ ws) left in
      let put = put_back p fits mid (all_held b (received_apart r) left) (received_new r) (receive r fits left st) (homes_on b (received_new r) left homes) in
      record {
        at_end = put.settled.at_end;
        is = λ c i t2. spread_is a b (packed bare (v ∷ w ∷ ws)) refl tc i (λ s2. body plainly Q low (g c) i t2 s2) left ∙ put.settled.is c i t2;
        states = put.settled.states;
        grown = grown_trans j j j t left t mid t put.settled.at_end (grown_all b j t left) put.settled.grown;
        turns = put.settled.turns ∙ turns_all b left;
      }

  -- without a value
  pub redeclare : {a : Aim} {Rb Rc Rd : Renaming} {f : Body → Body} → Redeclaring V Rb a Rc f Rd → Arrives V a h → ((x z : ℕ) → sight_of Rb x ≡ Some (sight z special) → Standing V Z h j t x) → (left : State) → StatesAlike V Rc Z Z' h j t left
      → Settled Rd left (λ b i t. body plainly Q low (f b) i t left)
  unfolding value
  redeclare redeclares_none arrived stand left st = record { at_end = left; is = λ b i t. refl; states = st; grown = grown_refl j t left; turns = refl }
  redeclare {Rc = Rc} (redeclares_and {x = x} {y = y} {z = z} {n = n} {f = f} seen none new dead r) arrived stand left st =
      let next = redeclare r arrived stand (with_value y (lacking unset) left) (receive_one Rc left x y (lacking unset) st none new (stand x z seen) (λ l. absurd (dead h arrived l))) in
      record {
        at_end = next.at_end;
        is = λ b i t2. one_local n y i (λ s1. body plainly Q low (f b) i t2 s1) left ∙ next.is b i t2;
        states = next.states;
        grown = grown_trans j j j t left t (with_value y (lacking unset) left) t next.at_end (given_grown j t left y (lacking unset)) next.grown;
        turns = next.turns;
      }
