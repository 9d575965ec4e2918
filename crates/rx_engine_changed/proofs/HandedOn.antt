-- What a run and its call both declare, by a name that both bind, is known alike behind them.
use Rattle.std.proofs.Common.{if◌then◌else◌, ◌≡◌, ◌≤◌, ◌<◌, ◌+◌, ◌^◌, ◌⊎◌, inl, inr, ℕ, zero, suc, Bool, true, false, List, [], ◌∷◌, ◌++◌, length, Option, Some, None, slice_get, refl, sym, ap, ◌∙◌, subst, bytes_eq, codes, arith}
use Rattle.rx_core.specs.declared.types.Span.{Span}
use Rattle.rx_tree.specs.Plain.{Statement}
use Rattle.rx_resolve_names.specs.Scopes.{entered, variable_named, Variables}
use Rattle.rx_resolve_names.specs.Meant.{number}
use Rattle.rx_resolve_names.specs.Steps.{Inside}
use Rattle.rx_typed.specs.declared.nodes.Declaration.{Declaration}
use Rattle.rx_typed.specs.declared.nodes.Stage.{Stage}
use Rattle.rx_typed.specs.Naming.{not_declared, of_statements, Cursor}
use Rattle.rx_hoist_extraction.specs.Names.{is_among, Names}
use Rattle.rx_hoist_extraction.specs.Plan.{names_of, Plan, Variable}
use Rattle.rx_hoist_extraction.specs.Values.{held_by, next_values, result_of, Value}
use Rattle.rx_hoist_extraction.specs.Fresh.{fresh_variable}
use Rattle.rx_hoist_extraction.specs.Call.{is_own}
use Rattle.rx_hoist_extraction.specs.Run.{as_statements}
use Rattle.rx_hoist_extraction.proofs.FreshNames.{fresh_is_free}
use Rattle.rx_engine_names.specs.Renaming.{Renaming}
use Rattle.rx_engine_names.specs.HandedOut.{mutable_if, received_mutable, Handing}
use Rattle.rx_engine_names.specs.HandsOver.{at_place, declared_from, handed_names, received_names, told_handed}
use Rattle.rx_engine_names.specs.Placed.{Meet, Place}
use Rattle.rx_engine_names.specs.Replaced.{NumberedBehind}
use Rattle.rx_engine_names.proofs.NewScopes.{is_name}
use Rattle.rx_engine_changed.specs.Beside.{IsOneToOne}
use Rattle.rx_engine_changed.specs.Declared.{bound_mutable, handed_on, own_among, IsKnownVariable, RunHandsOn}
use Rattle.rx_engine_changed.specs.DoAlike.{HandsOnAlike}
use Rattle.rx_engine_changed.specs.Round.{as_mutable}
use Rattle.rx_engine_changed.specs.Spots.{declared_at, spot}
use Rattle.rx_engine_changed.specs.Stages.{as_declared, known, LikeDeclared}
use Rattle.rx_engine_changed.proofs.Deeds.{statements_does}
use Rattle.rx_engine_changed.proofs.Declared.{call_declares, some_is}
use Rattle.rx_engine_changed.proofs.Kept.{none_more}
use Rattle.rx_engine_changed.proofs.Lists.{read_at}
use Rattle.rx_engine_changed.proofs.Staging.{there_is}
use Rattle.rx_engine_changed.proofs.Standing.{next_number}

-- ---- names that are bound in order

-- one of them is this, and it means this number
record FoundFrom (d : ℕ) (xs : Names) (z : List ℕ) (m : ℕ) : Type 0 where
  index : ℕ
  there : slice_get xs index ≡ Some z
  is : m ≡ number (d + index)

first_number : (d : ℕ) → d ≡ d + 0
first_number d = omega arith

found_from : (s : Span) (d : ℕ) (xs : Names) (sc : Variables) (z : List ℕ) (m : ℕ) → variable_named (entered sc (declared_from s d xs)) z ≡ Some m → FoundFrom d xs z m ⊎ (variable_named sc z ≡ Some m)
found_from s d [] sc z m e = inr e
found_from s d (x ∷ xs) sc z m e = by (found_from s (suc d) xs (record { name = x; number = number d } ∷ sc) z m e)
  where
    this : (b : Bool) → bytes_eq z x ≡ b → (if b then Some (number d) else variable_named sc z) ≡ Some m → FoundFrom d (x ∷ xs) z m ⊎ (variable_named sc z ≡ Some m)
    this true f g = inl (record { index = 0; there = ap (λ (y : List ℕ). Some y) (sym (is_name z x f)); is = sym (some_is (number d) m g) ∙ ap number (first_number d) })
    this false f g = inr g

    by : FoundFrom (suc d) xs z m ⊎ (variable_named (record { name = x; number = number d } ∷ sc) z ≡ Some m) → FoundFrom d (x ∷ xs) z m ⊎ (variable_named sc z ≡ Some m)
    by (inl y) = inl (record { index = suc y.index; there = y.there; is = y.is ∙ ap number (sym (next_number d y.index)) })
    by (inr f) = this (bytes_eq z x) refl f

-- ---- the names of what is handed out

-- one of the run's own, or a fresh name
record OwnOne (own : Names) (hs : List Value) (b : Option Bool) (z : List ℕ) : Type 0 where
  index : ℕ
  variable : Variable
  there : slice_get (own_among own hs) index ≡ Some variable
  named : variable.name ≡ z
  mutable : b ≡ Some variable.mutable

record FreshOne (pl : Plan) (last : ℕ) (z : List ℕ) : Type 0 where
  index : ℕ
  before : index < last
  is : z ≡ fresh_variable pl.identifiers index

received_one : (pl : Plan) (own : Names) (k : ℕ) (hs : List Value) (i : ℕ) (z : List ℕ) → slice_get (received_names pl own k hs) i ≡ Some z
    → OwnOne own hs (slice_get (received_mutable own hs) i) z ⊎ FreshOne pl (k + length hs) z
received_one pl own k [] i z e = absurd (let h : None ≡ Some z = e in cc)
received_one pl own k (result_of t ∷ hs) zero z e = inr (record { index = k; before = omega arith; is = sym (some_is _ z e) })
received_one pl own k (result_of t ∷ hs) (suc i) z e = by (received_one pl own (suc k) hs i z e)
  where
    by : OwnOne own hs (slice_get (received_mutable own hs) i) z ⊎ FreshOne pl (suc k + length hs) z → OwnOne own (result_of t ∷ hs) (slice_get (received_mutable own hs) i) z ⊎ FreshOne pl (k + suc (length hs)) z
    by (inl y) = inl (record { index = y.index; variable = y.variable; there = y.there; named = y.named; mutable = y.mutable })
    by (inr y) = inr (record { index = y.index; before = let b = y.before in omega (arith, b); is = y.is })
received_one pl own k (held_by v ∷ hs) zero z e = by (is_own own v) refl e
  where
    by : (b : Bool) → is_own own v ≡ b → Some (if b then v.name else fresh_variable pl.identifiers k) ≡ Some z
        → OwnOne own (held_by v ∷ hs) (slice_get (received_mutable own (held_by v ∷ hs)) 0) z ⊎ FreshOne pl (k + suc (length hs)) z
    by true o f = inl (record {
      index = 0;
      variable = v;
      there = ap (λ (b : Bool). slice_get (if b then v ∷ own_among own hs else own_among own hs) 0) o;
      named = some_is v.name z f;
      mutable = ap (λ (b : Bool). Some (mutable_if b v)) o;
    })
    by false o f = inr (record { index = k; before = omega arith; is = sym (some_is _ z f) })
received_one pl own k (held_by v ∷ hs) (suc i) z e = by (is_own own v) refl (received_one pl own (suc k) hs i z e)
  where
    by : (b : Bool) → is_own own v ≡ b → OwnOne own hs (slice_get (received_mutable own hs) i) z ⊎ FreshOne pl (suc k + length hs) z
        → OwnOne own (held_by v ∷ hs) (slice_get (received_mutable own hs) i) z ⊎ FreshOne pl (k + suc (length hs)) z
    by b o (inr y) = inr (record { index = y.index; before = let c = y.before in omega (arith, c); is = y.is })
    by true o (inl y) = inl (record { index = suc y.index; variable = y.variable; there = ap (λ (b : Bool). slice_get (if b then v ∷ own_among own hs else own_among own hs) (suc y.index)) o ∙ y.there; named = y.named; mutable = y.mutable })
    by false o (inl y) = inl (record { index = y.index; variable = y.variable; there = ap (λ (b : Bool). slice_get (if b then v ∷ own_among own hs else own_among own hs) y.index) o ∙ y.there; named = y.named; mutable = y.mutable })

handed_one : (G : Handing) (hs : List Value) (i : ℕ) (z : List ℕ) → slice_get (handed_names G.call.plan G.own hs) i ≡ Some z → OwnOne G.own hs (slice_get (bound_mutable G hs) i) z ⊎ FreshOne G.call.plan (length hs) z
handed_one G [] i z e = absurd (let h : None ≡ Some z = e in cc)
handed_one G (result_of t ∷ []) i z e = absurd (let h : None ≡ Some z = e in cc)
handed_one G (held_by v ∷ []) i z e = by (is_own G.own v) refl i e
  where
    by : (b : Bool) → is_own G.own v ≡ b → (i : ℕ) → slice_get (if b then v.name ∷ [] else []) i ≡ Some z → OwnOne G.own (held_by v ∷ []) (slice_get (bound_mutable G (held_by v ∷ [])) i) z ⊎ FreshOne G.call.plan 1 z
    by true o zero f = inl (record {
      index = 0;
      variable = v;
      there = ap (λ (b : Bool). slice_get (if b then v ∷ [] else []) 0) o;
      named = some_is v.name z f;
      mutable = ap (λ (b : Bool). slice_get (if b then v.mutable ∷ [] else []) 0) o;
    })
    by true o (suc i) f = absurd (let h : None ≡ Some z = f in cc)
    by false o i f = absurd (let h : None ≡ Some z = f in cc)
handed_one G (h ∷ i ∷ hs) j z e =
    subst (λ (n : ℕ). OwnOne G.own (h ∷ i ∷ hs) (slice_get (bound_mutable G (h ∷ i ∷ hs)) j) z ⊎ FreshOne G.call.plan n z) (none_more (length (h ∷ i ∷ hs))) (received_one G.call.plan G.own 0 (h ∷ i ∷ hs) j z e)

redeclared_one : (vs : List Variable) (j : ℕ) (z : List ℕ) → slice_get (names_of vs) j ≡ Some z → (v : Variable) × (slice_get vs j ≡ Some v) × (v.name ≡ z)
redeclared_one [] j z e = absurd (let h : None ≡ Some z = e in cc)
redeclared_one (v ∷ vs) zero z e = (v, refl, some_is v.name z e)
redeclared_one (v ∷ vs) (suc j) z e = redeclared_one vs j z e

-- in a row of two
in_first : {A : Type 0} (xs ys : List A) (i : ℕ) (x : A) → slice_get xs i ≡ Some x → slice_get (xs ++ ys) i ≡ Some x
in_first [] ys i x e = absurd (let h : None ≡ Some x = e in cc)
in_first (y ∷ xs) ys zero x e = e
in_first (y ∷ xs) ys (suc i) x e = in_first xs ys i x e

in_second : {A : Type 0} (xs ys : List A) (i : ℕ) → slice_get (xs ++ ys) (length xs + i) ≡ slice_get ys i
in_second [] ys i = ap (slice_get ys) (none_more i)
in_second (y ∷ xs) ys i = ap (slice_get (y ∷ (xs ++ ys))) (one_more (length xs) i) ∙ in_second xs ys i
  where
    one_more : (k i : ℕ) → suc k + i ≡ suc (k + i)
    one_more k i = omega arith

-- ---- a declaration

declared_is : (x : Declaration) (b : Bool) → x.mutable ≡ b → x.stage ≡ Stage.Known → Some x ≡ as_declared b Stage.Known
declared_is x b e f = ap (λ (m : Bool). Some (record { mutable = m; stage = x.stage })) e ∙ ap (λ (s : Stage). Some (record { mutable = b; stage = s })) f

is_there : (d : Cursor) (k : ℕ) (b : Bool) → length d.variables ≡ d.declared → IsKnownVariable (spot d) k b → slice_get d.variables k ≡ as_declared b Stage.Known
is_there d k b c h =
    let l = h.earlier in let z = there_is d.variables k (omega (arith, l, c)) in
    let e : declared_at (spot d) k ≡ z.0 = read_at d.variables k not_declared z.0 z.1 in
    z.1 ∙ declared_is z.0 b (ap (λ (x : Declaration). x.mutable) (sym e) ∙ h.mutable) (ap (λ (x : Declaration). x.stage) (sym e) ∙ h.known)

module _ (R : Renaming) (apart : IsOneToOne R) (G : Handing) (I I' : Inside) (C : Cursor → Type 0) (B : Cursor → Cursor → Type 0) (text : (c c' : Cursor) → B c c' → C c) (front run call : List Statement)
    (small : length G.call.plan.identifiers + length (next_values G.call.plan) ≤ 2 ^ 64)
    (declares : (c : Cursor) (x : Place) → C c → (t : NumberedBehind I x.scope x.around x.way front run x.tables (of_statements (as_statements run) c).0)
    → RunHandsOn (at_place G t.middle.scope x.around) run t.middle.scope t.end.scope c (of_statements (as_statements run) c).1)
    (few : (c c' : Cursor) → B c c' → (k : ℕ) → k < (of_statements (as_statements call) c').1.declared → number k ≡ k) where
  pub hands_on : HandsOnAlike R as_mutable (told_handed G) I I' B front run call
  hands_on made c c' p come st s n m r h h' z =
      let x = declares c p (text c c' come) s.text in let H = at_place G s.text.middle.scope p.around in
      let d = (of_statements (as_statements run) c).1 in let d' = (of_statements (as_statements call) c').1 in
      let counted = ((statements_does c'.declared (as_statements call) c').kept (record { counted = st.counted'; above = omega arith })).counted in
      let made_there = call_declares H R apart (as_statements call) c' (length s.made.middle.tables.vars) s.told.0 st.counted' s.told.2 in
      let Goal : Type 0 = LikeDeclared made (as_mutable n m) (slice_get d.variables n) (slice_get d'.variables m) in
      -- both are known so
      let both : (i : ℕ) (v : Variable) → slice_get (handed_on H) i ≡ Some v → v.name ≡ z.0 → (k : ℕ) → m ≡ number k → IsKnownVariable (spot d') k v.mutable → Goal
      = λ i v t e k f w.
      let l = w.earlier in let g : m ≡ k = f ∙ few c c' come k l in
      let a = x.known i v n t (ap (variable_named s.text.end.scope) e ∙ z.3) in
      let b : slice_get d'.variables m ≡ as_declared v.mutable Stage.Known = ap (slice_get d'.variables) g ∙ is_there d' k v.mutable counted w in
      subst (λ (o : Option Declaration). LikeDeclared made (as_mutable n m) o (slice_get d'.variables m)) (sym a) (subst (λ (o : Option Declaration). LikeDeclared made (as_mutable n m) (as_declared v.mutable Stage.Known) o) (sym b) (known refl)) in
      let own = own_among H.own (next_values H.call.plan) in
      let of_own : (k : ℕ) → m ≡ number (length s.made.middle.tables.vars + k) → OwnOne H.own (next_values H.call.plan) (slice_get (bound_mutable H (next_values H.call.plan)) k) z.0 → Goal
      = λ k f y. both y.index y.variable (in_first own H.call.plan.redeclared y.index y.variable y.there) y.named (length s.made.middle.tables.vars + k) f (made_there.0 k y.variable.mutable y.mutable) in
      let of_fresh : FreshOne H.call.plan (length (next_values H.call.plan)) z.0 → Goal
      = λ y. let b = y.before in absurd (let u = x.words z.0 z.1 in let w = ap (λ (q : List ℕ). is_among q G.call.plan.identifiers) y.is ∙ fresh_is_free (codes "out_") G.call.plan.identifiers y.index (omega (arith, b, small)) in let q = sym u ∙ w in cc) in
      let in_front : variable_named s.made.middle.scope z.0 ≡ Some m → Goal
      = λ e. by_front (variable_named s.text.middle.scope z.0) refl (λ k f a. let q = apart.variables_back k n m a r in let l = x.scoped z.0 k f in absurd (omega (arith, q, l, h))) (subst (λ (o : Option ℕ). Meet (λ n m. R.variable n m ≡ true) (variable_named s.text.middle.scope z.0) o) e (s.names z.0)) in
      by_scope (found_from G.call.place s.told.0 (names_of G.call.plan.redeclared) _ z.0 m (ap (λ (sc : Variables). variable_named sc z.0) (sym s.told.1) ∙ z.4))
      (λ y. let w = redeclared_one G.call.plan.redeclared y.index z.0 y.there in both (length own + y.index) w.0 (in_second own H.call.plan.redeclared y.index ∙ w.1) w.2 (s.told.0 + y.index) y.is (made_there.1 y.index w.0 w.1))
      (λ e. by_scope (found_from G.call.place (length s.made.middle.tables.vars) (handed_names G.call.plan G.own (next_values G.call.plan)) s.made.middle.scope z.0 m e)
      (λ y. by_scope (handed_one G (next_values G.call.plan) y.index z.0 y.there) (λ o. of_own y.index y.is (record { index = o.index; variable = o.variable; there = o.there; named = o.named; mutable = o.mutable })) (λ o. of_fresh (record { index = o.index; before = o.before; is = o.is }))) in_front)
    where
      by_scope : {X Y Z : Type 0} → X ⊎ Y → (X → Z) → (Y → Z) → Z
      by_scope (inl a) f g = f a
      by_scope (inr b) f g = g b

      by_front : {X : Type 0} {m : ℕ} (o : Option ℕ) → {e : Option ℕ} → e ≡ o → ((k : ℕ) → e ≡ Some k → R.variable k m ≡ true → X) → Meet (λ n m. R.variable n m ≡ true) o (Some m) → X
      by_front None e f a = absurd a
      by_front (Some k) e f a = f k e a
