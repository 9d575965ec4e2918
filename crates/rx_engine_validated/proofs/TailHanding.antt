-- Where the caller is found to do with what the call gives of a run that holds its block's tail what the text does with the tail, it does.
use Rattle.std.proofs.Common.{◌≡◌, ℕ, ◌==◌, Bool, true, false, List, [], ◌∷◌, Option, None, if◌then◌else◌, refl, sym, ap, ◌∙◌, subst}
use Rattle.rx_typed.specs.Tree as tree
use Rattle.rx_typed.specs.Tree.{Mark, Pattern, Subpatterns, Exp, Operands, Body}
use Rattle.rx_exits_plan.specs.Points.{next}
use Rattle.rx_exits_plan.specs.Blocks.{written_tail}
use Rattle.rx_exits_plan.specs.Changed.{changed}
use Rattle.rx_exits_plan.specs.Asked.{Asked}
use Rattle.rx_exits_plan.specs.Plan.{Plan}
use Rattle.rx_engine_simulation.specs.Sights.{In, special, sight, Renaming, IsNew}
use Rattle.rx_engine_simulation.specs.Jumps.{as_return, Jumping}
use Rattle.rx_engine_simulation.specs.Passed.{let_pass}
use Rattle.rx_engine_simulation.specs.Arrivals.{Within}
use Rattle.rx_engine_simulation.specs.Endings.{Last, a_tail, an_end}
use Rattle.rx_engine_simulation.specs.Handing.{Receiving}
use Rattle.rx_engine_simulation.specs.Packing.{Way, Takes, Receives}
use Rattle.rx_engine_simulation.specs.Statements.{GivenBack, as_tail, as_end}
use Rattle.rx_engine_simulation.specs.Rereads.{Rereads, same_unit, in_call, in_give, RereadsAll, in_value_of, RereadsBody, in_end, in_run, in_let}
use Rattle.rx_engine_related.specs.Premises.{NotHanded}
use Rattle.rx_engine_related.specs.Running.{passing}
use Rattle.rx_engine_related.specs.Tailed.{passing_value}
use Rattle.rx_engine_related.specs.Handed.{PutBack}
use Rattle.rx_engine_related.specs.Tails.{TailHanded, value_back, value_behind, unit_behind, IsTail, of_block, of_body}
use Rattle.rx_engine_extracted.specs.Told.{Told, without}
use Rattle.rx_engine_extracted.specs.Handing.{Put, parts_of, Stood}
use Rattle.rx_engine_extracted.specs.Reading.{binds_first, runs_first}
use Rattle.rx_engine_extracted.specs.TailHanding.{gives_at, given_back, ends_given_back, ends_in_unit_back, first_of, gives_back_last, put_beside, is_first, received_beside, are_parts, gives_value}
use Rattle.rx_engine_extracted.specs.TailBlock.{dropped}
use Rattle.rx_engine_dropped.specs.DropBlock.{DropsCall, drops_call, drops_given}
use Rattle.rx_engine_alike_laws.proofs.Promised.{Promised, kept, nothing, Says, silent, map_so, then_so, where_so, so, and_so, and_with}
use Rattle.rx_engine_alike_laws.proofs.Variables.{is_new_so}
use Rattle.rx_engine_alike_laws.proofs.Giving.{Reread, reread, takes_so}
use Rattle.rx_engine_validated.proofs.ExtractedLawsParts.{HandedSo, handed_so, RedeclaredSo, redeclared_so}
use Rattle.rx_engine_validated.proofs.Seeing.{not_in_so, without_within}
use Rattle.rx_engine_validated.proofs.Handing.{received_in_so, received_so, PutSo, put_so, put_back_so, within_so}
use Rattle.rx_engine_validated.proofs.Arms.{unit_so, within_without, renaming_so, is_put_so}
use Rattle.rx_engine_validated.proofs.TailEnding.{given_so}

-- ---- the tail of the text, which is let pass: that of a block, or of a function's body

-- what it is with that, and what is left of the run
pub data PassedAs (k : Plan) (e : Exp) : Bool → Exp → Last → Type 0 where
  passed_tail : PassedAs k e false (let_pass e) (a_tail (let_pass e))
  passed_end : {m : Mark} → k.outs next ≡ [] → PassedAs k e true (tree.give m (let_pass e)) (an_end m (let_pass e))

pub is_tail : {k : Plan} {e z : Exp} {own : Bool} {l : Last} → PassedAs k e own z l → IsTail k l e
is_tail passed_tail = of_block
is_tail (passed_end none) = of_body none

module _ (k : Plan) (n : ℕ) (ls : List ℕ) where
  at_give : (m : Mark) (e : Exp) (own : Bool) → (own ≡ true → k.outs next ≡ [])
      → (l : Last) × PassedAs k (changed (passing ls) (if own then e else tree.give m e)) own (if own then tree.give m (let_pass (changed (passing ls) e)) else let_pass (changed (passing ls) (tree.give m e))) l
  at_give m e true none = (an_end m (let_pass (changed (passing ls) e)), passed_end (none refl))
  at_give m e false none = (a_tail (let_pass (changed (passing ls) (tree.give m e))), passed_tail)

  pub passed_as : (e : Exp) → (gives_at n e ≡ true → k.outs next ≡ []) → (l : Last) × PassedAs k (changed (passing ls) (written_tail n e)) (gives_at n e) (passing_value n ls e) l
  passed_as (tree.give m e) none = at_give m e (m.node == n) none
  passed_as (tree.read m v p) none = (a_tail _, passed_tail)
  passed_as (tree.borrow m b p) none = (a_tail _, passed_tail)
  passed_as (tree.share m e) none = (a_tail _, passed_tail)
  passed_as (tree.build m w es) none = (a_tail _, passed_tail)
  passed_as (tree.unit m) none = (a_tail _, passed_tail)
  passed_as (tree.lazily m b e f) none = (a_tail _, passed_tail)
  passed_as (tree.assign m p e) none = (a_tail _, passed_tail)
  passed_as (tree.update m o p e) none = (a_tail _, passed_tail)
  passed_as (tree.call m f es) none = (a_tail _, passed_tail)
  passed_as (tree.input m) none = (a_tail _, passed_tail)
  passed_as (tree.print m e) none = (a_tail _, passed_tail)
  passed_as (tree.block m b) none = (a_tail _, passed_tail)
  passed_as (tree.choose m c l) none = (a_tail _, passed_tail)
  passed_as (tree.loop m l e) none = (a_tail _, passed_tail)
  passed_as (tree.jump m l again) none = (a_tail _, passed_tail)

-- ---- what the answer gives in its place

data GivenIn (f : Exp) : Bool → Exp → Type 0 where
  in_tail : GivenIn f false f
  in_body : {m : Mark} → GivenIn f true (tree.give m f)

given_back_so : (own : Bool) (e : Exp) → Promised (λ f. GivenIn f own e) (given_back own e)
given_back_so true (tree.give m e) = kept in_body
given_back_so true _ = nothing
given_back_so false e = kept in_tail

data EndsGiven (f : Exp) (own : Bool) : Body → Type 0 where
  ends_given : {e : Exp} → GivenIn f own e → EndsGiven f own (tree.ends e)

ends_given_back_so : (own : Bool) (b : Body) → Promised (λ f. EndsGiven f own b) (ends_given_back own b)
ends_given_back_so own (tree.ends e) = map_so (λ f g. ends_given g) (given_back_so own e)
ends_given_back_so own _ = nothing

-- ---- parts

binds_first_so : (b : Body) → Promised (λ r. (n : ℕ) × (tree.lets n r.0 (tree.of_value r.1) r.2 ≡ b)) (binds_first b)
binds_first_so (tree.lets n q (tree.of_value e) b) = kept (n, refl)
binds_first_so _ = nothing

parts_so : (q : Pattern) → Promised (λ ps. q ≡ tree.parts ps) (parts_of q)
parts_so (tree.parts ps) = kept refl
parts_so _ = nothing

are_parts_so : {P : Subpatterns → Type 0} {Q : Type 0} {o : Option Subpatterns} {f : Subpatterns → Bool} → Promised P o → ((ps : Subpatterns) → P ps → Says Q (f ps)) → Says Q (are_parts o f)
are_parts_so (kept {a = ps} p) g = g ps p
are_parts_so nothing g = silent

first_of_so : {ps : Subpatterns} (qs : List ℕ) → Receives 0 qs ps → Promised (λ r. Receives 0 (r.0 ∷ r.1) ps) (first_of qs)
first_of_so [] c = nothing
first_of_so (o ∷ os) c = kept c

is_first_so : {P : ℕ × List ℕ → Type 0} {Q : Type 0} {o : Option (ℕ × List ℕ)} {f : ℕ × List ℕ → Bool} → Promised P o → ((r : ℕ × List ℕ) → P r → Says Q (f r)) → Says Q (is_first o f)
is_first_so (kept {a = r} p) g = g r p
is_first_so nothing g = silent

-- what follows what stands for the run, which is nothing
abbrev pub no_rest : Body
no_rest = tree.ends (tree.unit (record { node = 0; typ = None }))

module _ (A : Asked) (T : Told) (J : Jumping) (returning : J.returning ≡ as_return) where
  -- around the expression that is called, where it gives a value or doesn't
  pub data HandedAs (xs : List ℕ) (l : Last) (R Rb : Renaming) (has : Bool) (Rn : Renaming) (b : Body) (called : Exp) : Type 0 where
    handed_as : {g : Body → Body} → ((w : Way) → TailHanded A T.muts T.plan J R Rb l called has w xs Rn g) → RereadsBody b (g no_rest) → HandedAs xs l R Rb has Rn b called

  -- what the answer's block gives
  data BackIn (l : Last) (c a : Exp) : Type 0 where
    back_in : {f : Exp → Exp} → GivenBack J l f → ((d : Exp) → Rereads c d → Rereads a (f d)) → BackIn l c a

  back_so : {e z c a : Exp} {own : Bool} {l : Last} → PassedAs T.plan e own z l → GivenIn c own a → BackIn l c a
  back_so passed_tail in_tail = back_in {f = λ d. d} as_tail (λ d x. x)
  back_so (passed_end none) (in_body {m = m}) = back_in {f = λ d. tree.give m d} (as_end returning) (λ d x. in_give x)

  -- ---- a value

  value_alone : {l : Last} {R : Renaming} {c a : Exp} → NotHanded A T.muts T.plan next R → BackIn l c a → (Rb : Renaming) (d : Exp) → Rereads c d → HandedAs [] l R Rb true R (tree.ends a) d
  value_alone apart (back_in {f = f} back y) Rb d x = handed_as {g = λ b. tree.ends (f d)} (λ w. value_back apart back) (in_end (y d x))

  ended_value : {e z c : Exp} {own : Bool} {l : Last} {R : Renaming} {b : Body} → PassedAs T.plan e own z l → NotHanded A T.muts T.plan next R → EndsGiven c own b → (Rb : Renaming) (d : Exp) → Rereads c d
      → HandedAs [] l R Rb true R b d
  ended_value passed apart (ends_given g) Rb d x = value_alone apart (back_so passed g) Rb d x

  -- the last one
  data LastTaken (l : Last) (o : ℕ) (b : Body) : Type 0 where
    last_taken : {f : Exp → Exp} {t : Exp} → Takes o t → GivenBack J l f → RereadsBody b (tree.ends (f t)) → LastTaken l o b

  taken_in : {l : Last} {o : ℕ} {c a : Exp} → BackIn l c a → Reread Rereads (λ t. Takes o t) c → LastTaken l o (tree.ends a)
  taken_in (back_in back y) (reread t x k) = last_taken k back (in_end (y t x))

  taken_last : {e z c : Exp} {own : Bool} {l : Last} {o : ℕ} {b : Body} → PassedAs T.plan e own z l → EndsGiven c own b → Reread Rereads (λ t. Takes o t) c → LastTaken l o b
  taken_last passed (ends_given g) t = taken_in (back_so passed g) t

  -- in these parts, beside the others
  data Beside (l : Last) (R : Renaming) (xs : List ℕ) (ps : Subpatterns) (b : Body) : Type 0 where
    beside : {o : ℕ} {os : List ℕ} {g : Body → Body} {f : Exp → Exp} {t : Exp} (Rr Rd : Renaming) → IsNew R o → (In o os → ⊥) → Receiving R (without xs R) xs os Rr → Receives 0 (o ∷ os) ps
        → PutBack A T.muts T.plan R Rr xs os g Rd → Within R Rd → Takes o t → GivenBack J l f → RereadsBody b (g (tree.ends (f t))) → Beside l R xs ps b

  beside_made : {l : Last} {R Rr : Renaming} {xs os : List ℕ} {o : ℕ} {ps : Subpatterns} {b : Body} (D : Put) → IsNew R o → (In o os → ⊥) → Receiving R (without xs R) xs os Rr → Receives 0 (o ∷ os) ps
      → PutSo A T R Rr xs os b D → LastTaken l o D.rest → Within R D.inside → Beside l R xs ps b
  beside_made {Rr = Rr} D new apart r c (put_so p y) (last_taken {f = f} {t = t} k back x) within = beside Rr D.inside new apart r c p within k back (y (tree.ends (f t)) x)

  module _ {e z : Exp} {own : Bool} {l : Last} (passed : PassedAs T.plan e own z l) where
    last_so : (R : Renaming) (o : ℕ) (D : Put) → Says (LastTaken l o D.rest × Within R D.inside) (gives_back_last own R o D)
    last_so R o D = and_so (given_so (ends_given_back_so own D.rest) (λ f g. so (λ t. taken_last passed g t) (takes_so o f))) (within_so R D.inside) (λ a b. (a, b))

    put_beside_so : (R : Renaming) (xs : List ℕ) {ps : Subpatterns} (r : ℕ × List ℕ) → Receives 0 (r.0 ∷ r.1) ps → (b : Body) → Says (Beside l R xs ps b) (put_beside T own R (without xs R) xs r b)
    put_beside_so R xs r c b = and_with (is_new_so R r.0) (λ new. and_with (not_in_so r.0 r.1) (λ apart. renaming_so (received_so R (without xs R) xs r.1) (λ Rr rec.
        is_put_so (put_back_so A T R Rr xs r.1 b) (λ D p. so (λ k. beside_made D new apart rec c p k.0 k.1) (last_so R r.0 D)))))

    received_beside_so : (R : Renaming) (xs : List ℕ) (ps : Subpatterns) (b : Body) → Says (Beside l R xs ps b) (received_beside T own R (without xs R) xs ps b)
    received_beside_so R xs ps b = is_first_so (then_so (received_in_so 0 ps) (λ qs c. first_of_so qs c)) (λ r c. put_beside_so R xs r c b)

    value_behind_so : {R : Renaming} {x n : ℕ} {xs : List ℕ} {c : Exp} {ps : Subpatterns} {b : Body} → NotHanded A T.muts T.plan next (without (x ∷ xs) R) → Beside l R (x ∷ xs) ps b → (Rb : Renaming) (d : Exp) → Rereads c d
        → HandedAs (x ∷ xs) l R Rb true R (tree.lets n (tree.parts ps) (tree.of_value c) b) d
    value_behind_so {R} {x} {n} {xs} {ps = ps} none (beside {g = g} {f = f} {t = t} Rr Rd new apart r c p within k back y) Rb d z =
        handed_as {g = λ b. tree.lets n (tree.parts ps) (tree.of_value d) (g (tree.ends (f t)))}
        (λ w. value_behind (without (x ∷ xs) R) Rr Rd (without_within (x ∷ xs) R) none new apart r c p within k back) (in_let (in_value_of z) y)

    -- whichever pattern and block it is
    data BesideIn (R : Renaming) (xs : List ℕ) (q : Pattern) (b : Body) : Type 0 where
      beside_in : {ps : Subpatterns} → q ≡ tree.parts ps → Beside l R xs ps b → BesideIn R xs q b

    value_there : {R : Renaming} {x n : ℕ} {xs : List ℕ} {c : Exp} {q : Pattern} {b b0 : Body} → NotHanded A T.muts T.plan next (without (x ∷ xs) R) → tree.lets n q (tree.of_value c) b ≡ b0 → BesideIn R (x ∷ xs) q b
        → (Rb : Renaming) (d : Exp) → Rereads c d → HandedAs (x ∷ xs) l R Rb true R b0 d
    value_there {R} {x} {n} {xs} {c} {b = b} none at (beside_in q s) Rb d z = subst (λ b. HandedAs (x ∷ xs) l R Rb true R b d) at
        (subst (λ q. HandedAs (x ∷ xs) l R Rb true R (tree.lets n q (tree.of_value c) b) d) (sym q) (value_behind_so none s Rb d z))

    -- the expression that gives it
    pub value_given : (R : Renaming) (xs : List ℕ) → NotHanded A T.muts T.plan next (without xs R) → (b : Body)
        → Promised (λ c. (Rb : Renaming) (d : Exp) → Rereads c d → HandedAs xs l R Rb true R b d) (gives_value T own R (without xs R) xs b)
    value_given R [] none b = map_so (λ c g. ended_value passed (λ x y s. none x y (within_without R x (sight y special) s)) g) (ends_given_back_so own b)
    value_given R (x ∷ xs) none b = then_so (binds_first_so b) (λ r at. where_so
        (are_parts_so (parts_so r.0) (λ ps q. so (λ s. beside_in q s) (received_beside_so R (x ∷ xs) ps r.2))) (λ s. kept (value_there none at.1 s)))

  -- ---- a unit that the call gives: it is dropped, and stands again

  -- beside a block that gives what is called
  pub data DropsAs (l : Last) (R Rb : Renaming) (b : Body) (called : Exp) : Type 0 where
    drops_as : {d : Body} {g : Body → Body} → ((w : Way) → TailHanded A T.muts T.plan J R Rb l called true w [] R g) → RereadsBody b d → DropsCall T.new.number d (g no_rest) → DropsAs l R Rb b called

  -- wherever it is called
  abbrev pub DropsEach : Last → Renaming → Body → Exp → Type 0
  DropsEach l R b e = (Rb : Renaming) (m : Mark) (es0 es : Operands) → e ≡ tree.call m T.new.number es0 → RereadsAll es0 es → DropsAs l R Rb b (tree.call m T.new.number es)

  unit_back : {e z a : Exp} {own : Bool} {l : Last} {R : Renaming} → PassedAs T.plan e own z l → NotHanded A T.muts T.plan next R → (mu : Mark) → GivenIn (tree.unit mu) own a → (Rb : Renaming) (m : Mark) {es0 es : Operands} → RereadsAll es0 es
      → DropsAs l R Rb (tree.runs (tree.call m T.new.number es0) (tree.ends a)) (tree.call m T.new.number es)
  unit_back passed_tail apart mu in_tail Rb m {es = es} x = drops_as {d = tree.runs (tree.call m T.new.number es) (tree.ends (tree.unit mu))} {g = λ b. tree.ends (tree.call m T.new.number es)} (λ w. value_back apart as_tail) (in_run (in_call x) (in_end same_unit)) drops_call
  unit_back (passed_end none) apart mu (in_body {m = mg}) Rb m {es = es} x =
      drops_as {d = tree.runs (tree.call m T.new.number es) (tree.ends (tree.give mg (tree.unit mu)))} {g = λ b. tree.ends (tree.give mg (tree.call m T.new.number es))} (λ w. value_back apart (as_end returning)) (in_run (in_call x) (in_end (in_give same_unit))) drops_given

  -- what a block is that gives the unit alone
  data UnitEnd (own : Bool) : Body → Type 0 where
    unit_end : {c a : Exp} (mu : Mark) → GivenIn c own a → c ≡ tree.unit mu → UnitEnd own (tree.ends a)

  unit_end_in : {c : Exp} {own : Bool} {b : Body} → EndsGiven c own b → (m : Mark) × (c ≡ tree.unit m) → UnitEnd own b
  unit_end_in (ends_given g) q = unit_end q.0 g q.1

  unit_end_so : (own : Bool) (b : Body) → Says (UnitEnd own b) (ends_in_unit_back own b)
  unit_end_so own b = given_so (ends_given_back_so own b) (λ f g. so (λ q. unit_end_in g q) (unit_so f))

  runs_first_so : (b : Body) → Promised (λ r. tree.runs r.0 r.1 ≡ b) (runs_first b)
  runs_first_so (tree.runs e b) = kept refl
  runs_first_so _ = nothing

  drops_each : {e z c : Exp} {own : Bool} {l : Last} {R : Renaming} {b b0 : Body} → PassedAs T.plan e own z l → NotHanded A T.muts T.plan next R → tree.runs c b ≡ b0 → UnitEnd own b → DropsEach l R b0 c
  drops_each {own = own} {l = l} {R = R} passed apart at (unit_end {a = a} mu g u) Rb m es0 es q x = subst (λ b. DropsAs l R Rb b (tree.call m T.new.number es)) (ap (λ c. tree.runs c (tree.ends a)) (sym q) ∙ at) (unit_back passed apart mu (subst (λ c. GivenIn c own a) u g) Rb m x)

  pub dropped_found : {e z : Exp} {own : Bool} {l : Last} → PassedAs T.plan e own z l → (R : Renaming) → NotHanded A T.muts T.plan next (without [] R) → (b : Body) → Promised (λ c. DropsEach l R b c) (dropped own b)
  dropped_found {own = own} passed R none b = then_so (runs_first_so b) (λ r at. where_so (unit_end_so own r.1) (λ u. kept (drops_each passed (λ x y s. none x y (within_without R x (sight y special) s)) at u)))

  -- ---- a unit

  pub data UnitLast (l : Last) (b : Body) : Type 0 where
    unit_last : {f : Exp → Exp} (m : Mark) → GivenBack J l f → RereadsBody b (tree.ends (f (tree.unit m))) → UnitLast l b

  unit_in : {l : Last} {c a : Exp} → BackIn l c a → (m : Mark) × (c ≡ tree.unit m) → UnitLast l (tree.ends a)
  unit_in (back_in back y) q = unit_last q.0 back (in_end (y (tree.unit q.0) (subst (λ c. Rereads c (tree.unit q.0)) (sym q.1) same_unit)))

  unit_ended : {e z c : Exp} {own : Bool} {l : Last} {b : Body} → PassedAs T.plan e own z l → EndsGiven c own b → (m : Mark) × (c ≡ tree.unit m) → UnitLast l b
  unit_ended passed (ends_given g) q = unit_in (back_so passed g) q

  pub unit_last_so : {e z : Exp} {own : Bool} {l : Last} → PassedAs T.plan e own z l → (b : Body) → Says (UnitLast l b) (ends_in_unit_back own b)
  unit_last_so {own = own} passed b = given_so (ends_given_back_so own b) (λ f g. so (λ q. unit_ended passed g q) (unit_so f))

  pub unit_given : {l : Last} {R Rb : Renaming} {xs : List ℕ} {b : Body} {called : Exp} (S : Stood) (D : Put) → NotHanded A T.muts T.plan next (without xs R) → HandedSo A T R (without xs R) xs b S called
      → RedeclaredSo Rb S.inside T.plan.redeclared S.rest D → Within R D.inside → UnitLast l D.rest → HandedAs xs l R Rb false D.inside b called
  unit_given {R = R} {xs = xs} S D none (handed_so {g = g} back y) (redeclared_so {f = h} again z) within (unit_last {f = f} m given u) =
      handed_as {g = λ b. g (h (tree.ends (f (tree.unit m))))}
      (λ w. unit_behind {g = g} {h = h} (without xs R) S.inside D.inside (without_within xs R) none back again given (λ x e s. s) within)
      (y (h (tree.ends (f (tree.unit m)))) (z (tree.ends (f (tree.unit m))) u))
