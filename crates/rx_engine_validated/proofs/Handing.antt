-- Where the caller is found to do with what is handed out what the plan says, it does; with the answer's trees in which references are read.
use Rattle.std.proofs.Common.{◌≡◌, ℕ, suc, Bool, true, false, not, List, [], ◌∷◌, Option, Some, None, if◌then◌else◌, slice_get, refl, ap, ◌∙◌, sym, subst}
use Rattle.rx_core.specs.declared.types.Step.{Step}
use Rattle.rx_typed.specs.Tree as tree
use Rattle.rx_typed.specs.Tree.{Root, variable, temporary, Place, Mark, Pattern, Subpatterns, by_value, by_reference, Exp, Scrutinee, Body, own}
use Rattle.rx_exits_plan.specs.Asked.{Asked}
use Rattle.rx_engine_simulation.specs.Sights.{Hold, fixed, shut, free, How, plain, special, through, copied, viewed, absent, Sight, sight, Renaming, sight_of, IsNew}
use Rattle.rx_engine_simulation.specs.Arrivals.{Within}
use Rattle.rx_engine_simulation.specs.Packing.{Takes, Receives, receives_none, receives_and}
use Rattle.rx_engine_simulation.specs.Handing.{Receiving, received_none, received_and}
use Rattle.rx_engine_simulation.specs.Rereads.{Rereads, in_assign, in_value_of, RereadsBody, in_run, in_let, in_declare}
use Rattle.rx_engine_related.proofs.Choosing.{in_list}
use Rattle.rx_engine_related.specs.Handed.{MayBeAssigned, is_mut, is_local, PutBack, all_back, stays, goes_back, hands_none, hands_assigned, hands_declared, hands_several, none_again, again_and}
use Rattle.rx_engine_alike.specs.Likeness.{is_none, if_so, and_then}
use Rattle.rx_engine_alike.specs.Giving.{takes}
use Rattle.rx_engine_extracted.specs.Told.{Told, is_true, may_be_assigned}
use Rattle.rx_engine_extracted.specs.Handing as handing
use Rattle.rx_engine_extracted.specs.Handing.{received_by, with_one, received_in, received, variable_at, as_assigned, is_sight_in, with_assigned, Put, is_there, put_back, Stood, stood_if}
use Rattle.rx_engine_extracted.specs.Handing.{hands_one, parts_of, hands_back, redeclared, same_hold, same_how, is_seen_so, is_within}
use Rattle.rx_engine_alike_laws.proofs.Promised.{Promised, kept, nothing, Says, says, silent, map_so, then_so, where_so, so, and_so, and_with, or_says, equal_so, none_so}
use Rattle.rx_engine_alike_laws.proofs.Same.{same_bool_so}
use Rattle.rx_engine_alike_laws.proofs.Variables.{is_in_so, is_new_so}
use Rattle.rx_engine_alike_laws.proofs.Giving.{Reread, reread, takes_so, special_so}
use Rattle.rx_engine_validated.proofs.ExtractedLawsParts.{HandedSo, handed_so, HandsSo, RedeclaredSo, redeclared_so}
use Rattle.rx_engine_validated.proofs.Seeing.{none_some, seen_first, Joins, joins, with_seen_so, special_sight_so}

-- a test that says nothing
trivial_so : (b : Bool) → Says (Unit {0}) b
trivial_so true = says tt
trivial_so false = silent

-- ---- the variables that values are received in

pub data ReceivedBy (q : ℕ) : Pattern → Type 0 where
  received_as : {k : ℕ} {mutable : Bool} → ReceivedBy q (tree.bind k q (by_value mutable))

pub received_by_so : (p : Pattern) → Promised (λ q. ReceivedBy q p) (received_by p)
received_by_so (tree.bind k q (by_value mutable)) = kept received_as
received_by_so _ = nothing

received_one : {i q : ℕ} {qs : List ℕ} {p : Pattern} {ps : Subpatterns} → ReceivedBy q p → Receives (suc i) qs ps → Receives i (q ∷ qs) (tree.part_and i p ps)
received_one received_as r = receives_and r

one_so : {i : ℕ} {p : Pattern} {ps : Subpatterns} {o : Option ℕ} {l : Option (List ℕ)} → Promised (λ q. ReceivedBy q p) o → Promised (λ qs. Receives (suc i) qs ps) l
    → Promised (λ qs. Receives i qs (tree.part_and i p ps)) (with_one o l)
one_so (kept b) (kept r) = kept (received_one b r)
one_so (kept b) nothing = nothing
one_so nothing r = nothing

pub received_in_so : (i : ℕ) (ps : Subpatterns) → Promised (λ qs. Receives i qs ps) (received_in i ps)
received_in_so i tree.no_part = kept receives_none
received_in_so i (tree.part_and j p ps) = where_so (equal_so i j) (λ e.
    subst (λ j. Promised (λ qs. Receives i qs (tree.part_and j p ps)) (with_one (received_by p) (received_in (suc i) ps))) e (one_so (received_by_so p) (received_in_so (suc i) ps)))

received_next : {R Rc Rd Rr : Renaming} {x o : ℕ} {xs os : List ℕ} → IsNew R o → Joins Rc x o special Rd → Receiving R Rd xs os Rr → Receiving R Rc (x ∷ xs) (o ∷ os) Rr
received_next new (joins none newer) r = received_and none new newer r

pub received_so : (R Rc : Renaming) (xs os : List ℕ) → Promised (λ Rr. Receiving R Rc xs os Rr) (received R Rc xs os)
received_so R Rc [] [] = kept received_none
received_so R Rc (x ∷ xs) (o ∷ os) = where_so (is_new_so R o) (λ new. then_so (with_seen_so Rc x o special) (λ Rd n. map_so (λ Rr r. received_next new n r) (received_so R Rd xs os)))
received_so R Rc [] (o ∷ os) = nothing
received_so R Rc (x ∷ xs) [] = nothing

-- ---- assignments

variable_so : (r : Root) (ss : List Step) → Promised (λ y. own y ≡ record { root = r; steps = ss }) (variable_at r ss)
variable_so (variable y) [] = kept refl
variable_so _ _ = nothing

data Assigns : ℕ × Exp → Exp → Type 0 where
  assigns_it : {m : Mark} {y : ℕ} {e : Exp} → Assigns (y, e) (tree.assign m (own y) e)

assigned_so : (e : Exp) → Promised (λ r. Assigns r e) (as_assigned e)
assigned_so (tree.assign m p e) = then_so (variable_so p.root p.steps) (λ y q. kept (subst (λ p. Assigns (y, e) (tree.assign m p e)) q assigns_it))
assigned_so _ = nothing

sight_in_so : (o : Option Sight) (y : ℕ) → Says (o ≡ Some (sight y special)) (is_sight_in o y)
sight_in_so None y = silent
sight_in_so (Some e) y = and_so (equal_so e.to y) (special_so e.how) (λ p q. ap (λ z. Some (sight z e.how)) p ∙ ap (λ h. Some (sight y h)) q)

module _ (A : Asked) (T : Told) where
  true_so : (o : Option Bool) → Says (o ≡ Some true) (is_true o)
  true_so None = silent
  true_so (Some true) = says refl
  true_so (Some false) = silent

  may_so : (x : ℕ) → Says (MayBeAssigned A T.muts T.plan x) (may_be_assigned T x)
  may_so x = or_says (so (λ e. is_mut e) (true_so (slice_get T.muts x))) (so (λ i. is_local (in_list i)) (is_in_so x T.plan.locals))

  -- the variable is the caller's own then
  data AssignedTo (R Rc : Renaming) (x y : ℕ) : Renaming → Type 0 where
    assigned_to : sight_of R x ≡ Some (sight y special) → IsNew Rc y → MayBeAssigned A T.muts T.plan x → AssignedTo R Rc x y ((x, sight y special) ∷ Rc)

  with_assigned_so : (R Rc : Renaming) (x y : ℕ) → Promised (λ Rd. AssignedTo R Rc x y Rd) (with_assigned T R Rc x y)
  with_assigned_so R Rc x y = where_so (and_with (sight_in_so (sight_of R x) y) (λ s. and_so (is_new_so Rc y) (may_so x) (λ n m. assigned_to s n m))) (λ a. kept a)

  pub data PutSo (R Rc : Renaming) (xs os : List ℕ) (b : Body) (D : Put) : Type 0 where
    put_so : {f : Body → Body} → PutBack A T.muts T.plan R Rc xs os f D.inside → ((rest : Body) → RereadsBody D.rest rest → RereadsBody b (f rest)) → PutSo R Rc xs os b D

  stays_so : {R Rc : Renaming} {x o : ℕ} {xs os : List ℕ} {b : Body} (D : Put) → PutSo R Rc xs os b D → PutSo R Rc (x ∷ xs) (o ∷ os) b D
  stays_so D (put_so p r) = put_so (stays p) r

  goes_so : {R Rc Rd : Renaming} {x y o : ℕ} {m : Mark} {e : Exp} {xs os : List ℕ} {b : Body} (D : Put) → AssignedTo R Rc x y Rd → Reread Rereads (λ z. Takes o z) e → PutSo R Rd xs os b D
      → PutSo R Rc (x ∷ xs) (o ∷ os) (tree.runs (tree.assign m (own y) e) b) D
  goes_so D (assigned_to s n may) (reread z k t) (put_so p r) = put_so (goes_back s n may t p) (λ rest l. in_run (in_assign k) (r rest l))

  then_goes : {R Rc : Renaming} {x o : ℕ} {xs os : List ℕ} {e : Exp} {b : Body} {q : ℕ × Exp} → Assigns q e → ((Rd : Renaming) → Promised (λ D. PutSo R Rd xs os b D) (put_back T R Rd xs os b))
      → Promised (λ D. PutSo R Rc (x ∷ xs) (o ∷ os) (tree.runs e b) D) (if_so (takes o q.1) (and_then (with_assigned T R Rc x q.0) (λ Rd. put_back T R Rd xs os b)))
  then_goes {R} {Rc} {x} {o} (assigns_it {y = y} {e = e}) rest = where_so (takes_so o e) (λ t. then_so (with_assigned_so R Rc x y) (λ Rd a. map_so (λ D p. goes_so D a t p) (rest Rd)))

  pub put_back_so : (R Rc : Renaming) (xs os : List ℕ) (b : Body) → Promised (λ D. PutSo R Rc xs os b D) (put_back T R Rc xs os b)
  put_back_so R Rc [] [] b = kept (put_so all_back (λ rest l. l))
  put_back_so R Rc (x ∷ xs) (o ∷ os) (tree.runs e b) = by (is_there R x) (put_back_so R Rc xs os (tree.runs e b)) (λ Rd. put_back_so R Rd xs os b)
    where
      by : (t : Bool) → Promised (λ D. PutSo R Rc xs os (tree.runs e b) D) (put_back T R Rc xs os (tree.runs e b)) → ((Rd : Renaming) → Promised (λ D. PutSo R Rd xs os b D) (put_back T R Rd xs os b))
          → Promised (λ D. PutSo R Rc (x ∷ xs) (o ∷ os) (tree.runs e b) D)
          (if t then and_then (as_assigned e) (λ r. if_so (takes o r.1) (and_then (with_assigned T R Rc x r.0) (λ Rd. put_back T R Rd xs os b))) else put_back T R Rc xs os (tree.runs e b))
      by true here rest = then_so (assigned_so e) (λ q a. then_goes a rest)
      by false here rest = map_so (λ D p. stays_so D p) here
  put_back_so R Rc (x ∷ xs) (o ∷ os) (tree.ends e) = where_so (trivial_so (not (is_there R x))) (λ u. map_so (λ D p. stays_so D p) (put_back_so R Rc xs os (tree.ends e)))
  put_back_so R Rc (x ∷ xs) (o ∷ os) (tree.declares n ys b) = where_so (trivial_so (not (is_there R x))) (λ u. map_so (λ D p. stays_so D p) (put_back_so R Rc xs os (tree.declares n ys b)))
  put_back_so R Rc (x ∷ xs) (o ∷ os) (tree.lets n q c b) = where_so (trivial_so (not (is_there R x))) (λ u. map_so (λ D p. stays_so D p) (put_back_so R Rc xs os (tree.lets n q c b)))
  put_back_so R Rc [] (o ∷ os) b = nothing
  put_back_so R Rc (x ∷ xs) [] b = nothing

  -- ---- what stands for the run

  none_so_far : (R Rs : Renaming) (b : Body) → Promised (λ S. HandsSo A T R Rs [] b S) (handing.hands_none Rs b)
  none_so_far R Rs (tree.runs e b) = kept (λ called k. handed_so hands_none (λ rest l. in_run k l))
  none_so_far R Rs _ = nothing

  by_assignment : {R Rs Rr : Renaming} {x y : ℕ} {m : Mark} {e : Exp} {b : Body} → sight_of Rs x ≡ None → AssignedTo R Rs x y Rr
      → HandsSo A T R Rs (x ∷ []) (tree.runs (tree.assign m (own y) e) b) (record { called = e; inside = Rr; rest = b })
  by_assignment none (assigned_to s n may) = λ called k. handed_so (hands_assigned none n s may) (λ rest l. in_run (in_assign k) l)

  then_assigned : {R Rs : Renaming} {x : ℕ} {e : Exp} {b : Body} {q : ℕ × Exp} → Assigns q e
      → Promised (λ S. HandsSo A T R Rs (x ∷ []) (tree.runs e b) S)
      (if_so (is_none (sight_of Rs x)) (and_then (with_assigned T R Rs x q.0) (λ Rr. Some (record { called = q.1; inside = Rr; rest = b }))))
  then_assigned {R} {Rs} {x} (assigns_it {y = y}) = where_so (none_so (sight_of Rs x)) (λ none. then_so (with_assigned_so R Rs x y) (λ Rr a. kept (by_assignment none a)))

  by_declaration : {R Rs Rr : Renaming} {x y n : ℕ} {q : Pattern} {e : Exp} {b : Body} → ReceivedBy y q → Receiving R Rs (x ∷ []) (y ∷ []) Rr
      → HandsSo A T R Rs (x ∷ []) (tree.lets n q (tree.of_value e) b) (record { called = e; inside = Rr; rest = b })
  by_declaration received_as r = λ called k. handed_so (hands_declared r) (λ rest l. in_let (in_value_of k) l)

  one_handed : (R Rs : Renaming) (x : ℕ) (b : Body) → Promised (λ S. HandsSo A T R Rs (x ∷ []) b S) (hands_one T R Rs x b)
  one_handed R Rs x (tree.runs e b) = then_so (assigned_so e) (λ q a. then_assigned a)
  one_handed R Rs x (tree.lets n q (tree.of_value e) b) = then_so (received_by_so q) (λ y c. then_so (received_so R Rs (x ∷ []) (y ∷ [])) (λ Rr r. kept (by_declaration c r)))
  one_handed R Rs x (tree.lets n q (tree.at_place m p) b) = nothing
  one_handed R Rs x (tree.ends e) = nothing
  one_handed R Rs x (tree.declares n ys b) = nothing

  parts_so : (q : Pattern) → Promised (λ ps. q ≡ tree.parts ps) (parts_of q)
  parts_so (tree.parts ps) = kept refl
  parts_so _ = nothing

  by_parts : {R Rs Rr : Renaming} {x z n : ℕ} {xs os : List ℕ} {q : Pattern} {ps : Subpatterns} {e : Exp} {b : Body} (D : Put) → q ≡ tree.parts ps → Receives 0 os ps
      → Receiving R Rs (x ∷ z ∷ xs) os Rr → PutSo R Rr (x ∷ z ∷ xs) os b D
      → HandsSo A T R Rs (x ∷ z ∷ xs) (tree.lets n q (tree.of_value e) b) (record { called = e; inside = D.inside; rest = D.rest })
  by_parts {R} {Rs} {Rr} {x} {z} {n} {xs} {os} {q} {ps} {e} {b} D i c r (put_so p l) =
      λ called k. subst (λ q. HandedSo A T R Rs (x ∷ z ∷ xs) (tree.lets n q (tree.of_value e) b) (record { called = e; inside = D.inside; rest = D.rest }) called) (sym i)
      (handed_so (hands_several r c p) (λ rest m. in_let (in_value_of k) (l rest m)))

  stood_so : {P : Stood → Type 0} {Q : Put → Type 0} {o : Option Put} (e : Exp) → ((D : Put) → Q D → P (record { called = e; inside = D.inside; rest = D.rest })) → Promised Q o
      → Promised P (stood_if o e)
  stood_so e f (kept {a = D} q) = kept (f D q)
  stood_so e f nothing = nothing

  several_handed : (R Rs : Renaming) (x z : ℕ) (xs : List ℕ) (b : Body) → Promised (λ S. HandsSo A T R Rs (x ∷ z ∷ xs) b S) (handing.hands_several T R Rs (x ∷ z ∷ xs) b)
  several_handed R Rs x z xs (tree.lets n q (tree.of_value e) b) = then_so (parts_so q) (λ ps i. then_so (received_in_so 0 ps) (λ os c. then_so (received_so R Rs (x ∷ z ∷ xs) os) (λ Rr r.
      stood_so e (λ D p. by_parts D i c r p) (put_back_so R Rr (x ∷ z ∷ xs) os b))))
  several_handed R Rs x z xs (tree.lets n q (tree.at_place m p) b) = nothing
  several_handed R Rs x z xs (tree.ends e) = nothing
  several_handed R Rs x z xs (tree.runs e b) = nothing
  several_handed R Rs x z xs (tree.declares n ys b) = nothing

  pub hands_so : (R Rs : Renaming) (outs : List ℕ) (b : Body) → Promised (λ S. HandsSo A T R Rs outs b S) (hands_back T R Rs outs b)
  hands_so R Rs [] b = none_so_far R Rs b
  hands_so R Rs (x ∷ []) b = one_handed R Rs x b
  hands_so R Rs (x ∷ z ∷ xs) b = several_handed R Rs x z xs b

-- ---- declared again

again_next : {Rb Rc Rd : Renaming} {x y n : ℕ} {xs : List ℕ} {b : Body} (D : Put) → (z : ℕ) × (sight_of Rb x ≡ Some (sight z special)) → Joins Rc x y special Rd → RedeclaredSo Rb Rd xs b D
    → RedeclaredSo Rb Rc (x ∷ xs) (tree.declares n (y ∷ []) b) D
again_next D s (joins none new) (redeclared_so d r) = redeclared_so (again_and s.1 none new d) (λ rest l. in_declare (r rest l))

pub declares_so : (Rb Rc : Renaming) (xs : List ℕ) (b : Body) → Promised (λ D. RedeclaredSo Rb Rc xs b D) (redeclared Rb Rc xs b)
declares_so Rb Rc [] b = kept (redeclared_so none_again (λ rest l. l))
declares_so Rb Rc (x ∷ xs) (tree.declares n (y ∷ []) b) =
    where_so (special_sight_so (sight_of Rb x)) (λ s. then_so (with_seen_so Rc x y special) (λ Rd j. map_so (λ D d. again_next D s j d) (declares_so Rb Rd xs b)))
declares_so Rb Rc (x ∷ xs) (tree.declares n (y ∷ z ∷ zs) b) = nothing
declares_so Rb Rc (x ∷ xs) (tree.declares n [] b) = nothing
declares_so Rb Rc (x ∷ xs) (tree.ends e) = nothing
declares_so Rb Rc (x ∷ xs) (tree.runs e b) = nothing
declares_so Rb Rc (x ∷ xs) (tree.lets n q c b) = nothing

-- ---- nothing is lost

same_hold_so : (w v : Hold) → Says (w ≡ v) (same_hold w v)
same_hold_so fixed fixed = says refl
same_hold_so shut shut = says refl
same_hold_so free free = says refl
same_hold_so _ _ = silent

same_how_so : (h k : How) → Says (h ≡ k) (same_how h k)
same_how_so (plain w) (plain v) = so (λ e. ap plain e) (same_hold_so w v)
same_how_so special special = says refl
same_how_so (through w m) (through v n) = and_so (same_hold_so w v) (same_bool_so m n) (λ e f. ap (λ u. through u m) e ∙ ap (λ b. through v b) f)
same_how_so copied copied = says refl
same_how_so viewed viewed = says refl
same_how_so absent absent = says refl
same_how_so _ _ = silent

seen_so : (o : Option Sight) (s : Sight) → Says (o ≡ Some s) (is_seen_so o s)
seen_so None s = silent
seen_so (Some t) s = and_so (equal_so t.to s.to) (same_how_so t.how s.how) (λ p q. ap (λ y. Some (sight y t.how)) p ∙ ap (λ h. Some (sight s.to h)) q)

pub within_so : (R S : Renaming) → Says (Within R S) (is_within R S)
within_so [] S = says (λ x e s. absurd (none_some s))
within_so (b ∷ R) S = and_so (seen_so (sight_of S b.0) b.1) (within_so R S) (λ p f x e s. seen_first b R x s (λ i j. ap (λ y. sight_of S y) i ∙ (p ∙ ap Some j)) (λ q. f x e q))
