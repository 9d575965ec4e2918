-- What becomes of the variables of the caller, by the plan, where it calls and is left by an exit.
use Rattle.std.proofs.Common.{◌≡◌, ◌⊎◌, inl, inr, ℕ, Bool, true, false, not, List, [], ◌∷◌, ◌++◌, Some, refl, sym, ◌∙◌, subst, ap, true≢false, slice_get}
use Rattle.rx_typed.specs.Tree.{Mark, Parameter, Operands, own, temporary_at, temporaries_of}
use Rattle.rx_lower_walks.specs.Actions.{Declare, Write, Call, Action, does, at_mark}
use Rattle.rx_lower_walks.specs.Walks.{Among, here, there}
use Rattle.rx_facts_tables.specs.Wholes.{assigns, begins}
use Rattle.rx_facts_tables.specs.Initialised.{IsFixed}
use Rattle.rx_exits_plan.specs.Occurrences.{is_declared_in_run}
use Rattle.rx_exits_plan.specs.Points.{Exit}
use Rattle.rx_exits_plan.specs.Asked.{Asked}
use Rattle.rx_exits_plan.specs.Plan.{Plan, IsPlan, variables_of, foreign_of}
use Rattle.rx_modes_policy.specs.declared.uses.Mode.{Mode}
use Rattle.rx_engine_simulation.specs.Sights.{Hold, How, plain, special, through, copied, viewed, absent, In, Sight, sight, Renaming, sight_of}
use Rattle.rx_engine_simulation.specs.Arrivals.{Within}
use Rattle.rx_engine_related.specs.AboutRun.{special_of}
use Rattle.rx_engine_related.specs.Premises.{NotHanded}
use Rattle.rx_engine_related.specs.Given.{GivenTo, LocalsOf}
use Rattle.rx_engine_related.proofs.Choosing.{chosen_is, to_those, out_is, special_is, elsewhere_named, offered_named}
use Rattle.rx_engine_initial.specs.Variables.{Sides, KnownVariables}
use Rattle.rx_engine_initial.specs.Fates.{AllLeave}
use Rattle.rx_engine_initial.proofs.Tracing.{joined}
use Rattle.rx_engine_initial.proofs.Uses.{some_is}
use Rattle.rx_engine_initial_calls.specs.Received.{MayTake, is_mutable, is_local}
use Rattle.rx_engine_initial_calls.specs.Becoming.{Becomes, is_unnamed, is_lent, is_handed, is_gone, is_spent, is_again}
use Rattle.rx_engine_initial_forms.specs.Agreeing.{Agrees}
use Rattle.rx_engine_initial_related.specs.CallerAsked.{IsSlot, NeededNoMore, GivenSo, CallerAsked}
use Rattle.rx_engine_initial_related.proofs.Scope.{AllSlots, seen}
use Rattle.rx_engine_initial_related.proofs.Arguments.{one_more_leaves, Arguments, arguments}
use Rattle.rx_engine_initial_related.proofs.Coming.{Came, was_so, was_written, has_begun, both_leave}
use Rattle.rx_engine_initial_related.proofs.Lists.{split, in_or_not, leaves_quiet, not_special, local_special}

module _ (S : Sides) (A : Asked) (k : Plan) (plan : IsPlan A k) (R : Renaming) (K : KnownVariables S) (g : Agrees S R K) (all : AllSlots R) (Rn : Renaming) (asked : CallerAsked S A k R Rn) where
  pub foreign : (x : ℕ) (s : Sight) → sight_of R x ≡ Some s → Among x (variables_of A) → Among x (foreign_of A)
  foreign x s p v = to_those (λ z. not (is_declared_in_run A.run A.home.body z)) (variables_of A) v (ap not (asked.outside x s p))

  param_foreign : (x : ℕ) → Among x k.params → Among x (foreign_of A)
  param_foreign x i = (chosen_is plan.params i).0

  pub may : (e : Exit) → Among e k.exits → (x y : ℕ) → sight_of R x ≡ Some (sight y special) → Among x (k.outs e) → MayTake S k e y x
  may e i x y p o = by (asked.assignable e i x o (foreign x (sight y special) p (offered_named A k plan x (out_is A k plan e i x o).0)))
    where
      by : (slice_get S.muts_there x ≡ Some true) ⊎ Among x k.locals → MayTake S k e y x
      by (inl q) = is_mutable (λ (c : IsFixed S.muts y). absurd (true≢false (some_is (sym q ∙ (K.alike y x (seen S R K g all x (sight y special) p)).fixed c))))
      by (inr l) = is_local l o

  module _ {again : Bool} {cold : List ℕ} {modes : List Mode} (es : Operands) {ps : List Parameter} {Rp : Renaming} (to : GivenTo again R cold [] k.params modes es ps Rp) (so : GivenSo A k to)
      {ls : List (ℕ × ℕ)} {Rl : Renaming} (locals : LocalsOf R Rp k.locals ls Rl) (mc : Mark) (i : ℕ) where
    abbrev pub call : Action
    call = at_mark mc (Call i (temporaries_of es) (temporary_at mc.node 0))

    pub args : Arguments S A k R K g all [] k.params es
    args = arguments S A k R K g all to so

    -- what the caller does first, and what it does then that leaves all as it is
    abbrev pub in_front : List Action → List Action
    in_front more = args.actions ++ (call ∷ more)

    module _ (e : Exit) (exits : Among e k.exits) (agains : List ℕ) (again_special : (x : ℕ) → Among x agains → In x (special_of A S.muts_there k) × (Among x (k.outs e) → ⊥)) (Rs : Renaming) (within : Within Rs R) (not_handed : NotHanded A S.muts_there k e Rs)
        (more behind : List Action) (left : (x : ℕ) (s : Sight) → sight_of R x ≡ Some s → AllLeave more s.to) where
      call_quiet : (y : ℕ) → AllLeave more y → (a : Action) → Among a (call ∷ more) → (assigns y a.act ≡ false) × (begins y a.act ≡ false)
      call_quiet y l _ here = (refl, refl)
      call_quiet y l a (there j) = leaves_quiet a.act y (l a j)

      all_quiet : (y : ℕ) → AllLeave more y → AllLeave behind y → (a : Action) → Among a (in_front more ++ behind) → (assigns y a.act ≡ false) × (begins y a.act ≡ false)
      all_quiet y h l a j = by (split (in_front more) behind j)
        where
          front : Among a args.actions ⊎ Among a (call ∷ more) → (assigns y a.act ≡ false) × (begins y a.act ≡ false)
          front (inl j) = args.quiet a j y
          front (inr j) = call_quiet y h a j

          by : Among a (in_front more) ⊎ Among a behind → (assigns y a.act ≡ false) × (begins y a.act ≡ false)
          by (inl j) = front (split args.actions (call ∷ more) j)
          by (inr j) = leaves_quiet a.act y (l a j)

      special_gone : (x : ℕ) (s : Sight) → sight_of R x ≡ Some s → sight_of Rs x ≡ Some (sight s.to special) → AllLeave behind s.to → Becomes S A k e K (in_front more ++ behind) s.to x
      special_gone x s p q l =
          let z = not_handed x s.to q in
          is_gone (seen S R K g all x s p) z.0 (foreign x s p (elsewhere_named A S.muts_there k plan x (special_is A S.muts_there k plan x z.0))) z.1
          (λ a j. all_quiet s.to (left x s p) l a j)

      plain_stays : (x : ℕ) (s : Sight) (w : Hold) → sight_of R x ≡ Some s → sight_of R x ≡ Some (sight s.to (plain w)) → AllLeave behind s.to → Becomes S A k e K (in_front more ++ behind) s.to x
      plain_stays x s w p q l = by (in_or_not x (foreign_of A)) (args.leave x s.to w q)
        where
          left_there : AllLeave args.actions s.to → AllLeave (in_front more ++ behind) s.to
          left_there h = both_leave (in_front more) behind s.to (both_leave args.actions (call ∷ more) s.to h (one_more_leaves call more s.to tt (left x s p))) l

          given : Among x k.params ⊎ Among x k.locals → AllLeave args.actions s.to → Becomes S A k e K (in_front more ++ behind) s.to x
          given (inl j) h = is_lent (seen S R K g all x s p) j (left_there h)
          given (inr j) h = let z = local_special locals x j in not_special (sym z.1 ∙ q)

          by : Among x (foreign_of A) ⊎ (Among x (foreign_of A) → ⊥) → AllLeave args.actions s.to ⊎ (Among x k.params × NeededNoMore A k x) → Becomes S A k e K (in_front more ++ behind) s.to x
          by (inl j) (inl h) = given (asked.known x j) h
          by (inr n) (inl h) = is_unnamed (seen S R K g all x s p) (λ v. n (foreign x s p v)) (left_there h)
          by o (inr n) = is_spent (seen S R K g all x s p) (param_foreign x n.0) (n.1 e exits) (λ a j. all_quiet s.to (left x s p) l a j)

      was_there : (x : ℕ) (s : Sight) → sight_of Rs x ≡ Some s → AllLeave behind s.to → Becomes S A k e K (in_front more ++ behind) s.to x
      was_there x s q l = by s.how refl
        where
          by : (w : How) → s.how ≡ w → Becomes S A k e K (in_front more ++ behind) s.to x
          by (plain w) c = plain_stays x s w (within x s q) (within x s q ∙ ap (λ v. Some (sight s.to v)) c) l
          by special c = special_gone x s (within x s q) (q ∙ ap (λ v. Some (sight s.to v)) c) l
          by (through w m) c = absurd (subst (λ v. IsSlot v) c (all x s (within x s q)))
          by copied c = absurd (subst (λ v. IsSlot v) c (all x s (within x s q)))
          by viewed c = absurd (subst (λ v. IsSlot v) c (all x s (within x s q)))
          by absent c = absurd (subst (λ v. IsSlot v) c (all x s (within x s q)))

      pub becomes_so : (x : ℕ) (s : Sight) → Came k e agains Rs behind x s → Becomes S A k e K (in_front more ++ behind) s.to x
      becomes_so x s (was_so q l) = was_there x s q l
      becomes_so x s (was_written o b c n t ss q l) =
          is_handed o (in_front more ++ b) c n t ss (ap (λ v. in_front more ++ v) q ∙ sym (joined (in_front more) b (does n (Write (own s.to) t ss) ∷ c))) l
      becomes_so x s (has_begun o b c n q l) = let z = again_special x o in
          is_again z.0 z.1 (in_front more ++ b) c n (ap (λ v. in_front more ++ v) q ∙ sym (joined (in_front more) b (does n (Declare s.to) ∷ c))) l
