-- What a function declares whose lifetimes are written otherwise: the types of before under other numbers, where these fit place by place.
use Rattle.std.proofs.Common.{◌≡◌, inl, inr, ℕ, Bool, true, false, nat_eq, List, [], ◌∷◌, ◌++◌, length, map, Option, Some, None, Ok, Err, refl, sym, ap, subst, ◌∙◌, if◌then◌else◌}
use Rattle.std.proofs.lemmas.Bool.{eqb-true, eq-eqb}
use Rattle.rx_core.specs.declared.types.Bound.{Bound}
use Rattle.rx_core.specs.declared.types.Span.{Span}
use Rattle.rx_core.specs.declared.types.Ty.{Ty}
use Rattle.rx_core.specs.declared.types.Ty.TheVariants as ty
use Rattle.rx_tree.specs.Plain.{TypeTree, Function, ProgramTree}
use Rattle.rx_resolve_names.specs.declared.resolved.NodeNames.{NodeNames}
use Rattle.rx_resolve_names.specs.Scopes.{DeclaredNames}
use Rattle.rx_resolve_names.specs.Meant.{number}
use Rattle.rx_typed.specs.declared.declarations.Decl.{Decl}
use Rattle.rx_typed.specs.declared.declarations.Decl.TheVariants as decl
use Rattle.rx_typed.specs.Regions.{regions_of, region-Ty, region_of_tuple}
use Rattle.rx_typed.specs.Renaming.{renamed, all_renamed}
use Rattle.rx_typeck_typed.specs.declared.fault.DeclareFault.{DeclareFault}
use Rattle.rx_typeck_typed.specs.Steps.{Outcome, Reading, on_ok}
use Rattle.rx_typeck_typed.specs.Written.{type_of}
use Rattle.rx_typeck_typed.specs.Items.{bounded, bounds_of, all_are, the_only, answer_of, declared_function}
use Rattle.rx_compact_lifetimes.specs.declared.rewriting.Rewriting.{Rewriting}
use Rattle.rx_compact_lifetimes.specs.Rewritten.{rewritten_type, rewritten_optional, rewritten_parameter}
use Rattle.rx_compact_laws.specs.Resolved.{declared}
use Rattle.rx_compact_types.specs.Positions.{Position, as_parameter, as_result, positions, parameter_positions, numbers, ends, NoneLeftOut, MayLeaveOut, unnumbered_parameters}
use Rattle.rx_compact_types.proofs.Roles.{role_of, reading, answer_is}
use Rattle.rx_compact_types.proofs.Steps.{fit}
use Rattle.rx_compact_types.proofs.Reading.{IsType}
use Rattle.rx_compact_types.proofs.Signature.{ResultTold, SignatureTold}
use Rattle.rx_compact_types.proofs.Filling.{renamed_by_form, all_renamed_by_form}
use Rattle.rx_compact_types.proofs.Turning.{SameDeclared, turn, type_turned, parameters_turned, form_same, parameter_forms_same, Fitting, numbers_fit}

pub read_ok : {A B : Type 0} (m : Outcome A) (f : A → Outcome B) (b : B) → on_ok m f ≡ Ok b → (a : A) × (m ≡ Ok a) × (f a ≡ Ok b)
read_ok (Ok a) f b e = (a, refl, e)
read_ok (Err x) f b e = absurd (cc)

ok_is : {A : Type 0} (a b : A) → ◌≡◌ {A = Outcome A} (Ok a) (Ok b) → a ≡ b
ok_is a b e = cc

-- ---- the only lifetime of the parameters

all_same : (f : ℕ → ℕ) (l : ℕ) (ns : List ℕ) → all_are l ns ≡ true → all_are (f l) (map f ns) ≡ true
all_same f l [] e = refl
all_same f l (n ∷ ns) e = by (nat_eq n l) refl e (all_same f l ns)
  where
    by : (b : Bool) → nat_eq n l ≡ b → (if b then all_are l ns else false) ≡ true → (all_are l ns ≡ true → all_are (f l) (map f ns) ≡ true) → all_are (f l) (map f (n ∷ ns)) ≡ true
    by true h g again = ap (λ b. if b then all_are (f l) (map f ns) else false) (eq-eqb (f n) (f l) (ap f (eqb-true n l h))) ∙ again g
    by false h g again = absurd (cc)

pub only_stays : (f : ℕ → ℕ) (ns : List ℕ) (l : ℕ) → the_only ns ≡ Some l → the_only (map f ns) ≡ Some (f l)
only_stays f [] l e = absurd (cc)
only_stays f (n ∷ ns) l e = by (all_are n ns) refl e
  where
    some_is : (a b : ℕ) → ◌≡◌ {A = Option ℕ} (Some a) (Some b) → a ≡ b
    some_is a b e = cc

    by : (b : Bool) → all_are n ns ≡ b → (if b then Some n else None) ≡ Some l → the_only (map f (n ∷ ns)) ≡ Some (f l)
    by true h g = ap (λ b. if b then Some (f n) else None) (all_same f n ns h) ∙ ap (λ a. Some (f a)) (some_is n l g)
    by false h g = absurd (cc)

may_none : (o : Option ℕ) (xs : List Position) → NoneLeftOut xs → MayLeaveOut (as_result o) xs
may_none None xs h = h
may_none (Some l) xs h = tt

-- ---- a function and another

-- the types of the second are those of the first under other numbers
pub record TypesUnder (n m : ℕ) (f : ℕ → ℕ) (old : Decl) (olds : List Bound) (g : Function) (at : List ℕ) (new : Outcome Decl) : Type 0 where
  pub count : ℕ
  pub count_is : count ≡ n
  pub params : List Ty
  pub answer : Ty
  pub is : old ≡ decl.Func count params answer olds
  pub new_count : ℕ
  pub new_count_is : new_count ≡ m
  pub new_params : List Ty
  pub new_answer : Ty
  pub declares : new ≡ Ok (decl.Func new_count new_params new_answer (bounds_of (bounded 0 g.lifetimes) at))
  pub params_are : regions_of (map region-Ty new_params) ≡ all_renamed f (regions_of (map region-Ty params))
  pub answer_is : region-Ty new_answer ≡ renamed f (region-Ty answer)

module _ (rs : List Rewriting) (F : ℕ → ℕ) (p q : ProgramTree) (same : SameDeclared p q) (n : ℕ) (s : Span) (f g : Function) (as' bs : List NodeNames)
    (S : SignatureTold p n s f as') (T : SignatureTold q n s g bs) (params : g.params ≡ map (rewritten_parameter rs) f.params) (result : g.result ≡ rewritten_optional rs f.result) where
  abbrev L : DeclaredNames
  L = declared s f

  abbrev M : DeclaredNames
  M = declared s g

  abbrev k : ℕ
  k = number (length f.lifetimes)

  abbrev j : ℕ
  j = number (length g.lifetimes)

  abbrev xs : List Position
  xs = parameter_positions p f.params

  -- the lifetimes of the parameters
  abbrev pub old : List ℕ
  old = numbers as_parameter L k xs

  abbrev pub new : List ℕ
  new = numbers as_parameter M j (parameter_positions q g.params)

  abbrev kk : ℕ
  kk = ends as_parameter k xs

  abbrev jj : ℕ
  jj = ends as_parameter j (parameter_positions q g.params)

  -- those of a result fit too, where the parameters have one, and where it leaves out none
  pub record ResultFits (t : TypeTree) : Type 0 where
    pub one : (l : ℕ) → the_only old ≡ Some l → Fitting rs F L M (as_result (Some l)) (as_result (Some (F l))) kk jj (positions p t)
    pub none : the_only old ≡ None → NoneLeftOut (positions p t) → (o : Option ℕ) → NoneLeftOut (map (turn rs) (positions p t)) × Fitting rs F L M (as_result None) (as_result o) kk jj (positions p t)

  module _ (fits : Fitting rs F L M as_parameter as_parameter k j xs) (answers : (t : TypeTree) → f.result ≡ Some t → ResultFits t) where
    pub news_are : new ≡ map F old
    news_are = ap (λ ys. numbers as_parameter M j ys) (ap (parameter_positions q) params ∙ parameters_turned rs p q same f.params) ∙ numbers_fit rs F L M as_parameter as_parameter k j xs fits

    params_under : regions_of (map region-Ty T.params) ≡ all_renamed F (regions_of (map region-Ty S.params))
    params_under = all_renamed_by_form F (regions_of (map region-Ty S.params)) (regions_of (map region-Ty T.params))
        (T.params_are.1 ∙ (ap (λ ys. unnumbered_parameters q ys) params ∙ (parameter_forms_same rs p q same f.params ∙ sym S.params_are.1)))
        (T.params_are.0 ∙ (news_are ∙ ap (map F) (sym S.params_are.0)))

    -- what is read as the result of both
    record Answered (v : Ty) : Type 0 where
      new_answer : Ty
      after : Reading
      reads : answer_of q g.result (reading T.left new jj) ≡ Ok (new_answer, after)
      is : region-Ty new_answer ≡ renamed F (region-Ty v)

    answered_one : (t : TypeTree) → f.result ≡ Some t → (l : ℕ) → the_only old ≡ Some l → (v : Ty) → IsType p t v (numbers (as_result (Some l)) L kk (positions p t)) → Answered v
    answered_one t w l o v d =
        let there : g.result ≡ Some (rewritten_type rs t) = result ∙ ap (rewritten_optional rs) w in
        let R = T.result (rewritten_type rs t) there in
        let r = R.told.reads (as_result (Some (F l))) tt in
        let x = r.run R.rest new jj in
        let h = fit r R.rest new jj in
        record {
          new_answer = x.0;
          after = reading R.rest (new ++ numbers (as_result (Some (F l))) M jj (positions q (rewritten_type rs t))) (ends (as_result (Some (F l))) jj (positions q (rewritten_type rs t)));
          reads =
              ap (λ y. answer_of q y (reading T.left new jj)) there
              ∙ (answer_is q (rewritten_type rs t) T.left new jj (Some (F l)) (ap the_only news_are ∙ only_stays F old l o)
              ∙ (ap (λ ns. type_of q (role_of (as_result (Some (F l)))) (rewritten_type rs t) (reading ns new jj)) R.is ∙ x.1));
          is = renamed_by_form F (region-Ty v) (region-Ty x.0) (h.1 ∙ (form_same rs p q same t ∙ sym d.1))
              (h.0 ∙ (ap (λ ys. numbers (as_result (Some (F l))) M jj ys) (type_turned rs p q same t)
              ∙ (numbers_fit rs F L M (as_result (Some l)) (as_result (Some (F l))) kk jj (positions p t) ((answers t w).one l o) ∙ ap (map F) (sym d.0))));
        }

    answered_none : (t : TypeTree) → f.result ≡ Some t → the_only old ≡ None → NoneLeftOut (positions p t) → (v : Ty) → IsType p t v (numbers (as_result None) L kk (positions p t)) → Answered v
    answered_none t w o none v d =
        let there : g.result ≡ Some (rewritten_type rs t) = result ∙ ap (rewritten_optional rs) w in
        let e : Option ℕ = the_only new in
        let ok = (answers t w).none o none e in
        let R = T.result (rewritten_type rs t) there in
        let r = R.told.reads (as_result e) (may_none e (positions q (rewritten_type rs t)) (subst NoneLeftOut (sym (type_turned rs p q same t)) ok.0)) in
        let x = r.run R.rest new jj in
        let h = fit r R.rest new jj in
        record {
          new_answer = x.0;
          after = reading R.rest (new ++ numbers (as_result e) M jj (positions q (rewritten_type rs t))) (ends (as_result e) jj (positions q (rewritten_type rs t)));
          reads =
              ap (λ y. answer_of q y (reading T.left new jj)) there
              ∙ (answer_is q (rewritten_type rs t) T.left new jj e refl ∙ (ap (λ ns. type_of q (role_of (as_result e)) (rewritten_type rs t) (reading ns new jj)) R.is ∙ x.1));
          is = renamed_by_form F (region-Ty v) (region-Ty x.0) (h.1 ∙ (form_same rs p q same t ∙ sym d.1))
              (h.0 ∙ (ap (λ ys. numbers (as_result e) M jj ys) (type_turned rs p q same t)
              ∙ (numbers_fit rs F L M (as_result None) (as_result e) kk jj (positions p t) ok.1 ∙ ap (map F) (sym d.0))));
        }

    -- what the first has read as its result, by the lifetimes of its parameters
    answered_some : (t : TypeTree) → f.result ≡ Some t → (o : Option ℕ) → the_only old ≡ o → (R : ResultTold p (number n) L t S.left) → (y : Ty × Reading)
        → type_of p (role_of (as_result o)) t (reading S.left old kk) ≡ Ok y → Answered y.0
    answered_some t w (Some l) o R y e =
        let r = R.told.reads (as_result (Some l)) tt in
        let x = r.run R.rest old kk in
        let v : x.0 ≡ y.0 = ap (λ (z : Ty × Reading). z.0) (ok_is (x.0, reading R.rest (old ++ numbers (as_result (Some l)) L kk (positions p t)) (ends (as_result (Some l)) kk (positions p t))) y
        (sym x.1 ∙ (sym (ap (λ ns. type_of p (role_of (as_result (Some l))) t (reading ns old kk)) R.is) ∙ e))) in
        answered_one t w l o y.0 (subst (λ z. IsType p t z (numbers (as_result (Some l)) L kk (positions p t))) v (fit r R.rest old kk))
    answered_some t w None o R y e = elim R.told.fails [
      | inr b ↦ (let z = b.at R.rest old kk in absurd (clash z.0 (sym z.1 ∙ (sym (ap (λ ns. type_of p (role_of (as_result None)) t (reading ns old kk)) R.is) ∙ e))))
      | inl none ↦ (
          let r = R.told.reads (as_result None) none in
          let x = r.run R.rest old kk in
          let v : x.0 ≡ y.0 = ap (λ (z : Ty × Reading). z.0) (ok_is (x.0, reading R.rest (old ++ numbers (as_result None) L kk (positions p t)) (ends (as_result None) kk (positions p t))) y
          (sym x.1 ∙ (sym (ap (λ ns. type_of p (role_of (as_result None)) t (reading ns old kk)) R.is) ∙ e))) in
          answered_none t w o none y.0 (subst (λ z. IsType p t z (numbers (as_result None) L kk (positions p t))) v (fit r R.rest old kk)))
    ]
      where
        clash : (x : DeclareFault) → ◌≡◌ {A = Outcome (Ty × Reading)} (Err x) (Ok y) → ⊥
        clash x e = cc

    answered : (o : Option TypeTree) → f.result ≡ o → (y : Ty × Reading) → answer_of p o (reading S.left old kk) ≡ Ok y → Answered y.0
    answered None w y e =
        let there : g.result ≡ None = result ∙ ap (rewritten_optional rs) w in
        let v : ty.Tuple [] ≡ y.0 = ap (λ (z : Ty × Reading). z.0) (ok_is (ty.Tuple [], reading S.left old kk) y e) in
        record {
          new_answer = ty.Tuple [];
          after = reading T.left new jj;
          reads = ap (λ y. answer_of q y (reading T.left new jj)) there;
          is = region_of_tuple [] ∙ (sym (ap (renamed F) (region_of_tuple [])) ∙ ap (λ z. renamed F (region-Ty z)) v);
        }
    answered (Some t) w y e = answered_some t w (the_only old) refl (S.result t w) y (sym (answer_is p t S.left old kk (the_only old) refl) ∙ e)

    pub types_under : (d : Decl) → declared_function p as' f ≡ Ok d → TypesUnder kk jj F d (bounds_of (bounded 0 f.lifetimes) S.bound_at) g T.bound_at (declared_function q bs g)
    types_under d e =
        let a = read_ok (answer_of p f.result (reading S.left old kk)) (λ a. Ok (decl.Func kk S.params a.0 (bounds_of (bounded 0 f.lifetimes) S.bound_at))) d (sym S.declares ∙ e) in
        let x = answered f.result refl a.0 a.1 in
        record {
          count = kk;
          count_is = refl;
          params = S.params;
          answer = a.0.0;
          is = sym (ok_is (decl.Func kk S.params a.0.0 (bounds_of (bounded 0 f.lifetimes) S.bound_at)) d a.2);
          new_count = jj;
          new_count_is = refl;
          new_params = T.params;
          new_answer = x.new_answer;
          declares = T.declares ∙ ap (λ o. on_ok o (λ a. Ok (decl.Func jj T.params a.0 (bounds_of (bounded 0 g.lifetimes) T.bound_at)))) x.reads;
          params_are = params_under;
          answer_is = x.is;
        }
