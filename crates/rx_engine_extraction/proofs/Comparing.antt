-- What is told of a run by what is decided of it, and what is found of an answer, as the definitions say.
use Rattle.std.proofs.Common.{◌≡◌, ℕ, ◌+◌, ◌-◌, ◌≤◌, ◌<◌, Bool, true, false, ◌&&◌, List, [], ◌∷◌, ◌++◌, length, map, None, Result, refl, sym, ap, subst, ◌∙◌, true≢false, arith}
use Rattle.std.specs.Prelude.{◌↔◌, IfOk, IfErr, nat_le, if◌then◌else◌}
use Rattle.std.specs.declared.alloc.AllocError.{AllocError}
use Rattle.std.proofs.lemmas.Bool.{le-leb, lt-leb}
use Rattle.rx_tree.specs.Plain.{ProgramTree}
use Rattle.rx_parse_grammar.specs.grammar.Items.{Parses}
use Rattle.rx_parse.specs.declared.fault.SyntaxFault.{SyntaxFault}
use Rattle.rx_parse.specs.declared.fault.SyntaxFault.TheVariants as syntax_fault
use Rattle.rx_resolve_names.specs.declared.resolved.ItemNames.{ItemNames}
use Rattle.rx_typed.specs.PlainTypes.{declarations}
use Rattle.rx_typeck_typed.specs.declared.typed.Typed.{Typed}
use Rattle.rx_typeck_typed.specs.declared.typed.TypedFn.{TypedFn}
use Rattle.rx_typeck_typed.specs.Typing.{IsTyped}
use Rattle.rx_lower_walks.specs.Walks.{Among, here, there}
use Rattle.rx_facts.specs.Functions.{body}
use Rattle.rx_facts.specs.Same.{AreSame}
use Rattle.rx_check.specs.declared.fault.CheckFault.{CheckFault}
use Rattle.rx_check.specs.declared.fault.CheckFault.TheVariants as check_fault
use Rattle.rx_check.specs.Causes.{Causes}
use Rattle.rx_check.specs.Passes.{Accepted}
use Rattle.rx_check.specs.Front.{Judged, IsCheckedOf}
use Rattle.rx_meaning.specs.Expressions.{Functions}
use Rattle.rx_meaning.specs.Programs.{Program}
use Rattle.rx_machine.specs.Functions.{program_of}
use Rattle.rx_exits_plan.specs.Points.{Exit}
use Rattle.rx_exits_plan.specs.Asked.{Asked}
use Rattle.rx_exits_plan.specs.Occurrences.{those}
use Rattle.rx_exits_plan.specs.PlainPlan.{plain-Run, plain-Exit, plan_with, plan_of}
use Rattle.rx_exits_plan.specs.declared.plan.ExitOuts.{ExitOuts}
use Rattle.rx_exits_plan.specs.declared.plan.ExitPlan.{ExitPlan}
use Rattle.rx_modes_policy.specs.declared.uses.Mode.{Mode}
use Rattle.rx_modes_given.specs.GivenAway.{is_given_away}
use Rattle.rx_engine_related.specs.AboutRun.{handed, special_of}
use Rattle.rx_engine_alike.specs.Items.{items_with}
use Rattle.rx_engine_extracted.specs.Told.{Told}
use Rattle.rx_engine_extracted.specs.Programs.{extracts}
use Rattle.rx_engine_extraction.specs.declared.given.Decision.{Decision}
use Rattle.rx_engine_extraction.specs.declared.refusal.Fault.{Fault}
use Rattle.rx_engine_extraction.specs.declared.refusal.Fault.TheVariants as fault
use Rattle.rx_engine_extraction.specs.Source.{Text, declared_in}
use Rattle.rx_engine_extraction.specs.Case.{Case, asked}
use Rattle.rx_engine_extraction.specs.Confirmed.{units_among, units_if, whole_of, told_by, is_found, IsConfirmed}
use Rattle.rx_engine_extraction.specs.Confirming.{given_among, handed_among, elsewhere_by, IsTold, found_in, IsFoundIn, unless_memory, lacks_memory, lacks_memory_read}
use Rattle.rx_engine_extraction.specs.Deciding.{place_in, case_of}
use Rattle.rx_engine_extraction.proofs.AgreeingFound.{found_alike}
use Rattle.rx_engine_extraction.proofs.AgreeingTypes.{one_meaning}

-- ---- what is told

given_are : (f : ℕ → Bool) (xs : List ℕ) → given_among xs (map f xs) ≡ those f xs
given_are f [] = refl
given_are f (x ∷ xs) = let r = given_are f xs in λ i. if f x then x ∷ r i else r i

handed_are : (outs : Exit → List ℕ) (es : List ExitOuts) → ((e : ExitOuts) → Among e es → outs (plain-Exit e.exit) ≡ e.outs)
    → handed_among es ≡ handed (map (λ (e : ExitOuts). plain-Exit e.exit) es) outs
handed_are outs [] h = refl
handed_are outs (e ∷ es) h = let r = handed_are outs es (λ x a. h x (there a)) in λ i. sym (h e here) i ++ r i

module _ (T : Text) (x : Decision) (told : IsTold T x) where
  abbrev A : Asked
  A = asked T (place_in x)

  abbrev k : ExitPlan
  k = x.plans.plan

  elsewhere_are : elsewhere_by k x.plans.passed.given_away ≡ special_of A x.function.now.mutable (plan_of A k)
  elsewhere_are =
      (λ i. given_among k.params (told.given_away i) ++ (k.locals ++ (handed_among k.exits ++ k.redeclared)))
      ∙ (λ i. given_are (is_given_away A x.function.now.mutable) k.params i ++ (k.locals ++ (handed_are (plan_of A k).outs k.exits told.agree i ++ k.redeclared)))

  -- by the lists that the code has
  pub told_is : (n made : ℕ) (g : TypedFn) → (loops : List ℕ) (modes : List Mode) (elsewhere : List ℕ) (muts : List Bool) (units : List ℕ) (beyond : ℕ) (unit given : Bool)
      → loops ≡ x.seat.home.loops → modes ≡ x.plans.passed.modes → elsewhere ≡ elsewhere_by k x.plans.passed.given_away → muts ≡ x.function.now.mutable
      → units ≡ units_if (whole_of T.program T.types).functions (units_among (declared_in T) T.types.functions) → beyond ≡ length g.names → unit ≡ given
      → ◌≡◌ {A = Told} (record {
        run = plain-Run x.seat.run;
        around = loops;
        plan = plan_with None k;
        modes = modes;
        elsewhere = elsewhere;
        muts = muts;
        new = record { number = n; function = body g };
        beyond = beyond;
        items = λ f. items_with x.run.function made f;
        units = units;
        gives_unit = unit;
      }) (told_by T (case_of T x) n made given g)
  told_is n made g loops modes elsewhere muts units beyond unit given a b c d e f h = let there = c ∙ elsewhere_are in λ i. record {
    run = told.run i;
    around = a i;
    plan = plan_with None k;
    modes = b i;
    elsewhere = there i;
    muts = d i;
    new = record { number = n; function = body g };
    beyond = f i;
    items = λ j. items_with x.run.function made j;
    units = e i;
    gives_unit = h i;
  }

same_extracts : (A B : Told) (item : ℕ) (P R Q S : Program) → A ≡ B → P ≡ R → Q ≡ S → extracts A item P Q ≡ extracts B item R S
same_extracts A B item P R Q S a p q = λ i. extracts (a i) item (p i) (q i)

same_whole : (F G : Functions) (m n : ℕ) → F ≡ G → m ≡ n → ◌≡◌ {A = Program} (record { functions = F; main = m }) (record { functions = G; main = n })
same_whole F G m n f e = λ i. record { functions = f i; main = e i }

-- what is told of the units, by the functions and what is declared
pub same_units : (F G : Functions) (t u : Typed) → F ≡ G → t ≡ u
    → units_if F (units_among (declarations t.decls.items) t.functions) ≡ units_if G (units_among (declarations u.decls.items) u.functions)
same_units F G t u f e = λ i. units_if (f i) (units_among (declarations (e i).decls.items) (e i).functions)

-- by what is told, and both programs
pub compared_so : (A B : Told) (item : ℕ) (F G H I : Functions) (k l m n : ℕ) (r : Result Bool AllocError) → A ≡ B → F ≡ G → k ≡ l → H ≡ I → m ≡ n
    → IfOk r (λ b. b ≡ extracts A item (record { functions = F; main = k }) (record { functions = H; main = m }))
    → IfOk r (λ b. b ≡ extracts B item (record { functions = G; main = l }) (record { functions = I; main = n }))
compared_so A B item F G H I k l m n r a f e h g x =
    subst (λ (b : Bool). IfOk r (λ c. c ≡ b)) (same_extracts A B item (record { functions = F; main = k }) (record { functions = G; main = l })
    (record { functions = H; main = m }) (record { functions = I; main = n }) a (same_whole F G k l f e) (same_whole H I m n h g)) x

-- ---- of a function whose variables can be numbered

pub many_not : (n : ℕ) (b : Bool) → 4294967295 < n → false ≡ (nat_le n 4294967295 && b)
many_not n b h = ap (λ (t : Bool). t && b) (sym (lt-leb n 4294967295 h))

pub few_so : (n : ℕ) (b c : Bool) → n ≤ 4294967295 → c ≡ b → c ≡ (nat_le n 4294967295 && b)
few_so n b c h e = e ∙ ap (λ (t : Bool). t && b) (sym (le-leb n 4294967295 h))

-- ---- of a program that an answer is read as

unit_told : (b : Bool) (X : Type 0) → b ≡ false → (X → ⊥) → (b ≡ true) ↔ X
unit_told b X e n = (λ h. absurd (true≢false (sym h ∙ e)), λ y. absurd (n y))

abbrev Said : Type 0 → Result Bool Fault → Type 0
Said X r = IfOk r (λ b. (b ≡ true) ↔ X) × IfErr r (λ f. f ≡ fault.OutOfMemory)

-- of a fault, where only want of memory stands beside X
said_by : (X : Type 0) (lacks : Bool) → (lacks ≡ false → X → ⊥) → (r : Result Bool Fault) → r ≡ unless_memory lacks → Said X r
said_by X true n r e = subst (λ (q : Result Bool Fault). Said X q) (sym e) (tt, refl)
said_by X false n r e = subst (λ (q : Result Bool Fault). Said X q) (sym e) (unit_told false X refl (n refl), tt)

module _ (accepted : (p : ProgramTree) (e : CheckFault) → Accepted p → Causes e p → e ≡ check_fault.OutOfMemory) where
  memory_lacks : (e : CheckFault) → e ≡ check_fault.OutOfMemory → lacks_memory e ≡ true
  memory_lacks e h = ap lacks_memory h

  pub not_accepted_so : (T : Text) (d : Case) (n made : ℕ) (q : ProgramTree) (e : CheckFault) → Causes e q → (r : Result Bool Fault) → r ≡ unless_memory (lacks_memory e)
      → Said (IsFoundIn T d n made q) r
  not_accepted_so T d n made q e c r is =
      said_by (IsFoundIn T d n made q) (lacks_memory e) (λ h y. true≢false (sym (memory_lacks e (accepted q e (y.0, y.1) c)) ∙ h)) r is

pub not_read_so : (T : Text) (d : Case) (n made : ℕ) (text : List ℕ) (e : SyntaxFault) → ((p : ProgramTree) → Parses text p → e ≡ syntax_fault.OutOfMemory) → (r : Result Bool Fault)
    → r ≡ unless_memory (lacks_memory_read e) → Said (IsConfirmed T d n made text) r
not_read_so T d n made text e only r is =
    said_by (IsConfirmed T d n made text) (lacks_memory_read e) (λ h y. true≢false (sym (ap lacks_memory_read (only y.program y.parses)) ∙ h)) r is

-- what is found by the types that are found is found by all
module _ (same : (p : ProgramTree) (names : List ItemNames) (t u : Typed) → IsTyped p names t → IsTyped p names u → AreSame t u) where
  pub found_so : (T : Text) (d : Case) (n made : ℕ) (q : ProgramTree) (c : Judged) → IsCheckedOf q c → (b : Bool)
      → b ≡ found_in T d n made (program_of c.front.typed c.front.main) c.front.typed → (b ≡ true) ↔ IsFoundIn T d n made q
  found_so T d n made q c is b e =
      let x = is.front.accepted in let t = c.front.typed in
      let by : b ≡ is_found T d n made q t = e ∙ ap (λ (m : ℕ). found_in T d n made (program_of t m) t) is.front.main in (
        λ h. (t, record { front = x; borrows = is.borrows }, sym by ∙ h),
        λ y. let z = y.1.front in by ∙ (found_alike T d n made q t y.0
            (same q x.names t y.0 x.typed (subst (λ (ns : List ItemNames). IsTyped q ns y.0) (one_meaning q z.names x.names z.meant x.meant) z.typed)) ∙ y.2),
      )

-- a text is read as one program
module _ (one_tree : (bytes : List ℕ) (p q : ProgramTree) → Parses bytes p → Parses bytes q → p ≡ q) where
  pub confirmed_so : (T : Text) (d : Case) (n made : ℕ) (text : List ℕ) (q : ProgramTree) → Parses text q → (b : Bool) → (b ≡ true) ↔ IsFoundIn T d n made q
      → (b ≡ true) ↔ IsConfirmed T d n made text
  confirmed_so T d n made text q p b h = (
    λ e. let y = h.0 e in record { program = q; parses = p; types = y.0; accepted = y.1; found = y.2 },
    λ y. h.1 (subst (λ (z : ProgramTree). IsFoundIn T d n made z) (one_tree text y.program q y.parses p) (y.types, y.accepted, y.found)),
  )

-- ---- of an answer, by how many items are new

made_is : (n f made : ℕ) → n ≡ f + made → n - f ≡ made
made_is n f made e = omega (arith, e)

module _ (T : Text) (d : Case) (n f made : ℕ) (bytes text : List ℕ) (b : Bool) (e : n ≡ f + made) (same : bytes ≡ text) (h : (b ≡ true) ↔ IsConfirmed T d n (n - f) bytes) where
  pub confirmed_as : b ≡ true → IsConfirmed T d n made text
  confirmed_as y = subst (λ (t : List ℕ). IsConfirmed T d n made t) same (subst (λ (m : ℕ). IsConfirmed T d n m bytes) (made_is n f made e) (h.0 y))

  pub unconfirmed_as : b ≡ false → IsConfirmed T d n made text → ⊥
  unconfirmed_as y x =
      true≢false (sym (h.1 (subst (λ (m : ℕ). IsConfirmed T d n m bytes) (sym (made_is n f made e)) (subst (λ (t : List ℕ). IsConfirmed T d n made t) (sym same) x))) ∙ y)
