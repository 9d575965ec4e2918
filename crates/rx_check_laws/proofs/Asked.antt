-- What the rules ask of trees with the same numbers is the same apart from spans, and so is when an assignment is valid.
use Rattle.std.proofs.Common.{◌≡◌, ◌⊎◌, ℕ, if◌then◌else◌, ◌++◌, Bool, true, false, List, [], ◌∷◌, map, inl, inr, refl, sym, ap, subst, ◌∙◌}
use Rattle.rx_typed.specs.Named.{Function}
use Rattle.rx_typeck_solver.specs.declared.facts.Demand.{Demand}
use Rattle.rx_typeck_solver.specs.declared.facts.Fact.{Fact}
use Rattle.rx_typeck_solver.specs.declared.facts.Fact.TheVariants as fact
use Rattle.rx_typeck_solver.specs.declared.facts.Op.{Op}
use Rattle.rx_typeck_solver.specs.declared.facts.Op.TheVariants as op
use Rattle.rx_typeck_solver.specs.declared.facts.Passing.{Passing}
use Rattle.rx_typeck_solver.specs.declared.facts.Subject.{Subject}
use Rattle.rx_typeck_solver.specs.declared.facts.Subject.TheVariants as subject
use Rattle.rx_typeck_solver.specs.declared.facts.Test.{Test}
use Rattle.rx_typeck_solver.specs.declared.facts.Test.TheVariants as test
use Rattle.rx_typeck_solver.specs.Facts.{Assignment, KnownItems, MeetsAll, MeetsEach}
use Rattle.rx_typeck_solver.specs.Valid.{literals_of, IsIn, Open, PrefersI32, Task, Told, TellsAny, Valid}
use Rattle.rx_typeck_typed.specs.Demands.{demands, task}
use Rattle.rx_engine_blocks.specs.Renumbering.{fact_at, op_at, passing_at, subject_at, test_at}
use Rattle.rx_engine_blocks.specs.DemandsLike.{like_more_demands, like_no_demand, like_other_demands, DemandLike, DemandsLike, FactsLike, Is, NoSpecial}
use Rattle.rx_engine_blocks.specs.DemandsLike.FactLike.{like_fact}
use Rattle.rx_engine_blocks.specs.DemandsLike.FactsLike.{like_more_facts, like_no_fact}
use Rattle.rx_engine_blocks.specs.DemandsLike.Is.{itself}
use Rattle.rx_engine_typing.specs.Renumbered.{no_holes}
use Rattle.rx_engine_typing.proofs.Forms.{function_like}
use Rattle.rx_engine_typing.proofs.Holes.{no_asks, no_fits}
use Rattle.rx_check_laws.specs.ApartFromSpans.{unchanged, SameNumbers}
use Rattle.rx_check_laws.proofs.Cursors.{ap2, map_behind}

-- ---- what is asked, without places

pub record Bare : Type 0 where
  pub node : ℕ
  pub unsuffixed : Bool
  pub facts : List Fact

abbrev pub bare : Demand → Bare
bare d = record { node = d.node; unsuffixed = d.unsuffixed; facts = d.facts }

subject_stays : (x : Subject) → subject_at unchanged x ≡ x
subject_stays (subject.Variable x) = refl
subject_stays (subject.Node n) = refl
subject_stays (subject.Expected n) = refl

subjects_stay : (xs : List Subject) → map (subject_at unchanged) xs ≡ xs
subjects_stay [] = refl
subjects_stay (x ∷ xs) = ap2 (λ (y : Subject) (ys : List Subject). y ∷ ys) (subject_stays x) (subjects_stay xs)

passings_stay : (xs : List Passing) → map (passing_at unchanged) xs ≡ xs
passings_stay [] = refl
passings_stay (x ∷ xs) = ap (λ (ys : List Passing). x ∷ ys) (passings_stay xs)

op_stays : (o : Op) → op_at unchanged o ≡ o
op_stays (op.Item i) = refl
op_stays (op.Parameter f k) = refl
op_stays (op.Result f) = refl
op_stays (op.FieldOf i x) = refl
op_stays (op.PartOf i v k) = refl
op_stays op.Same = refl
op_stays op.Pointee = refl
op_stays (op.Referring m) = refl
op_stays op.Tuple = refl
op_stays (op.Field x) = refl
op_stays (op.Part k) = refl
op_stays (op.Integer k) = refl
op_stays op.Truth = refl
op_stays op.Unit = refl
op_stays op.Bound = refl
op_stays op.Coerced = refl

test_stays : (t : Test) → test_at unchanged t ≡ t
test_stays (test.ItemBehind i) = refl
test_stays (test.Takes f n) = refl
test_stays (test.Holds i v n) = refl
test_stays (test.HasFields i xs) = refl
test_stays (test.HasLifetimes i n) = refl
test_stays (test.GivesUnit f) = refl
test_stays test.Plain = refl
test_stays test.IntegerBehind = refl
test_stays test.TruthBehind = refl
test_stays (test.TupleBehind n) = refl
test_stays test.Kept = refl
test_stays test.KeptOrLent = refl
test_stays (test.Writable own) = refl
test_stays test.Lendable = refl
test_stays test.Direct = refl
test_stays test.BindingKept = refl
test_stays test.BindingWritable = refl
test_stays test.BindingKeptOrLent = refl
test_stays test.BindingWritableOrLent = refl
test_stays test.Limits = refl

fact_stays : (f : Fact) → fact_at unchanged f ≡ f
fact_stays (fact.Equals x o xs ps) = let a = subject_stays x in let b = op_stays o in let c = subjects_stay xs in let d = passings_stay ps in cc (a, b, c, d)
fact_stays (fact.Integer n s) = refl
fact_stays (fact.IntegerBehind n s) = refl
fact_stays (fact.Passes t xs ps qs) = let a = test_stays t in let b = subjects_stay xs in let c = passings_stay ps in let d = passings_stay qs in cc (a, b, c, d)
fact_stays fact.Never = refl

facts_equal : (fs gs : List Fact) → FactsLike unchanged fs gs → fs ≡ gs
facts_equal _ _ like_no_fact = refl
facts_equal _ _ (like_more_facts {f = f} like_fact h) = ap2 (λ (g : Fact) (gs : List Fact). g ∷ gs) (sym (fact_stays f)) (facts_equal _ _ h)

demand_equal : (d e : Demand) → DemandLike unchanged d e → bare d ≡ bare e
demand_equal d e h = so (is_so h.node) (is_so h.unsuffixed) (facts_equal d.facts e.facts h.facts)
  where
    is_so : {A : Type 0} {a b : A} → Is a b → a ≡ b
    is_so itself = refl

    so : d.node ≡ e.node → d.unsuffixed ≡ e.unsuffixed → d.facts ≡ e.facts → bare d ≡ bare e
    so a b c = cc (a, b, c)

demands_equal : (ds es : List Demand) → DemandsLike unchanged NoSpecial ds es → map bare ds ≡ map bare es
demands_equal _ _ like_no_demand = refl
demands_equal _ _ (like_more_demands {ds = ds} {ds' = es} {d = d} {d' = e} h k) = map_behind bare ds (d ∷ []) ∙ ap2 (λ (xs : List Bare) (x : Bare). xs ++ x ∷ []) (demands_equal ds es h) (demand_equal d e k) ∙ sym (map_behind bare es (e ∷ []))
demands_equal _ _ (like_other_demands xs ys h k) = elim k [ ]

pub asks_alike : (f g : Function) → SameNumbers f g → map bare (demands f) ≡ map bare (demands g)
asks_alike f g h = demands_equal (demands f) (demands g) (function_like unchanged (λ l. l) no_holes NoSpecial (no_fits unchanged (λ l. l)) (no_asks unchanged (λ l. l)) h)

-- ---- what that decides

abbrev MeetsBare : KnownItems → Assignment → List Bare → Type 0
MeetsBare D A [] = Unit {0}
MeetsBare D A (b ∷ bs) = MeetsAll D A b.facts × MeetsBare D A bs

to_bare : (D : KnownItems) (A : Assignment) (ds : List Demand) → MeetsEach D A ds → MeetsBare D A (map bare ds)
to_bare D A [] m = m
to_bare D A (d ∷ ds) m = (m.0, to_bare D A ds m.1)

from_bare : (D : KnownItems) (A : Assignment) (ds : List Demand) → MeetsBare D A (map bare ds) → MeetsEach D A ds
from_bare D A [] m = m
from_bare D A (d ∷ ds) m = (m.0, from_bare D A ds m.1)

pub meets_there : (D : KnownItems) (A : Assignment) (ds es : List Demand) → map bare ds ≡ map bare es → MeetsEach D A ds → MeetsEach D A es
meets_there D A ds es h m = from_bare D A es (subst (MeetsBare D A) h (to_bare D A ds m))

abbrev ToldBare : List Bare → Subject → Type 0
ToldBare [] x = ⊥
ToldBare (b ∷ bs) x = TellsAny b.facts x ⊎ ToldBare bs x

told_bare : (ds : List Demand) (x : Subject) → Told ds x → ToldBare (map bare ds) x
told_bare [] x t = elim t [ ]
told_bare (d ∷ ds) x (inl t) = inl t
told_bare (d ∷ ds) x (inr t) = inr (told_bare ds x t)

bare_told : (ds : List Demand) (x : Subject) → ToldBare (map bare ds) x → Told ds x
bare_told [] x t = elim t [ ]
bare_told (d ∷ ds) x (inl t) = inl t
bare_told (d ∷ ds) x (inr t) = inr (bare_told ds x t)

pub told_there : (ds es : List Demand) (x : Subject) → map bare ds ≡ map bare es → Told ds x → Told es x
told_there ds es x h t = bare_told es x (subst (λ (bs : List Bare). ToldBare bs x) h (told_bare ds x t))

abbrev literals_bare : List Bare → List ℕ
literals_bare [] = []
literals_bare (b ∷ bs) = if b.unsuffixed then b.node ∷ literals_bare bs else literals_bare bs

literals_so : (ds : List Demand) → literals_of ds ≡ literals_bare (map bare ds)
literals_so [] = refl
literals_so (d ∷ ds) = ap (λ (ns : List ℕ). if d.unsuffixed then d.node ∷ ns else ns) (literals_so ds)

literals_there : (ds es : List Demand) → map bare ds ≡ map bare es → literals_of ds ≡ literals_of es
literals_there ds es h = literals_so ds ∙ ap literals_bare h ∙ sym (literals_so es)

pub valid_there : (D : KnownItems) (A : Assignment) (f g : Function) → map bare (demands f) ≡ map bare (demands g) → Valid D (task f) A → Valid D (task g) A
valid_there D A f g h v = record { prefers = prefers_there A h (literals_there _ _ h) v.prefers; only_one = λ B p x t. v.only_one B (prefers_back B p) x (told_there _ _ x (sym h) t) }
  where
    open_back : (n : ℕ) → Open D (task g) n → Open D (task f) n
    open_back n o = record {
      literal = subst (λ (ls : List ℕ). IsIn n ls) (sym (literals_there _ _ h)) o.literal;
      one = o.one;
      other = o.other;
      typed_one = meets_there D o.one _ _ (sym h) o.typed_one;
      typed_other = meets_there D o.other _ _ (sym h) o.typed_other;
      differ = o.differ;
    }

    open_there : (n : ℕ) → Open D (task f) n → Open D (task g) n
    open_there n o = record {
      literal = subst (λ (ls : List ℕ). IsIn n ls) (literals_there _ _ h) o.literal;
      one = o.one;
      other = o.other;
      typed_one = meets_there D o.one _ _ h o.typed_one;
      typed_other = meets_there D o.other _ _ h o.typed_other;
      differ = o.differ;
    }

    prefers_there : (B : Assignment) → map bare (demands f) ≡ map bare (demands g) → literals_of (demands f) ≡ literals_of (demands g) → PrefersI32 D (task f) B → PrefersI32 D (task g) B
    prefers_there B e l p = record { typed = meets_there D B _ _ e p.typed; prefers = λ n o. p.prefers n (open_back n o) }

    prefers_back : (B : Assignment) → PrefersI32 D (task g) B → PrefersI32 D (task f) B
    prefers_back B p = record { typed = meets_there D B _ _ (sym h) p.typed; prefers = λ n o. p.prefers n (open_there n o) }
