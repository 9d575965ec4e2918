-- Types that meet the demands of an accepted part but for its tests meet its tests too: what is told has the outlines that the part's own
-- types have.
use Rattle.std.proofs.Common.{◌≡◌, ℕ, List, [], ◌∷◌, None, option_map, refl, sym, ap, subst, inl, inr, ⊎_elim}
use Rattle.rx_typed.specs.Types.{outline}
use Rattle.rx_typeck_solver.specs.declared.facts.Subject.{Subject}
use Rattle.rx_typeck_solver.specs.declared.facts.Subject.TheVariants as subject
use Rattle.rx_typeck_solver.specs.declared.facts.Fact.{Fact}
use Rattle.rx_typeck_solver.specs.declared.facts.Fact.TheVariants as fact
use Rattle.rx_typeck_solver.specs.declared.facts.Demand.{Demand}
use Rattle.rx_typeck_solver.specs.Facts.{Assignment, KnownItems, MeetsAll, MeetsEach}
use Rattle.rx_typeck_solver.specs.Valid.{Task, Told, TellsAny}
use Rattle.rx_typeck_solver.specs.Ordered.{Knowing, nothing, learns, learns_all, Ready, Ordered, Orderly}
use Rattle.rx_engine_blocks.specs.Renumbering.{Renumbering}
use Rattle.rx_engine_blocks.specs.Along.{Along, PartialInverse, Viewed, none_viewed, Sees, subject_back, text_or, composed}
use Rattle.rx_engine_blocks.specs.Untested.{no_tests, untested}
use Rattle.rx_engine_blocks.specs.Parts.{AllAbout, EachAbout}
use Rattle.rx_engine_blocks.proofs.Combining.{same_outlines}
use Rattle.rx_engine_blocks.proofs.Same.{test_same}
use Rattle.rx_engine_blocks.proofs.Told.{about_told}

-- ---- the composed types

module _ (r : Renumbering) (u : PartialInverse r) (view : Viewed) (A V : Assignment) where
  pub composed_sees : Sees r view A (composed r u view A V)
  composed_sees (subject.Variable x) = ap (λ o. text_or r view (option_map subject.Variable o) A (V (subject.Variable (r.variables x)))) (u.variable_there x)
  composed_sees (subject.Node n) = ap (λ o. text_or r view (option_map subject.Node o) A (V (subject.Node (r.nodes n)))) (u.node_there n)
  composed_sees (subject.Expected n) = ap (λ o. text_or r view (option_map subject.Expected o) A (V (subject.Expected (r.nodes n)))) (u.node_there n)

  pub composed_new : (y : Subject) → subject_back r u y ≡ None → composed r u view A V y ≡ V y
  composed_new y e = ap (λ o. text_or r view o A (V y)) e

-- where nothing is viewed
pub composed_along : (r : Renumbering) (u : PartialInverse r) (A V : Assignment) → Along r A (composed r u none_viewed A V)
composed_along r u A V x = composed_sees r u none_viewed A V x

-- ---- without tests

pub facts_untested : (D : KnownItems) (A : Assignment) (fs : List Fact) → MeetsAll D A fs → MeetsAll D A (no_tests fs)
facts_untested D A [] h = tt
facts_untested D A (fact.Equals x o xs ps ∷ fs) h = (h.0, facts_untested D A fs h.1)
facts_untested D A (fact.Integer n s ∷ fs) h = (h.0, facts_untested D A fs h.1)
facts_untested D A (fact.IntegerBehind n s ∷ fs) h = (h.0, facts_untested D A fs h.1)
facts_untested D A (fact.Passes t xs ps qs ∷ fs) h = facts_untested D A fs h.1
facts_untested D A (fact.Never ∷ fs) h = (h.0, facts_untested D A fs h.1)

pub met_untested : (D : KnownItems) (A : Assignment) (ds : List Demand) → MeetsEach D A ds → MeetsEach D A (untested ds)
met_untested D A [] h = tt
met_untested D A (d ∷ ds) h = (facts_untested D A d.facts h.0, met_untested D A ds h.1)

learnt : (K : Knowing) (fs : List Fact) → learns_all K (no_tests fs) ≡ learns_all K fs
learnt K [] = refl
learnt K (fact.Equals x o xs ps ∷ fs) = learnt (learns K (fact.Equals x o xs ps)) fs
learnt K (fact.Integer n s ∷ fs) = learnt (learns K (fact.Integer n s)) fs
learnt K (fact.IntegerBehind n s ∷ fs) = learnt K fs
learnt K (fact.Passes t xs ps qs ∷ fs) = learnt K fs
learnt K (fact.Never ∷ fs) = learnt (learns K fact.Never) fs

ready_untested : (n : ℕ) (K : Knowing) (fs : List Fact) → Ready n K fs → Ready n K (no_tests fs)
ready_untested n K [] h = tt
ready_untested n K (fact.Equals x o xs ps ∷ fs) h = (h.0, ready_untested n (learns K (fact.Equals x o xs ps)) fs h.1)
ready_untested n K (fact.Integer m s ∷ fs) h = (h.0, ready_untested n (learns K (fact.Integer m s)) fs h.1)
ready_untested n K (fact.IntegerBehind m s ∷ fs) h = (h.0, ready_untested n K fs h.1)
ready_untested n K (fact.Passes t xs ps qs ∷ fs) h = ready_untested n K fs h.1
ready_untested n K (fact.Never ∷ fs) h = (h.0, ready_untested n (learns K fact.Never) fs h.1)

ordered_untested : (K : Knowing) (ds : List Demand) → Ordered K ds → Ordered K (untested ds)
ordered_untested K [] h = tt
ordered_untested K (d ∷ ds) h = (
  ready_untested d.node K d.facts h.0,
  subst (λ L. Ordered L (untested ds)) (sym (learnt K d.facts)) (ordered_untested (learns_all K d.facts) ds h.1),
)

tells_untested : (fs : List Fact) (x : Subject) → TellsAny fs x → TellsAny (no_tests fs) x
tells_untested [] x h = h
tells_untested (fact.Equals y o xs ps ∷ fs) x h = ⊎_elim (λ e. inl e) (λ e. inr (tells_untested fs x e)) h
tells_untested (fact.Integer n s ∷ fs) x h = ⊎_elim (λ e. inl e) (λ e. inr (tells_untested fs x e)) h
tells_untested (fact.IntegerBehind n s ∷ fs) x h = ⊎_elim (λ e. inl e) (λ e. inr (tells_untested fs x e)) h
tells_untested (fact.Passes t xs ps qs ∷ fs) x h = ⊎_elim (λ e. absurd e) (λ e. tells_untested fs x e) h
tells_untested (fact.Never ∷ fs) x h = ⊎_elim (λ e. inl e) (λ e. inr (tells_untested fs x e)) h

told_untested : (ds : List Demand) (x : Subject) → Told ds x → Told (untested ds) x
told_untested [] x h = h
told_untested (d ∷ ds) x h = ⊎_elim (λ e. inl (tells_untested d.facts x e)) (λ e. inr (told_untested ds x e)) h

-- ---- the tests

module _ (D : KnownItems) (A V : Assignment) (P : Subject → Type 0) (o : (x : Subject) → P x → outline (V x) ≡ outline (A x)) where
  facts_tested : (fs : List Fact) → AllAbout P fs → MeetsAll D V fs → MeetsAll D A (no_tests fs) → MeetsAll D A fs
  facts_tested [] q v h = tt
  facts_tested (fact.Equals x w xs ps ∷ fs) q v h = (h.0, facts_tested fs q.1 v.1 h.1)
  facts_tested (fact.Integer n s ∷ fs) q v h = (h.0, facts_tested fs q.1 v.1 h.1)
  facts_tested (fact.IntegerBehind n s ∷ fs) q v h = (h.0, facts_tested fs q.1 v.1 h.1)
  facts_tested (fact.Passes t xs ps qs ∷ fs) q v h = (test_same D V A P o t xs ps qs q.0 v.0, facts_tested fs q.1 v.1 h)
  facts_tested (fact.Never ∷ fs) q v h = (h.0, facts_tested fs q.1 v.1 h.1)

  each_tested : (ds : List Demand) → EachAbout P ds → MeetsEach D V ds → MeetsEach D A (untested ds) → MeetsEach D A ds
  each_tested [] q v h = tt
  each_tested (d ∷ ds) q v h = (facts_tested d.facts q.0 v.0 h.0, each_tested ds q.1 v.1 h.1)

module _ (D : KnownItems) (ds : List Demand) (o : Ordered nothing ds) (V : Assignment) (v : MeetsEach D V ds) where
  -- a task without literals
  abbrev bare : Task
  bare = record { demands = untested ds; literals = [] }

  bare_orderly : Orderly bare
  bare_orderly = record { ordered = ordered_untested nothing ds o; literals = λ n i. absurd i }

  pub outline_told : (A : Assignment) → MeetsEach D A (untested ds) → (x : Subject) → Told ds x → outline (V x) ≡ outline (A x)
  outline_told A h x t = same_outlines D bare bare_orderly V A (met_untested D V ds v) h x (told_untested ds x t)

  pub tests_met : (A : Assignment) → MeetsEach D A (untested ds) → MeetsEach D A ds
  tests_met A h = each_tested D A V (Told ds) (outline_told A h) ds (about_told D V ds o v) v h
