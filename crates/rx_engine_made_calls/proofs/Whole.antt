-- The call alone, or the match on what it gives.
use Rattle.std.proofs.Common.{if◌then◌else◌, ◌≡◌, ◌≤◌, ◌<◌, ◌+◌, ℕ, suc, Bool, true, false, List, [], ◌∷◌, slice_get, Some, None, Option, refl, sym, ap, ◌∙◌, subst, eq-eqb, arith}
use Rattle.rx_tree.specs.Lists.{Every}
use Rattle.rx_resolve_names.specs.Meant.{number}
use Rattle.rx_typed.specs.declared.nodes.Node.{Node}
use Rattle.rx_typed.specs.declared.nodes.Site.{Site}
use Rattle.rx_typed.specs.Types.{named as item, parameters_declared, result_declared, variant_parts, Typ}
use Rattle.rx_typed.specs.Elaborated.{Assigned}
use Rattle.rx_typed.specs.Named as named
use Rattle.rx_typed.specs.Named.{is_place, node_of, Arms as NamedArms, Exp, Exps}
use Rattle.rx_typed.specs.Naming.{passed_on}
use Rattle.rx_hoist_extraction.specs.Plan.{has_enum, has_exit, is_unit, to_next, Leaving}
use Rattle.rx_hoist_extraction.specs.Values.{next_values, values_of}
use Rattle.rx_typeck_solver.specs.Facts.{Assignment, KnownItems}
use Rattle.rx_typeck_typed.specs.Asking.{expected, type_of}
use Rattle.rx_lower_walks.specs.Walks.{Among}
use Rattle.rx_exits_plan.specs.Asked.{Asked}
use Rattle.rx_exits_plan.specs.Plan.{Plan}
use Rattle.rx_exits_plan.specs.Points.{breaks, continues, next, returns, same_exit as same_one, Exit}
use Rattle.rx_modes_policy.specs.declared.uses.Mode.{Mode}
use Rattle.rx_engine_names.specs.Renaming.{Renaming as Pairing}
use Rattle.rx_engine_names.specs.Calls.{AreArguments}
use Rattle.rx_engine_names.specs.Calls.IsCall.{is_call}
use Rattle.rx_engine_names.specs.HandedOut.{Handing, IsWhole}
use Rattle.rx_engine_names.specs.HandedOut.IsWhole.{call_alone, call_matched}
use Rattle.rx_engine_blocks.specs.Renumbering.{shape_at, Renumbering}
use Rattle.rx_engine_typing.specs.Corresponding.{given_types}
use Rattle.rx_engine_holes.specs.Entries.{Context, Entries, Has}
use Rattle.rx_engine_holes.specs.CallFits.{ArgumentsFit, ValueFits}
use Rattle.rx_engine_holes.specs.CallFits.ValueFits.{a_call, a_match}
use Rattle.rx_engine_changed.specs.Spots.{NumberedExp, Spot}
use Rattle.rx_engine_changed.specs.HandedTypes.{handed_type, ItemsDeclare, NextAgrees}
use Rattle.rx_engine_simulation.specs.Sights.{How, IsNew, Renaming}
use Rattle.rx_engine_simulation.specs.Jumps.{Jumping}
use Rattle.rx_engine_related.specs.Leaving.{place_from, variant_for}
use Rattle.rx_engine_made_trees.specs.Nodes.{KeepsItsType}
use Rattle.rx_engine_made_trees.specs.Nodes.KeepsItsType.{looked_into}
use Rattle.rx_engine_made_trees.specs.Arguments.{ArgumentsFor}
use Rattle.rx_engine_made_trees.specs.Arms.{ArmsFor}
use Rattle.rx_engine_made_trees.specs.Standing.{Called}
use Rattle.rx_engine_made_trees.specs.Tails.{TailCalled}
use Rattle.rx_engine_made_trees.proofs.Standing.{calls_itself}
use Rattle.rx_engine_made_trees.proofs.Matching.{calls_left, calls_matched, tail_calls_left, tail_calls_matched}
use Rattle.rx_engine_made_trees.proofs.StandingTails.{tail_calls_itself}
use Rattle.rx_engine_made_calls.specs.Plans.{PlansAgree}
use Rattle.rx_engine_made_calls.specs.MadeCalls.{jumps_with, way_of}
use Rattle.rx_engine_made_calls.specs.Contexts.{Tells}
use Rattle.rx_engine_made_calls.proofs.Telling.{has_first, one_some, types_there}
use Rattle.rx_engine_made_calls.proofs.Types.{keeps_at, WantedAt}
use Rattle.rx_engine_made_calls.proofs.Rising.{exps_rise}
use Rattle.rx_engine_made_calls.proofs.Arguments.{arguments_for}
use Rattle.rx_engine_made_calls.proofs.Arms.{arms_for, arms_type, PartsAre, WantsIt}

-- ---- among the exits

same_itself : (e : Exit) → same_one e e ≡ true
same_itself next = refl
same_itself returns = refl
same_itself (breaks n) = eq-eqb n n refl
same_itself (continues n) = eq-eqb n n refl

no_place : (v : ℕ) (e : Exit) (xs : List Exit) → place_from v e xs ≡ None → Among e xs → ⊥
no_place v e [] i a = elim a [ ]
no_place v e (x ∷ xs) i Among.here = absurd (by (same_one e e) (same_itself e) i)
  where
    by : (b : Bool) → b ≡ true → (if b then Some v else place_from (suc v) e xs) ≡ None → ⊥
    by true j i = cc
    by false j i = cc
no_place v e (x ∷ xs) i (Among.there a) = no_place (suc v) e xs (by (same_one e x) i) a
  where
    by : (b : Bool) → (if b then Some v else place_from (suc v) e xs) ≡ None → place_from (suc v) e xs ≡ None
    by true i = absurd (cc)
    by false i = i

module _ (E : KnownItems) (f : ℕ) (q : Renumbering) (G : Handing) (N : Pairing) (W : Assignment) (items : ItemsDeclare E q G f) (agrees : NextAgrees G) (A : Asked) (muts : List Bool) (k : Plan) (modes : List Mode) (again : Bool) (J : Jumping) (R : Renaming) (cold : List ℕ) (hows : List How) (has : Bool)
    (plans : PlansAgree E q G N W A muts k modes again J R cold hows has) where
  abbrev T : Assigned
  T = given_types E W

  abbrev enum : Bool
  enum = has_enum G.call.plan.exits

  abbrev unit : Bool
  unit = is_unit G.call.plan.result

  abbrev Given : Typ
  Given = shape_at q (handed_type (next_values G.call.plan))

  -- the whole where it stands: its own node keeps its type
  abbrev pub Stands : Site → Node → Typ → Type 0
  Stands Site.Value n u = Unit {0}
  Stands Site.Scrutinee n u = Unit {0}
  Stands Site.Expects n u = (W (expected n) ≡ u) × (u ≡ Given)
  Stands Site.Reborrows n u = (W (expected n) ≡ u) × (u ≡ Given)
  Stands _ n u = ⊥

  stands_wanted : (s : Site) (n : Node) (u t : Typ) → Stands s n u → t ≡ Given → WantedAt W s n u t
  stands_wanted Site.Value n u t h e = tt
  stands_wanted Site.Scrutinee n u t h e = tt
  stands_wanted Site.Expects n u t h e = (h.0, h.1 ∙ sym e)
  stands_wanted Site.Reborrows n u t h e = (h.0, h.1 ∙ sym e)
  stands_wanted Site.Place n u t h e = absurd h
  stands_wanted Site.Initialises n u t h e = absurd h

  stands_want : (s : Site) (n : Node) (u : Typ) → Stands s n u → WantsIt s u Given
  stands_want Site.Value n u h = tt
  stands_want Site.Scrutinee n u h = tt
  stands_want Site.Expects n u h = h.1
  stands_want Site.Reborrows n u h = tt
  stands_want Site.Place n u h = absurd h
  stands_want Site.Initialises n u h = absurd h

  pub record WholeSo (e : Exp) : Type 0 where
    pub es : Exps
    pub arguments : ArgumentsFor T again R cold k.params modes es hows
    pub called : has ≡ false → Called T A muts k J R G.call.number es e (jumps_with enum A muts k unit) (way_of enum (variant_for k next))
    pub tail_called : TailCalled T A muts k J R G.call.number es e has (jumps_with enum A muts k unit) (way_of enum (variant_for k next))
    pub no_place : is_place e ≡ false

  parts_are : (xs : List Leaving) → Every (λ (x : Leaving). variant_parts E.items G.enum (G.variant x.exit) ≡ types_there q (values_of G.call.plan x)) xs → Every (λ (x : Leaving). x.exit ≡ to_next → values_of G.call.plan x ≡ next_values G.call.plan) xs
      → Every (PartsAre E f q G N W items A muts k R J has) xs
  parts_are [] a b = tt
  parts_are (x ∷ xs) a b = ((a.0, b.0), parts_are xs a.1 b.1)

  -- the call's own arguments
  given_arguments : {B : Context} {es : Exps} {a : Entries} → AreArguments G.call N G.call.plan.params es → ArgumentsFit E B G.call.number 0 es a → Has W a → Tells W B → ArgumentsFor T again R cold k.params modes es hows
  given_arguments {B = B} is fits h tells = arguments_for E q G.call N W B tells plans.params is fits h (λ j. ap (slice_get (parameters_declared (slice_get E.items G.call.number))) (no_more j) ∙ ap (λ (ts : List Typ). slice_get ts j) items.parameters)
    where
      no_more : (j : ℕ) → j + 0 ≡ j
      no_more j = omega arith

  -- alone, where there is no enum
  alone_so : (n : Node) (u : Typ) {es : Exps} {B : Context} {t : Typ} {a : Entries} (s : Site) → enum ≡ false → AreArguments G.call N G.call.plan.params es → ArgumentsFit E B G.call.number 0 es a → Has W a → Tells W B → result_declared (slice_get E.items G.call.number) ≡ Some t → W (type_of n) ≡ t
      → n.site ≡ s → Stands s n u → WholeSo (named.call n G.call.number es)
  alone_so n u {es = es} {t = t} s none is fits h tells result own at stands =
      let i : t ≡ Given = one_some t Given (sym result ∙ (items.result ∙ ap (λ (b : Bool). Some (if b then item G.enum else Given)) none)) in
      let keeps : KeepsItsType T n = keeps_at W E n s u t at (stands_wanted s n u t stands i) own in record {
        es = es;
        arguments = given_arguments is fits h tells;
        called = λ e. subst (λ (b : Bool). Called T A muts k J R G.call.number es (named.call n G.call.number es) (jumps_with b A muts k unit) (way_of b (variant_for k next))) (sym none) (calls_itself T A muts k J R n G.call.number es (plans.alone none) keeps);
        tail_called = subst (λ (b : Bool). TailCalled T A muts k J R G.call.number es (named.call n G.call.number es) has (jumps_with b A muts k unit) (way_of b (variant_for k next))) (sym none)
            (tail_calls_itself T A muts k J R n G.call.number es has (plans.alone none) keeps);
        no_place = refl;
      }

  -- matched
  module _ (m c : Node) (es : Exps) (l : NamedArms) (keeps : KeepsItsType T c) where
    matched_called : ArmsFor T A muts k R unit false J 0 k.exits l → (o : Option ℕ) → variant_for k next ≡ o → Called T A muts k J R G.call.number es (named.match m (named.call c G.call.number es) l) (jumps_with true A muts k unit) (way_of true o)
    matched_called a None i = calls_left T A muts k R unit J m c G.call.number es l keeps plans.one_to_one plans.all_special (no_place 0 next k.exits i) a
    matched_called a (Some v) i = calls_matched T A muts k R unit J m c G.call.number es l keeps v plans.one_to_one plans.all_special i a

    matched_tail : ArmsFor T A muts k R unit has J 0 k.exits l → (o : Option ℕ) → variant_for k next ≡ o → TailCalled T A muts k J R G.call.number es (named.match m (named.call c G.call.number es) l) has (jumps_with true A muts k unit) (way_of true o)
    matched_tail a None i = tail_calls_left T A muts k R unit J m c G.call.number es l keeps has plans.one_to_one plans.all_special (no_place 0 next k.exits i) a
    matched_tail a (Some v) i = tail_calls_matched T A muts k R unit J m c G.call.number es l keeps has v plans.one_to_one plans.all_special i a

    matched_so : enum ≡ true → ArgumentsFor T again R cold k.params modes es hows → ArmsFor T A muts k R unit has J 0 k.exits l → WholeSo (named.match m (named.call c G.call.number es) l)
    matched_so some args a = record {
      es = es;
      arguments = args;
      called = λ e. subst (λ (b : Bool). Called T A muts k J R G.call.number es (named.match m (named.call c G.call.number es) l) (jumps_with b A muts k unit) (way_of b (variant_for k next))) (sym some)
          (matched_called (subst (λ (b : Bool). ArmsFor T A muts k R unit b J 0 k.exits l) e a) (variant_for k next) refl);
      tail_called = subst (λ (b : Bool). TailCalled T A muts k J R G.call.number es (named.match m (named.call c G.call.number es) l) has (jumps_with b A muts k unit) (way_of b (variant_for k next))) (sym some) (matched_tail a (variant_for k next) refl);
      no_place = refl;
    }

  pub whole_so : (b : Bool) → enum ≡ b → {e : Exp} {B : Context} {u t : Typ} {a : Entries} (s : Site) → IsWhole G N b e → ValueFits E f B e u t a → Has W a → Tells W B → (node_of e).site ≡ s → Stands s (node_of e) u
      → (p : Spot) (y : Site) (r : Spot) → NumberedExp p y e r → ((n : ℕ) → p.declared ≤ n → IsNew R n) → ((n : ℕ) → n < r.declared → number n ≡ n) → WholeSo e
  whole_so false i {u = u} s (call_alone (is_call {n = n} j is)) (a_call many fits result) h tells at stands p y r num fresh few = alone_so n u s i is fits h.1 tells result h.0 at stands
  whole_so true i {B = B} {u = u} {t = t} s (call_matched {n = n} {l = l} j (is_call {n = c} {es = es} o is) rows) (a_match {i = z} {b = b} (a_call {a = a} many fits result) look placed lives arms wanted) h tells at stands p y r num fresh few =
      let h1 = has_first W ((type_of c, item z) ∷ a) b h.1 in
      let up = exps_rise es _ _ num.1 num.2.1 in
      matched_so n c es l (looked_into look) i (given_arguments is fits h1.0.1 tells)
      (arms_for E f q G N W items A muts k R J has plans.value plans.exits rows arms h1.1 tells
      (parts_are G.call.plan.exits (items.variants i) agrees) (subst (λ (s : Site). WantsIt s u Given) (sym at) (stands_want s n u stands)) num.1 (passed_on y) r (λ m l. fresh m (omega (arith, l, up))) few num.3)

  -- its type, where nothing else is expected of it
  pub whole_type : (b : Bool) → enum ≡ b → {e : Exp} {B : Context} {u t : Typ} {a : Entries} (s : Site) → IsWhole G N b e → ValueFits E f B e u t a → Has W a → Tells W B → (node_of e).site ≡ s → (passed_on s ≡ Site.Expects → ⊥) → has_exit to_next G.call.plan.exits ≡ true
      → (p : Spot) (y : Site) (r : Spot) → NumberedExp p y e r → ((n : ℕ) → p.declared ≤ n → IsNew R n) → ((n : ℕ) → n < r.declared → number n ≡ n) → t ≡ Given
  whole_type false i s (call_alone (is_call j is)) (a_call {t = t} many fits result) h tells at unasked there p y r num fresh few =
      one_some t Given (sym result ∙ (items.result ∙ ap (λ (b : Bool). Some (if b then item G.enum else Given)) i))
  whole_type true i {B = B} {u = u} {t = t} s (call_matched {n = n} {l = l} j (is_call {n = c} {es = es} o is) rows) (a_match {i = z} {b = b} (a_call {a = a} many fits result) look placed lives arms wanted) h tells at unasked there p y r num fresh few =
      let h1 = has_first W ((type_of c, item z) ∷ a) b h.1 in
      let up = exps_rise es _ _ num.1 num.2.1 in
      arms_type E f q G N W items A muts k R J has rows arms h1.1 tells (parts_are G.call.plan.exits (items.variants i) agrees) there
      (λ e. unasked (ap passed_on (sym at) ∙ e)) num.1 (passed_on y) r (λ m l. fresh m (omega (arith, l, up))) few num.3
