-- A run that is selected in an accepted text is tied to the typed tree of its function, and so is the text behind it.
use Rattle.std.proofs.Common.{◌≡◌, ◌≢◌, ℕ, zero, suc, Bool, true, false, if◌then◌else◌, List, [], ◌∷◌, length, drop, Some, slice_get, refl, sym, ap, ◌∙◌, subst, bytes_eq}
use Rattle.std.proofs.lemmas.Slice.Eq.{bytes_eq-Decides}
use Rattle.rx_core.specs.declared.types.Span.{Span}
use Rattle.rx_tree.specs.Lists.{Every, nth}
use Rattle.rx_tree.specs.Plain as plain
use Rattle.rx_tree.specs.Plain.{Function, ProgramTree}
use Rattle.rx_resolve_names.specs.declared.resolved.ItemNames.{ItemNames}
use Rattle.rx_resolve_names.specs.Meant.{as_function, firsts, function_name, item_named, lifetimes_declared, number}
use Rattle.rx_resolve_names.specs.Steps.{Inside}
use Rattle.rx_typed.specs.Tree as tree
use Rattle.rx_typeck_typed.specs.declared.typed.Typed.{Typed}
use Rattle.rx_typed.specs.PlainTree.{plain-TypedTree}
use Rattle.rx_lower_walks.specs.Orders.{order_function}
use Rattle.rx_lower_walks.specs.Walks.{Among}
use Rattle.rx_select.specs.OneText.{OneText}
use Rattle.rx_select.specs.RunOf.{RunOf}
use Rattle.rx_exits_plan.specs.Points.{Exit, next}
use Rattle.rx_exits_plan.specs.Coming.{HasNoMark}
use Rattle.rx_exits_plan.specs.Runs.{Sits}
use Rattle.rx_exits_plan.specs.Spots as spots
use Rattle.rx_exits_plan.specs.Spots.{spots_of_function}
use Rattle.rx_exits_plan.specs.Asked.{Asked}
use Rattle.rx_exits_plan.specs.Exits.{at_start}
use Rattle.rx_exits_plan.specs.PlainPlan.{plan_of}
use Rattle.rx_hoist_naming.specs.DeclaredNames.{declared_names}
use Rattle.rx_hoist_naming.specs.NamesWords.{identifiers}
use Rattle.rx_hoist_extraction.specs.Names.{is_among, Names}
use Rattle.rx_hoist_extraction.specs.Run.{labels_round, Run, run_block}
use Rattle.rx_hoist_naming.specs.NamedPlan.{named_plan, names_in, Told}
use Rattle.rx_exits.specs.Refusing.{same_name}
use Rattle.rx_hoist_meant.specs.NamesMeant.{MeansIt, NamesMeant}
use Rattle.rx_hoist_meant.specs.Scoped.{BlockScoped, NoneTwice}
use Rattle.rx_engine_names.specs.Extractions.{goes_to_end}
use Rattle.rx_engine_names.proofs.FreeRuns.{declared_are_known, text_found}
use Rattle.rx_engine_names.proofs.TextNames.{Found}
use Rattle.rx_engine_called.specs.Planned.{Planned}
use Rattle.rx_engine_called.specs.Tied.{BehindTied, RunTied}
use Rattle.rx_engine_related.specs.Accepted.{Accepted}
use Rattle.rx_engine_related.proofs.Bare.{no_marks}
use Rattle.rx_engine_tied.proofs.Since.{meant_there}
use Rattle.rx_engine_tied.proofs.Left.{outs_listed, outs_outer}
use Rattle.rx_engine_tied.proofs.Runs.{Seated}
use Rattle.rx_engine_tied.proofs.Seats.{item_there, run_seated, selected}
use Rattle.rx_engine_tied.proofs.Tying as tying

every_at : {A : Type 0} (P : A → Type 0) (xs : List A) (k : ℕ) (x : A) → Every P xs → slice_get xs k ≡ Some x → P x
every_at P [] k x h e = absurd (cc)
every_at P (y ∷ xs) zero x h e = let q : y ≡ x = cc in subst P q h.0
every_at P (y ∷ xs) (suc k) x h e = every_at P xs k x h.1 e

-- a callee that is found is the name of a function of the text
callee_known : (W : List ℕ → Type 0) (p : ProgramTree) (n m : ℕ) (x : List ℕ) → Every (Found W) p → as_function (item_named function_name n p x) ≡ Some m → W x
callee_known W [] n m x h e = absurd (cc)
callee_known W (plain.rt_item s r ∷ p) n m x h e = callee_known W p (suc n) m x h.1 e
callee_known W (plain.struct_item s d ∷ p) n m x h e = callee_known W p (suc n) m x h.1 e
callee_known W (plain.enum_item s d ∷ p) n m x h e = callee_known W p (suc n) m x h.1 e
callee_known W (plain.function_item s f ∷ p) n m x h e = by (bytes_eq x f.name.name) refl e (callee_known W p (suc n) m x h.1)
  where
    by : (b : Bool) → bytes_eq x f.name.name ≡ b → as_function (if b then Some (n, plain.function_item s f) else item_named function_name (suc n) p x) ≡ Some m → (as_function (item_named function_name (suc n) p x) ≡ Some m → W x) → W x
    by true g e on = subst W (sym ((bytes_eq-Decides x f.name.name).0 g)) h.0.name
    by false g e on = on e

module _ (A : Told) (q : Asked) (bytes : List ℕ) (names : List ItemNames) (t : Typed) (k : Planned A q bytes names t) (start end : ℕ) (of : RunOf (length bytes) A.tokens A.program start end A.run) (is : A.run.function ≡ A.function.item)
    (s : Span) (f : Function) (e : nth A.program A.function.item ≡ Some (plain.function_item s f)) (r : Run) (way : r.way ≡ drop 1 A.run.block.path) (first : r.first ≡ A.run.first) (last : r.last ≡ A.run.last)
    (scoped : BlockScoped A.program A.function s f) where
  abbrev I : Inside
  I = record { program = A.program; item = number A.function.item; lifetimes = firsts [] 0 (lifetimes_declared (plain.function_item s f)) }

  abbrev ns : Names
  ns = declared_names (Some (plain.function_item s f))

  pub seat : Seated I ns q.run q.home r (run_block r f) (labels_round r f)
  seat = run_seated A.program A.function s f scoped A.function.item A.run q.run q.home (subst (λ (g : tree.Function). Sits g q.run q.home) k.function k.sits) r of.block
      (selected (length bytes) A.tokens A.program start end A.run of A.function.item is s f e q.run k.run r way first last)

  ns_is : names_in A ≡ ns
  ns_is = ap declared_names (item_there A.program A.function.item (plain.function_item s f) e)

  pub run_tied : ((x : Exit) (y : ℕ) → x ≢ next → Among y ((plan_of q A.plan).outs x) → Among y (at_start q.run q.home).scope) → RunTied (names_in A) q (plan_of q A.plan) r f
  run_tied left =
      subst (λ (z : Names). RunTied z q (plan_of q A.plan) r f) (sym ns_is) (record {
        named = tying.names_there I ns q.run q.home r (run_block r f) seat;
        declared = tying.declares_there I ns q.run q.home r (run_block r f) seat;
        broken = tying.breaks_there I ns q.run q.home r (run_block r f) seat;
        continued = tying.continues_there I ns q.run q.home r (run_block r f) seat;
        left = left;
      })

  one_text : OneText A.tokens (length bytes) A.program
  one_text = record { text = bytes; lexed = k.lexed; parsed = k.parsed; long = refl }

  pub behind_tied : goes_to_end r f ≡ false → BehindTied (named_plan A).identifiers (names_in A) q r f
  behind_tied past =
      subst (λ (z : Names). BehindTied (identifiers A.tokens) z q r f) (sym ns_is)
      (tying.behind_there I ns q.run q.home r (run_block r f) seat q refl refl (identifiers A.tokens)
      (λ n x g. every_at (λ (y : List ℕ). is_among y (identifiers A.tokens) ≡ true) ns n x (declared_are_known (length bytes) A.tokens A.program one_text A.function.item s f e) g)
      (λ x n g. callee_known (λ (y : List ℕ). is_among y (identifiers A.tokens) ≡ true) A.program 0 n x (text_found (length bytes) A.tokens A.program one_text) g) (sym seat.to_end ∙ past))

  -- what a jump hands out is in scope where the run begins
  pub left_there : (muts : List Bool) → Accepted q muts → NamesMeant (same_name (names_in A)) (plain-TypedTree A.function.tree) → HasNoMark (order_function (plain-TypedTree A.function.tree))
      → ((c : spots.Around) (n j : ℕ) (again : Bool) → Among (spots.a_jump c n j again) (spots_of_function (plain-TypedTree A.function.tree)) → NoneTwice c.loops)
      → ((y : ℕ) → Among y (plan_of q A.plan).params → MeansIt (same_name (names_in A)) (at_start q.run q.home).scope y)
      → (x : Exit) (y : ℕ) → x ≢ next → Among y ((plan_of q A.plan).outs x) → Among y (at_start q.run q.home).scope
  left_there muts acc means unmarked once given x y d o =
      let back = sym k.function in
      let sits = subst (λ (g : tree.Function). Sits g q.run q.home) k.function k.sits in
      outs_outer q muts acc (same_name (names_in A)) (subst (λ (g : tree.Function). NamesMeant (same_name (names_in A)) g) back means)
      (no_marks (order_function q.function) (subst (λ (g : tree.Function). HasNoMark (order_function g)) back unmarked).none)
      (λ a b i. (scoped.alone a q.home.around q.run.block b q.home.body (subst (λ (g : tree.Function). Among (spots.a_block a q.run.block b) (spots_of_function g)) k.function i) sits.block).0)
      (λ a n j g i. once a n j g (subst (λ (z : tree.Function). Among (spots.a_jump a n j g) (spots_of_function z)) k.function i))
      (subst NoneTwice (sym seat.loops) seat.once) (plan_of q A.plan) k.plan.plan (λ z i. meant_there [] (same_name (names_in A)) z z (at_start q.run q.home).scope (given z i)) x y d (outs_listed A.plan.exits x y o) o
