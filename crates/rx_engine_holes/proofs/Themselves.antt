-- A part that is the text's by other numbers but for a run, for whose demands it has others: it has a valid assignment, whatever becomes of the run.
use Rattle.std.proofs.Common.{◌≡◌, ℕ, Bool, ◌||◌, List, [], ◌∷◌, ◌++◌, ◌⊎◌, Option, Some, None, option_map, refl, sym, ap, ◌∙◌, subst, append-nil, inl, inr, ⊎_elim}
use Rattle.rx_core.specs.declared.types.Span.{Span}
use Rattle.rx_typed.specs.declared.nodes.Node.{Node}
use Rattle.rx_typed.specs.Types.{Typ}
use Rattle.rx_typed.specs.Named.{else_diverges, some_diverges, tail_never, Else, Function, Statements}
use Rattle.rx_typeck_solver.specs.declared.facts.Kinds.{Kinds}
use Rattle.rx_typeck_solver.specs.declared.facts.Subject.{Subject}
use Rattle.rx_typeck_solver.specs.declared.facts.Subject.TheVariants as subject
use Rattle.rx_typeck_solver.specs.declared.facts.Fact.{Fact}
use Rattle.rx_typeck_solver.specs.declared.facts.Fact.TheVariants as fact
use Rattle.rx_typeck_solver.specs.declared.facts.Demand.{Demand}
use Rattle.rx_typeck_solver.specs.Facts.{KnownItems, MeetsEach, Assignment}
use Rattle.rx_typeck_solver.specs.Ordered.{Orderly}
use Rattle.rx_typeck_solver.specs.Valid.{literals_of, IsIn, Told, TellsAny, Valid}
use Rattle.rx_typeck_typed.specs.Demands as rules
use Rattle.rx_engine_blocks.specs.Renumbering.{fact_at, node_at, subject_at, Renumbering}
use Rattle.rx_engine_blocks.specs.DemandsLike.{DemandsLike, FactsLike, Is, NoSpecial}
use Rattle.rx_engine_blocks.specs.DemandsLike.Is.{itself}
use Rattle.rx_engine_blocks.specs.DemandsLike.FactLike.{like_fact}
use Rattle.rx_engine_blocks.specs.DemandsLike.FactsLike.{like_more_facts, like_no_fact}
use Rattle.rx_engine_blocks.specs.DemandsLike.DemandsLike.{like_more_demands, like_no_demand, like_other_demands}
use Rattle.rx_engine_blocks.specs.Knows.{Knows}
use Rattle.rx_engine_blocks.specs.Along.{composed, none_viewed, subject_back, text_or, Along, PartialInverse}
use Rattle.rx_engine_blocks.specs.Blocks.{none_behind, task_of, Block}
use Rattle.rx_engine_blocks.specs.Parts.{Added, Elsewhere, SameAs}
use Rattle.rx_engine_blocks.specs.ByItself.{ByItself, LiteralStands}
use Rattle.rx_engine_blocks.specs.Around.{Round}
use Rattle.rx_engine_blocks.specs.Around.Round.{instead, ordinary}
use Rattle.rx_engine_blocks.specs.Gets.{asked_here, asked_later, later_fact, this_fact, IsAsked, IsFact}
use Rattle.rx_engine_blocks.proofs.Meets.{all_there, first, last}
use Rattle.rx_engine_blocks.proofs.Split.{both_met, literal_left, literal_one, literal_right, literal_split, one_literal, told_left, told_right}
use Rattle.rx_engine_blocks.proofs.OneType.{integers_settle}
use Rattle.rx_engine_blocks.proofs.Blocking.{block_then}
use Rattle.rx_engine_blocks.proofs.Copying.{copied_block, plain_copies}
use Rattle.rx_engine_blocks.proofs.Same.{each_same}
use Rattle.rx_engine_blocks.proofs.Special.{added, left}
use Rattle.rx_engine_blocks.proofs.Tying.{part_by_itself}
use Rattle.rx_engine_typing.specs.Renumbered.{no_holes, RenumberedFunction}
use Rattle.rx_engine_typing.proofs.Looks.{Fits}
use Rattle.rx_engine_typing.proofs.Forms.{function_alike, its, Asks}
use Rattle.rx_engine_holes.specs.Named.{NamedIn}
use Rattle.rx_engine_holes.specs.Others.{OthersFit}
use Rattle.rx_engine_holes.specs.Run.{with_run}
use Rattle.rx_engine_holes.specs.Tail.{of_end, with_tail}
use Rattle.rx_engine_holes.proofs.Around.{run_asks, run_fits}
use Rattle.rx_engine_holes.proofs.Adding.{literal_named, EachNamesItsOwn}
use Rattle.rx_engine_holes.proofs.Naming.{each_about}
use Rattle.rx_engine_holes.proofs.Tails.{tail_asks, tail_fits}

-- ---- the text's types of what comes from the text

module _ (q : Renumbering) (w : PartialInverse q) (A V : Assignment) where
  abbrev W : Assignment
  W = composed q w none_viewed A V

  comes : (x : Subject) → subject_back q w (subject_at q x) ≡ Some x
  comes (subject.Variable x) = ap (option_map subject.Variable) (w.variable_there x)
  comes (subject.Node n) = ap (option_map subject.Node) (w.node_there n)
  comes (subject.Expected n) = ap (option_map subject.Expected) (w.node_there n)

  pub along : Along q A W
  along x = ap (λ (o : Option Subject). text_or q none_viewed o A (V (subject_at q x))) (comes x)

  -- what is composed once is composed
  composed_once : (o : Option Subject) (t : Typ) → text_or q none_viewed o A (text_or q none_viewed o A t) ≡ text_or q none_viewed o A t
  composed_once None t = refl
  composed_once (Some x) t = refl

  pub composed_is : (y : Subject) → composed q w none_viewed A W y ≡ W y
  composed_is y = composed_once (subject_back q w y) (V y)

-- ---- what is asked

module _ (q : Renumbering) (asked given : List Demand) where
  abbrev S : List Demand → List Demand → Type 0
  S = Round NoSpecial asked given

  met : (D E : KnownItems) → Knows q D E → (A W : Assignment) → Along q A W → MeetsEach E W given → {ds es : List Demand} → DemandsLike q S ds es → MeetsEach D A ds → MeetsEach E W es
  met D E k A W l g like_no_demand h = tt
  met D E k A W l g (like_more_demands {ds = ds} {ds' = ds'} {d = d} {d' = d'} m e) h =
      let p = first D A ds (d ∷ []) h in last E W ds' d' (met D E k A W l g m p.0) (all_there q D E k A W l e.facts p.1.0)
  met D E k A W l g (like_other_demands {ds = ds} {ds' = ds'} gs gs' m instead) h = both_met E W ds' given (met D E k A W l g m (first D A ds gs h).0) g
  met D E k A W l g (like_other_demands gs gs' m (ordinary z)) h = absurd z

  is_so : {A : Type 0} {a b : A} → Is a b → a ≡ b
  is_so itself = refl

  -- a literal of the text is one of the part, or of the run
  literal : {ds es : List Demand} (m : ℕ) → DemandsLike q S ds es → IsIn m (literals_of ds) → IsIn (q.nodes m) (literals_of es) ⊎ IsIn m (literals_of asked)
  literal m like_no_demand i = absurd i
  literal m (like_more_demands {ds = ds} {ds' = ds'} {d = d} {d' = d'} l e) i = ⊎_elim
      (λ h. ⊎_elim (λ k. inl (literal_left ds' (d' ∷ []) (q.nodes m) k)) (λ k. inr k) (literal m l h))
      (λ h. let o = literal_one d m h in inl (literal_right ds' (d' ∷ []) (q.nodes m) (one_literal d' (q.nodes m) (sym (is_so e.unsuffixed) ∙ o.0) (ap q.nodes o.1 ∙ is_so e.node))))
      (literal_split ds (d ∷ []) m i)
  literal m (like_other_demands {ds = ds} {ds' = ds'} gs gs' l instead) i = ⊎_elim
      (λ h. ⊎_elim (λ k. inl (literal_left ds' given (q.nodes m) k)) (λ k. inr k) (literal m l h))
      (λ h. inr h)
      (literal_split ds gs m i)
  literal m (like_other_demands gs gs' l (ordinary z)) i = absurd z

  -- an integer of the part is one of the text
  abbrev Comes : ℕ → (Subject → Type 0) → Type 0
  Comes n T = (m : ℕ) × (q.nodes m ≡ n) × T (subject.Node m)

  later : (n : ℕ) (f : Fact) (fs : List Fact) → Comes n (TellsAny fs) → Comes n (TellsAny (f ∷ fs))
  later n f fs r = (r.0, r.1, inr r.2)

  fact_split : {g f : Fact} {fs : List Fact} → IsFact g (f ∷ fs) → (g ≡ f) ⊎ IsFact g fs
  fact_split this_fact = inl refl
  fact_split (later_fact i) = inr i

  abbrev its_node : Fact → Option ℕ
  its_node (fact.Integer n s) = Some n
  its_node (fact.Equals x o xs ps) = None
  its_node (fact.IntegerBehind n s) = None
  its_node (fact.Passes t xs ps qs) = None
  its_node fact.Never = None

  some_is : (a b : ℕ) → ◌≡◌ {A = Option ℕ} (Some a) (Some b) → b ≡ a
  some_is a b e = cc

  some_none : (a : ℕ) → ◌≡◌ {A = Option ℕ} (Some a) None → ⊥
  some_none a e = cc

  this_integer : (n : ℕ) (s : Kinds) (f : Fact) (fs : List Fact) → fact.Integer n s ≡ fact_at q f → Comes n (TellsAny (f ∷ fs))
  this_integer n s (fact.Integer m z) fs e = (m, some_is n (q.nodes m) (ap its_node e), inl refl)
  this_integer n s (fact.Equals x o xs ps) fs e = absurd (some_none n (ap its_node e))
  this_integer n s (fact.IntegerBehind m z) fs e = absurd (some_none n (ap its_node e))
  this_integer n s (fact.Passes t xs ps qs) fs e = absurd (some_none n (ap its_node e))
  this_integer n s fact.Never fs e = absurd (some_none n (ap its_node e))

  integer_fact : (n : ℕ) (s : Kinds) {fs fs' : List Fact} → FactsLike q fs fs' → IsFact (fact.Integer n s) fs' → Comes n (TellsAny fs)
  integer_fact n s like_no_fact i = elim i [ ]
  integer_fact n s (like_more_facts {fs = fs} {fs' = fs'} (like_fact {f = f}) l) i = ⊎_elim (λ e. this_integer n s f fs e) (λ k. later n f fs (integer_fact n s l k)) (fact_split i)

  asked_split : (f : Fact) (xs ys : List Demand) → IsAsked f (xs ++ ys) → IsAsked f xs ⊎ IsAsked f ys
  asked_split f [] ys i = inr i
  asked_split f (x ∷ xs) ys (asked_here h) = inl (asked_here h)
  asked_split f (x ∷ xs) ys (asked_later h) = ⊎_elim (λ k. inl (asked_later k)) (λ k. inr k) (asked_split f xs ys h)

  integer : (n : ℕ) (s : Kinds) → (IsAsked (fact.Integer n s) given → ⊥) → {ds es : List Demand} → DemandsLike q S ds es → IsAsked (fact.Integer n s) es → Comes n (Told ds)
  integer n s none like_no_demand i = elim i [ ]
  integer n s none (like_more_demands {ds = ds} {ds' = ds'} {d = d} {d' = d'} l e) i = ⊎_elim
      (λ h. let r = integer n s none l h in (r.0, r.1, told_left ds (d ∷ []) (subject.Node r.0) r.2))
      (λ h. let r = integer_fact n s e.facts (in_one h) in (r.0, r.1, told_right ds (d ∷ []) (subject.Node r.0) (inl r.2)))
      (asked_split (fact.Integer n s) ds' (d' ∷ []) i)
    where
      in_one : {d : Demand} → IsAsked (fact.Integer n s) (d ∷ []) → IsFact (fact.Integer n s) d.facts
      in_one (asked_here h) = h
      in_one (asked_later h) = elim h [ ]
  integer n s none (like_other_demands {ds = ds} {ds' = ds'} gs gs' l instead) i = ⊎_elim
      (λ h. let r = integer n s none l h in (r.0, r.1, told_left ds gs (subject.Node r.0) r.2))
      (λ h. absurd (none h))
      (asked_split (fact.Integer n s) ds' given i)
  integer n s none (like_other_demands gs gs' l (ordinary z)) i = absurd z

-- ---- by itself

others_by_themselves : (q : Renumbering) (w : PartialInverse q) (D E : KnownItems) → Knows q D E → (A V : Assignment) (IsFixed : Subject → Type 0) (text part asked given : List Demand) → Orderly (task_of part) → DemandsLike q (Round NoSpecial asked given) text part
    → MeetsEach D A text → MeetsEach E (composed q w none_viewed A V) given → ((n : ℕ) (s : Kinds) → IsAsked (fact.Integer n s) given → ⊥) → ((m : ℕ) → IsIn m (literals_of asked) → LiteralStands q IsFixed part m)
    → ByItself q w none_viewed IsFixed E A (composed q w none_viewed A V) text part
others_by_themselves q w D E k A V IsFixed text part asked given o l h g none stands =
    let W0 = composed q w none_viewed A V in let m = met q asked given D E k A W0 (along q w A V) g l h in record {
      same = composed_is q w A V;
      meets = m;
      literals = λ n i. ⊎_elim (λ z. inl z) (λ z. stands n z) (literal q asked given n l i);
      tells = integers_settle q E W0 text part o.ordered m (λ n s i. integer q asked given n s (none n s) l i);
    }

-- ---- a valid assignment

pub others_are_valid : (q : Renumbering) (w : PartialInverse q) (D E : KnownItems) → Knows q D E → (A V : Assignment) (text part asked given : List Demand) → Orderly (task_of part) → DemandsLike q (Round NoSpecial asked given) text part
    → Valid D (task_of text) A → EachNamesItsOwn asked → OthersFit q w E A V asked given part → Valid E (task_of part) (composed q w none_viewed A V)
others_are_valid q w D E k A V text part asked given o l v its fit =
    part_by_itself q w none_viewed none_behind P D E k A W0 text part (λ x y e. cc) (λ x e. cc) o fit.fixes
    (copied_block q w none_viewed none_behind P D E k A W0 (λ x e. cc) (Round NoSpecial asked given) special l (plain_copies A text)) v
    (others_by_themselves q w D E k A V P text part asked given o l v.prefers.typed fit.met (λ n z. (fit.no_integer n).1 z) (λ m i. inr (inr (literal_named m asked its i))))
  where
    P : Subject → Type 0
    P = NamedIn asked

    W0 : Assignment
    W0 = composed q w none_viewed A V

    run_elsewhere : Elsewhere D A P asked
    run_elsewhere B same_outlines same h = each_same D A B P same asked (each_about P asked (λ x i. i)) h

    given_added : Added (composed q w none_viewed A W0) W0 given
    given_added = record { about = each_about (SameAs (composed q w none_viewed A W0) W0) given (λ x i. composed_is q w A V x); literals = λ n i. (fit.no_integer n).0 i }

    special : (gs gs' : List Demand) → Round NoSpecial asked given gs gs' → Block q w none_viewed none_behind P D E A W0 gs gs'
    special gs gs' (ordinary z) = absurd z
    special gs gs' instead = subst (λ (xs : List Demand). Block q w none_viewed none_behind P D E A W0 xs given) (append-nil asked)
        (block_then q w none_viewed none_behind P D E A W0 asked [] [] given (left q w none_viewed none_behind P D E k A W0 asked run_elsewhere) (added q w none_viewed none_behind P D E k A W0 given given_added))

-- ---- functions

module _ (q : Renumbering) (loops : ℕ → ℕ) (asked given : List Demand) where
  fits : Fits q loops no_holes (Round NoSpecial asked given)
  fits = record {
    node = λ e e' h. absurd h;
    place = λ e e' h. absurd h;
    root = λ e e' h. absurd h;
    diverges = λ e e' h. absurd h;
    never = λ e e' h. absurd h;
    uses = λ x m k h. absurd h;
    block_node = λ b b' h. absurd h;
    block_diverges = λ b b' h. absurd h;
    block_never = λ b b' h. absurd h;
  }

  none_asks : Asks q loops no_holes (Round NoSpecial asked given)
  none_asks = record { asks = λ f e e' ds ds' h d. absurd h; block_asks = λ f b b' ds ds' h d. absurd h; given_asks = λ f n p s t x m d e e' k h. absurd k }

  pub round_a_run : (run call : Statements) → Is (some_diverges run) (some_diverges call) → (f g : Function)
      → ((ds : List Demand) → rules.of_statements f.item run ds ≡ ds ++ asked) → ((ds : List Demand) → rules.of_statements (q.items f.item) call ds ≡ ds ++ given)
      → RenumberedFunction q loops (with_run q loops no_holes run call) f g → DemandsLike q (Round NoSpecial asked given) (rules.demands f) (rules.demands g)
  round_a_run run call same f g runs calls h = function_alike q loops (with_run q loops no_holes run call) (Round NoSpecial asked given) (run_fits q loops no_holes (Round NoSpecial asked given) fits run call same) f.item
      (run_asks q loops no_holes (Round NoSpecial asked given) fits run call same f.item (its q loops no_holes (Round NoSpecial asked given) fits none_asks f.item) asked given instead runs calls) h

  pub round_an_end : (n : Node) (s : Span) (d : Bool) (run : Statements) (o : Else) (call : Statements) (o' : Else) → Is (some_diverges run || else_diverges o) (some_diverges call || else_diverges o')
      → Is (tail_never (d || some_diverges run) o) (tail_never (d || some_diverges call) o') → (f g : Function)
      → ((ds : List Demand) → of_end f.item n d run o ds ≡ ds ++ asked) → ((ds : List Demand) → of_end (q.items f.item) (node_at q n s) d call o' ds ≡ ds ++ given)
      → RenumberedFunction q loops (with_tail q loops no_holes n s d run o call o') f g → DemandsLike q (Round NoSpecial asked given) (rules.demands f) (rules.demands g)
  round_an_end n s d run o call o' same same_never f g runs calls h = function_alike q loops (with_tail q loops no_holes n s d run o call o') (Round NoSpecial asked given)
      (tail_fits q loops no_holes (Round NoSpecial asked given) fits n s d run o call o' same same_never) f.item
      (tail_asks q loops no_holes (Round NoSpecial asked given) fits n s d run o call o' same same_never f.item (its q loops no_holes (Round NoSpecial asked given) fits none_asks f.item) asked given instead runs calls) h
