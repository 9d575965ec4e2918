-- With other bounds for a function the lifetimes of each function are read alike, and where it isn't called so are the signatures
-- of all calls: by induction on the actions. So a function that isn't called in its own body has the same solutions under all bounds.
use Rattle.std.proofs.Common.{◌≡◌, ◌≢◌, ◌↔◌, ℕ, zero, suc, ◌+◌, ◌<◌, true, List, [], ◌∷◌, ◌++◌, map, Option, Some, slice_get, refl, sym, ap, subst, ◌∙◌}
use Rattle.rx_core.specs.declared.types.Bound.{Bound}
use Rattle.rx_core.specs.declared.types.Step.{Step}
use Rattle.rx_core.specs.declared.types.Ty.{Ty}
use Rattle.rx_core.specs.declared.types.Step.TheVariants as step
use Rattle.rx_typed.specs.declared.declarations.Decl.{Decl}
use Rattle.rx_typed.specs.Regions.{RegionTyp, RegionTyps}
use Rattle.rx_typed.specs.Tree as tree
use Rattle.rx_typed.specs.Tree.{Making, constant, negation, inversion, operation, lazy, tuple, struct, variant_of}
use Rattle.rx_lower_walks.specs.Actions.{Act, Declare, Dead, Read, Write, Borrow, Test, Call, Build, Input, Print, Give, Action}
use Rattle.rx_lower_walks.specs.Walks.{here, there}
use Rattle.rx_lower_walks.specs.Graph.{Site}
use Rattle.rx_lower_walks.specs.Text.{actions_of}
use Rattle.rx_lower_walks.specs.Pieces.{graph}
use Rattle.rx_region_outlives.specs.Implied.{HasPair}
use Rattle.rx_region_outlives.specs.Related.{subtypes}
use Rattle.rx_typed.specs.Renaming.{Signature, signature_from}
use Rattle.rx_typed.specs.Places.{behind, place_type}
use Rattle.rx_lower_lifetimes.specs.Values.{Open, Held, lifetimes_of, held_by}
use Rattle.rx_lower_lifetimes.specs.Variables.{Written, open_types}
use Rattle.rx_lower_lifetimes.specs.Numbered as numbered
use Rattle.rx_lower_lifetimes.specs.Numbered.{Own, signed, own_of, all_owned, all_open, all_numbered}
use Rattle.rx_lower_lifetimes.specs.Positions.{own_lifetimes}
use Rattle.rx_lower_lifetimes.specs.Lowered.{parameters}
use Rattle.rx_lower.specs.Functions.{trimmed, written}
use Rattle.rx_typeck_typed.specs.declared.typed.TypedFn.{TypedFn}
use Rattle.rx_facts.specs.Functions.{body, sites_of}
use Rattle.rx_region.specs.Constraints as constraints
use Rattle.rx_region.specs.Constraints.{Context, instances, through, reborrows, made_parts, flows, imposed}
use Rattle.rx_region.specs.Solutions.{Point, Sets, Solution, Least}
use Rattle.rx_region.specs.Tables.{Follows, itself, by}
use Rattle.rx_check.specs.Contexts.{context_of}
use Rattle.rx_repair.specs.Asking.{AsksNoMore}
use Rattle.rx_repair.specs.Bounded.{bounded, with_bounds}
use Rattle.rx_repair.specs.Calls.{Calls, NeverCalls, CallsNotItself}
use Rattle.rx_repair.specs.LeastBounds.{by_types, IsLeastBound}
use Rattle.rx_repair.proofs.Asked.{solution_too, least_grows}
use Rattle.rx_repair.proofs.Observed.{elsewhere, lifetimes_at, result_at, parameters_at, variances_at, fields_at, variant_at, behind_same, place_same, held_same, own_lifetimes_same}
use Rattle.rx_repair.proofs.Imposed.{ReadsAlike, imposed_alike, by_types_alike}

-- ---- a function's lifetimes

module _ (D : List Decl) (i : ℕ) (bs : List Bound) where
  abbrev other : List Decl
  other = with_bounds D i bs

  made_alike : (w : Making) (t : RegionTyp) → made_parts other w t ≡ made_parts D w t
  made_alike (constant c) t = refl
  made_alike negation t = refl
  made_alike inversion t = refl
  made_alike (operation o) t = refl
  made_alike lazy t = refl
  made_alike tuple t = refl
  made_alike (struct n) t = ap (λ (ts : RegionTyps). instances (constraints.lifetimes_of t) ts) (fields_at bs D i n)
  made_alike (variant_of n v) t = ap (λ (ts : RegionTyps). instances (constraints.lifetimes_of t) ts) (variant_at bs D i n v)

  reborrows_alike : (t : RegionTyp) (r : ℕ) (ss : List Step) → reborrows other t r ss ≡ reborrows D t r ss
  reborrows_alike t r [] = refl
  reborrows_alike t r (step.Field n ∷ ss) = ap (λ (u : RegionTyp). reborrows other u r ss) (behind_same bs D i t (step.Field n)) ∙ reborrows_alike (behind D t (step.Field n)) r ss
  reborrows_alike t r (step.Variant v ∷ ss) = ap (λ (u : RegionTyp). reborrows other u r ss) (behind_same bs D i t (step.Variant v)) ∙ reborrows_alike (behind D t (step.Variant v)) r ss
  reborrows_alike t r (step.Deref k ∷ ss) = ap (λ (ps : List Bound). through t r ss ++ ps)
      (ap (λ (u : RegionTyp). reborrows other u r ss) (behind_same bs D i t (step.Deref k)) ∙ reborrows_alike (behind D t (step.Deref k)) r ss)

  -- ---- what sites have of their own

  own_alike : (n : ℕ) (a : Act) → (Calls i a → ⊥) → own_of other n a ≡ own_of D n a
  own_alike n (Call f ts d) h = ap (λ (o : Option Decl). signed (signature_from n o)) (elsewhere bs D i f h)
  own_alike n (Declare x) h = refl
  own_alike n (Dead x) h = refl
  own_alike n (Read m p d) h = refl
  own_alike n (Write p t ss) h = refl
  own_alike n (Borrow k p d) h = refl
  own_alike n (Test p c) h = refl
  own_alike n (Build w is ts d) h = refl
  own_alike n (Input d) h = refl
  own_alike n (Print t) h = refl
  own_alike n (Give t) h = refl

  owned_alike : (n : ℕ) (us : List Action) → NeverCalls i us → all_owned other n us ≡ all_owned D n us
  owned_alike n [] h = refl
  owned_alike n (a ∷ us) h =
      let more : all_owned other (n + own_lifetimes other a.act) us ≡ all_owned D (n + own_lifetimes D a.act) us =
      ap (λ k. all_owned other (n + k) us) (own_lifetimes_same bs D i a.act) ∙ owned_alike (n + own_lifetimes D a.act) us (λ b w. h b (there w)) in
      λ j. own_alike n a.act (h a here) j ∷ more j

  -- ---- a function's

  module _ (P : ℕ → List Bound) (f : TypedFn) where
    abbrev actions : List Action
    actions = actions_of (graph (body f))

    abbrev pub variables : ℕ → List Ty → List Open
    variables own ps = open_types own (body f).params ps (map written f.annotations) 0 (trimmed f.variables)

    pub variables_alike : variables (lifetimes_of (slice_get other f.item)) (parameters (slice_get other f.item)) ≡ variables (lifetimes_of (slice_get D f.item)) (parameters (slice_get D f.item))
    variables_alike = λ j. variables (lifetimes_at bs D i f.item j) (parameters_at bs D i f.item j)

    abbrev pub temporaries : List Decl → List Open → List Held
    temporaries E V = held_by (record { items = E; variables = V }) [] actions

    abbrev pub those : List Decl → List Open
    those E = variables (lifetimes_of (slice_get E f.item)) (parameters (slice_get E f.item))

    pub temporaries_alike : temporaries other (those other) ≡ temporaries D (those D)
    temporaries_alike = ap (temporaries other) variables_alike ∙ held_same bs D i (those D) actions []

    pub reads_alike : ReadsAlike (context_of other P f) (context_of D P f)
    reads_alike = record {
      own = lifetimes_at bs D i f.item;
      types = λ j. all_numbered (lifetimes_at bs D i f.item j) (variables_alike j ++ numbered.opened (temporaries_alike j));
      temporaries = λ j. map (λ (h : Held). h.temporary) (temporaries_alike j);
      params = refl;
      answer = result_at bs D i f.item;
      implied = refl;
      flow = λ t u j. subtypes (λ n. variances_at bs D i n j) t u;
      place = place_same bs D i;
      made = made_alike;
      reborrow = reborrows_alike;
    }

    pub owned_same : NeverCalls i actions → (context_of other P f).lifetimes.owned ≡ (context_of D P f).lifetimes.owned
    owned_same never =
        (λ j. all_owned other (lifetimes_at bs D i f.item j + all_open (variables_alike j ++ numbered.opened (temporaries_alike j))) actions)
        ∙ owned_alike (lifetimes_of (slice_get D f.item) + all_open (those D ++ numbered.opened (temporaries D (those D)))) actions never

    imposed_same : NeverCalls i actions → imposed (context_of other P f) actions ≡ imposed (context_of D P f) actions
    imposed_same never = imposed_alike (context_of other P f) (context_of D P f) reads_alike (owned_same never) actions

    -- nothing more is asked, on either side
    pub no_more : NeverCalls i actions → AsksNoMore (context_of other P f) (context_of D P f) actions
    no_more never = record {
      own = reads_alike.own;
      types = reads_alike.types;
      temporaries = reads_alike.temporaries;
      pairs = λ l k h. by k (subst (λ (ps : List Bound). HasPair ps l k) (imposed_same never) h) itself;
    }

    pub no_less : NeverCalls i actions → AsksNoMore (context_of D P f) (context_of other P f) actions
    no_less never = record {
      own = sym reads_alike.own;
      types = sym reads_alike.types;
      temporaries = sym reads_alike.temporaries;
      pairs = λ l k h. by k (subst (λ (ps : List Bound). HasPair ps l k) (sym (imposed_same never)) h) itself;
    }

-- ---- under all bounds of its own

module _ (D : List Decl) (P : ℕ → List Bound) (f : TypedFn) (bs : List Bound) (never : CallsNotItself f) where
  abbrev first : Context
  first = context_of D P f

  abbrev second : Context
  second = context_of (with_bounds D f.item bs) P f

  pub same_solutions : (R : Sets) → Solution first (sites_of f) R ↔ Solution second (sites_of f) R
  same_solutions R = (solution_too second first (sites_of f) (no_more D f.item bs P f never) R, solution_too first second (sites_of f) (no_less D f.item bs P f never) R)

  pub same_least : (l : ℕ) (x : Point) → Least first (sites_of f) l x ↔ Least second (sites_of f) l x
  same_least l x = (least_grows first second (sites_of f) (no_less D f.item bs P f never) l x, least_grows second first (sites_of f) (no_more D f.item bs P f never) l x)

  pub same_by_types : by_types second ≡ by_types first
  same_by_types = by_types_alike second first (reads_alike D f.item bs P f)

  abbrev own_same : second.lifetimes.own ≡ first.lifetimes.own
  own_same = (reads_alike D f.item bs P f).own

  needed_forth : (l k : ℕ) → IsLeastBound first (sites_of f) l k → IsLeastBound second (sites_of f) l k
  needed_forth l k b = record {
    long = subst (λ n. l < n) (sym own_same) b.long;
    short = subst (λ n. k < n) (sym own_same) b.short;
    different = b.different;
    needed = λ R s. b.needed R ((same_solutions R).1 s);
    unknown = λ w. b.unknown (subst (λ (ps : List Bound). Follows ps l k) same_by_types w);
  }

  needed_back : (l k : ℕ) → IsLeastBound second (sites_of f) l k → IsLeastBound first (sites_of f) l k
  needed_back l k b = record {
    long = subst (λ n. l < n) own_same b.long;
    short = subst (λ n. k < n) own_same b.short;
    different = b.different;
    needed = λ R s. b.needed R ((same_solutions R).0 s);
    unknown = λ w. b.unknown (subst (λ (ps : List Bound). Follows ps l k) (sym same_by_types) w);
  }

  pub same_needed : (l k : ℕ) → IsLeastBound first (sites_of f) l k ↔ IsLeastBound second (sites_of f) l k
  same_needed l k = (needed_forth l k, needed_back l k)
