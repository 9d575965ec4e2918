-- Patterns that are made, each of which binds one new name: they resolve where no name is bound twice, and bind variables with numbers in
-- order.
use Rattle.std.proofs.Common.{◌≡◌, ℕ, suc, Bool, true, false, ◌||◌, if◌then◌else◌, List, [], ◌∷◌, ◌++◌, length, Option, Some, None, Ok, refl, sym, ap, ◌∙◌, subst, append_assoc, append-nil, bytes_eq}
use Rattle.std.proofs.lemmas.Slice.Eq.{bytes_eq-Decides}
use Rattle.rx_core.specs.declared.types.Span.{Span}
use Rattle.rx_tree.specs.Lists.{Every}
use Rattle.rx_tree.specs.Plain.{PatternTree}
use Rattle.rx_resolve_names.specs.declared.table.NumberedName.{NumberedName}
use Rattle.rx_resolve_names.specs.Scopes.{DeclaredNames, declared_as, Variables, variable_named, entered}
use Rattle.rx_resolve_names.specs.declared.resolved.ItemNames.{ItemNames}
use Rattle.rx_resolve_names.specs.Meant.{number}
use Rattle.rx_resolve_names.specs.Steps.{Outcome, and_then, Inside, declared_behind, child, next, entry, with_names, with_variable}
use Rattle.rx_resolve_names.specs.Names.{Bound, in_pattern, in_patterns}
use Rattle.rx_typed.specs.declared.nodes.Node.{Node}
use Rattle.rx_typed.specs.declared.nodes.Site.{Site}
use Rattle.rx_typed.specs.declared.nodes.Stage.{Stage}
use Rattle.rx_typed.specs.declared.nodes.Declaration.{Declaration}
use Rattle.rx_typed.specs.Named as named
use Rattle.rx_typed.specs.Naming.{of_pattern, of_patterns}
use Rattle.rx_hoist_extraction.specs.Names.{Names, is_among, Distinct}
use Rattle.rx_hoist_extraction.specs.Made.{ident, binding, as_patterns}
use Rattle.rx_engine_names.specs.Renaming.{Made}
use Rattle.rx_engine_names.specs.HandsOver.{declared_from}
use Rattle.rx_engine_names.specs.HandedOut.{AreBound, none_bound, more_bound}
use Rattle.rx_engine_names.proofs.SideBySide.{and_ok, one_more}
use Rattle.rx_engine_names.proofs.Scoped.{declared_names, names_more}
use Rattle.rx_engine_names.proofs.Alone.{Alone, alone_give, alone_then, alone_map, alone_node, alone_entry, alone_declare, KindAlone, Makes, makes_nothing, makes_then}

-- ---- names

-- none of them is among those, and no two are the same
abbrev pub AllNew : Names → Names → Type 0
AllNew done [] = Unit {0}
AllNew done (x ∷ xs) = (is_among x done ≡ false) × AllNew (done ++ x ∷ []) xs

pub not_declared : (ds : DeclaredNames) (x : List ℕ) → is_among x (declared_names ds) ≡ false → declared_as ds x ≡ None
not_declared [] x h = refl
not_declared (d ∷ ds) x h = by (bytes_eq x d.0) h (not_declared ds x)
  where
    by : (b : Bool) → (b || is_among x (declared_names ds)) ≡ false → (is_among x (declared_names ds) ≡ false → declared_as ds x ≡ None) → (if b then Some d.1 else declared_as ds x) ≡ None
    by true h r = absurd (cc)
    by false h r = r h

-- each of them means its variable
abbrev pub MeantFrom : Variables → ℕ → Names → Type 0
MeantFrom sc d [] = Unit {0}
MeantFrom sc d (x ∷ xs) = (variable_named sc x ≡ Some (number d)) × MeantFrom sc (suc d) xs

other_hidden : (b : Bool) (x : List ℕ) (y : List ℕ) (k : ℕ) (sc : Variables) → bytes_eq x y ≡ b → b ≡ false → variable_named (record { name = y; number = k } ∷ sc) x ≡ variable_named sc x
other_hidden b x y k sc e f = ap (λ (z : Bool). if z then Some k else variable_named sc x) (e ∙ f)

or_both : (a b : Bool) → (a || b) ≡ false → (a ≡ false) × (b ≡ false)
or_both true b e = absurd (cc)
or_both false b e = (refl, e)

-- other names mean what they did
pub not_hidden : (s : Span) (d : ℕ) (xs : Names) (sc : Variables) (x : List ℕ) → is_among x xs ≡ false → variable_named (entered sc (declared_from s d xs)) x ≡ variable_named sc x
not_hidden s d [] sc x h = refl
not_hidden s d (y ∷ ys) sc x h =
    let r = or_both (bytes_eq x y) (is_among x ys) h in
    not_hidden s (suc d) ys (record { name = y; number = number d } ∷ sc) x r.1 ∙ other_hidden (bytes_eq x y) x y (number d) sc refl r.0

pub meant_from : (s : Span) (d : ℕ) (xs : Names) (sc : Variables) → Distinct xs → MeantFrom (entered sc (declared_from s d xs)) d xs
meant_from s d [] sc h = tt
meant_from s d (x ∷ xs) sc h = (
  not_hidden s (suc d) xs (record { name = x; number = number d } ∷ sc) x h.0 ∙ ap (λ (z : Bool). if z then Some (number d) else variable_named sc x) ((bytes_eq-Decides x x).1 refl),
  meant_from s (suc d) xs (record { name = x; number = number d } ∷ sc) h.1,
)

-- distinct names are new one by one
clash : true ≡ false → ⊥
clash e = cc

pub bytes_swap : (x y : List ℕ) (b : Bool) → bytes_eq x y ≡ false → bytes_eq y x ≡ b → b ≡ false
bytes_swap x y false e f = refl
bytes_swap x y true e f = absurd (clash (sym ((bytes_eq-Decides x y).1 (sym ((bytes_eq-Decides y x).0 f))) ∙ e))

among_end : (y : List ℕ) (done : Names) (x : List ℕ) → is_among y done ≡ false → bytes_eq y x ≡ false → is_among y (done ++ x ∷ []) ≡ false
among_end y [] x h e = ap (λ (z : Bool). z || false) e
among_end y (d ∷ ds) x h e =
    let r = or_both (bytes_eq y d) (is_among y ds) h in ap (λ (z : Bool). z || is_among y (ds ++ x ∷ [])) r.0 ∙ among_end y ds x r.1 e

unlike_end : (done : Names) (x : List ℕ) (ys : Names) → is_among x ys ≡ false → Every (λ (y : List ℕ). is_among y done ≡ false) ys → Every (λ (y : List ℕ). is_among y (done ++ x ∷ []) ≡ false) ys
unlike_end done x [] h f = tt
unlike_end done x (y ∷ ys) h f =
    let r = or_both (bytes_eq x y) (is_among x ys) h in (among_end y done x f.0 (bytes_swap x y (bytes_eq y x) r.0 refl), unlike_end done x ys r.1 f.1)

pub all_new : (done xs : Names) → Distinct xs → Every (λ (y : List ℕ). is_among y done ≡ false) xs → AllNew done xs
all_new done [] h f = tt
all_new done (x ∷ xs) h f = (f.0, all_new (done ++ x ∷ []) xs h.1 (unlike_end done x xs h.0 f.1))

pub none_done : (xs : Names) → Every (λ (y : List ℕ). is_among y [] ≡ false) xs
none_done [] = tt
none_done (x ∷ xs) = (refl, none_done xs)

-- ---- patterns

-- names, and whether each is `mut`
abbrev pub bindings_of : Span → List (List ℕ × Bool) → List PatternTree
bindings_of s [] = []
bindings_of s (x ∷ xs) = binding s x.0 x.1 ∷ bindings_of s xs

abbrev pub bound_names : List (List ℕ × Bool) → Names
bound_names [] = []
bound_names (x ∷ xs) = x.0 ∷ bound_names xs

abbrev pub bound_mutable : List (List ℕ × Bool) → List Bool
bound_mutable [] = []
bound_mutable (x ∷ xs) = x.1 ∷ bound_mutable xs

pub data IsBind (s : Span) (d : ℕ) (m : Bool) : named.Pattern → Type 0 where
  is_bind : {n : Node} → n.span ≡ s → IsBind s d m (named.bind n d m)

-- with these bindings in front
abbrev with_bound : DeclaredNames → Span → ℕ → List (List ℕ × Bool) → ItemNames → Bound
with_bound ds s d xs t = record { bindings = ds ++ declared_from s d (bound_names xs); tables = t }

module _ (items : ℕ → ℕ) (M : Made) (I' : Inside) (s : Span) where
  unfoldable pub made_bind : (at' : List ℕ) (x : List ℕ) (m : Bool) (ds : DeclaredNames) (u : ItemNames) → declared_as ds x ≡ None
      → Makes items M u (λ v. in_pattern I' at' (binding s x m) (record { bindings = ds; tables = u }) ≡ Ok (record { bindings = ds ++ (x, record { number = number (length u.vars); span = s }) ∷ []; tables = v }))
      (λ R u' es. Alone (IsBind s (length u.vars) m) u u' es (of_pattern (binding s x m)))
  made_bind at' x m ds u none =
      let z = entry I' at' (number (length u.vars) ∷ []) in
      let to : DeclaredNames → Outcome Bound = λ new. Ok (record { bindings = new; tables = with_names z (with_variable s u) }) in
      let decl : Declaration = record { mutable = m; stage = Stage.Given } in record {
        table = with_names z (with_variable s u);
        answer = ap (λ (o : Option NumberedName). and_then (declared_behind ds (ident s x) (length u.vars) o) to) none;
        added = z ∷ [];
        grown = refl;
        numbers = λ R sv. alone_node s Site.Value (λ n g. alone_then (alone_entry z) (λ a e. alone_map (λ v. named.bind n v m) (alone_declare {u = with_names z u} s decl)
            (λ v e. subst (λ (k : ℕ). IsBind s (length u.vars) m (named.bind n k m)) (sym e) (is_bind g))));
      }

  abbrev pub BoundAlone : ItemNames → List (List ℕ × Bool) → KindAlone
  BoundAlone u xs R u' es = Alone (AreBound s (length u.vars) (bound_mutable xs)) u u' es (of_patterns (as_patterns (bindings_of s xs)))

  more : {d : ℕ} {m : Bool} {ms : List Bool} {p : named.Pattern} {ps : named.Patterns} → IsBind s d m p → AreBound s (suc d) ms ps → AreBound s d (m ∷ ms) (named.pattern_and p ps)
  more (is_bind g) h = more_bound g h

  pub made_bindings : (at' : List ℕ) (i : ℕ) (xs : List (List ℕ × Bool)) (ds : DeclaredNames) (u : ItemNames) → AllNew (declared_names ds) (bound_names xs)
      → Makes items M u (λ v. in_patterns I' at' i (as_patterns (bindings_of s xs)) (record { bindings = ds; tables = u }) ≡ Ok (with_bound ds s (length u.vars) xs v)) (BoundAlone u xs)
  unfolding made_bind
  made_bindings at' i [] ds u new =
      makes_nothing u (λ v. Ok (record { bindings = ds; tables = u }) ≡ Ok (with_bound ds s (length u.vars) [] v)) (BoundAlone u []) (ap (λ (l : DeclaredNames). Ok (record { bindings = l; tables = u })) (sym (append-nil ds))) (λ R. alone_give named.no_pattern none_bound)
  made_bindings at' i (x ∷ xs) ds u new =
      let k : NumberedName = record { number = number (length u.vars); span = s } in
      let ds1 = ds ++ (x.0, k) ∷ [] in
      let A = made_bind (child at' i) x.0 x.1 ds u (not_declared ds x.0 new.0) in
      let B = made_bindings at' (next i) xs ds1 A.table (subst (λ (l : Names). AllNew l (bound_names xs)) (sym (names_more ds x.0 k)) new.1) in
      let same : length A.table.vars ≡ suc (length u.vars) = one_more u.vars s in
      makes_then A B
      (λ y z. and_ok (in_pattern I' (child at' i) (binding s x.0 x.1) (record { bindings = ds; tables = u })) (record { bindings = ds1; tables = A.table }) (in_patterns I' at' (next i) (as_patterns (bindings_of s xs))) (Ok (with_bound ds s (length u.vars) (x ∷ xs) B.table)) y
      (z ∙ ap (λ (l : DeclaredNames). Ok (record { bindings = l; tables = B.table })) (append_assoc ds ((x.0, k) ∷ []) (declared_from s (length A.table.vars) (bound_names xs))
      ∙ ap (λ (d : ℕ). ds ++ (x.0, k) ∷ declared_from s d (bound_names xs)) same)))
      (λ R sv N O. alone_then N (λ p e. alone_map (named.pattern_and p) O (λ ps h. more e (subst (λ (d : ℕ). AreBound s d (bound_mutable xs) ps) same h))))
