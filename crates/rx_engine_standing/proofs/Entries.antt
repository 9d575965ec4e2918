-- Entries of types: which a list has; and rows of variables with their types.
use Rattle.std.specs.Prelude.{nat_eq}
use Rattle.std.proofs.Common.{◌≡◌, ◌≤◌, ◌+◌, ℕ, zero, suc, Bool, true, false, if◌then◌else◌, List, [], ◌∷◌, ◌++◌, length, Some, slice_get, refl, sym, ap, ◌∙◌, subst, eqb-true, eq-eqb, arith}
use Rattle.rx_core.specs.declared.types.Span.{Span}
use Rattle.rx_resolve_names.specs.Meant.{number}
use Rattle.rx_typed.specs.Named.{Patterns}
use Rattle.rx_typed.specs.Types.{Typ}
use Rattle.rx_typeck_solver.specs.declared.facts.Subject.{Subject}
use Rattle.rx_typeck_solver.specs.declared.facts.Subject.TheVariants as subject
use Rattle.rx_typeck_solver.specs.Facts.{KnownItems}
use Rattle.rx_engine_names.specs.HandedOut.{AreBound}
use Rattle.rx_engine_names.specs.HandedOut.AreBound.{none_bound, more_bound}
use Rattle.rx_engine_holes.specs.Entries.{with_entries, Context, Entries}
use Rattle.rx_engine_holes.specs.CallFits.{PartsBind}
use Rattle.rx_engine_holes.specs.CallFits.PartsBind.{no_parts, more_parts}
use Rattle.rx_engine_standing.proofs.Fitting.{some_is}

pub data HasEntry (x : Subject) (t : Typ) : Entries → Type 0 where
  the_entry : {e : Subject × Typ} {es : Entries} → e.0 ≡ x → e.1 ≡ t → HasEntry x t (e ∷ es)
  later_entry : {e : Subject × Typ} {es : Entries} → HasEntry x t es → HasEntry x t (e ∷ es)

pub in_front : {x : Subject} {t : Typ} {es : Entries} (fs : Entries) → HasEntry x t es → HasEntry x t (es ++ fs)
in_front fs (the_entry p q) = the_entry p q
in_front fs (later_entry h) = later_entry (in_front fs h)

pub behind : {x : Subject} {t : Typ} (es : Entries) {fs : Entries} → HasEntry x t fs → HasEntry x t (es ++ fs)
behind [] h = h
behind (e ∷ es) h = later_entry (behind es h)

-- ---- rows

-- the numbers of variables are those by which they are named
abbrev pub FewIn : Entries → Type 0
FewIn es = (x : ℕ) (t : Typ) → HasEntry (subject.Variable x) t es → number x ≡ x

-- variables from a number on, with these types
abbrev pub RowHas : Entries → ℕ → List Typ → Type 0
RowHas es d [] = Unit {0}
RowHas es d (t ∷ ts) = HasEntry (subject.Variable d) t es × RowHas es (suc d) ts

abbrev pub RowKnown : Context → ℕ → List Typ → Type 0
RowKnown B d [] = Unit {0}
RowKnown B d (t ∷ ts) = (B (subject.Variable d) ≡ Some t) × RowKnown B (suc d) ts

abbrev pub RowFew : ℕ → List Typ → Type 0
RowFew d [] = Unit {0}
RowFew d (t ∷ ts) = (number d ≡ d) × RowFew (suc d) ts

pub row_few : (es : Entries) (d : ℕ) (ts : List Typ) → FewIn es → RowHas es d ts → RowFew d ts
row_few es d [] few h = tt
row_few es d (t ∷ ts) few h = (few d t h.0, row_few es (suc d) ts few h.1)

pub row_in_front : (es fs : Entries) (d : ℕ) (ts : List Typ) → RowHas es d ts → RowHas (es ++ fs) d ts
row_in_front es fs d [] h = tt
row_in_front es fs d (t ∷ ts) h = (in_front fs h.0, row_in_front es fs (suc d) ts h.1)

pub row_behind : (es fs : Entries) (d : ℕ) (ts : List Typ) → RowHas fs d ts → RowHas (es ++ fs) d ts
row_behind es fs d [] h = tt
row_behind es fs d (t ∷ ts) h = (behind es h.0, row_behind es fs (suc d) ts h.1)

pub row_later : (e : Subject × Typ) (es : Entries) (d : ℕ) (ts : List Typ) → RowHas es d ts → RowHas (e ∷ es) d ts
row_later e es d [] h = tt
row_later e es d (t ∷ ts) h = (later_entry h.0, row_later e es (suc d) ts h.1)

known_as : (B C : Context) (d : ℕ) (ts : List Typ) → ((y : ℕ) → d ≤ y → C (subject.Variable y) ≡ B (subject.Variable y)) → RowKnown B d ts → RowKnown C d ts
known_as B C d [] f h = tt
known_as B C d (t ∷ ts) f h = (f d (omega arith) ∙ h.0, known_as B C (suc d) ts (λ y l. f y (omega (arith, l))) h.1)

other_false : (n m : ℕ) → suc m ≤ n → nat_eq n m ≡ false
other_false n m l = by (nat_eq n m) refl
  where
    by : (b : Bool) → nat_eq n m ≡ b → b ≡ false
    by true e = let i = eqb-true n m e in absurd (omega (arith, i, l))
    by false e = refl

one_more : (j k : ℕ) → j + suc k ≡ suc j + k
one_more j k = omega (arith)

none_before : (k : ℕ) → k ≡ zero + k
none_before k = omega (arith)

-- parts of these types that are bound to such a row
pub bound_row : (E : KnownItems) (B : Context) {s : Span} {d : ℕ} {ms : List Bool} {ps : Patterns} {ts : List Typ} {k : ℕ} {a : Entries} → AreBound s d ms ps → PartsBind E ts k ps a → (us : List Typ) → length us ≡ length ms
    → ((j : ℕ) → slice_get ts (j + k) ≡ slice_get us j) → RowHas a d us × RowKnown (with_entries a B) d us
bound_row E B none_bound no_parts [] l s = (tt, tt)
bound_row E B none_bound no_parts (u ∷ us) l s = absurd (omega (arith, l))
bound_row E B (more_bound i bs) (more_parts e lim rest) [] l s = absurd (omega (arith, l))
bound_row E B {d = d} {ts = ts} {k = k} (more_bound {n = n} i bs) (more_parts {t = t} {a = a} e lim rest) (u ∷ us) l s =
    let r = bound_row E B bs rest us (omega (arith, l)) (λ j. ap (slice_get ts) (one_more j k) ∙ s (suc j)) in
    let w : t ≡ u = some_is t u (sym e ∙ (ap (slice_get ts) (none_before k) ∙ s zero)) in
    let here : HasEntry (subject.Variable d) t ((subject.Node n.number, t) ∷ (subject.Variable d, t) ∷ a) = later_entry (the_entry refl refl) in
    let all : Entries = (subject.Node n.number, t) ∷ (subject.Variable d, t) ∷ a in
    let rest_known = known_as (with_entries a B) (with_entries all B) (suc d) us (λ y l. ap (λ (b : Bool). if b then Some t else with_entries a B (subject.Variable y)) (other_false y d l)) r.1 in (
      (subst (λ (v : Typ). HasEntry (subject.Variable d) v all) w here, row_later _ ((subject.Variable d, t) ∷ a) (suc d) us (row_later _ a (suc d) us r.0)),
      (ap (λ (b : Bool). if b then Some t else with_entries a B (subject.Variable d)) (eq-eqb d d refl) ∙ ap Some w, rest_known),
    )
