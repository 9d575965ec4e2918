-- Steps of reading types in a function: what each takes of the entries of names, and which numbers the lifetimes get.
use Rattle.std.proofs.Common.{◌≡◌, ◌⊎◌, inl, inr, ℕ, List, [], ◌∷◌, ◌++◌, Some, None, Ok, Err, refl, sym, ap, subst, ◌∙◌, append-nil, append_assoc}
use Rattle.rx_core.specs.declared.types.Span.{Span}
use Rattle.rx_resolve_names.specs.declared.resolved.NodeNames.{NodeNames}
use Rattle.rx_resolve_names.specs.Scopes.{DeclaredNames}
use Rattle.rx_resolve_names.specs.Meant.{number_in}
use Rattle.rx_typeck_typed.specs.declared.fault.DeclareFault.{DeclareFault}
use Rattle.rx_typeck_typed.specs.declared.fault.DeclareFault.TheVariants as fault
use Rattle.rx_typeck_typed.specs.Steps.{Step, on_ok, gives, and_then, in_front, an_entry, occurs}
use Rattle.rx_typeck_typed.specs.Written.{elided}
use Rattle.rx_compact_types.specs.Positions.{Position, Standing, as_parameter, as_result, as_let, or_zero, number_of, given, after, numbers, ends, NoneLeftOut, MayLeaveOut, AllMeant}
use Rattle.rx_compact_types.proofs.Roles.{role_of, reading}

-- a step takes these entries and has lifetimes at these places; of what it gives and of their numbers Q holds
pub record Reads {A : Type 0} (S : Step A) (e : Standing) (L : DeclaredNames) (es : List NodeNames) (xs : List Position) (Q : A → List ℕ → Type 0) : Type 0 where
  pub run : (ns : List NodeNames) (ls : List ℕ) (k : ℕ)
      → (v : A) × (S (reading (es ++ ns) ls k) ≡ Ok (v, reading ns (ls ++ numbers e L k xs) (ends e k xs))) × Q v (numbers e L k xs)

pub fit : {A : Type 0} {S : Step A} {e : Standing} {L : DeclaredNames} {es : List NodeNames} {xs : List Position} {Q : A → List ℕ → Type 0} (r : Reads S e L es xs Q)
    (ns : List NodeNames) (ls : List ℕ) (k : ℕ) → Q (r.run ns ls k).0 (numbers e L k xs)
fit r ns ls k = (r.run ns ls k).2

-- what is wrong
pub record Fails {A : Type 0} (S : Step A) (es : List NodeNames) : Type 0 where
  pub at : (ns : List NodeNames) (ls : List ℕ) (k : ℕ) → (x : DeclareFault) × (S (reading (es ++ ns) ls k) ≡ Err x)

-- where a type stands: what may be left out is, or in a result something is that may not
pub record Told {A : Type 0} (S : Standing → Step A) (L : DeclaredNames) (xs : List Position) (Q : A → List ℕ → Type 0) (es : List NodeNames) : Type 0 where
  pub reads : (e : Standing) → MayLeaveOut e xs → Reads (S e) e L es xs Q
  pub fails : NoneLeftOut xs ⊎ Fails (S (as_result None)) es
  pub meant : AllMeant L xs

-- ---- lists of places

pub numbers_both : (e : Standing) (L : DeclaredNames) (k : ℕ) (xs ys : List Position) → numbers e L k (xs ++ ys) ≡ numbers e L k xs ++ numbers e L (ends e k xs) ys
numbers_both e L k [] ys = refl
numbers_both e L k (None ∷ xs) ys = ap (λ ns. given e k ∷ ns) (numbers_both e L (after e k) xs ys)
numbers_both e L k (Some x ∷ xs) ys = ap (λ ns. number_of L x ∷ ns) (numbers_both e L k xs ys)

pub ends_both : (e : Standing) (k : ℕ) (xs ys : List Position) → ends e k (xs ++ ys) ≡ ends e (ends e k xs) ys
ends_both e k [] ys = refl
ends_both e k (None ∷ xs) ys = ends_both e (after e k) xs ys
ends_both e k (Some x ∷ xs) ys = ends_both e k xs ys

none_both : (xs ys : List Position) → NoneLeftOut (xs ++ ys) → NoneLeftOut xs × NoneLeftOut ys
none_both [] ys h = (tt, h)
none_both (None ∷ xs) ys h = absurd h
none_both (Some x ∷ xs) ys h = none_both xs ys h

none_from : (xs ys : List Position) → NoneLeftOut xs → NoneLeftOut ys → NoneLeftOut (xs ++ ys)
none_from [] ys h g = g
none_from (None ∷ xs) ys h g = absurd h
none_from (Some x ∷ xs) ys h g = none_from xs ys h g

pub may_both : (e : Standing) (xs ys : List Position) → MayLeaveOut e (xs ++ ys) → MayLeaveOut e xs × MayLeaveOut e ys
may_both as_parameter xs ys h = (tt, tt)
may_both (as_result None) xs ys h = none_both xs ys h
may_both (as_result (Some l)) xs ys h = (tt, tt)
may_both (as_let l) xs ys h = (tt, tt)

pub meant_from : (L : DeclaredNames) (xs ys : List Position) → AllMeant L xs → AllMeant L ys → AllMeant L (xs ++ ys)
meant_from L [] ys h g = g
meant_from L (None ∷ xs) ys h g = meant_from L xs ys h g
meant_from L (Some x ∷ xs) ys h g = (h.0, meant_from L xs ys h.1 g)

-- ---- one step

module _ (e : Standing) (L : DeclaredNames) where
  reads_gives : {A : Type 0} {Q : A → List ℕ → Type 0} (v : A) → Q v [] → Reads (gives v) e L [] [] Q
  reads_gives v q = record { run = λ ns ls k. (v, ap (λ ms. Ok (v, reading ns ms k)) (sym (append-nil ls)), q) }

  reads_map : {A B : Type 0} {S : Step A} {es : List NodeNames} {xs : List Position} {Q : A → List ℕ → Type 0} {T : B → List ℕ → Type 0} (f : A → B)
      → Reads S e L es xs Q → ((a : A) (ms : List ℕ) → Q a ms → T (f a) ms) → Reads (and_then S (λ a. gives (f a))) e L es xs T
  reads_map {xs = xs} f s g = record {
    run = λ ns ls k. let a = s.run ns ls k in (f a.0, ap (λ o. on_ok o (λ p. gives (f p.0) p.1)) a.1, g a.0 (numbers e L k xs) a.2);
  }

  reads_then : {A B : Type 0} {S : Step A} {U : A → Step B} {es fs : List NodeNames} {xs ys : List Position} {Q : A → List ℕ → Type 0} {T : B → List ℕ → Type 0}
      → Reads S e L es xs Q → ((a : A) (ms : List ℕ) → Q a ms → Reads (U a) e L fs ys (λ v ns. T v (ms ++ ns))) → Reads (and_then S U) e L (es ++ fs) (xs ++ ys) T
  reads_then {S = S} {U = U} {es = es} {fs = fs} {xs = xs} {ys = ys} {T = T} s h = record {
    run = λ ns ls k.
        let a = s.run (fs ++ ns) ls k in
        let b = (h a.0 (numbers e L k xs) a.2).run ns (ls ++ numbers e L k xs) (ends e k xs) in (
          b.0,
          ap (λ es. on_ok (S (reading es ls k)) (λ p. U p.0 p.1)) (append_assoc es fs ns)
              ∙ (ap (λ o. on_ok o (λ p. U p.0 p.1)) a.1
              ∙ (b.1
              ∙ (ap (λ ms. Ok (b.0, reading ns ms (ends e (ends e k xs) ys))) (append_assoc ls (numbers e L k xs) (numbers e L (ends e k xs) ys) ∙ ap (λ ms. ls ++ ms) (sym (numbers_both e L k xs ys)))
              ∙ ap (λ n. Ok (b.0, reading ns (ls ++ numbers e L k (xs ++ ys)) n)) (sym (ends_both e k xs ys))))),
          subst (T b.0) (sym (numbers_both e L k xs ys)) b.2,
        );
  }

  reads_entry : {A : Type 0} (f : List ℕ → Step A) {es : List NodeNames} {xs : List Position} {Q : A → List ℕ → Type 0} (x : NodeNames)
      → Reads (f x.numbers) e L es xs Q → Reads (and_then an_entry f) e L (x ∷ es) xs Q
  reads_entry f x s = record { run = λ ns ls k. s.run ns ls k }

  pub reads_front : {A B C : Type 0} {S : Step A} {U : Step B} {es fs : List NodeNames} {xs ys : List Position}
      {Q : A → List ℕ → Type 0} {R : B → List ℕ → Type 0} {T : C → List ℕ → Type 0} (f : A → B → C)
      → Reads S e L es xs Q → Reads U e L fs ys R → ((a : A) (ms : List ℕ) (b : B) (ns : List ℕ) → Q a ms → R b ns → T (f a b) (ms ++ ns))
      → Reads (and_then S (λ a. and_then U (λ b. gives (f a b)))) e L (es ++ fs) (xs ++ ys) T
  reads_front f s u g = reads_then s (λ a ms q. reads_map (f a) u (λ b ns r. g a ms b ns q r))

-- the lifetimes of what is given are these
abbrev pub One : ℕ → List ℕ → Type 0
One v ns = ns ≡ v ∷ []

abbrev pub Those : List ℕ → List ℕ → Type 0
Those vs ns = ns ≡ vs

reads_occurs : (e : Standing) (L : DeclaredNames) (x : List ℕ) (l : ℕ) → number_of L x ≡ l → Reads (occurs l) e L [] (Some x ∷ []) One
reads_occurs e L x l h = record { run = λ ns ls k. (l, ap (λ n. Ok (l, reading ns (ls ++ n ∷ []) k)) (sym h), ap (λ n. n ∷ []) h) }

reads_elided : (e : Standing) (L : DeclaredNames) (s : Span) → MayLeaveOut e (None ∷ []) → Reads (elided (role_of e) s) e L [] (None ∷ []) One
reads_elided as_parameter L s h = record { run = λ ns ls k. (k, refl, refl) }
reads_elided (as_result None) L s h = absurd h
reads_elided (as_result (Some l)) L s h = record { run = λ ns ls k. (l, refl, refl) }
reads_elided (as_let l) L s h = record { run = λ ns ls k. (l, refl, refl) }

-- ---- wherever the type stands

module _ (L : DeclaredNames) where
  pub told_gives : {A : Type 0} {Q : A → List ℕ → Type 0} (v : A) → Q v [] → Told (λ e. gives v) L [] Q []
  told_gives v q = record { reads = λ e h. reads_gives e L v q; fails = inl tt; meant = tt }

  fails_then : {A B : Type 0} {S : Step A} (U : A → Step B) {es : List NodeNames} (fs : List NodeNames) → Fails S es → Fails (and_then S U) (es ++ fs)
  fails_then {S = S} U {es = es} fs f = record {
    at = λ ns ls k. let a = f.at (fs ++ ns) ls k in
        (a.0, ap (λ es. on_ok (S (reading es ls k)) (λ p. U p.0 p.1)) (append_assoc es fs ns) ∙ ap (λ o. on_ok o (λ p. U p.0 p.1)) a.1);
  }

  fails_map : {A B : Type 0} {S : Step A} {es : List NodeNames} (f : A → B) → Fails S es → Fails (and_then S (λ a. gives (f a))) es
  fails_map f s = record { at = λ ns ls k. let a = s.at ns ls k in (a.0, ap (λ o. on_ok o (λ p. gives (f p.0) p.1)) a.1) }

  fails_behind : {A B : Type 0} {S : Step A} {U : A → Step B} {es fs : List NodeNames} {xs : List Position} {Q : A → List ℕ → Type 0} (e : Standing)
      → Reads S e L es xs Q → ((a : A) → Fails (U a) fs) → Fails (and_then S U) (es ++ fs)
  fails_behind {S = S} {U = U} {es = es} {fs = fs} {xs = xs} e s h = record {
    at = λ ns ls k.
        let a = s.run (fs ++ ns) ls k in
        let b = (h a.0).at ns (ls ++ numbers e L k xs) (ends e k xs) in
        (b.0, ap (λ es. on_ok (S (reading es ls k)) (λ p. U p.0 p.1)) (append_assoc es fs ns) ∙ (ap (λ o. on_ok o (λ p. U p.0 p.1)) a.1 ∙ b.1));
  }

  pub told_map : {A B : Type 0} {S : Standing → Step A} {es : List NodeNames} {xs : List Position} {Q : A → List ℕ → Type 0} {T : B → List ℕ → Type 0} (f : A → B)
      → Told S L xs Q es → ((a : A) (ms : List ℕ) → Q a ms → T (f a) ms) → Told (λ e. and_then (S e) (λ a. gives (f a))) L xs T es
  told_map f s g = record {
    reads = λ e h. reads_map e L f (s.reads e h) g;
    fails = elim s.fails [ inl n ↦ inl n | inr x ↦ inr (fails_map f x) ];
    meant = s.meant;
  }

  pub told_both : {A B C : Type 0} {S : Standing → Step A} {U : Standing → Step B} {es fs : List NodeNames} {xs ys : List Position}
      {Q : A → List ℕ → Type 0} {R : B → List ℕ → Type 0} {T : C → List ℕ → Type 0} (f : A → B → C)
      → Told S L xs Q es → Told U L ys R fs → ((a : A) (ms : List ℕ) (b : B) (ns : List ℕ) → Q a ms → R b ns → T (f a b) (ms ++ ns))
      → Told (λ e. and_then (S e) (λ a. and_then (U e) (λ b. gives (f a b)))) L (xs ++ ys) T (es ++ fs)
  told_both {U = U} {es = es} {fs = fs} {xs = xs} {ys = ys} f s u g = record {
    reads = λ e h. let m = may_both e xs ys h in reads_front e L f (s.reads e m.0) (u.reads e m.1) g;
    fails = elim s.fails [
      | inr x ↦ inr (fails_then (λ a. and_then (U (as_result None)) (λ b. gives (f a b))) fs x)
      | inl n ↦ elim u.fails [
        | inl m ↦ inl (none_from xs ys n m)
        | inr y ↦ inr (fails_behind (as_result None) (s.reads (as_result None) n) (λ a. fails_map (f a) y))
      ]
    ];
    meant = meant_from L xs ys s.meant u.meant;
  }

  pub told_front : {S : Standing → Step ℕ} {U : Standing → Step (List ℕ)} {es fs : List NodeNames} {xs ys : List Position} → Told S L xs One es → Told U L ys Those fs
      → Told (λ e. in_front (S e) (U e)) L (xs ++ ys) Those (es ++ fs)
  told_front s u = told_both (λ a as'. a ∷ as') s u (λ a ms b ns q r. ap (λ ks. ks ++ ns) q ∙ ap (λ ks. a ∷ ks) r)

  pub told_entry : {A : Type 0} (f : Standing → List ℕ → Step A) {es : List NodeNames} {xs : List Position} {Q : A → List ℕ → Type 0} (x : NodeNames)
      → Told (λ e. f e x.numbers) L xs Q es → Told (λ e. and_then an_entry (f e)) L xs Q (x ∷ es)
  told_entry f x s = record {
    reads = λ e h. reads_entry e L (f e) x (s.reads e h);
    fails = elim s.fails [ inl n ↦ inl n | inr y ↦ inr (record { at = λ ns ls k. y.at ns ls k }) ];
    meant = s.meant;
  }

  pub told_occurs : (x : List ℕ) (l : ℕ) → number_in L x ≡ Some l → Told (λ e. occurs l) L (Some x ∷ []) One []
  told_occurs x l h = record { reads = λ e m. reads_occurs e L x l (ap or_zero h); fails = inl tt; meant = ((l, h), tt) }

  pub told_elided : (s : Span) → Told (λ e. elided (role_of e) s) L (None ∷ []) One []
  told_elided s = record { reads = λ e m. reads_elided e L s m; fails = inr (record { at = λ ns ls k. (fault.Elision s, refl) }); meant = tt }
