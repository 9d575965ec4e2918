-- The type of a `let` is told by its text: so it is that of before by the new numbers, where the `let` is written otherwise as lifetimes of the
-- function became one, and none of them was left out.
use Rattle.std.proofs.Common.{◌≡◌, ℕ, ◌+◌, ◌-◌, ◌<◌, ◌^◌, Bool, List, [], ◌∷◌, ◌++◌, length, map, Some, None, sym, ap, subst, ◌∙◌, arith, if◌then◌else◌, lt-ltb, le-ltb}
use Rattle.rx_core.specs.declared.types.Span.{Span}
use Rattle.rx_tree.specs.Positions.{a_type}
use Rattle.rx_tree.specs.Nodes.{below_type}
use Rattle.rx_tree.specs.Plain.{TypeTree, Function, ProgramTree}
use Rattle.rx_resolve_names.specs.declared.resolved.NodeNames.{NodeNames}
use Rattle.rx_resolve_names.specs.Scopes.{DeclaredNames}
use Rattle.rx_resolve_names.specs.Meant.{number_in}
use Rattle.rx_typed.specs.Naming.{Annotation}
use Rattle.rx_typed.specs.declared.declarations.Decl.{Decl}
use Rattle.rx_typed.specs.Regions.{region-Ty}
use Rattle.rx_typed.specs.Renaming.{renamed}
use Rattle.rx_typeck_typed.specs.Bindings.{lifetimes, behind}
use Rattle.rx_typeck_typed.specs.Lets.{read, let_type}
use Rattle.rx_typeck_typed.specs.Written.{type_of}
use Rattle.rx_compact_lifetimes.specs.declared.rewriting.Rewriting.{Rewriting}
use Rattle.rx_compact_lifetimes.specs.Rewritten.{becomes, rewritten_type}
use Rattle.rx_compact_lifetimes.specs.Merged.{merged, mergings_of}
use Rattle.rx_compact_lifetimes.specs.Elided.{elided, elisions, in_body}
use Rattle.rx_compact_laws.specs.Beside.{StandsFirst, LetBeside, LetsBeside}
use Rattle.rx_compact_laws.specs.Resolved.{declared, inside}
use Rattle.rx_compact_laws.proofs.Spared as spared
use Rattle.rx_compact_laws.proofs.Noted.{AllSpared}
use Rattle.rx_compact_types.specs.Positions.{Position, as_let, or_zero, positions, number_of, numbers, AllMeant}
use Rattle.rx_compact_types.specs.ShortLets.{extended, LetAlike, LetsAlike}
use Rattle.rx_compact_types.proofs.Roles.{role_of, reading}
use Rattle.rx_compact_types.proofs.Steps.{fit}
use Rattle.rx_compact_types.proofs.Reading.{IsType, type}
use Rattle.rx_compact_types.proofs.Filling.{renamed_by_form}
use Rattle.rx_compact_types.proofs.Turning.{SameDeclared, turn, type_turned, form_same, Fitting, FittingAt, numbers_fit}
use Rattle.rx_compact_types.proofs.Places.{place}
use Rattle.rx_compact_types.proofs.MergedNumbers.{some_becomes}
use Rattle.rx_compact_types.proofs.ByName.{ByName}

-- ---- by its text

abbrev others : List NodeNames → List NodeNames
others [] = []
others (n ∷ ns) = ns

same_behind : (xs ys zs : List NodeNames) → xs ++ ys ≡ xs ++ zs → ys ≡ zs
same_behind [] ys zs e = e
same_behind (x ∷ xs) ys zs e = same_behind xs ys zs (ap others e)

module _ (p : ProgramTree) (i : ℕ) (L : DeclaredNames) (free : ℕ) (t : TypeTree) (ns : List NodeNames) (S : StandsFirst (record { program = p; item = i; lifetimes = L }) t ns) where
  record IsTold : Type 0 where
    is : IsType p t (let_type p free t ns) (numbers (as_let free) L free (positions p t))
    meant : AllMeant L (positions p t)

  told : IsTold
  told =
      let g = type p i L t S.at S.before S.after S.resolves in
      let adds : S.adds ≡ g.adds = same_behind S.before.names S.adds g.adds (sym S.are ∙ g.is) in
      let r = g.told.reads (as_let free) tt in
      let x = r.run S.rest [] free in
      let it : let_type p free t ns ≡ x.0 =
      ap (λ ms. read (type_of p (role_of (as_let free)) t (reading ms [] free))) (S.stand ∙ ap (λ es. es ++ S.rest) adds) ∙ ap read x.1 in
      record {
        is = subst (λ v. IsType p t v (numbers (as_let free) L free (positions p t))) (sym it) (fit r S.rest [] free);
        meant = g.told.meant;
      }

-- ---- written otherwise

module _ (rs : List Rewriting) (F : ℕ → ℕ) (p q : ProgramTree) (same : SameDeclared p q) (i j : ℕ) (L M : DeclaredNames) (free new_free : ℕ) where
  type_under : (t : TypeTree) (ns ms : List NodeNames) → StandsFirst (record { program = p; item = i; lifetimes = L }) t ns → StandsFirst (record { program = q; item = j; lifetimes = M }) (rewritten_type rs t) ms
      → (AllMeant L (positions p t) → AllMeant M (map (turn rs) (positions p t)) → Fitting rs F L M (as_let free) (as_let new_free) free new_free (positions p t))
      → region-Ty (let_type q new_free (rewritten_type rs t) ms) ≡ renamed F (region-Ty (let_type p free t ns))
  type_under t ns ms S T fits =
      let a = told p i L free t ns S in
      let b = told q j M new_free (rewritten_type rs t) ms T in
      let turned = type_turned rs p q same t in
      renamed_by_form F (region-Ty (let_type p free t ns)) (region-Ty (let_type q new_free (rewritten_type rs t) ms))
      (b.is.1 ∙ (form_same rs p q same t ∙ sym a.is.1))
      (b.is.0 ∙ (ap (λ ys. numbers (as_let new_free) M new_free ys) turned
      ∙ (numbers_fit rs F L M (as_let free) (as_let new_free) free new_free (positions p t) (fits a.meant (subst (AllMeant M) turned b.meant)) ∙ ap (map F) (sym a.is.0))))

-- ---- in a function with a short signature

module _ (o : ℕ → ℕ → Bool) (single : Bool) (s : Span) (f : Function) (few : length f.lifetimes < 2 ^ 32) (F : ℕ → ℕ) (d : Decl) (N : ByName o single s f F d) (m : ℕ) where
  abbrev rs : List Rewriting
  rs = mergings_of o f

  abbrev h : Function
  h = merged o f

  abbrev g : Function
  g = elided single h

  abbrev L : DeclaredNames
  L = declared s f

  abbrev M : DeclaredNames
  M = declared s g

  abbrev n : ℕ
  n = lifetimes (Some d)

  abbrev E : ℕ → ℕ
  E = extended F n m

  free_is : m ≡ E n
  free_is = let z : m ≡ (n - n) + m = omega arith in z ∙ sym (ap (λ b. if b then F n else (n - n) + m) (le-ltb n n (omega arith)))

  -- a lifetime that is written
  number_is : (x y : List ℕ) (l k : ℕ) → number_in L x ≡ Some l → becomes rs x ≡ Some y → number_in M y ≡ Some k → number_of M y ≡ E (number_of L x)
  number_is x y l k a b c =
      let at = place s f few x l a in
      let many = N.many in
      let less : l < n = let w = at.0 in omega (arith, w, many) in
      ap or_zero c ∙ (sym (N.same x y l k a b c) ∙ (sym (ap (λ b. if b then F l else (l - n) + m) (lt-ltb l n less)) ∙ ap E (sym (ap or_zero a))))

  fits : (i j : ℕ) (xs : List Position) → AllMeant L xs → AllMeant M (map (turn rs) xs) → Fitting rs E L M (as_let n) (as_let m) i j xs
  fits i j [] a c = tt
  fits i j (None ∷ xs) a c = (free_is, fits i j xs a c)
  fits i j (Some x ∷ xs) a c =
      let r = some_becomes o f.lifetimes 0 f.lifetimes x in
      let c' : AllMeant M (Some r.0 ∷ map (turn rs) xs) = subst (λ y. AllMeant M (y ∷ map (turn rs) xs)) r.1 c in
      subst (λ y. FittingAt rs E L M (as_let n) (as_let m) (number_of L x) i j y xs) (sym r.1)
      (number_is x r.0 a.0.0 c'.0.0 a.0.1 r.1 c'.0.1, fits i j xs a.1 c'.1)

  module _ (p q : ProgramTree) (same : SameDeclared p q) (i : ℕ) where
    abbrev es : List Rewriting
    es = elisions single (in_body h.body) h

    one_alike : (a c b : Annotation) → LetBeside (record { by = rs; old = inside p i s f; new = inside q i s h }) a c → LetBeside (record { by = es; old = inside q i s h; new = inside q i s g }) c b
        → spared.Spared es (a_type c.typ ∷ below_type c.typ) → LetAlike p q n m F a b
    one_alike a c b x y w =
        let t : b.typ ≡ rewritten_type rs a.typ = y.typ ∙ (spared.type es c.typ w ∙ x.typ) in
        record {
          pattern = y.pattern ∙ x.pattern;
          typ = ap (λ u. region-Ty (let_type q m u (behind b).names)) t
              ∙ type_under rs E p q same (inside p i s f).item (inside q i s g).item L M n m a.typ (behind a).names (behind b).names x.old
              (subst (λ u. StandsFirst (inside q i s g) u (behind b).names) t y.new) (λ k l. fits n m _ k l);
        }

    pub all_alike : (as' cs bs : List Annotation) → LetsBeside (record { by = rs; old = inside p i s f; new = inside q i s h }) as' cs
        → LetsBeside (record { by = es; old = inside q i s h; new = inside q i s g }) cs bs → AllSpared es cs → LetsAlike p q n m F as' bs
    all_alike [] [] [] x y w = tt
    all_alike [] [] (b ∷ bs) x y w = absurd y
    all_alike [] (c ∷ cs) bs x y w = absurd x
    all_alike (a ∷ as') [] bs x y w = absurd x
    all_alike (a ∷ as') (c ∷ cs) [] x y w = absurd y
    all_alike (a ∷ as') (c ∷ cs) (b ∷ bs) x y w = (one_alike a c b x.0 y.0 w.0, all_alike as' cs bs x.1 y.1 w.1)
