-- What is asked otherwise where an expression stands at another place stands for what the text asks.
use Rattle.std.proofs.Common.{◌≡◌, ℕ, true, false, List, [], ◌∷◌, Option, Some, refl, sym, ap, ◌∙◌, inl}
use Rattle.rx_core.specs.declared.types.Kind.{Kind}
use Rattle.rx_core.specs.declared.types.Span.{Span}
use Rattle.rx_typed.specs.Types.{integer, boolean, tuple_of, reference, named, no_shape, shape_and, Typ, unit_shape, outline}
use Rattle.rx_typeck_solver.specs.declared.facts.Broken.{Broken}
use Rattle.rx_typeck_solver.specs.declared.facts.Subject.{Subject}
use Rattle.rx_typeck_solver.specs.declared.facts.Subject.TheVariants as subject
use Rattle.rx_typeck_solver.specs.declared.facts.Op.{Op}
use Rattle.rx_typeck_solver.specs.declared.facts.Op.TheVariants as op
use Rattle.rx_typeck_solver.specs.declared.facts.Fact.TheVariants as fact
use Rattle.rx_typeck_solver.specs.declared.facts.Demand.{Demand}
use Rattle.rx_typeck_solver.specs.Facts.{Assignment, KnownItems, coerced, made}
use Rattle.rx_engine_blocks.specs.Renumbering.{Renumbering, shape_at, subject_at}
use Rattle.rx_engine_blocks.specs.DemandsLike.{FactsLike}
use Rattle.rx_engine_blocks.specs.DemandsLike.FactLike.{like_fact}
use Rattle.rx_engine_blocks.specs.DemandsLike.FactsLike.{like_no_fact, like_more_facts}
use Rattle.rx_engine_blocks.specs.Knows.{Knows}
use Rattle.rx_engine_blocks.specs.Along.{PartialInverse, Viewed, Sees, shared, composed}
use Rattle.rx_engine_blocks.specs.Blocks.{Behind, Tied, Block, ToldIn}
use Rattle.rx_engine_blocks.specs.Parts.{StandsFor}
use Rattle.rx_engine_blocks.specs.Sites.{fits_demand, own_demand, expects_demand, AsItIs, ChangedSite}
use Rattle.rx_engine_blocks.specs.Sites.ChangedSite.{own_fits, fits_now, unit_fits, other_expectation, expected_now, unit_expected, no_test, new_test}
use Rattle.rx_engine_blocks.proofs.Meets.{outline_at, shape_apart}
use Rattle.rx_engine_blocks.proofs.Same.{each_same, test_anywhere}
use Rattle.rx_engine_blocks.proofs.Outlines.{composed_sees}
use Rattle.rx_engine_blocks.proofs.Copies.{plain_there}

some_same : (t v : Typ) → ◌≡◌ {A = Option Typ} (Some t) (Some v) → t ≡ v
some_same t v e = cc

coerced_itself : (t : Typ) → coerced t t ≡ t
coerced_itself (reference true t) = refl
coerced_itself (reference false t) = refl
coerced_itself (integer k) = refl
coerced_itself boolean = refl
coerced_itself (tuple_of ts) = refl
coerced_itself (named i) = refl

pub coerced_outlined : (t u : Typ) → outline t ≡ outline u → coerced t u ≡ u
coerced_outlined (reference true a) (reference true b) e = refl
coerced_outlined (reference true a) (reference false b) e = absurd (cc)
coerced_outlined (reference true a) (integer k) e = refl
coerced_outlined (reference true a) boolean e = refl
coerced_outlined (reference true a) (tuple_of us) e = refl
coerced_outlined (reference true a) (named i) e = refl
coerced_outlined (reference false a) u e = refl
coerced_outlined (integer k) u e = refl
coerced_outlined boolean u e = refl
coerced_outlined (tuple_of ts) u e = refl
coerced_outlined (named i) u e = refl

unit_outlined : (t : Typ) → outline {K = Kind} unit_shape ≡ outline t → t ≡ unit_shape
unit_outlined (tuple_of no_shape) e = refl
unit_outlined (tuple_of (shape_and t ts)) e = cc
unit_outlined (reference m t) e = cc
unit_outlined (integer k) e = cc
unit_outlined boolean e = cc
unit_outlined (named i) e = cc

module _ (r : Renumbering) (u : PartialInverse r) (view : Viewed) (behind : Behind) (IsFixed : Subject → Type 0) (D D' : KnownItems) (known : Knows r D D') (A V : Assignment) (whole : List Demand) where
  abbrev A' : Assignment
  A' = composed r u view A V

  abbrev B2 : List Demand → List Demand → Type 0
  B2 = Block r u view behind IsFixed D D' A V

  abbrev There : Subject → Type 0
  There = ToldIn r behind whole

  as_it_is : (P Q : Assignment) → Sees r view P Q → (x : Subject) → view x ≡ false → Q (subject_at r x) ≡ shape_at r (P x)
  as_it_is P Q s x v = s x ∙ ap (λ b. shared b (shape_at r (P x))) v

  here : (x : Subject) → view x ≡ false → A' (subject_at r x) ≡ shape_at r (A x)
  here x v = as_it_is A A' (composed_sees r u view A V) x v

  own_block : (n : ℕ) (s s' : Span) (b c : Broken) → AsItIs view n → B2 (own_demand n s b ∷ []) (fits_demand (r.nodes n) s' c ∷ [])
  own_block n s s' b c v = record { there = λ h w. ((ap Some (forth (some_same _ _ h.0.0)), tt), tt); back = λ B C t h m. ((ap Some (back B C t (some_same _ _ h.0.0) (some_same _ _ m.0.0)), tt), tt); literal = λ m i. absurd i }
    where
      x : Subject
      x = subject.Node n

      e : Subject
      e = subject.Expected n

      forth : A x ≡ A e → coerced (A' (subject_at r x)) (A' (subject_at r e)) ≡ A' (subject_at r x)
      forth h = ap (coerced (A' (subject_at r x))) (here e v.1 ∙ ap (shape_at r) (sym h) ∙ sym (here x v.0)) ∙ coerced_itself (A' (subject_at r x))

      back : (B C : Assignment) → Tied r view behind IsFixed A B C → A x ≡ A e → coerced (C (subject_at r x)) (C (subject_at r e)) ≡ C (subject_at r x) → B x ≡ B e
      back B C t h m =
          let p = as_it_is B C t.sees x v.0 in
          let q = as_it_is B C t.sees e v.1 in
          let o : outline (B x) ≡ outline (B e) = sym (t.outlines x) ∙ ap outline h ∙ t.outlines e in
          let o' : outline (C (subject_at r x)) ≡ outline (C (subject_at r e)) = ap outline p ∙ outline_at r (B x) ∙ ap (shape_at r) o ∙ sym (outline_at r (B e)) ∙ sym (ap outline q) in
          shape_apart r D D' known (B x) (B e) (sym p ∙ sym m ∙ coerced_outlined _ _ o' ∙ q)

  like_fits : (n : ℕ) → FactsLike r (fact.Equals (subject.Node n) op.Coerced (subject.Node n ∷ subject.Expected n ∷ []) [] ∷ [])
      (fact.Equals (subject.Node (r.nodes n)) op.Coerced (subject.Node (r.nodes n) ∷ subject.Expected (r.nodes n) ∷ []) [] ∷ [])
  like_fits n = like_more_facts like_fact like_no_fact

  fits_block : (n : ℕ) (s : Span) (b : Broken) → AsItIs view n → coerced (A (subject.Node n)) (A (subject.Expected n)) ≡ A (subject.Node n) → B2 [] (fits_demand (r.nodes n) s b ∷ [])
  fits_block n s b v p = record {
    there = λ h w. (plain_there r u view D D' known A A' (composed_sees r u view A V) (like_fits n) ((v.0, (v.0, (v.1, tt)), tt), tt) (ap Some p, tt), tt);
    back = λ B C t h m. tt;
    literal = λ m i. absurd i;
  }

  unit_same : (n : ℕ) → A (subject.Node n) ≡ unit_shape → A (subject.Expected n) ≡ unit_shape → (B : Assignment) → ((x : Subject) → outline (A x) ≡ outline (B x))
      → ◌≡◌ {A = Option Typ} (Some (coerced (B (subject.Node n)) (B (subject.Expected n)))) (Some (B (subject.Node n)))
  unit_same n p q B o =
      let i = unit_outlined (B (subject.Node n)) (sym (ap outline p) ∙ o (subject.Node n)) in
      let j = unit_outlined (B (subject.Expected n)) (sym (ap outline q) ∙ o (subject.Expected n)) in
      ap Some (ap (λ t. coerced t (B (subject.Expected n))) i ∙ ap (coerced unit_shape) j ∙ sym i)

  unit_still : (n : ℕ) (o : Op) → made (λ k. k) D.items o [] [] ≡ Some unit_shape → (B : Assignment) → ((x : Subject) → outline (A x) ≡ outline (B x))
      → made (λ k. k) D.items o [] [] ≡ Some (A (subject.Expected n)) → made (λ k. k) D.items o [] [] ≡ Some (B (subject.Expected n))
  unit_still n o p B same h =
      let e = some_same _ _ (sym p ∙ h) in
      p ∙ ap Some (sym (unit_outlined (B (subject.Expected n)) (ap outline e ∙ same (subject.Expected n))))

  other_block : (n : ℕ) (s s' : Span) (b c : Broken) (o o' : Op) (t : Typ) → view (subject.Expected n) ≡ false → made (λ k. k) D.items o [] [] ≡ Some t → made (λ k. k) D'.items o' [] [] ≡ Some (shape_at r t)
      → B2 (expects_demand n s b o ∷ []) (expects_demand (r.nodes n) s' c o' ∷ [])
  other_block n s s' b c o o' t v p q = record {
    there = λ h w. ((q ∙ ap Some (ap (shape_at r) (some_same _ _ (sym p ∙ h.0.0)) ∙ sym (here (subject.Expected n) v)), tt), tt);
    back = λ B C i h m. ((p ∙ ap Some (shape_apart r D D' known t (B (subject.Expected n)) (some_same _ _ (sym q ∙ m.0.0) ∙ as_it_is B C i.sees (subject.Expected n) v)), tt), tt);
    literal = λ m i. absurd i;
  }

  now_block : (n : ℕ) (s : Span) (b : Broken) (o : Op) → view (subject.Expected n) ≡ false → made (λ k. k) D'.items o [] [] ≡ Some (shape_at r (A (subject.Expected n))) → B2 [] (expects_demand (r.nodes n) s b o ∷ [])
  now_block n s b o v q = record { there = λ h w. ((q ∙ ap Some (sym (here (subject.Expected n) v)), tt), tt); back = λ B C t h m. tt; literal = λ m i. absurd i }

  pub changed_stands : (gs gs' : List Demand) → ChangedSite r view D D' A gs gs' → StandsFor r u view behind IsFixed D D' A V whole gs gs'
  changed_stands gs gs' (own_fits {n = n} v) = record {
    block = own_block n _ _ _ _ v;
    elsewhere = λ k B o s h. each_same D A B There s gs (((inl k.0.0.1.1.0, (inl k.0.0.0, tt), tt), tt), tt) h;
  }
  changed_stands gs gs' (fits_now n v p) = record { block = fits_block n _ _ v p; elsewhere = λ k B o s h. tt }
  changed_stands gs gs' (unit_fits {n = n} p q) = record {
    block = record { there = λ h w. tt; back = λ B C t h m. ((unit_same n p q B t.outlines, tt), tt); literal = λ m i. absurd i };
    elsewhere = λ k B o s h. ((unit_same n p q B o, tt), tt);
  }
  changed_stands gs gs' (other_expectation {n = n} t v p q) = record {
    block = other_block n _ _ _ _ _ _ t v p q;
    elsewhere = λ k B o s h. each_same D A B There s gs (((inl k.0.0.0, tt, tt), tt), tt) h;
  }
  changed_stands gs gs' (expected_now n v q) = record { block = now_block n _ _ _ v q; elsewhere = λ k B o s h. tt }
  changed_stands gs gs' (unit_expected {n = n} {o = w} p) = record {
    block = record { there = λ h m. tt; back = λ B C e h m. ((unit_still n w p B e.outlines h.0.0, tt), tt); literal = λ m i. absurd i };
    elsewhere = λ k B o s h. ((unit_still n w p B o h.0.0, tt), tt);
  }
  changed_stands gs gs' (no_test {t = t} {xs = xs} {anc = anc} {ps = ps}) = record {
    block = record { there = λ h w. tt; back = λ B C e h m. ((test_anywhere D A B e.outlines t xs anc ps h.0.0, tt), tt); literal = λ m i. absurd i };
    elsewhere = λ k B o s h. ((test_anywhere D A B o t xs anc ps h.0.0, tt), tt);
  }
  changed_stands gs gs' (new_test n) = record { block = record { there = λ h w. (tt, tt); back = λ B C e h m. tt; literal = λ m i. absurd i }; elsewhere = λ k B o s h. tt }
