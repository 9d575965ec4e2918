-- A function of the text with a run, and the two parts of the answer: one has the run's demands between demands that it adds, the other has
-- what stands round the run, and others in its place.
use Rattle.std.proofs.Common.{◌≡◌, ℕ, List, [], ◌∷◌, ◌++◌, append-nil, sym, subst, inl}
use Rattle.rx_typed.specs.Types.{outline}
use Rattle.rx_typeck_solver.specs.declared.facts.Subject.{Subject}
use Rattle.rx_typeck_solver.specs.declared.facts.Demand.{Demand}
use Rattle.rx_typeck_solver.specs.Facts.{Assignment, KnownItems, MeetsEach}
use Rattle.rx_typeck_solver.specs.Valid.{IsIn, Told, Valid, literals_of}
use Rattle.rx_typeck_solver.specs.Ordered.{Orderly}
use Rattle.rx_engine_blocks.specs.Renumbering.{Renumbering, shape_at, subject_at}
use Rattle.rx_engine_blocks.specs.DemandsLike.{DemandsLike}
use Rattle.rx_engine_blocks.specs.DemandsLike.DemandsLike.{like_no_demand, like_more_demands, like_other_demands}
use Rattle.rx_engine_blocks.specs.Knows.{Knows}
use Rattle.rx_engine_blocks.specs.Along.{PartialInverse, Viewed, none_viewed, MutableAt, shared, composed}
use Rattle.rx_engine_blocks.specs.ByItself.{ByItself}
use Rattle.rx_engine_blocks.specs.Blocks.{Behind, none_behind, Block, Fixes, AllReferences, ToldIn, task_of}
use Rattle.rx_engine_blocks.specs.Parts.{EachAbout, Elsewhere, Added, StandsFor}
use Rattle.rx_engine_blocks.specs.Copies.{EachCopies}
use Rattle.rx_engine_blocks.specs.Around.{Round, Among}
use Rattle.rx_engine_blocks.specs.Around.Round.{instead, ordinary}
use Rattle.rx_engine_blocks.proofs.Meets.{first}
use Rattle.rx_engine_blocks.proofs.Split.{both_met, literal_left, literal_right}
use Rattle.rx_engine_blocks.proofs.Same.{each_same}
use Rattle.rx_engine_blocks.proofs.Blocking.{block_then}
use Rattle.rx_engine_blocks.proofs.Special.{left, added}
use Rattle.rx_engine_blocks.proofs.Copying.{copied_block, plain_copies}
use Rattle.rx_engine_blocks.proofs.Told.{about_told, about_left, about_right, facts_copied}
use Rattle.rx_engine_blocks.proofs.Tying.{part_alike, part_by_itself}

-- ---- what is among others

among_met : (D : KnownItems) (A : Assignment) (run text : List Demand) → Among run text → MeetsEach D A text → MeetsEach D A run
among_met D A run text a h = (first D A run a.back (first D A a.front (run ++ a.back) (subst (MeetsEach D A) a.is h)).1).0

among_literal : (run text : List Demand) → Among run text → (n : ℕ) → IsIn n (literals_of run) → IsIn n (literals_of text)
among_literal run text a n i = subst (λ ds. IsIn n (literals_of ds)) (sym a.is) (literal_right a.front (run ++ a.back) n (literal_left run a.back n i))

-- ---- what a part tells is enough for what is copied into it

module _ (q : Renumbering) (behind : Behind) (fs : List Demand) (D : KnownItems) (A B : Assignment) (s : (x : Subject) → ToldIn q behind fs x → A x ≡ B x)
    (Special : List Demand → List Demand → Type 0) (special : (es es' : List Demand) → Special es es' → EachAbout (Told fs) es' → MeetsEach D A es → MeetsEach D B es) where
  copied_met : {gs gs' : List Demand} → DemandsLike q Special gs gs' → EachAbout (Told fs) gs' → MeetsEach D A gs → MeetsEach D B gs
  copied_met like_no_demand k h = tt
  copied_met (like_more_demands {ds = ds} {ds' = ds'} {d = d} {d' = d'} l e) k h =
      let i = first D A ds (d ∷ []) h in
      both_met D B ds (d ∷ []) (copied_met l (about_left (Told fs) ds' (d' ∷ []) k) i.0)
      (each_same D A B (ToldIn q behind fs) s (d ∷ []) (facts_copied q (Told fs) (ToldIn q behind fs) (λ x t. inl t) e.facts (about_right (Told fs) ds' (d' ∷ []) k).0, tt) i.1)
  copied_met (like_other_demands {ds = ds} {ds' = ds'} es es' l z) k h =
      let i = first D A ds es h in
      both_met D B ds es (copied_met l (about_left (Told fs) ds' es' k) i.0) (special es es' z (about_right (Told fs) ds' es' k) i.1)

-- ---- the part that has the run

module _ (r : Renumbering) (u : PartialInverse r) (view : Viewed) (behind : Behind) (q : Renumbering) (Ordinary : List Demand → List Demand → Type 0) (fs : List Demand) (D E : KnownItems) (known : Knows r D E) (A V : Assignment)
    (elsewhere : (gs gs' : List Demand) → Ordinary gs gs' → EachAbout (Told fs) gs' → Elsewhere D A (ToldIn q none_behind fs) gs)
    (text run head copy end call : List Demand) where
  abbrev There : Subject → Type 0
  There = ToldIn q none_behind fs

  abbrev B2 : List Demand → List Demand → Type 0
  B2 = Block r u view behind There D E A V

  -- what stands round the run, where the run is met
  round_met : (B : Assignment) → ((x : Subject) → outline (A x) ≡ outline (B x)) → ((x : Subject) → There x → A x ≡ B x) → MeetsEach D B run
      → (gs gs' : List Demand) → Round Ordinary run call gs gs' → EachAbout (Told fs) gs' → MeetsEach D A gs → MeetsEach D B gs
  round_met B o s w gs gs' (ordinary z) k h = elsewhere gs gs' z k B o s h
  round_met B o s w gs gs' instead k h = w

  inner_block : B2 run copy → Added (composed r u view A V) V head → Added (composed r u view A V) V end → B2 run (head ++ (copy ++ end))
  inner_block b h k = block_then r u view behind There D E A V [] head run (copy ++ end) (added r u view behind There D E known A V head h)
      (subst (λ xs. B2 xs (copy ++ end)) (append-nil run) (block_then r u view behind There D E A V run copy [] end b (added r u view behind There D E known A V end k)))

  outer_block : (es : List Demand) → DemandsLike q (Round Ordinary run call) text fs → EachAbout (Told fs) fs → Among run text → B2 run es → B2 text es
  outer_block es l k a b = record {
    there = λ h v. b.there (among_met D A run text a h) v;
    back = λ B C t h v. copied_met q none_behind fs D A B t.settled (Round Ordinary run call) (round_met B t.outlines t.settled (b.back B C t (among_met D A run text a h) v)) l k h;
    literal = λ n i. let m = b.literal n i in (m.0, among_literal run text a m.0 m.1, m.2);
  }

-- ---- both parts

-- both are blocks
pub both_blocks : (r : Renumbering) (u : PartialInverse r) (view : Viewed) (refs : Behind) (q : Renumbering) (w : PartialInverse q) (D E : KnownItems) → Knows r D E → Knows q D E
    → (A V W : Assignment) (text run call head copy end es fs : List Demand) → es ≡ head ++ (copy ++ end) → Among run text
    → DemandsLike r (StandsFor r u view refs (ToldIn q none_behind fs) D E A V es) run copy
    → DemandsLike q (Round (StandsFor q w none_viewed none_behind (ToldIn r refs es) D E A W fs) run call) text fs
    → Orderly (task_of es) → Orderly (task_of fs) → MeetsEach E V es → MeetsEach E W fs → MutableAt view A → EachCopies view A run
    → (Added (composed r u view A V) V head → Added (composed r u view A V) V end → Block r u view refs (ToldIn q none_behind fs) D E A V text es)
    × (Added (composed q w none_viewed A W) W call → Block q w none_viewed none_behind (ToldIn r refs es) D E A W text fs)
both_blocks r u view refs q w D E k m A V W text run call head copy end es fs i a l lf oe of ve vf views wells = (
  λ h e. outer_block r u view refs q S fs D E k A V (λ gs gs' z. z.elsewhere) text run head copy end call es lf (about_told E W fs of.ordered vf) a
      (subst (λ xs. Block r u view refs There D E A V run xs) (sym i)
      (inner_block r u view refs q S fs D E k A V (λ gs gs' z. z.elsewhere) text run head copy end call
      (copied_block r u view refs There D E k A V views (StandsFor r u view refs There D E A V es) (λ gs gs' z. z.block) l wells) h e)),
  λ c. copied_block q w none_viewed none_behind Here D E m A W (λ x e. cc) (Round S run call) (round c) lf (plain_copies A text),
)
  where
    There : Subject → Type 0
    There = ToldIn q none_behind fs

    Here : Subject → Type 0
    Here = ToldIn r refs es

    S : List Demand → List Demand → Type 0
    S = StandsFor q w none_viewed none_behind Here D E A W fs

    -- what the part tells that has the run is enough for it
    run_told : EachAbout (Told es) copy
    run_told = about_left (Told es) copy end (about_right (Told es) head (copy ++ end) (subst (EachAbout (Told es)) i (about_told E V es oe.ordered ve)))

    run_elsewhere : Elsewhere D A Here run
    run_elsewhere B o s h = copied_met r refs es D A B s (StandsFor r u view refs There D E A V es) (λ gs gs' z k' h'. z.elsewhere k' B o s h') l run_told h

    round : Added (composed q w none_viewed A W) W call → (gs gs' : List Demand) → Round S run call gs gs' → Block q w none_viewed none_behind Here D E A W gs gs'
    round c gs gs' (ordinary z) = z.block
    round c gs gs' instead = subst (λ xs. Block q w none_viewed none_behind Here D E A W xs call) (append-nil run)
        (block_then q w none_viewed none_behind Here D E A W run [] [] call (left q w none_viewed none_behind Here D E m A W run run_elsewhere) (added q w none_viewed none_behind Here D E m A W call c))

pub both_alike : (r : Renumbering) (u : PartialInverse r) (view : Viewed) (refs : Behind) (q : Renumbering) (w : PartialInverse q) (D E : KnownItems) → Knows r D E → Knows q D E
    → (A V W : Assignment) (text run call head copy end es fs : List Demand) → es ≡ head ++ (copy ++ end) → Among run text
    → DemandsLike r (StandsFor r u view refs (ToldIn q none_behind fs) D E A V es) run copy
    → DemandsLike q (Round (StandsFor q w none_viewed none_behind (ToldIn r refs es) D E A W fs) run call) text fs
    → Orderly (task_of es) → Orderly (task_of fs) → Valid D (task_of text) A → Valid E (task_of es) V → Valid E (task_of fs) W
    → AllReferences r u view refs E A es → MutableAt view A → EachCopies view A run
    → (Fixes r view (ToldIn q none_behind fs) E A es → Added (composed r u view A V) V head → Added (composed r u view A V) V end
    → (x : Subject) → Told es (subject_at r x) → V (subject_at r x) ≡ shared (view x) (shape_at r (A x)))
    × (Fixes q none_viewed (ToldIn r refs es) E A fs → Added (composed q w none_viewed A W) W call
    → (x : Subject) → Told fs (subject_at q x) → W (subject_at q x) ≡ shape_at q (A x))
both_alike r u view refs q w D E k m A V W text run call head copy end es fs i a l lf oe of v ve vf references views wells =
    let b = both_blocks r u view refs q w D E k m A V W text run call head copy end es fs i a l lf oe of ve.prefers.typed vf.prefers.typed views wells in (
      λ fixes h e. part_alike r u view refs (ToldIn q none_behind fs) D E k A V text es references views oe fixes (b.0 h e) v ve,
      λ fixes c. part_alike q w none_viewed none_behind (ToldIn r refs es) D E m A W text fs (λ x y e. cc) (λ x e. cc) of fixes (b.1 c) v vf,
    )

-- where nothing says that they are accepted
pub both_by_themselves : (r : Renumbering) (u : PartialInverse r) (view : Viewed) (refs : Behind) (q : Renumbering) (w : PartialInverse q) (D E : KnownItems) → Knows r D E → Knows q D E
    → (A V W : Assignment) (text run call head copy end es fs : List Demand) → es ≡ head ++ (copy ++ end) → Among run text
    → DemandsLike r (StandsFor r u view refs (ToldIn q none_behind fs) D E A V es) run copy
    → DemandsLike q (Round (StandsFor q w none_viewed none_behind (ToldIn r refs es) D E A W fs) run call) text fs
    → Orderly (task_of es) → Orderly (task_of fs) → Valid D (task_of text) A → AllReferences r u view refs E A es → MutableAt view A → EachCopies view A run
    → Fixes r view (ToldIn q none_behind fs) E A es → Fixes q none_viewed (ToldIn r refs es) E A fs
    → ByItself r u view (ToldIn q none_behind fs) E A V text es → ByItself q w none_viewed (ToldIn r refs es) E A W text fs
    → Added (composed r u view A V) V head → Added (composed r u view A V) V end → Added (composed q w none_viewed A W) W call
    → Valid E (task_of es) V × Valid E (task_of fs) W
both_by_themselves r u view refs q w D E k m A V W text run call head copy end es fs i a l lf oe of v references views wells fe ff ie jf h e c =
    let b = both_blocks r u view refs q w D E k m A V W text run call head copy end es fs i a l lf oe of ie.meets jf.meets views wells in (
      part_by_itself r u view refs (ToldIn q none_behind fs) D E k A V text es references views oe fe (b.0 h e) v ie,
      part_by_itself q w none_viewed none_behind (ToldIn r refs es) D E m A W text fs (λ x y e. cc) (λ x e. cc) of ff (b.1 c) v jf,
    )
