-- Words that ask for a text that is made ask for one of 1 to 1,000 functions.
use Rattle.std.specs.Prelude.{◌&&◌, if◌then◌else◌, nat_le, nat_lt, codes}
use Rattle.std.proofs.Common.{ℕ, ℤ, ◌≡◌, ◌≤◌, Bool, true, false, List, [], ◌∷◌, length, Option, Some, None, refl, subst}
use Rattle.std.proofs.lemmas.Bool.{leb-true, and_parts}
use Rattle.rx_core.specs.Bytes.{same_bytes}
use Rattle.rx_rem_command.specs.Numbers.{number_of, integers_of, count_among, count_of}
use Rattle.rx_rem_command.specs.Forms.{Preference, by_copy, Command, checks, certifies, verifies, generates, extracts_of, runs_of, generates_of, alone_of, compact_of, extract_of, run_of, generate_of, preference_of, command_of}

abbrev IsFew : ℕ → Type 0
IsFew n = (1 ≤ n) × (n ≤ 1000)

few_if : (m n : ℕ) (b : Bool) → (nat_le 1 m && nat_le m 1000) ≡ b → (if b then Some m else None) ≡ Some n → IsFew n
few_if m n true h e = let p = and_parts (nat_le 1 m) (nat_le m 1000) h in
    let same : m ≡ n = cc in subst IsFew same (leb-true 1 m p.0, leb-true m 1000 p.1)
few_if m n false h e = absurd (cc)

few_among : (v : Option ℕ) (n : ℕ) → count_among v ≡ Some n → IsFew n
few_among None n e = absurd (cc)
few_among (Some m) n e = few_if m n (nat_le 1 m && nat_le m 1000) refl e

few_counted : (word : List ℕ) (n : ℕ) (b : Bool) → (if b then count_among (number_of word) else None) ≡ Some n → IsFew n
few_counted word n true e = few_among (number_of word) n e
few_counted word n false e = absurd (cc)

few_generated : (word : List ℕ) (n : ℕ) (c : Option ℕ) → (c ≡ Some n → IsFew n) → generates_of c ≡ Some (generates n) → IsFew n
few_generated word n None h e = absurd (cc)
few_generated word n (Some m) h e = let same : Some m ≡ Some n = cc in h same

-- ---- other words ask for something else

not_alone : (c : Command) (words : List (List ℕ)) (n : ℕ) → (◌≡◌ {A = Option Command} (Some c) (Some (generates n)) → IsFew n) → alone_of c words ≡ Some (generates n) → IsFew n
not_alone c [] n h e = h e
not_alone c (word ∷ words) n h e = absurd (cc)

not_extracts : (name : List ℕ) (a b : Option ℕ) (w : Option Preference) (n : ℕ) → extracts_of name a b w ≡ Some (generates n) → IsFew n
not_extracts name (Some a) (Some b) (Some w) n e = absurd (cc)
not_extracts name None b w n e = absurd (cc)
not_extracts name (Some a) None w n e = absurd (cc)
not_extracts name (Some a) (Some b) None n e = absurd (cc)

not_extract : (words : List (List ℕ)) (n : ℕ) → extract_of words ≡ Some (generates n) → IsFew n
not_extract [] n e = absurd (cc)
not_extract (a ∷ []) n e = absurd (cc)
not_extract (a ∷ (b ∷ [])) n e = absurd (cc)
not_extract (a ∷ (b ∷ (c ∷ []))) n e = not_extracts a (number_of b) (number_of c) (Some by_copy) n e
not_extract (a ∷ (b ∷ (c ∷ (d ∷ [])))) n e = not_extracts a (number_of b) (number_of c) (preference_of d) n e
not_extract (a ∷ (b ∷ (c ∷ (d ∷ (f ∷ r))))) n e = absurd (cc)

not_runs : (turns : Option ℕ) (input : Option (List ℤ)) (n : ℕ) → runs_of turns input ≡ Some (generates n) → IsFew n
not_runs (Some t) (Some i) n e = absurd (cc)
not_runs None i n e = absurd (cc)
not_runs (Some t) None n e = absurd (cc)

not_run : (words : List (List ℕ)) (n : ℕ) → run_of words ≡ Some (generates n) → IsFew n
not_run [] n e = absurd (cc)
not_run (t ∷ words) n e = not_runs (number_of t) (integers_of words) n e

not_compact : (words : List (List ℕ)) (n : ℕ) → compact_of words ≡ Some (generates n) → IsFew n
not_compact [] n e = absurd (cc)
not_compact (a ∷ []) n e = absurd (cc)
not_compact (a ∷ (b ∷ words)) n e = absurd (cc)

-- ---- by the verb

generate_few : (words : List (List ℕ)) (n : ℕ) → generate_of words ≡ Some (generates n) → IsFew n
generate_few [] n e = absurd (cc)
generate_few (word ∷ []) n e = few_generated word n (count_of word) (λ h. few_counted word n (nat_lt (length word) 5) h) e
generate_few (word ∷ (other ∷ words)) n e = absurd (cc)

chosen : (b : Bool) (x y : Option Command) (n : ℕ) → (x ≡ Some (generates n) → IsFew n) → (y ≡ Some (generates n) → IsFew n)
    → (if b then x else y) ≡ Some (generates n) → IsFew n
chosen true x y n f g e = f e
chosen false x y n f g e = g e

none_few : (n : ℕ) → None ≡ Some (generates n) → IsFew n
none_few n e = absurd (cc)

pub counts_few : (words : List (List ℕ)) (n : ℕ) → command_of words ≡ Some (generates n) → IsFew n
counts_few [] n e = absurd (cc)
counts_few (verb ∷ words) n e =
    chosen (same_bytes verb (codes "check")) (alone_of checks words) _ n (not_alone checks words n (λ e. absurd (cc)))
    (chosen (same_bytes verb (codes "extract")) (extract_of words) _ n (not_extract words n)
    (chosen (same_bytes verb (codes "run")) (run_of words) _ n (not_run words n)
    (chosen (same_bytes verb (codes "gen")) (generate_of words) _ n (generate_few words n)
    (chosen (same_bytes verb (codes "certify")) (alone_of certifies words) _ n (not_alone certifies words n (λ e. absurd (cc)))
    (chosen (same_bytes verb (codes "verify")) (alone_of verifies words) _ n (not_alone verifies words n (λ e. absurd (cc)))
    (chosen (same_bytes verb (codes "compact")) (compact_of words) None n (not_compact words n) (none_few n))))))) e
