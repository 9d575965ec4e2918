-- What the new function's body ends with, by its form.
use Rattle.std.proofs.Common.{◌≡◌, refl, ap, ℕ, zero, suc, ◌-◌, ◌<◌, arith, Bool, false, List, Option, Some, None}
use Rattle.rx_typed.specs.Tree as tree
use Rattle.rx_typed.specs.Tree.{Exp, Body}
use Rattle.rx_engine_simulation.specs.Sights.{Renaming}
use Rattle.rx_engine_simulation.specs.Jumps.{Jumping}
use Rattle.rx_engine_simulation.specs.Packing.{Way}
use Rattle.rx_engine_alike.specs.Likeness.{and_then, is_alike}
use Rattle.rx_engine_alike.specs.Giving.{numbers_of, if_these}
use Rattle.rx_engine_alike.specs.Forms.{Between, like_exp}
use Rattle.rx_engine_extracted.specs.Stretches.{Passed, like_first}
use Rattle.rx_engine_extracted.specs.Ending.{gives_in, gives_outs, last_is, ends_as, ran_but_last}
use Rattle.rx_engine_extracted.specs.Reading.{runs_first}
use Rattle.rx_engine_extracted.specs.PlainEnding.{ends_given_of}
use Rattle.rx_engine_extracted.proofs.ArmLemmas.{is_so}

pub outs_by : (w : Way) (R : Renaming) (xs : List ℕ) (b : Body)
    → gives_outs w R xs b ≡ is_so (ends_given_of b) (λ g. if_these (numbers_of R xs) (λ zs. gives_in w zs g))
outs_by w R xs (tree.ends (tree.read m v p)) = refl
outs_by w R xs (tree.ends (tree.borrow m k p)) = refl
outs_by w R xs (tree.ends (tree.share m e)) = refl
outs_by w R xs (tree.ends (tree.build m v es)) = refl
outs_by w R xs (tree.ends (tree.unit m)) = refl
outs_by w R xs (tree.ends (tree.lazily m b e f)) = refl
outs_by w R xs (tree.ends (tree.assign m p e)) = refl
outs_by w R xs (tree.ends (tree.update m o p e)) = refl
outs_by w R xs (tree.ends (tree.call m f es)) = refl
outs_by w R xs (tree.ends (tree.input m)) = refl
outs_by w R xs (tree.ends (tree.print m e)) = refl
outs_by w R xs (tree.ends (tree.block m b)) = refl
outs_by w R xs (tree.ends (tree.choose m c l)) = refl
outs_by w R xs (tree.ends (tree.loop m l e)) = refl
outs_by w R xs (tree.ends (tree.jump m l k)) = refl
outs_by w R xs (tree.ends (tree.give m e)) = refl
outs_by w R xs (tree.runs e b) = refl
outs_by w R xs (tree.declares n zs b) = refl
outs_by w R xs (tree.lets n q c b) = refl

pub ruleset outs_rules = (outs_by)

pub last_by : (C : Between) (J : Jumping) (R : Renaming) (b b' : Body)
    → last_is C J R b b' ≡ is_so (runs_first b) (λ r. is_so (ends_given_of b') (λ f. is_alike (like_exp C J R r.0 f)))
last_by C J R (tree.ends e) b' = refl
last_by C J R (tree.declares n zs b) b' = refl
last_by C J R (tree.lets n q c b) b' = refl
last_by C J R (tree.runs a rest) (tree.ends (tree.read m v p)) = refl
last_by C J R (tree.runs a rest) (tree.ends (tree.borrow m k p)) = refl
last_by C J R (tree.runs a rest) (tree.ends (tree.share m e)) = refl
last_by C J R (tree.runs a rest) (tree.ends (tree.build m w es)) = refl
last_by C J R (tree.runs a rest) (tree.ends (tree.unit m)) = refl
last_by C J R (tree.runs a rest) (tree.ends (tree.lazily m b e f)) = refl
last_by C J R (tree.runs a rest) (tree.ends (tree.assign m p e)) = refl
last_by C J R (tree.runs a rest) (tree.ends (tree.update m o p e)) = refl
last_by C J R (tree.runs a rest) (tree.ends (tree.call m f es)) = refl
last_by C J R (tree.runs a rest) (tree.ends (tree.input m)) = refl
last_by C J R (tree.runs a rest) (tree.ends (tree.print m e)) = refl
last_by C J R (tree.runs a rest) (tree.ends (tree.block m t)) = refl
last_by C J R (tree.runs a rest) (tree.ends (tree.choose m c l)) = refl
last_by C J R (tree.runs a rest) (tree.ends (tree.loop m l e)) = refl
last_by C J R (tree.runs a rest) (tree.ends (tree.jump m l k)) = refl
last_by C J R (tree.runs a rest) (tree.ends (tree.give m e)) = refl
last_by C J R (tree.runs a rest) (tree.runs e b') = refl
last_by C J R (tree.runs a rest) (tree.declares n zs b') = refl
last_by C J R (tree.runs a rest) (tree.lets n q c b') = refl

pub ruleset last_rules = (last_by)

-- all but the last, where there is one
pub but_last : (C : Between) (J : Jumping) (w : Way) (xs : List ℕ) (n : ℕ) (R : Renaming) (b b' : Body) → 0 < n
    → ran_but_last C J w xs n R b b' ≡ and_then (like_first C J (n - 1) R b b') (λ p. ends_as C J w xs p)
but_last C J w xs zero R b b' some = absurd (omega arith)
but_last C J w xs (suc n) R b b' some =
    let one_less : n ≡ suc n - 1 = omega arith in ap (λ (k : ℕ). and_then (like_first C J k R b b') (λ p. ends_as C J w xs p)) one_less

pub ruleset but_rules = (but_last)
