use Rattle.rx_meaning_covered.proofs.Running.{arm_turns, let_leads, takes_an_arm}
use Rattle.rx_meaning_covered.proofs.laws.covered_choices_take_an_arm.Goals as goal

pub returns : goal.returns
returns c = record {
  takes = λ N T free St s x vs K t r fits plain l ch a. takes_an_arm N T free St s x vs K t r fits plain l ch a;
  leads = λ N T free St s x vs K t r fits plain l ch p arm. arm_turns N T free St s x vs K t r fits plain l ch p arm;
  lets = λ N T free St s x vs K t r fits plain p ch. let_leads N T free St s x vs K t r fits plain p ch;
}
