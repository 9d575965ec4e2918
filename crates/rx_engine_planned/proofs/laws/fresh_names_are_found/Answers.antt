use Rattle.rx_engine_planned.proofs.laws.fresh_names_are_found.Goals as goal

pub returns : goal.returns
returns c = record {
  lifetimes = λ A bytes names t lexed parsed short meant typed declared among word q sits plan agree few. (c.named_plans_are_formed.ensures A bytes names t lexed parsed short meant typed declared among word q sits plan agree few).fresh_lifetimes;
  variable = λ A bytes names t lexed parsed short meant typed declared among word q sits plan agree few. (c.named_plans_are_formed.ensures A bytes names t lexed parsed short meant typed declared among word q sits plan agree few).fresh_variable;
}
