use Rattle.rx_engine_extraction.proofs.beginning.tokens_of.Goals as goal

pub returns-in-Ok-clause-found : goal.returns-in-Ok-clause-found
returns-in-Ok-clause-found c = record { lexed = c.in-Ok.ensures.tokens; long = c.in-Ok.ensures.length; one = λ ts h. c.in-Ok.ensures.only ts h }
