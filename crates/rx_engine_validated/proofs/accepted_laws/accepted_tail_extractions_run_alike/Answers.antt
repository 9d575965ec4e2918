use Rattle.rx_engine_validated.proofs.accepted_laws.accepted_tail_extractions_run_alike.Goals as goal

pub returns-clause-answer : goal.returns-clause-answer
returns-clause-answer c = λ p t few front f a r h sits tail k plan kept modes main Q x each given n found.
    c.extracted_tails_run_alike.ensures.answer _ f.mutable k (c.accepted_tails_are_had.ensures p t few front f a r h sits tail k plan kept) modes _ Q x each given n found

pub returns-clause-text : goal.returns-clause-text
returns-clause-text c = λ p t few front f a r h sits tail k plan kept modes main Q x each given n found.
    c.extracted_tails_run_alike.ensures.text _ f.mutable k (c.accepted_tails_are_had.ensures p t few front f a r h sits tail k plan kept) modes _ Q x each given n found
