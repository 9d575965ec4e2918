-- Each kind of part by its induction.
use Rattle.std.proofs.Common.{sym}
use Rattle.rx_parse_laws.proofs.SameWords.{told}
use Rattle.rx_parse_laws.proofs.ExpressionsAgain.{like_again, label_again, test_again, if_again, else_again, arms_again, block_again, statement_again, statements_again, begins_again}
use Rattle.rx_parse_laws.proofs.TypesAgain.{annotation_again}
use Rattle.rx_parse_laws.proofs.laws.blocks_speak_of_words.Goals as goal

pub returns-clause-likes : goal.returns-clause-likes
returns-clause-likes c = λ h ts us x e d. told (like_again d us e)

pub returns-clause-labels : goal.returns-clause-labels
returns-clause-labels c = λ ts us x e d. told (label_again d us e)

pub returns-clause-tests : goal.returns-clause-tests
returns-clause-tests c = λ h ts us x e d. told (test_again d us e)

pub returns-clause-ifs : goal.returns-clause-ifs
returns-clause-ifs c = λ h ts us x e d. told (if_again d us e)

pub returns-clause-elses : goal.returns-clause-elses
returns-clause-elses c = λ h ts us x e d. told (else_again d us e)

pub returns-clause-arms : goal.returns-clause-arms
returns-clause-arms c = λ h ts us x e d. told (arms_again d us e)

pub returns-clause-blocks : goal.returns-clause-blocks
returns-clause-blocks c = λ h ts us x e d. told (block_again d us e)

pub returns-clause-annotations : goal.returns-clause-annotations
returns-clause-annotations c = λ h ts us x e d. told (annotation_again d us e)

pub returns-clause-statement : goal.returns-clause-statement
returns-clause-statement c = λ h ts us x e d. told (statement_again d us e)

pub returns-clause-statements : goal.returns-clause-statements
returns-clause-statements c = λ h ts us x e d. told (statements_again d us e)

pub returns-clause-begins : goal.returns-clause-begins
returns-clause-begins c = λ ts us e b. begins_again ts us (sym e) b
