use Rattle.rx_engine_initial_forms.proofs.Places.{read_copy, borrow_copy, test_copy, write_copy}
use Rattle.rx_engine_initial_forms.proofs.laws.alike_places_are_copies.Goals as goal

pub returns : goal.returns
returns c = record {
  reads = λ S N R g u p q l v z m d t. read_copy S N R g l v z m d t;
  borrows = λ S N R g u p q l v z d t. borrow_copy S N R g l v z d t;
  tests = λ S N R g u p q l c e. test_copy S N R g l c e;
  writes = λ S N R g u p q l d t. write_copy S N R g l d t;
}
