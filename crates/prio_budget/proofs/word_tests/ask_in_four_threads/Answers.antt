use Rattle.prio_budget.proofs.TestLemmas.{all_back}
use Rattle.prio_budget.proofs.word_tests.ask_in_four_threads.Goals as goal

pub close-requires : goal.close-requires
close-requires g c =
    c.gather-4.ensures.all_in (all_back
    c.named-word.ensures
    c.home-one.ensures.kept c.home-one.ensures.given c.home-two.ensures.kept c.home-two.ensures.given
    c.home-three.ensures.kept c.home-three.ensures.given c.home-four.ensures.kept c.home-four.ensures.given
    c.join-left.ensures.first.0 c.join-left.ensures.first.1 c.join-left.ensures.second.0 c.join-left.ensures.second.1
    c.gather.ensures.gathered c.gather-2.ensures.gathered c.gather-3.ensures.gathered c.gather-4.ensures.gathered)
